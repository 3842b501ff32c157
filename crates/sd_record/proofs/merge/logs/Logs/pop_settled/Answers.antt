use Rattle.std.proofs.Common.{ap, sym, subst, ◌∙◌, List, set}
use Rattle.sd_record.specs.merge.Queues.{PopsSettled, Queue}
use Rattle.sd_record.proofs.merge.Popping.{popped}
use Rattle.sd_record.proofs.merge.Turning.{first_least, no_logs, none_pops}
use Rattle.sd_record.proofs.merge.logs.Logs.pop_settled.Goals as goal

pub returns-in_default : goal.returns-in_default
returns-in_default c =
    none_pops c.args.self.now (sym c.self.view_is ∙ no_logs c.self.inside.turns c.self.inside.logs.items c.self.invariant c.in_default.ensures.none)

pub returns : goal.returns
returns c =
    let logs = c.self.inside.logs.items in
    let log = c.index_mut-log.result.now in
    let is = c.index_mut-log.ensures.value in
    subst (λ (old : List Queue). PopsSettled old (set logs c.in-Some.turn.place c.pop-line.new.self) c.pop-line.result) c.self.view_is
    (popped logs c.in-Some.turn.place log (first_least c.self.inside.turns logs c.self.invariant c.in-Some.turn c.in-Some.ensures.first) c.pop-line.new.self
    c.pop-line.result (ap (λ (q : Queue). q.waiting) (sym is) ∙ c.pop-line.ensures.lines) (c.pop-line.ensures.same ∙ ap (λ (q : Queue). q.from) is)
    (λ none. ap (λ (q : Queue). q.waiting) (sym is) ∙ c.pop-line.ensures.none none))
