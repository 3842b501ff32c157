use Rattle.std.proofs.Common.{sym, ap, ◌∙◌, ◌&&◌, not, nat_eq, find, ℕ}
use Rattle.sd_num.proofs.Firsts.{find_more, find_here}
use Rattle.sd_planner.specs.Usable.{takes_part}
use Rattle.sd_planner.specs.Views.{net_of, left_out}
use Rattle.sd_planner.proofs.roots.first_candidate.Goals as goal

pub returns-then-may_be_backup_root : goal.returns-then-may_be_backup_root
returns-then-may_be_backup_root c =
    let test = λ (d : ℕ). takes_part (net_of c.args.present.now) (left_out c.args.present.now) d && not (nat_eq d c.args.root) in
    sym (find_here test c.roots-d-items.result.now c.loop-d.d-index _ c.loop-d-test.true c.loop-d.invariant
    (sym c.may_be_backup_root.ensures ∙ c.if-may_be_backup_root.true)) ∙ ap (find test) c.roots-d-items.ensures

pub loop-d-preserved : goal.loop-d-preserved
loop-d-preserved c =
    find_more (λ d. takes_part (net_of c.args.present.now) (left_out c.args.present.now) d && not (nat_eq d c.args.root)) c.roots-d-items.result.now
    c.loop-d.d-index _ c.loop-d-test.true c.loop-d.invariant (sym c.may_be_backup_root.ensures ∙ c.if-may_be_backup_root.false)
