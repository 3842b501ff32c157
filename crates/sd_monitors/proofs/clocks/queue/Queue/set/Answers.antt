use Rattle.std.proofs.Common.{◌≡◌, ℕ, ◌<◌, true, false, List, [], ◌∷◌, ◌++◌, length, get_or, set, sym, ap, ◌∙◌, subst, arith, length-set}
use Rattle.std.proofs.lemmas.List.{map-set, set-get_or, get_or-map}
use Rattle.sd_monitors.specs.declared.clocks.queue.Entry.{Entry}
use Rattle.sd_monitors.specs.declared.clocks.queue.Mark.{Mark}
use Rattle.sd_monitors.specs.clocks.Queues.{ascend, are_at_most, is_queued_at}
use Rattle.sd_monitors.proofs.clocks.Queueing.{ascend_more, most_more, numbers_length, queued_written, others_written}
use Rattle.sd_monitors.proofs.clocks.queue.Queue.set.Goals as goal

pub returns-then-index-number : goal.returns-then-index-number
returns-then-index-number c =
    let marks = c.self.inside.marks.items in
    let inside : c.args.place < length marks =
    subst (λ (n : ℕ). c.args.place < n) (numbers_length marks) (subst (λ (xs : List ℕ). c.args.place < length xs) (sym c.self.view_is) c.requires) in
    let here : get_or c.args.self.now c.args.place 0 ≡ c.args.number =
    ap (λ (xs : List ℕ). get_or xs c.args.place 0) (sym c.self.view_is)
    ∙ get_or-map (λ (m : Mark). m.number) marks c.args.place c.index.result.now 0 inside
    ∙ ap (λ (m : Mark). m.number) (sym c.index.ensures) ∙ c.if-index-number.true in
    sym (ap (set c.args.self.now c.args.place) (sym here) ∙ set-get_or c.args.self.now c.args.place 0)

pub invariant_of-self : goal.invariant_of-self
invariant_of-self c =
    let marks = c.self.inside.marks.items in
    let old = c.self.inside.entries.items in
    let entry : Entry = record { place = c.args.place; number = c.args.number } in
    let items : c.push_back_reserved.new.self.items ≡ old ++ entry ∷ [] = c.push_back_reserved.ensures.items in
    let was = c.self.invariant in
    let inside : c.args.place < length marks =
    subst (λ (n : ℕ). c.args.place < n) (numbers_length marks) (subst (λ (xs : List ℕ). c.args.place < length xs) (sym c.self.view_is) c.requires) in
    record {
      few = omega (arith, was.few, length-set marks c.args.place (record { number = c.args.number; queued = true }));
      order = subst (λ (es : List Entry). ascend es ≡ true) (sym items)
          (ascend_more old entry c.self.inside.latest was.order was.most c.if-number-self.true);
      most = subst (λ (es : List Entry). are_at_most c.args.number es ≡ true) (sym items)
          (most_more old entry c.self.inside.latest was.most c.if-number-self.true);
      queued = λ k within is.
          subst (λ (es : List Entry). is_queued_at (set marks c.args.place (record { number = c.args.number; queued = true })) k es ≡ true) (sym items)
          (queued_written marks c.args.place c.args.number inside old was.queued k within is);
      others = others_written marks c.args.place c.args.number inside c.self.inside.least was.others;
    }

pub returns-then-len-capacity : goal.returns-then-len-capacity
returns-then-len-capacity c =
    map-set (λ (m : Mark). m.number) c.self.inside.marks.items c.args.place (record { number = c.args.number; queued = true })
    ∙ ap (λ (xs : List ℕ). set xs c.args.place c.args.number) c.self.view_is

pub returns-else-number-self : goal.returns-else-number-self
returns-else-number-self c =
    map-set (λ (m : Mark). m.number) c.self.inside.marks.items c.args.place (record { number = c.args.number; queued = false })
    ∙ ap (λ (xs : List ℕ). set xs c.args.place c.args.number) c.self.view_is
