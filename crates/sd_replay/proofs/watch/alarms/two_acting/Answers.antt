-- The devices before this one that act are none or one.
use Rattle.std.proofs.Common.{ℕ, Option, option_to_list, ◌++◌, ◌∷◌, [], sym, ap, ◌∙◌}
use Rattle.sd_replay.proofs.watch.Acting.{acts_at, one_passes, one_fails, second_found}
use Rattle.sd_replay.proofs.watch.alarms.two_acting.Goals as goal
use Rattle.sd_replay.proofs.watch.alarms.two_acting.Goals.{then-acts+in-None, else-acts}

pub returns-in-Some : goal.returns-in-Some
returns-in-Some c =
    sym (second_found _ c.in-Some.least c.loop-d.d _ c.loop-d-test.true (c.loop-d.invariant ∙ ap (λ (o : Option ℕ). option_to_list o) c.in-Some.is)
    (acts_at c.args.acting.now c.loop-d.d c.loop-d-test.true ∙ c.if-acts.true))

pub loop-d-preserved : goal.loop-d-preserved
loop-d-preserved c = elim c.if-acts.branch [
  | then-acts+in-None w ↦
      one_passes _ c.loop-d.d (acts_at c.args.acting.now c.loop-d.d c.loop-d-test.true ∙ w.if-acts.true)
      ∙ ap (λ xs. xs ++ c.loop-d.d ∷ []) (c.loop-d.invariant ∙ ap (λ (o : Option ℕ). option_to_list o) w.in-None.is)
      ∙ ap (λ (o : Option ℕ). option_to_list o) (sym w.first-is)
  | else-acts w ↦
      one_fails _ c.loop-d.d (acts_at c.args.acting.now c.loop-d.d c.loop-d-test.true ∙ w.if-acts.false)
      ∙ c.loop-d.invariant ∙ ap (λ (o : Option ℕ). option_to_list o) (sym w.first-is)
]
