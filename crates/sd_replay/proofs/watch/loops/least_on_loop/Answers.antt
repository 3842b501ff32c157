-- Once the walk has gone round, or has made as many steps as there are devices, each device of the loop was passed.
use Rattle.std.proofs.Common.{◌≡◌, ◌+◌, ◌≤◌, ℕ, Some, min, add-one, refl, sym, ap, ◌∙◌, arith, inl, inr, subst}
use Rattle.std.proofs.lemmas.Bool.{cases_lt}
use Rattle.std.proofs.lemmas.Option.{none-some, same_Some}
use Rattle.sd_num.specs.Lists.{follow}
use Rattle.sd_replay.specs.watch.Watch.{parent_in, IsOnLoop}
use Rattle.sd_replay.proofs.watch.Following.{one_more, has_parent, led_on_loop}
use Rattle.sd_replay.proofs.watch.Settling.{only_within, settled_round}
use Rattle.sd_replay.proofs.watch.Within.{back_within}
use Rattle.sd_replay.proofs.watch.loops.least_on_loop.Goals as goal

pub returns-in_default-clause-least : goal.returns-in_default-clause-least
returns-in_default-clause-least c =
    let parent = parent_in c.args.parents.now in
    settled_round parent (Some c.round.least) c.round.least refl c.round.counter c.args.d
    (one_more parent c.round.counter c.args.d c.round.here c.round.invariant.here ∙ sym c.in-Some.ensures ∙ ap Some c.if-parent-d.false)
    c.round.invariant.least

pub returns-in_default-2-clause-least : goal.returns-in_default-2-clause-least
returns-in_default-2-clause-least c =
    let next = has_parent (parent_in c.args.parents.now) c.round.here
    (led_on_loop (parent_in c.args.parents.now) c.round.counter c.args.d c.round.here c.round.invariant.here c.requires) in
    absurd (none-some next.0 (c.in_default.ensures ∙ next.1))

pub round-preserved : goal.round-preserved
round-preserved c =
    let parent = parent_in c.args.parents.now in
    let here : follow parent (c.round.counter + 1) c.args.d ≡ Some c.in-Some.parent =
    ap (λ n. follow parent n c.args.d) (add-one c.round.counter) ∙ one_more parent c.round.counter c.args.d c.round.here c.round.invariant.here
    ∙ sym c.in-Some.ensures in
    record {
      here = here;
      on_loop = either (IsOnLoop parent) c.round.least c.in-Some.parent c.min-least.result c.min-least.ensures c.round.invariant.on_loop
          (led_on_loop parent (c.round.counter + 1) c.args.d c.in-Some.parent here c.requires);
      least = λ k e within at. elim (cases_lt c.round.counter k) [
        | inl last ↦
            let same : c.round.counter + 1 ≡ k = omega arith in
            let last : c.in-Some.parent ≡ e = same_Some c.in-Some.parent e (sym here ∙ ap (λ n. follow parent n c.args.d) same ∙ at) in
            omega (arith, c.min-least.ensures)
        | inr earlier ↦ (let above : c.round.least ≤ e = c.round.invariant.least k e earlier at in omega (arith, c.min-least.ensures))
      ];
    }
  where
    either : (P : ℕ → Type 0) (a b m : ℕ) → m ≡ min a b → P a → P b → P m
    either P a b m is at_a at_b = elim (cases_lt a b) [
      | inl less ↦ (let same : a ≡ m = omega arith in subst P same at_a)
      | inr more ↦ (let same : b ≡ m = omega arith in subst P same at_b)
    ]

pub returns-clause-least : goal.returns-clause-least
returns-clause-least c =
    let back = back_within (parent_in c.args.parents.now) c.args.d _ (only_within c.args.parents.now) c.requires in
    settled_round (parent_in c.args.parents.now) (Some c.round.least) c.round.least refl back.0 c.args.d back.2
    (λ j e within at. c.round.invariant.least j e (omega (arith, back.1)) at)
