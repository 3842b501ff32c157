use Rattle.std.proofs.Common.{◌≡◌, ◌<◌, ◌+◌, ℕ, List, length, Some, get_or, slice_get, sym, ◌∙◌, subst, arith, inl, inr}
use Rattle.std.proofs.lemmas.Bool.{cases_lt}
use Rattle.std.proofs.lemmas.Option.{slice_get-get_or, slice_get_within, same_Some}
use Rattle.sd_checker.specs.check_reach.Aftermaths.{net_of, plan_of, domain_of}
use Rattle.sd_checker.specs.check_reach.Reached.{Reaches}
use Rattle.sd_checker.proofs.check_reach.aftermath.Aftermath.first_uncut.Goals as goal

pub returns-then-finds-clause-first : goal.returns-then-finds-clause-first
returns-then-finds-clause-first c =
    let k = c.loop-d.d-index in
    let xs = c.args.candidates.now in
    let inside : k < length xs = omega arith in (
      k,
      slice_get-get_or xs k 0 inside,
      c.finds.ensures.met c.if-finds.true,
      λ j e less at. c.loop-d.invariant.passed j e less at,
    )

-- one candidate more does not have the property
passed_on : (P : ℕ → Type 0) (xs : List ℕ) (k d : ℕ) → slice_get xs k ≡ Some d → ¬ P d → ((j e : ℕ) → j < k → slice_get xs j ≡ Some e → ¬ P e)
    → (j e : ℕ) → j < k + 1 → slice_get xs j ≡ Some e → ¬ P e
passed_on P xs k d at lacks before j e less is =
    elim (cases_lt j k) [
      | inl lower ↦ before j e lower is
      | inr last ↦
          (let same : j ≡ k = omega arith in
          subst (λ x. ¬ P x) (same_Some d e (sym at ∙ subst (λ i. slice_get xs i ≡ Some e) same is)) lacks)
    ]

pub loop-d-preserved : goal.loop-d-preserved
loop-d-preserved c =
    let o = c.args.self.now in
    let k = c.loop-d.d-index in
    let xs = c.args.candidates.now in
    let inside : k < length xs = omega arith in
    record {
      search = record { dry = c.finds.ensures.dry c.if-finds.false; home = c.finds.ensures.home; trusted = c.loop-d.invariant.search.trusted };
      room = record { devices = c.finds.ensures.room ∙ c.loop-d.invariant.room.devices; home = c.finds.ensures.home_room ∙ c.loop-d.invariant.room.home };
      passed = passed_on (Reaches (net_of o) (plan_of o) (domain_of o)) xs k (get_or xs k 0) (slice_get-get_or xs k 0 inside)
          (c.finds.ensures.cut c.if-finds.false) c.loop-d.invariant.passed;
    }

pub returns-clause-first : goal.returns-clause-first
returns-clause-first c =
    λ i d at.
    let within : i < length c.args.candidates.now = slice_get_within c.args.candidates.now i d at in
    c.loop-d.invariant.passed i d (omega arith) at

pub finds-requires-clause-device : goal.finds-requires-clause-device
finds-requires-clause-device c =
    let k = c.loop-d.d-index in
    let xs = c.args.candidates.now in
    let inside : k < length xs = omega arith in
    c.requires.devices k (get_or xs k 0) (slice_get-get_or xs k 0 inside)

pub finds-requires-clause-sound : goal.finds-requires-clause-sound
finds-requires-clause-sound c =
    let k = c.loop-d.d-index in
    let xs = c.args.candidates.now in
    let inside : k < length xs = omega arith in
    c.requires.sound k (get_or xs k 0) (slice_get-get_or xs k 0 inside)
