-- What failed in a part of a run that recovers: things of the domain alone. And where nothing closes, what is not among what failed in the era
-- never failed.
use Rattle.std.specs.Prelude.{◌≡◌, ℕ, Bool, true, false, ◌&&◌, ◌||◌, not, List, [], ◌∷◌, filter_map, nat_eq, Option, Some, None, refl, if◌then◌else◌}
use Rattle.std.specs.List.{list_all, list_any, cons_option}
use Rattle.std.proofs.Common.{sym, ap, subst, inl, inr}
use Rattle.std.proofs.lemmas.Bool.{and_parts, and_from, or_parts, or_from}
use Rattle.sd_num.specs.Lists.{map_or, leading}
use Rattle.sd_plan.specs.topo.Network.{Network}
use Rattle.sd_plan.specs.declared.topo.Thing.{Thing}
use Rattle.sd_plan.specs.domain.Domains.{holds}
use Rattle.sd_plan.specs.domain.Things.{same_thing}
use Rattle.sd_plan.specs.declared.domain.DomainId.{DomainId}
use Rattle.sd_sched.specs.Events.{reference_of}
use Rattle.sd_history.specs.Things.{failure_of}
use Rattle.sd_history.specs.World.{Seen, fails}
use Rattle.sd_history.specs.Premises.{failures_since_closing}
use Rattle.sd_safety.specs.invariant.Eras.{is_among}
use Rattle.sd_bound.specs.Bound.{failures, FailsSo}

module _ (net : Network) (f : DomainId) where
  -- what the event fails is a thing of the domain
  abbrev pub fails_within : Seen → Bool
  fails_within s = map_or (failure_of s.event) true (holds net f)

  held_each : (p : Thing × ℕ → Bool) → ((y : Thing × ℕ) → p y ≡ true → holds net f y.0 ≡ true) → (seen : List Seen) → list_all p (failures seen) ≡ true
      → list_all fails_within seen ≡ true
  held_each p holds_ [] all = refl
  held_each p holds_ (s ∷ seen) all = go (held_each p holds_ seen) (failure_of s.event) refl all
    where
      go : (list_all p (failures seen) ≡ true → list_all fails_within seen ≡ true) → (o : Option Thing) → failure_of s.event ≡ o
          → list_all p (cons_option (map_or o None (λ x. Some (x, reference_of s.event))) (failures seen)) ≡ true → list_all fails_within (s ∷ seen) ≡ true
      go rest None is all' = and_from (fails_within s) (list_all fails_within seen) (ap (λ o. map_or o true (holds net f)) is) (rest all')
      go rest (Some x) is all' =
          let parts = and_parts (p (x, reference_of s.event)) (list_all p (failures seen)) all' in
          and_from (fails_within s) (list_all fails_within seen)
          (subst (λ o. map_or o true (holds net f) ≡ true) (sym is) (holds_ (x, reference_of s.event) parts.0)) (rest parts.1)

  pub all_within : (seen : List Seen) → FailsSo net f seen → list_all fails_within seen ≡ true
  all_within seen (inl none) = held_each (λ y. holds net f y.0) (λ y is. is) seen (ap (λ (ys : List (Thing × ℕ)). list_all (λ y. holds net f y.0) ys) none)
  all_within seen (inr at) =
      held_each (λ y. holds net f y.0 && nat_eq y.1 at.0) (λ y is. (and_parts (holds net f y.0) (nat_eq y.1 at.0) is).0) seen at.1.only

  pub era_within : (seen : List Seen) → list_all fails_within seen ≡ true → list_all (holds net f) (failures_since_closing seen) ≡ true
  era_within [] all = refl
  era_within (s ∷ seen) all =
      let parts = and_parts (fails_within s) (list_all fails_within seen) all in
      go s.closed (failure_of s.event) refl parts.0 (era_within seen parts.1)
    where
      one : (o : Option Thing) (xs : List Thing) → map_or o true (holds net f) ≡ true → list_all (holds net f) xs ≡ true
          → list_all (holds net f) (cons_option o xs) ≡ true
      one None xs here rest = rest
      one (Some x) xs here rest = and_from (holds net f x) (list_all (holds net f) xs) here rest

      go : (c : Bool) (o : Option Thing) → failure_of s.event ≡ o → fails_within s ≡ true → list_all (holds net f) (failures_since_closing seen) ≡ true
          → list_all (holds net f) (filter_map (λ x. failure_of x.event) (if not c then s ∷ leading (λ x. not x.closed) seen else [])) ≡ true
      go true o is here rest = refl
      go false o is here rest = one (failure_of s.event) (failures_since_closing seen) here rest

-- what is not among what failed in the era never failed, where nothing closed
pub never_failed : (x : Thing) (seen : List Seen) → list_any (λ s. s.closed) seen ≡ false → is_among (failures_since_closing seen) x ≡ false
    → list_any (λ s. fails x s.event) seen ≡ false
never_failed x [] open_ none = refl
never_failed x (s ∷ seen) open_ none =
    let parts = or_parts s.closed (list_any (λ y. y.closed) seen) open_ in
    go s.closed parts.0 none (never_failed x seen parts.1)
  where
    one : (o : Option Thing) (xs : List Thing) → is_among (cons_option o xs) x ≡ false → (map_or o false (same_thing x) ≡ false) × (is_among xs x ≡ false)
    one None xs none' = (refl, none')
    one (Some y) xs none' = or_parts (same_thing x y) (list_any (same_thing x) xs) none'

    go : (c : Bool) → c ≡ false → is_among (filter_map (λ y. failure_of y.event) (if not c then s ∷ leading (λ y. not y.closed) seen else [])) x ≡ false
        → (is_among (failures_since_closing seen) x ≡ false → list_any (λ y. fails x y.event) seen ≡ false)
        → (fails x s.event || list_any (λ y. fails x y.event) seen) ≡ false
    go true is none' rest = cc
    go false is none' rest =
        let both = one (failure_of s.event) (failures_since_closing seen) none' in
        or_from (fails x s.event) (list_any (λ y. fails x y.event) seen) both.0 (rest both.1)

-- Where nothing failed

-- nothing failed before
pub none_failed_before : (s : Seen) (seen : List Seen) → failures (s ∷ seen) ≡ [] → (failure_of s.event ≡ None) × (failures seen ≡ [])
none_failed_before s seen none = go (failure_of s.event) none
  where
    go : (o : Option Thing) → cons_option (map_or o None (λ x. Some (x, reference_of s.event))) (failures seen) ≡ [] → (o ≡ None) × (failures seen ≡ [])
    go None rest = (refl, rest)
    go (Some x) rest = cc

-- nothing failed in the era
pub none_failed_now : (seen : List Seen) → failures seen ≡ [] → failures_since_closing seen ≡ []
none_failed_now [] none = refl
none_failed_now (s ∷ seen) none =
    let both = none_failed_before s seen none in
    go s.closed both.0 (none_failed_now seen both.1)
  where
    go : (c : Bool) → failure_of s.event ≡ None → failures_since_closing seen ≡ []
        → filter_map (λ x. failure_of x.event) (if not c then s ∷ leading (λ x. not x.closed) seen else []) ≡ []
    go true is rest = refl
    go false is rest = subst (λ o. cons_option o (failures_since_closing seen) ≡ []) (sym is) rest

-- and no device ever failed
pub none_ever_failed : (x : Thing) (seen : List Seen) → failures seen ≡ [] → list_any (λ s. fails x s.event) seen ≡ false
none_ever_failed x [] none = refl
none_ever_failed x (s ∷ seen) none =
    let both = none_failed_before s seen none in
    or_from (fails x s.event) (list_any (λ y. fails x y.event) seen) (ap (λ o. map_or o false (same_thing x)) both.0) (none_ever_failed x seen both.1)
