-- What failed in the era lies in one domain of the network, and what it hits that domain hits.
use Rattle.std.specs.Prelude.{◌≡◌, ℕ, Bool, true, false, not, List, [], ◌∷◌, ◌++◌, find, filter_map, Option, Some, None, option_to_list, refl, if◌then◌else◌}
use Rattle.std.specs.List.{list_all, cons_option}
use Rattle.std.proofs.Common.{sym, subst}
use Rattle.std.proofs.lemmas.Bool.{and_parts}
use Rattle.sd_num.specs.Lists.{leading}
use Rattle.sd_plan.specs.topo.Network.{Network}
use Rattle.sd_plan.specs.declared.topo.Thing.{Thing}
use Rattle.sd_plan.specs.domain.Things.{same_thing}
use Rattle.sd_plan.specs.domain.Domains.{holds, hits, domains, within_one}
use Rattle.sd_plan.specs.declared.domain.DomainId.{DomainId}
use Rattle.sd_plan.specs.Walks.{epath, is_hit}
use Rattle.sd_plan.proofs.domain.Within.{same_thing-true}
use Rattle.sd_history.specs.Things.{failure_of}
use Rattle.sd_history.specs.World.{Setting, Seen}
use Rattle.sd_history.specs.Steps.{Step, seen_of}
use Rattle.sd_history.specs.Premises.{domain_holds, fails_within_one, failures_since_closing}
use Rattle.sd_history.proofs.Among.{Among, first, later, passes, any_passing}
use Rattle.sd_history.proofs.Given.{some_is}
use Rattle.sd_history.proofs.Known.{has_some}
use Rattle.sd_safety.specs.invariant.Eras.{failed_now, is_among, touches, plan_now, hit}
use Rattle.sd_safety.proofs.invariant.Prefix.{Passing, some_passing}

found_when : {A : Type 0} (p : A → Bool) (x y : A) (xs : List A) (b : Bool) → p y ≡ b → (find p xs ≡ Some x → Among x xs × (p x ≡ true))
    → (if b then Some y else find p xs) ≡ Some x
    → Among x (y ∷ xs) × (p x ≡ true)
found_when p x y xs true is rest same = let equal : y ≡ x = some_is same in (subst (λ z. Among z (y ∷ xs)) equal first, subst (λ z. p z ≡ true) equal is)
found_when p x y xs false is rest same = let both = rest same in (later both.0, both.1)

pub found_passing : {A : Type 0} (p : A → Bool) (x : A) (xs : List A) → find p xs ≡ Some x → Among x xs × (p x ≡ true)
found_passing p x [] same = cc
found_passing p x (y ∷ xs) same = found_when p x y xs (p y) refl (found_passing p x xs) same

-- a domain of the network that has all that failed in the era
pub record Holding (setting : Setting) (steps : List Step) : Type 0 where
  pub domain : DomainId
  pub among : Among domain (domains setting.net)
  pub all : list_all (holds setting.net domain) (failed_now steps) ≡ true

held_one : (p : Thing → Bool) (o : Option Thing) (xs : List Thing) → list_all p (option_to_list o ++ xs) ≡ true → list_all p (cons_option o xs) ≡ true
held_one p None xs all = all
held_one p (Some x) xs all = all

held_when : (p : Thing → Bool) (s : Seen) (seen : List Seen) (b : Bool) → list_all p (option_to_list (failure_of s.event) ++ failures_since_closing seen) ≡ true
    → list_all p (filter_map (λ x. failure_of x.event) (if b then s ∷ leading (λ x. not x.closed) seen else [])) ≡ true
held_when p s seen true all = held_one p (failure_of s.event) (failures_since_closing seen) all
held_when p s seen false all = refl

pub holding : (setting : Setting) (s : Step) (earlier : List Step) → domain_holds setting (seen_of (s ∷ earlier)) ≡ true → Holding setting (s ∷ earlier)
holding setting s earlier holds_ =
    let now : fails_within_one setting s.seen (seen_of earlier) ≡ true =
    (and_parts (domain_holds setting (seen_of earlier)) (fails_within_one setting s.seen (seen_of earlier)) holds_).1 in
    let things : List Thing = option_to_list (failure_of s.seen.event) ++ failures_since_closing (seen_of earlier) in
    let one = has_some (within_one setting.net things) now in
    let both = found_passing (λ f. list_all (holds setting.net f) things) one.0 (domains setting.net) one.1 in
    record { domain = one.0; among = both.0; all = held_when (holds setting.net one.0) s.seen (seen_of earlier) (not s.seen.closed) both.1 }

-- Hits

pub held : (net : Network) (f : DomainId) (failed : List Thing) (x : Thing) → list_all (holds net f) failed ≡ true → is_among failed x ≡ true
    → holds net f x ≡ true
held net f failed x all in_ =
    let found : Passing (same_thing x) failed = some_passing (same_thing x) failed in_ in
    subst (λ y. holds net f y ≡ true) (sym (same_thing-true x found.one found.passed)) (passes (holds net f) found.there all)

-- what the failed touch their domain hits
pub touched_is_hit : (net : Network) (f : DomainId) (failed things : List Thing) → list_all (holds net f) failed ≡ true → touches failed things ≡ true
    → hits net f things ≡ true
touched_is_hit net f failed things all touched =
    let found : Passing (is_among failed) things = some_passing (is_among failed) things touched in
    any_passing (holds net f) found.one things found.there (held net f failed found.one all found.passed)

pub hit_is_hit : (setting : Setting) (steps : List Step) (h : Holding setting steps) (d : ℕ) → hit setting steps d ≡ true
    → is_hit setting.net (plan_now setting steps) h.domain d ≡ true
hit_is_hit setting steps h d touched =
    touched_is_hit setting.net h.domain (failed_now steps) (epath setting.net (plan_now setting steps) d) h.all touched
