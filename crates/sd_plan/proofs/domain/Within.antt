-- Within one domain: for callers, whose lists of things have the things of a failure in another order.
use Rattle.std.proofs.Common.{◌≡◌, ℕ, Bool, true, false, ◌||◌, List, [], ◌∷◌, map, find, nat_eq, refl, sym, ap, ◌∙◌}
use Rattle.std.specs.List.{list_any}
use Rattle.std.specs.Ordering.{nat_cmp}
use Rattle.std.specs.FinSet as set
use Rattle.std.proofs.lemmas.Bool.{eqb-true, eq-eqb}
use Rattle.std.proofs.lemmas.List.Folds.{list_any-append}
use Rattle.std.proofs.Math.Bool.{or-false}
use Rattle.sd_plan.specs.topo.Network.{Network}
use Rattle.sd_plan.specs.declared.topo.Thing.{Thing}
use Rattle.sd_plan.specs.declared.topo.Thing.TheVariants as thing
use Rattle.sd_plan.specs.domain.Domains.{domains, holds, within_one}
use Rattle.sd_plan.specs.domain.Failures.{FailedThings, nothing_of, with_thing, has_thing, things_of}
use Rattle.sd_plan.specs.domain.Things.{same_thing}
use Rattle.sd_plan.proofs.domain.Members.{list_all_same, contains-among, contains-insert-nat}

-- things that pass the test are one thing
pub same_thing-true : (x y : Thing) → same_thing x y ≡ true → x ≡ y
same_thing-true (thing.Device d) (thing.Device e) same = ap thing.Device (eqb-true d e same)
same_thing-true (thing.Device d) (thing.Link m) same = cc
same_thing-true (thing.Link l) (thing.Device e) same = cc
same_thing-true (thing.Link l) (thing.Link m) same = ap thing.Link (eqb-true l m same)

-- a thing passes the test with itself
same_thing-itself : (x : Thing) → same_thing x x ≡ true
same_thing-itself (thing.Device d) = eq-eqb d d refl
same_thing-itself (thing.Link l) = eq-eqb l l refl

-- nothing has failed at first
pub has_thing-nothing_of : (devices links : ℕ) (x : Thing) → has_thing (nothing_of devices links) x ≡ false
has_thing-nothing_of devices links (thing.Device d) = set.contains-empty nat_cmp d
has_thing-nothing_of devices links (thing.Link l) = set.contains-empty nat_cmp l

-- what has failed with one thing more
pub has_thing-with_thing : (failed : FailedThings) (y x : Thing) → has_thing (with_thing failed y) x ≡ (same_thing x y || has_thing failed x)
has_thing-with_thing failed (thing.Device e) (thing.Device d) = contains-insert-nat failed.devices e d
has_thing-with_thing failed (thing.Device e) (thing.Link l) = refl
has_thing-with_thing failed (thing.Link m) (thing.Device d) = refl
has_thing-with_thing failed (thing.Link m) (thing.Link l) = contains-insert-nat failed.links m l

-- a test of what elements are made into
list_any-map : {X Y : Type 0} (test : Y → Bool) (make : X → Y) (xs : List X) → list_any test (map make xs) ≡ list_any (λ x. test (make x)) xs
list_any-map test make [] = refl
list_any-map test make (x ∷ xs) = ap (λ b. test (make x) || b) (list_any-map test make xs)

-- no element passes a test that none passes
none_passes : (xs : List ℕ) → list_any (λ x. false) xs ≡ false
none_passes [] = refl
none_passes (x ∷ xs) = none_passes xs

-- the listed things are those that have failed
pub list_any-things_of : (failed : FailedThings) (x : Thing) → list_any (same_thing x) (things_of failed) ≡ has_thing failed x
list_any-things_of failed x = list_any-append (same_thing x) (map thing.Device (set.items failed.devices)) (map thing.Link (set.items failed.links)) ∙ by_kind x
  where
    by_kind : (x : Thing)
        → (list_any (same_thing x) (map thing.Device (set.items failed.devices)) || list_any (same_thing x) (map thing.Link (set.items failed.links)))
        ≡ has_thing failed x
    by_kind (thing.Device d) =
        (λ i. list_any-map (same_thing (thing.Device d)) thing.Device (set.items failed.devices) i
        || list_any-map (same_thing (thing.Device d)) thing.Link (set.items failed.links) i)
        ∙ rw none_passes (or-false (list_any (nat_eq d) (set.items failed.devices))) ∙ sym (contains-among failed.devices d)
    by_kind (thing.Link l) =
        (λ i. list_any-map (same_thing (thing.Link l)) thing.Device (set.items failed.devices) i
        || list_any-map (same_thing (thing.Link l)) thing.Link (set.items failed.links) i)
        ∙ rw none_passes (sym (contains-among failed.links l))

-- lists of the same things lie within the same first domain
pub within_one_same : (net : Network) (xs ys : List Thing) → ((x : Thing) → list_any (same_thing x) xs ≡ list_any (same_thing x) ys)
    → within_one net xs ≡ within_one net ys
within_one_same net xs ys same = λ i. find (λ f. list_all_same same_thing same_thing-true same_thing-itself (holds net f) xs ys same i) (domains net)

-- so a failure may be judged by any list of its things
pub within_one-listed : (net : Network) (failed : FailedThings) (things : List Thing) → ((x : Thing) → has_thing failed x ≡ list_any (same_thing x) things)
    → within_one net (things_of failed) ≡ within_one net things
within_one-listed net failed things same = within_one_same net (things_of failed) things (λ x. list_any-things_of failed x ∙ same x)
