-- Lists of causes that name the same ones and are decided alike.
use Rattle.std.specs.Prelude.{◌≡◌, ℕ, ◌<◌, Bool, true, false, List, [], ◌∷◌, cond, find, nat_le, Option, Some, None, option_map, refl}
use Rattle.std.proofs.Common.{◌∙◌, ap, subst}
use Rattle.std.proofs.lemmas.Bool.{leb-false}
use Rattle.sd_num.specs.Lists.{map_or}
use Rattle.sd_plan.specs.declared.topo.Thing.{Thing}
use Rattle.sd_plan.specs.declared.topo.Thing.TheVariants as thing
use Rattle.sd_sched.specs.declared.Event.{Event}
use Rattle.sd_sched.specs.declared.Event.TheVariants as event
use Rattle.sd_sched.specs.Events.{device_of, link_of, started, joined, given}
use Rattle.sd_history.specs.Things.{mended}
use Rattle.sd_fleet.specs.Causes.{Cause, first_of}

-- the same causes in the same order, and each holds in both lists or in neither, where none before it holds
abbrev pub AreAlike : List Cause → List Cause → Type 0
AreAlike [] [] = Unit {0}
AreAlike [] (y ∷ ys) = ⊥
AreAlike (x ∷ xs) [] = ⊥
AreAlike (x ∷ xs) (y ∷ ys) = (x.0 ≡ y.0) × (x.1 ≡ y.1) × (y.1 ≡ false → AreAlike xs ys)

-- so the first causes are the same
pub first_alike : (xs ys : List Cause) → AreAlike xs ys → first_of xs ≡ first_of ys
first_alike [] [] alike = refl
first_alike [] (y ∷ ys) alike = absurd alike
first_alike (x ∷ xs) [] alike = absurd alike
first_alike (x ∷ xs) (y ∷ ys) alike =
    ap (λ b. option_map (λ (cause : Cause). cause.0) (cond b (Some x) (find (λ (cause : Cause). cause.1) xs))) alike.1
    ∙ go y.1 refl (λ none. first_alike xs ys (alike.2 none))
  where
    go : (b : Bool) → y.1 ≡ b → (y.1 ≡ false → first_of xs ≡ first_of ys)
        → option_map (λ (cause : Cause). cause.0) (cond b (Some x) (find (λ (cause : Cause). cause.1) xs))
        ≡ option_map (λ (cause : Cause). cause.0) (cond b (Some y) (find (λ (cause : Cause). cause.1) ys))
    go true holds rest = ap Some alike.0
    go false fails rest = rest fails

-- What an event names

pub started_named : (e : Event) (d : ℕ) → started e ≡ Some d → device_of e ≡ Some d
started_named (event.Start r m c clock eps) d is = is
started_named _ d is = cc

pub joined_named : (e : Event) (d : ℕ) → joined e ≡ Some d → device_of e ≡ Some d
joined_named (event.Join r m c clock eps) d is = is
joined_named _ d is = cc

pub given_named : (e : Event) (d : ℕ) → given e ≡ Some d → device_of e ≡ Some d
given_named (event.Give r m) d is = is
given_named _ d is = cc

-- the thing is the device or the link that the event names
abbrev pub IsNamed : Event → Thing → Type 0
IsNamed e (thing.Device d) = device_of e ≡ Some d
IsNamed e (thing.Link l) = link_of e ≡ Some l

pub mended_named : (e : Event) (x : Thing) → mended e ≡ Some x → IsNamed e x
mended_named (event.MendDevice r m) x is = let same : thing.Device m ≡ x = cc in subst (IsNamed (event.MendDevice r m)) same refl
mended_named (event.MendLink r l) x is = let same : thing.Link l ≡ x = cc in subst (IsNamed (event.MendLink r l)) same refl
mended_named _ x is = cc

-- a number that is not too great is below the bound
pub in_range : (bound : ℕ) (o : Option ℕ) (n : ℕ) → map_or o false (nat_le bound) ≡ false → o ≡ Some n → n < bound
in_range bound None n small is = cc
in_range bound (Some m) n small is = let same : m ≡ n = cc in subst (λ (k : ℕ). k < bound) same (leb-false bound m small)

-- two tests that agree below the bound agree on the number that is named
pub named_alike : (bound : ℕ) (all o : Option ℕ) (p q : ℕ → Bool) → map_or all false (nat_le bound) ≡ false → ((n : ℕ) → o ≡ Some n → all ≡ Some n)
    → ((n : ℕ) → n < bound → p n ≡ q n)
    → map_or o false p ≡ map_or o false q
named_alike bound all None p q small names same = refl
named_alike bound all (Some n) p q small names same = same n (in_range bound all n small (names n refl))
