-- Premises that hold of a history hold of each beginning of it. All but loss are tests of each event and those before it; of loss, a spoiled
-- flight stays spoiled, so the spoiled rounds only grow.
use Rattle.std.specs.Prelude.{◌≡◌, ℕ, ◌+◌, Bool, true, false, ◌&&◌, ◌||◌, not, List, [], ◌∷◌, filter, map, refl, if◌then◌else◌}
use Rattle.std.specs.List.{list_any}
use Rattle.std.proofs.Common.{◌∙◌, ap, sym, subst}
use Rattle.std.proofs.lemmas.Bool.{and_parts}
use Rattle.sd_num.specs.Lists.{below}
use Rattle.sd_device.specs.declared.msg.Stamp.{Stamp}
use Rattle.sd_history.specs.World.{Setting, Seen}
use Rattle.sd_history.specs.Premises.{reads_honestly, drift_holds, arrives_in_time, delay_holds, ticks_in_time, tick_holds, reaching_flights, spoils, spoiled_rounds, is_round, all_from, loss_holds, fails_within_one, domain_holds, commits_orderly, seals_orderly, fails_orderly, begins_orderly, renew_holds}
use Rattle.sd_safety.specs.invariant.Guarded.{all_but_start_hold, IsSteady}
use Rattle.sd_sched.specs.declared.Event.{Event}
use Rattle.sd_history.specs.Steps.{seen_of}
use Rattle.sd_history.specs.Chronicle.{next_step, chronicle}
use Rattle.sd_safety.proofs.invariant.Parts.{AllButStart, premises_of, premises_hold}
use Rattle.sd_history.proofs.Among.{Among, first, later, passes, all_pass, on_right, any_passing}
use Rattle.sd_history.proofs.Shared.{stays_spoiled}

-- Lists

-- an element that passes
pub record Passing {A : Type 0} (p : A → Bool) (xs : List A) : Type 0 where
  pub one : A
  pub there : Among one xs
  pub passed : p one ≡ true

further : {A : Type 0} {p : A → Bool} {x : A} {xs : List A} → Passing p xs → Passing p (x ∷ xs)
further found = record { one = found.one; there = later found.there; passed = found.passed }

passing_when : {A : Type 0} (p : A → Bool) (x : A) (xs : List A) (b : Bool) → p x ≡ b → (list_any p xs ≡ true → Passing p xs) → (b || list_any p xs) ≡ true
    → Passing p (x ∷ xs)
passing_when p x xs true is rest any = record { one = x; there = first; passed = is }
passing_when p x xs false is rest any = further (rest any)

pub some_passing : {A : Type 0} (p : A → Bool) (xs : List A) → list_any p xs ≡ true → Passing p xs
some_passing p [] any = cc
some_passing p (x ∷ xs) any = passing_when p x xs (p x) refl (some_passing p xs) any

abbrev IsWithin : {A : Type 0} → List A → List A → Type 0
IsWithin {A} xs ys = (x : A) → Among x xs → Among x ys

any_within : {A : Type 0} (p : A → Bool) (xs ys : List A) → IsWithin xs ys → list_any p xs ≡ true → list_any p ys ≡ true
any_within p xs ys within any = let found : Passing p xs = some_passing p xs any in any_passing p found.one ys (within found.one found.there) found.passed

-- what a list of images of passing elements has
record IsImage {A B : Type 0} (p : A → Bool) (g : A → B) (xs : List A) (y : B) : Type 0 where
  pub one : A
  pub there : Among one xs
  pub passed : p one ≡ true
  pub image : g one ≡ y

image_further : {A B : Type 0} {p : A → Bool} {g : A → B} {xs : List A} {y : B} {x : A} → IsImage p g xs y → IsImage p g (x ∷ xs) y
image_further i = record { one = i.one; there = later i.there; passed = i.passed; image = i.image }

image_at : {A B : Type 0} (p : A → Bool) (g : A → B) (x : A) (xs : List A) (y z : B) (zs : List B) → p x ≡ true → z ≡ g x → (Among y zs → IsImage p g xs y)
    → Among y (z ∷ zs) → IsImage p g (x ∷ xs) y
image_at p g x xs y z zs is same rest first = record { one = x; there = first; passed = is; image = sym same }
image_at p g x xs y z zs is same rest (later b) = image_further (rest b)

image_when : {A B : Type 0} (p : A → Bool) (g : A → B) (x : A) (xs : List A) (y : B) (b : Bool) → p x ≡ b → (Among y (map g (filter p xs)) → IsImage p g xs y)
    → Among y (map g (if b then x ∷ filter p xs else filter p xs)) → IsImage p g (x ∷ xs) y
image_when p g x xs y true is rest a = image_at p g x xs y (g x) (map g (filter p xs)) is refl rest a
image_when p g x xs y false is rest a = image_further (rest a)

image_of : {A B : Type 0} (p : A → Bool) (g : A → B) (xs : List A) (y : B) → Among y (map g (filter p xs)) → IsImage p g xs y
image_of p g [] y a = elim a [ ]
image_of p g (x ∷ xs) y a = image_when p g x xs y (p x) refl (image_of p g xs y) a

image_past : {A B : Type 0} (p : A → Bool) (g : A → B) (y : A) (xs : List A) (z : B) (b : Bool) → Among z (map g (filter p xs))
    → Among z (map g (if b then y ∷ filter p xs else filter p xs))
image_past p g y xs z true a = later a
image_past p g y xs z false a = a

to_image : {A B : Type 0} (p : A → Bool) (g : A → B) (xs : List A) (x : A) → Among x xs → p x ≡ true → Among (g x) (map g (filter p xs))
to_image p g [] x a passed = elim a [ ]
to_image p g (x ∷ xs) x' first passed = subst (λ b. Among (g x) (map g (if b then x ∷ filter p xs else filter p xs))) (sym passed) first
to_image p g (y ∷ xs) x (later a) passed = image_past p g y xs (g x) (p y) (to_image p g xs x a passed)

-- Loss

rounds_grow : (s : Seen) (seen : List Seen) → IsWithin (spoiled_rounds seen) (spoiled_rounds (s ∷ seen))
rounds_grow s seen r a =
    let i : IsImage (spoils seen) (λ f. f.message.stamp) (reaching_flights seen) r =
    image_of (spoils seen) (λ f. f.message.stamp) (reaching_flights seen) r a in
    subst (λ z. Among z (spoiled_rounds (s ∷ seen))) i.image
    (to_image (spoils (s ∷ seen)) (λ f. f.message.stamp) (reaching_flights (s ∷ seen)) i.one (on_right s.sent i.there) (stays_spoiled s seen i.one i.passed))

from_within : (rounds more : List Stamp) (term round k : ℕ) → IsWithin rounds more → all_from rounds term round k ≡ true → all_from more term round k ≡ true
from_within rounds more term round k within all =
    all_pass (λ i. list_any (λ other. is_round other term (round + i)) more) (below k)
    (λ i a. any_within (λ other. is_round other term (round + i)) rounds more within
    (passes (λ i. list_any (λ other. is_round other term (round + i)) rounds) a all))

fewer : (a b : Bool) → (a ≡ true → b ≡ true) → not b ≡ true → not a ≡ true
fewer true b up none = sym (ap not (up refl)) ∙ none
fewer false b up none = refl

loss_before : (setting : Setting) (s : Seen) (seen : List Seen) → loss_holds setting (s ∷ seen) ≡ true → loss_holds setting seen ≡ true
loss_before setting s seen holds =
    let k : ℕ = setting.net.params.loss + 1 in
    all_pass (λ r. not (all_from (spoiled_rounds seen) r.term r.round k)) (spoiled_rounds seen)
    (λ r a.
    fewer (all_from (spoiled_rounds seen) r.term r.round k) (all_from (spoiled_rounds (s ∷ seen)) r.term r.round k)
    (from_within (spoiled_rounds seen) (spoiled_rounds (s ∷ seen)) r.term r.round k (rounds_grow s seen))
    (passes (λ r. not (all_from (spoiled_rounds (s ∷ seen)) r.term r.round k)) (rounds_grow s seen r a) holds))

-- All

pub premises_before : (setting : Setting) (s : Seen) (seen : List Seen) → AllButStart setting (s ∷ seen) → AllButStart setting seen
premises_before setting s seen h =
    record {
      drift = (and_parts (drift_holds setting seen) (reads_honestly setting s seen) h.drift).0;
      delay = (and_parts (arrives_in_time setting s) (delay_holds setting seen) h.delay).1;
      tick = (and_parts (tick_holds setting seen) (ticks_in_time setting s seen) h.tick).0;
      loss = loss_before setting s seen h.loss;
      domain = (and_parts (domain_holds setting seen) (fails_within_one setting s seen) h.domain).0;
      renew = (and_parts (renew_holds setting seen) (commits_orderly setting s seen && seals_orderly setting s seen && fails_orderly s seen
          && begins_orderly setting s seen) h.renew).0;
    }

pub holds_before : (setting : Setting) (s : Seen) (seen : List Seen) → all_but_start_hold setting (s ∷ seen) ≡ true → all_but_start_hold setting seen ≡ true
holds_before setting s seen all =
    let h = premises_before setting s seen (premises_of setting (s ∷ seen) all) in
    premises_hold setting seen h

-- a steady history was steady before its latest event
pub clean_before : (setting : Setting) (e : Event) (history : List Event) → IsSteady setting (e ∷ history) → IsSteady setting history
clean_before setting e history clean =
    let steps = chronicle setting history in
    record { is = clean.is.0; premises = holds_before setting (next_step setting steps e).seen (seen_of steps) clean.premises }
