-- The first cause that holds, found one by one.
use Rattle.std.specs.Prelude.{◌≡◌, Bool, true, false, List, ◌∷◌, ◌++◌, cond, find, Option, Some, None, is_some, option_map, refl}
use Rattle.std.specs.Option.{option_or}
use Rattle.std.proofs.Common.{sym, ◌∙◌, ap}
use Rattle.std.proofs.lemmas.List.Folds.{find-append}
use Rattle.sd_sched.specs.declared.Event.{Event}
use Rattle.sd_history.specs.declared.ApplyFault.{ApplyFault}
use Rattle.sd_fleet.specs.Registers.{Registers}
use Rattle.sd_fleet.specs.Causes.{Cause, first_of, place_causes, message_causes, device_causes, window_causes, late_causes, refusal_in}

pub behind : (f : ApplyFault) (b : Bool) (rest : List Cause) (o : Option ApplyFault) → b ≡ false → o ≡ first_of rest → o ≡ first_of ((f, b) ∷ rest)
behind f b rest o fails is = is ∙ sym (ap (λ t. option_map (λ (c : Cause). c.0) (cond t (Some (f, b)) (find (λ (c : Cause). c.1) rest))) fails)

-- the first of two lists after another
or_mapped : (a b : Option Cause)
    → option_map (λ (c : Cause). c.0) (option_or a b) ≡ option_or (option_map (λ (c : Cause). c.0) a) (option_map (λ (c : Cause). c.0) b)
or_mapped None b = refl
or_mapped (Some c) b = refl

pub joined_first : (xs ys : List Cause) → first_of (xs ++ ys) ≡ option_or (first_of xs) (first_of ys)
joined_first xs ys = ap (option_map (λ (c : Cause). c.0)) (find-append (λ (c : Cause). c.1) xs ys)
    ∙ or_mapped (find (λ (c : Cause). c.1) xs) (find (λ (c : Cause). c.1) ys)

-- All parts

grouped : {A : Type 0} (a b c : Option A) → option_or (option_or a b) c ≡ option_or a (option_or b c)
grouped None b c = refl
grouped (Some x) b c = refl

pub five_first : (p m d w l : List Cause)
    → first_of (p ++ m ++ d ++ w ++ l) ≡ option_or (first_of p) (option_or (first_of m) (option_or (first_of d) (option_or (first_of w) (first_of l))))
five_first p m d w l =
    joined_first (p ++ m ++ d ++ w) l
    ∙ ap (λ o. option_or o (first_of l)) (joined_first (p ++ m ++ d) w
    ∙ ap (λ o. option_or o (first_of w)) (joined_first (p ++ m) d ∙ ap (λ o. option_or o (first_of d)) (joined_first p m)))
    ∙ grouped (option_or (option_or (first_of p) (first_of m)) (first_of d)) (first_of w) (first_of l)
    ∙ grouped (option_or (first_of p) (first_of m)) (first_of d) (option_or (first_of w) (first_of l))
    ∙ grouped (first_of p) (first_of m) (option_or (first_of d) (option_or (first_of w) (first_of l)))

pub refusal_parts : (r : Registers) (e : Event)
    → option_or (first_of (place_causes r e))
    (option_or (first_of (message_causes r e))
    (option_or (first_of (device_causes r e)) (option_or (first_of (window_causes r e)) (first_of (late_causes r e))))) ≡ refusal_in r e
refusal_parts r e = sym (five_first (place_causes r e) (message_causes r e) (device_causes r e) (window_causes r e) (late_causes r e))

-- which part the first cause is of

some_or : {A : Type 0} (o x : Option A) → is_some o ≡ true → o ≡ option_or o x
some_or None x some = cc
some_or (Some y) x some = refl

none_or : {A : Type 0} (o x : Option A) → is_some o ≡ false → x ≡ option_or o x
none_or None x none = refl
none_or (Some y) x none = cc

module _ (r : Registers) (e : Event) where
  abbrev place : Option ApplyFault
  place = first_of (place_causes r e)

  abbrev message : Option ApplyFault
  message = first_of (message_causes r e)

  abbrev device : Option ApplyFault
  device = first_of (device_causes r e)

  abbrev window : Option ApplyFault
  window = first_of (window_causes r e)

  abbrev late : Option ApplyFault
  late = first_of (late_causes r e)

  pub at_place : is_some place ≡ true → place ≡ refusal_in r e
  at_place some = some_or place (option_or message (option_or device (option_or window late))) some ∙ refusal_parts r e

  pub at_device : is_some place ≡ false → is_some message ≡ false → is_some device ≡ true → device ≡ refusal_in r e
  at_device none nor some =
      some_or device (option_or window late) some
      ∙ none_or message (option_or device (option_or window late)) nor
      ∙ none_or place (option_or message (option_or device (option_or window late))) none
      ∙ refusal_parts r e

  pub at_window : is_some place ≡ false → is_some message ≡ false → is_some device ≡ false → is_some window ≡ true → window ≡ refusal_in r e
  at_window none nor neither some =
      some_or window late some
      ∙ none_or device (option_or window late) neither
      ∙ none_or message (option_or device (option_or window late)) nor
      ∙ none_or place (option_or message (option_or device (option_or window late))) none
      ∙ refusal_parts r e

  pub at_last : is_some place ≡ false → is_some message ≡ false → is_some device ≡ false → is_some window ≡ false → late ≡ refusal_in r e
  at_last none nor neither last =
      none_or window late last
      ∙ none_or device (option_or window late) neither
      ∙ none_or message (option_or device (option_or window late)) nor
      ∙ none_or place (option_or message (option_or device (option_or window late))) none
      ∙ refusal_parts r e
