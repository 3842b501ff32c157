-- The past of a device that was started with its duty, and that nothing made take up another one: its words, by what its calls did.
use Rattle.std.specs.Prelude.{◌≡◌, Bool, true, false, ◌&&◌, not, List, [], ◌∷◌, find, Option, Some, None, is_some, option_map, refl}
use Rattle.std.specs.List.{list_any, list_all}
use Rattle.std.proofs.Common.{ap, ◌∙◌}
use Rattle.std.proofs.lemmas.Bool.{and_parts, or_from, not-true}
use Rattle.sd_num.specs.Lists.{map_or, find_map_or, leading}
use Rattle.sd_plan.specs.declared.Duty.{Duty}
use Rattle.sd_num.proofs.Shared.{none_if_not_some}
use Rattle.sd_device.specs.Calls.{Started, CallDone, Past}
use Rattle.sd_device.specs.Words.{takes_up, taken_up, duty_given, later_entry, since_entry, duty_now, given_now}

-- Calls of one kind

pub latest_none : {B : Type 0} (p : CallDone → Bool) (f : CallDone → Option B) (d : B) (did : List CallDone) → ((x : CallDone) → p x ≡ true → f x ≡ None)
    → list_all p did ≡ true → find_map_or f did d ≡ d
latest_none p f d [] each all = refl
latest_none p f d (x ∷ xs) each all =
    let (here, rest) = and_parts (p x) (list_all p xs) all in
    ap (λ o. map_or o (find_map_or f xs d) (λ told. told)) (each x here) ∙ latest_none p f d xs each rest

pub any_none : (p q : CallDone → Bool) (did : List CallDone) → ((x : CallDone) → p x ≡ true → q x ≡ false) → list_all p did ≡ true → list_any q did ≡ false
any_none p q [] each all = refl
any_none p q (x ∷ xs) each all =
    let (here, rest) = and_parts (p x) (list_all p xs) all in
    or_from (q x) (list_any q xs) (each x here) (any_none p q xs each rest)

pub find_none_of : (p q : CallDone → Bool) (did : List CallDone) → ((x : CallDone) → p x ≡ true → q x ≡ false) → list_all p did ≡ true → find q did ≡ None
find_none_of p q [] each all = refl
find_none_of p q (x ∷ xs) each all =
    let (here, rest) = and_parts (p x) (list_all p xs) all in
    rw (each x here) (find_none_of p q xs each rest)

pub leading_all : (p q : CallDone → Bool) (did : List CallDone) → ((x : CallDone) → p x ≡ true → q x ≡ true) → list_all p did ≡ true → leading q did ≡ did
leading_all p q [] each all = refl
leading_all p q (x ∷ xs) each all =
    let (here, rest) = and_parts (p x) (list_all p xs) all in
    rw (each x here) (ap (λ ys. x ∷ ys) (leading_all p q xs each rest))

-- No other duty

-- the call neither took up a duty nor gave one
abbrev pub is_plain : CallDone → Bool
is_plain x = not (takes_up x) && not (is_some (duty_given x.call))

-- the device was started with this duty at counter 0, and has no other
pub record Plain (duty : Duty) (past : Past) : Type 0 where
  pub made : past.making ≡ Started duty 0 0 0
  pub did : list_all is_plain past.did ≡ true

plain_takes : (x : CallDone) → is_plain x ≡ true → takes_up x ≡ false
plain_takes x is = not-true (takes_up x) (and_parts (not (takes_up x)) (not (is_some (duty_given x.call))) is).0

plain_gives : (x : CallDone) → is_plain x ≡ true → duty_given x.call ≡ None
plain_gives x is =
    none_if_not_some (duty_given x.call) (not-true (is_some (duty_given x.call)) (and_parts (not (takes_up x)) (not (is_some (duty_given x.call))) is).1)

plain_takes_none : (x : CallDone) → is_plain x ≡ true → taken_up x.transition ≡ None
plain_takes_none x is = none_if_not_some (taken_up x.transition) (plain_takes x is)

module _ (duty : Duty) (past : Past) (plain : Plain duty past) where
  pub no_entry : later_entry past ≡ None
  no_entry = find_none_of is_plain takes_up past.did plain_takes plain.did

  pub since_is : since_entry past ≡ past.did
  since_is = leading_all is_plain (λ x. not (takes_up x)) past.did (λ x n. ap not (plain_takes x n)) plain.did

  pub duty_is : duty_now past ≡ Some duty
  duty_is =
      latest_none is_plain (λ x. option_map Some (taken_up x.transition)) _ past.did (λ x n. ap (option_map Some) (plain_takes_none x n)) plain.did
      ∙ rw plain.made refl

  pub given_none : given_now past ≡ None
  given_none =
      rw since_is (latest_none is_plain (λ x. option_map Some (duty_given x.call)) None past.did (λ x n. ap (option_map Some) (plain_gives x n)) plain.did)
