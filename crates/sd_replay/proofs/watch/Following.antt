-- Where steps along parents lead: steps after steps, and devices on a loop.
use Rattle.std.specs.Prelude.{◌≡◌, ℕ, zero, suc, ◌+◌, Option, Some, None, option_and_then}
use Rattle.std.proofs.Common.{refl, sym, ap, ◌∙◌, arith}
use Rattle.std.proofs.lemmas.Option.{same_Some}
use Rattle.sd_num.specs.Lists.{follow}
use Rattle.sd_num.proofs.Shared.{follow_first}
use Rattle.sd_replay.specs.watch.Watch.{IsOnLoop}

module _ (parent : ℕ → Option ℕ) where
  -- one step more
  pub one_more : (n d x : ℕ) → follow parent n d ≡ Some x → follow parent (suc n) d ≡ parent x
  one_more n d x at = ap (option_and_then parent) at

  -- the device before the last step
  pub before_last : (n d y : ℕ) → follow parent (suc n) d ≡ Some y → (x : ℕ) × (follow parent n d ≡ Some x) × (parent x ≡ Some y)
  before_last n d y at = by (follow parent n d) refl at
    where
      by : (o : Option ℕ) → follow parent n d ≡ o → option_and_then parent o ≡ Some y → (x : ℕ) × (follow parent n d ≡ Some x) × (parent x ≡ Some y)
      by None is led = cc
      by (Some x) is led = (x, is, led)

  -- m steps from where n steps lead
  pub further : (m n k d x : ℕ) → k ≡ m + n → follow parent n d ≡ Some x → follow parent k d ≡ follow parent m x
  further zero n k d x sum at = let same : k ≡ n = omega arith in ap (λ j. follow parent j d) same ∙ at
  further (suc m) n k d x sum at =
      let same : k ≡ suc (m + n) = omega arith in
      ap (λ j. follow parent j d) same ∙ ap (option_and_then parent) (further m n (m + n) d x refl at)

  -- where more steps lead on, so do the first n of them
  pub on_the_way : (m n k d y : ℕ) → k ≡ m + n → follow parent k d ≡ Some y → (x : ℕ) × (follow parent n d ≡ Some x) × (follow parent m x ≡ Some y)
  on_the_way zero n k d y sum at = let same : n ≡ k = omega arith in (y, ap (λ j. follow parent j d) same ∙ at, refl)
  on_the_way (suc m) n k d y sum at =
      let same : suc (m + n) ≡ k = omega arith in
      let last = before_last (m + n) d y (ap (λ j. follow parent j d) same ∙ at) in
      let first = on_the_way m n (m + n) d last.0 refl last.1 in
      (first.0, first.1, one_more m first.0 last.0 first.2 ∙ last.2)

  -- a device on a loop has a parent
  pub has_parent : (d : ℕ) → IsOnLoop parent d → (x : ℕ) × (parent d ≡ Some x)
  has_parent d loop = let first = on_the_way loop.steps 1 (suc loop.steps) d d (omega arith) loop.back in (first.0, first.1)

  -- and is the parent of one on it
  pub is_parent : (d : ℕ) → IsOnLoop parent d → (x : ℕ) × (parent x ≡ Some d)
  is_parent d loop = let last = before_last loop.steps d d loop.back in (last.0, last.2)

  -- its parent is on a loop
  pub parent_on_loop : (d x : ℕ) → parent d ≡ Some x → IsOnLoop parent d → IsOnLoop parent x
  parent_on_loop d x follows loop =
      record { steps = loop.steps; back = one_more loop.steps x d (sym (follow_first parent loop.steps d x follows) ∙ loop.back) ∙ follows }

  -- and so is each device to which it leads
  pub led_on_loop : (n d x : ℕ) → follow parent n d ≡ Some x → IsOnLoop parent d → IsOnLoop parent x
  led_on_loop zero d x at loop = let same : d ≡ x = same_Some d x at in subst_loop same
    where
      subst_loop : d ≡ x → IsOnLoop parent x
      subst_loop same = record { steps = loop.steps; back = ap (follow parent (suc loop.steps)) (sym same) ∙ loop.back ∙ at }
  led_on_loop (suc n) d x at loop =
      let last = before_last n d x at in
      parent_on_loop last.0 x last.2 (led_on_loop n d last.0 last.1 loop)
