-- Where parents change, a loop that was not there before leads through a device that has another parent than before. So who knows that there was no
-- loop need ask the devices that changed alone, and a parent that is only lost makes no loop.
use Rattle.std.specs.Prelude.{◌≡◌, ◌≢◌, ℕ, zero, suc, Bool, true, false, List, Option, Some, None, nat_eq, ◌⊎◌}
use Rattle.std.proofs.Common.{sym, ap, ◌∙◌, inl, inr, subst, set}
use Rattle.std.proofs.lemmas.Bool.{cases_Bool, eqb-true, eqb-false}
use Rattle.sd_num.specs.Lists.{map_or, follow}
use Rattle.sd_num.proofs.Places.{at_unwritten}
use Rattle.sd_replay.specs.watch.Watch.{parent_in, IsOnLoop, HasNoLoop}
use Rattle.sd_replay.proofs.watch.Following.{one_more, before_last, led_on_loop}

-- each parent that the device has after the change it had before
abbrev pub HasNoOther : (before after : ℕ → Option ℕ) → ℕ → Type 0
HasNoOther before after d = (x : ℕ) → after d ≡ Some x → before d ≡ Some x

module _ (before after : ℕ → Option ℕ) (changed : ℕ → Bool) (others : (d : ℕ) → changed d ≡ false → HasNoOther before after d) where
  -- steps pass a device that changed, or lead where they led before
  record Passes (d : ℕ) : Type 0 where
    pub steps : ℕ
    pub device : ℕ
    pub there : follow after steps d ≡ Some device
    pub has_changed : changed device ≡ true

  passes : (n d e : ℕ) → follow after n d ≡ Some e → Passes d ⊎ (follow before n d ≡ Some e)
  passes zero d e at = inr at
  passes (suc n) d e at = let last = before_last after n d e at in by last.0 last.1 last.2 (cases_Bool (changed last.0)) (passes n d last.0 last.1)
    where
      by : (x : ℕ) → follow after n d ≡ Some x → after x ≡ Some e → (changed x ≡ true) ⊎ (changed x ≡ false) → Passes d ⊎ (follow before n d ≡ Some x)
          → Passes d ⊎ (follow before (suc n) d ≡ Some e)
      by x there led is (inl earlier) = inl earlier
      by x there led (inl is) (inr same) = inl (record { steps = n; device = x; there = there; has_changed = is })
      by x there led (inr isnt) (inr same) = inr (one_more before n d x same ∙ others x isnt e led)

  -- a new loop leads through a device that changed
  pub through_change : HasNoLoop before → (e : ℕ) → IsOnLoop after e → (d : ℕ) × (changed d ≡ true) × IsOnLoop after d
  through_change none e loop = elim (passes (suc loop.steps) e e loop.back) [
    | inl there ↦ (there.device, there.has_changed, led_on_loop after there.steps e there.device there.there loop)
    | inr same ↦ absurd (none e (record { steps = loop.steps; back = same }))
  ]

module _ (before after : ℕ → Option ℕ) (d : ℕ) (others : (e : ℕ) → e ≢ d → HasNoOther before after e) where
  -- where one device changed, a new loop leads through it
  pub through_one : HasNoLoop before → (e : ℕ) → IsOnLoop after e → IsOnLoop after d
  through_one none e loop =
      let there = through_change before after (λ x. nat_eq x d) (λ x apart. others x (eqb-false x d apart)) none e loop in
      subst (λ x. IsOnLoop after x) (eqb-true there.0 d there.1) there.2

-- one entry of a list that is written
pub through_written : (parents : List (Option ℕ)) (d : ℕ) (entry : Option ℕ) → HasNoLoop (parent_in parents) → (e : ℕ)
    → IsOnLoop (parent_in (set parents d entry)) e → IsOnLoop (parent_in (set parents d entry)) d
through_written parents d entry =
    through_one (parent_in parents) (parent_in (set parents d entry)) d
    (λ e apart x at. sym (ap (λ o. map_or o None (λ parent. parent)) (at_unwritten parents d e entry apart)) ∙ at)
