-- Where no device follows or acts there is no loop and no root; and what stays where one device is written.
use Rattle.std.specs.Prelude.{◌≡◌, ℕ, Bool, true, false, List, [], ◌∷◌, length, filter, replicate, slice_set, Option, Some, None, is_some, IsTrue, ◌↔◌, refl, MatchOption, if◌then◌else◌}
use Rattle.std.proofs.Common.{sym, ap, ◌∙◌, subst}
use Rattle.std.proofs.lemmas.Option.{none-some}
use Rattle.sd_num.specs.Lists.{below, at_place}
use Rattle.sd_num.proofs.Shared.{no_acting}
use Rattle.sd_replay.specs.watch.Watch.{parent_in, IsOnLoop, HasNoLoop, IsFirstOnLoop, acting_devices, two_least}
use Rattle.sd_replay.proofs.watch.Following.{before_last}
use Rattle.sd_replay.proofs.watch.Changed.{through_written}
use Rattle.sd_replay.proofs.watch.Shared.{no_parent}

-- Before any event

pub none_follow : (n : ℕ) → HasNoLoop (parent_in (replicate n None))
none_follow n d loop =
    let last = before_last (parent_in (replicate n None)) loop.steps d d loop.back in
    absurd (none-some d (sym (no_parent n last.0) ∙ last.2))

none_pass : (p : ℕ → Bool) (xs : List ℕ) → ((x : ℕ) → p x ≡ false) → filter p xs ≡ []
none_pass p [] none = refl
none_pass p (x ∷ xs) none = ap (λ b. if b then x ∷ filter p xs else filter p xs) (none x) ∙ none_pass p xs none

pub none_act : (n : ℕ) → two_least (acting_devices (replicate n false)) ≡ None
none_act n = ap two_least (none_pass (λ d. at_place (replicate n false) d false (λ acts. acts)) (below (length (replicate n false))) (no_acting n))

-- After a change

-- there is no loop still, where there was none and the device that changed is on none
pub still_none : (looped : Option ℕ) (before after : List (Option ℕ)) (d : ℕ) (entry : Option ℕ) → after ≡ slice_set before d entry → (some on : Bool)
    → some ≡ is_some looped → some ≡ false
    → (IsTrue on ↔ IsOnLoop (parent_in after) d) → on ≡ false
    → MatchOption looped (HasNoLoop (parent_in before)) (λ e. IsFirstOnLoop (parent_in before) e)
    → MatchOption looped (HasNoLoop (parent_in (slice_set before d entry))) (λ e. IsFirstOnLoop (parent_in (slice_set before d entry)) e)
still_none None before after d entry is some on some_is none loops off first =
    none_by_one_written
  where
    none_by_one_written : HasNoLoop (parent_in (slice_set before d entry))
    none_by_one_written e loop =
        let through : IsOnLoop (parent_in (slice_set before d entry)) d = through_written before d entry first e loop in
        let told : on ≡ true = loops.1 (subst (λ (xs : List (Option ℕ)). IsOnLoop (parent_in xs) d) (sym is) through) in
        cc
still_none (Some x) before after d entry is some on some_is none loops off first = cc
