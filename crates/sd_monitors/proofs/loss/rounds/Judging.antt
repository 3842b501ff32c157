-- The flights that are overdue are judged one after the other.
use Rattle.std.proofs.Common.{◌≡◌, ℕ, ◌<◌, Bool, true, false, cond, ◌||◌, Option, Some, None, nat_eq, ◌⊎◌, inl, inr, refl, sym, ◌∙◌, subst}
use Rattle.std.proofs.lemmas.Bool.{cases_eq, eq-eqb, ne_eqb, or_left, or_right, or_cases, both_ways, and_from}
use Rattle.std.proofs.lemmas.Option.{same_Some, none-some}
use Rattle.sd_plan.specs.declared.topo.Thing.{Thing}
use Rattle.sd_monitors.specs.declared.loss.flights.WaitingFlight.{WaitingFlight}
use Rattle.sd_history.specs.Premises.{is_round}
use Rattle.sd_monitors.specs.loss.flights.Interrupted.{is_interrupted}
use Rattle.sd_monitors.specs.loss.rounds.Loss.{IsLost, HasOnlyLost}

-- some of the overdue flights are gone, and the rounds of those that were not interrupted are added
pub record JudgesSome (was now : ℕ → Option WaitingFlight) (marks : Thing → ℕ) (reference : ℕ) (old new : ℕ → ℕ → Bool) : Type 0 where
  pub left : (n : ℕ) (f : WaitingFlight) → now n ≡ Some f → was n ≡ Some f
  pub gone : (n : ℕ) (f : WaitingFlight) → was n ≡ Some f → (now n ≡ Some f) ⊎ (f.due < reference)
  pub kept : (t r : ℕ) → old t r ≡ true → new t r ≡ true
  pub added : (f : WaitingFlight) → IsLost was marks reference f → (new f.stamp.term f.stamp.round ≡ true) ⊎ (now f.number ≡ Some f)
  pub only : HasOnlyLost was marks reference old new

module _ (was now next : ℕ → Option WaitingFlight) (marks : Thing → ℕ) (reference : ℕ) (old new : ℕ → ℕ → Bool) (f : WaitingFlight)
    (h : JudgesSome was now marks reference old new) (waits : now f.number ≡ Some f) (overdue : f.due < reference)
    (without : (n : ℕ) → next n ≡ cond (nat_eq f.number n) None (now n)) where
  still : (n : ℕ) → (f.number ≡ n → ⊥) → next n ≡ now n
  still n other = without n ∙ rw (ne_eqb f.number n other) refl

  none_here : (n : ℕ) (g : WaitingFlight) → f.number ≡ n → next n ≡ Some g → ⊥
  none_here n g here at = let empty : next n ≡ None = without n ∙ rw (eq-eqb f.number n here) refl in none-some g (sym empty ∙ at)

  left_still : (n : ℕ) (g : WaitingFlight) → next n ≡ Some g → was n ≡ Some g
  left_still n g at = by_number (cases_eq f.number n)
    where
      by_number : (f.number ≡ n) ⊎ (f.number ≡ n → ⊥) → was n ≡ Some g
      by_number (inl here) = absurd (none_here n g here at)
      by_number (inr other) = h.left n g (sym (still n other) ∙ at)

  -- the flight of its number is the one that is gone
  same_flight : (g : WaitingFlight) → f.number ≡ g.number → now g.number ≡ Some g → f ≡ g
  same_flight g here at = same_Some f g (sym (subst (λ (n : ℕ). now n ≡ Some f) here waits) ∙ at)

  gone_more : (n : ℕ) (g : WaitingFlight) → was n ≡ Some g → (next n ≡ Some g) ⊎ (g.due < reference)
  gone_more n g at = by_gone (h.gone n g at) (cases_eq f.number n)
    where
      by_gone : (now n ≡ Some g) ⊎ (g.due < reference) → (f.number ≡ n) ⊎ (f.number ≡ n → ⊥) → (next n ≡ Some g) ⊎ (g.due < reference)
      by_gone (inr past) on_number = inr past
      by_gone (inl there) (inr other) = inl (still n other ∙ there)
      by_gone (inl there) (inl here) =
          let same : f ≡ g = same_Some f g (sym (subst (λ (m : ℕ). now m ≡ Some f) here waits) ∙ there) in
          inr (subst (λ (k : WaitingFlight). k.due < reference) same overdue)

  -- one that a failure interrupted leaves
  pub judges_interrupted : is_interrupted marks f ≡ true → JudgesSome was next marks reference old new
  judges_interrupted cut =
      record {
        left = left_still;
        gone = gone_more;
        kept = h.kept;
        added = λ g lost. by_added g lost (h.added g lost) (cases_eq f.number g.number);
        only = h.only;
      }
    where
      by_added : (g : WaitingFlight) → IsLost was marks reference g → (new g.stamp.term g.stamp.round ≡ true) ⊎ (now g.number ≡ Some g)
          → (f.number ≡ g.number) ⊎ (f.number ≡ g.number → ⊥)
          → (new g.stamp.term g.stamp.round ≡ true) ⊎ (next g.number ≡ Some g)
      by_added g lost (inl there) on_number = inl there
      by_added g lost (inr at) (inr other) = inr (still g.number other ∙ at)
      by_added g lost (inr at) (inl here) =
          absurd (both_ways (is_interrupted marks g) lost.whole (subst (λ (k : WaitingFlight). is_interrupted marks k ≡ true) (same_flight g here at) cut))

  -- one that nothing interrupted spoils its round
  pub judges_lost : (more : ℕ → ℕ → Bool) → is_interrupted marks f ≡ false → ((t r : ℕ) → more t r ≡ (new t r || is_round f.stamp t r))
      → JudgesSome was next marks reference old more
  judges_lost more whole rounds =
      record {
        left = left_still;
        gone = gone_more;
        kept = λ t r there. stays t r (h.kept t r there);
        added = λ g lost. by_added g lost (h.added g lost) (cases_eq f.number g.number);
        only = λ t r there. by_round t r (or_cases (new t r) (is_round f.stamp t r) (sym (rounds t r) ∙ there));
      }
    where
      stays : (t r : ℕ) → new t r ≡ true → more t r ≡ true
      stays t r there = rounds t r ∙ or_left (new t r) (is_round f.stamp t r) there

      own : more f.stamp.term f.stamp.round ≡ true
      own =
          let stamp = f.stamp in
          rounds stamp.term stamp.round ∙ or_right (new stamp.term stamp.round) (is_round stamp stamp.term stamp.round)
          (and_from (nat_eq stamp.term stamp.term) (nat_eq stamp.round stamp.round) (eq-eqb stamp.term stamp.term refl) (eq-eqb stamp.round stamp.round refl))

      by_added : (g : WaitingFlight) → IsLost was marks reference g → (new g.stamp.term g.stamp.round ≡ true) ⊎ (now g.number ≡ Some g)
          → (f.number ≡ g.number) ⊎ (f.number ≡ g.number → ⊥)
          → (more g.stamp.term g.stamp.round ≡ true) ⊎ (next g.number ≡ Some g)
      by_added g lost (inl there) on_number = inl (stays g.stamp.term g.stamp.round there)
      by_added g lost (inr at) (inr other) = inr (still g.number other ∙ at)
      by_added g lost (inr at) (inl here) = inl (subst (λ (k : WaitingFlight). more k.stamp.term k.stamp.round ≡ true) (same_flight g here at) own)

      lost_one : IsLost was marks reference f
      lost_one = record { waits = h.left f.number f waits; overdue = overdue; whole = whole }

      by_round : (t r : ℕ) → (new t r ≡ true) ⊎ (is_round f.stamp t r ≡ true)
          → (old t r ≡ true) ⊎ ((g : WaitingFlight) × IsLost was marks reference g × (is_round g.stamp t r ≡ true))
      by_round t r (inl before) = h.only t r before
      by_round t r (inr this) = inr (f, lost_one, this)
