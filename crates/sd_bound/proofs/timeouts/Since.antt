-- What each event of a settled run keeps is kept from one event on.
use Rattle.std.specs.Prelude.{ℕ, ◌<◌, ◌≤◌, List, [], ◌∷◌, ◌⊎◌}
use Rattle.std.proofs.Common.{arith, ap, sym, subst, inl, inr}
use Rattle.std.proofs.lemmas.Bool.{cases_lt}
use Rattle.sd_sched.specs.declared.Event.{Event}
use Rattle.sd_history.specs.World.{Setting, latest_reference}
use Rattle.sd_history.specs.Steps.{Step, seen_of}
use Rattle.sd_history.specs.Chronicle.{chronicle}
use Rattle.sd_safety.specs.messages.Moments.{Tail, whole, behind, Moment, upto, when, IsIn}
use Rattle.sd_safety.proofs.messages.Tails.{rest_of, no_later, tail_chronicle, Order, before as comes_before, same as are_same, after as comes_after, ordered}
use Rattle.sd_safety.proofs.messages.Flowing.{tail_rest}
use Rattle.sd_safety.proofs.Shared.{tail_of}
use Rattle.sd_bound.specs.timeouts.Settled.{IsSettled}
use Rattle.sd_bound.proofs.timeouts.Settled.{all_chronicle, not_after}

module _ (setting : Setting) (epoch : ℕ) (history : List Event) (e : Event) (calm : ℕ) (settled : IsSettled setting epoch history e calm) (P : List Step → Type 0)
    (keeps : (r : Moment) → IsIn r (chronicle setting history) → calm < when r → P r.earlier → P (upto r)) where
  kept_by : (q : Moment) → IsIn q (chronicle setting (e ∷ history)) → calm < when q → P q.earlier → (s : Step) (steps : List Step)
      → IsIn (record { step = s; earlier = steps }) (chronicle setting (e ∷ history)) → Tail q.earlier steps → P steps
  kept_by q q_in late holds s _ here whole = holds
  kept_by q q_in late holds s _ here (behind {x = s'} {xs = xs} t) =
      let r : Moment = record { step = s'; earlier = xs } in
      let r_in : IsIn r (chronicle setting history) = tail_rest here in
      let goes : when q ≤ when r =
      not_after setting (chronicle setting (e ∷ history)) q r (all_chronicle setting epoch history e calm settled) q_in (behind r_in) t in
      keeps r r_in (omega (arith, late, goes)) (kept_by q q_in late holds s' xs (behind r_in) t)

  pub kept_since : (q : Moment) → IsIn q (chronicle setting (e ∷ history)) → calm < when q → P q.earlier → (r : Moment)
      → IsIn r (chronicle setting (e ∷ history)) → Tail q.earlier r.earlier → P r.earlier
  kept_since q q_in late holds r r_in t = kept_by q q_in late holds r.step r.earlier r_in t

-- the first event later than a reference
pub record FirstPast (limit : ℕ) (steps : List Step) : Type 0 where
  pub moment : Moment
  pub is_in : IsIn moment steps
  pub late : limit < when moment
  pub before : latest_reference (seen_of moment.earlier) ≤ limit

pub first_past : (limit : ℕ) (steps : List Step) → limit < latest_reference (seen_of steps) → FirstPast limit steps
first_past limit [] less = absurd (omega (arith, less))
first_past limit (s ∷ earlier) less = go (cases_lt limit (latest_reference (seen_of earlier))) (first_past limit earlier)
  where
    go : (limit < latest_reference (seen_of earlier)) ⊎ (latest_reference (seen_of earlier) ≤ limit)
        → (limit < latest_reference (seen_of earlier) → FirstPast limit earlier) → FirstPast limit (s ∷ earlier)
    go (inl lt) rest = let f = rest lt in record { moment = f.moment; is_in = behind f.is_in; late = f.late; before = f.before }
    go (inr le) rest = record { moment = record { step = s; earlier = earlier }; is_in = whole; late = less; before = le }

-- each event that is later comes no earlier than it
pub from_first : (setting : Setting) (epoch : ℕ) (history : List Event) (e : Event) (calm : ℕ) → IsSettled setting epoch history e calm → (limit : ℕ) → (q : Moment)
    → IsIn q (chronicle setting (e ∷ history)) → latest_reference (seen_of q.earlier) ≤ limit
    → (r : Moment) → IsIn r (chronicle setting (e ∷ history)) → limit < when r → Tail q.earlier r.earlier
from_first setting epoch history e calm settled limit q q_in before_ r r_in late = go (ordered (chronicle setting (e ∷ history)) q r q_in r_in)
  where
    go : Order q r → Tail q.earlier r.earlier
    go (comes_before t) = rest_of t
    go (are_same equal) = subst (λ l. Tail l r.earlier) (sym (ap tail_of equal)) whole
    go (comes_after t) =
        let by : when r ≤ latest_reference (seen_of q.earlier) =
        no_later setting r q.earlier (tail_chronicle setting (rest_of q_in) (all_chronicle setting epoch history e calm settled)) t in
        absurd (omega (arith, by, before_, late))
