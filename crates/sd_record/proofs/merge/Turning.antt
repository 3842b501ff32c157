-- The turns of logs, one of which has another bound, and the first of them.
use Rattle.std.specs.Prelude.{◌≡◌, ◌≢◌, ◌<◌, ◌≤◌, ℕ, ◌+◌, ◌&&◌, ◌||◌, not, Bool, true, false, cond, List, [], ◌∷◌, ◌++◌, get_or, length, nat_eq, nat_lt, None, refl}
use Rattle.std.specs.Ordering.{is_eq, is_gt, nat_cmp, ordering_then}
use Rattle.std.specs.declared.cmp.Ordering.TheVariants.{Equal, Greater, Less}
use Rattle.std.specs.BTreeMap.{is_at}
use Rattle.std.specs.Cmp.{tied_then, unsigned_tied}
use Rattle.std.proofs.Common.{arith, sym, ◌∙◌, ap, subst, inl, inr}
use Rattle.std.proofs.lemmas.Bool.{and_parts, cases_eq, eq-eqb, eqb-false, eqb-true, le-ltb, lt-ltb, ltb-false, ltb-true}
use Rattle.std.proofs.lemmas.List.{get_or_append_left, length-append, length-map}
use Rattle.std.proofs.Math.Bool.{or-false}
use Rattle.std.proofs.Math.Seq.{get_or-append_seam}
use Rattle.std.proofs.lemmas.Map.Keys.{le_from_not_gt}
use Rattle.sd_num.proofs.Shared.{and_false, and_true}
use Rattle.sd_record.specs.merge.Queues.{IsFirstLeast, PopsSettled, Queue, bound_of, bounds_of, new_queue}
use Rattle.sd_record.specs.merge.TurnOrder.{by_turn, is_turn}
use Rattle.sd_record.specs.merge.Turns.{AreTurns, IsFirstTurn, has_turn, is_bound}
use Rattle.sd_record.specs.declared.merge.turns.Turn.{Turn}
use Rattle.sd_record.specs.declared.merge.turns.Turns.{Turns}
use Rattle.sd_record.proofs.merge.Picking.{bound_at}

-- The order of turns

-- a turn is found where both of its numbers are
found_at : (turn : Turn) (bound place : ℕ) → is_at (by_turn turn) (record { bound = bound; place = place }) ≡ is_turn turn bound place
found_at turn bound place =
    sym (tied_then (nat_cmp turn.bound bound) (nat_cmp turn.place place))
    ∙ ap (λ (b : Bool). b && is_eq (nat_cmp turn.place place)) (unsigned_tied turn.bound bound)
    ∙ ap (λ (b : Bool). nat_eq turn.bound bound && b) (unsigned_tied turn.place place)

pub more_at : (turn : Turn) (bound place : ℕ) (b : Bool)
    → cond (is_at (by_turn turn) (record { bound = bound; place = place })) true b ≡ (is_turn turn bound place || b)
more_at turn bound place b = ap (λ (c : Bool). cond c true b) (found_at turn bound place) ∙ go (is_turn turn bound place)
  where
    go : (c : Bool) → cond c true b ≡ (c || b)
    go true = refl
    go false = refl

pub less_at : (turn : Turn) (bound place : ℕ) (b : Bool)
    → cond (is_at (by_turn turn) (record { bound = bound; place = place })) false b ≡ (not (is_turn turn bound place) && b)
less_at turn bound place b = ap (λ (c : Bool). cond c false b) (found_at turn bound place) ∙ go (is_turn turn bound place)
  where
    go : (c : Bool) → cond c false b ≡ (not c && b)
    go true = refl
    go false = refl

-- a turn that is not later
pub not_later : (turn other : Turn) → is_gt (by_turn turn other) ≡ false → (turn.bound ≤ other.bound) × (other.bound ≡ turn.bound → turn.place ≤ other.place)
not_later turn other is = go (nat_lt turn.bound other.bound) refl (nat_eq turn.bound other.bound) refl is
  where
    go : (l : Bool) → nat_lt turn.bound other.bound ≡ l → (e : Bool) → nat_eq turn.bound other.bound ≡ e
        → is_gt (ordering_then (cond l Less (cond e Equal Greater)) (nat_cmp turn.place other.place)) ≡ false
        → (turn.bound ≤ other.bound) × (other.bound ≡ turn.bound → turn.place ≤ other.place)
    go true less e same late = let low = ltb-true turn.bound other.bound less in (omega (arith, low), λ h. absurd (omega (arith, low, h)))
    go false less true same late =
        let here = eqb-true turn.bound other.bound same in (omega (arith, here), λ h. le_from_not_gt turn.place other.place late)
    go false less false same late = cc

-- The first turn is of the log that brings the next line

module _ (turns : Turns) (queues : List Queue) (are : AreTurns turns queues) where
  -- each log has its turn
  has_own : (k : ℕ) → k < length queues → has_turn turns (bound_of (get_or queues k new_queue)) k ≡ true
  has_own k within =
      are (bound_of (get_or queues k new_queue)) k
      ∙ ap (λ (b : Bool). b && nat_eq (bound_of (get_or queues k new_queue)) (bound_of (get_or queues k new_queue))) (lt-ltb k (length queues) within)
      ∙ eq-eqb (bound_of (get_or queues k new_queue)) (bound_of (get_or queues k new_queue)) refl

  -- a turn is that of its log
  pub own : (turn : Turn) → has_turn turns turn.bound turn.place ≡ true
      → (turn.place < length queues) × (bound_of (get_or queues turn.place new_queue) ≡ turn.bound)
  own turn is =
      let both =
      and_parts (nat_lt turn.place (length queues)) (nat_eq (bound_of (get_or queues turn.place new_queue)) turn.bound)
      (sym (are turn.bound turn.place) ∙ is) in
      (ltb-true turn.place (length queues) both.0, eqb-true (bound_of (get_or queues turn.place new_queue)) turn.bound both.1)

  pub first_least : (turn : Turn) → IsFirstTurn turns turn → IsFirstLeast (bounds_of queues) turn.place
  first_least turn first =
      record {
        within = omega (arith, place, many);
        before = λ k below. before k below;
        least = λ k within. (let low = low_at k (omega (arith, within, many)) in
            let other = bound_at queues k (omega (arith, within, many)) in omega (arith, low.0, mine, bound, other));
      }
    where
      many : length (bounds_of queues) ≡ length queues
      many = length-map queues bound_of

      place : turn.place < length queues
      place = (own turn first.is).0

      bound : bound_of (get_or queues turn.place new_queue) ≡ turn.bound
      bound = (own turn first.is).1

      mine : get_or (bounds_of queues) turn.place 0 ≡ bound_of (get_or queues turn.place new_queue)
      mine = bound_at queues turn.place place

      low_at : (k : ℕ) → k < length queues
          → (turn.bound ≤ bound_of (get_or queues k new_queue)) × (bound_of (get_or queues k new_queue) ≡ turn.bound → turn.place ≤ k)
      low_at k within =
          (first.least (bound_of (get_or queues k new_queue)) k (has_own k within), first.tied (bound_of (get_or queues k new_queue)) k (has_own k within))

      before : (k : ℕ) → k < turn.place → get_or (bounds_of queues) turn.place 0 < get_or (bounds_of queues) k 0
      before k below =
          let within : k < length queues = omega (arith, below, place) in
          let low = low_at k within in
          let other = bound_at queues k within in
          elim (cases_eq (bound_of (get_or queues k new_queue)) turn.bound) [
            | inl same ↦ (let late = low.1 same in absurd (omega (arith, late, below)))
            | inr apart ↦ (let less = low.0 in omega (arith, less, apart, mine, bound, other))
          ]

-- with no turn there is no log
pub no_logs : (turns : Turns) (queues : List Queue) → AreTurns turns queues → ((bound place : ℕ) → has_turn turns bound place ≡ false) → queues ≡ []
no_logs turns [] are none = refl
no_logs turns (q ∷ queues) are none =
    let there : false ≡ true = sym (none (bound_of q) 0) ∙ has_own turns (q ∷ queues) are 0 (omega arith) in cc

pub none_pops : (queues : List Queue) → queues ≡ [] → PopsSettled queues queues None
none_pops queues is = subst (λ (qs : List Queue). PopsSettled qs qs None) (sym is) (refl, λ kept. refl)

-- One log more

own_turn : (x b p : ℕ) → is_turn (record { bound = x; place = p }) b p ≡ nat_eq x b
own_turn x b p = ap (λ (c : Bool). nat_eq x b && c) (eq-eqb p p refl) ∙ and_true (nat_eq x b)

other_turn : (x b p k : ℕ) → nat_eq p k ≡ false → is_turn (record { bound = x; place = p }) b k ≡ false
other_turn x b p k other = ap (λ (c : Bool). nat_eq x b && c) other ∙ and_false (nat_eq x b)

-- one more turn
abbrev pub IsMore : Turn → Turns → Turns → Type 0
IsMore turn old new = (bound place : ℕ) → has_turn new bound place ≡ (is_turn turn bound place || has_turn old bound place)

pub one_log_more : (old new : Turns) (queues : List Queue) (place : ℕ) → place ≡ length queues → AreTurns old queues
    → IsMore (record { bound = 0; place = place }) old new
    → AreTurns new (queues ++ new_queue ∷ [])
one_log_more old new queues place is are more b k = more b k ∙ go (nat_eq place k) refl
  where
    all : List Queue
    all = queues ++ new_queue ∷ []

    many : length all ≡ length queues + 1
    many = length-append queues (new_queue ∷ [])

    go : (c : Bool) → nat_eq place k ≡ c → (is_turn (record { bound = 0; place = place }) b k || has_turn old b k) ≡ is_bound all b k
    go true same =
        subst (λ (m : ℕ). (is_turn (record { bound = 0; place = place }) b m || has_turn old b m) ≡ is_bound all b m) (eqb-true place k same)
        (ap (λ (c : Bool). c || has_turn old b place) (own_turn 0 b place)
        ∙ ap (λ (c : Bool). nat_eq 0 b || c)
        (are b place ∙ ap (λ (c : Bool). c && nat_eq (bound_of (get_or queues place new_queue)) b) (le-ltb place (length queues) (omega (arith, is))))
        ∙ or-false (nat_eq 0 b)
        ∙ sym (ap (λ (c : Bool). c && nat_eq (bound_of (get_or all place new_queue)) b) (lt-ltb place (length all) (omega (arith, many, is)))
        ∙ ap (λ (r : Queue). nat_eq (bound_of r) b)
        (ap (λ (m : ℕ). get_or all m new_queue) is ∙ get_or-append_seam queues new_queue [] new_queue)))
    go false other = ap (λ (c : Bool). c || has_turn old b k) (other_turn 0 b place k other) ∙ are b k ∙ rest (nat_lt k (length queues)) refl
      where
        rest : (l : Bool) → nat_lt k (length queues) ≡ l → is_bound queues b k ≡ is_bound all b k
        rest true inside =
            let within : k < length queues = ltb-true k (length queues) inside in
            ap (λ (c : Bool). c && nat_eq (bound_of (get_or queues k new_queue)) b) inside
            ∙ sym (ap (λ (c : Bool). c && nat_eq (bound_of (get_or all k new_queue)) b) (lt-ltb k (length all) (omega (arith, many, within)))
            ∙ ap (λ (r : Queue). nat_eq (bound_of r) b) (get_or_append_left queues (new_queue ∷ []) new_queue k within))
        rest false outside =
            let past : length queues ≤ k = ltb-false k (length queues) outside in
            let apart : place ≢ k = eqb-false place k other in
            ap (λ (c : Bool). c && nat_eq (bound_of (get_or queues k new_queue)) b) outside
            ∙ sym (ap (λ (c : Bool). c && nat_eq (bound_of (get_or all k new_queue)) b) (le-ltb k (length all) (omega (arith, many, past, apart, is))))
