-- Waiting flights and the entries of their dues.
use Rattle.std.proofs.Common.{◌≡◌, ℕ, ◌<◌, ◌≤◌, true, cond, ◌&&◌, List, [], ◌∷◌, Option, Some, None, nat_eq, ◌⊎◌, inl, inr, refl, sym, ◌∙◌, ap, subst, arith}
use Rattle.std.specs.List.{list_any, filter, All}
use Rattle.std.specs.Option.{is_some, IfNone}
use Rattle.std.specs.List.Sorted.{IsPermutation}
use Rattle.std.proofs.lemmas.List.Sorted.{list_any-IsPermutation, All-permutation}
use Rattle.std.proofs.lemmas.Map.Views.{any-filter_same}
use Rattle.std.proofs.lemmas.List.Elements.{filter_passes}
use Rattle.std.proofs.lemmas.Option.{same_Some, none-some}
use Rattle.std.proofs.lemmas.List.Elements.{All-head, All-tail}
use Rattle.std.proofs.lemmas.Bool.{cases_eq, eq-eqb, ne_eqb, eqb-true, or_left, or_right, or_cases, and_parts, and_from}
use Rattle.sd_monitors.specs.declared.loss.flights.WaitingFlight.{WaitingFlight}
use Rattle.sd_monitors.specs.loss.flights.UnorderedKept.{Entry, entry, is_entry_of, is_waiting, AreListed}

own_entry : (f : WaitingFlight) → is_entry_of f (entry f.due f.number) ≡ true
own_entry f = and_from (nat_eq f.due f.due) (nat_eq f.number f.number) (eq-eqb f.due f.due refl) (eq-eqb f.number f.number refl)

-- a flight more, with its entry
pub listed_more : (old new : ℕ → Option WaitingFlight) (xs ys : List Entry) (f : WaitingFlight) → AreListed old xs
    → ((n : ℕ) → new n ≡ cond (nat_eq f.number n) (Some f) (old n))
    → IsPermutation (entry f.due f.number ∷ xs) ys → AreListed new ys
listed_more old new xs ys f h is same =
    record { numbered = λ n g at. by_number n g (cases_eq f.number n) at; listed = λ n g at. moved g (in_longer n g (cases_eq f.number n) at) }
  where
    here : (n : ℕ) (g : WaitingFlight) → f.number ≡ n → new n ≡ Some g → f ≡ g
    here n g this at = let is_f : new n ≡ Some f = is n ∙ rw (eq-eqb f.number n this) refl in same_Some f g (sym is_f ∙ at)

    there : (n : ℕ) (g : WaitingFlight) → (f.number ≡ n → ⊥) → new n ≡ Some g → old n ≡ Some g
    there n g other at = sym (is n ∙ rw (ne_eqb f.number n other) refl) ∙ at

    by_number : (n : ℕ) (g : WaitingFlight) → (f.number ≡ n) ⊎ (f.number ≡ n → ⊥) → new n ≡ Some g → g.number ≡ n
    by_number n g (inl this) at = sym (ap (λ (k : WaitingFlight). k.number) (here n g this at)) ∙ this
    by_number n g (inr other) at = h.numbered n g (there n g other at)

    in_longer : (n : ℕ) (g : WaitingFlight) → (f.number ≡ n) ⊎ (f.number ≡ n → ⊥) → new n ≡ Some g → list_any (is_entry_of g) (entry f.due f.number ∷ xs) ≡ true
    in_longer n g (inl this) at =
        or_left (is_entry_of g (entry f.due f.number)) (list_any (is_entry_of g) xs)
        (subst (λ (k : WaitingFlight). is_entry_of k (entry f.due f.number) ≡ true) (here n g this at) (own_entry f))
    in_longer n g (inr other) at = or_right (is_entry_of g (entry f.due f.number)) (list_any (is_entry_of g) xs) (h.listed n g (there n g other at))

    moved : (g : WaitingFlight) → list_any (is_entry_of g) (entry f.due f.number ∷ xs) ≡ true → list_any (is_entry_of g) ys ≡ true
    moved g in_it = sym (list_any-IsPermutation (is_entry_of g) (entry f.due f.number ∷ xs) ys same) ∙ in_it

-- an entry less, which is that of no flight any more
pub listed_less : (old new : ℕ → Option WaitingFlight) (xs ys : List Entry) (due number : ℕ) → AreListed old xs
    → ((n : ℕ) (f : WaitingFlight) → new n ≡ Some f → old n ≡ Some f)
    → ((f : WaitingFlight) → new number ≡ Some f → f.due ≡ due → ⊥) → IsPermutation xs (entry due number ∷ ys) → AreListed new ys
listed_less old new xs ys due number h fewer gone same =
    record {
      numbered = λ n f at. h.numbered n f (fewer n f at);
      listed = λ n f at. left n f at (or_cases (is_entry_of f (entry due number)) (list_any (is_entry_of f) ys) (moved f (h.listed n f (fewer n f at))));
    }
  where
    moved : (f : WaitingFlight) → list_any (is_entry_of f) xs ≡ true → list_any (is_entry_of f) (entry due number ∷ ys) ≡ true
    moved f in_it = sym (list_any-IsPermutation (is_entry_of f) xs (entry due number ∷ ys) same) ∙ in_it

    left : (n : ℕ) (f : WaitingFlight) → new n ≡ Some f → (is_entry_of f (entry due number) ≡ true) ⊎ (list_any (is_entry_of f) ys ≡ true)
        → list_any (is_entry_of f) ys ≡ true
    left n f at (inr rest) = rest
    left n f at (inl its) =
        let parts = and_parts (nat_eq due f.due) (nat_eq number f.number) its in
        let this : number ≡ n = eqb-true number f.number parts.1 ∙ h.numbered n f (fewer n f at) in
        absurd (gone f (subst (λ (k : ℕ). new k ≡ Some f) (sym this) at) (sym (eqb-true due f.due parts.0)))

-- an entry before the reference is popped, and its flight taken out where its due lies before the reference
pub listed_taken : (old new : ℕ → Option WaitingFlight) (xs ys : List Entry) (due number reference : ℕ) (result : Option WaitingFlight) → AreListed old xs → due < reference
    → IsPermutation xs (entry due number ∷ ys)
    → ((n : ℕ) → new n ≡ cond (is_some result && nat_eq number n) None (old n)) → IfNone result ((f : WaitingFlight) → old number ≡ Some f → reference ≤ f.due)
    → AreListed new ys
listed_taken old new xs ys due number reference None h early same is none =
    listed_less old new xs ys due number h (λ n f at. sym (is n) ∙ at) (λ f at is_due. let late : reference ≤ f.due = none f (sym (is number) ∙ at) in
    omega (arith, early, late, is_due)) same
listed_taken old new xs ys due number reference (Some taken) h early same is none =
    listed_less old new xs ys due number h (λ n f at. fewer n f (cases_eq number n) at) (λ f at is_due. nothing f at) same
  where
    fewer : (n : ℕ) (f : WaitingFlight) → (number ≡ n) ⊎ (number ≡ n → ⊥) → new n ≡ Some f → old n ≡ Some f
    fewer n f (inl this) at = let empty : new n ≡ None = is n ∙ rw (eq-eqb number n this) refl in absurd (none-some f (sym empty ∙ at))
    fewer n f (inr other) at = sym (is n ∙ rw (ne_eqb number n other) refl) ∙ at

    nothing : (f : WaitingFlight) → new number ≡ Some f → ⊥
    nothing f at = let empty : new number ≡ None = is number ∙ rw (eq-eqb number number refl) refl in none-some f (sym empty ∙ at)

late_entry : (reference : ℕ) (f : WaitingFlight) (xs : List Entry) → list_any (is_entry_of f) xs ≡ true → All (λ e. reference ≤ e.0.0) xs → reference ≤ f.due
late_entry reference f [] in_it each = cc
late_entry reference f (e ∷ xs) in_it each =
    by_case (or_cases (is_entry_of f e) (list_any (is_entry_of f) xs) in_it)
    (λ rest. late_entry reference f xs rest (All-tail (λ (k : Entry). reference ≤ k.0.0) e xs each))
  where
    by_case : (is_entry_of f e ≡ true) ⊎ (list_any (is_entry_of f) xs ≡ true) → (list_any (is_entry_of f) xs ≡ true → reference ≤ f.due) → reference ≤ f.due
    by_case (inl its) others =
        let late : reference ≤ e.0.0 = All-head (λ (k : Entry). reference ≤ k.0.0) e xs each in
        let same : e.0.0 ≡ f.due = eqb-true e.0.0 f.due (and_parts (nat_eq e.0.0 f.due) (nat_eq e.0.1 f.number) its).0 in
        omega (arith, late, same)
    by_case (inr rest) others = others rest

-- where no entry lies before the reference, no flight is overdue
pub none_overdue : (flights : ℕ → Option WaitingFlight) (xs : List Entry) (reference : ℕ) → AreListed flights xs → All (λ e. reference ≤ e.0.0) xs
    → (n : ℕ) (f : WaitingFlight) → flights n ≡ Some f → reference ≤ f.due
none_overdue flights xs reference h each n f at = late_entry reference f xs (h.listed n f at) each

-- The entries of flights that wait

-- an entry of a flight that waits is among them
own_waits : (flights : ℕ → Option WaitingFlight) (n : ℕ) (f : WaitingFlight) → flights n ≡ Some f → f.number ≡ n → (e : Entry) → is_entry_of f e ≡ true
    → is_waiting flights e ≡ true
own_waits flights n f at numbered e its =
    let parts = and_parts (nat_eq e.0.0 f.due) (nat_eq e.0.1 f.number) its in
    let here : flights e.0.1 ≡ Some f = ap flights (eqb-true e.0.1 f.number parts.1 ∙ numbered) ∙ at in
    rw here (eq-eqb f.due e.0.0 (sym (eqb-true e.0.0 f.due parts.0)))

pub listed_waiting : (flights : ℕ → Option WaitingFlight) (xs ys : List Entry) → AreListed flights xs → IsPermutation (filter (is_waiting flights) xs) ys
    → AreListed flights ys
listed_waiting flights xs ys h same =
    record {
      numbered = h.numbered;
      listed =
          λ n f at.
          sym (list_any-IsPermutation (is_entry_of f) (filter (is_waiting flights) xs) ys same)
          ∙ any-filter_same (is_entry_of f) (is_waiting flights) true (own_waits flights n f at (h.numbered n f at)) xs
          ∙ h.listed n f at;
    }

pub all_waiting : (flights : ℕ → Option WaitingFlight) (xs ys : List Entry) → IsPermutation (filter (is_waiting flights) xs) ys
    → All (λ e. is_waiting flights e ≡ true) ys
all_waiting flights xs ys same =
    All-permutation (λ (e : Entry). is_waiting flights e ≡ true) (filter (is_waiting flights) xs) ys same (filter_passes (is_waiting flights) xs)
