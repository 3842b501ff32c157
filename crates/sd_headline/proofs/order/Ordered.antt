-- Commit wait keeps order: reports contain their references, and references do not fall.
use Rattle.std.specs.Prelude.{◌≡◌, ℕ, zero, suc, ◌+◌, ◌≤◌, ◌<◌, Bool, true, false, ◌&&◌, List, [], ◌∷◌, ◌++◌, length, find, nat_eq, nat_le, nat_lt, Option, Some, None, option_map, option_to_list, slice_get, ◌⊎◌, cond, refl}
use Rattle.std.specs.List.{list_any, list_all}
use Rattle.std.proofs.Common.{arith, sym, ap, subst, inl, inr}
use Rattle.std.proofs.lemmas.Bool.{and_parts, leb-true, ltb-true, false_from_ne_true, or_cases}
use Rattle.std.proofs.lemmas.Option.{slice_get_within}
use Rattle.sd_num.proofs.Firsts.{find_passes}
use Rattle.sd_num.specs.Lists.{map_or, below}
use Rattle.sd_num.specs.declared.clock.Report.{Report}
use Rattle.sd_num.specs.clock.Estimates.{contains}
use Rattle.sd_device.specs.msg.Observed.{ReportAt}
use Rattle.sd_sched.specs.declared.Event.{Event}
use Rattle.sd_sched.specs.Events.{reference_of}
use Rattle.sd_history.specs.World.{Setting, latest_reference}
use Rattle.sd_history.specs.Steps.{seen_of}
use Rattle.sd_history.specs.Chronicle.{next_step, chronicle, IsHistory}
use Rattle.sd_history.specs.Lines.{reports, asked_report}
use Rattle.sd_history.proofs.Among.{passes}
use Rattle.sd_history.proofs.Contained.{reports_contain, time_goes_on}
use Rattle.sd_replay.specs.wait.Waits.{stamp_of, surely_after, ends_by, end_place, stamp_at, has_ended_by, is_disorder, has_disorder}
use Rattle.sd_history.proofs.Given.{some_is}
use Rattle.sd_history.proofs.Shared.{among_at}
use Rattle.sd_headline.specs.order.Order.{KeepsOrder}

-- a place of a longer list is one of the list before, or the last
last_or_before : {A : Type 0} (xs : List A) (z : A) (p : ℕ) (x : A) → slice_get (xs ++ z ∷ []) p ≡ Some x
    → (slice_get xs p ≡ Some x) ⊎ ((z ≡ x) × (p ≡ length xs))
last_or_before [] z zero x same = inr (some_is same, refl)
last_or_before [] z (suc p) x same = cc
last_or_before (y ∷ ys) z zero x same = inl same
last_or_before (y ∷ ys) z (suc p) x same = elim (last_or_before ys z p x same) [ inl h ↦ inl h | inr h ↦ inr (h.0, ap suc h.1) ]

-- references do not fall along the list, and none is past the bound
record Ascends (l : ℕ) (told : List ReportAt) : Type 0 where
  each : (p q : ℕ) (x y : ReportAt) → p ≤ q → slice_get told p ≡ Some x → slice_get told q ≡ Some y → x.reference ≤ y.reference
  bound : (p : ℕ) (x : ReportAt) → slice_get told p ≡ Some x → x.reference ≤ l

longer : (l r : ℕ) (told : List ReportAt) (z : ReportAt) → Ascends l told → l ≤ r → z.reference ≡ r → Ascends r (told ++ z ∷ [])
longer l r told z up le last =
    record {
      each = λ p q x y before here there. by_last p q x y before here (last_or_before told z p x here) (last_or_before told z q y there);
      bound = λ p x here. bound_by p x (last_or_before told z p x here);
    }
  where
    bound_by : (p : ℕ) (x : ReportAt) → (slice_get told p ≡ Some x) ⊎ ((z ≡ x) × (p ≡ length told)) → x.reference ≤ r
    bound_by p x (inl h) = let b : x.reference ≤ l = up.bound p x h in omega (arith, b, le)
    bound_by p x (inr h) = let e : z.reference ≡ x.reference = ap (λ (w : ReportAt). w.reference) h.0 in omega (arith, e, last)

    by_last : (p q : ℕ) (x y : ReportAt) → p ≤ q → slice_get (told ++ z ∷ []) p ≡ Some x → (slice_get told p ≡ Some x) ⊎ ((z ≡ x) × (p ≡ length told))
        → (slice_get told q ≡ Some y) ⊎ ((z ≡ y) × (q ≡ length told)) → x.reference ≤ y.reference
    by_last p q x y before here (inl h) (inl k) = up.each p q x y before h k
    by_last p q x y before here (inl h) (inr k) = let b : x.reference ≤ l = up.bound p x h in
        let e : z.reference ≡ y.reference = ap (λ (w : ReportAt). w.reference) k.0 in omega (arith, b, e, le, last)
    by_last p q x y before here (inr h) (inl k) = let small : q < length told = slice_get_within told q y k in omega (arith, small, before, h.1)
    by_last p q x y before here (inr h) (inr k) = let e : z.reference ≡ x.reference = ap (λ (w : ReportAt). w.reference) h.0 in
        let f : z.reference ≡ y.reference = ap (λ (w : ReportAt). w.reference) k.0 in omega (arith, e, f)

no_longer : (l r : ℕ) (told : List ReportAt) → Ascends l told → l ≤ r → Ascends r (told ++ [])
no_longer l r told up le =
    subst (Ascends r) (sym (append_nil told))
    (record { each = up.each; bound = λ p x here. let b : x.reference ≤ l = up.bound p x here in omega (arith, b, le) })
  where
    append_nil : (xs : List ReportAt) → xs ++ [] ≡ xs
    append_nil [] = refl
    append_nil (x ∷ xs) = ap (λ ys. x ∷ ys) (append_nil xs)

with_latest : (l r n : ℕ) (told : List ReportAt) (o : Option (ℕ × Report)) → Ascends l told → l ≤ r
    → Ascends r (told ++ option_to_list (option_map (λ (t : ℕ × Report). record { line = n; device = t.0; reference = r; report = t.1 }) o))
with_latest l r n told None up le = no_longer l r told up le
with_latest l r n told (Some t) up le = longer l r told (record { line = n; device = t.0; reference = r; report = t.1 }) up le refl

ascending : (setting : Setting) (history : List Event) → IsHistory setting history
    → Ascends (latest_reference (seen_of (chronicle setting history))) (reports (chronicle setting history))
ascending setting [] is = record { each = λ p q x y before here there. cc; bound = λ p x here. cc }
ascending setting (e ∷ earlier) is =
    with_latest (latest_reference (seen_of (chronicle setting earlier))) (reference_of e) (length (chronicle setting earlier) + 1)
    (reports (chronicle setting earlier)) (asked_report (next_step setting (chronicle setting earlier) e))
    (ascending setting earlier is.0) (time_goes_on setting (chronicle setting earlier) e is.1)

-- what the parts of a disorder say, by numbers
no_disorder : (stamp_i stamp_k eps_j clock_j ref_j ref_k : ℕ) → stamp_i + eps_j < clock_j → clock_j ≤ ref_j + eps_j → ref_j ≤ ref_k → ref_k ≤ stamp_k
    → stamp_k ≤ stamp_i → ⊥
no_disorder stamp_i stamp_k eps_j clock_j ref_j ref_k after lower order upper less = omega (arith, after, lower, order, upper, less)

past_end : {A : Type 0} (xs : List A) (p : ℕ) → slice_get xs p ≡ None → length xs ≤ p
past_end [] p same = omega arith
past_end (y ∷ ys) zero same = cc
past_end (y ∷ ys) (suc p) same = let h : length ys ≤ p = past_end ys p same in omega (arith, h)

module _ (l : ℕ) (told : List ReportAt) (up : Ascends l told) (contained : list_all (λ r. contains r.report r.reference) told ≡ true) where
  bounds : (p : ℕ) (x : ReportAt) → slice_get told p ≡ Some x → (x.report.clock ≤ x.reference + x.report.eps) × (x.reference ≤ x.report.clock + x.report.eps)
  bounds p x here =
      let both : (nat_le x.report.clock (x.reference + x.report.eps) ≡ true) × (nat_le x.reference (x.report.clock + x.report.eps) ≡ true) =
      and_parts (nat_le x.report.clock (x.reference + x.report.eps)) (nat_le x.reference (x.report.clock + x.report.eps))
      (passes (λ r. contains r.report r.reference) (among_at told p x here) contained) in
      (leb-true x.report.clock (x.reference + x.report.eps) both.0, leb-true x.reference (x.report.clock + x.report.eps) both.1)

  three : (i j k : ℕ) (a b c : ReportAt) → slice_get told i ≡ Some a → slice_get told j ≡ Some b → slice_get told k ≡ Some c → j ≤ k → surely_after a b ≡ true
      → stamp_of c ≤ stamp_of a → ⊥
  three i j k a b c at_i at_j at_k order after less =
      let parts : (nat_eq a.device b.device ≡ true) × (nat_lt (stamp_of a + b.report.eps) b.report.clock ≡ true) =
      and_parts (nat_eq a.device b.device) (nat_lt (stamp_of a + b.report.eps) b.report.clock) after in
      no_disorder (stamp_of a) (stamp_of c) b.report.eps b.report.clock b.reference c.reference (ltb-true (stamp_of a + b.report.eps) b.report.clock parts.1)
      (bounds j b at_j).0 (up.each j k b c order at_j at_k) (bounds k c at_k).1 less

  by_k : (i j k : ℕ) (a b : ReportAt) → slice_get told i ≡ Some a → slice_get told j ≡ Some b → j ≤ k → k < length told → surely_after a b ≡ true
      → (o : Option ReportAt) → slice_get told k ≡ o → map_or o 0 stamp_of ≤ stamp_of a → ⊥
  by_k i j k a b at_i at_j order small after None at_k less = let h : length told ≤ k = past_end told k at_k in omega (arith, h, small)
  by_k i j k a b at_i at_j order small after (Some c) at_k less = three i j k a b c at_i at_j at_k order after less

  by_j : (i j k : ℕ) (a : ReportAt) → slice_get told i ≡ Some a → j ≤ k → k < length told → (o : Option ReportAt) → slice_get told j ≡ o
      → map_or o false (surely_after a) ≡ true → stamp_at told k ≤ stamp_of a → ⊥
  by_j i j k a at_i order small None at_j after less = cc
  by_j i j k a at_i order small (Some b) at_j after less = by_k i j k a b at_i at_j order small after (slice_get told k) refl less

  by_i : (i j k : ℕ) → j ≤ k → k < length told → (o : Option ReportAt) → slice_get told i ≡ o
      → map_or o false (λ a. map_or (slice_get told j) false (surely_after a)) ≡ true → stamp_at told k ≤ map_or o 0 stamp_of → ⊥
  by_i i j k order small None at_i after less = cc
  by_i i j k order small (Some a) at_i after less = by_j i j k a at_i order small (slice_get told j) refl after less

  by_end : (i k : ℕ) → k < length told → (o : Option ℕ) → end_place told i ≡ o → map_or o false (λ j. nat_le j k) ≡ true → stamp_at told k ≤ stamp_at told i
      → ⊥
  by_end i k small None ends by less = cc
  by_end i k small (Some j) ends by less =
      let found : (nat_lt i j ≡ true) × (ends_by told i j ≡ true) =
      and_parts (nat_lt i j) (ends_by told i j) (find_passes (λ q. nat_lt i q && ends_by told i q) (below (length told)) j ends) in
      by_i i j k (leb-true j k by) small (slice_get told i) refl found.1 less

  never : (i k : ℕ) → k < length told → is_disorder told i k ≡ true → ⊥
  never i k small disorder =
      let outer : ((has_ended_by told i k && nat_lt i k) ≡ true) × (nat_le (stamp_at told k) (stamp_at told i) ≡ true) =
      and_parts (has_ended_by told i k && nat_lt i k) (nat_le (stamp_at told k) (stamp_at told i)) disorder in
      let inner : (has_ended_by told i k ≡ true) × (nat_lt i k ≡ true) = and_parts (has_ended_by told i k) (nat_lt i k) outer.0 in
      by_end i k small (end_place told i) refl inner.0 (leb-true (stamp_at told k) (stamp_at told i) outer.1)

  none_of : (k : ℕ) → k < length told → (xs : List ℕ) → list_any (λ i. is_disorder told i k) xs ≡ true → ⊥
  none_of k small [] some = cc
  none_of k small (i ∷ xs) some =
      elim (or_cases (is_disorder told i k) (list_any (λ q. is_disorder told q k) xs) some) [ inl h ↦ never i k small h | inr h ↦ none_of k small xs h ]

pub keeps_order : (setting : Setting) → KeepsOrder setting
keeps_order setting history is honest k small =
    let told = reports (chronicle setting history) in
    false_from_ne_true (has_disorder told k)
    (none_of (latest_reference (seen_of (chronicle setting history))) told (ascending setting history is) (reports_contain setting history is honest) k small
    (below (length told)))
