-- What the latest event does to what came about in the open window, and to the mark that tells it.
use Rattle.std.proofs.Common.{◌≡◌, ℕ, ◌+◌, ◌≤◌, Bool, true, false, not, ◌||◌, cond, List, [], ◌∷◌, Option, Some, None, is_some, option_map, refl, sym, ap, ◌∙◌, arith}
use Rattle.std.specs.Prelude.{IfSome, if◌then◌else◌}
use Rattle.std.specs.List.{list_any}
use Rattle.std.proofs.lemmas.Bool.{eq-eqb, ne_eqb}
use Rattle.sd_num.specs.Lists.{map_or, same_number, find_map_or, leading}
use Rattle.sd_sched.specs.Events.{joined, given, is_stage, is_seal}
use Rattle.sd_history.specs.Things.{mended}
use Rattle.sd_history.specs.World.{Seen, window, window_is_open}
use Rattle.sd_history.specs.Premises.{has_mend, has_seal, was_given}
use Rattle.sd_monitors.specs.declared.renewal.mark.Mark.{Mark}
use Rattle.sd_monitors.specs.renewal.Marks.{is_marked, mark_after, MarkStands}
use Rattle.sd_monitors.specs.renewal.Windowed.{came_about, so_if, tells_mended, tells_sealed, tells_given}

-- The words on the open window

any_latest : (test : Seen → Bool) (w : List Seen) → list_any test w ≡ find_map_or (λ s. so_if (test s)) w false
any_latest test [] = refl
any_latest test (s ∷ w) = by (test s) (any_latest test w)
  where
    by : (b : Bool) → list_any test w ≡ find_map_or (λ x. so_if (test x)) w false
        → (b || list_any test w) ≡ map_or (so_if b) (find_map_or (λ x. so_if (test x)) w false) (λ told. told)
    by true rest = refl
    by false rest = rest

pub mend_came : (seen : List Seen) → has_mend seen ≡ came_about tells_mended seen
mend_came seen = by (window seen)
  where
    by : (o : Option (List Seen)) → map_or o false (list_any (λ s. is_some (mended s.event))) ≡ map_or o false (λ w. find_map_or tells_mended w false)
    by None = refl
    by (Some w) = any_latest (λ s. is_some (mended s.event)) w

pub seal_came : (seen : List Seen) → has_seal seen ≡ came_about tells_sealed seen
seal_came seen = by (window seen)
  where
    by : (o : Option (List Seen)) → map_or o false (list_any (λ s. is_seal s.event)) ≡ map_or o false (λ w. find_map_or tells_sealed w false)
    by None = refl
    by (Some w) = any_latest (λ s. is_seal s.event) w

pub given_came : (seen : List Seen) (d : ℕ) → was_given seen d ≡ came_about (tells_given d) seen
given_came seen d = by (window seen)
  where
    since : (w : List Seen)
        → list_any (λ s. same_number (given s.event) d) (leading (λ s. not (same_number (joined s.event) d)) w) ≡ find_map_or (tells_given d) w false
    since [] = refl
    since (s ∷ w) = at (same_number (joined s.event) d) (same_number (given s.event) d) refl (since w)
      where
        at : (j g : Bool) → same_number (given s.event) d ≡ g
            → list_any (λ x. same_number (given x.event) d) (leading (λ x. not (same_number (joined x.event) d)) w) ≡ find_map_or (tells_given d) w false
            → list_any (λ x. same_number (given x.event) d) (cond (not j) (s ∷ leading (λ x. not (same_number (joined x.event) d)) w) [])
            ≡ map_or (cond j (Some false) (so_if g)) (find_map_or (tells_given d) w false) (λ told. told)
        at true g is rest = refl
        at false true is rest = ap (λ b. b || list_any (λ x. same_number (given x.event) d) (leading (λ x. not (same_number (joined x.event) d)) w)) is
        at false false is rest = ap (λ b. b || list_any (λ x. same_number (given x.event) d) (leading (λ x. not (same_number (joined x.event) d)) w)) is ∙ rest

    by : (o : Option (List Seen))
        → map_or o false (λ w. list_any (λ s. same_number (given s.event) d) (leading (λ s. not (same_number (joined s.event) d)) w))
        ≡ map_or o false (λ w. find_map_or (tells_given d) w false)
    by None = refl
    by (Some w) = since w

-- Marks

-- the mark after an event that tells nothing, or opens a window
abbrev pub next_mark : Bool → Option Bool → ℕ → Mark → Mark
next_mark stage told windows mark = if stage then mark else mark_after told windows mark

abbrev pub next_windows : Bool → ℕ → ℕ
next_windows stage windows = if stage then windows + 1 else windows

before_next : (stage : Bool) (told : Option Bool) (windows : ℕ) (mark : Mark) → IfSome mark.window (λ n. n ≤ windows)
    → IfSome (next_mark stage told windows mark).window (λ n. n ≤ next_windows stage windows)
before_next true told windows mark low = up mark.window low
  where
    up : (o : Option ℕ) → IfSome o (λ n. n ≤ windows) → IfSome o (λ n. n ≤ windows + 1)
    up None low = tt
    up (Some n) low = omega (arith, low)
before_next false None windows mark low = low
before_next false (Some true) windows mark low = omega arith
before_next false (Some false) windows mark low = tt

-- the event leaves what the mark tells what came about
pub mark_next : (tells : Seen → Option Bool) (s : Seen) (earlier : List Seen) (windows : ℕ) (mark : Mark)
    → MarkStands (window_is_open earlier) windows mark (came_about tells earlier)
    → MarkStands (window_is_open (s ∷ earlier)) (next_windows (is_stage s.event) windows) (next_mark (is_stage s.event) (tells s) windows mark)
    (came_about tells (s ∷ earlier))
mark_next tells s earlier windows mark stands = record {
  is = by s.closed (is_stage s.event) (tells s) refl (window earlier) stands.is;
  before = before_next (is_stage s.event) (tells s) windows mark stands.before;
}
  where
    apart : (o : Option ℕ) → IfSome o (λ n. n ≤ windows) → same_number o (windows + 1) ≡ false
    apart None low = refl
    apart (Some n) low = ne_eqb n (windows + 1) (λ same. omega (arith, low, same))

    open_told : (told : Option Bool) (w : List Seen) → tells s ≡ told → is_marked true windows mark ≡ find_map_or tells w false
        → is_marked true windows (mark_after told windows mark) ≡ find_map_or tells (s ∷ w) false
    open_told None w is was = was ∙ sym (ap (λ (o : Option Bool). map_or o (find_map_or tells w false) (λ b. b)) is)
    open_told (Some true) w is was = eq-eqb windows windows refl ∙ sym (ap (λ (o : Option Bool). map_or o (find_map_or tells w false) (λ b. b)) is)
    open_told (Some false) w is was = sym (ap (λ (o : Option Bool). map_or o (find_map_or tells w false) (λ b. b)) is)

    by : (closed stage : Bool) (told : Option Bool) → tells s ≡ told → (o : Option (List Seen))
        → is_marked (is_some o) windows mark ≡ map_or o false (λ w. find_map_or tells w false)
        → is_marked (is_some (if closed then None else if stage then Some [] else option_map (λ w. s ∷ w) o)) (next_windows stage windows)
        (next_mark stage told windows mark)
        ≡ map_or (if closed then None else if stage then Some [] else option_map (λ w. s ∷ w) o) false (λ w. find_map_or tells w false)
    by true stage told is o was = refl
    by false true told is o was = apart mark.window stands.before
    by false false told is None was = refl
    by false false told is (Some w) was = open_told told w is was
