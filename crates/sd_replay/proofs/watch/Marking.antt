-- Walks that mark what they pass: what holds while one goes on, and what it leaves settled.
use Rattle.std.specs.Prelude.{◌≡◌, ◌≢◌, ℕ, zero, suc, ◌+◌, ◌<◌, ◌≤◌, true, false, List, length, Option, Some, None, nat_eq, slice_get, IfSome, MatchOption, sum_by, replicate, if◌then◌else◌}
use Rattle.std.proofs.Common.{refl, sym, ap, ◌∙◌, arith, inl, inr, set, get_or, subst}
use Rattle.std.proofs.lemmas.Bool.{cases_lt, cases_eq, eqb-true, ne_eqb, eq-eqb, both_ways}
use Rattle.std.proofs.lemmas.List.{get_or-set_same, get_or-set_other}
use Rattle.std.proofs.Math.ListN.{length-set}
use Rattle.std.proofs.lemmas.List.Sums.{sum_by-set}
use Rattle.std.proofs.lemmas.Option.{slice_get_within, slice_get-get_or, get_or_from_slice_get}
use Rattle.sd_num.specs.Lists.{map_or}
use Rattle.sd_replay.specs.watch.Watch.{IsOnLoop, HasNoLoop, IsFirstOnLoop}
use Rattle.sd_replay.specs.watch.Settled.{NoneBefore, IsSettled, mark_at, has_mark, AreAtMost, AreSettled, IsWalk, one_if_new, new_count}
use Rattle.sd_replay.proofs.watch.Following.{one_more}
use Rattle.sd_replay.proofs.watch.Settling.{settled_end, settled_leading}

-- a device with a mark has room for it
pub marked_parts : (marks : List ℕ) (d mark : ℕ) → has_mark marks d mark ≡ true → (d < length marks) × (mark_at marks d ≡ mark)
marked_parts marks d mark has = by (slice_get marks d) refl has
  where
    by : (o : Option ℕ) → slice_get marks d ≡ o → map_or o false (λ m. nat_eq m mark) ≡ true → (d < length marks) × (mark_at marks d ≡ mark)
    by None is has = cc
    by (Some m) is has = (slice_get_within marks d m is, get_or_from_slice_get marks d m 0 is ∙ eqb-true m mark has)

pub has_this_mark : (marks : List ℕ) (d mark : ℕ) → d < length marks → mark_at marks d ≡ mark → has_mark marks d mark ≡ true
has_this_mark marks d mark within at =
    ap (λ o. map_or o false (λ m. nat_eq m mark)) (slice_get-get_or marks d 0 within) ∙ eq-eqb (mark_at marks d) mark at

pub has_other_mark : (marks : List ℕ) (d mark : ℕ) → d < length marks → has_mark marks d mark ≡ false → mark_at marks d ≢ mark
has_other_mark marks d mark within hasnt at = both_ways (has_mark marks d mark) hasnt (has_this_mark marks d mark within at)

-- one device less is new
pub fewer_new : (marks : List ℕ) (d mark : ℕ) → has_mark marks d 0 ≡ true → 0 < mark → new_count (set marks d mark) < new_count marks
fewer_new marks d mark new some =
    let parts : (d < length marks) × (mark_at marks d ≡ 0) = marked_parts marks d 0 new in
    let change : sum_by one_if_new (set marks d mark) + one_if_new (get_or marks d 0) ≡ sum_by one_if_new marks + one_if_new mark =
    sum_by-set one_if_new marks d mark 0 parts.0 in
    let was : one_if_new (get_or marks d 0) ≡ 1 = ap one_if_new parts.1 in
    omega (arith, change, was, none mark some)
  where
    none : (m : ℕ) → 0 < m → one_if_new m ≡ 0
    none zero some = absurd (omega arith)
    none (suc m) some = ap (λ b. if b then 1 else 0) (ne_eqb (suc m) 0 (λ same. omega arith))

module _ (parent : ℕ → Option ℕ) (before : List ℕ) where
  module _ (now : List ℕ) (walk here : ℕ) (is : IsWalk parent before now walk here) where
    pub walk_goes_on : (next : ℕ) → has_mark now here 0 ≡ true → parent here ≡ Some next → IsWalk parent before (set now here walk) walk next
    walk_goes_on next new follows =
        let within : here < length now = (marked_parts now here 0 new).0 in
        record {
          leads = λ d at. elim (cases_eq d here) [
            | inl same ↦ (0, ap parent same ∙ follows)
            | inr apart ↦ let led = is.leads d (sym (get_or-set_other now here d walk 0 apart) ∙ at) in
                (suc led.0, one_more parent (suc led.0) d here led.1 ∙ follows)
          ];
          others = λ d other. elim (cases_eq d here) [
            | inl same ↦ absurd (other (ap (mark_at (set now here walk)) same ∙ get_or-set_same now here walk 0 within))
            | inr apart ↦ get_or-set_other now here d walk 0 apart ∙ is.others d (λ at. other (get_or-set_other now here d walk 0 apart ∙ at))
          ];
        }

    -- what is settled once the walk has come to a settled device
    settled_behind : (first : Option ℕ) → IsSettled parent first here → AreSettled parent first before → AreSettled parent first now
    settled_behind first settled old d marked = elim (cases_eq (mark_at now d) walk) [
      | inl mine ↦ (let led = is.leads d mine in settled_leading parent first (suc led.0) d here led.1 settled)
      | inr other ↦ old d (λ none. marked (is.others d other ∙ none))
    ]

    -- the walk ends at a device with no parent
    pub settled_at_end : (first : Option ℕ) → parent here ≡ None → AreSettled parent first before → AreSettled parent first (set now here walk)
    settled_at_end first none old d marked = elim (cases_eq d here) [
      | inl same ↦ subst (λ e. IsSettled parent first e) (sym same) (settled_end parent first here none)
      | inr apart ↦ settled_behind first (settled_end parent first here none) old d (λ at. marked (get_or-set_other now here d walk 0 apart ∙ at))
    ]

    -- the walk comes to a device that is not new: one that it has passed itself, or one that was settled
    pub settled_when_met : (first : Option ℕ) (size : ℕ) → ((d p : ℕ) → parent d ≡ Some p → d < size) → size ≤ length now → has_mark now here 0 ≡ false
        → (has_mark now here walk ≡ true → IsSettled parent first here) → AreSettled parent first before → AreSettled parent first now
    settled_when_met first size only room passed mine old = settled_behind first (elim (cases_lt here (length now)) [
      | inl inside ↦ elim (cases_eq (mark_at now here) walk) [
        | inl own ↦ mine (has_this_mark now here walk inside own)
        | inr other ↦ old here (λ none. has_other_mark now here 0 inside passed (is.others here other ∙ none))
      ]
      | inr outside ↦ settled_end parent first here (no_parent (parent here) refl outside)
    ]) old
      where
        no_parent : (o : Option ℕ) → parent here ≡ o → length now ≤ here → o ≡ None
        no_parent None follows outside = refl
        no_parent (Some p) follows outside = let inside : here < size = only here p follows in absurd (omega arith)

    -- and in the first case on a loop
    pub on_loop_when_met : has_mark now here walk ≡ true → IsOnLoop parent here
    on_loop_when_met mine = let back = is.leads here (marked_parts now here walk mine).1 in record { steps = back.0; back = back.1 }

-- The device at which a walk begins has its mark once the walk has gone on.
pub not_begun : (marks : List ℕ) (start here walk : ℕ) → 0 < walk → has_mark marks here 0 ≡ true → (has_mark marks start 0 ≡ true → here ≡ start)
    → has_mark (set marks here walk) start 0 ≡ true → ⊥
not_begun marks start here walk some new begins unmarked =
    let within : here < length marks = (marked_parts marks here 0 new).0 in
    let after : (start < length (set marks here walk)) × (mark_at (set marks here walk) start ≡ 0) = marked_parts (set marks here walk) start 0 unmarked in
    elim (cases_eq start here) [
      | inl same ↦ (let now : mark_at (set marks here walk) start ≡ walk = ap (mark_at (set marks here walk)) same ∙ get_or-set_same marks here walk 0 within in
          omega (arith, after.1))
      | inr apart ↦
          let before : has_mark marks start 0 ≡ true =
          has_this_mark marks start 0 (omega (arith, length-set marks here walk, after.0))
          (sym (get_or-set_other marks here start walk 0 apart) ∙ after.1) in
          apart (sym (begins before))
    ]

pub begun : (before now : List ℕ) (start here : ℕ) → has_mark before start 0 ≡ true → length now ≡ length before → (has_mark now start 0 ≡ true → here ≡ start)
    → has_mark now here 0 ≡ false → mark_at now start ≢ 0
begun before now start here new size begins passed none =
    let within : start < length before = (marked_parts before start 0 new).0 in
    let unmarked : has_mark now start 0 ≡ true = has_this_mark now start 0 (omega arith) none in
    both_ways (has_mark now here 0) passed (ap (λ d. has_mark now d 0) (begins unmarked) ∙ unmarked)

-- Of more devices on loops the least is less.
pub lower : (first : Option ℕ) (least d : ℕ) → IfSome first (λ f. least ≤ f) → NoneBefore first d → least ≤ d
lower None least d less none = absurd none
lower (Some f) least d less above = omega (arith, less, above)

pub settled_lower : (parent : ℕ → Option ℕ) (first : Option ℕ) (least d : ℕ) → IfSome first (λ f. least ≤ f) → IsSettled parent first d
    → IsSettled parent (Some least) d
settled_lower parent first least d less settled e leads loop = lower first least e less (settled e leads loop)

pub all_settled_lower : (parent : ℕ → Option ℕ) (first : Option ℕ) (least : ℕ) (marks : List ℕ) → IfSome first (λ f. least ≤ f) → AreSettled parent first marks
    → AreSettled parent (Some least) marks
all_settled_lower parent first least marks less settled d marked = settled_lower parent first least d less (settled d marked)

-- Once each device that can be on a loop is settled, the first that was found is the first there is.
pub first_of_all : (parent : ℕ → Option ℕ) (first : Option ℕ) → IfSome first (λ d. IsOnLoop parent d) → ((e : ℕ) → IsOnLoop parent e → NoneBefore first e)
    → MatchOption first (HasNoLoop parent) (λ d. IsFirstOnLoop parent d)
first_of_all parent None is none = none
first_of_all parent (Some f) is none = record { on_loop = is; least = λ e less loop. let above : f ≤ e = none e loop in omega arith }

-- fresh marks are 0
pub fresh : (n : ℕ) → AreAtMost 0 (replicate n 0)
fresh zero d = omega arith
fresh (suc n) zero = omega arith
fresh (suc n) (suc d) = fresh n d
