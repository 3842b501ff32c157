-- A port at lowered counters takes what it took before.
use Rattle.std.specs.Prelude.{◌≡◌, ℕ, ◌+◌, ◌-◌, ◌<◌, ◌&&◌, nat_le, List, ◌∷◌}
use Rattle.std.proofs.Common.{arith, sym, ap, ◌∙◌, subst, length, take, drop, get_or, set}
use Rattle.std.proofs.lemmas.Bool.Decides.{nat_tests}
use Rattle.std.proofs.lemmas.List.{length-drop, take_more, take_more_set, drop-set-lt, drop_more}
use Rattle.std.proofs.lemmas.Grind.{drop_more_same}
use Rattle.std.proofs.lemmas.List.Elements.{AllZip-push}
use Rattle.std.specs.List.{AllZip}
use Rattle.sd_device_c.specs.declared.plain.PlainPort.{PlainPort}
use Rattle.sd_device_c.specs.Plain.{flag_from, wide_from}
use Rattle.sd_exports.specs.Ports.{is_clear}
use Rattle.sd_device_c.specs.Ports.{takes, IsLowered}

same_test : (clear by counter : ℕ) → nat_le (clear - by) counter ≡ nat_le clear (counter + by)
same_test clear by counter = grind (arith, nat_tests)

sum_twice : (counter by before : ℕ) → counter + by + before ≡ counter + (before + by)
sum_twice counter by before = omega arith

takes_same : (by : ℕ) (old new : PlainPort) → new.is_open ≡ old.is_open → wide_from new.clear ≡ wide_from old.clear - by → (counter : ℕ)
    → takes new counter ≡ takes old (counter + by)
takes_same by old new flag clear counter =
    rw flag (rw clear (ap (λ x. flag_from old.is_open && x) (same_test (wide_from old.clear) by counter)))

pub lowers : (by : ℕ) (old new : PlainPort) → new.is_open ≡ old.is_open → wide_from new.clear ≡ wide_from old.clear - by → IsLowered by old new
lowers by old new flag clear =
    record {
      same = takes_same by old new flag clear;
      told = λ before opening stands counter.
          takes_same by old new flag clear counter ∙ stands (counter + by)
          ∙ ap (is_clear opening) (sum_twice counter by before);
    }

same_heads : {X : Type 0} (x y : X) (xs ys : List X) → x ∷ xs ≡ y ∷ ys → x ≡ y
same_heads x y xs ys same = cc

same_room : {X : Type 0} (old now : List X) (i : ℕ) → i < length now → drop i now ≡ drop i old → i < length old
same_room old now i inside same =
    let lengths : length now - i ≡ length old - i = sym (length-drop i now) ∙ ap length same ∙ length-drop i old in
    omega (arith, inside, lengths)

below_next : (i : ℕ) → i < i + 1
below_next i = omega arith

-- one more of a list is changed, where those before it were and the rest is as it was
pub one_more : {X : Type 0} (R : X → X → Type 0) (old now : List X) (i : ℕ) (d y : X) → i < length now
    → AllZip R (take i old) (take i now) × (drop i now ≡ drop i old) → R (get_or now i d) y
    → AllZip R (take (i + 1) old) (take (i + 1) (set now i y)) × (drop (i + 1) (set now i y) ≡ drop (i + 1) old)
one_more {X} R old now i d y inside done this =
    let inside_old : i < length old = same_room old now i inside done.1 in
    let same : get_or now i d ≡ get_or old i d =
    same_heads (get_or now i d) (get_or old i d) (drop (i + 1) now) (drop (i + 1) old)
    (sym (drop_more now i d inside) ∙ done.1 ∙ drop_more old i d inside_old) in (
      rw (take_more_set now i y inside)
          (rw (take_more old i d inside_old)
          (AllZip-push R (take i old) (take i now) (get_or old i d) y done.0 (subst (λ (x : X). R x y) same this))),
      drop-set-lt (i + 1) now i y (below_next i) ∙ drop_more_same now old i done.1,
    )
