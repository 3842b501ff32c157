-- A joint span covers what each of its spans covers.
use Rattle.std.specs.Prelude.{◌≡◌, ℕ, zero, suc, ◌+◌, ◌-◌, ◌≤◌, ◌&&◌, List, [], ◌∷◌, length, map, slice_get, Some, IsTrue, nat_le}
use Rattle.std.proofs.Common.{arith, subst, ap}
use Rattle.std.proofs.lemmas.Bool.{leb-true}
use Rattle.sd_num.specs.Lists.{least, greatest}
use Rattle.sd_commands.specs.declared.exchanges.Span.{Span}
use Rattle.sd_commands.specs.exchanges.Spans.{joint_span}
use Rattle.sd_commands.specs.exchanges.Laws.{JointCovers, InsideMeets}
use Rattle.sd_commands.proofs.exchanges.Covering.{span_covers}

least_first : (x : ℕ) (ys : List ℕ) → least (x ∷ ys) ≤ x
least_first x [] = omega arith
least_first x (y ∷ ys) = omega arith

same_some : (s t : Span) → Some s ≡ Some t → s ≡ t
same_some s t same = cc

joint_low : (s : Span) (spans : List Span) (i : ℕ) (t : Span) → slice_get (s ∷ spans) i ≡ Some t → least (s.min ∷ map (λ u. u.min) spans) ≤ t.min
joint_low s spans zero t same = subst (λ u. least (s.min ∷ map (λ v. v.min) spans) ≤ u.min) (same_some s t same) (least_first s.min (map (λ u. u.min) spans))
joint_low s [] (suc i) t same = cc
joint_low s (u ∷ spans) (suc i) t same = omega (arith, joint_low u spans i t same)

joint_high : (s : Span) (spans : List Span) (i : ℕ) (t : Span) → slice_get (s ∷ spans) i ≡ Some t → t.max ≤ greatest (s.max ∷ map (λ u. u.max) spans)
joint_high s spans zero t same = subst (λ u. u.max ≤ greatest (s.max ∷ map (λ v. v.max) spans)) (same_some s t same) (omega arith)
joint_high s [] (suc i) t same = cc
joint_high s (u ∷ spans) (suc i) t same = omega (arith, joint_high u spans i t same)

same_pair : (a b : Span × ℕ) → Some a ≡ Some b → a ≡ b
same_pair a b same = cc

same_joint : (a b : Span × ℕ) → Some a ≡ Some b → a.0 ≡ b.0
same_joint a b same = ap (λ p. p.0) (same_pair a b same)

wide : (s : Span) (spans : List Span) (i n : ℕ) (t joint : Span) → slice_get (s ∷ spans) i ≡ Some t → joint_span (s ∷ spans) ≡ Some (joint, n)
    → (joint.min ≤ t.min) × (t.max ≤ joint.max)
wide s spans i n t joint at same =
    let e : record { min = least (s.min ∷ map (λ u. u.min) spans); max = greatest (s.max ∷ map (λ u. u.max) spans) } ≡ joint =
    same_joint (record { min = least (s.min ∷ map (λ u. u.min) spans); max = greatest (s.max ∷ map (λ u. u.max) spans) }, length spans + 1) (joint, n) same in
    subst (λ u. (u.min ≤ t.min) × (t.max ≤ u.max)) e (joint_low s spans i t at, joint_high s spans i t at)

joint_is_wide : (spans : List Span) (i n : ℕ) (t joint : Span) → slice_get spans i ≡ Some t → joint_span spans ≡ Some (joint, n)
    → (joint.min ≤ t.min) × (t.max ≤ joint.max)
joint_is_wide [] i n t joint at same = cc
joint_is_wide (s ∷ spans) i n t joint at same = wide s spans i n t joint at same

four_wide : (a b c d x y : ℕ) → a ≤ c → d ≤ b → (c ≤ x) × (x ≤ d) × (c ≤ y) × (y ≤ d) → (a ≤ x) × (x ≤ b) × (a ≤ y) × (y ≤ b)
four_wide a b c d x y low high within =
    (omega (arith, low, within.0), omega (arith, high, within.1), omega (arith, low, within.2), omega (arith, high, within.3))

pub joint_covers : JointCovers
joint_covers first second x span joint spans i n same at joined r1 r2 r3 r4 run =
    let both : (joint.min ≤ span.min) × (span.max ≤ joint.max) = joint_is_wide spans i n span joint at joined in
    four_wide joint.min joint.max span.min span.max (r2 - r1) (r4 - r3) both.0 both.1 (span_covers first second x span same r1 r2 r3 r4 run)

meets : (a b c d low high x : ℕ) → IsTrue (nat_le a low && nat_le high b && nat_le c low && nat_le high d) → low ≤ x → x ≤ high
    → (a ≤ x) × (x ≤ b) × (c ≤ x) × (x ≤ d)
meets a b c d low high x inside above below = grind (arith, leb-true)

pub inside_meets : InsideMeets
inside_meets first second x span joint spans i n link same at joined inside r1 r2 r3 r4 run =
    let within : (joint.min ≤ r2 - r1) × (r2 - r1 ≤ joint.max) × (joint.min ≤ r4 - r3) × (r4 - r3 ≤ joint.max) =
    joint_covers first second x span joint spans i n same at joined r1 r2 r3 r4 run in (
      meets link.min link.max link.back_min link.back_max joint.min joint.max (r2 - r1) inside within.0 within.1,
      meets link.min link.max link.back_min link.back_max joint.min joint.max (r4 - r3) inside within.2 within.3,
    )
