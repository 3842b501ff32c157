-- What is written line by line is what the reading says.
use Rattle.std.proofs.Common.{◌≡◌, ◌∙◌, ℕ, zero, suc, ◌+◌, ◌<◌, ◌≤◌, Bool, true, false, List, [], ◌∷◌, ◌++◌, length, take, drop, Option, Some, None, Result, Ok, Err, refl, sym, ap, subst, append_assoc, append-nil, take-append-drop, arith}
use Rattle.std.specs.Prelude.{IfErr, IsErrAnd, filter, is_some, nat_le, if◌then◌else◌}
use Rattle.std.proofs.lemmas.Bool.{leb-true, leb-false}
use Rattle.std.proofs.lemmas.List.{flat_map_more, length-append}
use Rattle.std.proofs.lemmas.List.Elements.{filter-append}
use Rattle.sd_num.specs.Lists.{below, map_or}
use Rattle.sd_io.specs.outside.Pieces.{AddsFront, AddsPieces, Pieces, piece_of}
use Rattle.sd_io.proofs.outside.Adding.{adds_both, front_behind}
use Rattle.sd_plan.specs.topo.Network.{Network}
use Rattle.sd_commands.specs.exchanges.Joints.{Joints, joint_at}
use Rattle.sd_commands.specs.exchanges.Printed.{link_line}
use Rattle.sd_commands.specs.declared.exchanges.Span.{Span}
use Rattle.sd_files.specs.Writes.{Adds}
use Rattle.sd_files.specs.declared.command_error.IoError.{IoError}
use Rattle.sd_files.specs.declared.command_error.IoError.TheVariants as stop
use Rattle.sd_commands.specs.twoway.Tallies.{count_of, lines_of}

-- the lines of the links: one more, and those below a number stand in front of those below a greater one
pub lines_more : (net : Network) (joints : Joints) (n : ℕ)
    → lines_of net joints (suc n) ≡ lines_of net joints n ++ piece_of (map_or (joint_at joints n) [] (link_line net n))
lines_more net joints n = sym (flat_map_more (λ l. piece_of (map_or (joint_at joints l) [] (link_line net l))) [] (below n) n)

pub lines_front : (net : Network) (joints : Joints) (k n : ℕ) → k ≤ n → (more : Pieces) × (lines_of net joints n ≡ lines_of net joints k ++ more)
lines_front net joints k zero few = let none : k ≡ zero = omega (arith, few) in ([], rw none refl)
lines_front net joints k (suc n) few = by (nat_le k n) refl (lines_front net joints k n)
  where
    by : (here : Bool) → nat_le k n ≡ here → (k ≤ n → (more : Pieces) × (lines_of net joints n ≡ lines_of net joints k ++ more))
        → (more : Pieces) × (lines_of net joints (suc n) ≡ lines_of net joints k ++ more)
    by true fits earlier =
        let front = earlier (leb-true k n fits) in
        let next = piece_of (map_or (joint_at joints n) [] (link_line net n)) in
        (front.0 ++ next, lines_more net joints n ∙ ap (λ (pieces : Pieces). pieces ++ next) front.1 ∙ append_assoc (lines_of net joints k) front.0 next)
    by false beyond earlier =
        let less : n < k = leb-false k n beyond in
        let all : k ≡ suc n = omega (arith, few, less) in
        ([], rw all (sym (append-nil (lines_of net joints (suc n)))))

-- the sink failed at the line of a link
pub adds_cut : (T U : Type 0) (net : Network) (joints : Joints) (k n : ℕ) (line : List ℕ) (first before after : Option Pieces) (why : IoError) → k < n
    → map_or (joint_at joints k) [] (link_line net k) ≡ line
    → why ≡ stop.Sink → AddsPieces first before (lines_of net joints k) → Adds {T = T} (piece_of line) before after (Err why)
    → Adds {T = U} (lines_of net joints n) first after (Err why)
adds_cut T U net joints k n line first before after stop.Shelf inside is only added adds = cc
adds_cut T U net joints k n line first before after stop.Memory inside is only added adds = cc
adds_cut T U net joints k n line first before after stop.Sink inside is only added adds =
    let front = lines_front net joints (suc k) n (omega (arith, inside)) in
    let split : lines_of net joints n ≡ (lines_of net joints k ++ piece_of line) ++ front.0 =
    front.1 ∙ ap (λ (pieces : Pieces). pieces ++ front.0) (lines_more net joints k ∙ ap (λ (text : List ℕ). lines_of net joints k ++ piece_of text) is) in
    subst (AddsFront first after) (sym split) (front_behind first before after (lines_of net joints k) (piece_of line) front.0 added adds)

-- one link more, which has an exchange or none
module _ (net : Network) (joints : Joints) (k : ℕ) where
  one_more : k + 1 ≡ suc k
  one_more = omega arith

  pub added_more : (joint : Span × ℕ) (line : List ℕ) (first before after : Option Pieces) → joint_at joints k ≡ Some joint → link_line net k joint ≡ line
      → AddsPieces first before (lines_of net joints k) → AddsPieces before after (piece_of line)
      → AddsPieces first after (lines_of net joints (k + 1))
  added_more joint line first before after has is written more =
      let whole : lines_of net joints (k + 1) ≡ lines_of net joints k ++ piece_of line =
      ap (lines_of net joints) one_more ∙ lines_more net joints k
      ∙ ap (λ (j : Option (Span × ℕ)). lines_of net joints k ++ piece_of (map_or j [] (link_line net k))) has
      ∙ ap (λ (text : List ℕ). lines_of net joints k ++ piece_of text) is in
      subst (AddsPieces first after) (sym whole) (adds_both first before after (lines_of net joints k) (piece_of line) written more)

  pub added_none : (first after : Option Pieces) → joint_at joints k ≡ None → AddsPieces first after (lines_of net joints k)
      → AddsPieces first after (lines_of net joints (k + 1))
  added_none first after none written =
      let same : lines_of net joints (k + 1) ≡ lines_of net joints k =
      ap (lines_of net joints) one_more ∙ lines_more net joints k
      ∙ ap (λ (j : Option (Span × ℕ)). lines_of net joints k ++ piece_of (map_or j [] (link_line net k))) none
      ∙ append-nil (lines_of net joints k) in
      subst (AddsPieces first after) (sym same) written

  counted : (there : Bool) → is_some (joint_at joints k) ≡ there → count_of joints (k + 1) ≡ count_of joints k + length (if there then k ∷ [] else [])
  counted there is =
      ap (count_of joints) one_more ∙ ap length (filter-append (λ l. is_some (joint_at joints l)) (below k) (k ∷ []))
      ∙ length-append (filter (λ l. is_some (joint_at joints l)) (below k)) (filter (λ l. is_some (joint_at joints l)) (k ∷ []))
      ∙ ap (λ (b : Bool). count_of joints k + length (if b then k ∷ [] else [])) is

  pub counted_more : (links : ℕ) (joint : Span × ℕ) → joint_at joints k ≡ Some joint → links ≡ count_of joints k → links + 1 ≡ count_of joints (k + 1)
  counted_more links joint has same = ap (λ (n : ℕ). n + 1) same ∙ sym (counted true (ap is_some has))

  pub counted_none : (links : ℕ) → joint_at joints k ≡ None → links ≡ count_of joints k → links ≡ count_of joints (k + 1)
  counted_none links none same = same ∙ sym (counted false (ap is_some none) ∙ nothing (count_of joints k))
    where
      nothing : (n : ℕ) → n + 0 ≡ n
      nothing n = omega arith
