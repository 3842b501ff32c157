-- Lines of domains one after another, and what is added of them, whatever is printed of each.
use Rattle.std.proofs.Common.{◌≡◌, ◌∙◌, ℕ, true, List, [], ◌∷◌, ◌++◌, Option, Result, Ok, Err, refl, sym, ap, subst, append_assoc, append-nil}
use Rattle.std.specs.Prelude.{IfErr, IfOk, IsTrue}
use Rattle.std.proofs.lemmas.List.Elements.{All-append, All-cons, All-nil}
use Rattle.sd_io.specs.outside.Pieces.{AddsFront, Pieces, piece_of}
use Rattle.sd_io.proofs.outside.Adding.{adds_both, adds_none, front_behind}
use Rattle.sd_plan.specs.topo.Network.{Network}
use Rattle.sd_plan.specs.domain.Domains.{domains}
use Rattle.sd_plan.specs.declared.domain.DomainId.{DomainId}
use Rattle.sd_plan.specs.declared.Plan.{Plan}
use Rattle.sd_drill.specs.Printed.{done_line}
use Rattle.sd_files.specs.Writes.{Adds}
use Rattle.sd_files.specs.declared.Status.{Status}
use Rattle.sd_files.specs.declared.Status.TheVariants.{Done}
use Rattle.sd_files.specs.declared.command_error.IoError.{IoError}
use Rattle.sd_files.specs.declared.command_error.IoError.TheVariants as stop
use Rattle.sd_files.specs.work.Leaving.{are_lines}
use Rattle.sd_drill_text.specs.Adding.{Added, AddsAll, AddsLines, EndLines}
use Rattle.sd_drill_text.specs.Writes.{AreWrites}

one_ends : (lines : List ℕ) → are_lines lines ≡ true → EndLines (piece_of lines)
one_ends [] ends = All-nil (λ (piece : List ℕ). IsTrue (are_lines piece))
one_ends (byte ∷ bytes) ends =
    All-cons (λ (piece : List ℕ). IsTrue (are_lines piece)) (byte ∷ bytes) [] ends (All-nil (λ (piece : List ℕ). IsTrue (are_lines piece)))

both_end : (a b : Pieces) → EndLines a → EndLines b → EndLines (a ++ b)
both_end a b = All-append (λ (piece : List ℕ). IsTrue (are_lines piece)) a b

-- a stop leaves the same, whatever might have been answered
pub adds_stop : (T U : Type 0) (pieces : Pieces) (old new : Option Pieces) (why : IoError) → Adds {T = T} pieces old new (Err why)
    → Adds {T = U} pieces old new (Err why)
adds_stop T U pieces old new stop.Shelf adds = adds
adds_stop T U pieces old new stop.Sink adds = adds
adds_stop T U pieces old new stop.Memory adds = adds

module _ (Lines : DomainId → List ℕ → Type 0) where
  -- some lines of the domains
  abbrev pub HasLines : List DomainId → Type 0
  HasLines fs = (pieces : Pieces) × AreWrites Lines fs pieces

  pub lines_both : (fs gs : List DomainId) (a b : Pieces) → AreWrites Lines fs a → AreWrites Lines gs b
      → AreWrites Lines (fs ++ gs) (a ++ b)
  lines_both [] gs a b is other = subst (AreWrites Lines gs) (sym (ap (λ (l : Pieces). l ++ b) is)) other
  lines_both (f ∷ fs) gs a b (lines, rest, first, others, whole) other =
      (lines, rest ++ b, first, lines_both fs gs rest b others other, ap (λ (l : Pieces). l ++ b) whole ∙ append_assoc (piece_of lines) rest b)

  -- the lines of more domains after those that were added
  pub adds_on : (T : Type 0) (fs gs : List DomainId) (first before after : Option Pieces) (result : Result T IoError) → Added Lines fs first before
      → AddsLines Lines gs before after result
      → AddsLines Lines (fs ++ gs) first after result
  adds_on T fs gs first before after (Ok done) (a, are, ends, added) (b, are', ends', added') =
      (a ++ b, lines_both fs gs a b are are', both_end a b ends ends', adds_both first before after a b added added')
  adds_on T fs gs first before after (Err stop.Shelf) (a, are, ends, added) none = none
  adds_on T fs gs first before after (Err stop.Sink) (a, are, ends, added) (b, are', written) =
      (a ++ b, lines_both fs gs a b are are', subst (AddsFront first after) (append-nil (a ++ b)) (front_behind first before after a b [] added written))
  adds_on T fs gs first before after (Err stop.Memory) (a, are, ends, added) (front, rest, are', ends', added') = (
    a ++ front,
    rest,
    subst (AreWrites Lines (fs ++ gs)) (sym (append_assoc a front rest))
        (lines_both fs gs a (front ++ rest) are are'),
    both_end a front ends ends',
    adds_both first before after a front added added',
  )

  -- a run that was stopped before it came to more domains
  pub adds_stopped : (T U : Type 0) (fs gs : List DomainId) (first after : Option Pieces) (why : IoError) → HasLines gs
      → AddsLines {T = T} Lines fs first after (Err why) → AddsLines {T = U} Lines (fs ++ gs) first after (Err why)
  adds_stopped T U fs gs first after stop.Shelf has none = none
  adds_stopped T U fs gs first after stop.Sink (g, are') (a, are, written) =
      (a ++ g, lines_both fs gs a g are are', front_behind first first after [] a g (adds_none first) written)
  adds_stopped T U fs gs first after stop.Memory (g, are') (front, rest, are, ends, added) =
      (front, rest ++ g, subst (AreWrites Lines (fs ++ gs)) (append_assoc front rest g) (lines_both fs gs (front ++ rest) g are are'), ends, added)

  -- memory was wanting before anything was written
  pub adds_nothing : (T : Type 0) (fs : List DomainId) (first after : Option Pieces) → HasLines fs → after ≡ first
      → AddsLines {T = T} Lines fs first after (Err stop.Memory)
  adds_nothing T fs first after (pieces, are) kept = ([], pieces, are, All-nil (λ (piece : List ℕ). IsTrue (are_lines piece)), kept ∙ adds_none first)

  -- the lines of one domain, as they are sent
  pub adds_one : {T : Type 0} (f : DomainId) (lines : List ℕ) (first after : Option Pieces) (result : Result T IoError) → Lines f lines
      → are_lines lines ≡ true → IfErr result (λ why. why ≡ stop.Sink) → Adds (piece_of lines) first after result
      → AddsLines Lines (f ∷ []) first after result
  adds_one f lines first after (Ok done) is ends only added =
      (piece_of lines, (lines, [], is, refl, sym (append-nil (piece_of lines))), one_ends lines ends, added)
  adds_one f lines first after (Err stop.Shelf) is ends only kept = cc
  adds_one f lines first after (Err stop.Sink) is ends only written = (piece_of lines, (lines, [], is, refl, sym (append-nil (piece_of lines))), written)
  adds_one f lines first after (Err stop.Memory) is ends only kept = cc

module _ (Lines : DomainId → List ℕ → Type 0) (net : Network) (plan : Plan) where
  -- the last line after those of all domains
  pub adds_last : (first before after : Option Pieces) (result : Result Status IoError) → Added Lines (domains net) first before
      → IfOk result (λ status. status ≡ Done) → IfErr result (λ why. why ≡ stop.Sink)
      → Adds (piece_of (done_line net plan)) before after result → AddsAll Lines net plan first after result
  adds_last first before after (Ok status) (a, are, ends, added) done only added' =
      (done, (a ++ piece_of (done_line net plan), (a, are, refl), adds_both first before after a (piece_of (done_line net plan)) added added'))
  adds_last first before after (Err stop.Shelf) (a, are, ends, added) done only kept = cc
  adds_last first before after (Err stop.Sink) (a, are, ends, added) done only written = (
    a ++ piece_of (done_line net plan),
    (a, are, refl),
    subst (AddsFront first after) (append-nil (a ++ piece_of (done_line net plan)))
        (front_behind first before after a (piece_of (done_line net plan)) [] added written),
  )
  adds_last first before after (Err stop.Memory) (a, are, ends, added) done only kept = cc

  -- a run that was stopped before the last line
  pub stopped_before_last : (T : Type 0) (first after : Option Pieces) (why : IoError) → AddsLines {T = T} Lines (domains net) first after (Err why)
      → AddsAll Lines net plan first after (Err why)
  stopped_before_last T first after stop.Shelf none = none
  stopped_before_last T first after stop.Sink (a, are, written) =
      (a ++ piece_of (done_line net plan), (a, are, refl), front_behind first first after [] a (piece_of (done_line net plan)) (adds_none first) written)
  stopped_before_last T first after stop.Memory (front, rest, are, ends, added) =
      (front, rest ++ piece_of (done_line net plan), (front ++ rest, are, sym (append_assoc front rest (piece_of (done_line net plan)))), ends, added)
