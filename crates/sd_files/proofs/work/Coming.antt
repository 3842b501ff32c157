-- How far a run has come, line by line, and that it then ends as its outcome says.
use Rattle.std.proofs.Common.{◌≡◌, ℕ, ◌+◌, true, List, [], ◌∷◌, ◌++◌, Option, Some, None, Ok, Err, refl, inr, sym, ap, ◌∙◌, subst, length, append_assoc, arith}
use Rattle.std.specs.Prelude.{All, IfSome, IsTrue}
use Rattle.std.specs.List.{concat}
use Rattle.std.proofs.lemmas.List.Folds.{concat-append}
use Rattle.std.proofs.lemmas.List.Elements.{All-append, All-cons, All-nil}
use Rattle.sd_io.specs.declared.outside.shelf.Shelf.{Ghosts}
use Rattle.sd_io.specs.outside.Pieces.{AddsFront, AddsPieces, Pieces, piece_of}
use Rattle.sd_io.proofs.outside.Adding.{adds_both, adds_none, concat_piece, front_behind}
use Rattle.sd_io.specs.stream.Lines.{lines, after_line}
use Rattle.sd_io.specs.stream.Reader.{text_left, bytes_before, GoesPast, IsNear}
use Rattle.sd_io.specs.declared.stream.reader.LineReader.{LineReader}
use Rattle.sd_io.specs.declared.stream.buffer.Buffer.{Buffer}
use Rattle.sd_files.specs.Answering.{InWrites}
use Rattle.sd_files.specs.Writes.{Adds}
use Rattle.sd_files.specs.declared.Status.{Status}
use Rattle.sd_files.specs.declared.command_error.IoError.{IoError}
use Rattle.sd_files.specs.declared.command_error.IoError.TheVariants as stop
use Rattle.sd_files.specs.work.Works.{Work, Reading, InSteps, IsOutcome, reading, reading_from, all_bytes, all_pieces, last_bytes, last_pieces_for, pieces_for, refused_line, written_for, status_for, refused_part, text_behind}
use Rattle.sd_files.specs.work.WholeLines.{WritesWhole}
use Rattle.sd_files.specs.work.Leaving.{WritesLines, are_lines}
use Rattle.sd_files.specs.work.Ending.{LeavesAt}
use Rattle.sd_files.specs.work.Steps.{Step, step_of, step_pieces}
use Rattle.sd_files.specs.work.Comes.{HasCome}
use Rattle.sd_files.specs.work.Nexts.{AddsNext, MakesNext}
use Rattle.sd_files.proofs.work.Reading.{reads_on, reads_end, EndsWith, begins_with_step}

-- before the first line
pub comes : {S E : Type 0} (g : Ghosts S) (work : Work E) (Stands : List E → Type 0) (text : List ℕ) (reader : LineReader S Buffer g) (out : Option Pieces)
    → Stands [] → text_left g reader ≡ Some text → bytes_before reader ≡ 0
    → HasCome g work Stands text reader out out
unfolding reading all_pieces
comes g work Stands text reader out stands left none =
    record {
      taken = [];
      stands = stands;
      left = left;
      total = ap (λ (n : ℕ). n + length text) none ∙ zero_front (length text);
      further = ap (λ (n : ℕ). reading_from work (length text) n [] (lines text)) (sym none);
      written = adds_none out;
    }
  where
    zero_front : (n : ℕ) → 0 + n ≡ n
    zero_front n = omega arith

-- after a line that was accepted
pub comes_on : {S E : Type 0} (g : Ghosts S) (work : Work E) (Stood Stands : Work E → List E
    → Type 0) (text : List ℕ) (old new : LineReader S Buffer g) (first before after : Option Pieces) → HasCome g work (Stood work) text old first before
    → MakesNext (text_left g old) (bytes_before old) Stood Stands (Ok None)
    → AddsNext {T = Option Status} (text_left g old) (bytes_before old) Stood before after (Ok None)
    → IfSome (text_left g old) (GoesPast (bytes_before old) (bytes_before new) (text_left g new)) → HasCome g work (Stands work) text new first after
unfolding all_pieces
comes_on {E = E} g work Stood Stands text old new first before after h makes adds past =
    let left = text_behind (length h.taken) text in
    let total = bytes_before old + length left in
    let step = step_of work total (bytes_before old) h.taken (lines left) in
    let made = subst (λ (l : Option (List ℕ)). MakesNext l (bytes_before old) Stood Stands (Ok None)) h.left makes work h.taken h.stands in
    let added = subst (λ (l : Option (List ℕ)). AddsNext {T = Option Status} l (bytes_before old) Stood before after (Ok None)) h.left adds work h.taken
    h.stands in
    let gone = subst (λ (l : Option (List ℕ)). IfSome l (GoesPast (bytes_before old) (bytes_before new) (text_left g new))) h.left past in
    record {
      taken = made.0 ∷ h.taken;
      stands = made.2;
      left = gone.after;
      total = gone.count ∙ h.total;
      further =
          h.further
          ∙ subst (λ (n : ℕ). reading_from work n (bytes_before old) h.taken (lines left)
          ≡ reading_from work n (bytes_before new) (made.0 ∷ h.taken) (lines (after_line left))) h.total
          (reads_on work total (bytes_before old) (bytes_before new) h.taken made.0 left made.1 gone.count);
      written = adds_both first before after (all_pieces work h.taken) (piece_of (work.bytes h.taken made.0)) h.written
          (subst (λ (s : Step E). AddsPieces before after (step_pieces work h.taken s)) made.1 added);
    }

whole_piece : (bytes : List ℕ) → IsTrue (are_lines bytes) → All (λ piece. IsTrue (are_lines piece)) (piece_of bytes)
whole_piece [] whole = All-nil (λ (piece : List ℕ). IsTrue (are_lines piece))
whole_piece (byte ∷ bytes) whole =
    All-cons (λ (piece : List ℕ). IsTrue (are_lines piece)) (byte ∷ bytes) [] whole (All-nil (λ (piece : List ℕ). IsTrue (are_lines piece)))

-- all that is written for lines is whole lines
all_lines : {E : Type 0} (work : Work E) → WritesWhole work → (xs : List E) → All (λ piece. IsTrue (are_lines piece)) (all_pieces work xs)
unfolding all_pieces
all_lines work whole [] = All-nil (λ (piece : List ℕ). IsTrue (are_lines piece))
all_lines work whole (x ∷ earlier) =
    All-append (λ (piece : List ℕ). IsTrue (are_lines piece)) (all_pieces work earlier) (piece_of (work.bytes earlier x)) (all_lines work whole earlier)
    (whole_piece (work.bytes earlier x) (whole earlier x))

-- the bytes of the pieces of a reading are all that is written for it
all_concat : {E : Type 0} (work : Work E) (xs : List E) → concat (all_pieces work xs) ≡ all_bytes work xs
unfolding all_pieces all_bytes
all_concat work [] = refl
all_concat work (x ∷ earlier) =
    concat-append (all_pieces work earlier) (piece_of (work.bytes earlier x))
    ∙ ap (λ (l : List ℕ). l ++ concat (piece_of (work.bytes earlier x))) (all_concat work earlier)
    ∙ ap (λ (l : List ℕ). all_bytes work earlier ++ l) (concat_piece (work.bytes earlier x))

last_concat : {E : Type 0} (work : Work E) (xs : List E) (refused : Option (List ℕ)) → concat (last_pieces_for work xs refused) ≡ last_bytes work xs refused
last_concat work xs None = refl
last_concat work xs (Some why) = concat_piece (refused_line work (length xs + 1) why)

written_concat : {E : Type 0} (work : Work E) (r : Reading E) → concat (pieces_for work r) ≡ written_for work r
written_concat work r =
    concat-append (all_pieces work r.taken) (last_pieces_for work r.taken r.refused)
    ∙ ap (λ (l : List ℕ). l ++ concat (last_pieces_for work r.taken r.refused)) (all_concat work r.taken)
    ∙ ap (λ (l : List ℕ). all_bytes work r.taken ++ l) (last_concat work r.taken r.refused)

-- the pieces of the steps are the outcome
pub in_steps : {E : Type 0} (work : Work E) (text : List ℕ) (pieces : Pieces) (status : Status) → InSteps work text pieces
    → status ≡ status_for work (reading work text).taken (reading work text).refused
    → InWrites (InSteps work text) (IsOutcome work text) pieces status
in_steps work text pieces status steps is = ((ap concat steps ∙ written_concat work (reading work text), is), steps)

-- the outcome begins with what was written, and goes on with the next step
outcome_begins : {S E : Type 0} (g : Ghosts S) (work : Work E) (Stands : List E
    → Type 0) (text : List ℕ) (reader : LineReader S Buffer g) (first before : Option Pieces) (h : HasCome g work Stands text reader first before)
    → (more : Pieces)
    × ((pieces_for work (reading work text))
    ≡ (all_pieces work h.taken
    ++ step_pieces work h.taken
    (step_of work (bytes_before reader + length (text_behind (length h.taken) text)) (bytes_before reader) h.taken
    (lines (text_behind (length h.taken) text)))) ++ more)
outcome_begins g work Stands text reader first before h =
    let left = text_behind (length h.taken) text in
    let begun = begins_with_step work (bytes_before reader + length left) (bytes_before reader) h.taken (lines left) in
    (begun.0, ap (pieces_for work) (h.further ∙ ap (λ (n : ℕ). reading_from work n (bytes_before reader) h.taken (lines left)) (sym h.total)) ∙ begun.1)

-- a run that was stopped has written a front of its outcome
pub stops : {S E : Type 0} (g : Ghosts S) (work : Work E) (Stood : Work E → List E
    → Type 0) (text : List ℕ) (reader : LineReader S Buffer g) (first before after : Option Pieces) (why : IoError) → WritesWhole work
    → HasCome g work (Stood work) text reader first before
    → AddsNext {T = Option Status} (text_left g reader) (bytes_before reader) Stood before after (Err why)
    → LeavesAt true (InWrites (InSteps work text) (IsOutcome work text)) first after (Err why)
stops {E = E} g work Stood text reader first before after why whole h adds =
    by why (outcome_begins g work (Stood work) text reader first before h)
    (subst (λ (l : Option (List ℕ)). AddsNext {T = Option Status} l (bytes_before reader) Stood before after (Err why)) h.left adds work h.taken h.stands)
  where
    all : Pieces
    all = pieces_for work (reading work text)

    answer : Status
    answer = status_for work (reading work text).taken (reading work text).refused

    done : Pieces
    done = all_pieces work h.taken

    left : List ℕ
    left = text_behind (length h.taken) text

    next : Pieces
    next = step_pieces work h.taken (step_of work (bytes_before reader + length left) (bytes_before reader) h.taken (lines left))

    front : (more : Pieces) → all ≡ (done ++ next) ++ more → after ≡ before → WritesLines first after all
    front more same kept =
        record {
          whole = done;
          others = next ++ more;
          are = same ∙ append_assoc done next more;
          lines = all_lines work whole h.taken;
          added = kept ∙ h.written;
        }

    cut : (more : Pieces) → all ≡ (done ++ next) ++ more → AddsFront before after next → AddsFront first after all
    cut more same written = subst (AddsFront first after) (sym same) (front_behind first before after done next more h.written written)

    by : (cause : IoError) → (more : Pieces) × (all ≡ (done ++ next) ++ more) → Adds {T = Option Status} next before after (Err cause)
        → LeavesAt true (InWrites (InSteps work text) (IsOutcome work text)) first after (Err cause)
    by stop.Shelf begun kept = inr (all, answer, in_steps work text all answer refl refl, front begun.0 begun.1 kept)
    by stop.Sink begun written = (all, answer, in_steps work text all answer refl refl, cut begun.0 begun.1 written)
    by stop.Memory begun kept = inr (all, answer, in_steps work text all answer refl refl, front begun.0 begun.1 kept)

-- what is written where a reading ends is all that is written for it
ends_reading : {E : Type 0} (work : Work E) (text : List ℕ) (xs : List E) (last : Pieces) (status : Status) (first after : Option Pieces)
    → EndsWith work (reading work text) xs last status → AddsPieces first after (all_pieces work xs ++ last)
    → (pieces : Pieces) × InWrites (InSteps work text) (IsOutcome work text) pieces status × AddsPieces first after pieces
ends_reading {E = E} work text xs last status first after e written =
    let r = reading work text in
    let same : all_pieces work xs ++ last ≡ pieces_for work r =
    sym (ap (λ (l : List E). all_pieces work l ++ last_pieces_for work l r.refused) e.taken_are ∙ ap (λ (l : Pieces). all_pieces work xs ++ l) e.pieces_are) in (
      all_pieces work xs ++ last,
      in_steps work text (all_pieces work xs ++ last) status same (sym (ap (λ (l : List E). status_for work l r.refused) e.taken_are ∙ e.status_is)),
      written,
    )

-- a run that ended has written its outcome, and answers its status
pub ends : {S E : Type 0} (g : Ghosts S) (work : Work E) (Stood Stands : Work E → List E
    → Type 0) (text : List ℕ) (reader : LineReader S Buffer g) (first before after : Option Pieces) (status : Status)
    → HasCome g work (Stood work) text reader first before
    → MakesNext (text_left g reader) (bytes_before reader) Stood Stands (Ok (Some status))
    → AddsNext {T = Option Status} (text_left g reader) (bytes_before reader) Stood before after (Ok (Some status))
    → LeavesAt true (InWrites (InSteps work text) (IsOutcome work text)) first after (Ok status)
ends {E = E} g work Stood Stands text reader first before after status h makes adds =
    let left = text_behind (length h.taken) text in
    let total = bytes_before reader + length left in
    let made = subst (λ (l : Option (List ℕ)). MakesNext l (bytes_before reader) Stood Stands (Ok (Some status))) h.left makes work h.taken h.stands in
    let added = subst (λ (l : Option (List ℕ)). AddsNext {T = Option Status} l (bytes_before reader) Stood before after (Ok (Some status))) h.left adds work
    h.taken h.stands in
    let last = subst (λ (s : Step E). AddsPieces before after (step_pieces work h.taken s)) made.1 added in
    let further : reading work text ≡ reading_from work total (bytes_before reader) h.taken (lines left) =
    h.further ∙ ap (λ (n : ℕ). reading_from work n (bytes_before reader) h.taken (lines left)) (sym h.total) in
    let ended = subst (λ (r : Reading E). EndsWith work r h.taken made.0 status) (sym further)
    (reads_end work total (bytes_before reader) h.taken (lines left) made.0 status made.1) in
    ends_reading work text h.taken made.0 status first after ended
    (adds_both first before after (all_pieces work h.taken) made.0 h.written last)

-- the line of a text at which its reading ends
pub ends_behind : {S E : Type 0} (g : Ghosts S) (work : Work E) (Stood Stands : Work E → List E
    → Type 0) (text : List ℕ) (reader : LineReader S Buffer g) (first before : Option Pieces) (status : Status)
    → HasCome g work (Stood work) text reader first before
    → MakesNext (text_left g reader) (bytes_before reader) Stood Stands (Ok (Some status)) → text_left g reader ≡ Some (refused_part work text)
ends_behind {E = E} g work Stood Stands text reader first before status h makes =
    let left = text_behind (length h.taken) text in
    let total = bytes_before reader + length left in
    let made = subst (λ (l : Option (List ℕ)). MakesNext l (bytes_before reader) Stood Stands (Ok (Some status))) h.left makes work h.taken h.stands in
    let further : reading work text ≡ reading_from work total (bytes_before reader) h.taken (lines left) =
    h.further ∙ ap (λ (n : ℕ). reading_from work n (bytes_before reader) h.taken (lines left)) (sym h.total) in
    let ended = subst (λ (r : Reading E). EndsWith work r h.taken made.0 status) (sym further)
    (reads_end work total (bytes_before reader) h.taken (lines left) made.0 status made.1) in
    h.left ∙ ap (λ (l : List E). Some (text_behind (length l) text)) (sym ended.taken_are)

-- the same of a text that is told or not
pub told_comes : {S E : Type 0} (g : Ghosts S) (work : Work E) (Stands : List E
    → Type 0) (rest : Option (List ℕ)) (reader : LineReader S Buffer g) (out : Option Pieces) → Stands [] → text_left g reader ≡ rest
    → bytes_before reader ≡ 0
    → IfSome rest (λ text. HasCome g work Stands text reader out out)
told_comes g work Stands None reader out stands left none = tt
told_comes g work Stands (Some text) reader out stands left none = comes g work Stands text reader out stands left none

pub told_comes_on : {S E : Type 0} (g : Ghosts S) (work : Work E) (Stood Stands : Work E → List E
    → Type 0) (rest : Option (List ℕ)) (old new : LineReader S Buffer g) (first before after : Option Pieces)
    → IfSome rest (λ text. HasCome g work (Stood work) text old first before) → MakesNext (text_left g old) (bytes_before old) Stood Stands (Ok None)
    → AddsNext {T = Option Status} (text_left g old) (bytes_before old) Stood before after (Ok None)
    → IfSome (text_left g old) (GoesPast (bytes_before old) (bytes_before new) (text_left g new))
    → IfSome rest (λ text. HasCome g work (Stands work) text new first after)
told_comes_on g work Stood Stands None old new first before after h makes adds past = tt
told_comes_on g work Stood Stands (Some text) old new first before after h makes adds past =
    comes_on g work Stood Stands text old new first before after h makes adds past

pub told_stops : {S E : Type 0} (g : Ghosts S) (work : Work E) (Stood : Work E → List E
    → Type 0) (rest : Option (List ℕ)) (reader : LineReader S Buffer g) (first before after : Option Pieces) (why : IoError) → WritesWhole work
    → IfSome rest (λ text. HasCome g work (Stood work) text reader first before)
    → AddsNext {T = Option Status} (text_left g reader) (bytes_before reader) Stood before after (Err why)
    → IfSome rest (λ text. LeavesAt true (InWrites (InSteps work text) (IsOutcome work text)) first after (Err why))
told_stops g work Stood None reader first before after why whole h adds = tt
told_stops g work Stood (Some text) reader first before after why whole h adds = stops g work Stood text reader first before after why whole h adds

pub told_ends : {S E : Type 0} (g : Ghosts S) (work : Work E) (Stood Stands : Work E → List E
    → Type 0) (rest : Option (List ℕ)) (reader : LineReader S Buffer g) (first before after : Option Pieces) (status : Status)
    → IfSome rest (λ text. HasCome g work (Stood work) text reader first before)
    → MakesNext (text_left g reader) (bytes_before reader) Stood Stands (Ok (Some status))
    → AddsNext {T = Option Status} (text_left g reader) (bytes_before reader) Stood before after (Ok (Some status))
    → IfSome rest (λ text. LeavesAt true (InWrites (InSteps work text) (IsOutcome work text)) first after (Ok status))
told_ends g work Stood Stands None reader first before after status h makes adds = tt
told_ends g work Stood Stands (Some text) reader first before after status h makes adds =
    ends g work Stood Stands text reader first before after status h makes adds

pub told_near : {S E : Type 0} (g : Ghosts S) (work : Work E) (Stood Stands : Work E → List E
    → Type 0) (rest shelf : Option (List ℕ)) (reader : LineReader S Buffer g) (first before : Option Pieces) (status : Status)
    → IfSome rest (λ text. HasCome g work (Stood work) text reader first before)
    → MakesNext (text_left g reader) (bytes_before reader) Stood Stands (Ok (Some status)) → IsNear (text_left g reader) shelf
    → IfSome rest (λ text. IsNear (Some (refused_part work text)) shelf)
told_near g work Stood Stands None shelf reader first before status h makes near = tt
told_near g work Stood Stands (Some text) shelf reader first before status h makes near =
    subst (λ (l : Option (List ℕ)). IsNear l shelf) (ends_behind g work Stood Stands text reader first before status h makes) near
