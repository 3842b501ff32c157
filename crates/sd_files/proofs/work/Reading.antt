-- How the reading of a text goes on from line to line, and what is written for it begins.
use Rattle.std.proofs.Common.{◌≡◌, ℕ, ◌+◌, ◌-◌, ◌<◌, Bool, true, false, cond, List, [], ◌∷◌, ◌++◌, Some, None, Result, Ok, Err, refl, sym, ap, ◌∙◌, arith, length, take, append_assoc, append-nil}
use Rattle.std.specs.List.{list_any}
use Rattle.std.specs.Prelude.{codes}
use Rattle.sd_io.specs.stream.Lines.{lines, line_len, after_line}
use Rattle.sd_io.proofs.stream.LineLaws.{length-take-line_len, length-after_line, lines-more}
use Rattle.sd_io.specs.outside.Pieces.{Pieces, piece_of}
use Rattle.sd_files.specs.declared.Status.{Status}
use Rattle.sd_files.specs.declared.Status.TheVariants.{InputRefused}
use Rattle.sd_files.specs.work.Works.{Work, Reading, judged, read_on, reading_from, pieces_for, last_pieces_for, status_for, all_pieces, refused_line}
use Rattle.sd_files.specs.work.Steps.{Next, Last, step_for, step_of, step_pieces, refused_step}

-- where no line is left it does not matter where they would begin
same_start : {E : Type 0} (work : Work E) (total start other : ℕ) (xs : List E) (text : List ℕ) → (0 < length text → start ≡ other)
    → reading_from work total start xs (lines text) ≡ reading_from work total other xs (lines text)
unfolding reading_from
same_start work total start other xs [] same = refl
same_start work total start other xs (byte ∷ bytes) same = ap (λ (s : ℕ). reading_from work total s xs (lines (byte ∷ bytes))) (same (omega arith))

next_only : {E : Type 0} (ended : Bool) (pieces refused : Pieces) (status : Status) (x : E) → cond ended (Last pieces status) (Last refused InputRefused) ≡ Next x
    → ⊥
next_only true pieces refused status x same = cc
next_only false pieces refused status x same = cc

taken_next : {E : Type 0} (work : Work E) (xs : List E) (said : Result E (List ℕ)) (x : E) → step_for work xs said ≡ Next x → said ≡ Ok x
taken_next work xs (Ok other) x same = cc
taken_next work xs (Err why) x same = cc

next_start : (start other len text rest : ℕ) → rest ≡ text - (len + 1) → other + rest ≡ start + text → 0 < rest → start + len + 1 ≡ other
next_start start other len text rest left count some = omega (arith, left, count, some)

-- after a line that was accepted the reading goes on after it
pub reads_on : {E : Type 0} (work : Work E) (total start other : ℕ) (xs : List E) (x : E) (text : List ℕ) → step_of work total start xs (lines text) ≡ Next x
    → other + length (after_line text) ≡ start + length text
    → reading_from work total start xs (lines text) ≡ reading_from work total other (x ∷ xs) (lines (after_line text))
unfolding reading_from
reads_on work total start other xs x [] step count =
    absurd (next_only (list_any work.ends xs) (work.last_pieces xs) (piece_of (refused_line work (length xs + 1) (codes "NoEnd"))) (work.last_status xs) x step)
reads_on {E = E} work total start other xs x (byte ∷ bytes) step count = from (byte ∷ bytes) (omega arith) step count
  where
    from : (text : List ℕ) → 0 < length text → step_of work total start xs (lines text) ≡ Next x → other + length (after_line text) ≡ start + length text
        → reading_from work total start xs (lines text) ≡ reading_from work total other (x ∷ xs) (lines (after_line text))
    from text some step count =
        let line = take (line_len text) text in
        let is : judged work total start xs line ≡ Ok x = taken_next work xs (judged work total start xs line) x (rw (lines-more text some) at step) in
        rw (lines-more text some, is, length-take-line_len text)
        (same_start work total (start + line_len text + 1) other (x ∷ xs) (after_line text)
        (next_start start other (line_len text) (length text) (length (after_line text)) (length-after_line text) count))

-- how a reading ends
pub record EndsWith {E : Type 0} (work : Work E) (r : Reading E) (xs : List E) (pieces : Pieces) (status : Status) : Type 0 where
  pub taken_are : r.taken ≡ xs
  pub pieces_are : last_pieces_for work xs r.refused ≡ pieces
  pub status_is : status_for work xs r.refused ≡ status

ends_open : {E : Type 0} (work : Work E) (ended : Bool) (xs : List E) (pieces : Pieces) (status : Status)
    → cond ended (Last (work.last_pieces xs) (work.last_status xs)) (refused_step work xs (codes "NoEnd")) ≡ Last pieces status
    → EndsWith work (record { taken = xs; refused = cond ended None (Some (codes "NoEnd")) }) xs pieces status
ends_open work true xs pieces status same = record { taken_are = refl; pieces_are = cc; status_is = cc }
ends_open work false xs pieces status same = record { taken_are = refl; pieces_are = cc; status_is = cc }

ends_at : {E : Type 0} (work : Work E) (xs : List E) (said : Result E (List ℕ)) (next : E → Reading E) (pieces : Pieces) (status : Status)
    → step_for work xs said ≡ Last pieces status
    → EndsWith work (read_on said xs next) xs pieces status
ends_at work xs (Ok x) next pieces status same = cc
ends_at work xs (Err why) next pieces status same = record { taken_are = refl; pieces_are = cc; status_is = cc }

-- the last step ends the reading
pub reads_end : {E : Type 0} (work : Work E) (total start : ℕ) (xs : List E) (ls : List (List ℕ)) (pieces : Pieces) (status : Status)
    → step_of work total start xs ls ≡ Last pieces status
    → EndsWith work (reading_from work total start xs ls) xs pieces status
unfolding reading_from
reads_end work total start xs [] pieces status step = ends_open work (list_any work.ends xs) xs pieces status step
reads_end work total start xs (line ∷ others) pieces status step =
    ends_at work xs (judged work total start xs line) (λ x. reading_from work total (start + length line + 1) (x ∷ xs) others) pieces status step

-- what is written for a reading begins with what is written for its first lines
pub begins_with : {E : Type 0} (work : Work E) (total start : ℕ) (xs : List E) (ls : List (List ℕ))
    → (more : Pieces) × (pieces_for work (reading_from work total start xs ls) ≡ all_pieces work xs ++ more)
unfolding reading_from all_pieces
begins_with work total start xs [] = (last_pieces_for work xs (cond (list_any work.ends xs) None (Some (codes "NoEnd"))), refl)
begins_with {E = E} work total start xs (line ∷ others) =
    from (judged work total start xs line) (λ x. begins_with work total (start + length line + 1) (x ∷ xs) others)
  where
    from : (said : Result E (List ℕ))
        → ((x : E) → (more : Pieces) × (pieces_for work (reading_from work total (start + length line + 1) (x ∷ xs) others) ≡ all_pieces work (x ∷ xs) ++ more))
        → (more : Pieces)
        × (pieces_for work (read_on said xs (λ x. reading_from work total (start + length line + 1) (x ∷ xs) others)) ≡ all_pieces work xs ++ more)
    from (Ok x) later = (piece_of (work.bytes xs x) ++ (later x).0, (later x).1 ∙ append_assoc (all_pieces work xs) (piece_of (work.bytes xs x)) (later x).0)
    from (Err why) later = (last_pieces_for work xs (Some why), refl)

-- and with what its next step writes
pub begins_with_step : {E : Type 0} (work : Work E) (total start : ℕ) (xs : List E) (ls : List (List ℕ))
    → (more : Pieces)
    × (pieces_for work (reading_from work total start xs ls) ≡ (all_pieces work xs ++ step_pieces work xs (step_of work total start xs ls)) ++ more)
unfolding reading_from all_pieces
begins_with_step {E = E} work total start xs [] = from (list_any work.ends xs)
  where
    from : (ended : Bool) → (more : Pieces)
        × (all_pieces work xs ++ last_pieces_for work xs (cond ended None (Some (codes "NoEnd")))
        ≡ (all_pieces work xs ++ step_pieces work xs (cond ended (Last (work.last_pieces xs) (work.last_status xs)) (refused_step work xs (codes "NoEnd"))))
        ++ more)
    from true = ([], sym (append-nil (all_pieces work xs ++ work.last_pieces xs)))
    from false = ([], sym (append-nil (all_pieces work xs ++ piece_of (refused_line work (length xs + 1) (codes "NoEnd")))))
begins_with_step {E = E} work total start xs (line ∷ others) = from (judged work total start xs line)
  where
    from : (said : Result E (List ℕ)) → (more : Pieces)
        × (pieces_for work (read_on said xs (λ x. reading_from work total (start + length line + 1) (x ∷ xs) others))
        ≡ (all_pieces work xs ++ step_pieces work xs (step_for work xs said)) ++ more)
    from (Ok x) = begins_with work total (start + length line + 1) (x ∷ xs) others
    from (Err why) = ([], sym (append-nil (all_pieces work xs ++ piece_of (refused_line work (length xs + 1) why))))
