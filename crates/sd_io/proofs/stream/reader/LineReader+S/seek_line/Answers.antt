use Rattle.std.proofs.KnownBytes.{Keeps-trans}
use Rattle.std.proofs.Common.{◌≡◌, ◌<◌, sym, ◌∙◌, rules, arith, length, take}
use Rattle.sd_io.specs.stream.Buffered.{buffered}
use Rattle.sd_io.proofs.stream.AnswerLaws.{never_read_fault}
use Rattle.sd_io.proofs.stream.Ranges.{same_bytes}
use Rattle.sd_io.proofs.stream.Left.{line_answers, fault_answers, refused_left, line_left, past_line, last_line_left, no_line_left, not_refused, searched_kept}
use Rattle.sd_io.proofs.stream.reader.LineReader+S.seek_line.Goals as goal

pub returns-in-Ends-clause-answer : goal.returns-in-Ends-clause-answer
returns-in-Ends-clause-answer g c =
    let is = rw (c.waiting.ensures, c.turns.invariant.before) at c.in-Ends.ensures in
    line_answers _ _ _ c.pass.new.self.buffer.bytes.items c.pass.result (line_left _ _ _ _ _ c.turns.invariant.left is) c.pass.ensures.line

pub returns-in-Ends-clause-past : goal.returns-in-Ends-clause-past
returns-in-Ends-clause-past g c =
    let is = rw (c.waiting.ensures, c.turns.invariant.before) at c.in-Ends.ensures in
    rw c.pass.ensures.shelf (past_line _ _ _ _ _ _ _ c.turns.invariant.left is c.pass.ensures.rest (omega arith))

pub returns-in-Refused-clause-answer : goal.returns-in-Refused-clause-answer
returns-in-Refused-clause-answer g c =
    let is = rw (c.waiting.ensures, c.turns.invariant.before) at c.in-Refused.ensures in
    fault_answers _ _ c.turns.self.buffer.bytes.items _ (refused_left _ _ _ _ _ c.turns.invariant.left is)

pub returns-in-Refused-clause-shelf : goal.returns-in-Refused-clause-shelf
returns-in-Refused-clause-shelf g c =
    record {
      same_held = search rules;
      same_names = search rules;
      count =
          record {
            later = search rules;
            rose = λ e. absurd (never_read_fault c.turns.self.before c.waiting.result.now (c.in-Refused.ensures ∙ cc));
            steady = λ e. search rules;
          };
    }

pub returns-in-Ok-eq0-clause-answer : goal.returns-in-Ok-eq0-clause-answer
returns-in-Ok-eq0-clause-answer g c =
    let told = c.in-Ok-eq0.ensures in
    let same : buffered c.fill.new.self ≡ buffered c.turns.self.buffer = same_bytes _ _ told.front (omega (arith, told.grown)) in
    let is = rw (c.waiting.ensures, ← same, c.turns.invariant.before) at c.in-Open.ensures in
    let empty : length (buffered c.fill.new.self) ≡ 0 = rw (same, ← c.waiting-searched.ensures) (omega arith) in
    no_line_left _ _ _ _ c.fill.new.self.bytes.items (Keeps-trans _ _ _ c.turns.invariant.left told.left) (told.end (omega arith)) is empty

pub returns-in-Ok-eq0-clause-repeats : goal.returns-in-Ok-eq0-clause-repeats
returns-in-Ok-eq0-clause-repeats g c =
    not_refused _ _ _ _ c.turns.invariant.repeats (rw c.waiting.ensures at c.in-Open.ensures)

pub returns-in-Ok-eq0-2-clause-answer : goal.returns-in-Ok-eq0-2-clause-answer
returns-in-Ok-eq0-2-clause-answer g c =
    let told = c.in-Ok-eq0.ensures in
    let same : buffered c.fill.new.self ≡ buffered c.turns.self.buffer = same_bytes _ _ told.front (omega (arith, told.grown)) in
    let is = rw (c.waiting.ensures, ← same, c.turns.invariant.before) at c.in-Open.ensures in
    let more : 0 < length (buffered c.fill.new.self) = rw (same, ← c.waiting-searched.ensures) (omega arith) in
    let all : take (length c.waiting-searched.result.now) (buffered c.fill.new.self) ≡ buffered c.fill.new.self =
    rw c.waiting-searched.ensures (told.front ∙ sym same) in
    line_answers _ _ _ c.pass-in-Ok-eq0-2.new.self.buffer.bytes.items c.pass-in-Ok-eq0-2.result
    (last_line_left _ _ _ _ (Keeps-trans _ _ _ c.turns.invariant.left told.left) (told.end (omega arith)) is more) (c.pass-in-Ok-eq0-2.ensures.line ∙ all)

pub returns-in-Ok-eq0-2-clause-repeats : goal.returns-in-Ok-eq0-2-clause-repeats
returns-in-Ok-eq0-2-clause-repeats g c =
    not_refused _ _ _ _ c.turns.invariant.repeats (rw c.waiting.ensures at c.in-Open.ensures)

pub returns-in-Err-clause-repeats : goal.returns-in-Err-clause-repeats
returns-in-Err-clause-repeats g c =
    not_refused _ _ _ _ c.turns.invariant.repeats (rw c.waiting.ensures at c.in-Open.ensures)

pub turns-preserved : goal.turns-preserved
turns-preserved g c =
    let is = rw c.waiting.ensures at c.in-Open.ensures in
    record {
      left = Keeps-trans _ _ _ c.turns.invariant.left c.fill.ensures.left;
      before = search rules;
      repeats = not_refused _ _ _ _ c.turns.invariant.repeats is;
      searched = rw c.waiting-searched.ensures (searched_kept _ _ c.fill.ensures.front is.len_is);
      among = search rules;
      short = search rules;
      within = search rules;
      steady = search rules;
      same_shelf = search rules;
      same_held = search rules;
      same_names = search rules;
    }
