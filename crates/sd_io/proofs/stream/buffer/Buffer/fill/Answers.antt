use Rattle.std.proofs.Common.{◌∙◌, arith}
use Rattle.std.proofs.lemmas.List.{take_all}
use Rattle.sd_io.proofs.stream.Ranges.{same_range, grown_range, front_kept}
use Rattle.sd_io.proofs.stream.Left.{left_after_read, left_kept, on_err}
use Rattle.sd_io.proofs.stream.buffer.Buffer.fill.Goals as goal

pub returns-clause-left : goal.returns-clause-left
returns-clause-left g c =
    let mid = c.make_room.new.self in
    rw (← c.make_room.ensures.same)
    (left_after_read _ _ _ _ _
    (grown_range mid.bytes.items c.read_at.new.bytes.items mid.start mid.end c.in_ok-count.count mid.ordered c.read_at.ensures.front)
    c.in_ok-count.ensures.bytes)

pub returns-clause-front : goal.returns-clause-front
returns-clause-front g c =
    let mid = c.make_room.new.self in
    rw (← c.make_room.ensures.same)
    (front_kept _ _ _ (grown_range mid.bytes.items c.read_at.new.bytes.items mid.start mid.end c.in_ok-count.count mid.ordered c.read_at.ensures.front))

pub returns-in_err-count-clause-left : goal.returns-in_err-count-clause-left
returns-in_err-count-clause-left g c =
    let mid = c.make_room.new.self in
    rw (← c.make_room.ensures.same)
    (left_kept _ _ _ _ (same_range mid.bytes.items c.read_at.new.bytes.items mid.start mid.end mid.ordered c.read_at.ensures.front)
    c.in_err-count.ensures.err)

pub returns-in_err-count-clause-front : goal.returns-in_err-count-clause-front
returns-in_err-count-clause-front g c =
    let mid = c.make_room.new.self in
    let same = same_range mid.bytes.items c.read_at.new.bytes.items mid.start mid.end mid.ordered c.read_at.ensures.front ∙ c.make_room.ensures.same in
    rw same (take_all _ _ (omega arith))

pub returns-in_err-count-clause-err : goal.returns-in_err-count-clause-err
returns-in_err-count-clause-err g c =
    let mid = c.make_room.new.self in
    on_err _ (same_range mid.bytes.items c.read_at.new.bytes.items mid.start mid.end mid.ordered c.read_at.ensures.front ∙ c.make_room.ensures.same)
