use Rattle.std.proofs.Common.{◌+◌, arith}
use Rattle.sd_io.proofs.stream.Found.{line_len_window}
use Rattle.sd_io.proofs.stream.Judged.{judged_line, judged_long, judged_past, judged_open}
use Rattle.sd_io.proofs.stream.judge.judge.Goals as goal

pub overflow_add-len : goal.overflow_add-len
overflow_add-len c =
    let found = line_len_window c.args.bytes.now c.args.searched c.min-reach.result c.requires.searched (omega arith) in
    omega (arith, found)

pub returns-then-len-reach : goal.returns-then-len-reach
returns-then-len-reach c =
    let found = line_len_window c.args.bytes.now c.args.searched c.min-reach.result c.requires.searched (omega arith) in
    judged_line c.args.before c.args.bytes.now _ c.min-reach.result (omega (arith, found)) c.if-len-reach.true (omega arith) (omega arith) (omega arith)

pub returns-then-reach-gt-LINE : goal.returns-then-reach-gt-LINE
returns-then-reach-gt-LINE c =
    let found = line_len_window c.args.bytes.now c.args.searched c.min-reach.result c.requires.searched (omega arith) in
    judged_long c.args.before c.args.bytes.now (c.args.searched + c.line_len_of.result) c.min-reach.result
    (omega (arith, found)) c.if-len-reach.false c.if-reach-gt-LINE.true (omega arith)

pub returns-then-reach-bytes : goal.returns-then-reach-bytes
returns-then-reach-bytes c =
    let found = line_len_window c.args.bytes.now c.args.searched c.min-reach.result c.requires.searched (omega arith) in
    judged_past c.args.before c.args.bytes.now (c.args.searched + c.line_len_of.result) c.min-reach.result (omega (arith, found)) c.if-len-reach.false
    (omega arith) c.if-reach-bytes.true (omega arith)

pub returns-else-reach-bytes : goal.returns-else-reach-bytes
returns-else-reach-bytes c =
    let found = line_len_window c.args.bytes.now c.args.searched c.min-reach.result c.requires.searched (omega arith) in
    judged_open c.args.before c.args.bytes.now (c.args.searched + c.line_len_of.result) c.min-reach.result (omega (arith, found)) c.if-len-reach.false
    (omega arith) (omega arith) (omega arith)
