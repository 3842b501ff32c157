use Rattle.std.proofs.Common.{rules, arith, length}
use Rattle.std.proofs.lemmas.List.{length-append}
use Rattle.sd_io.proofs.outside.Cutting.{cut_piece, total_more}
use Rattle.sd_io.proofs.outside.room.add_piece.Goals as goal

pub returns-clause-pieces : goal.returns-clause-pieces
returns-clause-pieces c =
    rw (c.push.ensures.items, c.append.ensures.items) (cut_piece c.args.counts.now.items c.args.bytes.now.items c.args.more.now c.requires.whole (search rules))

pub returns-clause-whole : goal.returns-clause-whole
returns-clause-whole c =
    rw (c.push.ensures.items, c.append.ensures.items)
    (omega (arith, total_more c.args.counts.now.items (length c.args.more.now), length-append c.args.bytes.now.items c.args.more.now, c.requires.whole))
