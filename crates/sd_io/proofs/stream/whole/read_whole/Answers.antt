use Rattle.std.proofs.KnownBytes.{Consumes-trans}
use Rattle.sd_io.proofs.stream.whole.read_whole.Goals as goal

pub returns-in-Err-extend_from_slice-clause-given :
    goal.returns-in-Err-extend_from_slice-clause-given
returns-in-Err-extend_from_slice-clause-given g c =
    (_, Consumes-trans _ _ _ _ _ c.loop-piece.invariant.read c.in-Ok.ensures.bytes.0)
