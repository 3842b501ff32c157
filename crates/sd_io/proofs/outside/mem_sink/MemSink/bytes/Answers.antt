use Rattle.std.proofs.Common.{ap, sym, ◌∙◌}
use Rattle.std.specs.List.{concat}
use Rattle.sd_io.specs.outside.MemSink.{Kept}
use Rattle.sd_io.proofs.outside.Cutting.{concat_cut}
use Rattle.sd_io.proofs.outside.mem_sink.MemSink.bytes.Goals as goal

pub returns-clause-pieces : goal.returns-clause-pieces
returns-clause-pieces c =
    let all = concat_cut c.self.inside.counts.items c.self.inside.bytes.items c.self.invariant.cut in
    c.as_slice.ensures.value ∙ sym all ∙ ap (λ (k : Kept). concat k.pieces) c.self.view_is
