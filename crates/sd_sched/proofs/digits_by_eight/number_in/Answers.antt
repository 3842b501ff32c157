use Rattle.std.specs.Prelude.{bit_xor}
use Rattle.std.proofs.Common.{sym, ◌∙◌, arith}
use lib.Bits.{xor_lt}
use Rattle.core.proofs.dec2flt.Eight.{lanes_are, shifted_is}
use Rattle.sd_sched.proofs.digits_by_eight.number_in.Goals as goal

pub returns : goal.returns
returns c bytes eight is =
    let all = c.requires bytes eight is in
    let lanes = lanes_are bytes _ eight is in
    let small = xor_lt 64 c.args.word 0x3030_3030_3030_3030 c.ranges.word.fits (omega arith) in
    let s = shifted_is bytes 8 (bit_xor c.args.word 0x3030_3030_3030_3030) eight (omega arith) (omega arith) (omega arith) in
    (all, sym (c.value_of_eight.ensures s.0 s.1 s.2 ∙ s.3))
