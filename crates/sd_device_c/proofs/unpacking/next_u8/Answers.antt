use Rattle.std.proofs.Common.{arith, ◌<◌, ◌-◌, List, ◌++◌, ◌∙◌, sym, ap, length, take, drop, get_or}
use Rattle.std.proofs.lemmas.Slice.{first_rest}
use Rattle.sd_device_c.proofs.Bytes.{little_1}
use Rattle.sd_device_c.proofs.unpacking.next_u8.Goals as goal

pub returns-clause-bytes : goal.returns-clause-bytes
returns-clause-bytes c =
    let all = c.args.bytes.now in
    let some : 0 < length all = omega (arith, c.requires) in
    first_rest all 0 some ∙ ap (λ (xs : List _). xs ++ take (length all - 1) (drop 1 all)) (sym (little_1 (get_or all 0 0)))
