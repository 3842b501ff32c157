use Rattle.std.proofs.Common.{rules, List, ◌++◌, take, sym, ap, ◌∙◌}
use Rattle.sd_device_c.proofs.Bytes.{little_4}
use Rattle.sd_device_c.proofs.packing.put_u32.Goals as goal

pub returns-clause-bytes : goal.returns-clause-bytes
returns-clause-bytes c =
    c.put.ensures.bytes
    ∙ ap (λ (xs : List _). take c.args.at c.args.bytes.now ++ xs)
    (c.to_le_bytes.ensures ∙ sym (little_4 c.args.number (search rules)))
