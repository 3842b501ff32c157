use Rattle.std.proofs.Common.{◌∙◌, sym}
use Rattle.sd_num.proofs.Digits.{digits_from_none}
use Rattle.sd_num.proofs.decimals.read_long.Goals as goal

pub read_digits-requires : goal.read_digits-requires
read_digits-requires c = digits_from_none c.args.bytes.now (sym c.first_other.ensures ∙ c.in-None.is)
