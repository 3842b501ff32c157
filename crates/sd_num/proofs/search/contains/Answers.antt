use Rattle.std.proofs.Common.{◌∙◌}
use Rattle.sd_num.proofs.Ascending.{is_ok-searched}
use Rattle.sd_num.proofs.search.contains.Goals as goal

pub returns : goal.returns
returns c = c.is_ok.ensures.value ∙ is_ok-searched c.args.numbers.now c.args.number c.binary_search.result c.binary_search.ensures.position c.requires
