use Rattle.std.proofs.Common.{◌∙◌, ap, map, string_bytes}
use Rattle.sd_ctl_top.proofs.Openings.{but_last_is}
use Rattle.sd_ctl_top.proofs.words.all_but_last.Goals as goal

pub returns-clause-are : goal.returns-clause-are
returns-clause-are c = ap (map string_bytes) c.words_to.ensures ∙ but_last_is string_bytes c.args.words.now
