use Rattle.std.proofs.Common.{◌∙◌, string_bytes}
use Rattle.sd_ctl_top.proofs.Openings.{last_is}
use Rattle.sd_ctl_top.proofs.words.last_word.Goals as goal

pub returns : goal.returns
returns c = c.as_str.ensures.value ∙ last_is string_bytes c.args.words.now c.index-words-last.result c.requires c.index-words-last.is
