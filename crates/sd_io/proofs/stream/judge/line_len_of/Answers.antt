use Rattle.std.proofs.Common.{◌∙◌}
use Rattle.sd_io.proofs.stream.Found.{line_len_found}
use Rattle.sd_io.proofs.stream.judge.line_len_of.Goals as goal

pub returns : goal.returns
returns c = c.unwrap_or.ensures ∙ line_len_found c.args.bytes.now c.memchr.result c.memchr.ensures
