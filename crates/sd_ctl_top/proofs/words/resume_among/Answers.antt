use Rattle.std.proofs.Common.{◌∙◌, string_bytes}
use Rattle.sd_ctl_top.proofs.Openings.{parts_at}
use Rattle.sd_ctl_top.proofs.words.resume_among.Goals as goal

pub returns-clause-is : goal.returns-clause-is
returns-clause-is c =
    c.resume_parts.ensures.is
    ∙ parts_at string_bytes c.args.topology.now c.args.words.now c.words_to.result.now c.words_from.result.now c.in_ok-place.place _ c.words_to.ensures
    c.words_from.ensures c.in_ok-place.ensures.is
