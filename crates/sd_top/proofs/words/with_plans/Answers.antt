use Rattle.std.proofs.Common.{◌∙◌, string_bytes}
use Rattle.sd_top.proofs.Wording.{files_cut}
use Rattle.sd_top.proofs.words.with_plans.Goals as goal

pub returns-in-len2-up-clause-is : goal.returns-in-len2-up-clause-is
returns-in-len2-up-clause-is c =
    rw (c.as_str.ensures.value, c.as_str-in-len2-up.ensures.value) at c.over_plans.ensures.is
    ∙ files_cut string_bytes c.args.word.now c.args.files.now c.topology-item.result c.schedule-item.result c.in-len2-up.len_at_least c.topology-item.is
    c.schedule-item.is
