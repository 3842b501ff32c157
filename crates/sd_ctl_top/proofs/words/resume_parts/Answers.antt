use Rattle.std.proofs.Common.{◌∙◌, arith, map, string_bytes}
use Rattle.sd_ctl_top.proofs.Openings.{few_before, few_behind, over_parts}
use Rattle.sd_ctl_top.proofs.words.resume_parts.Goals as goal

pub returns-then-before-lt2-clause-is : goal.returns-then-before-lt2-clause-is
returns-then-before-lt2-clause-is c = few_before string_bytes c.args.topology.now c.args.before.now c.args.behind.now (omega arith)

pub returns-then-behind-lt2-clause-is : goal.returns-then-behind-lt2-clause-is
returns-then-behind-lt2-clause-is c = few_behind string_bytes c.args.topology.now c.args.before.now c.args.behind.now (omega arith) (omega arith)

pub returns-clause-is : goal.returns-clause-is
returns-clause-is c =
    c.resume_over.ensures.is
    ∙ over_parts string_bytes c.args.topology.now c.args.before.now c.args.behind.now (map string_bytes c.all_but_last.result.now) c.last_word.result.now
    (map string_bytes c.all_but_last-2.result.now) c.last_word-2.result.now (omega arith) (omega arith) c.all_but_last.ensures.are c.last_word.ensures
    c.all_but_last-2.ensures.are c.last_word-2.ensures
