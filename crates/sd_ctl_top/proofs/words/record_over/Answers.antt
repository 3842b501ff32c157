use Rattle.std.proofs.Common.{arith, map, string_bytes}
use Rattle.sd_ctl_top.proofs.Recordings.{few_words, many_words, recording_is}
use Rattle.sd_ctl_top.proofs.words.record_over.Goals as goal

pub returns-then-words-lt2-clause-is : goal.returns-then-words-lt2-clause-is
returns-then-words-lt2-clause-is c = few_words string_bytes c.args.topology.now c.args.words.now (omega arith)

pub returns-then-words-clause-is : goal.returns-then-words-clause-is
returns-then-words-clause-is c = many_words string_bytes c.args.topology.now c.args.words.now (omega arith) (omega arith)

pub returns-clause-is : goal.returns-clause-is
returns-clause-is c =
    recording_is string_bytes c.args.topology.now c.args.words.now (map string_bytes c.all_but_last.result.now) c.last_word.result.now (omega arith)
    (omega arith) c.all_but_last.ensures.are c.last_word.ensures
