use Rattle.sd_sched.proofs.ReadBack.{line_back}
use Rattle.sd_sched.proofs.printing.line_text.Goals as goal

pub returns-in-Ok-clause-reads_back : goal.returns-in-Ok-clause-reads_back
returns-in-Ok-clause-reads_back c = line_back c.args.event.now

pub returns-in-Err-clause-reads_back : goal.returns-in-Err-clause-reads_back
returns-in-Err-clause-reads_back c = line_back c.args.event.now
