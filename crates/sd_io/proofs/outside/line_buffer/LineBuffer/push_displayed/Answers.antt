use Rattle.sd_io.proofs.outside.Printing.{printed_text}
use Rattle.sd_io.proofs.outside.line_buffer.LineBuffer.push_displayed.Goals as goal

pub returns-in-Ok : goal.returns-in-Ok
returns-in-Ok g c = printed_text c.args.self.now c.write.new.self (g.D.Display.output c.args.value) c.in-Ok.ensures.writes
