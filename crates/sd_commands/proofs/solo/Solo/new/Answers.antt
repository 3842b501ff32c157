use Rattle.std.proofs.Common.{refl}
use Rattle.sd_commands.specs.solo.Histories.{IsHistory}
use Rattle.sd_commands.proofs.solo.Solo.new.Goals as goal

pub returns : goal.returns
unfolding IsHistory
returns c = record { history = tt; situation = refl; estimate = c.set.ensures; reports = refl }
