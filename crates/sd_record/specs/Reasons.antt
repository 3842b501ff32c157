-- Why the fleet refuses an event, as it is printed: in the words of a replay.
use Rattle.std.specs.Prelude.{ℕ, List, codes}
use Rattle.sd_history.specs.declared.ApplyFault.{ApplyFault}
use Rattle.sd_history.specs.declared.ApplyFault.TheVariants as apply

abbrev pub apply_name : ApplyFault → List ℕ
apply_name apply.UnknownDevice = codes "UnknownDevice"
apply_name apply.UnknownLink = codes "UnknownLink"
apply_name apply.DeadDevice = codes "DeadDevice"
apply_name apply.DeadLink = codes "DeadLink"
apply_name apply.UnknownMessage = codes "UnknownMessage"
apply_name apply.SpentMessage = codes "SpentMessage"
apply_name apply.WrongDevice = codes "WrongDevice"
apply_name apply.TimeFalls = codes "TimeFalls"
apply_name apply.CounterFalls = codes "CounterFalls"
apply_name apply.NotStarted = codes "NotStarted"
apply_name apply.StartedTwice = codes "StartedTwice"
apply_name apply.NoPlanLeft = codes "NoPlanLeft"
apply_name apply.WindowOrder = codes "WindowOrder"
apply_name apply.AfterEnd = codes "AfterEnd"
apply_name apply.NotFailed = codes "NotFailed"
apply_name apply.NotMember = codes "NotMember"
apply_name apply.TooManyEvents = codes "TooManyEvents"
apply_name apply.Memory = codes "Memory"
