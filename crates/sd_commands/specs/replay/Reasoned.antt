-- A printed text is the reason of a fault.
use Rattle.std.specs.Prelude.{◌≡◌, ℕ, List}
use Rattle.sd_replay.specs.declared.faults.ReplayFault.{ReplayFault}
use Rattle.sd_replay.specs.declared.faults.ReplayFault.TheVariants as fault
use Rattle.sd_commands.specs.replay.Reasons.{line_reason, apply_name}

-- the text is the reason of a fault; out of memory has none
abbrev pub HasReason : ReplayFault → (text : List ℕ) → Type 0
HasReason (fault.Line why) text = text ≡ line_reason why
HasReason (fault.Apply why) text = text ≡ apply_name why
HasReason fault.Memory text = ⊥
