-- What commit wait promises of every history.
use Rattle.std.specs.Prelude.{◌≡◌, ℕ, ◌<◌, List, length, IsTrue, false}
use Rattle.sd_sched.specs.declared.Event.{Event}
use Rattle.sd_history.specs.World.{Setting}
use Rattle.sd_history.specs.Steps.{seen_of}
use Rattle.sd_history.specs.Chronicle.{chronicle, IsHistory}
use Rattle.sd_history.specs.Premises.{is_honest}
use Rattle.sd_history.specs.Lines.{reports}
use Rattle.sd_replay.specs.wait.Waits.{has_disorder}

-- while clocks, oscillators and links are honest, a transaction that begins at or after the end of another has the greater stamp
abbrev pub KeepsOrder : Setting → Type 0
KeepsOrder setting =
    (history : List Event) → IsHistory setting history → IsTrue (is_honest setting (seen_of (chronicle setting history)))
    → (k : ℕ) → k < length (reports (chronicle setting history)) → has_disorder (reports (chronicle setting history)) k ≡ false
