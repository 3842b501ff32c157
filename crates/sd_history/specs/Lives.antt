-- The present life of a device in a history, and what a device tells when it is asked.
use Rattle.std.specs.Prelude.{ℕ, List, ◌∷◌, nat_eq, Option, Some, None, option_map, if◌then◌else◌, []}
use Rattle.sd_num.specs.declared.clock.Report.{Report}
use Rattle.sd_device.specs.declared.Effect.TheVariants.{Quiet}
use Rattle.sd_device.specs.Living.{Life}
use Rattle.sd_history.specs.Steps.{Act, Told, Step, Makes, Calls, Asks, Passes}

-- a device that is asked tells this report
abbrev pub tells_report : Report → Told
tells_report report = record { effect = Quiet; answers = None; report = Some report }

-- the life of a device after an act
abbrev pub life_after : Act → ℕ → Option Life → Option Life
life_after (Makes e making) d before = if nat_eq e d then Some (record { making = making; calls = [] }) else before
life_after (Calls e call) d before = if nat_eq e d then option_map (λ life. record { making = life.making; calls = call ∷ life.calls }) before else before
life_after (Asks e counter) d before = before
life_after Passes d before = before

-- the present life of a device: its latest making, and its calls since then
abbrev pub life_in : List Step → ℕ → Option Life
life_in [] d = None
life_in (s ∷ earlier) d = life_after s.act d (life_in earlier d)
