-- What a host that drops what its ports do not take gives to its devices: what reaches them. A port takes what was sent after it was opened, and it is open
-- since the latest start, join or mend.
use Rattle.std.specs.Prelude.{◌≡◌, ℕ, ◌+◌, ◌≤◌, Bool, true, false, ◌||◌, List, ◌++◌, Some}
use Rattle.std.specs.List.{list_any}
use Rattle.sd_plan.specs.declared.topo.Thing.TheVariants as thing
use Rattle.sd_device.specs.declared.msg.Flight.{Flight}
use Rattle.sd_device.specs.declared.registers.Registers.{Registers}
use Rattle.sd_exports.specs.Ports.{Opening, StandsSince, Comes, ComesLater}
use Rattle.sd_history.specs.World.{Setting, fails, is_up, link_has_failed, latest_reference}
use Rattle.sd_history.specs.Steps.{Step, seen_of, flight_numbered}
use Rattle.sd_history.specs.Refusals.{was_swept}
use Rattle.sd_beside.specs.deployment.Deployment.{Moment, steps_of, IsDeployment}

-- The port of a device for a link is open since this reference: by then the device was up and the link worked, and neither has failed since.
pub record IsOpenSince (steps : List Step) (device link reference : ℕ) : Type 0 where
  pub later : List Step
  pub earlier : List Step
  pub are : steps ≡ later ++ earlier
  pub begun : latest_reference (seen_of earlier) ≤ reference
  pub up : is_up (seen_of earlier) device ≡ true
  pub works : link_has_failed (seen_of earlier) link ≡ false
  pub unbroken : list_any (λ s. fails (thing.Link link) s.seen.event || fails (thing.Device device) s.seen.event) later ≡ false

-- A message came at a port that stands since this opening, and the port took it, as the contract of the C library tells (`later`).
pub record IsTaken (opening : Opening) (flight : Flight) : Type 0 where
  pub takes : ℕ → Bool
  pub lowered : ℕ
  pub counter : ℕ
  pub reference : ℕ
  pub stands : StandsSince lowered takes opening
  pub comes : Comes opening flight reference (counter + lowered)
  pub later : ComesLater takes counter

-- So it was sent while both worked, and neither has failed since: this is what IsDelivered asks of it as `up` and `unbroken`.
abbrev pub OpenPortDelivers : {S : Type 0} → (S → Registers → Type 0) → Setting → Type 0
OpenPortDelivers {S = S} Holds setting =
    (run : List (Moment S)) (number : ℕ) (flight : Flight) (opening : Opening) → IsDeployment Holds setting run
    → flight_numbered (steps_of setting run) number ≡ Some flight
    → IsOpenSince (steps_of setting run) flight.receiver flight.link opening.reference → IsTaken opening flight
    → (flight.reaches ≡ true) × (was_swept (steps_of setting run) flight ≡ false)
