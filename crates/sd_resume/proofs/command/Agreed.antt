-- Replays that have played two texts: what is said of them is said of the events of these.
use Rattle.std.specs.Prelude.{◌≡◌, ℕ, List, length, map, IfErr, IfOk, Result, Ok, Err, refl}
use Rattle.std.proofs.Common.{inl, inr, sym, ap, ◌∙◌, subst}
use Rattle.sd_plan.specs.topo.Network.{Network}
use Rattle.sd_plan.specs.declared.Plan.{Plan}
use Rattle.sd_device.specs.declared.registers.Registers.{Registers}
use Rattle.sd_device.specs.contracts.device.DeviceNode.TheImpl.{ghosts as device}
use Rattle.sd_device.specs.contracts.msg.observer.NoObserverObserver.TheImpl.{ghosts as nobody}
use Rattle.sd_sched.specs.declared.Event.{Event}
use Rattle.sd_history.specs.World.{Seen, Setting, setting_over}
use Rattle.sd_history.specs.Steps.{events_of, seen_of}
use Rattle.sd_history.specs.Nodes.{NodeStep, steps_of}
use Rattle.sd_fleet.specs.Standing as fleets
use Rattle.sd_safety.specs.invariant.Coming.{IsFair}
use Rattle.sd_replay.specs.Replaying.{StandsFor}
use Rattle.sd_resume.specs.law.Shifts.{Shift}
use Rattle.sd_resume.specs.law.Law.{whole}
use Rattle.sd_resume.specs.law.Cuts.{IsHonestOpening}
use Rattle.sd_resume.proofs.law.Resume.{nothing_else_comes, stands}
use Rattle.sd_resume.proofs.law.Spent.{lowered_event}
use Rattle.sd_resume.proofs.law.Standing.{goes_on_as}
use Rattle.sd_resume.specs.Differences.{Differs, OfRuns, Opens}
use Rattle.sd_resume.specs.Fleets.{DeviceFleet}
use Rattle.sd_resume.specs.Told.{shift_between, IsTold}
use Rattle.sd_resume.proofs.Never.{differ_never}
use Rattle.sd_resume.specs.Honesty.{AreDishonest, IsDishonest, IsHonest, OfHistories}
use Rattle.sd_resume.specs.declared.differences.Difference.{Difference}
use Rattle.sd_resume.specs.declared.differences.Dishonesty.{Dishonesty}
use Rattle.sd_files.specs.Writes.{IsAllowed}
use Rattle.sd_files.specs.declared.Status.TheVariants.{Done, Broken}
use Rattle.sd_files.specs.declared.command_error.Answer.{Answer}
use Rattle.sd_files.specs.declared.command_error.CommandError.{CommandError}
use Rattle.sd_files.specs.declared.command_error.CommandError.TheVariants as ended
use Rattle.sd_resume.specs.command.Behind.{GoOnAlike}
use Rattle.sd_resume.specs.command.Compared.{AreRuns, IsCompared}
use Rattle.sd_resume.specs.command.Opened.{OpensFor}
use Rattle.sd_replay.specs.Devices.{QuietReplay}
use Rattle.sd_resume.specs.command.Played.{HasPlayed}
use Rattle.sd_resume.specs.command.Printed.{agree_line, differ_line, dishonest_line}

-- after an honest opening all later events are as after the history that it opens, and no more breaks
go_on : (shift : Shift) (net : Network) (front plans : List Plan) (first second : List (NodeStep Registers)) → Opens shift net front plans first second
    → IsHonestOpening (setting_over net plans) (seen_of (steps_of first)) (seen_of (steps_of second)) → IsFair (setting_over net plans)
    → GoOnAlike shift net front plans (events_of (steps_of first)) (events_of (steps_of second))
go_on shift net front plans first second opens honest fair =
    record {
      goes = goes_on_as shift net front plans (events_of (steps_of first)) (events_of (steps_of second))
          (stands shift net front plans first second opens.opening honest) fair;
      raised = λ later history.
          (map (lowered_event shift) later, nothing_else_comes shift net front plans first second opens.opening opens.quiet later history);
    }

-- the fleet stands for the runs of the replay that drives it
abbrev Drives : QuietReplay → DeviceFleet → Type 0
Drives replay fleet =
    (setting : Setting) (run : List (NodeStep Registers)) → StandsFor device nobody replay setting run → fleets.StandsFor device fleet setting run

-- the runs of two replays
runs : (shift : Shift) (net : Network) (front plans : List Plan) (one other : QuietReplay) (events others : List Event)
    (played : HasPlayed one (whole net front plans) events) (also : HasPlayed other (setting_over net plans) others) → shift.plans ≡ length front
    → AreRuns shift net front plans events others played.run also.run
runs shift net front plans one other events others played also behind =
    record {
      behind = behind;
      first_runs = played.stands.made.is_run;
      second_runs = also.stands.made.is_run;
      first_happened = played.happened;
      second_happened = also.happened;
    }

-- What the comparison of the fleets says

module _ (shift : Shift) (one other : QuietReplay) (first second : DeviceFleet) (drives : Drives one first) (drives_other : Drives other second) (net : Network)
    (front plans : List Plan) (events others : List Event) (behind : length front ≡ shift.plans) (played : HasPlayed one (whole net front plans) events)
    (also : HasPlayed other (setting_over net plans) others) where
  of_runs : (P : Network → (front plans : List Plan) → (one other : List (NodeStep Registers)) → Type 0) → OfRuns shift first second P
      → P net front plans played.run also.run
  of_runs P holds =
      holds net front plans played.run also.run (sym behind) (drives (whole net front plans) played.run played.stands)
      (drives_other (setting_over net plans) also.run also.stands)

  -- where no difference is found
  pub opens_for : OfRuns shift first second (Opens shift) → OpensFor shift net front plans one other events others
  opens_for opens = record { behind = sym behind; first = played; second = also; opens = of_runs (Opens shift) opens }

  -- where one is
  pub differing_makes : (what : Difference) (made : Result Answer CommandError)
      → OfRuns shift first second (λ net' front' plans' first' second'. Differs shift first' second' what)
      → IsTold first second (length front) shift
      → IfOk made (λ answer. answer.text.items ≡ differ_line what) → IfOk made (λ answer. answer.status ≡ Broken) → IfErr made (λ why. why ≡ ended.Memory)
      → IsAllowed (IsCompared net front plans events others) made
  differing_makes what (Ok answer) differs told text status only =
      let is : shift ≡ shift_between net front played.run also.run =
      told net front plans played.run also.run refl (drives (whole net front plans) played.run played.stands)
      (drives_other (setting_over net plans) also.run also.stands) in
      let here : Differs (shift_between net front played.run also.run) played.run also.run what =
      subst (λ (s : Shift). Differs s played.run also.run what) is (of_runs (λ net' front' plans' first' second'. Differs shift first' second' what) differs) in
      inr
      (inl
      (record {
        first = played.run;
        second = also.run;
        runs = runs (shift_between net front played.run also.run) net front plans one other events others played also
            (sym (ap (λ (s : Shift). s.plans) is) ∙ sym behind);
        what = what;
        differs = here;
        never = λ shift' opens. differ_never net front plans played.run also.run shift' opens what here;
        line = text;
        broken = status;
      }))
  differing_makes what (Err ended.Memory) differs told text status only = tt
  differing_makes what (Err ended.Shelf) differs told text status only = cc
  differing_makes what (Err (ended.Refused why)) differs told text status only = cc

-- What the comparison of the premises that they judge says

module _ (shift : Shift) (net : Network) (front plans : List Plan) (one other : QuietReplay) (events others : List Event)
    (opened : OpensFor shift net front plans one other events others) where
  of_histories : (P : Setting → (one other : List Seen) → Type 0) → OfHistories one.monitors.premises other.monitors.premises P
      → P (setting_over net plans) (seen_of (steps_of opened.first.run)) (seen_of (steps_of opened.second.run))
  of_histories P holds =
      holds shift net front plans (seen_of (steps_of opened.first.run)) (seen_of (steps_of opened.second.run))
      opened.first.stands.has_seen.premises opened.second.stands.has_seen.premises opened.opens.opening.seen

  on_events : IsHonestOpening (setting_over net plans) (seen_of (steps_of opened.first.run)) (seen_of (steps_of opened.second.run))
      → GoOnAlike shift net front plans events others
  on_events honest =
      subst (λ (es : List Event). GoOnAlike shift net front plans es others) opened.first.happened
      (subst (λ (es : List Event). GoOnAlike shift net front plans (events_of (steps_of opened.first.run)) es) opened.second.happened
      (go_on shift net front plans opened.first.run opened.second.run opened.opens honest opened.second.stands.sound))

  -- where the opening is honest
  pub agreed_makes : (n m : ℕ) (made : Result Answer CommandError) → OfHistories one.monitors.premises other.monitors.premises IsHonest → n ≡ length events → m ≡ length others
      → IfOk made (λ answer. answer.text.items ≡ agree_line n m) → IfOk made (λ answer. answer.status ≡ Done) → IfErr made (λ why. why ≡ ended.Memory)
      → IsAllowed (IsCompared net front plans events others) made
  agreed_makes n m (Ok answer) honest all_one all_other text status only =
      let found : IsHonest (setting_over net plans) (seen_of (steps_of opened.first.run)) (seen_of (steps_of opened.second.run)) =
      of_histories IsHonest honest in
      inl
      (record {
        shift = shift;
        first = opened.first.run;
        second = opened.second.run;
        runs = runs shift net front plans one other events others opened.first opened.second opened.behind;
        opens = opened.opens;
        honest = found;
        behind = on_events found.opening;
        line = text ∙ ap (λ (k : ℕ). agree_line k m) all_one ∙ ap (agree_line (length events)) all_other;
        done = status;
      })
  agreed_makes n m (Err ended.Memory) honest all_one all_other text status only = tt
  agreed_makes n m (Err ended.Shelf) honest all_one all_other text status only = cc
  agreed_makes n m (Err (ended.Refused why)) honest all_one all_other text status only = cc

  -- where it is not
  pub dishonest_makes : (what : Dishonesty) (made : Result Answer CommandError) → AreDishonest one.monitors.premises other.monitors.premises what
      → IfOk made (λ answer. answer.text.items ≡ dishonest_line what) → IfOk made (λ answer. answer.status ≡ Broken) → IfErr made (λ why. why ≡ ended.Memory)
      → IsAllowed (IsCompared net front plans events others) made
  dishonest_makes what (Ok answer) dishonest text status only =
      inr
      (inr
      (record {
        shift = shift;
        first = opened.first.run;
        second = opened.second.run;
        runs = runs shift net front plans one other events others opened.first opened.second opened.behind;
        opens = opened.opens;
        what = what;
        dishonest = of_histories (λ part one' other'. IsDishonest part one' other' what) dishonest;
        line = text;
        broken = status;
      }))
  dishonest_makes what (Err ended.Memory) dishonest text status only = tt
  dishonest_makes what (Err ended.Shelf) dishonest text status only = cc
  dishonest_makes what (Err (ended.Refused why)) dishonest text status only = cc
