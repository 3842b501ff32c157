-- What is shown of the texts of the second witness: the histories are ones to which the theorems on safety and on hearing again apply, and what happens at
-- which line.
use Rattle.std.specs.Prelude.{◌≡◌, ℕ, ◌+◌, ◌-◌, ◌<◌, true, false, List, ◌∷◌, length, nat_le, reverse, take, Some, Ok}
use Rattle.sd_topotext.specs.Meaning.{network_of}
use Rattle.sd_topotext.specs.Reading as toml
use Rattle.sd_plantext.specs.Meaning.{plan_of}
use Rattle.sd_plantext.specs.Reading as json
use Rattle.sd_plan.specs.declared.topo.Thing.TheVariants as thing
use Rattle.sd_plan.specs.declared.domain.DomainId.TheVariants as domain
use Rattle.sd_checker.specs.check_root.Timing.{silence}
use Rattle.sd_checker.specs.Conditions.{IsAccepted}
use Rattle.sd_drill.specs.Drill.{IsWorst}
use Rattle.sd_sched.specs.declared.Event.{Event}
use Rattle.sd_sched.specs.declared.Event.TheVariants as event
use Rattle.sd_history.specs.World.{Seen, has_failed, is_up, window_is_open, has_commit, epoch_in_force}
use Rattle.sd_history.specs.Steps.{Step, seen_of, parent_in, epoch_in}
use Rattle.sd_history.specs.Chronicle.{chronicle, IsHistory}
use Rattle.sd_history.specs.Premises.{all_hold, spoiled_rounds}
use Rattle.sd_safety.specs.invariant.Kept.{IsSafe}
use Rattle.sd_bound.specs.Recovering.{steps_under}
use Rattle.sd_bound.specs.Hearing.{IsUndisturbedSince, IsServed, recovery}
use Rattle.sd_beside.specs.witness.Schedules.{events_of, after_line}
use Rattle.sd_beside.specs.witness.Shared.{text_of, budget, last_report, was_counted, report}
use Rattle.sd_beside.specs.witness.mended.Texts.{topology_lines, first_plan_lines, second_plan_lines, schedule_lines}
use Rattle.sd_beside.specs.witness.mended.Values.{network, first_plan, second_plan, setting}

-- the state after the first lines, under both plans
abbrev pub steps : List Event → ℕ → List Step
steps events n = after_line setting events n

-- what is seen of the first lines
abbrev pub seen : List Event → ℕ → List Seen
seen events n = seen_of (steps events n)

-- the texts say these values and these events
pub record Say (events : List Event) : Type 0 where
  pub topology : network_of (toml.tree_of (text_of topology_lines)) ≡ Ok network
  pub first_plan : plan_of network (json.tree_of (text_of first_plan_lines)) ≡ Ok first_plan
  pub second_plan : plan_of network (json.tree_of (text_of second_plan_lines)) ≡ Ok second_plan
  pub schedule : events_of (text_of schedule_lines) ≡ Ok events

-- both plans are accepted, each event is accepted after those before it, and no premise is broken
pub record MeetsAll (events : List Event) : Type 0 where
  pub count : length events ≡ 360
  pub first_accepted : IsAccepted network first_plan
  pub second_accepted : IsAccepted network second_plan
  pub history : IsHistory setting (reverse events)
  pub premises : all_hold setting (seen_of (chronicle setting (reverse events))) ≡ true

-- What happens, by line. Device 0 is the root, 1 the backup root, 2 an ordinary device, and 3 joins.

-- the link of device 2 to its primary parent fails, a round is lost, and device 2 moves to its backup parent
pub record Moves (events : List Event) : Type 0 where
  pub on_primary : parent_in (steps events 16) 2 ≡ Some 0
  pub link_fails : has_failed (seen events 17) (thing.Link 2) ≡ true
  pub round_lost : nat_le 1 (length (spoiled_rounds (seen events 26))) ≡ true
  pub on_primary_still : parent_in (steps events 292) 2 ≡ Some 0
  pub on_backup : parent_in (steps events 293) 2 ≡ Some 1

-- Later than the time of hearing again after the failure it has heard of the root, and reports: under the first plan alone the history up to line 330 is one of
-- which that theorem speaks.
pub record HearsAgain (events : List Event) : Type 0 where
  pub bound : IsWorst network first_plan budget (domain.Link 2) 2 5048333
  pub undisturbed : IsUndisturbedSince network first_plan (domain.Link 2) 270000000 (event.Ask 7745000000 2 7745851950 ∷ reverse (take 329 events))
  pub late : 270000000 + recovery network first_plan < 7745000000
  pub served : IsServed (steps_under network first_plan (reverse (take 329 events))) 2 270000000 (7745000000 - silence network)
  pub reported : last_report (steps events 330) ≡ Some (2, report 7745525237 2151326)
  pub counts : was_counted setting (steps events 330) 2 ≡ true

-- The root is fixed, and a plan is staged. The link is mended, device 3 joins, and the commit comes. Both follow the root in the new plan, the last seal
-- closes the window, and both report.
pub record Renews (events : List Event) : Type 0 where
  pub staged : window_is_open (seen events 332) ≡ true
  pub mended : has_failed (seen events 333) (thing.Link 2) ≡ false
  pub not_joined : is_up (seen events 333) 3 ≡ false
  pub joined : is_up (seen events 334) 3 ≡ true
  pub committed : has_commit (seen events 339) ≡ true
  pub on_backup : parent_in (steps events 345) 2 ≡ Some 1
  pub back_on_primary : parent_in (steps events 350) 2 ≡ Some 0
  pub entered : epoch_in (steps events 350) 3 ≡ Some 2
  pub open_still : epoch_in_force (seen events 356) ≡ 1
  pub closed : epoch_in_force (seen events 357) ≡ 2
  pub moved_reports : last_report (steps events 358) ≡ Some (2, report 7925003953 338062)
  pub joined_reports : last_report (steps events 359) ≡ Some (3, report 7924993480 338059)

-- all of it, and there is no loop and one root at most
pub record IsMended (events : List Event) : Type 0 where
  pub says : Say events
  pub meets : MeetsAll events
  pub moves : Moves events
  pub hears : HearsAgain events
  pub renews : Renews events
  pub safe : IsSafe setting (chronicle setting (reverse events))
