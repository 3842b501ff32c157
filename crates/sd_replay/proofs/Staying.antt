-- A device that the fleet has as before stands in the history as before.
use Rattle.std.specs.Prelude.{◌≡◌, ℕ, ◌<◌, Bool, false, ◌&&◌, List, [], ◌∷◌, length, filter, Option, Some, None, option_and_then, refl, if◌then◌else◌}
use Rattle.std.proofs.Common.{sym, ap, ◌∙◌}
use Rattle.std.proofs.lemmas.List.{nil_from_length}
use Rattle.sd_num.specs.Lists.{map_or}
use Rattle.sd_device.specs.declared.node.Node.{Ghosts}
use Rattle.sd_sched.specs.declared.Event.{Event}
use Rattle.sd_sched.specs.declared.Event.TheVariants.{Tick, Recv}
use Rattle.sd_sched.specs.Events.{reference_of, device_of}
use Rattle.sd_device.specs.declared.msg.Flight.{Flight}
use Rattle.sd_device.specs.declared.msg.observer.Observer as observers
use Rattle.sd_history.specs.World.{Setting, Seen, is_counted}
use Rattle.sd_history.specs.Steps.{Step, seen_of}
use Rattle.sd_history.specs.Nodes.{NodeStep, steps_of}
use Rattle.sd_history.proofs.Known.{named_is_known}
use Rattle.sd_world.specs.declared.membership.AnswerSummary.{AnswerSummary}
use Rattle.sd_world.specs.membership.Memberships.{Registers, live_at, acts_at, parent_at, is_counted_at}
use Rattle.sd_world.specs.membership.Standing as memberships
use Rattle.sd_world.proofs.membership.Queries.{counted_is, parent_is, acts_is}
use Rattle.sd_fleet.specs.declared.Outcome.{Outcome}
use Rattle.sd_fleet.specs.declared.messages.Sent.{Sent}
use Rattle.sd_fleet.specs.declared.fleet.Fleet.{Fleet}
use Rattle.sd_fleet.specs.Staying.{StaysAt}
use Rattle.sd_fleet.specs.Keeping.{outcome_keeping}
use Rattle.sd_fleet.specs.Standing as fleets
use Rattle.sd_fleet.proofs.Shared.{sent_reach}
use Rattle.sd_premise.specs.Calm.{IsCalmTick, IsCalmReceipt}
use Rattle.sd_replay.specs.declared.watch.parent_table.ParentRow.{ParentRow}
use Rattle.sd_replay.specs.declared.monitors.Monitors.{Monitors}
use Rattle.sd_replay.specs.declared.event_output.EventOutput.{EventOutput}
use Rattle.sd_replay.specs.Standing.{parent_row_in, HasSeen, StandsAsBefore, IsQuickStep, CanLook, HasRun}
use Rattle.sd_replay.proofs.ParentTable.{same_rows}

-- the row of a device that counts as live or not, and answers this
abbrev row_by : Bool → Option AnswerSummary → ParentRow
row_by counted live =
    record { parent = if counted then option_and_then (λ a. a.parent) live else None; acts = counted && map_or live false (λ a. a.acts) }

row_is : (r : Registers) (setting : Setting) (steps : List Step) → memberships.Stands r setting steps → (d : ℕ) → d < length setting.net.devices
    → row_by (is_counted_at r d) (live_at r d) ≡ parent_row_in setting steps d
row_is r setting steps stands d within =
    same_rows (row_by (is_counted_at r d) (live_at r d)) (parent_row_in setting steps d)
    (ap (λ b. if b then parent_at r d else None) (counted_is r setting steps stands d within)
    ∙ ap (λ p. if is_counted setting (seen_of steps) d then p else None) (parent_is r setting steps stands d within))
    (ap (λ b. b && acts_at r d) (counted_is r setting steps stands d within)
    ∙ ap (λ b. is_counted setting (seen_of steps) d && b) (acts_is r setting steps stands d within))

pub stands_as_before : {N : Type 0} (g : Ghosts N) (before after : Fleet N g) (e : Event) (outcome : Outcome) (d : ℕ)
    → StaysAt before.fabric.membership after.fabric.membership d → device_of e ≡ Some d → (setting : Setting) (run : List (NodeStep N))
    → fleets.StandsFor g before setting run → (accepted : fleets.IsAccepted g after setting run e outcome)
    → StandsAsBefore setting accepted.next.step (steps_of run) d
stands_as_before g before after e outcome d stays named setting run stands accepted =
    let within : d < length setting.net.devices =
    named_is_known setting (steps_of run) accepted.next.step.seen.event d accepted.stands.fabric.accepted.1 (ap device_of accepted.happens ∙ named) in
    sym (row_is after.fabric.membership setting (accepted.next.step ∷ steps_of run) accepted.stands.fabric.membership d within)
    ∙ ap (λ b. row_by b (live_at after.fabric.membership d)) stays.counted
    ∙ ap (row_by (is_counted_at before.fabric.membership d)) stays.answers
    ∙ row_is before.fabric.membership setting (steps_of run) stands.fabric.membership d within

-- A tick and a receipt after which the device answers as before, as the fleet has made them

module _ {N : Type 0} (g : Ghosts N) (before after : Fleet N g) (reference d : ℕ) (e : Event) (taken : Option Flight) (messages : Sent)
    (at : reference_of e ≡ reference) (named : device_of e ≡ Some d)
    (accepts : (setting : Setting) (run : List (NodeStep N)) → fleets.StandsFor g before setting run
    → fleets.IsAccepted g after setting run e (outcome_keeping before.fabric d taken messages))
    (stays : StaysAt before.fabric.membership after.fabric.membership d) where
  quick : (IsSuch : Seen → Type 0) (setting : Setting) (run : List (NodeStep N)) (made : fleets.StandsFor g before setting run)
      → IsSuch (accepts setting run made).next.step.seen → IsQuickStep IsSuch reference d setting (accepts setting run made).next.step (steps_of run)
  quick IsSuch setting run made such =
      let accepted : fleets.IsAccepted g after setting run e (outcome_keeping before.fabric d taken messages) = accepts setting run made in
      record {
        accepted = accepted.stands.fabric.accepted;
        seen = such;
        at = ap reference_of accepted.happens ∙ at;
        named = ap device_of accepted.happens ∙ named;
        stays = sym (ap (λ (o : Outcome). o.closed) accepted.comes);
        untold = sym (ap (λ (o : Outcome). o.report) accepted.comes);
        row = stands_as_before g before after e (outcome_keeping before.fabric d taken messages) d stays named setting run made accepted;
      }

-- the flights of the messages that reach
abbrev pub AreCollected : {N : Type 0} (g : Ghosts N) → Fleet N g → Event → Outcome → List Flight → Type 0
AreCollected g after e outcome sent =
    (setting : Setting) (run : List (NodeStep _)) (accepted : fleets.IsAccepted g after setting run e outcome)
    → sent ≡ filter (λ f. f.reaches) accepted.next.step.sent

pub quick_tick : {N : Type 0} (g : Ghosts N) (before after : Fleet N g) (reference d counter : ℕ) (messages : Sent) (sent : List Flight)
    (accepts : (setting : Setting) (run : List (NodeStep N)) → fleets.StandsFor g before setting run
    → fleets.IsAccepted g after setting run (Tick reference d counter) (outcome_keeping before.fabric d None messages))
    → StaysAt before.fabric.membership after.fabric.membership d
    → AreCollected g after (Tick reference d counter) (outcome_keeping before.fabric d None messages) sent
    → (setting : Setting) (run : List (NodeStep N)) (made : fleets.StandsFor g before setting run)
    → IsQuickStep (λ s. IsCalmTick s reference d counter sent) reference d setting (accepts setting run made).next.step (steps_of run)
quick_tick g before after reference d counter messages sent accepts stays collected setting run made =
    let accepted : fleets.IsAccepted g after setting run (Tick reference d counter) (outcome_keeping before.fabric d None messages) =
    accepts setting run made in
    quick g before after reference d (Tick reference d counter) None messages refl refl accepts stays (λ s. IsCalmTick s reference d counter sent) setting run made
    (record {
      tick = record { event = accepted.happens; stays = sym (ap (λ (o : Outcome). o.closed) accepted.comes) };
      taken = sym (ap (λ (o : Outcome). o.taken) accepted.comes);
      activated = sym (ap (λ (o : Outcome). o.activated) accepted.comes);
      sends = sent_reach setting accepted.next.step (steps_of run) accepted.stands.fabric.accepted ∙ sym (collected setting run accepted);
    })

pub quick_receipt : {N : Type 0} (g : Ghosts N) (before after : Fleet N g) (reference d counter message : ℕ) (flight : Flight) (messages : Sent)
    (sent : List Flight)
    (accepts : (setting : Setting) (run : List (NodeStep N)) → fleets.StandsFor g before setting run
    → fleets.IsAccepted g after setting run (Recv reference d counter message) (outcome_keeping before.fabric d (Some flight) messages))
    → StaysAt before.fabric.membership after.fabric.membership d
    → AreCollected g after (Recv reference d counter message) (outcome_keeping before.fabric d (Some flight) messages) sent
    → (setting : Setting) (run : List (NodeStep N)) (made : fleets.StandsFor g before setting run)
    → IsQuickStep (λ s. IsCalmReceipt s reference d counter flight sent) reference d setting (accepts setting run made).next.step (steps_of run)
quick_receipt g before after reference d counter message flight messages sent accepts stays collected setting run made =
    let accepted : fleets.IsAccepted g after setting run (Recv reference d counter message) (outcome_keeping before.fabric d (Some flight) messages) =
    accepts setting run made in
    quick g before after reference d (Recv reference d counter message) (Some flight) messages refl refl accepts stays
    (λ s. IsCalmReceipt s reference d counter flight sent) setting run made
    (record {
      message = message;
      receipt = record { event = accepted.happens; stays = sym (ap (λ (o : Outcome). o.closed) accepted.comes) };
      taken = sym (ap (λ (o : Outcome). o.taken) accepted.comes);
      activated = sym (ap (λ (o : Outcome). o.activated) accepted.comes);
      sends = sent_reach setting accepted.next.step (steps_of run) accepted.stands.fabric.accepted ∙ sym (collected setting run accepted);
    })

-- where no message was sent, no flight reaches
pub none_collected : {N : Type 0} (g : Ghosts N) (after : Fleet N g) (e : Event) (outcome : Outcome) → outcome.sent ≡ 0
    → AreCollected g after e outcome []
none_collected g after e outcome silent = λ setting run accepted.
    ap (filter (λ f. f.reaches))
    (sym (nil_from_length accepted.next.step.sent (ap (λ (o : Outcome). o.sent) (sym accepted.comes) ∙ silent)))

-- the monitors can look at such a step
pub can_look : {N V : Type 0} (g : Ghosts N) (o : observers.Ghosts V) (before after : Fleet N g) (monitors collected : Monitors)
    (event_output : EventOutput) (observer : V) (e : Event) (outcome : Outcome) (IsSuch : Setting → Step → List Step → Type 0)
    (accepts : (setting : Setting) (run : List (NodeStep N)) → fleets.StandsFor g before setting run → fleets.IsAccepted g after setting run e outcome)
    → ((setting : Setting) (run : List (NodeStep N)) (made : fleets.StandsFor g before setting run)
    → IsSuch setting (accepts setting run made).next.step (steps_of run))
    → ((setting : Setting) (steps : List Step) → HasSeen monitors setting steps → HasSeen collected setting steps)
    → HasRun g o before monitors event_output observer → CanLook collected IsSuch
can_look g o before after monitors collected event_output observer e outcome IsSuch accepts such keeps has =
    record {
      setting = has.setting;
      s = (accepts has.setting has.steps has.stands.made).next.step;
      earlier = steps_of has.steps;
      such = such has.setting has.steps has.stands.made;
      has_seen = keeps has.setting (steps_of has.steps) has.stands.has_seen;
    }
