-- The state of a device, looked up in its past.
use Rattle.std.specs.Prelude.{ℕ, ◌+◌, ◌-◌, Bool, true, false, ◌&&◌, ◌||◌, not, List, [], ◌∷◌, find, max, nat_eq, nat_le, Option, Some, None, is_some, option_map, option_and_then, if◌then◌else◌}
use Rattle.std.specs.List.{list_any}
use Rattle.sd_num.specs.Lists.{map_or, find_map_or, leading}
use Rattle.sd_num.specs.declared.Rates.{Rates}
use Rattle.sd_plan.specs.declared.Duty.{Duty}
use Rattle.sd_plan.specs.declared.Edge.{Edge}
use Rattle.sd_plan.specs.declared.Role.TheVariants as role
use Rattle.sd_num.specs.declared.clock.Estimate.{Estimate}
use Rattle.sd_num.specs.declared.clock.Report.{Report}
use Rattle.sd_num.specs.clock.Estimates.{estimate_at, corrected, report_of}
use Rattle.sd_device.specs.declared.msg.Stamp.{Stamp}
use Rattle.sd_device.specs.declared.msg.Message.{Message}
use Rattle.sd_device.specs.msg.Stamps.{stamp, is_newer, carried, message_of}
use Rattle.sd_device.specs.declared.Effect.{Effect}
use Rattle.sd_device.specs.declared.Effect.TheVariants.{Quiet, Send}
use Rattle.sd_device.specs.Calls.{Making, Started, Joined, Call, Tick, Receive, Fix, Give, Commit, Seal, Transition, Entered, Committed, Recommitted, Accepted, Moved, TookOver, Emitted, Nothing, CallDone, Past}

-- the counter at which a device was made
abbrev pub making_counter : Making → ℕ
making_counter (Started duty counter clock eps) = counter
making_counter (Joined rates counter clock eps) = counter

-- the counter of a call that has one
abbrev pub counter_of : Call → Option ℕ
counter_of (Tick counter) = Some counter
counter_of (Receive link message counter) = Some counter
counter_of (Fix counter clock eps) = Some counter
counter_of (Commit counter) = Some counter
counter_of _ = None

-- the duty that a call took up
abbrev pub taken_up : Transition → Option Duty
taken_up (Entered duty edge) = Some duty
taken_up (Committed duty) = Some duty
taken_up (Recommitted duty) = Some duty
taken_up _ = None

-- the call took up a duty
abbrev pub takes_up : CallDone → Bool
takes_up x = is_some (taken_up x.transition)

-- the edge over which a call accepted a message, an entering receipt among them
abbrev pub accepted_over : Transition → Option Edge
accepted_over (Entered duty edge) = Some edge
accepted_over (Accepted edge) = Some edge
accepted_over _ = None

-- the transition is a move to the backup parent
abbrev pub is_move : Transition → Bool
is_move Moved = true
is_move _ = false

-- the transition is a takeover
abbrev pub is_takeover : Transition → Bool
is_takeover TookOver = true
is_takeover _ = false

-- The entry is the latest of the making, the commits and the entering receipts. What came after it:
abbrev pub since_entry : Past → List CallDone
since_entry past = leading (λ x. not (takes_up x)) past.did

-- the entry, where it is no making
abbrev pub later_entry : Past → Option CallDone
later_entry past = find takes_up past.did

-- the duty at the making: a join has none
abbrev pub first_duty : Making → Option Duty
first_duty (Started duty counter clock eps) = Some duty
first_duty (Joined rates counter clock eps) = None

-- the duty that the device took up at its entry
abbrev pub duty_now : Past → Option Duty
duty_now past = find_map_or (λ x. option_map Some (taken_up x.transition)) past.did (first_duty past.making)

-- the number of the plan that the duty is of, and 0 without a duty
abbrev pub epoch_now : Past → ℕ
epoch_now past = map_or (duty_now past) 0 (λ duty. duty.epoch)

-- the rates with which a device was made
abbrev pub first_rates : Making → Rates
first_rates (Started duty counter clock eps) = duty.rates
first_rates (Joined rates counter clock eps) = rates

-- the rates of the device's own oscillator
abbrev pub rates_now : Past → Rates
rates_now past = map_or (duty_now past) (first_rates past.making) (λ duty. duty.rates)

-- the call is a seal
abbrev pub is_seal : Call → Bool
is_seal Seal = true
is_seal _ = false

-- the entry is the making, or a seal came after it
abbrev pub is_sealed : Past → Bool
is_sealed past = not (is_some (later_entry past)) || list_any (λ x. is_seal x.call) (since_entry past)

-- the duty that a call gives
abbrev pub duty_given : Call → Option Duty
duty_given (Give duty) = Some duty
duty_given _ = None

-- the duty that was given to the device since its entry, the latest
abbrev pub given_now : Past → Option Duty
given_now past = find_map_or (λ x. option_map Some (duty_given x.call)) (since_entry past) None

-- the counter at which the device last heard: that of its latest making or accepted receipt
abbrev pub heard : Past → ℕ
heard past = find_map_or (λ x. option_and_then (λ edge. counter_of x.call) (accepted_over x.transition)) past.did (making_counter past.making)

-- the device is on its backup: it moved since its entry
abbrev pub has_moved : Past → Bool
has_moved past = list_any (λ x. is_move x.transition) (since_entry past)

-- the counter of its latest move
abbrev pub moved_at : Past → ℕ
moved_at past = find_map_or (λ x. if is_move x.transition then counter_of x.call else None) past.did 0

-- the device was started as the root of its plan
abbrev pub starts_as_root : Making → Bool
starts_as_root (Started duty counter clock eps) = elim duty.role [ role.Root ↦ true | _ ↦ false ]
starts_as_root (Joined rates counter clock eps) = false

-- the call made the device act as root, from its entry on
abbrev pub is_commit : Transition → Bool
is_commit (Committed duty) = true
is_commit (Recommitted duty) = true
is_commit _ = false

-- the device acts as root: its entry is a commit or a start as root, or it took over since
abbrev pub is_acting : Past → Bool
is_acting past =
    map_or (later_entry past) (starts_as_root past.making) (λ entry. is_commit entry.transition)
    || list_any (λ x. is_takeover x.transition) (since_entry past)

-- the edge to the primary parent, if there is one
abbrev pub primary_now : Past → Option Edge
primary_now past = map_or (duty_now past) None (λ duty. duty.primary)

-- the edge to the backup parent, if there is one
abbrev pub backup_now : Past → Option Edge
backup_now past = map_or (duty_now past) None (λ duty. duty.backup)

-- the edge to the present parent: none while it acts, the backup one after a move, else the primary one
abbrev pub parent_edge : Past → Option Edge
parent_edge past = if is_acting past then None else if has_moved past then backup_now past else primary_now past

-- the present parent, if there is one
abbrev pub parent_now : Past → Option ℕ
parent_now past = option_map (λ edge. edge.parent) (parent_edge past)

-- the stamp that a receipt brings
abbrev pub received_stamp : Call → Stamp → Stamp
received_stamp (Receive link message counter) before = message.stamp
received_stamp _ before = before

-- the stamp after a call, from the one before it
abbrev pub stamp_after : CallDone → Stamp → Stamp
stamp_after x before =
    elim x.transition [
      | Entered duty edge ↦ received_stamp x.call before
      | Accepted edge ↦ received_stamp x.call before
      | Committed duty ↦ stamp (before.term + 1) 0
      | TookOver ↦ stamp (before.term + 1) 1
      | Emitted ↦ stamp before.term (before.round + 1)
      | _ ↦ before
    ]

-- the stamp after these calls
abbrev pub stamp_of : List CallDone → Stamp
stamp_of [] = stamp 0 0
stamp_of (x ∷ earlier) = stamp_after x (stamp_of earlier)

-- the stamp: (0, 0) at the making, the message's at an accepted receipt, and counted on at commits, takeovers and emissions
abbrev pub stamp_now : Past → Stamp
stamp_now past = stamp_of past.did

-- the counter of a call that emits: an emission, a takeover, or a commit that made the device act
abbrev pub emits : CallDone → Option ℕ
emits x =
    elim x.transition [
      | Committed duty ↦ counter_of x.call
      | TookOver ↦ counter_of x.call
      | Emitted ↦ counter_of x.call
      | _ ↦ None
    ]

-- the counter of the latest making, emission, takeover, or commit that made the device act
abbrev pub sent_at : Past → ℕ
sent_at past = find_map_or emits past.did (making_counter past.making)

-- the estimate with which a device was made
abbrev pub first_estimate : Making → Estimate
first_estimate (Started duty counter clock eps) = estimate_at clock eps counter
first_estimate (Joined rates counter clock eps) = estimate_at clock eps counter

-- the estimate that a call sets: a fix its clock and uncertainty, an accepted receipt the message's, corrected by the bounds of the edge
abbrev pub estimate_set : CallDone → Option Estimate
estimate_set x =
    elim x.call [
      | Receive link message counter ↦ option_map (λ edge. corrected (carried message) edge.bounds counter) (accepted_over x.transition)
      | Fix counter clock eps ↦ Some (estimate_at clock eps counter)
      | _ ↦ None
    ]

-- the estimate: set by the latest making, fix or accepted receipt
abbrev pub estimate_now : Past → Estimate
estimate_now past = find_map_or estimate_set past.did (first_estimate past.making)

-- what the device reports at a counter
abbrev pub report_at : Past → ℕ → Report
report_at past counter = report_of (rates_now past) (estimate_now past) counter

-- the silence that makes the device move, by its role: none for a root, and for an ordinary device only with a backup
abbrev pub wait_to_move : Duty → Option ℕ
wait_to_move duty =
    elim duty.role [
      | role.Root ↦ None
      | role.BackupRoot ↦ Some duty.wait_first
      | role.Ordinary ↦ if is_some duty.backup then Some duty.wait else None
    ]

-- the entry lets the device move: it is a start or an entering receipt
abbrev pub may_move : Past → Bool
may_move past = map_or (later_entry past) (is_some (first_duty past.making)) (λ entry. not (is_commit entry.transition))

-- a tick at this counter is the move: the first after the entry that is made sealed, after long enough a silence
abbrev pub moves_at : Past → ℕ → Bool
moves_at past counter =
    may_move past && not (has_moved past) && is_sealed past
    && map_or (option_and_then wait_to_move (duty_now past)) false (λ wait. nat_le wait (counter - heard past))

-- the device has the duty of the backup root
abbrev pub is_backup_root_now : Past → Bool
is_backup_root_now past = map_or (duty_now past) false (λ duty. elim duty.role [ role.BackupRoot ↦ true | _ ↦ false ])

-- a tick at this counter is the takeover: the first after a backup root's move that comes long enough after the move and after what it heard
abbrev pub takes_over_at : Past → ℕ → Bool
takes_over_at past counter =
    is_backup_root_now past && has_moved past && not (is_acting past)
    && map_or (duty_now past) false (λ duty. nat_le duty.wait_second (counter - max (heard past) (moved_at past)))

-- a tick at this counter is an emission of the acting root
abbrev pub emits_at : Past → ℕ → Bool
emits_at past counter = is_acting past && map_or (duty_now past) false (λ duty. nat_le duty.period (counter - sent_at past))

-- the edge leads over the link
abbrev pub over_link : ℕ → Edge → Option Edge
over_link link edge = if nat_eq edge.link link then Some edge else None

-- the given duty, with its primary edge, that a message of this epoch over this link makes the device take up
abbrev pub entered_by : Past → ℕ → Message → Option Transition
entered_by past link message =
    option_and_then (λ duty.
    if nat_eq duty.epoch message.epoch then option_map (Entered duty) (option_and_then (over_link link) duty.primary) else None)
    (given_now past)

-- the edge to the present parent, where the message came over it, is of the device's own epoch and is newer than what it has seen
abbrev pub accepted_by : Past → ℕ → Message → Option Transition
accepted_by past link message =
    if nat_eq (epoch_now past) message.epoch && is_newer message.stamp (stamp_now past)
    then option_map Accepted (option_and_then (over_link link) (parent_edge past))
    else None

-- what a commit does
abbrev pub committed_by : Past → Duty → Transition
committed_by past duty = if is_acting past then Recommitted duty else Committed duty

-- what a call does after this past
abbrev pub transition_of : Past → Call → Transition
transition_of past (Tick counter) =
    if emits_at past counter then Emitted
    else if takes_over_at past counter then TookOver
    else if moves_at past counter then Moved
    else Nothing
transition_of past (Receive link message counter) =
    map_or (entered_by past link message) (map_or (accepted_by past link message) Nothing (λ transition. transition)) (λ transition. transition)
transition_of past (Fix counter clock eps) = Nothing
transition_of past (Give duty) = Nothing
transition_of past (Commit counter) = map_or (given_now past) Nothing (committed_by past)
transition_of past Seal = Nothing

-- the past with one call more
abbrev pub after : Past → Call → Past
after past call = record { making = past.making; did = record { call = call; transition = transition_of past call } ∷ past.did }

-- the message of the device's epoch and stamp with its estimate, and with its report
abbrev pub relayed : Past → Message
relayed past = message_of (epoch_now past) (stamp_now past) (record { clock = (estimate_now past).clock; eps = (estimate_now past).base })

-- what is sent where an emission is due at this counter
abbrev pub emitted : Past → Option ℕ → Effect
emitted past None = Quiet
emitted past (Some counter) = Send (message_of (epoch_now past) (stamp_now past) (report_at past counter))

-- what the latest call sent: an accepted receipt the estimate, an emission the report at its counter
abbrev pub effect_of_latest : Past → CallDone → Effect
effect_of_latest past x =
    elim x.transition [
      | Entered duty edge ↦ Send (relayed past)
      | Accepted edge ↦ Send (relayed past)
      | TookOver ↦ emitted past (counter_of x.call)
      | Emitted ↦ emitted past (counter_of x.call)
      | _ ↦ Quiet
    ]

-- what a call after this past sends
abbrev pub effect_of : Past → Call → Effect
effect_of past call = effect_of_latest (after past call) (record { call = call; transition = transition_of past call })
