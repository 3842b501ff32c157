-- What a message makes a device do: by the words of its past, and by its registers.
use Rattle.std.proofs.Common.{◌≡◌, ℕ, Bool, true, false, ◌&&◌, Option, Some, None, refl, ◌∙◌, ap}
use Rattle.std.specs.Prelude.{nat_eq, if◌then◌else◌, option_map, option_and_then}
use Rattle.sd_num.specs.Lists.{map_or}
use Rattle.sd_plan.specs.declared.Duty.{Duty}
use Rattle.sd_plan.specs.declared.Edge.{Edge}
use Rattle.sd_device.specs.declared.msg.Message.{Message}
use Rattle.sd_device.specs.msg.Stamps.{is_newer}
use Rattle.sd_device.specs.declared.registers.Mode.{Mode}
use Rattle.sd_device.specs.declared.registers.Mode.TheVariants.{Primary, Backup, Acting, Idle}
use Rattle.sd_device.specs.Calls.{Receive, Transition, Entered, Accepted, Nothing, Past}
use Rattle.sd_device.specs.Words.{duty_now, given_now, is_acting, has_moved, epoch_now, stamp_now, parent_edge, over_link, entered_by, accepted_by, transition_of}
use Rattle.sd_device.specs.Rules.{edge_in, entering, accepting}
use Rattle.sd_device.specs.Standing.{registers_of}

-- what is done, by what the registers decide
abbrev pub transition_by : Option (Duty × Edge) → Option Edge → Transition
transition_by (Some by) accepts = Entered by.0 by.1
transition_by None (Some edge) = Accepted edge
transition_by None None = Nothing

edge_of_mode : (acts moved : Bool) (duty : Option Duty)
    → (if acts then None else if moved then map_or duty None (λ d. d.backup) else map_or duty None (λ d. d.primary))
    ≡ elim (if acts then Acting else if moved then Backup else map_or duty Idle (λ d. Primary)) as (λ (mode : Mode). Option Edge) [
      | Primary ↦ map_or duty None (λ d. d.primary)
      | Backup ↦ map_or duty None (λ d. d.backup)
      | _ ↦ None
    ]
edge_of_mode true moved duty = refl
edge_of_mode false true duty = refl
edge_of_mode false false (Some duty) = refl
edge_of_mode false false None = refl

-- the registers lead to the same parent as the words
pub edges : (past : Past) → parent_edge past ≡ edge_in (registers_of past)
edges past = edge_of_mode (is_acting past) (has_moved past) (duty_now past)

enters : (past : Past) (link : ℕ) (message : Message)
    → entered_by past link message ≡ option_map (λ (by : Duty × Edge). Entered by.0 by.1) (entering (registers_of past) link message)
enters past link message = of_given (given_now past)
  where
    by : (fits : Bool) (duty : Duty) (edge : Option Edge)
        → (if fits then option_map (Entered duty) edge else None)
        ≡ option_map (λ (by : Duty × Edge). Entered by.0 by.1) (if fits then option_map (λ (e : Edge). (duty, e)) edge else None)
    by true duty (Some edge) = refl
    by true duty None = refl
    by false duty edge = refl

    of_given : (given : Option Duty)
        → option_and_then (λ duty. if nat_eq duty.epoch message.epoch then option_map (Entered duty) (option_and_then (over_link link) duty.primary) else None)
        given
        ≡ option_map (λ (by : Duty × Edge). Entered by.0 by.1)
        (option_and_then
        (λ duty. if nat_eq duty.epoch message.epoch then option_map (λ (e : Edge). (duty, e)) (option_and_then (over_link link) duty.primary) else None)
        given)
    of_given None = refl
    of_given (Some duty) = by (nat_eq duty.epoch message.epoch) duty (option_and_then (over_link link) duty.primary)

accepts : (past : Past) (link : ℕ) (message : Message) → accepted_by past link message ≡ option_map Accepted (accepting (registers_of past) link message)
accepts past link message =
    ap (λ edge. if fits then option_map Accepted (option_and_then (over_link link) edge) else None) (edges past)
    ∙ by fits (option_and_then (over_link link) (edge_in (registers_of past)))
  where
    fits : Bool
    fits = nat_eq (epoch_now past) message.epoch && is_newer message.stamp (stamp_now past)

    by : (fits : Bool) (edge : Option Edge) → (if fits then option_map Accepted edge else None) ≡ option_map Accepted (if fits then edge else None)
    by true edge = refl
    by false edge = refl

-- the registers decide what the words say
pub receipts : (past : Past) (link : ℕ) (message : Message) (counter : ℕ)
    → transition_of past (Receive link message counter) ≡ transition_by (entering (registers_of past) link message) (accepting (registers_of past) link message)
receipts past link message counter =
    ap (λ transition. map_or transition (map_or (accepted_by past link message) Nothing (λ d. d)) (λ d. d)) (enters past link message)
    ∙ ap (λ transition. map_or (option_map (λ (by : Duty × Edge). Entered by.0 by.1) (entering (registers_of past) link message))
    (map_or transition Nothing (λ d. d)) (λ d. d)) (accepts past link message)
    ∙ same (entering (registers_of past) link message) (accepting (registers_of past) link message)
  where
    same : (enter : Option (Duty × Edge)) (accept : Option Edge)
        → map_or (option_map (λ (by : Duty × Edge). Entered by.0 by.1) enter) (map_or (option_map Accepted accept) Nothing (λ d. d)) (λ d. d)
        ≡ transition_by enter accept
    same (Some p) accept = refl
    same None (Some edge) = refl
    same None None = refl
