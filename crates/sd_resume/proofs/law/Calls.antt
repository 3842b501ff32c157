-- A device whose numbers are raised does at each call what the other does, with raised numbers.
use Rattle.std.specs.Prelude.{◌≡◌, ℕ, ◌+◌, ◌≤◌, Bool, true, false, ◌&&◌, nat_eq, Option, Some, None, IfSome, option_map, option_and_then, refl, if◌then◌else◌, ◌-◌, is_some, nat_le}
use Rattle.std.proofs.Common.{arith, sym, ◌∙◌, ap, subst}
use Rattle.sd_num.specs.Lists.{map_or}
use Rattle.sd_plan.specs.declared.Duty.{Duty}
use Rattle.sd_plan.specs.declared.Edge.{Edge}
use Rattle.sd_num.specs.declared.clock.Estimate.{Estimate}
use Rattle.sd_num.specs.declared.clock.Report.{Report}
use Rattle.sd_num.specs.clock.Estimates.{report_of, estimate_at, corrected}
use Rattle.sd_device.specs.declared.msg.Stamp.{Stamp}
use Rattle.sd_device.specs.declared.msg.Message.{Message}
use Rattle.sd_device.specs.msg.Stamps.{stamp, is_newer, message_of, carried}
use Rattle.sd_device.specs.declared.Effect.{Effect}
use Rattle.sd_device.specs.declared.Effect.TheVariants.{Send}
use Rattle.sd_device.specs.declared.registers.Registers.{Registers}
use Rattle.sd_device.specs.declared.registers.Mode.{Mode}
use Rattle.sd_device.specs.declared.registers.Mode.TheVariants.{Primary, Backup, Acting, Idle}
use Rattle.sd_device.specs.declared.turns.Turn.{Turn}
use Rattle.sd_device.specs.declared.turns.Turn.TheVariants.{Emit, TakeOver, Move, Stay}
use Rattle.sd_device.specs.Calls.{Call, Tick, Receive, Fix, Give, Commit, Seal}
use Rattle.sd_device.specs.Words.{counter_of, over_link, wait_to_move}
use Rattle.sd_device.specs.Rebases.{waits_in}
use Rattle.sd_num.specs.declared.Rates.{Rates}
use Rattle.sd_device.specs.Rules.{turn_with, turned, called, entering, accepting, accepted, entered, quietly, is_acting_mode, edge_in, is_backup_root}
use Rattle.sd_device.proofs.Orderly.{latest_with}
use Rattle.sd_resume.specs.law.Shifts.{Shift, raised_epoch, raised_stamp, raised_message, raised_duty, raised_effect, raised_call, raised_registers}
use Rattle.sd_resume.specs.law.Likeness.{ReportsAlike, IsAlike}
use Rattle.sd_resume.proofs.law.Stamps.{same_epoch, same_newer, next_round, next_term}

-- what two calls made alike: both sent the same, and are alike
pub record AreAlikeAfter (shift : Shift) (now : ℕ) (one other : Registers × Effect) : Type 0 where
  pub sends : one.1 ≡ raised_effect shift other.1
  pub alike : IsAlike shift now one.0 other.0

-- A commit makes a device act that acted before, and the duty that it takes up has the rates of the device. Any other call is orderly.
pub record IsCommittable (r : Registers) : Type 0 where
  pub acts : is_acting_mode r.mode ≡ true
  pub has : (duty : Duty) × (r.duty ≡ Some duty)
  pub rates : (duty : Duty) → r.given ≡ Some duty → duty.rates ≡ r.rates

abbrev pub IsOrderlyCall : Registers → Call → Type 0
IsOrderlyCall r (Commit counter) = IsCommittable r
IsOrderlyCall r _ = Unit {0}

later_reports : (now counter : ℕ) (rates : Rates) (one other : Estimate) → now ≤ counter → ReportsAlike now rates one other → ReportsAlike counter rates one other
later_reports now counter rates one other later alike at due = alike at (omega (arith, later, due))

sends_same : (epoch : ℕ) (a b : Stamp) (report other : Report) → a ≡ b → report ≡ other → Send (message_of epoch a report) ≡ Send (message_of epoch b other)
sends_same epoch a b report other stamps reports = rw (stamps, reports) refl

-- the counters that a device needs are the same
pub record SameCounters (r : Registers) (last sent : ℕ) : Type 0 where
  pub waited : waits_in r ≡ true → last ≡ r.last
  pub emitted : is_acting_mode r.mode ≡ true → sent ≡ r.sent

alike_with : (shift : Shift) (at : ℕ) (r : Registers) (last sent : ℕ) (other : Stamp) (estimate : Estimate) → SameCounters r last sent
    → IfSome r.duty (λ d. other ≡ raised_stamp shift r.stamp) → ReportsAlike at r.rates estimate r.estimate
    → IsAlike shift at (raised_registers shift r last sent other estimate) r
alike_with shift at r last sent other estimate counters stamps reports =
    record {
      last = last;
      sent = sent;
      stamp = other;
      estimate = estimate;
      kept = refl;
      waited = counters.waited;
      emitted = counters.emitted;
      stamps = stamps;
      reports = reports;
    }

-- Which turn a tick is

turns_with : (shift : Shift) (r : Registers) (mode : Mode) (duty : Duty) (last sent counter : ℕ) (other : Stamp) (estimate : Estimate)
    → SameCounters (record r { mode = mode; duty = Some duty }) last sent
    → turn_with (raised_registers shift (record r { mode = mode; duty = Some duty }) last sent other estimate) counter (raised_duty shift duty)
    ≡ turn_with (record r { mode = mode; duty = Some duty }) counter duty
turns_with shift r Acting duty last sent counter other estimate h =
    ap (λ at. if nat_le duty.period (counter - at) then Emit else Stay) (h.emitted refl)
turns_with shift r Backup duty last sent counter other estimate h = go (is_backup_root duty) h.waited
  where
    go : (backup : Bool) → (backup ≡ true → last ≡ r.last)
        → (if r.sealed && backup && nat_le duty.wait_second (counter - last) then TakeOver else Stay)
        ≡ (if r.sealed && backup && nat_le duty.wait_second (counter - r.last) then TakeOver else Stay)
    go true same = ap (λ at. if r.sealed && true && nat_le duty.wait_second (counter - at) then TakeOver else Stay) (same refl)
    go false same = unread r.sealed (nat_le duty.wait_second (counter - last)) (nat_le duty.wait_second (counter - r.last))
      where
        unread : (sealed long long' : Bool) → (if sealed && false && long then TakeOver else Stay) ≡ (if sealed && false && long' then TakeOver else Stay)
        unread true long long' = refl
        unread false long long' = refl
turns_with shift r Primary duty last sent counter other estimate h = go (wait_to_move duty) h.waited
  where
    go : (wait : Option ℕ) → (is_some wait ≡ true → last ≡ r.last)
        → (if r.sealed && map_or wait false (λ w. nat_le w (counter - last)) then Move else Stay)
        ≡ (if r.sealed && map_or wait false (λ w. nat_le w (counter - r.last)) then Move else Stay)
    go (Some w) same = ap (λ at. if r.sealed && nat_le w (counter - at) then Move else Stay) (same refl)
    go None same = refl
turns_with shift r Idle duty last sent counter other estimate h = refl

module _ (shift : Shift) (now : ℕ) where
  -- Ticks

  turned_alike : (r : Registers) (duty : Duty) (last sent : ℕ) (other : Stamp) (estimate : Estimate) (counter : ℕ) → now ≤ counter
      → SameCounters (record r { duty = Some duty }) last sent
      → other ≡ raised_stamp shift r.stamp → ReportsAlike now r.rates estimate r.estimate → (turn : Turn)
      → AreAlikeAfter shift counter (turned (raised_registers shift (record r { duty = Some duty }) last sent other estimate) counter turn)
      (turned (record r { duty = Some duty }) counter turn)
  turned_alike r duty last sent other estimate counter later h same reports Emit =
      let next : stamp other.term (other.round + 1) ≡ raised_stamp shift (stamp r.stamp.term (r.stamp.round + 1)) = rw same (next_round shift r.stamp) in
      record {
        sends = sends_same (raised_epoch shift duty.epoch) (stamp other.term (other.round + 1)) (raised_stamp shift (stamp r.stamp.term (r.stamp.round + 1)))
            (report_of r.rates estimate counter) (report_of r.rates r.estimate counter) next (reports counter later);
        alike = alike_with shift counter (record r { duty = Some duty; stamp = stamp r.stamp.term (r.stamp.round + 1); sent = counter }) last counter
            (stamp other.term (other.round + 1)) estimate (record { waited = h.waited; emitted = λ acts. refl }) next
            (later_reports now counter r.rates estimate r.estimate later reports);
      }
  turned_alike r duty last sent other estimate counter later h same reports TakeOver =
      let next : stamp (other.term + 1) 1 ≡ raised_stamp shift (stamp (r.stamp.term + 1) 1) = rw same (next_term shift r.stamp 1) in
      record {
        sends = sends_same (raised_epoch shift duty.epoch) (stamp (other.term + 1) 1) (raised_stamp shift (stamp (r.stamp.term + 1) 1))
            (report_of r.rates estimate counter) (report_of r.rates r.estimate counter) next (reports counter later);
        alike = alike_with shift counter (record r { duty = Some duty; mode = Acting; stamp = stamp (r.stamp.term + 1) 1; sent = counter }) last counter
            (stamp (other.term + 1) 1) estimate (record { waited = λ need. cc; emitted = λ acts. refl }) next
            (later_reports now counter r.rates estimate r.estimate later reports);
      }
  turned_alike r duty last sent other estimate counter later h same reports Move =
      record {
        sends = refl;
        alike = alike_with shift counter (record r { duty = Some duty; mode = Backup; last = counter }) counter sent other estimate
            (record { waited = λ need. refl; emitted = λ acts. cc }) same (later_reports now counter r.rates estimate r.estimate later reports);
      }
  turned_alike r duty last sent other estimate counter later h same reports Stay =
      record {
        sends = refl;
        alike = alike_with shift counter (record r { duty = Some duty }) last sent other estimate h same
            (later_reports now counter r.rates estimate r.estimate later reports);
      }

  tick_alike : (r : Registers) (duty : Option Duty) (last sent : ℕ) (other : Stamp) (estimate : Estimate) (counter : ℕ) → now ≤ counter
      → SameCounters (record r { duty = duty }) last sent
      → IfSome duty (λ d. other ≡ raised_stamp shift r.stamp) → ReportsAlike now r.rates estimate r.estimate
      → AreAlikeAfter shift counter (called (raised_registers shift (record r { duty = duty }) last sent other estimate) (Tick counter))
      (called (record r { duty = duty }) (Tick counter))
  tick_alike r None last sent other estimate counter later h same reports =
      record {
        sends = refl;
        alike = alike_with shift counter (record r { duty = None }) last sent other estimate h tt (later_reports now counter r.rates estimate r.estimate later reports);
      }
  tick_alike r (Some duty) last sent other estimate counter later h same reports =
      subst (λ (turn : Turn). AreAlikeAfter shift counter (turned (raised_registers shift (record r { duty = Some duty }) last sent other estimate) counter turn)
      (called (record r { duty = Some duty }) (Tick counter)))
      (sym (turns_with shift r r.mode duty last sent counter other estimate h))
      (turned_alike r duty last sent other estimate counter later h same reports (turn_with r counter duty))

  -- Receipts

  accepted_alike : (r : Registers) (last sent : ℕ) (other : Stamp) (estimate : Estimate) (edge : Edge) (message : Message) (counter : ℕ)
      → (is_acting_mode r.mode ≡ true → sent ≡ r.sent)
      → AreAlikeAfter shift counter (accepted (raised_registers shift r last sent other estimate) edge (raised_message shift message) counter)
      (accepted r edge message counter)
  accepted_alike r last sent other estimate edge message counter emitted =
      record {
        sends = ap (λ epoch. Send (message_of epoch (raised_stamp shift message.stamp) (record { clock = message.clock + edge.bounds.mid; eps = message.eps + edge.bounds.half })))
            (epoch_of r.duty);
        alike = record {
          last = counter;
          sent = sent;
          stamp = raised_stamp shift message.stamp;
          estimate = corrected (carried message) edge.bounds counter;
          kept = refl;
          waited = λ need. refl;
          emitted = emitted;
          stamps = either r.duty;
          reports = λ at due. refl;
        };
      }
    where
      epoch_of : (duty : Option Duty) → map_or (option_map (raised_duty shift) duty) 0 (λ d. d.epoch) ≡ raised_epoch shift (map_or duty 0 (λ d. d.epoch))
      epoch_of None = refl
      epoch_of (Some d) = refl

      either : (duty : Option Duty) → IfSome duty (λ d. raised_stamp shift message.stamp ≡ raised_stamp shift message.stamp)
      either None = tt
      either (Some d) = refl

  raised_entry : Duty × Edge → Duty × Edge
  raised_entry by = (raised_duty shift by.0, by.1)

  entering_alike : (r : Registers) (given : Option Duty) (last sent : ℕ) (other : Stamp) (estimate : Estimate) (link : ℕ) (message : Message)
      → entering (raised_registers shift (record r { given = given }) last sent other estimate) link (raised_message shift message)
      ≡ option_map raised_entry (entering (record r { given = given }) link message)
  unfolding raised_entry
  entering_alike r None last sent other estimate link message = refl
  entering_alike r (Some duty) last sent other estimate link message =
      ap (λ (b : Bool). if b then option_map (λ (edge : Edge). (raised_duty shift duty, edge)) (option_and_then (over_link link) duty.primary) else None)
      (same_epoch shift duty.epoch message.epoch)
      ∙ go (nat_eq duty.epoch message.epoch) (option_and_then (over_link link) duty.primary)
    where
      go : (b : Bool) (edge : Option Edge)
          → (if b then option_map (λ (e : Edge). (raised_duty shift duty, e)) edge else None)
          ≡ option_map raised_entry (if b then option_map (λ (e : Edge). (duty, e)) edge else None)
      go true None = refl
      go true (Some e) = refl
      go false edge = refl

  edge_alike : (mode : Mode) (duty : Option Duty)
      → elim mode as (λ (m : Mode). Option Edge) [
        | Primary ↦ map_or (option_map (raised_duty shift) duty) None (λ d. d.primary)
        | Backup ↦ map_or (option_map (raised_duty shift) duty) None (λ d. d.backup)
        | _ ↦ None
      ] ≡ elim mode as (λ (m : Mode). Option Edge) [
        | Primary ↦ map_or duty None (λ d. d.primary)
        | Backup ↦ map_or duty None (λ d. d.backup)
        | _ ↦ None
      ]
  edge_alike Primary None = refl
  edge_alike Primary (Some d) = refl
  edge_alike Backup None = refl
  edge_alike Backup (Some d) = refl
  edge_alike Acting duty = refl
  edge_alike Idle duty = refl

  no_edge : (mode : Mode) → elim mode as (λ (m : Mode). Option Edge) [
    | Primary ↦ map_or None None (λ (d : Duty). d.primary)
    | Backup ↦ map_or None None (λ (d : Duty). d.backup)
    | _ ↦ None
  ] ≡ None
  no_edge Primary = refl
  no_edge _ = refl

  accepting_alike : (r : Registers) (duty : Option Duty) (last sent : ℕ) (other : Stamp) (estimate : Estimate) (link : ℕ) (message : Message)
      → IfSome duty (λ d. other ≡ raised_stamp shift r.stamp)
      → accepting (raised_registers shift (record r { duty = duty }) last sent other estimate) link (raised_message shift message)
      ≡ accepting (record r { duty = duty }) link message
  accepting_alike r None last sent other estimate link message same =
      nothing (nat_eq 0 (raised_epoch shift message.epoch) && is_newer (raised_stamp shift message.stamp) other)
      ∙ sym (nothing (nat_eq 0 message.epoch && is_newer message.stamp r.stamp))
    where
      nothing : (b : Bool) → (if b then option_and_then (over_link link) (edge_in (record r { duty = None })) else None) ≡ None
      nothing true = ap (option_and_then (over_link link)) (no_edge r.mode)
      nothing false = refl
  accepting_alike r (Some duty) last sent other estimate link message same =
      ap (λ (b : Bool). if b && is_newer (raised_stamp shift message.stamp) other then option_and_then (over_link link) (edge_in (raised_registers shift (record r { duty = Some duty }) last sent other estimate)) else None)
      (same_epoch shift duty.epoch message.epoch)
      ∙ ap (λ (b : Bool). if nat_eq duty.epoch message.epoch && b then option_and_then (over_link link) (edge_in (raised_registers shift (record r { duty = Some duty }) last sent other estimate)) else None)
      (ap (is_newer (raised_stamp shift message.stamp)) same ∙ same_newer shift message.stamp r.stamp)
      ∙ ap (λ (edge : Option Edge). if nat_eq duty.epoch message.epoch && is_newer message.stamp r.stamp then option_and_then (over_link link) edge else None)
      (edge_alike r.mode (Some duty))

  received_alike : (r : Registers) (last sent : ℕ) (other : Stamp) (estimate : Estimate) (message : Message) (counter : ℕ) → now ≤ counter
      → SameCounters r last sent
      → IfSome r.duty (λ d. other ≡ raised_stamp shift r.stamp) → ReportsAlike now r.rates estimate r.estimate
      → (enter : Option (Duty × Edge)) (accept : Option Edge)
      → AreAlikeAfter shift counter
      (map_or (option_map raised_entry enter)
      (map_or accept (quietly (raised_registers shift r last sent other estimate))
      (λ edge. accepted (raised_registers shift r last sent other estimate) edge (raised_message shift message) counter))
      (λ by. accepted (entered (raised_registers shift r last sent other estimate) by.0) by.1 (raised_message shift message) counter))
      (map_or enter (map_or accept (quietly r) (λ edge. accepted r edge message counter)) (λ by. accepted (entered r by.0) by.1 message counter))
  unfolding raised_entry
  received_alike r last sent other estimate message counter later h same reports (Some by) accept =
      accepted_alike (entered r by.0) last sent other estimate by.1 message counter (λ acts. cc)
  received_alike r last sent other estimate message counter later h same reports None (Some edge) =
      accepted_alike r last sent other estimate edge message counter h.emitted
  received_alike r last sent other estimate message counter later h same reports None None =
      record { sends = refl; alike = alike_with shift counter r last sent other estimate h same (later_reports now counter r.rates estimate r.estimate later reports) }

  receipt_alike : (r : Registers) (last sent : ℕ) (other : Stamp) (estimate : Estimate) (link : ℕ) (message : Message) (counter : ℕ) → now ≤ counter
      → SameCounters r last sent
      → IfSome r.duty (λ d. other ≡ raised_stamp shift r.stamp) → ReportsAlike now r.rates estimate r.estimate
      → AreAlikeAfter shift counter (called (raised_registers shift r last sent other estimate) (Receive link (raised_message shift message) counter))
      (called r (Receive link message counter))
  receipt_alike r last sent other estimate link message counter later h same reports =
      subst (λ (enter : Option (Duty × Edge)). AreAlikeAfter shift counter
      (map_or enter
      (map_or (accepting (raised_registers shift r last sent other estimate) link (raised_message shift message)) (quietly (raised_registers shift r last sent other estimate))
      (λ edge. accepted (raised_registers shift r last sent other estimate) edge (raised_message shift message) counter))
      (λ by. accepted (entered (raised_registers shift r last sent other estimate) by.0) by.1 (raised_message shift message) counter))
      (called r (Receive link message counter)))
      (sym (entering_alike r r.given last sent other estimate link message))
      (subst (λ (accept : Option Edge). AreAlikeAfter shift counter
      (map_or (option_map raised_entry (entering r link message))
      (map_or accept (quietly (raised_registers shift r last sent other estimate))
      (λ edge. accepted (raised_registers shift r last sent other estimate) edge (raised_message shift message) counter))
      (λ by. accepted (entered (raised_registers shift r last sent other estimate) by.0) by.1 (raised_message shift message) counter))
      (called r (Receive link message counter)))
      (sym (accepting_alike r r.duty last sent other estimate link message same))
      (received_alike r last sent other estimate message counter later h same reports (entering r link message) (accepting r link message)))

  -- Commits

  commit_alike : (r : Registers) (given : Option Duty) (mode : Mode) (last sent : ℕ) (other : Stamp) (estimate : Estimate) (counter : ℕ) → now ≤ counter
      → SameCounters (record r { given = given; mode = mode }) last sent
      → is_acting_mode mode ≡ true → ((duty : Duty) → given ≡ Some duty → duty.rates ≡ r.rates)
      → IfSome r.duty (λ d. other ≡ raised_stamp shift r.stamp) → other ≡ raised_stamp shift r.stamp → ReportsAlike now r.rates estimate r.estimate
      → AreAlikeAfter shift counter
      (called (raised_registers shift (record r { given = given; mode = mode }) last sent other estimate) (Commit counter))
      (called (record r { given = given; mode = mode }) (Commit counter))
  commit_alike r None mode last sent other estimate counter later h acts rates same stamped reports =
      record {
        sends = refl;
        alike = alike_with shift counter (record r { given = None; mode = mode }) last sent other estimate h same
            (later_reports now counter r.rates estimate r.estimate later reports);
      }
  commit_alike r (Some duty) Acting last sent other estimate counter later h acts rates same stamped reports =
      record {
        sends = refl;
        alike = record {
          last = last;
          sent = sent;
          stamp = other;
          estimate = estimate;
          kept = refl;
          waited = λ need. cc;
          emitted = h.emitted;
          stamps = stamped;
          reports = rw (rates duty refl) (later_reports now counter r.rates estimate r.estimate later reports);
        };
      }
  commit_alike r (Some duty) Primary last sent other estimate counter later h acts rates same stamped reports = cc
  commit_alike r (Some duty) Backup last sent other estimate counter later h acts rates same stamped reports = cc
  commit_alike r (Some duty) Idle last sent other estimate counter later h acts rates same stamped reports = cc

  -- All calls

  at_some : {A : Type 0} (o : Option A) (x : A) (P : Type 0) → o ≡ Some x → IfSome o (λ y. P) → P
  at_some None x P has is = cc
  at_some (Some y) x P has is = is

  calls_alike : (r : Registers) (last sent : ℕ) (other : Stamp) (estimate : Estimate) (call : Call)
      → IfSome (counter_of call) (λ counter. now ≤ counter) → IsOrderlyCall r call → SameCounters r last sent
      → IfSome r.duty (λ d. other ≡ raised_stamp shift r.stamp) → ReportsAlike now r.rates estimate r.estimate
      → AreAlikeAfter shift (latest_with call now) (called (raised_registers shift r last sent other estimate) (raised_call shift call)) (called r call)
  calls_alike r last sent other estimate (Tick counter) later orderly h same reports = tick_alike r r.duty last sent other estimate counter later h same reports
  calls_alike r last sent other estimate (Receive link message counter) later orderly h same reports =
      receipt_alike r last sent other estimate link message counter later h same reports
  calls_alike r last sent other estimate (Fix counter clock eps) later orderly h same reports =
      record {
        sends = refl;
        alike = alike_with shift counter (record r { estimate = estimate_at clock eps counter }) last sent other (estimate_at clock eps counter)
            (record { waited = h.waited; emitted = h.emitted }) same (λ at due. refl);
      }
  calls_alike r last sent other estimate (Give duty) later orderly h same reports =
      record {
        sends = refl;
        alike = alike_with shift now (record r { given = Some duty }) last sent other estimate (record { waited = h.waited; emitted = h.emitted }) same reports;
      }
  calls_alike r last sent other estimate (Commit counter) later orderly h same reports =
      commit_alike r r.given r.mode last sent other estimate counter later h orderly.acts orderly.rates same
      (at_some r.duty orderly.has.0 (other ≡ raised_stamp shift r.stamp) orderly.has.1 same) reports
  calls_alike r last sent other estimate Seal later orderly h same reports =
      record {
        sends = refl;
        alike = alike_with shift now (record r { sealed = true }) last sent other estimate (record { waited = h.waited; emitted = h.emitted }) same reports;
      }

  -- Two devices that are alike send the same at a call, and are alike from its counter on.
  pub called_alike : (one r : Registers) (call : Call) → IfSome (counter_of call) (λ counter. now ≤ counter) → IsOrderlyCall r call
      → IsAlike shift now one r → AreAlikeAfter shift (latest_with call now) (called one (raised_call shift call)) (called r call)
  called_alike one r call later orderly alike =
      subst (λ (x : Registers). AreAlikeAfter shift (latest_with call now) (called x (raised_call shift call)) (called r call)) (sym alike.kept)
      (calls_alike r alike.last alike.sent alike.stamp alike.estimate call later orderly (record { waited = alike.waited; emitted = alike.emitted }) alike.stamps
      alike.reports)
