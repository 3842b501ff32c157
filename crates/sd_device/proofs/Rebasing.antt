-- A rebase changes no later answer: each call keeps two devices alike of which the second has lowered counters.
use Rattle.std.proofs.Common.{◌≡◌, ◌≢◌, ℕ, zero, suc, ◌+◌, ◌-◌, ◌*◌, ◌/◌, ◌≤◌, Bool, true, false, ◌&&◌, List, [], ◌∷◌, Option, Some, None, refl, sym, ◌∙◌, ap, subst, arith}
use Rattle.std.specs.Prelude.{max, min, is_some, nat_le, IfSome, if◌then◌else◌}
use Rattle.sd_num.specs.Lists.{map_or}
use Rattle.sd_num.specs.Numbers.{grow}
use Rattle.sd_num.specs.declared.Rates.{Rates}
use Rattle.sd_plan.specs.declared.Duty.{Duty}
use Rattle.sd_plan.specs.declared.Edge.{Edge}
use Rattle.sd_device.specs.declared.msg.Message.{Message}
use Rattle.sd_device.specs.declared.msg.Stamp.{Stamp}
use Rattle.sd_device.specs.msg.Stamps.{stamp, message_of}
use Rattle.sd_num.specs.declared.clock.Estimate.{Estimate}
use Rattle.sd_num.specs.declared.clock.Report.{Report}
use Rattle.sd_num.specs.clock.Estimates.{report_of}
use Rattle.sd_num.specs.clock.Advances.{microseconds_to}
use Rattle.sd_num.proofs.clock.Advance.{advance_reports}
use Rattle.sd_device.specs.declared.Effect.{Effect}
use Rattle.sd_device.specs.declared.Effect.TheVariants.{Send}
use Rattle.sd_device.specs.declared.registers.Registers.{Registers}
use Rattle.sd_device.specs.declared.registers.Mode.{Mode}
use Rattle.sd_device.specs.declared.registers.Mode.TheVariants.{Primary, Backup, Acting, Idle}
use Rattle.sd_device.specs.declared.turns.Turn.{Turn}
use Rattle.sd_device.specs.declared.turns.Turn.TheVariants.{Emit, TakeOver, Move, Stay}
use Rattle.sd_device.specs.Calls.{Call, Tick, Receive, Fix, Give, Commit, Seal}
use Rattle.sd_device.specs.Words.{wait_to_move, counter_of}
use Rattle.sd_device.specs.Rules.{turn_of, turn_with, turned, called, entering, accepting, accepted, entered, quietly, committed, is_acting_mode, is_backup_root, floor_in, epoch_in}
use Rattle.sd_device.specs.Rebases.{waits_in, normal_at, lowering, rebased, call_lowered, IsSteady, TellsAlike, AnswersAlike}

-- the registers with other counters and another estimate
abbrev pub recounted : Registers → (last sent : ℕ) → Estimate → Registers
recounted r last sent estimate = record r { last = last; sent = sent; estimate = estimate }

-- the second estimate is the first, moved on by whole microseconds that end by now, at counters that are lowered by this much
pub record IsMovedOn (by now ppm : ℕ) (estimate lower : Estimate) : Type 0 where
  pub micros : ℕ
  pub clock : lower.clock ≡ estimate.clock + 1000000 * micros
  pub base : lower.base ≡ estimate.base + ppm * micros
  pub at : lower.at + by ≡ estimate.at + 1000000 * micros
  pub due : 1000000 * micros ≤ now - estimate.at

-- a counter that the second keeps: that of the first where it is needed, and else one that is no later
pub record IsLowered (by now counter lower : ℕ) (needed : Bool) : Type 0 where
  pub same : needed ≡ true → lower + by ≡ counter
  pub due : lower + by ≤ max now counter

-- what makes two devices answer alike, the second at counters that are lowered by this much
pub record IsSameLater (by now : ℕ) (r : Registers) (last sent : ℕ) (estimate : Estimate) : Type 0 where
  pub waited : IsLowered by now r.last last (waits_in r)
  pub emitted : IsLowered by now r.sent sent (is_acting_mode r.mode)
  pub moves : IsMovedOn by now r.rates.ppm r.estimate estimate

-- numbers

same_age : (by counter kept lower : ℕ) → lower + by ≡ kept → counter - by - lower ≡ counter - kept
same_age by counter kept lower same = omega (arith, same)

back : (by now counter : ℕ) → by ≤ now → now ≤ counter → counter - by + by ≡ counter
back by now counter small later = omega (arith, small, later)

-- a counter that is set anew
set_anew : (by now counter : ℕ) (needed : Bool) → by ≤ now → now ≤ counter → IsLowered by now counter (counter - by) needed
set_anew by now counter needed small later =
    record { same = λ h. back by now counter small later; due = omega (arith, small, later) }

-- one that is not needed any more
not_needed : (by now counter lower : ℕ) (needed : Bool) → IsLowered by now counter lower needed → IsLowered by now counter lower false
not_needed by now counter lower needed h = record { same = λ need. cc; due = h.due }

-- an estimate that is set anew
estimate_anew : (by now ppm counter clock base : ℕ) → by ≤ now → now ≤ counter
    → IsMovedOn by now ppm (record { clock = clock; base = base; at = counter }) (record { clock = clock; base = base; at = counter - by })
estimate_anew by now ppm counter clock base small later =
    record {
      micros = 0;
      clock = omega arith;
      base = grind arith;
      at = omega (arith, back by now counter small later);
      due = omega arith;
    }

-- reports

abbrev reported : Rates → (clock base age : ℕ) → Report
reported rates clock base age = record { clock = clock + age; eps = base + rates.grain + grow rates.ppm age }

reported_same : (rates : Rates) (clock base age other_clock other_base other_age : ℕ) → clock ≡ other_clock → base ≡ other_base → age ≡ other_age
    → reported rates clock base age ≡ reported rates other_clock other_base other_age
reported_same rates clock base age other_clock other_base other_age a b c = rw (a, b, c) refl

pub reports_alike : (by now : ℕ) (rates : Rates) (estimate lower : Estimate) → IsMovedOn by now rates.ppm estimate lower → (counter : ℕ) → now ≤ counter
    → report_of rates lower (counter - by) ≡ report_of rates estimate counter
reports_alike by now rates estimate lower h counter later =
    reported_same rates lower.clock lower.base (counter - by - lower.at)
    (estimate.clock + 1000000 * h.micros) (estimate.base + rates.ppm * h.micros) (counter - (estimate.at + 1000000 * h.micros))
    h.clock h.base (same_age by counter (estimate.at + 1000000 * h.micros) lower.at h.at)
    ∙ go h.micros h.due
  where
    go : (micros : ℕ) → 1000000 * micros ≤ now - estimate.at
        → reported rates (estimate.clock + 1000000 * micros) (estimate.base + rates.ppm * micros) (counter - (estimate.at + 1000000 * micros))
        ≡ report_of rates estimate counter
    go zero due =
        reported_same rates (estimate.clock + 1000000 * 0) (estimate.base + rates.ppm * 0) (counter - (estimate.at + 1000000 * 0))
        estimate.clock estimate.base (counter - estimate.at) (omega arith) (grind arith) (omega arith)
    go (suc micros) due =
        advance_reports rates estimate (1000000 * suc micros) (rates.ppm * suc micros) counter (grind arith) (omega (arith, due, later))

-- what the two tell

floor_alike : (by now last sent at lower_last lower_sent lower_at : ℕ) → lower_last + by ≤ max now last → lower_sent + by ≤ max now sent
    → lower_at + by ≤ max now at → max (max lower_last lower_sent) lower_at + by ≤ max now (max (max last sent) at)
floor_alike by now last sent at lower_last lower_sent lower_at a b c = omega (arith, a, b, c)

at_due : (by now at lower micros : ℕ) → lower + by ≡ at + 1000000 * micros → 1000000 * micros ≤ now - at → lower + by ≤ max now at
at_due by now at lower micros same due = omega (arith, same, due)

no_older : (by at lower micros : ℕ) → lower + by ≡ at + 1000000 * micros → at ≤ lower + by
no_older by at lower micros same = omega (arith, same)

tells : (by now : ℕ) (r : Registers) (last sent : ℕ) (estimate : Estimate) → IsSameLater by now r last sent estimate
    → TellsAlike by now r (recounted r last sent estimate)
tells by now r last sent estimate h =
    record {
      kept = refl;
      report = reports_alike by now r.rates r.estimate estimate h.moves;
      floor = floor_alike by now r.last r.sent r.estimate.at last sent estimate.at h.waited.due h.emitted.due
          (at_due by now r.estimate.at estimate.at h.moves.micros h.moves.at h.moves.due);
      at = no_older by r.estimate.at estimate.at h.moves.micros h.moves.at;
    }

-- turns

same_test : (by counter kept lower wait : ℕ) → lower + by ≡ kept → nat_le wait (counter - by - lower) ≡ nat_le wait (counter - kept)
same_test by counter kept lower wait same = ap (nat_le wait) (same_age by counter kept lower same)

unread : (sealed long other : Bool) → (if sealed && false && long then TakeOver else Stay) ≡ (if sealed && false && other then TakeOver else Stay)
unread true long other = refl
unread false long other = refl

turns_with : (r : Registers) (mode : Mode) (duty : Duty) (by counter last sent : ℕ) (estimate : Estimate)
    → (waits_in (record r { mode = mode; duty = Some duty }) ≡ true → last + by ≡ r.last)
    → (is_acting_mode mode ≡ true → sent + by ≡ r.sent)
    → turn_with (recounted (record r { mode = mode }) last sent estimate) (counter - by) duty ≡ turn_with (record r { mode = mode }) counter duty
turns_with r Acting duty by counter last sent estimate waits acts =
    ap (λ (due : Bool). if due then Emit else Stay) (same_test by counter r.sent sent duty.period (acts refl))
turns_with r Backup duty by counter last sent estimate waits acts = go (is_backup_root duty) waits
  where
    go : (backup : Bool) → (backup ≡ true → last + by ≡ r.last)
        → (if r.sealed && backup && nat_le duty.wait_second (counter - by - last) then TakeOver else Stay)
        ≡ (if r.sealed && backup && nat_le duty.wait_second (counter - r.last) then TakeOver else Stay)
    go true h = ap (λ (long : Bool). if r.sealed && true && long then TakeOver else Stay) (same_test by counter r.last last duty.wait_second (h refl))
    go false h = unread r.sealed (nat_le duty.wait_second (counter - by - last)) (nat_le duty.wait_second (counter - r.last))
turns_with r Primary duty by counter last sent estimate waits acts = go (wait_to_move duty) waits
  where
    go : (wait : Option ℕ) → (is_some wait ≡ true → last + by ≡ r.last)
        → (if r.sealed && map_or wait false (λ w. nat_le w (counter - by - last)) then Move else Stay)
        ≡ (if r.sealed && map_or wait false (λ w. nat_le w (counter - r.last)) then Move else Stay)
    go (Some w) h = ap (λ (long : Bool). if r.sealed && long then Move else Stay) (same_test by counter r.last last w (h refl))
    go None h = refl
turns_with r Idle duty by counter last sent estimate waits acts = refl

turns : (r : Registers) (duty : Option Duty) (by counter last sent : ℕ) (estimate : Estimate)
    → (waits_in (record r { duty = duty }) ≡ true → last + by ≡ r.last)
    → (is_acting_mode r.mode ≡ true → sent + by ≡ r.sent)
    → turn_of (recounted (record r { duty = duty }) last sent estimate) (counter - by) ≡ turn_of (record r { duty = duty }) counter
turns r None by counter last sent estimate waits acts = refl
turns r (Some duty) by counter last sent estimate waits acts = turns_with r r.mode duty by counter last sent estimate waits acts

-- what two calls made alike

-- both sent the same, and are alike
pub record IsAlikeAfter (by now : ℕ) (one lower : Registers × Effect) : Type 0 where
  pub sends : lower.1 ≡ one.1
  pub last : ℕ
  pub sent : ℕ
  pub estimate : Estimate
  pub kept : lower.0 ≡ recounted one.0 last sent estimate
  pub same : IsSameLater by now one.0 last sent estimate

sends_same : (epoch : ℕ) (stamp : Stamp) (report other : Report) → report ≡ other → Send (message_of epoch stamp report) ≡ Send (message_of epoch stamp other)
sends_same epoch stamp report other same = ap (λ r. Send (message_of epoch stamp r)) same

turned_alike : (by now : ℕ) (r : Registers) (last sent : ℕ) (estimate : Estimate) (counter : ℕ) → by ≤ now → now ≤ counter
    → IsSameLater by now r last sent estimate → (turn : Turn)
    → IsAlikeAfter by now (turned r counter turn) (turned (recounted r last sent estimate) (counter - by) turn)
turned_alike by now r last sent estimate counter small later h Emit =
    record {
      sends = sends_same (epoch_in r) (stamp r.stamp.term (r.stamp.round + 1)) (report_of r.rates estimate (counter - by)) (report_of r.rates r.estimate counter)
          (reports_alike by now r.rates r.estimate estimate h.moves counter later);
      last = last;
      sent = counter - by;
      estimate = estimate;
      kept = refl;
      same = record { waited = h.waited; emitted = set_anew by now counter (is_acting_mode r.mode) small later; moves = h.moves };
    }
turned_alike by now r last sent estimate counter small later h TakeOver =
    record {
      sends = sends_same (epoch_in r) (stamp (r.stamp.term + 1) 1) (report_of r.rates estimate (counter - by)) (report_of r.rates r.estimate counter)
          (reports_alike by now r.rates r.estimate estimate h.moves counter later);
      last = last;
      sent = counter - by;
      estimate = estimate;
      kept = refl;
      same = record {
        waited = not_needed by now r.last last (waits_in r) h.waited;
        emitted = set_anew by now counter true small later;
        moves = h.moves;
      };
    }
turned_alike by now r last sent estimate counter small later h Move =
    record {
      sends = refl;
      last = counter - by;
      sent = sent;
      estimate = estimate;
      kept = refl;
      same = record {
        waited = set_anew by now counter (map_or r.duty false is_backup_root) small later;
        emitted = not_needed by now r.sent sent (is_acting_mode r.mode) h.emitted;
        moves = h.moves;
      };
    }
turned_alike by now r last sent estimate counter small later h Stay =
    record { sends = refl; last = last; sent = sent; estimate = estimate; kept = refl; same = h }

tick_alike : (by now : ℕ) (r : Registers) (last sent : ℕ) (estimate : Estimate) (counter : ℕ) → by ≤ now → now ≤ counter
    → IsSameLater by now r last sent estimate
    → IsAlikeAfter by now (called r (Tick counter)) (called (recounted r last sent estimate) (Tick (counter - by)))
tick_alike by now r last sent estimate counter small later h =
    subst (λ (turn : Turn). IsAlikeAfter by now (called r (Tick counter)) (turned (recounted r last sent estimate) (counter - by) turn))
    (sym (turns r r.duty by counter last sent estimate h.waited.same h.emitted.same))
    (turned_alike by now r last sent estimate counter small later h (turn_of r counter))

-- where a device accepts, whatever it took up before
accepted_alike : (by now : ℕ) (r : Registers) (last sent : ℕ) (estimate : Estimate) (edge : Edge) (message : Message) (counter : ℕ) → by ≤ now → now ≤ counter
    → IsLowered by now r.sent sent (is_acting_mode r.mode)
    → IsAlikeAfter by now (accepted r edge message counter) (accepted (recounted r last sent estimate) edge message (counter - by))
accepted_alike by now r last sent estimate edge message counter small later emitted =
    record {
      sends = refl;
      last = counter - by;
      sent = sent;
      estimate = record { clock = message.clock + edge.bounds.mid; base = message.eps + edge.bounds.half; at = counter - by };
      kept = refl;
      same = record {
        waited = set_anew by now counter (waits_in r) small later;
        emitted = emitted;
        moves = estimate_anew by now r.rates.ppm counter (message.clock + edge.bounds.mid) (message.eps + edge.bounds.half) small later;
      };
    }

received_alike : (by now : ℕ) (r : Registers) (last sent : ℕ) (estimate : Estimate) (message : Message) (counter : ℕ) → by ≤ now → now ≤ counter
    → IsSameLater by now r last sent estimate → (enter : Option (Duty × Edge)) (accept : Option Edge)
    → IsAlikeAfter by now
    (map_or enter (map_or accept (quietly r) (λ edge. accepted r edge message counter))
    (λ entry. accepted (entered r entry.0) entry.1 message counter))
    (map_or enter (map_or accept (quietly (recounted r last sent estimate)) (λ edge. accepted (recounted r last sent estimate) edge message (counter - by)))
    (λ entry. accepted (entered (recounted r last sent estimate) entry.0) entry.1 message (counter - by)))
received_alike by now r last sent estimate message counter small later h (Some p) accept =
    accepted_alike by now (entered r p.0) last sent estimate p.1 message counter small later
    (not_needed by now r.sent sent (is_acting_mode r.mode) h.emitted)
received_alike by now r last sent estimate message counter small later h None (Some edge) =
    accepted_alike by now r last sent estimate edge message counter small later h.emitted
received_alike by now r last sent estimate message counter small later h None None =
    record { sends = refl; last = last; sent = sent; estimate = estimate; kept = refl; same = h }

-- an estimate under the rate of a duty that is taken up: the same rate, unless it was set since
steady_estimate : (by now ppm other : ℕ) (estimate lower : Estimate) → IsMovedOn by now ppm estimate lower
    → (estimate.at ≢ lower.at + by → other ≡ ppm) → IsMovedOn by now other estimate lower
steady_estimate by now ppm other estimate lower h steady = go h.micros h.clock h.base h.at h.due
  where
    go : (micros : ℕ) → lower.clock ≡ estimate.clock + 1000000 * micros → lower.base ≡ estimate.base + ppm * micros
        → lower.at + by ≡ estimate.at + 1000000 * micros → 1000000 * micros ≤ now - estimate.at → IsMovedOn by now other estimate lower
    go zero clock base at due =
        let none : ppm * 0 ≡ other * 0 = grind arith in
        record { micros = 0; clock = clock; base = omega (arith, base, none); at = at; due = due }
    go (suc micros) clock base at due =
        let same : other ≡ ppm = steady (λ set. moved estimate.at lower.at set at) in
        record { micros = suc micros; clock = clock; base = rw same base; at = at; due = due }
      where
        moved : (a b : ℕ) → a ≡ b + by → b + by ≡ a + 1000000 * suc micros → ⊥
        moved a b set at = omega (arith, set, at)

commit_alike : (by now : ℕ) (r : Registers) (last sent : ℕ) (estimate : Estimate) (counter : ℕ) → by ≤ now → now ≤ counter
    → IsSameLater by now r last sent estimate → (given : Option Duty)
    → (r.estimate.at ≢ estimate.at + by → IfSome given (λ duty. duty.rates.ppm ≡ r.rates.ppm))
    → IsAlikeAfter by now (quietly (map_or given r (committed r counter)))
    (quietly (map_or given (recounted r last sent estimate) (committed (recounted r last sent estimate) (counter - by))))
commit_alike by now r last sent estimate counter small later h None steady =
    record { sends = refl; last = last; sent = sent; estimate = estimate; kept = refl; same = h }
commit_alike by now r last sent estimate counter small later h (Some duty) steady =
    go r.mode h.emitted
  where
    moved_on_by : IsMovedOn by now duty.rates.ppm r.estimate estimate
    moved_on_by = steady_estimate by now r.rates.ppm duty.rates.ppm r.estimate estimate h.moves steady

    unwaited : IsLowered by now r.last last false
    unwaited = not_needed by now r.last last (waits_in r) h.waited

    after : Registers → ℕ → Registers
    after q at = record q { duty = Some duty; given = None; mode = Acting; sealed = false; stamp = stamp (q.stamp.term + 1) 0; sent = at; rates = duty.rates }

    anew : (q : Registers)
        → q.last ≡ r.last
        → q.estimate ≡ r.estimate
        → IsAlikeAfter by now (quietly (after q counter)) (quietly (after (recounted q last sent estimate) (counter - by)))
    anew q same_last same_estimate =
        record {
          sends = refl;
          last = last;
          sent = counter - by;
          estimate = estimate;
          kept = refl;
          same = record {
            waited = rw same_last unwaited;
            emitted = set_anew by now counter true small later;
            moves = rw same_estimate moved_on_by;
          };
        }

    go : (mode : Mode) → IsLowered by now r.sent sent (is_acting_mode mode)
        → IsAlikeAfter by now (quietly (committed (record r { mode = mode }) counter duty))
        (quietly (committed (recounted (record r { mode = mode }) last sent estimate) (counter - by) duty))
    go Acting emitted =
        record {
          sends = refl;
          last = last;
          sent = sent;
          estimate = estimate;
          kept = refl;
          same = record { waited = unwaited; emitted = emitted; moves = moved_on_by };
        }
    go Primary emitted = anew (record r { mode = Primary }) refl refl
    go Backup emitted = anew (record r { mode = Backup }) refl refl
    go Idle emitted = anew (record r { mode = Idle }) refl refl

called_alike : (by now : ℕ) (r : Registers) (last sent : ℕ) (estimate : Estimate) (call : Call) → by ≤ now
    → IfSome (counter_of call) (λ counter. now ≤ counter) → IsSteady by r (recounted r last sent estimate) call
    → IsSameLater by now r last sent estimate
    → IsAlikeAfter by now (called r call) (called (recounted r last sent estimate) (call_lowered by call))
called_alike by now r last sent estimate (Tick counter) small later steady h = tick_alike by now r last sent estimate counter small later h
called_alike by now r last sent estimate (Receive link message counter) small later steady h =
    received_alike by now r last sent estimate message counter small later h (entering r link message) (accepting r link message)
called_alike by now r last sent estimate (Fix counter clock eps) small later steady h =
    record {
      sends = refl;
      last = last;
      sent = sent;
      estimate = record { clock = clock; base = eps; at = counter - by };
      kept = refl;
      same = record { waited = h.waited; emitted = h.emitted; moves = estimate_anew by now r.rates.ppm counter clock eps small later };
    }
called_alike by now r last sent estimate (Give duty) small later steady h =
    record {
      sends = refl;
      last = last;
      sent = sent;
      estimate = estimate;
      kept = refl;
      same = record { waited = h.waited; emitted = h.emitted; moves = h.moves };
    }
called_alike by now r last sent estimate (Commit counter) small later steady h =
    commit_alike by now r last sent estimate counter small later h r.given steady
called_alike by now r last sent estimate Seal small later steady h =
    record {
      sends = refl;
      last = last;
      sent = sent;
      estimate = estimate;
      kept = refl;
      same = record { waited = h.waited; emitted = h.emitted; moves = h.moves };
    }

-- devices that are alike in this way answer alike to all later calls
pub answers_alike : (by now : ℕ) (later : List Call) (r lower : Registers) (last sent : ℕ) (estimate : Estimate) → by ≤ now
    → lower ≡ recounted r last sent estimate → IsSameLater by now r last sent estimate → AnswersAlike by now later r lower
answers_alike by now [] r lower last sent estimate small is h =
    subst (λ (x : Registers). TellsAlike by now r x) (sym is) (tells by now r last sent estimate h)
answers_alike by now (call ∷ later) r lower last sent estimate small is h =
    subst (λ (x : Registers). AnswersAlike by now (call ∷ later) r x) (sym is) (
      tells by now r last sent estimate h,
      λ due steady.
          let after = called_alike by now r last sent estimate call small due steady h in (
            after.sends,
            answers_alike by now later (called r call).0 (called (recounted r last sent estimate) (call_lowered by call)).0 after.last after.sent after.estimate
                small after.kept after.same,
          ),
    )

-- A rebase

kept_counter : (by now counter : ℕ) (needed : Bool) → by ≤ (if needed then counter else now) → by ≤ now
    → IsLowered by now counter ((if needed then counter else now) - by) needed
kept_counter by now counter true least small = record { same = λ h. omega (arith, least); due = omega (arith, least) }
kept_counter by now counter false least small = record { same = λ h. cc; due = omega (arith, small) }

least_of : (last sent at : ℕ) → (min (min last sent) at ≤ last) × (min (min last sent) at ≤ sent) × (min (min last sent) at ≤ at)
least_of last sent at = (omega arith, omega arith, omega arith)

advance_due : (at now : ℕ) → at ≤ now → (1000000 * ((now - at) / 1000000) ≤ now - at) × (at + 1000000 * ((now - at) / 1000000) ≤ now)
advance_due at now set = (omega arith, omega (arith, set))

rebase_moves : (by now ppm : ℕ) (estimate : Estimate) → estimate.at ≤ now → by ≤ estimate.at + 1000000 * microseconds_to estimate now
    → IsMovedOn by now ppm estimate (record {
      clock = estimate.clock + 1000000 * microseconds_to estimate now;
      base = estimate.base + ppm * microseconds_to estimate now;
      at = estimate.at + 1000000 * microseconds_to estimate now - by;
    })
rebase_moves by now ppm estimate set least =
    record {
      micros = microseconds_to estimate now;
      clock = refl;
      base = refl;
      at = omega (arith, least);
      due = (advance_due estimate.at now set).0;
    }

pub rebase_small : (r : Registers) (now : ℕ) → floor_in r ≤ now → lowering r now ≤ now
rebase_small r now due =
    let set : r.estimate.at ≤ now = omega (arith, due) in
    go (normal_at r now).last (normal_at r now).sent (r.estimate.at + 1000000 * microseconds_to r.estimate now) (advance_due r.estimate.at now set).1
  where
    go : (last sent at : ℕ) → at ≤ now → min (min last sent) at ≤ now
    go last sent at fits = omega (arith, fits)

pub rebase_same : (r : Registers) (now : ℕ) → floor_in r ≤ now
    → IsSameLater (lowering r now) now r (rebased r now).last (rebased r now).sent (rebased r now).estimate
rebase_same r now due =
    let set : r.estimate.at ≤ now = omega (arith, due) in
    let least = least_of (normal_at r now).last (normal_at r now).sent (normal_at r now).estimate.at in
    record {
      waited = kept_counter (lowering r now) now r.last (waits_in r) least.0 (rebase_small r now due);
      emitted = kept_counter (lowering r now) now r.sent (is_acting_mode r.mode) least.1 (rebase_small r now due);
      moves = rebase_moves (lowering r now) now r.rates.ppm r.estimate set least.2;
    }

-- so a rebase changes no later answer
pub rebase_alike : (r : Registers) (now : ℕ) → floor_in r ≤ now → (later : List Call) → AnswersAlike (lowering r now) now later r (rebased r now)
rebase_alike r now due later =
    answers_alike (lowering r now) now later r (rebased r now) (rebased r now).last (rebased r now).sent (rebased r now).estimate
    (rebase_small r now due) refl (rebase_same r now due)

-- the same where the registers were opened, and closed again
pub rebase_answers : (old r new : Registers) (now by : ℕ) → r ≡ old → new ≡ rebased r now → by ≡ lowering r now → floor_in old ≤ now
    → (later : List Call) → AnswersAlike by now later old new
rebase_answers old r new now by same after lowers due later =
    subst (λ (b : ℕ). AnswersAlike b now later old new) (sym (lowers ∙ ap (λ (x : Registers). lowering x now) same))
    (subst (λ (x : Registers). AnswersAlike (lowering old now) now later old x) (sym (after ∙ ap (λ (x : Registers). rebased x now) same))
    (rebase_alike old now due later))
