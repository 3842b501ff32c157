-- Devices that agree go on agreeing: after an event that the rules admit, both runs go on, alike.
use Rattle.std.specs.Prelude.{◌≡◌, ℕ, zero, suc, ◌≤◌, Bool, true, false, ◌&&◌, ◌||◌, not, List, [], ◌∷◌, length, nat_eq, nat_le, nat_lt, Option, Some, None, is_some, IfSome, option_map, refl, if◌then◌else◌}
use Rattle.std.proofs.Common.{arith, sym, ◌∙◌, ap, subst}
use Rattle.std.proofs.lemmas.Bool.{eqb-true, eq-eqb}
use Rattle.sd_num.specs.Lists.{map_or, same_number}
use Rattle.sd_plan.specs.topo.Network.{Network, rates_of}
use Rattle.sd_plan.specs.declared.topo.Thing.TheVariants as thing
use Rattle.sd_plan.specs.declared.Plan.{Plan}
use Rattle.sd_plan.specs.declared.Duty.{Duty}
use Rattle.sd_plan.specs.declared.Edge.{Edge}
use Rattle.sd_plan.specs.Duties.{duty_of}
use Rattle.sd_num.specs.declared.clock.Estimate.{Estimate}
use Rattle.sd_num.specs.clock.Estimates.{estimate_at}
use Rattle.sd_device.specs.declared.msg.Flight.{Flight}
use Rattle.sd_device.specs.declared.msg.Stamp.{Stamp}
use Rattle.sd_device.specs.msg.Stamps.{stamp}
use Rattle.sd_device.specs.declared.registers.Registers.{Registers}
use Rattle.sd_device.specs.declared.registers.Mode.{Mode}
use Rattle.sd_device.specs.declared.registers.Mode.TheVariants.{Primary, Backup, Acting, Idle}
use Rattle.sd_device.specs.Calls as calls
use Rattle.sd_device.specs.Calls.{Call}
use Rattle.sd_device.specs.Words as words
use Rattle.sd_device.specs.Lives.{past_of}
use Rattle.sd_device.specs.Rules.{made, called, report_in, acts_in, follows_a_plan, is_acting_mode}
use Rattle.sd_sched.specs.declared.Event.{Event}
use Rattle.sd_sched.specs.declared.Event.TheVariants as event
use Rattle.sd_sched.specs.Events.{device_of, counter_of, message_of}
use Rattle.sd_history.specs.Things.{failure_of, mended}
use Rattle.sd_history.specs.World.{Setting, setting_over, Seen, makes, fails, is_up, latest_reading, staged, staged_epoch}
use Rattle.sd_history.specs.Steps as steps
use Rattle.sd_history.specs.Steps.{Act, Makes, Calls, Asks, Passes, Told, tells_nothing, tells_made, tells_called, Step, seen_of, events_of, changed, answers_in, act_by, flight_numbered, flight_count, step_of}
use Rattle.sd_history.specs.Refusals.{makes_some}
use Rattle.sd_history.specs.Chronicle.{past_in}
use Rattle.sd_history.specs.Nodes.{answers_of, NodeStep, steps_of, node_in, node_before, Allows, Follows}
use Rattle.sd_history.specs.Admitted.{Admits, IsAdmittedRun}
use Rattle.sd_history.proofs.Among.{first}
use Rattle.sd_history.proofs.Clear.{clear}
use Rattle.sd_history.proofs.Given.{some_is}
use Rattle.sd_history.proofs.Known.{up_case}
use Rattle.sd_history.proofs.Owned.{OwnPast, rates_are_own}
use Rattle.sd_history.proofs.Owning.{own_pasts}
use Rattle.sd_history.proofs.Bridges.{past_of_life}
use Rattle.sd_history.proofs.Readings.{grows, not_falling, admitted_goes_forward}
use Rattle.sd_history.proofs.Exactness.{Lives, run_goes}
use Rattle.sd_history.proofs.Devices.{admitted_devices_run}
use Rattle.sd_device.proofs.Exactness.{device_is_exact}
use Rattle.sd_device.specs.Standing.{StandsFor}
use Rattle.sd_device.specs.contracts.device.DeviceNode.TheImpl.{ghosts as device}
use Rattle.sd_history.specs.Lives.{tells_report, life_in}
use Rattle.sd_device.proofs.Orderly.{latest_with}
use Rattle.sd_resume.specs.law.Shifts.{Shift, raised_epoch, raised_duty, raised_call, raised_event, raised_registers}
use Rattle.sd_resume.specs.law.Likeness.{IsAlike, AreAlike}
use Rattle.sd_resume.specs.law.Agreement.{raised_answers, raised_told, raised_act, MayFollow, Agree}
use Rattle.sd_resume.proofs.law.Calls.{IsCommittable, IsOrderlyCall, AreAlikeAfter, called_alike}
use Rattle.sd_resume.specs.law.Law.{whole, NamesSome}
use Rattle.sd_resume.proofs.law.Acts.{act_same}
use Rattle.sd_resume.proofs.law.Stepping.{makes_changes, agree_after}

-- What devices that are alike answer

same_follows : (shift : Shift) (epoch : ℕ) → nat_le 1 (raised_epoch shift epoch) ≡ nat_le 1 epoch
same_follows shift epoch = go epoch shift.plans
  where
    go : (epoch k : ℕ) → nat_le 1 (raised_epoch (record { plans = k; messages = shift.messages; term = shift.term; round = shift.round }) epoch) ≡ nat_le 1 epoch
    go zero k = refl
    go (suc n) k = grind arith

answers_raised : (shift : Shift) (r : Registers) (duty : Option Duty) (mode : Mode) (last sent : ℕ) (other : Stamp) (estimate : Estimate)
    → answers_of device (raised_registers shift (record r { duty = duty; mode = mode }) last sent other estimate)
    ≡ raised_answers shift (answers_of device (record r { duty = duty; mode = mode }))
answers_raised shift r None mode last sent other estimate = refl
answers_raised shift r (Some d) Primary last sent other estimate =
    ap (λ b. record {
      parent = if b then option_map (λ (edge : Edge). edge.parent) d.primary else None;
      acts = if b then false else false;
      epoch = raised_epoch shift d.epoch;
      given = option_map (raised_duty shift) r.given;
      sealed = r.sealed;
    }) (same_follows shift d.epoch)
answers_raised shift r (Some d) Backup last sent other estimate =
    ap (λ b. record {
      parent = if b then option_map (λ (edge : Edge). edge.parent) d.backup else None;
      acts = if b then false else false;
      epoch = raised_epoch shift d.epoch;
      given = option_map (raised_duty shift) r.given;
      sealed = r.sealed;
    }) (same_follows shift d.epoch)
answers_raised shift r (Some d) Acting last sent other estimate =
    ap (λ b. record {
      parent = if b then None else None;
      acts = if b then true else false;
      epoch = raised_epoch shift d.epoch;
      given = option_map (raised_duty shift) r.given;
      sealed = r.sealed;
    }) (same_follows shift d.epoch)
answers_raised shift r (Some d) Idle last sent other estimate =
    ap (λ b. record {
      parent = if b then None else None;
      acts = if b then false else false;
      epoch = raised_epoch shift d.epoch;
      given = option_map (raised_duty shift) r.given;
      sealed = r.sealed;
    }) (same_follows shift d.epoch)

pub answers_alike : (shift : Shift) (now : ℕ) (one r : Registers) → IsAlike shift now one r → answers_of device one ≡ raised_answers shift (answers_of device r)
answers_alike shift now one r alike = ap (answers_of device) alike.kept ∙ answers_raised shift r r.duty r.mode alike.last alike.sent alike.stamp alike.estimate

-- later on, devices that were alike are
later_alike : (shift : Shift) (now at : ℕ) (one other : Option Registers) → now ≤ at → AreAlike shift now one other → AreAlike shift at one other
later_alike shift now at (Some one) (Some other) due alike =
    record {
      last = alike.last;
      sent = alike.sent;
      stamp = alike.stamp;
      estimate = alike.estimate;
      kept = alike.kept;
      waited = alike.waited;
      emitted = alike.emitted;
      stamps = alike.stamps;
      reports = λ counter h. alike.reports counter (omega (arith, due, h));
    }
later_alike shift now at (Some one) None due alike = absurd alike
later_alike shift now at None (Some other) due alike = absurd alike
later_alike shift now at None None due alike = absurd alike

-- What a device of a run answers

told_answers : (before : Option Registers) (act : Act) (told : Told) (after : Option Registers) (d : ℕ) → Allows device before act told after
    → same_number (changed act) d ≡ true → told.answers ≡ option_map (answers_of device) after
told_answers before (Makes m making) told after d allowed is = ap (λ t. t.answers) allowed.tells ∙ sym (ap (option_map (answers_of device)) allowed.left)
told_answers before (Calls m call) told after d allowed is = ap (λ t. t.answers) allowed.tells ∙ sym (ap (option_map (answers_of device)) allowed.left)
told_answers before (Asks m counter) told after d allowed is = cc
told_answers before Passes told after d allowed is = cc

pub answers_are_nodes : (setting : Setting) (run : List (NodeStep Registers)) → IsAdmittedRun device setting run → (d : ℕ)
    → answers_in (steps_of run) d ≡ option_map (answers_of device) (node_in run d)
answers_are_nodes setting [] is d = refl
answers_are_nodes setting (x ∷ earlier) is d =
    go (same_number (changed x.step.act) d) refl (answers_are_nodes setting earlier is.0 d)
  where
    go : (b : Bool) → same_number (changed x.step.act) d ≡ b → answers_in (steps_of earlier) d ≡ option_map (answers_of device) (node_in earlier d)
        → map_or (if b then Some x.step.told.answers else None) (answers_in (steps_of earlier) d) (λ t. t)
        ≡ option_map (answers_of device) (map_or (if b then Some x.node else None) (node_in earlier d) (λ t. t))
    go true here same = told_answers (node_before earlier x.step.act) x.step.act x.step.told x.node d is.2.allowed here
    go false apart same = same

-- Both runs go on with an event and its raised one, at which the same is told, and agree.
pub record GoesOn (shift : Shift) (whole part : Setting) (one other : List (NodeStep Registers)) (e : Event) : Type 0 where
  pub told : Told
  pub first : NodeStep Registers
  pub second : NodeStep Registers
  pub first_is : first.step ≡ step_of whole (steps_of one) (raised_event shift e) (raised_told shift told)
  pub second_is : second.step ≡ step_of part (steps_of other) e told
  pub first_follows : Follows device whole one first
  pub second_follows : Follows device part other second
  pub agree : Agree shift (first ∷ one) (second ∷ other)

-- Both go on

changed_raised : (shift : Shift) (a : Act) → changed (raised_act shift a) ≡ changed a
changed_raised shift (Makes d making) = refl
changed_raised shift _ = refl

-- the latest reading of a device, with an event
abbrev reading_with : List Seen → Event → ℕ → ℕ
reading_with seen e d = map_or (if same_number (device_of e) d then counter_of e else None) (latest_reading seen d) (λ told. told)

module _ (shift : Shift) (net : Network) (front plans : List Plan) (behind : shift.plans ≡ length front) (one other : List (NodeStep Registers))
    (agree : Agree shift one other) (e : Event) (some : NamesSome e) where
  abbrev seen : List Seen
  seen = seen_of (steps_of other)

  -- the two of an act that both kinds of device allow
  both : (a : Act) → act_by (setting_over net plans) (steps_of other) e ≡ a → (told : Told) (n m : Option Registers)
      → Allows device (node_before one (raised_act shift a)) (raised_act shift a) (raised_told shift told) n
      → Allows device (node_before other a) a told m
      → ((d : ℕ) → same_number (changed a) d ≡ true → AreAlike shift (reading_with seen e d) n m)
      → ((d : ℕ) → same_number (changed a) d ≡ false → latest_reading seen d ≤ reading_with seen e d)
      → GoesOn shift (whole net front plans) (setting_over net plans) one other e
  both a is told n m allowed_one allowed_other here apart =
      record {
        told = told;
        first = record { step = step_of (whole net front plans) (steps_of one) (raised_event shift e) (raised_told shift told); node = n };
        second = record { step = step_of (setting_over net plans) (steps_of other) e told; node = m };
        first_is = refl;
        second_is = refl;
        first_follows = record {
          is = refl;
          allowed = subst (λ b. Allows device (node_before one b) b (raised_told shift told) n) (sym act_is) allowed_one;
        };
        second_follows = record { is = refl; allowed = subst (λ b. Allows device (node_before other b) b told m) (sym is) allowed_other };
        agree = record {
          steps = agree_after shift net front plans behind (steps_of one) (steps_of other) agree.steps e some told;
          devices = devices;
        };
      }
    where
      act_is : act_by (whole net front plans) (steps_of one) (raised_event shift e) ≡ raised_act shift a
      act_is = act_same shift net front plans behind (steps_of one) (steps_of other) agree.steps e some ∙ ap (raised_act shift) is

      by : (d : ℕ) (b : Bool) → same_number (changed a) d ≡ b
          → map_or (if makes d e then Some true else if fails (thing.Device d) e then Some false else None) (is_up seen d) (λ t. t) ≡ true
          → AreAlike shift (reading_with seen e d) (map_or (if b then Some n else None) (node_in one d) (λ t. t)) (map_or (if b then Some m else None) (node_in other d) (λ t. t))
      by d true changes up = here d changes
      by d false changes up =
          later_alike shift (latest_reading seen d) (reading_with seen e d) (node_in one d) (node_in other d) (apart d changes)
          (agree.devices d (up_case (makes d e) (fails (thing.Device d) e) (is_up seen d) up (unmade (makes d e) refl)))
        where
          unmade : (b : Bool) → makes d e ≡ b → makes d e ≡ false
          unmade false made_ = made_
          unmade true made_ =
              let yes : same_number (changed a) d ≡ true =
              sym (ap (λ b. same_number (changed b) d) is) ∙ makes_changes (setting_over net plans) (steps_of other) e d made_ in
              cc

      devices : (d : ℕ) → map_or (if makes d e then Some true else if fails (thing.Device d) e then Some false else None) (is_up seen d) (λ t. t) ≡ true
          → AreAlike shift (reading_with seen e d)
          (map_or (if same_number (changed (act_by (whole net front plans) (steps_of one) (raised_event shift e))) d then Some n else None) (node_in one d) (λ t. t))
          (map_or (if same_number (changed (act_by (setting_over net plans) (steps_of other) e)) d then Some m else None) (node_in other d) (λ t. t))
      devices d up =
          subst (λ b. AreAlike shift (reading_with seen e d)
          (map_or (if same_number (changed b) d then Some n else None) (node_in one d) (λ t. t))
          (map_or (if same_number (changed (act_by (setting_over net plans) (steps_of other) e)) d then Some m else None) (node_in other d) (λ t. t)))
          (sym act_is)
          (subst (λ b. AreAlike shift (reading_with seen e d)
          (map_or (if same_number (changed (raised_act shift a)) d then Some n else None) (node_in one d) (λ t. t))
          (map_or (if same_number (changed b) d then Some m else None) (node_in other d) (λ t. t)))
          (sym is)
          (subst (λ o. AreAlike shift (reading_with seen e d)
          (map_or (if same_number o d then Some n else None) (node_in one d) (λ t. t))
          (map_or (if same_number (changed a) d then Some m else None) (node_in other d) (λ t. t)))
          (sym (changed_raised shift a))
          (by d (same_number (changed a) d) refl up)))

  -- a reading does not fall
  grow : Admits (setting_over net plans) (steps_of other) e → makes_some e ≡ false → (d : ℕ) → latest_reading seen d ≤ reading_with seen e d
  grow admits calls_ d =
      grows (same_number (device_of e) d) (counter_of e) (latest_reading seen d)
      (λ c named reads. not_falling (makes_some e) (device_of e) (counter_of e) (latest_reading seen)
      (admitted_goes_forward (setting_over net plans) (steps_of other) e admits) calls_ d c named reads)

  -- a device that is called or asked is up
  is_there : Admits (setting_over net plans) (steps_of other) e → (makes_some e || is_some (failure_of e) || is_some (mended e)) ≡ false
      → (m : ℕ) → device_of e ≡ Some m → is_up seen m ≡ true
  is_there admits addresses m named =
      go (makes_some e || is_some (failure_of e) || is_some (mended e)) (device_of e)
      (clear (setting_over net plans) (steps_of other) e admits).device_up
      addresses named
    where
      up : (b : Bool) → not b ≡ false → b ≡ true
      up true is = refl
      up false is = cc

      go : (b : Bool) (o : Option ℕ) → (not b && map_or o false (λ d. not (is_up seen d))) ≡ false → b ≡ false → o ≡ Some m → is_up seen m ≡ true
      go true o rule none is = cc
      go false None rule none is = cc
      go false (Some d) rule none is = subst (λ x. is_up seen x ≡ true) (some_is is) (up (is_up seen d) rule)

  -- an event that calls a device
  calling : Admits (setting_over net plans) (steps_of other) e → (m : ℕ) (call : Call) → act_by (setting_over net plans) (steps_of other) e ≡ Calls m call
      → (makes_some e || is_some (failure_of e) || is_some (mended e)) ≡ false → makes_some e ≡ false → device_of e ≡ Some m
      → counter_of e ≡ words.counter_of call → ((r : Registers) → node_in other m ≡ Some r → IsOrderlyCall r call)
      → GoesOn shift (whole net front plans) (setting_over net plans) one other e
  calling admits m call is addresses calls_ named reads orderly =
      go (node_in one m) (node_in other m) refl refl (agree.devices m (is_there admits addresses m named))
    where
      due : (o : Option ℕ) → words.counter_of call ≡ o → IfSome o (λ c. latest_reading seen m ≤ c)
      due None has = tt
      due (Some c) has =
          not_falling (makes_some e) (device_of e) (counter_of e) (latest_reading seen)
          (admitted_goes_forward (setting_over net plans) (steps_of other) e admits) calls_ m c (ap (λ o. same_number o m) named ∙ eq-eqb m m refl) (reads ∙ has)

      reading : reading_with seen e m ≡ latest_with call (latest_reading seen m)
      reading =
          ap (λ o. map_or (if same_number o m then counter_of e else None) (latest_reading seen m) (λ t. t)) named
          ∙ ap (λ b. map_or (if b then counter_of e else None) (latest_reading seen m) (λ t. t)) (eq-eqb m m refl)
          ∙ ap (λ o. map_or o (latest_reading seen m) (λ t. t)) reads

      go : (o p : Option Registers) → node_in one m ≡ o → node_in other m ≡ p → AreAlike shift (latest_reading seen m) o p
          → GoesOn shift (whole net front plans) (setting_over net plans) one other e
      go (Some s) None one_is other_is alike = absurd alike
      go None (Some r) one_is other_is alike = absurd alike
      go None None one_is other_is alike = absurd alike
      go (Some s) (Some r) one_is other_is alike =
          let after : AreAlikeAfter shift (latest_with call (latest_reading seen m)) (called s (raised_call shift call)) (called r call) =
          called_alike shift (latest_reading seen m) s r call (due (words.counter_of call) refl) (orderly r other_is) alike in
          both (Calls m call) is (tells_called (called r call).1 (answers_of device (called r call).0)) (Some (called s (raised_call shift call)).0) (Some (called r call).0)
          (record {
            old = s;
            node = (called s (raised_call shift call)).0;
            effect = (called s (raised_call shift call)).1;
            there = one_is;
            stepped = refl;
            tells =
                ap (λ effect. tells_called effect (raised_answers shift (answers_of device (called r call).0))) (sym after.sends)
                ∙ ap (tells_called (called s (raised_call shift call)).1)
                (sym (answers_alike shift (latest_with call (latest_reading seen m)) (called s (raised_call shift call)).0 (called r call).0 after.alike));
            left = refl;
          })
          (record { old = r; node = (called r call).0; effect = (called r call).1; there = other_is; stepped = refl; tells = refl; left = refl })
          (λ d here. subst (λ x. AreAlike shift (reading_with seen e x) (Some (called s (raised_call shift call)).0) (Some (called r call).0)) (eqb-true m d here)
          (subst (λ x. IsAlike shift x (called s (raised_call shift call)).0 (called r call).0) (sym reading) after.alike))
          (λ d away. grow admits calls_ d)

  -- an event that asks a device
  asking : Admits (setting_over net plans) (steps_of other) e → (m c : ℕ) → act_by (setting_over net plans) (steps_of other) e ≡ Asks m c
      → (makes_some e || is_some (failure_of e) || is_some (mended e)) ≡ false → makes_some e ≡ false → device_of e ≡ Some m → counter_of e ≡ Some c
      → GoesOn shift (whole net front plans) (setting_over net plans) one other e
  asking admits m c is addresses calls_ named reads =
      go (node_in one m) (node_in other m) refl refl (agree.devices m (is_there admits addresses m named))
    where
      due : latest_reading seen m ≤ c
      due =
          not_falling (makes_some e) (device_of e) (counter_of e) (latest_reading seen)
          (admitted_goes_forward (setting_over net plans) (steps_of other) e admits) calls_ m c (ap (λ o. same_number o m) named ∙ eq-eqb m m refl) reads

      go : (o p : Option Registers) → node_in one m ≡ o → node_in other m ≡ p → AreAlike shift (latest_reading seen m) o p
          → GoesOn shift (whole net front plans) (setting_over net plans) one other e
      go (Some s) None one_is other_is alike = absurd alike
      go None (Some r) one_is other_is alike = absurd alike
      go None None one_is other_is alike = absurd alike
      go (Some s) (Some r) one_is other_is alike =
          let same : report_in s c ≡ report_in r c = ap (λ (x : Registers). report_in x c) alike.kept ∙ alike.reports c due in
          both (Asks m c) is (tells_report (report_in r c)) None None
          (record { node = s; report = report_in s c; there = one_is; reported = refl; tells = ap tells_report (sym same); left = refl })
          (record { node = r; report = report_in r c; there = other_is; reported = refl; tells = refl; left = refl })
          (λ d here. cc)
          (λ d away. grow admits calls_ d)

  -- an event that passes the devices
  passing : Admits (setting_over net plans) (steps_of other) e → act_by (setting_over net plans) (steps_of other) e ≡ Passes → makes_some e ≡ false
      → GoesOn shift (whole net front plans) (setting_over net plans) one other e
  passing admits is calls_ = both Passes is tells_nothing None None (refl, refl) (refl, refl) (λ d here. cc) (λ d away. grow admits calls_ d)

  -- a join
  joining : (m counter clock eps : ℕ) → act_by (setting_over net plans) (steps_of other) e ≡ Makes m (calls.Joined (rates_of net m) counter clock eps)
      → device_of e ≡ Some m → GoesOn shift (whole net front plans) (setting_over net plans) one other e
  joining m counter clock eps is named =
      both (Makes m (calls.Joined (rates_of net m) counter clock eps)) is (tells_made (answers_of device (made (calls.Joined (rates_of net m) counter clock eps)))) (Some (made (calls.Joined (rates_of net m) counter clock eps))) (Some (made (calls.Joined (rates_of net m) counter clock eps)))
      (record { node = made (calls.Joined (rates_of net m) counter clock eps); made = refl; tells = refl; left = refl })
      (record { node = made (calls.Joined (rates_of net m) counter clock eps); made = refl; tells = refl; left = refl })
      (λ d here. record { last = counter; sent = counter; waited = λ need. refl; emitted = λ acts. refl; stamp = stamp 0 0; estimate = estimate_at clock eps counter; kept = refl; stamps = tt; reports = λ at due. refl })
      (λ d away. same_reading d away)
    where
      same_reading : (d : ℕ) → nat_eq m d ≡ false → latest_reading seen d ≤ reading_with seen e d
      same_reading d away =
          let other_device : same_number (device_of e) d ≡ false = ap (λ o. same_number o d) named ∙ away in
          grows (same_number (device_of e) d) (counter_of e) (latest_reading seen d) (λ c here reads. cc)

-- Which commits are orderly: a device that acts has a duty, and all its duties have its own rates.

committable : (setting : Setting) (run : List (NodeStep Registers)) → IsAdmittedRun device setting run → (m : ℕ) (r : Registers) → node_in run m ≡ Some r
    → steps.acts_in (steps_of run) m ≡ true → IsCommittable r
committable setting run is m r here acting =
    let acts : acts_in r ≡ true = by_answers (is_up (seen_of (steps_of run)) m) (answers_are_nodes setting run is m ∙ ap (option_map (answers_of device)) here) acting in
    let two : (follows_a_plan r ≡ true) × (is_acting_mode r.mode ≡ true) = split (follows_a_plan r) (is_acting_mode r.mode) acts in
    record { acts = two.1; has = has_duty r.duty two.0; rates = λ duty given. rates duty given }
  where
    by_answers : (up : Bool) → answers_in (steps_of run) m ≡ Some (answers_of device r)
        → map_or (if up then answers_in (steps_of run) m else None) false (λ a. a.acts) ≡ true → acts_in r ≡ true
    by_answers false answers acts = cc
    by_answers true answers acts = sym (ap (λ a. map_or a false (λ x. x.acts)) answers) ∙ acts

    split : (a b : Bool) → (if a then b else false) ≡ true → (a ≡ true) × (b ≡ true)
    split true b is = (refl, is)
    split false b is = cc

    has_duty : (o : Option Duty) → nat_le 1 (map_or o 0 (λ d. d.epoch)) ≡ true → (duty : Duty) × (o ≡ Some duty)
    has_duty None follows = cc
    has_duty (Some duty) follows = (duty, refl)

    lives : Lives StandsFor (life_in (steps_of run) m) r
    lives = (run_goes device StandsFor device_is_exact setting run is).live m r here

    own : OwnPast setting.net m (past_of lives.life)
    own =
        own_pasts setting (events_of (steps_of run)) m (past_of lives.life)
        (sym (ap (λ s. past_in s m) (admitted_devices_run setting run is)) ∙ past_of_life (steps_of run) m ∙ ap (option_map past_of) lives.is)

    rates : (duty : Duty) → r.given ≡ Some duty → duty.rates ≡ r.rates
    rates duty given =
        (own.duties.given duty (sym (ap (λ (x : Registers). x.given) lives.stands.are) ∙ given)).rates
        ∙ sym (rates_are_own setting.net m (past_of lives.life) own)
        ∙ sym (ap (λ (x : Registers). x.rates) lives.stands.are)

pub names_some : (setting : Setting) (steps : List Step) (e : Event) → Admits setting steps e → NamesSome e
names_some setting steps e admits n names =
    go (message_of e) (clear setting steps e admits).message_known names
  where
    by : (n : ℕ) (b : Bool) → (nat_eq n 0 || b) ≡ false → 1 ≤ n
    by zero b known = cc
    by (suc n) b known = omega arith

    go : (o : Option ℕ) → map_or o false (λ n. nat_eq n 0 || nat_lt (flight_count steps) n) ≡ false → o ≡ Some n → 1 ≤ n
    go None known is = cc
    go (Some m) known is = subst (λ x. 1 ≤ x) (some_is is) (by m (nat_lt (flight_count steps) m) known)

module _ (shift : Shift) (net : Network) (front plans : List Plan) (behind : shift.plans ≡ length front) (one other : List (NodeStep Registers))
    (runs : IsAdmittedRun device (setting_over net plans) other) (agree : Agree shift one other) where
  abbrev On : Event → Type 0
  On e = GoesOn shift (whole net front plans) (setting_over net plans) one other e

  received_on : (reference d counter message : ℕ) → Admits (setting_over net plans) (steps_of other) (event.Recv reference d counter message)
      → (o : Option Flight) → flight_numbered (steps_of other) message ≡ o → On (event.Recv reference d counter message)
  received_on reference d counter message admits None found =
      passing shift net front plans behind one other agree (event.Recv reference d counter message)
      (names_some (setting_over net plans) (steps_of other) (event.Recv reference d counter message) admits) admits
      (ap (λ o. map_or o Passes (λ f. Calls d (calls.Receive f.link f.message counter))) found) refl
  received_on reference d counter message admits (Some f) found =
      calling shift net front plans behind one other agree (event.Recv reference d counter message)
      (names_some (setting_over net plans) (steps_of other) (event.Recv reference d counter message) admits) admits d (calls.Receive f.link f.message counter)
      (ap (λ o. map_or o Passes (λ g. Calls d (calls.Receive g.link g.message counter))) found) refl refl refl refl (λ r here. tt)

  given_on : (reference d : ℕ) → Admits (setting_over net plans) (steps_of other) (event.Give reference d)
      → (o : Option Plan) → staged (setting_over net plans) (seen_of (steps_of other)) ≡ o → On (event.Give reference d)
  given_on reference d admits None found =
      passing shift net front plans behind one other agree (event.Give reference d)
      (names_some (setting_over net plans) (steps_of other) (event.Give reference d) admits) admits
      (ap (λ o. map_or o Passes (λ plan. Calls d (calls.Give (duty_of net plan (staged_epoch (seen_of (steps_of other))) d)))) found) refl
  given_on reference d admits (Some plan) found =
      calling shift net front plans behind one other agree (event.Give reference d)
      (names_some (setting_over net plans) (steps_of other) (event.Give reference d) admits) admits d
      (calls.Give (duty_of net plan (staged_epoch (seen_of (steps_of other))) d))
      (ap (λ o. map_or o Passes (λ p. Calls d (calls.Give (duty_of net p (staged_epoch (seen_of (steps_of other))) d)))) found) refl refl refl refl (λ r here. tt)

  -- Both go on with an event that the rules admit, and that may follow.
  pub goes_on : (e : Event) → MayFollow (steps_of other) e → Admits (setting_over net plans) (steps_of other) e → On e
  goes_on (event.Start reference d counter clock eps) may admits = let none : Some d ≡ None = may.start in cc
  goes_on (event.Join reference d counter clock eps) may admits =
      joining shift net front plans behind one other agree (event.Join reference d counter clock eps)
      (names_some (setting_over net plans) (steps_of other) (event.Join reference d counter clock eps) admits) d counter clock eps refl refl
  goes_on (event.Tick reference d counter) may admits =
      calling shift net front plans behind one other agree (event.Tick reference d counter)
      (names_some (setting_over net plans) (steps_of other) (event.Tick reference d counter) admits) admits d (calls.Tick counter) refl refl refl refl refl
      (λ r here. tt)
  goes_on (event.Recv reference d counter message) may admits =
      received_on reference d counter message admits (flight_numbered (steps_of other) message) refl
  goes_on (event.Fix reference d counter clock eps) may admits =
      calling shift net front plans behind one other agree (event.Fix reference d counter clock eps)
      (names_some (setting_over net plans) (steps_of other) (event.Fix reference d counter clock eps) admits) admits d (calls.Fix counter clock eps) refl refl refl
      refl refl (λ r here. tt)
  goes_on (event.Give reference d) may admits = given_on reference d admits (staged (setting_over net plans) (seen_of (steps_of other))) refl
  goes_on (event.Commit reference d counter) may admits =
      calling shift net front plans behind one other agree (event.Commit reference d counter)
      (names_some (setting_over net plans) (steps_of other) (event.Commit reference d counter) admits) admits d (calls.Commit counter) refl refl refl refl refl
      (λ r here. committable (setting_over net plans) other runs d r here (may.commit refl))
  goes_on (event.Seal reference d) may admits =
      calling shift net front plans behind one other agree (event.Seal reference d)
      (names_some (setting_over net plans) (steps_of other) (event.Seal reference d) admits) admits d calls.Seal refl refl refl refl refl (λ r here. tt)
  goes_on (event.Ask reference d counter) may admits =
      asking shift net front plans behind one other agree (event.Ask reference d counter)
      (names_some (setting_over net plans) (steps_of other) (event.Ask reference d counter) admits) admits d counter refl refl refl refl refl
  goes_on (event.Lose reference message) may admits =
      passing shift net front plans behind one other agree (event.Lose reference message)
      (names_some (setting_over net plans) (steps_of other) (event.Lose reference message) admits) admits refl refl
  goes_on (event.FailDevice reference d) may admits =
      passing shift net front plans behind one other agree (event.FailDevice reference d)
      (names_some (setting_over net plans) (steps_of other) (event.FailDevice reference d) admits) admits refl refl
  goes_on (event.FailLink reference link) may admits =
      passing shift net front plans behind one other agree (event.FailLink reference link)
      (names_some (setting_over net plans) (steps_of other) (event.FailLink reference link) admits) admits refl refl
  goes_on (event.Stage reference) may admits =
      passing shift net front plans behind one other agree (event.Stage reference)
      (names_some (setting_over net plans) (steps_of other) (event.Stage reference) admits) admits refl refl
  goes_on (event.MendDevice reference d) may admits =
      passing shift net front plans behind one other agree (event.MendDevice reference d)
      (names_some (setting_over net plans) (steps_of other) (event.MendDevice reference d) admits) admits refl refl
  goes_on (event.MendLink reference link) may admits =
      passing shift net front plans behind one other agree (event.MendLink reference link)
      (names_some (setting_over net plans) (steps_of other) (event.MendLink reference link) admits) admits refl refl
  goes_on (event.End reference) may admits =
      passing shift net front plans behind one other agree (event.End reference)
      (names_some (setting_over net plans) (steps_of other) (event.End reference) admits) admits refl refl
