-- Where two runs differ by the shift between them, no shift makes the second an opening for the first.
use Rattle.std.specs.Prelude.{◌≡◌, ◌≢◌, ℕ, zero, suc, ◌+◌, ◌<◌, Bool, true, false, List, length, Option, Some, None, option_map, IfSome, refl}
use Rattle.std.proofs.Common.{sym, ◌∙◌, ap, subst}
use Rattle.sd_plan.specs.topo.Network.{Network}
use Rattle.sd_plan.specs.declared.Duty.{Duty}
use Rattle.sd_plan.specs.declared.Plan.{Plan}
use Rattle.sd_device.specs.declared.msg.Stamp.{Stamp}
use Rattle.sd_device.specs.declared.registers.Registers.{Registers}
use Rattle.sd_device.specs.contracts.device.DeviceNode.TheImpl.{ghosts as device}
use Rattle.sd_history.specs.World.{setting_over, is_up, latest_reading, epoch_in_force}
use Rattle.sd_history.specs.Steps.{Step, seen_of, events_of, flight_count}
use Rattle.sd_history.specs.Nodes.{NodeStep, steps_of, node_in}
use Rattle.sd_history.proofs.Admitted.{run_is_admitted}
use Rattle.sd_history.proofs.Devices.{admitted_devices_run, admitted_devices_have_history}
use Rattle.sd_history.proofs.Given.{some_is}
use Rattle.sd_history.proofs.Known.{admitted_up_is_known}
use Rattle.sd_resume.specs.law.Shifts.{Shift, raised_epoch, raised_duty, raised_stamp}
use Rattle.sd_resume.specs.law.Likeness.{IsAlike, AreAlike}
use Rattle.sd_resume.specs.declared.differences.Difference.{Difference}
use Rattle.sd_resume.specs.declared.differences.Difference.TheVariants as difference
use Rattle.sd_resume.specs.declared.differences.Register.{Register}
use Rattle.sd_resume.specs.declared.differences.Register.TheVariants as register
use Rattle.sd_resume.specs.Devices.{NodesDiffer}
use Rattle.sd_resume.specs.Differences.{Differs, Opens}
use Rattle.sd_resume.specs.Told.{stamp_told, stamp_in, shift_between}
use Rattle.sd_resume.proofs.Told.{RaisesAll, told_plans, told_messages, told_too}

-- what is told of a stamp that is there
taken : (o : Option Duty) (s x : Stamp) → option_map (λ duty. s) o ≡ Some x → s ≡ x
taken (Some duty) s x is = some_is is
taken None s x is = cc

-- a device that is alike follows a plan in both, and its stamp is raised
alike_stamps : (shift : Shift) (now : ℕ) (r q : Registers) (x y : Stamp) → IsAlike shift now r q → option_map (λ duty. r.stamp) r.duty ≡ Some x
    → option_map (λ duty. q.stamp) q.duty ≡ Some y → x ≡ raised_stamp shift y
alike_stamps shift now r q x y alike first second =
    sym (taken r.duty r.stamp x first) ∙ ap (λ (k : Registers). k.stamp) alike.kept ∙ by q.duty alike.stamps second
    ∙ ap (raised_stamp shift) (taken q.duty q.stamp y second)
  where
    by : (o : Option Duty) → IfSome o (λ duty. alike.stamp ≡ raised_stamp shift q.stamp) → option_map (λ duty. q.stamp) o ≡ Some y
        → alike.stamp ≡ raised_stamp shift q.stamp
    by (Some duty) same there = same
    by None same there = cc

told_alike : (shift : Shift) (now : ℕ) (b b' : Bool) (o p : Option Registers) (x y : Stamp) → b ≡ b' → (b' ≡ true → AreAlike shift now o p)
    → stamp_told b o ≡ Some x → stamp_told b' p ≡ Some y → x ≡ raised_stamp shift y
told_alike shift now true true (Some r) (Some q) x y same alike first second = alike_stamps shift now r q x y (alike refl) first second
told_alike shift now true true (Some r) None x y same alike first second = cc
told_alike shift now true true None p x y same alike first second = cc
told_alike shift now true false o p x y same alike first second = cc
told_alike shift now false b' o p x y same alike first second = cc

module _ (net : Network) (front plans : List Plan) (one other : List (NodeStep Registers)) (shift : Shift) (opens : Opens shift net front plans one other) where
  abbrev between : Shift
  between = shift_between net front one other

  abbrev reading : ℕ → ℕ
  reading d = latest_reading (seen_of (steps_of other)) d

  raises : RaisesAll shift (stamp_in one) (stamp_in other)
  raises d x y first second =
      told_alike shift (reading d) (is_up (seen_of (steps_of one)) d) (is_up (seen_of (steps_of other)) d) (node_in one d) (node_in other d) x y
      (opens.opening.seen.up d) (opens.opening.devices d) first second

  plans_same : between.plans ≡ shift.plans
  plans_same =
      told_plans (length front) (flight_count (steps_of one)) (stamp_in one) (stamp_in other) (length net.devices) ∙ sym opens.opening.behind

  messages_same : between.messages ≡ flight_count (steps_of one)
  messages_same = told_messages (length front) (flight_count (steps_of one)) (stamp_in one) (stamp_in other) (length net.devices)

  epoch_same : (e : ℕ) → raised_epoch between e ≡ raised_epoch shift e
  epoch_same zero = refl
  epoch_same (suc e) = ap (λ n. suc e + n) plans_same

  duty_same : (o : Option Duty) → option_map (raised_duty between) o ≡ option_map (raised_duty shift) o
  duty_same None = refl
  duty_same (Some duty) = ap (λ n. Some (record duty { epoch = n })) (epoch_same duty.epoch)

  within : (d : ℕ) → is_up (seen_of (steps_of other)) d ≡ true → d < length net.devices
  within d up =
      admitted_up_is_known (setting_over net plans) (events_of (steps_of other))
      (admitted_devices_have_history (setting_over net plans) other (run_is_admitted device (setting_over net plans) other opens.opening.second_runs)) d
      (subst (λ (steps : List Step). is_up (seen_of steps) d ≡ true)
      (admitted_devices_run (setting_over net plans) other (run_is_admitted device (setting_over net plans) other opens.opening.second_runs)) up)

  -- the stamp of a device that is up is raised by the shift between the runs
  stamp_never : (d : ℕ) (o p : Option Registers) → is_up (seen_of (steps_of other)) d ≡ true → node_in one d ≡ o → node_in other d ≡ p
      → AreAlike shift (reading d) o p → NodesDiffer between (reading d) register.Stamp o p → ⊥
  stamp_never d (Some r) (Some q) up is is' alike h = by q.duty refl
    where
      by : (k : Option Duty) → q.duty ≡ k → ⊥
      by None none = h.0 none
      by (Some duty) some =
          h.1
          (told_too (length front) (flight_count (steps_of one)) (stamp_in one) (stamp_in other) shift raises (length net.devices) d r.stamp q.stamp
          (within d up)
          (ap (λ (b : Bool). stamp_told b (node_in one d)) (opens.opening.seen.up d ∙ up) ∙ ap (stamp_told true) is
          ∙ ap (option_map (λ (k : Duty). r.stamp)) (ap (λ (k : Registers). k.duty) alike.kept ∙ ap (option_map (raised_duty shift)) some))
          (ap (λ (b : Bool). stamp_told b (node_in other d)) up ∙ ap (stamp_told true) is' ∙ ap (option_map (λ (k : Duty). q.stamp)) some))
  stamp_never d (Some r) None up is is' alike h = alike
  stamp_never d None (Some q) up is is' alike h = alike
  stamp_never d None None up is is' alike h = alike

  -- in a register they differ by no shift
  register_never : (d : ℕ) (x : Register) (o p : Option Registers) → is_up (seen_of (steps_of other)) d ≡ true → node_in one d ≡ o → node_in other d ≡ p
      → (NodesDiffer shift (reading d) x o p → ⊥) → AreAlike shift (reading d) o p → NodesDiffer between (reading d) x o p → ⊥
  register_never d register.Stamp o p up is is' none alike h = stamp_never d o p up is is' alike h
  register_never d register.Duty (Some r) (Some q) up is is' none alike h = none (λ same. h (same ∙ sym (duty_same q.duty)))
  register_never d register.Given (Some r) (Some q) up is is' none alike h = none (λ same. h (same ∙ sym (duty_same q.given)))
  register_never d register.Mode (Some r) (Some q) up is is' none alike h = none h
  register_never d register.Sealed (Some r) (Some q) up is is' none alike h = none h
  register_never d register.Rates (Some r) (Some q) up is is' none alike h = none h
  register_never d register.Last (Some r) (Some q) up is is' none alike h = none h
  register_never d register.Sent (Some r) (Some q) up is is' none alike h = none h
  register_never d register.Estimate (Some r) (Some q) up is is' none alike h = none h
  register_never d x (Some r) None up is is' none alike h = alike
  register_never d x None (Some q) up is is' none alike h = alike
  register_never d x None None up is is' none alike h = alike

  -- they differ in nothing
  pub differ_never : (x : Difference) → Differs between one other x → ⊥
  differ_never difference.Network h = h
  differ_never difference.Window h = opens.same difference.Window h
  differ_never difference.Time h = opens.same difference.Time h
  differ_never difference.Plan h =
      opens.same difference.Plan
      (subst (λ (n : ℕ). epoch_in_force (seen_of (steps_of one)) ≢ epoch_in_force (seen_of (steps_of other)) + n) plans_same h)
  differ_never difference.End h = opens.same difference.End h
  differ_never difference.Messages h = h (sym messages_same)
  differ_never difference.Sent h = opens.same difference.Sent h
  differ_never (difference.OnItsWay number) h = opens.same (difference.OnItsWay number) h
  differ_never (difference.Up d) h = opens.same (difference.Up d) h
  differ_never (difference.Failed thing) h = opens.same (difference.Failed thing) h
  differ_never (difference.Reading d) h = opens.same (difference.Reading d) h
  differ_never (difference.Register d x) h =
      register_never d x (node_in one d) (node_in other d) h.0 refl refl (λ differ. opens.same (difference.Register d x) (h.0, differ))
      (opens.opening.devices d h.0) h.1
