-- Devices that agree at a counter are alike from it on.
use Rattle.std.specs.Prelude.{◌≡◌, ℕ, ◌≤◌, Bool, true, false, Option, Some, None, max, option_map, refl, if◌then◌else◌}
use Rattle.std.proofs.Common.{arith, sym, ◌∙◌, ap, subst}
use Rattle.sd_num.specs.declared.Rates.{Rates}
use Rattle.sd_num.specs.declared.clock.Estimate.{Estimate}
use Rattle.sd_num.specs.clock.Estimates.{report_of}
use Rattle.sd_num.specs.clock.Advances.{advanced}
use Rattle.sd_plan.specs.declared.Duty.{Duty}
use Rattle.sd_device.specs.declared.registers.Registers.{Registers}
use Rattle.sd_device.specs.declared.registers.Mode.{Mode}
use Rattle.sd_device.specs.declared.registers.Mode.TheVariants.{Primary, Backup, Acting, Idle}
use Rattle.sd_device.specs.Rules.{is_acting_mode}
use Rattle.sd_device.specs.Rebases.{waits_in}
use Rattle.sd_num.proofs.clock.Advance.{advanced_reports}
use Rattle.sd_resume.specs.law.Shifts.{Shift, raised_duty}
use Rattle.sd_resume.specs.law.Likeness.{IsAlike, AreAlike}
use Rattle.sd_resume.specs.Devices.{DevicesAgree, NodesAgree}

-- a silence makes both move or take over, or neither
waits_same : (shift : Shift) (one other : Registers) → one.mode ≡ other.mode → one.duty ≡ option_map (raised_duty shift) other.duty
    → waits_in one ≡ waits_in other
waits_same shift one other mode duty =
    subst (λ (m : Mode). waits_in one ≡ waits_in (record other { mode = m })) mode
    (subst (λ (o : Option Duty). waits_in (record one { duty = o }) ≡ waits_in (record other { mode = one.mode })) (sym duty) (by one.mode other.duty))
  where
    by : (m : Mode) (o : Option Duty)
        → waits_in (record one { mode = m; duty = option_map (raised_duty shift) o }) ≡ waits_in (record other { mode = m; duty = o })
    by Primary None = refl
    by Primary (Some duty') = refl
    by Backup None = refl
    by Backup (Some duty') = refl
    by Acting o = refl
    by Idle o = refl

-- registers with the same fields are the same
kept_same : (one : Registers) (duty given : Option Duty) (mode : Mode) (sealed : Bool) (rates : Rates) → one.duty ≡ duty → one.given ≡ given
    → one.mode ≡ mode → one.sealed ≡ sealed → one.rates ≡ rates
    → one ≡ record one { duty = duty; given = given; mode = mode; sealed = sealed; rates = rates }
kept_same one duty given mode sealed rates a b c d e = rw (← a, ← b, ← c, ← d, ← e) refl

-- the counter, where it is needed
needed : (now kept other : ℕ) (b b' : Bool) → b ≡ b' → (if b then kept else now) ≡ (if b' then other else now) → b' ≡ true → kept ≡ other
needed now kept other true true same h is = h
needed now kept other true false same h is = cc
needed now kept other false true same h is = cc
needed now kept other false false same h is = cc

set_by : (now last sent at : ℕ) → max (max last sent) at ≤ now → at ≤ now
set_by now last sent at low = omega (arith, low)

alike : (shift : Shift) (now : ℕ) (one other : Registers) → DevicesAgree shift now one other → IsAlike shift now one other
alike shift now one other h =
    record {
      last = one.last;
      sent = one.sent;
      stamp = one.stamp;
      estimate = one.estimate;
      kept = kept_same one (option_map (raised_duty shift) other.duty) (option_map (raised_duty shift) other.given) other.mode other.sealed other.rates
          h.registers.duty h.registers.given h.registers.others.mode h.registers.others.sealed h.registers.others.rates;
      waited = needed now one.last other.last (waits_in one) (waits_in other)
          (waits_same shift one other h.registers.others.mode h.registers.duty) h.registers.others.last;
      emitted = needed now one.sent other.sent (is_acting_mode one.mode) (is_acting_mode other.mode)
          (ap is_acting_mode h.registers.others.mode) h.registers.others.sent;
      stamps = h.registers.stamp;
      reports = λ counter due. reports counter due;
    }
  where
    reports : (counter : ℕ) → now ≤ counter → report_of other.rates one.estimate counter ≡ report_of other.rates other.estimate counter
    reports counter due =
        ap (λ (rates : Rates). report_of rates one.estimate counter) (sym h.registers.others.rates)
        ∙ sym (advanced_reports one.rates one.estimate now counter (set_by now one.last one.sent one.estimate.at h.floor) due)
        ∙ ap (λ (e : Estimate). report_of one.rates e counter) h.registers.others.estimate
        ∙ ap (λ (rates : Rates). report_of rates (advanced other.rates other.estimate now) counter) h.registers.others.rates
        ∙ advanced_reports other.rates other.estimate now counter (set_by now other.last other.sent other.estimate.at h.floor_other) due

-- of two that are there
pub nodes_alike : (shift : Shift) (now : ℕ) (one other : Option Registers) → NodesAgree shift now one other → AreAlike shift now one other
nodes_alike shift now (Some one) (Some other) h = alike shift now one other h
nodes_alike shift now (Some one) None h = absurd h
nodes_alike shift now None (Some other) h = absurd h
nodes_alike shift now None None h = absurd h
