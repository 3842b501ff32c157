use Rattle.std.proofs.Common.{◌≡◌, ℕ, ◌≤◌, ◌∙◌, subst, arith}
use Rattle.std.proofs.lemmas.Option.{same_Some}
use Rattle.sd_plan.specs.declared.Duty.{Duty}
use Rattle.sd_device.specs.declared.Effect.{Effect}
use Rattle.sd_device.specs.declared.registers.Registers.{Registers}
use Rattle.sd_device.specs.Calls.{Started, Tick}
use Rattle.sd_device.specs.Living.{Life}
use Rattle.sd_device.specs.Words.{is_acting}
use Rattle.sd_device.specs.Lives.{past_of, longer, IsOrderly}
use Rattle.sd_device.specs.Rules.{made, called, acts_in}
use Rattle.sd_device.specs.Standing.{StandsFor, alone}
use Rattle.sd_device.proofs.Exactness.{device_is_exact}
use Rattle.sd_test_core.proofs.devices.callers.acts_after_ticks.Goals as goal

module _ (duty : Duty) (first second : ℕ) (plan : 1 ≤ duty.epoch) (order : first ≤ second) where
  abbrev one : Life
  one = longer (alone (Started duty 0 0 0)) (Tick first)

  abbrev two : Life
  two = longer one (Tick second)

  one_is : IsOrderly one
  one_is = record { never_falls = (tt, λ counter is. omega arith); of_plans = (plan, tt) }

  two_is : IsOrderly two
  two_is =
      record {
        never_falls = ((tt, λ counter is. omega arith), λ counter is. subst (λ k. first ≤ k) (same_Some second counter is) order);
        of_plans = ((plan, tt), tt);
      }

  acts_so : (a b c : Registers) (e f : Effect) → a ≡ made (Started duty 0 0 0) → called a (Tick first) ≡ (b, e) → called b (Tick second) ≡ (c, f)
      → acts_in c ≡ is_acting (past_of (longer (longer (alone (Started duty 0 0 0)) (Tick first)) (Tick second)))
  acts_so a b c e f is first_ second_ =
      let here : StandsFor a (alone (Started duty 0 0 0)) = device_is_exact.made (Started duty 0 0 0) a is in
      let then_ : StandsFor b one = device_is_exact.called a b (Tick first) e (alone (Started duty 0 0 0)) first_ here one_is in
      let last : StandsFor c two = device_is_exact.called b c (Tick second) f one second_ then_ two_is in
      device_is_exact.acts c two last two_is

pub returns : goal.returns
returns c =
    c.acts_as_root.ensures.acts
    ∙ acts_so c.args.duty c.args.first c.args.second c.requires.duty.epoch c.requires.order _ _ _ _ _ c.start-device.ensures.made c.on_tick.ensures.step
    c.on_tick-2.ensures.step
