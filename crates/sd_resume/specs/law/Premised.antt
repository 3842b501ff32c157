-- When each premise that the second of two histories breaks is broken in the first, and goes on so.
use Rattle.std.specs.Prelude.{◌≡◌, ℕ, ◌≤◌, true, not, List}
use Rattle.std.specs.List.{list_all, list_any}
use Rattle.sd_plan.specs.declared.topo.Thing.{Thing}
use Rattle.sd_plan.specs.domain.Things.{same_thing}
use Rattle.sd_plan.specs.Plans.{members}
use Rattle.sd_history.specs.World.{Setting, Seen, is_up, is_untouched, plan_numbered, latest_reference, latest_reading}
use Rattle.sd_history.specs.Premises.{start_holds, drift_holds, delay_holds, tick_holds, domain_holds, renew_holds, latest_tick, failures_since_closing}
use Rattle.sd_resume.specs.law.Cuts.{keeps_with}

-- Of the premises but loss: each that holds of the first holds of the second. So that it stays so: of a device that is up, a later reading that keeps the
-- rates with those of the first keeps them with those of the second, and its latest tick is no earlier; no member of its first plan is untouched, and no device that the first has touched;
-- and the same failed in both since the latest closing.
pub record PremisesAgree (whole part : Setting) (one other : List Seen) : Type 0 where
  pub start : start_holds one ≡ true → start_holds other ≡ true
  pub drift : drift_holds whole one ≡ true → drift_holds part other ≡ true
  pub delay : delay_holds whole one ≡ true → delay_holds part other ≡ true
  pub tick : tick_holds whole one ≡ true → tick_holds part other ≡ true
  pub domain : domain_holds whole one ≡ true → domain_holds part other ≡ true
  pub renew : renew_holds whole one ≡ true → renew_holds part other ≡ true
  pub readings : (d reference counter : ℕ) → is_up other d ≡ true → latest_reference other ≤ reference → latest_reading other d ≤ counter
      → keeps_with part one d reference counter ≡ true → keeps_with part other d reference counter ≡ true
  pub ticks : (d : ℕ) → is_up other d ≡ true → latest_tick one d ≤ latest_tick other d
  pub members : list_all (λ d. not (is_untouched other d)) (members part.net (plan_numbered part 1)) ≡ true
  pub untouched : (d : ℕ) → is_untouched other d ≡ true → is_untouched one d ≡ true
  pub failures : (x : Thing) → list_any (same_thing x) (failures_since_closing one) ≡ list_any (same_thing x) (failures_since_closing other)
