-- The plans by their numbers: the table of a number is that of the history's plan with this number.
use Rattle.std.specs.Prelude.{◌≡◌, ℕ, ◌+◌, ◌-◌, ◌<◌, true, List, [], length, Some}
use Rattle.std.proofs.Common.{arith, sym, ◌∙◌, ap}
use Rattle.sd_plan.specs.topo.Network.{Network}
use Rattle.sd_plan.specs.declared.Plan.{Plan}
use Rattle.sd_plan.specs.Plans.{is_member}
use Rattle.sd_plan.specs.Duties.{duty_of, ends_of}
use Rattle.sd_plan.specs.Tables.{table_of, table_row, row_at, has_row_at}
use Rattle.sd_plan.proofs.Numbered.{length-numbered, at-numbered}
use Rattle.sd_plan.proofs.TableLaws.{row_at-table, row_at-member, has_row_at-table}
use Rattle.sd_history.specs.World.{Setting, plan_numbered}
use Rattle.sd_world.specs.declared.membership.plans.NumberedPlan.{NumberedPlan}
use Rattle.sd_world.specs.membership.Plans.{numbered, numbered_at, IsNumber, table_numbered, root_numbered, row_numbered, is_member_numbered}

-- as many as there are plans
pub length-plans : (net : Network) (plans : List Plan) → length (numbered net plans) ≡ length plans
length-plans net plans = length-numbered (numbered_at net plans) (length plans)

module _ (setting : Setting) (epoch : ℕ) (there : IsNumber (numbered setting.net setting.plans) epoch) where
  abbrev plans : List NumberedPlan
  plans = numbered setting.net setting.plans

  abbrev plan : Plan
  plan = plan_numbered setting epoch

  within : epoch - 1 < length setting.plans
  within = omega (arith, length-plans setting.net setting.plans, there.first, there.last)

  number : epoch - 1 + 1 ≡ epoch
  number = omega (arith, there.first)

  -- the root of a number
  pub root_is : root_numbered plans epoch ≡ plan.root
  root_is = at-numbered (numbered_at setting.net setting.plans) (length setting.plans) (epoch - 1) 0 (λ p. p.root) within

  -- the table of a number
  pub table_is : table_numbered plans epoch ≡ table_of setting.net plan epoch
  table_is = at-numbered (numbered_at setting.net setting.plans) (length setting.plans) (epoch - 1) [] (λ p. p.table) within
      ∙ ap (λ (n : ℕ). table_of setting.net plan n) number

  -- and the row of a device in it
  pub row_is : (d : ℕ) → d < length setting.net.devices → row_numbered plans epoch d ≡ table_row setting.net plan epoch d
  row_is d inside = ap (λ table. row_at table d) table_is ∙ row_at-table setting.net plan epoch d inside

  -- just the members have a row
  pub member_is : (d : ℕ) → d < length setting.net.devices → is_member_numbered plans epoch d ≡ is_member plan d
  member_is d inside = ap (λ table. has_row_at table d) table_is ∙ has_row_at-table setting.net plan epoch d inside

  -- the row of a member
  pub member_row_is : (d : ℕ) → d < length setting.net.devices → is_member_numbered plans epoch d ≡ true
      → row_numbered plans epoch d ≡ Some (record { duty = duty_of setting.net plan epoch d; downstream = ends_of setting.net plan d })
  member_row_is d inside member = ap (λ table. row_at table d) table_is ∙ row_at-member setting.net plan epoch d inside (sym (member_is d inside) ∙ member)
