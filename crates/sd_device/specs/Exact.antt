-- When a kind of node is exact: its nodes are what the words on devices say.
use Rattle.std.specs.Prelude.{◌≡◌, ℕ}
use Rattle.sd_num.specs.declared.clock.Report.{Report}
use Rattle.sd_device.specs.declared.Effect.{Effect}
use Rattle.sd_device.specs.declared.node.Node.{Ghosts}
use Rattle.sd_device.specs.Calls.{Making, Call, Past}
use Rattle.sd_device.specs.Living.{Life}
use Rattle.sd_device.specs.Words.{effect_of, report_at, parent_now, is_acting, epoch_now, given_now, is_sealed}
use Rattle.sd_device.specs.Lives.{past_of, longer, IsOrderly}
use Rattle.sd_device.specs.Standing.{alone}

-- what is said of a node is said of the past of each orderly life for which it stands
abbrev pub Says : {N Said : Type 0} → (N → Life → Type 0) → (N → Said) → (Past → Said) → Type 0
Says {N} stands word past_word = (node : N) (life : Life) → stands node life → IsOrderly life → word node ≡ past_word (past_of life)

-- A node that is made stands for its making, and with each call for a longer life. Of the lives for which it stands it sends, reports and answers what the
-- words say.
pub record IsExact {N : Type 0} (g : Ghosts N) (stands : N → Life → Type 0) : Type 0 where
  pub made : (making : Making) (node : N) → g.makes making node → stands node (alone making)
  pub called : (old new : N) (call : Call) (effect : Effect) (life : Life) → g.steps old call effect new → stands old life → IsOrderly (longer life call)
      → stands new (longer life call)
  pub sent : (old new : N) (call : Call) (effect : Effect) (life : Life) → g.steps old call effect new → stands old life → IsOrderly (longer life call)
      → effect ≡ effect_of (past_of life) call
  pub reported : (node : N) (counter : ℕ) (report : Report) (life : Life) → g.reports node counter report → stands node life
      → report ≡ report_at (past_of life) counter
  pub parent : Says stands g.parent parent_now
  pub acts : Says stands g.acts is_acting
  pub epoch : Says stands g.epoch epoch_now
  pub given : Says stands g.given given_now
  pub sealed : Says stands g.sealed is_sealed
