-- What an accepted event reports and sends stays within its limits.
use Rattle.std.specs.Prelude.{◌≡◌, ℕ, ◌+◌, ◌*◌, ◌^◌, ◌≤◌, List, Option, Some, None, option_map, IfSome}
use Rattle.std.proofs.Common.{arith, sym, ap, subst}
use Rattle.sd_num.specs.declared.clock.Report.{Report}
use Rattle.sd_device.specs.declared.node.Node.{Ghosts}
use Rattle.sd_sched.specs.declared.Event.{Event}
use Rattle.sd_sched.specs.declared.Event.TheVariants as event
use Rattle.sd_sched.specs.Events.{is_ask}
use Rattle.sd_history.specs.Steps.{Act}
use Rattle.sd_fleet.specs.declared.Reply.{Reply}
use Rattle.sd_fleet.specs.declared.Outcome.{Outcome}
use Rattle.sd_fleet.specs.Registers.{Registers}
use Rattle.sd_fleet.specs.Causes.{refusal_in}
use Rattle.sd_fleet.specs.Doing.{act_in, IsReplyTo}
use Rattle.sd_fleet.specs.Room.{most_sent_in}
use Rattle.sd_fleet.specs.Stepping.{outcome_in, report_in}
use Rattle.sd_fleet.proofs.FabricKeeping.{sent_room}
use Rattle.sd_fleet.specs.declared.nodes.CallContext.{CallContext}
use Rattle.sd_fleet.specs.Calling.{rise, IsLimited}
use Rattle.sd_fleet.specs.Nodes.{Acts, AsksAt}

-- Reports

limited : (events : ℕ) (report : Report) → events ≤ 2 ^ 26 → report.clock ≤ (events + 1) * rise → report.eps ≤ (events + 1) * rise → IsLimited report
limited events report few clock eps = record { clock = omega (arith, few, clock); eps = omega (arith, few, eps) }

module _ {N : Type 0} (g : Ghosts N) (nodes after : List (Option N)) (context : CallContext) (reply : Reply) (few : context.events ≤ 2 ^ 26) where
  asked : (d counter : ℕ) → AsksAt g nodes d counter context reply → IfSome reply.report IsLimited
  asked d counter is_ask =
      subst (λ (o : Option Report). IfSome o IsLimited) (sym (ap (λ (x : Reply). x.report) is_ask.replied))
      (limited context.events is_ask.report few is_ask.clock is_ask.eps)

  -- what is told of the report of an ask
  pub report_limited : (r : Registers) (e : Event) → Acts g nodes (act_in r e) context reply after → IfSome (report_in e reply) (λ told. IsLimited told.1)
  report_limited r (event.Ask reference d counter) acts = by reply.report (asked d counter acts.0)
    where
      by : (o : Option Report) → IfSome o IsLimited → IfSome {T = ℕ × Report} (option_map (λ report. (d, report)) o) (λ told. IsLimited told.1)
      by None is = tt
      by (Some report) is = is
  report_limited r e acts = tt

-- and of an outcome
pub outcome_limited : {N : Type 0} (g : Ghosts N) (r : Registers) (e : Event) (given after : List (Option N)) (context : CallContext) (a : Act) (reply : Reply)
    (outcome : Outcome)
    → context.events ≤ 2 ^ 26 → a ≡ act_in r e → Acts g given a context reply after → outcome ≡ outcome_in r e reply
    → IfSome outcome.report (λ told. IsLimited told.1)
outcome_limited g r e given after context a reply outcome few is acts comes =
    subst (λ (o : Option (ℕ × Report)). IfSome o (λ told. IsLimited told.1)) (sym (ap (λ (x : Outcome). x.report) comes))
    (report_limited g given after context reply few r e (subst (λ (x : Act). Acts g given x context reply after) is acts))

-- Messages

-- no more is sent than there was room for
pub sent_most : (r : Registers) (e : Event) (reply : Reply) (outcome : Outcome) → refusal_in r e ≡ None → IsReplyTo e reply → outcome ≡ outcome_in r e reply
    → outcome.sent ≤ most_sent_in r e
sent_most r e reply outcome accepted tells comes =
    let room = sent_room r e reply accepted tells in
    let sent = ap (λ (x : Outcome). x.sent) comes in
    omega (arith, room, sent)
