-- What a fleet does with its nodes, each at the place of its device.
use Rattle.std.specs.Prelude.{◌≡◌, ◌≢◌, ℕ, ◌+◌, ◌*◌, ◌^◌, ◌≤◌, ◌<◌, List, length, slice_set, slice_index_or, Option, Some, None}
use Rattle.sd_plan.specs.declared.Duty.{Duty}
use Rattle.sd_num.specs.declared.clock.Report.{Report}
use Rattle.sd_device.specs.declared.Effect.TheVariants.{Quiet}
use Rattle.sd_device.specs.declared.node.Node.{Ghosts}
use Rattle.sd_device.specs.Limits.{IfSent}
use Rattle.sd_history.specs.Nodes.{answers_of}
use Rattle.sd_world.specs.membership.Standing.{summary}
use Rattle.sd_device.specs.Calls.{Making}
use Rattle.sd_device.specs.Calls.{Call}
use Rattle.sd_device.specs.Calls as calls
use Rattle.sd_device.specs.Words.{making_counter}
use Rattle.sd_history.specs.Steps.{Act}
use Rattle.sd_history.specs.Steps as steps
use Rattle.sd_fleet.specs.declared.Reply.{Reply}
use Rattle.sd_fleet.specs.declared.nodes.CallContext.{CallContext}
use Rattle.sd_fleet.specs.Calling.{IsNode, IsMessage, CanMake, CanCall, GivenAfter, MaySend, reading_after, rise}

-- the node at a place
abbrev pub node_at : {N : Type 0} → List (Option N) → ℕ → Option N
node_at nodes d = slice_index_or nodes d None

-- a node is made at the place, as its type allows, and is replied of
pub record MakesAt {N : Type 0} (g : Ghosts N) (old : List (Option N)) (d : ℕ) (making : Making) (reply : Reply) (new : List (Option N)) : Type 0 where
  pub node : N
  pub made : g.makes making node
  pub given : g.given node ≡ None
  pub numbers : (events : ℕ) → IsNode g (events + 1) (making_counter making) node
  pub replied : reply ≡ record { effect = Quiet; answers = Some (summary (answers_of g node)); report = None }
  pub placed : new ≡ slice_set old d (Some node)

-- the node can be called at the context, and the number of its given duty is told
pub record IsCallable {N : Type 0} (g : Ghosts N) (context : CallContext) (call : Call) (n : N) : Type 0 where
  pub numbers : IsNode g context.events context.reading n
  pub can : CanCall g context.events context.reading n call
  pub given : (duty : Duty) → g.given n ≡ Some duty → context.given ≡ Some duty.epoch

-- the node at the place was called, as its type allows, and is replied of
pub record CallsAt {N : Type 0} (g : Ghosts N) (old : List (Option N)) (d : ℕ) (call : Call) (context : CallContext) (reply : Reply)
    (new : List (Option N)) : Type 0 where
  pub before : N
  pub node : N
  pub was : node_at old d ≡ Some before
  pub stepped : g.steps before call reply.effect node
  pub given : GivenAfter call (g.given before) (g.given node)
  pub numbers : IsNode g (context.events + 1) (reading_after call context.reading) node
  pub sent : IfSent reply.effect (IsMessage (context.events + 1))
  pub quiet : MaySend call reply.effect
  pub replied : reply ≡ record { effect = reply.effect; answers = Some (summary (answers_of g node)); report = None }
  pub placed : new ≡ slice_set old d (Some node)

-- the node at the place was asked, and is replied of
pub record AsksAt {N : Type 0} (g : Ghosts N) (nodes : List (Option N)) (d counter : ℕ) (context : CallContext) (reply : Reply) : Type 0 where
  pub node : N
  pub report : Report
  pub was : node_at nodes d ≡ Some node
  pub reported : g.reports node counter report
  pub clock : report.clock ≤ (context.events + 1) * rise
  pub eps : report.eps ≤ (context.events + 1) * rise
  pub replied : reply ≡ record { effect = Quiet; answers = None; report = Some report }

-- the node at the place rests at a tick: it sends nothing, and stays as it is
pub record RestsAt {N : Type 0} (g : Ghosts N) (nodes : List (Option N)) (d counter : ℕ) : Type 0 where
  pub node : N
  pub was : node_at nodes d ≡ Some node
  pub stepped : g.steps node (calls.Tick counter) Quiet node

-- the act can be done at the context
abbrev pub CanAct : {N : Type 0} (g : Ghosts N) → List (Option N) → CallContext → Act → Type 0
CanAct g nodes context (steps.Makes d making) = (d < length nodes) × CanMake making
CanAct g nodes context (steps.Calls d call) = (d < length nodes) × (node_at nodes d ≢ None) × ((n : _) → node_at nodes d ≡ Some n → IsCallable g context call n)
CanAct g nodes context (steps.Asks d counter) =
    (d < length nodes) × (node_at nodes d ≢ None) × ((n : _) → node_at nodes d ≡ Some n → IsNode g context.events context.reading n)
    × (context.reading ≤ counter) × (counter ≤ 2 ^ 60)
CanAct g nodes context steps.Passes = Unit {0}

-- the act was done, and is replied of
abbrev pub Acts : {N : Type 0} (g : Ghosts N) → List (Option N) → Act → CallContext → Reply → List (Option N) → Type 0
Acts g old (steps.Makes d making) context reply new = MakesAt g old d making reply new
Acts g old (steps.Calls d call) context reply new = CallsAt g old d call context reply new
Acts g old (steps.Asks d counter) context reply new = AsksAt g old d counter context reply × (new ≡ old)
Acts g old steps.Passes context reply new = (reply ≡ record { effect = Quiet; answers = None; report = None }) × (new ≡ old)
