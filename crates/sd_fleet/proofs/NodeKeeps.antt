-- The nodes where one of them was called and answers as before.
use Rattle.std.specs.Prelude.{◌≡◌, ℕ, ◌<◌, false, List, length, Option, Some, None, Ok, refl}
use Rattle.std.proofs.Common.{sym, subst}
use Rattle.sd_device.specs.declared.msg.Flight.{Flight}
use Rattle.sd_device.specs.declared.node.Node.{Ghosts}
use Rattle.sd_device.specs.declared.Effect.{Effect}
use Rattle.sd_device.specs.Calls as calls
use Rattle.sd_device.specs.Calls.{Call}
use Rattle.sd_num.specs.Lists.{at_place}
use Rattle.sd_sched.specs.declared.Event.{Event}
use Rattle.sd_sched.specs.declared.Event.TheVariants as event
use Rattle.sd_history.specs.World.{Setting}
use Rattle.sd_history.specs.Nodes.{NodeStep, IsRun, steps_of, node_in, answers_of}
use Rattle.sd_world.specs.world.Registers.{is_open}
use Rattle.sd_world.specs.declared.membership.AnswerSummary.{AnswerSummary}
use Rattle.sd_world.specs.membership.Memberships as membership
use Rattle.sd_world.specs.membership.Standing.{summary}
use Rattle.sd_fleet.specs.declared.Outcome.{Outcome}
use Rattle.sd_fleet.specs.declared.Reply.{Reply}
use Rattle.sd_fleet.specs.declared.messages.Sent.{Sent}
use Rattle.sd_fleet.specs.declared.nodes.CallContext.{CallContext}
use Rattle.sd_fleet.specs.Registers.{Registers}
use Rattle.sd_fleet.specs.Causes.{refusal_in, flight_at}
use Rattle.sd_fleet.specs.Doing.{act_in, replied, IsReplyTo}
use Rattle.sd_fleet.specs.Sound.{IsSound}
use Rattle.sd_fleet.specs.FabricStanding.{Stands}
use Rattle.sd_fleet.specs.Stepping.{IsAfter, IsWithout, outcome_in}
use Rattle.sd_fleet.specs.Nodes.{node_at, Acts}
use Rattle.sd_fleet.specs.Keeping.{KeepsAt, SendsTo, outcome_keeping}
use Rattle.sd_fleet.specs.Bounds.{AreNodes, context_of}
use Rattle.sd_fleet.proofs.Steady.{tick_tells, receipt_tells, receipt_sends}
use Rattle.sd_fleet.proofs.Staying.{outcome_tick, outcome_receipt}
use Rattle.sd_fleet.proofs.Applying.{GoesOn, nodes_next, length_done}
use Rattle.sd_fleet.proofs.Stepping.{goes_further, received_acts}

-- an accepted event as the parts of the fleet made it
pub record IsMade {N : Type 0} (g : Ghosts N) (r new : Registers) (e : Event) (nodes given after : List (Option N)) (context : CallContext) (reply : Reply)
    (outcome : Outcome) : Type 0 where
  pub same : given ≡ nodes
  pub at : context ≡ context_of r e
  pub are_nodes : AreNodes g r nodes
  pub sound : IsSound r
  pub accepted : refusal_in r e ≡ None
  pub acts : Acts g given (act_in r e) context reply after
  pub tells : IsReplyTo e reply
  pub step : IsAfter r e reply new
  pub comes : outcome ≡ outcome_in r e reply

module _ {N : Type 0} (g : Ghosts N) (r new : Registers) (e : Event) (nodes given after : List (Option N)) (context : CallContext) (reply : Reply)
    (outcome : Outcome) (made : IsMade g r new e nodes given after context reply outcome) where
  pub length_made : length after ≡ length nodes
  length_made = length_done g nodes given after context (act_in r e) reply made.same made.acts

  pub nodes_made : (left : List (Option N)) → left ≡ after → AreNodes g new left
  nodes_made left ends =
      nodes_next g r new e nodes given after left context (act_in r e) reply made.same made.at refl made.acts ends made.are_nodes made.sound made.accepted
      made.step

  pub goes_made : (left : List (Option N)) → left ≡ after → (setting : Setting) (run : List (NodeStep N)) → IsRun g setting run
      → Stands r setting (steps_of run) → ((x : ℕ) → x < length setting.net.devices → node_at nodes x ≡ node_in run x)
      → GoesOn g new left setting run e outcome
  goes_made left ends setting run is_run stands kept =
      goes_further g r new e nodes given after left context reply outcome made.same made.acts ends made.are_nodes made.accepted made.tells made.step
      made.comes setting run is_run stands kept

module _ {N : Type 0} (g : Ghosts N) (r new : Registers) (nodes given after : List (Option N)) (d : ℕ) (call : Call) (context : CallContext) (effect : Effect)
    (same : given ≡ nodes) (are_nodes : AreNodes g r nodes) (keeps : KeepsAt g given d call context effect after) where
  abbrev pub answers : AnswerSummary
  answers = summary (answers_of g keeps.node)

  -- what the node answers is what is kept of it
  pub known : at_place r.membership.answers d None (λ x. x) ≡ Some answers
  known = (are_nodes.kept d keeps.node (subst (λ (ns : List (Option N)). node_at ns d ≡ Some keeps.node) same keeps.was)).answers

module _ {N : Type 0} (g : Ghosts N) (r new : Registers) (nodes given after : List (Option N)) (reference d counter : ℕ) (context : CallContext)
    (effect : Effect) (sent : Sent) (same : given ≡ nodes) (at : context ≡ context_of r (event.Tick 0 d 0)) (are_nodes : AreNodes g r nodes)
    (sound : IsSound r) (shut : is_open r.membership.world.window ≡ false) where
  -- a tick
  pub made_tick : refusal_in r (event.Tick reference d counter) ≡ None → (keeps : KeepsAt g given d (calls.Tick counter) context effect after)
      → ((a : AnswerSummary) → at_place r.membership.answers d None (λ x. x) ≡ Some a → SendsTo r (event.Tick reference d counter) (replied effect a) sent new)
      → IsMade g r new (event.Tick reference d counter) nodes given after context (replied effect (summary (answers_of g keeps.node)))
      (outcome_keeping r d None sent)
  made_tick accepted keeps sends =
      let a : AnswerSummary = summary (answers_of g keeps.node) in
      let told : SendsTo r (event.Tick reference d counter) (replied effect a) sent new =
      sends a (known g r new nodes given after d (calls.Tick counter) context effect same are_nodes keeps) in
      record {
        same = same;
        at = at;
        are_nodes = are_nodes;
        sound = sound;
        accepted = accepted;
        acts = keeps.calls;
        tells = tick_tells reference d counter effect a;
        step = told.after;
        comes = outcome_tick r new reference d counter effect a sent shut told;
      }

  -- a receipt: its flight is taken, and then it is as a tick
  pub made_receipt : (mid : Registers) (message : ℕ) (f : Flight) → refusal_in r (event.Recv reference d counter message) ≡ None → flight_at r message ≡ Ok f
      → IsWithout message r mid → (keeps : KeepsAt g given d (calls.Receive f.link f.message counter) context effect after)
      → ((a : AnswerSummary) → at_place mid.membership.answers d None (λ x. x) ≡ Some a
      → SendsTo mid (event.Tick reference d counter) (replied effect a) sent new)
      → IsMade g r new (event.Recv reference d counter message) nodes given after context (replied effect (summary (answers_of g keeps.node)))
      (outcome_keeping r d (Some f) sent)
  made_receipt mid message f accepted found taken keeps sends =
      let a : AnswerSummary = summary (answers_of g keeps.node) in
      let kept : at_place mid.membership.answers d None (λ x. x) ≡ Some a =
      subst (λ (m : membership.Registers). at_place m.answers d None (λ x. x) ≡ Some a) (sym taken.membership)
      (known g r new nodes given after d (calls.Receive f.link f.message counter) context effect same are_nodes keeps) in
      let told : SendsTo r (event.Recv reference d counter message) (replied effect a) sent new =
      receipt_sends r mid reference d counter message effect a taken sent new (sends a kept) in
      record {
        same = same;
        at = at;
        are_nodes = are_nodes;
        sound = sound;
        accepted = accepted;
        acts = received_acts g given after context (replied effect a) (flight_at r message) f d counter found keeps.calls;
        tells = receipt_tells reference d counter message effect a;
        step = told.after;
        comes = outcome_receipt r new reference d counter effect a sent shut message f found told;
      }
