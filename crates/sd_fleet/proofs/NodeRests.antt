-- A tick at which its device rests.
use Rattle.std.specs.Prelude.{◌≡◌, ℕ, ◌<◌, ◌≤◌, false, List, length, Option, Some, None, refl}
use Rattle.std.proofs.Common.{arith, sym, subst, set, inl}
use Rattle.std.proofs.lemmas.List.{set-get_or}
use Rattle.sd_device.specs.declared.node.Node.{Ghosts}
use Rattle.sd_device.specs.declared.Effect.TheVariants.{Quiet}
use Rattle.sd_device.specs.Calls as calls
use Rattle.sd_num.specs.Lists.{at_place}
use Rattle.sd_sched.specs.declared.Event.{Event}
use Rattle.sd_sched.specs.declared.Event.TheVariants as event
use Rattle.sd_history.specs.World.{Setting}
use Rattle.sd_history.specs.Nodes.{NodeStep, IsRun, steps_of, node_in, answers_of}
use Rattle.sd_world.specs.world.Registers.{is_open, reading_at}
use Rattle.sd_world.specs.declared.membership.AnswerSummary.{AnswerSummary}
use Rattle.sd_world.specs.membership.Standing.{summary}
use Rattle.sd_fleet.specs.Registers.{Registers}
use Rattle.sd_fleet.specs.Causes.{refusal_in}
use Rattle.sd_fleet.specs.Doing.{act_in, replied}
use Rattle.sd_fleet.specs.Sound.{IsSound}
use Rattle.sd_fleet.specs.FabricStanding.{Stands}
use Rattle.sd_fleet.specs.Stepping.{IsAfter, outcome_resting}
use Rattle.sd_fleet.proofs.Admitted.{device_known, counter_rises}
use Rattle.sd_fleet.proofs.Steady.{tick_tells}
use Rattle.sd_fleet.proofs.TickRests.{outcome_rest}
use Rattle.sd_fleet.specs.Nodes.{node_at, RestsAt, CallsAt}
use Rattle.sd_fleet.specs.Bounds.{AreNodes, context_of}
use Rattle.sd_fleet.proofs.Going.{node_later}
use Rattle.sd_fleet.proofs.Applying.{GoesOn, nodes_next}
use Rattle.sd_fleet.proofs.Stepping.{goes_further}

module _ {N : Type 0} (g : Ghosts N) (r : Registers) (nodes given : List (Option N)) (reference d counter : ℕ) (same : given ≡ nodes) (are_nodes : AreNodes g r nodes)
    (accepted : refusal_in r (event.Tick reference d counter) ≡ None) where
  -- the device has a place, and its node was called at no later counter
  pub place_there : d < length given
  place_there =
      let known = device_known r (event.Tick reference d counter) accepted d refl in
      subst (λ (ns : List (Option N)). d < length ns) (sym same) (subst (λ (k : ℕ). d < k) (sym are_nodes.places) known)

  pub floor_low : (n : N) → node_at given d ≡ Some n → g.floor n ≤ counter
  floor_low n is =
      let kept = are_nodes.kept d n (subst (λ (ns : List (Option N)). node_at ns d ≡ Some n) same is) in
      let rises : reading_at r.membership.world d ≤ counter = counter_rises r (event.Tick reference d counter) accepted d counter refl refl refl in
      omega (arith, kept.numbers.floor, rises)

module _ {N : Type 0} (g : Ghosts N) (r new : Registers) (nodes : List (Option N)) (reference d counter : ℕ) (are_nodes : AreNodes g r nodes)
    (accepted : refusal_in r (event.Tick reference d counter) ≡ None) (rests : RestsAt g nodes d counter)
    (left : (a : AnswerSummary) → at_place r.membership.answers d None (λ x. x) ≡ Some a → IsAfter r (event.Tick reference d counter) (replied Quiet a) new) where
  abbrev ticked : Event
  ticked = event.Tick reference d counter

  abbrev answers : AnswerSummary
  answers = summary (answers_of g rests.node)

  -- to rest is a call that leaves all as it is
  calls_rest : CallsAt g nodes d (calls.Tick counter) (context_of r ticked) (replied Quiet answers) nodes
  calls_rest =
      record {
        before = rests.node;
        node = rests.node;
        was = rests.was;
        stepped = rests.stepped;
        given = inl refl;
        numbers = node_later g r.membership.world.events (reading_at r.membership.world d) counter rests.node
            (counter_rises r ticked accepted d counter refl refl refl)
            (are_nodes.kept d rests.node rests.was).numbers;
        sent = tt;
        quiet = tt;
        replied = refl;
        placed = subst (λ (o : Option N). nodes ≡ set nodes d o) rests.was (sym (set-get_or nodes d None));
      }

  after : IsAfter r ticked (replied Quiet answers) new
  after = left answers (are_nodes.kept d rests.node rests.was).answers

  pub crew_resting : IsSound r → AreNodes g new nodes
  crew_resting sound =
      nodes_next g r new ticked nodes nodes nodes nodes (context_of r ticked) (act_in r ticked) (replied Quiet answers) refl refl refl calls_rest refl are_nodes sound
      accepted after

  pub goes_resting : is_open r.membership.world.window ≡ false → (setting : Setting) (run : List (NodeStep N))
      → IsRun g setting run → Stands r setting (steps_of run) → ((d : ℕ) → d < length setting.net.devices → node_at nodes d ≡ node_in run d)
      → GoesOn g new nodes setting run ticked (outcome_resting r d)
  goes_resting shut setting run is_run stands kept =
      goes_further g r new ticked nodes nodes nodes nodes (context_of r ticked) (replied Quiet answers) (outcome_resting r d) refl calls_rest refl are_nodes accepted
      (tick_tells reference d counter Quiet answers) after (sym (outcome_rest r reference d counter shut answers)) setting run is_run stands kept
