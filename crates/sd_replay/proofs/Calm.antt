-- While no premise is broken there is no alarm: clean histories are safe, and their reports contain their references.
use Rattle.std.specs.Prelude.{◌≡◌, true, count_by, List, [], ◌∷◌, IsTrue, refl}
use Rattle.std.proofs.Common.{arith, sym, subst}
use Rattle.sd_device.specs.declared.msg.observer.Observer as observers
use Rattle.sd_sched.specs.declared.Event.{Event}
use Rattle.sd_history.specs.World.{Setting}
use Rattle.sd_history.specs.Steps.{Step, seen_of, events_of}
use Rattle.sd_history.specs.Nodes.{steps_of}
use Rattle.sd_history.specs.Chronicle.{next_step, chronicle, IsHistory}
use Rattle.sd_history.specs.Premises.{breaks, all_hold}
use Rattle.sd_history.specs.Lines.{lines_of}
use Rattle.sd_history.proofs.Exactness.{exact_run, exact_history}
use Rattle.sd_device.specs.declared.node.Node.{Ghosts}
use Rattle.sd_device.specs.Living.{Life}
use Rattle.sd_device.specs.Exact.{IsExact}
use Rattle.sd_safety.proofs.whole.Safe.{stays_safe}
use Rattle.sd_safety.specs.invariant.Kept.{IsSafe}
use Rattle.sd_safety.specs.invariant.Coming.{IsFair}
use Rattle.sd_replay.specs.Tallies.{is_alarm}
use Rattle.sd_replay.specs.Calm.{IsCalm, StaysCalm}
use Rattle.sd_replay.specs.Devices.{NodesStayCalm}
use Rattle.sd_replay.proofs.Due.{none_broken, four_parts, no_alarm_due, all_honest}
use Rattle.sd_replay.proofs.Kept.{reports_contain}

-- a clean history over plans that are accepted is safe
pub history_is_safe : (setting : Setting) → IsFair setting → (history : List Event) → IsHistory setting history
    → IsTrue (all_hold setting (seen_of (chronicle setting history))) → IsSafe setting (chronicle setting history)
history_is_safe setting sound history is holds =
    stays_safe setting history (record { network = sound.network; some_plan = sound.some_plan; fit = sound.fit; accepted = sound.accepted })
    (record { is = is; premises = holds })

module _ (setting : Setting) (sound : IsFair setting) where
  no_alarm : (history : List Event) → IsHistory setting history → all_hold setting (seen_of (chronicle setting history)) ≡ true
      → count_by is_alarm (lines_of setting (chronicle setting history)) ≡ 0
  no_alarm [] is holds = refl
  no_alarm (e ∷ earlier) is holds =
      let before : List Step = chronicle setting earlier in
      let here : Step = next_step setting before e in
      let kept = history_is_safe setting sound (e ∷ earlier) is holds in
      let others = no_alarm_due setting here before kept.loop kept.root (reports_contain setting (e ∷ earlier) is (all_honest setting here before holds)) in
      let premises = none_broken is_alarm (λ p. refl) (breaks setting (seen_of (here ∷ before))) in
      let parts = four_parts setting here before is_alarm in
      omega (arith, parts, premises, others)

  -- a history in which no premise is broken is calm
  pub history_is_calm : (history : List Event) → IsHistory setting history → IsTrue (all_hold setting (seen_of (chronicle setting history)))
      → IsCalm setting (chronicle setting history)
  history_is_calm history is holds =
      let kept = history_is_safe setting sound history is holds in
      record { no_loop = kept.loop; one_root = kept.root; no_alarm = no_alarm history is holds }

-- and so are steps that are one
pub stays_calm : (setting : Setting) → IsFair setting → (steps : List Step) → StaysCalm setting steps
stays_calm setting sound steps is holds =
    subst (IsCalm setting) (sym is.chronicle)
    (history_is_calm setting sound (events_of steps) is.history (subst (λ (s : List Step). IsTrue (all_hold setting (seen_of s))) is.chronicle holds))

pub nodes_stay_calm : {N V : Type 0} {g : Ghosts N} {stands : N → Life → Type 0} → IsExact g stands → (o : observers.Ghosts V) → NodesStayCalm g o
nodes_stay_calm exact o replay setting run stands holds =
    stays_calm setting stands.sound (steps_of run)
    (record { history = exact_history exact setting run stands.made.is_run; chronicle = exact_run exact setting run stands.made.is_run }) holds
