-- Two runs of devices with the same steps have the same nodes: a device does one thing at each call.
use Rattle.std.specs.Prelude.{◌≡◌, ℕ, List, [], ◌∷◌, Option, Some, None, refl, if◌then◌else◌}
use Rattle.std.proofs.Common.{sym, ◌∙◌, ap, subst}
use Rattle.sd_num.specs.Lists.{map_or, same_number}
use Rattle.sd_device.specs.declared.Effect.{Effect}
use Rattle.sd_device.specs.declared.registers.Registers.{Registers}
use Rattle.sd_device.specs.Rules.{called}
use Rattle.sd_device.specs.contracts.device.DeviceNode.TheImpl.{ghosts as device}
use Rattle.sd_history.specs.World.{Setting}
use Rattle.sd_history.specs.Steps.{Act, Makes, Calls, Asks, Passes, Step, Told, changed}
use Rattle.sd_history.specs.Nodes.{NodeStep, steps_of, node_in, node_before, Allows}
use Rattle.sd_history.specs.Admitted.{IsAdmittedRun}
use Rattle.sd_history.proofs.Given.{some_is}
use Rattle.sd_safety.proofs.Shared.{tail_of}
use Rattle.sd_resume.proofs.law.Laws.{first_of}

-- the node that an act makes or leaves, from the same node before
left_same : (before before' : Option Registers) (act : Act) (told : Told) (left left' : Option Registers) → before ≡ before' → Allows device before act told left
    → Allows device before' act told left' → left ≡ left'
left_same before before' (Makes d making) told left left' same one other =
    one.left ∙ ap Some (one.made ∙ sym other.made) ∙ sym other.left
left_same before before' (Calls d call) told left left' same one other =
    one.left ∙ ap Some node_same ∙ sym other.left
  where
    old_same : one.old ≡ other.old
    old_same = some_is (sym one.there ∙ same ∙ other.there)

    node_same : one.node ≡ other.node
    node_same = ap (λ (x : Registers × Effect). x.0) (sym one.stepped ∙ ap (λ (r : Registers). called r call) old_same ∙ other.stepped)
left_same before before' (Asks d counter) told left left' same one other = one.left ∙ sym other.left
left_same before before' Passes told left left' same one other = one.1 ∙ sym other.1

-- with one step more
with_node : (x y : NodeStep Registers) (run run' : List (NodeStep Registers)) → Allows device (node_before run x.step.act) x.step.act x.step.told x.node
    → Allows device (node_before run' y.step.act) y.step.act y.step.told y.node → x.step ≡ y.step → ((m : ℕ) → node_in run m ≡ node_in run' m)
    → (d : ℕ) → node_in (x ∷ run) d ≡ node_in (y ∷ run') d
with_node x y run run' one other step before d =
    ap (λ (act : Act). map_or (if same_number (changed act) d then Some x.node else None) (node_in run d) (λ told. told)) (ap (λ (s : Step). s.act) step)
    ∙ ap (λ (o : Option Registers). map_or (if same_number (changed y.step.act) d then Some o else None) (node_in run d) (λ told. told)) node
    ∙ ap (λ (o : Option Registers). map_or (if same_number (changed y.step.act) d then Some y.node else None) o (λ told. told)) (before d)
  where
    before_act : (act : Act) → node_before run act ≡ node_before run' act
    before_act (Makes m making) = refl
    before_act (Calls m call) = before m
    before_act (Asks m counter) = before m
    before_act Passes = refl

    node : x.node ≡ y.node
    node =
        left_same (node_before run y.step.act) (node_before run' y.step.act) y.step.act y.step.told x.node y.node (before_act y.step.act)
        (subst (λ (s : Step). Allows device (node_before run s.act) s.act s.told x.node) step one) other

pub same_nodes : (setting : Setting) (run run' : List (NodeStep Registers)) → IsAdmittedRun device setting run → IsAdmittedRun device setting run'
    → steps_of run ≡ steps_of run' → (d : ℕ) → node_in run d ≡ node_in run' d
same_nodes setting [] [] one other same d = refl
same_nodes setting [] (y ∷ run') one other same d = cc
same_nodes setting (x ∷ run) [] one other same d = cc
same_nodes setting (x ∷ run) (y ∷ run') one other same d =
    with_node x y run run' one.2.allowed other.2.allowed (ap (first_of x.step) same)
    (λ m. same_nodes setting run run' one.0 other.0 (ap tail_of same) m) d
