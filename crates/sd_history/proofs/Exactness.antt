-- In every run of a kind of node that is exact each node stands for the life of its device and tells what the words say of it: so the run is the
-- chronicle.
use Rattle.std.specs.Prelude.{◌≡◌, ℕ, Bool, true, false, List, [], ◌∷◌, nat_eq, Option, Some, None, option_map, refl, if◌then◌else◌}
use Rattle.std.proofs.Common.{sym, ◌∙◌, ap, subst}
use Rattle.std.proofs.lemmas.Bool.{eqb-true, eq-eqb}
use Rattle.sd_num.specs.Lists.{map_or, same_number}
use Rattle.sd_device.specs.declared.node.Node.{Ghosts}
use Rattle.sd_device.specs.Calls.{Making, Call}
use Rattle.sd_device.specs.Living.{Life}
use Rattle.sd_device.specs.Lives.{past_of, longer, IsOrderly}
use Rattle.sd_device.specs.Standing.{alone}
use Rattle.sd_device.specs.Exact.{IsExact}
use Rattle.sd_history.specs.World.{Setting}
use Rattle.sd_history.specs.Steps.{Act, Makes, Calls, Asks, Passes, Step, changed, events_of}
use Rattle.sd_history.specs.Lives.{life_in, life_after}
use Rattle.sd_history.specs.Chronicle.{answers_by, told_by, chronicle, IsHistory}
use Rattle.sd_history.specs.Nodes.{answers_of, NodeStep, steps_of, node_in, node_before, Allows, IsMade, IsCalled, IsAsked, IsRun, TellsByWords}
use Rattle.sd_history.specs.Admitted.{IsAdmitted, IsAdmittedRun}
use Rattle.sd_history.proofs.Admitted.{run_is_admitted}
use Rattle.sd_history.proofs.Given.{some_is}
use Rattle.sd_history.proofs.Readings.{run_reads}
use Rattle.sd_history.proofs.Tellings.{making_tells, call_tells, report_tells, answers_agree, admitted_run_is_chronicle, admitted_run_is_history, run_is_history}

-- Who stands for which life

-- the node stands for the life of its device
pub record Lives {N : Type 0} (StandsIn : N → Life → Type 0) (life_is : Option Life) (node : N) : Type 0 where
  pub life : Life
  pub is : life_is ≡ Some life
  pub stands : StandsIn node life

-- a node with an act that leaves this one
abbrev pub node_after : {N : Type 0} → Act → Option N → ℕ → Option N → Option N
node_after act left d before = map_or (if same_number (changed act) d then Some left else None) before (λ node. node)

-- each node of a fleet does
abbrev pub AllLive : {N : Type 0} → (N → Life → Type 0) → (ℕ → Option Life) → (ℕ → Option N) → Type 0
AllLive stands lives nodes = (d : ℕ) (node : _) → nodes d ≡ Some node → Lives stands (lives d) node

module _ {N : Type 0} (stands : N → Life → Type 0) (lives : ℕ → Option Life) (nodes : ℕ → Option N) (live : AllLive stands lives nodes) where
  -- with a node that is made, and with one that is called
  pub live_made : (m : ℕ) (making : Making) (new : N) → stands new (alone making)
      → AllLive stands (λ d. life_after (Makes m making) d (lives d)) (λ d. node_after (Makes m making) (Some new) d (nodes d))
  live_made m making new here d node is = by (nat_eq m d) is
    where
      by : (b : Bool) → map_or (if b then Some (Some new) else None) (nodes d) (λ node. node) ≡ Some node
          → Lives stands (if b then Some (alone making) else lives d) node
      by true same = record { life = alone making; is = refl; stands = subst (λ x. stands x (alone making)) (some_is same) here }
      by false same = live d node same

  pub live_called : (m : ℕ) (call : Call) (new : N) (old : Life) → lives m ≡ Some old → stands new (longer old call)
      → AllLive stands (λ d. life_after (Calls m call) d (lives d)) (λ d. node_after (Calls m call) (Some new) d (nodes d))
  live_called m call new old there here d node is = by (nat_eq m d) refl is
    where
      by : (b : Bool) → nat_eq m d ≡ b → map_or (if b then Some (Some new) else None) (nodes d) (λ node. node) ≡ Some node
          → Lives stands (if b then option_map (λ life. longer life call) (lives d) else lives d) node
      by true equal same =
          record {
            life = longer old call;
            is = ap (option_map (λ life. longer life call)) (subst (λ k. lives k ≡ Some old) (eqb-true m d equal) there);
            stands = subst (λ x. stands x (longer old call)) (some_is same) here;
          }
      by false equal same = live d node same

-- What a node does by the words

module _ {N : Type 0} (g : Ghosts N) (stands : N → Life → Type 0) (exact : IsExact g stands) where
  pub answers_are : (node : N) (life : Life) → stands node life → IsOrderly life → answers_of g node ≡ answers_by (past_of life)
  answers_are node life here orderly =
      answers_agree (answers_of g node) (answers_by (past_of life)) (exact.parent node life here orderly) (exact.acts node life here orderly)
      (exact.epoch node life here orderly) (exact.given node life here orderly) (exact.sealed node life here orderly)

  -- with a step of this act each node lives, and the step told what the words say
  record GoesBy (earlier : List (NodeStep N)) (x : NodeStep N) (act : Act) : Type 0 where
    live : AllLive stands (λ d. life_after act d (life_in (steps_of earlier) d)) (λ d. node_after act x.node d (node_in earlier d))
    tells : x.step.told ≡ told_by (steps_of earlier) act

  module _ (earlier : List (NodeStep N)) (x : NodeStep N) (live : AllLive stands (life_in (steps_of earlier)) (node_in earlier)) where
    abbrev steps : List Step
    steps = steps_of earlier

    -- lives with the act are orderly
    abbrev Orderly : Act → Type 0
    Orderly act = (d : ℕ) (life : Life) → life_after act d (life_in steps d) ≡ Some life → IsOrderly life

    made_goes : (m : ℕ) (making : Making) → Orderly (Makes m making) → IsMade g making x.step.told x.node → GoesBy earlier x (Makes m making)
    made_goes m making orderly made =
        let here : stands made.node (alone making) = exact.made making made.node made.made in
        let own : IsOrderly (alone making) = orderly m (alone making) (ap (λ b. if b then Some (alone making) else life_in steps m) (eq-eqb m m refl)) in
        record {
          live = subst (λ o. AllLive stands (λ d. life_after (Makes m making) d (life_in steps d)) (λ d. node_after (Makes m making) o d (node_in earlier d)))
              (sym made.left) (live_made stands (life_in steps) (node_in earlier) live m making made.node here);
          tells = made.tells ∙ making_tells steps m making (answers_of g made.node) (answers_are made.node (alone making) here own);
        }

    called_goes : (m : ℕ) (call : Call) → Orderly (Calls m call) → IsCalled g (node_in earlier m) call x.step.told x.node → GoesBy earlier x (Calls m call)
    called_goes m call orderly called =
        record {
          live = subst (λ o. AllLive stands (λ d. life_after (Calls m call) d (life_in steps d)) (λ d. node_after (Calls m call) o d (node_in earlier d)))
              (sym called.left) (live_called stands (life_in steps) (node_in earlier) live m call called.node old.life old.is here);
          tells =
              called.tells
              ∙ call_tells steps m call old.life called.effect (answers_of g called.node) old.is
              (exact.sent called.old called.node call called.effect old.life called.stepped old.stands own)
              (answers_are called.node (longer old.life call) here own);
        }
      where
        old : Lives stands (life_in steps m) called.old
        old = live m called.old called.there

        own : IsOrderly (longer old.life call)
        own =
            orderly m (longer old.life call)
            (ap (λ b. if b then option_map (λ life. longer life call) (life_in steps m) else life_in steps m) (eq-eqb m m refl)
            ∙ ap (option_map (λ life. longer life call)) old.is)

        here : stands called.node (longer old.life call)
        here = exact.called called.old called.node call called.effect old.life called.stepped old.stands own

    asked_goes : (m counter : ℕ) → IsAsked g (node_in earlier m) counter x.step.told x.node → GoesBy earlier x (Asks m counter)
    asked_goes m counter asked =
        let old : Lives stands (life_in steps m) asked.node = live m asked.node asked.there in
        record {
          live = live;
          tells = asked.tells
              ∙ report_tells steps m counter old.life asked.report old.is (exact.reported asked.node counter asked.report old.life asked.reported old.stands);
        }

    goes_by : (act : Act) → Orderly act → Allows g (node_before earlier act) act x.step.told x.node → GoesBy earlier x act
    goes_by (Makes m making) orderly allowed = made_goes m making orderly allowed
    goes_by (Calls m call) orderly allowed = called_goes m call orderly allowed
    goes_by (Asks m counter) orderly allowed = asked_goes m counter allowed
    goes_by Passes orderly allowed = record { live = live; tells = allowed.0 }

  -- Whole runs

  pub record RunGoes (run : List (NodeStep N)) : Type 0 where
    pub live : AllLive stands (life_in (steps_of run)) (node_in run)
    pub tells : TellsByWords run

  pub run_goes : (setting : Setting) (run : List (NodeStep N)) → IsAdmittedRun g setting run → RunGoes run
  run_goes setting [] is = record { live = λ d node here. cc; tells = tt }
  run_goes setting (x ∷ earlier) is =
      let before : RunGoes earlier = run_goes setting earlier is.0 in
      let now : GoesBy earlier x x.step.act =
      goes_by earlier x before.live x.step.act (λ d life here. (run_reads g setting (x ∷ earlier) is d life here).orderly) is.2.allowed in
      record { live = now.live; tells = (before.tells, now.tells) }

-- Each run of such a kind, of any length, is the chronicle of its events, and the rules admit these.

pub admitted_exact_run : {N : Type 0} {g : Ghosts N} {stands : N → Life → Type 0} → IsExact g stands → (setting : Setting) (run : List (NodeStep N))
    → IsAdmittedRun g setting run → steps_of run ≡ chronicle setting (events_of (steps_of run))
admitted_exact_run {g = g} {stands = stands} exact setting run is = admitted_run_is_chronicle g setting run is (run_goes g stands exact setting run is).tells

pub admitted_exact_history : {N : Type 0} {g : Ghosts N} {stands : N → Life → Type 0} → IsExact g stands → (setting : Setting) (run : List (NodeStep N))
    → IsAdmittedRun g setting run → IsAdmitted setting (events_of (steps_of run))
admitted_exact_history {g = g} {stands = stands} exact setting run is = admitted_run_is_history g setting run is (run_goes g stands exact setting run is).tells

-- The same of the runs that a fleet accepts.

pub exact_run : {N : Type 0} {g : Ghosts N} {stands : N → Life → Type 0} → IsExact g stands → (setting : Setting) (run : List (NodeStep N))
    → IsRun g setting run → steps_of run ≡ chronicle setting (events_of (steps_of run))
exact_run {g = g} exact setting run is = admitted_exact_run exact setting run (run_is_admitted g setting run is)

pub exact_tells : {N : Type 0} {g : Ghosts N} {stands : N → Life → Type 0} → IsExact g stands → (setting : Setting) (run : List (NodeStep N))
    → IsRun g setting run → TellsByWords run
exact_tells {g = g} {stands = stands} exact setting run is = (run_goes g stands exact setting run (run_is_admitted g setting run is)).tells

pub exact_history : {N : Type 0} {g : Ghosts N} {stands : N → Life → Type 0} → IsExact g stands → (setting : Setting) (run : List (NodeStep N))
    → IsRun g setting run → IsHistory setting (events_of (steps_of run))
exact_history {g = g} exact setting run is = run_is_history g setting run is (exact_tells exact setting run is)
