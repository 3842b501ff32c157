-- Every history has a run of devices, whose steps are its chronicle: so runs of devices and histories say the same.
use Rattle.std.specs.Prelude.{◌≡◌, ℕ, Bool, true, false, ◌&&◌, not, List, [], ◌∷◌, nat_eq, Option, Some, None, option_map, refl, if◌then◌else◌}
use Rattle.std.proofs.Common.{sym, ◌∙◌, ap, subst}
use Rattle.std.proofs.lemmas.Bool.{eqb-true, eq-eqb, not-false}
use Rattle.sd_num.specs.Lists.{map_or, same_number}
use Rattle.sd_device.specs.declared.Effect.TheVariants.{Quiet}
use Rattle.sd_device.specs.declared.registers.Registers.{Registers}
use Rattle.sd_device.specs.contracts.device.DeviceNode.TheImpl.{ghosts as device}
use Rattle.sd_device.specs.Calls.{Making, Call, Past}
use Rattle.sd_device.specs.Living.{Life}
use Rattle.sd_device.specs.Words.{after, effect_of, report_at}
use Rattle.sd_device.specs.Lives.{past_of, longer, IsOrderly}
use Rattle.sd_device.specs.Rules.{made, called}
use Rattle.sd_device.specs.Standing.{StandsFor, alone, registers_of}
use Rattle.sd_device.proofs.Exactness.{made_is, device_is_exact}
use Rattle.sd_sched.specs.declared.Event.{Event}
use Rattle.sd_sched.specs.Events.{device_of}
use Rattle.sd_history.specs.World.{Setting, is_up}
use Rattle.sd_history.specs.Steps.{Act, Makes, Calls, Asks, Passes, tells_nothing, tells_made, tells_called, Step, seen_of, changed, act_by, step_of}
use Rattle.sd_history.specs.Lives.{life_in, life_after}
use Rattle.sd_history.specs.Refusals.{refusal}
use Rattle.sd_history.specs.Chronicle.{answers_by, new_past, past_in, past_after, told_by, next_step, chronicle, IsHistory}
use Rattle.sd_history.specs.Nodes.{NodeStep, steps_of, node_in, node_before, IsMade, IsCalled, IsAsked, Allows, IsRun}
use Rattle.sd_history.specs.Admitted.{Admits, IsAdmitted, IsAdmittedRun}
use Rattle.sd_history.proofs.Admitted.{history_is_admitted}
use Rattle.sd_history.proofs.Clear.{clear}
use Rattle.sd_history.proofs.Known.{up_has_past}
use Rattle.sd_history.proofs.Given.{some_is}
use Rattle.sd_history.proofs.Bridges.{past_of_life}
use Rattle.sd_history.proofs.Readings.{IsOf, addresses, act_is_of, AllRead, history_reads}
use Rattle.sd_history.proofs.Exactness.{Lives, run_goes, answers_are}

-- the registers of a device, by the words of its past
abbrev registers_in : List Step → ℕ → Option Registers
registers_in steps d = option_map registers_of (past_in steps d)

-- a step with the registers of the device that it changed
abbrev with_registers : List Step → Step → NodeStep Registers
with_registers earlier s = record { step = s; node = map_or (changed s.act) None (registers_in (s ∷ earlier)) }

-- the run of a chronicle
abbrev run_of : List Step → List (NodeStep Registers)
run_of [] = []
run_of (s ∷ earlier) = with_registers earlier s ∷ run_of earlier

steps_are : (steps : List Step) → steps_of (run_of steps) ≡ steps
steps_are [] = refl
steps_are (s ∷ earlier) = ap (λ steps. s ∷ steps) (steps_are earlier)

node_when : (steps : List Step) (o : Option Registers) (m d : ℕ) (q : Option Past → Option Past) (b : Bool) → nat_eq m d ≡ b
    → (b ≡ true → o ≡ option_map registers_of (q (past_in steps d)))
    → map_or (if b then Some o else None) (registers_in steps d) (λ told. told) ≡ option_map registers_of (if b then q (past_in steps d) else past_in steps d)
node_when steps o m d q true equal is = is refl
node_when steps o m d q false equal is = refl

nodes_by : (steps : List Step) (s : Step) (act : Act) (d : ℕ) → s.act ≡ act
    → map_or (if same_number (changed act) d then Some (map_or (changed act) None (registers_in (s ∷ steps))) else None) (registers_in steps d) (λ told. told)
    ≡ option_map registers_of (past_after act d (past_in steps d))
nodes_by steps s (Makes m making) d is =
    node_when steps (registers_in (s ∷ steps) m) m d (λ p. Some (new_past making)) (nat_eq m d) refl
    (λ equal.
    ap (λ a. option_map registers_of (past_after a m (past_in steps m))) is
    ∙ ap (λ b. option_map registers_of (if b then Some (new_past making) else past_in steps m)) (eq-eqb m m refl))
nodes_by steps s (Calls m call) d is =
    node_when steps (registers_in (s ∷ steps) m) m d (option_map (λ past. after past call)) (nat_eq m d) refl
    (λ equal.
    ap (λ a. option_map registers_of (past_after a m (past_in steps m))) is
    ∙ ap (λ b. option_map registers_of (if b then option_map (λ past. after past call) (past_in steps m) else past_in steps m)) (eq-eqb m m refl)
    ∙ ap (λ c. option_map registers_of (option_map (λ past. after past call) (past_in steps c))) (eqb-true m d equal))
nodes_by steps s (Asks m counter) d is = refl
nodes_by steps s Passes d is = refl

nodes_are : (steps : List Step) (d : ℕ) → node_in (run_of steps) d ≡ registers_in steps d
nodes_are [] d = refl
nodes_are (s ∷ earlier) d =
    ap (λ o. map_or (if same_number (changed s.act) d then Some (map_or (changed s.act) None (registers_in (s ∷ earlier))) else None) o (λ told. told))
    (nodes_are earlier d)
    ∙ nodes_by earlier s s.act d refl

-- A device that is called or asked is up, and has a past.

started_by : (a : Bool) (dev : Option ℕ) (up : ℕ → Bool) (d : ℕ) → (a && map_or dev false (λ x. not (up x))) ≡ false → a ≡ true → dev ≡ Some d
    → up d ≡ true
started_by true None up d ok some named = cc
started_by true (Some x) up d ok some named = subst (λ y. up y ≡ true) (some_is named) (not-false (up x) ok)
started_by false dev up d ok some named = cc

-- an accepted event that calls or asks a device
is_there : (setting : Setting) (history : List Event) (e : Event) (d : ℕ) → Admits setting (chronicle setting history) e → addresses e ≡ true
    → device_of e ≡ Some d → (past : Past) × (past_in (chronicle setting history) d ≡ Some past)
is_there setting history e d none calls_ named =
    up_has_past setting history d
    (started_by (addresses e) (device_of e) (is_up (seen_of (chronicle setting history))) d
    (clear setting (chronicle setting history) e none).device_up calls_
    named)

-- What the kind allows

pair_is : {A B : Type 0} (by : A × B) (a : A) (b : B) → by.0 ≡ a → by.1 ≡ b → by ≡ (a, b)
pair_is {A = A} {B = B} by a b first_ second_ = ap (λ x. mk x by.1) first_ ∙ ap (mk a) second_
  where
    mk : A → B → A × B
    mk x y = (x, y)

module _ (setting : Setting) (history : List Event) (runs : IsAdmittedRun device setting (run_of (chronicle setting history))) (e : Event)
    (admitted : IsAdmitted setting (e ∷ history)) where
  abbrev steps : List Step
  steps = chronicle setting history

  abbrev s : Step
  s = next_step setting steps e

  -- the device of a past, and the life for which it stands
  lives_of : (d : ℕ) (past : Past) → past_in steps d ≡ Some past → Lives StandsFor (life_in steps d) (registers_of past)
  lives_of d past is =
      subst (λ x. Lives StandsFor (life_in x d) (registers_of past)) (steps_are steps)
      ((run_goes device StandsFor device_is_exact setting (run_of steps) runs).live d (registers_of past)
      (nodes_are steps d ∙ ap (option_map registers_of) is))

  all_read : AllRead (s ∷ steps)
  all_read = history_reads setting (e ∷ history) admitted

  -- the act is the event's
  module _ (act : Act) (is : s.act ≡ act) (of_ : IsOf e act) where
    -- a life with the act is orderly
    orderly : (d : ℕ) (life : Life) → life_after act d (life_in steps d) ≡ Some life → IsOrderly life
    orderly d life here = (all_read d life (ap (λ a. life_after a d (life_in steps d)) is ∙ here)).orderly

    left_is : (d : ℕ) → registers_in (s ∷ steps) d ≡ option_map registers_of (past_after act d (past_in steps d))
    left_is d = ap (λ a. option_map registers_of (past_after a d (past_in steps d))) is

  allows_made : (m : ℕ) (by : Making) → s.act ≡ Makes m by → IsOf e (Makes m by)
      → IsMade device by (told_by steps (Makes m by)) (registers_in (s ∷ steps) m)
  allows_made m by is of_ =
      let own : IsOrderly (alone by) =
      orderly (Makes m by) is of_ m (alone by) (ap (λ b. if b then Some (alone by) else life_in steps m) (eq-eqb m m refl)) in
      record {
        node = made by;
        made = refl;
        tells = ap tells_made (sym (answers_are device StandsFor device_is_exact (made by) (alone by) (device_is_exact.made by (made by) refl) own));
        left =
            left_is (Makes m by) is of_ m ∙ ap (λ b. option_map registers_of (if b then Some (new_past by) else past_in steps m)) (eq-eqb m m refl)
            ∙ ap Some (sym (made_is by));
      }

  allows_called : (m : ℕ) (call : Call) → s.act ≡ Calls m call → IsOf e (Calls m call)
      → IsCalled device (node_in (run_of steps) m) call (told_by steps (Calls m call)) (registers_in (s ∷ steps) m)
  allows_called m call is of_ =
      record {
        old = registers_of past;
        node = registers_of (after past call);
        effect = effect_of past call;
        there = nodes_are steps m ∙ ap (option_map registers_of) has;
        stepped = pair_is (called (registers_of past) call) (registers_of (after past call)) (effect_of past call) next.are sends;
        tells =
            ap (λ p. map_or p tells_nothing (λ q. tells_called (effect_of q call) (answers_by (after q call)))) has
            ∙ ap (tells_called (effect_of past call))
            (sym (answers_are device StandsFor device_is_exact (registers_of (after past call)) (longer life call)
            (subst (λ r. StandsFor r (longer life call)) next.are next) own));
        left =
            left_is (Calls m call) is of_ m
            ∙ ap (λ b. option_map registers_of (if b then option_map (λ p. after p call) (past_in steps m) else past_in steps m)) (eq-eqb m m refl)
            ∙ ap (λ p. option_map registers_of (option_map (λ q. after q call) p)) has;
      }
    where
      there : (past : Past) × (past_in steps m ≡ Some past)
      there = is_there setting history e m admitted.1 of_.4 of_.1

      lives : Lives StandsFor (life_in steps m) (registers_of there.0)
      lives = lives_of m there.0 there.1

      life : Life
      life = lives.life

      past : Past
      past = past_of life

      has : past_in steps m ≡ Some past
      has = past_of_life steps m ∙ ap (option_map past_of) lives.is

      stands : StandsFor (registers_of past) life
      stands = subst (λ r. StandsFor r life) lives.stands.are lives.stands

      own : IsOrderly (longer life call)
      own =
          orderly (Calls m call) is of_ m (longer life call)
          (ap (λ b. if b then option_map (λ l. longer l call) (life_in steps m) else life_in steps m) (eq-eqb m m refl)
          ∙ ap (option_map (λ l. longer l call)) lives.is)

      next : StandsFor (called (registers_of past) call).0 (longer life call)
      next = device_is_exact.called (registers_of past) (called (registers_of past) call).0 call (called (registers_of past) call).1 life refl stands own

      sends : (called (registers_of past) call).1 ≡ effect_of past call
      sends = device_is_exact.sent (registers_of past) (called (registers_of past) call).0 call (called (registers_of past) call).1 life refl stands own

  allows_asked : (m counter : ℕ) → IsOf e (Asks m counter) → IsAsked device (node_in (run_of steps) m) counter (told_by steps (Asks m counter)) None
  allows_asked m counter of_ =
      let there : (past : Past) × (past_in steps m ≡ Some past) = is_there setting history e m admitted.1 of_.2 of_.1 in
      record {
        node = registers_of there.0;
        report = report_at there.0 counter;
        there = nodes_are steps m ∙ ap (option_map registers_of) there.1;
        reported = refl;
        tells = ap (λ p. record { effect = Quiet; answers = None; report = option_map (λ past. report_at past counter) p }) there.1;
        left = refl;
      }

  allows_act : (act : Act) → s.act ≡ act → IsOf e act
      → Allows device (node_before (run_of steps) act) act (told_by steps act) (map_or (changed act) None (registers_in (s ∷ steps)))
  allows_act (Makes m by) is of_ = allows_made m by is of_
  allows_act (Calls m call) is of_ = allows_called m call is of_
  allows_act (Asks m counter) is of_ = allows_asked m counter of_
  allows_act Passes is of_ = (refl, refl)

-- Whole histories

pub admitted_history_runs : (setting : Setting) (history : List Event) → IsAdmitted setting history → IsAdmittedRun device setting (run_of (chronicle setting history))
admitted_history_runs setting [] is = tt
admitted_history_runs setting (e ∷ earlier) is =
    let steps_ = chronicle setting earlier in
    let before : IsAdmittedRun device setting (run_of steps_) = admitted_history_runs setting earlier is.0 in (
      before,
      subst (λ x. Admits setting x e) (sym (steps_are steps_)) is.1,
      record {
        is = ap (λ x. step_of setting x e (told_by steps_ (act_by setting steps_ e))) (sym (steps_are steps_));
        allowed = allows_act setting earlier before e is (act_by setting steps_ e) refl (act_is_of setting steps_ e);
      },
    )

pub history_runs : (setting : Setting) (history : List Event) → IsHistory setting history → IsRun device setting (run_of (chronicle setting history))
history_runs setting [] is = tt
history_runs setting (e ∷ earlier) is = (
  history_runs setting earlier is.0,
  subst (λ x. refusal setting x e ≡ None) (sym (steps_are (chronicle setting earlier))) is.1,
  (admitted_history_runs setting (e ∷ earlier) (history_is_admitted setting (e ∷ earlier) is)).2,
)

-- a run of devices with this chronicle
pub record HasRun (setting : Setting) (history : List Event) : Type 0 where
  pub run : List (NodeStep Registers)
  pub runs : IsRun device setting run
  pub steps : steps_of run ≡ chronicle setting history

pub history_has_run : (setting : Setting) (history : List Event) → IsHistory setting history → HasRun setting history
history_has_run setting history is =
    record { run = run_of (chronicle setting history); runs = history_runs setting history is; steps = steps_are (chronicle setting history) }
