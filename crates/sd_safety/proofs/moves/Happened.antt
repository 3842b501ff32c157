-- The step of a tick that takes up nothing, and that no window closes with it. And of the plan in force: its root and backup root are two members.
use Rattle.std.specs.Prelude.{◌≡◌, ℕ, ◌<◌, Bool, true, false, ◌&&◌, not, List, ◌∷◌, length, filter, nat_eq, nat_lt, Option, Some, None, option_map, refl}
use Rattle.std.proofs.Common.{◌∙◌, ap, sym}
use Rattle.std.proofs.lemmas.Bool.{and_from, lt-ltb, eqb-true, eq-eqb, false_from_ne_true, both_ways}
use Rattle.sd_num.specs.Lists.{map_or}
use Rattle.sd_plan.specs.topo.Network.{Network}
use Rattle.sd_plan.specs.declared.Plan.{Plan}
use Rattle.sd_plan.specs.Plans.{Fits, is_member}
use Rattle.sd_plan.specs.Structure.{structure_breach, roots_breach}
use Rattle.sd_plan.proofs.Rules.{KeepsRules, keeps_rules}
use Rattle.sd_device.specs.declared.msg.Flight.{Flight}
use Rattle.sd_safety.specs.invariant.Guarded.{IsGuarded, AreGuarded}
use Rattle.sd_checker.specs.check_root.Timing.{round_gap}
use Rattle.sd_num.proofs.Shared.{first_none}
use Rattle.sd_device.specs.Calls as calls
use Rattle.sd_device.specs.Calls.{Transition, Past}
use Rattle.sd_device.specs.Words.{transition_of, taken_up, effect_of}
use Rattle.sd_device.proofs.Reached.{added}
use Rattle.sd_sched.specs.declared.Event.{Event}
use Rattle.sd_sched.specs.declared.Event.TheVariants as event
use Rattle.sd_history.specs.World.{Setting, is_up}
use Rattle.sd_history.specs.Steps.{Calls, Told, tells_nothing, tells_called, Step, seen_of, flights_of, activated_by, acted_by, first_step}
use Rattle.sd_history.specs.Chronicle.{answers_by, past_in, told_by, chronicle}
use Rattle.sd_history.specs.Admitted.{IsAdmitted}
use Rattle.sd_safety.specs.invariant.Bounds.{IsTimedBy, losses, depth, delay, tick_gap, first_low, first_up, second_low, second_up, wait_low}
use Rattle.sd_safety.specs.invariant.Eras.{plan_now, belongs, root_failed}
use Rattle.sd_safety.specs.invariant.Clauses.{is_beginning}
use Rattle.sd_safety.specs.invariant.Invariant.{Core}
use Rattle.sd_safety.specs.invariant.Coming.{IsNextEvent}
use Rattle.sd_safety.proofs.invariant.Timed.{timed_by}
use Rattle.sd_safety.proofs.invariant.InForce.{in_force_too}
use Rattle.sd_safety.proofs.invariant.Sides.{implied}
use Rattle.sd_safety.proofs.invariant.Closings.{no_window_closes}
use Rattle.sd_safety.proofs.moves.Ticks as ticks
use Rattle.sd_safety.proofs.moves.Movers.{live, answers}
use Rattle.sd_safety.proofs.invariant.Facts.{roots_by}

unmapped : (o : Option ℕ) → option_map {U = ℕ × ℕ} (λ d. (1, d)) o ≡ None → o ≡ None
unmapped None is = refl
unmapped (Some x) is = cc

-- root and backup root
pub record HasRoots (net : Network) (plan : Plan) : Type 0 where
  pub rules : KeepsRules net plan
  pub root_within : plan.root < length net.devices
  pub backup_within : plan.backup_root < length net.devices
  pub backup_member : is_member plan plan.backup_root ≡ true
  pub apart : nat_eq plan.backup_root plan.root ≡ false
  pub timed : IsTimedBy (losses net) (depth net) (delay net) (round_gap net) (tick_gap net) (first_low net plan) (first_up net plan) (second_low net plan)
      (second_up net plan) (wait_low net plan)

-- after the beginning a root that did not fail is up
pub root_up : (setting : Setting) (steps : List Step) → Core setting steps → is_beginning setting steps ≡ false → HasRoots setting.net (plan_now setting steps)
    → root_failed setting steps ≡ false → is_up (seen_of steps) (plan_now setting steps).root ≡ true
root_up setting steps core begun roots kept =
    let plan : Plan = plan_now setting steps in
    implied (not (is_beginning setting steps) && belongs setting.net plan plan.root && not (root_failed setting steps)) (is_up (seen_of steps) plan.root)
    (core.census.members_up plan.root)
    (and_from (not (is_beginning setting steps) && belongs setting.net plan plan.root) (not (root_failed setting steps))
    (and_from (not (is_beginning setting steps)) (belongs setting.net plan plan.root) (ap not begun)
    (and_from (nat_lt plan.root (length setting.net.devices)) (is_member plan plan.root)
    (lt-ltb plan.root (length setting.net.devices) roots.root_within) roots.rules.root)) (ap not kept))

-- before any first event no window closes

pub roots_of : (setting : Setting) (history : List Event) → AreGuarded setting → IsAdmitted setting history
    → HasRoots setting.net (plan_now setting (chronicle setting history))
roots_of setting history fair is =
    let plan = plan_now setting (chronicle setting history) in
    let guarded : IsGuarded setting.net plan = in_force_too (IsGuarded setting.net) setting history fair.guarded fair.some_plan is in
    let formed : structure_breach setting.net plan ≡ None = guarded.structure in
    let fits : Fits setting.net plan = in_force_too (Fits setting.net) setting history fair.fit fair.some_plan is in
    let both = roots_by (is_member plan plan.root) (is_member plan plan.backup_root) (nat_eq plan.root plan.backup_root) plan.root plan.backup_root
    (unmapped (roots_breach plan) (first_none (option_map (λ d. (1, d)) (roots_breach plan)) _ formed)) in
    record {
      rules = keeps_rules setting.net plan formed;
      root_within = fits.root;
      backup_within = fits.backup_root;
      backup_member = both.0;
      apart = false_from_ne_true (nat_eq plan.backup_root plan.root)
          (λ is. both_ways (nat_eq plan.root plan.backup_root) both.1 (eq-eqb plan.root plan.backup_root (sym (eqb-true plan.backup_root plan.root is))));
      timed = timed_by setting.net plan fair.network.tick.0 guarded.timing;
    }

module _ (setting : Setting) (r d c : ℕ) (history : List Event) (comes : IsNextEvent setting history (event.Tick r d c)) (p : Past)
    (there : past_in (chronicle setting history) d ≡ Some p) where
  pub roots_then : HasRoots setting.net (plan_now setting (chronicle setting history))
  roots_then = roots_of setting history comes.fair comes.clean.is.0

  abbrev pub told : Told
  told = told_by (chronicle setting history) (Calls d (calls.Tick c))

  abbrev pub sent : List Flight
  sent = flights_of setting (chronicle setting history) r (Calls d (calls.Tick c)) told

  abbrev pub begun : Step
  begun = first_step setting (chronicle setting history) (event.Tick r d c) told

  abbrev pub reaching : List Flight
  reaching = filter (λ f. f.reaches) sent

  abbrev pub activated : Option ℕ
  activated = activated_by (chronicle setting history) begun

  abbrev pub acted : Bool
  acted = acted_by (chronicle setting history) (event.Tick r d c)

  module _ (transition : Transition) (transition_is : transition_of p (calls.Tick c) ≡ transition) where
    pub told_is : told.answers ≡ Some (answers_by (added p (calls.Tick c) transition))
    told_is =
        ap (λ o. (map_or o tells_nothing
        (λ past. tells_called (effect_of past (calls.Tick c)) (answers_by (added past (calls.Tick c) (transition_of past (calls.Tick c)))))).answers) there
        ∙ ap (λ x. Some (answers_by (added p (calls.Tick c) x))) transition_is

    abbrev pub now : List Step
    now = ticks.now setting (chronicle setting history) r d c reaching activated acted told sent p transition

    module _ (none : taken_up transition ≡ None) where
      pub now_is : chronicle setting (event.Tick r d c ∷ history) ≡ now
      now_is =
          ap (λ b. ticks.tick_step r d c reaching activated acted told sent b ∷ chronicle setting history)
          (ticks.closes_kept setting (chronicle setting history) r d c reaching None acted told sent p transition none
          (live setting r d c history comes p there) there (answers setting r d c history comes p there) transition_is told_is
          ∙ no_window_closes setting history)
