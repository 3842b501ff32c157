-- What the plan in force is, in a history over guarded plans: it keeps the rules of structure, root and backup root are members and differ, and its waits
-- keep the rules of timing. Root and backup root do not fail in one era.
use Rattle.std.specs.Prelude.{◌≡◌, ℕ, Bool, true, false, ◌&&◌, ◌||◌, not, List, nat_eq, Option, Some, None, refl, if◌then◌else◌}
use Rattle.std.proofs.lemmas.Bool.{false_from_ne_true}
use Rattle.sd_plan.specs.topo.Network.{Network}
use Rattle.sd_plan.specs.declared.topo.Thing.{Thing}
use Rattle.sd_plan.specs.declared.topo.Thing.TheVariants as thing
use Rattle.sd_plan.specs.domain.Domains.{domains, holds_device, hits}
use Rattle.sd_plan.specs.declared.Plan.{Plan}
use Rattle.sd_plan.specs.Plans.{Fits, is_member}
use Rattle.sd_plan.specs.Walks.{path}
use Rattle.sd_plan.proofs.Rules.{KeepsRules, keeps_rules}
use Rattle.sd_checker.specs.check_root.Timing.{round_gap}
use Rattle.sd_checker.specs.check_root.Roots.{root_breach, fallback_breach}
use Rattle.sd_checker.specs.Conditions.{RootHolds}
use Rattle.sd_safety.specs.invariant.Guarded.{IsGuarded, AreGuarded}
use Rattle.sd_num.proofs.Shared.{unequal_swap}
use Rattle.sd_sched.specs.declared.Event.{Event}
use Rattle.sd_history.specs.World.{Setting}
use Rattle.sd_history.specs.Steps.{Step}
use Rattle.sd_history.specs.Chronicle.{chronicle}
use Rattle.sd_history.specs.Admitted.{IsAdmitted}
use Rattle.sd_history.proofs.Shared.{each_among}
use Rattle.sd_safety.specs.invariant.Bounds.{IsTimedBy, losses, depth, delay, tick_gap, first_low, first_up, second_low, second_up, wait_low}
use Rattle.sd_safety.specs.invariant.Eras.{plan_now, failed_now, device_failed_now}
use Rattle.sd_safety.proofs.invariant.Timed.{timed_by}
use Rattle.sd_safety.proofs.invariant.Domains.{Holding, held}
use Rattle.sd_safety.proofs.invariant.InForce.{in_force_too}
use Rattle.sd_safety.proofs.invariant.Sides.{not_both}
use Rattle.sd_safety.proofs.windows.Roots.{backup_root_member}

pub record IsSound (net : Network) (plan : Plan) : Type 0 where
  pub guarded : IsGuarded net plan
  pub fits : Fits net plan
  pub rules : KeepsRules net plan
  pub backup_member : is_member plan plan.backup_root ≡ true
  pub apart : nat_eq plan.backup_root plan.root ≡ false
  pub timed : IsTimedBy (losses net) (depth net) (delay net) (round_gap net) (tick_gap net) (first_low net plan) (first_up net plan) (second_low net plan)
      (second_up net plan) (wait_low net plan)

pub roots_by : (m n s : Bool) (r b : ℕ) → (if not m then Some r else if not n || s then Some b else None) ≡ None → (n ≡ true) × (s ≡ false)
roots_by true true false r b none = (refl, refl)
roots_by true true true r b none = cc
roots_by true false s r b none = cc
roots_by false n s r b none = cc

pub sound_now : (setting : Setting) (history : List Event) → AreGuarded setting → IsAdmitted setting history
    → IsSound setting.net (plan_now setting (chronicle setting history))
sound_now setting history fair is =
    let plan = plan_now setting (chronicle setting history) in
    let guarded : IsGuarded setting.net plan = in_force_too (IsGuarded setting.net) setting history fair.guarded fair.some_plan is in
    let structured = guarded.structure in
    let roots = backup_root_member setting.net plan structured in
    record {
      guarded = guarded;
      fits = in_force_too (Fits setting.net) setting history fair.fit fair.some_plan is;
      rules = keeps_rules setting.net plan structured;
      backup_member = roots.0;
      apart = unequal_swap plan.root plan.backup_root roots.1;
      timed = timed_by setting.net plan fair.network.tick.0 guarded.timing;
    }

-- root and backup root are not both in one domain
not_both_roots : (r b hit_ : Bool) (one : Option Thing) (x : Thing) → (if r && b then Some x else if hit_ then one else None) ≡ None → r ≡ true → b ≡ false
not_both_roots true true hit_ one x none is = cc
not_both_roots true false hit_ one x none is = refl
not_both_roots false b hit_ one x none is = cc

pub not_both_failed : (setting : Setting) (steps : List Step) → Holding setting steps → IsGuarded setting.net (plan_now setting steps)
    → device_failed_now steps (plan_now setting steps).root ≡ true
    → device_failed_now steps (plan_now setting steps).backup_root ≡ false
not_both_failed setting steps h guarded failed =
    let net = setting.net in
    let plan = plan_now setting steps in
    let f = h.domain in
    let holds_ : root_breach net plan f ≡ None = each_among (RootHolds net plan) (domains net) f guarded.root h.among in
    let off : holds_device net f plan.backup_root ≡ false =
    not_both_roots (holds_device net f plan.root) (holds_device net f plan.backup_root) (hits net f (path net plan plan.backup_root))
    (fallback_breach net plan f) (thing.Device plan.backup_root) holds_
    (held net f (failed_now steps) (thing.Device plan.root) h.all failed) in
    false_from_ne_true (device_failed_now steps plan.backup_root)
    (λ is. not_both (holds_device net f plan.backup_root) (held net f (failed_now steps) (thing.Device plan.backup_root) h.all is) off)
