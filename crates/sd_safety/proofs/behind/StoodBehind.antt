-- A device that stands behind the backup root has stood so at each event of the era later than it heard.
use Rattle.std.specs.Prelude.{◌≡◌, ℕ, ◌<◌, true, List, ◌∷◌}
use Rattle.std.proofs.Common.{◌∙◌, ap}
use Rattle.std.proofs.lemmas.Bool.{false_from_ne_true}
use Rattle.sd_num.specs.Lists.{same_number}
use Rattle.sd_plan.specs.declared.topo.Thing.{Thing}
use Rattle.sd_plan.specs.Walks.{epath}
use Rattle.sd_sched.specs.declared.Event.{Event}
use Rattle.sd_sched.specs.Events.{reference_of}
use Rattle.sd_history.specs.World.{Setting, plan_numbered}
use Rattle.sd_history.specs.Steps.{Step, epoch_in}
use Rattle.sd_history.specs.Chronicle.{chronicle, next_step}
use Rattle.sd_safety.specs.messages.Moments.{Tail}
use Rattle.sd_safety.specs.invariant.Eras.{era, plan_now, failed_now, is_among, touches, is_behind, on_primary, heard_at}
use Rattle.sd_safety.proofs.invariant.Sides.{not_both}
use Rattle.sd_safety.specs.timers.Times.{AreTimed}
use Rattle.sd_safety.proofs.waits.LookingBack.{Was, was_on_primary}
use Rattle.sd_safety.specs.behind.Feeding.{StandsBehind}
use Rattle.sd_safety.proofs.behind.Failing.{chronicle_tail}
use Rattle.sd_safety.proofs.behind.Broken.{touches_more}

pub stood_then : (setting : Setting) (history : List Event) → AreTimed setting (chronicle setting history) → (d : ℕ)
    → StandsBehind setting (chronicle setting history) d → (z : Event) (earlier : List Event) → Tail (z ∷ earlier) history
    → era (chronicle setting earlier) ≡ era (chronicle setting history)
    → ((y : Thing) → is_among (failed_now (chronicle setting earlier)) y ≡ true → is_among (failed_now (chronicle setting history)) y ≡ true)
    → heard_at (chronicle setting history) d < reference_of z → StandsBehind setting (chronicle setting earlier) d
stood_then setting history timed d st z earlier tail same grows late =
    let steps : List Step = chronicle setting history in
    let older : List Step = chronicle setting earlier in
    let cut : List Thing = epath setting.net (plan_now setting steps) d in
    let was : Was setting older steps d on_primary =
    was_on_primary setting history (next_step setting older z) older d (chronicle_tail setting (z ∷ earlier) history tail) timed late st.primary in
    record {
      old = ap (λ o. same_number o (era older)) was.epoch ∙ ap (same_number (epoch_in steps d)) same ∙ st.old;
      behind = ap (λ n. is_behind setting.net (plan_numbered setting n) d) same ∙ st.behind;
      primary = was.on;
      missed = ap (λ n. touches (failed_now older) (epath setting.net (plan_numbered setting n) d)) same
          ∙ false_from_ne_true (touches (failed_now older) cut)
          (λ is. not_both (touches (failed_now steps) cut) (touches_more (failed_now older) (failed_now steps) cut grows is) st.missed);
    }
