use Rattle.std.proofs.Common.{◌≡◌, Bool, true, false, not, refl, sym, ◌∙◌, ap, below_more}
use mathlib.Core.Bool.{beq}
use Rattle.sd_plan.specs.declared.topo.Thing.TheVariants.{Link}
use Rattle.sd_world.specs.world.Registers.{Registers, failed_at}
use Rattle.sd_resume.specs.Fleets.{world_of}
use Rattle.sd_resume.proofs.worlds.compare_links.Goals as goal

same : (a b : Bool) → not (beq a b) ≡ false → a ≡ b
same true true is = refl
same false false is = refl
same true false is = cc
same false true is = cc

pub loop-l-preserved : goal.loop-l-preserved
loop-l-preserved c =
    below_more (λ l. failed_at (world_of c.args.first.now) (Link l) ≡ failed_at (world_of c.args.second.now) (Link l)) c.loop-l.l c.loop-l.invariant
    (ap (λ (w : Registers). failed_at w (Link c.loop-l.l)) (sym c.world-one.ensures.world) ∙ sym c.has_failed.ensures
    ∙ same c.has_failed.result c.has_failed-in-loop-l.result c.if-has_failed.false ∙ c.has_failed-in-loop-l.ensures
    ∙ ap (λ (w : Registers). failed_at w (Link c.loop-l.l)) c.world-other.ensures.world)
