use Rattle.std.specs.Prelude.{◌≡◌, List, ◌∷◌, false}
use Rattle.std.proofs.Common.{arith, subst, sym, ◌∙◌, ap}
use Rattle.std.proofs.lemmas.Grind.{common_steps}
use Rattle.sd_sched.specs.declared.Event.{Event}
use Rattle.sd_history.specs.World.{Setting, Seen}
use Rattle.sd_world.specs.world.Registers.{Registers, registers_after}
use Rattle.sd_world.specs.world.Standing.{Stands}
use Rattle.sd_world.proofs.world.Keeping.{stands_after}
use Rattle.sd_world.proofs.world.World.observe.Goals as goal

after_of : (old new : Registers) (e : Event) → new ≡ registers_after old e → (setting : Setting) (seen : List Seen) (s : Seen) → s.event ≡ e → s.closed ≡ false
    → Stands old setting seen → Stands new setting (s ∷ seen)
after_of old new e same setting seen s is stays stands =
    subst (λ (r : Registers). Stands r setting (s ∷ seen)) (ap (λ (x : Event). registers_after old x) is ∙ sym same)
    (stands_after old setting seen s stays stands)

pub returns-clause-stands : goal.returns-clause-stands
returns-clause-stands c = after_of _ _ c.args.event.now (grind (arith, common_steps))
