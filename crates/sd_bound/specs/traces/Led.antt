-- Ways from a device that acts, whose other devices remain in their places, all later than a reference up to an event, the top.
use Rattle.std.specs.Prelude.{◌≡◌, ℕ, zero, suc, ◌<◌, ◌≤◌, Bool, true, false, List, length, Some, IsTrue}
use Rattle.sd_plan.specs.declared.topo.Thing.{Thing}
use Rattle.sd_plan.specs.declared.topo.Thing.TheVariants as thing
use Rattle.sd_plan.specs.declared.domain.DomainId.{DomainId}
use Rattle.sd_plan.specs.declared.Hop.{Hop}
use Rattle.sd_checker.specs.check_loop.Loops.{is_walk}
use Rattle.sd_device.specs.declared.msg.Stamp.{Stamp}
use Rattle.sd_history.specs.World.{Setting}
use Rattle.sd_history.specs.Steps.{acts_in}
use Rattle.sd_safety.specs.invariant.Eras.{is_among, moved}
use Rattle.sd_safety.specs.messages.Moments.{Moment, upto, when, IsIn, IsBefore}
use Rattle.sd_safety.specs.messages.Traces.{Trace, begins, goes_on}
use Rattle.sd_bound.specs.timeouts.Settled.{the_plan, IsSoundMember, hop_on}

-- the device has moved, or has not, and does not act
abbrev pub Remains : Moment → ℕ → ℕ → Bool → Type 0
Remains top s0 y put = (q : Moment) → IsIn q (upto top) → s0 < when q → (moved q.earlier y ≡ put) × (acts_in q.earlier y ≡ false)

-- the device acts, from the reference up to the moment
abbrev pub ActsSince : Moment → ℕ → ℕ → Type 0
ActsSince top s0 x = (q : Moment) → IsIn q (upto top) → s0 < when q → acts_in q.earlier x ≡ true

-- this many hops from the source to the device: each device remains on the hop that leads to the one before it
pub data Led (setting : Setting) (epoch : ℕ) (failed : List Thing) (top : Moment) (s0 source : ℕ) : ℕ → ℕ → Type 0 where
  at_source : Led setting epoch failed top s0 source source zero
  onward : {x n : ℕ} → Led setting epoch failed top s0 source x n → (y : ℕ) (put : Bool) (hop : Hop) → IsSoundMember setting epoch failed y
      → hop_on (the_plan setting epoch) put y ≡ Some hop → hop.parent ≡ x
      → is_among failed (thing.Link hop.link) ≡ false → Remains top s0 y put → Led setting epoch failed top s0 source y (suc n)

-- after the moment, up to the top, the device remains where it is
abbrev pub RemainsAfter : Moment → Moment → ℕ → Bool → Type 0
RemainsAfter from top y put = (q : Moment) → IsIn q (upto top) → IsBefore from q → (moved q.earlier y ≡ put) × (acts_in q.earlier y ≡ false)

-- each device of a trace remains where it was when the round came to it
abbrev pub Stands : {setting : Setting} {stamp : Stamp} {epoch : ℕ} {first : Moment} {source m : ℕ} {p : Moment} {d : ℕ}
    → Trace setting stamp epoch first source m p d → Moment → Type 0
Stands (begins message emits carries epoch_is) top = Unit {0}
Stands (goes_on {to = to} {d = d} trace hop) top = Stands trace top × RemainsAfter to top d (moved to.earlier d)

-- no walk from the device is longer
abbrev pub IsWithin : Setting → ℕ → DomainId → ℕ → ℕ → Type 0
IsWithin setting epoch f y k = (hops : List Hop) → IsTrue (is_walk setting.net (the_plan setting epoch) f y hops) → length hops ≤ k
