-- What the bounds of a link's line promise of the exchanges over it.
use Rattle.std.specs.Prelude.{◌≡◌, ℕ, ◌-◌, List, nat_eq, slice_get, Some, IsTrue}
use Rattle.sd_num.specs.declared.Rates.{Rates}
use Rattle.sd_plan.specs.topo.Network.{Network, link_of}
use Rattle.sd_commands.specs.exchanges.Lines.{rates_on, span_after}
use Rattle.sd_commands.specs.exchanges.Spans.{Covers, IsHonestRun, IsWithinBounds, is_inside}
use Rattle.sd_commands.specs.declared.exchanges.Exchange.{Exchange}
use Rattle.sd_commands.specs.declared.exchanges.Span.{Span}
use Rattle.sd_commands.specs.declared.exchanges.ExchangeLine.{ExchangeLine}
use Rattle.sd_commands.specs.declared.exchanges.ExchangeLine.TheVariants.{Exchange as Exchanged}

-- the rates of the end that began an exchange over a link, and of the one that replied
abbrev pub beginner : Network → (link side : ℕ) → Rates
beginner net link side = rates_on net link (nat_eq side 0)

-- the rates of the end that replied
abbrev pub replier : Network → (link side : ℕ) → Rates
replier net link side = rates_on net link (nat_eq side 1)

-- both delays meet the topology's bounds of the link in each honest run
abbrev pub MeetsLink : Network → (link side : ℕ) → Exchange → Type 0
MeetsLink net link side x =
    (r1 r2 r3 r4 : ℕ) → IsHonestRun (beginner net link side) (replier net link side) x r1 r2 r3 r4
    → IsWithinBounds (link_of net link) (r2 - r1) × IsWithinBounds (link_of net link) (r4 - r3)

-- the link has a line for these lines of exchanges, and in each honest run of the exchange both delays lie from its min to its max; where the line says
-- `inside`, they meet the topology's bounds
pub record IsBounded (net : Network) (taken : List ExchangeLine) (link side : ℕ) (x : Exchange) : Type 0 where
  pub joint : Span × ℕ
  pub is_joint : span_after net taken link ≡ Some joint
  pub covers : Covers (beginner net link side) (replier net link side) x joint.0
  pub meets : IsTrue (is_inside (link_of net link) joint.0) → MeetsLink net link side x

-- each exchange that was taken is so
abbrev pub BoundsHold : Network → List ExchangeLine → Type 0
BoundsHold net taken = (i link side : ℕ) (x : Exchange) → slice_get taken i ≡ Some (Exchanged link side x) → IsBounded net taken link side x
