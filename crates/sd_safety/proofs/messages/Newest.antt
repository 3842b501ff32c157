-- While a round is on its way it is the newest of its epoch: the next one is emitted later than all of it was received.
use Rattle.std.specs.Prelude.{ℕ, ◌+◌, ◌*◌, ◌≤◌, List, ◌⊎◌}
use Rattle.std.proofs.Common.{arith, inl, inr}
use Rattle.sd_plan.specs.topo.Network.{greatest_delay, least_low}
use Rattle.sd_device.specs.declared.msg.Stamp.{Stamp}
use Rattle.sd_device.specs.declared.msg.Message.{Message}
use Rattle.sd_history.specs.World.{Setting}
use Rattle.sd_history.specs.Steps.{Step}
use Rattle.sd_safety.specs.messages.Moments.{IsChronicle, Moment, when, IsIn, Emits}
use Rattle.sd_safety.specs.messages.Stamping.{IsUpTo}
use Rattle.sd_safety.specs.messages.Rounds.{IsNewest, IsSpaced, AreDistinct, IsOnlyEmission}
use Rattle.sd_safety.proofs.messages.Tails.{tail_trans, rest_of, tail_chronicle, before_is_earlier}
use Rattle.sd_safety.proofs.messages.Overlap.{IsApart}

-- at each moment that is no later than 2(H + 1) greatest delays after the emission
pub newest_in_time : (setting : Setting) (steps : List Step) (stamp : Stamp) (epoch : ℕ) (start q : Moment) → IsChronicle setting steps → IsIn q steps
    → IsApart setting.net → IsSpaced setting steps stamp epoch start
    → when q ≤ when start + 2 * (setting.net.params.depth + 1) * greatest_delay setting.net → IsNewest stamp epoch q
newest_in_time setting steps stamp epoch start q is here apart spaced soon p before x m emits epoch_is =
    by_kind (spaced p (tail_trans before (rest_of here)) x m emits epoch_is)
  where
    by_kind : IsUpTo m.stamp stamp ⊎ (when start + least_low setting.net setting.net.params.period ≤ when p) → IsUpTo m.stamp stamp
    by_kind (inl up) = up
    by_kind (inr late) =
        let less = before_is_earlier setting p q (tail_chronicle setting here is) before in
        absurd (omega (arith, less, late, soon, apart))

-- where no two emissions have one stamp, each is the only one of its round
pub only_of_distinct : (steps : List Step) (start : Moment) (source : ℕ) (m : Message) → AreDistinct steps → IsIn start steps → Emits start source m
    → IsOnlyEmission steps m.stamp start source
only_of_distinct steps start source m distinct here emits p in_ x n emits' carries = distinct p start in_ here x source n m emits' emits carries
