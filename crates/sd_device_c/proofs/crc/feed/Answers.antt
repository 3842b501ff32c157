use Rattle.std.proofs.Common.{◌≡◌, ℕ, ◌+◌, ap, sym, ◌∙◌, bit_xor, add-one}
use Rattle.sd_device_c.specs.Crc.{turned, turns}
use Rattle.sd_device_c.proofs.crc.feed.Goals as goal

turns_more : (k r : ℕ) → turns (k + 1) r ≡ turned (turns k r)
unfolding turns
turns_more k r = rw (add-one k)

pub loop-init : goal.loop-init
unfolding turns
loop-init c = ap (bit_xor c.args.register) c.from.ensures

pub loop-preserved : goal.loop-preserved
loop-preserved c =
    c.turn-after.ensures ∙ ap turned c.loop.invariant ∙ sym (turns_more c.loop.counter (bit_xor c.args.register c.args.byte))
