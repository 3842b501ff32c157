use Rattle.std.proofs.Common.{append_assoc}
use Rattle.sd_device_c.specs.Kept.{device_bytes}
use Rattle.sd_device_c.proofs.unpacking.next_device.Goals as goal

pub returns-clause-bytes : goal.returns-clause-bytes
unfolding device_bytes
returns-clause-bytes c =
    rw (c.next_duty.ensures.bytes, c.next_duty-2.ensures.bytes, c.next_estimate.ensures.bytes, c.next_stamp.ensures.bytes, c.next_rates.ensures.bytes, c.next_u64-last.ensures.bytes, c.next_u64-sent.ensures.bytes, c.next_u8-has_duty.ensures.bytes, c.next_u8-has_given.ensures.bytes, c.next_u8-mode.ensures.bytes, c.next_u8-sealed.ensures.bytes)
    (simp append_assoc)
