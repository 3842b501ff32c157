use Rattle.std.proofs.Common.{append_assoc}
use Rattle.sd_device_c.specs.Kept.{duty_bytes}
use Rattle.sd_device_c.proofs.unpacking.next_duty.Goals as goal

pub returns-clause-bytes : goal.returns-clause-bytes
unfolding duty_bytes
returns-clause-bytes c =
    rw (c.next_edge.ensures.bytes, c.next_edge-2.ensures.bytes, c.next_u64-period.ensures.bytes, c.next_u64-wait_first.ensures.bytes, c.next_u64-wait_second.ensures.bytes, c.next_u64-wait.ensures.bytes, c.next_rates.ensures.bytes, c.next_u32-epoch.ensures.bytes, c.next_u8-role.ensures.bytes, c.next_u8-has_primary.ensures.bytes, c.next_u8-has_backup.ensures.bytes)
    (simp append_assoc)
