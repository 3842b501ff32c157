use Rattle.std.proofs.Common.{arith, append_assoc, ◌≡◌, ◌≤◌, length, take}
use Rattle.sd_device_c.specs.Kept.{kept_bytes, body_bytes, header_bytes, state_bytes}
use Rattle.sd_device_c.proofs.Saying.{is_written, title_is}
use Rattle.sd_device_c.proofs.keeping.write.Goals as goal

pub returns : goal.returns
unfolding kept_bytes body_bytes header_bytes state_bytes
returns c =
    let all : length c.put_u32.new.bytes ≤ c.put_u32.result =
    omega
    (arith, c.requires, c.put_u64-at.auto.bytes, c.put_u64-at-2.auto.bytes, c.put_device-at.auto.bytes, c.put_u64-at-3.auto.bytes, c.put_u64-at-4.auto.bytes, c.put_ports-at.auto.bytes, c.put_u32.auto.bytes, c.put_u64-at.ensures.end, c.put_u64-at-2.ensures.end, c.put_device-at.ensures.end, c.put_u64-at-3.ensures.end, c.put_u64-at-4.ensures.end, c.put_ports-at.ensures.end, c.put_u32.ensures.end) in
    let so_far : take c.put_ports-at.result c.put_ports-at.new.bytes ≡ body_bytes c.args.device.now c.args.ports.now c.args.lowered c.args.ticked =
    rw (c.put_ports-at.ensures.bytes, c.put_u64-at-4.ensures.bytes, c.put_u64-at-3.ensures.bytes, c.put_device-at.ensures.bytes, c.put_u64-at-2.ensures.bytes, c.put_u64-at.ensures.bytes, title_is)
    (simp append_assoc) in
    is_written c.put_u32.new.bytes c.put_ports-at.new.bytes (body_bytes c.args.device.now c.args.ports.now c.args.lowered c.args.ticked)
    c.put_ports-at.result c.put_u32.result c.crc-check.result c.put_u32.ensures.bytes c.crc-check.ensures so_far all
