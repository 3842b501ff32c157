use Rattle.sd_device.proofs.Exactness.{device_is_exact}
use Rattle.sd_device.proofs.device.DeviceExactNode.exact.Goals as goal

pub returns : goal.returns
returns c = device_is_exact
