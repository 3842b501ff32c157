-- What a page has after the line of a device.
use Rattle.std.specs.Prelude.{◌≡◌, ℕ, ◌++◌, Option, OnOk, Result}
use Rattle.sd_num.specs.declared.NoMemory.{NoMemory}
use Rattle.sd_io.specs.outside.Printed.{printed}
use Rattle.sd_plan.specs.topo.Network.{Network, device_name}
use Rattle.sd_drill_text.specs.Endings.{AreEndings}
use Rattle.sd_drill_text.specs.Printing.{line_behind}
use Rattle.sd_drill_text.specs.declared.page.Page.{Page}

-- the line of the device with this bound, or with none, is the last one; the fronts are as before, and the endings those of the devices
pub record HasLine (net : Network) (old new : Page) (d : ℕ) (bound : Option ℕ) (result : Result (Unit {0}) NoMemory) : Type 0 where
  pub text : OnOk result (new.text.items ≡ old.text.items ++ line_behind (printed old.bound_front) (printed old.nobound_front) (device_name net d) bound)
  pub bound_front : printed new.bound_front ≡ printed old.bound_front
  pub nobound_front : printed new.nobound_front ≡ printed old.nobound_front
  pub endings : AreEndings net new.endings.items
