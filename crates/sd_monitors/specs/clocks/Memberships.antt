-- For which plans rows of devices and of links stand.
use Rattle.std.specs.Prelude.{◌≡◌, ℕ, Bool, true, List, map}
use Rattle.sd_num.specs.Lists.{at_place}
use Rattle.sd_plan.specs.topo.Network.{device_numbers, link_numbers}
use Rattle.sd_plan.specs.Plans.{is_member, is_present}
use Rattle.sd_history.specs.World.{Setting}

-- by plan and then by device: whether the device is a member
abbrev pub AreMembers : Setting → List (List Bool) → Type 0
AreMembers setting rows = rows ≡ map (λ plan. map (is_member plan) (device_numbers setting.net)) setting.plans

-- by plan and then by link: whether the plan does not leave the link out
abbrev pub ArePresent : Setting → List (List Bool) → Type 0
ArePresent setting rows = rows ≡ map (λ plan. map (is_present plan) (link_numbers setting.net)) setting.plans

-- the flag of a device or link in the row at a place, true where there is none
abbrev pub flag_at : List (List Bool) → ℕ → ℕ → Bool
flag_at rows place d = at_place rows place true (λ row. at_place row d true (λ flag. flag))
