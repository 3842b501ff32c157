-- A pause that is in time.
use Rattle.std.specs.Prelude.{◌≡◌, ℕ, ◌≤◌, true, IsTrue}
use Rattle.std.proofs.Common.{arith}
use Rattle.std.proofs.lemmas.Bool.Decides.{nat_tests}
use Rattle.sd_num.specs.declared.Rates.{Rates}
use Rattle.sd_num.specs.Numbers.{keeps_rate}
use Rattle.sd_num.proofs.Drift.{at_most_up}
use Rattle.sd_device_c.specs.Pauses.{is_in_time}

-- no more than a tick passed while the counter advanced so far
pub pause_passes : (rates : Rates) (tick advance passed : ℕ) → is_in_time rates tick advance ≡ true → IsTrue (keeps_rate rates advance passed)
    → passed ≤ tick
pause_passes rates tick advance passed in_time keeps =
    let most = at_most_up rates advance passed keeps in
    grind (arith, nat_tests, most, in_time)
