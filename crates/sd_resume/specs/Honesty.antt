-- When an opening is honest for the first of two histories, and the facts in which it is not.
use Rattle.std.specs.Prelude.{◌≡◌, ◌≢◌, ℕ, ◌≤◌, ◌<◌, min, Bool, true, false, ◌&&◌, ◌||◌, not, nat_le, List, length}
use Rattle.std.specs.List.{list_any}
use Rattle.sd_plan.specs.topo.Network.{Network, rates_of}
use Rattle.sd_plan.specs.declared.topo.Thing.{Thing}
use Rattle.sd_plan.specs.declared.topo.Thing.TheVariants.{Device, Link}
use Rattle.sd_plan.specs.domain.Things.{same_thing}
use Rattle.sd_plan.specs.declared.Plan.{Plan}
use Rattle.sd_history.specs.World.{Setting, Seen, setting_over, is_up, is_untouched, latest_reference, latest_reading}
use Rattle.sd_history.specs.Premises.{all_hold, readings, latest_tick, failures_since_closing}
use Rattle.sd_monitors.specs.declared.clocks.offsets.Offsets.{Offsets}
use Rattle.sd_monitors.specs.clocks.Readings.{least_offsets}
use Rattle.sd_monitors.specs.clocks.Owing.{is_awaited}
use Rattle.sd_premise.specs.Standing.{StandsFor, net_of}
use Rattle.sd_premise.specs.declared.premises.Premises.{Premises}
use Rattle.sd_resume.specs.law.Shifts.{Shift}
use Rattle.sd_resume.specs.law.Views.{LooksAlike}
use Rattle.sd_resume.specs.law.Law.{whole}
use Rattle.sd_resume.specs.law.Cuts.{keeps_with, IsHonestOpening}
use Rattle.sd_resume.specs.declared.differences.Dishonesty.{Dishonesty}
use Rattle.sd_resume.specs.declared.differences.Dishonesty.TheVariants as dishonesty

-- Of which histories it is said

-- this of any two histories over one network that look alike, and for which the premises stand
abbrev pub OfHistories : (first second : Premises) → (Setting → (one other : List Seen) → Type 0) → Type 0
OfHistories first second P =
    (shift : Shift) (net : Network) (front plans : List Plan) (one other : List Seen)
    → StandsFor first (whole net front plans) one → StandsFor second (setting_over net plans) other → LooksAlike shift one other
    → P (setting_over net plans) one other

-- The facts

-- the least offsets of the device's readings in its present life
abbrev pub offsets_in : Setting → List Seen → ℕ → Offsets
offsets_in setting seen d = least_offsets (rates_of setting.net d).ppm (readings seen d)

-- neither offset is greater than that of the other
abbrev pub are_at_most : (one other : Offsets) → Bool
are_at_most one other = nat_le one.lead other.lead && nat_le one.lag other.lag

-- the thing failed since the latest closing
abbrev pub failed_since : List Seen → Thing → Bool
failed_since seen x = list_any (same_thing x) (failures_since_closing seen)

-- the opening is not honest in this
abbrev pub IsDishonest : Setting → (one other : List Seen) → Dishonesty → Type 0
IsDishonest part one other dishonesty.Broken = all_hold part other ≡ false
IsDishonest part one other (dishonesty.Drift d) =
    (is_up other d ≡ true) × (are_at_most (offsets_in part one d) (offsets_in part other d) ≡ false)
IsDishonest part one other (dishonesty.Tick d) = (is_up other d ≡ true) × (latest_tick other d < latest_tick one d)
IsDishonest part one other (dishonesty.Awaited d) = (d < length part.net.devices) × (is_awaited part other d ≡ true)
IsDishonest part one other (dishonesty.Untouched d) = (is_untouched other d ≡ true) × (is_untouched one d ≡ false)
IsDishonest part one other (dishonesty.FailedSince x) = failed_since one x ≢ failed_since other x

-- of each two such histories the opening is not honest in this
abbrev pub AreDishonest : (first second : Premises) → Dishonesty → Type 0
AreDishonest first second what = OfHistories first second (λ part one other. IsDishonest part one other what)

-- the opening is honest, and in none of the facts it is not
pub record IsHonest (part : Setting) (one other : List Seen) : Type 0 where
  pub opening : IsHonestOpening part one other
  pub exactly : (what : Dishonesty) → IsDishonest part one other what → ⊥

-- Device by device, and thing by thing

-- a later reading of the device that keeps the rates with those of the first keeps them with those of the opening
abbrev pub AllowsAsMuch : Setting → (one other : List Seen) → ℕ → Type 0
AllowsAsMuch part one other d =
    (reference counter : ℕ) → latest_reference other ≤ reference → latest_reading other d ≤ counter → keeps_with part one d reference counter ≡ true
    → keeps_with part other d reference counter ≡ true

-- of the present life of a device the opening is honest
pub record IsHonestLife (part : Setting) (one other : List Seen) (d : ℕ) : Type 0 where
  pub offsets : are_at_most (offsets_in part one d) (offsets_in part other d) ≡ true
  pub readings : AllowsAsMuch part one other d
  pub tick : latest_tick one d ≤ latest_tick other d

-- of a device the opening is honest
pub record IsHonestAt (part : Setting) (one other : List Seen) (d : ℕ) : Type 0 where
  pub life : is_up other d ≡ true → IsHonestLife part one other d
  pub awaited : is_awaited part other d ≡ false
  pub untouched : is_untouched other d ≡ true → is_untouched one d ≡ true
  pub failed : failed_since one (Device d) ≡ failed_since other (Device d)

-- of each two such histories it is as said whether no offset of the device in the first is greater
abbrev pub HaveOffsets : (first second : Premises) → ℕ → Bool → Type 0
HaveOffsets first second d is = OfHistories first second (λ part one other. is ≡ are_at_most (offsets_in part one d) (offsets_in part other d))

-- of each two such histories it is as said whether the latest tick of the device is no earlier in the opening
abbrev pub HaveTicked : (first second : Premises) → ℕ → Bool → Type 0
HaveTicked first second d is = OfHistories first second (λ part one other. is ≡ nat_le (latest_tick one d) (latest_tick other d))

-- of each two such histories it is as said whether the opening has touched the device, or the first has not
abbrev pub HaveTouched : (first second : Premises) → ℕ → Bool → Type 0
HaveTouched first second d is = OfHistories first second (λ part one other. is ≡ (not (is_untouched other d) || is_untouched one d))

-- of each two such histories the thing failed since the latest closing in both, or in none
abbrev pub AreHonestOf : (first second : Premises) → Thing → Type 0
AreHonestOf first second x = OfHistories first second (λ part one other. failed_since one x ≡ failed_since other x)

-- of each two such histories the opening is honest of the present life of the device, where it is up
abbrev pub AreHonestLives : (first second : Premises) → ℕ → Type 0
AreHonestLives first second d = OfHistories first second (λ part one other. is_up other d ≡ true → IsHonestLife part one other d)

-- it is honest of the device
abbrev pub AreHonestAt : (first second : Premises) → ℕ → Type 0
AreHonestAt first second d = OfHistories first second (λ part one other. IsHonestAt part one other d)

-- it is honest of the first devices
abbrev pub AreHonestDevices : (first second : Premises) → ℕ → Type 0
AreHonestDevices first second count = OfHistories first second (λ part one other. (d : ℕ) → d < count → IsHonestAt part one other d)

-- of the first links the same failed since the latest closing
abbrev pub AreHonestLinks : (first second : Premises) → ℕ → Type 0
AreHonestLinks first second count = OfHistories first second (λ part one other. (l : ℕ) → l < count → failed_since one (Link l) ≡ failed_since other (Link l))

-- devices and links of both: over one network both have as many
abbrev pub devices_of_both : (first second : Premises) → ℕ
devices_of_both first second = min (length (net_of first).devices) (length (net_of second).devices)

abbrev pub links_of_both : (first second : Premises) → ℕ
links_of_both first second = min (length (net_of first).links) (length (net_of second).links)
