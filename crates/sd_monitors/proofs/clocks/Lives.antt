-- What the latest event does to the readings of a device.
use Rattle.std.proofs.Common.{◌≡◌, ◌≢◌, ℕ, ◌-◌, Bool, true, false, ◌||◌, cond, List, [], ◌∷◌, ◌++◌, Option, Some, None, ◌⊎◌, inl, inr, refl, ap, ◌∙◌}
use Rattle.std.specs.Prelude.{option_map, option_to_list}
use Rattle.std.specs.List.{list_all}
use Rattle.std.proofs.lemmas.Bool.{eq-eqb, ne_eqb}
use Rattle.std.proofs.lemmas.Option.{same_Some}
use Rattle.sd_num.specs.Lists.{map_or, same_number}
use Rattle.sd_num.specs.Numbers.{keeps_rate}
use Rattle.sd_plan.specs.topo.Network.{rates_of}
use Rattle.sd_sched.specs.declared.Event.{Event}
use Rattle.sd_sched.specs.declared.Event.TheVariants.{Start, Join}
use Rattle.sd_sched.specs.Events.{reference_of, device_of, counter_of}
use Rattle.sd_history.specs.World.{Setting, Seen, makes, latest_reading}
use Rattle.sd_history.specs.Premises.{readings, reads_honestly}
use Rattle.sd_history.specs.Refusals.{makes_some}
use Rattle.sd_monitors.specs.declared.clocks.offsets.Reading.{Reading}
use Rattle.sd_monitors.specs.clocks.Readings.{pair_of, keeps_rates_with}
use Rattle.sd_monitors.specs.clocks.Drifts.{reading_with, reading_of}

-- Events

-- a reading has a device and a counter
pub record Reads (e : Event) (d : ℕ) (r : Reading) : Type 0 where
  pub device : device_of e ≡ Some d
  pub counter : counter_of e ≡ Some r.counter
  pub reference : reference_of e ≡ r.reference

pub reads : (e : Event) (d : ℕ) (r : Reading) → reading_of e ≡ Some (d, r) → Reads e d r
reads e d r is = by (device_of e) (counter_of e) refl refl is
  where
    by : (device counter : Option ℕ) → device_of e ≡ device → counter_of e ≡ counter → reading_with device counter (reference_of e) ≡ Some (d, r) → Reads e d r
    by None counter has_device has_counter is = cc
    by (Some x) None has_device has_counter is = cc
    by (Some x) (Some c) has_device has_counter is =
        let both : (x, record { reference = reference_of e; counter = c }) ≡ (d, r) = same_Some _ _ is in
        record {
          device = has_device ∙ ap (λ (p : ℕ × Reading). Some p.0) both;
          counter = has_counter ∙ ap (λ (p : ℕ × Reading). Some p.1.counter) both;
          reference = ap (λ (p : ℕ × Reading). p.1.reference) both;
        }

-- an event that is no reading names no device or no counter
pub reads_not : (e : Event) → reading_of e ≡ None → (device_of e ≡ None) ⊎ (counter_of e ≡ None)
reads_not e is = by (device_of e) (counter_of e) refl refl is
  where
    by : (device counter : Option ℕ) → device_of e ≡ device → counter_of e ≡ counter → reading_with device counter (reference_of e) ≡ None
        → (device_of e ≡ None) ⊎ (counter_of e ≡ None)
    by None counter has_device has_counter is = inl has_device
    by (Some x) None has_device has_counter is = inr has_counter
    by (Some x) (Some c) has_device has_counter is = cc

-- an event makes the device that it names or none
pub makes_named : (e : Event) (d : ℕ) → device_of e ≡ Some d → makes d e ≡ makes_some e
makes_named (Start reference device counter clock eps) d names =
    let same : device ≡ d = cc in ap (λ (b : Bool). b || false) (eq-eqb device d same)
makes_named (Join reference device counter clock eps) d names = let same : device ≡ d = cc in eq-eqb device d same
makes_named _ d names = refl

-- what makes a device is a reading
pub makes_no_reading : (e : Event) (d : ℕ) → counter_of e ≡ None → makes d e ≡ false
makes_no_reading (Start reference device counter clock eps) d none = cc
makes_no_reading (Join reference device counter clock eps) d none = cc
makes_no_reading _ d none = refl

-- Readings

-- what `readings` makes of the device, counter and reference of an event, which begins a life or not, and the readings before it
abbrev shape : Option ℕ → Option ℕ → ℕ → Bool → ℕ → List (ℕ × ℕ) → List (ℕ × ℕ)
shape device counter t begins d past =
    cond (same_number device d)
    (cond begins (option_to_list (option_map (λ (c : ℕ). (t, c)) counter)) (option_to_list (option_map (λ (c : ℕ). (t, c)) counter) ++ past)) past

pub readings_here : (s : Seen) (earlier : List Seen) (d : ℕ) (r : Reading) → Reads s.event d r
    → readings (s ∷ earlier) d ≡ pair_of r ∷ cond (makes_some s.event) [] (readings earlier d)
readings_here s earlier d r read =
    ap (λ (o : Option ℕ). shape o (counter_of s.event) (reference_of s.event) (makes d s.event) d (readings earlier d)) read.device
    ∙ ap (λ (o : Option ℕ). shape (Some d) o (reference_of s.event) (makes d s.event) d (readings earlier d)) read.counter
    ∙ ap (λ (t : ℕ). shape (Some d) (Some r.counter) t (makes d s.event) d (readings earlier d)) read.reference
    ∙ ap (λ (b : Bool). shape (Some d) (Some r.counter) r.reference b d (readings earlier d)) (makes_named s.event d read.device)
    ∙ ap (λ (b : Bool). cond b (cond (makes_some s.event) (pair_of r ∷ []) (pair_of r ∷ readings earlier d)) (readings earlier d)) (eq-eqb d d refl)
    ∙ by (makes_some s.event)
  where
    by : (b : Bool) → cond b (pair_of r ∷ []) (pair_of r ∷ readings earlier d) ≡ pair_of r ∷ cond b [] (readings earlier d)
    by true = refl
    by false = refl

pub readings_elsewhere : (s : Seen) (earlier : List Seen) (d other : ℕ) (r : Reading) → Reads s.event d r → d ≢ other
    → readings (s ∷ earlier) other ≡ readings earlier other
readings_elsewhere s earlier d other r read apart =
    ap (λ (o : Option ℕ). shape o (counter_of s.event) (reference_of s.event) (makes other s.event) other (readings earlier other)) read.device
    ∙ ap (λ (b : Bool). cond b (cond (makes other s.event) (option_to_list (option_map (λ (c : ℕ). (reference_of s.event, c)) (counter_of s.event)))
    (option_to_list (option_map (λ (c : ℕ). (reference_of s.event, c)) (counter_of s.event)) ++ readings earlier other)) (readings earlier other))
    (ne_eqb d other apart)

pub readings_unread : (s : Seen) (earlier : List Seen) (d : ℕ) → reading_of s.event ≡ None → readings (s ∷ earlier) d ≡ readings earlier d
readings_unread s earlier d unread = by (reads_not s.event unread)
  where
    either : (b : Bool) → cond b (readings earlier d) (readings earlier d) ≡ readings earlier d
    either true = refl
    either false = refl

    by : (device_of s.event ≡ None) ⊎ (counter_of s.event ≡ None) → readings (s ∷ earlier) d ≡ readings earlier d
    by (inl none) = ap (λ (o : Option ℕ). shape o (counter_of s.event) (reference_of s.event) (makes d s.event) d (readings earlier d)) none
    by (inr none) =
        ap (λ (o : Option ℕ). shape (device_of s.event) o (reference_of s.event) (makes d s.event) d (readings earlier d)) none
        ∙ ap (λ (b : Bool). shape (device_of s.event) None (reference_of s.event) b d (readings earlier d)) (makes_no_reading s.event d none)
        ∙ either (same_number (device_of s.event) d)

-- The latest counter of a device

abbrev told : Option ℕ → Option ℕ → ℕ → ℕ → ℕ
told device counter d before = map_or (cond (same_number device d) counter None) before (λ c. c)

pub latest_here : (s : Seen) (earlier : List Seen) (d : ℕ) (r : Reading) → Reads s.event d r → latest_reading (s ∷ earlier) d ≡ r.counter
latest_here s earlier d r read =
    ap (λ (o : Option ℕ). told o (counter_of s.event) d (latest_reading earlier d)) read.device
    ∙ ap (λ (o : Option ℕ). told (Some d) o d (latest_reading earlier d)) read.counter
    ∙ ap (λ (b : Bool). map_or (cond b (Some r.counter) None) (latest_reading earlier d) (λ c. c)) (eq-eqb d d refl)

pub latest_elsewhere : (s : Seen) (earlier : List Seen) (d other : ℕ) (r : Reading) → Reads s.event d r → d ≢ other
    → latest_reading (s ∷ earlier) other ≡ latest_reading earlier other
latest_elsewhere s earlier d other r read apart =
    ap (λ (o : Option ℕ). told o (counter_of s.event) other (latest_reading earlier other)) read.device
    ∙ ap (λ (b : Bool). map_or (cond b (counter_of s.event) None) (latest_reading earlier other) (λ c. c)) (ne_eqb d other apart)

pub latest_unread : (s : Seen) (earlier : List Seen) (d : ℕ) → reading_of s.event ≡ None → latest_reading (s ∷ earlier) d ≡ latest_reading earlier d
latest_unread s earlier d unread = by (reads_not s.event unread)
  where
    either : (b : Bool) → map_or (cond b None None) (latest_reading earlier d) (λ c. c) ≡ latest_reading earlier d
    either true = refl
    either false = refl

    by : (device_of s.event ≡ None) ⊎ (counter_of s.event ≡ None) → latest_reading (s ∷ earlier) d ≡ latest_reading earlier d
    by (inl none) = ap (λ (o : Option ℕ). told o (counter_of s.event) d (latest_reading earlier d)) none
    by (inr none) = ap (λ (o : Option ℕ). told (device_of s.event) o d (latest_reading earlier d)) none ∙ either (same_number (device_of s.event) d)

-- Honest readings

abbrev judged : Setting → Seen → List Seen → Option ℕ → Option ℕ → Bool
judged setting s earlier device counter =
    map_or device true (λ d. map_or counter true (λ c. makes d s.event
    || list_all (λ r. keeps_rate (rates_of setting.net d) (c - r.1) (reference_of s.event - r.0)) (readings earlier d)))

pub honest_here : (setting : Setting) (s : Seen) (earlier : List Seen) (d : ℕ) (r : Reading) → Reads s.event d r
    → reads_honestly setting s earlier ≡ (makes_some s.event || keeps_rates_with (rates_of setting.net d) (readings earlier d) (pair_of r))
honest_here setting s earlier d r read =
    ap (λ (o : Option ℕ). judged setting s earlier o (counter_of s.event)) read.device
    ∙ ap (λ (o : Option ℕ). judged setting s earlier (Some d) o) read.counter
    ∙ ap (λ (b : Bool). b || list_all (λ x. keeps_rate (rates_of setting.net d) (r.counter - x.1) (reference_of s.event - x.0)) (readings earlier d))
    (makes_named s.event d read.device)
    ∙ ap (λ (t : ℕ). makes_some s.event || list_all (λ x. keeps_rate (rates_of setting.net d) (r.counter - x.1) (t - x.0)) (readings earlier d)) read.reference

pub honest_unread : (setting : Setting) (s : Seen) (earlier : List Seen) → reading_of s.event ≡ None → reads_honestly setting s earlier ≡ true
honest_unread setting s earlier unread = by (reads_not s.event unread)
  where
    either : (device : Option ℕ) → judged setting s earlier device None ≡ true
    either None = refl
    either (Some d) = refl

    by : (device_of s.event ≡ None) ⊎ (counter_of s.event ≡ None) → reads_honestly setting s earlier ≡ true
    by (inl none) = ap (λ (o : Option ℕ). judged setting s earlier o (counter_of s.event)) none
    by (inr none) = ap (λ (o : Option ℕ). judged setting s earlier (device_of s.event) o) none ∙ either (device_of s.event)
