-- The monitor of drift stands for what was seen and one event more.
use Rattle.std.proofs.Common.{◌≡◌, ◌≢◌, ℕ, ◌<◌, ◌≤◌, Bool, true, false, ◌&&◌, ◌||◌, cond, List, [], ◌∷◌, length, set, Some, None, nat_le, ◌⊎◌, inl, inr, refl, sym, ap, ◌∙◌, subst, arith}
use Rattle.std.specs.Prelude.{slice_get}
use Rattle.std.proofs.Math.ListN.{length-set}
use Rattle.std.proofs.lemmas.Bool.{and_parts, and_from, leb-true, le-leb, cases_eq}
use Rattle.std.proofs.lemmas.Option.{same_Some}
use Rattle.sd_history.proofs.Shared.{time_rises}
use Rattle.sd_num.proofs.Places.{at_written, at_unwritten}
use Rattle.sd_num.specs.declared.Rates.{Rates}
use Rattle.sd_num.proofs.Shared.{all_imply}
use Rattle.sd_plan.specs.topo.Network.{rates_of}
use Rattle.sd_sched.specs.Events.{reference_of}
use Rattle.sd_history.specs.World.{Setting, Seen, latest_reference, latest_reading}
use Rattle.sd_history.specs.Premises.{readings, reads_honestly, drift_holds}
use Rattle.sd_history.specs.Refusals.{makes_some}
use Rattle.sd_history.specs.Open.{may_be_seen}
use Rattle.sd_monitors.specs.declared.clocks.offsets.Reading.{Reading}
use Rattle.sd_monitors.specs.declared.clocks.drift.Life.{Life}
use Rattle.sd_monitors.specs.clocks.Readings.{pair_of, keeps_rates_with, is_after_each, least_offsets}
use Rattle.sd_monitors.specs.clocks.Drifts.{DriftKept, IsLifeOf, DriftStands, reading_of}
use Rattle.sd_monitors.proofs.clocks.Seeing.{counter_rises}
use Rattle.sd_monitors.proofs.clocks.Lives.{Reads, readings_here, readings_elsewhere, readings_unread, latest_here, latest_elsewhere, latest_unread, honest_here, honest_unread}

-- readings before a moment lie before a later one
after_more : (xs : List (ℕ × ℕ)) (t c t' c' : ℕ) → t ≤ t' → c ≤ c' → is_after_each xs (t, c) ≡ true → is_after_each xs (t', c') ≡ true
after_more xs t c t' c' time counter after =
    all_imply (λ r. nat_le r.0 t && nat_le r.1 c) (λ r. nat_le r.0 t' && nat_le r.1 c') xs
    (λ r before.
    (let parts = and_parts (nat_le r.0 t) (nat_le r.1 c) before in
    let at : r.0 ≤ t = leb-true r.0 t parts.0 in
    let shows : r.1 ≤ c = leb-true r.1 c parts.1 in
    and_from (nat_le r.0 t') (nat_le r.1 c') (le-leb r.0 t' (omega arith)) (le-leb r.1 c' (omega arith)))) after

-- An event that is no reading

pub stands_unread : (setting : Setting) (kept : DriftKept) (earlier : List Seen) (s : Seen) → reading_of s.event ≡ None → DriftStands setting kept earlier
    → may_be_seen setting earlier s.event ≡ true
    → DriftStands setting kept (s ∷ earlier)
stands_unread setting kept earlier s unread stands may = record {
  holds = stands.holds
      ∙ sym (ap (λ (b : Bool). drift_holds setting earlier && b) (honest_unread setting s earlier unread) ∙ and_true (drift_holds setting earlier));
  devices = stands.devices;
  lives = λ d life at. record {
    rates = (stands.lives d life at).rates;
    offsets = (stands.lives d life at).offsets ∙ ap (least_offsets life.rates.ppm) (sym (readings_unread s earlier d unread));
  };
  in_order = λ d.
      (let rises : latest_reference earlier ≤ reference_of s.event = time_rises setting earlier s.event may in
      let same : latest_reading (s ∷ earlier) d ≡ latest_reading earlier d = latest_unread s earlier d unread in
      subst (λ (xs : List (ℕ × ℕ)). is_after_each xs (reference_of s.event, latest_reading (s ∷ earlier) d) ≡ true) (sym (readings_unread s earlier d unread))
      (after_more (readings earlier d) (latest_reference earlier) (latest_reading earlier d) (reference_of s.event) (latest_reading (s ∷ earlier) d) rises
      (omega arith) (stands.in_order d)));
}
  where
    and_true : (b : Bool) → (b && true) ≡ b
    and_true true = refl
    and_true false = refl

-- A reading

-- the readings with which the reading shares its life
abbrev pub past_of : List Seen → Seen → ℕ → List (ℕ × ℕ)
past_of earlier s d = cond (makes_some s.event) [] (readings earlier d)

-- they lie before it
past_before : (setting : Setting) (kept : DriftKept) (earlier : List Seen) (s : Seen) (d : ℕ) (r : Reading) → Reads s.event d r
    → DriftStands setting kept earlier → may_be_seen setting earlier s.event ≡ true
    → is_after_each (past_of earlier s d) (pair_of r) ≡ true
past_before setting kept earlier s d r read stands may = by (makes_some s.event) refl
  where
    by : (b : Bool) → makes_some s.event ≡ b → is_after_each (cond b [] (readings earlier d)) (pair_of r) ≡ true
    by true makes = refl
    by false makes =
        let rises : latest_reference earlier ≤ reference_of s.event = time_rises setting earlier s.event may in
        let counts : latest_reading earlier d ≤ r.counter = counter_rises setting earlier s.event d r.counter may makes read.device read.counter in
        let at : reference_of s.event ≡ r.reference = read.reference in
        after_more (readings earlier d) (latest_reference earlier) (latest_reading earlier d) r.reference r.counter (omega arith) counts (stands.in_order d)

-- whether it keeps the rates is judged over its life
judged_here : (setting : Setting) (earlier : List Seen) (s : Seen) (d : ℕ) (r : Reading) → Reads s.event d r
    → reads_honestly setting s earlier ≡ keeps_rates_with (rates_of setting.net d) (past_of earlier s d) (pair_of r)
judged_here setting earlier s d r read = honest_here setting s earlier d r read ∙ by (makes_some s.event)
  where
    by : (b : Bool)
        → (b || keeps_rates_with (rates_of setting.net d) (readings earlier d) (pair_of r))
        ≡ keeps_rates_with (rates_of setting.net d) (cond b [] (readings earlier d)) (pair_of r)
    by true = refl
    by false = refl

-- what taking in a reading of a device does to what is kept: before and after are its life
pub record TakesIn (s : Seen) (d : ℕ) (r : Reading) (begins keeps : Bool) (before after : Life) (old new : DriftKept) : Type 0 where
  pub begins_life : begins ≡ makes_some s.event
  pub within : d < length old.lives
  pub held : slice_get old.lives d ≡ Some before
  pub rates : after.rates ≡ before.rates
  pub offsets : (xs : List (ℕ × ℕ)) → before.offsets ≡ least_offsets before.rates.ppm xs
      → after.offsets ≡ least_offsets before.rates.ppm (pair_of r ∷ cond begins [] xs)
  pub judged : (xs : List (ℕ × ℕ)) → before.offsets ≡ least_offsets before.rates.ppm xs → is_after_each (cond begins [] xs) (pair_of r) ≡ true
      → keeps ≡ keeps_rates_with before.rates (cond begins [] xs) (pair_of r)
  pub holds : new.holds ≡ (old.holds && keeps)
  pub lives : new.lives ≡ set old.lives d after

pub stands_reading : (setting : Setting) (s : Seen) (d : ℕ) (r : Reading) (begins keeps : Bool) (before after : Life) (old new : DriftKept)
    (earlier : List Seen)
    → Reads s.event d r → TakesIn s d r begins keeps before after old new → DriftStands setting old earlier
    → may_be_seen setting earlier s.event ≡ true
    → DriftStands setting new (s ∷ earlier)
stands_reading setting s d r begins keeps before after old new earlier read takes stands may =
    let first : is_after_each (past_of earlier s d) (pair_of r) ≡ true = past_before setting old earlier s d r read stands may in
    record {
      holds = takes.holds ∙ ap (λ (b : Bool). b && keeps) stands.holds
          ∙ ap (λ (b : Bool). drift_holds setting earlier && b)
          (takes.judged (readings earlier d) life.offsets (ap (λ (xs : List (ℕ × ℕ)). is_after_each xs (pair_of r)) past ∙ first)
          ∙ ap (λ (xs : List (ℕ × ℕ)). keeps_rates_with before.rates xs (pair_of r)) past
          ∙ ap (λ (own : Rates). keeps_rates_with own (past_of earlier s d) (pair_of r)) life.rates
          ∙ sym (judged_here setting earlier s d r read));
      devices = ap length takes.lives ∙ length-set old.lives d after ∙ stands.devices;
      lives = λ x kept at. lives_at x kept (ap (λ (ls : List Life). slice_get ls x) (sym takes.lives) ∙ at) (cases_eq x d);
      in_order = λ x. order_at x first (cases_eq x d);
    }
  where
    life : IsLifeOf setting earlier d before
    life = stands.lives d before takes.held

    past : cond begins [] (readings earlier d) ≡ past_of earlier s d
    past = ap (λ (b : Bool). cond b [] (readings earlier d)) takes.begins_life

    grown : IsLifeOf setting (s ∷ earlier) d after
    grown = record {
      rates = takes.rates ∙ life.rates;
      offsets = takes.offsets (readings earlier d) life.offsets
          ∙ ap (λ (xs : List (ℕ × ℕ)). least_offsets before.rates.ppm (pair_of r ∷ xs)) past
          ∙ ap (least_offsets before.rates.ppm) (sym (readings_here s earlier d r read))
          ∙ ap (λ (own : Rates). least_offsets own.ppm (readings (s ∷ earlier) d)) (sym takes.rates);
    }

    lives_at : (x : ℕ) (kept : Life) → slice_get (set old.lives d after) x ≡ Some kept → (x ≡ d) ⊎ (x ≡ d → ⊥) → IsLifeOf setting (s ∷ earlier) x kept
    lives_at x kept at (inl same) =
        let at_d : slice_get (set old.lives d after) d ≡ Some kept = ap (slice_get (set old.lives d after)) (sym same) ∙ at in
        let is_after : after ≡ kept = same_Some after kept (sym (at_written old.lives d after takes.within) ∙ at_d) in
        subst (λ (k : ℕ). IsLifeOf setting (s ∷ earlier) k kept) (sym same) (subst (λ (l : Life). IsLifeOf setting (s ∷ earlier) d l) is_after grown)
    lives_at x kept at (inr other) =
        let was : IsLifeOf setting earlier x kept = stands.lives x kept (sym (at_unwritten old.lives d x after other) ∙ at) in
        record {
          rates = was.rates;
          offsets = was.offsets ∙ ap (least_offsets kept.rates.ppm) (sym (readings_elsewhere s earlier d x r read (λ e. other (sym e))));
        }

    order_at : (x : ℕ) → is_after_each (past_of earlier s d) (pair_of r) ≡ true → (x ≡ d) ⊎ (x ≡ d → ⊥)
        → is_after_each (readings (s ∷ earlier) x) (reference_of s.event, latest_reading (s ∷ earlier) x) ≡ true
    order_at x first (inl same) =
        let here : is_after_each (pair_of r ∷ past_of earlier s d) (r.reference, r.counter) ≡ true =
        and_from (nat_le r.reference r.reference && nat_le r.counter r.counter) (is_after_each (past_of earlier s d) (pair_of r))
        (and_from (nat_le r.reference r.reference) (nat_le r.counter r.counter) (le-leb r.reference r.reference (omega arith))
        (le-leb r.counter r.counter (omega arith))) first in
        subst (λ (k : ℕ). is_after_each (readings (s ∷ earlier) k) (reference_of s.event, latest_reading (s ∷ earlier) k) ≡ true) (sym same)
        (subst (λ (c : ℕ). is_after_each (readings (s ∷ earlier) d) (reference_of s.event, c) ≡ true) (sym (latest_here s earlier d r read))
        (subst (λ (t : ℕ). is_after_each (readings (s ∷ earlier) d) (t, r.counter) ≡ true) (sym read.reference)
        (subst (λ (xs : List (ℕ × ℕ)). is_after_each xs (r.reference, r.counter) ≡ true) (sym (readings_here s earlier d r read)) here)))
    order_at x first (inr other) =
        let rises : latest_reference earlier ≤ reference_of s.event = time_rises setting earlier s.event may in
        let apart : d ≢ x = λ e. other (sym e) in
        let same : latest_reading (s ∷ earlier) x ≡ latest_reading earlier x = latest_elsewhere s earlier d x r read apart in
        subst (λ (xs : List (ℕ × ℕ)). is_after_each xs (reference_of s.event, latest_reading (s ∷ earlier) x) ≡ true)
        (sym (readings_elsewhere s earlier d x r read apart))
        (after_more (readings earlier x) (latest_reference earlier) (latest_reading earlier x) (reference_of s.event) (latest_reading (s ∷ earlier) x) rises
        (omega arith) (stands.in_order x))
