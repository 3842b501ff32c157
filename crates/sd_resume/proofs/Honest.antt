-- What monitors keep tells whether an opening is honest.
use Rattle.std.specs.Prelude.{◌≡◌, ℕ, ◌<◌, ◌≤◌, ◌^◌, min, Bool, true, false, not, ◌&&◌, ◌||◌, List, [], ◌∷◌, length, filter_map, nat_le, Option, Some, None, refl, if◌then◌else◌}
use Rattle.std.specs.List.{list_any, list_all, cons_option}
use Rattle.std.proofs.Common.{arith, sym, ◌∙◌, ap, subst, inl, inr}
use Rattle.std.proofs.lemmas.Bool.{cases_lt, and_parts, leb-true, false_from_ne_true, false≢true}
use Rattle.sd_num.proofs.Shared.{all_below}
use Rattle.sd_plan.specs.topo.Network.{Network, rates_of, device_numbers}
use Rattle.sd_plan.specs.topo.Limits.{IsNetwork}
use Rattle.sd_plan.specs.declared.topo.Thing.{Thing}
use Rattle.sd_plan.specs.declared.topo.Thing.TheVariants.{Device, Link}
use Rattle.sd_plan.proofs.topo.Laws.{rates_law}
use Rattle.sd_plan.specs.domain.Things.{same_thing}
use Rattle.sd_plan.specs.declared.Plan.{Plan}
use Rattle.sd_plan.specs.Plans.{is_member, members}
use Rattle.sd_num.specs.Lists.{leading}
use Rattle.sd_history.specs.Things.{failure_of}
use Rattle.sd_history.specs.World.{Setting, Seen, setting_over, makes, fails, is_thing, is_up, was_made, has_ever_failed, is_untouched, plan_numbered, latest_reference, latest_reading}
use Rattle.sd_history.specs.Premises.{all_hold, readings, latest_tick, failures_since_closing}
use Rattle.sd_history.proofs.Shared.{seen_parts, up_made}
use Rattle.sd_world.specs.world.Registers.{up_at, reading_at}
use Rattle.sd_world.specs.world.Standing.{StandsAt}
use Rattle.sd_monitors.specs.clocks.Readings.{is_after_each}
use Rattle.sd_monitors.proofs.clocks.Judging.{all_filter}
use Rattle.sd_monitors.proofs.clocks.Fewer.{keeps_with_more}
use Rattle.sd_premise.specs.Order.{ComesInOrder, CanFollow}
use Rattle.sd_premise.specs.Standing.{StandsFor, net_of}
use Rattle.sd_premise.specs.declared.premises.Premises.{Premises}
use Rattle.sd_resume.specs.law.Shifts.{Shift}
use Rattle.sd_resume.specs.law.Views.{LooksAlike}
use Rattle.sd_resume.specs.law.Law.{whole}
use Rattle.sd_resume.specs.law.Cuts.{IsHonestOpening}
use Rattle.sd_resume.specs.declared.differences.Dishonesty.{Dishonesty}
use Rattle.sd_resume.specs.declared.differences.Dishonesty.TheVariants as dishonesty
use Rattle.sd_resume.specs.Honesty.{offsets_in, are_at_most, failed_since, IsDishonest, IsHonest, IsHonestLife, IsHonestAt, AllowsAsMuch, devices_of_both, links_of_both}
use Rattle.sd_resume.proofs.Known.{IsKnown, NamesKnown, making_is_known, failing_is_known}

-- What is seen in order is of the network

names_known : (setting : Setting) (earlier : List Seen) (s : Seen) → CanFollow setting earlier s → NamesKnown setting s.event
names_known setting earlier s can =
    let parts = seen_parts setting earlier s.event can.allowed in
    record { device = parts.0; link = parts.1 }

-- a device that was made or failed
pub touched_known : (setting : Setting) (seen : List Seen) (d : ℕ) → ComesInOrder setting seen → is_untouched seen d ≡ false → d < length setting.net.devices
touched_known setting [] d order touched = cc
touched_known setting (s ∷ earlier) d order touched =
    go (makes d s.event) (fails (Device d) s.event) refl refl (touched_known setting earlier d order.0) touched
  where
    go : (m f : Bool) → makes d s.event ≡ m → fails (Device d) s.event ≡ f → (is_untouched earlier d ≡ false → d < length setting.net.devices)
        → (not (m || was_made earlier d) && not (f || has_ever_failed earlier d)) ≡ false → d < length setting.net.devices
    go true f made failing before is = making_is_known setting s.event d (names_known setting earlier s order.1) made
    go false true made failing before is = failing_is_known setting s.event (Device d) (names_known setting earlier s order.1) failing
    go false false made failing before is = before is

up_touched : (seen : List Seen) (d : ℕ) → is_up seen d ≡ true → is_untouched seen d ≡ false
up_touched seen d up = ap (λ (b : Bool). not b && not (has_ever_failed seen d)) (up_made seen d up)

pub up_known : (setting : Setting) (seen : List Seen) (d : ℕ) → ComesInOrder setting seen → is_up seen d ≡ true → d < length setting.net.devices
up_known setting seen d order up = touched_known setting seen d order (up_touched seen d up)

-- a thing that failed since the latest closing
pub failed_since_known : (setting : Setting) (seen : List Seen) (x : Thing) → ComesInOrder setting seen → failed_since seen x ≡ true → IsKnown setting x
failed_since_known setting [] x order failed = cc
failed_since_known setting (s ∷ earlier) x order failed = go s.closed (failed_since_known setting earlier x order.0) failed
  where
    here : (b : Bool) (y : Thing) → failure_of s.event ≡ Some y → same_thing x y ≡ b → (failed_since earlier x ≡ true → IsKnown setting x)
        → (b || failed_since earlier x) ≡ true → IsKnown setting x
    here true y is same before any =
        failing_is_known setting s.event x (names_known setting earlier s order.1) (ap (λ (o : Option Thing). is_thing o x) is ∙ same)
    here false y is same before any = before any

    on : (o : Option Thing) → failure_of s.event ≡ o → (failed_since earlier x ≡ true → IsKnown setting x)
        → list_any (same_thing x) (cons_option o (failures_since_closing earlier)) ≡ true → IsKnown setting x
    on None is before any = before any
    on (Some y) is before any = here (same_thing x y) y is refl before any

    go : (c : Bool) → (failed_since earlier x ≡ true → IsKnown setting x)
        → list_any (same_thing x) (filter_map (λ (e : Seen). failure_of e.event) (if not c then s ∷ leading (λ e. not e.closed) earlier else [])) ≡ true
        → IsKnown setting x
    go true before any = cc
    go false before any = on (failure_of s.event) refl before any

-- Numbers

past : (d n : ℕ) → d < n → n ≤ d → ⊥
past d n within beyond = omega (arith, within, beyond)

pair_same : (a b c d : ℕ) → a ≡ b → c ≡ d → ◌≡◌ {A = ℕ × ℕ} (a, c) (b, d)
pair_same a b c d first second = rw (first, second) refl

-- What is kept of a device

module _ (first second : Premises) (shift : Shift) (net : Network) (front plans : List Plan) (one other : List Seen)
    (of_first : StandsFor first (whole net front plans) one) (of_second : StandsFor second (setting_over net plans) other) (alike : LooksAlike shift one other) where
  -- a number of the second is one of the network
  of_net : (d : ℕ) → d < length (net_of second).devices → d < length net.devices
  of_net d within = subst (λ (n : Network). d < length n.devices) (sym of_second.net) within

  in_world : (d : ℕ) → d < length (net_of second).devices → StandsAt second.world other d
  in_world d within = of_second.world.devices d (subst (λ (n : ℕ). d < n) (sym second.world_devices) within)

  pub up_is : (d : ℕ) → d < length (net_of second).devices → up_at second.world d ≡ is_up other d
  up_is d within = (in_world d within).up

  -- the offsets tell what a later reading may be
  allows : (d : ℕ) → d < length (net_of second).devices → second.world.reference < 2 ^ 64 → reading_at second.world d < 2 ^ 64 → is_up other d ≡ true
      → are_at_most (offsets_in (setting_over net plans) one d) (offsets_in (setting_over net plans) other d) ≡ true
      → AllowsAsMuch (setting_over net plans) one other d
  allows d within reference_fits reading_fits up less reference counter later higher keeps =
      let least = and_parts
      (nat_le (offsets_in (setting_over net plans) one d).lead (offsets_in (setting_over net plans) other d).lead)
      (nat_le (offsets_in (setting_over net plans) one d).lag (offsets_in (setting_over net plans) other d).lag) less in
      keeps_with_more (rates_of net d) (latest_reference other, latest_reading other d) (reference, counter) ppm_fits
      (subst (λ (n : ℕ). n < 2 ^ 64) of_second.world.reference reference_fits)
      (subst (λ (n : ℕ). n < 2 ^ 64) (in_world d within).reading reading_fits) later higher (readings one d) (readings other d)
      (subst (λ (x : ℕ × ℕ). is_after_each (readings one d) x ≡ true) last_is (of_first.drift.in_order d)) (of_second.drift.in_order d)
      (leb-true (offsets_in (setting_over net plans) one d).lead (offsets_in (setting_over net plans) other d).lead least.0)
      (leb-true (offsets_in (setting_over net plans) one d).lag (offsets_in (setting_over net plans) other d).lag least.1)
      keeps
    where
      ppm_fits : (rates_of net d).ppm < 2 ^ 32
      ppm_fits =
          let low = (rates_law net d (subst IsNetwork (sym of_second.net) second.topology.is_network) (of_net d within)).0 in
          omega (arith, low)

      last_is : ◌≡◌ {A = ℕ × ℕ} (latest_reference one, latest_reading one d) (latest_reference other, latest_reading other d)
      last_is = pair_same _ _ _ _ alike.time (alike.reading d up)

  pub life_honest : (d : ℕ) → d < length (net_of second).devices → second.world.reference < 2 ^ 64 → reading_at second.world d < 2 ^ 64
      → are_at_most (offsets_in (setting_over net plans) one d) (offsets_in (setting_over net plans) other d) ≡ true
      → latest_tick one d ≤ latest_tick other d → is_up other d ≡ true → IsHonestLife (setting_over net plans) one other d
  life_honest d within reference_fits reading_fits less tick up =
      record { offsets = less; readings = allows d within reference_fits reading_fits up less; tick = tick }

  -- All of them

  devices_are : devices_of_both first second ≡ length net.devices
  devices_are = both (length (net_of first).devices) (length (net_of second).devices) (length net.devices)
      (ap (λ (n : Network). length n.devices) (sym of_first.net)) (ap (λ (n : Network). length n.devices) (sym of_second.net))
    where
      both : (a b n : ℕ) → a ≡ n → b ≡ n → min a b ≡ n
      both a b n first_is second_is = omega (arith, first_is, second_is)

  links_are : links_of_both first second ≡ length net.links
  links_are = both (length (net_of first).links) (length (net_of second).links) (length net.links)
      (ap (λ (n : Network). length n.links) (sym of_first.net)) (ap (λ (n : Network). length n.links) (sym of_second.net))
    where
      both : (a b n : ℕ) → a ≡ n → b ≡ n → min a b ≡ n
      both a b n first_is second_is = omega (arith, first_is, second_is)

  module _ (holds : all_hold (setting_over net plans) other ≡ true)
      (each_device : (d : ℕ) → d < devices_of_both first second → IsHonestAt (setting_over net plans) one other d)
      (each_link : (l : ℕ) → l < links_of_both first second → failed_since one (Link l) ≡ failed_since other (Link l)) where
    at_device : (d : ℕ) → d < length net.devices → IsHonestAt (setting_over net plans) one other d
    at_device d within = each_device d (subst (λ (n : ℕ). d < n) (sym devices_are) within)

    live : (d : ℕ) → is_up other d ≡ true → IsHonestLife (setting_over net plans) one other d
    live d up = (at_device d (up_known (setting_over net plans) other d of_second.order up)).life up

    members_known : list_all (λ d. not (is_untouched other d)) (members net (plan_numbered (setting_over net plans) 1)) ≡ true
    members_known =
        all_filter (λ d. not (is_untouched other d)) (is_member (plan_numbered (setting_over net plans) 1)) (device_numbers net)
        ∙ all_below (λ d. not (is_member (plan_numbered (setting_over net plans) 1) d) || not (is_untouched other d)) (length net.devices)
        (λ d within. by (is_untouched other d) (is_member (plan_numbered (setting_over net plans) 1) d) (at_device d within).awaited)
      where
        by : (untouched member : Bool) → (untouched && member) ≡ false → (not member || not untouched) ≡ true
        by true true is = cc
        by true false is = refl
        by false true is = refl
        by false false is = refl

    untouched_kept : (d : ℕ) → is_untouched other d ≡ true → is_untouched one d ≡ true
    untouched_kept d is =
        elim (cases_lt d (length net.devices)) [
          | inl within ↦ (at_device d within).untouched is
          | inr beyond ↦ by (is_untouched one d) refl beyond
        ]
      where
        by : (b : Bool) → is_untouched one d ≡ b → length net.devices ≤ d → is_untouched one d ≡ true
        by true same beyond = same
        by false same beyond = absurd (past d (length net.devices) (touched_known (whole net front plans) one d of_first.order same) beyond)

    -- of a thing that is not of the network both say that it did not fail
    unknown_same : (x : Thing) → (IsKnown (setting_over net plans) x → ⊥) → failed_since one x ≡ failed_since other x
    unknown_same x unknown =
        false_from_ne_true (failed_since one x) (λ failed. unknown (failed_since_known (whole net front plans) one x of_first.order failed))
        ∙ sym (false_from_ne_true (failed_since other x) (λ failed. unknown (failed_since_known (setting_over net plans) other x of_second.order failed)))

    failures_same : (x : Thing) → failed_since one x ≡ failed_since other x
    failures_same (Device d) =
        elim (cases_lt d (length net.devices)) [
          | inl within ↦ (at_device d within).failed
          | inr beyond ↦ unknown_same (Device d) (λ known. past d (length net.devices) known beyond)
        ]
    failures_same (Link l) =
        elim (cases_lt l (length net.links)) [
          | inl within ↦ each_link l (subst (λ (n : ℕ). l < n) (sym links_are) within)
          | inr beyond ↦ unknown_same (Link l) (λ known. past l (length net.links) known beyond)
        ]

    honest_opening : IsHonestOpening (setting_over net plans) one other
    honest_opening =
        record {
          holds = holds;
          readings = λ d reference counter up. (live d up).readings reference counter;
          ticks = λ d up. (live d up).tick;
          members = members_known;
          untouched = untouched_kept;
          failures = failures_same;
        }

    not_dishonest : (what : Dishonesty) → IsDishonest (setting_over net plans) one other what → ⊥
    not_dishonest dishonesty.Broken broken = false≢true (sym broken ∙ holds)
    not_dishonest (dishonesty.Drift d) (up, greater) = false≢true (sym greater ∙ (live d up).offsets)
    not_dishonest (dishonesty.Tick d) (up, earlier) = past (latest_tick other d) (latest_tick one d) earlier (live d up).tick
    not_dishonest (dishonesty.Awaited d) (within, awaited) = false≢true (sym (at_device d within).awaited ∙ awaited)
    not_dishonest (dishonesty.Untouched d) (untouched, touched) = false≢true (sym touched ∙ untouched_kept d untouched)
    not_dishonest (dishonesty.FailedSince x) apart = apart (failures_same x)

    pub is_honest : IsHonest (setting_over net plans) one other
    is_honest = record { opening = honest_opening; exactly = not_dishonest }
