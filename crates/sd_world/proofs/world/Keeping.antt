-- The registers stand for what was seen: at first, after an event, and where the window closed with the latest one.
use Rattle.std.specs.Prelude.{◌≡◌, ℕ, ◌+◌, ◌<◌, ◌≤◌, Bool, true, false, ◌||◌, List, ◌∷◌, length, count_by, None, refl, if◌then◌else◌}
use Rattle.std.proofs.Common.{cond, ap, ◌∙◌, sym, subst, arith}
use Rattle.std.proofs.lemmas.List.Sums.{sum_by-cons}
use Rattle.sd_num.specs.Lists.{map_or, same_number}
use Rattle.sd_plan.specs.declared.topo.Thing.TheVariants as thing
use Rattle.sd_sched.specs.declared.Event.{Event}
use Rattle.sd_sched.specs.Events.{device_of, joined, counter_of, is_stage, is_end_event}
use Rattle.sd_history.specs.World.{Setting, Seen, makes, fails, up_after, failed_after, epoch_in_force}
use Rattle.sd_history.proofs.Shared.{epoch_kept}
use Rattle.sd_world.specs.world.Registers.{Registers, device_at, registers_after, registers_closed}
use Rattle.sd_world.specs.world.Standing.{Stands, StandsAt}
use Rattle.sd_world.proofs.world.Changes.{Changes, changes_named, changes_other}
use Rattle.sd_world.proofs.world.Slots.{length_devices, slot_named, slot_other, length_links, slot_link}
use Rattle.sd_world.proofs.world.Shutting.{opens, commits, joins}

-- each device's slot changes by the words of the event on it
slot_changes : (r : Registers) (e : Event) (d : ℕ) → d < length r.devices → Changes e d r.windows (device_at r d) (device_at (registers_after r e) d)
slot_changes r e d within = go (same_number (device_of e) d) refl
  where
    go : (b : Bool) → same_number (device_of e) d ≡ b → Changes e d r.windows (device_at r d) (device_at (registers_after r e) d)
    go true named = rw (slot_named e r.windows r.devices d within named) (changes_named e d r.windows (device_at r d) named)
    go false other = rw (slot_other e r.windows r.devices d other) (changes_other e d r.windows (device_at r d) other)

-- one event more
joined_low : (j stage : Bool) (after before windows : ℕ) → after ≡ (if j then windows else before) → before ≤ windows
    → after ≤ (if stage then windows + 1 else windows)
joined_low true true after before windows is low = omega arith
joined_low true false after before windows is low = omega arith
joined_low false true after before windows is low = omega arith
joined_low false false after before windows is low = omega arith

device_keeps : (r : Registers) (seen : List Seen) (s : Seen) (setting : Setting) (d : ℕ) → s.closed ≡ false → Stands r setting seen → d < length r.devices
    → StandsAt (registers_after r s.event) (s ∷ seen) d
device_keeps r seen s setting d stays stands within =
    let at : StandsAt r seen d = stands.devices d within in
    let c : Changes s.event d r.windows (device_at r d) (device_at (registers_after r s.event) d) = slot_changes r s.event d within in
    record {
      up = c.up ∙ ap (λ (b : Bool). map_or (up_after d s.event) b (λ told. told)) at.up;
      failed = c.failed ∙ ap (λ (b : Bool). map_or (failed_after (thing.Device d) s.event) b (λ told. told)) at.failed;
      ever_failed = c.ever_failed ∙ ap (λ (b : Bool). fails (thing.Device d) s.event || b) at.ever_failed;
      made = c.made ∙ ap (λ (b : Bool). makes d s.event || b) at.made;
      reading = c.reading ∙ ap (λ (n : ℕ). map_or (if same_number (device_of s.event) d then counter_of s.event else None) n (λ told. told)) at.reading;
      joins = joins r.window r.windows (device_at r d).joined
          (device_at (registers_after r s.event) d).joined d s seen stays stands.open_window at.joined_before c.joined at.joins;
      joined_before =
          joined_low (same_number (joined s.event) d) (is_stage s.event) (device_at (registers_after r s.event) d).joined
          (device_at r d).joined r.windows c.joined at.joined_before;
    }

-- what one step adds to a count
count_next : (test : Seen → Bool) (s : Seen) (seen : List Seen) → count_by test (s ∷ seen) ≡ cond (test s) 1 0 + count_by test seen
count_next test s seen = sum_by-cons (λ x. cond (test x) 1 0) s seen

add_one : (b : Bool) (n m : ℕ) → n ≡ m → (if b then n + 1 else n) ≡ cond b 1 0 + m
add_one true n m same = omega arith
add_one false n m same = omega arith

windows_next : (n : ℕ) (s : Seen) (seen : List Seen) → n ≡ count_by (λ x. is_stage x.event) seen
    → (if is_stage s.event then n + 1 else n) ≡ count_by (λ x. is_stage x.event) (s ∷ seen)
windows_next n s seen same = add_one (is_stage s.event) n (count_by (λ x. is_stage x.event) seen) same ∙ sym (count_next (λ x. is_stage x.event) s seen)

epoch_moves : (s : Seen) (seen : List Seen) → epoch_in_force (record s { closed = true } ∷ seen) ≡ epoch_in_force seen + 1
epoch_moves s seen = ap (λ (n : ℕ). n + 1) (count_next (λ x. x.closed) (record s { closed = true }) seen) ∙ one_more (count_by (λ x. x.closed) seen)
  where
    one_more : (n : ℕ) → 1 + n + 1 ≡ (n + 1) + 1
    one_more n = omega arith

pub stands_after : (r : Registers) (setting : Setting) (seen : List Seen) (s : Seen) → s.closed ≡ false → Stands r setting seen
    → Stands (registers_after r s.event) setting (s ∷ seen)
stands_after r setting seen s stays stands =
    let devices_stay : length (registers_after r s.event).devices ≡ length r.devices = length_devices s.event r.windows r.devices in
    let links_stay : length (registers_after r s.event).failed_links ≡ length r.failed_links = length_links s.event r.failed_links in
    record {
      device_count = devices_stay ∙ stands.device_count;
      link_count = links_stay ∙ stands.link_count;
      devices = λ d within. device_keeps r seen s setting d stays stands (subst (λ (n : ℕ). d < n) devices_stay within);
      links =
          λ l within.
          (let inside : l < length r.failed_links = subst (λ (n : ℕ). l < n) links_stay within in
          slot_link s.event r.failed_links l inside
          ∙ ap (λ (b : Bool). map_or (failed_after (thing.Link l) s.event) b (λ told. told)) (stands.links l inside));
      reference = refl;
      events = omega (arith, stands.events);
      ended = ap (λ (b : Bool). is_end_event s.event || b) stands.ended;
      open_window = opens r.window s seen stays stands.open_window;
      commit = commits r.window s seen stays stands.open_window stands.commit;
      windows = windows_next r.windows s seen stands.windows;
      epoch = stands.epoch ∙ sym (epoch_kept s seen stays);
    }

-- the latest event closed the window
pub stands_closed : (r : Registers) (setting : Setting) (seen : List Seen) (s : Seen) → s.closed ≡ false → Stands r setting (s ∷ seen)
    → Stands (registers_closed r) setting (record s { closed = true } ∷ seen)
stands_closed r setting seen s stays stands =
    record {
      device_count = stands.device_count;
      link_count = stands.link_count;
      devices =
          λ d within.
          (let at : StandsAt r (s ∷ seen) d = stands.devices d within in
          record {
            up = at.up;
            failed = at.failed;
            ever_failed = at.ever_failed;
            made = at.made;
            reading = at.reading;
            joins = refl;
            joined_before = at.joined_before;
          });
      links = stands.links;
      reference = stands.reference;
      events = stands.events;
      ended = stands.ended;
      open_window = refl;
      commit = refl;
      windows = stands.windows ∙ count_next (λ x. is_stage x.event) s seen ∙ sym (count_next (λ x. is_stage x.event) (record s { closed = true }) seen);
      epoch = ap (λ (n : ℕ). n + 1) (stands.epoch ∙ epoch_kept s seen stays) ∙ sym (epoch_moves s seen);
    }
