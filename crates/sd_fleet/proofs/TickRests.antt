-- A tick while no window is open, at which its device sends nothing and answers as before.
use Rattle.std.specs.Prelude.{◌≡◌, ℕ, zero, suc, ◌+◌, ◌<◌, ◌≤◌, ◌^◌, ◌&&◌, ◌||◌, false, List, [], ◌∷◌, length, filter, slice_set, slice_index_or, nat_eq, Some, None, refl, if◌then◌else◌}
use Rattle.std.proofs.Common.{arith, sym, ◌∙◌, ap, subst}
use Rattle.std.proofs.lemmas.List.{append-nil}
use Rattle.sd_num.specs.Lists.{at_place}
use Rattle.sd_device.specs.msg.Books.{Book, AreGiven, is_current}
use Rattle.sd_device.specs.declared.Effect.TheVariants.{Quiet}
use Rattle.sd_sched.specs.declared.Event.{Event}
use Rattle.sd_sched.specs.declared.Event.TheVariants as event
use Rattle.sd_world.specs.declared.membership.AnswerSummary.{AnswerSummary}
use Rattle.sd_world.specs.declared.world.device.DeviceState.{DeviceState}
use Rattle.sd_world.specs.world.Registers.{is_open, untouched, up_at, joins_at}
use Rattle.sd_world.specs.membership.Plans.{AreTables}
use Rattle.sd_world.specs.membership.Memberships as memberships
use Rattle.sd_world.specs.membership.Memberships.{registers_after, registers_resting, is_in_force}
use Rattle.sd_world.proofs.membership.Observing.{same_answers}
use Rattle.sd_fleet.specs.Registers.{Registers, kept}
use Rattle.sd_fleet.specs.Causes.{refusal_in}
use Rattle.sd_fleet.specs.Doing.{replied}
use Rattle.sd_fleet.specs.Sound.{IsSound}
use Rattle.sd_fleet.specs.Stepping.{IsAfter, outcome_in, outcome_resting}
use Rattle.sd_fleet.specs.Staying.{StaysAt}
use Rattle.sd_fleet.proofs.Admitted.{events_left}
use Rattle.sd_fleet.proofs.Outcoming.{same_outcome}
use Rattle.sd_fleet.proofs.Steady.{not_closed, stays_shut, nobody_enters}

-- a reading changes nothing else of a device
same_but_reading : {A : Type 0} (f : DeviceState → A) → ((s : DeviceState) (n : ℕ) → f (record s { reading = n }) ≡ f s) → (devices : List DeviceState)
    (d counter : ℕ) → f (slice_index_or (slice_set devices d (record (slice_index_or devices d untouched) { reading = counter })) d untouched)
    ≡ f (slice_index_or devices d untouched)
same_but_reading f same [] d counter = refl
same_but_reading f same (s ∷ devices) zero counter = same s counter
same_but_reading f same (s ∷ devices) (suc d) counter = same_but_reading f same devices d counter

-- so the device stands as before
pub stays_at : (old new : memberships.Registers) (reference d counter : ℕ) → new ≡ registers_resting old (event.Tick reference d counter) → StaysAt old new d
stays_at old new reference d counter is =
    let rested : memberships.Registers = registers_resting old (event.Tick reference d counter) in
    let up : up_at rested.world d ≡ up_at old.world d = same_but_reading (λ s. s.up) (λ s n. refl) old.world.devices d counter in
    subst (λ (r : memberships.Registers). StaysAt old r d) (sym is)
    (record {
      answers = ap (λ b. if b then at_place old.answers d None (λ a. a) else None) up;
      counted = ap (λ b. b && (is_in_force old d || joins_at rested.world d)) up
          ∙ ap (λ n. up_at old.world d && (is_in_force old d || (is_open old.world.window && nat_eq n old.world.windows)))
          (same_but_reading (λ s. s.joined) (λ s n. refl) old.world.devices d counter);
    })

module _ (old : Registers) (reference d counter : ℕ) where
  abbrev ticked : Event
  ticked = event.Tick reference d counter

  pub after_rest : (mid : Book) (m : memberships.Registers) → m ≡ registers_resting old.membership ticked
      → mid.flights ≡ filter (is_current reference) old.book.flights → mid.last ≡ old.book.last → mid.size ≡ old.book.size
      → is_open old.membership.world.window ≡ false → (a : AnswerSummary) → at_place old.membership.answers d None (λ x. x) ≡ Some a
      → IsAfter old ticked (replied Quiet a) (kept old.net m mid)
  after_rest mid m is flights last size shut a at =
      record {
        net = refl;
        membership = is ∙ same_answers old.membership ticked d a refl at
            ∙ not_closed old.membership reference d counter a shut (registers_after old.membership ticked (Some a)) refl;
        flights = flights ∙ sym (append-nil (filter (is_current reference) old.book.flights));
        last = omega (arith, last);
        size = size;
      }

  -- and a fabric stays sound, with as many messages sent as there are links
  pub sound_rest : (mid : Book) (m : memberships.Registers) → IsSound old → refusal_in old ticked ≡ None → m ≡ registers_resting old.membership ticked
      → memberships.IsSound m → AreGiven mid → mid.last ≤ old.book.last + 2 ^ 15 → mid.size ≡ old.book.size
      → IsSound (kept old.net m mid)
  sound_rest mid m sound accepted is good given last size =
      let left : old.membership.world.events < 2 ^ 26 = events_left old ticked accepted in
      let events : m.world.events ≡ old.membership.world.events + 1 = ap (λ (r : memberships.Registers). r.world.events) is in
      record {
        net = sound.net;
        tables = subst (λ (r : memberships.Registers). AreTables old.net r.plans) (sym is) sound.tables;
        membership = good;
        answers = ap (λ (r : memberships.Registers). length r.answers) is ∙ sound.answers;
        links = ap (λ (r : memberships.Registers). length r.world.failed_links) is ∙ sound.links;
        events = omega (arith, events, left);
        sent = omega (arith, events, last, sound.sent);
        given = given;
        size = size ∙ sound.size;
      }

  -- what comes of it
  pub outcome_rest : is_open old.membership.world.window ≡ false → (a : AnswerSummary)
      → outcome_in old ticked (replied Quiet a) ≡ outcome_resting old d
  outcome_rest shut a =
      same_outcome (outcome_in old ticked (replied Quiet a)) (outcome_resting old d) refl refl refl refl
      (nobody_enters old.membership reference d counter a shut) refl (stays_shut old.membership reference d counter a shut) refl
