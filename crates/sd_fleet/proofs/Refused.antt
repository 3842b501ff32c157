-- A fabric refuses what the history refuses for which it stands: it asks for the same causes in the same order, and each is decided alike where
-- none before it holds.
use Rattle.std.specs.Prelude.{◌≡◌, ℕ, ◌<◌, ◌^◌, Bool, true, false, ◌&&◌, ◌||◌, not, List, length, nat_eq, nat_le, nat_lt, Option, Some, None, is_some, Ok, Err, refl, if◌then◌else◌}
use Rattle.std.proofs.Common.{sym, ◌∙◌, ap, subst}
use Rattle.sd_num.specs.Lists.{map_or, same_number}
use Rattle.sd_plan.specs.declared.topo.Thing.{Thing}
use Rattle.sd_plan.specs.declared.topo.Thing.TheVariants as thing
use Rattle.sd_plan.specs.Plans.{is_member}
use Rattle.sd_device.specs.declared.msg.Flight.{Flight}
use Rattle.sd_device.specs.declared.msg.TakeFault.TheVariants as fault
use Rattle.sd_device.specs.msg.Books.{found}
use Rattle.sd_sched.specs.declared.Event.{Event}
use Rattle.sd_sched.specs.Events.{reference_of, device_of, counter_of, link_of, message_of, received, started, joined, given, is_stage, is_commit, is_seal}
use Rattle.sd_history.specs.Things.{failure_of, mended}
use Rattle.sd_history.specs.World.{Setting, Seen, is_counted, in_force, staged, staged_epoch, is_staged_member, window_is_open, has_commit, has_failed, is_up, was_made, latest_reading}
use Rattle.sd_history.specs.Steps.{Step, seen_of, flight_count, flight_numbered, epoch_in, given_in}
use Rattle.sd_history.specs.Refusals.{makes_some, is_spent, causes, refusal, unknown_device, unknown_link, unknown_message, spent_message, wrong_device, counter_falls, not_started, started_twice, no_plan_left, past_preparing, window_order, window_order_within, not_failed, not_member}
use Rattle.sd_history.specs.Open.{unspent}
use Rattle.sd_history.specs.flights.Flights.{says_unknown, says_spent}
use Rattle.sd_history.proofs.flights.Looks.{look_is, unknown_is, spent_is, spent_at}
use Rattle.sd_history.proofs.Shared.{received_message}
use Rattle.sd_world.specs.world.Registers.{failed_at, up_at, reading_at, made_at, is_open, is_committed}
use Rattle.sd_world.specs.world.Standing as worlds
use Rattle.sd_world.specs.membership.Plans.{root_numbered}
use Rattle.sd_world.specs.membership.Memberships.{staged_number, is_of, holds_given, is_in_force, is_in_staged, is_counted_at}
use Rattle.sd_world.proofs.membership.Queries.{plan_count, staged_number_is, is_of_is, holds_given_is, staged_root_is, in_force_is, in_staged_is, counted_is}
use Rattle.sd_fleet.specs.Registers.{Registers}
use Rattle.sd_fleet.specs.Causes.{causes_in, refusal_in, flight_at, is_for_another, past_preparing_in}
use Rattle.sd_fleet.specs.FabricStanding.{Stands}
use Rattle.sd_fleet.proofs.Alike.{AreAlike, first_alike, started_named, joined_named, given_named, IsNamed, mended_named, in_range, named_alike}

module _ (setting : Setting) (r : Registers) (steps : List Step) (e : Event) (stands : Stands r setting steps) where
  abbrev seen : List Seen
  seen = seen_of steps

  abbrev devices : ℕ
  devices = length setting.net.devices

  abbrev IsKnown : Type 0
  IsKnown = unknown_device setting e ≡ false

  abbrev HasLink : Type 0
  HasLink = unknown_link setting e ≡ false

  at_device : (d : ℕ) → d < devices → worlds.StandsAt r.membership.world seen d
  at_device d within = stands.membership.world.devices d (subst (λ (n : ℕ). d < n) (sym stands.membership.world.device_count) within)

  at_link : (l : ℕ) → l < length setting.net.links → failed_at r.membership.world (thing.Link l) ≡ has_failed seen (thing.Link l)
  at_link l within = stands.membership.world.links l (subst (λ (n : ℕ). l < n) (sym stands.membership.world.link_count) within)

  -- tests of the device that is named, or of one that is named as something
  on_named : (o : Option ℕ) (p q : ℕ → Bool) → IsKnown → ((d : ℕ) → o ≡ Some d → device_of e ≡ Some d) → ((d : ℕ) → d < devices → p d ≡ q d)
      → map_or o false p ≡ map_or o false q
  on_named o p q known names same = named_alike devices (device_of e) o p q known names same

  on_device : (p q : ℕ → Bool) → IsKnown → ((d : ℕ) → d < devices → p d ≡ q d) → map_or (device_of e) false p ≡ map_or (device_of e) false q
  on_device p q known same = on_named (device_of e) p q known (λ d is. is) same

  -- What is named

  same_devices : map_or (device_of e) false (λ d. nat_le (length r.net.devices) d) ≡ unknown_device setting e
  same_devices = ap (λ net. map_or (device_of e) false (λ d. nat_le (length net.devices) d)) stands.net

  same_links : map_or (link_of e) false (λ l. nat_le (length r.net.links) l) ≡ unknown_link setting e
  same_links = ap (λ net. map_or (link_of e) false (λ l. nat_le (length net.links) l)) stands.net

  dead_devices : IsKnown
      → map_or (device_of e) false (λ d. failed_at r.membership.world (thing.Device d)) ≡ map_or (device_of e) false (λ d. has_failed seen (thing.Device d))
  dead_devices known =
      on_device (λ d. failed_at r.membership.world (thing.Device d)) (λ d. has_failed seen (thing.Device d)) known (λ d within. (at_device d within).failed)

  dead_links : HasLink
      → map_or (link_of e) false (λ l. failed_at r.membership.world (thing.Link l)) ≡ map_or (link_of e) false (λ l. has_failed seen (thing.Link l))
  dead_links known =
      named_alike (length setting.net.links) (link_of e) (link_of e) (λ l. failed_at r.membership.world (thing.Link l))
      (λ l. has_failed seen (thing.Link l)) known (λ l is. is) at_link

  failed_alike : IsKnown → HasLink → (x : Thing) → IsNamed e x → failed_at r.membership.world x ≡ has_failed seen x
  failed_alike known linked (thing.Device d) names = (at_device d (in_range devices (device_of e) d known names)).failed
  failed_alike known linked (thing.Link l) names = at_link l (in_range (length setting.net.links) (link_of e) l linked names)

  -- Messages

  pub same_look : (n : ℕ) → flight_at r n ≡ found (flight_count steps) (unspent steps 0) n
  same_look n = ap (λ last. found last r.book.flights n) stands.sent ∙ ap (λ flights. found (flight_count steps) flights n) stands.flights

  unknown_alike : map_or (message_of e) false (λ n. says_unknown (flight_at r n)) ≡ unknown_message steps e
  unknown_alike = go (message_of e) refl
    where
      go : (o : Option ℕ) → message_of e ≡ o → map_or (message_of e) false (λ n. says_unknown (flight_at r n)) ≡ unknown_message steps e
      go None names =
          ap (λ o. map_or o false (λ n. says_unknown (flight_at r n))) names
          ∙ sym (ap (λ o. map_or o false (λ n. nat_eq n 0 || nat_lt (flight_count steps) n)) names)
      go (Some n) names =
          ap (λ o. map_or o false (λ m. says_unknown (flight_at r m))) names ∙ ap says_unknown (same_look n)
          ∙ sym (unknown_is setting steps e n stands.accepted names)

  spent_alike : map_or (message_of e) false (λ n. says_spent (reference_of e) (flight_at r n)) ≡ spent_message steps e
  spent_alike = go (message_of e) refl
    where
      go : (o : Option ℕ) → message_of e ≡ o → map_or (message_of e) false (λ n. says_spent (reference_of e) (flight_at r n)) ≡ spent_message steps e
      go None names =
          ap (λ o. map_or o false (λ n. says_spent (reference_of e) (flight_at r n))) names
          ∙ sym (ap (λ o. map_or o false (λ n. map_or (flight_numbered steps n) false (is_spent steps (reference_of e)))) names)
      go (Some n) names =
          ap (λ o. map_or o false (λ m. says_spent (reference_of e) (flight_at r m))) names ∙ ap (says_spent (reference_of e)) (same_look n)
          ∙ sym (spent_is setting steps e n stands.accepted names)

  -- of a flight that is not spent
  wrong_at : (o : Option Flight) → map_or o false (is_spent steps (reference_of e)) ≡ false
      → is_for_another (device_of e) (map_or o (Err fault.Unknown) (λ f. if is_spent steps 0 f then Err fault.Spent else Ok f))
      ≡ map_or o false (λ f. not (same_number (device_of e) f.receiver))
  wrong_at None fresh = refl
  wrong_at (Some f) fresh = go (is_spent steps 0 f) (sym (spent_at steps (reference_of e) f) ∙ fresh)
    where
      go : (b : Bool) → (b || nat_lt f.last (reference_of e)) ≡ false
          → is_for_another (device_of e) (if b then Err fault.Spent else Ok f) ≡ not (same_number (device_of e) f.receiver)
      go true never = cc
      go false ok = refl

  wrong_alike : spent_message steps e ≡ false → map_or (received e) false (λ n. is_for_another (device_of e) (flight_at r n)) ≡ wrong_device steps e
  wrong_alike fresh = go (received e) refl
    where
      go : (o : Option ℕ) → received e ≡ o
          → map_or o false (λ n. is_for_another (device_of e) (flight_at r n))
          ≡ map_or o false (λ n. map_or (flight_numbered steps n) false (λ f. not (same_number (device_of e) f.receiver)))
      go None names = refl
      go (Some n) names =
          ap (is_for_another (device_of e)) (same_look n ∙ look_is setting steps n stands.accepted)
          ∙ wrong_at (flight_numbered steps n)
          (sym (ap (λ o. map_or o false (λ m. map_or (flight_numbered steps m) false (is_spent steps (reference_of e)))) (received_message e n names)) ∙ fresh)

  -- Devices

  counters_alike : IsKnown
      → (not (makes_some e) && map_or (device_of e) false (λ d. map_or (counter_of e) false (λ c. nat_lt c (reading_at r.membership.world d))))
      ≡ counter_falls seen e
  counters_alike known =
      ap (λ b. not (makes_some e) && b)
      (on_device (λ d. map_or (counter_of e) false (λ c. nat_lt c (reading_at r.membership.world d)))
      (λ d. map_or (counter_of e) false (λ c. nat_lt c (latest_reading seen d))) known
      (λ d within. ap (λ reading. map_or (counter_of e) false (λ c. nat_lt c reading)) (at_device d within).reading))

  starts_alike : IsKnown
      → (not (makes_some e || is_some (failure_of e) || is_some (mended e)) && map_or (device_of e) false (λ d. not (up_at r.membership.world d)))
      ≡ not_started seen e
  starts_alike known =
      ap (λ b. not (makes_some e || is_some (failure_of e) || is_some (mended e)) && b)
      (on_device (λ d. not (up_at r.membership.world d)) (λ d. not (is_up seen d)) known (λ d within. ap not (at_device d within).up))

  twice_alike : IsKnown
      → (map_or (started e) false (made_at r.membership.world) || map_or (joined e) false (is_counted_at r.membership)) ≡ started_twice setting seen e
  twice_alike known =
      ap (λ b. b || map_or (joined e) false (is_counted_at r.membership))
      (on_named (started e) (made_at r.membership.world) (was_made seen) known (started_named e) (λ d within. (at_device d within).made))
      ∙ ap (λ b. map_or (started e) false (was_made seen) || b)
      (on_named (joined e) (is_counted_at r.membership) (is_counted setting seen) known (joined_named e)
      (counted_is r.membership setting steps stands.membership))

  -- Windows

  left_alike : (is_stage e && not (is_open r.membership.world.window) && nat_le (length r.membership.plans) r.membership.world.epoch)
      ≡ no_plan_left setting seen e
  left_alike =
      ap (λ b. is_stage e && not b && nat_le (length r.membership.plans) r.membership.world.epoch) stands.membership.world.open_window
      ∙ ap (λ n. is_stage e && not (window_is_open seen) && nat_le n r.membership.world.epoch) (plan_count r.membership setting steps stands.membership)
      ∙ ap (λ n. is_stage e && not (window_is_open seen) && nat_le (length setting.plans) n) stands.membership.world.epoch

  preparing_alike : past_preparing_in r ≡ past_preparing seen
  preparing_alike =
      ap (λ b. not b || is_committed r.membership.world.window) stands.membership.world.open_window
      ∙ ap (λ b. not (window_is_open seen) || b) stands.membership.world.commit

  roots_alike : map_or (device_of e) false
      (λ d. not (is_open r.membership.world.window && nat_eq (root_numbered r.membership.plans (staged_number r.membership)) d))
      ≡ map_or (device_of e) false (λ d. not (map_or (staged setting seen) false (λ plan. nat_eq plan.root d)))
  roots_alike = go (device_of e)
    where
      go : (o : Option ℕ)
          → map_or o false (λ d. not (is_open r.membership.world.window && nat_eq (root_numbered r.membership.plans (staged_number r.membership)) d))
          ≡ map_or o false (λ d. not (map_or (staged setting seen) false (λ plan. nat_eq plan.root d)))
      go None = refl
      go (Some d) = ap not (staged_root_is r.membership setting steps stands.membership d)

  holds : (d : ℕ) → d < devices → holds_given r.membership (staged_number r.membership) d ≡ same_number (given_in steps d) (staged_epoch seen)
  holds d within =
      holds_given_is r.membership setting steps stands.membership (staged_number r.membership) d within
      ∙ ap (same_number (given_in steps d)) (staged_number_is r.membership setting steps stands.membership)

  follows : (d : ℕ) → d < devices → is_of r.membership (staged_number r.membership) d ≡ same_number (epoch_in steps d) (staged_epoch seen)
  follows d within =
      is_of_is r.membership setting steps stands.membership (staged_number r.membership) d within
      ∙ ap (same_number (epoch_in steps d)) (staged_number_is r.membership setting steps stands.membership)

  within_alike : IsKnown
      → map_or (device_of e) false (λ d. (is_commit e && not (holds_given r.membership (staged_number r.membership) d))
      || (is_seal e && not (is_of r.membership (staged_number r.membership) d))) ≡ window_order_within steps e
  within_alike known =
      on_device (λ d. (is_commit e && not (holds_given r.membership (staged_number r.membership) d))
      || (is_seal e && not (is_of r.membership (staged_number r.membership) d)))
      (λ d. (is_commit e && not (same_number (given_in steps d) (staged_epoch seen)))
      || (is_seal e && not (same_number (epoch_in steps d) (staged_epoch seen)))) known
      (λ d within.
      ap (λ b. (is_commit e && not b) || (is_seal e && not (is_of r.membership (staged_number r.membership) d))) (holds d within)
      ∙ ap (λ b. (is_commit e && not (same_number (given_in steps d) (staged_epoch seen))) || (is_seal e && not b)) (follows d within))

  -- the order of a window, by what is told of it
  abbrev order_by : (open_ past committed other within : Bool) → Bool
  order_by open_ past committed other within =
      (is_stage e && open_)
      || ((is_some (given e) || is_some (joined e) || is_some (mended e) || is_commit e) && past)
      || (is_commit e && other)
      || (is_seal e && (not open_ || not committed))
      || within

  order_alike : IsKnown
      → order_by (is_open r.membership.world.window) (past_preparing_in r) (is_committed r.membership.world.window)
      (map_or (device_of e) false (λ d. not (is_open r.membership.world.window && nat_eq (root_numbered r.membership.plans (staged_number r.membership)) d)))
      (map_or (device_of e) false (λ d. (is_commit e && not (holds_given r.membership (staged_number r.membership) d))
      || (is_seal e && not (is_of r.membership (staged_number r.membership) d))))
      ≡ window_order setting steps e
  order_alike known =
      all_five (is_open r.membership.world.window) (window_is_open seen) (past_preparing_in r) (past_preparing seen) (is_committed r.membership.world.window)
      (has_commit seen)
      (map_or (device_of e) false (λ d. not (is_open r.membership.world.window && nat_eq (root_numbered r.membership.plans (staged_number r.membership)) d)))
      (map_or (device_of e) false (λ d. not (map_or (staged setting seen) false (λ plan. nat_eq plan.root d))))
      (map_or (device_of e) false (λ d. (is_commit e && not (holds_given r.membership (staged_number r.membership) d))
      || (is_seal e && not (is_of r.membership (staged_number r.membership) d))))
      (window_order_within steps e)
      stands.membership.world.open_window preparing_alike stands.membership.world.commit roots_alike (within_alike known)
    where
      all_five : (o o' p p' c c' x x' w w' : Bool) → o ≡ o' → p ≡ p' → c ≡ c' → x ≡ x' → w ≡ w' → order_by o p c x w ≡ order_by o' p' c' x' w'
      all_five o o' p p' c c' x x' w w' eo ep ec ex ew = cc

  -- The rest

  failed_not_alike : IsKnown → HasLink → map_or (mended e) false (λ x. not (failed_at r.membership.world x)) ≡ not_failed seen e
  failed_not_alike known linked = go (mended e) (mended_named e)
    where
      go : (o : Option Thing) → ((x : Thing) → o ≡ Some x → IsNamed e x)
          → map_or o false (λ x. not (failed_at r.membership.world x)) ≡ map_or o false (λ x. not (has_failed seen x))
      go None names = refl
      go (Some x) names = ap not (failed_alike known linked x (names x refl))

  members_alike : IsKnown
      → (map_or (started e) false (λ d. not (is_in_force r.membership d)) || map_or (given e) false (λ d. not (is_in_staged r.membership d))
      || map_or (joined e) false (λ d. not (is_in_staged r.membership d))) ≡ not_member setting seen e
  members_alike known =
      ap (λ b. b || map_or (given e) false (λ d. not (is_in_staged r.membership d)) || map_or (joined e) false (λ d. not (is_in_staged r.membership d)))
      (on_named (started e) (λ d. not (is_in_force r.membership d)) (λ d. not (is_member (in_force setting seen) d)) known (started_named e)
      (λ d within. ap not (in_force_is r.membership setting steps stands.membership d within)))
      ∙ ap (λ b. map_or (started e) false (λ d. not (is_member (in_force setting seen) d)) || b
      || map_or (joined e) false (λ d. not (is_in_staged r.membership d)))
      (on_named (given e) (λ d. not (is_in_staged r.membership d)) (λ d. not (is_staged_member setting seen d)) known (given_named e)
      (λ d within. ap not (in_staged_is r.membership setting steps stands.membership d within)))
      ∙ ap (λ b. map_or (started e) false (λ d. not (is_member (in_force setting seen) d))
      || map_or (given e) false (λ d. not (is_staged_member setting seen d)) || b)
      (on_named (joined e) (λ d. not (is_in_staged r.membership d)) (λ d. not (is_staged_member setting seen d)) known (joined_named e)
      (λ d within. ap not (in_staged_is r.membership setting steps stands.membership d within)))

  -- All causes

  causes_alike : AreAlike (causes_in r e) (causes setting steps e)
  causes_alike = (
    refl,
    same_devices,
    λ known. (
      refl,
      same_links,
      λ linked. (
        refl,
        ap (λ b. not (is_some (mended e)) && b) (dead_devices known),
        λ alive. (
          refl,
          ap (λ b. not (is_some (mended e)) && b) (dead_links linked),
          λ whole. (
            refl,
            unknown_alike,
            λ given_. (
              refl,
              spent_alike,
              λ fresh. (
                refl,
                wrong_alike fresh,
                λ right. (
                  refl,
                  ap (nat_lt (reference_of e)) stands.membership.world.reference,
                  λ rising. (
                    refl,
                    counters_alike known,
                    λ reading. (
                      refl,
                      starts_alike known,
                      λ started_. (
                        refl,
                        twice_alike known,
                        λ once. (
                          refl,
                          left_alike,
                          λ some. (
                            refl,
                            order_alike known,
                            λ ordered. (
                              refl,
                              stands.membership.world.ended,
                              λ going. (
                                refl,
                                failed_not_alike known linked,
                                λ failed. (
                                  refl,
                                  members_alike known,
                                  λ member. (
                                    refl,
                                    ap (nat_le (2 ^ 26)) stands.membership.world.events,
                                    λ few. tt,
                                  ),
                                ),
                              ),
                            ),
                          ),
                        ),
                      ),
                    ),
                  ),
                ),
              ),
            ),
          ),
        ),
      ),
    ),
  )

  -- the first cause for which an event is refused is the same
  pub refusal_is : refusal_in r e ≡ refusal setting steps e
  refusal_is = first_alike (causes_in r e) (causes setting steps e) causes_alike
