-- What the latest event does to the premise on failures.
use Rattle.std.proofs.Common.{◌≡◌, ℕ, zero, suc, ◌<◌, Bool, true, false, not, ◌&&◌, ◌||◌, cond, List, [], ◌∷◌, ◌++◌, length, map, find, Option, Some, None, is_some, option_to_list, refl, sym, ap, ◌∙◌, arith}
use Rattle.std.specs.Prelude.{filter_map}
use Rattle.std.specs.List.{list_any, cons_option}
use Rattle.std.proofs.lemmas.Bool.{and_parts}
use Rattle.sd_num.specs.Lists.{below, leading}
use Rattle.sd_plan.specs.topo.Network.{Network}
use Rattle.sd_plan.specs.declared.topo.Thing.{Thing}
use Rattle.sd_plan.specs.declared.topo.Thing.TheVariants as thing
use Rattle.sd_plan.specs.domain.Domains.{within_one}
use Rattle.sd_plan.specs.domain.Failing.{HasRoomFor}
use Rattle.sd_plan.specs.domain.Failures.{FailedThings, nothing_of, with_thing, things_of, has_thing}
use Rattle.sd_plan.specs.domain.Things.{same_thing}
use Rattle.sd_plan.specs.declared.domain.DomainId.TheVariants as domain
use Rattle.sd_plan.proofs.domain.Within.{has_thing-nothing_of, has_thing-with_thing, within_one-listed}
use Rattle.sd_history.specs.Things.{failure_of}
use Rattle.sd_history.specs.World.{Setting, Seen}
use Rattle.sd_history.specs.Premises.{failures_since_closing, fails_within_one, domain_holds}
use Rattle.sd_monitors.specs.renewal.Domains.{DomainKept, with_failure, if_closed, domain_after, DomainStands}

-- Nothing lies in one domain

first_left : {X : Type 0} (xs ys : List X) → is_some (find (λ y. true) xs) ≡ true → is_some (find (λ y. true) (xs ++ ys)) ≡ true
first_left [] ys found = cc
first_left (x ∷ xs) ys found = refl

first_right : {X : Type 0} (xs ys : List X) → is_some (find (λ y. true) ys) ≡ true → is_some (find (λ y. true) (xs ++ ys)) ≡ true
first_right [] ys found = found
first_right (x ∷ xs) ys found = refl

device_first : (n : ℕ) → 0 < n → is_some (find (λ y. true) (map domain.Device (below n))) ≡ true
device_first zero some = absurd (omega (arith, some))
device_first (suc n) some = by (below n)
  where
    by : (xs : List ℕ) → is_some (find (λ y. true) (map domain.Device (xs ++ n ∷ []))) ≡ true
    by [] = refl
    by (x ∷ xs) = refl

nothing_within : (net : Network) → 0 < length net.devices → is_some (within_one net []) ≡ true
nothing_within net some =
    first_left (map domain.Listed (below (length net.domains)) ++ map domain.Device (below (length net.devices))) (map domain.Link (below (length net.links)))
    (first_right (map domain.Listed (below (length net.domains))) (map domain.Device (below (length net.devices))) (device_first (length net.devices) some))

-- What failed since the latest closing

-- with what fails at the event
abbrev judged : Seen → List Seen → List Thing
judged s earlier = option_to_list (failure_of s.event) ++ failures_since_closing earlier

failures_on : (s : Seen) (earlier : List Seen) → failures_since_closing (s ∷ earlier) ≡ cond s.closed [] (judged s earlier)
failures_on s earlier = by s.closed (failure_of s.event) refl
  where
    by : (closed : Bool) (o : Option Thing) → failure_of s.event ≡ o
        → filter_map (λ x. failure_of x.event) (cond (not closed) (s ∷ leading (λ x. not x.closed) earlier) [])
        ≡ cond closed [] (option_to_list o ++ failures_since_closing earlier)
    by true o is = refl
    by false None is = ap (λ (x : Option Thing). cons_option x (failures_since_closing earlier)) is
    by false (Some x) is = ap (λ (x : Option Thing). cons_option x (failures_since_closing earlier)) is

-- while the premise holds, what failed since the latest closing lies in one domain
within_held : (setting : Setting) (seen : List Seen) → 0 < length setting.net.devices → domain_holds setting seen ≡ true
    → is_some (within_one setting.net (failures_since_closing seen)) ≡ true
within_held setting [] some held = nothing_within setting.net some
within_held setting (s ∷ earlier) some held = ap (λ xs. is_some (within_one setting.net xs)) (failures_on s earlier) ∙ by s.closed
  where
    by : (closed : Bool) → is_some (within_one setting.net (cond closed [] (judged s earlier))) ≡ true
    by true = nothing_within setting.net some
    by false = (and_parts (domain_holds setting earlier) (fails_within_one setting s earlier) held).1

-- where nothing fails the premise holds as before
held_still : (setting : Setting) (s : Seen) (earlier : List Seen) → 0 < length setting.net.devices → failure_of s.event ≡ None
    → domain_holds setting (s ∷ earlier) ≡ domain_holds setting earlier
held_still setting s earlier some none =
    ap (λ (o : Option Thing). domain_holds setting earlier && is_some (within_one setting.net (option_to_list o ++ failures_since_closing earlier))) none
    ∙ by (domain_holds setting earlier) refl
  where
    by : (b : Bool) → domain_holds setting earlier ≡ b → (b && is_some (within_one setting.net (failures_since_closing earlier))) ≡ b
    by true held = within_held setting earlier some held
    by false broken = refl

-- What is kept

-- the event was judged, and the window has not closed with it yet
record IsJudged (setting : Setting) (kept : DomainKept) (s : Seen) (earlier : List Seen) : Type 0 where
  holds : kept.holds ≡ domain_holds setting (s ∷ earlier)
  room : HasRoomFor setting.net kept.failed
  failed : (x : Thing) → has_thing kept.failed x ≡ list_any (same_thing x) (judged s earlier)

room_with : (net : Network) (failed : FailedThings) (x : Thing) → HasRoomFor net failed → HasRoomFor net (with_thing failed x)
room_with net failed (thing.Device d) room = record { devices = room.devices; links = room.links }
room_with net failed (thing.Link l) room = record { devices = room.devices; links = room.links }

judged_after : (setting : Setting) (kept : DomainKept) (s : Seen) (earlier : List Seen) → 0 < length setting.net.devices → DomainStands setting kept earlier
    → IsJudged setting (with_failure setting.net (failure_of s.event) kept) s earlier
judged_after setting kept s earlier some stands = by (failure_of s.event) refl
  where
    by : (o : Option Thing) → failure_of s.event ≡ o → IsJudged setting (with_failure setting.net o kept) s earlier
    by None none = record {
      holds = stands.holds ∙ sym (held_still setting s earlier some none);
      room = stands.room;
      failed = λ x. stands.failed x ∙ ap (λ (o : Option Thing). list_any (same_thing x) (option_to_list o ++ failures_since_closing earlier)) (sym none);
    }
    by (Some y) fails =
        let things : (x : Thing) → has_thing (with_thing kept.failed y) x ≡ list_any (same_thing x) (judged s earlier) =
        λ x. has_thing-with_thing kept.failed y x
        ∙ ap (λ b. same_thing x y || b) (stands.failed x)
        ∙ ap (λ (o : Option Thing). list_any (same_thing x) (option_to_list o ++ failures_since_closing earlier)) (sym fails) in
        record {
          holds =
              ap (λ b. b && is_some (within_one setting.net (things_of (with_thing kept.failed y)))) stands.holds
              ∙ ap (λ o. domain_holds setting earlier && is_some o) (within_one-listed setting.net (with_thing kept.failed y) (judged s earlier) things);
          room = room_with setting.net kept.failed y stands.room;
          failed = things;
        }

-- what is kept stands for what was seen and one event more
pub domain_stands : (setting : Setting) (kept : DomainKept) (s : Seen) (earlier : List Seen) → 0 < length setting.net.devices
    → DomainStands setting kept earlier
    → DomainStands setting (domain_after setting.net s kept) (s ∷ earlier)
domain_stands setting kept s earlier some stands = by s.closed refl
  where
    after : IsJudged setting (with_failure setting.net (failure_of s.event) kept) s earlier
    after = judged_after setting kept s earlier some stands

    by : (closed : Bool) → s.closed ≡ closed → DomainStands setting (if_closed closed (with_failure setting.net (failure_of s.event) kept)) (s ∷ earlier)
    by true closes = record {
      holds = after.holds;
      room = record { devices = after.room.devices; links = after.room.links };
      failed =
          λ x. has_thing-nothing_of (with_failure setting.net (failure_of s.event) kept).failed.device_room
          (with_failure setting.net (failure_of s.event) kept).failed.link_room x
          ∙ ap (λ xs. list_any (same_thing x) xs) (sym (failures_on s earlier ∙ ap (λ b. cond b [] (judged s earlier)) closes));
    }
    by false stays = record {
      holds = after.holds;
      room = after.room;
      failed = λ x. after.failed x ∙ ap (λ xs. list_any (same_thing x) xs) (sym (failures_on s earlier ∙ ap (λ b. cond b [] (judged s earlier)) stays));
    }

-- the monitor that has seen nothing
pub domain_begins : (setting : Setting) (kept : DomainKept) → kept.failed ≡ nothing_of (length setting.net.devices) (length setting.net.links)
    → kept.holds ≡ true → DomainStands setting kept []
domain_begins setting kept nothing holds = record {
  holds = holds;
  room = record { devices = ap (λ f. f.device_room) nothing; links = ap (λ f. f.link_room) nothing };
  failed = λ x. ap (λ f. has_thing f x) nothing ∙ has_thing-nothing_of (length setting.net.devices) (length setting.net.links) x;
}
