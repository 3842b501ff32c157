-- What an accepted event asks of the parts of a fabric, and that a fabric stays sound.
use Rattle.std.specs.Prelude.{◌≡◌, ℕ, ◌+◌, ◌^◌, ◌<◌, ◌≤◌, Bool, true, false, ◌&&◌, ◌||◌, List, [], length, filter, nat_eq, nat_le, is_ok, Option, Some, None, IfSome, IsOk, IsOkAnd, Result, Ok, Err, refl, if◌then◌else◌}
use Rattle.std.proofs.Common.{arith, sym, ◌∙◌, ap, subst, inl, inr}
use Rattle.std.proofs.lemmas.Bool.{and_parts, or_cases, eqb-true, leb-true, le-leb, lt-ltb}
use Rattle.sd_num.specs.Lists.{map_or}
use Rattle.sd_plan.specs.topo.Network.{Network, Each}
use Rattle.sd_plan.specs.topo.Limits.{IsNetwork}
use Rattle.sd_plan.specs.declared.End.{End}
use Rattle.sd_plan.specs.Tables.{TableRow}
use Rattle.sd_device.specs.declared.msg.Flight.{Flight}
use Rattle.sd_device.specs.declared.msg.TakeFault.{TakeFault}
use Rattle.sd_device.specs.msg.Books.{Book, AreGiven, found, dismissed, is_current}
use Rattle.sd_device.specs.declared.Effect.{Effect}
use Rattle.sd_device.specs.declared.Effect.TheVariants.{Quiet, Send}
use Rattle.sd_sched.specs.declared.Event.{Event}
use Rattle.sd_sched.specs.declared.Event.TheVariants as event
use Rattle.sd_sched.specs.Events.{reference_of, device_of}
use Rattle.sd_sched.specs.Spelled.{is_within}
use Rattle.sd_history.specs.World.{Setting}
use Rattle.sd_world.specs.membership.Standing as standing
use Rattle.sd_history.proofs.flights.Booking.{found_kept}
use Rattle.sd_world.specs.world.Registers.{is_open}
use Rattle.sd_world.proofs.world.Slots.{length_links}
use Rattle.sd_world.specs.declared.membership.AnswerSummary.{AnswerSummary}
use Rattle.sd_world.specs.membership.Plans.{IsNumber, IsEnd, IsSoundRow, AreTables, row_numbered}
use Rattle.sd_world.specs.membership.Memberships as memberships
use Rattle.sd_world.specs.membership.Memberships.{staged_number, is_current_number, ends_below, registers_closed, can_close_in}
use Rattle.sd_world.proofs.membership.Observing.{length_answers}
use Rattle.sd_fleet.specs.declared.Reply.{Reply}
use Rattle.sd_fleet.specs.Registers.{Registers, kept, size_of}
use Rattle.sd_fleet.specs.Causes.{refusal_in}
use Rattle.sd_fleet.specs.Calm.{is_on_time}
use Rattle.sd_fleet.specs.Doing.{IsReplyTo}
use Rattle.sd_fleet.specs.Room.{ends_in, most_sent_in}
use Rattle.sd_fleet.specs.Sending.{sent_by, sent_in}
use Rattle.sd_fleet.specs.Sound.{IsSound}
use Rattle.sd_fleet.specs.Stepping.{membership_after, IsAfter}
use Rattle.sd_fleet.proofs.Admitted.{device_known, events_left}
use Rattle.sd_fleet.proofs.Adding.{length-over}
use Rattle.sd_fleet.proofs.Replies.{sent_quiet}

-- What is named is known

if_some : (o : Option ℕ) (P : ℕ → Type 0) → ((n : ℕ) → o ≡ Some n → P n) → IfSome o P
if_some None P each = tt
if_some (Some n) P each = each n refl

pub named_answers : (r : Registers) (e : Event) → IsSound r → refusal_in r e ≡ None → IfSome (device_of e) (λ d. d < length r.membership.answers)
named_answers r e sound accepted =
    if_some (device_of e) (λ d. d < length r.membership.answers) (λ d is. let within : d < length r.net.devices = device_known r e accepted d is in
    omega (arith, sound.answers, within))

-- The message is on its way

-- it is found after what ended was left out, too

found_and : (P : Flight → Type 0) (look : Result Flight TakeFault) → IsOkAnd look P → (f : Flight) × (look ≡ Ok f) × P f
found_and P (Ok f) is = (f, refl, is)
found_and P (Err e) is = absurd is

-- a flight that can be received can be lost
pub still_kept : (reference d : ℕ) (look : Result Flight TakeFault) → IsOkAnd look (λ f. (reference ≤ f.last) × (f.receiver ≡ d))
    → IsOkAnd look (λ f. reference ≤ f.last)
still_kept reference d (Ok f) is = is.0
still_kept reference d (Err e) is = absurd is

pub is_there : (P : Flight → Type 0) (look : Result Flight TakeFault) → IsOkAnd look P → IsOk look
is_there P (Ok f) is = refl
is_there P (Err e) is = absurd is

pub on_time_there : (reference d : ℕ) (look : Result Flight TakeFault) → is_on_time reference d look ≡ true → IsOk look
on_time_there reference d (Ok f) timed = refl
on_time_there reference d (Err e) timed = cc

lost_is : (book : Book) (reference n : ℕ) → AreGiven book → IsOkAnd (found book.last book.flights n) (λ f. reference ≤ f.last)
    → found book.last (filter (is_current reference) book.flights) n ≡ found book.last book.flights n
lost_is book reference n given can =
    let it : (f : Flight) × (found book.last book.flights n ≡ Ok f) × (reference ≤ f.last) =
    found_and (λ f. reference ≤ f.last) (found book.last book.flights n) can in
    found_kept book.last n (is_current reference) book.flights it.0 given it.1 (le-leb reference it.0.last it.2) ∙ sym it.1

-- Ends

current_there : (r : memberships.Registers) (epoch : ℕ) → memberships.IsSound r → is_current_number r epoch ≡ true → IsNumber r.plans epoch
current_there r epoch sound is = elim (or_cases (nat_eq epoch r.world.epoch) (nat_eq epoch (staged_number r) && is_open r.world.window) is) [
  | inl force ↦ subst (IsNumber r.plans) (sym (eqb-true epoch r.world.epoch force)) sound.in_force
  | inr stage ↦ (let parts = and_parts (nat_eq epoch (staged_number r)) (is_open r.world.window) stage in
      subst (IsNumber r.plans) (sym (eqb-true epoch (staged_number r) parts.0)) (sound.staged parts.1))
]

-- what lies below a device are ends of links, and no more than there are links
pub record AreEnds (net : Network) (ends : List End) : Type 0 where
  pub each : Each (IsEnd net) ends
  pub few : length ends ≤ length net.links

no_ends : (net : Network) → AreEnds net []
no_ends net = record { each = λ i x at. cc; few = omega arith }

pub ends_sound : (r : Registers) (epoch d : ℕ) → IsSound r → AreEnds r.net (ends_below r.membership epoch d)
ends_sound r epoch d sound = by (is_current_number r.membership epoch) refl
  where
    by_row : (o : Option TableRow) → IsNumber r.membership.plans epoch → row_numbered r.membership.plans epoch d ≡ o
        → AreEnds r.net (map_or o [] (λ row. row.downstream))
    by_row None there is = no_ends r.net
    by_row (Some row) there is = let good : IsSoundRow r.net row = sound.tables.rows epoch d row there is in record { each = good.ends; few = good.few }

    by : (b : Bool) → is_current_number r.membership epoch ≡ b
        → AreEnds r.net (if b then map_or (row_numbered r.membership.plans epoch d) [] (λ row. row.downstream) else [])
    by true is = by_row (row_numbered r.membership.plans epoch d) (current_there r.membership epoch sound.membership is) refl
    by false is = no_ends r.net

-- Room

sent_length : (r : Registers) (reference d epoch : ℕ) (effect : Effect) → length (sent_by r reference d epoch effect) ≤ length (ends_below r.membership epoch d)
sent_length r reference d epoch Quiet = omega arith
sent_length r reference d epoch (Send m) =
    let same = length-over r.net r.membership.world (record { reference = reference; sender = d; message = m }) (r.book.last + 1)
    (ends_below r.membership epoch d) in omega arith

-- the ends in any plan are those in force, those staged, or none
either_plan : (r : memberships.Registers) (epoch d : ℕ)
    → length (ends_below r epoch d) ≤ length (ends_below r r.world.epoch d) + length (ends_below r (r.world.epoch + 1) d)
either_plan r epoch d = by (nat_eq epoch r.world.epoch) refl
  where
    second : (b : Bool) → nat_eq epoch (staged_number r) ≡ b → nat_eq epoch r.world.epoch ≡ false
        → length (ends_below r epoch d) ≤ length (ends_below r r.world.epoch d) + length (ends_below r (r.world.epoch + 1) d)
    second true here apart = let same : epoch ≡ staged_number r = eqb-true epoch (staged_number r) here in
        subst (λ (n : ℕ). length (ends_below r n d) ≤ length (ends_below r r.world.epoch d) + length (ends_below r (r.world.epoch + 1) d)) (sym same)
        (omega arith)
    second false other apart =
        let none : ends_below r epoch d ≡ [] =
        ap (λ b. if b || (nat_eq epoch (staged_number r) && is_open r.world.window) then map_or (row_numbered r.plans epoch d) []
        (λ (row : TableRow). row.downstream) else []) apart
        ∙ ap (λ b. if b && is_open r.world.window then map_or (row_numbered r.plans epoch d) [] (λ (row : TableRow). row.downstream) else []) other in
        let size : length (ends_below r epoch d) ≡ 0 = ap length none in
        omega arith

    by : (b : Bool) → nat_eq epoch r.world.epoch ≡ b
        → length (ends_below r epoch d) ≤ length (ends_below r r.world.epoch d) + length (ends_below r (r.world.epoch + 1) d)
    by true here = let same : epoch ≡ r.world.epoch = eqb-true epoch r.world.epoch here in
        subst (λ (n : ℕ). length (ends_below r n d) ≤ length (ends_below r r.world.epoch d) + length (ends_below r (r.world.epoch + 1) d)) (sym same)
        (omega arith)
    by false other = second (nat_eq epoch (staged_number r)) refl other

module _ (r : Registers) (e : Event) (reply : Reply) where
  -- no more than there are links
  pub sent_few : IsSound r → length (sent_in r e reply) ≤ length r.net.links
  sent_few sound = by (device_of e) reply.answers
    where
      by : (o : Option ℕ) (a : Option AnswerSummary)
          → length (map_or o [] (λ d. map_or a [] (λ (x : AnswerSummary). sent_by r (reference_of e) d x.epoch reply.effect))) ≤ length r.net.links
      by None a = omega arith
      by (Some d) None = omega arith
      by (Some d) (Some a) = let most = sent_length r (reference_of e) d a.epoch reply.effect in let few = (ends_sound r a.epoch d sound).few in omega arith

  sent_named : (d : ℕ) → d < length r.net.devices
      → length (map_or reply.answers [] (λ (x : AnswerSummary). sent_by r (reference_of e) d x.epoch reply.effect)) ≤ ends_in r d
  sent_named d within =
      let here : ends_in r d ≡ length (ends_below r.membership r.membership.world.epoch d) + length (ends_below r.membership (r.membership.world.epoch + 1) d) =
      ap (λ b. if b then length (ends_below r.membership r.membership.world.epoch d) + length (ends_below r.membership (r.membership.world.epoch + 1) d) else 0)
      (lt-ltb d (length r.net.devices) within) in
      by reply.answers here
    where
      by : (a : Option AnswerSummary)
          → ends_in r d ≡ length (ends_below r.membership r.membership.world.epoch d) + length (ends_below r.membership (r.membership.world.epoch + 1) d)
          → length (map_or a [] (λ (x : AnswerSummary). sent_by r (reference_of e) d x.epoch reply.effect)) ≤ ends_in r d
      by None here = omega arith
      by (Some a) here = let most = sent_length r (reference_of e) d a.epoch reply.effect in let plan = either_plan r.membership a.epoch d in omega arith

-- there is room for what is sent
pub sent_room : (r : Registers) (e : Event) (reply : Reply) → refusal_in r e ≡ None → IsReplyTo e reply → length (sent_in r e reply) ≤ most_sent_in r e
sent_room r (event.Tick ref d c) reply accepted tells = sent_named r (event.Tick ref d c) reply d (device_known r (event.Tick ref d c) accepted d refl)
sent_room r (event.Recv ref d c n) reply accepted tells = sent_named r (event.Recv ref d c n) reply d (device_known r (event.Recv ref d c n) accepted d refl)
sent_room r e reply accepted tells = let none : length (sent_in r e reply) ≡ 0 = ap length (sent_quiet r e reply (tells.effect refl)) in omega arith

-- Soundness

if_closed : (P : memberships.Registers → Type 0) (b : Bool) (r : memberships.Registers) → P r → P (registers_closed r) → P (if b then registers_closed r else r)
if_closed P true r open_ closed = closed
if_closed P false r open_ closed = open_

pub sound_next : (old new : Registers) (e : Event) (reply : Reply) → IsSound old → refusal_in old e ≡ None → IsAfter old e reply new
    → memberships.IsSound new.membership → AreGiven new.book → IsSound new
sound_next old new e reply sound accepted after good given =
    let few = sent_few old e reply sound in
    let left : old.membership.world.events < 2 ^ 26 = events_left old e accepted in
    let links : length old.net.links ≤ 32768 = sound.net.links in
    let middle : memberships.Registers = membership_after old e reply in
    let Same : memberships.Registers → Type 0 = λ r. (r.plans ≡ old.membership.plans) × (length r.answers ≡ length old.membership.answers)
    × (length r.world.failed_links ≡ length old.membership.world.failed_links) × (r.world.events ≡ old.membership.world.events + 1) in
    let same : Same new.membership =
    subst Same (sym after.membership)
    (if_closed Same (can_close_in middle) middle
    (refl, length_answers (device_of e) reply.answers old.membership.answers, length_links e old.membership.world.failed_links, refl)
    (refl, length_answers (device_of e) reply.answers old.membership.answers, length_links e old.membership.world.failed_links, refl)) in
    record {
      net = subst IsNetwork (sym after.net) sound.net;
      tables = subst (λ n. AreTables n new.membership.plans) (sym after.net) (subst (AreTables old.net) (sym same.0) sound.tables);
      membership = good;
      answers = same.1 ∙ sound.answers ∙ ap (λ n. length n.devices) (sym after.net);
      links = same.2 ∙ sound.links ∙ ap (λ n. length n.links) (sym after.net);
      events = omega (arith, same.3, left);
      sent = omega (arith, after.last, same.3, sound.sent, few, links);
      given = given;
      size = after.size ∙ sound.size ∙ ap size_of (sym after.net);
    }

-- a fabric before any event
pub sound_first : (setting : Setting) (net : Network) (r : memberships.Registers) (book : Book) → net ≡ setting.net → IsNetwork net
    → AreTables setting.net r.plans → standing.Stands r setting [] → AreGiven book → book.last ≡ 0 → book.size ≡ size_of net
    → IsSound (kept net r book)
sound_first setting net r book same law tables stands given none size =
    record {
      net = law;
      tables = subst (λ n. AreTables n r.plans) (sym same) tables;
      membership = stands.sound;
      answers = stands.device_count ∙ ap (λ n. length n.devices) (sym same);
      links = stands.world.link_count ∙ ap (λ n. length n.links) (sym same);
      events = omega (arith, stands.world.events);
      sent = omega (arith, none);
      given = given;
      size = size;
    }

-- What was taken and lost

pub found_still : (book mid : Book) (ref n r0 : ℕ) → IsOkAnd (found book.last book.flights n) (λ f. ref ≤ f.last) → AreGiven book
    → mid.last ≡ book.last → mid.flights ≡ filter (is_current r0) book.flights → r0 ≡ ref → found mid.last mid.flights n ≡ found book.last book.flights n
found_still book mid ref n r0 can given last flights same =
    ap (λ l. found l mid.flights n) last ∙ ap (λ fs. found book.last fs n) (flights ∙ ap (λ r. filter (is_current r) book.flights) same)
    ∙ lost_is book ref n given can

pub lost_ok : (book mid : Book) (ref n r0 : ℕ) (lost : Result (Unit {0}) TakeFault) → IsOkAnd (found book.last book.flights n) (λ f. ref ≤ f.last)
    → AreGiven book
    → mid.last ≡ book.last → mid.flights ≡ filter (is_current r0) book.flights → r0 ≡ ref → lost ≡ dismissed (found mid.last mid.flights n) → is_ok lost ≡ true
lost_ok book mid ref n r0 lost can given last flights same loses =
    ap is_ok (loses ∙ ap dismissed (found_still book mid ref n r0 can given last flights same)) ∙ by (found book.last book.flights n) can
  where
    by : (look : Result Flight TakeFault) → IsOkAnd look (λ f. ref ≤ f.last) → is_ok (dismissed look) ≡ true
    by (Ok f) is = refl
    by (Err x) is = absurd is

-- References

second : (a b c : Bool) → (a && (b && c)) ≡ true → b ≡ true
second a b c all = (and_parts b c (and_parts a (b && c) all).1).0

pub reference_few : (e : Event) → is_within e ≡ true → reference_of e ≤ 2 ^ 60
reference_few (event.Start ref d c clock eps) within = leb-true ref (2 ^ 60) (second _ (nat_le ref (2 ^ 60)) _ within)
reference_few (event.Tick ref d c) within = leb-true ref (2 ^ 60) (second _ (nat_le ref (2 ^ 60)) _ within)
reference_few (event.Recv ref d c n) within = leb-true ref (2 ^ 60) (second _ (nat_le ref (2 ^ 60)) _ within)
reference_few (event.Lose ref n) within = leb-true ref (2 ^ 60) (and_parts (nat_le ref (2 ^ 60)) _ within).0
reference_few (event.FailDevice ref d) within = leb-true ref (2 ^ 60) (and_parts _ (nat_le ref (2 ^ 60)) within).1
reference_few (event.FailLink ref l) within = leb-true ref (2 ^ 60) (and_parts _ (nat_le ref (2 ^ 60)) within).1
reference_few (event.Fix ref d c clock eps) within = leb-true ref (2 ^ 60) (second _ (nat_le ref (2 ^ 60)) _ within)
reference_few (event.Ask ref d c) within = leb-true ref (2 ^ 60) (second _ (nat_le ref (2 ^ 60)) _ within)
reference_few (event.Stage ref) within = leb-true ref (2 ^ 60) within
reference_few (event.Give ref d) within = leb-true ref (2 ^ 60) (and_parts _ (nat_le ref (2 ^ 60)) within).1
reference_few (event.Commit ref d c) within = leb-true ref (2 ^ 60) (second _ (nat_le ref (2 ^ 60)) _ within)
reference_few (event.Seal ref d) within = leb-true ref (2 ^ 60) (and_parts _ (nat_le ref (2 ^ 60)) within).1
reference_few (event.Join ref d c clock eps) within = leb-true ref (2 ^ 60) (second _ (nat_le ref (2 ^ 60)) _ within)
reference_few (event.MendDevice ref d) within = leb-true ref (2 ^ 60) (and_parts _ (nat_le ref (2 ^ 60)) within).1
reference_few (event.MendLink ref l) within = leb-true ref (2 ^ 60) (and_parts _ (nat_le ref (2 ^ 60)) within).1
reference_few (event.End ref) within = leb-true ref (2 ^ 60) within
