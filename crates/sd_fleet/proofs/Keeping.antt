-- The nodes stay as they have to be with each accepted event.
use Rattle.std.specs.Prelude.{◌≡◌, ◌⊎◌, ℕ, ◌+◌, ◌<◌, ◌≤◌, false, List, length, Option, Some, None, IfSome, option_map, Result, refl}
use Rattle.std.proofs.Common.{sym, ◌∙◌, ap, subst, arith, inl, inr}
use Rattle.std.proofs.lemmas.Bool.{eq-eqb, and_parts}
use Rattle.std.proofs.lemmas.Option.{same_Some}
use Rattle.sd_num.specs.Lists.{map_or, at_place, same_number}
use Rattle.sd_num.proofs.Places.{at_written}
use Rattle.sd_plan.specs.declared.Duty.{Duty}
use Rattle.sd_plan.specs.Tables.{TableRow}
use Rattle.sd_device.specs.declared.msg.Flight.{Flight}
use Rattle.sd_device.specs.declared.msg.TakeFault.{TakeFault}
use Rattle.sd_device.specs.declared.node.Node.{Ghosts}
use Rattle.sd_sched.specs.declared.Event.{Event}
use Rattle.sd_sched.specs.declared.Event.TheVariants as event
use Rattle.sd_sched.specs.Events.{device_of}
use Rattle.sd_history.specs.Nodes.{answers_of}
use Rattle.sd_world.specs.declared.world.device.DeviceState.{DeviceState}
use Rattle.sd_world.specs.world.Registers.{reading_at, device_at, device_after, is_open}
use Rattle.sd_world.proofs.world.Slots.{slot_named, slot_other}
use Rattle.sd_world.specs.declared.membership.AnswerSummary.{AnswerSummary}
use Rattle.sd_world.specs.declared.membership.plans.NumberedPlan.{NumberedPlan}
use Rattle.sd_world.specs.membership.Plans.{row_numbered, is_member_numbered}
use Rattle.sd_world.specs.membership.Memberships.{staged_number, answers_after}
use Rattle.sd_world.specs.membership.Standing.{summary}
use Rattle.sd_world.proofs.membership.Observing.{other_answers}
use Rattle.sd_device.specs.Calls.{Making}
use Rattle.sd_device.specs.Calls as calls
use Rattle.sd_device.specs.Calls.{Call}
use Rattle.sd_device.specs.Words.{making_counter}
use Rattle.sd_history.specs.Steps as steps
use Rattle.sd_fleet.specs.declared.Reply.{Reply}
use Rattle.sd_fleet.specs.Registers.{Registers}
use Rattle.sd_fleet.specs.Sound.{IsSound}
use Rattle.sd_fleet.specs.Causes.{refusal_in}
use Rattle.sd_fleet.specs.Doing.{act_in, receipt}
use Rattle.sd_fleet.specs.Stepping.{membership_after, flights_after}
use Rattle.sd_fleet.proofs.Admitted.{device_known, message_known, message_unspent, counter_rises, started_member, given_member}
use Rattle.sd_fleet.specs.Calling.{IsNode, GivenAfter, reading_after}
use Rattle.sd_fleet.specs.Nodes.{node_at, MakesAt, CallsAt, Acts}
use Rattle.sd_fleet.specs.Bounds.{context_of, IsKept, AreNodes}
use Rattle.sd_fleet.proofs.Acting.{flight_found, row_there}
use Rattle.sd_fleet.proofs.Going.{node_later, acts_other, some_at, actor_in}

-- the duty of a give is the device's own in its plan
abbrev HasRow : List NumberedPlan → ℕ → Call → Type 0
HasRow plans d (calls.Give duty) = option_map (λ (row : TableRow). row.duty) (row_numbered plans duty.epoch d) ≡ Some duty
HasRow plans d _ = Unit {0}

abbrev IsOwn : List NumberedPlan → ℕ → Option Duty → Type 0
IsOwn plans d given = (duty : Duty) → given ≡ Some duty → option_map (λ (row : TableRow). row.duty) (row_numbered plans duty.epoch d) ≡ Some duty

-- so is what is held as given after a call
own_or_none : (plans : List NumberedPlan) (d : ℕ) (before after : Option Duty) → (after ≡ before) ⊎ (after ≡ None) → IsOwn plans d before → IsOwn plans d after
own_or_none plans d before after (inl same) own duty holds = own duty (sym same ∙ holds)
own_or_none plans d before after (inr none) own duty holds = cc

own_after : (plans : List NumberedPlan) (d : ℕ) (c : Call) (before after : Option Duty) → GivenAfter c before after → HasRow plans d c → IsOwn plans d before
    → IsOwn plans d after
own_after plans d (calls.Give mine) before after given row own =
    λ duty holds.
    (let same : mine ≡ duty = same_Some mine duty (sym given ∙ holds) in
    subst (λ (x : Duty). option_map (λ (row : TableRow). row.duty) (row_numbered plans x.epoch d) ≡ Some x) same row)
own_after plans d _ before after given row own = own_or_none plans d before after given own

-- the fabric once the event has happened, before its window closes
abbrev pub happened : Registers → Event → Reply → Registers
happened old e reply = record { net = old.net; membership = membership_after old e reply; book = record old.book { flights = flights_after old e reply } }

module _ {N : Type 0} (g : Ghosts N) (old : Registers) (e : Event) (reply : Reply) (nodes after : List (Option N)) (are_nodes : AreNodes g old nodes)
    (sound : IsSound old) where
  abbrev next : Registers
  next = happened old e reply

  size : length old.membership.world.devices ≡ length old.net.devices
  size = sound.membership.devices ∙ sound.answers

  -- the state of a device, and what it answered
  pub state_named : (d : ℕ) → d < length old.net.devices → device_of e ≡ Some d
      → device_at next.membership.world d ≡ device_after e old.membership.world.windows (device_at old.membership.world d)
  state_named d within named =
      slot_named e old.membership.world.windows old.membership.world.devices d (subst (λ (n : ℕ). d < n) (sym size) within)
      (ap (λ (o : Option ℕ). same_number o d) named ∙ eq-eqb d d refl)

  pub state_other : (d : ℕ) → same_number (device_of e) d ≡ false → device_at next.membership.world d ≡ device_at old.membership.world d
  state_other d other = slot_other e old.membership.world.windows old.membership.world.devices d other

  answered : (d : ℕ) (a : AnswerSummary) → d < length old.net.devices → device_of e ≡ Some d → reply.answers ≡ Some a
      → at_place next.membership.answers d None (λ x. x) ≡ Some a
  answered d a within named told =
      ap (λ (o : Option ℕ). at_place (answers_after o reply.answers old.membership.answers) d None (λ x. x)) named
      ∙ ap (λ (t : Option AnswerSummary). at_place (answers_after (Some d) t old.membership.answers) d None (λ x. x)) told
      ∙ ap (λ (o : Option (Option AnswerSummary)). map_or o None (λ x. x))
      (at_written old.membership.answers d (Some a) (subst (λ (n : ℕ). d < n) (sym sound.answers) within))

  not_answered : (d : ℕ) → reply.answers ≡ None → at_place next.membership.answers d None (λ x. x) ≡ at_place old.membership.answers d None (λ x. x)
  not_answered d none = ap (λ (t : Option AnswerSummary). at_place (answers_after (device_of e) t old.membership.answers) d None (λ x. x)) none ∙ by (device_of e)
    where
      by : (o : Option ℕ) → at_place (answers_after o None old.membership.answers) d None (λ x. x) ≡ at_place old.membership.answers d None (λ x. x)
      by None = refl
      by (Some m) = refl

  -- a device that is made
  kept_made : (d : ℕ) (m : Making) → d < length old.net.devices → device_of e ≡ Some d → MakesAt g nodes d m reply after
      → reading_at next.membership.world d ≡ making_counter m
      → (n : N) → node_at after d ≡ Some n → IsKept g next d n
  kept_made d m within named made reads n at =
      let there : node_at after d ≡ Some made.node = some_at nodes after d made.node (subst (λ (k : ℕ). d < k) (sym are_nodes.places) within) made.placed in
      let told = answered d (summary (answers_of g made.node)) within named (ap (λ (x : Reply). x.answers) made.replied) in
      let it : IsKept g next d made.node =
      record {
        numbers = subst (λ (k : ℕ). IsNode g (old.membership.world.events + 1) k made.node) (sym reads) (made.numbers old.membership.world.events);
        answers = told;
        duty = λ duty holds. absurd (none_some (g.given made.node) duty made.given holds);
      }
      in
      subst (λ (x : N). IsKept g next d x) (same_Some made.node n (sym there ∙ at)) it
    where
      none_some : (o : Option Duty) (duty : Duty) → o ≡ None → o ≡ Some duty → ⊥
      none_some o duty none some = cc

  -- a device that is called
  kept_called : (d : ℕ) (c : Call) → d < length old.net.devices → device_of e ≡ Some d → CallsAt g nodes d c (context_of old e) reply after
      → reading_at next.membership.world d ≡ reading_after c (reading_at old.membership.world d) → HasRow old.membership.plans d c
      → (n : N) → node_at after d ≡ Some n → IsKept g next d n
  kept_called d c within named called reads row n at =
      let there : node_at after d ≡ Some called.node = some_at nodes after d called.node (subst (λ (k : ℕ). d < k) (sym are_nodes.places) within) called.placed in
      let told = answered d (summary (answers_of g called.node)) within named (ap (λ (x : Reply). x.answers) called.replied) in
      let before : IsKept g old d called.before = are_nodes.kept d called.before called.was in
      let context : (context_of old e).reading ≡ reading_at old.membership.world d =
      ap (λ (o : Option ℕ). map_or o 0 (reading_at old.membership.world)) named in
      let it : IsKept g next d called.node =
      record {
        numbers = subst (λ (k : ℕ). IsNode g (old.membership.world.events + 1) k called.node) (ap (reading_after c) context ∙ sym reads) called.numbers;
        answers = told;
        duty = own_after old.membership.plans d c (g.given called.before) (g.given called.node) called.given row before.duty;
      }
      in
      subst (λ (x : N). IsKept g next d x) (same_Some called.node n (sym there ∙ at)) it

  -- a device whose node stays
  kept_same : (d : ℕ) → reply.answers ≡ None → after ≡ nodes → reading_at old.membership.world d ≤ reading_at next.membership.world d → (n : N)
      → node_at after d ≡ Some n → IsKept g next d n
  kept_same d none same rises n at =
      let before : IsKept g old d n = are_nodes.kept d n (sym (ap (λ (ns : List (Option N)). node_at ns d) same) ∙ at) in
      record {
        numbers = node_later g old.membership.world.events (reading_at old.membership.world d) (reading_at next.membership.world d) n rises before.numbers;
        answers = not_answered d none ∙ before.answers;
        duty = before.duty;
      }

  -- a device that the event does not name
  pub kept_other : (d : ℕ) → same_number (device_of e) d ≡ false → Acts g nodes (act_in old e) (context_of old e) reply after → (n : N)
      → node_at after d ≡ Some n → IsKept g next d n
  kept_other d other acts n at =
      let before : IsKept g old d n =
      are_nodes.kept d n (sym (acts_other g nodes after (act_in old e) (context_of old e) reply d acts (actor_in old e d other)) ∙ at) in
      let reads : reading_at next.membership.world d ≡ reading_at old.membership.world d = ap (λ (s : DeviceState). s.reading) (state_other d other) in
      record {
        numbers = node_later g old.membership.world.events (reading_at old.membership.world d) (reading_at next.membership.world d) n
            (omega arith) before.numbers;
        answers = other_answers (device_of e) reply.answers old.membership.answers d other ∙ before.answers;
        duty = before.duty;
      }

-- the device that the event names
pub kept_named : {N : Type 0} (g : Ghosts N) (old : Registers) (e : Event) (reply : Reply) (nodes after : List (Option N)) → AreNodes g old nodes → IsSound old
    → refusal_in old e ≡ None
    → Acts g nodes (act_in old e) (context_of old e) reply after
    → IfSome (device_of e) (λ d. (n : N) → node_at after d ≡ Some n → IsKept g (happened old e reply) d n)
kept_named g old (event.Start reference d counter clock eps) reply nodes after are_nodes sound accepted acts =
    let e = event.Start reference d counter clock eps in
    let known = device_known old e accepted d refl in
    let (row, at) = row_there old.membership.plans old.membership.world.epoch d (started_member old e accepted d refl) in
    kept_made g old e reply nodes after are_nodes sound d (calls.Started row.duty counter clock eps) known refl
    (subst (λ (o : Option TableRow). Acts g nodes (map_or o steps.Passes (λ row. steps.Makes d (calls.Started row.duty counter clock eps)))
    (context_of old e) reply after) at acts)
    (ap (λ (s : DeviceState). s.reading) (state_named g old e reply nodes after are_nodes sound d known refl))
kept_named g old (event.Join reference d counter clock eps) reply nodes after are_nodes sound accepted acts =
    let e = event.Join reference d counter clock eps in
    let known = device_known old e accepted d refl in
    λ n at. kept_made g old e reply nodes after are_nodes sound d _ known refl acts
    (ap (λ (s : DeviceState). s.reading) (state_named g old e reply nodes after are_nodes sound d known refl)) n at
kept_named g old (event.Tick reference d counter) reply nodes after are_nodes sound accepted acts =
    let e = event.Tick reference d counter in
    let known = device_known old e accepted d refl in
    kept_called g old e reply nodes after are_nodes sound d (calls.Tick counter) known refl acts
    (ap (λ (s : DeviceState). s.reading) (state_named g old e reply nodes after are_nodes sound d known refl)) tt
kept_named g old (event.Recv reference d counter message) reply nodes after are_nodes sound accepted acts =
    let e = event.Recv reference d counter message in
    let known = device_known old e accepted d refl in
    let (f, at) =
    flight_found old.book.last old.book.flights message reference (message_known old e accepted message refl)
    (message_unspent old e accepted message refl) in
    kept_called g old e reply nodes after are_nodes sound d (calls.Receive f.link f.message counter) known refl
    (subst (λ (o : Result Flight TakeFault). Acts g nodes (receipt o d counter) (context_of old e) reply after) at acts)
    (ap (λ (s : DeviceState). s.reading) (state_named g old e reply nodes after are_nodes sound d known refl)) tt
kept_named g old (event.FailDevice reference d) reply nodes after are_nodes sound accepted acts =
    let e = event.FailDevice reference d in
    let reads : reading_at (happened old e reply).membership.world d ≡ reading_at old.membership.world d =
    ap (λ (s : DeviceState). s.reading) (state_named g old e reply nodes after are_nodes sound d (device_known old e accepted d refl) refl)
    in
    kept_same g old e reply nodes after are_nodes sound d (ap (λ (x : Reply). x.answers) acts.0) acts.1 (omega arith)
kept_named g old (event.Fix reference d counter clock eps) reply nodes after are_nodes sound accepted acts =
    let e = event.Fix reference d counter clock eps in
    let known = device_known old e accepted d refl in
    kept_called g old e reply nodes after are_nodes sound d (calls.Fix counter clock eps) known refl acts
    (ap (λ (s : DeviceState). s.reading) (state_named g old e reply nodes after are_nodes sound d known refl)) tt
kept_named g old (event.Ask reference d counter) reply nodes after are_nodes sound accepted acts =
    let e = event.Ask reference d counter in
    let reads : reading_at (happened old e reply).membership.world d ≡ counter =
    ap (λ (s : DeviceState). s.reading) (state_named g old e reply nodes after are_nodes sound d (device_known old e accepted d refl) refl) in
    let rises = counter_rises old e accepted d counter refl refl refl in
    kept_same g old e reply nodes after are_nodes sound d (ap (λ (x : Reply). x.answers) acts.0.replied) acts.1 (omega arith)
kept_named g old (event.Give reference d) reply nodes after are_nodes sound accepted acts =
    let e = event.Give reference d in
    let known = device_known old e accepted d refl in
    let parts = and_parts (is_open old.membership.world.window) (is_member_numbered old.membership.plans (staged_number old.membership) d)
    (given_member old e accepted d refl) in
    let (row, at) = row_there old.membership.plans (staged_number old.membership) d parts.1 in
    let numbered : row.duty.epoch ≡ staged_number old.membership =
    sound.tables.numbers (staged_number old.membership) d row (sound.membership.staged parts.0) at in
    kept_called g old e reply nodes after are_nodes sound d (calls.Give row.duty) known refl
    (subst (λ (o : Option TableRow). Acts g nodes (map_or o steps.Passes (λ row. steps.Calls d (calls.Give row.duty))) (context_of old e) reply after) at acts)
    (ap (λ (s : DeviceState). s.reading) (state_named g old e reply nodes after are_nodes sound d known refl))
    (ap (λ (n : ℕ). option_map (λ (r : TableRow). r.duty) (row_numbered old.membership.plans n d)) numbered ∙ ap (option_map (λ (r : TableRow). r.duty)) at)
kept_named g old (event.Commit reference d counter) reply nodes after are_nodes sound accepted acts =
    let e = event.Commit reference d counter in
    let known = device_known old e accepted d refl in
    kept_called g old e reply nodes after are_nodes sound d (calls.Commit counter) known refl acts
    (ap (λ (s : DeviceState). s.reading) (state_named g old e reply nodes after are_nodes sound d known refl)) tt
kept_named g old (event.Seal reference d) reply nodes after are_nodes sound accepted acts =
    let e = event.Seal reference d in
    let known = device_known old e accepted d refl in
    kept_called g old e reply nodes after are_nodes sound d calls.Seal known refl acts
    (ap (λ (s : DeviceState). s.reading) (state_named g old e reply nodes after are_nodes sound d known refl)) tt
kept_named g old (event.MendDevice reference d) reply nodes after are_nodes sound accepted acts =
    let e = event.MendDevice reference d in
    let reads : reading_at (happened old e reply).membership.world d ≡ reading_at old.membership.world d =
    ap (λ (s : DeviceState). s.reading) (state_named g old e reply nodes after are_nodes sound d (device_known old e accepted d refl) refl)
    in
    kept_same g old e reply nodes after are_nodes sound d (ap (λ (x : Reply). x.answers) acts.0) acts.1 (omega arith)
kept_named g old _ reply nodes after are_nodes sound accepted acts = tt
