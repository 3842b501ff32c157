-- The nodes with the fabric that a step left.
use Rattle.std.specs.Prelude.{◌≡◌, ◌≢◌, ℕ, ◌+◌, ◌<◌, Bool, true, false, not, List, [], ◌∷◌, ◌++◌, length, filter, slice_set, nat_eq, Option, Some, None, IfSome, Result, refl, if◌then◌else◌}
use Rattle.std.proofs.Common.{sym, ◌∙◌, ap, subst}
use Rattle.std.proofs.lemmas.Bool.{eqb-true, and_parts}
use Rattle.sd_num.specs.Lists.{map_or, same_number}
use Rattle.sd_plan.specs.topo.Network.{Network, Each}
use Rattle.sd_plan.specs.declared.topo.Thing.{Thing}
use Rattle.sd_plan.specs.declared.End.{End}
use Rattle.sd_plan.specs.Tables.{TableRow}
use Rattle.sd_plan.proofs.Shared.{each_more}
use Rattle.sd_device.specs.declared.msg.Flight.{Flight}
use Rattle.sd_device.specs.declared.msg.Message.{Message}
use Rattle.sd_device.specs.declared.msg.TakeFault.{TakeFault}
use Rattle.sd_device.specs.msg.Books.{Book, is_current, is_swept, has_number}
use Rattle.sd_device.specs.declared.Effect.{Effect}
use Rattle.sd_device.specs.declared.Effect.TheVariants.{Quiet, Send}
use Rattle.sd_device.specs.declared.node.Node.{Ghosts}
use Rattle.sd_device.specs.Limits.{IfSent}
use Rattle.sd_sched.specs.declared.Event.{Event}
use Rattle.sd_sched.specs.declared.Event.TheVariants as event
use Rattle.sd_sched.specs.Events.{reference_of, device_of, message_of}
use Rattle.sd_history.specs.Things.{failure_of}
use Rattle.sd_history.specs.flights.Flights.{without_taken, without_swept}
use Rattle.sd_world.specs.declared.world.device.DeviceState.{DeviceState}
use Rattle.sd_world.specs.world.Registers as world
use Rattle.sd_world.specs.world.Registers.{up_at, is_open}
use Rattle.sd_world.specs.declared.membership.AnswerSummary.{AnswerSummary}
use Rattle.sd_world.specs.membership.Plans.{is_member_numbered}
use Rattle.sd_world.specs.membership.Memberships as membership
use Rattle.sd_world.specs.membership.Memberships.{staged_number, can_close_in, ends_below, registers_closed}
use Rattle.sd_device.specs.Calls as calls
use Rattle.sd_history.specs.Steps as steps
use Rattle.sd_fleet.specs.declared.Reply.{Reply}
use Rattle.sd_fleet.specs.Registers.{Registers}
use Rattle.sd_fleet.specs.Sound.{IsSound}
use Rattle.sd_fleet.specs.Causes.{refusal_in}
use Rattle.sd_fleet.specs.Doing.{act_in, receipt}
use Rattle.sd_fleet.specs.Sending.{flight_over, flights_over, sent_by, sent_in}
use Rattle.sd_fleet.specs.Stepping.{IsAfter, membership_after, flights_after, closed_if_can, delivered}
use Rattle.sd_fleet.proofs.Admitted.{device_known, message_known, message_unspent, device_up, started_member, given_member}
use Rattle.sd_fleet.specs.Calling.{IsMessage}
use Rattle.sd_fleet.specs.Nodes.{node_at, Acts}
use Rattle.sd_fleet.specs.Bounds.{context_of, IsKept, AreNodes}
use Rattle.sd_fleet.proofs.Eaches.{each_mono, each_kept, each_joined}
use Rattle.sd_fleet.proofs.Acting.{flight_found, row_there}
use Rattle.sd_fleet.proofs.Going.{message_later, acts_other, some_at, length_acts, acts_sent, actor_in}
use Rattle.sd_fleet.proofs.Keeping.{happened, state_named, state_other, kept_named, kept_other}

-- Messages on their way

-- what is sent carries the message
over_each : (P : Flight → Type 0) (net : Network) (w : world.Registers) (reference sender : ℕ) (m : Message) (number : ℕ) (ends : List End)
    → ((f : Flight) → f.message ≡ m → P f) → Each P (flights_over net w (record { reference = reference; sender = sender; message = m }) number ends)
over_each P net w reference sender m number [] carries = λ i x at. cc
over_each P net w reference sender m number (end ∷ others) carries =
    each_more P (flight_over net w (record { reference = reference; sender = sender; message = m }) number end)
    (flights_over net w (record { reference = reference; sender = sender; message = m }) (number + 1) others)
    (carries (flight_over net w (record { reference = reference; sender = sender; message = m }) number end) refl)
    (over_each P net w reference sender m (number + 1) others carries)

sent_each : (old : Registers) (e : Event) (reply : Reply) (events : ℕ) → IfSent reply.effect (IsMessage events)
    → Each (λ f. IsMessage events f.message) (sent_in old e reply)
sent_each old e reply events sent = by (device_of e) reply.answers reply.effect sent
  where
    by : (o : Option ℕ) (a : Option AnswerSummary) (effect : Effect) → IfSent effect (IsMessage events)
        → Each (λ f. IsMessage events f.message) (map_or o [] (λ d. map_or a [] (λ x. sent_by old (reference_of e) d x.epoch effect)))
    by None a effect sent' = λ i x at. cc
    by (Some d) None effect sent' = λ i x at. cc
    by (Some d) (Some a) Quiet sent' = λ i x at. cc
    by (Some d) (Some a) (Send m) sent' =
        over_each (λ f. IsMessage events f.message) old.net old.membership.world (reference_of e) d m (old.book.last + 1) (ends_below old.membership a.epoch d)
        (λ f same. subst (IsMessage events) (sym same) sent')

taken_each : (P : Flight → Type 0) (n : Option ℕ) (flights : List Flight) → Each P flights → Each P (without_taken n flights)
taken_each P None flights each = each
taken_each P (Some n) flights each = each_kept P (λ f. not (has_number n f)) flights each

swept_each : (P : Flight → Type 0) (x : Option Thing) (flights : List Flight) → Each P flights → Each P (without_swept x flights)
swept_each P None flights each = each
swept_each P (Some x) flights each = each_kept P (λ f. not (is_swept x f)) flights each

messages_after : (old : Registers) (e : Event) (reply : Reply) (events : ℕ) → Each (λ f. IsMessage events f.message) old.book.flights
    → IfSent reply.effect (IsMessage (events + 1))
    → Each (λ f. IsMessage (events + 1) f.message) (flights_after old e reply)
messages_after old e reply events each sent =
    let P : Flight → Type 0 = λ f. IsMessage (events + 1) f.message in
    let later : Each P old.book.flights = each_mono (λ f. IsMessage events f.message) P old.book.flights (λ f is. message_later events f.message is) each in
    swept_each P (failure_of e) (delivered e old.book.flights ++ filter (λ f. f.reaches) (sent_in old e reply))
    (each_joined P (delivered e old.book.flights) (filter (λ f. f.reaches) (sent_in old e reply))
    (taken_each P (message_of e) (filter (is_current (reference_of e)) old.book.flights) (each_kept P (is_current (reference_of e)) old.book.flights later))
    (each_kept P (λ f. f.reaches) (sent_in old e reply) (sent_each old e reply (events + 1) sent)))

-- A device that is up has a node

not_none : {N : Type 0} (o : Option N) (x : N) → o ≡ Some x → o ≢ None
not_none o x some none = cc

module _ {N : Type 0} (g : Ghosts N) (old : Registers) (e : Event) (reply : Reply) (nodes after : List (Option N)) (are_nodes : AreNodes g old nodes)
    (sound : IsSound old) where
  placed_there : (d : ℕ) (x : N) → d < length old.net.devices → after ≡ slice_set nodes d (Some x) → node_at after d ≢ None
  placed_there d x within placed = not_none (node_at after d) x (some_at nodes after d x (subst (λ (k : ℕ). d < k) (sym are_nodes.places) within) placed)

  stays_there : (d : ℕ) → d < length old.net.devices → after ≡ nodes → up_at old.membership.world d ≡ true → node_at after d ≢ None
  stays_there d within same up = subst (λ (ns : List (Option N)). node_at ns d ≢ None) (sym same) (are_nodes.there d within up)

  other_there : (d : ℕ) → d < length old.net.devices → same_number (device_of e) d ≡ false → Acts g nodes (act_in old e) (context_of old e) reply after
      → up_at (happened old e reply).membership.world d ≡ true → node_at after d ≢ None
  other_there d within other acts up =
      subst (λ (o : Option N). o ≢ None) (sym (acts_other g nodes after (act_in old e) (context_of old e) reply d acts (actor_in old e d other)))
      (are_nodes.there d within (sym (ap (λ (s : DeviceState). s.up) (state_other g old e reply nodes after are_nodes sound d other)) ∙ up))

there_named : {N : Type 0} (g : Ghosts N) (old : Registers) (e : Event) (reply : Reply) (nodes after : List (Option N)) → AreNodes g old nodes → IsSound old
    → refusal_in old e ≡ None
    → Acts g nodes (act_in old e) (context_of old e) reply after
    → IfSome (device_of e) (λ d. up_at (happened old e reply).membership.world d ≡ true → node_at after d ≢ None)
there_named g old (event.Start reference d counter clock eps) reply nodes after are_nodes sound accepted acts =
    let e = event.Start reference d counter clock eps in
    let (row, at) = row_there old.membership.plans old.membership.world.epoch d (started_member old e accepted d refl) in
    let made = subst (λ (o : Option TableRow). Acts g nodes (map_or o steps.Passes (λ row. steps.Makes d (calls.Started row.duty counter clock eps)))
    (context_of old e) reply after) at acts in
    λ up. placed_there g old e reply nodes after are_nodes sound d made.node (device_known old e accepted d refl) made.placed
there_named g old (event.Join reference d counter clock eps) reply nodes after are_nodes sound accepted acts =
    let e = event.Join reference d counter clock eps in
    λ up. placed_there g old e reply nodes after are_nodes sound d acts.node (device_known old e accepted d refl) acts.placed
there_named g old (event.Tick reference d counter) reply nodes after are_nodes sound accepted acts =
    let e = event.Tick reference d counter in
    λ up. placed_there g old e reply nodes after are_nodes sound d acts.node (device_known old e accepted d refl) acts.placed
there_named g old (event.Recv reference d counter message) reply nodes after are_nodes sound accepted acts =
    let e = event.Recv reference d counter message in
    let (f, at) =
    flight_found old.book.last old.book.flights message reference (message_known old e accepted message refl)
    (message_unspent old e accepted message refl) in
    let called = subst (λ (o : Result Flight TakeFault). Acts g nodes (receipt o d counter) (context_of old e) reply after) at acts in
    λ up. placed_there g old e reply nodes after are_nodes sound d called.node (device_known old e accepted d refl) called.placed
there_named g old (event.FailDevice reference d) reply nodes after are_nodes sound accepted acts =
    let e = event.FailDevice reference d in
    let down : up_at (happened old e reply).membership.world d ≡ false =
    ap (λ (s : DeviceState). s.up) (state_named g old e reply nodes after are_nodes sound d (device_known old e accepted d refl) refl) in
    λ up. cc
there_named g old (event.Fix reference d counter clock eps) reply nodes after are_nodes sound accepted acts =
    let e = event.Fix reference d counter clock eps in
    λ up. placed_there g old e reply nodes after are_nodes sound d acts.node (device_known old e accepted d refl) acts.placed
there_named g old (event.Ask reference d counter) reply nodes after are_nodes sound accepted acts =
    let e = event.Ask reference d counter in
    λ up. stays_there g old e reply nodes after are_nodes sound d (device_known old e accepted d refl) acts.1 (device_up old e accepted d refl refl)
there_named g old (event.Give reference d) reply nodes after are_nodes sound accepted acts =
    let e = event.Give reference d in
    let parts = and_parts (is_open old.membership.world.window) (is_member_numbered old.membership.plans (staged_number old.membership) d)
    (given_member old e accepted d refl) in
    let (row, at) = row_there old.membership.plans (staged_number old.membership) d parts.1 in
    let called =
    subst (λ (o : Option TableRow). Acts g nodes (map_or o steps.Passes (λ row. steps.Calls d (calls.Give row.duty))) (context_of old e) reply after) at
    acts in
    λ up. placed_there g old e reply nodes after are_nodes sound d called.node (device_known old e accepted d refl) called.placed
there_named g old (event.Commit reference d counter) reply nodes after are_nodes sound accepted acts =
    let e = event.Commit reference d counter in
    λ up. placed_there g old e reply nodes after are_nodes sound d acts.node (device_known old e accepted d refl) acts.placed
there_named g old (event.Seal reference d) reply nodes after are_nodes sound accepted acts =
    let e = event.Seal reference d in
    λ up. placed_there g old e reply nodes after are_nodes sound d acts.node (device_known old e accepted d refl) acts.placed
there_named g old (event.MendDevice reference d) reply nodes after are_nodes sound accepted acts =
    let e = event.MendDevice reference d in
    let known = device_known old e accepted d refl in
    let same : up_at (happened old e reply).membership.world d ≡ up_at old.membership.world d =
    ap (λ (s : DeviceState). s.up) (state_named g old e reply nodes after are_nodes sound d known refl) in
    λ up. stays_there g old e reply nodes after are_nodes sound d known acts.1 (sym same ∙ up)
there_named g old _ reply nodes after are_nodes sound accepted acts = tt

-- The nodes

-- what holds of the named device and of each other one
at_each : (P : ℕ → Type 0) (o : Option ℕ) (d : ℕ) → IfSome o P → (same_number o d ≡ false → P d) → P d
at_each P None d named other = other refl
at_each P (Some m) d named other = by (nat_eq m d) refl
  where
    by : (b : Bool) → nat_eq m d ≡ b → P d
    by true here = subst P (eqb-true m d here) named
    by false apart = other apart

nodes_happened : {N : Type 0} (g : Ghosts N) (old : Registers) (e : Event) (reply : Reply) (nodes after : List (Option N)) → AreNodes g old nodes → IsSound old
    → refusal_in old e ≡ None
    → Acts g nodes (act_in old e) (context_of old e) reply after → AreNodes g (happened old e reply) after
nodes_happened {N = N} g old e reply nodes after are_nodes sound accepted acts =
    record {
      places = length_acts g nodes after (act_in old e) (context_of old e) reply acts ∙ are_nodes.places;
      there =
          λ d within.
          at_each (λ d. up_at (happened old e reply).membership.world d ≡ true
          → node_at after d ≢ None) (device_of e) d (there_named g old e reply nodes after are_nodes sound accepted acts)
          (λ other. other_there g old e reply nodes after are_nodes sound d within other acts);
      kept =
          λ d n at.
          at_each (λ d. (n : N) → node_at after d ≡ Some n → IsKept g (happened old e reply) d n) (device_of e) d
          (kept_named g old e reply nodes after are_nodes sound accepted acts)
          (λ other. kept_other g old e reply nodes after are_nodes sound d other acts) n at;
      messages = messages_after old e reply old.membership.world.events are_nodes.messages (acts_sent g nodes after (act_in old e) (context_of old e) reply acts);
    }

-- a window that closes changes nothing of it
nodes_closed : {N : Type 0} (g : Ghosts N) (r : Registers) (nodes : List (Option N)) (book : Book) (b : Bool)
    → AreNodes g r nodes
    → AreNodes g (record {
      net = r.net;
      membership = if b then registers_closed r.membership else r.membership;
      book = record book { flights = r.book.flights };
    }) nodes
nodes_closed g r nodes book true are_nodes =
    record {
      places = are_nodes.places;
      there = are_nodes.there;
      kept = λ d n at. (let kept = are_nodes.kept d n at in record { numbers = kept.numbers; answers = kept.answers; duty = kept.duty });
      messages = are_nodes.messages;
    }
nodes_closed g r nodes book false are_nodes =
    record {
      places = are_nodes.places;
      there = are_nodes.there;
      kept = λ d n at. (let kept = are_nodes.kept d n at in record { numbers = kept.numbers; answers = kept.answers; duty = kept.duty });
      messages = are_nodes.messages;
    }

-- the nodes with what the step left
pub nodes_after : {N : Type 0} (g : Ghosts N) (old new : Registers) (e : Event) (reply : Reply) (nodes after : List (Option N)) → AreNodes g old nodes
    → IsSound old → refusal_in old e ≡ None
    → Acts g nodes (act_in old e) (context_of old e) reply after → IsAfter old e reply new → AreNodes g new after
nodes_after g old new e reply nodes after are_nodes sound accepted acts is =
    let closed =
    nodes_closed g (happened old e reply) after new.book (can_close_in (membership_after old e reply))
    (nodes_happened g old e reply nodes after are_nodes sound accepted acts) in
    subst (λ (net : Network). AreNodes g (record { net = net; membership = new.membership; book = new.book }) after) (sym is.net)
    (subst (λ (r : membership.Registers). AreNodes g (record { net = old.net; membership = r; book = new.book }) after) (sym is.membership)
    (subst (λ (fs : List Flight). AreNodes g
    (record {
      net = old.net;
      membership = closed_if_can (membership_after old e reply);
      book = record new.book { flights = fs };
    }) after) (sym is.flights) closed))

-- so it is where only room grew
pub nodes_roomy : {N : Type 0} (g : Ghosts N) (old new : Registers) (nodes : List (Option N)) → AreNodes g old nodes → new.net ≡ old.net
    → new.membership ≡ old.membership → new.book.flights ≡ old.book.flights → AreNodes g new nodes
nodes_roomy g old new nodes are_nodes net same flights =
    let roomy = nodes_closed g old nodes new.book false are_nodes in
    subst (λ (n : Network). AreNodes g (record { net = n; membership = new.membership; book = new.book }) nodes) (sym net)
    (subst (λ (r : membership.Registers). AreNodes g (record { net = old.net; membership = r; book = new.book }) nodes) (sym same)
    (subst (λ (fs : List Flight). AreNodes g
    (record { net = old.net; membership = old.membership; book = record new.book { flights = fs } }) nodes)
    (sym flights) roomy))
