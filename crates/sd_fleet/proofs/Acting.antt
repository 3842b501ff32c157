-- What an event that is not refused does can be done to the node of its device.
use Rattle.std.specs.Prelude.{◌≡◌, ◌≢◌, ℕ, ◌^◌, ◌<◌, ◌≤◌, Bool, true, false, ◌&&◌, ◌||◌, not, is_some, List, length, nat_le, nat_eq, find, Option, Some, None, option_map, option_and_then, IsTrue, ok_or, if◌then◌else◌, Result, Ok, Err, refl}
use Rattle.std.proofs.Common.{sym, ◌∙◌, ap, subst}
use Rattle.std.proofs.lemmas.Bool.{leb-true, eqb-true, and_parts, not-false}
use Rattle.std.proofs.lemmas.Option.{same_Some}
use Rattle.sd_num.specs.Lists.{at_place, map_or, same_number}
use Rattle.sd_plan.specs.topo.Network.{Each}
use Rattle.sd_plan.specs.declared.Duty.{Duty}
use Rattle.sd_plan.specs.declared.Role.TheVariants as role
use Rattle.sd_device.specs.declared.msg.Flight.{Flight}
use Rattle.sd_device.specs.declared.node.Node.{Ghosts}
use Rattle.sd_sched.specs.declared.Event.{Event}
use Rattle.sd_sched.specs.declared.Event.TheVariants as event
use Rattle.sd_sched.specs.Events.{device_of}
use Rattle.sd_sched.specs.Spelled.{is_within}
use Rattle.sd_history.specs.Things.{failure_of, mended}
use Rattle.sd_history.specs.Refusals.{makes_some}
use Rattle.sd_world.specs.world.Registers.{up_at, reading_at, is_open}
use Rattle.sd_world.specs.declared.membership.plans.NumberedPlan.{NumberedPlan}
use Rattle.sd_world.specs.declared.membership.AnswerSummary.{AnswerSummary}
use Rattle.sd_world.specs.membership.Plans.{row_numbered, root_numbered, is_member_numbered}
use Rattle.sd_world.specs.membership.Memberships as membership
use Rattle.sd_world.specs.membership.Memberships.{staged_number, holds_given}
use Rattle.sd_history.specs.flights.Flights.{says_unknown, says_spent}
use Rattle.sd_device.specs.declared.msg.TakeFault.{TakeFault}
use Rattle.sd_device.specs.declared.msg.TakeFault.TheVariants as fault
use Rattle.sd_device.specs.msg.Books.{found, has_number, is_given}
use Rattle.sd_plan.specs.Tables.{TableRow}
use Rattle.sd_plan.proofs.topo.Laws.{rates_law}
use Rattle.sd_plan.proofs.Shared.{found_passes}
use Rattle.sd_device.specs.Calls as calls
use Rattle.sd_fleet.specs.Registers.{Registers}
use Rattle.sd_fleet.specs.Sound.{IsSound}
use Rattle.sd_fleet.specs.Causes.{refusal_in, past_preparing_in}
use Rattle.sd_device.specs.Calls.{Call}
use Rattle.sd_history.specs.Steps as steps
use Rattle.sd_fleet.specs.Doing.{act_in, receipt, given_in}
use Rattle.sd_fleet.proofs.Admitted.{clear, device_known, message_known, message_unspent, counter_rises, device_up, started_member, given_member}
use Rattle.sd_fleet.specs.Calling.{IsNode, IsMessage, IsEstimate, CanCall}
use Rattle.sd_fleet.specs.Nodes.{node_at, IsCallable, CanAct}
use Rattle.sd_fleet.specs.Bounds.{given_at, context_of, IsKept, AreNodes}

-- the event calls its device, or asks it
abbrev pub calls_up : Event → Bool
calls_up (event.Tick reference device counter) = true
calls_up (event.Recv reference device counter message) = true
calls_up (event.Fix reference device counter clock eps) = true
calls_up (event.Give reference device) = true
calls_up (event.Commit reference device counter) = true
calls_up (event.Seal reference device) = true
calls_up (event.Ask reference device counter) = true
calls_up _ = false

-- so it makes, fails and mends nothing
up_asked : (e : Event) → calls_up e ≡ true → (makes_some e || is_some (failure_of e) || is_some (mended e)) ≡ false
up_asked (event.Tick reference device counter) calls = refl
up_asked (event.Recv reference device counter message) calls = refl
up_asked (event.Fix reference device counter clock eps) calls = refl
up_asked (event.Give reference device) calls = refl
up_asked (event.Commit reference device counter) calls = refl
up_asked (event.Seal reference device) calls = refl
up_asked (event.Ask reference device counter) calls = refl
up_asked _ calls = cc

-- the number of a given duty is known
given_kept : {N : Type 0} (g : Ghosts N) (r : Registers) (d : ℕ) (n : N) → IsKept g r d n
    → option_map (λ (duty : Duty). duty.epoch) (g.given n) ≡ given_at r.membership d
given_kept g r d n kept = sym (ap (λ (o : Option AnswerSummary). option_and_then (λ a. a.given) o) kept.answers)

module _ {N : Type 0} (g : Ghosts N) (r : Registers) (nodes : List (Option N)) (e : Event) (are_nodes : AreNodes g r nodes) (sound : IsSound r)
    (accepted : refusal_in r e ≡ None) where
  in_places : (d : ℕ) → device_of e ≡ Some d → d < length nodes
  in_places d named = subst (λ (n : ℕ). d < n) (sym are_nodes.places) (device_known r e accepted d named)

  there : (d : ℕ) → device_of e ≡ Some d → up_at r.membership.world d ≡ true → node_at nodes d ≢ None
  there d named up = are_nodes.there d (device_known r e accepted d named) up

  -- what is held as given by a device that is up
  given_named : (d : ℕ) → device_of e ≡ Some d → up_at r.membership.world d ≡ true → given_in r e ≡ given_at r.membership d
  given_named d named up =
      ap (λ (o : Option ℕ). option_and_then (λ x. option_and_then (λ a. a.given) (membership.live_at r.membership x)) o) named
      ∙ ap (λ (b : Bool). option_and_then (λ (a : AnswerSummary). a.given) (if b then at_place r.membership.answers d None (λ a. a) else None)) up

  callable : (d : ℕ) (call : Call) (n : N) → device_of e ≡ Some d → up_at r.membership.world d ≡ true → node_at nodes d ≡ Some n
      → CanCall g r.membership.world.events (reading_at r.membership.world d) n call → IsCallable g (context_of r e) call n
  callable d call n named up is can =
      let reads : (context_of r e).reading ≡ reading_at r.membership.world d = ap (λ (o : Option ℕ). map_or o 0 (reading_at r.membership.world)) named in
      record {
        numbers = subst (λ (k : ℕ). IsNode g r.membership.world.events k n) (sym reads) (are_nodes.kept d n is).numbers;
        can = subst (λ (k : ℕ). CanCall g r.membership.world.events k n call) (sym reads) can;
        given = λ duty holds. given_named d named up ∙ sym (given_kept g r d n (are_nodes.kept d n is)) ∙ ap (option_map (λ (duty : Duty). duty.epoch)) holds;
      }

  called : (d : ℕ) (call : Call) → device_of e ≡ Some d → up_at r.membership.world d ≡ true
      → ((n : N) → node_at nodes d ≡ Some n → CanCall g r.membership.world.events (reading_at r.membership.world d) n call)
      → CanAct g nodes (context_of r e) (steps.Calls d call)
  called d call named up can = (in_places d named, there d named up, λ n is. callable d call n named up is (can n is))

  -- the device of an event that calls it is up, and its counter does not fall
  up_now : (d : ℕ) → device_of e ≡ Some d → calls_up e ≡ true → up_at r.membership.world d ≡ true
  up_now d named calls = device_up r e accepted d (up_asked e calls) named

-- The numbers of an event are within the limits

amount : (a b c : Bool) (n : ℕ) → IsTrue (a && (b && (nat_le n (2 ^ 60) && c))) → n ≤ 2 ^ 60
amount a b c n within =
    leb-true n (2 ^ 60) (and_parts (nat_le n (2 ^ 60)) c (and_parts b (nat_le n (2 ^ 60) && c) (and_parts a (b && (nat_le n (2 ^ 60) && c)) within).1).1).0

second_amount : (a b c d : Bool) (n : ℕ) → IsTrue (a && (b && (c && (nat_le n (2 ^ 60) && d)))) → n ≤ 2 ^ 60
second_amount a b c d n within =
    leb-true n (2 ^ 60)
    (and_parts (nat_le n (2 ^ 60)) d
    (and_parts c (nat_le n (2 ^ 60) && d)
    (and_parts b (c && (nat_le n (2 ^ 60) && d)) (and_parts a (b && (c && (nat_le n (2 ^ 60) && d))) within).1).1).1).0

third_amount : (a b c d e : Bool) (n : ℕ) → IsTrue (a && (b && (c && (d && (nat_le n (2 ^ 60) && e))))) → n ≤ 2 ^ 60
third_amount a b c d e n within =
    leb-true n (2 ^ 60)
    (and_parts (nat_le n (2 ^ 60)) e
    (and_parts d (nat_le n (2 ^ 60) && e)
    (and_parts c (d && (nat_le n (2 ^ 60) && e))
    (and_parts b (c && (d && (nat_le n (2 ^ 60) && e))) (and_parts a (b && (c && (d && (nat_le n (2 ^ 60) && e)))) within).1).1).1).1).0

-- the estimate of an event that makes its device or sets its clock
estimate : (d reference counter clock eps : ℕ) → IsTrue (is_within (event.Fix reference d counter clock eps)) → IsEstimate counter clock eps
estimate d reference counter clock eps within =
    record {
      counter_fits = amount _ (nat_le reference (2 ^ 60)) (nat_le clock (2 ^ 60) && (nat_le eps (2 ^ 60) && true)) counter within;
      clock_fits = second_amount _ (nat_le reference (2 ^ 60)) (nat_le counter (2 ^ 60)) (nat_le eps (2 ^ 60) && true) clock within;
      eps_fits = third_amount _ (nat_le reference (2 ^ 60)) (nat_le counter (2 ^ 60)) (nat_le clock (2 ^ 60)) true eps within;
    }

-- the flight of a message that is on its way
pub flight_found : (last : ℕ) (flights : List Flight) (n reference : ℕ) → says_unknown (found last flights n) ≡ false
    → says_spent reference (found last flights n) ≡ false → (f : Flight) × (found last flights n ≡ Ok f)
flight_found last flights n reference known unspent = by (is_given last n) (find (has_number n) flights) known unspent
  where
    by : (b : Bool) (o : Option Flight) → says_unknown (if b then ok_or o fault.Spent else Err fault.Unknown) ≡ false
        → says_spent reference (if b then ok_or o fault.Spent else Err fault.Unknown) ≡ false
        → (f : Flight) × ((if b then ok_or o fault.Spent else Err fault.Unknown) ≡ Ok f)
    by true None known' unspent' = cc
    by true (Some f) known' unspent' = (f, refl)
    by false o known' unspent' = cc

flight_each : (P : Flight → Type 0) (last : ℕ) (flights : List Flight) (n : ℕ) (f : Flight) → Each P flights → found last flights n ≡ Ok f → P f
flight_each P last flights n f each at = by (is_given last n) (find (has_number n) flights) refl at
  where
    by : (b : Bool) (o : Option Flight) → find (has_number n) flights ≡ o → (if b then ok_or o fault.Spent else Err fault.Unknown) ≡ Ok f → P f
    by true None none at' = cc
    by true (Some x) some at' = subst P (ok_is x f at') (found_passes P (has_number n) flights x each some)
      where
        ok_is : (x f : Flight) → ok_or (Some x) fault.Spent ≡ Ok f → x ≡ f
        ok_is x f same = cc
    by false o some at' = cc

-- what the act is where the device has a row
pub row_there : (plans : List NumberedPlan) (epoch d : ℕ) → is_member_numbered plans epoch d ≡ true → (row : TableRow) × (row_numbered plans epoch d ≡ Some row)
row_there plans epoch d member = by (row_numbered plans epoch d) member
  where
    by : (o : Option TableRow) → map_or o false (λ row. true) ≡ true → (row : TableRow) × (o ≡ Some row)
    by None none = cc
    by (Some row) some = (row, refl)

-- What a commit asks

commit_parts : (early other root : Bool) → ((((false || early) || other) || false) || (root || false)) ≡ false → (other ≡ false) × (root ≡ false)
commit_parts true other root none = cc
commit_parts false true root none = cc
commit_parts false false true none = cc
commit_parts false false false none = (refl, refl)

-- the device of a commit is the root of the staged plan, and holds its duty of that plan as given
commit_is : (r : Registers) (reference d counter : ℕ) → refusal_in r (event.Commit reference d counter) ≡ None
    → ((is_open r.membership.world.window && nat_eq (root_numbered r.membership.plans (staged_number r.membership)) d) ≡ true)
    × (holds_given r.membership (staged_number r.membership) d ≡ true)
commit_is r reference d counter accepted =
    let parts =
    commit_parts (past_preparing_in r) (not (is_open r.membership.world.window && nat_eq (root_numbered r.membership.plans (staged_number r.membership)) d))
    (not (holds_given r.membership (staged_number r.membership) d))
    (clear r (event.Commit reference d counter) accepted).out_of_order
    in (
      not-false (is_open r.membership.world.window && nat_eq (root_numbered r.membership.plans (staged_number r.membership)) d) parts.0,
      not-false (holds_given r.membership (staged_number r.membership) d) parts.1,
    )

-- what is held as given, by what was answered
held : (r : membership.Registers) (epoch d : ℕ) → holds_given r epoch d ≡ true → same_number (given_at r d) epoch ≡ true
held r epoch d holds = by (up_at r.world d) (at_place r.answers d None (λ a. a)) holds
  where
    by : (b : Bool) (o : Option AnswerSummary) → map_or (if b then o else None) false (λ a. same_number a.given epoch) ≡ true
        → same_number (option_and_then (λ (a : AnswerSummary). a.given) o) epoch ≡ true
    by true None none = cc
    by true (Some a) some = some
    by false o none = cc

-- a duty of that number is the root's
root_given : (r : Registers) (d : ℕ) (given : Option Duty) → IsSound r
    → (is_open r.membership.world.window && nat_eq (root_numbered r.membership.plans (staged_number r.membership)) d) ≡ true
    → same_number (option_map (λ (duty : Duty). duty.epoch) given) (staged_number r.membership) ≡ true
    → ((duty : Duty) → given ≡ Some duty → option_map (λ row. row.duty) (row_numbered r.membership.plans duty.epoch d) ≡ Some duty)
    → option_map (λ (duty : Duty). duty.role) given ≡ Some role.Root
root_given r d None sound root number rows = cc
root_given r d (Some duty) sound root number rows =
    let parts = and_parts (is_open r.membership.world.window) (nat_eq (root_numbered r.membership.plans (staged_number r.membership)) d) root in
    let here : root_numbered r.membership.plans (staged_number r.membership) ≡ d =
    eqb-true (root_numbered r.membership.plans (staged_number r.membership)) d parts.1 in
    let same : duty.epoch ≡ staged_number r.membership = eqb-true duty.epoch (staged_number r.membership) number in
    by (row_numbered r.membership.plans (staged_number r.membership) d)
    (λ row at. sound.tables.roots (staged_number r.membership) row (sound.membership.staged parts.0)
    (ap (λ (x : ℕ). row_numbered r.membership.plans (staged_number r.membership) x) here ∙ at))
    (ap (λ (n : ℕ). option_map (λ row. row.duty) (row_numbered r.membership.plans n d)) (sym same) ∙ rows duty refl)
  where
    by : (o : Option TableRow) → ((row : TableRow) → o ≡ Some row → row.duty.role ≡ role.Root) → option_map (λ row. row.duty) o ≡ Some duty
        → Some duty.role ≡ Some role.Root
    by None roots none = cc
    by (Some row) roots some = ap Some (sym (ap (λ (x : Duty). x.role) (same_Some row.duty duty some)) ∙ roots row refl)

module _ {N : Type 0} (g : Ghosts N) (r : Registers) (nodes : List (Option N)) (are_nodes : AreNodes g r nodes) (sound : IsSound r) where
  pub can_act : (e : Event) → refusal_in r e ≡ None → IsTrue (is_within e) → CanAct g nodes (context_of r e) (act_in r e)
  can_act (event.Tick reference d counter) accepted within =
      let e = event.Tick reference d counter in
      called g r nodes e are_nodes sound accepted d (calls.Tick counter) refl (up_now g r nodes e are_nodes sound accepted d refl refl)
      (λ n is. (counter_rises r e accepted d counter refl refl refl, amount _ (nat_le reference (2 ^ 60)) true counter within))
  can_act (event.Fix reference d counter clock eps) accepted within =
      let e = event.Fix reference d counter clock eps in
      called g r nodes e are_nodes sound accepted d (calls.Fix counter clock eps) refl (up_now g r nodes e are_nodes sound accepted d refl refl)
      (λ n is. (counter_rises r e accepted d counter refl refl refl, estimate d reference counter clock eps within))
  can_act (event.Seal reference d) accepted within =
      let e = event.Seal reference d in
      called g r nodes e are_nodes sound accepted d calls.Seal refl (up_now g r nodes e are_nodes sound accepted d refl refl) (λ n is. tt)
  can_act (event.Join reference d counter clock eps) accepted within =
      let e = event.Join reference d counter clock eps in (
        in_places g r nodes e are_nodes sound accepted d refl,
        (
          rates_law r.net d sound.net
              (device_known r e accepted d refl),
          estimate d reference counter clock eps within,
        ),
      )
  can_act (event.Ask reference d counter) accepted within =
      let e = event.Ask reference d counter in
      let up = up_now g r nodes e are_nodes sound accepted d refl refl in (
        in_places g r nodes e are_nodes sound accepted d refl,
        there g r nodes e are_nodes sound accepted d refl up,
        λ n is. (are_nodes.kept d n is).numbers,
        counter_rises r e accepted d counter refl refl refl,
        amount _ (nat_le reference (2 ^ 60)) true counter within,
      )
  can_act (event.Start reference d counter clock eps) accepted within =
      let e = event.Start reference d counter clock eps in
      let (row, at) = row_there r.membership.plans r.membership.world.epoch d (started_member r e accepted d refl) in
      let kept = sound.tables.rows r.membership.world.epoch d row sound.membership.in_force at in
      subst (λ (o : Option TableRow). CanAct g nodes (context_of r e)
      (map_or o steps.Passes (λ row. steps.Makes d (calls.Started row.duty counter clock eps)))) (sym at)
      (in_places g r nodes e are_nodes sound accepted d refl, (kept.duty, estimate d reference counter clock eps within))
  can_act (event.Recv reference d counter message) accepted within =
      let e = event.Recv reference d counter message in
      let (f, at) =
      flight_found r.book.last r.book.flights message reference (message_known r e accepted message refl) (message_unspent r e accepted message refl) in
      subst (λ (o : Result Flight TakeFault). CanAct g nodes (context_of r e) (receipt o d counter)) (sym at)
      (called g r nodes e are_nodes sound accepted d (calls.Receive f.link f.message counter) refl (up_now g r nodes e are_nodes sound accepted d refl refl)
      (λ n is. (
        counter_rises r e accepted d counter refl refl refl,
        amount _ (nat_le reference (2 ^ 60)) (nat_le message (2 ^ 60) && true) counter within,
        flight_each (λ f. IsMessage r.membership.world.events f.message) r.book.last r.book.flights message f are_nodes.messages at,
      )))
  can_act (event.Give reference d) accepted within =
      let e = event.Give reference d in
      let parts = and_parts (is_open r.membership.world.window) (is_member_numbered r.membership.plans (staged_number r.membership) d)
      (given_member r e accepted d refl) in
      let (row, at) = row_there r.membership.plans (staged_number r.membership) d parts.1 in
      let kept = sound.tables.rows (staged_number r.membership) d row (sound.membership.staged parts.0) at in
      subst (λ (o : Option TableRow). CanAct g nodes (context_of r e) (map_or o steps.Passes (λ row. steps.Calls d (calls.Give row.duty)))) (sym at)
      (called g r nodes e are_nodes sound accepted d (calls.Give row.duty) refl (up_now g r nodes e are_nodes sound accepted d refl refl) (λ n is. kept.duty))
  can_act (event.Commit reference d counter) accepted within =
      let e = event.Commit reference d counter in
      called g r nodes e are_nodes sound accepted d (calls.Commit counter) refl (up_now g r nodes e are_nodes sound accepted d refl refl)
      (λ n is. (
        counter_rises r e accepted d counter refl refl refl,
        amount _ (nat_le reference (2 ^ 60)) true counter within,
        (let it = commit_is r reference d counter accepted in
            let kept = are_nodes.kept d n is in
            root_given r d (g.given n) sound it.0
            (subst (λ (o : Option ℕ). same_number o (staged_number r.membership) ≡ true) (sym (given_kept g r d n kept))
            (held r.membership (staged_number r.membership) d it.1)) kept.duty),
      ))
  can_act _ accepted within = tt
