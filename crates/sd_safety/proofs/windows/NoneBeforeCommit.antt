-- C8 in every history: before a commit no device and no message is of the staged epoch. By induction on the history: a device takes up a duty by
-- a message of the duty's epoch, or by a commit.
use Rattle.std.specs.Prelude.{◌≡◌, ℕ, ◌+◌, ◌≤◌, Bool, true, false, ◌&&◌, ◌||◌, not, List, [], ◌∷◌, cond, nat_eq, nat_le, Option, Some, None, is_some, option_map, option_and_then, refl, if◌then◌else◌}
use Rattle.std.specs.List.{list_any}
use Rattle.std.proofs.Common.{arith, ◌∙◌, ap, sym, subst, inl, inr}
use Rattle.std.proofs.lemmas.Bool.{eqb-true, eq-eqb, not-true, le-leb}
use Rattle.sd_num.specs.Lists.{map_or, same_number}
use Rattle.sd_plan.specs.declared.Duty.{Duty}
use Rattle.sd_plan.specs.declared.Edge.{Edge}
use Rattle.sd_plan.specs.declared.Plan.{Plan}
use Rattle.sd_plan.specs.Duties.{duty_of}
use Rattle.sd_device.specs.declared.msg.Message.{Message}
use Rattle.sd_device.specs.declared.msg.Flight.{Flight}
use Rattle.sd_device.specs.Calls as calls
use Rattle.sd_device.specs.Calls.{Call, Transition, Past}
use Rattle.sd_device.specs.Words.{after, transition_of, epoch_now, duty_now, given_now, taken_up, accepted_over, emits_at, takes_over_at, moves_at}
use Rattle.sd_sched.specs.declared.Event.{Event}
use Rattle.sd_sched.specs.declared.Event.TheVariants as event
use Rattle.sd_sched.specs.Events.{reference_of, is_stage, is_commit}
use Rattle.sd_history.specs.World.{Setting, Seen, is_up, window, has_commit, staged, staged_epoch}
use Rattle.sd_history.specs.Steps.{Act, Makes, Calls, Asks, Passes, Answers, Step, seen_of, act_by, flights, flight_numbered, answers_in, given_in, epoch_in}
use Rattle.sd_history.specs.Chronicle.{answers_by, new_past, past_in, past_after, next_step, chronicle}
use Rattle.sd_history.specs.Admitted.{IsAdmitted}
use Rattle.sd_history.proofs.Among.{either_side, found, all_pass}
use Rattle.sd_history.proofs.Bridges.{answers_by_words}
use Rattle.sd_history.proofs.Given.{some_is, takes_given, tick_takes_none}
use Rattle.sd_safety.proofs.messages.Sending.{passes_on, sends_own}
use Rattle.sd_safety.proofs.messages.Flights.{IsSentBy, sent_by}
use Rattle.sd_safety.specs.invariant.Eras.{era, is_new, live_past}
use Rattle.sd_safety.specs.invariant.Clauses.{none_is_new, none_sent_ahead}
use Rattle.sd_safety.specs.invariant.Invariant.{IsUncommitted}
use Rattle.sd_safety.proofs.invariant.Fallback.{from_absurd}
use Rattle.sd_safety.proofs.invariant.Sides.{not_both}
use Rattle.sd_safety.proofs.invariant.Parents.{live_is}
use Rattle.sd_safety.proofs.timers.Transitions.{by_case}
use Rattle.sd_safety.specs.windows.Reaching.{reach_of, reach, IsWithin}
use Rattle.sd_safety.proofs.windows.Eras.{era_after, stages_shut, IsCommitting, committing}

abbrev committed : Option (List Seen) → Bool
committed w = map_or w false (list_any (λ x. is_commit x.event))

rises : (s : Seen) (n : ℕ) (c st : Bool) (w : Option (List Seen)) → (st && is_some w) ≡ false
    → reach_of (committed w) n ≤ reach_of (committed (if c then None else if st then Some [] else option_map (λ v. s ∷ v) w)) (n + cond c 1 0)
rises s n true st w shut = most (committed w)
  where
    most : (b : Bool) → reach_of b n ≤ n + 1
    most true = omega arith
    most false = omega arith
rises s n false true None shut = omega arith
rises s n false true (Some v) shut = cc
rises s n false false None shut = omega arith
rises s n false false (Some v) shut = more (is_commit s.event) (list_any (λ x. is_commit x.event) v)
  where
    more : (a b : Bool) → reach_of b n ≤ reach_of (a || b) (n + 0)
    more true true = omega arith
    more true false = omega arith
    more false true = omega arith
    more false false = omega arith

-- the reach never falls
pub reach_rises : (setting : Setting) (e : Event) (history : List Event) → IsAdmitted setting (e ∷ history)
    → reach (chronicle setting history) ≤ reach (chronicle setting (e ∷ history))
reach_rises setting e history is =
    let steps = chronicle setting history in
    let s : Step = next_step setting steps e in
    subst (λ n. reach steps ≤ reach_of (has_commit (seen_of (s ∷ steps))) n) (sym (era_after s steps))
    (rises s.seen (era steps) s.seen.closed (is_stage e) (window (seen_of steps)) (stages_shut setting e history is))

-- the reach is at least the era
pub era_within : (steps : List Step) → era steps ≤ reach steps
era_within steps = go (has_commit (seen_of steps)) (era steps)
  where
    go : (b : Bool) (n : ℕ) → n ≤ reach_of b n
    go true n = omega arith
    go false n = omega arith

-- with a commit it is the staged epoch at least
commits_far : (s : Seen) (n : ℕ) (c : Bool) (w : Option (List Seen)) → is_some w ≡ true → is_commit s.event ≡ true
    → n + 1 ≤ reach_of (committed (if c then None else option_map (λ v. s ∷ v) w)) (n + cond c 1 0)
commits_far s n true w opened commit = omega arith
commits_far s n false None opened commit = cc
commits_far s n false (Some v) opened commit = go (is_commit s.event) (list_any (λ x. is_commit x.event) v) commit
  where
    go : (a b : Bool) → a ≡ true → n + 1 ≤ reach_of (a || b) (n + 0)
    go true b is = omega arith
    go false b is = cc

-- What an act brings

-- the act brings its device nothing of a later epoch
abbrev BringsWithin : List Step → ℕ → Act → Type 0
BringsWithin steps bound (Makes d making) = epoch_now (new_past making) ≤ bound
BringsWithin steps bound (Calls d (calls.Receive link m counter)) = m.epoch ≤ bound
BringsWithin steps bound (Calls d (calls.Commit counter)) = (past : Past) → past_in steps d ≡ Some past → (u : Duty) → given_now past ≡ Some u → u.epoch ≤ bound
BringsWithin steps bound (Calls d _) = Unit {0}
BringsWithin steps bound (Asks d counter) = Unit {0}
BringsWithin steps bound Passes = Unit {0}

taken_epoch : (past : Past) (call : Call) (bound : ℕ) → epoch_now past ≤ bound → (t : Option Duty) → ((u : Duty) → t ≡ Some u → u.epoch ≤ bound)
    → map_or (map_or (option_map Some t) (duty_now past) (λ told. told)) 0 (λ u. u.epoch) ≤ bound
taken_epoch past call bound old None takes = old
taken_epoch past call bound old (Some u) takes = takes u refl

abbrev pub is_commit_call : Call → Bool
is_commit_call (calls.Commit counter) = true
is_commit_call _ = false

-- what takes up a duty and is no commit accepts a message
abbrev Accounts : Call → Transition → Type 0
Accounts call transition = is_some (taken_up transition) ≡ true → is_commit_call call ≡ false → is_some (accepted_over transition) ≡ true

takes_by_receipt : (past : Past) (call : Call) → Accounts call (transition_of past call)
takes_by_receipt past call =
    by_case past Accounts
    (record {
      emitted = λ c e some no_commit. cc;
      took = λ c e t some no_commit. cc;
      moved = λ c e t m some no_commit. cc;
      still = λ c e t m some no_commit. cc;
      entered = λ link message c duty edge some no_commit. refl;
      accepted = λ link message c edge some no_commit. refl;
      committed = λ c duty a some no_commit. cc;
      recommitted = λ c duty a some no_commit. cc;
      nothing = λ x t some no_commit. cc;
    }) call

-- after a receipt a device is of the message's epoch, or of its own
received_epoch : (past : Past) (link : ℕ) (m : Message) (counter bound : ℕ) → epoch_now past ≤ bound → m.epoch ≤ bound
    → epoch_now (after past (calls.Receive link m counter)) ≤ bound
received_epoch past link m counter bound old message = go (accepted_over (transition_of past (calls.Receive link m counter))) refl
  where
    by_taken : (t : Option Duty) → taken_up (transition_of past (calls.Receive link m counter)) ≡ t
        → is_some (accepted_over (transition_of past (calls.Receive link m counter))) ≡ false
        → map_or (map_or (option_map Some t) (duty_now past) (λ told. told)) 0 (λ u. u.epoch) ≤ bound
    by_taken None is none = old
    by_taken (Some u) is none =
        absurd (not_both (is_some (accepted_over (transition_of past (calls.Receive link m counter))))
        (takes_by_receipt past (calls.Receive link m counter) (ap is_some is) refl) none)

    go : (o : Option Edge) → accepted_over (transition_of past (calls.Receive link m counter)) ≡ o
        → epoch_now (after past (calls.Receive link m counter)) ≤ bound
    go (Some edge) over = subst (λ n. n ≤ bound) (sym (passes_on past link m counter edge over).1) message
    go None over = by_taken (taken_up (transition_of past (calls.Receive link m counter))) refl (ap is_some over)

called_epoch : (steps : List Step) (d bound : ℕ) (past : Past) (call : Call) → past_in steps d ≡ Some past → epoch_now past ≤ bound
    → BringsWithin steps bound (Calls d call) → epoch_now (after past call) ≤ bound
called_epoch steps d bound past (calls.Tick counter) there old brings =
    taken_epoch past (calls.Tick counter) bound old _
    (λ u same. absurd (never (tick_takes_none (emits_at past counter) (takes_over_at past counter) (moves_at past counter)) same))
  where
    never : {o : Option Duty} {u : Duty} → o ≡ None → o ≡ Some u → ⊥
    never none some = cc
called_epoch steps d bound past (calls.Receive link m counter) there old brings = received_epoch past link m counter bound old brings
called_epoch steps d bound past (calls.Commit counter) there old brings =
    taken_epoch past (calls.Commit counter) bound old (taken_up (transition_of past (calls.Commit counter)))
    (λ u same. brings past there u (takes_given past (calls.Commit counter) u same))
called_epoch steps d bound past _ there old brings = old

-- after a step the devices are within the reach where its act brings no more
after_act : (steps : List Step) (bound : ℕ) (act : Act) → ((d : ℕ) (past : Past) → past_in steps d ≡ Some past → epoch_now past ≤ bound)
    → BringsWithin steps bound act
    → (d : ℕ) (past : Past) → past_after act d (past_in steps d) ≡ Some past → epoch_now past ≤ bound
after_act steps bound (Makes e making) old brings d past is = go (nat_eq e d) is
  where
    go : (b : Bool) → (if b then Some (new_past making) else past_in steps d) ≡ Some past → epoch_now past ≤ bound
    go true is' = subst (λ p. epoch_now p ≤ bound) (some_is is') brings
    go false is' = old d past is'
after_act steps bound (Calls e call) old brings d past is = go (nat_eq e d) refl (past_in steps d) refl is
  where
    go : (b : Bool) → nat_eq e d ≡ b → (p : Option Past) → past_in steps d ≡ p → (if b then option_map (λ q. after q call) p else p) ≡ Some past
        → epoch_now past ≤ bound
    go true same None there is' = cc
    go true same (Some q) there is' =
        let there' : past_in steps e ≡ Some q = ap (past_in steps) (eqb-true e d same) ∙ there in
        subst (λ p. epoch_now p ≤ bound) (some_is is') (called_epoch steps e bound q call there' (old e q there') brings)
    go false same p there is' = old d past (there ∙ is')
after_act steps bound (Asks e counter) old brings d past is = old d past is
after_act steps bound Passes old brings d past is = old d past is

module _ (setting : Setting) where
  -- Each event brings no more

  brings_recv : (steps : List Step) (bound d c : ℕ) (o : Option Flight) → ((f : Flight) → o ≡ Some f → f.message.epoch ≤ bound)
      → BringsWithin steps bound (map_or o Passes (λ f. Calls d (calls.Receive f.link f.message c)))
  brings_recv steps bound d c None within = tt
  brings_recv steps bound d c (Some f) within = within f refl

  brings_give : (steps : List Step) (bound d : ℕ) (o : Option Plan) (duty : Plan → Duty)
      → BringsWithin steps bound (map_or o Passes (λ plan. Calls d (calls.Give (duty plan))))
  brings_give steps bound d None duty = tt
  brings_give steps bound d (Some plan) duty = tt

  given_epoch : (steps : List Step) (d : ℕ) (past : Past) (n : ℕ) → answers_in steps d ≡ option_map answers_by (past_in steps d) → past_in steps d ≡ Some past
      → same_number (given_in steps d) n ≡ true → (u : Duty) → given_now past ≡ Some u → u.epoch ≡ n
  given_epoch steps d past n answers there given u has = go (is_up (seen_of steps) d) given
    where
      at : (o : Option Answers) → o ≡ Some (answers_by past) → same_number (map_or o None (λ a. option_map (λ duty. duty.epoch) a.given)) n ≡ true
          → u.epoch ≡ n
      at o is given' =
          eqb-true u.epoch n (sym (ap (λ g. same_number (option_map (λ duty. duty.epoch) g) n) has)
          ∙ sym (ap (λ x. same_number (map_or x None (λ a. option_map (λ duty. duty.epoch) a.given)) n) is) ∙ given')

      is_there : answers_in steps d ≡ Some (answers_by past)
      is_there = answers ∙ ap (option_map answers_by) there

      go : (b : Bool) → same_number (option_and_then (λ a. option_map (λ duty. duty.epoch) a.given) (if b then answers_in steps d else None)) n ≡ true
          → u.epoch ≡ n
      go true given' = by (answers_in steps d) is_there given'
        where
          by : (o : Option Answers) → o ≡ Some (answers_by past) → same_number (option_and_then (λ a. option_map (λ duty. duty.epoch) a.given) o) n ≡ true
              → u.epoch ≡ n
          by None is given'' = cc
          by (Some a) is given'' = at (Some a) is given''
      go false given' = cc

  brings : (e : Event) (history : List Event) → IsAdmitted setting (e ∷ history) → IsWithin (chronicle setting history)
      → BringsWithin (chronicle setting history) (reach (chronicle setting (e ∷ history))) (act_by setting (chronicle setting history) e)
  brings (event.Start r d c clock eps) history is old =
      let low = era_within (chronicle setting history) in
      let up = reach_rises setting (event.Start r d c clock eps) history is in
      over low up
    where
      over : {a b n : ℕ} → a ≤ b → b ≤ n → a ≤ n
      over low up = omega (arith, low, up)
  brings (event.Join r d c clock eps) history is old = omega arith
  brings (event.Recv r d c n) history is old =
      brings_recv (chronicle setting history) (reach (chronicle setting (event.Recv r d c n ∷ history))) d c (flight_numbered (chronicle setting history) n)
      (λ f is_it.
      let was = old.messages f (found (λ g. nat_eq g.number n) f (flights (chronicle setting history)) is_it) in
      let up = reach_rises setting (event.Recv r d c n) history is in
      over was up)
    where
      over : {a b n : ℕ} → a ≤ b → b ≤ n → a ≤ n
      over low up = omega (arith, low, up)
  brings (event.Give r d) history is old =
      brings_give (chronicle setting history) (reach (chronicle setting (event.Give r d ∷ history))) d (staged setting (seen_of (chronicle setting history)))
      (λ plan. duty_of setting.net plan (staged_epoch (seen_of (chronicle setting history))) d)
  brings (event.Commit r d c) history is old = λ past there u has.
      let steps : List Step = chronicle setting history in
      let s : Step = next_step setting steps (event.Commit r d c) in
      let of : IsCommitting setting steps d = committing setting r d c history is in
      let same : u.epoch ≡ staged_epoch (seen_of steps) =
      given_epoch steps d past (staged_epoch (seen_of steps)) (answers_by_words setting history d) there of.given u has in
      let far : staged_epoch (seen_of steps) ≤ reach (s ∷ steps) =
      subst (λ n. staged_epoch (seen_of steps) ≤ reach_of (has_commit (seen_of (s ∷ steps))) n) (sym (era_after s steps))
      (commits_far s.seen (era steps) s.seen.closed (window (seen_of steps)) of.opened refl) in
      subst (λ n. n ≤ reach (s ∷ steps)) (sym same) far
  brings (event.Tick r d c) history is old = tt
  brings (event.Fix r d c clock eps) history is old = tt
  brings (event.Seal r d) history is old = tt
  brings _ history is old = tt

  -- devices and messages stay within
  pub within : (history : List Event) → IsAdmitted setting history → IsWithin (chronicle setting history)
  within [] is = record { epochs = λ d past there. cc; messages = λ f among. elim among [ ] }
  within (e ∷ history) is =
      let steps : List Step = chronicle setting history in
      let s : Step = next_step setting steps e in
      let old : IsWithin steps = within history is.0 in
      let up : reach steps ≤ reach (s ∷ steps) = reach_rises setting e history is in
      let now : (d : ℕ) (past : Past) → past_in (s ∷ steps) d ≡ Some past → epoch_now past ≤ reach (s ∷ steps) =
      after_act steps (reach (s ∷ steps)) (act_by setting steps e) (λ d past there. over (old.epochs d past there) up) (brings e history is old) in
      record {
        epochs = now;
        messages =
            λ f among.
            elim (either_side s.sent (flights steps) among) [
              | inl here ↦
                  let sent : IsSentBy setting steps (reference_of e) (act_by setting steps e) f =
                  sent_by setting steps (reference_of e) (act_by setting steps e) f here in
                  let own : f.message.epoch ≡ epoch_now (after sent.past sent.call) = (sends_own sent.past sent.call f.message sent.effect).1 in
                  subst (λ n. n ≤ reach (s ∷ steps)) (sym own)
                  (now sent.device (after sent.past sent.call)
                  (called steps (act_by setting steps e) sent.device sent.call sent.past sent.act_is sent.there))
              | inr before ↦ over (old.messages f before) up
            ];
      }
    where
      over : {a b n : ℕ} → a ≤ b → b ≤ n → a ≤ n
      over low up = omega (arith, low, up)

      called : (steps : List Step) (act : Act) (d : ℕ) (call : Call) (past : Past) → act ≡ Calls d call → past_in steps d ≡ Some past
          → past_after act d (past_in steps d) ≡ Some (after past call)
      called steps act d call past is' there =
          ap (λ a. past_after a d (past_in steps d)) is'
          ∙ ap (λ b. if b then option_map (λ q. after q call) (past_in steps d) else past_in steps d) (eq-eqb d d refl)
          ∙ ap (option_map (λ q. after q call)) there

  -- a device of some epoch
  at_epoch : (steps : List Step) (d n : ℕ) (p : Option Past) → same_number (option_map (λ a. a.epoch) (option_map answers_by p)) n ≡ true
      → ((past : Past) → p ≡ Some past → epoch_now past ≤ reach steps) → n ≤ reach steps
  at_epoch steps d n None same old = cc
  at_epoch steps d n (Some past) same old = subst (λ m. m ≤ reach steps) (eqb-true (epoch_now past) n same) (old past refl)

  live_is_past : (b : Bool) (p : Option Past) (past : Past) → (if b then p else None) ≡ Some past → p ≡ Some past
  live_is_past true p past is = is
  live_is_past false p past is = cc

  -- each device that is up is of an epoch within the reach
  pub epoch_within : (history : List Event) → IsAdmitted setting history → (d n : ℕ) → same_number (epoch_in (chronicle setting history) d) n ≡ true
      → n ≤ reach (chronicle setting history)
  epoch_within history is d n same =
      let steps : List Step = chronicle setting history in
      at_epoch steps d n (live_past steps d) (sym (ap (λ o. same_number (option_map (λ a. a.epoch) o) n) (live_is setting history d)) ∙ same)
      (λ past live. (within history is).epochs d past (live_is_past (is_up (seen_of steps) d) (past_in steps d) past live))

  -- C8
  pub uncommitted : (history : List Event) → IsAdmitted setting history → IsUncommitted setting (chronicle setting history)
  uncommitted history is = record { devices = none_new; messages = none_ahead }
    where
      steps : List Step
      steps = chronicle setting history

      short : (c : Bool) (n m : ℕ) → c ≡ false → m ≤ reach_of c n → m ≤ n
      short true n m none le = cc
      short false n m none le = le

      none_new : (d : ℕ) → none_is_new (chronicle setting history) d ≡ true
      none_new d =
          from_absurd (not (has_commit (seen_of (chronicle setting history)))) (is_new (chronicle setting history) d)
          (λ none new.
          let le = short (has_commit (seen_of (chronicle setting history))) (era (chronicle setting history)) (era (chronicle setting history) + 1)
          (not-true _ none) (epoch_within history is d (era (chronicle setting history) + 1) new) in
          absurd (omega (arith, le)))

      ahead_by : (c x : Bool) → (c ≡ false → x ≡ true) → (not (not c) || x) ≡ true
      ahead_by true x rest = refl
      ahead_by false x rest = rest refl

      none_ahead : none_sent_ahead (chronicle setting history) ≡ true
      none_ahead =
          ahead_by (has_commit (seen_of (chronicle setting history))) _
          (λ none. all_pass (λ f. nat_le f.message.epoch (era (chronicle setting history))) (flights (chronicle setting history))
          (λ f among. le-leb f.message.epoch (era (chronicle setting history))
          (short (has_commit (seen_of (chronicle setting history))) (era (chronicle setting history)) f.message.epoch none
          ((within history is).messages f among))))
