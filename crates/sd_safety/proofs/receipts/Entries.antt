-- A receipt with which a device takes up the staged plan keeps the core. There is a commit, since the message is of that plan; the device was old or blank,
-- since its duty was
-- given to it in the window, and did not act, since the one device that acts has entered already. With the fields of C9 from the crate on windows, and what
-- stood on the
-- path of the backup root, each receipt keeps the core.
use Rattle.std.specs.Prelude.{◌≡◌, ℕ, ◌+◌, ◌*◌, ◌≤◌, Bool, true, false, ◌&&◌, ◌||◌, not, List, ◌∷◌, length, nat_eq, nat_lt, Option, Some, None, option_map, refl, ◌⊎◌, if◌then◌else◌}
use Rattle.std.proofs.Common.{arith, ◌∙◌, ap, sym, subst, inl, inr}
use Rattle.std.proofs.lemmas.Bool.{and_parts, and_from, eqb-true, eq-eqb, false_from_ne_true, lt-ltb, or_cases}
use Rattle.sd_num.specs.Lists.{map_or, same_number}
use Rattle.sd_plan.specs.declared.Duty.{Duty}
use Rattle.sd_plan.specs.declared.Edge.{Edge}
use Rattle.sd_plan.specs.declared.Plan.{Plan}
use Rattle.sd_plan.specs.Plans.{is_member}
use Rattle.sd_device.specs.declared.msg.Flight.{Flight}
use Rattle.sd_device.specs.Calls as calls
use Rattle.sd_device.specs.Calls.{Call, Past}
use Rattle.sd_device.specs.Words.{after, transition_of, taken_up, accepted_over, duty_now, epoch_now}
use Rattle.sd_sched.specs.declared.Event.{Event}
use Rattle.sd_sched.specs.declared.Event.TheVariants as event
use Rattle.sd_history.specs.World.{Setting, is_up, has_commit, staged_epoch, staged, is_counted, joined_in_window}
use Rattle.sd_history.specs.Steps.{Calls, Passes, Answers, Step, seen_of, acts_in, epoch_in, given_in, flights, flight_numbered}
use Rattle.sd_history.specs.Chronicle.{answers_by, past_in, past_after, chronicle}
use Rattle.sd_history.proofs.Among.{found}
use Rattle.sd_history.proofs.Given.{takes_given}
use Rattle.sd_history.proofs.Known.{admitted_named_is_known}
use Rattle.sd_safety.specs.invariant.Bounds.{depth, delay, rounds_gap}
use Rattle.sd_safety.specs.invariant.Eras.{era, plan_now, is_old, is_new, is_blank, live_past, will_belong}
use Rattle.sd_safety.specs.invariant.Clauses.{member_entered, staged_root, commit_at}
use Rattle.sd_safety.specs.invariant.Invariant.{Core, IsCommitted}
use Rattle.sd_safety.specs.invariant.Silences.{EntersSoon}
use Rattle.sd_safety.specs.invariant.Coming.{IsNextEvent, AtNext}
use Rattle.sd_safety.specs.invariant.Kept.{Keeps}
use Rattle.sd_safety.proofs.invariant.Empty.{core_before}
use Rattle.sd_safety.proofs.invariant.Opening.{gives}
use Rattle.sd_safety.proofs.invariant.Parents.{live_is}
use Rattle.sd_safety.proofs.invariant.Prefix.{clean_before}
use Rattle.sd_safety.proofs.invariant.Sides.{implied, not_both}
use Rattle.sd_safety.proofs.invariant.Staying.{old_is_member}
use Rattle.sd_safety.proofs.timers.Turns.{after_entering}
use Rattle.sd_safety.proofs.messages.Sending.{passes_on}
use Rattle.sd_safety.specs.windows.Reaching.{reach}
use Rattle.sd_safety.proofs.windows.NoneBeforeCommit.{within}
use Rattle.sd_safety.proofs.windows.StaysNew.{reached}
use Rattle.sd_safety.proofs.windows.Senders.{new_stays}
use Rattle.sd_safety.proofs.windows.NoClosing.{receipt_closes_none}
use Rattle.sd_safety.proofs.windows.Receivers.{receipt_keeps_entering}
use Rattle.sd_safety.proofs.windows.Roles.{receipt_keeps_committer}
use Rattle.sd_safety.proofs.windows.Actors.{receipt_keeps_acting}
use Rattle.sd_safety.proofs.windows.Linked.{receipt_keeps_linked}
use Rattle.sd_safety.specs.frame.Receipts.{transition_of_receipt, KeepsEntering}
use Rattle.sd_safety.specs.frame.Frames.{IsPlain, IsAlike}
use Rattle.sd_safety.proofs.frame.ElsewhereSteps.{heard_alone}
use Rattle.sd_safety.proofs.frame.PlainSteps.{untouched_kept, staged_kept, commit_at_kept}
use Rattle.sd_safety.proofs.frame.Steps.{elsewhere, alike_plain, alike_elsewhere}
use Rattle.sd_safety.proofs.frame.LeftOut.{left_out_kept}
use Rattle.sd_safety.proofs.frame.Turning.{GoesOn, Turns, turn_keeps}
use Rattle.sd_safety.proofs.frame.Idles.{step_at, caller_is_up}
use Rattle.sd_safety.proofs.frame.Shadows.{receive_from_standing}
use Rattle.sd_safety.proofs.moves.Ahead.{IsAhead, always_ahead}
use Rattle.sd_safety.proofs.receipts.Stood.{stood_then}

-- the number of the next plan is neither that of this one nor 0
pub next_is_not_this : (o : Option ℕ) (n : ℕ) → same_number o (n + 1) ≡ true → same_number o n ≡ false
next_is_not_this None n is = cc
next_is_not_this (Some m) n is = false_from_ne_true (nat_eq m n) (λ same. apart m n (eqb-true m (n + 1) is) (eqb-true m n same))
  where
    apart : (a b : ℕ) → a ≡ b + 1 → a ≡ b → ⊥
    apart a b one two = omega (arith, one, two)

pub next_is_not_none : (o : Option ℕ) (n : ℕ) → same_number o (n + 1) ≡ true → same_number o 0 ≡ false
next_is_not_none None n is = cc
next_is_not_none (Some m) n is = false_from_ne_true (nat_eq m 0) (λ same. apart m n (eqb-true m (n + 1) is) (eqb-true m 0 same))
  where
    apart : (a b : ℕ) → a ≡ b + 1 → a ≡ 0 → ⊥
    apart a b one two = omega (arith, one, two)

-- what a receipt that enters shows: its flight, and the past of its device
pub record IsEntry (steps : List Step) (d c n : ℕ) (duty : Duty) (edge : Edge) : Type 0 where
  pub flight : Flight
  pub known : flight_numbered steps n ≡ Some flight
  pub past : Past
  pub there : past_in steps d ≡ Some past
  pub did : transition_of past (calls.Receive flight.link flight.message c) ≡ calls.Entered duty edge

entry_of : (steps : List Step) (d c n : ℕ) (duty : Duty) (edge : Edge) → transition_of_receipt steps d c n ≡ calls.Entered duty edge
    → IsEntry steps d c n duty edge
entry_of steps d c n duty edge what = go (flight_numbered steps n) (past_in steps d) refl refl what
  where
    go : (o : Option Flight) (p : Option Past) → flight_numbered steps n ≡ o → past_in steps d ≡ p
        → map_or o calls.Nothing (λ f. map_or p calls.Nothing (λ past. transition_of past (calls.Receive f.link f.message c))) ≡ calls.Entered duty edge
        → IsEntry steps d c n duty edge
    go None p is there did = cc
    go (Some f) None is there did = cc
    go (Some f) (Some past) is there did = record { flight = f; known = is; past = past; there = there; did = did }

old_or_blank : (new old blank given : Bool) → (new || ((old || blank) && given)) ≡ true → new ≡ false → (old || blank) ≡ true
old_or_blank true old blank given is none = cc
old_or_blank false true blank given is none = refl
old_or_blank false false true given is none = refl
old_or_blank false false false given is none = cc

acts_none_by : (b acts : Bool) → (if b then acts else not acts) ≡ true → b ≡ false → acts ≡ false
acts_none_by true acts is none = cc
acts_none_by false true is none = cc
acts_none_by false false is none = refl

module _ {setting : Setting} (enters : AtNext EntersSoon setting) (r d c n : ℕ) (history : List Event) (comes : IsNextEvent setting history (event.Recv r d c n))
    (duty : Duty) (edge : Edge) (entry : IsEntry (chronicle setting history) d c n duty edge) where
  abbrev e : Event
  e = event.Recv r d c n

  abbrev one : List Step
  one = chronicle setting history

  abbrev two : List Step
  two = chronicle setting (event.Recv r d c n ∷ history)

  abbrev s : Step
  s = step_at setting history (event.Recv r d c n)

  abbrev call : Call
  call = calls.Receive entry.flight.link entry.flight.message c

  core : Core setting (chronicle setting history)
  core = core_before setting history (event.Recv r d c n) comes

  plain : IsPlain (step_at setting history (event.Recv r d c n))
  plain = record { stays = receipt_closes_none setting history r d c n; unstaged = refl; uncommitted = refl; unjoined = refl; unfailed = refl; unmended = refl }

  alike : IsAlike setting (chronicle setting history) (chronicle setting (event.Recv r d c n ∷ history))
  alike = alike_plain setting one s plain

  same_plan : staged setting (seen_of (chronicle setting (event.Recv r d c n ∷ history))) ≡ staged setting (seen_of (chronicle setting history))
  same_plan = staged_kept setting one s plain.stays refl

  up : is_up (seen_of (chronicle setting history)) d ≡ true
  up = caller_is_up setting history (event.Recv r d c n) d comes.clean.is.1 refl refl

  taken : taken_up (transition_of entry.past (calls.Receive entry.flight.link entry.flight.message c)) ≡ Some duty
  taken = ap taken_up entry.did

  ahead : IsAhead setting (chronicle setting history) d entry.past duty
  ahead = always_ahead setting history comes.fair (clean_before setting e history comes.clean) comes.before d entry.past up entry.there duty
      (takes_given entry.past call duty taken)

  -- it follows the staged plan now
  epoch_now_is : epoch_now (after entry.past (calls.Receive entry.flight.link entry.flight.message c)) ≡ era (chronicle setting history) + 1
  epoch_now_is = ap (λ o. map_or (map_or (option_map Some o) (duty_now entry.past) (λ told. told)) 0 (λ (u : Duty). u.epoch)) taken ∙ ahead.number

  live_now : live_past (chronicle setting (event.Recv r d c n ∷ history)) d ≡ Some (after entry.past (calls.Receive entry.flight.link entry.flight.message c))
  live_now =
      ap (λ b. if b then past_in two d else None) up
      ∙ ap (λ o. past_after (map_or o Passes (λ g. Calls d (calls.Receive g.link g.message c))) d (past_in one d)) entry.known
      ∙ ap (λ b. if b then option_map (λ p. after p call) (past_in one d) else past_in one d) (eq-eqb d d refl)
      ∙ ap (option_map (λ p. after p call)) entry.there

  live_then : live_past (chronicle setting history) d ≡ Some entry.past
  live_then = ap (λ b. if b then past_in one d else None) up ∙ entry.there

  epoch_then : epoch_in (chronicle setting history) d ≡ Some (epoch_now entry.past)
  epoch_then = ap (λ (o : Option Answers). option_map (λ a. a.epoch) o) (live_is setting history d)
      ∙ ap (λ (o : Option Past). option_map (λ a. a.epoch) (option_map answers_by o)) live_then

  epoch_here : epoch_in (chronicle setting (event.Recv r d c n ∷ history)) d
      ≡ Some (epoch_now (after entry.past (calls.Receive entry.flight.link entry.flight.message c)))
  epoch_here = ap (λ (o : Option Answers). option_map (λ a. a.epoch) o) (live_is setting (e ∷ history) d)
      ∙ ap (λ (o : Option Past). option_map (λ a. a.epoch) (option_map answers_by o)) live_now

  new_here : is_new (chronicle setting (event.Recv r d c n ∷ history)) d ≡ true
  new_here =
      ap (λ o. same_number o (staged_epoch (seen_of two))) epoch_here
      ∙ eq-eqb (epoch_now (after entry.past call)) (staged_epoch (seen_of two)) (epoch_now_is ∙ sym (ap (λ k. k + 1) alike.era_is))

  not_new : is_new (chronicle setting history) d ≡ false
  not_new =
      false_from_ne_true (is_new one d)
      (λ is. ahead.other (eqb-true (epoch_now entry.past) (era one + 1) (sym (ap (λ o. same_number o (era one + 1)) epoch_then) ∙ is)))

  -- the message is of the staged plan, so there is a commit
  commit : has_commit (seen_of (chronicle setting history)) ≡ true
  commit =
      let over : accepted_over (transition_of entry.past call) ≡ Some edge = ap accepted_over entry.did in
      let number : entry.flight.message.epoch ≡ era one + 1 = sym (passes_on entry.past entry.flight.link entry.flight.message c edge over).1 ∙ epoch_now_is in
      reached (has_commit (seen_of one)) (era one)
      (subst (λ k. k ≤ reach one) number
      ((within setting history comes.clean.is.0).messages entry.flight (found (λ g. nat_eq g.number n) entry.flight (flights one) entry.known)))

  -- it was old or blank
  was : (is_old (chronicle setting history) d || is_blank (chronicle setting history) d) ≡ true
  was =
      let known : nat_lt d (length setting.net.devices) ≡ true = lt-ltb d (length setting.net.devices) (admitted_named_is_known setting one e d comes.clean.is.1 refl) in
      old_or_blank (is_new one d) (is_old one d) (is_blank one d) (same_number (given_in one d) (staged_epoch (seen_of one)))
      (implied (has_commit (seen_of one) && will_belong setting one d) _ (core.committed.entering d)
      (and_from (has_commit (seen_of one)) (will_belong setting one d) commit (and_from (nat_lt d (length setting.net.devices)) _ known ahead.member))) not_new

  -- and did not act
  idle_if_old : is_old (chronicle setting history) d ≡ true → acts_in (chronicle setting history) d ≡ false
  idle_if_old old =
      let member : is_member (plan_now setting one) d ≡ true = old_is_member setting one d (core.census.outsiders d) old in
      let counted : is_counted setting (seen_of one) d ≡ true =
      and_from (is_up (seen_of one) d) (is_member (plan_now setting one) d || joined_in_window (seen_of one) d) up
      (ap (λ b. b || joined_in_window (seen_of one) d) member) in
      let acting =
      implied (has_commit (seen_of one) && is_counted setting (seen_of one) d) _ (core.committed.acting d)
      (and_from (has_commit (seen_of one)) (is_counted setting (seen_of one) d) commit counted) in
      let root_new : is_new one (staged_root setting one) ≡ true =
      (and_parts (nat_eq (staged_root setting one) _) _ (implied (has_commit (seen_of one)) _ core.committed.committer commit)).1 in
      acts_none_by (nat_eq d (staged_root setting one)) (acts_in one d) acting
      (false_from_ne_true (nat_eq d (staged_root setting one))
      (λ is. not_both (is_new one d) (ap (is_new one) (eqb-true d (staged_root setting one) is) ∙ root_new) not_new))

  idle_if_blank : (blank some acts : Bool) → (not blank || (not some && not acts)) ≡ true → blank ≡ true → acts ≡ false
  idle_if_blank true true acts is b = cc
  idle_if_blank true false true is b = cc
  idle_if_blank true false false is b = refl
  idle_if_blank false some acts is b = cc

  idle_then : acts_in (chronicle setting history) d ≡ false
  idle_then = elim (or_cases (is_old one d) (is_blank one d) was) [
    | inl old ↦ idle_if_old old
    | inr blank ↦ idle_if_blank (is_blank one d) _ (acts_in one d) (core.census.blanks d) blank
  ]

  idle_here : acts_in (chronicle setting (event.Recv r d c n ∷ history)) d ≡ false
  idle_here =
      ap (λ (o : Option Answers). map_or o false (λ a. a.acts)) (live_is setting (e ∷ history) d)
      ∙ ap (λ (o : Option Past). map_or (option_map answers_by o) false (λ a. a.acts)) live_now
      ∙ (after_entering entry.past call duty edge entry.did).acts_not

  turns : Turns (chronicle setting history) (chronicle setting (event.Recv r d c n ∷ history)) d
  turns =
      record {
        up_is = refl;
        untouched_is = untouched_kept one s d refl refl;
        was = was;
        old = ap (same_number (epoch_in two d)) alike.era_is
            ∙ next_is_not_this (epoch_in two d) (era one) (sym (ap (λ k. same_number (epoch_in two d) (k + 1)) alike.era_is) ∙ new_here);
        new = new_here;
        blank = next_is_not_none (epoch_in two d) (era two) new_here;
        acts_is = idle_here ∙ sym idle_then;
      }

  each : (x : ℕ) → GoesOn (chronicle setting history) (chronicle setting (event.Recv r d c n ∷ history)) x
      ⊎ Turns (chronicle setting history) (chronicle setting (event.Recv r d c n ∷ history)) x
  each x = by (nat_eq d x) refl
    where
      by : (b : Bool) → nat_eq d x ≡ b → GoesOn (chronicle setting history) (chronicle setting (event.Recv r d c n ∷ history)) x
          ⊎ Turns (chronicle setting history) (chronicle setting (event.Recv r d c n ∷ history)) x
      by true is = inr (subst (Turns one two) (eqb-true d x is) turns)
      by false other =
          inl (record {
            alike = alike_elsewhere setting one s x (elsewhere setting one e x other);
            heard_is = heard_alone one s x (elsewhere setting one e x other);
          })

  -- C9 b: who was to be new by now is
  entered : (x : ℕ) → member_entered setting (chronicle setting (event.Recv r d c n ∷ history)) x ≡ true
  entered x =
      gives (has_commit (seen_of two) && will_belong setting two x && nat_lt (commit_at two + rounds_gap setting.net + depth setting.net * delay setting.net) r)
      (is_new two x)
      (λ all.
      new_stays setting e history comes.clean plain.stays x
      (implied (has_commit (seen_of one) && will_belong setting one x
      && nat_lt (commit_at one + rounds_gap setting.net + depth setting.net * delay setting.net) r) (is_new one x) (enters history e comes x)
      (sym
      (ap (λ h. h && will_belong setting two x && nat_lt (commit_at two + rounds_gap setting.net + depth setting.net * delay setting.net) r) alike.commit_is
      ∙ ap (λ (o : Option Plan). has_commit (seen_of one) && (nat_lt x (length setting.net.devices) && map_or o false (λ p. is_member p x))
      && nat_lt (commit_at two + rounds_gap setting.net + depth setting.net * delay setting.net) r) same_plan
      ∙ ap (λ k. has_commit (seen_of one) && will_belong setting one x && nat_lt (k + rounds_gap setting.net + depth setting.net * delay setting.net) r)
      (commit_at_kept setting one s plain.stays refl refl)) ∙ all)))

  committed : IsCommitted setting (chronicle setting (event.Recv r d c n ∷ history))
  committed =
      record {
        entering = λ x. receipt_keeps_entering setting r d c n history comes.clean x (core.committed.entering x);
        entered = entered;
        committer = receipt_keeps_committer setting r d c n history comes.clean core.committed.committer;
        acting = λ x. receipt_keeps_acting setting r d c n history comes.clean core.committed.committer x (core.committed.acting x);
        linked = receipt_keeps_linked setting r d c n history comes.fair comes.clean (λ x up_. core.committed.linked x);
        left_out =
            left_out_kept setting e history comes.fair comes.clean core alike.era_is alike.failed_is alike.commit_is same_plan (λ x. refl)
            (λ x. untouched_kept one s x refl refl);
      }

  pub entry_keeps : Core setting (chronicle setting (event.Recv r d c n ∷ history))
  entry_keeps =
      turn_keeps setting e history comes.fair comes.clean core alike.era_is alike.failed_is (alike.commit_is ∙ commit) alike.joined_is
      (λ l. refl) each committed plain.stays

pub keeps_entering : {setting : Setting} → AtNext EntersSoon setting → KeepsEntering setting
keeps_entering {setting} enters r d c n history comes duty edge what =
    entry_keeps enters r d c n history comes duty edge (entry_of (chronicle setting history) d c n duty edge what)

-- so each receipt keeps the core
pub receive : {setting : Setting} → AtNext EntersSoon setting → (r d c n : ℕ) → Keeps setting (event.Recv r d c n)
receive {setting} enters = receive_from_standing enters (stood_then setting) (keeps_entering enters)
