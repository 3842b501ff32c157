-- C9 c at a receipt: the staged root goes on to act, since it has no given duty and so takes up none; and nobody begins to act by a receipt.
use Rattle.std.specs.Prelude.{◌≡◌, ℕ, Bool, true, false, ◌&&◌, ◌||◌, not, List, ◌∷◌, nat_eq, Option, Some, None, option_map, refl, if◌then◌else◌}
use Rattle.std.proofs.Common.{◌∙◌, ap, sym}
use Rattle.std.proofs.lemmas.Bool.{and_parts, eqb-true, false_from_ne_true, not-true}
use Rattle.sd_num.specs.Lists.{map_or, same_number}
use Rattle.sd_plan.specs.declared.Plan.{Plan}
use Rattle.sd_plan.specs.Plans.{is_member}
use Rattle.sd_device.specs.declared.msg.Message.{Message}
use Rattle.sd_device.specs.declared.msg.Flight.{Flight}
use Rattle.sd_device.specs.Calls as calls
use Rattle.sd_device.specs.Calls.{Call, Transition, Past}
use Rattle.sd_device.specs.Words.{after, given_now, is_acting}
use Rattle.sd_sched.specs.declared.Event.{Event}
use Rattle.sd_sched.specs.declared.Event.TheVariants as event
use Rattle.sd_sched.specs.Events.{joined, is_commit}
use Rattle.sd_history.specs.World.{Setting, is_up, has_commit, is_counted, joined_in_window}
use Rattle.sd_history.specs.Steps.{Calls, Passes, Step, seen_of, flight_numbered, acts_in}
use Rattle.sd_history.specs.Chronicle.{answers_by, past_in, past_after, next_step, chronicle}
use Rattle.sd_safety.specs.invariant.Eras.{plan_now, is_new}
use Rattle.sd_safety.specs.invariant.Clauses.{committer_acts, committer_is_root, staged_root}
use Rattle.sd_safety.specs.invariant.Guarded.{IsSteady}
use Rattle.sd_safety.proofs.invariant.Parents.{live_is}
use Rattle.sd_safety.proofs.invariant.Sides.{implied, not_both}
use Rattle.sd_safety.proofs.timers.Transitions.{by_case}
use Rattle.sd_safety.proofs.windows.Eras.{plan_kept}
use Rattle.sd_safety.proofs.windows.NoClosing.{receipt_closes_none}
use Rattle.sd_safety.proofs.windows.Frames.{in_window_on, staged_on}
use Rattle.sd_safety.proofs.windows.StaysNew.{new_has_none}
use Rattle.sd_safety.proofs.windows.Senders.{NewPast, new_past_of}
use Rattle.sd_safety.proofs.windows.Entering.{turns_none}
use Rattle.sd_safety.proofs.invariant.Opening.{gives}

abbrev is_receipt : Call → Bool
is_receipt (calls.Receive link m counter) = true
is_receipt _ = false

-- who acts after a receipt acted before it
abbrev BeginsNot : Past → Call → Transition → Type 0
BeginsNot past call transition = is_receipt call ≡ true
    → is_acting (record { making = past.making; did = record { call = call; transition = transition } ∷ past.did }) ≡ true → is_acting past ≡ true

acted : (past : Past) (l : ℕ) (m : Message) (c : ℕ) → is_acting (after past (calls.Receive l m c)) ≡ true → is_acting past ≡ true
acted past l m c =
    by_case past (BeginsNot past)
    (record {
      emitted = λ c e is acts. cc;
      took = λ c e t is acts. cc;
      moved = λ c e t m is acts. cc;
      still = λ c e t m is acts. cc;
      entered = λ link message c duty edge is acts. cc;
      accepted = λ link message c edge is acts. acts;
      committed = λ c duty a is acts. cc;
      recommitted = λ c duty a is acts. cc;
      nothing = λ x t is acts. acts;
    }) (calls.Receive l m c) refl

abbrev acts_as : Option Past → Bool
acts_as p = map_or (option_map answers_by p) false (λ a. a.acts)

acts_back : (d x c : ℕ) (up : Bool) (p : Option Past) (o : Option Flight)
    → acts_as (if up then past_after (map_or o Passes (λ f. Calls d (calls.Receive f.link f.message c))) x p else None) ≡ true
    → acts_as (if up then p else None) ≡ true
acts_back d x c false p o is = is
acts_back d x c true p None is = is
acts_back d x c true p (Some f) is = go (nat_eq d x) p is
  where
    go : (b : Bool) (q : Option Past) → acts_as (if b then option_map (λ past. after past (calls.Receive f.link f.message c)) q else q) ≡ true
        → acts_as q ≡ true
    go true None is' = is'
    go true (Some past) is' = acted past f.link f.message c is'
    go false q is' = is'

acts_on : (d x c : ℕ) (up : Bool) (q : Past) (o : Option Flight) → given_now q ≡ None
    → acts_as (if up then past_after (map_or o Passes (λ f. Calls d (calls.Receive f.link f.message c))) x (Some q) else None)
    ≡ acts_as (if up then Some q else None)
acts_on d x c false q o none = refl
acts_on d x c true q None none = refl
acts_on d x c true q (Some f) none = go (nat_eq d x)
  where
    go : (b : Bool) → acts_as (if b then Some (after q (calls.Receive f.link f.message c)) else Some q) ≡ is_acting q
    go true = (turns_none q f.link f.message c none).acts
    go false = refl

module _ (setting : Setting) (r d c k : ℕ) (history : List Event) (clean : IsSteady setting (event.Recv r d c k ∷ history)) where
  shut : (next_step setting (chronicle setting history) (event.Recv r d c k)).seen.closed ≡ false
  shut = receipt_closes_none setting history r d c k

  began_not : (x : ℕ) → acts_in (chronicle setting (event.Recv r d c k ∷ history)) x ≡ true → acts_in (chronicle setting history) x ≡ true
  began_not x acts =
      ap (λ o. map_or o false (λ a. a.acts)) (live_is setting history x)
      ∙ acts_back d x c (is_up (seen_of (chronicle setting history)) x) (past_in (chronicle setting history) x) (flight_numbered (chronicle setting history) k)
      (sym (ap (λ o. map_or o false (λ a. a.acts)) (live_is setting (event.Recv r d c k ∷ history) x)) ∙ acts)

  new_acts : (x : ℕ) → is_new (chronicle setting history) x ≡ true
      → acts_in (chronicle setting (event.Recv r d c k ∷ history)) x ≡ acts_in (chronicle setting history) x
  new_acts x new =
      let of : NewPast (chronicle setting history) x = new_past_of setting history x new in
      ap (λ o. map_or o false (λ a. a.acts)) (live_is setting (event.Recv r d c k ∷ history) x)
      ∙ ap (λ p. acts_as
      (if is_up (seen_of (chronicle setting history)) x then past_after
      (map_or (flight_numbered (chronicle setting history) k) Passes (λ f. Calls d (calls.Receive f.link f.message c))) x p else None)) of.there
      ∙ acts_on d x c (is_up (seen_of (chronicle setting history)) x) of.past (flight_numbered (chronicle setting history) k)
      (new_has_none setting history clean.is.0 x of.past of.there of.epoch)
      ∙ sym (ap (λ p. acts_as (if is_up (seen_of (chronicle setting history)) x then p else None)) of.there)
      ∙ sym (ap (λ o. map_or o false (λ a. a.acts)) (live_is setting history x))

  -- C9 c at a receipt: who acts
  pub receipt_keeps_acting : committer_is_root setting (chronicle setting history) ≡ true → (x : ℕ)
      → committer_acts setting (chronicle setting history) x ≡ true → committer_acts setting (chronicle setting (event.Recv r d c k ∷ history)) x ≡ true
  receipt_keeps_acting root x before =
      gives (has_commit (seen_of (chronicle setting (event.Recv r d c k ∷ history)))
      && is_counted setting (seen_of (chronicle setting (event.Recv r d c k ∷ history))) x) _ shown
    where
      root_same : staged_root setting (chronicle setting (event.Recv r d c k ∷ history)) ≡ staged_root setting (chronicle setting history)
      root_same = ap (λ o. map_or o 0 (λ (plan : Plan). plan.root))
          (staged_on setting (next_step setting (chronicle setting history) (event.Recv r d c k)) (chronicle setting history) shut refl)

      by : (b : Bool) → nat_eq x (staged_root setting (chronicle setting history)) ≡ b → has_commit (seen_of (chronicle setting history)) ≡ true
          → (if b then acts_in (chronicle setting history) x else not (acts_in (chronicle setting history) x)) ≡ true
          → (if b then acts_in (chronicle setting (event.Recv r d c k ∷ history)) x else not (acts_in (chronicle setting (event.Recv r d c k ∷ history)) x))
          ≡ true
      by true is commit acts =
          let new = (and_parts (nat_eq (staged_root setting (chronicle setting history)) _) _
          (implied (has_commit (seen_of (chronicle setting history))) _ root commit)).1 in
          new_acts x (ap (is_new (chronicle setting history)) (eqb-true x _ is) ∙ new) ∙ acts
      by false is commit idle =
          ap not (false_from_ne_true (acts_in (chronicle setting (event.Recv r d c k ∷ history)) x)
          (λ acts. not_both (acts_in (chronicle setting history) x) (began_not x acts) (not-true (acts_in (chronicle setting history) x) idle)))

      shown : (has_commit (seen_of (chronicle setting (event.Recv r d c k ∷ history)))
          && is_counted setting (seen_of (chronicle setting (event.Recv r d c k ∷ history))) x) ≡ true
          → (if nat_eq x (staged_root setting (chronicle setting (event.Recv r d c k ∷ history))) then acts_in
          (chronicle setting (event.Recv r d c k ∷ history)) x else not (acts_in (chronicle setting (event.Recv r d c k ∷ history)) x)) ≡ true
      shown both =
          let s : Step = next_step setting (chronicle setting history) (event.Recv r d c k) in
          let was = sym
          (ap (λ h. h && is_counted setting (seen_of (chronicle setting (event.Recv r d c k ∷ history))) x)
          (in_window_on setting s (chronicle setting history) shut (λ y. is_commit y.event) refl refl)
          ∙ ap (λ (plan : Plan). has_commit (seen_of (chronicle setting history))
          && (is_up (seen_of (chronicle setting history)) x
          && (is_member plan x || joined_in_window (seen_of (chronicle setting (event.Recv r d c k ∷ history))) x)))
          (plan_kept setting s (chronicle setting history) shut)
          ∙ ap (λ j. has_commit (seen_of (chronicle setting history))
          && (is_up (seen_of (chronicle setting history)) x && (is_member (plan_now setting (chronicle setting history)) x || j)))
          (in_window_on setting s (chronicle setting history) shut (λ y. same_number (joined y.event) x) refl refl)) ∙ both in
          ap (λ n. if nat_eq x n then acts_in (chronicle setting (event.Recv r d c k ∷ history)) x else not
          (acts_in (chronicle setting (event.Recv r d c k ∷ history)) x)) root_same
          ∙ by (nat_eq x (staged_root setting (chronicle setting history))) refl (and_parts (has_commit (seen_of (chronicle setting history))) _ was).0
          (implied (has_commit (seen_of (chronicle setting history)) && is_counted setting (seen_of (chronicle setting history)) x) _ before was)
