-- The receipt as an event (C9 d): each new device other than the staged root is on its primary after it, with a new parent, where this held before.
use Rattle.std.specs.Prelude.{◌≡◌, ℕ, ◌<◌, ◌≤◌, Bool, true, false, not, List, ◌∷◌, length, nat_eq, Option, Some, None, option_map, refl, if◌then◌else◌}
use Rattle.std.proofs.Common.{◌∙◌, ap, sym, subst}
use Rattle.std.proofs.lemmas.Bool.{eqb-true, eq-eqb, not-false}
use Rattle.sd_num.specs.Lists.{map_or, same_number}
use Rattle.sd_plan.specs.declared.Duty.{Duty}
use Rattle.sd_plan.specs.declared.Edge.{Edge}
use Rattle.sd_plan.specs.Plans.{is_root}
use Rattle.sd_plan.proofs.Rules.{KeepsRules, keeps_rules}
use Rattle.sd_safety.specs.invariant.Guarded.{IsGuarded, AreGuarded, IsSteady}
use Rattle.sd_device.specs.declared.msg.Flight.{Flight}
use Rattle.sd_device.specs.Calls as calls
use Rattle.sd_device.specs.Calls.{Call, Past}
use Rattle.sd_device.specs.Words.{after, transition_of, taken_up, accepted_over, duty_now, given_now, epoch_now, has_moved, primary_now, backup_now, parent_now}
use Rattle.sd_sched.specs.declared.Event.{Event}
use Rattle.sd_sched.specs.declared.Event.TheVariants as event
use Rattle.sd_history.specs.World.{Setting, is_up, has_commit, staged_epoch, plan_numbered}
use Rattle.sd_history.specs.Steps.{Calls, Passes, Step, seen_of, changed, act_by, flights, flight_numbered, epoch_in}
use Rattle.sd_history.specs.Chronicle.{past_in, past_after, next_step, chronicle}
use Rattle.sd_history.proofs.Among.{found}
use Rattle.sd_history.proofs.Clear.{clear}
use Rattle.sd_history.proofs.Given.{some_is, takes_given}
use Rattle.sd_safety.specs.messages.Moments.{Accepts, entering, following}
use Rattle.sd_safety.proofs.messages.Tails.{history_chronicle}
use Rattle.sd_safety.proofs.messages.Sending.{passes_on, accepted_why}
use Rattle.sd_safety.specs.messages.Hops.{Leads}
use Rattle.sd_safety.proofs.messages.Parents.{planned, accepted_leads}
use Rattle.sd_safety.specs.invariant.Eras.{era, is_new, live_past}
use Rattle.sd_safety.proofs.invariant.Prefix.{clean_before}
use Rattle.sd_safety.proofs.invariant.Sides.{not_both}
use Rattle.sd_history.proofs.Known.{admitted_named_is_known}
use Rattle.sd_safety.proofs.timers.Turns.{after_entering}
use Rattle.sd_safety.specs.windows.Reaching.{reach}
use Rattle.sd_safety.proofs.windows.NoneBeforeCommit.{within}
use Rattle.sd_safety.proofs.windows.NoClosing.{receipt_closes_none}
use Rattle.sd_safety.proofs.windows.Frames.{IsLeft, staged_epoch_on, epoch_on, parent_on, primary_on}
use Rattle.sd_safety.proofs.windows.Committing.{staged_plan, staged_too}
use Rattle.sd_safety.proofs.windows.Closing.{commit_is_open}
use Rattle.sd_safety.proofs.windows.StaysNew.{reached, new_has_none}
use Rattle.sd_safety.proofs.windows.Senders.{NewPast, new_past_of, new_by_past, new_stays, senders_new}
use Rattle.sd_safety.proofs.windows.Leading.{IsLinked}
use Rattle.sd_safety.proofs.windows.Entering.{flights_lead, one_parent, enters_so, TurnsNone, turns_none, linked_by, stands_of, parent_of}

module _ (setting : Setting) (r d c n : ℕ) (history : List Event) (fair : AreGuarded setting) (clean : IsSteady setting (event.Recv r d c n ∷ history))
    (before : (x : ℕ) → is_new (chronicle setting history) x ≡ true → is_root (staged_plan setting (chronicle setting history)) x ≡ false
    → IsLinked (chronicle setting history) x) where
  open_ : (next_step setting (chronicle setting history) (event.Recv r d c n)).seen.closed ≡ false
  open_ = receipt_closes_none setting history r d c n

  staged_same : staged_epoch (seen_of (chronicle setting (event.Recv r d c n ∷ history))) ≡ staged_epoch (seen_of (chronicle setting history))
  staged_same = staged_epoch_on setting (next_step setting (chronicle setting history) (event.Recv r d c n)) (chronicle setting history) open_

  stays : (x : ℕ) → is_new (chronicle setting history) x ≡ true → is_new (chronicle setting (event.Recv r d c n ∷ history)) x ≡ true
  stays = new_stays setting (event.Recv r d c n) history clean open_

  was_other : (x : ℕ) → is_root (staged_plan setting (chronicle setting (event.Recv r d c n ∷ history))) x ≡ false
      → is_root (staged_plan setting (chronicle setting history)) x ≡ false
  was_other x other = sym (ap (λ k. is_root (plan_numbered setting k) x) staged_same) ∙ other

  -- a device that the receipt leaves alone
  left_linked : (x : ℕ) → IsLeft (next_step setting (chronicle setting history) (event.Recv r d c n)) x
      → is_new (chronicle setting (event.Recv r d c n ∷ history)) x ≡ true → is_root (staged_plan setting (chronicle setting history)) x ≡ false
      → IsLinked (chronicle setting (event.Recv r d c n ∷ history)) x
  left_linked x left new other =
      let s : Step = next_step setting (chronicle setting history) (event.Recv r d c n) in
      let was : is_new (chronicle setting history) x ≡ true =
      ap (same_number (epoch_in (chronicle setting history) x)) (sym staged_same)
      ∙ sym (ap (λ o. same_number o (staged_epoch (seen_of (chronicle setting (event.Recv r d c n ∷ history)))))
      (epoch_on s (chronicle setting history) x left)) ∙ new in
      let of : IsLinked (chronicle setting history) x = before x was other in
      record {
        primary = primary_on s (chronicle setting history) x left ∙ of.primary;
        parent = of.parent;
        leads = parent_on s (chronicle setting history) x left ∙ of.leads;
        new = stays of.parent of.new;
      }

  apart_left : (x : ℕ) → nat_eq d x ≡ false → IsLeft (next_step setting (chronicle setting history) (event.Recv r d c n)) x
  apart_left x apart = record { stands = refl; uncalled = by (flight_numbered (chronicle setting history) n) }
    where
      by : (o : Option Flight) → same_number (changed (map_or o Passes (λ f. Calls d (calls.Receive f.link f.message c)))) x ≡ false
      by None = refl
      by (Some f) = apart

  none_left : flight_numbered (chronicle setting history) n ≡ None → IsLeft (next_step setting (chronicle setting history) (event.Recv r d c n)) d
  none_left none =
      record { stands = refl; uncalled = ap (λ o. same_number (changed (map_or o Passes (λ f. Calls d (calls.Receive f.link f.message c)))) d) none }

  -- the device that receives
  module _ (f : Flight) (is : flight_numbered (chronicle setting history) n ≡ Some f) (q : Past) (there : past_in (chronicle setting history) d ≡ Some q)
      (up : is_up (seen_of (chronicle setting history)) d ≡ true) where
    abbrev call : Call
    call = calls.Receive f.link f.message c

    now_there : past_in (chronicle setting (event.Recv r d c n ∷ history)) d ≡ Some (after q (calls.Receive f.link f.message c))
    now_there =
        ap (λ o. past_after (map_or o Passes (λ g. Calls d (calls.Receive g.link g.message c))) d (past_in (chronicle setting history) d)) is
        ∙ ap (λ b. if b then option_map (λ p. after p (calls.Receive f.link f.message c)) (past_in (chronicle setting history) d) else past_in
        (chronicle setting history) d) (eq-eqb d d refl)
        ∙ ap (option_map (λ p. after p (calls.Receive f.link f.message c))) there

    now_live : live_past (chronicle setting (event.Recv r d c n ∷ history)) d ≡ Some (after q (calls.Receive f.link f.message c))
    now_live = ap (λ b. if b then past_in (chronicle setting (event.Recv r d c n ∷ history)) d else None) up ∙ now_there

    was_live : live_past (chronicle setting history) d ≡ Some q
    was_live = ap (λ b. if b then past_in (chronicle setting history) d else None) up ∙ there

    -- it was new before: it stands as it did
    still_linked : is_new (chronicle setting history) d ≡ true → is_root (staged_plan setting (chronicle setting history)) d ≡ false
        → IsLinked (chronicle setting (event.Recv r d c n ∷ history)) d
    still_linked was other =
        let of : IsLinked (chronicle setting history) d = before d was other in
        let own : NewPast (chronicle setting history) d = new_past_of setting history d was in
        let same : own.past ≡ q = some_is (sym own.there ∙ there) in
        let none : given_now q ≡ None = new_has_none setting history clean.is.0 d q there (ap epoch_now (sym same) ∙ own.epoch) in
        let turns : TurnsNone q (calls.Receive f.link f.message c) (transition_of q (calls.Receive f.link f.message c)) =
        turns_none q f.link f.message c none in
        let put = stands_of setting history d q was_live of in
        linked_by setting (event.Recv r d c n ∷ history) d (after q (calls.Receive f.link f.message c)) now_live of.parent (turns.stands ∙ put.0)
        (turns.acts ∙ put.1) (turns.parent ∙ parent_of setting history d q was_live of) (stays of.parent of.new)

    -- it was not: it enters, and its parent is the sender
    module _ (fresh : is_new (chronicle setting history) d ≡ false) (new : is_new (chronicle setting (event.Recv r d c n ∷ history)) d ≡ true) where
      not_staged : epoch_now q ≡ staged_epoch (seen_of (chronicle setting history)) → ⊥
      not_staged epoch =
          not_both (is_new (chronicle setting history) d) (new_by_past setting history d (record { past = q; up = up; there = there; epoch = epoch })) fresh

      now_epoch : epoch_now (after q (calls.Receive f.link f.message c)) ≡ staged_epoch (seen_of (chronicle setting history))
      now_epoch =
          let own : NewPast (chronicle setting (event.Recv r d c n ∷ history)) d = new_past_of setting (event.Recv r d c n ∷ history) d new in
          ap epoch_now (some_is (sym now_there ∙ own.there)) ∙ own.epoch ∙ staged_same

      -- the message is of the staged epoch where it is accepted
      sender_new : f.message.epoch ≡ staged_epoch (seen_of (chronicle setting history))
          → is_new (chronicle setting (event.Recv r d c n ∷ history)) f.sender ≡ true
      sender_new epoch =
          stays f.sender
          (senders_new setting history (clean_before setting (event.Recv r d c n) history clean) f
          (found (λ g. nat_eq g.number n) f (flights (chronicle setting history)) is) epoch)

      receiver_is : f.receiver ≡ d
      receiver_is =
          by (flight_numbered (chronicle setting history) n) is
          (clear setting (chronicle setting history) (event.Recv r d c n) clean.is.1).right_device
        where
          by : (o : Option Flight) → o ≡ Some f → map_or o false (λ g. not (same_number (Some d) g.receiver)) ≡ false → f.receiver ≡ d
          by None same right = cc
          by (Some g) same right = ap (λ (h : Flight). h.receiver) (sym (some_is same)) ∙ sym (eqb-true d g.receiver (not-false (nat_eq d g.receiver) right))

      entered_linked : IsLinked (chronicle setting (event.Recv r d c n ∷ history)) d
      entered_linked = by_taken (taken_up (transition_of q (calls.Receive f.link f.message c))) refl
        where
          by_accepted : (u : Duty) (edge : Edge) → transition_of q (calls.Receive f.link f.message c) ≡ calls.Entered u edge → given_now q ≡ Some u
              → Accepts q f.message edge → edge.link ≡ f.link
              → f.message.epoch ≡ staged_epoch (seen_of (chronicle setting history)) → IsLinked (chronicle setting (event.Recv r d c n ∷ history)) d
          by_accepted u edge transition given (following same parent newer) link epoch = absurd (not_staged (same ∙ epoch))
          by_accepted u edge transition given (entering duty has same primary) link epoch =
              let stood = after_entering q (calls.Receive f.link f.message c) u edge transition in
              let edge_is : u.primary ≡ Some edge = ap (λ (v : Duty). v.primary) (some_is (sym given ∙ has)) ∙ primary in
              let parent : parent_now (after q (calls.Receive f.link f.message c)) ≡ Some edge.parent =
              ap (λ b. option_map (λ (g : Edge). g.parent)
              (if b then None else if has_moved (after q (calls.Receive f.link f.message c)) then backup_now
              (after q (calls.Receive f.link f.message c)) else primary_now (after q (calls.Receive f.link f.message c)))) stood.acts_not
              ∙ ap (λ b. option_map (λ (g : Edge). g.parent)
              (if b then backup_now (after q (calls.Receive f.link f.message c)) else primary_now (after q (calls.Receive f.link f.message c))))
              stood.unmoved
              ∙ ap (λ x. option_map (λ (g : Edge). g.parent)
              (primary_now (record { making = q.making; did = record { call = calls.Receive f.link f.message c; transition = x } ∷ q.did }))) transition
              ∙ ap (option_map (λ (g : Edge). g.parent)) edge_is in
              let one : Leads (plan_numbered setting f.message.epoch) d edge.parent edge.link =
              accepted_leads setting d q f.message edge (planned setting (chronicle setting history) d q (history_chronicle setting history clean.is.0) there)
              (entering duty has same primary) in
              let two : Leads (plan_numbered setting f.message.epoch) f.receiver f.sender f.link =
              flights_lead setting history f (found (λ g. nat_eq g.number n) f (flights (chronicle setting history)) is) in
              let commit : has_commit (seen_of (chronicle setting history)) ≡ true =
              reached (has_commit (seen_of (chronicle setting history))) (era (chronicle setting history))
              (subst (λ k. k ≤ reach (chronicle setting history)) epoch
              ((within setting history clean.is.0).messages f (found (λ g. nat_eq g.number n) f (flights (chronicle setting history)) is))) in
              let guarded : IsGuarded setting.net (staged_plan setting (chronicle setting history)) =
              staged_too (IsGuarded setting.net) setting history fair.guarded clean.is.0 (commit_is_open (seen_of (chronicle setting history)) commit) in
              let rules : KeepsRules setting.net (plan_numbered setting f.message.epoch) =
              subst (λ k. KeepsRules setting.net (plan_numbered setting k)) (sym epoch)
              (keeps_rules setting.net (staged_plan setting (chronicle setting history)) guarded.structure) in
              let known : d < length setting.net.devices = admitted_named_is_known setting (chronicle setting history) (event.Recv r d c n) d clean.is.1 refl in
              let same_parent : edge.parent ≡ f.sender =
              one_parent setting.net (plan_numbered setting f.message.epoch) d edge.parent f.sender f.link rules known
              (subst (λ l. Leads (plan_numbered setting f.message.epoch) d edge.parent l) link one)
              (subst (λ x. Leads (plan_numbered setting f.message.epoch) x f.sender f.link) receiver_is two) in
              linked_by setting (event.Recv r d c n ∷ history) d (after q (calls.Receive f.link f.message c)) now_live f.sender stood.unmoved stood.acts_not
              (parent ∙ ap Some same_parent) (sender_new epoch)

          by_taken : (t : Option Duty) → taken_up (transition_of q (calls.Receive f.link f.message c)) ≡ t
              → IsLinked (chronicle setting (event.Recv r d c n ∷ history)) d
          by_taken None takes =
              absurd (not_staged (sym (ap (λ o. map_or (map_or (option_map Some o) (duty_now q) (λ told. told)) 0 (λ u. u.epoch)) takes) ∙ now_epoch))
          by_taken (Some u) takes =
              let entered = enters_so q (calls.Receive f.link f.message c) u refl takes in
              let over : accepted_over (transition_of q (calls.Receive f.link f.message c)) ≡ Some entered.0 = ap accepted_over entered.1 in
              let why = accepted_why q f.link f.message c entered.0 over in
              by_accepted u entered.0 entered.1 (takes_given q (calls.Receive f.link f.message c) u takes) why.0 why.1
              (sym (passes_on q f.link f.message c entered.0 over).1 ∙ now_epoch)

  -- C9 d after the receipt
  pub linked_now : (x : ℕ) → is_new (chronicle setting (event.Recv r d c n ∷ history)) x ≡ true
      → is_root (staged_plan setting (chronicle setting (event.Recv r d c n ∷ history))) x ≡ false
      → IsLinked (chronicle setting (event.Recv r d c n ∷ history)) x
  linked_now x new other = go (nat_eq d x) refl
    where
      receives : (o : Option Flight) → flight_numbered (chronicle setting history) n ≡ o → is_new (chronicle setting (event.Recv r d c n ∷ history)) d ≡ true
          → is_root (staged_plan setting (chronicle setting history)) d ≡ false
          → IsLinked (chronicle setting (event.Recv r d c n ∷ history)) d
      receives None is new' other' = left_linked d (none_left is) new' other'
      receives (Some f) is new' other' = by_past (past_in (chronicle setting history) d) refl
        where
          own : NewPast (chronicle setting (event.Recv r d c n ∷ history)) d
          own = new_past_of setting (event.Recv r d c n ∷ history) d new'

          by_past : (p : Option Past) → past_in (chronicle setting history) d ≡ p → IsLinked (chronicle setting (event.Recv r d c n ∷ history)) d
          by_past None none =
              absurd (never (ap (past_after (act_by setting (chronicle setting history) (event.Recv r d c n)) d) none
              ∙ empty (flight_numbered (chronicle setting history) n)) own.there)
            where
              never : {o : Option Past} {p : Past} → o ≡ None → o ≡ Some p → ⊥
              never gone some = cc

              off : (b : Bool) (k : Call) → (if b then option_map (λ p. after p k) None else None) ≡ None
              off true k = refl
              off false k = refl

              empty : (o : Option Flight) → past_after (map_or o Passes (λ g. Calls d (calls.Receive g.link g.message c))) d None ≡ None
              empty None = refl
              empty (Some g) = off (nat_eq d d) (calls.Receive g.link g.message c)
          by_past (Some q) there = by_new (is_new (chronicle setting history) d) refl
            where
              by_new : (b : Bool) → is_new (chronicle setting history) d ≡ b → IsLinked (chronicle setting (event.Recv r d c n ∷ history)) d
              by_new true was = still_linked f is q there own.up was other'
              by_new false was = entered_linked f is q there own.up was new'

      go : (b : Bool) → nat_eq d x ≡ b → IsLinked (chronicle setting (event.Recv r d c n ∷ history)) x
      go false apart = left_linked x (apart_left x apart) new (was_other x other)
      go true here =
          subst (IsLinked (chronicle setting (event.Recv r d c n ∷ history))) (eqb-true d x here)
          (receives (flight_numbered (chronicle setting history) n) refl
          (ap (is_new (chronicle setting (event.Recv r d c n ∷ history))) (eqb-true d x here) ∙ new)
          (ap (is_root (staged_plan setting (chronicle setting history))) (eqb-true d x here) ∙ was_other x other))
