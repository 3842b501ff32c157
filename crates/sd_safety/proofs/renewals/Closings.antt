-- A closing keeps the core: what the new era begins with. Its members are up, follow its plan, are sealed, and stand on their primaries, or act as root (C10);
-- nothing failed in
-- it yet; who is up and no member was left out, and is past; and the devices above the new backup root heard at most H * D before it, since the round that it
-- heard last came
-- down its path, and nobody of that path has moved in this plan.
use Rattle.std.specs.Prelude.{◌≡◌, ℕ, ◌+◌, ◌*◌, ◌<◌, ◌≤◌, Bool, true, false, ◌&&◌, ◌||◌, not, List, [], ◌∷◌, length, map, max, nat_eq, nat_lt, Option, Some, None, is_some, option_map, refl, if◌then◌else◌}
use Rattle.std.specs.List.{list_any}
use Rattle.std.proofs.Common.{arith, ◌∙◌, ap, sym, subst}
use Rattle.std.proofs.lemmas.Bool.{and_parts, and_from, or_left, or_right, eqb-true, eq-eqb, false_from_ne_true, lt-ltb, le-leb, not-true}
use Rattle.sd_num.specs.Lists.{map_or, same_number, has}
use Rattle.sd_plan.specs.topo.Network.{greatest_delay}
use Rattle.sd_plan.specs.declared.topo.Thing.TheVariants as thing
use Rattle.sd_plan.specs.declared.Hop as declared
use Rattle.sd_plan.specs.declared.Plan.{Plan}
use Rattle.sd_plan.specs.Plans.{is_member, is_present, is_root}
use Rattle.sd_plan.specs.Walks.{hops, walk}
use Rattle.sd_num.proofs.Shared.{unequal_swap}
use Rattle.sd_device.specs.Calls as calls
use Rattle.sd_device.specs.Calls.{Past}
use Rattle.sd_device.specs.Words.{epoch_now, has_moved, is_acting}
use Rattle.sd_sched.specs.declared.Event.{Event}
use Rattle.sd_sched.specs.declared.Event.TheVariants as event
use Rattle.sd_sched.specs.Events.{joined, is_commit}
use Rattle.sd_history.specs.World.{Setting, Seen, is_up, has_ever_failed, is_untouched, link_has_failed, window, has_commit, is_staged_member, is_counted, joined_in_window, plan_numbered}
use Rattle.sd_history.specs.Steps.{Step, seen_of, live_answers, acts_in, parent_in, epoch_in, has_settled}
use Rattle.sd_history.specs.Chronicle.{past_in, chronicle, next_step}
use Rattle.sd_history.proofs.Known.{admitted_up_is_known}
use Rattle.sd_history.proofs.Shared.{up_made}
use Rattle.sd_safety.specs.invariant.Bounds.{depth, delay, tick_gap}
use Rattle.sd_safety.specs.invariant.Eras.{era, plan_now, failed_now, device_failed_now, link_failed_now, is_among, is_old, is_new, is_blank, is_past, belongs, on_primary, hears, heard_at}
use Rattle.sd_safety.specs.invariant.Clauses.{just_closed, is_beginning, was_touched, member_is_up, member_follows, returned_is_joined, outsider_is_past, counted_is_current, blank_is_idle, link_is_sound, above_backup_root, backup_root_stays, shadow_is_short}
use Rattle.sd_safety.specs.invariant.Invariant.{Core, IsClosed, IsUncommitted}
use Rattle.sd_safety.specs.invariant.Silences.{AreSilent}
use Rattle.sd_safety.specs.invariant.Guarded.{IsSteady}
use Rattle.sd_safety.specs.invariant.Coming.{IsNextEvent}
use Rattle.sd_safety.specs.invariant.Kept.{KeepsSeal}
use Rattle.sd_safety.proofs.invariant.Empty.{core_before}
use Rattle.sd_safety.proofs.invariant.Facts.{IsSound, sound_now}
use Rattle.sd_safety.proofs.invariant.Opening.{none_failed, gives, roles_begin, backups_begin, move_begins, takeover_begins, path_begins}
use Rattle.sd_safety.proofs.invariant.Prefix.{clean_before}
use Rattle.sd_safety.proofs.invariant.Sides.{implied, not_both}
use Rattle.sd_safety.proofs.waits.Beginning.{quiet, still}
use Rattle.sd_safety.specs.messages.Moments.{Tail, whole, behind, Moment, upto, when, IsIn}
use Rattle.sd_safety.specs.messages.Traces.{Traced}
use Rattle.sd_safety.proofs.messages.Tails.{tail_trans, tail_chronicle, history_chronicle}
use Rattle.sd_safety.proofs.messages.Tracing.{accepted_traced}
use Rattle.sd_safety.proofs.invariant.Parts.{premises_of}
use Rattle.sd_safety.proofs.silences.Phases.{era_grows}
use Rattle.sd_safety.specs.windows.Standing.{HasEntered}
use Rattle.sd_safety.proofs.windows.NoneBeforeCommit.{uncommitted}
use Rattle.sd_safety.proofs.windows.Senders.{NewPast, new_past_of}
use Rattle.sd_safety.proofs.windows.Closing.{epoch_up, commit_is_open, committed, era_is, settled_epoch}
use Rattle.sd_safety.proofs.windows.Committing.{staged_some}
use Rattle.sd_safety.proofs.windows.Linked.{closing_begins}
use Rattle.sd_safety.proofs.windows.Sealing.{heard_sealed}
use Rattle.sd_safety.specs.frame.Frames.{IsAlikeAt}
use Rattle.sd_safety.specs.frame.Descents.{TakesFromAbove}
use Rattle.sd_safety.proofs.frame.Core.{committed_none}
use Rattle.sd_safety.proofs.frame.QuietCalls.{alike_called, seal_turns_nothing}
use Rattle.sd_safety.proofs.frame.Climbing.{Took, climb, heard_by_receipt, rises_on}
use Rattle.sd_safety.proofs.frame.Descending.{takes_from_above}
use Rattle.sd_safety.proofs.frame.Telling.{links_tell}
use Rattle.sd_safety.proofs.receipts.Alive.{WasAlive, was_alive, IsOf, events_of_tail}
use Rattle.sd_safety.proofs.receipts.Stood.{history_of, clean_of, each_of, core_of, next_stood}
use Rattle.sd_safety.proofs.receipts.Members.{new_is_member}
use Rattle.sd_safety.proofs.receipts.Hearings.{IsHeard, heard_in_plan}
use Rattle.sd_safety.proofs.renewals.LeavesOut.{joined_is_staged}
use Rattle.sd_safety.proofs.behind.Failing.{chronicle_tail}

-- The path of the next backup root, while its plan is staged (C6)

module _ {setting : Setting} (history : List Event) (e : Event) (comes : IsNextEvent setting history e)
    (commit : has_commit (seen_of (chronicle setting history)) ≡ true) where
  abbrev steps : List Step
  steps = chronicle setting history

  abbrev n : ℕ
  n = era (chronicle setting history) + 1

  abbrev next : Plan
  next = plan_numbered setting (era (chronicle setting history) + 1)

  clean : IsSteady setting history
  clean = clean_before setting e history comes.clean

  -- nobody but its root has moved or acted in it
  stood : (y : ℕ) → is_root (plan_numbered setting (era (chronicle setting history) + 1)) y ≡ false → (older : List Step)
      → Tail older (chronicle setting history) → (past : Past) → past_in older y ≡ Some past
      → epoch_now past ≡ era (chronicle setting history) + 1 → (has_moved past ≡ false) × (is_acting past ≡ false)
  stood y low older tail past there own =
      let of : IsOf setting history older = events_of_tail setting history older tail in
      let was : WasAlive setting of.events y past =
      was_alive setting of.events (history_of setting of.events history of.tail clean.is) y past (subst (λ s. past_in s y ≡ Some past) of.is there) in
      let back : Tail was.then_ history = tail_trans was.tail of.tail in
      next_stood setting was.then_ comes.fair (clean_of setting was.then_ history back clean)
      (core_of setting was.then_ (each_of setting was.then_ history back comes.before)) y past was.up was.there n own
      (less (era (chronicle setting was.then_)) (era steps) (era_grows (chronicle setting was.then_) steps (chronicle_tail setting was.then_ history back))) low
    where
      less : (a b : ℕ) → a ≤ b → a < b + 1
      less a b le = omega (arith, le)

  module _ (x b : ℕ) (under : is_root (plan_numbered setting (era (chronicle setting history) + 1)) x ≡ false)
      (among : has (map (λ (h : declared.Hop). h.parent) (walk setting.net (plan_numbered setting (era (chronicle setting history) + 1)) b)) x ≡ true)
      (other : is_root (plan_numbered setting (era (chronicle setting history) + 1)) b ≡ false) (new : is_new (chronicle setting history) b ≡ true) where
    own : NewPast (chronicle setting history) b
    own = new_past_of setting history b new

    heard : IsHeard setting history b (era (chronicle setting history) + 1)
    heard =
        heard_in_plan setting history clean.is b own.past own.there n own.epoch (less (era steps))
        (stood b other steps whole own.past own.there own.epoch).1
      where
        less : (a : ℕ) → a < a + 1
        less a = omega arith

    abbrev on : ℕ → Bool
    on y = nat_eq y b || has (map (λ (h : declared.Hop). h.parent) (walk setting.net (plan_numbered setting (era (chronicle setting history) + 1)) b)) y

    traced : Traced setting heard.message.stamp heard.message.epoch heard.moment b
    traced =
        accepted_traced setting steps (history_chronicle setting history clean.is)
        (premises_of setting (seen_of steps) clean.premises).delay heard.moment heard.inside b heard.link heard.message heard.counter heard.past heard.edge
        heard.there heard.act heard.over

    down : (y : ℕ) → on y ≡ true → is_root (plan_numbered setting (era (chronicle setting history) + 1)) y ≡ false → (q : Moment) → IsIn q (upto heard.moment)
        → TakesFromAbove setting (plan_numbered setting (era (chronicle setting history) + 1)) heard.message.stamp heard.message.epoch q y
    down y on_ low q inside =
        let within : IsIn q steps = tail_trans inside heard.inside in
        subst (λ k. TakesFromAbove setting next heard.message.stamp k q y) (sym heard.epoch)
        (takes_from_above setting (links_tell comes.fair) heard.message.stamp n q y (tail_chronicle setting within (history_chronicle setting history clean.is))
        (λ past there own_. stood y low q.earlier (tail_trans (behind whole) within) past there own_))

    took : Took setting heard.moment heard.moment x setting.net.params.depth
    took =
        let parents : map (λ (h : declared.Hop). h.parent) (walk setting.net next b)
        ≡ map (λ (h : declared.Hop). h.parent) (hops (is_root next) next setting.net.params.depth b) =
        ap (λ r. map (λ (h : declared.Hop). h.parent) (if r then [] else hops (is_root next) next setting.net.params.depth b)) other in
        climb setting next heard.message.stamp heard.message.epoch heard.moment on down traced.first traced.source x under setting.net.params.depth heard.moment
        b traced.hops traced.trace whole
        (or_left (nat_eq b b) (has (map (λ (h : declared.Hop). h.parent) (walk setting.net next b)) b) (eq-eqb b b refl)) other
        (λ z a. or_right (nat_eq z b) (has (map (λ (h : declared.Hop). h.parent) (walk setting.net next b)) z) (ap (λ xs. has xs z) parents ∙ a))
        (sym (ap (λ xs. has xs x) parents) ∙ among)

    -- it heard at most H * D before
    shadow_next : heard_at (chronicle setting history) b ≤ heard_at (chronicle setting history) x + depth setting.net * delay setting.net
    shadow_next =
        near (heard_at steps b) (when heard.moment) (when took.at) (heard_at steps x)
        (setting.net.params.depth * greatest_delay setting.net) heard.time took.time
        (subst (λ h. h ≤ heard_at steps x) (heard_by_receipt took.at x took.flight took.receipt)
        (rises_on hears setting history clean.is x (upto took.at) (tail_trans (tail_trans (before_is took.at heard.moment took.before) whole) heard.inside)))
      where
        near : (b_ q t x_ d : ℕ) → b_ ≡ q → q ≤ t + d → t ≤ x_ → b_ ≤ x_ + d
        near b_ q t x_ d one two three = omega (arith, one, two, three)

        before_is : (p q : Moment) → Tail (upto p) q.earlier → Tail (upto p) (upto q)
        before_is p q t = behind t

-- Clauses by their parts

no_return : (m u b : Bool) → (not (m && false && u) || b) ≡ true
no_return true u b = refl
no_return false u b = refl

pub past_by : (u o n b : Bool) → u ≡ true → o ≡ false → n ≡ false → b ≡ false → (u && not (o || n || b)) ≡ true
past_by true true n b up old new blank = cc
past_by true false true b up old new blank = cc
past_by true false false true up old new blank = cc
past_by true false false false up old new blank = refl
past_by false o n b up old new blank = cc

old_is_not_past : (u o n b : Bool) → o ≡ true → not (u && not (o || n || b)) ≡ true
old_is_not_past true true n b old = refl
old_is_not_past false true n b old = refl
old_is_not_past u false n b old = cc

-- who is up before a closing and no member of the new plan was not blank
blank_by : (member failed up joined_ old new blank : Bool) → (not (member && not failed && up) || (old || new)) ≡ true
    → (not (member && failed && up) || (joined_ && (blank || new))) ≡ true
    → (not (up && not member) || ((up && not (old || new || blank)) || (joined_ && (blank || new)))) ≡ true → up ≡ true → blank ≡ true → old ≡ false
    → new ≡ false → (joined_ ≡ true → ⊥) → ⊥
blank_by true true up true old new blank one two three u b o n none = none refl
blank_by true true true false old new blank one two three u b o n none = cc
blank_by true true false false old new blank one two three u b o n none = cc
blank_by true false true joined_ true new blank one two three u b o n none = cc
blank_by true false true joined_ false true blank one two three u b o n none = cc
blank_by true false true joined_ false false blank one two three u b o n none = cc
blank_by true false false joined_ old new blank one two three u b o n none = cc
blank_by false failed true true old new blank one two three u b o n none = none refl
blank_by false failed true false true new blank one two three u b o n none = cc
blank_by false failed true false false true blank one two three u b o n none = cc
blank_by false failed true false false false true one two three u b o n none = cc
blank_by false failed true false false false false one two three u b o n none = cc
blank_by false failed false joined_ old new blank one two three u b o n none = cc

module _ {setting : Setting} (silent : AreSilent setting) (r d : ℕ) (history : List Event) (comes : IsNextEvent setting history (event.Seal r d))
    (closed : just_closed (chronicle setting (event.Seal r d ∷ history)) ≡ true) where
  abbrev e : Event
  e = event.Seal r d

  abbrev one : List Step
  one = chronicle setting history

  abbrev two : List Step
  two = chronicle setting (event.Seal r d ∷ history)

  core : Core setting (chronicle setting history)
  core = core_before setting history (event.Seal r d) comes

  entered : HasEntered setting (chronicle setting history) r
  entered =
      record {
        entering = core.committed.entering;
        linked = λ x up. core.committed.linked x;
        committer = core.committed.committer;
        acting = λ x up. core.committed.acting x;
        hears = silent.entered history e comes;
      }

  begins : IsClosed setting (chronicle setting (event.Seal r d ∷ history))
  begins = closing_begins setting r d history comes.fair comes.clean closed entered

  commit : has_commit (seen_of (chronicle setting history)) ≡ true
  commit = committed setting r d history comes.fair comes.clean closed entered

  eras : era (chronicle setting (event.Seal r d ∷ history)) ≡ era (chronicle setting history) + 1
  eras = era_is setting r d history comes.fair comes.clean closed entered

  plan : plan_now setting (chronicle setting (event.Seal r d ∷ history)) ≡ plan_numbered setting (era (chronicle setting history) + 1)
  plan = ap (plan_numbered setting) eras

  failures : failed_now (chronicle setting (event.Seal r d ∷ history)) ≡ []
  failures = none_failed two closed

  sound : IsSound setting.net (plan_now setting (chronicle setting (event.Seal r d ∷ history)))
  sound = sound_now setting (e ∷ history) comes.fair comes.clean.is

  -- the window is shut
  shut : window (seen_of (chronicle setting (event.Seal r d ∷ history))) ≡ None
  shut = ap (λ b. if b then None else option_map (λ w. (next_step setting one e).seen ∷ w) (window (seen_of one))) closed

  no_commit : has_commit (seen_of (chronicle setting (event.Seal r d ∷ history))) ≡ false
  no_commit = ap (λ (w : Option (List Seen)). map_or w false (list_any (λ x. is_commit x.event))) shut

  no_join : (x : ℕ) → joined_in_window (seen_of (chronicle setting (event.Seal r d ∷ history))) x ≡ false
  no_join x = ap (λ (w : Option (List Seen)). map_or w false (list_any (λ y. same_number (joined y.event) x))) shut

  -- devices are as they were, but in a new era
  same : (x : ℕ) → IsAlikeAt (chronicle setting history) (chronicle setting (event.Seal r d ∷ history)) x
  same = alike_called setting e history d calls.Seal refl (λ x. refl) (λ x. refl) (λ past there. seal_turns_nothing past)

  known : (x : ℕ) → is_up (seen_of (chronicle setting (event.Seal r d ∷ history))) x ≡ true → nat_lt x (length setting.net.devices) ≡ true
  known x up = lt-ltb x (length setting.net.devices) (admitted_up_is_known setting (e ∷ history) comes.clean.is x up)

  old_was_new : (x : ℕ) → is_old (chronicle setting (event.Seal r d ∷ history)) x ≡ true → is_new (chronicle setting history) x ≡ true
  old_was_new x old = sym (ap (λ o. same_number o (era one + 1)) (same x).epoch_is) ∙ sym (ap (same_number (epoch_in two x)) eras) ∙ old

  later_ones : IsUncommitted setting (chronicle setting (event.Seal r d ∷ history))
  later_ones = uncommitted setting (e ∷ history) comes.clean.is

  none_new : (x : ℕ) → is_new (chronicle setting (event.Seal r d ∷ history)) x ≡ false
  none_new x = by (has_commit (seen_of two)) (is_new two x) no_commit (later_ones.devices x)
    where
      by : (c new : Bool) → c ≡ false → (not (not c) || not new) ≡ true → new ≡ false
      by true new none holds = cc
      by false true none holds = cc
      by false false none holds = refl

  -- members have settled
  settled : (x : ℕ) → belongs setting.net (plan_now setting (chronicle setting (event.Seal r d ∷ history))) x ≡ true
      → has_settled (chronicle setting (event.Seal r d ∷ history)) (era (chronicle setting (event.Seal r d ∷ history))) x ≡ true
  settled x member =
      (and_parts (has_settled two (era two) x) _
      (implied (just_closed two && belongs setting.net (plan_now setting two) x) _ (begins.members x)
      (and_from (just_closed two) (belongs setting.net (plan_now setting two) x) closed member))).0

  member_old : (x : ℕ) → belongs setting.net (plan_now setting (chronicle setting (event.Seal r d ∷ history))) x ≡ true
      → is_old (chronicle setting (event.Seal r d ∷ history)) x ≡ true
  member_old x member = settled_epoch (live_answers two x) (era two) (settled x member)

  member_up : (x : ℕ) → belongs setting.net (plan_now setting (chronicle setting (event.Seal r d ∷ history))) x ≡ true
      → is_up (seen_of (chronicle setting (event.Seal r d ∷ history))) x ≡ true
  member_up x member = epoch_up two x (era two) (member_old x member)

  up_member : (x : ℕ) → is_up (seen_of (chronicle setting (event.Seal r d ∷ history))) x ≡ true
      → is_member (plan_now setting (chronicle setting (event.Seal r d ∷ history))) x ≡ true
      → belongs setting.net (plan_now setting (chronicle setting (event.Seal r d ∷ history))) x ≡ true
  up_member x up member = and_from (nat_lt x (length setting.net.devices)) (is_member (plan_now setting two) x) (known x up) member

  -- who is of the staged plan is a member of the one in force now
  staged_to_now : (x : ℕ) → is_staged_member setting (seen_of (chronicle setting history)) x ≡ true
      → is_member (plan_now setting (chronicle setting (event.Seal r d ∷ history))) x ≡ true
  staged_to_now x member =
      ap (λ p. is_member p x) plan
      ∙ sym (ap (λ (o : Option Plan). map_or o false (λ p. is_member p x)) (staged_some setting one (commit_is_open (seen_of one) commit))) ∙ member

  -- C0
  touched : (x : ℕ) → was_touched setting (chronicle setting (event.Seal r d ∷ history)) x ≡ true
  touched x =
      gives (not (is_beginning setting two) && belongs setting.net (plan_now setting two) x) (not (is_untouched (seen_of two) x))
      (λ both.
      ap not
      (ap (λ b. not b && not (has_ever_failed (seen_of two) x))
      (up_made (seen_of two) x (member_up x (and_parts (not (is_beginning setting two)) (belongs setting.net (plan_now setting two) x) both).1))))

  -- C1
  members_up : (x : ℕ) → member_is_up setting (chronicle setting (event.Seal r d ∷ history)) x ≡ true
  members_up x =
      gives (not (is_beginning setting two) && belongs setting.net (plan_now setting two) x && not (device_failed_now two x)) (is_up (seen_of two) x)
      (λ all.
      member_up x
      (and_parts (not (is_beginning setting two)) (belongs setting.net (plan_now setting two) x)
      (and_parts (not (is_beginning setting two) && belongs setting.net (plan_now setting two) x) (not (device_failed_now two x)) all).0).1)

  follows : (x : ℕ) → member_follows setting (chronicle setting (event.Seal r d ∷ history)) x ≡ true
  follows x =
      gives (is_member (plan_now setting two) x && not (device_failed_now two x) && is_up (seen_of two) x) (is_old two x || is_new two x)
      (λ all.
      let first_ = and_parts (is_member (plan_now setting two) x && not (device_failed_now two x)) (is_up (seen_of two) x) all in
      or_left (is_old two x) (is_new two x)
      (member_old x (up_member x first_.1 (and_parts (is_member (plan_now setting two) x) (not (device_failed_now two x)) first_.0).0)))

  returned : (x : ℕ) → returned_is_joined setting (chronicle setting (event.Seal r d ∷ history)) x ≡ true
  returned x =
      ap (λ xs. not (is_member (plan_now setting two) x && is_among xs (thing.Device x) && is_up (seen_of two) x)
      || (joined_in_window (seen_of two) x && (is_blank two x || is_new two x))) failures
      ∙ no_return (is_member (plan_now setting two) x) (is_up (seen_of two) x) (joined_in_window (seen_of two) x && (is_blank two x || is_new two x))

  module _ (x : ℕ) (up : is_up (seen_of (chronicle setting (event.Seal r d ∷ history))) x ≡ true)
      (out : is_member (plan_now setting (chronicle setting (event.Seal r d ∷ history))) x ≡ false) where
    not_new_then : is_new (chronicle setting history) x ≡ false
    not_new_then =
        false_from_ne_true (is_new one x)
        (λ new. not_both (is_member (plan_now setting two) x)
        (staged_to_now x (new_is_member setting history comes.fair (clean_before setting e history comes.clean) comes.before x new)) out)

    not_old_now : is_old (chronicle setting (event.Seal r d ∷ history)) x ≡ false
    not_old_now = false_from_ne_true (is_old two x) (λ old. not_both (is_new one x) (old_was_new x old) not_new_then)

    blank_not_old : (o : Option ℕ) (k : ℕ) → 1 ≤ k → same_number o 0 ≡ true → same_number o k ≡ false
    blank_not_old None k le is = cc
    blank_not_old (Some m) k le is = false_from_ne_true (nat_eq m k) (λ same_. apart m k le (eqb-true m 0 is) (eqb-true m k same_))
      where
        apart : (a b : ℕ) → 1 ≤ b → a ≡ 0 → a ≡ b → ⊥
        apart a b le' one_ two_ = omega (arith, le', one_, two_)

    not_blank_now : is_blank (chronicle setting (event.Seal r d ∷ history)) x ≡ false
    not_blank_now =
        false_from_ne_true (is_blank two x)
        (λ blank.
        let was : is_blank one x ≡ true = sym (ap (λ o. same_number o 0) (same x).epoch_is) ∙ blank in
        blank_by (is_member (plan_now setting one) x) (device_failed_now one x) (is_up (seen_of one) x) (joined_in_window (seen_of one) x) (is_old one x)
        (is_new one x) (is_blank one x)
        (core.census.members_follow x) (core.census.returned x) (core.census.outsiders x) (sym (same x).up_is ∙ up) was
        (blank_not_old (epoch_in one x) (era one) (positive _) was) not_new_then
        (λ joined_. not_both (is_member (plan_now setting two) x) (staged_to_now x (joined_is_staged setting history comes.clean.is.0 x joined_)) out))
      where
        positive : (m : ℕ) → 1 ≤ m + 1
        positive m = omega arith

    past_now : is_past (chronicle setting (event.Seal r d ∷ history)) x ≡ true
    past_now = past_by (is_up (seen_of two) x) (is_old two x) (is_new two x) (is_blank two x) up not_old_now (none_new x) not_blank_now

  outsiders : (x : ℕ) → outsider_is_past setting (chronicle setting (event.Seal r d ∷ history)) x ≡ true
  outsiders x =
      gives (is_up (seen_of two) x && not (is_member (plan_now setting two) x))
      (is_past two x || (joined_in_window (seen_of two) x && (is_blank two x || is_new two x)))
      (λ both.
      let parts = and_parts (is_up (seen_of two) x) (not (is_member (plan_now setting two) x)) both in
      or_left (is_past two x) (joined_in_window (seen_of two) x && (is_blank two x || is_new two x))
      (past_now x parts.0 (not-true (is_member (plan_now setting two) x) parts.1)))

  current : (x : ℕ) → counted_is_current setting (chronicle setting (event.Seal r d ∷ history)) x ≡ true
  current x =
      gives (is_counted setting (seen_of two) x) (not (is_past two x))
      (λ counts.
      let parts = and_parts (is_up (seen_of two) x) (is_member (plan_now setting two) x || joined_in_window (seen_of two) x) counts in
      old_is_not_past (is_up (seen_of two) x) (is_old two x) (is_new two x) (is_blank two x)
      (member_old x (up_member x parts.0 (only (is_member (plan_now setting two) x) (joined_in_window (seen_of two) x) parts.1 (no_join x)))))
    where
      only : (a b : Bool) → (a || b) ≡ true → b ≡ false → a ≡ true
      only true b is none = refl
      only false b is none = sym none ∙ is

  blanks : (x : ℕ) → blank_is_idle (chronicle setting (event.Seal r d ∷ history)) x ≡ true
  blanks x =
      ap (λ o. not (same_number o 0) || (not (is_some (parent_in two x)) && not (acts_in two x))) (same x).epoch_is
      ∙ ap (λ (o : Option ℕ). not (is_blank one x) || (not (is_some o) && not (acts_in two x))) (same x).parent_is
      ∙ ap (λ b. not (is_blank one x) || (not (is_some (parent_in one x)) && not b)) (same x).acts_is ∙ core.census.blanks x

  links : (l : ℕ) → link_is_sound setting (chronicle setting (event.Seal r d ∷ history)) l ≡ true
  links l =
      gives (is_present (plan_now setting two) l && not (link_failed_now two l)) (not (link_has_failed (seen_of two) l))
      (λ both.
      implied (just_closed two && is_present (plan_now setting two) l) (not (link_has_failed (seen_of two) l)) (begins.links l)
      (and_from (just_closed two) (is_present (plan_now setting two) l) closed
      (and_parts (is_present (plan_now setting two) l) (not (link_failed_now two l)) both).0))

  -- C6
  abbrev B : ℕ
  B = (plan_now setting (chronicle setting (event.Seal r d ∷ history))).backup_root

  shadow : (x : ℕ) → shadow_is_short setting (chronicle setting (event.Seal r d ∷ history)) x ≡ true
  shadow x =
      gives (backup_root_stays setting two && has (above_backup_root setting two) x && not (is_root (plan_now setting two) x) && is_old two x) _
      (λ all.
      let a = and_parts (backup_root_stays setting two && has (above_backup_root setting two) x && not (is_root (plan_now setting two) x)) (is_old two x) all in
      let b = and_parts (backup_root_stays setting two && has (above_backup_root setting two) x) (not (is_root (plan_now setting two) x)) a.0 in
      let c = and_parts (backup_root_stays setting two) (has (above_backup_root setting two) x) b.0 in
      let old : is_old two B ≡ true = (and_parts (is_old two B) (on_primary two B) c.0).0 in
      let under : is_root (plan_numbered setting (era one + 1)) x ≡ false =
      sym (ap (λ p. is_root p x) plan) ∙ not-true (is_root (plan_now setting two) x) b.1 in
      let among : has (map (λ (h : declared.Hop). h.parent) (walk setting.net (plan_numbered setting (era one + 1)) B)) x ≡ true =
      sym (ap (λ p. has (map (λ (h : declared.Hop). h.parent) (walk setting.net p B)) x) plan) ∙ c.1 in
      let apart : is_root (plan_numbered setting (era one + 1)) B ≡ false =
      sym (ap (λ p. is_root p B) plan) ∙ unequal_swap B (plan_now setting two).root sound.apart in
      le-leb (heard_at two B) (heard_at two x + max (depth setting.net * delay setting.net) (tick_gap setting.net))
      (wider (heard_at two B) (heard_at one B) (heard_at one x) (heard_at two x) (depth setting.net * delay setting.net) (tick_gap setting.net)
      (heard_sealed setting history r d B) (heard_sealed setting history r d x)
      (shadow_next history e comes commit x B under among apart (old_was_new B old))))
    where
      wider : (b2 b1 x1 x2 q t : ℕ) → b2 ≡ b1 → x2 ≡ x1 → b1 ≤ x1 + q → b2 ≤ x2 + max q t
      wider b2 b1 x1 x2 q t one_ two_ le = omega (arith, one_, two_, le)

  pub closing_keeps : Core setting (chronicle setting (event.Seal r d ∷ history))
  closing_keeps =
      let apart : is_root (plan_now setting two) B ≡ false = unequal_swap B (plan_now setting two).root sound.apart in
      record {
        calm = record {
          quiet = quiet setting (e ∷ history) comes.fair comes.clean;
          still = still setting (e ∷ history) comes.fair comes.clean;
          touched = touched;
        };
        census = record {
          members_up = members_up;
          members_follow = follows;
          returned = returned;
          outsiders = outsiders;
          current = current;
          blanks = blanks;
          links = links;
        };
        roles = roles_begin setting two closed begins known sound.rules.root;
        causes =
            record {
              backups = backups_begin setting two closed begins known;
              move = move_begins setting two closed begins known sound.backup_member apart;
              takeover = takeover_begins setting two closed begins known sound.backup_member apart;
              path = path_begins setting two closed begins known outsiders;
              shadow = shadow;
            };
        uncommitted = later_ones;
        committed = committed_none setting two no_commit none_new;
        closed = begins;
      }

pub seal_closes : {setting : Setting} → AreSilent setting → KeepsSeal setting true
seal_closes silent r d history comes closed = closing_keeps silent r d history comes closed
