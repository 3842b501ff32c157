-- How devices stand before an event, with a commit in the open window: the staged root is new, acts and sent at most P ago; and a member of the staged plan
-- is up, and ready for what comes over its primary hop, whose link is not failed.
use Rattle.std.specs.Prelude.{◌≡◌, ℕ, ◌+◌, ◌≤◌, Bool, true, false, ◌&&◌, ◌||◌, not, List, [], ◌∷◌, length, nat_eq, nat_lt, Option, Some, None, is_some, option_map, option_and_then, refl, ◌⊎◌, if◌then◌else◌}
use Rattle.std.proofs.Common.{arith, sym, ◌∙◌, ap, subst, inl, inr}
use Rattle.std.proofs.lemmas.Bool.{and_parts, and_from, or_right, eqb-true, eq-eqb, lt-ltb, false_from_ne_true}
use Rattle.sd_num.specs.Lists.{map_or, same_number}
use Rattle.sd_plan.specs.declared.topo.Thing.{Thing}
use Rattle.sd_plan.specs.declared.Hop.{Hop}
use Rattle.sd_plan.specs.declared.Plan.{Plan}
use Rattle.sd_plan.specs.declared.Duty.{Duty}
use Rattle.sd_plan.specs.Plans.{Fits, is_member, primary_of}
use Rattle.sd_plan.specs.Duties.{duty_of, edge_of}
use Rattle.sd_plan.proofs.Rules.{KeepsRules, keeps_rules}
use Rattle.sd_safety.specs.invariant.Guarded.{IsGuarded, IsSteady}
use Rattle.sd_checker.specs.check_root.Timing.{round_gap}
use Rattle.sd_device.specs.Calls.{Past}
use Rattle.sd_device.specs.Words.{duty_now, given_now, epoch_now}
use Rattle.sd_sched.specs.declared.Event.{Event}
use Rattle.sd_sched.specs.Events.{reference_of, started, joined}
use Rattle.sd_history.specs.Things.{failure_of}
use Rattle.sd_history.specs.World.{Setting, makes, fails, is_thing, is_up, has_commit, window_is_open, staged, staged_epoch, plan_numbered, is_staged_member, link_has_failed}
use Rattle.sd_history.specs.Steps.{Answers, Step, seen_of, live_answers, acts_in, parent_in, given_in}
use Rattle.sd_history.specs.Chronicle.{answers_by, past_in, chronicle}
use Rattle.sd_history.proofs.Given.{some_is}
use Rattle.sd_safety.specs.invariant.Eras.{era, plan_now, will_belong, is_old, is_new, is_blank, on_primary, sent_at, live_past, moved}
use Rattle.sd_safety.specs.invariant.Clauses.{staged_root}
use Rattle.sd_safety.specs.invariant.Invariant.{Core}
use Rattle.sd_safety.specs.invariant.Coming.{IsNextEvent}
use Rattle.sd_safety.proofs.invariant.Parents.{IsPlanned, duties_planned, live_is}
use Rattle.sd_safety.proofs.invariant.Prefix.{clean_before}
use Rattle.sd_safety.proofs.invariant.Sides.{implied, not_both}
use Rattle.sd_safety.specs.messages.Rounds.{IsReady, has_given}
use Rattle.sd_safety.proofs.timers.Histories.{Timely, timely, timed, before, sends_soon}
use Rattle.sd_safety.proofs.waits.SameReferences.{sent_is}
use Rattle.sd_safety.proofs.silences.Paths.{IsClear}
use Rattle.sd_safety.proofs.silences.States.{ready_of}
use Rattle.sd_safety.proofs.windows.Leading.{stands_by}
use Rattle.sd_safety.proofs.windows.Committing.{staged_plan, staged_too, staged_some}
use Rattle.sd_safety.proofs.windows.Closing.{commit_is_open, epoch_up}
use Rattle.sd_safety.proofs.windows.Links.{staged_links}
use Rattle.sd_safety.proofs.windows.StaysNew.{RestsAt, rests_at}
use Rattle.sd_safety.proofs.windows.Senders.{NewPast, new_past_of}
use Rattle.sd_safety.proofs.receipts.Stood.{core_of, moved_is, acts_is}
use Rattle.sd_safety.proofs.terms.Actors.{IsActor, committed_actor, actor_is_new}

-- who enters is new, or has its duty given
enters_or : (hc w new waits given : Bool) → (not (hc && w) || (new || (waits && given))) ≡ true → hc ≡ true → w ≡ true → (new ≡ true) ⊎ (given ≡ true)
enters_or true true true waits given is c m = inl refl
enters_or true true false true true is c m = inr refl
enters_or true true false true false is c m = cc
enters_or true true false false given is c m = cc
enters_or true false new waits given is c m = cc
enters_or false w new waits given is c m = cc

-- and is new, old or blank
enters_as : (hc w new old blank given : Bool) → (not (hc && w) || (new || ((old || blank) && given))) ≡ true → hc ≡ true → w ≡ true
    → (new ≡ true) ⊎ ((old ≡ true) ⊎ (blank ≡ true))
enters_as true true true old blank given is c m = inl refl
enters_as true true false true blank given is c m = inr (inl refl)
enters_as true true false false true given is c m = inr (inr refl)
enters_as true true false false false given is c m = cc
enters_as true false new old blank given is c m = cc
enters_as false w new old blank given is c m = cc

-- the duty that was given to a device of this past
given_so : (g : Option Duty) (n : ℕ) → same_number (option_map (λ (u : Duty). u.epoch) g) n ≡ true → (u : Duty) × (g ≡ Some u) × (u.epoch ≡ n)
given_so None n is = cc
given_so (Some u) n is = (u, refl, eqb-true u.epoch n is)

pub nothing_fails : (o : Option Thing) (y : Thing) → is_some o ≡ false → is_thing o y ≡ false
nothing_fails None y none = refl
nothing_fails (Some x) y none = cc

nobody_made : (o p : Option ℕ) (d : ℕ) → is_some o ≡ false → is_some p ≡ false → (same_number o d || same_number p d) ≡ false
nobody_made None None d a b = refl
nobody_made (Some x) p d a b = cc
nobody_made None (Some x) d a b = cc

module _ (setting : Setting) (h : List Event) (e : Event) (comes : IsNextEvent setting h e) (commit : has_commit (seen_of (chronicle setting h)) ≡ true) where
  abbrev steps : List Step
  steps = chronicle setting h

  abbrev plan : Plan
  plan = staged_plan setting (chronicle setting h)

  abbrev next : ℕ
  next = staged_epoch (seen_of (chronicle setting h))

  clean : IsSteady setting h
  clean = clean_before setting e h comes.clean

  core : Core setting (chronicle setting h)
  core = core_of setting h comes.before

  pub opened : window_is_open (seen_of (chronicle setting h)) ≡ true
  opened = commit_is_open (seen_of steps) commit

  pub guarded : IsGuarded setting.net (staged_plan setting (chronicle setting h))
  guarded = staged_too (IsGuarded setting.net) setting h comes.fair.guarded comes.clean.is.0 opened

  pub fits : Fits setting.net (staged_plan setting (chronicle setting h))
  fits = staged_too (Fits setting.net) setting h comes.fair.fit comes.clean.is.0 opened

  pub rules : KeepsRules setting.net (staged_plan setting (chronicle setting h))
  rules = keeps_rules setting.net plan guarded.structure

  some : staged setting (seen_of (chronicle setting h)) ≡ Some (staged_plan setting (chronicle setting h))
  some = staged_some setting steps opened

  pub root_is : staged_root setting (chronicle setting h) ≡ (staged_plan setting (chronicle setting h)).root
  root_is = ap (λ (o : Option Plan). map_or o 0 (λ p. p.root)) some

  pub staged_member : (x : ℕ) → is_member (staged_plan setting (chronicle setting h)) x ≡ is_staged_member setting (seen_of (chronicle setting h)) x
  staged_member x = sym (ap (λ (o : Option Plan). map_or o false (λ p. is_member p x)) some)

  -- nothing fails with the event, and nobody is made
  pub rests : RestsAt e
  rests = rests_at setting e h comes.clean commit

  pub fails_not : (x : Thing) → fails x e ≡ false
  fails_not x = nothing_fails (failure_of e) x rests.failure

  pub makes_not : (d : ℕ) → makes d e ≡ false
  makes_not d = nobody_made (started e) (joined e) d rests.start rests.join

  -- the staged root
  pub actor : IsActor setting (chronicle setting h) (staged_root setting (chronicle setting h))
  actor = committed_actor setting h comes.fair clean comes.before commit

  pub root_new : is_new (chronicle setting h) (staged_root setting (chronicle setting h)) ≡ true
  root_new = actor_is_new setting h comes.fair clean comes.before commit (staged_root setting steps) actor

  pub actor_epoch : epoch_now actor.past ≡ staged_epoch (seen_of (chronicle setting h))
  actor_epoch =
      let own : NewPast steps (staged_root setting steps) = new_past_of setting h (staged_root setting steps) root_new in
      ap epoch_now (some_is (sym actor.there ∙ own.there)) ∙ own.epoch

  pub root_there : past_in (chronicle setting h) (staged_plan setting (chronicle setting h)).root ≡ Some actor.past
  root_there = subst (λ z. past_in steps z ≡ Some actor.past) root_is actor.there

  pub root_soon : reference_of e ≤ sent_at (chronicle setting h) (staged_plan setting (chronicle setting h)).root + round_gap setting.net
  root_soon =
      let t : Timely setting (e ∷ h) = timely setting (e ∷ h) comes.fair.network comes.clean.is comes.clean.premises in
      let up : is_up (seen_of steps) plan.root ≡ true = subst (λ z. is_up (seen_of steps) z ≡ true) root_is actor.up in
      let line =
      sends_soon setting e h plan.root actor.past t up
      (or_right (is_member (plan_now setting steps) plan.root) (is_staged_member setting (seen_of steps) plan.root)
      (sym (staged_member plan.root) ∙ rules.root)) root_there actor.acts in
      subst (λ n. reference_of e ≤ n + round_gap setting.net) (sym (sent_is setting steps (timed setting h (before setting e h t)) plan.root)) line

  -- a device with a primary hop
  module _ (y : ℕ) (hop : Hop) (clear : IsClear setting.net (staged_plan setting (chronicle setting h)) [] y hop) where
    will : will_belong setting (chronicle setting h) y ≡ true
    will = and_from (nat_lt y (length setting.net.devices)) (is_staged_member setting (seen_of steps) y) (lt-ltb y (length setting.net.devices) clear.known)
        (sym (staged_member y) ∙ clear.member)

    pub hop_up : is_up (seen_of (chronicle setting h)) y ≡ true
    hop_up =
        elim (enters_as (has_commit (seen_of steps)) (will_belong setting steps y) (is_new steps y) (is_old steps y) (is_blank steps y)
        (same_number (given_in steps y) (staged_epoch (seen_of steps))) (core.committed.entering y) commit will) [
          | inl new ↦ epoch_up steps y next new
          | inr (inl old) ↦ epoch_up steps y (era steps) old
          | inr (inr blank) ↦ epoch_up steps y 0 blank
        ]

    pub hop_link : link_has_failed (seen_of (chronicle setting h)) hop.link ≡ false
    hop_link = staged_links setting comes.fair h clean commit hop.link clear.present

    apart : nat_eq y (staged_root setting (chronicle setting h)) ≡ false
    apart = false_from_ne_true (nat_eq y (staged_root setting steps))
        (λ same. not_both (nat_eq plan.root y) (eq-eqb plan.root y (sym (eqb-true y (staged_root setting steps) same ∙ root_is))) clear.other)

    duty_so : (past : Past) → past_in (chronicle setting h) y ≡ Some past → epoch_now past ≡ staged_epoch (seen_of (chronicle setting h)) → (o : Option Duty)
        → duty_now past ≡ o
        → duty_now past ≡ Some (duty_of setting.net (staged_plan setting (chronicle setting h)) (staged_epoch (seen_of (chronicle setting h))) y)
    duty_so past there epoch None none = let zero_ : 0 ≡ era steps + 1 = sym (ap (λ (o : Option Duty). map_or o 0 (λ u. u.epoch)) none) ∙ epoch in
        absurd (omega (arith, zero_))
    duty_so past there epoch (Some u) has =
        let number : u.epoch ≡ next = sym (ap (λ (o : Option Duty). map_or o 0 (λ v. v.epoch)) has) ∙ epoch in
        let planned : IsPlanned setting y u = (duties_planned setting h y past there).duty u has in
        has ∙ ap Some (planned.is ∙ ap (λ n. duty_of setting.net (plan_numbered setting n) n y) number)

    ready_new : (past : Past) → past_in (chronicle setting h) y ≡ Some past → is_new (chronicle setting h) y ≡ true
        → IsReady past (staged_epoch (seen_of (chronicle setting h))) hop.link
    ready_new past there new =
        let own : NewPast steps y = new_past_of setting h y new in
        let epoch : epoch_now past ≡ next = ap epoch_now (some_is (sym there ∙ own.there)) ∙ own.epoch in
        let linked =
        implied (is_new steps y && not (nat_eq y (staged_root setting steps))) _ (core.committed.linked y)
        (and_from (is_new steps y) (not (nat_eq y (staged_root setting steps))) new (ap not apart)) in
        let primary = (and_parts (on_primary steps y) _ (and_parts (on_primary steps y && map_or (parent_in steps y) false (is_new steps)) _ linked).0).0 in
        let put = stands_by (is_some (live_past steps y)) (moved steps y) (acts_in steps y) primary in
        ready_of setting.net plan next y hop past (duty_so past there epoch (duty_now past) refl) (sym (moved_is setting h y past own.up there) ∙ put.0)
        (sym (acts_is setting h y past own.up there) ∙ put.1) clear.primary

    ready_given : (past : Past) → past_in (chronicle setting h) y ≡ Some past
        → same_number (given_in (chronicle setting h) y) (staged_epoch (seen_of (chronicle setting h))) ≡ true
        → IsReady past (staged_epoch (seen_of (chronicle setting h))) hop.link
    ready_given past there given =
        let answers : live_answers steps y ≡ Some (answers_by past) =
        live_is setting h y ∙ ap (option_map answers_by) (ap (λ b. if b then past_in steps y else None) hop_up ∙ there) in
        let own = given_so (given_now past) next
        (sym (ap (λ (o : Option Answers). same_number (option_and_then (λ a. option_map (λ (u : Duty). u.epoch) a.given) o) next) answers) ∙ given) in
        let planned : IsPlanned setting y own.0 = (duties_planned setting h y past there).given own.0 own.1 in
        has_given own.0 (edge_of setting.net y hop) own.1 own.2
        (ap (λ (u : Duty). u.primary) planned.is ∙ ap (λ n. option_map (edge_of setting.net y) (primary_of (plan_numbered setting n) y)) own.2
        ∙ ap (option_map (edge_of setting.net y)) clear.primary) refl

    pub hop_ready : (past : Past) → past_in (chronicle setting h) y ≡ Some past → IsReady past (staged_epoch (seen_of (chronicle setting h))) hop.link
    hop_ready past there =
        elim (enters_or (has_commit (seen_of steps)) (will_belong setting steps y) (is_new steps y) (is_old steps y || is_blank steps y)
        (same_number (given_in steps y) (staged_epoch (seen_of steps))) (core.committed.entering y) commit will) [
          | inl new ↦ ready_new past there new
          | inr given ↦ ready_given past there given
        ]
