-- Who acts. A past device neither acts nor is a backup root by its duty: at a closing those become past that the staged plan left out, and they are ordinary.
-- So who acts counts as
-- live, and at most one device acts, counted or not.
use Rattle.std.specs.Prelude.{◌≡◌, ℕ, ◌+◌, ◌<◌, ◌≤◌, Bool, true, false, ◌&&◌, ◌||◌, not, List, [], ◌∷◌, length, nat_eq, nat_le, nat_lt, Option, Some, None, is_some, option_map, refl, ◌⊎◌, if◌then◌else◌}
use Rattle.std.specs.List.{list_any, list_all}
use Rattle.std.proofs.Common.{arith, ◌∙◌, ap, sym, subst, inl, inr}
use Rattle.std.proofs.lemmas.Bool.{and_parts, and_from, or_left, or_right, or_cases, eqb-true, eq-eqb, false_from_ne_true, lt-ltb, leb-true, not-true}
use Rattle.sd_num.specs.Lists.{map_or, same_number}
use Rattle.sd_plan.specs.topo.Network.{device_numbers}
use Rattle.sd_plan.specs.declared.topo.Thing.TheVariants as thing
use Rattle.sd_plan.specs.declared.Duty.{Duty}
use Rattle.sd_plan.specs.declared.Plan.{Plan}
use Rattle.sd_plan.specs.declared.Role.{Role}
use Rattle.sd_plan.specs.declared.Role.TheVariants as role
use Rattle.sd_plan.specs.Duties.{duty_of, role_of}
use Rattle.sd_plan.specs.Plans.{is_member, is_root, is_backup_root}
use Rattle.sd_plan.specs.topo.Network.{Network}
use Rattle.sd_device.specs.Calls.{Call, Transition, Past}
use Rattle.sd_device.specs.Words.{after, transition_of, taken_up, duty_now, epoch_now, is_acting, has_moved, is_backup_root_now}
use Rattle.sd_sched.specs.declared.Event.{Event}
use Rattle.sd_sched.specs.declared.Event.TheVariants as event
use Rattle.sd_history.specs.World.{Setting, makes, fails, is_up, has_commit, is_counted, joined_in_window, is_staged_member, plan_numbered, latest_reference}
use Rattle.sd_history.specs.Steps.{Step, seen_of, acts_in, parent_in, epoch_in, live_answers, has_settled}
use Rattle.sd_history.specs.Chronicle.{past_in, chronicle, next_step}
use Rattle.sd_history.proofs.Given.{some_is, takes_given}
use Rattle.sd_history.proofs.Known.{up_case, admitted_up_is_known}
use Rattle.sd_history.proofs.Among.{passes}
use Rattle.sd_safety.proofs.invariant.Parts.{premises_of}
use Rattle.sd_safety.specs.invariant.Eras.{era, plan_now, is_old, is_new, is_blank, is_past, is_ordinary, belongs, on_primary, moved, hit, live_past, heard_at, root_failed, all_started}
use Rattle.sd_safety.specs.invariant.Clauses.{just_closed, is_beginning, begins_with, left_out_is_hit, staged_root}
use Rattle.sd_safety.specs.invariant.Invariant.{Core, Invariant, AtEach}
use Rattle.sd_safety.specs.invariant.Guarded.{AreGuarded, IsSteady}
use Rattle.sd_safety.proofs.invariant.Closings.{start_closes_none, join_closes_none, none_closes_uncommitted}
use Rattle.sd_safety.proofs.invariant.Facts.{IsSound, sound_now}
use Rattle.sd_safety.proofs.invariant.Parents.{IsOld, old_is}
use Rattle.sd_safety.proofs.invariant.Prefix.{Passing, some_passing, clean_before}
use Rattle.sd_safety.proofs.invariant.Sides.{implied, not_both}
use Rattle.sd_safety.proofs.invariant.Staying.{old_is_member}
use Rattle.sd_safety.proofs.timers.Pasts.{takeover_from_backup}
use Rattle.sd_safety.proofs.timers.Turns.{BeganToAct, by_takeover, by_commit, began_to_act, IsTakeover, is_takeover}
use Rattle.sd_checker.specs.check_root.Timing.{silence}
use Rattle.sd_num.proofs.Shared.{unequal_swap}
use Rattle.sd_history.proofs.Shared.{among_below}
use Rattle.sd_safety.proofs.waits.Epochs.{duty_numbered}
use Rattle.sd_safety.specs.messages.Moments.{when}
use Rattle.sd_safety.proofs.messages.Tails.{no_later, history_chronicle}
use Rattle.sd_safety.proofs.messages.Latest.{Emitted, traced_emission}
use Rattle.sd_safety.proofs.messages.Tracing.{accepted_traced}
use Rattle.sd_safety.proofs.silences.BeforeStart.{emission_late}
use Rattle.sd_safety.specs.windows.Standing.{HasStanding}
use Rattle.sd_safety.proofs.windows.Acting.{who_acts, not_new, no_blank}
use Rattle.sd_safety.proofs.windows.Closing.{settled_epoch}
use Rattle.sd_safety.proofs.windows.Committing.{staged_some}
use Rattle.sd_safety.proofs.windows.Closing.{commit_is_open}
use Rattle.sd_safety.proofs.windows.Eras.{era_kept, era_grows}
use Rattle.sd_safety.proofs.windows.Senders.{NewPast, new_past_of}
use Rattle.sd_safety.proofs.windows.Seals.{others_close_none}
use Rattle.sd_safety.proofs.windows.Sealing.{epoch_sealed, acts_sealed}
use Rattle.sd_safety.proofs.moves.Ahead.{IsAhead, always_ahead}
use Rattle.sd_safety.proofs.receipts.Alive.{Went, made, called, alone, went, made_epoch}
use Rattle.sd_safety.proofs.receipts.Hearings.{IsHeard, heard_in_plan}
use Rattle.sd_safety.proofs.receipts.Stood.{core_of, moved_is, epoch_is, acts_is}
use Rattle.sd_safety.proofs.windows.Leading.{stands_by}
use Rattle.sd_safety.proofs.renewals.Closings.{past_by}

-- A past that neither acts nor is of a backup root goes on so, while it takes up nothing

pub record IsIdle (past : Past) : Type 0 where
  pub acts : is_acting past ≡ false
  pub role : is_backup_root_now past ≡ false

idle_after : (past : Past) (call : Call) → taken_up (transition_of past call) ≡ None → IsIdle past → IsIdle (after past call)
idle_after past call none idle =
    record {
      acts = false_from_ne_true (is_acting (after past call)) (λ acts. began (transition_of past call) refl (began_to_act past call idle.acts acts));
      role =
          ap (λ o. map_or (map_or (option_map Some o) (duty_now past) (λ told. told)) false
          (λ (duty : Duty). elim duty.role as (λ (x : Role). Bool) [ role.BackupRoot ↦ true | _ ↦ false ])) none
          ∙ idle.role;
    }
  where
    began : (transition : Transition) → transition_of past call ≡ transition → BeganToAct transition → ⊥
    began _ is by_takeover =
        let t : IsTakeover past call = is_takeover past call is in
        not_both (is_backup_root_now past) (takeover_from_backup past t.counter t.takes).backup_root idle.role
    began _ is (by_commit duty) = taken (sym (ap taken_up is) ∙ none)
      where
        taken : Some duty ≡ None → ⊥
        taken h = cc

-- an ordinary device's duty
ordinary_role : (net : Network) (plan : Plan) (epoch d : ℕ) (past : Past) → duty_now past ≡ Some (duty_of net plan epoch d) → is_root plan d ≡ false
    → is_backup_root plan d ≡ false → is_backup_root_now past ≡ false
ordinary_role net plan epoch d past duty other apart =
    ap (λ o. map_or o false (λ (u : Duty). elim u.role as (λ (x : Role). Bool) [ role.BackupRoot ↦ true | _ ↦ false ])) duty ∙ role_is
  where
    role_is : elim (duty_of net plan epoch d).role as (λ (x : Role). Bool) [ role.BackupRoot ↦ true | _ ↦ false ] ≡ false
    role_is = rw (other, apart) refl

past_parts : (u o n b : Bool) → (u && not (o || n || b)) ≡ true → (u ≡ true) × (o ≡ false) × (n ≡ false) × (b ≡ false)
past_parts true false false false is = (refl, refl, refl, refl)
past_parts true true n b is = cc
past_parts true false true b is = cc
past_parts true false false true is = cc
past_parts false o n b is = cc

-- an event that makes a device closes nothing
makes_closes_none : (setting : Setting) (e : Event) (history : List Event) (x : ℕ) → IsSteady setting (e ∷ history) → makes x e ≡ true
    → (next_step setting (chronicle setting history) e).seen.closed ≡ false
makes_closes_none setting (event.Start r d c clock eps) history x clean makes_ = start_closes_none setting history r d c clock eps clean
makes_closes_none setting (event.Join r d c clock eps) history x clean makes_ = join_closes_none setting history r d c clock eps clean
makes_closes_none setting _ history x clean makes_ = cc

-- a window that closes had its commit
closing_commits : (setting : Setting) (e : Event) (history : List Event) → IsSteady setting (e ∷ history)
    → (next_step setting (chronicle setting history) e).seen.closed ≡ true → has_commit (seen_of (chronicle setting history)) ≡ true
closing_commits setting (event.Seal r d) history clean closed = by (has_commit (seen_of (chronicle setting history))) refl
  where
    by : (b : Bool) → has_commit (seen_of (chronicle setting history)) ≡ b → has_commit (seen_of (chronicle setting history)) ≡ true
    by true is = is
    by false none =
        absurd (not_both (just_closed (chronicle setting (event.Seal r d ∷ history))) closed
        (none_closes_uncommitted setting history (event.Seal r d) refl refl none))
closing_commits setting e history clean closed =
    absurd (not_both (just_closed (chronicle setting (e ∷ history))) closed (others_close_none setting history e clean refl))

-- and comes when members can no longer start: the new backup root has heard a round, and nothing is emitted before
closing_is_late : (setting : Setting) (e : Event) (history : List Event) → AreGuarded setting → IsSteady setting (e ∷ history)
    → (next_step setting (chronicle setting history) e).seen.closed ≡ true → Invariant setting (chronicle setting (e ∷ history))
    → is_beginning setting (chronicle setting history) ≡ true → ⊥
closing_is_late setting (event.Seal r d) history fair clean closed inv begins =
    let one : List Step = chronicle setting history in
    let two : List Step = chronicle setting (event.Seal r d ∷ history) in
    let sound : IsSound setting.net (plan_now setting two) = sound_now setting (event.Seal r d ∷ history) fair clean.is in
    let b = (plan_now setting two).backup_root in
    let other : is_root (plan_now setting two) b ≡ false = unequal_swap b (plan_now setting two).root sound.apart in
    let member : belongs setting.net (plan_now setting two) b ≡ true =
    and_from (nat_lt b (length setting.net.devices)) (is_member (plan_now setting two) b)
    (lt-ltb b (length setting.net.devices) sound.fits.backup_root) sound.backup_member in
    let parts = and_parts (has_settled two (era two) b) _
    (implied (just_closed two && belongs setting.net (plan_now setting two) b) _ (inv.core.closed.members b)
    (and_from (just_closed two) (belongs setting.net (plan_now setting two) b) closed member)) in
    let primary : on_primary two b ≡ true =
    (and_parts (on_primary two b) _
    (sym (ap (λ c. if c then acts_in two b else (on_primary two b && nat_le (latest_reference (seen_of two)) (heard_at two b + silence setting.net))) other)
    ∙ parts.1)).0 in
    let new : is_new one b ≡ true =
    sym (ap (λ o. same_number o (era one + 1)) (epoch_sealed setting history r d b))
    ∙ sym (ap (same_number (epoch_in two b)) (era_grows (next_step setting one (event.Seal r d)) one closed))
    ∙ settled_epoch (live_answers two b) (era two) parts.0 in
    let own : NewPast one b = new_past_of setting history b new in
    let idle : is_acting own.past ≡ false =
    sym (acts_is setting history b own.past own.up own.there) ∙ sym (acts_sealed setting history r d b)
    ∙ idle_on (is_some (live_past two b) && not (moved two b)) (acts_in two b) primary in
    let h : IsHeard setting history b (era one + 1) =
    heard_in_plan setting history clean.is.0 b own.past own.there (era one + 1) own.epoch (less (era one)) idle in
    let premises = premises_of setting (seen_of one) (clean_before setting (event.Seal r d) history clean).premises in
    let is_chronicle = history_chronicle setting history clean.is.0 in
    let from : Emitted one h.message.stamp h.message.epoch =
    traced_emission setting one h.message.stamp h.message.epoch h.moment b h.inside
    (accepted_traced setting one is_chronicle premises.delay h.moment h.inside b h.link h.message h.counter h.past h.edge h.there h.act h.over) in
    let late = emission_late setting fair from.moment from.device from.message from.emits history
    (clean_before setting (event.Seal r d) history clean) from.is_in in
    let most = no_later setting from.moment one is_chronicle from.is_in in
    let soon = leb-true (latest_reference (seen_of one)) (all_started setting one) (and_parts (nat_eq (era one) 1) _ begins).1 in
    clash (all_started setting one) (when from.moment) (latest_reference (seen_of one)) late most soon
  where
    less : (a : ℕ) → a < a + 1
    less a = omega arith

    idle_on : (c a : Bool) → (c && not a) ≡ true → a ≡ false
    idle_on true true h = cc
    idle_on true false h = refl
    idle_on false a h = cc

    clash : (s w l : ℕ) → s < w → w ≤ l → l ≤ s → ⊥
    clash s w l a b c = omega (arith, a, b, c)
closing_is_late setting e history fair clean closed inv begins =
    absurd (not_both (just_closed (chronicle setting (e ∷ history))) closed (others_close_none setting history e clean refl))

-- Past devices

module _ (setting : Setting) (e : Event) (history : List Event) (fair : AreGuarded setting) (clean : IsSteady setting (e ∷ history))
    (each : AtEach (Invariant setting) (chronicle setting (e ∷ history))) (x : ℕ)
    (rest : (p : Past) → is_up (seen_of (chronicle setting history)) x ≡ true → is_past (chronicle setting history) x ≡ true
    → past_in (chronicle setting history) x ≡ Some p → IsIdle p)
    (past : Past) (up_now : is_up (seen_of (chronicle setting (e ∷ history))) x ≡ true) (gone : is_past (chronicle setting (e ∷ history)) x ≡ true)
    (there_now : past_in (chronicle setting (e ∷ history)) x ≡ Some past) where
  abbrev one : List Step
  one = chronicle setting history

  abbrev two : List Step
  two = chronicle setting (e ∷ history)

  abbrev s : Step
  s = next_step setting (chronicle setting history) e

  core : Core setting (chronicle setting history)
  core = core_of setting history each.0

  epoch_here : epoch_in (chronicle setting (e ∷ history)) x ≡ Some (epoch_now past)
  epoch_here = epoch_is setting (e ∷ history) x past up_now there_now

  apart : (is_up (seen_of (chronicle setting (e ∷ history))) x ≡ true) × (is_old (chronicle setting (e ∷ history)) x ≡ false)
      × (is_new (chronicle setting (e ∷ history)) x ≡ false) × (is_blank (chronicle setting (e ∷ history)) x ≡ false)
  apart = past_parts (is_up (seen_of two) x) (is_old two x) (is_new two x) (is_blank two x) gone

  not_number : (k : ℕ) → same_number (epoch_in (chronicle setting (e ∷ history)) x) k ≡ false → epoch_now past ≡ k → ⊥
  not_number k none is = not_both (nat_eq (epoch_now past) k) (eq-eqb (epoch_now past) k is) (sym (ap (λ o. same_number o k) epoch_here) ∙ none)

  not_old : epoch_now past ≡ era (chronicle setting (e ∷ history)) → ⊥
  not_old = not_number (era two) apart.1

  not_new_ : epoch_now past ≡ era (chronicle setting (e ∷ history)) + 1 → ⊥
  not_new_ = not_number (era two + 1) apart.2

  not_blank : epoch_now past ≡ 0 → ⊥
  not_blank = not_number 0 apart.3

  -- the era went on, or the next began
  eras : (c : Bool) → (next_step setting (chronicle setting history) e).seen.closed ≡ c
      → (c ≡ false × (era (chronicle setting (e ∷ history)) ≡ era (chronicle setting history)))
      ⊎ (c ≡ true × (era (chronicle setting (e ∷ history)) ≡ era (chronicle setting history) + 1))
  eras true closed = inr (refl, era_grows s one closed)
  eras false shut = inl (refl, era_kept s one shut)

  -- it took up nothing that is of the next plan
  not_next : epoch_now past ≡ era (chronicle setting history) + 1 → ⊥
  not_next is = elim (eras s.seen.closed refl) [
    | inl on ↦ not_new_ (is ∙ ap (λ n. n + 1) (sym on.1))
    | inr next ↦ not_old (is ∙ sym next.1)
  ]

  -- the device before the event
  module _ (p : Past) (up : is_up (seen_of (chronicle setting history)) x ≡ true) (there : past_in (chronicle setting history) x ≡ Some p)
      (same : epoch_now p ≡ epoch_now past) where
    epoch_then : epoch_in (chronicle setting history) x ≡ Some (epoch_now p)
    epoch_then = epoch_is setting history x p up there

    none_of : (k : ℕ) → (epoch_now past ≡ k → ⊥) → same_number (epoch_in (chronicle setting history) x) k ≡ false
    none_of k never = ap (λ o. same_number o k) epoch_then ∙ false_from_ne_true (nat_eq (epoch_now p) k) (λ is. never (sym same ∙ eqb-true (epoch_now p) k is))

    was_past : is_old (chronicle setting history) x ≡ false → is_past (chronicle setting history) x ≡ true
    was_past old =
        past_by (is_up (seen_of one) x) (is_old one x) (is_new one x) (is_blank one x) up old (none_of (era one + 1) not_next) (none_of 0 not_blank)

    -- it was old, and is left out by the plan that a closing brought in
    module _ (closed : (next_step setting (chronicle setting history) e).seen.closed ≡ true) (old : is_old (chronicle setting history) x ≡ true) where
      commit : has_commit (seen_of (chronicle setting history)) ≡ true
      commit = closing_commits setting e history clean closed

      plan_is : plan_now setting (chronicle setting (e ∷ history)) ≡ plan_numbered setting (era (chronicle setting history) + 1)
      plan_is = ap (plan_numbered setting) (era_grows s one closed)

      left_out : is_staged_member setting (seen_of (chronicle setting history)) x ≡ false
      left_out =
          false_from_ne_true (is_staged_member setting (seen_of one) x)
          (λ member.
          let now_member : is_member (plan_now setting two) x ≡ true =
          ap (λ q. is_member q x) plan_is
          ∙ sym (ap (λ (o : Option Plan). map_or o false (λ q. is_member q x)) (staged_some setting one (commit_is_open (seen_of one) commit))) ∙ member in
          let belongs_ : belongs setting.net (plan_now setting two) x ≡ true =
          and_from (nat_lt x (length setting.net.devices)) (is_member (plan_now setting two) x)
          (lt-ltb x (length setting.net.devices) (admitted_up_is_known setting (e ∷ history) clean.is x up_now)) now_member in
          let settled =
          (and_parts (has_settled two (era two) x) _
          (implied (just_closed two && belongs setting.net (plan_now setting two) x) _ (each.1.core.closed.members x)
          (and_from (just_closed two) (belongs setting.net (plan_now setting two) x) closed belongs_))).0 in
          not_both (is_old two x) (settled_epoch (live_answers two x) (era two) settled) apart.1)

      ordinary : is_ordinary (plan_now setting (chronicle setting history)) x ≡ true
      ordinary = elim (or_cases (list_all (left_out_is_hit setting one) (device_numbers setting.net))
          (list_any (begins_with setting one) (device_numbers setting.net)) core.committed.left_out) [
            | inl all ↦
                (let clause = passes (left_out_is_hit setting one)
                (among_below (length setting.net.devices) x (admitted_up_is_known setting history clean.is.0 x up)) all in
                (and_parts (hit setting one x) (is_ordinary (plan_now setting one) x)
                (implied (has_commit (seen_of one) && is_up (seen_of one) x && is_member (plan_now setting one) x
                && not (is_staged_member setting (seen_of one) x))
                _ clause
                (and_from (has_commit (seen_of one) && is_up (seen_of one) x && is_member (plan_now setting one) x)
                (not (is_staged_member setting (seen_of one) x))
                (and_from (has_commit (seen_of one) && is_up (seen_of one) x) (is_member (plan_now setting one) x)
                (and_from (has_commit (seen_of one)) (is_up (seen_of one) x) commit up) (old_is_member setting one x (core.census.outsiders x) old))
                (ap not left_out)))).1)
            | inr any ↦
                (let found : Passing (begins_with setting one) (device_numbers setting.net) =
                some_passing (begins_with setting one) (device_numbers setting.net) any in
                absurd (closing_is_late setting e history fair clean closed each.1 (and_parts _ (is_beginning setting one) found.passed).1))
          ]

      was_ordinary : IsIdle p
      was_ordinary =
          let own : IsOld setting one x = old_is setting history x old in
          let parts = stands_by (is_member (plan_now setting one) x) (is_root (plan_now setting one) x)
          (is_backup_root (plan_now setting one) x) ordinary in
          let same_past : own.past ≡ p = some_is (sym own.live ∙ ap (λ b. if b then past_in one x else None) up ∙ there) in
          record {
            acts =
                sym (acts_is setting history x p up there)
                ∙ not-true (acts_in one x)
                (implied (is_old one x && is_ordinary (plan_now setting one) x) (not (acts_in one x)) (core.roles.ordinary x)
                (and_from (is_old one x) (is_ordinary (plan_now setting one) x) old ordinary));
            role = ordinary_role setting.net (plan_now setting one) (era one) x p (sym (ap duty_now same_past) ∙ own.duty) parts.0 parts.1;
          }

    idle_then : IsIdle p
    idle_then = by s.seen.closed refl (is_old one x) refl
      where
        by : (c : Bool) → (next_step setting (chronicle setting history) e).seen.closed ≡ c → (o : Bool) → is_old (chronicle setting history) x ≡ o → IsIdle p
        by true closed true old = was_ordinary closed old
        by false shut true old =
            absurd (not_old (sym same ∙ eqb-true (epoch_now p) (era one) (sym (ap (λ n. same_number n (era one)) epoch_then) ∙ old)
            ∙ sym (era_kept s one shut)))
        by c closed false none = rest p up (was_past none) there

  idle_so : IsIdle past
  idle_so = by (makes x e) refl
    where
      made_here : makes x e ≡ true → ⊥
      made_here makes_ = elim (made_epoch setting e history x past makes_ there_now) [
        | inl is ↦ not_old (is ∙ sym (era_kept s one (makes_closes_none setting e history x clean makes_)))
        | inr none ↦ not_blank none
      ]

      by_call : is_up (seen_of (chronicle setting history)) x ≡ true → (p : Past) (call : Call) → past_in (chronicle setting history) x ≡ Some p
          → past ≡ after p call → (t : Option Duty) → taken_up (transition_of p call) ≡ t → IsIdle past
      by_call up p call there is None none =
          subst IsIdle (sym is)
          (idle_after p call none
          (idle_then p up there (sym (ap (λ o. map_or (map_or (option_map Some o) (duty_now p) (λ told. told)) 0 (λ (v : Duty). v.epoch)) none)
          ∙ sym (ap epoch_now is))))
      by_call up p call there is (Some u) takes =
          let ahead : IsAhead setting one x p u =
          always_ahead setting history fair (clean_before setting e history clean) each.0 x p up there u (takes_given p call u takes) in
          absurd
          (not_next (ap epoch_now is ∙ ap (λ o. map_or (map_or (option_map Some o) (duty_now p) (λ told. told)) 0 (λ (v : Duty). v.epoch)) takes
          ∙ ahead.number))

      by_went : makes x e ≡ false → is_up (seen_of (chronicle setting history)) x ≡ true → Went setting e history x → IsIdle past
      by_went none up (made makes_) = absurd (not_both (makes x e) makes_ none)
      by_went none up (called p call acted there now) = by_call up p call there (some_is (sym there_now ∙ now)) (taken_up (transition_of p call)) refl
      by_went none up (alone same did) = idle_then past up (sym same ∙ there_now) refl

      by : (b : Bool) → makes x e ≡ b → IsIdle past
      by true makes_ = absurd (made_here makes_)
      by false none = by_went none (up_case (makes x e) (fails (thing.Device x) e) (is_up (seen_of one) x) up_now none) (went setting e history x)

pub pasts_idle : (setting : Setting) (history : List Event) → AreGuarded setting → IsSteady setting history → AtEach (Invariant setting) (chronicle setting history)
    → (x : ℕ) (p : Past) → is_up (seen_of (chronicle setting history)) x ≡ true
    → is_past (chronicle setting history) x ≡ true → past_in (chronicle setting history) x ≡ Some p → IsIdle p
pasts_idle setting [] fair clean each x p up gone there = cc
pasts_idle setting (e ∷ history) fair clean each x p up gone there =
    idle_so setting e history fair clean each x
    (λ q up' gone' there'. pasts_idle setting history fair (clean_before setting e history clean) each.0 x q up' gone' there') p up gone there

-- Who acts

-- it is up, and old or new
pub record IsActor (setting : Setting) (steps : List Step) (a : ℕ) : Type 0 where
  pub past : Past
  pub up : is_up (seen_of steps) a ≡ true
  pub there : past_in steps a ≡ Some past
  pub acts : is_acting past ≡ true

module _ (setting : Setting) (history : List Event) (fair : AreGuarded setting) (clean : IsSteady setting history)
    (each : AtEach (Invariant setting) (chronicle setting history)) where
  abbrev steps : List Step
  steps = chronicle setting history

  core_now : Core setting (chronicle setting history)
  core_now = core_of setting history each

  pub actor_acts : (a : ℕ) → IsActor setting (chronicle setting history) a → acts_in (chronicle setting history) a ≡ true
  actor_acts a actor = acts_is setting history a actor.past actor.up actor.there ∙ actor.acts

  pub actor_is_current : (a : ℕ) → IsActor setting (chronicle setting history) a
      → (is_old (chronicle setting history) a ≡ true) ⊎ (is_new (chronicle setting history) a ≡ true)
  actor_is_current a actor = by (is_old steps a) (is_new steps a) refl refl
    where
      by : (o n : Bool) → is_old (chronicle setting history) a ≡ o → is_new (chronicle setting history) a ≡ n
          → (is_old (chronicle setting history) a ≡ true) ⊎ (is_new (chronicle setting history) a ≡ true)
      by true n old new = inl old
      by false true old new = inr new
      by false false old new =
          let blank : is_blank steps a ≡ false = no_blank (is_blank steps a) _ (acts_in steps a) (core_now.census.blanks a) (actor_acts a actor) in
          let idle : IsIdle actor.past =
          pasts_idle setting history fair clean each a actor.past actor.up
          (past_by (is_up (seen_of steps) a) (is_old steps a) (is_new steps a) (is_blank steps a) actor.up old new blank) actor.there in
          absurd (not_both (is_acting actor.past) actor.acts idle.acts)

  -- it counts as live
  counted_by : (u m j n past : Bool) → u ≡ true → past ≡ false → (not (u && not m) || (past || (j && n))) ≡ true → (u && (m || j)) ≡ true
  counted_by true true j n past up gone clause = refl
  counted_by true false true n past up gone clause = refl
  counted_by true false false n true up gone clause = cc
  counted_by true false false n false up gone clause = cc
  counted_by false m j n past up gone clause = cc

  not_past_by : (u o n b : Bool) → (o || n) ≡ true → (u && not (o || n || b)) ≡ false
  not_past_by false o n b either = refl
  not_past_by true true n b either = refl
  not_past_by true false true b either = refl
  not_past_by true false false b either = cc

  pub actor_counts : (a : ℕ) → IsActor setting (chronicle setting history) a → is_counted setting (seen_of (chronicle setting history)) a ≡ true
  actor_counts a actor =
      counted_by (is_up (seen_of steps) a) (is_member (plan_now setting steps) a) (joined_in_window (seen_of steps) a) (is_blank steps a || is_new steps a)
      (is_past steps a) actor.up
      (not_past_by (is_up (seen_of steps) a) (is_old steps a) (is_new steps a) (is_blank steps a) (either (actor_is_current a actor)))
      (core_now.census.outsiders a)
    where
      either : (is_old (chronicle setting history) a ≡ true) ⊎ (is_new (chronicle setting history) a ≡ true)
          → (is_old (chronicle setting history) a || is_new (chronicle setting history) a) ≡ true
      either (inl old) = or_left (is_old steps a) (is_new steps a) old
      either (inr new) = or_right (is_old steps a) (is_new steps a) new

  -- after a commit it is the staged root, before it the root or the backup root
  standing : HasStanding setting (chronicle setting history)
  standing =
      record {
        outsiders = λ x up. core_now.census.outsiders x;
        current = λ x up. core_now.census.current x;
        blanks = λ x up. core_now.census.blanks x;
        ordinary = λ x up. core_now.roles.ordinary x;
        failed_root = core_now.roles.failed_root;
        takeover = core_now.causes.takeover;
      }

  abbrev leader : ℕ
  leader =
      if has_commit (seen_of (chronicle setting history)) then staged_root setting (chronicle setting history)
      else if root_failed setting
      (chronicle setting history) then (plan_now setting (chronicle setting history)).backup_root else (plan_now setting (chronicle setting history)).root

  acting_by : (b acts : Bool) → (if b then acts else not acts) ≡ true → acts ≡ true → b ≡ true
  acting_by true acts is on = refl
  acting_by false true is on = cc
  acting_by false false is on = cc

  pub actor_leads : (a : ℕ) → IsActor setting (chronicle setting history) a → a ≡ leader
  actor_leads a actor = by (has_commit (seen_of steps)) refl
    where
      by : (c : Bool) → has_commit (seen_of (chronicle setting history)) ≡ c
          → a ≡ (if c then staged_root setting (chronicle setting history) else if root_failed setting
          (chronicle setting history) then (plan_now setting (chronicle setting history)).backup_root else (plan_now setting
          (chronicle setting history)).root)
      by true commit =
          let clause =
          implied (has_commit (seen_of steps) && is_counted setting (seen_of steps) a) _ (core_now.committed.acting a)
          (and_from (has_commit (seen_of steps)) (is_counted setting (seen_of steps) a) commit (actor_counts a actor)) in
          eqb-true a (staged_root setting steps) (acting_by (nat_eq a (staged_root setting steps)) (acts_in steps a) clause (actor_acts a actor))
      by false none = (who_acts setting history clean.is none standing a (actor_counts a actor) (actor_acts a actor)).is

  -- so there is one at most
  pub one_actor : (a b : ℕ) → IsActor setting (chronicle setting history) a → IsActor setting (chronicle setting history) b → a ≡ b
  one_actor a b first_ second = actor_leads a first_ ∙ sym (actor_leads b second)

  -- after a commit it is new
  pub actor_is_new : has_commit (seen_of (chronicle setting history)) ≡ true → (a : ℕ) → IsActor setting (chronicle setting history) a
      → is_new (chronicle setting history) a ≡ true
  actor_is_new commit a actor =
      let root_new = (and_parts (nat_eq (staged_root setting steps) _) _ (implied (has_commit (seen_of steps)) _ core_now.committed.committer commit)).1 in
      let is : a ≡ staged_root setting steps = actor_leads a actor
      ∙ ap (λ c. if c then staged_root setting steps else if root_failed setting
      steps then (plan_now setting steps).backup_root else (plan_now setting steps).root) commit in
      ap (is_new steps) is ∙ root_new

  -- it is not past
  current_by : (a : ℕ) → is_up (seen_of (chronicle setting history)) a ≡ true → is_new (chronicle setting history) a ≡ true
      → is_counted setting (seen_of (chronicle setting history)) a ≡ true
  current_by a up new =
      counted_by (is_up (seen_of steps) a) (is_member (plan_now setting steps) a) (joined_in_window (seen_of steps) a) (is_blank steps a || is_new steps a)
      (is_past steps a) up
      (not_past_by (is_up (seen_of steps) a) (is_old steps a) (is_new steps a) (is_blank steps a) (or_right (is_old steps a) (is_new steps a) new))
      (core_now.census.outsiders a)

  -- and after a commit the staged root acts
  acts_if : (b acts : Bool) → (if b then acts else not acts) ≡ true → b ≡ true → acts ≡ true
  acts_if true acts is b = is
  acts_if false acts is b = cc

  pub committed_actor : has_commit (seen_of (chronicle setting history)) ≡ true
      → IsActor setting (chronicle setting history) (staged_root setting (chronicle setting history))
  committed_actor commit =
      let root : ℕ = staged_root setting steps in
      let root_new : is_new steps root ≡ true =
      (and_parts (nat_eq (staged_root setting steps) _) _ (implied (has_commit (seen_of steps)) _ core_now.committed.committer commit)).1 in
      let own : NewPast steps root = new_past_of setting history root root_new in
      let clause =
      implied (has_commit (seen_of steps) && is_counted setting (seen_of steps) root) _ (core_now.committed.acting root)
      (and_from (has_commit (seen_of steps)) (is_counted setting (seen_of steps) root) commit (current_by root own.up root_new)) in
      let acts : acts_in steps root ≡ true = acts_if (nat_eq root root) (acts_in steps root) clause (eq-eqb root root refl) in
      record { past = own.past; up = own.up; there = own.there; acts = sym (acts_is setting history root own.past own.up own.there) ∙ acts }

  -- One that moved, does not act, and is a backup root by its duty is the old backup root
  module _ (x : ℕ) (p : Past) (up : is_up (seen_of (chronicle setting history)) x ≡ true) (there : past_in (chronicle setting history) x ≡ Some p)
      (idle : is_acting p ≡ false) (put : has_moved p ≡ true)
      (role_ : is_backup_root_now p ≡ true) where
    unmoved_by : (some moved_ acts : Bool) → (some && not moved_ && not acts) ≡ true → moved_ ≡ false
    unmoved_by true false acts is = refl
    unmoved_by true true acts is = cc
    unmoved_by false moved_ acts is = cc

    not_new_mover : is_new (chronicle setting history) x ≡ true → ⊥
    not_new_mover new = by (nat_eq x (staged_root setting steps)) refl
      where
        commit : has_commit (seen_of (chronicle setting history)) ≡ true
        commit = by (has_commit (seen_of steps)) refl
          where
            by : (c : Bool) → has_commit (seen_of (chronicle setting history)) ≡ c → has_commit (seen_of (chronicle setting history)) ≡ true
            by true is = is
            by false none = absurd (not_both (is_new steps x) new (not_new setting history x clean.is none))

        by : (b : Bool) → nat_eq x (staged_root setting (chronicle setting history)) ≡ b → ⊥
        by true is =
            let clause =
            implied (has_commit (seen_of steps) && is_counted setting (seen_of steps) x) _ (core_now.committed.acting x)
            (and_from (has_commit (seen_of steps)) (is_counted setting (seen_of steps) x) commit (current_by x up new)) in
            not_both (is_acting p) (sym (acts_is setting history x p up there)
            ∙ acts_if (nat_eq x (staged_root setting steps)) (acts_in steps x) clause is) idle
        by false apart =
            let linked =
            implied (is_new steps x && not (nat_eq x (staged_root setting steps))) _ (core_now.committed.linked x)
            (and_from (is_new steps x) (not (nat_eq x (staged_root setting steps))) new (ap not apart)) in
            let primary =
            (and_parts (on_primary steps x) _ (and_parts (on_primary steps x && map_or (parent_in steps x) false (is_new steps)) _ linked).0).0 in
            not_both (has_moved p) put (sym (moved_is setting history x p up there)
            ∙ unmoved_by (is_some (live_past steps x)) (moved steps x) (acts_in steps x) primary)

    with_duty : (o : Option Duty) → map_or o false (λ (u : Duty). elim u.role as (λ (z : Role). Bool) [ role.BackupRoot ↦ true | _ ↦ false ]) ≡ true
        → (u : Duty) × (o ≡ Some u)
    with_duty None is = cc
    with_duty (Some u) is = (u, refl)

    pub mover_old : is_old (chronicle setting history) x ≡ true
    mover_old = by (is_old steps x) refl
      where
        by : (b : Bool) → is_old (chronicle setting history) x ≡ b → is_old (chronicle setting history) x ≡ true
        by true is = is
        by false none =
            let has = with_duty (duty_now p) role_ in
            let least = (duty_numbered setting history x p there has.0 has.1).0 in
            let blank : is_blank steps x ≡ false =
            ap (λ o. same_number o 0) (epoch_is setting history x p up there)
            ∙ false_from_ne_true (nat_eq (epoch_now p) 0)
            (λ is. zero_not (epoch_now p) has.0.epoch (ap (λ o. map_or o 0 (λ (u : Duty). u.epoch)) has.1) (eqb-true (epoch_now p) 0 is) least) in
            let gone : is_past steps x ≡ true =
            past_by (is_up (seen_of steps) x) (is_old steps x) (is_new steps x) (is_blank steps x) up none
            (false_from_ne_true (is_new steps x) not_new_mover) blank in
            absurd (not_both (is_backup_root_now p) role_ (pasts_idle setting history fair clean each x p up gone there).role)
          where
            zero_not : (a k : ℕ) → a ≡ k → a ≡ 0 → 1 ≤ k → ⊥
            zero_not a k one_ two_ le = omega (arith, one_, two_, le)

    -- by its role
    backup_by : (r b : Bool) → is_root (plan_now setting (chronicle setting history)) x ≡ r
        → is_backup_root (plan_now setting (chronicle setting history)) x ≡ b
        → elim (role_of (plan_now setting (chronicle setting history)) x) as (λ (z : Role). Bool) [ role.BackupRoot ↦ true | _ ↦ false ] ≡ true → b ≡ true
    backup_by r true root backup is = refl
    backup_by true false root backup is = absurd (not_both _ is (rw root refl))
    backup_by false false root backup is = absurd (not_both _ is (rw (root, backup) refl))

    pub mover_backup : x ≡ (plan_now setting (chronicle setting history)).backup_root
    mover_backup =
        let own : IsOld setting steps x = old_is setting history x mover_old in
        let same_past : own.past ≡ p = some_is (sym own.live ∙ ap (λ b. if b then past_in steps x else None) up ∙ there) in
        let duty : duty_now p ≡ Some (duty_of setting.net (plan_now setting steps) (era steps) x) = sym (ap duty_now same_past) ∙ own.duty in
        let is = backup_by (is_root (plan_now setting steps) x) (is_backup_root (plan_now setting steps) x) refl refl
        (sym (ap (λ o. map_or o false (λ (u : Duty). elim u.role as (λ (z : Role). Bool) [ role.BackupRoot ↦ true | _ ↦ false ])) duty) ∙ role_) in
        sym (eqb-true (plan_now setting steps).backup_root x is)
