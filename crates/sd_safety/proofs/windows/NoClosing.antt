-- The window closes with no tick, receipt, fix or commit: such an event seals nobody, so who is of the staged plan and sealed after it was so before.
-- With Closings of the invariant's crate: a window closes with a seal alone (23).
use Rattle.std.specs.Prelude.{◌≡◌, ℕ, Bool, true, false, ◌&&◌, ◌||◌, not, List, [], ◌∷◌, cond, find, length, filter, nat_eq, nat_le, Option, Some, None, is_some, option_map, refl, if◌then◌else◌}
use Rattle.std.specs.List.{list_any, list_all}
use Rattle.std.proofs.Common.{◌∙◌, ap, sym}
use Rattle.std.proofs.lemmas.Bool.{and_parts, and_from, false_from_ne_true, not-true}
use Rattle.sd_num.specs.Lists.{map_or, same_number, leading}
use Rattle.sd_plan.specs.declared.Duty.{Duty}
use Rattle.sd_plan.specs.Plans.{members}
use Rattle.sd_num.proofs.Shared.{all_imply}
use Rattle.sd_device.specs.declared.msg.Flight.{Flight}
use Rattle.sd_device.specs.Calls as calls
use Rattle.sd_device.specs.Calls.{Call, CallDone, Past}
use Rattle.sd_device.specs.Words.{after, transition_of, taken_up, takes_up, duty_now, epoch_now, is_seal as is_seal_call, is_sealed}
use Rattle.sd_sched.specs.declared.Event.{Event}
use Rattle.sd_sched.specs.declared.Event.TheVariants as event
use Rattle.sd_sched.specs.Events.{is_commit}
use Rattle.sd_history.specs.World.{Setting, Seen, is_up, window, has_commit, staged_epoch, plan_numbered}
use Rattle.sd_history.specs.Steps.{Act, Makes, Calls, Asks, Passes, Answers, Step, seen_of, act_by, first_step, flight_numbered, live_answers, has_settled}
use Rattle.sd_history.specs.Chronicle.{answers_by, past_in, past_after, told_by, chronicle}
use Rattle.sd_history.specs.Admitted.{IsAdmitted}
use Rattle.sd_history.proofs.Among.{Among, first, passes}
use Rattle.sd_safety.specs.invariant.Eras.{is_new, live_past}
use Rattle.sd_safety.specs.invariant.Clauses.{just_closed}
use Rattle.sd_safety.proofs.invariant.Parents.{live_is}
use Rattle.sd_safety.proofs.invariant.Closings.{no_window_closes}
use Rattle.sd_safety.proofs.invariant.Sides.{implied, not_both}
use Rattle.sd_safety.proofs.windows.Eras.{committing}
use Rattle.sd_safety.proofs.windows.NoneBeforeCommit.{uncommitted}

-- Who is sealed after a call other than a seal was sealed before it, and took up nothing.

sealed_by : (x : CallDone) (did : List CallDone) (b : Bool) → is_seal_call x.call ≡ false
    → (not (is_some (cond b (Some x) (find takes_up did))) || list_any (λ y. is_seal_call y.call) (cond (not b) (x ∷ leading (λ y. not (takes_up y)) did) []))
    ≡ true
    → (b ≡ false) × ((not (is_some (find takes_up did)) || list_any (λ y. is_seal_call y.call) (leading (λ y. not (takes_up y)) did)) ≡ true)
sealed_by x did true unsealed is = cc
sealed_by x did false unsealed is =
    (refl, go (is_some (find takes_up did)) (is_seal_call x.call) (list_any (λ y. is_seal_call y.call) (leading (λ y. not (takes_up y)) did)) unsealed is)
  where
    go : (a s r : Bool) → s ≡ false → (not a || (s || r)) ≡ true → (not a || r) ≡ true
    go a true r unsealed1 is' = cc
    go a false r unsealed1 is' = is'

unsettled : (past : Past) (call : Call) (n : ℕ) → is_seal_call call ≡ false → (nat_eq (epoch_now (after past call)) n && is_sealed (after past call)) ≡ true
    → (nat_eq (epoch_now past) n && is_sealed past) ≡ true
unsettled past call n unsealed is =
    let both = and_parts (nat_eq (epoch_now (after past call)) n) (is_sealed (after past call)) is in
    let x : CallDone = record { call = call; transition = transition_of past call } in
    let back = sealed_by x past.did (takes_up x) unsealed both.1 in
    and_from (nat_eq (epoch_now past) n) (is_sealed past)
    (sym (ap (λ o. nat_eq (map_or o 0 (λ u. u.epoch)) n) (keeps (taken_up (transition_of past call)) back.0)) ∙ both.0) back.1
  where
    keeps : (t : Option Duty) → is_some t ≡ false → map_or (option_map Some t) (duty_now past) (λ told. told) ≡ duty_now past
    keeps None none = refl
    keeps (Some u) none = cc

abbrev settles : ℕ → Option Past → Bool
settles n p = map_or (option_map answers_by p) false (λ a. nat_eq a.epoch n && a.sealed)

-- the act makes nobody and seals nobody
abbrev SealsNone : Act → Type 0
SealsNone (Makes d making) = ⊥
SealsNone (Calls d call) = is_seal_call call ≡ false
SealsNone (Asks d counter) = Unit {0}
SealsNone Passes = Unit {0}

settled_act : (n x : ℕ) (up : Bool) (act : Act) (p : Option Past) → SealsNone act → settles n (if up then past_after act x p else None) ≡ true
    → settles n (if up then p else None) ≡ true
settled_act n x false act p none is = is
settled_act n x true (Makes d making) p none is = absurd none
settled_act n x true (Calls d call) p none is = go (nat_eq d x) p is
  where
    go : (b : Bool) (q : Option Past) → settles n (if b then option_map (λ past. after past call) q else q) ≡ true → settles n q ≡ true
    go true None is' = cc
    go true (Some past) is' = unsettled past call n none is'
    go false q is' = is'
settled_act n x true (Asks d counter) p none is = is
settled_act n x true Passes p none is = is

-- the window can close, by the window, the settled and the present
abbrev pub closing : Setting → ℕ → (ℕ → Bool) → (ℕ → Bool) → Option (List Seen) → Bool
closing setting n up settled w =
    map_or w false (list_any (λ x. is_commit x.event))
    && map_or (option_map (λ v. plan_numbered setting n) w) false (λ plan.
    let present = filter up (members setting.net plan) in
    nat_le 1 (length present) && list_all settled present)

module _ (setting : Setting) (history : List Event) (e : Event) where
  -- the step before it is known whether the window closes
  abbrev pub begun : Step
  begun = first_step setting (chronicle setting history) e (told_by (chronicle setting history) (act_by setting (chronicle setting history) e))

  settled_is : (n x : ℕ) → has_settled (chronicle setting (e ∷ history)) n x ≡ settles n (live_past (chronicle setting (e ∷ history)) x)
  settled_is n x = ap (λ o. map_or o false (λ a. nat_eq a.epoch n && a.sealed)) (live_is setting (e ∷ history) x)

  settled_was : (n x : ℕ) → has_settled (chronicle setting history) n x ≡ settles n (live_past (chronicle setting history) x)
  settled_was n x = ap (λ o. map_or o false (λ a. nat_eq a.epoch n && a.sealed)) (live_is setting history x)

  -- who has settled after the event had settled before it
  pub had_settled : SealsNone (act_by setting (chronicle setting history) e) → (n x : ℕ)
      → is_up (seen_of (chronicle setting (e ∷ history))) x ≡ is_up (seen_of (chronicle setting history)) x
      → has_settled (chronicle setting (e ∷ history)) n x ≡ true → has_settled (chronicle setting history) n x ≡ true
  had_settled none n x same is =
      settled_was n x
      ∙ settled_act n x (is_up (seen_of (chronicle setting history)) x) (act_by setting (chronicle setting history) e)
      (past_in (chronicle setting history) x) none
      (ap (λ b. settles n (if b then past_after (act_by setting (chronicle setting history) e) x (past_in (chronicle setting history) x) else None)) (sym same)
      ∙ sym (settled_is n x) ∙ is)

shut_by : (setting : Setting) (s : Seen) (n : ℕ) (up now was : ℕ → Bool) (w : Option (List Seen)) → is_commit s.event ≡ false
    → ((x : ℕ) → now x ≡ true → was x ≡ true) → closing setting n up was w ≡ false
    → closing setting n up now (option_map (λ v. s ∷ v) w) ≡ false
shut_by setting s n up now was None none more shut = refl
shut_by setting s n up now was (Some v) none more shut = false_from_ne_true _ (λ open_. not_both (closing setting n up was (Some v)) (again open_) shut)
  where
    present : List ℕ
    present = filter up (members setting.net (plan_numbered setting n))

    again : closing setting n up now (Some (s ∷ v)) ≡ true → closing setting n up was (Some v) ≡ true
    again open_ =
        let parts = and_parts (is_commit s.event || list_any (λ x. is_commit x.event) v) _ open_ in
        let rest = and_parts (nat_le 1 (length (filter up (members setting.net (plan_numbered setting n)))))
        (list_all now (filter up (members setting.net (plan_numbered setting n)))) parts.1 in
        and_from (list_any (λ x. is_commit x.event) v) _ (sym (ap (λ b. b || list_any (λ x. is_commit x.event) v) none) ∙ parts.0)
        (and_from (nat_le 1 (length (filter up (members setting.net (plan_numbered setting n))))) _ rest.0 (all_imply now was _ more rest.1))

seals_none_received : (d c : ℕ) (o : Option Flight) → SealsNone (map_or o Passes (λ f. Calls d (calls.Receive f.link f.message c)))
seals_none_received d c None = tt
seals_none_received d c (Some f) = refl

module _ (setting : Setting) (history : List Event) where
  abbrev now_settled : Event → ℕ → Bool
  now_settled e x = has_settled (chronicle setting (e ∷ history)) (staged_epoch (seen_of (chronicle setting history))) x

  abbrev was_settled : ℕ → Bool
  was_settled x = has_settled (chronicle setting history) (staged_epoch (seen_of (chronicle setting history))) x

  pub tick_closes_none : (r d c : ℕ) → just_closed (chronicle setting (event.Tick r d c ∷ history)) ≡ false
  tick_closes_none r d c =
      let e : Event = event.Tick r d c in
      shut_by setting (begun setting history e).seen (staged_epoch (seen_of (chronicle setting history))) (is_up (seen_of (chronicle setting history)))
      (now_settled e) was_settled (window (seen_of (chronicle setting history))) refl
      (λ x. had_settled setting history e refl (staged_epoch (seen_of (chronicle setting history))) x refl) (no_window_closes setting history)

  pub fix_closes_none : (r d c clock eps : ℕ) → just_closed (chronicle setting (event.Fix r d c clock eps ∷ history)) ≡ false
  fix_closes_none r d c clock eps =
      let e : Event = event.Fix r d c clock eps in
      shut_by setting (begun setting history e).seen (staged_epoch (seen_of (chronicle setting history))) (is_up (seen_of (chronicle setting history)))
      (now_settled e) was_settled (window (seen_of (chronicle setting history))) refl
      (λ x. had_settled setting history e refl (staged_epoch (seen_of (chronicle setting history))) x refl) (no_window_closes setting history)

  pub receipt_closes_none : (r d c n : ℕ) → just_closed (chronicle setting (event.Recv r d c n ∷ history)) ≡ false
  receipt_closes_none r d c n =
      let e : Event = event.Recv r d c n in
      shut_by setting (begun setting history e).seen (staged_epoch (seen_of (chronicle setting history))) (is_up (seen_of (chronicle setting history)))
      (now_settled e) was_settled (window (seen_of (chronicle setting history))) refl
      (λ x. had_settled setting history e (seals_none_received d c (flight_numbered (chronicle setting history) n))
      (staged_epoch (seen_of (chronicle setting history))) x refl) (no_window_closes setting history)

-- A commit closes none: before it nobody is new.

some_first : (xs : List ℕ) → nat_le 1 (length xs) ≡ true → (x : ℕ) × Among x xs
some_first [] long = cc
some_first (x ∷ xs) long = (x, first)

module _ (setting : Setting) (history : List Event) where
  settled_is_new : (x : ℕ) → IsAdmitted setting history → has_commit (seen_of (chronicle setting history)) ≡ false
      → has_settled (chronicle setting history) (staged_epoch (seen_of (chronicle setting history))) x ≡ true → ⊥
  settled_is_new x is none settled =
      let new : is_new (chronicle setting history) x ≡ true = epoch_of (live_answers (chronicle setting history) x) settled in
      not_both (is_new (chronicle setting history) x) new
      (not-true (is_new (chronicle setting history) x)
      (implied (not (has_commit (seen_of (chronicle setting history)))) (not (is_new (chronicle setting history) x))
      ((uncommitted setting history is).devices x) (ap not none)))
    where
      epoch_of : (o : Option Answers) → map_or o false (λ a. nat_eq a.epoch (staged_epoch (seen_of (chronicle setting history))) && a.sealed) ≡ true
          → same_number (option_map (λ a. a.epoch) o) (staged_epoch (seen_of (chronicle setting history))) ≡ true
      epoch_of None s = cc
      epoch_of (Some a) s = (and_parts (nat_eq a.epoch (staged_epoch (seen_of (chronicle setting history)))) a.sealed s).0

  commit_shuts_none : (s : Seen) (n : ℕ) (up now : ℕ → Bool) (w : Option (List Seen)) → ((x : ℕ) → now x ≡ true → ⊥)
      → closing setting n up now (option_map (λ v. s ∷ v) w) ≡ true → ⊥
  commit_shuts_none s n up now None never open_ = cc
  commit_shuts_none s n up now (Some v) never open_ =
      let parts = and_parts (is_commit s.event || list_any (λ x. is_commit x.event) v) _ open_ in
      let rest = and_parts (nat_le 1 (length (filter up (members setting.net (plan_numbered setting n)))))
      (list_all now (filter up (members setting.net (plan_numbered setting n)))) parts.1 in
      let one = some_first (filter up (members setting.net (plan_numbered setting n))) rest.0 in
      never one.0 (passes now one.1 rest.1)

  pub commit_closes_none : (r d c : ℕ) → IsAdmitted setting (event.Commit r d c ∷ history)
      → just_closed (chronicle setting (event.Commit r d c ∷ history)) ≡ false
  commit_closes_none r d c is =
      let e : Event = event.Commit r d c in
      false_from_ne_true _
      (commit_shuts_none (begun setting history e).seen (staged_epoch (seen_of (chronicle setting history))) (is_up (seen_of (chronicle setting history)))
      (now_settled setting history e) (window (seen_of (chronicle setting history)))
      (λ x settled. settled_is_new x is.0 (committing setting r d c history is).first_one
      (had_settled setting history e refl (staged_epoch (seen_of (chronicle setting history))) x refl settled)))
