-- C9 b at a receipt: who was new stays new; who was old or blank with its duty given is so still, or has entered.
use Rattle.std.specs.Prelude.{◌≡◌, ℕ, ◌+◌, Bool, true, false, ◌&&◌, ◌||◌, List, ◌∷◌, nat_eq, nat_lt, length, Option, Some, None, is_some, option_map, option_and_then, refl, if◌then◌else◌}
use Rattle.std.proofs.Common.{◌∙◌, ap, sym, inl, inr}
use Rattle.std.proofs.lemmas.Bool.{and_parts, or_left, or_right, or_cases}
use Rattle.sd_num.specs.Lists.{map_or, same_number}
use Rattle.sd_plan.specs.declared.Duty.{Duty}
use Rattle.sd_plan.specs.declared.Plan.{Plan}
use Rattle.sd_plan.specs.Plans.{is_member}
use Rattle.sd_device.specs.declared.msg.Flight.{Flight}
use Rattle.sd_device.specs.declared.msg.Message.{Message}
use Rattle.sd_device.specs.Calls as calls
use Rattle.sd_device.specs.Calls.{Past}
use Rattle.sd_device.specs.Words.{after, transition_of, taken_up, duty_now, given_now, epoch_now}
use Rattle.sd_sched.specs.declared.Event.{Event}
use Rattle.sd_sched.specs.declared.Event.TheVariants as event
use Rattle.sd_sched.specs.Events.{is_commit}
use Rattle.sd_history.specs.World.{Setting, is_up, has_commit, staged_epoch}
use Rattle.sd_history.specs.Steps.{Calls, Passes, Answers, seen_of, flight_numbered, live_answers, given_in}
use Rattle.sd_history.specs.Chronicle.{answers_by, past_in, past_after, next_step, chronicle}
use Rattle.sd_history.proofs.Given.{takes_given}
use Rattle.sd_safety.specs.invariant.Eras.{era, will_belong, is_old, is_new, is_blank}
use Rattle.sd_safety.specs.invariant.Clauses.{member_enters}
use Rattle.sd_safety.specs.invariant.Guarded.{IsSteady}
use Rattle.sd_safety.proofs.invariant.Parents.{live_is}
use Rattle.sd_safety.proofs.invariant.Sides.{implied}
use Rattle.sd_safety.proofs.windows.Eras.{era_kept}
use Rattle.sd_safety.proofs.windows.NoClosing.{receipt_closes_none}
use Rattle.sd_safety.proofs.windows.Frames.{in_window_on, staged_on}
use Rattle.sd_safety.proofs.windows.Senders.{new_stays}
use Rattle.sd_safety.proofs.windows.Given.{kept_given}
use Rattle.sd_safety.proofs.invariant.Opening.{gives}

-- a device of this past is of the staged epoch, n + 1; or of the era, n, or blank, with the staged duty given
abbrev entered_as : ℕ → Option Answers → Bool
entered_as n a = same_number (option_map (λ x. x.epoch) a) (n + 1)

abbrev waits_as : ℕ → Option Answers → Bool
waits_as n a =
    (same_number (option_map (λ x. x.epoch) a) n || same_number (option_map (λ x. x.epoch) a) 0)
    && same_number (option_and_then (λ x. option_map (λ (u : Duty). u.epoch) x.given) a) (n + 1)

abbrev waits_by : ℕ → ℕ → Option Duty → Bool
waits_by n e g = (nat_eq e n || nat_eq e 0) && same_number (option_map (λ (u : Duty). u.epoch) g) (n + 1)

received : (n l c : ℕ) (m : Message) (q : Past) → waits_as n (Some (answers_by q)) ≡ true
    → (entered_as n (Some (answers_by (after q (calls.Receive l m c)))) || waits_as n (Some (answers_by (after q (calls.Receive l m c))))) ≡ true
received n l c m q was = go (taken_up (transition_of q (calls.Receive l m c))) refl
  where
    epoch_is : (t : Option Duty) → taken_up (transition_of q (calls.Receive l m c)) ≡ t
        → epoch_now (after q (calls.Receive l m c)) ≡ map_or (map_or (option_map Some t) (duty_now q) (λ told. told)) 0 (λ u. u.epoch)
    epoch_is t takes = ap (λ o. map_or (map_or (option_map Some o) (duty_now q) (λ told. told)) 0 (λ u. u.epoch)) takes

    go : (t : Option Duty) → taken_up (transition_of q (calls.Receive l m c)) ≡ t
        → (entered_as n (Some (answers_by (after q (calls.Receive l m c)))) || waits_as n (Some (answers_by (after q (calls.Receive l m c))))) ≡ true
    go None takes =
        or_right (entered_as n (Some (answers_by (after q (calls.Receive l m c))))) _
        (ap (λ k. waits_by n k (given_now (after q (calls.Receive l m c)))) (epoch_is None takes)
        ∙ ap (waits_by n (epoch_now q))
        (kept_given (record { call = calls.Receive l m c; transition = transition_of q (calls.Receive l m c) }) q.did
        (is_some (taken_up (transition_of q (calls.Receive l m c)))) refl (ap is_some takes) refl) ∙ was)
    go (Some u) takes =
        let gave = (and_parts (nat_eq (epoch_now q) n || nat_eq (epoch_now q) 0)
        (same_number (option_map (λ (v : Duty). v.epoch) (given_now q)) (n + 1)) was).1 in
        or_left (entered_as n (Some (answers_by (after q (calls.Receive l m c))))) _
        (ap (λ k. nat_eq k (n + 1)) (epoch_is (Some u) takes)
        ∙ sym (ap (λ g. same_number (option_map (λ (v : Duty). v.epoch) g) (n + 1)) (takes_given q (calls.Receive l m c) u takes)) ∙ gave)

step_enters : (n d x c : ℕ) (up : Bool) (p : Option Past) (o : Option Flight) → waits_as n (option_map answers_by (if up then p else None)) ≡ true
    → (entered_as n (option_map answers_by (if up then past_after (map_or o Passes (λ f. Calls d (calls.Receive f.link f.message c))) x p else None))
    || waits_as n (option_map answers_by (if up then past_after (map_or o Passes (λ f. Calls d (calls.Receive f.link f.message c))) x p else None))) ≡ true
step_enters n d x c false p o was = cc
step_enters n d x c true None o was = cc
step_enters n d x c true (Some q) None was = or_right (entered_as n (Some (answers_by q))) _ was
step_enters n d x c true (Some q) (Some f) was = go (nat_eq d x)
  where
    go : (b : Bool)
        → (entered_as n (option_map answers_by (if b then Some (after q (calls.Receive f.link f.message c)) else Some q))
        || waits_as n (option_map answers_by (if b then Some (after q (calls.Receive f.link f.message c)) else Some q))) ≡ true
    go true = received n f.link c f.message q was
    go false = or_right (entered_as n (Some (answers_by q))) _ was

-- C9 b at a receipt
pub receipt_keeps_entering : (setting : Setting) (r d c k : ℕ) (history : List Event) → IsSteady setting (event.Recv r d c k ∷ history) → (x : ℕ)
    → member_enters setting (chronicle setting history) x ≡ true
    → member_enters setting (chronicle setting (event.Recv r d c k ∷ history)) x ≡ true
receipt_keeps_entering setting r d c k history clean x before =
    gives (has_commit (seen_of (chronicle setting (event.Recv r d c k ∷ history))) && will_belong setting (chronicle setting (event.Recv r d c k ∷ history)) x)
    _ shown
  where
    shut : (next_step setting (chronicle setting history) (event.Recv r d c k)).seen.closed ≡ false
    shut = receipt_closes_none setting history r d c k

    era_same : era (chronicle setting (event.Recv r d c k ∷ history)) ≡ era (chronicle setting history)
    era_same = era_kept (next_step setting (chronicle setting history) (event.Recv r d c k)) (chronicle setting history) shut

    -- in the words of what it answers
    by_answers : (entered_as (era (chronicle setting history)) (live_answers (chronicle setting (event.Recv r d c k ∷ history)) x)
        || waits_as (era (chronicle setting history)) (live_answers (chronicle setting (event.Recv r d c k ∷ history)) x)) ≡ true
        → (is_new (chronicle setting (event.Recv r d c k ∷ history)) x
        || ((is_old (chronicle setting (event.Recv r d c k ∷ history)) x || is_blank (chronicle setting (event.Recv r d c k ∷ history)) x)
        && same_number (given_in (chronicle setting (event.Recv r d c k ∷ history)) x)
        (staged_epoch (seen_of (chronicle setting (event.Recv r d c k ∷ history)))))) ≡ true
    by_answers is =
        ap (λ n. entered_as n (live_answers (chronicle setting (event.Recv r d c k ∷ history)) x)
        || waits_as n (live_answers (chronicle setting (event.Recv r d c k ∷ history)) x)) era_same ∙ is

    waits : waits_as (era (chronicle setting history)) (live_answers (chronicle setting history) x) ≡ true
        → (entered_as (era (chronicle setting history)) (live_answers (chronicle setting (event.Recv r d c k ∷ history)) x)
        || waits_as (era (chronicle setting history)) (live_answers (chronicle setting (event.Recv r d c k ∷ history)) x)) ≡ true
    waits was =
        ap (λ a. entered_as (era (chronicle setting history)) a || waits_as (era (chronicle setting history)) a)
        (live_is setting (event.Recv r d c k ∷ history) x)
        ∙ step_enters (era (chronicle setting history)) d x c (is_up (seen_of (chronicle setting history)) x) (past_in (chronicle setting history) x)
        (flight_numbered (chronicle setting history) k)
        (sym (ap (waits_as (era (chronicle setting history))) (live_is setting history x)) ∙ was)

    shown : (has_commit (seen_of (chronicle setting (event.Recv r d c k ∷ history)))
        && will_belong setting (chronicle setting (event.Recv r d c k ∷ history)) x) ≡ true
        → (is_new (chronicle setting (event.Recv r d c k ∷ history)) x
        || ((is_old (chronicle setting (event.Recv r d c k ∷ history)) x || is_blank (chronicle setting (event.Recv r d c k ∷ history)) x)
        && same_number (given_in (chronicle setting (event.Recv r d c k ∷ history)) x)
        (staged_epoch (seen_of (chronicle setting (event.Recv r d c k ∷ history)))))) ≡ true
    shown both =
        let same_commit =
        in_window_on setting (next_step setting (chronicle setting history) (event.Recv r d c k)) (chronicle setting history) shut
        (λ y. is_commit y.event) refl refl in
        let same_staged = staged_on setting (next_step setting (chronicle setting history) (event.Recv r d c k)) (chronicle setting history) shut refl in
        let was = sym (ap (λ h. h && will_belong setting (chronicle setting (event.Recv r d c k ∷ history)) x) same_commit
        ∙ ap (λ o. has_commit (seen_of (chronicle setting history))
        && (nat_lt x (length setting.net.devices) && map_or o false (λ (plan : Plan). is_member plan x))) same_staged) ∙ both in
        elim (or_cases (is_new (chronicle setting history) x) _
        (implied (has_commit (seen_of (chronicle setting history)) && will_belong setting (chronicle setting history) x) _ before was)) [
          | inl new ↦ or_left (is_new (chronicle setting (event.Recv r d c k ∷ history)) x) _ (new_stays setting (event.Recv r d c k) history clean shut x new)
          | inr old ↦ by_answers (waits old)
        ]
