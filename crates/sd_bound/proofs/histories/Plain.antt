-- Histories without a stage: there is no window and nothing closes, so plan 1 is in force all along; and many kinds of events do not come.
use Rattle.std.specs.Prelude.{◌≡◌, ◌+◌, Bool, true, false, ◌&&◌, ◌||◌, not, List, [], ◌∷◌, cond, count_by, Option, Some, None, is_some, refl}
use Rattle.std.specs.List.{list_any, list_all}
use Rattle.std.proofs.Common.{◌∙◌, ap}
use Rattle.std.proofs.lemmas.Bool.{and_parts, or_parts, or_from, not-true, both_ways}
use Rattle.std.proofs.lemmas.List.Sums.{sum_by-cons}
use Rattle.sd_num.specs.Lists.{map_or}
use Rattle.sd_plan.specs.topo.Network.{Network}
use Rattle.sd_plan.specs.declared.Plan.{Plan}
use Rattle.sd_sched.specs.declared.Event.{Event}
use Rattle.sd_sched.specs.Events.{given, joined, is_stage, is_commit, is_seal}
use Rattle.sd_history.specs.Things.{mended}
use Rattle.sd_history.specs.World.{Setting, Seen, window, in_window, has_commit, epoch_in_force, plan_numbered, alone}
use Rattle.sd_history.specs.Steps.{seen_of}
use Rattle.sd_history.specs.Chronicle.{chronicle, next_step}
use Rattle.sd_history.specs.Admitted.{IsAdmitted}
use Rattle.sd_safety.specs.invariant.Eras.{plan_now}
use Rattle.sd_safety.proofs.invariant.Orders.{orderly, staged_before}
use Rattle.sd_safety.proofs.invariant.Closings.{none_closes_uncommitted}
use Rattle.sd_safety.specs.messages.Moments.{Tail, whole, behind}

-- a history without a stage
pub record IsPlain (setting : Setting) (history : List Event) : Type 0 where
  pub is : IsAdmitted setting history
  pub unstaged : list_any (λ s. is_stage s.event) (seen_of (chronicle setting history)) ≡ false

pub plain_before : (setting : Setting) (e : Event) (history : List Event) → IsPlain setting (e ∷ history) → IsPlain setting history
plain_before setting e history plain =
    record { is = plain.is.0; unstaged = (or_parts (is_stage e) (list_any (λ s. is_stage s.event) (seen_of (chronicle setting history))) plain.unstaged).1 }

pub tail_plain : (setting : Setting) {older history : List Event} → Tail older history → IsPlain setting history → IsPlain setting older
tail_plain setting whole plain = plain
tail_plain setting (behind {x = e} {xs = history} t) plain = tail_plain setting t (plain_before setting e history plain)

-- the test fails of each where its opposite holds of all
pub none_any : {A : Type 0} (test : A → Bool) (xs : List A) → list_all (λ x. not (test x)) xs ≡ true → list_any test xs ≡ false
none_any test [] all = refl
none_any test (x ∷ xs) all =
    let parts = and_parts (not (test x)) (list_all (λ y. not (test y)) xs) all in
    or_from (test x) (list_any test xs) (not-true (test x) parts.0) (none_any test xs parts.1)

-- Windows

pub no_window : (setting : Setting) (history : List Event) → IsPlain setting history → window (seen_of (chronicle setting history)) ≡ None
no_window setting history plain = go (window (seen_of (chronicle setting history))) refl (staged_before (seen_of (chronicle setting history)))
  where
    go : (w : Option (List Seen)) → window (seen_of (chronicle setting history)) ≡ w
        → (is_some w ≡ true → list_any (λ s. is_stage s.event) (seen_of (chronicle setting history)) ≡ true) → w ≡ None
    go None is came = refl
    go (Some v) is came = absurd (both_ways (list_any (λ s. is_stage s.event) (seen_of (chronicle setting history))) plain.unstaged (came refl))

pub not_in_window : (setting : Setting) (history : List Event) → IsPlain setting history → (test : Seen → Bool)
    → in_window test (seen_of (chronicle setting history)) ≡ false
not_in_window setting history plain test = ap (λ w. map_or w false (list_any test)) (no_window setting history plain)

-- Events

-- an event that may come where no window is open
pub record IsPlainEvent (e : Event) : Type 0 where
  pub stage : is_stage e ≡ false
  pub given : is_some (given e) ≡ false
  pub joined : is_some (joined e) ≡ false
  pub mended : is_some (mended e) ≡ false
  pub commit : is_commit e ≡ false
  pub seal : is_seal e ≡ false

none_of : (g j m k commit : Bool) (w : Option (List Seen)) → ((g || j || m || k) && (not (is_some w) || commit)) ≡ false → w ≡ None
    → (g ≡ false) × (j ≡ false) × (m ≡ false) × (k ≡ false)
none_of g j m k commit (Some v) order shut = cc
none_of false false false false commit None order shut = (refl, refl, refl, refl)
none_of false false false true commit None order shut = cc
none_of false false true k commit None order shut = none_third k order
  where
    none_third : (k : Bool) → ((false || false || true || k) && true) ≡ false → (false ≡ false) × (false ≡ false) × (true ≡ false) × (k ≡ false)
    none_third true h = cc
    none_third false h = cc
none_of false true m k commit None order shut = none_second m k order
  where
    none_second : (m k : Bool) → ((false || true || m || k) && true) ≡ false → (false ≡ false) × (true ≡ false) × (m ≡ false) × (k ≡ false)
    none_second true true h = cc
    none_second true false h = cc
    none_second false true h = cc
    none_second false false h = cc
none_of true j m k commit None order shut = none_first j m k order
  where
    none_first : (j m k : Bool) → ((true || j || m || k) && true) ≡ false → (true ≡ false) × (j ≡ false) × (m ≡ false) × (k ≡ false)
    none_first true true true h = cc
    none_first true true false h = cc
    none_first true false true h = cc
    none_first true false false h = cc
    none_first false true true h = cc
    none_first false true false h = cc
    none_first false false true h = cc
    none_first false false false h = cc

no_seal : (seal commit : Bool) (w : Option (List Seen)) → (seal && (not (is_some w) || not commit)) ≡ false → w ≡ None → seal ≡ false
no_seal seal commit (Some v) order shut = cc
no_seal true commit None order shut = cc
no_seal false commit None order shut = refl

pub plain_event : (setting : Setting) (e : Event) (history : List Event) → IsPlain setting (e ∷ history) → IsPlainEvent e
plain_event setting e history plain =
    let seen = seen_of (chronicle setting history) in
    let order = orderly setting e history plain.is in
    let shut = no_window setting history (plain_before setting e history plain) in
    let none = none_of (is_some (given e)) (is_some (joined e)) (is_some (mended e)) (is_commit e) (has_commit seen) (window seen) order.prepares shut in
    record {
      stage = (or_parts (is_stage e) (list_any (λ s. is_stage s.event) seen) plain.unstaged).0;
      given = none.0;
      joined = none.1;
      mended = none.2;
      commit = none.3;
      seal = no_seal (is_seal e) (has_commit seen) (window seen) order.seals shut;
    }

-- Nothing closes.

pub not_closed : (setting : Setting) (e : Event) (history : List Event) → IsPlain setting (e ∷ history)
    → (next_step setting (chronicle setting history) e).seen.closed ≡ false
not_closed setting e history plain =
    let event = plain_event setting e history plain in
    none_closes_uncommitted setting history e event.stage event.commit
    (not_in_window setting history (plain_before setting e history plain) (λ s. is_commit s.event))

pub none_closed : (setting : Setting) (history : List Event) → IsPlain setting history → list_any (λ s. s.closed) (seen_of (chronicle setting history)) ≡ false
none_closed setting [] plain = refl
none_closed setting (e ∷ history) plain =
    or_from (next_step setting (chronicle setting history) e).seen.closed (list_any (λ s. s.closed) (seen_of (chronicle setting history)))
    (not_closed setting e history plain)
    (none_closed setting history (plain_before setting e history plain))

none_counted : (seen : List Seen) → list_any (λ s. s.closed) seen ≡ false → count_by (λ s. s.closed) seen ≡ 0
none_counted [] none = refl
none_counted (s ∷ seen) none =
    let parts = or_parts s.closed (list_any (λ x. x.closed) seen) none in
    sum_by-cons (λ (x : Seen). cond x.closed 1 0) s seen ∙ ap (λ b. cond b 1 0 + count_by (λ (x : Seen). x.closed) seen) parts.0
    ∙ ap (λ n. 0 + n) (none_counted seen parts.1)

-- plan 1 is in force
pub first_epoch : (setting : Setting) (history : List Event) → IsPlain setting history → epoch_in_force (seen_of (chronicle setting history)) ≡ 1
first_epoch setting history plain = ap (λ n. n + 1) (none_counted (seen_of (chronicle setting history)) (none_closed setting history plain))

pub plan_is : (net : Network) (plan : Plan) (history : List Event) → IsPlain (alone net plan) history
    → plan_now (alone net plan) (chronicle (alone net plan) history) ≡ plan
plan_is net plan history plain = ap (plan_numbered (alone net plan)) (first_epoch (alone net plan) history plain)
