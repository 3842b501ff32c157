-- A window that could close is closed: after each event of a chronicle no window can close, so at the next event it closes only by what that
-- event changes.
use Rattle.std.specs.Prelude.{◌≡◌, ℕ, Bool, true, false, ◌&&◌, ◌||◌, not, List, [], ◌∷◌, length, filter, nat_le, Option, Some, None, is_some, option_map, refl, if◌then◌else◌}
use Rattle.std.specs.List.{list_any, list_all}
use Rattle.std.proofs.Common.{◌∙◌, ap, sym}
use Rattle.std.proofs.lemmas.Bool.{and_left, or_from}
use Rattle.sd_num.specs.Lists.{map_or}
use Rattle.sd_plan.specs.Plans.{members}
use Rattle.sd_sched.specs.declared.Event.{Event}
use Rattle.sd_sched.specs.declared.Event.TheVariants as event
use Rattle.sd_sched.specs.Events.{given, joined, is_stage, is_commit}
use Rattle.sd_history.specs.Things.{mended}
use Rattle.sd_history.specs.World.{Setting, Seen, is_up, window, window_is_open, has_commit, staged_epoch, plan_numbered}
use Rattle.sd_history.specs.Steps.{Step, seen_of, act_by, first_step, activated_by, has_settled, can_close}
use Rattle.sd_history.specs.Refusals.{past_preparing}
use Rattle.sd_history.specs.Chronicle.{told_by, chronicle}
use Rattle.sd_safety.specs.invariant.Clauses.{just_closed}
use Rattle.sd_safety.specs.invariant.Guarded.{IsSteady}
use Rattle.sd_safety.proofs.invariant.Orders.{renews, orderly, staged_before}

-- the step with these in place of its own
abbrev with_closed : Step → Option ℕ → Bool → Step
with_closed s activated closed =
    record {
      seen = record { event = s.seen.event; taken = s.seen.taken; sent = s.seen.sent; acted = s.seen.acted; activated = activated; closed = closed };
      act = s.act;
      told = s.told;
      sent = s.sent;
    }

-- whether the window closes, by the window
abbrev closes : Setting → List Step → Step → Option (List Seen) → Bool
closes setting steps s w =
    map_or w false (list_any (λ x. is_commit x.event))
    && map_or (option_map (λ v. plan_numbered setting (staged_epoch (seen_of (s ∷ steps)))) w) false (λ plan.
    let present = filter (is_up (seen_of (s ∷ steps))) (members setting.net plan) in
    nat_le 1 (length present) && list_all (has_settled (s ∷ steps) (staged_epoch (seen_of (s ∷ steps)))) present)

-- who entered says nothing of it
closes_alike : (setting : Setting) (steps : List Step) (s : Step) (one two : Option ℕ) (stage : Bool) (w : Option (List Seen))
    → closes setting steps (with_closed s one false) (if stage then Some [] else option_map (λ v. (with_closed s one false).seen ∷ v) w)
    ≡ closes setting steps (with_closed s two false) (if stage then Some [] else option_map (λ v. (with_closed s two false).seen ∷ v) w)
closes_alike setting steps s one two true w = refl
closes_alike setting steps s one two false None = refl
closes_alike setting steps s one two false (Some v) = refl

closes_again : (setting : Setting) (steps : List Step) (s : Step) (one two : Option ℕ) (closed : Bool)
    → can_close setting (with_closed s one closed ∷ steps) ≡ (if closed then false else can_close setting (with_closed s two false ∷ steps))
closes_again setting steps s one two true = refl
closes_again setting steps s one two false = closes_alike setting steps s one two (is_stage s.seen.event) (window (seen_of steps))

not_again : (b : Bool) → (if b then false else b) ≡ false
not_again true = refl
not_again false = refl

-- after each event no window can close
pub cannot_close : (setting : Setting) (e : Event) (history : List Event) → can_close setting (chronicle setting (e ∷ history)) ≡ false
cannot_close setting e history =
    let steps = chronicle setting history in
    let s : Step = first_step setting steps e (told_by steps (act_by setting steps e)) in
    closes_again setting steps s (activated_by steps s) None (can_close setting (s ∷ steps)) ∙ not_again (can_close setting (s ∷ steps))

-- before the first event neither
pub no_window_closes : (setting : Setting) (history : List Event) → can_close setting (chronicle setting history) ≡ false
no_window_closes setting [] = refl
no_window_closes setting (e ∷ history) = cannot_close setting e history

-- whether a window can close after these steps, by the window
abbrev closes_now : Setting → List Step → Option (List Seen) → Bool
closes_now setting steps w =
    map_or w false (list_any (λ x. is_commit x.event))
    && map_or (option_map (λ v. plan_numbered setting (staged_epoch (seen_of steps))) w) false (λ plan.
    let present = filter (is_up (seen_of steps)) (members setting.net plan) in
    nat_le 1 (length present) && list_all (has_settled steps (staged_epoch (seen_of steps))) present)

-- the step that an event makes before it is known whether the window closes
abbrev begun : Setting → List Event → Event → Step
begun setting history e = let steps = chronicle setting history in first_step setting steps e (told_by steps (act_by setting steps e))

asked : (setting : Setting) (history : List Event) (r d c : ℕ) (w : Option (List Seen))
    → closes setting (chronicle setting history) (begun setting history (event.Ask r d c))
    (option_map (λ v. (begun setting history (event.Ask r d c)).seen ∷ v) w) ≡ closes_now setting (chronicle setting history) w
asked setting history r d c None = refl
asked setting history r d c (Some v) = refl

lost : (setting : Setting) (history : List Event) (r n : ℕ) (w : Option (List Seen))
    → closes setting (chronicle setting history) (begun setting history (event.Lose r n))
    (option_map (λ v. (begun setting history (event.Lose r n)).seen ∷ v) w) ≡ closes_now setting (chronicle setting history) w
lost setting history r n None = refl
lost setting history r n (Some v) = refl

ended : (setting : Setting) (history : List Event) (r : ℕ) (w : Option (List Seen))
    → closes setting (chronicle setting history) (begun setting history (event.End r)) (option_map (λ v. (begun setting history (event.End r)).seen ∷ v) w)
    ≡ closes_now setting (chronicle setting history) w
ended setting history r None = refl
ended setting history r (Some v) = refl

staged_now : (setting : Setting) (history : List Event) (r : ℕ)
    → closes setting (chronicle setting history) (begun setting history (event.Stage r)) (Some []) ≡ false
staged_now setting history r = refl

-- the window does not close with a report, a loss, a stage or the end
pub ask_closes_none : (setting : Setting) (history : List Event) (r d c : ℕ) → just_closed (chronicle setting (event.Ask r d c ∷ history)) ≡ false
ask_closes_none setting history r d c = asked setting history r d c (window (seen_of (chronicle setting history))) ∙ no_window_closes setting history

pub loss_closes_none : (setting : Setting) (history : List Event) (r n : ℕ) → just_closed (chronicle setting (event.Lose r n ∷ history)) ≡ false
loss_closes_none setting history r n = lost setting history r n (window (seen_of (chronicle setting history))) ∙ no_window_closes setting history

pub end_closes_none : (setting : Setting) (history : List Event) (r : ℕ) → just_closed (chronicle setting (event.End r ∷ history)) ≡ false
end_closes_none setting history r = ended setting history r (window (seen_of (chronicle setting history))) ∙ no_window_closes setting history

pub stage_closes_none : (setting : Setting) (history : List Event) (r : ℕ) → just_closed (chronicle setting (event.Stage r ∷ history)) ≡ false
stage_closes_none setting history r = staged_now setting history r

-- Without a commit no window closes.

uncommitted : (stage : Bool) (x : Seen) (w : Option (List Seen)) → stage ≡ false → is_commit x.event ≡ false
    → map_or w false (list_any (λ y. is_commit y.event)) ≡ false
    → map_or (if stage then Some [] else option_map (λ v. x ∷ v) w) false (list_any (λ y. is_commit y.event)) ≡ false
uncommitted true x w no_stage no_commit none = cc
uncommitted false x None no_stage no_commit none = refl
uncommitted false x (Some v) no_stage no_commit none = or_from (is_commit x.event) (list_any (λ y. is_commit y.event) v) no_commit none

pub none_closes_uncommitted : (setting : Setting) (history : List Event) (e : Event) → is_stage e ≡ false → is_commit e ≡ false
    → has_commit (seen_of (chronicle setting history)) ≡ false
    → just_closed (chronicle setting (e ∷ history)) ≡ false
none_closes_uncommitted setting history e no_stage no_commit none =
    and_left (has_commit ((begun setting history e).seen ∷ seen_of (chronicle setting history))) _
    (uncommitted (is_stage e) (begun setting history e).seen (window (seen_of (chronicle setting history))) no_stage no_commit none)

pub fails_uncommitted : (mend commit : Bool) → (not true || not (mend || commit)) ≡ true → commit ≡ false
fails_uncommitted true commit orderly_ = cc
fails_uncommitted false true orderly_ = cc
fails_uncommitted false false orderly_ = refl

prepares_uncommitted : (opened commit : Bool) → (not opened || commit) ≡ false → commit ≡ false
prepares_uncommitted opened true orderly_ = not_open opened orderly_
  where
    not_open : (b : Bool) → (not b || true) ≡ false → true ≡ false
    not_open true h = h
    not_open false h = h
prepares_uncommitted opened false orderly_ = refl

-- where no stage came there is no window
unstaged : (seen : List Seen) → list_any (λ x. is_stage x.event) seen ≡ false → has_commit seen ≡ false
unstaged seen none = by_window (window seen) (staged_before seen) none
  where
    by_window : (w : Option (List Seen)) → (is_some w ≡ true → list_any (λ x. is_stage x.event) seen ≡ true) → list_any (λ x. is_stage x.event) seen ≡ false
        → map_or w false (list_any (λ x. is_commit x.event)) ≡ false
    by_window None came none' = refl
    by_window (Some v) came none' = let is = came refl in cc

pub starts_unstaged : (stage more : Bool) → (not (true && stage) && more) ≡ true → stage ≡ false
starts_unstaged true more orderly_ = cc
starts_unstaged false more orderly_ = refl

-- so it closes with no failure, start, give, join or mend
module _ (setting : Setting) (history : List Event) where
  pub failed_device_closes_none : (r d : ℕ) → IsSteady setting (event.FailDevice r d ∷ history)
      → just_closed (chronicle setting (event.FailDevice r d ∷ history)) ≡ false
  failed_device_closes_none r d clean =
      none_closes_uncommitted setting history (event.FailDevice r d) refl refl
      (fails_uncommitted _ (has_commit (seen_of (chronicle setting history))) (renews setting (event.FailDevice r d) history clean).fails)

  pub failed_link_closes_none : (r l : ℕ) → IsSteady setting (event.FailLink r l ∷ history)
      → just_closed (chronicle setting (event.FailLink r l ∷ history)) ≡ false
  failed_link_closes_none r l clean =
      none_closes_uncommitted setting history (event.FailLink r l) refl refl
      (fails_uncommitted _ (has_commit (seen_of (chronicle setting history))) (renews setting (event.FailLink r l) history clean).fails)

  pub start_closes_none : (r d c clock eps : ℕ) → IsSteady setting (event.Start r d c clock eps ∷ history)
      → just_closed (chronicle setting (event.Start r d c clock eps ∷ history)) ≡ false
  start_closes_none r d c clock eps clean =
      none_closes_uncommitted setting history (event.Start r d c clock eps) refl refl
      (unstaged (seen_of (chronicle setting history))
      (starts_unstaged (list_any (λ x. is_stage x.event) (seen_of (chronicle setting history))) _
      (renews setting (event.Start r d c clock eps) history clean).begins))

  prepared : (e : Event) → IsSteady setting (e ∷ history) → (is_some (given e) || is_some (joined e) || is_some (mended e) || is_commit e) ≡ true
      → has_commit (seen_of (chronicle setting history)) ≡ false
  prepared e clean prepares =
      prepares_uncommitted (window_is_open (seen_of (chronicle setting history))) (has_commit (seen_of (chronicle setting history)))
      (sym (ap (λ b. b && past_preparing (seen_of (chronicle setting history))) prepares) ∙ (orderly setting e history clean.is).prepares)

  pub give_closes_none : (r d : ℕ) → IsSteady setting (event.Give r d ∷ history) → just_closed (chronicle setting (event.Give r d ∷ history)) ≡ false
  give_closes_none r d clean = none_closes_uncommitted setting history (event.Give r d) refl refl (prepared (event.Give r d) clean refl)

  pub join_closes_none : (r d c clock eps : ℕ) → IsSteady setting (event.Join r d c clock eps ∷ history)
      → just_closed (chronicle setting (event.Join r d c clock eps ∷ history)) ≡ false
  join_closes_none r d c clock eps clean =
      none_closes_uncommitted setting history (event.Join r d c clock eps) refl refl (prepared (event.Join r d c clock eps) clean refl)

  pub mended_device_closes_none : (r d : ℕ) → IsSteady setting (event.MendDevice r d ∷ history)
      → just_closed (chronicle setting (event.MendDevice r d ∷ history)) ≡ false
  mended_device_closes_none r d clean = none_closes_uncommitted setting history (event.MendDevice r d) refl refl (prepared (event.MendDevice r d) clean refl)

  pub mended_link_closes_none : (r l : ℕ) → IsSteady setting (event.MendLink r l ∷ history)
      → just_closed (chronicle setting (event.MendLink r l ∷ history)) ≡ false
  mended_link_closes_none r l clean = none_closes_uncommitted setting history (event.MendLink r l) refl refl (prepared (event.MendLink r l) clean refl)
