-- The clauses that are matters of order alone: what may come after a stage, a mend or a commit, in every steady history. By induction on the
-- history, from what is refused and from the premise on renewal; no timing.
use Rattle.std.specs.Prelude.{◌≡◌, Bool, true, false, ◌&&◌, ◌||◌, not, List, [], ◌∷◌, Option, Some, None, is_some, option_map, refl, if◌then◌else◌}
use Rattle.std.specs.List.{list_any}
use Rattle.std.proofs.Common.{◌∙◌, ap, sym, subst}
use Rattle.std.proofs.lemmas.Bool.{and_parts, and_from, or_parts}
use Rattle.sd_num.specs.Lists.{map_or}
use Rattle.sd_sched.specs.declared.Event.{Event}
use Rattle.sd_sched.specs.Events.{given, joined, started, is_stage, is_commit, is_seal}
use Rattle.sd_history.specs.Things.{mended}
use Rattle.sd_history.specs.World.{Setting, Seen, window, window_is_open, in_window, has_commit}
use Rattle.sd_history.specs.Steps.{seen_of}
use Rattle.sd_history.specs.Chronicle.{next_step, chronicle}
use Rattle.sd_history.specs.Admitted.{IsAdmitted}
use Rattle.sd_history.specs.Refusals.{past_preparing, window_order_seen, window_order}
use Rattle.sd_history.specs.Premises.{renew_holds, commits_orderly, seals_orderly, fails_orderly, begins_orderly, has_mend}
use Rattle.sd_history.proofs.Clear.{clear}
use Rattle.sd_safety.specs.invariant.Eras.{none_after}
use Rattle.sd_safety.specs.invariant.Clauses.{is_failure, is_mend, is_start, is_join, none_started_late, none_fails_after_mend, rests_after_commit, none_sealed_early}
use Rattle.sd_safety.specs.invariant.Invariant.{IsInOrder}
use Rattle.sd_safety.specs.invariant.Guarded.{IsSteady}
use Rattle.sd_safety.proofs.invariant.Parts.{premises_of}
use Rattle.sd_safety.proofs.invariant.Prefix.{clean_before}

-- the four parts of the premise on renewal, at the latest event
pub record RenewsAt (setting : Setting) (s : Seen) (seen : List Seen) : Type 0 where
  pub commits : commits_orderly setting s seen ≡ true
  pub seals : seals_orderly setting s seen ≡ true
  pub fails : fails_orderly s seen ≡ true
  pub begins : begins_orderly setting s seen ≡ true

and_parts_of_four : (a b c d e : Bool) → (e && (a && b && c && d)) ≡ true → (a ≡ true) × (b ≡ true) × (c ≡ true) × (d ≡ true)
and_parts_of_four true true true true true all = (refl, refl, refl, refl)
and_parts_of_four true true true true false all = cc
and_parts_of_four true true true false true all = cc
and_parts_of_four true true true false false all = cc
and_parts_of_four true true false d true all = cc
and_parts_of_four true true false d false all = cc
and_parts_of_four true false c d true all = cc
and_parts_of_four true false c d false all = cc
and_parts_of_four false b c d true all = cc
and_parts_of_four false b c d false all = cc

pub renews_at : (setting : Setting) (s : Seen) (seen : List Seen) → renew_holds setting (s ∷ seen) ≡ true → RenewsAt setting s seen
renews_at setting s seen all =
    let h = and_parts_of_four (commits_orderly setting s seen) (seals_orderly setting s seen) (fails_orderly s seen) (begins_orderly setting s seen)
    (renew_holds setting seen) all in
    record { commits = h.0; seals = h.1; fails = h.2; begins = h.3 }

pub renews : (setting : Setting) (e : Event) (history : List Event) → IsSteady setting (e ∷ history)
    → RenewsAt setting (next_step setting (chronicle setting history) e).seen (seen_of (chronicle setting history))
renews setting e history clean =
    renews_at setting (next_step setting (chronicle setting history) e).seen (seen_of (chronicle setting history))
    (premises_of setting (seen_of (chronicle setting (e ∷ history))) clean.premises).renew

-- what the order of windows says of an accepted event
pub record IsOrderly (seen : List Seen) (e : Event) : Type 0 where
  pub prepares : ((is_some (given e) || is_some (joined e) || is_some (mended e) || is_commit e) && past_preparing seen) ≡ false
  pub seals : (is_seal e && (not (window_is_open seen) || not (has_commit seen))) ≡ false

pub orderly : (setting : Setting) (e : Event) (history : List Event) → IsAdmitted setting (e ∷ history) → IsOrderly (seen_of (chronicle setting history)) e
orderly setting e history is =
    let steps = chronicle setting history in
    let order : window_order setting steps e ≡ false =
    (clear setting steps e is.1).in_window in
    let outside : window_order_seen setting (seen_of steps) e ≡ false = (or_parts (window_order_seen setting (seen_of steps) e) _ order).0 in
    let last = or_parts _ (is_seal e && (not (window_is_open (seen_of steps)) || not (has_commit (seen_of steps)))) outside in
    let front = or_parts _ _ last.0 in
    let second = or_parts _ ((is_some (given e) || is_some (joined e) || is_some (mended e) || is_commit e) && past_preparing (seen_of steps)) front.0 in
    record { prepares = second.1; seals = last.1 }

-- Windows

-- a test of the open window, after an event
window_test : (q : List Seen → Bool) (closed stage : Bool) (x : Seen) (w : Option (List Seen)) → q [] ≡ true → ((v : List Seen) → w ≡ Some v → q (x ∷ v) ≡ true)
    → map_or (if closed then None else if stage then Some [] else option_map (λ v. x ∷ v) w) true q ≡ true
window_test q true stage x w empty more = refl
window_test q false true x w empty more = empty
window_test q false false x None empty more = refl
window_test q false false x (Some v) empty more = more v refl

both_fail : (fail mend commit : Bool) → (not fail || not (mend || commit)) ≡ true → (not (fail && mend) ≡ true) × (not (fail && commit) ≡ true)
both_fail true true commit orderly_ = cc
both_fail true false true orderly_ = cc
both_fail true false false orderly_ = (refl, refl)
both_fail false mend commit orderly_ = (refl, refl)

at_window : {w : Option (List Seen)} {v : List Seen} (test : Seen → Bool) → w ≡ Some v → map_or w false (list_any test) ≡ list_any test v
at_window test is = ap (λ o. map_or o false (list_any test)) is

-- where a window is open, a stage came
pub staged_before : (seen : List Seen) → window_is_open seen ≡ true → list_any (λ x. is_stage x.event) seen ≡ true
staged_before [] is = cc
staged_before (s ∷ seen) is = by_parts s.closed (is_stage s.event) (window seen) is (staged_before seen)
  where
    by_parts : (c st : Bool) (w : Option (List Seen)) → is_some (if c then None else if st then Some [] else option_map (λ v. s ∷ v) w) ≡ true
        → (is_some w ≡ true → list_any (λ x. is_stage x.event) seen ≡ true) → (st || list_any (λ x. is_stage x.event) seen) ≡ true
    by_parts true st w is' rest = cc
    by_parts false true w is' rest = refl
    by_parts false false None is' rest = cc
    by_parts false false (Some v) is' rest = rest refl

module _ (setting : Setting) where
  -- nothing starts after a stage
  pub starts_early : (history : List Event) → IsSteady setting history → none_started_late (chronicle setting history) ≡ true
  starts_early [] clean = refl
  starts_early (e ∷ history) clean =
      and_from (none_started_late (chronicle setting history)) _ (starts_early history (clean_before setting e history clean))
      (and_parts (not (is_some (started e) && list_any (λ x. is_stage x.event) (seen_of (chronicle setting history)))) _
      (renews setting e history clean).begins).0

  -- nothing fails after the first mend of the open window
  pub fails_before_mend : (history : List Event) → IsSteady setting history → none_fails_after_mend (chronicle setting history) ≡ true
  fails_before_mend [] clean = refl
  fails_before_mend (e ∷ history) clean =
      let steps = chronicle setting history in
      let s = (next_step setting steps e).seen in
      window_test (none_after is_mend is_failure) s.closed (is_stage e) s (window (seen_of steps)) refl
      (go s (seen_of steps) (fails_before_mend history (clean_before setting e history clean)) (renews setting e history clean).fails)
    where
      go : (s : Seen) (seen : List Seen) → map_or (window seen) true (none_after is_mend is_failure) ≡ true → fails_orderly s seen ≡ true
          → (v : List Seen) → window seen ≡ Some v → (none_after is_mend is_failure v && not (is_failure s && list_any is_mend v)) ≡ true
      go s seen before fails v is =
          and_from (none_after is_mend is_failure v) (not (is_failure s && list_any is_mend v))
          (sym (ap (λ o. map_or o true (none_after is_mend is_failure)) is) ∙ before)
          (subst (λ b. not (is_failure s && b) ≡ true) (at_window is_mend is) (both_fail (is_failure s) (has_mend seen) (has_commit seen) fails).0)

  -- after a commit nothing fails, is mended, starts or joins
  late_when : (fail mend start join commit gives commits opened : Bool) → not (fail && commit) ≡ true
      → ((gives || join || mend || commits) && (not opened || commit)) ≡ false → not (start && opened) ≡ true → opened ≡ true
      → not ((fail || mend || start || join) && commit) ≡ true
  late_when fail mend start join false gives commits opened f p s o = none_true (fail || mend || start || join)
    where
      none_true : (b : Bool) → not (b && false) ≡ true
      none_true true = refl
      none_true false = refl
  late_when fail mend start join true gives commits false f p s o = cc
  late_when true mend start join true gives commits true f p s o = cc
  late_when false mend true join true gives commits true f p s o = cc
  late_when false true false true true true commits true f p s o = cc
  late_when false true false true true false commits true f p s o = cc
  late_when false true false false true true commits true f p s o = cc
  late_when false true false false true false commits true f p s o = cc
  late_when false false false true true true commits true f p s o = cc
  late_when false false false true true false commits true f p s o = cc
  late_when false false false false true gives commits true f p s o = refl

  pub rests : (history : List Event) → IsSteady setting history → rests_after_commit (chronicle setting history) ≡ true
  rests [] clean = refl
  rests (e ∷ history) clean =
      let steps = chronicle setting history in
      let s = (next_step setting steps e).seen in
      window_test (none_after (λ x. is_commit x.event) (λ x. is_failure x || is_mend x || is_start x || is_join x)) s.closed (is_stage e) s
      (window (seen_of steps)) refl
      (λ v is.
      and_from _ _
      (sym (ap (λ o. map_or o true (none_after (λ x. is_commit x.event) (λ x. is_failure x || is_mend x || is_start x || is_join x))) is)
      ∙ rests history (clean_before setting e history clean))
      (subst (λ c. not ((is_failure s || is_mend s || is_start s || is_join s) && c) ≡ true) (at_window (λ x. is_commit x.event) is)
      (late_when (is_failure s) (is_mend s) (is_start s) (is_join s) (has_commit (seen_of steps)) (is_some (given e)) (is_commit e)
      (window_is_open (seen_of steps))
      (both_fail (is_failure s) (has_mend (seen_of steps)) (has_commit (seen_of steps)) (renews setting e history clean).fails).1
      (orderly setting e history clean.is).prepares
      (no_start (is_start s) (list_any (λ x. is_stage x.event) (seen_of steps)) (window_is_open (seen_of steps)) (staged_before (seen_of steps))
      (and_parts _ _ (renews setting e history clean).begins).0)
      (ap (λ o. is_some o) is))))
    where
      no_start : (start stage opened : Bool) → (opened ≡ true → stage ≡ true) → not (start && stage) ≡ true → not (start && opened) ≡ true
      no_start start stage false came none = none_true start
        where
          none_true : (b : Bool) → not (b && false) ≡ true
          none_true true = refl
          none_true false = refl
      no_start true true true came none = cc
      no_start true false true came none = let is = came refl in cc
      no_start false stage true came none = refl

  -- nothing is sealed before a commit
  sealed_when : (seal commit opened : Bool) (sealed : Bool) (committing : Bool) → (seal && (not opened || not commit)) ≡ false
      → (not (not commit) || not sealed) ≡ true
      → (not (not (committing || commit)) || not (seal || sealed)) ≡ true
  sealed_when seal true opened sealed true order before = refl
  sealed_when seal true opened sealed false order before = refl
  sealed_when seal false opened sealed true order before = refl
  sealed_when true false true sealed false order before = cc
  sealed_when true false false sealed false order before = cc
  sealed_when false false opened sealed false order before = before

  sealed_by : (closed stage : Bool) (s : Seen) (w : Option (List Seen)) (commit sealed : Bool) → map_or w false (list_any (λ x. is_commit x.event)) ≡ commit
      → map_or w false (list_any (λ x. is_seal x.event)) ≡ sealed
      → (is_seal s.event && (not (is_some w) || not commit)) ≡ false → (not (not commit) || not sealed) ≡ true
      → (not (not (map_or (if closed then None else if stage then Some [] else option_map (λ v. s ∷ v) w) false (list_any (λ x. is_commit x.event))))
      || not (map_or (if closed then None else if stage then Some [] else option_map (λ v. s ∷ v) w) false (list_any (λ x. is_seal x.event)))) ≡ true
  sealed_by true stage s w commit sealed c d order before = refl
  sealed_by false true s w commit sealed c d order before = refl
  sealed_by false false s None commit sealed c d order before = refl
  sealed_by false false s (Some v) commit sealed c d order before =
      subst (λ b. (not (not (is_commit s.event || b)) || not (is_seal s.event || list_any (λ x. is_seal x.event) v)) ≡ true) (sym c)
      (subst (λ b. (not (not (is_commit s.event || commit)) || not (is_seal s.event || b)) ≡ true) (sym d)
      (sealed_when (is_seal s.event) commit true sealed (is_commit s.event) order before))

  pub seals_late : (history : List Event) → IsSteady setting history → none_sealed_early (chronicle setting history) ≡ true
  seals_late [] clean = refl
  seals_late (e ∷ history) clean =
      let steps = chronicle setting history in
      let s = (next_step setting steps e).seen in
      sealed_by s.closed (is_stage e) s (window (seen_of steps)) (has_commit (seen_of steps)) (in_window (λ x. is_seal x.event) (seen_of steps)) refl refl
      (orderly setting e history clean.is).seals (seals_late history (clean_before setting e history clean))

  pub in_order : (history : List Event) → IsSteady setting history → IsInOrder setting (chronicle setting history)
  in_order history clean =
      record { seals = seals_late history clean; starts = starts_early history clean; failures = fails_before_mend history clean; rest = rests history clean }
