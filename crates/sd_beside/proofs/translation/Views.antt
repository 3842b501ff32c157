-- What is seen of a moved history: the same devices are up, the same has failed, the same plans are in force and staged. References and readings
-- are moved, and the open window has the same in it, moved.
use Rattle.std.specs.Prelude.{◌≡◌, ℕ, ◌+◌, Bool, true, false, ◌&&◌, ◌||◌, not, List, [], ◌∷◌, map, count_by, nat_eq, Option, Some, None, is_some, option_map, refl, if◌then◌else◌}
use Rattle.std.specs.List.{list_any}
use Rattle.std.proofs.Common.{sym, ◌∙◌, ap, subst, cond}
use Rattle.std.proofs.lemmas.List.Sums.{sum_by-cons}
use mathlib.Core.Path.{fun_ext}
use Rattle.sd_num.specs.Lists.{map_or, same_number, find_map_or}
use Rattle.sd_plan.specs.declared.topo.Thing.{Thing}
use Rattle.sd_plan.specs.declared.topo.Thing.TheVariants as thing
use Rattle.sd_plan.specs.Plans.{is_member}
use Rattle.sd_sched.specs.Events.{reference_of, joined, is_stage, is_commit, is_end_event}
use Rattle.sd_history.specs.World.{Setting, Seen, makes, fails, is_thing, is_up, up_after, has_failed, failed_after, was_made, has_ever_failed, is_untouched, latest_reference, window, window_is_open, in_window, has_commit, epoch_in_force, staged_epoch, plan_numbered, in_force, staged, is_staged_member, current_plan, joined_in_window, is_counted, has_entered}
use Rattle.sd_history.specs.Steps.{Step}
use Rattle.sd_history.specs.Refusals.{after_end}
use Rattle.sd_beside.specs.translation.Moves.{moved_seen, moved_step}
use Rattle.sd_beside.proofs.translation.Lists.{any_mapped, told_mapped, number_moved, MovedOrNone}
use Rattle.sd_beside.proofs.translation.Words.{EventWords, words_of, same_words, reference_moved}

-- a step with the number by which its counter is moved
pub record Marked : Type 0 where
  pub step : Step
  pub by : ℕ

-- the steps, and what is seen of them
abbrev pub plain : List Marked → List Step
plain xs = map (λ x. x.step) xs

abbrev pub plain_seen : List Marked → List Seen
plain_seen xs = map (λ x. x.step.seen) xs

-- the same moved
abbrev pub moved : (time : ℕ) → List Marked → List Step
moved time xs = map (λ x. moved_step time x.by x.step) xs

abbrev pub seen_moved : (time : ℕ) → Marked → Seen
seen_moved time x = moved_seen time x.by x.step.seen

abbrev pub moved_seens : (time : ℕ) → List Marked → List Seen
moved_seens time xs = map (seen_moved time) xs

module _ (time : ℕ) where
  -- single events

  pub words_same : (x : Marked) → words_of (seen_moved time x).event ≡ words_of x.step.seen.event
  words_same x = same_words time x.by x.step.seen.event

  pub makes_same : (d : ℕ) (x : Marked) → makes d (seen_moved time x).event ≡ makes d x.step.seen.event
  makes_same d x = ap (λ (w : EventWords). same_number w.started d || same_number w.joined d) (words_same x)

  pub fails_same : (y : Thing) (x : Marked) → fails y (seen_moved time x).event ≡ fails y x.step.seen.event
  fails_same y x = ap (λ (w : EventWords). is_thing w.failure y) (words_same x)

  up_after_same : (d : ℕ) (x : Marked) → up_after d (seen_moved time x).event ≡ up_after d x.step.seen.event
  up_after_same d x = λ i. if makes_same d x i then Some true else if fails_same (thing.Device d) x i then Some false else None

  failed_after_same : (y : Thing) (x : Marked) → failed_after y (seen_moved time x).event ≡ failed_after y x.step.seen.event
  failed_after_same y x =
      ap (λ (w : EventWords). if is_thing w.failure y then Some true else if is_thing w.mended y then Some false else None) (words_same x)

  -- lists of them

  pub any_same : (test other : Seen → Bool) → ((x : Marked) → test (seen_moved time x) ≡ other x.step.seen) → (xs : List Marked)
      → list_any test (moved_seens time xs) ≡ list_any other (plain_seen xs)
  any_same test other same xs =
      any_mapped (seen_moved time) test (λ x. other x.step.seen) same xs ∙ sym (any_mapped (λ (x : Marked). x.step.seen) other (λ x. other x.step.seen) (λ x. refl) xs)

  pub told_same : {C : Type 0} (f : Seen → Option C) → ((x : Marked) → f (seen_moved time x) ≡ f x.step.seen) → (xs : List Marked) (default : C)
      → find_map_or f (moved_seens time xs) default ≡ find_map_or f (plain_seen xs) default
  told_same f same xs default =
      told_mapped (seen_moved time) f (λ x. f x.step.seen) same xs default
      ∙ sym (told_mapped (λ (x : Marked). x.step.seen) f (λ x. f x.step.seen) (λ x. refl) xs default)

  pub number_is_moved : (by : ℕ) (f : Seen → Option ℕ) → ((x : Marked) → f (seen_moved time x) ≡ option_map (λ n. n + by) (f x.step.seen)) → (xs : List Marked)
      → MovedOrNone by (find_map_or f (moved_seens time xs) 0) (find_map_or f (plain_seen xs) 0)
  number_is_moved by f same xs =
      subst (MovedOrNone by (find_map_or f (moved_seens time xs) 0)) (sym (told_mapped (λ (x : Marked). x.step.seen) f (λ x. f x.step.seen) (λ x. refl) xs 0))
      (number_moved by (seen_moved time) (λ x. f x.step.seen) f same xs)

  -- devices and links

  pub up_same : (xs : List Marked) → is_up (moved_seens time xs) ≡ is_up (plain_seen xs)
  up_same xs = fun_ext (λ d. told_same (λ s. up_after d s.event) (up_after_same d) xs false)

  pub failed_same : (xs : List Marked) → has_failed (moved_seens time xs) ≡ has_failed (plain_seen xs)
  failed_same xs = fun_ext (λ y. told_same (λ s. failed_after y s.event) (failed_after_same y) xs false)

  pub made_same : (xs : List Marked) → was_made (moved_seens time xs) ≡ was_made (plain_seen xs)
  made_same xs = fun_ext (λ d. any_same (λ s. makes d s.event) (λ s. makes d s.event) (makes_same d) xs)

  ever_failed_same : (xs : List Marked) → has_ever_failed (moved_seens time xs) ≡ has_ever_failed (plain_seen xs)
  ever_failed_same xs =
      fun_ext (λ d. any_same (λ s. fails (thing.Device d) s.event) (λ s. fails (thing.Device d) s.event) (fails_same (thing.Device d)) xs)

  pub untouched_same : (xs : List Marked) → is_untouched (moved_seens time xs) ≡ is_untouched (plain_seen xs)
  untouched_same xs = λ i. λ d. not (made_same xs i d) && not (ever_failed_same xs i d)

  pub latest_moved : (xs : List Marked) → MovedOrNone time (latest_reference (moved_seens time xs)) (latest_reference (plain_seen xs))
  latest_moved xs = number_is_moved time (λ s. Some (reference_of s.event)) (λ x. ap Some (reference_moved time x.by x.step.seen.event)) xs

  -- windows and plans

  -- what is the same of any list that is moved is the same of the open window
  pub by_window_same : {C : Type 0} (default : C) (f other : List Seen → C) → ((w : List Marked) → f (moved_seens time w) ≡ other (plain_seen w)) → (xs : List Marked)
      → map_or (window (moved_seens time xs)) default f ≡ map_or (window (plain_seen xs)) default other
  by_window_same default f other same [] = refl
  by_window_same {C = C} default f other same (x ∷ earlier) =
      (λ i. map_or (if x.step.seen.closed then None else if (words_same x i).is_stage then Some [] else option_map (λ w. seen_moved time x ∷ w) (window (moved_seens time earlier)))
      default f)
      ∙ go x.step.seen.closed (is_stage x.step.seen.event) (window (moved_seens time earlier)) (window (plain_seen earlier))
      (by_window_same default (λ w. f (seen_moved time x ∷ w)) (λ w. other (x.step.seen ∷ w)) (λ w. same (x ∷ w)) earlier)
    where
      go : (closed stage : Bool) (w v : Option (List Seen)) → map_or w default (λ z. f (seen_moved time x ∷ z)) ≡ map_or v default (λ z. other (x.step.seen ∷ z))
          → map_or (if closed then None else if stage then Some [] else option_map (λ z. seen_moved time x ∷ z) w) default f
          ≡ map_or (if closed then None else if stage then Some [] else option_map (λ z. x.step.seen ∷ z) v) default other
      go true stage w v rest = refl
      go false true w v rest = same []
      go false false None None rest = rest
      go false false None (Some v) rest = rest
      go false false (Some w) None rest = rest
      go false false (Some w) (Some v) rest = rest

  pub open_same : (xs : List Marked) → window_is_open (moved_seens time xs) ≡ window_is_open (plain_seen xs)
  open_same xs =
      is_some_by (window (moved_seens time xs)) ∙ by_window_same false (λ w. true) (λ w. true) (λ w. refl) xs ∙ sym (is_some_by (window (plain_seen xs)))
    where
      is_some_by : (o : Option (List Seen)) → is_some o ≡ map_or o false (λ w. true)
      is_some_by None = refl
      is_some_by (Some w) = refl

  pub in_window_same : (test : Seen → Bool) → ((x : Marked) → test (seen_moved time x) ≡ test x.step.seen) → (xs : List Marked)
      → in_window test (moved_seens time xs) ≡ in_window test (plain_seen xs)
  in_window_same test same xs = by_window_same false (list_any test) (list_any test) (any_same test test same) xs

  pub commit_same : (xs : List Marked) → has_commit (moved_seens time xs) ≡ has_commit (plain_seen xs)
  commit_same xs = in_window_same (λ s. is_commit s.event) (λ x. ap (λ (w : EventWords). w.is_commit) (words_same x)) xs

  pub joined_same : (xs : List Marked) → joined_in_window (moved_seens time xs) ≡ joined_in_window (plain_seen xs)
  joined_same xs =
      fun_ext (λ d. in_window_same (λ s. same_number (joined s.event) d) (λ x. ap (λ (w : EventWords). same_number w.joined d) (words_same x)) xs)

  closings_same : (xs : List Marked) → count_by (λ s. s.closed) (moved_seens time xs) ≡ count_by (λ s. s.closed) (plain_seen xs)
  closings_same [] = refl
  closings_same (x ∷ earlier) =
      sum_by-cons (λ (s : Seen). cond s.closed 1 0) (seen_moved time x) (moved_seens time earlier)
      ∙ ap (λ n. cond x.step.seen.closed 1 0 + n) (closings_same earlier)
      ∙ sym (sum_by-cons (λ (s : Seen). cond s.closed 1 0) x.step.seen (plain_seen earlier))

  pub epoch_same : (xs : List Marked) → epoch_in_force (moved_seens time xs) ≡ epoch_in_force (plain_seen xs)
  epoch_same xs = ap (λ n. n + 1) (closings_same xs)

  pub staged_epoch_same : (xs : List Marked) → staged_epoch (moved_seens time xs) ≡ staged_epoch (plain_seen xs)
  staged_epoch_same xs = ap (λ n. n + 1) (epoch_same xs)

  pub ended_same : (xs : List Marked) → after_end (moved_seens time xs) ≡ after_end (plain_seen xs)
  ended_same xs =
      any_same (λ s. is_end_event s.event) (λ s. is_end_event s.event) (λ x. ap (λ (w : EventWords). w.is_end) (words_same x)) xs

  pub in_force_same : (setting : Setting) (xs : List Marked) → in_force setting (moved_seens time xs) ≡ in_force setting (plain_seen xs)
  in_force_same setting xs = ap (plan_numbered setting) (epoch_same xs)

  pub staged_same : (setting : Setting) (xs : List Marked) → staged setting (moved_seens time xs) ≡ staged setting (plain_seen xs)
  staged_same setting xs =
      (λ i. option_map (λ (w : List Seen). plan_numbered setting (staged_epoch_same xs i)) (window (moved_seens time xs)))
      ∙ by_open (window (moved_seens time xs)) (window (plain_seen xs)) (open_same xs)
    where
      by_open : (w v : Option (List Seen)) → is_some w ≡ is_some v
          → option_map (λ (z : List Seen). plan_numbered setting (staged_epoch (plain_seen xs))) w
          ≡ option_map (λ (z : List Seen). plan_numbered setting (staged_epoch (plain_seen xs))) v
      by_open None None same = refl
      by_open None (Some v) same = cc
      by_open (Some w) None same = cc
      by_open (Some w) (Some v) same = refl

  pub staged_member_same : (setting : Setting) (xs : List Marked) → is_staged_member setting (moved_seens time xs) ≡ is_staged_member setting (plain_seen xs)
  staged_member_same setting xs = λ i. λ d. map_or (staged_same setting xs i) false (λ plan. is_member plan d)

  pub current_same : (setting : Setting) (xs : List Marked) (epoch : ℕ) → current_plan setting (moved_seens time xs) epoch ≡ current_plan setting (plain_seen xs) epoch
  current_same setting xs epoch =
      λ i. if nat_eq epoch (epoch_same xs i) then Some (in_force_same setting xs i)
      else if nat_eq epoch (staged_epoch_same xs i) then staged_same setting xs i
      else None

  pub counted_same : (setting : Setting) (xs : List Marked) → is_counted setting (moved_seens time xs) ≡ is_counted setting (plain_seen xs)
  counted_same setting xs = λ i. λ d. up_same xs i d && (is_member (in_force_same setting xs i) d || joined_same xs i d)

  -- since it was made the device has entered the staged plan, in this window
  abbrev entered_in : ℕ → List Seen → Bool
  entered_in d w = find_map_or (λ s. if same_number s.activated d then Some true else if makes d s.event then Some false else None) w false

  pub entered_same : (xs : List Marked) → has_entered (moved_seens time xs) ≡ has_entered (plain_seen xs)
  entered_same xs =
      fun_ext (λ d. by_window_same false (entered_in d) (entered_in d)
      (λ w. told_same (λ s. if same_number s.activated d then Some true else if makes d s.event then Some false else None)
      (λ x. ap (λ b. if same_number x.step.seen.activated d then Some true else if b then Some false else None) (makes_same d x)) w false)
      xs)
