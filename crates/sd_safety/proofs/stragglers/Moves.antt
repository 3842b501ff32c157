-- 14 (iii), when the backup root moved in an era with a mend: not long after its path broke, or after a straggler, which came after the root failed, if it did.
-- Once its
-- path is whole again it does not move. By induction on the history, as in Broken.
use Rattle.std.specs.Prelude.{◌≡◌, ℕ, ◌+◌, ◌*◌, ◌-◌, ◌≤◌, Bool, true, false, ◌&&◌, List, [], ◌∷◌, nat_eq, Option, Some, None, refl, ◌⊎◌}
use Rattle.std.proofs.Common.{arith, ◌∙◌, ap, sym, subst, inl, inr}
use Rattle.std.proofs.lemmas.Bool.{and_from}
use Rattle.sd_num.specs.Lists.{map_or}
use Rattle.sd_plan.specs.declared.topo.Thing.{Thing}
use Rattle.sd_plan.specs.declared.topo.Thing.TheVariants as thing
use Rattle.sd_plan.specs.Walks.{path}
use Rattle.sd_sched.specs.declared.Event.{Event}
use Rattle.sd_sched.specs.Events.{reference_of}
use Rattle.sd_history.specs.World.{Setting, plan_numbered}
use Rattle.sd_history.specs.Steps.{Step, seen_of}
use Rattle.sd_history.specs.Chronicle.{chronicle, next_step}
use Rattle.sd_safety.specs.invariant.Bounds.{depth, delay, tick_gap, first_up}
use Rattle.sd_safety.specs.invariant.Eras.{era, plan_now, failed_now, is_among, touches, first_failure, all_started, late, heard_at, moved_at, is_old, moved, on_primary, path_hit, root_failed}
use Rattle.sd_safety.specs.invariant.Silences.{root_failed_at}
use Rattle.sd_safety.specs.invariant.Coming.{IsNextEvent, AtNext}
use Rattle.sd_safety.proofs.invariant.Prefix.{clean_before}
use Rattle.sd_safety.proofs.invariant.Sides.{implied}
use Rattle.sd_safety.specs.messages.Moments.{whole, behind}
use Rattle.sd_safety.proofs.waits.Standing.{steps_timed}
use Rattle.sd_safety.specs.behind.Feeding.{mended_now, path_failed_at, MendedMoves}
use Rattle.sd_safety.proofs.behind.EraSums.{late_since}
use Rattle.sd_safety.proofs.behind.EventBack.{WasMoved, kept, goes, step_back}
use Rattle.sd_safety.proofs.behind.Broken.{first_at, first_hits, hit_first, first_is_now, late_stays}
use Rattle.sd_safety.proofs.spans.SilenceStarts.{comes_before, old_then}
use Rattle.sd_safety.proofs.spans.PathHearsAtEvents.{same_era}
use Rattle.sd_safety.proofs.feeds.Since.{none_closed}
use Rattle.sd_safety.proofs.paths.FirstMend.{mended_on, IsStill, still_on}
use Rattle.sd_safety.proofs.stragglers.Stragglers.{Hearing, early, straggler, fed, hearing, first_same}
use Rattle.sd_safety.proofs.stragglers.BackupRootMoves.{first_sum, short, never, without, root_before}

straggler_sum : (r hb g k f q : ℕ) → r - hb ≤ f + q → hb ≤ g + k + f + q → r ≤ g + k + 2 * (f + q)
straggler_sum r hb g k f q short by = omega (arith, short, by)

now_sum : (r g k f q : ℕ) → r ≤ g → r ≤ g + k + f + q
now_sum r g k f q le = omega (arith, le)

grows_sum : (m m' g g' k f q : ℕ) → m ≡ m' → m' ≤ g' + k + f + q → g' ≤ g → m ≤ g + k + f + q
grows_sum m m' g g' k f q same le more = omega (arith, same, le, more)

-- when it moved
pub data Moving (setting : Setting) (steps : List Step) : Type 0 where
  first_wait : moved_at steps (plan_now setting steps).backup_root ≤ path_failed_at setting steps + depth setting.net * delay setting.net + first_up setting.net
      (plan_now setting steps) + tick_gap setting.net → Moving setting steps
  second_wait : mended_now steps ≡ true
      → moved_at steps (plan_now setting steps).backup_root ≤ path_failed_at setting steps + depth setting.net * delay
      setting.net + 2 * (first_up setting.net (plan_now setting steps) + tick_gap setting.net)
      → (root_failed setting steps ≡ true
      → root_failed_at setting steps + (depth setting.net + 1) * delay setting.net ≤ moved_at steps (plan_now setting steps).backup_root)
      → Moving setting steps

-- the event closed nothing: what was said of the move before is said of it after, in the same era
module _ (setting : Setting) (x : Event) (y : Event) (ys : List Event) (e : Event) (comes : IsNextEvent setting (x ∷ y ∷ ys) e)
    (open_ : (next_step setting (chronicle setting (y ∷ ys)) x).seen.closed ≡ false) where
  abbrev older : List Step
  older = chronicle setting (y ∷ ys)

  abbrev steps : List Step
  steps = chronicle setting (x ∷ y ∷ ys)

  abbrev b : ℕ
  b = (plan_now setting (chronicle setting (x ∷ y ∷ ys))).backup_root

  same : era (chronicle setting (x ∷ y ∷ ys)) ≡ era (chronicle setting (y ∷ ys))
  same = same_era setting x (y ∷ ys) open_

  abbrev things : List Thing
  things = path setting.net (plan_now setting (chronicle setting (x ∷ y ∷ ys))) (plan_now setting (chronicle setting (x ∷ y ∷ ys))).backup_root

  grows_ : path_failed_at setting (chronicle setting (y ∷ ys)) ≤ path_failed_at setting (chronicle setting (x ∷ y ∷ ys))
  grows_ =
      subst (λ n. late setting older
      (first_at (path setting.net (plan_numbered setting n) (plan_numbered setting n).backup_root) (seen_of older)) ≤ path_failed_at setting steps) same
      (late_stays setting x (y ∷ ys) things open_)

  wait_same : first_up setting.net (plan_now setting (chronicle setting (y ∷ ys))) ≡ first_up setting.net (plan_now setting (chronicle setting (x ∷ y ∷ ys)))
  wait_same = ap (λ n. first_up setting.net (plan_numbered setting n)) (sym same)

  moved_same : moved_at (chronicle setting (x ∷ y ∷ ys)) b ≡ moved_at (chronicle setting (y ∷ ys)) b
      → moved_at (chronicle setting (x ∷ y ∷ ys)) b ≡ moved_at (chronicle setting (y ∷ ys)) (plan_now setting (chronicle setting (y ∷ ys))).backup_root
  moved_same at = at ∙ ap (λ n. moved_at older (plan_numbered setting n).backup_root) same

  module _ (is : mended_now (chronicle setting (y ∷ ys)) ≡ true) where
    era_le : era (chronicle setting (x ∷ y ∷ ys)) ≤ era (chronicle setting (y ∷ ys))
    era_le = let same_ = same in omega (arith, same_)

    still : IsStill (chronicle setting (y ∷ ys)) (chronicle setting (x ∷ y ∷ ys))
    still = still_on setting older (x ∷ y ∷ ys) (clean_before setting e (x ∷ y ∷ ys) comes.clean) (behind whole) era_le is

    mended_next : mended_now (chronicle setting (x ∷ y ∷ ys)) ≡ true
    mended_next = mended_on older steps (behind whole) era_le is

    root_same : root_failed_at setting (chronicle setting (y ∷ ys)) ≡ root_failed_at setting (chronicle setting (x ∷ y ∷ ys))
    root_same = first_same setting (next_step setting (chronicle setting ys) y) (chronicle setting ys) steps (behind whole) (sym same) still
        (λ n. thing.Device (plan_numbered setting n).root ∷ [])

    root_then : root_failed setting (chronicle setting (x ∷ y ∷ ys)) ≡ true → root_failed setting (chronicle setting (y ∷ ys)) ≡ true
    root_then failed =
        subst (λ n. is_among (failed_now older) (thing.Device (plan_numbered setting n).root) ≡ true) same
        (sym (ap (λ l. is_among l (thing.Device (plan_now setting steps).root)) still.failed) ∙ failed)

  -- it had moved before
  keeps_on : moved_at (chronicle setting (x ∷ y ∷ ys)) b ≡ moved_at (chronicle setting (y ∷ ys)) b → Moving setting (chronicle setting (y ∷ ys))
      → Moving setting (chronicle setting (x ∷ y ∷ ys))
  keeps_on at (first_wait le) =
      first_wait
      (grows_sum (moved_at steps b) (moved_at older (plan_now setting older).backup_root) (path_failed_at setting steps) (path_failed_at setting older)
      (depth setting.net * delay setting.net) (first_up setting.net (plan_now setting steps)) (tick_gap setting.net)
      (moved_same at)
      (subst (λ w. moved_at older (plan_now setting older).backup_root ≤ path_failed_at setting older + depth setting.net * delay setting.net + w + tick_gap
      setting.net) wait_same le) grows_)
  keeps_on at (second_wait is le root) =
      second_wait (mended_next is)
      (let more = grows_ in
      let equal = moved_same at in
      let le' = subst (λ w. moved_at older (plan_now setting older).backup_root ≤ path_failed_at setting older + depth setting.net * delay
      setting.net + 2 * (w + tick_gap setting.net)) wait_same le in
      omega (arith, more, equal, le'))
      (λ failed.
      let by = root (root_then is failed) in
      let equal = moved_same at in
      let at_ = root_same is in
      omega (arith, by, equal, at_))

  -- it moved with the event
  module _ (old_then_ : is_old (chronicle setting (y ∷ ys)) b ≡ true) (on_then : on_primary (chronicle setting (y ∷ ys)) b ≡ true)
      (at : moved_at (chronicle setting (x ∷ y ∷ ys)) b ≡ reference_of x)
      (old : is_old (chronicle setting (x ∷ y ∷ ys)) b ≡ true) (put : moved (chronicle setting (x ∷ y ∷ ys)) b ≡ true) where
    abbrev c : ℕ
    c = (plan_now setting (chronicle setting (y ∷ ys))).backup_root

    old_c : is_old (chronicle setting (y ∷ ys)) c ≡ true
    old_c = subst (λ n. is_old older (plan_numbered setting n).backup_root ≡ true) same old_then_

    on_c : on_primary (chronicle setting (y ∷ ys)) c ≡ true
    on_c = subst (λ n. on_primary older (plan_numbered setting n).backup_root ≡ true) same on_then

    old_next : is_old (chronicle setting (x ∷ y ∷ ys)) c ≡ true
    old_next = subst (λ n. is_old steps (plan_numbered setting n).backup_root ≡ true) same old

    put_c : moved (chronicle setting (x ∷ y ∷ ys)) c ≡ true
    put_c = subst (λ n. moved steps (plan_numbered setting n).backup_root ≡ true) same put

    first_time : reference_of x ≤ path_failed_at setting (chronicle setting (y ∷ ys)) + depth setting.net * delay setting.net + first_up setting.net
        (plan_now setting (chronicle setting (y ∷ ys))) + tick_gap setting.net → Moving setting (chronicle setting (x ∷ y ∷ ys))
    first_time le =
        first_wait
        (grows_sum (moved_at steps b) (reference_of x) (path_failed_at setting steps) (path_failed_at setting older) (depth setting.net * delay setting.net)
        (first_up setting.net (plan_now setting steps)) (tick_gap setting.net) at
        (subst (λ w. reference_of x ≤ path_failed_at setting older + depth setting.net * delay setting.net + w + tick_gap setting.net) wait_same le) grows_)

    by_hearing : path_hit setting (chronicle setting (y ∷ ys)) c ≡ true → mended_now (chronicle setting (y ∷ ys)) ≡ true
        → Hearing setting (chronicle setting (y ∷ ys)) → Moving setting (chronicle setting (x ∷ y ∷ ys))
    by_hearing broken is (fed f) = absurd (never setting x y ys e comes open_ old_c on_c broken old_next put_c f)
    by_hearing broken is (early le) =
        first_time
        (first_sum (reference_of x) (heard_at older c) (path_failed_at setting older) (depth setting.net * delay setting.net)
        (first_up setting.net (plan_now setting older)) (tick_gap setting.net) (short setting x y ys e comes open_ old_c on_c broken old_next put_c) le)
    by_hearing broken is (straggler le root) =
        second_wait (mended_next is)
        (let sum : reference_of x ≤ path_failed_at setting older + depth setting.net * delay
        setting.net + 2 * (first_up setting.net (plan_now setting older) + tick_gap setting.net) =
        straggler_sum (reference_of x) (heard_at older c) (path_failed_at setting older) (depth setting.net * delay setting.net)
        (first_up setting.net (plan_now setting older)) (tick_gap setting.net)
        (short setting x y ys e comes open_ old_c on_c broken old_next put_c) le in
        let sum' = subst (λ w. reference_of x ≤ path_failed_at setting older + depth setting.net * delay setting.net + 2 * (w + tick_gap setting.net)) wait_same
        sum in
        let more = grows_ in
        omega (arith, at, sum', more))
        (λ failed.
        let by = root_before setting x y ys e comes open_ old_c on_c broken old_next put_c root (root_then is failed) in
        let at_ = root_same is in
        omega (arith, at, by, at_))

    by_mend : path_hit setting (chronicle setting (y ∷ ys)) c ≡ true → (m : Bool) → mended_now (chronicle setting (y ∷ ys)) ≡ m
        → Moving setting (chronicle setting (x ∷ y ∷ ys))
    by_mend broken false none = first_time (without setting x y ys e comes open_ old_c on_c broken old_next put_c none)
    by_mend broken true is = by_hearing broken is (hearing setting y ys x (comes_before setting x (y ∷ ys) e comes) is broken old_c on_c)

    broken_now : path_hit setting (chronicle setting (x ∷ y ∷ ys)) b ≡ true
    broken_now =
        implied (is_old steps b && moved steps b) (path_hit setting steps b) comes.before.1.core.causes.move (and_from (is_old steps b) (moved steps b) old put)

    -- where its path broke with the event
    by_first : (o : Option ℕ) → first_failure things (seen_of (chronicle setting (y ∷ ys))) ≡ o → Moving setting (chronicle setting (x ∷ y ∷ ys))
    by_first None was =
        let r = hit_first things (seen_of steps) broken_now in
        let now_ : reference_of x ≡ r.0 = first_is_now things (next_step setting older x).seen (seen_of older) r.0 open_ was r.1 in
        let value : first_at things (seen_of steps) ≡ r.0 = ap (λ o. map_or o 0 (λ reference. reference)) r.1 in
        let since : first_at things (seen_of steps) ≤ path_failed_at setting steps =
        late_since (nat_eq (era steps) 1) (first_at things (seen_of steps)) (all_started setting steps) in
        first_wait (now_sum (moved_at steps b) (path_failed_at setting steps) (depth setting.net * delay setting.net)
        (first_up setting.net (plan_now setting steps)) (tick_gap setting.net) (omega (arith, at, now_, value, since)))
    by_first (Some r) was =
        by_mend (subst (λ n. touches (failed_now older) (path setting.net (plan_numbered setting n) (plan_numbered setting n).backup_root) ≡ true) same
        (first_hits things (seen_of older) r was)) (mended_now older) refl

    goes_now : Moving setting (chronicle setting (x ∷ y ∷ ys))
    goes_now = by_first (first_failure things (seen_of older)) refl

abbrev Moves : Setting → List Event → Type 0
Moves setting history =
    is_old (chronicle setting history) (plan_now setting (chronicle setting history)).backup_root ≡ true
    → moved (chronicle setting history) (plan_now setting (chronicle setting history)).backup_root ≡ true → Moving setting (chronicle setting history)

-- with the first event nothing moves
first_event : (setting : Setting) (x e : Event) → IsNextEvent setting (x ∷ []) e
    → moved (chronicle setting (x ∷ [])) (plan_now setting (chronicle setting (x ∷ []))).backup_root ≡ true → ⊥
first_event setting x e comes put =
    by (step_back setting x [] (plan_now setting (chronicle setting (x ∷ []))).backup_root (steps_timed setting x [] e comes) put)
  where
    nothing : (d : ℕ) → moved (chronicle setting []) d ≡ true → ⊥
    nothing d moved_ = cc

    nowhere : (d : ℕ) → on_primary (chronicle setting []) d ≡ true → ⊥
    nowhere d on = cc

    by : WasMoved setting x [] (plan_now setting (chronicle setting (x ∷ []))).backup_root → ⊥
    by (kept moved_ epoch at) = nothing (plan_now setting (chronicle setting (x ∷ []))).backup_root moved_
    by (goes on epoch at) = nowhere (plan_now setting (chronicle setting (x ∷ []))).backup_root on

moving : (setting : Setting) (history : List Event) (e : Event) → IsNextEvent setting history e → Moves setting history
moving setting [] e comes old put = cc
moving setting (x ∷ []) e comes old put = absurd (first_event setting x e comes put)
moving setting (x ∷ y ∷ ys) e comes old put =
    by_closed (λ before_ old' put'. moving setting (y ∷ ys) x before_ old' put') (next_step setting (chronicle setting (y ∷ ys)) x).seen.closed refl
  where
    by_step : (IsNextEvent setting (y ∷ ys) x → Moves setting (y ∷ ys)) → (next_step setting (chronicle setting (y ∷ ys)) x).seen.closed ≡ false
        → WasMoved setting x (y ∷ ys) (plan_now setting (chronicle setting (x ∷ y ∷ ys))).backup_root
        → Moving setting (chronicle setting (x ∷ y ∷ ys))
    by_step again open_ (kept was epoch at) =
        let b : ℕ = (plan_now setting (chronicle setting (x ∷ y ∷ ys))).backup_root in
        let eras : era (chronicle setting (x ∷ y ∷ ys)) ≡ era (chronicle setting (y ∷ ys)) = same_era setting x (y ∷ ys) open_ in
        let was_old : is_old (chronicle setting (y ∷ ys)) b ≡ true = old_then setting x (y ∷ ys) e comes b epoch open_ old in
        keeps_on setting x y ys e comes open_ at
        (again (comes_before setting x (y ∷ ys) e comes)
        (subst (λ n. is_old (chronicle setting (y ∷ ys)) (plan_numbered setting n).backup_root ≡ true) eras was_old)
        (subst (λ n. moved (chronicle setting (y ∷ ys)) (plan_numbered setting n).backup_root ≡ true) eras was))
    by_step again open_ (goes on epoch at) =
        let b : ℕ = (plan_now setting (chronicle setting (x ∷ y ∷ ys))).backup_root in
        goes_now setting x y ys e comes open_ (old_then setting x (y ∷ ys) e comes b epoch open_ old) on at old put

    by_closed : (IsNextEvent setting (y ∷ ys) x → Moves setting (y ∷ ys)) → (c : Bool) → (next_step setting (chronicle setting (y ∷ ys)) x).seen.closed ≡ c
        → Moving setting (chronicle setting (x ∷ y ∷ ys))
    by_closed again true closed = absurd (none_closed setting x (y ∷ ys) e comes put closed)
    by_closed again false open_ =
        by_step again open_
        (step_back setting x (y ∷ ys) (plan_now setting (chronicle setting (x ∷ y ∷ ys))).backup_root (steps_timed setting x (y ∷ ys) e comes) put)

-- 14 (iii)
pub mended_moves : (setting : Setting) → AtNext MendedMoves setting
mended_moves setting history e comes is broken old put = by (moving setting history e comes old put)
  where
    by : Moving setting (chronicle setting history)
        → (moved_at (chronicle setting history) (plan_now setting (chronicle setting history)).backup_root
        ≤ path_failed_at setting (chronicle setting history) + depth setting.net * delay setting.net + first_up setting.net
        (plan_now setting (chronicle setting history)) + tick_gap setting.net)
        ⊎ ((moved_at (chronicle setting history) (plan_now setting (chronicle setting history)).backup_root
        ≤ path_failed_at setting (chronicle setting history) + depth setting.net * delay
        setting.net + 2 * (first_up setting.net (plan_now setting (chronicle setting history)) + tick_gap setting.net))
        × (root_failed setting (chronicle setting history) ≡ true
        → root_failed_at setting (chronicle setting history) + (depth setting.net + 1) * delay setting.net ≤ moved_at (chronicle setting history)
        (plan_now setting (chronicle setting history)).backup_root))
    by (first_wait le) = inl le
    by (second_wait mended_ le root) = inr (le, root)
