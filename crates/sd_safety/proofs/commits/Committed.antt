-- 14 where the backup root is new: before the commit the device had time to spare. After it, it enters within A + H * D of a commit of the root; and where the
-- backup root has
-- committed, it hears or enters within that time of the takeover.
use Rattle.std.specs.Prelude.{◌≡◌, ℕ, ◌+◌, ◌*◌, ◌<◌, ◌≤◌, Bool, true, false, ◌&&◌, List, [], ◌∷◌, length, max, nat_eq, nat_lt, refl, ◌⊎◌, if◌then◌else◌}
use Rattle.std.proofs.Common.{arith, ◌∙◌, ap, sym, subst, inl, inr}
use Rattle.std.proofs.lemmas.Bool.{and_from, cases_lt, eqb-true, ltb-false, lt-ltb, false_from_ne_true, false≢true}
use Rattle.sd_plan.specs.declared.topo.Thing.TheVariants as thing
use Rattle.sd_plan.specs.declared.Plan.{Plan}
use Rattle.sd_plan.specs.Plans.{is_member, is_root, is_backup_root}
use Rattle.sd_plan.specs.Walks.{epath, on_walk}
use Rattle.sd_checker.specs.check_root.Timing.{round_gap}
use Rattle.sd_sched.specs.declared.Event.{Event}
use Rattle.sd_sched.specs.declared.Event.TheVariants as event
use Rattle.sd_sched.specs.Events.{reference_of}
use Rattle.sd_history.specs.World.{Setting, has_commit, staged_epoch, is_staged_member, is_up, plan_numbered}
use Rattle.sd_history.specs.Steps.{Step, seen_of, acts_in}
use Rattle.sd_history.specs.Chronicle.{past_in, chronicle}
use Rattle.sd_history.proofs.Known.{admitted_up_is_known}
use Rattle.sd_history.proofs.Among.{any_passing}
use Rattle.sd_safety.specs.invariant.Bounds.{losses, depth, delay, tick_gap, rounds_gap, first_low, first_up, second_low, second_up, wait_low, IsTimedBy}
use Rattle.sd_safety.specs.invariant.Clauses.{commit_at, staged_root}
use Rattle.sd_safety.specs.invariant.Guarded.{IsSteady}
use Rattle.sd_safety.specs.invariant.Coming.{IsNextEvent, AtNext}
use Rattle.sd_safety.specs.invariant.Eras.{era, plan_now, failed_now, is_among, device_failed_now, is_old, is_new, is_ordinary, will_belong, hit, root_failed, all_started, beginning, heard_at, silent_for}
use Rattle.sd_safety.proofs.invariant.Facts.{IsSound}
use Rattle.sd_safety.proofs.invariant.Sides.{implied, not_both}
use Rattle.sd_safety.specs.timers.Times.{AreTimed}
use Rattle.sd_safety.specs.messages.Moments.{Tail, whole, behind, Moment, when, IsIn}
use Rattle.sd_safety.proofs.waits.Standing.{clean, steps_timed, sound, is_up_then, heard_late}
use Rattle.sd_safety.proofs.waits.Waits.{Stands, old_stands}
use Rattle.sd_safety.proofs.silences.Phases.{failed_on}
use Rattle.sd_safety.proofs.silences.States.{not_old_and_new, old_unless_new}
use Rattle.sd_safety.proofs.windows.Acting.{not_new}
use Rattle.sd_safety.proofs.windows.Committing.{ActingPast, acting_past, up_and_past, staged_plan}
use Rattle.sd_safety.proofs.windows.StaysNew.{reached}
use Rattle.sd_safety.proofs.windows.NoneBeforeCommit.{epoch_within}
use Rattle.sd_safety.proofs.terms.Actors.{IsActor, actor_leads}
use Rattle.sd_safety.proofs.entering.Entering.{members_enter}
use Rattle.sd_safety.proofs.entering.States as states
use Rattle.sd_safety.specs.behind.Pieces.{HearsNoMore}
use Rattle.sd_safety.specs.behind.Feeding.{PathHearsNoMore, StandsBehind, took_over_at, MendedHears, MendedMoves, BehindWaitsCommitted}
use Rattle.sd_safety.proofs.behind.BeforeFailure.{begin_same, heard_rises}
use Rattle.sd_safety.proofs.behind.Failing.{chronicle_tail, comes_at}
use Rattle.sd_safety.proofs.behind.Sealing.{seals_soon}
use Rattle.sd_safety.proofs.behind.BackupRootTookOver.{took_over_soon}
use Rattle.sd_safety.proofs.behind.Paths.{backup_root_on_cut}
use Rattle.sd_safety.proofs.spans.PathHearsAtEvents.{whole_path_hears}
use Rattle.sd_safety.proofs.spans.Staged.{is_staged}
use Rattle.sd_safety.proofs.spans.PathHears.{IsSpared, spared}
use Rattle.sd_safety.proofs.feeds.Feeds.{fallback_feeds}
use Rattle.sd_safety.specs.commits.Entering.{BehindWaitsLonger, TookOverEarly}
use Rattle.sd_safety.specs.commits.Leading.{IsLed}
use Rattle.sd_safety.proofs.commits.BackupRootActed.{HasActed, acted_since}
use Rattle.sd_safety.proofs.behind.Silent.{behind_parts}
use Rattle.sd_safety.proofs.commits.Fed.{fed_by}
use Rattle.sd_safety.proofs.commits.FoundCommit.{CommitOf, commit_of}
use Rattle.sd_safety.proofs.commits.SpareTime.{behind_waits_longer, took_over_early}
use Rattle.sd_safety.proofs.behind.StoodBehind.{stood_then}
use Rattle.sd_safety.proofs.commits.Sums.{begun_sum, spared_sum, heard_sum, early_sum, enters_sum, led_sum}
use Rattle.sd_safety.proofs.timers.Emissions.{timed_tail}
use Rattle.sd_safety.proofs.messages.Tails.{rest_of}
use Rattle.sd_safety.proofs.receipts.Stood.{clean_of}

-- Before the commit, in the era

-- an event that comes in the era, before which the device stands behind the backup root and no commit came
record IsThen (setting : Setting) (z : Event) (earlier : List Event) (d : ℕ) : Type 0 where
  comes : IsNextEvent setting earlier z
  calm : has_commit (seen_of (chronicle setting earlier)) ≡ false
  stood : StandsBehind setting (chronicle setting earlier) d
  late : (era (chronicle setting earlier) ≡ 1) → reference_of z ≤ all_started setting (chronicle setting earlier) → ⊥

-- the backup root is old
backup_old : (setting : Setting) (z : Event) (earlier : List Event) (d : ℕ) → IsThen setting z earlier d
    → is_old (chronicle setting earlier) (plan_now setting (chronicle setting earlier)).backup_root ≡ true
backup_old setting z [] d t = absurd (false≢true t.stood.old)
backup_old setting z (y ∷ ys) d t =
    old_unless_new setting y ys z t.comes b fine.backup_member kept up (not_new setting (y ∷ ys) b (clean setting y ys z t.comes).is t.calm)
  where
    older : List Step
    older = chronicle setting (y ∷ ys)

    plan : Plan
    plan = plan_now setting (chronicle setting (y ∷ ys))

    b : ℕ
    b = (plan_now setting (chronicle setting (y ∷ ys))).backup_root

    fine : IsSound setting.net (plan_now setting (chronicle setting (y ∷ ys)))
    fine = sound setting y ys z t.comes

    -- it did not fail, since the device is not hit
    kept : device_failed_now older b ≡ false
    kept =
        let parts = behind_parts (is_member plan d) (is_backup_root plan d) (on_walk setting.net plan d b) t.stood.behind in
        false_from_ne_true (device_failed_now older b)
        (λ failed. not_both (hit setting older d)
        (any_passing (is_among (failed_now older)) (thing.Device b) (epath setting.net plan d)
        (backup_root_on_cut plan setting.net d parts.0 parts.1) failed) t.stood.missed)

    up : is_up (seen_of older) b ≡ true
    up = is_up_then setting y ys z t.comes b fine.fits.backup_root fine.backup_member kept (λ early. t.late (eqb-true (era older) 1 early.0) early.1)

module _ (setting : Setting) (longer : AtNext BehindWaitsLonger setting) (early_ : AtNext TookOverEarly setting) where
  module _ (x : Event) (h : List Event) (e : Event) (comes : IsNextEvent setting (x ∷ h) e) (d : ℕ) (st : StandsBehind setting (chronicle setting (x ∷ h)) d)
      (new_b : is_new (chronicle setting (x ∷ h)) (plan_now setting (chronicle setting (x ∷ h))).backup_root ≡ true) where
    abbrev steps : List Step
    steps = chronicle setting (x ∷ h)

    abbrev plan : Plan
    plan = plan_now setting (chronicle setting (x ∷ h))

    abbrev b : ℕ
    b = (plan_now setting (chronicle setting (x ∷ h))).backup_root

    abbrev Short : Type 0
    Short = silent_for (chronicle setting (x ∷ h)) d (reference_of e) < wait_low setting.net (plan_now setting (chronicle setting (x ∷ h)))

    timed_ : IsTimedBy (losses setting.net) (depth setting.net) (delay setting.net) (round_gap setting.net) (tick_gap setting.net)
        (first_low setting.net plan) (first_up setting.net plan) (second_low setting.net plan) (second_up setting.net plan) (wait_low setting.net plan)
    timed_ = (sound setting x h e comes).timed

    clean_ : IsSteady setting (x ∷ h)
    clean_ = clean setting x h e comes

    all_timed : AreTimed setting (chronicle setting (x ∷ h))
    all_timed = steps_timed setting x h e comes

    commit : has_commit (seen_of (chronicle setting (x ∷ h))) ≡ true
    commit = reached (has_commit (seen_of steps)) (era steps) (epoch_within setting (x ∷ h) clean_.is b (staged_epoch (seen_of steps)) new_b)

    own : IsSpared setting (chronicle setting (x ∷ h)) d
    own = spared setting x h e comes d st.old

    began : beginning (seen_of (chronicle setting (x ∷ h))) ≤ heard_at (chronicle setting (x ∷ h)) d
    began = let s : Stands setting steps d = old_stands setting (x ∷ h) d st.old in heard_late setting x h e comes d s.past s.there

    -- the event of the commit
    f : CommitOf setting (x ∷ h)
    f = commit_of setting comes.fair (x ∷ h) clean_ commit

    abbrev committed : Event
    committed = event.Commit f.reference f.device f.counter

    abbrev older : List Step
    older = chronicle setting f.earlier

    plan_same : plan_now setting (chronicle setting f.earlier) ≡ plan_now setting (chronicle setting (x ∷ h))
    plan_same = ap (plan_numbered setting) f.era_is

    comes_then : IsNextEvent setting f.earlier (event.Commit f.reference f.device f.counter)
    comes_then = comes_at setting committed f.earlier (x ∷ h) f.tail comes.fair clean_ comes.before

    -- the device was a member of the staged plan, and has not entered yet
    module _ (late : all_started setting (chronicle setting (x ∷ h)) < reference_of e) where
      staged : is_member (staged_plan setting (chronicle setting (x ∷ h))) d ≡ true
      staged = is_staged setting x h e comes late d commit own.up own.member (ap (λ c. c && is_ordinary plan d) st.missed)

      will : will_belong setting (chronicle setting (x ∷ h)) d ≡ true
      will =
          and_from (nat_lt d (length setting.net.devices)) (is_staged_member setting (seen_of steps) d)
          (lt-ltb d (length setting.net.devices) (admitted_up_is_known setting (x ∷ h) comes.clean.is.0 d own.up))
          (sym (states.staged_member setting (x ∷ h) e comes commit d) ∙ staged)

      entering : reference_of e ≤ f.reference + (rounds_gap setting.net + depth setting.net * delay setting.net)
      entering =
          let limit : ℕ = commit_at steps + rounds_gap setting.net + depth setting.net * delay setting.net in
          let asked = members_enter setting (x ∷ h) e comes d in
          let le : reference_of e ≤ limit =
          ltb-false limit (reference_of e)
          (false_from_ne_true (nat_lt limit (reference_of e))
          (λ less. not_old_and_new steps d st.old
          (implied (has_commit (seen_of steps) && will_belong setting steps d && nat_lt limit (reference_of e)) (is_new steps d) asked
          (and_from (has_commit (seen_of steps) && will_belong setting steps d) (nat_lt limit (reference_of e))
          (and_from (has_commit (seen_of steps)) (will_belong setting steps d) commit will) less)))) in
          let at = f.at in
          omega (arith, le, at)

      -- where it heard nothing since the commit, and members had started by then
      module _ (silent : heard_at (chronicle setting (x ∷ h)) d < f.reference) (begun : all_started setting (chronicle setting (x ∷ h)) < f.reference) where
        stood : StandsBehind setting (chronicle setting f.earlier) d
        stood =
            stood_then setting (x ∷ h) all_timed d st committed f.earlier f.tail f.era_is
            (λ y is. failed_on y (chronicle setting f.earlier) steps ((chronicle_tail setting f.earlier (x ∷ h) (rest_of f.tail))) (let same_ =
            f.era_is in omega (arith, same_)) is) silent

        same_start : (hs : List Event) → Tail (committed ∷ hs) (x ∷ h) → is_old (chronicle setting hs) d ≡ true
            → all_started setting (chronicle setting hs) ≡ all_started setting (chronicle setting (x ∷ h))
        same_start [] tail old = absurd (false≢true old)
        same_start (y ∷ ys) tail old = ap (λ n. n + tick_gap setting.net) (begin_same setting y ys (x ∷ h) (rest_of tail))

        then_ : IsThen setting (event.Commit f.reference f.device f.counter) f.earlier d
        then_ =
            record {
              comes = comes_then;
              calm = f.asks.first_one;
              stood = stood;
              late = λ first le. let same = same_start f.earlier f.tail stood.old in omega (arith, le, same, begun);
            }

        old_then : is_old (chronicle setting f.earlier) (plan_now setting (chronicle setting f.earlier)).backup_root ≡ true
        old_then = backup_old setting committed f.earlier d then_

        heard_up : heard_at (chronicle setting f.earlier) d ≤ heard_at (chronicle setting (x ∷ h)) d
        heard_up = heard_rises setting f.earlier (x ∷ h) d (rest_of f.tail)
            (timed_tail setting older steps (chronicle_tail setting f.earlier (x ∷ h) (rest_of f.tail)) all_timed) all_timed

        -- the root committed
        by_root : root_failed setting (chronicle setting f.earlier) ≡ false → Short
        by_root root =
            let spare : f.reference + (rounds_gap setting.net + depth setting.net * delay setting.net) < heard_at older d + wait_low setting.net plan =
            subst (λ p. f.reference + (rounds_gap setting.net + depth setting.net * delay setting.net) < heard_at older d + wait_low setting.net p) plan_same
            (longer f.earlier committed comes_then d stood old_then root) in
            enters_sum (losses setting.net) (depth setting.net) (delay setting.net) (round_gap setting.net) (tick_gap setting.net) _ _ _ _ _ timed_
            (reference_of e) f.reference (heard_at older d) (heard_at steps d) entering spare heard_up

        -- the backup root did
        module _ (root : root_failed setting (chronicle setting f.earlier) ≡ true) where
          clean_then : IsSteady setting f.earlier
          clean_then = clean_of setting f.earlier (x ∷ h) (rest_of f.tail) clean_

          committer : IsActor setting (chronicle setting f.earlier) f.device
          committer =
              let p : ActingPast older f.device = acting_past setting f.earlier f.device f.asks.acts in
              let at = up_and_past (is_up (seen_of older) f.device) (past_in older f.device) p.past p.live in
              record { past = p.past; up = at.0; there = at.1; acts = p.acts }

          device_is : f.device ≡ (plan_now setting (chronicle setting f.earlier)).backup_root
          device_is =
              actor_leads setting f.earlier comes.fair clean_then comes_then.before f.device committer
              ∙ ap (λ c. if c then staged_root setting older else if root_failed setting
              older then (plan_now setting older).backup_root else (plan_now setting older).root) f.asks.first_one
              ∙ ap (λ c. if c then (plan_now setting older).backup_root else (plan_now setting older).root) root

          b_is : (plan_now setting (chronicle setting f.earlier)).backup_root ≡ b
          b_is = ap (λ (p : Plan). p.backup_root) plan_same

          actor : IsActor setting (chronicle setting f.earlier) b
          actor = subst (λ z. IsActor setting older z) (device_is ∙ b_is) committer

          abbrev taken : ℕ
          taken = took_over_at (chronicle setting f.earlier) b

          early : taken + (rounds_gap setting.net + depth setting.net * delay setting.net) < heard_at
              (chronicle setting f.earlier) d + wait_low setting.net plan
          early =
              subst (λ (p : Plan). took_over_at older p.backup_root + (rounds_gap setting.net + depth setting.net * delay setting.net) < heard_at older
              d + wait_low setting.net p) plan_same
              (early_ f.earlier committed comes_then d stood old_then (subst (λ z. acts_in older z ≡ true) device_is f.asks.acts))

          abbrev s0 : ℕ
          s0 = max (max taken (heard_at (chronicle setting (x ∷ h)) d)) (all_started setting (chronicle setting (x ∷ h)))

          since : (q : Moment) → IsIn q (chronicle setting (event.Commit f.reference f.device f.counter ∷ f.earlier)) → s0 < when q
              → HasActed (chronicle setting f.earlier) q b
          since q here after = acted_since setting f.earlier committed comes_then s0 b (sym b_is) actor (omega arith) q here after

          same : (q : Moment) → IsIn q (chronicle setting (e ∷ x ∷ h)) → s0 < when q → era q.earlier ≡ era (chronicle setting (x ∷ h))
          same q whole after = refl
          same q (behind t) after = by (f.place q t)
            where
              by : IsIn q (chronicle setting (event.Commit f.reference f.device f.counter ∷ f.earlier)) ⊎ (has_commit (seen_of q.earlier) ≡ true)
                  × (era q.earlier ≡ era (chronicle setting (x ∷ h))) → era q.earlier ≡ era (chronicle setting (x ∷ h))
              by (inl here) = (since q here after).0 ∙ f.era_is
              by (inr told) = told.1

          acts : (q : Moment) → IsIn q (chronicle setting (e ∷ x ∷ h)) → s0 < when q → has_commit (seen_of q.earlier) ≡ false → acts_in q.earlier b ≡ true
          acts q whole after calm = absurd (not_both (has_commit (seen_of steps)) commit calm)
          acts q (behind t) after calm = by (f.place q t)
            where
              by : IsIn q (chronicle setting (event.Commit f.reference f.device f.counter ∷ f.earlier)) ⊎ (has_commit (seen_of q.earlier) ≡ true)
                  × (era q.earlier ≡ era (chronicle setting (x ∷ h))) → acts_in q.earlier b ≡ true
              by (inl here) = (since q here after).1
              by (inr told) = absurd (not_both (has_commit (seen_of q.earlier)) told.0 calm)

          led : IsLed setting x h e s0
          led =
              record {
                comes = comes;
                commit = commit;
                root = ap (λ n. (plan_numbered setting (n + 1)).root) (sym f.era_is) ∙ f.asks.root ∙ device_is ∙ b_is;
                started = omega arith;
                same = same;
                acts = acts;
              }

          apart : is_root (staged_plan setting (chronicle setting (x ∷ h))) d ≡ false
          apart = ap (λ z. nat_eq z d) led.root ∙ (behind_parts (is_member plan d) (is_backup_root plan d) (on_walk setting.net plan d b) st.behind).0

          by_backup_root : Short
          by_backup_root =
              led_sum (losses setting.net) (depth setting.net) (delay setting.net) (round_gap setting.net) (tick_gap setting.net) _ _ _ _ _ timed_
              (reference_of e) taken (beginning (seen_of steps)) (heard_at older d) (heard_at steps d)
              (fed_by setting x h e s0 led d st (omega arith) staged apart) early heard_up began

        by_failure : (r : Bool) → root_failed setting (chronicle setting f.earlier) ≡ r → Short
        by_failure false root = by_root root
        by_failure true root = by_backup_root root

      by_start : (heard_at (chronicle setting (x ∷ h)) d < f.reference) ⊎ (f.reference ≤ heard_at (chronicle setting (x ∷ h)) d)
          → (all_started setting (chronicle setting (x ∷ h)) < f.reference) ⊎ (f.reference ≤ all_started setting (chronicle setting (x ∷ h))) → Short
      by_start (inl silent) (inl begun) = by_failure silent begun (root_failed setting (chronicle setting f.earlier)) refl
      by_start (inl silent) (inr le) =
          early_sum (losses setting.net) (depth setting.net) (delay setting.net) (round_gap setting.net) (tick_gap setting.net) _ _ _ _ _ timed_
          (reference_of e) f.reference (beginning (seen_of steps)) (heard_at steps d) entering le began
      by_start (inr le) start =
          heard_sum (losses setting.net) (depth setting.net) (delay setting.net) (round_gap setting.net) (tick_gap setting.net) _ _ _ _ _ timed_
          (reference_of e) f.reference (heard_at steps d) entering le

    by_age : (all_started setting (chronicle setting (x ∷ h)) < reference_of e) ⊎ (reference_of e ≤ all_started setting (chronicle setting (x ∷ h))) → Short
    by_age (inl late) = by_start late (cases_lt (heard_at steps d) f.reference) (cases_lt (all_started setting steps) f.reference)
    by_age (inr le) =
        spared_sum (losses setting.net) (depth setting.net) (delay setting.net) (round_gap setting.net) (tick_gap setting.net) _ _ _ _ _ timed_ (reference_of e)
        (heard_at steps d)
        (begun_sum (losses setting.net) (depth setting.net) (delay setting.net) (round_gap setting.net) (tick_gap setting.net) _ _ _ _ _ timed_ (reference_of e)
        (beginning (seen_of steps)) (heard_at steps d) le began)

    waits : Short
    waits = by_age (cases_lt (all_started setting steps) (reference_of e))

  waits_committed : AtNext BehindWaitsCommitted setting
  waits_committed [] e comes d st new = absurd (false≢true st.old)
  waits_committed (x ∷ h) e comes d st new = waits x h e comes d st new

-- 14 where the backup root is new
pub behind_waits_committed : (setting : Setting) → AtNext HearsNoMore setting → AtNext PathHearsNoMore setting → AtNext MendedHears setting
    → AtNext MendedMoves setting → AtNext BehindWaitsCommitted setting
behind_waits_committed setting no_more path hears moves =
    let took = took_over_soon setting no_more in
    let longer = behind_waits_longer setting (whole_path_hears setting) (seals_soon setting) (fallback_feeds setting) took path hears moves in
    let early = took_over_early setting (whole_path_hears setting) (seals_soon setting) (fallback_feeds setting) took path hears moves in
    waits_committed setting longer early
