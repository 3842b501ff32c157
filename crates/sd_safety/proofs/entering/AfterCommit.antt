-- Moments later than the commit of the open window lie in its window after it, and the commit came when it came.
use Rattle.std.specs.Prelude.{◌≡◌, ℕ, ◌<◌, ◌≤◌, Bool, true, false, List, [], ◌∷◌, Option, Some, None, option_map, refl, if◌then◌else◌}
use Rattle.std.specs.List.{list_any}
use Rattle.std.proofs.Common.{arith, sym, ◌∙◌, ap, subst}
use Rattle.sd_num.specs.Lists.{map_or, find_map_or}
use Rattle.sd_sched.specs.declared.Event.{Event}
use Rattle.sd_sched.specs.Events.{reference_of, is_stage, is_commit}
use Rattle.sd_history.specs.World.{Setting, Seen, window, has_commit, latest_reference}
use Rattle.sd_history.specs.Steps.{Step, seen_of}
use Rattle.sd_history.specs.Chronicle.{chronicle, next_step}
use Rattle.sd_safety.specs.invariant.Eras.{era}
use Rattle.sd_safety.specs.invariant.Clauses.{commit_at}
use Rattle.sd_safety.specs.invariant.Guarded.{IsSteady}
use Rattle.sd_safety.proofs.invariant.Prefix.{clean_before}
use Rattle.sd_safety.specs.messages.Moments.{Tail, whole, behind, IsChronicle, Moment, when, IsIn}
use Rattle.sd_safety.proofs.messages.Tails.{history_chronicle, no_later, step_time}
use Rattle.sd_safety.proofs.silences.Phases.{era_grows, open_at}
use Rattle.sd_safety.proofs.silences.FirstEra.{commit_stays}
use Rattle.sd_safety.proofs.windows.StaysNew.{RestsAt, rests_at}
use Rattle.sd_safety.proofs.frame.PlainSteps.{era_kept, window_goes_on, commit_kept, commit_at_kept}

-- the reference of the latest commit of a window
abbrev commit_time : List Seen → ℕ
commit_time w = find_map_or (λ x. if is_commit x.event then Some (reference_of x.event) else None) w 0

-- with a commit in its window a step neither closes nor opens one
pub goes_on : (s : Seen) (c st : Bool) (w : Option (List Seen))
    → map_or (if c then None else if st then Some [] else option_map (λ v. s ∷ v) w) false (list_any (λ x. is_commit x.event)) ≡ true
    → (c ≡ false) × (st ≡ false)
goes_on s true st w has = cc
goes_on s false true w has = cc
goes_on s false false w has = (refl, refl)

commit_here : (s : Seen) (w : Option (List Seen)) → map_or (option_map (λ v. s ∷ v) w) false (list_any (λ x. is_commit x.event)) ≡ true
    → is_commit s.event ≡ true → map_or (option_map (λ v. s ∷ v) w) 0 commit_time ≡ reference_of s.event
commit_here s None has is = cc
commit_here s (Some v) has is = ap (λ b. map_or (if b then Some (reference_of s.event) else None) (commit_time v) (λ told. told)) is

-- the moment is later than the commit, in the same era
pub record IsSince (steps : List Step) (q : Moment) : Type 0 where
  pub commit : has_commit (seen_of q.earlier) ≡ true
  pub same : era q.earlier ≡ era steps

pub since : (setting : Setting) (q : Moment) (s : Step) (steps : List Step) → IsChronicle setting steps → has_commit (seen_of steps) ≡ true
    → commit_at steps < when q → IsIn q (s ∷ steps) → IsSince steps q
since setting q _ _ is commit late whole = record { commit = commit; same = refl }
since setting q s [] is commit late (behind t) = elim t [ ]
since setting q s (x ∷ earlier) is commit late (behind t) =
    let goes = goes_on x.seen x.seen.closed (is_stage x.seen.event) (window (seen_of earlier)) commit in
    by (is_commit x.seen.event) refl goes.0 goes.1 (λ before less. since setting q x earlier is.0 before less t)
  where
    by : (b : Bool) → is_commit x.seen.event ≡ b → x.seen.closed ≡ false → is_stage x.seen.event ≡ false
        → (has_commit (seen_of earlier) ≡ true → commit_at earlier < when q → IsSince earlier q) → IsSince (x ∷ earlier) q
    by true here shut unstaged rest =
        let goes = window_goes_on setting earlier x shut unstaged in
        let at : commit_at (x ∷ earlier) ≡ reference_of x.seen.event =
        ap (λ (w : Option (List Seen)). map_or w 0 commit_time) goes
        ∙ commit_here x.seen (window (seen_of earlier)) (sym (ap (λ (w : Option (List Seen)). map_or w false (list_any (λ y. is_commit y.event))) goes)
        ∙ commit) here in
        let le : when q ≤ reference_of x.seen.event = no_later setting q (x ∷ earlier) is t in
        absurd (omega (arith, at, le, late))
    by false none shut unstaged rest =
        let r : IsSince earlier q =
        rest (sym (commit_kept setting earlier x shut unstaged none) ∙ commit)
        (subst (λ n. n < when q) (commit_at_kept setting earlier x shut unstaged none) late) in
        record { commit = r.commit; same = r.same ∙ sym (era_kept setting earlier x shut) }

-- a commit is no later than the newest step
commit_by : (s : Seen) (c st b : Bool) (w : Option (List Seen)) (n : ℕ) → is_commit s.event ≡ b → map_or w 0 commit_time ≤ n → n ≤ reference_of s.event
    → map_or (if c then None else if st then Some [] else option_map (λ v. s ∷ v) w) 0 commit_time ≤ reference_of s.event
commit_by s true st b w n is le time = omega arith
commit_by s false true b w n is le time = omega arith
commit_by s false false b None n is le time = omega arith
commit_by s false false b (Some v) n is le time =
    subst (λ c. map_or (if c then Some (reference_of s.event) else None) (commit_time v) (λ told. told) ≤ reference_of s.event) (sym is) (go b)
  where
    go : (c : Bool) → map_or (if c then Some (reference_of s.event) else None) (commit_time v) (λ told. told) ≤ reference_of s.event
    go true = omega arith
    go false = omega (arith, le, time)

pub commit_no_later : (setting : Setting) (steps : List Step) → IsChronicle setting steps → commit_at steps ≤ latest_reference (seen_of steps)
commit_no_later setting [] is = omega arith
commit_no_later setting (x ∷ earlier) is =
    commit_by x.seen x.seen.closed (is_stage x.seen.event) (is_commit x.seen.event) (window (seen_of earlier)) (latest_reference (seen_of earlier)) refl
    (commit_no_later setting earlier is.0) (step_time setting x earlier is)

-- the commit of an open window stays the one that it is
pub commit_at_stays : (setting : Setting) (older : List Step) (history : List Event) → IsSteady setting history → Tail older (chronicle setting history)
    → era (chronicle setting history) ≤ era older → has_commit (seen_of older) ≡ true
    → commit_at (chronicle setting history) ≡ commit_at older
commit_at_stays setting _ [] clean whole le commit = refl
commit_at_stays setting _ (e ∷ history) clean whole le commit = refl
commit_at_stays setting older (e ∷ history) clean (behind t) le commit =
    let steps : List Step = chronicle setting history in
    let s : Step = next_step setting steps e in
    let before_ : era older ≤ era steps = era_grows older steps t in
    let next : era steps ≤ era (s ∷ steps) = era_grows steps (s ∷ steps) (behind whole) in
    let same : era steps ≤ era older = omega (arith, le, next) in
    let had : has_commit (seen_of steps) ≡ true = commit_stays setting older steps t (history_chronicle setting history clean.is.0) same commit in
    let rests : RestsAt e = rests_at setting e history clean had in
    let shut : s.seen.closed ≡ false = open_at s steps (omega (arith, le, before_)) in
    commit_at_kept setting steps s shut rests.stage rests.commit ∙ commit_at_stays setting older history (clean_before setting e history clean) t same commit
