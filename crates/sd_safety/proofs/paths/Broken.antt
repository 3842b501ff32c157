-- In an era without a mend so far an old backup root on its primary heard at most H * D after its path broke.
use Rattle.std.specs.Prelude.{◌≡◌, ℕ, ◌+◌, ◌*◌, ◌<◌, ◌≤◌, true, false, List, [], ◌∷◌, nat_eq, Option, Some}
use Rattle.std.specs.List.{list_any}
use Rattle.std.proofs.Common.{arith, ◌∙◌, ap, sym, inl, inr}
use Rattle.std.proofs.lemmas.Bool.{eq-eqb, false_from_ne_true}
use Rattle.sd_num.specs.Lists.{map_or}
use Rattle.sd_plan.specs.declared.topo.Thing.{Thing}
use Rattle.sd_plan.specs.declared.topo.Thing.TheVariants as thing
use Rattle.sd_plan.specs.declared.Duty.{Duty}
use Rattle.sd_plan.specs.Walks.{path}
use Rattle.sd_sched.specs.declared.Event.{Event}
use Rattle.sd_sched.specs.Events.{reference_of}
use Rattle.sd_history.specs.World.{Setting, fails, link_has_failed}
use Rattle.sd_history.specs.Steps.{Step, seen_of}
use Rattle.sd_history.specs.Chronicle.{chronicle}
use Rattle.sd_safety.specs.invariant.Bounds.{depth, delay, tick_gap}
use Rattle.sd_safety.specs.invariant.Eras.{era, plan_now, all_started, late, first_failure, heard_at, is_old, on_primary, path_hit}
use Rattle.sd_safety.specs.invariant.Guarded.{IsSteady}
use Rattle.sd_safety.specs.invariant.Coming.{IsNextEvent, AtNext}
use Rattle.sd_safety.proofs.invariant.Prefix.{clean_before}
use Rattle.sd_safety.proofs.invariant.Sides.{not_both}
use Rattle.sd_safety.proofs.spans.SilenceStarts.{idle_of}
use Rattle.sd_safety.specs.messages.Moments.{whole, behind, IsChronicle, Moment, upto, when, IsIn, IsBefore}
use Rattle.sd_safety.proofs.messages.Flowing.{tail_rest}
use Rattle.sd_safety.proofs.messages.Tails.{Order, before, same, after, ordered, tail_trans, rest_of, tail_chronicle, history_chronicle, before_is_earlier}
use Rattle.sd_safety.proofs.silences.Phases.{era_grows}
use Rattle.sd_safety.proofs.silences.SoundWays.{top_of}
use Rattle.sd_safety.proofs.waits.Waits.{Stands, old_stands}
use Rattle.sd_safety.proofs.receipts.Hearings.{IsHeard, IsStarted, LastHeard, last_heard}
use Rattle.sd_safety.proofs.receipts.Stood.{clean_of, each_of}
use Rattle.sd_safety.specs.behind.Feeding.{mended_now, path_failed_at, PathHearsNoMore}
use Rattle.sd_safety.proofs.behind.Failing.{FirstFailure, first_failing, chronicle_tail}
use Rattle.sd_safety.proofs.behind.EraSums.{late_since, late_from_start}
use Rattle.sd_safety.proofs.behind.Broken.{hit_first}
use Rattle.sd_safety.proofs.traced.Unmoved.{start_early, begins_with}
use Rattle.sd_safety.proofs.paths.FromRoot.{traced, within, first_in, took, crossed_path}
use Rattle.sd_safety.proofs.paths.Links.{stays_failed, unmended_back}
use Rattle.sd_safety.proofs.paths.Senders.{sender_spared}

-- where the backup root was started in the era and heard nothing since, that was before all had started, and so before its path counts as broken
pub started_first : (setting : Setting) (x : Event) (h : List Event) (e : Event) (comes : IsNextEvent setting (x ∷ h) e) (d : ℕ)
    → IsStarted setting (x ∷ h) d (era (chronicle setting (x ∷ h)))
    → heard_at (chronicle setting (x ∷ h)) d ≤ path_failed_at setting (chronicle setting (x ∷ h))
started_first setting x h e comes d s =
    let steps : List Step = chronicle setting (x ∷ h) in
    let clean : IsSteady setting (x ∷ h) = clean_before setting e (x ∷ h) comes.clean in
    let early = start_early setting comes.fair d (era steps) s.event s.earlier (clean_of setting (s.event ∷ s.earlier) (x ∷ h) s.tail clean)
    (each_of setting (s.event ∷ s.earlier) (x ∷ h) s.tail comes.before).0 s.makes_ s.past s.there s.own (one_at_least steps) in
    let began : all_started setting (chronicle setting (s.event ∷ s.earlier)) ≡ all_started setting steps =
    ap (λ r. r + tick_gap setting.net) (sym (begins_with setting s.event s.earlier (x ∷ h) s.tail)) in
    let first_ : nat_eq (era steps) 1 ≡ true = eq-eqb (era steps) 1 (sym s.number ∙ early.0) in
    let bound : all_started setting steps ≤ path_failed_at setting steps = late_from_start (nat_eq (era steps) 1) _ (all_started setting steps) first_ in
    sum (heard_at steps d) (reference_of s.event) (all_started setting (chronicle setting (s.event ∷ s.earlier))) (all_started setting steps)
    (path_failed_at setting steps) s.time early.1 began bound
  where
    one_at_least : (l : List Step) → 1 ≤ era l
    one_at_least l = omega arith

    sum : (a r s t g : ℕ) → a ≡ r → r ≤ s → s ≡ t → t ≤ g → a ≤ g
    sum a r s t g one two three four = omega (arith, one, two, three, four)

module _ (setting : Setting) (x : Event) (h : List Event) (e : Event) (comes : IsNextEvent setting (x ∷ h) e)
    (broken : path_hit setting (chronicle setting (x ∷ h)) (plan_now setting (chronicle setting (x ∷ h))).backup_root ≡ true)
    (old : is_old (chronicle setting (x ∷ h)) (plan_now setting (chronicle setting (x ∷ h))).backup_root ≡ true)
    (on : on_primary (chronicle setting (x ∷ h)) (plan_now setting (chronicle setting (x ∷ h))).backup_root ≡ true) where
  abbrev steps : List Step
  steps = chronicle setting (x ∷ h)

  abbrev b : ℕ
  b = (plan_now setting (chronicle setting (x ∷ h))).backup_root

  abbrev things : List Thing
  things = path setting.net (plan_now setting (chronicle setting (x ∷ h))) (plan_now setting (chronicle setting (x ∷ h))).backup_root

  abbrev Bound : Type 0
  Bound = heard_at (chronicle setting (x ∷ h)) (plan_now setting (chronicle setting (x ∷ h))).backup_root ≤ path_failed_at setting
      (chronicle setting (x ∷ h)) + depth setting.net * delay setting.net

  clean : IsSteady setting (x ∷ h)
  clean = clean_before setting e (x ∷ h) comes.clean

  all : IsChronicle setting (chronicle setting (x ∷ h))
  all = history_chronicle setting (x ∷ h) clean.is

  stands : Stands setting (chronicle setting (x ∷ h)) b
  stands = old_stands setting (x ∷ h) b old

  found : (r : ℕ)
      × (first_failure (path setting.net (plan_now setting (chronicle setting (x ∷ h))) (plan_now setting (chronicle setting (x ∷ h))).backup_root)
      (seen_of (chronicle setting (x ∷ h))) ≡ Some r)
  found = hit_first things (seen_of steps) broken

  failed_at : path_failed_at setting (chronicle setting (x ∷ h)) ≡ late setting (chronicle setting (x ∷ h)) found.0
  failed_at = ap (λ (o : Option ℕ). late setting steps (map_or o 0 (λ reference. reference))) found.1

  -- what came before the era came before that
  pub before_break : (p : Moment) → IsIn p (chronicle setting (x ∷ h)) → era (upto p) < era (chronicle setting (x ∷ h))
      → when p ≤ path_failed_at setting (chronicle setting (x ∷ h))
  before_break p here less =
      let f : FirstFailure setting things (x ∷ h) found.0 = first_failing setting things (x ∷ h) found.0 found.1 in
      let g : Moment = top_of setting f.earlier f.event in
      let g_in : IsIn g steps = (chronicle_tail setting (f.event ∷ f.earlier) (x ∷ h) f.tail) in
      let in_era : era (chronicle setting f.earlier) ≡ era steps = f.era in
      let grows : era (chronicle setting f.earlier) ≤ era (upto g) = era_grows (chronicle setting f.earlier) (upto g) (behind whole) in
      let far : era steps ≤ era (upto g) = omega (arith, in_era, grows) in
      sum (when p) (when g) found.0 (late setting steps found.0) (path_failed_at setting steps) (order g g_in far (ordered steps p g here g_in)) f.at
      (late_since (nat_eq (era steps) 1) found.0 (all_started setting steps)) failed_at
    where
      sum : (a g q l p' : ℕ) → a ≤ g → g ≡ q → q ≤ l → p' ≡ l → a ≤ p'
      sum a g q l p' one two three four = omega (arith, one, two, three, four)

      order : (g : Moment) → IsIn g (chronicle setting (x ∷ h)) → era (chronicle setting (x ∷ h)) ≤ era (upto g) → Order p g → when p ≤ when g
      order g g_in far (before t) = before_is_earlier setting p g (tail_chronicle setting g_in all) t
      order g g_in far (same equal) = let eras : era (upto p) ≡ era (upto g) = ap era equal in absurd (omega (arith, eras, far, less))
      order g g_in far (after t) = let grows : era (upto g) ≤ era (upto p) = era_grows (upto g) (upto p) (behind t) in absurd (omega (arith, grows, far, less))

  -- it heard in the era where nothing was mended before
  module _ (heard : IsHeard setting (x ∷ h) b (era (chronicle setting (x ∷ h)))) (none : era (chronicle setting (x ∷ h)) ≤ era heard.moment.earlier
      → mended_now heard.moment.earlier ≡ false) (f : FirstFailure setting things (x ∷ h) found.0) where
    abbrev first : Moment
    first = (traced setting x h e comes old on heard).first

    -- the moment of the failure
    abbrev g : Moment
    g = top_of setting f.earlier f.event

    g_in : IsIn g (chronicle setting (x ∷ h))
    g_in = (chronicle_tail setting (f.event ∷ f.earlier) (x ∷ h) f.tail)

    in_era : era (chronicle setting (x ∷ h)) ≤ era (chronicle setting f.earlier)
    in_era = let same_ = f.era in omega (arith, same_)

    in_era_then : era (chronicle setting (x ∷ h)) ≤ era (upto g)
    in_era_then = let le = in_era in let grows = era_grows (chronicle setting f.earlier) (upto g) (behind whole) in omega (arith, le, grows)

    -- no message that was emitted after it came
    too_late : IsBefore g first → ⊥
    too_late t =
        not_both (list_any (λ y. fails y f.event) things) f.fails
        (crossed_path setting x h e comes old on heard (λ y. fails y f.event)
        (λ from since inside l whole. false_from_ne_true (fails (thing.Link l) f.event)
        (λ failing. not_both (link_has_failed (seen_of from.earlier) l)
        (stays_failed (thing.Link l) g from.earlier heard.moment.earlier (since_of from since) (tail_rest inside) (era_before (since_of from since) inside)
        (none_before (since_of from since) inside) failing) whole))
        (λ from since inside m z up. sender_spared setting x h comes.fair clean comes.before heard.message.stamp first
        (traced setting x h e comes old on heard).source g from (within setting x h e comes old on heard from inside) (since_of from since) in_era m z up))
      where
        since_of : (from : Moment) → IsIn first (upto from) → IsBefore g from
        since_of from whole = t
        since_of from (behind u) = tail_trans t (rest_of u)

        era_before : {from : Moment} → IsBefore g from → IsIn from (upto heard.moment) → era heard.moment.earlier ≤ era (upto g)
        era_before u inside =
            let le = in_era_then in
            let last : era heard.moment.earlier ≤ era steps = era_grows heard.moment.earlier steps (rest_of heard.inside) in
            omega (arith, le, last)

        none_before : {from : Moment} → IsBefore g from → IsIn from (upto heard.moment) → mended_now heard.moment.earlier ≡ false
        none_before u inside =
            let le = in_era_then in
            let grows : era (upto g) ≤ era heard.moment.earlier = era_grows (upto g) heard.moment.earlier (tail_trans u (tail_rest inside)) in
            none (omega (arith, le, grows))

    emitted : when first ≤ when g
    emitted = order (ordered steps first g (first_in setting x h e comes old on heard) g_in)
      where
        latest_of : List Step → ℕ
        latest_of [] = 0
        latest_of (s ∷ earlier) = reference_of s.seen.event

        order : Order first g → when first ≤ when g
        order (before t) = before_is_earlier setting first g (tail_chronicle setting g_in all) t
        order (same equal) = let times : when first ≡ when g = ap latest_of equal in omega (arith, times)
        order (after t) = absurd (too_late t)

    by_failure : Bound
    by_failure =
        sum (heard_at steps b) (when heard.moment) (when first) (when g) found.0 (late setting steps found.0) (path_failed_at setting steps)
        (depth setting.net * delay setting.net) heard.time (took setting x h e comes old on heard) emitted f.at
        (late_since (nat_eq (era steps) 1) found.0 (all_started setting steps)) failed_at
      where
        sum : (a r s g q l p d : ℕ) → a ≡ r → r ≤ s + d → s ≤ g → g ≡ q → q ≤ l → p ≡ l → a ≤ p + d
        sum a r s g q l p d one two three four five six = omega (arith, one, two, three, four, five, six)

  pub heard_unmended : (heard : IsHeard setting (x ∷ h) b (era (chronicle setting (x ∷ h))))
      → (era (chronicle setting (x ∷ h)) ≤ era heard.moment.earlier → mended_now heard.moment.earlier ≡ false) → Bound
  heard_unmended heard none = by_failure heard none (first_failing setting things (x ∷ h) found.0 found.1)

  pub heard_by_break : mended_now (chronicle setting (x ∷ h)) ≡ false → Bound
  heard_by_break none =
      by (last_heard setting (x ∷ h) clean.is b stands.past stands.there (era steps) (ap (λ (o : Option Duty). map_or o 0 (λ u. u.epoch)) stands.duty)
      (one_at_least steps) (sym stands.acts_is ∙ idle_of steps b on))
    where
      one_at_least : (l : List Step) → 1 ≤ era l
      one_at_least l = omega arith

      by : LastHeard setting (x ∷ h) b (era (chronicle setting (x ∷ h))) → Bound
      by (inr s) = let le = started_first setting x h e comes b s in omega (arith, le)
      by (inl heard) = heard_unmended heard (λ le. unmended_back heard.moment.earlier steps (rest_of heard.inside) le none)

-- 14 (i) without a mend
pub path_hears_no_more : (setting : Setting) → AtNext PathHearsNoMore setting
path_hears_no_more setting [] e comes none broken old on = cc
path_hears_no_more setting (x ∷ h) e comes none broken old on = heard_by_break setting x h e comes broken old on none
