-- Since the receipt from which on its path has been whole, an old backup root on its primary has had it so: the time later than that lies in the era, nothing
-- fails
-- in it, the root did not fail, each link of the path is whole, and each device of it stands on its primary.
use Rattle.std.specs.Prelude.{◌≡◌, ℕ, ◌<◌, ◌≤◌, Bool, true, false, ◌||◌, List, [], ◌∷◌, map, nat_eq, None, Some, refl}
use Rattle.std.specs.List.{list_any}
use Rattle.std.proofs.Common.{arith, ◌∙◌, ap, sym, subst}
use Rattle.std.proofs.lemmas.Bool.{and_from, or_left, or_right, or_parts, eq-eqb, false_from_ne_true}
use Rattle.std.proofs.Math.Nat.{le_antisymm}
use Rattle.sd_num.specs.Lists.{has}
use Rattle.sd_plan.specs.topo.Network.{Network}
use Rattle.sd_plan.specs.declared.topo.Thing.{Thing}
use Rattle.sd_plan.specs.declared.topo.Thing.TheVariants as thing
use Rattle.sd_plan.specs.declared.Hop.{Hop}
use Rattle.sd_plan.specs.declared.Plan.{Plan}
use Rattle.sd_plan.specs.Plans.{is_root}
use Rattle.sd_plan.specs.Walks.{walk, path, things_of}
use Rattle.sd_device.specs.Calls.{Past}
use Rattle.sd_device.specs.Words.{epoch_now, has_moved, is_acting}
use Rattle.sd_sched.specs.declared.Event.{Event}
use Rattle.sd_history.specs.Things.{failure_of}
use Rattle.sd_history.specs.World.{Setting, fails, is_thing, link_has_failed}
use Rattle.sd_history.specs.Steps.{Step, seen_of}
use Rattle.sd_history.specs.Chronicle.{past_in, chronicle}
use Rattle.sd_history.proofs.Among.{any_passing}
use Rattle.sd_safety.specs.invariant.Eras.{era, plan_now, all_started, failed_now, is_among, device_failed_now, root_failed, is_old, on_primary}
use Rattle.sd_safety.specs.invariant.Guarded.{IsSteady}
use Rattle.sd_safety.specs.invariant.Coming.{IsNextEvent}
use Rattle.sd_safety.proofs.invariant.CutPaths.{root_on_path}
use Rattle.sd_safety.proofs.invariant.Facts.{IsSound}
use Rattle.sd_safety.proofs.invariant.Prefix.{clean_before}
use Rattle.sd_safety.proofs.invariant.Sides.{not_both}
use Rattle.sd_safety.specs.messages.Moments.{Tail, behind, IsChronicle, Moment, when, IsIn, IsBefore}
use Rattle.sd_safety.proofs.messages.Flowing.{tail_rest}
use Rattle.sd_safety.proofs.messages.Tails.{rest_of, history_chronicle, earlier_is_before}
use Rattle.sd_safety.proofs.waits.Standing.{sound}
use Rattle.sd_safety.proofs.silences.Paths.{IsClear, clear_walk}
use Rattle.sd_safety.proofs.silences.Phases.{era_grows}
use Rattle.sd_safety.proofs.silences.WalkWays.{Walks, over, walks}
use Rattle.sd_safety.proofs.receipts.Stood.{stood_then}
use Rattle.sd_safety.proofs.entering.Stages.{Stage, stage}
use Rattle.sd_safety.proofs.entering.SoundWays.{nothing_touches}
use Rattle.sd_safety.specs.rounds.Spans.{in_era, IsSpan}
use Rattle.sd_safety.specs.behind.Feeding.{mended_now}
use Rattle.sd_safety.proofs.behind.Mends.{fails_nothing}
use Rattle.sd_safety.proofs.behind.Moved.{not_root}
use Rattle.sd_safety.proofs.paths.FirstMend.{mended_on, IsStill, still_on, whole_on}
use Rattle.sd_safety.proofs.stragglers.Stragglers.{is_broken, IsFed}

-- a hop of the path: as the plan has it, of a device on the path, and with nothing of it broken
pub record IsPathHop (net : Network) (plan : Plan) (on_path : ℕ → Bool) (bad : Thing → Bool) (y : ℕ) (hop : Hop) : Type 0 where
  pub clear : IsClear net plan [] y hop
  pub on_it : on_path y ≡ true
  pub self : bad (thing.Device y) ≡ false
  pub link : bad (thing.Link hop.link) ≡ false

-- what is false of all things of a walk is false of those of each hop
pub path_hops : (net : Network) (plan : Plan) (on_path : ℕ → Bool) (bad : Thing → Bool) (hs : List Hop) (y : ℕ) → Walks plan (IsClear net plan []) y hs
    → on_path y ≡ true → ((z : ℕ) → has (map (λ (k : Hop). k.parent) hs) z ≡ true → on_path z ≡ true)
    → bad (thing.Device y) ≡ false → list_any bad (things_of hs) ≡ false → Walks plan (IsPathHop net plan on_path bad) y hs
path_hops net plan on_path bad [] y over on within self none = over
path_hops net plan on_path bad (hop ∷ hs) y (walks one rest) on within self none =
    let p = or_parts (bad (thing.Link hop.link)) (bad (thing.Device hop.parent) || list_any bad (things_of hs)) none in
    let q = or_parts (bad (thing.Device hop.parent)) (list_any bad (things_of hs)) p.1 in
    walks (record { clear = one; on_it = on; self = self; link = p.0 })
    (path_hops net plan on_path bad hs hop.parent rest
    (within hop.parent (or_left (nat_eq hop.parent hop.parent) (has (map (λ (k : Hop). k.parent) hs) hop.parent) (eq-eqb hop.parent hop.parent refl)))
    (λ z a. within z (or_right (nat_eq z hop.parent) (has (map (λ (k : Hop). k.parent) hs) z) a)) q.0 q.1)

module _ (setting : Setting) (x : Event) (h : List Event) (e : Event) (comes : IsNextEvent setting (x ∷ h) e)
    (old : is_old (chronicle setting (x ∷ h)) (plan_now setting (chronicle setting (x ∷ h))).backup_root ≡ true)
    (on : on_primary (chronicle setting (x ∷ h)) (plan_now setting (chronicle setting (x ∷ h))).backup_root ≡ true)
    (fed : IsFed setting (chronicle setting (x ∷ h))) where
  abbrev steps : List Step
  steps = chronicle setting (x ∷ h)

  abbrev plan : Plan
  plan = plan_now setting (chronicle setting (x ∷ h))

  abbrev b : ℕ
  b = (plan_now setting (chronicle setting (x ∷ h))).backup_root

  abbrev things : List Thing
  things = path setting.net (plan_now setting (chronicle setting (x ∷ h))) (plan_now setting (chronicle setting (x ∷ h))).backup_root

  clean : IsSteady setting (x ∷ h)
  clean = clean_before setting e (x ∷ h) comes.clean

  all : IsChronicle setting (chronicle setting (e ∷ x ∷ h))
  all = history_chronicle setting (e ∷ x ∷ h) comes.clean.is

  fine : IsSound setting.net (plan_now setting (chronicle setting (x ∷ h)))
  fine = sound setting x h e comes

  pub other : is_root (plan_now setting (chronicle setting (x ∷ h))) b ≡ false
  other = not_root setting.net plan fine

  still : IsStill fed.moment.earlier (chronicle setting (x ∷ h))
  still = still_on setting fed.moment.earlier (x ∷ h) clean (rest_of fed.inside) fed.in_era fed.mended_

  -- no device of the path failed in the era
  pub unfailed : (z : ℕ) → device_failed_now fed.moment.earlier z ≡ false → is_among (failed_now (chronicle setting (x ∷ h))) (thing.Device z) ≡ false
  unfailed z none = ap (λ l. is_among l (thing.Device z)) still.failed ∙ none

  pub kept : root_failed setting (chronicle setting (x ∷ h)) ≡ false
  kept =
      unfailed plan.root
      (false_from_ne_true (device_failed_now fed.moment.earlier plan.root)
      (λ failed. not_both (list_any (is_broken fed.moment.earlier) things)
      (any_passing (is_broken fed.moment.earlier) (thing.Device plan.root) things
      (root_on_path plan setting.net fine.rules b fine.fits.backup_root fine.backup_member other) failed) fed.whole))

  pub mended_since : mended_now (chronicle setting (x ∷ h)) ≡ true
  mended_since = mended_on fed.moment.earlier steps (rest_of fed.inside) fed.in_era fed.mended_

  -- the time later than a reference that is no earlier
  module _ (s0 : ℕ) (since : when fed.moment ≤ s0) where
    module _ (q : Moment) (here : IsIn q (chronicle setting (e ∷ x ∷ h))) (late : s0 < when q) where
      comes_after_ : IsBefore fed.moment q
      comes_after_ =
          earlier_is_before setting (chronicle setting (e ∷ x ∷ h)) fed.moment q all (behind fed.inside) here (let a = since in let c = late in
          omega (arith, a, c))

      from_then : Tail fed.moment.earlier q.earlier
      from_then = rest_of comes_after_

      era_back : era q.earlier ≤ era fed.moment.earlier
      era_back = let le : era q.earlier ≤ era steps = era_grows q.earlier steps (tail_rest here) in let a = fed.in_era in omega (arith, le, a)

      pub era_at : era q.earlier ≡ era (chronicle setting (x ∷ h))
      era_at =
          let le : era q.earlier ≤ era steps = era_grows q.earlier steps (tail_rest here) in
          let grows : era fed.moment.earlier ≤ era q.earlier = era_grows fed.moment.earlier q.earlier from_then in
          let a = fed.in_era in
          le_antisymm le (omega (arith, grows, a))

      pub none_fails : (y : Thing) → fails y q.step.seen.event ≡ false
      none_fails y =
          let st : Stage setting q = stage setting comes.fair q (x ∷ h) e comes.clean comes.before here in
          let earlier_is : q.earlier ≡ chronicle setting st.h = ap (λ (p : Moment). p.earlier) st.is in
          let mended_ : mended_now (chronicle setting st.h) ≡ true =
          subst (λ (l : List Step). mended_now l ≡ true) earlier_is (mended_on fed.moment.earlier q.earlier from_then era_back fed.mended_) in
          let none : failure_of st.e ≡ None = fails_nothing setting st.e st.h st.comes.clean mended_ in
          subst (λ (p : Moment). fails y p.step.seen.event ≡ false) (sym st.is) (ap (λ o. is_thing o y) none)

      pub link_at : (l : ℕ) → link_has_failed (seen_of fed.moment.earlier) l ≡ false → link_has_failed (seen_of q.earlier) l ≡ false
      link_at l none =
          let st : Stage setting q = stage setting comes.fair q (x ∷ h) e comes.clean comes.before here in
          let earlier_is : q.earlier ≡ chronicle setting st.h = ap (λ (p : Moment). p.earlier) st.is in
          subst (λ (p : Moment). link_has_failed (seen_of p.earlier) l ≡ false) (sym st.is)
          (whole_on setting (thing.Link l) fed.moment.earlier st.h (clean_before setting st.e st.h st.comes.clean)
          (subst (λ (k : List Step). Tail fed.moment.earlier k) earlier_is from_then)
          (subst (λ (k : List Step). era k ≤ era fed.moment.earlier) earlier_is era_back) fed.mended_ none)

    pub span : (era (chronicle setting (x ∷ h)) ≡ 1 → all_started setting (chronicle setting (x ∷ h)) ≤ s0) → IsSpan setting x h e s0
    span started = record { comes = comes; started = started; within = λ q here late. in_era (era_at q here late) }

  -- The path

  abbrev pub on_path : ℕ → Bool
  on_path y = nat_eq y b || has (map (λ (z : Hop). z.parent) (walk setting.net (plan_now setting (chronicle setting (x ∷ h))) b)) y

  -- a device of it that is of the era's plan has neither moved nor does it act
  pub stands_on : (y : ℕ) → on_path y ≡ true → is_root (plan_now setting (chronicle setting (x ∷ h))) y ≡ false → (older : List Step)
      → Tail older (chronicle setting (x ∷ h)) → (past : Past) → past_in older y ≡ Some past → epoch_now past ≡ era (chronicle setting (x ∷ h))
      → (has_moved past ≡ false) × (is_acting past ≡ false)
  stands_on y on_ low older tail past there own =
      stood_then setting (x ∷ h) comes.fair clean comes.before (and_from (is_old steps b) (on_primary steps b) old on) y on_ low older tail past there own

  pub whole_walk : device_failed_now (chronicle setting (x ∷ h)) b ≡ false
      → Walks plan (IsPathHop setting.net plan on_path (is_broken fed.moment.earlier)) b (walk setting.net plan b)
  whole_walk self =
      path_hops setting.net plan on_path (is_broken fed.moment.earlier) (walk setting.net plan b) b
      (clear_walk plan setting.net [] fine.fits fine.rules (walk setting.net plan b) b refl fine.fits.backup_root fine.backup_member refl
      (nothing_touches (path setting.net plan b)))
      (or_left (nat_eq b b) (has (map (λ (k : Hop). k.parent) (walk setting.net plan b)) b) (eq-eqb b b refl))
      (λ z a. or_right (nat_eq z b) (has (map (λ (k : Hop). k.parent) (walk setting.net plan b)) z) a)
      (sym (ap (λ l. is_among l (thing.Device b)) still.failed) ∙ self) fed.whole
