-- The root of a plan takes no message of it; and what it emits in its era it emits before it fails.
use Rattle.std.specs.Prelude.{◌≡◌, ℕ, ◌+◌, ◌<◌, ◌≤◌, Bool, true, false, not, List, [], ◌∷◌, Option, Some, None, refl, ◌⊎◌, if◌then◌else◌}
use Rattle.std.proofs.Common.{arith, ◌∙◌, ap, sym, subst, inl, inr}
use Rattle.std.proofs.lemmas.Bool.{and_from, cases_lt, eq-eqb, not-true, false_from_ne_true}
use Rattle.sd_num.specs.Lists.{same_number}
use Rattle.sd_plan.specs.declared.Edge.{Edge}
use Rattle.sd_device.specs.declared.msg.Stamp.{Stamp}
use Rattle.sd_device.specs.Calls.{Receive, Past}
use Rattle.sd_device.specs.Words.{is_acting, has_moved, epoch_now, given_now, parent_edge, primary_now, backup_now}
use Rattle.sd_sched.specs.declared.Event.{Event}
use Rattle.sd_history.specs.World.{Setting, is_up, has_commit, plan_numbered}
use Rattle.sd_history.specs.Steps.{Step, seen_of, acts_in, flights}
use Rattle.sd_history.specs.Chronicle.{past_in, chronicle}
use Rattle.sd_history.proofs.Among.{Among}
use Rattle.sd_history.proofs.Given.{some_is}
use Rattle.sd_safety.specs.invariant.Eras.{era, plan_now, is_old, root_failed, root_lives}
use Rattle.sd_safety.specs.invariant.Clauses.{staged_root}
use Rattle.sd_safety.specs.invariant.Invariant.{Core, Invariant, AtEach}
use Rattle.sd_safety.specs.invariant.Guarded.{AreGuarded, IsSteady}
use Rattle.sd_safety.specs.invariant.Coming.{IsNextEvent}
use Rattle.sd_safety.proofs.invariant.Prefix.{clean_before}
use Rattle.sd_safety.proofs.invariant.Sides.{implied, not_both}
use Rattle.sd_safety.specs.messages.Moments.{Tail, Moment, upto, IsIn, Accepts, entering, following}
use Rattle.sd_safety.specs.messages.Traces.{Hop}
use Rattle.sd_safety.proofs.messages.Numbers.{sent_at_moment}
use Rattle.sd_safety.proofs.messages.Tails.{rest_of}
use Rattle.sd_safety.proofs.silences.SoundWays.{top_of}
use Rattle.sd_safety.proofs.silences.Phases.{era_grows}
use Rattle.sd_safety.specs.windows.Reaching.{reach, reach_of}
use Rattle.sd_safety.proofs.windows.Committing.{staged_plan}
use Rattle.sd_safety.proofs.windows.StaysNew.{reached, new_has_none}
use Rattle.sd_safety.proofs.windows.NoneBeforeCommit.{within}
use Rattle.sd_safety.proofs.windows.Senders.{called_is_up}
use Rattle.sd_safety.proofs.moves.Ahead.{IsAhead, always_ahead}
use Rattle.sd_safety.proofs.receipts.Stood.{core_of, acts_is, epoch_is}
use Rattle.sd_safety.proofs.terms.Actors.{IsActor}
use Rattle.sd_safety.proofs.entering.Stages.{Stage, stage}
use Rattle.sd_safety.proofs.entering.States as states
use Rattle.sd_safety.proofs.entering.Source.{none_or_some}

module _ (setting : Setting) (h : List Event) (e : Event) (comes : IsNextEvent setting h e) (past : Past) where
  abbrev steps : List Step
  steps = chronicle setting h

  core : Core setting (chronicle setting h)
  core = core_of setting h comes.before

  clean : IsSteady setting h
  clean = clean_before setting e h comes.clean

  -- the root of the era's plan, where it is up and of it, acts
  pub root_acts_old : is_up (seen_of (chronicle setting h)) (plan_now setting (chronicle setting h)).root ≡ true
      → past_in (chronicle setting h) (plan_now setting (chronicle setting h)).root ≡ Some past → epoch_now past ≡ era (chronicle setting h)
      → (is_acting past ≡ true) × (root_failed setting (chronicle setting h) ≡ false)
  root_acts_old up there own =
      let root : ℕ = (plan_now setting steps).root in
      let old : is_old steps root ≡ true = ap (λ o. same_number o (era steps)) (epoch_is setting h root past up there)
      ∙ eq-eqb (epoch_now past) (era steps) own in
      let kept : root_failed setting steps ≡ false =
      false_from_ne_true (root_failed setting steps)
      (λ failed. not_both (is_old steps root) old
      (not-true (is_old steps root) (implied (root_failed setting steps) (not (is_old steps root)) core.roles.failed_root failed))) in
      let lives : root_lives setting steps ≡ true = and_from (is_up (seen_of steps) root) (not (root_failed setting steps)) up (ap not kept) in
      (sym (acts_is setting h root past up there) ∙ implied (root_lives setting steps) (acts_in steps root) core.roles.root lives, kept)

  -- and that of the staged plan after its commit
  pub root_acts_new : has_commit (seen_of (chronicle setting h)) ≡ true
      → past_in (chronicle setting h) (staged_plan setting (chronicle setting h)).root ≡ Some past → (is_acting past ≡ true) × (given_now past ≡ None)
  root_acts_new commit there =
      let actor : IsActor setting steps (staged_root setting steps) = states.actor setting h e comes commit in
      let same : actor.past ≡ past = some_is (sym (states.root_there setting h e comes commit) ∙ there) in (
        subst (λ p. is_acting p ≡ true) same actor.acts,
        subst (λ p. given_now p ≡ None) same
            (new_has_none setting h comes.clean.is.0 (staged_root setting steps) actor.past actor.there (states.actor_epoch setting h e comes commit)),
      )

no_parent : (past : Past) (edge : Edge) → is_acting past ≡ true → parent_edge past ≡ Some edge → ⊥
no_parent past edge acts is = never (sym (ap (λ b. if b then None else if has_moved past then backup_now past else primary_now past) acts) ∙ is)
  where
    never : {x : Edge} → ◌≡◌ {A = Option Edge} None (Some x) → ⊥
    never same = cc

next_or_now : (n a : ℕ) (c : Bool) → n ≤ reach_of c a → a ≤ n → (n ≡ a) ⊎ ((n ≡ a + 1) × (c ≡ true))
next_or_now n a true le least = by (cases_lt a n)
  where
    by : (a < n) ⊎ (n ≤ a) → (n ≡ a) ⊎ ((n ≡ a + 1) × (true ≡ true))
    by (inl less) = inr (omega (arith, less, le), refl)
    by (inr more) = inl (omega (arith, more, least))
next_or_now n a false le least = inl (omega (arith, le, least))

-- the root of plan n takes no message of it, at a moment of the eras up to that plan's
pub root_takes_none : (setting : Setting) (history : List Event) → AreGuarded setting → IsSteady setting history
    → AtEach (Invariant setting) (chronicle setting history) → (q : Moment) → IsIn q (chronicle setting history) → (stamp : Stamp) (from : Moment) (x : ℕ)
    → Hop setting stamp (era (chronicle setting history)) from x q (plan_now setting (chronicle setting history)).root → ⊥
root_takes_none setting [] fair clean each q here stamp from x hop = elim here [ ]
root_takes_none setting (y ∷ hs) fair clean each q here stamp from x hop = by st.h st.e st.is st.comes
  where
    steps : List Step
    steps = chronicle setting (y ∷ hs)

    n : ℕ
    n = era (chronicle setting (y ∷ hs))

    root : ℕ
    root = (plan_now setting (chronicle setting (y ∷ hs))).root

    st : Stage setting q
    st = stage setting fair q hs y clean each.0 here

    by : (h : List Event) (e : Event) → q ≡ top_of setting h e → IsNextEvent setting h e → ⊥
    by h e is comes = go hop.receipt.accepts
      where
        past : Past
        past = hop.receipt.past

        older : List Step
        older = chronicle setting h

        there : past_in (chronicle setting h) (plan_now setting (chronicle setting (y ∷ hs))).root ≡ Some hop.receipt.past
        there = subst (λ (p : Moment). past_in p.earlier root ≡ Some hop.receipt.past) is hop.receipt.there

        up : is_up (seen_of (chronicle setting h)) (plan_now setting (chronicle setting (y ∷ hs))).root ≡ true
        up = (called_is_up setting older root (Receive hop.flight.link hop.flight.message hop.receipt.counter) e comes.clean.is.1
            (sym (ap (λ (p : Moment). p.step.act) is) ∙ hop.receipt.act)).up

        grows : era (chronicle setting h) ≤ era (chronicle setting (y ∷ hs))
        grows = subst (λ l. era l ≤ n) (ap (λ (p : Moment). p.earlier) is) (era_grows q.earlier steps (rest_of here))

        with_commit : n ≡ era (chronicle setting h) + 1 → has_commit (seen_of (chronicle setting h)) ≡ true
            → (is_acting hop.receipt.past ≡ true) × (given_now hop.receipt.past ≡ None)
        with_commit next commit =
            root_acts_new setting h e comes hop.receipt.past commit
            (subst (λ k. past_in older (plan_numbered setting k).root ≡ Some hop.receipt.past) next there)

        -- in its plan it acts
        by_own : epoch_now hop.receipt.past ≡ n → (n ≡ era (chronicle setting h))
            ⊎ ((n ≡ era (chronicle setting h) + 1) × (has_commit (seen_of (chronicle setting h)) ≡ true)) → is_acting hop.receipt.past ≡ true
        by_own own (inl same) =
            (root_acts_old setting h e comes hop.receipt.past (subst (λ k. is_up (seen_of older) (plan_numbered setting k).root ≡ true) same up)
            (subst (λ k. past_in older (plan_numbered setting k).root ≡ Some hop.receipt.past) same there) (own ∙ same)).0
        by_own own (inr next) = (with_commit next.0 next.1).0

        go : Accepts hop.receipt.past hop.flight.message hop.receipt.edge → ⊥
        go (following epoch parent newer) =
            let own : epoch_now hop.receipt.past ≡ n = epoch ∙ hop.epoch_is in
            let le : n ≤ reach older = subst (λ k. k ≤ reach older) own ((within setting h comes.clean.is.0).epochs root hop.receipt.past there) in
            no_parent hop.receipt.past hop.receipt.edge (by_own own (next_or_now n (era older) (has_commit (seen_of older)) le grows)) parent
        go (entering duty given epoch primary) =
            let ahead : IsAhead setting older root hop.receipt.past duty =
            always_ahead setting h comes.fair (clean_before setting e h comes.clean) comes.before root hop.receipt.past up there duty given in
            let next : n ≡ era older + 1 = sym hop.epoch_is ∙ sym epoch ∙ ahead.number in
            let sent : Among hop.flight (flights older) =
            sent_at_moment from older hop.flight (subst (λ (p : Moment). Tail (upto from) p.earlier) is hop.before) hop.sent in
            let far : hop.flight.message.epoch ≤ reach older = (within setting h comes.clean.is.0).messages hop.flight sent in
            let commit : has_commit (seen_of older) ≡ true =
            reached (has_commit (seen_of older)) (era older) (subst (λ k. k ≤ reach older) (hop.epoch_is ∙ next) far) in
            none_or_some (with_commit next commit).1 given
