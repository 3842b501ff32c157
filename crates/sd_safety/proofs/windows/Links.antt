-- From a commit to the closing no link that the staged plan uses is failed: the commit left out the failed ones, and nothing fails after it.
use Rattle.std.specs.Prelude.{◌≡◌, ℕ, ◌<◌, Bool, true, false, ◌||◌, not, List, [], ◌∷◌, length, Option, Some, None, is_some, option_map, refl, if◌then◌else◌}
use Rattle.std.specs.List.{list_any}
use Rattle.std.proofs.Common.{◌∙◌, ap, sym, subst}
use Rattle.std.proofs.lemmas.Bool.{eqb-true, leb-false, not-true, false_from_ne_true}
use Rattle.sd_num.specs.Lists.{map_or, has}
use Rattle.sd_plan.specs.declared.topo.Thing.{Thing}
use Rattle.sd_plan.specs.declared.topo.Thing.TheVariants as thing
use Rattle.sd_plan.specs.Plans.{is_present}
use Rattle.sd_sched.specs.declared.Event.{Event}
use Rattle.sd_sched.specs.declared.Event.TheVariants as event
use Rattle.sd_sched.specs.Events.{is_stage, is_commit}
use Rattle.sd_history.specs.Things.{failure_of, mended}
use Rattle.sd_history.specs.World.{Setting, Seen, fails, is_thing, link_has_failed, window, has_commit, plan_numbered}
use Rattle.sd_history.specs.Steps.{Step, seen_of}
use Rattle.sd_history.specs.Chronicle.{next_step, chronicle}
use Rattle.sd_history.specs.Admitted.{IsAdmitted}
use Rattle.sd_history.specs.Refusals.{unknown_link}
use Rattle.sd_history.specs.Premises.{has_mend}
use Rattle.sd_history.proofs.Among.{passes}
use Rattle.sd_history.proofs.Clear.{clear}
use Rattle.sd_history.proofs.Shared.{among_below}
use Rattle.sd_safety.specs.invariant.Guarded.{AreGuarded, IsSteady}
use Rattle.sd_safety.proofs.invariant.Orders.{renews}
use Rattle.sd_safety.proofs.invariant.Prefix.{clean_before}
use Rattle.sd_safety.proofs.invariant.Sides.{implied, not_both}
use Rattle.sd_safety.proofs.windows.Frames.{staged_epoch_on}
use Rattle.sd_safety.proofs.windows.Committing.{staged_plan, AtCommit, commit_asks}

-- a link that an event fails is one of the network
fails_known : (setting : Setting) (e : Event) (l : ℕ) → unknown_link setting e ≡ false → fails (thing.Link l) e ≡ true → l < length setting.net.links
fails_known setting (event.FailLink r k) l known same =
    subst (λ n. n < length setting.net.links) (sym (eqb-true l k same)) (leb-false (length setting.net.links) k known)
fails_known setting (event.FailDevice r k) l known same = cc
fails_known setting _ l known same = cc

-- a failed link is one of the network
pub failed_link_known : (setting : Setting) (history : List Event) (l : ℕ) → IsAdmitted setting history
    → link_has_failed (seen_of (chronicle setting history)) l ≡ true → l < length setting.net.links
failed_link_known setting [] l is failed = cc
failed_link_known setting (e ∷ history) l is failed =
    go (fails (thing.Link l) e) refl (is_thing (mended e) (thing.Link l)) (λ before. failed_link_known setting history l is.0 before) failed
  where
    go : (f : Bool) → fails (thing.Link l) e ≡ f → (m : Bool) → (link_has_failed (seen_of (chronicle setting history)) l ≡ true → l < length setting.net.links)
        → map_or (if f then Some true else if m then Some false else None) (link_has_failed (seen_of (chronicle setting history)) l) (λ told. told) ≡ true
        → l < length setting.net.links
    go true here m rest failed' = fails_known setting e l (clear setting (chronicle setting history) e is.1).link_known here
    go false here true rest failed' = cc
    go false here false rest failed' = rest failed'

-- a link that is not failed is so after an event that fails nothing
unfailed_after : (e : Event) (seen : List Seen) (s : Seen) (l : ℕ) → s.event ≡ e → is_some (failure_of e) ≡ false → link_has_failed seen l ≡ false
    → link_has_failed (s ∷ seen) l ≡ false
unfailed_after e seen s l is none was = go (failure_of s.event) (ap (λ x. is_some (failure_of x)) is ∙ none) (is_thing (mended s.event) (thing.Link l))
  where
    go : (o : Option Thing) → is_some o ≡ false → (m : Bool)
        → map_or (if is_thing o (thing.Link l) then Some true else if m then Some false else None) (link_has_failed seen l) (λ told. told) ≡ false
    go None none' true = refl
    go None none' false = was
    go (Some x) none' m = cc

-- a commit in the window is the event at hand, or one before it
committed_when : (s : Seen) (c st : Bool) (w : Option (List Seen))
    → map_or (if c then None else if st then Some [] else option_map (λ v. s ∷ v) w) false (list_any (λ x. is_commit x.event)) ≡ true
    → (c ≡ false) × ((is_commit s.event || map_or w false (list_any (λ x. is_commit x.event))) ≡ true)
committed_when s true st w is = cc
committed_when s false true w is = cc
committed_when s false false None is = cc
committed_when s false false (Some v) is = (refl, is)

pub fails_none : (fail mend : Bool) → (not fail || not (mend || true)) ≡ true → fail ≡ false
fails_none true true orderly = cc
fails_none true false orderly = cc
fails_none false mend orderly = refl

module _ (setting : Setting) (fair : AreGuarded setting) where
  at_commit : (e : Event) (history : List Event) → IsSteady setting (e ∷ history) → is_commit e ≡ true → (l : ℕ)
      → is_present (staged_plan setting (chronicle setting history)) l ≡ true
      → link_has_failed (seen_of (chronicle setting (e ∷ history))) l ≡ false
  at_commit (event.Commit r d c) history clean commit l present =
      let asks : AtCommit setting (chronicle setting history) d = commit_asks setting r d c history fair clean in
      false_from_ne_true _
      (λ failed.
      let known = failed_link_known setting history l clean.is.0 failed in
      let out = passes (λ k. not (link_has_failed (seen_of (chronicle setting history)) k)
      || has (staged_plan setting (chronicle setting history)).absent.links k) (among_below (length setting.net.links) l known) asks.absent in
      not_both (has (staged_plan setting (chronicle setting history)).absent.links l)
      (implied (link_has_failed (seen_of (chronicle setting history)) l) _ out failed)
      (not-true (has (staged_plan setting (chronicle setting history)).absent.links l) present))
  at_commit _ history clean commit l present = cc

  -- C10's links, from the commit on
  pub staged_links : (history : List Event) → IsSteady setting history → has_commit (seen_of (chronicle setting history)) ≡ true → (l : ℕ)
      → is_present (staged_plan setting (chronicle setting history)) l ≡ true
      → link_has_failed (seen_of (chronicle setting history)) l ≡ false
  staged_links [] clean commit l present = cc
  staged_links (e ∷ history) clean commit l present =
      let steps : List Step = chronicle setting history in
      let s : Step = next_step setting steps e in
      let is = committed_when s.seen s.seen.closed (is_stage e) (window (seen_of steps)) commit in
      let plain : is_present (staged_plan setting steps) l ≡ true =
      subst (λ n. is_present (plan_numbered setting n) l ≡ true) (staged_epoch_on setting s steps is.0) present in
      by (has_commit (seen_of steps)) refl is.1 plain (λ before. staged_links history (clean_before setting e history clean) before l plain)
    where
      by : (c : Bool) → has_commit (seen_of (chronicle setting history)) ≡ c → (is_commit e || c) ≡ true
          → is_present (staged_plan setting (chronicle setting history)) l ≡ true
          → (has_commit (seen_of (chronicle setting history)) ≡ true → link_has_failed (seen_of (chronicle setting history)) l ≡ false)
          → link_has_failed (seen_of (chronicle setting (e ∷ history))) l ≡ false
      by true before one plain rest =
          unfailed_after e (seen_of (chronicle setting history)) (next_step setting (chronicle setting history) e).seen l refl
          (fails_none (is_some (failure_of e)) (has_mend (seen_of (chronicle setting history)))
          (subst (λ b. (not (is_some (failure_of e)) || not (has_mend (seen_of (chronicle setting history)) || b)) ≡ true) before
          (renews setting e history clean).fails))
          (rest before)
      by false before one plain rest = at_commit e history clean (only (is_commit e) one) l plain
        where
          only : (b : Bool) → (b || false) ≡ true → b ≡ true
          only true is' = refl
          only false is' = cc
