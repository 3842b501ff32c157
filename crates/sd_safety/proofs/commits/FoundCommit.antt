-- The commit of the open window: the event, what came before it in the era, and that each other moment is later in its era, or came no later.
use Rattle.std.specs.Prelude.{◌≡◌, ℕ, ◌≤◌, Bool, true, false, List, [], ◌∷◌, refl, ◌⊎◌}
use Rattle.std.proofs.Common.{arith, ◌∙◌, sym, inl, inr}
use Rattle.sd_sched.specs.declared.Event.{Event}
use Rattle.sd_sched.specs.declared.Event.TheVariants as event
use Rattle.sd_sched.specs.Events.{is_stage, is_commit}
use Rattle.sd_history.specs.World.{Setting, window, has_commit}
use Rattle.sd_history.specs.Steps.{Step, seen_of}
use Rattle.sd_history.specs.Chronicle.{chronicle, next_step}
use Rattle.sd_safety.specs.invariant.Eras.{era}
use Rattle.sd_safety.specs.invariant.Clauses.{commit_at}
use Rattle.sd_safety.specs.invariant.Guarded.{AreGuarded, IsSteady}
use Rattle.sd_safety.proofs.invariant.Prefix.{clean_before}
use Rattle.sd_safety.specs.messages.Moments.{Tail, whole, behind, Moment, IsIn}
use Rattle.sd_safety.proofs.messages.Tails.{history_chronicle}
use Rattle.sd_safety.proofs.windows.Committing.{AtCommit, commit_asks}
use Rattle.sd_safety.proofs.windows.Eras.{era_kept}
use Rattle.sd_safety.proofs.frame.PlainSteps.{commit_kept, commit_at_kept}
use Rattle.sd_safety.proofs.entering.AfterCommit.{commit_no_later, goes_on}

pub record CommitOf (setting : Setting) (history : List Event) : Type 0 where
  pub reference : ℕ
  pub device : ℕ
  pub counter : ℕ
  pub earlier : List Event
  pub tail : Tail (event.Commit reference device counter ∷ earlier) history
  pub at : commit_at (chronicle setting history) ≤ reference
  pub era_is : era (chronicle setting earlier) ≡ era (chronicle setting history)
  pub asks : AtCommit setting (chronicle setting earlier) device
  -- a moment that came no later than the commit, or is later in its era
  pub place : (q : Moment) → IsIn q (chronicle setting history)
      → IsIn q (chronicle setting (event.Commit reference device counter ∷ earlier)) ⊎ (has_commit (seen_of q.earlier) ≡ true)
      × (era q.earlier ≡ era (chronicle setting history))

module _ (setting : Setting) (fair : AreGuarded setting) where
  here : (r d c : ℕ) (h : List Event) → IsSteady setting (event.Commit r d c ∷ h)
      → (next_step setting (chronicle setting h) (event.Commit r d c)).seen.closed ≡ false → CommitOf setting (event.Commit r d c ∷ h)
  here r d c h clean open_ =
      record {
        reference = r;
        device = d;
        counter = c;
        earlier = h;
        tail = whole;
        at = commit_no_later setting (chronicle setting (event.Commit r d c ∷ h)) (history_chronicle setting (event.Commit r d c ∷ h) clean.is);
        era_is = sym (era_kept (next_step setting (chronicle setting h) (event.Commit r d c)) (chronicle setting h) open_);
        asks = commit_asks setting r d c h fair clean;
        place = λ q q_in. inl q_in;
      }

  further : (x : Event) (h : List Event) → IsSteady setting (x ∷ h) → (next_step setting (chronicle setting h) x).seen.closed ≡ false → is_stage x ≡ false
      → is_commit x ≡ false → has_commit (seen_of (chronicle setting h)) ≡ true → CommitOf setting h
      → CommitOf setting (x ∷ h)
  further x h clean open_ unstaged uncommitted had f =
      let s : Step = next_step setting (chronicle setting h) x in
      let at_ = f.at in
      let at_kept : commit_at (chronicle setting (x ∷ h)) ≡ commit_at (chronicle setting h) =
      commit_at_kept setting (chronicle setting h) s open_ unstaged uncommitted in
      record {
        reference = f.reference;
        device = f.device;
        counter = f.counter;
        earlier = f.earlier;
        tail = behind f.tail;
        at = omega (arith, at_, at_kept);
        era_is = f.era_is ∙ sym (era_kept s (chronicle setting h) open_);
        asks = f.asks;
        place = later_;
      }
    where
      kept : era (chronicle setting h) ≡ era (chronicle setting (x ∷ h))
      kept = sym (era_kept (next_step setting (chronicle setting h) x) (chronicle setting h) open_)

      later_ : (q : Moment) → IsIn q (chronicle setting (x ∷ h))
          → IsIn q (chronicle setting (event.Commit f.reference f.device f.counter ∷ f.earlier)) ⊎ (has_commit (seen_of q.earlier) ≡ true)
          × (era q.earlier ≡ era (chronicle setting (x ∷ h)))
      later_ q whole = inr (had, kept)
      later_ q (behind t) = by (f.place q t)
        where
          by : IsIn q (chronicle setting (event.Commit f.reference f.device f.counter ∷ f.earlier)) ⊎ (has_commit (seen_of q.earlier) ≡ true)
              × (era q.earlier ≡ era (chronicle setting h))
              → IsIn q (chronicle setting (event.Commit f.reference f.device f.counter ∷ f.earlier)) ⊎ (has_commit (seen_of q.earlier) ≡ true)
              × (era q.earlier ≡ era (chronicle setting (x ∷ h)))
          by (inl inside) = inl inside
          by (inr since) = inr (since.0, since.1 ∙ kept)

  by_event : (x : Event) (h : List Event) → IsSteady setting (x ∷ h) → has_commit (seen_of (chronicle setting (x ∷ h))) ≡ true
      → (next_step setting (chronicle setting h) x).seen.closed ≡ false → is_stage x ≡ false
      → (has_commit (seen_of (chronicle setting h)) ≡ true → CommitOf setting h) → (b : Bool) → is_commit x ≡ b → CommitOf setting (x ∷ h)
  by_event (event.Commit r d c) h clean commit open_ unstaged rest true is = here r d c h clean open_
  by_event x h clean commit open_ unstaged rest false none =
      let had : has_commit (seen_of (chronicle setting h)) ≡ true =
      sym (commit_kept setting (chronicle setting h) (next_step setting (chronicle setting h) x) open_ unstaged none) ∙ commit in
      further x h clean open_ unstaged none had (rest had)
  by_event x h clean commit open_ unstaged rest true is = cc

  pub commit_of : (history : List Event) → IsSteady setting history → has_commit (seen_of (chronicle setting history)) ≡ true → CommitOf setting history
  commit_of [] clean commit = cc
  commit_of (x ∷ h) clean commit =
      let goes = goes_on (next_step setting (chronicle setting h) x).seen (next_step setting (chronicle setting h) x).seen.closed (is_stage x)
      (window (seen_of (chronicle setting h))) commit in
      by_event x h clean commit goes.0 goes.1 (λ had. commit_of h (clean_before setting x h clean) had) (is_commit x) refl
