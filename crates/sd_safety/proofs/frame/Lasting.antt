-- The rest of the core at an event after which the state is alike: what is heard and sent did not change, so C6 and C8 stay; C9 b from its lemma (18);
-- C9 g stays; and no window closes, since none could. So the core is kept by every such event.
use Rattle.std.specs.Prelude.{◌≡◌, ℕ, Bool, true, false, ◌&&◌, ◌||◌, not, List, ◌∷◌, length, filter, nat_eq, nat_le, Option, refl}
use Rattle.std.specs.List.{list_all}
use Rattle.std.proofs.Common.{◌∙◌, ap, inr}
use Rattle.sd_num.specs.Lists.{map_or}
use Rattle.sd_plan.specs.declared.Plan.{Plan}
use Rattle.sd_plan.specs.Plans.{members}
use Rattle.sd_sched.specs.declared.Event.{Event}
use Rattle.sd_sched.specs.Events.{reference_of, is_stage, is_commit}
use Rattle.sd_history.specs.World.{Setting, is_up, has_commit, staged_epoch, staged}
use Rattle.sd_history.specs.Steps.{Answers, Step, seen_of, first_step, act_by, has_settled, live_answers, flights}
use Rattle.sd_history.specs.Chronicle.{chronicle, told_by}
use Rattle.sd_safety.specs.invariant.Eras.{era, plan_now, heard_at}
use Rattle.sd_safety.specs.invariant.Clauses.{just_closed, member_enters, member_entered, commit_at, shadow_is_short, none_sent_ahead}
use Rattle.sd_safety.specs.invariant.Invariant.{Core, leaves_out_rightly}
use Rattle.sd_safety.specs.invariant.Guarded.{AreGuarded, IsSteady}
use Rattle.sd_safety.proofs.invariant.Closings.{no_window_closes}
use Rattle.sd_safety.specs.invariant.Silences.{EntersSoon}
use Rattle.sd_safety.specs.frame.Frames.{IsAlike, IsAlikeAt}
use Rattle.sd_safety.proofs.frame.PlainSteps.{commit_kept, staged_kept, staged_epoch_kept}
use Rattle.sd_safety.proofs.frame.Alike.{plan, old, new, failed_device, staged_member, above, stays_same, committer_same, acting_same, linked_same}
use Rattle.sd_safety.proofs.waits.Beginning.{quiet, still}
use Rattle.sd_safety.proofs.frame.Timely.{touched_now, member_up_now}
use Rattle.sd_safety.proofs.frame.LeftOut.{left_out_kept}
use Rattle.sd_safety.proofs.frame.Core.{core_alike}

-- Closings

-- whether it can, by the words
abbrev can : Setting → Bool → Option Plan → ℕ → (ℕ → Bool) → (ℕ → ℕ → Bool) → Bool
can setting commit plan epoch up settled =
    commit && map_or plan false (λ p. nat_le 1 (length (filter up (members setting.net p))) && list_all (settled epoch) (filter up (members setting.net p)))

-- no window closes with an event that is no stage or commit and after which each device is up and answers as before
pub closes_none : (setting : Setting) (e : Event) (history : List Event) → is_stage e ≡ false → is_commit e ≡ false
    → ((d : ℕ) → is_up (seen_of (chronicle setting (e ∷ history))) d ≡ is_up (seen_of (chronicle setting history)) d)
    → ((d : ℕ) → live_answers (chronicle setting (e ∷ history)) d ≡ live_answers (chronicle setting history) d)
    → just_closed (chronicle setting (e ∷ history)) ≡ false
closes_none setting e history unstaged uncommitted ups answers =
    let steps = chronicle setting history in
    let s : Step = first_step setting steps e (told_by steps (act_by setting steps e)) in
    let up : is_up (seen_of (s ∷ steps)) ≡ is_up (seen_of steps) = (λ i d. ups d i) in
    let settled : has_settled (s ∷ steps) ≡ has_settled steps =
    (λ i epoch d. ap (λ (o : Option Answers). map_or o false (λ a. nat_eq a.epoch epoch && a.sealed)) (answers d) i) in
    ap (λ c. can setting c (staged setting (seen_of (s ∷ steps))) (staged_epoch (seen_of (s ∷ steps))) (is_up (seen_of (s ∷ steps))) (has_settled (s ∷ steps)))
    (commit_kept setting steps s refl unstaged uncommitted)
    ∙ ap (λ p. can setting (has_commit (seen_of steps)) p (staged_epoch (seen_of (s ∷ steps))) (is_up (seen_of (s ∷ steps))) (has_settled (s ∷ steps)))
    (staged_kept setting steps s refl unstaged)
    ∙ ap (λ n. can setting (has_commit (seen_of steps)) (staged setting (seen_of steps)) n (is_up (seen_of (s ∷ steps))) (has_settled (s ∷ steps)))
    (staged_epoch_kept setting steps s refl)
    ∙ ap (λ u. can setting (has_commit (seen_of steps)) (staged setting (seen_of steps)) (staged_epoch (seen_of steps)) u (has_settled (s ∷ steps))) up
    ∙ ap (λ f. can setting (has_commit (seen_of steps)) (staged setting (seen_of steps)) (staged_epoch (seen_of steps)) (is_up (seen_of steps)) f) settled
    ∙ no_window_closes setting history

-- C6, where nobody heard anything
pub shadow_same : (setting : Setting) (one two : List Step) → IsAlike setting one two → ((d : ℕ) → IsAlikeAt one two d)
    → ((d : ℕ) → heard_at two d ≡ heard_at one d)
    → (x : ℕ) → shadow_is_short setting two x ≡ shadow_is_short setting one x
shadow_same setting one two alike each heard x =
    rw (
      stays_same setting one two alike each,
      above setting one two alike each,
      plan setting one two alike each,
      old setting one two alike each x,
      heard
          x,
      heard (plan_now setting one).backup_root,
    ) refl

-- C8, where nothing was sent
pub messages_same : (setting : Setting) (one two : List Step) → IsAlike setting one two → flights two ≡ flights one → none_sent_ahead two ≡ none_sent_ahead one
messages_same setting one two alike sent =
    ap (λ c. not (not c) || list_all (λ f. nat_le f.message.epoch (era two)) (flights two)) alike.commit_is
    ∙ ap (λ n. not (not (has_commit (seen_of one))) || list_all (λ f. nat_le f.message.epoch n) (flights two)) alike.era_is
    ∙ ap (λ fs. not (not (has_commit (seen_of one))) || list_all (λ f. nat_le f.message.epoch (era one)) fs) sent

module _ (setting : Setting) (e : Event) (history : List Event) (fair : AreGuarded setting) (clean : IsSteady setting (e ∷ history))
    (core : Core setting (chronicle setting history))
    (alike : IsAlike setting (chronicle setting history) (chronicle setting (e ∷ history))) (each : (d : ℕ)
    → IsAlikeAt (chronicle setting history) (chronicle setting (e ∷ history)) d)
    (staged_is : staged setting (seen_of (chronicle setting (e ∷ history))) ≡ staged setting (seen_of (chronicle setting history))) where
  abbrev one : List Step
  one = chronicle setting history

  abbrev two : List Step
  two = chronicle setting (e ∷ history)

  -- C9 g
  pub left_out_now : leaves_out_rightly setting two ≡ true
  left_out_now =
      left_out_kept setting e history fair clean core alike.era_is alike.failed_is alike.commit_is staged_is (λ d. (each d).up_is) (λ d. (each d).untouched_is)

  -- C9 b
  pub entered_now : commit_at two ≡ commit_at one → EntersSoon setting one (reference_of e) → (d : ℕ) → member_entered setting two d ≡ true
  entered_now committed soon d =
      rw (alike.commit_is, staged_member setting one two alike each staged_is d, committed, new setting one two alike each d) (soon d)

  -- what is left is who enters, that nobody heard and nothing was sent ahead
  pub core_lasts : commit_at two ≡ commit_at one → EntersSoon setting one (reference_of e) → ((d : ℕ) → member_enters setting two d ≡ true)
      → ((x : ℕ) → shadow_is_short setting two x ≡ true) → none_sent_ahead two ≡ true
      → just_closed two ≡ false → Core setting two
  core_lasts committed soon enters shadow messages unclosed =
      core_alike setting one two alike each
      (record {
        calm =
            record {
              quiet = quiet setting (e ∷ history) fair clean;
              still = still setting (e ∷ history) fair clean;
              touched = λ d. touched_now setting e history fair clean core alike.era_is d (inr (each d).untouched_is);
            };
        members_up = λ d. member_up_now setting e history fair clean core alike.era_is d (failed_device setting one two alike each d) (inr (each d).up_is);
        shadow = shadow;
        messages = messages;
        committed =
            record {
              entering = enters;
              entered = entered_now committed soon;
              committer = committer_same setting one two alike each staged_is ∙ core.committed.committer;
              acting = λ d. acting_same setting one two alike each staged_is d ∙ core.committed.acting d;
              linked = λ d. linked_same setting one two alike each staged_is d ∙ core.committed.linked d;
              left_out = left_out_now;
            };
        unclosed = unclosed;
      })
      core
