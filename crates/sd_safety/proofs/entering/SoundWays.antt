-- From the commit on the way of a walk of the staged plan is sound.
use Rattle.std.specs.Prelude.{◌≡◌, ℕ, ◌+◌, ◌<◌, true, false, List, [], ◌∷◌, Some, refl}
use Rattle.std.proofs.Common.{sym, subst}
use Rattle.std.proofs.lemmas.Bool.{eq-eqb}
use Rattle.sd_plan.specs.declared.topo.Thing.{Thing}
use Rattle.sd_plan.specs.declared.topo.Thing.TheVariants as thing
use Rattle.sd_plan.specs.declared.Hop.{Hop}
use Rattle.sd_plan.specs.declared.Plan.{Plan}
use Rattle.sd_plan.specs.Plans.{is_root}
use Rattle.sd_plan.specs.Duties.{follows_over}
use Rattle.sd_device.specs.Calls.{Past}
use Rattle.sd_sched.specs.declared.Event.{Event}
use Rattle.sd_history.specs.World.{Setting, fails, is_up, link_has_failed, staged_epoch, plan_numbered}
use Rattle.sd_history.specs.Steps.{seen_of}
use Rattle.sd_history.specs.Chronicle.{past_in, chronicle}
use Rattle.sd_safety.specs.invariant.Eras.{touches}
use Rattle.sd_safety.proofs.invariant.Sides.{not_both}
use Rattle.sd_safety.specs.messages.Moments.{behind, Moment, when, IsIn}
use Rattle.sd_safety.specs.messages.Rounds.{IsReady}
use Rattle.sd_safety.proofs.messages.Ends.{primary_follows}
use Rattle.sd_safety.specs.silences.Feeds.{IsSound}
use Rattle.sd_safety.proofs.silences.WalkWays.{end_at}
use Rattle.sd_safety.proofs.silences.Paths.{IsClear}
use Rattle.sd_safety.proofs.silences.Links.{alone}
use Rattle.sd_safety.proofs.silences.SoundWays.{top_of}
use Rattle.sd_safety.proofs.windows.Committing.{staged_plan}
use Rattle.sd_safety.specs.entering.After.{IsAfter}
use Rattle.sd_safety.proofs.entering.Stages.{Known, known}
use Rattle.sd_safety.proofs.entering.States as states

-- what did not fail touches nothing
pub nothing_touches : (things : List Thing) → touches [] things ≡ false
nothing_touches [] = refl
nothing_touches (x ∷ things) = nothing_touches things

-- at a moment later than the commit
module _ (setting : Setting) (history : List Event) (q : Moment) (k : Known setting (chronicle setting history) q) where
  pub fails_at : (x : Thing) → fails x q.step.seen.event ≡ false
  fails_at x = subst (λ (p : Moment). fails x p.step.seen.event ≡ false) (sym k.is) (states.fails_not setting k.h k.e k.comes k.commit x)

  module _ (y : ℕ) (hop : Hop) (clear : IsClear setting.net (staged_plan setting (chronicle setting history)) [] y hop) where
    clear_at : IsClear setting.net (staged_plan setting (chronicle setting k.h)) [] y hop
    clear_at = subst (λ n. IsClear setting.net (plan_numbered setting (n + 1)) [] y hop) (sym k.same) clear

    pub ready_at : (past : Past) → past_in q.earlier y ≡ Some past → IsReady past (staged_epoch (seen_of (chronicle setting history))) hop.link
    ready_at =
        subst (λ (p : Moment). (past : Past) → past_in p.earlier y ≡ Some past
        → IsReady past (staged_epoch (seen_of (chronicle setting history))) hop.link) (sym k.is)
        (λ past there. subst (λ n. IsReady past (n + 1) hop.link) k.same (states.hop_ready setting k.h k.e k.comes k.commit y hop clear_at past there))

    pub whole_at : (link_has_failed (seen_of q.earlier) hop.link ≡ false) × (is_up (seen_of q.earlier) y ≡ true)
    whole_at =
        subst (λ (p : Moment). (link_has_failed (seen_of p.earlier) hop.link ≡ false) × (is_up (seen_of p.earlier) y ≡ true)) (sym k.is)
        (states.hop_link setting k.h k.e k.comes k.commit y hop clear_at, states.hop_up setting k.h k.e k.comes k.commit y hop clear_at)

module _ (setting : Setting) (history : List Event) (e : Event) (s0 : ℕ) (after : IsAfter setting history e s0) where
  at_moment : (q : Moment) → IsIn q (chronicle setting (e ∷ history)) → s0 < when q → Known setting (chronicle setting history) q
  at_moment = known setting history e s0 after

  pub staged_hop : (y : ℕ) (hop : Hop) → IsClear setting.net (staged_plan setting (chronicle setting history)) [] y hop
      → IsSound setting (top_of setting history e) (staged_epoch (seen_of (chronicle setting history))) s0
      (staged_plan setting (chronicle setting history)).root hop.parent (end_at y hop)
  staged_hop y hop clear =
      let plan : Plan = staged_plan setting (chronicle setting history) in
      let follows : follows_over plan hop.parent hop.link y ≡ true = primary_follows plan y hop.parent hop.link hop clear.primary refl refl in
      record {
        follows = follows;
        alone = λ c is. alone setting.net plan (states.fits setting history e after.comes after.commit)
            (states.rules setting history e after.comes after.commit) hop.parent hop.link y c follows is;
        known = (clear.within.1, clear.known);
        apart = λ same. not_both (is_root plan y) (eq-eqb plan.root y (sym same)) clear.other;
        ready = λ q here late. ready_at setting history q (at_moment q (behind here) late) y hop clear;
        whole = λ q here late. whole_at setting history q (at_moment q (behind here) late) y hop clear;
        lasts = λ q here late. let k : Known setting (chronicle setting history) q = at_moment q here late in (
          fails_at setting history q k (thing.Device hop.parent),
          fails_at setting history q k (thing.Device y),
          fails_at setting history q k
              (thing.Link hop.link),
        );
      }
