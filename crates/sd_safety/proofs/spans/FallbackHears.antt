-- 15 in all eras, before and after a commit: along the fallback, which C7 says is whole.
use Rattle.std.specs.Prelude.{◌≡◌, ℕ, ◌+◌, ◌*◌, ◌<◌, ◌≤◌, Bool, true, false, ◌&&◌, not, List, [], ◌∷◌, length, Some, refl}
use Rattle.std.proofs.Common.{arith, sym, ◌∙◌, subst}
use Rattle.std.proofs.lemmas.Bool.{eq-eqb}
use Rattle.sd_num.specs.Lists.{has}
use Rattle.sd_plan.specs.declared.topo.Thing.{Thing}
use Rattle.sd_plan.specs.declared.topo.Thing.TheVariants as thing
use Rattle.sd_plan.specs.declared.Hop.{Hop}
use Rattle.sd_plan.specs.declared.Plan.{Plan}
use Rattle.sd_plan.specs.declared.End.{End}
use Rattle.sd_plan.specs.Plans.{is_member, is_root, is_backup_root, backup_of}
use Rattle.sd_plan.specs.Walks.{walk}
use Rattle.sd_checker.specs.check_root.Roots.{fallback_devices, fallback_links}
use Rattle.sd_sched.specs.declared.Event.{Event}
use Rattle.sd_sched.specs.Events.{reference_of}
use Rattle.sd_history.specs.World.{Setting, fails, is_up}
use Rattle.sd_history.specs.Steps.{Step, seen_of, acts_in}
use Rattle.sd_history.specs.Chronicle.{chronicle}
use Rattle.sd_history.proofs.Among.{first}
use Rattle.sd_safety.specs.invariant.Bounds.{depth, delay, rounds_gap}
use Rattle.sd_safety.specs.invariant.Eras.{era, plan_now, all_started, heard_at, moved_at, is_among, failed_now, is_old, moved, on_backup, hit, root_failed}
use Rattle.sd_safety.proofs.invariant.Facts.{IsSound}
use Rattle.sd_safety.specs.messages.Moments.{Moment, when, IsIn}
use Rattle.sd_safety.proofs.waits.LookingBack.{two_parts}
use Rattle.sd_safety.proofs.waits.Standing.{sound}
use Rattle.sd_safety.proofs.silences.WalkWays.{way_of, way_length, way_keeps, end_at, walk_length}
use Rattle.sd_safety.proofs.silences.FallbackWay.{falls, the_hop}
use Rattle.sd_safety.proofs.windows.Committing.{staged_plan}
use Rattle.sd_safety.proofs.entering.States as states
use Rattle.sd_safety.specs.rounds.Spans.{IsSpan}
use Rattle.sd_safety.proofs.rounds.Sources.{root_leads, staged_is}
use Rattle.sd_safety.proofs.rounds.Silent.{IsSilent, silent_by}
use Rattle.sd_safety.proofs.spans.SilenceStarts.{backup_within}
use Rattle.sd_safety.proofs.spans.FallbackWay.{fallback_open}
use Rattle.sd_safety.proofs.spans.Staged.{is_staged}
use Rattle.sd_safety.proofs.spans.PathHears.{not_root, IsSpared, spared, acts}

-- where the event fails nothing of the fallback of an old backup root on its backup
module _ (setting : Setting) (x : Event) (h : List Event) (e : Event) (s0 : ℕ) (span : IsSpan setting x h e s0)
    (kept : root_failed setting (chronicle setting (x ∷ h)) ≡ false) (late : all_started setting (chronicle setting (x ∷ h)) < reference_of e)
    (failed : List Thing) (more : (y : Thing) → is_among failed y ≡ false → is_among (failed_now (chronicle setting (x ∷ h))) y ≡ false) (spares : (y : Thing)
    → is_among failed y ≡ false → fails y e ≡ false)
    (devices : (d : ℕ) → has (fallback_devices setting.net (plan_now setting (chronicle setting (x ∷ h)))) d ≡ true → is_among failed (thing.Device d) ≡ false)
    (links : (l : ℕ) → has (fallback_links setting.net (plan_now setting (chronicle setting (x ∷ h)))) l ≡ true → is_among failed (thing.Link l) ≡ false)
    (root_spared : is_among failed (thing.Device (plan_now setting (chronicle setting (x ∷ h))).root) ≡ false)
    (self : is_among failed (thing.Device (plan_now setting (chronicle setting (x ∷ h))).backup_root) ≡ false)
    (old : is_old (chronicle setting (x ∷ h)) (plan_now setting (chronicle setting (x ∷ h))).backup_root ≡ true)
    (on : on_backup (chronicle setting (x ∷ h)) (plan_now setting (chronicle setting (x ∷ h))).backup_root ≡ true)
    (heard : heard_at (chronicle setting (x ∷ h)) (plan_now setting (chronicle setting (x ∷ h))).backup_root ≤ s0)
    (put : moved_at (chronicle setting (x ∷ h)) (plan_now setting (chronicle setting (x ∷ h))).backup_root ≤ s0) where
  abbrev steps : List Step
  steps = chronicle setting (x ∷ h)

  abbrev plan : Plan
  plan = plan_now setting (chronicle setting (x ∷ h))

  abbrev b : ℕ
  b = (plan_now setting (chronicle setting (x ∷ h))).backup_root

  fine : IsSound setting.net (plan_now setting (chronicle setting (x ∷ h)))
  fine = sound setting x h e span.comes

  own : IsSpared setting (chronicle setting (x ∷ h)) b
  own = spared setting x h e span.comes b old

  idle : acts_in (chronicle setting (x ∷ h)) b ≡ false
  idle = (two_parts (moved steps b) (acts_in steps b) on).1

  then_ : (q : Moment) → IsIn q (chronicle setting (e ∷ x ∷ h)) → s0 < when q
      → (era q.earlier ≡ era steps) × (is_old q.earlier b ≡ true) × (on_backup q.earlier b ≡ true) × (is_up (seen_of q.earlier) b ≡ true)
  then_ q here after = backup_within setting (x ∷ h) e span.comes b s0 old on heard put q here after

  silent : IsSilent setting x h s0 (plan_now setting (chronicle setting (x ∷ h))).backup_root
  silent =
      record {
        old = old;
        heard = heard;
        staged = λ commit. (
          fine.fits.backup_root,
          is_staged setting x h e span.comes late b commit own.up own.member
              (not_ordinary (hit setting steps b) (is_member plan b && not (is_root plan b)) (is_backup_root plan b) (eq-eqb b b refl)),
          not_root steps (staged_plan setting steps) b
              (subst (λ z. acts_in steps z ≡ true) (sym (staged_is setting x h e s0 span kept commit) ∙ states.root_is setting (x ∷ h) e span.comes commit)
              (acts setting x h e s0 span kept late failed more spares)) idle,
        );
      }
    where
      not_ordinary : (hit_ m backup : Bool) → backup ≡ true → (hit_ && (m && not backup)) ≡ false
      not_ordinary true true true is = refl
      not_ordinary true false true is = refl
      not_ordinary false m true is = refl
      not_ordinary hit_ m false is = cc

  fallback_by : (hop : Hop) → backup_of (plan_now setting (chronicle setting (x ∷ h))) (plan_now setting (chronicle setting (x ∷ h))).backup_root ≡ Some hop
      → reference_of e ≤ s0 + rounds_gap setting.net + (depth setting.net + 1) * delay setting.net
  fallback_by hop is_hop =
      let hs = walk setting.net plan hop.parent in
      let ends : List End = end_at b hop ∷ [] in
      silent_by setting x h e s0 plan.root (root_leads setting x h e s0 span kept) b (depth setting.net + 1) silent
      (record {
        way = way_of hop.parent hs ends;
        last = end_at b hop;
        among = way_keeps hop.parent hs ends (end_at b hop) first;
        device = refl;
        short = short_by (length (way_of hop.parent hs ends)) (length hs) (depth setting.net) (way_length hop.parent hs ends)
            (walk_length setting.net plan hop.parent);
        hops = λ first_ round limit soon. fallback_open setting x h e s0 span kept late failed more spares devices links root_spared self then_ hop is_hop
            first_ round limit soon [] tt;
      }) (more_by (depth setting.net)) (twice (depth setting.net))
    where
      short_by : (a c n : ℕ) → a ≡ c + 1 → c ≤ n → a ≤ n + 1
      short_by a c n is le = omega (arith, is, le)

      more_by : (n : ℕ) → n ≤ n + 1
      more_by n = omega arith

      twice : (n : ℕ) → n + 1 ≤ 2 * (n + 1)
      twice n = omega arith

  pub fallback_silent : reference_of e ≤ s0 + rounds_gap setting.net + (depth setting.net + 1) * delay setting.net
  fallback_silent = let hop = the_hop (backup_of plan b) (falls setting.net plan fine.guarded.structure fine.fits.backup_root) in fallback_by hop.0 hop.1
