-- 13 in all eras, before and after a commit.
use Rattle.std.specs.Prelude.{◌≡◌, ℕ, ◌+◌, ◌*◌, ◌<◌, ◌≤◌, Bool, true, false, ◌&&◌, ◌||◌, not, List, [], ◌∷◌, length, Option, is_some, refl}
use Rattle.std.proofs.Common.{arith, sym, ◌∙◌, ap, subst}
use Rattle.std.proofs.lemmas.Bool.{eqb-true, false_from_ne_true}
use Rattle.sd_num.specs.Lists.{same_number}
use Rattle.sd_plan.specs.declared.topo.Thing.{Thing}
use Rattle.sd_plan.specs.declared.topo.Thing.TheVariants as thing
use Rattle.sd_plan.specs.topo.Network.{greatest_delay}
use Rattle.sd_plan.specs.declared.Hop.{Hop}
use Rattle.sd_plan.specs.declared.Plan.{Plan}
use Rattle.sd_plan.specs.declared.End.{End}
use Rattle.sd_plan.specs.Plans.{is_member, is_root}
use Rattle.sd_plan.specs.Walks.{walk, path, end_of}
use Rattle.sd_num.proofs.Shared.{same_number-some}
use Rattle.sd_sched.specs.declared.Event.{Event}
use Rattle.sd_sched.specs.Events.{reference_of}
use Rattle.sd_history.specs.World.{Setting, Seen, fails, is_up, joined_in_window, epoch_in_force}
use Rattle.sd_history.specs.Steps.{Step, seen_of, acts_in, epoch_in}
use Rattle.sd_history.specs.Chronicle.{chronicle}
use Rattle.sd_history.proofs.Known.{admitted_up_is_known}
use Rattle.sd_history.proofs.Given.{some_is}
use Rattle.sd_safety.specs.invariant.Bounds.{depth, delay, rounds_gap}
use Rattle.sd_safety.specs.invariant.Eras.{era, plan_now, all_started, is_among, touches, failed_now, device_failed_now, heard_at, is_old, is_new, is_blank, is_ordinary, live_past, moved, on_primary, hit, root_failed, root_lives}
use Rattle.sd_safety.specs.invariant.Invariant.{Invariant}
use Rattle.sd_safety.specs.invariant.Coming.{IsNextEvent}
use Rattle.sd_safety.proofs.invariant.Facts.{IsSound}
use Rattle.sd_safety.proofs.invariant.Sides.{implied, not_both}
use Rattle.sd_safety.proofs.invariant.Staying.{old_is_member}
use Rattle.sd_safety.specs.messages.Moments.{Moment, when}
use Rattle.sd_safety.proofs.waits.Waits.{Stands, old_stands}
use Rattle.sd_safety.proofs.waits.Standing.{now, sound, Early, lives}
use Rattle.sd_safety.proofs.silences.States.{not_old_and_new}
use Rattle.sd_safety.proofs.silences.WalkWays.{Walks, end_at, way_of, way_length, begins, walk_length}
use Rattle.sd_safety.proofs.silences.Phases.{touched_less}
use Rattle.sd_safety.proofs.silences.Paths.{IsClear, clear_walk, path_misses_cut}
use Rattle.sd_safety.proofs.silences.SoundWays.{top_of, map_walks}
use Rattle.sd_safety.proofs.windows.Committing.{staged_plan}
use Rattle.sd_safety.proofs.entering.States as states
use Rattle.sd_safety.proofs.entering.Hears.{idle_by}
use Rattle.sd_safety.specs.rounds.Rounds.{AreOpenHops}
use Rattle.sd_safety.specs.rounds.Spans.{IsSpan}
use Rattle.sd_safety.proofs.rounds.Hops.{IsOldRound, old_hop}
use Rattle.sd_safety.proofs.rounds.NewHops.{open_ways}
use Rattle.sd_safety.proofs.rounds.Sources.{root_leads, staged_is}
use Rattle.sd_safety.proofs.rounds.Silent.{IsSilent, silent_by}
use Rattle.sd_safety.proofs.spans.Staged.{is_staged}

-- a device is no root where the root acts and it does not
pub not_root : (steps : List Step) (plan : Plan) (d : ℕ) → acts_in steps plan.root ≡ true → acts_in steps d ≡ false → is_root plan d ≡ false
not_root steps plan d acts idle =
    false_from_ne_true (is_root plan d) (λ is. not_both (acts_in steps d) (subst (λ z. acts_in steps z ≡ true) (eqb-true plan.root d is) acts) idle)

-- an old member did not fail in the era
spared_by : (m f up joined blank new : Bool) → (not (m && f && up) || (joined && (blank || new))) ≡ true → m ≡ true → up ≡ true → (blank ≡ true → ⊥)
    → (new ≡ true → ⊥) → f ≡ false
spared_by true true true true true new clause a b c d = absurd (c refl)
spared_by true true true true false true clause a b c d = absurd (d refl)
spared_by true true true true false false clause a b c d = cc
spared_by true true true false blank new clause a b c d = cc
spared_by true false up joined blank new clause a b c d = refl
spared_by true true false joined blank new clause a b c d = cc
spared_by false f up joined blank new clause a b c d = cc

not_old_and_blank : (steps : List Step) (d : ℕ) → is_old steps d ≡ true → is_blank steps d ≡ true → ⊥
not_old_and_blank steps d old blank = two_numbers (epoch_in steps d) (era steps) old blank (positive (seen_of steps))
  where
    two_numbers : (o : Option ℕ) (n : ℕ) → same_number o n ≡ true → same_number o 0 ≡ true → 1 ≤ n → ⊥
    two_numbers o n one two le = let same : n ≡ 0 = some_is (sym (same_number-some o n one) ∙ same_number-some o 0 two) in omega (arith, same, le)

    positive : (seen : List Seen) → 1 ≤ epoch_in_force seen
    positive seen = omega arith

-- one who is old, of the era's plan, up and did not fail in the era
pub record IsSpared (setting : Setting) (steps : List Step) (d : ℕ) : Type 0 where
  pub up : is_up (seen_of steps) d ≡ true
  pub member : is_member (plan_now setting steps) d ≡ true
  pub self : device_failed_now steps d ≡ false

pub spared : (setting : Setting) (x : Event) (h : List Event) (e : Event) → IsNextEvent setting (x ∷ h) e → (d : ℕ)
    → is_old (chronicle setting (x ∷ h)) d ≡ true
    → IsSpared setting (chronicle setting (x ∷ h)) d
spared setting x h e comes d old =
    let steps : List Step = chronicle setting (x ∷ h) in
    let inv : Invariant setting steps = now setting x h e comes in
    let s : Stands setting steps d = old_stands setting (x ∷ h) d old in
    let member : is_member (plan_now setting steps) d ≡ true = old_is_member setting steps d (inv.core.census.outsiders d) old in
    record {
      up = s.live;
      member = member;
      self =
          spared_by (is_member (plan_now setting steps) d) (device_failed_now steps d) (is_up (seen_of steps) d) (joined_in_window (seen_of steps) d)
          (is_blank steps d) (is_new steps d) (inv.core.census.returned d) member s.live
          (not_old_and_blank steps d old) (not_old_and_new steps d old);
    }

-- where the event fails nothing but some things, with which all are that failed by now, and of which none is on its path
module _ (setting : Setting) (x : Event) (h : List Event) (e : Event) (s0 : ℕ) (span : IsSpan setting x h e s0)
    (kept : root_failed setting (chronicle setting (x ∷ h)) ≡ false) (late : all_started setting (chronicle setting (x ∷ h)) < reference_of e)
    (failed : List Thing) (more : (y : Thing) → is_among failed y ≡ false → is_among (failed_now (chronicle setting (x ∷ h))) y ≡ false) (spares : (y : Thing)
    → is_among failed y ≡ false → fails y e ≡ false) where
  abbrev steps : List Step
  steps = chronicle setting (x ∷ h)

  abbrev plan : Plan
  plan = plan_now setting (chronicle setting (x ∷ h))

  not_early : Early setting x h e span.comes → ⊥
  not_early early = let le = early.1 in absurd (omega (arith, le, late))

  pub acts : acts_in (chronicle setting (x ∷ h)) (plan_now setting (chronicle setting (x ∷ h))).root ≡ true
  acts = implied (root_lives setting steps) (acts_in steps plan.root) (now setting x h e span.comes).core.roles.root
      (lives setting x h e span.comes kept not_early)

  -- the way of a walk of which nothing failed
  pub walk_open : (y : ℕ) (hs : List Hop) → Walks plan (IsClear setting.net (plan_now setting (chronicle setting (x ∷ h))) failed) y hs → (first : Moment)
      → IsOldRound setting x h s0 first → (limit : ℕ)
      → limit ≤ when first + 2 * (setting.net.params.depth + 1) * greatest_delay setting.net → (rest : List End)
      → AreOpenHops setting (top_of setting (x ∷ h) e) (era (chronicle setting (x ∷ h))) first limit (plan_now setting (chronicle setting (x ∷ h))).root y rest
      → AreOpenHops setting (top_of setting (x ∷ h) e) (era (chronicle setting (x ∷ h))) first limit (plan_now setting (chronicle setting (x ∷ h))).root
      (end_of y hs) (way_of y hs rest)
  walk_open y hs clear first round limit soon rest base =
      open_ways setting (top_of setting (x ∷ h) e) plan (era steps) first limit plan.root y hs rest
      (map_walks plan _ _ (λ z hop is. old_hop setting x h e s0 span kept failed more spares z hop is first round limit soon) hs y clear) base

  pub path_silent : (d : ℕ) → is_old (chronicle setting (x ∷ h)) d ≡ true → on_primary (chronicle setting (x ∷ h)) d ≡ true
      → is_among failed (thing.Device d) ≡ false
      → touches failed (path setting.net (plan_now setting (chronicle setting (x ∷ h))) d) ≡ false → heard_at (chronicle setting (x ∷ h)) d ≤ s0
      → reference_of e ≤ s0 + rounds_gap setting.net + depth setting.net * delay setting.net
  path_silent d old primary self path_ heard = by (walk setting.net plan d) (walk_length setting.net plan d) clear reach
    where
      fine : IsSound setting.net (plan_now setting (chronicle setting (x ∷ h)))
      fine = sound setting x h e span.comes

      own : IsSpared setting (chronicle setting (x ∷ h)) d
      own = spared setting x h e span.comes d old

      known : d < length setting.net.devices
      known = admitted_up_is_known setting (x ∷ h) span.comes.clean.is.0 d own.up

      idle : acts_in (chronicle setting (x ∷ h)) d ≡ false
      idle = idle_by (is_some (live_past steps d)) (moved steps d) (acts_in steps d) primary

      other : is_root (plan_now setting (chronicle setting (x ∷ h))) d ≡ false
      other = not_root steps plan d acts idle

      clear : Walks plan (IsClear setting.net plan failed) d (walk setting.net plan d)
      clear = clear_walk plan setting.net failed fine.fits fine.rules (walk setting.net plan d) d refl known own.member self path_

      reach : is_root plan (end_of d (walk setting.net plan d)) ≡ true
      reach = implied (is_member plan d) _ (fine.rules.reaches d known) own.member

      unhit : hit setting (chronicle setting (x ∷ h)) d ≡ false
      unhit = path_misses_cut plan setting.net (failed_now steps) d
          (touched_less (is_among (failed_now steps)) (is_among failed) (path setting.net plan d) more path_)

      silent : IsSilent setting x h s0 d
      silent =
          record {
            old = old;
            heard = heard;
            staged = λ commit. (
              known,
              is_staged setting x h e span.comes late d commit own.up own.member (ap (λ b. b && is_ordinary plan d) unhit),
              not_root steps (staged_plan setting steps) d
                  (subst (λ z. acts_in steps z ≡ true) (sym (staged_is setting x h e s0 span kept commit)
                  ∙ states.root_is setting (x ∷ h) e span.comes commit) acts) idle,
            );
          }

      least : (n : ℕ) → n ≤ n
      least n = omega arith

      twice : (n : ℕ) → n ≤ 2 * (n + 1)
      twice n = omega arith

      short_by : (a b n : ℕ) → a ≡ b + 0 → b ≤ n → a ≤ n
      short_by a b n is le = omega (arith, is, le)

      by : (hs : List Hop) → length hs ≤ setting.net.params.depth → Walks plan (IsClear setting.net plan failed) d hs → is_root plan (end_of d hs) ≡ true
          → reference_of e ≤ s0 + rounds_gap setting.net + depth setting.net * delay setting.net
      by [] short clear' reach' = absurd (not_both (is_root plan d) reach' other)
      by (hop ∷ hs) short clear' reach' =
          silent_by setting x h e s0 plan.root (root_leads setting x h e s0 span kept) d (depth setting.net) silent
          (record {
            way = way_of d (hop ∷ hs) [];
            last = end_at d hop;
            among = begins d hop hs;
            device = refl;
            short = short_by (length (way_of d (hop ∷ hs) [])) (length (hop ∷ hs)) setting.net.params.depth (way_length d (hop ∷ hs) []) short;
            hops = λ first round limit soon.
                subst (λ z. AreOpenHops setting (top_of setting (x ∷ h) e) (era steps) first limit plan.root z (way_of d (hop ∷ hs) []))
                (sym (eqb-true plan.root (end_of d (hop ∷ hs)) reach'))
                (walk_open d (hop ∷ hs) clear' first round limit soon [] tt);
          }) (least (depth setting.net)) (twice setting.net.params.depth)
