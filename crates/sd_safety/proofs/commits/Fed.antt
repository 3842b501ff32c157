-- After a commit of the backup root an old device behind it that is not hit, and that heard nothing later than s0, has its next event by s0 + A + H * D: of K +
-- 1 rounds
-- one is clean. One of the era's plan comes down the cut walk; and by one of the staged plan the device would be new (20).
use Rattle.std.specs.Prelude.{◌≡◌, ℕ, ◌+◌, ◌*◌, ◌<◌, ◌≤◌, true, false, List, [], ◌∷◌, length, refl}
use Rattle.std.proofs.Common.{arith, sym, subst}
use Rattle.std.proofs.lemmas.Bool.{eq-eqb}
use Rattle.sd_plan.specs.declared.End.{End}
use Rattle.sd_plan.specs.declared.Hop.{Hop}
use Rattle.sd_plan.specs.declared.Plan.{Plan}
use Rattle.sd_plan.specs.Plans.{is_member, is_root, is_backup_root}
use Rattle.sd_plan.specs.Walks.{walk, end_of, on_walk}
use Rattle.sd_sched.specs.declared.Event.{Event}
use Rattle.sd_sched.specs.Events.{reference_of}
use Rattle.sd_history.specs.World.{Setting}
use Rattle.sd_history.specs.Steps.{Step}
use Rattle.sd_history.specs.Chronicle.{chronicle}
use Rattle.sd_history.proofs.Known.{admitted_up_is_known}
use Rattle.sd_safety.specs.invariant.Bounds.{depth, delay, rounds_gap}
use Rattle.sd_safety.specs.invariant.Eras.{era, plan_now, failed_now, heard_at}
use Rattle.sd_safety.proofs.invariant.Facts.{IsSound}
use Rattle.sd_safety.proofs.invariant.Sides.{not_both}
use Rattle.sd_safety.proofs.waits.Standing.{sound}
use Rattle.sd_safety.proofs.silences.SoundWays.{top_of, map_walks}
use Rattle.sd_safety.proofs.silences.WalkWays.{Walks, end_at, way_of, way_length, begins, walk_length}
use Rattle.sd_safety.proofs.windows.Committing.{staged_plan}
use Rattle.sd_safety.proofs.entering.States as states
use Rattle.sd_safety.specs.rounds.Rounds.{AreOpenHops}
use Rattle.sd_safety.proofs.rounds.Leaders.{IsLeader}
use Rattle.sd_safety.proofs.rounds.Hops.{IsLasting, lasting_hop}
use Rattle.sd_safety.proofs.rounds.NewHops.{open_ways}
use Rattle.sd_safety.proofs.rounds.Silent.{IsSilent, silent_by}
use Rattle.sd_safety.specs.behind.Feeding.{StandsBehind}
use Rattle.sd_safety.proofs.behind.Silent.{behind_parts}
use Rattle.sd_safety.proofs.spans.PathHears.{IsSpared, spared}
use Rattle.sd_plan.proofs.CutOff.{cut_off}
use Rattle.sd_safety.proofs.feeds.Cuts.{IsCutClear, CutWalk, cut_walk_of}
use Rattle.sd_safety.proofs.feeds.Ready.{cut_lasting}
use Rattle.sd_safety.specs.commits.Leading.{IsLed}
use Rattle.sd_safety.proofs.commits.Sources.{leads}

module _ (setting : Setting) (x : Event) (h : List Event) (e : Event) (s0 : ℕ) (led : IsLed setting x h e s0) (d : ℕ)
    (st : StandsBehind setting (chronicle setting (x ∷ h)) d) (heard : heard_at (chronicle setting (x ∷ h)) d ≤ s0)
    (staged : is_member (staged_plan setting (chronicle setting (x ∷ h))) d ≡ true)
    (apart : is_root (staged_plan setting (chronicle setting (x ∷ h))) d ≡ false) where
  abbrev steps : List Step
  steps = chronicle setting (x ∷ h)

  abbrev plan : Plan
  plan = plan_now setting (chronicle setting (x ∷ h))

  abbrev b : ℕ
  b = (plan_now setting (chronicle setting (x ∷ h))).backup_root

  own : IsSpared setting (chronicle setting (x ∷ h)) d
  own = spared setting x h e led.comes d st.old

  known : d < length setting.net.devices
  known = admitted_up_is_known setting (x ∷ h) led.comes.clean.is.0 d own.up

  parts : (is_backup_root (plan_now setting (chronicle setting (x ∷ h))) d ≡ false)
      × (on_walk setting.net (plan_now setting (chronicle setting (x ∷ h))) d (plan_now setting (chronicle setting (x ∷ h))).backup_root ≡ true)
  parts = behind_parts (is_member plan d) (is_backup_root plan d) (on_walk setting.net plan d b) st.behind

  cut_walk : CutWalk setting.net (plan_now setting (chronicle setting (x ∷ h))) (failed_now (chronicle setting (x ∷ h))) d
      (walk setting.net (plan_now setting (chronicle setting (x ∷ h))) d)
  cut_walk = let fine : IsSound setting.net plan = sound setting x h e led.comes in
      cut_walk_of setting.net plan (failed_now steps) fine d known own.member parts.0 own.self st.missed parts.1

  silent : IsSilent setting x h s0 d
  silent = record { old = st.old; heard = heard; staged = λ commit. (known, staged, apart) }

  lead : IsLeader setting x h e s0 (plan_now setting (chronicle setting (x ∷ h))).backup_root
  lead = leads setting x h e s0 led

  -- a hop of the cut walk is open to each round of the backup root
  cut_hop : (y : ℕ) (hop : Hop) → IsCutClear setting.net (plan_now setting (chronicle setting (x ∷ h))) (failed_now (chronicle setting (x ∷ h))) y hop
      → IsLasting setting x h e s0 (plan_now setting (chronicle setting (x ∷ h))).backup_root y hop
  cut_hop y hop clear =
      cut_lasting setting x h e s0 lead.span led.same (failed_now steps) (λ z none. none)
      (λ z none. states.fails_not setting (x ∷ h) e led.comes led.commit z) b y hop clear
      (λ same. not_both (is_backup_root plan y) (eq-eqb b y (sym same)) clear.ordinary)

  fed_along : (hs : List Hop) → Walks plan (IsCutClear setting.net plan (failed_now steps)) d hs → end_of d hs ≡ b
      → length hs + 1 ≤ length (walk setting.net plan d) → reference_of e ≤ s0 + rounds_gap setting.net + depth setting.net * delay setting.net
  fed_along [] clear ends short = absurd (not_both (is_backup_root plan d) (eq-eqb b d (sym ends)) parts.0)
  fed_along (hop ∷ hs) clear ends short =
      let way : List End = way_of d (hop ∷ hs) [] in
      silent_by setting x h e s0 b lead d (depth setting.net) silent
      (record {
        way = way;
        last = end_at d hop;
        among = begins d hop hs;
        device = refl;
        short = short_by (length way) (length (hop ∷ hs)) (length (walk setting.net plan d)) (depth setting.net) (way_length d (hop ∷ hs) []) short
            (walk_length setting.net plan d);
        hops = λ first round limit soon.
            subst (λ z. AreOpenHops setting (top_of setting (x ∷ h) e) (era steps) first limit b z way) ends
            (open_ways setting (top_of setting (x ∷ h) e) plan (era steps) first limit b d (hop ∷ hs) []
            (map_walks plan _ _ (λ y j is. lasting_hop setting x h e s0 b lead y j (cut_hop y j is) first round limit soon) (hop ∷ hs) d clear) tt);
      }) (least (depth setting.net)) (twice (depth setting.net))
    where
      short_by : (a l w n : ℕ) → a ≡ l + 0 → l + 1 ≤ w → w ≤ n → a ≤ n
      short_by a l w n is less le = omega (arith, is, less, le)

      least : (n : ℕ) → n ≤ n
      least n = omega arith

      twice : (n : ℕ) → n ≤ 2 * (n + 1)
      twice n = omega arith

  pub fed_by : reference_of e ≤ s0 + (rounds_gap setting.net + depth setting.net * delay setting.net)
  fed_by = turned (reference_of e) s0 (rounds_gap setting.net) (depth setting.net * delay setting.net)
      (fed_along (cut_off plan (walk setting.net plan d)) cut_walk.clear cut_walk.ends cut_walk.short)
    where
      turned : (r s a c : ℕ) → r ≤ s + a + c → r ≤ s + (a + c)
      turned r s a c le = omega (arith, le)
