-- From any reference on that is no earlier than the commit, a member of the staged plan other than its root hears a round of that plan within A + H * D.
use Rattle.std.specs.Prelude.{◌≡◌, ℕ, ◌+◌, ◌*◌, ◌<◌, ◌≤◌, true, false, List, [], ◌∷◌, length, refl}
use Rattle.std.proofs.Common.{arith, sym, subst}
use Rattle.std.proofs.lemmas.Bool.{eqb-true}
use Rattle.std.proofs.Math.Nat.{mul-le-mul_right}
use Rattle.sd_plan.specs.topo.Network.{greatest_delay}
use Rattle.sd_plan.specs.declared.Hop.{Hop}
use Rattle.sd_plan.specs.declared.Plan.{Plan}
use Rattle.sd_plan.specs.Plans.{is_member, is_root}
use Rattle.sd_plan.specs.Walks.{walk, path, end_of}
use Rattle.sd_sched.specs.declared.Event.{Event}
use Rattle.sd_sched.specs.Events.{reference_of}
use Rattle.sd_history.specs.World.{Setting, staged_epoch}
use Rattle.sd_history.specs.Steps.{Step, seen_of}
use Rattle.sd_history.specs.Chronicle.{chronicle}
use Rattle.sd_safety.specs.invariant.Bounds.{depth, delay, rounds_gap}
use Rattle.sd_safety.proofs.invariant.Sides.{implied, not_both}
use Rattle.sd_safety.specs.silences.Feeds.{IsFed, AreSound}
use Rattle.sd_safety.proofs.silences.Feeding.{feeding}
use Rattle.sd_safety.proofs.silences.WalkWays.{Walks, way_of, way_length, end_at, sound_way, begins, walk_length}
use Rattle.sd_safety.proofs.silences.Paths.{IsClear, clear_walk}
use Rattle.sd_safety.proofs.silences.SoundWays.{top_of, map_walks}
use Rattle.sd_safety.proofs.windows.Committing.{staged_plan}
use Rattle.sd_plan.proofs.Rules.{KeepsRules}
use Rattle.sd_safety.specs.entering.After.{IsAfter}
use Rattle.sd_safety.proofs.entering.States as states
use Rattle.sd_safety.proofs.entering.Source.{root_feeds}
use Rattle.sd_safety.proofs.entering.SoundWays.{nothing_touches, staged_hop}

longer : (a b h : ℕ) → a ≡ b + 0 → b ≤ h → a ≤ 2 * (h + 1)
longer a b h is le = omega (arith, is, le)

pub fed : (setting : Setting) (history : List Event) (e : Event) (s0 : ℕ) → IsAfter setting history e s0 → (d : ℕ) → d < length setting.net.devices
    → is_member (staged_plan setting (chronicle setting history)) d ≡ true
    → is_root (staged_plan setting (chronicle setting history)) d ≡ false → s0 + rounds_gap setting.net + depth setting.net * delay setting.net < reference_of e
    → IsFed (top_of setting history e) s0 (staged_epoch (seen_of (chronicle setting history))) d
fed setting history e s0 after d known member other less =
    let steps : List Step = chronicle setting history in
    let plan : Plan = staged_plan setting steps in
    let rules : KeepsRules setting.net plan = states.rules setting history e after.comes after.commit in
    let clear : Walks plan (IsClear setting.net plan []) d (walk setting.net plan d) =
    clear_walk plan setting.net [] (states.fits setting history e after.comes after.commit) rules (walk setting.net plan d) d refl known member refl
    (nothing_touches (path setting.net plan d)) in
    let reach : is_root plan (end_of d (walk setting.net plan d)) ≡ true = implied (is_member plan d) _ (rules.reaches d known) member in
    let fine = map_walks plan _ _ (staged_hop setting history e s0 after) (walk setting.net plan d) d clear in
    let way : AreSound setting (top_of setting history e) (staged_epoch (seen_of steps)) s0 plan.root (end_of d (walk setting.net plan d))
    (way_of d (walk setting.net plan d) []) =
    sound_way setting (top_of setting history e) plan (staged_epoch (seen_of steps)) s0 plan.root d (walk setting.net plan d) [] fine tt in
    go (walk setting.net plan d) (walk_length setting.net plan d) reach
    (subst (λ z. AreSound setting (top_of setting history e) (staged_epoch (seen_of steps)) s0 plan.root z (way_of d (walk setting.net plan d) []))
    (sym (eqb-true plan.root (end_of d (walk setting.net plan d)) reach)) way)
  where
    go : (hs : List Hop) → length hs ≤ setting.net.params.depth → is_root (staged_plan setting (chronicle setting history)) (end_of d hs) ≡ true
        → AreSound setting (top_of setting history e) (staged_epoch (seen_of (chronicle setting history))) s0
        (staged_plan setting (chronicle setting history)).root (staged_plan setting (chronicle setting history)).root (way_of d hs [])
        → IsFed (top_of setting history e) s0 (staged_epoch (seen_of (chronicle setting history))) d
    go [] short reach way = absurd (not_both (is_root (staged_plan setting (chronicle setting history)) d) reach other)
    go (hop ∷ hs) short reach way =
        let long : length (way_of d (hop ∷ hs) []) ≡ length (hop ∷ hs) + 0 = way_length d (hop ∷ hs) [] in
        let most : length (way_of d (hop ∷ hs) []) * greatest_delay setting.net ≤ depth setting.net * delay setting.net =
        mul-le-mul_right (greatest_delay setting.net) (omega (arith, long, short)) in
        feeding setting (top_of setting history e) (staged_plan setting (chronicle setting history)).root s0
        (staged_epoch (seen_of (chronicle setting history))) (root_feeds setting history e s0 after) (way_of d (hop ∷ hs) []) (end_at d hop)
        (begins d hop hs)
        (longer (length (way_of d (hop ∷ hs) [])) (length (hop ∷ hs)) setting.net.params.depth long short) way (omega (arith, most, less))
