-- The reach condition is needed: a device that a domain starves stays deaf after a history that breaks no premise.
use Rattle.std.specs.Prelude.{◌≡◌, ℕ, ◌*◌, ◌^◌, ◌<◌, ◌≤◌, Bool, true, false, ◌&&◌, not, length, Option, Some, None, is_some, option_map, refl, if◌then◌else◌}
use Rattle.std.specs.List.{list_all}
use Rattle.std.specs.Option.{option_or}
use Rattle.std.proofs.Common.{sym, ap, ◌∙◌, subst, inr}
use Rattle.std.proofs.lemmas.Bool.{and_parts, and_right}
use Rattle.sd_num.specs.Lists.{map_or}
use Rattle.sd_plan.specs.topo.Network.{Network}
use Rattle.sd_plan.specs.topo.Limits.{IsNetwork}
use Rattle.sd_plan.specs.declared.topo.Thing.TheVariants as thing
use Rattle.sd_plan.specs.domain.Domains.{holds}
use Rattle.sd_plan.specs.domain.Lone.{IsDomain}
use Rattle.sd_plan.specs.declared.domain.DomainId.{DomainId}
use Rattle.sd_plan.specs.declared.Hop.{Hop}
use Rattle.sd_plan.specs.declared.Edge.{Edge}
use Rattle.sd_plan.specs.declared.Plan.{Plan}
use Rattle.sd_plan.specs.declared.Role.{Role}
use Rattle.sd_plan.specs.declared.Role.TheVariants.{Root, BackupRoot, Ordinary}
use Rattle.sd_plan.specs.Plans.{Fits, has_backup, primary_of, backup_of}
use Rattle.sd_plan.specs.Duties.{duty_of, edge_of}
use Rattle.sd_plan.specs.Structure.{structure_breach}
use Rattle.sd_checker.specs.check_reach.Reach.{next_hop}
use Rattle.sd_checker.specs.Conditions as condition
use Rattle.sd_device.specs.Calls.{Past, Tick}
use Rattle.sd_device.specs.Words.{after, accepted_over, wait_to_move}
use Rattle.sd_history.specs.Chronicle.{chronicle}
use Rattle.sd_history.proofs.Given.{some_is}
use Rattle.sd_history.specs.World.{alone}
use Rattle.sd_beside.specs.needed.Loops.{ticks_of_wait, event_bound}
use Rattle.sd_beside.specs.needed.Reaches.{StaysDeaf, ReachIsNeeded, ReachRefusalIsRight}
use Rattle.sd_beside.proofs.needed.Going.{premises_held}
use Rattle.sd_beside.proofs.needed.Rings.{domain_among, domain_is, known_device, known_link}
use Rattle.sd_beside.proofs.needed.Still.{ordinary_starts}
use Rattle.sd_beside.proofs.needed.Hush.{role_is}
use Rattle.sd_beside.proofs.needed.Zones.{zone_in}
use Rattle.sd_beside.proofs.needed.Moving.{HasMoved, has_moved}
use Rattle.sd_beside.proofs.needed.Deaf.{Settled, still_settled, moved_settled}
use Rattle.sd_beside.proofs.needed.Unfed.{Unfed, IsMute, unfed_zone, unfed_live, unfed_other, mute_zone}
use Rattle.sd_beside.proofs.needed.Continuing.{Later, IsSettled, later_all}

module _ (net : Network) (plan : Plan) (law : IsNetwork net) (fits : Fits net plan) (structured : structure_breach net plan ≡ None)
    (bound : event_bound net plan ≤ 2 ^ 26) (f : DomainId) (is_domain : IsDomain net f) where
  -- each device of the zone that has a backup moves
  abbrev mover : ℕ → Bool
  mover z = zone_in net plan (holds net f) z && has_backup plan z

  abbrev end_ : ℕ
  end_ = ticks_of_wait net plan * net.params.tick

  device_known : (d : ℕ) → holds net f (thing.Device d) ≡ true → d < length net.devices
  device_known d is = known_device net f d law is_domain is

  link_known : (l : ℕ) → holds net f (thing.Link l) ≡ true → l < length net.links
  link_known l is = known_link net f l law is_domain is

  moves_zone : (z : ℕ) → mover z ≡ true → zone_in net plan (holds net f) z ≡ true
  moves_zone z is = (and_parts (zone_in net plan (holds net f) z) (has_backup plan z) is).0

  moves_back : (z : ℕ) → mover z ≡ true → (hop : Hop) × (backup_of plan z ≡ Some hop)
  moves_back z is = by (backup_of plan z) refl (and_parts (zone_in net plan (holds net f) z) (has_backup plan z) is).1
    where
      by : (o : Option Hop) → backup_of plan z ≡ o → map_or o false (λ hop. true) ≡ true → (hop : Hop) × (backup_of plan z ≡ Some hop)
      by None falls there = cc
      by (Some hop) falls there = (hop, falls)

  -- the history at the end of the wait
  abbrev Ended : Type 0
  Ended =
      HasMoved net plan f (holds net f) (zone_in net plan (holds net f)) (IsMute net plan f) law (domain_among net f is_domain) device_known link_known
      (λ x is. is) (mute_zone net plan fits structured f) bound mover moves_zone moves_back

  ended : Ended
  ended =
      has_moved net plan f (holds net f) (zone_in net plan (holds net f)) (IsMute net plan f) law (domain_among net f is_domain) device_known link_known
      (λ x is. is) (mute_zone net plan fits structured f) bound mover moves_zone moves_back

  -- a device that is not fed is settled then
  settled : (end : Ended) (x : ℕ) → Unfed net plan f x → IsSettled net plan (chronicle (alone net plan) end.history) x
  settled end x u = by (backup_of plan x) refl
    where
      ordinary : (duty_of net plan 1 x).role ≡ Ordinary
      ordinary = role_is net plan x (unfed_other net plan fits structured f x u)

      in_zone : zone_in net plan (holds net f) x ≡ true
      in_zone = unfed_zone net plan fits structured f x u

      next_is : (o : Option Hop) → backup_of plan x ≡ o → next_hop plan x ≡ option_or o (primary_of plan x)
      next_is o falls = ap (λ (b : Option Hop). option_or b (primary_of plan x)) falls

      by : (o : Option Hop) → backup_of plan x ≡ o → IsSettled net plan (chronicle (alone net plan) end.history) x
      by (Some hop) falls =
          let moves : mover x ≡ true = rw (in_zone, falls) refl in
          let it = end.turned x moves in
          let edge : (duty_of net plan 1 x).backup ≡ option_map (edge_of net x) (next_hop plan x) =
          ap (option_map (edge_of net x)) (falls ∙ sym (next_is (Some hop) falls)) in
          record {
            past = after it.before (Tick end_);
            is = it.is;
            settled = subst (λ (o : Option Edge). Settled (duty_of net plan 1 x) o (after it.before (Tick end_))) edge
                (moved_settled (duty_of net plan 1 x) it.before end_ it.still
                (ordinary_starts (duty_of net plan 1 x) ordinary) it.moves);
          }
      by None falls =
          let stays : mover x ≡ false = and_right (zone_in net plan (holds net f) x) (has_backup plan x)
          (ap (λ (o : Option Hop). map_or o false (λ hop. true)) falls) in
          let it = end.still x in_zone stays in
          let none : (duty_of net plan 1 x).backup ≡ None = ap (option_map (edge_of net x)) falls in
          let no_wait : wait_to_move (duty_of net plan 1 x) ≡ None = waits (duty_of net plan 1 x).role ordinary (duty_of net plan 1 x).backup none in
          let edge : (duty_of net plan 1 x).primary ≡ option_map (edge_of net x) (next_hop plan x) =
          ap (option_map (edge_of net x)) (sym (next_is None falls)) in
          record {
            past = it.past;
            is = it.is;
            settled = subst (λ (o : Option Edge). Settled (duty_of net plan 1 x) o it.past) edge
                (still_settled (duty_of net plan 1 x) it.past it.still (ordinary_starts (duty_of net plan 1 x) ordinary)
                no_wait);
          }
        where
          waits : (role : Role) → role ≡ Ordinary → (o : Option Edge) → o ≡ None
              → ◌≡◌ {A = Option ℕ} (elim role [ Root ↦ None | BackupRoot ↦ Some plan.wait_first | Ordinary ↦ if is_some o then Some plan.wait else None ]) None
          waits role is o none = rw (is, none) refl

  later_first : (end : Ended) → Later net plan f (chronicle (alone net plan) end.history)
  later_first end =
      record {
        frame =
            record {
              up = end.good.world.up;
              made = end.good.world.made;
              fallen = end.good.world.fallen;
              failed = end.good.world.failed;
              window = end.good.world.window;
              closings = end.good.world.closings;
            };
        settled = settled end;
        silent = λ g a reaches on. end.silent g a reaches (inr on);
      }

  pub stays_deaf : (d : ℕ) → Unfed net plan f d → StaysDeaf net plan f d
  stays_deaf d u = by ended
    where
      by : Ended → StaysDeaf net plan f d
      by end =
          record {
            history = end.history;
            clean =
                record {
                  is = end.good.is;
                  premises = premises_held net plan f (holds net f) end.history end.reference end.good;
                  failures = end.good.failures;
                };
            up = λ more is leaves. (later_all net plan fits structured f end.history more (later_first end) is leaves).frame.up d
                ∙ unfed_live net plan fits structured f d u;
            deaf = λ more is leaves past at.
                (let it = (later_all net plan fits structured f end.history more (later_first end) is leaves).settled d u in
                let same : it.past ≡ past = some_is (sym it.is ∙ at) in
                subst (λ (p : Past). list_all (λ x. not (is_some (accepted_over x.transition))) p.did ≡ true) same it.settled.heard);
          }

-- the reach condition is needed
pub reach_is_needed : (net : Network) (plan : Plan) → ReachIsNeeded net plan
reach_is_needed net plan law fits structured bound f is_domain d starved =
    stays_deaf net plan law fits structured bound f is_domain d (record { sound = starved.0; unfed = starved.1 })

pub reach_refusal_is_right : (net : Network) (plan : Plan) → ReachRefusalIsRight net plan
reach_refusal_is_right net plan law fits bound f chain broken =
    let shown = broken.shows.1 in (
      shown.first,
      shown.begins,
      reach_is_needed net plan law fits (broken.before condition.structure refl) bound f (domain_is net broken.shows.0.0 f broken.shows.0.1) shown.first
          shown.starved,
    )
