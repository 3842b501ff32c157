-- Where an old backup root has moved, nothing of its fallback failed in the era but perhaps the root: its path is hit, so the root condition for
-- the domain of the failures keeps that domain off the fallback. What fails is a device or link of the network, by what is refused.
use Rattle.std.specs.Prelude.{◌≡◌, ℕ, ◌<◌, Bool, true, false, ◌&&◌, ◌||◌, not, List, [], ◌∷◌, find, length, filter_map, nat_le, nat_lt, Option, Some, None, option_map, option_to_list, refl, if◌then◌else◌}
use Rattle.std.specs.List.{list_all, cons_option}
use Rattle.std.proofs.Common.{sym, subst}
use Rattle.std.proofs.lemmas.Bool.{and_parts, and_from, leb-false, lt-ltb, ltb-true}
use Rattle.sd_num.specs.Lists.{has, leading}
use Rattle.sd_plan.specs.topo.Network.{Network, device_numbers, link_numbers}
use Rattle.sd_plan.specs.declared.topo.Thing.{Thing}
use Rattle.sd_plan.specs.declared.topo.Thing.TheVariants as thing
use Rattle.sd_plan.specs.domain.Things.{same_thing}
use Rattle.sd_plan.specs.domain.Domains.{holds_device, holds_link, hits, domains}
use Rattle.sd_plan.specs.declared.Plan.{Plan}
use Rattle.sd_plan.specs.Walks.{path}
use Rattle.sd_plan.proofs.Numbered.{none_found, both_none}
use Rattle.sd_checker.specs.check_root.Roots.{fallback_devices, fallback_links, fallback_breach, root_breach}
use Rattle.sd_checker.specs.Conditions.{RootHolds}
use Rattle.sd_safety.specs.invariant.Guarded.{IsGuarded}
use Rattle.sd_plan.proofs.Rules.{none_mapped}
use Rattle.sd_plan.proofs.domain.Within.{same_thing-true}
use Rattle.sd_sched.specs.declared.Event.{Event}
use Rattle.sd_sched.specs.declared.Event.TheVariants as event
use Rattle.sd_history.specs.Things.{failure_of}
use Rattle.sd_history.specs.World.{Setting, Seen}
use Rattle.sd_history.specs.Steps.{Step, seen_of}
use Rattle.sd_history.specs.Chronicle.{next_step, chronicle}
use Rattle.sd_history.specs.Admitted.{IsAdmitted}
use Rattle.sd_history.specs.Refusals.{unknown_device, unknown_link}
use Rattle.sd_history.specs.Premises.{failures_since_closing}
use Rattle.sd_history.proofs.Among.{passes}
use Rattle.sd_history.proofs.Clear.{clear}
use Rattle.sd_history.proofs.Shared.{each_among}
use Rattle.sd_safety.specs.invariant.Eras.{plan_now, failed_now, is_among, device_failed_now, link_failed_now, path_hit}
use Rattle.sd_safety.specs.invariant.Clauses.{backup_root_moved, move_is_caused, fallback_device_is_sound, fallback_link_is_sound}
use Rattle.sd_safety.proofs.invariant.Prefix.{Passing, some_passing}
use Rattle.sd_safety.proofs.invariant.Domains.{Holding, held, touched_is_hit}
use Rattle.sd_safety.proofs.invariant.Sides.{implied, not_both}

-- Failed things are things of the network.

abbrev pub is_known : Network → Thing → Bool
is_known net (thing.Device d) = nat_lt d (length net.devices)
is_known net (thing.Link l) = nat_lt l (length net.links)

below_when : (x n : ℕ) → nat_le n x ≡ false → nat_lt x n ≡ true
below_when x n none = lt-ltb x n (leb-false n x none)

all_known : (setting : Setting) (e : Event) → unknown_device setting e ≡ false → unknown_link setting e ≡ false
    → list_all (is_known setting.net) (option_to_list (failure_of e)) ≡ true
all_known setting (event.FailDevice r d) known_device known_link =
    and_from (nat_lt d (length setting.net.devices)) true (below_when d (length setting.net.devices) known_device) refl
all_known setting (event.FailLink r l) known_device known_link =
    and_from (nat_lt l (length setting.net.links)) true (below_when l (length setting.net.links) known_link) refl
all_known setting _ known_device known_link = refl

known_one : (p : Thing → Bool) (o : Option Thing) (xs : List Thing) → list_all p (option_to_list o) ≡ true → list_all p xs ≡ true
    → list_all p (cons_option o xs) ≡ true
known_one p None xs one all = all
known_one p (Some x) xs one all = and_from (p x) (list_all p xs) (and_parts (p x) true one).0 all

known_when : (p : Thing → Bool) (s : Seen) (seen : List Seen) (b : Bool) → list_all p (option_to_list (failure_of s.event)) ≡ true
    → list_all p (failures_since_closing seen) ≡ true
    → list_all p (filter_map (λ x. failure_of x.event) (if b then s ∷ leading (λ x. not x.closed) seen else [])) ≡ true
known_when p s seen true one all = known_one p (failure_of s.event) (failures_since_closing seen) one all
known_when p s seen false one all = refl

pub failed_are_known : (setting : Setting) (history : List Event) → IsAdmitted setting history
    → list_all (is_known setting.net) (failed_now (chronicle setting history)) ≡ true
failed_are_known setting [] is = refl
failed_are_known setting (e ∷ history) is =
    let steps = chronicle setting history in
    let s = (next_step setting steps e).seen in
    known_when (is_known setting.net) s (seen_of steps) (not s.closed)
    (all_known setting e (clear setting steps e is.1).device_known (clear setting steps e is.1).link_known)
    (failed_are_known setting history is.0)

pub known : (net : Network) (failed : List Thing) (x : Thing) → list_all (is_known net) failed ≡ true → is_among failed x ≡ true → is_known net x ≡ true
known net failed x all in_ =
    let found : Passing (same_thing x) failed = some_passing (same_thing x) failed in_ in
    subst (λ y. is_known net y ≡ true) (sym (same_thing-true x found.one found.passed)) (passes (is_known net) found.there all)

-- The root condition

breach_when : (both hit_ : Bool) (one two : Option Thing) (x : Thing) → (if both then Some x else if hit_ then one else None) ≡ None → hit_ ≡ true → one ≡ None
breach_when true hit_ one two x none is = cc
breach_when false true one two x none is = none
breach_when false false one two x none is = cc

-- nothing of the fallback is in a domain that hits the backup root's path
pub record IsOff (net : Network) (plan : Plan) (devices links : ℕ → Bool) : Type 0 where
  pub device : (d : ℕ) → d < length net.devices → (devices d && has (fallback_devices net plan) d) ≡ false
  pub link : (l : ℕ) → l < length net.links → (links l && has (fallback_links net plan) l) ≡ false

pub off_fallback : (setting : Setting) (plan : Plan) (steps : List Step) (h : Holding setting steps) → IsGuarded setting.net plan
    → hits setting.net h.domain (path setting.net plan plan.backup_root) ≡ true
    → IsOff setting.net plan (holds_device setting.net h.domain) (holds_link setting.net h.domain)
off_fallback setting plan steps h guarded hit_ =
    let net = setting.net in
    let f = h.domain in
    let holds_ : root_breach net plan f ≡ None = each_among (RootHolds net plan) (domains net) f guarded.root h.among in
    let none : fallback_breach net plan f ≡ None =
    breach_when (holds_device net f plan.root && holds_device net f plan.backup_root) (hits net f (path net plan plan.backup_root))
    (fallback_breach net plan f) None (thing.Device plan.backup_root) holds_ hit_ in
    let both =
    both_none (option_map thing.Device (find (λ d. holds_device net f d && has (fallback_devices net plan) d) (device_numbers net)))
    (option_map thing.Link (find (λ l. holds_link net f l && has (fallback_links net plan) l) (link_numbers net))) none in
    record {
      device = λ d within. none_found (λ d. holds_device net f d && has (fallback_devices net plan) d) (length net.devices) d
          (none_mapped thing.Device _ both.0) within;
      link = λ l within. none_found (λ l. holds_link net f l && has (fallback_links net plan) l) (length net.links) l (none_mapped thing.Link _ both.1) within;
    }

pub from_absurd : (a b : Bool) → (a ≡ true → b ≡ true → ⊥) → (not a || not b) ≡ true
from_absurd true true none = absurd (none refl refl)
from_absurd true false none = refl
from_absurd false b none = refl

module _ (setting : Setting) (history : List Event) (is : IsAdmitted setting history) (h : Holding setting (chronicle setting history))
    (guarded : IsGuarded setting.net (plan_now setting (chronicle setting history)))
    (caused : move_is_caused setting (chronicle setting history) ≡ true) where
  off : backup_root_moved setting (chronicle setting history) ≡ true
      → IsOff setting.net (plan_now setting (chronicle setting history)) (holds_device setting.net h.domain) (holds_link setting.net h.domain)
  off has_moved =
      let steps = chronicle setting history in
      let plan = plan_now setting steps in
      off_fallback setting plan steps h guarded
      (touched_is_hit setting.net h.domain (failed_now steps) (path setting.net plan plan.backup_root) h.all
      (implied (backup_root_moved setting steps) (path_hit setting steps plan.backup_root) caused has_moved))

  -- no device of the fallback but the root failed in the era
  pub fallback_devices_sound : (x : ℕ) → fallback_device_is_sound setting (chronicle setting history) x ≡ true
  fallback_devices_sound x =
      let steps = chronicle setting history in
      from_absurd (backup_root_moved setting steps && has (fallback_devices setting.net (plan_now setting steps)) x) (device_failed_now steps x)
      (λ both failed.
      let parts = and_parts (backup_root_moved setting steps) (has (fallback_devices setting.net (plan_now setting steps)) x) both in
      let within : x < length setting.net.devices =
      ltb-true x (length setting.net.devices) (known setting.net (failed_now steps) (thing.Device x) (failed_are_known setting history is) failed) in
      not_both (holds_device setting.net h.domain x && has (fallback_devices setting.net (plan_now setting steps)) x)
      (and_from (holds_device setting.net h.domain x) _ (held setting.net h.domain (failed_now steps) (thing.Device x) h.all failed) parts.1)
      ((off parts.0).device x within))

  -- and no link of it
  pub fallback_links_sound : (l : ℕ) → fallback_link_is_sound setting (chronicle setting history) l ≡ true
  fallback_links_sound l =
      let steps = chronicle setting history in
      from_absurd (backup_root_moved setting steps && has (fallback_links setting.net (plan_now setting steps)) l) (link_failed_now steps l)
      (λ both failed.
      let parts = and_parts (backup_root_moved setting steps) (has (fallback_links setting.net (plan_now setting steps)) l) both in
      let within : l < length setting.net.links =
      ltb-true l (length setting.net.links) (known setting.net (failed_now steps) (thing.Link l) (failed_are_known setting history is) failed) in
      not_both (holds_link setting.net h.domain l && has (fallback_links setting.net (plan_now setting steps)) l)
      (and_from (holds_link setting.net h.domain l) _ (held setting.net h.domain (failed_now steps) (thing.Link l) h.all failed) parts.1)
      ((off parts.0).link l within))
