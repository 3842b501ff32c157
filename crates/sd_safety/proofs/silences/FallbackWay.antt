-- The way of the fallback: in a phase in which the root lives, from the root over the walk of the backup root's backup parent to the backup root, it is
-- sound, where that has been on its backup later than s0.
use Rattle.std.specs.Prelude.{◌≡◌, ℕ, ◌<◌, Bool, true, false, ◌&&◌, ◌||◌, not, List, [], ◌∷◌, length, filter, find, map, nat_eq, Option, Some, None, option_map, refl, if◌then◌else◌}
use Rattle.std.specs.Option.{option_or}
use Rattle.std.proofs.Common.{sym, ◌∙◌, ap, subst}
use Rattle.std.proofs.lemmas.Bool.{and_parts, or_from, or_left, or_right, eqb-true, eq-eqb, not-false}
use Rattle.sd_num.specs.Lists.{map_or, has}
use Rattle.sd_plan.specs.topo.Network.{Network, device_numbers, joins}
use Rattle.sd_plan.specs.declared.topo.Thing.{Thing}
use Rattle.sd_plan.specs.declared.topo.Thing.TheVariants as thing
use Rattle.sd_plan.specs.declared.Hop.{Hop}
use Rattle.sd_plan.specs.declared.Plan.{Plan}
use Rattle.sd_plan.specs.declared.Duty.{Duty}
use Rattle.sd_plan.specs.Plans.{is_member, is_present, is_root, is_backup_root, backup_of, has_backup}
use Rattle.sd_plan.specs.Duties.{duty_of, edge_of}
use Rattle.sd_plan.specs.Walks.{walk, things_of, devices_of, links_of}
use Rattle.sd_plan.specs.Structure.{structure_breach, roots_breach, first_failing, row_is_right, hops_are_right, hop_is_right, links_differ, reaches_root, falls_back}
use Rattle.sd_plan.proofs.Numbered.{both_none, none_found}
use Rattle.sd_checker.specs.check_root.Roots.{fallback_devices, fallback_links}
use Rattle.sd_plan.proofs.Rules.{none_mapped}
use Rattle.sd_safety.specs.invariant.Eras.{is_among, touches}
use Rattle.sd_device.specs.Calls.{Past}
use Rattle.sd_device.specs.Words.{duty_now, has_moved, is_acting, backup_now, primary_now}
use Rattle.sd_safety.specs.messages.Rounds.{IsReady, follows_parent}
use Rattle.sd_safety.proofs.invariant.Sides.{implied, not_both}

-- the backup root has a backup

pub falls : (net : Network) (plan : Plan) → structure_breach net plan ≡ None → plan.backup_root < length net.devices → has_backup plan plan.backup_root ≡ true
falls net plan structured within =
    let one =
    both_none (option_map (λ d. (1, d)) (roots_breach plan))
    (option_or (first_failing net 2 (row_is_right plan))
    (option_or (first_failing net 3 (hops_are_right net plan))
    (option_or (first_failing net 4 (links_differ plan)) (option_or (first_failing net 5 (reaches_root net plan)) (first_failing net 6 (falls_back plan))))))
    structured in
    let two =
    both_none (first_failing net 2 (row_is_right plan))
    (option_or (first_failing net 3 (hops_are_right net plan))
    (option_or (first_failing net 4 (links_differ plan)) (option_or (first_failing net 5 (reaches_root net plan)) (first_failing net 6 (falls_back plan)))))
    one.1 in
    let three =
    both_none (first_failing net 3 (hops_are_right net plan))
    (option_or (first_failing net 4 (links_differ plan)) (option_or (first_failing net 5 (reaches_root net plan)) (first_failing net 6 (falls_back plan))))
    two.1 in
    let four = both_none (first_failing net 4 (links_differ plan))
    (option_or (first_failing net 5 (reaches_root net plan)) (first_failing net 6 (falls_back plan))) three.1 in
    let five = both_none (first_failing net 5 (reaches_root net plan)) (first_failing net 6 (falls_back plan)) four.1 in
    let six : falls_back plan plan.backup_root ≡ true =
    not-false (falls_back plan plan.backup_root)
    (none_found (λ x. not (falls_back plan x)) (length net.devices) plan.backup_root
    (none_mapped (λ x. (6, x)) (find (λ x. not (falls_back plan x)) (device_numbers net)) five.1) within) in
    implied (is_backup_root plan plan.backup_root) (has_backup plan plan.backup_root) six (eq-eqb plan.backup_root plan.backup_root refl)

pub the_hop : (o : Option Hop) → map_or o false (λ hop. true) ≡ true → (hop : Hop) × (o ≡ Some hop)
the_hop None h = cc
the_hop (Some hop) h = (hop, refl)

-- Nothing of the fallback failed, where none of its devices other than the root did, nor the root, nor any of its links.
module _ (failed : List Thing) where
  pub things_fine : (hs : List Hop) → ((d : ℕ) → has (map (λ (hop : Hop). hop.parent) hs) d ≡ true → is_among failed (thing.Device d) ≡ false)
      → ((l : ℕ) → has (links_of hs) l ≡ true → is_among failed (thing.Link l) ≡ false)
      → touches failed (things_of hs) ≡ false
  things_fine [] devices links = refl
  things_fine (hop ∷ hs) devices links =
      or_from (is_among failed (thing.Link hop.link)) (is_among failed (thing.Device hop.parent) || touches failed (things_of hs))
      (links hop.link (or_left (nat_eq hop.link hop.link) (has (links_of hs) hop.link) (eq-eqb hop.link hop.link refl)))
      (or_from (is_among failed (thing.Device hop.parent)) (touches failed (things_of hs))
      (devices hop.parent (or_left (nat_eq hop.parent hop.parent) (has (map (λ (z : Hop). z.parent) hs) hop.parent) (eq-eqb hop.parent hop.parent refl)))
      (things_fine hs (λ d is. devices d (or_right (nat_eq d hop.parent) (has (map (λ (z : Hop). z.parent) hs) d) is))
      (λ l is. links l (or_right (nat_eq l hop.link) (has (links_of hs) l) is))))

pub has_filtered : (p : ℕ → Bool) (xs : List ℕ) (d : ℕ) → has xs d ≡ true → p d ≡ true → has (filter p xs) d ≡ true
has_filtered p [] d is holds = is
has_filtered p (y ∷ ys) d is holds = go (nat_eq d y) refl (p y) refl is (has_filtered p ys d)
  where
    go : (b : Bool) → nat_eq d y ≡ b → (c : Bool) → p y ≡ c → (b || has ys d) ≡ true → (has ys d ≡ true → p d ≡ true → has (filter p ys) d ≡ true)
        → has (if c then y ∷ filter p ys else filter p ys) d ≡ true
    go true same true py is' rest = or_left (nat_eq d y) (has (filter p ys) d) same
    go true same false py is' rest = absurd (not_both (p y) (subst (λ z. p z ≡ true) (eqb-true d y same) holds) py)
    go false same true py is' rest = or_right (nat_eq d y) (has (filter p ys) d) (rest is' holds)
    go false same false py is' rest = rest is' holds

-- a device of the fallback is the root or among its devices
pub on_fallback : (net : Network) (plan : Plan) (hop : Hop) (d : ℕ) → backup_of plan plan.backup_root ≡ Some hop
    → has (devices_of hop.parent (walk net plan hop.parent)) d ≡ true → is_root plan d ≡ false → has (fallback_devices net plan) d ≡ true
on_fallback net plan hop d is on other =
    subst (λ o. has (map_or o [] (λ (z : Hop). filter (λ x. not (is_root plan x)) (devices_of z.parent (walk net plan z.parent)))) d ≡ true) (sym is)
    (has_filtered (λ x. not (is_root plan x)) (devices_of hop.parent (walk net plan hop.parent)) d on (ap not other))

pub link_of_fallback : (net : Network) (plan : Plan) (hop : Hop) (l : ℕ) → backup_of plan plan.backup_root ≡ Some hop
    → has (hop.link ∷ links_of (walk net plan hop.parent)) l ≡ true → has (fallback_links net plan) l ≡ true
link_of_fallback net plan hop l is on = subst (λ o. has (map_or o [] (λ (z : Hop). z.link ∷ links_of (walk net plan z.parent))) l ≡ true) (sym is) on

pub ready_back : (net : Network) (plan : Plan) (epoch y : ℕ) (hop : Hop) (past : Past) → duty_now past ≡ Some (duty_of net plan epoch y) → has_moved past ≡ true
    → is_acting past ≡ false → backup_of plan y ≡ Some hop → IsReady past epoch hop.link
ready_back net plan epoch y hop past duty put still backup =
    follows_parent (edge_of net y hop) (ap (λ (o : Option Duty). map_or o 0 (λ u. u.epoch)) duty)
    (ap (λ b. if b then None else if has_moved past then backup_now past else primary_now past) still
    ∙ ap (λ b. if b then backup_now past else primary_now past) put
    ∙ ap (λ (o : Option Duty). map_or o None (λ u. u.backup)) duty
    ∙ ap (option_map (edge_of net y)) backup) refl

-- the hop over which it falls back
pub fallback_hop : (net : Network) (plan : Plan) (y : ℕ) (hop : Hop) → hops_are_right net plan y ≡ true → backup_of plan y ≡ Some hop
    → (is_member plan hop.parent ≡ true) × (is_present plan hop.link ≡ true)
fallback_hop net plan y hop rules is =
    let right = (and_parts (hop_is_right net plan y _) (hop_is_right net plan y (backup_of plan y)) rules).1 in
    let one : (is_member plan hop.parent && is_present plan hop.link && joins net hop.link y hop.parent) ≡ true =
    subst (λ o. hop_is_right net plan y o ≡ true) is right in
    and_parts (is_member plan hop.parent) (is_present plan hop.link)
    (and_parts (is_member plan hop.parent && is_present plan hop.link) (joins net hop.link y hop.parent) one).0
