-- The flags of members and of links.
use Rattle.std.proofs.Common.{◌≡◌, ℕ, ◌<◌, Bool, false, ◌&&◌, not, List, length, map, get_or, refl, ap, ◌∙◌}
use Rattle.sd_num.specs.Lists.{has}
use Rattle.sd_plan.specs.topo.Network.{Network, device_numbers, link_numbers, link_of}
use Rattle.sd_plan.specs.topo.Limits.{IsNetwork}
use Rattle.sd_plan.proofs.topo.Laws.{link_law}
use Rattle.sd_plan.specs.declared.Absent.{Absent}
use Rattle.sd_plan.proofs.Numbered.{get_or-numbered}
use Rattle.sd_planner.specs.Usable.{is_usable, takes_part}

-- the flag of a member
pub member_flag : (net : Network) (absent : Absent) (d : ℕ) (members : List Bool) → members ≡ map (takes_part net absent) (device_numbers net)
    → d < length net.devices → get_or members d false ≡ takes_part net absent d
member_flag net absent d members are within = ap (λ xs. get_or xs d false) are ∙ get_or-numbered (takes_part net absent) (length net.devices) d false within

-- the flags of a link and its ends tell whether it may be used
pub flags_usable : (net : Network) (absent : Absent) (l : ℕ) (members links : List Bool) (absent_links : List ℕ) → IsNetwork net → l < length net.links
    → members ≡ map (takes_part net absent) (device_numbers net) → absent_links ≡ absent.links → links ≡ map (λ x. not (has absent_links x)) (link_numbers net)
    → (get_or links l false && get_or members (link_of net l).end_a false && get_or members (link_of net l).end_b false) ≡ is_usable net absent l
flags_usable net absent l members links absent_links law within are_members same are_links =
    let link = link_law net l law within in
    let flag : get_or links l false ≡ not (has absent.links l) =
    ap (λ xs. get_or xs l false) are_links ∙ get_or-numbered (λ x. not (has absent_links x)) (length net.links) l false within
    ∙ ap (λ xs. not (has xs l)) same in
    rw (
      flag,
      member_flag net absent (link_of net l).end_a members are_members link.first,
      member_flag net absent
          (link_of net l).end_b members are_members link.second,
    ) refl
