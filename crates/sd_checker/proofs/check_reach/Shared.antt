-- Lemmas that several crates above share.
use Rattle.std.specs.Prelude.{ℕ, Bool, ◌≡◌, zero, suc, true, false, ◌||◌, List, [], ◌∷◌, Option, Some, None, refl}
use Rattle.std.proofs.lemmas.Bool.{or_left, or_right}
use Rattle.sd_plan.specs.topo.Network.{Network}
use Rattle.sd_plan.specs.topo.Joined.{Joined, here, over}
use Rattle.sd_plan.specs.declared.Hop.{Hop}
use Rattle.sd_plan.specs.declared.Plan.{Plan}
use Rattle.sd_plan.specs.Plans.{is_root, is_backup_root, primary_of}
use Rattle.sd_plan.specs.Walks.{hops, end_of, ends_walks}

-- two ways make one
pub joined_on : {net : Network} {may_pass may_cross : ℕ → Bool} {d e x : ℕ} → Joined net may_pass may_cross d e → Joined net may_pass may_cross e x
    → Joined net may_pass may_cross d x
joined_on here rest = rest
joined_on (over l in_range crosses joined passes more) rest = over l in_range crosses joined passes (joined_on more rest)

-- a walk cut at root and backup root ends there, where the whole one ends at the root
pub end_ends : (plan : Plan) (n y : ℕ) → is_root plan (end_of y (hops (is_root plan) plan n y)) ≡ true
    → ends_walks plan (end_of y (hops (ends_walks plan) plan n y)) ≡ true
end_ends plan zero y ends = or_left (is_root plan y) (is_backup_root plan y) ends
end_ends plan (suc n) y ends = by (primary_of plan y) ends (end_ends plan n)
  where
    on : (hop : Hop) (r b : Bool) → is_root plan hop.parent ≡ r → is_backup_root plan hop.parent ≡ b
        → is_root plan (end_of hop.parent (elim r as (λ (k : Bool). List Hop) [ true ↦ [] | false ↦ hops (is_root plan) plan n hop.parent ])) ≡ true
        → (is_root plan (end_of hop.parent (hops (is_root plan) plan n hop.parent)) ≡ true
        → ends_walks plan (end_of hop.parent (hops (ends_walks plan) plan n hop.parent)) ≡ true)
        → ends_walks plan (end_of hop.parent (elim (r || b) as (λ (k : Bool). List Hop) [ true ↦ [] | false ↦ hops (ends_walks plan) plan n hop.parent ]))
        ≡ true
    on hop true b root backup ends' rest = or_left (is_root plan hop.parent) (is_backup_root plan hop.parent) root
    on hop false true root backup ends' rest = or_right (is_root plan hop.parent) (is_backup_root plan hop.parent) backup
    on hop false false root backup ends' rest = rest ends'

    by : (o : Option Hop)
        → is_root plan
        (end_of y (elim o as
        (λ (k : Option Hop). List Hop)
        [ None ↦ [] | Some hop ↦ hop ∷ (elim (is_root plan hop.parent) [ true ↦ [] | false ↦ hops (is_root plan) plan n hop.parent ]) ])) ≡ true
        → ((z : ℕ) → is_root plan (end_of z (hops (is_root plan) plan n z)) ≡ true → ends_walks plan (end_of z (hops (ends_walks plan) plan n z)) ≡ true)
        → ends_walks plan
        (end_of y (elim o as
        (λ (k : Option Hop). List Hop)
        [ None ↦ [] | Some hop ↦ hop ∷ (elim (ends_walks plan hop.parent) [ true ↦ [] | false ↦ hops (ends_walks plan) plan n hop.parent ]) ])) ≡ true
    by None ends' rest = or_left (is_root plan y) (is_backup_root plan y) ends'
    by (Some hop) ends' rest = on hop (is_root plan hop.parent) (is_backup_root plan hop.parent) refl refl ends' (rest hop.parent)
