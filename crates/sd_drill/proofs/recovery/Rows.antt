-- The two hops that a device may be on are those of the definition, and lead to devices over links that end at it.
use Rattle.std.specs.Prelude.{◌≡◌, ℕ, ◌<◌, Bool, true, false, ◌&&◌, not, [], ◌++◌, length, option_to_list, Option, Some, None, option_map, IfSome, if◌then◌else◌}
use Rattle.std.proofs.Common.{refl, ◌∙◌}
use Rattle.std.proofs.lemmas.Bool.{or_parts, cond-true, cond-false}
use Rattle.sd_num.specs.Lists.{map_or}
use Rattle.sd_plan.specs.topo.Network.{Network}
use Rattle.sd_plan.specs.declared.domain.DomainId.{DomainId}
use Rattle.sd_plan.specs.declared.Hop.{Hop}
use Rattle.sd_plan.specs.declared.PlanRow.{PlanRow}
use Rattle.sd_plan.specs.declared.Plan.{Plan}
use Rattle.sd_plan.specs.Plans.{Fits, IsHop, is_member, is_root, has_row, row_of, primary_of, backup_of}
use Rattle.sd_plan.specs.Tables.{EndsAt}
use Rattle.sd_plan.specs.Walks.{ends_walks, is_hit}
use Rattle.sd_plan.proofs.Rules.{KeepsRules, member_is, hops_within, both_end}
use Rattle.sd_checker.specs.check_loop.Loops.{hops_of}
use Rattle.sd_drill.specs.recovery.Hops.{listed, no_hops, hops_at, backup_under, IsRightHop, BothAre}

-- without a row there is none
none_listed : (hit : Bool) (primary backup : Option Hop) → primary ≡ None → backup ≡ None
    → option_to_list primary ++ option_to_list (if hit then backup else None) ≡ []
none_listed true None None none none' = refl
none_listed false None None none none' = refl
none_listed hit (Some p) backup none none' = cc
none_listed hit None (Some b) none none' = cc

-- by what is known of a device
listed_by : (member ends hit : Bool) (primary backup : Option Hop) → (member ≡ false → (primary ≡ None) × (backup ≡ None))
    → listed (if ends then no_hops else record { primary = primary; backup = if hit then backup else None })
    ≡ (if member && not ends then option_to_list primary ++ (if hit then option_to_list backup else []) else [])
listed_by true true hit primary backup none = refl
listed_by true false true primary backup none = refl
listed_by true false false primary backup none = refl
listed_by false true hit primary backup none = refl
listed_by false false hit primary backup none = none_listed hit primary backup (none refl).0 (none refl).1

-- without a row there is no hop
rowless : (plan : Plan) (d : ℕ) → has_row plan d ≡ false → (primary_of plan d ≡ None) × (backup_of plan d ≡ None)
rowless plan d none = by (row_of plan d) none
  where
    by : (row : Option PlanRow) → map_or row false (λ r. true) ≡ false → (option_map (λ r. r.primary) row ≡ None) × (map_or row None (λ r. r.backup) ≡ None)
    by None off = (refl, refl)
    by (Some row) off = cc

pub listed_is : (net : Network) (plan : Plan) (f : DomainId) (d : ℕ) → KeepsRules net plan → d < length net.devices
    → listed (hops_at net plan f d) ≡ hops_of net plan f d
unfolding hops_at
listed_is net plan f d rules within =
    listed_by (is_member plan d) (ends_walks plan d) (is_hit net plan f d) (primary_of plan d) (backup_of plan d)
    (λ left_out. rowless plan d (or_parts (is_root plan d) (has_row plan d) (member_is net plan d rules within ∙ left_out)).1)

right_one : (net : Network) (d : ℕ) (o : Option Hop) → IfSome o (IsHop net) → IfSome o (EndsAt net d) → IfSome o (IsRightHop net d)
right_one net d None is ends = tt
right_one net d (Some hop) is ends = (is.0, ends)

right_by : (net : Network) (d : ℕ) (ends hit : Bool) (primary backup : Option Hop) → IfSome primary (IsRightHop net d) → IfSome backup (IsRightHop net d)
    → BothAre (IsRightHop net d) (if ends then no_hops else record { primary = primary; backup = if hit then backup else None })
right_by net d true hit primary backup one two = (tt, tt)
right_by net d false true primary backup one two = (one, two)
right_by net d false false primary backup one two = (one, tt)

pub right_hops : (net : Network) (plan : Plan) (f : DomainId) (d : ℕ) → Fits net plan → KeepsRules net plan → d < length net.devices
    → BothAre (IsRightHop net d) (hops_at net plan f d)
unfolding hops_at
right_hops net plan f d fits rules within =
    let known = hops_within net plan d fits in
    let over = both_end net plan d fits rules within in
    right_by net d (ends_walks plan d) (is_hit net plan f d) (primary_of plan d) (backup_of plan d)
    (right_one net d (primary_of plan d) known.0 over.0) (right_one net d (backup_of plan d) known.1 over.1)

-- the hops, where walks end and where they do not
pub hops_closed : (net : Network) (plan : Plan) (f : DomainId) (d : ℕ) → ends_walks plan d ≡ true → hops_at net plan f d ≡ no_hops
unfolding hops_at
hops_closed net plan f d ends = cond-true (ends_walks plan d) no_hops (record { primary = primary_of plan d; backup = backup_under net plan f d }) ends

pub hops_open : (net : Network) (plan : Plan) (f : DomainId) (d : ℕ) → ends_walks plan d ≡ false
    → hops_at net plan f d ≡ record { primary = primary_of plan d; backup = backup_under net plan f d }
unfolding hops_at
hops_open net plan f d other = cond-false (ends_walks plan d) no_hops (record { primary = primary_of plan d; backup = backup_under net plan f d }) other
