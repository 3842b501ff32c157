-- What a plan's table has: for those who ask it.
use Rattle.std.proofs.Common.{◌≡◌, ℕ, ◌<◌, Bool, true, false, length, Some, None, option_map, if◌then◌else◌, refl, ap, ◌∙◌}
use Rattle.sd_num.specs.Lists.{map_or}
use Rattle.sd_plan.specs.topo.Network.{Network}
use Rattle.sd_plan.specs.Plans.{is_member}
use Rattle.sd_plan.specs.Duties.{duty_of, ends_of}
use Rattle.sd_plan.specs.Tables.{TableRow, table_of, table_row, row_at, has_row_at}
use Rattle.sd_plan.specs.declared.Plan.{Plan}
use Rattle.sd_plan.proofs.Numbered.{length-numbered, at-numbered}

-- a place for each device
pub length-table : (net : Network) (plan : Plan) (epoch : ℕ) → length (table_of net plan epoch) ≡ length net.devices
length-table net plan epoch = length-numbered (table_row net plan epoch) (length net.devices)

-- the row of a device
pub row_at-table : (net : Network) (plan : Plan) (epoch d : ℕ) → d < length net.devices → row_at (table_of net plan epoch) d ≡ table_row net plan epoch d
row_at-table net plan epoch d within = at-numbered (table_row net plan epoch) (length net.devices) d None (λ row. row) within

-- just the members have rows
pub has_row_at-table : (net : Network) (plan : Plan) (epoch d : ℕ) → d < length net.devices → has_row_at (table_of net plan epoch) d ≡ is_member plan d
has_row_at-table net plan epoch d within = ap (λ o. map_or o false (λ row. true)) (row_at-table net plan epoch d within) ∙ by_test (is_member plan d)
  where
    by_test : (b : Bool)
        → map_or (option_map (λ duty. record { duty = duty; downstream = ends_of net plan d }) (if b then Some (duty_of net plan epoch d) else None)) false
        (λ (row : TableRow). true) ≡ b
    by_test true = refl
    by_test false = refl

-- a member's row
pub row_at-member : (net : Network) (plan : Plan) (epoch d : ℕ) → d < length net.devices → is_member plan d ≡ true
    → row_at (table_of net plan epoch) d ≡ Some (record { duty = duty_of net plan epoch d; downstream = ends_of net plan d })
row_at-member net plan epoch d within member =
    row_at-table net plan epoch d within
    ∙ ap (λ b. option_map (λ duty. record { duty = duty; downstream = ends_of net plan d }) (if b then Some (duty_of net plan epoch d) else None)) member
