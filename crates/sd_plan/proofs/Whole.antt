-- The rows that the fields of a table stand for.
use Rattle.std.proofs.Common.{◌≡◌, ℕ, ◌<◌, true, false, List, [], length, map, get_or, Option, Some, None, option_map, is_some, refl, sym, ap, ◌∙◌, arith}
use Rattle.sd_num.specs.Lists.{below, map_or}
use Rattle.sd_plan.specs.topo.Network.{Network, device_numbers}
use Rattle.sd_plan.specs.Duties.{ends_of}
use Rattle.sd_plan.specs.Joining.{part_of, AreJoined}
use Rattle.sd_plan.specs.Tables.{TableRow, told_of, table_row, table_of, row_at, has_row_at}
use Rattle.sd_plan.specs.TableView.{row_seen}
use Rattle.sd_plan.specs.declared.Duty.{Duty}
use Rattle.sd_plan.specs.declared.End.{End}
use Rattle.sd_plan.specs.declared.Plan.{Plan}
use Rattle.std.proofs.lemmas.List.{get_or_read}
use Rattle.std.proofs.lemmas.Option.{slice_get_within}
use Rattle.std.specs.List.{slice_get}
use Rattle.sd_plan.proofs.Numbered.{numbered_is, get_or-numbered, length-numbered, at-numbered}

-- a duty and ends, if there is a duty
abbrev with_ends : List End → Option Duty → Option TableRow
with_ends ends told = option_map (λ duty. record { duty = duty; downstream = ends }) told

-- as many duties as rows
pub same_length : (net : Network) (plan : Plan) (epoch : ℕ) (duties : List (Option Duty)) (rows : List (List End))
    → duties ≡ map (told_of net plan epoch) (device_numbers net) → rows ≡ map (ends_of net plan) (device_numbers net) → length rows ≡ length duties
same_length net plan epoch duties rows told below =
    ap length below ∙ length-numbered (ends_of net plan) (length net.devices) ∙ sym (length-numbered (told_of net plan epoch) (length net.devices))
    ∙ sym (ap length told)

-- duties and joined rows are the table
pub table_is_joined : (net : Network) (plan : Plan) (epoch : ℕ) (duties : List (Option Duty)) (rows : List (List End)) (ends : List End) (offsets : List ℕ)
    → duties ≡ map (told_of net plan epoch) (device_numbers net) → rows ≡ map (ends_of net plan) (device_numbers net)
    → AreJoined rows (length rows) ends offsets
    → map (row_seen duties ends offsets) (below (length duties)) ≡ table_of net plan epoch
table_is_joined net plan epoch duties rows ends offsets told down joined =
    let count : length duties ≡ length net.devices = ap length told ∙ length-numbered (told_of net plan epoch) (length net.devices) in
    let sizes = same_length net plan epoch duties rows told down in
    numbered_is (table_row net plan epoch) (length net.devices) None (map (row_seen duties ends offsets) (below (length duties)))
    (length-numbered (row_seen duties ends offsets) (length duties) ∙ count) (λ d within.
    let part : part_of ends offsets d ≡ ends_of net plan d =
    joined.each d (omega arith) ∙ ap (λ xs. get_or xs d []) down ∙ get_or-numbered (ends_of net plan) (length net.devices) d [] within
    in
    let duty : get_or duties d None ≡ told_of net plan epoch d =
    ap (λ xs. get_or xs d None) told ∙ get_or-numbered (told_of net plan epoch) (length net.devices) d None within in
    get_or-numbered (row_seen duties ends offsets) (length duties) d None (omega arith)
    ∙ ap (λ below. with_ends below (get_or duties d None)) part ∙ ap (with_ends (ends_of net plan d)) duty)

-- the row that is seen at a device
pub seen_at : (table : List (Option TableRow)) (duties : List (Option Duty)) (ends : List End) (offsets : List ℕ) (d : ℕ)
    → map (row_seen duties ends offsets) (below (length duties)) ≡ table → d < length duties → row_at table d ≡ row_seen duties ends offsets d
seen_at table duties ends offsets d view within =
    ap (λ t. row_at t d) (sym view) ∙ at-numbered (row_seen duties ends offsets) (length duties) d None (λ row. row) within

-- as many rows as duties
pub seen_length : (table : List (Option TableRow)) (duties : List (Option Duty)) (ends : List End) (offsets : List ℕ)
    → map (row_seen duties ends offsets) (below (length duties)) ≡ table → length table ≡ length duties
seen_length table duties ends offsets view = ap length (sym view) ∙ length-numbered (row_seen duties ends offsets) (length duties)

-- a row stands at a device that there is
pub row_within : (table : List (Option TableRow)) (d : ℕ) → has_row_at table d ≡ true → d < length table
row_within table d there = by_place (slice_get table d) refl there
  where
    by_place : (o : Option (Option TableRow)) → slice_get table d ≡ o → map_or (map_or o None (λ row. row)) false (λ row. true) ≡ true → d < length table
    by_place None at there = cc
    by_place (Some row) at there = slice_get_within table d row at

-- there is a row where there is a duty
pub has_row-seen : (table : List (Option TableRow)) (duties : List (Option Duty)) (ends : List End) (offsets : List ℕ) (d : ℕ) (told : Option Duty)
    → map (row_seen duties ends offsets) (below (length duties)) ≡ table → d < length duties → told ≡ get_or duties d told → is_some told ≡ has_row_at table d
has_row-seen table duties ends offsets d told view within is =
    ap is_some (get_or_read duties d told within is None) ∙ by_duty (get_or duties d None)
    ∙ sym (ap (λ o. map_or o false (λ row. true)) (seen_at table duties ends offsets d view within))
  where
    by_duty : (o : Option Duty) → is_some o ≡ map_or (with_ends (part_of ends offsets d) o) false (λ row. true)
    by_duty None = refl
    by_duty (Some duty) = refl

-- it has this duty and these ends
pub row-seen : (table : List (Option TableRow)) (duties : List (Option Duty)) (ends down : List End) (offsets : List ℕ) (d : ℕ) (told : Option Duty)
    (duty : Duty)
    → map (row_seen duties ends offsets) (below (length duties)) ≡ table → d < length duties → told ≡ get_or duties d told → told ≡ Some duty
    → down ≡ part_of ends offsets d
    → row_at table d ≡ Some (record { duty = duty; downstream = down })
row-seen table duties ends down offsets d told duty view within is some below =
    seen_at table duties ends offsets d view within
    ∙ ap (with_ends (part_of ends offsets d)) (sym (get_or_read duties d told within is None) ∙ some)
    ∙ ap (λ ends. with_ends ends (Some duty)) (sym below)
