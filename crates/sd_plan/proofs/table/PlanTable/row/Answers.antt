use Rattle.std.proofs.Common.{◌≡◌, ◌<◌, length, true, false, is_some, ap, ◌∙◌, arith}
use Rattle.sd_plan.specs.Joining.{part_of}
use Rattle.sd_plan.specs.Tables.{has_row_at}
use Rattle.sd_plan.proofs.Whole.{seen_length, has_row-seen, row-seen, row_within}
use Rattle.sd_plan.proofs.table.PlanTable.row.Goals as goal

pub index-requires : goal.index-requires
index-requires c =
    omega (
      arith,
      row_within c.args.self.now c.args.d c.requires,
      seen_length c.args.self.now c.self.inside.duties.items c.self.inside.ends.items
          c.self.inside.offsets.items c.self.view_is,
      c.self.inside.duties.ok.0,
    )

pub part_of-requires-clause-within : goal.part_of-requires-clause-within
part_of-requires-clause-within c =
    omega (
      arith,
      row_within c.args.self.now c.args.d c.requires,
      seen_length c.args.self.now c.self.inside.duties.items c.self.inside.ends.items
          c.self.inside.offsets.items c.self.view_is,
      c.self.invariant.entries,
      ap length c.deref-in-Some.ensures.value,
    )

pub unreachable-requires : goal.unreachable-requires
unreachable-requires c =
    let within : c.args.d < length c.self.inside.duties.items =
    omega (
      arith,
      row_within c.args.self.now c.args.d c.requires,
      seen_length c.args.self.now c.self.inside.duties.items c.self.inside.ends.items
          c.self.inside.offsets.items c.self.view_is,
    )
    in
    let there : is_some c.index.result.now ≡ has_row_at c.args.self.now c.args.d =
    has_row-seen c.args.self.now c.self.inside.duties.items c.self.inside.ends.items c.self.inside.offsets.items c.args.d c.index.result.now c.self.view_is
    within c.index.ensures
    in
    let none : is_some c.index.result.now ≡ false = ap is_some c.in-None.is in
    let some : has_row_at c.args.self.now c.args.d ≡ true = c.requires in
    cc (there, none, some)

pub returns : goal.returns
returns c =
    let within : c.args.d < length c.self.inside.duties.items =
    omega (
      arith,
      row_within c.args.self.now c.args.d c.requires,
      seen_length c.args.self.now c.self.inside.duties.items c.self.inside.ends.items
          c.self.inside.offsets.items c.self.view_is,
    )
    in
    row-seen c.args.self.now c.self.inside.duties.items c.self.inside.ends.items c.part_of.result.now c.self.inside.offsets.items c.args.d c.index.result.now
    c.in-Some.duty c.self.view_is within c.index.ensures c.in-Some.is
    (c.part_of.ensures ∙ ap (λ ends. part_of ends c.deref-in-Some.result.now c.args.d) c.deref.ensures.value
    ∙ ap (λ offsets. part_of c.self.inside.ends.items offsets c.args.d) c.deref-in-Some.ensures.value)
