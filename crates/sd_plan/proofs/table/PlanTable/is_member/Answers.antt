use Rattle.std.proofs.Common.{◌<◌, length, ◌∙◌, arith}
use Rattle.sd_plan.proofs.Whole.{seen_length, has_row-seen}
use Rattle.sd_plan.proofs.table.PlanTable.is_member.Goals as goal

pub index-requires : goal.index-requires
index-requires c =
    omega (
      arith,
      c.requires,
      seen_length c.args.self.now c.self.inside.duties.items c.self.inside.ends.items c.self.inside.offsets.items
          c.self.view_is,
      c.self.inside.duties.ok.0,
    )

pub returns : goal.returns
returns c =
    let within : c.args.d < length c.self.inside.duties.items =
    omega (arith, c.requires, seen_length c.args.self.now c.self.inside.duties.items c.self.inside.ends.items c.self.inside.offsets.items c.self.view_is)
    in
    c.is_some.ensures
    ∙ has_row-seen c.args.self.now c.self.inside.duties.items c.self.inside.ends.items c.self.inside.offsets.items c.args.d c.index.result.now c.self.view_is
    within c.index.ensures
