-- One device more is kept as it stands.
use Rattle.std.proofs.Common.{◌∙◌, arith}
use Rattle.sd_history.specs.Nodes.{steps_of}
use Rattle.sd_replay.specs.Standing.{parent_row_in}
use Rattle.sd_replay.proofs.ParentTable.{set_each}
use Rattle.sd_replay.proofs.observe.keep_all.Goals as goal

pub loop-d-preserved : goal.loop-d-preserved
loop-d-preserved g c =
    record {
      parents = c.keep_parent_row.ensures.parents ∙ c.loop-d.invariant.parents;
      acting = c.keep_parent_row.ensures.acting ∙ c.loop-d.invariant.acting;
      each = λ setting run stands e less.
          set_each c.loop-d.parent_table c.keep_parent_row.new.parent_table c.loop-d.d (parent_row_in setting (steps_of run))
          (c.keep_parent_row.ensures.parent_row setting run stands)
          (omega (arith, c.loop-d-test.true, c.loop-d.auto.d-end, c.devices-d-end.ensures, c.loop-d.invariant.parents, c.requires.parents))
          (omega (arith, c.loop-d-test.true, c.loop-d.auto.d-end, c.devices-d-end.ensures, c.loop-d.invariant.acting, c.requires.acting))
          (λ x before. c.loop-d.invariant.each setting run stands x before) e less;
    }
