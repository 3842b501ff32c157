-- Nothing was seen, and no device counts.
use Rattle.std.proofs.Common.{length, sym, ap, ◌∙◌}
use Rattle.sd_plan.specs.topo.Network.{Network}
use Rattle.sd_replay.proofs.ParentTable.{first_parent_table}
use Rattle.sd_replay.proofs.monitors.Monitors.new.Goals as goal

pub returns : goal.returns
returns c =
    record {
      stands = λ setting net plans.
          record {
            premises = c.in_ok-premises.ensures.stands setting net plans;
            parent_table =
                first_parent_table c.in_ok-parent_table.parent_table setting c.devices.result c.in_ok-parent_table.ensures.parents
                c.in_ok-parent_table.ensures.acting (c.devices.ensures ∙ sym (ap (λ (n : Network). length n.devices) net));
          };
    }
