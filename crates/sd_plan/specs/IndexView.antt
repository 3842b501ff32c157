-- What the fields of an index stand for.
use Rattle.std.specs.Prelude.{ℕ, ◌<◌, length, map, Option, Some, None}
use Rattle.sd_num.specs.Lists.{below}
use Rattle.sd_plan.specs.topo.Network.{Each}
use Rattle.sd_plan.specs.IndexedPlan.{IndexedPlan}
use Rattle.sd_plan.specs.Joining.{part_of, AreOrdered}
use Rattle.sd_plan.specs.declared.index.WalkIndex.TheInside.{Inside}

-- the index that the fields stand for
abbrev pub index_seen : Inside → IndexedPlan
index_seen w =
    record {
      order = w.order.items;
      spans = w.spans.items;
      carried = w.carried.items;
      usable = map (part_of w.ends.items w.offsets.items) (below (length w.spans.items));
      backup_root = w.backup_root;
    }

-- the number, if there is one, is less than the bound
abbrev pub IsSomeBelow : ℕ → Option ℕ → Type 0
IsSomeBelow bound None = Unit {0}
IsSomeBelow bound (Some c) = c < bound

-- each device has its part of the ends, and the backup root is a device, as are those that links carry
pub record IsIndex (w : Inside) : Type 0 where
  pub ordered : AreOrdered (length w.spans.items) w.ends.items w.offsets.items
  pub cut : w.backup_root < length w.spans.items
  pub children : Each (IsSomeBelow (length w.spans.items)) w.carried.items
