-- Where nobody follows or acts, there is no loop and no root.
use Rattle.std.proofs.Common.{List, Option, ℕ, Bool, length, arith, subst, sym, ap, ◌∙◌}
use Rattle.std.proofs.lemmas.List.{length-replicate}
use Rattle.sd_replay.specs.watch.Watch.{parent_in, HasNoLoop, acting_devices, two_least}
use Rattle.sd_replay.proofs.watch.parent_table.Changing.{none_follow, none_act}
use Rattle.sd_replay.proofs.watch.parent_table.ParentTable.new.Goals as goal

pub invariant_of-result : goal.invariant_of-result
invariant_of-result c =
    record {
      looped = subst (λ (parents : List (Option ℕ)). HasNoLoop (parent_in parents)) (sym c.in_ok-parents.ensures) (none_follow c.args.devices);
      roots = sym (ap (λ (acting : List Bool). two_least (acting_devices acting)) c.in_ok-acting.ensures ∙ none_act c.args.devices);
      numbers = (let count = ap length c.in_ok-acting.ensures ∙ length-replicate c.args.devices _ in omega (arith, count, c.ranges.devices.fits));
    }
