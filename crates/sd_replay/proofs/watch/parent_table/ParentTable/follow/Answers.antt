-- A loop that was not there before leads through the device that follows another one.
use Rattle.std.proofs.Common.{List, Option, ℕ, subst, MatchOption}
use Rattle.sd_replay.specs.watch.Watch.{parent_in, HasNoLoop, IsFirstOnLoop}
use Rattle.sd_replay.proofs.watch.parent_table.Changing.{still_none}
use Rattle.sd_replay.proofs.watch.parent_table.ParentTable.follow.Goals as goal

pub invariant_of-self : goal.invariant_of-self
invariant_of-self c =
    record {
      looped = still_none c.self.inside.looped c.self.inside.parents.items c.deref.result.now c.args.d c.args.parent c.deref.ensures.value c.is_some.result
          c.loop_at.result c.is_some.ensures c.if-is_some.false c.loop_at.ensures c.if-loop_at.false c.self.invariant.looped;
      roots = c.self.invariant.roots;
      numbers = c.self.invariant.numbers;
    }

pub invariant_of-self-then-is_some : goal.invariant_of-self-then-is_some
invariant_of-self-then-is_some c =
    record {
      looped =
          subst (λ (parents : List (Option ℕ)). MatchOption c.first_loop-self-inside.result (HasNoLoop (parent_in parents))
          (λ d. IsFirstOnLoop (parent_in parents) d))
          c.deref-then-is_some.ensures.value c.first_loop-self-inside.ensures;
      roots = c.self.invariant.roots;
      numbers = c.self.invariant.numbers;
    }
