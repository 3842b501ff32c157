use Rattle.std.proofs.Common.{subst}
use Rattle.std.specs.Prelude.{MatchOption}
use Rattle.sd_replay.specs.watch.Watch.{parent_in, HasNoLoop, IsFirstOnLoop}
use Rattle.sd_replay.specs.watch.parent_table.ParentTable.{Kept}
use Rattle.sd_replay.proofs.watch.parent_table.ParentTable.first_loop.Goals as goal

pub returns : goal.returns
returns c = subst (λ (kept : Kept). MatchOption c.self.inside.looped (HasNoLoop (parent_in kept.parents)) (λ d. IsFirstOnLoop (parent_in kept.parents) d))
    c.self.view_is c.self.invariant.looped
