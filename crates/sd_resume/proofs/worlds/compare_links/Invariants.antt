use Rattle.sd_resume.specs.Fleets.{world_of}
use Rattle.sd_resume.specs.Worlds.{LinksAgree}
use Rattle.sd_resume.proofs.worlds.compare_links.Given as goal

-- of the links before both know the same
abbrev pub invariant-loop-l : goal.invariant-loop-l
invariant-loop-l l = LinksAgree (world_of l.first) (world_of l.second) l.l
