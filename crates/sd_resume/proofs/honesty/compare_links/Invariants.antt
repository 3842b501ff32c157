use Rattle.sd_resume.specs.Honesty.{AreHonestLinks}
use Rattle.sd_resume.proofs.honesty.compare_links.Given as goal

-- of the links before the same failed
abbrev pub invariant-loop-l : goal.invariant-loop-l
invariant-loop-l l = AreHonestLinks l.first l.second l.l
