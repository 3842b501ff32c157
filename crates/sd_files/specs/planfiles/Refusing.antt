-- What is written where nothing comes after the plans.
use Rattle.sd_files.specs.Answering.{Allowed}

-- what may be written where nothing comes after the plans: what ends a command before
abbrev pub Nothing : {X : Type 0} → X → Allowed
Nothing x bytes status = ⊥
