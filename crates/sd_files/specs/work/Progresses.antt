-- What a work on its way holds.
use Rattle.std.specs.Prelude.{◌≡◌, List, length}
use Rattle.sd_files.specs.work.Works.{Work}
use Rattle.sd_files.specs.declared.work.LineWork.{Ghosts}
use Rattle.sd_files.specs.declared.work.progress.Progress.{Progress}

-- it does this work, has taken lines that gave these, and has counted them
abbrev pub HasAccepted : {W I : Type 0} (g : Ghosts W I) → Progress W → Work I → List I → Type 0
HasAccepted g progress work xs = g.does progress.work work xs × (progress.taken ≡ length xs)
