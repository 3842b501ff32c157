-- Which work a merger does.
use Rattle.std.specs.Prelude.{◌≡◌, true, List, length}
use Rattle.std.specs.List.{list_any}
use Rattle.sd_files.specs.work.Works.{Work}
use Rattle.sd_record.specs.merge.Follows.{Follows}
use Rattle.sd_record.specs.merge.Growing.{Said}
use Rattle.sd_record.specs.merge.Works.{merge_work}
use Rattle.sd_record.specs.declared.merge.merger.Merger.{Merger}

-- lines were taken that said this, the newest first
pub record DoesMerge (state : Merger) (work : Work Said) (taken : List Said) : Type 0 where
  pub is : work ≡ merge_work (length state.logs)
  pub follows : Follows state.logs taken
  pub begun : state.begun ≡ list_any (λ s. true) taken
