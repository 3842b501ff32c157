-- What holds of what `replay` and `order` write, whatever a run does.
use Rattle.std.specs.Prelude.{◌≡◌, ◌⊎◌, List, [], ◌∷◌, ℕ, None, IsTrue}
use Rattle.std.specs.List.{list_all}
use Rattle.sd_num.specs.clock.Estimates.{contains}
use Rattle.sd_sched.specs.declared.Event.{Event}
use Rattle.sd_history.specs.World.{Setting}
use Rattle.sd_history.specs.Steps.{seen_of}
use Rattle.sd_history.specs.Chronicle.{chronicle}
use Rattle.sd_history.specs.Premises.{is_honest}
use Rattle.sd_history.specs.Lines.{reports}
use Rattle.sd_files.specs.Answering.{Allowed}
use Rattle.sd_files.specs.declared.Status.{Status}
use Rattle.sd_files.specs.declared.Status.TheVariants.{Done, Broken}
use Rattle.sd_files.specs.work.Works.{reading}
use Rattle.sd_commands.specs.replay.Replays.{replay_work}
use Rattle.sd_commands.specs.replay.Loaded.{AreLoaded}

-- files of which none is refused: the topology and the plans are read, each plan is accepted, and so is each line of the schedule
pub record AreRightFiles (topology : List ℕ) (plans : List (List ℕ)) (schedule : List ℕ) : Type 0 where
  pub setting : Setting
  pub loaded : AreLoaded topology plans setting
  pub unrefused : (reading (replay_work setting) schedule).refused ≡ None

-- they are answered with Done, or with Broken where there was some trouble
abbrev pub Completes : ((topology : List ℕ) (plans : List (List ℕ)) (schedule : List ℕ) → Allowed) → Type 0
Completes Writes =
    (topology : List ℕ) (plans : List (List ℕ)) (schedule : List ℕ) → AreRightFiles topology plans schedule → (bytes : List ℕ) (status : Status)
    → Writes topology plans schedule bytes status
    → (status ≡ Done) ⊎ (status ≡ Broken)

-- while clocks, oscillators and links are honest up to an event, each report until then has its reference time inside
abbrev pub ReportsTruly : Setting → List Event → Type 0
ReportsTruly setting [] = Unit {0}
ReportsTruly setting (e ∷ earlier) =
    ReportsTruly setting earlier
    × (IsTrue (is_honest setting (seen_of (chronicle setting (e ∷ earlier))))
    → IsTrue (list_all (λ r. contains r.report r.reference) (reports (chronicle setting (e ∷ earlier)))))
