-- What `case` writes and answers for a number and the sizes of a network.
use Rattle.std.specs.Prelude.{◌≡◌, ℕ, List, [], ◌∷◌, codes, decimal, if◌then◌else◌}
use Rattle.sd_num.specs.Texts.{text_of}
use Rattle.sd_plan.specs.topo.Network.{Network}
use Rattle.sd_plan.specs.Plans.{Fits, nothing_absent}
use Rattle.sd_plan.specs.declared.Absent.{Absent}
use Rattle.sd_plan.specs.declared.Plan.{Plan}
use Rattle.sd_planner.specs.Greedy.{IsGreedy}
use Rattle.sd_history.specs.World.{Setting, setting_over}
use Rattle.sd_history.specs.Chronicle.{chronicle}
use Rattle.sd_gen.specs.fabric.Fabrics.{fabric, second_absent}
use Rattle.sd_gen.specs.Drafts.{history_of}
use Rattle.sd_replay.specs.Tallies.{tally_of, shows_trouble}
use Rattle.sd_replay.specs.declared.Tally.{Tally}
use Rattle.sd_files.specs.Answering.{Allowed}
use Rattle.sd_files.specs.declared.Status.{Status}
use Rattle.sd_files.specs.declared.Status.TheVariants.{Broken, Done}
use Rattle.sd_files.specs.planfiles.PlanFiles.{AfterJudged}

-- The line of a tally, and its status: whether it shows some trouble

-- the line of a tally
abbrev pub tally_line : Tally → List ℕ
tally_line t = text_of (codes "case" ∷ decimal t.events ∷ decimal t.reports ∷ decimal t.greatest_eps ∷ decimal t.broken ∷ decimal t.alarms ∷ [])

-- the status of a tally: whether it shows some trouble
abbrev pub tally_status : Tally → Status
tally_status t = if shows_trouble t then Broken else Done

-- the line of a tally, with its status
abbrev pub IsTallied : Tally → Allowed
IsTallied t bytes status = (bytes ≡ tally_line t) × (status ≡ tally_status t)

-- The case of a number

-- the tally of the replayed schedule that a number makes over the plans
abbrev pub case_tally : Setting → (number : ℕ) → Tally
case_tally setting number = tally_of setting (chronicle setting (history_of setting number))

-- the greedy plan from a root without what is absent is judged, the one at this place; it speaks of the network, as each greedy plan does
abbrev pub AfterGreedy : Network → (place root : ℕ) → Absent → (Plan → Allowed) → Allowed
AfterGreedy net place root absent Then bytes status =
    (plan : Plan) × IsGreedy net root absent plan × Fits net plan × AfterJudged net place plan (Then plan) bytes status

-- both plans of a case: from the first root with all that there is, and from the second without the first device
abbrev pub AfterBoth : Network → (List Plan → Allowed) → Allowed
AfterBoth net Then bytes status =
    AfterGreedy net 1 0 nothing_absent (λ first. AfterGreedy net 2 1 second_absent (λ second. Then (first ∷ second ∷ []))) bytes status

-- what is written over a network: the line of the first plan that is refused, or that of the tally
abbrev pub IsCaseOver : Network → (number : ℕ) → Allowed
IsCaseOver net number bytes status = AfterBoth net (λ plans. IsTallied (case_tally (setting_over net plans) number)) bytes status

-- what `case` may write
abbrev pub IsCase : (number leaves spines : ℕ) → Allowed
IsCase number leaves spines bytes status = IsCaseOver (fabric leaves spines) number bytes status
