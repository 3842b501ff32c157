-- What may be written for the files of a comparison, from what was read of them.
use Rattle.std.specs.Prelude.{◌≡◌, ◌<◌, ℕ, zero, suc, ◌+◌, List, [], ◌∷◌, ◌++◌, length, map, take, drop, Option, Some, None, IfOk, IfSome, IsTrue, OnOk, Result, Ok, Err, codes}
use Rattle.std.proofs.Common.{arith, refl, sym, ap, ◌∙◌, subst, append-nil, take-append-drop}
use Rattle.std.proofs.lemmas.List.{length-take-le}
use Rattle.sd_io.specs.outside.Shelves.{KeepsShelf}
use Rattle.sd_io.specs.declared.outside.shelf.Shelf.{Ghosts}
use Rattle.sd_plan.specs.topo.Network.{Network, Each}
use Rattle.sd_plan.specs.declared.Plan.{Plan}
use Rattle.sd_sched.specs.declared.Event.{Event}
use Rattle.sd_history.specs.World.{setting_over}
use Rattle.sd_resume.specs.law.Law.{whole}
use Rattle.sd_files.specs.Answering.{After, Allowed}
use Rattle.sd_checker.specs.Conditions.{IsAccepted}
use Rattle.sd_files.specs.Inputs.{plan_in_file}
use Rattle.sd_files.specs.Statuses.{is_among}
use Rattle.sd_files.specs.Texts.{texts_of}
use Rattle.sd_files.specs.Writes.{IsAllowed}
use Rattle.sd_files.specs.declared.Status.{Status}
use Rattle.sd_files.specs.declared.Status.TheVariants.{Done, PlanRefused, InputRefused, Broken}
use Rattle.sd_files.specs.declared.command_error.Answer.{Answer}
use Rattle.sd_files.specs.declared.command_error.CommandError.{CommandError}
use Rattle.sd_files.specs.declared.command_error.CommandError.TheVariants as ended
use Rattle.sd_files.specs.declared.command_error.Refusal.{Refusal}
use Rattle.sd_files.specs.declared.planfiles.setup_error.SetupError.{SetupError}
use Rattle.sd_files.specs.declared.planfiles.setup_error.SetupError.TheVariants.{Answered, Stopped}
use Rattle.sd_files.specs.planfiles.PlanFiles.{AfterAllPlans, AfterJudged, AfterPlans, AreRead}
use Rattle.sd_files.specs.planfiles.Refusing.{Nothing}
use Rattle.sd_files.specs.planfiles.SetupError.{IsPlanRefused, made_of}
use Rattle.sd_files.specs.work.Works.{Work, reading}
use Rattle.sd_files.proofs.Keeping.{keeps_for}
use Rattle.sd_files.proofs.Shared.{makes_more, verdict_more}
use Rattle.sd_files.proofs.planfiles.Reading.{through}
use Rattle.sd_resume.specs.command.Compared.{IsCompared}
use Rattle.sd_resume.specs.command.Parts.{AfterLines, AfterPart, part_work}
use Rattle.sd_replay.specs.Devices.{QuietReplay}
use Rattle.sd_resume.specs.command.Played.{HasPlayed, HasRead}
use Rattle.sd_resume.specs.command.Resumes.{AfterBoth}

-- the texts of a shelf
abbrev Told : Type 0
Told = List ℕ → Option (List ℕ)

-- Plans

-- what holds of each plan holds of each of the last ones
pub each_drop : (P : Plan → Type 0) (left : ℕ) (plans : List Plan) → Each P plans → Each P (drop left plans)
each_drop P zero plans each = each
each_drop P (suc n) [] each = each
each_drop P (suc n) (p ∷ plans) each = each_drop P n plans (λ i plan at. each (suc i) plan at)

-- what ends a command at its plans is written whatever would come after
early_plans : (net : Network) (place : ℕ) (front : List Plan) (texts : List (List ℕ)) (Then : List Plan → Allowed) (bytes : List ℕ) (status : Status)
    → AfterPlans net place front texts Nothing bytes status → AfterPlans net place front texts Then bytes status
early_plans net place front [] Then bytes status written = absurd written
early_plans net place front (text ∷ texts) Then bytes status written =
    by (plan_in_file net place text) (λ plan. early_plans net (place + 1) (front ++ plan ∷ []) texts Then bytes status) written
  where
    by : (says : Result Plan Refusal)
        → ((plan : Plan) → AfterPlans net (place + 1) (front ++ plan ∷ []) texts Nothing bytes status
        → AfterPlans net (place + 1) (front ++ plan ∷ []) texts Then bytes status)
        → After says (λ plan. AfterJudged net place plan (AfterPlans net (place + 1) (front ++ plan ∷ []) texts Nothing)) bytes status
        → After says (λ plan. AfterJudged net place plan (AfterPlans net (place + 1) (front ++ plan ∷ []) texts Then)) bytes status
    by (Ok plan) others (verdict, judged, tells) = (
      verdict,
      judged,
      verdict_more net place verdict (AfterPlans net (place + 1) (front ++ plan ∷ []) texts Nothing)
          (AfterPlans net (place + 1) (front ++ plan ∷ []) texts Then) bytes status (others plan) tells,
    )
    by (Err why) others tells = tells

module _ (net : Network) (names : List (List ℕ)) (Then : (List ℕ → List ℕ) → List Plan → Allowed) (held : Option Told) (made : Result Answer CommandError) where
  -- a plan that is refused
  pub told_unplanned : (early : SetupError) → made ≡ made_of early
      → IfSome held (λ h. IsAllowed (AfterAllPlans net (map (λ name. texts_of h name) names) Nothing) (made_of early))
      → IfSome held (λ h. IsAllowed (AfterAllPlans net (map (λ name. texts_of h name) names) (Then (texts_of h))) made)
  told_unplanned early is makes = by held makes
    where
      by : (o : Option Told) → IfSome o (λ h. IsAllowed (AfterAllPlans net (map (λ name. texts_of h name) names) Nothing) (made_of early))
          → IfSome o (λ h. IsAllowed (AfterAllPlans net (map (λ name. texts_of h name) names) (Then (texts_of h))) made)
      by None told = tt
      by (Some h) told =
          subst (λ (m : Result Answer CommandError). IsAllowed (AfterAllPlans net (map (λ name. texts_of h name) names) (Then (texts_of h))) m) (sym is)
          (makes_more (AfterAllPlans net (map (λ name. texts_of h name) names) Nothing)
          (AfterAllPlans net (map (λ name. texts_of h name) names) (Then (texts_of h))) (made_of early)
          (early_plans net 1 [] (map (λ name. texts_of h name) names) (Then (texts_of h))) told)

  -- plans that are all read and accepted
  pub told_planned : (later : Option Told) (plans : List Plan) → later ≡ held → IfSome held (λ h. AreRead net 1 (map (λ name. texts_of h name) names) plans)
      → Each (IsAccepted net) plans → IfSome later (λ h. IsAllowed (Then (texts_of h) plans) made)
      → IfSome held (λ h. IsAllowed (AfterAllPlans net (map (λ name. texts_of h name) names) (Then (texts_of h))) made)
  told_planned later plans same read accepted makes =
      by held read (subst (λ (o : Option Told). IfSome o (λ h. IsAllowed (Then (texts_of h) plans) made)) same makes)
    where
      by : (o : Option Told) → IfSome o (λ h. AreRead net 1 (map (λ name. texts_of h name) names) plans) → IfSome o (λ h. IsAllowed (Then (texts_of h) plans) made)
          → IfSome o (λ h. IsAllowed (AfterAllPlans net (map (λ name. texts_of h name) names) (Then (texts_of h))) made)
      by None are told = tt
      by (Some h) are told =
          makes_more (Then (texts_of h) plans) (AfterAllPlans net (map (λ name. texts_of h name) names) (Then (texts_of h))) made
          (λ bytes status written. subst (λ (texts : List (List ℕ)). AfterPlans net 1 [] texts (Then (texts_of h)) bytes status)
          (append-nil (map (λ name. texts_of h name) names))
          (through net 1 [] plans (map (λ name. texts_of h name) names) [] (Then (texts_of h)) bytes status are accepted written)) told

-- this many are in front
pub so_many_left : (plans : List Plan) (left : ℕ) → left < length plans → length (take left plans) ≡ left
so_many_left plans left some = length-take-le left plans (omega (arith, some))

-- what holds of a call that has ended
pub on_done : {P : Type 0} (result : Result (Unit {0}) SetupError) (done : Unit {0}) → result ≡ Ok done → OnOk result P → P
on_done {P = P} result done is holds = subst (λ (r : Result (Unit {0}) SetupError). OnOk r P) is holds

-- Texts

-- what is written at a line that is refused is written whatever would come after
early_part : (work : Work Event) (text : List ℕ) (Then : List Event → Allowed) (bytes : List ℕ) (status : Status) → AfterPart work text Nothing bytes status
    → AfterPart work text Then bytes status
early_part work text Then bytes status written = by (reading work text).refused written
  where
    by : (o : Option (List ℕ)) → AfterLines work (reading work text).taken o Nothing bytes status → AfterLines work (reading work text).taken o Then bytes status
    by None told = absurd told
    by (Some why) told = told

-- a text that is read whole leads to what comes after
read_part : (work : Work Event) (text : List ℕ) (Then : List Event → Allowed) (bytes : List ℕ) (status : Status) → (reading work text).refused ≡ None
    → Then (reading work text).taken bytes status → AfterPart work text Then bytes status
read_part work text Then bytes status whole' written =
    subst (λ (o : Option (List ℕ)). AfterLines work (reading work text).taken o Then bytes status) (sym whole') written

module _ (net : Network) (plans : List Plan) (left : ℕ) where
  abbrev first_work : Work Event
  first_work = part_work (codes "schedule") (setting_over net plans)

  abbrev second_work : Work Event
  second_work = part_work (codes "opening") (setting_over net (drop left plans))

  abbrev After_second : List ℕ → List Event → Allowed
  After_second opening one = AfterPart second_work opening (λ other. IsCompared net (take left plans) (drop left plans) one other)

  over_both : (replay : QuietReplay) (events : List Event) → HasPlayed replay (setting_over net plans) events
      → HasPlayed replay (whole net (take left plans) (drop left plans)) events
  over_both replay events played = subst (λ (ps : List Plan). HasPlayed replay (setting_over net ps) events) (sym (take-append-drop left plans)) played

  module _ (schedule opening : List ℕ) (made : Result Answer CommandError) where
    first_stopped : (early : SetupError) → made ≡ made_of early → IsAllowed (AfterPart first_work schedule Nothing) (made_of early)
        → IsAllowed (AfterBoth net plans left schedule opening) made
    first_stopped early is makes =
        subst (IsAllowed (AfterBoth net plans left schedule opening)) (sym is)
        (makes_more (AfterPart first_work schedule Nothing) (AfterBoth net plans left schedule opening) (made_of early)
        (early_part first_work schedule (After_second opening)) makes)

    second_stopped : (early : SetupError) (one : QuietReplay) → made ≡ made_of early → HasRead (codes "schedule") (setting_over net plans) schedule one
        → IsAllowed (AfterPart second_work opening Nothing) (made_of early) → IsAllowed (AfterBoth net plans left schedule opening) made
    second_stopped early one is read makes =
        subst (IsAllowed (AfterBoth net plans left schedule opening)) (sym is)
        (makes_more (AfterPart second_work opening Nothing) (AfterBoth net plans left schedule opening) (made_of early)
        (λ bytes status written. read_part first_work schedule (After_second opening) bytes status read.whole
        (early_part second_work opening (λ other. IsCompared net (take left plans) (drop left plans) (reading first_work schedule).taken other) bytes status
        written)) makes)

    both_read : (one other : QuietReplay) → HasRead (codes "schedule") (setting_over net plans) schedule one
        → HasRead (codes "opening") (setting_over net (drop left plans)) opening other
        → ((events others : List Event) → HasPlayed one (whole net (take left plans) (drop left plans)) events
        → HasPlayed other (setting_over net (drop left plans)) others
        → IsAllowed (IsCompared net (take left plans) (drop left plans) events others) made)
        → IsAllowed (AfterBoth net plans left schedule opening) made
    both_read one other read also compares =
        makes_more (IsCompared net (take left plans) (drop left plans) (reading first_work schedule).taken (reading second_work opening).taken)
        (AfterBoth net plans left schedule opening) made
        (λ bytes status written. read_part first_work schedule (After_second opening) bytes status read.whole
        (read_part second_work opening (λ events. IsCompared net (take left plans) (drop left plans) (reading first_work schedule).taken events) bytes status
        also.whole written))
        (compares (reading first_work schedule).taken (reading second_work opening).taken
        (over_both one (reading first_work schedule).taken read.played) also.played)

  -- the same of texts that are told or not
  module _ (schedule opening : List ℕ) (held : Option Told) (made : Result Answer CommandError) where
    pub told_first_stopped : (early : SetupError) → made ≡ made_of early
        → IfSome held (λ h. IsAllowed (AfterPart first_work (texts_of h schedule) Nothing) (made_of early))
        → IfSome held (λ h. IsAllowed (AfterBoth net plans left (texts_of h schedule) (texts_of h opening)) made)
    told_first_stopped early is makes = by held makes
      where
        by : (o : Option Told) → IfSome o (λ h. IsAllowed (AfterPart first_work (texts_of h schedule) Nothing) (made_of early))
            → IfSome o (λ h. IsAllowed (AfterBoth net plans left (texts_of h schedule) (texts_of h opening)) made)
        by None told = tt
        by (Some h) told = first_stopped (texts_of h schedule) (texts_of h opening) made early is told

    pub told_second_stopped : (later : Option Told) (early : SetupError) (one : QuietReplay) → later ≡ held → made ≡ made_of early
        → IfSome held (λ h. HasRead (codes "schedule") (setting_over net plans) (texts_of h schedule) one)
        → IfSome later (λ h. IsAllowed (AfterPart second_work (texts_of h opening) Nothing) (made_of early))
        → IfSome held (λ h. IsAllowed (AfterBoth net plans left (texts_of h schedule) (texts_of h opening)) made)
    told_second_stopped later early one same is read makes =
        by held read (subst (λ (o : Option Told). IfSome o (λ h. IsAllowed (AfterPart second_work (texts_of h opening) Nothing) (made_of early))) same makes)
      where
        by : (o : Option Told) → IfSome o (λ h. HasRead (codes "schedule") (setting_over net plans) (texts_of h schedule) one)
            → IfSome o (λ h. IsAllowed (AfterPart second_work (texts_of h opening) Nothing) (made_of early))
            → IfSome o (λ h. IsAllowed (AfterBoth net plans left (texts_of h schedule) (texts_of h opening)) made)
        by None was told = tt
        by (Some h) was told = second_stopped (texts_of h schedule) (texts_of h opening) made early one is was told

    pub told_both : (later : Option Told) (one other : QuietReplay) → later ≡ held
        → IfSome held (λ h. HasRead (codes "schedule") (setting_over net plans) (texts_of h schedule) one)
        → IfSome later (λ h. HasRead (codes "opening") (setting_over net (drop left plans)) (texts_of h opening) other)
        → ((events others : List Event) → HasPlayed one (whole net (take left plans) (drop left plans)) events
        → HasPlayed other (setting_over net (drop left plans)) others
        → IsAllowed (IsCompared net (take left plans) (drop left plans) events others) made)
        → IfSome held (λ h. IsAllowed (AfterBoth net plans left (texts_of h schedule) (texts_of h opening)) made)
    told_both later one other same read also compares =
        by held read
        (subst (λ (o : Option Told). IfSome o (λ h. HasRead (codes "opening") (setting_over net (drop left plans)) (texts_of h opening) other)) same also)
      where
        by : (o : Option Told) → IfSome o (λ h. HasRead (codes "schedule") (setting_over net plans) (texts_of h schedule) one)
            → IfSome o (λ h. HasRead (codes "opening") (setting_over net (drop left plans)) (texts_of h opening) other)
            → IfSome o (λ h. IsAllowed (AfterBoth net plans left (texts_of h schedule) (texts_of h opening)) made)
        by None was is = tt
        by (Some h) was is = both_read (texts_of h schedule) (texts_of h opening) made one other was is compares

-- The statuses

pub plan_among : (early : SetupError) (made : Result Answer CommandError) → made ≡ made_of early → IsPlanRefused early
    → IfOk made (λ answer. IsTrue (is_among (Done ∷ PlanRefused ∷ InputRefused ∷ Broken ∷ []) answer.status))
plan_among (Answered answer) made is refused = rw (is, refused) refl
plan_among (Stopped why) made is refused = rw is tt

-- Whom it blames

made_shelf : (early : SetupError) → made_of early ≡ Err ended.Shelf → early ≡ Stopped ended.Shelf
made_shelf (Answered answer) is = cc
made_shelf (Stopped why) is = let inner : why ≡ ended.Shelf = cc in ap Stopped inner

-- a command that ends early blames the shelf where what it called does
pub keeps_early : {S T : Type 0} (g : Ghosts S) (result : Result T SetupError) (early : SetupError) (made : Result Answer CommandError) (old new : S)
    → result ≡ Err early → made ≡ made_of early
    → KeepsShelf g (result ≡ Err (Stopped ended.Shelf)) old new → KeepsShelf g (made ≡ Err ended.Shelf) old new
keeps_early {T = T} g result early made old new was is kept =
    keeps_for g (result ≡ Err (Stopped ended.Shelf)) (made ≡ Err ended.Shelf) old new
    (λ blamed. let same : early ≡ Stopped ended.Shelf = inside early (Stopped ended.Shelf) (sym was ∙ blamed) in is ∙ ap made_of same)
    (λ blamed. was ∙ ap Err (made_shelf early (sym is ∙ blamed))) kept
  where
    inside : (a b : SetupError) → ◌≡◌ {A = Result T SetupError} (Err a) (Err b) → a ≡ b
    inside a b same = cc
