-- The names that a command needs of the shelf, file by file.
use Rattle.std.proofs.Common.{◌≡◌, ℕ, List, [], ◌∷◌, refl, sym, subst}
use Rattle.std.specs.Prelude.{All}
use Rattle.std.proofs.lemmas.List.Elements.{All-cons, All-head, All-nil, All-tail}
use Rattle.sd_top.specs.Words.{File, OfTopology, OfPlan, OfSchedule, name_of, plans_and_schedule}

module _ (Serves : List ℕ → Type 0) where
  -- it serves the name of the file
  abbrev ServesFile : File → Type 0
  ServesFile file = Serves (name_of file)

  -- where these are the first two files of the command
  module _ (first second : File) (others files : List File) (are : first ∷ second ∷ others ≡ files) (all : All ServesFile files) where
    pub serves_first : Serves (name_of first)
    serves_first = All-head ServesFile first (second ∷ others) (subst (All ServesFile) (sym are) all)

    pub serves_second : Serves (name_of second)
    serves_second = All-head ServesFile second others (All-tail ServesFile first (second ∷ others) (subst (All ServesFile) (sym are) all))

  -- and the third
  module _ (first second third : File) (others files : List File) (are : first ∷ second ∷ third ∷ others ≡ files) (all : All ServesFile files) where
    pub serves_third : Serves (name_of third)
    serves_third =
        serves_second second third others (second ∷ third ∷ others) refl
        (All-tail ServesFile first (second ∷ third ∷ others) (subst (All ServesFile) (sym are) all))

  module _ (schedule : List ℕ) where
    plans_served : (plans : List (List ℕ)) → All ServesFile (plans_and_schedule plans schedule) → All Serves plans
    plans_served [] all = All-nil Serves
    plans_served (plan ∷ plans) all =
        All-cons Serves plan plans (All-head ServesFile (OfPlan plan) (plans_and_schedule plans schedule) all)
        (plans_served plans (All-tail ServesFile (OfPlan plan) (plans_and_schedule plans schedule) all))

    schedule_served : (plans : List (List ℕ)) → All ServesFile (plans_and_schedule plans schedule) → Serves schedule
    schedule_served [] all = All-head ServesFile (OfSchedule schedule) [] all
    schedule_served (plan ∷ plans) all = schedule_served plans (All-tail ServesFile (OfPlan plan) (plans_and_schedule plans schedule) all)

    -- where the command has a topology, plans and a schedule
    module _ (topology : List ℕ) (plans : List (List ℕ)) (files : List File) (are : OfTopology topology ∷ plans_and_schedule plans schedule ≡ files)
        (all : All ServesFile files) where
      in_order : All ServesFile (OfTopology topology ∷ plans_and_schedule plans schedule)
      in_order = subst (All ServesFile) (sym are) all

      pub serves_topology : Serves topology
      serves_topology = All-head ServesFile (OfTopology topology) (plans_and_schedule plans schedule) in_order

      pub serves_plans : All Serves plans
      serves_plans = plans_served plans (All-tail ServesFile (OfTopology topology) (plans_and_schedule plans schedule) in_order)

      pub serves_schedule : Serves schedule
      serves_schedule = schedule_served plans (All-tail ServesFile (OfTopology topology) (plans_and_schedule plans schedule) in_order)
