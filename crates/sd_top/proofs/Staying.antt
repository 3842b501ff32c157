-- The texts of plans and of a schedule stay where none of them has the name that is replaced.
use Rattle.std.proofs.Common.{◌≡◌, ℕ, List, [], ◌∷◌, map, refl}
use Rattle.std.specs.Prelude.{◌≢◌, All}
use Rattle.std.proofs.lemmas.List.Elements.{All-head, All-tail}
use Rattle.sd_files.specs.Texts.{Texts}
use Rattle.sd_top.specs.Words.{File, OfPlan, OfSchedule, name_of, plans_and_schedule}

module _ (topology : List ℕ) (before after : Texts) (elsewhere : (other : List ℕ) → other ≢ topology → after other ≡ before other) (schedule : List ℕ) where
  -- the file has another name
  abbrev IsApart : File → Type 0
  IsApart file = name_of file ≢ topology

  pub plans_stay : (plans : List (List ℕ)) → All IsApart (plans_and_schedule plans schedule) → map after plans ≡ map before plans
  plans_stay [] apart = refl
  plans_stay (plan ∷ plans) apart =
      let first : after plan ≡ before plan = elsewhere plan (All-head IsApart (OfPlan plan) (plans_and_schedule plans schedule) apart) in
      let others : map after plans ≡ map before plans = plans_stay plans (All-tail IsApart (OfPlan plan) (plans_and_schedule plans schedule) apart) in
      rw (first, others) refl

  pub schedule_stays : (plans : List (List ℕ)) → All IsApart (plans_and_schedule plans schedule) → after schedule ≡ before schedule
  schedule_stays [] apart = elsewhere schedule (All-head IsApart (OfSchedule schedule) [] apart)
  schedule_stays (plan ∷ plans) apart = schedule_stays plans (All-tail IsApart (OfPlan plan) (plans_and_schedule plans schedule) apart)
