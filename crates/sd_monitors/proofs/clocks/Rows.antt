-- What rows of flags answer, one row for each plan: of devices whether they are members, of links whether they are present.
use Rattle.std.proofs.Common.{◌≡◌, ℕ, ◌+◌, ◌-◌, ◌<◌, Bool, true, List, [], ◌∷◌, ◌++◌, map, length, take, get_or, Option, Some, None, refl, sym, ap, ◌∙◌, subst}
use Rattle.std.specs.Prelude.{slice_get, option_map}
use Rattle.std.proofs.lemmas.List.{map-append, take_more}
use Rattle.std.proofs.lemmas.Option.{slice_get-map, slice_get-get_or}
use Rattle.sd_num.specs.Lists.{below, map_or, at_place}
use Rattle.sd_plan.specs.declared.Plan.{Plan}
use Rattle.sd_plan.specs.Plans.{is_member, is_present}
use Rattle.sd_plan.proofs.Numbered.{length-below, get_or-below}
use Rattle.sd_history.specs.World.{Setting, plan_numbered, no_plan}
use Rattle.sd_monitors.specs.clocks.Memberships.{AreMembers, ArePresent, flag_at}

-- the row of a plan
abbrev pub row_for : (Plan → ℕ → Bool) → ℕ → Plan → List Bool
row_for test count plan = map (test plan) (below count)

-- its flag of a number
flag_of : (test : Plan → ℕ → Bool) (count : ℕ) (plan : Plan) (d : ℕ) → d < count → slice_get (row_for test count plan) d ≡ Some (test plan d)
flag_of test count plan d within =
    slice_get-map (test plan) (below count) d
    ∙ ap (option_map (test plan)) (slice_get-get_or (below count) d 0 (subst (λ (n : ℕ). d < n) (sym (length-below count)) within)
    ∙ ap Some (get_or-below count d 0 within))

-- the flag of a plan, whether it is there or not
flags_are : (test : Plan → ℕ → Bool) → ((d : ℕ) → test no_plan d ≡ true) → (count : ℕ) (setting : Setting) (rows : List (List Bool)) (epoch d : ℕ)
    → rows ≡ map (row_for test count) setting.plans → d < count → flag_at rows (epoch - 1) d ≡ test (plan_numbered setting epoch) d
flags_are test always count setting rows epoch d are within =
    ap (λ (o : Option (List Bool)). map_or o true (λ row. at_place row d true (λ b. b))) mapped ∙ by (slice_get setting.plans (epoch - 1))
  where
    mapped : slice_get rows (epoch - 1) ≡ option_map (row_for test count) (slice_get setting.plans (epoch - 1))
    mapped = ap (λ (rs : List (List Bool)). slice_get rs (epoch - 1)) are ∙ slice_get-map (row_for test count) setting.plans (epoch - 1)

    by : (o : Option Plan) → map_or (option_map (row_for test count) o) true (λ row. at_place row d true (λ b. b)) ≡ test (map_or o no_plan (λ plan. plan)) d
    by None = sym (always d)
    by (Some plan) = ap (λ (o : Option Bool). map_or o true (λ b. b)) (flag_of test count plan d within)

pub member_is : (setting : Setting) (rows : List (List Bool)) (epoch d : ℕ) → AreMembers setting rows → d < length setting.net.devices
    → flag_at rows (epoch - 1) d ≡ is_member (plan_numbered setting epoch) d
member_is setting rows epoch d are within = flags_are is_member (λ d. refl) (length setting.net.devices) setting rows epoch d are within

pub present_is : (setting : Setting) (rows : List (List Bool)) (epoch l : ℕ) → ArePresent setting rows → l < length setting.net.links
    → flag_at rows (epoch - 1) l ≡ is_present (plan_numbered setting epoch) l
present_is setting rows epoch l are within = flags_are is_present (λ l. refl) (length setting.net.links) setting rows epoch l are within

-- one plan more
pub rows_more : (test : Plan → ℕ → Bool) (count : ℕ) (plans : List Plan) (i : ℕ) (plan : Plan) (rows : List (List Bool)) → i < length plans
    → plan ≡ get_or plans i plan
    → rows ≡ map (row_for test count) (take i plans) → rows ++ row_for test count plan ∷ [] ≡ map (row_for test count) (take (i + 1) plans)
rows_more test count plans i plan rows within at so_far =
    ap (λ (rs : List (List Bool)). rs ++ row_for test count plan ∷ []) so_far
    ∙ ap (λ (p : Plan). map (row_for test count) (take i plans) ++ row_for test count p ∷ []) at
    ∙ sym (ap (map (row_for test count)) (take_more plans i plan within) ∙ map-append (row_for test count) (take i plans) (get_or plans i plan ∷ []))
