-- What is asked of a membership is what the words on histories say of the steps for which it stands.
use Rattle.std.specs.Prelude.{◌≡◌, ℕ, ◌+◌, ◌<◌, Bool, true, false, ◌&&◌, ◌||◌, List, length, nat_eq, Option, Some, None, is_some, option_map, option_and_then, refl, if◌then◌else◌}
use Rattle.std.proofs.Common.{sym, ◌∙◌, ap, subst}
use Rattle.sd_num.specs.Lists.{at_place, map_or, same_number}
use Rattle.sd_plan.specs.declared.Plan.{Plan}
use Rattle.sd_plan.specs.declared.Duty.{Duty}
use Rattle.sd_plan.specs.Plans.{is_member}
use Rattle.sd_plan.specs.Duties.{duty_of, ends_of}
use Rattle.sd_plan.specs.Tables.{table_row}
use Rattle.sd_history.specs.World.{Setting, Seen, is_up, window, window_is_open, staged_epoch, in_force, staged, is_staged_member, is_counted, plan_numbered}
use Rattle.sd_history.specs.Steps.{Answers, Step, seen_of, answers_in, live_answers, parent_in, acts_in, epoch_in, given_in}
use Rattle.sd_world.specs.world.Registers.{joins_at, is_open}
use Rattle.sd_world.specs.world.Standing as worlds
use Rattle.sd_world.specs.declared.membership.AnswerSummary.{AnswerSummary}
use Rattle.sd_world.specs.membership.Plans.{IsNumber, root_numbered, row_numbered, is_member_numbered}
use Rattle.sd_world.specs.membership.Memberships.{Registers, staged_number, live_at, acts_at, parent_at, is_of, holds_given, is_in_force, is_in_staged, is_counted_at}
use Rattle.sd_world.specs.membership.Standing.{Stands, summary}
use Rattle.sd_world.proofs.membership.ByNumber.{length-plans, root_is, row_is, member_is, member_row_is}

-- What devices answer

acts_by : (o : Option Answers) → map_or (option_map summary o) false (λ (a : AnswerSummary). a.acts) ≡ map_or o false (λ a. a.acts)
acts_by None = refl
acts_by (Some a) = refl

parent_by : (o : Option Answers) → option_and_then (λ (a : AnswerSummary). a.parent) (option_map summary o) ≡ option_and_then (λ a. a.parent) o
parent_by None = refl
parent_by (Some a) = refl

follows_by : (epoch : ℕ) (o : Option Answers)
    → map_or (option_map summary o) false (λ (a : AnswerSummary). nat_eq a.epoch epoch) ≡ same_number (option_map (λ a. a.epoch) o) epoch
follows_by epoch None = refl
follows_by epoch (Some a) = refl

holds_by : (epoch : ℕ) (o : Option Answers)
    → map_or (option_map summary o) false (λ (a : AnswerSummary). same_number a.given epoch)
    ≡ same_number (option_and_then (λ a. option_map (λ (duty : Duty). duty.epoch) a.given) o) epoch
holds_by epoch None = refl
holds_by epoch (Some a) = refl

module _ (r : Registers) (setting : Setting) (steps : List Step) (stands : Stands r setting steps) where
  abbrev seen : List Seen
  seen = seen_of steps

  abbrev devices : ℕ
  devices = length setting.net.devices

  pub at_device : (d : ℕ) → d < devices → worlds.StandsAt r.world seen d
  at_device d within = stands.world.devices d (subst (λ (n : ℕ). d < n) (sym stands.world.device_count) within)

  pub live_is : (d : ℕ) → d < devices → live_at r d ≡ option_map summary (live_answers steps d)
  live_is d within =
      ap (λ b. if b then at_place r.answers d None (λ answered. answered) else None) (at_device d within).up
      ∙ by (is_up seen d)
    where
      by : (b : Bool)
          → (if b then at_place r.answers d None (λ (answered : Option AnswerSummary). answered) else None)
          ≡ option_map summary (if b then answers_in steps d else None)
      by true = stands.answers d within
      by false = refl

  pub acts_is : (d : ℕ) → d < devices → acts_at r d ≡ acts_in steps d
  acts_is d within = ap (λ o. map_or o false (λ (a : AnswerSummary). a.acts)) (live_is d within) ∙ acts_by (live_answers steps d)

  pub parent_is : (d : ℕ) → d < devices → parent_at r d ≡ parent_in steps d
  parent_is d within = ap (λ o. option_and_then (λ (a : AnswerSummary). a.parent) o) (live_is d within) ∙ parent_by (live_answers steps d)

  pub is_of_is : (epoch d : ℕ) → d < devices → is_of r epoch d ≡ same_number (epoch_in steps d) epoch
  is_of_is epoch d within = ap (λ o. map_or o false (λ (a : AnswerSummary). nat_eq a.epoch epoch)) (live_is d within) ∙ follows_by epoch (live_answers steps d)

  pub holds_given_is : (epoch d : ℕ) → d < devices → holds_given r epoch d ≡ same_number (given_in steps d) epoch
  holds_given_is epoch d within = ap (λ o. map_or o false (λ (a : AnswerSummary). same_number a.given epoch)) (live_is d within)
      ∙ holds_by epoch (live_answers steps d)

  -- Numbers of plans

  pub plan_count : length r.plans ≡ length setting.plans
  plan_count = ap length stands.plans ∙ length-plans setting.net setting.plans

  pub staged_number_is : staged_number r ≡ staged_epoch seen
  staged_number_is = ap (λ n. n + 1) stands.world.epoch

  -- the root that a number names
  pub root_numbered_is : (epoch : ℕ) → IsNumber r.plans epoch → root_numbered r.plans epoch ≡ (plan_numbered setting epoch).root
  root_numbered_is epoch there = ap (λ plans. root_numbered plans epoch) stands.plans
      ∙ root_is setting epoch (subst (λ plans. IsNumber plans epoch) stands.plans there)

  -- a member in the plan that a number names, and its row there
  pub member_numbered_is : (epoch d : ℕ) → IsNumber r.plans epoch → d < devices → is_member_numbered r.plans epoch d ≡ is_member (plan_numbered setting epoch) d
  member_numbered_is epoch d there within =
      ap (λ plans. is_member_numbered plans epoch d) stands.plans ∙ member_is setting epoch (subst (λ plans. IsNumber plans epoch) stands.plans there) d within

  pub row_numbered_is : (epoch d : ℕ) → IsNumber r.plans epoch → d < devices
      → row_numbered r.plans epoch d ≡ table_row setting.net (plan_numbered setting epoch) epoch d
  row_numbered_is epoch d there within = ap (λ plans. row_numbered plans epoch d) stands.plans
      ∙ row_is setting epoch (subst (λ plans. IsNumber plans epoch) stands.plans there) d within

  pub member_row_numbered_is : (epoch d : ℕ) → IsNumber r.plans epoch → d < devices → is_member_numbered r.plans epoch d ≡ true
      → row_numbered r.plans epoch d
      ≡ Some (record { duty = duty_of setting.net (plan_numbered setting epoch) epoch d; downstream = ends_of setting.net (plan_numbered setting epoch) d })
  member_row_numbered_is epoch d there within member =
      ap (λ plans. row_numbered plans epoch d) stands.plans
      ∙ member_row_is setting epoch (subst (λ plans. IsNumber plans epoch) stands.plans there) d within
      (sym (ap (λ plans. is_member_numbered plans epoch d) stands.plans) ∙ member)

  -- The staged plan

  -- while a window is open the staged plan is that of the next number
  pub staged_when : window_is_open seen ≡ true → staged setting seen ≡ Some (plan_numbered setting (staged_epoch seen))
  staged_when open_ = by (window seen) open_
    where
      by : (w : Option (List Seen)) → is_some w ≡ true
          → option_map (λ x. plan_numbered setting (staged_epoch seen)) w ≡ Some (plan_numbered setting (staged_epoch seen))
      by None open' = cc
      by (Some x) open' = refl

  staged_there : window_is_open seen ≡ true → IsNumber r.plans (staged_number r)
  staged_there open_ = stands.sound.staged (stands.world.open_window ∙ open_)

  -- a test of the staged plan is that of the plan with the next number, where a window is open
  staged_is : (p : Bool) (q : Plan → Bool) → (window_is_open seen ≡ true → p ≡ q (plan_numbered setting (staged_epoch seen)))
      → (is_open r.world.window && p) ≡ map_or (staged setting seen) false q
  staged_is p q same = ap (λ b. b && p) stands.world.open_window ∙ by (window seen) same
    where
      by : (w : Option (List Seen)) → (is_some w ≡ true → p ≡ q (plan_numbered setting (staged_epoch seen)))
          → (is_some w && p) ≡ map_or (option_map (λ x. plan_numbered setting (staged_epoch seen)) w) false q
      by None same' = refl
      by (Some x) same' = same' refl

  pub staged_root_is : (d : ℕ)
      → (is_open r.world.window && nat_eq (root_numbered r.plans (staged_number r)) d) ≡ map_or (staged setting seen) false (λ plan. nat_eq plan.root d)
  staged_root_is d =
      staged_is (nat_eq (root_numbered r.plans (staged_number r)) d) (λ plan. nat_eq plan.root d)
      (λ open_. ap (λ n. nat_eq n d) (root_numbered_is (staged_number r) (staged_there open_) ∙ ap (λ n. (plan_numbered setting n).root) staged_number_is))

  -- Members

  pub in_force_is : (d : ℕ) → d < devices → is_in_force r d ≡ is_member (in_force setting seen) d
  in_force_is d within = member_numbered_is r.world.epoch d stands.sound.in_force within ∙ ap (λ n. is_member (plan_numbered setting n) d) stands.world.epoch

  pub in_staged_is : (d : ℕ) → d < devices → is_in_staged r d ≡ is_staged_member setting seen d
  in_staged_is d within =
      staged_is (is_member_numbered r.plans (staged_number r) d) (λ plan. is_member plan d)
      (λ open_. member_numbered_is (staged_number r) d (staged_there open_) within ∙ ap (λ n. is_member (plan_numbered setting n) d) staged_number_is)

  pub counted_is : (d : ℕ) → d < devices → is_counted_at r d ≡ is_counted setting seen d
  counted_is d within =
      ap (λ b. b && (is_in_force r d || joins_at r.world d)) (at_device d within).up
      ∙ ap (λ b. is_up seen d && (b || joins_at r.world d)) (in_force_is d within)
      ∙ ap (λ b. is_up seen d && (is_member (in_force setting seen) d || b)) (at_device d within).joins
