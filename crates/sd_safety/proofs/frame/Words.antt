-- The words of the invariant in two states that are alike: each is the same. By the words' clauses.
use Rattle.std.specs.Prelude.{◌≡◌, ℕ, ◌+◌, not, List, filter, Option, option_map, option_and_then}
use Rattle.std.proofs.Common.{◌∙◌, ap}
use Rattle.sd_num.specs.Lists.{same_number}
use Rattle.sd_plan.specs.declared.topo.Thing.TheVariants as thing
use Rattle.sd_plan.specs.domain.Things.{same_thing}
use Rattle.sd_plan.specs.declared.Plan.{Plan}
use Rattle.sd_plan.specs.Walks.{path, epath}
use Rattle.sd_history.specs.World.{Setting, staged_epoch, plan_numbered}
use Rattle.sd_history.specs.Steps.{Answers, Step, seen_of, live_answers, epoch_in, given_in}
use Rattle.sd_safety.specs.invariant.Eras.{era, plan_now, failed_now, device_failed_now, link_failed_now, is_among, touches, is_old, is_new, is_blank, hit, hit_otherwise, path_hit, root_failed}

-- of one device, from what it answers
module _ (one two : List Step) (d : ℕ) (same : live_answers two d ≡ live_answers one d) where
  pub given_same : given_in two d ≡ given_in one d
  given_same = ap (λ (o : Option Answers). option_and_then (λ a. option_map (λ duty. duty.epoch) a.given) o) same

-- from the plan that it follows
module _ (one two : List Step) (d : ℕ) (same : epoch_in two d ≡ epoch_in one d) where
  pub blank_same : is_blank two d ≡ is_blank one d
  blank_same = ap (λ o. same_number o 0) same

  pub old_same : era two ≡ era one → is_old two d ≡ is_old one d
  old_same eras = ap (λ o. same_number o (era two)) same ∙ ap (same_number (epoch_in one d)) eras

  pub new_same : era two ≡ era one → is_new two d ≡ is_new one d
  new_same eras = ap (λ o. same_number o (staged_epoch (seen_of two))) same ∙ ap (λ n. same_number (epoch_in one d) (n + 1)) eras

-- of the world
module _ (setting : Setting) (one two : List Step) where
  pub plan_same : era two ≡ era one → plan_now setting two ≡ plan_now setting one
  plan_same eras = ap (plan_numbered setting) eras

  module _ (eras : era two ≡ era one) (failures : failed_now two ≡ failed_now one) where
    pub failed_device_same : (d : ℕ) → device_failed_now two d ≡ device_failed_now one d
    failed_device_same d = ap (λ xs. is_among xs (thing.Device d)) failures

    pub failed_link_same : (l : ℕ) → link_failed_now two l ≡ link_failed_now one l
    failed_link_same l = ap (λ xs. is_among xs (thing.Link l)) failures

    pub hit_same : (d : ℕ) → hit setting two d ≡ hit setting one d
    hit_same d =
        ap (λ xs. touches xs (epath setting.net (plan_now setting two) d)) failures
        ∙ ap (λ plan. touches (failed_now one) (epath setting.net plan d)) (plan_same eras)

    pub path_hit_same : (d : ℕ) → path_hit setting two d ≡ path_hit setting one d
    path_hit_same d =
        ap (λ xs. touches xs (path setting.net (plan_now setting two) d)) failures
        ∙ ap (λ plan. touches (failed_now one) (path setting.net plan d)) (plan_same eras)

    pub hit_otherwise_same : (d : ℕ) → hit_otherwise setting two d ≡ hit_otherwise setting one d
    hit_otherwise_same d =
        ap (λ xs. touches (filter (λ x. not (same_thing (thing.Device (plan_now setting two).root) x)) xs) (epath setting.net (plan_now setting two) d))
        failures
        ∙ ap (λ (plan : Plan). touches (filter (λ x. not (same_thing (thing.Device plan.root) x)) (failed_now one)) (epath setting.net plan d)) (plan_same eras)

    pub root_failed_same : root_failed setting two ≡ root_failed setting one
    root_failed_same =
        failed_device_same (plan_now setting two).root ∙ ap (λ (plan : Plan). device_failed_now one plan.root) (plan_same eras)
