use Rattle.std.proofs.Common.{List, [], ◌∷◌, ◌++◌, ap, ◌∙◌}
use Rattle.sd_plan.specs.declared.Plan.{Plan}
use Rattle.sd_gen.proofs.command.plans.greedy_plans.Goals as goal

pub returns-clause-made : goal.returns-clause-made
returns-clause-made c =
    record {
      first = c.in_ok-first_plan.field-0;
      second = c.in_ok-second_plan.field-0;
      are = c.in_ok-push-2.ensures.added
          ∙ ap (λ (plans : List Plan). plans ++ c.in_ok-second_plan.field-0 ∷ [])
          (c.in_ok-push.ensures.added ∙ ap (λ (plans : List Plan). plans ++ c.in_ok-first_plan.field-0 ∷ []) c.new-plans.ensures);
      first_made = c.in_ok-first_plan.ensures.made;
      second_made = c.in_ok-second_plan.ensures.made;
    }
