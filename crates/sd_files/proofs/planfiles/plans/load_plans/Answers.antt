use Rattle.std.proofs.Common.{rules, ◌≡◌, ◌+◌, ◌++◌, ◌∷◌, [], List, ℕ, Bool, Ok, Option, subst, sym}
use Rattle.std.specs.Prelude.{IfSome, IsTrue, map, string_bytes}
use Rattle.sd_plan.specs.topo.Topologies.{network}
use Rattle.sd_plan.specs.Plans.{Fits}
use Rattle.sd_checker.specs.Conditions.{IsAccepted}
use Rattle.sd_files.specs.Inputs.{plan_in_file}
use Rattle.sd_files.specs.Texts.{texts_of}
use Rattle.sd_files.specs.Writes.{IsAllowed}
use Rattle.sd_files.specs.planfiles.SetupError.{made_of}
use Rattle.sd_files.specs.planfiles.PlanFiles.{AfterAllPlans, AfterPlan}
use Rattle.sd_files.specs.planfiles.Refusing.{Nothing}
use Rattle.sd_files.specs.declared.planfiles.setup_error.SetupError.{SetupError}
use Rattle.sd_files.proofs.planfiles.Reading.{each_more, handed_on, served, told_early, told_more}
use Rattle.sd_files.proofs.planfiles.plans.load_plans.Goals as goal

pub load_accepted-requires : goal.load_accepted-requires
load_accepted-requires g c =
    subst (λ (serves : List ℕ → Bool). IsTrue (serves c.as_str-name.result.now)) (sym c.plans.invariant.same_names)
    (
    subst (λ (n : List ℕ). IsTrue (g.S.Shelf.serves c.args.shelf.now n)) (sym c.as_str-name.ensures.value)
    (served (λ n. IsTrue (g.S.Shelf.serves c.args.shelf.now n)) c.args.names.now c.plans.place c.index-names-place.result c.requires.serves c.plans-test.true
    c.index-names-place.is)
    )

pub returns-in_err-plan-clause-makes : goal.returns-in_err-plan-clause-makes
returns-in_err-plan-clause-makes g c =
    let net = network c.args.topo.now in
    let makes =
    subst (λ (held : Option (List ℕ → Option (List ℕ))). IfSome held
    (λ h. IsAllowed (AfterPlan net (c.plans.place + 1) (texts_of h (string_bytes c.index-names-place.result)) Nothing) (made_of c.in_err-plan.field-0.0)))
    c.plans.invariant.same_held
    (
    subst (λ (n : List ℕ). IfSome (g.S.Shelf.held c.plans.shelf)
    (λ h. IsAllowed (AfterPlan net (c.plans.place + 1) (texts_of h n) Nothing) (made_of c.in_err-plan.field-0.0))) c.as_str-name.ensures.value
    c.in_err-plan.ensures.makes
    ) in
    handed_on
    (λ (early : SetupError). IfSome (g.S.Shelf.held c.args.shelf.now)
    (λ h. IsAllowed (AfterAllPlans net (map (λ name. texts_of h name) (map string_bytes c.args.names.now)) Nothing) (made_of early)))
    c.from_residual.result c.in_err-plan.field-0.0 c.from_residual.ensures.1
    (told_early (g.S.Shelf.held c.args.shelf.now) net c.args.names.now c.plans.plans.items c.plans.place c.index-names-place.result
    (made_of c.in_err-plan.field-0.0) c.plans.invariant.placed c.plans.invariant.read c.plans.invariant.accepted
    c.plans-test.true c.index-names-place.is makes)

pub plans-preserved : goal.plans-preserved
plans-preserved g c =
    let net = network c.args.topo.now in
    let longer : c.push.new.self.items ≡ c.plans.plans.items ++ c.in_ok-plan.plan ∷ [] = search rules in
    let says =
    subst (λ (held : Option (List ℕ → Option (List ℕ))). IfSome held
    (λ h. plan_in_file net (c.plans.place + 1) (texts_of h (string_bytes c.index-names-place.result)) ≡ Ok c.in_ok-plan.plan)) c.plans.invariant.same_held
    (
    subst (λ (n : List ℕ). IfSome (g.S.Shelf.held c.plans.shelf) (λ h. plan_in_file net (c.plans.place + 1) (texts_of h n) ≡ Ok c.in_ok-plan.plan))
    c.as_str-name.ensures.value
    c.in_ok-plan.ensures.read
    ) in
    record {
      read =
          told_more (g.S.Shelf.held c.args.shelf.now) net c.args.names.now c.plans.plans.items c.push.new.self.items c.plans.place c.index-names-place.result
          c.in_ok-plan.plan c.plans.invariant.placed c.plans.invariant.read c.plans-test.true
          c.index-names-place.is says longer;
      fit = each_more (Fits net) c.plans.plans.items c.push.new.self.items c.in_ok-plan.plan c.plans.invariant.fit c.in_ok-plan.ensures.fits longer;
      accepted = each_more (IsAccepted net) c.plans.plans.items c.push.new.self.items c.in_ok-plan.plan c.plans.invariant.accepted c.in_ok-plan.ensures.accepted
          longer;
      placed = search rules;
      count = search rules;
      steady = search rules;
      same_held = search rules;
      same_names = search rules;
    }
