use Rattle.std.proofs.Common.{List, ℕ, Option, Some, None, sym, subst}
use Rattle.sd_planner.specs.Views.{net_of}
use Rattle.sd_why.specs.Kinds as kind
use Rattle.sd_why.specs.Reasons.{IsReasonOf}
use Rattle.sd_why.specs.Ways.{AreDistances}
use Rattle.sd_why.specs.declared.Reason.TheVariants as reason
use Rattle.sd_why.proofs.Judging.{all_connected, apart_judged}
use Rattle.sd_why.proofs.Laws.{apart_law}
use Rattle.sd_why.proofs.apart.apart_device.Goals as goal

pub returns-in-Some-clause-judges : goal.returns-in-Some-clause-judges
returns-in-Some-clause-judges c =
    let net = net_of c.args.present.now in
    let are = subst (λ (known : List (Option ℕ)). AreDistances net 0 known) (sym c.deref.ensures.value) c.in_ok-known.ensures in
    apart_judged net c.deref.result.now (Some c.in-Some.d) are c.in-Some.ensures

pub returns-in-Some-clause-law : goal.returns-in-Some-clause-law
returns-in-Some-clause-law c =
    let net = net_of c.args.present.now in
    let are = subst (λ (known : List (Option ℕ)). AreDistances net 0 known) (sym c.deref.ensures.value) c.in_ok-known.ensures in
    let is : IsReasonOf net kind.apart (reason.Apart c.in-Some.d) = apart_judged net c.deref.result.now (Some c.in-Some.d) are c.in-Some.ensures in
    apart_law net is.holds

pub returns-clause-judges : goal.returns-clause-judges
returns-clause-judges c =
    let net = net_of c.args.present.now in
    let are = subst (λ (known : List (Option ℕ)). AreDistances net 0 known) (sym c.deref.ensures.value) c.in_ok-known.ensures in
    apart_judged net c.deref.result.now None are c.in-None.ensures

pub returns-clause-connected : goal.returns-clause-connected
returns-clause-connected c =
    let net = net_of c.args.present.now in
    let are = subst (λ (known : List (Option ℕ)). AreDistances net 0 known) (sym c.deref.ensures.value) c.in_ok-known.ensures in
    λ none. all_connected net c.deref.result.now are c.in-None.ensures
