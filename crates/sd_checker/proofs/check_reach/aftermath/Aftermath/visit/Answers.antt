use Rattle.std.proofs.Common.{◌≡◌, ℕ, true, List, ap, refl, sym, ◌∙◌, subst}
use Rattle.sd_num.specs.Lists.{has}
use Rattle.sd_checker.specs.check_reach.Aftermaths.{net_of, plan_of, domain_of}
use Rattle.sd_checker.specs.check_reach.Reached.{Grows, IsPassed}
use Rattle.sd_checker.proofs.check_reach.Joining.{grows_insert, has_insert}
use Rattle.sd_checker.proofs.check_reach.aftermath.Aftermath.visit.Goals as goal

pub returns-clause-passed : goal.returns-clause-passed
returns-clause-passed c = λ passed left.
    subst (λ (xs : List ℕ). has xs c.args.end.device ≡ true) (sym (ap (λ s. s.numbers) c.insert.ensures.added))
    (has_insert c.args.visited.now.numbers c.args.end.device)

pub returns-clause-grown : goal.returns-clause-grown
returns-clause-grown c =
    let o = c.args.self.now in
    let e = c.args.end.device in
    let P : ℕ → Type 0 = IsPassed (net_of o) (plan_of o) (domain_of o) c.args.end.link e in
    subst (λ (xs : List ℕ). Grows c.args.visited.now.numbers xs P) (sym (ap (λ s. s.numbers) c.insert.ensures.added))
    (grows_insert c.args.visited.now.numbers e P
    (record { same = refl; left = sym c.leaves.ensures ∙ c.if-not-leaves.false; other = c.if-is_sure.ensures.other refl }))
