use Rattle.std.proofs.Common.{◌≡◌, ◌<◌, ◌+◌, ℕ, Bool, List, length, Some, get_or, slice_get, sym, ◌∙◌, subst, arith}
use Rattle.std.proofs.lemmas.Option.{slice_get-get_or}
use Rattle.sd_checker.specs.check_reach.Aftermaths.{net_of, plan_of, domain_of, hit_of}
use Rattle.sd_checker.proofs.check_hit.HitList.{hit_at, hit_rises}
use Rattle.sd_plan.proofs.Rules.{keeps_rules}
use Rattle.sd_checker.specs.check_reach.Candidates.{Chooses, loses}
use Rattle.sd_checker.proofs.check_reach.Chosen.{chooses_more, chooses_not, losing_all}
use Rattle.sd_checker.proofs.check_reach.aftermath.Aftermath.losing.Goals as goal
use Rattle.sd_checker.proofs.check_reach.aftermath.Aftermath.losing.Goals.{then-loses+in_ok-push, else-loses}

pub loses-requires : goal.loses-requires
loses-requires c =
    let o = c.args.self.now in
    let k = c.loop-d.d-index in
    let hit = (hit_of o) in
    let inside : k < length hit = omega arith in
    (hit_at (net_of o) (plan_of o) (domain_of o) hit k (get_or hit k 0) c.args.self.now.outage.hits (slice_get-get_or hit k 0 inside)).1

pub loop-d-preserved : goal.loop-d-preserved
loop-d-preserved c =
    let o = c.args.self.now in
    let net = net_of o in
    let hit = (hit_of o) in
    let k = c.loop-d.d-index in
    let d = get_or hit k 0 in
    let inside : k < length hit = omega arith in
    let at : slice_get hit k ≡ Some d = slice_get-get_or hit k 0 inside in
    let P : ℕ → ℕ → Bool = λ j x. loses net (plan_of o) (domain_of o) x in
    elim c.if-loses.branch [
      | then-loses+in_ok-push w ↦
          subst (λ (xs : List ℕ). Chooses hit P (k + 1) xs) (sym (w.losing-is ∙ w.in_ok-push.ensures.added))
          (chooses_more hit P k d c.loop-d.losing at (sym c.loses.ensures ∙ w.if-loses.true)
          (λ i j x y less here later. hit_rises net (plan_of o) (domain_of o) hit i j x y c.args.self.now.outage.hits less here later) c.loop-d.invariant)
      | else-loses w ↦
          subst (λ (xs : List ℕ). Chooses hit P (k + 1) xs) (sym w.losing-is)
          (chooses_not hit P k d c.loop-d.losing at (sym c.loses.ensures ∙ w.if-loses.false) c.loop-d.invariant)
    ]

pub returns : goal.returns
returns c =
    let o = c.args.self.now in
    let net = net_of o in
    let hit = (hit_of o) in
    let index = c.args.self.now.outage.planned.is_index in
    let all : c.loop-d.d-index ≡ length hit = omega (arith, c.loop-d-test.false, c.loop-d.auto.d-index-end) in
    losing_all net (plan_of o) (domain_of o) hit c.args.self.now.outage.hits index.fits (keeps_rules net (plan_of o) index.structured) c.loop-d.losing
    (subst (λ (n : ℕ). Chooses hit (λ j x. loses net (plan_of o) (domain_of o) x) n c.loop-d.losing) all c.loop-d.invariant)
