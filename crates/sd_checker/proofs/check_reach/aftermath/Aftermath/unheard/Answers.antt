use Rattle.std.proofs.Common.{◌≡◌, ◌<◌, ◌+◌, ℕ, Bool, ◌&&◌, not, List, length, Some, get_or, slice_get, sym, ap, ◌∙◌, subst, arith}
use Rattle.std.proofs.lemmas.Bool.{and_from, and_left, and_right, not_from_false, not_from_true}
use Rattle.std.proofs.lemmas.List.{get_or_read}
use Rattle.std.proofs.lemmas.Option.{slice_get-get_or}
use Rattle.sd_checker.specs.check_reach.Aftermaths.{net_of, plan_of, domain_of, hit_of}
use Rattle.sd_plan.specs.domain.Domains.{holds_device}
use Rattle.sd_plan.proofs.Rules.{keeps_rules}
use Rattle.sd_checker.specs.check_reach.Candidates.{Chooses}
use Rattle.sd_checker.specs.check_reach.Turns.{is_unfed}
use Rattle.sd_checker.specs.declared.check_reach.marks.Mark.TheVariants as mark
use Rattle.sd_checker.proofs.check_hit.HitList.{hit_rises}
use Rattle.sd_checker.proofs.check_reach.Chosen.{chooses_more, chooses_not, unheard_all, marks_decide}
use Rattle.sd_checker.proofs.check_reach.aftermath.Aftermath.unheard.Goals as goal
use Rattle.sd_checker.proofs.check_reach.aftermath.Aftermath.unheard.Goals.{then-is_unfed+then-not-holds_device+in_ok-push, else-is_unfed, else-is_unfed-via-then-is_unfed+else-not-holds_device, else-is_unfed-via-else-is_unfed}

pub loop-place-preserved : goal.loop-place-preserved
loop-place-preserved c =
    let o = c.args.self.now in
    let net = net_of o in
    let hit = (hit_of o) in
    let marks = c.in_ok-marks.marks.items in
    let k = c.loop-place.place in
    let d = get_or hit k 0 in
    let inside : k < length hit = omega arith in
    let at : slice_get hit k ≡ Some d = slice_get-get_or hit k 0 inside in
    let P : ℕ → ℕ → Bool = λ j x. is_unfed (get_or marks j mark.Unseen) && not (holds_device net (domain_of o) x) in
    let read : c.index.result.now ≡ get_or marks k mark.Unseen =
    get_or_read marks k c.index.result.now (omega (arith, c.in_ok-marks.ensures.right.size)) c.index.ensures mark.Unseen in
    let test : c.is_unfed.result ≡ is_unfed (get_or marks k mark.Unseen) = c.is_unfed.ensures ∙ ap is_unfed read in
    elim c.if-is_unfed.branch [
      | then-is_unfed+then-not-holds_device+in_ok-push w ↦
          subst (λ (xs : List ℕ). Chooses hit P (k + 1) xs) (sym (w.unheard-is ∙ w.in_ok-push.ensures.added))
          (chooses_more hit P k d c.loop-place.unheard at
          (and_from (is_unfed (get_or marks k mark.Unseen)) (not (holds_device net (domain_of o) d)) (sym test ∙ w.if-is_unfed.true)
          (not_from_false (holds_device net (domain_of o) d) (sym w.holds_device.ensures ∙ w.if-not-holds_device.true)))
          (λ i j x y less here later. hit_rises net (plan_of o) (domain_of o) hit i j x y c.args.self.now.outage.hits less here later) c.loop-place.invariant)
      | else-is_unfed w ↦
          subst (λ (xs : List ℕ). Chooses hit P (k + 1) xs) (sym w.unheard-is)
          (chooses_not hit P k d c.loop-place.unheard at
          (elim w.else-is_unfed.branch [
            | else-is_unfed-via-then-is_unfed+else-not-holds_device v ↦
                and_right (is_unfed (get_or marks k mark.Unseen)) (not (holds_device net (domain_of o) d))
                (not_from_true (holds_device net (domain_of o) d) (sym v.holds_device.ensures ∙ v.if-not-holds_device.false))
            | else-is_unfed-via-else-is_unfed v ↦ and_left (is_unfed (get_or marks k mark.Unseen)) (not (holds_device net (domain_of o) d))
                (sym test ∙ v.if-is_unfed.false)
          ]) c.loop-place.invariant)
    ]

pub returns-clause-all : goal.returns-clause-all
returns-clause-all c =
    let o = c.args.self.now in
    let net = net_of o in
    let hit = (hit_of o) in
    let index = c.args.self.now.outage.planned.is_index in
    let marks = c.in_ok-marks.marks.items in
    let all : c.loop-place.place ≡ length hit = omega (arith, c.loop-place-test.false, c.loop-place.auto.place-end) in
    unheard_all net (plan_of o) (domain_of o) hit c.args.self.now.outage.hits index.fits
    (keeps_rules net (plan_of o) index.structured) marks c.loop-place.unheard c.in_ok-marks.ensures.right c.in_ok-marks.ensures.all
    (subst (λ (n : ℕ). Chooses hit (λ j x. is_unfed (get_or marks j mark.Unseen) && not (holds_device net (domain_of o) x)) n c.loop-place.unheard) all
    c.loop-place.invariant)

pub returns-clause-decided : goal.returns-clause-decided
returns-clause-decided c =
    let o = c.args.self.now in
    let net = net_of o in
    let hit = (hit_of o) in
    let index = c.args.self.now.outage.planned.is_index in
    let marks = c.in_ok-marks.marks.items in
    let all : c.loop-place.place ≡ length hit = omega (arith, c.loop-place-test.false, c.loop-place.auto.place-end) in
    marks_decide net (plan_of o) (domain_of o) hit c.args.self.now.outage.hits index.fits
    (keeps_rules net (plan_of o) index.structured) marks c.loop-place.unheard c.in_ok-marks.ensures.right c.in_ok-marks.ensures.all
    (subst (λ (n : ℕ). Chooses hit (λ j x. is_unfed (get_or marks j mark.Unseen) && not (holds_device net (domain_of o) x)) n c.loop-place.unheard) all
    c.loop-place.invariant)
