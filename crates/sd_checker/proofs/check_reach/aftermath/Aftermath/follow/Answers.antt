use Rattle.std.specs.Prelude.{◌≡◌, ℕ, ◌<◌, Bool, true, false, not, List, [], length, slice_get, Some, ◌⊎◌}
use Rattle.std.proofs.Common.{refl, sym, ap, ◌∙◌, subst, arith, inl, inr, get_or, set}
use Rattle.std.proofs.lemmas.Option.{slice_get-get_or, slice_get_within, same_Some}
use Rattle.std.proofs.Math.ListN.{length-set}
use Rattle.sd_num.specs.Lists.{has}
use Rattle.sd_plan.specs.topo.Network.{Network}
use Rattle.sd_checker.specs.check_reach.Aftermaths.{net_of, plan_of, domain_of, hit_of}
use Rattle.sd_plan.specs.declared.domain.DomainId.{DomainId}
use Rattle.sd_plan.specs.declared.Plan.{Plan}
use Rattle.sd_checker.specs.check_reach.Reach.{Fed}
use Rattle.sd_checker.specs.check_reach.Turns.{AreMarks, IsTrail, IsFollowed, IsHeld, is_unfed}
use Rattle.sd_checker.specs.declared.check_reach.marks.Mark.{Mark}
use Rattle.sd_checker.specs.declared.check_reach.marks.Mark.TheVariants as mark
use Rattle.sd_checker.proofs.check_hit.HitList.{hit_at}
use Rattle.sd_checker.proofs.check_reach.Following.{marks_more, looked_at, trail_more, start_more, leads_more, ends_unfed, two_marks, held_more}
use Rattle.sd_checker.proofs.check_reach.aftermath.Aftermath.follow.Goals as goal

no_trail : (hit : List ℕ) (marks : List Mark) (trail : List ℕ) → trail ≡ [] → IsTrail hit marks marks trail
no_trail hit marks trail none =
    subst (λ (xs : List ℕ). IsTrail hit marks marks xs) (sym none) (record { was_unseen = λ i there. cc; is_unfed = λ i there. cc; rest = λ i out. refl })

not_in : (trail : List ℕ) (i : ℕ) → trail ≡ [] → has trail i ≡ true → ⊥
not_in trail i none there = let h : has [] i ≡ true = subst (λ (xs : List ℕ). has xs i ≡ true) none there in cc

pub loop-marks-init : goal.loop-marks-init
loop-marks-init c =
    let o = c.args.self.now in
    let hit = (hit_of o) in
    let none = c.requires.none in
    record {
      range = c.requires.place;
      size = refl;
      right = marks_more (net_of o) (plan_of o) (domain_of o) hit (λ e. ⊥) (λ e. slice_get hit c.args.start ≡ Some e) c.args.marks.now
          (λ e wrong. absurd wrong) c.requires.marks;
      trail = no_trail hit c.args.marks.now c.args.trail.now.items none;
      leads = λ i x there is e at fed. absurd (not_in c.args.trail.now.items i none there);
      start = inl refl;
    }

pub turn-requires : goal.turn-requires
turn-requires c =
    let o = c.args.self.now in
    let place = c.loop-marks.place in
    (hit_at (net_of o) (plan_of o) (domain_of o) (hit_of o) place (get_or (hit_of o) place 0) c.args.self.now.outage.hits
    (slice_get-get_or (hit_of o) place 0 c.loop-marks.invariant.range)).0

pub returns-in-Fed : goal.returns-in-Fed
returns-in-Fed c =
    let o = c.args.self.now in
    let net = net_of o in
    let hit = (hit_of o) in
    let place = c.loop-marks.place in
    let marks = c.loop-marks.marks in
    let trail = c.loop-marks.trail.items in
    let known = c.loop-marks.invariant in
    let d = get_or hit place 0 in
    let at : slice_get hit place ≡ Some d = slice_get-get_or hit place 0 known.range in
    let inside : place < length marks = omega (arith, known.right.size, known.range) in
    let unseen : slice_get marks place ≡ Some mark.Unseen = slice_get-get_or marks place mark.Unseen inside ∙ ap Some c.in-Unseen.is in
    let fed : Fed net (plan_of o) (domain_of o) d = c.in-Fed.ensures in
    subst (λ (xs : List ℕ). IsFollowed net (plan_of o) (domain_of o) hit c.args.start c.args.marks.now (set marks place mark.Unfed) xs true)
    (sym c.in-Ok.ensures.items) (record {
      size = length-set marks place mark.Unfed ∙ known.size;
      followed = trail_more net (plan_of o) (domain_of o) hit place d marks at unseen c.args.marks.now trail known.trail;
      all_fed = λ is i x there here. leads_more net (plan_of o) (domain_of o) hit place d marks at unseen trail (Fed net (plan_of o) (domain_of o) d)
          (λ x. x) known.leads i x there here fed;
      right = λ is. cc;
      marked = λ lost. two_marks (slice_get (set marks place mark.Unfed) c.args.start) lost
          (start_more net (plan_of o) (domain_of o) hit place d marks at unseen c.args.start known.start) (λ same. cc);
    })

pub returns-in-Lost : goal.returns-in-Lost
returns-in-Lost c =
    let o = c.args.self.now in
    let net = net_of o in
    let hit = (hit_of o) in
    let place = c.loop-marks.place in
    let marks = c.loop-marks.marks in
    let trail = c.loop-marks.trail.items in
    let known = c.loop-marks.invariant in
    let d = get_or hit place 0 in
    let at : slice_get hit place ≡ Some d = slice_get-get_or hit place 0 known.range in
    let inside : place < length marks = omega (arith, known.right.size, known.range) in
    let unseen : slice_get marks place ≡ Some mark.Unseen = slice_get-get_or marks place mark.Unseen inside ∙ ap Some c.in-Unseen.is in
    subst (λ (xs : List ℕ). IsFollowed net (plan_of o) (domain_of o) hit c.args.start c.args.marks.now (set marks place mark.Unfed) xs false)
    (sym c.in-Ok.ensures.items) (record {
      size = length-set marks place mark.Unfed ∙ known.size;
      followed = trail_more net (plan_of o) (domain_of o) hit place d marks at unseen c.args.marks.now trail known.trail;
      all_fed = λ is i x there here. cc;
      right = λ is. looked_at net (plan_of o) (domain_of o) hit place d marks at unseen (λ e. ⊥) known.right c.in-Lost.ensures;
      marked = λ lost. two_marks (slice_get (set marks place mark.Unfed) c.args.start) lost
          (start_more net (plan_of o) (domain_of o) hit place d marks at unseen c.args.start known.start) (λ same. cc);
    })

pub loop-marks-preserved : goal.loop-marks-preserved
loop-marks-preserved c =
    let o = c.args.self.now in
    let net = net_of o in
    let hit = (hit_of o) in
    let place = c.loop-marks.place in
    let marks = c.loop-marks.marks in
    let trail = c.loop-marks.trail.items in
    let known = c.loop-marks.invariant in
    let next = c.in-To.next in
    let d = get_or hit place 0 in
    let at : slice_get hit place ≡ Some d = slice_get-get_or hit place 0 known.range in
    let inside : place < length marks = omega (arith, known.right.size, known.range) in
    let unseen : slice_get marks place ≡ Some mark.Unseen = slice_get-get_or marks place mark.Unseen inside ∙ ap Some c.in-Unseen.is in
    let turn : (e : ℕ) × (slice_get hit next ≡ Some e) × (Fed net (plan_of o) (domain_of o) e → Fed net (plan_of o) (domain_of o) d)
    × IsHeld net (plan_of o) (domain_of o) (λ x. x ≡ e) d = c.in-To.ensures in
    record {
      range = slice_get_within hit next turn.0 turn.1;
      size = length-set marks place mark.Unfed ∙ known.size;
      right = looked_at net (plan_of o) (domain_of o) hit place d marks at unseen (λ e. slice_get hit next ≡ Some e) known.right
          (held_more net (plan_of o) (domain_of o) hit (λ x. x ≡ turn.0) (λ e. slice_get hit next ≡ Some e) d
          (λ x same. subst (λ y. slice_get hit next ≡ Some y) (sym same) turn.1) turn.3);
      trail = subst (λ (xs : List ℕ). IsTrail hit c.args.marks.now (set marks place mark.Unfed) xs) (sym c.in-Ok.ensures.items)
          (trail_more net (plan_of o) (domain_of o) hit place d marks at unseen c.args.marks.now trail known.trail);
      leads = λ i x there here e later fed.
          leads_more net (plan_of o) (domain_of o) hit place d marks at unseen trail (Fed net (plan_of o) (domain_of o) turn.0) turn.2 known.leads i x
          (subst (λ (xs : List ℕ). has xs i ≡ true) c.in-Ok.ensures.items there) here
          (subst (λ y. Fed net (plan_of o) (domain_of o) y) (same_Some e turn.0 (sym later ∙ turn.1)) fed);
      start = inr (start_more net (plan_of o) (domain_of o) hit place d marks at unseen c.args.start known.start);
    }

-- what the mark tells at which the trail ends
ended : (net : Network) (plan : Plan) (domain : DomainId) (hit : List ℕ) (start place d : ℕ) (old marks : List Mark) (trail : List ℕ) (m : Mark)
    → (m ≡ mark.Unseen → ⊥)
    → slice_get hit place ≡ Some d → slice_get marks place ≡ Some m
    → length marks ≡ length old → AreMarks net plan domain hit (λ e. slice_get hit place ≡ Some e) marks → IsTrail hit old marks trail
    → ((i x : ℕ) → has trail i ≡ true → slice_get hit i ≡ Some x → (e : ℕ) → slice_get hit place ≡ Some e → Fed net plan domain e → Fed net plan domain x)
    → (place ≡ start) ⊎ (slice_get marks start ≡ Some mark.Unfed)
    → IsFollowed net plan domain hit start old marks trail (not (is_unfed m))
ended net plan domain hit start place d old marks trail m seen at is size right followed leads begun =
    record {
      size = size;
      followed = followed;
      all_fed = λ fed i x there here. by_fed m is seen fed i x there here;
      right = λ unfed. by_unfed m is unfed;
      marked = λ lost. elim begun [
        | inl here ↦ seen (same_Some m mark.Unseen (sym is ∙ subst (λ j. slice_get marks j ≡ Some mark.Unseen) (sym here) lost))
        | inr unfed ↦ two_marks (slice_get marks start) lost unfed (λ same. cc)
      ];
    }
  where
    by_fed : (m : Mark) → slice_get marks place ≡ Some m → (m ≡ mark.Unseen → ⊥) → not (is_unfed m) ≡ true → (i x : ℕ) → has trail i ≡ true
        → slice_get hit i ≡ Some x → Fed net plan domain x
    by_fed mark.Unseen is seen fed i x there here = absurd (seen refl)
    by_fed mark.Fed is seen fed i x there here = leads i x there here d at (right.fed place d at is)
    by_fed mark.Unfed is seen fed i x there here = cc

    by_unfed : (m : Mark) → slice_get marks place ≡ Some m → not (is_unfed m) ≡ false → AreMarks net plan domain hit (λ e. ⊥) marks
    by_unfed mark.Unseen is unfed = cc
    by_unfed mark.Fed is unfed = cc
    by_unfed mark.Unfed is unfed = ends_unfed net plan domain hit place d marks at is right

pub returns : goal.returns
returns c =
    let o = c.args.self.now in
    let net = net_of o in
    let hit = (hit_of o) in
    let place = c.loop-marks.place in
    let marks = c.loop-marks.marks in
    let known = c.loop-marks.invariant in
    let m = get_or marks place mark.Unseen in
    let inside : place < length marks = omega (arith, known.right.size, known.range) in
    subst (λ (b : Bool). IsFollowed net (plan_of o) (domain_of o) hit c.args.start c.args.marks.now marks c.loop-marks.trail.items (not b))
    (sym c.is_unfed.ensures)
    (ended net (plan_of o) (domain_of o) hit c.args.start place (get_or hit place 0) c.args.marks.now marks c.loop-marks.trail.items m c.in_default.not-Unseen
    (slice_get-get_or hit place 0 known.range) (slice_get-get_or marks place mark.Unseen inside) known.size known.right known.trail known.leads known.start)
