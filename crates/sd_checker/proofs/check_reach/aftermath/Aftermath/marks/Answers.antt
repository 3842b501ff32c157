use Rattle.std.proofs.Common.{◌≡◌, ℕ, ◌+◌, ◌<◌, ◌++◌, List, length, Some, slice_get, subst, sym, arith, take, drop}
use Rattle.sd_checker.specs.check_reach.Aftermaths.{net_of, plan_of, domain_of, hit_of}
use Rattle.sd_plan.specs.topo.Network.{Network}
use Rattle.sd_plan.specs.declared.domain.DomainId.{DomainId}
use Rattle.sd_plan.specs.declared.Plan.{Plan}
use Rattle.std.proofs.lemmas.Option.{slice_get_within}
use Rattle.sd_checker.specs.check_reach.Turns.{AreMarks, AreSettled}
use Rattle.sd_checker.specs.declared.check_reach.marks.Mark.{Mark}
use Rattle.sd_checker.specs.declared.check_reach.marks.Mark.TheVariants as mark
use Rattle.sd_checker.proofs.check_reach.Following.{seen_more, written_back}
use Rattle.sd_checker.proofs.check_reach.aftermath.Aftermath.marks.Goals as goal

all_unseen : (net : Network) (plan : Plan) (domain : DomainId) (hit : List ℕ) (marks : List Mark) → length marks ≡ length hit
    → ((i : ℕ) → i < length hit → slice_get marks i ≡ Some mark.Unseen)
    → AreMarks net plan domain hit (λ e. ⊥) marks
all_unseen net plan domain hit marks size each = record {
  size = size;
  fed = λ i d at is. let unseen : slice_get marks i ≡ Some mark.Unseen = each i (slice_get_within hit i d at) in cc;
  unfed = λ i d at is. let unseen : slice_get marks i ≡ Some mark.Unseen = each i (slice_get_within hit i d at) in cc;
}

pub loop-place-init : goal.loop-place-init
loop-place-init c =
    let o = c.args.self.now in
    let made = c.in_ok-marks.ensures in
    record {
      right = all_unseen (net_of o) (plan_of o) (domain_of o) (hit_of o) c.in_ok-marks.marks.items made.0 made.1;
      seen = λ i none. absurd (omega arith);
    }

pub loop-place-preserved : goal.loop-place-preserved
loop-place-preserved c =
    let o = c.args.self.now in
    let net = net_of o in
    let hit = (hit_of o) in
    let old = c.loop-place.marks.items in
    let new = c.mark_from.new.marks in
    let right = c.in_ok-mark_from.ensures.marks in
    let size : length new ≡ c.loop-place.marks.len = omega (arith, right.size, c.loop-place.invariant.right.size, c.loop-place.marks.ok.0) in
    let back : take c.loop-place.marks.len (new ++ drop (length new) old) ≡ new = written_back c.loop-place.marks.len new (drop (length new) old) size in
    let settled : AreSettled c.loop-place.place old new =
    subst (λ (ms : List Mark). AreSettled c.loop-place.place ms new) c.deref_mut.ensures.value c.in_ok-mark_from.ensures.settled in
    let within : c.loop-place.place < length old = omega (arith, c.loop-place.invariant.right.size, c.loop-place-test.true) in
    record {
      right = subst (λ (ms : List Mark). AreMarks net (plan_of o) (domain_of o) hit (λ e. ⊥) ms) (sym back) right;
      seen = subst (λ (ms : List Mark). (i : ℕ) → i < c.loop-place.place + 1 → slice_get ms i ≡ Some mark.Unseen → ⊥) (sym back)
          (seen_more old new c.loop-place.place settled within c.loop-place.invariant.seen);
    }
