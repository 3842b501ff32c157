use Rattle.std.proofs.Common.{◌≡◌, ◌∙◌, ℕ, List, Some, inl, inr, get_or, sym, subst, arith, slice_get}
use Rattle.std.proofs.lemmas.Bool.{cases_lt}
use Rattle.std.proofs.lemmas.Option.{same_Some, slice_get-get_or, slice_get_within}
use Rattle.sd_planner.specs.Views.{net_of, left_out}
use Rattle.sd_planner.specs.declared.present.Neighbour.{Neighbour}
use Rattle.sd_why.specs.Rings.{IsMet}
use Rattle.sd_why.proofs.Neighbours.{neighbour_at, neighbour_next}
use Rattle.sd_why.proofs.Rings.{meeting_keeps, meeting_meets, meeting_size, spreads_meeting}
use Rattle.sd_why.proofs.ways.meet_neighbours.Goals as goal

pub loop-neighbour-preserved : goal.loop-neighbour-preserved
loop-neighbour-preserved c =
    let net = net_of c.args.present.now in
    let near = c.neighbours_of-neighbours.result.now in
    let i = c.loop-neighbour.neighbour-index in
    let known = c.loop-neighbour.known in
    let new = c.meet.new.known in
    let next = c.loop-neighbour.next.items in
    let more = c.meet.new.next.items in
    let this : Neighbour = get_or near i (record { device = 0; link = 0 }) in
    let at : slice_get near i ≡ Some this = slice_get-get_or near i (record { device = 0; link = 0 }) c.loop-neighbour-test.true in
    let beside =
    neighbour_next net (left_out c.args.present.now) c.args.d i this
    (subst (λ (xs : List Neighbour). slice_get xs i ≡ Some this) c.neighbours_of-neighbours.ensures.are at) in
    let meeting = c.in_ok-meet.ensures in
    record {
      spreads = λ old ring there so_far.
          spreads_meeting net ring c.args.hops old known new next more c.args.d this.device there beside meeting
          (c.loop-neighbour.invariant.spreads old ring there so_far);
      met = λ k neighbour less is. elim (cases_lt k i) [
        | inl early ↦ meeting_keeps known new next more this.device c.args.hops neighbour.device meeting (c.loop-neighbour.invariant.met k neighbour early is)
        | inr late ↦
            (let same : k ≡ i = omega (arith, less, late) in
            let one : this ≡ neighbour = same_Some this neighbour (sym at ∙ subst (λ (n : ℕ). slice_get near n ≡ Some neighbour) same is) in
            subst (λ (x : Neighbour). IsMet new x.device) one (meeting_meets known new next more this.device c.args.hops meeting))
      ];
      kept = λ e was. meeting_keeps known new next more this.device c.args.hops e meeting (c.loop-neighbour.invariant.kept e was);
      size = meeting_size known new next more this.device c.args.hops meeting ∙ c.loop-neighbour.invariant.size;
    }

pub returns-clause-met : goal.returns-clause-met
returns-clause-met c =
    λ e within next.
    let near = c.neighbours_of-neighbours.result.now in
    let (k, neighbour, at, is, by) =
    neighbour_at (net_of c.args.present.now) (left_out c.args.present.now) c.args.d e c.requires.whole within next in
    let here : slice_get near k ≡ Some neighbour =
    subst (λ (xs : List Neighbour). slice_get xs k ≡ Some neighbour) (sym c.neighbours_of-neighbours.ensures.are) at in
    subst (λ x. IsMet c.loop-neighbour.known x) is
    (c.loop-neighbour.invariant.met k neighbour (omega (arith, slice_get_within near k neighbour here, c.loop-neighbour-test.false)) here)
