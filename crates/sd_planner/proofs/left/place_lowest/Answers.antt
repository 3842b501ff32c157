use Rattle.std.proofs.Common.{◌<◌, ◌||◌, ◌&&◌, not, All, refl, sym, ap, ◌∙◌, subst}
use Rattle.sd_num.specs.Lists.{has}
use Rattle.sd_planner.specs.declared.present.Neighbour.{Neighbour}
use Rattle.sd_planner.specs.Views.{net_of, left_out}
use Rattle.sd_planner.specs.Spreading.{is_placed}
use Rattle.sd_planner.specs.Nearing.{AreKnown}
use Rattle.sd_planner.specs.Waits.{lead_to}
use Rattle.sd_planner.proofs.Growing.{grows_known}
use Rattle.sd_planner.proofs.Waiters.{none_next, next_is, waiting_next, waits_member}
use Rattle.sd_planner.proofs.left.place_lowest.Goals as goal

pub returns-in_default-clause-step : goal.returns-in_default-clause-step
returns-in_default-clause-step c =
    let net = net_of c.args.present.now in
    let absent = left_out c.args.present.now in
    let known = grows_known net c.requires.grown.0 absent c.args.placement.now.order c.requires.grown.1.grown in
    (none_next net absent c.args.placement.now.order c.args.waiting.now known c.requires.waiting c.in_default.ensures, refl)

pub place_nearest-requires-clause-range : goal.place_nearest-requires-clause-range
place_nearest-requires-clause-range c =
    let net = net_of c.args.present.now in
    let absent = left_out c.args.present.now in
    let known = grows_known net c.requires.grown.0 absent c.args.placement.now.order c.requires.grown.1.grown in
    (waits_member net absent c.args.placement.now.order c.in-Some.d known (sym (c.requires.waiting.each c.in-Some.d) ∙ c.in-Some.ensures.there)).0

pub place_nearest-requires-clause-known : goal.place_nearest-requires-clause-known
place_nearest-requires-clause-known c =
    let net = net_of c.args.present.now in
    let absent = left_out c.args.present.now in
    let known = grows_known net c.requires.grown.0 absent c.args.placement.now.order c.requires.grown.1.grown in
    subst (λ n. AreKnown n c.args.placement.now.order) (sym c.requires.count) known

pub neighbours_of-requires : goal.neighbours_of-requires
neighbours_of-requires c =
    let net = net_of c.args.present.now in
    let absent = left_out c.args.present.now in
    let known = grows_known net c.requires.grown.0 absent c.args.placement.now.order c.requires.grown.1.grown in
    (waits_member net absent c.args.placement.now.order c.in-Some.d known (sym (c.requires.waiting.each c.in-Some.d) ∙ c.in-Some.ensures.there)).0

pub add_neighbours-requires : goal.add_neighbours-requires
add_neighbours-requires c =
    subst (λ n. All (λ (neighbour : Neighbour). neighbour.device < n) c.neighbours_of.result.now)
    (sym (ap (λ p. p.count) c.in_ok-place_nearest.ensures ∙ c.requires.count)) c.neighbours_of.ensures.within

pub returns-clause-step : goal.returns-clause-step
returns-clause-step c =
    let net = net_of c.args.present.now in
    let absent = left_out c.args.present.now in
    let known = grows_known net c.requires.grown.0 absent c.args.placement.now.order c.requires.grown.1.grown in
    record {
      lowest = c.in-Some.d;
      next = next_is net absent c.args.placement.now.order c.args.waiting.now c.take_lowest.new.self c.in-Some.d known c.requires.waiting c.in-Some.ensures;
      with_it = ap (λ p. p.order) c.in_ok-place_nearest.ensures;
      waiting =
          waiting_next net absent c.args.placement.now.order c.place_nearest.new.placement.order c.args.waiting.now c.take_lowest.new.self
          c.add_neighbours.new.waiting c.in-Some.d known c.requires.waiting c.in-Some.ensures
          (ap (λ p. p.order) c.in_ok-place_nearest.ensures) (λ x.
          c.in_ok-add_neighbours.ensures x
          ∙ ap (λ neighbours. has c.take_lowest.new.self x || (not (is_placed c.place_nearest.new.placement.order x) && lead_to neighbours x))
          c.neighbours_of.ensures.are);
    }
