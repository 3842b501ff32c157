use Rattle.std.proofs.Common.{◌≡◌, Some, None, ap, sym, ◌∙◌, arith}
use Rattle.std.proofs.lemmas.Option.{same_Some}
use Rattle.sd_planner.specs.Spreading.{placed_at}
use Rattle.sd_planner.specs.Surveys.{net_in, absent_in, order_of}
use Rattle.sd_planner.proofs.Adding.{goes_up, one_hop, way_done, way_ends}
use Rattle.sd_planner.proofs.FoundDevices.{survey_grows}
use Rattle.sd_planner.proofs.backups.survey.Survey.add_walk.Goals as goal

pub add_hop-requires-clause-parent : goal.add_hop-requires-clause-parent
add_hop-requires-clause-parent c =
    let s = c.args.self.now in
    let net = net_in s in
    let up = goes_up net s.root (absent_in s) (order_of s) c.loop-here.here c.in-Some.hop (survey_grows s) c.loop-here.invariant.found c.in-Some.is in
    omega (arith, up.within, c.loop-here.invariant.device_size, c.requires.sized.devices)

pub add_hop-requires-clause-link : goal.add_hop-requires-clause-link
add_hop-requires-clause-link c =
    let s = c.args.self.now in
    let net = net_in s in
    let up = goes_up net s.root (absent_in s) (order_of s) c.loop-here.here c.in-Some.hop (survey_grows s) c.loop-here.invariant.found c.in-Some.is in
    omega (arith, up.link, c.loop-here.invariant.link_size, c.requires.sized.links)

pub loop-here-smaller : goal.loop-here-smaller
loop-here-smaller c =
    let s = c.args.self.now in
    let net = net_in s in
    let up = goes_up net s.root (absent_in s) (order_of s) c.loop-here.here c.in-Some.hop (survey_grows s) c.loop-here.invariant.found c.in-Some.is in
    let same : up.parent ≡ c.in-Some-placed.parent =
    same_Some up.parent c.in-Some-placed.parent (sym up.found ∙ sym c.placed.ensures.is ∙ c.in-Some-placed.is) in
    let deeper = up.deeper in
    rw (← same) (omega arith)

pub loop-here-preserved : goal.loop-here-preserved
loop-here-preserved c =
    let s = c.args.self.now in
    let net = net_in s in
    let up = goes_up net s.root (absent_in s) (order_of s) c.loop-here.here c.in-Some.hop (survey_grows s) c.loop-here.invariant.found c.in-Some.is in
    let same = c.in-Some-placed.ensures.same in
    one_hop (order_of s) c.args.own c.loop-here.here c.in-Some-placed.parent c.in-Some.hop c.args.things.now c.loop-here.things c.add_hop.new.self
    c.loop-here.invariant c.add_hop.ensures up.way same
    (ap (placed_at (order_of s)) same ∙ sym c.placed.ensures.is ∙ c.in-Some-placed.is)

pub unreachable-requires : goal.unreachable-requires
unreachable-requires c =
    let s = c.args.self.now in
    let net = net_in s in
    let up = goes_up net s.root (absent_in s) (order_of s) c.loop-here.here c.in-Some.hop (survey_grows s) c.loop-here.invariant.found c.in-Some.is in
    let clash : Some up.parent ≡ None = sym up.found ∙ sym c.placed.ensures.is ∙ c.in-None.is in
    cc

pub returns : goal.returns
returns c =
    let s = c.args.self.now in
    let net = net_in s in
    way_done (order_of s) c.args.own c.loop-here.here c.args.things.now c.loop-here.things c.loop-here.invariant
    (way_ends net s.root (absent_in s) (order_of s) c.loop-here.here (survey_grows s) c.loop-here.invariant.found c.in_default.is)
