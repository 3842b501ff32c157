use Rattle.std.proofs.Common.{ℕ, List, Option, sym, subst}
use Rattle.sd_checker.specs.check_hit.Outages.{net_of, plan_of}
use Rattle.sd_plan.proofs.Forest.{forest_of}
use Rattle.sd_drill.specs.Spared.{AreSparedBounds}
use Rattle.sd_drill.proofs.recovery.Sparing.{bound_spared, bounds_noted}
use Rattle.sd_drill.proofs.drill.note_bound.Goals as goal

pub returns : goal.returns
returns c =
    let o = c.args.outage.now in
    let net = net_of o in
    let plan = plan_of o in
    let budget = c.args.times.budget in
    let index = o.planned.is_index in
    let found = c.find_bound.ensures.known in
    let before = c.find_bound.new.known.spared.known.items in
    record {
      bound = c.in_ok-bound.ensures.bound;
      known = record {
        growths = found.growths;
        spared = subst (λ (xs : List (Option ℕ)). AreSparedBounds net plan budget xs) (sym c.note.ensures)
            (bounds_noted net plan budget before c.args.d c.in_ok-bound.bound c.requires.device found.spared
            (bound_spared net plan (forest_of net plan index.fits index.structured) budget o.domain c.args.d c.in_ok-bound.bound c.requires.device
            c.requires.spared c.in_ok-bound.ensures.bound));
        room = found.room;
      };
      ready = c.in_ok-bound.ensures.ready;
    }
