use Rattle.std.proofs.Common.{◌≡◌, ◌<◌, ℕ, List, length, Some, [], get_or, slice_get, slice_index_or, ap, ◌∙◌, subst, arith}
use Rattle.std.proofs.lemmas.Option.{slice_get-get_or}
use Rattle.sd_plan.specs.topo.Network.{Network}
use Rattle.sd_checker.specs.check_reach.Aftermaths.{net_of, plan_of, domain_of}
use Rattle.sd_plan.specs.declared.End.{End}
use Rattle.sd_plan.specs.declared.Plan.{Plan}
use Rattle.sd_plan.specs.IndexedPlan.{IndexedPlan, IsIndexOf, usable_ends}
use Rattle.sd_plan.proofs.Numbered.{get_or-numbered}
use Rattle.sd_checker.proofs.check_reach.Joining.{usable_from, over_left, looked_more, passed_more, all_around}
use Rattle.sd_checker.proofs.check_reach.aftermath.Aftermath.look_around.Goals as goal

items_are : (net : Network) (plan : Plan) (index : IndexedPlan) (d : ℕ) (items : List End) → IsIndexOf net plan index → d < length net.devices
    → items ≡ slice_index_or index.usable d [] → items ≡ usable_ends net plan d
items_are net plan index d items indexed within is = is ∙ ap (λ (u : List (List End)). slice_index_or u d []) indexed.usable
    ∙ get_or-numbered (usable_ends net plan) (length net.devices) d [] within

pub visit-requires-clause-device : goal.visit-requires-clause-device
visit-requires-clause-device c =
    let o = c.args.self.now in
    let net = net_of o in
    let items = c.links_at-end-items.result.now in
    let k = c.loop-end.end-index in
    let are = items_are net (plan_of o) o.outage.planned.index.now c.args.d items c.args.self.now.outage.planned.is_index c.requires.device
    c.links_at-end-items.ensures in
    let at : slice_get items k ≡ Some (get_or items k (record { link = 0; device = 0 })) =
    slice_get-get_or items k (record { link = 0; device = 0 }) (omega arith) in
    (usable_from net (plan_of o) c.args.d o.outage.planned.topo.now.is_network k (get_or items k (record { link = 0; device = 0 }))
    (subst (λ (xs : List End). slice_get xs k ≡ Some (get_or items k (record { link = 0; device = 0 }))) are at)).device

pub visit-requires-clause-member : goal.visit-requires-clause-member
visit-requires-clause-member c =
    let o = c.args.self.now in
    let net = net_of o in
    let items = c.links_at-end-items.result.now in
    let k = c.loop-end.end-index in
    let are = items_are net (plan_of o) o.outage.planned.index.now c.args.d items c.args.self.now.outage.planned.is_index c.requires.device
    c.links_at-end-items.ensures in
    let at : slice_get items k ≡ Some (get_or items k (record { link = 0; device = 0 })) =
    slice_get-get_or items k (record { link = 0; device = 0 }) (omega arith) in
    (usable_from net (plan_of o) c.args.d o.outage.planned.topo.now.is_network k (get_or items k (record { link = 0; device = 0 }))
    (subst (λ (xs : List End). slice_get xs k ≡ Some (get_or items k (record { link = 0; device = 0 }))) are at)).member

pub returns-then-visit-clause-met : goal.returns-then-visit-clause-met
returns-then-visit-clause-met c = λ met.
    let o = c.args.self.now in
    let net = net_of o in
    let items = c.links_at-end-items.result.now in
    let k = c.loop-end.end-index in
    let e : End = get_or items k (record { link = 0; device = 0 }) in
    let are = items_are net (plan_of o) o.outage.planned.index.now c.args.d items c.args.self.now.outage.planned.is_index c.requires.device
    c.links_at-end-items.ensures in
    let at : slice_get items k ≡ Some e = slice_get-get_or items k (record { link = 0; device = 0 }) (omega arith) in
    let usable = usable_from net (plan_of o) c.args.d o.outage.planned.topo.now.is_network k e (subst (λ (xs : List End). slice_get xs k ≡ Some e) are at) in
    over_left net (plan_of o) (domain_of o) c.args.d e usable (c.visit.ensures.left c.if-visit.true) (c.visit.ensures.met c.if-visit.true)

pub returns-then-visit-clause-grown : goal.returns-then-visit-clause-grown
returns-then-visit-clause-grown c =
    let o = c.args.self.now in
    let net = net_of o in
    let items = c.links_at-end-items.result.now in
    let k = c.loop-end.end-index in
    let e : End = get_or items k (record { link = 0; device = 0 }) in
    let are = items_are net (plan_of o) o.outage.planned.index.now c.args.d items c.args.self.now.outage.planned.is_index c.requires.device
    c.links_at-end-items.ensures in
    let at : slice_get items k ≡ Some e = slice_get-get_or items k (record { link = 0; device = 0 }) (omega arith) in
    let usable = usable_from net (plan_of o) c.args.d o.outage.planned.topo.now.is_network k e (subst (λ (xs : List End). slice_get xs k ≡ Some e) are at) in
    looked_more net (plan_of o) (domain_of o) c.args.d k items e c.args.visited.now.numbers c.loop-end.visited.numbers c.visit.new.visited.numbers at usable
    c.loop-end.invariant.grown c.visit.ensures.grown

pub loop-end-preserved : goal.loop-end-preserved
loop-end-preserved c =
    let o = c.args.self.now in
    let net = net_of o in
    let items = c.links_at-end-items.result.now in
    let k = c.loop-end.end-index in
    let e : End = get_or items k (record { link = 0; device = 0 }) in
    let are = items_are net (plan_of o) o.outage.planned.index.now c.args.d items c.args.self.now.outage.planned.is_index c.requires.device
    c.links_at-end-items.ensures in
    let at : slice_get items k ≡ Some e = slice_get-get_or items k (record { link = 0; device = 0 }) (omega arith) in
    let usable = usable_from net (plan_of o) c.args.d o.outage.planned.topo.now.is_network k e (subst (λ (xs : List End). slice_get xs k ≡ Some e) are at) in
    record {
      grown = looked_more net (plan_of o) (domain_of o) c.args.d k items e c.args.visited.now.numbers c.loop-end.visited.numbers c.visit.new.visited.numbers at
          usable c.loop-end.invariant.grown c.visit.ensures.grown;
      passed = passed_more net (plan_of o) (domain_of o) k items e c.loop-end.visited.numbers c.visit.new.visited.numbers at c.visit.ensures.grown.had
          (c.visit.ensures.passed c.if-visit.false) c.loop-end.invariant.passed;
      room = c.visit.ensures.room ∙ c.loop-end.invariant.room;
    }

pub returns-clause-around : goal.returns-clause-around
returns-clause-around c = λ dry.
    let o = c.args.self.now in
    let net = net_of o in
    let items = c.links_at-end-items.result.now in
    let are = items_are net (plan_of o) o.outage.planned.index.now c.args.d items c.args.self.now.outage.planned.is_index c.requires.device
    c.links_at-end-items.ensures in
    all_around net (plan_of o) (domain_of o) c.args.d items c.loop-end.visited.numbers are
    (λ j e within there left. c.loop-end.invariant.passed j e (omega arith) there left)
