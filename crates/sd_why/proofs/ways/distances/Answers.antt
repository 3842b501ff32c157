use Rattle.std.proofs.Common.{◌≡◌, ◌+◌, ◌<◌, ◌∙◌, ℕ, true, List, [], ◌∷◌, get_or, replicate, set, Option, Some, None, ap, sym, subst, arith}
use Rattle.std.specs.Vec.{with_items}
use Rattle.std.proofs.lemmas.List.{with_items_is}
use Rattle.std.proofs.lemmas.Option.{slice_get-get_or, slice_get_within}
use Rattle.sd_num.specs.Lists.{has}
use Rattle.sd_num.proofs.Places.{has_at}
use Rattle.sd_planner.specs.Views.{net_of}
use Rattle.sd_why.specs.Rings.{AreRings}
use Rattle.sd_why.proofs.Rings.{rings_end, rings_next, rings_start}
use Rattle.sd_why.proofs.ways.distances.Goals as goal

pub loop-hops-init : goal.loop-hops-init
loop-hops-init c =
    let net = net_of c.args.present.now in
    let from = c.args.from in
    let blank = c.in_ok-known.ensures ∙ ap (λ (n : ℕ). replicate {A = Option ℕ} n None) c.devices-count.ensures in
    subst (λ (ring : List ℕ). AreRings net from 0 (set c.in_ok-known.known.items from (Some 0)) ring) (sym c.in_ok-ring.ensures)
    (subst (λ (known : List (Option ℕ)). AreRings net from 0 (set known from (Some 0)) (from ∷ [])) (sym blank) (rings_start net from c.requires.device))

pub next_ring-requires-clause-ring : goal.next_ring-requires-clause-ring
next_ring-requires-clause-ring c =
    λ k d less.
    let ring = c.deref.result.now in
    let this : ℕ = get_or ring k d in
    let there : has c.loop-hops.ring.items this ≡ true =
    subst (λ (xs : List ℕ). has xs this ≡ true) c.deref.ensures.value (has_at ring k this (slice_get-get_or ring k d less)) in
    subst (λ n. this < n) c.loop-hops.invariant.size
    (slice_get_within c.loop-hops.known.items this (Some c.loop-hops.hops) (c.loop-hops.invariant.last this there))

pub loop-hops-preserved : goal.loop-hops-preserved
loop-hops-preserved c =
    let net = net_of c.args.present.now in
    let from = c.args.from in
    let hops = c.loop-hops.hops in
    let old = c.deref_mut.result.now in
    let ring = c.deref.result.now in
    let new = c.next_ring.new.known in
    let next = c.in_ok-ring-2.ring.items in
    let spreads = c.in_ok-ring-2.ensures.spreads in
    let kept : (with_items c.loop-hops.known new).items ≡ new =
    with_items_is c.loop-hops.known new (omega (arith, c.deref_mut.ensures.len, spreads.size)) in
    let rings : AreRings net from hops old ring =
    subst (λ (known : List (Option ℕ)). AreRings net from hops known ring) (sym c.deref_mut.ensures.value)
    (subst (λ (xs : List ℕ). AreRings net from hops c.loop-hops.known.items xs) (sym c.deref.ensures.value) c.loop-hops.invariant)
    in
    subst (λ (known : List (Option ℕ)). AreRings net from (hops + 1) known next) (sym kept)
    (rings_next net from hops old ring rings new next c.args.present.now.topo.now.is_network spreads c.in_ok-ring-2.ensures.met)

pub returns : goal.returns
returns c =
    rings_end (net_of c.args.present.now) c.args.from c.loop-hops.hops c.loop-hops.known.items c.loop-hops.ring.items
    (omega (arith, c.loop-hops-test.false, c.loop-hops.auto.hops-end, c.devices-count.ensures)) c.loop-hops.invariant
