use Rattle.std.proofs.Common.{◌≡◌, ◌+◌, ◌∙◌, ◌<◌, ◌≤◌, ℕ, List, Some, inl, inr, length, get_or, nat_eq, nat_lt, ap, sym, subst, arith, slice_get}
use Rattle.std.specs.List.{IsDistinct}
use Rattle.std.proofs.lemmas.Bool.{both_ways, cases_lt, lt-ltb, ltb-true}
use Rattle.std.proofs.lemmas.Option.{slice_get-get_or}
use Rattle.sd_num.proofs.Places.{has_at}
use Rattle.sd_plan.specs.domain.NumberSets.{Numbers, with_number}
use Rattle.sd_planner.specs.Views.{net_of}
use Rattle.sd_why.specs.Bridges.{IsSearch}
use Rattle.sd_why.proofs.Searches.{bridge_found, most_met, no_bridge, search_idle, search_more, search_start}
use Rattle.sd_why.proofs.bridges.is_bridge.Goals as goal
use Rattle.sd_why.proofs.bridges.is_bridge.Goals.{then-i-as_slice, else-i-as_slice}

pub loop-i-init : goal.loop-i-init
loop-i-init c =
    let net = net_of c.args.present.now in
    let cleared = c.clear.ensures in
    let added = c.insert.ensures.added in
    record {
      room = ap (λ (m : Numbers). m.bound) added ∙ ap (λ (m : Numbers). m.bound) cleared ∙ c.requires.room;
      search = subst (λ (xs : List ℕ). IsSearch net c.args.link 0 xs)
          (sym (ap (λ (m : Numbers). m.numbers) added ∙ ap (λ (m : Numbers). with_number m.numbers 0) cleared))
          (search_start net c.args.link c.args.present.now.topo.now.is_network.devices.0);
    }

pub meet_besides-requires-clause-device : goal.meet_besides-requires-clause-device
meet_besides-requires-clause-device c =
    let net = net_of c.args.present.now in
    let i = c.loop-i.i in
    let met = c.loop-i.met.numbers in
    let inside : i < length met = subst (λ (xs : List ℕ). i < length xs) c.as_slice.ensures.all c.if-i-as_slice.true in
    let at : slice_get met i ≡ Some (get_or met i 0) = slice_get-get_or met i 0 inside in
    subst (λ (xs : List ℕ). get_or xs i 0 < length net.devices) (sym c.as_slice-then-i-as_slice.ensures.all)
    (c.loop-i.invariant.search.within (get_or met i 0) (has_at met i (get_or met i 0) at))

pub loop-i-preserved : goal.loop-i-preserved
loop-i-preserved c =
    let net = net_of c.args.present.now in
    let l = c.args.link in
    let i = c.loop-i.i in
    let met = c.loop-i.met.numbers in
    elim c.if-i-as_slice.branch [
      | then-i-as_slice w ↦
          (let inside : i < length met = subst (λ (xs : List ℕ). i < length xs) c.as_slice.ensures.all w.if-i-as_slice.true in
          let d : ℕ = get_or w.as_slice-then-i-as_slice.result.now i 0 in
          let at : slice_get met i ≡ Some d =
          subst (λ (xs : List ℕ). slice_get met i ≡ Some (get_or xs i 0)) (sym w.as_slice-then-i-as_slice.ensures.all) (slice_get-get_or met i 0 inside) in
          record {
            room = ap (λ (m : Numbers). m.bound) w.met-is ∙ w.meet_besides.ensures.room ∙ c.loop-i.invariant.room;
            search = subst (λ (m : Numbers). IsSearch net l (i + 1) m.numbers) (sym w.met-is)
                (search_more net l i d met w.meet_besides.new.met.numbers at w.meet_besides.ensures.grows w.meet_besides.ensures.met
                c.args.present.now.topo.now.is_network c.loop-i.invariant.search);
          })
      | else-i-as_slice w ↦
          record {
            room = ap (λ (m : Numbers). m.bound) w.met-is ∙ c.loop-i.invariant.room;
            search = subst (λ (m : Numbers). IsSearch net l (i + 1) m.numbers) (sym w.met-is)
                (search_idle net l i met (subst (λ (xs : List ℕ). length xs ≤ i) c.as_slice.ensures.all w.if-i-as_slice.false) c.loop-i.invariant.search);
          }
    ]

pub returns-clause-bridge : goal.returns-clause-bridge
returns-clause-bridge c = λ fewer.
    let net = net_of c.args.present.now in
    let l = c.args.link in
    let done = c.loop-i.i in
    let met = c.loop-i.met.numbers in
    let search = c.loop-i.invariant.search in
    let distinct : IsDistinct nat_eq met = subst (λ (xs : List ℕ). IsDistinct nat_eq xs) c.as_slice-2.ensures.all c.as_slice-2.ensures.distinct in
    let most : length met ≤ length net.devices = most_met net l done met search distinct in
    let less : length c.as_slice-2.result.now < c.devices-count.result = ltb-true (length c.as_slice-2.result.now) c.devices-count.result fewer in
    let same : length c.as_slice-2.result.now ≡ length met = ap length c.as_slice-2.ensures.all in
    bridge_found net l c.args.present.now.topo.now.is_network done met search
    (omega (arith, most, c.loop-i-test.false, c.loop-i.auto.i-end, c.devices-count.ensures))
    (omega (arith, less, same, c.devices-count.ensures))

pub returns-clause-none : goal.returns-clause-none
returns-clause-none c = λ all.
    let net = net_of c.args.present.now in
    let l = c.args.link in
    let done = c.loop-i.i in
    let met = c.loop-i.met.numbers in
    let search = c.loop-i.invariant.search in
    let distinct : IsDistinct nat_eq met = subst (λ (xs : List ℕ). IsDistinct nat_eq xs) c.as_slice-2.ensures.all c.as_slice-2.ensures.distinct in
    let most : length met ≤ length net.devices = most_met net l done met search distinct in
    let same : length c.as_slice-2.result.now ≡ length met = ap length c.as_slice-2.ensures.all in
    let enough : c.devices-count.result ≤ length c.as_slice-2.result.now = elim (cases_lt (length c.as_slice-2.result.now) c.devices-count.result) [
      | inl less ↦
          absurd (both_ways (nat_lt (length c.as_slice-2.result.now) c.devices-count.result) all (lt-ltb (length c.as_slice-2.result.now) c.devices-count.result less))
      | inr more ↦ more
    ] in
    no_bridge net l c.args.present.now.topo.now.is_network done met search
    (omega (arith, most, c.loop-i-test.false, c.loop-i.auto.i-end, c.devices-count.ensures)) distinct
    (omega (arith, enough, same, c.devices-count.ensures))
