use Rattle.std.proofs.Common.{◌≡◌, ◌<◌, ◌≤◌, ℕ, List, length, Some, get_or, slice_get, refl, sym, ap, ◌∙◌, subst, arith}
use Rattle.std.proofs.lemmas.Option.{slice_get-get_or}
use Rattle.std.proofs.lemmas.Map.Steps.{length-le_from_distinct_below}
use Rattle.std.specs.List.{IsDistinct}
use Rattle.std.specs.Prelude.{nat_eq}
use Rattle.sd_plan.specs.domain.NumberSets.{with_number}
use Rattle.sd_checker.specs.check_reach.Aftermaths.{net_of, plan_of, domain_of}
use Rattle.sd_num.proofs.Places.{has_at}
use Rattle.sd_checker.proofs.check_reach.Joining.{IsSearching, dry_cut, itself, search_begins, search_more, search_ends}
use Rattle.sd_checker.proofs.check_reach.Spreading.{home_cut}
use Rattle.sd_checker.proofs.check_reach.aftermath.Aftermath.finds.Goals as goal

pub returns-then-from-self-clause-met : goal.returns-then-from-self-clause-met
returns-then-from-self-clause-met c = λ met.
    let o = c.args.self.now in
    itself (net_of o) (plan_of o) (domain_of o) c.args.from (c.if-from-self.true ∙ c.args.self.now.acts)

pub loop-at-init : goal.loop-at-init
loop-at-init c =
    let o = c.args.self.now in
    let net = net_of o in
    let old = c.args.visited.now.numbers in
    let begun = search_begins net (plan_of o) (domain_of o) c.args.from old c.requires.dry c.requires.device
    (λ same. c.if-from-self.false (same ∙ sym c.args.self.now.acts)) in
    record {
      known = subst (λ (xs : List ℕ). IsSearching net (plan_of o) (domain_of o) c.args.from (length c.as_slice-at.result.now) xs)
          (sym (ap (λ s. s.numbers) c.insert.ensures.added))
          (subst (λ (n : ℕ). IsSearching net (plan_of o) (domain_of o) c.args.from n (with_number old c.args.from))
          (sym (ap length c.as_slice-at.ensures.all)) begun);
      room = ap (λ s. s.bound) c.insert.ensures.added;
      home = c.requires.home;
      home_room = refl;
    }

pub look_around-requires-clause-device : goal.look_around-requires-clause-device
look_around-requires-clause-device c =
    let keys = c.loop-at.visited.numbers in
    let at = c.loop-at.at in
    let read = c.as_slice-in-loop-at.result.now in
    let inside : at < length keys = omega (arith, ap length c.as_slice.ensures.all, c.loop-at-test.true) in
    let there : slice_get keys at ≡ Some (get_or read at 0) =
    subst (λ (xs : List ℕ). slice_get keys at ≡ Some (get_or xs at 0)) (sym c.as_slice-in-loop-at.ensures.all) (slice_get-get_or keys at 0 inside) in
    c.loop-at.invariant.known.within (get_or read at 0) (has_at keys at (get_or read at 0) there)

pub returns-then-look_around-clause-met : goal.returns-then-look_around-clause-met
returns-then-look_around-clause-met c = λ met.
    let keys = c.loop-at.visited.numbers in
    let at = c.loop-at.at in
    let read = c.as_slice-in-loop-at.result.now in
    let inside : at < length keys = omega (arith, ap length c.as_slice.ensures.all, c.loop-at-test.true) in
    let there : slice_get keys at ≡ Some (get_or read at 0) =
    subst (λ (xs : List ℕ). slice_get keys at ≡ Some (get_or xs at 0)) (sym c.as_slice-in-loop-at.ensures.all) (slice_get-get_or keys at 0 inside) in
    c.loop-at.invariant.known.back (get_or read at 0) (has_at keys at (get_or read at 0) there) (c.look_around.ensures.met c.if-look_around.true)

pub loop-at-smaller : goal.loop-at-smaller
loop-at-smaller c =
    let o = c.args.self.now in
    let net = net_of o in
    let keys = c.loop-at.visited.numbers in
    let at = c.loop-at.at in
    let inside : at < length keys = omega (arith, ap length c.as_slice.ensures.all, c.loop-at-test.true) in
    let few : length keys ≤ length net.devices =
    length-le_from_distinct_below keys (length net.devices)
    (subst (λ (xs : List ℕ). IsDistinct nat_eq xs) c.as_slice.ensures.all c.as_slice.ensures.distinct) c.loop-at.invariant.known.within
    in
    omega arith

pub loop-at-preserved : goal.loop-at-preserved
loop-at-preserved c =
    let o = c.args.self.now in
    let net = net_of o in
    let keys = c.loop-at.visited.numbers in
    let at = c.loop-at.at in
    let d = get_or c.as_slice-in-loop-at.result.now at 0 in
    let inside : at < length keys = omega (arith, ap length c.as_slice.ensures.all, c.loop-at-test.true) in
    let there : slice_get keys at ≡ Some d =
    subst (λ (xs : List ℕ). slice_get keys at ≡ Some (get_or xs at 0)) (sym c.as_slice-in-loop-at.ensures.all) (slice_get-get_or keys at 0 inside) in
    record {
      known = search_more net (plan_of o) (domain_of o) c.args.from at d keys c.look_around.new.visited.numbers
          c.loop-at.invariant.known inside there c.look_around.ensures.grown (c.look_around.ensures.around c.if-look_around.false);
      room = c.look_around.ensures.room ∙ c.loop-at.invariant.room;
      home = c.spread.ensures.home;
      home_room = c.spread.ensures.room ∙ c.loop-at.invariant.home_room;
    }

pub returns-clause-dry : goal.returns-clause-dry
returns-clause-dry c = λ dry.
    let o = c.args.self.now in
    let all : length c.loop-at.visited.numbers ≤ c.loop-at.at = omega (arith, ap length c.as_slice.ensures.all, c.loop-at-test.false) in
    search_ends (net_of o) (plan_of o) (domain_of o) c.args.from c.loop-at.at c.loop-at.visited.numbers c.loop-at.invariant.known all

pub returns-clause-cut : goal.returns-clause-cut
returns-clause-cut c = λ cut.
    let o = c.args.self.now in
    let all : length c.loop-at.visited.numbers ≤ c.loop-at.at = omega (arith, ap length c.as_slice.ensures.all, c.loop-at-test.false) in
    dry_cut (net_of o) (plan_of o) (domain_of o) c.loop-at.visited.numbers c.args.from
    (search_ends (net_of o) (plan_of o) (domain_of o) c.args.from c.loop-at.at c.loop-at.visited.numbers c.loop-at.invariant.known all)
    c.loop-at.invariant.known.begun

pub returns-then-lacks-clause-cut : goal.returns-then-lacks-clause-cut
returns-then-lacks-clause-cut c = λ no.
    let o = c.args.self.now in
    home_cut (net_of o) (plan_of o) (domain_of o) c.args.home.now c.args.from c.requires.home (c.lacks.ensures.whole c.if-lacks.true)
    c.requires.sound (c.lacks.ensures.lacks c.if-lacks.true)

pub returns-then-lacks-2-clause-cut : goal.returns-then-lacks-2-clause-cut
returns-then-lacks-2-clause-cut c = λ no.
    let o = c.args.self.now in
    home_cut (net_of o) (plan_of o) (domain_of o) c.spread.new.home c.args.from c.spread.ensures.home (c.lacks-in-loop-at.ensures.whole c.if-lacks-2.true)
    c.requires.sound (c.lacks-in-loop-at.ensures.lacks c.if-lacks-2.true)
