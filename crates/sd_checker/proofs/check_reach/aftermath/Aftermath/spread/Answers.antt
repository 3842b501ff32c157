use Rattle.std.proofs.Common.{◌≡◌, ◌+◌, ◌<◌, ℕ, List, length, Some, get_or, slice_get, refl, sym, ap, subst, arith}
use Rattle.std.proofs.lemmas.Option.{slice_get-get_or}
use Rattle.sd_num.proofs.Places.{has_at}
use Rattle.sd_checker.specs.check_reach.Aftermaths.{net_of, plan_of, domain_of}
use Rattle.sd_checker.specs.check_reach.Homes.{IsHome}
use Rattle.sd_checker.specs.check_reach.Reached.{IsStep}
use Rattle.sd_checker.specs.declared.check_reach.home.Home.{Home}
use Rattle.sd_checker.proofs.check_reach.Spreading.{home_begins, acting_there, home_grows, home_more}
use Rattle.sd_checker.proofs.check_reach.aftermath.Aftermath.spread.Goals as goal

pub look_around-requires-clause-device : goal.look_around-requires-clause-device
look_around-requires-clause-device c =
    let o = c.args.self.now in
    let net = net_of o in
    let home = c.args.home.now in
    let set = c.insert.new.self in
    let mid : Home = record { joined = set; done = home.done } in
    let known : IsHome net (plan_of o) (domain_of o) mid =
    home_begins net (plan_of o) (domain_of o) home mid o.acting c.requires.home o.outage.planned.is_index.fits o.acts
    (ap (λ s. s.numbers) c.insert.ensures.added) refl in
    let read = c.as_slice-2.result.now in
    let d = get_or read home.done 0 in
    let left : home.done < length set.numbers = omega (arith, ap length c.as_slice.ensures.all, c.if-home-as_slice.false) in
    let at : slice_get set.numbers home.done ≡ Some d =
    subst (λ (xs : List ℕ). slice_get set.numbers home.done ≡ Some (get_or xs home.done 0)) (sym c.as_slice-2.ensures.all)
    (slice_get-get_or set.numbers home.done 0 left) in
    known.within d (has_at set.numbers home.done d at)

pub returns-then-not-look_around-clause-home : goal.returns-then-not-look_around-clause-home
returns-then-not-look_around-clause-home c =
    let o = c.args.self.now in
    let net = net_of o in
    let home = c.args.home.now in
    let set = c.insert.new.self in
    let mid : Home = record { joined = set; done = home.done } in
    let known : IsHome net (plan_of o) (domain_of o) mid =
    home_begins net (plan_of o) (domain_of o) home mid o.acting c.requires.home o.outage.planned.is_index.fits o.acts
    (ap (λ s. s.numbers) c.insert.ensures.added) refl in
    let read = c.as_slice-2.result.now in
    let d = get_or read home.done 0 in
    let left : home.done < length set.numbers = omega (arith, ap length c.as_slice.ensures.all, c.if-home-as_slice.false) in
    let at : slice_get set.numbers home.done ≡ Some d =
    subst (λ (xs : List ℕ). slice_get set.numbers home.done ≡ Some (get_or xs home.done 0)) (sym c.as_slice-2.ensures.all)
    (slice_get-get_or set.numbers home.done 0 left) in
    home_more net (plan_of o) (domain_of o) mid (record { joined = c.look_around.new.visited; done = home.done + 1 }) d known
    (acting_there net (plan_of o) (domain_of o) home.joined.numbers set.numbers o.acting o.acts (ap (λ s. s.numbers) c.insert.ensures.added))
    left at c.look_around.ensures.grown (c.look_around.ensures.around c.if-not-look_around.true) refl

pub returns-else-not-look_around-clause-home : goal.returns-else-not-look_around-clause-home
returns-else-not-look_around-clause-home c =
    let o = c.args.self.now in
    let net = net_of o in
    let home = c.args.home.now in
    let set = c.insert.new.self in
    let mid : Home = record { joined = set; done = home.done } in
    let known : IsHome net (plan_of o) (domain_of o) mid =
    home_begins net (plan_of o) (domain_of o) home mid o.acting c.requires.home o.outage.planned.is_index.fits o.acts
    (ap (λ s. s.numbers) c.insert.ensures.added) refl in
    let read = c.as_slice-2.result.now in
    let d = get_or read home.done 0 in
    let left : home.done < length set.numbers = omega (arith, ap length c.as_slice.ensures.all, c.if-home-as_slice.false) in
    let at : slice_get set.numbers home.done ≡ Some d =
    subst (λ (xs : List ℕ). slice_get set.numbers home.done ≡ Some (get_or xs home.done 0)) (sym c.as_slice-2.ensures.all)
    (slice_get-get_or set.numbers home.done 0 left) in
    home_grows net (plan_of o) (domain_of o) mid (record { joined = c.look_around.new.visited; done = home.done })
    (IsStep net (plan_of o) (domain_of o) d) known c.look_around.ensures.grown (λ x step. step.within) refl
