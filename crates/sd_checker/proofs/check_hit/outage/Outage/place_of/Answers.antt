use Rattle.std.proofs.Common.{◌≡◌, ◌<◌, length, get_or, ap, ◌∙◌, arith}
use Rattle.std.proofs.lemmas.Option.{slice_get_within, get_or_from_slice_get}
use Rattle.sd_checker.specs.check_hit.Outages.{net_of, plan_of}
use Rattle.sd_checker.proofs.check_hit.HitList.{not_hit}
use Rattle.sd_checker.proofs.check_hit.outage.Outage.place_of.Goals as goal
use Rattle.sd_checker.proofs.check_hit.outage.Outage.place_of.Goals.{else-place-self-via-then-place-self+else-self-place, else-place-self-via-else-place-self}

pub returns-else-place-self : goal.returns-else-place-self
returns-else-place-self c =
    let o = c.args.self.now in
    let hit = o.hit.now in
    let place = get_or o.places.now c.args.d 0 in
    not_hit (net_of o) (plan_of o) o.domain hit c.args.d o.hits c.requires
    (λ i at.
    let here : place ≡ i = o.placed.at i c.args.d at in
    let within : i < length hit = slice_get_within hit i c.args.d at in
    let there : get_or hit place 0 ≡ c.args.d = ap (λ k. get_or hit k 0) here ∙ get_or_from_slice_get hit i c.args.d 0 at in
    elim c.else-place-self.branch [
      | else-place-self-via-then-place-self+else-self-place w ↦ w.if-self-place.false there
      | else-place-self-via-else-place-self w ↦ (let past = w.if-place-self.false in omega arith)
    ])
