use Rattle.std.proofs.Common.{◌≡◌, ◌∙◌, true, sym, ap}
use Rattle.sd_checker.specs.check_hit.Outages.{net_of, plan_of}
use Rattle.sd_checker.specs.check_reach.Reach.{is_sound}
use Rattle.sd_drill.specs.recovery.Hops.{next_of}
use Rattle.sd_drill.proofs.recovery.Hearing.{decides_unsound, decides_end, decides_spared, decides_turned, next_is}
use Rattle.sd_drill.proofs.recovery.feeding.is_fed.Goals as goal
use Rattle.sd_drill.proofs.recovery.feeding.is_fed.Goals.{then-is_end-via-then-is_end, then-is_end-via-else-is_end+then-not-hits}

pub returns-then-not-is_sound : goal.returns-then-not-is_sound
returns-then-not-is_sound c =
    let o = c.args.outage.now in
    decides_unsound (net_of o) (plan_of o) o.domain c.args.d (sym c.is_sound.ensures ∙ c.if-not-is_sound.true)

pub returns-then-is_end : goal.returns-then-is_end
returns-then-is_end c =
    let o = c.args.outage.now in
    let sound : is_sound (net_of o) (plan_of o) o.domain c.args.d ≡ true = sym c.is_sound.ensures ∙ c.if-not-is_sound.false in
    elim c.then-is_end.branch [
      | then-is_end-via-then-is_end w ↦ decides_end (net_of o) (plan_of o) o.domain c.args.d sound (sym c.is_end.ensures ∙ w.if-is_end.true)
      | then-is_end-via-else-is_end+then-not-hits w ↦ decides_spared (net_of o) (plan_of o) o.domain c.args.d sound (sym w.hits.ensures ∙ w.if-not-hits.true)
    ]

pub returns : goal.returns
returns c =
    let o = c.args.outage.now in
    let sound : is_sound (net_of o) (plan_of o) o.domain c.args.d ≡ true = sym c.is_sound.ensures ∙ c.if-not-is_sound.false in
    let other = sym c.is_end.ensures ∙ c.if-is_end.false in
    let hit = sym c.hits.ensures ∙ c.if-not-hits.false in
    decides_turned (net_of o) (plan_of o) o.domain c.args.d c.is_fed_over.result c.next.result
    (next_is (net_of o) (plan_of o) o.domain c.args.d other hit ∙ sym (c.next.ensures ∙ ap next_of c.requires.hops)) sound other hit c.is_fed_over.ensures
