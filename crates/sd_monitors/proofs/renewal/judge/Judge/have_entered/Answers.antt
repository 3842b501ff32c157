use Rattle.std.proofs.Common.{◌≡◌, ℕ, ◌<◌, ◌≤◌, false, length, sym, ◌∙◌, subst, inl, inr, arith}
use Rattle.std.proofs.lemmas.Bool.{cases_lt}
use Rattle.sd_plan.specs.topo.Network.{Network}
use Rattle.sd_plan.specs.topo.Topologies.{network}
use Rattle.sd_monitors.specs.renewal.Judging.{lags}
use Rattle.sd_monitors.proofs.renewal.Orderly.{none_lags, some_lags}
use Rattle.sd_monitors.proofs.renewal.judge.Judge.have_entered.Goals as goal

pub returns-then-lags : goal.returns-then-lags
returns-then-lags c setting seen is =
    let within : c.loop-d.d < length (network c.args.self.now.moment.topo.now).devices = omega arith in
    sym (some_lags setting seen c.loop-d.d (subst (λ (n : Network). c.loop-d.d < length n.devices) (sym is.moment.net) within)
    (sym (c.lags.ensures setting seen is) ∙ c.if-lags.true))

pub loop-d-preserved : goal.loop-d-preserved
loop-d-preserved c setting seen is k within = elim (cases_lt k c.loop-d.d) [
  | inl less ↦ c.loop-d.invariant setting seen is k less
  | inr most ↦ (let same : c.loop-d.d ≡ k = omega (arith, within, most) in
      subst (λ (x : ℕ). lags setting seen x ≡ false) same (sym (c.lags.ensures setting seen is) ∙ c.if-lags.false))
]

pub returns : goal.returns
returns c setting seen is =
    let past : length (network c.args.self.now.moment.topo.now).devices ≤ c.loop-d.d = omega arith in
    sym (none_lags setting seen
    (λ d within. c.loop-d.invariant setting seen is d (let known : d < length (network c.args.self.now.moment.topo.now).devices =
    subst (λ (n : Network). d < length n.devices) is.moment.net within in omega (arith, known, past))))
