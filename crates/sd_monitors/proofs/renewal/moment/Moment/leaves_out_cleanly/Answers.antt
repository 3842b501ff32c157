use Rattle.std.proofs.Common.{◌≡◌, ℕ, ◌<◌, ◌≤◌, false, length, sym, ◌∙◌, subst, inl, inr, arith}
use Rattle.std.proofs.lemmas.Bool.{cases_lt}
use Rattle.sd_plan.specs.topo.Network.{Network}
use Rattle.sd_plan.specs.topo.Limits.{IsNetwork}
use Rattle.sd_plan.specs.topo.Topologies.{network}
use Rattle.sd_monitors.specs.renewal.Moments.{leads_out}
use Rattle.sd_monitors.proofs.renewal.Ready.{cleanly_all, cleanly_some}
use Rattle.sd_monitors.proofs.renewal.moment.Moment.leaves_out_cleanly.Goals as goal

pub returns-then-leads_out : goal.returns-then-leads_out
returns-then-leads_out c setting seen is ready =
    let within : c.loop-l.l < length (network c.args.self.now.topo.now).links = omega arith in
    sym (cleanly_some setting seen (subst IsNetwork (sym is.net) c.args.self.now.topo.now.is_network) is.sound ready c.loop-l.l
    (subst (λ (n : Network). c.loop-l.l < length n.links) (sym is.net) within) (sym (c.leads_out.ensures setting seen is) ∙ c.if-leads_out.true))

pub loop-l-preserved : goal.loop-l-preserved
loop-l-preserved c setting seen is k within = elim (cases_lt k c.loop-l.l) [
  | inl less ↦ c.loop-l.invariant setting seen is k less
  | inr most ↦ (let same : c.loop-l.l ≡ k = omega (arith, within, most) in
      subst (λ (x : ℕ). leads_out setting seen x ≡ false) same (sym (c.leads_out.ensures setting seen is) ∙ c.if-leads_out.false))
]

pub returns : goal.returns
returns c setting seen is ready =
    let past : length (network c.args.self.now.topo.now).links ≤ c.loop-l.l = omega arith in
    sym (cleanly_all setting seen (subst IsNetwork (sym is.net) c.args.self.now.topo.now.is_network) is.sound ready
    (λ l within. c.loop-l.invariant setting seen is l (let known : l < length (network c.args.self.now.topo.now).links =
    subst (λ (n : Network). l < length n.links) is.net within in omega (arith, known, past))))
