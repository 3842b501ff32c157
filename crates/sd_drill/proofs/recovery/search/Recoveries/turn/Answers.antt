use Rattle.std.proofs.Common.{◌≡◌, ◌∙◌, ℕ, List, Some, None, ap, sym, subst}
use Rattle.sd_checker.specs.check_hit.Outages.{net_of, plan_of}
use Rattle.sd_plan.proofs.Rules.{keeps_rules}
use Rattle.sd_checker.specs.check_loop.Loops.{hops_of}
use Rattle.sd_drill.specs.recovery.Hops.{listed, BothAre}
use Rattle.sd_drill.specs.recovery.Searches.{Leads, IsSettled, first_new, mark_at}
use Rattle.sd_drill.specs.declared.recovery.marks.Mark.{Mark}
use Rattle.sd_drill.proofs.recovery.Leading.{hop_leads}
use Rattle.sd_drill.proofs.recovery.Rows.{listed_is}
use Rattle.sd_drill.proofs.recovery.Searching.{all_settled, led_to, top_within}
use Rattle.sd_drill.proofs.recovery.search.Recoveries.turn.Goals as goal

pub hops_of-hops-requires : goal.hops_of-hops-requires
hops_of-hops-requires c =
    let o = c.args.outage.now in
    top_within (net_of o) (plan_of o) o.domain c.args.self.now.marks.items c.args.self.now.stack.items c.args.top c.requires.searched c.requires.some
    c.requires.top

pub enter-requires-clause-led : goal.enter-requires-clause-led
enter-requires-clause-led c = λ k last.
    let o = c.args.outage.now in
    let hops = c.hops_of-hops.result in
    let are : listed hops ≡ hops_of (net_of o) (plan_of o) o.domain c.args.top =
    ap listed c.hops_of-hops.ensures.is
    ∙ listed_is (net_of o) (plan_of o) o.domain c.args.top (keeps_rules (net_of o) (plan_of o) o.planned.is_index.structured)
    (top_within (net_of o) (plan_of o) o.domain c.args.self.now.marks.items c.args.self.now.stack.items c.args.top c.requires.searched c.requires.some
    c.requires.top) in
    let is : first_new c.args.self.now.marks.items hops ≡ Some c.in-Some.next =
    ap (λ (marks : List Mark). first_new marks hops) (sym c.deref.ensures.value) ∙ sym c.first_new.ensures ∙ c.in-Some.is in
    let led = led_to c.args.self.now.marks.items c.in-Some.next hops is in
    let onward : Leads (net_of o) (plan_of o) o.domain c.args.top led.hop.parent =
    hop_leads (net_of o) (plan_of o) o.domain c.args.top hops are led.hop led.one in
    subst (λ (x : ℕ). Leads (net_of o) (plan_of o) o.domain x c.in-Some.next) (sym (c.requires.top k last))
    (subst (λ (x : ℕ). Leads (net_of o) (plan_of o) o.domain c.args.top x) led.leads onward)

pub settle-recovery-requires-clause-device : goal.settle-recovery-requires-clause-device
settle-recovery-requires-clause-device c =
    let o = c.args.outage.now in
    top_within (net_of o) (plan_of o) o.domain c.args.self.now.marks.items c.args.self.now.stack.items c.args.top c.requires.searched c.requires.some
    c.requires.top

pub settle-recovery-requires-clause-settled : goal.settle-recovery-requires-clause-settled
settle-recovery-requires-clause-settled c =
    let o = c.args.outage.now in
    let hops = c.hops_of-hops.result in
    let are : listed hops ≡ hops_of (net_of o) (plan_of o) o.domain c.args.top =
    ap listed c.hops_of-hops.ensures.is
    ∙ listed_is (net_of o) (plan_of o) o.domain c.args.top (keeps_rules (net_of o) (plan_of o) o.planned.is_index.structured)
    (top_within (net_of o) (plan_of o) o.domain c.args.self.now.marks.items c.args.self.now.stack.items c.args.top c.requires.searched c.requires.some
    c.requires.top) in
    let none : first_new c.args.self.now.marks.items hops ≡ None =
    ap (λ (marks : List Mark). first_new marks hops) (sym c.deref.ensures.value) ∙ sym c.first_new.ensures ∙ c.in-None.is in
    subst (λ (marks : List Mark). BothAre (λ hop. IsSettled (net_of o) (plan_of o) o.domain hop.parent (mark_at marks hop.parent)) hops)
    (sym c.deref-in-None.ensures.value)
    (all_settled (net_of o) (plan_of o) o.domain c.args.self.now.marks.items c.args.self.now.stack.items c.args.top hops c.requires.searched c.requires.acyclic
    c.requires.some c.requires.top are none)
