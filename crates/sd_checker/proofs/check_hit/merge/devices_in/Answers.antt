use Rattle.std.proofs.Common.{◌≡◌, ◌≤◌, ◌+◌, ℕ, List, Vec, Global, length, get_or, refl, sym, ◌∙◌, ap, subst, arith}
use Rattle.sd_plan.specs.IndexedPlan.{no_span}
use Rattle.sd_checker.proofs.check_hit.Merged.{IsMerged, merged_more, merged_same, merged_all}
use Rattle.sd_checker.proofs.check_hit.merge.devices_in.Goals as goal
use Rattle.sd_checker.proofs.check_hit.merge.devices_in.Goals.{then-from-span+in_ok-add_all, else-from-span}

pub loop-span-preserved : goal.loop-span-preserved
loop-span-preserved c =
    let order = c.args.order.now in
    let spans = c.args.spans.now in
    let i = c.loop-span.span-index in
    elim c.if-from-span.branch [
      | then-from-span+in_ok-add_all w ↦
          (let to : (get_or spans i no_span).to ≡ c.if-from-span.taken = sym w.taken-is in
          let room : (get_or spans i no_span).to ≤ length order = c.requires.range i no_span c.loop-span-test.true in
          let new = merged_more order spans i c.loop-span.taken c.max-from.result
          (get_or spans i no_span).to c.loop-span.devices.items c.requires.sorted c.loop-span.invariant c.loop-span-test.true refl
          c.max-from.ensures w.if-from-span.true room in
          subst (λ (taken : ℕ). IsMerged order spans (i + 1) taken c.if-from-span.devices.items) to
          (subst (λ (items : List ℕ). IsMerged order spans (i + 1) (get_or spans i no_span).to items)
          (sym (ap (λ (v : Vec ℕ Global). v.items) w.devices-is ∙ w.in_ok-add_all.ensures)) new))
      | else-from-span w ↦
          (let same = merged_same order spans i c.loop-span.taken c.loop-span.devices.items c.requires.sorted c.loop-span.invariant c.loop-span-test.true
          (omega (arith, w.if-from-span.false, c.max-from.ensures)) in
          subst (λ (taken : ℕ). IsMerged order spans (i + 1) taken c.if-from-span.devices.items) (sym w.taken-is)
          (subst (λ (items : List ℕ). IsMerged order spans (i + 1) c.loop-span.taken items) (sym (ap (λ (v : Vec ℕ Global). v.items) w.devices-is)) same))
    ]

pub returns : goal.returns
returns c = merged_all c.args.order.now c.args.spans.now c.loop-span.span-index c.loop-span.taken c.loop-span.devices.items c.loop-span.invariant (omega arith)
