use Rattle.std.proofs.Common.{◌≡◌, List, Option, arith, ◌∙◌, if◌then◌else◌}
use Rattle.std.specs.Vec.{with_items}
use Rattle.std.proofs.lemmas.List.{with_items_is}
use Rattle.sd_sched.specs.Events.{device_of, is_stage}
use Rattle.sd_world.specs.declared.membership.AnswerSummary.{AnswerSummary}
use Rattle.sd_world.specs.membership.Memberships.{Registers, IsSound, answers_after}
use Rattle.sd_world.specs.membership.Counts.{add_counts, count_named, settled_count_of}
use Rattle.sd_world.proofs.membership.Totals.{others_most}
use Rattle.sd_world.proofs.membership.Observing.{registers_of, registers_are, membership_after}
use Rattle.sd_world.proofs.membership.Membership.observe.Goals as goal

pub others-others-requires-clause-settled_count : goal.others-others-requires-clause-settled_count
others-others-requires-clause-settled_count c = rw (c.deref.ensures.value, c.deref-2.ensures.value) c.self.invariant.counted

pub after-self-inside-requires-clause-present : goal.after-self-inside-requires-clause-present
after-self-inside-requires-clause-present c =
    let r : Registers = record { plans = c.self.inside.plans.items; world = c.self.inside.world; answers = c.self.inside.answers.items } in
    let whole : add_counts c.others-others.result (count_named r c.device-device.result) ≡ settled_count_of r =
    rw (c.deref.ensures.value, c.deref-2.ensures.value) at c.others-others.ensures in
    let most = (others_most r c.device-device.result c.others-others.result whole).0 in
    omega (arith, most, c.deref-4.ensures.len, c.self.inside.answers.ok.0)

pub after-self-inside-requires-clause-settled : goal.after-self-inside-requires-clause-settled
after-self-inside-requires-clause-settled c =
    let r : Registers = record { plans = c.self.inside.plans.items; world = c.self.inside.world; answers = c.self.inside.answers.items } in
    let whole : add_counts c.others-others.result (count_named r c.device-device.result) ≡ settled_count_of r =
    rw (c.deref.ensures.value, c.deref-2.ensures.value) at c.others-others.ensures in
    let most = (others_most r c.device-device.result c.others-others.result whole).1 in
    omega (arith, most, c.deref-4.ensures.len, c.self.inside.answers.ok.0)

pub invariant_of-self : goal.invariant_of-self
invariant_of-self c =
    let r : Registers = record { plans = c.self.inside.plans.items; world = c.self.inside.world; answers = c.self.inside.answers.items } in
    let answers : List (Option AnswerSummary) = (with_items c.self.inside.answers c.note_answers.new.answers).items in
    let noted : answers ≡ answers_after (device_of c.args.event.now) c.args.answers.now r.answers =
    with_items_is c.self.inside.answers c.note_answers.new.answers (omega (arith, c.deref_mut.ensures.len))
    ∙ (rw (c.device-device.ensures, c.deref_mut.ensures.value) at c.note_answers.ensures)
    in
    let whole : add_counts c.others-others.result (count_named r (device_of c.args.event.now)) ≡ settled_count_of r =
    rw (c.deref.ensures.value, c.deref-2.ensures.value, c.device-device.ensures) at c.others-others.ensures in
    let new : Registers = registers_of r c.observe.new.self answers in
    let counted : c.after-self-inside.result
    ≡ (if is_stage c.args.event.now then settled_count_of new else add_counts c.others-others.result (count_named new (device_of c.args.event.now))) =
    rw (c.deref-3.ensures.value, c.deref-4.ensures.value) at c.after-self-inside.ensures
    in
    let kept : IsSound new × (c.after-self-inside.result ≡ settled_count_of new) =
    membership_after c.args.self.now r new c.args.event.now c.args.answers.now c.others-others.result c.after-self-inside.result c.self.view_is c.requires.named
    c.requires.stage c.self.invariant.sound whole
    (registers_are r c.args.event.now c.args.answers.now c.observe.new.self answers c.observe.ensures.registers noted) counted
    in
    record { sound = kept.0; counted = kept.1 }
