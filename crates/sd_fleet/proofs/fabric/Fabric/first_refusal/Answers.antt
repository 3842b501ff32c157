-- The first of five parts that has a cause has the first cause.
use Rattle.std.proofs.Common.{is_some, sym, ◌∙◌, ap}
use Rattle.sd_fleet.proofs.Firsts.{at_place, at_device, at_window, at_last}
use Rattle.sd_fleet.proofs.fabric.Fabric.first_refusal.Goals as goal

pub returns-then-is_some : goal.returns-then-is_some
returns-then-is_some c =
    c.place_refusal-place.ensures
    ∙ at_place c.args.self.now c.args.event.now (sym (ap is_some c.place_refusal-place.ensures) ∙ sym c.is_some.ensures ∙ c.if-is_some.true)

pub returns-then-is_some-3 : goal.returns-then-is_some-3
returns-then-is_some-3 c =
    c.device_refusal-device.ensures
    ∙ at_device c.args.self.now c.args.event.now
    (sym (ap is_some c.place_refusal-place.ensures) ∙ sym c.is_some.ensures ∙ c.if-is_some.false)
    (sym (ap is_some c.message_refusal-message.ensures) ∙ sym c.is_some-2.ensures ∙ c.if-is_some-2.false)
    (sym (ap is_some c.device_refusal-device.ensures) ∙ sym c.is_some-3.ensures ∙ c.if-is_some-3.true)

pub returns-then-is_some-4 : goal.returns-then-is_some-4
returns-then-is_some-4 c =
    c.window_refusal-window.ensures
    ∙ at_window c.args.self.now c.args.event.now
    (sym (ap is_some c.place_refusal-place.ensures) ∙ sym c.is_some.ensures ∙ c.if-is_some.false)
    (sym (ap is_some c.message_refusal-message.ensures) ∙ sym c.is_some-2.ensures ∙ c.if-is_some-2.false)
    (sym (ap is_some c.device_refusal-device.ensures) ∙ sym c.is_some-3.ensures ∙ c.if-is_some-3.false)
    (sym (ap is_some c.window_refusal-window.ensures) ∙ sym c.is_some-4.ensures ∙ c.if-is_some-4.true)

pub returns : goal.returns
returns c =
    c.late_refusal.ensures
    ∙ at_last c.args.self.now c.args.event.now
    (sym (ap is_some c.place_refusal-place.ensures) ∙ sym c.is_some.ensures ∙ c.if-is_some.false)
    (sym (ap is_some c.message_refusal-message.ensures) ∙ sym c.is_some-2.ensures ∙ c.if-is_some-2.false)
    (sym (ap is_some c.device_refusal-device.ensures) ∙ sym c.is_some-3.ensures ∙ c.if-is_some-3.false)
    (sym (ap is_some c.window_refusal-window.ensures) ∙ sym c.is_some-4.ensures ∙ c.if-is_some-4.false)
