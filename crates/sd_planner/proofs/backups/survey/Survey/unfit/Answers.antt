use Rattle.std.proofs.Common.{◌≡◌, length, List, Bool, ap, ◌∙◌, sym, subst}
use Rattle.sd_planner.specs.declared.placement.Placed.{Placed}
use Rattle.sd_planner.specs.Trees.{Grows}
use Rattle.sd_planner.specs.Climbs.{way_up}
use Rattle.sd_planner.specs.Flags.{AreOver}
use Rattle.sd_planner.specs.Surveys.{net_in, absent_in, order_of}
use Rattle.sd_planner.proofs.Near.{unfit_is}
use Rattle.sd_planner.proofs.FoundDevices.{survey_grows}
use Rattle.sd_planner.proofs.backups.survey.Survey.unfit.Goals as goal

pub led_over-requires : goal.led_over-requires
led_over-requires c =
    let s = c.args.self.now in
    let net = net_in s in
    let order : s.placement.now.order ≡ order_of s = ap (λ p. p.order) c.args.self.now.placement_is in
    let devices : length c.as_slice.result.now ≡ length net.devices =
    ap length c.as_slice.ensures.value ∙ c.clear_device.ensures.devices.size ∙ c.in_ok-near.ensures.sized.devices in
    record { net = net; root = s.root; absent = absent_in s; grown = subst (Grows net s.root (absent_in s)) (sym order) (survey_grows s); size = devices }

pub returns : goal.returns
returns c =
    let s = c.args.self.now in
    let net = net_in s in
    let order : s.placement.now.order ≡ order_of s = ap (λ p. p.order) c.args.self.now.placement_is in
    let devices = c.as_slice.ensures.value in
    let links = c.as_slice-2.ensures.value ∙ c.clear_device.ensures.links in
    unfit_is net s.root (order_of s) (way_up (order_of s) c.args.own.device) c.in_ok-near.near
    (record { devices = c.in_ok-devices.devices; links = c.clear_device.new.self.links }) c.clear_device.new.self.devices.items
    c.in_ok-near.ensures c.clear_device.ensures.devices
    (subst (λ (list : List Placed). AreOver c.clear_device.new.self.devices.items c.in_ok-near.near.links.items list
    (length list) c.in_ok-devices.devices.items) order
    (subst (λ (flags : List Bool). AreOver c.clear_device.new.self.devices.items flags s.placement.now.order
    (length s.placement.now.order) c.in_ok-devices.devices.items) links
    (subst (λ (flags : List Bool). AreOver flags c.as_slice-2.result.now s.placement.now.order (length s.placement.now.order) c.in_ok-devices.devices.items)
    devices c.in_ok-devices.ensures)))
    c.clear_device.ensures.links
