use Rattle.std.proofs.Common.{◌≡◌, ◌<◌, false, length, Some, refl, sym, ap, ◌∙◌, arith}
use Rattle.std.specs.List.{slice_get}
use Rattle.std.proofs.lemmas.Option.{slice_get_read, get_or_from_slice_get}
use Rattle.sd_plan.proofs.Numbered.{length-numbered}
use Rattle.sd_planner.specs.Usable.{takes_part}
use Rattle.sd_planner.specs.Views.{net_of, left_out}
use Rattle.sd_planner.proofs.Flags.{member_flag}
use Rattle.sd_planner.proofs.present.Present.takes_part.Goals as goal

pub index-requires : goal.index-requires
index-requires c =
    let net = net_of c.args.self.now in
    omega (arith, ap length c.args.self.now.members_are, length-numbered (takes_part net (left_out c.args.self.now)) (length net.devices), c.requires)

pub returns : goal.returns
returns c =
    let net = net_of c.args.self.now in
    let absent = left_out c.args.self.now in
    let members = c.args.self.now.members.items in
    let within : c.args.d < length members =
    omega (arith, ap length c.args.self.now.members_are, length-numbered (takes_part net absent) (length net.devices), c.requires) in
    let at : slice_get members c.args.d ≡ Some c.index.result.now =
    slice_get_read members (length members) c.args.d c.index.result.now refl within c.index.ensures in
    sym (get_or_from_slice_get members c.args.d c.index.result.now false at) ∙ member_flag net absent c.args.d members c.args.self.now.members_are c.requires
