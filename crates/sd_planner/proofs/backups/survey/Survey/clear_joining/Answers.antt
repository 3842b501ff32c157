use Rattle.std.proofs.Common.{◌≡◌, true, false, subst, arith}
use Rattle.sd_num.specs.Lists.{has}
use Rattle.sd_planner.specs.Surveys.{net_in}
use Rattle.sd_planner.specs.Flags.{AreSet}
use Rattle.sd_planner.proofs.Joining.{links_within, devices_within, joining_cleared}
use Rattle.sd_planner.proofs.backups.survey.Survey.clear_joining.Goals as goal

pub set_flags-requires : goal.set_flags-requires
set_flags-requires c k there =
    let s = c.args.self.now in
    omega (
      arith,
      links_within (net_in s) s.domains c.args.self.now.domains_are c.args.primary.link k
          (subst (λ xs. has xs k ≡ true) c.of_link.ensures there),
      c.requires.size,
    )

pub set_flags-requires-2 : goal.set_flags-requires-2
set_flags-requires-2 c k there =
    let s = c.args.self.now in
    omega (
      arith,
      devices_within (net_in s) s.domains c.args.self.now.domains_are c.args.primary.parent k
          (subst (λ xs. has xs k ≡ true) c.of_device.ensures there),
      c.requires.size,
      c.set_flags.ensures.size,
    )

pub returns : goal.returns
returns c d some =
    let s = c.args.self.now in
    joining_cleared (net_in s) s.domains c.args.self.now.domains_are d c.args.primary c.args.joining.now c.set_flags.new.flags c.set_flags-2.new.flags some
    (subst (λ xs. AreSet xs false c.args.joining.now c.set_flags.new.flags) c.of_link.ensures c.set_flags.ensures)
    (subst (λ xs. AreSet xs false c.set_flags.new.flags c.set_flags-2.new.flags) c.of_device.ensures c.set_flags-2.ensures)
