use Rattle.std.proofs.Common.{◌≡◌, true, false, subst, arith}
use Rattle.sd_num.specs.Lists.{has}
use Rattle.sd_planner.specs.Surveys.{net_in}
use Rattle.sd_planner.specs.Flags.{AreSet}
use Rattle.sd_planner.proofs.Joining.{links_within, devices_within, joining_set}
use Rattle.sd_planner.proofs.backups.survey.Survey.set_joining.Goals as goal

pub set_flags-requires : goal.set_flags-requires
set_flags-requires c k there =
    let s = c.args.self.now in
    omega (
      arith,
      links_within (net_in s) s.domains c.args.self.now.domains_are c.args.primary.link k
          (subst (λ xs. has xs k ≡ true) c.of_link.ensures there),
      c.requires.clear.size,
    )

pub set_flags-requires-2 : goal.set_flags-requires-2
set_flags-requires-2 c k there =
    let s = c.args.self.now in
    omega (
      arith,
      devices_within (net_in s) s.domains c.args.self.now.domains_are c.args.primary.parent k
          (subst (λ xs. has xs k ≡ true) c.of_device.ensures there),
      c.requires.clear.size,
      c.set_flags.ensures.size,
    )

pub set_flags-requires-3 : goal.set_flags-requires-3
set_flags-requires-3 c k there =
    let s = c.args.self.now in
    omega (
      arith,
      devices_within (net_in s) s.domains c.args.self.now.domains_are c.args.d k
          (subst (λ xs. has xs k ≡ true) c.of_device-2.ensures there),
      c.requires.clear.size,
      c.set_flags.ensures.size,
      c.set_flags-2.ensures.size,
    )

pub returns : goal.returns
returns c =
    let s = c.args.self.now in
    joining_set (net_in s) s.domains c.args.self.now.domains_are c.args.d c.args.primary c.args.joining.now c.set_flags.new.flags c.set_flags-2.new.flags
    c.set_flags-3.new.flags c.requires.clear
    (subst (λ xs. AreSet xs true c.args.joining.now c.set_flags.new.flags) c.of_link.ensures c.set_flags.ensures)
    (subst (λ xs. AreSet xs true c.set_flags.new.flags c.set_flags-2.new.flags) c.of_device.ensures c.set_flags-2.ensures)
    (subst (λ xs. AreSet xs false c.set_flags-2.new.flags c.set_flags-3.new.flags) c.of_device-2.ensures c.set_flags-3.ensures)
