use Rattle.std.proofs.Common.{ap, ◌∙◌}
use Rattle.std.specs.List.{list_any}
use Rattle.sd_plan.specs.Subtrees.{listed}
use Rattle.sd_planner.specs.Surveys.{net_in}
use Rattle.sd_planner.specs.Flags.{is_set}
use Rattle.sd_planner.proofs.Joining.{joined_is}
use Rattle.sd_planner.proofs.Serving.{or_first, or_second}
use Rattle.sd_planner.proofs.backups.survey.Survey.is_joined.Goals as goal

pub returns-then-is_any_set : goal.returns-then-is_any_set
returns-then-is_any_set c d primary some =
    let s = c.args.self.now in
    let here = c.is_any_set.ensures ∙ ap (list_any (is_set c.args.joining.now)) c.of_link.ensures in
    or_first c.is_any_set.result (list_any (is_set c.args.joining.now) (listed s.domains.links c.args.hop.link))
    (list_any (is_set c.args.joining.now) (listed s.domains.devices c.args.hop.parent)) here c.if-is_any_set.true
    ∙ joined_is (net_in s) s.domains c.args.self.now.domains_are d primary c.args.hop c.args.joining.now some

pub returns-else-is_any_set : goal.returns-else-is_any_set
returns-else-is_any_set c d primary some =
    let s = c.args.self.now in
    let first = c.is_any_set.ensures ∙ ap (list_any (is_set c.args.joining.now)) c.of_link.ensures in
    let second = c.is_any_set-else-is_any_set.ensures ∙ ap (list_any (is_set c.args.joining.now)) c.of_device.ensures in
    or_second c.is_any_set.result c.is_any_set-else-is_any_set.result (list_any (is_set c.args.joining.now) (listed s.domains.links c.args.hop.link))
    (list_any (is_set c.args.joining.now) (listed s.domains.devices c.args.hop.parent))
    first second c.if-is_any_set.false
    ∙ joined_is (net_in s) s.domains c.args.self.now.domains_are d primary c.args.hop c.args.joining.now some
