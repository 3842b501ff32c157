use Rattle.std.proofs.Common.{◌∙◌, ap, filter}
use Rattle.sd_device.specs.msg.Spent.{is_left}
use Rattle.sd_device.proofs.msg.Filters.{filter_again}
use Rattle.sd_device.proofs.msg.flights.reopen.Goals as goal

pub returns-clause-left : goal.returns-clause-left
returns-clause-left c =
    let before = is_left c.args.spent.now in
    let after = is_left c.reopen.new.self in
    ap (filter after) c.drop_spent.ensures.left ∙ filter_again before after c.args.flights.now.items c.reopen.ensures.left
