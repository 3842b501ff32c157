use Rattle.std.proofs.Common.{sym, subst, rules}
use Rattle.std.proofs.lemmas.Fn.{filter_same}
use Rattle.sd_device.specs.msg.Spent.{is_left, AreKept}
use Rattle.sd_device.proofs.msg.Books.{kept_filter}
use Rattle.sd_device.proofs.msg.flights.drop_spent.Goals as goal

pub returns-clause-left : goal.returns-clause-left
returns-clause-left c =
    filter_same _ (is_left c.args.spent.now) _ (λ x b f' called. search rules) c.args.flights.now.items c.retain.new.self.items c.retain.ensures.filtered

pub returns-clause-kept : goal.returns-clause-kept
returns-clause-kept c last h =
    let spent = c.args.spent.now in
    subst (AreKept last spent) (sym (returns-clause-left c)) (kept_filter (is_left spent) last spent c.args.flights.now.items h)
