use Rattle.std.proofs.Common.{◌≡◌, true, rules, sym, ◌∙◌, ap, subst}
use Rattle.std.specs.List.{All}
use Rattle.std.proofs.lemmas.Fn.{filter_same}
use Rattle.std.proofs.lemmas.List.Elements.{filter_passes}
use Rattle.std.proofs.lemmas.List.Kept.{AllPairs-filter}
use Rattle.sd_monitors.specs.declared.loss.flights.orderly.Entry.{Entry}
use Rattle.sd_monitors.specs.loss.flights.OrderlyKept.{waits_at, IsBefore, AreInOrder}
use Rattle.sd_monitors.proofs.loss.flights.InOrder.{received_out}
use Rattle.sd_monitors.proofs.loss.flights.orderly.drop_all_received.Goals as goal

pub returns-clause-items : goal.returns-clause-items
returns-clause-items c =
    filter_same _ (λ e. e.waits) _ (λ x b f' called. search rules) c.args.entries.now.items c.retain.new.self.items c.retain.ensures.filtered

pub returns-clause-flights : goal.returns-clause-flights
returns-clause-flights c n = ap (λ es. waits_at es n) (returns-clause-items c) ∙ received_out n c.args.entries.now.items

pub returns-clause-waiting : goal.returns-clause-waiting
returns-clause-waiting c =
    subst (All (λ (e : Entry). e.waits ≡ true)) (sym (returns-clause-items c)) (filter_passes (λ (e : Entry). e.waits) c.args.entries.now.items)

pub returns-clause-order : goal.returns-clause-order
returns-clause-order c h =
    subst AreInOrder (sym (returns-clause-items c)) (AllPairs-filter (λ x y. IsBefore x.flight y.flight) (λ (e : Entry). e.waits) c.args.entries.now.items h)
