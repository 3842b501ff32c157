-- The flight of the event's message is found after those that ended are left out.
use Rattle.std.proofs.Common.{◌≤◌, filter, sym, ◌∙◌, ap, subst, if◌then◌else◌}
use Rattle.std.specs.Prelude.{IsOk}
use Rattle.std.specs.Result.{result_ok}
use Rattle.sd_device.specs.msg.Books.{found, without, is_current}
use Rattle.sd_sched.specs.Events.{reference_of}
use Rattle.sd_fleet.specs.Stepping.{CanDeliver, delivered, taken_from}
use Rattle.sd_fleet.proofs.FabricKeeping.{found_still, still_kept, is_there, lost_ok}
use Rattle.sd_fleet.proofs.deliveries.deliver.Goals as goal

pub take_found-requires : goal.take_found-requires
take_found-requires c =
    let can = still_kept c.in-Recv.reference c.in-Recv.device (found c.args.book.now.last c.args.book.now.flights c.in-Recv.message)
    (subst (CanDeliver c.args.book.now) c.in-Recv.is c.requires.message) in
    record {
      there = subst IsOk
          (sym (found_still c.args.book.now c.purge.new.self c.in-Recv.reference c.in-Recv.message c.reference.result can c.requires.given
          c.purge.ensures.last c.purge.ensures.flights (c.reference.ensures ∙ ap reference_of c.in-Recv.is)))
          (is_there (λ f. c.in-Recv.reference ≤ f.last) (found c.args.book.now.last c.args.book.now.flights c.in-Recv.message) can);
    }

pub returns-in-Recv-clause-flight : goal.returns-in-Recv-clause-flight
returns-in-Recv-clause-flight c =
    let can = still_kept c.in-Recv.reference c.in-Recv.device (found c.args.book.now.last c.args.book.now.flights c.in-Recv.message)
    (subst (CanDeliver c.args.book.now) c.in-Recv.is c.requires.message) in
    sym (ap result_ok c.take_found.ensures.flight)
    ∙ ap result_ok
    (found_still c.args.book.now c.purge.new.self c.in-Recv.reference c.in-Recv.message c.reference.result can c.requires.given
    c.purge.ensures.last c.purge.ensures.flights (c.reference.ensures ∙ ap reference_of c.in-Recv.is))
    ∙ sym (ap (taken_from c.args.book.now) c.in-Recv.is)

pub returns-in-Recv-clause-flights : goal.returns-in-Recv-clause-flights
returns-in-Recv-clause-flights c =
    c.take_found.ensures.flights
    ∙ ap (without c.in-Recv.message) (c.purge.ensures.flights
    ∙ ap (λ r. filter (is_current r) c.args.book.now.flights) (c.reference.ensures ∙ ap reference_of c.in-Recv.is))
    ∙ sym (ap (λ e. delivered e c.args.book.now.flights) c.in-Recv.is)

pub returns-in-Lose-clause-flights : goal.returns-in-Lose-clause-flights
returns-in-Lose-clause-flights c =
    c.lose.ensures.flights
    ∙ ap (λ b. if b then without c.in-Lose.message c.purge.new.self.flights else c.purge.new.self.flights)
    (lost_ok c.args.book.now c.purge.new.self c.in-Lose.reference c.in-Lose.message c.reference.result c.lose.result
    (subst (CanDeliver c.args.book.now) c.in-Lose.is c.requires.message) c.requires.given
    c.purge.ensures.last c.purge.ensures.flights (c.reference.ensures ∙ ap reference_of c.in-Lose.is) c.lose.ensures.flight)
    ∙ ap (without c.in-Lose.message) (c.purge.ensures.flights
    ∙ ap (λ r. filter (is_current r) c.args.book.now.flights) (c.reference.ensures ∙ ap reference_of c.in-Lose.is))
    ∙ sym (ap (λ e. delivered e c.args.book.now.flights) c.in-Lose.is)
