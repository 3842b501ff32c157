-- One flight more is sent.
use Rattle.std.proofs.Common.{◌+◌, ◌<◌, max, cond, false, length, get_or, drop, Some, nat_eq, sym, ◌∙◌, ap, arith}
use Rattle.std.proofs.lemmas.List.{get_or_default}
use Rattle.sd_device.specs.declared.msg.Flight.{Flight}
use Rattle.sd_monitors.specs.declared.loss.flights.WaitingFlight.{WaitingFlight}
use Rattle.sd_monitors.specs.loss.flights.WaitingView.{waiting_at}
use Rattle.sd_monitors.specs.loss.flights.InterruptionsView.{last_number}
use Rattle.sd_monitors.proofs.loss.rounds.Sending.{with_sent_more, greatest_of, greatest_more}
use Rattle.sd_monitors.proofs.loss.rounds.Rounds.send.Goals as goal

abbrev no_flight : Flight
no_flight =
    record {
      number = 0;
      link = 0;
      sender = 0;
      receiver = 0;
      reaches = false;
      sent_at = 0;
      due = 0;
      last = 0;
      message = record { epoch = 0; stamp = record { term = 0; round = 0 }; clock = 0; eps = 0 };
    }

pub loop-flight-preserved : goal.loop-flight-preserved
loop-flight-preserved c =
    let sent = c.args.sent.now in
    let i = c.loop-flight.flight-index in
    let within : i < length sent = omega arith in
    let f : Flight = get_or sent i no_flight in
    let at = sym (get_or_default sent i no_flight f within) in
    let before = c.loop-flight.self in
    let inv = c.loop-flight.invariant in
    record {
      waiting = λ n.
          with_sent_more sent i (waiting_at before.waiting) (waiting_at c.add.new.self) f within at
          (λ m. c.add.ensures.flights m ∙ ap (λ (kept : WaitingFlight). cond (nat_eq kept.number m) (Some kept) (waiting_at before.waiting m)) c.of.ensures) n
          ∙ inv.waiting n;
      last = ap (λ n. max n (greatest_of (drop (i + 1) sent))) c.send.ensures.last ∙ greatest_more sent i (last_number before.interruptions) f within at
          ∙ inv.last;
      marks = λ x. c.send.ensures.marks x ∙ inv.marks x;
      places = record { devices = c.send.ensures.places.devices ∙ inv.places.devices; links = c.send.ensures.places.links ∙ inv.places.links };
      room = omega (arith, inv.room, c.add.ensures.room, c.add.ensures.count);
      runs = inv.runs;
      limit = inv.limit;
      holds = inv.holds;
    }
