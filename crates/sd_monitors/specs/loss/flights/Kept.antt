-- What is kept of a flight that waits for its receipt.
use Rattle.sd_device.specs.declared.msg.Flight.{Flight}
use Rattle.sd_monitors.specs.declared.loss.flights.WaitingFlight.{WaitingFlight}

-- what is kept of it
abbrev pub kept_of : Flight → WaitingFlight
kept_of f =
    record {
      number = f.number;
      due = f.due;
      stamp = f.message.stamp;
      link = f.link;
      sender = f.sender;
      receiver = f.receiver;
    }
