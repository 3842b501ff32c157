-- What the fields of a book stand for.
use Rattle.std.specs.Prelude.{◌-◌, filter}
use Rattle.std.specs.VecDeque.{deque_len, deque_capacity}
use Rattle.sd_device.specs.msg.Books.{Book}
use Rattle.sd_device.specs.msg.Spent.{is_left, AreKept, size_of}
use Rattle.sd_device.specs.declared.msg.book.FlightBook.TheInside.{Inside}

-- the book that the fields stand for
abbrev pub book_seen : Inside → Book
book_seen b =
    record {
      flights = filter (is_left b.spent) b.flights.items;
      last = b.last;
      places = deque_capacity b.flights;
      room = deque_capacity b.flights - deque_len b.flights;
      size = size_of b.spent;
    }

-- the fields stand for a book
abbrev pub IsBook : Inside → Type 0
IsBook b = AreKept b.last b.spent b.flights.items
