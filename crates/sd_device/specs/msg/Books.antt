-- The flights that are on their way, and what each call on them finds.
use Rattle.std.specs.Prelude.{ℕ, ◌<◌, ◌≤◌, Bool, ◌&&◌, List, [], ◌∷◌, ◌++◌, find, filter, not, nat_eq, nat_le, nat_lt, ok_or, Result, Ok, Err, if◌then◌else◌}
use Rattle.sd_plan.specs.declared.topo.Thing.{Thing}
use Rattle.sd_plan.specs.declared.topo.Thing.TheVariants.{Device, Link}
use Rattle.sd_device.specs.declared.msg.Flight.{Flight}
use Rattle.sd_device.specs.declared.msg.TakeFault.{TakeFault}
use Rattle.sd_device.specs.declared.msg.TakeFault.TheVariants as fault

-- how many devices and links there are
pub record Size : Type 0 where
  pub devices : ℕ
  pub links : ℕ

-- what is seen of a book: the flights that are not spent, by ascending number, the last number given, how many places there is memory for,
-- for how many more flights there is room, and for how many devices and links the book is
pub record Book : Type 0 where
  pub flights : List Flight
  pub last : ℕ
  pub places : ℕ
  pub room : ℕ
  pub size : Size

-- the flight goes over one of the links, to one of the devices
abbrev pub is_within : Size → Flight → Bool
is_within size f = nat_lt f.link size.links && nat_lt f.receiver size.devices

-- the numbers ascend from above the floor up to the top
abbrev pub AreNumbered : ℕ → ℕ → List Flight → Type 0
AreNumbered floor top [] = floor ≤ top
AreNumbered floor top (f ∷ fs) = (floor < f.number) × AreNumbered f.number top fs

-- the flights have numbers that were given, and ascend by them
abbrev pub AreGiven : Book → Type 0
AreGiven book = AreNumbered 0 book.last book.flights

-- the flight has this number
abbrev pub has_number : ℕ → Flight → Bool
has_number number f = nat_eq f.number number

-- the number was given; the first is 1
abbrev pub is_given : ℕ → ℕ → Bool
is_given last number = nat_le 1 number && nat_le number last

-- the flight of a number among those that are not spent, or why there is none
abbrev pub found : ℕ → List Flight → ℕ → Result Flight TakeFault
found last flights number = if is_given last number then ok_or (find (has_number number) flights) fault.Spent else Err fault.Unknown

-- the same for one device, which has to be the receiver
abbrev pub for_device : ℕ → Result Flight TakeFault → Result Flight TakeFault
for_device device (Ok f) = if nat_eq f.receiver device then Ok f else Err fault.WrongDevice
for_device device (Err e) = Err e

-- that a flight was found, or why not
abbrev pub dismissed : Result Flight TakeFault → Result (Unit {0}) TakeFault
dismissed (Ok f) = Ok tt
dismissed (Err e) = Err e

-- the flights but for the one with this number
abbrev pub without : ℕ → List Flight → List Flight
without number flights = filter (λ f. not (has_number number f)) flights

-- a flight that does not reach is spent at once
abbrev pub with_sent : List Flight → Flight → List Flight
with_sent flights f = if f.reaches then flights ++ f ∷ [] else flights

-- it goes over that link, or to that device
abbrev pub is_swept : Thing → Flight → Bool
is_swept (Device d) f = nat_eq f.receiver d
is_swept (Link l) f = nat_eq f.link l

-- at the reference it is still kept
abbrev pub is_current : ℕ → Flight → Bool
is_current reference f = nat_le reference f.last
