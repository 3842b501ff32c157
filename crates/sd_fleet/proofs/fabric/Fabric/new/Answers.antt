-- A fabric before any event is sound.
use Rattle.std.proofs.Common.{◌≡◌, ℕ, length, refl, sym, ◌∙◌, ap}
use Rattle.sd_plan.specs.topo.Topologies.{network}
use Rattle.sd_device.specs.msg.Books.{Size}
use Rattle.sd_fleet.specs.Registers.{size_of}
use Rattle.sd_fleet.proofs.FabricKeeping.{sound_first}
use Rattle.sd_fleet.proofs.fabric.Fabric.new.Goals as goal

abbrev sized : ℕ → ℕ → Size
sized devices links = record { devices = devices; links = links }

-- the book is for the devices and links of the topology
book_size : (c : goal.In_ok-book) → c.in_ok-book.book.size ≡ size_of (network c.in_ok-topology.topology)
book_size c =
    ap (λ n. sized n c.in_ok-book.book.size.links) (c.in_ok-book.ensures.devices ∙ c.devices.ensures)
    ∙ ap (sized (length (network c.args.topo.now).devices)) (c.in_ok-book.ensures.links ∙ c.links.ensures)
    ∙ sym (ap size_of c.in_ok-topology.ensures)

pub invariant_of-result : goal.invariant_of-result
invariant_of-result c =
    sound_first (record { net = network c.args.topo.now; plans = c.args.plans.now })
    (network c.in_ok-topology.topology) c.in_ok-membership.membership c.in_ok-book.book c.in_ok-topology.ensures c.in_ok-topology.topology.is_network
    c.in_ok-membership.ensures.tables (c.in_ok-membership.ensures.stands (record { net = network c.args.topo.now; plans = c.args.plans.now }) refl refl)
    c.in_ok-book.ensures.given c.in_ok-book.ensures.last (book_size c)

pub returns-clause-sound : goal.returns-clause-sound
returns-clause-sound c =
    sound_first (record { net = network c.args.topo.now; plans = c.args.plans.now })
    (network c.in_ok-topology.topology) c.in_ok-membership.membership c.in_ok-book.book c.in_ok-topology.ensures c.in_ok-topology.topology.is_network
    c.in_ok-membership.ensures.tables (c.in_ok-membership.ensures.stands (record { net = network c.args.topo.now; plans = c.args.plans.now }) refl refl)
    c.in_ok-book.ensures.given c.in_ok-book.ensures.last (book_size c)
