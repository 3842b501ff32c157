-- What the fields of a membership stand for.
use Rattle.std.specs.Prelude.{◌≡◌}
use Rattle.sd_world.specs.membership.Memberships.{Registers, IsSound}
use Rattle.sd_world.specs.membership.Counts.{settled_count_of}
use Rattle.sd_world.specs.declared.membership.Membership.TheInside.{Inside}

-- the registers that the fields stand for
abbrev pub registers_seen : Inside → Registers
registers_seen r = record { plans = r.plans.items; world = r.world; answers = r.answers.items }

-- the settled count is that of the staged plan's members, and counts nobody where none is staged
pub record IsMembership (r : Inside) : Type 0 where
  pub sound : IsSound (registers_seen r)
  pub counted : r.settled_count ≡ settled_count_of (registers_seen r)
