-- What the fields of `Waits` stand for.
use Rattle.std.specs.Prelude.{◌+◌, ◌-◌, ◌^◌, ◌≤◌, IfSome, length, min, vec_capacity}
use Rattle.sd_replay.specs.wait.Waiting.{AllBelow, Held, pending_count, with_pending}
use Rattle.sd_replay.specs.declared.wait.waits.Waits.TheInside.{Inside}

-- there is room for one more report where none is pending, all that wait can end, and one more is counted
abbrev pub waits_seen : Inside → Held
waits_seen w =
    record {
      waiting = with_pending w.pending w.waiting.keys;
      ended = w.ended.items;
      worst = w.worst;
      last = w.last;
      begun = w.begun;
      disorders = w.disorders;
      room = min (1 - pending_count w.pending) (min (vec_capacity w.ended + 1 - length w.waiting.keys) (2 ^ 64 - 1 - w.begun));
    }

-- the fields stand for what waits
pub record AreWaits (w : Inside) : Type 0 where
  pub below : AllBelow w.begun (with_pending w.pending w.waiting.keys)
  pub pending : IfSome w.pending (λ t. AllBelow t.place w.waiting.keys)
  pub counted : length (with_pending w.pending w.waiting.keys) ≤ w.begun
  pub disorders : w.disorders ≤ w.begun
