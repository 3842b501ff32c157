-- Receipts of one message: of all that come over one link at most one counts, and each other one changes nothing.
use Rattle.std.specs.Prelude.{◌≡◌, ℕ, Bool, false, ◌||◌, List, [], ◌∷◌, nat_eq, is_some, not, IsTrue}
use Rattle.std.specs.List.{list_all}
use Rattle.sd_num.specs.Lists.{map_or}
use Rattle.sd_device.specs.declared.msg.Message.{Message}
use Rattle.sd_device.specs.declared.registers.Registers.{Registers}
use Rattle.sd_device.specs.Calls.{Call, Receive, Give}
use Rattle.sd_device.specs.Rules.{called, entering, accepting, quietly}

-- a message over this link counts: the device takes up a duty by it, or accepts it from its parent
abbrev pub counts : Registers → ℕ → Message → Bool
counts r link message = is_some (entering r link message) || is_some (accepting r link message)

-- the registers after these calls, the newest first
abbrev pub after_calls : Registers → List Call → Registers
after_calls r [] = r
after_calls r (call ∷ earlier) = (called (after_calls r earlier) call).0

-- the duty that was given, and is not taken up yet, is of this plan
abbrev pub is_given : ℕ → Registers → Bool
is_given epoch r = map_or r.given false (λ duty. nat_eq duty.epoch epoch)

-- the call gives a duty of this plan
abbrev pub gives : ℕ → Call → Bool
gives epoch (Give duty) = nat_eq duty.epoch epoch
gives epoch _ = false

-- a receipt that does not count leaves the registers as they are and sends nothing
abbrev pub OthersChangeNothing : Type 0
OthersChangeNothing =
    (r : Registers) (link : ℕ) (message : Message) (counter : ℕ) → counts r link message ≡ false → called r (Receive link message counter) ≡ quietly r

-- After a receipt that counts no later one does, whatever calls come between, as long as the duty of the message's plan is not given again: it is not waiting
-- after the receipt, and no call between gives it.
abbrev pub CountsOnce : Type 0
CountsOnce =
    (r : Registers) (link : ℕ) (message : Message) (counter : ℕ) (between : List Call) → IsTrue (counts r link message)
    → is_given message.epoch (called r (Receive link message counter)).0 ≡ false → IsTrue (list_all (λ call. not (gives message.epoch call)) between)
    → counts (after_calls (called r (Receive link message counter)).0 between) link message ≡ false
