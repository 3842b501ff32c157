-- A reader of a line that goes on with what another one gave.
use Rattle.std.specs.Prelude.{Result, Ok, Err}
use Rattle.sd_sched.specs.declared.LineFault.{LineFault}

infixl 10 ◌>>=◌
-- go on where there is no fault
abbrev pub ◌>>=◌ : {A B : Type 0} → Result A LineFault → (A → Result B LineFault) → Result B LineFault
(Ok x) >>= f = f x
(Err e) >>= f = Err e
