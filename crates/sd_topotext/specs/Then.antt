-- A reader that goes on with what another one gave.
use Rattle.std.specs.Prelude.{Result, Ok, Err}
use Rattle.sd_topotext.specs.declared.fault.TopoFault.{TopoFault}

infixl 10 ◌>>=◌
-- go on where there is no fault
abbrev pub ◌>>=◌ : {A B : Type 0} → Result A TopoFault → (A → Result B TopoFault) → Result B TopoFault
(Ok x) >>= f = f x
(Err e) >>= f = Err e
