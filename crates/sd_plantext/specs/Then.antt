-- A reader that goes on with what another one gave.
use Rattle.std.specs.Prelude.{Result, Ok, Err}
use Rattle.sd_plantext.specs.declared.fault.PlanFault.{PlanFault}

infixl 10 ◌>>=◌
-- go on where there is no fault
abbrev pub ◌>>=◌ : {A B : Type 0} → Result A PlanFault → (A → Result B PlanFault) → Result B PlanFault
(Ok x) >>= f = f x
(Err e) >>= f = Err e
