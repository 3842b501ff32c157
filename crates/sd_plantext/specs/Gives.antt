-- A reader gives what a definition says: the value, or the first fault.
use Rattle.std.specs.Prelude.{◌≡◌, Result, Ok, Err}
use Rattle.sd_plantext.specs.declared.fault.PlanFault.{PlanFault}
use Rattle.sd_plantext.specs.declared.fault.PlanFault.TheVariants as faults

-- out of memory is free, and each other fault is the first one
abbrev pub Fails : {Y : Type 0} → PlanFault → Result Y PlanFault → Type 0
Fails faults.NotJson read = read ≡ Err faults.NotJson
Fails (faults.Missing p) read = read ≡ Err (faults.Missing p)
Fails (faults.WrongKind p) read = read ≡ Err (faults.WrongKind p)
Fails (faults.Range p) read = read ≡ Err (faults.Range p)
Fails (faults.UnknownName p) read = read ≡ Err (faults.UnknownName p)
Fails (faults.TwiceNamed p) read = read ≡ Err (faults.TwiceNamed p)
Fails (faults.Version n) read = read ≡ Err (faults.Version n)
Fails faults.Memory read = Unit {0}

-- what was answered, seen by view, is the meaning
abbrev pub Gives : {X Y : Type 0} → (X → Y) → Result X PlanFault → Result Y PlanFault → Type 0
Gives view (Ok x) read = read ≡ Ok (view x)
Gives view (Err e) read = Fails e read
