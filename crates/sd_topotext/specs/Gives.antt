-- A reader gives what a definition says: the value, or the first fault.
use Rattle.std.specs.Prelude.{◌≡◌, Result, Ok, Err}
use Rattle.sd_topotext.specs.declared.fault.TopoFault.{TopoFault}
use Rattle.sd_topotext.specs.declared.fault.TopoFault.TheVariants as faults

-- out of memory is free, and each other fault is the first one
abbrev pub Fails : {Y : Type 0} → TopoFault → Result Y TopoFault → Type 0
Fails faults.NotToml read = read ≡ Err faults.NotToml
Fails (faults.Missing p) read = read ≡ Err (faults.Missing p)
Fails (faults.WrongKind p) read = read ≡ Err (faults.WrongKind p)
Fails (faults.Range p) read = read ≡ Err (faults.Range p)
Fails (faults.TwiceNamed p) read = read ≡ Err (faults.TwiceNamed p)
Fails (faults.UnknownName p) read = read ≡ Err (faults.UnknownName p)
Fails (faults.SelfLink p) read = read ≡ Err (faults.SelfLink p)
Fails (faults.Limit k) read = read ≡ Err (faults.Limit k)
Fails faults.Memory read = Unit {0}

-- what was answered, seen by view, is the meaning
abbrev pub Gives : {X Y : Type 0} → (X → Y) → Result X TopoFault → Result Y TopoFault → Type 0
Gives view (Ok x) read = read ≡ Ok (view x)
Gives view (Err e) read = Fails e read
