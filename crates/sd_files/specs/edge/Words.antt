-- Which words a run has.
use Rattle.std.specs.Prelude.{◌≡◌, ◌≢◌, ⊤, [], Result, Ok, Err, String, Vec, drop}
use Rattle.std.specs.Vec.Iter.{into_iter_items}
use Rattle.std.specs.declared.alloc.Global.{Global}
use Rattle.std.specs.declared.io.Error.{Error}
use Rattle.std.specs.declared.vec.IntoIter.{IntoIter}
use Rattle.std.specs.declared.io.ErrorKind.TheVariants.{OutOfMemory}
use Rattle.std.specs.IoError.{error_kind}
use Rattle.sd_num.specs.declared.NoMemory.{NoMemory}

-- all words but the first, or no memory to copy them; after an error of the system no words, or out of memory where it is that
abbrev pub AreWords : Result (IntoIter (String Global) Global) Error → Result (Vec (String Global) Global) NoMemory → Type 0
AreWords (Ok all) (Ok words) = words.items ≡ drop 1 (into_iter_items all)
AreWords (Ok all) (Err _) = ⊤
AreWords (Err error) (Ok words) = (error_kind error ≢ OutOfMemory) × (words.items ≡ [])
AreWords (Err error) (Err _) = error_kind error ≡ OutOfMemory
