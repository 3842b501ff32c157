-- Memory that grows by what is asked for alone.
use Rattle.std.proofs.Common.{◌≡◌, ℕ, ◌≤◌, max, Result, Ok, Err, arith}
use Rattle.std.proofs.Math.Nat.{le-max_left, le-max_right, max-le}
use Rattle.std.specs.Prelude.{OnOk, OnErr}
use Rattle.std.specs.declared.alloc.AllocError.{AllocError}

-- there was memory for as many before, or no more than this is asked for
pub grown : (r : Result (Unit {0}) AllocError) (old new asked most : ℕ) → OnOk r (new ≡ max old asked) → OnErr r (new ≡ old) → asked ≤ most
    → new ≤ max old most
grown (Ok x) old new asked most grows stays within =
    let held = le-max_left old most in
    let enough = le-max_right old most in
    let all : max old asked ≤ max old most = max-le held (omega (arith, within, enough)) in
    omega (arith, grows, all)
grown (Err x) old new asked most grows stays within = let held = le-max_left old most in omega (arith, stays, held)
