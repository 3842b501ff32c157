-- Where something is left of a line after what was read.
use Rattle.std.specs.Prelude.{◌≡◌, ◌≢◌, ℕ, List, [], ◌∷◌, Err, refl}
use Rattle.sd_sched.specs.declared.LineFault.TheVariants.{FieldCount}
use Rattle.sd_record.specs.logs.Lines.{at_end}

pub more_left : {A : Type 0} (x : A) (left : List ℕ) → left ≢ [] → at_end x left ≡ Err FieldCount
more_left x [] more = absurd (more refl)
more_left x (byte ∷ bytes) more = refl
