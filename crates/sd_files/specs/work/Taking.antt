-- What a work answers for one line.
use Rattle.std.specs.Prelude.{◌≡◌, ℕ, List, ◌∷◌, take, Option, Some, None, Ok, Err}
use Rattle.sd_files.specs.work.Works.{Work}
use Rattle.sd_files.specs.declared.work.Taken.{Taken}
use Rattle.sd_files.specs.declared.work.Taken.TheVariants as taken

-- a line was taken after these: it gave something, which is held from then on and is written for; or it was refused
abbrev pub Takes : {E : Type 0} → Work E → (taken : List E) → (line : List ℕ) → (Stands : List E → Type 0) → (printed : List ℕ) → Taken → Type 0
Takes {E = E} work xs line Stands printed taken.Accepted = (x : E) × (work.says xs line ≡ Ok x) × (printed ≡ work.bytes xs x) × Stands (x ∷ xs)
Takes {E = E} work xs line Stands printed taken.Refused = (work.says xs line ≡ Err printed) × Stands xs

-- a line at the front of a text, of this many bytes, was taken after these and accepted; or none was taken
abbrev pub TakesFront : {E : Type 0} → Work E → (taken : List E) → (text : List ℕ) → (Stands : List E → Type 0) → (printed : List ℕ) → Option ℕ → Type 0
TakesFront work xs text Stands printed (Some len) = Takes work xs (take len text) Stands printed taken.Accepted
TakesFront work xs text Stands printed None = Stands xs
