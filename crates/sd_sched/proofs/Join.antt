-- What is read of the fields one after the other is what is read of them all.
use Rattle.std.proofs.Common.{◌≡◌, ◌≢◌, ℕ, suc, below_more, ◌+◌, ◌<◌, ◌≤◌, List, [], ◌∷◌, length, get_or, set, take, drop, Option, None, Some, Result, Ok, Err, refl, sym, ap, ◌∙◌, arith, append_assoc}
use Rattle.std.proofs.lemmas.List.{get_or-set_same, get_or-set_other, length-set, take_more_set, drop_more, drop_all}
use Rattle.sd_num.specs.Lists.{map_or}
use Rattle.sd_sched.specs.Lines.{fields, first_field, field_number, limit}
use Rattle.sd_sched.specs.Reading.{◌then◌, fault_of, reported_first, read_of, numbers_from, so_far, fields_behind, WithinFrom}
use Rattle.sd_sched.specs.declared.LineFault.{LineFault}
use Rattle.sd_sched.specs.declared.LineFault.TheVariants.{UnknownWord, FieldCount, Number}
use Rattle.sd_sched.specs.declared.words.Field.{Field}
use Rattle.sd_sched.specs.declared.words.Field.TheVariants.{Amount}
use Rattle.sd_sched.proofs.Cuts.{fields_step}

-- of three faults the gravest is answered, however they are met
reported_first_assoc : (a b c : LineFault) → reported_first (reported_first a b) c ≡ reported_first a (reported_first b c)
reported_first_assoc a b FieldCount = refl
reported_first_assoc a b (Number place) = refl
reported_first_assoc a b UnknownWord = refl

then_assoc : (a b c : Result (List ℕ) LineFault) → (a then b) then c ≡ a then (b then c)
then_assoc (Ok xs) (Ok ys) (Ok zs) = ap Ok (append_assoc xs ys zs)
then_assoc (Ok xs) (Ok ys) (Err h) = refl
then_assoc (Ok xs) (Err g) (Ok zs) = refl
then_assoc (Ok xs) (Err g) (Err h) = refl
then_assoc (Err f) (Ok ys) (Ok zs) = refl
then_assoc (Err f) (Ok ys) (Err h) = refl
then_assoc (Err f) (Err g) (Ok zs) = refl
then_assoc (Err f) (Err g) (Err h) = ap Err (reported_first_assoc f g h)

-- the count is the gravest
pub count_wins : (a : Result (List ℕ) LineFault) → a then Err FieldCount ≡ Err FieldCount
count_wins (Ok xs) = refl
count_wins (Err f) = refl

-- with a number read there is one more, unless there was a fault
number_read : (fault : Option LineFault) (numbers : List ℕ) (place n : ℕ) → place < length numbers
    → so_far fault (take place numbers) then Ok (n ∷ []) ≡ so_far fault (take (place + 1) (set numbers place n))
number_read None numbers place n inside = ap Ok (sym (take_more_set numbers place n inside))
number_read (Some f) numbers place n inside = refl

-- with none there is a fault
none_read : (fault : Option LineFault) (xs ys : List ℕ) (g : LineFault)
    → so_far fault xs then Err g ≡ so_far (Some (map_or fault g (λ f. reported_first f g))) ys
none_read None xs ys g = refl
none_read (Some f) xs ys g = refl

-- the fields before a place were read, and those from there on are left
pub record ReadTo (shape : List Field) (behind numbers : List ℕ) (fault : Option LineFault) (left : List ℕ) (place : ℕ) : Type 0 where
  pub further : numbers_from 1 shape (fields_behind behind)
      ≡ so_far fault (take place numbers) then numbers_from (place + 1) (drop place shape) (fields_behind left)
  pub within : fault ≡ None → (k : ℕ) → k < place → get_or numbers k 0 ≤ limit (get_or shape k Amount)
  pub five : length numbers ≡ 5

-- none was read yet
pub ReadTo-none : (shape : List Field) (behind : List ℕ) → ReadTo shape behind (0 ∷ 0 ∷ 0 ∷ 0 ∷ 0 ∷ []) None behind 0
ReadTo-none shape behind = record {
  further = sym (go (numbers_from 1 shape (fields_behind behind)));
  within = λ none k below. absurd (omega arith);
  five = refl;
}
  where
    go : (all : Result (List ℕ) LineFault) → Ok [] then all ≡ all
    go (Ok ns) = refl
    go (Err f) = refl

-- what is read of the fields that are left: of one, and of those after it
one_more : (shape : List Field) (place : ℕ) (bytes : List ℕ) (front : Result (List ℕ) LineFault) (number : Option ℕ) → place < length shape
    → number ≡ field_number (get_or shape place Amount) (first_field bytes)
    → front then numbers_from (place + 1) (drop place shape) (fields bytes)
    ≡ (front then read_of (get_or shape place Amount) (place + 1) number) then numbers_from (place + 1 + 1) (drop (place + 1) shape)
    (fields_behind (drop (length (first_field bytes)) bytes))
one_more shape place bytes front number inside is =
    rw (drop_more shape place Amount inside, fields_step bytes, is)
    (sym (then_assoc front (read_of (get_or shape place Amount) (place + 1) (field_number (get_or shape place Amount) (first_field bytes)))
    (numbers_from (place + 1 + 1) (drop (place + 1) shape) (fields_behind (drop (length (first_field bytes)) bytes)))))

-- a field with a number is read
pub ReadTo-number : (shape : List Field) (behind numbers : List ℕ) (fault : Option LineFault) (left : List ℕ) (place : ℕ) (bytes rest : List ℕ) (n : ℕ)
    → ReadTo shape behind numbers fault left place → length shape ≤ 5 → place < length shape → fields_behind left ≡ fields bytes
    → Some n ≡ field_number (get_or shape place Amount) (first_field bytes) → n ≤ limit (get_or shape place Amount)
    → rest ≡ drop (length (first_field bytes)) bytes
    → ReadTo shape behind (set numbers place n) fault rest (place + 1)
ReadTo-number shape behind numbers fault left place bytes rest n read few inside more is small after =
    let fits : place < length numbers = omega (arith, read.five) in
    record {
      further =
          read.further
          ∙ ap (λ (texts : List (List ℕ)). so_far fault (take place numbers) then numbers_from (place + 1) (drop place shape) texts) more
          ∙ one_more shape place bytes (so_far fault (take place numbers)) (Some n) inside is
          ∙ rw (number_read fault numbers place n fits, after) refl;
      within = λ none. below_more _ _
          (λ k below. let other : k ≢ place = omega arith in rw (get_or-set_other numbers place k n 0 other) (read.within none k below))
          (rw (get_or-set_same numbers place n 0 fits) small);
      five = length-set numbers place n ∙ read.five;
    }

-- a field without a number is read
pub ReadTo-fault : (shape : List Field) (behind numbers : List ℕ) (fault : Option LineFault) (left : List ℕ) (place : ℕ) (bytes rest : List ℕ)
    → ReadTo shape behind numbers fault left place → place < length shape → fields_behind left ≡ fields bytes
    → None ≡ field_number (get_or shape place Amount) (first_field bytes) → rest ≡ drop (length (first_field bytes)) bytes
    → ReadTo shape behind numbers
    (Some (map_or fault (fault_of (get_or shape place Amount) (place + 1)) (λ f. reported_first f (fault_of (get_or shape place Amount) (place + 1))))) rest
    (place + 1)
ReadTo-fault shape behind numbers fault left place bytes rest read inside more is after =
    let g = fault_of (get_or shape place Amount) (place + 1) in
    record {
      further =
          read.further
          ∙ ap (λ (texts : List (List ℕ)). so_far fault (take place numbers) then numbers_from (place + 1) (drop place shape) texts) more
          ∙ one_more shape place bytes (so_far fault (take place numbers)) None inside is
          ∙ rw (none_read fault (take place numbers) (take (place + 1) numbers) g, after) refl;
      within = λ none. cc;
      five = read.five;
    }

-- each line that goes on has a field more
pub some_field : (left : List ℕ) → left ≢ [] → (place : ℕ) → numbers_from place [] (fields_behind left) ≡ Err FieldCount
some_field [] more place = absurd (more refl)
some_field (space ∷ bytes) more place = rw (fields_step bytes) refl

-- a field is missing
pub ReadTo-short : (shape : List Field) (behind numbers : List ℕ) (fault : Option LineFault) (left : List ℕ) (place : ℕ)
    → ReadTo shape behind numbers fault left place → place < length shape → fields_behind left ≡ []
    → numbers_from 1 shape (fields_behind behind) ≡ Err FieldCount
ReadTo-short shape behind numbers fault left place read inside none =
    read.further ∙ rw (drop_more shape place Amount inside, none) (count_wins (so_far fault (take place numbers)))

-- a field is left over
pub ReadTo-long : (shape : List Field) (behind numbers : List ℕ) (fault : Option LineFault) (left : List ℕ) (place : ℕ)
    → ReadTo shape behind numbers fault left place → length shape ≤ place → left ≢ [] → numbers_from 1 shape (fields_behind behind) ≡ Err FieldCount
ReadTo-long shape behind numbers fault left place read all more =
    read.further ∙ rw (drop_all place shape all, some_field left more (place + 1)) (count_wins (so_far fault (take place numbers)))

within_at : (shape : List Field) (numbers : List ℕ) (place : ℕ) → ((k : ℕ) → k < length shape → get_or numbers (place + k) 0 ≤ limit (get_or shape k Amount))
    → WithinFrom place shape numbers
within_at [] numbers place each = tt
within_at (field ∷ shape) numbers place each = (
  (let here : place + 0 ≡ place = omega arith in rw here at (each 0 (omega arith))),
  within_at shape numbers (place + 1) (λ k inside. let same : place + suc k ≡ place + 1 + k = omega arith in rw same at (each (suc k) (omega arith))),
)

-- each number is within the limit of its field
pub ReadTo-within : (shape : List Field) (behind numbers : List ℕ) (left : List ℕ) (place : ℕ) → ReadTo shape behind numbers None left place
    → place ≡ length shape → WithinFrom 0 shape numbers
ReadTo-within shape behind numbers left place read all =
    within_at shape numbers 0 (λ k inside. let here : 0 + k ≡ k = omega arith in rw here (read.within refl k (omega arith)))
