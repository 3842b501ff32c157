-- What is read of an exchange's fields one after the other is what is read of them all.
use Rattle.std.proofs.Common.{◌≡◌, ◌≢◌, ◌∙◌, ℕ, suc, below_more, ◌+◌, ◌-◌, ◌<◌, ◌≤◌, List, [], ◌∷◌, ◌++◌, length, get_or, set, take, drop, Option, None, Some, Result, Ok, Err, refl, sym, ap, arith, append_assoc, false}
use Rattle.std.specs.Prelude.{codes, unwrap_or}
use Rattle.std.proofs.lemmas.Bool.{ne_eqb, eq-eqb, or_parts}
use Rattle.std.proofs.lemmas.List.{append-nil, get_or-set_same, get_or-set_other, length-append, length-set, length-take-le, take_all, take_more, take_more_set}
use Rattle.std.proofs.lemmas.Grind.{common_steps}
use Rattle.sd_num.specs.Lists.{map_or}
use Rattle.sd_num.specs.Decimals.{number}
use Rattle.sd_sched.specs.Lines.{fields, first_field, number_within, same_bytes, then_numbers}
use Rattle.sd_sched.specs.Reading.{fields_behind}
use Rattle.sd_sched.proofs.Cuts.{fields_step}
use Rattle.sd_commands.specs.exchanges.Lines.{exchange_or_fault, limits, line_of_fields, line_of_word, exchange_line, numbers_within, numbers_or_fault, seven_numbers}
use Rattle.sd_commands.specs.exchanges.Limits.{AreWithin, is_word}
use Rattle.sd_commands.specs.declared.exchanges.ExchangeLineFault.{ExchangeLineFault}
use Rattle.sd_commands.specs.declared.exchanges.ExchangeLineFault.TheVariants.{FieldCount, UnknownWord}

-- the numbers so far, unless a field was refused
abbrev pub so_far : Option ℕ → List ℕ → Result (List ℕ) ℕ
so_far None numbers = Ok numbers
so_far (Some place) numbers = Err place

-- the number of a field after others
abbrev and_number : Result (List ℕ) ℕ → ℕ → Option ℕ → Result (List ℕ) ℕ
and_number (Err earlier) place number = Err earlier
and_number (Ok ns) place None = Err place
and_number (Ok ns) place (Some n) = Ok (ns ++ n ∷ [])

-- a field in front of others and of one after them
in_front : (front : Option ℕ) (place behind : ℕ) (rest : Result (List ℕ) ℕ) (last : Option ℕ)
    → map_or front (Err place) (λ n. then_numbers n (and_number rest behind last))
    ≡ and_number (map_or front (Err place) (λ n. then_numbers n rest)) behind last
in_front None place behind rest last = refl
in_front (Some n) place behind (Err earlier) last = refl
in_front (Some n) place behind (Ok ns) None = refl
in_front (Some n) place behind (Ok ns) (Some m) = refl

-- one field alone
alone : (front : Option ℕ) (place : ℕ) → map_or front (Err place) (λ n. then_numbers n (Ok [])) ≡ and_number (Ok []) place front
alone None place = refl
alone (Some n) place = refl

-- one field more, after as many as there are limits
one_more : (place : ℕ) (mosts : List ℕ) (texts : List (List ℕ)) (most : ℕ) (text : List ℕ) → length texts ≡ length mosts
    → numbers_within place (mosts ++ most ∷ []) (texts ++ text ∷ [])
    ≡ and_number (numbers_within place mosts texts) (place + length mosts) (number_within most (number text))
one_more place [] [] most text same =
    let here : place + 0 ≡ place = omega arith in rw here (alone (number_within most (number text)) place)
one_more place [] (t ∷ ts) most text same = absurd (omega (arith, same))
one_more place (m ∷ ms) [] most text same = absurd (omega (arith, same))
one_more place (m ∷ ms) (t ∷ ts) most text same =
    let later = one_more (place + 1) ms ts most text (omega (arith, same)) in
    let behind : place + 1 + length ms ≡ place + suc (length ms) = omega arith in
    ap (λ (rest : Result (List ℕ) ℕ). map_or (number_within m (number t)) (Err place) (λ n. then_numbers n rest)) later
    ∙ in_front (number_within m (number t)) place (place + 1 + length ms) (numbers_within (place + 1) ms ts) (number_within most (number text))
    ∙ ap (λ (p : ℕ). and_number (map_or (number_within m (number t)) (Err place) (λ n. then_numbers n (numbers_within (place + 1) ms ts))) p
    (number_within most (number text))) behind

-- the fields before a place were read, and those from there on are left
pub record ReadTo (behind numbers : List ℕ) (refused : Option ℕ) (left : List ℕ) (place : ℕ) : Type 0 where
  pub front : List (List ℕ)
  pub split : fields_behind behind ≡ front ++ fields_behind left
  pub many : length front ≡ place
  pub read : numbers_within 1 (take place limits) front ≡ so_far refused (take place numbers)
  pub within : refused ≡ None → (k : ℕ) → k < place → get_or numbers k 0 ≤ get_or limits k 0
  pub seven : length numbers ≡ 7

-- none was read yet
pub ReadTo-none : (behind : List ℕ) → ReadTo behind (0 ∷ 0 ∷ 0 ∷ 0 ∷ 0 ∷ 0 ∷ 0 ∷ []) None behind 0
ReadTo-none behind = record { front = []; split = refl; many = refl; read = refl; within = λ none k below. absurd (omega arith); seven = refl }

-- the fields that are left, where one of them was read
left_less : (behind left bytes rest : List ℕ) (front : List (List ℕ)) → fields_behind behind ≡ front ++ fields_behind left → fields_behind left ≡ fields bytes
    → rest ≡ drop (length (first_field bytes)) bytes
    → fields_behind behind ≡ (front ++ first_field bytes ∷ []) ++ fields_behind rest
left_less behind left bytes rest front split more after =
    split
    ∙ ap (λ (texts : List (List ℕ)). front ++ texts) (more ∙ fields_step bytes ∙ ap (λ (b : List ℕ). first_field bytes ∷ fields_behind b) (sym after))
    ∙ sym (append_assoc front (first_field bytes ∷ []) (fields_behind rest))

one_longer : (front : List (List ℕ)) (text : List ℕ) (place : ℕ) → length front ≡ place → length (front ++ text ∷ []) ≡ place + 1
one_longer front text place many = length-append front (text ∷ []) ∙ ap (λ (n : ℕ). n + 1) many

-- the numbers of one field more
read_more : (front : List (List ℕ)) (text : List ℕ) (place : ℕ) (before : Result (List ℕ) ℕ) → length front ≡ place → place < 7
    → numbers_within 1 (take place limits) front ≡ before
    → numbers_within 1 (take (place + 1) limits) (front ++ text ∷ []) ≡ and_number before (place + 1) (number_within (get_or limits place 0) (number text))
read_more front text place before many inside read =
    let size : length (take place limits) ≡ place = length-take-le place limits (omega (arith, inside)) in
    let next : 1 + length (take place limits) ≡ place + 1 = omega (arith, size) in
    ap (λ (mosts : List ℕ). numbers_within 1 mosts (front ++ text ∷ [])) (take_more limits place 0 inside)
    ∙ one_more 1 (take place limits) front (get_or limits place 0) text (many ∙ sym size)
    ∙ ap (λ (r : Result (List ℕ) ℕ). and_number r (1 + length (take place limits)) (number_within (get_or limits place 0) (number text))) read
    ∙ ap (λ (p : ℕ). and_number before p (number_within (get_or limits place 0) (number text))) next

-- with its number there is one more, unless a field was refused
with_number : (refused : Option ℕ) (numbers : List ℕ) (place n : ℕ) → place < length numbers
    → and_number (so_far refused (take place numbers)) (place + 1) (Some n) ≡ so_far refused (take (place + 1) (set numbers place n))
with_number None numbers place n inside = ap Ok (sym (take_more_set numbers place n inside))
with_number (Some earlier) numbers place n inside = refl

-- a field with a number is read
pub ReadTo-number : (behind numbers : List ℕ) (refused : Option ℕ) (left : List ℕ) (place : ℕ) (bytes rest : List ℕ) (n : ℕ)
    → ReadTo behind numbers refused left place → place < 7 → fields_behind left ≡ fields bytes
    → Some n ≡ number_within (get_or limits place 0) (number (first_field bytes)) → n ≤ get_or limits place 0 → rest ≡ drop (length (first_field bytes)) bytes
    → ReadTo behind (set numbers place n) refused rest (place + 1)
ReadTo-number behind numbers refused left place bytes rest n r inside more is small after =
    let fits : place < length numbers = omega (arith, r.seven) in
    record {
      front = r.front ++ first_field bytes ∷ [];
      split = left_less behind left bytes rest r.front r.split more after;
      many = one_longer r.front (first_field bytes) place r.many;
      read =
          read_more r.front (first_field bytes) place (so_far refused (take place numbers)) r.many inside r.read
          ∙ ap (and_number (so_far refused (take place numbers)) (place + 1)) (sym is)
          ∙ with_number refused numbers place n fits;
      within = λ none. below_more _ _
          (λ k below. let other : k ≢ place = omega arith in rw (get_or-set_other numbers place k n 0 other) (r.within none k below))
          (rw (get_or-set_same numbers place n 0 fits) small);
      seven = length-set numbers place n ∙ r.seven;
    }

-- a field without a number is read, the first such or not
ReadTo-first : (behind numbers left : List ℕ) (place : ℕ) (bytes rest : List ℕ) → ReadTo behind numbers None left place → place < 7
    → fields_behind left ≡ fields bytes
    → None ≡ number_within (get_or limits place 0) (number (first_field bytes)) → rest ≡ drop (length (first_field bytes)) bytes
    → ReadTo behind numbers (Some (place + 1)) rest (place + 1)
ReadTo-first behind numbers left place bytes rest r inside more is after =
    record {
      front = r.front ++ first_field bytes ∷ [];
      split = left_less behind left bytes rest r.front r.split more after;
      many = one_longer r.front (first_field bytes) place r.many;
      read = read_more r.front (first_field bytes) place (Ok (take place numbers)) r.many inside r.read
          ∙ ap (and_number (Ok (take place numbers)) (place + 1)) (sym is);
      within = λ none. cc;
      seven = r.seven;
    }

ReadTo-again : (behind numbers left : List ℕ) (place earlier : ℕ) (bytes rest : List ℕ) → ReadTo behind numbers (Some earlier) left place → place < 7
    → fields_behind left ≡ fields bytes → rest ≡ drop (length (first_field bytes)) bytes
    → ReadTo behind numbers (Some earlier) rest (place + 1)
ReadTo-again behind numbers left place earlier bytes rest r inside more after =
    record {
      front = r.front ++ first_field bytes ∷ [];
      split = left_less behind left bytes rest r.front r.split more after;
      many = one_longer r.front (first_field bytes) place r.many;
      read = read_more r.front (first_field bytes) place (Err earlier) r.many inside r.read;
      within = λ none. cc;
      seven = r.seven;
    }

pub ReadTo-refused : (behind numbers : List ℕ) (refused : Option ℕ) (left : List ℕ) (place : ℕ) (bytes rest : List ℕ) → ReadTo behind numbers refused left place
    → place < 7 → fields_behind left ≡ fields bytes
    → None ≡ number_within (get_or limits place 0) (number (first_field bytes)) → rest ≡ drop (length (first_field bytes)) bytes
    → ReadTo behind numbers (Some (unwrap_or refused (place + 1))) rest (place + 1)
ReadTo-refused behind numbers None left place bytes rest r inside more is after = ReadTo-first behind numbers left place bytes rest r inside more is after
ReadTo-refused behind numbers (Some earlier) left place bytes rest r inside more is after =
    ReadTo-again behind numbers left place earlier bytes rest r inside more after

-- where there are fewer or more fields
miscounted : (texts : List (List ℕ)) → length texts ≢ 7 → seven_numbers texts ≡ Err FieldCount
miscounted texts other = rw (ne_eqb (length texts) 7 other) refl

-- a field is missing
pub ReadTo-short : (behind numbers : List ℕ) (refused : Option ℕ) (left : List ℕ) (place : ℕ) → ReadTo behind numbers refused left place → place < 7
    → fields_behind left ≡ [] → seven_numbers (fields_behind behind) ≡ Err FieldCount
ReadTo-short behind numbers refused left place r inside none =
    let all : fields_behind behind ≡ r.front = r.split ∙ ap (λ (texts : List (List ℕ)). r.front ++ texts) none ∙ append-nil r.front in
    let few : length (fields_behind behind) ≢ 7 = let size : length (fields_behind behind) ≡ place = ap length all ∙ r.many in omega (arith, size) in
    miscounted (fields_behind behind) few

-- a field is left over
some_left : (left : List ℕ) → left ≢ [] → 1 ≤ length (fields_behind left)
some_left [] more = absurd (more refl)
some_left (space ∷ bytes) more = rw (fields_step bytes) (omega arith)

pub ReadTo-long : (behind numbers : List ℕ) (refused : Option ℕ) (left : List ℕ) (place : ℕ) → ReadTo behind numbers refused left place → 7 ≤ place → left ≢ []
    → seven_numbers (fields_behind behind) ≡ Err FieldCount
ReadTo-long behind numbers refused left place r all more =
    let size : length (fields_behind behind) ≡ length r.front + length (fields_behind left) = ap length r.split ∙ length-append r.front (fields_behind left) in
    let many : length (fields_behind behind) ≢ 7 = omega (arith, size, r.many, some_left left more) in
    miscounted (fields_behind behind) many

-- all were read
pub ReadTo-all : (behind numbers : List ℕ) (refused : Option ℕ) (left : List ℕ) (place : ℕ) → ReadTo behind numbers refused left place → place ≡ 7 → left ≡ []
    → seven_numbers (fields_behind behind) ≡ numbers_or_fault (so_far refused numbers)
ReadTo-all behind numbers refused left place r all none =
    let texts : fields_behind behind ≡ r.front = r.split ∙ ap (λ (b : List ℕ). r.front ++ fields_behind b) none ∙ append-nil r.front in
    let seven : length r.front ≡ 7 = r.many ∙ all in
    let read : numbers_within 1 limits r.front ≡ so_far refused numbers =
    ap (λ (mosts : List ℕ). numbers_within 1 mosts r.front) (sym (take_all place limits (omega (arith, all)))) ∙ r.read
    ∙ ap (so_far refused) (take_all place numbers (omega (arith, all, r.seven))) in
    rw (texts, eq-eqb (length r.front) 7 seven) (ap numbers_or_fault read)

pub ReadTo-within : (behind numbers left : List ℕ) (place : ℕ) → ReadTo behind numbers None left place → place ≡ 7 → AreWithin numbers
ReadTo-within behind numbers left place r all = λ k below. r.within refl k (omega (arith, all, below))

-- a line by its first field and what follows it
pub line_is : (line first : List ℕ) → first ≡ first_field line → length first ≤ length line
    → exchange_line line ≡ line_of_word first (fields_behind (take (length line - length first) (drop (length first) line)))
unfolding exchange_line
line_is line first is inside =
    let whole : take (length line - length first) (drop (length first) line) ≡ drop (length first) line = grind (arith, common_steps) in
    ap line_of_fields (fields_step line) ∙ rw (whole, is) refl

-- one with an exchange
pub line_exchange : (line first : List ℕ) (read : Result (List ℕ) ExchangeLineFault) → first ≡ first_field line → length first ≤ length line
    → first ≡ codes "exchange"
    → seven_numbers (fields_behind (take (length line - length first) (drop (length first) line))) ≡ read → exchange_line line ≡ exchange_or_fault read
line_exchange line first read is inside spells numbers =
    let texts = fields_behind (take (length line - length first) (drop (length first) line)) in
    line_is line first is inside ∙ ap (λ (word : List ℕ). line_of_word word texts) spells ∙ ap exchange_or_fault numbers

-- one with an end
pub line_end : (line first : List ℕ) → first ≡ first_field line → length first ≤ length line → first ≡ codes "end"
    → exchange_line line ≡ line_of_word (codes "end") (fields_behind (take (length line - length first) (drop (length first) line)))
line_end line first is inside spells =
    line_is line first is inside
    ∙ ap (λ (word : List ℕ). line_of_word word (fields_behind (take (length line - length first) (drop (length first) line)))) spells

-- and one with neither
neither : (word : List ℕ) (texts : List (List ℕ)) → is_word word ≡ false → line_of_word word texts ≡ Err UnknownWord
unfolding is_word
neither word texts none =
    let parts = or_parts (same_bytes (codes "exchange") word) (same_bytes (codes "end") word) none in
    rw (parts.0, parts.1) refl

pub line_unknown : (line first : List ℕ) → first ≡ first_field line → length first ≤ length line → is_word first ≡ false → exchange_line line ≡ Err UnknownWord
line_unknown line first is inside none = line_is line first is inside
    ∙ neither first (fields_behind (take (length line - length first) (drop (length first) line))) none

-- what stands after an end is too much
pub end_more : (left : List ℕ) → left ≢ [] → line_of_word (codes "end") (fields_behind left) ≡ Err FieldCount
end_more left more =
    let some : length (fields_behind left) ≢ 0 = omega (arith, some_left left more) in
    rw (ne_eqb (length (fields_behind left)) 0 some) refl
