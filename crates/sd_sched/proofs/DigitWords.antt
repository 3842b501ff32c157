-- Digits of a text by the words that hold its bytes.
use Rattle.std.proofs.Common.{◌≡◌, ◌∙◌, ℕ, ◌+◌, ◌*◌, ◌%◌, ◌^◌, ◌<◌, ◌≤◌, List, length, get_or, take, drop, sym, ap, arith, take-add, take-take, drop-drop, length-drop, length-take-le, refl}
use Rattle.std.specs.Str.Parse.{digits_value}
use Rattle.std.specs.Float.Numeral.{digits_len}
use Rattle.std.proofs.lemmas.Str.Parse.{digits_value_short}
use Rattle.core.specs.Slice.Scan.{little_endian}
use Rattle.core.proofs.slice.Flagged.{Bytes}
use Rattle.core.proofs.dec2flt.Rows.{AllDigits-digits_len}
use Rattle.core.proofs.dec2flt.DigitsLemmas.{digits_value-append, digits_len-take, digits_len_short}
use Rattle.core.proofs.dec2flt.Eight.{eight_at, word_at}
use Rattle.sd_sched.specs.Words.{BeginsWith, IsOfDigits}
use Rattle.sd_sched.proofs.Decimals.{own}

module _ (text : List ℕ) (at word : ℕ) (fit : Bytes (λ k. get_or text k 0)) (inside : at + 8 ≤ length text) (is : word ≡ little_endian text at)
  where
    -- the digits that a word begins with are those of the text at its place
    pub word_begins : (count n : ℕ) → count < 8 → BeginsWith word count n
        → (digits_len (drop at text) ≡ count) × (digits_value 10 (take count (drop at text)) ≡ n)
    word_begins count n few begins =
        let bytes = take 8 (drop at text) in
        let read = begins bytes (eight_at text at fit inside) (is ∙ word_at text at inside) in (
          digits_len_short (drop at text) 8 (omega (arith, read.0, few)) ∙ read.0,
          ap (digits_value 10) (sym (take-take count 8 (drop at text) (omega arith))) ∙ read.1,
        )

    -- those of a word of digits, and more after them
    pub word_goes_on : (count n v : ℕ) → count < 8 → at + 16 ≤ length text → IsOfDigits word → digits_len (drop (at + 8) text) ≡ count
        → digits_value 10 (take count (drop (at + 8) text)) ≡ n
        → v ≡ (digits_value 10 (take 8 (drop at text)) * 10 ^ count + n) % 2 ^ 64
        → (digits_len (drop at text) ≡ 8 + count) × (digits_value 10 (take (8 + count) (drop at text)) ≡ v)
    word_goes_on count n v few room digits more worth joined =
        let bytes = drop at text in
        let all : digits_len (take 8 bytes) ≡ 8 = digits (take 8 bytes) (eight_at text at fit inside) (is ∙ word_at text at inside) in
        let long : digits_len bytes ≡ 8 + count =
        digits_len-take bytes 8 ∙ rw (all, drop-drop 8 at text, more) refl in
        let tens = AllDigits-digits_len bytes (8 + count) (omega (arith, long)) in
        let few_all = length-take-le (8 + count) bytes (omega (arith, length-drop at text)) in
        let small = digits_value_short own (take (8 + count) bytes) 15 (own.from _ tens) (omega (arith, few_all)) in
        let same = own.same _ tens in
        let last = length-take-le count (drop (at + 8) text) (omega (arith, length-drop (at + 8) text)) in
        let parts : digits_value 10 (take (8 + count) bytes) ≡ digits_value 10 (take 8 bytes) * 10 ^ count + n =
        ap (digits_value 10) (take-add 8 count bytes) ∙ digits_value-append (take 8 bytes) (take count (drop 8 bytes))
        ∙ rw (drop-drop 8 at text, last, worth) refl in
        (long, omega (arith, joined, parts, small, same))
