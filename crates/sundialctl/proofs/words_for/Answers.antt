use Rattle.std.proofs.Common.{◌∙◌, ◌≡◌, ◌-◌, List, ap, arith, drop, length, map, refl, string_bytes, sym, ℕ}
use Rattle.std.proofs.lemmas.Bool.{lt-ltb}
use Rattle.std.proofs.lemmas.List.{drop-map, length-map}
use Rattle.sundialctl.specs.Naming.{words_for}
use Rattle.sundialctl.proofs.words_for.Goals as goal

pub returns-then-is_word-2 : goal.returns-then-is_word-2
returns-then-is_word-2 c =
    let words = map string_bytes c.args.words.now in
    let named : words_for words c.args.file ≡ drop (length words - 1 - c.args.file) words =
    rw (sym c.is_word.ensures ∙ c.if-is_word.true, lt-ltb 1 c.args.file (omega arith), sym c.is_word-then-place-gt1.ensures ∙ c.if-is_word-2.true) refl in
    ap (map string_bytes) c.words_behind.ensures ∙ sym (drop-map string_bytes (length c.args.words.now - 1 - c.args.file) c.args.words.now)
    ∙ ap (λ (n : ℕ). drop (n - 1 - c.args.file) words) (sym (length-map c.args.words.now string_bytes)) ∙ sym named
