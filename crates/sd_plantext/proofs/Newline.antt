-- A newline after a printed value changes nothing of what is read.
use Rattle.std.proofs.Common.{◌≡◌, ℕ, Bool, true, false, Some, List, [], ◌∷◌, ◌++◌, length, decimal, refl, eq-eqb, sym, ap, ap₂, ◌∙◌, append_assoc, append-nil}
use Rattle.std.specs.Prelude.{option_and_then}
use Rattle.std.proofs.lemmas.Str.{utf8_valid_len-IsUtf8}
use Rattle.std.specs.Str.{IsUtf8}
use Rattle.std.specs.Str.Lossy.{utf8_valid_len}
use Rattle.json.specs.Token as tokens_of
use Rattle.json.specs.Word.{ends_word}
use Rattle.json.specs.Lex.{Lexeme, token, comma, colon, string_token, lex, between, fresh, punctuate}
use Rattle.json.specs.Json as json
use Rattle.json.specs.Print.{escape, quoted}
use Rattle.json.proofs.Printed.Strings.{content-escape, lex-escape}
use Rattle.json.proofs.Printed.Numbers.{lex-number}
use Rattle.json.proofs.Printed.Decimals.{IsNumber-decimal}
use Rattle.serde_json.specs.Data.{unsigned, negative, float, Data, null, boolean, number, string, array, object, Items, no_items, item, Members, no_members, member}
use Rattle.serde_json.specs.Read.{read, of_json, max_depth}
use Rattle.serde_json.specs.Written.{compact_text, items_text, members_text, has_float, items_have_float, members_have_float}
use Rattle.sd_plantext.specs.Reading.{tree_of}
use Rattle.sd_plantext.specs.PrintedTree.{IsPlain, ArePlain, HasPlain}

-- two rests that are read alike after a value
record Alike (r q : List ℕ) : Type 0 where
  same : lex between r ≡ lex between q
  first : ends_word r ≡ true
  second : ends_word q ≡ true

quoted_read : (s r : List ℕ) → lex between (quoted s ++ r) ≡ token (tokens_of.string s) ∷ lex between r
unfolding lex
quoted_read s r = ap (λ l. lex between (34 ∷ l)) (append_assoc (escape s) (34 ∷ []) r)
    ∙ ap₂ (λ o l. token (string_token o) ∷ l) (content-escape s r) (lex-escape s r)

-- after an element stands a comma or the closing bracket
items_end : (ds : Items) (r : List ℕ) → ends_word (items_text true ds ++ r) ≡ true
items_end no_items r = refl
items_end (item d ds) r = refl

members_end : (ms : Members) (r : List ℕ) → ends_word (members_text true ms ++ r) ≡ true
members_end no_members r = refl
members_end (member k d ms) r = refl

-- a byte that is a lexeme by itself
marked : (r q : List ℕ) (x : Lexeme) → lex between r ≡ lex between q → x ∷ lex between r ≡ x ∷ lex between q
marked r q x same = ap (λ l. x ∷ l) same

-- an element is read alike where its rests are
item_step : (d : Data) (ds : Items) (r q : List ℕ)
    → lex between (compact_text d ++ (items_text true ds ++ r)) ≡ lex between (compact_text d ++ (items_text true ds ++ q))
    → lex between ((compact_text d ++ items_text true ds) ++ r) ≡ lex between ((compact_text d ++ items_text true ds) ++ q)
item_step d ds r q same = ap (lex between) (append_assoc (compact_text d) (items_text true ds) r) ∙ same
    ∙ ap (lex between) (sym (append_assoc (compact_text d) (items_text true ds) q))

-- a key and its colon
key_read : (k : List ℕ) (d : Data) (ms : Members) (r : List ℕ)
    → lex between ((quoted k ++ 58 ∷ (compact_text d ++ members_text true ms)) ++ r)
    ≡ token (tokens_of.string k) ∷ colon ∷ lex between (compact_text d ++ (members_text true ms ++ r))
unfolding lex
key_read k d ms r =
    ap (lex between) (append_assoc (quoted k) (58 ∷ (compact_text d ++ members_text true ms)) r)
    ∙ quoted_read k (58 ∷ ((compact_text d ++ members_text true ms) ++ r))
    ∙ ap (λ t. token (tokens_of.string k) ∷ colon ∷ lex between t) (append_assoc (compact_text d) (members_text true ms) r)

member_step : (k : List ℕ) (d : Data) (ms : Members) (r q : List ℕ)
    → lex between (compact_text d ++ (members_text true ms ++ r)) ≡ lex between (compact_text d ++ (members_text true ms ++ q))
    → lex between ((quoted k ++ 58 ∷ (compact_text d ++ members_text true ms)) ++ r)
    ≡ lex between ((quoted k ++ 58 ∷ (compact_text d ++ members_text true ms)) ++ q)
member_step k d ms r q same = key_read k d ms r ∙ ap (λ l. token (tokens_of.string k) ∷ colon ∷ l) same ∙ sym (key_read k d ms q)

mutual
  unfolding lex

  value_alike : (d : Data) (r q : List ℕ) → IsPlain d → Alike r q → lex between (compact_text d ++ r) ≡ lex between (compact_text d ++ q)
  value_alike null r q plain rests = absurd plain
  value_alike (boolean b) r q plain rests = absurd plain
  value_alike (number (unsigned n)) r q plain rests =
      lex-number (decimal n) r (IsNumber-decimal n plain) rests.first ∙ marked r q _ rests.same
      ∙ sym (lex-number (decimal n) q (IsNumber-decimal n plain) rests.second)
  value_alike (number (negative z)) r q plain rests = absurd plain
  value_alike (number (float x)) r q plain rests = absurd plain
  value_alike (string s) r q plain rests = quoted_read s r ∙ marked r q _ rests.same ∙ sym (quoted_read s q)
  value_alike (array ds) r q plain rests = ap (λ l. token tokens_of.begin_array ∷ l) (items_alike false ds r q plain rests)
  value_alike (object ms) r q plain rests = ap (λ l. token tokens_of.begin_object ∷ l) (members_alike false ms r q plain rests)

  items_alike : (later : Bool) (ds : Items) (r q : List ℕ) → ArePlain ds → Alike r q
      → lex between (items_text later ds ++ r) ≡ lex between (items_text later ds ++ q)
  items_alike true no_items r q plain rests = ap (λ l. token tokens_of.end_array ∷ l) rests.same
  items_alike false no_items r q plain rests = ap (λ l. token tokens_of.end_array ∷ l) rests.same
  items_alike true (item d ds) r q plain rests =
      let after : Alike (items_text true ds ++ r) (items_text true ds ++ q) =
      record { same = items_alike true ds r q plain.1 rests; first = items_end ds r; second = items_end ds q } in
      ap (λ l. comma ∷ l) (item_step d ds r q (value_alike d (items_text true ds ++ r) (items_text true ds ++ q) plain.0 after))
  items_alike false (item d ds) r q plain rests =
      let after : Alike (items_text true ds ++ r) (items_text true ds ++ q) =
      record { same = items_alike true ds r q plain.1 rests; first = items_end ds r; second = items_end ds q } in
      item_step d ds r q (value_alike d (items_text true ds ++ r) (items_text true ds ++ q) plain.0 after)

  members_alike : (later : Bool) (ms : Members) (r q : List ℕ) → HasPlain ms → Alike r q
      → lex between (members_text later ms ++ r) ≡ lex between (members_text later ms ++ q)
  members_alike true no_members r q plain rests = ap (λ l. token tokens_of.end_object ∷ l) rests.same
  members_alike false no_members r q plain rests = ap (λ l. token tokens_of.end_object ∷ l) rests.same
  members_alike true (member k d ms) r q plain rests =
      let after : Alike (members_text true ms ++ r) (members_text true ms ++ q) =
      record { same = members_alike true ms r q plain.1 rests; first = members_end ms r; second = members_end ms q } in
      ap (λ l. comma ∷ l) (member_step k d ms r q (value_alike d (members_text true ms ++ r) (members_text true ms ++ q) plain.0 after))
  members_alike false (member k d ms) r q plain rests =
      let after : Alike (members_text true ms ++ r) (members_text true ms ++ q) =
      record { same = members_alike true ms r q plain.1 rests; first = members_end ms r; second = members_end ms q } in
      member_step k d ms r q (value_alike d (members_text true ms ++ r) (members_text true ms ++ q) plain.0 after)

line_ends : Alike (10 ∷ []) []
unfolding lex
line_ends = record { same = refl; first = refl; second = refl }

-- a value's text is read with a newline as without
pub newline_read : (d : Data) → IsPlain d → read (compact_text d ++ 10 ∷ []) ≡ read (compact_text d)
newline_read d plain =
    ap (λ ls. option_and_then of_json (option_and_then (λ p. json.if_last p.0 p.1) (json.value max_depth (punctuate fresh ls))))
    (value_alike d (10 ∷ []) [] plain line_ends ∙ ap (lex between) (append-nil (compact_text d)))

-- no number of it is a float
mutual
  pub whole_value : (d : Data) → IsPlain d → has_float d ≡ false
  whole_value null plain = refl
  whole_value (boolean b) plain = refl
  whole_value (number (unsigned n)) plain = refl
  whole_value (number (negative z)) plain = refl
  whole_value (number (float x)) plain = absurd plain
  whole_value (string s) plain = refl
  whole_value (array ds) plain = whole_items ds plain
  whole_value (object ms) plain = whole_members ms plain

  whole_items : (ds : Items) → ArePlain ds → items_have_float ds ≡ false
  whole_items no_items plain = refl
  whole_items (item d ds) plain = rw (whole_value d plain.0) (whole_items ds plain.1)

  whole_members : (ms : Members) → HasPlain ms → members_have_float ms ≡ false
  whole_members no_members plain = refl
  whole_members (member k d ms) plain = rw (whole_value d plain.0) (whole_members ms plain.1)

-- the tree of a value's text with a newline
pub line_read : (bytes : List ℕ) (d : Data) → IsUtf8 bytes → IsPlain d → bytes ≡ compact_text d ++ 10 ∷ [] → read (compact_text d) ≡ Some d
    → tree_of bytes ≡ Some d
line_read bytes d valid plain is back =
    rw (eq-eqb (utf8_valid_len bytes) (length bytes) (utf8_valid_len-IsUtf8 bytes valid)) (ap read is ∙ newline_read d plain ∙ back)
