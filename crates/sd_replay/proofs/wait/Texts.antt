-- What is printed of the last report is what its lines say.
use Rattle.std.specs.Prelude.{◌≡◌, ℕ, zero, suc, ◌-◌, ◌<◌, List, [], ◌∷◌, ◌++◌, length, map, flat_map, slice_get, Option, Some, None, option_map, codes, decimal, if◌then◌else◌}
use Rattle.std.proofs.Common.{refl, sym, ap, ◌∙◌, arith}
use Rattle.std.proofs.lemmas.List.{append-nil}
use Rattle.std.proofs.lemmas.List.Concat.{flat_map-append}
use Rattle.std.proofs.lemmas.Option.{same_Some}
use Rattle.std.proofs.lemmas.Bool.{lt-ltb}
use Rattle.sd_num.specs.Lists.{map_or, at_place}
use Rattle.sd_num.specs.Texts.{text_of}
use Rattle.sd_device.specs.msg.Observed.{ReportAt}
use Rattle.sd_replay.specs.wait.Waits.{WaitLine, Ended, Disorder, Begin, stamp_of, line_at, ended_at, worst_disorder}
use Rattle.sd_replay.specs.wait.Printed.{words_of, bytes_at}
use Rattle.sd_replay.specs.wait.Waiting.{ended_bytes, shown_bytes}
use Rattle.sd_replay.specs.wait.Standing.{transaction, transaction_at, shown_at, last_shown}
use Rattle.sd_replay.specs.declared.wait.transactions.Transaction.{Transaction}
use Rattle.sd_replay.specs.declared.wait.printing.Shown.{Shown}

module _ (told : List ReportAt) (k : ℕ) (name : List ℕ) where
  abbrev line_bytes : WaitLine → List ℕ
  line_bytes line = text_of (words_of name line)

  line_is : (i : ℕ) → (transaction_at told i).line ≡ line_at told i
  line_is i = by (slice_get told i)
    where
      by : (o : Option ReportAt) → (map_or o (record { device = 0; stamp = 0; place = i; line = 0 }) (transaction i)).line ≡ map_or o 0 (λ x. x.line)
      by None = refl
      by (Some x) = refl

  ended_lines : (is : List ℕ)
      → ended_bytes (transaction_at told k).line (map (transaction_at told) is) ≡ flat_map line_bytes (map (λ i. Ended (line_at told k) (line_at told i)) is)
  ended_lines [] = refl
  ended_lines (i ∷ is) =
      ap (λ bytes. text_of (codes "ended" ∷ decimal (transaction_at told k).line ∷ decimal (transaction_at told i).line ∷ []) ++ bytes) (ended_lines is)
      ∙ ap (λ n. text_of (codes "ended" ∷ decimal n ∷ decimal (transaction_at told i).line ∷ [])
      ++ flat_map line_bytes (map (λ i. Ended (line_at told k) (line_at told i)) is)) (line_is k)
      ∙ ap (λ n. text_of (codes "ended" ∷ decimal (line_at told k) ∷ decimal n ∷ [])
      ++ flat_map line_bytes (map (λ i. Ended (line_at told k) (line_at told i)) is)) (line_is i)

  disorder_lines : (o : Option ℕ)
      → map_or (option_map (transaction_at told) o) []
      (λ (t : Transaction). text_of (codes "disorder" ∷ decimal (transaction_at told k).line ∷ decimal t.line ∷ []))
      ≡ flat_map line_bytes (map_or o [] (λ i. Disorder (line_at told k) (line_at told i) ∷ []))
  disorder_lines None = refl
  disorder_lines (Some i) =
      ap (λ n. text_of (codes "disorder" ∷ decimal n ∷ decimal (transaction_at told i).line ∷ [])) (line_is k)
      ∙ ap (λ n. text_of (codes "disorder" ∷ decimal (line_at told k) ∷ decimal n ∷ [])) (line_is i)
      ∙ sym (append-nil (line_bytes (Disorder (line_at told k) (line_at told i))))

  begin_line : k < length told
      → text_of (codes "begin" ∷ decimal (transaction_at told k).line ∷ name ∷ decimal (transaction_at told k).stamp ∷ [])
      ≡ flat_map line_bytes (at_place told k [] (λ x. Begin x.line x.device (stamp_of x) ∷ []))
  begin_line within = by (slice_get told k) (some_there told k within)
    where
      some_there : (xs : List ReportAt) (i : ℕ) → i < length xs → (x : ReportAt) × (slice_get xs i ≡ Some x)
      some_there [] i less = absurd (omega arith)
      some_there (x ∷ xs) zero less = (x, refl)
      some_there (x ∷ xs) (suc i) less = some_there xs i (omega arith)

      by : (o : Option ReportAt) → (x : ReportAt) × (o ≡ Some x)
          → text_of (codes "begin" ∷ decimal (map_or o (record { device = 0; stamp = 0; place = k; line = 0 }) (transaction k)).line ∷ name ∷ decimal
          (map_or o (record { device = 0; stamp = 0; place = k; line = 0 }) (transaction k)).stamp ∷ [])
          ≡ flat_map line_bytes (map_or o [] (λ x. Begin x.line x.device (stamp_of x) ∷ []))
      by None there = cc (there.1)
      by (Some x) there = sym (append-nil (line_bytes (Begin x.line x.device (stamp_of x))))

  pub printed : k < length told → shown_bytes (map (transaction_at told) (ended_at told k)) (shown_at told k) name ≡ bytes_at told k name
  printed within =
      let ended = map (λ i. Ended (line_at told k) (line_at told i)) (ended_at told k) in
      let disorder = map_or (worst_disorder told k) [] (λ i. Disorder (line_at told k) (line_at told i) ∷ []) in
      let begin = at_place told k [] (λ x. Begin x.line x.device (stamp_of x) ∷ []) in
      ap (λ bytes. bytes ++ map_or (option_map (transaction_at told) (worst_disorder told k)) []
      (λ (t : Transaction). text_of (codes "disorder" ∷ decimal (transaction_at told k).line ∷ decimal t.line ∷ []))
      ++ text_of (codes "begin" ∷ decimal (transaction_at told k).line ∷ name ∷ decimal (transaction_at told k).stamp ∷ [])) (ended_lines (ended_at told k))
      ∙ ap (λ bytes. flat_map line_bytes ended ++ bytes ++ text_of
      (codes "begin" ∷ decimal (transaction_at told k).line ∷ name ∷ decimal (transaction_at told k).stamp ∷ [])) (disorder_lines (worst_disorder told k))
      ∙ ap (λ bytes. flat_map line_bytes ended ++ flat_map line_bytes disorder ++ bytes) (begin_line within)
      ∙ ap (λ bytes. bytes ++ flat_map line_bytes begin) (sym (flat_map-append line_bytes ended disorder))
      ∙ sym (flat_map-append line_bytes (ended ++ disorder) begin)

-- Where nothing was seen there is nothing to print.
pub nothing : (told : List ReportAt) (name : List ℕ) → length told ≡ 0 → bytes_at told (length told - 1) name ≡ []
nothing [] name none = refl
nothing (x ∷ xs) name none = absurd (omega arith)

-- there is a last report exactly where something is shown
pub shows_last : (told : List ReportAt) (o : Option Shown) → o ≡ last_shown told → (s : Shown) → o ≡ Some s
    → (length told - 1 < length told) × (s ≡ shown_at told (length told - 1))
shows_last [] o is s some = cc
shows_last (x ∷ xs) o is s some = (
  omega arith,
  same_Some s (shown_at (x ∷ xs) (length (x ∷ xs) - 1))
      (sym some ∙ is ∙ ap (λ b. if b then Some (shown_at (x ∷ xs) (length (x ∷ xs) - 1)) else None) (lt-ltb 0 (length (x ∷ xs)) (omega arith))),
)

pub shows_none : (told : List ReportAt) (o : Option Shown) → o ≡ last_shown told → o ≡ None → length told ≡ 0
shows_none [] o is none = refl
shows_none (x ∷ xs) o is none =
    let same : None ≡ Some (shown_at (x ∷ xs) (length (x ∷ xs) - 1)) =
    sym none ∙ is ∙ ap (λ b. if b then Some (shown_at (x ∷ xs) (length (x ∷ xs) - 1)) else None) (lt-ltb 0 (length (x ∷ xs)) (omega arith)) in cc
