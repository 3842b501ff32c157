-- What a merge of a feed is worth.
use Rattle.std.specs.Prelude.{◌≡◌, ◌<◌, ◌≤◌, ℕ, ◌+◌, ◌-◌, Bool, true, false, List, [], ◌∷◌, ◌++◌, drop, length, nat_le, nat_lt, Option, Some, None, Result, Ok, Err, IfSome, refl, if◌then◌else◌}
use Rattle.std.specs.List.{concat, range_with_len}
use Rattle.std.proofs.Common.{arith, append_assoc, sym, ◌∙◌, ap, subst}
use Rattle.std.proofs.lemmas.Bool.{leb-true, ltb-false}
use Rattle.std.proofs.lemmas.List.{append-nil, drop_at}
use Rattle.sd_num.specs.Lists.{leading, map_or}
use Rattle.sd_num.specs.Decimals.{number}
use Rattle.sd_num.specs.declared.NumFault.{NumFault}
use Rattle.sd_sched.specs.Lines.{first_field, number_within}
use Rattle.sd_sched.specs.declared.LineFault.{LineFault}
use Rattle.sd_io.specs.outside.Pieces.{piece_of}
use Rattle.sd_io.proofs.outside.Adding.{concat_piece}
use Rattle.sd_io.specs.stream.Lines.{lines}
use Rattle.sd_files.specs.work.Works.{Reading, all_bytes, judged, length_fault, read_on, reading, reading_from, unless_too_long, written_for}
use Rattle.sd_record.specs.merge.Feeds.{behind_number, from_one, log_number, placed, said, said_of, told_in}
use Rattle.sd_record.specs.merge.Growing.{Said, from_of, froms_of, merged, newly_settled, settled, waiting}
use Rattle.sd_record.specs.merge.Laws.{FeedIsMerged, GoesOn, IsFrontOf, IsNext, StaysSettled, WritesMerge}
use Rattle.sd_record.specs.merge.Lines.{LogLine, line_at, settled_by, text_of_lines}
use Rattle.sd_record.specs.merge.Works.{in_words, merge_work}
use Rattle.sd_record.specs.declared.merge.feed.FeedFault.{FeedFault}
use Rattle.sd_record.specs.declared.merge.feed.FeedFault.TheVariants.{OutOfOrder, UnknownLog}
use Rattle.sd_record.specs.declared.merge.feed.Told.{Told}
use Rattle.sd_record.specs.declared.merge.feed.Told.TheVariants.{EntryAt, PastAt}
use Rattle.sd_record.proofs.merge.Merges.{is_merge}
use Rattle.sd_record.proofs.merge.Growth.{merge_grows, new_line, same_merge, settles}
use Rattle.sd_record.proofs.merge.Putting.{put}
use Rattle.sd_record.proofs.merge.Working.{none_merged}

-- A line that is accepted may come next

within_said : (most n : ℕ) (read : Result ℕ NumFault) → number_within most read ≡ Some n → n ≤ most
within_said most n (Err fault) is = cc
within_said most n (Ok m) is = go (nat_le m most) refl is
  where
    go : (b : Bool) → nat_le m most ≡ b → (if b then Some m else None) ≡ Some n → n ≤ most
    go true low same = let here : m ≡ n = cc in let few = leb-true m most low in omega (arith, here, few)
    go false low same = cc

from_one_said : (m n : ℕ) → from_one m ≡ Some n → (1 ≤ n) × (m ≡ n)
from_one_said m n is = go (nat_le 1 m) refl is
  where
    go : (b : Bool) → nat_le 1 m ≡ b → (if b then Some m else None) ≡ Some n → (1 ≤ n) × (m ≡ n)
    go true low same = let here : m ≡ n = cc in let few = leb-true 1 m low in (omega (arith, here, few), here)
    go false low same = cc

number_said : (count n : ℕ) (line : List ℕ) → log_number count line ≡ Some n → (1 ≤ n) × (n ≤ count)
number_said count n line is = go (number_within count (number (first_field line))) refl is
  where
    go : (o : Option ℕ) → number_within count (number (first_field line)) ≡ o → map_or o None from_one ≡ Some n → (1 ≤ n) × (n ≤ count)
    go None read same = cc
    go (Some m) read same =
        let one = from_one_said m n same in
        let few = within_said count m (number (first_field line)) read in (one.0, omega (arith, one.1, few))

placed_next : (count : ℕ) (taken : List Said) (log : ℕ) (bytes : List ℕ) (told : Told) (s : Said) → 1 ≤ log → log ≤ count
    → placed taken log bytes told ≡ Ok s
    → IsNext count taken s
placed_next count taken log bytes (PastAt reference) s low few is =
    let same : record { log = log; reference = reference; entry = None } ≡ s = cc in
    subst (IsNext count taken) same (record { first = low; last = few; in_order = tt })
placed_next count taken log bytes (EntryAt reference) s low few is = go (nat_lt reference (from_of taken log)) refl is
  where
    said_so : Said
    said_so = record { log = log; reference = reference; entry = Some bytes }

    go : (b : Bool) → nat_lt reference (from_of taken log) ≡ b → (if b then Err OutOfOrder else Ok said_so) ≡ Ok s → IsNext count taken s
    go true late same = cc
    go false late same =
        let here : said_so ≡ s = cc in
        subst (IsNext count taken) here (record { first = low; last = few; in_order = ltb-false reference (from_of taken log) late })

said_next : (count : ℕ) (taken : List Said) (line : List ℕ) (s : Said) → said count taken line ≡ Ok s → IsNext count taken s
said_next count taken line s is = go (log_number count line) refl is
  where
    bytes : List ℕ
    bytes = behind_number line

    tell : (log : ℕ) → (1 ≤ log) × (log ≤ count) → (told : Result Told LineFault) → said_of taken log bytes told ≡ Ok s → IsNext count taken s
    tell log few (Err fault) same = cc
    tell log few (Ok told) same = placed_next count taken log bytes told s few.0 few.1 same

    go : (o : Option ℕ) → log_number count line ≡ o → map_or o (Err UnknownLog) (λ log. said_of taken log bytes (told_in bytes)) ≡ Ok s
        → IsNext count taken s
    go None number same = cc
    go (Some log) number same = tell log (number_said count log line number) (told_in bytes) same

-- What is settled

-- the merge begins with what is settled
splits : {A : Type 0} (test : A → Bool) (xs : List A) → xs ≡ leading test xs ++ drop (length (leading test xs)) xs
splits test [] = refl
splits {A = A} test (x ∷ xs) = go (test x) (splits test xs)
  where
    go : (b : Bool) → xs ≡ leading test xs ++ drop (length (leading test xs)) xs
        → x ∷ xs ≡ (if b then x ∷ leading test xs else []) ++ drop (length (if b then x ∷ leading test xs else [])) (x ∷ xs)
    go true more = ap (λ (ys : List A). x ∷ ys) more
    go false more = refl

merge_splits : (count : ℕ) (taken : List Said) → merged count taken ≡ settled count taken ++ waiting count taken
merge_splits count taken = splits (settled_by 1 (froms_of count taken)) (merged count taken)

-- after one line more, what was settled leads what is settled, and the merge
module _ (count : ℕ) (taken : List Said) (s : Said) (next : IsNext count taken s) where
  place : s.log ≡ 1 + (s.log - 1)
  place = let low = next.first in omega (arith, low)

  inside : s.log - 1 < count
  inside = let low = next.first in let few = next.last in omega (arith, low, few)

  rest_grows : (rest : List LogLine) × (merged count (s ∷ taken) ≡ settled count taken ++ rest)
  rest_grows = go s.entry refl next.in_order
    where
      go : (o : Option (List ℕ)) → s.entry ≡ o → IfSome o (λ bytes. from_of taken s.log ≤ s.reference)
          → (rest : List LogLine) × (merged count (s ∷ taken) ≡ settled count taken ++ rest)
      go None is order = (waiting count taken, same_merge count taken s (s.log - 1) inside place is ∙ merge_splits count taken)
      go (Some bytes) is order = (
        put (new_line count taken s (s.log - 1) inside place bytes is (subst (λ (n : ℕ). from_of taken n ≤ s.reference) place order)) (waiting count taken),
        merge_grows count taken s (s.log - 1) inside place bytes is (subst (λ (n : ℕ). from_of taken n ≤ s.reference) place order) (waiting count taken)
            (merge_splits count taken),
      )

  pub settled_grows : IsFrontOf (settled count taken) (settled count (s ∷ taken))
  settled_grows =
      (leading (settled_by 1 (froms_of count (s ∷ taken))) rest_grows.0, settles count taken s (s.log - 1) inside place rest_grows.0 rest_grows.1)

front_of_front : {A : Type 0} (xs ys zs : List A) → IsFrontOf xs ys → IsFrontOf ys zs → IsFrontOf xs zs
front_of_front {A = A} xs ys zs one two =
    (one.0 ++ two.0, two.1 ∙ ap (λ (ws : List A). ws ++ two.0) one.1 ∙ append_assoc xs one.0 two.0)

settled_stays : (count : ℕ) (taken later : List Said) → GoesOn count taken later → IsFrontOf (settled count taken) (settled count (later ++ taken))
settled_stays count taken [] goes = ([], sym (append-nil (settled count taken)))
settled_stays count taken (s ∷ later) goes =
    front_of_front (settled count taken) (settled count (later ++ taken)) (settled count (s ∷ later ++ taken))
    (settled_stays count taken later goes.0) (settled_grows count (later ++ taken) s goes.1)

pub stays_settled : (count : ℕ) → StaysSettled count
stays_settled count taken later goes =
    front_of_front (settled count taken) (settled count (later ++ taken)) (merged count (later ++ taken)) (settled_stays count taken later goes)
    (waiting count (later ++ taken), merge_splits count (later ++ taken))

-- What is written

text_joins : (xs ys : List LogLine) → text_of_lines (xs ++ ys) ≡ text_of_lines xs ++ text_of_lines ys
text_joins [] ys = refl
text_joins (x ∷ xs) ys =
    ap (λ (text : List ℕ). (x.bytes ++ 10 ∷ []) ++ text) (text_joins xs ys)
    ∙ sym (append_assoc (x.bytes ++ 10 ∷ []) (text_of_lines xs) (text_of_lines ys))

-- of a front and what follows it
front_text : (front whole : List LogLine) → IsFrontOf front whole → text_of_lines front ++ text_of_lines (drop (length front) whole) ≡ text_of_lines whole
front_text front whole is =
    ap (λ (ys : List LogLine). text_of_lines front ++ text_of_lines ys) (ap (drop (length front)) is.1 ∙ drop_at front is.0 (length front) refl)
    ∙ sym (ap text_of_lines is.1 ∙ text_joins front is.0)

no_lines : (count : ℕ) → settled count [] ≡ []
no_lines count = ap (leading (settled_by 1 (froms_of count []))) (none_merged (range_with_len 1 count))

all_written : (count : ℕ) (taken : List Said) → GoesOn count [] taken → all_bytes (merge_work count) taken ≡ text_of_lines (settled count taken)
unfolding all_bytes
all_written count [] goes = sym (ap text_of_lines (no_lines count))
all_written count (s ∷ taken) goes =
    ap (λ (text : List ℕ). text ++ text_of_lines (newly_settled count taken s)) (all_written count taken goes.0)
    ∙ front_text (settled count taken) (settled count (s ∷ taken))
    (settled_grows count taken s (subst (λ (earlier : List Said). IsNext count earlier s) (append-nil taken) goes.1))

-- The reading of a feed

-- each line that is taken may come next
took_next : (count total start : ℕ) (taken : List Said) (all : List (List ℕ)) → GoesOn count [] taken
    → GoesOn count [] (reading_from (merge_work count) total start taken all).taken
unfolding reading_from
took_next count total start taken [] goes = goes
took_next count total start taken (line ∷ others) goes =
    go (judged (merge_work count) total start taken line) refl (λ s more. took_next count total (start + length line + 1) (s ∷ taken) others more)
  where
    next : Said → Reading Said
    next s = reading_from (merge_work count) total (start + length line + 1) (s ∷ taken) others

    says : (fault : Option (List ℕ)) (told : Result Said FeedFault) (s : Said) → unless_too_long fault (in_words told) ≡ Ok s → told ≡ Ok s
    says (Some why) told s is = cc
    says None (Err why) s is = cc
    says None (Ok s') s is = cc

    go : (read : Result Said (List ℕ)) → judged (merge_work count) total start taken line ≡ read
        → ((s : Said) → GoesOn count [] (s ∷ taken) → GoesOn count [] (next s).taken)
        → GoesOn count [] (read_on read taken next).taken
    go (Err why) is more = goes
    go (Ok s) is more =
        more s (
          goes,
          subst (λ (earlier : List Said). IsNext count earlier s) (sym (append-nil taken))
              (said_next count taken line s (says (length_fault total start line) (said count taken line) s is)),
        )

pub writes_merge : (count : ℕ) (text : List ℕ) → WritesMerge count text
unfolding reading
writes_merge count text =
    record {
      goes_on = goes;
      front = all_written count r.taken goes;
      whole =
          λ free.
          (ap (λ (o : Option (List ℕ)). written_for (merge_work count) (record { taken = r.taken; refused = o })) free
          ∙ ap (λ (bytes : List ℕ). bytes ++ concat (piece_of (text_of_lines (waiting count r.taken)))) (all_written count r.taken goes)
          ∙ ap (λ (bytes : List ℕ). text_of_lines (settled count r.taken) ++ bytes) (concat_piece (text_of_lines (waiting count r.taken)))
          ∙ front_text (settled count r.taken) (merged count r.taken) (waiting count r.taken, merge_splits count r.taken));
    }
  where
    r : Reading Said
    r = reading (merge_work count) text

    goes : GoesOn count [] r.taken
    goes = took_next count (length text) 0 [] (lines text) tt

pub feed_is_merged : (count : ℕ) → FeedIsMerged count
feed_is_merged count = record { lawful = is_merge line_at; stays = stays_settled count; writes = writes_merge count }
