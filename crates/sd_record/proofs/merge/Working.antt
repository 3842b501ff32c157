-- That a merger does the work of a feed.
use Rattle.std.specs.Prelude.{◌≡◌, ◌<◌, ◌≤◌, ℕ, ◌+◌, ◌^◌, All, true, false, List, [], ◌∷◌, ◌++◌, drop, get_or, length, map, None, refl}
use Rattle.std.specs.List.{range_with_len}
use Rattle.std.proofs.Common.{arith, append_assoc, sym, ◌∙◌, ap, subst}
use Rattle.std.proofs.lemmas.List.{append-nil, drop_at, get_or-map, get_or_default, length-map}
use Rattle.std.proofs.lemmas.List.Elements.{All-nil}
use Rattle.std.proofs.lemmas.List.FromFn.{get_or-map-range_with_len, length-map-range_with_len}
use Rattle.sd_num.specs.Lists.{leading}
use Rattle.sd_io.specs.outside.Pieces.{piece_of}
use Rattle.sd_files.specs.declared.work.Taken.TheVariants as taken
use Rattle.sd_files.specs.work.Leaving.{are_lines}
use Rattle.sd_files.specs.work.Taking.{Takes}
use Rattle.sd_files.specs.work.WholeLines.{WritesWhole}
use Rattle.sd_files.specs.work.Works.{Work}
use Rattle.sd_files.proofs.work.Whole.{append_whole, text_whole}
use Rattle.sd_record.proofs.merge.Merges.{all_logs}
use Rattle.sd_record.specs.merge.Doing.{DoesMerge}
use Rattle.sd_record.specs.merge.Follows.{Follows, Grows, HasGrown}
use Rattle.sd_record.specs.merge.Growing.{Said, from_of, froms_of, log_of, merged, newly_settled, settled, waiting}
use Rattle.sd_record.specs.merge.Lines.{LogLine, line_at, merge_all, settled_by, text_of_lines}
use Rattle.sd_record.specs.merge.Queues.{AreKept, HasSettled, IsReached, Queue, ended, froms, merged_waiting, new_queue, settled_front}
use Rattle.sd_record.specs.merge.Works.{in_words, merge_work}
use Rattle.sd_record.specs.declared.merge.merger.Merger.{Merger}
use Rattle.sd_record.proofs.merge.Order.{before}
use Rattle.sd_record.proofs.merge.Picking.{from_at, from_in, waiting_in}
use Rattle.sd_record.proofs.merge.Settling.{all_leading, all_settled}

-- A line that is accepted

-- all that is settled has left
all_done : (old new : List Queue) (text after : List ℕ) (settled : HasSettled old new text after) → AreKept old → settled_front old ≡ settled.left.done
all_done old new text after settled kept =
    settled.left.settled kept ∙ ap (λ (ys : List LogLine). settled.left.done ++ ys) (settled.all kept) ∙ append-nil settled.left.done

module _ (count : ℕ) (mid new : List Queue) (text after : List ℕ) (taken : List Said) (s : Said) (grown : HasGrown count mid taken s) (has : HasSettled mid new text after) where
  settled_now : settled count (s ∷ taken) ≡ settled count taken ++ has.left.done
  settled_now = grown.settles ∙ ap (λ (ys : List LogLine). settled count taken ++ ys) (all_done mid new text after has grown.kept)

  written_now : text ≡ [] → after ≡ text_of_lines (newly_settled count taken s)
  written_now none =
      has.left.text ∙ ap (λ (t : List ℕ). t ++ text_of_lines has.left.done) none
      ∙ ap text_of_lines
      (sym (ap (drop (length (settled count taken))) settled_now ∙ drop_at (settled count taken) has.left.done (length (settled count taken)) refl))

  follows_now : length new ≡ count → Follows new (s ∷ taken)
  follows_now same =
      subst (λ (n : ℕ). (froms new ≡ froms_of n (s ∷ taken)) → (merged n (s ∷ taken) ≡ settled n (s ∷ taken) ++ merged_waiting new) → Follows new (s ∷ taken)) same
      (λ from waits. record { kept = has.left.kept grown.kept; same = from; waits = waits })
      (has.left.same ∙ grown.same)
      (grown.waits ∙ ap (λ (ys : List LogLine). settled count taken ++ ys) has.left.lines
      ∙ sym (append_assoc (settled count taken) has.left.done (merged_waiting new))
      ∙ ap (λ (ys : List LogLine). ys ++ merged_waiting new) (sym settled_now))

pub line_accepted : (old new : Merger) (mid : List Queue) (line text : List ℕ) → Grows old.logs mid line None
    → HasSettled mid new.logs text new.text.items
    → text ≡ []
    → new.begun ≡ true
    → (work : Work Said) (xs : List Said) → DoesMerge old work xs
    → Takes work xs line (DoesMerge new work) new.text.items taken.Accepted
line_accepted old new mid line text grows has none begun work xs does =
    let count = length old.logs in
    let (s, says, grown) = grows xs does.follows in
    let before = length-map mid from_in in
    let after = length-map new.logs from_in in
    let froms_same = ap (λ (fs : List ℕ). length fs) has.left.same in
    let same : length new.logs ≡ count = omega (arith, before, after, froms_same, grown.count_is) in
    subst (λ (w : Work Said). Takes w xs line (DoesMerge new w) new.text.items taken.Accepted) (sym does.is) (
      s,
      ap in_words says,
      written_now count mid new.logs text new.text.items xs s grown has none,
      record {
        is = ap merge_work (sym same);
        follows = follows_now count mid new.logs text new.text.items xs s grown has same;
        begun = begun;
      },
    )

-- The end of a feed

ended_waiting : (queues : List Queue) → map waiting_in (map ended queues) ≡ map waiting_in queues
ended_waiting [] = refl
ended_waiting (q ∷ queues) = ap (λ (logs : List (List LogLine)). q.waiting ∷ logs) (ended_waiting queues)

ended_at : (queues : List Queue) (k : ℕ) → k < length queues → get_or (map ended queues) k new_queue ≡ ended (get_or queues k new_queue)
ended_at queues k within = get_or-map ended queues k new_queue new_queue within

ended_kept : (queues : List Queue) → AreKept queues → AreKept (map ended queues)
ended_kept queues kept k more =
    let many = length-map queues ended in
    let within : k < length queues = omega (arith, more, many) in
    subst (λ (q : Queue). All (IsReached (k + 1) q.from) q.waiting) (sym (ended_at queues k within))
    (λ i d inside. (let is = kept k within i d inside in
    let low = is.within in
    record { of_log = is.of_log; reached = omega (arith, low); within = low }))

-- no line comes so late
abbrev InTime : LogLine → Type 0
InTime x = x.reference ≤ 2 ^ 60

all_in_time : (queues : List Queue) → AreKept queues → All InTime (merged_waiting queues)
all_in_time queues kept =
    all_logs line_at InTime waiting_in queues
    (λ k d within. (let same = get_or_default queues k d new_queue within in
    subst (λ (q : Queue). All InTime q.waiting) (sym same) (λ i e inside. (kept k within i e inside).within)))

-- all that waits is settled where all logs have ended
ended_settles : (queues : List Queue) → AreKept queues → settled_front (map ended queues) ≡ merged_waiting queues
ended_settles queues kept =
    ap (leading (settled_by 1 (froms (map ended queues)))) (ap merge_all (ended_waiting queues))
    ∙ all_leading (settled_by 1 (froms (map ended queues))) (merged_waiting queues)
    (λ i d inside. (let low = all_in_time queues kept i d inside in
    all_settled 1 (froms (map ended queues)) (get_or (merged_waiting queues) i d)
    (λ k more. (let many = length-map (map ended queues) from_in in
    let all = length-map queues ended in
    let from = from_at (map ended queues) k (omega (arith, more, many)) in
    let last = ap (λ (q : Queue). q.from) (ended_at queues k (omega (arith, more, many, all))) in
    before (1 + k) (get_or (froms (map ended queues)) k 0) (get_or (merged_waiting queues) i d) (omega (arith, low, from, last))
    (λ _. omega (arith, low, from, last))))))

pub all_written : (old : Merger) (mid new : List Queue) (text after : List ℕ) → mid ≡ map ended old.logs → HasSettled mid new text after → text ≡ []
    → (work : Work Said) (xs : List Said) → DoesMerge old work xs
    → after ≡ text_of_lines (waiting (length old.logs) xs)
all_written old mid new text after are has none work xs does =
    let queues = old.logs in
    let kept = does.follows.kept in
    let count = length queues in
    let mid_kept : AreKept mid = subst AreKept (sym are) (ended_kept queues kept) in
    has.left.text ∙ ap (λ (t : List ℕ). t ++ text_of_lines has.left.done) none
    ∙ ap text_of_lines
    (sym (all_done mid new text after has mid_kept) ∙ ap settled_front are ∙ ended_settles queues kept
    ∙ sym (ap (drop (length (settled count xs))) does.follows.waits
    ∙ drop_at (settled count xs) (merged_waiting queues) (length (settled count xs)) refl))

-- that is what is due at the end
pub last_due : (old : Merger) (bytes : List ℕ) (work : Work Said) (xs : List Said) → DoesMerge old work xs
    → bytes ≡ text_of_lines (waiting (length old.logs) xs)
    → piece_of bytes ≡ work.last_pieces xs
last_due old bytes work xs does is = ap piece_of is ∙ sym (ap (λ (w : Work Said). w.last_pieces xs) does.is)

-- Whole lines

text_ends : (xs : List LogLine) → are_lines (text_of_lines xs) ≡ true
text_ends [] = refl
text_ends (x ∷ xs) = append_whole (x.bytes ++ 10 ∷ []) (text_of_lines xs) (text_whole (x.bytes ∷ [])) (text_ends xs)

-- what is written for a line of a feed is whole lines
pub merge_whole : (count : ℕ) → WritesWhole (merge_work count)
merge_whole count taken s = text_ends (newly_settled count taken s)

-- A whole feed

-- logs of which nothing is known
abbrev pub new_queues : List ℕ → List Queue
new_queues numbers = map (λ n. new_queue) numbers

none_from : (numbers : List ℕ) → froms (new_queues numbers) ≡ map (from_of []) numbers
none_from [] = refl
none_from (n ∷ numbers) = ap (λ (fs : List ℕ). 0 ∷ fs) (none_from numbers)

none_waits : (numbers : List ℕ) → merged_waiting (new_queues numbers) ≡ []
none_waits [] = refl
none_waits (n ∷ numbers) = none_waits numbers

pub none_merged : (numbers : List ℕ) → merge_all (map (log_of []) numbers) ≡ []
none_merged [] = refl
none_merged (n ∷ numbers) = none_merged numbers

-- no line was taken
nothing_yet : (count : ℕ) (queues : List Queue) → queues ≡ new_queues (range_with_len 1 count) → Follows queues []
nothing_yet count queues are =
    subst (λ (n : ℕ). (froms queues ≡ froms_of n []) → (merged n [] ≡ settled n [] ++ merged_waiting queues) → Follows queues []) many
    (λ from waits. record { kept = subst AreKept (sym are) kept; same = from; waits = waits })
    (ap froms are ∙ none_from (range_with_len 1 count))
    (none_merged (range_with_len 1 count)
    ∙ sym (ap (λ (ys : List LogLine). leading (settled_by 1 (froms_of count [])) ys ++ merged_waiting queues) (none_merged (range_with_len 1 count))
    ∙ ap merged_waiting are ∙ none_waits (range_with_len 1 count)))
  where
    many : length queues ≡ count
    many = ap (λ (qs : List Queue). length qs) are ∙ length-map-range_with_len (λ n. new_queue) 1 count

    kept : AreKept (new_queues (range_with_len 1 count))
    kept k more =
        let all = length-map-range_with_len (λ n. new_queue) 1 count in
        subst (λ (q : Queue). All (IsReached (k + 1) q.from) q.waiting)
        (sym (get_or-map-range_with_len (λ n. new_queue) 1 count k (1 + k) new_queue (omega (arith, more, all)) refl)) (All-nil (IsReached (k + 1) 0))

pub does_nothing_yet : (state : Merger) (count : ℕ) → state.logs ≡ new_queues (range_with_len 1 count) → state.begun ≡ false
    → DoesMerge state (merge_work count) []
does_nothing_yet state count are begun =
    record {
      is = ap merge_work (sym (ap (λ (qs : List Queue). length qs) are ∙ length-map-range_with_len (λ n. new_queue) 1 count));
      follows = nothing_yet count state.logs are;
      begun = begun;
    }
