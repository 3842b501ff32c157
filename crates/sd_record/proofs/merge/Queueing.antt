-- What a line of a feed does to what waits.
use Rattle.std.specs.Prelude.{◌≡◌, ◌<◌, ◌≤◌, ℕ, ◌+◌, ◌^◌, All, List, [], ◌∷◌, ◌++◌, get_or, length, map, max, Option, Some, None, Ok, Err, refl, if◌then◌else◌}
use Rattle.std.proofs.Common.{arith, sym, ◌∙◌, ap, subst, set}
use Rattle.std.proofs.lemmas.Bool.{le-ltb, lt-ltb}
use Rattle.std.proofs.lemmas.List.{get_or_default, length-map, length-set, map-set}
use Rattle.std.proofs.lemmas.List.Elements.{All-append, All-cons, All-nil}
use Rattle.std.proofs.Math.Seq.{map-set_same}
use Rattle.sd_num.specs.Lists.{leading, map_or}
use Rattle.sd_record.specs.merge.Feeds.{behind_number, log_number, placed, said, said_of, told_in}
use Rattle.sd_record.specs.merge.Follows.{Follows, HasGrown}
use Rattle.sd_record.specs.merge.Growing.{Said, from_of, froms_of, merged, settled}
use Rattle.sd_record.specs.merge.Lines.{LogLine, merge_all, settled_by}
use Rattle.sd_record.specs.merge.Queues.{AreKept, IsReached, Queue, froms, merged_waiting, new_queue, passed, pushed}
use Rattle.sd_record.specs.declared.merge.feed.FeedFault.TheVariants.{OutOfOrder, UnknownLog}
use Rattle.sd_record.specs.declared.merge.feed.Told.{Told}
use Rattle.sd_record.specs.declared.merge.feed.Told.TheVariants.{EntryAt, PastAt}
use Rattle.sd_record.proofs.merge.Growth.{froms_at, froms_grow, merge_grows, same_merge, settles}
use Rattle.sd_record.proofs.merge.Keeping.{IsKept, kept_set}
use Rattle.sd_record.proofs.merge.Picking.{from_at, from_in, waiting_at, waiting_in}
use Rattle.sd_record.proofs.merge.Putting.{AreNumbered, put, put_last}

-- What a line says

told_as : (count : ℕ) (taken : List Said) (line : List ℕ) (number : ℕ) (told : Told) → log_number count line ≡ Some number
    → told_in (behind_number line) ≡ Ok told
    → said count taken line ≡ placed taken number (behind_number line) told
told_as count taken line number told is tells =
    ap (λ (o : Option ℕ). map_or o (Err UnknownLog) (λ log. said_of taken log (behind_number line) (told_in (behind_number line)))) is
    ∙ ap (said_of taken number (behind_number line)) tells

-- A line is taken

passed_kept : (number reference : ℕ) (q : Queue) → IsKept number q → IsKept number (passed reference q)
passed_kept number reference q kept =
    λ i d more.
    (let is = kept i d more in
    let reached = is.reached in
    record { of_log = is.of_log; reached = omega (arith, reached); within = is.within })

pushed_kept : (number : ℕ) (x : LogLine) (q : Queue) → IsKept number q → x.log ≡ number → x.reference ≤ 2 ^ 60 → IsKept number (pushed x q)
pushed_kept number x q kept of_log within =
    All-append (IsReached number (max x.reference q.from)) q.waiting (x ∷ []) (passed_kept number x.reference q kept)
    (All-cons (IsReached number (max x.reference q.from)) x []
    (record { of_log = of_log; reached = omega arith; within = within }) (All-nil (IsReached number (max x.reference q.from))))

queues_numbered : (queues : List Queue) → AreKept queues → AreNumbered 1 (map waiting_in queues)
queues_numbered queues kept k more =
    let many = length-map queues waiting_in in
    let within : k < length queues = omega (arith, more, many) in
    subst (All (λ x. x.log ≡ 1 + k)) (sym (waiting_at queues k within))
    (λ i d inside. (let number = (kept k within i d inside).of_log in omega (arith, number)))

-- one more line of a log waits
push_merges : (queues : List Queue) (p : ℕ) (x : LogLine) → p < length queues → AreKept queues → x.log ≡ 1 + p
    → (get_or queues p new_queue).from ≤ x.reference
    → merged_waiting (set queues p (pushed x (get_or queues p new_queue))) ≡ put x (merged_waiting queues)
push_merges queues p x within kept number high =
    ap merge_all
    (map-set waiting_in queues p (pushed x (get_or queues p new_queue))
    ∙ ap (λ (log : List LogLine). set (map waiting_in queues) p (log ++ x ∷ [])) (sym (waiting_at queues p within)))
    ∙ put_last x 1 p (map waiting_in queues) (let many = length-map queues waiting_in in omega (arith, many, within)) number (queues_numbered queues kept)
    (subst (All (λ a. a.reference ≤ x.reference)) (sym (waiting_at queues p within))
    (λ i d more. (let reached = (kept p within i d more).reached in omega (arith, reached, high))))

module _ (queues : List Queue) (taken : List Said) (follows : Follows queues taken) (p : ℕ) (within : p < length queues) where
  -- up to where the log has come
  pub from_is : (get_or queues p new_queue).from ≡ from_of taken (1 + p)
  from_is = sym (from_at queues p within) ∙ ap (λ (fs : List ℕ). get_or fs p 0) follows.same ∙ froms_at (length queues) taken p within

  -- the log at the place has gone on by what a line says
  grown : (s : Said) (q : Queue) → s.log ≡ 1 + p → IsKept (p + 1) q → q.from ≡ max s.reference (get_or queues p new_queue).from
      → merged (length queues) (s ∷ taken) ≡ settled (length queues) taken ++ merged_waiting (set queues p q)
      → HasGrown (length queues) (set queues p q) taken s
  grown s q number kept from waits =
      let same : froms (set queues p q) ≡ froms_of (length queues) (s ∷ taken) =
      map-set from_in queues p q ∙ ap (λ (fs : List ℕ). set fs p q.from) follows.same
      ∙ ap (set (froms_of (length queues) taken) p) (from ∙ ap (max s.reference) from_is)
      ∙ sym (froms_grow (length queues) taken s p within number) in
      record {
        count_is = length-set queues p q;
        kept = kept_set queues p q follows.kept kept;
        same = same;
        waits = waits;
        settles =
            settles (length queues) taken s p within number (merged_waiting (set queues p q)) waits
            ∙ ap (λ (fs : List ℕ). settled (length queues) taken ++ leading (settled_by 1 fs) (merged_waiting (set queues p q))) (sym same);
      }

  pub grown_past : (s : Said) → s.log ≡ 1 + p → s.entry ≡ None
      → HasGrown (length queues) (set queues p (passed s.reference (get_or queues p new_queue))) taken s
  grown_past s number none =
      grown s (passed s.reference (get_or queues p new_queue)) number (passed_kept (p + 1) s.reference (get_or queues p new_queue) (follows.kept p within)) refl
      (same_merge (length queues) taken s p within number none ∙ follows.waits
      ∙ ap (λ (logs : List (List LogLine)). settled (length queues) taken ++ merge_all logs)
      (sym (map-set_same waiting_in queues p (passed s.reference (get_or queues p new_queue)) new_queue refl)))

  pub grown_entry : (s : Said) (bytes : List ℕ) → s.log ≡ 1 + p → s.entry ≡ Some bytes → (get_or queues p new_queue).from ≤ s.reference → s.reference ≤ 2 ^ 60
      → HasGrown (length queues)
      (set queues p (pushed (record { log = s.log; reference = s.reference; bytes = bytes }) (get_or queues p new_queue))) taken s
  grown_entry s bytes number entry high bounded =
      let x : LogLine = record { log = s.log; reference = s.reference; bytes = bytes } in
      grown s (pushed x (get_or queues p new_queue)) number
      (pushed_kept (p + 1) x (get_or queues p new_queue) (follows.kept p within) (omega (arith, number)) bounded) refl
      (merge_grows (length queues) taken s p within number bytes entry (omega (arith, high, from_is)) (merged_waiting queues) follows.waits
      ∙ ap (λ (ys : List LogLine). settled (length queues) taken ++ ys) (sym (push_merges queues p x within follows.kept number high)))

-- Whatever lines there were

module _ (queues : List Queue) (line : List ℕ) (number : ℕ) (is : log_number (length queues) line ≡ Some number) (some : 1 ≤ number) (few : number ≤ length queues) (p : ℕ) (place : number ≡ 1 + p) (d : Queue) where
  inside : p < length queues
  inside = omega (arith, some, few, place)

  here : get_or queues p d ≡ get_or queues p new_queue
  here = get_or_default queues p d new_queue inside

  pub grows_past : (reference : ℕ) → told_in (behind_number line) ≡ Ok (PastAt reference) → (q : Queue) → q ≡ passed reference (get_or queues p d)
      → (taken : List Said) → Follows queues taken
      → (s : Said) × (said (length queues) taken line ≡ Ok s) × HasGrown (length queues) (set queues p q) taken s
  grows_past reference tells q passes taken follows =
      let s : Said = record { log = number; reference = reference; entry = None } in (
        s,
        told_as (length queues) taken line number (PastAt reference) is tells,
        subst (λ (r : Queue). HasGrown (length queues) (set queues p r) taken s) (sym (passes ∙ ap (passed reference) here))
            (grown_past queues taken follows p inside s place refl),
      )

  pub grows_entry : (reference : ℕ) → told_in (behind_number line) ≡ Ok (EntryAt reference) → (get_or queues p d).from ≤ reference → reference ≤ 2 ^ 60
      → (x : LogLine) → x ≡ record { log = number; reference = reference; bytes = behind_number line } → (q : Queue) → q ≡ pushed x (get_or queues p d)
      → (taken : List Said) → Follows queues taken
      → (s : Said) × (said (length queues) taken line ≡ Ok s) × HasGrown (length queues) (set queues p q) taken s
  grows_entry reference tells high bounded x line_is q pushes taken follows =
      let s : Said = record { log = number; reference = reference; entry = Some (behind_number line) } in
      let same = ap (λ (r : Queue). r.from) here in
      let from = from_is queues taken follows p inside in
      let order : from_of taken number ≤ reference = let at = ap (from_of taken) place in omega (arith, high, same, from, at) in (
        s,
        told_as (length queues) taken line number (EntryAt reference) is tells
            ∙ ap (λ b. if b then Err OutOfOrder else Ok s) (le-ltb reference (from_of taken number) order),
        subst (λ (r : Queue). HasGrown (length queues) (set queues p r) taken s)
            (sym (pushes ∙ ap (λ (y : LogLine). pushed y (get_or queues p d)) line_is
            ∙ ap (pushed (record { log = number; reference = reference; bytes = behind_number line })) here))
            (grown_entry queues taken follows p inside s (behind_number line) place refl (omega (arith, high, same)) bounded),
      )

  pub refused_late : (reference : ℕ) → told_in (behind_number line) ≡ Ok (EntryAt reference) → reference < (get_or queues p d).from
      → (taken : List Said) → Follows queues taken → said (length queues) taken line ≡ Err OutOfOrder
  refused_late reference tells low taken follows =
      let same = ap (λ (r : Queue). r.from) here in
      let from = from_is queues taken follows p inside in
      let late : reference < from_of taken number = let at = ap (from_of taken) place in omega (arith, low, same, from, at) in
      told_as (length queues) taken line number (EntryAt reference) is tells
      ∙ ap (λ b. if b then Err OutOfOrder else Ok (record { log = number; reference = reference; entry = Some (behind_number line) })) (lt-ltb reference (from_of taken number) late)
