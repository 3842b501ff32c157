-- Settled lines leave the front one by one.
use Rattle.std.specs.Prelude.{◌≡◌, ◌<◌, ℕ, List, [], ◌∷◌, ◌++◌, get_or, length, Option, Some, None, true, refl}
use Rattle.std.specs.Option.{option_to_list}
use Rattle.std.proofs.Common.{arith, append_assoc, sym, ◌∙◌, ap, subst, set}
use Rattle.std.proofs.lemmas.List.{append-nil, get_or_default, length-map, set-get_or}
use Rattle.sd_num.specs.Lists.{leading}
use Rattle.sd_record.specs.merge.Lines.{LogLine, settled_by, text_of_lines}
use Rattle.sd_record.specs.merge.Queues.{AreKept, HasLeft, IsFirstLeast, PopsSettled, Queue, bound_of, bounds_of, froms, merged_waiting, new_queue, settled_front}
use Rattle.sd_record.proofs.merge.Picking.{comes_first, is_settled, left_of, none_settled, others_kept, same_froms}
use Rattle.sd_record.proofs.merge.Settling.{one_leads}

same_queue : (q other : Queue) → q.from ≡ other.from → q ≡ left_of other q.waiting
same_queue q other from = ap (λ (n : ℕ). record { from = n; waiting = q.waiting }) from

-- the first line of the log of the earliest bound has left, if there was one
popped_at : (queues : List Queue) (p : ℕ) → IsFirstLeast (bounds_of queues) p → (q : Queue) (o : Option LogLine)
    → (get_or queues p new_queue).waiting ≡ option_to_list o ++ q.waiting
    → q.from ≡ (get_or queues p new_queue).from
    → (o ≡ None → (get_or queues p new_queue).waiting ≡ [])
    → PopsSettled queues (set queues p q) o
popped_at queues p first q None lines from none = (stays, λ kept. none_settled queues p first (none refl) kept)
  where
    is : q ≡ get_or queues p new_queue
    is = same_queue q (get_or queues p new_queue) from ∙ ap (λ (w : List LogLine). left_of (get_or queues p new_queue) w) (sym lines)

    stays : set queues p q ≡ queues
    stays = ap (set queues p) is ∙ set-get_or queues p new_queue
popped_at queues p first q (Some x) lines from none =
    let is : q ≡ left_of (get_or queues p new_queue) q.waiting = same_queue q (get_or queues p new_queue) from in (
      comes_first queues p first x q.waiting lines ∙ ap (λ (r : Queue). x ∷ merged_waiting (set queues p r)) (sym is),
      ap (λ (r : Queue). froms (set queues p r)) is ∙ same_froms queues p first x q.waiting lines,
      λ kept. (
        is_settled queues p first x q.waiting lines kept,
        subst (λ (r : Queue). AreKept (set queues p r)) (sym is) (others_kept queues p first x q.waiting lines kept),
      ),
    )

pub popped : (queues : List Queue) (p : ℕ) (d : Queue) → IsFirstLeast (bounds_of queues) p → (q : Queue) (o : Option LogLine)
    → (get_or queues p d).waiting ≡ option_to_list o ++ q.waiting
    → q.from ≡ (get_or queues p d).from
    → (o ≡ None → (get_or queues p d).waiting ≡ [])
    → PopsSettled queues (set queues p q) o
popped queues p d first q o lines from none =
    let many = length-map queues bound_of in
    let within = first.within in
    let inside : p < length queues = omega (arith, many, within) in
    let same : get_or queues p new_queue ≡ get_or queues p d = get_or_default queues p new_queue d inside in
    popped_at queues p first q o (ap (λ (r : Queue). r.waiting) same ∙ lines) (from ∙ sym (ap (λ (r : Queue). r.from) same))
    (λ is. ap (λ (r : Queue). r.waiting) same ∙ none is)

-- Line by line

one_more_line : (xs : List LogLine) (x : LogLine) → text_of_lines (xs ++ x ∷ []) ≡ text_of_lines xs ++ (x.bytes ++ 10 ∷ [])
one_more_line [] x = append-nil (x.bytes ++ 10 ∷ [])
one_more_line (y ∷ xs) x =
    ap (λ (text : List ℕ). (y.bytes ++ 10 ∷ []) ++ text) (one_more_line xs x)
    ∙ sym (append_assoc (y.bytes ++ 10 ∷ []) (text_of_lines xs) (x.bytes ++ 10 ∷ []))

settled_of : (old new : List Queue) (x : LogLine) → merged_waiting old ≡ x ∷ merged_waiting new → froms new ≡ froms old
    → settled_by 1 (froms old) x ≡ true
    → settled_front old ≡ x ∷ settled_front new
settled_of old new x lines same is =
    ap (leading (settled_by 1 (froms old))) lines ∙ one_leads (settled_by 1 (froms old)) x (merged_waiting new) is
    ∙ ap (λ (fs : List ℕ). x ∷ leading (settled_by 1 fs) (merged_waiting new)) (sym same)

pub one_more_left : (old mid new : List Queue) (before text after : List ℕ) (x : LogLine) → HasLeft old mid before text → PopsSettled mid new (Some x)
    → after ≡ text ++ (x.bytes ++ 10 ∷ [])
    → HasLeft old new before after
one_more_left old mid new before text after x left pops added =
    record {
      done = left.done ++ x ∷ [];
      lines =
          left.lines ∙ ap (λ (ys : List LogLine). left.done ++ ys) pops.0 ∙ sym (append_assoc left.done (x ∷ []) (merged_waiting new));
      same = pops.1 ∙ left.same;
      settled =
          λ kept.
          (left.settled kept ∙ ap (λ (ys : List LogLine). left.done ++ ys) (settled_of mid new x pops.0 pops.1 (pops.2 (left.kept kept)).0)
          ∙ sym (append_assoc left.done (x ∷ []) (settled_front new)));
      kept = λ kept. (pops.2 (left.kept kept)).1;
      text =
          added ∙ ap (λ (t : List ℕ). t ++ (x.bytes ++ 10 ∷ [])) left.text
          ∙ append_assoc before (text_of_lines left.done) (x.bytes ++ 10 ∷ [])
          ∙ ap (λ (t : List ℕ). before ++ t) (sym (one_more_line left.done x));
    }
