-- What is kept of the lines that were taken is what they say of the links.
use Rattle.std.proofs.Common.{◌≡◌, ◌∙◌, ℕ, zero, suc, ◌+◌, ◌<◌, ◌≤◌, Bool, true, false, List, [], ◌∷◌, ◌++◌, length, nat_eq, Option, Result, Ok, Err, refl, sym, ap, subst, arith}
use Rattle.std.specs.Prelude.{filter, filter_map, flat_map, is_some, if◌then◌else◌}
use Rattle.std.specs.List.{cons_option}
use Rattle.std.proofs.lemmas.List.{flat_map_more}
use Rattle.std.proofs.lemmas.List.Elements.{filter-append}
use Rattle.sd_num.specs.Lists.{below, map_or}
use Rattle.sd_io.specs.outside.Pieces.{Pieces, piece_of}
use Rattle.sd_plan.specs.topo.Network.{Network}
use Rattle.sd_commands.specs.exchanges.Joints.{Joints, joint_at, if_on, spans_on, StandsFor as SpansStand}
use Rattle.sd_commands.specs.exchanges.Lines.{span_after, span_if, span_on, span_over}
use Rattle.sd_commands.specs.exchanges.Printed.{done_line, link_line, links_with}
use Rattle.sd_commands.specs.exchanges.Spans.{joint_span}
use Rattle.sd_commands.specs.declared.exchanges.Exchange.{Exchange}
use Rattle.sd_commands.specs.declared.exchanges.Span.{Span}
use Rattle.sd_commands.specs.declared.exchanges.ExchangeFault.{ExchangeFault}
use Rattle.sd_commands.specs.declared.exchanges.ExchangeLine.{ExchangeLine}
use Rattle.sd_commands.specs.declared.exchanges.ExchangeLine.TheVariants.{Exchange as Exchanged, End}
use Rattle.sd_files.specs.Writes.{Adds}
use Rattle.sd_files.specs.declared.command_error.IoError.{IoError}
use Rattle.sd_files.specs.work.Works.{Work}
use Rattle.sd_commands.specs.twoway.Twoways.{link_pieces, twoway_work}
use Rattle.sd_commands.specs.twoway.Tallies.{Fits, StandsFor, added, bounds_of, count_of, lines_of, with_link}
use Rattle.sd_commands.specs.declared.twoway.tally.Tally.{Tally}

-- the spans that lines add to a link
same_spans : (net : Network) (l : ℕ) (taken : List ExchangeLine) → spans_on l (added net taken) ≡ filter_map (span_on net l) taken
same_spans net l [] = refl
same_spans net l (End ∷ taken) = same_spans net l taken
same_spans net l (Exchanged link side x ∷ taken) = by (span_over net link side x) (nat_eq link l) refl (same_spans net l taken)
  where
    by : (span : Result Span ExchangeFault) (here : Bool) → nat_eq link l ≡ here → spans_on l (added net taken) ≡ filter_map (span_on net l) taken
        → filter_map (if_on l) (cons_option (with_link link span) (added net taken))
        ≡ cons_option (span_if (nat_eq link l) span) (filter_map (span_on net l) taken)
    by (Ok span) true same later = rw same (ap (λ (ss : List Span). span ∷ ss) later)
    by (Ok span) false same later = rw same later
    by (Err why) true same later = rw same later
    by (Err why) false same later = rw same later

module _ (net : Network) (joints : Joints) (taken : List ExchangeLine) (stands : SpansStand joints (added net taken)) where
  joint_is : (l : ℕ) → l < length joints → joint_at joints l ≡ span_after net taken l
  joint_is l inside = stands l inside ∙ ap joint_span (same_spans net l taken)

  -- the lines of the links below a number, and how many these are
  lines_are : (n : ℕ) → n ≤ length joints → lines_of net joints n ≡ flat_map (λ l. piece_of (map_or (span_after net taken l) [] (link_line net l))) (below n)
  lines_are zero few = refl
  lines_are (suc n) few =
      sym (flat_map_more (λ l. piece_of (map_or (joint_at joints l) [] (link_line net l))) [] (below n) n)
      ∙ ap (λ (pieces : Pieces). pieces ++ piece_of (map_or (joint_at joints n) [] (link_line net n))) (lines_are n (omega (arith, few)))
      ∙ ap (λ (joint : Option (Span × ℕ)). flat_map (λ l. piece_of (map_or (span_after net taken l) [] (link_line net l))) (below n)
      ++ piece_of (map_or joint [] (link_line net n))) (joint_is n (omega (arith, few)))
      ∙ flat_map_more (λ l. piece_of (map_or (span_after net taken l) [] (link_line net l))) [] (below n) n

  linked_are : (n : ℕ) → n ≤ length joints → filter (λ l. is_some (joint_at joints l)) (below n) ≡ filter (λ l. is_some (span_after net taken l)) (below n)
  linked_are zero few = refl
  linked_are (suc n) few =
      filter-append (λ l. is_some (joint_at joints l)) (below n) (n ∷ [])
      ∙ ap (λ (ls : List ℕ). ls ++ filter (λ l. is_some (joint_at joints l)) (n ∷ [])) (linked_are n (omega (arith, few)))
      ∙ ap (λ (joint : Option (Span × ℕ)). filter (λ l. is_some (span_after net taken l)) (below n) ++ (if is_some joint then n ∷ [] else []))
      (joint_is n (omega (arith, few)))
      ∙ sym (filter-append (λ l. is_some (span_after net taken l)) (below n) (n ∷ []))

-- what is written of it
pub bounds_are : (net : Network) (tally : Tally) (taken : List ExchangeLine) → Fits net tally → StandsFor net tally taken
    → bounds_of net tally ≡ link_pieces net taken ++ piece_of (done_line net taken)
bounds_are net tally taken fits stands =
    let all : length net.links ≤ length tally.spans = omega (arith, fits.links) in
    let lines : lines_of net tally.spans (length net.links) ≡ link_pieces net taken = lines_are net tally.spans taken stands.spans (length net.links) all in
    let count : count_of tally.spans (length net.links) ≡ length (links_with net taken) =
    ap length (linked_are net tally.spans taken stands.spans (length net.links) all) in
    rw (lines, stands.lines, count) refl

-- an exchange with its span
pub stands_longer : (net : Network) (old new : Tally) (taken : List ExchangeLine) (link side : ℕ) (x : Exchange) (span : Span)
    → span_over net link side x ≡ Ok span → SpansStand new.spans ((link, span) ∷ added net taken)
    → new.lines ≡ old.lines + 1 → new.ended ≡ old.ended → StandsFor net old taken → StandsFor net new (Exchanged link side x ∷ taken)
stands_longer net old new taken link side x span has spans lines ended stands =
    record {
      spans = subst (λ (s : Result Span ExchangeFault). SpansStand new.spans (cons_option (with_link link s) (added net taken))) (sym has) spans;
      lines = lines ∙ more stands.lines;
      ended = ended ∙ stands.ended;
    }
  where
    more : old.lines ≡ length taken → old.lines + 1 ≡ suc (length taken)
    more same = omega (arith, same)

-- and so what its work writes at the end
pub adds_work : (T : Type 0) (net : Network) (tally : Tally) (work : Work ExchangeLine) (taken : List ExchangeLine) (old new : Option Pieces)
    (result : Result T IoError) → Fits net tally → (work ≡ twoway_work net) × StandsFor net tally taken
    → Adds (bounds_of net tally) old new result → Adds (work.last_pieces taken) old new result
adds_work T net tally work taken old new result fits does adds =
    subst (λ (w : Work ExchangeLine). Adds (w.last_pieces taken) old new result) (sym does.0)
    (subst (λ (pieces : Pieces). Adds pieces old new result) (bounds_are net tally taken fits does.1) adds)
