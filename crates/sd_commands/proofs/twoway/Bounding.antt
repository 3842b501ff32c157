-- The bounds of a link's line hold of each exchange over it that was taken.
use Rattle.std.proofs.Common.{◌≡◌, ℕ, zero, suc, ◌+◌, Bool, true, false, cond, List, [], ◌∷◌, length, nat_eq, Option, Some, None, Result, Ok, Err, IfOk, refl, sym, subst}
use Rattle.std.specs.Prelude.{filter_map, slice_get, nat_le}
use Rattle.std.specs.List.{cons_option, list_any}
use Rattle.std.proofs.lemmas.Bool.{eq-eqb}
use Rattle.sd_plan.specs.topo.Network.{Network, link_of}
use Rattle.sd_io.specs.stream.Lines.{lines}
use Rattle.sd_commands.specs.exchanges.Lines.{exchange_line, is_end_line, span_on, span_over}
use Rattle.sd_commands.specs.exchanges.Spans.{joint_span}
use Rattle.sd_commands.specs.declared.exchanges.Exchange.{Exchange}
use Rattle.sd_commands.specs.declared.exchanges.Span.{Span}
use Rattle.sd_commands.specs.declared.exchanges.ExchangeFault.{ExchangeFault}
use Rattle.sd_commands.specs.declared.exchanges.ExchangeLine.{ExchangeLine}
use Rattle.sd_commands.specs.declared.exchanges.ExchangeLine.TheVariants.{Exchange as Exchanged, End}
use Rattle.sd_commands.specs.declared.exchanges.ExchangeLineFault.{ExchangeLineFault}
use Rattle.sd_commands.proofs.exchanges.Joint.{inside_meets, joint_covers}
use Rattle.sd_files.specs.work.Works.{Reading, judged, length_fault, read_on, reading, reading_from, unless_too_long}
use Rattle.sd_commands.specs.twoway.Promises.{BoundsHold, IsBounded, beginner, replier}
use Rattle.sd_commands.specs.twoway.Judged.{behind, exchange_said, if_spanned, over_network, told_reason}
use Rattle.sd_commands.specs.twoway.Twoways.{twoway_work}
use Rattle.sd_commands.specs.declared.twoway.TwowayFault.{TwowayFault}
use Rattle.sd_commands.specs.declared.twoway.TwowayFault.TheVariants.{AfterEnd, UnknownLink}

-- an exchange has a span
abbrev IsSpanned : Network → ExchangeLine → Type 0
IsSpanned net (Exchanged link side x) = (span : Span) × (span_over net link side x ≡ Ok span)
IsSpanned net End = Unit {0}

abbrev AreSpanned : Network → List ExchangeLine → Type 0
AreSpanned net [] = Unit {0}
AreSpanned net (e ∷ taken) = IsSpanned net e × AreSpanned net taken

-- each line that is taken is
spanned_over : (net : Network) (e : ExchangeLine) → IfOk (over_network net e) (IsSpanned net)
spanned_over net End = tt
spanned_over net (Exchanged link side x) = by (nat_le (length net.links) link) (span_over net link side x) refl
  where
    by : (unknown : Bool) (span : Result Span ExchangeFault) → span_over net link side x ≡ span
        → IfOk (cond unknown (Err UnknownLink) (if_spanned (Exchanged link side x) span)) (IsSpanned net)
    by true span is = tt
    by false (Ok span) is = (span, is)
    by false (Err why) is = tt

spanned_said : (net : Network) (taken : List ExchangeLine) (line : Result ExchangeLine ExchangeLineFault) → IfOk (behind net taken line) (IsSpanned net)
spanned_said net taken (Err why) = tt
spanned_said net taken (Ok e) = by (list_any is_end_line taken)
  where
    by : (ended : Bool) → IfOk (cond ended (Err AfterEnd) (over_network net e)) (IsSpanned net)
    by true = tt
    by false = spanned_over net e

told_said : (net : Network) (said : Result ExchangeLine TwowayFault) → IfOk said (IsSpanned net) → IfOk (told_reason said) (IsSpanned net)
told_said net (Ok e) spanned = spanned
told_said net (Err why) spanned = tt

unless_long : (net : Network) (long : Option (List ℕ)) (said : Result ExchangeLine (List ℕ)) → IfOk said (IsSpanned net)
    → IfOk (unless_too_long long said) (IsSpanned net)
unless_long net None said spanned = spanned
unless_long net (Some why) said spanned = tt

read_spanned : (net : Network) (judgement : Result ExchangeLine (List ℕ)) (taken : List ExchangeLine) (next : ExchangeLine → Reading ExchangeLine)
    → AreSpanned net taken → IfOk judgement (IsSpanned net)
    → ((e : ExchangeLine) → AreSpanned net (e ∷ taken) → AreSpanned net (next e).taken) → AreSpanned net (read_on judgement taken next).taken
read_spanned net (Err why) taken next spanned said later = spanned
read_spanned net (Ok e) taken next spanned said later = later e (said, spanned)

spanned_from : (net : Network) (total start : ℕ) (taken : List ExchangeLine) (ls : List (List ℕ)) → AreSpanned net taken
    → AreSpanned net (reading_from (twoway_work net) total start taken ls).taken
unfolding reading_from
spanned_from net total start taken [] spanned = spanned
spanned_from net total start taken (line ∷ others) spanned =
    read_spanned net (judged (twoway_work net) total start taken line) taken
    (λ e. reading_from (twoway_work net) total (start + length line + 1) (e ∷ taken) others) spanned
    (unless_long net (length_fault total start line) (told_reason (exchange_said net taken line))
    (told_said net (exchange_said net taken line) (spanned_said net taken (exchange_line line))))
    (λ e longer. spanned_from net total (start + length line + 1) (e ∷ taken) others longer)

-- the span of an exchange is among those of its link
module _ (net : Network) (link side : ℕ) (x : Exchange) where
  at_head : (taken : List ExchangeLine) (span : Span) → span_over net link side x ≡ Ok span
      → slice_get (filter_map (span_on net link) (Exchanged link side x ∷ taken)) 0 ≡ Some span
  at_head taken span is = let here : nat_eq link link ≡ true = eq-eqb link link refl in rw (here, is) refl

  further_on : (o : Option Span) (spans : List Span) (span : Span) (i : ℕ) → slice_get spans i ≡ Some span
      → (j : ℕ) × (slice_get (cons_option o spans) j ≡ Some span)
  further_on None spans span i at = (i, at)
  further_on (Some other) spans span i at = (suc i, at)

  among : (taken : List ExchangeLine) (i : ℕ) → AreSpanned net taken → slice_get taken i ≡ Some (Exchanged link side x)
      → (span : Span) × (span_over net link side x ≡ Ok span) × (j : ℕ) × (slice_get (filter_map (span_on net link) taken) j ≡ Some span)
  among [] i spanned at = cc
  among (e ∷ taken) zero spanned at =
      let is : e ≡ Exchanged link side x = cc in
      let has : IsSpanned net (Exchanged link side x) = subst (IsSpanned net) is spanned.0 in
      (has.0, has.1, 0, subst (λ (l : ExchangeLine). slice_get (filter_map (span_on net link) (l ∷ taken)) 0 ≡ Some has.0) (sym is) (at_head taken has.0 has.1))
  among (e ∷ taken) (suc i) spanned at =
      let later = among taken i spanned.1 at in
      let shifted = further_on (span_on net link e) (filter_map (span_on net link) taken) later.0 later.2 later.3 in
      (later.0, later.1, shifted.0, shifted.1)

  -- they are joined, since there is one
  joined : (spans : List Span) (span : Span) (j : ℕ) → slice_get spans j ≡ Some span → (joint : Span × ℕ) × (joint_span spans ≡ Some joint)
  joined [] span j at = cc
  joined (s ∷ spans) span j at = (_, refl)

  bounded : (taken : List ExchangeLine) (i : ℕ) → AreSpanned net taken → slice_get taken i ≡ Some (Exchanged link side x) → IsBounded net taken link side x
  bounded taken i spanned at =
      let (span, is, j, has) = among taken i spanned at in
      let (joint, same) = joined (filter_map (span_on net link) taken) span j has in
      record {
        joint = joint;
        is_joint = same;
        covers = joint_covers (beginner net link side) (replier net link side) x span joint.0 (filter_map (span_on net link) taken) j joint.1 is has same;
        meets = λ inside. inside_meets (beginner net link side) (replier net link side) x span joint.0 (filter_map (span_on net link) taken) j joint.1
            (link_of net link) is has same inside;
      }

pub bounds_hold : (net : Network) (text : List ℕ) → BoundsHold net (reading (twoway_work net) text).taken
unfolding reading
bounds_hold net text =
    λ i link side x at. bounded net link side x (reading_from (twoway_work net) (length text) 0 [] (lines text)).taken i
    (spanned_from net (length text) 0 [] (lines text) tt) at
