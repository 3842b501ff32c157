-- What is kept of the lines that were taken, and for which lines it stands.
use Rattle.std.specs.Prelude.{◌≡◌, ℕ, List, [], ◌∷◌, ◌++◌, length, filter, filter_map, flat_map, is_some, codes, decimal, Option, Some, None, Result, Ok, Err}
use Rattle.std.specs.List.{list_any}
use Rattle.sd_num.specs.Lists.{below, map_or}
use Rattle.sd_num.specs.Texts.{text_of}
use Rattle.sd_io.specs.outside.Pieces.{Pieces, piece_of}
use Rattle.sd_plan.specs.topo.Network.{Network}
use Rattle.sd_commands.specs.exchanges.Joints.{AreFew, Joints, joint_at, StandsFor as SpansStand}
use Rattle.sd_commands.specs.exchanges.Lines.{is_end_line, span_over}
use Rattle.sd_commands.specs.exchanges.Printed.{link_line}
use Rattle.sd_commands.specs.declared.exchanges.Span.{Span}
use Rattle.sd_commands.specs.declared.exchanges.ExchangeFault.{ExchangeFault}
use Rattle.sd_commands.specs.declared.exchanges.ExchangeLine.{ExchangeLine}
use Rattle.sd_commands.specs.declared.exchanges.ExchangeLine.TheVariants.{Exchange as Exchanged, End}
use Rattle.sd_commands.specs.declared.twoway.TwowayFault.{TwowayFault}
use Rattle.sd_commands.specs.declared.twoway.tally.Tally.{Tally}

-- the span that a line adds, with its link
abbrev pub with_link : ℕ → Result Span ExchangeFault → Option (ℕ × Span)
with_link link (Ok span) = Some (link, span)
with_link link (Err why) = None

-- the span that a line adds, with its link
abbrev pub added_by : Network → ExchangeLine → Option (ℕ × Span)
added_by net (Exchanged link side x) = with_link link (span_over net link side x)
added_by net End = None

-- the spans that some lines add, with their links
abbrev pub added : Network → List ExchangeLine → List (ℕ × Span)
added net taken = filter_map (added_by net) taken

-- there is a place for each link, and no link has more spans than lines were taken
pub record Fits (net : Network) (tally : Tally) : Type 0 where
  pub links : length tally.spans ≡ length net.links
  pub few : AreFew tally.spans tally.lines

-- the spans of the lines are joined, the lines are counted, and an `end` is known
pub record StandsFor (net : Network) (tally : Tally) (taken : List ExchangeLine) : Type 0 where
  pub spans : SpansStand tally.spans (added net taken)
  pub lines : tally.lines ≡ length taken
  pub ended : tally.ended ≡ list_any is_end_line taken

-- a line was taken after these, as what it says, or it is refused
abbrev pub Takes : Result ExchangeLine TwowayFault → Network → List ExchangeLine → Tally → Result (Unit {0}) TwowayFault → Type 0
Takes said net taken tally (Ok done) = (e : ExchangeLine) × (said ≡ Ok e) × StandsFor net tally (e ∷ taken)
Takes said net taken tally (Err why) = (said ≡ Err why) × StandsFor net tally taken

-- the lines of the first n links, by what is kept of them, each by one write, and how many these are
abbrev pub lines_of : Network → Joints → ℕ → Pieces
lines_of net joints n = flat_map (λ l. piece_of (map_or (joint_at joints l) [] (link_line net l))) (below n)

-- how many of the first n links have a line
abbrev pub count_of : Joints → ℕ → ℕ
count_of joints n = length (filter (λ l. is_some (joint_at joints l)) (below n))

-- all that is written for what is kept: the lines of the links, and the last line
abbrev pub bounds_of : Network → Tally → Pieces
bounds_of net tally =
    lines_of net tally.spans (length net.links)
    ++ piece_of (text_of (codes "done" ∷ decimal tally.lines ∷ decimal (count_of tally.spans (length net.links)) ∷ []))
