-- How the bounds of links are printed.
use Rattle.std.specs.Prelude.{ℕ, List, [], ◌∷◌, length, filter, is_some, codes, decimal, if◌then◌else◌}
use Rattle.sd_num.specs.Texts.{text_of}
use Rattle.sd_plan.specs.topo.Network.{Network, link_of, link_names, link_numbers, name_at}
use Rattle.sd_commands.specs.declared.exchanges.Span.{Span}
use Rattle.sd_commands.specs.declared.exchanges.ExchangeLine.{ExchangeLine}
use Rattle.sd_commands.specs.exchanges.Spans.{is_inside}
use Rattle.sd_commands.specs.exchanges.Lines.{span_after}

-- the line of a link whose exchanges give such a span and are this many
abbrev pub link_line : Network → ℕ → Span × ℕ → List ℕ
link_line net l joint =
    text_of
    (codes "link" ∷ name_at (link_names net) l ∷ decimal (joint.0).min ∷ decimal (joint.0).max ∷ decimal joint.1
    ∷ (if is_inside (link_of net l) joint.0 then codes "inside" else codes "outside")
    ∷ [])

-- how many links have one
abbrev pub links_with : Network → List ExchangeLine → List ℕ
links_with net taken = filter (λ l. is_some (span_after net taken l)) (link_numbers net)

-- the last line: how many lines and how many links there were
abbrev pub done_line : Network → List ExchangeLine → List ℕ
done_line net taken = text_of (codes "done" ∷ decimal (length taken) ∷ decimal (length (links_with net taken)) ∷ [])
