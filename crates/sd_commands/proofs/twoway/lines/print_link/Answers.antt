use Rattle.std.proofs.Common.{◌∙◌, Bool, List, [], ◌∷◌, ◌++◌, ℕ, ap}
use Rattle.std.specs.Prelude.{codes, decimal, if◌then◌else◌}
use Rattle.sd_num.specs.Texts.{text_of}
use Rattle.sd_plan.specs.topo.Network.{link_names, name_at}
use Rattle.sd_plan.specs.topo.Topologies.{network}
use Rattle.sd_plan.specs.declared.topo.LinkEntry.{LinkEntry}
use Rattle.sd_commands.specs.exchanges.Spans.{is_inside}
use Rattle.sd_commands.proofs.twoway.Printing.{pieces}
use Rattle.sd_commands.proofs.twoway.lines.print_link.Goals as goal

pub returns : goal.returns
returns c =
    let net = network c.args.topo.now in
    pieces _ _ _ _ _ _ c.as_bytes.result.now c.where_it_lies.result.now (name_at (link_names net) c.args.link) (decimal c.args.span.min)
    (decimal c.args.span.max) (decimal c.args.count)
    (if c.is_inside-inside.result then codes "inside" else codes "outside")
    (c.push.ensures ∙ ap (λ (text : List ℕ). text ++ codes "link ") c.clear.ensures) c.push-2.ensures (c.as_bytes.ensures.value
    ∙ c.name_of.ensures.name) c.push_field.ensures.text c.push_field-2.ensures.text
    c.push_field-3.ensures.text c.push-3.ensures c.where_it_lies.ensures.word
    ∙ ap
    (
    λ (inside : Bool). text_of
    (codes "link" ∷ name_at (link_names net) c.args.link ∷ decimal c.args.span.min ∷ decimal c.args.span.max ∷ decimal
    c.args.count ∷ (if inside then codes "inside" else codes "outside") ∷ [])
    )
    (c.is_inside-inside.ensures ∙ ap (λ (link : LinkEntry). is_inside link c.args.span) c.link.ensures)
