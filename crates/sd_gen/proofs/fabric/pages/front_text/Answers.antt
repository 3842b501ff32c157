use Rattle.std.proofs.Common.{ap, ◌∙◌, map}
use Rattle.std.specs.Prelude.{codes, string_bytes}
use Rattle.std.proofs.lemmas.Result.{IfOk-weaker}
use Rattle.toml.specs.View.{table_view}
use Rattle.sd_num.specs.Lists.{below}
use Rattle.sd_topotext.specs.Printed.{put_word}
use Rattle.sd_gen.specs.fabric.Fabrics.{spine_name}
use Rattle.sd_gen.specs.fabric.Trees.{strings}
use Rattle.sd_gen.proofs.fabric.Paging.{front_written}
use Rattle.sd_gen.proofs.fabric.pages.front_text.Goals as goal

pub returns : goal.returns
returns c =
    IfOk-weaker c.document.result _ _
    (λ text document.
    front_written c.args.spines (table_view c.put.new.members) (string_bytes text)
    (c.in_ok-put.ensures ∙ ap (λ d. put_word (codes "roots") d (table_view c.in_ok-members.members)) c.in_ok-roots.ensures
    ∙ ap (put_word (codes "roots") (strings (map spine_name (below c.args.spines)))) c.in_ok-members.ensures)
    document)
    c.document.ensures
