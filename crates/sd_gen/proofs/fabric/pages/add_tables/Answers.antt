use Rattle.std.proofs.Common.{ap, ◌∙◌, ◌++◌}
use Rattle.std.specs.Prelude.{string_bytes}
use Rattle.std.proofs.lemmas.Result.{on_ok_weaker}
use Rattle.toml.specs.View.{members_view, table_view}
use Rattle.sd_topotext.specs.Printed.{put_word}
use Rattle.sd_gen.specs.fabric.Trees.{tables}
use Rattle.sd_gen.proofs.fabric.Paging.{added}
use Rattle.sd_gen.proofs.fabric.pages.add_tables.Goals as goal

pub returns : goal.returns
returns c =
    on_ok_weaker c.push_text-2.result
    (λ more lines all is some has.
    added c.args.key.now lines all (string_bytes c.args.text.now) (string_bytes c.push_text.new.text) (string_bytes c.in_ok-section.section)
    (string_bytes c.push_text-2.new.text) (table_view c.put.new.members)
    (c.in_ok-put.ensures ∙ ap (λ d. put_word c.args.key.now d (table_view c.new-members.result)) is
    ∙ ap (put_word c.args.key.now (tables all)) (ap members_view c.new-members.ensures.empty)) c.in_ok-section.ensures
    c.in_ok-push_text.ensures (more ∙ ap (λ x. string_bytes c.push_text.new.text ++ x) c.as_str.ensures.value) some has)
    c.push_text-2.ensures
