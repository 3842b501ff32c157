use Rattle.std.proofs.Common.{ap, ◌∙◌, List, ℕ}
use Rattle.toml.specs.View.{view, members_view}
use Rattle.sd_topotext.specs.Printed.{put_word}
use Rattle.sd_topotext.proofs.Printing.{put_view}
use Rattle.sd_gen.proofs.fabric.values.put.Goals as goal

pub returns-in-Ok-insert : goal.returns-in-Ok-insert
returns-in-Ok-insert c =
    ap members_view c.in-Ok-insert.ensures.entries ∙ put_view c.args.members.now.entries c.in-Ok.word c.args.value
    ∙ ap (λ (k : List ℕ). put_word k (view c.args.value) (members_view c.args.members.now.entries)) c.in-Ok.ensures.ok
