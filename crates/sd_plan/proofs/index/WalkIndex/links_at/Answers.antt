use Rattle.std.proofs.Common.{◌<◌, [], length, slice_index_or, ap, ◌∙◌, sym, subst}
use Rattle.sd_plan.specs.Joining.{part_of}
use Rattle.sd_plan.proofs.Numbered.{get_or-numbered}
use Rattle.sd_plan.proofs.index.WalkIndex.links_at.Goals as goal

pub returns : goal.returns
returns c =
    let inside = c.self.inside in
    let within : c.args.d < length inside.spans.items = subst (λ index. c.args.d < length index.spans) (sym c.self.view_is) c.requires in
    c.part_of.ensures ∙ ap (λ ends. part_of ends c.deref-2.result.now c.args.d) c.deref.ensures.value
    ∙ ap (λ offsets. part_of inside.ends.items offsets c.args.d) c.deref-2.ensures.value
    ∙ sym (get_or-numbered (part_of inside.ends.items inside.offsets.items) (length inside.spans.items) c.args.d [] within)
    ∙ ap (λ index. slice_index_or index.usable c.args.d []) c.self.view_is
