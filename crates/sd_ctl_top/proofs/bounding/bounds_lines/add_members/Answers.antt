use Rattle.std.proofs.Common.{◌∙◌, ◌++◌, List, ℕ, [], ◌∷◌, take, get_or, ap, sym}
use Rattle.std.specs.Prelude.{flat_map}
use Rattle.std.proofs.lemmas.List.{flat_map_more, take_more}
use Rattle.sd_plan.specs.topo.Topologies.{network}
use Rattle.sd_ctl_top.proofs.bounding.Printing.{line_is}
use Rattle.sd_ctl_top.specs.bounding.Printed.{bounds_line, line_of}
use Rattle.sd_ctl_top.proofs.bounding.bounds_lines.add_members.Goals as goal

pub loop-d-preserved : goal.loop-d-preserved
loop-d-preserved c =
    let net = network c.args.topo.now in
    let page = c.args.page in
    let xs = page.members.now in
    let i = c.loop-d.d-index in
    let d = get_or xs i 0 in
    let line = bounds_line net page.domain page.drill.now page.tight.now page.calm.now in
    let old = c.args.text.now.items in
    let named = c.domain_named-named in
    let numbers = c.numbers_of-numbers in
    let words = named.result.kind.now ∷ named.result.name.now ∷ [] in
    c.in_ok-add_line.ensures
    ∙ ap (λ (name : List ℕ). c.loop-d.text.items ++ line_of words name numbers.result.drill numbers.result.tight numbers.result.calm) c.device_name.ensures.is
    ∙ ap (λ (t : List ℕ). c.loop-d.text.items ++ t)
    (line_is net page.domain page.drill.now page.tight.now page.calm.now d words
    numbers.result.drill numbers.result.tight numbers.result.calm named.ensures.is numbers.ensures.drill numbers.ensures.tight numbers.ensures.calm)
    ∙ ap (λ (t : List ℕ). t ++ line d) c.loop-d.invariant ∙ flat_map_more line old (take i xs) d
    ∙ ap (λ (ds : List ℕ). old ++ flat_map line ds) (sym (take_more xs i 0 c.loop-d-test.true))
