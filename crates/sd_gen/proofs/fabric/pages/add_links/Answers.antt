use Rattle.std.proofs.Common.{arith, ℕ, ◌≡◌, ◌++◌, map, refl, subst}
use Rattle.std.specs.Prelude.{codes, flat_map, string_bytes}
use Rattle.sd_num.specs.Lists.{below}
use Rattle.sd_plan.proofs.Numbered.{length-numbered}
use Rattle.sd_gen.specs.fabric.Pages.{HasLines, section_of}
use Rattle.sd_gen.specs.fabric.Trees.{link_tree}
use Rattle.sd_gen.proofs.fabric.Paging.{none_added, more_added}
use Rattle.sd_gen.proofs.fabric.pages.add_links.Goals as goal

pub links-init : goal.links-init
links-init c = λ lines has. none_added (codes "link") lines 0 (λ i. map (link_tree i) (below c.args.spines)) (string_bytes c.args.text.now) refl has

pub links-preserved : goal.links-preserved
links-preserved c = λ lines has.
    let count = length-numbered (link_tree c.links.leaf) c.args.spines in
    more_added (codes "link") lines c.links.leaf (λ i. map (link_tree i) (below c.args.spines)) (string_bytes c.add_tables.new.text)
    (c.in_ok-add_tables.ensures (lines ++ section_of (codes "link") (flat_map (λ i. map (link_tree i) (below c.args.spines)) (below c.links.leaf)))
    (map (link_tree c.links.leaf) (below c.args.spines)) c.in_ok-links.ensures
    (omega (arith, count, c.requires.some)) (c.links.invariant lines has))

pub returns : goal.returns
returns c = λ lines has.
    let same : c.links.leaf ≡ c.args.leaves = omega (arith, c.links.auto.leaf-end, c.links-test.false) in
    subst (λ (n : ℕ). HasLines (lines ++ section_of (codes "link") (flat_map (λ i. map (link_tree i) (below c.args.spines)) (below n)))
    (string_bytes c.links.text)) same (c.links.invariant lines has)
