use Rattle.std.proofs.Common.{arith, ℕ, ◌≡◌, List, [], ◌∷◌, ◌++◌, subst, refl}
use Rattle.std.specs.Prelude.{codes, flat_map, string_bytes}
use Rattle.toml.specs.Data.{Members}
use Rattle.sd_num.specs.Lists.{below}
use Rattle.sd_gen.specs.fabric.Pages.{HasLines, section_of}
use Rattle.sd_gen.specs.fabric.Trees.{rack_tree}
use Rattle.sd_gen.proofs.fabric.Paging.{none_added, more_added, each_alone}
use Rattle.sd_gen.proofs.fabric.pages.add_racks.Goals as goal

pub racks-init : goal.racks-init
racks-init c = λ lines has. none_added (codes "domain") lines 0 (λ i. rack_tree c.args.spines i ∷ []) (string_bytes c.args.text.now) refl has

pub racks-preserved : goal.racks-preserved
racks-preserved c = λ lines has.
    more_added (codes "domain") lines c.racks.leaf (λ i. rack_tree c.args.spines i ∷ []) (string_bytes c.add_tables.new.text)
    (c.in_ok-add_tables.ensures (lines ++ section_of (codes "domain") (flat_map (λ i. rack_tree c.args.spines i ∷ []) (below c.racks.leaf)))
    (rack_tree c.args.spines c.racks.leaf ∷ []) c.in_ok-racks.ensures (omega arith)
    (c.racks.invariant lines has))

pub returns : goal.returns
returns c = λ lines has.
    let same : c.racks.leaf ≡ c.args.leaves = omega (arith, c.racks.auto.leaf-end, c.racks-test.false) in
    subst (λ (ms : List Members). HasLines (lines ++ section_of (codes "domain") ms) (string_bytes c.racks.text))
    (each_alone (rack_tree c.args.spines) c.args.leaves)
    (subst (λ (n : ℕ). HasLines (lines ++ section_of (codes "domain") (flat_map (λ i. rack_tree c.args.spines i ∷ []) (below n))) (string_bytes c.racks.text))
    same (c.racks.invariant lines has))
