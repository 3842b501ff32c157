use Rattle.std.proofs.Common.{◌≡◌, ◌++◌, false, Some, ℕ, map, sym, subst, arith}
use Rattle.std.specs.Prelude.{Vec, string_bytes}
use Rattle.std.specs.declared.alloc.Global.{Global}
use Rattle.toml.specs.Text.{IsDocumentText}
use Rattle.sd_num.specs.Lists.{below}
use Rattle.sd_topotext.specs.Reading.{tree_of}
use Rattle.sd_gen.specs.fabric.Fabrics.{leaf_name, spine_name}
use Rattle.sd_gen.specs.fabric.Texts.{IsFabricText}
use Rattle.sd_gen.specs.fabric.Trees.{device_tree, fabric_tree}
use Rattle.sd_gen.proofs.fabric.Paging.{some_devices, whole_document}
use Rattle.sd_gen.proofs.fabric.Reading.{written}
use Rattle.sd_gen.proofs.fabric.fabric_text.Goals as goal

document : (c : goal.After-into_bytes) → IsDocumentText false (fabric_tree c.args.leaves c.args.spines) (string_bytes c.add_links.new.text)
document c =
    let leaves = c.args.leaves in
    let spines = c.args.spines in
    let devices = map device_tree (map spine_name (below spines) ++ map leaf_name (below leaves)) in
    whole_document leaves spines (omega (arith, c.requires.some_leaves)) (omega (arith, c.requires.some_spines)) (string_bytes c.add_links.new.text)
    (c.in_ok-add_links.ensures _ (c.in_ok-add_racks.ensures _
    (c.in_ok-add_tables.ensures _ devices c.in_ok-devices.ensures (some_devices leaves spines (omega (arith, c.requires.some_leaves))
    (omega (arith, c.requires.some_spines))) c.in_ok-text.ensures)))

pub returns-clause-written : goal.returns-clause-written
returns-clause-written c =
    subst (λ (v : Vec ℕ Global). IsDocumentText false (fabric_tree c.args.leaves c.args.spines) v.items) (sym c.into_bytes.ensures.value) (document c)

pub returns-clause-tree : goal.returns-clause-tree
returns-clause-tree c =
    subst (λ (v : Vec ℕ Global). tree_of v.items ≡ Some (fabric_tree c.args.leaves c.args.spines)) (sym c.into_bytes.ensures.value)
    (written c.args.leaves c.args.spines (omega (arith, c.requires.some_spines)) c.requires.few_leaves c.requires.few_spines c.add_links.new.text
    (document c)).0

pub returns-clause-means : goal.returns-clause-means
returns-clause-means c =
    subst (λ (v : Vec ℕ Global). IsFabricText c.args.leaves c.args.spines v.items) (sym c.into_bytes.ensures.value)
    (written c.args.leaves c.args.spines (omega (arith, c.requires.some_spines)) c.requires.few_leaves c.requires.few_spines c.add_links.new.text
    (document c)).1
