use Rattle.std.proofs.Common.{arith, ap, ◌∙◌, ◌≡◌, ◌*◌, refl}
use Rattle.sd_plan.specs.topo.Seen.{links_seen}
use Rattle.sd_topotext.proofs.Entries.{links_added}
use Rattle.sd_gen.specs.fabric.Numbered.{link_at}
use Rattle.sd_gen.proofs.fabric.Numbering.{numbered}
use Rattle.sd_gen.proofs.fabric.Reading.{links_are}
use Rattle.sd_gen.proofs.fabric.Tables.{link_new, one_seen}
use Rattle.sd_gen.proofs.fabric.parts.links.Goals as goal

pub add_named-requires : goal.add_named-requires
add_named-requires c =
    link_new c.args.leaves c.args.spines c.requires.some c.requires.few_leaves c.requires.few_spines c.links.links c.links.number c.as_str.result.now
    c.links-test.true c.links.invariant (c.as_str.ensures.value ∙ c.in_ok-name.ensures)

pub links-preserved : goal.links-preserved
links-preserved c =
    one_seen (link_at c.args.spines) c.links.number (links_seen c.links.links) (links_seen c.add_named.new.things) _
    (links_added c.links.links c.add_named.new.things c.as_str.result.now c.link_between-link.result c.in_ok-add_named.ensures.ok)
    (rw (c.as_str.ensures.value, c.in_ok-name.ensures, c.link_between-link.ensures) refl) c.links.invariant

pub returns : goal.returns
returns c =
    let all : c.links.number ≡ c.args.leaves * c.args.spines = omega (arith, c.links.auto.number-end, c.links-test.false) in
    c.links.invariant ∙ ap (numbered (link_at c.args.spines)) all
    ∙ links_are c.args.leaves c.args.spines c.requires.some c.requires.few_leaves c.requires.few_spines
