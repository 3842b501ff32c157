use Rattle.std.proofs.Common.{◌∙◌, ◌++◌, ◌<◌, List, ℕ, [], length, take, get_or, ap, sym, subst, arith}
use Rattle.std.specs.Prelude.{flat_map, codes}
use Rattle.std.proofs.lemmas.List.{flat_map_more, take_more}
use Rattle.sd_plan.specs.topo.Topologies.{network}
use Rattle.sd_plan.specs.topo.Network.{device_name}
use Rattle.sd_drill.specs.Printed.{bound_line}
use Rattle.sd_drill_text.specs.Endings.{AreEndings}
use Rattle.sd_drill_text.specs.Printing.{front_of, line_behind}
use Rattle.sd_drill_text.specs.declared.endings.CachedSuffix.{CachedSuffix}
use Rattle.sd_io.specs.outside.Printed.{printed}
use Rattle.sd_drill.proofs.Shared.{bound_is}
use Rattle.sd_drill_text.proofs.Names.{behind_fronts, line_is}
use Rattle.sd_drill_text.proofs.drill_lines.print_domain.Goals as goal

pub loop-d-init : goal.loop-d-init
loop-d-init c = (
  c.domain_named.result.kind.now,
  c.domain_named.result.name.now,
  c.domain_named.ensures.is,
  c.begin.ensures.bound_front,
  c.begin.ensures.nobound_front,
  c.begin.ensures.text,
  subst (λ (xs : List CachedSuffix). AreEndings (network c.args.topo.now) xs) (sym c.begin.ensures.endings) c.requires.endings,
)

pub loop-d-preserved : goal.loop-d-preserved
loop-d-preserved c =
    let (kind, name, words, bound_front, nobound_front, text, endings) = c.loop-d.invariant in
    let net = network c.args.topo.now in
    let xs = c.args.members.now in
    let i = c.loop-d.d-index in
    let d = get_or xs i 0 in
    let line = bound_line net c.args.domain c.args.bounds.now in
    let within : d < length c.args.bounds.now = omega (arith, c.requires.members i 0 c.loop-d-test.true, c.requires.bounds) in (
      kind,
      name,
      words,
      c.add.ensures.bound_front ∙ bound_front,
      c.add.ensures.nobound_front ∙ nobound_front,
      c.in_ok-add.ensures.text
          ∙ ap (λ (f : List ℕ). c.loop-d.page.text.items ++ line_behind f (printed c.loop-d.page.nobound_front) (device_name net d) c.bound_of.result)
          bound_front
          ∙ ap (λ (f : List ℕ). c.loop-d.page.text.items ++ line_behind (front_of (codes "bound") kind name) f (device_name net d) c.bound_of.result)
          nobound_front
          ∙ ap (λ (t : List ℕ). c.loop-d.page.text.items ++ t) (behind_fronts kind name (device_name net d) c.bound_of.result)
          ∙ ap (λ (t : List ℕ). c.loop-d.page.text.items ++ t)
          (line_is net c.args.domain c.args.bounds.now d kind name c.bound_of.result words (bound_is c.args.bounds.now d within ∙ sym c.bound_of.ensures))
          ∙ ap (λ (t : List ℕ). t ++ line d) text
          ∙ flat_map_more line [] (take i xs) d
          ∙ ap (flat_map line) (sym (take_more xs i 0 c.loop-d-test.true)),
      c.add.ensures.endings,
    )
