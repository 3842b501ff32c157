use Rattle.std.proofs.Common.{◌≡◌, ◌≤◌, Some, Ok, ℕ, ap, sym, ◌∙◌, subst, string_bytes}
use Rattle.std.specs.Prelude.{Vec}
use Rattle.std.specs.declared.alloc.Global.{Global}
use Rattle.std.proofs.lemmas.Str.{IsUtf8-string_bytes}
use Rattle.toml.specs.Data.{Members, members_depth}
use Rattle.sd_plan.specs.topo.Topologies.{network}
use Rattle.sd_topotext.specs.Meaning.{network_of}
use Rattle.sd_topotext.specs.Reading.{tree_of}
use Rattle.sd_topotext.specs.Versions.{with_version_two}
use Rattle.sd_topotext.proofs.ReadBack.{network_depth, text_read_back}
use Rattle.sd_topotext.proofs.print.topology_text.Goals as goal

pub returns-in-Ok : goal.returns-in-Ok
returns-in-Ok c =
    let net = network c.args.topo.now in
    let bytes = string_bytes c.in-Ok.text in
    let shallow = subst (λ (t : Members). members_depth t ≤ 80) (sym c.in_ok-table.ensures) (network_depth net) in
    let parsed = c.in-Ok.ensures.reads_back shallow ∙ ap (λ (t : Members). Some t) c.in_ok-table.ensures in
    subst (λ (v : Vec ℕ Global). network_of (tree_of v.items) ≡ Ok (with_version_two net)) (sym c.into_bytes.ensures.value)
    (text_read_back net bytes c.args.topo.now.is_network (IsUtf8-string_bytes c.in-Ok.text) parsed)
