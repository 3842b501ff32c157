use Rattle.std.proofs.Common.{◌≡◌, false, List, ℕ, suc, take, sym, subst, ◌∙◌, String, Global, add-one}
use Rattle.std.specs.List.{list_any, AllZip}
use Rattle.std.specs.Str.{bytes_eq}
use Rattle.sd_plan.specs.topo.Seen.{names_seen}
use Rattle.sd_plan.specs.topo.Copies.{IsCopy}
use Rattle.sd_plan.proofs.topo.Copying.{new_name, copied_more}
use Rattle.sd_plan.proofs.topo.copy.copy_table.Goals as goal

pub copy_entry-requires : goal.copy_entry-requires
copy_entry-requires g c =
    subst (λ (n : List ℕ). list_any (bytes_eq n) (names_seen c.loop-number.copies) ≡ false) (sym c.as_str.ensures.value)
    (new_name g.V.CopyIn.same c.args.table.now.entries c.loop-number.copies.entries c.loop-number.number (c.in-Some.name.now, c.in-Some.value.now)
    c.len-number-end.ensures.unique (sym c.in-Some.ensures.entry) c.loop-number.invariant.entries)

pub loop-number-preserved : goal.loop-number-preserved
loop-number-preserved g c =
    let same = g.V.CopyIn.same in
    let kept = c.loop-number.invariant in
    let adds = c.in_ok-copy_entry-in-Some.ensures in
    let more = copied_more same c.args.table.now.entries c.loop-number.copies.entries c.loop-number.number (c.in-Some.name.now, c.in-Some.value.now) adds.entry
    (sym c.in-Some.ensures.entry) kept.entries (adds.named ∙ c.as_str.ensures.value, adds.copied) in
    record {
      entries = subst (λ n. AllZip (IsCopy same) (take n c.args.table.now.entries) c.copy_entry.new.copies.entries) (sym (add-one c.loop-number.number))
          (subst (λ (l : List (String Global × g.row.V.Denot)). AllZip (IsCopy same) (take (suc c.loop-number.number) c.args.table.now.entries) l)
          (sym adds.last) more);
      hasher = adds.hasher ∙ kept.hasher;
    }
