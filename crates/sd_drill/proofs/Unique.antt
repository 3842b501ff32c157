-- Only one text is printed of a drill.
use Rattle.std.specs.Prelude.{◌≡◌, ℕ, ◌<◌, List, [], ◌∷◌, ◌++◌, length, Option, None}
use Rattle.std.proofs.Common.{arith, sym, ap, ◌∙◌}
use Rattle.std.proofs.lemmas.List.{ext_get_or}
use Rattle.sd_plan.specs.topo.Network.{Network}
use Rattle.sd_plan.specs.domain.Domains.{domains}
use Rattle.sd_plan.specs.declared.domain.DomainId.{DomainId}
use Rattle.sd_plan.specs.declared.Plan.{Plan}
use Rattle.sd_drill.specs.Bounds.{AreBounds}
use Rattle.sd_drill.specs.Printed.{IsLinesOf, AreLines, IsDrill, domain_lines, done_line}
use Rattle.sd_drill.specs.declared.Budget.{Budget}
use Rattle.sd_drill.proofs.Made.{one_bound}
use Rattle.sd_drill.proofs.Shared.{bound_is}

module _ (net : Network) (plan : Plan) (budget : Budget) where
  same_bounds : (f : DomainId) (xs ys : List (Option ℕ)) → AreBounds net plan budget f xs → AreBounds net plan budget f ys → xs ≡ ys
  same_bounds f xs ys a b =
      ext_get_or None xs ys (a.each ∙ sym b.each)
      (λ d within. (let there : d < length net.devices = omega (arith, within, a.each) in let also : d < length ys = omega (arith, there, b.each) in
      sym (bound_is xs d within) ∙ one_bound net plan budget f xs ys a b d there ∙ bound_is ys d also))

  same_domain : (f : DomainId) (lines other : List ℕ) → IsLinesOf net plan budget f lines → IsLinesOf net plan budget f other → lines ≡ other
  same_domain f lines other (xs, a, printed) (ys, b, also) = printed ∙ ap (domain_lines net plan f) (same_bounds f xs ys a b) ∙ sym also

  same_lines : (fs : List DomainId) (bytes other : List ℕ) → AreLines net plan budget fs bytes → AreLines net plan budget fs other → bytes ≡ other
  same_lines [] bytes other a b = a ∙ sym b
  same_lines (f ∷ fs) bytes other (lines, rest, first, others, whole) (lines', rest', first', others', whole') =
      whole ∙ ap (λ (x : List ℕ). x ++ rest) (same_domain f lines lines' first first')
      ∙ ap (λ (x : List ℕ). lines' ++ x) (same_lines fs rest rest' others others') ∙ sym whole'

  pub one_drill : (bytes other : List ℕ) → IsDrill net plan budget bytes → IsDrill net plan budget other → bytes ≡ other
  one_drill bytes other (lines, are, whole) (lines', are', whole') =
      whole ∙ ap (λ (x : List ℕ). x ++ done_line net plan) (same_lines (domains net) lines lines' are are') ∙ sym whole'
