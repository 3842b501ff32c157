-- What is printed of a drill: whole lines, of each domain of an accepted plan some, and all of them are a drill.
use Rattle.std.proofs.Common.{◌≡◌, ◌∙◌, ℕ, true, List, [], ◌∷◌, ◌++◌, Option, refl, sym, ap, subst}
use Rattle.std.specs.Prelude.{flat_map}
use Rattle.std.specs.List.{concat}
use Rattle.std.proofs.lemmas.List.Folds.{concat-append}
use Rattle.sd_io.specs.outside.Pieces.{Pieces, piece_of}
use Rattle.sd_io.proofs.outside.Adding.{concat_piece}
use Rattle.sd_plan.specs.topo.Network.{Network}
use Rattle.sd_plan.specs.topo.Limits.{IsNetwork}
use Rattle.sd_plan.specs.domain.Domains.{domains}
use Rattle.sd_plan.specs.domain.Lone.{IsDomain}
use Rattle.sd_plan.specs.declared.domain.DomainId.{DomainId}
use Rattle.sd_plan.specs.Plans.{Fits, members}
use Rattle.sd_plan.specs.declared.Plan.{Plan}
use Rattle.sd_drill.specs.Bounds.{bound_at}
use Rattle.sd_checker.specs.Conditions.{IsAccepted}
use Rattle.sd_drill.specs.Printed.{IsDrill, IsLinesOf, AreLines, bound_line, bound_words, domain_lines, done_line}
use Rattle.sd_drill.specs.declared.Budget.{Budget}
use Rattle.sd_drill.proofs.Circles.{no_circle}
use Rattle.sd_drill.proofs.Made.{has_bounds}
use Rattle.sd_files.specs.work.Leaving.{are_lines}
use Rattle.sd_files.proofs.work.Whole.{append_whole, text_whole}
use Rattle.sd_drill_text.specs.Writes.{AreAllWrites, AreWrites}

-- printed lines are whole
printed_ends : (net : Network) (f : DomainId) (bounds : List (Option ℕ)) (ds : List ℕ) → are_lines (flat_map (bound_line net f bounds) ds) ≡ true
printed_ends net f bounds [] = refl
printed_ends net f bounds (d ∷ ds) =
    append_whole (bound_line net f bounds d) (flat_map (bound_line net f bounds) ds) (text_whole (bound_words net f d (bound_at bounds d)))
    (printed_ends net f bounds ds)

module _ (net : Network) (plan : Plan) (budget : Budget) where
  pub drill_ends : (f : DomainId) (lines : List ℕ) → IsLinesOf net plan budget f lines → are_lines lines ≡ true
  drill_ends f lines is = subst (λ (l : List ℕ). are_lines l ≡ true) (sym is.2) (printed_ends net f is.0 (members net plan))

  -- an accepted plan has lines of each domain
  pub drill_has : IsNetwork net → Fits net plan → IsAccepted net plan → (f : DomainId) → IsDomain net f → (lines : List ℕ) × IsLinesOf net plan budget f lines
  drill_has law fits accepted f is =
      let found = has_bounds net plan budget f law fits accepted.structure (no_circle net plan f accepted is) in
      (domain_lines net plan f found.0, (found.0, found.1, refl))

  -- the bytes of these writes are the lines
  writes_lines : (fs : List DomainId) (pieces : Pieces) → AreWrites (IsLinesOf net plan budget) fs pieces → AreLines net plan budget fs (concat pieces)
  writes_lines [] pieces is = ap concat is
  writes_lines (f ∷ fs) pieces (lines, rest, first, others, whole) = (
    lines,
    concat rest,
    first,
    writes_lines fs rest others,
    ap concat whole ∙ concat-append (piece_of lines) rest ∙ ap (λ (l : List ℕ). l ++ concat rest) (concat_piece lines),
  )

  -- and those of a drill are a drill
  pub drill_bytes : (pieces : Pieces) → AreAllWrites (IsLinesOf net plan budget) net plan pieces → IsDrill net plan budget (concat pieces)
  drill_bytes pieces (lines, are, whole) = (
    concat lines,
    writes_lines (domains net) lines are,
    ap concat whole ∙ concat-append lines (piece_of (done_line net plan)) ∙ ap (λ (l : List ℕ). concat lines ++ l) (concat_piece (done_line net plan)),
  )
