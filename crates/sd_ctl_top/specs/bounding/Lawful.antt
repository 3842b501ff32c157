-- What is printed of the numbers: whole lines, of each domain of an accepted plan some, and all of them are what is promised.
use Rattle.std.proofs.Common.{◌≡◌, ◌∙◌, ℕ, true, List, [], ◌∷◌, ◌++◌, Option, None, Some, refl, sym, ap, subst}
use Rattle.std.specs.Prelude.{codes, decimal, flat_map, slice_index_or}
use Rattle.std.specs.List.{concat}
use Rattle.std.proofs.lemmas.List.Folds.{concat-append}
use Rattle.sd_io.specs.outside.Pieces.{Pieces, piece_of}
use Rattle.sd_io.proofs.outside.Adding.{concat_piece}
use Rattle.sd_plan.specs.topo.Network.{Network, device_name}
use Rattle.sd_plan.specs.topo.Limits.{IsNetwork}
use Rattle.sd_plan.specs.domain.Domains.{domains}
use Rattle.sd_plan.specs.domain.Lone.{IsDomain}
use Rattle.sd_plan.specs.declared.domain.DomainId.{DomainId}
use Rattle.sd_plan.specs.Plans.{Fits, members}
use Rattle.sd_plan.specs.declared.Plan.{Plan}
use Rattle.sd_drill.specs.Bounds.{bound_at}
use Rattle.sd_checker.specs.Text.{domain_words}
use Rattle.sd_checker.specs.Conditions.{IsAccepted}
use Rattle.sd_drill.specs.Printed.{done_line}
use Rattle.sd_drill.specs.declared.Budget.{Budget}
use Rattle.sd_drill.proofs.Circles.{no_circle}
use Rattle.sd_drill.proofs.Made.{has_bounds}
use Rattle.sd_drill_text.specs.Writes.{AreAllWrites, AreWrites}
use Rattle.sd_files.specs.work.Leaving.{are_lines}
use Rattle.sd_files.proofs.work.Whole.{append_whole, text_whole}
use Rattle.sd_ctl_top.specs.bounding.Printed.{AreLines, AreLinesOf, IsBounds, bounds_line, line_of}
use Rattle.sd_drill_text.proofs.Existing.{have_calm, have_tight}

line_ends : (domain : List (List ℕ)) (device : List ℕ) (drill tight : Option ℕ) (calm : ℕ) → are_lines (line_of domain device drill tight calm) ≡ true
line_ends domain device (Some w) (Some tight) calm =
    text_whole (codes "bounds" ∷ domain ++ device ∷ decimal w ∷ decimal tight ∷ decimal calm ∷ [])
line_ends domain device (Some w) None calm = text_whole (codes "nobound" ∷ domain ++ device ∷ decimal calm ∷ [])
line_ends domain device None tight calm = text_whole (codes "nobound" ∷ domain ++ device ∷ decimal calm ∷ [])

printed_ends : (net : Network) (f : DomainId) (worst tight : List (Option ℕ)) (calm ds : List ℕ)
    → are_lines (flat_map (bounds_line net f worst tight calm) ds) ≡ true
printed_ends net f worst tight calm [] = refl
printed_ends net f worst tight calm (d ∷ ds) =
    append_whole (bounds_line net f worst tight calm d) (flat_map (bounds_line net f worst tight calm) ds)
    (line_ends (domain_words net f) (device_name net d) (bound_at worst d) (bound_at tight d) (slice_index_or calm d 0))
    (printed_ends net f worst tight calm ds)

module _ (net : Network) (plan : Plan) (budget : Budget) where
  pub bounds_end : (f : DomainId) (lines : List ℕ) → AreLinesOf net plan budget f lines → are_lines lines ≡ true
  bounds_end f lines are =
      subst (λ (l : List ℕ). are_lines l ≡ true) (sym are.printed) (printed_ends net f are.worst are.tight are.calm (members net plan))

  pub bounds_exist : IsNetwork net → Fits net plan → IsAccepted net plan → (f : DomainId) → IsDomain net f
      → (lines : List ℕ) × AreLinesOf net plan budget f lines
  bounds_exist law fits accepted f is =
      let worst = has_bounds net plan budget f law fits accepted.structure (no_circle net plan f accepted is) in
      let tight = have_tight net plan budget law f worst.0 worst.1 in
      let calm = have_calm net plan budget law in (
        flat_map (bounds_line net f worst.0 tight.0 calm.0) (members net plan),
        record { worst = worst.0; tight = tight.0; calm = calm.0; are_bounds = worst.1; are_tight = tight.1; are_calm = calm.1; printed = refl },
      )

  -- the bytes of these writes are the lines
  writes_lines : (fs : List DomainId) (pieces : Pieces) → AreWrites (AreLinesOf net plan budget) fs pieces → AreLines net plan budget fs (concat pieces)
  writes_lines [] pieces is = ap concat is
  writes_lines (f ∷ fs) pieces (lines, rest, first, others, whole) = (
    lines,
    concat rest,
    first,
    writes_lines fs rest others,
    ap concat whole ∙ concat-append (piece_of lines) rest ∙ ap (λ (l : List ℕ). l ++ concat rest) (concat_piece lines),
  )

  pub bounds_bytes : (pieces : Pieces) → AreAllWrites (AreLinesOf net plan budget) net plan pieces → IsBounds net plan budget (concat pieces)
  bounds_bytes pieces (lines, are, whole) = (
    concat lines,
    writes_lines (domains net) lines are,
    ap concat whole ∙ concat-append lines (piece_of (done_line net plan)) ∙ ap (λ (l : List ℕ). concat lines ++ l) (concat_piece (done_line net plan)),
  )
