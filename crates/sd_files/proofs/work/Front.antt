-- A line that was taken at the front of a text is the next step.
use Rattle.std.proofs.Common.{◌≡◌, ◌∙◌, ℕ, ◌+◌, List, ◌∷◌, Option, Some, None, Ok, Result, length, take, ap, sym, subst, arith}
use Rattle.sd_io.specs.outside.Pieces.{Pieces, piece_of}
use Rattle.sd_files.specs.Writes.{Adds}
use Rattle.sd_files.specs.declared.command_error.IoError.{IoError}
use Rattle.sd_files.specs.declared.work.LineWork.{Ghosts}
use Rattle.sd_files.specs.declared.work.progress.Progress.{Progress}
use Rattle.sd_files.specs.declared.work.Taken.TheVariants as taken
use Rattle.sd_files.specs.work.Comes.{HasMadeStep}
use Rattle.sd_files.specs.work.Progresses.{HasAccepted}
use Rattle.sd_files.specs.work.Steps.{step_for, step_pieces}
use Rattle.sd_files.specs.work.Taking.{Takes, TakesFront}
use Rattle.sd_files.specs.work.Works.{Work}

module _ {W E : Type 0} (g : Ghosts W E) (middle : W) (w : Work E) (xs : List E) (text window : List ℕ) (len : ℕ) (found : Option ℕ) (is : found ≡ Some len)
    (same : text ≡ window) (takes : TakesFront w xs text (g.does middle w) (g.printing middle) found) where
  took : Takes w xs (take len window) (g.does middle w) (g.printing middle) taken.Accepted
  took =
      subst (λ (t : List ℕ). Takes w xs (take len t) (g.does middle w) (g.printing middle) taken.Accepted) same
      (subst (λ (f : Option ℕ). TakesFront w xs text (g.does middle w) (g.printing middle) f) is takes)

  pub front_makes : (old new : Progress W) → new.work ≡ middle → old.taken ≡ length xs → new.taken ≡ old.taken + 1
      → HasMadeStep (step_for w xs (w.says xs (take len window))) xs (HasAccepted g new w) (Ok None)
  front_makes old new stays counted more =
      (took.0, ap (step_for w xs) took.1, (subst (λ (v : W). g.does v w (took.0 ∷ xs)) (sym stays) took.3, omega (arith, counted, more)))

  -- what the work has printed is what is due for it
  pub front_adds : {T : Type 0} (result : Result T IoError) (old new : Option Pieces) → Adds (piece_of (g.printing middle)) old new result
      → Adds (step_pieces w xs (step_for w xs (w.says xs (take len window)))) old new result
  front_adds result old new adds =
      subst (λ (pieces : Pieces). Adds pieces old new result)
      (ap piece_of took.2 ∙ sym (ap (λ (r : Result E (List ℕ)). step_pieces w xs (step_for w xs r)) took.1)) adds
