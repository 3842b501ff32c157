-- The bytes of lines that are printed part by part.
use Rattle.std.specs.Prelude.{◌≡◌, ℕ, Bool, true, false, List, [], ◌∷◌, ◌++◌, flat_map, refl, if◌then◌else◌}
use Rattle.std.proofs.Common.{sym, ap, ◌∙◌, append_assoc}
use Rattle.std.proofs.lemmas.List.{append-nil}
use Rattle.std.proofs.lemmas.List.Concat.{flat_map-append}
use Rattle.sd_plan.specs.topo.Network.{Network}
use Rattle.sd_history.specs.declared.BrokenSet.{BrokenSet}
use Rattle.sd_history.specs.Lines.{Line, Premise, Start, Drift, Delay, Tick, Loss, Domain, Renew, Broken, broken_lines}
use Rattle.sd_replay.specs.lines.Findings.{line_bytes}

-- four parts, one after the other
pub four_parts : {X : Type 0} (f : X → List ℕ) (a b c d : List X) → flat_map f (a ++ b ++ c ++ d) ≡ flat_map f a ++ flat_map f b ++ flat_map f c ++ flat_map f d
four_parts f a b c d =
    flat_map-append f (a ++ b ++ c) d
    ∙ ap (λ bytes. bytes ++ flat_map f d) (flat_map-append f (a ++ b) c ∙ ap (λ bytes. bytes ++ flat_map f c) (flat_map-append f a b))

module _ (net : Network) (n : ℕ) (old : List ℕ) where
  abbrev bytes_if : Bool → Premise → List ℕ
  bytes_if b premise = if b then line_bytes net n (Broken premise) else []

  abbrev one_if : Bool → Premise → List Line
  one_if b premise = if b then Broken premise ∷ [] else []

  -- of one line, where there is one
  of_one : (b : Bool) (premise : Premise) → flat_map (line_bytes net n) (one_if b premise) ≡ bytes_if b premise
  of_one true premise = append-nil (line_bytes net n (Broken premise))
  of_one false premise = refl

  -- one premise more
  one_more : (lines : List Line) (bytes : List ℕ) (b : Bool) (premise : Premise) → old ++ flat_map (line_bytes net n) lines ≡ bytes
      → old ++ flat_map (line_bytes net n) (lines ++ one_if b premise) ≡ bytes ++ bytes_if b premise
  one_more lines bytes b premise before =
      ap (λ more. old ++ more) (flat_map-append (line_bytes net n) lines (one_if b premise))
      ∙ sym (append_assoc old (flat_map (line_bytes net n) lines) (flat_map (line_bytes net n) (one_if b premise)))
      ∙ ap (λ front. front ++ flat_map (line_bytes net n) (one_if b premise)) before
      ∙ ap (λ last. bytes ++ last) (of_one b premise)

  -- premise by premise, after what was printed
  pub premise_by_premise : (broken : BrokenSet)
      → old ++ bytes_if broken.start Start ++ bytes_if broken.drift Drift ++ bytes_if broken.delay Delay ++ bytes_if broken.tick Tick
      ++ bytes_if broken.loss Loss ++ bytes_if broken.domain Domain ++ bytes_if broken.renew Renew
      ≡ old ++ flat_map (line_bytes net n) (broken_lines broken)
  premise_by_premise broken =
      sym (one_more _ _ broken.renew Renew
      (one_more _ _ broken.domain Domain
      (one_more _ _ broken.loss Loss
      (one_more _ _ broken.tick Tick
      (one_more _ _ broken.delay Delay
      (one_more _ _ broken.drift Drift (ap (λ bytes. old ++ bytes) (of_one broken.start Start))))))))
