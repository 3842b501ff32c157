-- The first hop of a device that passes a test, found by going over its neighbours.
use Rattle.std.proofs.Common.{◌≡◌, ℕ, ◌+◌, ◌<◌, ◌≤◌, Bool, true, false, List, length, map, take, find, get_or, Some, None, option_map, sym, ap, ◌∙◌}
use Rattle.sd_num.proofs.Firsts.{find_more, find_here, find_all}
use Rattle.sd_plan.specs.declared.Hop.{Hop}
use Rattle.sd_planner.specs.declared.present.Neighbour.{Neighbour}
use Rattle.sd_planner.specs.Usable.{hop_to}
use Rattle.sd_planner.proofs.Firsts.{find_mapped}

-- no hop to one of these neighbours passes
abbrev pub NonePasses : (Hop → Bool) → List Neighbour → Type 0
NonePasses test near = find (λ n. test (hop_to n)) near ≡ None

module _ (test : Hop → Bool) (near : List Neighbour) (k : ℕ) (none : NonePasses test (take k near)) where
  pub one_more : (d : Neighbour) (hop : Hop) → k < length near → hop ≡ hop_to (get_or near k d) → test hop ≡ false → NonePasses test (take (k + 1) near)
  one_more d hop within is fails = find_more (λ (n : Neighbour). test (hop_to n)) near k d within none (ap test (sym is) ∙ fails)

  pub first_passes : (d : Neighbour) (hop : Hop) → k < length near → hop ≡ hop_to (get_or near k d) → test hop ≡ true → Some hop ≡ find test (map hop_to near)
  first_passes d hop within is passes =
      ap (λ (h : Hop). Some h) is
      ∙ sym (find_mapped test hop_to near
      ∙ ap (option_map hop_to) (find_here (λ (n : Neighbour). test (hop_to n)) near k d within none (ap test (sym is) ∙ passes)))

  pub none_passes : length near ≤ k → None ≡ find test (map hop_to near)
  none_passes all = sym (find_mapped test hop_to near ∙ ap (option_map hop_to) (find_all (λ (n : Neighbour). test (hop_to n)) near k all none))
