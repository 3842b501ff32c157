-- The plan of the square speaks of every network of its shape, and is right over it.
use Rattle.std.proofs.Common.{◌≡◌, None, ℕ, ◌<◌, [], ◌∷◌, Some, refl, sym, subst, arith, length}
use Rattle.std.proofs.lemmas.List.Elements.{All-nil, All-cons}
use Rattle.sd_plan.proofs.Fitting.{is_row_of_two}
use Rattle.sd_plan.specs.topo.Network.{Network}
use Rattle.sd_plan.proofs.topo.Lists.{each_of}
use Rattle.sd_plan.specs.Examples.{IsSquare, square_plan, hop, row}
use Rattle.sd_plan.specs.Plans.{Fits, IsHop, IsRow}
use Rattle.sd_plan.specs.Structure.{structure_breach}

pub square_fits : (net : Network) → IsSquare net → Fits net square_plan
square_fits net square =
    let four : length net.devices ≡ 4 = square.devices in
    let five : length net.links ≡ 5 = square.links in
    let is : (parent link : ℕ) → parent < 4 → link < 5 → IsHop net (hop parent link) =
    λ parent link p l. (subst (λ (n : ℕ). parent < n) (sym four) p, subst (λ (n : ℕ). link < n) (sym five) l) in
    let of_b : IsRow net (row (hop 0 0) (Some (hop 2 2))) =
    is_row_of_two net (hop 0 0) (hop 2 2) (is 0 0 (omega arith) (omega arith)) (is 2 2 (omega arith) (omega arith)) in
    let of_x : IsRow net (row (hop 0 1) (Some (hop 3 4))) =
    is_row_of_two net (hop 0 1) (hop 3 4) (is 0 1 (omega arith) (omega arith)) (is 3 4 (omega arith) (omega arith)) in
    let of_y : IsRow net (row (hop 1 3) (Some (hop 2 4))) =
    is_row_of_two net (hop 1 3) (hop 2 4) (is 1 3 (omega arith) (omega arith)) (is 2 4 (omega arith) (omega arith)) in
    record {
      root = omega arith;
      backup_root = omega arith;
      entries = sym four;
      rows =
          each_of (IsRow net) square_plan.rows
          (All-cons (IsRow net) None (row (hop 0 0) (Some (hop 2 2)) ∷ row (hop 0 1) (Some (hop 3 4)) ∷ row (hop 1 3) (Some (hop 2 4)) ∷ []) tt
          (All-cons (IsRow net) (row (hop 0 0) (Some (hop 2 2))) (row (hop 0 1) (Some (hop 3 4)) ∷ row (hop 1 3) (Some (hop 2 4)) ∷ []) of_b
          (All-cons (IsRow net) (row (hop 0 1) (Some (hop 3 4))) (row (hop 1 3) (Some (hop 2 4)) ∷ []) of_x
          (All-cons (IsRow net) (row (hop 1 3) (Some (hop 2 4))) [] of_y (All-nil (IsRow net))))));
      waits = (omega arith, omega arith, omega arith);
      absent_devices = refl;
      absent_links = refl;
    }

pub square_structured : (net : Network) → IsSquare net → structure_breach net square_plan ≡ None
square_structured net is = rw (is.devices, is.depth, is.rb.0, is.rb.1, is.rx.0, is.rx.1, is.bx.0, is.bx.1, is.by.0, is.by.1, is.xy.0, is.xy.1) refl
