-- The queue as it is worked off, one neighbour and one device at a time.
use Rattle.std.specs.Prelude.{◌≡◌, ℕ, zero, suc, ◌+◌, ◌<◌, ◌≤◌, ◌^◌, Bool, true, false, List, [], ◌∷◌, ◌++◌, length, get_or, drop, Some, slice_get, if◌then◌else◌, ◌⊎◌}
use Rattle.std.proofs.Common.{refl, sym, ap, ◌∙◌, subst, arith, inl, inr, length-append}
use Rattle.std.proofs.lemmas.List.{drop_more, drop-append-le}
use Rattle.std.proofs.lemmas.Option.{same_Some, slice_get_within}
use Rattle.sd_planner.specs.declared.present.Neighbour.{Neighbour}
use Rattle.sd_planner.specs.declared.placement.Placed.{Placed}
use Rattle.sd_planner.specs.Sweeps.{child, is_new, children, IsShallow, Sweeps, done, turn}

module _ (may_pass : List Bool) (parent depth : ℕ) where
  -- each lies one deeper
  children_deep : (order : List Placed) (neighbours : List Neighbour) (j : ℕ) (q : Placed)
      → slice_get (children may_pass parent depth order neighbours) j ≡ Some q → q.depth ≡ depth + 1
  children_deep order [] j q at = cc
  children_deep order (neighbour ∷ neighbours) j q at =
      by (is_new may_pass order neighbour.device) j at (children_deep (order ++ child parent depth neighbour ∷ []) neighbours) (children_deep order neighbours)
    where
      new : Placed
      new = child parent depth neighbour

      by : (b : Bool) (j : ℕ)
          → slice_get (if b then new ∷ children may_pass parent depth (order ++ new ∷ []) neighbours else children may_pass parent depth order neighbours) j
          ≡ Some q
          → ((i : ℕ) (r : Placed) → slice_get (children may_pass parent depth (order ++ new ∷ []) neighbours) i ≡ Some r → r.depth ≡ depth + 1)
          → ((i : ℕ) (r : Placed) → slice_get (children may_pass parent depth order neighbours) i ≡ Some r → r.depth ≡ depth + 1) → q.depth ≡ depth + 1
      by true zero at more rest = ap (λ (r : Placed). r.depth) (sym (same_Some new q at))
      by true (suc j) at more rest = more j q at
      by false j at more rest = rest j q at

at_sides : {X : Type 0} (xs ys : List X) (i : ℕ) (x : X) → slice_get (xs ++ ys) i ≡ Some x
    → (slice_get xs i ≡ Some x) ⊎ ((j : ℕ) × (slice_get ys j ≡ Some x) × (j < length ys))
at_sides [] ys i x at = inr (i, at, slice_get_within ys i x at)
at_sides (z ∷ zs) ys zero x at = inl at
at_sides (z ∷ zs) ys (suc i) x at = at_sides zs ys i x at

pub shallow_start : (may_pass : List Bool) (parent depth : ℕ) (order : List Placed) (neighbours : List Neighbour) → depth ≤ 2 ^ 16
    → IsShallow (length order) (order ++ children may_pass parent depth order neighbours)
shallow_start may_pass parent depth order neighbours limit i p from at =
    let new : List Placed = children may_pass parent depth order neighbours in
    elim (at_sides order new i p at) [
      | inl before ↦ (let within : i < length order = slice_get_within order i p before in absurd (omega arith))
      | inr later ↦
          (let deep : p.depth ≡ depth + 1 = children_deep may_pass parent depth order neighbours later.0 p later.1 in
          omega (arith, later.2, length-append order new))
    ]

pub shallow_more : (may_pass : List Bool) (first depth parent : ℕ) (order : List Placed) (neighbours : List Neighbour) → IsShallow first order
    → depth ≤ 2 ^ 16 + length order → IsShallow first (order ++ children may_pass parent depth order neighbours)
shallow_more may_pass first depth parent order neighbours shallow limit i p from at =
    let new : List Placed = children may_pass parent depth order neighbours in
    elim (at_sides order new i p at) [
      | inl before ↦ (let old : p.depth ≤ 2 ^ 16 + length order = shallow i p from before in omega (arith, length-append order new))
      | inr later ↦
          (let deep : p.depth ≡ depth + 1 = children_deep may_pass parent depth order neighbours later.0 p later.1 in
          omega (arith, later.2, length-append order new))
    ]

module _ (may_pass : List Bool) (near : ℕ → List Neighbour) where
  -- nothing waits
  pub swept : (waiting order final : List Placed) → Sweeps may_pass near waiting order final → waiting ≡ [] → order ≡ final
  swept waiting order final done none = refl
  swept waiting order final (turn rest) none = cc

  -- one waits, and others
  pub one_turn : (waiting order final rest : List Placed) (p : Placed) → Sweeps may_pass near waiting order final → waiting ≡ p ∷ rest
      → Sweeps may_pass near (rest ++ children may_pass p.device p.depth order (near p.device))
      (order ++ children may_pass p.device p.depth order (near p.device)) final
  one_turn waiting order final rest p done is = cc
  one_turn waiting order final rest p (turn {p = q} {waiting = others} more) is =
      let same : q ≡ p = cc in
      let left : others ≡ rest = cc in
      subst (λ (r : Placed). Sweeps may_pass near (rest ++ children may_pass r.device r.depth order (near r.device))
      (order ++ children may_pass r.device r.depth order (near r.device)) final) same
      (subst (λ xs. Sweeps may_pass near (xs ++ children may_pass q.device q.depth order (near q.device))
      (order ++ children may_pass q.device q.depth order (near q.device)) final) left more)

  -- the same where the end of the order waits
  pub queue_turn : (order final : List Placed) (next : ℕ) (p e : Placed) → next < length order → p ≡ get_or order next e
      → Sweeps may_pass near (drop next order) order final
      → Sweeps may_pass near (drop (next + 1) (order ++ children may_pass p.device p.depth order (near p.device)))
      (order ++ children may_pass p.device p.depth order (near p.device)) final
  queue_turn order final next p e within is sweeps =
      let new : List Placed = children may_pass p.device p.depth order (near p.device) in
      subst (λ waiting. Sweeps may_pass near waiting (order ++ new) final) (sym (drop-append-le (next + 1) order new (omega arith)))
      (one_turn (drop next order) order final (drop (next + 1) order) p sweeps
      (drop_more order next e within ∙ ap (λ (q : Placed). q ∷ drop (next + 1) order) (sym is)))
