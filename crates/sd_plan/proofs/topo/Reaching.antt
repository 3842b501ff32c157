-- What a walk of at most n links joins is joined, and what is joined is so by some walk. That as many links as there are devices are enough is not here.
use Rattle.std.specs.Prelude.{◌≡◌, ℕ, zero, suc, ◌<◌, Bool, true, false, ◌&&◌, List, [], ◌∷◌, ◌++◌, length, nat_eq, ◌⊎◌}
use Rattle.std.specs.List.{list_any}
use Rattle.std.proofs.Common.{arith, subst, inl, inr}
use Rattle.std.proofs.lemmas.Bool.{and_parts, or_cases, or_left, or_right, eqb-true}
use Rattle.sd_num.specs.Lists.{below}
use Rattle.sd_plan.specs.topo.Network.{Network, joins, device_numbers, link_numbers}
use Rattle.sd_plan.specs.topo.Joined.{Joined, here, over, joined_within}

-- a number below n that passes the test, where some does
any_below : (p : ℕ → Bool) (n : ℕ) → list_any p (below n) ≡ true → (x : ℕ) × (x < n) × (p x ≡ true)
any_below p zero some = cc
any_below p (suc n) some = by_side (any_append (below n) some) (any_below p n)
  where
    any_append : (xs : List ℕ) → list_any p (xs ++ n ∷ []) ≡ true → (list_any p xs ≡ true) ⊎ (p n ≡ true)
    any_append [] h = elim (or_cases (p n) false h) [ inl a ↦ inr a | inr b ↦ cc ]
    any_append (x ∷ xs) h =
        elim (or_cases (p x) (list_any p (xs ++ n ∷ [])) h) [
          | inl a ↦ inl
              (or_left (p x) (list_any p xs) a)
          | inr b ↦ elim (any_append xs b) [ inl c ↦ inl (or_right (p x) (list_any p xs) c) | inr d ↦ inr d ]
        ]

    by_side : (list_any p (below n) ≡ true) ⊎ (p n ≡ true) → (list_any p (below n) ≡ true → (x : ℕ) × (x < n) × (p x ≡ true))
        → (x : ℕ) × (x < suc n) × (p x ≡ true)
    by_side (inl h) rest = let found = rest h in (found.0, omega (arith, found.1), found.2)
    by_side (inr h) rest = (n, omega arith, h)

module _ (net : Network) (may_pass may_cross : ℕ → Bool) where
  -- a walk of at most n links joins
  pub walk_joins : (n d x : ℕ) → joined_within net may_pass may_cross n d x ≡ true → Joined net may_pass may_cross d x
  walk_joins zero d x within = subst (λ y. Joined net may_pass may_cross d y) (eqb-true d x within) here
  walk_joins (suc n) d x within =
      by_first (or_cases (nat_eq d x)
      (list_any (λ e. (may_pass e && list_any (λ l. may_cross l && joins net l d e) (link_numbers net)) && joined_within net may_pass may_cross n e x)
      (device_numbers net)) within) (λ e. walk_joins n e x)
    where
      by_first : (nat_eq d x ≡ true)
          ⊎ (list_any (λ e. (may_pass e && list_any (λ l. may_cross l && joins net l d e) (link_numbers net)) && joined_within net may_pass may_cross n e x)
          (device_numbers net) ≡ true)
          → ((e : ℕ) → joined_within net may_pass may_cross n e x ≡ true → Joined net may_pass may_cross e x) → Joined net may_pass may_cross d x
      by_first (inl same) rest = subst (λ y. Joined net may_pass may_cross d y) (eqb-true d x same) here
      by_first (inr some) rest =
          let found = any_below (λ e. (may_pass e && list_any (λ l. may_cross l && joins net l d e) (link_numbers net))
          && joined_within net may_pass may_cross n e x) (length net.devices) some in
          let parts : ((may_pass found.0 && list_any (λ l. may_cross l && joins net l d found.0) (link_numbers net)) ≡ true)
          × (joined_within net may_pass may_cross n found.0 x ≡ true) =
          and_parts (may_pass found.0 && list_any (λ l. may_cross l && joins net l d found.0) (link_numbers net))
          (joined_within net may_pass may_cross n found.0 x) found.2 in
          let first : (may_pass found.0 ≡ true) × (list_any (λ l. may_cross l && joins net l d found.0) (link_numbers net) ≡ true) =
          and_parts (may_pass found.0) (list_any (λ l. may_cross l && joins net l d found.0) (link_numbers net)) parts.0 in
          let link = any_below (λ l. may_cross l && joins net l d found.0) (length net.links) first.1 in
          let crosses : (may_cross link.0 ≡ true) × (joins net link.0 d found.0 ≡ true) = and_parts (may_cross link.0) (joins net link.0 d found.0) link.2 in
          over link.0 link.1 crosses.0 crosses.1 first.0 (rest found.0 parts.1)
