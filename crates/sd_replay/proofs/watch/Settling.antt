-- What is settled of a device is settled of those that lead to it.
use Rattle.std.specs.Prelude.{◌≡◌, ℕ, zero, suc, ◌≤◌, ◌<◌, List, length, Option, Some, None, slice_get}
use Rattle.std.proofs.Common.{refl, sym, ap, ◌∙◌, arith, subst, inl, inr}
use Rattle.std.proofs.lemmas.Bool.{cases_lt}
use Rattle.std.proofs.lemmas.Option.{same_Some, slice_get_within, none-some}
use Rattle.sd_num.specs.Lists.{map_or, follow}
use Rattle.sd_num.proofs.Shared.{follow_first}
use Rattle.sd_replay.specs.watch.Watch.{parent_in}
use Rattle.sd_replay.specs.watch.Settled.{NoneBefore, IsSettled}
use Rattle.sd_replay.proofs.watch.Following.{one_more, before_last, has_parent, on_the_way}

-- only devices below the length of a list have a parent in it
pub only_within : (parents : List (Option ℕ)) (d p : ℕ) → parent_in parents d ≡ Some p → d < length parents
only_within parents d p follows = by (slice_get parents d) refl follows
  where
    by : (o : Option (Option ℕ)) → slice_get parents d ≡ o → map_or o None (λ parent. parent) ≡ Some p → d < length parents
    by None is follows = cc
    by (Some entry) is follows = slice_get_within parents d entry is

module _ (parent : ℕ → Option ℕ) (first : Option ℕ) where
  -- a device that has no parent
  pub settled_end : (d : ℕ) → parent d ≡ None → IsSettled parent first d
  settled_end d none e leads loop = by leads.steps leads.there
    where
      by : (n : ℕ) → follow parent n d ≡ Some e → NoneBefore first e
      by zero at = let next = has_parent parent e loop in absurd (none-some next.0 (sym none ∙ ap parent (same_Some d e at) ∙ next.1))
      by (suc n) at = let next = on_the_way parent n 1 (suc n) d e (omega arith) at in absurd (none-some next.0 (sym none ∙ next.1))

  -- a device whose parent is settled
  pub settled_child : (d x : ℕ) → parent d ≡ Some x → IsSettled parent first x → IsSettled parent first d
  settled_child d x follows settled e leads loop = by leads.steps leads.there
    where
      by : (n : ℕ) → follow parent n d ≡ Some e → NoneBefore first e
      by zero at =
          let same : d ≡ e = same_Some d e at in
          let follows' : parent e ≡ Some x = ap parent (sym same) ∙ follows in
          settled e (record { steps = loop.steps; there = sym (follow_first parent loop.steps e x follows') ∙ loop.back }) loop
      by (suc n) at = settled e (record { steps = n; there = sym (follow_first parent n d x follows) ∙ at }) loop

  -- a device that leads to one that is settled
  pub settled_leading : (n d x : ℕ) → follow parent n d ≡ Some x → IsSettled parent first x → IsSettled parent first d
  settled_leading zero d x at settled = subst (λ y. IsSettled parent first y) (sym (same_Some d x at)) settled
  settled_leading (suc n) d x at settled =
      let last = before_last parent n d x at in
      settled_leading n d last.0 last.1 (settled_child last.0 x last.2 settled)

  -- a device that comes back, of which the first that was found is no greater than each device up to there
  pub settled_round : (least : ℕ) → first ≡ Some least → (k d : ℕ) → follow parent (suc k) d ≡ Some d
      → ((j e : ℕ) → j ≤ k → follow parent j d ≡ Some e → least ≤ e) → IsSettled parent first d
  settled_round least is k d back above e leads loop =
      let passed = among leads.steps e leads.there in
      subst (λ o. NoneBefore o e) (sym is) (above passed.0 e passed.1 passed.2)
    where
      among : (m x : ℕ) → follow parent m d ≡ Some x → (j : ℕ) × (j ≤ k) × (follow parent j d ≡ Some x)
      among zero x at = (0, omega arith, at)
      among (suc m) x at =
          let last = before_last parent m d x at in
          let earlier = among m last.0 last.1 in
          elim (cases_lt earlier.0 k) [
            | inl more ↦ (suc earlier.0, omega arith, one_more parent earlier.0 d last.0 earlier.2 ∙ last.2)
            | inr all ↦ (let same : k ≡ earlier.0 = omega (arith, earlier.1) in
                let again : Some x ≡ Some d = sym last.2 ∙ sym (one_more parent earlier.0 d last.0 earlier.2) ∙ ap (λ j. follow parent (suc j) d) (sym same)
                ∙ back in
                (0, omega arith, sym again))
          ]

-- the parent of a device stands at its place
pub entry_there : (parents : List (Option ℕ)) (d p : ℕ) → parent_in parents d ≡ Some p → slice_get parents d ≡ Some (Some p)
entry_there parents d p follows = by (slice_get parents d) refl follows
  where
    by : (o : Option (Option ℕ)) → slice_get parents d ≡ o → map_or o None (λ parent. parent) ≡ Some p → slice_get parents d ≡ Some (Some p)
    by None is follows = cc
    by (Some entry) is follows = is ∙ ap (λ e. Some e) follows
