-- The settled_count: of devices one after the other, of one of them, and when all have settled.
use Rattle.std.specs.Prelude.{◌≡◌, ℕ, ◌+◌, ◌<◌, ◌≤◌, ◌^◌, Bool, true, false, ◌&&◌, length, filter, count_by, cond, nat_eq, nat_le, Option, Some, None, IfSome, refl}
use Rattle.std.specs.List.{list_all}
use Rattle.std.proofs.Common.{ap, ◌∙◌, sym, subst, arith}
use Rattle.std.proofs.lemmas.List.Sums.{length-filter}
use Rattle.sd_num.specs.Lists.{below}
use Rattle.sd_world.specs.world.Registers.{is_committed}
use Rattle.sd_world.specs.declared.membership.settled_count.SettledCount.{SettledCount}
use Rattle.sd_world.specs.membership.Memberships.{Registers, IsSound, is_present, has_settled_at, can_close_in}
use Rattle.sd_world.specs.membership.Counts.{add_counts, is_settled, count_at, count_named, count_below, settled_count_of}
use Rattle.sd_world.proofs.membership.Counting.{one_of_all, count_bound, all_pass}

abbrev counts : ℕ → ℕ → SettledCount
counts present settled = record { present = present; settled = settled }

-- equal in both counts
pub same_settled_count : (a b : SettledCount) → a.present ≡ b.present → a.settled ≡ b.settled → a ≡ b
same_settled_count a b present settled = ap (λ (n : ℕ). counts n a.settled) present ∙ ap (λ (n : ℕ). counts b.present n) settled

one_most : (b : Bool) → cond b 1 0 ≤ 1
one_most true = omega arith
one_most false = omega arith

-- the counts have room
pub room_below : (r : Registers) (d : ℕ) → IsSound r → d < length r.answers
    → ((count_below r d).present + (count_at r d).present < 2 ^ 32) × ((count_below r d).settled + (count_at r d).settled < 2 ^ 32)
room_below r d sound within =
    let few : length r.answers ≤ 4096 = sound.few in (
      (let a = count_bound (is_present r) d in let b = one_most (is_present r d) in omega arith),
      (let a = count_bound (is_settled r) d in let b = one_most (is_settled r d) in omega arith),
    )

-- the named device counts for no more than all
pub named_low : (r : Registers) (device : Option ℕ) → IfSome device (λ d. d < length r.answers)
    → ((count_named r device).present ≤ (settled_count_of r).present) × ((count_named r device).settled ≤ (settled_count_of r).settled)
named_low r None within = (omega arith, omega arith)
named_low r (Some d) within = (one_of_all (is_present r) (length r.answers) d within, one_of_all (is_settled r) (length r.answers) d within)

-- no count exceeds the number of devices
pub settled_count_most : (r : Registers) → ((settled_count_of r).present ≤ length r.answers) × ((settled_count_of r).settled ≤ length r.answers)
settled_count_most r = (count_bound (is_present r) (length r.answers), count_bound (is_settled r) (length r.answers))

-- nor do the counts of the others
pub others_most : (r : Registers) (device : Option ℕ) (others : SettledCount) → add_counts others (count_named r device) ≡ settled_count_of r
    → (others.present ≤ length r.answers) × (others.settled ≤ length r.answers)
others_most r device others whole =
    let most = settled_count_most r in (
      no_more others.present (count_named r device).present (settled_count_of r).present (length r.answers) (ap (λ (c : SettledCount). c.present) whole) most.0,
      no_more others.settled (count_named r device).settled (settled_count_of r).settled (length r.answers) (ap (λ (c : SettledCount). c.settled) whole) most.1,
    )
  where
    no_more : (a b c n : ℕ) → a + b ≡ c → c ≤ n → a ≤ n
    no_more a b c n sums most = omega arith

regroup : (a b c : Bool) → (a && (b && c)) ≡ ((a && b) && c)
regroup true b c = refl
regroup false b c = refl

-- a settled count tells whether the window can close
pub closes : (r : Registers) (settled_count : SettledCount) → settled_count ≡ settled_count_of r
    → (is_committed r.world.window && (nat_le 1 settled_count.present && nat_eq settled_count.settled settled_count.present)) ≡ can_close_in r
closes r settled_count counted =
    subst (λ (c : SettledCount). (is_committed r.world.window && (nat_le 1 c.present && nat_eq c.settled c.present)) ≡ can_close_in r) (sym counted)
    (ap (λ (b : Bool). is_committed r.world.window && (nat_le 1 (count_by (is_present r) (below (length r.answers))) && b))
    (all_pass (is_present r) (has_settled_at r) (below (length r.answers)))
    ∙ ap (λ (n : ℕ). is_committed r.world.window && (nat_le 1 n && list_all (has_settled_at r) (filter (is_present r) (below (length r.answers)))))
    (sym (length-filter (is_present r) (below (length r.answers))))
    ∙ regroup (is_committed r.world.window) (nat_le 1 (length (filter (is_present r) (below (length r.answers)))))
    (list_all (has_settled_at r) (filter (is_present r) (below (length r.answers)))))
