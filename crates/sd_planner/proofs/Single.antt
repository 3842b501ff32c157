-- The greedy plan is one: two plans that are greedy from the same root are the same plan.
use Rattle.std.proofs.Common.{◌≡◌, ℕ, ◌+◌, ◌*◌, ◌≤◌, sym, ap, ◌∙◌, subst, arith}
use Rattle.sd_plan.specs.topo.Network.{Network, greatest_up}
use Rattle.sd_plan.specs.declared.Absent.{Absent}
use Rattle.sd_plan.specs.declared.Plan.{Plan}
use Rattle.sd_plan.proofs.Shared.{plan_of}
use Rattle.sd_checker.specs.check_root.Timing.{silence}
use Rattle.sd_planner.specs.Greedy.{IsGreedy, IsLeastWait}

-- a least wait is one
same_wait : (net : Network) (long x y : ℕ) → IsLeastWait net long x → IsLeastWait net long y → x ≡ y
same_wait net long x y a b = let below : x ≤ y = a.least y b.enough in let above : y ≤ x = b.least x a.enough in omega arith

-- plans with the same parts
same_parts : (p q : Plan) → p.root ≡ q.root → p.backup_root ≡ q.backup_root → p.wait_first ≡ q.wait_first → p.wait_second ≡ q.wait_second → p.wait ≡ q.wait
    → p.absent ≡ q.absent → p.rows ≡ q.rows → p ≡ q
same_parts p q root backup_root first second ordinary absent rows =
    ap (λ r. plan_of r p.backup_root p.wait_first p.wait_second p.wait p.absent p.rows) root
    ∙ ap (λ b. plan_of q.root b p.wait_first p.wait_second p.wait p.absent p.rows) backup_root
    ∙ ap (λ x. plan_of q.root q.backup_root x p.wait_second p.wait p.absent p.rows) first
    ∙ ap (λ x. plan_of q.root q.backup_root q.wait_first x p.wait p.absent p.rows) second
    ∙ ap (λ x. plan_of q.root q.backup_root q.wait_first q.wait_second x p.absent p.rows) ordinary
    ∙ ap (λ a. plan_of q.root q.backup_root q.wait_first q.wait_second q.wait a p.rows) absent
    ∙ ap (λ r. plan_of q.root q.backup_root q.wait_first q.wait_second q.wait q.absent r) rows

pub same_greedy : (net : Network) (root : ℕ) (absent : Absent) (p q : Plan) → IsGreedy net root absent p → IsGreedy net root absent q → p ≡ q
same_greedy net root absent p q a b =
    let first : p.wait_first ≡ q.wait_first = same_wait net _ p.wait_first q.wait_first a.first b.first in
    let second : p.wait_second ≡ q.wait_second = same_wait net _ p.wait_second q.wait_second a.second b.second in
    let long : ℕ → ℕ → ℕ = λ x y. greatest_up net x + greatest_up net y + 6 * (silence net + net.params.tick) in
    let ordinary : IsLeastWait net (long q.wait_first q.wait_second) p.wait =
    subst (λ (x : ℕ). IsLeastWait net (long q.wait_first x) p.wait) second
    (subst (λ (x : ℕ). IsLeastWait net (long x p.wait_second) p.wait) first a.ordinary) in
    same_parts p q (a.from_root ∙ sym b.from_root) (a.to_backup_root ∙ sym b.to_backup_root) first second (same_wait net _ p.wait q.wait ordinary b.ordinary)
    (a.leaves_out ∙ sym b.leaves_out) (a.rows ∙ sym b.rows)
