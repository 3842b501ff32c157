-- From the invariant: no loop of live devices, and at most one that acts; before a commit, and from a commit to the closing.
use Rattle.std.specs.Prelude.{◌≡◌, ℕ, zero, suc, ◌+◌, ◌<◌, ◌≤◌, Bool, true, false, ◌&&◌, not, List, [], ◌∷◌, ◌++◌, length, filter, nat_eq, Some, None, refl, if◌then◌else◌}
use Rattle.std.proofs.Common.{arith, ◌∙◌, ap, sym, subst, length-append}
use Rattle.std.proofs.lemmas.Bool.{and_parts, and_from, eqb-true, false_from_ne_true}
use Rattle.std.proofs.lemmas.List.Elements.{filter-append}
use Rattle.sd_num.specs.Lists.{below, same_number, follow}
use Rattle.sd_plan.specs.topo.Network.{device_numbers}
use Rattle.sd_plan.specs.domain.Domains.{domains}
use Rattle.sd_plan.specs.Plans.{Fits, is_member, is_root, is_backup_root}
use Rattle.sd_plan.proofs.Rules.{KeepsRules, keeps_rules}
use Rattle.sd_checker.specs.check_loop.Loops.{HasNoCycle}
use Rattle.sd_safety.specs.invariant.Guarded.{IsGuarded}
use Rattle.sd_num.proofs.Shared.{same_number-some}
use Rattle.sd_sched.specs.declared.Event.{Event}
use Rattle.sd_history.specs.World.{Setting, is_up, has_commit, is_counted, joined_in_window}
use Rattle.sd_history.specs.Steps.{seen_of, acts_in}
use Rattle.sd_history.specs.Chronicle.{next_step, chronicle}
use Rattle.sd_history.specs.Lines.{counted_parent, is_on_loop, first_on_loop, roots}
use Rattle.sd_safety.specs.invariant.Eras.{plan_now, is_old, is_new, is_blank, is_ordinary, root_failed}
use Rattle.sd_safety.specs.invariant.Clauses.{staged_root, backup_root_acts}
use Rattle.sd_safety.specs.invariant.Invariant.{Invariant}
use Rattle.sd_safety.specs.invariant.Kept.{EachKeeps, InvariantIsSafe, AlwaysSafe}
use Rattle.sd_safety.proofs.invariant.Parts.{premises_of}
use Rattle.sd_history.proofs.Shared.{each_among}
use Rattle.sd_safety.proofs.invariant.Prefix.{Passing, some_passing}
use Rattle.sd_safety.proofs.invariant.Whole.{found_none, always_safe}
use Rattle.sd_safety.proofs.invariant.Cycles.{no_cycle}
use Rattle.sd_safety.proofs.invariant.Domains.{Holding, holding}
use Rattle.sd_safety.proofs.invariant.InForce.{in_force_too}
use Rattle.sd_safety.proofs.invariant.Sides.{implied, not_both, stands, root_stops, edge, backup_root_stops}
use Rattle.sd_safety.proofs.windows.Acting.{no_blank}

-- Loops

module _ (setting : Setting) (history : List Event) (inv : Invariant setting (chronicle setting history)) (held : Holding setting (chronicle setting history))
    (fits : Fits setting.net (plan_now setting (chronicle setting history)))
    (guarded : IsGuarded setting.net (plan_now setting (chronicle setting history))) where
  rules : KeepsRules setting.net (plan_now setting (chronicle setting history))
  rules = keeps_rules setting.net (plan_now setting (chronicle setting history)) guarded.structure

  -- following parents comes back to nobody
  pub comes_back_to_none : (n d : ℕ) → follow (counted_parent setting (chronicle setting history)) (suc n) d ≡ Some d → ⊥
  comes_back_to_none n d same =
      let plan = plan_now setting (chronicle setting history) in
      no_cycle (counted_parent setting (chronicle setting history)) plan (root_stops setting history inv) setting.net held.domain
      (edge setting history inv held)
      (each_among (HasNoCycle setting.net plan) (domains setting.net) held.domain guarded.loop held.among)
      (backup_root_stops setting history inv fits rules) n d same

  on_no_loop : (d : ℕ) → is_on_loop setting (chronicle setting history) d ≡ false
  on_no_loop d =
      false_from_ne_true (is_on_loop setting (chronicle setting history) d)
      (λ is.
      let found : Passing (λ n. same_number (follow (counted_parent setting (chronicle setting history)) (n + 1) d) d) (device_numbers setting.net) =
      some_passing _ (device_numbers setting.net) is in
      let next : found.one + 1 ≡ suc found.one = omega arith in
      comes_back_to_none found.one d
      (ap (λ k. follow (counted_parent setting (chronicle setting history)) k d) (sym next)
      ∙ same_number-some (follow (counted_parent setting (chronicle setting history)) (found.one + 1) d) d found.passed))

  pub no_loop : first_on_loop setting (chronicle setting history) ≡ None
  no_loop = found_none (is_on_loop setting (chronicle setting history)) (device_numbers setting.net) on_no_loop

-- Roots

none_filtered : (p : ℕ → Bool) (n : ℕ) → ((d : ℕ) → d < n → p d ≡ false) → filter p (below n) ≡ []
none_filtered p zero none = refl
none_filtered p (suc n) none =
    filter-append p (below n) (n ∷ [])
    ∙ ap (λ xs. xs ++ filter p (n ∷ [])) (none_filtered p n (λ d within. none d (omega (arith, within))))
    ∙ ap (λ b. if b then n ∷ [] else []) (none n (omega arith))

one_when : (p : ℕ → Bool) (c n : ℕ) (b : Bool) → p n ≡ b → ((d : ℕ) → p d ≡ true → d ≡ c) → length (filter p (below n)) ≤ 1
    → length (filter p (below n) ++ (if b then n ∷ [] else [])) ≤ 1
one_when p c n true is alone few =
    let empty : filter p (below n) ≡ [] =
    none_filtered p n
    (λ d within.
    false_from_ne_true (p d) (λ passed. let same : d ≡ c = alone d passed in let too : n ≡ c = alone n is in absurd (omega (arith, same, too, within)))) in
    subst (λ (xs : List ℕ). length (xs ++ n ∷ []) ≤ 1) (sym empty) (omega arith)
one_when p c n false is alone few = omega (arith, few, length-append (filter p (below n)) [])

-- at most one number passes a test that only one can pass
at_most_one : (p : ℕ → Bool) (c n : ℕ) → ((d : ℕ) → p d ≡ true → d ≡ c) → length (filter p (below n)) ≤ 1
at_most_one p c zero alone = omega arith
at_most_one p c (suc n) alone =
    subst (λ (xs : List ℕ). length xs ≤ 1) (sym (filter-append p (below n) (n ∷ []))) (one_when p c n (p n) refl alone (at_most_one p c n alone))

module _ (setting : Setting) (history : List Event) (inv : Invariant setting (chronicle setting history)) where
  -- who may act while there is no commit
  abbrev leader : Bool → ℕ
  leader failed = if failed then (plan_now setting (chronicle setting history)).backup_root else (plan_now setting (chronicle setting history)).root

  leads_when : (d : ℕ) (failed root backup : Bool) → root_failed setting (chronicle setting history) ≡ failed
      → is_root (plan_now setting (chronicle setting history)) d ≡ root
      → is_backup_root (plan_now setting (chronicle setting history)) d ≡ backup
      → is_old (chronicle setting history) d ≡ true → is_member (plan_now setting (chronicle setting history)) d ≡ true
      → acts_in (chronicle setting history) d ≡ true → d ≡ leader failed
  leads_when d true true backup failed root is old member acts =
      let same : d ≡ (plan_now setting (chronicle setting history)).root = sym (eqb-true (plan_now setting (chronicle setting history)).root d root) in
      absurd (not_both (not (is_old (chronicle setting history) d))
      (subst (λ e. not (is_old (chronicle setting history) e) ≡ true) (sym same)
      (implied (root_failed setting (chronicle setting history)) _ inv.core.roles.failed_root failed)) (ap not old))
  leads_when d false true backup failed root is old member acts = sym (eqb-true (plan_now setting (chronicle setting history)).root d root)
  leads_when d true false true failed root is old member acts = sym (eqb-true (plan_now setting (chronicle setting history)).backup_root d is)
  leads_when d false false true failed root is old member acts =
      let same : d ≡ (plan_now setting (chronicle setting history)).backup_root =
      sym (eqb-true (plan_now setting (chronicle setting history)).backup_root d is) in
      absurd (not_both (root_failed setting (chronicle setting history))
      (implied (backup_root_acts setting (chronicle setting history)) (root_failed setting (chronicle setting history)) inv.core.causes.takeover
      (subst (λ e. acts_in (chronicle setting history) e ≡ true) same acts)) failed)
  leads_when d failed false false is_failed root is old member acts =
      absurd (not_both (not (acts_in (chronicle setting history) d))
      (implied (is_old (chronicle setting history) d && is_ordinary (plan_now setting (chronicle setting history)) d) _ (inv.core.roles.ordinary d)
      (and_from (is_old (chronicle setting history) d) (is_ordinary (plan_now setting (chronicle setting history)) d) old
      (and_from (is_member (plan_now setting (chronicle setting history)) d && not (is_root (plan_now setting (chronicle setting history)) d))
      (not (is_backup_root (plan_now setting (chronicle setting history)) d))
      (and_from (is_member (plan_now setting (chronicle setting history)) d) (not (is_root (plan_now setting (chronicle setting history)) d)) member
      (ap not root)) (ap not is)))) (ap not acts))

  leads : (d : ℕ) → has_commit (seen_of (chronicle setting history)) ≡ false → is_counted setting (seen_of (chronicle setting history)) d ≡ true
      → acts_in (chronicle setting history) d ≡ true
      → d ≡ leader (root_failed setting (chronicle setting history))
  leads d none counted acts =
      let steps = chronicle setting history in
      let not_new : is_new steps d ≡ false =
      false_from_ne_true (is_new steps d)
      (λ new. not_both (not (is_new steps d)) (implied (not (has_commit (seen_of steps))) _ (inv.core.uncommitted.devices d) (ap not none)) (ap not new)) in
      let not_blank : is_blank steps d ≡ false = no_blank (is_blank steps d) _ (acts_in steps d) (inv.core.census.blanks d) acts in
      let both =
      stands (is_up (seen_of steps) d) (is_member (plan_now setting steps) d) (joined_in_window (seen_of steps) d) (is_old steps d) (is_new steps d)
      (is_blank steps d)
      counted (inv.core.census.current d) not_new not_blank (inv.core.census.outsiders d) in
      leads_when d (root_failed setting steps) (is_root (plan_now setting steps) d)
      (is_backup_root (plan_now setting steps) d) refl refl refl both.0 both.1 acts

  commits_when : (d : ℕ) (b : Bool) → nat_eq d (staged_root setting (chronicle setting history)) ≡ b
      → (if b then acts_in (chronicle setting history) d else not (acts_in (chronicle setting history) d)) ≡ true → acts_in (chronicle setting history) d ≡ true
      → d ≡ staged_root setting (chronicle setting history)
  commits_when d true is clause acts = eqb-true d (staged_root setting (chronicle setting history)) is
  commits_when d false is clause acts = absurd (not_both (not (acts_in (chronicle setting history) d)) clause (ap not acts))

  commits : (d : ℕ) → has_commit (seen_of (chronicle setting history)) ≡ true → is_counted setting (seen_of (chronicle setting history)) d ≡ true
      → acts_in (chronicle setting history) d ≡ true
      → d ≡ staged_root setting (chronicle setting history)
  commits d commit counted acts =
      let steps = chronicle setting history in
      commits_when d (nat_eq d (staged_root setting steps)) refl
      (implied (has_commit (seen_of steps) && is_counted setting (seen_of steps) d) _ (inv.core.committed.acting d)
      (and_from (has_commit (seen_of steps)) (is_counted setting (seen_of steps) d) commit counted)) acts

  roots_when : (c : Bool) → has_commit (seen_of (chronicle setting history)) ≡ c → length (roots setting (chronicle setting history)) ≤ 1
  roots_when true is =
      at_most_one (λ d. is_counted setting (seen_of (chronicle setting history)) d && acts_in (chronicle setting history) d)
      (staged_root setting (chronicle setting history)) (length setting.net.devices)
      (λ d both. let parts = and_parts (is_counted setting (seen_of (chronicle setting history)) d) (acts_in (chronicle setting history) d) both in
      commits d is parts.0 parts.1)
  roots_when false is =
      at_most_one (λ d. is_counted setting (seen_of (chronicle setting history)) d && acts_in (chronicle setting history) d)
      (leader (root_failed setting (chronicle setting history))) (length setting.net.devices)
      (λ d both. let parts = and_parts (is_counted setting (seen_of (chronicle setting history)) d) (acts_in (chronicle setting history) d) both in
      leads d is parts.0 parts.1)

  pub one_root : length (roots setting (chronicle setting history)) ≤ 1
  one_root = roots_when (has_commit (seen_of (chronicle setting history))) refl

-- All

pub invariant_is_safe : (setting : Setting) → InvariantIsSafe setting
invariant_is_safe setting e history fair clean inv =
    let all : List Event = e ∷ history in
    let held : Holding setting (chronicle setting all) =
    holding setting (next_step setting (chronicle setting history) e) (chronicle setting history)
    (premises_of setting (seen_of (chronicle setting all)) clean.premises).domain in
    record {
      loop =
          no_loop setting all inv held (in_force_too (Fits setting.net) setting all fair.fit fair.some_plan clean.is)
          (in_force_too (IsGuarded setting.net) setting all fair.guarded fair.some_plan clean.is);
      root = one_root setting all inv;
    }

-- where each kind of event keeps the invariant, every steady history is safe
pub safe : (setting : Setting) → EachKeeps setting → AlwaysSafe setting
safe setting keeps = always_safe keeps (invariant_is_safe setting)
