-- C9 d as the clause of the invariant: a receipt keeps it, and a commit brings it about. And the record of C10 at a closing.
use Rattle.std.specs.Prelude.{◌≡◌, ℕ, ◌+◌, ◌<◌, ◌≤◌, Bool, true, false, ◌&&◌, not, List, ◌∷◌, nat_eq, Option, Some, None, refl}
use Rattle.std.proofs.Common.{arith, ◌∙◌, ap, sym}
use Rattle.std.proofs.lemmas.Bool.{and_parts, and_from, eqb-true, eq-eqb, not-true}
use Rattle.sd_num.specs.Lists.{map_or, same_number, below, follow}
use Rattle.sd_plan.specs.declared.Plan.{Plan}
use Rattle.sd_plan.specs.Plans.{is_root}
use Rattle.sd_plan.proofs.Rules.{keeps_rules}
use Rattle.sd_safety.specs.invariant.Guarded.{IsGuarded, AreGuarded, IsSteady}
use Rattle.sd_num.proofs.Shared.{unequal_swap}
use Rattle.sd_sched.specs.declared.Event.{Event}
use Rattle.sd_sched.specs.declared.Event.TheVariants as event
use Rattle.sd_history.specs.World.{Setting, is_up, has_commit, window_is_open, staged_epoch, plan_numbered}
use Rattle.sd_history.specs.Steps.{Step, seen_of, parent_in, epoch_in}
use Rattle.sd_history.specs.Chronicle.{next_step, chronicle}
use Rattle.sd_history.specs.Admitted.{IsAdmitted}
use Rattle.sd_history.proofs.Shared.{among_below}
use Rattle.sd_history.proofs.Among.{any_passing}
use Rattle.sd_safety.specs.invariant.Bounds.{depth}
use Rattle.sd_safety.specs.invariant.Eras.{era, is_new, on_primary}
use Rattle.sd_safety.specs.invariant.Clauses.{new_is_linked, leads_to_root, staged_root, just_closed}
use Rattle.sd_safety.specs.invariant.Invariant.{IsClosed}
use Rattle.sd_safety.proofs.invariant.Sides.{implied, not_both}
use Rattle.sd_safety.specs.windows.Standing.{HasEntered}
use Rattle.sd_safety.proofs.windows.NoneBeforeCommit.{epoch_within}
use Rattle.sd_safety.proofs.windows.Frames.{staged_epoch_on, epoch_on}
use Rattle.sd_safety.proofs.windows.Acting.{not_new}
use Rattle.sd_safety.proofs.windows.Committing.{staged_plan, staged_some, staged_too, AtCommit, commit_asks, open_, others}
use Rattle.sd_safety.proofs.windows.Closing.{commit_is_open, epoch_up, members_begin, root_begins_, links_begin}
use Rattle.sd_safety.proofs.windows.StaysNew.{reached}
use Rattle.sd_safety.proofs.windows.Leading.{IsLinked, leads}
use Rattle.sd_safety.proofs.windows.Receiving.{linked_now}
use Rattle.sd_safety.proofs.invariant.Opening.{gives}

some_parent : (steps : List Step) (x : ℕ) (o : Option ℕ) → parent_in steps x ≡ o → on_primary steps x ≡ true → map_or o false (is_new steps) ≡ true
    → IsLinked steps x
some_parent steps x None is primary new = cc
some_parent steps x (Some y) is primary new = record { primary = primary; parent = y; leads = is; new = new }

module _ (setting : Setting) (history : List Event) (clean : IsAdmitted setting history) where
  -- where a device is new the window has its commit
  pub new_opens : (x : ℕ) → is_new (chronicle setting history) x ≡ true → window_is_open (seen_of (chronicle setting history)) ≡ true
  new_opens x new =
      commit_is_open (seen_of (chronicle setting history))
      (reached (has_commit (seen_of (chronicle setting history))) (era (chronicle setting history))
      (epoch_within setting history clean x (staged_epoch (seen_of (chronicle setting history))) new))

  root_is : (x : ℕ) → is_new (chronicle setting history) x ≡ true
      → staged_root setting (chronicle setting history) ≡ (staged_plan setting (chronicle setting history)).root
  root_is x new = ap (λ o. map_or o 0 (λ (plan : Plan). plan.root)) (staged_some setting (chronicle setting history) (new_opens x new))

  -- from the clause
  pub linked_of : (x : ℕ) → new_is_linked setting (chronicle setting history) x ≡ true → is_new (chronicle setting history) x ≡ true
      → is_root (staged_plan setting (chronicle setting history)) x ≡ false → IsLinked (chronicle setting history) x
  linked_of x clause new other =
      let apart : nat_eq x (staged_root setting (chronicle setting history)) ≡ false =
      ap (nat_eq x) (root_is x new) ∙ unequal_swap (staged_plan setting (chronicle setting history)).root x other in
      let all = and_parts (on_primary (chronicle setting history) x
      && map_or (parent_in (chronicle setting history) x) false (is_new (chronicle setting history))) (leads_to_root setting (chronicle setting history) x)
      (implied (is_new (chronicle setting history) x && not (nat_eq x (staged_root setting (chronicle setting history)))) _ clause
      (and_from (is_new (chronicle setting history) x) _ new (ap not apart))) in
      let both = and_parts (on_primary (chronicle setting history) x)
      (map_or (parent_in (chronicle setting history) x) false (is_new (chronicle setting history))) all.0 in
      some_parent (chronicle setting history) x (parent_in (chronicle setting history) x) refl both.0 both.1

  -- and to it
  module _ (fair : AreGuarded setting) (each : (x : ℕ) → is_new (chronicle setting history) x ≡ true
      → is_root (staged_plan setting (chronicle setting history)) x ≡ false → IsLinked (chronicle setting history) x) where
    pub clause_of : (x : ℕ) → new_is_linked setting (chronicle setting history) x ≡ true
    clause_of x = gives (is_new (chronicle setting history) x && not (nat_eq x (staged_root setting (chronicle setting history)))) _ shown
      where
        shown : (is_new (chronicle setting history) x && not (nat_eq x (staged_root setting (chronicle setting history)))) ≡ true
            → (on_primary (chronicle setting history) x && map_or (parent_in (chronicle setting history) x) false (is_new (chronicle setting history))
            && leads_to_root setting (chronicle setting history) x) ≡ true
        shown both =
            let parts = and_parts (is_new (chronicle setting history) x) (not (nat_eq x (staged_root setting (chronicle setting history)))) both in
            let root = root_is x parts.0 in
            let other : is_root (staged_plan setting (chronicle setting history)) x ≡ false =
            unequal_swap x (staged_plan setting (chronicle setting history)).root
            (sym (ap (nat_eq x) root) ∙ not-true (nat_eq x (staged_root setting (chronicle setting history))) parts.1) in
            let of : IsLinked (chronicle setting history) x = each x parts.0 other in
            let guarded : IsGuarded setting.net (staged_plan setting (chronicle setting history)) =
            staged_too (IsGuarded setting.net) setting history fair.guarded clean (new_opens x parts.0) in
            let led = leads setting history each (keeps_rules setting.net (staged_plan setting (chronicle setting history)) guarded.structure) clean x parts.0
            other in
            and_from (on_primary (chronicle setting history) x && map_or (parent_in (chronicle setting history) x) false (is_new (chronicle setting history)))
            _
            (and_from (on_primary (chronicle setting history) x) _ of.primary
            (ap (λ o. map_or o false (is_new (chronicle setting history))) of.leads ∙ of.new))
            (any_passing (λ k. same_number (follow (parent_in (chronicle setting history)) k x) (staged_root setting (chronicle setting history))) led.steps
            (below (depth setting.net + 1)) (among_below (depth setting.net + 1) led.steps (less led.steps (depth setting.net) led.few))
            (ap (λ o. same_number o (staged_root setting (chronicle setting history))) led.led
            ∙ eq-eqb (staged_plan setting (chronicle setting history)).root (staged_root setting (chronicle setting history)) (sym root)))
          where
            less : (a b : ℕ) → a ≤ b → a < b + 1
            less a b le = omega (arith, le)

-- C9 d at a receipt
pub receipt_keeps_linked : (setting : Setting) (r d c n : ℕ) (history : List Event) → AreGuarded setting → IsSteady setting (event.Recv r d c n ∷ history)
    → ((x : ℕ) → is_up (seen_of (chronicle setting history)) x ≡ true → new_is_linked setting (chronicle setting history) x ≡ true)
    → (x : ℕ) → new_is_linked setting (chronicle setting (event.Recv r d c n ∷ history)) x ≡ true
receipt_keeps_linked setting r d c n history fair clean before =
    clause_of setting (event.Recv r d c n ∷ history) clean.is fair
    (linked_now setting r d c n history fair clean
    (λ y new other. linked_of setting history clean.is.0 y
    (before y (epoch_up (chronicle setting history) y (staged_epoch (seen_of (chronicle setting history))) new)) new other))

-- C9 d at a commit: nobody but the root is new
pub commit_links : (setting : Setting) (r d c : ℕ) (history : List Event) → AreGuarded setting → IsSteady setting (event.Commit r d c ∷ history) → (x : ℕ)
    → new_is_linked setting (chronicle setting (event.Commit r d c ∷ history)) x ≡ true
commit_links setting r d c history fair clean =
    clause_of setting (event.Commit r d c ∷ history) clean.is fair by
  where
    asks : AtCommit setting (chronicle setting history) d
    asks = commit_asks setting r d c history fair clean

    same : staged_epoch (seen_of (chronicle setting (event.Commit r d c ∷ history))) ≡ staged_epoch (seen_of (chronicle setting history))
    same = staged_epoch_on setting (next_step setting (chronicle setting history) (event.Commit r d c)) (chronicle setting history)
        (open_ setting r d c history fair clean)

    by : (x : ℕ) → is_new (chronicle setting (event.Commit r d c ∷ history)) x ≡ true
        → is_root (staged_plan setting (chronicle setting (event.Commit r d c ∷ history))) x ≡ false
        → IsLinked (chronicle setting (event.Commit r d c ∷ history)) x
    by x new other = go (nat_eq d x) refl
      where
        go : (b : Bool) → nat_eq d x ≡ b → IsLinked (chronicle setting (event.Commit r d c ∷ history)) x
        go true here =
            absurd (not_both (is_root (staged_plan setting (chronicle setting history)) x) (eq-eqb _ _ (asks.root ∙ eqb-true d x here))
            (sym (ap (λ k. is_root (plan_numbered setting k) x) same) ∙ other))
        go false apart =
            absurd
            (not_both (is_new (chronicle setting history) x)
            (ap (same_number (epoch_in (chronicle setting history) x)) (sym same)
            ∙ sym (ap (λ o. same_number o (staged_epoch (seen_of (chronicle setting (event.Commit r d c ∷ history)))))
            (epoch_on (next_step setting (chronicle setting history) (event.Commit r d c)) (chronicle setting history) x
            (others setting r d c history fair clean x apart)))
            ∙ new)
            (not_new setting history x clean.is.0 asks.first_one))

-- C10 at a closing
pub closing_begins : (setting : Setting) (r d : ℕ) (history : List Event) → AreGuarded setting → IsSteady setting (event.Seal r d ∷ history)
    → just_closed (chronicle setting (event.Seal r d ∷ history)) ≡ true → HasEntered setting (chronicle setting history) r
    → IsClosed setting (chronicle setting (event.Seal r d ∷ history))
closing_begins setting r d history fair clean closed has =
    record {
      members = members_begin setting r d history fair clean closed has;
      root = root_begins_ setting r d history fair clean closed has;
      links = links_begin setting r d history fair clean closed has;
    }
