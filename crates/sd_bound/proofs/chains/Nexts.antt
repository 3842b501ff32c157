-- Where a device goes that comes to hear again: the domain has neither its next hop nor its primary hop where it does not hit it, and that leads to a device
-- that
-- comes to hear again too.
use Rattle.std.specs.Prelude.{◌≡◌, ℕ, ◌<◌, Bool, true, false, ◌||◌, not, length, Some, None, refl, if◌then◌else◌}
use Rattle.std.specs.Option.{option_or}
use Rattle.std.proofs.Common.{ap, sym, ◌∙◌, subst}
use Rattle.std.proofs.lemmas.Bool.{and_from, not-true, eqb-true, eq-eqb, or_from}
use Rattle.sd_plan.specs.topo.Network.{Network}
use Rattle.sd_plan.specs.domain.Domains.{holds_device, holds_link}
use Rattle.sd_plan.specs.declared.domain.DomainId.{DomainId}
use Rattle.sd_plan.specs.declared.Hop.{Hop}
use Rattle.sd_plan.specs.declared.Plan.{Plan}
use Rattle.sd_plan.specs.Plans.{is_member, is_root, is_backup_root, primary_of, backup_of}
use Rattle.sd_plan.specs.Walks.{is_hit}
use Rattle.sd_checker.specs.check_reach.Reach.{Fed, acts, stands_by, spared, turns, acting_end, next_hop}
use Rattle.sd_history.proofs.Given.{some_is}
use Rattle.sd_safety.proofs.invariant.Facts.{IsSound}
use Rattle.sd_safety.proofs.invariant.Sides.{not_both}
use Rattle.sd_bound.specs.timeouts.Settled.{hop_on}
use Rattle.sd_bound.proofs.traces.Sounding.{IsPlanned, planned_hop}
use Rattle.sd_bound.proofs.chains.Cuts.{FollowsUnhit, follows_unhit}

pub record IsNextFed (net : Network) (plan : Plan) (f : DomainId) (hop : Hop) : Type 0 where
  pub link : holds_link net f hop.link ≡ false
  pub parent : holds_device net f hop.parent ≡ false
  pub fed : Fed net plan f hop.parent

-- a sound device that is the root, the backup root, or not hit
fed_by_role : (net : Network) (plan : Plan) (f : DomainId) (z : ℕ) → is_member plan z ≡ true → holds_device net f z ≡ false
    → ((is_root plan z || is_backup_root plan z) ≡ false → is_hit net plan f z ≡ false) → (r b : Bool) → is_root plan z ≡ r → is_backup_root plan z ≡ b
    → Fed net plan f z
fed_by_role net plan f z member kept unhit true b root backup =
    let same : plan.root ≡ z = eqb-true plan.root z root in
    acts (and_from (is_member plan z) (not (holds_device net f z)) member (ap not kept))
    (sym (ap (λ c. if c then plan.backup_root else plan.root) (subst (λ k. holds_device net f k ≡ false) (sym same) kept) ∙ same))
fed_by_role net plan f z member kept unhit false true root backup =
    stands_by (and_from (is_member plan z) (not (holds_device net f z)) member (ap not kept)) (sym (eqb-true plan.backup_root z backup))
fed_by_role net plan f z member kept unhit false false root backup =
    spared (and_from (is_member plan z) (not (holds_device net f z)) member (ap not kept))
    (ap not (unhit (or_from (is_root plan z) (is_backup_root plan z) root backup)))

not_end : (net : Network) (plan : Plan) (f : DomainId) (y : ℕ) → is_root plan y ≡ false → is_backup_root plan y ≡ false → y ≡ acting_end net plan f → ⊥
not_end net plan f y root backup same = go (holds_device net f plan.root) same
  where
    go : (b : Bool) → y ≡ (if b then plan.backup_root else plan.root) → ⊥
    go true is = not_both (is_backup_root plan y) (ap (λ z. is_backup_root plan z) is ∙ eq-eqb plan.backup_root plan.backup_root refl) backup
    go false is = not_both (is_root plan y) (ap (λ z. is_root plan z) is ∙ eq-eqb plan.root plan.root refl) root

-- the next hop is the backup, or the primary where there is none
next_is : (plan : Plan) (y : ℕ) (put : Bool) (hop : Hop) → hop_on plan put y ≡ Some hop → (put ≡ false → backup_of plan y ≡ None) → next_hop plan y ≡ Some hop
next_is plan y true hop is none = ap (λ o. option_or o (primary_of plan y)) is
next_is plan y false hop is none = ap (λ o. option_or o (primary_of plan y)) (none refl) ∙ is

pub next_fed : (net : Network) (plan : Plan) → IsSound net plan → (f : DomainId) (y : ℕ) → y < length net.devices → is_root plan y ≡ false
    → is_backup_root plan y ≡ false → (put : Bool) (hop : Hop) → hop_on plan put y ≡ Some hop
    → (put ≡ true → is_hit net plan f y ≡ true) → (put ≡ false → backup_of plan y ≡ None) → Fed net plan f y → IsNextFed net plan f hop
next_fed net plan fine f y known root backup put hop is hit none (acts sound same) = absurd (not_end net plan f y root backup same)
next_fed net plan fine f y known root backup put hop is hit none (stands_by sound same) =
    absurd (not_both (is_backup_root plan y) (ap (λ z. is_backup_root plan z) same ∙ eq-eqb plan.backup_root plan.backup_root refl) backup)
next_fed net plan fine f y known root backup true hop is hit none (spared sound free) =
    absurd (not_both (is_hit net plan f y) (hit refl) (not-true (is_hit net plan f y) free))
next_fed net plan fine f y known root backup false hop is hit none (spared sound free) =
    let u : FollowsUnhit net plan f hop = follows_unhit net plan fine f y hop known is (not-true (is_hit net plan f y) free) in
    let p : IsPlanned net plan y hop = planned_hop net plan fine y known false hop is in
    record {
      link = u.link;
      parent = u.parent;
      fed = fed_by_role net plan f hop.parent p.member u.parent u.unhit (is_root plan hop.parent) (is_backup_root plan hop.parent) refl refl;
    }
next_fed net plan fine f y known root backup put hop is hit none (turns hop' sound hits next link parent fed) =
    let same : hop' ≡ hop = some_is (sym next ∙ next_is plan y put hop is none) in
    subst (λ h. IsNextFed net plan f h) same
    (record { link = not-true (holds_link net f hop'.link) link; parent = not-true (holds_device net f hop'.parent) parent; fed = fed })
