-- Who is fed: by the device itself, or by where it turns.
use Rattle.std.specs.Prelude.{◌≡◌, ℕ, Bool, true, false, not, Decides, Option, Some, None, if◌then◌else◌}
use Rattle.std.proofs.Common.{refl, sym, ◌∙◌, subst, inl, inr}
use Rattle.std.proofs.lemmas.Bool.{and_parts, or_cases, or_left, or_right, eqb-true, eq-eqb, both_ways, cond-false, not-true, not_from_false}
use Rattle.sd_plan.specs.topo.Network.{Network}
use Rattle.sd_plan.specs.domain.Domains.{holds_device}
use Rattle.sd_plan.specs.declared.domain.DomainId.{DomainId}
use Rattle.sd_plan.specs.declared.Hop.{Hop}
use Rattle.sd_plan.specs.declared.Plan.{Plan}
use Rattle.sd_plan.specs.Plans.{is_member, is_root, is_backup_root}
use Rattle.sd_plan.specs.Walks.{ends_walks, is_hit}
use Rattle.sd_checker.specs.check_reach.Reach.{Fed, acts, stands_by, spared, turns, is_sound, acting_end, next_hop}
use Rattle.sd_checker.proofs.Shared.{backup_root_ends}
use Rattle.sd_drill.specs.recovery.Feeding.{IsFedOver}
use Rattle.sd_drill.specs.recovery.Hops.{hops_at, next_of}

pub sound_of : {net : Network} {plan : Plan} {f : DomainId} {d : ℕ} → Fed net plan f d → is_sound net plan f d ≡ true
sound_of (acts sound equal) = sound
sound_of (stands_by sound equal) = sound
sound_of (spared sound free) = sound
sound_of (turns hop sound hit next link parent fed) = sound

acting_ends : (net : Network) (plan : Plan) (f : DomainId) → ends_walks plan (acting_end net plan f) ≡ true
acting_ends net plan f = by (holds_device net f plan.root)
  where
    by : (lost : Bool) → ends_walks plan (if lost then plan.backup_root else plan.root) ≡ true
    by true = or_right (is_root plan plan.backup_root) (is_backup_root plan plan.backup_root) (eq-eqb plan.backup_root plan.backup_root refl)
    by false = or_left (is_root plan plan.root) (is_backup_root plan plan.root) (eq-eqb plan.root plan.root refl)

-- a device that is hit, and at which no walk ends, is fed where it turns
fed_over : {net : Network} {plan : Plan} {f : DomainId} {d : ℕ} → Fed net plan f d → is_hit net plan f d ≡ true → ends_walks plan d ≡ false
    → IsFedOver net plan f (next_hop plan d)
fed_over {net} {plan} {f} {d} (acts sound equal) hit other =
    absurd (both_ways (ends_walks plan d) other (subst (λ (x : ℕ). ends_walks plan x ≡ true) (sym equal) (acting_ends net plan f)))
fed_over {net} {plan} {f} {d} (stands_by sound equal) hit other = absurd (both_ways (ends_walks plan d) other (backup_root_ends plan d equal))
fed_over {net} {plan} {f} {d} (spared sound free) hit other = absurd (both_ways (is_hit net plan f d) (not-true (is_hit net plan f d) free) hit)
fed_over {net} {plan} {f} {d} (turns hop sound is_hit next link parent fed) hit other =
    subst (λ (o : Option Hop). IsFedOver net plan f o) (sym next) (link, parent, fed)

module _ (net : Network) (plan : Plan) (f : DomainId) (d : ℕ) where
  -- what is not sound is not fed
  pub decides_unsound : is_sound net plan f d ≡ false → Decides false (Fed net plan f d)
  decides_unsound off = (wrong, λ fed. absurd (both_ways (is_sound net plan f d) off (sound_of fed)))
    where
      wrong : false ≡ true → Fed net plan f d
      wrong same = cc

  -- an end is fed, and so is what is not hit
  pub decides_end : is_sound net plan f d ≡ true → ends_walks plan d ≡ true → Decides true (Fed net plan f d)
  decides_end sound ends = (λ _. is, λ _. refl)
    where
      out : holds_device net f d ≡ false
      out = not-true (holds_device net f d) (and_parts (is_member plan d) (not (holds_device net f d)) sound).1

      at_root : plan.root ≡ d → d ≡ acting_end net plan f
      at_root same =
          sym same ∙ sym (cond-false (holds_device net f plan.root) plan.backup_root plan.root (subst (λ (x : ℕ). holds_device net f x ≡ false) (sym same) out))

      is : Fed net plan f d
      is = elim (or_cases (is_root plan d) (is_backup_root plan d) ends) [
        | inl root ↦ acts sound (at_root (eqb-true plan.root d root))
        | inr backup ↦ stands_by sound (sym (eqb-true plan.backup_root d backup))
      ]

  pub decides_spared : is_sound net plan f d ≡ true → is_hit net plan f d ≡ false → Decides true (Fed net plan f d)
  decides_spared sound free = (λ _. spared sound (not_from_false (is_hit net plan f d) free), λ _. refl)

  turned : (next : Option Hop) → next_hop plan d ≡ next → is_sound net plan f d ≡ true → is_hit net plan f d ≡ true → IsFedOver net plan f next
      → Fed net plan f d
  turned None is sound hit over = absurd over
  turned (Some hop) is sound hit over = turns hop sound hit is over.0 over.1 over.2

  pub decides_turned : (fed : Bool) (next : Option Hop) → next_hop plan d ≡ next → is_sound net plan f d ≡ true → ends_walks plan d ≡ false
      → is_hit net plan f d ≡ true
      → Decides fed (IsFedOver net plan f next) → Decides fed (Fed net plan f d)
  decides_turned fed next is sound other hit tells =
      (λ yes. turned next is sound hit (tells.0 yes), λ heard. tells.1 (subst (λ (o : Option Hop). IsFedOver net plan f o) is (fed_over heard hit other)))

  -- where a device turns that is hit
  pub next_is : ends_walks plan d ≡ false → is_hit net plan f d ≡ true → next_hop plan d ≡ next_of (hops_at net plan f d)
  unfolding hops_at
  next_is other hit = rw (other, hit) refl
