-- A device that is old and not hit, or is the backup root, is after a commit a member of the staged plan: who is left out is hit, and ordinary; or all have
-- still time to start.
use Rattle.std.specs.Prelude.{◌≡◌, ℕ, ◌<◌, ◌≤◌, Bool, true, false, ◌&&◌, ◌||◌, not, List, ◌∷◌, length, refl, ◌⊎◌}
use Rattle.std.specs.List.{list_any, list_all}
use Rattle.std.proofs.Common.{arith, ◌∙◌, inl, inr}
use Rattle.std.proofs.lemmas.Bool.{and_parts, or_cases, leb-true}
use Rattle.sd_plan.specs.topo.Network.{device_numbers}
use Rattle.sd_plan.specs.Plans.{is_member}
use Rattle.sd_sched.specs.declared.Event.{Event}
use Rattle.sd_sched.specs.Events.{reference_of}
use Rattle.sd_history.specs.World.{Setting, is_up, has_commit, is_untouched, is_staged_member, plan_numbered}
use Rattle.sd_history.specs.Steps.{Step, seen_of}
use Rattle.sd_history.specs.Chronicle.{chronicle, next_step}
use Rattle.sd_history.proofs.Among.{passes}
use Rattle.sd_history.proofs.Known.{admitted_up_is_known}
use Rattle.sd_history.proofs.flights.Places.{among_below as among_less}
use Rattle.sd_history.proofs.Shared.{among_below}
use Rattle.sd_safety.specs.invariant.Eras.{plan_now, all_started, is_ordinary, hit}
use Rattle.sd_safety.specs.invariant.Clauses.{is_beginning, left_out_is_hit, someone_untouched, begins_with}
use Rattle.sd_safety.specs.invariant.Invariant.{Invariant}
use Rattle.sd_safety.specs.invariant.Coming.{IsNextEvent}
use Rattle.sd_safety.proofs.invariant.Sides.{implied}
use Rattle.sd_safety.proofs.waits.LeastWaits.{starts_in_time}
use Rattle.sd_safety.proofs.waits.Standing.{now, times}
use Rattle.sd_safety.proofs.windows.Committing.{staged_plan}
use Rattle.sd_safety.proofs.entering.States as states
use Rattle.sd_safety.proofs.invariant.Prefix.{Passing, some_passing}

-- who is not left out is in
in_by : (hc up m sm bad : Bool) → (not (hc && up && m && not sm) || bad) ≡ true → hc ≡ true → up ≡ true → m ≡ true → bad ≡ false → sm ≡ true
in_by true true true true bad clause a b c d = refl
in_by true true true false true clause a b c d = cc
in_by true true true false false clause a b c d = cc
in_by true true false sm bad clause a b c d = cc
in_by true false m sm bad clause a b c d = cc
in_by false up m sm bad clause a b c d = cc

module _ (setting : Setting) (x : Event) (h : List Event) (e : Event) (comes : IsNextEvent setting (x ∷ h) e)
    (late : all_started setting (chronicle setting (x ∷ h)) < reference_of e) where
  abbrev steps : List Step
  steps = chronicle setting (x ∷ h)

  -- all had time to start
  none_begins : (y : ℕ) → y < length setting.net.devices → begins_with setting (chronicle setting (x ∷ h)) y ≡ true → ⊥
  none_begins y known begins =
      let parts = and_parts (someone_untouched setting steps y) (is_beginning setting steps) begins in
      let some = and_parts (is_member (plan_numbered setting 1) y) (is_untouched (seen_of steps) y) parts.0 in
      let in_time =
      starts_in_time setting (next_step setting steps e).seen (seen_of steps) y known some.0 (and_parts _ _ (times setting x h e comes).ticks).1 in
      let le : reference_of e ≤ all_started setting steps =
      leb-true (reference_of e) (all_started setting steps) (implied (is_untouched (seen_of steps) y) _ in_time some.1) in
      absurd (omega (arith, le, late))

  pub is_staged : (d : ℕ) → has_commit (seen_of (chronicle setting (x ∷ h))) ≡ true → is_up (seen_of (chronicle setting (x ∷ h))) d ≡ true
      → is_member (plan_now setting (chronicle setting (x ∷ h))) d ≡ true
      → (hit setting (chronicle setting (x ∷ h)) d && is_ordinary (plan_now setting (chronicle setting (x ∷ h))) d) ≡ false
      → is_member (staged_plan setting (chronicle setting (x ∷ h))) d ≡ true
  is_staged d commit up member spared = states.staged_member setting (x ∷ h) e comes commit d
      ∙ by (or_cases (list_all (left_out_is_hit setting steps) (device_numbers setting.net))
      (list_any (begins_with setting steps) (device_numbers setting.net)) inv.core.committed.left_out)
    where
      inv : Invariant setting (chronicle setting (x ∷ h))
      inv = now setting x h e comes

      known : d < length setting.net.devices
      known = admitted_up_is_known setting (x ∷ h) comes.clean.is.0 d up

      by : (list_all (left_out_is_hit setting (chronicle setting (x ∷ h))) (device_numbers setting.net) ≡ true)
          ⊎ (list_any (begins_with setting (chronicle setting (x ∷ h))) (device_numbers setting.net) ≡ true)
          → is_staged_member setting (seen_of (chronicle setting (x ∷ h))) d ≡ true
      by (inl all) =
          in_by (has_commit (seen_of steps)) (is_up (seen_of steps) d) (is_member (plan_now setting steps) d) (is_staged_member setting (seen_of steps) d)
          (hit setting steps d && is_ordinary (plan_now setting steps) d)
          (passes (left_out_is_hit setting steps) (among_below (length setting.net.devices) d known) all) commit up member spared
      by (inr some) =
          let p : Passing (begins_with setting steps) (device_numbers setting.net) =
          some_passing (begins_with setting steps) (device_numbers setting.net) some in
          absurd (none_begins p.one (among_less (length setting.net.devices) p.one p.there) p.passed)
