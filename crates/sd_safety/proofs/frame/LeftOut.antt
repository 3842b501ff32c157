-- C9 g at an event that changes neither who is up nor what failed, nor the commit and the staged plan: the members that are left out stay hit; and where all
-- were right since
-- some member had time to start, they still have it, or none is untouched any more.
use Rattle.std.specs.Prelude.{◌≡◌, ℕ, Bool, true, false, ◌&&◌, List, ◌∷◌, length, Option, refl, ◌⊎◌}
use Rattle.std.specs.List.{list_any, list_all}
use Rattle.std.proofs.Common.{◌∙◌, ap, sym, inl, inr}
use Rattle.std.proofs.lemmas.Bool.{and_parts, or_left, or_right, or_cases, both_ways}
use Rattle.sd_num.specs.Lists.{map_or}
use Rattle.sd_plan.specs.topo.Network.{device_numbers}
use Rattle.sd_plan.specs.declared.Plan.{Plan}
use Rattle.sd_plan.specs.Plans.{is_member}
use Rattle.sd_sched.specs.declared.Event.{Event}
use Rattle.sd_history.specs.World.{Setting, is_up, is_untouched, has_commit, staged, is_staged_member, plan_numbered}
use Rattle.sd_history.specs.Steps.{Step, seen_of}
use Rattle.sd_history.specs.Chronicle.{chronicle}
use Rattle.sd_history.proofs.flights.Places.{among_below}
use Rattle.sd_safety.specs.invariant.Eras.{era, plan_now, failed_now, hit}
use Rattle.sd_safety.specs.invariant.Clauses.{is_beginning, someone_untouched, begins_with, left_out_is_hit}
use Rattle.sd_safety.specs.invariant.Invariant.{Core, leaves_out_rightly}
use Rattle.sd_safety.specs.invariant.Guarded.{AreGuarded, IsSteady}
use Rattle.sd_safety.proofs.invariant.Prefix.{Passing, some_passing}
use Rattle.sd_safety.proofs.frame.Words.{plan_same, hit_same}
use Rattle.sd_safety.proofs.waits.LeastWaits.{timely_of}
use Rattle.sd_safety.proofs.waits.Beginning.{touched}
use Rattle.sd_safety.proofs.frame.Timely.{begins_before, first_era, late_after}

module _ (setting : Setting) (e : Event) (history : List Event) (fair : AreGuarded setting) (clean : IsSteady setting (e ∷ history))
    (core : Core setting (chronicle setting history))
    (eras : era (chronicle setting (e ∷ history)) ≡ era (chronicle setting history))
    (failures : failed_now (chronicle setting (e ∷ history)) ≡ failed_now (chronicle setting history))
    (commits : has_commit (seen_of (chronicle setting (e ∷ history))) ≡ has_commit (seen_of (chronicle setting history)))
    (staged_is : staged setting (seen_of (chronicle setting (e ∷ history))) ≡ staged setting (seen_of (chronicle setting history)))
    (ups : (d : ℕ) → is_up (seen_of (chronicle setting (e ∷ history))) d ≡ is_up (seen_of (chronicle setting history)) d)
    (untouched : (d : ℕ) → is_untouched (seen_of (chronicle setting (e ∷ history))) d ≡ is_untouched (seen_of (chronicle setting history)) d) where
  abbrev one : List Step
  one = chronicle setting history

  abbrev two : List Step
  two = chronicle setting (e ∷ history)

  plan : plan_now setting two ≡ plan_now setting one
  plan = plan_same setting one two eras

  staged_member : (d : ℕ) → is_staged_member setting (seen_of two) d ≡ is_staged_member setting (seen_of one) d
  staged_member d = ap (λ (o : Option Plan). map_or o false (λ p. is_member p d)) staged_is

  hits : (d : ℕ) → hit setting two d ≡ hit setting one d
  hits d = hit_same setting one two eras failures d

  left_out_same : (d : ℕ) → left_out_is_hit setting two d ≡ left_out_is_hit setting one d
  left_out_same d = rw (commits, hits d, staged_member d, ups d, plan) refl

  begins_same : is_beginning setting two ≡ true → is_beginning setting one ≡ true → (d : ℕ) → begins_with setting two d ≡ begins_with setting one d
  begins_same now then_ d =
      ap (λ b. b && is_beginning setting two) (ap (λ b. is_member (plan_numbered setting 1) d && b) (untouched d))
      ∙ ap (λ b. someone_untouched setting one d && b) (now ∙ sym then_)

  nobody_left : is_beginning setting two ≡ false → Passing (begins_with setting one) (device_numbers setting.net) → ⊥
  nobody_left over found =
      let d = found.one in
      let parts = and_parts (someone_untouched setting one d) (is_beginning setting one) found.passed in
      let who = and_parts (is_member (plan_numbered setting 1) d) (is_untouched (seen_of one) d) parts.0 in
      both_ways (is_untouched (seen_of two) d)
      (touched setting (e ∷ history) (timely_of setting (e ∷ history) fair clean) d (among_below (length setting.net.devices) d found.there) who.0
      (late_after setting two over (eras ∙ first_era setting one parts.1)))
      (untouched d ∙ who.1)

  pub left_out_kept : leaves_out_rightly setting two ≡ true
  left_out_kept =
      by_case (or_cases (list_all (left_out_is_hit setting one) ds) (list_any (begins_with setting one) ds) core.committed.left_out)
      (is_beginning setting two) refl
    where
      ds : List ℕ
      ds = device_numbers setting.net

      by_case : (list_all (left_out_is_hit setting one) ds ≡ true) ⊎ (list_any (begins_with setting one) ds ≡ true) → (b : Bool) → is_beginning setting two ≡ b
          → leaves_out_rightly setting two ≡ true
      by_case (inl all) b is =
          or_left (list_all (left_out_is_hit setting two) ds) (list_any (begins_with setting two) ds)
          (ap (λ (f : ℕ → Bool). list_all f ds) (λ i d. left_out_same d i) ∙ all)
      by_case (inr any) true is =
          or_right (list_all (left_out_is_hit setting two) ds) (list_any (begins_with setting two) ds)
          (ap (λ (f : ℕ → Bool). list_any f ds) (λ i d. begins_same is (begins_before setting e history clean eras is) d i) ∙ any)
      by_case (inr any) false is = absurd (nobody_left is (some_passing (begins_with setting one) ds any))
