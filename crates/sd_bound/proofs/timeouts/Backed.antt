-- Who has moved had a wait to move after: so an ordinary device that has moved has a backup. By induction on the steps.
use Rattle.std.specs.Prelude.{◌≡◌, ℕ, ◌-◌, Bool, true, false, not, List, [], ◌∷◌, nat_eq, nat_le, Option, Some, None, is_some, option_map, option_and_then, refl, if◌then◌else◌}
use Rattle.std.proofs.Common.{ap, sym, ◌∙◌, subst}
use Rattle.sd_num.specs.Lists.{map_or}
use Rattle.sd_plan.specs.topo.Network.{Network}
use Rattle.sd_plan.specs.declared.Duty.{Duty}
use Rattle.sd_plan.specs.declared.Hop.{Hop}
use Rattle.sd_plan.specs.declared.Plan.{Plan}
use Rattle.sd_plan.specs.Duties.{duty_of, edge_of}
use Rattle.sd_plan.specs.Plans.{is_root, is_backup_root, has_backup, backup_of}
use Rattle.sd_device.specs.Calls.{Past}
use Rattle.sd_device.specs.Words.{after, duty_now, has_moved, heard, is_sealed, may_move, wait_to_move}
use Rattle.sd_history.specs.Steps.{Act, Makes, Calls, Asks, Passes, Step}
use Rattle.sd_history.specs.Chronicle.{new_past, past_after, past_in}
use Rattle.sd_history.proofs.Given.{some_is}
use Rattle.sd_safety.proofs.timers.Transitions.{Cases, by_case}
use Rattle.sd_device.proofs.Reached.{added}
use Rattle.sd_safety.proofs.timers.NotEarly.{last_of_four}

abbrev HasWait : Past → Type 0
HasWait past = has_moved past ≡ true → is_some (option_and_then wait_to_move (duty_now past)) ≡ true

waits_by : (o : Option ℕ) (test : ℕ → Bool) → map_or o false test ≡ true → is_some o ≡ true
waits_by None test h = cc
waits_by (Some wait) test h = refl

after_waits : (past : Past) → HasWait past → Cases past (λ call transition. HasWait (added past call transition))
after_waits past has =
    record {
      emitted = λ c e. has;
      took = λ c e t. has;
      moved = λ c e t m put.
          waits_by (option_and_then wait_to_move (duty_now past)) (λ wait. nat_le wait (c - heard past))
          (last_of_four (may_move past) (not (has_moved past)) (is_sealed past)
          (map_or (option_and_then wait_to_move (duty_now past)) false (λ wait. nat_le wait (c - heard past))) m);
      still = λ c e t m. has;
      entered = λ link message c duty edge put. cc;
      accepted = λ link message c edge. has;
      committed = λ c duty a put. cc;
      recommitted = λ c duty a put. cc;
      nothing = λ call n. has;
    }

by_act : (act : Act) (d : ℕ) (p : Option Past) (past : Past) → ((q : Past) → p ≡ Some q → HasWait q) → past_after act d p ≡ Some past → HasWait past
by_act (Makes m making) d p past before is = go (nat_eq m d) is
  where
    go : (b : Bool) → (if b then Some (new_past making) else p) ≡ Some past → HasWait past
    go true same = subst HasWait (some_is same) (λ put. cc)
    go false same = before past same
by_act (Calls m call) d p past before is = go (nat_eq m d) p refl is
  where
    go : (b : Bool) (q : Option Past) → p ≡ q → (if b then option_map (λ z. after z call) q else q) ≡ Some past → HasWait past
    go true None there same = cc
    go true (Some z) there same =
        subst HasWait (some_is same) (by_case z (λ c transition. HasWait (added z c transition)) (after_waits z (before z there)) call)
    go false q there same = before past (there ∙ same)
by_act (Asks m counter) d p past before is = before past is
by_act Passes d p past before is = before past is

moved_waits : (steps : List Step) (d : ℕ) (past : Past) → past_in steps d ≡ Some past → HasWait past
moved_waits [] d past is = cc
moved_waits (s ∷ earlier) d past is = by_act s.act d (past_in earlier d) past (λ q there. moved_waits earlier d q there) is

-- the wait of an ordinary duty tells a backup
ordinary_backed : (net : Network) (plan : Plan) (n y : ℕ) → is_root plan y ≡ false → is_backup_root plan y ≡ false
    → is_some (wait_to_move (duty_of net plan n y)) ≡ true → has_backup plan y ≡ true
ordinary_backed net plan n y root backup waits = by (backup_of plan y) (rw (root, backup) at waits)
  where
    by : (o : Option Hop) → is_some (if is_some (option_map (edge_of net y) o) then Some plan.wait else None) ≡ true → map_or o false (λ hop. true) ≡ true
    by None h = cc
    by (Some hop) h = refl

pub moved_backed : (steps : List Step) (net : Network) (plan : Plan) (n y : ℕ) (past : Past) → past_in steps y ≡ Some past
    → duty_now past ≡ Some (duty_of net plan n y) → is_root plan y ≡ false → is_backup_root plan y ≡ false
    → has_moved past ≡ true → has_backup plan y ≡ true
moved_backed steps net plan n y past there duty root backup put =
    ordinary_backed net plan n y root backup (sym (ap (λ (o : Option Duty). is_some (option_and_then wait_to_move o)) duty)
    ∙ moved_waits steps y past there put)
