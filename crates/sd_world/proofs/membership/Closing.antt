-- The window can close by what is kept exactly where it can by the words on histories.
use Rattle.std.specs.Prelude.{◌≡◌, ℕ, ◌<◌, Bool, true, false, ◌&&◌, List, length, filter, nat_eq, nat_le, Option, Some, None, is_some, option_map, refl}
use Rattle.std.specs.List.{list_all, list_any}
use Rattle.std.proofs.Common.{sym, ◌∙◌, ap}
use Rattle.sd_num.specs.Lists.{map_or, below}
use Rattle.sd_plan.specs.declared.Plan.{Plan}
use Rattle.sd_plan.specs.Plans.{is_member, members}
use Rattle.sd_sched.specs.Events.{is_commit}
use Rattle.sd_history.specs.World.{Setting, Seen, is_up, window, window_is_open, has_commit, staged, staged_epoch, plan_numbered}
use Rattle.sd_history.specs.Steps.{Answers, Step, seen_of, live_answers, has_settled, can_close}
use Rattle.sd_history.proofs.Among.{Among}
use Rattle.sd_history.proofs.Filters.{kept_alike, both_tests, kept_among, all_alike}
use Rattle.sd_history.proofs.flights.Places.{among_below}
use Rattle.sd_world.specs.world.Registers.{is_committed}
use Rattle.sd_world.specs.declared.membership.AnswerSummary.{AnswerSummary}
use Rattle.sd_world.specs.membership.Memberships.{Registers, staged_number, is_in_staged, is_present, has_settled_at, can_close_in}
use Rattle.sd_world.specs.membership.Standing.{Stands, summary}
use Rattle.sd_world.proofs.membership.Queries.{at_device, live_is, staged_number_is, staged_when, in_staged_is}

-- Counts

-- Who is present, and who has settled

settled_by : (epoch : ℕ) (o : Option Answers)
    → map_or (option_map summary o) false (λ (a : AnswerSummary). nat_eq a.epoch epoch && a.sealed) ≡ map_or o false (λ a. nat_eq a.epoch epoch && a.sealed)
settled_by epoch None = refl
settled_by epoch (Some a) = refl

module _ (r : Registers) (setting : Setting) (steps : List Step) (stands : Stands r setting steps) where
  abbrev seen : List Seen
  seen = seen_of steps

  abbrev devices : ℕ
  devices = length setting.net.devices

  abbrev next_plan : Plan
  next_plan = plan_numbered setting (staged_epoch seen)

  -- the members of the staged plan that are up
  abbrev present : List ℕ
  present = filter (is_up seen) (members setting.net next_plan)

  -- what is asked of them
  abbrev closes : List ℕ → Bool
  closes here = nat_le 1 (length here) && list_all (has_settled steps (staged_epoch seen)) here

  among_present : (d : ℕ) → Among d present → d < devices
  among_present d a = among_below devices d (kept_among (is_member next_plan) (below devices) d (kept_among (is_up seen) (members setting.net next_plan) d a))

  settled_is : (d : ℕ) → d < devices → has_settled_at r d ≡ has_settled steps (staged_epoch seen) d
  settled_is d within =
      ap (λ o. map_or o false (λ (x : AnswerSummary). nat_eq x.epoch (staged_number r) && x.sealed)) (live_is r setting steps stands d within)
      ∙ settled_by (staged_number r) (live_answers steps d)
      ∙ ap (λ n. has_settled steps n d) (staged_number_is r setting steps stands)

  module _ (open_ : window_is_open seen ≡ true) where
    present_is : (d : ℕ) → Among d (below devices) → is_present r d ≡ (is_up seen d && is_member next_plan d)
    present_is d a =
        let within : d < devices = among_below devices d a in
        ap (λ b. b && is_in_staged r d) (at_device r setting steps stands d within).up
        ∙ ap (λ b. is_up seen d && b)
        (in_staged_is r setting steps stands d within ∙ ap (λ o. map_or o false (λ plan. is_member plan d)) (staged_when r setting steps stands open_))

    present_are : filter (is_present r) (below (length r.answers)) ≡ present
    present_are =
        ap (λ n. filter (is_present r) (below n)) stands.device_count
        ∙ kept_alike (is_present r) (λ d. is_up seen d && is_member next_plan d) (below devices) present_is
        ∙ sym (both_tests (is_up seen) (is_member next_plan) (below devices))

    -- what is asked of them by what is kept
    asked_alike : (is_committed r.world.window && nat_le 1 (length (filter (is_present r) (below (length r.answers))))
        && list_all (has_settled_at r) (filter (is_present r) (below (length r.answers))))
        ≡ (has_commit seen && closes present)
    asked_alike =
        ap (λ here. is_committed r.world.window && nat_le 1 (length here) && list_all (has_settled_at r) here) present_are
        ∙ ap (λ b. is_committed r.world.window && nat_le 1 (length present) && b)
        (all_alike (has_settled_at r) (has_settled steps (staged_epoch seen)) present (λ d a. settled_is d (among_present d a)))
        ∙ ap (λ b. b && nat_le 1 (length present) && list_all (has_settled steps (staged_epoch seen)) present) stands.world.commit
        ∙ grouped (has_commit seen) (nat_le 1 (length present)) (list_all (has_settled steps (staged_epoch seen)) present)
      where
        grouped : (a b c : Bool) → (a && b && c) ≡ (a && (b && c))
        grouped true b c = refl
        grouped false b c = refl

  -- the window can close
  pub can_close_is : can_close_in r ≡ can_close setting steps
  can_close_is = by (window seen) refl
    where
      by : (w : Option (List Seen)) → window seen ≡ w → can_close_in r ≡ can_close setting steps
      by None none =
          let never : has_commit seen ≡ false = ap (λ w. map_or w false (list_any (λ (s : Seen). is_commit s.event))) none in
          ap (λ b. b && nat_le 1 (length (filter (is_present r) (below (length r.answers))))
          && list_all (has_settled_at r) (filter (is_present r) (below (length r.answers)))) (stands.world.commit ∙ never)
          ∙ sym (ap (λ b. b && map_or (staged setting seen) false (λ plan. closes (filter (is_up seen) (members setting.net plan)))) never)
      by (Some x) some =
          let open_ : window_is_open seen ≡ true = ap is_some some in
          asked_alike open_
          ∙ sym (ap (λ o. has_commit seen && map_or o false (λ plan. closes (filter (is_up seen) (members setting.net plan))))
          (staged_when r setting steps stands open_))
