-- Steps that agree go on agreeing where an event comes at which like things are told.
use Rattle.std.specs.Prelude.{◌≡◌, ℕ, Bool, true, false, ◌&&◌, ◌||◌, not, List, ◌∷◌, length, map, filter, nat_eq, nat_le, Option, Some, None, option_map, refl, if◌then◌else◌}
use Rattle.std.specs.List.{list_all}
use Rattle.std.proofs.Common.{◌∙◌, ap}
use Rattle.sd_num.specs.Lists.{map_or, same_number}
use Rattle.sd_plan.specs.topo.Network.{Network}
use Rattle.sd_plan.specs.declared.Plan.{Plan}
use Rattle.sd_plan.specs.Plans.{members}
use Rattle.sd_device.specs.declared.msg.Flight.{Flight}
use Rattle.sd_sched.specs.declared.Event.{Event}
use Rattle.sd_sched.specs.declared.Event.TheVariants as event
use Rattle.sd_sched.specs.Events.{reference_of, device_of}
use Rattle.sd_history.specs.World.{Setting, setting_over, Seen, makes, is_up, window_is_open, has_commit, staged_epoch, staged}
use Rattle.sd_history.specs.Steps.{Told, Step, seen_of, changed, has_settled, flights_of, act_by, can_close, taken_by, acted_by, epoch_in, first_step, has_turned, activated_by, step_of}
use Rattle.sd_resume.specs.law.Shifts.{Shift, raised_epoch, raised_flight, raised_event}
use Rattle.sd_resume.specs.law.Agreement.{raised_told, StepsAgree}
use Rattle.sd_resume.specs.law.Law.{whole, NamesSome}
use Rattle.sd_resume.proofs.law.Words.{same_words}
use Rattle.sd_resume.proofs.law.Plans.{staged_raised, staged_same, open_same, commit_same}
use Rattle.sd_resume.proofs.law.Steps.{StepAgrees, steps_agree_after}
use Rattle.sd_resume.proofs.law.Acts.{all_same, filter_same, reaching_raised, act_same, taken_same, acted_same, flights_of_raised, epoch_of_same, settled_same}

-- an event that makes a device changes it
pub makes_changes : (setting : Setting) (steps : List Step) (e : Event) (d : ℕ) → makes d e ≡ true → same_number (changed (act_by setting steps e)) d ≡ true
makes_changes setting steps (event.Start reference device counter clock eps) d made = go (nat_eq device d) made
  where
    go : (b : Bool) → (b || false) ≡ true → b ≡ true
    go true is = refl
    go false is = cc
makes_changes setting steps (event.Join reference device counter clock eps) d made = made
makes_changes setting steps _ d made = cc

-- the members of a plan that are up are of it and sealed, and there is one
abbrev is_settled : Network → List Step → Plan → Bool
is_settled net steps plan =
    let present = filter (is_up (seen_of steps)) (members net plan) in
    nat_le 1 (length present) && list_all (has_settled steps (staged_epoch (seen_of steps))) present

-- what is seen of an event
abbrev seen_with : Event → Option Flight → List Flight → Option ℕ → (acted closed : Bool) → Seen
seen_with e taken sent activated acted closed = record { event = e; taken = taken; sent = sent; activated = activated; acted = acted; closed = closed }

module _ (shift : Shift) (net : Network) (front plans : List Plan) (behind : shift.plans ≡ length front) (one other : List Step)
    (agree : StepsAgree shift one other) where
  settled_alike : (plan : Plan) → is_settled net one plan ≡ is_settled net other plan
  settled_alike plan =
      ap (λ xs. nat_le 1 (length xs) && list_all (has_settled one (staged_epoch (seen_of one))) xs)
      (filter_same (is_up (seen_of one)) (is_up (seen_of other)) agree.seen.up (members net plan))
      ∙ ap (λ n. nat_le 1 (length present) && list_all (has_settled one n) present)
      (staged_raised shift net front plans behind (seen_of one) (seen_of other) agree.seen)
      ∙ ap (λ b. nat_le 1 (length present) && b)
      (all_same (has_settled one (raised_epoch shift (staged_epoch (seen_of other)))) (has_settled other (staged_epoch (seen_of other)))
      (λ d. settled_same shift one other agree d (staged_epoch (seen_of other))) present)
    where
      present : List ℕ
      present = filter (is_up (seen_of other)) (members net plan)

  -- the window closes alike
  closes_same : can_close (whole net front plans) one ≡ can_close (setting_over net plans) other
  closes_same =
      ap (λ b. b && map_or (staged (whole net front plans) (seen_of one)) false (is_settled net one))
      (commit_same shift net front plans behind (seen_of one) (seen_of other) agree.seen)
      ∙ ap (λ s. has_commit (seen_of other) && map_or s false (is_settled net one))
      (staged_same shift net front plans behind (seen_of one) (seen_of other) agree.seen)
      ∙ ap (λ b. has_commit (seen_of other) && b) (go (staged (setting_over net plans) (seen_of other)))
    where
      go : (s : Option Plan) → map_or s false (is_settled net one) ≡ map_or s false (is_settled net other)
      go None = refl
      go (Some plan) = settled_alike plan

module _ (shift : Shift) (net : Network) (front plans : List Plan) (behind : shift.plans ≡ length front) (one other : List Step)
    (agree : StepsAgree shift one other) where
  module _ (e : Event) (some : NamesSome e) (told : Told) where
    abbrev first_one : Step
    first_one = first_step (whole net front plans) one (raised_event shift e) (raised_told shift told)

    abbrev first_other : Step
    first_other = first_step (setting_over net plans) other e told

    sent_same : first_one.sent ≡ map (raised_flight shift) first_other.sent
    sent_same =
        ap (λ w. flights_of (whole net front plans) one w.reference (act_by (whole net front plans) one (raised_event shift e)) (raised_told shift told))
        (same_words shift e)
        ∙ ap (λ a. flights_of (whole net front plans) one (reference_of e) a (raised_told shift told)) (act_same shift net front plans behind one other agree e some)
        ∙ flights_of_raised shift net front plans behind one other agree (reference_of e) (act_by (setting_over net plans) other e) told

    first_agrees : StepAgrees shift first_one first_other
    first_agrees =
        record {
          seen =
              ap (λ t. seen_with (raised_event shift e) t (filter (λ f. f.reaches) first_one.sent) None (acted_by one (raised_event shift e)) false)
              (taken_same shift net front plans behind one other agree e some)
              ∙ ap (λ fs. seen_with (raised_event shift e) (option_map (raised_flight shift) (taken_by other e)) fs None (acted_by one (raised_event shift e)) false)
              (ap (filter (λ f. f.reaches)) sent_same ∙ reaching_raised shift first_other.sent)
              ∙ ap (λ a. seen_with (raised_event shift e) (option_map (raised_flight shift) (taken_by other e))
              (map (raised_flight shift) (filter (λ f. f.reaches) first_other.sent)) None a false)
              (acted_same shift net front plans behind one other agree e);
          act = act_same shift net front plans behind one other agree e some;
          told = refl;
          sent = sent_same;
        }

    first_steps : StepsAgree shift (first_one ∷ one) (first_other ∷ other)
    first_steps = steps_agree_after shift first_one first_other one other first_agrees agree (makes_changes (setting_over net plans) other e)

    turned_same : (d : ℕ) → has_turned one first_one d ≡ has_turned other first_other d
    turned_same d =
        ap (λ b. b && same_number (epoch_in (first_one ∷ one) d) (staged_epoch (seen_of one)) && not (same_number (epoch_in one d) (staged_epoch (seen_of one))))
        (open_same shift net front plans behind (seen_of one) (seen_of other) agree.seen)
        ∙ ap (λ n. window_is_open (seen_of other) && same_number (epoch_in (first_one ∷ one) d) n && not (same_number (epoch_in one d) n))
        (staged_raised shift net front plans behind (seen_of one) (seen_of other) agree.seen)
        ∙ ap (λ b. window_is_open (seen_of other) && b && not (same_number (epoch_in one d) (raised_epoch shift (staged_epoch (seen_of other)))))
        (epoch_of_same shift (first_one ∷ one) (first_other ∷ other) first_steps d (staged_epoch (seen_of other)))
        ∙ ap (λ b. window_is_open (seen_of other) && same_number (epoch_in (first_other ∷ other) d) (staged_epoch (seen_of other)) && not b)
        (epoch_of_same shift one other agree d (staged_epoch (seen_of other)))

    activated_same : activated_by one first_one ≡ activated_by other first_other
    activated_same = ap (λ w. map_or w.device None (λ d. if has_turned one first_one d then Some d else None)) (same_words shift e) ∙ go (device_of e)
      where
        go : (o : Option ℕ)
            → map_or o None (λ d. if has_turned one first_one d then Some d else None) ≡ map_or o None (λ d. if has_turned other first_other d then Some d else None)
        go None = refl
        go (Some d) = ap (λ b. if b then Some d else None) (turned_same d)

    pub step_agrees : StepAgrees shift (step_of (whole net front plans) one (raised_event shift e) (raised_told shift told)) (step_of (setting_over net plans) other e told)
    step_agrees =
        record {
          seen =
              ap (λ s. seen_with s.event s.taken s.sent (activated_by one first_one) s.acted (can_close (whole net front plans) (first_one ∷ one))) first_agrees.seen
              ∙ ap (λ a. seen_with (raised_event shift e) (option_map (raised_flight shift) first_other.seen.taken)
              (map (raised_flight shift) first_other.seen.sent) a first_other.seen.acted (can_close (whole net front plans) (first_one ∷ one))) activated_same
              ∙ ap (λ c. seen_with (raised_event shift e) (option_map (raised_flight shift) first_other.seen.taken)
              (map (raised_flight shift) first_other.seen.sent) (activated_by other first_other) first_other.seen.acted c) (closes_same shift net front plans behind (first_one ∷ one) (first_other ∷ other) first_steps);
          act = first_agrees.act;
          told = refl;
          sent = sent_same;
        }

    -- the steps with this one agree
    pub agree_after : StepsAgree shift (step_of (whole net front plans) one (raised_event shift e) (raised_told shift told) ∷ one) (step_of (setting_over net plans) other e told ∷ other)
    agree_after = steps_agree_after shift (step_of (whole net front plans) one (raised_event shift e) (raised_told shift told)) (step_of (setting_over net plans) other e told) one other step_agrees agree (makes_changes (setting_over net plans) other e)
