-- The steps of a chronicle: which of them are elsewhere of a device, and which are plain; and that after a plain step the world is alike, and each
-- device from which the step is elsewhere. By the kinds of events.
use Rattle.std.specs.Prelude.{◌≡◌, ℕ, false, ◌||◌, List, ◌∷◌, nat_eq, Option, Some, None, is_some, refl}
use Rattle.std.proofs.Common.{◌∙◌, ap, sym}
use Rattle.sd_num.specs.Lists.{map_or, same_number}
use Rattle.sd_plan.specs.declared.topo.Thing.{Thing}
use Rattle.sd_plan.specs.declared.topo.Thing.TheVariants as thing
use Rattle.sd_plan.specs.declared.Plan.{Plan}
use Rattle.sd_plan.specs.Duties.{duty_of}
use Rattle.sd_num.proofs.Shared.{unequal_swap}
use Rattle.sd_device.specs.declared.msg.Flight.{Flight}
use Rattle.sd_device.specs.Calls as calls
use Rattle.sd_device.specs.Calls.{Past}
use Rattle.sd_sched.specs.declared.Event.{Event}
use Rattle.sd_sched.specs.declared.Event.TheVariants as event
use Rattle.sd_sched.specs.Events.{device_of}
use Rattle.sd_history.specs.World.{Setting, is_thing, staged, staged_epoch}
use Rattle.sd_history.specs.Steps.{Passes, Calls, Step, seen_of, changed, flight_numbered}
use Rattle.sd_history.specs.Chronicle.{next_step}
use Rattle.sd_safety.specs.frame.Frames.{IsElsewhere, IsPlain, IsAlike, IsAlikeAt}
use Rattle.sd_safety.proofs.frame.ElsewhereSteps.{up_alone, parent_alone, acts_alone, epoch_alone, live_past_alone, moved_alone}
use Rattle.sd_safety.proofs.frame.PlainSteps.{era_kept, failed_kept, commit_kept, joined_kept, has_failed_kept, untouched_kept}

changed_receipt : (d x c : ℕ) (o : Option Flight) → nat_eq d x ≡ false
    → same_number (changed (map_or o Passes (λ f. Calls d (calls.Receive f.link f.message c)))) x ≡ false
changed_receipt d x c None other = refl
changed_receipt d x c (Some f) other = other

changed_give : (setting : Setting) (epoch d x : ℕ) (o : Option Plan) → nat_eq d x ≡ false
    → same_number (changed (map_or o Passes (λ plan. Calls d (calls.Give (duty_of setting.net plan epoch d))))) x ≡ false
changed_give setting epoch d x None other = refl
changed_give setting epoch d x (Some plan) other = other

-- an event that does not name the device leaves it alone
pub elsewhere : (setting : Setting) (steps : List Step) (e : Event) (d : ℕ) → same_number (device_of e) d ≡ false → IsElsewhere (next_step setting steps e) d
elsewhere setting steps (event.Start r m c clock eps) d other = record { changes = other; unmade = ap (λ b. b || false) other; unfailed = refl }
elsewhere setting steps (event.Join r m c clock eps) d other = record { changes = other; unmade = other; unfailed = refl }
elsewhere setting steps (event.Tick r m c) d other = record { changes = other; unmade = refl; unfailed = refl }
elsewhere setting steps (event.Recv r m c n) d other =
    record { changes = changed_receipt m d c (flight_numbered steps n) other; unmade = refl; unfailed = refl }
elsewhere setting steps (event.FailDevice r m) d other = record { changes = refl; unmade = refl; unfailed = unequal_swap m d other }
elsewhere setting steps (event.Fix r m c clock eps) d other = record { changes = other; unmade = refl; unfailed = refl }
elsewhere setting steps (event.Give r m) d other =
    record { changes = changed_give setting (staged_epoch (seen_of steps)) m d (staged setting (seen_of steps)) other; unmade = refl; unfailed = refl }
elsewhere setting steps (event.Commit r m c) d other = record { changes = other; unmade = refl; unfailed = refl }
elsewhere setting steps (event.Seal r m) d other = record { changes = other; unmade = refl; unfailed = refl }
elsewhere setting steps _ d other = record { changes = refl; unmade = refl; unfailed = refl }

-- after a plain step the world is alike
module _ (setting : Setting) (earlier : List Step) (s : Step) where
  pub alike_plain : IsPlain s → IsAlike setting earlier (s ∷ earlier)
  alike_plain plain =
      record {
        era_is = era_kept setting earlier s plain.stays;
        failed_is = failed_kept setting earlier s plain.stays plain.unfailed;
        commit_is = commit_kept setting earlier s plain.stays plain.unstaged plain.uncommitted;
        joined_is = λ d. joined_kept setting earlier s plain.stays plain.unstaged d plain.unjoined;
        links_no_worse = λ l failed.
            sym (has_failed_kept earlier s (thing.Link l) (ap (λ (o : Option Thing). is_thing o (thing.Link l)) plain.unfailed)
            (ap (λ (o : Option Thing). is_thing o (thing.Link l)) plain.unmended)) ∙ failed;
      }

  -- and a device from which it is elsewhere
  pub alike_elsewhere : (d : ℕ) → IsElsewhere s d → IsAlikeAt earlier (s ∷ earlier) d
  alike_elsewhere d alone =
      record {
        up_is = up_alone earlier s d alone;
        untouched_is = untouched_kept earlier s d alone.unmade alone.unfailed;
        parent_is = parent_alone earlier s d alone;
        acts_is = acts_alone earlier s d alone;
        epoch_is = epoch_alone earlier s d alone;
        there_is = ap (λ (p : Option Past). is_some p) (live_past_alone earlier s d alone);
        moved_is = moved_alone earlier s d alone;
      }
