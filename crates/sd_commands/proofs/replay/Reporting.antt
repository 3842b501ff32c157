-- What the latest step of a history adds to commit wait.
use Rattle.std.proofs.Common.{◌≡◌, ℕ, ◌+◌, ◌-◌, ◌<◌, List, [], ◌∷◌, ◌++◌, length, Option, Some, None, refl, sym, ap, ◌∙◌, subst, arith, append-nil, length-append}
use Rattle.std.specs.Prelude.{option_map, option_to_list}
use Rattle.sd_num.specs.Lists.{map_or}
use Rattle.sd_num.specs.declared.clock.Report.{Report}
use Rattle.sd_device.specs.msg.Observed.{ReportAt}
use Rattle.sd_sched.specs.declared.Event.{Event}
use Rattle.sd_sched.specs.declared.Event.TheVariants as event
use Rattle.sd_sched.specs.Events.{device_of, reference_of}
use Rattle.sd_history.specs.World.{Setting}
use Rattle.sd_history.specs.Steps.{Step}
use Rattle.sd_history.specs.Accepted.{AreSteps}
use Rattle.sd_history.specs.Lines.{asked_report, reports}
use Rattle.sd_history.specs.Text.{bytes_of, device_name}
use Rattle.sd_history.proofs.Known.{named_is_known}
use Rattle.sd_replay.specs.wait.Printed.{bytes_at}
use Rattle.sd_commands.specs.replay.Replays.{with_waits}
use Rattle.sd_commands.specs.replay.Telling.{latest_device, latest_name, latest_waits}

-- the device of a report after others
pub latest_behind : (told : List ReportAt) (x : ReportAt) → latest_device (told ++ x ∷ []) ≡ Some x.device
latest_behind [] x = refl
latest_behind (y ∷ []) x = refl
latest_behind (y ∷ z ∷ others) x = latest_behind (z ∷ others) x

-- the report of a step, as it is told
abbrev told_of : (earlier : List Step) (s : Step) → ℕ × Report → ReportAt
told_of earlier s told = record { line = length earlier + 1; device = told.0; reference = reference_of s.seen.event; report = told.1 }

-- the reports with one of the latest step, if it has one
abbrev with_told : (earlier : List Step) (s : Step) → Option (ℕ × Report) → List ReportAt
with_told earlier s o = reports earlier ++ option_to_list (option_map (told_of earlier s) o)

module _ (setting : Setting) (earlier : List Step) (s : Step) where
  more_waits : (o : Option (ℕ × Report)) → length (reports earlier) < length (with_told earlier s o)
      → map_or o [] (λ told. bytes_at (with_told earlier s o) (length (reports earlier)) (device_name setting.net told.0))
      ≡ latest_waits setting.net (with_told earlier s o)
  more_waits None more =
      absurd (no_more (length (reports earlier)) (subst (λ (l : List ReportAt). length (reports earlier) < length l) (append-nil (reports earlier)) more))
    where
      no_more : (n : ℕ) → n < n → ⊥
      no_more n less = omega (arith, less)
  more_waits (Some told) more =
      let x = told_of earlier s told in
      let place : length (reports earlier ++ x ∷ []) - 1 ≡ length (reports earlier) =
      ap (λ (n : ℕ). n - 1) (length-append (reports earlier) (x ∷ [])) ∙ back (length (reports earlier)) in
      sym
      (
      ap (λ (k : ℕ). bytes_at (reports earlier ++ x ∷ []) k (latest_name setting.net (reports earlier ++ x ∷ []))) place
      ∙ ap (λ (d : Option ℕ). bytes_at (reports earlier ++ x ∷ []) (length (reports earlier)) (map_or d [] (device_name setting.net)))
      (latest_behind (reports earlier) x)
      )
    where
      back : (n : ℕ) → (n + 1) - 1 ≡ n
      back n = omega arith

  -- a step with a report: its lines, and those of commit wait
  more_reports : length (reports earlier) < length (reports (s ∷ earlier))
      → with_waits setting (s ∷ earlier) ≡ bytes_of setting (s ∷ earlier) ++ latest_waits setting.net (reports (s ∷ earlier))
  more_reports more = ap (λ (waits : List ℕ). bytes_of setting (s ∷ earlier) ++ waits) (more_waits (asked_report s) more)

  no_waits : (o : Option (ℕ × Report)) → (length (reports earlier) < length (with_told earlier s o) → ⊥)
      → map_or o [] (λ told. bytes_at (with_told earlier s o) (length (reports earlier)) (device_name setting.net told.0)) ≡ []
  no_waits None none = refl
  no_waits (Some told) none =
      absurd (none
      (subst (λ (n : ℕ). length (reports earlier) < n) (sym (length-append (reports earlier) (told_of earlier s told ∷ []))) (next (length (reports earlier)))))
    where
      next : (n : ℕ) → n < n + 1
      next n = omega arith

  -- a step without one: its lines alone
  no_reports : (length (reports earlier) < length (reports (s ∷ earlier)) → ⊥) → with_waits setting (s ∷ earlier) ≡ bytes_of setting (s ∷ earlier)
  no_reports none = ap (λ (waits : List ℕ). bytes_of setting (s ∷ earlier) ++ waits) (no_waits (asked_report s) none) ∙ append-nil (bytes_of setting (s ∷ earlier))

-- the same of steps whose latest one is known
pub more_at : (setting : Setting) (steps earlier : List Step) (s : Step) → steps ≡ s ∷ earlier → length (reports earlier) < length (reports steps)
    → with_waits setting steps ≡ bytes_of setting steps ++ latest_waits setting.net (reports steps)
more_at setting steps earlier s is =
    subst (λ (ss : List Step). length (reports earlier) < length (reports ss)
    → with_waits setting ss ≡ bytes_of setting ss ++ latest_waits setting.net (reports ss)) (sym is) (more_reports setting earlier s)

pub none_at : (setting : Setting) (steps earlier : List Step) (s : Step) → steps ≡ s ∷ earlier → (length (reports earlier) < length (reports steps) → ⊥)
    → with_waits setting steps ≡ bytes_of setting steps
none_at setting steps earlier s is =
    subst (λ (ss : List Step). (length (reports earlier) < length (reports ss) → ⊥)
    → with_waits setting ss ≡ bytes_of setting ss) (sym is) (no_reports setting earlier s)

-- a device that reports is the one that the event names
reporter_named : (e : Event) (report : Option Report) (told : ℕ × Report) → (elim e [
  | event.Ask reference device counter ↦ option_map (λ (r : Report). (device, r)) report
  | _ ↦ None
]) ≡ Some told → device_of e ≡ Some told.0
reporter_named (event.Ask reference device counter) (Some r) told is = let same : (device, r) ≡ told = cc in ap (λ (t : ℕ × Report). Some t.0) same
reporter_named (event.Ask reference device counter) None told is = cc
reporter_named _ report told is = cc

-- the device of the latest report is one of the topology's
pub latest_known : (setting : Setting) (steps : List Step) (d : ℕ) → AreSteps setting steps → latest_device (reports steps) ≡ Some d
    → d < length setting.net.devices
latest_known setting [] d are is = cc
latest_known setting (s ∷ earlier) d are is = by (latest_known setting earlier d are.0) (asked_report s) refl
  where
    by : (latest_device (reports earlier) ≡ Some d → d < length setting.net.devices) → (o : Option (ℕ × Report)) → asked_report s ≡ o
        → d < length setting.net.devices
    by before None silent =
        before
        (ap latest_device (sym (append-nil (reports earlier))) ∙ ap (λ (o : Option (ℕ × Report)). latest_device (with_told earlier s o)) (sym silent) ∙ is)
    by before (Some told) reported =
        let latest : Some told.0 ≡ Some d = sym (latest_behind (reports earlier) (told_of earlier s told))
        ∙ ap (λ (o : Option (ℕ × Report)). latest_device (with_told earlier s o)) (sym reported) ∙ is in
        named_is_known setting earlier s.seen.event d are.1 (reporter_named s.seen.event s.told.report told reported ∙ latest)
