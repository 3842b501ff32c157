-- A driver at first, round after round, and at last.
use Rattle.std.specs.Prelude.{◌≡◌, ℕ, ◌+◌, ◌%◌, List, [], length, map, reverse, refl}
use Rattle.std.proofs.Common.{ap, sym, ◌∙◌, subst, add-one}
use Rattle.std.proofs.lemmas.List.{reverse-reverse}
use Rattle.rand_core.specs.Steps.{first_words}
use Rattle.rand_pcg.specs.Lcg.{Lcg, advance}
use Rattle.rand_pcg.specs.Pcg.{multiplier_64, pcg32}
use Rattle.sd_plan.specs.topo.Limits.{IsNetwork}
use Rattle.sd_sched.specs.declared.Event.{Event}
use Rattle.sd_history.specs.World.{Setting}
use Rattle.sd_history.specs.Steps.{events_of}
use Rattle.sd_history.specs.Nodes.{steps_of}
use Rattle.sd_history.specs.Chronicle.{IsHistory}
use Rattle.sd_history.proofs.Devices.{devices_have_history}
use Rattle.sd_gen.specs.arrivals.Standing as arrivals
use Rattle.sd_gen.specs.declared.driven.Driven.{Ghosts}
use Rattle.sd_gen.specs.declared.driver.Driver.{Driver}
use Rattle.sd_gen.specs.declared.recording.Recording.{Recording}
use Rattle.sd_gen.specs.Drafts.{seeded, unstarted, with_starts, round, draft_after, history_of}
use Rattle.sd_gen.specs.Schedules.{schedule}
use Rattle.sd_gen.specs.Driving.{HasHappened}
use Rattle.sd_gen.specs.Recording as recording
use Rattle.sd_gen.specs.Standing.{StandsFor}

one_round : (setting : Setting) (number k : ℕ) → round setting (k + 1) (draft_after setting number k) ≡ draft_after setting number (k + 1)
unfolding draft_after
one_round setting number k = ap (λ n. round setting n (draft_after setting number k)) (add-one k) ∙ ap (draft_after setting number) (sym (add-one k))

module _ {D : Type 0} (g : Ghosts D) where
  pub begins : (r : Driver D) (setting : Setting) (number devices : ℕ) (start : Lcg) → IsNetwork setting.net → g.stands r.driven setting []
      → devices ≡ length setting.net.devices
      → start ≡ seeded number → r.leads.items ≡ map (λ w. w % 301) (first_words pcg32 devices start) → r.random ≡ advance 64 multiplier_64 devices start
      → arrivals.StandsFor r.arrivals 0 [] → StandsFor g r setting (unstarted setting number)
  begins r setting number devices start net stands count seed leads random empty =
      record {
        net = net;
        run = [];
        is_run = tt;
        driven = stands;
        steps = refl;
        rng = random ∙ ap (λ n. advance 64 multiplier_64 n start) count ∙ ap (advance 64 multiplier_64 (length setting.net.devices)) seed;
        leads = leads ∙ ap (λ n. map (λ w. w % 301) (first_words pcg32 n start)) count
            ∙ ap (λ g. map (λ w. w % 301) (first_words pcg32 (length setting.net.devices) g)) seed;
        arrivals = empty;
      }

  pub begun : (r : Driver D) (setting : Setting) (number : ℕ) → StandsFor g r setting (with_starts setting (unstarted setting number))
      → StandsFor g r setting (draft_after setting number 0)
  unfolding draft_after
  begun r setting number stands = stands

  pub gone : (r : Driver D) (setting : Setting) (number k : ℕ) → StandsFor g r setting (round setting (k + 1) (draft_after setting number k))
      → StandsFor g r setting (draft_after setting number (k + 1))
  gone r setting number k stands = subst (λ x. StandsFor g r setting x) (one_round setting number k) stands

  -- after all rounds the history of the schedule has happened
  pub all_rounds : (r : Driver D) (driven : D) (setting : Setting) (number k : ℕ) → k ≡ 200 → driven ≡ r.driven
      → StandsFor g r setting (draft_after setting number k)
      → HasHappened g.stands driven setting (history_of setting number)
  all_rounds r driven setting number k is same stands =
      record {
        run = stands.run;
        stands = subst (λ (d : D). g.stands d setting stands.run) (sym same) stands.driven;
        is_run = stands.is_run;
        happened = ap events_of stands.steps ∙ ap (λ n. events_of (draft_after setting number n).steps) is;
      }

-- what was recorded is the schedule
pub are_scheduled : (r : Recording) (setting : Setting) (number : ℕ) (events : List Event) → events ≡ r.events
    → HasHappened recording.StandsFor r setting (history_of setting number) → events ≡ schedule setting number
unfolding schedule
are_scheduled r setting number events same happened = same ∙ happened.stands.events ∙ ap reverse happened.happened

-- a fleet of devices accepted its events, so they are a history
pub are_history : (r : Recording) (setting : Setting) (number : ℕ) (events : List Event) → events ≡ r.events
    → HasHappened recording.StandsFor r setting (history_of setting number) → IsHistory setting (reverse events)
are_history r setting number events same happened =
    let recorded : reverse events ≡ events_of (steps_of happened.run) =
    ap reverse (same ∙ happened.stands.events) ∙ reverse-reverse (events_of (steps_of happened.run)) in
    subst (IsHistory setting) (sym recorded) (devices_have_history setting happened.run happened.is_run)
