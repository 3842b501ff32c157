-- The schedule of a generated case, made event by event: each event is tried on the history so far and left out where it is refused there,
-- and each message that is sent and reaches draws a word for the moment at which it is to be received.
use Rattle.std.specs.Prelude.{ℕ, zero, suc, ◌+◌, ◌-◌, ◌*◌, ◌/◌, ◌%◌, ◌^◌, Bool, true, false, ◌&&◌, List, [], ◌∷◌, ◌++◌, length, map, slice_index, nat_eq, nat_lt, Option, Some, None, if◌then◌else◌}
use Rattle.rand_core.specs.Pcg32Seed.{pcg32_seed}
use Rattle.rand_core.specs.Steps.{first_words}
use Rattle.rand_pcg.specs.Lcg.{Lcg, advance}
use Rattle.rand_pcg.specs.Pcg.{multiplier_64, pcg32, pcg32_of_seed}
use Rattle.sd_plan.specs.topo.Network.{device_numbers}
use Rattle.sd_device.specs.declared.msg.Flight.{Flight}
use Rattle.sd_sched.specs.declared.Event.{Event}
use Rattle.sd_sched.specs.declared.Event.TheVariants.{Start, Tick, Recv, FailDevice, Ask, Stage, Give, Commit, Seal, End}
use Rattle.sd_history.specs.World.{Setting, is_up}
use Rattle.sd_history.specs.Steps.{Step, seen_of, events_of}
use Rattle.sd_history.specs.Chronicle.{next_step}
use Rattle.sd_history.specs.Refusals.{refusal}
use Rattle.sd_history.specs.declared.ApplyFault.{ApplyFault}
use Rattle.sd_gen.specs.declared.arrivals.Arrival.{Arrival}
use Rattle.sd_gen.specs.arrivals.Waiting.{next_by, without}

-- The words that are drawn

-- the generator at first
abbrev pub seeded : (number : ℕ) → Lcg
seeded number = pcg32_of_seed (pcg32_seed 16 number)

-- the word that is drawn next, and the generator after it
abbrev pub word_of : Lcg → ℕ
word_of g = (pcg32 g).0

-- the generator after the word that is drawn next
abbrev pub behind_word : Lcg → Lcg
behind_word g = (pcg32 g).1

-- Drafts

-- how far a schedule is made: the generator, by how much each device's counter leads, the events with what they did, the newest first, and
-- the messages that wait, in the order of their numbers
pub record Draft : Type 0 where
  pub rng : Lcg
  pub leads : List ℕ
  pub steps : List Step
  pub waiting : List Arrival

-- the counter at a reference of the device with a lead, which is in parts per million: it is 150 parts slower than that
abbrev pub counter_by : (lead r : ℕ) → ℕ
counter_by lead r = r - 150 * r / 1000000 + lead * r / 1000000

-- the counter of a device at a reference
abbrev pub counter_at : Draft → ℕ → ℕ → ℕ
counter_at x d r = counter_by (slice_index x.leads d) r

-- f for each of the list, in order
abbrev pub each : {A : Type 0} → (A → Draft → Draft) → List A → Draft → Draft
each f [] x = x
each f (a ∷ more) x = each f more (f a x)

-- f, where it is so
abbrev pub when : Bool → (Draft → Draft) → Draft → Draft
when false f x = x
when true f x = f x

-- a word is drawn for the message, which then waits
abbrev pub with_message : Flight → Draft → Draft
with_message f x =
    record {
      rng = behind_word x.rng;
      leads = x.leads;
      steps = x.steps;
      waiting = x.waiting ++ record { moment = f.sent_at + 400000 + word_of x.rng % 600001; number = f.number; receiver = f.receiver } ∷ [];
    }

-- the step happens, and each of its messages that reaches waits
abbrev pub with_step : Step → Draft → Draft
with_step s x = each with_message s.seen.sent (record { rng = x.rng; leads = x.leads; steps = s ∷ x.steps; waiting = x.waiting })

module _ (setting : Setting) where
  -- what is refused is left out
  abbrev pub unless_refused : Option ApplyFault → Event → Draft → Draft
  unless_refused (Some why) e x = x
  unless_refused None e x = with_step (next_step setting x.steps e) x

  -- the event is tried
  abbrev pub try : Event → Draft → Draft
  try e x = unless_refused (refusal setting x.steps e) e x

  -- an event of the device, if it is up
  abbrev pub try_if_up : (ℕ → Event) → ℕ → Draft → Draft
  try_if_up event d x = when (is_up (seen_of x.steps) d) (try (event d)) x

  -- an event of each device that is up, in order
  abbrev pub try_each_up : (ℕ → Event) → Draft → Draft
  try_each_up event x = each (try_if_up event) (device_numbers setting.net) x

  -- Receipts

  -- the message waits no longer, whether its receipt happens or is left out
  abbrev pub without_message : ℕ → Draft → Draft
  without_message n x = record { rng = x.rng; leads = x.leads; steps = x.steps; waiting = without n x.waiting }

  -- the draft after the receipt of the message
  abbrev pub receive : Arrival → Draft → Draft
  receive w x = try (Recv w.moment w.receiver (counter_at x w.receiver w.moment) w.number) (without_message w.number x)

  -- what comes after the receipt of the message, if there is one
  abbrev pub go_on : Option Arrival → (Draft → Draft) → Draft → Draft
  go_on None next x = x
  go_on (Some w) next x = next (receive w x)

  -- at most n receipts, one after the other, always of the message that comes first, up to the moment
  unfoldable pub receive_up_to : (moment n : ℕ) → Draft → Draft
  receive_up_to moment zero x = x
  receive_up_to moment (suc n) x = go_on (next_by moment x.waiting) (receive_up_to moment n) x

  -- all of them: there are fewer than 2^64, since a history sends fewer messages
  abbrev pub receive_until : ℕ → Draft → Draft
  receive_until moment x = receive_up_to moment (2 ^ 64 - 1) x

  -- Rounds

  -- the reference of a round
  abbrev pub reference_of_round : ℕ → ℕ
  reference_of_round k = 50000000 * k

  -- in round 21 the first device fails amid the receipts
  abbrev pub with_failure : ℕ → Draft → Draft
  with_failure k x = when (nat_eq k 21) (λ y. try (FailDevice 1025000000 0) (receive_until 1025000000 y)) x

  -- each device that is up ticks
  abbrev pub with_ticks : ℕ → Draft → Draft
  with_ticks r x = try_each_up (λ d. Tick r d (counter_at x d r)) x

  -- the second plan is brought in after the ticks of round 150: the stage, a give to each device that is up, and the commit of the second device
  abbrev pub with_renewal : ℕ → ℕ → Draft → Draft
  with_renewal k r x = when (nat_eq k 150) (λ y. try (Commit r 1 (counter_at y 1 r)) (try_each_up (λ d. Give r d) (try (Stage r) y))) x

  -- each device that is up is sealed after the ticks of round 160
  abbrev pub with_seals : ℕ → ℕ → Draft → Draft
  with_seals k r x = when (nat_eq k 160) (try_each_up (λ d. Seal r d)) x

  -- a device that a word names is asked, if it is up
  abbrev pub ask_of_word : ℕ → Draft → Draft
  ask_of_word r x =
      try_if_up (λ d. Ask r d (counter_at x d r)) (word_of x.rng % length setting.net.devices)
      (record { rng = behind_word x.rng; leads = x.leads; steps = x.steps; waiting = x.waiting })

  -- this happens in every tenth round but the last
  abbrev pub with_ask : ℕ → ℕ → Draft → Draft
  with_ask k r x = when (nat_eq (k % 10) 0 && nat_lt k 200) (ask_of_word r) x

  -- in the last round each device that is up is asked, and the schedule ends
  abbrev pub with_end : ℕ → ℕ → Draft → Draft
  with_end k r x = when (nat_eq k 200) (λ y. try (End r) (try_each_up (λ d. Ask r d (counter_at y d r)) y)) x

  -- the draft after round k, which is at this reference
  abbrev pub round_at : ℕ → ℕ → Draft → Draft
  round_at k r x = with_end k r (with_ask k r (with_seals k r (with_renewal k r (with_ticks r (receive_until r (with_failure k x))))))

  -- the draft after round k
  abbrev pub round : ℕ → Draft → Draft
  round k x = round_at k (reference_of_round k) x

  -- The schedule

  -- each device has drawn its word
  abbrev pub unstarted : (number : ℕ) → Draft
  unstarted number =
      record {
        rng = advance 64 multiplier_64 (length setting.net.devices) (seeded number);
        leads = map (λ w. w % 301) (first_words pcg32 (length setting.net.devices) (seeded number));
        steps = [];
        waiting = [];
      }

  -- the first device starts with a better clock than the others
  abbrev pub start_of : ℕ → Event
  start_of d = Start 0 d 0 0 (if nat_eq d 0 then 500 else 1000000)

  -- all devices start
  abbrev pub with_starts : Draft → Draft
  with_starts x = each (λ d y. try (start_of d) y) (device_numbers setting.net) x

  -- the draft after this many rounds
  unfoldable pub draft_after : (number k : ℕ) → Draft
  draft_after number zero = with_starts (unstarted number)
  draft_after number (suc k) = round (suc k) (draft_after number k)

  -- the history of the schedule, the newest event first
  abbrev pub history_of : (number : ℕ) → List Event
  history_of number = events_of (draft_after number 200).steps
