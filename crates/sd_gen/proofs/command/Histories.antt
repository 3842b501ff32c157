-- The events of a draft are a history: each is accepted after those before it, and the draft's steps are its chronicle.
use Rattle.std.specs.Prelude.{◌≡◌, ℕ, zero, suc, ◌-◌, ◌%◌, ◌^◌, ◌&&◌, nat_eq, nat_lt, length, Bool, true, false, List, [], ◌∷◌, Option, Some, None, refl}
use Rattle.std.proofs.Common.{subst, sym}
use Rattle.sd_plan.specs.topo.Network.{device_numbers}
use Rattle.sd_device.specs.declared.msg.Flight.{Flight}
use Rattle.sd_sched.specs.declared.Event.{Event}
use Rattle.sd_sched.specs.declared.Event.TheVariants.{Recv, FailDevice, Tick, Stage, Give, Commit, Seal, Ask, End}
use Rattle.sd_history.specs.World.{Setting, is_up}
use Rattle.sd_history.specs.Steps.{Step, seen_of, events_of}
use Rattle.sd_history.specs.Chronicle.{chronicle, next_step, IsHistory}
use Rattle.sd_history.specs.Refusals.{refusal}
use Rattle.sd_history.specs.declared.ApplyFault.{ApplyFault}
use Rattle.sd_gen.specs.declared.arrivals.Arrival.{Arrival}
use Rattle.sd_gen.specs.arrivals.Waiting.{next_by}
use Rattle.sd_gen.specs.Drafts.{Draft, each, when, with_message, unless_refused, try, try_if_up, try_each_up, without_message, receive, go_on, receive_up_to, receive_until, with_failure, with_ticks, with_renewal, with_seals, ask_of_word, with_ask, with_end, round_at, reference_of_round, start_of, unstarted, with_starts, draft_after, history_of, counter_at, word_of, behind_word}

-- the events of a chronicle are the history
events_told : (setting : Setting) (history : List Event) → events_of (chronicle setting history) ≡ history
events_told setting [] = refl
events_told setting (e ∷ earlier) = let ih : events_of (chronicle setting earlier) ≡ earlier = events_told setting earlier in rw ih refl

module _ (setting : Setting) where
  -- the steps are the chronicle of a history
  record Stands (steps : List Step) : Type 0 where
    history : List Event
    same : steps ≡ chronicle setting history
    accepted : IsHistory setting history

  abbrev Keeps : (Draft → Draft) → Type 0
  Keeps f = (x : Draft) → Stands x.steps → Stands (f x).steps

  one_more : (e : Event) (history : List Event) → IsHistory setting history → refusal setting (chronicle setting history) e ≡ None
      → Stands (next_step setting (chronicle setting history) e ∷ chronicle setting history)
  one_more e history is free = record { history = e ∷ history; same = refl; accepted = (is, free) }

  stepped : (e : Event) (steps : List Step) → Stands steps → refusal setting steps e ≡ None → Stands (next_step setting steps e ∷ steps)
  stepped e steps stands =
      subst (λ s. refusal setting s e ≡ None → Stands (next_step setting s e ∷ s)) (sym stands.same) (one_more e stands.history stands.accepted)

  -- Each way to go on keeps it

  each_keeps : {A : Type 0} (f : A → Draft → Draft) → ((a : A) → Keeps (f a)) → (all : List A) → Keeps (each f all)
  each_keeps f keeps [] x stands = stands
  each_keeps f keeps (a ∷ more) x stands = each_keeps f keeps more (f a x) (keeps a x stands)

  when_keeps : (b : Bool) (f : Draft → Draft) → Keeps f → Keeps (when b f)
  when_keeps false f keeps x stands = stands
  when_keeps true f keeps x stands = keeps x stands

  message_keeps : (f : Flight) → Keeps (with_message f)
  message_keeps f x stands = stands

  tried : (why : Option ApplyFault) (e : Event) (x : Draft) → refusal setting x.steps e ≡ why → Stands x.steps → Stands (unless_refused setting why e x).steps
  tried (Some why) e x same stands = stands
  tried None e x same stands =
      each_keeps with_message message_keeps (next_step setting x.steps e).seen.sent
      (record { rng = x.rng; leads = x.leads; steps = next_step setting x.steps e ∷ x.steps; waiting = x.waiting }) (stepped e x.steps stands same)

  try_keeps : (e : Event) → Keeps (try setting e)
  try_keeps e x stands = tried (refusal setting x.steps e) e x refl stands

  if_up_keeps : (event : ℕ → Event) (d : ℕ) → Keeps (try_if_up setting event d)
  if_up_keeps event d x stands = when_keeps (is_up (seen_of x.steps) d) (try setting (event d)) (try_keeps (event d)) x stands

  each_up_keeps : (event : ℕ → Event) → Keeps (try_each_up setting event)
  each_up_keeps event x stands = each_keeps (try_if_up setting event) (if_up_keeps event) (device_numbers setting.net) x stands

  receive_keeps : (w : Arrival) → Keeps (receive setting w)
  receive_keeps w x stands = try_keeps (Recv w.moment w.receiver (counter_at x w.receiver w.moment) w.number) (without_message setting w.number x) stands

  go_on_keeps : (next : Option Arrival) (f : Draft → Draft) → Keeps f → Keeps (go_on setting next f)
  go_on_keeps None f keeps x stands = stands
  go_on_keeps (Some w) f keeps x stands = keeps (receive setting w x) (receive_keeps w x stands)

  receive_up_to_keeps : (moment n : ℕ) → Keeps (receive_up_to setting moment n)
  unfolding receive_up_to
  receive_up_to_keeps moment zero x stands = stands
  receive_up_to_keeps moment (suc n) x stands = go_on_keeps (next_by moment x.waiting) (receive_up_to setting moment n) (receive_up_to_keeps moment n) x stands

  failure_keeps : (k : ℕ) → Keeps (with_failure setting k)
  failure_keeps k x stands =
      when_keeps (nat_eq k 21) (λ y. try setting (FailDevice 1025000000 0) (receive_until setting 1025000000 y))
      (λ y here. try_keeps (FailDevice 1025000000 0) (receive_until setting 1025000000 y) (receive_up_to_keeps 1025000000 (2 ^ 64 - 1) y here)) x stands

  renewal_keeps : (k r : ℕ) → Keeps (with_renewal setting k r)
  renewal_keeps k r x stands =
      when_keeps (nat_eq k 150) (λ y. try setting (Commit r 1 (counter_at y 1 r)) (try_each_up setting (λ d. Give r d) (try setting (Stage r) y)))
      (λ y here. try_keeps (Commit r 1 (counter_at y 1 r)) (try_each_up setting (λ d. Give r d) (try setting (Stage r) y))
      (each_up_keeps (λ d. Give r d) (try setting (Stage r) y) (try_keeps (Stage r) y here))) x stands

  ask_keeps : (r : ℕ) → Keeps (ask_of_word setting r)
  ask_keeps r x stands =
      if_up_keeps (λ d. Ask r d (counter_at x d r)) (word_of x.rng % length setting.net.devices)
      (record { rng = behind_word x.rng; leads = x.leads; steps = x.steps; waiting = x.waiting }) stands

  end_keeps : (k r : ℕ) → Keeps (with_end setting k r)
  end_keeps k r x stands =
      when_keeps (nat_eq k 200) (λ y. try setting (End r) (try_each_up setting (λ d. Ask r d (counter_at y d r)) y))
      (λ y here. try_keeps (End r) (try_each_up setting (λ d. Ask r d (counter_at y d r)) y) (each_up_keeps (λ d. Ask r d (counter_at y d r)) y here)) x stands

  round_keeps : (k r : ℕ) → Keeps (round_at setting k r)
  round_keeps k r x stands =
      let failed : Draft = with_failure setting k x in
      let received : Draft = receive_until setting r failed in
      let ticked : Draft = with_ticks setting r received in
      let renewed : Draft = with_renewal setting k r ticked in
      let sealed : Draft = with_seals setting k r renewed in
      let asked : Draft = with_ask setting k r sealed in
      let a : Stands failed.steps = failure_keeps k x stands in
      let b : Stands received.steps = receive_up_to_keeps r (2 ^ 64 - 1) failed a in
      let c : Stands ticked.steps = each_up_keeps (λ d. Tick r d (counter_at received d r)) received b in
      let e : Stands renewed.steps = renewal_keeps k r ticked c in
      let f : Stands sealed.steps = when_keeps (nat_eq k 160) (try_each_up setting (λ d. Seal r d)) (each_up_keeps (λ d. Seal r d)) renewed e in
      let g : Stands asked.steps = when_keeps (nat_eq (k % 10) 0 && nat_lt k 200) (ask_of_word setting r) (ask_keeps r) sealed f in
      end_keeps k r asked g

  starts_stand : (number : ℕ) → Stands (with_starts setting (unstarted setting number)).steps
  starts_stand number =
      each_keeps (λ d y. try setting (start_of setting d) y) (λ d. try_keeps (start_of setting d)) (device_numbers setting.net) (unstarted setting number)
      (record { history = []; same = refl; accepted = tt })

  draft_stands : (number k : ℕ) → Stands (draft_after setting number k).steps
  unfolding draft_after
  draft_stands number zero = starts_stand number
  draft_stands number (suc k) = round_keeps (suc k) (reference_of_round setting (suc k)) (draft_after setting number k) (draft_stands number k)

  told : (steps : List Step) → Stands steps → IsHistory setting (events_of steps)
  told steps stands =
      let same : steps ≡ chronicle setting stands.history = stands.same in
      subst (λ s. IsHistory setting (events_of s)) (sym same) (subst (IsHistory setting) (sym (events_told setting stands.history)) stands.accepted)

  -- a fleet of devices accepts each event of a case after those before it
  pub case_is_history : (number : ℕ) → IsHistory setting (history_of setting number)
  case_is_history number = told (draft_after setting number 200).steps (draft_stands number 200)
