-- What an event does, and what is told and sent at it, is alike after steps that agree.
use Rattle.std.specs.Prelude.{◌≡◌, ℕ, ◌+◌, Bool, true, false, ◌&&◌, ◌||◌, not, List, [], ◌∷◌, length, map, filter, nat_eq, Option, Some, None, option_map, option_and_then, refl, if◌then◌else◌}
use Rattle.std.specs.List.{list_any, list_all}
use Rattle.std.proofs.Common.{arith, ◌∙◌, ap}
use Rattle.sd_num.specs.Lists.{map_or, same_number}
use Rattle.sd_plan.specs.topo.Network.{Network}
use Rattle.sd_plan.specs.declared.topo.Thing.TheVariants as thing
use Rattle.sd_plan.specs.declared.Plan.{Plan}
use Rattle.sd_plan.specs.declared.End.{End}
use Rattle.sd_plan.specs.Duties.{duty_of, ends_of}
use Rattle.sd_device.specs.declared.msg.Message.{Message}
use Rattle.sd_device.specs.declared.msg.Flight.{Flight}
use Rattle.sd_device.specs.declared.Effect.{Effect}
use Rattle.sd_device.specs.declared.Effect.TheVariants.{Quiet, Send}
use Rattle.sd_device.specs.Calls as calls
use Rattle.sd_sched.specs.declared.Event.{Event}
use Rattle.sd_sched.specs.declared.Event.TheVariants as event
use Rattle.sd_sched.specs.Events.{device_of, message_of, received}
use Rattle.sd_history.specs.World.{setting_over, is_up, link_has_failed, epoch_in_force, staged_epoch, in_force, staged}
use Rattle.sd_history.specs.Steps.{Act, Makes, Calls, Asks, Passes, Answers, Told, Step, seen_of, changed, live_answers, acts_in, epoch_in, has_settled, flight_count, flight_numbered, flight_to, flights_to, ends_at, flights_by, flights_of, act_by, taken_by, acted_by}
use Rattle.sd_resume.specs.law.Shifts.{Shift, raised_epoch, raised_message, raised_flight, raised_effect, raised_event}
use Rattle.sd_resume.specs.law.Law.{whole, NamesSome}
use Rattle.sd_resume.specs.law.Agreement.{raised_answers, raised_told, raised_act, StepsAgree}
use Rattle.sd_resume.proofs.law.Words.{same_words, raised_received}
use Rattle.sd_resume.proofs.law.Stamps.{same_epoch}
use Rattle.sd_resume.proofs.law.Plans.{epoch_raised, staged_raised, in_force_same, staged_same, current_same}

-- devices

same_acts : (shift : Shift) (a : Option Answers) → map_or (option_map (raised_answers shift) a) false (λ x. x.acts) ≡ map_or a false (λ x. x.acts)
same_acts shift None = refl
same_acts shift (Some a) = refl

same_epoch_of : (shift : Shift) (a : Option Answers) (epoch : ℕ)
    → same_number (option_map (λ (x : Answers). x.epoch) (option_map (raised_answers shift) a)) (raised_epoch shift epoch)
    ≡ same_number (option_map (λ (x : Answers). x.epoch) a) epoch
same_epoch_of shift None epoch = refl
same_epoch_of shift (Some a) epoch = same_epoch shift a.epoch epoch

same_settled : (shift : Shift) (a : Option Answers) (epoch : ℕ)
    → map_or (option_map (raised_answers shift) a) false (λ x. nat_eq x.epoch (raised_epoch shift epoch) && x.sealed) ≡ map_or a false (λ x. nat_eq x.epoch epoch && x.sealed)
same_settled shift None epoch = refl
same_settled shift (Some a) epoch = ap (λ b. b && a.sealed) (same_epoch shift a.epoch epoch)

module _ (shift : Shift) (one other : List Step) (agree : StepsAgree shift one other) where
  pub acts_same : (d : ℕ) → acts_in one d ≡ acts_in other d
  acts_same d = ap (λ a. map_or a false (λ x. x.acts)) (agree.answers d) ∙ same_acts shift (live_answers other d)

  pub epoch_of_same : (d epoch : ℕ) → same_number (epoch_in one d) (raised_epoch shift epoch) ≡ same_number (epoch_in other d) epoch
  epoch_of_same d epoch =
      ap (λ a. same_number (option_map (λ (x : Answers). x.epoch) a) (raised_epoch shift epoch)) (agree.answers d)
      ∙ same_epoch_of shift (live_answers other d) epoch

  pub settled_same : (d epoch : ℕ) → has_settled one (raised_epoch shift epoch) d ≡ has_settled other epoch d
  settled_same d epoch =
      ap (λ a. map_or a false (λ x. nat_eq x.epoch (raised_epoch shift epoch) && x.sealed)) (agree.answers d)
      ∙ same_settled shift (live_answers other d) epoch

pub all_same : {A : Type 0} (p q : A → Bool) → ((x : A) → p x ≡ q x) → (xs : List A) → list_all p xs ≡ list_all q xs
all_same p q same [] = refl
all_same p q same (x ∷ xs) = ap (λ b. b && list_all p xs) (same x) ∙ ap (λ b. q x && b) (all_same p q same xs)

pub any_same : {A : Type 0} (p q : A → Bool) → ((x : A) → p x ≡ q x) → (xs : List A) → list_any p xs ≡ list_any q xs
any_same p q same [] = refl
any_same p q same (x ∷ xs) = ap (λ b. b || list_any p xs) (same x) ∙ ap (λ b. q x || b) (any_same p q same xs)

pub filter_same : {A : Type 0} (p q : A → Bool) → ((x : A) → p x ≡ q x) → (xs : List A) → filter p xs ≡ filter q xs
filter_same p q same [] = refl
filter_same p q same (x ∷ xs) =
    ap (λ b. if b then x ∷ filter p xs else filter p xs) (same x) ∙ ap (λ ys. if q x then x ∷ ys else ys) (filter_same p q same xs)

pub reaching_raised : (shift : Shift) (fs : List Flight) → filter (λ f. f.reaches) (map (raised_flight shift) fs) ≡ map (raised_flight shift) (filter (λ f. f.reaches) fs)
reaching_raised shift [] = refl
reaching_raised shift (f ∷ fs) = go f.reaches (filter (λ g. g.reaches) fs) (reaching_raised shift fs)
  where
    go : (b : Bool) {xs : List Flight} (ys : List Flight) → xs ≡ map (raised_flight shift) ys
        → (if b then raised_flight shift f ∷ xs else xs) ≡ map (raised_flight shift) (if b then f ∷ ys else ys)
    go true ys same = ap (λ ys. raised_flight shift f ∷ ys) same
    go false ys same = same

module _ (shift : Shift) (net : Network) (front plans : List Plan) (behind : shift.plans ≡ length front) (one other : List Step)
    (agree : StepsAgree shift one other) where
  -- The act

  pub act_same : (e : Event) → NamesSome e → act_by (whole net front plans) one (raised_event shift e) ≡ raised_act shift (act_by (setting_over net plans) other e)
  act_same (event.Start reference device counter clock eps) some =
      ap (λ p. Makes device (calls.Started (duty_of net p (epoch_in_force (seen_of one)) device) counter clock eps))
      (in_force_same shift net front plans behind (seen_of one) (seen_of other) agree.seen)
      ∙ ap (λ n. Makes device (calls.Started (duty_of net (in_force (setting_over net plans) (seen_of other)) n device) counter clock eps))
      (epoch_raised shift net front plans behind (seen_of one) (seen_of other) agree.seen)
  act_same (event.Recv reference device counter message) some =
      ap (λ o. map_or o Passes (λ f. Calls device (calls.Receive f.link f.message counter))) (agree.numbered message (some message refl))
      ∙ go (flight_numbered other message)
    where
      go : (o : Option Flight)
          → map_or (option_map (raised_flight shift) o) Passes (λ f. Calls device (calls.Receive f.link f.message counter))
          ≡ raised_act shift (map_or o Passes (λ f. Calls device (calls.Receive f.link f.message counter)))
      go None = refl
      go (Some f) = refl
  act_same (event.Give reference device) some =
      ap (λ s. map_or s Passes (λ plan. Calls device (calls.Give (duty_of net plan (staged_epoch (seen_of one)) device))))
      (staged_same shift net front plans behind (seen_of one) (seen_of other) agree.seen)
      ∙ ap (λ n. map_or (staged (setting_over net plans) (seen_of other)) Passes (λ plan. Calls device (calls.Give (duty_of net plan n device))))
      (staged_raised shift net front plans behind (seen_of one) (seen_of other) agree.seen)
      ∙ go (staged (setting_over net plans) (seen_of other))
    where
      go : (s : Option Plan)
          → map_or s Passes (λ plan. Calls device (calls.Give (duty_of net plan (raised_epoch shift (staged_epoch (seen_of other))) device)))
          ≡ raised_act shift (map_or s Passes (λ plan. Calls device (calls.Give (duty_of net plan (staged_epoch (seen_of other)) device))))
      go None = refl
      go (Some plan) = refl
  act_same _ some = refl

  -- The flights

  flights_raised : (reference d : ℕ) (message : Message) (n m : ℕ) → m ≡ n + shift.messages → (ends : List End)
      → flights_to (whole net front plans) one reference d (raised_message shift message) m ends
      ≡ map (raised_flight shift) (flights_to (setting_over net plans) other reference d message n ends)
  flights_raised reference d message n m same [] = refl
  flights_raised reference d message n m same (downstream ∷ others) =
      ap (λ k. flight_to (whole net front plans) one reference d (raised_message shift message) k downstream
      ∷ flights_to (whole net front plans) one reference d (raised_message shift message) (m + 1) others) same
      ∙ ap (λ b. record (raised_flight shift (flight_to (setting_over net plans) other reference d message n downstream)) { reaches = b }
      ∷ flights_to (whole net front plans) one reference d (raised_message shift message) (m + 1) others)
      (ap (λ b. not b && is_up (seen_of one) downstream.device) (agree.seen.failed (thing.Link downstream.link))
      ∙ ap (λ b. not (link_has_failed (seen_of other) downstream.link) && b) (agree.seen.up downstream.device))
      ∙ ap (λ fs. raised_flight shift (flight_to (setting_over net plans) other reference d message n downstream) ∷ fs)
      (flights_raised reference d message (n + 1) (m + 1) (next n m shift.messages same) others)
    where
      next : (n m by : ℕ) → m ≡ n + by → m + 1 ≡ n + 1 + by
      next n m by same' = omega (arith, same')

  flights_by_raised : (reference d epoch : ℕ) (effect : Effect)
      → flights_by (whole net front plans) one reference d (raised_epoch shift epoch) (raised_effect shift effect)
      ≡ map (raised_flight shift) (flights_by (setting_over net plans) other reference d epoch effect)
  flights_by_raised reference d epoch Quiet = refl
  flights_by_raised reference d epoch (Send message) =
      ap (λ p. flights_to (whole net front plans) one reference d (raised_message shift message) (flight_count one + 1) (map_or p [] (λ plan. ends_of net plan d)))
      (current_same shift net front plans behind (seen_of one) (seen_of other) agree.seen epoch)
      ∙ flights_raised reference d message (flight_count other + 1) (flight_count one + 1) (first (flight_count one) (flight_count other) shift.messages agree.count)
      (ends_at (setting_over net plans) other epoch d)
    where
      first : (a b c : ℕ) → a ≡ b + c → a + 1 ≡ b + 1 + c
      first a b c same = omega (arith, same)

  pub flights_of_raised : (reference : ℕ) (act : Act) (told : Told)
      → flights_of (whole net front plans) one reference (raised_act shift act) (raised_told shift told)
      ≡ map (raised_flight shift) (flights_of (setting_over net plans) other reference act told)
  flights_of_raised reference act told =
      ap (λ o. map_or o [] (λ d. map_or (option_map (raised_answers shift) told.answers) []
      (λ a. flights_by (whole net front plans) one reference d a.epoch (raised_effect shift told.effect)))) (changed_same act)
      ∙ go (changed act) told.answers
    where
      changed_same : (a : Act) → changed (raised_act shift a) ≡ changed a
      changed_same (Makes d making) = refl
      changed_same (Calls d call) = refl
      changed_same (Asks d counter) = refl
      changed_same Passes = refl

      go : (o : Option ℕ) (a : Option Answers)
          → map_or o [] (λ d. map_or (option_map (raised_answers shift) a) [] (λ x. flights_by (whole net front plans) one reference d x.epoch (raised_effect shift told.effect)))
          ≡ map (raised_flight shift) (map_or o [] (λ d. map_or a [] (λ x. flights_by (setting_over net plans) other reference d x.epoch told.effect)))
      go None a = refl
      go (Some d) None = refl
      go (Some d) (Some a) = flights_by_raised reference d a.epoch told.effect

  -- The step

  pub taken_same : (e : Event) → NamesSome e → taken_by one (raised_event shift e) ≡ option_map (raised_flight shift) (taken_by other e)
  taken_same e some = ap (option_and_then (flight_numbered one)) (raised_received shift e) ∙ go e (received e) refl
    where
      named : (e : Event) (n : ℕ) → received e ≡ Some n → message_of e ≡ Some n
      named (event.Recv reference device counter message) n is = is
      named _ n is = cc

      go : (f : Event) (o : Option ℕ) → received e ≡ o
          → option_and_then (flight_numbered one) (option_map (λ n. n + shift.messages) o) ≡ option_map (raised_flight shift) (option_and_then (flight_numbered other) o)
      go f None is = refl
      go f (Some n) is = agree.numbered n (some n (named e n is))

  pub acted_same : (e : Event) → acted_by one (raised_event shift e) ≡ acted_by other e
  acted_same e = ap (λ w. map_or w.device false (acts_in one)) (same_words shift e) ∙ go (device_of e)
    where
      go : (o : Option ℕ) → map_or o false (acts_in one) ≡ map_or o false (acts_in other)
      go None = refl
      go (Some d) = acts_same shift one other agree d
