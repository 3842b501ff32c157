-- The messages that a step sent are posted, one after the other.
use Rattle.std.specs.Prelude.{◌≡◌, ℕ, zero, suc, ◌+◌, ◌-◌, ◌^◌, ◌<◌, ◌≤◌, Bool, true, false, List, [], ◌∷◌, length, take, min, Result, Ok, Err, refl, if◌then◌else◌}
use Rattle.std.proofs.Common.{arith, ap, sym, ◌∙◌, subst, get_or}
use Rattle.sd_device.specs.declared.msg.Flight.{Flight}
use Rattle.sd_device.specs.declared.msg.TakeFault.{TakeFault}
use Rattle.sd_device.specs.declared.msg.TakeFault.TheVariants as fault
use Rattle.sd_sched.specs.Events.{reference_of}
use Rattle.sd_history.specs.World.{Setting}
use Rattle.sd_history.specs.Steps.{Step, flight_count}
use Rattle.sd_history.specs.Accepted.{AreSteps}
use Rattle.sd_history.specs.flights.Flights.{AreNumberedOn, look_in}
use Rattle.sd_history.proofs.flights.Sending.{step_numbered, counted}
use Rattle.sd_history.proofs.flights.Counts.{numbers_few}
use Rattle.sd_fleet.specs.declared.Outcome.{Outcome}
use Rattle.sd_fleet.specs.Outcomes.{outcome_of, first_number}
use Rattle.sd_history.specs.Nodes.{steps_of}
use Rattle.sd_fleet.proofs.Shared.{sent_reach, number_at}
use Rattle.sd_gen.proofs.arrivals.Widening.{stands_wider}
use Rattle.sd_gen.specs.declared.driven.Driven.{Ghosts}
use Rattle.sd_gen.specs.declared.driver.Driver.{Driver}
use Rattle.sd_gen.specs.Drafts.{Draft, each, when, with_message}
use Rattle.sd_gen.specs.Driving.{Run}
use Rattle.sd_gen.specs.Posting.{posted}
use Rattle.sd_gen.specs.Standing.{StandsTo, StandsFor}
use Rattle.sd_gen.proofs.Each.{each_take_more, each_reaching, steps_stay}
use Rattle.sd_gen.proofs.Sent.{sent_found, sent_then, among_at}
use Rattle.sd_gen.proofs.Trying.{are_steps}

-- a draft with the first of the messages posted, of those that reach
abbrev pub with_first : ℕ → Step → Draft → Draft
with_first i s x = each (λ f. when f.reaches (with_message f)) (take i s.sent) x

any_flight : Flight
any_flight =
    record {
      number = 0;
      link = 0;
      sender = 0;
      receiver = 0;
      sent_at = 0;
      due = 0;
      last = 0;
      reaches = false;
      message = record { epoch = 0; stamp = record { term = 0; round = 0 }; clock = 0; eps = 0 };
    }

posted_found : (f : Flight) (y : Draft) → posted (if f.reaches then Ok f else Err fault.Spent) y ≡ when f.reaches (with_message f) y
posted_found f y = by f.reaches
  where
    by : (b : Bool) → posted (if b then Ok f else Err fault.Spent) y ≡ when b (with_message f) y
    by true = refl
    by false = refl

-- where some were sent, the first number is the next one
first_given : (n : ℕ) (fs : List Flight) → AreNumberedOn n fs → 0 < length fs → first_number fs ≡ n
first_given n [] is some = absurd (omega (arith, some))
first_given n (f ∷ fs) is some = is.0

module _ {D : Type 0} (g : Ghosts D) (setting : Setting) (x : Draft) (s : Step) (earlier : List Step) (steps : x.steps ≡ s ∷ earlier)
    (is : AreSteps setting (s ∷ earlier)) where
  pub posts_one_more : (old new : Driver D) (i number reference : ℕ) → i < length s.sent → number ≡ flight_count earlier + 1 + i
      → reference ≡ reference_of s.seen.event
      → StandsTo g old setting (with_first i s x) (flight_count earlier + i)
      → ((y : Draft) (top : ℕ) → top < number → ((f : Flight) → look_in y.steps number ≡ Ok f → (f.sent_at ≡ reference) × (f.number ≡ number))
      → StandsTo g old setting y top
      → StandsTo g new setting (posted (look_in y.steps number) y) number)
      → StandsTo g new setting (with_first (i + 1) s x) (flight_count earlier + (i + 1))
  posts_one_more old new i number reference within is_number is_reference stands posts =
      let f : Flight = get_or s.sent i any_flight in
      let among = among_at s.sent i any_flight within in
      let y : Draft = with_first i s x in
      let its : f.number ≡ number = number_at (flight_count earlier + 1) s.sent i any_flight (step_numbered setting s earlier is) within ∙ sym is_number in
      let same : y.steps ≡ s ∷ earlier = steps_stay (take i s.sent) x ∙ steps in
      let found : look_in y.steps number ≡ (if f.reaches then Ok f else Err fault.Spent) =
      ap (λ t. look_in t number) same ∙ ap (look_in (s ∷ earlier)) (sym its) ∙ sent_found setting s earlier is f among in
      let one : posted (look_in y.steps number) y ≡ with_first (i + 1) s x =
      ap (λ r. posted r y) found ∙ posted_found f y ∙ sym (each_take_more (λ g. when g.reaches (with_message g)) s.sent i any_flight x within) in
      let next : number ≡ flight_count earlier + (i + 1) = omega (arith, is_number) in
      let done : StandsTo g new setting (posted (look_in y.steps number) y) number =
      posts y (flight_count earlier + i) (omega (arith, is_number))
      (only f f.reaches refl found its (sent_then setting s earlier is f among ∙ sym is_reference)) stands in
      subst (λ (n : ℕ). StandsTo g new setting (with_first (i + 1) s x) n) next (subst (λ z. StandsTo g new setting z number) one done)
    where
      only : (f : Flight) (b : Bool) → f.reaches ≡ b → {o : Result Flight TakeFault} → o ≡ (if f.reaches then Ok f else Err fault.Spent) → f.number ≡ number
          → f.sent_at ≡ reference
          → (g : Flight) → o ≡ Ok g → (g.sent_at ≡ reference) × (g.number ≡ number)
      only f true reaches found its in_time g looks =
          let same : f ≡ g = let both : ◌≡◌ {A = Result Flight TakeFault} (Ok f) (Ok g) =
          sym (found ∙ ap (λ b. if b then Ok f else Err fault.Spent) reaches) ∙ looks in cc in
          (subst (λ (h : Flight). h.sent_at ≡ reference) same in_time, subst (λ (h : Flight). h.number ≡ number) same its)
      only f false lost found its in_time g looks =
          let both : ◌≡◌ {A = Result Flight TakeFault} (Err fault.Spent) (Ok g) = sym (found ∙ ap (λ b. if b then Ok f else Err fault.Spent) lost) ∙ looks in cc

-- The loop, from the first number that was sent: n is how far it came.

abbrev pub Posts : {D : Type 0} (g : Ghosts D) → (old new : Driver D) → Outcome → ℕ → ℕ → Type 0
Posts g old new outcome reference n =
    (setting : Setting) (x : Draft) (s : Step) (earlier : List Step) → x.steps ≡ s ∷ earlier → outcome ≡ outcome_of s → reference ≡ reference_of s.seen.event
    → StandsTo g old setting x (flight_count earlier) → StandsTo g new setting (with_first n s x) (flight_count earlier + n)

pub posting_begins : {D : Type 0} (g : Ghosts D) (r : Driver D) (outcome : Outcome) (reference n : ℕ) → n ≡ 0 → Posts g r r outcome reference n
posting_begins g r outcome reference n none setting x s earlier steps comes in_time stands =
    subst (λ (k : ℕ). StandsTo g r setting (with_first k s x) (flight_count earlier + k)) (sym none)
    (let same : flight_count earlier ≡ flight_count earlier + 0 = omega arith in subst (λ (k : ℕ). StandsTo g r setting x k) same stands)

sent_some : (setting : Setting) (s : Step) (earlier : List Step) → AreSteps setting (s ∷ earlier) → (outcome : Outcome) → outcome ≡ outcome_of s → (n : ℕ)
    → n < outcome.sent
    → (outcome.first_sent ≡ flight_count earlier + 1) × (n < length s.sent)
sent_some setting s earlier is outcome comes n less =
    let count : outcome.sent ≡ length s.sent = ap (λ (o : Outcome). o.sent) comes in
    let within : n < length s.sent = omega (arith, less, count) in
    let begins : first_number s.sent ≡ flight_count earlier + 1 =
    first_given (flight_count earlier + 1) s.sent (step_numbered setting s earlier is) (omega (arith, within)) in
    (ap (λ (o : Outcome). o.first_sent) comes ∙ begins, within)

pub posting_goes : {D : Type 0} (g : Ghosts D) (r old new : Driver D) (outcome : Outcome) (reference number n : ℕ) → outcome.first_sent ≤ number
    → number < min (outcome.first_sent + outcome.sent) (2 ^ 64 - 1) → n ≡ number + 1 - outcome.first_sent
    → Posts g r old outcome reference (number - outcome.first_sent)
    → ((setting : Setting) (y : Draft) (top : ℕ) → top < number → ((f : Flight) → look_in y.steps number ≡ Ok f → (f.sent_at ≡ reference) × (f.number ≡ number))
    → StandsTo g old setting y top
    → StandsTo g new setting (posted (look_in y.steps number) y) number)
    → Posts g r new outcome reference n
posting_goes g r old new outcome reference number n from within next before one setting x s earlier steps comes in_time stands =
    let i : ℕ = number - outcome.first_sent in
    let is : AreSteps setting (s ∷ earlier) = subst (AreSteps setting) steps (are_steps g r setting x (flight_count earlier) stands) in
    let some = sent_some setting s earlier is outcome comes (number - outcome.first_sent) (omega (arith, from, within)) in
    let its : number ≡ flight_count earlier + 1 + (number - outcome.first_sent) = omega (arith, from, some.0) in
    let more_of : n ≡ number - outcome.first_sent + 1 = omega (arith, from, next) in
    subst (λ (k : ℕ). StandsTo g new setting (with_first k s x) (flight_count earlier + k)) (sym more_of)
    (posts_one_more g setting x s earlier steps is old new (number - outcome.first_sent) number reference some.1 its in_time
    (before setting x s earlier steps comes in_time stands) (one setting))

take_whole : {A : Type 0} (xs : List A) (n : ℕ) → length xs ≤ n → take n xs ≡ xs
take_whole [] zero h = refl
take_whole [] (suc n) h = refl
take_whole (x ∷ xs) zero h = absurd (omega (arith, h))
take_whole (x ∷ xs) (suc n) h = ap (λ ys. x ∷ ys) (take_whole xs n (omega (arith, h)))

pub posting_ends : {D : Type 0} (g : Ghosts D) (old new : Driver D) (outcome : Outcome) (reference number : ℕ) → outcome.first_sent ≤ number
    → number ≤ min (outcome.first_sent + outcome.sent) (2 ^ 64 - 1)
    → min (outcome.first_sent + outcome.sent) (2 ^ 64 - 1) ≤ number → Posts g old new outcome reference (number - outcome.first_sent)
    → (setting : Setting) (x : Draft) (s : Step) (earlier : List Step) → x.steps ≡ s ∷ earlier → outcome ≡ outcome_of s → reference ≡ reference_of s.seen.event
    → StandsTo g old setting x (flight_count earlier) → StandsFor g new setting (each with_message s.seen.sent x)
posting_ends g old new outcome reference number from upto end posts setting x s earlier steps comes in_time stands =
    let is : AreSteps setting (s ∷ earlier) = subst (AreSteps setting) steps (are_steps g old setting x (flight_count earlier) stands) in
    let count : outcome.sent ≡ length s.sent = ap (λ (o : Outcome). o.sent) comes in
    let few : flight_count (s ∷ earlier) ≤ 2 ^ 41 = numbers_few setting (s ∷ earlier) is (omega (arith, stands.net.links)) in
    let all : flight_count (s ∷ earlier) ≡ length s.sent + flight_count earlier = counted s earlier in
    let first : outcome.first_sent ≤ flight_count earlier + 1 = low setting s earlier is outcome comes in
    let whole : number - outcome.first_sent ≡ length s.sent = omega (arith, from, upto, end, count, few, all, first) in
    let done : StandsTo g new setting (with_first (number - outcome.first_sent) s x) (flight_count earlier + (number - outcome.first_sent)) =
    posts setting x s earlier steps comes in_time stands in
    let here : StandsTo g new setting (with_first (length s.sent) s x) (flight_count earlier + length s.sent) =
    subst (λ (k : ℕ). StandsTo g new setting (with_first k s x) (flight_count earlier + k)) whole done in
    let top : flight_count earlier + length s.sent ≡ flight_count (s ∷ earlier) = omega (arith, all) in
    let draft : with_first (length s.sent) s x ≡ each with_message s.seen.sent x =
    ap (λ fs. each (λ f. when f.reaches (with_message f)) fs x) (take_whole s.sent (length s.sent) (omega arith))
    ∙ sym (each_reaching s.sent x) ∙ ap (λ fs. each with_message fs x) (sym (sent_reach setting s earlier is)) in
    let same : (each with_message s.seen.sent x).steps ≡ s ∷ earlier =
    ap (λ (y : Draft). y.steps) (sym draft) ∙ steps_stay (take (length s.sent) s.sent) x ∙ steps in
    subst (λ (k : ℕ). StandsTo g new setting (each with_message s.seen.sent x) k) (top ∙ ap flight_count (sym same))
    (subst (λ y. StandsTo g new setting y (flight_count earlier + length s.sent)) draft here)
  where
    low : (setting : Setting) (s : Step) (earlier : List Step) → AreSteps setting (s ∷ earlier) → (outcome : Outcome) → outcome ≡ outcome_of s
        → outcome.first_sent ≤ flight_count earlier + 1
    low setting s earlier is outcome comes =
        subst (λ (n : ℕ). n ≤ flight_count earlier + 1) (sym (ap (λ (o : Outcome). o.first_sent) comes)) (by s.sent (step_numbered setting s earlier is))
      where
        by : (fs : List Flight) → AreNumberedOn (flight_count earlier + 1) fs → first_number fs ≤ flight_count earlier + 1
        by [] is = omega arith
        by (f ∷ fs) is = let same = is.0 in omega (arith, same)

-- the numbers of what waits may go up to a greater one
pub wider : {D : Type 0} (g : Ghosts D) (r : Driver D) (setting : Setting) (x : Draft) (top number : ℕ) → top ≤ number → StandsTo g r setting x top
    → StandsTo g r setting x number
wider g r setting x top number more_of stands =
    record {
      net = stands.net;
      run = stands.run;
      is_run = stands.is_run;
      driven = stands.driven;
      steps = stands.steps;
      rng = stands.rng;
      leads = stands.leads;
      arrivals = stands_wider r.arrivals top number x.waiting more_of stands.arrivals;
    }

-- where no message is found, none waits
pub nothing_found : {D : Type 0} (g : Ghosts D) (r : Driver D) (setting : Setting) (x : Draft) (top number : ℕ) (found : Result Flight TakeFault)
    (e : TakeFault) → found ≡ Err e
    → ((run : Run) → g.stands r.driven setting run → found ≡ look_in (steps_of run) number) → top < number → StandsTo g r setting x top
    → StandsTo g r setting (posted (look_in x.steps number) x) number
nothing_found g r setting x top number found e is looks above stands =
    let none : look_in x.steps number ≡ Err e = sym (ap (λ t. look_in t number) stands.steps) ∙ sym (looks stands.run stands.driven) ∙ is in
    subst (λ o. StandsTo g r setting (posted o x) number) (sym none) (wider g r setting x top number (omega (arith, above)) stands)
