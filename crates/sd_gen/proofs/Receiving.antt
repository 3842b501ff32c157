-- Receipts, one after the other.
use Rattle.std.specs.Prelude.{◌≡◌, ℕ, suc, ◌^◌, ◌≤◌, Bool, true, false, Option, Some, None, refl}
use Rattle.std.proofs.Common.{arith, sym, subst}
use Rattle.sd_history.specs.World.{Setting}
use Rattle.sd_history.specs.Steps.{flight_count}
use Rattle.sd_history.proofs.flights.Counts.{numbers_few}
use Rattle.sd_gen.specs.declared.arrivals.Arrival.{Arrival}
use Rattle.sd_gen.specs.declared.arrivals.Arrivals.{Arrivals}
use Rattle.sd_gen.specs.arrivals.Waiting.{next_by, without}
use Rattle.sd_gen.specs.arrivals.Standing as arrivals
use Rattle.sd_gen.proofs.arrivals.Widening.{next_within}
use Rattle.sd_gen.specs.declared.driven.Driven.{Ghosts}
use Rattle.sd_gen.specs.declared.driver.Driver.{Driver}
use Rattle.sd_gen.specs.Drafts.{Draft, receive, receive_up_to, go_on, without_message}
use Rattle.sd_gen.specs.Standing.{StandsFor, Becomes}
use Rattle.sd_gen.specs.Receiving.{ReceivesNext, received}
use Rattle.sd_gen.proofs.Trying.{are_steps}

-- this many receipts more make it the draft that is meant
pub record StillTo {D : Type 0} (g : Ghosts D) (driver : Driver D) (setting : Setting) (moment n : ℕ) (meant : Draft) : Type 0 where
  pub draft : Draft
  pub stands : StandsFor g driver setting draft
  pub rest : receive_up_to setting moment n draft ≡ meant

pub begins : {D : Type 0} (g : Ghosts D) (r : Driver D) (setting : Setting) (moment n : ℕ) (x : Draft) → StandsFor g r setting x
    → StillTo g r setting moment n (receive_up_to setting moment n x)
begins g r setting moment n x stands = record { draft = x; stands = stands; rest = refl }

pub receives_one_more : {D : Type 0} (g : Ghosts D) (old new : Driver D) (setting : Setting) (moment n : ℕ) (meant : Draft)
    → StillTo g old setting moment (suc n) meant
    → ((x : Draft) → StandsFor g old setting x → ReceivesNext g new setting x (next_by moment x.waiting) true) → StillTo g new setting moment n meant
unfolding receive_up_to
receives_one_more g old new setting moment n meant still one = by (next_by moment still.draft.waiting) (one still.draft still.stands) still.rest
  where
    by : (o : Option Arrival) → ReceivesNext g new setting still.draft o true → go_on setting o (receive_up_to setting moment n) still.draft ≡ meant
        → StillTo g new setting moment n meant
    by None received rest = let never : true ≡ false = received.0 in cc
    by (Some w) received rest = record { draft = receive setting w still.draft; stands = received.1; rest = rest }

pub stops : {D : Type 0} (g : Ghosts D) (old new : Driver D) (setting : Setting) (moment n : ℕ) (meant : Draft) → StillTo g old setting moment (suc n) meant
    → ((x : Draft) → StandsFor g old setting x → ReceivesNext g new setting x (next_by moment x.waiting) false) → StandsFor g new setting meant
unfolding receive_up_to
stops g old new setting moment n meant still one = by (next_by moment still.draft.waiting) (one still.draft still.stands) still.rest
  where
    by : (o : Option Arrival) → ReceivesNext g new setting still.draft o false → go_on setting o (receive_up_to setting moment n) still.draft ≡ meant
        → StandsFor g new setting meant
    by None received rest = subst (λ y. StandsFor g new setting y) rest received.1
    by (Some w) received rest = let never : false ≡ true = received.0 in cc

pub ends : {D : Type 0} (g : Ghosts D) (r : Driver D) (setting : Setting) (moment : ℕ) (meant : Draft) → StillTo g r setting moment 0 meant
    → StandsFor g r setting meant
unfolding receive_up_to
ends g r setting moment meant still = subst (λ y. StandsFor g r setting y) still.rest still.stands

-- with the count in another form
pub counted : {D : Type 0} (g : Ghosts D) (r : Driver D) (setting : Setting) (moment m n : ℕ) (meant : Draft) → m ≡ n → StillTo g r setting moment m meant
    → StillTo g r setting moment n meant
counted g r setting moment m n meant same still = subst (λ (k : ℕ). StillTo g r setting moment k meant) same still

-- and with what was told
pub told : {D : Type 0} (g : Ghosts D) (new : Driver D) (setting : Setting) (x : Draft) (o : Option Arrival) (more known : Bool) → more ≡ known
    → ReceivesNext g new setting x o more → ReceivesNext g new setting x o known
told g new setting x o more known same received = subst (λ (b : Bool). ReceivesNext g new setting x o b) same received

-- the message that came next is received
pub received_next : {D : Type 0} (g : Ghosts D) (old new : Driver D) (kept : Arrivals) (w : Arrival) (moment : ℕ) (setting : Setting) (x : Draft)
    → StandsFor g old setting x → ◌≡◌ {A = Option Arrival} (Some w) (next_by moment x.waiting)
    → arrivals.StandsFor kept (flight_count x.steps) (without w.number x.waiting)
    → (w.number ≤ 2 ^ 60 → Becomes g (record old { arrivals = kept }) new (λ s. received s w)) → ReceivesNext g new setting x (next_by moment x.waiting) true
received_next g old new kept w moment setting x stands next left becomes =
    let few : flight_count x.steps ≤ 2 ^ 41 =
    numbers_few setting x.steps (are_steps g old setting x (flight_count x.steps) stands) (omega (arith, stands.net.links)) in
    let within : w.number ≤ flight_count x.steps = next_within moment (flight_count x.steps) x.waiting w stands.arrivals.numbers (sym next) in
    subst (λ o. ReceivesNext g new setting x o true) next (
      refl,
      becomes (omega (arith, few, within)) setting (without_message setting w.number x)
          (record {
            net = stands.net;
            run = stands.run;
            is_run = stands.is_run;
            driven = stands.driven;
            steps = stands.steps;
            rng = stands.rng;
            leads = stands.leads;
            arrivals = left;
          }),
    )
