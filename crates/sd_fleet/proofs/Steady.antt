-- A tick while no window is open, and a receipt: the taking of its flight, and then a tick.
use Rattle.std.specs.Prelude.{◌≡◌, ℕ, Bool, true, false, ◌&&◌, not, List, ◌++◌, length, filter, nat_le, Some, None, refl, if◌then◌else◌}
use Rattle.std.specs.List.{list_all}
use Rattle.std.proofs.Common.{arith, sym, ◌∙◌, ap, subst}
use Rattle.sd_num.specs.Lists.{below}
use Rattle.sd_device.specs.declared.msg.Flight.{Flight}
use Rattle.sd_device.specs.msg.Books.{has_number, without, is_current}
use Rattle.sd_device.specs.declared.Effect.{Effect}
use Rattle.sd_sched.specs.declared.Event.TheVariants as event
use Rattle.sd_history.proofs.Filters.{both_tests, kept_alike}
use Rattle.sd_world.specs.declared.membership.AnswerSummary.{AnswerSummary}
use Rattle.sd_world.specs.declared.world.window.Window.{Window}
use Rattle.sd_world.specs.declared.world.window.Window.TheVariants.{Closed, Preparing, Committed}
use Rattle.sd_world.specs.world.Registers.{is_open, is_committed}
use Rattle.sd_world.specs.membership.Memberships as memberships
use Rattle.sd_world.specs.membership.Memberships.{staged_number, is_of, is_present, has_settled_at, can_close_in, registers_after, registers_closed}
use Rattle.sd_fleet.specs.declared.Reply.{Reply}
use Rattle.sd_fleet.specs.declared.messages.Sent.{Sent}
use Rattle.sd_fleet.specs.Registers.{Registers, kept}
use Rattle.sd_fleet.specs.Causes.{refusal_in}
use Rattle.sd_fleet.specs.Doing.{IsReplyTo, replied}
use Rattle.sd_fleet.specs.Outcomes.{first_number}
use Rattle.sd_fleet.specs.Sending.{sent_in}
use Rattle.sd_fleet.specs.Stepping.{IsAfter, IsWithout, closed_if_can, is_new_at, entered_in}
use Rattle.sd_fleet.specs.Keeping.{SendsTo}
use Rattle.sd_fleet.proofs.Calm.{as_tick, tick_accepted, IsAdmitted}
use Rattle.sd_fleet.proofs.Finishing.{sent_same}

-- A tick

pub tick_tells : (reference d counter : ℕ) (effect : Effect) (answers : AnswerSummary) → IsReplyTo (event.Tick reference d counter) (replied effect answers)
tick_tells reference d counter effect answers = record { effect = λ none. cc; answers = refl; report = refl }

pub receipt_tells : (reference d counter message : ℕ) (effect : Effect) (answers : AnswerSummary)
    → IsReplyTo (event.Recv reference d counter message) (replied effect answers)
receipt_tells reference d counter message effect answers = record { effect = λ none. cc; answers = refl; report = refl }

committed_shut : (w : Window) → is_open w ≡ false → is_committed w ≡ false
committed_shut Closed shut = refl
committed_shut Preparing shut = refl
committed_shut Committed shut = cc

-- no window closes that is not open, and nobody enters a plan that is not staged
module _ (r : memberships.Registers) (reference d counter : ℕ) (answers : AnswerSummary) (shut : is_open r.world.window ≡ false) where
  abbrev after : memberships.Registers
  after = registers_after r (event.Tick reference d counter) (Some answers)

  abbrev present : List ℕ
  present = filter (is_present after) (below (length after.answers))

  pub stays_shut : can_close_in after ≡ false
  stays_shut = ap (λ b. b && nat_le 1 (length present) && list_all (has_settled_at after) present) (committed_shut r.world.window shut)

  pub nobody_enters : entered_in r after (event.Tick reference d counter) ≡ None
  nobody_enters = ap (λ b. if (b && is_of after (staged_number after) d) && not (is_new_at r d) then Some d else None) shut

  pub not_closed : (observed : memberships.Registers) → observed ≡ after → observed ≡ closed_if_can observed
  not_closed observed is = sym (ap (λ b. if b then registers_closed observed else observed) (ap can_close_in is ∙ stays_shut))

-- A receipt

swapped : (a b : Bool) → (a && b) ≡ (b && a)
swapped true true = refl
swapped true false = refl
swapped false true = refl
swapped false false = refl

-- whichever is left out first
left_alike : (reference number : ℕ) (flights : List Flight)
    → filter (is_current reference) (without number flights) ≡ without number (filter (is_current reference) flights)
left_alike reference number flights =
    both_tests (is_current reference) (λ f. not (has_number number f)) flights
    ∙ kept_alike (λ f. is_current reference f && not (has_number number f)) (λ f. not (has_number number f) && is_current reference f) flights
    (λ f among. swapped (is_current reference f) (not (has_number number f)))
    ∙ sym (both_tests (λ f. not (has_number number f)) (is_current reference) flights)

module _ (old mid : Registers) (reference d counter message : ℕ) (effect : Effect) (answers : AnswerSummary) (taken : IsWithout message old mid) where
  abbrev reply : Reply
  reply = replied effect answers

  -- it is accepted as a tick
  pub mid_accepted : refusal_in old (event.Recv reference d counter message) ≡ None → refusal_in mid (event.Tick reference d counter) ≡ None
  mid_accepted accepted =
      tick_accepted mid reference d counter
      (subst (λ m. IsAdmitted (kept mid.net m mid.book) reference d counter) (sym taken.membership)
      (subst (λ n. IsAdmitted (kept n old.membership mid.book) reference d counter) (sym taken.net)
      (admitted_by (as_tick old reference d counter message accepted))))
    where
      admitted_by : IsAdmitted old reference d counter → IsAdmitted (kept old.net old.membership mid.book) reference d counter
      admitted_by a =
          record { known = a.known; alive = a.alive; on_time = a.on_time; rises = a.rises; up = a.up; going = a.going; left = a.left }

  sent_alike : sent_in mid (event.Tick reference d counter) reply ≡ sent_in old (event.Recv reference d counter message) reply
  sent_alike =
      ap (λ n. sent_in (kept n mid.membership mid.book) (event.Tick reference d counter) reply) taken.net
      ∙ ap (λ m. sent_in (kept old.net m mid.book) (event.Tick reference d counter) reply) taken.membership
      ∙ sent_same old mid.book (event.Tick reference d counter) reply taken.last

  pub receipt_after : (new : Registers) → IsAfter mid (event.Tick reference d counter) reply new
      → IsAfter old (event.Recv reference d counter message) reply new
  receipt_after new after =
      let size = ap length sent_alike in
      record {
        net = after.net ∙ taken.net;
        membership = after.membership ∙ ap (λ m. closed_if_can (registers_after m (event.Tick reference d counter) (Some answers))) taken.membership;
        flights = after.flights
            ∙ ap (λ fs. filter (is_current reference) fs ++ filter (λ (f : Flight). f.reaches) (sent_in mid (event.Tick reference d counter) reply))
            taken.flights
            ∙ ap (λ fs. fs ++ filter (λ (f : Flight). f.reaches) (sent_in mid (event.Tick reference d counter) reply))
            (left_alike reference message old.book.flights)
            ∙ ap (λ fs. without message (filter (is_current reference) old.book.flights) ++ filter (λ (f : Flight). f.reaches) fs) sent_alike;
        last = omega (arith, after.last, size, taken.last);
        size = after.size ∙ taken.size;
      }

  -- and what is sent is the same
  pub receipt_sends : (sent : Sent) (new : Registers) → SendsTo mid (event.Tick reference d counter) reply sent new
      → SendsTo old (event.Recv reference d counter message) reply sent new
  receipt_sends sent new sends =
      record {
        after = receipt_after new sends.after;
        first = sends.first ∙ ap first_number sent_alike;
        count = sends.count ∙ ap length sent_alike;
      }
