-- A tick or a receipt after which its device answers as before, while no window is open: that it is accepted, what is sent, and what comes of it.
use Rattle.std.specs.Prelude.{◌≡◌, ℕ, true, false, Some, None, Ok, refl, if◌then◌else◌}
use Rattle.std.specs.Result.{result_ok}
use Rattle.std.proofs.Common.{sym, ◌∙◌, ap}
use Rattle.std.proofs.lemmas.Bool.{not-false}
use Rattle.sd_num.specs.Lists.{at_place, map_or}
use Rattle.sd_device.specs.declared.msg.Flight.{Flight}
use Rattle.sd_device.specs.declared.Effect.{Effect}
use Rattle.sd_sched.specs.declared.Event.TheVariants as event
use Rattle.sd_world.specs.declared.membership.AnswerSummary.{AnswerSummary}
use Rattle.sd_world.specs.world.Registers.{is_open, up_at}
use Rattle.sd_world.specs.membership.Memberships.{live_at}
use Rattle.sd_fleet.specs.declared.messages.Sent.{Sent}
use Rattle.sd_fleet.specs.Registers.{Registers}
use Rattle.sd_fleet.specs.Causes.{refusal_in, flight_at}
use Rattle.sd_fleet.specs.Calm.{is_on_time}
use Rattle.sd_fleet.specs.Doing.{replied}
use Rattle.sd_fleet.specs.Stepping.{outcome_in}
use Rattle.sd_fleet.specs.Keeping.{SendsTo, outcome_keeping}
use Rattle.sd_fleet.proofs.Admitted.{clear}
use Rattle.sd_fleet.proofs.Calm.{receipt_accepted}
use Rattle.sd_fleet.proofs.Outcoming.{same_outcome}
use Rattle.sd_fleet.proofs.Steady.{stays_shut, nobody_enters}

-- a tick that is not refused admits the receipt of a flight that is on its way
pub heard_accepted : (r : Registers) (reference d counter message : ℕ) → refusal_in r (event.Tick reference d counter) ≡ None
    → is_on_time reference d (flight_at r message) ≡ true → refusal_in r (event.Recv reference d counter message) ≡ None
heard_accepted r reference d counter message accepted timed =
    let all = clear r (event.Tick reference d counter) accepted in
    receipt_accepted r reference d counter message
    (record {
      known = all.unknown;
      alive = all.dead;
      on_time = all.early;
      rises = all.falls;
      up = all.down;
      going = all.over;
      left = all.too_many;
    })
    timed

-- answers of which the number of the followed plan alone counts
abbrev pub following : ℕ → AnswerSummary
following epoch = record { parent = None; acts = false; sealed = false; epoch = epoch; given = None }

-- a device that ticks is up, so the plan that it follows is the one that it answered
pub epoch_is : (r : Registers) (reference d counter : ℕ) (a : AnswerSummary) → refusal_in r (event.Tick reference d counter) ≡ None
    → at_place r.membership.answers d None (λ x. x) ≡ Some a → map_or (live_at r.membership d) 0 (λ x. x.epoch) ≡ a.epoch
epoch_is r reference d counter a accepted at =
    ap (λ b. map_or (if b then at_place r.membership.answers d None (λ (x : _). x) else None) 0 (λ (x : AnswerSummary). x.epoch))
    (not-false (up_at r.membership.world d) (clear r (event.Tick reference d counter) accepted).down)
    ∙ ap (λ o. map_or o 0 (λ (x : AnswerSummary). x.epoch)) at

module _ (r new : Registers) (reference d counter : ℕ) (effect : Effect) (a : AnswerSummary) (sent : Sent)
    (shut : is_open r.membership.world.window ≡ false) where
  pub outcome_tick : SendsTo r (event.Tick reference d counter) (replied effect a) sent new
      → outcome_keeping r d None sent ≡ outcome_in r (event.Tick reference d counter) (replied effect a)
  outcome_tick sends =
      same_outcome (outcome_keeping r d None sent) (outcome_in r (event.Tick reference d counter) (replied effect a)) refl refl sends.first sends.count
      (sym (nobody_enters r.membership reference d counter a shut)) refl (sym (stays_shut r.membership reference d counter a shut)) refl

  pub outcome_receipt : (message : ℕ) (f : Flight) → flight_at r message ≡ Ok f
      → SendsTo r (event.Recv reference d counter message) (replied effect a) sent new
      → outcome_keeping r d (Some f) sent ≡ outcome_in r (event.Recv reference d counter message) (replied effect a)
  outcome_receipt message f found sends =
      same_outcome (outcome_keeping r d (Some f) sent) (outcome_in r (event.Recv reference d counter message) (replied effect a)) refl
      (sym (ap result_ok found)) sends.first sends.count
      (sym (nobody_enters r.membership reference d counter a shut)) refl (sym (stays_shut r.membership reference d counter a shut)) refl
