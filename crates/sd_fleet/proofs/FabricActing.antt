-- What an accepted event does by what is kept is what the history says that it does.
use Rattle.std.specs.Prelude.{◌≡◌, ℕ, ◌<◌, true, false, List, length, Some, None, Ok, refl}
use Rattle.std.proofs.Common.{sym, ◌∙◌, ap, subst}
use Rattle.std.proofs.lemmas.Bool.{and_parts}
use Rattle.sd_num.specs.Lists.{map_or}
use Rattle.sd_plan.specs.topo.Network.{rates_of}
use Rattle.sd_plan.specs.declared.Plan.{Plan}
use Rattle.sd_plan.specs.Duties.{duty_of}
use Rattle.sd_plan.specs.Tables.{TableRow}
use Rattle.sd_device.specs.declared.msg.Flight.{Flight}
use Rattle.sd_device.specs.Calls as calls
use Rattle.sd_sched.specs.declared.Event.{Event}
use Rattle.sd_sched.specs.declared.Event.TheVariants as event
use Rattle.sd_sched.specs.Events.{device_of, message_of}
use Rattle.sd_history.specs.World.{Setting, Seen, window_is_open, staged_epoch, plan_numbered}
use Rattle.sd_history.specs.Steps.{Makes, Calls, Passes, Step, seen_of, flight_numbered, changed, act_by}
use Rattle.sd_history.specs.Refusals.{refusal}
use Rattle.sd_history.proofs.flights.Booking.{Takes, takes}
use Rattle.sd_world.specs.world.Registers.{is_open}
use Rattle.sd_world.specs.membership.Plans.{is_member_numbered}
use Rattle.sd_world.specs.membership.Memberships.{staged_number}
use Rattle.sd_world.proofs.membership.Queries.{staged_number_is, staged_when, member_row_numbered_is}
use Rattle.sd_fleet.specs.Registers.{Registers}
use Rattle.sd_fleet.specs.Causes.{refusal_in, flight_at}
use Rattle.sd_fleet.specs.Doing.{act_in, receipt, changes}
use Rattle.sd_fleet.specs.FabricStanding.{Stands}
use Rattle.sd_fleet.proofs.Refused.{same_look, refusal_is}
use Rattle.sd_fleet.proofs.Admitted.{device_known, started_member, given_member}

module _ (setting : Setting) (r : Registers) (steps : List Step) (stands : Stands r setting steps) where
  abbrev seen : List Seen
  seen = seen_of steps

  module _ (e : Event) (accepted : refusal_in r e ≡ None) where
    -- the history accepts it too
    pub accepts : refusal setting steps e ≡ None
    accepts = sym (refusal_is setting r steps e stands) ∙ accepted

    -- its device is one of the network
    pub device_within : (d : ℕ) → device_of e ≡ Some d → d < length setting.net.devices
    device_within d named = subst (λ net. d < length net.devices) stands.net (device_known r e accepted d named)

    -- the flight of its message is found
    pub flight_there : (n : ℕ) → message_of e ≡ Some n → (f : Flight) × (flight_at r n ≡ Ok f) × (flight_numbered steps n ≡ Some f)
    flight_there n names =
        let it : Takes steps e n = takes setting steps e n stands.accepted accepts names in
        (it.flight, same_look setting r steps e stands n ∙ it.looks, it.numbered)

  -- a start gives the duty of the plan in force
  started_is : (ref d c clock eps : ℕ) → refusal_in r (event.Start ref d c clock eps) ≡ None
      → act_in r (event.Start ref d c clock eps) ≡ act_by setting steps (event.Start ref d c clock eps)
  started_is ref d c clock eps accepted =
      let e : Event = event.Start ref d c clock eps in
      ap (λ o. map_or o Passes (λ (row : TableRow). Makes d (calls.Started row.duty c clock eps)))
      (member_row_numbered_is r.membership setting steps stands.membership r.membership.world.epoch d stands.membership.sound.in_force
      (device_within e accepted d refl) (started_member r e accepted d refl))
      ∙ ap (λ n. Makes d (calls.Started (duty_of setting.net (plan_numbered setting n) n d) c clock eps)) stands.membership.world.epoch

  -- a give gives that of the staged plan
  given_is : (ref d : ℕ) → refusal_in r (event.Give ref d) ≡ None → act_in r (event.Give ref d) ≡ act_by setting steps (event.Give ref d)
  given_is ref d accepted =
      let e : Event = event.Give ref d in
      let parts = and_parts (is_open r.membership.world.window) (is_member_numbered r.membership.plans (staged_number r.membership) d)
      (given_member r e accepted d refl) in
      let open_ : window_is_open seen ≡ true = sym stands.membership.world.open_window ∙ parts.0 in
      ap (λ o. map_or o Passes (λ (row : TableRow). Calls d (calls.Give row.duty)))
      (member_row_numbered_is r.membership setting steps stands.membership (staged_number r.membership) d (stands.membership.sound.staged parts.0)
      (device_within e accepted d refl) parts.1)
      ∙ ap (λ n. Calls d (calls.Give (duty_of setting.net (plan_numbered setting n) n d))) (staged_number_is r.membership setting steps stands.membership)
      ∙ sym (ap (λ o. map_or o Passes (λ (plan : Plan). Calls d (calls.Give (duty_of setting.net plan (staged_epoch seen) d))))
      (staged_when r.membership setting steps stands.membership open_))

  received_is : (ref d c n : ℕ) → refusal_in r (event.Recv ref d c n) ≡ None → act_in r (event.Recv ref d c n) ≡ act_by setting steps (event.Recv ref d c n)
  received_is ref d c n accepted =
      let it = flight_there (event.Recv ref d c n) accepted n refl in
      ap (λ look. receipt look d c) it.1 ∙ sym (ap (λ o. map_or o Passes (λ (f : Flight). Calls d (calls.Receive f.link f.message c))) it.2)

  -- what the event does
  pub act_is : (e : Event) → refusal_in r e ≡ None → act_in r e ≡ act_by setting steps e
  act_is (event.Start ref d c clock eps) accepted = started_is ref d c clock eps accepted
  act_is (event.Join ref d c clock eps) accepted = ap (λ net. Makes d (calls.Joined (rates_of net d) c clock eps)) stands.net
  act_is (event.Recv ref d c n) accepted = received_is ref d c n accepted
  act_is (event.Give ref d) accepted = given_is ref d accepted
  act_is _ accepted = refl

  -- the device that it makes or calls is the one that it names, if it makes or calls one
  pub changed_is : (e : Event) → refusal_in r e ≡ None → changes e ≡ true → changed (act_by setting steps e) ≡ device_of e
  changed_is (event.Start ref d c clock eps) accepted is = refl
  changed_is (event.Join ref d c clock eps) accepted is = refl
  changed_is (event.Tick ref d c) accepted is = refl
  changed_is (event.Recv ref d c n) accepted is =
      ap (λ o. changed (map_or o Passes (λ (f : Flight). Calls d (calls.Receive f.link f.message c)))) (flight_there (event.Recv ref d c n) accepted n refl).2
  changed_is (event.Fix ref d c clock eps) accepted is = refl
  changed_is (event.Give ref d) accepted is =
      let parts = and_parts (is_open r.membership.world.window) (is_member_numbered r.membership.plans (staged_number r.membership) d)
      (given_member r (event.Give ref d) accepted d refl) in
      ap (λ o. changed (map_or o Passes (λ (plan : Plan). Calls d (calls.Give (duty_of setting.net plan (staged_epoch seen) d)))))
      (staged_when r.membership setting steps stands.membership (sym stands.membership.world.open_window ∙ parts.0))
  changed_is (event.Commit ref d c) accepted is = refl
  changed_is (event.Seal ref d) accepted is = refl
  changed_is _ accepted is = cc

  pub unchanged_is : (e : Event) → changes e ≡ false → changed (act_by setting steps e) ≡ None
  unchanged_is (event.Lose ref n) is = refl
  unchanged_is (event.FailDevice ref d) is = refl
  unchanged_is (event.FailLink ref l) is = refl
  unchanged_is (event.Ask ref d c) is = refl
  unchanged_is (event.Stage ref) is = refl
  unchanged_is (event.MendDevice ref d) is = refl
  unchanged_is (event.MendLink ref l) is = refl
  unchanged_is (event.End ref) is = refl
  unchanged_is _ is = cc
