-- The reply to an event has what the event wants to be told, and no more.
use Rattle.std.specs.Prelude.{◌≡◌, ℕ, true, false, List, is_some, Option, None, Result, refl}
use Rattle.std.proofs.Common.{sym, ◌∙◌, ap, subst}
use Rattle.std.proofs.lemmas.Bool.{and_parts}
use Rattle.sd_num.specs.Lists.{map_or}
use Rattle.sd_plan.specs.Tables.{TableRow}
use Rattle.sd_device.specs.declared.msg.Flight.{Flight}
use Rattle.sd_device.specs.declared.msg.TakeFault.{TakeFault}
use Rattle.sd_device.specs.declared.Effect.TheVariants.{Quiet}
use Rattle.sd_device.specs.declared.node.Node.{Ghosts}
use Rattle.sd_sched.specs.declared.Event.{Event}
use Rattle.sd_sched.specs.declared.Event.TheVariants as event
use Rattle.sd_sched.specs.Events.{is_ask}
use Rattle.sd_world.specs.world.Registers.{is_open}
use Rattle.sd_world.specs.membership.Plans.{is_member_numbered}
use Rattle.sd_world.specs.membership.Memberships.{staged_number}
use Rattle.sd_device.specs.Calls.{Making}
use Rattle.sd_device.specs.Calls as calls
use Rattle.sd_device.specs.Calls.{Call}
use Rattle.sd_history.specs.Steps as steps
use Rattle.sd_fleet.specs.declared.Reply.{Reply}
use Rattle.sd_fleet.specs.Registers.{Registers}
use Rattle.sd_fleet.specs.Causes.{refusal_in}
use Rattle.sd_fleet.specs.Doing.{act_in, receipt, may_send, changes, IsReplyTo}
use Rattle.sd_fleet.proofs.Admitted.{message_known, message_unspent, started_member, given_member}
use Rattle.sd_fleet.specs.declared.nodes.CallContext.{CallContext}
use Rattle.sd_fleet.specs.Nodes.{MakesAt, CallsAt, Acts}
use Rattle.sd_fleet.proofs.Acting.{flight_found, row_there}

module _ {N : Type 0} (g : Ghosts N) (nodes after : List (Option N)) (context : CallContext) (reply : Reply) where
  -- of a device that was made, called or asked, and of none
  made : (e : Event) (d : ℕ) (m : Making) → changes e ≡ true → is_ask e ≡ false → MakesAt g nodes d m reply after → IsReplyTo e reply
  made e d m changed unasked is =
      record {
        effect = λ none. ap (λ (x : Reply). x.effect) is.replied;
        answers = ap (λ (x : Reply). is_some x.answers) is.replied ∙ sym changed;
        report = ap (λ (x : Reply). is_some x.report) is.replied ∙ sym unasked;
      }

  called : (e : Event) (d : ℕ) (c : Call) → changes e ≡ true → is_ask e ≡ false → CallsAt g nodes d c context reply after
      → (may_send e ≡ false → reply.effect ≡ Quiet) → IsReplyTo e reply
  called e d c changed unasked is quiet =
      record {
        effect = quiet;
        answers = ap (λ (x : Reply). is_some x.answers) is.replied ∙ sym changed;
        report = ap (λ (x : Reply). is_some x.report) is.replied ∙ sym unasked;
      }

  passed : (e : Event) → changes e ≡ false → is_ask e ≡ false → reply ≡ record { effect = Quiet; answers = None; report = None } → IsReplyTo e reply
  passed e unchanged unasked is =
      record {
        effect = λ none. ap (λ (x : Reply). x.effect) is;
        answers = ap (λ (x : Reply). is_some x.answers) is ∙ sym unchanged;
        report = ap (λ (x : Reply). is_some x.report) is ∙ sym unasked;
      }

  pub tells : (r : Registers) (e : Event) → refusal_in r e ≡ None → Acts g nodes (act_in r e) context reply after → IsReplyTo e reply
  tells r (event.Start reference d counter clock eps) accepted acts =
      let e = event.Start reference d counter clock eps in
      let (row, at) = row_there r.membership.plans r.membership.world.epoch d (started_member r e accepted d refl) in
      made e d (calls.Started row.duty counter clock eps) refl refl
      (subst (λ (o : Option TableRow). Acts g nodes (map_or o steps.Passes (λ row. steps.Makes d (calls.Started row.duty counter clock eps)))
      context reply after) at acts)
  tells r (event.Join reference d counter clock eps) accepted acts = made (event.Join reference d counter clock eps) d _ refl refl acts
  tells r (event.Tick reference d counter) accepted acts =
      called (event.Tick reference d counter) d (calls.Tick counter) refl refl acts (λ none. cc)
  tells r (event.Recv reference d counter message) accepted acts =
      let e = event.Recv reference d counter message in
      let (f, at) =
      flight_found r.book.last r.book.flights message reference (message_known r e accepted message refl) (message_unspent r e accepted message refl) in
      called e d (calls.Receive f.link f.message counter) refl refl
      (subst (λ (o : Result Flight TakeFault). Acts g nodes (receipt o d counter) context reply after) at acts) (λ none. cc)
  tells r (event.Fix reference d counter clock eps) accepted acts =
      called (event.Fix reference d counter clock eps) d (calls.Fix counter clock eps) refl refl acts (λ none. acts.quiet)
  tells r (event.Give reference d) accepted acts =
      let e = event.Give reference d in
      let parts = and_parts (is_open r.membership.world.window) (is_member_numbered r.membership.plans (staged_number r.membership) d)
      (given_member r e accepted d refl) in
      let (row, at) = row_there r.membership.plans (staged_number r.membership) d parts.1 in
      let is =
      subst (λ (o : Option TableRow). Acts g nodes (map_or o steps.Passes (λ row. steps.Calls d (calls.Give row.duty))) context reply after) at acts in
      called e d (calls.Give row.duty) refl refl is (λ none. is.quiet)
  tells r (event.Commit reference d counter) accepted acts =
      called (event.Commit reference d counter) d (calls.Commit counter) refl refl acts (λ none. acts.quiet)
  tells r (event.Seal reference d) accepted acts = called (event.Seal reference d) d calls.Seal refl refl acts (λ none. acts.quiet)
  tells r (event.Ask reference d counter) accepted acts =
      record {
        effect = λ none. ap (λ (x : Reply). x.effect) acts.0.replied;
        answers = ap (λ (x : Reply). is_some x.answers) acts.0.replied;
        report = ap (λ (x : Reply). is_some x.report) acts.0.replied;
      }
  tells r (event.Lose reference message) accepted acts = passed (event.Lose reference message) refl refl acts.0
  tells r (event.FailDevice reference d) accepted acts = passed (event.FailDevice reference d) refl refl acts.0
  tells r (event.FailLink reference l) accepted acts = passed (event.FailLink reference l) refl refl acts.0
  tells r (event.Stage reference) accepted acts = passed (event.Stage reference) refl refl acts.0
  tells r (event.MendDevice reference d) accepted acts = passed (event.MendDevice reference d) refl refl acts.0
  tells r (event.MendLink reference l) accepted acts = passed (event.MendLink reference l) refl refl acts.0
  tells r (event.End reference) accepted acts = passed (event.End reference) refl refl acts.0
