-- What an accepted event sends by what is kept is what the history says that its step sends.
use Rattle.std.specs.Prelude.{◌≡◌, ℕ, ◌+◌, ◌*◌, ◌<◌, Bool, ◌&&◌, not, List, [], ◌∷◌, length, Option, Some, None, is_some, option_map, refl}
use Rattle.std.proofs.Common.{sym, ◌∙◌, ap, ap₂, subst}
use Rattle.sd_num.specs.Lists.{map_or}
use Rattle.sd_plan.specs.topo.Network.{Network, delay_of}
use Rattle.sd_plan.specs.declared.topo.Thing.TheVariants as thing
use Rattle.sd_plan.specs.declared.End.{End}
use Rattle.sd_device.specs.declared.msg.Message.{Message}
use Rattle.sd_device.specs.declared.msg.Flight.{Flight}
use Rattle.sd_device.specs.declared.Effect.{Effect}
use Rattle.sd_device.specs.declared.Effect.TheVariants.{Quiet, Send}
use Rattle.sd_sched.specs.declared.Event.{Event}
use Rattle.sd_sched.specs.Events.{reference_of, device_of}
use Rattle.sd_history.specs.World.{Setting, Seen, link_has_failed, plan_numbered}
use Rattle.sd_history.specs.Steps.{Answers, Told, Step, seen_of, changed, act_by, flight_count, flight_to, flights_to, ends_at, flights_by, flights_of}
use Rattle.sd_history.proofs.Among.{Among, first, later}
use Rattle.sd_history.proofs.flights.Places.{IsBelow, ends_planned, ends_below as end_is_below}
use Rattle.sd_world.specs.world.Registers.{failed_at}
use Rattle.sd_world.specs.world.Standing as worlds
use Rattle.sd_world.specs.declared.membership.AnswerSummary.{AnswerSummary}
use Rattle.sd_world.specs.membership.Standing.{summary}
use Rattle.sd_world.proofs.membership.Below.{ends_below_is}
use Rattle.sd_fleet.specs.declared.Reply.{Reply}
use Rattle.sd_fleet.specs.declared.messages.Sending.{Sending}
use Rattle.sd_fleet.specs.Registers.{Registers}
use Rattle.sd_fleet.specs.Causes.{refusal_in}
use Rattle.sd_fleet.specs.Doing.{MatchesTold, IsReplyTo}
use Rattle.sd_fleet.specs.Sending.{flight_over, flights_over, sent_by, sent_in}
use Rattle.sd_fleet.specs.FabricStanding.{Stands}
use Rattle.sd_fleet.proofs.FabricActing.{device_within, changed_is}

abbrev AreKnown : Network → List End → Type 0
AreKnown net ends = (e : End) → Among e ends → (e.link < length net.links) × (e.device < length net.devices)

module _ (setting : Setting) (r : Registers) (steps : List Step) (stands : Stands r setting steps) where
  abbrev seen : List Seen
  seen = seen_of steps

  abbrev sending : ℕ → ℕ → Message → Sending
  sending reference d message = record { reference = reference; sender = d; message = message }

  -- over one end
  over_is : (reference d : ℕ) (m : Message) (n : ℕ) (e : End) → (e.link < length setting.net.links) × (e.device < length setting.net.devices)
      → flight_over r.net r.membership.world (sending reference d m) n e ≡ flight_to setting steps reference d m n e
  over_is reference d m n e known =
      let link : failed_at r.membership.world (thing.Link e.link) ≡ link_has_failed seen e.link =
      stands.membership.world.links e.link (subst (λ (k : ℕ). e.link < k) (sym stands.membership.world.link_count) known.0) in
      let at : worlds.StandsAt r.membership.world seen e.device =
      stands.membership.world.devices e.device (subst (λ (k : ℕ). e.device < k) (sym stands.membership.world.device_count) known.1) in
      ap (λ net. flight_over net r.membership.world (sending reference d m) n e) stands.net
      ∙ ap₂ (λ (a b : Bool). record {
        number = n;
        link = e.link;
        sender = d;
        receiver = e.device;
        sent_at = reference;
        due = reference + (delay_of setting.net e.link e.device).max;
        last = reference + 2 * (delay_of setting.net e.link e.device).max;
        reaches = not a && b;
        message = m;
      }) link at.up

  -- over all of them
  pub flights_over_is : (reference d : ℕ) (m : Message) (n : ℕ) (ends : List End) → AreKnown setting.net ends
      → flights_over r.net r.membership.world (sending reference d m) n ends ≡ flights_to setting steps reference d m n ends
  flights_over_is reference d m n [] known = refl
  flights_over_is reference d m n (e ∷ ends) known =
      ap (λ f. f ∷ flights_over r.net r.membership.world (sending reference d m) (n + 1) ends) (over_is reference d m n e (known e first))
      ∙ ap (λ fs. flight_to setting steps reference d m n e ∷ fs) (flights_over_is reference d m (n + 1) ends (λ x a. known x (later a)))

  ends_known : (epoch d : ℕ) → AreKnown setting.net (ends_at setting steps epoch d)
  ends_known epoch d e a =
      let planned = ends_planned setting steps epoch d e a in
      let below_ : IsBelow setting.net (plan_numbered setting planned.0) d e = end_is_below setting.net (plan_numbered setting planned.0) d e planned.1 in
      (below_.link, below_.device)

  sent_by_is : (reference d epoch : ℕ) (effect : Effect) → d < length setting.net.devices
      → sent_by r reference d epoch effect ≡ flights_by setting steps reference d epoch effect
  sent_by_is reference d epoch Quiet within = refl
  sent_by_is reference d epoch (Send m) within =
      ap (λ ends. flights_over r.net r.membership.world (sending reference d m) (r.book.last + 1) ends)
      (ends_below_is r.membership setting steps stands.membership stands.membership.sound_plans epoch d within)
      ∙ ap (λ n. flights_over r.net r.membership.world (sending reference d m) (n + 1) (ends_at setting steps epoch d)) stands.sent
      ∙ flights_over_is reference d m (flight_count steps + 1) (ends_at setting steps epoch d) (ends_known epoch d)

  module _ (e : Event) (reply : Reply) (told : Told) (accepted : refusal_in r e ≡ None) (says : MatchesTold reply told) (tells : IsReplyTo e reply) where
    by_answers : (a : Option Answers) → told.answers ≡ a
        → map_or (device_of e) [] (λ d. map_or (option_map summary a) [] (λ (x : AnswerSummary). sent_by r (reference_of e) d x.epoch reply.effect))
        ≡ map_or (changed (act_by setting steps e)) [] (λ d. map_or a [] (λ (x : Answers). flights_by setting steps (reference_of e) d x.epoch told.effect))
    by_answers None is = none (device_of e) ∙ sym (none (changed (act_by setting steps e)))
      where
        none : (o : Option ℕ) → ◌≡◌ {A = List Flight} (map_or o [] (λ d. [])) []
        none None = refl
        none (Some d) = refl
    by_answers (Some a) is =
        let changed_ : changed (act_by setting steps e) ≡ device_of e =
        changed_is setting r steps stands e accepted (sym tells.answers ∙ ap is_some says.answers ∙ ap (λ o. is_some (option_map summary o)) is) in
        by_device (device_of e) refl ∙ sym (ap (λ o. map_or o [] (λ d. flights_by setting steps (reference_of e) d a.epoch told.effect)) changed_)
      where
        by_device : (o : Option ℕ) → device_of e ≡ o
            → map_or o [] (λ d. sent_by r (reference_of e) d a.epoch reply.effect)
            ≡ map_or o [] (λ d. flights_by setting steps (reference_of e) d a.epoch told.effect)
        by_device None named = refl
        by_device (Some d) named =
            sent_by_is (reference_of e) d a.epoch reply.effect (device_within setting r steps stands e accepted d named)
            ∙ ap (flights_by setting steps (reference_of e) d a.epoch) says.effect

    -- what the event sends
    pub sent_is : sent_in r e reply ≡ flights_of setting steps (reference_of e) (act_by setting steps e) told
    sent_is =
        ap (λ o. map_or (device_of e) [] (λ d. map_or o [] (λ (x : AnswerSummary). sent_by r (reference_of e) d x.epoch reply.effect))) says.answers
        ∙ by_answers told.answers refl
