-- What a reply makes an event send, case by case.
use Rattle.std.specs.Prelude.{◌≡◌, ℕ, ◌+◌, ◌==◌, true, List, [], length, Option, Some, None, refl}
use Rattle.std.proofs.Common.{sym, ◌∙◌, ap}
use Rattle.std.proofs.lemmas.Bool.{eqb-true}
use Rattle.std.proofs.lemmas.List.{nil_from_length}
use Rattle.sd_num.specs.Lists.{map_or}
use Rattle.sd_plan.specs.declared.End.{End}
use Rattle.sd_device.specs.declared.msg.Message.{Message}
use Rattle.sd_device.specs.declared.msg.Flight.{Flight}
use Rattle.sd_device.specs.declared.Effect.{Effect}
use Rattle.sd_device.specs.declared.Effect.TheVariants.{Quiet, Send}
use Rattle.sd_sched.specs.declared.Event.{Event}
use Rattle.sd_sched.specs.Events.{reference_of, device_of}
use Rattle.sd_world.specs.declared.membership.AnswerSummary.{AnswerSummary}
use Rattle.sd_world.specs.membership.Memberships.{ends_below}
use Rattle.sd_fleet.specs.declared.Reply.{Reply}
use Rattle.sd_fleet.specs.Registers.{Registers}
use Rattle.sd_fleet.specs.Sending.{sent_by, sent_in}
use Rattle.sd_fleet.proofs.Adding.{length-over}

module _ (r : Registers) (e : Event) (reply : Reply) where
  pub sent_quiet : reply.effect ≡ Quiet → sent_in r e reply ≡ []
  sent_quiet quiet = ap (λ x. map_or (device_of e) [] (λ d. map_or reply.answers [] (λ (a : AnswerSummary). sent_by r (reference_of e) d a.epoch x))) quiet
      ∙ by (device_of e) reply.answers
    where
      by : (o : Option ℕ) (a : Option AnswerSummary) → ◌≡◌ {A = List Flight} (map_or o [] (λ d. map_or a [] (λ (x : AnswerSummary). []))) []
      by None a = refl
      by (Some d) None = refl
      by (Some d) (Some a) = refl

-- what a device that answers sends
pub sent_as : (r : Registers) (e : Event) (reply : Reply) (reference : ℕ) (device : Option ℕ) (d : ℕ) (a : AnswerSummary) → reference ≡ reference_of e
    → device ≡ device_of e → device ≡ Some d → reply.answers ≡ Some a → sent_in r e reply ≡ sent_by r reference d a.epoch reply.effect
sent_as r e reply reference device d a at named is answered =
    ap (λ o. map_or o [] (λ d. map_or reply.answers [] (λ (a : AnswerSummary). sent_by r (reference_of e) d a.epoch reply.effect))) (sym named ∙ is)
    ∙ ap (λ o. map_or o [] (λ (a : AnswerSummary). sent_by r (reference_of e) d a.epoch reply.effect)) answered
    ∙ ap (λ n. sent_by r n d a.epoch reply.effect) (sym at)

-- as many messages as ends
pub sent_size : (r : Registers) (reference d epoch : ℕ) (ends : List End) (effect : Effect) (m : Message) → ends ≡ ends_below r.membership epoch d
    → effect ≡ Send m → length ends ≡ length (sent_by r reference d epoch effect)
sent_size r reference d epoch ends effect m are sends =
    ap length are
    ∙ sym
    (ap (λ x. length (sent_by r reference d epoch x)) sends
    ∙ length-over r.net r.membership.world (record { reference = reference; sender = d; message = m }) (r.book.last + 1) (ends_below r.membership epoch d))

-- nothing over no ends
pub sent_nowhere : (r : Registers) (reference d epoch : ℕ) (ends : List End) (effect : Effect) (m : Message) → ends ≡ ends_below r.membership epoch d
    → effect ≡ Send m → (length ends == 0) ≡ true → sent_by r reference d epoch effect ≡ []
sent_nowhere r reference d epoch ends effect m are sends none =
    nil_from_length (sent_by r reference d epoch effect)
    (sym (sent_size r reference d epoch ends effect m are sends) ∙ eqb-true (length ends) 0 none)
