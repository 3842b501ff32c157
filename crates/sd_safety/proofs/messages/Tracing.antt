-- Each message that a device of a chronicle sends or accepts goes back, hop by hop, to an emission: by induction on the chronicle. It took no
-- longer than its hops, each at most the greatest delay of its link.
use Rattle.std.specs.Prelude.{◌≡◌, ℕ, zero, suc, true, List, [], ◌∷◌, Some, refl}
use Rattle.std.proofs.Common.{sym, ◌∙◌, subst}
use Rattle.std.proofs.lemmas.Bool.{and_parts}
use Rattle.sd_plan.specs.declared.Edge.{Edge}
use Rattle.sd_device.specs.declared.msg.Message.{Message}
use Rattle.sd_device.specs.declared.Effect.TheVariants.{Send}
use Rattle.sd_device.specs.Calls.{Call, Receive, Transition, Past}
use Rattle.sd_device.specs.Words.{transition_of, effect_of, accepted_over}
use Rattle.sd_history.specs.World.{Setting}
use Rattle.sd_history.specs.Steps.{Calls, Step, seen_of}
use Rattle.sd_history.specs.Chronicle.{past_in}
use Rattle.sd_history.specs.Premises.{delay_holds}
use Rattle.sd_safety.specs.messages.Moments.{whole, behind, IsChronicle, Moment, IsIn, IsBefore, Sends, is_emission}
use Rattle.sd_safety.specs.messages.Traces.{Hop, begins, goes_on, Traced}
use Rattle.sd_safety.proofs.messages.Tails.{rest_of, tail_trans}
use Rattle.sd_safety.proofs.messages.Sending.{Sender, root_sends, relay_sends, sender_of, sends_own, passes_on}
use Rattle.sd_safety.proofs.messages.Receipts.{Hopped, hop_of}

extend : (setting : Setting) (m n : Message) (from to : Moment) (x d : ℕ) → n.stamp ≡ m.stamp → n.epoch ≡ m.epoch → Traced setting n.stamp n.epoch from x
    → Hop setting m.stamp m.epoch from x to d → Traced setting m.stamp m.epoch to d
extend setting m n from to x d stamp epoch traced hop =
    let same : Traced setting m.stamp m.epoch from x =
    subst (λ e. Traced setting m.stamp e from x) epoch (subst (λ s. Traced setting s n.epoch from x) stamp traced) in
    record { hops = suc same.hops; first = same.first; source = same.source; trace = goes_on same.trace hop }

-- the sender's case, with the traces of all earlier sendings
sent_traced : (setting : Setting) (p : Moment) (steps : List Step) (d : ℕ) (message : Message) (past : Past) (call : Call) (transition : Transition)
    → IsIn p steps → IsChronicle setting steps → delay_holds setting (seen_of steps) ≡ true
    → past_in p.earlier d ≡ Some past → p.step.act ≡ Calls d call → effect_of past call ≡ Send message → transition_of past call ≡ transition
    → Sender past call transition
    → ((q : Moment) (x : ℕ) (m : Message) → IsBefore q p → Sends q x m → Traced setting m.stamp m.epoch q x)
    → Traced setting message.stamp message.epoch p d
sent_traced setting p steps d message past call transition here is delay there act effect transition_is (root_sends emission) before =
    record {
      hops = zero;
      first = p;
      source = d;
      trace =
          begins message
          (record {
            sends = record { past = past; call = call; there = there; act = act; effect = effect };
            emission = subst (λ x. is_emission x ≡ true) (sym transition_is) emission;
          }) refl refl;
    }
sent_traced setting p steps d message past call transition here is delay there act effect transition_is (relay_sends link m counter edge over) before =
    let accepted : accepted_over (transition_of past (Receive link m counter)) ≡ Some edge =
    subst (λ x. accepted_over x ≡ Some edge) (sym transition_is) over in
    let own = sends_own past (Receive link m counter) message effect in
    let on = passes_on past link m counter edge accepted in
    let hopped : Hopped setting m p d = hop_of setting p steps d link m counter past edge here is delay act there accepted in
    let traced : Traced setting m.stamp m.epoch p d =
    extend setting m hopped.message hopped.from p hopped.x d hopped.stamp hopped.epoch
    (before hopped.from hopped.x hopped.message hopped.hop.before hopped.sends) hopped.hop in
    subst (λ e. Traced setting message.stamp e p d) (sym (own.1 ∙ on.1)) (subst (λ s. Traced setting s m.epoch p d) (sym (own.0 ∙ on.0)) traced)

-- what is sent at a moment of a chronicle
pub sends_traced : (setting : Setting) (steps : List Step) → IsChronicle setting steps → delay_holds setting (seen_of steps) ≡ true
    → (p : Moment) (d : ℕ) (message : Message) → IsIn p steps → Sends p d message
    → Traced setting message.stamp message.epoch p d
sends_traced setting [] is delay p d message t sends = elim t [ ]
sends_traced setting (s ∷ earlier) is delay p d message (behind t) sends =
    sends_traced setting earlier is.0 ((and_parts _ _ delay).1) p d message t sends
sends_traced setting (s ∷ earlier) is delay p d message whole sends =
    sent_traced setting p (s ∷ earlier) d message sends.past sends.call
    (transition_of sends.past sends.call) whole is delay sends.there sends.act sends.effect refl (sender_of sends.past sends.call message sends.effect)
    (λ q x m t sends'. sends_traced setting earlier is.0 ((and_parts _ _ delay).1) q x m t sends')

-- Lemma 8: what a device accepts
pub accepted_traced : (setting : Setting) (steps : List Step) → IsChronicle setting steps → delay_holds setting (seen_of steps) ≡ true → (p : Moment)
    → IsIn p steps
    → (d link : ℕ) (m : Message) (counter : ℕ) (past : Past) (edge : Edge) → past_in p.earlier d ≡ Some past → p.step.act ≡ Calls d (Receive link m counter)
    → accepted_over (transition_of past (Receive link m counter)) ≡ Some edge
    → Traced setting m.stamp m.epoch p d
accepted_traced setting steps is delay p here d link m counter past edge there act over =
    let hopped : Hopped setting m p d = hop_of setting p steps d link m counter past edge here is delay act there over in
    extend setting m hopped.message hopped.from p hopped.x d hopped.stamp hopped.epoch
    (sends_traced setting steps is delay hopped.from hopped.x hopped.message (tail_trans hopped.hop.before (rest_of here)) hopped.sends) hopped.hop
