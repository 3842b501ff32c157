use Rattle.std.proofs.Common.{◌≡◌, ℕ, ◌&&◌, max, cond, true, false, List, ◌∷◌, None, sym, ◌∙◌, ap, subst, arith}
use Rattle.sd_num.specs.Lists.{map_or, same_number}
use Rattle.sd_plan.specs.declared.topo.Thing.{Thing}
use Rattle.sd_plan.specs.domain.Things.{same_thing}
use Rattle.sd_sched.specs.Events.{reference_of}
use Rattle.sd_history.specs.World.{Setting, Seen}
use Rattle.sd_monitors.specs.loss.rounds.Order.{last_sent, Follows}
use Rattle.sd_monitors.specs.loss.rounds.Loss.{mark_in, with_sent, if_in_time, HasOnlyLost, AddsLost}
use Rattle.sd_monitors.specs.loss.flights.RunsView.{has_round}
use Rattle.sd_monitors.specs.loss.flights.WaitingView.{waiting_at}
use Rattle.sd_monitors.specs.loss.flights.InterruptionsView.{mark_of, last_number, device_places, link_places, has_place}
use Rattle.sd_monitors.specs.loss.rounds.Standing.{StandsFor, IsShown, Keeps}
use Rattle.sd_monitors.proofs.loss.rounds.InOrder.{last_sent_with}
use Rattle.sd_monitors.proofs.loss.rounds.Sending.{with_sent_same, greatest_of}
use Rattle.sd_monitors.proofs.loss.rounds.Waits.{LeavesTaken, waits_next}
use Rattle.sd_monitors.proofs.loss.rounds.Observing.{stays_broken, mark_next, spoiled_next, judged_next}
use Rattle.sd_monitors.proofs.loss.rounds.Rounds.see.Goals as goal
use Rattle.sd_monitors.proofs.loss.rounds.Rounds.see.Goals.{After-send}

pub returns-then-not-self-clause-holds : goal.returns-then-not-self-clause-holds
returns-then-not-self-clause-holds c setting earlier s told follows was =
    sym (stays_broken setting s earlier (sym was.holds ∙ c.if-not-self.true))

pub returns-then-not-self-clause-stands : goal.returns-then-not-self-clause-stands
returns-then-not-self-clause-stands c setting earlier s told follows was =
    let broken : c.args.self.now.holds ≡ false = c.if-not-self.true in
    record {
      order = (was.order, follows);
      limit = was.limit;
      holds = broken ∙ sym (stays_broken setting s earlier (sym was.holds ∙ broken));
      kept = λ holds. absurd (cc (broken, holds));
    }

stands : (c : After-send) → (setting : Setting) (earlier : List Seen) (s : Seen) → IsShown c.args.reference c.args.failed c.args.taken c.args.sent.now s
    → Follows setting earlier s → StandsFor c.args.self.now setting earlier → StandsFor c.send.new.self setting (s ∷ earlier)
stands c setting earlier s told follows was =
    let old = c.args.self.now in
    let holds : old.holds ≡ true = c.if-not-self.false in
    let kept : Keeps old setting earlier = was.kept holds in
    let waited = waiting_at old.waiting in
    let left = waiting_at c.receive.new.self in
    let marks = mark_of c.fail.new.self in
    let judged = c.judge-self.new.self in
    let new = c.send.new.self in
    let reference : reference_of s.event ≡ c.args.reference = told.reference in
    let received : LeavesTaken s waited left = λ n. c.receive.ensures.flights n ∙ ap (λ o. cond (same_number o n) None (waited n)) (sym told.taken) in
    let marked : (x : Thing) → marks x ≡ mark_in (s ∷ earlier) x =
    mark_next setting earlier s old.interruptions c.fail.new.self follows kept.devices kept.links kept.last kept.marks
    (λ x. c.fail.ensures.marks x
    ∙ ap (λ o. cond (map_or o false (λ f. same_thing x f && has_place old.interruptions f)) (last_number old.interruptions) (mark_of old.interruptions x))
    (sym told.failed)) in
    let only : HasOnlyLost left marks (reference_of s.event) (has_round old.runs) (has_round judged.runs) =
    subst (λ (n : ℕ). HasOnlyLost left marks n (has_round old.runs) (has_round judged.runs)) (sym reference) c.judge-self.ensures.only in
    let adds : c.judge-self.result ≡ true → AddsLost left marks (reference_of s.event) (has_round old.runs) (has_round judged.runs) =
    λ still. subst (λ (n : ℕ). AddsLost left marks n (has_round old.runs) (has_round judged.runs)) (sym reference) (c.judge-self.ensures.lost still) in
    let result : new.holds ≡ c.judge-self.result = c.send.ensures.holds in
    let last : last_number new.interruptions ≡ last_sent (s ∷ earlier) =
    (let now : last_number new.interruptions ≡ max (last_number judged.interruptions) (greatest_of c.args.sent.now) = c.send.ensures.last in
    let before : last_number judged.interruptions ≡ last_sent earlier = ap last_number c.judge-self.ensures.interruptions ∙ c.fail.ensures.last ∙ kept.last in
    let told_sent : greatest_of s.sent ≡ greatest_of c.args.sent.now = ap greatest_of told.sent in
    omega (arith, now, before, told_sent, last_sent_with s earlier)) in
    let sent : c.judge-self.result ≡ true → (n : ℕ) → waiting_at new.waiting n ≡ with_sent s.sent (λ m. if_in_time (reference_of s.event) (left m)) n =
    λ still n. c.send.ensures.waiting n ∙ ap (λ fs. with_sent fs (waiting_at judged.waiting) n) (sym told.sent)
    ∙ with_sent_same s.sent (waiting_at judged.waiting) (λ m. if_in_time (reference_of s.event) (left m))
    (λ m. c.judge-self.ensures.waiting still m ∙ ap (λ r. if_in_time r (left m)) (sym reference)) n in
    record {
      order = (was.order, follows);
      limit = c.send.ensures.limit ∙ c.judge-self.ensures.limit ∙ was.limit;
      holds = result
          ∙ judged_next setting earlier s was.order follows waited left kept.waiting received marks marked (has_round old.runs)
          (has_round judged.runs) kept.spoiled only
          old.limit was.limit (sym was.holds ∙ holds) c.judge-self.result adds c.judge-self.ensures.short c.judge-self.ensures.long;
      kept = λ still.
          let ok : c.judge-self.result ≡ true = sym result ∙ still in
          record {
            devices = c.send.ensures.places.devices ∙ ap device_places c.judge-self.ensures.interruptions ∙ c.fail.ensures.places.devices ∙ kept.devices;
            links = c.send.ensures.places.links ∙ ap link_places c.judge-self.ensures.interruptions ∙ c.fail.ensures.places.links ∙ kept.links;
            waiting = waits_next setting earlier s was.order follows waited left (waiting_at new.waiting) kept.waiting received (sent ok);
            last = last;
            marks = λ x. c.send.ensures.marks x ∙ ap (λ i. mark_of i x) c.judge-self.ensures.interruptions ∙ marked x;
            spoiled = λ t r. ap (λ runs. has_round runs t r) c.send.ensures.runs
                ∙ spoiled_next setting earlier s was.order follows waited left kept.waiting received marks marked (has_round old.runs)
                (has_round judged.runs) kept.spoiled only (adds ok) t r;
          };
    }

pub returns-clause-stands : goal.returns-clause-stands
returns-clause-stands c = stands c

pub returns-clause-holds : goal.returns-clause-holds
returns-clause-holds c setting earlier s told follows was = (stands c setting earlier s told follows was).holds
