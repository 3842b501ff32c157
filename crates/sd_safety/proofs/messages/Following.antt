-- A device that follows its parent accepts the newest round of its epoch over the link to it, or has heard it since it was emitted: this is
-- what an open hop asks. A device with a given duty of the epoch enters.
use Rattle.std.specs.Prelude.{◌≡◌, ℕ, zero, suc, ◌<◌, ◌≤◌, Bool, true, false, ◌&&◌, List, nat_eq, nat_lt, Option, Some, None, ◌⊎◌, refl, if◌then◌else◌}
use Rattle.std.proofs.Common.{arith, sym, ◌∙◌, ap, subst, inl, inr}
use Rattle.std.proofs.lemmas.Bool.{and_from, or_left, or_right, lt-ltb, eq-eqb, cases_lt}
use Rattle.sd_plan.specs.declared.Duty.{Duty}
use Rattle.sd_plan.specs.declared.Edge.{Edge}
use Rattle.sd_device.specs.declared.msg.Stamp.{Stamp}
use Rattle.sd_device.specs.declared.msg.Message.{Message}
use Rattle.sd_device.specs.msg.Stamps.{stamp as stamp_at, is_newer}
use Rattle.sd_device.specs.Calls.{Past}
use Rattle.sd_device.specs.Words.{given_now, epoch_now, stamp_now, parent_edge, is_acting, has_moved, backup_now, primary_now}
use Rattle.sd_history.specs.World.{Setting}
use Rattle.sd_history.specs.Steps.{Step, seen_of}
use Rattle.sd_history.specs.Chronicle.{past_in}
use Rattle.sd_history.specs.Premises.{delay_holds, renew_holds, arrives_in_time, commits_orderly, seals_orderly, fails_orderly, begins_orderly}
use Rattle.sd_safety.specs.messages.Moments.{Tail, IsChronicle, Moment, upto, IsIn, IsBefore, Emits}
use Rattle.sd_safety.specs.messages.Traces.{Hop, Trace, begins, goes_on, Traced}
use Rattle.sd_safety.specs.messages.Stamping.{IsOlder, IsUpTo, StampFrom, unset, sent, committed}
use Rattle.sd_safety.specs.messages.Rounds.{Takes, Hears, HeardSince, IsOnlyEmission, IsNewest}
use Rattle.sd_safety.proofs.messages.Tails.{tail_trans, rest_of, tail_chronicle, tail_all, tail_each}
use Rattle.sd_safety.proofs.messages.Tracing.{sends_traced}
use Rattle.sd_safety.proofs.messages.Hearing.{heard_at, accepted_from_parent, accepted_by_given}
use Rattle.sd_safety.proofs.messages.Origins.{stamp_from}
use Rattle.sd_safety.proofs.messages.Latest.{never_committed, trace_first, stamp_at_most}

older_is_newer : (a b : Stamp) → IsOlder a b → is_newer b a ≡ true
older_is_newer a b (inl less) = or_left (nat_lt a.term b.term) (nat_eq b.term a.term && nat_lt a.round b.round) (lt-ltb a.term b.term less)
older_is_newer a b (inr both) =
    or_right (nat_lt a.term b.term) (nat_eq b.term a.term && nat_lt a.round b.round)
    (and_from (nat_eq b.term a.term) (nat_lt a.round b.round) (eq-eqb b.term a.term (sym both.0)) (lt-ltb a.round b.round both.1))

pub same_stamp : (a b : Stamp) → a.term ≡ b.term → a.round ≡ b.round → a ≡ b
same_stamp a b terms rounds = ap (λ x. stamp_at x a.round) terms ∙ ap (stamp_at b.term) rounds

pub older_or_same : (a b : Stamp) → IsUpTo a b → IsOlder a b ⊎ (a ≡ b)
older_or_same a b (inl less) = inl (inl less)
older_or_same a b (inr both) = go (cases_lt a.round b.round)
  where
    go : (a.round < b.round) ⊎ (b.round ≤ a.round) → IsOlder a b ⊎ (a ≡ b)
    go (inl less) = inl (inr (both.0, less))
    go (inr least) = let most = both.1 in inr (same_stamp a b both.0 (omega (arith, least, most)))

-- a device with a parent does not act
idle_by : (a m : Bool) (backup primary : Option Edge) (edge : Edge) → (if a then None else if m then backup else primary) ≡ Some edge → a ≡ false
idle_by true m backup primary edge same = cc
idle_by false m backup primary edge same = refl

pub parent_is_idle : (past : Past) (edge : Edge) → parent_edge past ≡ Some edge → is_acting past ≡ false
parent_is_idle past edge same = idle_by (is_acting past) (has_moved past) (backup_now past) (primary_now past) edge same

-- What was traced was heard since its emission, by others than its source.

heard_hop : (setting : Setting) (stamp : Stamp) (epoch : ℕ) (start from p q : Moment) (x d : ℕ) → IsIn start (upto from) → Hop setting stamp epoch from x p d
    → IsBefore p q → HeardSince stamp epoch start q d
heard_hop setting stamp epoch start from p q x d started hop before =
    let r = hop.receipt in
    let hears : Hears hop.flight.message.stamp hop.flight.message.epoch p d hop.flight.link =
    heard_at p d hop.flight.link hop.flight.message r.counter r.act (record { past = r.past; edge = r.edge; there = r.there; over = r.over }) in
    record {
      moment = p;
      since = tail_trans started hop.before;
      before = before;
      link = hop.flight.link;
      hears = subst (λ n. Hears stamp n p d hop.flight.link) hop.epoch_is (subst (λ s. Hears s hop.flight.message.epoch p d hop.flight.link) hop.carries hears);
    }

-- the first moment of a trace is the only one at which its round was emitted
AtStart : Stamp → Moment → ℕ → Moment → ℕ → Type 0
AtStart stamp start source first x0 = (message : Message) → Emits first x0 message → message.stamp ≡ stamp → (upto first ≡ upto start) × (x0 ≡ source)

began : (setting : Setting) (stamp : Stamp) (epoch : ℕ) (first : Moment) (x0 m : ℕ) (p : Moment) (d : ℕ) (start : Moment) (source : ℕ)
    → Trace setting stamp epoch first x0 m p d → AtStart stamp start source first x0 → upto first ≡ upto start
unfolding AtStart
began setting stamp epoch first x0 zero p d start source (begins message emits carries epoch_is) only = (only message emits carries).0
began setting stamp epoch first x0 (suc m) p d start source (goes_on {from = from} {x = x} trace hop) only =
    began setting stamp epoch first x0 m from x start source trace only

traced_heard : (setting : Setting) (stamp : Stamp) (epoch : ℕ) (start : Moment) (source : ℕ) (first : Moment) (x0 m : ℕ) (p q : Moment) (d : ℕ)
    → Trace setting stamp epoch first x0 m p d
    → AtStart stamp start source first x0 → (d ≡ source → ⊥) → IsBefore p q → HeardSince stamp epoch start q d
unfolding AtStart
traced_heard setting stamp epoch start source first x0 zero p q d (begins message emits carries epoch_is) only apart before =
    absurd (apart (only message emits carries).1)
traced_heard setting stamp epoch start source first x0 (suc m) p q d (goes_on {from = from} {x = x} trace hop) only apart before =
    heard_hop setting stamp epoch start from p q x d
    (subst (λ steps. Tail steps (upto from)) (began setting stamp epoch first x0 m from x start source trace only)
    (trace_first setting stamp epoch first x0 m from x trace)) hop before

-- a device that has the stamp of the round heard it since
has_heard : (setting : Setting) (steps : List Step) (stamp : Stamp) (epoch : ℕ) (start : Moment) (source : ℕ) (q : Moment) (d : ℕ) (past : Past)
    → IsChronicle setting steps → delay_holds setting (seen_of steps) ≡ true
    → renew_holds setting (seen_of steps) ≡ true → IsIn q steps → past_in q.earlier d ≡ Some past → is_acting past ≡ false → epoch_now past ≡ epoch
    → stamp_now past ≡ stamp → 1 ≤ stamp.round
    → IsOnlyEmission steps stamp start source → (d ≡ source → ⊥) → StampFrom q.earlier d past → HeardSince stamp epoch start q d
unfolding AtStart
has_heard setting steps stamp epoch start source q d past is delay renew here there idle epoch_is same some only apart (unset none) =
    let rounds : stamp.round ≡ 0 = ap (λ s. s.round) (sym same ∙ none) in
    absurd (omega (arith, some, rounds))
has_heard setting steps stamp epoch start source q d past is delay renew here there idle epoch_is same some only apart
    (committed p in_ before counter duty before_there act transition) =
    absurd (never_committed setting steps p d counter before duty is renew (tail_trans in_ (rest_of here)) act before_there transition)
has_heard setting steps stamp epoch start source q d past is delay renew here there idle epoch_is same some only apart (sent p in_ m by carries of) =
    by_epoch of
  where
    by_epoch : (m.epoch ≡ epoch_now past) ⊎ (is_acting past ≡ true) → HeardSince stamp epoch start q d
    by_epoch (inr acts) = let clash : true ≡ false = sym acts ∙ idle in cc
    by_epoch (inl own) =
        let t : Traced setting m.stamp m.epoch p d = sends_traced setting steps is delay p d m (tail_trans in_ (rest_of here)) by in
        let t' : Traced setting stamp epoch p d =
        subst (λ n. Traced setting stamp n p d) (own ∙ epoch_is) (subst (λ s. Traced setting s m.epoch p d) (carries ∙ same) t) in
        traced_heard setting stamp epoch start source t'.first t'.source t'.hops p q d t'.trace
        (λ message emits carries'. only t'.first
        (tail_trans (tail_trans (trace_first setting stamp epoch t'.first t'.source t'.hops p d t'.trace) in_) (rest_of here)) t'.source message emits
        carries')
        apart in_

-- over the link to its parent
pub follows_or_heard : (setting : Setting) (steps : List Step) (stamp : Stamp) (epoch : ℕ) (start : Moment) (source : ℕ) (q : Moment) (d l : ℕ) (m : Message)
    (c : ℕ) (past : Past) (edge : Edge) → IsChronicle setting steps
    → delay_holds setting (seen_of steps) ≡ true → renew_holds setting (seen_of steps) ≡ true → IsIn q steps → 1 ≤ stamp.round
    → IsOnlyEmission steps stamp start source → IsNewest stamp epoch q → (d ≡ source → ⊥)
    → m.stamp ≡ stamp → m.epoch ≡ epoch → past_in q.earlier d ≡ Some past → epoch_now past ≡ epoch → parent_edge past ≡ Some edge → edge.link ≡ l
    → Takes q d l m c ⊎ HeardSince stamp epoch start q d
follows_or_heard setting steps stamp epoch start source q d l m c past edge is delay renew here some only newest apart carries epoch_is there own parent link =
    by_order (older_or_same (stamp_now past) stamp most)
  where
    idle : is_acting past ≡ false
    idle = parent_is_idle past edge parent

    most : IsUpTo (stamp_now past) stamp
    most =
        stamp_at_most setting q.earlier d past stamp (tail_chronicle setting (rest_of here) is) (tail_all (arrives_in_time setting) (rest_of here) delay)
        (tail_each (λ s earlier. commits_orderly setting s earlier && seals_orderly setting s earlier && fails_orderly s earlier
        && begins_orderly setting s earlier) (rest_of here) renew) there idle
        (λ e. newest e.moment e.is_in e.device e.message e.emits (e.epoch_is ∙ own))

    by_order : IsOlder (stamp_now past) stamp ⊎ (stamp_now past ≡ stamp) → Takes q d l m c ⊎ HeardSince stamp epoch start q d
    by_order (inl older) =
        let newer : is_newer m.stamp (stamp_now past) ≡ true =
        subst (λ s. is_newer s (stamp_now past) ≡ true) (sym carries) (older_is_newer (stamp_now past) stamp older) in
        let accepted = accepted_from_parent past l m c edge (own ∙ sym epoch_is) newer parent link in
        inl (record { past = past; edge = accepted.edge; there = there; over = accepted.over })
    by_order (inr same) =
        inr (has_heard setting steps stamp epoch start source q d past is delay renew here there idle own same some only apart
        (stamp_from q.earlier d past there))

-- over the primary link of its given duty
pub given_takes : (q : Moment) (d l : ℕ) (m : Message) (c : ℕ) (past : Past) (duty : Duty) (edge : Edge) → past_in q.earlier d ≡ Some past
    → given_now past ≡ Some duty → duty.epoch ≡ m.epoch → duty.primary ≡ Some edge → edge.link ≡ l
    → Takes q d l m c
given_takes q d l m c past duty edge there given epoch primary link =
    let accepted = accepted_by_given past l m c duty edge given epoch primary link in
    record { past = past; edge = accepted.edge; there = there; over = accepted.over }
