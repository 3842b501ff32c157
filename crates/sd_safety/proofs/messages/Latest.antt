-- While renewals keep their order a commit never raises the term; so each stamp of a device was emitted, and is at most the newest that
-- was emitted in its epoch.
use Rattle.std.specs.Prelude.{◌≡◌, ℕ, zero, suc, Bool, true, false, ◌&&◌, ◌||◌, not, List, [], ◌∷◌, Option, Some, None, option_map, ◌⊎◌, refl, if◌then◌else◌}
use Rattle.std.proofs.Common.{arith, sym, ◌∙◌, ap, subst, inl, inr}
use Rattle.std.proofs.lemmas.Bool.{and_parts}
use Rattle.sd_num.specs.Lists.{map_or}
use Rattle.sd_plan.specs.declared.Duty.{Duty}
use Rattle.sd_plan.specs.declared.Plan.{Plan}
use Rattle.sd_plan.specs.Duties.{duty_of}
use Rattle.sd_device.specs.declared.msg.Stamp.{Stamp}
use Rattle.sd_device.specs.declared.msg.Message.{Message}
use Rattle.sd_device.specs.declared.msg.Flight.{Flight}
use Rattle.sd_device.specs.msg.Stamps.{stamp}
use Rattle.sd_device.specs.Calls as calls
use Rattle.sd_device.specs.Calls.{Commit, Committed, Recommitted, Nothing, Past}
use Rattle.sd_device.specs.Words.{transition_of, given_now, epoch_now, stamp_now, is_acting}
use Rattle.sd_sched.specs.declared.Event.{Event}
use Rattle.sd_sched.specs.declared.Event.TheVariants as event
use Rattle.sd_sched.specs.Events.{is_commit}
use Rattle.sd_history.specs.World.{Setting, is_up, staged, staged_epoch}
use Rattle.sd_history.specs.Steps.{Calls, Passes, Answers, Step, seen_of, events_of, act_by, acts_in, acted_by, answers_in, flight_numbered}
use Rattle.sd_history.specs.Chronicle.{answers_by, past_in, next_step, chronicle}
use Rattle.sd_history.specs.Premises.{delay_holds, renew_holds, commits_orderly, seals_orderly, fails_orderly, begins_orderly}
use Rattle.sd_history.proofs.Bridges.{answers_by_words}
use Rattle.sd_safety.specs.messages.Moments.{whole, behind, IsChronicle, Moment, upto, IsIn, Sends, Emits}
use Rattle.sd_safety.specs.messages.Traces.{Trace, begins, goes_on, Traced}
use Rattle.sd_safety.specs.messages.Stamping.{IsUpTo, StampFrom, unset, sent, committed}
use Rattle.sd_safety.proofs.messages.Tails.{tail_trans, tail_chronicle, tail_each}
use Rattle.sd_safety.proofs.messages.Tracing.{sends_traced}
use Rattle.sd_safety.proofs.messages.Origins.{stamp_from}
use Rattle.sd_safety.proofs.messages.Receipts.{device_is, call_is}

-- What a chronicle's devices answer is what the words say.

chronicle_is : (setting : Setting) (steps : List Step) → IsChronicle setting steps → steps ≡ chronicle setting (events_of steps)
chronicle_is setting [] is = refl
chronicle_is setting (s ∷ earlier) is =
    ap (λ x. x ∷ earlier) is.1 ∙ ap (λ steps. next_step setting steps s.seen.event ∷ steps) (chronicle_is setting earlier is.0)

pub answers_are : (setting : Setting) (steps : List Step) (d : ℕ) → IsChronicle setting steps → answers_in steps d ≡ option_map answers_by (past_in steps d)
answers_are setting steps d is =
    subst (λ x. answers_in x d ≡ option_map answers_by (past_in x d)) (sym (chronicle_is setting steps is)) (answers_by_words setting (events_of steps) d)

acts_by : (up : Bool) (o : Option Answers) (past : Past) → o ≡ Some (answers_by past) → map_or (if up then o else None) false (λ a. a.acts) ≡ true
    → is_acting past ≡ true
acts_by true o past is acts = sym (ap (λ x. map_or x false (λ (a : Answers). a.acts)) is) ∙ acts
acts_by false o past is acts = cc

pub acts_is : (setting : Setting) (steps : List Step) (d : ℕ) (past : Past) → IsChronicle setting steps → past_in steps d ≡ Some past → acts_in steps d ≡ true
    → is_acting past ≡ true
acts_is setting steps d past is there acts =
    acts_by (is_up (seen_of steps) d) (answers_in steps d) past (answers_are setting steps d is ∙ ap (option_map answers_by) there) acts

-- A commit is of a device that acts.

record IsCommit (e : Event) (d : ℕ) : Type 0 where
  reference : ℕ
  counter : ℕ
  is : e ≡ event.Commit reference d counter

no_receipt : (e : Event) (v d k c : ℕ) (o : Option Flight) → map_or o Passes (λ f. Calls v (calls.Receive f.link f.message k)) ≡ Calls d (Commit c)
    → IsCommit e d
no_receipt e v d k c None same = cc
no_receipt e v d k c (Some f) same = let call = call_is same in cc

no_give : (e : Event) (v d c : ℕ) (give : Plan → Duty) (o : Option Plan) → map_or o Passes (λ plan. Calls v (calls.Give (give plan))) ≡ Calls d (Commit c)
    → IsCommit e d
no_give e v d c give None same = cc
no_give e v d c give (Some plan) same = let call = call_is same in cc

commit_event : (setting : Setting) (earlier : List Step) (e : Event) (d c : ℕ) → act_by setting earlier e ≡ Calls d (Commit c) → IsCommit e d
commit_event setting earlier (event.Commit r v k) d c same = record { reference = r; counter = k; is = ap (λ x. event.Commit r x k) (device_is same) }
commit_event setting earlier (event.Recv r v k n) d c same = no_receipt (event.Recv r v k n) v d k c (flight_numbered earlier n) same
commit_event setting earlier (event.Give r v) d c same =
    no_give (event.Give r v) v d c (λ plan. duty_of setting.net plan (staged_epoch (seen_of earlier)) v) (staged setting (seen_of earlier)) same
commit_event setting earlier (event.Tick r v k) d c same = let call = call_is same in cc
commit_event setting earlier (event.Fix r v k clock eps) d c same = let call = call_is same in cc
commit_event setting earlier (event.Seal r v) d c same = let call = call_is same in cc
commit_event setting earlier _ d c same = cc

acted_first : (c a b : Bool) → c ≡ true → (not c || (a && b)) ≡ true → a ≡ true
acted_first true true b is h = refl
acted_first true false b is h = cc
acted_first false a b is h = cc

first_of_four : (a b c d : Bool) → (a && b && c && d) ≡ true → a ≡ true
first_of_four true b c d h = refl
first_of_four false b c d h = cc

-- the orderly commit of a moment
acted_at : (setting : Setting) (p : Moment) (d c : ℕ) → IsChronicle setting (upto p) → renew_holds setting (seen_of (upto p)) ≡ true
    → p.step.act ≡ Calls d (Commit c) → acts_in p.earlier d ≡ true
acted_at setting p d c is renew act =
    let e : IsCommit p.step.seen.event d = commit_event setting p.earlier p.step.seen.event d c (sym (ap (λ s. s.act) is.1) ∙ act) in
    let orderly : commits_orderly setting p.step.seen (seen_of p.earlier) ≡ true =
    first_of_four (commits_orderly setting p.step.seen (seen_of p.earlier)) (seals_orderly setting p.step.seen (seen_of p.earlier))
    (fails_orderly p.step.seen (seen_of p.earlier)) (begins_orderly setting p.step.seen (seen_of p.earlier)) ((and_parts _ _ renew).1) in
    let acted : p.step.seen.acted ≡ true = acted_first (is_commit p.step.seen.event) p.step.seen.acted _ (ap is_commit e.is) orderly in
    sym (ap (λ s. s.seen.acted) is.1 ∙ ap (acted_by p.earlier) e.is) ∙ acted

pub commit_acts : (setting : Setting) (steps : List Step) (p : Moment) (d c : ℕ) (past : Past) → IsChronicle setting steps
    → renew_holds setting (seen_of steps) ≡ true → IsIn p steps → p.step.act ≡ Calls d (Commit c) → past_in p.earlier d ≡ Some past
    → is_acting past ≡ true
commit_acts setting steps p d c past is renew here act there =
    let p_is = tail_chronicle setting here is in
    acts_is setting p.earlier d past p_is.0 there
    (acted_at setting p d c p_is
    (tail_each (λ s earlier. commits_orderly setting s earlier && seals_orderly setting s earlier && fails_orderly s earlier
    && begins_orderly setting s earlier) here renew) act)

-- so no commit makes a device act anew
commit_transition : (past : Past) (g : Option Duty) (b : Bool) (duty : Duty) → b ≡ true
    → map_or g Nothing (λ u. if b then Recommitted u else Committed u) ≡ Committed duty → ⊥
commit_transition past None b duty is same = cc
commit_transition past (Some u) true duty is same = cc
commit_transition past (Some u) false duty is same = cc

pub never_committed : (setting : Setting) (steps : List Step) (p : Moment) (d c : ℕ) (past : Past) (duty : Duty) → IsChronicle setting steps
    → renew_holds setting (seen_of steps) ≡ true → IsIn p steps → p.step.act ≡ Calls d (Commit c)
    → past_in p.earlier d ≡ Some past → transition_of past (Commit c) ≡ Committed duty → ⊥
never_committed setting steps p d c past duty is renew here act there transition =
    commit_transition past (given_now past) (is_acting past) duty (commit_acts setting steps p d c past is renew here act there) transition

-- Where a trace began

pub trace_first : (setting : Setting) (s : Stamp) (epoch : ℕ) (first : Moment) (source m : ℕ) (p : Moment) (d : ℕ) → Trace setting s epoch first source m p d
    → IsIn first (upto p)
trace_first setting s epoch first source zero p d (begins message emits carries epoch_is) = whole
trace_first setting s epoch first source (suc m) p d (goes_on {from = from} {x = x} trace hop) =
    behind (tail_trans (trace_first setting s epoch first source m from x trace) hop.before)

-- an emission with this stamp, in this epoch
pub record Emitted (steps : List Step) (s : Stamp) (epoch : ℕ) : Type 0 where
  pub moment : Moment
  pub device : ℕ
  pub message : Message
  pub is_in : IsIn moment steps
  pub emits : Emits moment device message
  pub carries : message.stamp ≡ s
  pub epoch_is : message.epoch ≡ epoch

pub trace_emits : (setting : Setting) (s : Stamp) (epoch : ℕ) (first : Moment) (source m : ℕ) (p : Moment) (d : ℕ) → Trace setting s epoch first source m p d
    → (message : Message) × Emits first source message × (message.stamp ≡ s) × (message.epoch ≡ epoch)
trace_emits setting s epoch first source zero p d (begins message emits carries epoch_is) = (message, emits, carries, epoch_is)
trace_emits setting s epoch first source (suc m) p d (goes_on {from = from} {x = x} trace hop) = trace_emits setting s epoch first source m from x trace

pub traced_emission : (setting : Setting) (steps : List Step) (s : Stamp) (epoch : ℕ) (p : Moment) (d : ℕ) → IsIn p steps → Traced setting s epoch p d
    → Emitted steps s epoch
traced_emission setting steps s epoch p d here t =
    let at = trace_emits setting s epoch t.first t.source t.hops p d t.trace in
    record {
      moment = t.first;
      device = t.source;
      message = at.0;
      is_in = tail_trans (trace_first setting s epoch t.first t.source t.hops p d t.trace) here;
      emits = at.1;
      carries = at.2;
      epoch_is = at.3;
    }

-- Lemma 9, of the stamps of devices

-- the stamp of a device that does not act is (0, 0), or was emitted in its epoch
pub stamp_emitted : (setting : Setting) (steps : List Step) (d : ℕ) (past : Past) → IsChronicle setting steps → delay_holds setting (seen_of steps) ≡ true
    → renew_holds setting (seen_of steps) ≡ true → past_in steps d ≡ Some past
    → is_acting past ≡ false → (stamp_now past ≡ stamp 0 0) ⊎ Emitted steps (stamp_now past) (epoch_now past)
stamp_emitted setting steps d past is delay renew there idle = by_origin (stamp_from steps d past there)
  where
    by_epoch : (p : Moment) → IsIn p steps → (m : Message) → Sends p d m → m.stamp ≡ stamp_now past → (m.epoch ≡ epoch_now past) ⊎ (is_acting past ≡ true)
        → Emitted steps (stamp_now past) (epoch_now past)
    by_epoch p here m by carries (inl epoch) =
        subst (λ n. Emitted steps (stamp_now past) n) epoch
        (subst (λ s. Emitted steps s m.epoch) carries
        (traced_emission setting steps m.stamp m.epoch p d here (sends_traced setting steps is delay p d m here by)))
    by_epoch p here m by carries (inr acts) = let clash : true ≡ false = sym acts ∙ idle in cc

    by_origin : StampFrom steps d past → (stamp_now past ≡ stamp 0 0) ⊎ Emitted steps (stamp_now past) (epoch_now past)
    by_origin (unset none) = inl none
    by_origin (sent p here m by carries of) = inr (by_epoch p here m by carries of)
    by_origin (committed p here before counter duty before_there act transition) =
        absurd (never_committed setting steps p d counter before duty is renew here act before_there transition)

least_stamp : (s : Stamp) → IsUpTo (stamp 0 0) s
least_stamp s = by_term s.term refl
  where
    by_term : (t : ℕ) → s.term ≡ t → IsUpTo (stamp 0 0) s
    by_term zero is = inr (sym is, omega arith)
    by_term (suc t) is = inl (omega (arith, is))

-- so it is at most each stamp that all emissions of its epoch are at most
pub stamp_at_most : (setting : Setting) (steps : List Step) (d : ℕ) (past : Past) (bound : Stamp) → IsChronicle setting steps
    → delay_holds setting (seen_of steps) ≡ true → renew_holds setting (seen_of steps) ≡ true → past_in steps d ≡ Some past
    → is_acting past ≡ false → ((e : Emitted steps (stamp_now past) (epoch_now past)) → IsUpTo e.message.stamp bound) → IsUpTo (stamp_now past) bound
stamp_at_most setting steps d past bound is delay renew there idle most = by_kind (stamp_emitted setting steps d past is delay renew there idle)
  where
    by_kind : (stamp_now past ≡ stamp 0 0) ⊎ Emitted steps (stamp_now past) (epoch_now past) → IsUpTo (stamp_now past) bound
    by_kind (inl none) = subst (λ s. IsUpTo s bound) (sym none) (least_stamp bound)
    by_kind (inr e) = subst (λ s. IsUpTo s bound) e.carries (most e)
