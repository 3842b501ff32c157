-- The estimate of a device was set no earlier, in its counters, than the device last heard. By induction on its calls, since the counters of a device do not
-- fall: a receipt sets the estimate, and a fix comes later than what was heard before.
use Rattle.std.specs.Prelude.{◌≡◌, ℕ, ◌≤◌, List, [], ◌∷◌, Option, Some, None, option_map, option_and_then, refl}
use Rattle.std.proofs.Common.{arith, ap, sym, ◌∙◌, subst}
use Rattle.sd_num.specs.Lists.{map_or}
use Rattle.sd_num.specs.clock.Estimates.{corrected}
use Rattle.sd_plan.specs.declared.Edge.{Edge}
use Rattle.sd_device.specs.declared.msg.Message.{Message}
use Rattle.sd_device.specs.msg.Stamps.{carried}
use Rattle.sd_device.specs.Calls.{Making, Started, Joined, Call, Tick, Receive, Fix, Give, Commit, Seal, Past}
use Rattle.sd_device.specs.Living.{Life}
use Rattle.sd_device.specs.Words as words
use Rattle.sd_device.specs.Words.{after, transition_of, accepted_over, heard, estimate_now}
use Rattle.sd_device.specs.Lives.{past_by, past_of, latest_counter, NeverFalls}
use Rattle.sd_sched.specs.declared.Event.{Event}
use Rattle.sd_history.specs.World.{Setting, latest_reading}
use Rattle.sd_history.specs.Steps.{seen_of}
use Rattle.sd_history.specs.Lives.{life_in}
use Rattle.sd_history.specs.Chronicle.{past_in, chronicle}
use Rattle.sd_history.specs.Admitted.{IsAdmitted}
use Rattle.sd_device.proofs.Orderly as lives
use Rattle.sd_history.proofs.Bridges.{past_of_life}
use Rattle.sd_history.proofs.Readings.{Reads, history_reads}
use Rattle.sd_history.proofs.Given.{some_is}
use Rattle.sd_safety.proofs.receipts.Hearings.{IsReceipt, accepts_receipt}

-- it heard no later than its estimate was set, and than it was read last
pub record IsOrdered (past : Past) (reading : ℕ) : Type 0 where
  pub estimate : heard past ≤ (estimate_now past).at
  pub read : heard past ≤ reading

-- only a receipt is accepted
accepts_none : (past : Past) (call : Call) → ((l : ℕ) (m : Message) (c : ℕ) → call ≡ Receive l m c → ⊥) → accepted_over (transition_of past call) ≡ None
accepts_none past call never = go (accepted_over (transition_of past call)) refl
  where
    go : (o : Option Edge) → accepted_over (transition_of past call) ≡ o → accepted_over (transition_of past call) ≡ None
    go None is = is
    go (Some edge) is = let r : IsReceipt call = accepts_receipt past call edge is in absurd (never r.link r.message r.counter r.is)

module _ (past : Past) (o : heard past ≤ (estimate_now past).at) where
  abbrev IsLater : Call → Type 0
  IsLater call = heard (after past call) ≤ (estimate_now (after past call)).at

  -- a call that sets nothing
  quiet : (call : Call) → heard (after past call) ≡ heard past → (estimate_now (after past call)).at ≡ (estimate_now past).at → IsLater call
  quiet call same set = subst (λ h. h ≤ (estimate_now (after past call)).at) (sym same) (subst (λ a. heard past ≤ a) (sym set) o)

  deaf : (call : Call) → ((l : ℕ) (m : Message) (c : ℕ) → call ≡ Receive l m c → ⊥) → heard (after past call) ≡ heard past
  deaf call never = ap (λ a. map_or (option_and_then (λ (edge : Edge). words.counter_of call) a) (heard past) (λ told. told)) (accepts_none past call never)

  receipt : (l : ℕ) (m : Message) (c : ℕ) (a : Option Edge) → accepted_over (transition_of past (Receive l m c)) ≡ a → IsLater (Receive l m c)
  receipt l m c None is =
      quiet (Receive l m c) (ap (λ k. map_or (option_and_then (λ (edge : Edge). Some c) k) (heard past) (λ told. told)) is)
      (ap (λ k. (map_or (option_map (λ (edge : Edge). corrected (carried m) edge.bounds c) k) (estimate_now past) (λ told. told)).at) is)
  receipt l m c (Some edge) is =
      let heard_is : heard (after past (Receive l m c)) ≡ c = ap (λ k. map_or (option_and_then (λ (edge : Edge). Some c) k) (heard past) (λ told. told)) is in
      let set_is : (estimate_now (after past (Receive l m c))).at ≡ c =
      ap (λ k. (map_or (option_map (λ (edge : Edge). corrected (carried m) edge.bounds c) k) (estimate_now past) (λ told. told)).at) is in
      subst (λ h. h ≤ (estimate_now (after past (Receive l m c))).at) (sym heard_is) (subst (λ a. c ≤ a) (sym set_is) (least c))
    where
      least : (n : ℕ) → n ≤ n
      least n = omega arith

  after_call : (call : Call) → ((c : ℕ) → words.counter_of call ≡ Some c → heard past ≤ c) → IsLater call
  after_call (Tick c) reads = quiet (Tick c) (deaf (Tick c) (λ l m n is. cc)) refl
  after_call (Receive l m c) reads = receipt l m c (accepted_over (transition_of past (Receive l m c))) refl
  after_call (Fix c clock eps) reads = reads c refl
  after_call (Give duty) reads = quiet (Give duty) refl refl
  after_call (Commit c) reads = quiet (Commit c) (deaf (Commit c) (λ l m n is. cc)) refl
  after_call Seal reads = quiet Seal refl refl

-- no life heard later than it was called last
heard_early : (making : Making) (calls : List Call) → NeverFalls making calls → heard (past_by making calls) ≤ latest_counter making calls
heard_early making calls falls =
    let order = (lives.in_order making calls falls).order in let kept = (lives.in_order making calls falls).kept in omega (arith, order, kept)

set_late : (making : Making) (calls : List Call) → NeverFalls making calls → heard (past_by making calls) ≤ (estimate_now (past_by making calls)).at
set_late (Started duty counter clock eps) [] falls = omega arith
set_late (Joined rates counter clock eps) [] falls = omega arith
set_late making (call ∷ earlier) falls =
    after_call (past_by making earlier) (set_late making earlier falls.0) call
    (λ c has. (let early = heard_early making earlier falls.0 in let later = falls.1 c has in omega (arith, early, later)))

pub in_order : (setting : Setting) (history : List Event) → IsAdmitted setting history → (d : ℕ) (past : Past)
    → past_in (chronicle setting history) d ≡ Some past → IsOrdered past (latest_reading (seen_of (chronicle setting history)) d)
in_order setting history is d past there =
    go (life_in (chronicle setting history) d) refl (sym (past_of_life (chronicle setting history) d) ∙ there)
  where
    go : (o : Option Life) → life_in (chronicle setting history) d ≡ o → option_map past_of o ≡ Some past
        → IsOrdered past (latest_reading (seen_of (chronicle setting history)) d)
    go None at same = cc
    go (Some life) at same =
        let reads : Reads (seen_of (chronicle setting history)) d life = history_reads setting history is d life at in
        let falls : NeverFalls life.making life.calls = reads.orderly.never_falls in
        let early = heard_early life.making life.calls falls in
        let read = reads.read in
        subst (λ p. IsOrdered p (latest_reading (seen_of (chronicle setting history)) d)) (some_is same)
        (record { estimate = set_late life.making life.calls falls; read = omega (arith, early, read) })
