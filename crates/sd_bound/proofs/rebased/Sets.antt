-- How an estimate was set: by a clock within the base, or by a message that was accepted in the plan that the device follows. By induction on the history.
use Rattle.std.specs.Prelude.{◌≡◌, ℕ, ◌+◌, ◌≤◌, Bool, true, false, ◌||◌, List, [], ◌∷◌, nat_eq, nat_le, Option, Some, None, option_map, refl, ◌⊎◌, if◌then◌else◌}
use Rattle.std.proofs.Common.{ap, sym, ◌∙◌, subst, inl, inr}
use Rattle.std.proofs.lemmas.Bool.{and_parts, leb-true}
use Rattle.sd_num.specs.Lists.{map_or}
use Rattle.sd_plan.specs.declared.Duty.{Duty}
use Rattle.sd_plan.specs.declared.Edge.{Edge}
use Rattle.sd_plan.specs.declared.Plan.{Plan}
use Rattle.sd_drill.specs.declared.Budget.{Budget}
use Rattle.sd_device.specs.declared.msg.Message.{Message}
use Rattle.sd_device.specs.declared.msg.Flight.{Flight}
use Rattle.sd_device.specs.msg.Stamps.{carried}
use Rattle.sd_num.specs.clock.Estimates.{corrected}
use Rattle.sd_device.specs.Calls as calls
use Rattle.sd_device.specs.Calls.{Call, Transition, Past}
use Rattle.sd_device.specs.Words.{transition_of, after, taken_up, accepted_over, estimate_now, epoch_now}
use Rattle.sd_sched.specs.declared.Event.{Event}
use Rattle.sd_sched.specs.declared.Event.TheVariants as event
use Rattle.sd_sched.specs.Honesty.{clock_set}
use Rattle.sd_history.specs.World.{Setting, makes, staged}
use Rattle.sd_history.specs.Steps.{Calls, Passes, Step, seen_of, act_by, flight_numbered}
use Rattle.sd_history.specs.Chronicle.{past_in, chronicle, next_step}
use Rattle.sd_history.proofs.Given.{some_is}
use Rattle.sd_safety.specs.messages.Moments.{whole, behind, Moment, IsIn}
use Rattle.sd_safety.proofs.messages.Receipts.{device_is, call_is}
use Rattle.sd_safety.proofs.messages.Sending.{passes_on}
use Rattle.sd_safety.proofs.timers.Transitions.{by_case}
use Rattle.sd_safety.proofs.receipts.Alive.{Went, made, called, alone, went}
use Rattle.sd_safety.proofs.receipts.Hearings.{IsReceipt, accepts_receipt}
use Rattle.sd_safety.proofs.windows.NoneBeforeCommit.{is_commit_call}
use Rattle.sd_bound.specs.Bound.{within_base}
use Rattle.sd_bound.specs.RenewedBases.{commits_so, commits_within}
use Rattle.sd_bound.proofs.Closing.{epoch_same}

-- Calls

-- what accepts nothing and is no commit takes up nothing
abbrev TakesNone : Past → Call → Transition → Type 0
TakesNone past call transition = accepted_over transition ≡ None → is_commit_call call ≡ false → taken_up transition ≡ None

takes_none : (past : Past) (call : Call) → TakesNone past call (transition_of past call)
takes_none past call =
    by_case past (TakesNone past)
    (record {
      emitted = λ c e none plain. refl;
      took = λ c e t none plain. refl;
      moved = λ c e t m none plain. refl;
      still = λ c e t m none plain. refl;
      entered = λ link message c duty edge none plain. cc;
      accepted = λ link message c edge none plain. refl;
      committed = λ c duty a none plain. cc;
      recommitted = λ c duty a none plain. cc;
      nothing = λ x t none plain. refl;
    }) call

-- only receipts accept
deaf : (past : Past) (call : Call) → (IsReceipt call → ⊥) → accepted_over (transition_of past call) ≡ None
deaf past call never = by (accepted_over (transition_of past call)) refl
  where
    by : (o : Option Edge) → accepted_over (transition_of past call) ≡ o → accepted_over (transition_of past call) ≡ None
    by None is = is
    by (Some edge) is = absurd (never (accepts_receipt past call edge is))

kept_epoch : (past : Past) (call : Call) → (IsReceipt call → ⊥) → is_commit_call call ≡ false → epoch_now (after past call) ≡ epoch_now past
kept_epoch past call never plain = epoch_same past call (takes_none past call (deaf past call never) plain)

-- an accepted message sets the estimate with its uncertainty and half of the hop
pub heard_base : (past : Past) (l : ℕ) (m : Message) (c : ℕ) (edge : Edge) → accepted_over (transition_of past (calls.Receive l m c)) ≡ Some edge
    → (estimate_now (after past (calls.Receive l m c))).base ≡ m.eps + edge.bounds.half
heard_base past l m c edge over =
    ap (λ (o : Option Edge). (map_or (option_map (λ (k : Edge). corrected (carried m) k.bounds c) o) (estimate_now past) (λ x. x)).base) over

-- what is known of the call by its event
abbrev WithinCall : Budget → Past → Call → Type 0
WithinCall budget past (calls.Fix c clock eps) = eps ≤ budget.base
WithinCall budget past (calls.Commit c) = (estimate_now past).base ≤ budget.base
WithinCall budget past _ = Unit {0}

-- what a call does to the estimate
data SetAt (budget : Budget) (past : Past) (call : Call) : Type 0 where
  by_clock : (estimate_now (after past call)).base ≤ budget.base → SetAt budget past call
  by_message : (link : ℕ) (m : Message) (counter : ℕ) (edge : Edge) → call ≡ calls.Receive link m counter
      → accepted_over (transition_of past (calls.Receive link m counter)) ≡ Some edge → SetAt budget past call
  as_before : (estimate_now (after past call)).base ≡ (estimate_now past).base → epoch_now (after past call) ≡ epoch_now past → SetAt budget past call

set_at : (budget : Budget) (past : Past) (call : Call) → WithinCall budget past call → SetAt budget past call
set_at budget past (calls.Fix c clock eps) within = by_clock within
set_at budget past (calls.Commit c) within = by_clock within
set_at budget past (calls.Tick c) within = as_before refl (kept_epoch past (calls.Tick c) (λ r. let is = r.is in cc) refl)
set_at budget past (calls.Give u) within = as_before refl (kept_epoch past (calls.Give u) (λ r. let is = r.is in cc) refl)
set_at budget past calls.Seal within = as_before refl (kept_epoch past calls.Seal (λ r. let is = r.is in cc) refl)
set_at budget past (calls.Receive l m c) within = by (accepted_over (transition_of past (calls.Receive l m c))) refl
  where
    by : (o : Option Edge) → accepted_over (transition_of past (calls.Receive l m c)) ≡ o → SetAt budget past (calls.Receive l m c)
    by (Some edge) over = by_message l m c edge refl over
    by None over =
        as_before (ap (λ (o : Option Edge). (map_or (option_map (λ (k : Edge). corrected (carried m) k.bounds c) o) (estimate_now past) (λ x. x)).base) over)
        (epoch_same past (calls.Receive l m c) (takes_none past (calls.Receive l m c) over refl))

-- Events

by_flight : (budget : Budget) (old : Past) (m c d : ℕ) (call : Call) (o : Option Flight)
    → map_or o Passes (λ f. Calls m (calls.Receive f.link f.message c)) ≡ Calls d call → WithinCall budget old call
by_flight budget old m c d call None same = cc
by_flight budget old m c d call (Some f) same = subst (WithinCall budget old) (call_is same) tt

by_plan : (budget : Budget) (old : Past) (m d : ℕ) (call : Call) (duty : Plan → Duty) (o : Option Plan)
    → map_or o Passes (λ plan. Calls m (calls.Give (duty plan))) ≡ Calls d call → WithinCall budget old call
by_plan budget old m d call duty None same = cc
by_plan budget old m d call duty (Some plan) same = subst (WithinCall budget old) (call_is same) tt

by_past : (budget : Budget) (old : Past) (o : Option Past) → o ≡ Some old → map_or o true (λ p. nat_le (estimate_now p).base budget.base) ≡ true
    → (estimate_now old).base ≤ budget.base
by_past budget old None is within = cc
by_past budget old (Some p) is within =
    subst (λ q. (estimate_now q).base ≤ budget.base) (some_is is) (leb-true (estimate_now p).base budget.base within)

within_call : (setting : Setting) (budget : Budget) (steps : List Step) (e : Event) (d : ℕ) (old : Past) (call : Call) → act_by setting steps e ≡ Calls d call
    → past_in steps d ≡ Some old → map_or (clock_set e) true (λ set. nat_le set.1 budget.base) ≡ true → commits_so budget steps e ≡ true
    → WithinCall budget old call
within_call setting budget steps (event.Tick r m c) d old call same there within commits = subst (WithinCall budget old) (call_is same) tt
within_call setting budget steps (event.Recv r m c n) d old call same there within commits = by_flight budget old m c d call (flight_numbered steps n) same
within_call setting budget steps (event.Fix r m c clock eps) d old call same there within commits =
    subst (WithinCall budget old) (call_is same) (leb-true eps budget.base within)
within_call setting budget steps (event.Give r m) d old call same there within commits = by_plan budget old m d call _ (staged setting (seen_of steps)) same
within_call setting budget steps (event.Commit r m c) d old call same there within commits =
    subst (WithinCall budget old) (call_is same) (by_past budget old (past_in steps m) (ap (past_in steps) (device_is same) ∙ there) commits)
within_call setting budget steps (event.Seal r m) d old call same there within commits = subst (WithinCall budget old) (call_is same) tt
within_call setting budget steps _ d old call same there within commits = cc

-- who is made has the clock of its event
chosen_new : (b : Bool) (new past : Past) (old : Option Past) → b ≡ true → (if b then Some new else old) ≡ Some past → new ≡ past
chosen_new true new past old is same = some_is same
chosen_new false new past old is same = cc

or_false : (b : Bool) → (b || false) ≡ true → b ≡ true
or_false true is = is
or_false false is = cc

made_within : (setting : Setting) (budget : Budget) (e : Event) (history : List Event) (d : ℕ) (past : Past) → makes d e ≡ true
    → past_in (chronicle setting (e ∷ history)) d ≡ Some past → map_or (clock_set e) true (λ set. nat_le set.1 budget.base) ≡ true
    → (estimate_now past).base ≤ budget.base
made_within setting budget (event.Start r m c clock eps) history d past makes_ there within =
    subst (λ p. (estimate_now p).base ≤ budget.base) (chosen_new (nat_eq m d) _ past (past_in (chronicle setting history) d) (or_false (nat_eq m d) makes_) there)
    (leb-true eps budget.base within)
made_within setting budget (event.Join r m c clock eps) history d past makes_ there within =
    subst (λ p. (estimate_now p).base ≤ budget.base) (chosen_new (nat_eq m d) _ past (past_in (chronicle setting history) d) makes_ there)
    (leb-true eps budget.base within)
made_within setting budget _ history d past makes_ there within = cc

-- Histories

-- the device accepted a message of the plan that it follows, and set its estimate by it
pub record ByMessage (steps : List Step) (d : ℕ) (past : Past) : Type 0 where
  pub moment : Moment
  pub inside : IsIn moment steps
  pub link : ℕ
  pub message : Message
  pub counter : ℕ
  pub was : Past
  pub edge : Edge
  pub there : past_in moment.earlier d ≡ Some was
  pub act : moment.step.act ≡ Calls d (calls.Receive link message counter)
  pub over : accepted_over (transition_of was (calls.Receive link message counter)) ≡ Some edge
  pub epoch : message.epoch ≡ epoch_now past
  pub base : (estimate_now past).base ≡ message.eps + edge.bounds.half

abbrev pub SetBy : Budget → List Step → ℕ → Past → Type 0
SetBy budget steps d past = ((estimate_now past).base ≤ budget.base) ⊎ ByMessage steps d past

later_on : (budget : Budget) (s : Step) (steps : List Step) (d : ℕ) (old past : Past) → (estimate_now past).base ≡ (estimate_now old).base
    → epoch_now past ≡ epoch_now old → SetBy budget steps d old → SetBy budget (s ∷ steps) d past
later_on budget s steps d old past same epoch (inl le) = inl (subst (λ n. n ≤ budget.base) (sym same) le)
later_on budget s steps d old past same epoch (inr b) =
    inr (record {
      moment = b.moment;
      inside = behind b.inside;
      link = b.link;
      message = b.message;
      counter = b.counter;
      was = b.was;
      edge = b.edge;
      there = b.there;
      act = b.act;
      over = b.over;
      epoch = b.epoch ∙ sym epoch;
      base = same ∙ b.base;
    })

abbrev SetBefore : Setting → Budget → List Event → ℕ → Type 0
SetBefore setting budget history d = (old : Past) → past_in (chronicle setting history) d ≡ Some old → SetBy budget (chronicle setting history) d old

pub set_by : (setting : Setting) (budget : Budget) (history : List Event) → within_base budget (seen_of (chronicle setting history)) ≡ true
    → commits_within budget (chronicle setting history) ≡ true → (d : ℕ) (past : Past) → past_in (chronicle setting history) d ≡ Some past
    → SetBy budget (chronicle setting history) d past
set_by setting budget [] within commits d past there = cc
set_by setting budget (e ∷ history) within commits d past there =
    by (λ old was. set_by setting budget history clocks.1 committed.0 d old was) (went setting e history d)
  where
    steps : List Step
    steps = chronicle setting history

    now : Step
    now = next_step setting (chronicle setting history) e

    clocks : (map_or (clock_set e) true (λ set. nat_le set.1 budget.base) ≡ true) × (within_base budget (seen_of (chronicle setting history)) ≡ true)
    clocks = and_parts (map_or (clock_set e) true (λ set. nat_le set.1 budget.base)) (within_base budget (seen_of (chronicle setting history))) within

    committed : (commits_within budget (chronicle setting history) ≡ true) × (commits_so budget (chronicle setting history) e ≡ true)
    committed = and_parts (commits_within budget (chronicle setting history)) (commits_so budget (chronicle setting history) e) commits

    by_call : SetBefore setting budget history d → (old : Past) (call : Call) → act_by setting (chronicle setting history) e ≡ Calls d call → past_in (chronicle setting history) d ≡ Some old
        → after old call ≡ past → SetAt budget old call → SetBy budget (chronicle setting (e ∷ history)) d past
    by_call before old call act was same (by_clock le) = inl (subst (λ p. (estimate_now p).base ≤ budget.base) same le)
    by_call before old call act was same (as_before base epoch) =
        later_on budget now steps d old past (ap (λ p. (estimate_now p).base) (sym same) ∙ base) (ap epoch_now (sym same) ∙ epoch) (before old was)
    by_call before old call act was same (by_message l m c edge is over) =
        let new : after old (calls.Receive l m c) ≡ past = ap (after old) (sym is) ∙ same in
        inr (record {
          moment = record { step = next_step setting (chronicle setting history) e; earlier = chronicle setting history };
          inside = whole;
          link = l;
          message = m;
          counter = c;
          was = old;
          edge = edge;
          there = was;
          act = act ∙ ap (Calls d) is;
          over = over;
          epoch = sym (passes_on old l m c edge over).1 ∙ ap epoch_now new;
          base = ap (λ p. (estimate_now p).base) (sym new) ∙ heard_base old l m c edge over;
        })

    by : SetBefore setting budget history d → Went setting e history d → SetBy budget (chronicle setting (e ∷ history)) d past
    by before (made makes_) = inl (made_within setting budget e history d past makes_ there clocks.0)
    by before (alone same did) = later_on budget now steps d past past refl refl (before past (sym same ∙ there))
    by before (called old call act was now_) =
        by_call before old call act was (some_is (sym now_ ∙ there))
        (set_at budget old call (within_call setting budget steps e d old call act was clocks.0 committed.1))
