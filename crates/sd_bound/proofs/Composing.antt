-- The bound of a report from the uncertainty with which its estimate was set and the age of that estimate: a report is the one aged by the other.
use Rattle.std.specs.Prelude.{◌≡◌, ℕ, ◌+◌, ◌-◌, ◌≤◌, Bool, true, false, ◌||◌, not, List, [], ◌∷◌, ◌++◌, nat_le, Option, Some, None, option_map, IsTrue, refl}
use Rattle.std.proofs.Common.{arith, sym, ◌∙◌, ap, subst}
use Rattle.std.proofs.lemmas.Bool.{and_parts, leb-true}
use Rattle.sd_num.specs.Numbers.{grow}
use Rattle.sd_num.specs.Lists.{map_or}
use Rattle.sd_num.specs.declared.Rates.{Rates}
use Rattle.sd_plan.specs.topo.Network.{Network, rates_of}
use Rattle.sd_plan.specs.declared.domain.DomainId.{DomainId}
use Rattle.sd_plan.specs.declared.Plan.{Plan}
use Rattle.sd_num.specs.declared.clock.Report.{Report}
use Rattle.sd_device.specs.Calls.{Past}
use Rattle.sd_device.specs.Words.{estimate_now, rates_now, report_at}
use Rattle.sd_sched.specs.declared.Event.{Event}
use Rattle.sd_sched.specs.declared.Event.TheVariants as event
use Rattle.sd_history.specs.World.{Setting, is_counted, alone}
use Rattle.sd_history.specs.Steps.{Step, seen_of, acts_in}
use Rattle.sd_history.specs.Chronicle.{past_in, next_step, chronicle}
use Rattle.sd_history.specs.Admitted.{IsAdmitted}
use Rattle.sd_history.specs.Lines.{asked_report}
use Rattle.sd_history.proofs.Given.{some_is}
use Rattle.sd_history.proofs.Owned.{rates_are_own}
use Rattle.sd_history.proofs.Owning.{own_pasts}
use Rattle.sd_drill.specs.ages.Ages.{ageing}
use Rattle.sd_drill.specs.declared.Budget.{Budget}
use Rattle.sd_drill.specs.Drill.{source}
use Rattle.sd_safety.specs.messages.Moments.{Tail, whole, behind}
use Rattle.sd_safety.proofs.messages.Tails.{rest_of}
use Rattle.sd_safety.proofs.timers.Spans.{grow_rises}
use Rattle.sd_bound.specs.Bound.{within_hold, held_briefly}
use Rattle.sd_bound.specs.Recovering.{steps_under}
use Rattle.sd_bound.specs.Steady.{RecoversSteadily, AlwaysBelow}
use Rattle.sd_bound.specs.Halves.{IsBased, BasesHold, IsCovered, AgesHold}

-- Histories and their steps

-- what is left of a history after its newest events makes what is left of its steps
pub tail_steps : (setting : Setting) {history whole_ : List Event} → Tail history whole_ → Tail (chronicle setting history) (chronicle setting whole_)
tail_steps setting whole = whole
tail_steps setting (behind t) = behind (tail_steps setting t)

pub tail_history : (setting : Setting) {history whole_ : List Event} → Tail history whole_ → IsAdmitted setting whole_ → IsAdmitted setting history
tail_history setting whole is = is
tail_history setting (behind t) is = tail_history setting t is.0

cons_same : {A : Type 0} (x y : A) (xs ys : List A) → x ∷ xs ≡ y ∷ ys → (x ≡ y) × (xs ≡ ys)
cons_same x y xs ys same = (cc, cc)

-- the event of a step of a chronicle, with those before it
record EndsIn (setting : Setting) (history : List Event) (s : Step) (earlier : List Step) : Type 0 where
  e : Event
  before : List Event
  tail : Tail (e ∷ before) history
  step_is : next_step setting (chronicle setting before) e ≡ s
  earlier_is : chronicle setting before ≡ earlier

ends_in : (setting : Setting) (history : List Event) (later : List Step) (s : Step) (earlier : List Step) → chronicle setting history ≡ later ++ s ∷ earlier
    → EndsIn setting history s earlier
ends_in setting [] [] s earlier same = cc
ends_in setting [] (x ∷ later) s earlier same = cc
ends_in setting (e ∷ history) [] s earlier same =
    let both = cons_same (next_step setting (chronicle setting history) e) s (chronicle setting history) earlier same in
    record { e = e; before = history; tail = whole; step_is = both.0; earlier_is = both.1 }
ends_in setting (e ∷ history) (x ∷ later) s earlier same =
    let found = ends_in setting history later s earlier
    (cons_same (next_step setting (chronicle setting history) e) x (chronicle setting history) (later ++ s ∷ earlier) same).1 in
    record { e = found.e; before = found.before; tail = behind found.tail; step_is = found.step_is; earlier_is = found.earlier_is }

-- a report is that of an ask, of the past of its device
pub record IsAsked (steps : List Step) (e : Event) (d : ℕ) (report : Report) : Type 0 where
  pub reference : ℕ
  pub counter : ℕ
  pub is : e ≡ event.Ask reference d counter
  pub past : Past
  pub there : past_in steps d ≡ Some past
  pub report_is : report_at past counter ≡ report

asked_of : (steps : List Step) (r x c d : ℕ) (report : Report) (o : Option Past) → past_in steps x ≡ o
    → option_map {U = ℕ × Report} (λ (told : Report). (x, told)) (option_map (λ past. report_at past c) o) ≡ Some (d, report)
    → IsAsked steps (event.Ask r x c) d report
asked_of steps r x c d report None is same = cc
asked_of steps r x c d report (Some past) is same =
    let both : (x ≡ d) × (report_at past c ≡ report) = (ap (λ (p : ℕ × Report). p.0) (some_is same), ap (λ (p : ℕ × Report). p.1) (some_is same)) in
    record {
      reference = r;
      counter = c;
      is = ap (λ y. event.Ask r y c) both.0;
      past = past;
      there = subst (λ y. past_in steps y ≡ Some past) both.0 is;
      report_is = both.1;
    }

pub asked : (setting : Setting) (steps : List Step) (e : Event) (d : ℕ) (report : Report) → asked_report (next_step setting steps e) ≡ Some (d, report)
    → IsAsked steps e d report
asked setting steps (event.Ask r x c) d report same = asked_of steps r x c d report (past_in steps x) refl same
asked setting steps _ d report same = cc

-- What the hold bounds

pub held_at : (budget : Budget) (older steps : List Step) (s : Step) → Tail (s ∷ older) steps → within_hold budget steps ≡ true
    → held_briefly budget (s ∷ older) s.seen.event ≡ true
held_at budget older [] s t holds = elim t [ ]
held_at budget older (s ∷ earlier) x whole holds = (and_parts (within_hold budget earlier) (held_briefly budget (s ∷ earlier) s.seen.event) holds).1
held_at budget older (s ∷ earlier) x (behind t) holds =
    held_at budget older earlier x t (and_parts (within_hold budget earlier) (held_briefly budget (s ∷ earlier) s.seen.event) holds).0

pub held_when : (acts : Bool) (o : Option Past) (past : Past) (c hold : ℕ) → o ≡ Some past → acts ≡ true
    → (not acts || map_or o true (λ p. nat_le (c - (estimate_now p).at) hold)) ≡ true → c - (estimate_now past).at ≤ hold
held_when true None past c hold there acts holds = cc
held_when true (Some p) past c hold there acts holds =
    subst (λ q. c - (estimate_now q).at ≤ hold) (some_is there) (leb-true (c - (estimate_now p).at) hold holds)
held_when false o past c hold there acts holds = cc

-- Sums

pub aged : (past : Past) (rates : Rates) (counter age : ℕ) → rates_now past ≡ rates → counter - (estimate_now past).at ≤ age
    → (report_at past counter).eps ≤ (estimate_now past).base + ageing rates age
aged past rates counter age same le =
    subst (λ (r : Rates). (estimate_now past).base + r.grain + grow r.ppm (counter - (estimate_now past).at) ≤ (estimate_now past).base + ageing rates age)
    (sym same)
    (sum (estimate_now past).base rates.grain (grow rates.ppm (counter - (estimate_now past).at)) (grow rates.ppm age)
    (grow_rises rates.ppm (counter - (estimate_now past).at) age le))
  where
    sum : (base grain x y : ℕ) → x ≤ y → base + grain + x ≤ base + (grain + y)
    sum base grain x y le' = omega (arith, le')

-- The bound

module _ (net : Network) (plan : Plan) (budget : Budget) (f : DomainId) (bases : BasesHold net plan) (ages : AgesHold net plan) where
  rates_own : (history before : List Event) → RecoversSteadily net plan budget f history → Tail before history → (d : ℕ) (past : Past)
      → past_in (steps_under net plan before) d ≡ Some past → rates_now past ≡ rates_of net d
  rates_own history before run t d past there =
      rates_are_own net d past (own_pasts (alone net plan) before d past there)

  -- at an ask
  bounded : (history before : List Event) (r d c : ℕ) (past : Past) → RecoversSteadily net plan budget f history → Tail (event.Ask r d c ∷ before) history
      → past_in (steps_under net plan before) d ≡ Some past
      → IsTrue (is_counted (alone net plan) (seen_of (steps_under net plan before)) d) → (far oldest : ℕ) → IsCovered net plan f d far oldest
      → (report_at past c).eps ≤ source net plan budget + far + ageing (rates_of net d) oldest
  bounded history before r d c past run t there counted far oldest covered = by_role (acts_in (steps_under net plan before) d) refl
    where
      based : IsBased net plan budget f (steps_under net plan before) d (estimate_now past).base
      based = bases budget f history before run (rest_of t) d past counted there

      rates : rates_now past ≡ rates_of net d
      rates = rates_own history before run (rest_of t) d past there

      held : acts_in (steps_under net plan before) d ≡ true → c - (estimate_now past).at ≤ budget.hold
      held acts =
          held_when (acts_in (steps_under net plan before) d) (past_in (steps_under net plan before) d) past c budget.hold there acts
          (held_at budget (steps_under net plan before) (steps_under net plan history)
          (next_step (alone net plan) (steps_under net plan before) (event.Ask r d c)) (tail_steps (alone net plan) t) run.held)

      by_role : (b : Bool) → acts_in (steps_under net plan before) d ≡ b
          → (report_at past c).eps ≤ source net plan budget + far + ageing (rates_of net d) oldest
      by_role true acts =
          let age = aged past (rates_of net d) c budget.hold rates (held acts) in
          let most = based.acting acts in
          omega (arith, age, most)
      by_role false idle =
          let age = aged past (rates_of net d) c oldest rates (ages budget f history before r d c run t past counted there idle far oldest covered) in
          let most = based.walked far covered.is_far in
          omega (arith, age, most)

  pub stays_below : (d far oldest : ℕ) → IsCovered net plan f d far oldest
      → AlwaysBelow net plan budget f d (source net plan budget + far + ageing (rates_of net d) oldest)
  stays_below d far oldest covered history later s earlier report run same told counted =
      let ends = ends_in (alone net plan) history later s earlier same in
      let by = asked (alone net plan) (steps_under net plan ends.before) ends.e d report (ap asked_report ends.step_is ∙ told) in
      subst (λ (x : Report). x.eps ≤ source net plan budget + far + ageing (rates_of net d) oldest) by.report_is
      (bounded history ends.before by.reference d by.counter by.past run (subst (λ e. Tail (e ∷ ends.before) history) by.is ends.tail) by.there
      (subst (λ steps. IsTrue (is_counted (alone net plan) (seen_of steps) d)) (sym ends.earlier_is) counted) far oldest covered)
