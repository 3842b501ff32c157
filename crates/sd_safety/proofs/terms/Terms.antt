-- Terms (9): each is of one acting life, over all eras so far; who acts has the newest; and whoever acts next has one that is as new, so that a takeover begins
-- a newer one. By induction
-- on the history, from who acts.
use Rattle.std.specs.Prelude.{◌≡◌, ℕ, suc, ◌+◌, ◌<◌, ◌≤◌, Bool, true, false, List, [], ◌∷◌, length, nat_eq, Some, None, refl, ◌⊎◌, if◌then◌else◌}
use Rattle.std.proofs.Common.{arith, ◌∙◌, ap, sym, subst, inl, inr}
use Rattle.std.proofs.lemmas.Bool.{and_parts, cases_lt, eqb-true, eq-eqb, leb-true}
use Rattle.sd_num.specs.Lists.{map_or, same_number}
use Rattle.sd_plan.specs.declared.topo.Thing.TheVariants as thing
use Rattle.sd_plan.specs.declared.Duty.{Duty}
use Rattle.sd_plan.specs.declared.Edge.{Edge}
use Rattle.sd_device.specs.declared.msg.Stamp.{Stamp}
use Rattle.sd_device.specs.declared.msg.Message.{Message}
use Rattle.sd_device.specs.msg.Stamps.{stamp}
use Rattle.sd_device.specs.Calls as calls
use Rattle.sd_device.specs.Calls.{Call, Transition, Entered, Committed, Recommitted, Accepted, Moved, TookOver, Emitted as DidEmit, Nothing, Past}
use Rattle.sd_device.specs.Words.{after, transition_of, taken_up, accepted_over, epoch_now, is_acting, stamp_now}
use Rattle.sd_sched.specs.declared.Event.{Event}
use Rattle.sd_sched.specs.declared.Event.TheVariants as event
use Rattle.sd_history.specs.World.{Setting, makes, fails, is_up, has_commit, latest_reference}
use Rattle.sd_history.specs.Steps.{Calls, Step, seen_of, act_by, epoch_in}
use Rattle.sd_plan.specs.topo.Network.{rates_of}
use Rattle.sd_history.specs.Chronicle.{new_past, past_in, chronicle, next_step}
use Rattle.sd_history.specs.Premises.{delay_holds, renew_holds}
use Rattle.sd_history.proofs.Given.{some_is, takes_given}
use Rattle.sd_history.proofs.Known.{up_case}
use Rattle.sd_safety.proofs.invariant.Parts.{premises_of}
use Rattle.sd_device.proofs.Reached.{added}
use Rattle.sd_safety.specs.invariant.Eras.{era, plan_now, is_old, is_new, all_started}
use Rattle.sd_safety.specs.invariant.Clauses.{is_beginning, staged_root}
use Rattle.sd_safety.specs.invariant.Invariant.{Invariant, AtEach}
use Rattle.sd_safety.specs.invariant.Guarded.{AreGuarded, IsSteady}
use Rattle.sd_safety.specs.invariant.Coming.{IsNextEvent}
use Rattle.sd_safety.proofs.invariant.Closings.{start_closes_none}
use Rattle.sd_safety.proofs.invariant.Prefix.{clean_before}
use Rattle.sd_safety.proofs.invariant.Sides.{not_both}
use Rattle.sd_safety.proofs.timers.Histories.{timed}
use Rattle.sd_safety.proofs.timers.Pasts.{acting_has_duty}
use Rattle.sd_safety.proofs.waits.LeastWaits.{timely_of}
use Rattle.sd_safety.proofs.waits.Epochs.{era_rises, duty_numbered}
use Rattle.sd_safety.specs.messages.Moments.{whole, behind, IsChronicle, Moment, when, IsIn, IsBefore, Emits}
use Rattle.sd_safety.specs.messages.Rounds.{IsOneLife}
use Rattle.sd_safety.specs.messages.Stamping.{EntersNot, enters, remakes, stays, calls as goes_on, IsUpTo, StampFrom, unset, sent, committed}
use Rattle.sd_safety.proofs.messages.Tails.{tail_length, history_chronicle, no_later}
use Rattle.sd_safety.proofs.messages.Acting.{acts_on}
use Rattle.sd_safety.proofs.messages.Rising.{stamps_rise}
use Rattle.sd_safety.proofs.messages.Origins.{stamp_from}
use Rattle.sd_safety.proofs.messages.Latest.{Emitted, traced_emission, never_committed}
use Rattle.sd_safety.proofs.messages.Tracing.{accepted_traced, sends_traced}
use Rattle.sd_safety.proofs.messages.Sending.{sends_own, passes_on}
use Rattle.sd_safety.proofs.messages.Consecutive.{emission_acts, past_after_call}
use Rattle.sd_safety.proofs.messages.Receipts.{device_is}
use Rattle.sd_safety.proofs.silences.FirstEra.{emitter_up, commit_stays}
use Rattle.sd_safety.proofs.silences.BeforeStart.{emission_late}
use Rattle.sd_safety.specs.windows.Reaching.{reach, reach_of}
use Rattle.sd_safety.proofs.windows.Eras.{era_kept, era_grows, plan_kept}
use Rattle.sd_safety.proofs.windows.NoneBeforeCommit.{within}
use Rattle.sd_safety.proofs.windows.StaysNew.{reached}
use Rattle.sd_safety.proofs.windows.Given.{remakes_none}
use Rattle.sd_safety.proofs.frame.Timely.{begins_before}
use Rattle.sd_safety.proofs.moves.Ahead.{IsAhead, always_ahead}
use Rattle.sd_safety.proofs.moves.Started.{now_is, starts_by}
use Rattle.sd_safety.proofs.receipts.Alive.{Went, made, called, alone, went}
use Rattle.sd_safety.proofs.receipts.Hearings.{IsReceipt, accepts_receipt, makes_or_calls}
use Rattle.sd_safety.proofs.receipts.Stood.{epoch_is}
use Rattle.sd_safety.proofs.terms.Actors.{IsActor, actor_is_current, one_actor, actor_is_new, committed_actor}
use Rattle.sd_safety.proofs.terms.CameToAct.{WentOn, TakesOver, From, started, went_on, took_over, new_number, old_number, taken_number, kept_number, from}

-- since the moment the device was neither made anew nor entered a plan by a receipt
abbrev pub IsWhole : Moment → List Step → ℕ → Type 0
IsWhole q steps a =
    (r : Moment) → IsIn r steps → IsBefore q r → (remakes a r.step.act ≡ false)
    × ((past : Past) (call : Call) → r.step.act ≡ Calls a call → past_in r.earlier a ≡ Some past → EntersNot past call)

-- who may act next: a new device, or the old backup root
abbrev pub IsNext : Setting → List Step → ℕ → Type 0
IsNext setting steps x = (is_new steps x ≡ true) ⊎ ((is_old steps x ≡ true) × (x ≡ (plan_now setting steps).backup_root))

pub record IsTermed (setting : Setting) (steps : List Step) : Type 0 where
  -- each term is of one acting life
  pub life : IsOneLife steps
  -- who acts has the newest term
  pub top : (a : ℕ) (actor : IsActor setting steps a) (q : Moment) → IsIn q steps → (y : ℕ) (n : Message) → Emits q y n
      → n.stamp.term ≤ (stamp_now actor.past).term
  -- and what was emitted in it is of its acting life
  pub own : (a : ℕ) (actor : IsActor setting steps a) (q : Moment) → IsIn q steps → (y : ℕ) (n : Message) → Emits q y n
      → n.stamp.term ≡ (stamp_now actor.past).term → (y ≡ a) × IsWhole q steps a
  -- where it has taken up the staged plan, what was emitted in that plan is of its term
  pub same : (a : ℕ) (actor : IsActor setting steps a) → epoch_now actor.past ≡ era steps + 1 → (q : Moment) → IsIn q steps → (y : ℕ) (n : Message)
      → Emits q y n → n.epoch ≡ era steps + 1 → n.stamp.term ≡ (stamp_now actor.past).term
  -- who may act next, and does not act, has a term that is as new
  pub next : (x : ℕ) (p : Past) → is_up (seen_of steps) x ≡ true → past_in steps x ≡ Some p → is_acting p ≡ false → IsNext setting steps x
      → ((q : Moment) → IsIn q steps → (y : ℕ) (n : Message) → Emits q y n → n.stamp.term ≤ (stamp_now p).term)
      × ((a : ℕ) (actor : IsActor setting steps a) → (stamp_now actor.past).term ≤ (stamp_now p).term)

-- Small ones

-- where nothing was emitted no device has a stamp
unstamped : (setting : Setting) (steps : List Step) (d : ℕ) (past : Past) → IsChronicle setting steps → delay_holds setting (seen_of steps) ≡ true
    → renew_holds setting (seen_of steps) ≡ true → past_in steps d ≡ Some past
    → ((q : Moment) → IsIn q steps → (y : ℕ) (n : Message) → Emits q y n → ⊥) → stamp_now past ≡ stamp 0 0
unstamped setting steps d past is delay renew there none = by (stamp_from steps d past there)
  where
    by : StampFrom steps d past → stamp_now past ≡ stamp 0 0
    by (unset is_) = is_
    by (sent p inside m sends carries of) =
        let e : Emitted steps m.stamp m.epoch =
        traced_emission setting steps m.stamp m.epoch p d inside (sends_traced setting steps is delay p d m inside sends) in
        absurd (none e.moment e.is_in e.device e.message e.emits)
    by (committed p inside before counter duty was act transition) =
        absurd (never_committed setting steps p d counter before duty is renew inside act was transition)

-- before a start nothing is emitted
start_emits_none : (setting : Setting) (e : Event) (history : List Event) → AreGuarded setting → IsSteady setting (e ∷ history)
    → AtEach (Invariant setting) (chronicle setting history) → (x : ℕ) → makes x e ≡ true → (past : Past)
    → past_in (chronicle setting (e ∷ history)) x ≡ Some past
    → (epoch_now past ≡ 0 → ⊥) → (q : Moment) → IsIn q (chronicle setting history) → (y : ℕ) (n : Message) → Emits q y n → ⊥
start_emits_none setting (event.Start r d c clock eps) history fair clean each x makes_ past there positive q inside y n emits =
    let e = event.Start r d c clock eps in
    let comes : IsNextEvent setting history e = record { fair = fair; clean = clean; before = each } in
    let begins : is_beginning setting (chronicle setting (e ∷ history)) ≡ true =
    subst (λ steps. is_beginning setting steps ≡ true) (sym (now_is setting r d c clock eps history comes))
    (starts_by setting r d c clock eps history comes) in
    let before_ : is_beginning setting (chronicle setting history) ≡ true =
    begins_before setting e history clean
    (era_kept (next_step setting (chronicle setting history) e) (chronicle setting history) (start_closes_none setting history r d c clock eps clean))
    begins in
    let most = leb-true (latest_reference (seen_of (chronicle setting history))) (all_started setting (chronicle setting history))
    (and_parts (nat_eq (era (chronicle setting history)) 1) _ before_).1 in
    let late = emission_late setting fair q y n emits history (clean_before setting e history clean) inside in
    let soon = no_later setting q (chronicle setting history) (history_chronicle setting history clean.is.0) inside in
    clash (all_started setting (chronicle setting history)) (when q) (latest_reference (seen_of (chronicle setting history))) late soon most
  where
    clash : (s w l : ℕ) → s < w → w ≤ l → l ≤ s → ⊥
    clash s w l a b c' = omega (arith, a, b, c')
start_emits_none setting (event.Join r d c clock eps) history fair clean each x makes_ past there positive q inside y n emits =
    positive (by (nat_eq d x) makes_ there)
  where
    by : (b : Bool) → b ≡ true
        → (if b then Some (new_past (calls.Joined (rates_of setting.net d) c clock eps)) else past_in (chronicle setting history) x) ≡ Some past
        → epoch_now past ≡ 0
    by true made' there' = ap epoch_now (sym (some_is there'))
    by false made' there' = cc
start_emits_none setting _ history fair clean each x makes_ past there positive q inside y n emits = cc

-- what is emitted is of a plan that is in force, or after a commit of the staged one
emission_reaches : (setting : Setting) (history : List Event) → AreGuarded setting → IsSteady setting history → (q : Moment) (y : ℕ) (n : Message)
    → IsIn q (chronicle setting history) → Emits q y n → n.epoch ≤ reach (chronicle setting history)
emission_reaches setting [] fair clean q y n inside emits = elim inside [ ]
emission_reaches setting (e ∷ history) fair clean q y n whole emits =
    let s = emits.sends in
    let own = sends_own s.past s.call n s.effect in
    subst (λ k. k ≤ reach (chronicle setting (e ∷ history))) (sym own.1)
    ((within setting (e ∷ history) clean.is).epochs y (after s.past s.call) (past_after_call q y s.call s.past s.act s.there))
emission_reaches setting (e ∷ history) fair clean q y n (behind t) emits =
    rises (emission_reaches setting history fair (clean_before setting e history clean) q y n t emits)
  where
    by : (c d : Bool) (a b : ℕ) → (c ≡ true → a ≡ b → d ≡ true) → a ≤ b → n.epoch ≤ reach_of c a → (a ≡ b) ⊎ (a + 1 ≤ b) → n.epoch ≤ reach_of d b
    by false true a b stays_ grows le order = omega (arith, grows, le)
    by false false a b stays_ grows le order = omega (arith, grows, le)
    by true true a b stays_ grows le order = omega (arith, grows, le)
    by true false a b stays_ grows le (inr more) = omega (arith, more, le)
    by true false a b stays_ grows le (inl same) = let is = stays_ refl same in cc

    order_of : (a b : ℕ) → a ≤ b → (a ≡ b) ⊎ (a + 1 ≤ b)
    order_of a b le = elim (cases_lt a b) [ inl less ↦ inr (omega (arith, less)) | inr least ↦ inl (omega (arith, le, least)) ]

    rises : n.epoch ≤ reach (chronicle setting history) → n.epoch ≤ reach (chronicle setting (e ∷ history))
    rises le =
        by (has_commit (seen_of (chronicle setting history))) (has_commit (seen_of (chronicle setting (e ∷ history)))) (era (chronicle setting history))
        (era (chronicle setting (e ∷ history)))
        (λ commit same. commit_stays setting (chronicle setting history) (chronicle setting (e ∷ history)) (behind whole)
        (history_chronicle setting (e ∷ history) clean.is) (least same) commit)
        (era_rises (next_step setting (chronicle setting history) e) (chronicle setting history)) le
        (order_of (era (chronicle setting history)) (era (chronicle setting (e ∷ history)))
        (era_rises (next_step setting (chronicle setting history) e) (chronicle setting history)))
      where
        least : {a b : ℕ} → a ≡ b → b ≤ a
        least same = omega (arith, same)

-- Short ones on calls

-- a call that is no entering receipt, and after which the device does not act, takes up nothing
takes_none : (past : Past) (call : Call) → EntersNot past call → is_acting (after past call) ≡ false → taken_up (transition_of past call) ≡ None
takes_none past call not_ idle = go (transition_of past call) not_ idle
  where
    go : (transition : Transition) → enters transition ≡ false → is_acting (added past call transition) ≡ false → taken_up transition ≡ None
    go (Entered duty edge) n i = cc
    go (Committed duty) n i = cc
    go (Recommitted duty) n i = cc
    go (Accepted edge) n i = refl
    go Moved n i = refl
    go TookOver n i = refl
    go DidEmit n i = refl
    go Nothing n i = refl

-- how far the term goes up
term_up : (a b : Stamp) → IsUpTo a b → a.term ≤ b.term
term_up a b (inl less) = omega (arith, less)
term_up a b (inr both) = let same = both.0 in omega (arith, same)

-- an entering receipt
record IsEntry (transition : Transition) : Type 0 where
  duty : Duty
  edge : Edge
  is : transition ≡ Entered duty edge

entry_of : (transition : Transition) → enters transition ≡ true → IsEntry transition
entry_of (Entered duty edge) is = record { duty = duty; edge = edge; is = refl }
entry_of _ is = cc

pub era_least : (steps : List Step) → 1 ≤ era steps
era_least steps = omega arith

reach_most : (c : Bool) (n : ℕ) → reach_of c n ≤ n + 1
reach_most true n = omega arith
reach_most false n = omega arith

reach_none : (c : Bool) (n : ℕ) → c ≡ false → reach_of c n ≤ n
reach_none true n none = cc
reach_none false n none = omega arith

-- The next event

module _ (setting : Setting) (e : Event) (history : List Event) (fair : AreGuarded setting) (clean : IsSteady setting (e ∷ history))
    (each : AtEach (Invariant setting) (chronicle setting (e ∷ history))) (before : IsTermed setting (chronicle setting history)) where
  abbrev one : List Step
  one = chronicle setting history

  abbrev two : List Step
  two = chronicle setting (e ∷ history)

  abbrev here : Moment
  here = record { step = next_step setting (chronicle setting history) e; earlier = chronicle setting history }

  abbrev Actor : ℕ → Type 0
  Actor a = IsActor setting (chronicle setting (e ∷ history)) a

  abbrev Was : ℕ → Type 0
  Was a = IsActor setting (chronicle setting history) a

  clean_then : IsSteady setting history
  clean_then = clean_before setting e history clean

  is_chronicle : IsChronicle setting (chronicle setting (e ∷ history))
  is_chronicle = history_chronicle setting (e ∷ history) clean.is

  era_up : era (chronicle setting history) ≤ era (chronicle setting (e ∷ history))
  era_up = era_rises (next_step setting (chronicle setting history) e) (chronicle setting history)

  from_of : (a : ℕ) (actor : Actor a) → From setting e history fair clean each a actor.past
  from_of a actor = from setting e history fair clean each a actor

  -- who emits with the event acts after it
  emitter : (y : ℕ) (n : Message) → Emits here y n → (actor : Actor y) × (n.stamp ≡ stamp_now actor.past)
  emitter y n emits =
      let s = emits.sends in (
        record {
          past = after s.past s.call;
          up = emitter_up setting here y n is_chronicle (timed setting (e ∷ history) (timely_of setting (e ∷ history) fair clean)) emits;
          there = past_after_call here y s.call s.past s.act s.there;
          acts = emission_acts s.past s.call emits.emission;
        },
        (sends_own s.past s.call n s.effect).0,
      )

  same_past : (a b : ℕ) (first_ : Actor a) (second : Actor b) → (a ≡ b) × (first_.past ≡ second.past)
  same_past a b first_ second =
      let same : a ≡ b = one_actor setting (e ∷ history) fair clean each a b first_ second in
      (same, some_is (sym (subst (λ z. past_in two z ≡ Some first_.past) same first_.there) ∙ second.there))

  term_here : (a : ℕ) (actor : Actor a) (y : ℕ) (n : Message) → Emits here y n → (y ≡ a) × (n.stamp.term ≡ (stamp_now actor.past).term)
  term_here a actor y n emits =
      let by = emitter y n emits in
      let same = same_past y a by.0 actor in
      (same.0, ap (λ z. z.term) by.1 ∙ ap (λ z. (stamp_now z).term) same.1)

  -- where the event makes a device of a plan nothing was emitted so far
  none_made : (z : ℕ) (p : Past) → makes z e ≡ true → past_in (chronicle setting (e ∷ history)) z ≡ Some p → (epoch_now p ≡ 0 → ⊥) → (q : Moment)
      → IsIn q (chronicle setting (e ∷ history)) → (y : ℕ) (n : Message) → Emits q y n → ⊥
  none_made z p makes_ there positive q whole y n emits = makes_or_calls setting e history z y emits.sends.call emits.sends.act makes_
  none_made z p makes_ there positive q (behind t) y n emits = start_emits_none setting e history fair clean each.0 z makes_ p there positive q t y n emits

  positive_of : (a : ℕ) (actor : Actor a) → epoch_now actor.past ≡ 0 → ⊥
  positive_of a actor zero_ =
      let duty = acting_has_duty two a actor.past actor.there actor.acts in
      let least = (duty_numbered setting (e ∷ history) a actor.past actor.there duty.0 duty.1).0 in
      clash duty.0.epoch (sym (ap (λ o. map_or o 0 (λ (u : Duty). u.epoch)) duty.1) ∙ zero_) least
    where
      clash : (k : ℕ) → k ≡ 0 → 1 ≤ k → ⊥
      clash k same le = omega (arith, same, le)

  none_started : (a : ℕ) (actor : Actor a) → makes a e ≡ true → (q : Moment) → IsIn q (chronicle setting (e ∷ history)) → (y : ℕ) (n : Message) → Emits q y n
      → ⊥
  none_started a actor makes_ = none_made a actor.past makes_ actor.there (positive_of a actor)

  -- then no device has a stamp
  no_term : (a : ℕ) (p : Past) → past_in (chronicle setting (e ∷ history)) a ≡ Some p
      → ((q : Moment) → IsIn q (chronicle setting (e ∷ history)) → (y : ℕ) (n : Message) → Emits q y n → ⊥) → (stamp_now p).term ≡ 0
  no_term a p there none =
      let premises = premises_of setting (seen_of two) clean.premises in
      ap (λ z. z.term) (unstamped setting two a p is_chronicle premises.delay premises.renew there none)

  -- who takes over could, before
  next_then : (a : ℕ) (p : Past) → TakesOver setting e history fair clean each a p → IsNext setting (chronicle setting history) a
  next_then a p t = inr (t.old, t.backup)

  not_after_itself : (r : Moment) → IsIn r (chronicle setting (e ∷ history)) → IsBefore here r → ⊥
  not_after_itself r inside t =
      let more = tail_length t in
      let less = tail_length inside in
      clash (length one) (length r.earlier) more less
    where
      clash : (n k : ℕ) → suc n ≤ k → suc k ≤ suc n → ⊥
      clash n k a b = omega (arith, a, b)

  -- The fields

  at_most : {n k : ℕ} → n ≡ k → n ≤ k
  at_most same = omega (arith, same)

  top_now : (a : ℕ) (actor : Actor a) (q : Moment) → IsIn q (chronicle setting (e ∷ history)) → (y : ℕ) (n : Message) → Emits q y n
      → n.stamp.term ≤ (stamp_now actor.past).term
  top_now a actor q whole y n emits = at_most (term_here a actor y n emits).1
  top_now a actor q (behind t) y n emits = by (from_of a actor)
    where
      by : From setting e history fair clean each a actor.past → n.stamp.term ≤ (stamp_now actor.past).term
      by (started makes_) = absurd (none_started a actor makes_ q (behind t) y n emits)
      by (went_on w) = subst (λ k. n.stamp.term ≤ k) (sym w.term) (before.top a w.old q t y n emits)
      by (took_over w) =
          let le = (before.next a w.then_ w.up w.there w.idle (next_then a actor.past w)).0 q t y n emits in
          let more = w.term in
          omega (arith, le, more)

  own_now : (a : ℕ) (actor : Actor a) (q : Moment) → IsIn q (chronicle setting (e ∷ history)) → (y : ℕ) (n : Message) → Emits q y n
      → n.stamp.term ≡ (stamp_now actor.past).term → (y ≡ a) × IsWhole q (chronicle setting (e ∷ history)) a
  own_now a actor q whole y n emits same = ((term_here a actor y n emits).0, λ r inside after_. absurd (not_after_itself r inside after_))
  own_now a actor q (behind t) y n emits same = by (from_of a actor)
    where
      on : (w : WentOn setting e history fair clean each a actor.past) → IsWhole q (chronicle setting history) a → IsWhole q (chronicle setting (e ∷ history)) a
      on w rest r whole after_ = (remakes_none setting one e a w.none, λ p call acted there. w.still p call acted there)
      on w rest r (behind u) after_ = rest r u after_

      by : From setting e history fair clean each a actor.past → (y ≡ a) × IsWhole q (chronicle setting (e ∷ history)) a
      by (started makes_) = absurd (none_started a actor makes_ q (behind t) y n emits)
      by (went_on w) = let so = before.own a w.old q t y n emits (same ∙ w.term) in (so.0, on w so.1)
      by (took_over w) =
          let le = (before.next a w.then_ w.up w.there w.idle (next_then a actor.past w)).0 q t y n emits in
          let more = w.term in
          absurd (omega (arith, le, more, same))

  same_now : (a : ℕ) (actor : Actor a) → epoch_now actor.past ≡ era (chronicle setting (e ∷ history)) + 1 → (q : Moment)
      → IsIn q (chronicle setting (e ∷ history)) → (y : ℕ) (n : Message) → Emits q y n → n.epoch ≡ era (chronicle setting (e ∷ history)) + 1
      → n.stamp.term ≡ (stamp_now actor.past).term
  same_now a actor number q whole y n emits epoch = (term_here a actor y n emits).1
  same_now a actor number q (behind t) y n emits epoch = by (from_of a actor)
    where
      clash_up : (k r n' m : ℕ) → k ≡ m + 1 → k ≤ r → r ≤ n' → n' ≤ m → ⊥
      clash_up k r n' m is le most up = omega (arith, is, le, most, up)

      by_closed : (w : WentOn setting e history fair clean each a actor.past) → epoch_now actor.past ≡ epoch_now w.old.past → (b : Bool)
          → (next_step setting (chronicle setting history) e).seen.closed ≡ b → n.stamp.term ≡ (stamp_now actor.past).term
      by_closed w kept false open_ =
          let era_is : era two + 1 ≡ era one + 1 = ap (λ k. k + 1) (era_kept (next_step setting one e) one open_) in
          before.same a w.old (sym kept ∙ number ∙ era_is) q t y n emits (epoch ∙ era_is) ∙ sym w.term
      by_closed w kept true closed =
          absurd
          (clash_up (epoch_now w.old.past) (reach one) (era one + 1) (era two) (sym kept ∙ number)
          ((within setting history clean_then.is).epochs a w.old.past w.old.there) (reach_most (has_commit (seen_of one)) (era one))
          (grown (era two) (era one) (era_grows (next_step setting one e) one closed)))
        where
          grown : (m k : ℕ) → m ≡ k + 1 → k + 1 ≤ m
          grown m k is = omega (arith, is)

      by : From setting e history fair clean each a actor.past → n.stamp.term ≡ (stamp_now actor.past).term
      by (started makes_) = absurd (none_started a actor makes_ q (behind t) y n emits)
      by (went_on w) = by_epoch w.epoch
        where
          by_epoch : (epoch_now actor.past ≡ epoch_now w.old.past)
              ⊎ ((epoch_now actor.past ≡ era (chronicle setting history) + 1) × (has_commit (seen_of (chronicle setting history)) ≡ false))
              → n.stamp.term ≡ (stamp_now actor.past).term
          by_epoch (inl kept) = by_closed w kept (next_step setting (chronicle setting history) e).seen.closed refl
          by_epoch (inr new) =
              absurd
              (clash_up n.epoch (reach one) (era one) (era two) epoch (emission_reaches setting history fair clean_then q y n t emits)
              (reach_none (has_commit (seen_of one)) (era one) new.1) era_up)
      by (took_over w) =
          absurd
          (clash_up (era one) (era one) (era one) (era two) (sym (old_number setting e history fair clean each a w.then_ w.up w.there w.old) ∙ sym w.epoch
          ∙ number) (at_most refl) (at_most refl) era_up)

  life_now : IsOneLife (chronicle setting (e ∷ history))
  life_now p q whole whole x y m n first_ second terms = ((term_here y (emitter y n second).0 x m first_).0, λ t. absurd (not_after_itself q whole t))
  life_now p q (behind t) whole x y m n first_ second terms =
      let by = emitter y n second in
      let so = own_now y by.0 p (behind t) x m first_ (terms ∙ ap (λ z. z.term) by.1) in (
        so.0,
        λ u r inside after_. subst (λ z. (remakes z r.step.act ≡ false)
            × ((past : Past) (call : Call) → r.step.act ≡ Calls z call → past_in r.earlier z ≡ Some past → EntersNot past call)) (sym so.0)
            (so.1 r (behind inside) after_),
      )
  life_now p q whole (behind t) x y m n first_ second terms =
      let by = emitter x m first_ in
      (sym (own_now x by.0 q (behind t) y n second (sym terms ∙ ap (λ z. z.term) by.1)).0, λ u. absurd (not_after_itself q (behind t) u))
  life_now p q (behind t) (behind u) x y m n first_ second terms = before.life p q t u x y m n first_ second terms

  -- Who may act next

  module _ (x : ℕ) (p : Past) (up : is_up (seen_of (chronicle setting (e ∷ history))) x ≡ true) (there : past_in (chronicle setting (e ∷ history)) x ≡ Some p)
      (idle : is_acting p ≡ false) (next : IsNext setting (chronicle setting (e ∷ history)) x) where
    new_now : is_new (chronicle setting (e ∷ history)) x ≡ true → epoch_now p ≡ era (chronicle setting (e ∷ history)) + 1
    new_now new = eqb-true (epoch_now p) (era two + 1) (sym (ap (λ o. same_number o (era two + 1)) (epoch_is setting (e ∷ history) x p up there)) ∙ new)

    old_now : is_old (chronicle setting (e ∷ history)) x ≡ true → epoch_now p ≡ era (chronicle setting (e ∷ history))
    old_now old = eqb-true (epoch_now p) (era two) (sym (ap (λ o. same_number o (era two)) (epoch_is setting (e ∷ history) x p up there)) ∙ old)

    positive : epoch_now p ≡ 0 → ⊥
    positive zero_ = by next
      where
        clash : (k : ℕ) → 1 ≤ era (chronicle setting (e ∷ history))
            → (k ≡ era (chronicle setting (e ∷ history))) ⊎ (k ≡ era (chronicle setting (e ∷ history)) + 1) → k ≡ 0 → ⊥
        clash k le (inl is) zero' = omega (arith, le, is, zero')
        clash k le (inr is) zero' = omega (arith, le, is, zero')

        by : IsNext setting (chronicle setting (e ∷ history)) x → ⊥
        by (inl new) = clash (epoch_now p) (era_least two) (inr (new_now new)) zero_
        by (inr old) = clash (epoch_now p) (era_least two) (inl (old_now old.0)) zero_

    -- then nobody takes over with the event
    no_take : (a : ℕ) (actor : Actor a) → TakesOver setting e history fair clean each a actor.past → ⊥
    no_take a actor w = by next
      where
        number : epoch_now actor.past ≡ era (chronicle setting history)
        number = w.epoch ∙ old_number setting e history fair clean each a w.then_ w.up w.there w.old

        far : (k m n' : ℕ) → k ≡ m → m ≤ n' → k ≡ n' + 1 → ⊥
        far k m n' is le is' = omega (arith, is, le, is')

        number_of : (k : ℕ) → same_number (epoch_in (chronicle setting (e ∷ history)) a) k ≡ true → epoch_now actor.past ≡ k
        number_of k is =
            eqb-true (epoch_now actor.past) k (sym (ap (λ o. same_number o k) (epoch_is setting (e ∷ history) a actor.past actor.up actor.there)) ∙ is)

        open_ : (b : Bool) → (next_step setting (chronicle setting history) e).seen.closed ≡ b
            → (next_step setting (chronicle setting history) e).seen.closed ≡ false
        open_ false is = is
        open_ true is = absurd (current (actor_is_current setting (e ∷ history) fair clean each a actor))
          where
            grown : era (chronicle setting (e ∷ history)) ≡ era (chronicle setting history) + 1
            grown = era_grows (next_step setting (chronicle setting history) e) (chronicle setting history) is

            less : (k m n' : ℕ) → k ≡ m → n' ≡ m + 1 → (k ≡ n') ⊎ (k ≡ n' + 1) → ⊥
            less k m n' is' up' (inl so) = omega (arith, is', up', so)
            less k m n' is' up' (inr so) = omega (arith, is', up', so)

            current : (is_old (chronicle setting (e ∷ history)) a ≡ true) ⊎ (is_new (chronicle setting (e ∷ history)) a ≡ true) → ⊥
            current (inl old) = less (epoch_now actor.past) (era one) (era two) number grown (inl (number_of (era two) old))
            current (inr new) = less (epoch_now actor.past) (era one) (era two) number grown (inr (number_of (era two + 1) new))

        by : IsNext setting (chronicle setting (e ∷ history)) x → ⊥
        by (inl new) =
            let commit : has_commit (seen_of two) ≡ true =
            reached (has_commit (seen_of two)) (era two)
            (subst (λ k. k ≤ reach two) (new_now new) ((within setting (e ∷ history) clean.is).epochs x p there)) in
            far (epoch_now actor.past) (era one) (era two) number era_up
            (number_of (era two + 1) (actor_is_new setting (e ∷ history) fair clean each commit a actor))
        by (inr old) =
            let plan_is : plan_now setting two ≡ plan_now setting one =
            plan_kept setting (next_step setting one e) one (open_ (next_step setting one e).seen.closed refl) in
            let same : x ≡ a = old.1 ∙ ap (λ z. z.backup_root) plan_is ∙ sym w.backup in
            not_both (is_acting p) (ap is_acting (some_is (sym there ∙ subst (λ z. past_in two z ≡ Some actor.past) (sym same) actor.there)) ∙ actor.acts) idle

    -- so it is enough that its term is as new as those that were emitted, and as of who acted
    abbrev IsBound : ℕ → Type 0
    IsBound k = ((q : Moment) → IsIn q (chronicle setting history) → (y : ℕ) (n : Message) → Emits q y n → n.stamp.term ≤ k)
        × ((a : ℕ) (actor : Was a) → (stamp_now actor.past).term ≤ k)

    abbrev IsBoundNow : ℕ → Type 0
    IsBoundNow k = ((q : Moment) → IsIn q (chronicle setting (e ∷ history)) → (y : ℕ) (n : Message) → Emits q y n → n.stamp.term ≤ k)
        × ((a : ℕ) (actor : Actor a) → (stamp_now actor.past).term ≤ k)

    bound_now : (k : ℕ) → IsBound k → IsBoundNow k
    bound_now k bound = (emitted, actors)
      where
        actors : (a : ℕ) (actor : Actor a) → (stamp_now actor.past).term ≤ k
        actors a actor = by (from_of a actor)
          where
            least : (m : ℕ) → m ≡ 0 → m ≤ k
            least m is = omega (arith, is)

            by : From setting e history fair clean each a actor.past → (stamp_now actor.past).term ≤ k
            by (started makes_) = least (stamp_now actor.past).term (no_term a actor.past actor.there (none_started a actor makes_))
            by (went_on w) = subst (λ m. m ≤ k) (sym w.term) (bound.1 a w.old)
            by (took_over w) = absurd (no_take a actor w)

        emitted : (q : Moment) → IsIn q (chronicle setting (e ∷ history)) → (y : ℕ) (n : Message) → Emits q y n → n.stamp.term ≤ k
        emitted q whole y n emits = let by = emitter y n emits in subst (λ m. m ≤ k) (sym (ap (λ z. z.term) by.1)) (actors y by.0)
        emitted q (behind t) y n emits = bound.0 q t y n emits

    -- it was there before, and its term did not fall
    stood : (q : Past) → is_up (seen_of (chronicle setting history)) x ≡ true → past_in (chronicle setting history) x ≡ Some q → is_acting q ≡ false
        → (stamp_now q).term ≤ (stamp_now p).term → epoch_now p ≡ epoch_now q → IsBound (stamp_now p).term
    stood q up' there' idle' le kept =
        let rest = before.next x q up' there' idle' next_was in
        (λ r inside y n emits. trans (rest.0 r inside y n emits), λ a actor. trans (rest.1 a actor))
      where
        trans : {k : ℕ} → k ≤ (stamp_now q).term → k ≤ (stamp_now p).term
        trans less = omega (arith, less, le)

        numbered : (k : ℕ) → epoch_now p ≡ k → same_number (epoch_in (chronicle setting history) x) k ≡ true
        numbered k is = ap (λ o. same_number o k) (epoch_is setting history x q up' there') ∙ eq-eqb (epoch_now q) k (sym kept ∙ is)

        most : epoch_now p ≤ era (chronicle setting history) + 1
        most = below_ (epoch_now p) (epoch_now q) (reach one) (era one + 1) kept ((within setting history clean_then.is).epochs x q there')
            (reach_most (has_commit (seen_of one)) (era one))
          where
            below_ : (k m r n' : ℕ) → k ≡ m → m ≤ r → r ≤ n' → k ≤ n'
            below_ k m r n' is a b = omega (arith, is, a, b)

        by : (b : Bool) → (next_step setting (chronicle setting history) e).seen.closed ≡ b → IsNext setting (chronicle setting (e ∷ history)) x
            → IsNext setting (chronicle setting history) x
        by false open' (inl new) = inl (numbered (era one + 1) (new_now new ∙ ap (λ k. k + 1) (era_kept (next_step setting one e) one open')))
        by false open' (inr old) =
            inr (
              numbered (era one) (old_now old.0 ∙ era_kept (next_step setting one e) one open'),
              old.1
                  ∙ ap (λ z. z.backup_root) (plan_kept setting (next_step setting one e) one open'),
            )
        by true closed (inl new) = absurd (over (epoch_now p) (era two) (era one) (new_now new) (era_grows (next_step setting one e) one closed) most)
          where
            over : (k m n' : ℕ) → k ≡ m + 1 → m ≡ n' + 1 → k ≤ n' + 1 → ⊥
            over k m n' is grown le' = omega (arith, is, grown, le')
        by true closed (inr old) = inl (numbered (era one + 1) (old_now old.0 ∙ era_grows (next_step setting one e) one closed))

        next_was : IsNext setting (chronicle setting history) x
        next_was = by (next_step setting (chronicle setting history) e).seen.closed refl next

    -- it took up the staged plan with the event: from a message of the committer's term
    entered : (q : Past) (call : Call) → is_up (seen_of (chronicle setting history)) x ≡ true → past_in (chronicle setting history) x ≡ Some q
        → act_by setting (chronicle setting history) e ≡ Calls x call → p ≡ after q call → enters (transition_of q call) ≡ true → IsBound (stamp_now p).term
    entered q call up' there' acted now enters_ = with_receipt r.link r.message r.counter r.is
      where
        entry : IsEntry (transition_of q call)
        entry = entry_of (transition_of q call) enters_

        over : accepted_over (transition_of q call) ≡ Some entry.edge
        over = ap accepted_over entry.is

        ahead : IsAhead setting (chronicle setting history) x q entry.duty
        ahead = always_ahead setting history fair clean_then each.0 x q up' there' entry.duty (takes_given q call entry.duty (ap taken_up entry.is))

        number : epoch_now (after q call) ≡ era (chronicle setting history) + 1
        number = taken_number setting e history fair clean each q call entry.duty (ap taken_up entry.is) ∙ ahead.number

        r : IsReceipt call
        r = accepts_receipt q call entry.edge over

        with_receipt : (l : ℕ) (m : Message) (c : ℕ) → call ≡ calls.Receive l m c → IsBound (stamp_now p).term
        with_receipt l m c is = by em.moment em.is_in em.device em.message em.emits em.carries em.epoch_is
          where
            over_ : accepted_over (transition_of q (calls.Receive l m c)) ≡ Some entry.edge
            over_ = sym (ap (λ z. accepted_over (transition_of q z)) is) ∙ over

            passes : (stamp_now (after q (calls.Receive l m c)) ≡ m.stamp) × (epoch_now (after q (calls.Receive l m c)) ≡ m.epoch)
            passes = passes_on q l m c entry.edge over_

            em : Emitted (chronicle setting (e ∷ history)) m.stamp m.epoch
            em =
                traced_emission setting two m.stamp m.epoch here x whole
                (accepted_traced setting two is_chronicle (premises_of setting (seen_of two) clean.premises).delay here whole x l m c q entry.edge there'
                (acted ∙ ap (Calls x) is) over_)

            by : (f : Moment) → IsIn f (chronicle setting (e ∷ history)) → (y : ℕ) (n : Message) → Emits f y n → n.stamp ≡ m.stamp → n.epoch ≡ m.epoch
                → IsBound (stamp_now p).term
            by f whole y n emits carries epoch =
                let same : y ≡ x = device_is (sym emits.sends.act ∙ acted) in
                let actor : Actor y = (emitter y n emits).0 in
                absurd (not_both (is_acting p) (ap is_acting (some_is (sym there ∙ subst (λ z. past_in two z ≡ Some actor.past) same actor.there))
                ∙ actor.acts) idle)
            by f (behind t) y n emits carries epoch =
                (λ g inside z k emits'. equal (before.top root committer g inside z k emits'), λ a actor. equal (of_actor a actor))
              where
                n_number : n.epoch ≡ era (chronicle setting history) + 1
                n_number = epoch ∙ sym passes.1 ∙ sym (ap (λ z. epoch_now (after q z)) is) ∙ number

                commit : has_commit (seen_of (chronicle setting history)) ≡ true
                commit = reached (has_commit (seen_of one)) (era one)
                    (subst (λ k. k ≤ reach one) n_number (emission_reaches setting history fair clean_then f y n t emits))

                root : ℕ
                root = staged_root setting (chronicle setting history)

                committer : Was root
                committer = committed_actor setting history fair clean_then each.0 commit

                term : (stamp_now p).term ≡ (stamp_now committer.past).term
                term =
                    ap (λ z. (stamp_now z).term) now ∙ ap (λ z. (stamp_now (after q z)).term) is ∙ ap (λ z. z.term) (passes.0 ∙ sym carries)
                    ∙ before.same root committer
                    (new_number setting e history fair clean each root committer.past committer.up committer.there
                    (actor_is_new setting history fair clean_then each.0 commit root committer)) f t y n emits n_number

                equal : {k : ℕ} → k ≤ (stamp_now committer.past).term → k ≤ (stamp_now p).term
                equal {k = k} le = subst (λ z. k ≤ z) (sym term) le

                of_actor : (a : ℕ) (actor : Was a) → (stamp_now actor.past).term ≤ (stamp_now committer.past).term
                of_actor a actor =
                    let same : a ≡ root = one_actor setting history fair clean_then each.0 a root actor committer in
                    at_most (ap (λ z. (stamp_now z).term) (some_is (sym (subst (λ z. past_in one z ≡ Some actor.past) same actor.there) ∙ committer.there)))

    by_call : (q : Past) (call : Call) → is_up (seen_of (chronicle setting history)) x ≡ true → past_in (chronicle setting history) x ≡ Some q
        → act_by setting (chronicle setting history) e ≡ Calls x call → p ≡ after q call → (b c : Bool) → enters (transition_of q call) ≡ b → is_acting q ≡ c
        → IsBound (stamp_now p).term
    by_call q call up' there' acted now true c enters_ acts = entered q call up' there' acted now enters_
    by_call q call up' there' acted now false true not_ acts =
        absurd (not_both (is_acting (after q call)) (acts_on q (after q call) acts (goes_on stays call not_)).acts (sym (ap is_acting now) ∙ idle))
    by_call q call up' there' acted now false false not_ still =
        stood q up' there' still
        (subst (λ z. (stamp_now q).term ≤ (stamp_now z).term) (sym now)
        (term_up (stamp_now q) (stamp_now (after q call)) (stamps_rise q (after q call) (goes_on stays call not_))))
        (ap epoch_now now ∙ kept_number setting e history fair clean each q call (takes_none q call not_ (sym (ap is_acting now) ∙ idle)))

    by_went : is_up (seen_of (chronicle setting history)) x ≡ true → makes x e ≡ false → Went setting e history x → IsBound (stamp_now p).term
    by_went up' none (made makes_) = absurd (not_both (makes x e) makes_ none)
    by_went up' none (called q call acted there' now) =
        by_call q call up' there' acted (some_is (sym there ∙ now)) (enters (transition_of q call)) (is_acting q) refl refl
    by_went up' none (alone same did) = stood p up' (sym same ∙ there) idle (at_most refl) refl

    by_made : (b : Bool) → makes x e ≡ b → IsBoundNow (stamp_now p).term
    by_made false none =
        bound_now (stamp_now p).term (by_went (up_case (makes x e) (fails (thing.Device x) e) (is_up (seen_of one) x) up none) none (went setting e history x))
    by_made true makes_ =
        let none = none_made x p makes_ there positive in
        (λ q inside y n emits. absurd (none q inside y n emits), λ a actor. least (stamp_now actor.past).term (no_term a actor.past actor.there none))
      where
        least : (m : ℕ) → m ≡ 0 → m ≤ (stamp_now p).term
        least m is = omega (arith, is)

    next_now : IsBoundNow (stamp_now p).term
    next_now = by_made (makes x e) refl

  termed_now : IsTermed setting (chronicle setting (e ∷ history))
  termed_now = record { life = life_now; top = top_now; own = own_now; same = same_now; next = next_now }

pub termed : (setting : Setting) (history : List Event) → AreGuarded setting → IsSteady setting history → AtEach (Invariant setting) (chronicle setting history)
    → IsTermed setting (chronicle setting history)
termed setting [] fair clean each =
    record {
      life = λ p q inside inside' x y m n first_ second terms. elim inside [ ];
      top = λ a actor q inside y n emits. elim inside [ ];
      own = λ a actor q inside y n emits same. elim inside [ ];
      same = λ a actor number q inside y n emits epoch. elim inside [ ];
      next = λ x p up there idle next. elim (none x p there) [ ];
    }
  where
    none : (x : ℕ) (p : Past) → past_in (chronicle setting []) x ≡ Some p → ⊥
    none x p there = cc
termed setting (e ∷ history) fair clean each =
    termed_now setting e history fair clean each (termed setting history fair (clean_before setting e history clean) each.0)
