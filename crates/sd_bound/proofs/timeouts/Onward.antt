-- What an event of a settled run leaves of the place of a device that did not fail: by what it did to the device, and by how long the device had waited where
-- it moves or takes over.
use Rattle.std.specs.Prelude.{◌≡◌, ℕ, ◌+◌, ◌-◌, ◌<◌, ◌≤◌, Bool, true, false, max, List, [], ◌∷◌, Option, Some, None, is_some, option_map, refl, if◌then◌else◌}
use Rattle.std.proofs.Common.{arith, ap, sym, ◌∙◌, subst}
use Rattle.sd_num.specs.Lists.{map_or}
use Rattle.sd_num.specs.Numbers.{low}
use Rattle.sd_plan.specs.topo.Network.{Network, least_low, rates_of}
use Rattle.sd_plan.specs.declared.Duty.{Duty}
use Rattle.sd_plan.specs.declared.Hop.{Hop}
use Rattle.sd_plan.specs.declared.Plan.{Plan}
use Rattle.sd_plan.specs.Duties.{duty_of, edge_of}
use Rattle.sd_plan.specs.Plans.{is_root, is_backup_root, has_backup, backup_of}
use Rattle.sd_checker.specs.check_root.Timing.{silence}
use Rattle.sd_device.specs.declared.msg.Message.{Message}
use Rattle.sd_device.specs.Calls.{Call, Tick, Receive, Transition, Entered, Committed, Recommitted, Moved, TookOver, Past}
use Rattle.sd_device.specs.Words.{transition_of, taken_up, has_moved, is_acting, duty_now, wait_to_move}
use Rattle.sd_device.specs.Words as words
use Rattle.sd_sched.specs.declared.Event.{Event}
use Rattle.sd_sched.specs.Events.{reference_of}
use Rattle.sd_history.specs.World.{Setting, plan_numbered}
use Rattle.sd_history.specs.Steps.{Calls, Step, act_by, acts_in}
use Rattle.sd_history.specs.Chronicle.{past_in, chronicle, next_step}
use Rattle.sd_history.proofs.Given.{some_is, takes_given}
use Rattle.sd_safety.specs.invariant.Bounds.{second_low}
use Rattle.sd_safety.specs.invariant.Eras.{era, failed_now, heard_at, moved}
use Rattle.sd_safety.proofs.invariant.Arithmetic.{a4_first, a4_second, silence_is_short}
use Rattle.sd_safety.proofs.invariant.Facts.{IsSound}
use Rattle.sd_safety.proofs.invariant.Sides.{not_both}
use Rattle.sd_safety.specs.messages.Moments.{whole, behind, Moment, when, IsIn}
use Rattle.sd_safety.proofs.messages.Receipts.{call_is}
use Rattle.sd_safety.proofs.messages.Tails.{step_time, history_chronicle, before_is_earlier}
use Rattle.sd_safety.specs.timers.Times.{AreTimed, heard_in, moved_in}
use Rattle.sd_safety.proofs.timers.NotEarly.{IsTick, move_waited, move_not_early, takeover_not_early}
use Rattle.sd_safety.proofs.timers.Turns.{IsMove, is_move, IsTakeover, is_takeover as takes_over}
use Rattle.sd_safety.proofs.timers.NetworkBounds.{least_is_low, rate_is_low}
use Rattle.sd_safety.proofs.waits.SameReferences.{heard_is}
use Rattle.sd_safety.proofs.waits.Standing.{clean, sound, steps_timed}
use Rattle.sd_safety.proofs.moves.Ahead.{IsAhead, always_ahead}
use Rattle.sd_safety.proofs.receipts.Alive.{Went, made, called, alone, went}
use Rattle.sd_safety.proofs.silences.SoundWays.{top_of}
use Rattle.sd_device.proofs.Reached.{added}
use Rattle.sd_safety.proofs.timers.Pasts.{stays_moved, stays_acting}
use Rattle.sd_bound.specs.timeouts.Settled.{the_plan, IsSettled, IsSoundMember, Place, IsOnward}
use Rattle.sd_bound.proofs.timeouts.Settled.{settled_before, era_is, failed_then}
use Rattle.sd_bound.proofs.timeouts.Scenes.{place_now, scene}

-- What a call that takes up nothing does to the place

moved_with : (past : Past) (call : Call) (transition : Transition) → taken_up transition ≡ None → (transition ≡ Moved → ⊥)
    → has_moved (added past call transition) ≡ has_moved past
moved_with past call (Entered duty edge) none other = cc
moved_with past call (Committed duty) none other = cc
moved_with past call (Recommitted duty) none other = cc
moved_with past call Moved none other = absurd (other refl)
moved_with past call _ none other = refl

acts_with : (past : Past) (call : Call) (transition : Transition) → taken_up transition ≡ None → (transition ≡ TookOver → ⊥)
    → is_acting (added past call transition) ≡ is_acting past
acts_with past call (Entered duty edge) none other = cc
acts_with past call (Committed duty) none other = cc
acts_with past call (Recommitted duty) none other = cc
acts_with past call TookOver none other = absurd (other refl)
acts_with past call _ none other = refl

-- How long who moves has waited

backed_by : (net : Network) (plan : Plan) (n y w : ℕ) → is_root plan y ≡ false → is_backup_root plan y ≡ false → wait_to_move (duty_of net plan n y) ≡ Some w
    → (has_backup plan y ≡ true) × (plan.wait ≡ w)
backed_by net plan n y w root backup waits = by (backup_of plan y) (rw (root, backup) at waits)
  where
    by : (o : Option Hop) → (if is_some (option_map (edge_of net y) o) then Some plan.wait else None) ≡ Some w
        → (map_or o false (λ hop. true) ≡ true) × (plan.wait ≡ w)
    by None h = cc
    by (Some hop) h = (refl, some_is h)

first_wait : (net : Network) (plan : Plan) (n y w : ℕ) → is_root plan y ≡ false → is_backup_root plan y ≡ true → wait_to_move (duty_of net plan n y) ≡ Some w
    → plan.wait_first ≡ w
first_wait net plan n y w root backup waits = by (rw (root, backup) at waits)
  where
    by : Some plan.wait_first ≡ Some w → plan.wait_first ≡ w
    by h = some_is h

no_wait : (net : Network) (plan : Plan) (n y w : ℕ) → is_root plan y ≡ true → wait_to_move (duty_of net plan n y) ≡ Some w → ⊥
no_wait net plan n y w root waits = by (rw (root) at waits)
  where
    by : None ≡ Some w → ⊥
    by h = cc

module _ (net : Network) (plan : Plan) (fine : IsSound net plan) where
  wait_long : (n y w : ℕ) (r b : Bool) → is_root plan y ≡ r → is_backup_root plan y ≡ b → wait_to_move (duty_of net plan n y) ≡ Some w
      → silence net < least_low net w
  wait_long n y w true b root backup waits = absurd (no_wait net plan n y w root waits)
  wait_long n y w false true root backup waits =
      let long : silence net < least_low net plan.wait_first = a4_first fine.timed in
      subst (λ k. silence net < least_low net k) (first_wait net plan n y w root backup waits) long
  wait_long n y w false false root backup waits =
      let long : silence net < least_low net plan.wait = silence_is_short fine.timed in
      subst (λ k. silence net < least_low net k) (backed_by net plan n y w root backup waits).1 long

later_than : (s l r h : ℕ) → s < l → l ≤ r - h → r ≤ h + s → ⊥
later_than s l r h long low_ by = omega (arith, long, low_, by)

later_than_both : (s l r h m : ℕ) → s < l → l ≤ r - max h m → r ≤ h + s → ⊥
later_than_both s l r h m long low_ by = omega (arith, long, low_, by)

two_numbers : (n k : ℕ) → n ≡ k → n + 1 ≡ k → ⊥
two_numbers n k one two = omega (arith, one, two)

module _ (setting : Setting) (epoch : ℕ) (x : Event) (h : List Event) (e next : Event) (calm : ℕ) (settled : IsSettled setting epoch (e ∷ x ∷ h) next calm)
    (late : calm < reference_of e) where
  abbrev steps : List Step
  steps = chronicle setting (x ∷ h)

  abbrev after_ : List Step
  after_ = chronicle setting (e ∷ x ∷ h)

  same_failed : failed_now (chronicle setting (e ∷ x ∷ h)) ≡ failed_now (chronicle setting (x ∷ h))
  same_failed = failed_then setting epoch (e ∷ x ∷ h) next calm settled (top_of setting (x ∷ h) e) (behind whole) late

  later_event : calm < reference_of next
  later_event =
      let goes : reference_of e ≤ reference_of next =
      step_time setting (next_step setting (chronicle setting (e ∷ x ∷ h)) next) (chronicle setting (e ∷ x ∷ h))
      (history_chronicle setting (next ∷ e ∷ x ∷ h) settled.comes.clean.is) in
      omega (arith, late, goes)

  timed_ : AreTimed setting (chronicle setting (e ∷ x ∷ h))
  timed_ = steps_timed setting e (x ∷ h) next settled.comes

  fine : IsSound setting.net (the_plan setting epoch)
  fine = subst (λ n. IsSound setting.net (plan_numbered setting n)) (era_is setting epoch (x ∷ h) e calm (settled_before setting epoch x h e next calm settled late))
      (sound setting x h e (settled_before setting epoch x h e next calm settled late).comes)

  module _ (y : ℕ) (well : IsSoundMember setting epoch (failed_now (chronicle setting (x ∷ h))) y) where
    now_ : Place setting epoch (top_of setting (x ∷ h) e) y
    now_ = place_now setting epoch x h e calm (settled_before setting epoch x h e next calm settled late).way late y well

    next_ : Place setting epoch (top_of setting (e ∷ x ∷ h) next) y
    next_ = place_now setting epoch e (x ∷ h) next calm settled.way later_event y (subst (λ failed. IsSoundMember setting epoch failed y) (sym same_failed) well)

    -- what the event called, where it called the device
    record IsCalled (past : Past) (call : Call) : Type 0 where
      act : act_by setting (chronicle setting (x ∷ h)) e ≡ Calls y call
      there : past_in (chronicle setting (x ∷ h)) y ≡ Some past
      then_ : past_in (chronicle setting (e ∷ x ∷ h)) y ≡ Some (words.after past call)
      none : taken_up (transition_of past call) ≡ None

    -- it took up nothing: else it would be of the second plan
    takes_none : (past : Past) (call : Call) → past_in (chronicle setting (x ∷ h)) y ≡ Some past
        → past_in (chronicle setting (e ∷ x ∷ h)) y ≡ Some (words.after past call) → (o : Option Duty) → taken_up (transition_of past call) ≡ o
        → taken_up (transition_of past call) ≡ None
    takes_none past call there then_ None is = is
    takes_none past call there then_ (Some u) is =
        let ahead : IsAhead setting steps y past u =
        always_ahead setting (x ∷ h) settled.comes.fair (clean setting x h e (settled_before setting epoch x h e next calm settled late).comes)
        (settled_before setting epoch x h e next calm settled late).comes.before y past now_.up there u (takes_given past call u is) in
        let number : u.epoch ≡ epoch =
        ap (λ (o : Option Duty). map_or (map_or (option_map Some o) (duty_now past) (λ told. told)) 0 (λ (v : Duty). v.epoch)) (sym is)
        ∙ ap (λ (p : Past). map_or (duty_now p) 0 (λ (v : Duty). v.epoch)) (some_is (sym then_ ∙ next_.there))
        ∙ ap (λ (o : Option Duty). map_or o 0 (λ (v : Duty). v.epoch)) next_.duty in
        absurd (two_numbers (era steps) epoch (era_is setting epoch (x ∷ h) e calm (settled_before setting epoch x h e next calm settled late)) (sym ahead.number ∙ number))

    -- by what happened to the device
    by_went : (P : Past → Past → Type 0) → ((past : Past) → P past past) → ((past : Past) (call : Call) → IsCalled past call → P past (words.after past call))
        → P now_.past next_.past
    by_went P same calls_ = go (went setting e (x ∷ h) y)
      where
        go : Went setting e (x ∷ h) y → P now_.past next_.past
        go (made makes_) = absurd (not_both _ makes_ ((scene setting epoch x h e calm (settled_before setting epoch x h e next calm settled late).way late).unmade y well))
        go (alone unchanged did) =
            subst (λ p. P now_.past p) (some_is (sym now_.there ∙ sym unchanged ∙ next_.there)) (same now_.past)
        go (called past call act there then_) =
            let c : IsCalled past call =
            record { act = act; there = there; then_ = then_; none = takes_none past call there then_ (taken_up (transition_of past call)) refl } in
            subst (λ p. P p next_.past) (some_is (sym there ∙ now_.there)) (subst (λ p. P past p) (some_is (sym then_ ∙ next_.there)) (calls_ past call c))

    moved_same : ((past : Past) (call : Call) → IsCalled past call → transition_of past call ≡ Moved → ⊥)
        → moved (chronicle setting (e ∷ x ∷ h)) y ≡ moved (chronicle setting (x ∷ h)) y
    moved_same never =
        next_.moved_is
        ∙ by_went (λ p q. has_moved q ≡ has_moved p) (λ past. refl)
        (λ past call c. moved_with past call (transition_of past call) c.none (never past call c)) ∙ sym now_.moved_is

    acts_same : ((past : Past) (call : Call) → IsCalled past call → transition_of past call ≡ TookOver → ⊥)
        → acts_in (chronicle setting (e ∷ x ∷ h)) y ≡ acts_in (chronicle setting (x ∷ h)) y
    acts_same never =
        next_.acts_is
        ∙ by_went (λ p q. is_acting q ≡ is_acting p) (λ past. refl)
        (λ past call c. acts_with past call (transition_of past call) c.none (never past call c)) ∙ sym now_.acts_is

    tick_at : (past : Past) (call : Call) (counter : ℕ) → IsCalled past call → call ≡ Tick counter
        → IsTick setting (next_step setting (chronicle setting (x ∷ h)) e) (chronicle setting (x ∷ h)) y counter past
    tick_at past call counter c is = record { before = timed_.0; now = timed_.1; act = c.act ∙ ap (Calls y) is; there = c.there }

    duty_at : (past : Past) → past_in (chronicle setting (x ∷ h)) y ≡ Some past → duty_now past ≡ Some (duty_of setting.net (the_plan setting epoch) epoch y)
    duty_at past there = ap duty_now (some_is (sym there ∙ now_.there)) ∙ now_.duty

    -- who moves had been silent for longer than W
    no_move : reference_of e ≤ heard_at (chronicle setting (x ∷ h)) y + silence setting.net → (past : Past) (call : Call) → IsCalled past call
        → transition_of past call ≡ Moved → ⊥
    no_move soon past call c is =
        let m : IsMove past call = is_move past call is in
        let w = move_waited past m.counter m.moves in
        let low_ : low (rates_of setting.net y) w.1 ≤ reference_of e - heard_in steps y =
        move_not_early setting (next_step setting steps e) steps y m.counter past (rate_is_low setting.net y settled.comes.fair.network)
        (tick_at past call m.counter c m.tick) w.0 w.1 w.2 in
        let least : least_low setting.net w.1 ≤ low (rates_of setting.net y) w.1 = least_is_low setting.net y w.1 well.known in
        let waits : wait_to_move (duty_of setting.net (the_plan setting epoch) epoch y) ≡ Some w.1 =
        ap wait_to_move (some_is (sym (duty_at past c.there) ∙ w.2.has)) ∙ w.2.waits in
        let long : silence setting.net < least_low setting.net w.1 =
        wait_long setting.net (the_plan setting epoch) fine epoch y w.1 (is_root (the_plan setting epoch) y) (is_backup_root (the_plan setting epoch) y) refl refl waits in
        later_than (silence setting.net) (low (rates_of setting.net y) w.1) (reference_of e) (heard_in steps y) (omega (arith, long, least)) low_
        (subst (λ t. reference_of e ≤ t + silence setting.net) (heard_is setting steps timed_.0 y) soon)

    no_takeover : reference_of e ≤ heard_at (chronicle setting (x ∷ h)) y + silence setting.net → (past : Past) (call : Call) → IsCalled past call
        → transition_of past call ≡ TookOver → ⊥
    no_takeover soon past call c is =
        let t : IsTakeover past call = takes_over past call is in
        let low_ : low (rates_of setting.net y) (the_plan setting epoch).wait_second ≤ reference_of e - max (heard_in steps y) (moved_in steps y) =
        takeover_not_early setting (next_step setting steps e) steps y t.counter past (rate_is_low setting.net y settled.comes.fair.network)
        (tick_at past call t.counter c t.tick) (duty_of setting.net (the_plan setting epoch) epoch y) (duty_at past c.there) t.takes in
        let least : least_low setting.net (the_plan setting epoch).wait_second ≤ low (rates_of setting.net y) (the_plan setting epoch).wait_second =
        least_is_low setting.net y (the_plan setting epoch).wait_second well.known in
        let long : silence setting.net < second_low setting.net (the_plan setting epoch) = a4_second fine.timed in
        later_than_both (silence setting.net) (low (rates_of setting.net y) (the_plan setting epoch).wait_second) (reference_of e) (heard_in steps y)
        (moved_in steps y) (omega (arith, long, least)) low_
        (subst (λ k. reference_of e ≤ k + silence setting.net) (heard_is setting steps timed_.0 y) soon)

    no_tick : (a b : Call) (l : ℕ) (m : Message) (n k : ℕ) → a ≡ Receive l m n → a ≡ Tick k → ⊥
    no_tick a b l m n k one two = let clash : Receive l m n ≡ Tick k = sym one ∙ two in cc

    pub onward : IsOnward setting epoch (top_of setting (x ∷ h) e) y
    onward =
        record {
          moved_on = λ put.
              next_.moved_is
              ∙ by_went (λ p q. has_moved p ≡ true → has_moved q ≡ true) (λ past is. is)
              (λ past call c is. stays_moved past call (transition_of past call) c.none is) (sym now_.moved_is ∙ put);
          acts_on = λ acts.
              next_.acts_is
              ∙ by_went (λ p q. is_acting p ≡ true → is_acting q ≡ true) (λ past is. is)
              (λ past call c is. stays_acting past call (transition_of past call) c.none is) (sym now_.acts_is ∙ acts);
          stays = λ soon. (moved_same (no_move soon), acts_same (no_takeover soon));
          hears = λ l m n act. (
            moved_same (λ past call c is. let mv : IsMove past call = is_move past call is in
                no_tick call call l m n mv.counter (call_is (sym c.act ∙ act)) mv.tick),
            acts_same (λ past call c is. let t : IsTakeover past call = takes_over past call is in
                no_tick call call l m n t.counter (call_is (sym c.act ∙ act)) t.tick),
          );
          primary = λ ordinary none.
              moved_same (λ past call c is.
              let m : IsMove past call = is_move past call is in
              let w = move_waited past m.counter m.moves in
              not_both (has_backup (the_plan setting epoch) y)
              (backed_by setting.net (the_plan setting epoch) epoch y w.1 ordinary.0 ordinary.1
              (ap wait_to_move (some_is (sym (duty_at past c.there) ∙ w.2.has)) ∙ w.2.waits)).0 none);
        }

-- an event that comes after one is later too
reached : (setting : Setting) (epoch : ℕ) (x : Event) (h : List Event) (e next : Event) (calm : ℕ) → IsSettled setting epoch (e ∷ x ∷ h) next calm
    → (q : Moment) → IsIn q (chronicle setting (x ∷ h)) → calm < when q → calm < reference_of e
reached setting epoch x h e next calm settled q t late =
    let goes : when q ≤ reference_of e =
    before_is_earlier setting q (top_of setting (x ∷ h) e) (history_chronicle setting (e ∷ x ∷ h) settled.comes.clean.is.0) t in
    omega (arith, late, goes)

-- the events of a settled run in turn
onward_in : (setting : Setting) (epoch : ℕ) (history : List Event) (next : Event) (calm : ℕ) → IsSettled setting epoch history next calm → (q : Moment)
    → IsIn q (chronicle setting history) → calm < when q → (y : ℕ) → IsSoundMember setting epoch (failed_now q.earlier) y → IsOnward setting epoch q y
onward_in setting epoch [] next calm settled q here late y well = elim here [ ]
onward_in setting epoch (e ∷ []) next calm settled q whole late y well =
    let begun : reference_of e ≤ calm = settled.way.begun in absurd (omega (arith, begun, late))
onward_in setting epoch (e ∷ []) next calm settled q (behind t) late y well = elim t [ ]
onward_in setting epoch (e ∷ x ∷ h) next calm settled q whole late y well = onward setting epoch x h e next calm settled late y well
onward_in setting epoch (e ∷ x ∷ h) next calm settled q (behind t) late y well =
    onward_in setting epoch (x ∷ h) e calm (settled_before setting epoch x h e next calm settled (reached setting epoch x h e next calm settled q t late)) q t late
    y well

pub onward_at : (setting : Setting) (epoch : ℕ) (history : List Event) (next : Event) (calm : ℕ) → IsSettled setting epoch history next calm → (q : Moment)
    → IsIn q (chronicle setting history) → calm < when q → (y : ℕ) → IsSoundMember setting epoch (failed_now (chronicle setting history)) y → IsOnward setting epoch q y
onward_at setting epoch history next calm settled q here late y well =
    onward_in setting epoch history next calm settled q here late y
    (subst (λ failed. IsSoundMember setting epoch failed y) (failed_then setting epoch history next calm settled q (behind here) late) well)
