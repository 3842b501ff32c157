-- A backup root that acts has acted, in the same era, at each event later than its takeover: going back event by event, nothing else than a takeover makes it
-- act,
-- and a closing would have put it on its primary.
use Rattle.std.specs.Prelude.{◌≡◌, ℕ, ◌<◌, ◌≤◌, Bool, true, false, ◌&&◌, ◌||◌, List, [], ◌∷◌, length, nat_lt, Some, None, option_map, refl, if◌then◌else◌}
use Rattle.std.proofs.Common.{arith, ◌∙◌, ap, sym, subst}
use Rattle.std.proofs.lemmas.Bool.{and_from, eq-eqb, lt-ltb}
use Rattle.std.proofs.Math.Nat.{lt_of_lt_of_le}
use Rattle.sd_num.specs.Lists.{map_or}
use Rattle.sd_plan.specs.declared.topo.Thing.TheVariants as thing
use Rattle.sd_plan.specs.Plans.{is_member, is_root}
use Rattle.sd_device.specs.Calls.{Call, Transition, Past}
use Rattle.sd_device.specs.Words.{transition_of, after, is_acting}
use Rattle.sd_sched.specs.declared.Event.{Event}
use Rattle.sd_sched.specs.Events.{reference_of}
use Rattle.sd_history.specs.World.{Setting, makes, fails, is_up, plan_numbered}
use Rattle.sd_history.specs.Steps.{Calls, Step, act_by, seen_of, acts_in, has_settled}
use Rattle.sd_history.specs.Chronicle.{past_in, chronicle, next_step}
use Rattle.sd_history.proofs.Given.{some_is}
use Rattle.sd_history.proofs.Known.{up_case}
use Rattle.sd_safety.proofs.invariant.Parts.{premises_of}
use Rattle.sd_safety.specs.invariant.Eras.{era, plan_now, belongs, on_primary, does, did_by, latest_such}
use Rattle.sd_safety.specs.invariant.Guarded.{IsSteady}
use Rattle.sd_safety.specs.invariant.Coming.{IsNextEvent}
use Rattle.sd_safety.proofs.invariant.Facts.{IsSound, sound_now}
use Rattle.sd_safety.proofs.invariant.Prefix.{clean_before}
use Rattle.sd_safety.proofs.invariant.Sides.{implied, not_both}
use Rattle.sd_safety.specs.messages.Moments.{whole, behind, Moment, when, IsIn}
use Rattle.sd_safety.proofs.messages.Latest.{never_committed}
use Rattle.sd_safety.proofs.messages.Tails.{history_chronicle, no_later}
use Rattle.sd_safety.proofs.timers.Turns.{BeganToAct, by_takeover, by_commit, began_to_act}
use Rattle.sd_safety.proofs.receipts.Alive.{Went, made, called, alone, went}
use Rattle.sd_safety.proofs.terms.CameToAct.{committed_is}
use Rattle.sd_safety.proofs.terms.Actors.{IsActor, actor_acts}
use Rattle.sd_safety.specs.behind.Feeding.{takes_over, took_over_at}
use Rattle.sd_safety.proofs.behind.Moved.{begins, not_root}
use Rattle.sd_safety.proofs.spans.SilenceStarts.{comes_before, kept_by, idle_of}
use Rattle.sd_safety.proofs.spans.PathHearsAtEvents.{same_era}

-- an event that is later than the latest thing of a kind is none
none_by : (s0 r : ℕ) (m y : Bool) (before : ℕ) → s0 < r → (if m || y then r else before) ≤ s0 → (m ≡ false) × (y ≡ false)
none_by s0 r true y before late le = absurd (omega (arith, le, late))
none_by s0 r false true before late le = absurd (omega (arith, le, late))
none_by s0 r false false before late le = (refl, refl)

-- One event back

module _ (setting : Setting) (x : Event) (h : List Event) (clean : IsSteady setting (x ∷ h)) (a : ℕ) (actor : IsActor setting (chronicle setting (x ∷ h)) a)
    (makes_not : makes a x ≡ false)
    (takes_not : does takes_over (chronicle setting h) (next_step setting (chronicle setting h) x) a ≡ false) where
  abbrev here : Moment
  here = record { step = next_step setting (chronicle setting h) x; earlier = chronicle setting h }

  up : is_up (seen_of (chronicle setting h)) a ≡ true
  up = up_case (makes a x) (fails (thing.Device a) x) (is_up (seen_of (chronicle setting h)) a) actor.up makes_not

  -- what it is that the device did
  did : (past : Past) (call : Call) → act_by setting (chronicle setting h) x ≡ Calls a call → past_in (chronicle setting h) a ≡ Some past
      → did_by (chronicle setting h) (act_by setting (chronicle setting h) x) a ≡ Some (record { call = call; transition = transition_of past call })
  did past call act there =
      ap (λ z. did_by (chronicle setting h) z a) act
      ∙ ap (λ b. if b then option_map (λ p. record { call = call; transition = transition_of p call }) (past_in (chronicle setting h) a) else None)
      (eq-eqb a a refl)
      ∙ ap (option_map (λ p. record { call = call; transition = transition_of p call })) there

  by_call : (past : Past) (call : Call) → act_by setting (chronicle setting h) x ≡ Calls a call → past_in (chronicle setting h) a ≡ Some past
      → actor.past ≡ after past call → (b : Bool) → is_acting past ≡ b → IsActor setting (chronicle setting h) a
  by_call past call act there now true acts = record { past = past; up = up; there = there; acts = acts }
  by_call past call act there now false idle = absurd (began (transition_of past call) refl (began_to_act past call idle (sym (ap is_acting now) ∙ actor.acts)))
    where
      began : (transition : Transition) → transition_of past call ≡ transition → BeganToAct transition → ⊥
      began _ is by_takeover =
          not_both (does takes_over (chronicle setting h) (next_step setting (chronicle setting h) x) a)
          (ap (λ o. map_or o false takes_over) (did past call act there ∙ ap (λ transition. Some (record { call = call; transition = transition })) is))
          takes_not
      began _ is (by_commit duty) =
          let c = committed_is past call duty is in
          never_committed setting (chronicle setting (x ∷ h)) here a c.0 past duty (history_chronicle setting (x ∷ h) clean.is)
          (premises_of setting (seen_of (chronicle setting (x ∷ h))) clean.premises).renew whole (act ∙ ap (Calls a) c.1) there
          (sym (ap (transition_of past) c.1) ∙ is)

  -- it acted before the event
  acted : IsActor setting (chronicle setting h) a
  acted = by (went setting x h a)
    where
      by : Went setting x h a → IsActor setting (chronicle setting h) a
      by (made makes_) = absurd (not_both (makes a x) makes_ makes_not)
      by (called past call act there now) = by_call past call act there (some_is (sym actor.there ∙ now)) (is_acting past) refl
      by (alone same did_none) = record { past = actor.past; up = up; there = sym same ∙ actor.there; acts = actor.acts }

-- right after a closing the backup root does not act
none_closed : (setting : Setting) (x : Event) (h : List Event) (e : Event) → IsNextEvent setting (x ∷ h) e
    → acts_in (chronicle setting (x ∷ h)) (plan_now setting (chronicle setting (x ∷ h))).backup_root ≡ true
    → (next_step setting (chronicle setting h) x).seen.closed ≡ true → ⊥
none_closed setting x h e comes acts closed =
    let steps : List Step = chronicle setting (x ∷ h) in
    let b : ℕ = (plan_now setting steps).backup_root in
    let fine : IsSound setting.net (plan_now setting steps) = sound_now setting (x ∷ h) comes.fair comes.clean.is.0 in
    let primary = begins (has_settled steps (era steps) b) (is_root (plan_now setting steps) b) (acts_in steps b) (on_primary steps b) _
    (implied ((next_step setting (chronicle setting h) x).seen.closed && belongs setting.net (plan_now setting steps) b) _
    (comes.before.1.core.closed.members b)
    (and_from (next_step setting (chronicle setting h) x).seen.closed (belongs setting.net (plan_now setting steps) b) closed
    (and_from (nat_lt b (length setting.net.devices)) (is_member (plan_now setting steps) b)
    (lt-ltb b (length setting.net.devices) fine.fits.backup_root) fine.backup_member))) (not_root setting.net (plan_now setting steps) fine) in
    not_both (acts_in steps b) acts (idle_of steps b primary)

-- so it was before an event
abbrev pub HasActed : List Step → Moment → ℕ → Type 0
HasActed steps q b = (era q.earlier ≡ era steps) × (acts_in q.earlier b ≡ true)

pub acted_since : (setting : Setting) (history : List Event) (e : Event) → IsNextEvent setting history e → (s0 b : ℕ)
    → b ≡ (plan_now setting (chronicle setting history)).backup_root → IsActor setting (chronicle setting history) b
    → took_over_at (chronicle setting history) b ≤ s0 → (q : Moment) → IsIn q (chronicle setting (e ∷ history)) → s0 < when q
    → HasActed (chronicle setting history) q b
acted_since setting [] e comes s0 b is actor took q here late = elim (none actor.past actor.there) [ ]
  where
    none : (past : Past) → past_in (chronicle setting []) b ≡ Some past → ⊥
    none past there = cc
acted_since setting (x ∷ h) e comes s0 b is actor took q whole late =
    (refl, actor_acts setting (x ∷ h) comes.fair (clean_before setting e (x ∷ h) comes.clean) comes.before b actor)
acted_since setting (x ∷ h) e comes s0 b is actor took q (behind t) late =
    by_closed (λ before_ is' actor' took'. acted_since setting h x before_ s0 b is' actor' took' q t late)
    (next_step setting (chronicle setting h) x).seen.closed refl
  where
    clean : IsSteady setting (x ∷ h)
    clean = clean_before setting e (x ∷ h) comes.clean

    less : s0 < reference_of x
    less = lt_of_lt_of_le late (no_later setting q (chronicle setting (x ∷ h)) (history_chronicle setting (x ∷ h) comes.clean.is.0) t)

    by_closed : (IsNextEvent setting h x → b ≡ (plan_now setting (chronicle setting h)).backup_root → IsActor setting (chronicle setting h) b
        → took_over_at (chronicle setting h) b ≤ s0 → HasActed (chronicle setting h) q b)
        → (c : Bool) → (next_step setting (chronicle setting h) x).seen.closed ≡ c → HasActed (chronicle setting (x ∷ h)) q b
    by_closed again true closed =
        absurd (none_closed setting x h e comes
        (subst (λ z. acts_in (chronicle setting (x ∷ h)) z ≡ true) is (actor_acts setting (x ∷ h) comes.fair clean comes.before b actor)) closed)
    by_closed again false open_ =
        let older : List Step = chronicle setting h in
        let s : Step = next_step setting older x in
        let none = none_by s0 (reference_of x) (makes b x) (does takes_over older s b) (latest_such takes_over older b) less took in
        let same : era (chronicle setting (x ∷ h)) ≡ era older = same_era setting x h open_ in
        let told =
        again (comes_before setting x h e comes) (is ∙ ap (λ n. (plan_numbered setting n).backup_root) same) (acted setting x h clean b actor none.0 none.1)
        (kept_by s0 (reference_of x) (makes b x) (does takes_over older s b) (latest_such takes_over older b) less took) in
        (told.0 ∙ sym same, told.1)
