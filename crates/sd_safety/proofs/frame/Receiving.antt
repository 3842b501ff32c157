-- The core is kept by a receipt that enters nothing: one that is refused changes nothing, and one that is accepted changes when its device heard. So C6
-- stays where the receiver is not the backup root, and is a hypothesis where it is.
use Rattle.std.specs.Prelude.{◌≡◌, ℕ, ◌+◌, ◌*◌, ◌≤◌, Bool, true, false, ◌&&◌, ◌||◌, not, List, [], ◌∷◌, max, nat_eq, nat_le, Option, Some, None, is_some, option_map, option_and_then, refl, if◌then◌else◌}
use Rattle.std.proofs.Common.{arith, ◌∙◌, ap, sym, subst}
use Rattle.std.proofs.lemmas.Bool.{and_parts, eqb-true, leb-true, le-leb}
use Rattle.sd_num.specs.Lists.{map_or, same_number, has}
use Rattle.sd_plan.specs.declared.Edge.{Edge}
use Rattle.sd_plan.specs.Plans.{is_root}
use Rattle.sd_device.specs.declared.msg.Flight.{Flight}
use Rattle.sd_device.specs.Calls as calls
use Rattle.sd_device.specs.Calls.{Transition, CallDone, Past}
use Rattle.sd_device.specs.Words.{transition_of, accepted_over, accepted_by, over_link, parent_edge, given_now, epoch_now, stamp_now}
use Rattle.sd_device.specs.declared.msg.Message.{Message}
use Rattle.sd_device.specs.msg.Stamps.{is_newer}
use Rattle.sd_plan.specs.declared.Duty.{Duty}
use Rattle.sd_sched.specs.declared.Event.{Event}
use Rattle.sd_sched.specs.declared.Event.TheVariants as event
use Rattle.sd_sched.specs.Events.{reference_of}
use Rattle.sd_history.specs.World.{Setting, makes, latest_reference}
use Rattle.sd_history.specs.Steps.{Calls, Passes, Step, seen_of, changed, act_by, flights_of, flight_numbered}
use Rattle.sd_history.specs.Chronicle.{past_in, told_by, chronicle}
use Rattle.sd_history.specs.Admitted.{IsAdmitted}
use Rattle.sd_history.proofs.Contained.{admitted_time_goes_on}
use Rattle.sd_safety.specs.invariant.Bounds.{depth, delay, tick_gap}
use Rattle.sd_safety.specs.invariant.Eras.{plan_now, is_old, does, latest_such, hears, heard_at}
use Rattle.sd_safety.specs.invariant.Clauses.{above_backup_root, backup_root_stays, shadow_is_short}
use Rattle.sd_safety.specs.invariant.Invariant.{Core}
use Rattle.sd_safety.specs.invariant.Coming.{IsNextEvent, AtNext}
use Rattle.sd_safety.specs.invariant.Kept.{Keeps}
use Rattle.sd_safety.proofs.invariant.Sides.{implied}
use Rattle.sd_safety.specs.invariant.Silences.{EntersSoon}
use Rattle.sd_safety.specs.frame.Frames.{IsElsewhere, IsAlike, IsAlikeAt}
use Rattle.sd_safety.specs.frame.Receipts.{transition_of_receipt, KeepsEntering, AboveHears}
use Rattle.sd_safety.proofs.frame.ElsewhereSteps.{live_alone, heard_alone}
use Rattle.sd_safety.proofs.frame.Alike.{plan, old, above, stays_same}
use Rattle.sd_safety.proofs.frame.Steps.{elsewhere, alike_elsewhere}
use Rattle.sd_safety.proofs.frame.QuietCalls.{IsIdle, idle_receipt, idle_accepted}
use Rattle.sd_safety.proofs.invariant.Empty.{core_before}
use Rattle.sd_safety.proofs.frame.Lasting.{closes_none}
use Rattle.sd_safety.proofs.frame.Idles.{step_at, passing, calling, alike_now, each_called, shadow_called, messages_called, caller_is_up}
use Rattle.sd_safety.proofs.invariant.Opening.{gives}

-- no such thing came later than the latest event
pub such_within : (test : CallDone → Bool) (setting : Setting) (history : List Event) → IsAdmitted setting history → (d : ℕ)
    → latest_such test (chronicle setting history) d ≤ latest_reference (seen_of (chronicle setting history))
such_within test setting [] is d = omega arith
such_within test setting (e ∷ history) is d =
    go (makes d e || does test (chronicle setting history) (step_at setting history e) d)
    (longer (latest_such test (chronicle setting history) d) (latest_reference (seen_of (chronicle setting history))) (reference_of e)
    (such_within test setting history is.0 d) (admitted_time_goes_on setting (chronicle setting history) e is.1))
  where
    longer : (a b c : ℕ) → a ≤ b → b ≤ c → a ≤ c
    longer a b c p q = omega (arith, p, q)

    self : (a : ℕ) → a ≤ a
    self a = omega arith

    go : (b : Bool) → latest_such test (chronicle setting history) d ≤ reference_of e
        → (if b then reference_of e else latest_such test (chronicle setting history) d) ≤ reference_of e
    go true before = self (reference_of e)
    go false before = before

-- and none earlier than before
pub such_rises : (test : CallDone → Bool) (setting : Setting) (e : Event) (history : List Event) → IsAdmitted setting (e ∷ history) → (d : ℕ)
    → latest_such test (chronicle setting history) d ≤ latest_such test (chronicle setting (e ∷ history)) d
such_rises test setting e history is d =
    go (makes d e || does test (chronicle setting history) (step_at setting history e) d)
    (longer (latest_such test (chronicle setting history) d) (latest_reference (seen_of (chronicle setting history))) (reference_of e)
    (such_within test setting history is.0 d) (admitted_time_goes_on setting (chronicle setting history) e is.1))
  where
    longer : (a b c : ℕ) → a ≤ b → b ≤ c → a ≤ c
    longer a b c p q = omega (arith, p, q)

    self : (a : ℕ) → a ≤ a
    self a = omega arith

    go : (b : Bool) → latest_such test (chronicle setting history) d ≤ reference_of e
        → latest_such test (chronicle setting history) d ≤ (if b then reference_of e else latest_such test (chronicle setting history) d)
    go true before = before
    go false before = self (latest_such test (chronicle setting history) d)

module _ {setting : Setting} (enters : AtNext EntersSoon setting) (r d c n : ℕ) (history : List Event)
    (comes : IsNextEvent setting history (event.Recv r d c n)) where
  abbrev e : Event
  e = event.Recv r d c n

  abbrev steps : List Step
  steps = chronicle setting history

  -- a receipt of no flight
  pub unknown : flight_numbered (chronicle setting history) n ≡ None → Core setting (chronicle setting (event.Recv r d c n ∷ history))
  unknown is =
      let alone : (x : ℕ) → IsElsewhere (step_at setting history e) x =
      λ x. record {
        changes = ap (λ (o : Option Flight). same_number (changed (map_or o Passes (λ f. Calls d (calls.Receive f.link f.message c)))) x) is;
        unmade = refl;
        unfailed = refl;
      } in
      let each : (x : ℕ) → IsAlikeAt steps (step_at setting history e ∷ steps) x = λ x. alike_elsewhere setting steps (step_at setting history e) x (alone x) in
      passing enters history e comes
      (record {
        stays = closes_none setting e history refl refl (λ x. (each x).up_is) (λ x. live_alone steps (step_at setting history e) x (alone x));
        unstaged = refl;
        uncommitted = refl;
        unjoined = refl;
        unfailed = refl;
        unmended = refl;
      })
      alone
      (ap (λ (o : Option Flight). flights_of setting steps r (map_or o Passes (λ f. Calls d (calls.Receive f.link f.message c)))
      (told_by steps (map_or o Passes (λ f. Calls d (calls.Receive f.link f.message c))))) is)

  module _ (f : Flight) (is : flight_numbered (chronicle setting history) n ≡ Some f) where
    named : act_by setting (chronicle setting history) (event.Recv r d c n) ≡ Calls d (calls.Receive f.link f.message c)
    named = ap (λ (o : Option Flight). map_or o Passes (λ g. Calls d (calls.Receive g.link g.message c))) is

    did : (transition : Transition) → transition_of_receipt (chronicle setting history) d c n ≡ transition → (past : Past)
        → past_in (chronicle setting history) d ≡ Some past → transition_of past (calls.Receive f.link f.message c) ≡ transition
    did transition what past there =
        sym (ap (λ (o : Option Past). map_or o calls.Nothing (λ p. transition_of p (calls.Receive f.link f.message c))) there)
        ∙ sym (ap (λ (o : Option Flight). map_or o calls.Nothing
        (λ g. map_or (past_in steps d) calls.Nothing (λ p. transition_of p (calls.Receive g.link g.message c)))) is) ∙ what

    pub refused : transition_of_receipt (chronicle setting history) d c n ≡ calls.Nothing → Core setting (chronicle setting (event.Recv r d c n ∷ history))
    refused what =
        calling enters history e comes d (calls.Receive f.link f.message c) named (λ x. refl) (λ x. refl) refl refl refl refl refl
        (λ past there. idle_receipt past f.link f.message c (did calls.Nothing what past there))
        (shadow_called enters history e comes d (calls.Receive f.link f.message c) named (λ x. refl) (λ x. refl) refl refl refl refl refl
        (λ past there. idle_receipt past f.link f.message c (did calls.Nothing what past there))
        (λ past there. ap (λ transition. is_some (accepted_over transition)) (did calls.Nothing what past there)))
        (messages_called enters history e comes d (calls.Receive f.link f.message c) named (λ x. refl) (λ x. refl) refl refl refl refl refl
        (λ past there. idle_receipt past f.link f.message c (did calls.Nothing what past there))
        (caller_is_up setting history e d comes.clean.is.1 refl refl))

    module _ (edge : Edge) (what : transition_of_receipt (chronicle setting history) d c n ≡ calls.Accepted edge) (hears_above : AboveHears setting) where
      idle : (past : Past) → past_in (chronicle setting history) d ≡ Some past → IsIdle past (calls.Receive f.link f.message c)
      idle past there = idle_accepted past f.link f.message c edge (did (calls.Accepted edge) what past there)

      each : (x : ℕ) → IsAlikeAt (chronicle setting history) (chronicle setting (event.Recv r d c n ∷ history)) x
      each = each_called enters history e comes d (calls.Receive f.link f.message c) named (λ x. refl) (λ x. refl) refl refl refl refl refl idle

      alike : IsAlike setting (chronicle setting history) (chronicle setting (event.Recv r d c n ∷ history))
      alike = alike_now enters history e comes d (calls.Receive f.link f.message c) named (λ x. refl) (λ x. refl) refl refl refl refl refl idle

      abbrev room : ℕ
      room = max (depth setting.net * delay setting.net) (tick_gap setting.net)

      abbrev backup : ℕ
      backup = (plan_now setting (chronicle setting history)).backup_root

      -- C6, by who receives
      heard_short : (x : ℕ) (b : Bool) → nat_eq d backup ≡ b
          → (backup_root_stays setting (chronicle setting history) && has (above_backup_root setting (chronicle setting history)) x
          && not (is_root (plan_now setting (chronicle setting history)) x) && is_old (chronicle setting history) x) ≡ true
          → nat_le (heard_at (chronicle setting (event.Recv r d c n ∷ history)) backup) (heard_at (chronicle setting (event.Recv r d c n ∷ history)) x + room)
          ≡ true
      heard_short x true same all =
          let at : d ≡ backup = eqb-true d backup same in
          let a = and_parts (backup_root_stays setting steps && has (above_backup_root setting steps) x && not (is_root (plan_now setting steps) x))
          (is_old steps x) all in
          let b = and_parts (backup_root_stays setting steps && has (above_backup_root setting steps) x) (not (is_root (plan_now setting steps) x)) a.0 in
          let w = and_parts (backup_root_stays setting steps) (has (above_backup_root setting steps) x) b.0 in
          let near : r ≤ heard_at steps x + room =
          hears_above r c n history (subst (λ y. IsNextEvent setting history (event.Recv r y c n)) at comes) edge
          (sym (ap (λ y. transition_of_receipt steps y c n) at) ∙ what) w.0 x w.1 (from_not (is_root (plan_now setting steps) x) b.1) a.1 in
          le-leb _ _
          (far (heard_at (chronicle setting (e ∷ history)) backup) r (heard_at steps x) (heard_at (chronicle setting (e ∷ history)) x) room
          (such_within hears setting (e ∷ history) comes.clean.is backup) near (such_rises hears setting e history comes.clean.is x))
        where
          from_not : (b : Bool) → not b ≡ true → b ≡ false
          from_not true h = cc
          from_not false h = refl

          far : (h q a b m : ℕ) → h ≤ q → q ≤ a + m → a ≤ b → h ≤ b + m
          far h q a b m x y z = omega (arith, x, y, z)
      heard_short x false other all =
          let same : heard_at (chronicle setting (e ∷ history)) backup ≡ heard_at steps backup =
          heard_alone steps (step_at setting history e) backup (elsewhere setting steps e backup other) in
          let before : heard_at steps backup ≤ heard_at steps x + room =
          leb-true (heard_at steps backup) (heard_at steps x + room)
          (implied (backup_root_stays setting steps && has (above_backup_root setting steps) x && not (is_root (plan_now setting steps) x) && is_old steps x) _
          ((core_before setting history e comes).causes.shadow x) all) in
          le-leb _ _ (far (heard_at (chronicle setting (e ∷ history)) backup) (heard_at steps backup) (heard_at steps x)
          (heard_at (chronicle setting (e ∷ history)) x) room same before (such_rises hears setting e history comes.clean.is x))
        where
          far : (h q a b m : ℕ) → h ≡ q → q ≤ a + m → a ≤ b → h ≤ b + m
          far h q a b m x y z = omega (arith, x, y, z)

      shadow : (x : ℕ) → shadow_is_short setting (chronicle setting (event.Recv r d c n ∷ history)) x ≡ true
      shadow x =
          rw (
            stays_same setting steps (chronicle setting (e ∷ history)) alike each,
            above setting steps
                (chronicle setting (e ∷ history)) alike each,
            plan setting steps (chronicle setting (e ∷ history)) alike each,
            old setting steps
                (chronicle setting (e ∷ history)) alike each x,
          )
          (gives (backup_root_stays setting steps && has (above_backup_root setting steps) x && not (is_root (plan_now setting steps) x) && is_old steps x) _
          (heard_short x (nat_eq d backup) refl))

      pub accepted : Core setting (chronicle setting (event.Recv r d c n ∷ history))
      accepted =
          calling enters history e comes d (calls.Receive f.link f.message c) named (λ x. refl) (λ x. refl) refl refl refl refl refl idle shadow
          (messages_called enters history e comes d (calls.Receive f.link f.message c) named (λ x. refl) (λ x. refl) refl refl refl refl refl idle
          (caller_is_up setting history e d comes.clean.is.1 refl refl))

-- A receipt by what it does

data Kind : Transition → Type 0 where
  nothing_ : Kind calls.Nothing
  took : (edge : Edge) → Kind (calls.Accepted edge)
  came_in : (duty : Duty) (edge : Edge) → Kind (calls.Entered duty edge)

accepted_kind : (b : Bool) (o : Option Edge) → Kind (map_or (if b then option_map calls.Accepted o else None) calls.Nothing (λ transition. transition))
accepted_kind true None = nothing_
accepted_kind true (Some edge) = took edge
accepted_kind false o = nothing_

entered_kind : (link : ℕ) (m : Message) (g : Option Duty) (rest : Transition) → Kind rest
    → Kind (map_or
    (option_and_then
    (λ (duty : Duty). if nat_eq duty.epoch m.epoch then option_map (calls.Entered duty) (option_and_then (over_link link) duty.primary) else None) g) rest
    (λ transition. transition))
entered_kind link m None rest kind = kind
entered_kind link m (Some duty) rest kind = go (nat_eq duty.epoch m.epoch) (option_and_then (over_link link) duty.primary)
  where
    go : (b : Bool) (o : Option Edge) → Kind (map_or (if b then option_map (calls.Entered duty) o else None) rest (λ transition. transition))
    go true None = kind
    go true (Some edge) = came_in duty edge
    go false o = kind

kind_of : (steps : List Step) (d c n : ℕ) → Kind (transition_of_receipt steps d c n)
kind_of steps d c n = go (flight_numbered steps n) (past_in steps d)
  where
    go : (o : Option Flight) (p : Option Past)
        → Kind (map_or o calls.Nothing (λ f. map_or p calls.Nothing (λ past. transition_of past (calls.Receive f.link f.message c))))
    go None p = nothing_
    go (Some f) None = nothing_
    go (Some f) (Some past) =
        entered_kind f.link f.message (given_now past) (map_or (accepted_by past f.link f.message) calls.Nothing (λ transition. transition))
        (accepted_kind (nat_eq (epoch_now past) f.message.epoch && is_newer f.message.stamp (stamp_now past))
        (option_and_then (over_link f.link) (parent_edge past)))

-- what enters is left to another
pub receive : {setting : Setting} → AtNext EntersSoon setting → AboveHears setting → KeepsEntering setting → (r d c n : ℕ) → Keeps setting (event.Recv r d c n)
receive {setting} enters hears_above entering r d c n history comes = by_flight (flight_numbered (chronicle setting history) n) refl
  where
    by_kind : (f : Flight) → flight_numbered (chronicle setting history) n ≡ Some f → (transition : Transition) → Kind transition
        → transition_of_receipt (chronicle setting history) d c n ≡ transition
        → Core setting (chronicle setting (event.Recv r d c n ∷ history))
    by_kind f is _ nothing_ what = refused enters r d c n history comes f is what
    by_kind f is _ (took edge) what = accepted enters r d c n history comes f is edge what hears_above
    by_kind f is _ (came_in duty edge) what = entering r d c n history comes duty edge what

    by_flight : (o : Option Flight) → flight_numbered (chronicle setting history) n ≡ o → Core setting (chronicle setting (event.Recv r d c n ∷ history))
    by_flight None is = unknown enters r d c n history comes is
    by_flight (Some f) is = by_kind f is (transition_of_receipt (chronicle setting history) d c n) (kind_of (chronicle setting history) d c n) refl
