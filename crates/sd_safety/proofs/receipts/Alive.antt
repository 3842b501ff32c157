-- A device that is down has the past that it had when it was up: no event calls it meanwhile. And the events behind a tail of a chronicle.
use Rattle.std.specs.Prelude.{◌≡◌, ℕ, Bool, true, false, ◌||◌, List, [], ◌∷◌, nat_eq, Option, Some, None, is_some, option_map, refl, ◌⊎◌, if◌then◌else◌}
use Rattle.std.proofs.Common.{◌∙◌, ap, sym, inl, inr}
use Rattle.std.proofs.lemmas.Bool.{eqb-true}
use Rattle.sd_num.specs.Lists.{map_or, same_number}
use Rattle.sd_plan.specs.topo.Network.{rates_of}
use Rattle.sd_plan.specs.Duties.{duty_of}
use Rattle.sd_device.specs.Calls as calls
use Rattle.sd_device.specs.Calls.{Making, Call, Past}
use Rattle.sd_device.specs.Words.{after, transition_of, epoch_now}
use Rattle.sd_sched.specs.declared.Event.{Event}
use Rattle.sd_sched.specs.declared.Event.TheVariants as event
use Rattle.sd_sched.specs.Events.{device_of, started, joined}
use Rattle.sd_history.specs.Things.{failure_of, mended}
use Rattle.sd_history.specs.World.{Setting, makes, is_up, epoch_in_force, in_force}
use Rattle.sd_history.specs.Steps.{Act, Makes, Calls, Asks, Passes, Step, seen_of, act_by}
use Rattle.sd_history.specs.Chronicle.{new_past, past_in, past_after, chronicle, next_step}
use Rattle.sd_history.specs.Admitted.{IsAdmitted}
use Rattle.sd_history.proofs.Given.{some_is}
use Rattle.sd_safety.specs.invariant.Eras.{era, did_by}
use Rattle.sd_safety.proofs.invariant.Sides.{not_both}
use Rattle.sd_safety.specs.messages.Moments.{Tail, whole, behind}
use Rattle.sd_safety.proofs.windows.Given.{makes_named}
use Rattle.sd_safety.proofs.frame.ElsewhereSteps.{past_alone}
use Rattle.sd_safety.proofs.frame.Steps.{elsewhere}
use Rattle.sd_safety.proofs.frame.Idles.{caller_is_up}

-- the device was up at the newest of these events, with this past
pub record WasAlive (setting : Setting) (history : List Event) (d : ℕ) (past : Past) : Type 0 where
  pub then_ : List Event
  pub tail : Tail then_ history
  pub up : is_up (seen_of (chronicle setting then_)) d ≡ true
  pub there : past_in (chronicle setting then_) d ≡ Some past

alive_before : (setting : Setting) (e : Event) (history : List Event) (d : ℕ) (past : Past) → WasAlive setting history d past
    → WasAlive setting (e ∷ history) d past
alive_before setting e history d past was = record { then_ = was.then_; tail = behind was.tail; up = was.up; there = was.there }

-- an event that names a device which is neither made nor up after it does nothing to its past
named_alone : (setting : Setting) (e : Event) (history : List Event) (d : ℕ) → IsAdmitted setting (e ∷ history) → same_number (device_of e) d ≡ true
    → is_up (seen_of (chronicle setting (e ∷ history))) d ≡ false
    → past_in (chronicle setting (e ∷ history)) d ≡ past_in (chronicle setting history) d
named_alone setting e history d is named down = by e is named down
  where
    made : (a b : Bool) → a ≡ true → map_or (if a || b then Some true else None) false (λ told. told) ≡ false → ⊥
    made true b same none = cc
    made false b same none = cc

    self : (m : ℕ) → nat_eq m d ≡ true → m ≡ d
    self m same = eqb-true m d same

    -- one that is called is up before and after
    called : (f : Event) (m : ℕ) → IsAdmitted setting (f ∷ history)
        → (is_some (started f) || is_some (joined f) || is_some (failure_of f) || is_some (mended f)) ≡ false → device_of f ≡ Some m → nat_eq m d ≡ true
        → is_up (seen_of (chronicle setting history)) d ≡ false → ⊥
    called f m is' plain names same none =
        not_both (is_up (seen_of (chronicle setting history)) d)
        (ap (is_up (seen_of (chronicle setting history))) (sym (self m same)) ∙ caller_is_up setting history f m is'.1 plain names) none

    by : (f : Event) → IsAdmitted setting (f ∷ history) → same_number (device_of f) d ≡ true → is_up (seen_of (chronicle setting (f ∷ history))) d ≡ false
        → past_in (chronicle setting (f ∷ history)) d ≡ past_in (chronicle setting history) d
    by (event.Start r m c clock eps) is' same none = absurd (never (nat_eq m d) same none)
      where
        never : (b : Bool) → b ≡ true → map_or (if b || false then Some true else None) (is_up (seen_of (chronicle setting history)) d) (λ told. told) ≡ false
            → ⊥
        never true same' none' = cc
        never false same' none' = cc
    by (event.Join r m c clock eps) is' same none = absurd (never (nat_eq m d) same none)
      where
        never : (b : Bool) → b ≡ true → map_or (if b then Some true else None) (is_up (seen_of (chronicle setting history)) d) (λ told. told) ≡ false → ⊥
        never true same' none' = cc
        never false same' none' = cc
    by (event.Tick r m c) is' same none = absurd (called (event.Tick r m c) m is' refl refl same none)
    by (event.Recv r m c n) is' same none = absurd (called (event.Recv r m c n) m is' refl refl same none)
    by (event.Lose r n) is' same none = refl
    by (event.FailDevice r m) is' same none = refl
    by (event.FailLink r l) is' same none = refl
    by (event.Fix r m c clock eps) is' same none = absurd (called (event.Fix r m c clock eps) m is' refl refl same none)
    by (event.Ask r m c) is' same none = refl
    by (event.Stage r) is' same none = refl
    by (event.Give r m) is' same none = absurd (called (event.Give r m) m is' refl refl same none)
    by (event.Commit r m c) is' same none = absurd (called (event.Commit r m c) m is' refl refl same none)
    by (event.Seal r m) is' same none = absurd (called (event.Seal r m) m is' refl refl same none)
    by (event.MendDevice r m) is' same none = refl
    by (event.MendLink r l) is' same none = refl
    by (event.End r) is' same none = refl

-- a past is that of a device that was up
pub was_alive : (setting : Setting) (history : List Event) → IsAdmitted setting history → (d : ℕ) (past : Past)
    → past_in (chronicle setting history) d ≡ Some past → WasAlive setting history d past
was_alive setting [] is d past there = cc
was_alive setting (e ∷ history) is d past there = by_up (is_up (seen_of (chronicle setting (e ∷ history))) d) refl (was_alive setting history is.0 d past)
  where
    by_name : (b : Bool) → same_number (device_of e) d ≡ b → is_up (seen_of (chronicle setting (e ∷ history))) d ≡ false
        → past_in (chronicle setting (e ∷ history)) d ≡ past_in (chronicle setting history) d
    by_name true named down = named_alone setting e history d is named down
    by_name false other down =
        past_alone (chronicle setting history) (next_step setting (chronicle setting history) e) d (elsewhere setting (chronicle setting history) e d other)

    by_up : (b : Bool) → is_up (seen_of (chronicle setting (e ∷ history))) d ≡ b
        → (past_in (chronicle setting history) d ≡ Some past → WasAlive setting history d past) → WasAlive setting (e ∷ history) d past
    by_up true up rest = record { then_ = e ∷ history; tail = whole; up = up; there = there }
    by_up false down rest = alive_before setting e history d past (rest (sym (by_name (same_number (device_of e) d) refl down) ∙ there))

-- the events of a tail
pub record IsOf (setting : Setting) (history : List Event) (older : List Step) : Type 0 where
  pub events : List Event
  pub is : older ≡ chronicle setting events
  pub tail : Tail events history

older_of : (setting : Setting) (e : Event) (history : List Event) (older : List Step) → IsOf setting history older → IsOf setting (e ∷ history) older
older_of setting e history older of = record { events = of.events; is = of.is; tail = behind of.tail }

pub events_of_tail : (setting : Setting) (history : List Event) (older : List Step) → Tail older (chronicle setting history) → IsOf setting history older
events_of_tail setting [] older whole = record { events = []; is = refl; tail = whole }
events_of_tail setting (e ∷ history) older whole = record { events = e ∷ history; is = refl; tail = whole }
events_of_tail setting (e ∷ history) older (behind t) = older_of setting e history older (events_of_tail setting history older t)

-- What an event did to the past of a device: it made it, called it, or left it alone

pub data Went (setting : Setting) (e : Event) (history : List Event) (d : ℕ) : Type 0 where
  made : makes d e ≡ true → Went setting e history d
  called : (past : Past) (call : Call) → act_by setting (chronicle setting history) e ≡ Calls d call → past_in (chronicle setting history) d ≡ Some past
      → past_in (chronicle setting (e ∷ history)) d ≡ Some (after past call) → Went setting e history d
  alone : past_in (chronicle setting (e ∷ history)) d ≡ past_in (chronicle setting history) d
      → did_by (chronicle setting history) (act_by setting (chronicle setting history) e) d ≡ None → Went setting e history d

pub went : (setting : Setting) (e : Event) (history : List Event) (d : ℕ) → Went setting e history d
went setting e history d = by (act_by setting (chronicle setting history) e) refl
  where
    by_made : (m : ℕ) (making : Making) → act_by setting (chronicle setting history) e ≡ Makes m making → (b : Bool) → nat_eq m d ≡ b → Went setting e history d
    by_made m making is true same = made (ap (λ x. makes x e) (sym (eqb-true m d same)) ∙ makes_named setting (chronicle setting history) e m making is)
    by_made m making is false other =
        alone (ap (λ a. past_after a d (past_in (chronicle setting history) d)) is
        ∙ ap (λ b. if b then Some (new_past making) else past_in (chronicle setting history) d) other) (ap (λ a. did_by (chronicle setting history) a d) is)

    by_called : (m : ℕ) (call : Call) → act_by setting (chronicle setting history) e ≡ Calls m call → (b : Bool) → nat_eq m d ≡ b → (p : Option Past)
        → past_in (chronicle setting history) d ≡ p → Went setting e history d
    by_called m call is false same p there =
        alone (ap (λ a. past_after a d (past_in (chronicle setting history) d)) is
        ∙ ap (λ b. if b then option_map (λ q. after q call) (past_in (chronicle setting history) d) else past_in (chronicle setting history) d) same)
        (ap (λ a. did_by (chronicle setting history) a d) is
        ∙ ap (λ b. if b then option_map (λ past. record { call = call; transition = transition_of past call })
        (past_in (chronicle setting history) d) else None) same)
    by_called m call is true same None there =
        alone
        (ap (λ a. past_after a d (past_in (chronicle setting history) d)) is
        ∙ ap (λ b. if b then option_map (λ q. after q call) (past_in (chronicle setting history) d) else past_in (chronicle setting history) d) same
        ∙ ap (option_map (λ q. after q call)) there ∙ sym there)
        (ap (λ a. did_by (chronicle setting history) a d) is
        ∙ ap (λ b. if b then option_map (λ past. record { call = call; transition = transition_of past call })
        (past_in (chronicle setting history) d) else None) same
        ∙ ap (option_map (λ past. record { call = call; transition = transition_of past call })) there)
    by_called m call is true same (Some past) there =
        called past call (is ∙ ap (λ x. Calls x call) (eqb-true m d same)) there
        (ap (λ a. past_after a d (past_in (chronicle setting history) d)) is
        ∙ ap (λ b. if b then option_map (λ q. after q call) (past_in (chronicle setting history) d) else past_in (chronicle setting history) d) same
        ∙ ap (option_map (λ q. after q call)) there)

    by : (act : Act) → act_by setting (chronicle setting history) e ≡ act → Went setting e history d
    by (Makes m making) is = by_made m making is (nat_eq m d) refl
    by (Calls m call) is = by_called m call is (nat_eq m d) refl (past_in (chronicle setting history) d) refl
    by (Asks m counter) is = alone (ap (λ a. past_after a d (past_in (chronicle setting history) d)) is) (ap (λ a. did_by (chronicle setting history) a d) is)
    by Passes is = alone (ap (λ a. past_after a d (past_in (chronicle setting history) d)) is) (ap (λ a. did_by (chronicle setting history) a d) is)

-- a device that an event makes follows the plan in force, or none
pub made_epoch : (setting : Setting) (e : Event) (history : List Event) (d : ℕ) (past : Past) → makes d e ≡ true
    → past_in (chronicle setting (e ∷ history)) d ≡ Some past
    → (epoch_now past ≡ era (chronicle setting history)) ⊎ (epoch_now past ≡ 0)
made_epoch setting (event.Start r m c clock eps) history d past makes_ there = inl (by (nat_eq m d) makes_ there)
  where
    by : (b : Bool) → (b || false) ≡ true
        → (if b then Some
        (new_past (calls.Started
        (duty_of setting.net (in_force setting (seen_of (chronicle setting history))) (epoch_in_force (seen_of (chronicle setting history))) m) c clock
        eps)) else past_in (chronicle setting history) d) ≡ Some past
        → epoch_now past ≡ era (chronicle setting history)
    by true made' there' = ap epoch_now (sym (some_is there'))
    by false made' there' = cc
made_epoch setting (event.Join r m c clock eps) history d past makes_ there = inr (by (nat_eq m d) makes_ there)
  where
    by : (b : Bool) → b ≡ true
        → (if b then Some (new_past (calls.Joined (rates_of setting.net m) c clock eps)) else past_in (chronicle setting history) d) ≡ Some past
        → epoch_now past ≡ 0
    by true made' there' = ap epoch_now (sym (some_is there'))
    by false made' there' = cc
made_epoch setting _ history d past makes_ there = cc
