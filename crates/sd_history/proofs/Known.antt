-- An accepted event names a device of the network, and a device that is up is one of them, in every history. And what shows that a device
-- that is up was made, so that it has a past.
use Rattle.std.specs.Prelude.{◌≡◌, ℕ, ◌<◌, Bool, true, false, ◌||◌, List, [], ◌∷◌, length, nat_eq, nat_le, Option, Some, None, is_some, option_map, refl, if◌then◌else◌}
use Rattle.std.proofs.Common.{ap, subst}
use Rattle.std.proofs.lemmas.Bool.{leb-false, eqb-true}
use Rattle.sd_num.specs.Lists.{map_or}
use Rattle.sd_plan.specs.topo.Network.{rates_of}
use Rattle.sd_plan.specs.declared.topo.Thing.TheVariants as thing
use Rattle.sd_plan.specs.Duties.{duty_of}
use Rattle.sd_device.specs.Calls as calls
use Rattle.sd_device.specs.Calls.{Making, Past}
use Rattle.sd_device.specs.Words.{after}
use Rattle.sd_sched.specs.declared.Event.{Event}
use Rattle.sd_sched.specs.declared.Event.TheVariants as event
use Rattle.sd_sched.specs.Events.{device_of}
use Rattle.sd_history.specs.World.{Setting, makes, fails, is_up, in_force, epoch_in_force}
use Rattle.sd_history.specs.Steps.{Act, Makes, Calls, Asks, Passes, Step, seen_of, act_by}
use Rattle.sd_history.specs.Refusals.{refusal}
use Rattle.sd_history.specs.Chronicle.{new_past, past_in, past_after, chronicle, IsHistory}
use Rattle.sd_history.specs.Admitted.{Admits, IsAdmitted}
use Rattle.sd_history.proofs.Admitted.{accepted_is_admitted, history_is_admitted}
use Rattle.sd_history.proofs.Clear.{clear}

-- an event that the rules admit names a device of the network
pub admitted_named_is_known : (setting : Setting) (steps : List Step) (e : Event) (d : ℕ) → Admits setting steps e → device_of e ≡ Some d
    → d < length setting.net.devices
admitted_named_is_known setting steps e d admits named = go (device_of e) named (clear setting steps e admits).device_known
  where
    go : (o : Option ℕ) → o ≡ Some d → map_or o false (λ x. nat_le (length setting.net.devices) x) ≡ false → d < length setting.net.devices
    go None same h = cc
    go (Some x) same h =
        subst (λ n. n < length setting.net.devices) (ap (λ o. map_or o x (λ z. z)) same) (leb-false (length setting.net.devices) x h)

pub named_is_known : (setting : Setting) (steps : List Step) (e : Event) (d : ℕ) → refusal setting steps e ≡ None → device_of e ≡ Some d
    → d < length setting.net.devices
named_is_known setting steps e d none named = admitted_named_is_known setting steps e d (accepted_is_admitted setting steps e none) named

made_named : (e : Event) (d : ℕ) → makes d e ≡ true → device_of e ≡ Some d
made_named (event.Start r m c clock eps) d made = by (nat_eq m d) refl made
  where
    by : (b : Bool) → nat_eq m d ≡ b → (b || false) ≡ true → Some m ≡ Some d
    by true e h = ap Some (eqb-true m d e)
    by false e h = cc
made_named (event.Join r m c clock eps) d made = ap Some (eqb-true m d made)
made_named _ d made = cc

-- a device that is up was made with this event, or was up before
pub up_case : (m f : Bool) (before : Bool) → map_or (if m then Some true else if f then Some false else None) before (λ x. x) ≡ true
    → (m ≡ false → before ≡ true)
up_case true f before h = λ e. cc
up_case false true before h = cc
up_case false false before h = λ e. h

-- a device that is up is one of the network's
pub admitted_up_is_known : (setting : Setting) (history : List Event) → IsAdmitted setting history → (d : ℕ) → is_up (seen_of (chronicle setting history)) d ≡ true
    → d < length setting.net.devices
admitted_up_is_known setting [] is d up = cc
admitted_up_is_known setting (e ∷ earlier) is d up =
    go (makes d e) refl (up_case (makes d e) (fails (thing.Device d) e) (is_up (seen_of (chronicle setting earlier)) d) up) (admitted_up_is_known setting earlier is.0 d)
  where
    go : (m : Bool) → makes d e ≡ m → (makes d e ≡ false → is_up (seen_of (chronicle setting earlier)) d ≡ true)
        → (is_up (seen_of (chronicle setting earlier)) d ≡ true → d < length setting.net.devices) → d < length setting.net.devices
    go true made before rest = admitted_named_is_known setting (chronicle setting earlier) e d is.1 (made_named e d made)
    go false made before rest = rest (before made)

pub up_is_known : (setting : Setting) (history : List Event) → IsHistory setting history → (d : ℕ) → is_up (seen_of (chronicle setting history)) d ≡ true
    → d < length setting.net.devices
up_is_known setting history is d up = admitted_up_is_known setting history (history_is_admitted setting history is) d up

-- A device that is up was made, and has a past.

pub has_some : {A : Type 0} (o : Option A) → is_some o ≡ true → (x : A) × (o ≡ Some x)
has_some None some = cc
has_some (Some x) some = (x, refl)

pub kept_past : (act : Act) (d : ℕ) (p : Option Past) → is_some p ≡ true → is_some (past_after act d p) ≡ true
kept_past (Makes m making) d p some = go (nat_eq m d)
  where
    go : (b : Bool) → is_some (if b then Some (new_past making) else p) ≡ true
    go true = refl
    go false = some
kept_past (Calls m call) d p some = go (nat_eq m d) p some
  where
    go : (b : Bool) (q : Option Past) → is_some q ≡ true → is_some (if b then option_map (λ past. after past call) q else q) ≡ true
    go true None some' = cc
    go true (Some past) some' = refl
    go false q some' = some'
kept_past (Asks m counter) d p some = some
kept_past Passes d p some = some

made_past : (m d : ℕ) (making : Making) (p : Option Past) → nat_eq m d ≡ true → is_some (past_after (Makes m making) d p) ≡ true
made_past m d making p equal = ap (λ b. is_some (if b then Some (new_past making) else p)) equal

pub makes_past : (setting : Setting) (steps : List Step) (e : Event) (d : ℕ) (p : Option Past) → makes d e ≡ true
    → is_some (past_after (act_by setting steps e) d p) ≡ true
makes_past setting steps (event.Start r m c clock eps) d p makes_ =
    made_past m d (calls.Started (duty_of setting.net (in_force setting (seen_of steps)) (epoch_in_force (seen_of steps)) m) c clock eps) p
    (or_left (nat_eq m d) makes_)
  where
    or_left : (b : Bool) → (b || false) ≡ true → b ≡ true
    or_left true h = refl
    or_left false h = h
makes_past setting steps (event.Join r m c clock eps) d p makes_ = made_past m d (calls.Joined (rates_of setting.net m) c clock eps) p makes_
makes_past setting steps _ d p makes_ = cc

pub up_by : (m f up : Bool) (p q : Bool) → (m ≡ true → q ≡ true) → (p ≡ true → q ≡ true) → (up ≡ true → p ≡ true)
    → map_or (if m then Some true else if f then Some false else None) up (λ told. told) ≡ true → q ≡ true
up_by true f up p q making kept rest is = making refl
up_by false true up p q making kept rest is = cc
up_by false false up p q making kept rest is = kept (rest is)

-- a device that is up was made, and has a past
pub up_has_past : (setting : Setting) (history : List Event) (d : ℕ) → is_up (seen_of (chronicle setting history)) d ≡ true
    → (past : Past) × (past_in (chronicle setting history) d ≡ Some past)
up_has_past setting history d up = has_some (past_in (chronicle setting history) d) (is_made history up)
  where
    is_made : (events : List Event) → is_up (seen_of (chronicle setting events)) d ≡ true → is_some (past_in (chronicle setting events) d) ≡ true
    is_made [] up' = cc
    is_made (e ∷ earlier) up' =
        let steps = chronicle setting earlier in
        up_by (makes d e) (fails (thing.Device d) e) (is_up (seen_of steps) d) (is_some (past_in steps d))
        (is_some (past_after (act_by setting steps e) d (past_in steps d)))
        (makes_past setting steps e d (past_in steps d)) (kept_past (act_by setting steps e) d (past_in steps d)) (is_made earlier) up'
