-- What the latest event does to the ticks of a device, and to since when it owes one.
use Rattle.std.proofs.Common.{◌≡◌, ℕ, ◌+◌, ◌<◌, Bool, true, false, not, ◌&&◌, ◌||◌, cond, List, [], ◌∷◌, length, get_or, set, Option, Some, None, ◌⊎◌, inl, inr, refl, sym, ap, ◌∙◌, subst, ◌-◌, ◌^◌, get_or-set_same, get_or-set_other}
use Rattle.std.specs.Prelude.{option_map, unwrap_or}
use Rattle.std.proofs.Math.ListN.{length-set}
use Rattle.std.proofs.lemmas.Bool.{eq-eqb, ne_eqb, cases_eq}
use Rattle.std.proofs.lemmas.Option.{same_Some}
use Rattle.sd_history.proofs.Shared.{epoch_kept}
use Rattle.sd_num.specs.Lists.{map_or, same_number}
use Rattle.sd_plan.specs.declared.topo.Thing.TheVariants as thing
use Rattle.sd_plan.specs.Plans.{is_member}
use Rattle.sd_sched.specs.declared.Event.{Event}
use Rattle.sd_sched.specs.declared.Event.TheVariants.{Start, Tick, FailDevice, Join}
use Rattle.sd_sched.specs.Events.{reference_of, device_of, ticked, is_stage}
use Rattle.sd_history.specs.World.{Setting, Seen, makes, fails, is_up, was_made, has_ever_failed, is_untouched, window, epoch_in_force, plan_numbered}
use Rattle.sd_history.specs.Premises.{latest_tick, is_current_member}
use Rattle.sd_monitors.specs.declared.clocks.ticks.TickState.{TickState}
use Rattle.sd_monitors.specs.clocks.Owing.{is_awaited, first_of, owed_at, TicksKept, no_state, state_after, ticks_after, TicksStandAt, TicksStand}

-- An event that names another device, or none

abbrev pub NamesNot : Event → ℕ → Type 0
NamesNot e d = device_of e ≡ Some d → ⊥

ticks_not : (e : Event) (d : ℕ) → NamesNot e d → same_number (ticked e) d ≡ false
ticks_not (Tick reference device counter) d apart = ne_eqb device d (λ same. apart (ap Some same))
ticks_not _ d apart = refl

makes_not : (e : Event) (d : ℕ) → NamesNot e d → makes d e ≡ false
makes_not (Start reference device counter clock eps) d apart = ap (λ (b : Bool). b || false) (ne_eqb device d (λ same. apart (ap Some same)))
makes_not (Join reference device counter clock eps) d apart = ne_eqb device d (λ same. apart (ap Some same))
makes_not _ d apart = refl

fails_not : (e : Event) (d : ℕ) → NamesNot e d → fails (thing.Device d) e ≡ false
fails_not (FailDevice reference device) d apart = ne_eqb d device (λ same. apart (ap Some (sym same)))
fails_not _ d apart = refl

-- an event with which the device neither ticks, nor is made, nor fails
pub record Spares (e : Event) (d : ℕ) : Type 0 where
  pub ticks : same_number (ticked e) d ≡ false
  pub makes : makes d e ≡ false
  pub fails : fails (thing.Device d) e ≡ false

spares : (e : Event) (d : ℕ) → NamesNot e d → Spares e d
spares e d apart = record { ticks = ticks_not e d apart; makes = makes_not e d apart; fails = fails_not e d apart }

-- the latest tick as the event leaves it
abbrev pub tick_then : Bool → Bool → ℕ → ℕ → ℕ
tick_then ticks makes reference before = map_or (cond (ticks || makes) (Some reference) None) before (λ t. t)

pub tick_kept : (s : Seen) (earlier : List Seen) (d : ℕ) → Spares s.event d → latest_tick (s ∷ earlier) d ≡ latest_tick earlier d
tick_kept s earlier d spared =
    ap (λ (b : Bool). tick_then b (makes d s.event) (reference_of s.event) (latest_tick earlier d)) spared.ticks
    ∙ ap (λ (b : Bool). tick_then false b (reference_of s.event) (latest_tick earlier d)) spared.makes

-- whether a device was made or failed, and is no more untouched
abbrev touched_then : Bool → Bool → Bool → Bool → Bool
touched_then makes made fails failed = not (makes || made) && not (fails || failed)

untouched_kept : (s : Seen) (earlier : List Seen) (d : ℕ) → makes d s.event ≡ false → fails (thing.Device d) s.event ≡ false
    → is_untouched (s ∷ earlier) d ≡ is_untouched earlier d
untouched_kept s earlier d unmade unfailed =
    ap (λ (b : Bool). touched_then b (was_made earlier d) (fails (thing.Device d) s.event) (has_ever_failed earlier d)) unmade
    ∙ ap (λ (b : Bool). touched_then false (was_made earlier d) b (has_ever_failed earlier d)) unfailed

pub awaited_kept : (setting : Setting) (s : Seen) (earlier : List Seen) (d : ℕ) → makes d s.event ≡ false → fails (thing.Device d) s.event ≡ false
    → is_awaited setting (s ∷ earlier) d ≡ is_awaited setting earlier d
awaited_kept setting s earlier d unmade unfailed =
    ap (λ (b : Bool). b && is_member (plan_numbered setting 1) d) (untouched_kept s earlier d unmade unfailed)

abbrev up_then : Bool → Bool → Bool → Bool
up_then makes fails before = map_or (cond makes (Some true) (cond fails (Some false) None)) before (λ up. up)

pub up_kept : (s : Seen) (earlier : List Seen) (d : ℕ) → makes d s.event ≡ false → fails (thing.Device d) s.event ≡ false
    → is_up (s ∷ earlier) d ≡ is_up earlier d
up_kept s earlier d unmade unfailed =
    ap (λ (b : Bool). up_then b (fails (thing.Device d) s.event) (is_up earlier d)) unmade
    ∙ ap (λ (b : Bool). up_then false b (is_up earlier d)) unfailed

-- An event with which no plan comes in or goes out

pub window_kept : (s : Seen) (earlier : List Seen) → s.closed ≡ false → is_stage s.event ≡ false
    → window (s ∷ earlier) ≡ option_map (λ w. s ∷ w) (window earlier)
window_kept s earlier stays stages =
    ap (λ (b : Bool). cond b None (cond (is_stage s.event) (Some []) (option_map (λ w. s ∷ w) (window earlier)))) stays
    ∙ ap (λ (b : Bool). cond b (Some []) (option_map (λ w. s ∷ w) (window earlier))) stages

pub current_kept : (setting : Setting) (s : Seen) (earlier : List Seen) (d : ℕ) → s.closed ≡ false → is_stage s.event ≡ false
    → is_current_member setting (s ∷ earlier) d ≡ is_current_member setting earlier d
current_kept setting s earlier d stays stages =
    ap (λ (e : ℕ). is_member (plan_numbered setting e) d || map_or (option_map (λ w. plan_numbered setting (e + 1)) (window (s ∷ earlier))) false
    (λ plan. is_member plan d)) (epoch_kept s earlier stays)
    ∙ ap (λ (o : Option (List Seen)). is_member (plan_numbered setting (epoch_in_force earlier)) d
    || map_or (option_map (λ w. plan_numbered setting (epoch_in_force earlier + 1)) o) false (λ plan. is_member plan d))
    (window_kept s earlier stays stages)
    ∙ ap (λ (b : Bool). is_member (plan_numbered setting (epoch_in_force earlier)) d || b) (by (window earlier))
  where
    by : (o : Option (List Seen))
        → map_or (option_map (λ (w : List Seen). plan_numbered setting (epoch_in_force earlier + 1)) (option_map (λ w. s ∷ w) o)) false
        (λ plan. is_member plan d)
        ≡ map_or (option_map (λ (w : List Seen). plan_numbered setting (epoch_in_force earlier + 1)) o) false (λ plan. is_member plan d)
    by None = refl
    by (Some w) = refl

abbrev pub owed_by : Bool → Bool → ℕ → Bool → Option ℕ → Option ℕ
owed_by up current tick awaited first = cond (up && current) (Some tick) (cond awaited first None)

-- the device owes its tick since when it owed it before
pub owed_spared : (setting : Setting) (s x : Seen) (earlier : List Seen) (d : ℕ) → Spares s.event d → s.closed ≡ false → is_stage s.event ≡ false
    → owed_at setting (s ∷ x ∷ earlier) d ≡ owed_at setting (x ∷ earlier) d
owed_spared setting s x earlier d spared stays stages =
    ap (λ (o : Option ℕ). unwrap_or o (2 ^ 64 - 1))
    (ap (λ (b : Bool). owed_by b (is_current_member setting (s ∷ x ∷ earlier) d) (latest_tick (s ∷ x ∷ earlier) d) (is_awaited setting (s ∷ x ∷ earlier) d)
    (first_of (x ∷ earlier))) (up_kept s (x ∷ earlier) d spared.makes spared.fails)
    ∙ ap (λ (b : Bool). owed_by (is_up (x ∷ earlier) d) b (latest_tick (s ∷ x ∷ earlier) d) (is_awaited setting (s ∷ x ∷ earlier) d) (first_of (x ∷ earlier)))
    (current_kept setting s (x ∷ earlier) d stays stages)
    ∙ ap (λ (t : ℕ). owed_by (is_up (x ∷ earlier) d) (is_current_member setting (x ∷ earlier) d) t (is_awaited setting (s ∷ x ∷ earlier) d)
    (first_of (x ∷ earlier))) (tick_kept s (x ∷ earlier) d spared)
    ∙ ap (λ (b : Bool). owed_by (is_up (x ∷ earlier) d) (is_current_member setting (x ∷ earlier) d) (latest_tick (x ∷ earlier) d) b (first_of (x ∷ earlier)))
    (awaited_kept setting s (x ∷ earlier) d spared.makes spared.fails))

pub owed_kept : (setting : Setting) (s x : Seen) (earlier : List Seen) (d : ℕ) → NamesNot s.event d → s.closed ≡ false → is_stage s.event ≡ false
    → owed_at setting (s ∷ x ∷ earlier) d ≡ owed_at setting (x ∷ earlier) d
owed_kept setting s x earlier d apart stays stages = owed_spared setting s x earlier d (spares s.event d apart) stays stages

-- An event that names the device

tick_named : (e : Event) (d : ℕ) (x : TickState) → device_of e ≡ Some d
    → (state_after e x).latest ≡ tick_then (same_number (ticked e) d) (makes d e) (reference_of e) x.latest
tick_named (Tick reference device counter) d x names =
    sym (ap (λ (b : Bool). tick_then b false reference x.latest) (eq-eqb device d (same_Some device d names)))
tick_named (Start reference device counter clock eps) d x names =
    sym (ap (λ (b : Bool). tick_then false (b || false) reference x.latest) (eq-eqb device d (same_Some device d names)))
tick_named (Join reference device counter clock eps) d x names =
    sym (ap (λ (b : Bool). tick_then false b reference x.latest) (eq-eqb device d (same_Some device d names)))
tick_named _ d x names = refl

awaited_named : (e : Event) (d : ℕ) (x : TickState) (made failed member : Bool) → device_of e ≡ Some d → x.awaited ≡ ((not made && not failed) && member)
    → (state_after e x).awaited ≡ (touched_then (makes d e) made (fails (thing.Device d) e) failed && member)
awaited_named (Start reference device counter clock eps) d x made failed member names was =
    sym (ap (λ (b : Bool). touched_then (b || false) made false failed && member) (eq-eqb device d (same_Some device d names)))
awaited_named (Join reference device counter clock eps) d x made failed member names was =
    sym (ap (λ (b : Bool). touched_then b made false failed && member) (eq-eqb device d (same_Some device d names)))
awaited_named (FailDevice reference device) d x made failed member names was =
    sym (ap (λ (b : Bool). touched_then false made b failed && member) (eq-eqb d device (sym (same_Some device d names))) ∙ by made)
  where
    by : (made : Bool) → ((not made && false) && member) ≡ false
    by true = refl
    by false = refl
awaited_named _ d x made failed member names was = was

-- What is kept

at_named : (setting : Setting) (x : TickState) (s : Seen) (earlier : List Seen) (d : ℕ) → device_of s.event ≡ Some d → TicksStandAt setting x earlier d
    → TicksStandAt setting (state_after s.event x) (s ∷ earlier) d
at_named setting x s earlier d names stands = record {
  latest = tick_named s.event d x names ∙ ap (tick_then (same_number (ticked s.event) d) (makes d s.event) (reference_of s.event)) stands.latest;
  awaited = awaited_named s.event d x (was_made earlier d) (has_ever_failed earlier d) (is_member (plan_numbered setting 1) d) names stands.awaited;
}

at_unnamed : (setting : Setting) (x : TickState) (s : Seen) (earlier : List Seen) (d : ℕ) → NamesNot s.event d → TicksStandAt setting x earlier d
    → TicksStandAt setting x (s ∷ earlier) d
at_unnamed setting x s earlier d apart stands = record {
  latest = stands.latest ∙ sym (tick_kept s earlier d (spares s.event d apart));
  awaited = stands.awaited ∙ sym (awaited_kept setting s earlier d (makes_not s.event d apart) (fails_not s.event d apart));
}

first_after : (s : Seen) (earlier : List Seen) → Some (unwrap_or (first_of earlier) (reference_of s.event)) ≡ first_of (s ∷ earlier)
first_after s [] = refl
first_after s (x ∷ earlier) = refl

-- what is kept stands for what was seen and one event more
pub ticks_stand : (setting : Setting) (kept : TicksKept) (s : Seen) (earlier : List Seen) → TicksStand setting kept earlier
    → TicksStand setting (ticks_after s.event kept) (s ∷ earlier)
ticks_stand setting kept s earlier stands = record {
  devices = long (device_of s.event) ∙ stands.devices;
  states = λ d within. by (device_of s.event) refl d (subst (λ (n : ℕ). d < n) (long (device_of s.event)) within);
  first = ap (λ (o : Option ℕ). Some (unwrap_or o (reference_of s.event))) stands.first ∙ first_after s earlier;
}
  where
    long : (named : Option ℕ)
        → length (map_or named kept.states (λ d. set kept.states d (state_after s.event (get_or kept.states d no_state)))) ≡ length kept.states
    long None = refl
    long (Some x) = length-set kept.states x (state_after s.event (get_or kept.states x no_state))

    by : (named : Option ℕ) → device_of s.event ≡ named → (d : ℕ) → d < length kept.states
        → TicksStandAt setting (get_or (map_or named kept.states (λ d. set kept.states d (state_after s.event (get_or kept.states d no_state)))) d no_state)
        (s ∷ earlier) d
    by None names d within =
        at_unnamed setting (get_or kept.states d no_state) s earlier d (λ other. absurd (none_some d (sym names ∙ other))) (stands.states d within)
      where
        none_some : (d : ℕ) → None ≡ Some d → ⊥
        none_some d h = cc
    by (Some x) names d within = at (cases_eq d x)
      where
        at : (d ≡ x) ⊎ (d ≡ x → ⊥)
            → TicksStandAt setting (get_or (set kept.states x (state_after s.event (get_or kept.states x no_state))) d no_state) (s ∷ earlier) d
        at (inl same) =
            subst (λ (k : ℕ). TicksStandAt setting (get_or (set kept.states x (state_after s.event (get_or kept.states x no_state))) k no_state)
            (s ∷ earlier) k) (sym same)
            (subst (λ (v : TickState). TicksStandAt setting v (s ∷ earlier) x)
            (sym (get_or-set_same kept.states x (state_after s.event (get_or kept.states x no_state)) no_state
            (subst (λ (k : ℕ). k < length kept.states) same within)))
            (at_named setting (get_or kept.states x no_state) s earlier x names (stands.states x (subst (λ (k : ℕ). k < length kept.states) same within))))
        at (inr other) =
            subst (λ (v : TickState). TicksStandAt setting v (s ∷ earlier) d)
            (sym (get_or-set_other kept.states x d (state_after s.event (get_or kept.states x no_state)) no_state other))
            (at_unnamed setting (get_or kept.states d no_state) s earlier d (λ named. other (same_Some d x (sym named ∙ names))) (stands.states d within))
