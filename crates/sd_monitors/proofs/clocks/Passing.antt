-- A tick and a receipt that close no window, as the monitor of ticks sees them.
use Rattle.std.proofs.Common.{◌≡◌, ℕ, ◌-◌, ◌^◌, ◌<◌, ◌≤◌, Bool, true, false, ◌&&◌, ◌||◌, List, [], ◌∷◌, length, get_or, nat_le, Option, Some, None, refl, sym, ap, ◌∙◌, subst, arith}
use Rattle.std.specs.Prelude.{◌==◌, nat_eq, is_none, unwrap_or, if◌then◌else◌}
use Rattle.std.specs.List.{list_all}
use Rattle.std.proofs.lemmas.Bool.{eq-eqb, eqb-true, both_ways}
use Rattle.std.proofs.lemmas.List.{set-get_or}
use Rattle.std.proofs.lemmas.Option.{same_Some}
use Rattle.sd_num.specs.Lists.{same_number}
use Rattle.sd_plan.specs.declared.topo.Thing.TheVariants as thing
use Rattle.sd_plan.specs.Plans.{is_member}
use Rattle.sd_sched.specs.declared.Event.{Event}
use Rattle.sd_sched.specs.declared.Event.TheVariants.{Recv}
use Rattle.sd_sched.specs.Events.{reference_of, device_of, ticked, is_stage}
use Rattle.sd_history.specs.World.{Setting, Seen, makes, fails, is_up, is_untouched, plan_numbered}
use Rattle.sd_history.specs.Premises.{latest_tick, is_current_member}
use Rattle.sd_history.specs.Open.{may_be_seen}
use Rattle.sd_monitors.specs.clocks.Kinds.{IsTick, IsReceipt}
use Rattle.sd_monitors.specs.clocks.Owing.{is_awaited, first_of, owed_at, no_state, ticks_after, ticked_at}
use Rattle.sd_monitors.specs.clocks.Tickings.{TickKept, TickStands}
use Rattle.sd_monitors.proofs.clocks.Seeing.{ticking_up, receiving_up}
use Rattle.sd_monitors.proofs.clocks.Judging.{untouched_down}
use Rattle.sd_monitors.proofs.clocks.Ticking.{Spares, tick_then, up_kept, current_kept, owed_by, owed_spared}
use Rattle.sd_monitors.proofs.clocks.Late.{tick_stands}

-- the number that stands for no tick owed
abbrev never : ℕ
never = 2 ^ 64 - 1

-- a device that is up is not awaited
up_unawaited : (setting : Setting) (seen : List Seen) (d : ℕ) → is_up seen d ≡ true → is_awaited setting seen d ≡ false
up_unawaited setting seen d up = by (is_untouched seen d) refl
  where
    by : (b : Bool) → is_untouched seen d ≡ b → (b && is_member (plan_numbered setting 1) d) ≡ false
    by true untouched = absurd (both_ways (is_up seen d) (untouched_down seen d untouched) up)
    by false touched = refl

-- A tick

-- since when a device that is up owes a tick
owed_up : (setting : Setting) (seen : List Seen) (d : ℕ) → is_up seen d ≡ true
    → owed_at setting seen d ≡ (if is_current_member setting seen d then latest_tick seen d else never)
owed_up setting seen d up =
    ap (λ (b : Bool). unwrap_or (owed_by b (is_current_member setting seen d) (latest_tick seen d) (is_awaited setting seen d) (first_of seen)) never) up
    ∙ ap (λ (b : Bool). unwrap_or (owed_by true (is_current_member setting seen d) (latest_tick seen d) b (first_of seen)) never)
    (up_unawaited setting seen d up)
    ∙ by (is_current_member setting seen d)
  where
    by : (b : Bool) → unwrap_or (owed_by true b (latest_tick seen d) false (first_of seen)) never ≡ (if b then latest_tick seen d else never)
    by true = refl
    by false = refl

-- the device that ticks owes its next tick since the tick, if it owes one
pub owed_ticked : (setting : Setting) (s : Seen) (earlier : List Seen) (t d c : ℕ) → IsTick s t d c → is_up earlier d ≡ true → latest_tick earlier d ≤ t
    → t < 2 ^ 64
    → owed_at setting (s ∷ earlier) d ≡ (if owed_at setting earlier d == never then never else t)
owed_ticked setting s earlier t d c is up low small =
    owed_up setting (s ∷ earlier) d (up_kept s earlier d (ap (makes d) is.event) (ap (fails (thing.Device d)) is.event) ∙ up)
    ∙ ap (λ (b : Bool). if b then latest_tick (s ∷ earlier) d else never) (current_kept setting s earlier d is.stays (ap is_stage is.event))
    ∙ ap (λ (n : ℕ). if is_current_member setting earlier d then n else never) latest
    ∙ by (is_current_member setting earlier d)
    ∙ ap (λ (n : ℕ). if n == never then never else t) (sym (owed_up setting earlier d up))
  where
    latest : latest_tick (s ∷ earlier) d ≡ t
    latest =
        ap (λ (e : Event). tick_then (same_number (ticked e) d) (makes d e) (reference_of e) (latest_tick earlier d)) is.event
        ∙ ap (λ (b : Bool). tick_then b false t (latest_tick earlier d)) (eq-eqb d d refl)

    late : (b : Bool) → nat_eq (latest_tick earlier d) never ≡ b → t ≡ (if b then never else t)
    late true same = (let most : latest_tick earlier d ≡ never = eqb-true (latest_tick earlier d) never same in omega (arith, most, low, small))
    late false other = refl

    by : (b : Bool) → (if b then t else never) ≡ (if (if b then latest_tick earlier d else never) == never then never else t)
    by true = late (nat_eq (latest_tick earlier d) never) refl
    by false = refl

-- what a tick does to what is kept
pub record TakesTick (t d : ℕ) (old new : TickKept) : Type 0 where
  pub within : d < length old.owed
  pub holds : new.holds ≡ (old.holds && list_all (nat_le (t - old.limit)) old.owed)
  pub limit : new.limit ≡ old.limit
  pub ticks : new.ticks ≡ record old.ticks { states = ticked_at old.ticks.states d t }
  pub places : length new.owed ≡ length old.owed
  pub others : (k : ℕ) → (k ≡ d → ⊥) → get_or new.owed k 0 ≡ get_or old.owed k 0
  pub here : get_or new.owed d 0 ≡ (if get_or old.owed d 0 == never then never else t)

-- some event came before
first_some : (setting : Setting) (kept : TickKept) (earlier : List Seen) (d : ℕ) → TickStands setting kept earlier → is_up earlier d ≡ true
    → is_none kept.ticks.first ≡ false
first_some setting kept [] d stands up = cc
first_some setting kept (x ∷ earlier) d stands up = ap (λ (o : Option ℕ). is_none o) stands.ticks.first

-- so it is the same after a further event
first_kept : (first : Option ℕ) (t : ℕ) → is_none first ≡ false → first ≡ Some (unwrap_or first t)
first_kept None t some = cc
first_kept (Some n) t some = refl

pub tick_passes : (setting : Setting) (s : Seen) (earlier : List Seen) (t d c : ℕ) (old new : TickKept) → IsTick s t d c
    → may_be_seen setting earlier s.event ≡ true → latest_tick earlier d ≤ t → t < 2 ^ 64 → TakesTick t d old new → TickStands setting old earlier
    → TickStands setting new (s ∷ earlier)
tick_passes setting s earlier t d c old new is may low small takes stands =
    tick_stands setting s earlier false old new stands
    (record {
      small = subst (λ (n : ℕ). n < 2 ^ 64) (sym at) small;
      holds = takes.holds ∙ ap (λ (n : ℕ). old.holds && list_all (nat_le (n - old.limit)) old.owed) (sym at);
      limit = takes.limit;
      ticks = takes.ticks ∙ ap (λ (o : Option ℕ). record { states = ticked_at old.ticks.states d t; first = o }) (first_kept old.ticks.first t some)
          ∙ ap (λ (e : Event). ticks_after e old.ticks) (sym is.event);
      places = takes.places;
      is_all = sym (ap (λ (b : Bool). b || s.closed || is_stage s.event) some ∙ ap (λ (b : Bool). b || is_stage s.event) is.stays ∙ ap is_stage is.event);
      each = λ all. cc;
      named = λ _ k within names. subst (λ (n : ℕ). get_or new.owed n 0 ≡ owed_at setting (s ∷ earlier) n) (same_Some d k (sym named ∙ names)) here;
      others = λ _ k apart. takes.others k (λ same. apart (named ∙ ap Some (sym same)));
    })
  where
    up : is_up earlier d ≡ true
    up = ticking_up setting earlier s.event t d c may is.event

    at : reference_of s.event ≡ t
    at = ap reference_of is.event

    named : device_of s.event ≡ Some d
    named = ap device_of is.event

    some : is_none old.ticks.first ≡ false
    some = first_some setting old earlier d stands up

    here : get_or new.owed d 0 ≡ owed_at setting (s ∷ earlier) d
    here =
        takes.here ∙ ap (λ (n : ℕ). if n == never then never else t) (stands.owed d takes.within)
        ∙ sym (owed_ticked setting s earlier t d c is up low small)

-- A receipt

spared : (s : Seen) (t d c n k : ℕ) → IsReceipt s t d c n → Spares s.event k
spared s t d c n k is =
    record { ticks = ap (λ (e : Event). same_number (ticked e) k) is.event; makes = ap (makes k) is.event; fails = ap (fails (thing.Device k)) is.event }

pub receipt_passes : (setting : Setting) (s : Seen) (earlier : List Seen) (t d c n : ℕ) (old new : TickKept) → IsReceipt s t d c n
    → may_be_seen setting earlier s.event ≡ true → t < 2 ^ 64
    → new ≡ record old { holds = old.holds && list_all (nat_le (t - old.limit)) old.owed } → TickStands setting old earlier
    → TickStands setting new (s ∷ earlier)
receipt_passes setting s [] t d c n old new is may small so stands =
    let up : is_up [] d ≡ true = receiving_up setting [] s.event t d c n may is.event in
    cc
receipt_passes setting s (x ∷ earlier) t d c n old new is may small so stands =
    tick_stands setting s (x ∷ earlier) false old new stands
    (record {
      small = subst (λ (m : ℕ). m < 2 ^ 64) (sym at) small;
      holds = ap (λ (kept : TickKept). kept.holds) so ∙ ap (λ (m : ℕ). old.holds && list_all (nat_le (m - old.limit)) old.owed) (sym at);
      limit = ap (λ (kept : TickKept). kept.limit) so;
      ticks = ap (λ (kept : TickKept). kept.ticks) so ∙ same ∙ ap (λ (e : Event). ticks_after e old.ticks) (sym is.event);
      places = ap (λ (kept : TickKept). length kept.owed) so;
      is_all = sym (ap (λ (b : Bool). b || s.closed || is_stage s.event) some ∙ ap (λ (b : Bool). b || is_stage s.event) is.stays ∙ ap is_stage is.event);
      each = λ all. cc;
      named = λ _ k within names. stays k within;
      others = λ _ k apart. ap (λ (kept : TickKept). get_or kept.owed k 0) so;
    })
  where
    at : reference_of s.event ≡ t
    at = ap reference_of is.event

    some : is_none old.ticks.first ≡ false
    some = ap (λ (o : Option ℕ). is_none o) stands.ticks.first

    same : old.ticks ≡ ticks_after (Recv t d c n) old.ticks
    same =
        ap (λ (o : Option ℕ). record old.ticks { first = o }) (first_kept old.ticks.first t some)
        ∙ ap (λ states. record { states = states; first = Some (unwrap_or old.ticks.first t) }) (sym (set-get_or old.ticks.states d no_state))

    stays : (k : ℕ) → k < length old.owed → get_or new.owed k 0 ≡ owed_at setting (s ∷ x ∷ earlier) k
    stays k within =
        ap (λ (kept : TickKept). get_or kept.owed k 0) so ∙ stands.owed k within
        ∙ sym (owed_spared setting s x earlier k (spared s t d c n k is) is.stays (ap is_stage is.event))
