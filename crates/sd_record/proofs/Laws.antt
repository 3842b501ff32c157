-- Only losses come before the event of an entry, each at the last moment of its message, and none is left.
use Rattle.std.specs.Prelude.{◌≡◌, ℕ, zero, suc, ◌+◌, ◌-◌, ◌≤◌, ◌^◌, Bool, true, false, List, [], ◌∷◌, ◌++◌, filter, length, nat_lt, Option, Some, None, Ok, Err, ◌⊎◌, refl, if◌then◌else◌}
use Rattle.std.proofs.Common.{arith, append_assoc, sym, ◌∙◌, ap, subst, inl, inr}
use Rattle.std.proofs.lemmas.Bool.{ltb-true}
use Rattle.sd_device.specs.declared.msg.Flight.{Flight}
use Rattle.sd_sched.specs.declared.Event.{Event}
use Rattle.sd_sched.specs.declared.Event.TheVariants.{Lose}
use Rattle.sd_history.specs.World.{Setting}
use Rattle.sd_history.specs.Open.{unspent}
use Rattle.sd_history.specs.Chronicle.{chronicle, IsHistory}
use Rattle.sd_history.specs.Refusals.{refusal}
use Rattle.sd_history.specs.declared.ApplyFault.{ApplyFault}
use Rattle.sd_history.proofs.Accepting.{history_is_accepted}
use Rattle.sd_history.proofs.Admitted.{length-chronicle}
use Rattle.sd_history.proofs.Among.{Among, first, later}
use Rattle.sd_history.proofs.flights.Counts.{steps_few}
use Rattle.sd_record.specs.logs.Entries.{reference_in}
use Rattle.sd_record.specs.declared.logs.Entry.{Entry}
use Rattle.sd_record.specs.Laws.{AreLosses, IsLoss, IsRecordOf}
use Rattle.sd_record.specs.Losing.{is_past, next_lost, soonest, sooner}
use Rattle.sd_record.specs.Naming.{event_in}
use Rattle.sd_record.specs.Recorded.{Events, add, add_unless, go_on, lose_all, lose_next, lose_up_to, record_entry}
use Rattle.sd_record.specs.declared.endings.Ending.{Ending}
use Rattle.sd_record.proofs.Members.{kept, on_way_found}

-- A message that is lost

-- a message that ends so is among these
pub record Ends (fs : List Flight) (ending : Ending) : Type 0 where
  pub flight : Flight
  pub among : Among flight fs
  pub is : ending ≡ record { last = flight.last; number = flight.number }

later_ends : (f : Flight) (fs : List Flight) (ending : Ending) → Ends fs ending → Ends (f ∷ fs) ending
later_ends f fs ending e = record { flight = e.flight; among = later e.among; is = e.is }

ending_by : (f : Flight) (fs : List Flight) (best : Option Ending) (ending : Ending) → sooner best f.last f.number ≡ Some ending
    → (best ≡ Some ending) ⊎ Ends (f ∷ fs) ending
ending_by f fs None ending is = inr (record { flight = f; among = first; is = cc })
ending_by f fs (Some b) ending is = go (nat_lt f.last b.last) is
  where
    go : (c : Bool) → ◌≡◌ {A = Option Ending} (if c then Some (record { last = f.last; number = f.number }) else Some b) (Some ending)
        → (Some b ≡ Some ending) ⊎ Ends (f ∷ fs) ending
    go true same = inr (record { flight = f; among = first; is = cc })
    go false same = inl same

-- the soonest ending is that of one of them
soonest_is : (fs : List Flight) (best : Option Ending) (ending : Ending) → soonest best fs ≡ Some ending → (best ≡ Some ending) ⊎ Ends fs ending
soonest_is [] best ending is = inl is
soonest_is (f ∷ fs) best ending is = elim (soonest_is fs (sooner best f.last f.number) ending is) [
  | inl before ↦ ending_by f fs best ending before
  | inr found ↦ inr (later_ends f fs ending found)
]

-- the message that is lost next
next_is_loss : (setting : Setting) (reference : ℕ) (events : List Event) (ending : Ending) → IsHistory setting events
    → next_lost reference (chronicle setting events) ≡ Some ending
    → IsLoss reference (chronicle setting events) (Lose ending.last ending.number)
next_is_loss setting reference events ending history is =
    let steps = chronicle setting events in
    elim (soonest_is (filter (is_past reference) (unspent steps 0)) None ending is) [
      | inl none ↦ (let never : ◌≡◌ {A = Option Ending} None (Some ending) = none in cc)
      | inr e ↦
          (let it = kept (is_past reference) (unspent steps 0) e.flight e.among in
          record {
            flight = e.flight;
            on_its_way = on_way_found setting steps e.flight (history_is_accepted setting events history) it.0;
            past = ltb-true e.flight.last reference it.1;
            is = ap (λ (x : Ending). Lose x.last x.number) e.is;
          })
    ]

-- One event more

-- an event that was added was not refused
added : (o : Option ApplyFault) (e : Event) (events after : List Event) → add_unless o e events ≡ Ok after → (o ≡ None) × (after ≡ e ∷ events)
added None e events after is = (refl, cc)
added (Some why) e events after is = cc

-- All losses

-- this many losses came after the events, and either none is left or as many as may be were lost
pub record HasLost (setting : Setting) (reference n : ℕ) (events after : List Event) : Type 0 where
  pub losses : List Event
  pub are : AreLosses setting reference losses events
  pub is : after ≡ losses ++ events
  pub history : IsHistory setting after
  pub ends : (next_lost reference (chronicle setting after) ≡ None) ⊎ (length after ≡ n + length events)

-- losses that come after a first one
behind : (setting : Setting) (reference : ℕ) (losses before : List Event) (e : Event) → IsLoss reference (chronicle setting before) e
    → AreLosses setting reference losses (e ∷ before)
    → AreLosses setting reference (losses ++ e ∷ []) before
behind setting reference [] before e loss are = (tt, loss)
behind setting reference (x ∷ xs) before e loss are = (
  behind setting reference xs before e loss are.0,
  subst (λ (es : List Event). IsLoss reference (chronicle setting es) x) (sym (append_assoc xs (e ∷ []) before)) are.1,
)

lost : (setting : Setting) (reference n : ℕ) (events after : List Event) → IsHistory setting events → lose_up_to setting reference n events ≡ Ok after
    → HasLost setting reference n events after
unfolding lose_up_to
lost setting reference zero events after history is =
    let same : events ≡ after = cc in
    record {
      losses = [];
      are = tt;
      is = sym same;
      history = subst (IsHistory setting) same history;
      ends = inr (let count : length after ≡ length events = ap length (sym same) in omega (arith, count));
    }
lost setting reference (suc n) events after history is =
    by (next_lost reference (chronicle setting events)) refl is (λ es held came. lost setting reference n es after held came)
  where
    go : (ending : Ending) (o : Option ApplyFault) → next_lost reference (chronicle setting events) ≡ Some ending
        → refusal setting (chronicle setting events) (Lose ending.last ending.number) ≡ o
        → go_on (add_unless o (Lose ending.last ending.number) events) (lose_up_to setting reference n) ≡ Ok after
        → ((es : List Event) → IsHistory setting es → lose_up_to setting reference n es ≡ Ok after → HasLost setting reference n es after)
        → HasLost setting reference (suc n) events after
    go ending (Some why) some refused came more = cc
    go ending None some free came more =
        let e : Event = Lose ending.last ending.number in
        let rest = more (e ∷ events) (history, free) came in
        let loss = next_is_loss setting reference events ending history some in
        record {
          losses = rest.losses ++ e ∷ [];
          are = behind setting reference rest.losses events e loss rest.are;
          is = rest.is ∙ sym (append_assoc rest.losses (e ∷ []) events);
          history = rest.history;
          ends = elim rest.ends [
            | inl none ↦ inl none
            | inr many ↦ inr (let count : length after ≡ n + length (e ∷ events) = many in omega (arith, count))
          ];
        }

    by : (o : Option Ending) → next_lost reference (chronicle setting events) ≡ o
        → lose_next setting o (lose_up_to setting reference n) events ≡ Ok after
        → ((es : List Event) → IsHistory setting es → lose_up_to setting reference n es ≡ Ok after → HasLost setting reference n es after)
        → HasLost setting reference (suc n) events after
    by None none came more =
        let same : events ≡ after = cc in
        record {
          losses = [];
          are = tt;
          is = sym same;
          history = subst (IsHistory setting) same history;
          ends = inl (subst (λ (es : List Event). next_lost reference (chronicle setting es) ≡ None) same none);
        }
    by (Some ending) some came more =
        go ending (refusal setting (chronicle setting events) (Lose ending.last ending.number)) some refl came more

-- a history has too few events for as many losses
all_lost_left : (setting : Setting) (reference : ℕ) (events after : List Event) → HasLost setting reference (2 ^ 64 - 1) events after
    → next_lost reference (chronicle setting after) ≡ None
all_lost_left setting reference events after h = elim h.ends [
  | inl none ↦ none
  | inr many ↦
      (let few : length (chronicle setting after) ≤ 2 ^ 26 = steps_few setting (chronicle setting after) (history_is_accepted setting after h.history) in
      let same = length-chronicle setting after in
      absurd (omega (arith, many, few, same)))
]

-- An entry

pub recorded : (setting : Setting) (entry : Entry) (before after : List Event) → IsHistory setting before → record_entry setting entry before ≡ Ok after
    → IsRecordOf setting entry before after
recorded setting entry before after history is = by (lose_all setting (reference_in entry) before) refl is
  where
    by : (came : Events) → lose_all setting (reference_in entry) before ≡ came
        → go_on came (λ es. add setting (event_in (chronicle setting es) entry) es) ≡ Ok after
        → IsRecordOf setting entry before after
    by (Err why) came is' = cc
    by (Ok es) came is' =
        let h = lost setting (reference_in entry) (2 ^ 64 - 1) before es history came in
        let it = added (refusal setting (chronicle setting es) (event_in (chronicle setting es) entry)) (event_in (chronicle setting es) entry) es after is' in
        record {
          losses = h.losses;
          are = h.are;
          none_left =
              subst (λ (xs : List Event). next_lost (reference_in entry) (chronicle setting xs) ≡ None) h.is
              (all_lost_left setting (reference_in entry) before es h);
          is = it.1 ∙ ap (λ (xs : List Event). event_in (chronicle setting xs) entry ∷ xs) h.is;
        }

-- what is recorded is accepted
pub stays_history : (setting : Setting) (entry : Entry) (before after : List Event) → IsHistory setting before → record_entry setting entry before ≡ Ok after
    → IsHistory setting after
stays_history setting entry before after history is = by (lose_all setting (reference_in entry) before) refl is
  where
    by : (came : Events) → lose_all setting (reference_in entry) before ≡ came
        → go_on came (λ es. add setting (event_in (chronicle setting es) entry) es) ≡ Ok after
        → IsHistory setting after
    by (Err why) came is' = cc
    by (Ok es) came is' =
        let h = lost setting (reference_in entry) (2 ^ 64 - 1) before es history came in
        let it = added (refusal setting (chronicle setting es) (event_in (chronicle setting es) entry)) (event_in (chronicle setting es) entry) es after is' in
        subst (IsHistory setting) (sym it.1) (h.history, it.0)
