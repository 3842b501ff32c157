-- The monitor of ticks stands for what was seen and one event more.
use Rattle.std.proofs.Common.{◌≡◌, ℕ, ◌-◌, ◌^◌, ◌<◌, Bool, true, false, ◌&&◌, ◌||◌, List, [], ◌∷◌, length, get_or, nat_le, Option, Some, None, inl, inr, refl, sym, ap, ◌∙◌, subst}
use Rattle.std.specs.Prelude.{is_none}
use Rattle.std.specs.List.{list_all}
use Rattle.std.proofs.lemmas.Bool.{or_parts, both_ways, cases_eq}
use Rattle.std.proofs.lemmas.Option.{same_Some}
use Rattle.sd_sched.specs.Events.{reference_of, device_of, is_stage}
use Rattle.sd_history.specs.World.{Setting, Seen}
use Rattle.sd_history.specs.Premises.{tick_holds, ticks_in_time}
use Rattle.sd_monitors.specs.clocks.Owing.{owed_at, TicksKept, ticks_after, TicksStand}
use Rattle.sd_monitors.specs.clocks.Tickings.{AreOwed, TickKept, TickStands}
use Rattle.sd_monitors.proofs.clocks.Ticking.{owed_kept, ticks_stand}
use Rattle.sd_monitors.proofs.clocks.Judging.{all_tell}

-- what one event more does to what is kept
pub record Observes (setting : Setting) (s : Seen) (earlier : List Seen) (all : Bool) (old new : TickKept) : Type 0 where
  pub small : reference_of s.event < 2 ^ 64
  pub holds : new.holds ≡ (old.holds && list_all (nat_le (reference_of s.event - old.limit)) old.owed)
  pub limit : new.limit ≡ old.limit
  pub ticks : new.ticks ≡ ticks_after s.event old.ticks
  pub places : length new.owed ≡ length old.owed
  pub is_all : all ≡ (is_none old.ticks.first || s.closed || is_stage s.event)
  pub each : all ≡ true → AreOwed setting (s ∷ earlier) new.owed
  pub named : all ≡ false → (d : ℕ) → d < length old.owed → device_of s.event ≡ Some d → get_or new.owed d 0 ≡ owed_at setting (s ∷ earlier) d
  pub others : all ≡ false → (k : ℕ) → (device_of s.event ≡ Some k → ⊥) → get_or new.owed k 0 ≡ get_or old.owed k 0

-- the premise is judged by the references since which the devices owe a tick
judged : (setting : Setting) (s : Seen) (earlier : List Seen) (old : TickKept) → reference_of s.event < 2 ^ 64 → TickStands setting old earlier
    → list_all (nat_le (reference_of s.event - old.limit)) old.owed ≡ ticks_in_time setting s earlier
judged setting s earlier old small stands =
    ap (λ (n : ℕ). list_all (nat_le (reference_of s.event - n)) old.owed) stands.limit ∙ all_tell setting s earlier old.owed small stands.devices stands.owed

-- since when each device owes a tick after the event
owed_after : (setting : Setting) (s : Seen) (earlier : List Seen) (all : Bool) (old new : TickKept) → TickStands setting old earlier
    → Observes setting s earlier all old new
    → all ≡ false → AreOwed setting (s ∷ earlier) new.owed
owed_after setting s [] all old new stands observes some k within =
    absurd (both_ways all some (observes.is_all ∙ ap (λ (o : Option ℕ). is_none o || s.closed || is_stage s.event) stands.ticks.first))
owed_after setting s (x ∷ earlier) all old new stands observes some k within = by (device_of s.event) refl
  where
    stays : (s.closed ≡ false) × (is_stage s.event ≡ false)
    stays =
        let parts = or_parts (is_none old.ticks.first || s.closed) (is_stage s.event) (sym observes.is_all ∙ some) in
        ((or_parts (is_none old.ticks.first) s.closed parts.0).1, parts.1)

    other : (device_of s.event ≡ Some k → ⊥) → get_or new.owed k 0 ≡ owed_at setting (s ∷ x ∷ earlier) k
    other apart =
        observes.others some k apart ∙ stands.owed k (subst (λ (n : ℕ). k < n) observes.places within)
        ∙ sym (owed_kept setting s x earlier k apart stays.0 stays.1)

    none_some : (o : Option ℕ) → o ≡ None → o ≡ Some k → ⊥
    none_some o none is = cc

    by : (named : Option ℕ) → device_of s.event ≡ named → get_or new.owed k 0 ≡ owed_at setting (s ∷ x ∷ earlier) k
    by None names = other (none_some (device_of s.event) names)
    by (Some d) names = elim (cases_eq k d) [
      | inl same ↦ observes.named some k (subst (λ (n : ℕ). k < n) observes.places within) (names ∙ ap Some (sym same))
      | inr apart ↦ other (λ at. apart (same_Some k d (sym at ∙ names)))
    ]

pub tick_stands : (setting : Setting) (s : Seen) (earlier : List Seen) (all : Bool) (old new : TickKept) → TickStands setting old earlier
    → Observes setting s earlier all old new
    → TickStands setting new (s ∷ earlier)
tick_stands setting s earlier all old new stands observes = record {
  holds = observes.holds ∙ ap (λ (b : Bool). b && list_all (nat_le (reference_of s.event - old.limit)) old.owed) stands.holds
      ∙ ap (λ (b : Bool). tick_holds setting earlier && b) (judged setting s earlier old observes.small stands);
  limit = observes.limit ∙ stands.limit;
  devices = observes.places ∙ stands.devices;
  ticks = subst (λ (kept : TicksKept). TicksStand setting kept (s ∷ earlier)) (sym observes.ticks) (ticks_stand setting old.ticks s earlier stands.ticks);
  owed = by all refl;
}
  where
    by : (b : Bool) → all ≡ b → AreOwed setting (s ∷ earlier) new.owed
    by true is = observes.each is
    by false is = owed_after setting s earlier all old new stands observes is
