use Rattle.std.proofs.Common.{◌≡◌, ℕ, ◌-◌, true, false, ◌&&◌, nat_le, List, ◌∷◌, length, get_or, Some, None, refl, sym, ap, ◌∙◌, subst, arith}
use Rattle.std.specs.List.{list_all}
use Rattle.std.proofs.lemmas.Bool.{both_ways}
use Rattle.std.proofs.lemmas.Option.{same_Some}
use Rattle.sd_sched.specs.Events.{device_of}
use Rattle.sd_history.specs.World.{Setting, Seen}
use Rattle.sd_world.specs.world.Standing.{Stands}
use Rattle.sd_monitors.specs.declared.clocks.tick.TickMonitor.TheInside.{Inside}
use Rattle.sd_monitors.specs.clocks.Sights.{sight_of}
use Rattle.sd_monitors.specs.clocks.Memberships.{AreMembers}
use Rattle.sd_monitors.specs.clocks.Owing.{owed_at, TicksKept, TicksStand}
use Rattle.sd_monitors.specs.clocks.Tickings.{AreOwed, TickKept, TickStands, TellOf}
use Rattle.sd_monitors.specs.clocks.TickView.{tick_kept}
use Rattle.sd_monitors.proofs.clocks.Ticking.{ticks_stand}
use Rattle.sd_monitors.proofs.clocks.Late.{Observes, tick_stands}
use Rattle.sd_monitors.proofs.clocks.tick.TickMonitor.observe.Goals as goal
use Rattle.sd_monitors.proofs.clocks.tick.TickMonitor.observe.Goals.{then-all, else-all+in-Some, else-all+in_default}

-- what is kept after the event, with these references since which devices owe a tick
abbrev kept_with : goal.Joined-all → List ℕ → TickKept
kept_with c owed = record { ticks = c.observe.new.self; owed = owed; limit = c.self.inside.limit; holds = c.holds_still-self-inside.result }

observes : (c : goal.Joined-all) (setting : Setting) (earlier : List Seen) (owed : List ℕ) → length owed ≡ length c.holds_still-self-inside.new.owed
    → (c.is_changed_for_all-all.result ≡ true → AreOwed setting (sight_of c.args.seen.now ∷ earlier) owed)
    → (c.is_changed_for_all-all.result ≡ false → (d : ℕ) → device_of c.args.seen.now.event ≡ Some d
    → get_or owed d 0 ≡ owed_at setting (sight_of c.args.seen.now ∷ earlier) d)
    → (c.is_changed_for_all-all.result ≡ false → (k : ℕ) → (device_of c.args.seen.now.event ≡ Some k → ⊥)
    → get_or owed k 0 ≡ get_or c.holds_still-self-inside.new.owed k 0)
    → Observes setting (sight_of c.args.seen.now) earlier c.is_changed_for_all-all.result (tick_kept c.self.inside) (kept_with c owed)
observes c setting earlier owed places each named others = record {
  small = (let is = c.reference-reference.ensures in omega arith);
  holds = c.holds_still-self-inside.ensures.answer
      ∙ ap (λ (n : ℕ). c.self.inside.holds && list_all (nat_le (n - c.self.inside.limit)) c.self.inside.owed) c.reference-reference.ensures;
  limit = refl;
  ticks = c.observe.ensures;
  places = places ∙ ap (λ (xs : List ℕ). length xs) c.holds_still-self-inside.ensures.same;
  is_all = c.is_changed_for_all-all.ensures;
  each = each;
  named = λ some d within at. named some d at;
  others = λ some k apart. others some k apart ∙ ap (λ (xs : List ℕ). get_or xs k 0) c.holds_still-self-inside.ensures.same;
}

-- what all of it tells after the event
tells : (c : goal.Joined-all) (setting : Setting) (earlier : List Seen) → AreMembers setting c.args.members.now
    → Stands c.args.after.now setting (sight_of c.args.seen.now ∷ earlier)
    → TickStands setting (tick_kept c.self.inside) earlier
    → TellOf setting (sight_of c.args.seen.now ∷ earlier) c.args.members.now c.args.after.now c.observe.new.self
tells c setting earlier members world stands = record {
  members = members;
  world = world;
  ticks = subst (λ (kept : TicksKept). TicksStand setting kept (sight_of c.args.seen.now ∷ earlier)) (sym c.observe.ensures)
      (ticks_stand setting c.self.inside.ticks (sight_of c.args.seen.now) earlier stands.ticks);
}

stands_after : (c : goal.Joined-all) (setting : Setting) (earlier : List Seen) → AreMembers setting c.args.members.now
    → Stands c.args.after.now setting (sight_of c.args.seen.now ∷ earlier)
    → TickStands setting c.args.self.now earlier → TickStands setting (tick_kept c.if-all.self-inside) (sight_of c.args.seen.now ∷ earlier)
stands_after c setting earlier members world stood =
    let stands : TickStands setting (tick_kept c.self.inside) earlier =
    subst (λ (kept : TickKept). TickStands setting kept earlier) (sym c.self.view_is) stood in
    let told : TellOf setting (sight_of c.args.seen.now ∷ earlier) c.args.members.now c.args.after.now c.observe.new.self =
    tells c setting earlier members world stands in
    elim c.if-all.branch [
      | then-all w ↦
          subst (λ (inside : Inside). TickStands setting (tick_kept inside) (sight_of c.args.seen.now ∷ earlier)) (sym w.self-inside-is)
          (tick_stands setting (sight_of c.args.seen.now) earlier c.is_changed_for_all-all.result (tick_kept c.self.inside)
          (kept_with c w.note_all.new.owed) stands
          (observes c setting earlier w.note_all.new.owed w.note_all.ensures.places
          (λ all. w.note_all.ensures.each setting (sight_of c.args.seen.now ∷ earlier) told)
          (λ some. absurd (both_ways c.is_changed_for_all-all.result some w.if-all.true))
          (λ some. absurd (both_ways c.is_changed_for_all-all.result some w.if-all.true))))
      | else-all+in-Some w ↦
          (let names : device_of c.args.seen.now.event ≡ Some w.in-Some.d = sym w.device.ensures ∙ w.in-Some.is in
          subst (λ (inside : Inside). TickStands setting (tick_kept inside) (sight_of c.args.seen.now ∷ earlier)) (sym w.self-inside-is)
          (tick_stands setting (sight_of c.args.seen.now) earlier c.is_changed_for_all-all.result (tick_kept c.self.inside) (kept_with c w.note.new.owed) stands
          (observes c setting earlier w.note.new.owed w.note.ensures.places
          (λ all. absurd (both_ways c.is_changed_for_all-all.result w.if-all.false all))
          (λ some d at. subst (λ (k : ℕ). get_or w.note.new.owed k 0 ≡ owed_at setting (sight_of c.args.seen.now ∷ earlier) k)
          (same_Some w.in-Some.d d (sym names ∙ at))
          (w.note.ensures.here setting (sight_of c.args.seen.now ∷ earlier) told))
          (λ some k apart. w.note.ensures.others k (λ same. apart (names ∙ ap Some (sym same)))))))
      | else-all+in_default w ↦
          (let none : device_of c.args.seen.now.event ≡ None = sym w.device.ensures ∙ w.in_default.is in
          subst (λ (inside : Inside). TickStands setting (tick_kept inside) (sight_of c.args.seen.now ∷ earlier)) (sym w.self-inside-is)
          (tick_stands setting (sight_of c.args.seen.now) earlier c.is_changed_for_all-all.result (tick_kept c.self.inside)
          (kept_with c c.holds_still-self-inside.new.owed) stands
          (observes c setting earlier c.holds_still-self-inside.new.owed refl
          (λ all. absurd (both_ways c.is_changed_for_all-all.result w.if-all.false all))
          (λ some d at. absurd (none_some d (sym none ∙ at)))
          (λ some k apart. refl))))
    ]
  where
    none_some : (d : ℕ) → None ≡ Some d → ⊥
    none_some d h = cc

pub returns-clause-stands : goal.returns-clause-stands
returns-clause-stands c setting earlier members world stands = stands_after c setting earlier members world stands

pub returns-clause-holds : goal.returns-clause-holds
returns-clause-holds c setting earlier members world stands = (stands_after c setting earlier members world stands).holds
