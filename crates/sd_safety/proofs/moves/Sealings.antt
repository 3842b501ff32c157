-- An old device on its primary was sealed at most W after it last heard: by its start, or by the closing, at which its silence was at most W. By induction
-- on the history: who takes up a duty while no window closes is of the staged plan.
use Rattle.std.specs.Prelude.{◌≡◌, ℕ, ◌+◌, ◌<◌, ◌≤◌, Bool, true, false, ◌&&◌, List, [], ◌∷◌, length, nat_eq, nat_le, nat_lt, Option, Some, None, is_some, option_map, refl, if◌then◌else◌}
use Rattle.std.proofs.Common.{arith, ◌∙◌, ap, sym, subst}
use Rattle.std.proofs.lemmas.Bool.{and_parts, and_from, lt-ltb, eq-eqb, leb-true, both_ways}
use Rattle.sd_num.specs.Lists.{map_or, same_number}
use Rattle.sd_plan.specs.declared.topo.Thing.TheVariants as thing
use Rattle.sd_plan.specs.declared.Duty.{Duty}
use Rattle.sd_plan.specs.Plans.{is_member, is_root}
use Rattle.sd_checker.specs.check_root.Timing.{silence}
use Rattle.sd_device.specs.Calls.{Past}
use Rattle.sd_device.specs.Words.{after, transition_of, taken_up, duty_now, epoch_now, has_moved, is_acting, is_sealed}
use Rattle.sd_sched.specs.declared.Event.{Event}
use Rattle.sd_sched.specs.Events.{reference_of}
use Rattle.sd_history.specs.World.{Setting, makes, fails, is_up, latest_reference}
use Rattle.sd_history.specs.Steps.{Act, Makes, Calls, Asks, Passes, Answers, Step, seen_of, act_by, answers_in, live_answers, acts_in, has_settled}
use Rattle.sd_history.specs.Chronicle.{new_past, past_in, past_after, answers_by, chronicle, next_step}
use Rattle.sd_history.proofs.Bridges.{answers_by_words}
use Rattle.sd_history.proofs.Given.{takes_given, some_is}
use Rattle.sd_safety.specs.invariant.Eras.{era, plan_now, is_old, live_past, moved, on_primary, heard_at, belongs}
use Rattle.sd_safety.specs.invariant.Clauses.{just_closed}
use Rattle.sd_safety.specs.invariant.Invariant.{Invariant, AtEach}
use Rattle.sd_safety.specs.invariant.Guarded.{AreGuarded, IsSteady}
use Rattle.sd_safety.specs.invariant.Coming.{AtNext}
use Rattle.sd_safety.proofs.invariant.Sides.{implied}
use Rattle.sd_safety.proofs.invariant.Prefix.{clean_before}
use Rattle.sd_safety.proofs.invariant.Staying.{old_is_member}
use Rattle.sd_safety.specs.timers.Times as times
use Rattle.sd_safety.specs.timers.Times.{AreTimed, makes_device, heard_in, sealed_in, seal_after, reference_after}
use Rattle.sd_safety.specs.timers.Since.{at_once, goes_on, enters_by}
use Rattle.sd_safety.specs.messages.Moments.{whole, behind}
use Rattle.sd_safety.proofs.timers.Pasts.{Inside, itself, onward, was_unmoved, was_not_acting, inside_duty}
use Rattle.sd_safety.proofs.timers.Emissions.{reference_rises}
use Rattle.sd_safety.proofs.timers.Sealed.{seal_within, seal_stays, sealed_since}
use Rattle.sd_history.proofs.Known.{admitted_up_is_known}
use Rattle.sd_history.proofs.Shared.{epoch_kept}
use Rattle.sd_safety.proofs.timers.Histories.{timed}
use Rattle.sd_safety.proofs.waits.SameReferences.{heard_is}
use Rattle.sd_safety.proofs.waits.Waits.{Stands, old_stands}
use Rattle.sd_safety.specs.moves.Wanted.{IsSealedBy, SealedInTime}
use Rattle.sd_safety.proofs.waits.LeastWaits.{timely_of}
use Rattle.sd_safety.proofs.moves.Ahead.{AreAhead, always_ahead, up_since}
use Rattle.sd_safety.proofs.windows.Leading.{stands_by}

-- the same of the pasts, with the references of timers
abbrev AreSealed : Setting → List Step → Type 0
AreSealed setting steps =
    (x : ℕ) (p : Past) → is_up (seen_of steps) x ≡ true → past_in steps x ≡ Some p → epoch_now p ≡ era steps → has_moved p ≡ false → is_acting p ≡ false
    → IsSealedBy steps x (heard_in steps x + silence setting.net)

no_root : (root acts on : Bool) → (if root then acts else on) ≡ true → acts ≡ false → on ≡ true
no_root true acts on is none = absurd (both_ways acts none is)
no_root false acts on is none = is

module _ (setting : Setting) (e : Event) (history : List Event) (fair : AreGuarded setting) (clean : IsSteady setting (e ∷ history))
    (inv : Invariant setting (chronicle setting (e ∷ history)))
    (ahead : AreAhead setting (chronicle setting history)) (was : AreSealed setting (chronicle setting history)) where
  abbrev steps : List Step
  steps = chronicle setting history

  abbrev now : List Step
  now = chronicle setting (e ∷ history)

  abbrev act : Act
  act = act_by setting (chronicle setting history) e

  all_timed : AreTimed setting (chronicle setting (e ∷ history))
  all_timed = timed setting (e ∷ history) (timely_of setting (e ∷ history) fair clean)

  up_then : (x : ℕ) → makes_device act x ≡ false → is_up (seen_of now) x ≡ true → is_up (seen_of steps) x ≡ true
  up_then x none up = up_since (makes x e) (fails (thing.Device x) e) (is_up (seen_of steps) x) (all_timed.1.fits.makes_it x ∙ none) up

  -- right after a closing
  at_closing : (next_step setting steps e).seen.closed ≡ true → AreSealed setting now
  at_closing closed x p up there epoch unmoved idle =
      let live : live_answers now x ≡ Some (answers_by p) = ap (λ b. if b then answers_in now x else None) up ∙ answers_by_words setting (e ∷ history) x
      ∙ ap (option_map answers_by) there in
      let old : is_old now x ≡ true = ap (λ (o : Option Answers). same_number (option_map (λ a. a.epoch) o) (era now)) live
      ∙ eq-eqb (epoch_now p) (era now) epoch in
      let member : is_member (plan_now setting now) x ≡ true = old_is_member setting now x (inv.core.census.outsiders x) old in
      let known : x < length setting.net.devices = admitted_up_is_known setting (e ∷ history) clean.is x up in
      let begins : (has_settled now (era now) x
      && (if is_root (plan_now setting now) x then acts_in now x else on_primary now x
      && nat_le (latest_reference (seen_of now)) (heard_at now x + silence setting.net))) ≡ true =
      implied (just_closed now && belongs setting.net (plan_now setting now) x) _ (inv.core.closed.members x)
      (and_from (just_closed now) (belongs setting.net (plan_now setting now) x) closed
      (and_from (nat_lt x (length setting.net.devices)) (is_member (plan_now setting now) x) (lt-ltb x (length setting.net.devices) known) member)) in
      let parts = and_parts (has_settled now (era now) x) (if is_root (plan_now setting now) x then acts_in now x else on_primary now x
      && nat_le (latest_reference (seen_of now)) (heard_at now x + silence setting.net)) begins in
      let sealed : is_sealed p ≡ true =
      (and_parts (nat_eq (epoch_now p) (era now)) (is_sealed p)
      (sym (ap (λ (o : Option Answers). map_or o false (λ a. nat_eq a.epoch (era now) && a.sealed)) live) ∙ parts.0)).1 in
      let since = sealed_since setting now all_timed x p there sealed in
      let within : since.0 ≤ latest_reference (seen_of now) = seal_within setting now all_timed x since.0 since.1 in
      let idle_now : acts_in now x ≡ false = ap (λ (o : Option Answers). map_or o false (λ a. a.acts)) live ∙ idle in
      let soon : latest_reference (seen_of now) ≤ heard_at now x + silence setting.net =
      leb-true (latest_reference (seen_of now)) (heard_at now x + silence setting.net)
      (and_parts (on_primary now x) (nat_le (latest_reference (seen_of now)) (heard_at now x + silence setting.net))
      (no_root (is_root (plan_now setting now) x) (acts_in now x)
      (on_primary now x && nat_le (latest_reference (seen_of now)) (heard_at now x + silence setting.net)) parts.1 idle_now)).1 in
      record {
        seal = since.0;
        sealed = since.1;
        by = subst (λ h. since.0 ≤ h + silence setting.net) (heard_is setting now all_timed x)
            (on since.0 (latest_reference (seen_of now)) (heard_at now x + silence setting.net) within soon);
      }
    where
      on : (a b m : ℕ) → a ≤ b → b ≤ m → a ≤ m
      on a b m y z = omega (arith, y, z)

  -- while no window closes, and the device does not enter
  keep : (x : ℕ) (q : Past) → is_up (seen_of steps) x ≡ true → past_in steps x ≡ Some q → epoch_now q ≡ era steps → has_moved q ≡ false → is_acting q ≡ false
      → enters_by act x (past_in steps x) ≡ false
      → IsSealedBy now x (heard_in now x + silence setting.net)
  keep x q live at epoch unmoved idle stays =
      let before : IsSealedBy steps x (heard_in steps x + silence setting.net) = was x q live at epoch unmoved idle in
      let rises : heard_in steps x ≤ heard_in now x = reference_rises times.hears setting steps now x (behind whole) all_timed in
      record {
        seal = before.seal;
        sealed = seal_stays x before.seal steps now (goes_on stays at_once) before.sealed;
        by = later_on before.seal (heard_in steps x) (heard_in now x) (silence setting.net) before.by rises;
      }
    where
      later_on : (q h k s : ℕ) → q ≤ h + s → h ≤ k → q ≤ k + s
      later_on q h k s y z = omega (arith, y, z)

  meanwhile : (next_step setting steps e).seen.closed ≡ false → AreSealed setting now
  meanwhile stays x p up there epoch unmoved idle = by_act act refl there
    where
      same_era : epoch_now p ≡ era steps
      same_era = epoch ∙ epoch_kept (next_step setting steps e).seen (seen_of steps) stays

      by_act : (a : Act) → act ≡ a → past_after a x (past_in steps x) ≡ Some p → IsSealedBy now x (heard_in now x + silence setting.net)
      by_act (Makes m making) is h = go (nat_eq m x) refl h
        where
          go : (b : Bool) → nat_eq m x ≡ b → (if b then Some (new_past making) else past_in steps x) ≡ Some p
              → IsSealedBy now x (heard_in now x + silence setting.net)
          go true same h' =
              let heard : heard_in now x ≡ reference_of e = ap (λ a. reference_after times.hears (reference_of e) a x (past_in steps x) (heard_in steps x)) is
              ∙ ap (λ b. if b then reference_of e else heard_in steps x) same in
              record {
                seal = reference_of e;
                sealed = ap (λ a. seal_after (reference_of e) a x (past_in steps x) (sealed_in steps x)) is
                    ∙ ap (λ b. if b then Some (reference_of e) else sealed_in steps x) same;
                by = subst (λ k. reference_of e ≤ k + silence setting.net) (sym heard) (more (reference_of e) (silence setting.net));
              }
            where
              more : (a b : ℕ) → a ≤ a + b
              more a b = omega arith
          go false same h' =
              keep x p (up_then x (ap (λ a. makes_device a x) is ∙ same) up) h' same_era unmoved idle (ap (λ a. enters_by a x (past_in steps x)) is ∙ same)
      by_act (Calls m call) is h = go (nat_eq m x) refl (past_in steps x) refl h
        where
          live : is_up (seen_of steps) x ≡ true
          live = up_then x (ap (λ a. makes_device a x) is) up

          by_transition : (q : Past) → nat_eq m x ≡ true → past_in steps x ≡ Some q → after q call ≡ p → (o : Option Duty) → taken_up (transition_of q call) ≡ o
              → IsSealedBy now x (heard_in now x + silence setting.net)
          by_transition q same at to (Some u) takes =
              let number : u.epoch ≡ era steps + 1 = (ahead x q live at u (takes_given q call u takes)).number in
              let here : epoch_now (after q call) ≡ u.epoch =
              ap (λ (o : Option Duty). map_or (map_or (option_map Some o) (duty_now q) (λ y. y)) 0 (λ (v : Duty). v.epoch)) takes in
              absurd (never (era steps) (sym same_era ∙ ap epoch_now (sym to) ∙ here ∙ number))
            where
              never : (n : ℕ) → n ≡ n + 1 → ⊥
              never n is' = omega (arith, is')
          by_transition q same at to None takes =
              let inside : Inside q (after q call) = onward call takes itself in
              keep x q live at (ap (λ (o : Option Duty). map_or o 0 (λ (v : Duty). v.epoch)) (sym (inside_duty q (after q call) inside)) ∙ ap epoch_now to
              ∙ same_era)
              (was_unmoved q (after q call) inside (ap has_moved to ∙ unmoved)) (was_not_acting q (after q call) inside (ap is_acting to ∙ idle))
              (ap (λ a. enters_by a x (past_in steps x)) is
              ∙ ap (λ b. b && map_or (past_in steps x) false (λ z. is_some (taken_up (transition_of z call)))) same
              ∙ ap (λ (o : Option Past). map_or o false (λ z. is_some (taken_up (transition_of z call)))) at ∙ ap (λ (o : Option Duty). is_some o) takes)

          go : (b : Bool) → nat_eq m x ≡ b → (o : Option Past) → past_in steps x ≡ o → (if b then option_map (λ past. after past call) o else o) ≡ Some p
              → IsSealedBy now x (heard_in now x + silence setting.net)
          go true same None at h' = cc
          go true same (Some q) at h' = by_transition q same at (some_is h') (taken_up (transition_of q call)) refl
          go false same o at h' =
              keep x p live (at ∙ h') same_era unmoved idle
              (ap (λ a. enters_by a x (past_in steps x)) is
              ∙ ap (λ b. b && map_or (past_in steps x) false (λ z. is_some (taken_up (transition_of z call)))) same)
      by_act (Asks m counter) is h =
          keep x p (up_then x (ap (λ a. makes_device a x) is) up) h same_era unmoved idle (ap (λ a. enters_by a x (past_in steps x)) is)
      by_act Passes is h = keep x p (up_then x (ap (λ a. makes_device a x) is) up) h same_era unmoved idle (ap (λ a. enters_by a x (past_in steps x)) is)

  pub sealed_next : AreSealed setting now
  sealed_next = go (next_step setting steps e).seen.closed refl
    where
      go : (b : Bool) → (next_step setting steps e).seen.closed ≡ b → AreSealed setting now
      go true is = at_closing is
      go false is = meanwhile is

always_sealed : (setting : Setting) (history : List Event) → AreGuarded setting → IsSteady setting history → AtEach (Invariant setting) (chronicle setting history)
    → AreSealed setting (chronicle setting history)
always_sealed setting [] fair clean each = λ x p up there epoch unmoved idle. cc
always_sealed setting (e ∷ history) fair clean each =
    sealed_next setting e history fair clean each.1 (always_ahead setting history fair (clean_before setting e history clean) each.0)
    (always_sealed setting history fair (clean_before setting e history clean) each.0)

-- at each event that comes
pub sealed_in_time : (setting : Setting) → AtNext SealedInTime setting
sealed_in_time setting history e comes d old on =
    let steps = chronicle setting history in
    let clean : IsSteady setting history = clean_before setting e history comes.clean in
    let s : Stands setting steps d = old_stands setting history d old in
    let put = stands_by (is_some (live_past steps d)) (moved steps d) (acts_in steps d) on in
    let by : IsSealedBy steps d (heard_in steps d + silence setting.net) =
    always_sealed setting history comes.fair clean comes.before d s.past s.live s.there (ap (λ o. map_or o 0 (λ (u : Duty). u.epoch)) s.duty)
    (sym s.moved_is ∙ put.0) (sym s.acts_is ∙ put.1) in
    subst (λ h. IsSealedBy steps d (h + silence setting.net))
    (sym (heard_is setting steps (timed setting history (timely_of setting history comes.fair clean)) d)) by
