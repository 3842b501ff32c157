-- A duty that was given to a device that is up and is not taken up yet is of the staged plan, of which the device is a member; and the device is not new.
-- By induction on the history: a give comes before the commit, and at a closing each member of the staged plan that is up is new.
use Rattle.std.specs.Prelude.{◌≡◌, ℕ, ◌+◌, ◌<◌, Bool, true, false, ◌&&◌, ◌||◌, not, List, [], ◌∷◌, length, filter, nat_eq, nat_le, Option, Some, None, is_some, option_map, refl, ◌⊎◌, if◌then◌else◌}
use Rattle.std.specs.List.{list_all}
use Rattle.std.proofs.Common.{◌∙◌, ap, sym, subst, inl, inr}
use Rattle.std.proofs.lemmas.Bool.{and_parts, or_parts, not-false, eqb-true, eq-eqb, both_ways}
use Rattle.sd_num.specs.Lists.{map_or, same_number}
use Rattle.sd_plan.specs.declared.topo.Thing.TheVariants as thing
use Rattle.sd_plan.specs.declared.Plan.{Plan}
use Rattle.sd_plan.specs.declared.Duty.{Duty}
use Rattle.sd_plan.specs.Plans.{is_member, members}
use Rattle.sd_plan.specs.Duties.{duty_of}
use Rattle.sd_device.specs.declared.msg.Flight.{Flight}
use Rattle.sd_device.specs.Calls as calls
use Rattle.sd_device.specs.Calls.{Call, Past}
use Rattle.sd_device.specs.Words.{after, given_now, epoch_now, is_sealed}
use Rattle.sd_device.proofs.Reached.{added}
use Rattle.sd_sched.specs.declared.Event.{Event}
use Rattle.sd_sched.specs.declared.Event.TheVariants as event
use Rattle.sd_sched.specs.Events.{started, given, joined, is_stage, is_commit, is_seal}
use Rattle.sd_history.specs.Things.{mended}
use Rattle.sd_plan.specs.topo.Network.{device_numbers}
use Rattle.sd_history.specs.World.{Setting, Seen, makes, fails, is_up, window, window_is_open, has_commit, staged_epoch, in_force, staged, is_staged_member, plan_numbered}
use Rattle.sd_history.specs.Steps.{Act, Makes, Calls, Asks, Passes, Answers, Step, seen_of, act_by, changed, flight_numbered, answers_in, live_answers, epoch_in, has_settled, first_step, activated_by, can_close}
use Rattle.sd_history.specs.Refusals.{window_order, window_order_seen, window_order_within}
use Rattle.sd_history.specs.Chronicle.{new_past, past_in, past_after, answers_by, told_by, chronicle}
use Rattle.sd_history.proofs.Among.{Among, passes}
use Rattle.sd_history.proofs.Filters.{filter_in}
use Rattle.sd_history.proofs.Clear.{clear}
use Rattle.sd_history.proofs.Bridges.{answers_by_words}
use Rattle.sd_safety.specs.invariant.Eras.{era, is_new}
use Rattle.sd_safety.specs.invariant.Invariant.{Core, Invariant, AtEach}
use Rattle.sd_safety.specs.invariant.Guarded.{AreGuarded, IsSteady}
use Rattle.sd_safety.specs.invariant.Coming.{IsNextEvent}
use Rattle.sd_safety.proofs.invariant.Orders.{orderly}
use Rattle.sd_safety.proofs.invariant.Prefix.{clean_before}
use Rattle.sd_safety.specs.timers.Times.{Fits, gives_duty, makes_device}
use Rattle.sd_history.proofs.Known.{admitted_up_is_known}
use Rattle.sd_history.proofs.Given.{some_is}
use Rattle.sd_history.proofs.Shared.{among_below}
use Rattle.sd_safety.proofs.timers.Histories.{timed}
use Rattle.sd_safety.proofs.waits.LeastWaits.{timely_of}
use Rattle.sd_safety.proofs.invariant.Empty.{core_before}
use Rattle.sd_safety.proofs.timers.Transitions.{Cases, by_case}

-- the duty was given by this call, or before it
abbrev GivenBy : Past → Duty → Call → Past → Type 0
GivenBy past u call next = (call ≡ calls.Give u) ⊎ ((given_now past ≡ Some u) × (epoch_now next ≡ epoch_now past))

given_cases : (past : Past) (u : Duty)
    → Cases past (λ call transition. given_now (added past call transition) ≡ Some u → GivenBy past u call (added past call transition))
given_cases past u =
    record {
      emitted = λ c e is. inr (is, refl);
      took = λ c e t is. inr (is, refl);
      moved = λ c e t m is. inr (is, refl);
      still = λ c e t m is. inr (is, refl);
      entered = λ link message c duty edge is. cc;
      accepted = λ link message c edge is. inr (is, refl);
      committed = λ c duty a is. cc;
      recommitted = λ c duty a is. cc;
      nothing = λ call n is. by call is;
    }
  where
    by : (call : Call) → given_now (added past call calls.Nothing) ≡ Some u → GivenBy past u call (added past call calls.Nothing)
    by (calls.Tick c) is = inr (is, refl)
    by (calls.Receive link message c) is = inr (is, refl)
    by (calls.Fix c clock eps) is = inr (is, refl)
    by (calls.Give duty) is = inl (ap (λ v. calls.Give v) (some_is is))
    by (calls.Commit c) is = inr (is, refl)
    by calls.Seal is = inr (is, refl)

pub given_by : (past : Past) (call : Call) (u : Duty) → given_now (after past call) ≡ Some u → GivenBy past u call (after past call)
given_by past call u is =
    by_case past (λ c transition. given_now (added past c transition) ≡ Some u → GivenBy past u c (added past c transition)) (given_cases past u) call is

-- an act that gives a duty is that of a give
module _ (setting : Setting) (steps : List Step) where
  by_staged : (d m n : ℕ) (u : Duty) (o : Option Plan) → map_or o Passes (λ plan. Calls d (calls.Give (duty_of setting.net plan n d))) ≡ Calls m (calls.Give u)
      → (u.epoch ≡ n) × (Some d ≡ Some m)
  by_staged d m n u None same = cc
  by_staged d m n u (Some plan) same = (sym (ap (λ act. map_or (gives_duty act) 0 (λ (v : Duty). v.epoch)) same), ap (λ act. changed act) same)

  by_flight : (d m c : ℕ) (u : Duty) (o : Option Flight) → map_or o Passes (λ f. Calls d (calls.Receive f.link f.message c)) ≡ Calls m (calls.Give u) → ⊥
  by_flight d m c u None same = cc
  by_flight d m c u (Some f) same = cc

  pub gives_staged : (e : Event) (m : ℕ) (u : Duty) → act_by setting steps e ≡ Calls m (calls.Give u)
      → (u.epoch ≡ staged_epoch (seen_of steps)) × (given e ≡ Some m)
  gives_staged (event.Give r d) m u same = by_staged d m (staged_epoch (seen_of steps)) u (staged setting (seen_of steps)) same
  gives_staged (event.Recv r d c n) m u same = absurd (by_flight d m c u (flight_numbered steps n) same)
  gives_staged _ m u same = cc

-- what is known of it
pub record IsAhead (setting : Setting) (steps : List Step) (x : ℕ) (p : Past) (u : Duty) : Type 0 where
  pub number : u.epoch ≡ era steps + 1
  pub member : is_staged_member setting (seen_of steps) x ≡ true
  pub other : epoch_now p ≡ era steps + 1 → ⊥

abbrev pub AreAhead : Setting → List Step → Type 0
AreAhead setting steps = (x : ℕ) (p : Past) → is_up (seen_of steps) x ≡ true → past_in steps x ≡ Some p → (u : Duty) → given_now p ≡ Some u
    → IsAhead setting steps x p u

pub up_since : (m f : Bool) (before : Bool) → m ≡ false → map_or (if m then Some true else if f then Some false else None) before (λ y. y) ≡ true
    → before ≡ true
up_since true f before none up = cc
up_since false true before none up = cc
up_since false false before none up = up

staged_on : (s : Seen) (x : ℕ) (plan : Plan) (g : Bool) (w : Option (List Seen)) → (g && is_some w) ≡ false
    → map_or (option_map (λ (v : List Seen). plan) w) false (λ q. is_member q x) ≡ true
    → map_or (option_map (λ (v : List Seen). plan) (if g then Some [] else option_map (λ v. s ∷ v) w)) false (λ q. is_member q x) ≡ true
staged_on s x plan true None none m = cc
staged_on s x plan true (Some v) none m = cc
staged_on s x plan false None none m = cc
staged_on s x plan false (Some v) none m = m

given_member : (a c : Bool) (o : Option ℕ) (m : ℕ) (test : ℕ → Bool) → o ≡ Some m → (a || map_or o false (λ d. not (test d)) || c) ≡ false → test m ≡ true
given_member a c None m test is none = cc
given_member a c (Some d) m test is none =
    subst (λ n. test n ≡ true) (some_is is) (not-false (test d) (or_parts a (not (test d)) (or_parts (a || not (test d)) c none).0).1)

before_commit : (o : Option ℕ) (m : ℕ) (j n k opened commit : Bool) → o ≡ Some m → ((is_some o || j || n || k) && (not opened || commit)) ≡ false
    → commit ≡ false
before_commit None m j n k opened commit is h = cc
before_commit (Some d) m true true true true true is h = cc
before_commit (Some d) m true true true false true is h = cc
before_commit (Some d) m true true false true true is h = cc
before_commit (Some d) m true true false false true is h = cc
before_commit (Some d) m true false true true true is h = cc
before_commit (Some d) m true false true false true is h = cc
before_commit (Some d) m true false false true true is h = cc
before_commit (Some d) m true false false false true is h = cc
before_commit (Some d) m false true true true true is h = cc
before_commit (Some d) m false true true false true is h = cc
before_commit (Some d) m false true false true true is h = cc
before_commit (Some d) m false true false false true is h = cc
before_commit (Some d) m false false true true true is h = cc
before_commit (Some d) m false false true false true is h = cc
before_commit (Some d) m false false false true true is h = cc
before_commit (Some d) m false false false false true is h = cc
before_commit (Some d) m j n k opened false is h = refl

not_new_then : (a b : Bool) → (not (not a) || not b) ≡ true → a ≡ false → b ≡ false
not_new_then true b h is = cc
not_new_then false true h is = cc
not_new_then false false h is = refl

module _ (setting : Setting) (e : Event) (history : List Event) (comes : IsNextEvent setting history e) (was : AreAhead setting (chronicle setting history)) where
  abbrev steps : List Step
  steps = chronicle setting history

  abbrev begun : Step
  begun = first_step setting (chronicle setting history) e (told_by (chronicle setting history) (act_by setting (chronicle setting history) e))

  abbrev step_with : Option ℕ → Bool → Step
  step_with a b =
      record {
        seen = record { event = begun.seen.event; taken = begun.seen.taken; sent = begun.seen.sent; acted = begun.seen.acted; activated = a; closed = b };
        act = begun.act;
        told = begun.told;
        sent = begun.sent;
      }

  fits : Fits e (act_by setting (chronicle setting history) e)
  fits = (timed setting (e ∷ history) (timely_of setting (e ∷ history) comes.fair comes.clean)).1.fits

  core_then : Core setting (chronicle setting history)
  core_then = core_before setting history e comes

  up_then : (x : ℕ) → makes_device (act_by setting (chronicle setting history) e) x ≡ false → is_up (seen_of (chronicle setting (e ∷ history))) x ≡ true
      → is_up (seen_of steps) x ≡ true
  up_then x none up = up_since (makes x e) (fails (thing.Device x) e) (is_up (seen_of steps) x) (fits.makes_it x ∙ none) up

  no_second_stage : (is_stage e && window_is_open (seen_of steps)) ≡ false
  no_second_stage =
      let order : window_order setting steps e ≡ false =
      (clear setting steps e comes.clean.is.1).in_window in
      let outside : window_order_seen setting (seen_of steps) e ≡ false =
      (or_parts (window_order_seen setting (seen_of steps) e) (window_order_within steps e) order).0 in
      (or_parts (is_stage e && window_is_open (seen_of steps)) _
      (or_parts _ _ (or_parts _ (is_seal e && (not (window_is_open (seen_of steps)) || not (has_commit (seen_of steps)))) outside).0).0).0

  stays_staged : (a : Option ℕ) (x : ℕ) → is_staged_member setting (seen_of steps) x ≡ true
      → is_staged_member setting (seen_of (step_with a false ∷ steps)) x ≡ true
  stays_staged a x is =
      staged_on (step_with a false).seen x (plan_numbered setting (staged_epoch (seen_of steps))) (is_stage e) (window (seen_of steps)) no_second_stage is

  carry : (a : Option ℕ) (x : ℕ) (q p : Past) (u : Duty) → IsAhead setting steps x q u → epoch_now p ≡ epoch_now q
      → IsAhead setting (step_with a false ∷ steps) x p u
  carry a x q p u ahead same = record { number = ahead.number; member = stays_staged a x ahead.member; other = λ is. ahead.other (sym same ∙ is) }

  -- where no window closes
  ahead_open : (a : Option ℕ) → AreAhead setting (step_with a false ∷ steps)
  ahead_open a x p up there u has = by_act (act_by setting steps e) refl there
    where
      by_give : (m : ℕ) (q : Past) → act_by setting steps e ≡ Calls m (calls.Give u) → nat_eq m x ≡ true → is_up (seen_of steps) x ≡ true
          → past_in steps x ≡ Some q → epoch_now p ≡ epoch_now q → IsAhead setting (step_with a false ∷ steps) x p u
      by_give m q act is live at same =
          let gives = gives_staged setting steps e m u act in
          let to : m ≡ x = eqb-true m x is in
          let of_staged : is_staged_member setting (seen_of steps) m ≡ true =
          given_member (map_or (started e) false (λ d. not (is_member (in_force setting (seen_of steps)) d)))
          (map_or (joined e) false (λ d. not (is_staged_member setting (seen_of steps) d))) (given e) m (is_staged_member setting (seen_of steps)) gives.1
          (clear setting steps e comes.clean.is.1).is_member in
          let early : has_commit (seen_of steps) ≡ false =
          before_commit (given e) m (is_some (joined e)) (is_some (mended e)) (is_commit e) (window_is_open (seen_of steps))
          (has_commit (seen_of steps)) gives.1 (orderly setting e history comes.clean.is).prepares in
          let not_new : is_new steps x ≡ false = not_new_then (has_commit (seen_of steps)) (is_new steps x) (core_then.uncommitted.devices x) early in
          let number_is : epoch_in steps x ≡ Some (epoch_now q) =
          ap (λ (b : Bool). option_map (λ a'. a'.epoch) (if b then answers_in steps x else None)) live
          ∙ ap (λ (o : Option Answers). option_map (λ a'. a'.epoch) o) (answers_by_words setting history x ∙ ap (option_map answers_by) at) in
          record {
            number = gives.0;
            member = stays_staged a x (subst (λ y. is_staged_member setting (seen_of steps) y ≡ true) to of_staged);
            other = λ is. both_ways (is_new steps x) not_new (ap (λ o. same_number o (era steps + 1)) number_is
                ∙ eq-eqb (epoch_now q) (era steps + 1) (sym same ∙ is));
          }

      by_act : (act : Act) → act_by setting steps e ≡ act → past_after act x (past_in steps x) ≡ Some p → IsAhead setting (step_with a false ∷ steps) x p u
      by_act (Makes m making) act h = go (nat_eq m x) refl h
        where
          go : (b : Bool) → nat_eq m x ≡ b → (if b then Some (new_past making) else past_in steps x) ≡ Some p
              → IsAhead setting (step_with a false ∷ steps) x p u
          go true is h' = let none : None ≡ Some u = ap given_now (some_is h') ∙ has in cc
          go false is h' = carry a x p p u (was x p (up_then x (ap (λ y. makes_device y x) act ∙ is) up) h' u has) refl
      by_act (Calls m call) act h = go (nat_eq m x) refl (past_in steps x) refl h
        where
          live : is_up (seen_of steps) x ≡ true
          live = up_then x (ap (λ y. makes_device y x) act) up

          go : (b : Bool) → nat_eq m x ≡ b → (o : Option Past) → past_in steps x ≡ o → (if b then option_map (λ past. after past call) o else o) ≡ Some p
              → IsAhead setting (step_with a false ∷ steps) x p u
          go true is None at h' = cc
          go true is (Some q) at h' =
              elim (given_by q call u (ap given_now (some_is h') ∙ has)) [
                | inl gives ↦ by_give m q (act ∙ ap (Calls m) gives) is live at (ap epoch_now (sym (some_is h')) ∙ ap (λ y. epoch_now (after q y)) gives)
                | inr had ↦ carry a x q p u (was x q live at u had.0) (ap epoch_now (sym (some_is h')) ∙ had.1)
              ]
          go false is o at h' = carry a x p p u (was x p live (at ∙ h') u has) refl
      by_act (Asks m counter) act h = carry a x p p u (was x p (up_then x (ap (λ y. makes_device y x) act) up) h u has) refl
      by_act Passes act h = carry a x p p u (was x p (up_then x (ap (λ y. makes_device y x) act) up) h u has) refl

  -- at a closing nothing is given
  ahead_closed : (a : Option ℕ) → can_close setting (step_with None false ∷ steps) ≡ true → AreAhead setting (step_with a true ∷ steps)
  ahead_closed a closes x p up there u has =
      let now : List Step = step_with None false ∷ chronicle setting history in
      let ahead : IsAhead setting (step_with None false ∷ steps) x p u = ahead_open None x p up there u has in
      absurd (by (staged setting (seen_of (step_with None false ∷ steps))) ahead.member
      (and_parts (has_commit (seen_of (step_with None false ∷ steps))) _ closes).1 ahead.other)
    where
      live : live_answers (step_with None false ∷ steps) x ≡ Some (answers_by p)
      live = ap (λ b. if b then answers_in (step_with None false ∷ steps) x else None) up ∙ answers_by_words setting (e ∷ history) x
          ∙ ap (option_map answers_by) there

      by : (o : Option Plan) → map_or o false (λ plan. is_member plan x) ≡ true
          → map_or o false (λ plan.
          let present = filter (is_up (seen_of (step_with None false ∷ steps))) (members setting.net plan) in
          nat_le 1 (length present) && list_all (has_settled (step_with None false ∷ steps) (staged_epoch (seen_of (step_with None false ∷ steps)))) present)
          ≡ true → (epoch_now p ≡ era steps + 1 → ⊥) → ⊥
      by None m c other = cc
      by (Some plan) m c other =
          let n : ℕ = staged_epoch (seen_of (step_with None false ∷ steps)) in
          let known : x < length setting.net.devices = admitted_up_is_known setting (e ∷ history) comes.clean.is x up in
          let among : Among x (filter (is_up (seen_of (step_with None false ∷ steps))) (members setting.net plan)) =
          filter_in (is_up (seen_of (step_with None false ∷ steps))) x (members setting.net plan)
          (filter_in (is_member plan) x (device_numbers setting.net) (among_below (length setting.net.devices) x known) m) up in
          let settled : has_settled (step_with None false ∷ steps) n x ≡ true =
          passes (has_settled (step_with None false ∷ steps) n) among
          (and_parts (nat_le 1 (length (filter (is_up (seen_of (step_with None false ∷ steps))) (members setting.net plan)))) _ c).1 in
          let both : (nat_eq (epoch_now p) n && is_sealed p) ≡ true =
          sym (ap (λ (o : Option Answers). map_or o false (λ a'. nat_eq a'.epoch n && a'.sealed)) live) ∙ settled in
          other (eqb-true (epoch_now p) n (and_parts (nat_eq (epoch_now p) n) (is_sealed p) both).0)

  pub ahead_next : AreAhead setting (chronicle setting (e ∷ history))
  ahead_next = go (can_close setting (step_with None false ∷ steps)) refl
    where
      go : (b : Bool) → can_close setting (step_with None false ∷ steps) ≡ b
          → AreAhead setting (step_with (activated_by (chronicle setting history) begun) b ∷ steps)
      go true is = ahead_closed (activated_by (chronicle setting history) begun) is
      go false is = ahead_open (activated_by (chronicle setting history) begun)

pub always_ahead : (setting : Setting) (history : List Event) → AreGuarded setting → IsSteady setting history
    → AtEach (Invariant setting) (chronicle setting history) → AreAhead setting (chronicle setting history)
always_ahead setting [] fair clean each = λ x p up there u has. cc
always_ahead setting (e ∷ history) fair clean each =
    ahead_next setting e history (record { fair = fair; clean = clean; before = each.0 })
    (always_ahead setting history fair (clean_before setting e history clean) each.0)
