-- What stays true of a membership when an event is observed or the window closes.
use Rattle.std.specs.Prelude.{◌≡◌, ◌≢◌, ℕ, zero, suc, ◌+◌, ◌<◌, ◌≤◌, Bool, true, false, ◌&&◌, List, [], ◌∷◌, length, count_by, cond, nat_eq, Option, Some, None, IfSome, refl, if◌then◌else◌}
use Rattle.std.proofs.Common.{ap, ◌∙◌, sym, subst, arith, set}
use Rattle.std.proofs.lemmas.Bool.{ne_eqb, eqb-false}
use Rattle.std.proofs.lemmas.List.{length-set}
use Rattle.sd_num.specs.Lists.{below, map_or, at_place, same_number}
use Rattle.sd_num.proofs.Places.{at_unwritten}
use Rattle.sd_num.proofs.Shared.{and_false}
use Rattle.sd_sched.specs.declared.Event.{Event}
use Rattle.sd_sched.specs.Events.{device_of, is_stage, is_commit}
use Rattle.sd_world.specs.world.Registers as world
use Rattle.sd_world.specs.world.Registers.{up_at, is_open, window_after, HasNamed}
use Rattle.sd_world.specs.declared.world.window.Window.{Window}
use Rattle.sd_world.specs.declared.world.window.Window.TheVariants.{Closed, Preparing, Committed}
use Rattle.sd_world.proofs.world.Slots.{length_devices, slot_other}
use Rattle.sd_world.specs.declared.membership.AnswerSummary.{AnswerSummary}
use Rattle.sd_world.specs.declared.membership.settled_count.SettledCount.{SettledCount}
use Rattle.sd_world.specs.membership.Plans.{is_member_numbered}
use Rattle.sd_world.specs.membership.Memberships.{Registers, IsSound, staged_number, live_at, has_settled_at, is_present, is_in_staged, answers_after, registers_after, registers_resting, registers_closed}
use Rattle.sd_world.specs.membership.Counts.{none_counted, add_counts, is_settled, count_at, count_named, settled_count_of}
use Rattle.sd_world.proofs.membership.Counting.{count_same, count_but_one, count_none}
use Rattle.sd_world.proofs.membership.Totals.{same_settled_count}

-- The answers

pub length_answers : (device : Option ℕ) (told : Option AnswerSummary) (answers : List (Option AnswerSummary))
    → length (answers_after device told answers) ≡ length answers
length_answers None told answers = refl
length_answers (Some d) None answers = refl
length_answers (Some d) (Some a) answers = length-set answers d (Some a)

-- a device that answers as before
same_written : (answers : List (Option AnswerSummary)) (d : ℕ) (a : AnswerSummary) → at_place answers d None (λ x. x) ≡ Some a
    → set answers d (Some a) ≡ answers
same_written [] d a at = refl
same_written (o ∷ answers) zero a at = ap (λ x. x ∷ answers) (sym at)
same_written (o ∷ answers) (suc d) a at = ap (λ xs. o ∷ xs) (same_written answers d a at)

pub same_answers : (r : Registers) (e : Event) (d : ℕ) (a : AnswerSummary) → device_of e ≡ Some d → at_place r.answers d None (λ x. x) ≡ Some a
    → registers_resting r e ≡ registers_after r e (Some a)
same_answers r e d a named at =
    sym (ap (λ o. record { plans = r.plans; world = world.registers_after r.world e; answers = answers_after o (Some a) r.answers }) named
    ∙ ap (λ answers. record { plans = r.plans; world = world.registers_after r.world e; answers = answers }) (same_written r.answers d a at))

-- another device answers as before
pub other_answers : (device : Option ℕ) (told : Option AnswerSummary) (answers : List (Option AnswerSummary)) (x : ℕ) → same_number device x ≡ false
    → at_place (answers_after device told answers) x None (λ a. a) ≡ at_place answers x None (λ a. a)
other_answers None told answers x other = refl
other_answers (Some d) None answers x other = refl
other_answers (Some d) (Some a) answers x other =
    ap (λ (o : Option (Option AnswerSummary)). map_or o None (λ y. y)) (at_unwritten answers d x (Some a) (λ same. apart d x other same))
  where
    apart : (d x : ℕ) → nat_eq d x ≡ false → x ≡ d → ⊥
    apart d x other same = eqb-false d x other (sym same)

-- The window

-- an event other than a stage leaves the window open or closed
pub stays_open : (e : Event) (w : Window) → is_stage e ≡ false → is_open (window_after e w) ≡ is_open w
stays_open e w other = rw other (by (is_commit e) w)
  where
    by : (commit : Bool) (w : Window) → is_open (if commit && is_open w then Committed else w) ≡ is_open w
    by true Closed = refl
    by true Preparing = refl
    by true Committed = refl
    by false w = refl

-- What is sound stays so

opened : (e : Event) (w : Window) → is_open (window_after e w) ≡ true → (is_stage e ≡ false → is_open w ≡ true)
opened e w open_ other = sym (stays_open e w other) ∙ open_

by_stage : {P : Type 0} (b : Bool) → (b ≡ true → P) → (b ≡ false → P) → P
by_stage true on off = on refl
by_stage false on off = off refl

pub sound_after : (r : Registers) (e : Event) (told : Option AnswerSummary) → IsSound r → (is_stage e ≡ true → r.world.epoch < length r.plans)
    → IsSound (registers_after r e told)
sound_after r e told sound next =
    let size : length (answers_after (device_of e) told r.answers) ≡ length r.answers = length_answers (device_of e) told r.answers in
    record {
      numbers = sound.numbers;
      few = subst (λ (n : ℕ). n ≤ 4096) (sym size) sound.few;
      devices = length_devices e r.world.windows r.world.devices ∙ sound.devices ∙ sym size;
      places = λ epoch number. sound.places epoch number ∙ sym size;
      in_force = sound.in_force;
      staged =
          λ open_.
          by_stage (is_stage e)
          (λ stage. record { first = omega arith; last = (let within = next stage in omega arith) })
          (λ other. sound.staged (opened e r.world.window open_ other));
    }

pub sound_closed : (r : Registers) → IsSound r → is_open r.world.window ≡ true → IsSound (registers_closed r)
sound_closed r sound open_ =
    record { numbers = sound.numbers; few = sound.few; devices = sound.devices; places = sound.places; in_force = sound.staged open_; staged = λ shut. cc }

-- The settled count

-- nobody is counted where no plan is staged
pub settled_count_shut : (r : Registers) → is_open r.world.window ≡ false → settled_count_of r ≡ none_counted
settled_count_shut r shut =
    same_settled_count (settled_count_of r) none_counted (count_none (is_present r) (length r.answers) absent)
    (count_none (is_settled r) (length r.answers) (λ x. ap (λ (b : Bool). b && has_settled_at r x) (absent x)))
  where
    absent : (x : ℕ) → is_present r x ≡ false
    absent x = ap (λ (b : Bool). up_at r.world x && (b && is_member_numbered r.plans (staged_number r) x)) shut ∙ and_false (up_at r.world x)

-- a device that an event other than a stage does not name counts as before
pub same_live : (r : Registers) (e : Event) (told : Option AnswerSummary) (x : ℕ) → same_number (device_of e) x ≡ false
    → live_at (registers_after r e told) x ≡ live_at r x
same_live r e told x other =
    let up : up_at (registers_after r e told).world x ≡ up_at r.world x = ap (λ s. s.up) (slot_other e r.world.windows r.world.devices x other) in
    ap (λ (b : Bool). if b then at_place (answers_after (device_of e) told r.answers) x None (λ a. a) else None) up
    ∙ ap (λ (a : Option AnswerSummary). if up_at r.world x then a else None) (other_answers (device_of e) told r.answers x other)

pub same_present : (r : Registers) (e : Event) (told : Option AnswerSummary) (x : ℕ) → is_stage e ≡ false → same_number (device_of e) x ≡ false
    → is_present (registers_after r e told) x ≡ is_present r x
same_present r e told x stage other =
    let up : up_at (registers_after r e told).world x ≡ up_at r.world x = ap (λ s. s.up) (slot_other e r.world.windows r.world.devices x other) in
    ap (λ (b : Bool). b && is_in_staged (registers_after r e told) x) up
    ∙ ap (λ (b : Bool). up_at r.world x && (b && is_member_numbered r.plans (staged_number r) x)) (stays_open e r.world.window stage)

pub same_settled : (r : Registers) (e : Event) (told : Option AnswerSummary) (x : ℕ) → is_stage e ≡ false → same_number (device_of e) x ≡ false
    → is_settled (registers_after r e told) x ≡ is_settled r x
same_settled r e told x stage other =
    ap (λ (b : Bool). b && has_settled_at (registers_after r e told) x) (same_present r e told x stage other)
    ∙ ap (λ (a : Option AnswerSummary). is_present r x && map_or a false (λ y. nat_eq y.epoch (staged_number r) && y.sealed)) (same_live r e told x other)

cancel : (o c n c' n' : ℕ) → o + n ≡ c → c' + n ≡ c + n' → o + n' ≡ c'
cancel o c n c' n' whole changes = omega arith

-- the others and the named device make the settled count after an event other than a stage
pub recounted : (r : Registers) (e : Event) (told : Option AnswerSummary) (others : SettledCount) → is_stage e ≡ false
    → IfSome (device_of e) (λ d. d < length r.answers)
    → add_counts others (count_named r (device_of e)) ≡ settled_count_of r
    → add_counts others (count_named (registers_after r e told) (device_of e)) ≡ settled_count_of (registers_after r e told)
recounted r e told others stage within whole =
    subst (λ (n : ℕ). add_counts others (count_named r' (device_of e))
    ≡ record { present = count_by (is_present r') (below n); settled = count_by (is_settled r') (below n) })
    (sym (length_answers (device_of e) told r.answers))
    (by (device_of e) within whole (λ x other. same_present r e told x stage other) (λ x other. same_settled r e told x stage other))
  where
    r' : Registers
    r' = registers_after r e told

    by : (o : Option ℕ) → IfSome o (λ d. d < length r.answers) → add_counts others (count_named r o) ≡ settled_count_of r
        → ((x : ℕ) → same_number o x ≡ false → is_present r' x ≡ is_present r x) → ((x : ℕ) → same_number o x ≡ false → is_settled r' x ≡ is_settled r x)
        → add_counts others (count_named r' o) ≡ record {
          present = count_by (is_present r') (below (length r.answers));
          settled = count_by (is_settled r') (below (length r.answers));
        }
    by None within' whole' present settled =
        whole'
        ∙ same_settled_count (settled_count_of r)
        (record { present = count_by (is_present r') (below (length r.answers)); settled = count_by (is_settled r') (below (length r.answers)) })
        (sym (count_same (is_present r) (is_present r') (length r.answers) (λ x inside. present x refl)))
        (sym (count_same (is_settled r) (is_settled r') (length r.answers) (λ x inside. settled x refl)))
    by (Some d) within' whole' present settled =
        let other : (x : ℕ) → x ≢ d → same_number (Some d) x ≡ false = λ x apart. ne_eqb d x (λ same. apart (sym same)) in
        same_settled_count (add_counts others (count_at r' d))
        (record { present = count_by (is_present r') (below (length r.answers)); settled = count_by (is_settled r') (below (length r.answers)) })
        (cancel others.present (count_by (is_present r) (below (length r.answers))) (cond (is_present r d) 1 0)
        (count_by (is_present r') (below (length r.answers))) (cond (is_present r' d) 1 0) (ap (λ (c : SettledCount). c.present) whole')
        (count_but_one (is_present r) (is_present r') (length r.answers) d within' (λ x inside apart. present x (other x apart))))
        (cancel others.settled (count_by (is_settled r) (below (length r.answers))) (cond (is_settled r d) 1 0)
        (count_by (is_settled r') (below (length r.answers))) (cond (is_settled r' d) 1 0) (ap (λ (c : SettledCount). c.settled) whole')
        (count_but_one (is_settled r) (is_settled r') (length r.answers) d within' (λ x inside apart. settled x (other x apart))))

-- the settled count after an event, made of that of the others
pub counted_after : (r : Registers) (e : Event) (told : Option AnswerSummary) (others settled_count : SettledCount)
    → IfSome (device_of e) (λ d. d < length r.answers) → add_counts others (count_named r (device_of e)) ≡ settled_count_of r
    → settled_count ≡ (if is_stage e then settled_count_of (registers_after r e told) else add_counts others (count_named (registers_after r e told) (device_of e)))
    → settled_count ≡ settled_count_of (registers_after r e told)
counted_after r e told others settled_count within whole counted =
    by_stage (is_stage e)
    (λ stage. counted
    ∙ ap (λ (b : Bool). if b then settled_count_of (registers_after r e told) else add_counts others (count_named (registers_after r e told) (device_of e)))
    stage)
    (λ other.
    counted ∙ ap (λ (b : Bool). if b then settled_count_of (registers_after r e told) else add_counts others (count_named (registers_after r e told) (device_of e)))
    other
    ∙ recounted r e told others other within whole)

abbrev pub registers_of : Registers → world.Registers → List (Option AnswerSummary) → Registers
registers_of r w answers = record { plans = r.plans; world = w; answers = answers }

-- a membership that observed an event is as it has to be
pub membership_after : (old r new : Registers) (e : Event) (told : Option AnswerSummary) (others settled_count : SettledCount) → r ≡ old → HasNamed old.world e
    → (is_stage e ≡ true → old.world.epoch < length old.plans)
    → IsSound r → add_counts others (count_named r (device_of e)) ≡ settled_count_of r → new ≡ registers_after r e told
    → settled_count ≡ (if is_stage e then settled_count_of new else add_counts others (count_named new (device_of e)))
    → IsSound new × (settled_count ≡ settled_count_of new)
membership_after old r new e told others settled_count view named next sound whole after counted =
    let within : IfSome (device_of e) (λ d. d < length r.answers) =
    subst (λ (n : ℕ). IfSome (device_of e) (λ d. d < n)) sound.devices
    (subst (λ (x : Registers). IfSome (device_of e) (λ d. d < length x.world.devices)) (sym view) named.device)
    in
    let has_next : is_stage e ≡ true → r.world.epoch < length r.plans =
    subst (λ (x : Registers). is_stage e ≡ true → x.world.epoch < length x.plans) (sym view) next in (
      subst IsSound (sym after) (sound_after r e told sound has_next),
      subst (λ (x : Registers). settled_count ≡ settled_count_of x) (sym after)
          (counted_after r e told others settled_count within whole
          (subst (λ (x : Registers). settled_count ≡ (if is_stage e then settled_count_of x else add_counts others (count_named x (device_of e)))) after
          counted)),
    )

-- what an event makes of it, part by part
pub registers_are : (r : Registers) (e : Event) (told : Option AnswerSummary) (w : world.Registers) (answers : List (Option AnswerSummary))
    → w ≡ world.registers_after r.world e → answers ≡ answers_after (device_of e) told r.answers
    → registers_of r w answers ≡ registers_after r e told
registers_are r e told w answers seen noted =
    ap (λ (x : world.Registers). registers_of r x answers) seen
    ∙ ap (λ (xs : List (Option AnswerSummary)). registers_of r (world.registers_after r.world e) xs) noted

-- so is one whose window closed
pub membership_closed : (old r new : Registers) (settled_count : SettledCount) → r ≡ old → is_open old.world.window ≡ true → IsSound r
    → new ≡ registers_closed r → settled_count ≡ none_counted → IsSound new × (settled_count ≡ settled_count_of new)
membership_closed old r new settled_count view open_ sound after counted = (
  subst IsSound (sym after) (sound_closed r sound (subst (λ (x : Registers). is_open x.world.window ≡ true) (sym view) open_)),
  subst (λ (x : Registers). settled_count ≡ settled_count_of x) (sym after) (counted ∙ sym (settled_count_shut (registers_closed r) refl)),
)
