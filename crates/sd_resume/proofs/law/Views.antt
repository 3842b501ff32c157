-- What is seen of two histories stays alike as an event comes, and its raised one.
use Rattle.std.specs.Prelude.{◌≡◌, ℕ, ◌+◌, Bool, true, false, ◌||◌, List, [], ◌∷◌, map, nat_eq, count_by, Option, Some, None, option_map, refl, if◌then◌else◌}
use Rattle.std.proofs.Common.{arith, sym, ◌∙◌, ap, cond}
use Rattle.std.proofs.lemmas.List.Sums.{sum_by-cons}
use Rattle.sd_num.specs.Lists.{map_or, same_number}
use Rattle.sd_plan.specs.declared.topo.Thing.{Thing}
use Rattle.sd_plan.specs.declared.topo.Thing.TheVariants as thing
use Rattle.sd_sched.specs.declared.Event.{Event}
use Rattle.sd_sched.specs.declared.Event.TheVariants as event
use Rattle.sd_sched.specs.Events.{is_stage}
use Rattle.sd_history.specs.World.{Seen, makes, fails, is_thing, is_up, up_after, has_failed, failed_after, latest_reading, window, epoch_in_force}
use Rattle.sd_history.specs.Refusals.{after_end}
use Rattle.sd_resume.specs.law.Shifts.{Shift, raised_event, raised_seen}
use Rattle.sd_resume.specs.law.Views.{LooksAlike}
use Rattle.sd_resume.proofs.law.Words.{EventWords, words_of, same_words}

-- the latest answer of a test, where an element comes
abbrev pub told : {A : Type 0} → Option A → A → A
told answer before = map_or answer before (λ x. x)

-- what the device read at an event
abbrev pub reading_by : EventWords → ℕ → Option ℕ
reading_by w d = if same_number w.device d then w.counter else None

abbrev up_by : EventWords → ℕ → Option Bool
up_by w d =
    if same_number w.started d || same_number w.joined d then Some true
    else if is_thing w.failure (thing.Device d) then Some false
    else None

abbrev failed_by : EventWords → Thing → Option Bool
failed_by w x = if is_thing w.failure x then Some true else if is_thing w.mended x then Some false else None

-- a start and a join are readings
pub made_reads : (e : Event) (d : ℕ) → makes d e ≡ true → (c : ℕ) × (reading_by (words_of e) d ≡ Some c)
made_reads (event.Start reference device counter clock eps) d made = go (nat_eq device d) made
  where
    go : (b : Bool) → (b || false) ≡ true → (c : ℕ) × ((if b then Some counter else None) ≡ Some c)
    go true is = (counter, refl)
    go false is = cc
made_reads (event.Join reference device counter clock eps) d made = go (nat_eq device d) made
  where
    go : (b : Bool) → b ≡ true → (c : ℕ) × ((if b then Some counter else None) ≡ Some c)
    go true is = (counter, refl)
    go false is = cc
made_reads _ d made = cc

-- a device that is up was read alike
reads_alike : (shift : Shift) (s : Seen) (one other : List Seen) (d : ℕ)
    → (is_up other d ≡ true → latest_reading one d ≡ latest_reading other d)
    → is_up (s ∷ other) d ≡ true → told (reading_by (words_of s.event) d) (latest_reading one d) ≡ told (reading_by (words_of s.event) d) (latest_reading other d)
reads_alike shift s one other d before up = go (makes d s.event) refl (reading_by (words_of s.event) d) refl up
  where
    was_up : (f was : Bool) → told (if f then Some false else None) was ≡ true → was ≡ true
    was_up true was is = cc
    was_up false was is = is

    go : (m : Bool) → makes d s.event ≡ m → (c : Option ℕ) → reading_by (words_of s.event) d ≡ c
        → told (if m then Some true else if fails (thing.Device d) s.event then Some false else None) (is_up other d) ≡ true
        → told c (latest_reading one d) ≡ told c (latest_reading other d)
    go m made (Some c) reads is = refl
    go true made None reads is =
        let some : (c : ℕ) × (reading_by (words_of s.event) d ≡ Some c) = made_reads s.event d made in
        let both : None ≡ Some some.0 = sym reads ∙ some.1 in
        cc
    go false made None reads is = before (was_up (fails (thing.Device d) s.event) (is_up other d) is)

windows_alike : (shift : Shift) (s : Seen) (closed stage : Bool) (one other : Option (List Seen)) → one ≡ option_map (map (raised_seen shift)) other
    → (if closed then None else if stage then Some [] else option_map (λ w. raised_seen shift s ∷ w) one)
    ≡ option_map (map (raised_seen shift)) (if closed then None else if stage then Some [] else option_map (λ w. s ∷ w) other)
windows_alike shift s true stage one other same = refl
windows_alike shift s false true one other same = refl
windows_alike shift s false false one None same = ap (option_map (λ w. raised_seen shift s ∷ w)) same
windows_alike shift s false false one (Some w) same = ap (option_map (λ w. raised_seen shift s ∷ w)) same

epoch_step : (s : Seen) (seen : List Seen) → epoch_in_force (s ∷ seen) ≡ cond s.closed 1 0 + epoch_in_force seen
epoch_step s seen =
    ap (λ n. n + 1) (sum_by-cons (λ (x : Seen). cond x.closed 1 0) s seen)
    ∙ regroup (cond s.closed 1 0) (count_by (λ (x : Seen). x.closed) seen)
  where
    regroup : (a b : ℕ) → a + b + 1 ≡ a + (b + 1)
    regroup a b = omega arith

pub looks_alike_after : (shift : Shift) (s : Seen) (one other : List Seen) → LooksAlike shift one other
    → LooksAlike shift (raised_seen shift s ∷ one) (s ∷ other)
looks_alike_after shift s one other h =
    record {
      up = λ d. ap (λ w. told (up_by w d) (is_up one d)) words ∙ ap (told (up_after d s.event)) (h.up d);
      failed = λ x. ap (λ w. told (failed_by w x) (has_failed one x)) words ∙ ap (told (failed_after x s.event)) (h.failed x);
      time = ap (λ w. w.reference) words;
      reading = λ d up. ap (λ w. told (reading_by w d) (latest_reading one d)) words ∙ reads_alike shift s one other d (h.reading d) up;
      window =
          ap (λ w. if s.closed then None else if w.is_stage then Some [] else option_map (λ x. raised_seen shift s ∷ x) (window one)) words
          ∙ windows_alike shift s s.closed (is_stage s.event) (window one) (window other) h.window;
      epoch =
          epoch_step (raised_seen shift s) one ∙ ap (λ n. cond s.closed 1 0 + n) h.epoch
          ∙ regroup (cond s.closed 1 0) (epoch_in_force other) shift.plans
          ∙ ap (λ n. n + shift.plans) (sym (epoch_step s other));
      ended = ap (λ w. w.is_end || after_end one) words ∙ ap (λ b. (words_of s.event).is_end || b) h.ended;
    }
  where
    words : words_of (raised_event shift s.event) ≡ words_of s.event
    words = same_words shift s.event

    regroup : (a b c : ℕ) → a + (b + c) ≡ a + b + c
    regroup a b c = omega arith
