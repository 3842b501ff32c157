-- The references of Times and the counters of the words belong together: each such pair is a reading of the device's present life, and so keeps
-- the rates with whatever the device reads later. By induction on the steps.
use Rattle.std.specs.Prelude.{◌≡◌, ℕ, Bool, true, false, List, [], ◌∷◌, nat_eq, Option, Some, None, option_map, refl, if◌then◌else◌}
use Rattle.std.proofs.Common.{◌∙◌, ap, subst}
use Rattle.std.proofs.lemmas.Bool.{eqb-true}
use Rattle.sd_num.specs.Lists.{map_or, same_number, find_map_or}
use Rattle.sd_plan.specs.topo.Network.{rates_of}
use Rattle.sd_device.specs.Calls.{Making, Call, CallDone, Past}
use Rattle.sd_device.specs.Words.{after, making_counter, counter_of as counter_of_call}
use Rattle.sd_sched.specs.Events.{reference_of, device_of}
use Rattle.sd_history.specs.World.{Setting}
use Rattle.sd_history.specs.Steps.{Act, Makes, Calls, Asks, Passes, Step, seen_of}
use Rattle.sd_history.specs.Chronicle.{new_past, past_in, past_after}
use Rattle.sd_history.specs.Premises.{readings}
use Rattle.sd_history.proofs.Among.{Among, reading_here, readings_kept}
use Rattle.sd_history.proofs.Given.{some_is}
use Rattle.sd_safety.specs.timers.Times.{Fits, IsTimed, AreTimed, did_by, reference_after, reference_by, makes_device, counter_at}
use Rattle.sd_safety.proofs.timers.Readings.{Keeps, honest_reading}

-- f tells the counters of calls alone
abbrev pub TellsCounters : (CallDone → Option ℕ) → Type 0
TellsCounters f = (x : CallDone) (c : ℕ) → f x ≡ Some c → counter_of_call x.call ≡ Some c

-- the counter of the latest making or call of which f tells something
abbrev pub counter_by : (CallDone → Option ℕ) → Past → ℕ
counter_by f past = find_map_or f past.did (making_counter past.making)

abbrev IsReading : Step → List Step → ℕ → ℕ → ℕ → Type 0
IsReading s earlier d r c = Among {A = ℕ × ℕ} (r, c) (readings (s.seen ∷ seen_of earlier) d)

module _ (f : CallDone → Option ℕ) (tells : TellsCounters f) (s : Step) (earlier : List Step) (d before : ℕ) (fits : Fits s.seen.event s.act) where
  abbrev Before : Option Past → Type 0
  Before p = (old : Past) → p ≡ Some old → Among {A = ℕ × ℕ} (before, counter_by f old) (readings (seen_of earlier) d)

  here : (c : ℕ) → counter_at s.act d ≡ Some c → IsReading s earlier d (reference_of s.seen.event) c
  here c same = reading_here s.seen (seen_of earlier) d c (fits.named d c same) (fits.read d c same)

  kept : (c : ℕ) → makes_device s.act d ≡ false → Among {A = ℕ × ℕ} (before, c) (readings (seen_of earlier) d) → IsReading s earlier d before c
  kept c none a = readings_kept s.seen (seen_of earlier) d (before, c) (fits.makes_it d ∙ none) a

  made : (making : Making) (p : Option Past) (b : Bool) → (b ≡ true → counter_at s.act d ≡ Some (making_counter making))
      → (b ≡ false → makes_device s.act d ≡ false) → Before p
      → (past : Past) → (if b then Some (new_past making) else p) ≡ Some past
      → IsReading s earlier d (if b then reference_of s.seen.event else before) (counter_by f past)
  made making p true own other old past same =
      subst (λ q. IsReading s earlier d (reference_of s.seen.event) (counter_by f q)) (some_is same) (here (making_counter making) (own refl))
  made making p false own other old past same = kept (counter_by f past) (other refl) (old past same)

  told : (call : Call) (q : Past) (o : Option ℕ) → f (did_by q call) ≡ o → counter_at s.act d ≡ counter_of_call call → makes_device s.act d ≡ false
      → Among {A = ℕ × ℕ} (before, counter_by f q) (readings (seen_of earlier) d)
      → IsReading s earlier d (map_or o before (λ c. reference_of s.seen.event)) (map_or o (counter_by f q) (λ c. c))
  told call q None is own none a = kept (counter_by f q) none a
  told call q (Some c) is own none a = here c (own ∙ tells (did_by q call) c is)

  called : (call : Call) (p : Option Past) (b : Bool) → (b ≡ true → counter_at s.act d ≡ counter_of_call call) → makes_device s.act d ≡ false → Before p
      → (past : Past) → (if b then option_map (λ q. after q call) p else p) ≡ Some past
      → IsReading s earlier d (if b then map_or p before (λ q. map_or (f (did_by q call)) before (λ c. reference_of s.seen.event)) else before)
      (counter_by f past)
  called call None true own none old past same = cc
  called call (Some q) true own none old past same =
      subst (λ p. IsReading s earlier d (map_or (f (did_by q call)) before (λ c. reference_of s.seen.event)) (counter_by f p)) (some_is same)
      (told call q (f (did_by q call)) refl (own refl) none (old q refl))
  called call p false own none old past same = kept (counter_by f past) none (old past same)

  by_act : (act : Act) → s.act ≡ act → (p : Option Past) → Before p → (past : Past) → past_after act d p ≡ Some past
      → IsReading s earlier d (reference_after f (reference_of s.seen.event) act d p before) (counter_by f past)
  by_act (Makes m making) is p old past same =
      made making p (nat_eq m d) (λ e. ap (λ a. counter_at a d) is ∙ ap (λ b. if b then Some (making_counter making) else None) e)
      (λ e. ap (λ a. makes_device a d) is ∙ e) old past same
  by_act (Calls m call) is p old past same =
      called call p (nat_eq m d) (λ e. ap (λ a. counter_at a d) is ∙ ap (λ b. if b then counter_of_call call else None) e)
      (ap (λ a. makes_device a d) is) old past same
  by_act (Asks m counter) is p old past same = kept (counter_by f past) (ap (λ a. makes_device a d) is) (old past same)
  by_act Passes is p old past same = kept (counter_by f past) (ap (λ a. makes_device a d) is) (old past same)

-- the pair is a reading of the present life
pub mark_is_reading : (f : CallDone → Option ℕ) → TellsCounters f → (setting : Setting) (steps : List Step) → AreTimed setting steps → (d : ℕ) (past : Past)
    → past_in steps d ≡ Some past
    → Among {A = ℕ × ℕ} (reference_by f steps d, counter_by f past) (readings (seen_of steps) d)
mark_is_reading f tells setting [] timed d past is = cc
mark_is_reading f tells setting (s ∷ earlier) timed d past is =
    by_act f tells s earlier d (reference_by f earlier d) timed.1.fits s.act refl (past_in earlier d)
    (mark_is_reading f tells setting earlier timed.0 d) past is

-- what an act reads keeps the rates with the readings before it
pub act_keeps : (setting : Setting) (s : Step) (earlier : List Step) (d c : ℕ) (x : ℕ × ℕ) → IsTimed setting s earlier → counter_at s.act d ≡ Some c
    → makes_device s.act d ≡ false
    → Among x (readings (seen_of earlier) d) → Keeps (rates_of setting.net d) (reference_of s.seen.event, c) x
act_keeps setting s earlier d c x timed own none a =
    honest_reading setting s.seen (seen_of earlier) d c x timed.honest (named (device_of s.seen.event) (timed.fits.named d c own)) (timed.fits.read d c own)
    (timed.fits.makes_it d ∙ none) a
  where
    named : (o : Option ℕ) → same_number o d ≡ true → o ≡ Some d
    named None same = cc
    named (Some e) same = ap Some (eqb-true e d same)
