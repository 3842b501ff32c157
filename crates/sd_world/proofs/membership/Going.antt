-- A membership goes on standing for the steps: with an event after which its window stays open, and with the closing of the window.
use Rattle.std.specs.Prelude.{◌≡◌, ℕ, ◌<◌, Bool, true, false, List, ◌∷◌, length, nat_eq, Option, Some, None, option_map, IfSome, IfNone, IsSome, refl, if◌then◌else◌}
use Rattle.std.proofs.Common.{sym, ◌∙◌, ap, subst}
use Rattle.std.proofs.lemmas.Bool.{eqb-true}
use Rattle.sd_num.specs.Lists.{map_or, at_place, same_number}
use Rattle.sd_num.proofs.Places.{at_written}
use Rattle.sd_sched.specs.Events.{device_of, is_stage}
use Rattle.sd_history.specs.World.{Setting}
use Rattle.sd_history.specs.Steps.{Answers, Step, seen_of, changed, answers_in}
use Rattle.sd_world.specs.world.Registers.{is_open}
use Rattle.sd_world.proofs.world.Keeping as world
use Rattle.sd_world.specs.declared.membership.AnswerSummary.{AnswerSummary}
use Rattle.sd_world.specs.membership.Memberships.{Registers, answers_after, registers_after, registers_closed}
use Rattle.sd_world.specs.membership.Standing.{Stands, IsTold, summary}
use Rattle.sd_world.proofs.membership.Observing.{length_answers, other_answers, sound_after, sound_closed}

-- the step, where the window closes with it
abbrev pub closing : Step → Step
closing s = record s { seen = record s.seen { closed = true } }

-- What devices answer

-- nothing is told
untold : (device : Option ℕ) (answers : List (Option AnswerSummary)) → answers_after device None answers ≡ answers
untold None answers = refl
untold (Some c) answers = refl

module _ (answers : List (Option AnswerSummary)) (before : Option Answers) (d : ℕ) (within : d < length answers)
    (same : at_place answers d None (λ (a : Option AnswerSummary). a) ≡ option_map summary before) where
  -- the device answers what it is told to, and another as before
  told_alike : (c : ℕ) (a : Answers) (b : Bool) → nat_eq c d ≡ b
      → at_place (answers_after (Some c) (Some (summary a)) answers) d None (λ (x : Option AnswerSummary). x)
      ≡ option_map summary (map_or (if b then Some (Some a) else None) before (λ told. told))
  told_alike c a true here =
      let equal : c ≡ d = eqb-true c d here in
      ap (λ (k : ℕ). at_place (answers_after (Some k) (Some (summary a)) answers) d None (λ (x : Option AnswerSummary). x)) equal
      ∙ ap (λ o. map_or o None (λ (x : Option AnswerSummary). x)) (at_written answers d (Some (summary a)) within)
  told_alike c a false apart = other_answers (Some c) (Some (summary a)) answers d apart ∙ same

  answered_alike : (c : ℕ) (o : Option Answers) → IsSome o
      → at_place (answers_after (Some c) (option_map summary o) answers) d None (λ (x : Option AnswerSummary). x)
      ≡ option_map summary (map_or (if nat_eq c d then Some o else None) before (λ told. told))
  answered_alike c None there = cc
  answered_alike c (Some a) there = told_alike c a (nat_eq c d) refl

  answers_alike : (device act : Option ℕ) (told : Option AnswerSummary) (o : Option Answers) → IfSome act (λ c. device ≡ Some c) → IfSome act (λ c. IsSome o)
      → IfSome act (λ c. told ≡ option_map summary o) → IfNone act (told ≡ None)
      → at_place (answers_after device told answers) d None (λ (x : Option AnswerSummary). x)
      ≡ option_map summary (map_or (if same_number act d then Some o else None) before (λ t. t))
  answers_alike device None told o named there says others =
      ap (λ t. at_place (answers_after device t answers) d None (λ (x : Option AnswerSummary). x)) others
      ∙ ap (λ all. at_place all d None (λ (x : Option AnswerSummary). x)) (untold device answers)
      ∙ same
  answers_alike device (Some c) told o named there says others =
      ap (λ x. at_place (answers_after x told answers) d None (λ (y : Option AnswerSummary). y)) named
      ∙ ap (λ t. at_place (answers_after (Some c) t answers) d None (λ (y : Option AnswerSummary). y)) says
      ∙ answered_alike c o there

-- Standing

pub stands_observed : (r : Registers) (setting : Setting) (steps : List Step) (s : Step) (told : Option AnswerSummary)
    → (is_stage s.seen.event ≡ true → r.world.epoch < length r.plans) → s.seen.closed ≡ false → IsTold s told
    → Stands r setting steps → Stands (registers_after r s.seen.event told) setting (s ∷ steps)
stands_observed r setting steps s told stage stays is stands =
    record {
      sound = sound_after r s.seen.event told stands.sound stage;
      sound_plans = stands.sound_plans;
      device_count = length_answers (device_of s.seen.event) told r.answers ∙ stands.device_count;
      plans = stands.plans;
      world = world.stands_after r.world setting (seen_of steps) s.seen stays stands.world;
      answers =
          λ d within.
          answers_alike r.answers (answers_in steps d) d (subst (λ (n : ℕ). d < n) (sym stands.device_count) within) (stands.answers d within)
          (device_of s.seen.event) (changed s.act) told s.told.answers is.changed_named is.changed_answers is.changed_told is.others;
    }

pub stands_shut : (r : Registers) (setting : Setting) (steps : List Step) (s : Step) → is_open r.world.window ≡ true → s.seen.closed ≡ false
    → Stands r setting (s ∷ steps) → Stands (registers_closed r) setting (closing s ∷ steps)
stands_shut r setting steps s open_ stays stands =
    record {
      sound = sound_closed r stands.sound open_;
      sound_plans = stands.sound_plans;
      device_count = stands.device_count;
      plans = stands.plans;
      world = world.stands_closed r.world setting (seen_of steps) s.seen stays stands.world;
      answers = stands.answers;
    }
