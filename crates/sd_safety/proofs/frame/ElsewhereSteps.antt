-- What a step that is elsewhere leaves alone of a device: its answers, its past, whether it is up, how it stands, and when it heard, moved and sent.
-- By the word's own clauses, with no premise.
use Rattle.std.specs.Prelude.{◌≡◌, ℕ, Bool, true, false, ◌||◌, List, ◌∷◌, Option, Some, None, option_map, option_and_then, refl, if◌then◌else◌}
use Rattle.std.proofs.Common.{◌∙◌, ap}
use Rattle.sd_num.specs.Lists.{map_or, same_number}
use Rattle.sd_plan.specs.declared.topo.Thing.TheVariants as thing
use Rattle.sd_device.specs.Calls.{CallDone, Past}
use Rattle.sd_device.specs.Words.{after, transition_of, has_moved}
use Rattle.sd_sched.specs.Events.{reference_of}
use Rattle.sd_history.specs.World.{fails, is_up}
use Rattle.sd_history.specs.Steps.{Act, Makes, Calls, Asks, Passes, Answers, Step, seen_of, changed, answers_in, live_answers, parent_in, acts_in, epoch_in, given_in}
use Rattle.sd_history.specs.Chronicle.{past_in, past_after, new_past}
use Rattle.sd_safety.specs.invariant.Eras.{live_past, moved, did_by, does, latest_such, hears, heard_at}
use Rattle.sd_safety.specs.frame.Frames.{IsElsewhere}

past_elsewhere : (act : Act) (d : ℕ) (p : Option Past) → same_number (changed act) d ≡ false → past_after act d p ≡ p
past_elsewhere (Makes e making) d p other = ap (λ b. if b then Some (new_past making) else p) other
past_elsewhere (Calls e call) d p other = ap (λ b. if b then option_map (λ past. after past call) p else p) other
past_elsewhere (Asks e counter) d p other = refl
past_elsewhere Passes d p other = refl

did_elsewhere : (earlier : List Step) (act : Act) (d : ℕ) → same_number (changed act) d ≡ false → did_by earlier act d ≡ None
did_elsewhere earlier (Calls e call) d other =
    ap (λ b. if b then option_map (λ past. record { call = call; transition = transition_of past call }) (past_in earlier d) else None) other
did_elsewhere earlier _ d other = refl

module _ (earlier : List Step) (s : Step) (d : ℕ) (alone : IsElsewhere s d) where
  pub up_alone : is_up (seen_of (s ∷ earlier)) d ≡ is_up (seen_of earlier) d
  up_alone =
      ap (λ b. map_or (if b then Some true else if fails (thing.Device d) s.seen.event then Some false else None) (is_up (seen_of earlier) d) (λ told. told))
      alone.unmade
      ∙ ap (λ b. map_or (if b then Some false else None) (is_up (seen_of earlier) d) (λ told. told)) alone.unfailed

  pub answers_alone : answers_in (s ∷ earlier) d ≡ answers_in earlier d
  answers_alone = ap (λ b. map_or (if b then Some s.told.answers else None) (answers_in earlier d) (λ told. told)) alone.changes

  pub live_alone : live_answers (s ∷ earlier) d ≡ live_answers earlier d
  live_alone = ap (λ b. if b then answers_in (s ∷ earlier) d else None) up_alone ∙ ap (λ a. if is_up (seen_of earlier) d then a else None) answers_alone

  pub parent_alone : parent_in (s ∷ earlier) d ≡ parent_in earlier d
  parent_alone = ap (λ (o : Option Answers). option_and_then (λ a. a.parent) o) live_alone

  pub acts_alone : acts_in (s ∷ earlier) d ≡ acts_in earlier d
  acts_alone = ap (λ (o : Option Answers). map_or o false (λ a. a.acts)) live_alone

  pub epoch_alone : epoch_in (s ∷ earlier) d ≡ epoch_in earlier d
  epoch_alone = ap (λ (o : Option Answers). option_map (λ a. a.epoch) o) live_alone

  pub given_alone : given_in (s ∷ earlier) d ≡ given_in earlier d
  given_alone = ap (λ (o : Option Answers). option_and_then (λ a. option_map (λ duty. duty.epoch) a.given) o) live_alone

  pub past_alone : past_in (s ∷ earlier) d ≡ past_in earlier d
  past_alone = past_elsewhere s.act d (past_in earlier d) alone.changes

  pub live_past_alone : live_past (s ∷ earlier) d ≡ live_past earlier d
  live_past_alone = ap (λ b. if b then past_in (s ∷ earlier) d else None) up_alone ∙ ap (λ p. if is_up (seen_of earlier) d then p else None) past_alone

  pub moved_alone : moved (s ∷ earlier) d ≡ moved earlier d
  moved_alone = ap (λ (p : Option Past). map_or p false has_moved) live_past_alone

  pub does_nothing : (test : CallDone → Bool) → does test earlier s d ≡ false
  does_nothing test = ap (λ (o : Option CallDone). map_or o false test) (did_elsewhere earlier s.act d alone.changes)

  pub such_alone : (test : CallDone → Bool) → latest_such test (s ∷ earlier) d ≡ latest_such test earlier d
  such_alone test =
      ap (λ b. if b || does test earlier s d then reference_of s.seen.event else latest_such test earlier d) alone.unmade
      ∙ ap (λ b. if b then reference_of s.seen.event else latest_such test earlier d) (does_nothing test)

  pub heard_alone : heard_at (s ∷ earlier) d ≡ heard_at earlier d
  heard_alone = such_alone hears
