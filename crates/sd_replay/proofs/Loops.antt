-- The loops of counted devices, computed by a history and as a relation. A device that is up is one of the topology's, so only those have parents.
use Rattle.std.specs.Prelude.{◌≡◌, ◌↔◌, ℕ, ◌<◌, Bool, true, false, ◌||◌, List, length, refl, Option, Some, None, MatchOption, if◌then◌else◌}
use Rattle.std.proofs.lemmas.Bool.{and_parts}
use Rattle.sd_plan.specs.Plans.{is_member}
use Rattle.sd_history.specs.World.{Setting, is_up, is_counted, in_force, joined_in_window}
use Rattle.sd_history.specs.Steps.{Step, seen_of, parent_in}
use Rattle.sd_history.specs.Lines.{counted_parent, is_on_loop, first_on_loop}
use Rattle.sd_replay.specs.watch.Watch.{IsOnLoop, HasNoLoop, IsFirstOnLoop}
use Rattle.sd_replay.proofs.watch.Counted.{comes_back_on_loop, first_back}

-- only devices of the topology are up
abbrev pub UpIsKnown : Setting → List Step → Type 0
UpIsKnown setting steps = (d : ℕ) → is_up (seen_of steps) d ≡ true → d < length setting.net.devices

module _ (setting : Setting) (steps : List Step) (known : UpIsKnown setting steps) where
  -- only devices of the topology are counted, and so have counted parents
  pub parents_known : (d p : ℕ) → counted_parent setting steps d ≡ Some p → d < length setting.net.devices
  parents_known d p follows = by (is_counted setting (seen_of steps) d) refl follows
    where
      by : (b : Bool) → is_counted setting (seen_of steps) d ≡ b → (if b then parent_in steps d else None) ≡ Some p → d < length setting.net.devices
      by true counted follows =
          known d (and_parts (is_up (seen_of steps) d) (is_member (in_force setting (seen_of steps)) d || joined_in_window (seen_of steps) d) counted).0
      by false counted follows = cc

  -- following parents comes back to d within as many steps as there are devices exactly where it does at all
  pub on_loop : (d : ℕ) → (is_on_loop setting steps d ≡ true) ↔ IsOnLoop (counted_parent setting steps) d
  on_loop = comes_back_on_loop (counted_parent setting steps) (length setting.net.devices) parents_known

  -- the least device on a loop, or none
  pub first_is : (first : Option ℕ) → MatchOption first (HasNoLoop (counted_parent setting steps)) (λ d. IsFirstOnLoop (counted_parent setting steps) d)
      → first_on_loop setting steps ≡ first
  first_is = first_back (counted_parent setting steps) (length setting.net.devices) parents_known
