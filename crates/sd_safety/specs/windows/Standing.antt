-- What the lemmas on a commit and on a closing take of the invariant, of devices that are up or known. C1, C2 and C4, for a commit:
use Rattle.std.specs.Prelude.{◌≡◌, ℕ, true, List}
use Rattle.sd_history.specs.World.{Setting, is_up}
use Rattle.sd_history.specs.Steps.{Step, seen_of}
use Rattle.sd_safety.specs.invariant.Clauses.{outsider_is_past, counted_is_current, blank_is_idle, ordinary_follows, failed_root_is_not_old, takeover_is_caused, member_enters, new_is_linked, committer_is_root, committer_acts}
use Rattle.sd_safety.specs.invariant.Silences.{NewHears}

-- the clauses of the invariant that these lemmas take
pub record HasStanding (setting : Setting) (steps : List Step) : Type 0 where
  pub outsiders : (x : ℕ) → is_up (seen_of steps) x ≡ true → outsider_is_past setting steps x ≡ true
  pub current : (x : ℕ) → is_up (seen_of steps) x ≡ true → counted_is_current setting steps x ≡ true
  pub blanks : (x : ℕ) → is_up (seen_of steps) x ≡ true → blank_is_idle steps x ≡ true
  pub ordinary : (x : ℕ) → is_up (seen_of steps) x ≡ true → ordinary_follows setting steps x ≡ true
  pub failed_root : failed_root_is_not_old setting steps ≡ true
  pub takeover : takeover_is_caused setting steps ≡ true

-- What a closing takes of it: C9 b, c, d, and the silence of new devices at the event (18)
pub record HasEntered (setting : Setting) (steps : List Step) (reference : ℕ) : Type 0 where
  pub entering : (x : ℕ) → member_enters setting steps x ≡ true
  pub linked : (x : ℕ) → is_up (seen_of steps) x ≡ true → new_is_linked setting steps x ≡ true
  pub committer : committer_is_root setting steps ≡ true
  pub acting : (x : ℕ) → is_up (seen_of steps) x ≡ true → committer_acts setting steps x ≡ true
  pub hears : NewHears setting steps reference
