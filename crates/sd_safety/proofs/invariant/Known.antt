-- Who is old, has moved or acts is up; and a device that is up is one of the network's, as a test.
use Rattle.std.specs.Prelude.{◌≡◌, ℕ, Bool, true, false, List, Option, None, option_map, refl, if◌then◌else◌}
use Rattle.sd_num.specs.Lists.{map_or, same_number}
use Rattle.sd_device.specs.Calls.{Past}
use Rattle.sd_device.specs.Words.{has_moved}
use Rattle.sd_history.specs.World.{is_up}
use Rattle.sd_history.specs.Steps.{Step, Answers, seen_of, answers_in, acts_in}
use Rattle.sd_history.specs.Chronicle.{past_in}
use Rattle.sd_safety.specs.invariant.Eras.{era, is_old, moved}

-- Who is up

pub up_when_numbered : (b : Bool) (answers : Option Answers) (n : ℕ) → same_number (option_map (λ a. a.epoch) (if b then answers else None)) n ≡ true → b ≡ true
up_when_numbered true answers n is = refl
up_when_numbered false answers n is = cc

pub old_is_up : (steps : List Step) (d : ℕ) → is_old steps d ≡ true → is_up (seen_of steps) d ≡ true
old_is_up steps d old = up_when_numbered (is_up (seen_of steps) d) (answers_in steps d) (era steps) old

up_when_moved : (b : Bool) (past : Option Past) → map_or (if b then past else None) false has_moved ≡ true → b ≡ true
up_when_moved true past is = refl
up_when_moved false past is = cc

pub moved_is_up : (steps : List Step) (d : ℕ) → moved steps d ≡ true → is_up (seen_of steps) d ≡ true
moved_is_up steps d has = up_when_moved (is_up (seen_of steps) d) (past_in steps d) has

up_when_acting : (b : Bool) (answers : Option Answers) → map_or (if b then answers else None) false (λ a. a.acts) ≡ true → b ≡ true
up_when_acting true answers is = refl
up_when_acting false answers is = cc

pub acting_is_up : (steps : List Step) (d : ℕ) → acts_in steps d ≡ true → is_up (seen_of steps) d ≡ true
acting_is_up steps d acts = up_when_acting (is_up (seen_of steps) d) (answers_in steps d) acts
