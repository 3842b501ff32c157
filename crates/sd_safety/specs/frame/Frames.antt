-- What a step leaves alone: it is elsewhere where it neither changes, makes nor fails the device; it is plain where it closes no window, and
-- stages, commits, fails, mends and lets join nothing. And two states that are alike: in the world, and of a device.
use Rattle.std.specs.Prelude.{◌≡◌, ℕ, List, is_some, true, false, None}
use Rattle.sd_num.specs.Lists.{same_number}
use Rattle.sd_plan.specs.declared.topo.Thing.TheVariants as thing
use Rattle.sd_sched.specs.Events.{is_stage, is_commit, joined}
use Rattle.sd_history.specs.Things.{failure_of, mended}
use Rattle.sd_history.specs.World.{Setting, makes, fails, is_up, link_has_failed, is_untouched, has_commit, joined_in_window}
use Rattle.sd_history.specs.Steps.{Step, seen_of, changed, parent_in, acts_in, epoch_in}
use Rattle.sd_safety.specs.invariant.Eras.{era, failed_now, live_past, moved}

-- the step leaves the device alone
pub record IsElsewhere (s : Step) (d : ℕ) : Type 0 where
  pub changes : same_number (changed s.act) d ≡ false
  pub unmade : makes d s.seen.event ≡ false
  pub unfailed : fails (thing.Device d) s.seen.event ≡ false

-- no window closes with the step, and it stages, commits, fails, mends and lets join nothing
pub record IsPlain (s : Step) : Type 0 where
  pub stays : s.seen.closed ≡ false
  pub unstaged : is_stage s.seen.event ≡ false
  pub uncommitted : is_commit s.seen.event ≡ false
  pub unjoined : joined s.seen.event ≡ None
  pub unfailed : failure_of s.seen.event ≡ None
  pub unmended : mended s.seen.event ≡ None

-- the same plan is in force, the same failed in the era, the same commit and joins are in the window, and no more links are failed
pub record IsAlike (setting : Setting) (one two : List Step) : Type 0 where
  pub era_is : era two ≡ era one
  pub failed_is : failed_now two ≡ failed_now one
  pub commit_is : has_commit (seen_of two) ≡ has_commit (seen_of one)
  pub joined_is : (d : ℕ) → joined_in_window (seen_of two) d ≡ joined_in_window (seen_of one) d
  pub links_no_worse : (l : ℕ) → link_has_failed (seen_of two) l ≡ true → link_has_failed (seen_of one) l ≡ true

-- the device is up as it was, follows the same plan and parent, acts as it did, and stands where it stood; it may be given a duty, or sealed
pub record IsAlikeAt (one two : List Step) (d : ℕ) : Type 0 where
  pub up_is : is_up (seen_of two) d ≡ is_up (seen_of one) d
  pub untouched_is : is_untouched (seen_of two) d ≡ is_untouched (seen_of one) d
  pub parent_is : parent_in two d ≡ parent_in one d
  pub acts_is : acts_in two d ≡ acts_in one d
  pub epoch_is : epoch_in two d ≡ epoch_in one d
  pub there_is : is_some (live_past two d) ≡ is_some (live_past one d)
  pub moved_is : moved two d ≡ moved one d
