-- How long devices stay silent, at each event that comes (13 to 18): with all that the crates below show of it put in.
use Rattle.sd_history.specs.World.{Setting}
use Rattle.sd_safety.specs.invariant.Coming.{AtNext}
use Rattle.sd_safety.specs.invariant.Silences.{AreSilent}
use Rattle.sd_safety.specs.behind.Feeding.{BehindWaitsUnmended, BehindWaitsMended, BehindWaitsCommitted}
use Rattle.sd_safety.proofs.behind.Silent as behind_
use Rattle.sd_safety.proofs.entering.Hears.{new_hears}
use Rattle.sd_safety.proofs.spans.PathHearsAtEvents.{whole_path_hears}
use Rattle.sd_safety.proofs.spans.FallbackRests.{fallback_hears}
use Rattle.sd_safety.proofs.fallbacks.NoMore.{hears_no_more}
use Rattle.sd_safety.proofs.paths.Broken.{path_hears_no_more}
use Rattle.sd_safety.proofs.feeds.Feeds.{fallback_feeds}
use Rattle.sd_safety.proofs.takeovers.Feeds.{takeover_feeds}
use Rattle.sd_safety.proofs.stragglers.Hears.{mended_hears}
use Rattle.sd_safety.proofs.stragglers.Moves.{mended_moves}
use Rattle.sd_safety.proofs.commits.Committed.{behind_waits_committed}

-- 14 while the backup root is old, in an era without a mend so far
waits_unmended : (setting : Setting) → AtNext BehindWaitsUnmended setting
waits_unmended setting =
    behind_.unmended setting (whole_path_hears setting) (hears_no_more setting) (path_hears_no_more setting) (fallback_feeds setting) (takeover_feeds setting)

-- in one with a mend
waits_mended : (setting : Setting) → AtNext BehindWaitsMended setting
waits_mended setting =
    behind_.mended setting (whole_path_hears setting) (hears_no_more setting) (mended_hears setting) (mended_moves setting) (fallback_feeds setting)
    (takeover_feeds setting)

-- and while it is new
waits_committed : (setting : Setting) → AtNext BehindWaitsCommitted setting
waits_committed setting = behind_waits_committed setting (hears_no_more setting) (path_hears_no_more setting) (mended_hears setting) (mended_moves setting)

-- 13 to 18
pub are_silent : (setting : Setting) → AreSilent setting
are_silent setting =
    record {
      whole = whole_path_hears setting;
      behind = behind_.behind setting (waits_unmended setting) (waits_mended setting) (waits_committed setting);
      fallback = fallback_hears setting;
      takeover = behind_.takeover setting (hears_no_more setting);
      beside = behind_.beside setting (whole_path_hears setting) (hears_no_more setting);
      entered = new_hears setting;
    }
