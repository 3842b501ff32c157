-- Each kind of event keeps the core of the invariant, given the silences (13 to 18) and that members of the staged plan enter soon (18). So then no device
-- comes back to itself
-- along parents, and at most one acts, at all times.
use Rattle.sd_history.specs.World.{Setting}
use Rattle.sd_safety.specs.invariant.Silences.{EntersSoon, AreSilent}
use Rattle.sd_safety.specs.invariant.Coming.{AtNext}
use Rattle.sd_safety.specs.invariant.Kept.{EachKeeps, AlwaysSafe}
use Rattle.sd_safety.proofs.invariant.Safe.{safe}
use Rattle.sd_safety.proofs.frame.Idles.{ask, lose, ends, tick_quiet, tick_emits, fix}
use Rattle.sd_safety.proofs.frame.Failures.{fail_device, fail_link}
use Rattle.sd_safety.proofs.frame.Staging.{stage}
use Rattle.sd_safety.proofs.moves.Started.{start_keeps}
use Rattle.sd_safety.proofs.moves.Moves.{move_keeps}
use Rattle.sd_safety.proofs.moves.Takeovers.{takeover_keeps}
use Rattle.sd_safety.proofs.receipts.Entries.{receive}
use Rattle.sd_safety.proofs.renewals.Gives.{give}
use Rattle.sd_safety.proofs.renewals.Seals.{seal}
use Rattle.sd_safety.proofs.renewals.Mends.{mend_device, mend_link}
use Rattle.sd_safety.proofs.renewals.Joins.{join}
use Rattle.sd_safety.proofs.renewals.Commits.{commit}
use Rattle.sd_safety.proofs.renewals.Closings.{seal_closes}

pub each_keeps : (setting : Setting) → AreSilent setting → AtNext EntersSoon setting → EachKeeps setting
each_keeps setting silent enters =
    record {
      start = start_keeps setting;
      tick_quiet = tick_quiet enters;
      tick_emits = tick_emits enters;
      tick_moves = move_keeps setting silent enters;
      tick_takes_over = takeover_keeps setting silent enters;
      receive = receive enters;
      lose = lose enters;
      fail_device = fail_device;
      fail_link = fail_link;
      fix = fix enters;
      ask = ask enters;
      stage = stage;
      give = give enters;
      commit = commit;
      seal = seal enters;
      seal_closes = seal_closes silent;
      join = join;
      mend_device = mend_device enters;
      mend_link = mend_link enters;
      ends = ends enters;
    }

pub safe_if_silent : (setting : Setting) → AreSilent setting → AtNext EntersSoon setting → AlwaysSafe setting
safe_if_silent setting silent enters = safe setting (each_keeps setting silent enters)
