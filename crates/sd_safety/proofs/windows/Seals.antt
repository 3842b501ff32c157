-- A window closes with a seal alone, in every steady history (23): each other kind of event is gone through.
use Rattle.std.specs.Prelude.{◌≡◌, false, List, ◌∷◌}
use Rattle.sd_sched.specs.declared.Event.{Event}
use Rattle.sd_sched.specs.declared.Event.TheVariants as event
use Rattle.sd_sched.specs.Events.{is_seal}
use Rattle.sd_history.specs.World.{Setting}
use Rattle.sd_history.specs.Chronicle.{chronicle}
use Rattle.sd_safety.specs.invariant.Clauses.{just_closed}
use Rattle.sd_safety.specs.invariant.Guarded.{IsSteady}
use Rattle.sd_safety.proofs.invariant.Closings.{ask_closes_none, loss_closes_none, end_closes_none, stage_closes_none, failed_device_closes_none, failed_link_closes_none, start_closes_none, give_closes_none, join_closes_none, mended_device_closes_none, mended_link_closes_none}
use Rattle.sd_safety.proofs.windows.NoClosing.{tick_closes_none, fix_closes_none, receipt_closes_none, commit_closes_none}

module _ (setting : Setting) (history : List Event) where
  -- an event other than a seal closes no window
  pub others_close_none : (e : Event) → IsSteady setting (e ∷ history) → is_seal e ≡ false → just_closed (chronicle setting (e ∷ history)) ≡ false
  others_close_none (event.Start r d c clock eps) clean other = start_closes_none setting history r d c clock eps clean
  others_close_none (event.Tick r d c) clean other = tick_closes_none setting history r d c
  others_close_none (event.Recv r d c n) clean other = receipt_closes_none setting history r d c n
  others_close_none (event.Lose r n) clean other = loss_closes_none setting history r n
  others_close_none (event.FailDevice r d) clean other = failed_device_closes_none setting history r d clean
  others_close_none (event.FailLink r l) clean other = failed_link_closes_none setting history r l clean
  others_close_none (event.Fix r d c clock eps) clean other = fix_closes_none setting history r d c clock eps
  others_close_none (event.Ask r d c) clean other = ask_closes_none setting history r d c
  others_close_none (event.Stage r) clean other = stage_closes_none setting history r
  others_close_none (event.Give r d) clean other = give_closes_none setting history r d clean
  others_close_none (event.Commit r d c) clean other = commit_closes_none setting history r d c clean.is
  others_close_none (event.Seal r d) clean other = cc
  others_close_none (event.Join r d c clock eps) clean other = join_closes_none setting history r d c clock eps clean
  others_close_none (event.MendDevice r d) clean other = mended_device_closes_none setting history r d clean
  others_close_none (event.MendLink r l) clean other = mended_link_closes_none setting history r l clean
  others_close_none (event.End r) clean other = end_closes_none setting history r
