-- What contracts see of how far the open window has come.
use Rattle.sd_monitors.specs.renewal.Progressing.{ProgressKept}
use Rattle.sd_monitors.specs.declared.renewal.progress.Progress.TheInside.{Inside}

-- its fields
abbrev pub progress_kept : Inside → ProgressKept
progress_kept p = record { windows = p.windows; mended = p.mended; sealed = p.sealed; given = p.given.items; entered = p.entered.items }
