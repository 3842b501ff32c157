-- 16's piece: where the root failed, an old backup root that does not act heard at most (H + 1) * D after that.
use Rattle.std.specs.Prelude.{◌≡◌, ℕ, ◌+◌, ◌*◌, ◌≤◌, Bool, true, false, [], ◌∷◌, refl}
use Rattle.sd_history.specs.World.{Setting}
use Rattle.sd_history.specs.Chronicle.{chronicle}
use Rattle.sd_safety.specs.invariant.Bounds.{depth, delay}
use Rattle.sd_safety.specs.invariant.Eras.{plan_now, moved, heard_at}
use Rattle.sd_safety.specs.invariant.Silences.{root_failed_at}
use Rattle.sd_safety.specs.invariant.Coming.{AtNext}
use Rattle.sd_safety.specs.behind.Pieces.{HearsNoMore}
use Rattle.sd_safety.proofs.behind.Takeover.{primary_where, backup_where}
use Rattle.sd_safety.proofs.traced.Unmoved.{primary_hears_no_more}
use Rattle.sd_safety.proofs.fallbacks.Moved.{moved_hears_no_more}

pub hears_no_more : (setting : Setting) → AtNext HearsNoMore setting
hears_no_more setting [] e comes failed old still = cc
hears_no_more setting (x ∷ h) e comes failed old still = by (moved (chronicle setting (x ∷ h)) (plan_now setting (chronicle setting (x ∷ h))).backup_root) refl
  where
    b : ℕ
    b = (plan_now setting (chronicle setting (x ∷ h))).backup_root

    by : (m : Bool) → moved (chronicle setting (x ∷ h)) (plan_now setting (chronicle setting (x ∷ h))).backup_root ≡ m
        → heard_at (chronicle setting (x ∷ h)) (plan_now setting (chronicle setting (x ∷ h))).backup_root ≤ root_failed_at setting
        (chronicle setting (x ∷ h)) + (depth setting.net + 1) * delay setting.net
    by true put = moved_hears_no_more setting (x ∷ h) e comes failed old (backup_where (chronicle setting (x ∷ h)) b put still)
    by false stays = primary_hears_no_more setting x h e comes failed old (primary_where setting (x ∷ h) b old stays still)
