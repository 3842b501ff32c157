-- Lemmas that several crates above share.
use Rattle.std.specs.Prelude.{◌≡◌, ℕ, zero, suc, replicate, None, refl}
use Rattle.sd_replay.specs.watch.Watch.{parent_in}

pub no_parent : (n d : ℕ) → parent_in (replicate n None) d ≡ None
no_parent zero d = refl
no_parent (suc n) zero = refl
no_parent (suc n) (suc d) = no_parent n d
