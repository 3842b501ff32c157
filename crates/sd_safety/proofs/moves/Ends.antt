-- The deadlines of lemma 4 with nothing left to ask of seals: in a steady history, at each event that comes, an old backup root on its primary has been silent
-- for at most its first wait and a tick gap, and an old ordinary device with a backup for at most its wait and one.
use Rattle.std.specs.Prelude.{◌≡◌, ℕ, ◌+◌, ◌≤◌, false, ◌&&◌, not, List, ◌∷◌, nat_eq, refl}
use Rattle.std.proofs.Common.{arith, sym}
use Rattle.std.proofs.lemmas.Bool.{and_parts, eqb-true, eq-eqb, false_from_ne_true, both_ways, not-true}
use Rattle.sd_plan.specs.Plans.{is_member, is_root, is_backup_root}
use Rattle.sd_checker.specs.check_root.Timing.{silence}
use Rattle.sd_history.specs.World.{Setting}
use Rattle.sd_history.specs.Steps.{Step}
use Rattle.sd_history.specs.Chronicle.{chronicle}
use Rattle.sd_safety.specs.invariant.Bounds.{first_up, wait_up}
use Rattle.sd_safety.specs.invariant.Eras.{plan_now, is_old, on_primary, heard_at}
use Rattle.sd_safety.specs.invariant.Coming.{AtNext}
use Rattle.sd_safety.proofs.invariant.Arithmetic.{a4_first, silence_is_short}
use Rattle.sd_safety.proofs.invariant.Timed.{least_below_greatest}
use Rattle.sd_safety.proofs.waits.Waits.{backup_root_silence, ordinary_silence}
use Rattle.sd_safety.specs.moves.Wanted.{IsSealedBy, BackupRootEnds, OrdinaryEnds}
use Rattle.sd_safety.proofs.waits.LeastWaits.{timely_of}
use Rattle.sd_safety.proofs.moves.Happened.{HasRoots, roots_of}
use Rattle.sd_safety.proofs.moves.Sealings.{sealed_in_time}

pub within : (q h s f : ℕ) → q ≤ h + s → s ≤ f → q ≤ h + f
within q h s f x y = omega (arith, x, y)

pub backup_root_ends : (setting : Setting) → AtNext BackupRootEnds setting
backup_root_ends setting history e comes stays =
    let steps : List Step = chronicle setting history in
    let plan = plan_now setting steps in
    let b : ℕ = plan.backup_root in
    let roots : HasRoots setting.net plan = roots_of setting history comes.fair comes.clean.is.0 in
    let parts = and_parts (is_old steps b) (on_primary steps b) stays in
    let seal : IsSealedBy steps b (heard_at steps b + silence setting.net) = sealed_in_time setting history e comes b parts.0 parts.1 in
    let other : is_root plan b ≡ false =
    false_from_ne_true (is_root plan b) (λ is. both_ways (nat_eq b plan.root) roots.apart (eq-eqb b plan.root (sym (eqb-true plan.root b is)))) in
    let long : silence setting.net ≤ first_up setting.net plan = let short = a4_first roots.timed in let order = roots.timed.first_order in
    omega (arith, short, order) in
    backup_root_silence setting e history b (timely_of setting (e ∷ history) comes.fair comes.clean) parts.0 roots.backup_member seal.seal other
    (eq-eqb b b refl) parts.1 seal.sealed
    (within seal.seal (heard_at steps b) (silence setting.net) (first_up setting.net plan) seal.by long)

pub ordinary_ends : (setting : Setting) → AtNext OrdinaryEnds setting
ordinary_ends setting history e comes d old ordinary has on =
    let steps : List Step = chronicle setting history in
    let plan = plan_now setting steps in
    let roots : HasRoots setting.net plan = roots_of setting history comes.fair comes.clean.is.0 in
    let last = and_parts (is_member plan d && not (is_root plan d)) (not (is_backup_root plan d)) ordinary in
    let front = and_parts (is_member plan d) (not (is_root plan d)) last.0 in
    let seal : IsSealedBy steps d (heard_at steps d + silence setting.net) = sealed_in_time setting history e comes d old on in
    let long : silence setting.net ≤ wait_up setting.net plan = let short = silence_is_short roots.timed in
    let order = least_below_greatest setting.net plan.wait in omega (arith, short, order) in
    ordinary_silence setting e history d (timely_of setting (e ∷ history) comes.fair comes.clean) old front.0 seal.seal (not-true (is_root plan d) front.1)
    (not-true (is_backup_root plan d) last.1) has on seal.sealed
    (within seal.seal (heard_at steps d) (silence setting.net) (wait_up setting.net plan) seal.by long)
