-- The core of the invariant before the first event, and so before each event that comes. Nothing is up, and all may start yet.
use Rattle.std.specs.Prelude.{◌≡◌, ℕ, ◌+◌, ◌≤◌, Bool, true, false, ◌&&◌, ◌||◌, not, List, [], ◌∷◌, nat_eq, refl}
use Rattle.std.specs.List.{list_any, list_all}
use Rattle.std.proofs.Common.{arith, ap}
use Rattle.std.proofs.lemmas.Bool.{or_left, or_right, and_right, le-leb}
use Rattle.sd_plan.specs.topo.Network.{device_numbers}
use Rattle.sd_plan.specs.Plans.{is_member, is_present}
use Rattle.sd_sched.specs.declared.Event.{Event}
use Rattle.sd_history.specs.World.{Setting}
use Rattle.sd_history.specs.Chronicle.{chronicle}
use Rattle.sd_history.proofs.Among.{all_pass}
use Rattle.sd_safety.specs.invariant.Bounds.{tick_gap}
use Rattle.sd_safety.specs.invariant.Eras.{plan_now, belongs}
use Rattle.sd_safety.specs.invariant.Clauses.{is_beginning, begins_with, left_out_is_hit}
use Rattle.sd_safety.specs.invariant.Invariant.{Core}
use Rattle.sd_safety.specs.invariant.Coming.{IsNextEvent}

pub begins_empty : (setting : Setting) → is_beginning setting [] ≡ true
begins_empty setting = ap (λ b. nat_eq 1 1 && b) (le-leb 0 (0 + tick_gap setting.net) (least (0 + tick_gap setting.net)))
  where
    least : (n : ℕ) → 0 ≤ n
    least n = omega arith

-- a condition that does not hold asks nothing
pub asks_nothing : (a b : Bool) → a ≡ false → (not a || b) ≡ true
asks_nothing true b none = cc
asks_nothing false b none = refl

pub core_empty : (setting : Setting) → Core setting []
core_empty setting =
    record {
      calm =
          record {
            quiet = or_right (not (is_beginning setting [])) true refl;
            still = λ d. or_right (not (is_beginning setting [])) true refl;
            touched = λ d. ap (λ b. not (not b && belongs setting.net (plan_now setting []) d) || false) (begins_empty setting);
          };
      census =
          record {
            members_up = λ d. ap (λ b. not (not b && belongs setting.net (plan_now setting []) d && true) || false) (begins_empty setting);
            members_follow =
                λ d. asks_nothing (is_member (plan_now setting []) d && true && false) false (and_right (is_member (plan_now setting []) d && true) false refl);
            returned = λ d. asks_nothing (is_member (plan_now setting []) d && false && false) false
                (and_right (is_member (plan_now setting []) d && false) false refl);
            outsiders = λ d. refl;
            current = λ d. refl;
            blanks = λ d. refl;
            links = λ l. or_right (not (is_present (plan_now setting []) l && true)) true refl;
          };
      roles = record { root = refl; failed_root = refl; ordinary = λ d. refl };
      causes = record { backups = λ d. refl; move = refl; takeover = refl; path = λ x. refl; shadow = λ x. refl };
      uncommitted = record { devices = λ d. refl; messages = refl };
      committed =
          record {
            entering = λ d. refl;
            entered = λ d. refl;
            committer = refl;
            acting = λ d. refl;
            linked = λ d. refl;
            left_out =
                or_left (list_all (left_out_is_hit setting []) (device_numbers setting.net)) (list_any (begins_with setting []) (device_numbers setting.net))
                (all_pass (left_out_is_hit setting []) (device_numbers setting.net) (λ d a. refl));
          };
      closed = record { members = λ d. refl; root = refl; links = λ l. refl };
    }

-- before each event that comes the core holds
pub core_before : (setting : Setting) (history : List Event) (e : Event) → IsNextEvent setting history e → Core setting (chronicle setting history)
core_before setting [] e comes = core_empty setting
core_before setting (x ∷ history) e comes = comes.before.1.core
