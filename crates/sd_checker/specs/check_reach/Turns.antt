-- Which hit devices are fed, as marks by place tell it.
use Rattle.std.specs.Prelude.{◌≡◌, ℕ, Bool, true, false, List, length, slice_get, Some, IsTrue, ◌⊎◌}
use Rattle.sd_num.specs.Lists.{has}
use Rattle.sd_plan.specs.topo.Network.{Network}
use Rattle.sd_plan.specs.declared.domain.DomainId.{DomainId}
use Rattle.sd_plan.specs.declared.Hop.{Hop}
use Rattle.sd_plan.specs.declared.Plan.{Plan}
use Rattle.sd_checker.specs.check_reach.Reach.{Fed, is_sound, next_hop}
use Rattle.sd_checker.specs.check_reach.Reached.{is_left}
use Rattle.sd_checker.specs.declared.check_reach.turn.Turn.{Turn}
use Rattle.sd_checker.specs.declared.check_reach.turn.Turn.TheVariants as turn
use Rattle.sd_checker.specs.declared.check_reach.marks.Mark.{Mark}
use Rattle.sd_checker.specs.declared.check_reach.marks.Mark.TheVariants as mark

-- the device is not sound, or no backup root, and its next hop is over the domain or leads into the set
pub record IsHeld (net : Network) (plan : Plan) (domain : DomainId) (S : ℕ → Type 0) (d : ℕ) : Type 0 where
  pub held : IsTrue (is_sound net plan domain d)
      → ((d ≡ plan.backup_root) → ⊥) × ((hop : Hop) → next_hop plan d ≡ Some hop → is_left net domain hop.link hop.parent ≡ true → S hop.parent)

-- where a hit device turns
abbrev pub IsTurn : Network → Plan → DomainId → List ℕ → ℕ → Turn → Type 0
IsTurn net plan domain hit d turn.Fed = Fed net plan domain d
IsTurn net plan domain hit d turn.Lost = IsHeld net plan domain (λ e. ⊥) d
IsTurn net plan domain hit d (turn.To place) = (e : ℕ) × (slice_get hit place ≡ Some e) × (Fed net plan domain e → Fed net plan domain d)
    × IsHeld net plan domain (λ x. x ≡ e) d

-- the devices that are marked as not fed
pub record IsUnfed (hit : List ℕ) (marks : List Mark) (d : ℕ) : Type 0 where
  pub place : ℕ
  pub at : slice_get hit place ≡ Some d
  pub marked : slice_get marks place ≡ Some mark.Unfed

-- the marks are right, but that devices which are marked as not fed may turn to the one that is looked at
pub record AreMarks (net : Network) (plan : Plan) (domain : DomainId) (hit : List ℕ) (looked_at : ℕ → Type 0) (marks : List Mark) : Type 0 where
  pub size : length marks ≡ length hit
  pub fed : (i d : ℕ) → slice_get hit i ≡ Some d → slice_get marks i ≡ Some mark.Fed → Fed net plan domain d
  pub unfed : (i d : ℕ) → slice_get hit i ≡ Some d → slice_get marks i ≡ Some mark.Unfed → IsHeld net plan domain (λ e. IsUnfed hit marks e ⊎ looked_at e) d

-- the mark says that the device is not fed
abbrev pub is_unfed : Mark → Bool
is_unfed mark.Unseen = false
is_unfed mark.Fed = false
is_unfed mark.Unfed = true

-- what was marked before stands, and the place is marked
pub record AreSettled (start : ℕ) (old new : List Mark) : Type 0 where
  pub stands : (i : ℕ) (m : Mark) → slice_get old i ≡ Some m → (m ≡ mark.Unseen → ⊥) → slice_get new i ≡ Some m
  pub marked : slice_get new start ≡ Some mark.Unseen → ⊥

-- all of the trail is marked as fed, and nothing else changes
pub record IsMarkedFed (trail : List ℕ) (old new : List Mark) : Type 0 where
  pub size : length new ≡ length old
  pub on : (i : ℕ) → has trail i ≡ true → slice_get new i ≡ Some mark.Fed
  pub off : (i : ℕ) → has trail i ≡ false → slice_get new i ≡ slice_get old i

-- a trail that was followed: its devices were not seen before, they are marked as not fed now, and nothing else is
pub record IsTrail (hit : List ℕ) (old new : List Mark) (trail : List ℕ) : Type 0 where
  pub was_unseen : (i : ℕ) → has trail i ≡ true → slice_get old i ≡ Some mark.Unseen
  pub is_unfed : (i : ℕ) → has trail i ≡ true → slice_get new i ≡ Some mark.Unfed
  pub rest : (i : ℕ) → has trail i ≡ false → slice_get new i ≡ slice_get old i

-- what following from a place gives: where it ends at what is fed, all of the trail is fed; else the marks are right as they are
pub record IsFollowed (net : Network) (plan : Plan) (domain : DomainId) (hit : List ℕ) (start : ℕ) (old new : List Mark) (trail : List ℕ)
    (fed : Bool) : Type 0 where
  pub size : length new ≡ length old
  pub followed : IsTrail hit old new trail
  pub all_fed : fed ≡ true → (i d : ℕ) → has trail i ≡ true → slice_get hit i ≡ Some d → Fed net plan domain d
  pub right : fed ≡ false → AreMarks net plan domain hit (λ _. ⊥) new
  pub marked : slice_get new start ≡ Some mark.Unseen → ⊥

-- 1 where a device was not seen yet
abbrev pub weight : Mark → ℕ
weight mark.Unseen = 1
weight mark.Fed = 0
weight mark.Unfed = 0
