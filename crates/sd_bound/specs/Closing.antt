-- How soon a renewal is over: when each member of the staged plan has entered it, and with which seal the window closes.
use Rattle.std.specs.Prelude.{◌≡◌, ℕ, ◌+◌, ◌*◌, ◌<◌, Bool, ◌&&◌, ◌||◌, List, ◌∷◌, IsTrue}
use Rattle.sd_num.specs.Lists.{same_number}
use Rattle.sd_plan.specs.topo.Network.{Network}
use Rattle.sd_sched.specs.declared.Event.{Event}
use Rattle.sd_sched.specs.Events.{reference_of, device_of, is_seal}
use Rattle.sd_history.specs.World.{Setting, Seen, in_window, has_commit, staged_epoch, epoch_in_force}
use Rattle.sd_history.specs.Steps.{seen_of}
use Rattle.sd_history.specs.Chronicle.{chronicle}
use Rattle.sd_safety.specs.invariant.Bounds.{depth, delay, rounds_gap}
use Rattle.sd_safety.specs.invariant.Eras.{is_new, will_belong}
use Rattle.sd_safety.specs.invariant.Clauses.{commit_at}
use Rattle.sd_safety.specs.invariant.Guarded.{AreGuarded, IsSteady}

-- for how long after a commit members may still be to enter: K + 1 rounds, and the longest way down (A + H * D)
abbrev pub entering_time : Network → ℕ
entering_time net = rounds_gap net + depth net * delay net

-- the event seals the device
abbrev pub seals : ℕ → Event → Bool
seals d e = is_seal e && same_number (device_of e) d

-- the device was sealed in the open window
abbrev pub was_sealed : List Seen → ℕ → Bool
was_sealed seen d = in_window (λ s. seals d s.event) seen

-- At an event later than that after the commit each member of the staged plan is up and follows that plan. So from then on no seal of a member is out of
-- order.
abbrev pub MembersEnter : Setting → Type 0
MembersEnter setting =
    (e : Event) (history : List Event) → AreGuarded setting → IsSteady setting (e ∷ history) → IsTrue (has_commit (seen_of (chronicle setting history)))
    → commit_at (chronicle setting history) + entering_time setting.net < reference_of e
    → (d : ℕ) → IsTrue (will_belong setting (chronicle setting history) d) → IsTrue (is_new (chronicle setting history) d)

-- And the event with which the last member of the staged plan is sealed closes the window: the staged plan is then in force.
abbrev pub SealsClose : Setting → Type 0
SealsClose setting =
    (e : Event) (history : List Event) → AreGuarded setting → IsSteady setting (e ∷ history) → IsTrue (has_commit (seen_of (chronicle setting history)))
    → ((d : ℕ) → IsTrue (will_belong setting (chronicle setting history) d) → IsTrue (seals d e || was_sealed (seen_of (chronicle setting history)) d))
    → epoch_in_force (seen_of (chronicle setting (e ∷ history))) ≡ staged_epoch (seen_of (chronicle setting history))
