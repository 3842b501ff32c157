-- The backup root moves no sooner than Low of its first wait after it heard, at whichever event it does.
use Rattle.std.specs.Prelude.{◌≡◌, ℕ, ◌-◌, ◌<◌, ◌≤◌, true, false, List, ◌∷◌, length, Some, is_some}
use Rattle.std.proofs.Common.{arith, ◌∙◌, ap, sym, subst}
use Rattle.std.proofs.lemmas.Bool.{both_ways}
use Rattle.sd_num.specs.Numbers.{low}
use Rattle.sd_plan.specs.topo.Network.{rates_of, least_low}
use Rattle.sd_plan.specs.Duties.{duty_of}
use Rattle.sd_plan.specs.Plans.{is_member, is_root, is_backup_root}
use Rattle.sd_device.specs.Calls.{Call}
use Rattle.sd_device.specs.Words.{after, has_moved, wait_to_move}
use Rattle.sd_sched.specs.declared.Event.{Event}
use Rattle.sd_sched.specs.Events.{reference_of}
use Rattle.sd_history.specs.World.{Setting, makes}
use Rattle.sd_history.specs.Steps.{Calls, Step, acts_in, act_by}
use Rattle.sd_history.specs.Chronicle.{past_in, chronicle, next_step}
use Rattle.sd_history.proofs.Given.{some_is}
use Rattle.sd_safety.specs.invariant.Bounds.{first_low}
use Rattle.sd_safety.specs.invariant.Eras.{era, plan_now, heard_at, is_old, moved, on_primary, live_past}
use Rattle.sd_safety.specs.invariant.Coming.{IsNextEvent}
use Rattle.sd_safety.specs.timers.Times.{AreTimed, heard_in}
use Rattle.sd_safety.proofs.timers.NotEarly.{IsTick, move_waited, move_not_early}
use Rattle.sd_safety.proofs.timers.Turns.{IsMove, is_move, backup_by_move}
use Rattle.sd_safety.proofs.timers.NetworkBounds.{least_is_low, rate_is_low}
use Rattle.sd_safety.proofs.waits.SameReferences.{heard_is}
use Rattle.sd_safety.proofs.waits.Waits.{Stands, old_stands, backup_root_waits}
use Rattle.sd_safety.proofs.waits.Standing.{steps_timed}
use Rattle.sd_safety.proofs.silences.NoMaking.{not_made}
use Rattle.sd_safety.proofs.receipts.Alive.{Went, made, called, alone, went}
use Rattle.sd_safety.proofs.behind.Moved.{unmoved as unmoved_by}

long_by : (a c r h : ℕ) → a ≤ c → c ≤ r - h → a ≤ r - h
long_by a c r h one two = omega (arith, one, two)

-- an old backup root on its primary, before the event x, with which it moves
module _ (setting : Setting) (x : Event) (h : List Event) (e : Event) (comes : IsNextEvent setting (x ∷ h) e) (d : ℕ) (old : is_old (chronicle setting h) d ≡ true)
    (on : on_primary (chronicle setting h) d ≡ true)
    (member : is_member (plan_now setting (chronicle setting h)) d ≡ true) (root : is_root (plan_now setting (chronicle setting h)) d ≡ false)
    (backup : is_backup_root (plan_now setting (chronicle setting h)) d ≡ true)
    (old_next : is_old (chronicle setting (x ∷ h)) d ≡ true) (put : moved (chronicle setting (x ∷ h)) d ≡ true) where
  abbrev older : List Step
  older = chronicle setting h

  timed_ : AreTimed setting (chronicle setting (x ∷ h))
  timed_ = steps_timed setting x h e comes

  stands : Stands setting (chronicle setting h) d
  stands = old_stands setting h d old

  next : Stands setting (chronicle setting (x ∷ h)) d
  next = old_stands setting (x ∷ h) d old_next

  unmoved : has_moved stands.past ≡ false
  unmoved = sym stands.moved_is ∙ unmoved_by (is_some (live_past older d)) (moved older d) (acts_in older d) on

  put_next : has_moved next.past ≡ true
  put_next = sym next.moved_is ∙ put

  by_call : (call : Call) → act_by setting (chronicle setting h) x ≡ Calls d call → past_in (chronicle setting (x ∷ h)) d ≡ Some (after stands.past call)
      → d < length setting.net.devices → first_low setting.net (plan_now setting (chronicle setting h)) ≤ reference_of x - heard_at (chronicle setting h) d
  by_call call acted is known =
      let moves_ : has_moved (after stands.past call) ≡ true = ap has_moved (some_is (sym is ∙ next.there)) ∙ put_next in
      let m : IsMove stands.past call = is_move stands.past call (backup_by_move stands.past call unmoved moves_) in
      let tick : IsTick setting (next_step setting older x) older d m.counter stands.past =
      record { before = timed_.0; now = timed_.1; act = acted ∙ ap (Calls d) m.tick; there = stands.there } in
      let w = move_waited stands.past m.counter m.moves in
      let duty_is : w.0 ≡ duty_of setting.net (plan_now setting older) (era older) d = some_is (sym w.2.has ∙ stands.duty) in
      let wait_is : w.1 ≡ (plan_now setting older).wait_first =
      some_is (sym w.2.waits ∙ ap wait_to_move duty_is ∙ backup_root_waits setting.net (plan_now setting older) (era older) d root backup) in
      let low_ : low (rates_of setting.net d) w.1 ≤ reference_of x - heard_in older d =
      move_not_early setting (next_step setting older x) older d m.counter stands.past (rate_is_low setting.net d comes.fair.network) tick w.0 w.1 w.2 in
      let least : least_low setting.net w.1 ≤ low (rates_of setting.net d) w.1 = least_is_low setting.net d w.1 known in
      subst (λ n. least_low setting.net n ≤ reference_of x - heard_at older d) wait_is
      (subst (λ n. least_low setting.net w.1 ≤ reference_of x - n) (sym (heard_is setting older timed_.0 d))
      (long_by (least_low setting.net w.1) (low (rates_of setting.net d) w.1) (reference_of x) (heard_in older d) least low_))

  by_went : Went setting x h d → d < length setting.net.devices
      → first_low setting.net (plan_now setting (chronicle setting h)) ≤ reference_of x - heard_at (chronicle setting h) d
  by_went (made makes_) known = absurd (both_ways (makes d x) (not_made setting older x d comes.clean.is.0.1 stands.live member) makes_)
  by_went (called past call acted there is) known = by_call call acted (is ∙ ap (λ p. Some (after p call)) (some_is (sym there ∙ stands.there))) known
  by_went (alone same did) known =
      absurd (both_ways (has_moved stands.past) unmoved (ap has_moved (some_is (sym stands.there ∙ sym same ∙ next.there)) ∙ put_next))

  pub moves_late : d < length setting.net.devices
      → first_low setting.net (plan_now setting (chronicle setting h)) ≤ reference_of x - heard_at (chronicle setting h) d
  moves_late known = by_went (went setting x h d) known
