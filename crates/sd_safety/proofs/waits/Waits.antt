-- Lemmas 4 to 6 in the words of the invariant: how long an old device is silent, rests or sends nothing at most, and how long it was at least when it moves,
-- takes over or emits. From the laws of timers, with the duties of the plan in force.
use Rattle.std.specs.Prelude.{◌≡◌, ℕ, ◌+◌, ◌-◌, ◌≤◌, Bool, true, false, List, ◌∷◌, max, Option, Some, None, is_some, option_map, refl, if◌then◌else◌}
use Rattle.std.proofs.Common.{arith, sym, ◌∙◌, ap, subst}
use Rattle.std.proofs.lemmas.Bool.{or_left}
use Rattle.sd_num.specs.Lists.{map_or}
use Rattle.sd_plan.specs.topo.Network.{Network, least_low, greatest_up}
use Rattle.sd_plan.specs.declared.Plan.{Plan}
use Rattle.sd_plan.specs.declared.Duty.{Duty}
use Rattle.sd_plan.specs.declared.Hop.{Hop}
use Rattle.sd_plan.specs.declared.Role.{Role}
use Rattle.sd_plan.specs.declared.Role.TheVariants as role
use Rattle.sd_plan.specs.Plans.{is_root, is_backup_root, is_member, backup_of, has_backup}
use Rattle.sd_plan.specs.Duties.{duty_of, edge_of}
use Rattle.sd_checker.specs.check_root.Timing.{round_gap}
use Rattle.sd_device.specs.Calls.{Past}
use Rattle.sd_device.specs.Words.{duty_now, has_moved, is_acting, is_backup_root_now, wait_to_move, moves_at, takes_over_at}
use Rattle.sd_sched.specs.declared.Event.{Event}
use Rattle.sd_sched.specs.declared.Event.TheVariants as event
use Rattle.sd_sched.specs.Events.{reference_of}
use Rattle.sd_history.specs.World.{Setting, is_up, is_staged_member}
use Rattle.sd_history.specs.Steps.{Step, seen_of, acts_in}
use Rattle.sd_history.specs.Chronicle.{past_in, chronicle, answers_by}
use Rattle.sd_history.specs.Premises.{is_current_member}
use Rattle.sd_history.proofs.Given.{some_is}
use Rattle.sd_safety.specs.invariant.Bounds.{first_up, first_low, second_up, second_low, wait_up, wait_low, tick_gap}
use Rattle.sd_safety.specs.invariant.Eras.{plan_now, era, is_old, live_past, moved, on_primary, on_backup, silent_for, rests_for, heard_at, moved_at, sent_at}
use Rattle.sd_safety.proofs.invariant.Parents.{IsOld, old_is, live_is}
use Rattle.sd_safety.specs.timers.Times.{AreTimed, heard_in, moved_in, sent_in, sealed_in}
use Rattle.sd_safety.proofs.timers.Histories.{Timely, timed, before, silence_ends, rest_ends, sends_soon, move_waits, takeover_waits}
use Rattle.sd_safety.proofs.waits.SameReferences.{heard_is, moved_is, sent_is}
use Rattle.sd_safety.proofs.waits.LookingBack.{two_parts}
use Rattle.sd_safety.proofs.windows.Leading.{stands_by}
use Rattle.sd_safety.proofs.windows.Committing.{up_and_past}

-- how an old device stands, by its past
pub record Stands (setting : Setting) (steps : List Step) (d : ℕ) : Type 0 where
  pub past : Past
  pub live : is_up (seen_of steps) d ≡ true
  pub there : past_in steps d ≡ Some past
  pub duty : duty_now past ≡ Some (duty_of setting.net (plan_now setting steps) (era steps) d)
  pub moved_is : moved steps d ≡ has_moved past
  pub acts_is : acts_in steps d ≡ is_acting past

pub old_stands : (setting : Setting) (history : List Event) (d : ℕ) → is_old (chronicle setting history) d ≡ true → Stands setting (chronicle setting history) d
old_stands setting history d old =
    let steps = chronicle setting history in
    let o : IsOld setting steps d = old_is setting history d old in
    let up = up_and_past (is_up (seen_of steps) d) (past_in steps d) o.past o.live in
    record {
      past = o.past;
      live = up.0;
      there = up.1;
      duty = o.duty;
      moved_is = ap (λ p. map_or p false has_moved) o.live;
      acts_is = ap (λ a. map_or a false (λ x. x.acts)) (live_is setting history d) ∙ ap (λ p. map_or (option_map answers_by p) false (λ x. x.acts)) o.live;
    }

-- the waits of a plan's duties
pub backup_root_waits : (net : Network) (plan : Plan) (epoch d : ℕ) → is_root plan d ≡ false → is_backup_root plan d ≡ true
    → wait_to_move (duty_of net plan epoch d) ≡ Some plan.wait_first
backup_root_waits net plan epoch d root backup = rw (root, backup) refl

ordinary_waits : (net : Network) (plan : Plan) (epoch d : ℕ) → is_root plan d ≡ false → is_backup_root plan d ≡ false → has_backup plan d ≡ true
    → wait_to_move (duty_of net plan epoch d) ≡ Some plan.wait
ordinary_waits net plan epoch d root backup has = rw (root, backup) (by_hop (backup_of plan d) has)
  where
    by_hop : (o : Option Hop) → map_or o false (λ hop. true) ≡ true
        → (if is_some (option_map (edge_of net d) o) then Some plan.wait else None) ≡ Some plan.wait
    by_hop None h = cc
    by_hop (Some hop) h = refl

is_backup_duty : (net : Network) (plan : Plan) (epoch d : ℕ) (past : Past) → duty_now past ≡ Some (duty_of net plan epoch d) → is_root plan d ≡ false
    → is_backup_root plan d ≡ true → is_backup_root_now past ≡ true
is_backup_duty net plan epoch d past has root backup =
    ap (λ o. map_or o false (λ (duty : Duty). elim duty.role [ role.BackupRoot ↦ true | _ ↦ false ])) has ∙ role_is
  where
    role_is : elim (duty_of net plan epoch d).role as (λ (x : Role). Bool) [ role.BackupRoot ↦ true | _ ↦ false ] ≡ true
    role_is = rw (root, backup) refl

difference : (r h b : ℕ) → r ≤ h + b → r - h ≤ b
difference r h b le = omega (arith, le)

-- At most: the event e comes after the history, and the words are those of the state before it.

module _ (setting : Setting) (e : Event) (history : List Event) (d : ℕ) (t : Timely setting (e ∷ history)) (old : is_old (chronicle setting history) d ≡ true)
    (member : is_member (plan_now setting (chronicle setting history)) d ≡ true) where
  stands : Stands setting (chronicle setting history) d
  stands = old_stands setting history d old

  all_timed : AreTimed setting (chronicle setting history)
  all_timed = timed setting history (before setting e history t)

  current : is_current_member setting (seen_of (chronicle setting history)) d ≡ true
  current = or_left (is_member (plan_now setting (chronicle setting history)) d) (is_staged_member setting (seen_of (chronicle setting history)) d) member

  -- an old device on its primary with this wait, sealed before it was over
  silent_at_most : (wait q : ℕ)
      → wait_to_move (duty_of setting.net (plan_now setting (chronicle setting history)) (era (chronicle setting history)) d) ≡ Some wait
      → on_primary (chronicle setting history) d ≡ true
      → sealed_in (chronicle setting history) d ≡ Some q → q ≤ heard_at (chronicle setting history) d + greatest_up setting.net wait
      → silent_for (chronicle setting history) d (reference_of e) ≤ greatest_up setting.net wait + tick_gap setting.net
  unfolding stands all_timed current
  silent_at_most wait q waits primary seal by =
      let steps : List Step = chronicle setting history in
      let s : Stands setting steps d = stands in
      let parts = stands_by (is_some (live_past steps d)) (moved steps d) (acts_in steps d) primary in
      let same : heard_at steps d ≡ heard_in steps d = heard_is setting steps all_timed d in
      let line : reference_of e ≤ heard_in steps d + greatest_up setting.net wait + setting.net.params.tick =
      silence_ends setting e history d s.past t s.live current s.there (duty_of setting.net (plan_now setting steps) (era steps) d) wait q s.duty waits
      (sym s.moved_is ∙ parts.0) (sym s.acts_is ∙ parts.1) seal
      (subst (λ h. q ≤ h + greatest_up setting.net wait) same by) in
      subst (λ h. reference_of e - h ≤ greatest_up setting.net wait + setting.net.params.tick) (sym same)
      (ended (reference_of e) (heard_in steps d) (greatest_up setting.net wait) setting.net.params.tick line)
    where
      ended : (r h u k : ℕ) → r ≤ h + u + k → r - h ≤ u + k
      ended r h u k le = omega (arith, le)

  -- the backup root on its primary
  pub backup_root_silence : (q : ℕ) → is_root (plan_now setting (chronicle setting history)) d ≡ false
      → is_backup_root (plan_now setting (chronicle setting history)) d ≡ true → on_primary (chronicle setting history) d ≡ true
      → sealed_in (chronicle setting history) d ≡ Some q
      → q ≤ heard_at (chronicle setting history) d + first_up setting.net (plan_now setting (chronicle setting history))
      → silent_for (chronicle setting history) d (reference_of e) ≤ first_up setting.net (plan_now setting (chronicle setting history)) + tick_gap setting.net
  backup_root_silence q root backup primary seal by =
      silent_at_most (plan_now setting (chronicle setting history)).wait_first q
      (backup_root_waits setting.net (plan_now setting (chronicle setting history)) (era (chronicle setting history)) d root backup) primary seal by

  -- an ordinary device with a backup, on its primary
  pub ordinary_silence : (q : ℕ) → is_root (plan_now setting (chronicle setting history)) d ≡ false
      → is_backup_root (plan_now setting (chronicle setting history)) d ≡ false → has_backup (plan_now setting (chronicle setting history)) d ≡ true
      → on_primary (chronicle setting history) d ≡ true → sealed_in (chronicle setting history) d ≡ Some q
      → q ≤ heard_at (chronicle setting history) d + wait_up setting.net (plan_now setting (chronicle setting history))
      → silent_for (chronicle setting history) d (reference_of e) ≤ wait_up setting.net (plan_now setting (chronicle setting history)) + tick_gap setting.net
  ordinary_silence q root backup has primary seal by =
      silent_at_most (plan_now setting (chronicle setting history)).wait q
      (ordinary_waits setting.net (plan_now setting (chronicle setting history)) (era (chronicle setting history)) d root backup has) primary seal by

  -- the backup root on its backup
  pub backup_root_rest : is_root (plan_now setting (chronicle setting history)) d ≡ false
      → is_backup_root (plan_now setting (chronicle setting history)) d ≡ true → on_backup (chronicle setting history) d ≡ true
      → rests_for (chronicle setting history) d (reference_of e) ≤ second_up setting.net (plan_now setting (chronicle setting history)) + tick_gap setting.net
  unfolding stands all_timed current
  backup_root_rest root backup on =
      let steps : List Step = chronicle setting history in
      let s : Stands setting steps d = stands in
      let plan : Plan = plan_now setting steps in
      let parts = two_parts (moved steps d) (acts_in steps d) on in
      let line : reference_of e ≤ max (heard_in steps d) (moved_in steps d) + greatest_up setting.net plan.wait_second + setting.net.params.tick =
      rest_ends setting e history d s.past t s.live current s.there (duty_of setting.net plan (era steps) d) s.duty
      (is_backup_duty setting.net plan (era steps) d s.past s.duty root backup) (sym s.moved_is ∙ parts.0) (sym s.acts_is ∙ parts.1) in
      subst (λ h. reference_of e - max h (moved_at steps d) ≤ greatest_up setting.net plan.wait_second + setting.net.params.tick)
      (sym (heard_is setting steps all_timed d))
      (subst (λ m. reference_of e - max (heard_in steps d) m ≤ greatest_up setting.net plan.wait_second + setting.net.params.tick)
      (sym (moved_is setting steps all_timed d))
      (ended (reference_of e) (max (heard_in steps d) (moved_in steps d)) (greatest_up setting.net plan.wait_second) setting.net.params.tick line))
    where
      ended : (r h u k : ℕ) → r ≤ h + u + k → r - h ≤ u + k
      ended r h u k le = omega (arith, le)

  -- an old device that acts sent, or began to act, at most P ago
  pub root_sends : acts_in (chronicle setting history) d ≡ true → reference_of e - sent_at (chronicle setting history) d ≤ round_gap setting.net
  unfolding stands all_timed current
  root_sends acts =
      let steps : List Step = chronicle setting history in
      let s : Stands setting steps d = stands in
      let line : reference_of e ≤ sent_in steps d + round_gap setting.net =
      sends_soon setting e history d s.past t s.live current s.there (sym s.acts_is ∙ acts) in
      subst (λ h. reference_of e - h ≤ round_gap setting.net) (sym (sent_is setting steps all_timed d))
      (difference (reference_of e) (sent_in steps d) (round_gap setting.net) line)

-- At least: the event is a tick of an old device.

module _ (setting : Setting) (r d c : ℕ) (history : List Event) (t : Timely setting (event.Tick r d c ∷ history))
    (old : is_old (chronicle setting history) d ≡ true) where
  tick_stands : Stands setting (chronicle setting history) d
  tick_stands = old_stands setting history d old

  tick_timed : AreTimed setting (chronicle setting history)
  tick_timed = timed setting history (before setting (event.Tick r d c) history t)

  moves_after : (past : Past) → past_in (chronicle setting history) d ≡ Some past → (wait : ℕ)
      → duty_now past ≡ Some (duty_of setting.net (plan_now setting (chronicle setting history)) (era (chronicle setting history)) d)
      → wait_to_move (duty_of setting.net (plan_now setting (chronicle setting history)) (era (chronicle setting history)) d) ≡ Some wait
      → moves_at past c ≡ true → least_low setting.net wait ≤ silent_for (chronicle setting history) d r
  unfolding tick_timed
  moves_after past there wait has waits goes =
      subst (λ h. least_low setting.net wait ≤ r - h) (sym (heard_is setting (chronicle setting history) tick_timed d))
      (move_waits setting r d c history past t there
      (duty_of setting.net (plan_now setting (chronicle setting history)) (era (chronicle setting history)) d) wait has waits goes)

  -- the backup root moves no sooner than Low of its first wait after it heard
  pub backup_root_moves : (past : Past) → past_in (chronicle setting history) d ≡ Some past → is_root (plan_now setting (chronicle setting history)) d ≡ false
      → is_backup_root (plan_now setting (chronicle setting history)) d ≡ true → moves_at past c ≡ true
      → first_low setting.net (plan_now setting (chronicle setting history)) ≤ silent_for (chronicle setting history) d r
  unfolding tick_stands
  backup_root_moves past there root backup goes =
      let s : Stands setting (chronicle setting history) d = tick_stands in
      moves_after past there (plan_now setting (chronicle setting history)).wait_first (own past there)
      (backup_root_waits setting.net (plan_now setting (chronicle setting history)) (era (chronicle setting history)) d root backup) goes
    where
      own : (past : Past) → past_in (chronicle setting history) d ≡ Some past
          → duty_now past ≡ Some (duty_of setting.net (plan_now setting (chronicle setting history)) (era (chronicle setting history)) d)
      own past there = ap duty_now (some_is (sym there ∙ tick_stands.there)) ∙ tick_stands.duty

  -- an ordinary device moves no sooner than Low of its wait after it heard
  pub ordinary_moves : (past : Past) → past_in (chronicle setting history) d ≡ Some past → is_root (plan_now setting (chronicle setting history)) d ≡ false
      → is_backup_root (plan_now setting (chronicle setting history)) d ≡ false
      → has_backup (plan_now setting (chronicle setting history)) d ≡ true → moves_at past c ≡ true
      → wait_low setting.net (plan_now setting (chronicle setting history)) ≤ silent_for (chronicle setting history) d r
  unfolding tick_stands
  ordinary_moves past there root backup has goes =
      moves_after past there (plan_now setting (chronicle setting history)).wait (own past there)
      (ordinary_waits setting.net (plan_now setting (chronicle setting history)) (era (chronicle setting history)) d root backup has) goes
    where
      own : (past : Past) → past_in (chronicle setting history) d ≡ Some past
          → duty_now past ≡ Some (duty_of setting.net (plan_now setting (chronicle setting history)) (era (chronicle setting history)) d)
      own past there = ap duty_now (some_is (sym there ∙ tick_stands.there)) ∙ tick_stands.duty

  -- it takes over no sooner than Low of its second wait after it heard and moved
  pub backup_root_takes_over : (past : Past) → past_in (chronicle setting history) d ≡ Some past → takes_over_at past c ≡ true
      → second_low setting.net (plan_now setting (chronicle setting history)) ≤ rests_for (chronicle setting history) d r
  unfolding tick_stands tick_timed
  backup_root_takes_over past there takes =
      subst (λ h. second_low setting.net (plan_now setting (chronicle setting history)) ≤ r - max h (moved_at (chronicle setting history) d))
      (sym (heard_is setting (chronicle setting history) tick_timed d))
      (subst (λ m. second_low setting.net (plan_now setting (chronicle setting history)) ≤ r - max (heard_in (chronicle setting history) d) m)
      (sym (moved_is setting (chronicle setting history) tick_timed d))
      (takeover_waits setting r d c history past t there
      (duty_of setting.net (plan_now setting (chronicle setting history)) (era (chronicle setting history)) d) (own past there) takes))
    where
      own : (past : Past) → past_in (chronicle setting history) d ≡ Some past
          → duty_now past ≡ Some (duty_of setting.net (plan_now setting (chronicle setting history)) (era (chronicle setting history)) d)
      own past there = ap duty_now (some_is (sym there ∙ tick_stands.there)) ∙ tick_stands.duty
