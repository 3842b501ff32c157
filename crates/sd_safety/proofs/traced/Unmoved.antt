-- Where the root failed, a backup root on its primary heard at most H * D after that: over its path, or at its start.
use Rattle.std.specs.Prelude.{◌≡◌, ℕ, ◌+◌, ◌*◌, ◌≤◌, true, false, List, [], ◌∷◌, nat_eq, nat_le, Option, Some, refl, if◌then◌else◌}
use Rattle.std.proofs.Common.{arith, ◌∙◌, ap, sym, subst, inl, inr}
use Rattle.std.proofs.lemmas.Bool.{and_parts, and_from, eqb-true, eq-eqb, leb-true, false_from_ne_true}
use Rattle.sd_num.specs.Lists.{map_or}
use Rattle.sd_plan.specs.topo.Network.{rates_of}
use Rattle.sd_plan.specs.declared.Plan.{Plan}
use Rattle.sd_plan.specs.declared.Duty.{Duty}
use Rattle.sd_plan.specs.Plans.{is_root}
use Rattle.sd_device.specs.Calls as calls
use Rattle.sd_device.specs.Calls.{Past}
use Rattle.sd_device.specs.Words.{epoch_now, is_acting}
use Rattle.sd_sched.specs.declared.Event.{Event}
use Rattle.sd_sched.specs.declared.Event.TheVariants as event
use Rattle.sd_sched.specs.Events.{reference_of}
use Rattle.sd_history.specs.World.{Setting, makes, latest_reference}
use Rattle.sd_history.specs.Steps.{Step, seen_of}
use Rattle.sd_history.specs.Chronicle.{new_past, past_in, chronicle, next_step}
use Rattle.sd_history.proofs.Given.{some_is}
use Rattle.sd_safety.specs.invariant.Bounds.{depth, delay, tick_gap}
use Rattle.sd_safety.specs.invariant.Eras.{era, plan_now, all_started, beginning, heard_at, is_old, on_primary, root_failed}
use Rattle.sd_safety.specs.invariant.Clauses.{is_beginning}
use Rattle.sd_safety.specs.invariant.Invariant.{Invariant, AtEach}
use Rattle.sd_safety.specs.invariant.Silences.{root_failed_at}
use Rattle.sd_safety.specs.invariant.Guarded.{AreGuarded, IsSteady}
use Rattle.sd_safety.specs.invariant.Coming.{IsNextEvent}
use Rattle.sd_safety.proofs.invariant.Closings.{start_closes_none}
use Rattle.sd_safety.proofs.invariant.Facts.{IsSound, sound_now}
use Rattle.sd_safety.proofs.invariant.Prefix.{clean_before}
use Rattle.sd_safety.proofs.invariant.Sides.{not_both}
use Rattle.sd_safety.proofs.behind.EraSums.{late_from_start}
use Rattle.sd_safety.proofs.spans.SilenceStarts.{idle_of}
use Rattle.sd_safety.specs.messages.Moments.{Tail, whole, behind}
use Rattle.sd_safety.proofs.messages.Tails.{tail_trans}
use Rattle.sd_safety.proofs.waits.Waits.{Stands, old_stands}
use Rattle.sd_safety.proofs.windows.Eras.{era_kept}
use Rattle.sd_safety.proofs.moves.Started.{now_is, starts_by}
use Rattle.sd_safety.proofs.receipts.Hearings.{IsStarted, LastHeard, last_heard}
use Rattle.sd_safety.proofs.receipts.Stood.{stood_then, clean_of, each_of}
use Rattle.sd_safety.proofs.traced.Primaries.{heard_by_failure}

-- the beginning stays
pub begins_with : (setting : Setting) (x : Event) (older history : List Event) → Tail (x ∷ older) history
    → beginning (seen_of (chronicle setting history)) ≡ beginning (seen_of (chronicle setting (x ∷ older)))
begins_with setting x older _ whole = refl
begins_with setting x older (e ∷ y ∷ history) (behind t) = begins_with setting x older (y ∷ history) t
begins_with setting x older (e ∷ []) (behind t) = elim t [ ]

-- in the first era the root counts as failed no earlier than all have started
-- who was started was so in the first era, before all had started
pub start_early : (setting : Setting) (fair : AreGuarded setting) (d n : ℕ) (f : Event) (earlier : List Event) → IsSteady setting (f ∷ earlier)
    → AtEach (Invariant setting) (chronicle setting earlier) → makes d f ≡ true → (past : Past)
    → past_in (chronicle setting (f ∷ earlier)) d ≡ Some past → epoch_now past ≡ n → 1 ≤ n
    → (era (chronicle setting earlier) ≡ 1) × (reference_of f ≤ all_started setting (chronicle setting (f ∷ earlier)))
start_early setting fair d n (event.Start r m c clock eps) earlier clean each makes_ past there own one =
    let comes : IsNextEvent setting earlier (event.Start r m c clock eps) = record { fair = fair; clean = clean; before = each } in
    let begins : is_beginning setting (chronicle setting (event.Start r m c clock eps ∷ earlier)) ≡ true =
    subst (λ steps. is_beginning setting steps ≡ true) (sym (now_is setting r m c clock eps earlier comes))
    (starts_by setting r m c clock eps earlier comes) in
    let steps : List Step = chronicle setting (event.Start r m c clock eps ∷ earlier) in
    let parts = and_parts (nat_eq (era steps) 1) (nat_le (latest_reference (seen_of steps)) (all_started setting steps)) begins in
    let shut = start_closes_none setting earlier r m c clock eps clean in (
      sym (era_kept (next_step setting (chronicle setting earlier) (event.Start r m c clock eps)) (chronicle setting earlier) shut)
          ∙ eqb-true (era steps) 1 parts.0,
      leb-true r (all_started setting steps) parts.1,
    )
start_early setting fair d n (event.Join r m c clock eps) earlier clean each makes_ past there own one =
    let blank : past ≡ new_past (calls.Joined (rates_of setting.net m) c clock eps) =
    some_is (sym there
    ∙ ap (λ x. if x then Some (new_past (calls.Joined (rates_of setting.net m) c clock eps)) else past_in (chronicle setting earlier) d) makes_) in
    let zero_ : 0 ≡ n = sym (ap epoch_now blank) ∙ own in
    absurd (omega (arith, zero_, one))
start_early setting fair d n _ earlier clean each makes_ past there own one = cc

-- where the root failed, a backup root that was started and heard nothing since was so before that
pub started_by : (setting : Setting) (x : Event) (h : List Event) (e : Event) (comes : IsNextEvent setting (x ∷ h) e)
    → IsStarted setting (x ∷ h) (plan_now setting (chronicle setting (x ∷ h))).backup_root (era (chronicle setting (x ∷ h)))
    → heard_at (chronicle setting (x ∷ h)) (plan_now setting (chronicle setting (x ∷ h))).backup_root ≤ root_failed_at setting
    (chronicle setting (x ∷ h)) + (depth setting.net + 1) * delay setting.net
started_by setting x h e comes s =
    let steps : List Step = chronicle setting (x ∷ h) in
    let b : ℕ = (plan_now setting steps).backup_root in
    let clean : IsSteady setting (x ∷ h) = clean_before setting e (x ∷ h) comes.clean in
    let early = start_early setting comes.fair b (era steps) s.event s.earlier (clean_of setting (s.event ∷ s.earlier) (x ∷ h) s.tail clean)
    (each_of setting (s.event ∷ s.earlier) (x ∷ h) s.tail comes.before).0 s.makes_ s.past s.there s.own (one_at_least steps) in
    let began : all_started setting (chronicle setting (s.event ∷ s.earlier)) ≡ all_started setting steps =
    ap (λ r. r + tick_gap setting.net) (sym (begins_with setting s.event s.earlier (x ∷ h) s.tail)) in
    let first : nat_eq (era steps) 1 ≡ true = eq-eqb (era steps) 1 (sym s.number ∙ early.0) in
    let bound : all_started setting steps ≤ root_failed_at setting steps = late_from_start (nat_eq (era steps) 1) _ (all_started setting steps) first in
    sum (heard_at steps b) (reference_of s.event) (all_started setting (chronicle setting (s.event ∷ s.earlier))) (all_started setting steps)
    (root_failed_at setting steps) ((depth setting.net + 1) * delay setting.net) s.time early.1 began bound
  where
    one_at_least : (l : List Step) → 1 ≤ era l
    one_at_least l = omega arith

    sum : (a r s t g d : ℕ) → a ≡ r → r ≤ s → s ≡ t → t ≤ g → a ≤ g + d
    sum a r s t g d one two three four = omega (arith, one, two, three, four)

module _ (setting : Setting) (x : Event) (h : List Event) (e : Event) (comes : IsNextEvent setting (x ∷ h) e)
    (failed : root_failed setting (chronicle setting (x ∷ h)) ≡ true)
    (old : is_old (chronicle setting (x ∷ h)) (plan_now setting (chronicle setting (x ∷ h))).backup_root ≡ true)
    (on : on_primary (chronicle setting (x ∷ h)) (plan_now setting (chronicle setting (x ∷ h))).backup_root ≡ true) where
  abbrev steps : List Step
  steps = chronicle setting (x ∷ h)

  abbrev plan : Plan
  plan = plan_now setting (chronicle setting (x ∷ h))

  abbrev b : ℕ
  b = (plan_now setting (chronicle setting (x ∷ h))).backup_root

  clean : IsSteady setting (x ∷ h)
  clean = clean_before setting e (x ∷ h) comes.clean

  fine : IsSound setting.net (plan_now setting (chronicle setting (x ∷ h)))
  fine = sound_now setting (x ∷ h) comes.fair clean.is

  stands : Stands setting (chronicle setting (x ∷ h)) b
  stands = old_stands setting (x ∷ h) b old

  idle : is_acting stands.past ≡ false
  idle = sym stands.acts_is ∙ idle_of steps b on

  own : epoch_now stands.past ≡ era (chronicle setting (x ∷ h))
  own = ap (λ (o : Option Duty). map_or o 0 (λ u. u.epoch)) stands.duty

  longer : (a g k d : ℕ) → a ≤ g + k * d → a ≤ g + (k + 1) * d
  longer a g k d le = let more : (k + 1) * d ≡ k * d + d = omega (arith) in omega (arith, le, more)

  pub primary_hears_no_more : heard_at (chronicle setting (x ∷ h)) b ≤ root_failed_at setting
      (chronicle setting (x ∷ h)) + (depth setting.net + 1) * delay setting.net
  primary_hears_no_more = by (last_heard setting (x ∷ h) clean.is b stands.past stands.there (era steps) own (one_at_least steps) idle)
    where
      one_at_least : (l : List Step) → 1 ≤ era l
      one_at_least l = omega arith

      other : is_root (plan_now setting (chronicle setting (x ∷ h))) b ≡ false
      other = false_from_ne_true (is_root plan b) (λ is. not_both (nat_eq b plan.root) (eq-eqb b plan.root (sym (eqb-true plan.root b is))) fine.apart)

      by : LastHeard setting (x ∷ h) b (era (chronicle setting (x ∷ h)))
          → heard_at (chronicle setting (x ∷ h)) b ≤ root_failed_at setting (chronicle setting (x ∷ h)) + (depth setting.net + 1) * delay setting.net
      by (inr s) = started_by setting x h e comes s
      by (inl heard) =
          longer (heard_at steps b) (root_failed_at setting steps) (depth setting.net) (delay setting.net)
          (heard_by_failure setting x h comes.fair clean comes.before b fine.fits.backup_root fine.backup_member other heard
          (λ y on_ low q inside past there own_. stood_then setting (x ∷ h) comes.fair clean comes.before
          (and_from (is_old steps b) (on_primary steps b) old on) y on_ low q.earlier
          (tail_trans (behind whole) (tail_trans inside heard.inside)) past there own_) failed)
