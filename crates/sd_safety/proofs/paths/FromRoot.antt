-- What an old backup root on its primary heard last of the era's plan came down its path: the root emitted it, at most H * D before, and it went over each
-- link and each device of the path.
use Rattle.std.specs.Prelude.{◌≡◌, ℕ, ◌+◌, ◌*◌, ◌≤◌, Bool, true, false, ◌||◌, List, [], ◌∷◌, map, nat_eq, Some, refl, if◌then◌else◌}
use Rattle.std.specs.List.{list_any}
use Rattle.std.proofs.Common.{ap, sym, subst}
use Rattle.std.proofs.lemmas.Bool.{and_from, or_left, or_right, eqb-true, eq-eqb, false_from_ne_true}
use Rattle.sd_num.specs.Lists.{has}
use Rattle.sd_plan.specs.declared.topo.Thing.{Thing}
use Rattle.sd_plan.specs.declared.topo.Thing.TheVariants as thing
use Rattle.sd_plan.specs.declared.Hop as declared
use Rattle.sd_plan.specs.declared.Plan.{Plan}
use Rattle.sd_plan.specs.Plans.{is_root, primary_of}
use Rattle.sd_plan.specs.Walks.{hops, walk, path, end_of}
use Rattle.sd_device.specs.Calls.{Past}
use Rattle.sd_device.specs.Words.{epoch_now, has_moved, is_acting}
use Rattle.sd_sched.specs.declared.Event.{Event}
use Rattle.sd_history.specs.World.{Setting, link_has_failed}
use Rattle.sd_history.specs.Steps.{Step, seen_of}
use Rattle.sd_history.specs.Chronicle.{past_in, chronicle}
use Rattle.sd_safety.proofs.invariant.Parts.{premises_of}
use Rattle.sd_safety.specs.invariant.Bounds.{depth, delay}
use Rattle.sd_safety.specs.invariant.Eras.{era, plan_now, is_old, on_primary}
use Rattle.sd_safety.specs.invariant.Guarded.{IsSteady}
use Rattle.sd_safety.specs.invariant.Coming.{IsNextEvent}
use Rattle.sd_safety.proofs.invariant.Facts.{IsSound, sound_now}
use Rattle.sd_safety.proofs.invariant.Prefix.{clean_before}
use Rattle.sd_safety.proofs.invariant.Sides.{implied, not_both}
use Rattle.sd_safety.specs.messages.Moments.{whole, behind, IsChronicle, Moment, upto, when, IsIn}
use Rattle.sd_safety.specs.messages.Traces.{Hop, Trace, Traced}
use Rattle.sd_safety.proofs.messages.Tails.{tail_trans, tail_chronicle, history_chronicle}
use Rattle.sd_safety.proofs.messages.Tracing.{accepted_traced}
use Rattle.sd_safety.proofs.messages.Latest.{trace_first}
use Rattle.sd_safety.proofs.silences.WalkWays.{walk_walks}
use Rattle.sd_safety.specs.frame.Descents.{TakesFromAbove}
use Rattle.sd_safety.proofs.frame.Descending.{takes_from_above}
use Rattle.sd_safety.proofs.frame.Telling.{links_tell}
use Rattle.sd_safety.proofs.receipts.Hearings.{IsHeard}
use Rattle.sd_safety.proofs.receipts.Stood.{stood_then}
use Rattle.sd_safety.proofs.traced.UpTheWalk.{FromRoot, from_root}
use Rattle.sd_safety.proofs.traced.Roots.{root_takes_none}
use Rattle.sd_safety.proofs.paths.Crossed.{over_primary, crossed}

module _ (setting : Setting) (x : Event) (h : List Event) (e : Event) (comes : IsNextEvent setting (x ∷ h) e)
    (old : is_old (chronicle setting (x ∷ h)) (plan_now setting (chronicle setting (x ∷ h))).backup_root ≡ true)
    (on : on_primary (chronicle setting (x ∷ h)) (plan_now setting (chronicle setting (x ∷ h))).backup_root ≡ true)
    (heard : IsHeard setting (x ∷ h) (plan_now setting (chronicle setting (x ∷ h))).backup_root (era (chronicle setting (x ∷ h)))) where
  abbrev steps : List Step
  steps = chronicle setting (x ∷ h)

  abbrev plan : Plan
  plan = plan_now setting (chronicle setting (x ∷ h))

  abbrev b : ℕ
  b = (plan_now setting (chronicle setting (x ∷ h))).backup_root

  abbrev n : ℕ
  n = era (chronicle setting (x ∷ h))

  clean : IsSteady setting (x ∷ h)
  clean = clean_before setting e (x ∷ h) comes.clean

  all : IsChronicle setting (chronicle setting (x ∷ h))
  all = history_chronicle setting (x ∷ h) clean.is

  fine : IsSound setting.net (plan_now setting (chronicle setting (x ∷ h)))
  fine = sound_now setting (x ∷ h) comes.fair clean.is

  other : is_root (plan_now setting (chronicle setting (x ∷ h))) b ≡ false
  other = false_from_ne_true (is_root plan b) (λ is. not_both (nat_eq b plan.root) (eq-eqb b plan.root (sym (eqb-true plan.root b is))) fine.apart)

  abbrev on_path : ℕ → Bool
  on_path y = nat_eq y b || has (map (λ (z : declared.Hop). z.parent) (walk setting.net (plan_now setting (chronicle setting (x ∷ h))) b)) y

  stood : (y : ℕ) → on_path y ≡ true → is_root (plan_now setting (chronicle setting (x ∷ h))) y ≡ false → (q : Moment) → IsIn q (upto heard.moment)
      → (past : Past) → past_in q.earlier y ≡ Some past
      → epoch_now past ≡ era (chronicle setting (x ∷ h)) → (has_moved past ≡ false) × (is_acting past ≡ false)
  stood y on_ low q inside past there own =
      stood_then setting (x ∷ h) comes.fair clean comes.before (and_from (is_old steps b) (on_primary steps b) old on) y on_ low q.earlier
      (tail_trans (behind whole) (tail_trans inside heard.inside)) past there own

  pub traced : Traced setting heard.message.stamp heard.message.epoch heard.moment b
  traced =
      accepted_traced setting steps all (premises_of setting (seen_of steps) clean.premises).delay heard.moment heard.inside b heard.link heard.message
      heard.counter heard.past heard.edge heard.there heard.act heard.over

  pub trace : Trace setting heard.message.stamp (era (chronicle setting (x ∷ h))) traced.first traced.source traced.hops heard.moment b
  trace = subst (λ k. Trace setting heard.message.stamp k traced.first traced.source traced.hops heard.moment b) heard.epoch traced.trace

  pub first_in : IsIn traced.first (chronicle setting (x ∷ h))
  first_in = tail_trans (trace_first setting heard.message.stamp n traced.first traced.source traced.hops heard.moment b trace) heard.inside

  pub within : (q : Moment) → IsIn q (upto heard.moment) → IsIn q (chronicle setting (x ∷ h))
  within q inside = tail_trans inside heard.inside

  down : (y : ℕ) → on_path y ≡ true → is_root plan y ≡ false → (q : Moment) → IsIn q (upto heard.moment)
      → TakesFromAbove setting plan heard.message.stamp (era (chronicle setting (x ∷ h))) q y
  down y on_ low q inside =
      takes_from_above setting (links_tell comes.fair) heard.message.stamp n q y (tail_chronicle setting (within q inside) all)
      (λ past there own. stood y on_ low q inside past there own)

  straight : (y : ℕ) → on_path y ≡ true → is_root plan y ≡ false → (q : Moment) → IsIn q (upto heard.moment) → (from : Moment) (z : ℕ)
      → (hop : Hop setting heard.message.stamp (era (chronicle setting (x ∷ h))) from z q y) → (k : declared.Hop)
      → primary_of plan y ≡ Some k → k.link ≡ hop.flight.link
  straight y on_ low q inside from z hop k primary =
      over_primary setting heard.message.stamp n from q z y (tail_chronicle setting (within q inside) all) hop
      (λ past there own. stood y on_ low q inside past there own) k primary

  relays_none : (q : Moment) → IsIn q (upto heard.moment) → (from : Moment) (z : ℕ)
      → Hop setting heard.message.stamp (era (chronicle setting (x ∷ h))) from z q plan.root → ⊥
  relays_none q inside from z hop = root_takes_none setting (x ∷ h) comes.fair clean comes.before q (within q inside) heard.message.stamp from z hop

  walk_is : walk setting.net plan b ≡ hops (is_root plan) plan setting.net.params.depth b
  walk_is = ap (λ r. if r then [] else hops (is_root plan) plan setting.net.params.depth b) other

  reach : is_root plan (end_of b (hops (is_root plan) plan setting.net.params.depth b)) ≡ true
  reach = subst (λ hs. is_root plan (end_of b hs) ≡ true) walk_is (implied _ _ (fine.rules.reaches b fine.fits.backup_root) fine.backup_member)

  self : on_path b ≡ true
  self = or_left (nat_eq b b) (has (map (λ (k : declared.Hop). k.parent) (walk setting.net plan b)) b) (eq-eqb b b refl)

  sent_by_root : FromRoot setting plan heard.message.stamp n heard.moment on_path down relays_none traced.first traced.source heard.moment
      setting.net.params.depth
  sent_by_root =
      from_root setting plan heard.message.stamp n heard.moment on_path down relays_none traced.first traced.source setting.net.params.depth heard.moment b
      traced.hops trace whole self other
      (λ z a. or_right (nat_eq z b) (has (map (λ (k : declared.Hop). k.parent) (walk setting.net plan b)) z)
      (subst (λ hs. has (map (λ (k : declared.Hop). k.parent) hs) z ≡ true) (sym walk_is) a)) reach

  pub by_root : traced.source ≡ (plan_now setting (chronicle setting (x ∷ h))).root
  by_root = sent_by_root.source_is

  pub took : when heard.moment ≤ when traced.first + depth setting.net * delay setting.net
  took = sent_by_root.time

  -- what is false of each link that it crossed, and of each device that sent it on, is false of the path
  pub crossed_path : (bad : Thing → Bool)
      → ((from : Moment) → IsIn traced.first (upto from) → IsIn from (upto heard.moment) → (l : ℕ) → link_has_failed (seen_of from.earlier) l ≡ false
      → bad (thing.Link l) ≡ false)
      → ((from : Moment) → IsIn traced.first (upto from) → IsIn from (upto heard.moment) → (m z : ℕ)
      → Trace setting heard.message.stamp (era (chronicle setting (x ∷ h))) traced.first traced.source m from z → bad (thing.Device z) ≡ false)
      → list_any bad (path setting.net (plan_now setting (chronicle setting (x ∷ h))) b) ≡ false
  crossed_path bad links senders =
      crossed setting plan heard.message.stamp n heard.moment on_path down straight traced.first traced.source bad links senders (walk setting.net plan b) b
      (walk_walks setting.net plan b other) heard.moment traced.hops trace whole self
      (λ z a. or_right (nat_eq z b) (has (map (λ (k : declared.Hop). k.parent) (walk setting.net plan b)) z) a)
