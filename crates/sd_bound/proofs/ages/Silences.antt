-- For how long a device that comes to hear again is silent at most, at any time: before the failures, while devices move, and once it is at the end of a chain.
use Rattle.std.specs.Prelude.{◌≡◌, ℕ, zero, suc, ◌+◌, ◌*◌, ◌<◌, ◌≤◌, Bool, true, false, max, List, [], ◌∷◌, Option, Some, None, refl, ◌⊎◌}
use Rattle.std.specs.List.{list_all}
use Rattle.std.proofs.Common.{arith, sym, subst, inl, inr}
use Rattle.std.proofs.Math.Nat.{mul-le-mul_right}
use Rattle.std.proofs.lemmas.Bool.{cases_lt, and_from}
use Rattle.sd_plan.specs.declared.topo.Thing.{Thing}
use Rattle.sd_plan.specs.declared.topo.Thing.TheVariants as thing
use Rattle.sd_plan.specs.domain.Domains.{holds}
use Rattle.sd_plan.specs.declared.domain.DomainId.{DomainId}
use Rattle.sd_plan.specs.Plans.{is_member, is_root}
use Rattle.sd_checker.specs.check_reach.Reach.{Fed}
use Rattle.sd_checker.specs.check_root.Timing.{round_gap}
use Rattle.sd_sched.specs.declared.Event.{Event}
use Rattle.sd_sched.specs.Events.{reference_of}
use Rattle.sd_history.specs.Things.{failure_of}
use Rattle.sd_history.specs.World.{Setting, is_up, plan_numbered}
use Rattle.sd_history.specs.Steps.{Step, seen_of, acts_in}
use Rattle.sd_history.specs.Chronicle.{chronicle}
use Rattle.sd_history.proofs.Known.{admitted_up_is_known}
use Rattle.sd_safety.specs.invariant.Bounds.{IsTimedBy, depth, delay, losses, rounds_gap, tick_gap, first_up, second_up, wait_up, first_low, second_low, wait_low}
use Rattle.sd_safety.specs.invariant.Eras.{all_started, is_among, failed_now, heard_at}
use Rattle.sd_safety.specs.invariant.Silences.{AreSilent}
use Rattle.sd_safety.specs.invariant.Coming.{IsNextEvent}
use Rattle.sd_safety.proofs.invariant.Facts.{IsSound}
use Rattle.sd_safety.proofs.invariant.Sides.{not_both}
use Rattle.sd_safety.specs.messages.Moments.{whole, behind, Moment, when, IsIn}
use Rattle.sd_safety.proofs.moves.Starts.{IsUnstaged}
use Rattle.sd_safety.proofs.waits.Standing.{sound}
use Rattle.sd_safety.proofs.silences.SoundWays.{top_of}
use Rattle.sd_bound.specs.timeouts.Settled.{the_plan, IsUnderWay, IsSettled, IsSoundMember, Scene}
use Rattle.sd_bound.proofs.timeouts.Settled.{era_is, first_way}
use Rattle.sd_bound.proofs.timeouts.Scenes.{scene}
use Rattle.sd_bound.proofs.timeouts.Unstaged.{failed_same, none_closed}
use Rattle.sd_bound.specs.traces.Led.{Led, at_source, IsWithin}
use Rattle.sd_bound.proofs.traces.Sounding.{fed_by}
use Rattle.sd_bound.specs.chains.Chains.{Chain, turning, IsTurned}
use Rattle.sd_bound.proofs.chains.Chains.{fed_chain}
use Rattle.sd_bound.specs.ages.Sums.{lag, silence_at_most}
use Rattle.sd_bound.proofs.ages.Beginnings.{not_root, heard_at_first, heard_whole, FirstFailed, failed_or_none, heard_by_failures}
use Rattle.sd_bound.proofs.ages.Takeovers.{takes_over_by}

-- all things that failed are in the domain, and failed at the reference
abbrev pub FailsIn : Setting → List Event → DomainId → ℕ → Type 0
FailsIn setting history f reference = (q : Moment) → IsIn q (chronicle setting history) → (y : Thing) → failure_of q.step.seen.event ≡ Some y
    → (holds setting.net f y ≡ true) × (when q ≡ reference)

failed_more : (s : Step) (steps : List Step) (y : Thing) → s.seen.closed ≡ false → failure_of s.seen.event ≡ Some y
    → failed_now (s ∷ steps) ≡ y ∷ failed_now steps
failed_more s steps y open_ failure = rw (open_, failure) refl

-- so what failed in the era is in it
all_inside : (setting : Setting) (f : DomainId) (steps : List Step)
    → ((q : Moment) → IsIn q steps → (y : Thing) → failure_of q.step.seen.event ≡ Some y → holds setting.net f y ≡ true)
    → list_all (holds setting.net f) (failed_now steps) ≡ true
all_inside setting f [] each = refl
all_inside setting f (s ∷ earlier) each = by s.seen.closed refl (all_inside setting f earlier (λ q here. each q (behind here)))
  where
    go : s.seen.closed ≡ false → (o : Option Thing) → failure_of s.seen.event ≡ o → list_all (holds setting.net f) (failed_now earlier) ≡ true
        → list_all (holds setting.net f) (failed_now (s ∷ earlier)) ≡ true
    go open_ None failure rest = subst (λ l. list_all (holds setting.net f) l ≡ true) (sym (failed_same s earlier open_ failure)) rest
    go open_ (Some y) failure rest =
        subst (λ l. list_all (holds setting.net f) l ≡ true) (sym (failed_more s earlier y open_ failure))
        (and_from (holds setting.net f y) (list_all (holds setting.net f) (failed_now earlier))
        (each (record { step = s; earlier = earlier }) whole y failure) rest)

    by : (c : Bool) → s.seen.closed ≡ c → list_all (holds setting.net f) (failed_now earlier) ≡ true
        → list_all (holds setting.net f) (failed_now (s ∷ earlier)) ≡ true
    by true closed rest = subst (λ l. list_all (holds setting.net f) l ≡ true) (sym (none_closed s earlier closed)) refl
    by false open_ rest = go open_ (failure_of s.seen.event) refl rest

-- Sums

pub turned_by : (k h d p q l1 f1 l2 f2 lw up calm : ℕ) → IsTimedBy k h d p q l1 f1 l2 f2 lw
    → (calm + (2 * (h + 1) + 1) * d + (up + q) ≤ calm + max (f1 + f2 + 2 * q + (h + 1) * d) (up + q + (2 * (h + 1) + 1) * d))
    × (calm + (2 * (h + 1) + 1) * d + (f1 + q) ≤ calm + max (f1 + f2 + 2 * q + (h + 1) * d) (up + q + (2 * (h + 1) + 1) * d))
    × (calm + (h + 1) * d + f1 + f2 + 2 * q ≤ calm + max (f1 + f2 + 2 * q + (h + 1) * d) (up + q + (2 * (h + 1) + 1) * d))
turned_by k h d p q l1 f1 l2 f2 lw up calm timed =
    let long = timed.second_long in
    let order = timed.second_order in (
      first_of calm (f1 + f2 + 2 * q + (h + 1) * d) (up + q) ((2 * (h + 1) + 1) * d),
      second_of long order,
      third_of calm f1 f2 (2 * q) ((h + 1) * d)
          (up + q + (2 * (h + 1) + 1) * d),
    )
  where
    first_of : (c a u m : ℕ) → c + m + u ≤ c + max a (u + m)
    first_of c a u m = omega arith

    third_of : (c a b s m z : ℕ) → c + m + a + b + s ≤ c + max (a + b + s + m) z
    third_of c a b s m z = omega arith

    second_of : 2 * ((k + 2) * p + 4 * (h + 1) * d + q) ≤ l2 → l2 ≤ f2
        → calm + (2 * (h + 1) + 1) * d + (f1 + q) ≤ calm + max (f1 + f2 + 2 * q + (h + 1) * d) (up + q + (2 * (h + 1) + 1) * d)
    second_of long order = omega (arith, long, order)

pub within_lag : (r h l t w : ℕ) → r ≤ h + l → r ≤ h + (l + t + w)
within_lag r h l t w le = omega (arith, le)

within_turning : (r h c l t w : ℕ) → r ≤ c + t → c ≤ h + l → r ≤ h + (l + t + w)
within_turning r h c l t w one two = omega (arith, one, two)

within_chain : (r h c l t a m n : ℕ) → r ≤ max (c + t) h + a + m → c ≤ h + l → m ≤ n → r ≤ h + (l + t + (a + n))
within_chain r h c l t a m n one two three = omega (arith, one, two, three)

-- Once nothing fails any more, in any era

module _ (setting : Setting) (epoch : ℕ) (silent : AreSilent setting) (x : Event) (h : List Event) (e : Event) (calm : ℕ)
    (settled : IsSettled setting epoch (x ∷ h) e calm) (f : DomainId) (inside : list_all (holds setting.net f) (failed_now (chronicle setting (x ∷ h))) ≡ true)
    (d : ℕ) (well : IsSoundMember setting epoch (failed_now (chronicle setting (x ∷ h))) d) (idle : acts_in (chronicle setting (x ∷ h)) d ≡ false)
    (fed : Fed setting.net (the_plan setting epoch) f d) (long : ℕ) (within : IsWithin setting epoch f d long) (short : long ≤ depth setting.net + 1)
    (heard_then : calm ≤ heard_at (chronicle setting (x ∷ h)) d + lag setting.net) where
  abbrev steps' : List Step
  steps' = chronicle setting (x ∷ h)

  abbrev limit : ℕ
  limit = calm + turning setting.net (the_plan setting epoch)

  abbrev Heard : Type 0
  Heard = reference_of e ≤ heard_at (chronicle setting (x ∷ h)) d + silence_at_most setting.net (the_plan setting epoch)

  fine : IsSound setting.net (the_plan setting epoch)
  fine = subst (λ n. IsSound setting.net (plan_numbered setting n)) (era_is setting epoch (x ∷ h) e calm settled) (sound setting x h e settled.comes)

  turned : IsTurned setting.net (the_plan setting epoch) calm limit
  turned =
      let net = setting.net in
      let plan = the_plan setting epoch in
      let t = turned_by (losses net) (depth net) (delay net) (round_gap net) (tick_gap net) (first_low net plan) (first_up net plan) (second_low net plan)
      (second_up net plan) (wait_low net plan) (wait_up net plan) calm fine.timed in
      record { wait = t.0; first = t.1; takeover = t.2 }

  takeover_soon : (q : Moment) → IsIn q (chronicle setting (e ∷ x ∷ h)) → calm < when q
      → is_among (failed_now (chronicle setting (x ∷ h))) (thing.Device (the_plan setting epoch).root) ≡ true
      → acts_in q.earlier (the_plan setting epoch).backup_root ≡ false → when q ≤ limit
  takeover_soon q here q_late lost still =
      let by = takes_over_by setting epoch (x ∷ h) e calm settled silent.takeover q here q_late lost still in
      let le = turned.takeover in
      upto_ (when q) _ limit by le
    where
      upto_ : (a b c : ℕ) → a ≤ b → b ≤ c → a ≤ c
      upto_ a b c one two = omega (arith, one, two)

  by_chain : limit < reference_of e → (c : Chain setting epoch (failed_now (chronicle setting (x ∷ h))) (top_of setting (x ∷ h) e) limit d long) → (n : ℕ)
      → Led setting epoch (failed_now (chronicle setting (x ∷ h))) (top_of setting (x ∷ h) e) limit c.source d n → n ≤ long + (depth setting.net + 1) → Heard
  by_chain past c zero at_source few = absurd (not_both (acts_in steps' d) (c.acts (top_of setting (x ∷ h) e) whole past) idle)
  by_chain past c (suc n) led few =
      let by = fed_by setting epoch x h e calm settled c.source c.well limit (from calm (turning setting.net (the_plan setting epoch))) c.acts d n led
      (omega (arith, few, short)) in
      let most : (n + 1) * delay setting.net ≤ 2 * (depth setting.net + 1) * delay setting.net =
      mul-le-mul_right (delay setting.net) (omega (arith, few, short)) in
      within_chain (reference_of e) (heard_at steps' d) calm (lag setting.net) (turning setting.net (the_plan setting epoch)) (rounds_gap setting.net)
      ((n + 1) * delay setting.net) (2 * (depth setting.net + 1) * delay setting.net) by heard_then most
    where
      from : (a b : ℕ) → a ≤ a + b
      from a b = omega arith

  -- the silence of a device that had heard lately by then
  pub after_failures : reference_of e ≤ heard_at (chronicle setting (x ∷ h)) d + silence_at_most setting.net (the_plan setting epoch)
  after_failures = go (cases_lt limit (reference_of e))
    where
      go : (limit < reference_of e) ⊎ (reference_of e ≤ limit)
          → reference_of e ≤ heard_at (chronicle setting (x ∷ h)) d + silence_at_most setting.net (the_plan setting epoch)
      go (inr le) =
          within_turning (reference_of e) (heard_at steps' d) calm (lag setting.net) (turning setting.net (the_plan setting epoch))
          (rounds_gap setting.net + 2 * (depth setting.net + 1) * delay setting.net) le heard_then
      go (inl past) =
          let c : Chain setting epoch (failed_now (chronicle setting (x ∷ h))) (top_of setting (x ∷ h) e) limit d long =
          fed_chain setting epoch x h e calm settled f inside limit turned past takeover_soon long d fed well within short in
          by_chain past c c.hops c.led c.short

-- In the first era

module _ (setting : Setting) (silent : AreSilent setting) (x : Event) (h : List Event) (e : Event) (comes : IsNextEvent setting (x ∷ h) e)
    (unstaged : IsUnstaged (seen_of (chronicle setting (e ∷ x ∷ h)))) (f : DomainId) (reference : ℕ)
    (fails_in : FailsIn setting (e ∷ x ∷ h) f reference) (d : ℕ) (up : is_up (seen_of (chronicle setting (x ∷ h))) d ≡ true)
    (member : is_member (the_plan setting 1) d ≡ true) (idle : acts_in (chronicle setting (x ∷ h)) d ≡ false)
    (fed : Fed setting.net (the_plan setting 1) f d) (long : ℕ) (within : IsWithin setting 1 f d long) (short : long ≤ depth setting.net + 1) where
  abbrev steps : List Step
  steps = chronicle setting (x ∷ h)

  abbrev begun : ℕ
  begun = all_started setting (chronicle setting (e ∷ x ∷ h))

  abbrev Soon : Type 0
  Soon = reference_of e ≤ heard_at (chronicle setting (x ∷ h)) d + silence_at_most setting.net (the_plan setting 1)

  -- while members may start yet
  at_first : reference_of e ≤ begun → Soon
  at_first le =
      within_lag (reference_of e) (heard_at steps d) (lag setting.net) (turning setting.net (the_plan setting 1))
      (rounds_gap setting.net + 2 * (depth setting.net + 1) * delay setting.net) (heard_at_first setting x h e comes d up le)

  way_from : (calm : ℕ) → begun ≤ calm → IsUnderWay setting 1 (x ∷ h) e calm
  way_from calm le = first_way setting (x ∷ h) e calm comes unstaged le

  least : (n : ℕ) → n ≤ n
  least n = omega arith

  module _ (late : begun < reference_of e) where
    way : IsUnderWay setting 1 (x ∷ h) e begun
    way = way_from begun (least begun)

    sc : Scene setting 1 (failed_now (chronicle setting (x ∷ h))) (top_of setting (x ∷ h) e)
    sc = scene setting 1 x h e begun way late

    well : IsSoundMember setting 1 (failed_now (chronicle setting (x ∷ h))) d
    well = record { known = admitted_up_is_known setting (x ∷ h) comes.clean.is.0 d up; member = member; self = sc.well d up member }

    other : is_root (the_plan setting 1) d ≡ false
    other = not_root setting 1 x h e begun way late d well idle

    -- nothing failed so far
    before_failures : failed_now (chronicle setting (x ∷ h)) ≡ [] → Soon
    before_failures none =
        within_lag (reference_of e) (heard_at steps d) (lag setting.net) (turning setting.net (the_plan setting 1))
        (rounds_gap setting.net + 2 * (depth setting.net + 1) * delay setting.net)
        (heard_whole setting 1 x h e begun way late none d well other silent.whole)

    module _ (first : FirstFailed (chronicle setting (x ∷ h))) where
      abbrev calm : ℕ
      calm = max (when first.moment) (all_started setting (chronicle setting (e ∷ x ∷ h)))

      heard_then : calm ≤ heard_at (chronicle setting (x ∷ h)) d + lag setting.net
      heard_then = heard_by_failures setting 1 x h e way late silent.whole d well other first

      -- all that failed failed with the first
      at_once : (q : Moment) → IsIn q (chronicle setting (e ∷ x ∷ h)) → (y : Thing) → failure_of q.step.seen.event ≡ Some y → when q ≤ calm
      at_once q here y failure =
          let one : when q ≡ reference = (fails_in q here y failure).1 in
          let two : when first.moment ≡ reference = (fails_in first.moment (behind first.is_in) first.thing_ first.failure).1 in
          same (when q) (when first.moment) reference (all_started setting (chronicle setting (e ∷ x ∷ h))) one two
        where
          same : (a b r s : ℕ) → a ≡ r → b ≡ r → a ≤ max b s
          same a b r s one two = omega (arith, one, two)

      settled : IsSettled setting 1 (x ∷ h) e calm
      settled =
          record {
            comes = comes;
            way = way_from calm (more (when first.moment) begun);
            unfailed = λ q here q_late. by q here q_late (failure_of q.step.seen.event) refl;
          }
        where
          more : (a b : ℕ) → b ≤ max a b
          more a b = omega arith

          by : (q : Moment) → IsIn q (chronicle setting (e ∷ x ∷ h)) → calm < when q → (o : Option Thing) → failure_of q.step.seen.event ≡ o
              → failure_of q.step.seen.event ≡ None
          by q here q_late None is = is
          by q here q_late (Some y) is = let le = at_once q here y is in absurd (omega (arith, le, q_late))

      inside : list_all (holds setting.net f) (failed_now (chronicle setting (x ∷ h))) ≡ true
      inside = all_inside setting f steps (λ q here y failure. (fails_in q (behind here) y failure).0)

      then_ : Soon
      then_ = after_failures setting 1 silent x h e calm settled f inside d well idle fed long within short heard_then

    once_started : Soon
    once_started = go (failed_or_none steps)
      where
        go : (failed_now (chronicle setting (x ∷ h)) ≡ []) ⊎ FirstFailed (chronicle setting (x ∷ h)) → Soon
        go (inl none) = before_failures none
        go (inr first) = then_ first

  -- at any time
  pub silent_at_most : reference_of e ≤ heard_at (chronicle setting (x ∷ h)) d + silence_at_most setting.net (the_plan setting 1)
  silent_at_most = go (cases_lt begun (reference_of e))
    where
      go : (begun < reference_of e) ⊎ (reference_of e ≤ begun)
          → reference_of e ≤ heard_at (chronicle setting (x ∷ h)) d + silence_at_most setting.net (the_plan setting 1)
      go (inl late) = once_started late
      go (inr le) = at_first le
