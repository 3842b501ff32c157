-- After a renewal the run since the latest closing is one under one plan, with no window open. So devices hear again as they do under a first plan; and by the
-- first failure since the closing each had heard lately, since nothing had failed.
use Rattle.std.specs.Prelude.{◌≡◌, ℕ, ◌+◌, ◌-◌, ◌*◌, ◌<◌, ◌≤◌, Bool, true, false, ◌&&◌, ◌||◌, not, List, [], ◌∷◌, length, nat_eq, nat_le, nat_lt, Option, Some, None, is_some, refl, ◌⊎◌}
use Rattle.std.specs.List.{list_all}
use Rattle.std.proofs.Common.{arith, sym, ◌∙◌, subst, inl, inr}
use Rattle.std.proofs.lemmas.Bool.{and_parts, and_from, leb-true, eqb-true, lt-ltb, cases_lt, not_from_false, false_from_ne_true}
use Rattle.sd_num.specs.Lists.{leading}
use Rattle.sd_plan.specs.topo.Network.{rates_of}
use Rattle.sd_plan.specs.declared.topo.Thing.{Thing}
use Rattle.sd_plan.specs.declared.topo.Thing.TheVariants as thing
use Rattle.sd_plan.specs.declared.domain.DomainId.{DomainId}
use Rattle.sd_plan.specs.Plans.{is_member, is_root}
use Rattle.sd_drill.specs.ages.Ages.{ageing}
use Rattle.sd_drill.specs.declared.Budget.{Budget}
use Rattle.sd_drill.specs.Drill.{source, root_halves}
use Rattle.sd_checker.specs.check_reach.Reach.{Fed}
use Rattle.sd_checker.specs.check_root.Timing.{silence}
use Rattle.sd_num.proofs.Shared.{none_if_not_some}
use Rattle.sd_device.specs.Words.{estimate_now, report_at}
use Rattle.sd_sched.specs.declared.Event.{Event}
use Rattle.sd_sched.specs.declared.Event.TheVariants as event
use Rattle.sd_sched.specs.Events.{reference_of}
use Rattle.sd_history.specs.Things.{failure_of}
use Rattle.sd_history.specs.World.{Setting, Seen, is_up, window, joined_in_window, is_counted, plan_numbered}
use Rattle.sd_history.specs.Steps.{Step, seen_of, acts_in}
use Rattle.sd_history.specs.Chronicle.{chronicle}
use Rattle.sd_history.specs.Premises.{first_reference}
use Rattle.sd_history.proofs.Known.{admitted_up_is_known}
use Rattle.sd_history.proofs.Owned.{rates_are_own}
use Rattle.sd_history.proofs.Owning.{own_pasts}
use Rattle.sd_safety.specs.invariant.Bounds.{depth, delay, tick_gap, rounds_gap}
use Rattle.sd_safety.specs.invariant.Eras.{era, plan_now, beginning, is_among, failed_now, belongs, root_lives, heard_at}
use Rattle.sd_safety.specs.invariant.Guarded.{AreGuarded, IsSteady}
use Rattle.sd_safety.specs.invariant.Coming.{IsNextEvent}
use Rattle.sd_safety.proofs.invariant.Prefix.{clean_before}
use Rattle.sd_safety.proofs.invariant.Sides.{implied, not_both}
use Rattle.sd_safety.specs.messages.Moments.{Tail, whole, behind, IsChronicle, Moment, upto, when, IsIn}
use Rattle.sd_safety.proofs.messages.Tails.{rest_of, history_chronicle, earlier_is_before}
use Rattle.sd_safety.proofs.messages.Flowing.{tail_rest}
use Rattle.sd_safety.specs.timers.Times.{AreTimed}
use Rattle.sd_safety.proofs.timers.CalmBeginning.{first_within}
use Rattle.sd_safety.proofs.waits.Standing.{now, steps_timed}
use Rattle.sd_safety.proofs.windows.Eras.{era_kept}
use Rattle.sd_safety.proofs.silences.Phases.{open_at, era_grows}
use Rattle.sd_safety.proofs.silences.SoundWays.{top_of}
use Rattle.sd_safety.proofs.whole.Kept.{comes}
use Rattle.sd_safety.proofs.whole.Silent.{are_silent}
use Rattle.sd_bound.specs.Hearing.{IsServed, recovery}
use Rattle.sd_bound.specs.Renewed.{IsRenewed, IsSettledIn}
use Rattle.sd_bound.specs.RenewedBound.{IsRenewedSince, HearsAgainRenewed, IsHitOnce, AgesHoldRenewed, BoundHoldsRenewed}
use Rattle.sd_bound.specs.ages.Sums.{lag, silence_at_most}
use Rattle.sd_bound.specs.chains.Chains.{turning}
use Rattle.sd_bound.specs.timeouts.Settled.{IsUnderWay, IsSettled, IsSoundMember}
use Rattle.sd_bound.specs.traces.Led.{IsWithin}
use Rattle.sd_bound.proofs.Bounded.{worst_covers}
use Rattle.sd_bound.proofs.Composing.{aged}
use Rattle.sd_bound.proofs.Hearing.{coming, all_seen, at_moment, none_fails, served}
use Rattle.sd_bound.proofs.Renewed.{stays_settled}
use Rattle.sd_bound.proofs.timeouts.Unstaged.{shut_tail, uncommitted, unjoined}
use Rattle.sd_bound.proofs.timeouts.Settled.{not_after}
use Rattle.sd_bound.proofs.timeouts.Scenes.{scene, up_unfailed}
use Rattle.sd_bound.proofs.ages.Beginnings.{FirstFailed, failed_or_none, heard_rises}
use Rattle.sd_bound.proofs.ages.Silences.{within_lag, after_failures}
use Rattle.sd_bound.proofs.ages.Ages.{age_within, counted_member}

-- Eras

pub none_more : 1 < 1 → ⊥
none_more le = omega (arith, le)

-- where no window closes, the era stays
era_stays : (older steps : List Step) → Tail older steps → ((r : Moment) → IsIn r steps → Tail older r.earlier → r.step.seen.closed ≡ false)
    → era older ≡ era steps
era_stays older _ whole none = refl
era_stays older _ (behind {x = s} {xs = xs} t) none =
    era_stays older xs t (λ r here since. none r (behind here) since) ∙ sym (era_kept s xs (none (record { step = s; earlier = xs }) whole t))

unclosed : (c b : Bool) → (not c || b) ≡ true → (b ≡ true → ⊥) → c ≡ false
unclosed false b h never = refl
unclosed true b h never = absurd (never h)

-- a history in which a window closed by a reference began by then
closing_began : (setting : Setting) (since : ℕ) (s : Step) (earlier : List Step) → AreTimed setting (s ∷ earlier) → s.seen.closed ≡ true
    → (not s.seen.closed || nat_le (reference_of s.seen.event) since) ≡ true → beginning (seen_of (s ∷ earlier)) ≤ since
closing_began setting since s earlier timed_ closed is =
    let first : first_reference (seen_of earlier) s.seen ≤ reference_of s.seen.event = first_within setting s earlier timed_ in
    let le : reference_of s.seen.event ≤ since =
    leb-true (reference_of s.seen.event) since (implied s.seen.closed (nat_le (reference_of s.seen.event) since) is closed) in
    omega (arith, first, le)

began_by : (setting : Setting) (since : ℕ) (steps : List Step) → AreTimed setting steps → 1 < era steps
    → list_all (λ (s : Seen). not s.closed || nat_le (reference_of s.event) since) (seen_of steps) ≡ true → beginning (seen_of steps) ≤ since
began_by setting since [] timed_ more all = absurd (none_more more)
began_by setting since (s ∷ []) timed_ more all = by s.seen.closed refl
  where
    by : (c : Bool) → s.seen.closed ≡ c → beginning (seen_of (s ∷ [])) ≤ since
    by true closed =
        closing_began setting since s [] timed_ closed (and_parts (not s.seen.closed || nat_le (reference_of s.seen.event) since) true all).0
    by false open_ = absurd (none_more (subst (λ n. 1 < n) (era_kept s [] open_) more))
began_by setting since (s ∷ y ∷ ys) timed_ more all =
    by s.seen.closed refl (λ more_. began_by setting since (y ∷ ys) timed_.0 more_ parts.1)
  where
    parts : ((not s.seen.closed || nat_le (reference_of s.seen.event) since) ≡ true)
        × (list_all (λ (x : Seen). not x.closed || nat_le (reference_of x.event) since) (seen_of (y ∷ ys)) ≡ true)
    parts =
        and_parts (not s.seen.closed || nat_le (reference_of s.seen.event) since)
        (list_all (λ (x : Seen). not x.closed || nat_le (reference_of x.event) since) (seen_of (y ∷ ys))) all

    by : (c : Bool) → s.seen.closed ≡ c → (1 < era (y ∷ ys) → beginning (seen_of (y ∷ ys)) ≤ since) → beginning (seen_of (s ∷ y ∷ ys)) ≤ since
    by true closed rest = closing_began setting since s (y ∷ ys) timed_ closed parts.0
    by false open_ rest = rest (subst (λ n. 1 < n) (era_kept s (y ∷ ys) open_) more)

-- what is said of all that was seen since the latest closing is said of each event of the era
leading_more : (s : Step) (steps : List Step) → s.seen.closed ≡ false
    → leading (λ (x : Seen). not x.closed) (seen_of (s ∷ steps)) ≡ s.seen ∷ leading (λ (x : Seen). not x.closed) (seen_of steps)
leading_more s steps open_ = rw (open_) refl

leading_parts : (test : Seen → Bool) (s : Step) (steps : List Step) → s.seen.closed ≡ false
    → list_all test (leading (λ (x : Seen). not x.closed) (seen_of (s ∷ steps))) ≡ true
    → (test s.seen ≡ true) × (list_all test (leading (λ (x : Seen). not x.closed) (seen_of steps)) ≡ true)
leading_parts test s steps open_ all =
    and_parts (test s.seen) (list_all test (leading (λ (x : Seen). not x.closed) (seen_of steps)))
    (subst (λ l. list_all test l ≡ true) (leading_more s steps open_) all)

in_era : (test : Seen → Bool) (steps : List Step) → list_all test (leading (λ (x : Seen). not x.closed) (seen_of steps)) ≡ true → (q : Moment)
    → IsIn q steps → era steps ≤ era q.earlier → test q.step.seen ≡ true
in_era test [] all q here le = elim here [ ]
in_era test (s ∷ earlier) all q whole le = (leading_parts test s earlier (open_at s earlier le) all).0
in_era test (s ∷ earlier) all q (behind t) le =
    let grows = era_grows q.earlier earlier (rest_of t) in
    let open_ : s.seen.closed ≡ false = open_at s earlier (omega (arith, le, grows)) in
    in_era test earlier (leading_parts test s earlier open_ all).1 q t (subst (λ n. n ≤ era q.earlier) (era_kept s earlier open_) le)

-- Events

-- a history began no later than any event of it
began_before : (setting : Setting) (steps : List Step) → AreTimed setting steps → (q : Moment) → IsIn q steps → beginning (seen_of steps) ≤ when q
began_before setting [] timed_ q here = elim here [ ]
began_before setting (s ∷ earlier) timed_ q whole = first_within setting s earlier timed_
began_before setting (s ∷ []) timed_ q (behind t) = elim t [ ]
began_before setting (s ∷ y ∷ ys) timed_ q (behind t) = began_before setting (y ∷ ys) timed_.0 q t

-- a moment in a later era is an event that comes after another
record EventAt (setting : Setting) (q : Moment) : Type 0 where
  e : Event
  x : Event
  h : List Event
  is : q ≡ top_of setting (x ∷ h) e
  clean : IsSteady setting (e ∷ x ∷ h)

event_at : (setting : Setting) (history : List Event) → IsSteady setting history → (q : Moment) → IsIn q (chronicle setting history) → 1 < era q.earlier
    → EventAt setting q
event_at setting [] clean q here more = elim here [ ]
event_at setting (e ∷ []) clean q whole more = absurd (none_more more)
event_at setting (e ∷ []) clean q (behind t) more = elim t [ ]
event_at setting (e ∷ x ∷ h) clean q whole more = record { e = e; x = x; h = h; is = refl; clean = clean }
event_at setting (e ∷ x ∷ h) clean q (behind t) more = event_at setting (x ∷ h) (clean_before setting e (x ∷ h) clean) q t more

-- Who is up outside a window

-- a root that is up acts
up_root_acts : (setting : Setting) (x : Event) (h : List Event) (e : Event) → IsNextEvent setting (x ∷ h) e
    → window (seen_of (chronicle setting (x ∷ h))) ≡ None → (d : ℕ) → is_up (seen_of (chronicle setting (x ∷ h))) d ≡ true
    → is_member (plan_now setting (chronicle setting (x ∷ h))) d ≡ true → is_root (plan_now setting (chronicle setting (x ∷ h))) d ≡ true
    → acts_in (chronicle setting (x ∷ h)) d ≡ true
up_root_acts setting x h e next shut d up member root =
    let steps : List Step = chronicle setting (x ∷ h) in
    let same : (plan_now setting steps).root ≡ d = eqb-true (plan_now setting steps).root d root in
    let lives : root_lives setting steps ≡ true =
    subst (λ y. (is_up (seen_of steps) y && not (is_among (failed_now steps) (thing.Device y))) ≡ true) (sym same)
    (and_from (is_up (seen_of steps) d) (not (is_among (failed_now steps) (thing.Device d))) up
    (not_from_false (is_among (failed_now steps) (thing.Device d))
    (up_unfailed setting (x ∷ h) (now setting x h e next).core shut d up member))) in
    subst (λ y. acts_in steps y ≡ true) same
    (implied (root_lives setting steps) (acts_in steps (plan_now setting steps).root) (now setting x h e next).core.roles.root lives)

-- what a counted device is
pub record IsCounted (setting : Setting) (history : List Event) (d : ℕ) : Type 0 where
  pub up : is_up (seen_of (chronicle setting history)) d ≡ true
  pub member : is_member (plan_now setting (chronicle setting history)) d ≡ true
  pub known : d < length setting.net.devices

pub counted_so : (setting : Setting) (history : List Event) (e : Event) → IsNextEvent setting history e → window (seen_of (chronicle setting history)) ≡ None
    → (d : ℕ) → is_counted setting (seen_of (chronicle setting history)) d ≡ true → IsCounted setting history d
counted_so setting history e next shut d counted =
    let live = counted_member (is_up (seen_of (chronicle setting history)) d) (is_member (plan_now setting (chronicle setting history)) d)
    (joined_in_window (seen_of (chronicle setting history)) d) counted (unjoined (seen_of (chronicle setting history)) d shut) in
    record { up = live.0; member = live.1; known = admitted_up_is_known setting history next.clean.is.0 d live.0 }

no_first : (n : ℕ) → 1 < n → n ≡ 1 → ⊥
no_first n more same = omega (arith, more, same)

least_of : (a b : ℕ) → a ≡ b → b ≤ a
least_of a b is = omega (arith, is)

-- Hearing again

module _ (setting : Setting) (f : DomainId) (since : ℕ) (e x : Event) (h : List Event) (fair : AreGuarded setting) (clean : IsSteady setting (e ∷ x ∷ h))
    (quiet : IsRenewedSince setting f since e (x ∷ h))
    (late : since + recovery setting.net (plan_now setting (chronicle setting (x ∷ h))) < reference_of e) where
  comes_ : IsNextEvent setting (x ∷ h) e
  comes_ = comes setting (x ∷ h) e fair clean

  chronicle_ : IsChronicle setting (chronicle setting (e ∷ x ∷ h))
  chronicle_ = history_chronicle setting (e ∷ x ∷ h) clean.is

  shut : window (seen_of (chronicle setting (x ∷ h))) ≡ None
  shut = none_if_not_some (window (seen_of (chronicle setting (x ∷ h)))) quiet.hit.shut

  -- at an event that is later the plan in force is the same
  same_since : (q : Moment) → IsIn q (chronicle setting (e ∷ x ∷ h)) → since < when q → era q.earlier ≡ era (chronicle setting (x ∷ h))
  same_since q here q_late =
      era_stays q.earlier (chronicle setting (x ∷ h)) (tail_rest here)
      (λ r r_in t.
      unclosed r.step.seen.closed (nat_le (when r) since)
      (at_moment (λ (s : Seen). not s.closed || nat_le (reference_of s.event) since) (chronicle setting (x ∷ h)) quiet.closed r r_in)
      (λ is. never (when q) (when r) q_late (not_after setting (chronicle setting (e ∷ x ∷ h)) q r chronicle_ here (behind r_in) t)
      (leb-true (when r) since is)))
    where
      never : (a b : ℕ) → since < a → a ≤ b → b ≤ since → ⊥
      never a b one two three = omega (arith, one, two, three)

  way_since : IsUnderWay setting (era (chronicle setting (x ∷ h))) (x ∷ h) e since
  way_since =
      record {
        comes = comes_;
        shut = shut;
        now = refl;
        same = same_since;
        begun = began_by setting since (chronicle setting (x ∷ h)) (steps_timed setting x h e comes_) quiet.hit.renewed quiet.closed;
        started = λ first. absurd (no_first (era (chronicle setting (x ∷ h))) quiet.hit.renewed first);
      }

  settled_since : IsSettled setting (era (chronicle setting (x ∷ h))) (x ∷ h) e since
  settled_since =
      record {
        comes = comes_;
        way = way_since;
        unfailed = λ q here q_late.
            none_fails (failure_of q.step.seen.event) (nat_le (when q) since)
            (at_moment (λ (s : Seen). not (is_some (failure_of s.event)) || nat_le (reference_of s.event) since) (chronicle setting (e ∷ x ∷ h))
            (all_seen setting (λ y. not (is_some (failure_of y)) || nat_le (reference_of y) since) (e ∷ x ∷ h) quiet.unfailed) q here)
            (λ is. never (when q) q_late (leb-true (when q) since is));
      }
    where
      never : (r : ℕ) → since < r → r ≤ since → ⊥
      never r one two = omega (arith, one, two)

  later_at : since < reference_of e
  later_at = by (recovery setting.net (plan_now setting (chronicle setting (x ∷ h)))) late
    where
      by : (t : ℕ) → since + t < reference_of e → since < reference_of e
      by t less = omega (arith, less)

  late_at : since + turning setting.net (plan_now setting (chronicle setting (x ∷ h))) + coming setting.net < reference_of e
  late_at = by (tick_gap setting.net) (turning setting.net (plan_now setting (chronicle setting (x ∷ h)))) (coming setting.net) late
    where
      by : (q t c : ℕ) → since + (q + t + c) < reference_of e → since + t + c < reference_of e
      by q t c less = omega (arith, less)

  hears_so : (d : ℕ) → is_counted setting (seen_of (chronicle setting (x ∷ h))) d ≡ true
      → Fed setting.net (plan_now setting (chronicle setting (x ∷ h))) f d → (long : ℕ)
      → IsWithin setting (era (chronicle setting (x ∷ h))) f d long → long ≤ depth setting.net + 1
      → IsServed (chronicle setting (x ∷ h)) d since (reference_of e - silence setting.net)
  hears_so d counted fed long within short =
      let c : IsCounted setting (x ∷ h) d = counted_so setting (x ∷ h) e comes_ shut d counted in
      let well : IsSoundMember setting (era (chronicle setting (x ∷ h))) (failed_now (chronicle setting (x ∷ h))) d =
      record { known = c.known; member = c.member; self = (scene setting (era (chronicle setting (x ∷ h))) x h e since way_since later_at).well d c.up c.member } in
      served setting (era (chronicle setting (x ∷ h))) (are_silent setting) x h e since settled_since f quiet.hit.inside long short late_at d well fed within

pub hears_again_renewed : (setting : Setting) (f : DomainId) → HearsAgainRenewed setting f
hears_again_renewed setting f since e [] fair clean quiet budget d w worst counted late = absurd (none_more quiet.hit.renewed)
hears_again_renewed setting f since e (x ∷ h) fair clean quiet budget d w worst counted late =
    hears_so setting f since e x h fair clean quiet late d counted worst.fed worst.long (λ hops walked. worst.is_long.greatest hops walked) worst.short_enough

-- How old an estimate is

failed_then : (o : Option Thing) (b : Bool) (y : Thing) → o ≡ Some y → (not (is_some o) || b) ≡ true → b ≡ true
failed_then None b y is h = cc
failed_then (Some z) b y is h = h

module _ (setting : Setting) (f : DomainId) (at reference d counter : ℕ) (x : Event) (h : List Event) (fair : AreGuarded setting)
    (clean : IsSteady setting (event.Ask reference d counter ∷ x ∷ h)) (struck : IsHitOnce setting f at (chronicle setting (x ∷ h)))
    (counted : is_counted setting (seen_of (chronicle setting (x ∷ h))) d ≡ true) (idle : acts_in (chronicle setting (x ∷ h)) d ≡ false)
    (fed : Fed setting.net (plan_now setting (chronicle setting (x ∷ h))) f d) (long : ℕ)
    (within : IsWithin setting (era (chronicle setting (x ∷ h))) f d long) (short : long ≤ depth setting.net + 1) where
  abbrev steps : List Step
  steps = chronicle setting (x ∷ h)

  abbrev asks : Event
  asks = event.Ask reference d counter

  abbrev epoch : ℕ
  epoch = era (chronicle setting (x ∷ h))

  abbrev Soon : Type 0
  Soon = reference ≤ heard_at (chronicle setting (x ∷ h)) d + silence_at_most setting.net (plan_now setting (chronicle setting (x ∷ h)))

  next_ : IsNextEvent setting (x ∷ h) (event.Ask reference d counter)
  next_ = comes setting (x ∷ h) (event.Ask reference d counter) fair clean

  all_chronicle_ : IsChronicle setting (chronicle setting (event.Ask reference d counter ∷ x ∷ h))
  all_chronicle_ = history_chronicle setting (event.Ask reference d counter ∷ x ∷ h) clean.is

  none_open : window (seen_of (chronicle setting (x ∷ h))) ≡ None
  none_open = none_if_not_some (window (seen_of (chronicle setting (x ∷ h)))) struck.hit.shut

  is_live : IsCounted setting (x ∷ h) d
  is_live = counted_so setting (x ∷ h) (event.Ask reference d counter) next_ none_open d counted

  other : is_root (plan_now setting (chronicle setting (x ∷ h))) d ≡ false
  other =
      false_from_ne_true (is_root (plan_now setting steps) d)
      (λ is. not_both (acts_in steps d) (up_root_acts setting x h asks next_ none_open d is_live.up is_live.member is) idle)

  -- where nothing had failed before an event of the era, the device had heard lately
  heard_before : (y r : Event) (rest : List Event) → IsSteady setting (y ∷ r ∷ rest) → Tail (chronicle setting (r ∷ rest)) (chronicle setting (x ∷ h))
      → era (chronicle setting (r ∷ rest)) ≡ era (chronicle setting (x ∷ h)) → failed_now (chronicle setting (r ∷ rest)) ≡ []
      → reference_of y ≤ heard_at (chronicle setting (r ∷ rest)) d + lag setting.net
  heard_before y r rest steady t same none =
      let shut_then : window (seen_of (chronicle setting (r ∷ rest))) ≡ None =
      shut_tail (chronicle setting (r ∷ rest)) steps t (least_of (era (chronicle setting (r ∷ rest))) (era steps) same) none_open in
      let renewed : IsRenewed (chronicle setting (r ∷ rest)) =
      record {
        renewed = subst (λ n. 1 < n) (sym same) struck.hit.renewed;
        unfailed = none;
        uncommitted = uncommitted (seen_of (chronicle setting (r ∷ rest))) shut_then;
      } in
      let belongs_ : belongs setting.net (plan_now setting (chronicle setting (r ∷ rest))) d ≡ true =
      and_from (nat_lt d (length setting.net.devices)) (is_member (plan_now setting (chronicle setting (r ∷ rest))) d)
      (lt-ltb d (length setting.net.devices) is_live.known) (subst (λ n. is_member (plan_numbered setting n) d ≡ true) (sym same) is_live.member) in
      let stands : IsSettledIn setting (chronicle setting (r ∷ rest)) (reference_of y) d = stays_settled setting y (r ∷ rest) fair steady renewed d belongs_ in
      stands.hears (subst (λ n. is_root (plan_numbered setting n) d ≡ false) (sym same) other)

  -- nothing failed in the era
  before_failures : failed_now (chronicle setting (x ∷ h)) ≡ [] → Soon
  before_failures none =
      within_lag reference (heard_at steps d) (lag setting.net) (turning setting.net (plan_now setting steps))
      (rounds_gap setting.net + 2 * (depth setting.net + 1) * delay setting.net) (heard_before asks x h clean whole refl none)

  module _ (first : FirstFailed (chronicle setting (x ∷ h))) where
    -- what failed in the era failed with the first
    failed_at : (q : Moment) → IsIn q (chronicle setting (x ∷ h)) → era (chronicle setting (x ∷ h)) ≤ era q.earlier → (y : Thing)
        → failure_of q.step.seen.event ≡ Some y → when q ≡ at
    failed_at q here le y failure =
        eqb-true (when q) at
        (failed_then (failure_of q.step.seen.event) (nat_eq (when q) at) y failure
        (in_era (λ (s : Seen). not (is_some (failure_of s.event)) || nat_eq (reference_of s.event) at) steps struck.once q here le))

    first_at : when first.moment ≡ at
    first_at = failed_at first.moment first.is_in (least_of (era first.moment.earlier) (era steps) first.same) first.thing_ first.failure

    -- each event that is later comes after it
    same_later : (q : Moment) → IsIn q (chronicle setting (event.Ask reference d counter ∷ x ∷ h)) → when first.moment < when q
        → era q.earlier ≡ era (chronicle setting (x ∷ h))
    same_later q here late =
        let t : Tail (upto first.moment) q.earlier =
        earlier_is_before setting (chronicle setting (asks ∷ x ∷ h)) first.moment q all_chronicle_ (behind first.is_in) here late in
        let up_to : era first.moment.earlier ≤ era q.earlier = era_grows first.moment.earlier q.earlier (rest_of t) in
        let down : era q.earlier ≤ era steps = era_grows q.earlier steps (tail_rest here) in
        by (era first.moment.earlier) (era q.earlier) (era steps) first.same up_to down
      where
        by : (a b n : ℕ) → a ≡ n → a ≤ b → b ≤ n → b ≡ n
        by a b n one two three = omega (arith, one, two, three)

    -- nothing fails later
    fails_not : (q : Moment) → IsIn q (chronicle setting (x ∷ h)) → when first.moment < when q → (o : Option Thing) → failure_of q.step.seen.event ≡ o
        → failure_of q.step.seen.event ≡ None
    fails_not q here late None is = is
    fails_not q here late (Some y) is =
        absurd (never (when first.moment) (when q) at first_at
        (failed_at q here (least_of (era q.earlier) (era steps) (same_later q (behind here) late)) y is) late)
      where
        never : (a b n : ℕ) → a ≡ n → b ≡ n → a < b → ⊥
        never a b n one two three = omega (arith, one, two, three)

    unfailed_later : (q : Moment) → IsIn q (chronicle setting (event.Ask reference d counter ∷ x ∷ h)) → when first.moment < when q
        → failure_of q.step.seen.event ≡ None
    unfailed_later q whole late = refl
    unfailed_later q (behind t) late = fails_not q t late (failure_of q.step.seen.event) refl

    way_later : IsUnderWay setting (era (chronicle setting (x ∷ h))) (x ∷ h) (event.Ask reference d counter) (when first.moment)
    way_later =
        record {
          comes = next_;
          shut = none_open;
          now = refl;
          same = same_later;
          begun = began_before setting steps (steps_timed setting x h asks next_) first.moment first.is_in;
          started = λ is. absurd (no_first epoch struck.hit.renewed is);
        }

    settled_later : IsSettled setting (era (chronicle setting (x ∷ h))) (x ∷ h) (event.Ask reference d counter) (when first.moment)
    settled_later = record { comes = next_; way = way_later; unfailed = unfailed_later }

    -- by the first failure it had heard lately
    heard_then : when first.moment ≤ heard_at (chronicle setting (x ∷ h)) d + lag setting.net
    heard_then =
        let ev : EventAt setting first.moment =
        event_at setting (x ∷ h) (clean_before setting asks (x ∷ h) clean) first.moment first.is_in (subst (λ n. 1 < n) (sym first.same) struck.hit.renewed) in
        let then_ : reference_of ev.e ≤ heard_at (chronicle setting (ev.x ∷ ev.h)) d + lag setting.net =
        heard_before ev.e ev.x ev.h ev.clean (subst (λ (q : Moment). Tail q.earlier steps) ev.is (rest_of first.is_in))
        (subst (λ (q : Moment). era q.earlier ≡ era steps) ev.is first.same) (subst (λ (q : Moment). failed_now q.earlier ≡ []) ev.is first.none) in
        rises (when first.moment) (heard_at first.moment.earlier d) (heard_at steps d) (lag setting.net)
        (subst (λ (q : Moment). when q ≤ heard_at q.earlier d + lag setting.net) (sym ev.is) then_)
        (heard_rises setting first.moment.earlier steps d (rest_of first.is_in) (steps_timed setting x h asks next_))
      where
        rises : (w a b l : ℕ) → w ≤ a + l → a ≤ b → w ≤ b + l
        rises w a b l one two = omega (arith, one, two)

    since_failures : Soon
    since_failures = go (cases_lt (when first.moment) reference)
      where
        upto_ : (a b n : ℕ) → a ≤ b → b ≤ n → a ≤ n
        upto_ a b n one two = omega (arith, one, two)

        go : (when first.moment < reference) ⊎ (reference ≤ when first.moment) → Soon
        go (inr le) =
            within_lag reference (heard_at steps d) (lag setting.net) (turning setting.net (plan_now setting steps))
            (rounds_gap setting.net + 2 * (depth setting.net + 1) * delay setting.net)
            (upto_ reference (when first.moment) (heard_at steps d + lag setting.net) le heard_then)
        go (inl late) =
            let well : IsSoundMember setting epoch (failed_now steps) d =
            record {
              known = is_live.known;
              member = is_live.member;
              self = (scene setting epoch x h asks (when first.moment) way_later late).well d is_live.up is_live.member;
            } in
            after_failures setting epoch (are_silent setting) x h asks (when first.moment) settled_later f struck.hit.inside d well idle fed long within short
            heard_then

  silent_so : Soon
  silent_so = go (failed_or_none steps)
    where
      go : (failed_now (chronicle setting (x ∷ h)) ≡ []) ⊎ FirstFailed (chronicle setting (x ∷ h)) → Soon
      go (inl none) = before_failures none
      go (inr first) = since_failures first

pub ages_hold_renewed : (setting : Setting) (f : DomainId) → AgesHoldRenewed setting f
ages_hold_renewed setting f at reference d counter [] past fair clean struck counted there idle far oldest covered = absurd (none_more struck.hit.renewed)
ages_hold_renewed setting f at reference d counter (x ∷ h) past fair clean struck counted there idle far oldest covered =
    aged past (rates_of setting.net d) counter oldest (rates_are_own setting.net d past (own_pasts setting (x ∷ h) d past there))
    (age_within setting x h reference d counter fair.network (comes setting (x ∷ h) (event.Ask reference d counter) fair clean) past there
    (silence_at_most setting.net (plan_now setting (chronicle setting (x ∷ h)))) oldest
    (silent_so setting f at reference d counter x h fair clean struck counted idle covered.fed covered.long
    (λ hops walked. covered.is_long.greatest hops walked) covered.short_enough) covered.covers)

-- The bound

within_worst : (eps base most far age w rest : ℕ) → eps ≤ base + age → base ≤ most + far → w ≡ most + rest + far + age → eps ≤ w
within_worst eps base most far age w rest one two sum = omega (arith, one, two, sum)

held_worst : (eps base most far age w rest held : ℕ) → eps ≤ base + held → base + held ≤ most → w ≡ most + rest + far + age → eps ≤ w
held_worst eps base most far age w rest held one two sum = omega (arith, one, two, sum)

pub bound_holds_renewed : (setting : Setting) (budget : Budget) (f : DomainId) → BoundHoldsRenewed setting budget f
bound_holds_renewed setting budget f at reference d counter history past fair clean struck counted there held based w worst =
    by (acts_in (chronicle setting history) d) refl
  where
    by : (b : Bool) → acts_in (chronicle setting history) d ≡ b → (report_at past counter).eps ≤ w
    by true acts =
        held_worst (report_at past counter).eps (estimate_now past).base (source setting.net (plan_now setting (chronicle setting history)) budget) worst.far (ageing (rates_of setting.net d) worst.oldest) w
        (root_halves setting.net (plan_now setting (chronicle setting history))) (ageing (rates_of setting.net d) budget.hold)
        (aged past (rates_of setting.net d) counter budget.hold (rates_are_own setting.net d past (own_pasts setting history d past there)) (held acts))
        (based.acting acts) worst.sum
    by false idle =
        within_worst (report_at past counter).eps (estimate_now past).base (source setting.net (plan_now setting (chronicle setting history)) budget) worst.far
        (ageing (rates_of setting.net d) worst.oldest) w (root_halves setting.net (plan_now setting (chronicle setting history)))
        (ages_hold_renewed setting f at reference d counter history past fair clean struck counted there idle worst.far worst.oldest
        (worst_covers setting.net (plan_now setting (chronicle setting history)) budget f d w worst))
        (based.walked worst.far worst.is_far) worst.sum
