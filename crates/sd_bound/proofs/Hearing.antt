-- Each device with a bound hears again: once all had time to move it is at the end of a chain, along which a round soon comes. That round was sent since the
-- latest failure, for its way is short.
use Rattle.std.specs.Prelude.{◌≡◌, ℕ, zero, suc, ◌+◌, ◌-◌, ◌*◌, ◌/◌, ◌<◌, ◌≤◌, Bool, true, false, ◌||◌, not, max, List, [], ◌∷◌, nat_le, Option, Some, None, is_some, refl, ◌⊎◌}
use Rattle.std.specs.List.{list_all, list_any}
use Rattle.std.proofs.Common.{arith, sym, ◌∙◌, subst, inl, inr}
use Rattle.std.proofs.Math.Nat.{mul-le-mul_right}
use Rattle.std.proofs.lemmas.Bool.{and_parts, and_from, leb-true, cases_lt}
use Rattle.std.proofs.lemmas.Nat.{mul-le}
use Rattle.sd_num.specs.Lists.{map_or}
use Rattle.sd_num.specs.Numbers.{grow, low}
use Rattle.sd_num.specs.declared.Rates.{Rates}
use Rattle.sd_plan.specs.topo.Network.{Network, rates_of}
use Rattle.sd_plan.specs.topo.Limits.{IsNetwork}
use Rattle.sd_plan.specs.declared.topo.Thing.{Thing}
use Rattle.sd_plan.specs.declared.topo.Thing.TheVariants as thing
use Rattle.sd_plan.specs.domain.Domains.{holds}
use Rattle.sd_plan.specs.declared.domain.DomainId.{DomainId}
use Rattle.sd_plan.specs.declared.Plan.{Plan}
use Rattle.sd_plan.specs.Plans.{Fits, is_member}
use Rattle.sd_checker.specs.check_reach.Reach.{Fed}
use Rattle.sd_checker.specs.check_root.Timing.{round_gap, silence}
use Rattle.sd_checker.specs.Conditions.{IsAccepted}
use Rattle.sd_device.specs.declared.msg.Stamp.{Stamp}
use Rattle.sd_device.specs.declared.msg.Message.{Message}
use Rattle.sd_sched.specs.declared.Event.{Event}
use Rattle.sd_sched.specs.Events.{reference_of, is_stage}
use Rattle.sd_history.specs.Things.{failure_of}
use Rattle.sd_history.specs.World.{Setting, Seen, makes, is_up, joined_in_window, is_counted, plan_numbered, alone}
use Rattle.sd_history.specs.Steps.{Step, seen_of, acts_in}
use Rattle.sd_history.specs.Chronicle.{chronicle, next_step}
use Rattle.sd_history.proofs.Known.{admitted_up_is_known}
use Rattle.sd_safety.proofs.invariant.Parts.{premises_of, accepted_is_guarded, all_are_more}
use Rattle.sd_history.proofs.Admitted.{history_is_admitted}
use Rattle.sd_drill.specs.declared.Budget.{Budget}
use Rattle.sd_drill.specs.Drill.{IsWorst, quiet, source, root_halves}
use Rattle.sd_safety.specs.invariant.Bounds.{depth, delay, losses, rounds_gap, tick_gap, first_up, second_up, wait_up, first_low, second_low, wait_low}
use Rattle.sd_safety.specs.invariant.Coming.{IsNextEvent}
use Rattle.sd_safety.specs.invariant.Eras.{era, beginning, all_started, is_among, failed_now, does, hears, heard_at}
use Rattle.sd_safety.specs.invariant.Silences.{AreSilent}
use Rattle.sd_safety.specs.messages.Moments.{Tail, whole, behind, Moment, upto, when, IsIn, IsBefore, Emits}
use Rattle.sd_safety.specs.messages.Traces as traces
use Rattle.sd_safety.specs.messages.Traces.{Trace, begins, goes_on, Traced, stands, hops_on}
use Rattle.sd_safety.specs.timers.Times.{AreTimed}
use Rattle.sd_safety.proofs.invariant.Facts.{IsSound}
use Rattle.sd_safety.proofs.messages.Chains.{chain_time}
use Rattle.sd_safety.proofs.messages.Latest.{trace_first, trace_emits}
use Rattle.sd_safety.proofs.messages.Tails.{tail_trans}
use Rattle.sd_safety.proofs.messages.Tracing.{accepted_traced}
use Rattle.sd_safety.proofs.moves.Starts.{IsUnstaged, no_window, first_era}
use Rattle.sd_safety.proofs.silences.Phases.{Following, following}
use Rattle.sd_safety.proofs.silences.SoundWays.{top_of}
use Rattle.sd_safety.proofs.timers.CalmBeginning.{first_within}
use Rattle.sd_safety.proofs.timers.Histories.{timed}
use Rattle.sd_safety.proofs.waits.Standing.{times, sound}
use Rattle.sd_safety.proofs.whole.Kept.{comes}
use Rattle.sd_safety.proofs.whole.Silent.{are_silent}
use Rattle.sd_safety.proofs.frame.Standing.{chosen}
use Rattle.sd_bound.specs.timeouts.Settled.{the_plan, IsUnderWay, IsSettled, IsSoundMember, Scene}
use Rattle.sd_bound.specs.traces.Led.{Led, at_source, IsWithin}
use Rattle.sd_bound.specs.chains.Chains.{Chain, passing, turning, IsTurned}
use Rattle.sd_bound.proofs.histories.Failures.{era_within}
use Rattle.sd_bound.proofs.histories.Plain.{none_any}
use Rattle.sd_bound.proofs.histories.Standing.{each_one}
use Rattle.sd_bound.proofs.timeouts.Unstaged.{unstaged_before, unjoined}
use Rattle.sd_bound.proofs.timeouts.Settled.{first_way, all_chronicle}
use Rattle.sd_bound.proofs.timeouts.Scenes.{scene, scene_at}
use Rattle.sd_bound.proofs.traces.Emitters.{well_emitter}
use Rattle.sd_bound.proofs.traces.Lengths.{Outcome, trace_short}
use Rattle.sd_bound.proofs.traces.Served.{acts_after}
use Rattle.sd_bound.proofs.traces.Sounding.{fed_by}
use Rattle.sd_bound.proofs.chains.Chains.{fed_chain}
use Rattle.sd_bound.proofs.chains.Hearing.{HeardAt, heard_moment, HeardBy, heard_by, receipt_epoch}
use Rattle.sd_bound.proofs.ages.Takeovers.{takes_over_by}
use Rattle.sd_bound.proofs.ages.Silences.{turned_by}
use Rattle.sd_bound.proofs.ages.Ages.{counted_member}
use Rattle.sd_bound.specs.Hearing.{IsServed, recovery, IsUndisturbedSince, HearsAgain, HearsByAge, HearsByBound}
use Rattle.sd_bound.specs.Steady.{IsSteadySince, AlwaysHearsAgain, AlwaysHearsByAge, AlwaysHearsByBound}

-- Sums

-- a round comes down in this time (the last part of the recovery)
abbrev pub coming : Network → ℕ
coming net = rounds_gap net + 2 * (depth net + 1) * delay net

-- a round comes down, and had come so far, within a silence
news_is_fresh : (net : Network) → coming net + 2 * (depth net + 1) * delay net ≤ silence net
news_is_fresh net = by (losses net) (depth net) (delay net) (round_gap net)
  where
    by : (k h d p : ℕ) → (k + 1) * p + 2 * (h + 1) * d + 2 * (h + 1) * d ≤ (k + 2) * p + 4 * (h + 1) * d
    by k h d p = omega arith

-- a trace takes no longer than its hops
trace_chain : {setting : Setting} {stamp : Stamp} {epoch : ℕ} {first : Moment} {source m : ℕ} {p : Moment} {d : ℕ}
    → Trace setting stamp epoch first source m p d → traces.Chain setting stamp epoch first source m p d
trace_chain (begins message emits carries epoch_is) = stands
trace_chain (goes_on trace hop) = hops_on (trace_chain trace) hop

heard_since : (r l h c : ℕ) → r ≤ max l h + c → l + c < r → (l < h) × (r ≤ h + c)
heard_since r l h c by late = (omega (arith, by, late), omega (arith, by, late))

ago : (r p f c m n w : ℕ) → r ≤ p + c → p ≤ f + m → m ≤ n → c + n ≤ w → r - w ≤ f
ago r p f c m n w by came le fits = omega (arith, by, came, le, fits)

no_time : (p calm t m limit w : ℕ) → p ≤ calm + m → m ≤ t → calm + t + w ≤ limit → limit < p → ⊥
no_time p calm t m limit w by le turned late = omega (arith, by, le, turned, late)

-- Once nothing fails any more

module _ (setting : Setting) (epoch : ℕ) (silent : AreSilent setting) (x : Event) (h : List Event) (e : Event) (calm : ℕ) (settled : IsSettled setting epoch (x ∷ h) e calm)
    (f : DomainId) (inside : list_all (holds setting.net f) (failed_now (chronicle setting (x ∷ h))) ≡ true) (long : ℕ) (short : long ≤ depth setting.net + 1)
    (late : calm + turning setting.net (the_plan setting epoch) + coming setting.net < reference_of e) where
  abbrev steps : List Step
  steps = chronicle setting (x ∷ h)

  abbrev plan : Plan
  plan = the_plan setting epoch

  abbrev limit : ℕ
  limit = calm + turning setting.net (the_plan setting epoch)

  abbrev Well : ℕ → Type 0
  Well y = IsSoundMember setting epoch (failed_now (chronicle setting (x ∷ h))) y

  past_limit : calm + turning setting.net (the_plan setting epoch) < reference_of e
  past_limit = omega (arith, late)

  after_limit : (n : ℕ) → limit < n → calm < n
  after_limit n less = omega (arith, less)

  fine : IsSound setting.net (the_plan setting epoch)
  fine =
      subst (λ n. IsSound setting.net (plan_numbered setting n)) settled.way.now (sound setting x h e settled.comes)

  turned : IsTurned setting.net (the_plan setting epoch) calm (calm + turning setting.net (the_plan setting epoch))
  turned =
      let net = setting.net in
      let t = turned_by (losses net) (depth net) (delay net) (round_gap net) (tick_gap net) (first_low net plan) (first_up net plan) (second_low net plan)
      (second_up net plan) (wait_low net plan) (wait_up net plan) calm fine.timed in
      record { wait = t.0; first = t.1; takeover = t.2 }

  takeover_soon : (q : Moment) → IsIn q (chronicle setting (e ∷ x ∷ h)) → calm < when q
      → is_among (failed_now (chronicle setting (x ∷ h))) (thing.Device (the_plan setting epoch).root) ≡ true
      → acts_in q.earlier (the_plan setting epoch).backup_root ≡ false → when q ≤ calm + turning setting.net (the_plan setting epoch)
  takeover_soon q here q_late lost still =
      let by = takes_over_by setting epoch (x ∷ h) e calm settled silent.takeover q here q_late lost still in
      let le = turned.takeover in
      upto_ (when q) _ _ by le
    where
      upto_ : (a b c : ℕ) → a ≤ b → b ≤ c → a ≤ c
      upto_ a b c one two = omega (arith, one, two)

  -- What a receipt tells

  -- who sent a round after the failures, and lately, and acts since
  record IsSent (stamp : Stamp) (first : Moment) (source : ℕ) : Type 0 where
    later : calm < when first
    recent : reference_of e - silence setting.net ≤ when first
    message : Message
    emits : Emits first source message
    carries : message.stamp ≡ stamp
    epoch_is : message.epoch ≡ epoch
    acted : acts_in (upto first) source ≡ true
    acts : acts_in (chronicle setting (x ∷ h)) source ≡ true

  sent : (stamp : Stamp) (first : Moment) (source m : ℕ) (p : Moment) (y : ℕ) → (trace : Trace setting stamp epoch first source m p y)
      → IsIn p (chronicle setting (x ∷ h)) → limit < when p → reference_of e ≤ when p + coming setting.net → IsWithin setting epoch f y long
      → IsSent stamp first source
  sent stamp first source m p y trace here p_late by_now within =
      let first_in : IsIn first (chronicle setting (x ∷ h)) = tail_trans (trace_first setting stamp epoch first source m p y trace) here in
      let (message, emits, carries, epoch_is) = trace_emits setting stamp epoch first source m p y trace in
      let well : Well source = well_emitter setting epoch (x ∷ h) e calm settled first first_in came.0 source message emits in
      let since : (q : Moment) → IsIn q (chronicle setting (e ∷ x ∷ h)) → IsBefore first q → acts_in q.earlier source ≡ true =
      acts_after setting epoch (x ∷ h) e calm settled first came.0 source message emits well in
      let n : Following first (top_of setting (x ∷ h) e) = following first (next_step setting steps e) steps first_in in
      record {
        later = came.0;
        recent = ago (reference_of e) (when p) (when first) (coming setting.net) (m * delay setting.net) (2 * (depth setting.net + 1) * delay setting.net)
            (silence setting.net) by_now (chain_time setting stamp epoch first source m p y (trace_chain trace))
            (mul-le-mul_right (delay setting.net) (few came.1)) (news_is_fresh setting.net);
        message = message;
        emits = emits;
        carries = carries;
        epoch_is = epoch_is;
        acted = subst (λ l. acts_in l source ≡ true) n.earlier_is (since n.moment n.is_in (subst (λ l. Tail (upto first) l) (sym n.earlier_is) whole));
        acts = since (top_of setting (x ∷ h) e) whole first_in;
      }
    where
      outcome : Outcome setting epoch (x ∷ h) e calm settled first p m (long + (depth setting.net + 1))
      outcome = trace_short setting epoch (x ∷ h) e calm settled f inside trace (behind here) (after_limit (when p) p_late) long within

      few : m ≤ long + (depth setting.net + 1) → m ≤ 2 * (depth setting.net + 1)
      few le = omega (arith, le, short)

      by : Outcome setting epoch (x ∷ h) e calm settled first p m (long + (depth setting.net + 1)) → (calm < when first) × (m ≤ long + (depth setting.net + 1))
      by (inl both) = both
      by (inr soon) =
          absurd (no_time (when p) calm (passing setting.net) ((long + (depth setting.net + 1) + 1) * delay setting.net) limit
          (wait_up setting.net plan + tick_gap setting.net) soon (mul-le-mul_right (delay setting.net) (omega (arith, short))) turned.wait p_late)

      came : (calm < when first) × (m ≤ long + (depth setting.net + 1))
      came = by outcome

  -- so a device at which a round came then is served
  told : {stamp : Stamp} {first : Moment} {source m : ℕ} {p : Moment} {y : ℕ} → (trace : Trace setting stamp epoch first source m p y)
      → IsIn p (chronicle setting (x ∷ h)) → limit < when p → reference_of e ≤ when p + coming setting.net → IsWithin setting epoch f y long
      → IsServed (chronicle setting (x ∷ h)) y calm (reference_of e - silence setting.net)
  told {stamp} {first} {source} (begins message emits carries epoch_is) here p_late by_now within =
      inl (sent stamp first source zero first source (begins message emits carries epoch_is) here p_late by_now within).acts
  told {stamp} {first} {source} (goes_on {m = m} {from = from} {x = z} {to = p} {d = y} trace hop) here p_late by_now within =
      let s : IsSent stamp first source = sent stamp first source (suc m) p y (goes_on trace hop) here p_late by_now within in
      inr (record {
        receipt = p;
        is_in = here;
        flight = hop.flight;
        accepts = hop.receipt;
        emission = first;
        is_before = tail_trans (trace_first setting stamp epoch first source m from z trace) hop.before;
        root = source;
        message = s.message;
        emits = s.emits;
        same_stamp = s.carries ∙ sym hop.carries;
        same_epoch = s.epoch_is ∙ sym hop.epoch_is;
        is_later = s.later;
        is_recent = s.recent;
        acted = s.acted;
        acts = s.acts;
      })

  -- Each device that comes to hear again

  module _ (d : ℕ) (well : IsSoundMember setting epoch (failed_now (chronicle setting (x ∷ h))) d) (fed : Fed setting.net (the_plan setting epoch) f d)
      (within : IsWithin setting epoch f d long) where
    abbrev Served : Type 0
    Served = IsServed (chronicle setting (x ∷ h)) d calm (reference_of e - silence setting.net)

    by_receipt : (p : Moment) → IsIn p (chronicle setting (x ∷ h)) → limit < when p → reference_of e ≤ when p + coming setting.net → HeardBy p d → Served
    by_receipt p here p_late by_now b =
        let traced : Traced setting b.message.stamp epoch p d =
        subst (λ n. Traced setting b.message.stamp n p d) (receipt_epoch setting epoch x h e calm settled f inside p here (after_limit (when p) p_late) d well b)
        (accepted_traced setting (chronicle setting (e ∷ x ∷ h)) (all_chronicle setting epoch (x ∷ h) e calm settled)
        (premises_of setting (seen_of (chronicle setting (e ∷ x ∷ h))) settled.comes.clean.premises).delay p (behind here) d b.link b.message b.counter
        b.past b.edge b.there b.act b.over) in
        told traced.trace here p_late by_now within

    by_time : (limit < heard_at (chronicle setting (x ∷ h)) d) × (reference_of e ≤ heard_at (chronicle setting (x ∷ h)) d + coming setting.net) → Served
    by_time (less, by_now) =
        let a : HeardAt steps d = heard_moment steps d limit less in
        let at = a.at in
        let p_late : limit < when a.moment = omega (arith, less, at) in
        let sc : Scene setting epoch (failed_now (chronicle setting (x ∷ h))) a.moment =
        scene_at setting epoch (x ∷ h) e calm settled a.moment (behind a.is_in) (after_limit (when a.moment) p_late) in
        let heard : does hears a.moment.earlier a.moment.step d ≡ true =
        chosen (makes d a.moment.step.seen.event) (does hears a.moment.earlier a.moment.step d) a.marks (sc.unmade d well) in
        by_receipt a.moment a.is_in p_late (subst (λ t. reference_of e ≤ t + coming setting.net) at by_now) (heard_by a.moment d heard)

    by_chain : (c : Chain setting epoch (failed_now (chronicle setting (x ∷ h))) (top_of setting (x ∷ h) e) limit d long) → (n : ℕ)
        → Led setting epoch (failed_now (chronicle setting (x ∷ h))) (top_of setting (x ∷ h) e) limit c.source d n → n ≤ long + (depth setting.net + 1) → Served
    by_chain c zero at_source few = inl (c.acts (top_of setting (x ∷ h) e) whole past_limit)
    by_chain c (suc n) led few =
        let by = fed_by setting epoch x h e calm settled c.source c.well limit (from calm (turning setting.net (the_plan setting epoch))) c.acts d n led
        (omega (arith, few, short)) in
        let most : (n + 1) * delay setting.net ≤ 2 * (depth setting.net + 1) * delay setting.net =
        mul-le-mul_right (delay setting.net) (omega (arith, few, short)) in
        by_time (heard_since (reference_of e) limit (heard_at steps d) (coming setting.net)
        (wider (reference_of e) (max limit (heard_at steps d)) (rounds_gap setting.net) ((n + 1) * delay setting.net)
        (2 * (depth setting.net + 1) * delay setting.net) by most) late)
      where
        from : (a b : ℕ) → a ≤ a + b
        from a b = omega arith

        wider : (r a b m n : ℕ) → r ≤ a + b + m → m ≤ n → r ≤ a + (b + n)
        wider r a b m n one two = omega (arith, one, two)

    pub served : IsServed (chronicle setting (x ∷ h)) d calm (reference_of e - silence setting.net)
    served =
        let c : Chain setting epoch (failed_now (chronicle setting (x ∷ h))) (top_of setting (x ∷ h) e) limit d long =
        fed_chain setting epoch x h e calm settled f inside limit turned past_limit takeover_soon long d fed well within short in
        by_chain c c.hops c.led c.short

-- What a calm history gives

-- what is said of each event is said of each that is seen
pub all_seen : (setting : Setting) (test : Event → Bool) (history : List Event) → list_all test history ≡ true
    → list_all (λ (s : Seen). test s.event) (seen_of (chronicle setting history)) ≡ true
all_seen setting test [] all = refl
all_seen setting test (e ∷ history) all =
    let parts = and_parts (test e) (list_all test history) all in
    and_from (test e) (list_all (λ (s : Seen). test s.event) (seen_of (chronicle setting history))) parts.0 (all_seen setting test history parts.1)

-- what is said of all that is seen is said of each moment
pub at_moment : (test : Seen → Bool) (steps : List Step) → list_all test (seen_of steps) ≡ true → (q : Moment) → IsIn q steps → test q.step.seen ≡ true
at_moment test [] all q here = elim here [ ]
at_moment test (s ∷ steps) all q whole = (and_parts (test s.seen) (list_all test (seen_of steps)) all).0
at_moment test (s ∷ steps) all q (behind t) = at_moment test steps (and_parts (test s.seen) (list_all test (seen_of steps)) all).1 q t

-- the history began by then
begun_by : (setting : Setting) (since : ℕ) (history : List Event) → AreTimed setting (chronicle setting history)
    → list_any (λ e. nat_le (reference_of e) since) history ≡ true → beginning (seen_of (chronicle setting history)) ≤ since
begun_by setting since [] timed_ some = cc
begun_by setting since (e ∷ []) timed_ some = by (nat_le (reference_of e) since) refl some
  where
    by : (b : Bool) → nat_le (reference_of e) since ≡ b → (b || false) ≡ true → reference_of e ≤ since
    by true is some' = leb-true (reference_of e) since is
    by false is some' = cc
begun_by setting since (e ∷ y ∷ ys) timed_ some = by (nat_le (reference_of e) since) refl (begun_by setting since (y ∷ ys) timed_.0) some
  where
    by : (b : Bool) → nat_le (reference_of e) since ≡ b
        → (list_any (λ z. nat_le (reference_of z) since) (y ∷ ys) ≡ true → beginning (seen_of (chronicle setting (y ∷ ys))) ≤ since)
        → (b || list_any (λ z. nat_le (reference_of z) since) (y ∷ ys)) ≡ true → beginning (seen_of (chronicle setting (e ∷ y ∷ ys))) ≤ since
    by true is again some' =
        let first = first_within setting (next_step setting (chronicle setting (y ∷ ys)) e) (chronicle setting (y ∷ ys)) timed_ in
        let le = leb-true (reference_of e) since is in
        omega (arith, first, le)
    by false is again some' = again some'

pub none_fails : (o : Option Thing) (b : Bool) → (not (is_some o) || b) ≡ true → (b ≡ true → ⊥) → o ≡ None
none_fails None b is never = refl
none_fails (Some y) b is never = absurd (never is)

-- who heard of a root since a reference heard of it since an earlier one
since_before : (steps : List Step) (d since calm lately : ℕ) → since ≤ calm → IsServed steps d calm lately → IsServed steps d since lately
since_before steps d since calm lately le (inl acts) = inl acts
since_before steps d since calm lately le (inr heard) =
    let later = heard.is_later in
    inr (record {
      receipt = heard.receipt;
      is_in = heard.is_in;
      flight = heard.flight;
      accepts = heard.accepts;
      is_recent = heard.is_recent;
      emission = heard.emission;
      is_before = heard.is_before;
      root = heard.root;
      message = heard.message;
      emits = heard.emits;
      same_stamp = heard.same_stamp;
      same_epoch = heard.same_epoch;
      is_later = omega (arith, le, later);
      acted = heard.acted;
      acts = heard.acts;
    })

module _ (net : Network) (plan : Plan) (f : DomainId) (since : ℕ) (e x : Event) (h : List Event)
    (calm : IsSteadySince net plan f since (e ∷ x ∷ h)) (late : since + recovery net plan < reference_of e) where
  abbrev setting : Setting
  setting = alone net plan

  comes_ : IsNextEvent (alone net plan) (x ∷ h) e
  comes_ =
      comes (alone net plan) (x ∷ h) e
      (record { network = calm.network; some_plan = omega arith; fit = each_one _ plan calm.fits; guarded = each_one _ plan calm.guarded })
      (record { is = calm.is; premises = calm.premises })

  unstaged : IsUnstaged (seen_of (chronicle (alone net plan) (e ∷ x ∷ h)))
  unstaged =
      none_any (λ (s : Seen). is_stage s.event) (seen_of (chronicle setting (e ∷ x ∷ h)))
      (all_seen setting (λ y. not (is_stage y)) (e ∷ x ∷ h) calm.unstaged)

  unstaged_then : IsUnstaged (seen_of (chronicle (alone net plan) (x ∷ h)))
  unstaged_then = unstaged_before (next_step setting (chronicle setting (x ∷ h)) e) (chronicle setting (x ∷ h)) unstaged

  begun : beginning (seen_of (chronicle (alone net plan) (e ∷ x ∷ h))) ≤ since
  begun = begun_by setting since (e ∷ x ∷ h) (timed setting (e ∷ x ∷ h) (times setting x h e comes_)) calm.begun

  -- all have started, and nothing fails any more
  abbrev settled_at : ℕ
  settled_at = max since (all_started (alone net plan) (chronicle (alone net plan) (e ∷ x ∷ h)))

  since_at : since ≤ settled_at
  since_at = by since (all_started setting (chronicle setting (e ∷ x ∷ h)))
    where
      by : (a b : ℕ) → a ≤ max a b
      by a b = omega arith

  started_at : all_started (alone net plan) (chronicle (alone net plan) (e ∷ x ∷ h)) ≤ settled_at
  started_at = by since (all_started setting (chronicle setting (e ∷ x ∷ h)))
    where
      by : (a b : ℕ) → b ≤ max a b
      by a b = omega arith

  soon_at : settled_at ≤ since + tick_gap net
  soon_at = by since (beginning (seen_of (chronicle setting (e ∷ x ∷ h)))) (tick_gap net) begun
    where
      by : (s b q : ℕ) → b ≤ s → max s (b + q) ≤ s + q
      by s b q le = omega (arith, le)

  late_at : settled_at + turning net plan + coming net < reference_of e
  late_at = by since (tick_gap net) (turning net plan) (coming net) (reference_of e) settled_at soon_at late
    where
      by : (s q t c r m : ℕ) → m ≤ s + q → s + (q + t + c) < r → m + t + c < r
      by s q t c r m one two = omega (arith, one, two)

  later_at : settled_at < reference_of e
  later_at = by settled_at (turning net plan) (coming net) (reference_of e) late_at
    where
      by : (m t c r : ℕ) → m + t + c < r → m < r
      by m t c r less = omega (arith, less)

  way : IsUnderWay (alone net plan) 1 (x ∷ h) e settled_at
  way = first_way (alone net plan) (x ∷ h) e settled_at comes_ unstaged started_at

  settled : IsSettled (alone net plan) 1 (x ∷ h) e settled_at
  settled =
      record {
        comes = comes_;
        way = way;
        unfailed = λ q here q_late.
            none_fails (failure_of q.step.seen.event) (nat_le (when q) since)
            (at_moment (λ (s : Seen). not (is_some (failure_of s.event)) || nat_le (reference_of s.event) since) (chronicle setting (e ∷ x ∷ h))
            (all_seen setting (λ y. not (is_some (failure_of y)) || nat_le (reference_of y) since) (e ∷ x ∷ h) calm.unfailed) q here)
            (λ is. never since settled_at (when q) since_at q_late (leb-true (when q) since is));
      }
    where
      never : (s m r : ℕ) → s ≤ m → m < r → r ≤ s → ⊥
      never s m r one two three = omega (arith, one, two, three)

  inside : list_all (holds net f) (failed_now (chronicle (alone net plan) (x ∷ h))) ≡ true
  inside =
      era_within net f (seen_of (chronicle setting (x ∷ h)))
      (all_seen setting (λ y. map_or (failure_of y) true (holds net f)) (x ∷ h)
      (and_parts (map_or (failure_of e) true (holds net f)) (list_all (λ y. map_or (failure_of y) true (holds net f)) (x ∷ h)) calm.inside).1)

  module _ (d : ℕ) (counted : is_counted (alone net plan) (seen_of (chronicle (alone net plan) (x ∷ h))) d ≡ true) where
    live : (is_up (seen_of (chronicle (alone net plan) (x ∷ h))) d ≡ true)
        × (is_member (plan_numbered (alone net plan) (era (chronicle (alone net plan) (x ∷ h)))) d ≡ true)
    live =
        counted_member (is_up (seen_of (chronicle setting (x ∷ h))) d) (is_member (plan_numbered setting (era (chronicle setting (x ∷ h)))) d)
        (joined_in_window (seen_of (chronicle setting (x ∷ h))) d) counted
        (unjoined (seen_of (chronicle setting (x ∷ h))) d (no_window (seen_of (chronicle setting (x ∷ h))) unstaged_then))

    well : IsSoundMember (alone net plan) 1 (failed_now (chronicle (alone net plan) (x ∷ h))) d
    well =
        let member : is_member (the_plan (alone net plan) 1) d ≡ true =
        subst (λ n. is_member (plan_numbered (alone net plan) n) d ≡ true) (first_era (alone net plan) (x ∷ h) unstaged_then) live.1 in
        record {
          known = admitted_up_is_known setting (x ∷ h) comes_.clean.is.0 d live.0;
          member = member;
          self = (scene setting 1 x h e settled_at way later_at).well d live.0 member;
        }

    hears_then : Fed net plan f d → (long : ℕ) → IsWithin (alone net plan) 1 f d long → long ≤ depth net + 1
        → IsServed (chronicle (alone net plan) (x ∷ h)) d since (reference_of e - silence net)
    hears_then fed long within short =
        since_before (chronicle setting (x ∷ h)) d since settled_at (reference_of e - silence net) since_at
        (served setting 1 (are_silent setting) x h e settled_at settled f inside long short late_at d well fed within)

-- The theorems

pub always_hears_again : (net : Network) (plan : Plan) (f : DomainId) → AlwaysHearsAgain net plan f
always_hears_again net plan f budget d w worst since e [] calm counted late = cc
always_hears_again net plan f budget d w worst since e (x ∷ h) calm counted late =
    hears_then net plan f since e x h calm late d counted worst.fed worst.long (λ hops walked. worst.is_long.greatest hops walked)
    worst.short_enough

-- the recovery takes no longer than an estimate may age
recovery_is_quiet : (net : Network) (plan : Plan) (n : ℕ) → recovery net plan ≤ quiet net plan n
recovery_is_quiet net plan n =
    by (losses net) (depth net) (delay net) (round_gap net) (tick_gap net) (first_up net plan) (second_up net plan) (wait_up net plan) (omega arith)
  where
    by : (k h d p q f1 f2 up : ℕ) → q ≤ p
        → q + max (f1 + f2 + 2 * q + (h + 1) * d) (up + q + (2 * (h + 1) + 1) * d) + ((k + 1) * p + 2 * (h + 1) * d)
        ≤ max (f1 + f2 + 6 * ((k + 2) * p + 4 * (h + 1) * d + q)) (up + q + ((k + 2) * p + 4 * (h + 1) * d)) + 2 * ((k + 2) * p + 4 * (h + 1) * d) * (n + 1)
    by k h d p q f1 f2 up le = upto_ _ _ _ _ alone_ (more (2 * ((k + 2) * p + 4 * (h + 1) * d)))
      where
        more : (w : ℕ) → w ≤ w * (n + 1)
        more w = omega arith

        upto_ : (a b c z : ℕ) → a ≤ b + c → c ≤ z → a ≤ b + z
        upto_ a b c z one two = omega (arith, one, two)

        alone_ : q + max (f1 + f2 + 2 * q + (h + 1) * d) (up + q + (2 * (h + 1) + 1) * d) + ((k + 1) * p + 2 * (h + 1) * d)
            ≤ max (f1 + f2 + 6 * ((k + 2) * p + 4 * (h + 1) * d + q)) (up + q + ((k + 2) * p + 4 * (h + 1) * d)) + 2 * ((k + 2) * p + 4 * (h + 1) * d)
        alone_ = omega (arith, le)

low_is_less : (rates : Rates) (s : ℕ) → low rates s ≤ s
low_is_less rates s = by s (grow rates.ppm s) rates.grain
  where
    by : (a b c : ℕ) → a - b - c ≤ a
    by a b c = omega arith

within_age : (net : Network) (plan : Plan) (budget : Budget) (f : DomainId) (d w : ℕ) (worst : IsWorst net plan budget f d w)
    → recovery net plan ≤ worst.oldest
within_age net plan budget f d w worst =
    upto_ (recovery net plan) (quiet net plan worst.long) worst.oldest (recovery_is_quiet net plan worst.long)
    (worst.is_oldest.greatest (quiet net plan worst.long) (low_is_less (rates_of net d) (quiet net plan worst.long)))
  where
    upto_ : (a b c : ℕ) → a ≤ b → b ≤ c → a ≤ c
    upto_ a b c one two = omega (arith, one, two)

later_than : (s a b r : ℕ) → a ≤ b → s + b < r → s + a < r
later_than s a b r le less = omega (arith, le, less)

pub always_hears_by_age : (net : Network) (plan : Plan) (f : DomainId) → AlwaysHearsByAge net plan f
always_hears_by_age net plan f budget d w worst since e history calm counted late =
    always_hears_again net plan f budget d w worst since e history calm counted
    (later_than since (recovery net plan) worst.oldest (reference_of e) (within_age net plan budget f d w worst) late)

-- what the oscillator adds over the age is part of the bound
drift_in_bound : (net : Network) (plan : Plan) (budget : Budget) (f : DomainId) (d w : ℕ) (worst : IsWorst net plan budget f d w)
    → (rates_of net d).ppm * worst.oldest ≤ 1000000 * w
drift_in_bound net plan budget f d w worst =
    by ((rates_of net d).ppm * worst.oldest) (source net plan budget) (root_halves net plan) worst.far (rates_of net d).grain worst.sum
  where
    by : (drift a b c grain : ℕ) → w ≡ a + b + c + (grain + (drift + 999999) / 1000000) → drift ≤ 1000000 * w
    by drift a b c grain is = omega (arith, is)

pub always_hears_by_bound : (net : Network) (plan : Plan) (f : DomainId) → AlwaysHearsByBound net plan f
always_hears_by_bound net plan f budget d w worst time more since e history calm counted late =
    always_hears_by_age net plan f budget d w worst since e history calm counted
    (later_than since worst.oldest time (reference_of e) (go (cases_lt worst.oldest time)) late)
  where
    go : (worst.oldest < time) ⊎ (time ≤ worst.oldest) → worst.oldest ≤ time
    go (inl less) = omega (arith, less)
    go (inr le) =
        absurd (never (1000000 * w) ((rates_of net d).ppm * time) ((rates_of net d).ppm * worst.oldest) more
        (mul-le (rates_of net d).ppm time (rates_of net d).ppm worst.oldest (least (rates_of net d).ppm) le) (drift_in_bound net plan budget f d w worst))
      where
        least : (n : ℕ) → n ≤ n
        least n = omega arith

        never : (a b c : ℕ) → a < b → b ≤ c → c ≤ a → ⊥
        never a b c one two three = omega (arith, one, two, three)

-- The same under accepted plans, on histories in which no premise is broken.

undisturbed_is_steady : (net : Network) (plan : Plan) (f : DomainId) (since : ℕ) (history : List Event) → IsNetwork net → Fits net plan
    → IsAccepted net plan → IsUndisturbedSince net plan f since history → IsSteadySince net plan f since history
undisturbed_is_steady net plan f since history network fits accepted calm =
    record {
      network = network;
      fits = fits;
      guarded = accepted_is_guarded net plan accepted;
      is = history_is_admitted (alone net plan) history calm.is;
      premises = all_are_more (alone net plan) (seen_of (chronicle (alone net plan) history)) calm.premises;
      inside = calm.inside;
      unstaged = calm.unstaged;
      unfailed = calm.unfailed;
      begun = calm.begun;
    }

pub hears_again : (net : Network) (plan : Plan) (f : DomainId) → HearsAgain net plan f
hears_again net plan f network fits accepted budget d w worst since e history calm =
    always_hears_again net plan f budget d w worst since e history (undisturbed_is_steady net plan f since (e ∷ history) network fits accepted calm)

pub hears_by_age : (net : Network) (plan : Plan) (f : DomainId) → HearsByAge net plan f
hears_by_age net plan f network fits accepted budget d w worst since e history calm =
    always_hears_by_age net plan f budget d w worst since e history (undisturbed_is_steady net plan f since (e ∷ history) network fits accepted calm)

pub hears_by_bound : (net : Network) (plan : Plan) (f : DomainId) → HearsByBound net plan f
hears_by_bound net plan f network fits accepted budget d w worst time more since e history calm =
    always_hears_by_bound net plan f budget d w worst time more since e history
    (undisturbed_is_steady net plan f since (e ∷ history) network fits accepted calm)
