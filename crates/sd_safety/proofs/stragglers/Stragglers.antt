-- What the backup root heard on its primary after its path broke, in an era with a mend: nothing more; or at most one round that was emitted before the mend, a
-- straggler; or a round that was emitted after it, and its path has been whole since.
use Rattle.std.specs.Prelude.{◌≡◌, ℕ, zero, suc, ◌+◌, ◌*◌, ◌-◌, ◌<◌, ◌≤◌, Bool, true, false, List, [], ◌∷◌, length, max, nat_eq, Option, Some, refl, ◌⊎◌, if◌then◌else◌}
use Rattle.std.specs.List.{list_any}
use Rattle.std.proofs.Common.{arith, ◌∙◌, ap, sym, subst, inl, inr}
use Rattle.std.proofs.lemmas.Bool.{cases_lt}
use Rattle.sd_num.specs.Lists.{map_or}
use Rattle.sd_plan.specs.declared.topo.Thing.{Thing}
use Rattle.sd_plan.specs.declared.topo.Thing.TheVariants as thing
use Rattle.sd_plan.specs.Walks.{path}
use Rattle.sd_plan.specs.declared.Duty.{Duty}
use Rattle.sd_sched.specs.declared.Event.{Event}
use Rattle.sd_sched.specs.Events.{reference_of}
use Rattle.sd_history.specs.World.{Setting, link_has_failed, latest_reference, plan_numbered}
use Rattle.sd_history.specs.Steps.{Step, seen_of}
use Rattle.sd_history.specs.Chronicle.{chronicle}
use Rattle.sd_safety.specs.invariant.Bounds.{depth, delay, tick_gap, first_up}
use Rattle.sd_safety.specs.invariant.Eras.{era, plan_now, failed_now, is_among, touches, device_failed_now, beginning, all_started, late, first_failure, heard_at, silent_for, is_old, on_primary, path_hit}
use Rattle.sd_safety.specs.invariant.Guarded.{IsSteady}
use Rattle.sd_safety.specs.invariant.Coming.{IsNextEvent}
use Rattle.sd_safety.proofs.invariant.Prefix.{clean_before}
use Rattle.sd_safety.specs.messages.Moments.{Tail, whole, behind, IsChronicle, Moment, upto, when, IsIn, IsBefore}
use Rattle.sd_safety.specs.messages.Traces.{Trace}
use Rattle.sd_safety.proofs.messages.Flowing.{tail_rest}
use Rattle.sd_safety.proofs.messages.Tails.{Order, before, same, after, ordered, tail_trans, tail_length, rest_of, tail_chronicle, history_chronicle, step_time, before_is_earlier}
use Rattle.sd_safety.specs.timers.Times.{AreTimed}
use Rattle.sd_safety.proofs.waits.Standing.{steps_timed}
use Rattle.sd_safety.proofs.waits.Waits.{Stands, old_stands}
use Rattle.sd_safety.proofs.silences.Phases.{era_grows}
use Rattle.sd_safety.proofs.silences.SoundWays.{top_of}
use Rattle.sd_safety.proofs.receipts.Hearings.{IsHeard, LastHeard, last_heard}
use Rattle.sd_safety.specs.behind.Feeding.{mended_now, path_failed_at}
use Rattle.sd_safety.proofs.behind.Failing.{FirstFailure, first_failing, chronicle_tail}
use Rattle.sd_safety.proofs.behind.EventBack.{no_later}
use Rattle.sd_safety.proofs.behind.Moved.{silence_now}
use Rattle.sd_safety.proofs.behind.Sealing.{seals_soon}
use Rattle.sd_safety.proofs.spans.SilenceStarts.{idle_of}
use Rattle.sd_safety.proofs.paths.FromRoot.{traced, within, first_in, took, crossed_path}
use Rattle.sd_safety.proofs.paths.Broken.{started_first, heard_unmended, before_break}
use Rattle.sd_safety.proofs.paths.Links.{unmended_back}
use Rattle.sd_safety.proofs.paths.Senders.{sender_unfailed}
use Rattle.sd_safety.proofs.paths.FirstMend.{mended_on, IsStill, still_on, whole_on, FirstMend, first_mend}
use Rattle.sd_safety.proofs.paths.Receipts.{StoodBefore, stood_before}
use Rattle.sd_safety.proofs.paths.NoSecondRound.{no_second}
use Rattle.sd_safety.proofs.timers.Emissions.{timed_tail}
use Rattle.sd_safety.proofs.terms.Terms.{era_least}

-- what is broken before an event: a link that is failed, and a device that failed in the era
abbrev pub is_broken : List Step → Thing → Bool
is_broken steps (thing.Device d) = device_failed_now steps d
is_broken steps (thing.Link l) = link_has_failed (seen_of steps) l

-- since a receipt of the backup root, not long after its path broke, that path has been whole
pub record IsFed (setting : Setting) (steps : List Step) : Type 0 where
  pub moment : Moment
  pub inside : IsIn moment steps
  pub in_era : era steps ≤ era moment.earlier
  pub mended_ : mended_now moment.earlier ≡ true
  pub time : when moment ≤ path_failed_at setting steps + depth setting.net * delay
      setting.net + 2 * (first_up setting.net (plan_now setting steps) + tick_gap setting.net)
  pub heard : when moment ≤ heard_at steps (plan_now setting steps).backup_root
  pub whole : list_any (is_broken moment.earlier) (path setting.net (plan_now setting steps) (plan_now setting steps).backup_root) ≡ false

pub data Hearing (setting : Setting) (steps : List Step) : Type 0 where
  early : heard_at steps (plan_now setting steps).backup_root ≤ path_failed_at setting steps + depth setting.net * delay setting.net → Hearing setting steps
  -- the root did not fail later than that
  straggler : heard_at steps (plan_now setting steps).backup_root ≤ path_failed_at setting steps + depth setting.net * delay setting.net + first_up setting.net
      (plan_now setting steps) + tick_gap setting.net
      → ((r : ℕ) → first_failure (thing.Device (plan_now setting steps).root ∷ []) (seen_of steps) ≡ Some r
      → r ≤ heard_at steps (plan_now setting steps).backup_root) → Hearing setting steps
  fed : IsFed setting steps → Hearing setting steps

-- the beginning stays
begin_on : (s : Step) (older steps : List Step) → Tail (s ∷ older) steps → beginning (seen_of steps) ≡ beginning (seen_of (s ∷ older))
begin_on s older _ whole = refl
begin_on s older _ (behind {xs = w ∷ ws} t) = begin_on s older (w ∷ ws) t
begin_on s older _ (behind {xs = []} t) = elim t [ ]

abbrev rest : List Step → List Step
rest [] = []
rest (s ∷ earlier) = earlier

rest_same : (p q : Moment) → upto p ≡ upto q → p.earlier ≡ q.earlier
rest_same p q equal = ap rest equal

time_same : (p q : Moment) → upto p ≡ upto q → when p ≡ when q
time_same p q equal = ap (λ steps. latest_reference (seen_of steps)) equal

-- where nothing failed since, the reference at which the path broke is the same
module _ (setting : Setting) (s : Step) (older steps : List Step) (t : Tail (s ∷ older) steps) (eras : era (s ∷ older) ≡ era steps)
    (still : IsStill (s ∷ older) steps) where
  started_same : all_started setting (s ∷ older) ≡ all_started setting steps
  started_same = ap (λ r. r + tick_gap setting.net) (sym (begin_on s older steps t))

  abbrev counts : ℕ → Option ℕ → ℕ → ℕ
  counts n o started = if nat_eq n 1 then max (map_or o 0 (λ reference. reference)) started else map_or o 0 (λ reference. reference)

  -- of things of the plan of each number
  pub first_same : (things : ℕ → List Thing)
      → late setting (s ∷ older) (map_or (first_failure (things (era (s ∷ older))) (seen_of (s ∷ older))) 0 (λ reference. reference))
      ≡ late setting steps (map_or (first_failure (things (era steps)) (seen_of steps)) 0 (λ reference. reference))
  first_same things =
      ap (λ n. counts n (first_failure (things n) (seen_of (s ∷ older))) (all_started setting (s ∷ older))) eras
      ∙ ap (λ o. counts (era steps) o (all_started setting (s ∷ older))) (sym (still.first (things (era steps))))
      ∙ ap (λ r. counts (era steps) (first_failure (things (era steps)) (seen_of steps)) r) started_same

  pub broke_same : path_failed_at setting (s ∷ older) ≡ path_failed_at setting steps
  broke_same = first_same (λ n. path setting.net (plan_numbered setting n) (plan_numbered setting n).backup_root)

  pub hit_same : path_hit setting steps (plan_now setting steps).backup_root ≡ true
      → path_hit setting (s ∷ older) (plan_now setting (s ∷ older)).backup_root ≡ true
  hit_same broken =
      subst (λ n. touches (failed_now (s ∷ older)) (path setting.net (plan_numbered setting n) (plan_numbered setting n).backup_root) ≡ true) (sym eras)
      (subst (λ l. touches l (path setting.net (plan_now setting steps) (plan_now setting steps).backup_root) ≡ true) still.failed broken)

-- sums: the receipt m0, its emission s0, what was heard before it h1, the failure g, and the first wait f1
kept_sum : (hd m s g k : ℕ) → hd ≡ m → m ≤ s + k → s ≤ g → hd ≤ g + k
kept_sum hd m s g k one two three = omega (arith, one, two, three)

straggler_sum : (hd m r h1 g k f q : ℕ) → hd ≡ m → m ≡ r → r - h1 ≤ f + q → h1 ≤ g + k → hd ≤ g + k + f + q
straggler_sum hd m r h1 g k f q one two three four = omega (arith, one, two, three, four)

fed_sum : (m r h1 g k f q : ℕ) → m ≡ r → r - h1 ≤ f + q → h1 ≤ g + k + f + q → m ≤ g + k + 2 * (f + q)
fed_sum m r h1 g k f q one two three = omega (arith, one, two, three)

pub weaker : (h1 g k f q : ℕ) → h1 ≤ g + k → h1 ≤ g + k + f + q
weaker h1 g k f q le = omega (arith, le)

-- One state, with what is known of the state before the last receipt

module _ (setting : Setting) (x : Event) (h : List Event) (e : Event) (comes : IsNextEvent setting (x ∷ h) e) (is : mended_now (chronicle setting (x ∷ h)) ≡ true)
    (broken : path_hit setting (chronicle setting (x ∷ h)) (plan_now setting (chronicle setting (x ∷ h))).backup_root ≡ true)
    (old : is_old (chronicle setting (x ∷ h)) (plan_now setting (chronicle setting (x ∷ h))).backup_root ≡ true)
    (on : on_primary (chronicle setting (x ∷ h)) (plan_now setting (chronicle setting (x ∷ h))).backup_root ≡ true) where
  abbrev steps : List Step
  steps = chronicle setting (x ∷ h)

  abbrev b : ℕ
  b = (plan_now setting (chronicle setting (x ∷ h))).backup_root

  clean : IsSteady setting (x ∷ h)
  clean = clean_before setting e (x ∷ h) comes.clean

  all : IsChronicle setting (chronicle setting (x ∷ h))
  all = history_chronicle setting (x ∷ h) clean.is

  -- the first mend
  m : FirstMend setting (x ∷ h)
  m = first_mend setting (x ∷ h) clean is

  abbrev g : Moment
  g = top_of setting m.earlier m.event

  g_in : IsIn g (chronicle setting (x ∷ h))
  g_in = chronicle_tail setting (m.event ∷ m.earlier) (x ∷ h) m.tail

  late_ : era (chronicle setting (x ∷ h)) ≤ era g.earlier
  late_ = let same_ = m.same in omega (arith, same_)

  late_then : era (chronicle setting (x ∷ h)) ≤ era (upto g)
  late_then = let le = late_ in let grows = era_grows g.earlier (upto g) (behind whole) in omega (arith, le, grows)

  -- nothing was mended at a moment of the era that is no later
  unmended_before : (q : Moment) → IsBefore q g → era (chronicle setting (x ∷ h)) ≤ era q.earlier → mended_now q.earlier ≡ false
  unmended_before q t le =
      let up : era g.earlier ≤ era steps = era_grows g.earlier steps (rest_of g_in) in
      unmended_back q.earlier g.earlier (rest_of t) (omega (arith, up, le)) m.none

  unmended_at : (q : Moment) → upto q ≡ upto g → mended_now q.earlier ≡ false
  unmended_at q equal = ap mended_now (rest_same q g equal) ∙ m.none

  -- what the root failed at
  root_first : (r : ℕ) → first_failure (thing.Device (plan_now setting steps).root ∷ []) (seen_of steps) ≡ Some r → r ≤ when g
  root_first r first_ =
      let things : List Thing = thing.Device (plan_now setting steps).root ∷ [] in
      let f : FirstFailure setting things m.earlier r = first_failing setting things m.earlier r (sym (m.still.first things) ∙ first_) in
      let timed_ : AreTimed setting (chronicle setting m.earlier) =
      timed_tail setting (chronicle setting m.earlier) steps (rest_of g_in) (steps_timed setting x h e comes) in
      let le : reference_of f.event ≤ latest_reference (seen_of (chronicle setting m.earlier)) = no_later setting f.event f.earlier m.earlier f.tail timed_ in
      let goes : latest_reference (seen_of (chronicle setting m.earlier)) ≤ when g =
      step_time setting g.step (chronicle setting m.earlier) (tail_chronicle setting g_in all) in
      let at = f.at in
      omega (arith, le, goes, at)

  module _ (heard : IsHeard setting (x ∷ h) b (era (chronicle setting (x ∷ h)))) where
    abbrev first : Moment
    first = (traced setting x h e comes old on heard).first

    first_in_ : IsIn first (chronicle setting (x ∷ h))
    first_in_ = first_in setting x h e comes old on heard

    -- of a round that was emitted before the era, or before its path broke
    by_early_round : when first ≤ path_failed_at setting (chronicle setting (x ∷ h)) → Hearing setting (chronicle setting (x ∷ h))
    by_early_round le =
        early (kept_sum (heard_at steps b) (when heard.moment) (when first) (path_failed_at setting steps) (depth setting.net * delay setting.net) heard.time
        (took setting x h e comes old on heard) le)

    -- where it heard after the mend
    module _ (later : IsBefore g heard.moment) where
      s : StoodBefore setting x h e comes old on heard
      s = stood_before setting x h e comes old on heard g late_ later

      abbrev older : List Step
      older = chronicle setting (s.y ∷ s.ys)

      abbrev c : ℕ
      c = (plan_now setting (chronicle setting (s.y ∷ s.ys))).backup_root

      clean_then : IsSteady setting (s.y ∷ s.ys)
      clean_then = clean_before setting s.f (s.y ∷ s.ys) s.comes_.clean

      earlier_is : heard.moment.earlier ≡ chronicle setting (s.y ∷ s.ys)
      earlier_is = ap (λ (q : Moment). q.earlier) s.is

      g_then : IsIn g (chronicle setting (s.y ∷ s.ys))
      g_then = subst (λ (l : List Step). Tail (upto g) l) earlier_is later

      era_le : era (chronicle setting (x ∷ h)) ≤ era (chronicle setting (s.y ∷ s.ys))
      era_le = let same_ = s.same in omega (arith, same_)

      mended_then : mended_now (chronicle setting (s.y ∷ s.ys)) ≡ true
      mended_then = mended_on (upto g) older g_then (let a = late_then in let same_ = s.same in omega (arith, a, same_)) m.here

      still : IsStill (chronicle setting (s.y ∷ s.ys)) (chronicle setting (x ∷ h))
      still = still_on setting older (x ∷ h) clean s.inside era_le mended_then

      broke : path_failed_at setting (chronicle setting (s.y ∷ s.ys)) ≡ path_failed_at setting (chronicle setting (x ∷ h))
      broke = broke_same setting (top_of setting s.ys s.y).step (chronicle setting s.ys) steps s.inside s.same still

      broken_then : path_hit setting (chronicle setting (s.y ∷ s.ys)) (plan_now setting (chronicle setting (s.y ∷ s.ys))).backup_root ≡ true
      broken_then = hit_same setting (top_of setting s.ys s.y).step (chronicle setting s.ys) steps s.inside s.same still broken

      wait_same : first_up setting.net (plan_now setting (chronicle setting (s.y ∷ s.ys))) ≡ first_up setting.net (plan_now setting (chronicle setting (x ∷ h)))
      wait_same = ap (λ n. first_up setting.net (plan_numbered setting n)) s.same

      short : reference_of s.f - heard_at (chronicle setting (s.y ∷ s.ys)) c ≤ first_up setting.net
          (plan_now setting (chronicle setting (x ∷ h))) + tick_gap setting.net
      short =
          subst (λ w. silent_for older c (reference_of s.f) ≤ w + tick_gap setting.net) wait_same
          (silence_now setting (s.y ∷ s.ys) s.f s.comes_ (seals_soon setting (s.y ∷ s.ys) s.f s.comes_) s.old_ s.on_)

      at : when heard.moment ≡ reference_of s.f
      at = ap when s.is

      -- a straggler: what it heard before it heard in time
      module _ (emitted : when first ≤ when g) (in_era : era (chronicle setting (x ∷ h)) ≤ era (upto first)) where
        abbrev Bound : Type 0
        Bound = heard_at (chronicle setting (s.y ∷ s.ys)) c ≤ path_failed_at setting (chronicle setting (s.y ∷ s.ys)) + depth setting.net * delay setting.net

        module _ (told : IsHeard setting (s.y ∷ s.ys) c (era (chronicle setting (s.y ∷ s.ys)))) where
          told_in : IsIn told.moment (chronicle setting (x ∷ h))
          told_in = tail_trans told.inside s.inside

          abbrev sent : Moment
          sent = (traced setting s.y s.ys s.f s.comes_ s.old_ s.on_ told).first

          no_mend_yet : (era (chronicle setting (s.y ∷ s.ys)) ≤ era told.moment.earlier → mended_now told.moment.earlier ≡ false) → Bound
          no_mend_yet none = heard_unmended setting s.y s.ys s.f s.comes_ broken_then s.old_ s.on_ told none

          second : IsBefore g told.moment → (era (upto sent) < era (chronicle setting (s.y ∷ s.ys))) ⊎ (era (chronicle setting (s.y ∷ s.ys)) ≤ era (upto sent))
              → Bound
          second u (inl less) =
              kept_sum (heard_at older c) (when told.moment) (when sent) (path_failed_at setting older) (depth setting.net * delay setting.net) told.time
              (took setting s.y s.ys s.f s.comes_ s.old_ s.on_ told)
              (before_break setting s.y s.ys s.f s.comes_ broken_then s.old_ s.on_ sent (first_in setting s.y s.ys s.f s.comes_ s.old_ s.on_ told) less)
          second u (inr le) =
              absurd
              (no_second setting x h e comes old on heard s told
              (let a = late_then in let same_ = s.same in let grows : era (upto g) ≤ era (upto told.moment) =
              era_grows (upto g) (upto told.moment) (behind u) in omega (arith, a, same_, grows))
              in_era (let same_ = s.same in omega (arith, le, same_)) (when g) emitted
              (before_is_earlier setting g told.moment (tail_chronicle setting told_in all) u))

          by_order : Order told.moment g → Bound
          by_order (after u) = second u (cases_lt (era (upto sent)) (era older))
          by_order (before t) = no_mend_yet (λ le. unmended_before told.moment t (let same_ = s.same in omega (arith, le, same_)))
          by_order (same equal) = no_mend_yet (λ le. unmended_at told.moment equal)

        by_last : LastHeard setting (s.y ∷ s.ys) c (era (chronicle setting (s.y ∷ s.ys))) → Bound
        by_last (inr started) = let le = started_first setting s.y s.ys s.f s.comes_ c started in omega (arith, le)
        by_last (inl told) = by_order told (ordered steps told.moment g (told_in told) g_in)

        last_then : LastHeard setting (s.y ∷ s.ys) c (era (chronicle setting (s.y ∷ s.ys)))
        last_then =
            let stands : Stands setting older c = old_stands setting (s.y ∷ s.ys) c s.old_ in
            last_heard setting (s.y ∷ s.ys) clean_then.is c stands.past stands.there (era older)
            (ap (λ (o : Option Duty). map_or o 0 (λ u. u.epoch)) stands.duty) (era_least older) (sym stands.acts_is ∙ idle_of older c s.on_)

        before_time : heard_at (chronicle setting (s.y ∷ s.ys)) c ≤ path_failed_at setting (chronicle setting (x ∷ h)) + depth setting.net * delay setting.net
        before_time = subst (λ r. heard_at older c ≤ r + depth setting.net * delay setting.net) broke (by_last last_then)

        by_straggler : Hearing setting (chronicle setting (x ∷ h))
        by_straggler =
            straggler
            (straggler_sum (heard_at steps b) (when heard.moment) (reference_of s.f) (heard_at older c) (path_failed_at setting steps)
            (depth setting.net * delay setting.net) (first_up setting.net (plan_now setting steps)) (tick_gap setting.net)
            heard.time at short before_time)
            (λ r first_.
            let le = root_first r first_ in
            let goes : when g ≤ when heard.moment = before_is_earlier setting g heard.moment (tail_chronicle setting heard.inside all) later in
            let time = heard.time in
            omega (arith, le, goes, time))

      -- a round that was emitted after the mend: its path has been whole since the receipt, if not longer
      module _ (fresh : IsBefore g first) where
        since_of : (from : Moment) → IsIn first (upto from) → IsBefore g from
        since_of from whole = fresh
        since_of from (behind u) = tail_trans fresh (rest_of u)

        module _ (from : Moment) (since : IsIn first (upto from)) (inside_ : IsIn from (upto heard.moment)) where
          inside_then : Tail from.earlier (chronicle setting (s.y ∷ s.ys))
          inside_then = subst (λ (l : List Step). Tail from.earlier l) earlier_is (tail_rest inside_)

          from_era : era (chronicle setting (s.y ∷ s.ys)) ≤ era from.earlier
          from_era =
              let a = late_then in
              let same_ = s.same in
              let grows : era (upto g) ≤ era from.earlier = era_grows (upto g) from.earlier (since_of from since) in
              omega (arith, a, same_, grows)

          from_mended : mended_now from.earlier ≡ true
          from_mended =
              let a = late_then in
              let grows : era from.earlier ≤ era steps = era_grows from.earlier steps (rest_of (within setting x h e comes old on heard from inside_)) in
              mended_on (upto g) from.earlier (since_of from since) (omega (arith, a, grows)) m.here

          link_whole : (l : ℕ) → link_has_failed (seen_of from.earlier) l ≡ false → is_broken (chronicle setting (s.y ∷ s.ys)) (thing.Link l) ≡ false
          link_whole l none = whole_on setting (thing.Link l) from.earlier (s.y ∷ s.ys) clean_then inside_then from_era from_mended none

          sender_whole : (k z : ℕ)
              → Trace setting heard.message.stamp (era (chronicle setting (x ∷ h))) first (traced setting x h e comes old on heard).source k from z
              → is_broken (chronicle setting (s.y ∷ s.ys)) (thing.Device z) ≡ false
          sender_whole k z up =
              ap (λ l. is_among l (thing.Device z)) (still_on setting from.earlier (s.y ∷ s.ys) clean_then inside_then from_era from_mended).failed
              ∙ sender_unfailed setting x h comes.fair clean comes.before heard.message.stamp first (traced setting x h e comes old on heard).source g from
              (within setting x h e comes old on heard from inside_) (since_of from since) late_ k z up

        whole_path : list_any (is_broken (chronicle setting (s.y ∷ s.ys))) (path setting.net (plan_now setting (chronicle setting (x ∷ h))) b) ≡ false
        whole_path =
            crossed_path setting x h e comes old on heard (is_broken older) (λ from since inside_ l none. link_whole from since inside_ l none)
            (λ from since inside_ k z up. sender_whole from since inside_ k z up)

        fed_here : heard_at (chronicle setting (s.y ∷ s.ys)) c
            ≤ path_failed_at setting (chronicle setting (x ∷ h)) + depth setting.net * delay setting.net + first_up setting.net
            (plan_now setting (chronicle setting (x ∷ h))) + tick_gap setting.net → IsFed setting (chronicle setting (x ∷ h))
        fed_here le =
            record {
              moment = heard.moment;
              inside = heard.inside;
              in_era = subst (λ (l : List Step). era steps ≤ era l) (sym earlier_is) era_le;
              mended_ = subst (λ (l : List Step). mended_now l ≡ true) (sym earlier_is) mended_then;
              time = fed_sum (when heard.moment) (reference_of s.f) (heard_at older c) (path_failed_at setting steps) (depth setting.net * delay setting.net)
                  (first_up setting.net (plan_now setting steps)) (tick_gap setting.net) at short le;
              heard = let time = heard.time in omega (arith, time);
              whole = subst (λ (l : List Step). list_any (is_broken l) (path setting.net (plan_now setting steps) b) ≡ false) (sym earlier_is) whole_path;
            }

        -- or it has been so since an earlier one
        fed_then : IsFed setting (chronicle setting (s.y ∷ s.ys)) → IsFed setting (chronicle setting (x ∷ h))
        fed_then f =
            record {
              moment = f.moment;
              inside = tail_trans f.inside s.inside;
              in_era = let a = f.in_era in let le = era_le in omega (arith, a, le);
              mended_ = f.mended_;
              time =
                  subst (λ w. when f.moment ≤ path_failed_at setting steps + depth setting.net * delay setting.net + 2 * (w + tick_gap setting.net)) wait_same
                  (subst (λ r. when f.moment ≤ r + depth setting.net * delay
                  setting.net + 2 * (first_up setting.net (plan_now setting older) + tick_gap setting.net)) broke f.time);
              heard =
                  let goes : when f.moment ≤ when heard.moment =
                  before_is_earlier setting f.moment heard.moment (tail_chronicle setting heard.inside all)
                  (subst (λ (l : List Step). Tail (upto f.moment) l) (sym earlier_is) f.inside) in
                  let time = heard.time in
                  omega (arith, goes, time);
              whole = subst (λ n. list_any (is_broken f.moment.earlier) (path setting.net (plan_numbered setting n) (plan_numbered setting n).backup_root)
                  ≡ false) s.same f.whole;
            }

        by_fresh : Hearing setting (chronicle setting (s.y ∷ s.ys)) → Hearing setting (chronicle setting (x ∷ h))
        by_fresh (early le) =
            fed
            (fed_here
            (weaker (heard_at older c) (path_failed_at setting steps) (depth setting.net * delay setting.net) (first_up setting.net (plan_now setting steps))
            (tick_gap setting.net)
            (subst (λ r. heard_at older c ≤ r + depth setting.net * delay setting.net) broke le)))
        by_fresh (straggler le root) =
            fed
            (fed_here
            (subst (λ w. heard_at older c ≤ path_failed_at setting steps + depth setting.net * delay setting.net + w + tick_gap setting.net) wait_same
            (subst (λ r. heard_at older c ≤ r + depth setting.net * delay setting.net + first_up setting.net (plan_now setting older) + tick_gap setting.net)
            broke le)))
        by_fresh (fed f) = fed (fed_then f)

      -- whichever it was
      abbrev Before : Type 0
      Before = Hearing setting (chronicle setting (s.y ∷ s.ys))

      by_era : when first ≤ when g → (era (upto first) < era (chronicle setting (x ∷ h))) ⊎ (era (chronicle setting (x ∷ h)) ≤ era (upto first))
          → Hearing setting (chronicle setting (x ∷ h))
      by_era emitted (inl less) = by_early_round (before_break setting x h e comes broken old on first first_in_ less)
      by_era emitted (inr le) = by_straggler emitted le

      by_emission : Before → Order first g → Hearing setting (chronicle setting (x ∷ h))
      by_emission then_ (after u) = by_fresh u then_
      by_emission then_ (before t) = by_era (before_is_earlier setting first g (tail_chronicle setting g_in all) t) (cases_lt (era (upto first)) (era steps))
      by_emission then_ (same equal) = by_era (let times = time_same first g equal in omega (arith, times)) (cases_lt (era (upto first)) (era steps))

      shorter : length (chronicle setting (s.y ∷ s.ys)) < length (chronicle setting (x ∷ h))
      shorter = subst (λ (l : List Step). length l < length steps) earlier_is
          (less (length heard.moment.earlier) (length (upto heard.moment)) (length steps) refl (tail_length heard.inside))
        where
          less : (a c' n : ℕ) → suc a ≡ c' → c' ≤ n → a < n
          less a c' n one two = omega (arith, one, two)

    unmended_heard : (era (chronicle setting (x ∷ h)) ≤ era heard.moment.earlier → mended_now heard.moment.earlier ≡ false)
        → Hearing setting (chronicle setting (x ∷ h))
    unmended_heard none = early (heard_unmended setting x h e comes broken old on heard none)

abbrev Hears : Setting → Event → List Event → Event → Type 0
Hears setting x h e =
    IsNextEvent setting (x ∷ h) e → mended_now (chronicle setting (x ∷ h)) ≡ true
    → path_hit setting (chronicle setting (x ∷ h)) (plan_now setting (chronicle setting (x ∷ h))).backup_root ≡ true
    → is_old (chronicle setting (x ∷ h)) (plan_now setting (chronicle setting (x ∷ h))).backup_root ≡ true
    → on_primary (chronicle setting (x ∷ h)) (plan_now setting (chronicle setting (x ∷ h))).backup_root ≡ true → Hearing setting (chronicle setting (x ∷ h))

abbrev Again : Setting → ℕ → Type 0
Again setting n = (y : Event) (ys : List Event) (f : Event) → length (chronicle setting (y ∷ ys)) ≤ n → Hears setting y ys f

below : (a c n : ℕ) → a < c → c ≤ suc n → a ≤ n
below a c n one two = omega (arith, one, two)

module _ (setting : Setting) (n : ℕ) (x : Event) (h : List Event) (e : Event) (short : length (chronicle setting (x ∷ h)) ≤ suc n) (again : Again setting n)
    (comes : IsNextEvent setting (x ∷ h) e) (is : mended_now (chronicle setting (x ∷ h)) ≡ true)
    (broken : path_hit setting (chronicle setting (x ∷ h)) (plan_now setting (chronicle setting (x ∷ h))).backup_root ≡ true)
    (old : is_old (chronicle setting (x ∷ h)) (plan_now setting (chronicle setting (x ∷ h))).backup_root ≡ true)
    (on : on_primary (chronicle setting (x ∷ h)) (plan_now setting (chronicle setting (x ∷ h))).backup_root ≡ true) where
  by_mend : (heard : IsHeard setting (x ∷ h) (plan_now setting (chronicle setting (x ∷ h))).backup_root (era (chronicle setting (x ∷ h))))
      → Order heard.moment (g setting x h e comes is broken old on) → Hearing setting (chronicle setting (x ∷ h))
  by_mend heard (before t) =
      unmended_heard setting x h e comes is broken old on heard (λ le. unmended_before setting x h e comes is broken old on heard.moment t le)
  by_mend heard (same equal) =
      unmended_heard setting x h e comes is broken old on heard (λ le. unmended_at setting x h e comes is broken old on heard.moment equal)
  by_mend heard (after u) =
      by_emission setting x h e comes is broken old on heard u
      (again (s setting x h e comes is broken old on heard u).y (s setting x h e comes is broken old on heard u).ys
      (s setting x h e comes is broken old on heard u).f
      (below (length (older setting x h e comes is broken old on heard u)) (length (chronicle setting (x ∷ h))) n
      (shorter setting x h e comes is broken old on heard u) short) (s setting x h e comes is broken old on heard u).comes_
      (mended_then setting x h e comes is broken old on heard u) (broken_then setting x h e comes is broken old on heard u)
      (s setting x h e comes is broken old on heard u).old_ (s setting x h e comes is broken old on heard u).on_)
      (ordered (chronicle setting (x ∷ h)) (first setting x h e comes is broken old on heard) (g setting x h e comes is broken old on)
      (first_in_ setting x h e comes is broken old on heard) (g_in setting x h e comes is broken old on))

  by_receipt : LastHeard setting (x ∷ h) (plan_now setting (chronicle setting (x ∷ h))).backup_root (era (chronicle setting (x ∷ h)))
      → Hearing setting (chronicle setting (x ∷ h))
  by_receipt (inr started) =
      early (let le = started_first setting x h e comes (plan_now setting (chronicle setting (x ∷ h))).backup_root started in omega (arith, le))
  by_receipt (inl heard) =
      by_mend heard
      (ordered (chronicle setting (x ∷ h)) heard.moment (g setting x h e comes is broken old on) heard.inside (g_in setting x h e comes is broken old on))

  one_back : Hearing setting (chronicle setting (x ∷ h))
  one_back =
      let b : ℕ = (plan_now setting (chronicle setting (x ∷ h))).backup_root in
      let stands : Stands setting (chronicle setting (x ∷ h)) b = old_stands setting (x ∷ h) b old in
      by_receipt
      (last_heard setting (x ∷ h) (clean setting x h e comes is broken old on).is b stands.past stands.there (era (chronicle setting (x ∷ h)))
      (ap (λ (o : Option Duty). map_or o 0 (λ u. u.epoch)) stands.duty)
      (era_least (chronicle setting (x ∷ h))) (sym stands.acts_is ∙ idle_of (chronicle setting (x ∷ h)) b on))

-- by going back from receipt to receipt
hears_by : (setting : Setting) (n : ℕ) (x : Event) (h : List Event) (e : Event) → length (chronicle setting (x ∷ h)) ≤ n → Hears setting x h e
hears_by setting zero x h e short comes is broken old on = absurd (none (length (chronicle setting h)) short)
  where
    none : (a : ℕ) → suc a ≤ 0 → ⊥
    none a le = omega (arith, le)
hears_by setting (suc n) x h e short comes is broken old on =
    one_back setting n x h e short (λ y ys f le comes' is' broken' old' on'. hears_by setting n y ys f le comes' is' broken' old' on') comes is broken old on

pub hearing : (setting : Setting) (x : Event) (h : List Event) (e : Event) → Hears setting x h e
hearing setting x h e comes is broken old on =
    hears_by setting (length (chronicle setting (x ∷ h))) x h e (least (length (chronicle setting (x ∷ h)))) comes is broken old on
  where
    least : (n : ℕ) → n ≤ n
    least n = omega arith
