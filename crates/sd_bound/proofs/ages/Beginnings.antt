-- Before the failures: while nothing failed a device is silent for no longer than 13 says, so each had heard lately when the first thing failed.
use Rattle.std.specs.Prelude.{◌≡◌, ℕ, ◌+◌, ◌*◌, ◌<◌, ◌≤◌, Bool, true, false, max, List, [], ◌∷◌, Option, Some, None, refl, ◌⊎◌}
use Rattle.std.proofs.Common.{arith, ap, sym, ◌∙◌, subst, inl, inr}
use Rattle.std.proofs.lemmas.Bool.{cases_lt, eqb-true, false_from_ne_true}
use Rattle.sd_plan.specs.declared.topo.Thing.{Thing}
use Rattle.sd_plan.specs.declared.topo.Thing.TheVariants as thing
use Rattle.sd_plan.specs.Plans.{is_root, is_backup_root}
use Rattle.sd_checker.specs.check_root.Timing.{round_gap}
use Rattle.sd_sched.specs.declared.Event.{Event}
use Rattle.sd_sched.specs.Events.{reference_of}
use Rattle.sd_history.specs.Things.{failure_of}
use Rattle.sd_history.specs.World.{Setting, is_up, plan_numbered}
use Rattle.sd_history.specs.Steps.{Step, seen_of, acts_in}
use Rattle.sd_history.specs.Chronicle.{chronicle}
use Rattle.sd_safety.specs.invariant.Bounds.{depth, delay, rounds_gap, tick_gap}
use Rattle.sd_safety.specs.invariant.Eras.{era, beginning, all_started, is_among, touches, failed_now, heard_at, moved, root_failed}
use Rattle.sd_safety.specs.invariant.Silences.{WholePathHears}
use Rattle.sd_safety.specs.invariant.Coming.{IsNextEvent, AtNext}
use Rattle.sd_safety.proofs.invariant.Sides.{not_both}
use Rattle.sd_safety.specs.messages.Moments.{Tail, whole, behind, Moment, when, IsIn}
use Rattle.sd_safety.proofs.messages.Tails.{rest_of}
use Rattle.sd_safety.specs.timers.Times.{AreTimed, heard_in, hears}
use Rattle.sd_safety.proofs.timers.Emissions.{reference_rises, timed_tail}
use Rattle.sd_history.proofs.Known.{up_has_past}
use Rattle.sd_safety.proofs.waits.SameReferences.{heard_is}
use Rattle.sd_safety.proofs.waits.Standing.{sound, steps_timed, leads, lives, heard_late}
use Rattle.sd_safety.proofs.windows.Eras.{era_kept}
use Rattle.sd_safety.proofs.silences.Phases.{Stage, stage}
use Rattle.sd_safety.proofs.silences.SoundWays.{top_of}
use Rattle.sd_safety.proofs.entering.SoundWays.{nothing_touches}
use Rattle.sd_bound.specs.timeouts.Settled.{the_plan, IsUnderWay, IsSoundMember, Place, Scene}
use Rattle.sd_bound.proofs.timeouts.Scenes.{not_early, old_now, primary_now, scene, by_silence}
use Rattle.sd_bound.proofs.timeouts.Unstaged.{failed_same, none_closed}
use Rattle.sd_bound.proofs.timeouts.Settled.{way_before}
use Rattle.sd_bound.specs.ages.Sums.{lag}

module _ (setting : Setting) (epoch : ℕ) (x : Event) (h : List Event) (e : Event) (calm : ℕ) (way : IsUnderWay setting epoch (x ∷ h) e calm) (late : calm < reference_of e) where
  abbrev steps : List Step
  steps = chronicle setting (x ∷ h)

  sc : Scene setting epoch (failed_now (chronicle setting (x ∷ h))) (top_of setting (x ∷ h) e)
  sc = scene setting epoch x h e calm way late

  -- a device that does not act is not the root
  pub not_root : (d : ℕ) → IsSoundMember setting epoch (failed_now (chronicle setting (x ∷ h))) d → acts_in (chronicle setting (x ∷ h)) d ≡ false
      → is_root (the_plan setting epoch) d ≡ false
  not_root d well idle =
      false_from_ne_true (is_root (the_plan setting epoch) d)
      (λ is.
      let same : (the_plan setting epoch).root ≡ d = eqb-true (the_plan setting epoch).root d is in
      not_both (acts_in steps d)
      (subst (λ z. acts_in steps z ≡ true) same (sc.root (subst (λ z. is_among (failed_now steps) (thing.Device z) ≡ false) (sym same) well.self))) idle)

  module _ (none : failed_now (chronicle setting (x ∷ h)) ≡ []) (d : ℕ) (well : IsSoundMember setting epoch (failed_now (chronicle setting (x ∷ h))) d)
      (other : is_root (the_plan setting epoch) d ≡ false) where
    touched : (things : List Thing) → touches (failed_now (chronicle setting (x ∷ h))) things ≡ false
    touched things = subst (λ failed. touches failed things ≡ false) (sym none) (nothing_touches things)

    kept : root_failed setting (chronicle setting (x ∷ h)) ≡ false
    kept = subst (λ failed. is_among failed (thing.Device (plan_numbered setting (era (chronicle setting (x ∷ h)))).root) ≡ false) (sym none) refl

    -- nobody has moved, and only the root acts
    pub idle_then : acts_in (chronicle setting (x ∷ h)) d ≡ false
    idle_then = by (is_backup_root (the_plan setting epoch) d) refl
      where
        by : (b : Bool) → is_backup_root (the_plan setting epoch) d ≡ b → acts_in (chronicle setting (x ∷ h)) d ≡ false
        by false backup = sc.ordinary d well (other, backup)
        by true backup =
            let same : (the_plan setting epoch).backup_root ≡ d = eqb-true (the_plan setting epoch).backup_root d backup in
            false_from_ne_true (acts_in steps d)
            (λ acts.
            not_both (is_among (failed_now steps) (thing.Device (the_plan setting epoch).root)) (sc.takeover (subst (λ z. acts_in steps z ≡ true) (sym same) acts))
            (subst (λ failed. is_among failed (thing.Device (the_plan setting epoch).root) ≡ false) (sym none) refl))

    unmoved_then : moved (chronicle setting (x ∷ h)) d ≡ false
    unmoved_then = by (is_backup_root (the_plan setting epoch) d) refl
      where
        by : (b : Bool) → is_backup_root (the_plan setting epoch) d ≡ b → moved (chronicle setting (x ∷ h)) d ≡ false
        by false backup = false_from_ne_true (moved steps d) (λ put. not_both _ (sc.hit d well (other, backup) put) (touched _))
        by true backup =
            let same : (the_plan setting epoch).backup_root ≡ d = eqb-true (the_plan setting epoch).backup_root d backup in
            false_from_ne_true (moved steps d)
            (λ put. not_both _ (sc.move (subst (λ z. IsSoundMember setting epoch (failed_now steps) z) (sym same) well) (subst (λ z. moved steps z ≡ true) (sym same) put))
            (touched _))

    pub heard_whole : AtNext WholePathHears setting → reference_of e ≤ heard_at (chronicle setting (x ∷ h)) d + lag setting.net
    heard_whole hears_ =
        by_silence (reference_of e) (heard_at steps d) (lag setting.net)
        (hears_ (x ∷ h) e way.comes d (lives setting x h e way.comes kept (not_early setting epoch x h e calm way late)) (leads setting x h e way.comes kept)
        (old_now setting epoch x h e calm way late d well)
        (primary_now setting epoch x h e calm way late d well unmoved_then idle_then) (touched _)).0

-- Of a run under way, each event that is later comes so too

pub record WayAt (setting : Setting) (epoch : ℕ) (calm : ℕ) (q : Moment) : Type 0 where
  pub x : Event
  pub h : List Event
  pub e : Event
  pub is : q ≡ top_of setting (x ∷ h) e
  pub way : IsUnderWay setting epoch (x ∷ h) e calm

pub way_at : (setting : Setting) (epoch : ℕ) (history : List Event) (e : Event) (calm : ℕ) → IsUnderWay setting epoch history e calm → (q : Moment)
    → IsIn q (chronicle setting (e ∷ history)) → calm < when q → WayAt setting epoch calm q
way_at setting epoch history e calm way q here late =
    let begun = way.begun in
    let st : Stage setting (beginning (seen_of (chronicle setting (e ∷ history)))) q =
    stage setting way.comes.fair q history e way.comes.clean way.comes.before here (omega (arith, begun, late)) in
    record {
      x = st.x;
      h = st.h;
      e = st.e;
      is = st.is;
      way = way_before setting epoch history e calm way q here late st;
    }

-- The first thing that failed

pub record FirstFailed (steps : List Step) : Type 0 where
  pub moment : Moment
  pub is_in : IsIn moment steps
  pub thing_ : Thing
  pub failure : failure_of moment.step.seen.event ≡ Some thing_
  pub none : failed_now moment.earlier ≡ []
  pub same : era moment.earlier ≡ era steps

-- in the latest era nothing failed, or something failed first
pub failed_or_none : (steps : List Step) → (failed_now steps ≡ []) ⊎ FirstFailed steps
failed_or_none [] = inl refl
failed_or_none (s ∷ earlier) = by s.seen.closed refl (failed_or_none earlier)
  where
    go : s.seen.closed ≡ false → (failed_now earlier ≡ []) ⊎ FirstFailed earlier → (o : Option Thing) → failure_of s.seen.event ≡ o
        → (failed_now (s ∷ earlier) ≡ []) ⊎ FirstFailed (s ∷ earlier)
    go open_ (inr f) o failure =
        inr (record {
          moment = f.moment;
          is_in = behind f.is_in;
          thing_ = f.thing_;
          failure = f.failure;
          none = f.none;
          same = f.same ∙ sym (era_kept s earlier open_);
        })
    go open_ (inl none) None failure = inl (failed_same s earlier open_ failure ∙ none)
    go open_ (inl none) (Some y) failure =
        inr (record {
          moment = record { step = s; earlier = earlier };
          is_in = whole;
          thing_ = y;
          failure = failure;
          none = none;
          same = sym (era_kept s earlier open_);
        })

    by : (c : Bool) → s.seen.closed ≡ c → (failed_now earlier ≡ []) ⊎ FirstFailed earlier → (failed_now (s ∷ earlier) ≡ []) ⊎ FirstFailed (s ∷ earlier)
    by true closed rest = inl (none_closed s earlier closed)
    by false open_ rest = go open_ rest (failure_of s.seen.event) refl

-- what a device has heard it has heard
pub heard_rises : (setting : Setting) (older steps : List Step) (d : ℕ) → Tail older steps → AreTimed setting steps → heard_at older d ≤ heard_at steps d
heard_rises setting older steps d t timed_ =
    subst (λ a. a ≤ heard_at steps d) (sym (heard_is setting older (timed_tail setting older steps t timed_) d))
    (subst (λ b. heard_in older d ≤ b) (sym (heard_is setting steps timed_ d)) (reference_rises hears setting older steps d t timed_))

-- So each device had heard lately by the failures, or all had just started

module _ (setting : Setting) (epoch : ℕ) (x : Event) (h : List Event) (e : Event) (way : IsUnderWay setting epoch (x ∷ h) e (all_started setting (chronicle setting (e ∷ x ∷ h))))
    (late : all_started setting (chronicle setting (e ∷ x ∷ h)) < reference_of e)
    (hears_ : AtNext WholePathHears setting) (d : ℕ) (well : IsSoundMember setting epoch (failed_now (chronicle setting (x ∷ h))) d)
    (other : is_root (the_plan setting epoch) d ≡ false) where
  abbrev begun : ℕ
  begun = all_started setting (chronicle setting (e ∷ x ∷ h))

  tick_short : tick_gap setting.net + 1 ≤ round_gap setting.net
  tick_short = (sound setting x h e way.comes).timed.gap

  since_begun : begun ≤ heard_at (chronicle setting (x ∷ h)) d + lag setting.net
  since_begun =
      let p : Place setting epoch (top_of setting (x ∷ h) e) d = (scene setting epoch x h e begun way late).place d well in
      let heard : beginning (seen_of (chronicle setting (x ∷ h))) ≤ heard_at (chronicle setting (x ∷ h)) d =
      heard_late setting x h e way.comes d p.past p.there in
      sum (beginning (seen_of (chronicle setting (x ∷ h)))) (heard_at (chronicle setting (x ∷ h)) d) (tick_gap setting.net) (rounds_gap setting.net)
      (round_gap setting.net) (depth setting.net * delay setting.net) heard tick_short
    where
      sum : (b h q a p k : ℕ) → b ≤ h → q + 1 ≤ p → b + q ≤ h + (a + p + k)
      sum b h q a p k one two = omega (arith, one, two)

  pub heard_by_failures : (f : FirstFailed (chronicle setting (x ∷ h)))
      → max (when f.moment) (all_started setting (chronicle setting (e ∷ x ∷ h))) ≤ heard_at (chronicle setting (x ∷ h)) d + lag setting.net
  heard_by_failures f = go (cases_lt begun (when f.moment))
    where
      later : (a b h : ℕ) → b < a → a ≤ h → max a b ≤ h
      later a b h one two = omega (arith, one, two)

      earlier_ : (a b h : ℕ) → a ≤ b → b ≤ h → max a b ≤ h
      earlier_ a b h one two = omega (arith, one, two)

      rises : (w a b l : ℕ) → w ≤ a + l → a ≤ b → w ≤ b + l
      rises w a b l one two = omega (arith, one, two)

      by_way : begun < when f.moment → WayAt setting epoch begun f.moment → when f.moment ≤ heard_at (chronicle setting (x ∷ h)) d + lag setting.net
      by_way less st =
          let older : List Step = chronicle setting (st.x ∷ st.h) in
          let earlier_is : f.moment.earlier ≡ older = ap (λ (q : Moment). q.earlier) st.is in
          let less_ : begun < reference_of st.e = subst (λ q. begun < when q) st.is less in
          let none : failed_now older ≡ [] = subst (λ l. failed_now l ≡ []) earlier_is f.none in
          let well_ : IsSoundMember setting epoch (failed_now older) d =
          record { known = well.known; member = well.member; self = subst (λ failed. is_among failed (thing.Device d) ≡ false) (sym none) refl } in
          let whole_ : reference_of st.e ≤ heard_at older d + lag setting.net =
          heard_whole setting epoch st.x st.h st.e begun st.way less_ none d well_ other hears_ in
          rises (when f.moment) (heard_at f.moment.earlier d) (heard_at (chronicle setting (x ∷ h)) d) (lag setting.net)
          (subst (λ (q : Moment). when q ≤ heard_at q.earlier d + lag setting.net) (sym st.is) whole_)
          (heard_rises setting f.moment.earlier (chronicle setting (x ∷ h)) d (rest_of f.is_in) (steps_timed setting x h e way.comes))

      go : (begun < when f.moment) ⊎ (when f.moment ≤ begun) → max (when f.moment) begun ≤ heard_at (chronicle setting (x ∷ h)) d + lag setting.net
      go (inl less) =
          later (when f.moment) begun (heard_at (chronicle setting (x ∷ h)) d + lag setting.net) less
          (by_way less (way_at setting epoch (x ∷ h) e begun way f.moment (behind f.is_in) less))
      go (inr le) = earlier_ (when f.moment) begun (heard_at (chronicle setting (x ∷ h)) d + lag setting.net) le since_begun

-- while members may start yet, a device that is up has heard since the beginning
pub heard_at_first : (setting : Setting) (x : Event) (h : List Event) (e : Event) → IsNextEvent setting (x ∷ h) e → (d : ℕ)
    → is_up (seen_of (chronicle setting (x ∷ h))) d ≡ true → reference_of e ≤ all_started setting (chronicle setting (e ∷ x ∷ h))
    → reference_of e ≤ heard_at (chronicle setting (x ∷ h)) d + lag setting.net
heard_at_first setting x h e comes d up le =
    let p = up_has_past setting (x ∷ h) d up in
    let heard : beginning (seen_of (chronicle setting (x ∷ h))) ≤ heard_at (chronicle setting (x ∷ h)) d = heard_late setting x h e comes d p.0 p.1 in
    let gap : tick_gap setting.net + 1 ≤ round_gap setting.net = (sound setting x h e comes).timed.gap in
    sum (reference_of e) (beginning (seen_of (chronicle setting (x ∷ h)))) (heard_at (chronicle setting (x ∷ h)) d) (tick_gap setting.net)
    (rounds_gap setting.net) (round_gap setting.net) (depth setting.net * delay setting.net) le heard gap
  where
    sum : (r b k q a p m : ℕ) → r ≤ b + q → b ≤ k → q + 1 ≤ p → r ≤ k + (a + p + m)
    sum r b k q a p m one two three = omega (arith, one, two, three)
