-- A device that acts sends round after round: later than a reference s it sent its first round by s + P, and the next K + 1 ones by s + (K + 1) * P.
-- From what is known of each state, that it sent at most P ago, and that nothing ends its acting.
use Rattle.std.specs.Prelude.{◌≡◌, ℕ, zero, suc, ◌+◌, ◌*◌, ◌<◌, ◌≤◌, Bool, true, false, ◌&&◌, ◌||◌, List, [], ◌∷◌, nat_eq, Option, Some, None, is_some, option_map, ◌⊎◌, refl, if◌then◌else◌}
use Rattle.std.proofs.Common.{arith, sym, ◌∙◌, ap, subst, inl, inr}
use Rattle.std.proofs.lemmas.Bool.{cases_lt, eqb-true}
use Rattle.sd_num.specs.Lists.{map_or}
use Rattle.sd_plan.specs.declared.Duty.{Duty}
use Rattle.sd_checker.specs.check_root.Timing.{round_gap}
use Rattle.sd_device.specs.Calls.{Call, Commit, Transition, Committed, Past}
use Rattle.sd_device.specs.Words.{transition_of, emits}
use Rattle.sd_sched.specs.Events.{reference_of}
use Rattle.sd_history.specs.World.{Setting, makes, latest_reference}
use Rattle.sd_history.specs.Steps.{Act, Calls, Step, seen_of}
use Rattle.sd_history.specs.Chronicle.{past_in}
use Rattle.sd_safety.specs.invariant.Eras as eras
use Rattle.sd_safety.specs.invariant.Eras.{does, sends, latest_such, sent_at}
use Rattle.sd_safety.specs.messages.Moments.{Tail, whole, behind, IsChronicle, Moment, upto, when, IsIn, is_emission}
use Rattle.sd_safety.proofs.messages.Tails.{rest_of, tail_chronicle, no_later}
use Rattle.sd_safety.proofs.messages.Flowing.{tail_rest}
use Rattle.sd_safety.proofs.messages.Latest.{never_committed}
use Rattle.sd_safety.proofs.timers.Transitions.{by_case}
use Rattle.sd_safety.specs.silences.Feeds.{IsSource}
use Rattle.sd_safety.proofs.silences.NextEmissions.{emits_here, has_later, next, IsNext, next_is, later_on, next_same, later_here}

-- the first event later than a reference
record FirstPast (s : ℕ) (steps : List Step) : Type 0 where
  moment : Moment
  is_in : IsIn moment steps
  late : s < when moment
  before : latest_reference (seen_of moment.earlier) ≤ s

first_past : (s : ℕ) (steps : List Step) → s < latest_reference (seen_of steps) → FirstPast s steps
first_past s [] less = absurd (omega (arith, less))
first_past s (st ∷ earlier) less = go (cases_lt s (latest_reference (seen_of earlier))) (first_past s earlier)
  where
    go : (s < latest_reference (seen_of earlier)) ⊎ (latest_reference (seen_of earlier) ≤ s) → (s < latest_reference (seen_of earlier) → FirstPast s earlier)
        → FirstPast s (st ∷ earlier)
    go (inl lt) rest = let f = rest lt in record { moment = f.moment; is_in = behind f.is_in; late = f.late; before = f.before }
    go (inr le) rest = record { moment = record { step = st; earlier = earlier }; is_in = whole; late = less; before = le }

-- what sends, or begins to act, emits, but for a commit that made the device act
abbrev EmitsOrCommits : Call → Transition → Type 0
EmitsOrCommits call transition = is_some (emits (record { call = call; transition = transition })) ≡ true
    → (is_emission transition ≡ true) ⊎ (c : ℕ) × (duty : Duty) × (call ≡ Commit c) × (transition ≡ Committed duty)

emits_or_commits : (past : Past) (call : Call) → EmitsOrCommits call (transition_of past call)
emits_or_commits past call =
    by_case past EmitsOrCommits
    (record {
      emitted = λ c e h. inl refl;
      took = λ c e t h. inl refl;
      moved = λ c e t m h. cc;
      still = λ c e t m h. cc;
      entered = λ link message c duty edge h. cc;
      accepted = λ link message c edge h. cc;
      committed = λ c duty a h. inr (c, duty, refl, refl);
      recommitted = λ c duty a h. cc;
      nothing = λ c n h. cc;
    })
    call

-- sums
first_by : (s0 p w : ℕ) → s0 + suc zero * p < w → s0 + p < w
first_by s0 p w less = omega (arith, less)

one_by : (s0 p w : ℕ) → w ≤ s0 + p → w ≤ s0 + suc zero * p
one_by s0 p w le = omega (arith, le)

pub less_by : (s0 i p w : ℕ) → s0 + suc (suc i) * p < w → s0 + suc i * p < w
less_by s0 i p w less = omega (arith, less)

step_by : (s0 i p v w : ℕ) → s0 + suc (suc i) * p < w → v ≤ s0 + suc i * p → v + p < w
step_by s0 i p v w less le = omega (arith, less, le)

next_by : (s0 i p v w : ℕ) → v ≤ s0 + suc i * p → w ≤ v + p → w ≤ s0 + suc (suc i) * p
next_by s0 i p v w le more = omega (arith, le, more)

module _ (setting : Setting) (top : Moment) (x s0 : ℕ) (src : IsSource setting top x s0) where
  earlier_is : IsChronicle setting top.earlier
  earlier_is = src.chronicle_.0

  sends_here : (st : Step) (earlier : List Step) → Tail (st ∷ earlier) top.earlier → (act : Act) → st.act ≡ act
      → map_or (eras.did_by earlier act x) false sends ≡ true → emits_here x earlier act ≡ true
  sends_here st earlier t (Calls e call) act h = go (nat_eq e x) refl (past_in earlier x) refl h
    where
      by_kind : (past : Past) → nat_eq e x ≡ true → past_in earlier x ≡ Some past
          → (is_emission (transition_of past call) ≡ true) ⊎ (c : ℕ) × (duty : Duty) × (call ≡ Commit c) × (transition_of past call ≡ Committed duty)
          → is_emission (transition_of past call) ≡ true
      by_kind past same there (inl is) = is
      by_kind past same there (inr (c, duty, commit, transition)) =
          absurd (never_committed setting (upto top) (record { step = st; earlier = earlier }) x c past duty src.chronicle_ src.renew (behind t)
          (act ∙ ap (λ z. Calls z call) (eqb-true e x same) ∙ ap (Calls x) commit) there (ap (transition_of past) (sym commit) ∙ transition))

      go : (b : Bool) → nat_eq e x ≡ b → (o : Option Past) → past_in earlier x ≡ o
          → map_or (if b then option_map (λ past. record { call = call; transition = transition_of past call }) o else None) false sends ≡ true
          → (b && map_or o false (λ past. is_emission (transition_of past call))) ≡ true
      go true same (Some past) there h = by_kind past same there (emits_or_commits past call h)
      go true same None there h = cc
      go false same o there h = cc
  sends_here st earlier t _ act h = cc

  sent_later : (s : ℕ) → s0 ≤ s → (steps : List Step) → Tail steps top.earlier → s < sent_at steps x → has_later x s steps ≡ true
  sent_later s le [] t less = absurd (omega (arith, less))
  sent_later s le (st ∷ earlier) t less = go (makes x st.seen.event) refl (does sends earlier st x) refl less (sent_later s le earlier (rest_of t))
    where
      go : (m : Bool) → makes x st.seen.event ≡ m → (d : Bool) → does sends earlier st x ≡ d
          → s < (if m || d then reference_of st.seen.event else latest_such sends earlier x)
          → (s < sent_at earlier x → has_later x s earlier ≡ true) → has_later x s (st ∷ earlier) ≡ true
      go true made d did less rest =
          let none = (src.stays (record { step = st; earlier = earlier }) t (omega (arith, le, less))).0 in
          let clash : true ≡ false = sym made ∙ none in
          cc
      go false made true did less rest =
          later_here x s (record { step = st; earlier = earlier }) (st ∷ earlier) whole (sends_here st earlier t st.act refl did) less
      go false made false did less rest = later_on x s earlier (st ∷ earlier) (behind whole) (rest less)

  record Soon (s : ℕ) : Type 0 where
    is : IsNext x s top.earlier (next x s top top.earlier)
    by : when (next x s top top.earlier) ≤ s + round_gap setting.net

  -- where an event is later than s + P, a round came later than s and by then
  next_soon : (s : ℕ) → s0 ≤ s → s + round_gap setting.net < when top → Soon s
  next_soon s le less =
      let f : FirstPast (s + round_gap setting.net) (upto top) = first_past (s + round_gap setting.net) (upto top) less in
      let late = f.late in
      let sooner : when f.moment ≤ sent_at f.moment.earlier x + round_gap setting.net = src.soon f.moment f.is_in (omega (arith, le, late)) in
      let t : Tail f.moment.earlier top.earlier = tail_rest f.is_in in
      let h : has_later x s f.moment.earlier ≡ true = sent_later s le f.moment.earlier t (omega (arith, sooner, late)) in
      let n : IsNext x s f.moment.earlier (next x s top f.moment.earlier) = next_is x s top f.moment.earlier h in
      let last : when (next x s top f.moment.earlier) ≤ latest_reference (seen_of f.moment.earlier) =
      no_later setting (next x s top f.moment.earlier) f.moment.earlier (tail_chronicle setting t earlier_is) n.is_in in
      let bound = f.before in
      record {
        is = next_is x s top top.earlier (later_on x s f.moment.earlier top.earlier t h);
        by = subst (λ p. when p ≤ s + round_gap setting.net) (sym (next_same x s top f.moment.earlier top.earlier t h)) (omega (arith, last, bound));
      }

  -- the rounds later than s0
  pub start : ℕ → Moment
  start zero = next x s0 top top.earlier
  start (suc i) = next x (when (start i)) top top.earlier

  -- later than what each of them comes
  abbrev pub from_of : ℕ → ℕ
  from_of zero = s0
  from_of (suc i) = when (start i)

  pub record IsRound (i : ℕ) : Type 0 where
    pub from : ℕ
    pub from_is : from ≡ from_of i
    pub late : s0 ≤ from
    pub is : IsNext x from top.earlier (start i)
    pub by : when (start i) ≤ s0 + suc i * round_gap setting.net

  pub round_is : (i : ℕ) → s0 + suc i * round_gap setting.net < when top → IsRound i
  unfolding start
  round_is zero less =
      let n : Soon s0 = next_soon s0 (omega arith) (first_by s0 (round_gap setting.net) (when top) less) in
      record { from = s0; from_is = refl; late = omega arith; is = n.is; by = one_by s0 (round_gap setting.net) (when (start zero)) n.by }
  round_is (suc i) less =
      let g : IsRound i = round_is i (less_by s0 i (round_gap setting.net) (when top) less) in
      let after = g.is.after in
      let since = g.late in
      let n : Soon (when (start i)) =
      next_soon (when (start i)) (omega (arith, after, since)) (step_by s0 i (round_gap setting.net) (when (start i)) (when top) less g.by) in
      record {
        from = when (start i);
        from_is = refl;
        late = omega (arith, after, since);
        is = n.is;
        by = next_by s0 i (round_gap setting.net) (when (start i)) (when (start (suc i))) g.by n.by;
      }
