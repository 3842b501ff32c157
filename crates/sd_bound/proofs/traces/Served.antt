-- The way of a round that was emitted once nothing failed any more stands for good: its devices hear along it before any of them would move. By induction on
-- the way, and for its last device on the events since.
use Rattle.std.specs.Prelude.{◌≡◌, ℕ, suc, ◌+◌, ◌*◌, ◌<◌, ◌≤◌, true, false, max, List, ◌∷◌, length, None, is_some, option_map, refl, if◌then◌else◌}
use Rattle.std.proofs.Common.{arith, ap, sym, ◌∙◌}
use Rattle.std.proofs.lemmas.Bool.{eq-eqb}
use Rattle.std.proofs.Math.Nat.{mul-le-mul_right}
use Rattle.sd_num.specs.Lists.{map_or}
use Rattle.sd_checker.specs.check_root.Timing.{round_gap, silence}
use Rattle.sd_device.specs.declared.msg.Stamp.{Stamp}
use Rattle.sd_device.specs.declared.msg.Message.{Message}
use Rattle.sd_device.specs.declared.msg.Flight.{Flight}
use Rattle.sd_device.specs.Calls.{Receive}
use Rattle.sd_device.specs.Words.{transition_of, is_acting}
use Rattle.sd_sched.specs.declared.Event.{Event}
use Rattle.sd_history.specs.World.{Setting}
use Rattle.sd_history.specs.Steps.{Step, acts_in}
use Rattle.sd_history.specs.Chronicle.{past_in, chronicle}
use Rattle.sd_history.proofs.Given.{some_is}
use Rattle.sd_safety.specs.invariant.Bounds.{delay, depth, losses, rounds_gap}
use Rattle.sd_safety.specs.invariant.Eras as eras
use Rattle.sd_safety.specs.invariant.Eras.{failed_now, hears, does, heard_at, moved}
use Rattle.sd_safety.proofs.invariant.Arithmetic.{two_ways_in_silence}
use Rattle.sd_safety.specs.messages.Moments.{Tail, whole, behind, IsChronicle, Moment, upto, when, IsIn, IsBefore, Emits, Receipt}
use Rattle.sd_safety.specs.messages.Traces.{Hop, Trace, begins, goes_on}
use Rattle.sd_safety.proofs.messages.Tails.{tail_trans, tail_length, rest_of, tail_chronicle, before_is_earlier, earlier_is_before}
use Rattle.sd_safety.proofs.messages.Flowing.{tail_rest}
use Rattle.sd_safety.proofs.messages.Latest.{trace_first}
use Rattle.sd_safety.proofs.messages.Consecutive.{emission_acts, past_after_call}
use Rattle.sd_safety.proofs.silences.Hearing.{heard_from}
use Rattle.sd_bound.specs.timeouts.Settled.{IsSettled, IsSoundMember, Place, IsOnward}
use Rattle.sd_bound.proofs.timeouts.Settled.{all_chronicle}
use Rattle.sd_bound.proofs.timeouts.Scenes.{scene_at}
use Rattle.sd_bound.proofs.timeouts.Onward.{onward_at}
use Rattle.sd_bound.specs.traces.Led.{Led, at_source, onward, Stands}
use Rattle.sd_bound.proofs.traces.Sounding.{fed_at}
use Rattle.sd_bound.proofs.traces.Receipts.{Came, came}

-- no element comes before itself
no_round : {A : Type 0} {x y : A} {xs ys : List A} → Tail (x ∷ xs) ys → Tail (y ∷ ys) (x ∷ xs) → ⊥
no_round {xs = xs} {ys = ys} t u = longer (length xs) (length ys) (tail_length t) (tail_length u)
  where
    longer : (n m : ℕ) → suc n ≤ m → suc m ≤ suc n → ⊥
    longer n m one two = omega (arith, one, two)

soon_sum : (w s0 heard a m p : ℕ) → w ≤ max s0 heard + a + m → s0 ≤ heard → a + m ≤ p → w ≤ heard + p
soon_sum w s0 heard a m p by le short = omega (arith, by, le, short)

-- who accepts a flight hears
receipt_hears : (p : Moment) (d : ℕ) (f : Flight) → Receipt p d f → does hears p.earlier p.step d ≡ true
receipt_hears p d f r =
    ap (λ act. map_or (eras.did_by p.earlier act d) false hears) r.act
    ∙ ap (λ b. map_or
    (if b then option_map
    (λ past. record { call = Receive f.link f.message r.counter; transition = transition_of past (Receive f.link f.message r.counter) })
    (past_in p.earlier d) else None) false hears) (eq-eqb d d refl)
    ∙ ap (λ o. map_or
    (option_map (λ past. record { call = Receive f.link f.message r.counter; transition = transition_of past (Receive f.link f.message r.counter) }) o)
    false hears) r.there
    ∙ ap is_some r.over

module _ (setting : Setting) (epoch : ℕ) (history : List Event) (e : Event) (calm : ℕ) (settled : IsSettled setting epoch history e calm) where
  chronicle_at : (q : Moment) → IsIn q (chronicle setting (e ∷ history)) → IsChronicle setting (upto q)
  chronicle_at q here = tail_chronicle setting here (all_chronicle setting epoch history e calm settled)

  -- a trace goes forward
  pub trace_goes : {stamp : Stamp} {first : Moment} {source m : ℕ} {p : Moment} {d : ℕ} → Trace setting stamp epoch first source m p d
      → IsIn p (chronicle setting (e ∷ history)) → when first ≤ when p
  trace_goes (begins message emits carries epoch_is) here = omega arith
  trace_goes (goes_on {from = from} {to = to} trace hop) here =
      let before_ = trace_goes trace (tail_trans hop.before (rest_of here)) in
      let goes = before_is_earlier setting from to (chronicle_at to here) hop.before in
      omega (arith, before_, goes)

  -- who emitted acts on
  module _ (first : Moment) (late : calm < when first) (source : ℕ) (message : Message) (emits : Emits first source message)
      (well : IsSoundMember setting epoch (failed_now (chronicle setting history)) source) where
    acts_by : (s : Step) (steps : List Step) → IsIn (record { step = s; earlier = steps }) (chronicle setting (e ∷ history)) → Tail (upto first) steps
        → acts_in steps source ≡ true
    acts_by s _ here whole =
        let top : Moment = record { step = s; earlier = upto first } in
        let goes : when first ≤ when top = before_is_earlier setting first top (chronicle_at top here) whole in
        let place : Place setting epoch top source = (scene_at setting epoch history e calm settled top here (omega (arith, late, goes))).place source well in
        let sent = emits.sends in
        place.acts_is ∙ ap is_acting (some_is (sym place.there ∙ past_after_call first source sent.call sent.past sent.act sent.there))
        ∙ emission_acts sent.past sent.call emits.emission
    acts_by s _ here (behind {x = s'} {xs = xs} t) =
        let q : Moment = record { step = s'; earlier = xs } in
        let q_in : IsIn q (chronicle setting history) = tail_rest here in
        let goes : when first ≤ when q = before_is_earlier setting first q (chronicle_at q (behind q_in)) t in
        let on : IsOnward setting epoch q source = onward_at setting epoch history e calm settled q q_in (omega (arith, late, goes)) source well in
        on.acts_on (acts_by s' xs (behind q_in) t)

    -- at each event that comes after
    pub acts_after : (top : Moment) → IsIn top (chronicle setting (e ∷ history)) → IsBefore first top → acts_in top.earlier source ≡ true
    acts_after top here t = acts_by top.step top.earlier here t

  -- a way that stands leads from the source
  pub led_of : {stamp : Stamp} {first : Moment} {source m : ℕ} {p : Moment} {d : ℕ} (trace : Trace setting stamp epoch first source m p d) → calm < when first
      → (top : Moment) → IsIn top (chronicle setting (e ∷ history)) → IsBefore p top → Stands trace top
      → (s0 : ℕ) → when p ≤ s0 → Led setting epoch (failed_now (chronicle setting history)) top s0 source d m
  led_of (begins message emits carries epoch_is) late top here before stands s0 le = at_source
  led_of {stamp} (goes_on {from = from} {x = x} {to = to} {d = d} trace hop) late top here before stands s0 le =
      let to_in : IsIn to (chronicle setting (e ∷ history)) = tail_trans before (rest_of here) in
      let from_in : IsIn from (chronicle setting (e ∷ history)) = tail_trans hop.before (rest_of to_in) in
      let goes = before_is_earlier setting from to (chronicle_at to to_in) hop.before in
      let started = trace_goes trace from_in in
      let c : Came setting epoch (failed_now (chronicle setting history)) to x d =
      came setting epoch history e calm settled stamp from to x d to_in (omega (arith, late, started)) hop in
      onward (led_of trace late top here (tail_trans hop.before (rest_of before)) stands.0 s0 (omega (arith, goes, le))) d
      (moved to.earlier d) c.hop c.well c.is c.parent c.link
      (λ q q_in q_late. stands.1 q q_in (earlier_is_before setting (upto top) to q (chronicle_at top here) (behind before) q_in (omega (arith, le, q_late))))

  module _ (stamp : Stamp) (first : Moment) (source : ℕ) (late : calm < when first) (well : IsSoundMember setting epoch (failed_now (chronicle setting history)) source)
      (acts : (top : Moment) → IsIn top (chronicle setting (e ∷ history)) → IsBefore first top → acts_in top.earlier source ≡ true) where
    -- while the way stands its last device heard lately
    heard_lately : {m : ℕ} {p : Moment} {d : ℕ} (trace : Trace setting stamp epoch first source (suc m) p d) → suc m ≤ 2 * (depth setting.net + 1) → (top : Moment)
        → IsIn top (chronicle setting (e ∷ history)) → IsBefore p top → Stands trace top
        → when p ≤ heard_at top.earlier d → when top ≤ heard_at top.earlier d + silence setting.net
    heard_lately {m} {p} {d} trace short top here before stands heard =
        let p_in : IsIn p (chronicle setting (e ∷ history)) = tail_trans before (rest_of here) in
        let started : when first ≤ when p = trace_goes trace p_in in
        let goes : when p ≤ when top = before_is_earlier setting p top (chronicle_at top here) before in
        let by : when top ≤ max (when p) (heard_at top.earlier d) + rounds_gap setting.net + (m + 1) * delay setting.net =
        fed_at setting epoch history e calm settled top here (omega (arith, late, started, goes)) source well (when p) (omega (arith, late, started))
        (λ q q_in q_late. acts q (tail_trans q_in here)
        (tail_trans (trace_first setting stamp epoch first source (suc m) p d trace)
        (earlier_is_before setting (upto top) p q (chronicle_at top here) (behind before) q_in q_late)))
        d m (led_of trace late top here before stands (when p) (least (when p))) (omega (arith, short)) in
        let most : (m + 1) * delay setting.net ≤ 2 * (depth setting.net + 1) * delay setting.net =
        mul-le-mul_right (delay setting.net) (omega (arith, short)) in
        let fits : rounds_gap setting.net + 2 * (depth setting.net + 1) * delay setting.net ≤ silence setting.net =
        two_ways_in_silence (losses setting.net) (depth setting.net) (delay setting.net) (round_gap setting.net) in
        soon_sum (when top) (when p) (heard_at top.earlier d) (rounds_gap setting.net) ((m + 1) * delay setting.net) (silence setting.net) by heard
        (omega (arith, most, fits))
      where
        least : (n : ℕ) → n ≤ n
        least n = omega arith

    module _ (m : ℕ) (from to : Moment) (x d : ℕ) (trace : Trace setting stamp epoch first source m from x) (hop : Hop setting stamp epoch from x to d)
        (short : suc m ≤ 2 * (depth setting.net + 1))
        (above : (r : Moment) → IsIn r (chronicle setting (e ∷ history)) → IsBefore from r
        → Stands trace r) (well_d : IsSoundMember setting epoch (failed_now (chronicle setting history)) d) (still : acts_in to.earlier d ≡ false) where
      late_to : IsIn to (chronicle setting (e ∷ history)) → calm < when to
      late_to here =
          let started = trace_goes (goes_on trace hop) here in
          omega (arith, late, started)

      -- the device stays where it was, event by event
      remains : (s : Step) (steps : List Step) → IsIn (record { step = s; earlier = steps }) (chronicle setting (e ∷ history)) → Tail (upto to) steps
          → (q : Moment) → IsIn q (s ∷ steps) → IsBefore to q → (moved q.earlier d ≡ moved to.earlier d) × (acts_in q.earlier d ≡ false)
      remains s _ here whole q whole since =
          let to_in : IsIn to (chronicle setting history) = tail_rest here in
          let on : IsOnward setting epoch to d = onward_at setting epoch history e calm settled to to_in (late_to (behind to_in)) d well_d in
          let same = on.hears hop.flight.link hop.flight.message hop.receipt.counter hop.receipt.act in
          (same.0, same.1 ∙ still)
      remains s _ here whole q (behind u) since = absurd (no_round since u)
      remains s _ here (behind {x = s'} {xs = xs} t) q whole since =
          let r : Moment = record { step = s'; earlier = xs } in
          let r_in : IsIn r (chronicle setting history) = tail_rest here in
          let to_in : IsIn to (chronicle setting (e ∷ history)) = tail_trans t (rest_of (behind r_in)) in
          let goes : when to ≤ when r = before_is_earlier setting to r (chronicle_at r (behind r_in)) t in
          let to_late = late_to to_in in
          let before_ = remains s' xs (behind r_in) t in
          let heard : when to ≤ heard_at xs d =
          heard_from setting to d xs (tail_chronicle setting (behind whole) (chronicle_at r (behind r_in))) t (receipt_hears to d hop.flight hop.receipt) in
          let soon : when r ≤ heard_at xs d + silence setting.net =
          heard_lately (goes_on trace hop) short r (behind r_in) t (above r (behind r_in) (tail_trans hop.before (rest_of t)), before_) heard in
          let on : IsOnward setting epoch r d = onward_at setting epoch history e calm settled r r_in (omega (arith, to_late, goes)) d well_d in
          let same = on.stays soon in
          let here_ = before_ r whole t in
          (same.0 ∙ here_.0, same.1 ∙ here_.1)
      remains s _ here (behind {x = s'} {xs = xs} t) q (behind u) since = remains s' xs (behind (tail_rest here)) t q u since

    -- the way of the round stands at each event that comes after
    pub stands_for_good : {m : ℕ} {p : Moment} {d : ℕ} (trace : Trace setting stamp epoch first source m p d) → m ≤ 2 * (depth setting.net + 1) → (top : Moment)
        → IsIn top (chronicle setting (e ∷ history)) → IsBefore p top → Stands trace top
    stands_for_good (begins message emits carries epoch_is) short top here before = tt
    stands_for_good (goes_on {m = m} {from = from} {x = x} {to = to} {d = d} trace hop) short top here before =
        let above : (r : Moment) → IsIn r (chronicle setting (e ∷ history)) → IsBefore from r
        → Stands trace r = λ r r_in t. stands_for_good trace (fewer m short) r r_in t in
        let to_in : IsIn to (chronicle setting (e ∷ history)) = tail_trans before (rest_of here) in
        let started = trace_goes trace (tail_trans hop.before (rest_of to_in)) in
        let c : Came setting epoch (failed_now (chronicle setting history)) to x d =
        came setting epoch history e calm settled stamp from to x d to_in (omega (arith, late, started)) hop in (
          above top here (tail_trans hop.before (rest_of before)),
          λ q q_in since. remains m from to x d trace hop short above c.well c.still top.step
              top.earlier here before q q_in since,
        )
      where
        fewer : (n : ℕ) → suc n ≤ 2 * (depth setting.net + 1) → n ≤ 2 * (depth setting.net + 1)
        fewer n le = omega (arith, le)
