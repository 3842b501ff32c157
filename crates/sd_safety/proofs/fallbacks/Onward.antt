-- A member of the era's plan that acts in it acts on until it fails, or takes up the staged plan.
use Rattle.std.specs.Prelude.{◌≡◌, ℕ, ◌+◌, ◌≤◌, Bool, true, false, List, [], ◌∷◌, Option, Some, None, option_map, refl, ◌⊎◌, if◌then◌else◌}
use Rattle.std.proofs.Common.{arith, ◌∙◌, ap, sym, subst, inl, inr}
use Rattle.sd_num.specs.Lists.{map_or}
use Rattle.sd_plan.specs.declared.topo.Thing.TheVariants as thing
use Rattle.sd_plan.specs.declared.Duty.{Duty}
use Rattle.sd_plan.specs.Plans.{is_member}
use Rattle.sd_device.specs.Calls.{Call, Past}
use Rattle.sd_device.specs.Words.{after, transition_of, taken_up, duty_now, epoch_now, is_acting}
use Rattle.sd_sched.specs.declared.Event.{Event}
use Rattle.sd_history.specs.World.{Setting, makes, fails, is_up, plan_numbered}
use Rattle.sd_history.specs.Steps.{Step, seen_of}
use Rattle.sd_history.specs.Chronicle.{past_in, chronicle, next_step}
use Rattle.sd_history.proofs.Given.{some_is, takes_given}
use Rattle.sd_safety.specs.invariant.Eras.{era, is_new, device_failed_now}
use Rattle.sd_safety.specs.invariant.Invariant.{Invariant, AtEach}
use Rattle.sd_safety.specs.invariant.Guarded.{AreGuarded, IsSteady}
use Rattle.sd_safety.proofs.invariant.Prefix.{clean_before}
use Rattle.sd_safety.proofs.invariant.Sides.{not_both}
use Rattle.sd_safety.specs.messages.Moments.{Tail, whole, behind}
use Rattle.sd_safety.proofs.timers.Pasts.{stays_acting}
use Rattle.sd_safety.proofs.silences.NoMaking.{not_made}
use Rattle.sd_safety.proofs.silences.Phases.{era_grows, open_at, fails_among, failed_on}
use Rattle.sd_safety.proofs.windows.Senders.{NewPast, new_by_past, new_stays}
use Rattle.sd_safety.proofs.moves.Ahead.{IsAhead, always_ahead}
use Rattle.sd_safety.proofs.receipts.Alive.{Went, made, called, alone, went}
use Rattle.sd_safety.proofs.windows.Eras.{era_kept}

-- it acts yet in the plan; or it is new, or failed in the era
pub record ActsYet (setting : Setting) (steps : List Step) (d n : ℕ) : Type 0 where
  pub past : Past
  pub up : is_up (seen_of steps) d ≡ true
  pub there : past_in steps d ≡ Some past
  pub acts : is_acting past ≡ true
  pub own : epoch_now past ≡ n

abbrev pub Onward : Setting → List Step → ℕ → ℕ → Type 0
Onward setting steps d n = ActsYet setting steps d n ⊎ ((is_new steps d ≡ true) ⊎ (device_failed_now steps d ≡ true))

up_on : (m f up : Bool) → m ≡ false → f ≡ false → up ≡ true → map_or (if m then Some true else if f then Some false else None) up (λ told. told) ≡ true
up_on false false up a b is = is
up_on true f up a b is = cc
up_on false true up a b is = cc

module _ (setting : Setting) (e : Event) (history : List Event) (fair : AreGuarded setting) (clean : IsSteady setting (e ∷ history))
    (each : AtEach (Invariant setting) (chronicle setting history)) (d n : ℕ) (member : is_member (plan_numbered setting n) d ≡ true)
    (number : era (chronicle setting history) ≡ n) (open_ : (next_step setting (chronicle setting history) e).seen.closed ≡ false) where
  abbrev steps : List Step
  steps = chronicle setting history

  abbrev now : List Step
  now = chronicle setting (e ∷ history)

  same_era : era (chronicle setting (e ∷ history)) ≡ era (chronicle setting history)
  same_era = era_kept (next_step setting steps e) steps open_

  on : ActsYet setting (chronicle setting history) d n → Onward setting (chronicle setting (e ∷ history)) d n
  on a = by_failure (fails (thing.Device d) e) refl
    where
      unmade : makes d e ≡ false
      unmade = not_made setting steps e d clean.is.1 a.up (subst (λ k. is_member (plan_numbered setting k) d ≡ true) (sym number) member)

      up_now : fails (thing.Device d) e ≡ false → is_up (seen_of (chronicle setting (e ∷ history))) d ≡ true
      up_now none = up_on (makes d e) (fails (thing.Device d) e) (is_up (seen_of steps) d) unmade none a.up

      by_call : fails (thing.Device d) e ≡ false → (p : Past) (call : Call) → past_in (chronicle setting history) d ≡ Some p
          → past_in (chronicle setting (e ∷ history)) d ≡ Some (after p call) → (t : Option Duty) → taken_up (transition_of p call) ≡ t
          → Onward setting (chronicle setting (e ∷ history)) d n
      by_call none p call there there_now None takes =
          let same : a.past ≡ p = some_is (sym a.there ∙ there) in
          inl
          (record {
            past = after p call;
            up = up_now none;
            there = there_now;
            acts = stays_acting p call (transition_of p call) takes (subst (λ z. is_acting z ≡ true) same a.acts);
            own = ap (λ o. map_or (map_or (option_map Some o) (duty_now p) (λ told. told)) 0 (λ (v : Duty). v.epoch)) takes ∙ sym (ap epoch_now same) ∙ a.own;
          })
      by_call none p call there there_now (Some u) takes =
          let ahead : IsAhead setting steps d p u =
          always_ahead setting history fair (clean_before setting e history clean) each d p a.up there u (takes_given p call u takes) in
          let epoch : epoch_now (after p call) ≡ u.epoch =
          ap (λ o. map_or (map_or (option_map Some o) (duty_now p) (λ told. told)) 0 (λ (v : Duty). v.epoch)) takes in
          let own : NewPast now d =
          record { past = after p call; up = up_now none; there = there_now; epoch = epoch ∙ ahead.number ∙ sym (ap (λ k. k + 1) same_era) } in
          inr (inl (new_by_past setting (e ∷ history) d own))

      by_went : fails (thing.Device d) e ≡ false → Went setting e history d → Onward setting (chronicle setting (e ∷ history)) d n
      by_went none (made makes_) = absurd (not_both (makes d e) makes_ unmade)
      by_went none (called p call acted there there_now) = by_call none p call there there_now (taken_up (transition_of p call)) refl
      by_went none (alone same did) = inl (record { past = a.past; up = up_now none; there = same ∙ a.there; acts = a.acts; own = a.own })

      by_failure : (f : Bool) → fails (thing.Device d) e ≡ f → Onward setting (chronicle setting (e ∷ history)) d n
      by_failure true failing = inr (inr (fails_among (next_step setting steps e) steps (thing.Device d) open_ failing))
      by_failure false none = by_went none (went setting e history d)

  pub onward_step : Onward setting (chronicle setting history) d n → Onward setting (chronicle setting (e ∷ history)) d n
  onward_step (inl a) = on a
  onward_step (inr (inl new)) = inr (inl (new_stays setting e history clean open_ d new))
  onward_step (inr (inr failed)) = inr (inr (failed_on (thing.Device d) steps now (behind whole) (least (era now) (era steps) same_era) failed))
    where
      least : (a b : ℕ) → a ≡ b → a ≤ b
      least a b same = omega (arith, same)

pub onward : (setting : Setting) (fair : AreGuarded setting) (d n : ℕ) → is_member (plan_numbered setting n) d ≡ true → (older : List Step) (history : List Event)
    → IsSteady setting history → AtEach (Invariant setting) (chronicle setting history)
    → Tail older (chronicle setting history) → era older ≡ n → era (chronicle setting history) ≡ n → Onward setting older d n
    → Onward setting (chronicle setting history) d n
onward setting fair d n member _ [] clean each whole first last on_ = on_
onward setting fair d n member _ (e ∷ history) clean each whole first last on_ = on_
onward setting fair d n member older (e ∷ history) clean each (behind t) first last on_ =
    let steps : List Step = chronicle setting history in
    let s : Step = next_step setting steps e in
    let low : era older ≤ era steps = era_grows older steps t in
    let high : era steps ≤ era (s ∷ steps) = era_grows steps (s ∷ steps) (behind whole) in
    let number : era steps ≡ n = between (era older) (era steps) (era (s ∷ steps)) n low high first last in
    onward_step setting e history fair clean each.0 d n member number (open_at s steps (omega (arith, last, number)))
    (onward setting fair d n member older history (clean_before setting e history clean) each.0 t first number on_)
  where
    between : (a b c k : ℕ) → a ≤ b → b ≤ c → a ≡ k → c ≡ k → b ≡ k
    between a b c k one two three four = omega (arith, one, two, three, four)
