-- The first mend of an era. From it on nothing fails until the era closes: what failed, and when it failed first, stays; and what has not failed, or was
-- mended, stays
-- whole.
use Rattle.std.specs.Prelude.{◌≡◌, ◌≤◌, Bool, true, false, ◌||◌, not, List, [], ◌∷◌, Some, None, is_some, refl, if◌then◌else◌}
use Rattle.std.specs.List.{list_any}
use Rattle.std.proofs.Common.{arith, ◌∙◌, ap, sym, subst}
use Rattle.std.proofs.lemmas.Bool.{or_right}
use Rattle.sd_num.specs.Lists.{map_or, leading}
use Rattle.sd_plan.specs.declared.topo.Thing.{Thing}
use Rattle.sd_sched.specs.declared.Event.{Event}
use Rattle.sd_sched.specs.declared.Event.TheVariants as event
use Rattle.sd_history.specs.Things.{failure_of, mended}
use Rattle.sd_history.specs.World.{Setting, Seen, fails, is_thing, has_failed}
use Rattle.sd_history.specs.Steps.{Step, seen_of}
use Rattle.sd_history.specs.Chronicle.{chronicle, next_step}
use Rattle.sd_safety.specs.invariant.Eras.{era, failed_now, first_failure}
use Rattle.sd_safety.specs.invariant.Guarded.{IsSteady}
use Rattle.sd_safety.proofs.invariant.Prefix.{clean_before}
use Rattle.sd_safety.specs.messages.Moments.{Tail, whole, behind}
use Rattle.sd_safety.proofs.silences.Phases.{era_grows, open_at}
use Rattle.sd_safety.proofs.windows.Eras.{era_kept}
use Rattle.sd_safety.specs.behind.Feeding.{mended_now}
use Rattle.sd_safety.proofs.behind.Mends.{fails_nothing, failed_stays, first_stays}

mended_by : (c : Bool) (s : Seen) (rest : List Seen) → s.closed ≡ c → list_any (λ (x : Seen). is_some (mended x.event)) (if not c then s ∷ rest else []) ≡ true
    → (c ≡ false) × ((is_some (mended s.event) || list_any (λ (x : Seen). is_some (mended x.event)) rest) ≡ true)
mended_by true s rest is m = cc
mended_by false s rest is m = (refl, m)

-- where something was mended by an event, that closed nothing, and mended it or something was before
mended_parts : (s : Step) (steps : List Step) → mended_now (s ∷ steps) ≡ true
    → (s.seen.closed ≡ false) × ((is_some (mended s.seen.event) || mended_now steps) ≡ true)
mended_parts s steps m = mended_by s.seen.closed s.seen (leading (λ (x : Seen). not x.closed) (seen_of steps)) refl m

pub mended_more : (s : Step) (steps : List Step) → s.seen.closed ≡ false → (is_some (mended s.seen.event) || mended_now steps) ≡ true
    → mended_now (s ∷ steps) ≡ true
mended_more s steps open_ is =
    subst (λ c. list_any (λ (x : Seen). is_some (mended x.event)) (if not c then s.seen ∷ leading (λ (x : Seen). not x.closed) (seen_of steps) else []) ≡ true)
    (sym open_) is

-- so it stays for the era
pub mended_on : (older steps : List Step) → Tail older steps → era steps ≤ era older → mended_now older ≡ true → mended_now steps ≡ true
mended_on older _ whole le is = is
mended_on older _ (behind {x = s} {xs = earlier} t) le is =
    let before = era_grows older earlier t in
    let next = era_grows earlier (s ∷ earlier) (behind whole) in
    mended_more s earlier (open_at s earlier (omega (arith, le, before)))
    (or_right (is_some (mended s.seen.event)) (mended_now earlier) (mended_on older earlier t (omega (arith, le, next)) is))

-- what mends fails nothing
mend_fails_nothing : (e : Event) → is_some (mended e) ≡ true → failure_of e ≡ None
mend_fails_nothing (event.MendDevice r d) is = refl
mend_fails_nothing (event.MendLink r l) is = refl
mend_fails_nothing _ is = cc

-- what failed is the same
pub record IsStill (older steps : List Step) : Type 0 where
  pub failed : failed_now steps ≡ failed_now older
  pub first : (things : List Thing) → first_failure things (seen_of steps) ≡ first_failure things (seen_of older)

still_next : (s : Step) (older steps : List Step) → s.seen.closed ≡ false → failure_of s.seen.event ≡ None → IsStill older steps → IsStill older (s ∷ steps)
still_next s older steps open_ none still =
    record {
      failed = failed_stays s.seen (seen_of steps) open_ none ∙ still.failed;
      first = λ things. first_stays things s.seen (seen_of steps) open_ none ∙ still.first things;
    }

none_fails : (x : Thing) (s : Seen) → failure_of s.event ≡ None → fails x s.event ≡ false
none_fails x s none = ap (λ o. is_thing o x) none

module _ (setting : Setting) where
  -- an event of the era after a mend
  module _ (e : Event) (h : List Event) (clean : IsSteady setting (e ∷ h)) (older : List Step) (t : Tail older (chronicle setting h))
      (le : era (chronicle setting (e ∷ h)) ≤ era older) (is : mended_now older ≡ true) where
    before_ : era older ≤ era (chronicle setting h)
    before_ = era_grows older (chronicle setting h) t

    next_ : era (chronicle setting h) ≤ era (chronicle setting (e ∷ h))
    next_ = era_grows (chronicle setting h) (chronicle setting (e ∷ h)) (behind whole)

    era_then : era (chronicle setting h) ≤ era older
    era_then = let a = le in let c = next_ in omega (arith, a, c)

    mended_then : mended_now (chronicle setting h) ≡ true
    mended_then = mended_on older (chronicle setting h) t era_then is

    none_failed : failure_of e ≡ None
    none_failed = fails_nothing setting e h clean mended_then

    stays_open : (next_step setting (chronicle setting h) e).seen.closed ≡ false
    stays_open = open_at (next_step setting (chronicle setting h) e) (chronicle setting h) (let a = le in let c = before_ in omega (arith, a, c))

  pub still_on : (older : List Step) (history : List Event) → IsSteady setting history → Tail older (chronicle setting history)
      → era (chronicle setting history) ≤ era older → mended_now older ≡ true → IsStill older (chronicle setting history)
  still_on _ [] clean whole le is = record { failed = refl; first = λ things. refl }
  still_on _ (e ∷ h) clean whole le is = record { failed = refl; first = λ things. refl }
  still_on older (e ∷ h) clean (behind t) le is =
      still_next (next_step setting (chronicle setting h) e) older (chronicle setting h) (stays_open e h clean older t le is)
      (none_failed e h clean older t le is)
      (still_on older h (clean_before setting e h clean) t (era_then e h clean older t le is) is)

  whole_by : (f m rest : Bool) → f ≡ false → rest ≡ false → map_or (if f then Some true else if m then Some false else None) rest (λ told. told) ≡ false
  whole_by false true rest a b = refl
  whole_by false false rest a b = b
  whole_by true m rest a b = cc

  -- what was whole stays so
  pub whole_on : (y : Thing) (older : List Step) (history : List Event) → IsSteady setting history → Tail older (chronicle setting history)
      → era (chronicle setting history) ≤ era older → mended_now older ≡ true → has_failed (seen_of older) y ≡ false
      → has_failed (seen_of (chronicle setting history)) y ≡ false
  whole_on y _ [] clean whole le is none = none
  whole_on y _ (e ∷ h) clean whole le is none = none
  whole_on y older (e ∷ h) clean (behind t) le is none =
      let s : Seen = (next_step setting (chronicle setting h) e).seen in
      whole_by (fails y e) (is_thing (mended e) y) (has_failed (seen_of (chronicle setting h)) y) (none_fails y s (none_failed e h clean older t le is))
      (whole_on y older h (clean_before setting e h clean) t (era_then e h clean older t le is) is none)

  -- The first mend

  pub record FirstMend (history : List Event) : Type 0 where
    pub event : Event
    pub earlier : List Event
    pub tail : Tail (event ∷ earlier) history
    pub mends : is_some (mended event) ≡ true
    pub none : mended_now (chronicle setting earlier) ≡ false
    pub same : era (chronicle setting earlier) ≡ era (chronicle setting history)
    pub still : IsStill (chronicle setting earlier) (chronicle setting history)
    pub here : mended_now (chronicle setting (event ∷ earlier)) ≡ true

  resolve : (a b : Bool) → (a || b) ≡ true → b ≡ false → a ≡ true
  resolve true b either none = refl
  resolve false b either none = let clash : true ≡ false = sym either ∙ none in cc

  pub first_mend : (history : List Event) → IsSteady setting history → mended_now (chronicle setting history) ≡ true → FirstMend history
  first_mend [] clean is = cc
  first_mend (e ∷ h) clean is = by (mended_now (chronicle setting h)) refl (λ before. first_mend h (clean_before setting e h clean) before)
    where
      parts : ((next_step setting (chronicle setting h) e).seen.closed ≡ false) × ((is_some (mended e) || mended_now (chronicle setting h)) ≡ true)
      parts = mended_parts (next_step setting (chronicle setting h) e) (chronicle setting h) is

      same : era (chronicle setting (e ∷ h)) ≡ era (chronicle setting h)
      same = era_kept (next_step setting (chronicle setting h) e) (chronicle setting h) parts.0

      by : (m : Bool) → mended_now (chronicle setting h) ≡ m → (mended_now (chronicle setting h) ≡ true → FirstMend h) → FirstMend (e ∷ h)
      by true was rest =
          let f : FirstMend h = rest was in
          record {
            event = f.event;
            earlier = f.earlier;
            tail = behind f.tail;
            mends = f.mends;
            none = f.none;
            same = f.same ∙ sym same;
            still = still_next (next_step setting (chronicle setting h) e) (chronicle setting f.earlier) (chronicle setting h) parts.0
                (fails_nothing setting e h clean was) f.still;
            here = f.here;
          }
      by false was rest =
          let mends : is_some (mended e) ≡ true = resolve (is_some (mended e)) (mended_now (chronicle setting h)) parts.1 was in
          record {
            event = e;
            earlier = h;
            tail = whole;
            mends = mends;
            none = was;
            same = sym same;
            still = still_next (next_step setting (chronicle setting h) e) (chronicle setting h) (chronicle setting h) parts.0 (mend_fails_nothing e mends)
                (record { failed = refl; first = λ things. refl });
            here = is;
          }
