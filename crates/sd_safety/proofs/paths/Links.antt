-- A link that failed in the era stays failed where nothing was mended in it.
use Rattle.std.specs.Prelude.{◌≡◌, ◌≤◌, Bool, true, false, not, List, [], ◌∷◌, Some, None, is_some, refl, if◌then◌else◌}
use Rattle.std.specs.List.{list_any}
use Rattle.std.proofs.Common.{arith, ap}
use Rattle.std.proofs.lemmas.Bool.{or_parts}
use Rattle.sd_num.specs.Lists.{map_or, leading}
use Rattle.sd_plan.specs.declared.topo.Thing.{Thing}
use Rattle.sd_history.specs.Things.{mended}
use Rattle.sd_history.specs.World.{Seen, fails, is_thing, has_failed}
use Rattle.sd_history.specs.Steps.{Step, seen_of}
use Rattle.sd_safety.specs.invariant.Eras.{era}
use Rattle.sd_safety.specs.messages.Moments.{Tail, whole, behind, Moment, upto}
use Rattle.sd_safety.proofs.messages.Tails.{rest_of}
use Rattle.sd_safety.proofs.silences.Phases.{era_grows, open_at}
use Rattle.sd_safety.specs.behind.Feeding.{mended_now}
use Rattle.sd_safety.proofs.entering.States.{nothing_fails}
use Rattle.sd_safety.proofs.messages.Opening.{up_stays_by}

unmended_by : (c : Bool) (s : Seen) (rest : List Seen) → s.closed ≡ c → c ≡ false
    → list_any (λ (x : Seen). is_some (mended x.event)) (if not c then s ∷ rest else []) ≡ false
    → (is_some (mended s.event) ≡ false) × (list_any (λ (x : Seen). is_some (mended x.event)) rest ≡ false)
unmended_by true s rest is open_ none = cc
unmended_by false s rest is open_ none = or_parts (is_some (mended s.event)) (list_any (λ (x : Seen). is_some (mended x.event)) rest) none

-- an event that closed nothing mended nothing, and nothing was before
pub unmended : (s : Step) (steps : List Step) → s.seen.closed ≡ false → mended_now (s ∷ steps) ≡ false
    → (is_some (mended s.seen.event) ≡ false) × (mended_now steps ≡ false)
unmended s steps open_ none =
    unmended_by s.seen.closed s.seen (leading (λ (x : Seen). not x.closed) (seen_of steps)) refl open_ none

-- so it is at each moment of the era
pub unmended_then : (s : Step) (older steps : List Step) → Tail (s ∷ older) steps → era steps ≤ era older → mended_now steps ≡ false
    → is_some (mended s.seen.event) ≡ false
unmended_then s older _ whole le none = (unmended s older (open_at s older le) none).0
unmended_then s older _ (behind {x = w} {xs = ws} t) le none =
    let grows : era (s ∷ older) ≤ era ws = era_grows (s ∷ older) ws t in
    let first : era older ≤ era (s ∷ older) = era_grows older (s ∷ older) (behind whole) in
    let next : era ws ≤ era (w ∷ ws) = era_grows ws (w ∷ ws) (behind whole) in
    unmended_then s older ws t (omega (arith, le, next)) (unmended w ws (open_at w ws (omega (arith, le, grows, first))) none).1

-- nor was anything mended by then
pub unmended_back : (older steps : List Step) → Tail older steps → era steps ≤ era older → mended_now steps ≡ false → mended_now older ≡ false
unmended_back older _ whole le none = none
unmended_back older _ (behind {x = w} {xs = ws} t) le none =
    let grows : era older ≤ era ws = era_grows older ws t in
    let next : era ws ≤ era (w ∷ ws) = era_grows ws (w ∷ ws) (behind whole) in
    unmended_back older ws t (omega (arith, le, next)) (unmended w ws (open_at w ws (omega (arith, le, grows))) none).1

pub stays_failed : (x : Thing) (g : Moment) (older steps : List Step) → Tail (upto g) older → Tail older steps → era steps ≤ era (upto g)
    → mended_now steps ≡ false → fails x g.step.seen.event ≡ true → has_failed (seen_of older) x ≡ true
stays_failed x g _ steps whole t le none failing =
    ap (λ f. map_or (if f then Some true else if is_thing (mended g.step.seen.event) x then Some false else None) (has_failed (seen_of g.earlier) x)
    (λ told. told)) failing
stays_failed x g _ steps (behind {x = s} {xs = older} u) t le none failing =
    let grows : era (upto g) ≤ era older = era_grows (upto g) older u in
    up_stays_by (fails x s.seen.event) (is_thing (mended s.seen.event) x) (has_failed (seen_of older) x)
    (nothing_fails (mended s.seen.event) x (unmended_then s older steps t (omega (arith, le, grows)) none))
    (stays_failed x g older steps u (rest_of t) le none failing)
