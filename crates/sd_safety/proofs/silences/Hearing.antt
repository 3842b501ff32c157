-- A device that was fed heard later than the reference: so where it did not, the top is no later than the feeding lemma says.
use Rattle.std.specs.Prelude.{◌≡◌, ℕ, ◌+◌, ◌*◌, ◌<◌, ◌≤◌, Bool, true, false, ◌||◌, List, length, None, is_some, option_map, ◌⊎◌, refl, if◌then◌else◌}
use Rattle.std.proofs.Common.{arith, ◌∙◌, ap, inl, inr}
use Rattle.std.proofs.lemmas.Bool.{cases_lt, eq-eqb}
use Rattle.sd_num.specs.Lists.{map_or}
use Rattle.sd_plan.specs.topo.Network.{greatest_delay}
use Rattle.sd_plan.specs.declared.End.{End}
use Rattle.sd_device.specs.declared.msg.Stamp.{Stamp}
use Rattle.sd_device.specs.Calls.{Receive}
use Rattle.sd_device.specs.Words.{transition_of}
use Rattle.sd_sched.specs.Events.{reference_of}
use Rattle.sd_history.specs.World.{Setting, makes, latest_reference}
use Rattle.sd_history.specs.Steps.{Step, seen_of}
use Rattle.sd_history.specs.Chronicle.{past_in}
use Rattle.sd_history.proofs.Among.{Among}
use Rattle.sd_safety.specs.invariant.Bounds.{rounds_gap}
use Rattle.sd_safety.specs.invariant.Eras as eras
use Rattle.sd_safety.specs.invariant.Eras.{does, hears, latest_such, heard_at}
use Rattle.sd_safety.specs.messages.Moments.{whole, behind, IsChronicle, Moment, upto, when, IsIn}
use Rattle.sd_safety.specs.messages.Rounds.{Hears}
use Rattle.sd_safety.proofs.messages.Tails.{no_later, step_time}
use Rattle.sd_safety.specs.silences.Feeds.{Feeds, AreSound, IsFed}
use Rattle.sd_safety.proofs.silences.Feeding.{feeding}

does_hear : (stamp : Stamp) (epoch : ℕ) (q : Moment) (d link : ℕ) → Hears stamp epoch q d link → does hears q.earlier q.step d ≡ true
does_hear stamp epoch q d link h =
    ap (λ act. map_or (eras.did_by q.earlier act d) false hears) h.act
    ∙ ap (λ b. map_or
    (if b then option_map (λ past. record { call = Receive link h.message h.counter; transition = transition_of past (Receive link h.message h.counter) })
    (past_in q.earlier d) else None) false hears) (eq-eqb d d refl)
    ∙ ap (λ o. map_or
    (option_map (λ past. record { call = Receive link h.message h.counter; transition = transition_of past (Receive link h.message h.counter) }) o) false
    hears) h.takes.there
    ∙ ap is_some h.takes.over

-- what was heard at a moment counts later
pub heard_from : (setting : Setting) (q : Moment) (d : ℕ) (steps : List Step) → IsChronicle setting steps → IsIn q steps → does hears q.earlier q.step d ≡ true
    → when q ≤ heard_at steps d
heard_from setting q d _ is whole h = here (makes d q.step.seen.event) (does hears q.earlier q.step d) h
  where
    here : (m x : Bool) → x ≡ true → when q ≤ (if m || x then reference_of q.step.seen.event else latest_such hears q.earlier d)
    here true x h = omega arith
    here false true h = omega arith
    here false false h = cc
heard_from setting q d _ is (behind {x = s} {xs = earlier} t) h =
    later_ (makes d s.seen.event) (does hears earlier s d) (no_later setting q earlier is.0 t) (step_time setting s earlier is)
    (heard_from setting q d earlier is.0 t h)
  where
    later_ : (m x : Bool) → when q ≤ latest_reference (seen_of earlier) → latest_reference (seen_of earlier) ≤ reference_of s.seen.event
        → when q ≤ latest_such hears earlier d
        → when q ≤ (if m || x then reference_of s.seen.event else latest_such hears earlier d)
    later_ true x a b c = omega (arith, a, b)
    later_ false true a b c = omega (arith, a, b)
    later_ false false a b c = c

pub fed_heard : (setting : Setting) (top : Moment) (s0 epoch d : ℕ) → IsChronicle setting (upto top) → IsFed top s0 epoch d → s0 < heard_at top.earlier d
fed_heard setting top s0 epoch d is fed =
    let at = heard_from setting fed.moment d top.earlier is.0 fed.is_in (does_hear fed.stamp epoch fed.moment d fed.link fed.hears) in
    let late = fed.late in
    omega (arith, at, late)

-- the top comes by s0 + A + m * D, where the device heard nothing later than s0
pub unfed : (setting : Setting) (top : Moment) (x s0 epoch : ℕ) → Feeds setting top x s0 epoch → (way : List End) (e : End) → Among e way
    → length way ≤ 2 * (setting.net.params.depth + 1) → AreSound setting top epoch s0 x x way
    → heard_at top.earlier e.device ≤ s0 → when top ≤ s0 + rounds_gap setting.net + length way * greatest_delay setting.net
unfed setting top x s0 epoch f way e a short sound heard = go (cases_lt (s0 + rounds_gap setting.net + length way * greatest_delay setting.net) (when top))
  where
    go : (s0 + rounds_gap setting.net + length way * greatest_delay setting.net < when top)
        ⊎ (when top ≤ s0 + rounds_gap setting.net + length way * greatest_delay setting.net)
        → when top ≤ s0 + rounds_gap setting.net + length way * greatest_delay setting.net
    go (inr le) = le
    go (inl less) =
        let late = fed_heard setting top s0 epoch e.device f.source.chronicle_ (feeding setting top x s0 epoch f way e a short sound less) in
        absurd (omega (arith, late, heard))
