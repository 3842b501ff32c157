-- C6 at a receipt of the backup root, from what stood on its path so far: an accepted message is of the plan in force, so the round came down the path.
use Rattle.std.specs.Prelude.{◌≡◌, ℕ, Bool, true, false, ◌&&◌, List, ◌∷◌, nat_eq, Option, Some, None, option_map, option_and_then, refl, if◌then◌else◌}
use Rattle.std.proofs.Common.{◌∙◌, ap, sym, subst}
use Rattle.std.proofs.lemmas.Bool.{and_parts, eqb-true}
use Rattle.sd_num.specs.Lists.{map_or, same_number}
use Rattle.sd_plan.specs.declared.Edge.{Edge}
use Rattle.sd_plan.specs.declared.Duty.{Duty}
use Rattle.sd_device.specs.declared.msg.Message.{Message}
use Rattle.sd_device.specs.declared.msg.Flight.{Flight}
use Rattle.sd_device.specs.msg.Stamps.{is_newer}
use Rattle.sd_device.specs.Calls as calls
use Rattle.sd_device.specs.Calls.{Transition, Past}
use Rattle.sd_device.specs.Words.{transition_of, epoch_now, stamp_now, given_now, parent_edge, over_link}
use Rattle.sd_sched.specs.declared.Event.{Event}
use Rattle.sd_sched.specs.declared.Event.TheVariants as event
use Rattle.sd_history.specs.World.{Setting, is_up}
use Rattle.sd_history.specs.Steps.{seen_of, flight_numbered}
use Rattle.sd_history.specs.Chronicle.{answers_by, past_in, chronicle}
use Rattle.sd_history.proofs.Given.{some_is}
use Rattle.sd_safety.specs.invariant.Eras.{era, plan_now, is_old, on_primary}
use Rattle.sd_safety.proofs.invariant.Parents.{live_is}
use Rattle.sd_safety.proofs.invariant.Prefix.{clean_before}
use Rattle.sd_safety.proofs.messages.Tails.{tail_chronicle, history_chronicle}
use Rattle.sd_safety.specs.frame.Receipts.{transition_of_receipt, KeepsEntering, AboveHears}
use Rattle.sd_safety.specs.invariant.Silences.{EntersSoon}
use Rattle.sd_safety.specs.invariant.Coming.{AtNext}
use Rattle.sd_safety.specs.invariant.Kept.{Keeps}
use Rattle.sd_safety.specs.frame.Descents.{TakesFromAbove, ComesDown, StoodThen}
use Rattle.sd_safety.proofs.frame.Climbing.{above_hears}
use Rattle.sd_safety.proofs.frame.Descending.{takes_from_above}
use Rattle.sd_safety.proofs.frame.Telling.{links_tell}
use Rattle.sd_safety.proofs.frame.Receiving.{receive}
use Rattle.sd_safety.proofs.messages.Flowing.{tail_rest}

-- what is accepted from the parent is of the device's own epoch
not_entered : (link : ℕ) (m : Message) (edge : Edge) (g : Option Duty) (rest : Transition)
    → map_or (option_and_then
    (λ (duty : Duty). if nat_eq duty.epoch m.epoch then option_map (calls.Entered duty) (option_and_then (over_link link) duty.primary) else None) g) rest
    (λ transition. transition) ≡ calls.Accepted edge
    → rest ≡ calls.Accepted edge
not_entered link m edge None rest is = is
not_entered link m edge (Some duty) rest is = go (nat_eq duty.epoch m.epoch) (option_and_then (over_link link) duty.primary) is
  where
    go : (b : Bool) (o : Option Edge) → map_or (if b then option_map (calls.Entered duty) o else None) rest (λ transition. transition) ≡ calls.Accepted edge
        → rest ≡ calls.Accepted edge
    go true None h = h
    go true (Some other) h = cc
    go false o h = h

followed : (b c : Bool) (o : Option Edge) (edge : Edge) → b ≡ c
    → map_or (if c then option_map calls.Accepted o else None) calls.Nothing (λ transition. transition) ≡ calls.Accepted edge → b ≡ true
followed b true o edge is h = is
followed b false o edge is h = cc

accepted_epoch : (past : Past) (link : ℕ) (m : Message) (c : ℕ) (edge : Edge) → transition_of past (calls.Receive link m c) ≡ calls.Accepted edge
    → epoch_now past ≡ m.epoch
accepted_epoch past link m c edge is =
    let both : (nat_eq (epoch_now past) m.epoch && is_newer m.stamp (stamp_now past)) ≡ true =
    followed _ _ (option_and_then (over_link link) (parent_edge past)) edge refl
    (not_entered link m edge (given_now past)
    (map_or (if nat_eq (epoch_now past) m.epoch && is_newer m.stamp (stamp_now past) then option_map calls.Accepted
    (option_and_then (over_link link) (parent_edge past)) else None) calls.Nothing (λ transition. transition)) is) in
    eqb-true (epoch_now past) m.epoch (and_parts (nat_eq (epoch_now past) m.epoch) (is_newer m.stamp (stamp_now past)) both).0

-- the past of an old device is of the plan in force
old_past : (n : ℕ) (past : Past) (u : Bool) (p : Option Past) → p ≡ Some past
    → same_number (option_map (λ a. a.epoch) (option_map answers_by (if u then p else None))) n ≡ true → epoch_now past ≡ n
old_past n past false p there is = cc
old_past n past true None there is = cc
old_past n past true (Some q) there is = ap epoch_now (sym (some_is there)) ∙ eqb-true (epoch_now q) n is

pub old_epoch : (setting : Setting) (history : List Event) (d : ℕ) (past : Past) → is_old (chronicle setting history) d ≡ true
    → past_in (chronicle setting history) d ≡ Some past → epoch_now past ≡ era (chronicle setting history)
old_epoch setting history d past old there =
    let steps = chronicle setting history in
    old_past (era steps) past (is_up (seen_of steps) d) (past_in steps d) there
    (sym (ap (λ o. same_number (option_map (λ a. a.epoch) o) (era steps)) (live_is setting history d)) ∙ old)

-- so a message that an old device accepts is of the plan in force
message_epoch : (setting : Setting) (history : List Event) (d c n : ℕ) (f : Flight) (edge : Edge) → flight_numbered (chronicle setting history) n ≡ Some f
    → is_old (chronicle setting history) d ≡ true
    → transition_of_receipt (chronicle setting history) d c n ≡ calls.Accepted edge → f.message.epoch ≡ era (chronicle setting history)
message_epoch setting history d c n f edge is old what =
    go (past_in (chronicle setting history) d) refl
    (sym (ap (λ (o : Option Flight). map_or o calls.Nothing
    (λ g. map_or (past_in (chronicle setting history) d) calls.Nothing (λ past. transition_of past (calls.Receive g.link g.message c)))) is) ∙ what)
  where
    go : (p : Option Past) → past_in (chronicle setting history) d ≡ p
        → map_or p calls.Nothing (λ past. transition_of past (calls.Receive f.link f.message c)) ≡ calls.Accepted edge
        → f.message.epoch ≡ era (chronicle setting history)
    go None there did = cc
    go (Some past) there did = sym (accepted_epoch past f.link f.message c edge did) ∙ old_epoch setting history d past old there

pub comes_down : {setting : Setting} → StoodThen setting → ComesDown setting
comes_down {setting} stood r c n history comes edge what stays f is y on_ low q inside =
    let steps = chronicle setting history in
    let backup = (plan_now setting steps).backup_root in
    let e = event.Recv r backup c n in
    let number : f.message.epoch ≡ era steps =
    message_epoch setting history backup c n f edge is (and_parts (is_old steps backup) (on_primary steps backup) stays).0 what in
    subst (λ k. TakesFromAbove setting (plan_now setting steps) f.message.stamp k q y) (sym number)
    (takes_from_above setting (links_tell comes.fair) f.message.stamp (era steps) q y
    (tail_chronicle setting inside (history_chronicle setting (e ∷ history) comes.clean.is))
    (λ past there own. stood history comes.fair (clean_before setting e history comes.clean) comes.before stays y on_ low q.earlier
    (tail_rest inside) past there own))

-- C6 at a receipt of the backup root
pub shadow_from_standing : {setting : Setting} → StoodThen setting → AboveHears setting
shadow_from_standing stood = above_hears (comes_down stood)

-- so a receipt keeps the core, where what enters does
pub receive_from_standing : {setting : Setting} → AtNext EntersSoon setting → StoodThen setting → KeepsEntering setting → (r d c n : ℕ)
    → Keeps setting (event.Recv r d c n)
receive_from_standing enters stood entering = receive enters (shadow_from_standing stood) entering
