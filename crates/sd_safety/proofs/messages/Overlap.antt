-- What has gone this many hops from its emission is received within this many greatest delays, and emissions lie further apart than that, by
-- the first timing rule.
use Rattle.std.specs.Prelude.{◌≡◌, ℕ, zero, suc, ◌+◌, ◌*◌, ◌-◌, ◌<◌, ◌≤◌, Bool, true, false, List, [], ◌∷◌, flat_map, find, max, nat_eq, nat_le, cond, drop, Some, None, refl, if◌then◌else◌}
use Rattle.std.proofs.Common.{arith}
use Rattle.std.proofs.lemmas.Bool.{and_parts, leb-true, leb-false}
use Rattle.sd_num.specs.Lists.{greatest, at_place}
use Rattle.sd_plan.specs.topo.Network.{Network, Link, no_link, delay_of, delay_towards, greatest_delay, least_low}
use Rattle.sd_plan.specs.declared.topo.LinkEntry.{LinkEntry}
use Rattle.sd_plan.specs.declared.topo.Delay.{Delay}
use Rattle.sd_plan.specs.declared.Plan.{Plan}
use Rattle.sd_device.specs.declared.msg.Stamp.{Stamp}
use Rattle.sd_device.specs.declared.msg.Flight.{Flight}
use Rattle.sd_checker.specs.check_root.Timing.{inequalities, is_broken, timing_breach}
use Rattle.sd_checker.specs.declared.check_root.TimingBreach.{TimingBreach}
use Rattle.sd_history.specs.World.{Setting}
use Rattle.sd_history.specs.Premises.{is_in_time}
use Rattle.sd_safety.specs.messages.Moments.{Moment, when}
use Rattle.sd_safety.specs.messages.Traces.{Hop}

-- No link's delay is past the greatest.

no_delay : (b : Bool) → (λ (r : Delay). r.max) (if b then record { min = 0; max = 0 } else record { min = 0; max = 0 }) ≤ 0
no_delay true = omega arith
no_delay false = omega arith

either_way : (link : LinkEntry) (n : ℕ) (b : Bool)
    → (λ (r : Delay). r.max) (if b then record { min = link.min; max = link.max } else record { min = link.back_min; max = link.back_max }) ≤ max link.max
    (max link.back_max n)
either_way link n true = omega arith
either_way link n false = omega arith

within_links : (links : List Link) (l r : ℕ)
    → (delay_towards (at_place links l no_link (λ link. link.entry)) r).max ≤ greatest (flat_map (λ link. link.entry.max ∷ link.entry.back_max ∷ []) links)
within_links [] l r = no_delay (nat_eq r 0)
within_links (x ∷ xs) zero r = either_way x.entry (greatest (flat_map (λ link. link.entry.max ∷ link.entry.back_max ∷ []) xs)) (nat_eq r x.entry.end_b)
within_links (x ∷ xs) (suc l) r = let rest = within_links xs l r in omega (arith, rest)

pub delay_within : (net : Network) (l r : ℕ) → (delay_of net l r).max ≤ greatest_delay net
delay_within net l r = within_links net.links l r

-- How long a trace took

pub in_time_most : (setting : Setting) (r : ℕ) (f : Flight) → is_in_time setting r f ≡ true → r ≤ f.sent_at + (delay_of setting.net f.link f.receiver).max
in_time_most setting r f holds =
    let parts : (nat_le (delay_of setting.net f.link f.receiver).min (r - f.sent_at) ≡ true)
    × (nat_le (r - f.sent_at) (delay_of setting.net f.link f.receiver).max ≡ true) =
    and_parts (nat_le (delay_of setting.net f.link f.receiver).min (r - f.sent_at))
    (nat_le (r - f.sent_at) (delay_of setting.net f.link f.receiver).max) holds in
    let most = leb-true (r - f.sent_at) (delay_of setting.net f.link f.receiver).max parts.1 in
    omega (arith, most)

pub hop_time : (setting : Setting) (stamp : Stamp) (epoch : ℕ) (from to : Moment) (x d : ℕ) → Hop setting stamp epoch from x to d
    → when to ≤ when from + greatest_delay setting.net
hop_time setting stamp epoch from to x d hop =
    let most = in_time_most setting (when to) hop.flight hop.in_time in
    let within = delay_within setting.net hop.flight.link hop.flight.receiver in
    let at = hop.sent_at in
    omega (arith, most, within, at)

pub one_more : (a b c m D : ℕ) → b ≤ a + m * D → c ≤ b + D → c ≤ a + suc m * D
one_more a b c m D first second = omega (arith, first, second)

-- The first timing rule

rule_holds : (a b : ℕ) (rest : List TimingBreach) → find is_broken (record { rule = 1; left = a; right = b } ∷ rest) ≡ None → b < a
rule_holds a b rest none = leb-false a b (go (nat_le a b) none)
  where
    go : (t : Bool) → cond t (Some (record { rule = 1; left = a; right = b })) (find is_broken rest) ≡ None → t ≡ false
    go true none' = cc
    go false none' = refl

-- emissions lie further apart than messages are on their way
abbrev pub IsApart : Network → Type 0
IsApart net = 2 * (net.params.depth + 1) * greatest_delay net + net.params.tick < least_low net net.params.period

pub apart_by_rule : (net : Network) (plan : Plan) → timing_breach net plan ≡ None → IsApart net
apart_by_rule net plan none =
    rule_holds (least_low net net.params.period) (2 * (net.params.depth + 1) * greatest_delay net + net.params.tick) (drop 1 (inequalities net plan)) none

-- Lemma 10
