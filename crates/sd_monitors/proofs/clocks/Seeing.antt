-- What an event keeps that may be seen after what was seen: references and counters do not fall.
use Rattle.std.proofs.Common.{◌≡◌, ℕ, ◌≤◌, Bool, true, false, not, ◌&&◌, ◌||◌, nat_lt, List, Option, Some, sym, ap, ◌∙◌, subst}
use Rattle.std.proofs.lemmas.Bool.{or_parts, not-true, not-false, ltb-false}
use Rattle.sd_num.specs.Lists.{map_or}
use Rattle.sd_sched.specs.declared.Event.{Event}
use Rattle.sd_sched.specs.declared.Event.TheVariants.{Tick, Recv}
use Rattle.sd_sched.specs.Events.{device_of, counter_of}
use Rattle.sd_history.specs.World.{Setting, Seen, is_up, latest_reading}
use Rattle.sd_history.specs.Refusals.{makes_some, unknown_device, unknown_link, dead_device, dead_link, time_falls, counter_falls, not_started, started_twice, no_plan_left, window_order_seen, after_end, not_failed, not_member, too_many}
use Rattle.sd_history.specs.Open.{may_be_seen}

-- three of fourteen causes that do not hold
three_of : (a b c d e f g h i j k l m n : Bool) → not (a || b || c || d || e || f || g || h || i || j || k || l || m || n) ≡ true
    → (e ≡ false) × (f ≡ false) × (g ≡ false)
three_of a b c d e f g h i j k l m n none =
    let at_n = not-true (a || b || c || d || e || f || g || h || i || j || k || l || m || n) none in
    let at_m = (or_parts (a || b || c || d || e || f || g || h || i || j || k || l || m) n at_n).0 in
    let at_l = (or_parts (a || b || c || d || e || f || g || h || i || j || k || l) m at_m).0 in
    let at_k = (or_parts (a || b || c || d || e || f || g || h || i || j || k) l at_l).0 in
    let at_j = (or_parts (a || b || c || d || e || f || g || h || i || j) k at_k).0 in
    let at_i = (or_parts (a || b || c || d || e || f || g || h || i) j at_j).0 in
    let at_h = (or_parts (a || b || c || d || e || f || g || h) i at_i).0 in
    let at_g = (or_parts (a || b || c || d || e || f || g) h at_h).0 in
    let at_f = or_parts (a || b || c || d || e || f) g at_g in
    let last = or_parts (a || b || c || d || e) f at_f.0 in
    ((or_parts (a || b || c || d) e last.0).1, last.1, at_f.1)

neither_falls : (setting : Setting) (earlier : List Seen) (e : Event) → may_be_seen setting earlier e ≡ true
    → (time_falls earlier e ≡ false) × (counter_falls earlier e ≡ false) × (not_started earlier e ≡ false)
neither_falls setting earlier e may =
    three_of (unknown_device setting e) (unknown_link setting e) (dead_device earlier e) (dead_link earlier e) (time_falls earlier e) (counter_falls earlier e)
    (not_started earlier e)
    (started_twice setting earlier e) (no_plan_left setting earlier e) (window_order_seen setting earlier e) (after_end earlier) (not_failed earlier e)
    (not_member setting earlier e) (too_many earlier) may

-- the counter of an event that makes no device
pub counter_rises : (setting : Setting) (earlier : List Seen) (e : Event) (d c : ℕ) → may_be_seen setting earlier e ≡ true → makes_some e ≡ false
    → device_of e ≡ Some d → counter_of e ≡ Some c → latest_reading earlier d ≤ c
counter_rises setting earlier e d c may makes device counter =
    let falls : counter_falls earlier e ≡ false = (neither_falls setting earlier e may).1 in
    let at : (not (makes_some e) && map_or (device_of e) false (λ d. map_or (counter_of e) false (λ c. nat_lt c (latest_reading earlier d))))
    ≡ nat_lt c (latest_reading earlier d) =
    ap (λ (b : Bool). not b && map_or (device_of e) false (λ d. map_or (counter_of e) false (λ c. nat_lt c (latest_reading earlier d)))) makes
    ∙ ap (λ (o : Option ℕ). map_or o false (λ d. map_or (counter_of e) false (λ c. nat_lt c (latest_reading earlier d)))) device
    ∙ ap (λ (o : Option ℕ). map_or o false (λ c. nat_lt c (latest_reading earlier d))) counter in
    ltb-false c (latest_reading earlier d) (sym at ∙ falls)

-- the device of a tick or a receipt is up

pub ticking_up : (setting : Setting) (earlier : List Seen) (e : Event) (t d c : ℕ) → may_be_seen setting earlier e ≡ true → e ≡ Tick t d c
    → is_up earlier d ≡ true
ticking_up setting earlier e t d c may is =
    not-false (is_up earlier d) (subst (λ (x : Event). not_started earlier x ≡ false) is (neither_falls setting earlier e may).2)

pub receiving_up : (setting : Setting) (earlier : List Seen) (e : Event) (t d c n : ℕ) → may_be_seen setting earlier e ≡ true → e ≡ Recv t d c n
    → is_up earlier d ≡ true
receiving_up setting earlier e t d c n may is =
    not-false (is_up earlier d) (subst (λ (x : Event). not_started earlier x ≡ false) is (neither_falls setting earlier e may).2)
