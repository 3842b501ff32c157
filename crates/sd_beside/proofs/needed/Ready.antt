-- The history up to a multiple of the tick: all but the devices of the zone go on as ever, and these have sent nothing.
use Rattle.std.specs.Prelude.{◌≡◌, ℕ, zero, suc, ◌+◌, ◌-◌, ◌*◌, ◌/◌, ◌^◌, ◌<◌, ◌≤◌, Bool, true, false, ◌&&◌, not, List, [], ◌∷◌, length, filter, sum_by, Some, refl}
use Rattle.std.proofs.Common.{sym, ap, ◌∙◌, subst, arith}
use Rattle.std.proofs.Math.Nat.{mul-add, mul_comm, div-mul-le_self, lt-div-mul-add}
use Rattle.std.proofs.lemmas.Nat.{mul-le}
use Rattle.std.proofs.lemmas.List.Sums.{sum_by-append, sum_by-cons}
use Rattle.sd_num.specs.Lists.{below}
use Rattle.sd_plan.specs.topo.Network.{Network}
use Rattle.sd_plan.specs.topo.Limits.{IsNetwork}
use Rattle.sd_plan.specs.declared.topo.Thing.{Thing}
use Rattle.sd_plan.specs.declared.topo.Thing.TheVariants as thing
use Rattle.sd_plan.specs.domain.Domains.{domains, holds}
use Rattle.sd_plan.specs.declared.domain.DomainId.{DomainId}
use Rattle.sd_plan.specs.declared.Plan.{Plan}
use Rattle.sd_plan.specs.Duties.{duty_of}
use Rattle.sd_device.specs.declared.msg.Flight.{Flight}
use Rattle.sd_device.specs.Calls.{Past}
use Rattle.sd_device.specs.Words.{stamp_now}
use Rattle.sd_sched.specs.declared.Event.{Event}
use Rattle.sd_history.specs.World.{Setting, alone}
use Rattle.sd_history.specs.Steps.{Step, seen_of, flights}
use Rattle.sd_history.specs.Chronicle.{chronicle, past_in}
use Rattle.sd_history.specs.Refusals.{was_used}
use Rattle.sd_history.specs.Premises.{latest_tick}
use Rattle.sd_history.proofs.Among.{Among}
use Rattle.sd_history.proofs.Given.{some_is}
use Rattle.sd_beside.specs.needed.Loops.{hop_count, events_until}
use Rattle.sd_beside.proofs.needed.Worlds.{is_live}
use Rattle.sd_beside.proofs.needed.Allowed.{live_parts}
use Rattle.sd_beside.proofs.needed.Air.{NoneDue}
use Rattle.sd_beside.proofs.needed.Going.{Good}
use Rattle.sd_beside.proofs.needed.Beginning.{fresh, fresh_if, Opened, opened}
use Rattle.sd_beside.proofs.needed.Pasts.{Plain}
use Rattle.sd_beside.proofs.needed.Hush.{IsShut, Hush, Idles}
use Rattle.sd_beside.proofs.needed.Budget.{Stamps, acted, width, total, level, budget, pending}
use Rattle.sd_beside.proofs.needed.Running.{Running, made, made_before, hush_as, ticks_on, clear}

-- a sum below a number is one over a list
total_is : (f : ℕ → ℕ) (n : ℕ) → total f n ≡ sum_by f (below n)
total_is f zero = refl
total_is f (suc n) =
    let rest = total_is f n in
    let split = sum_by-append f (below n) (n ∷ []) in
    let last = sum_by-cons f n [] in
    omega (arith, rest, split, last)

-- each part at most this many times the other
total_scaled : (f g : ℕ → ℕ) (a n : ℕ) → ((x : ℕ) → f x ≤ a * g x) → total f n ≤ a * total g n
total_scaled f g a zero each = omega arith
total_scaled f g a (suc n) each =
    let here = each n in
    let rest = total_scaled f g a n each in
    let split = mul-add a (g n) (total g n) in
    omega (arith, here, rest, split)

-- the last multiple before the wait is over, and the first at which it is
pub record Multiples (wait tick k : ℕ) : Type 0 where
  pub over : wait ≤ k * tick
  pub early : (i : ℕ) → i < k → i * tick < wait

pub multiples : (wait tick : ℕ) → 1 ≤ tick → Multiples wait tick ((wait + tick - 1) / tick)
multiples wait tick some =
    let up_ = lt-div-mul-add {a = wait + tick - 1} {b = tick} (omega (arith, some)) in
    let low_ = div-mul-le_self (wait + tick - 1) tick in
    record {
      over = omega (arith, up_, some);
      early = λ i less.
          (let one : (i + 1) * tick ≤ (wait + tick - 1) / tick * tick = mul-le (i + 1) tick ((wait + tick - 1) / tick) tick (omega (arith, less))
          (omega arith) in
          let split : (i + 1) * tick ≡ i * tick + tick = grind arith in
          omega (arith, one, split, low_, some));
    }

module _ (net : Network) (plan : Plan) (dom : DomainId) (down : Thing → Bool) (zone : ℕ → Bool) (mute : ℕ → ℕ → Type 0) (law : IsNetwork net)
    (among : Among dom (domains net))
    (known_device : (d : ℕ) → down (thing.Device d) ≡ true → d < length net.devices)
    (known_link : (l : ℕ) → down (thing.Link l) ≡ true → l < length net.links)
    (held : (x : Thing) → down x ≡ true → holds net dom x ≡ true)
    (shut : IsShut net plan down zone mute) (last : ℕ) (state : ℕ → ℕ → Past → Type 0) (idles : Idles net.params.tick last zone mute state)
    (begins : (z : ℕ) → zone z ≡ true → state 0 z (fresh net plan z)) (bound : events_until net plan last ≤ 2 ^ 26) where
  abbrev setting : Setting
  setting = alone net plan

  abbrev steps : List Event → List Step
  steps history = chronicle setting history

  -- before the last multiple
  pub record Ready : Type 0 where
    pub history : List Event
    pub reference : ℕ
    pub good : Good net plan dom down history reference
    pub before : reference ≤ last * net.params.tick
    pub ticked : (d : ℕ) → is_live net plan down d ≡ true → last * net.params.tick ≤ latest_tick (seen_of (steps history)) d + net.params.tick
    pub hush : Hush zone mute (λ z. state (last - 1) z) (steps history)
    pub there : (d : ℕ) → is_live net plan down d ≡ true → (past : Past) × (past_in (steps history) d ≡ Some past)
    pub plain : (d : ℕ) (past : Past) → past_in (steps history) d ≡ Some past → Plain (duty_of net plan 1 d) past
    pub none : NoneDue (steps history) (last * net.params.tick)
    pub room : length history + length net.devices ≤ 2 ^ 26

  abbrev devices : ℕ
  devices = length net.devices

  -- the parts of the bound
  parts : events_until net plan last ≡ 2 * devices + length net.links + (last * devices + devices) + 2 * (last + 1) * hop_count net plan
  parts = spread devices (length net.links) last (hop_count net plan)
    where
      spread : (n l k h : ℕ) → 2 * n + l + (k + 1) * (n + 2 * h) ≡ 2 * n + l + (k * n + n) + 2 * (k + 1) * h
      spread n l k h = grind arith

  start : Opened net plan dom down among known_device known_link held
  start = opened net plan dom down among known_device known_link held (let some = law.devices.0 in let sum = parts in omega (arith, bound, some, sum))

  -- nothing is on its way at the beginning
  none_sent : (f : Flight) → Among f (flights (steps start.history)) → ⊥
  none_sent f a = gone (subst (λ (fs : List Flight). Among f fs) start.sent a)
    where
      gone : Among f [] → ⊥
      gone b = elim b [ ]

  past_first : (d : ℕ) (past : Past) → past_in (steps start.history) d ≡ Some past → past ≡ fresh net plan d
  past_first d past is = by (is_live net plan down d) (sym (start.pasts d) ∙ is)
    where
      by : (b : Bool) → fresh_if net plan d b ≡ Some past → past ≡ fresh net plan d
      by true same = sym (some_is same)
      by false same = cc

  past_there : (d : ℕ) → is_live net plan down d ≡ true → past_in (steps start.history) d ≡ Some (fresh net plan d)
  past_there d live = start.pasts d ∙ ap (fresh_if net plan d) live

  hush_first : (of : ℕ → ℕ) → ((z : ℕ) → zone z ≡ true → of z ≡ 0) → Hush zone mute (λ z. state (of z) z) (steps start.history)
  hush_first of none =
      record {
        still = λ z in_. record {
          past = fresh net plan z;
          is = past_there z (shut.live z in_);
          still = subst (λ (i : ℕ). state i z (fresh net plan z)) (sym (none z in_)) (begins z in_);
        };
        silent = λ f a reaches mutes. none_sent f a;
      }

  stamps_first : Stamps net plan down 1 devices (steps start.history)
  stamps_first =
      record {
        there = λ d live. (fresh net plan d, past_there d live);
        plain = λ d past is. subst (λ (p : Past). Plain (duty_of net plan 1 d) p) (sym (past_first d past is)) (record { made = refl; did = refl });
        term = λ d past is. subst (λ (p : Past). (stamp_now p).term ≤ acted plan (steps start.history)) (sym (past_first d past is)) (omega arith);
        round = λ d past is. subst (λ (p : Past). (stamp_now p).round ≤ 1) (sym (past_first d past is)) (omega arith);
        due = λ d past is acts below_. subst (λ (p : Past). (stamp_now p).round < 1) (sym (past_first d past is)) (omega arith);
        sent_term = λ f a. absurd (none_sent f a);
        sent_round = λ f a. absurd (none_sent f a);
      }

  budget_first : budget net plan (last + 1) (steps start.history) ≤ 2 * (last + 1) * hop_count net plan
  budget_first =
      let m : ℕ = last + 1 in
      let none : length (pending (steps start.history)) ≡ 0 =
      ap (λ (fs : List Flight). length (filter (λ f. f.reaches && not (was_used (steps start.history) f.number)) fs)) start.sent in
      let scaled = total_scaled (λ d. width net plan d * (2 * m - level m (steps start.history) d)) (width net plan) (2 * m) devices
      (λ x. (let most : width net plan x * (2 * m - level m (steps start.history) x) ≤ width net plan x * (2 * m) =
      mul-le (width net plan x) (2 * m - level m (steps start.history) x) (width net plan x) (2 * m) (omega arith) (omega arith) in
      let swapped = mul_comm (width net plan x) (2 * m) in
      omega (arith, most, swapped))) in
      let sum : total (width net plan) devices ≡ hop_count net plan = total_is (width net plan) devices in
      let same : 2 * m * total (width net plan) devices ≡ 2 * m * hop_count net plan = ap (λ (x : ℕ). 2 * m * x) sum in
      omega (arith, none, scaled, same)

  -- this many multiples of the tick come before the last
  begin_ : (j : ℕ) → last ≡ suc j → Running net plan dom down zone mute last law among shut state idles 1 devices (j * devices + devices)
  begin_ j is =
      record {
        history = start.history;
        reference = 0;
        good = start.good;
        before = omega arith;
        ticked = λ d live. omega arith;
        done = λ d live above. (let within = (live_parts net plan down d live).within in absurd (omega (arith, within, above)));
        hush = hush_first (made net plan dom down zone mute last law among shut state idles 1 devices)
            (λ z in_. made_before net plan dom down zone mute last law among shut state idles 1 devices z
            (live_parts net plan down z (shut.live z in_)).within);
        stamps = stamps_first;
        room =
            (let long = start.length_ in
            let few = budget_first in
            let sum = parts in
            let same : last * devices ≡ j * devices + devices = ap (λ (k : ℕ). k * devices) is ∙ next j devices in
            omega (arith, long, few, sum, same, bound));
      }
    where
      next : (a n : ℕ) → suc a * n ≡ a * n + n
      next a n = grind arith

  pub ready : Ready
  ready = by last refl
    where
      by : (k : ℕ) → last ≡ k → Ready
      by zero is =
          let none : last * net.params.tick ≡ 0 * net.params.tick = ap (λ (k : ℕ). k * net.params.tick) is in
          record {
            history = start.history;
            reference = 0;
            good = start.good;
            before = omega arith;
            ticked = λ d live. omega (arith, none);
            hush = hush_first (λ z. last - 1) (λ z in_. omega (arith, is));
            there = stamps_first.there;
            plain = stamps_first.plain;
            none = λ f a reaches unused. absurd (none_sent f a);
            room = (let long = start.length_ in let sum = parts in omega (arith, long, sum, bound));
          }
      by (suc j) is =
          let run = ticks_on net plan dom down zone mute last law among shut state idles j 1 devices (omega arith) (omega (arith, is)) (begin_ j is) in
          let it = clear net plan dom down zone mute last law among shut state idles (1 + j) devices devices (budget net plan (last + 1) (steps run.history))
          (omega arith) (omega (arith, is)) run (omega arith) in
          let same : 1 + j ≡ last = omega (arith, is) in
          let at : (1 + j) * net.params.tick ≡ last * net.params.tick = ap (λ (k : ℕ). k * net.params.tick) same in
          record {
            history = it.running.history;
            reference = it.running.reference;
            good = it.running.good;
            before = (let before = it.running.before in omega (arith, before, at));
            ticked = λ d live. (let late = it.running.ticked d live in omega (arith, late, at));
            hush = hush_as net plan dom down zone mute last law among shut state idles
                (made net plan dom down zone mute last law among shut state idles (1 + j) devices) (λ z. last - 1) (steps it.running.history)
                (λ z in_. made_before net plan dom down zone mute last law among shut state idles (1 + j) devices z
                (live_parts net plan down z (shut.live z in_)).within ∙ omega (arith, same)) it.running.hush;
            there = it.running.stamps.there;
            plain = it.running.stamps.plain;
            none = λ f a reaches unused. (let late = it.none f a reaches unused in omega (arith, late, at));
            room = (let roomy = it.running.room in omega (arith, roomy));
          }
