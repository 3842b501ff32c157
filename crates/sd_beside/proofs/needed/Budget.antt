-- How many messages there can still be: each device sends a message only with a newer stamp, and there are no more stamps than ticks of a device, for
-- each of two terms.
use Rattle.std.specs.Prelude.{◌≡◌, ◌≢◌, ℕ, zero, suc, ◌+◌, ◌-◌, ◌*◌, ◌<◌, ◌≤◌, Bool, true, false, ◌&&◌, ◌||◌, not, List, [], ◌∷◌, ◌++◌, ◌⊎◌, length, filter, nat_eq, nat_lt, Option, Some, None, option_map, refl, if◌then◌else◌}
use Rattle.std.proofs.Common.{sym, ap, ◌∙◌, subst, arith, inl, inr}
use Rattle.std.proofs.Math.Nat.{mul-add}
use Rattle.std.proofs.lemmas.Nat.{mul-le}
use Rattle.std.proofs.lemmas.Bool.{and_parts, and_from, or_cases, or_parts, eqb-true, eq-eqb, ne_eqb, ltb-true, both_ways, cases_eq, not-true}
use Rattle.sd_num.specs.Lists.{map_or}
use Rattle.sd_plan.specs.topo.Network.{Network}
use Rattle.sd_plan.specs.declared.topo.Thing.{Thing}
use Rattle.sd_plan.specs.declared.domain.DomainId.{DomainId}
use Rattle.sd_plan.specs.declared.Plan.{Plan}
use Rattle.sd_plan.specs.declared.Duty.{Duty}
use Rattle.sd_plan.specs.declared.Role.TheVariants.{Root, BackupRoot, Ordinary}
use Rattle.sd_plan.specs.Plans.{is_root, is_backup_root}
use Rattle.sd_plan.specs.Duties.{duty_of, ends_of}
use Rattle.sd_num.specs.Counts.{one_if}
use Rattle.sd_device.specs.declared.msg.Flight.{Flight}
use Rattle.sd_device.specs.declared.msg.Message.{Message}
use Rattle.sd_device.specs.declared.msg.Stamp.{Stamp}
use Rattle.sd_device.specs.msg.Stamps.{is_newer}
use Rattle.sd_device.specs.declared.Effect.{Effect}
use Rattle.sd_device.specs.declared.Effect.TheVariants.{Quiet, Send}
use Rattle.sd_device.specs.Calls.{Call, Tick, Receive, Past}
use Rattle.sd_device.specs.Words.{stamp_now, is_acting, after, effect_of, is_backup_root_now, epoch_now}
use Rattle.sd_sched.specs.declared.Event.{Event}
use Rattle.sd_sched.specs.declared.Event.TheVariants as event
use Rattle.sd_sched.specs.Events.{reference_of}
use Rattle.sd_history.specs.World.{Setting, alone}
use Rattle.sd_history.specs.Steps.{Act, Calls, Passes, Step, seen_of, flights, flight_numbered, flight_count, act_by, ends_at, flights_by, flights_of, tells_nothing, tells_called}
use Rattle.sd_history.specs.Chronicle.{next_step, past_in, past_after, answers_by, told_by}
use Rattle.sd_history.specs.Accepted.{AreSteps}
use Rattle.sd_history.specs.Refusals.{was_used}
use Rattle.sd_history.proofs.Among.{Among, first, later, either_side}
use Rattle.sd_history.proofs.Given.{some_is}
use Rattle.sd_history.proofs.flights.Counts.{length-flights_to}
use Rattle.sd_beside.proofs.needed.Worlds.{IsCalm, ticks, receives, is_live, World}
use Rattle.sd_beside.proofs.needed.Allowed.{live_parts}
use Rattle.sd_beside.proofs.needed.Air.{IsNew, is_new}
use Rattle.sd_beside.proofs.needed.Still.{not_sent}
use Rattle.sd_beside.proofs.needed.Pasts.{Plain, duty_is}
use Rattle.sd_beside.proofs.needed.Turns.{Sends, relays, emits, takes_over, Turned, rests, sends, Goes, plain_on, tick_turns, receipt_turns}

-- Stamps

-- the backup root acts, as a number
abbrev pub acted : Plan → List Step → ℕ
acted plan steps = map_or (past_in steps plan.backup_root) 0 (λ past. if is_acting past then 1 else 0)

-- the stamps of devices and messages: the second term begins when the backup root acts, and no round is greater than the number of ticks of a device,
-- where the devices from c on have ticked k times and the others once less
pub record Stamps (net : Network) (plan : Plan) (down : Thing → Bool) (k c : ℕ) (steps : List Step) : Type 0 where
  pub there : (d : ℕ) → is_live net plan down d ≡ true → (past : Past) × (past_in steps d ≡ Some past)
  pub plain : (d : ℕ) (past : Past) → past_in steps d ≡ Some past → Plain (duty_of net plan 1 d) past
  pub term : (d : ℕ) (past : Past) → past_in steps d ≡ Some past → (stamp_now past).term ≤ acted plan steps
  pub round : (d : ℕ) (past : Past) → past_in steps d ≡ Some past → (stamp_now past).round ≤ k
  pub due : (d : ℕ) (past : Past) → past_in steps d ≡ Some past → is_acting past ≡ true → d < c → (stamp_now past).round < k
  pub sent_term : (f : Flight) → Among f (flights steps) → f.message.stamp.term ≤ acted plan steps
  pub sent_round : (f : Flight) → Among f (flights steps) → f.message.stamp.round ≤ k

-- a stamp as a number that grows with it
abbrev pub code : ℕ → Stamp → ℕ
code m s = s.term * m + s.round

newer_code : (m : ℕ) (a b : Stamp) → b.round < m → is_newer a b ≡ true → code m b < code m a
newer_code m a b below_ newer =
    elim (or_cases (nat_lt b.term a.term) (nat_eq a.term b.term && nat_lt b.round a.round) newer) [
      | inl term ↦
          (let less : b.term + 1 ≤ a.term = (let l = ltb-true b.term a.term term in omega (arith, l)) in
          let more : (b.term + 1) * m ≤ a.term * m = mul-le (b.term + 1) m a.term m less (omega arith) in
          let one : (b.term + 1) * m ≡ b.term * m + m = grind arith in
          omega (arith, below_, more, one))
      | inr round ↦
          (let (same, less) = and_parts (nat_eq a.term b.term) (nat_lt b.round a.round) round in
          let equal : a.term * m ≡ b.term * m = ap (λ (x : ℕ). x * m) (eqb-true a.term b.term same) in
          let l = ltb-true b.round a.round less in
          omega (arith, equal, l))
    ]

-- The budget

-- over how many ends a device sends
abbrev pub width : Network → Plan → ℕ → ℕ
width net plan d = length (ends_of net plan d)

-- what comes below n, added up
abbrev pub total : (ℕ → ℕ) → ℕ → ℕ
total f zero = 0
total f (suc n) = f n + total f n

-- how far the device's stamp has come
abbrev pub level : ℕ → List Step → ℕ → ℕ
level m steps d = map_or (past_in steps d) 0 (λ past. code m (stamp_now past))

-- what is on its way
abbrev pub pending : List Step → List Flight
pending steps = filter (λ f. f.reaches && not (was_used steps f.number)) (flights steps)

-- how many more messages can be received
abbrev pub budget : Network → Plan → ℕ → List Step → ℕ
budget net plan m steps = total (λ d. width net plan d * (2 * m - level m steps d)) (length net.devices) + length (pending steps)

total_same : (f g : ℕ → ℕ) (n : ℕ) → ((x : ℕ) → x < n → f x ≡ g x) → total f n ≡ total g n
total_same f g zero same = refl
total_same f g (suc n) same =
    let here = same n (omega arith) in
    let rest = total_same f g n (λ x less. same x (omega (arith, less))) in
    omega (arith, here, rest)

total_less : (f g : ℕ → ℕ) (n d more : ℕ) → d < n → ((x : ℕ) → x ≢ d → f x ≡ g x) → f d + more ≤ g d → total f n + more ≤ total g n
total_less f g zero d more within same less = absurd (omega (arith, within))
total_less f g (suc n) d more within same less =
    elim (cases_eq n d) [
      | inl here ↦
          (let rest = total_same f g n (λ x below_. same x (λ equal. omega (arith, below_, here, equal))) in
          let at : f n + more ≤ g n = subst (λ (x : ℕ). f x + more ≤ g x) (sym here) less in
          omega (arith, rest, at))
      | inr other ↦
          (let at = same n other in
          let rest = total_less f g n d more (omega (arith, within, other)) same less in
          omega (arith, at, rest))
    ]

filter_less : {A : Type 0} (p q : A → Bool) (xs : List A) → ((x : A) → q x ≡ true → p x ≡ true) → length (filter q xs) ≤ length (filter p xs)
filter_less p q [] each = omega arith
filter_less {A = A} p q (x ∷ xs) each = by (q x) (p x) refl refl (filter_less p q xs each)
  where
    by : (b c : Bool) → q x ≡ b → p x ≡ c → length (filter q xs) ≤ length (filter p xs)
        → length (if b then x ∷ filter q xs else filter q xs) ≤ length (if c then x ∷ filter p xs else filter p xs)
    by true true is_q is_p rest = omega (arith, rest)
    by true false is_q is_p rest = absurd (both_ways (p x) is_p (each x is_q))
    by false true is_q is_p rest = omega (arith, rest)
    by false false is_q is_p rest = rest

fewer_head : {A : Type 0} (p q : A → Bool) (y x : A) (ys : List A) → ((z : A) → q z ≡ true → p z ≡ true) → p x ≡ true → q x ≡ false
    → (Among x ys → length (filter q ys) < length (filter p ys)) → Among x (y ∷ ys) → length (filter q (y ∷ ys)) < length (filter p (y ∷ ys))
fewer_head p q y x ys each is_p is_q rest first = let less = filter_less p q ys each in rw (is_p, is_q) (omega (arith, less))
fewer_head p q y x ys each is_p is_q rest (later a) = by (q y) (p y) refl refl (rest a)
  where
    by : (b c : Bool) → q y ≡ b → p y ≡ c → length (filter q ys) < length (filter p ys)
        → length (if b then y ∷ filter q ys else filter q ys) < length (if c then y ∷ filter p ys else filter p ys)
    by true true is_q' is_p' less = omega (arith, less)
    by true false is_q' is_p' less = absurd (both_ways (p y) is_p' (each y is_q'))
    by false true is_q' is_p' less = omega (arith, less)
    by false false is_q' is_p' less = less

filter_fewer : {A : Type 0} (p q : A → Bool) (xs : List A) (x : A) → ((z : A) → q z ≡ true → p z ≡ true) → p x ≡ true → q x ≡ false → Among x xs
    → length (filter q xs) < length (filter p xs)
filter_fewer p q [] x each is_p is_q a = elim a [ ]
filter_fewer p q (y ∷ ys) x each is_p is_q a = fewer_head p q y x ys each is_p is_q (filter_fewer p q ys x each is_p is_q) a

-- One step more

-- whose duty is the backup root's is the backup root
backup_root_is : (net : Network) (plan : Plan) (d : ℕ) (past : Past) → Plain (duty_of net plan 1 d) past → is_backup_root_now past ≡ true → plan.backup_root ≡ d
backup_root_is net plan d past plain is =
    by (is_root plan d) (is_backup_root plan d) refl
    (sym (ap (λ (o : Option Duty). map_or o false (λ duty. elim duty.role [ BackupRoot ↦ true | _ ↦ false ])) (duty_is (duty_of net plan 1 d) past plain))
    ∙ is)
  where
    by : (root backup : Bool) → is_backup_root plan d ≡ backup
        → (elim (if root then Root else if backup then BackupRoot else Ordinary) [ BackupRoot ↦ true | _ ↦ false ]) ≡ true → plan.backup_root ≡ d
    by true backup is_backup role = cc
    by false true is_backup role = eqb-true plan.backup_root d is_backup
    by false false is_backup role = cc

acting_stays : (past : Past) (call : Call) → Turned past call → is_acting past ≡ true → is_acting (after past call) ≡ true
acting_stays past call (rests quiet stamp_is acting) acts = acting ∙ acts
acting_stays past call (sends m sent same (relays link mess counter is newer stamp_is idle idle_on)) acts = absurd (both_ways (is_acting past) idle acts)
acting_stays past call (sends m sent same (emits counter is acting stamp_is acting_on)) acts = acting_on
acting_stays past call (sends m sent same (takes_over counter is idle backup stamp_is acting_on)) acts = acting_on

-- the stamp that a call leaves, by the law of stamps
record IsLawful (a k c d : ℕ) (past : Past) : Type 0 where
  pub term : (stamp_now past).term ≤ a
  pub round : (stamp_now past).round ≤ k
  pub due : is_acting past ≡ true → d < c → (stamp_now past).round < k

-- the ends over which a device sends in any epoch are no more than those that the plan gives it
ends_few : (net : Network) (plan : Plan) (dom : DomainId) (down : Thing → Bool) (steps : List Step) (t : ℕ) → World net plan dom down (seen_of steps) t
    → (epoch d : ℕ) → length (ends_at (alone net plan) steps epoch d) ≤ width net plan d
ends_few net plan dom down steps t world epoch d =
    rw (world.closings, world.window) (by (nat_eq epoch 1) (nat_eq epoch 2))
  where
    by : (b c : Bool) → length (map_or (if b then Some plan else if c then None else None) [] (λ p. ends_of net p d)) ≤ width net plan d
    by true c = omega arith
    by false true = omega arith
    by false false = omega arith

one_if_more : (x y : Bool) → (x ≡ true → y ≡ true) → one_if x ≤ one_if y
one_if_more false y on = omega arith
one_if_more true true on = omega arith
one_if_more true false on = absurd (both_ways false refl (on refl))

one_if_most : (x : Bool) → one_if x ≤ 1
one_if_most true = omega arith
one_if_most false = omega arith

same_message : {m n : Message} {effect : Effect} → effect ≡ Send m → effect ≡ Send n → m ≡ n
same_message {m = m} one two = ap (λ (x : Effect). elim x [ Quiet ↦ m | Send y ↦ y ]) (sym one ∙ two)

module _ (net : Network) (plan : Plan) (dom : DomainId) (down : Thing → Bool) (m k c c' : ℕ) (steps : List Step) (t : ℕ)
    (world : World net plan dom down (seen_of steps) t) (stamps : Stamps net plan down k c steps) (some : 1 ≤ k) (less : k < m) (fewer : c' ≤ c)
    (e : Event) (r d : ℕ) (call : Call) (calm : IsCalm e r d) (acts : act_by (alone net plan) steps e ≡ Calls d call) (live : is_live net plan down d ≡ true)
    (past : Past) (past_is : past_in steps d ≡ Some past) (goes : Goes past call)
    (by_tick : (counter : ℕ) → call ≡ Tick counter → (d < c) × (c' ≤ d))
    (by_receipt : (link : ℕ) (message : Message) (counter : ℕ) → call ≡ Receive link message counter
    → (f : Flight) × Among f (flights steps) × (f.message ≡ message)) where
  abbrev setting : Setting
  setting = alone net plan

  abbrev s : Step
  s = next_step setting steps e

  plain : Plain (duty_of net plan 1 d) past
  plain = stamps.plain d past past_is

  past_at : (z : ℕ) (b : Bool) → nat_eq d z ≡ b
      → past_in (s ∷ steps) z ≡ (if b then option_map (λ x. after x call) (past_in steps z) else past_in steps z)
  past_at z b is_b =
      ap (λ (act : Act). past_after act z (past_in steps z)) acts
      ∙ ap (λ (x : Bool). if x then option_map (λ y. after y call) (past_in steps z) else past_in steps z) is_b

  past_here : past_in (s ∷ steps) d ≡ Some (after past call)
  past_here = past_at d true (eq-eqb d d refl) ∙ ap (option_map (λ x. after x call)) past_is

  effect_is : s.told.effect ≡ effect_of past call
  effect_is =
      ap (λ (act : Act). (told_by steps act).effect) acts
      ∙ ap (λ (o : Option Past). (map_or o tells_nothing (λ x. tells_called (effect_of x call) (answers_by (after x call)))).effect) past_is

  acted_was : d ≡ plan.backup_root → acted plan steps ≡ one_if (is_acting past)
  acted_was same = ap (λ (o : Option Past). map_or o 0 (λ x. one_if (is_acting x))) (ap (past_in steps) (sym same) ∙ past_is)

  acted_now : d ≡ plan.backup_root → acted plan (s ∷ steps) ≡ one_if (is_acting (after past call))
  acted_now same = ap (λ (o : Option Past). map_or o 0 (λ x. one_if (is_acting x))) (ap (past_in (s ∷ steps)) (sym same) ∙ past_here)

  -- who acts goes on acting
  acted_more : acted plan steps ≤ acted plan (s ∷ steps)
  acted_more = by (nat_eq d plan.backup_root) refl
    where
      by : (b : Bool) → nat_eq d plan.backup_root ≡ b → acted plan steps ≤ acted plan (s ∷ steps)
      by false other =
          let same : acted plan (s ∷ steps) ≡ acted plan steps =
          ap (λ (o : Option Past). map_or o 0 (λ x. one_if (is_acting x))) (past_at plan.backup_root false other) in
          omega (arith, same)
      by true is =
          let same : d ≡ plan.backup_root = eqb-true d plan.backup_root is in
          let was = acted_was same in
          let now = acted_now same in
          let more = one_if_more (is_acting past) (is_acting (after past call)) (acting_stays past call goes.turned) in
          omega (arith, was, now, more)

  lawful : IsLawful (acted plan (s ∷ steps)) k c' d (after past call)
  lawful = by goes.turned
    where
      by : Turned past call → IsLawful (acted plan (s ∷ steps)) k c' d (after past call)
      by (rests quiet same acting) =
          record {
            term = (let old = stamps.term d past past_is in let more = acted_more in let term = ap (λ (x : Stamp). x.term) same in omega
                (arith, old, more, term));
            round = (let old = stamps.round d past past_is in let round = ap (λ (x : Stamp). x.round) same in omega (arith, old, round));
            due = λ acts_on below_.
                (let old = stamps.due d past past_is (sym acting ∙ acts_on) (omega (arith, below_, fewer)) in
                let round = ap (λ (x : Stamp). x.round) same in
                omega (arith, old, round));
          }
      by (sends n sent same (relays link mess counter is newer st idle idle_on)) =
          let given = by_receipt link mess counter is in
          let equal : stamp_now (after past call) ≡ given.0.message.stamp = st ∙ ap (λ (x : Message). x.stamp) (sym given.2) in
          record {
            term = (let old = stamps.sent_term given.0 given.1 in let more = acted_more in let term = ap (λ (x : Stamp). x.term) equal in omega
                (arith, old, more, term));
            round = (let old = stamps.sent_round given.0 given.1 in let round = ap (λ (x : Stamp). x.round) equal in omega (arith, old, round));
            due = λ acts_on below_. absurd (both_ways (is_acting (after past call)) idle_on acts_on);
          }
      by (sends n sent same (emits counter is acting st acting_on)) =
          let turn = by_tick counter is in
          let early = stamps.due d past past_is acting turn.0 in
          record {
            term = (let old = stamps.term d past past_is in let more = acted_more in let term = ap (λ (x : Stamp). x.term) st in omega
                (arith, old, more, term));
            round = (let round = ap (λ (x : Stamp). x.round) st in omega (arith, early, round));
            due = λ acts_on below_. absurd (omega (arith, below_, turn.1));
          }
      by (sends n sent same (takes_over counter is idle backup st acting_on)) =
          let turn = by_tick counter is in
          let root : d ≡ plan.backup_root = sym (backup_root_is net plan d past plain backup) in
          let was : acted plan steps ≡ 0 = acted_was root ∙ ap one_if idle in
          let now : acted plan (s ∷ steps) ≡ 1 = acted_now root ∙ ap one_if acting_on in
          record {
            term = (let old = stamps.term d past past_is in let term = ap (λ (x : Stamp). x.term) st in omega (arith, old, was, now, term));
            round = (let round = ap (λ (x : Stamp). x.round) st in omega (arith, some, round));
            due = λ acts_on below_. absurd (omega (arith, below_, turn.1));
          }

  -- a device that has a past after the step is the one that was called, or had it before
  which : (x : ℕ) (p : Past) → past_in (s ∷ steps) x ≡ Some p → ((d ≡ x) × (after past call ≡ p)) ⊎ (past_in steps x ≡ Some p)
  which x p is = by (nat_eq d x) refl
    where
      by : (b : Bool) → nat_eq d x ≡ b → ((d ≡ x) × (after past call ≡ p)) ⊎ (past_in steps x ≡ Some p)
      by true same =
          let equal : d ≡ x = eqb-true d x same in
          inl (equal, some_is (sym past_here ∙ ap (past_in (s ∷ steps)) equal ∙ is))
      by false other = inr (sym (past_at x false other) ∙ is)

  -- what a flight that is sent carries
  carries : AreSteps setting (s ∷ steps) → (f : Flight) → Among f s.sent → f.message.stamp ≡ stamp_now (after past call)
  carries is f a =
      let n : IsNew net plan steps s r d f = is_new net plan dom down steps t world e r d f calm is a in
      by (sym effect_is ∙ n.sends) goes.turned
    where
      by : effect_of past call ≡ Send f.message → Turned past call → f.message.stamp ≡ stamp_now (after past call)
      by sent (rests quiet same acting) = absurd (not_sent quiet sent)
      by sent (sends n sent' same way) = ap (λ (x : Message). x.stamp) (same_message sent sent') ∙ same

  pub stamps_on : AreSteps setting (s ∷ steps) → Stamps net plan down k c' (s ∷ steps)
  stamps_on is =
      record {
        there = λ z alive. here z alive (nat_eq d z) refl;
        plain = λ x p at. elim (which x p at) [
          | inl now ↦ subst (λ (q : Past). Plain (duty_of net plan 1 x) q) now.1
              (subst (λ (y : ℕ). Plain (duty_of net plan 1 y) (after past call)) now.0 (plain_on (duty_of net plan 1 d) past call plain goes.plain))
          | inr old ↦ stamps.plain x p old
        ];
        term = λ x p at. elim (which x p at) [
          | inl now ↦ subst (λ (q : Past). (stamp_now q).term ≤ acted plan (s ∷ steps)) now.1 lawful.term
          | inr old ↦ (let before = stamps.term x p old in let more = acted_more in omega (arith, before, more))
        ];
        round = λ x p at. elim (which x p at) [
          | inl now ↦ subst (λ (q : Past). (stamp_now q).round ≤ k) now.1 lawful.round
          | inr old ↦ stamps.round x p old
        ];
        due = λ x p at acts_on below_. elim (which x p at) [
          | inl now ↦ subst (λ (q : Past). (stamp_now q).round < k) now.1
              (lawful.due (subst (λ (q : Past). is_acting q ≡ true) (sym now.1) acts_on) (let same = now.0 in omega (arith, below_, same)))
          | inr old ↦ stamps.due x p old acts_on (omega (arith, below_, fewer))
        ];
        sent_term = λ f a. elim (either_side s.sent (flights steps) a) [
          | inl b ↦ (let term = ap (λ (x : Stamp). x.term) (carries is f b) in let law = lawful.term in omega (arith, term, law))
          | inr b ↦ (let before = stamps.sent_term f b in let more = acted_more in omega (arith, before, more))
        ];
        sent_round = λ f a. elim (either_side s.sent (flights steps) a) [
          | inl b ↦ (let round = ap (λ (x : Stamp). x.round) (carries is f b) in let law = lawful.round in omega (arith, round, law))
          | inr b ↦ stamps.sent_round f b
        ];
      }
    where
      here : (z : ℕ) → is_live net plan down z ≡ true → (b : Bool) → nat_eq d z ≡ b → (p : Past) × (past_in (s ∷ steps) z ≡ Some p)
      here z alive true same = (after past call, ap (past_in (s ∷ steps)) (sym (eqb-true d z same)) ∙ past_here)
      here z alive false other = let old = stamps.there z alive in (old.0, past_at z false other ∙ old.1)

  pub total_on : AreSteps setting (s ∷ steps)
      → total (λ x. width net plan x * (2 * m - level m (s ∷ steps) x)) (length net.devices) + length s.sent
      ≤ total (λ x. width net plan x * (2 * m - level m steps x)) (length net.devices)
  total_on is =
      total_less (λ x. width net plan x * (2 * m - level m (s ∷ steps) x)) (λ x. width net plan x * (2 * m - level m steps x)) (length net.devices) d
      (length s.sent) (live_parts net plan down d live).within (λ x other. ap (λ (l : ℕ). width net plan x * (2 * m - l)) (elsewhere x other)) here
    where
      elsewhere : (x : ℕ) → x ≢ d → level m (s ∷ steps) x ≡ level m steps x
      elsewhere x other =
          ap (λ (o : Option Past). map_or o 0 (λ p. code m (stamp_now p))) (past_at x false (ne_eqb d x (λ same. other (sym same))))

      level_was : level m steps d ≡ code m (stamp_now past)
      level_was = ap (λ (o : Option Past). map_or o 0 (λ p. code m (stamp_now p))) past_is

      level_now : level m (s ∷ steps) d ≡ code m (stamp_now (after past call))
      level_now = ap (λ (o : Option Past). map_or o 0 (λ p. code m (stamp_now p))) past_here

      -- what the step sends
      sent_are : s.sent ≡ flights_by setting steps (reference_of e) d (epoch_now (after past call)) (effect_of past call)
      sent_are =
          ap (λ (act : Act). flights_of setting steps (reference_of e) act (told_by steps act)) acts
          ∙ ap (λ (o : Option Past). flights_of setting steps (reference_of e) (Calls d call)
          (map_or o tells_nothing (λ x. tells_called (effect_of x call) (answers_by (after x call))))) past_is

      sent_few : (m' : Message) → effect_of past call ≡ Send m' → length s.sent ≤ width net plan d
      sent_few m' is_sent =
          let same : length s.sent ≡ length (ends_at setting steps (epoch_now (after past call)) d) =
          ap length (sent_are ∙ ap (flights_by setting steps (reference_of e) d (epoch_now (after past call))) is_sent)
          ∙ length-flights_to setting steps (reference_of e) d m' (flight_count steps + 1) (ends_at setting steps (epoch_now (after past call)) d) in
          let few = ends_few net plan dom down steps t world (epoch_now (after past call)) d in
          omega (arith, same, few)

      sent_none : effect_of past call ≡ Quiet → length s.sent ≡ 0
      sent_none quiet = ap length (sent_are ∙ ap (flights_by setting steps (reference_of e) d (epoch_now (after past call))) quiet)

      round_was : (stamp_now past).round < m
      round_was = let round = stamps.round d past past_is in omega (arith, round, less)

      higher : Sends past call → code m (stamp_now past) < code m (stamp_now (after past call))
      higher (relays link mess counter is' newer st idle idle_on) =
          subst (λ (x : Stamp). code m (stamp_now past) < code m x) (sym st) (newer_code m mess.stamp (stamp_now past) round_was newer)
      higher (emits counter is' acting st acting_on) =
          subst (λ (x : Stamp). code m (stamp_now past) < code m x) (sym st) (omega arith)
      higher (takes_over counter is' idle backup st acting_on) =
          let one : ((stamp_now past).term + 1) * m ≡ (stamp_now past).term * m + m = grind arith in
          let round = round_was in
          subst (λ (x : Stamp). code m (stamp_now past) < code m x) (sym st) (omega (arith, round, one))

      acted_most : acted plan (s ∷ steps) ≤ 1
      acted_most = most (past_in (s ∷ steps) plan.backup_root)
        where
          most : (o : Option Past) → map_or o 0 (λ x. one_if (is_acting x)) ≤ 1
          most None = omega arith
          most (Some x) = one_if_most (is_acting x)

      most : code m (stamp_now (after past call)) ≤ 2 * m
      most =
          let term = lawful.term in
          let one = acted_most in
          let round = lawful.round in
          let first_ : (stamp_now (after past call)).term * m ≤ 1 * m = mul-le (stamp_now (after past call)).term m 1 m (omega (arith, term, one))
          (omega arith) in
          omega (arith, first_, round, less)

      here : width net plan d * (2 * m - level m (s ∷ steps) d) + length s.sent ≤ width net plan d * (2 * m - level m steps d)
      here = by goes.turned
        where
          by : Turned past call → width net plan d * (2 * m - level m (s ∷ steps) d) + length s.sent ≤ width net plan d * (2 * m - level m steps d)
          by (rests quiet same acting) =
              let equal : width net plan d * (2 * m - level m (s ∷ steps) d) ≡ width net plan d * (2 * m - level m steps d) =
              ap (λ (l : ℕ). width net plan d * (2 * m - l)) (level_now ∙ ap (code m) same ∙ sym level_was) in
              let none = sent_none quiet in
              omega (arith, equal, none)
          by (sends n sent same way) =
              let up_ = higher way in
              let top = most in
              let was = level_was in
              let now = level_now in
              let few = sent_few n sent in
              let fall : (2 * m - level m (s ∷ steps) d) + 1 ≤ 2 * m - level m steps d = omega (arith, up_, top, was, now) in
              let scaled : width net plan d * ((2 * m - level m (s ∷ steps) d) + 1) ≤ width net plan d * (2 * m - level m steps d) =
              mul-le (width net plan d) ((2 * m - level m (s ∷ steps) d) + 1) (width net plan d) (2 * m - level m steps d) (omega arith) fall in
              let parts = mul-add (width net plan d) (2 * m - level m (s ∷ steps) d) 1 in
              omega (arith, scaled, parts, few)

-- The budget after a tick and after a receipt

filter_part : {A : Type 0} (p : A → Bool) (xs ys : List A) → length (filter p (xs ++ ys)) ≤ length xs + length (filter p ys)
filter_part p [] ys = omega arith
filter_part {A = A} p (x ∷ xs) ys = by (p x) (filter_part p xs ys)
  where
    by : (b : Bool) → length (filter p (xs ++ ys)) ≤ length xs + length (filter p ys)
        → length (if b then x ∷ filter p (xs ++ ys) else filter p (xs ++ ys)) ≤ suc (length xs) + length (filter p ys)
    by true rest = omega (arith, rest)
    by false rest = omega (arith, rest)

module _ (net : Network) (plan : Plan) (dom : DomainId) (down : Thing → Bool) (m k c : ℕ) (steps : List Step) (t : ℕ)
    (world : World net plan dom down (seen_of steps) t) (stamps : Stamps net plan down k c steps) (some : 1 ≤ k) (less : k < m) where
  pub tick_stamps : (r d : ℕ) → d < c → is_live net plan down d ≡ true → AreSteps (alone net plan) (next_step (alone net plan) steps (event.Tick r d r) ∷ steps)
      → Stamps net plan down k d (next_step (alone net plan) steps (event.Tick r d r) ∷ steps)
      × (budget net plan m (next_step (alone net plan) steps (event.Tick r d r) ∷ steps) ≤ budget net plan m steps)
  tick_stamps r d below_ live is =
      let past = stamps.there d live in
      let goes : Goes past.0 (Tick r) = tick_turns (duty_of net plan 1 d) past.0 (stamps.plain d past.0 past.1) r in
      let s : Step = next_step (alone net plan) steps (event.Tick r d r) in
      let total_less_ = total_on net plan dom down m k c d steps t world stamps some less (omega (arith, below_)) (event.Tick r d r) r d (Tick r) ticks refl
      live past.0 past.1 goes
      (λ counter same. (below_, omega arith)) (λ link message counter same. cc) is in
      let few = filter_part (λ (f : Flight). f.reaches && not (was_used steps f.number)) s.sent (flights steps) in (
        stamps_on net plan dom down m k c d steps t world stamps some less (omega (arith, below_)) (event.Tick r d r) r d (Tick r) ticks refl live past.0
            past.1 goes
            (λ counter same. (below_, omega arith)) (λ link message counter same. cc) is,
        omega (arith, total_less_, few),
      )

  pub receipt_stamps : (f : Flight) → Among f (flights steps) → f.reaches ≡ true → was_used steps f.number ≡ false → flight_numbered steps f.number ≡ Some f
      → is_live net plan down f.receiver ≡ true
      → AreSteps (alone net plan) (next_step (alone net plan) steps (event.Recv f.due f.receiver f.due f.number) ∷ steps)
      → Stamps net plan down k c (next_step (alone net plan) steps (event.Recv f.due f.receiver f.due f.number) ∷ steps)
      × (budget net plan m (next_step (alone net plan) steps (event.Recv f.due f.receiver f.due f.number) ∷ steps) < budget net plan m steps)
  receipt_stamps f a reaches unused found live is =
      let e : Event = event.Recv f.due f.receiver f.due f.number in
      let past = stamps.there f.receiver live in
      let call : Call = Receive f.link f.message f.due in
      let goes : Goes past.0 (Receive f.link f.message f.due) =
      receipt_turns (duty_of net plan 1 f.receiver) past.0 (stamps.plain f.receiver past.0 past.1) f.link f.message f.due in
      let s : Step = next_step (alone net plan) steps e in
      let acts : act_by (alone net plan) steps e ≡ Calls f.receiver call =
      ap (λ (o : Option Flight). map_or o Passes (λ g. Calls f.receiver (Receive g.link g.message f.due))) found in
      let total_less_ = total_on net plan dom down m k c c steps t world stamps some less (omega arith) e f.due f.receiver call (receives f.number) acts
      live past.0 past.1 goes
      (λ counter same. cc) (λ link message counter same. (f, a, received_message same)) is in
      let few = filter_part (λ (g : Flight). g.reaches && not (nat_eq f.number g.number || was_used steps g.number)) s.sent (flights steps) in
      let one_less = filter_fewer (λ (g : Flight). g.reaches && not (was_used steps g.number))
      (λ (g : Flight). g.reaches && not (nat_eq f.number g.number || was_used steps g.number)) (flights steps) f
      (λ g kept. still_unused g kept) (rw (reaches, unused) refl) (rw (reaches, eq-eqb f.number f.number refl) refl) a in (
        stamps_on net plan dom down m k c c steps t world stamps some less (omega arith) e f.due f.receiver call (receives f.number) acts live past.0 past.1
            goes
            (λ counter same. cc) (λ link message counter same. (f, a, received_message same)) is,
        omega (arith, total_less_, few, one_less),
      )
    where
      received_message : {link counter : ℕ} {message : Message} → Receive f.link f.message f.due ≡ Receive link message counter → f.message ≡ message
      received_message same = ap (λ (x : Call). elim x [ Receive link message counter ↦ message | _ ↦ f.message ]) same

      still_unused : (g : Flight) → (g.reaches && not (nat_eq f.number g.number || was_used steps g.number)) ≡ true
          → (g.reaches && not (was_used steps g.number)) ≡ true
      still_unused g kept =
          let (reaches', free) = and_parts g.reaches (not (nat_eq f.number g.number || was_used steps g.number)) kept in
          and_from g.reaches (not (was_used steps g.number)) reaches'
          (ap not (or_parts (nat_eq f.number g.number) (was_used steps g.number) (not-true (nat_eq f.number g.number || was_used steps g.number) free)).1)
