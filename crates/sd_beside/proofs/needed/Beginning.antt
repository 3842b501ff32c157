-- How such a history begins: at reference 0 some things of one domain fail, and then all other members start with true clocks.
use Rattle.std.specs.Prelude.{◌≡◌, ℕ, zero, suc, ◌+◌, ◌*◌, ◌^◌, ◌<◌, ◌≤◌, Bool, true, false, ◌&&◌, ◌||◌, not, List, [], ◌∷◌, length, count_by, nat_eq, nat_le, nat_lt, Option, Some, None, is_some, refl, if◌then◌else◌}
use Rattle.std.specs.List.{list_any, list_all}
use Rattle.std.proofs.Common.{sym, ap, ◌∙◌, subst, arith, inl, inr}
use Rattle.std.proofs.lemmas.Bool.{and_from, and_left, and_right, or_left, or_right, or_from, both_ways, le-leb, lt-leb, le-ltb, lt-ltb, eq-eqb, ne_eqb, eqb-true, cases_eq, cases_lt}
use Rattle.std.proofs.lemmas.List.{length-map}
use Rattle.sd_num.specs.Lists.{map_or}
use Rattle.sd_plan.specs.topo.Network.{Network, device_numbers}
use Rattle.sd_plan.specs.declared.topo.Thing.{Thing}
use Rattle.sd_plan.specs.declared.topo.Thing.TheVariants as thing
use Rattle.sd_plan.specs.domain.Domains.{holds, domains, within_one}
use Rattle.sd_plan.specs.declared.domain.DomainId.{DomainId}
use Rattle.sd_plan.specs.declared.Plan.{Plan}
use Rattle.sd_plan.specs.Plans.{is_member, members}
use Rattle.sd_device.specs.declared.msg.Flight.{Flight}
use Rattle.sd_sched.specs.declared.Event.{Event}
use Rattle.sd_sched.specs.declared.Event.TheVariants as event
use Rattle.sd_sched.specs.Events.{reference_of, is_end_event, is_stage}
use Rattle.sd_history.specs.World.{Setting, Seen, is_up, was_made, has_failed, has_ever_failed, is_untouched, latest_reference, latest_reading, has_commit, window, plan_numbered, alone}
use Rattle.sd_history.specs.Steps.{Step, seen_of, flights}
use Rattle.sd_history.specs.Chronicle.{next_step, chronicle, past_in, new_past, IsHistory}
use Rattle.sd_history.specs.Refusals.{causes, was_used, unknown_device, unknown_link, dead_device, dead_link, started_twice, not_member, after_end, too_many}
use Rattle.sd_history.specs.Premises.{readings, start_holds, drift_holds, delay_holds, tick_holds, domain_holds, renew_holds, ticks_in_time, latest_tick, is_current_member, first_reference, failures_since_closing, fails_within_one, reads_honestly, has_mend}
use Rattle.sd_history.specs.Premises as premise
use Rattle.sd_history.specs.Premises.{is_overdue}
use Rattle.sd_plan.specs.Duties.{duty_of}
use Rattle.sd_plan.proofs.Forest.{or_none}
use Rattle.sd_num.proofs.Shared.{equal_swap}
use Rattle.sd_device.specs.Calls.{Past, Started}
use Rattle.sd_history.proofs.Among.{Among, first, later, all_pass}
use Rattle.sd_beside.specs.needed.Alone.{fails_only}
use Rattle.sd_beside.proofs.needed.Elements.{found_some}
use Rattle.sd_beside.proofs.needed.Worlds.{is_live, window_on, closings_on}
use Rattle.sd_beside.proofs.needed.Allowed.{Live, live_parts, none_hold}
use Rattle.sd_history.proofs.Admitted.{length-chronicle}
use Rattle.sd_beside.proofs.needed.Going.{Good}

-- the past of a device that has just started with a true clock
abbrev pub fresh : Network → Plan → ℕ → Past
fresh net plan d = new_past (Started (duty_of net plan 1 d) 0 0 0)

-- such a past, where it has started
abbrev pub fresh_if : Network → Plan → ℕ → Bool → Option Past
fresh_if net plan d started = if started then Some (fresh net plan d) else None

-- the devices below a and the links below b that are to fail have failed, and the live devices below c were started
pub record Begun (net : Network) (plan : Plan) (dom : DomainId) (down : Thing → Bool) (a b c : ℕ) (history : List Event) (seen : List Seen) : Type 0 where
  pub is : IsHistory (alone net plan) history
  pub up : (d : ℕ) → is_up seen d ≡ (nat_lt d c && is_live net plan down d)
  pub made : (d : ℕ) → was_made seen d ≡ (nat_lt d c && is_live net plan down d)
  pub device : (d : ℕ) → has_failed seen (thing.Device d) ≡ (nat_lt d a && down (thing.Device d))
  pub ever : (d : ℕ) → has_ever_failed seen d ≡ (nat_lt d a && down (thing.Device d))
  pub link : (l : ℕ) → has_failed seen (thing.Link l) ≡ (nat_lt l b && down (thing.Link l))
  pub window : window seen ≡ None
  pub closings : count_by (λ s. s.closed) seen ≡ 0
  pub goes_on : list_any (λ s. is_end_event s.event) seen ≡ false
  pub stages : list_any (λ s. is_stage s.event) seen ≡ false
  pub latest : latest_reference seen ≡ 0
  pub read : (d : ℕ) → latest_reading seen d ≡ 0
  pub honest : (d : ℕ) (x : ℕ × ℕ) → Among x (readings seen d) → x.1 ≡ x.0
  pub within : list_all (holds net dom) (failures_since_closing seen) ≡ true
  pub start_held : start_holds seen ≡ true
  pub drift_held : drift_holds (alone net plan) seen ≡ true
  pub delay_held : delay_holds (alone net plan) seen ≡ true
  pub tick_held : tick_holds (alone net plan) seen ≡ true
  pub domain_held : domain_holds (alone net plan) seen ≡ true
  pub renew_held : renew_holds (alone net plan) seen ≡ true
  pub sent : flights (chronicle (alone net plan) history) ≡ []
  pub seen_sent : premise.reaching_flights seen ≡ []
  pub unused : (n : ℕ) → was_used (chronicle (alone net plan) history) n ≡ false
  pub early : (f : Flight) → is_overdue seen f ≡ false
  pub past : (d : ℕ) → past_in (chronicle (alone net plan) history) d ≡ fresh_if net plan d (nat_lt d c && is_live net plan down d)
  pub failures : fails_only down history ≡ true
  pub length_ : length history ≤ a + b + c

-- Numbers below a bound

below_suc : (a d : ℕ) → nat_lt d (suc a) ≡ (nat_eq a d || nat_lt d a)
below_suc a d =
    elim (cases_eq a d) [
      | inl same ↦ (lt-ltb d (suc a) (omega (arith, same)) ∙ sym (or_left (nat_eq a d) (nat_lt d a) (eq-eqb a d same)))
      | inr other ↦ elim (cases_lt d a) [
        | inl less ↦ (lt-ltb d (suc a) (omega (arith, less)) ∙ sym (or_right (nat_eq a d) (nat_lt d a) (lt-ltb d a less)))
        | inr more ↦ (le-ltb d (suc a) (omega (arith, other, more)) ∙ sym (rw (ne_eqb a d other, le-ltb d a more) refl))
      ]
    ]

-- one more number of which the test is true
one_more : (p : ℕ → Bool) (a d : ℕ) → p a ≡ true → (nat_lt d (suc a) && p d) ≡ (nat_eq a d || (nat_lt d a && p d))
one_more p a d is = ap (λ b. b && p d) (below_suc a d) ∙ by (nat_eq a d) refl
  where
    by : (b : Bool) → nat_eq a d ≡ b → ((b || nat_lt d a) && p d) ≡ (b || (nat_lt d a && p d))
    by true same = ap p (sym (eqb-true a d same)) ∙ is
    by false other = refl

-- one more of which it is false
one_less : (p : ℕ → Bool) (a d : ℕ) → p a ≡ false → (nat_lt d (suc a) && p d) ≡ (nat_lt d a && p d)
one_less p a d is = ap (λ b. b && p d) (below_suc a d) ∙ by (nat_eq a d) refl
  where
    by : (b : Bool) → nat_eq a d ≡ b → ((b || nat_lt d a) && p d) ≡ (nat_lt d a && p d)
    by true same =
        let none : p d ≡ false = ap p (sym (eqb-true a d same)) ∙ is in
        rw (none, and_right (nat_lt d a) false refl) refl
    by false other = refl

none_below : (p : ℕ → Bool) (d : ℕ) → false ≡ (nat_lt d 0 && p d)
none_below p d = sym (and_left (nat_lt d 0) (p d) (le-ltb d 0 (omega arith)))

-- what a latest answer is, where the event tells one in case of a test
told_true : (b old : Bool) → map_or (if b then Some true else None) old (λ told. told) ≡ (b || old)
told_true true old = refl
told_true false old = refl

told_started : (b old : Bool) → map_or (if b || false then Some true else None) old (λ told. told) ≡ (b || old)
told_started true old = refl
told_started false old = refl

told_false : (b : Bool) → map_or (if b then Some false else None) false (λ told. told) ≡ false
told_false true = refl
told_false false = refl

-- a reading at reference and counter 0
read_zero : (b : Bool) (old : ℕ) → old ≡ 0 → map_or (if b then Some 0 else None) old (λ told. told) ≡ 0
read_zero true old is = refl
read_zero false old is = is

-- what is read at a start
read_first : (b m : Bool) (old : List (ℕ × ℕ)) (x : ℕ × ℕ) → ((y : ℕ × ℕ) → Among y old → y.1 ≡ y.0)
    → Among x (if b then (if m then (0, 0) ∷ [] else (0, 0) ∷ old) else old) → x.1 ≡ x.0
read_first true true old x each first = refl
read_first true true old x each (later a) = elim a [ ]
read_first true false old x each first = refl
read_first true false old x each (later a) = each x a
read_first false m old x each a = each x a

-- an event that reads nothing
read_none : (b : Bool) (old : List (ℕ × ℕ)) (x : ℕ × ℕ) → ((y : ℕ × ℕ) → Among y old → y.1 ≡ y.0) → Among x (if b then old else old) → x.1 ≡ x.0
read_none true old x each a = each x a
read_none false old x each a = each x a

unread : (b : Bool) (old : ℕ) → old ≡ 0 → map_or (if b then None else None) old (λ told. told) ≡ 0
unread true old is = is
unread false old is = is

-- the same with the test of equality the other way round
one_more_back : (p : ℕ → Bool) (a d : ℕ) → p a ≡ true → (nat_eq d a || (nat_lt d a && p d)) ≡ (nat_lt d (suc a) && p d)
one_more_back p a d is = ap (λ b. b || (nat_lt d a && p d)) (equal_swap d a) ∙ sym (one_more p a d is)

module _ (net : Network) (plan : Plan) (dom : DomainId) (down : Thing → Bool) (among : Among dom (domains net)) where
  abbrev setting : Setting
  setting = alone net plan

  abbrev steps : List Event → List Step
  steps history = chronicle setting history

  nothing_yet : Begun net plan dom down 0 0 0 [] []
  nothing_yet =
      record {
        is = tt;
        up = none_below (is_live net plan down);
        made = none_below (is_live net plan down);
        device = none_below (λ d. down (thing.Device d));
        ever = none_below (λ d. down (thing.Device d));
        link = none_below (λ l. down (thing.Link l));
        window = refl;
        closings = refl;
        goes_on = refl;
        stages = refl;
        latest = refl;
        read = λ d. refl;
        honest = λ d x a. elim a [ ];
        within = refl;
        start_held = refl;
        drift_held = refl;
        delay_held = refl;
        tick_held = refl;
        domain_held = refl;
        renew_held = refl;
        sent = refl;
        seen_sent = refl;
        unused = λ n. refl;
        early = λ f. refl;
        past = λ d. ap (fresh_if net plan d) (none_below (is_live net plan down) d);
        failures = refl;
        length_ = omega arith;
      }

  -- at reference 0 all is in time
  in_time : (s : Seen) (seen : List Seen) → reference_of s.event ≡ 0 → ticks_in_time setting s seen ≡ true
  in_time s seen is =
      and_from
      (list_all (λ d. not (is_up seen d && is_current_member setting seen d) || nat_le (reference_of s.event) (latest_tick seen d + net.params.tick))
      (device_numbers net))
      (list_all (λ d. not (is_untouched seen d) || nat_le (reference_of s.event) (first_reference seen s + net.params.tick))
      (members net (plan_numbered setting 1)))
      (all_pass (λ d. not (is_up seen d && is_current_member setting seen d) || nat_le (reference_of s.event) (latest_tick seen d + net.params.tick))
      (device_numbers net)
      (λ d a. or_right (not (is_up seen d && is_current_member setting seen d)) (nat_le (reference_of s.event) (latest_tick seen d + net.params.tick))
      (le-leb (reference_of s.event) (latest_tick seen d + net.params.tick) (omega (arith, is)))))
      (all_pass (λ d. not (is_untouched seen d) || nat_le (reference_of s.event) (first_reference seen s + net.params.tick))
      (members net (plan_numbered setting 1))
      (λ d a. or_right (not (is_untouched seen d)) (nat_le (reference_of s.event) (first_reference seen s + net.params.tick))
      (le-leb (reference_of s.event) (first_reference seen s + net.params.tick) (omega (arith, is)))))

  few : (history : List Event) → length history < 2 ^ 26 → too_many (seen_of (steps history)) ≡ false
  few history room =
      let same = length-chronicle setting history in
      let long = length-map (steps history) (λ s. s.seen) in
      lt-leb (2 ^ 26) (length (seen_of (steps history))) (omega (arith, room, same, long))

  -- one more thing of the domain
  within_more : (x : Thing) (seen : List Seen) → holds net dom x ≡ true → list_all (holds net dom) (failures_since_closing seen) ≡ true
      → is_some (within_one net (x ∷ failures_since_closing seen)) ≡ true
  within_more x seen held before =
      found_some (λ g. list_all (holds net g) (x ∷ failures_since_closing seen)) (domains net) dom
      (and_from (holds net dom x) (list_all (holds net dom) (failures_since_closing seen)) held before) among

  -- a device that starts in the first plan has its duty there
  past_started : (k : ℕ) → k ≡ 0 → (c d : ℕ) (old : Option Past)
      → (if nat_eq c d then Some (new_past (Started (duty_of net (plan_numbered setting (k + 1)) (k + 1) c) 0 0 0)) else old)
      ≡ (if nat_eq c d then Some (fresh net plan c) else old)
  past_started k none c d old =
      ap (λ (j : ℕ). if nat_eq c d then Some (new_past (Started (duty_of net (plan_numbered setting (j + 1)) (j + 1) c) 0 0 0)) else old) none

  started_if : (c d : ℕ) (old : Option Past) (b : Bool) → old ≡ fresh_if net plan d b
      → (if nat_eq c d then Some (fresh net plan c) else old) ≡ fresh_if net plan d (nat_eq c d || b)
  started_if c d old b was = by (nat_eq c d) refl
    where
      by : (same : Bool) → nat_eq c d ≡ same → (if same then Some (fresh net plan c) else old) ≡ fresh_if net plan d (same || b)
      by true same = ap (λ (x : ℕ). Some (fresh net plan x)) (eqb-true c d same)
      by false other = was

  fail_device : (a : ℕ) (history : List Event) → a < length net.devices → down (thing.Device a) ≡ true → holds net dom (thing.Device a) ≡ true
      → length history < 2 ^ 26
      → Begun net plan dom down a 0 0 history (seen_of (steps history))
      → Begun net plan dom down (suc a) 0 0 (event.FailDevice 0 a ∷ history) (seen_of (steps (event.FailDevice 0 a ∷ history)))
  fail_device a history within failing held room b =
      let e : Event = event.FailDevice 0 a in
      let seen : List Seen = seen_of (steps history) in
      let s : Seen = (next_step setting (steps history) e).seen in
      let open_ : s.closed ≡ false = rw b.window refl in
      let known : unknown_device setting e ≡ false = lt-leb (length net.devices) a within in
      let sound : dead_device seen e ≡ false = b.device a ∙ and_left (nat_lt a a) (down (thing.Device a)) (le-ltb a a (omega arith)) in
      let goes_on : after_end seen ≡ false = b.goes_on in
      record {
        is = (
          b.is,
          none_hold (causes setting (steps history) e) (
            known,
            (
              refl,
              (
                sound,
                (
                  refl,
                  (refl, (refl, (refl, (rw b.latest refl, (refl, (refl, (refl, (refl, (refl, (goes_on, (refl, (refl, (few history room, tt))))))))))))),
                ),
              ),
            ),
          ),
        );
        up = λ d. ap (λ old. map_or (if nat_eq d a then Some false else None) old (λ told. told)) (b.up d ∙ sym (none_below (is_live net plan down) d))
            ∙ told_false (nat_eq d a) ∙ none_below (is_live net plan down) d;
        made = b.made;
        device = λ d. told_true (nat_eq d a) (has_failed seen (thing.Device d)) ∙ ap (λ old. nat_eq d a || old) (b.device d)
            ∙ one_more_back (λ x. down (thing.Device x)) a d failing;
        ever = λ d. ap (λ old. nat_eq d a || old) (b.ever d) ∙ one_more_back (λ x. down (thing.Device x)) a d failing;
        link = b.link;
        window = window_on s seen open_ refl b.window;
        closings = closings_on s seen open_ b.closings;
        goes_on = b.goes_on;
        stages = b.stages;
        latest = refl;
        read = λ d. unread (nat_eq a d) (latest_reading seen d) (b.read d);
        honest = λ d x r. read_none (nat_eq a d) (readings seen d) x (b.honest d) r;
        within = rw open_ (and_from (holds net dom (thing.Device a)) (list_all (holds net dom) (failures_since_closing seen)) held b.within);
        start_held = b.start_held;
        drift_held = and_from (drift_holds setting seen) true b.drift_held refl;
        delay_held = b.delay_held;
        tick_held = and_from (tick_holds setting seen) (ticks_in_time setting s seen) b.tick_held (in_time s seen refl);
        domain_held = and_from (domain_holds setting seen) (fails_within_one setting s seen) b.domain_held (within_more (thing.Device a) seen held b.within);
        renew_held = and_from (renew_holds setting seen) (not (has_mend seen || has_commit seen) && true) b.renew_held (rw b.window refl);
        sent = b.sent;
        seen_sent = b.seen_sent;
        unused = b.unused;
        early = λ f. or_from (nat_lt f.due 0) (is_overdue seen f) (le-ltb f.due 0 (omega arith)) (b.early f);
        past = b.past;
        failures = and_from (down (thing.Device a)) (fails_only down history) failing b.failures;
        length_ = (let before = b.length_ in omega (arith, before));
      }

  fail_link : (a l : ℕ) (history : List Event) → l < length net.links → down (thing.Link l) ≡ true → holds net dom (thing.Link l) ≡ true
      → length history < 2 ^ 26
      → Begun net plan dom down a l 0 history (seen_of (steps history))
      → Begun net plan dom down a (suc l) 0 (event.FailLink 0 l ∷ history) (seen_of (steps (event.FailLink 0 l ∷ history)))
  fail_link a l history within failing held room b =
      let e : Event = event.FailLink 0 l in
      let seen : List Seen = seen_of (steps history) in
      let s : Seen = (next_step setting (steps history) e).seen in
      let open_ : s.closed ≡ false = rw b.window refl in
      let known : unknown_link setting e ≡ false = lt-leb (length net.links) l within in
      let sound : dead_link seen e ≡ false = b.link l ∙ and_left (nat_lt l l) (down (thing.Link l)) (le-ltb l l (omega arith)) in
      let goes_on : after_end seen ≡ false = b.goes_on in
      record {
        is = (
          b.is,
          none_hold (causes setting (steps history) e) (
            refl,
            (
              known,
              (
                refl,
                (
                  sound,
                  (refl, (refl, (refl, (rw b.latest refl, (refl, (refl, (refl, (refl, (refl, (goes_on, (refl, (refl, (few history room, tt))))))))))))),
                ),
              ),
            ),
          ),
        );
        up = b.up;
        made = b.made;
        device = b.device;
        ever = b.ever;
        link = λ x. told_true (nat_eq x l) (has_failed seen (thing.Link x)) ∙ ap (λ old. nat_eq x l || old) (b.link x)
            ∙ one_more_back (λ y. down (thing.Link y)) l x failing;
        window = window_on s seen open_ refl b.window;
        closings = closings_on s seen open_ b.closings;
        goes_on = b.goes_on;
        stages = b.stages;
        latest = refl;
        read = b.read;
        honest = b.honest;
        within = rw open_ (and_from (holds net dom (thing.Link l)) (list_all (holds net dom) (failures_since_closing seen)) held b.within);
        start_held = b.start_held;
        drift_held = and_from (drift_holds setting seen) true b.drift_held refl;
        delay_held = b.delay_held;
        tick_held = and_from (tick_holds setting seen) (ticks_in_time setting s seen) b.tick_held (in_time s seen refl);
        domain_held = and_from (domain_holds setting seen) (fails_within_one setting s seen) b.domain_held (within_more (thing.Link l) seen held b.within);
        renew_held = and_from (renew_holds setting seen) (not (has_mend seen || has_commit seen) && true) b.renew_held (rw b.window refl);
        sent = b.sent;
        seen_sent = b.seen_sent;
        unused = b.unused;
        early = λ f. or_from (nat_lt f.due 0) (is_overdue seen f) (le-ltb f.due 0 (omega arith)) (b.early f);
        past = b.past;
        failures = and_from (down (thing.Link l)) (fails_only down history) failing b.failures;
        length_ = (let before = b.length_ in omega (arith, before));
      }

  start : (a l c : ℕ) (history : List Event) → is_live net plan down c ≡ true → length history < 2 ^ 26
      → Begun net plan dom down a l c history (seen_of (steps history))
      → Begun net plan dom down a l (suc c) (event.Start 0 c 0 0 0 ∷ history) (seen_of (steps (event.Start 0 c 0 0 0 ∷ history)))
  start a l c history live room b =
      let e : Event = event.Start 0 c 0 0 0 in
      let seen : List Seen = seen_of (steps history) in
      let s : Seen = (next_step setting (steps history) e).seen in
      let open_ : s.closed ≡ false = rw b.window refl in
      let parts : Live net plan down c = live_parts net plan down c live in
      let known : unknown_device setting e ≡ false = lt-leb (length net.devices) c parts.within in
      let sound : dead_device seen e ≡ false = b.device c ∙ and_right (nat_lt c a) (down (thing.Device c)) parts.spared in
      let once : started_twice setting seen e ≡ false =
      ap (λ x. x || false) (b.made c ∙ and_left (nat_lt c c) (is_live net plan down c) (le-ltb c c (omega arith))) in
      let member : not_member setting seen e ≡ false = rw (b.closings, parts.member) refl in
      let goes_on : after_end seen ≡ false = b.goes_on in
      record {
        is = (
          b.is,
          none_hold (causes setting (steps history) e) (
            known,
            (
              refl,
              (
                sound,
                (
                  refl,
                  (refl, (refl, (refl, (rw b.latest refl, (refl, (refl, (once, (refl, (refl, (goes_on, (refl, (member, (few history room, tt))))))))))))),
                ),
              ),
            ),
          ),
        );
        up = λ d. told_started (nat_eq c d) (is_up seen d) ∙ ap (λ old. nat_eq c d || old) (b.up d) ∙ sym (one_more (is_live net plan down) c d live);
        made = λ d. ap (λ x. x || was_made seen d) (or_none (nat_eq c d)) ∙ ap (λ old. nat_eq c d || old) (b.made d)
            ∙ sym (one_more (is_live net plan down) c d live);
        device = b.device;
        ever = b.ever;
        link = b.link;
        window = window_on s seen open_ refl b.window;
        closings = closings_on s seen open_ b.closings;
        goes_on = b.goes_on;
        stages = b.stages;
        latest = refl;
        read = λ d. read_zero (nat_eq c d) (latest_reading seen d) (b.read d);
        honest = λ d x r. read_first (nat_eq c d) (nat_eq c d || false) (readings seen d) x (b.honest d) r;
        within = rw open_ b.within;
        start_held = b.start_held;
        drift_held = and_from (drift_holds setting seen) (reads_honestly setting s seen) b.drift_held (rw (eq-eqb c c refl) refl);
        delay_held = b.delay_held;
        tick_held = and_from (tick_holds setting seen) (ticks_in_time setting s seen) b.tick_held (in_time s seen refl);
        domain_held = and_from (domain_holds setting seen) (fails_within_one setting s seen) b.domain_held
            (found_some (λ g. list_all (holds net g) (failures_since_closing seen)) (domains net) dom b.within among);
        renew_held = and_from (renew_holds setting seen) (not (list_any (λ x. is_stage x.event) seen) && true) b.renew_held (rw b.stages refl);
        sent = b.sent;
        seen_sent = b.seen_sent;
        unused = b.unused;
        early = λ f. or_from (nat_lt f.due 0) (is_overdue seen f) (le-ltb f.due 0 (omega arith)) (b.early f);
        past = λ d. past_started (count_by (λ x. x.closed) seen) b.closings c d (past_in (steps history) d)
            ∙ started_if c d (past_in (steps history) d) (nat_lt d c && is_live net plan down d) (b.past d)
            ∙ ap (fresh_if net plan d) (sym (one_more (is_live net plan down) c d live));
        failures = b.failures;
        length_ = (let before = b.length_ in omega (arith, before));
      }

  -- such a beginning, as far as it has come
  record Start (a l c : ℕ) : Type 0 where
    pub history : List Event
    pub begun : Begun net plan dom down a l c history (seen_of (steps history))

  -- the same history, where the counts say the same of it
  same_history : (a l c a' l' c' : ℕ) (history : List Event) → a + l + c ≤ a' + l' + c'
      → ((d : ℕ) → (nat_lt d a && down (thing.Device d)) ≡ (nat_lt d a' && down (thing.Device d)))
      → ((x : ℕ) → (nat_lt x l && down (thing.Link x)) ≡ (nat_lt x l' && down (thing.Link x)))
      → ((d : ℕ) → (nat_lt d c && is_live net plan down d) ≡ (nat_lt d c' && is_live net plan down d))
      → Begun net plan dom down a l c history (seen_of (steps history)) → Begun net plan dom down a' l' c' history (seen_of (steps history))
  same_history a l c a' l' c' history more devices links starts b =
      record {
        up = λ d. b.up d ∙ starts d;
        made = λ d. b.made d ∙ starts d;
        device = λ d. b.device d ∙ devices d;
        ever = λ d. b.ever d ∙ devices d;
        link = λ x. b.link x ∙ links x;
        past = λ d. b.past d ∙ ap (fresh_if net plan d) (starts d);
        length_ = (let before = b.length_ in omega (arith, before, more));
        is = b.is;
        window = b.window;
        closings = b.closings;
        goes_on = b.goes_on;
        stages = b.stages;
        latest = b.latest;
        read = b.read;
        honest = b.honest;
        within = b.within;
        start_held = b.start_held;
        drift_held = b.drift_held;
        delay_held = b.delay_held;
        tick_held = b.tick_held;
        domain_held = b.domain_held;
        renew_held = b.renew_held;
        sent = b.sent;
        seen_sent = b.seen_sent;
        unused = b.unused;
        early = b.early;
        failures = b.failures;
      }

  module _ (known_device : (d : ℕ) → down (thing.Device d) ≡ true → d < length net.devices)
      (known_link : (l : ℕ) → down (thing.Link l) ≡ true → l < length net.links)
      (held : (x : Thing) → down x ≡ true → holds net dom x ≡ true) where
    -- all devices below a that are to fail
    devices_fail : (a : ℕ) → a < 2 ^ 26 → Start a 0 0
    devices_fail zero room = record { history = []; begun = nothing_yet }
    devices_fail (suc a) room = by (devices_fail a (omega (arith, room))) (down (thing.Device a)) refl
      where
        by : Start a 0 0 → (b : Bool) → down (thing.Device a) ≡ b → Start (suc a) 0 0
        by before true is =
            record {
              history = event.FailDevice 0 a ∷ before.history;
              begun = (let long = before.begun.length_ in
                  fail_device a before.history (known_device a is) is (held (thing.Device a) is) (omega (arith, long, room)) before.begun);
            }
        by before false is =
            record {
              history = before.history;
              begun = same_history a 0 0 (suc a) 0 0 before.history (omega arith)
                  (λ d. sym (one_less (λ x. down (thing.Device x)) a d is)) (λ x. refl) (λ d. refl) before.begun;
            }

    -- and then all links below l that are
    links_fail : (a l : ℕ) → a + l < 2 ^ 26 → Start a l 0
    links_fail a zero room = devices_fail a (omega (arith, room))
    links_fail a (suc l) room = by (links_fail a l (omega (arith, room))) (down (thing.Link l)) refl
      where
        by : Start a l 0 → (b : Bool) → down (thing.Link l) ≡ b → Start a (suc l) 0
        by before true is =
            record {
              history = event.FailLink 0 l ∷ before.history;
              begun = (let long = before.begun.length_ in
                  fail_link a l before.history (known_link l is) is (held (thing.Link l) is) (omega (arith, long, room)) before.begun);
            }
        by before false is =
            record {
              history = before.history;
              begun = same_history a l 0 a (suc l) 0 before.history (omega arith)
                  (λ d. refl) (λ x. sym (one_less (λ y. down (thing.Link y)) l x is)) (λ d. refl) before.begun;
            }

    -- and then all live devices below c start
    devices_start : (a l c : ℕ) → a + l + c < 2 ^ 26 → Start a l c
    devices_start a l zero room = links_fail a l (omega (arith, room))
    devices_start a l (suc c) room = by (devices_start a l c (omega (arith, room))) (is_live net plan down c) refl
      where
        by : Start a l c → (b : Bool) → is_live net plan down c ≡ b → Start a l (suc c)
        by before true is =
            record {
              history = event.Start 0 c 0 0 0 ∷ before.history;
              begun = (let long = before.begun.length_ in start a l c before.history is (omega (arith, long, room)) before.begun);
            }
        by before false is =
            record {
              history = before.history;
              begun = same_history a l c a l (suc c) before.history (omega arith)
                  (λ d. refl) (λ x. refl) (λ d. sym (one_less (is_live net plan down) c d is)) before.begun;
            }

    none_sent : (history : List Event) (f : Flight) → flights (steps history) ≡ [] → Among f (flights (steps history)) → ⊥
    none_sent history f none a = gone (subst (λ (fs : List Flight). Among f fs) none a)
      where
        gone : Among f [] → ⊥
        gone b = elim b [ ]

    none_seen : (seen : List Seen) (f : Flight) → premise.reaching_flights seen ≡ [] → Among f (premise.reaching_flights seen) → ⊥
    none_seen seen f none a = gone (subst (λ (fs : List Flight). Among f fs) none a)
      where
        gone : Among f [] → ⊥
        gone b = elim b [ ]

    live_below : (d : ℕ) → (nat_lt d (length net.devices) && is_live net plan down d) ≡ is_live net plan down d
    live_below d = by (nat_lt d (length net.devices))
      where
        by : (c : Bool) → (c && (c && is_member plan d && not (down (thing.Device d)))) ≡ (c && is_member plan d && not (down (thing.Device d)))
        by true = refl
        by false = refl

    -- what has begun so is good
    good_of : (history : List Event) → Begun net plan dom down (length net.devices) (length net.links) (length net.devices) history (seen_of (steps history))
        → Good net plan dom down history 0
    good_of history b =
        let n : ℕ = length net.devices in
        let seen : List Seen = seen_of (steps history) in
        record {
          is = b.is;
          world =
              record {
                up = λ d. b.up d ∙ live_below d;
                sound = λ d live. b.device d ∙ and_right (nat_lt d n) (down (thing.Device d)) (live_parts net plan down d live).spared;
                made = λ d live. b.made d ∙ live_below d ∙ live;
                fallen = λ d is. b.device d ∙ and_from (nat_lt d n) (down (thing.Device d)) (lt-ltb d n (known_device d is)) is;
                failed = λ l is. b.link l ∙ and_from (nat_lt l (length net.links)) (down (thing.Link l)) (lt-ltb l (length net.links) (known_link l is)) is;
                window = b.window;
                closings = b.closings;
                goes_on = b.goes_on;
                latest = b.latest;
                read = λ d. (let is = b.read d in omega (arith, is));
                touched = λ d within member. touched d within member (down (thing.Device d)) refl;
                honest = b.honest;
                within = b.within;
                start_held = b.start_held;
                drift_held = b.drift_held;
                delay_held = b.delay_held;
                tick_held = b.tick_held;
                domain_held = b.domain_held;
                renew_held = b.renew_held;
              };
          air =
              record {
                law = λ f a. absurd (none_sent history f b.sent a);
                seen = λ f a. absurd (none_seen seen f b.seen_sent a);
                unspoiled = λ f a. absurd (none_seen seen f b.seen_sent a);
                overdue = λ f late. absurd (both_ways (is_overdue seen f) (b.early f) late);
                used = λ n' is. absurd (both_ways (was_used (steps history) n') (b.unused n') is);
              };
          failures = b.failures;
        }
      where
        touched : (d : ℕ) → d < length net.devices → is_member plan d ≡ true → (c : Bool) → down (thing.Device d) ≡ c
            → is_untouched (seen_of (steps history)) d ≡ false
        touched d within member true is =
            and_right (not (was_made (seen_of (steps history)) d)) (not (has_ever_failed (seen_of (steps history)) d))
            (ap not (b.ever d ∙ and_from (nat_lt d (length net.devices)) (down (thing.Device d)) (lt-ltb d (length net.devices) within) is))
        touched d within member false is =
            let live : is_live net plan down d ≡ true = rw (lt-ltb d (length net.devices) within, member, is) refl in
            and_left (not (was_made (seen_of (steps history)) d)) (not (has_ever_failed (seen_of (steps history)) d))
            (ap not (b.made d ∙ live_below d ∙ live))

    -- a good history in which all that is to fail has failed and all else has started
    pub record Opened : Type 0 where
      pub history : List Event
      pub good : Good net plan dom down history 0
      pub pasts : (d : ℕ) → past_in (steps history) d ≡ fresh_if net plan d (is_live net plan down d)
      pub sent : flights (steps history) ≡ []
      pub length_ : length history ≤ 2 * length net.devices + length net.links

    pub opened : 2 * length net.devices + length net.links < 2 ^ 26 → Opened
    opened room =
        let n : ℕ = length net.devices in
        let l : ℕ = length net.links in
        let it : Start n l n = devices_start n l n (omega (arith, room)) in
        let b = it.begun in
        record {
          history = it.history;
          good = good_of it.history b;
          pasts = λ d. b.past d ∙ ap (fresh_if net plan d) (live_below d);
          sent = b.sent;
          length_ = (let long = b.length_ in omega (arith, long));
        }
