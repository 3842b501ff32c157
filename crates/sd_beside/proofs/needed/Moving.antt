-- At the end of the wait some devices of the zone tick and move, and the others have not ticked yet.
use Rattle.std.specs.Prelude.{◌≡◌, ℕ, zero, suc, ◌+◌, ◌*◌, ◌^◌, ◌<◌, ◌≤◌, Bool, true, false, List, ◌∷◌, ◌⊎◌, length, nat_eq, nat_le, Option, Some, None, is_some, option_map, refl, if◌then◌else◌}
use Rattle.std.proofs.Common.{sym, ap, ◌∙◌, subst, arith, inl, inr}
use Rattle.std.proofs.lemmas.Bool.{cases_eq, eq-eqb, ne_eqb, le-leb, lt-leb, both_ways}
use Rattle.sd_num.specs.Lists.{map_or}
use Rattle.sd_plan.specs.topo.Network.{Network}
use Rattle.sd_plan.specs.topo.Limits.{IsNetwork}
use Rattle.sd_plan.specs.declared.topo.Thing.{Thing}
use Rattle.sd_plan.specs.declared.topo.Thing.TheVariants as thing
use Rattle.sd_plan.specs.domain.Domains.{domains, holds}
use Rattle.sd_plan.specs.declared.domain.DomainId.{DomainId}
use Rattle.sd_plan.specs.declared.Hop.{Hop}
use Rattle.sd_plan.specs.declared.Plan.{Plan}
use Rattle.sd_plan.specs.declared.Role.{Role}
use Rattle.sd_plan.specs.declared.Role.TheVariants.{Root, BackupRoot, Ordinary}
use Rattle.sd_plan.specs.Plans.{primary_of, backup_of}
use Rattle.sd_plan.specs.Duties.{duty_of, edge_of, role_of}
use Rattle.sd_device.specs.declared.msg.Flight.{Flight}
use Rattle.sd_device.specs.declared.Effect.TheVariants.{Quiet}
use Rattle.sd_device.specs.Calls.{Started, Past, Tick, Moved}
use Rattle.sd_device.specs.Words.{starts_as_root, parent_now, after, effect_of, transition_of}
use Rattle.sd_sched.specs.declared.Event.{Event}
use Rattle.sd_sched.specs.declared.Event.TheVariants as event
use Rattle.sd_history.specs.World.{Setting, is_up, is_counted, alone}
use Rattle.sd_history.specs.Steps.{Step, seen_of, flights, answers_in, parent_in, tells_nothing, tells_called}
use Rattle.sd_history.specs.Chronicle.{next_step, chronicle, past_in, answers_by}
use Rattle.sd_history.specs.Accepted.{AreSteps}
use Rattle.sd_history.specs.Lines.{counted_parent}
use Rattle.sd_history.specs.Premises.{latest_tick}
use Rattle.sd_history.proofs.Among.{Among, either_side}
use Rattle.sd_history.proofs.Accepting.{history_is_accepted}
use Rattle.sd_history.proofs.Bridges.{answers_by_words}
use Rattle.sd_beside.specs.needed.Loops.{ticks_of_wait, event_bound}
use Rattle.sd_beside.proofs.needed.Worlds.{is_live, ticks, tick_later}
use Rattle.sd_beside.proofs.needed.Allowed.{live_parts}
use Rattle.sd_beside.proofs.needed.Air.{NoneDue, IsNew, is_new}
use Rattle.sd_beside.proofs.needed.Going.{Good, tick_goes}
use Rattle.sd_beside.proofs.needed.Still.{Still, ordinary_starts, tick_moves, HasJustMoved, just_moved, follows_primary, not_sent}
use Rattle.sd_beside.proofs.needed.Hush.{IsZone, IsStill, Idles, still_idles, is_over, role_is}
use Rattle.sd_beside.proofs.needed.Ready.{multiples, ready}

module _ (net : Network) (plan : Plan) (dom : DomainId) (down : Thing → Bool) (zone : ℕ → Bool) (mute : ℕ → ℕ → Type 0) (law : IsNetwork net)
    (among : Among dom (domains net))
    (known_device : (d : ℕ) → down (thing.Device d) ≡ true → d < length net.devices)
    (known_link : (l : ℕ) → down (thing.Link l) ≡ true → l < length net.links)
    (held : (x : Thing) → down x ≡ true → holds net dom x ≡ true)
    (is_zone : IsZone net plan down zone mute) (bound : event_bound net plan ≤ 2 ^ 26) (mover : ℕ → Bool)
    (moves_zone : (z : ℕ) → mover z ≡ true → zone z ≡ true) (moves_back : (z : ℕ) → mover z ≡ true → (hop : Hop) × (backup_of plan z ≡ Some hop)) where
  abbrev setting : Setting
  setting = alone net plan

  abbrev steps : List Event → List Step
  steps history = chronicle setting history

  abbrev end_ : ℕ
  end_ = ticks_of_wait net plan * net.params.tick

  -- the device follows this parent, by its past
  pub record Follows (history : List Event) (z : ℕ) (hop : Option Hop) : Type 0 where
    pub past : Past
    pub is : past_in (steps history) z ≡ Some past
    pub parent : parent_now past ≡ option_map (λ h. h.parent) hop

  -- the device did nothing, and then moved at the end of the wait
  pub record HasTurned (history : List Event) (z : ℕ) : Type 0 where
    pub before : Past
    pub still : Still (duty_of net plan 1 z) before
    pub moves : transition_of before (Tick end_) ≡ Moved
    pub is : past_in (steps history) z ≡ Some (after before (Tick end_))

  -- the movers below c have moved, and all else of the zone is still
  pub record Moving (c : ℕ) : Type 0 where
    pub history : List Event
    pub reference : ℕ
    pub good : Good net plan dom down history reference
    pub before : reference ≤ end_
    pub ticked : (d : ℕ) → is_live net plan down d ≡ true → end_ ≤ latest_tick (seen_of (steps history)) d + net.params.tick
    pub none : NoneDue (steps history) end_
    pub silent : (f : Flight) → Among f (flights (steps history)) → f.reaches ≡ true → mute f.receiver f.link → ⊥
    pub moved : (z : ℕ) → mover z ≡ true → z < c → HasTurned history z
    pub unmoved : (z : ℕ) → zone z ≡ true → (mover z ≡ false) ⊎ (c ≤ z) → IsStill net plan (steps history) z
    pub room : length history + length net.devices ≤ 2 ^ 26 + c

  -- before the end no wait of the zone is over
  still_early : (i d : ℕ) → i < ticks_of_wait net plan → zone d ≡ true → is_over net plan d (i * net.params.tick) ≡ false
  still_early i d less in_ =
      early (is_some (duty_of net plan 1 d).backup) (role_of plan d) (role_is net plan d (is_zone.ordinary d in_))
    where
      early : (b : Bool) (role : Role) → role ≡ Ordinary
          → map_or (elim role [ Root ↦ None | BackupRoot ↦ Some plan.wait_first | Ordinary ↦ if b then Some plan.wait else None ]) false
          (λ wait. nat_le wait (i * net.params.tick)) ≡ false
      early true role is =
          rw is (lt-leb plan.wait (i * net.params.tick) ((multiples plan.wait net.params.tick law.tick.0).early i less))
      early false role is = rw is refl

  none_moved : Moving 0
  none_moved =
      let idles : Idles net.params.tick (ticks_of_wait net plan) zone mute (λ i z. Still (duty_of net plan 1 z)) =
      still_idles net plan down zone mute net.params.tick (ticks_of_wait net plan) is_zone still_early in
      let r = ready net plan dom down zone mute law among known_device known_link held is_zone.shut (ticks_of_wait net plan)
      (λ i z. Still (duty_of net plan 1 z)) idles (λ z in_. record { made = refl; did = refl }) bound in
      record {
        history = r.history;
        reference = r.reference;
        good = r.good;
        before = r.before;
        ticked = r.ticked;
        none = r.none;
        silent = r.hush.silent;
        moved = λ z is below_. absurd (omega (arith, below_));
        unmoved = λ z in_ either. r.hush.still z in_;
        room = (let roomy = r.room in omega (arith, roomy));
      }

  -- none of the zone starts as root
  starts : (z : ℕ) → zone z ≡ true → starts_as_root (Started (duty_of net plan 1 z) 0 0 0) ≡ false
  starts z in_ = ordinary_starts (duty_of net plan 1 z) (role_is net plan z (is_zone.ordinary z in_))

  -- the wait of a mover is over
  over : (z : ℕ) → mover z ≡ true → is_over net plan z end_ ≡ true
  over z is =
      let (hop, back) = moves_back z is in
      let there : is_some (duty_of net plan 1 z).backup ≡ true = ap (λ (o : Option Hop). is_some (option_map (edge_of net z) o)) back in
      late (is_some (duty_of net plan 1 z).backup) there (role_of plan z) (role_is net plan z (is_zone.ordinary z (moves_zone z is)))
    where
      late : (b : Bool) → b ≡ true → (role : Role) → role ≡ Ordinary
          → map_or (elim role [ Root ↦ None | BackupRoot ↦ Some plan.wait_first | Ordinary ↦ if b then Some plan.wait else None ]) false
          (λ wait. nat_le wait end_) ≡ true
      late b is_b role is_role = rw (is_role, is_b) (le-leb plan.wait end_ (multiples plan.wait net.params.tick law.tick.0).over)

  -- the edge of a hop leads to its parent
  edge_parent : (z : ℕ) (o : Option Hop) → option_map (λ e. e.parent) (option_map (edge_of net z) o) ≡ option_map (λ h. h.parent) o
  edge_parent z None = refl
  edge_parent z (Some hop) = refl

  -- one more mover moves
  move : (c : ℕ) → c < length net.devices → mover c ≡ true → Moving c → Moving (suc c)
  move c within is now =
      let still : IsStill net plan (steps now.history) c = now.unmoved c (moves_zone c is) (inr (omega arith)) in
      let ordinary = starts c (moves_zone c is) in
      let moves : transition_of still.past (Tick end_) ≡ Moved =
      tick_moves (duty_of net plan 1 c) still.past still.still ordinary end_ (over c is) in
      let just : HasJustMoved (duty_of net plan 1 c) still.past (Tick end_) = just_moved (duty_of net plan 1 c) still.past end_ still.still ordinary moves in
      let live : is_live net plan down c ≡ true = is_zone.shut.live c (moves_zone c is) in
      let roomy = now.room in
      let good : Good net plan dom down (event.Tick end_ c end_ ∷ now.history) end_ =
      tick_goes net plan dom down law among now.history now.reference now.good (omega (arith, roomy, within)) end_ c live now.before now.ticked now.none in
      let are : AreSteps setting (steps (event.Tick end_ c end_ ∷ now.history)) = history_is_accepted setting (event.Tick end_ c end_ ∷ now.history) good.is in
      let quiet : (next_step setting (steps now.history) (event.Tick end_ c end_)).told.effect ≡ Quiet =
      ap (λ (o : Option Past). (map_or o tells_nothing (λ x. tells_called (effect_of x (Tick end_)) (answers_by (after x (Tick end_))))).effect) still.is
      ∙ just.quiet in
      let sent_before : (f : Flight) → Among f (flights (steps (event.Tick end_ c end_ ∷ now.history))) → Among f (flights (steps now.history)) = λ f a.
      elim (either_side (next_step setting (steps now.history) (event.Tick end_ c end_)).sent (flights (steps now.history)) a) [
        | inl b ↦
            (let new : IsNew net plan (steps now.history) (next_step setting (steps now.history) (event.Tick end_ c end_)) end_ c f =
            is_new net plan dom down (steps now.history) now.reference now.good.world (event.Tick end_ c end_) end_ c f ticks are b in
            absurd (not_sent quiet new.sends))
        | inr b ↦ b
      ] in
      record {
        history = event.Tick end_ c end_ ∷ now.history;
        reference = end_;
        good = good;
        before = omega arith;
        ticked = λ x alive. tick_later (nat_eq c x) end_ (latest_tick (seen_of (steps now.history)) x) net.params.tick (now.ticked x alive);
        none = λ f a reaches unused. now.none f (sent_before f a) reaches unused;
        silent = λ f a reaches mutes. now.silent f (sent_before f a) reaches mutes;
        moved = λ z is' below_. elim (cases_eq z c) [
          | inl same ↦ subst (λ (x : ℕ). HasTurned (event.Tick end_ c end_ ∷ now.history) x) (sym same)
              (record { before = still.past; still = still.still; moves = moves; is = past_of_called c now.history still.past still.is })
          | inr apart ↦
              (let old : HasTurned now.history z = now.moved z is' (omega (arith, below_, apart)) in
              record { before = old.before; still = old.still; moves = old.moves; is = past_of_other c z now.history (λ same. apart (sym same)) ∙ old.is })
        ];
        unmoved = λ z in_ either.
            (let apart : c ≡ z → ⊥ = other_than c z is either in
            let old : IsStill net plan (steps now.history) z = now.unmoved z in_ (more c z either) in
            record { past = old.past; is = past_of_other c z now.history apart ∙ old.is; still = old.still });
        room = omega (arith, roomy);
      }
    where
      past_of_called : (d : ℕ) (history : List Event) (past : Past) → past_in (steps history) d ≡ Some past
          → past_in (steps (event.Tick end_ d end_ ∷ history)) d ≡ Some (after past (Tick end_))
      past_of_called d history past is' = rw (eq-eqb d d refl, is') refl

      past_of_other : (d z : ℕ) (history : List Event) → (d ≡ z → ⊥) → past_in (steps (event.Tick end_ d end_ ∷ history)) z ≡ past_in (steps history) z
      past_of_other d z history apart = rw (ne_eqb d z apart) refl

      other_than : (d z : ℕ) → mover d ≡ true → (mover z ≡ false) ⊎ (suc d ≤ z) → d ≡ z → ⊥
      other_than d z is' (inl stays) same = both_ways (mover z) stays (subst (λ (x : ℕ). mover x ≡ true) same is')
      other_than d z is' (inr above) same = omega (arith, above, same)

      more : (d z : ℕ) → (mover z ≡ false) ⊎ (suc d ≤ z) → (mover z ≡ false) ⊎ (d ≤ z)
      more d z (inl stays) = inl stays
      more d z (inr above) = inr (omega (arith, above))

  -- one that is no mover does not tick
  pass : (c : ℕ) → mover c ≡ false → Moving c → Moving (suc c)
  pass c other now =
      record {
        history = now.history;
        reference = now.reference;
        good = now.good;
        before = now.before;
        ticked = now.ticked;
        none = now.none;
        silent = now.silent;
        moved = λ z is below_. elim (cases_eq z c) [
          | inl same ↦ absurd (both_ways (mover c) other (subst (λ (x : ℕ). mover x ≡ true) same is))
          | inr apart ↦ now.moved z is (omega (arith, below_, apart))
        ];
        unmoved = λ z in_ either. elim either [
          | inl stays ↦ now.unmoved z in_ (inl stays)
          | inr above ↦ now.unmoved z in_ (inr (omega (arith, above)))
        ];
        room = (let roomy = now.room in omega (arith, roomy));
      }

  all_move : (c : ℕ) → c ≤ length net.devices → Moving c
  all_move zero within = none_moved
  all_move (suc c) within = by (mover c) refl (all_move c (omega (arith, within)))
    where
      by : (b : Bool) → mover c ≡ b → Moving c → Moving (suc c)
      by true is now = move c (omega (arith, within)) is now
      by false other now = pass c other now

  -- all movers have moved
  pub record HasMoved : Type 0 where
    pub history : List Event
    pub reference : ℕ
    pub good : Good net plan dom down history reference
    pub silent : (f : Flight) → Among f (flights (steps history)) → f.reaches ≡ true → mute f.receiver f.link → ⊥
    pub turned : (z : ℕ) → mover z ≡ true → HasTurned history z
    pub still : (z : ℕ) → zone z ≡ true → mover z ≡ false → IsStill net plan (steps history) z
    pub moved : (z : ℕ) (hop : Hop) → mover z ≡ true → backup_of plan z ≡ Some hop → counted_parent setting (steps history) z ≡ Some hop.parent
    pub unmoved : (z : ℕ) (hop : Hop) → zone z ≡ true → mover z ≡ false → primary_of plan z ≡ Some hop
        → counted_parent setting (steps history) z ≡ Some hop.parent

  pub has_moved : HasMoved
  has_moved =
      let all : Moving (length net.devices) = all_move (length net.devices) (omega arith) in
      record {
        history = all.history;
        reference = all.reference;
        good = all.good;
        silent = all.silent;
        turned = λ z is. all.moved z is (live_parts net plan down z (is_zone.shut.live z (moves_zone z is))).within;
        still = λ z in_ stays. all.unmoved z in_ (inl stays);
        moved = λ z hop is back.
            (let live : is_live net plan down z ≡ true = is_zone.shut.live z (moves_zone z is) in
            let it : HasTurned all.history z = all.moved z is (live_parts net plan down z live).within in
            counted all.history all.reference all.good z hop live (backup_of plan z) back
            (record {
              past = after it.before (Tick end_);
              is = it.is;
              parent = (just_moved (duty_of net plan 1 z) it.before end_ it.still (starts z (moves_zone z is)) it.moves).parent
                  ∙ edge_parent z (backup_of plan z);
            }));
        unmoved = λ z hop in_ stays first_.
            (let live : is_live net plan down z ≡ true = is_zone.shut.live z in_ in
            let still : IsStill net plan (steps all.history) z = all.unmoved z in_ (inl stays) in
            counted all.history all.reference all.good z hop live (primary_of plan z) first_
            (record {
              past = still.past;
              is = still.is;
              parent = follows_primary (duty_of net plan 1 z) still.past still.still (starts z in_)
                  ∙ edge_parent z (primary_of plan z);
            }));
      }
    where
      -- a live device counts, and its parent is what its past says
      counted : (history : List Event) (t : ℕ) → Good net plan dom down history t → (z : ℕ) (hop : Hop) → is_live net plan down z ≡ true → (o : Option Hop)
          → o ≡ Some hop → Follows history z o → counted_parent setting (steps history) z ≡ Some hop.parent
      counted history t good z hop live o is follows =
          let up : is_up (seen_of (steps history)) z ≡ true = good.world.up z ∙ live in
          let answers : answers_in (steps history) z ≡ Some (answers_by follows.past) =
          answers_by_words setting history z ∙ ap (option_map answers_by) follows.is in
          let parent : parent_in (steps history) z ≡ Some hop.parent =
          rw (up, answers) (follows.parent ∙ ap (option_map (λ (h : Hop). h.parent)) is) in
          let counts : is_counted setting (seen_of (steps history)) z ≡ true =
          rw (up, good.world.closings, (live_parts net plan down z live).member) refl in
          ap (λ (b : Bool). if b then parent_in (steps history) z else None) counts ∙ parent
