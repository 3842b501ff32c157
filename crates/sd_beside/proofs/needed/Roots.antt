-- The root condition is needed where it forbids two acting roots: such ones come about in a history that breaks no premise.
use Rattle.std.specs.Prelude.{◌≡◌, ℕ, zero, suc, ◌+◌, ◌-◌, ◌*◌, ◌^◌, ◌<◌, ◌≤◌, Bool, true, false, ◌&&◌, not, List, [], ◌∷◌, ◌⊎◌, length, nat_eq, nat_le, nat_lt, Option, Some, None, is_some, option_map, refl, if◌then◌else◌}
use Rattle.std.specs.List.{list_any}
use Rattle.std.proofs.Common.{sym, ap, ◌∙◌, subst, arith, inl, inr}
use Rattle.std.proofs.lemmas.Nat.{mul-le}
use Rattle.std.proofs.lemmas.Bool.{and_parts, and_from, and_right, or_left, or_right, eq-eqb, ne_eqb, lt-ltb, lt-leb, le-leb, cases_eq, cases_lt, both_ways}
use Rattle.sd_num.specs.Lists.{has, map_or}
use Rattle.sd_plan.specs.topo.Network.{Network, device_numbers}
use Rattle.sd_plan.specs.topo.Limits.{IsNetwork}
use Rattle.sd_plan.specs.declared.topo.Thing.{Thing}
use Rattle.sd_plan.specs.declared.topo.Thing.TheVariants as thing
use Rattle.sd_plan.specs.domain.Domains.{holds, holds_device}
use Rattle.sd_plan.specs.domain.Lone.{IsDomain}
use Rattle.sd_plan.specs.declared.domain.DomainId.{DomainId}
use Rattle.sd_plan.specs.declared.Hop.{Hop}
use Rattle.sd_plan.specs.declared.Edge.{Edge}
use Rattle.sd_plan.specs.declared.Plan.{Plan}
use Rattle.sd_plan.specs.declared.Role.{Role}
use Rattle.sd_plan.specs.declared.Role.TheVariants.{Root, BackupRoot, Ordinary}
use Rattle.sd_plan.specs.Plans.{Fits, is_member, is_root, is_backup_root, backup_of}
use Rattle.sd_plan.specs.Walks.{path}
use Rattle.sd_plan.specs.Duties.{duty_of, edge_of, role_of}
use Rattle.sd_plan.specs.Structure.{structure_breach}
use Rattle.sd_device.specs.declared.msg.Message.{Message}
use Rattle.sd_device.specs.Calls.{Started, Past, Tick, Receive, Nothing, Moved}
use Rattle.sd_device.specs.Words.{starts_as_root, is_acting, after, transition_of}
use Rattle.sd_sched.specs.declared.Event.{Event}
use Rattle.sd_sched.specs.declared.Event.TheVariants as event
use Rattle.sd_history.specs.World.{Setting, is_up, is_counted, alone}
use Rattle.sd_history.specs.Steps.{Step, seen_of, answers_in, acts_in}
use Rattle.sd_history.specs.Chronicle.{chronicle, past_in, answers_by}
use Rattle.sd_history.specs.Lines.{roots}
use Rattle.sd_history.proofs.Bridges.{answers_by_words}
use Rattle.sd_history.proofs.Given.{some_is}
use Rattle.sd_history.proofs.Shared.{among_below}
use Rattle.sd_beside.specs.needed.Alone.{holds_besides}
use Rattle.sd_beside.specs.needed.Loops.{ticks_until, events_until}
use Rattle.sd_beside.specs.needed.Roots.{both_roots, fallback, TakesBoth, MakesTwoRoots, ticks_of_takeover, RootIsNeeded}
use Rattle.sd_beside.proofs.needed.Elements.{any_of, among_kept}
use Rattle.sd_beside.proofs.needed.Worlds.{is_live}
use Rattle.sd_beside.proofs.needed.Allowed.{live_parts}
use Rattle.sd_beside.proofs.needed.Going.{Good, tick_goes, premises_held}
use Rattle.sd_beside.proofs.needed.Pasts.{Plain}
use Rattle.sd_beside.proofs.needed.Turns.{acting_words}
use Rattle.sd_beside.proofs.needed.Still.{Still, tick_stays, tick_moves, sends_nothing, HasJustMoved, just_moved}
use Rattle.sd_beside.proofs.needed.Deaf.{receipt_rests, tick_rests}
use Rattle.sd_beside.proofs.needed.Hush.{Idles, Silent, Stands, is_over, stays_silent, hears_nothing}
use Rattle.sd_beside.proofs.needed.Rings as rings
use Rattle.sd_beside.proofs.needed.Rings.{domain_among}
use Rattle.sd_beside.proofs.needed.Ready.{multiples, Multiples, Ready, ready}
use Rattle.sd_beside.proofs.needed.Times.{IsOrdered, ordered}
use Rattle.sd_beside.proofs.needed.Takeovers.{HasMovedAt, moved_now, moved_on, takes_over_when, acts_then}
use Rattle.sd_beside.proofs.needed.Taken.{HasRoots, has_roots, path_taken, fallback_taken}
use Rattle.sd_beside.proofs.needed.CutOff.{is_cut_off, CutOff, cut_off, IsUnheard, is_shut, touched_off}

module _ (net : Network) (plan : Plan) (law : IsNetwork net) (fits : Fits net plan) (structured : structure_breach net plan ≡ None)
    (order : IsOrdered net plan) (bound : events_until net plan (ticks_of_takeover net plan) ≤ 2 ^ 26)
    (f : DomainId) (is_domain : IsDomain net f) (takes : TakesBoth net plan f) where
  abbrev setting : Setting
  setting = alone net plan

  abbrev steps : List Event → List Step
  steps history = chronicle setting history

  abbrev down : Thing → Bool
  down = holds_besides net f (both_roots plan)

  on_path : list_any down (path net plan plan.backup_root) ≡ true
  on_path = path_taken net plan fits structured f takes.path

  on_fallback : list_any down (fallback net plan) ≡ true
  on_fallback = fallback_taken net plan fits structured f on_path takes.fallback

  abbrev zone : ℕ → Bool
  zone = is_cut_off net plan down

  abbrev mute : ℕ → ℕ → Type 0
  mute = IsUnheard net plan down

  abbrev b : ℕ
  b = plan.backup_root

  abbrev tick : ℕ
  tick = net.params.tick

  -- the tick at which the backup root moves
  abbrev first : ℕ
  first = ticks_until net plan.wait_first

  abbrev second : ℕ
  second = ticks_until net plan.wait_second

  abbrev last : ℕ
  last = first + second

  first_wait : Multiples plan.wait_first tick first
  first_wait = multiples plan.wait_first tick law.tick.0

  second_wait : Multiples plan.wait_second tick second
  second_wait = multiples plan.wait_second tick law.tick.0

  -- a time that is over at a multiple takes a multiple
  takes_some : (wait k : ℕ) → 1 ≤ wait → wait ≤ k * tick → 1 ≤ k
  takes_some wait zero some over = absurd (omega (arith, some, over))
  takes_some wait (suc k) some over = omega arith

  some_first : 1 ≤ first
  some_first = takes_some plan.wait_first first order.first first_wait.over

  some_second : 1 ≤ second
  some_second = takes_some plan.wait_second second order.second second_wait.over

  -- before the takeover no other wait is over
  not_over : (i : ℕ) → i < last → i * tick < plan.wait
  not_over i less =
      let some_a = some_first in
      let some_b = some_second in
      let before_a = first_wait.early (first - 1) (omega (arith, some_a)) in
      let before_b = second_wait.early (second - 1) (omega (arith, some_b)) in
      let most : i * tick ≤ ((first - 1) + ((second - 1) + 1)) * tick =
      mul-le i tick ((first - 1) + ((second - 1) + 1)) tick (omega (arith, less, some_a, some_b)) (omega arith) in
      let split : ((first - 1) + ((second - 1) + 1)) * tick ≡ (first - 1) * tick + (second - 1) * tick + tick = spread (first - 1) (second - 1) tick in
      let long = order.wait in
      omega (arith, before_a, before_b, most, split, long)
    where
      spread : (x y t : ℕ) → (x + (y + 1)) * t ≡ x * t + y * t + t
      spread x y t = grind arith

  two : HasRoots plan
  two = has_roots net plan structured

  b_other : is_root plan b ≡ false
  b_other = two.apart

  b_role : role_of plan b ≡ BackupRoot
  b_role = rw (two.apart, eq-eqb b b refl) refl

  starts : (z : ℕ) → is_root plan z ≡ false → starts_as_root (Started (duty_of net plan 1 z) 0 0 0) ≡ false
  starts z other = by (is_backup_root plan z)
    where
      by : (c : Bool) → starts_as_root (Started (record {
        epoch = 1;
        role = if is_root plan z then Root else if c then BackupRoot else Ordinary;
        primary = (duty_of net plan 1 z).primary;
        backup = (duty_of net plan 1 z).backup;
        period = net.params.period;
        wait_first = plan.wait_first;
        wait_second = plan.wait_second;
        wait = plan.wait;
        rates = (duty_of net plan 1 z).rates;
      }) 0 0 0) ≡ false
      by true = rw other refl
      by false = rw other refl

  -- How the devices are, by how often they ticked: all have done nothing, but the backup root, which has moved from some tick on.
  abbrev IsWaiting : ℕ → ℕ → Past → Type 0
  IsWaiting i z past =
      ((z ≡ b → i < first) × Still (duty_of net plan 1 z) past) ⊎ ((z ≡ b) × (first ≤ i) × HasMovedAt (duty_of net plan 1 z) (first * tick) past)

  -- a tick of another one
  other_early : (i z : ℕ) → i < last → is_root plan z ≡ false → is_backup_root plan z ≡ false → is_over net plan z (i * tick) ≡ false
  other_early i z less other ordinary = early (is_some (duty_of net plan 1 z).backup) (role_of plan z) (rw (other, ordinary) refl)
    where
      early : (c : Bool) (role : Role) → role ≡ Ordinary
          → map_or (elim role [ Root ↦ None | BackupRoot ↦ Some plan.wait_first | Ordinary ↦ if c then Some plan.wait else None ]) false
          (λ wait. nat_le wait (i * tick)) ≡ false
      early true role is = rw is (lt-leb plan.wait (i * tick) (not_over i less))
      early false role is = rw is refl

  -- the backup root's first wait
  b_over : (i : ℕ) → is_over net plan b (i * tick) ≡ nat_le plan.wait_first (i * tick)
  b_over i = by (role_of plan b) b_role
    where
      by : (role : Role) → role ≡ BackupRoot
          → map_or (elim role [
            | Root ↦ None
            | BackupRoot ↦ Some plan.wait_first
            | Ordinary ↦
                if is_some (duty_of net plan 1 b).backup then Some plan.wait else None
          ]) false
          (λ wait. nat_le wait (i * tick)) ≡ nat_le plan.wait_first (i * tick)
      by role is = rw is refl

  -- a tick of the backup root before its move
  b_ticks : (i : ℕ) (past : Past) → i < first → Still (duty_of net plan 1 b) past → Silent (IsWaiting (suc i) b) past (Tick (suc i * tick))
  b_ticks i past early still = elim (cases_lt (suc i) first) [
    | inl less ↦
        (let stays : transition_of past (Tick (suc i * tick)) ≡ Nothing =
        tick_stays (duty_of net plan 1 b) past still (starts b b_other) (suc i * tick)
        (b_over (suc i) ∙ lt-leb plan.wait_first (suc i * tick) (first_wait.early (suc i) less)) in
        let silent = stays_silent (duty_of net plan 1 b) past (Tick (suc i * tick)) still stays refl in
        (silent.0, inl ((λ same. less), silent.1)))
    | inr more ↦
        (let now : suc i ≡ first = omega (arith, early, more) in
        let at : suc i * tick ≡ first * tick = ap (λ (k : ℕ). k * tick) now in
        let over : plan.wait_first ≤ suc i * tick = (let late = first_wait.over in omega (arith, late, at)) in
        let moves : transition_of past (Tick (suc i * tick)) ≡ Moved =
        tick_moves (duty_of net plan 1 b) past still (starts b b_other) (suc i * tick) (b_over (suc i) ∙ le-leb plan.wait_first (suc i * tick) over) in
        let just : HasJustMoved (duty_of net plan 1 b) past (Tick (suc i * tick)) =
        just_moved (duty_of net plan 1 b) past (suc i * tick) still (starts b b_other) moves in
        let it : HasMovedAt (duty_of net plan 1 b) (suc i * tick) (after past (Tick (suc i * tick))) =
        moved_now (duty_of net plan 1 b) past (suc i * tick) still (starts b b_other) moves in (
          just.quiet,
          inr (refl, more, subst (λ (c : ℕ). HasMovedAt (duty_of net plan 1 b) c (after past (Tick (suc i * tick)))) at it),
        ))
  ]

  -- one after its move
  b_rests : (i : ℕ) (past : Past) → suc i < last → first ≤ i → HasMovedAt (duty_of net plan 1 b) (first * tick) past
      → Silent (IsWaiting (suc i) b) past (Tick (suc i * tick))
  b_rests i past less more it =
      let early : (suc i - first) * tick < plan.wait_second = second_wait.early (suc i - first) (omega (arith, less, more)) in
      let split : (first + (suc i - first)) * tick ≡ first * tick + (suc i - first) * tick = spread first (suc i - first) tick in
      let same : (first + (suc i - first)) * tick ≡ suc i * tick = ap (λ (k : ℕ). k * tick) (omega (arith, more)) in
      let soon : suc i * tick - first * tick < plan.wait_second = omega (arith, early, split, same) in
      let stays : transition_of past (Tick (suc i * tick)) ≡ Nothing =
      tick_rests (duty_of net plan 1 b) (duty_of net plan 1 b).backup past it.settled (suc i * tick)
      (takes_over_when (duty_of net plan 1 b) (first * tick) past it (suc i * tick) b_role
      ∙ lt-leb plan.wait_second (suc i * tick - first * tick) soon) in (
        sends_nothing past (Tick (suc i * tick)) stays,
        inr (refl, omega (arith, more), moved_on (duty_of net plan 1 b) (first * tick) past it (Tick (suc i * tick)) stays refl),
      )
    where
      spread : (x y t : ℕ) → (x + y) * t ≡ x * t + y * t
      spread x y t = grind arith

  waiting_ticks : (i z : ℕ) (past : Past) → suc i < last → zone z ≡ true → IsWaiting i z past → Silent (IsWaiting (suc i) z) past (Tick (suc i * tick))
  waiting_ticks i z past less in_ (inl (early, still)) = elim (cases_eq z b) [
    | inl same ↦ subst (λ (y : ℕ). Silent (IsWaiting (suc i) y) past (Tick (suc i * tick))) (sym same)
        (b_ticks i past (early same) (subst (λ (y : ℕ). Still (duty_of net plan 1 y) past) same still))
    | inr other ↦
        (let off : CutOff net plan down z = cut_off net plan down z in_ in
        let stays : transition_of past (Tick (suc i * tick)) ≡ Nothing =
        tick_stays (duty_of net plan 1 z) past still (starts z off.other) (suc i * tick)
        (other_early (suc i) z less off.other (ne_eqb b z (λ same. other (sym same)))) in
        let silent = stays_silent (duty_of net plan 1 z) past (Tick (suc i * tick)) still stays refl in
        (silent.0, inl ((λ same. absurd (other same)), silent.1)))
  ]
  waiting_ticks i z past less in_ (inr (same, more, it)) =
      subst (λ (y : ℕ). Silent (IsWaiting (suc i) y) past (Tick (suc i * tick))) (sym same)
      (b_rests i past less more (subst (λ (y : ℕ). HasMovedAt (duty_of net plan 1 y) (first * tick) past) same it))

  waiting_hears : (i z : ℕ) (past : Past) (link : ℕ) (message : Message) (counter : ℕ) → zone z ≡ true → (mute z link → ⊥) → IsWaiting i z past
      → Silent (IsWaiting i z) past (Receive link message counter)
  waiting_hears i z past link message counter in_ sounds (inl (early, still)) =
      let off : CutOff net plan down z = cut_off net plan down z in_ in
      let silent = hears_nothing net plan z past link message counter mute (starts z off.other)
      (λ hop is. record { in_ = in_; hop = hop; which = inl is; link = refl }) sounds still in
      (silent.0, inl (early, silent.1))
  waiting_hears i z past link message counter in_ sounds (inr (same, more, it)) =
      let stays : transition_of past (Receive link message counter) ≡ Nothing =
      receipt_rests (duty_of net plan 1 z) (duty_of net plan 1 z).backup past it.settled link message counter
      (λ edge is_ over. elsewhere (backup_of plan z) refl edge is_ over) in (
        sends_nothing past (Receive link message counter) stays,
        inr (same, more, moved_on (duty_of net plan 1 z) (first * tick) past it (Receive link message counter) stays refl),
      )
    where
      elsewhere : (o : Option Hop) → backup_of plan z ≡ o → (edge : Edge) → option_map (edge_of net z) o ≡ Some edge → edge.link ≡ link → ⊥
      elsewhere None backup edge is_ over = cc
      elsewhere (Some hop) backup edge is_ over =
          sounds (record { in_ = in_; hop = hop; which = inr (same, backup); link = ap (λ (x : Edge). x.link) (some_is is_) ∙ over })

  idles : Idles tick last zone mute IsWaiting
  idles = record { ticks = waiting_ticks; hears = waiting_hears }

  -- What fails and what does not

  held : (x : Thing) → down x ≡ true → holds net f x ≡ true
  held (thing.Device d) is = (and_parts (holds_device net f d) (not (has (both_roots plan) d)) is).0
  held (thing.Link l) is = is

  known_device : (d : ℕ) → down (thing.Device d) ≡ true → d < length net.devices
  known_device d is = rings.known_device net f d law is_domain (held (thing.Device d) is)

  known_link : (l : ℕ) → down (thing.Link l) ≡ true → l < length net.links
  known_link l is = rings.known_link net f l law is_domain is

  root_live_of : (d : ℕ) → d < length net.devices → is_member plan d ≡ true → has (both_roots plan) d ≡ true → is_live net plan down d ≡ true
  root_live_of d within member is =
      let spared : down (thing.Device d) ≡ false = and_right (holds_device net f d) (not (has (both_roots plan) d)) (ap not is) in
      and_from (nat_lt d (length net.devices) && is_member plan d) (not (down (thing.Device d)))
      (and_from (nat_lt d (length net.devices)) (is_member plan d) (lt-ltb d (length net.devices) within) member) (ap not spared)

  root_live : is_live net plan down plan.root ≡ true
  root_live = root_live_of plan.root fits.root two.root (or_left (nat_eq plan.root plan.root) (has (b ∷ []) plan.root) (eq-eqb plan.root plan.root refl))

  b_live : is_live net plan down b ≡ true
  b_live = root_live_of b fits.backup_root two.backup_root
      (or_right (nat_eq b plan.root) (has (b ∷ []) b) (or_left (nat_eq b b) false (eq-eqb b b refl)))

  b_zone : zone b ≡ true
  b_zone = touched_off net plan fits structured down on_fallback b b_live on_path

  -- The end

  abbrev Ended : Type 0
  Ended =
      Ready net plan f down zone mute law (domain_among net f is_domain) known_device known_link held
      (is_shut net plan fits structured down on_fallback) last IsWaiting idles
      (λ z in_. inl ((λ same. some_first), record { made = refl; did = refl })) bound

  ended : Ended
  ended =
      ready net plan f down zone mute law (domain_among net f is_domain) known_device known_link held
      (is_shut net plan fits structured down on_fallback) last IsWaiting idles
      (λ z in_. inl ((λ same. some_first), record { made = refl; did = refl })) bound

  abbrev end_ : ℕ
  end_ = last * tick

  -- a live device that acts is of the roots
  is_of_roots : (history : List Event) (t : ℕ) → Good net plan f down history t → (d : ℕ) (past : Past) → is_live net plan down d ≡ true
      → past_in (steps history) d ≡ Some past → is_acting past ≡ true → has (roots setting (steps history)) d ≡ true
  is_of_roots history t good d past live is acts =
      let up : is_up (seen_of (steps history)) d ≡ true = good.world.up d ∙ live in
      let answers : answers_in (steps history) d ≡ Some (answers_by past) = answers_by_words setting history d ∙ ap (option_map answers_by) is in
      let counts : is_counted setting (seen_of (steps history)) d ≡ true =
      rw (up, good.world.closings, (live_parts net plan down d live).member) refl in
      let as_root : acts_in (steps history) d ≡ true = rw (up, answers) acts in
      any_of (nat_eq d) (roots setting (steps history)) d (eq-eqb d d refl)
      (among_kept (λ x. is_counted setting (seen_of (steps history)) x && acts_in (steps history) x) (device_numbers net) d
      (and_from (is_counted setting (seen_of (steps history)) d) (acts_in (steps history) d) counts as_root)
      (among_below (length net.devices) d (live_parts net plan down d live).within))

  -- the root acts from its start on
  root_acts : (past : Past) → Plain (duty_of net plan 1 plan.root) past → is_acting past ≡ true
  root_acts past plain =
      let starts_so : starts_as_root (Started (duty_of net plan 1 plan.root) 0 0 0) ≡ true = rw (eq-eqb plan.root plan.root refl) refl in
      acting_words (duty_of net plan 1 plan.root) past plain
      ∙ or_left (starts_as_root past.making) _ (ap starts_as_root plain.made ∙ starts_so)

  -- the backup root takes over
  b_acts : (past : Past) → IsWaiting (last - 1) b past → is_acting (after past (Tick end_)) ≡ true
  b_acts past (inl (early, still)) = (let before = early refl in let some = some_second in absurd (omega (arith, before, some)))
  b_acts past (inr (same, more, it)) =
      let split : (first + second) * tick ≡ first * tick + second * tick = spread first second tick in
      let late = second_wait.over in
      let over : plan.wait_second ≤ end_ - first * tick = omega (arith, split, late) in
      acts_then (duty_of net plan 1 b) (first * tick) past it end_
      (takes_over_when (duty_of net plan 1 b) (first * tick) past it end_ b_role ∙ le-leb plan.wait_second (end_ - first * tick) over)
    where
      spread : (x y t : ℕ) → (x + y) * t ≡ x * t + y * t
      spread x y t = grind arith

  pub two_roots : MakesTwoRoots net plan f
  two_roots = by ended
    where
      past_of_called : (history : List Event) (past : Past) → past_in (steps history) b ≡ Some past
          → past_in (steps (event.Tick end_ b end_ ∷ history)) b ≡ Some (after past (Tick end_))
      past_of_called history past is = rw (eq-eqb b b refl, is) refl

      past_of_other : (history : List Event) (z : ℕ) → (b ≡ z → ⊥) → past_in (steps (event.Tick end_ b end_ ∷ history)) z ≡ past_in (steps history) z
      past_of_other history z apart = rw (ne_eqb b z apart) refl

      apart : b ≡ plan.root → ⊥
      apart same = both_ways (nat_eq plan.root b) two.apart (eq-eqb plan.root b (sym same))

      by : Ended → MakesTwoRoots net plan f
      by r =
          let roomy = r.room in
          let some = law.devices.0 in
          let now : Stands (IsWaiting (last - 1) b) (steps r.history) b = r.hush.still b b_zone in
          let history : List Event = event.Tick end_ b end_ ∷ r.history in
          let good : Good net plan f down (event.Tick end_ b end_ ∷ r.history) end_ =
          tick_goes net plan f down law (domain_among net f is_domain) r.history r.reference r.good (omega (arith, roomy, some)) end_ b b_live r.before
          r.ticked r.none in
          let root_past = r.there plan.root root_live in
          record {
            history = event.Tick end_ b end_ ∷ r.history;
            clean =
                record {
                  is = good.is;
                  premises = premises_held net plan f down (event.Tick end_ b end_ ∷ r.history) end_ good;
                  failures = good.failures;
                };
            root = is_of_roots (event.Tick end_ b end_ ∷ r.history) end_ good plan.root root_past.0 root_live
                (past_of_other r.history plan.root apart ∙ root_past.1) (root_acts root_past.0 (r.plain plan.root root_past.0 root_past.1));
            backup_root = is_of_roots (event.Tick end_ b end_ ∷ r.history) end_ good b (after now.past (Tick end_)) b_live
                (past_of_called r.history now.past now.is) (b_acts now.past now.still);
          }

pub root_is_needed : (net : Network) (plan : Plan) → RootIsNeeded net plan
root_is_needed net plan law fits structured timed bound f is_domain takes =
    two_roots net plan law fits structured (ordered net plan law timed) bound f is_domain takes
