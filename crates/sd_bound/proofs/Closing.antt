-- A renewal closes with the seal of its last member: who was sealed in the window is of the staged plan and sealed, and stays so.
use Rattle.std.specs.Prelude.{◌≡◌, ℕ, cond, ◌+◌, ◌*◌, ◌<◌, Bool, true, false, ◌&&◌, ◌||◌, not, List, [], ◌∷◌, filter, find, length, nat_eq, nat_le, nat_lt, Option, Some, None, is_some, option_map, refl, ◌⊎◌, if◌then◌else◌}
use Rattle.std.specs.List.{list_any, list_all}
use Rattle.std.proofs.Common.{arith, sym, ◌∙◌, ap, subst, inl, inr}
use Rattle.std.proofs.lemmas.Bool.{and_from, or_right, or_cases, or_parts, lt-ltb, le-leb, eqb-true, eq-eqb, not-false}
use Rattle.sd_num.specs.Lists.{map_or, leading}
use Rattle.sd_plan.specs.declared.Duty.{Duty}
use Rattle.sd_plan.specs.Plans.{is_member, members}
use Rattle.sd_device.specs.Calls as calls
use Rattle.sd_device.specs.Calls.{Call, Past, CallDone}
use Rattle.sd_device.specs.Words.{after, transition_of, taken_up, takes_up, duty_now, epoch_now, is_sealed, is_seal as is_seal_call}
use Rattle.sd_sched.specs.declared.Event.{Event}
use Rattle.sd_sched.specs.declared.Event.TheVariants as event
use Rattle.sd_sched.specs.Events.{reference_of, is_stage, is_commit}
use Rattle.sd_plan.specs.declared.topo.Thing.TheVariants as thing
use Rattle.sd_history.specs.World.{Setting, Seen, makes, fails, is_up, window, window_is_open, has_commit, staged_epoch, plan_numbered, is_staged_member}
use Rattle.sd_history.specs.Steps.{Act, Makes, Calls, Asks, Passes, Step, seen_of, act_by, live_answers, has_settled}
use Rattle.sd_history.specs.Chronicle.{answers_by, past_in, past_after, next_step, chronicle}
use Rattle.sd_history.specs.Refusals.{window_order, window_order_seen, window_order_within}
use Rattle.sd_history.specs.Admitted.{IsAdmitted}
use Rattle.sd_history.proofs.Among.{Among, first, later, all_pass}
use Rattle.sd_history.proofs.Clear.{clear}
use Rattle.sd_history.proofs.Filters.{kept_among, filter_in}
use Rattle.sd_history.proofs.Given.{takes_given}
use Rattle.sd_history.proofs.Shared.{among_below}
use Rattle.sd_history.proofs.flights.Places.{among_below as below_among}
use Rattle.sd_history.proofs.Known.{admitted_up_is_known}
use Rattle.sd_safety.specs.invariant.Bounds.{depth, delay, rounds_gap}
use Rattle.sd_safety.specs.invariant.Eras.{is_new, will_belong}
use Rattle.sd_safety.specs.invariant.Clauses.{commit_at}
use Rattle.sd_safety.specs.invariant.Guarded.{AreGuarded, IsSteady}
use Rattle.sd_safety.specs.invariant.Coming.{IsNextEvent}
use Rattle.sd_safety.proofs.invariant.Parents.{live_is}
use Rattle.sd_safety.proofs.invariant.Prefix.{clean_before}
use Rattle.sd_safety.proofs.invariant.Sides.{implied, not_both}
use Rattle.sd_safety.proofs.invariant.Staying.{filter_out}
use Rattle.sd_safety.proofs.windows.Eras.{era_kept, era_grows}
use Rattle.sd_safety.proofs.windows.Closing.{epoch_up, settled_epoch}
use Rattle.sd_safety.proofs.windows.NoClosing.{closing, begun}
use Rattle.sd_safety.proofs.windows.Committing.{staged_plan}
use Rattle.sd_safety.proofs.windows.Senders.{NewPast, new_past_of}
use Rattle.sd_safety.proofs.windows.StaysNew.{RestsAt, rests_at, makes_some, act_makes_none, new_has_none}
use Rattle.sd_safety.proofs.entering.Entering.{members_enter}
use Rattle.sd_safety.proofs.entering.States as states
use Rattle.sd_safety.proofs.whole.Kept.{comes}
use Rattle.sd_bound.specs.Closing.{seals, was_sealed, MembersEnter, SealsClose}

-- Members enter

pub enter_in_time : (setting : Setting) → MembersEnter setting
enter_in_time setting e history fair clean commit late d member =
    let steps : List Step = chronicle setting history in
    implied
    (has_commit (seen_of steps) && will_belong setting steps d
    && nat_lt (commit_at steps + rounds_gap setting.net + depth setting.net * delay setting.net) (reference_of e))
    (is_new steps d) (members_enter setting history e (comes setting history e fair clean) d)
    (and_from (has_commit (seen_of steps) && will_belong setting steps d) _
    (and_from (has_commit (seen_of steps)) (will_belong setting steps d) commit member)
    (lt-ltb (commit_at steps + rounds_gap setting.net + depth setting.net * delay setting.net) (reference_of e)
    (regroup (commit_at steps) (rounds_gap setting.net) (depth setting.net * delay setting.net) (reference_of e) late)))
  where
    regroup : (c a m r : ℕ) → c + (a + m) < r → c + a + m < r
    regroup c a m r less = omega (arith, less)

-- Who is sealed

-- an accepted seal comes after the commit of its window, and of a device of the staged plan
record IsSealing (steps : List Step) (d : ℕ) : Type 0 where
  commit : has_commit (seen_of steps) ≡ true
  new : is_new steps d ≡ true

sealing : (setting : Setting) (r d : ℕ) (history : List Event) → IsAdmitted setting (event.Seal r d ∷ history) → IsSealing (chronicle setting history) d
sealing setting r d history is =
    let steps : List Step = chronicle setting history in
    let order : window_order setting steps (event.Seal r d) ≡ false =
    (clear setting steps (event.Seal r d) is.1).in_window in
    let parts = or_parts (window_order_seen setting (seen_of steps) (event.Seal r d)) (window_order_within steps (event.Seal r d)) order in
    let outside = or_parts (not (window_is_open (seen_of steps))) (not (has_commit (seen_of steps))) parts.0 in
    record {
      commit = not-false (has_commit (seen_of steps)) outside.1;
      new = not-false (is_new steps d) parts.1;
    }

sealed_by : (setting : Setting) (e : Event) (d : ℕ) (history : List Event) → IsAdmitted setting (e ∷ history) → seals d e ≡ true
    → IsSealing (chronicle setting history) d
sealed_by setting (event.Seal r k) d history is sealed_ =
    subst (IsSealing (chronicle setting history)) (eqb-true k d sealed_) (sealing setting r k history is)
sealed_by setting _ d history is sealed_ = cc

-- a device that is up, of the plan with this number, and sealed
record Settled (steps : List Step) (n d : ℕ) : Type 0 where
  past : Past
  up : is_up (seen_of steps) d ≡ true
  there : past_in steps d ≡ Some past
  epoch : epoch_now past ≡ n
  settled : is_sealed past ≡ true

-- so it has settled
has_so : (setting : Setting) (history : List Event) (n d : ℕ) → Settled (chronicle setting history) n d → has_settled (chronicle setting history) n d ≡ true
has_so setting history n d of =
    ap (λ o. map_or o false (λ a. nat_eq a.epoch n && a.sealed))
    (live_is setting history d
    ∙ ap (option_map answers_by) (ap (λ b. if b then past_in (chronicle setting history) d else None) of.up ∙ of.there))
    ∙ and_from (nat_eq (epoch_now of.past) n) (is_sealed of.past) (eq-eqb (epoch_now of.past) n of.epoch) of.settled

-- a call that takes up no duty leaves the epoch, and who is sealed sealed
pub epoch_same : (past : Past) (call : Call) → taken_up (transition_of past call) ≡ None → epoch_now (after past call) ≡ epoch_now past
epoch_same past call none = ap (λ o. map_or (map_or (option_map Some o) (duty_now past) (λ told. told)) 0 (λ u. u.epoch)) none

still_sealed : (x : CallDone) (did : List CallDone) (b : Bool) → b ≡ false
    → (not (is_some (find takes_up did)) || list_any (λ y. is_seal_call y.call) (leading (λ y. not (takes_up y)) did)) ≡ true
    → (not (is_some (cond b (Some x) (find takes_up did))) || list_any (λ y. is_seal_call y.call) (cond (not b) (x ∷ leading (λ y. not (takes_up y)) did) []))
    ≡ true
still_sealed x did true off is = cc
still_sealed x did false off is =
    or_more (is_some (find takes_up did)) (is_seal_call x.call) (list_any (λ y. is_seal_call y.call) (leading (λ y. not (takes_up y)) did)) is
  where
    or_more : (a s r : Bool) → (not a || r) ≡ true → (not a || (s || r)) ≡ true
    or_more true true r h = refl
    or_more true false r h = h
    or_more false s r h = refl

stays_sealed : (past : Past) (call : Call) → taken_up (transition_of past call) ≡ None → is_sealed past ≡ true → is_sealed (after past call) ≡ true
stays_sealed past call none is =
    still_sealed (record { call = call; transition = transition_of past call }) past.did (is_some (taken_up (transition_of past call))) (ap is_some none) is

-- a seal settles its device
seal_settles : (setting : Setting) (r d : ℕ) (history : List Event) → is_new (chronicle setting history) d ≡ true
    → Settled (chronicle setting (event.Seal r d ∷ history)) (staged_epoch (seen_of (chronicle setting history))) d
seal_settles setting r d history new =
    let of : NewPast (chronicle setting history) d = new_past_of setting history d new in
    record {
      past = after of.past calls.Seal;
      up = of.up;
      there =
          ap (λ b. if b then option_map (λ q. after q calls.Seal) (past_in (chronicle setting history) d) else past_in (chronicle setting history) d)
          (eq-eqb d d refl)
          ∙ ap (option_map (λ q. after q calls.Seal)) of.there;
      epoch = of.epoch;
      settled = or_right _ true refl;
    }

settles : (setting : Setting) (e : Event) (d : ℕ) (history : List Event) → is_new (chronicle setting history) d ≡ true → seals d e ≡ true
    → Settled (chronicle setting (e ∷ history)) (staged_epoch (seen_of (chronicle setting history))) d
settles setting (event.Seal r k) d history new sealed_ =
    subst (λ x. is_new (chronicle setting history) x ≡ true
    → Settled (chronicle setting (event.Seal r k ∷ history)) (staged_epoch (seen_of (chronicle setting history))) x) (eqb-true k d sealed_)
    (seal_settles setting r k history) new
settles setting _ d history new sealed_ = cc

-- and it stays so while the window is open
nothing_told : (m f : Bool) → m ≡ false → f ≡ false → (if m then Some true else if f then Some false else None) ≡ None
nothing_told true f none unfailed = cc
nothing_told false true none unfailed = cc
nothing_told false false none unfailed = refl

module _ (setting : Setting) (e : Event) (history : List Event) (fair : AreGuarded setting) (clean : IsSteady setting (e ∷ history))
    (commit : has_commit (seen_of (chronicle setting history)) ≡ true) (d : ℕ) where
  abbrev steps : List Step
  steps = chronicle setting history

  settled_stays : Settled (chronicle setting history) (staged_epoch (seen_of (chronicle setting history))) d
      → Settled (chronicle setting (e ∷ history)) (staged_epoch (seen_of (chronicle setting history))) d
  settled_stays of = by (act_by setting (chronicle setting history) e) refl
    where
      rests : RestsAt e
      rests = rests_at setting e history clean commit

      next : IsNextEvent setting history e
      next = comes setting history e fair clean

      up : is_up (seen_of (chronicle setting (e ∷ history))) d ≡ true
      up = ap (λ o. map_or o (is_up (seen_of (chronicle setting history)) d) (λ told. told))
          (nothing_told (makes d e) (fails (thing.Device d) e) (states.makes_not setting history e next commit d)
          (states.fails_not setting history e next commit (thing.Device d)))
          ∙ of.up

      still : (act : Act) → act_by setting (chronicle setting history) e ≡ act
          → past_after act d (past_in (chronicle setting history) d) ≡ past_in (chronicle setting history) d
          → Settled (chronicle setting (e ∷ history)) (staged_epoch (seen_of (chronicle setting history))) d
      still act is same =
          record {
            past = of.past;
            up = up;
            there = ap (λ a. past_after a d (past_in (chronicle setting history) d)) is ∙ same ∙ of.there;
            epoch = of.epoch;
            settled = of.settled;
          }

      takes_none : (call : Call) (t : Option Duty) → taken_up (transition_of of.past call) ≡ t → taken_up (transition_of of.past call) ≡ None
      takes_none call None is = is
      takes_none call (Some u) is =
          absurd (never (new_has_none setting history clean.is.0 d of.past of.there of.epoch) (takes_given of.past call u is))
        where
          never : {o : Option Duty} {v : Duty} → o ≡ None → o ≡ Some v → ⊥
          never none some = cc

      by : (act : Act) → act_by setting (chronicle setting history) e ≡ act
          → Settled (chronicle setting (e ∷ history)) (staged_epoch (seen_of (chronicle setting history))) d
      by (Makes m making) is =
          absurd (not_both true refl (ap makes_some (sym is) ∙ act_makes_none setting (chronicle setting history) e rests.start rests.join))
      by (Calls m call) is = go (nat_eq m d) refl
        where
          none : taken_up (transition_of of.past call) ≡ None
          none = takes_none call (taken_up (transition_of of.past call)) refl

          go : (b : Bool) → nat_eq m d ≡ b → Settled (chronicle setting (e ∷ history)) (staged_epoch (seen_of (chronicle setting history))) d
          go true same =
              record {
                past = after of.past call;
                up = up;
                there =
                    ap (λ a. past_after a d (past_in (chronicle setting history) d)) is
                    ∙ ap (λ b. if b then option_map (λ q. after q call) (past_in (chronicle setting history) d) else past_in (chronicle setting history) d) same
                    ∙ ap (option_map (λ q. after q call)) of.there;
                epoch = epoch_same of.past call none ∙ of.epoch;
                settled = stays_sealed of.past call none of.settled;
              }
          go false same =
              still (Calls m call) is
              (ap (λ b. if b then option_map (λ q. after q call) (past_in (chronicle setting history) d) else past_in (chronicle setting history) d) same)
      by (Asks m counter) is = still (Asks m counter) is refl
      by Passes is = still Passes is refl

-- Whole histories

-- what an open window says of a test, with its latest step
record InOpen (test : Seen → Bool) (s : Seen) (c st : Bool) (w : Option (List Seen)) : Type 0 where
  shut : c ≡ false
  unstaged : st ≡ false
  some : (test s ≡ true) ⊎ (map_or w false (list_any test) ≡ true)

in_open : (test : Seen → Bool) (s : Seen) (c st : Bool) (w : Option (List Seen))
    → map_or (if c then None else if st then Some [] else option_map (λ v. s ∷ v) w) false (list_any test) ≡ true → InOpen test s c st w
in_open test s true st w is = cc
in_open test s false true w is = cc
in_open test s false false None is = cc
in_open test s false false (Some v) is = record { shut = refl; unstaged = refl; some = or_cases (test s) (list_any test v) is }

commit_goes_on : (s : Seen) (c st : Bool) (w : Option (List Seen)) → c ≡ false → st ≡ false → map_or w false (list_any (λ x. is_commit x.event)) ≡ true
    → map_or (if c then None else if st then Some [] else option_map (λ v. s ∷ v) w) false (list_any (λ x. is_commit x.event)) ≡ true
commit_goes_on s true st w shut unstaged is = cc
commit_goes_on s false true w shut unstaged is = cc
commit_goes_on s false false None shut unstaged is = is
commit_goes_on s false false (Some v) shut unstaged is = or_right (is_commit s.event) (list_any (λ x. is_commit x.event) v) is

-- who was sealed in the open window has settled, and the window has its commit
sealed_so : (setting : Setting) (history : List Event) → AreGuarded setting → IsSteady setting history → (d : ℕ)
    → was_sealed (seen_of (chronicle setting history)) d ≡ true
    → (has_commit (seen_of (chronicle setting history)) ≡ true)
    × Settled (chronicle setting history) (staged_epoch (seen_of (chronicle setting history))) d
sealed_so setting [] fair clean d was = cc
sealed_so setting (e ∷ history) fair clean d was =
    by (sealed_so setting history fair (clean_before setting e history clean) d) opened.some
  where
    opened : InOpen (λ x. seals d x.event) (next_step setting (chronicle setting history) e).seen
        (next_step setting (chronicle setting history) e).seen.closed (is_stage e) (window (seen_of (chronicle setting history)))
    opened = in_open (λ x. seals d x.event) (next_step setting (chronicle setting history) e).seen
        (next_step setting (chronicle setting history) e).seen.closed (is_stage e) (window (seen_of (chronicle setting history))) was

    same : staged_epoch (seen_of (chronicle setting history)) ≡ staged_epoch (seen_of (chronicle setting (e ∷ history)))
    same = sym (ap (λ n. n + 1) (era_kept (next_step setting (chronicle setting history) e) (chronicle setting history) opened.shut))

    on : has_commit (seen_of (chronicle setting history)) ≡ true → has_commit (seen_of (chronicle setting (e ∷ history))) ≡ true
    on commit =
        commit_goes_on (next_step setting (chronicle setting history) e).seen (next_step setting (chronicle setting history) e).seen.closed (is_stage e)
        (window (seen_of (chronicle setting history))) opened.shut opened.unstaged commit

    by : (was_sealed (seen_of (chronicle setting history)) d ≡ true → (has_commit (seen_of (chronicle setting history)) ≡ true)
        × Settled (chronicle setting history) (staged_epoch (seen_of (chronicle setting history))) d)
        → (seals d e ≡ true) ⊎ (was_sealed (seen_of (chronicle setting history)) d ≡ true)
        → (has_commit (seen_of (chronicle setting (e ∷ history))) ≡ true)
        × Settled (chronicle setting (e ∷ history)) (staged_epoch (seen_of (chronicle setting (e ∷ history)))) d
    by rest (inl now) =
        let sealing_ = sealed_by setting e d history clean.is now in (
          on sealing_.commit,
          subst (λ n. Settled (chronicle setting (e ∷ history)) n d) same (settles setting e d history sealing_.new now),
        )
    by rest (inr before) =
        let earlier = rest before in (
          on earlier.0,
          subst (λ n. Settled (chronicle setting (e ∷ history)) n d) same (settled_stays setting e history fair clean earlier.0 d earlier.1),
        )

-- The closing

closes_so : (setting : Setting) (s : Seen) (n : ℕ) (up settled : ℕ → Bool) (st : Bool) (w : Option (List Seen)) → st ≡ false
    → map_or w false (list_any (λ x. is_commit x.event)) ≡ true
    → nat_le 1 (length (filter up (members setting.net (plan_numbered setting n)))) ≡ true
    → list_all settled (filter up (members setting.net (plan_numbered setting n))) ≡ true
    → closing setting n up settled (if st then Some [] else option_map (λ v. s ∷ v) w) ≡ true
closes_so setting s n up settled true w unstaged commit some all = cc
closes_so setting s n up settled false None unstaged commit some all = cc
closes_so setting s n up settled false (Some v) unstaged commit some all =
    and_from (is_commit s.event || list_any (λ x. is_commit x.event) v) _ (or_right (is_commit s.event) (list_any (λ x. is_commit x.event) v) commit)
    (and_from (nat_le 1 (length (filter up (members setting.net (plan_numbered setting n))))) _ some all)

some_there : (x : ℕ) (xs : List ℕ) → Among x xs → nat_le 1 (length xs) ≡ true
some_there x _ (first {xs = ys}) = le-leb 1 (length (x ∷ ys)) (omega arith)
some_there x _ (later {y = y} {xs = ys} a) = le-leb 1 (length (y ∷ ys)) (omega arith)

module _ (setting : Setting) (e : Event) (history : List Event) (fair : AreGuarded setting) (clean : IsSteady setting (e ∷ history))
    (commit : has_commit (seen_of (chronicle setting history)) ≡ true)
    (each : (d : ℕ) → will_belong setting (chronicle setting history) d ≡ true → (seals d e || was_sealed (seen_of (chronicle setting history)) d) ≡ true)
  where
    next : IsNextEvent setting history e
    next = comes setting history e fair clean

    member_settled : (d : ℕ) → will_belong setting (chronicle setting history) d ≡ true
        → has_settled (chronicle setting (e ∷ history)) (staged_epoch (seen_of (chronicle setting history))) d ≡ true
    member_settled d member =
        has_so setting (e ∷ history) (staged_epoch (seen_of (chronicle setting history))) d
        (by (or_cases (seals d e) (was_sealed (seen_of (chronicle setting history)) d) (each d member)))
      where
        by : (seals d e ≡ true) ⊎ (was_sealed (seen_of (chronicle setting history)) d ≡ true)
            → Settled (chronicle setting (e ∷ history)) (staged_epoch (seen_of (chronicle setting history))) d
        by (inl now) = settles setting e d history (sealed_by setting e d history clean.is now).new now
        by (inr before) =
            settled_stays setting e history fair clean commit d
            (sealed_so setting history fair (clean_before setting e history clean) d before).1

    present : List ℕ
    present = filter (is_up (seen_of (chronicle setting (e ∷ history)))) (members setting.net (staged_plan setting (chronicle setting history)))

    belongs_so : (x : ℕ) → Among x (members setting.net (staged_plan setting (chronicle setting history)))
        → will_belong setting (chronicle setting history) x ≡ true
    belongs_so x among =
        let parts = filter_out (is_member (staged_plan setting (chronicle setting history))) x _ among in
        and_from (nat_lt x (length setting.net.devices)) (is_staged_member setting (seen_of (chronicle setting history)) x)
        (lt-ltb x (length setting.net.devices) (below_among (length setting.net.devices) x parts.0))
        (sym (states.staged_member setting history e next commit x) ∙ parts.1)

    root : ℕ
    root = (staged_plan setting (chronicle setting history)).root

    root_is_member : is_member (staged_plan setting (chronicle setting history)) (staged_plan setting (chronicle setting history)).root ≡ true
    root_is_member = (states.rules setting history e next commit).root

    root_among : Among (staged_plan setting (chronicle setting history)).root (members setting.net (staged_plan setting (chronicle setting history)))
    root_among =
        filter_in (is_member (staged_plan setting (chronicle setting history))) _ _ (among_below (length setting.net.devices) _ root_known) root_is_member
      where
        root_known : (staged_plan setting (chronicle setting history)).root < length setting.net.devices
        root_known =
            admitted_up_is_known setting history clean.is.0 (staged_plan setting (chronicle setting history)).root
            (subst (λ x. is_up (seen_of (chronicle setting history)) x ≡ true) (states.root_is setting history e next commit)
            (epoch_up (chronicle setting history) _ (staged_epoch (seen_of (chronicle setting history))) (states.root_new setting history e next commit)))

    closed_now : (next_step setting (chronicle setting history) e).seen.closed ≡ true
    closed_now =
        closes_so setting (begun setting history e).seen (staged_epoch (seen_of (chronicle setting history))) (is_up (seen_of (chronicle setting (e ∷ history))))
        (has_settled (chronicle setting (e ∷ history)) (staged_epoch (seen_of (chronicle setting history)))) (is_stage e)
        (window (seen_of (chronicle setting history))) (rests_at setting e history clean commit).stage commit
        (some_there _ _
        (filter_in (is_up (seen_of (chronicle setting (e ∷ history)))) _ _ root_among
        (up_of (staged_plan setting (chronicle setting history)).root (member_settled _ (belongs_so _ root_among)))))
        (all_pass _ _ (λ x among. member_settled x (belongs_so x (kept_among (is_up (seen_of (chronicle setting (e ∷ history)))) _ x among))))
      where
        up_of : (x : ℕ) → has_settled (chronicle setting (e ∷ history)) (staged_epoch (seen_of (chronicle setting history))) x ≡ true
            → is_up (seen_of (chronicle setting (e ∷ history))) x ≡ true
        up_of x settled_ =
            epoch_up (chronicle setting (e ∷ history)) x (staged_epoch (seen_of (chronicle setting history)))
            (settled_epoch (live_answers (chronicle setting (e ∷ history)) x) (staged_epoch (seen_of (chronicle setting history))) settled_)

pub seals_close : (setting : Setting) → SealsClose setting
seals_close setting e history fair clean commit each =
    era_grows (next_step setting (chronicle setting history) e) (chronicle setting history) (closed_now setting e history fair clean commit each)
