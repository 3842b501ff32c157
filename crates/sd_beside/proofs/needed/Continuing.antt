-- However a history goes on in which no plan is staged and nothing more fails: devices that are not fed, settled on their next hops, hear nothing.
use Rattle.std.specs.Prelude.{◌≡◌, ℕ, ◌+◌, ◌<◌, Bool, true, false, ◌&&◌, ◌||◌, not, List, [], ◌∷◌, ◌++◌, length, count_by, nat_eq, Option, Some, None, is_some, option_map, refl, if◌then◌else◌}
use Rattle.std.proofs.Common.{sym, ap, ◌∙◌, subst, inl, inr}
use Rattle.std.proofs.lemmas.Bool.{and_parts, or_parts, eqb-true, eq-eqb, both_ways, not-true, not-false, false_from_ne_true, lt-ltb}
use Rattle.sd_num.specs.Lists.{map_or}
use Rattle.sd_plan.specs.topo.Network.{Network}
use Rattle.sd_plan.specs.declared.topo.Thing.{Thing}
use Rattle.sd_plan.specs.declared.topo.Thing.TheVariants as thing
use Rattle.sd_plan.specs.domain.Domains.{holds, holds_device, holds_link}
use Rattle.sd_plan.specs.declared.domain.DomainId.{DomainId}
use Rattle.sd_plan.specs.declared.Hop.{Hop}
use Rattle.sd_plan.specs.declared.Edge.{Edge}
use Rattle.sd_plan.specs.declared.Plan.{Plan}
use Rattle.sd_plan.specs.Plans.{Fits, is_member}
use Rattle.sd_plan.specs.Duties.{duty_of, edge_of, ends_of, follows_over}
use Rattle.sd_plan.specs.Structure.{structure_breach}
use Rattle.sd_checker.specs.check_reach.Reach.{next_hop}
use Rattle.sd_device.specs.declared.msg.Flight.{Flight}
use Rattle.sd_device.specs.declared.Effect.TheVariants.{Quiet}
use Rattle.sd_device.specs.Calls.{Call, Tick, Receive, Fix, Past, Nothing}
use Rattle.sd_device.specs.Words.{duty_given, transition_of, after, effect_of}
use Rattle.sd_sched.specs.declared.Event.{Event}
use Rattle.sd_sched.specs.declared.Event.TheVariants as event
use Rattle.sd_sched.specs.Events.{is_stage}
use Rattle.sd_history.specs.Things.{failure_of}
use Rattle.sd_history.specs.World.{Setting, Seen, is_up, was_made, has_failed, link_has_failed, plan_numbered, in_force, window, alone}
use Rattle.sd_history.specs.Steps.{Act, changed, Calls, Passes, Step, seen_of, flights, flights_of, flight_numbered, act_by, tells_nothing, tells_called}
use Rattle.sd_history.specs.Chronicle.{next_step, chronicle, past_in, past_after, answers_by, told_by, IsHistory}
use Rattle.sd_history.specs.Accepted.{AreSteps}
use Rattle.sd_history.specs.Refusals.{refusal, is_spent, not_started, window_order, not_member}
use Rattle.sd_history.proofs.Among.{Among, either_side, found}
use Rattle.sd_history.proofs.Given.{some_is}
use Rattle.sd_history.proofs.Clear.{accepted_is_clear}
use Rattle.sd_history.proofs.Known.{named_is_known}
use Rattle.sd_history.proofs.Accepting.{history_is_accepted}
use Rattle.sd_history.proofs.flights.Sending.{WasSent, was_sent}
use Rattle.sd_history.proofs.flights.Places.{IsBelow, ends_below}
use Rattle.sd_beside.specs.needed.Reaches.{leaves_as_is}
use Rattle.sd_beside.proofs.needed.Worlds.{is_live, window_on, closings_on}
use Rattle.sd_beside.proofs.needed.Air.{ends_are}
use Rattle.sd_beside.proofs.needed.Still.{sends_nothing, not_sent}
use Rattle.sd_beside.proofs.needed.Hush.{role_is}
use Rattle.sd_beside.proofs.needed.Deaf.{Settled, settled_on, ordinary_rests, receipt_rests}
use Rattle.sd_beside.proofs.needed.Unfed.{Unfed, IsOnNext, unfed_other, next_above}

-- who is up and what has failed, where no window is open
pub record Frame (net : Network) (plan : Plan) (f : DomainId) (seen : List Seen) : Type 0 where
  pub up : (d : ℕ) → is_up seen d ≡ is_live net plan (holds net f) d
  pub made : (d : ℕ) → is_live net plan (holds net f) d ≡ true → was_made seen d ≡ true
  pub fallen : (d : ℕ) → holds_device net f d ≡ true → has_failed seen (thing.Device d) ≡ true
  pub failed : (l : ℕ) → holds_link net f l ≡ true → has_failed seen (thing.Link l) ≡ true
  pub window : window seen ≡ None
  pub closings : count_by (λ s. s.closed) seen ≡ 0

-- the events that may still come: they call a device, or leave all devices alone
pub data Comes (steps : List Step) : Event → Type 0 where
  ticks : {r d c : ℕ} → Comes steps (event.Tick r d c)
  receives : {r d c n : ℕ} → Comes steps (event.Recv r d c n)
  loses : {r n : ℕ} → Comes steps (event.Lose r n)
  fixes : {r d c k e : ℕ} → Comes steps (event.Fix r d c k e)
  asks : {r d c : ℕ} → Comes steps (event.Ask r d c)
  ends : {r : ℕ} → Comes steps (event.End r)

module _ (net : Network) (plan : Plan) (f : DomainId) (steps : List Step) (frame : Frame net plan f (seen_of steps)) where
  abbrev setting : Setting
  setting = alone net plan

  -- a start is refused
  no_start : (r d c k x : ℕ) → refusal setting steps (event.Start r d c k x) ≡ None → ⊥
  no_start r d c k x none = by (holds_device net f d) refl
    where
      e : Event
      e = event.Start r d c k x

      within : d < length net.devices
      within = named_is_known setting steps (event.Start r d c k x) d none refl

      member : is_member plan d ≡ true
      member =
          let not_left : not_member setting (seen_of steps) (event.Start r d c k x) ≡ false =
          (accepted_is_clear setting steps (event.Start r d c k x) none).is_member in
          let here = (or_parts (not (is_member (in_force setting (seen_of steps)) d)) false (or_parts _ false not_left).0).0 in
          subst (λ (j : ℕ). is_member (plan_numbered setting (j + 1)) d ≡ true) frame.closings (not-false (is_member (in_force setting (seen_of steps)) d) here)

      by : (b : Bool) → holds_device net f d ≡ b → ⊥
      by true held =
          both_ways (has_failed (seen_of steps) (thing.Device d))
          (accepted_is_clear setting steps (event.Start r d c k x) none).device_works (frame.fallen d held)
      by false spared =
          both_ways (was_made (seen_of steps) d)
          (or_parts (was_made (seen_of steps) d) false
          (accepted_is_clear setting steps (event.Start r d c k x) none).started_once).0
          (frame.made d (rw (lt-ltb d (length net.devices) within, member, spared) refl))

  -- so is what the order of windows forbids
  in_order : (e : Event) → refusal setting steps e ≡ None → window_order setting steps e ≡ true → ⊥
  in_order e none out =
      both_ways (window_order setting steps e)
      (accepted_is_clear setting steps e none).in_window out

  -- what may come
  pub comes : (e : Event) → refusal setting steps e ≡ None → (is_stage e || is_some (failure_of e)) ≡ false → Comes steps e
  comes (event.Start r d c k x) none leaves = absurd (no_start r d c k x none)
  comes (event.Tick r d c) none leaves = ticks
  comes (event.Recv r d c n) none leaves = receives
  comes (event.Lose r n) none leaves = loses
  comes (event.Fix r d c k x) none leaves = fixes
  comes (event.Ask r d c) none leaves = asks
  comes (event.Give r d) none leaves = absurd (in_order (event.Give r d) none (rw frame.window refl))
  comes (event.Commit r d c) none leaves = absurd (in_order (event.Commit r d c) none (rw frame.window refl))
  comes (event.Seal r d) none leaves = absurd (in_order (event.Seal r d) none (rw frame.window refl))
  comes (event.Join r d c k x) none leaves = absurd (in_order (event.Join r d c k x) none (rw frame.window refl))
  comes (event.MendDevice r d) none leaves = absurd (in_order (event.MendDevice r d) none (rw frame.window refl))
  comes (event.MendLink r l) none leaves = absurd (in_order (event.MendLink r l) none (rw frame.window refl))
  comes (event.End r) none leaves = ends
  comes _ none leaves = cc

  -- an event that fails nothing, makes nothing and leaves the window shut
  frame_by : (e : Event) → ((d : ℕ) → is_up (seen_of (next_step setting steps e ∷ steps)) d ≡ is_up (seen_of steps) d)
      → ((d : ℕ) → was_made (seen_of (next_step setting steps e ∷ steps)) d ≡ was_made (seen_of steps) d)
      → ((x : Thing) → has_failed (seen_of (next_step setting steps e ∷ steps)) x ≡ has_failed (seen_of steps) x)
      → (next_step setting steps e).seen.closed ≡ false → is_stage e ≡ false → Frame net plan f (seen_of (next_step setting steps e ∷ steps))
  frame_by e up made failed open_ other =
      record {
        up = λ d. up d ∙ frame.up d;
        made = λ d live. made d ∙ frame.made d live;
        fallen = λ d held. failed (thing.Device d) ∙ frame.fallen d held;
        failed = λ l held. failed (thing.Link l) ∙ frame.failed l held;
        window = window_on (next_step setting steps e).seen (seen_of steps) open_ other frame.window;
        closings = closings_on (next_step setting steps e).seen (seen_of steps) open_ frame.closings;
      }

  -- so each that may come
  pub frame_on : (e : Event) → Comes steps e → Frame net plan f (seen_of (next_step setting steps e ∷ steps))
  frame_on e ticks = frame_by e (λ d. refl) (λ d. refl) (λ x. refl) (rw frame.window refl) refl
  frame_on e receives = frame_by e (λ d. refl) (λ d. refl) (λ x. refl) (rw frame.window refl) refl
  frame_on e loses = frame_by e (λ d. refl) (λ d. refl) (λ x. refl) (rw frame.window refl) refl
  frame_on e fixes = frame_by e (λ d. refl) (λ d. refl) (λ x. refl) (rw frame.window refl) refl
  frame_on e asks = frame_by e (λ d. refl) (λ d. refl) (λ x. refl) (rw frame.window refl) refl
  frame_on e ends = frame_by e (λ d. refl) (λ d. refl) (λ x. refl) (rw frame.window refl) refl

-- a device that is settled on its next hop
pub record IsSettled (net : Network) (plan : Plan) (steps : List Step) (x : ℕ) : Type 0 where
  pub past : Past
  pub is : past_in steps x ≡ Some past
  pub settled : Settled (duty_of net plan 1 x) (option_map (edge_of net x) (next_hop plan x)) past

-- the devices that are not fed are so, and nothing comes to them
pub record Later (net : Network) (plan : Plan) (f : DomainId) (steps : List Step) : Type 0 where
  pub frame : Frame net plan f (seen_of steps)
  pub settled : (x : ℕ) → Unfed net plan f x → IsSettled net plan steps x
  pub silent : (g : Flight) → Among g (flights steps) → g.reaches ≡ true → IsOnNext net plan f g.receiver g.link → ⊥

module _ (net : Network) (plan : Plan) (fits : Fits net plan) (structured : structure_breach net plan ≡ None) (f : DomainId) (steps : List Step)
    (old : Later net plan f steps) where
  -- an event that calls a device that is up
  later_call : (e : Event) (d : ℕ) (call : Call) → Comes steps e → act_by (alone net plan) steps e ≡ Calls d call → duty_given call ≡ None
      → is_up (seen_of steps) d ≡ true
      → ((is : IsSettled net plan steps d) → Unfed net plan f d → transition_of is.past call ≡ Nothing)
      → AreSteps (alone net plan) (next_step (alone net plan) steps e ∷ steps) → Later net plan f (next_step (alone net plan) steps e ∷ steps)
  later_call e d call may acts gives up stays are =
      record {
        frame = frame_on net plan f steps old.frame e may;
        settled = λ x u. at x u (nat_eq d x) refl;
        silent = λ g a reaches on. elim (either_side s.sent (flights steps) a) [
          | inl b ↦ new g b reaches on
          | inr b ↦ old.silent g b reaches on
        ];
      }
    where
      s : Step
      s = next_step (alone net plan) steps e

      past_at : (z : ℕ) (b : Bool) → nat_eq d z ≡ b
          → past_in (next_step (alone net plan) steps e ∷ steps) z ≡ (if b then option_map (λ past. after past call) (past_in steps z) else past_in steps z)
      past_at z b is_b =
          ap (λ (act : Act). past_after act z (past_in steps z)) acts
          ∙ ap (λ (c : Bool). if c then option_map (λ past. after past call) (past_in steps z) else past_in steps z) is_b

      here : Unfed net plan f d → IsSettled net plan (next_step (alone net plan) steps e ∷ steps) d
      here u =
          let was : IsSettled net plan steps d = old.settled d u in
          record {
            past = after was.past call;
            is = past_at d true (eq-eqb d d refl) ∙ ap (option_map (λ past. after past call)) was.is;
            settled = settled_on (duty_of net plan 1 d) (option_map (edge_of net d) (next_hop plan d)) was.past was.settled
                call (stays was u) gives;
          }

      at : (x : ℕ) → Unfed net plan f x → (b : Bool) → nat_eq d x ≡ b → IsSettled net plan (next_step (alone net plan) steps e ∷ steps) x
      at x u true same =
          let equal : d ≡ x = eqb-true d x same in
          subst (λ (y : ℕ). IsSettled net plan (next_step (alone net plan) steps e ∷ steps) y) equal
          (here (subst (λ (y : ℕ). Unfed net plan f y) (sym equal) u))
      at x u false other = let was : IsSettled net plan steps x = old.settled x u in record
          { past = was.past; is = past_at x false other ∙ was.is; settled = was.settled }

      quiet : Unfed net plan f d → (next_step (alone net plan) steps e).told.effect ≡ Quiet
      quiet u =
          let was : IsSettled net plan steps d = old.settled d u in
          ap (λ (act : Act). (told_by steps act).effect) acts
          ∙ ap (λ (o : Option Past). (map_or o tells_nothing (λ past. tells_called (effect_of past call) (answers_by (after past call)))).effect) was.is
          ∙ sends_nothing was.past call (stays was u)

      new : (g : Flight) → Among g (next_step (alone net plan) steps e).sent → g.reaches ≡ true → IsOnNext net plan f g.receiver g.link → ⊥
      new g a reaches on =
          let sent : WasSent (alone net plan) (next_step (alone net plan) steps e) steps g = was_sent (alone net plan) (next_step (alone net plan) steps e)
          steps g are a in
          let same : sent.device ≡ d = some_is (sym sent.calls ∙ ap changed acts) in
          let among : Among sent.over.end_ (ends_of net plan sent.device) =
          ends_are net plan steps old.frame.window old.frame.closings sent.answers.epoch sent.device sent.over.end_ sent.over.among in
          let below_ : IsBelow net plan sent.device sent.over.end_ = ends_below net plan sent.device sent.over.end_ among in
          let link : g.link ≡ sent.over.end_.link = ap (λ (h : Flight). h.link) sent.over.is in
          let receiver : g.receiver ≡ sent.over.end_.device = ap (λ (h : Flight). h.receiver) sent.over.is in
          let reach : (not (link_has_failed (seen_of steps) sent.over.end_.link) && is_up (seen_of steps) sent.over.end_.device) ≡ true =
          sym (ap (λ (h : Flight). h.reaches) sent.over.is) ∙ reaches in
          let whole : link_has_failed (seen_of steps) sent.over.end_.link ≡ false =
          not-true (link_has_failed (seen_of steps) sent.over.end_.link)
          (and_parts (not (link_has_failed (seen_of steps) sent.over.end_.link)) (is_up (seen_of steps) sent.over.end_.device) reach).0 in
          let sound : holds_link net f g.link ≡ false =
          false_from_ne_true (holds_link net f g.link)
          (λ held. both_ways (link_has_failed (seen_of steps) sent.over.end_.link) whole
          (old.frame.failed sent.over.end_.link (subst (λ (l : ℕ). holds_link net f l ≡ true) link held))) in
          let follows : follows_over plan d g.link g.receiver ≡ true =
          subst (λ (l : ℕ). follows_over plan d l g.receiver ≡ true) (sym link)
          (subst (λ (x : ℕ). follows_over plan d sent.over.end_.link x ≡ true) (sym receiver)
          (subst (λ (x : ℕ). follows_over plan x sent.over.end_.link sent.over.end_.device ≡ true) same below_.follows)) in
          let u : Unfed net plan f d = next_above net plan fits structured f g.receiver g.link d on follows sound (sym (old.frame.up d) ∙ up) in
          not_sent (quiet u) sent.sends

  -- an event that calls none
  later_pass : (e : Event) → Comes steps e → ((x : ℕ) → past_in (next_step (alone net plan) steps e ∷ steps) x ≡ past_in steps x)
      → (next_step (alone net plan) steps e).sent ≡ [] → Later net plan f (next_step (alone net plan) steps e ∷ steps)
  later_pass e may same none =
      record {
        frame = frame_on net plan f steps old.frame e may;
        settled = λ x u. (let was : IsSettled net plan steps x = old.settled x u in record { past = was.past; is = same x ∙ was.is; settled = was.settled });
        silent = λ g a reaches on. elim (either_side (next_step (alone net plan) steps e).sent (flights steps) a) [
          | inl b ↦ gone g (subst (λ (gs : List Flight). Among g gs) none b)
          | inr b ↦ old.silent g b reaches on
        ];
      }
    where
      gone : (g : Flight) → Among g [] → ⊥
      gone g b = elim b [ ]

  -- who is called is up
  called_up : (e : Event) (d : ℕ) → refusal (alone net plan) steps e ≡ None → not_started (seen_of steps) e ≡ not (is_up (seen_of steps) d)
      → is_up (seen_of steps) d ≡ true
  called_up e d none same =
      not-false (is_up (seen_of steps) d)
      (sym same ∙ (accepted_is_clear (alone net plan) steps e none).device_up)

  pub later_on : (e : Event) → Comes steps e → refusal (alone net plan) steps e ≡ None → AreSteps (alone net plan) (next_step (alone net plan) steps e ∷ steps)
      → Later net plan f (next_step (alone net plan) steps e ∷ steps)
  later_on e (ticks {r = r} {d = d} {c = c}) none are =
      later_call e d (Tick c) ticks refl refl (called_up e d none refl)
      (λ is u. ordinary_rests (duty_of net plan 1 d) (option_map (edge_of net d) (next_hop plan d)) is.past is.settled c
      (role_is net plan d (unfed_other net plan fits structured f d u))) are
  later_on e (receives {r = r} {d = d} {c = c} {n = n}) none are = by (flight_numbered steps n) refl
    where
      e' : Event
      e' = event.Recv r d c n

      taken : (g : Flight) → flight_numbered steps n ≡ Some g → Later net plan f (next_step (alone net plan) steps (event.Recv r d c n) ∷ steps)
      taken g found_ =
          let right : not (nat_eq d g.receiver) ≡ false =
          subst (λ (o : Option Flight). map_or o false (λ h. not (nat_eq d h.receiver)) ≡ false) found_
          (accepted_is_clear (alone net plan) steps (event.Recv r d c n) none).right_device in
          let same : d ≡ g.receiver = eqb-true d g.receiver (not-false (nat_eq d g.receiver) right) in
          let unspent : is_spent steps r g ≡ false =
          subst (λ (o : Option Flight). map_or o false (is_spent steps r) ≡ false) found_
          (accepted_is_clear (alone net plan) steps (event.Recv r d c n) none).message_open in
          let reaches : g.reaches ≡ true = not-false g.reaches (or_parts _ (not g.reaches) unspent).1 in
          let among : Among g (flights steps) = found (λ (h : Flight). nat_eq h.number n) g (flights steps) found_ in
          later_call (event.Recv r d c n) d (Receive g.link g.message c) receives
          (ap (λ (o : Option Flight). map_or o Passes (λ h. Calls d (Receive h.link h.message c))) found_) refl (called_up (event.Recv r d c n) d none refl)
          (λ is u.
          receipt_rests (duty_of net plan 1 d) (option_map (edge_of net d) (next_hop plan d)) is.past is.settled
          g.link g.message c
          (λ edge is_ over. not_over g u among reaches same (next_hop plan d) refl edge is_ over)) are
        where
          not_over : (g : Flight) → Unfed net plan f d → Among g (flights steps) → g.reaches ≡ true → d ≡ g.receiver → (o : Option Hop) → next_hop plan d ≡ o
              → (edge : Edge) → option_map (edge_of net d) o ≡ Some edge → edge.link ≡ g.link → ⊥
          not_over g u among reaches same None next edge is_ over = cc
          not_over g u among reaches same (Some hop) next edge is_ over =
              old.silent g among reaches
              (subst (λ (x : ℕ). IsOnNext net plan f x g.link) same
              (record { unfed = u; hop = hop; next = next; link = ap (λ (x : Edge). x.link) (some_is is_) ∙ over }))

      passed : flight_numbered steps n ≡ None → Later net plan f (next_step (alone net plan) steps (event.Recv r d c n) ∷ steps)
      passed gone =
          let acts : act_by (alone net plan) steps (event.Recv r d c n) ≡ Passes =
          ap (λ (o : Option Flight). map_or o Passes (λ h. Calls d (Receive h.link h.message c))) gone in
          later_pass (event.Recv r d c n) receives (λ x. ap (λ (act : Act). past_after act x (past_in steps x)) acts)
          (ap (λ (act : Act). flights_of (alone net plan) steps r act (told_by steps act)) acts)

      by : (o : Option Flight) → flight_numbered steps n ≡ o → Later net plan f (next_step (alone net plan) steps (event.Recv r d c n) ∷ steps)
      by None gone = passed gone
      by (Some g) found_ = taken g found_
  later_on e loses none are = later_pass e loses (λ x. refl) refl
  later_on e (fixes {r = r} {d = d} {c = c} {k = k} {e = x}) none are = later_call e d (Fix c k x) fixes refl refl (called_up e d none refl) (λ is u. refl) are
  later_on e asks none are = later_pass e asks (λ x. refl) refl
  later_on e ends none are = later_pass e ends (λ x. refl) refl

-- however it goes on
pub later_all : (net : Network) (plan : Plan) (fits : Fits net plan) (structured : structure_breach net plan ≡ None) (f : DomainId) (history more : List Event)
    → Later net plan f (chronicle (alone net plan) history) → IsHistory (alone net plan) (more ++ history) → leaves_as_is more ≡ true
    → Later net plan f (chronicle (alone net plan) (more ++ history))
later_all net plan fits structured f history [] now is leaves = now
later_all net plan fits structured f history (e ∷ more) now is leaves =
    let (here, rest) = and_parts (not (is_stage e || is_some (failure_of e))) (leaves_as_is more) leaves in
    let before : Later net plan f (chronicle (alone net plan) (more ++ history)) = later_all net plan fits structured f history more now is.0 rest in
    later_on net plan fits structured f (chronicle (alone net plan) (more ++ history)) before e
    (comes net plan f (chronicle (alone net plan) (more ++ history)) before.frame e is.1 (not-true (is_stage e || is_some (failure_of e)) here)) is.1
    (history_is_accepted (alone net plan) (e ∷ (more ++ history)) is)
