-- A new device stays new until the closing; and who sent a message of the staged epoch is new. So the sender of an entering receipt is new (C9 d).
use Rattle.std.specs.Prelude.{◌≡◌, ℕ, ◌+◌, ◌≤◌, Bool, true, false, ◌||◌, not, List, [], ◌∷◌, nat_eq, Option, Some, None, is_some, option_map, refl, if◌then◌else◌}
use Rattle.std.proofs.Common.{arith, ◌∙◌, ap, sym, subst, inl, inr}
use Rattle.std.proofs.lemmas.Bool.{eqb-true, eq-eqb, not-false}
use Rattle.sd_num.specs.Lists.{map_or, same_number}
use Rattle.sd_plan.specs.declared.topo.Thing.{Thing}
use Rattle.sd_plan.specs.declared.topo.Thing.TheVariants as thing
use Rattle.sd_plan.specs.declared.Duty.{Duty}
use Rattle.sd_plan.specs.declared.Plan.{Plan}
use Rattle.sd_plan.specs.Duties.{duty_of}
use Rattle.sd_history.specs.Admitted.{Admits}
use Rattle.sd_device.specs.declared.msg.Flight.{Flight}
use Rattle.sd_device.specs.Calls as calls
use Rattle.sd_device.specs.Calls.{Call, Past}
use Rattle.sd_device.specs.Words.{after, transition_of, taken_up, duty_now, epoch_now}
use Rattle.sd_sched.specs.declared.Event.{Event}
use Rattle.sd_sched.specs.declared.Event.TheVariants as event
use Rattle.sd_sched.specs.Events.{reference_of, started, joined}
use Rattle.sd_history.specs.Things.{failure_of}
use Rattle.sd_history.specs.World.{Setting, is_thing, up_after, is_up, has_commit, staged, staged_epoch}
use Rattle.sd_history.specs.Steps.{Act, Makes, Calls, Asks, Passes, Step, seen_of, act_by, flights, flight_numbered}
use Rattle.sd_history.specs.Chronicle.{answers_by, past_in, past_after, next_step, chronicle}
use Rattle.sd_history.specs.Refusals.{not_started}
use Rattle.sd_history.proofs.Among.{Among, either_side}
use Rattle.sd_history.proofs.Clear.{clear}
use Rattle.sd_history.proofs.Given.{takes_given}
use Rattle.sd_safety.proofs.messages.Sending.{sends_own}
use Rattle.sd_safety.proofs.messages.Flights.{IsSentBy, sent_by}
use Rattle.sd_safety.specs.invariant.Eras.{era, is_new, live_past}
use Rattle.sd_safety.specs.invariant.Guarded.{IsSteady}
use Rattle.sd_safety.proofs.invariant.Parents.{live_is}
use Rattle.sd_safety.proofs.invariant.Prefix.{clean_before}
use Rattle.sd_safety.proofs.invariant.Sides.{not_both}
use Rattle.sd_safety.specs.windows.Reaching.{reach}
use Rattle.sd_safety.proofs.windows.Eras.{era_kept}
use Rattle.sd_safety.proofs.windows.NoneBeforeCommit.{within, epoch_within}
use Rattle.sd_safety.proofs.windows.Committing.{up_and_past}
use Rattle.sd_safety.proofs.windows.StaysNew.{RestsAt, rests_at, makes_some, act_makes_none, reached, shut_reach, new_has_none}
use Rattle.sd_safety.proofs.messages.Receipts.{device_is}

-- a new device has a past of the staged epoch
pub record NewPast (steps : List Step) (x : ℕ) : Type 0 where
  pub past : Past
  pub up : is_up (seen_of steps) x ≡ true
  pub there : past_in steps x ≡ Some past
  pub epoch : epoch_now past ≡ staged_epoch (seen_of steps)

pub new_past_of : (setting : Setting) (history : List Event) (x : ℕ) → is_new (chronicle setting history) x ≡ true → NewPast (chronicle setting history) x
new_past_of setting history x new =
    go (live_past (chronicle setting history) x) refl
    (sym (ap (λ o. same_number (option_map (λ a. a.epoch) o) (staged_epoch (seen_of (chronicle setting history)))) (live_is setting history x)) ∙ new)
  where
    go : (p : Option Past) → live_past (chronicle setting history) x ≡ p
        → same_number (option_map (λ a. a.epoch) (option_map answers_by p)) (staged_epoch (seen_of (chronicle setting history))) ≡ true
        → NewPast (chronicle setting history) x
    go None is same = cc
    go (Some q) is same =
        let at = up_and_past (is_up (seen_of (chronicle setting history)) x) (past_in (chronicle setting history) x) q is in
        record { past = q; up = at.0; there = at.1; epoch = eqb-true (epoch_now q) _ same }

-- and who has such a past and is up is new
pub new_by_past : (setting : Setting) (history : List Event) (x : ℕ) → NewPast (chronicle setting history) x → is_new (chronicle setting history) x ≡ true
new_by_past setting history x of =
    ap (λ o. same_number (option_map (λ a. a.epoch) o) (staged_epoch (seen_of (chronicle setting history))))
    (live_is setting history x ∙ ap (option_map answers_by) (ap (λ b. if b then past_in (chronicle setting history) x else None) of.up ∙ of.there))
    ∙ eq-eqb (epoch_now of.past) (staged_epoch (seen_of (chronicle setting history))) of.epoch

-- an event that makes and fails nothing leaves up what is up
unmoved : (x : ℕ) (o p : Option ℕ) (f : Option Thing) → is_some o ≡ false → is_some p ≡ false → is_some f ≡ false
    → (if same_number o x || same_number p x then Some true else if is_thing f (thing.Device x) then Some false else None) ≡ None
unmoved x None None None a b c = refl
unmoved x (Some y) p f a b c = cc
unmoved x None (Some y) f a b c = cc
unmoved x None None (Some y) a b c = cc

module _ (setting : Setting) (e : Event) (history : List Event) (clean : IsSteady setting (e ∷ history))
    (open_ : (next_step setting (chronicle setting history) e).seen.closed ≡ false) where
  pub new_stays : (x : ℕ) → is_new (chronicle setting history) x ≡ true → is_new (chronicle setting (e ∷ history)) x ≡ true
  new_stays x new = new_by_past setting (e ∷ history) x (by (act_by setting (chronicle setting history) e) refl)
    where
      of : NewPast (chronicle setting history) x
      of = new_past_of setting history x new

      commit : has_commit (seen_of (chronicle setting history)) ≡ true
      commit = reached (has_commit (seen_of (chronicle setting history))) (era (chronicle setting history))
          (epoch_within setting history clean.is.0 x (staged_epoch (seen_of (chronicle setting history))) new)

      rests : RestsAt e
      rests = rests_at setting e history clean commit

      up : is_up (seen_of (chronicle setting (e ∷ history))) x ≡ true
      up = ap (λ o. map_or o (is_up (seen_of (chronicle setting history)) x) (λ told. told))
          (unmoved x (started e) (joined e) (failure_of e) rests.start rests.join rests.failure) ∙ of.up

      staged_same : staged_epoch (seen_of (chronicle setting history)) ≡ staged_epoch (seen_of (chronicle setting (e ∷ history)))
      staged_same = sym (ap (λ n. n + 1) (era_kept (next_step setting (chronicle setting history) e) (chronicle setting history) open_))

      still : (act : Act) → act_by setting (chronicle setting history) e ≡ act
          → past_after act x (past_in (chronicle setting history) x) ≡ past_in (chronicle setting history) x → NewPast (chronicle setting (e ∷ history)) x
      still act is same =
          record {
            past = of.past;
            up = up;
            there = ap (λ a. past_after a x (past_in (chronicle setting history) x)) is ∙ same ∙ of.there;
            epoch = of.epoch ∙ staged_same;
          }

      takes_none : (call : Call) (t : Option Duty) → taken_up (transition_of of.past call) ≡ t → epoch_now (after of.past call) ≡ epoch_now of.past
      takes_none call None is = ap (λ o. map_or (map_or (option_map Some o) (duty_now of.past) (λ told. told)) 0 (λ u. u.epoch)) is
      takes_none call (Some u) is = absurd (never (new_has_none setting history clean.is.0 x of.past of.there of.epoch) (takes_given of.past call u is))
        where
          never : {o : Option Duty} {v : Duty} → o ≡ None → o ≡ Some v → ⊥
          never none some = cc

      by : (act : Act) → act_by setting (chronicle setting history) e ≡ act → NewPast (chronicle setting (e ∷ history)) x
      by (Makes m making) is =
          absurd (not_both true refl (ap makes_some (sym is) ∙ act_makes_none setting (chronicle setting history) e rests.start rests.join))
      by (Calls m call) is = go (nat_eq m x) refl
        where
          go : (b : Bool) → nat_eq m x ≡ b → NewPast (chronicle setting (e ∷ history)) x
          go true same =
              record {
                past = after of.past call;
                up = up;
                there =
                    ap (λ a. past_after a x (past_in (chronicle setting history) x)) is
                    ∙ ap (λ b. if b then option_map (λ q. after q call) (past_in (chronicle setting history) x) else past_in (chronicle setting history) x) same
                    ∙ ap (option_map (λ q. after q call)) of.there;
                epoch = takes_none call (taken_up (transition_of of.past call)) refl ∙ of.epoch ∙ staged_same;
              }
          go false same =
              still (Calls m call) is
              (ap (λ b. if b then option_map (λ q. after q call) (past_in (chronicle setting history) x) else past_in (chronicle setting history) x) same)
      by (Asks m counter) is = still (Asks m counter) is refl
      by Passes is = still Passes is refl

-- Who is called is up

-- who is called is up, and stays so
pub record IsCalled (steps : List Step) (e : Event) (d : ℕ) : Type 0 where
  pub up : is_up (seen_of steps) d ≡ true
  pub stays : up_after d e ≡ None

module _ (setting : Setting) (steps : List Step) (d : ℕ) (call : Call) where
  by_name : (e : Event) (v : ℕ) → v ≡ d → up_after v e ≡ None → not (is_up (seen_of steps) v) ≡ false → IsCalled steps e d
  by_name e v same stays started_ = subst (IsCalled steps e) same (record { up = not-false (is_up (seen_of steps) v) started_; stays = stays })

  by_receipt : (e : Event) (v c : ℕ) (o : Option Flight) → up_after v e ≡ None → not (is_up (seen_of steps) v) ≡ false
      → map_or o Passes (λ f. Calls v (calls.Receive f.link f.message c)) ≡ Calls d call → IsCalled steps e d
  by_receipt e v c None stays started_ same = cc
  by_receipt e v c (Some f) stays started_ same = by_name e v (device_is same) stays started_

  by_give : (e : Event) (v : ℕ) (o : Option Plan) (duty : Plan → Duty) → up_after v e ≡ None → not (is_up (seen_of steps) v) ≡ false
      → map_or o Passes (λ plan. Calls v (calls.Give (duty plan))) ≡ Calls d call → IsCalled steps e d
  by_give e v None duty stays started_ same = cc
  by_give e v (Some plan) duty stays started_ same = by_name e v (device_is same) stays started_

  pub called_is_up : (e : Event) → Admits setting steps e → act_by setting steps e ≡ Calls d call → IsCalled steps e d
  called_is_up e none same =
      go e (clear setting steps e none).device_up same
    where
      go : (x : Event) → not_started (seen_of steps) x ≡ false → act_by setting steps x ≡ Calls d call → IsCalled steps x d
      go (event.Tick r v c) started_ is = by_name (event.Tick r v c) v (device_is is) refl started_
      go (event.Recv r v c n) started_ is = by_receipt (event.Recv r v c n) v c (flight_numbered steps n) refl started_ is
      go (event.Fix r v c clock eps) started_ is = by_name (event.Fix r v c clock eps) v (device_is is) refl started_
      go (event.Give r v) started_ is =
          by_give (event.Give r v) v (staged setting (seen_of steps)) (λ plan. duty_of setting.net plan (staged_epoch (seen_of steps)) v) refl started_ is
      go (event.Commit r v c) started_ is = by_name (event.Commit r v c) v (device_is is) refl started_
      go (event.Seal r v) started_ is = by_name (event.Seal r v) v (device_is is) refl started_
      go _ started_ is = cc

-- Senders

too_far : (n m : ℕ) → m ≡ n → n + 1 ≤ m → ⊥
too_far n m same le = omega (arith, same, le)

-- who sent a message of the staged epoch is new
pub senders_new : (setting : Setting) (history : List Event) → IsSteady setting history → (f : Flight) → Among f (flights (chronicle setting history))
    → f.message.epoch ≡ staged_epoch (seen_of (chronicle setting history))
    → is_new (chronicle setting history) f.sender ≡ true
senders_new setting [] clean f among epoch = elim among [ ]
senders_new setting (e ∷ history) clean f among epoch =
    by (next_step setting (chronicle setting history) e).seen.closed refl
    (λ here same. senders_new setting history (clean_before setting e history clean) f here same)
  where
    by : (c : Bool) → (next_step setting (chronicle setting history) e).seen.closed ≡ c
        → (Among f (flights (chronicle setting history)) → f.message.epoch ≡ staged_epoch (seen_of (chronicle setting history))
        → is_new (chronicle setting history) f.sender ≡ true)
        → is_new (chronicle setting (e ∷ history)) f.sender ≡ true
    by true closed rest =
        absurd
        (too_far (era (chronicle setting (e ∷ history))) (reach (chronicle setting (e ∷ history)))
        (shut_reach setting (next_step setting (chronicle setting history) e) (chronicle setting history) closed)
        (subst (λ n. n ≤ reach (chronicle setting (e ∷ history))) epoch ((within setting (e ∷ history) clean.is).messages f among)))
    by false open_ rest =
        elim (either_side (next_step setting (chronicle setting history) e).sent (flights (chronicle setting history)) among) [
          | inl here ↦
              let sent : IsSentBy setting (chronicle setting history) (reference_of e) (act_by setting (chronicle setting history) e) f =
              sent_by setting (chronicle setting history) (reference_of e) (act_by setting (chronicle setting history) e) f here in
              let own : f.message.epoch ≡ epoch_now (after sent.past sent.call) = (sends_own sent.past sent.call f.message sent.effect).1 in
              let up : IsCalled (chronicle setting history) e sent.device =
              called_is_up setting (chronicle setting history) sent.device sent.call e clean.is.1 sent.act_is in
              subst (λ x. is_new (chronicle setting (e ∷ history)) x ≡ true) (sym (ap (λ (g : Flight). g.sender) sent.over.is))
              (new_by_past setting (e ∷ history) sent.device
              (record {
                past = after sent.past sent.call;
                up = ap (λ o. map_or o (is_up (seen_of (chronicle setting history)) sent.device) (λ told. told)) up.stays ∙ up.up;
                there =
                    ap (λ a. past_after a sent.device (past_in (chronicle setting history) sent.device)) sent.act_is
                    ∙ ap (λ b. if b then option_map (λ q. after q sent.call) (past_in (chronicle setting history) sent.device) else past_in
                    (chronicle setting history) sent.device) (eq-eqb sent.device sent.device refl)
                    ∙ ap (option_map (λ q. after q sent.call)) sent.there;
                epoch = sym own ∙ epoch;
              }))
          | inr before ↦
              new_stays setting e history clean open_ f.sender
              (rest before (epoch ∙ ap (λ n. n + 1) (era_kept (next_step setting (chronicle setting history) e) (chronicle setting history) open_)))
        ]
