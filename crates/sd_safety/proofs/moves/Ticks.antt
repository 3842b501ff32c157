-- What a tick that takes up nothing leaves alone: plans, failures, links and windows, and of each device its plan, its given duty, its seal and when it
-- heard; of the others all. And the window does not close with it. By computing on the step, where the window does not close.
use Rattle.std.specs.Prelude.{◌≡◌, ℕ, Bool, true, false, ◌&&◌, ◌||◌, not, List, [], ◌∷◌, length, filter, nat_eq, nat_le, Option, Some, None, is_some, option_map, option_and_then, refl, if◌then◌else◌}
use Rattle.std.specs.List.{list_any, list_all}
use Rattle.std.proofs.Common.{◌∙◌, ap, sym, subst}
use Rattle.std.proofs.lemmas.Bool.{eqb-true, eq-eqb}
use Rattle.sd_num.specs.Lists.{map_or, find_map_or, same_number}
use Rattle.sd_plan.specs.declared.Plan.{Plan}
use Rattle.sd_plan.specs.Plans.{members, is_member}
use Rattle.sd_plan.specs.declared.Duty.{Duty}
use Rattle.sd_device.specs.declared.msg.Flight.{Flight}
use Rattle.sd_device.specs.Calls as calls
use Rattle.sd_device.specs.Calls.{Transition, Entered, Committed, Recommitted, Past}
use Rattle.sd_device.specs.Words.{transition_of, after, taken_up, epoch_now, given_now, is_sealed, is_acting, has_moved, accepted_over}
use Rattle.sd_device.proofs.Reached.{added}
use Rattle.sd_sched.specs.declared.Event.TheVariants as event
use Rattle.sd_sched.specs.Events.{reference_of, is_commit, joined}
use Rattle.sd_history.specs.World.{Setting, Seen, is_up, window, has_commit, staged, staged_epoch, is_staged_member, joined_in_window, is_counted, plan_numbered}
use Rattle.sd_history.specs.Steps.{Calls, Answers, Told, Step, seen_of, answers_in, live_answers, acts_in, epoch_in, given_in, has_settled, can_close}
use Rattle.sd_history.specs.Chronicle.{answers_by, past_in}
use Rattle.sd_safety.specs.invariant.Eras.{era, plan_now, live_past, moved, on_primary, is_old, is_new, is_blank, hears, heard_at}
use Rattle.sd_safety.specs.invariant.Clauses.{commit_at, staged_root}

-- a tick's step
abbrev pub tick_step : ℕ → ℕ → ℕ → List Flight → Option ℕ → Bool → Told → List Flight → Bool → Step
tick_step r d c reaching activated acted told sent closed =
    record {
      seen = record { event = event.Tick r d c; taken = None; sent = reaching; activated = activated; acted = acted; closed = closed };
      act = Calls d (calls.Tick c);
      told = told;
      sent = sent;
    }

pub all_same : (f g : ℕ → Bool) → ((x : ℕ) → f x ≡ g x) → (xs : List ℕ) → list_all f xs ≡ list_all g xs
all_same f g same [] = refl
all_same f g same (x ∷ xs) = ap (λ b. b && list_all f xs) (same x) ∙ ap (λ b. g x && b) (all_same f g same xs)

kept_epoch : (p : Past) (c : ℕ) (transition : Transition) → taken_up transition ≡ None → epoch_now (added p (calls.Tick c) transition) ≡ epoch_now p
kept_epoch p c (Entered duty edge) none = cc
kept_epoch p c (Committed duty) none = cc
kept_epoch p c (Recommitted duty) none = cc
kept_epoch p c _ none = refl

kept_seal : (p : Past) (c : ℕ) (transition : Transition) → taken_up transition ≡ None → is_sealed (added p (calls.Tick c) transition) ≡ is_sealed p
kept_seal p c (Entered duty edge) none = cc
kept_seal p c (Committed duty) none = cc
kept_seal p c (Recommitted duty) none = cc
kept_seal p c _ none = refl

kept_given : (p : Past) (c : ℕ) (transition : Transition) → taken_up transition ≡ None → given_now (added p (calls.Tick c) transition) ≡ given_now p
kept_given p c (Entered duty edge) none = cc
kept_given p c (Committed duty) none = cc
kept_given p c (Recommitted duty) none = cc
kept_given p c _ none = refl

module _ (setting : Setting) (steps : List Step) (r d c : ℕ) (reaching : List Flight) (activated : Option ℕ) (acted : Bool) (told : Told) (sent : List Flight)
    (p : Past) (transition : Transition) where
  abbrev pub now : List Step
  now = tick_step r d c reaching activated acted told sent false ∷ steps

  -- Windows

  pub commit_kept : has_commit (seen_of now) ≡ has_commit (seen_of steps)
  commit_kept = go (window (seen_of steps))
    where
      go : (w : Option (List Seen))
          → map_or (option_map (λ v. (tick_step r d c reaching activated acted told sent false).seen ∷ v) w) false (list_any (λ s. is_commit s.event))
          ≡ map_or w false (list_any (λ s. is_commit s.event))
      go None = refl
      go (Some v) = refl

  pub staged_kept : staged setting (seen_of now) ≡ staged setting (seen_of steps)
  staged_kept = go (window (seen_of steps))
    where
      go : (w : Option (List Seen))
          → option_map (λ (v : List Seen). plan_numbered setting (staged_epoch (seen_of steps)))
          (option_map (λ v. (tick_step r d c reaching activated acted told sent false).seen ∷ v) w)
          ≡ option_map (λ (v : List Seen). plan_numbered setting (staged_epoch (seen_of steps))) w
      go None = refl
      go (Some v) = refl

  pub joined_kept : (x : ℕ) → joined_in_window (seen_of now) x ≡ joined_in_window (seen_of steps) x
  joined_kept x = go (window (seen_of steps))
    where
      go : (w : Option (List Seen))
          → map_or (option_map (λ v. (tick_step r d c reaching activated acted told sent false).seen ∷ v) w) false
          (list_any (λ s. same_number (joined s.event) x)) ≡ map_or w false (list_any (λ s. same_number (joined s.event) x))
      go None = refl
      go (Some v) = refl

  pub staged_member_kept : (x : ℕ) → is_staged_member setting (seen_of now) x ≡ is_staged_member setting (seen_of steps) x
  staged_member_kept x = ap (λ (o : Option Plan). map_or o false (λ plan. is_member plan x)) staged_kept

  pub staged_root_kept : staged_root setting now ≡ staged_root setting steps
  staged_root_kept = ap (λ (o : Option Plan). map_or o 0 (λ plan. plan.root)) staged_kept

  pub counted_kept : (x : ℕ) → is_counted setting (seen_of now) x ≡ is_counted setting (seen_of steps) x
  counted_kept x = ap (λ b. is_up (seen_of steps) x && (is_member (plan_now setting steps) x || b)) (joined_kept x)

  pub commit_at_kept : commit_at now ≡ commit_at steps
  commit_at_kept = go (window (seen_of steps))
    where
      go : (w : Option (List Seen))
          → map_or (option_map (λ v. (tick_step r d c reaching activated acted told sent false).seen ∷ v) w) 0
          (λ v. find_map_or (λ s. if is_commit s.event then Some (reference_of s.event) else None) v 0)
          ≡ map_or w 0 (λ v. find_map_or (λ s. if is_commit s.event then Some (reference_of s.event) else None) v 0)
      go None = refl
      go (Some v) = refl

  -- Devices

  pub live_of_tick : (x : ℕ) → live_answers now x ≡ (if nat_eq d x then (if is_up (seen_of steps) x then told.answers else None) else live_answers steps x)
  live_of_tick x = go (nat_eq d x) (is_up (seen_of steps) x)
    where
      go : (b u : Bool)
          → (if u then map_or (if b then Some told.answers else None) (answers_in steps x) (λ o. o) else None)
          ≡ (if b then (if u then told.answers else None) else (if u then answers_in steps x else None))
      go true true = refl
      go true false = refl
      go false true = refl
      go false false = refl

  pub others_kept : (x : ℕ) → nat_eq d x ≡ false → live_answers now x ≡ live_answers steps x
  others_kept x other = live_of_tick x ∙ ap (λ b. if b then (if is_up (seen_of steps) x then told.answers else None) else live_answers steps x) other

  pub other_moved : (x : ℕ) → nat_eq d x ≡ false → moved now x ≡ moved steps x
  other_moved x other =
      ap (λ b. map_or
      (if is_up (seen_of steps) x then (if b then option_map (λ past. after past (calls.Tick c)) (past_in steps x) else past_in steps x) else None) false
      has_moved) other

  pub other_on_primary : (x : ℕ) → nat_eq d x ≡ false → on_primary now x ≡ on_primary steps x
  other_on_primary x other =
      ap (λ b. is_some
      (if is_up (seen_of steps) x then (if b then option_map (λ past. after past (calls.Tick c)) (past_in steps x) else past_in steps x) else None)
      && not (map_or
      (if is_up (seen_of steps) x then (if b then option_map (λ past. after past (calls.Tick c)) (past_in steps x) else past_in steps x) else None) false
      has_moved) && not (acts_in now x)) other
      ∙ ap (λ (o : Option Answers). is_some (live_past steps x) && not (moved steps x) && not (map_or o false (λ a. a.acts))) (others_kept x other)

  module _ (none : taken_up transition ≡ None) (live : is_up (seen_of steps) d ≡ true) (there : past_in steps d ≡ Some p)
      (answers : answers_in steps d ≡ Some (answers_by p)) (transition_is : transition_of p (calls.Tick c) ≡ transition)
      (told_is : told.answers ≡ Some (answers_by (added p (calls.Tick c) transition))) where
    pub was_answers : live_answers steps d ≡ Some (answers_by p)
    was_answers = ap (λ b. if b then answers_in steps d else None) live ∙ answers

    is_answers : (if is_up (seen_of steps) d then told.answers else None) ≡ Some (answers_by (added p (calls.Tick c) transition))
    is_answers = ap (λ b. if b then told.answers else None) live ∙ told_is

    now_answers : live_answers now d ≡ Some (answers_by (added p (calls.Tick c) transition))
    now_answers = live_of_tick d ∙ ap (λ b. if b then (if is_up (seen_of steps) d then told.answers else None) else live_answers steps d) (eq-eqb d d refl)
        ∙ is_answers

    -- a word on answers that is the same of the device is the same of all
    pub word_kept : {A : Type 0} (f : Option Answers → A) → f (Some (answers_by (added p (calls.Tick c) transition))) ≡ f (Some (answers_by p)) → (x : ℕ)
        → f (live_answers now x) ≡ f (live_answers steps x)
    word_kept f same x = go (nat_eq d x) refl
      where
        go : (b : Bool) → nat_eq d x ≡ b → f (live_answers now x) ≡ f (live_answers steps x)
        go true is = subst (λ y. f (live_answers now y) ≡ f (live_answers steps y)) (eqb-true d x is) (ap f now_answers ∙ same ∙ sym (ap f was_answers))
        go false is = ap f (others_kept x is)

    pub epoch_kept : (x : ℕ) → epoch_in now x ≡ epoch_in steps x
    epoch_kept = word_kept (λ o. option_map (λ a. a.epoch) o) (ap (λ n. Some n) (kept_epoch p c transition none))

    pub given_kept : (x : ℕ) → given_in now x ≡ given_in steps x
    given_kept =
        word_kept (λ o. option_and_then (λ a. option_map (λ duty. duty.epoch) a.given) o)
        (ap (λ (g : Option Duty). option_map (λ duty. duty.epoch) g) (kept_given p c transition none))

    pub settled_kept : (epoch x : ℕ) → has_settled now epoch x ≡ has_settled steps epoch x
    settled_kept epoch =
        word_kept (λ o. map_or o false (λ a. nat_eq a.epoch epoch && a.sealed))
        (ap (λ n. nat_eq n epoch && is_sealed (added p (calls.Tick c) transition)) (kept_epoch p c transition none)
        ∙ ap (λ b. nat_eq (epoch_now p) epoch && b) (kept_seal p c transition none))

    pub old_kept : (x : ℕ) → is_old now x ≡ is_old steps x
    old_kept x = ap (λ o. same_number o (era steps)) (epoch_kept x)

    pub new_kept : (x : ℕ) → is_new now x ≡ is_new steps x
    new_kept x = ap (λ o. same_number o (staged_epoch (seen_of steps))) (epoch_kept x)

    pub blank_kept : (x : ℕ) → is_blank now x ≡ is_blank steps x
    blank_kept x = ap (λ o. same_number o 0) (epoch_kept x)

    pub moved_now : moved now d ≡ has_moved (added p (calls.Tick c) transition)
    moved_now =
        ap (λ u. map_or (if u then (if nat_eq d d then option_map (λ past. after past (calls.Tick c)) (past_in steps d) else past_in steps d) else None) false
        has_moved) live
        ∙ ap (λ b. map_or (if b then option_map (λ past. after past (calls.Tick c)) (past_in steps d) else past_in steps d) false has_moved) (eq-eqb d d refl)
        ∙ ap (λ (o : Option Past). map_or (option_map (λ past. after past (calls.Tick c)) o) false has_moved) there
        ∙ ap (λ x. has_moved (added p (calls.Tick c) x)) transition_is

    pub moved_before : moved steps d ≡ has_moved p
    moved_before = ap (λ u. map_or (if u then past_in steps d else None) false has_moved) live ∙ ap (λ (o : Option Past). map_or o false has_moved) there

    pub acts_now : acts_in now d ≡ is_acting (added p (calls.Tick c) transition)
    acts_now = ap (λ (o : Option Answers). map_or o false (λ a. a.acts)) now_answers

    module _ (deaf : accepted_over transition ≡ None) where
      pub heard_kept : (x : ℕ) → heard_at now x ≡ heard_at steps x
      heard_kept x = go (nat_eq d x) refl
        where
          go : (b : Bool) → nat_eq d x ≡ b → heard_at now x ≡ heard_at steps x
          go true is =
              ap (λ b. if map_or
              (if b then option_map (λ past. record { call = calls.Tick c; transition = transition_of past (calls.Tick c) }) (past_in steps x) else None)
              false hears then r else heard_at steps x) is
              ∙ subst (λ y. (if map_or (option_map (λ past. record { call = calls.Tick c; transition = transition_of past (calls.Tick c) }) (past_in steps y))
              false hears then r else heard_at steps y) ≡ heard_at steps y) (eqb-true d x is)
              (ap (λ (o : Option Past). if map_or (option_map (λ past. record { call = calls.Tick c; transition = transition_of past (calls.Tick c) }) o) false
              hears then r else heard_at steps d) there
              ∙ ap (λ y. if is_some (accepted_over y) then r else heard_at steps d) transition_is ∙ ap (λ o. if is_some o then r else heard_at steps d) deaf)
          go false is =
              ap (λ b. if map_or
              (if b then option_map (λ past. record { call = calls.Tick c; transition = transition_of past (calls.Tick c) }) (past_in steps x) else None) false
              hears then r else heard_at steps x) is

    -- whether the window closes is as before
    pub closes_kept : can_close setting now ≡ can_close setting steps
    closes_kept = go (window (seen_of steps))
      where
        go : (w : Option (List Seen))
            → (map_or (option_map (λ v. (tick_step r d c reaching activated acted told sent false).seen ∷ v) w) false (list_any (λ s. is_commit s.event))
            && map_or (option_map (λ (v : List Seen). plan_numbered setting (staged_epoch (seen_of steps)))
            (option_map (λ v. (tick_step r d c reaching activated acted told sent false).seen ∷ v) w)) false (λ plan.
            let present = filter (is_up (seen_of steps)) (members setting.net plan) in
            nat_le 1 (length present) && list_all (has_settled now (staged_epoch (seen_of steps))) present))
            ≡ (map_or w false (list_any (λ s. is_commit s.event))
            && map_or (option_map (λ (v : List Seen). plan_numbered setting (staged_epoch (seen_of steps))) w) false (λ plan.
            let present = filter (is_up (seen_of steps)) (members setting.net plan) in
            nat_le 1 (length present) && list_all (has_settled steps (staged_epoch (seen_of steps))) present))
        go None = refl
        go (Some v) =
            ap (λ b. list_any (λ s. is_commit s.event) v
            && (nat_le 1 (length (filter (is_up (seen_of steps)) (members setting.net (plan_numbered setting (staged_epoch (seen_of steps)))))) && b))
            (all_same (has_settled now (staged_epoch (seen_of steps))) (has_settled steps (staged_epoch (seen_of steps)))
            (settled_kept (staged_epoch (seen_of steps)))
            (filter (is_up (seen_of steps)) (members setting.net (plan_numbered setting (staged_epoch (seen_of steps))))))
