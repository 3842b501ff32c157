-- A call that enters nothing, moves nobody and takes nothing over turns nothing: so after a quiet tick, an emission, a fix, a give, a seal, and a receipt
-- that enters nothing, the state is alike at each device. But for a give and a seal the device also answers what it answered.
use Rattle.std.specs.Prelude.{◌≡◌, ℕ, Bool, true, false, List, ◌∷◌, nat_eq, Option, Some, None, is_some, option_map, option_and_then, refl, if◌then◌else◌}
use Rattle.std.proofs.Common.{◌∙◌, ap, sym, subst}
use Rattle.std.proofs.lemmas.Bool.{eqb-true}
use Rattle.sd_num.specs.Lists.{map_or}
use Rattle.sd_plan.specs.declared.topo.Thing.TheVariants as thing
use Rattle.sd_plan.specs.declared.Duty.{Duty}
use Rattle.sd_plan.specs.declared.Edge.{Edge}
use Rattle.sd_device.specs.declared.msg.Message.{Message}
use Rattle.sd_device.specs.Calls as calls
use Rattle.sd_device.specs.Calls.{Call, Past}
use Rattle.sd_device.specs.Words.{after, transition_of, has_moved, is_acting, parent_now, epoch_now, given_now}
use Rattle.sd_sched.specs.declared.Event.{Event}
use Rattle.sd_history.specs.World.{Setting, makes, fails, is_up}
use Rattle.sd_history.specs.Steps.{Calls, Answers, seen_of, act_by, live_answers, given_in}
use Rattle.sd_history.specs.Chronicle.{answers_by, past_in, past_after, next_step, chronicle}
use Rattle.sd_device.proofs.Reached.{added}
use Rattle.sd_safety.specs.invariant.Eras.{live_past}
use Rattle.sd_safety.proofs.invariant.Parents.{live_is}
use Rattle.sd_safety.specs.frame.Frames.{IsAlikeAt}
use Rattle.sd_safety.proofs.frame.PlainSteps.{untouched_kept}

-- the call turns nothing: the device follows the same plan and parent, acts as it did, and stands where it stood
pub record TurnsNothing (past : Past) (call : Call) : Type 0 where
  pub parent : parent_now (after past call) ≡ parent_now past
  pub acts : is_acting (after past call) ≡ is_acting past
  pub epoch : epoch_now (after past call) ≡ epoch_now past
  pub stands : has_moved (after past call) ≡ has_moved past

-- the call changes nothing of what the device answers, nor whether it moved
pub record IsIdle (past : Past) (call : Call) : Type 0 where
  pub answers : answers_by (after past call) ≡ answers_by past
  pub stands : has_moved (after past call) ≡ has_moved past

pub idle_turns_nothing : {past : Past} {call : Call} → IsIdle past call → TurnsNothing past call
idle_turns_nothing {past} {call} idle =
    record {
      parent = ap (λ (a : Answers). a.parent) idle.answers;
      acts = ap (λ (a : Answers). a.acts) idle.answers;
      epoch = ap (λ (a : Answers). a.epoch) idle.answers;
      stands = idle.stands;
    }

-- a give and a seal turn nothing
pub give_turns_nothing : (past : Past) (duty : Duty) → TurnsNothing past (calls.Give duty)
give_turns_nothing past duty = record { parent = refl; acts = refl; epoch = refl; stands = refl }

pub seal_turns_nothing : (past : Past) → TurnsNothing past calls.Seal
seal_turns_nothing past = record { parent = refl; acts = refl; epoch = refl; stands = refl }

pub idle_tick : (past : Past) (c : ℕ) → transition_of past (calls.Tick c) ≡ calls.Nothing → IsIdle past (calls.Tick c)
idle_tick past c is =
    record {
      answers = ap (λ transition. answers_by (added past (calls.Tick c) transition)) is;
      stands = ap (λ transition. has_moved (added past (calls.Tick c) transition)) is;
    }

pub idle_emission : (past : Past) (c : ℕ) → transition_of past (calls.Tick c) ≡ calls.Emitted → IsIdle past (calls.Tick c)
idle_emission past c is =
    record {
      answers = ap (λ transition. answers_by (added past (calls.Tick c) transition)) is;
      stands = ap (λ transition. has_moved (added past (calls.Tick c) transition)) is;
    }

pub idle_fix : (past : Past) (c clock eps : ℕ) → IsIdle past (calls.Fix c clock eps)
idle_fix past c clock eps = record { answers = refl; stands = refl }

-- a receipt that is refused, or accepted from the parent
pub idle_receipt : (past : Past) (link : ℕ) (m : Message) (c : ℕ) → transition_of past (calls.Receive link m c) ≡ calls.Nothing
    → IsIdle past (calls.Receive link m c)
idle_receipt past link m c is =
    record {
      answers = ap (λ transition. answers_by (added past (calls.Receive link m c) transition)) is;
      stands = ap (λ transition. has_moved (added past (calls.Receive link m c) transition)) is;
    }

pub idle_accepted : (past : Past) (link : ℕ) (m : Message) (c : ℕ) (edge : Edge) → transition_of past (calls.Receive link m c) ≡ calls.Accepted edge
    → IsIdle past (calls.Receive link m c)
idle_accepted past link m c edge is =
    record {
      answers = ap (λ transition. answers_by (added past (calls.Receive link m c) transition)) is;
      stands = ap (λ transition. has_moved (added past (calls.Receive link m c) transition)) is;
    }

module _ (setting : Setting) (e : Event) (history : List Event) (d : ℕ) (call : Call) (named : act_by setting (chronicle setting history) e ≡ Calls d call)
    (unmade : (x : ℕ) → makes x e ≡ false) (unfailed : (x : ℕ) → fails (thing.Device x) e ≡ false)
  where
    up_called : (x : ℕ) → is_up (seen_of (chronicle setting (e ∷ history))) x ≡ is_up (seen_of (chronicle setting history)) x
    up_called x =
        ap (λ b. map_or (if b then Some true else if fails (thing.Device x) e then Some false else None) (is_up (seen_of (chronicle setting history)) x)
        (λ told. told)) (unmade x)
        ∙ ap (λ b. map_or (if b then Some false else None) (is_up (seen_of (chronicle setting history)) x) (λ told. told)) (unfailed x)

    past_called : (x : ℕ)
        → past_in (chronicle setting (e ∷ history)) x
        ≡ (if nat_eq d x then option_map (λ p. after p call) (past_in (chronicle setting history) x) else past_in (chronicle setting history) x)
    past_called x = ap (λ a. past_after a x (past_in (chronicle setting history) x)) named

    live_called : (x : ℕ) → live_past (chronicle setting (e ∷ history)) x
        ≡ (if is_up (seen_of (chronicle setting history)) x then (if nat_eq d x then option_map (λ p. after p call)
        (past_in (chronicle setting history) x) else past_in (chronicle setting history) x) else None)
    live_called x =
        ap (λ b. if b then past_in (chronicle setting (e ∷ history)) x else None) (up_called x)
        ∙ ap (λ p. if is_up (seen_of (chronicle setting history)) x then p else None) (past_called x)

    -- each word on a live device that the call leaves alone
    same_by : {B : Type 0} (word : Past → B) (default : B) (u : Bool) (x : ℕ) (b : Bool) (p : Option Past) → nat_eq d x ≡ b
        → past_in (chronicle setting history) x ≡ p
        → ((past : Past) → past_in (chronicle setting history) d ≡ Some past → word (after past call) ≡ word past)
        → map_or (if u then (if b then option_map (λ q. after q call) p else p) else None) default word ≡ map_or (if u then p else None) default word
    same_by word default false x b p same is keeps = refl
    same_by word default true x false p same is keeps = refl
    same_by word default true x true None same is keeps = refl
    same_by word default true x true (Some past) same is keeps =
        keeps past (subst (λ y. past_in (chronicle setting history) y ≡ Some past) (sym (eqb-true d x same)) is)

    word_called : {B : Type 0} (word : Past → B) (default : B) (x : ℕ)
        → ((past : Past) → past_in (chronicle setting history) d ≡ Some past → word (after past call) ≡ word past)
        → map_or (live_past (chronicle setting (e ∷ history)) x) default word ≡ map_or (live_past (chronicle setting history) x) default word
    word_called word default x keeps =
        ap (λ p. map_or p default word) (live_called x)
        ∙ same_by word default (is_up (seen_of (chronicle setting history)) x) x (nat_eq d x) (past_in (chronicle setting history) x) refl refl keeps

    word_of : {B : Type 0} (word : Answers → B) (default : B) → (x : ℕ)
        → ((past : Past) → past_in (chronicle setting history) d ≡ Some past → word (answers_by (after past call)) ≡ word (answers_by past))
        → map_or (live_answers (chronicle setting (e ∷ history)) x) default word ≡ map_or (live_answers (chronicle setting history) x) default word
    word_of word default x keeps =
        ap (λ o. map_or o default word) (live_is setting (e ∷ history) x) ∙ told_of word default (live_past (chronicle setting (e ∷ history)) x)
        ∙ word_called (λ p. word (answers_by p)) default x keeps
        ∙ sym (told_of word default (live_past (chronicle setting history) x)) ∙ sym (ap (λ o. map_or o default word) (live_is setting history x))
      where
        told_of : {C : Type 0} (say : Answers → C) (none : C) (o : Option Past)
            → map_or (option_map answers_by o) none say ≡ map_or o none (λ p. say (answers_by p))
        told_of say none None = refl
        told_of say none (Some p) = refl

    itself : (o : Option Answers) → map_or o None Some ≡ o
    itself None = refl
    itself (Some a) = refl

    within : {B : Type 0} (word : Answers → Option B) (o : Option Answers) → map_or o None word ≡ option_and_then word o
    within word None = refl
    within word (Some a) = refl

    told : {B : Type 0} (word : Answers → B) (o : Option Answers) → map_or o None (λ a. Some (word a)) ≡ option_map word o
    told word None = refl
    told word (Some a) = refl

    there : (o : Option Past) → map_or o false (λ p. true) ≡ is_some o
    there None = refl
    there (Some p) = refl

    pub answers_called : ((past : Past) → past_in (chronicle setting history) d ≡ Some past → IsIdle past call) → (x : ℕ)
        → live_answers (chronicle setting (e ∷ history)) x ≡ live_answers (chronicle setting history) x
    answers_called idle x =
        sym (itself (live_answers (chronicle setting (e ∷ history)) x)) ∙ word_of Some None x (λ past is. ap Some (idle past is).answers)
        ∙ itself (live_answers (chronicle setting history) x)

    pub given_called : ((past : Past) → past_in (chronicle setting history) d ≡ Some past → given_now (after past call) ≡ given_now past) → (x : ℕ)
        → given_in (chronicle setting (e ∷ history)) x ≡ given_in (chronicle setting history) x
    given_called keeps x =
        sym (within (λ (a : Answers). option_map (λ duty. duty.epoch) a.given) (live_answers (chronicle setting (e ∷ history)) x))
        ∙ word_of (λ a. option_map (λ duty. duty.epoch) a.given) None x (λ past is. ap (option_map (λ duty. duty.epoch)) (keeps past is))
        ∙ within (λ (a : Answers). option_map (λ duty. duty.epoch) a.given) (live_answers (chronicle setting history) x)

    pub alike_called : ((past : Past) → past_in (chronicle setting history) d ≡ Some past → TurnsNothing past call) → (x : ℕ)
        → IsAlikeAt (chronicle setting history) (chronicle setting (e ∷ history)) x
    alike_called still x =
        record {
          up_is = up_called x;
          untouched_is = untouched_kept (chronicle setting history) (next_step setting (chronicle setting history) e) x (unmade x) (unfailed x);
          parent_is =
              sym (within (λ (a : Answers). a.parent) (live_answers (chronicle setting (e ∷ history)) x))
              ∙ word_of (λ a. a.parent) None x (λ past is. (still past is).parent)
              ∙ within (λ (a : Answers). a.parent) (live_answers (chronicle setting history) x);
          acts_is = word_of (λ a. a.acts) false x (λ past is. (still past is).acts);
          epoch_is =
              sym (told (λ (a : Answers). a.epoch) (live_answers (chronicle setting (e ∷ history)) x))
              ∙ word_of (λ a. Some a.epoch) None x (λ past is. ap Some (still past is).epoch)
              ∙ told (λ (a : Answers). a.epoch) (live_answers (chronicle setting history) x);
          there_is = sym (there (live_past (chronicle setting (e ∷ history)) x)) ∙ word_called (λ p. true) false x (λ past is. refl)
              ∙ there (live_past (chronicle setting history) x);
          moved_is = word_called has_moved false x (λ past is. (still past is).stands);
        }
