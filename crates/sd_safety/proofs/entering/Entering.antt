-- 18: at an event later than A + H * D after the commit each member of the staged plan is new. It accepted a message of that plan, and stays new.
use Rattle.std.specs.Prelude.{◌≡◌, ℕ, ◌+◌, ◌*◌, ◌<◌, ◌≤◌, Bool, true, false, ◌&&◌, List, [], ◌∷◌, length, nat_lt, Some, refl}
use Rattle.std.proofs.Common.{arith, sym, ◌∙◌, ap, subst}
use Rattle.std.proofs.lemmas.Bool.{and_parts, eqb-true, ltb-true}
use Rattle.std.proofs.Math.Nat.{le_antisymm}
use Rattle.sd_num.specs.Lists.{map_or}
use Rattle.sd_plan.specs.Plans.{is_root}
use Rattle.sd_device.specs.declared.msg.Stamp.{Stamp}
use Rattle.sd_device.specs.Calls.{Call, Receive, Past}
use Rattle.sd_device.specs.Words.{after as past_after_, epoch_now}
use Rattle.sd_sched.specs.declared.Event.{Event}
use Rattle.sd_sched.specs.Events.{reference_of}
use Rattle.sd_history.specs.World.{Setting, is_up, has_commit, staged_epoch, is_staged_member}
use Rattle.sd_history.specs.Steps.{Step, seen_of}
use Rattle.sd_history.specs.Chronicle.{past_in, chronicle, next_step}
use Rattle.sd_safety.specs.invariant.Bounds.{depth, delay, rounds_gap}
use Rattle.sd_safety.specs.invariant.Eras.{era, will_belong, is_new}
use Rattle.sd_safety.specs.invariant.Clauses.{commit_at}
use Rattle.sd_safety.specs.invariant.Invariant.{Invariant, AtEach}
use Rattle.sd_safety.specs.invariant.Guarded.{AreGuarded, IsSteady}
use Rattle.sd_safety.specs.invariant.Coming.{AtNext}
use Rattle.sd_safety.specs.invariant.Silences.{EntersSoon}
use Rattle.sd_safety.proofs.invariant.Opening.{gives}
use Rattle.sd_safety.proofs.invariant.Prefix.{clean_before}
use Rattle.sd_safety.specs.messages.Moments.{Tail, whole, behind, Moment, upto, IsIn}
use Rattle.sd_safety.specs.messages.Rounds.{Hears}
use Rattle.sd_safety.proofs.messages.Sending.{passes_on}
use Rattle.sd_safety.proofs.messages.Consecutive.{past_after_call}
use Rattle.sd_safety.specs.silences.Feeds.{IsFed}
use Rattle.sd_safety.proofs.silences.Phases.{era_grows, open_at}
use Rattle.sd_safety.proofs.silences.SoundWays.{top_of}
use Rattle.sd_safety.specs.windows.Reaching.{reach, reach_of}
use Rattle.sd_safety.proofs.windows.Committing.{staged_plan}
use Rattle.sd_safety.proofs.windows.NoneBeforeCommit.{within}
use Rattle.sd_safety.proofs.windows.Senders.{NewPast, new_by_past, new_stays, IsCalled, called_is_up}
use Rattle.sd_safety.specs.entering.After.{IsAfter}
use Rattle.sd_safety.proofs.entering.Stages.{Stage, stage}
use Rattle.sd_safety.proofs.entering.States as states
use Rattle.sd_safety.proofs.entering.Fed.{fed}

-- who is of the plan after n is of the staged one, where the era is n at most
pub reached_from : (c : Bool) (m n : ℕ) → m ≤ n → n + 1 ≤ reach_of c m → (c ≡ true) × (n ≤ m)
reached_from true m n grows le = (refl, omega (arith, le))
reached_from false m n grows le = absurd (omega (arith, grows, le))

-- a new device stays new for the era
pub new_on : (setting : Setting) (older : List Step) (d : ℕ) (history : List Event) → IsSteady setting history → Tail older (chronicle setting history)
    → era (chronicle setting history) ≤ era older → is_new older d ≡ true → is_new (chronicle setting history) d ≡ true
new_on setting _ d [] clean whole le new = new
new_on setting _ d (e ∷ history) clean whole le new = new
new_on setting older d (e ∷ history) clean (behind t) le new =
    let steps : List Step = chronicle setting history in
    let s : Step = next_step setting steps e in
    let before_ : era older ≤ era steps = era_grows older steps t in
    let next : era steps ≤ era (s ∷ steps) = era_grows steps (s ∷ steps) (behind whole) in
    new_stays setting e history clean (open_at s steps (omega (arith, le, before_))) d
    (new_on setting older d history (clean_before setting e history clean) t (omega (arith, le, next)) new)

-- a device that is up after a moment, with a past of the plan after the era's, is new: so it was then, since no device is of a later plan than the staged one
pub new_from : (setting : Setting) (history : List Event) → AreGuarded setting → IsSteady setting history → AtEach (Invariant setting) (chronicle setting history)
    → (q : Moment) → IsIn q (chronicle setting history) → (d : ℕ) (past : Past)
    → is_up (seen_of (upto q)) d ≡ true → past_in (upto q) d ≡ Some past → epoch_now past ≡ era (chronicle setting history) + 1
    → is_new (chronicle setting history) d ≡ true
new_from setting [] fair clean each q here d past up there epoch = elim here [ ]
new_from setting (x ∷ h) fair clean each q here d past up there epoch =
    let steps : List Step = chronicle setting (x ∷ h) in
    let st : Stage setting q = stage setting fair q h x clean each.0 here in
    let after_ : List Step = chronicle setting (st.e ∷ st.h) in
    let is : upto q ≡ after_ = ap upto st.is in
    let there' : past_in after_ d ≡ Some past = subst (λ l. past_in l d ≡ Some past) is there in
    let tail : Tail after_ steps = subst (λ l. Tail l steps) is here in
    let grows : era after_ ≤ era steps = era_grows after_ steps tail in
    let le : epoch_now past ≤ reach after_ = (within setting (st.e ∷ st.h) st.comes.clean.is).epochs d past there' in
    let far = reached_from (has_commit (seen_of after_)) (era after_) (era steps) grows (subst (λ n. n ≤ reach after_) epoch le) in
    let least = far.1 in
    let own : NewPast after_ d =
    record { past = past; up = subst (λ l. is_up (seen_of l) d ≡ true) is up; there = there'; epoch = epoch ∙ ap (λ n. n + 1) (le_antisymm least grows) } in
    new_on setting after_ d (x ∷ h) clean tail least (new_by_past setting (st.e ∷ st.h) d own)

-- a device that accepted a message of the plan after the era's is new
pub hearer_new : (setting : Setting) (history : List Event) → AreGuarded setting → IsSteady setting history → AtEach (Invariant setting) (chronicle setting history)
    → (q : Moment) → IsIn q (chronicle setting history) → (stamp : Stamp) (d link : ℕ)
    → Hears stamp (era (chronicle setting history) + 1) q d link → is_new (chronicle setting history) d ≡ true
hearer_new setting [] fair clean each q here stamp d link hears = elim here [ ]
hearer_new setting (x ∷ h) fair clean each q here stamp d link hears =
    let takes = hears.takes in
    let call : Call = Receive link hears.message hears.counter in
    let st : Stage setting q = stage setting fair q h x clean each.0 here in
    let there : past_in (upto q) d ≡ Some (past_after_ takes.past call) = past_after_call q d call takes.past hears.act takes.there in
    let epoch : epoch_now (past_after_ takes.past call) ≡ era (chronicle setting (x ∷ h)) + 1 =
    (passes_on takes.past link hears.message hears.counter takes.edge takes.over).1 ∙ hears.epoch_is in
    let called : IsCalled (chronicle setting st.h) st.e d =
    called_is_up setting (chronicle setting st.h) d call st.e st.comes.clean.is.1 (sym (ap (λ (p : Moment). p.step.act) st.is) ∙ hears.act) in
    let up : is_up (seen_of (chronicle setting (st.e ∷ st.h))) d ≡ true =
    ap (λ o. map_or o (is_up (seen_of (chronicle setting st.h)) d) (λ told. told)) called.stays ∙ called.up in
    new_from setting (x ∷ h) fair clean each q here d (past_after_ takes.past call)
    (subst (λ (p : Moment). is_up (seen_of (upto p)) d ≡ true) (sym st.is) up) there epoch

module _ (setting : Setting) (history : List Event) (e : Event) (s0 : ℕ) (after : IsAfter setting history e s0) where
  -- who was fed is new
  fed_is_new : (d : ℕ) → IsFed (top_of setting history e) s0 (staged_epoch (seen_of (chronicle setting history))) d
      → is_new (chronicle setting history) d ≡ true
  fed_is_new d fed_ =
      hearer_new setting history after.comes.fair (clean_before setting e history after.comes.clean) after.comes.before fed_.moment fed_.is_in fed_.stamp d
      fed_.link fed_.hears

  -- a member of the staged plan, later than A + H * D
  member_new : (d : ℕ) → will_belong setting (chronicle setting history) d ≡ true
      → s0 + rounds_gap setting.net + depth setting.net * delay setting.net < reference_of e → (b : Bool)
      → is_root (staged_plan setting (chronicle setting history)) d ≡ b
      → is_new (chronicle setting history) d ≡ true
  member_new d will less true root =
      subst (λ z. is_new (chronicle setting history) z ≡ true)
      (states.root_is setting history e after.comes after.commit ∙ eqb-true (staged_plan setting (chronicle setting history)).root d root)
      (states.root_new setting history e after.comes after.commit)
  member_new d will less false other =
      let parts = and_parts (nat_lt d (length setting.net.devices)) (is_staged_member setting (seen_of (chronicle setting history)) d) will in
      fed_is_new d
      (fed setting history e s0 after d (ltb-true d (length setting.net.devices) parts.0)
      (states.staged_member setting history e after.comes after.commit d ∙ parts.1) other less)

  pub enters : (d : ℕ) → will_belong setting (chronicle setting history) d ≡ true
      → s0 + rounds_gap setting.net + depth setting.net * delay setting.net < reference_of e → is_new (chronicle setting history) d ≡ true
  enters d will less = member_new d will less (is_root (staged_plan setting (chronicle setting history)) d) refl

pub members_enter : (setting : Setting) → AtNext EntersSoon setting
members_enter setting history e comes d =
    let steps : List Step = chronicle setting history in
    let late = nat_lt (commit_at steps + rounds_gap setting.net + depth setting.net * delay setting.net) (reference_of e) in
    gives (has_commit (seen_of steps) && will_belong setting steps d && late) (is_new steps d)
    (λ all.
    let one = and_parts (has_commit (seen_of steps) && will_belong setting steps d) late all in
    let two = and_parts (has_commit (seen_of steps)) (will_belong setting steps d) one.0 in
    enters setting history e (commit_at steps) (record { comes = comes; commit = two.0; late = omega arith }) d two.1
    (ltb-true (commit_at steps + rounds_gap setting.net + depth setting.net * delay setting.net) (reference_of e) one.1))
