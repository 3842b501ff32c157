-- 18: a new device other than the staged root is silent for at most A + H * D. It last heard a message of the staged plan, so not before the commit; and it is
-- fed from then on.
use Rattle.std.specs.Prelude.{◌≡◌, ℕ, ◌+◌, ◌-◌, ◌*◌, ◌<◌, ◌≤◌, Bool, true, false, ◌&&◌, not, List, [], ◌∷◌, nat_eq, Some, is_some, refl, ◌⊎◌}
use Rattle.std.proofs.Common.{arith, sym, ◌∙◌, ap, subst, inl, inr}
use Rattle.std.proofs.lemmas.Bool.{and_parts, and_from, cases_lt, eqb-true, eq-eqb, false_from_ne_true}
use Rattle.sd_num.specs.Lists.{map_or}
use Rattle.sd_plan.specs.Plans.{is_root}
use Rattle.sd_device.specs.Calls.{Call, Receive, Past}
use Rattle.sd_device.specs.Words.{after as past_after_, is_acting, epoch_now}
use Rattle.sd_sched.specs.declared.Event.{Event}
use Rattle.sd_sched.specs.Events.{reference_of}
use Rattle.sd_history.specs.World.{Setting, has_commit, staged_epoch}
use Rattle.sd_history.specs.Steps.{Step, seen_of, acts_in, parent_in}
use Rattle.sd_history.specs.Chronicle.{past_in, chronicle}
use Rattle.sd_history.proofs.Known.{admitted_up_is_known}
use Rattle.sd_safety.specs.invariant.Bounds.{depth, delay, rounds_gap}
use Rattle.sd_safety.specs.invariant.Eras.{era, is_new, on_primary, moved, live_past, heard_at, silent_for}
use Rattle.sd_safety.specs.invariant.Clauses.{commit_at, staged_root}
use Rattle.sd_safety.specs.invariant.Invariant.{Core, Invariant, AtEach}
use Rattle.sd_safety.specs.invariant.Guarded.{IsSteady}
use Rattle.sd_safety.specs.invariant.Coming.{IsNextEvent, AtNext}
use Rattle.sd_safety.specs.invariant.Silences.{NewHears}
use Rattle.sd_safety.proofs.invariant.Prefix.{clean_before}
use Rattle.sd_safety.proofs.invariant.Sides.{implied, not_both}
use Rattle.sd_safety.specs.messages.Moments.{Tail, Moment, upto, when, IsIn}
use Rattle.sd_safety.proofs.messages.Tails.{history_chronicle}
use Rattle.sd_safety.proofs.messages.Sending.{passes_on}
use Rattle.sd_safety.proofs.messages.Consecutive.{past_after_call}
use Rattle.sd_safety.specs.silences.Feeds.{IsFed}
use Rattle.sd_safety.proofs.silences.Hearing.{fed_heard}
use Rattle.sd_safety.proofs.silences.Phases.{era_grows}
use Rattle.sd_safety.proofs.silences.SoundWays.{top_of}
use Rattle.sd_safety.specs.windows.Reaching.{reach}
use Rattle.sd_safety.proofs.windows.Committing.{staged_plan}
use Rattle.sd_safety.proofs.windows.NoneBeforeCommit.{within, epoch_within}
use Rattle.sd_safety.proofs.windows.StaysNew.{reached}
use Rattle.sd_safety.proofs.windows.Senders.{NewPast, new_past_of}
use Rattle.sd_safety.proofs.receipts.Hearings.{IsHeard, heard_in_plan}
use Rattle.sd_safety.proofs.receipts.Members.{new_is_member}
use Rattle.sd_safety.proofs.receipts.Stood.{core_of, acts_is}
use Rattle.sd_safety.specs.entering.After.{IsAfter}
use Rattle.sd_safety.proofs.entering.AfterCommit.{commit_no_later, commit_at_stays}
use Rattle.sd_safety.proofs.entering.Stages.{Stage, stage}
use Rattle.sd_safety.proofs.entering.States as states
use Rattle.sd_safety.proofs.entering.Fed.{fed}
use Rattle.sd_safety.proofs.entering.Entering.{reached_from}

-- on its primary a device does not act
pub idle_by : (some moved_ acts : Bool) → (some && not moved_ && not acts) ≡ true → acts ≡ false
idle_by true false false on = refl
idle_by true false true on = cc
idle_by true true acts on = cc
idle_by false moved_ acts on = cc

silent_by : (r h a b : ℕ) → r ≤ h + a + b → r - h ≤ a + b
silent_by r h a b le = omega (arith, le)

module _ (setting : Setting) (history : List Event) (e : Event) (comes : IsNextEvent setting history e) (d : ℕ) (new : is_new (chronicle setting history) d ≡ true)
    (other : nat_eq d (staged_root setting (chronicle setting history)) ≡ false) where
  abbrev steps : List Step
  steps = chronicle setting history

  clean : IsSteady setting history
  clean = clean_before setting e history comes.clean

  core : Core setting (chronicle setting history)
  core = core_of setting history comes.before

  own : NewPast (chronicle setting history) d
  own = new_past_of setting history d new

  commit : has_commit (seen_of (chronicle setting history)) ≡ true
  commit = reached (has_commit (seen_of steps)) (era steps) (epoch_within setting history comes.clean.is.0 d (staged_epoch (seen_of steps)) new)

  idle : is_acting own.past ≡ false
  idle =
      let linked =
      implied (is_new steps d && not (nat_eq d (staged_root setting steps))) _ (core.committed.linked d)
      (and_from (is_new steps d) (not (nat_eq d (staged_root setting steps))) new (ap not other)) in
      let primary = (and_parts (on_primary steps d) _ (and_parts (on_primary steps d && map_or (parent_in steps d) false (is_new steps)) _ linked).0).0 in
      sym (acts_is setting history d own.past own.up own.there) ∙ idle_by (is_some (live_past steps d)) (moved steps d) (acts_in steps d) primary

  -- it last heard after the commit
  pub heard_late : commit_at (chronicle setting history) ≤ heard_at (chronicle setting history) d
  heard_late =
      let heard : IsHeard setting history d (era steps + 1) =
      heard_in_plan setting history comes.clean.is.0 d own.past own.there (era steps + 1) own.epoch (omega arith) idle in
      let q : Moment = heard.moment in
      let call : Call = Receive heard.link heard.message heard.counter in
      let there : past_in (upto q) d ≡ Some (past_after_ heard.past call) = past_after_call q d call heard.past heard.act heard.there in
      let epoch : epoch_now (past_after_ heard.past call) ≡ era steps + 1 =
      (passes_on heard.past heard.link heard.message heard.counter heard.edge heard.over).1 ∙ heard.epoch in
      at q heard.inside heard.time (past_after_ heard.past call) there epoch
    where
      at : (q : Moment) → IsIn q (chronicle setting history) → heard_at (chronicle setting history) d ≡ when q → (past : Past) → past_in (upto q) d ≡ Some past
          → epoch_now past ≡ era (chronicle setting history) + 1
          → commit_at (chronicle setting history) ≤ heard_at (chronicle setting history) d
      at q inside time past there epoch = by history clean comes.before inside
        where
          by : (hs : List Event) → IsSteady setting hs → AtEach (Invariant setting) (chronicle setting hs) → IsIn q (chronicle setting hs)
              → commit_at (chronicle setting history) ≤ heard_at (chronicle setting history) d
          by [] clean' each here = elim here [ ]
          by (x ∷ hs) clean' each here =
              let st : Stage setting q = stage setting comes.fair q hs x clean' each.0 here in
              let after_ : List Step = chronicle setting (st.e ∷ st.h) in
              let is : upto q ≡ after_ = ap upto st.is in
              let le : epoch_now past ≤ reach after_ =
              (within setting (st.e ∷ st.h) st.comes.clean.is).epochs d past (subst (λ l. past_in l d ≡ Some past) is there) in
              let tail : Tail after_ steps = subst (λ l. Tail l steps) is inside in
              let grows : era after_ ≤ era steps = era_grows after_ steps tail in
              let far = reached_from (has_commit (seen_of after_)) (era after_) (era steps) grows (subst (λ n. n ≤ reach after_) epoch le) in
              let same : commit_at steps ≡ commit_at after_ = commit_at_stays setting after_ history clean tail far.1 far.0 in
              let no_later : commit_at after_ ≤ reference_of st.e =
              commit_no_later setting after_ (history_chronicle setting (st.e ∷ st.h) st.comes.clean.is) in
              let at_ : when q ≡ reference_of st.e = ap when st.is in
              omega (arith, same, no_later, at_, time)

  pub hears_soon : silent_for (chronicle setting history) d (reference_of e) ≤ rounds_gap setting.net + depth setting.net * delay setting.net
  hears_soon =
      silent_by (reference_of e) (heard_at steps d) (rounds_gap setting.net) (depth setting.net * delay setting.net)
      (by (cases_lt (heard_at steps d + rounds_gap setting.net + depth setting.net * delay setting.net) (reference_of e)))
    where
      after_heard : IsAfter setting history e (heard_at (chronicle setting history) d)
      after_heard = record { comes = comes; commit = commit; late = heard_late }

      not_root : is_root (staged_plan setting (chronicle setting history)) d ≡ false
      not_root =
          false_from_ne_true (is_root (staged_plan setting steps) d)
          (λ is. not_both (nat_eq d (staged_root setting steps))
          (eq-eqb d (staged_root setting steps) (sym (states.root_is setting history e comes commit ∙ eqb-true (staged_plan setting steps).root d is)))
          other)

      by : (heard_at (chronicle setting history) d + rounds_gap setting.net + depth setting.net * delay setting.net < reference_of e)
          ⊎ (reference_of e ≤ heard_at (chronicle setting history) d + rounds_gap setting.net + depth setting.net * delay setting.net)
          → reference_of e ≤ heard_at (chronicle setting history) d + rounds_gap setting.net + depth setting.net * delay setting.net
      by (inr le) = le
      by (inl less) =
          let f : IsFed (top_of setting history e) (heard_at steps d) (staged_epoch (seen_of steps)) d =
          fed setting history e (heard_at steps d) after_heard d (admitted_up_is_known setting history comes.clean.is.0 d own.up)
          (states.staged_member setting history e comes commit d ∙ new_is_member setting history comes.fair clean comes.before d new) not_root less in
          let late : heard_at steps d < heard_at steps d =
          fed_heard setting (top_of setting history e) (heard_at steps d) (staged_epoch (seen_of steps)) d
          (history_chronicle setting (e ∷ history) comes.clean.is) f in
          absurd (omega (arith, late))

pub new_hears : (setting : Setting) → AtNext NewHears setting
new_hears setting history e comes d new other = hears_soon setting history e comes d new other
