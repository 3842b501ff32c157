-- While nothing has failed each device is on its primary, so its estimate came down its path from the root, and it hears as 13 says: the calm number.
use Rattle.std.specs.Prelude.{◌≡◌, ℕ, ◌+◌, ◌<◌, ◌≤◌, Bool, true, false, List, [], ◌∷◌, length, Some, ◌⊎◌, refl}
use Rattle.std.proofs.Common.{arith, sym, ◌∙◌, subst, inl, inr}
use Rattle.std.proofs.lemmas.Bool.{cases_lt, eqb-true}
use Rattle.sd_num.specs.Numbers.{low}
use Rattle.sd_plan.specs.topo.Network.{Network, rates_of}
use Rattle.sd_plan.specs.declared.topo.Thing.TheVariants as thing
use Rattle.sd_plan.specs.declared.domain.DomainId.{DomainId}
use Rattle.sd_plan.specs.declared.domain.DomainId.TheVariants as domain
use Rattle.sd_plan.specs.declared.Plan.{Plan}
use Rattle.sd_plan.specs.Plans.{is_member, is_root}
use Rattle.sd_plan.specs.Walks.{walk}
use Rattle.sd_plan.proofs.Forest.{on_member}
use Rattle.sd_drill.specs.Calm.{IsCalm}
use Rattle.sd_drill.specs.ages.Ages.{ageing}
use Rattle.sd_drill.specs.recovery.Walks.{halves}
use Rattle.sd_drill.specs.declared.Budget.{Budget}
use Rattle.sd_num.specs.declared.clock.Report.{Report}
use Rattle.sd_device.specs.Calls.{Past}
use Rattle.sd_device.specs.Words.{estimate_now, rates_now, report_at}
use Rattle.sd_sched.specs.declared.Event.{Event}
use Rattle.sd_sched.specs.declared.Event.TheVariants as event
use Rattle.sd_sched.specs.Events.{is_stage}
use Rattle.sd_history.specs.World.{is_up, is_counted, alone}
use Rattle.sd_history.specs.Steps.{seen_of, acts_in}
use Rattle.sd_history.specs.Chronicle.{past_in, next_step, chronicle}
use Rattle.sd_safety.specs.invariant.Eras.{all_started, is_among, failed_now, heard_at}
use Rattle.sd_safety.specs.invariant.Coming.{IsNextEvent}
use Rattle.sd_safety.specs.messages.Moments.{whole, behind}
use Rattle.sd_history.proofs.Owned.{rates_are_own}
use Rattle.sd_history.proofs.Owning.{own_pasts}
use Rattle.sd_safety.proofs.frame.Timely.{up_if_made}
use Rattle.sd_safety.proofs.moves.Starts.{IsUnstaged}
use Rattle.sd_safety.proofs.whole.Kept.{stays_invariant, comes}
use Rattle.sd_safety.proofs.whole.Silent.{are_silent}
use Rattle.sd_bound.specs.Bound.{failures}
use Rattle.sd_bound.specs.Recovering.{steps_under}
use Rattle.sd_bound.specs.Steady.{RecoversSteadily}
use Rattle.sd_bound.specs.Calm.{RunsCalmly, CalmHolds}
use Rattle.sd_bound.specs.timeouts.Settled.{IsUnderWay, IsSoundMember}
use Rattle.sd_bound.specs.ages.Sums.{lag}
use Rattle.sd_bound.proofs.Composing.{asked, held_at, held_when, aged}
use Rattle.sd_bound.proofs.histories.Plain.{IsPlain, none_any}
use Rattle.sd_bound.proofs.histories.Lives.{past_was_made}
use Rattle.sd_bound.proofs.histories.Failures.{none_failed_before, none_failed_now, none_ever_failed}
use Rattle.sd_bound.proofs.histories.Standing.{Stands, fair, plain, stands}
use Rattle.sd_bound.proofs.timeouts.Settled.{first_way}
use Rattle.sd_bound.proofs.bases.Planned.{WellPlanned}
use Rattle.sd_bound.proofs.bases.Straight.{IsStraight}
use Rattle.sd_bound.proofs.bases.Sums.{Based, sent_by_root}
use Rattle.sd_bound.proofs.bases.Holding.{well, all_hold_so}
use Rattle.sd_bound.proofs.bases.Concluding.{IsPresent, present}
use Rattle.sd_bound.proofs.ages.Beginnings.{heard_at_first, heard_whole}
use Rattle.sd_bound.proofs.ages.Ages.{age_within}

-- while nothing has failed each way is straight
calm_straight : (net : Network) (plan : Plan) (f : DomainId) (history : List Event) → WellPlanned net plan → IsPlain (alone net plan) history
    → Stands net plan f history → failures (seen_of (steps_under net plan history)) ≡ [] → (d : ℕ) → is_member plan d ≡ true → d < length net.devices
    → IsStraight net plan history d
calm_straight net plan f history planned plain_ st none d member within =
    record {
      off = λ y on other is. none;
      still = λ y on other q was.
          (let member_y : is_member plan y ≡ true = on_member net plan planned.forest y d within member on in
          let up : is_up (seen_of (steps_under net plan history)) y ≡ true =
          up_if_made (seen_of (steps_under net plan history)) y (past_was_made (alone net plan) history plain_ y q was)
          (none_ever_failed (thing.Device y) (seen_of (steps_under net plan history)) none) in
          sym (st.live y q member_y up was).moved_is ∙ st.unmoved none y member_y up other);
    }

module _ (net : Network) (plan : Plan) (budget : Budget) (d : ℕ) (x : Event) (h : List Event) (r c : ℕ) (past : Past)
    (run : RunsCalmly net plan budget (event.Ask r d c ∷ x ∷ h)) (there : past_in (steps_under net plan (x ∷ h)) d ≡ Some past)
    (counted : is_counted (alone net plan) (seen_of (steps_under net plan (x ∷ h))) d ≡ true) where
  -- nothing fails, so any domain will do
  abbrev f : DomainId
  f = domain.Device 0

  run_so : RecoversSteadily net plan budget f (event.Ask r d c ∷ x ∷ h)
  run_so =
      record {
        network = run.network;
        fits = run.fits;
        guarded = run.guarded;
        is = run.is;
        premises = run.premises;
        unstaged = run.unstaged;
        based = run.based;
        held = run.held;
        failed = inl run.unfailed;
      }

  none : failures (seen_of (steps_under net plan (x ∷ h))) ≡ []
  none =
      (none_failed_before (next_step (alone net plan) (steps_under net plan (x ∷ h)) (event.Ask r d c)).seen (seen_of (steps_under net plan (x ∷ h)))
      run.unfailed).1

  plain_now : IsPlain (alone net plan) (x ∷ h)
  plain_now = plain net plan budget f (stays_invariant (alone net plan)) (event.Ask r d c ∷ x ∷ h) run_so (x ∷ h) (behind whole)

  here : IsPresent net plan (x ∷ h) d
  here = present net plan (x ∷ h) plain_now d counted

  st : Stands net plan f (x ∷ h)
  st = stands net plan budget f (stays_invariant (alone net plan)) (event.Ask r d c ∷ x ∷ h) run_so (x ∷ h) (behind whole)

  based : Based net plan budget f (x ∷ h) d (estimate_now past).base
  based =
      (all_hold_so net plan budget f (stays_invariant (alone net plan)) (event.Ask r d c ∷ x ∷ h) run_so (x ∷ h) (behind whole)).based d past here.member
      here.within there

  rates : rates_now past ≡ rates_of net d
  rates = rates_are_own net d past (own_pasts (alone net plan) (x ∷ h) d past there)

  comes_ : IsNextEvent (alone net plan) (x ∷ h) (event.Ask r d c)
  comes_ =
      comes (alone net plan) (x ∷ h) (event.Ask r d c)
      (fair net plan budget f (stays_invariant (alone net plan)) (event.Ask r d c ∷ x ∷ h) run_so) (record { is = run.is; premises = run.premises })

  unstaged : IsUnstaged (seen_of (chronicle (alone net plan) (event.Ask r d c ∷ x ∷ h)))
  unstaged = none_any (λ s. is_stage s.event) (seen_of (steps_under net plan (event.Ask r d c ∷ x ∷ h))) run.unstaged

  none_now : failed_now (chronicle (alone net plan) (x ∷ h)) ≡ []
  none_now = none_failed_now (seen_of (steps_under net plan (x ∷ h))) none

  -- how long the device was silent
  silence : is_root plan d ≡ false → r ≤ heard_at (chronicle (alone net plan) (x ∷ h)) d + lag net
  silence other = go (cases_lt begun r)
    where
      begun : ℕ
      begun = all_started (alone net plan) (chronicle (alone net plan) (event.Ask r d c ∷ x ∷ h))

      least : (n : ℕ) → n ≤ n
      least n = omega arith

      way : IsUnderWay (alone net plan) 1 (x ∷ h) (event.Ask r d c) begun
      way = first_way (alone net plan) (x ∷ h) (event.Ask r d c) begun comes_ unstaged (least begun)

      well_ : IsSoundMember (alone net plan) 1 (failed_now (chronicle (alone net plan) (x ∷ h))) d
      well_ =
          record {
            known = here.within;
            member = here.member;
            self = subst (λ failed. is_among failed (thing.Device d) ≡ false) (sym none_now) refl;
          }

      go : (begun < r) ⊎ (r ≤ begun) → r ≤ heard_at (chronicle (alone net plan) (x ∷ h)) d + lag net
      go (inl late) = heard_whole (alone net plan) 1 x h (event.Ask r d c) begun way late none_now d well_ other (are_silent (alone net plan)).whole
      go (inr le) = heard_at_first (alone net plan) x h (event.Ask r d c) comes_ d here.up le

  -- the root reports at most what it may send, and each other device what comes down its path
  root_reports : is_root plan d ≡ true → (report_at past c).eps ≤ budget.base + ageing (rates_of net plan.root) budget.hold
  root_reports is =
      subst (λ y. (report_at past c).eps ≤ budget.base + ageing (rates_of net y) budget.hold) (sym same)
      (sum (report_at past c).eps (estimate_now past).base budget.base (ageing (rates_of net d) budget.hold)
      (aged past (rates_of net d) c budget.hold rates
      (held_when (acts_in (steps_under net plan (x ∷ h)) d) (past_in (steps_under net plan (x ∷ h)) d) past c budget.hold there acts
      (held_at budget (steps_under net plan (x ∷ h)) (steps_under net plan (event.Ask r d c ∷ x ∷ h))
      (next_step (alone net plan) (steps_under net plan (x ∷ h)) (event.Ask r d c)) whole run.held))) (based.root is))
    where
      same : plan.root ≡ d
      same = eqb-true plan.root d is

      acts : acts_in (steps_under net plan (x ∷ h)) d ≡ true
      acts =
          subst (λ y. acts_in (steps_under net plan (x ∷ h)) y ≡ true) same
          (st.root (subst (λ y. is_member plan y ≡ true) (sym same) here.member)
          (subst (λ y. is_up (seen_of (steps_under net plan (x ∷ h))) y ≡ true) (sym same) here.up))

      sum : (e b m a : ℕ) → e ≤ b + a → b ≤ m → e ≤ m + a
      sum e b m a one two = omega (arith, one, two)

  others_report : is_root plan d ≡ false → (oldest : ℕ) → ((age : ℕ) → low (rates_of net d) age ≤ lag net → age ≤ oldest)
      → (report_at past c).eps ≤ sent_by_root net plan budget + halves net d (walk net plan d) + ageing (rates_of net d) oldest
  others_report other oldest covers =
      sum (report_at past c).eps (estimate_now past).base (sent_by_root net plan budget + halves net d (walk net plan d)) (ageing (rates_of net d) oldest)
      (aged past (rates_of net d) c oldest rates
      (age_within (alone net plan) x h r d c run.network comes_ past there (lag net) oldest (silence other) covers))
      (based.direct (calm_straight net plan f (x ∷ h)
      (well net plan budget f (stays_invariant (alone net plan)) (event.Ask r d c ∷ x ∷ h) run_so) plain_now st none d here.member here.within))
    where
      sum : (e b m a : ℕ) → e ≤ b + a → b ≤ m → e ≤ m + a
      sum e b m a one two = omega (arith, one, two)

  calm_at : (w : ℕ) → IsCalm net plan budget d w → (report_at past c).eps ≤ w
  calm_at w calm = by_role (is_root plan d) refl
    where
      more : (e b a v o w' : ℕ) → e ≤ b + a → w' ≡ b + a + v + o → e ≤ w'
      more e b a v o w' one two = omega (arith, one, two)

      upto_ : (e s w' : ℕ) → e ≤ s → w' ≡ s → e ≤ w'
      upto_ e s w' one two = omega (arith, one, two)

      by_role : (b : Bool) → is_root plan d ≡ b → (report_at past c).eps ≤ w
      by_role true is =
          more (report_at past c).eps budget.base (ageing (rates_of net plan.root) budget.hold) (halves net d (walk net plan d))
          (ageing (rates_of net d) calm.oldest) w (root_reports is) calm.sum
      by_role false other = upto_ (report_at past c).eps _ w (others_report other calm.oldest calm.is_oldest.greatest) calm.sum

calm_after : (net : Network) (plan : Plan) (budget : Budget) (d w : ℕ) → IsCalm net plan budget d w → (history : List Event) (r c : ℕ) (past : Past)
    → RunsCalmly net plan budget (event.Ask r d c ∷ history) → past_in (steps_under net plan history) d ≡ Some past
    → is_counted (alone net plan) (seen_of (steps_under net plan history)) d ≡ true → (report_at past c).eps ≤ w
calm_after net plan budget d w calm [] r c past run there counted = cc
calm_after net plan budget d w calm (x ∷ h) r c past run there counted = calm_at net plan budget d x h r c past run there counted w calm

pub calm_holds : (net : Network) (plan : Plan) (budget : Budget) → CalmHolds net plan budget
calm_holds net plan budget d w calm e history report run told counted =
    let by = asked (alone net plan) (steps_under net plan history) e d report told in
    subst (λ (z : Report). z.eps ≤ w) by.report_is
    (calm_after net plan budget d w calm history by.reference by.counter by.past (subst (λ z. RunsCalmly net plan budget (z ∷ history)) by.is run) by.there
    counted)
