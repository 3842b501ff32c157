-- C6 at a receipt of the backup root: the round came down its path, so each device above it took the round at most H * D before. By going along the
-- trace of the receipt (8) and the walk to the root together.
use Rattle.std.specs.Prelude.{◌≡◌, ℕ, zero, suc, ◌+◌, ◌*◌, ◌≤◌, Bool, true, false, ◌||◌, List, [], ◌∷◌, map, max, nat_eq, Option, Some, None, is_some, option_map, refl, ◌⊎◌, if◌then◌else◌}
use Rattle.std.proofs.Common.{arith, ◌∙◌, ap, sym, subst, inl, inr}
use Rattle.std.proofs.lemmas.Bool.{or_left, or_right, or_cases, eqb-true, eq-eqb}
use Rattle.sd_num.specs.Lists.{map_or, has}
use Rattle.sd_plan.specs.topo.Network.{greatest_delay}
use Rattle.sd_plan.specs.declared.Edge.{Edge}
use Rattle.sd_plan.specs.declared.Plan.{Plan}
use Rattle.sd_plan.specs.declared.Hop as declared
use Rattle.sd_plan.specs.Plans.{is_root, primary_of}
use Rattle.sd_plan.specs.Walks.{hops}
use Rattle.sd_device.specs.declared.msg.Stamp.{Stamp}
use Rattle.sd_device.specs.declared.msg.Flight.{Flight}
use Rattle.sd_device.specs.Calls as calls
use Rattle.sd_device.specs.Calls.{Call, CallDone, Past}
use Rattle.sd_device.specs.Words.{transition_of, accepted_over}
use Rattle.sd_sched.specs.declared.Event.{Event}
use Rattle.sd_sched.specs.declared.Event.TheVariants as event
use Rattle.sd_history.specs.World.{Setting, makes}
use Rattle.sd_history.specs.Steps.{Calls, Passes, Step, seen_of, flight_numbered}
use Rattle.sd_history.specs.Chronicle.{past_in, chronicle, next_step}
use Rattle.sd_history.specs.Admitted.{IsAdmitted}
use Rattle.sd_safety.specs.invariant.Bounds.{depth, delay, tick_gap}
use Rattle.sd_safety.specs.invariant.Eras.{plan_now, did_by, does, latest_such, hears, heard_at}
use Rattle.sd_safety.specs.invariant.Clauses.{above_backup_root, backup_root_stays}
use Rattle.sd_safety.specs.invariant.Coming.{IsNextEvent}
use Rattle.sd_safety.proofs.invariant.Parts.{premises_of}
use Rattle.sd_safety.proofs.invariant.Sides.{not_both}
use Rattle.sd_safety.specs.messages.Moments.{Tail, whole, behind, Moment, upto, when, IsIn, IsBefore, Receipt}
use Rattle.sd_safety.specs.messages.Traces.{Trace, begins, goes_on, Traced}
use Rattle.sd_safety.proofs.messages.Tails.{tail_trans, history_chronicle}
use Rattle.sd_safety.proofs.messages.Overlap.{hop_time}
use Rattle.sd_safety.proofs.messages.Tracing.{accepted_traced}
use Rattle.sd_safety.specs.frame.Receipts.{transition_of_receipt, AboveHears}
use Rattle.sd_safety.specs.frame.Descents.{TakesFromAbove, ComesDown}
use Rattle.sd_safety.proofs.frame.Receiving.{such_rises}
use Rattle.sd_safety.proofs.messages.Flowing.{tail_rest}

-- the device took the round at a moment before, not long before this one
pub record Took (setting : Setting) (p q : Moment) (x n : ℕ) : Type 0 where
  pub at : Moment
  pub before : IsBefore at p
  pub flight : Flight
  pub receipt : Receipt at x flight
  pub time : when q ≤ when at + n * greatest_delay setting.net

none_among : (x : ℕ) → has [] x ≡ true → ⊥
none_among x is = not_both (has [] x) is refl

pub further : (q from at n d : ℕ) → from ≤ at + n * d → q ≤ from + d → q ≤ at + suc n * d
further q from at n d x y = let more : suc n * d ≡ n * d + d = omega (arith) in omega (arith, x, y, more)

module _ (setting : Setting) (plan : Plan) (stamp : Stamp) (epoch : ℕ) (p : Moment) (on : ℕ → Bool)
    (down : (y : ℕ) → on y ≡ true → is_root plan y ≡ false → (q : Moment) → IsIn q (upto p)
    → TakesFromAbove setting plan stamp epoch q y) (first : Moment) (source : ℕ) where
  took_at : (m : ℕ) (from : Moment) (z : ℕ) → Trace setting stamp epoch first source m from z → IsIn from (upto p) → on z ≡ true → is_root plan z ≡ false
      → (f : Flight) × Receipt from z f
  took_at zero from z (begins message emits st ep) here on_ under = absurd ((down z on_ under first here).begins_none message emits st ep)
  took_at (suc m) from z (goes_on trace hop) here on_ under = (hop.flight, hop.receipt)

  module _ (x : ℕ) (under : is_root plan x ≡ false) where
    abbrev parents : List declared.Hop → List ℕ
    parents hs = map (λ (h : declared.Hop). h.parent) hs

    climb_by : (n : ℕ) (q : Moment) (y m : ℕ) → Trace setting stamp epoch first source m q y → IsIn q (upto p) → on y ≡ true → is_root plan y ≡ false
        → (o : Option declared.Hop) → primary_of plan y ≡ o
        → ((z : ℕ) → has
        (parents (elim o as (λ (k : Option declared.Hop). List declared.Hop)
        [ None ↦ [] | Some hop ↦ hop ∷ (elim (is_root plan hop.parent) [ true ↦ [] | false ↦ hops (is_root plan) plan n hop.parent ]) ])) z ≡ true
        → on z ≡ true)
        → has (parents
        (elim o as (λ (k : Option declared.Hop). List declared.Hop)
        [ None ↦ [] | Some hop ↦ hop ∷ (elim (is_root plan hop.parent) [ true ↦ [] | false ↦ hops (is_root plan) plan n hop.parent ]) ])) x ≡ true
        → ((from : Moment) (z k : ℕ) → Trace setting stamp epoch first source k from z → IsIn from (upto p) → on z ≡ true → is_root plan z ≡ false
        → ((v : ℕ) → has (parents (hops (is_root plan) plan n z)) v ≡ true → on v ≡ true) → has (parents (hops (is_root plan) plan n z)) x ≡ true
        → Took setting p from x n)
        → Took setting p q x (suc n)
    climb_by n q y m trace here on_ not_root None is within among rest = absurd (none_among x among)
    climb_by n q y zero (begins message emits st ep) here on_ not_root (Some h) is within among rest =
        absurd ((down y on_ not_root first here).begins_none message emits st ep)
    climb_by n q y (suc m) (goes_on {from = from} {x = z} trace hop) here on_ not_root (Some h) is within among rest =
        let parent : h.parent ≡ z = (down y on_ not_root q here).takes z from hop h is in
        let before : IsBefore from p = tail_trans hop.before (tail_rest here) in
        let up : Trace setting stamp epoch first source m from h.parent = subst (λ v. Trace setting stamp epoch first source m from v) (sym parent) trace in
        let inside : IsIn from (upto p) = behind before in
        let on_parent : on h.parent ≡ true = within h.parent (or_left (nat_eq h.parent h.parent) _ (eq-eqb h.parent h.parent refl)) in
        by (is_root plan h.parent) refl (hop_time setting stamp epoch from q z y hop) before up inside on_parent within among
      where
        longer : (a b d k : ℕ) → a ≤ b + d → a ≤ b + suc k * d
        longer a b d k le = let more : suc k * d ≡ k * d + d = omega (arith) in omega (arith, le, more)

        found : is_root plan h.parent ≡ false → when q ≤ when from + greatest_delay setting.net → IsBefore from p
            → Trace setting stamp epoch first source m from h.parent → IsIn from (upto p) → on h.parent ≡ true → Took setting p q h.parent (suc n)
        found low time before up inside on_parent =
            let both = took_at m from h.parent up inside on_parent low in
            record { at = from; before = before; flight = both.0; receipt = both.1; time = longer (when q) (when from) (greatest_delay setting.net) n time }

        by : (b : Bool) → is_root plan h.parent ≡ b → when q ≤ when from + greatest_delay setting.net → IsBefore from p
            → Trace setting stamp epoch first source m from h.parent → IsIn from (upto p) → on h.parent ≡ true
            → ((v : ℕ) → (nat_eq v h.parent
            || has (parents (elim b as (λ (k : Bool). List declared.Hop) [ true ↦ [] | false ↦ hops (is_root plan) plan n h.parent ])) v) ≡ true
            → on v ≡ true)
            → (nat_eq x h.parent || has (parents (elim b as (λ (k : Bool). List declared.Hop) [ true ↦ [] | false ↦ hops (is_root plan) plan n h.parent ])) x)
            ≡ true → Took setting p q x (suc n)
        by b same time before up inside on_parent within' among' =
            go b same within' among'
            (or_cases (nat_eq x h.parent)
            (has (parents (elim b as (λ (k : Bool). List declared.Hop) [ true ↦ [] | false ↦ hops (is_root plan) plan n h.parent ])) x) among')
          where
            this : nat_eq x h.parent ≡ true → Took setting p q x (suc n)
            this same_ =
                let at : x ≡ h.parent = eqb-true x h.parent same_ in
                subst (λ v. Took setting p q v (suc n)) (sym at) (found (subst (λ v. is_root plan v ≡ false) at under) time before up inside on_parent)

            go : (c : Bool) → is_root plan h.parent ≡ c
                → ((v : ℕ) → (nat_eq v h.parent
                || has (parents (elim c as (λ (k : Bool). List declared.Hop) [ true ↦ [] | false ↦ hops (is_root plan) plan n h.parent ])) v) ≡ true
                → on v ≡ true)
                → (nat_eq x h.parent
                || has (parents (elim c as (λ (k : Bool). List declared.Hop) [ true ↦ [] | false ↦ hops (is_root plan) plan n h.parent ])) x) ≡ true
                → (nat_eq x h.parent ≡ true)
                ⊎ (has (parents (elim c as (λ (k : Bool). List declared.Hop) [ true ↦ [] | false ↦ hops (is_root plan) plan n h.parent ])) x ≡ true)
                → Took setting p q x (suc n)
            go c root in_ among_ (inl same_) = this same_
            go true root in_ among_ (inr more) = absurd (none_among x more)
            go false root in_ among_ (inr more) =
                let t : Took setting p from x n =
                rest from h.parent m up inside on_parent root
                (λ v a. in_ v (or_right (nat_eq v h.parent) (has (parents (hops (is_root plan) plan n h.parent)) v) a)) more in
                record {
                  at = t.at;
                  before = t.before;
                  flight = t.flight;
                  receipt = t.receipt;
                  time = further (when q) (when from) (when t.at) n (greatest_delay setting.net) t.time time;
                }

    pub climb : (n : ℕ) (q : Moment) (y m : ℕ) → Trace setting stamp epoch first source m q y → IsIn q (upto p) → on y ≡ true → is_root plan y ≡ false
        → ((z : ℕ) → has (parents (hops (is_root plan) plan n y)) z ≡ true → on z ≡ true) → has (parents (hops (is_root plan) plan n y)) x ≡ true
        → Took setting p q x n
    climb zero q y m trace here on_ not_root within among = absurd (none_among x among)
    climb (suc n) q y m trace here on_ not_root within among =
        climb_by n q y m trace here on_ not_root (primary_of plan y) refl within among
        (λ from z k up inside on_z low in_ more. climb n from z k up inside on_z low in_ more)

-- When it heard

pub heard_by_receipt : (at : Moment) (x : ℕ) (f : Flight) → Receipt at x f → heard_at (upto at) x ≡ when at
heard_by_receipt at x f receipt =
    let call : Call = calls.Receive f.link f.message receipt.counter in
    let does_it : does hears at.earlier at.step x ≡ true =
    ap (λ a. map_or (did_by at.earlier a x) false hears) receipt.act
    ∙ ap (λ b. map_or (if b then option_map (λ past. record { call = call; transition = transition_of past call }) (past_in at.earlier x) else None) false
    hears) (eq-eqb x x refl)
    ∙ ap (λ (o : Option Past). map_or (option_map (λ past. record { call = call; transition = transition_of past call }) o) false hears) receipt.there
    ∙ ap (λ (o : Option Edge). is_some o) receipt.over in
    ap (λ b. if b then when at else heard_at at.earlier x) (or_right (makes x at.step.seen.event) (does hears at.earlier at.step x) does_it)

pub rises_on : (test : CallDone → Bool) (setting : Setting) (history : List Event) → IsAdmitted setting history → (d : ℕ) (older : List Step)
    → Tail older (chronicle setting history) → latest_such test older d ≤ latest_such test (chronicle setting history) d
rises_on test setting [] is d older whole = omega arith
rises_on test setting (e ∷ history) is d older whole = omega arith
rises_on test setting (e ∷ history) is d older (behind t) =
    let rest = rises_on test setting history is.0 d older t in
    let more = such_rises test setting e history is d in
    omega (arith, rest, more)

module _ {setting : Setting} (down : ComesDown setting) (r c n : ℕ) (history : List Event)
    (comes : IsNextEvent setting history (event.Recv r (plan_now setting (chronicle setting history)).backup_root c n)) (edge : Edge)
    (what : transition_of_receipt (chronicle setting history) (plan_now setting (chronicle setting history)).backup_root c n ≡ calls.Accepted edge)
    (stays : backup_root_stays setting (chronicle setting history) ≡ true) (x : ℕ)
    (among : has (above_backup_root setting (chronicle setting history)) x ≡ true)
    (under : is_root (plan_now setting (chronicle setting history)) x ≡ false) where
  abbrev steps : List Step
  steps = chronicle setting history

  abbrev plan_ : Plan
  plan_ = plan_now setting (chronicle setting history)

  abbrev backup : ℕ
  backup = (plan_now setting (chronicle setting history)).backup_root

  abbrev e : Event
  e = event.Recv r (plan_now setting (chronicle setting history)).backup_root c n

  abbrev now : Moment
  now = record {
    step = next_step setting (chronicle setting history) (event.Recv r (plan_now setting (chronicle setting history)).backup_root c n);
    earlier = chronicle setting history;
  }

  with_flight : (f : Flight) → flight_numbered (chronicle setting history) n ≡ Some f → (past : Past)
      → past_in (chronicle setting history) (plan_now setting (chronicle setting history)).backup_root ≡ Some past
      → transition_of past (calls.Receive f.link f.message c) ≡ calls.Accepted edge
      → r ≤ heard_at (chronicle setting history) x + depth setting.net * delay setting.net
  with_flight f is past there did =
      let traced : Traced setting f.message.stamp f.message.epoch now backup =
      accepted_traced setting (chronicle setting (e ∷ history)) (history_chronicle setting (e ∷ history) comes.clean.is)
      (premises_of setting (seen_of (chronicle setting (e ∷ history))) comes.clean.premises).delay now whole
      backup f.link f.message c past edge there (ap (λ (o : Option Flight). map_or o Passes (λ g. Calls backup (calls.Receive g.link g.message c))) is)
      (ap accepted_over did) in
      by (is_root plan_ backup) refl traced
    where
      near : (h d w l : ℕ) → r ≤ h + d * l → h ≤ w → r ≤ w + d * l
      near h d w l p q = omega (arith, p, q)

      by : (b : Bool) → is_root plan_ backup ≡ b → Traced setting f.message.stamp f.message.epoch now backup
          → r ≤ heard_at (chronicle setting history) x + depth setting.net * delay setting.net
      by true root traced =
          absurd (none_among x
          (sym (ap (λ b. has (map (λ (h : declared.Hop). h.parent) (if b then [] else hops (is_root plan_) plan_ setting.net.params.depth backup)) x) root)
          ∙ among))
      by false root traced =
          let parents : above_backup_root setting steps ≡ map (λ (h : declared.Hop). h.parent) (hops (is_root plan_) plan_ setting.net.params.depth backup) =
          ap (λ b. map (λ (h : declared.Hop). h.parent) (if b then [] else hops (is_root plan_) plan_ setting.net.params.depth backup)) root in
          let took : Took setting now now x setting.net.params.depth =
          climb setting plan_ f.message.stamp f.message.epoch now (λ y. nat_eq y backup || has (above_backup_root setting steps) y)
          (λ y on_ low q inside. down r c n history comes edge what stays f is y on_ low q inside) traced.first traced.source x under
          setting.net.params.depth now backup traced.hops traced.trace whole
          (or_left (nat_eq backup backup) (has (above_backup_root setting steps) backup) (eq-eqb backup backup refl)) root
          (λ z a. or_right (nat_eq z backup) (has (above_backup_root setting steps) z) (ap (λ xs. has xs z) parents ∙ a))
          (sym (ap (λ xs. has xs x) parents) ∙ among) in
          near (when took.at) (depth setting.net) (heard_at steps x) (greatest_delay setting.net) took.time
          (subst (λ h. h ≤ heard_at steps x) (heard_by_receipt took.at x took.flight took.receipt)
          (rises_on hears setting history comes.clean.is.0 x (upto took.at) took.before))

  found : (o : Option Flight) (p : Option Past) → flight_numbered (chronicle setting history) n ≡ o
      → past_in (chronicle setting history) (plan_now setting (chronicle setting history)).backup_root ≡ p
      → map_or o calls.Nothing (λ f. map_or p calls.Nothing (λ past. transition_of past (calls.Receive f.link f.message c))) ≡ calls.Accepted edge
      → r ≤ heard_at (chronicle setting history) x + depth setting.net * delay setting.net
  found None p is there did = cc
  found (Some f) None is there did = cc
  found (Some f) (Some past) is there did = with_flight f is past there did

  reach : r ≤ heard_at (chronicle setting history) x + max (depth setting.net * delay setting.net) (tick_gap setting.net)
  reach = wider (heard_at steps x) (depth setting.net * delay setting.net) (tick_gap setting.net)
      (found (flight_numbered steps n) (past_in steps backup) refl refl what)
    where
      wider : (h a b : ℕ) → r ≤ h + a → r ≤ h + max a b
      wider h a b p = omega (arith, p)

-- so C6 holds at such a receipt
pub above_hears : {setting : Setting} → ComesDown setting → AboveHears setting
above_hears down r c n history comes edge what stays x among under old = reach down r c n history comes edge what stays x among under
