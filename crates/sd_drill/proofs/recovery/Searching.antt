-- The steps of the search.
use Rattle.std.proofs.Common.{◌≡◌, ◌≢◌, ℕ, ◌+◌, ◌-◌, ◌<◌, ◌≤◌, Bool, true, false, ◌⊎◌, List, [], ◌∷◌, ◌++◌, length, take, get_or, set as put, refl, sym, ap, ◌∙◌, inl, inr, subst, arith, length-set, get_or-set_other, get_or-set_same, Option, Some, None}
use Rattle.std.specs.Prelude.{IfSome, if◌then◌else◌}
use Rattle.std.specs.Option.{option_or}
use Rattle.std.proofs.lemmas.Bool.{cases_eq, cases_lt}
use Rattle.std.proofs.lemmas.List.{get_or_append_left, get_or_push, length_push, get_or-take, length-take-le}
use Rattle.sd_plan.specs.topo.Network.{Network}
use Rattle.sd_plan.specs.declared.domain.DomainId.{DomainId}
use Rattle.sd_plan.specs.declared.Hop.{Hop}
use Rattle.sd_plan.specs.declared.Plan.{Plan}
use Rattle.sd_plan.proofs.Numbered.{both_none}
use Rattle.sd_checker.specs.check_loop.Loops.{hops_of, HasNoCycle}
use Rattle.sd_drill.specs.recovery.Recoveries.{IsRecovery}
use Rattle.sd_drill.specs.recovery.Hops.{listed, BothAre}
use Rattle.sd_drill.specs.recovery.Searches.{IsSearch, IsReadyFor, IsSettled, Leads, first_new, new_parent, is_new, mark_at}
use Rattle.sd_drill.specs.declared.recovery.hops.Hops.{Hops}
use Rattle.sd_drill.specs.declared.recovery.marks.Mark.{Mark}
use Rattle.sd_drill.specs.declared.recovery.marks.Mark.TheVariants as mark
use Rattle.sd_drill.specs.declared.recovery.Recovery.{Recovery}
use Rattle.sd_drill.specs.declared.recovery.search.Recoveries.{Recoveries}
use Rattle.sd_drill.proofs.recovery.Leading.{leads_on, no_return, hop_leads}

entered_new : mark.Entered ≡ mark.New → ⊥
entered_new same = cc

settled_new : (r : Recovery) → mark.Settled r ≡ mark.New → ⊥
settled_new r same = cc

entered_settled : (r : Recovery) → mark.Entered ≡ mark.Settled r → ⊥
entered_settled r same = cc

settled_entered : (r : Recovery) → mark.Settled r ≡ mark.Entered → ⊥
settled_entered r same = cc

one_recovery : (a b : Recovery) → mark.Settled a ≡ mark.Settled b → a ≡ b
one_recovery a b same = cc

-- where a mark comes from
from_before : (marks : List Mark) (x d : ℕ) (now m : Mark) → x < length marks → mark_at (put marks x now) d ≡ m
    → ((d ≡ x) × (now ≡ m)) ⊎ ((d ≢ x) × (mark_at marks d ≡ m))
from_before marks x d now m within at =
    elim (cases_eq d x) [
      | inl same ↦ inl (same, sym (get_or-set_same marks x now mark.New within) ∙ ap (mark_at (put marks x now)) (sym same) ∙ at)
      | inr apart ↦ inr (apart, sym (get_or-set_other marks x d now mark.New apart) ∙ at)
    ]

-- what is not new stays so
stays_old : (marks : List Mark) (x d : ℕ) (now : Mark) → x < length marks → now ≢ mark.New → mark_at marks d ≢ mark.New → mark_at (put marks x now) d ≢ mark.New
stays_old marks x d now within not_new old is =
    elim (from_before marks x d now mark.New within is) [
      | inl here ↦ not_new here.1
      | inr before ↦ old before.1
    ]

-- by its mark, if it is neither new nor entered
settled_by : (net : Network) (plan : Plan) (f : DomainId) (d : ℕ) (m : Mark) → (m ≡ mark.New → ⊥) → (m ≡ mark.Entered → ⊥)
    → ((r : Recovery) → m ≡ mark.Settled r → IsRecovery net plan f d r) → IsSettled net plan f d m
settled_by net plan f d mark.New old left right = old refl
settled_by net plan f d mark.Entered old left right = left refl
settled_by net plan f d (mark.Settled r) old left right = right r refl

-- where all devices are new, no search is under way
pub ready : (net : Network) (plan : Plan) (f : DomainId) (recoveries : Recoveries) → length recoveries.marks.items ≡ length net.devices
    → ((d : ℕ) → mark_at recoveries.marks.items d ≡ mark.New) → recoveries.stack.items ≡ [] → IsReadyFor net plan f recoveries
ready net plan f recoveries size new alone =
    record {
      searched = record {
        size = size;
        settled = λ d r is. absurd (settled_new r (sym is ∙ new d));
        within = λ k below. absurd (omega (arith, below));
        old = λ k below. absurd (omega (arith, below));
        chain = λ k l order below. absurd (omega (arith, below));
        entered = λ d is. absurd (entered_new (sym is ∙ new d));
      };
      alone = alone;
    }

-- a device that is not new, of which no stack knows, is settled
pub settled_off : (net : Network) (plan : Plan) (f : DomainId) (marks : List Mark) (d : ℕ) → IsSearch net plan f marks [] → mark_at marks d ≢ mark.New
    → IsSettled net plan f d (mark_at marks d)
settled_off net plan f marks d s old =
    settled_by net plan f d (mark_at marks d) old (λ entered. (let place = s.entered d entered in absurd (omega (arith, place.1)))) (s.settled d)

module _ (net : Network) (plan : Plan) (f : DomainId) (marks : List Mark) (stack : List ℕ) (s : IsSearch net plan f marks stack) where
  -- a new device on top of the stack
  module _ (x : ℕ) (within : x < length net.devices) (led : (k : ℕ) → k + 1 ≡ length stack → Leads net plan f (get_or stack k 0) x) where
    there : x < length marks
    there = let size = s.size in omega (arith, size, within)

    early : (k : ℕ) → k < length stack → get_or (stack ++ x ∷ []) k 0 ≡ get_or stack k 0
    early k before = get_or_append_left stack (x ∷ []) 0 k before

    late : (k : ℕ) → k ≡ length stack → get_or (stack ++ x ∷ []) k 0 ≡ x
    late k last = get_or_push stack x 0 k (sym last)

    at_end : (k : ℕ) → k < length (stack ++ x ∷ []) → length stack ≤ k → k ≡ length stack
    at_end k below after = omega (arith, below, after, length_push stack x)

    -- each device of the stack leads to the new one
    to_new : (k : ℕ) → k < length stack → Leads net plan f (get_or stack k 0) x
    to_new k before =
        elim (cases_eq (k + 1) (length stack)) [
          | inl last ↦ led k last
          | inr more ↦ (let top : ℕ = length stack - 1 in let order : k < top = omega (arith, before, more) in
              leads_on net plan f (get_or stack k 0) (get_or stack top 0) x (s.chain k top order (omega (arith, before))) (led top (omega (arith, before))))
        ]

    pub search_entered : IsSearch net plan f (put marks x mark.Entered) (stack ++ x ∷ [])
    search_entered =
        record {
          size = length-set marks x mark.Entered ∙ s.size;
          settled = λ d r at.
              elim (from_before marks x d mark.Entered (mark.Settled r) there at) [
                | inl here ↦ absurd (entered_settled r here.1)
                | inr before ↦ s.settled d r before.1
              ];
          within = λ k below.
              elim (cases_lt k (length stack)) [
                | inl before ↦ rw (early k before) (s.within k before)
                | inr after ↦ rw (late k (at_end k below after)) within
              ];
          old = λ k below.
              elim (cases_lt k (length stack)) [
                | inl before ↦ rw (early k before) (stays_old marks x (get_or stack k 0) mark.Entered there entered_new (s.old k before))
                | inr after ↦ rw (late k (at_end k below after)) (λ is. entered_new (sym (get_or-set_same marks x mark.Entered mark.New there) ∙ is))
              ];
          chain = λ k l order below.
              elim (cases_lt l (length stack)) [
                | inl before ↦ (let first : k < length stack = omega (arith, order, before) in rw (early k first, early l before) (s.chain k l order before))
                | inr after ↦ (let first : k < length stack = omega (arith, order, at_end l below after) in
                    rw (early k first, late l (at_end l below after)) (to_new k first))
              ];
          entered = λ d is.
              elim (from_before marks x d mark.Entered mark.Entered there is) [
                | inl here ↦ (length stack, omega (arith, length_push stack x), late (length stack) refl ∙ sym here.0)
                | inr before ↦ (let old = s.entered d before.1 in (old.0, omega (arith, old.1, length_push stack x), early old.0 old.1 ∙ old.2))
              ];
        }

  -- the device on top is settled
  module _ (n x : ℕ) (r : Recovery) (last : n + 1 ≡ length stack) (at : get_or stack n 0 ≡ x) (right : IsRecovery net plan f x r) where
    pub top_there : x < length marks
    top_there = let here : get_or stack n 0 < length net.devices = s.within n (omega (arith, last)) in let size = s.size in omega (arith, here, size, at)

    front : (k : ℕ) → k < n → get_or (take n stack) k 0 ≡ get_or stack k 0
    front k before = get_or-take n stack k 0 before

    size_front : length (take n stack) ≡ n
    size_front = length-take-le n stack (omega (arith, last))

    search_finished : IsSearch net plan f (put marks x (mark.Settled r)) (take n stack)
    search_finished =
        record {
          size = length-set marks x (mark.Settled r) ∙ s.size;
          settled = λ d q is.
              elim (from_before marks x d (mark.Settled r) (mark.Settled q) top_there is) [
                | inl here ↦ subst (λ (y : ℕ). IsRecovery net plan f y q) (sym here.0)
                    (subst (λ (p : Recovery). IsRecovery net plan f x p) (one_recovery r q here.1) right)
                | inr before ↦ s.settled d q before.1
              ];
          within = λ k below.
              let before : k < n = omega (arith, below, size_front) in
              rw (front k before) (s.within k (omega (arith, before, last)));
          old = λ k below.
              let before : k < n = omega (arith, below, size_front) in
              rw (front k before) (stays_old marks x (get_or stack k 0) (mark.Settled r) top_there (settled_new r) (s.old k (omega (arith, before, last))));
          chain = λ k l order below.
              let second : l < n = omega (arith, below, size_front) in
              let first : k < n = omega (arith, order, second) in
              rw (front k first, front l second) (s.chain k l order (omega (arith, second, last)));
          entered = λ d is.
              elim (from_before marks x d (mark.Settled r) mark.Entered top_there is) [
                | inl here ↦ absurd (settled_entered r here.1)
                | inr before ↦ still_there d before.0 (s.entered d before.1)
              ];
        }
      where
        still_there : (d : ℕ) → d ≢ x → ((k : ℕ) × (k < length stack) × (get_or stack k 0 ≡ d))
            → (k : ℕ) × (k < length (take n stack)) × (get_or (take n stack) k 0 ≡ d)
        still_there d apart old =
            let below : old.0 < n =
            elim (cases_eq old.0 n)
            [ inl same ↦ absurd (apart (sym old.2 ∙ ap (λ (k : ℕ). get_or stack k 0) same ∙ at)) | inr other ↦ omega (arith, old.1, last, other) ] in
            (old.0, omega (arith, below, size_front), front old.0 below ∙ old.2)

  -- where none of its hops leads to a new device, all lead to settled ones
  module _ (acyclic : HasNoCycle net plan f) (n x : ℕ) (last : n + 1 ≡ length stack) (at : get_or stack n 0 ≡ x) (hops : Hops)
      (are : listed hops ≡ hops_of net plan f x) where
    -- a hop of the top leads to none of the stack
    not_entered : (hop : Hop) → (hops.primary ≡ Some hop) ⊎ (hops.backup ≡ Some hop) → mark_at marks hop.parent ≡ mark.Entered → ⊥
    not_entered hop one entered =
        let place = s.entered hop.parent entered in
        let there : place.0 < length stack = place.1 in
        let onward : Leads net plan f x hop.parent = hop_leads net plan f x hops are hop one in
        elim (cases_eq place.0 n) [
          | inl same ↦ (let here : hop.parent ≡ x = sym place.2 ∙ ap (λ (k : ℕ). get_or stack k 0) same ∙ at in
              no_return net plan f acyclic x (subst (λ (y : ℕ). Leads net plan f x y) here onward))
          | inr other ↦ (let before : place.0 < n = omega (arith, there, last, other) in
              let up : Leads net plan f (get_or stack place.0 0) (get_or stack n 0) = s.chain place.0 n before (omega (arith, last)) in
              let from : Leads net plan f hop.parent x =
              subst (λ (y : ℕ). Leads net plan f y x) place.2 (subst (λ (y : ℕ). Leads net plan f (get_or stack place.0 0) y) at up) in
              no_return net plan f acyclic hop.parent (leads_on net plan f hop.parent x hop.parent from onward))
        ]

    none_new : (hop : Hop) → new_parent marks (Some hop) ≡ None → mark_at marks hop.parent ≢ mark.New
    none_new hop none is = by (mark_at marks hop.parent) is none
      where
        by : (m : Mark) → m ≡ mark.New → (if is_new m then Some hop.parent else None) ≡ None → ⊥
        by mark.New is none = cc
        by mark.Entered is none = entered_new is
        by (mark.Settled r) is none = settled_new r is

    one_settled : (o : Option Hop) → ((hop : Hop) → o ≡ Some hop → (hops.primary ≡ Some hop) ⊎ (hops.backup ≡ Some hop)) → new_parent marks o ≡ None
        → IfSome o (λ hop. IsSettled net plan f hop.parent (mark_at marks hop.parent))
    one_settled None is none = tt
    one_settled (Some hop) is none =
        settled_by net plan f hop.parent (mark_at marks hop.parent) (none_new hop none) (not_entered hop (is hop refl)) (s.settled hop.parent)

    pub both_settled : first_new marks hops ≡ None → BothAre (λ hop. IsSettled net plan f hop.parent (mark_at marks hop.parent)) hops
    both_settled none =
        let parts = both_none (new_parent marks hops.primary) (new_parent marks hops.backup) none in
        (one_settled hops.primary (λ hop is. inl is) parts.0, one_settled hops.backup (λ hop is. inr is) parts.1)

-- the same, as the code has it
pub finished_at : (net : Network) (plan : Plan) (f : DomainId) (marks : List Mark) (stack left : List ℕ) (size x : ℕ) (r : Recovery)
    → IsSearch net plan f marks stack → size ≡ length stack → 0 < length stack
    → ((k : ℕ) → k + 1 ≡ length stack → get_or stack k 0 ≡ x) → IsRecovery net plan f x r → left ≡ take (size - 1) stack
    → IsSearch net plan f (put marks x (mark.Settled r)) left
finished_at net plan f marks stack left size x r s sized some at right is =
    let last : size - 1 + 1 ≡ length stack = omega (arith, sized, some) in
    subst (λ (rest : List ℕ). IsSearch net plan f (put marks x (mark.Settled r)) rest) (sym is)
    (search_finished net plan f marks stack s (size - 1) x r last (at (size - 1) last) right)

-- where the top of a stack is
pub top_within : (net : Network) (plan : Plan) (f : DomainId) (marks : List Mark) (stack : List ℕ) (x : ℕ) → IsSearch net plan f marks stack → 0 < length stack
    → ((k : ℕ) → k + 1 ≡ length stack → get_or stack k 0 ≡ x) → x < length net.devices
top_within net plan f marks stack x s some at =
    let last : length stack - 1 + 1 ≡ length stack = omega (arith, some) in
    let here : get_or stack (length stack - 1) 0 < length net.devices = s.within (length stack - 1) (omega (arith, some)) in
    subst (λ (y : ℕ). y < length net.devices) (at (length stack - 1) last) here

-- where none of the hops of the top leads to a new device, all lead to settled ones
pub all_settled : (net : Network) (plan : Plan) (f : DomainId) (marks : List Mark) (stack : List ℕ) (x : ℕ) (hops : Hops) → IsSearch net plan f marks stack
    → HasNoCycle net plan f → 0 < length stack
    → ((k : ℕ) → k + 1 ≡ length stack → get_or stack k 0 ≡ x) → listed hops ≡ hops_of net plan f x → first_new marks hops ≡ None
    → BothAre (λ hop. IsSettled net plan f hop.parent (mark_at marks hop.parent)) hops
all_settled net plan f marks stack x hops s acyclic some at are none =
    let last : length stack - 1 + 1 ≡ length stack = omega (arith, some) in
    both_settled net plan f marks stack s acyclic (length stack - 1) x last (at (length stack - 1) last) hops are none

-- which of its hops leads to the first new device
pub record IsLedTo (marks : List Mark) (hops : Hops) (next : ℕ) : Type 0 where
  pub hop : Hop
  pub one : (hops.primary ≡ Some hop) ⊎ (hops.backup ≡ Some hop)
  pub leads : hop.parent ≡ next
  pub new : mark_at marks next ≡ mark.New

new_is : (m : Mark) → is_new m ≡ true → m ≡ mark.New
new_is mark.New test = refl
new_is mark.Entered test = cc
new_is (mark.Settled r) test = cc

module _ (marks : List Mark) (next : ℕ) where
  new_by : (hop : Hop) (b : Bool) → is_new (mark_at marks hop.parent) ≡ b → (if b then Some hop.parent else None) ≡ Some next
      → (hop.parent ≡ next) × (mark_at marks next ≡ mark.New)
  new_by hop true new is =
      let same : hop.parent ≡ next = cc in
      (same, subst (λ (x : ℕ). mark_at marks x ≡ mark.New) same (new_is (mark_at marks hop.parent) new))
  new_by hop false new is = cc

  new_at : (o : Option Hop) → new_parent marks o ≡ Some next → (hop : Hop) × (o ≡ Some hop) × (hop.parent ≡ next) × (mark_at marks next ≡ mark.New)
  new_at None is = cc
  new_at (Some hop) is = let both = new_by hop (is_new (mark_at marks hop.parent)) refl is in (hop, refl, both.0, both.1)

  pub led_to : (hops : Hops) → first_new marks hops ≡ Some next → IsLedTo marks hops next
  led_to hops is = by (new_parent marks hops.primary) refl is
    where
      by : (o : Option ℕ) → new_parent marks hops.primary ≡ o → option_or o (new_parent marks hops.backup) ≡ Some next → IsLedTo marks hops next
      by None was is = let found = new_at hops.backup is in record { hop = found.0; one = inr found.1; leads = found.2; new = found.3 }
      by (Some x) was is = let found = new_at hops.primary (was ∙ is) in record { hop = found.0; one = inl found.1; leads = found.2; new = found.3 }
