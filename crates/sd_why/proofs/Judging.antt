-- From what is found to the first reason.
use Rattle.std.proofs.Common.{◌≡◌, ℕ, ◌+◌, ◌<◌, ◌≤◌, inl, inr, true, false, List, length, get_or, nat_eq, if◌then◌else◌, Option, Some, None, is_none, find, refl, sym, ap, ◌∙◌, subst, arith, slice_get}
use Rattle.std.specs.Prelude.{IfOk, IfSome, Ok, Err, Result, is_some, option_map, IsTrue}
use Rattle.std.proofs.lemmas.Bool.{both_ways, cases_lt, cases_order, lt-ltb, ltb-true}
use Rattle.std.proofs.lemmas.Option.{same_Some, slice_get-get_or, slice_get_within}
use Rattle.sd_num.specs.Lists.{below}
use Rattle.sd_plan.specs.topo.Network.{Network}
use Rattle.sd_plan.proofs.Numbered.{found_passes, none_found}
use Rattle.sd_planner.proofs.Lists.{least_found}
use Rattle.sd_why.specs.Kinds.{Holds, IsConnected, IsTooDeep, Kind, is_before, place_of, shared_domain, shares_all}
use Rattle.sd_why.specs.Kinds as kind
use Rattle.sd_num.specs.declared.NoMemory.{NoMemory}
use Rattle.sd_why.specs.Plans.{HasNoPlanOfCandidates}
use Rattle.sd_why.specs.Reasons.{FindsBeyond, IsFarthestFrom, IsFirstReason, IsReasonOf, IsWhy, Judges, NoneBefore, kind_of}
use Rattle.sd_why.specs.Rings.{IsFarthest, is_unknown}
use Rattle.sd_why.specs.Ways.{AreDistances, IsDistance, IsFar, Way}
use Rattle.sd_why.proofs.Laws.{no_plan}
use Rattle.sd_why.proofs.Joining.{way_back, ways_join}
use Rattle.sd_why.specs.declared.Far.{Far}
use Rattle.sd_why.specs.declared.Reason.{Reason}
use Rattle.sd_why.specs.declared.Reason.TheVariants as reason

-- what is not something is nothing, and the other way round
pub none_if : (o : Option ℕ) → is_some o ≡ false → is_none o ≡ true
none_if None not_so = refl
none_if (Some n) not_so = cc

pub some_if : (o : Option ℕ) → is_some o ≡ true → is_none o ≡ false
some_if None so = cc
some_if (Some n) so = refl

-- what is found of the whole means that there is no plan
pub found_law : (net : Network) (found : Result (Option Reason) NoMemory) → IfOk found (IsWhy net)
    → IfOk found (λ what. IfSome what (λ reason. HasNoPlanOfCandidates net))
found_law net (Ok None) is = tt
found_law net (Ok (Some what)) is = no_plan net (kind_of what) is.is.holds
found_law net (Err stop) is = tt

-- the kind at a place
kind_at : ℕ → Kind
kind_at n =
    if nat_eq n 1 then kind.candidates
    else if nat_eq n 2 then kind.timing
    else if nat_eq n 3 then kind.shared
    else if nat_eq n 4 then kind.apart
    else if nat_eq n 5 then kind.deep
    else kind.few

at_place : (k : Kind) → kind_at (place_of k) ≡ k
unfolding kind_at
at_place kind.candidates = refl
at_place kind.timing = refl
at_place kind.shared = refl
at_place kind.apart = refl
at_place kind.deep = refl
at_place kind.few = refl

-- none comes before the first kind
none_first : {X : Type 0} (earlier : Kind) → IsTrue (is_before earlier kind.candidates) → X
none_first kind.candidates less = cc
none_first kind.timing less = cc
none_first kind.shared less = cc
none_first kind.apart less = cc
none_first kind.deep less = cc
none_first kind.few less = cc

module _ (net : Network) where
  -- where neither a kind holds nor one before it, none up to it does
  none_to : (k : Kind) → NoneBefore net k → ¬ Holds net k → (earlier : Kind) → place_of earlier ≤ place_of k → ¬ Holds net earlier
  none_to k before none earlier most = elim (cases_lt (place_of earlier) (place_of k)) [
    | inl less ↦ before earlier (lt-ltb (place_of earlier) (place_of k) less)
    | inr last ↦
        (let same : place_of earlier ≡ place_of k = omega (arith, most, last) in
        subst (λ j. ¬ Holds net j) (sym (sym (at_place earlier) ∙ ap kind_at same ∙ at_place k)) none)
  ]

  -- so it is of the next kind
  before_next : (k next : Kind) → place_of next ≡ place_of k + 1 → NoneBefore net k → ¬ Holds net k → NoneBefore net next
  before_next k next follows before none earlier less =
      let before_it = ltb-true (place_of earlier) (place_of next) less in
      none_to k before none earlier (omega (arith, follows, before_it))

  -- by the first domain that has all candidates, or none
  pub shared_judged : (found : Option ℕ) → found ≡ shared_domain net → Judges net kind.shared (option_map reason.Shared found)
  shared_judged None is = λ (k, within, all).
      both_ways (shares_all net k) (none_found (shares_all net) (length net.domains) k (sym is) within) all
  shared_judged (Some k) is =
      let (within, all) = found_passes (shares_all net) (length net.domains) k (sym is) in
      record { kind = refl; holds = (k, within, all); shows = sym is }

  -- what is known of a device
  far_of : (known : List (Option ℕ)) (from d : ℕ) (o : Option ℕ) → AreDistances net from known → d < length net.devices → get_or known d None ≡ o
      → IsFar net from d o
  far_of known from d o are within is = subst (λ (o : Option ℕ). IsFar net from d o) is (are.each d within)

  -- a device of which something is known is reached
  reached : (known : List (Option ℕ)) (from d : ℕ) → AreDistances net from known → d < length net.devices → is_unknown known d ≡ false
      → (n : ℕ) × IsDistance net from d n
  reached known from d are within known_is = by (get_or known d None) refl known_is
    where
      by : (o : Option ℕ) → get_or known d None ≡ o → is_none o ≡ false → (n : ℕ) × IsDistance net from d n
      by None is met = cc
      by (Some n) is met = (n, far_of known from d (Some n) are within is)

  unreached : (known : List (Option ℕ)) (from d : ℕ) → AreDistances net from known → d < length net.devices → is_unknown known d ≡ true
      → (n : ℕ) → ¬ Way net n from d
  unreached known from d are within unknown = by (get_or known d None) refl unknown
    where
      by : (o : Option ℕ) → get_or known d None ≡ o → is_none o ≡ true → (n : ℕ) → ¬ Way net n from d
      by None is none = far_of known from d None are within is
      by (Some n) is none = cc

  -- by the first device of which nothing is known
  pub apart_judged : (known : List (Option ℕ)) (found : Option ℕ) → AreDistances net 0 known → found ≡ find (is_unknown known) (below (length known))
      → Judges net kind.apart (option_map reason.Apart found)
  apart_judged known None are is = λ (d, within, apart).
      let met = none_found (is_unknown known) (length known) d (sym is) (subst (λ n. d < n) (sym are.count) within) in
      let (n, distance) = reached known 0 d are within met in
      apart n distance.way
  apart_judged known (Some d) are is =
      let (inside, unknown) = found_passes (is_unknown known) (length known) d (sym is) in
      let within : d < length net.devices = subst (λ n. d < n) are.count inside in
      let apart = unreached known 0 d are within unknown in
      record {
        kind = refl;
        holds = (d, within, apart);
        shows = (
          within,
          apart,
          λ e before.
              let met = least_found (is_unknown known) (length known) d (sym is) e before in
              let (n, distance) = reached known 0 e are (omega (arith, within, before)) met in
              (n, distance.way),
        );
      }

  -- where nothing is unknown, all are connected with the first
  pub all_connected : (known : List (Option ℕ)) → AreDistances net 0 known → None ≡ find (is_unknown known) (below (length known)) → IsConnected net
  all_connected known are is d within =
      let met = none_found (is_unknown known) (length known) d (sym is) (subst (λ n. d < n) (sym are.count) within) in
      let (n, distance) = reached known 0 d are within met in
      (n, distance.way)

  module _ (connected : IsConnected net) (known : List (Option ℕ)) (from : ℕ) (are : AreDistances net from known) (from_within : from < length net.devices) where
    distance_of : (d : ℕ) → d < length net.devices → (n : ℕ) × IsDistance net from d n × (slice_get known d ≡ Some (Some n))
    distance_of d within = by (get_or known d None) refl
      where
        at : slice_get known d ≡ Some (get_or known d None)
        at = slice_get-get_or known d None (subst (λ n. d < n) (sym are.count) within)

        by : (o : Option ℕ) → get_or known d None ≡ o → (n : ℕ) × IsDistance net from d n × (slice_get known d ≡ Some (Some n))
        by None is =
            let to_from = connected from from_within in
            let to_it = connected d within in
            let (n, way) = ways_join net to_from.0 to_it.0 from 0 d (way_back net to_from.0 0 from to_from.1) to_it.1 in
            absurd (far_of known from d None are within is n way)
        by (Some n) is = (n, far_of known from d (Some n) are within is, at ∙ ap (λ (o : Option ℕ). Some o) is)

    one_distance : (d m n : ℕ) → IsDistance net from d m → IsDistance net from d n → m ≡ n
    one_distance d m n first second = elim (cases_order m n) [
      | inl same ↦ same
      | inr (inl less) ↦ absurd (second.least m less first.way)
      | inr (inr more) ↦ absurd (first.least n more second.way)
    ]

    pub none_beyond : (far : Far) → IsFarthest known far.device far.hops → far.hops ≤ net.params.depth → FindsBeyond net from None
    none_beyond far is most d within =
        let (n, distance, at) = distance_of d within in (n, omega (arith, is.most d n at, most), distance.way)

    pub one_beyond : (far : Far) → IsFarthest known far.device far.hops → far.candidate ≡ from → net.params.depth < far.hops → FindsBeyond net from (Some far)
    one_beyond far is candidate beyond = (candidate, subst (λ c. IsFarthestFrom net (record far { candidate = c })) (sym candidate) farthest)
      where
        at : slice_get known far.device ≡ Some (Some far.hops)
        at = is.found (omega (arith, beyond))

        within : far.device < length net.devices
        within = subst (λ n. far.device < n) are.count (slice_get_within known far.device (Some far.hops) at)

        distance : IsDistance net from far.device far.hops
        distance =
            let (n, distance, known_at) = distance_of far.device within in
            subst (λ m. IsDistance net from far.device m) (same_Some n far.hops (same_Some (Some n) (Some far.hops) (sym known_at ∙ at))) distance

        farthest : IsFarthestFrom net (record far { candidate = from })
        farthest = record {
          within = within;
          distance = distance;
          most = λ d inside. (let (n, distance, known_at) = distance_of d inside in (n, is.most d n known_at, distance));
          first = λ d before distance.
              (let (n, other, known_at) = distance_of d (omega (arith, before, within)) in
              is.first d before
              (subst (λ m. slice_get known d ≡ Some (Some m)) (one_distance d n far.hops other distance) known_at) (omega (arith, beyond)));
          beyond = beyond;
        }

  pub too_deep : (candidate : ℕ) (far : Far) → FindsBeyond net candidate (Some far) → IsTooDeep net candidate
  too_deep candidate far (same, is) =
      subst (λ c. IsTooDeep net c) same
      (far.device, is.within, λ n shallow way. is.distance.least n (omega (arith, shallow, is.beyond)) way)

  pub not_deep : (candidate : ℕ) → FindsBeyond net candidate None → ¬ IsTooDeep net candidate
  not_deep candidate all (d, within, beyond) = let (n, shallow, way) = all d within in beyond n shallow way

  -- a reason that is found where nothing before it holds is the first
  pub is_first : (k : Kind) (what : Reason) → NoneBefore net k → IsReasonOf net k what → IsFirstReason net what
  is_first k what before is =
      record {
        is = subst (λ j. IsReasonOf net j what) (sym is.kind) is;
        first = subst (λ j. NoneBefore net j) (sym is.kind) before;
      }

  pub before_candidates : NoneBefore net kind.candidates
  before_candidates earlier less = none_first earlier less

  pub before_timing : ¬ Holds net kind.candidates → NoneBefore net kind.timing
  before_timing none = before_next kind.candidates kind.timing refl before_candidates none

  pub before_shared : NoneBefore net kind.timing → ¬ Holds net kind.timing → NoneBefore net kind.shared
  before_shared = before_next kind.timing kind.shared refl

  pub before_apart : NoneBefore net kind.shared → ¬ Holds net kind.shared → NoneBefore net kind.apart
  before_apart = before_next kind.shared kind.apart refl

  pub before_deep : NoneBefore net kind.apart → ¬ Holds net kind.apart → NoneBefore net kind.deep
  before_deep = before_next kind.apart kind.deep refl

  pub before_few : NoneBefore net kind.deep → ¬ Holds net kind.deep → NoneBefore net kind.few
  before_few = before_next kind.deep kind.few refl

  -- the last kind
  pub none_at_all : NoneBefore net kind.few → ¬ Holds net kind.few → (k : Kind) → ¬ Holds net k
  none_at_all before none k = none_to kind.few before none k (last k)
    where
      last : (k : Kind) → place_of k ≤ place_of kind.few
      last kind.candidates = omega arith
      last kind.timing = omega arith
      last kind.shared = omega arith
      last kind.apart = omega arith
      last kind.deep = omega arith
      last kind.few = omega arith
