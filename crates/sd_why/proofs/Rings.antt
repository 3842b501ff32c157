-- Rings of devices that are as far away as each other: how one follows another, and that in the end all is known.
use Rattle.std.proofs.Common.{◌≡◌, ℕ, zero, suc, ◌+◌, ◌<◌, ◌≤◌, ◌⊎◌, ◌||◌, inl, inr, nat_eq, true, false, List, [], ◌∷◌, ◌++◌, length, get_or, set, replicate, Option, None, Some, refl, sym, ap, ◌∙◌, subst, arith, slice_get, length-append}
use Rattle.std.proofs.lemmas.Bool.{cases_eq, cases_lt, eq-eqb, eqb-true, or_cases, or_left}
use Rattle.std.proofs.lemmas.List.{get_or-replicate}
use Rattle.std.proofs.lemmas.Option.{same_Some, slice_get-get_or, slice_get_within}
use Rattle.std.proofs.Math.ListN.{length-set, length-replicate}
use Rattle.sd_num.specs.Lists.{has}
use Rattle.sd_num.proofs.Places.{at_has, has_before, has_cases, has_last, at_written, at_unwritten}
use Rattle.sd_plan.specs.topo.Network.{Network}
use Rattle.sd_plan.specs.topo.Limits.{IsNetwork}
use Rattle.sd_why.specs.Ways.{AreDistances, IsDistance, IsFar, NextTo, Way}
use Rattle.sd_why.specs.Rings.{AreRings, IsMeeting, IsMet, IsNext, Spreads, unknown_count}
use Rattle.sd_why.proofs.Joining.{next_within, turned, way_here, way_last, way_on, no_way}

-- nothing and something is not known of the same device
unknown_met : (known : List (Option ℕ)) (d k : ℕ) → slice_get known d ≡ Some None → slice_get known d ≡ Some (Some k) → ⊥
unknown_met known d k none some = let wrong : ◌≡◌ {A = Option (Option ℕ)} (Some None) (Some (Some k)) = sym none ∙ some in cc

-- two things that are known of one device are the same
same_hops : (known : List (Option ℕ)) (d j k : ℕ) → slice_get known d ≡ Some (Some j) → slice_get known d ≡ Some (Some k) → j ≡ k
same_hops known d j k first second = same_Some j k (same_Some (Some j) (Some k) (sym first ∙ second))

-- one less is unknown
unknown_less : (known : List (Option ℕ)) (d k : ℕ) → slice_get known d ≡ Some None → unknown_count (set known d (Some k)) + 1 ≡ unknown_count known
unknown_less [] d k none = cc
unknown_less (x ∷ xs) zero k none =
    let is : x ≡ None = same_Some x None none in
    subst (λ (o : Option ℕ). unknown_count (set (o ∷ xs) 0 (Some k)) + 1 ≡ unknown_count (o ∷ xs)) (sym is) (omega arith)
unknown_less (None ∷ xs) (suc d) k none = let rest = unknown_less xs d k none in omega (arith, rest)
unknown_less (Some j ∷ xs) (suc d) k none = unknown_less xs d k none

module _ (net : Network) (ring : List ℕ) (hops : ℕ) where
  -- at the start
  pub spreads_start : (old : List (Option ℕ)) → Spreads net ring hops old old []
  spreads_start old = record {
    size = refl;
    kept = λ e k is. is;
    added = λ e k is. inl is;
    listed = λ e there. cc;
    room = omega arith;
  }

  -- one device more
  spreads_more : (old known : List (Option ℕ)) (next : List ℕ) (d e : ℕ) → has ring d ≡ true → NextTo net d e → slice_get known e ≡ Some None
      → Spreads net ring hops old known next
      → Spreads net ring hops old (set known e (Some hops)) (next ++ e ∷ [])
  spreads_more old known next d e in_ring beside none so_far = record { size = size; kept = kept; added = added; listed = listed; room = room }
    where
      within : e < length known
      within = slice_get_within known e None none

      apart : (x k : ℕ) → slice_get known x ≡ Some (Some k) → x ≡ e → ⊥
      apart x k is same = unknown_met known e k none (subst (λ y. slice_get known y ≡ Some (Some k)) same is)

      stays : (x k : ℕ) → slice_get known x ≡ Some (Some k) → slice_get (set known e (Some hops)) x ≡ Some (Some k)
      stays x k is = at_unwritten known e x (Some hops) (apart x k is) ∙ is

      size : length (set known e (Some hops)) ≡ length old
      size = length-set known e (Some hops) ∙ so_far.size

      kept : (x k : ℕ) → slice_get old x ≡ Some (Some k) → slice_get (set known e (Some hops)) x ≡ Some (Some k)
      kept x k is = stays x k (so_far.kept x k is)

      more : (x k : ℕ) → (slice_get old x ≡ Some (Some k)) ⊎ ((k ≡ hops) × (has next x ≡ true))
          → (slice_get old x ≡ Some (Some k)) ⊎ ((k ≡ hops) × (has (next ++ e ∷ []) x ≡ true))
      more x k (inl was) = inl was
      more x k (inr new) = inr (new.0, has_before next e x new.1)

      added : (x k : ℕ) → slice_get (set known e (Some hops)) x ≡ Some (Some k)
          → (slice_get old x ≡ Some (Some k)) ⊎ ((k ≡ hops) × (has (next ++ e ∷ []) x ≡ true))
      added x k is = elim (cases_eq x e) [
        | inl same ↦
            inr (
              same_hops (set known e (Some hops)) x k hops is (subst (λ y. slice_get (set known e (Some hops)) y ≡ Some (Some hops)) (sym same)
                  (at_written known e (Some hops) within)),
              subst (λ y. has (next ++ e ∷ []) y ≡ true) (sym same) (has_last next e),
            )
        | inr other ↦ more x k (so_far.added x k (sym (at_unwritten known e x (Some hops) other) ∙ is))
      ]

      was : slice_get old e ≡ Some None
      was = by (get_or old e None) (slice_get-get_or old e None (subst (λ n. e < n) so_far.size within))
        where
          by : (o : Option ℕ) → slice_get old e ≡ Some o → slice_get old e ≡ Some None
          by None is = is
          by (Some k) is = absurd (apart e k (so_far.kept e k is) refl)

      listed : (x : ℕ) → has (next ++ e ∷ []) x ≡ true → IsNext net ring hops old (set known e (Some hops)) x
      listed x there = elim (has_cases next e x there) [
        | inl before ↦
            (let is = so_far.listed x before in
            record { was = is.was; now = stays x hops is.now; from = is.from; in_ring = is.in_ring; next_to = is.next_to })
        | inr last ↦
            subst (λ y. IsNext net ring hops old (set known e (Some hops)) y) (sym last)
            (record { was = was; now = at_written known e (Some hops) within; from = d; in_ring = in_ring; next_to = beside })
      ]

      room : length (next ++ e ∷ []) + unknown_count (set known e (Some hops)) ≡ unknown_count old
      room = omega (arith, length-append next (e ∷ []), unknown_less known e hops none, so_far.room)

  -- as a device is met
  pub spreads_meeting : (old known new : List (Option ℕ)) (next more : List ℕ) (d e : ℕ) → has ring d ≡ true → NextTo net d e
      → IsMeeting known new next more e hops
      → Spreads net ring hops old known next
      → Spreads net ring hops old new more
  spreads_meeting old known new next more d e in_ring beside (inl met) so_far =
      subst (λ (ks : List (Option ℕ)). Spreads net ring hops old ks more) (sym met.1)
      (subst (λ (xs : List ℕ). Spreads net ring hops old known xs) (sym met.2) so_far)
  spreads_meeting old known new next more d e in_ring beside (inr fresh) so_far =
      subst (λ (ks : List (Option ℕ)). Spreads net ring hops old ks more) (sym fresh.1)
      (subst (λ (xs : List ℕ). Spreads net ring hops old (set known e (Some hops)) xs) (sym fresh.2)
      (spreads_more old known next d e in_ring beside fresh.0 so_far))

-- who was met stays so, and the one that is met is
pub meeting_keeps : (known new : List (Option ℕ)) (next more : List ℕ) (e hops x : ℕ) → IsMeeting known new next more e hops → IsMet known x → IsMet new x
meeting_keeps known new next more e hops x (inl met) was = subst (λ (ks : List (Option ℕ)). IsMet ks x) (sym met.1) was
meeting_keeps known new next more e hops x (inr fresh) was =
    subst (λ (ks : List (Option ℕ)). IsMet ks x) (sym fresh.1)
    (record {
      hops = was.hops;
      at = at_unwritten known e x (Some hops)
          (λ same. unknown_met known e was.hops fresh.0 (subst (λ y. slice_get known y ≡ Some (Some was.hops)) same was.at)) ∙ was.at;
    })

pub meeting_meets : (known new : List (Option ℕ)) (next more : List ℕ) (e hops : ℕ) → IsMeeting known new next more e hops → IsMet new e
meeting_meets known new next more e hops (inl met) = subst (λ (ks : List (Option ℕ)). IsMet ks e) (sym met.1) met.0
meeting_meets known new next more e hops (inr fresh) =
    subst (λ (ks : List (Option ℕ)). IsMet ks e) (sym fresh.1)
    (record { hops = hops; at = at_written known e (Some hops) (slice_get_within known e None fresh.0) })

pub meeting_size : (known new : List (Option ℕ)) (next more : List ℕ) (e hops : ℕ) → IsMeeting known new next more e hops → length new ≡ length known
meeting_size known new next more e hops (inl met) = ap length met.1
meeting_size known new next more e hops (inr fresh) = ap length fresh.1 ∙ length-set known e (Some hops)

pub spreads_keeps : (net : Network) (ring : List ℕ) (hops : ℕ) (old new : List (Option ℕ)) (next : List ℕ) (x : ℕ) → Spreads net ring hops old new next
    → IsMet old x → IsMet new x
spreads_keeps net ring hops old new next x spreads was = record { hops = was.hops; at = spreads.kept x was.hops was.at }

unknown_all : (n : ℕ) → unknown_count (replicate n None) ≡ n
unknown_all zero = refl
unknown_all (suc n) = ap suc (unknown_all n)

-- a list that is not empty has something
has_first : (xs : List ℕ) → 1 ≤ length xs → (x : ℕ) × (has xs x ≡ true)
has_first [] some = absurd (omega arith)
has_first (x ∷ xs) some = (x, has_head)
  where
    has_head : has (x ∷ xs) x ≡ true
    has_head = ap (λ b. b || has xs x) (eq-eqb x x refl)

module _ (net : Network) (from : ℕ) where
  -- the ring of the device itself
  pub rings_start : from < length net.devices → AreRings net from 0 (set (replicate (length net.devices) None) from (Some 0)) (from ∷ [])
  rings_start within = record { size = size; start = start; right = right; closed = closed; last = last; all = all; room = room }
    where
      blank : List (Option ℕ)
      blank = replicate (length net.devices) None

      known : List (Option ℕ)
      known = set blank from (Some 0)

      count : length blank ≡ length net.devices
      count = length-replicate (length net.devices) None

      size : length known ≡ length net.devices
      size = length-set blank from (Some 0) ∙ count

      inside : from < length blank
      inside = subst (λ n. from < n) (sym count) within

      start : slice_get known from ≡ Some (Some 0)
      start = at_written blank from (Some 0) inside

      nothing : (x : ℕ) → x < length net.devices → slice_get blank x ≡ Some None
      nothing x there =
          slice_get-get_or blank x None (subst (λ n. x < n) (sym count) there)
          ∙ ap (λ (o : Option ℕ). Some o) (get_or-replicate (length net.devices) x None None there)

      only : (x k : ℕ) → slice_get known x ≡ Some (Some k) → (x ≡ from) × (k ≡ 0)
      only x k is = elim (cases_eq x from) [
        | inl same ↦ (same, same_hops known x k 0 is (subst (λ y. slice_get known y ≡ Some (Some 0)) (sym same) start))
        | inr other ↦
            (let there : x < length net.devices = subst (λ n. x < n) size (slice_get_within known x (Some k) is) in
            absurd (unknown_met blank x k (nothing x there) (sym (at_unwritten blank from x (Some 0) other) ∙ is)))
      ]

      right : (d k : ℕ) → slice_get known d ≡ Some (Some k) → IsDistance net from d k × (k ≤ 0)
      right d k is =
          let (here, none) = only d k is in (
            record {
              way = subst (λ n. Way net n from d) (sym none) (subst (λ x. Way net 0 from x) (sym here) (way_here net from));
              least = λ m less. absurd (omega (arith, none));
            },
            omega (arith, none),
          )

      closed : (d e k : ℕ) → slice_get known d ≡ Some (Some k) → k < 0 → NextTo net d e → IsMet known e
      closed d e k is less beside = absurd (omega arith)

      last : (d : ℕ) → has (from ∷ []) d ≡ true → slice_get known d ≡ Some (Some 0)
      last d there = elim (or_cases (nat_eq d from) false there) [
        | inl here ↦ subst (λ x. slice_get known x ≡ Some (Some 0)) (sym (eqb-true d from here)) start
        | inr none ↦ cc
      ]

      all : (d : ℕ) → slice_get known d ≡ Some (Some 0) → has (from ∷ []) d ≡ true
      all d is = or_left (nat_eq d from) false (eq-eqb d from (only d 0 is).0)

      room : 1 ≤ length (from ∷ []) → 0 + unknown_count known + length (from ∷ []) ≤ length net.devices
      room some = omega (arith, unknown_less blank from 0 (nothing from within), unknown_all (length net.devices))

  module _ (hops : ℕ) (known : List (Option ℕ)) (ring : List ℕ) (rings : AreRings net from hops known ring) where
    -- all that is as near as the ring is known
    near_met : (m d : ℕ) → m ≤ hops → Way net m from d → IsMet known d
    near_met zero d near way = record { hops = 0; at = subst (λ x. slice_get known x ≡ Some (Some 0)) (no_way net from d way) rings.start }
    near_met (suc m) d near way =
        let (x, before, beside) = way_last net m from d way in
        let met : IsMet known x = near_met m x (omega arith) before in
        let (distance, most) = rings.right x met.hops met.at in
        elim (cases_lt m met.hops) [
          | inl longer ↦ absurd (distance.least m longer before)
          | inr enough ↦ rings.closed x d met.hops met.at (omega arith) beside
        ]

    -- the next ring
    pub rings_next : (new : List (Option ℕ)) (next : List ℕ) → IsNetwork net → Spreads net ring (hops + 1) known new next
        → ((d e : ℕ) → has ring d ≡ true → e < length net.devices → NextTo net d e → IsMet new e)
        → AreRings net from (hops + 1) new next
    rings_next new next law spreads met = record {
      size = spreads.size ∙ rings.size;
      start = spreads.kept from 0 rings.start;
      right = right;
      closed = closed;
      last = λ d there. (spreads.listed d there).now;
      all = all;
      room = room;
    }
      where
        new_distance : (d : ℕ) → has next d ≡ true → IsDistance net from d (hops + 1)
        new_distance d there =
            let is = spreads.listed d there in
            let (distance, most) = rings.right is.from hops (rings.last is.from is.in_ring) in
            record {
              way = subst (λ n. Way net n from d) (omega arith) (way_on net hops from is.from d distance.way is.next_to);
              least = λ m less way. (let known_before = near_met m d (omega arith) way in unknown_met known d known_before.hops is.was known_before.at);
            }

        right : (d k : ℕ) → slice_get new d ≡ Some (Some k) → IsDistance net from d k × (k ≤ hops + 1)
        right d k is = elim (spreads.added d k is) [
          | inl was ↦ (let (distance, most) = rings.right d k was in (distance, omega arith))
          | inr fresh ↦ (subst (λ n. IsDistance net from d n) (sym fresh.0) (new_distance d fresh.1), omega (arith, fresh.0))
        ]

        closed : (d e k : ℕ) → slice_get new d ≡ Some (Some k) → k < hops + 1 → NextTo net d e → IsMet new e
        closed d e k is less beside = elim (spreads.added d k is) [
          | inl was ↦ (elim (cases_lt k hops) [
            | inl nearer ↦ spreads_keeps net ring (hops + 1) known new next e spreads (rings.closed d e k was nearer beside)
            | inr last ↦
                (let same : k ≡ hops = omega arith in
                met d e (rings.all d (subst (λ n. slice_get known d ≡ Some (Some n)) same was)) (next_within net law e d (turned net d e beside)) beside)
          ])
          | inr fresh ↦ absurd (omega (arith, fresh.0))
        ]

        all : (d : ℕ) → slice_get new d ≡ Some (Some (hops + 1)) → has next d ≡ true
        all d is = elim (spreads.added d (hops + 1) is) [
          | inl was ↦ (let (distance, most) = rings.right d (hops + 1) was in absurd (omega arith))
          | inr fresh ↦ fresh.1
        ]

        room : 1 ≤ length next → hops + 1 + unknown_count new + length next ≤ length net.devices
        room some =
            let (d, there) = has_first next some in
            let is = spreads.listed d there in
            let (i, at) = at_has ring is.from is.in_ring in
            let long : 1 ≤ length ring = omega (arith, slice_get_within ring i is.from at) in
            omega (arith, rings.room long, spreads.room, long)

  -- after as many rings as there are devices all is known
  pub rings_end : (hops : ℕ) (known : List (Option ℕ)) (ring : List ℕ) → hops ≡ length net.devices → AreRings net from hops known ring
      → AreDistances net from known
  rings_end hops known ring done rings = record { count = rings.size; each = λ d within. by d (get_or known d None) refl (at d within) }
    where
      at : (d : ℕ) → d < length net.devices → slice_get known d ≡ Some (get_or known d None)
      at d within = slice_get-get_or known d None (subst (λ n. d < n) (sym rings.size) within)

      no_ring : (d : ℕ) → has ring d ≡ true → ⊥
      no_ring d there =
          let (i, at) = at_has ring d there in
          let long : 1 ≤ length ring = omega (arith, slice_get_within ring i d at) in
          omega (arith, rings.room long, done)

      met : (n d : ℕ) → Way net n from d → IsMet known d
      met zero d way = record { hops = 0; at = subst (λ x. slice_get known x ≡ Some (Some 0)) (no_way net from d way) rings.start }
      met (suc n) d way =
          let (x, before, beside) = way_last net n from d way in
          let is : IsMet known x = met n x before in
          let (distance, most) = rings.right x is.hops is.at in
          elim (cases_lt is.hops hops) [
            | inl nearer ↦ rings.closed x d is.hops is.at nearer beside
            | inr last ↦
                (let same : is.hops ≡ hops = omega arith in
                absurd (no_ring x (rings.all x (subst (λ n. slice_get known x ≡ Some (Some n)) same is.at))))
          ]

      by : (d : ℕ) (o : Option ℕ) → get_or known d None ≡ o → slice_get known d ≡ Some (get_or known d None) → IsFar net from d (get_or known d None)
      by d None is there =
          subst (λ (o : Option ℕ). IsFar net from d o) (sym is)
          (λ n way. (let found = met n d way in unknown_met known d found.hops (there ∙ ap (λ (o : Option ℕ). Some o) is) found.at))
      by d (Some k) is there =
          subst (λ (o : Option ℕ). IsFar net from d o) (sym is) (rings.right d k (there ∙ ap (λ (o : Option ℕ). Some o) is)).0
