-- Bridges are counted a link at a time, and there is one count.
use Rattle.std.proofs.Common.{◌≡◌, ℕ, ◌+◌, ◌*◌, ◌-◌, ◌/◌, ◌<◌, ◌≤◌, inl, inr, true, List, [], ◌∷◌, ◌++◌, length, nat_eq, nat_le, refl, sym, ap, ◌∙◌, subst, arith, length-append}
use Rattle.std.proofs.lemmas.Bool.{and_from, and_parts, cases_lt, le-leb, or_right}
use Rattle.sd_num.specs.Lists.{ascends, has}
use Rattle.sd_num.proofs.Distinct.{few}
use Rattle.sd_num.proofs.Places.{has_before, has_cases, has_last}
use Rattle.sd_plan.specs.topo.Network.{Network}
use Rattle.sd_why.specs.Bridges.{AreBridgesBelow, CountsBelow, CountsBridges, HasFewLinks, IsBridge, TooFewWith}
use Rattle.sd_why.specs.Kinds.{Holds}
use Rattle.sd_why.specs.Kinds as kind
use Rattle.sd_why.specs.Reasons.{IsReasonOf}
use Rattle.sd_why.specs.declared.Reason.TheVariants as reason
use Rattle.sd_why.proofs.Counting.{ascending_apart, no_more}

-- one more above all that ascend
ascends_more : (xs : List ℕ) (n : ℕ) → ascends xs ≡ true → ((x : ℕ) → has xs x ≡ true → x < n) → ascends (xs ++ n ∷ []) ≡ true
ascends_more [] n up most = refl
ascends_more (x ∷ []) n up most = and_from (nat_le (x + 1) n) true (le-leb (x + 1) n (let less = most x (has_last [] x) in omega (arith, less))) refl
ascends_more (x ∷ y ∷ ys) n up most =
    let (first, rest) = and_parts (nat_le (x + 1) y) (ascends (y ∷ ys)) up in
    and_from (nat_le (x + 1) y) (ascends (y ∷ ys ++ n ∷ [])) first (ascends_more (y ∷ ys) n rest (λ z there. most z (later z there)))
  where
    later : (z : ℕ) → has (y ∷ ys) z ≡ true → has (x ∷ y ∷ ys) z ≡ true
    later z there = or_right (nat_eq z x) (has (y ∷ ys) z) there

module _ (net : Network) where
  pub counts_none : CountsBelow net 0 0
  counts_none = ([], record { ascend = refl; are = λ l there. cc; all = λ l less. absurd (omega arith) }, refl)

  pub counts_more : (n count : ℕ) → IsBridge net n → CountsBelow net n count → CountsBelow net (n + 1) (count + 1)
  counts_more n count bridge (bridges, are, size) = (
    bridges ++ n ∷ [],
    record {
      ascend = ascends_more bridges n are.ascend (λ l there. (are.are l there).0);
      are = λ l there. elim (has_cases bridges n l there) [
        | inl before ↦ (let is = are.are l before in (omega (arith, is.0), is.1))
        | inr last ↦ (omega (arith, last), subst (λ k. IsBridge net k) (sym last) bridge)
      ];
      all = λ l less is. elim (cases_lt l n) [
        | inl early ↦ has_before bridges n l (are.all l early is)
        | inr late ↦
            (let same : l ≡ n = omega (arith, less, late) in
            subst (λ k. has (bridges ++ n ∷ []) k ≡ true) (sym same) (has_last bridges n))
      ];
    },
    length-append bridges (n ∷ []) ∙ ap (λ k. k + 1) size,
  )

  pub counts_same : (n count : ℕ) → ¬ IsBridge net n → CountsBelow net n count → CountsBelow net (n + 1) count
  counts_same n count none (bridges, are, size) = (
    bridges,
    record {
      ascend = are.ascend;
      are = λ l there. (let is = are.are l there in (omega (arith, is.0), is.1));
      all = λ l less is. elim (cases_lt l n) [
        | inl early ↦ are.all l early is
        | inr late ↦ (let same : l ≡ n = omega (arith, less, late) in absurd (none (subst (λ k. IsBridge net k) same is)))
      ];
    },
    size,
  )

  -- there is no other count
  one_count : (bound : ℕ) (bridges others : List ℕ) → AreBridgesBelow net bound bridges → AreBridgesBelow net bound others
      → length bridges ≤ length others
  one_count bound bridges others are also =
      no_more bridges others (ascending_apart bridges are.ascend) (λ l there. (let is = are.are l there in also.all l is.0 is.1))

  most_bridges : (bridges : List ℕ) → AreBridgesBelow net (length net.links) bridges → length bridges ≤ length net.links
  most_bridges bridges are = few bridges (length net.links) (ascending_apart bridges are.ascend) (λ l there. (are.are l there).0)

  -- with so many links they are enough, however many bridges there are
  pub enough_links : 3 * length net.devices ≤ 2 * length net.links + 4 → ¬ HasFewLinks net
  enough_links enough is = short (length net.devices) (length net.links) (length is.bridges) (most_bridges is.bridges is.are) is.few enough
    where
      short : (n m b : ℕ) → b ≤ m → m < b + ((3 * (n - b) + 1) / 2 - 2) → 3 * n ≤ 2 * m + 4 → ⊥
      short n m b most lacks needs = omega (arith, most, lacks, needs)

  pub few_judged : (count : ℕ) → CountsBridges net count → TooFewWith net count → IsReasonOf net kind.few (reason.Few count)
  few_judged count counted lacks = record {
    kind = refl;
    holds = record { bridges = counted.0; are = counted.1; few = subst (λ n. TooFewWith net n) (sym counted.2) lacks };
    shows = counted;
  }

  pub not_few : (count : ℕ) → CountsBridges net count → (TooFewWith net count → ⊥) → ¬ HasFewLinks net
  not_few count (bridges, are, size) enough is =
      let one : length bridges ≤ length is.bridges = one_count (length net.links) bridges is.bridges are is.are in
      let other : length is.bridges ≤ length bridges = one_count (length net.links) is.bridges bridges is.are are in
      let same : length is.bridges ≡ count = omega (arith, one, other, size) in
      enough (subst (λ n. TooFewWith net n) same is.few)
