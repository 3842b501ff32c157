-- The domains of a kind, up to a number and from it on.
use Rattle.std.specs.Prelude.{◌≡◌, ℕ, zero, suc, ◌+◌, ◌<◌, ◌≤◌, List, [], ◌∷◌, ◌++◌, map}
use Rattle.std.proofs.Common.{add-one, arith, refl, sym, ap, ◌∙◌, subst, inl, inr, append_assoc, append-nil, Option, Result, Ok, Err}
use Rattle.std.proofs.lemmas.Bool.{cases_lt}
use Rattle.std.proofs.lemmas.List.{map-append}
use Rattle.sd_num.specs.Lists.{below}
use Rattle.sd_plan.specs.topo.Network.{Network}
use Rattle.sd_plan.specs.domain.Domains.{domains}
use Rattle.sd_plan.specs.domain.Lone.{IsDomain}
use Rattle.sd_plan.specs.declared.domain.DomainId.{DomainId}
use Rattle.sd_drill_text.specs.Kinds.{count_of, domain_at, first_of, all_of}
use Rattle.sd_drill_text.specs.declared.kinds.Kind.{Kind}
use Rattle.sd_drill_text.specs.declared.kinds.Kind.TheVariants as kind
use Rattle.sd_io.specs.outside.Pieces.{Pieces, piece_of}
use Rattle.sd_files.specs.declared.command_error.IoError.{IoError}
use Rattle.sd_drill_text.specs.Adding.{Added, AddsLines}
use Rattle.sd_drill_text.proofs.Prefixes.{HasLines, adds_on, adds_stopped, lines_both}

abbrev pub AllBelow : ℕ → List ℕ → Type 0
AllBelow n [] = Unit {0}
AllBelow n (x ∷ xs) = (x < n) × AllBelow n xs

below_more : (n : ℕ) (xs : List ℕ) → AllBelow n xs → AllBelow (suc n) (xs ++ n ∷ [])
below_more n [] all = (omega arith, tt)
below_more n (x ∷ xs) (less, rest) = (omega (arith, less), below_more n xs rest)

-- what stands after the first numbers
pub record Behind (k n : ℕ) : Type 0 where
  pub rest : List ℕ
  pub whole : below n ≡ below k ++ rest
  pub within : AllBelow n rest

pub behind : (k n : ℕ) → k ≤ n → Behind k n
behind k zero few = let none : k ≡ zero = omega (arith, few) in record { rest = []; whole = subst (λ (m : ℕ). [] ≡ below m ++ []) (sym none) refl; within = tt }
behind k (suc n) few =
    elim (cases_lt k (suc n)) [
      | inl less ↦ (let before = behind k n (omega (arith, less)) in record {
        rest = before.rest ++ n ∷ [];
        whole = ap (λ (xs : List ℕ). xs ++ n ∷ []) before.whole ∙ append_assoc (below k) before.rest (n ∷ []);
        within = below_more n before.rest before.within;
      })
      | inr last ↦ (let same : k ≡ suc n = omega (arith, few, last) in
          record { rest = []; whole = subst (λ (m : ℕ). below (suc n) ≡ below m ++ []) (sym same) (sym (append-nil (below (suc n)))); within = tt })
    ]

-- one domain more
pub first_more : (kind : Kind) (n : ℕ) → first_of kind n ++ domain_at kind n ∷ [] ≡ first_of kind (n + 1)
first_more kind n = sym (ap (first_of kind) (add-one n) ∙ map-append (domain_at kind) (below n) (n ∷ []))

-- and those after it
pub all_split : (net : Network) (kind : Kind) (n : ℕ) (b : Behind n (count_of net kind)) → first_of kind n ++ map (domain_at kind) b.rest ≡ all_of net kind
all_split net kind n b = sym (ap (map (domain_at kind)) b.whole ∙ map-append (domain_at kind) (below n) b.rest)

pub in_range : (net : Network) (k : Kind) (n : ℕ) → n < count_of net k → IsDomain net (domain_at k n)
in_range net kind.Listed n less = less
in_range net kind.Device n less = less
in_range net kind.Link n less = less

module _ (net : Network) (Lines : DomainId → List ℕ → Type 0) (has : (f : DomainId) → IsDomain net f → (lines : List ℕ) × Lines f lines) where
  -- there are lines of each domain
  pub has_one : (f : DomainId) → IsDomain net f → HasLines Lines (f ∷ [])
  has_one f is = let found = has f is in (piece_of found.0, (found.0, [], found.1, refl, sym (append-nil (piece_of found.0))))

  pub has_more : (kind : Kind) (numbers : List ℕ) → AllBelow (count_of net kind) numbers → HasLines Lines (map (domain_at kind) numbers)
  has_more kind [] all = ([], refl)
  has_more kind (n ∷ ns) (less, rest) =
      let found = has (domain_at kind n) (in_range net kind n less) in
      let others = has_more kind ns rest in
      (piece_of found.0 ++ others.0, (found.0, others.0, found.1, others.1, refl))

  pub has_kind : (kind : Kind) → HasLines Lines (all_of net kind)
  has_kind kind = has_more kind (below (count_of net kind)) (within (count_of net kind))
    where
      within : (n : ℕ) → AllBelow n (below n)
      within zero = tt
      within (suc n) = below_more n (below n) (within n)

  -- the lines of one domain more
  pub kind_more : (k : Kind) (n : ℕ) (f : DomainId) (first before after : Option Pieces) → f ≡ domain_at k n
      → Added Lines (first_of k n) first before → Added Lines (f ∷ []) before after
      → Added Lines (first_of k (n + 1)) first after
  kind_more k n f first before after is added next =
      subst (λ (fs : List DomainId). Added Lines fs first after) (ap (λ (g : DomainId). first_of k n ++ g ∷ []) is ∙ first_more k n)
      (adds_on Lines (Unit {0}) (first_of k n) (f ∷ []) first before after (Ok tt) added next)

  -- a run that was stopped at a domain
  pub kind_stopped : (T U : Type 0) (k : Kind) (n : ℕ) (f : DomainId) (first before after : Option Pieces) (why : IoError) → n < count_of net k
      → f ≡ domain_at k n → Added Lines (first_of k n) first before
      → AddsLines {T = T} Lines (f ∷ []) before after (Err why) → AddsLines {T = U} Lines (all_of net k) first after (Err why)
  kind_stopped T U k n f first before after why less is added next =
      let b : Behind (n + 1) (count_of net k) = behind (n + 1) (count_of net k) (omega (arith, less)) in
      let here : AddsLines {T = T} Lines (first_of k (n + 1)) first after (Err why) =
      subst (λ (fs : List DomainId). AddsLines {T = T} Lines fs first after (Err why))
      (ap (λ (g : DomainId). first_of k n ++ g ∷ []) is ∙ first_more k n)
      (adds_on Lines T (first_of k n) (f ∷ []) first before after (Err why) added next) in
      subst (λ (fs : List DomainId). AddsLines {T = U} Lines fs first after (Err why)) (all_split net k (n + 1) b)
      (adds_stopped Lines T U (first_of k (n + 1)) (map (domain_at k) b.rest) first after why (has_more k b.rest b.within) here)

  -- the three kinds, and a run that was stopped at one of them
  abbrev L : List DomainId
  L = all_of net kind.Listed

  abbrev D : List DomainId
  D = all_of net kind.Device

  abbrev K : List DomainId
  K = all_of net kind.Link

  pub stopped_first : (T U : Type 0) (first after : Option Pieces) (why : IoError) → AddsLines {T = T} Lines L first after (Err why)
      → AddsLines {T = U} Lines (domains net) first after (Err why)
  stopped_first T U first after why adds =
      adds_stopped Lines T U (L ++ D) K first after why (has_kind kind.Link)
      (adds_stopped Lines T T L D first after why (has_kind kind.Device) adds)

  pub stopped_second : (T U : Type 0) (first before after : Option Pieces) (why : IoError) → Added Lines L first before
      → AddsLines {T = T} Lines D before after (Err why)
      → AddsLines {T = U} Lines (domains net) first after (Err why)
  stopped_second T U first before after why added adds =
      adds_stopped Lines T U (L ++ D) K first after why (has_kind kind.Link) (adds_on Lines T L D first before after (Err why) added adds)

  pub come_third : {T : Type 0} (first before between after : Option Pieces) (result : Result T IoError) → Added Lines L first before
      → Added Lines D before between → AddsLines Lines K between after result
      → AddsLines Lines (domains net) first after result
  come_third {T} first before between after result added added' adds =
      adds_on Lines T (L ++ D) K first between after result (adds_on Lines (Unit {0}) L D first before between (Ok tt) added added') adds

  pub has_all : HasLines Lines (domains net)
  has_all = let l = has_kind kind.Listed in let d = has_kind kind.Device in let k = has_kind kind.Link in
      ((l.0 ++ d.0) ++ k.0, lines_both Lines (L ++ D) K (l.0 ++ d.0) k.0 (lines_both Lines L D l.0 d.0 l.1 d.1) k.1)
