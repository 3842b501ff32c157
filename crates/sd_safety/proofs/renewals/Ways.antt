-- Devices that are joined are so by as many links as there are devices at most: a way that comes back to a device can be cut there, and numbers below a bound
-- of which none
-- comes twice are as many at most.
use Rattle.std.specs.Prelude.{◌≡◌, ℕ, zero, suc, ◌<◌, ◌≤◌, Bool, true, false, ◌&&◌, List, [], ◌∷◌, length, nat_eq, refl, ◌⊎◌}
use Rattle.std.specs.List.{list_any}
use Rattle.std.proofs.Common.{arith, sym, subst, inl, inr}
use Rattle.std.proofs.lemmas.Bool.{and_from, or_left, or_right, or_cases, eqb-true, eq-eqb}
use Rattle.sd_num.specs.Lists.{has}
use Rattle.sd_plan.specs.topo.Network.{Network, joins, device_numbers, link_numbers}
use Rattle.sd_plan.specs.topo.Joined.{Joined, here, over, joined_within}
use Rattle.sd_num.proofs.Distinct.{AreDistinct, few}
use Rattle.sd_history.proofs.Shared.{among_below}
use Rattle.sd_history.proofs.Among.{any_passing}

module _ (net : Network) (may_pass may_cross : ℕ → Bool) (known : (e : ℕ) → may_pass e ≡ true → e < length net.devices) where
  abbrev has_link : ℕ → ℕ → Bool
  has_link d e = list_any (λ l. may_cross l && joins net l d e) (link_numbers net)

  -- a way over these devices
  abbrev IsWay : ℕ → List ℕ → ℕ → Type 0
  IsWay d [] x = d ≡ x
  IsWay d (e ∷ es) x = (has_link d e ≡ true) × (may_pass e ≡ true) × IsWay e es x

  -- one that comes to no device twice
  record Straight (d x : ℕ) : Type 0 where
    over_ : List ℕ
    way : IsWay d over_ x
    once : AreDistinct (d ∷ over_)

  -- what is left of a way behind a device on it
  cut : (d e x : ℕ) (es : List ℕ) → IsWay e es x → AreDistinct (e ∷ es) → has (e ∷ es) d ≡ true → Straight d x
  cut d e x [] way once on = by (or_cases (nat_eq d e) false on)
    where
      by : (nat_eq d e ≡ true) ⊎ (false ≡ true) → Straight d x
      by (inl is) = subst (λ z. Straight z x) (sym (eqb-true d e is)) (record { over_ = []; way = way; once = once })
      by (inr is) = cc
  cut d e x (y ∷ ys) way once on = by (or_cases (nat_eq d e) (has (y ∷ ys) d) on) (cut d y x ys way.2 once.1)
    where
      by : (nat_eq d e ≡ true) ⊎ (has (y ∷ ys) d ≡ true) → (has (y ∷ ys) d ≡ true → Straight d x) → Straight d x
      by (inl is) rest = subst (λ z. Straight z x) (sym (eqb-true d e is)) (record { over_ = y ∷ ys; way = way; once = once })
      by (inr more) rest = rest more

  longer : (d e x : ℕ) → has_link d e ≡ true → may_pass e ≡ true → Straight e x → Straight d x
  longer d e x linked passes rest = by (has (e ∷ rest.over_) d) refl
    where
      by : (b : Bool) → has (e ∷ rest.over_) d ≡ b → Straight d x
      by true on = cut d e x rest.over_ rest.way rest.once on
      by false off = record { over_ = e ∷ rest.over_; way = (linked, passes, rest.way); once = (off, rest.once) }

  straight : (d x : ℕ) → Joined net may_pass may_cross d x → Straight d x
  straight d _ here = record { over_ = []; way = refl; once = (refl, tt) }
  straight d x (over {e = e} l within crosses joined passes rest) =
      longer d e x
      (any_passing (λ k. may_cross k && joins net k d e) l (link_numbers net) (among_below (length net.links) l within)
      (and_from (may_cross l) (joins net l d e) crosses joined)) passes (straight e x rest)

  -- the devices of a way are known
  all_known : (d x : ℕ) (es : List ℕ) → IsWay d es x → (y : ℕ) → has es y ≡ true → y < length net.devices
  all_known d x [] way y on = cc
  all_known d x (e ∷ es) way y on = by (or_cases (nat_eq y e) (has es y) on) (all_known e x es way.2 y)
    where
      by : (nat_eq y e ≡ true) ⊎ (has es y ≡ true) → (has es y ≡ true → y < length net.devices) → y < length net.devices
      by (inl is) rest = subst (λ z. z < length net.devices) (sym (eqb-true y e is)) (known e way.1)
      by (inr more) rest = rest more

  within_way : (d x : ℕ) (es : List ℕ) (n : ℕ) → IsWay d es x → length es ≤ n → joined_within net may_pass may_cross n d x ≡ true
  within_way d x [] zero way le = eq-eqb d x way
  within_way d x [] (suc n) way le = or_left (nat_eq d x) _ (eq-eqb d x way)
  within_way d x (e ∷ es) zero way le = absurd (omega (arith, le))
  within_way d x (e ∷ es) (suc n) way le =
      or_right (nat_eq d x) _
      (any_passing (λ z. (may_pass z && list_any (λ l. may_cross l && joins net l d z) (link_numbers net)) && joined_within net may_pass may_cross n z x) e
      (device_numbers net) (among_below (length net.devices) e (known e way.1))
      (and_from (may_pass e && has_link d e) (joined_within net may_pass may_cross n e x) (and_from (may_pass e) (has_link d e) way.1 way.0)
      (within_way e x es n way.2 (shorter (length es) n le))))
    where
      shorter : (a b : ℕ) → suc a ≤ suc b → a ≤ b
      shorter a b le' = omega (arith, le')

  -- so as many links as there are devices are enough
  pub joined_so : (d x : ℕ) → d < length net.devices → Joined net may_pass may_cross d x → joined_within net may_pass may_cross (length net.devices) d x ≡ true
  joined_so d x first joined = go (straight d x joined)
    where
      go : Straight d x → joined_within net may_pass may_cross (length net.devices) d x ≡ true
      go s = within_way d x s.over_ (length net.devices) s.way
          (shorter (length s.over_) (length net.devices) (few (d ∷ s.over_) (length net.devices) s.once all))
        where
          shorter : (a b : ℕ) → suc a ≤ b → a ≤ b
          shorter a b le = omega (arith, le)

          all : (y : ℕ) → has (d ∷ s.over_) y ≡ true → y < length net.devices
          all y on = elim (or_cases (nat_eq y d) (has s.over_ y) on) [
            | inl is ↦ subst (λ z. z < length net.devices) (sym (eqb-true y d is)) first
            | inr more ↦ all_known d x s.over_ s.way y more
          ]
