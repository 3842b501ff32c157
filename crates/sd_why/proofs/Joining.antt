-- Ways can be turned round and joined.
use Rattle.std.proofs.Common.{◌≡◌, ℕ, zero, suc, ◌<◌, length, nat_eq, refl, sym, ◌∙◌, subst, inl, inr}
use Rattle.std.proofs.lemmas.Bool.{or_cases, eqb-true}
use Rattle.sd_plan.specs.topo.Network.{Network, link_of}
use Rattle.sd_plan.specs.topo.Limits.{IsNetwork, IsLink}
use Rattle.sd_plan.proofs.topo.Laws.{link_law, joined_end}
use Rattle.sd_planner.proofs.Walks.{joins_swap}
use Rattle.sd_why.specs.Ways.{NextTo, Way}

module _ (net : Network) where
  -- a link joins in either order
  pub turned : (d e : ℕ) → NextTo net d e → NextTo net e d
  turned d e next = record { link = next.link; within = next.within; joined = joins_swap net next.link e d ∙ next.joined }

  -- the first of these is a device
  pub next_within : IsNetwork net → (d e : ℕ) → NextTo net d e → d < length net.devices
  next_within law d e next =
      let link : IsLink (length net.devices) (link_of net next.link) = link_law net next.link law next.within in
      elim (or_cases (nat_eq d (link_of net next.link).end_a) (nat_eq d (link_of net next.link).end_b) (joined_end net next.link d e next.joined)) [
        | inl first ↦ subst (λ x. x < length net.devices) (sym (eqb-true d (link_of net next.link).end_a first)) link.first
        | inr second ↦ subst (λ x. x < length net.devices) (sym (eqb-true d (link_of net next.link).end_b second)) link.second
      ]

  pub way_here : (d : ℕ) → Way net 0 d d
  unfolding Way
  way_here d = refl

  -- no link leads nowhere else
  pub no_way : (d e : ℕ) → Way net 0 d e → d ≡ e
  unfolding Way
  no_way d e way = way

  -- one link more, at the far end
  pub way_on : (n from x d : ℕ) → Way net n from x → NextTo net x d → Way net (suc n) from d
  unfolding Way
  way_on n from x d way next = (x, way, next)

  -- the last link of a way
  pub way_last : (n from d : ℕ) → Way net (suc n) from d → (x : ℕ) × Way net n from x × NextTo net x d
  unfolding Way
  way_last n from d way = way

  -- at the near end
  way_first : (n a x d : ℕ) → NextTo net a x → Way net n x d → Way net (suc n) a d
  unfolding Way
  way_first zero a x d next way = (a, refl, subst (λ y. NextTo net a y) way next)
  way_first (suc n) a x d next way = (way.0, way_first n a x way.0 next way.1, way.2)

  pub way_back : (n a b : ℕ) → Way net n a b → Way net n b a
  unfolding Way
  way_back zero a b way = sym way
  way_back (suc n) a b way = way_first n b way.0 a (turned way.0 b way.2) (way_back n a way.0 way.1)

  pub ways_join : (m n a b c : ℕ) → Way net m a b → Way net n b c → (k : ℕ) × Way net k a c
  unfolding Way
  ways_join m zero a b c first second = (m, subst (λ x. Way net m a x) second first)
  ways_join m (suc n) a b c first second =
      let more : (k : ℕ) × Way net k a second.0 = ways_join m n a b second.0 first second.1 in
      (suc more.0, (second.0, more.1, second.2))
