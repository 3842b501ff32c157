-- The way of a walk, from its end down to the device where it begins: it is sound where each of its hops is.
use Rattle.std.specs.Prelude.{◌≡◌, ℕ, zero, suc, ◌+◌, ◌≤◌, Bool, true, false, List, [], ◌∷◌, length, Option, Some, None, refl, if◌then◌else◌}
use Rattle.std.proofs.Common.{arith, sym, ◌∙◌, subst}
use Rattle.sd_plan.specs.topo.Network.{Network}
use Rattle.sd_plan.specs.declared.Hop.{Hop}
use Rattle.sd_plan.specs.declared.Plan.{Plan}
use Rattle.sd_plan.specs.declared.End.{End}
use Rattle.sd_plan.specs.Plans.{is_root, primary_of}
use Rattle.sd_plan.specs.Walks.{hops, walk, end_of}
use Rattle.sd_plan.proofs.Forest.{most_hops}
use Rattle.sd_history.specs.World.{Setting}
use Rattle.sd_history.proofs.Among.{Among, first, later}
use Rattle.sd_safety.specs.messages.Moments.{Moment}
use Rattle.sd_safety.specs.silences.Feeds.{IsSound, AreSound}

abbrev pub end_at : ℕ → Hop → End
end_at d hop = record { link = hop.link; device = d }

-- the ends of the hops from d on, the last hop first, before other ends
abbrev pub way_of : ℕ → List Hop → List End → List End
way_of d [] rest = rest
way_of d (hop ∷ hs) rest = way_of hop.parent hs (end_at d hop ∷ rest)

pub way_length : (d : ℕ) (hs : List Hop) (rest : List End) → length (way_of d hs rest) ≡ length hs + length rest
way_length d [] rest = none (length rest)
  where
    none : (a : ℕ) → a ≡ 0 + a
    none a = omega arith
way_length d (hop ∷ hs) rest = way_length hop.parent hs (end_at d hop ∷ rest) ∙ moved (length hs) (length rest)
  where
    moved : (a b : ℕ) → a + suc b ≡ suc a + b
    moved a b = omega arith

pub way_keeps : (d : ℕ) (hs : List Hop) (rest : List End) (e : End) → Among e rest → Among e (way_of d hs rest)
way_keeps d [] rest e a = a
way_keeps d (hop ∷ hs) rest e a = way_keeps hop.parent hs (end_at d hop ∷ rest) e (later a)

-- a hop of the walk: it is the primary one of its device, which is no root, and its things are on the walk
pub data Walks (plan : Plan) (P : ℕ → Hop → Type 0) : ℕ → List Hop → Type 0 where
  over : {d : ℕ} → Walks plan P d []
  walks : {d : ℕ} {hop : Hop} {hs : List Hop} → P d hop → Walks plan P hop.parent hs → Walks plan P d (hop ∷ hs)

pub sound_way : (setting : Setting) (top : Moment) (plan : Plan) (epoch s0 source d : ℕ) (hs : List Hop) (rest : List End)
    → Walks plan (λ y hop. IsSound setting top epoch s0 source hop.parent (end_at y hop)) d hs → AreSound setting top epoch s0 source d rest
    → AreSound setting top epoch s0 source (end_of d hs) (way_of d hs rest)
sound_way setting top plan epoch s0 source d [] rest over base = base
sound_way setting top plan epoch s0 source d (hop ∷ hs) rest (walks sound more) base =
    sound_way setting top plan epoch s0 source hop.parent hs (end_at d hop ∷ rest) more (sound, base)

-- the first device is on its way, where the walk has a hop
pub begins : (d : ℕ) (hop : Hop) (hs : List Hop) → Among (end_at d hop) (way_of d (hop ∷ hs) [])
begins d hop hs = way_keeps hop.parent hs (end_at d hop ∷ []) (end_at d hop) first

-- walks along primary hops

pub walk_length : (net : Network) (plan : Plan) (d : ℕ) → length (walk net plan d) ≤ net.params.depth
walk_length net plan d = go (is_root plan d)
  where
    go : (b : Bool) → length {A = Hop} (if b then [] else hops (is_root plan) plan net.params.depth d) ≤ net.params.depth
    go true = omega arith
    go false = most_hops (is_root plan) plan net.params.depth d

-- each hop of a walk is the primary one of its device, which is no root
abbrev pub IsPrimary : Plan → ℕ → Hop → Type 0
IsPrimary plan y hop = (primary_of plan y ≡ Some hop) × (is_root plan y ≡ false)

hops_walk : (plan : Plan) (n d : ℕ) → is_root plan d ≡ false → Walks plan (IsPrimary plan) d (hops (is_root plan) plan n d)
hops_walk plan zero d other = over
hops_walk plan (suc n) d other = go (primary_of plan d) refl (hops_walk plan n)
  where
    by_end : (hop : Hop) (b : Bool) → is_root plan hop.parent ≡ b
        → (is_root plan hop.parent ≡ false → Walks plan (IsPrimary plan) hop.parent (hops (is_root plan) plan n hop.parent))
        → Walks plan (IsPrimary plan) hop.parent (elim b [ true ↦ [] | false ↦ hops (is_root plan) plan n hop.parent ])
    by_end hop true is rest = over
    by_end hop false is rest = rest is

    go : (o : Option Hop) → primary_of plan d ≡ o → ((y : ℕ) → is_root plan y ≡ false → Walks plan (IsPrimary plan) y (hops (is_root plan) plan n y))
        → Walks plan (IsPrimary plan) d
        (elim o [ None ↦ [] | Some hop ↦ hop ∷ (elim (is_root plan hop.parent) [ true ↦ [] | false ↦ hops (is_root plan) plan n hop.parent ]) ])
    go None is rest = over
    go (Some hop) is rest = walks (is, other) (by_end hop (is_root plan hop.parent) refl (rest hop.parent))

pub walk_walks : (net : Network) (plan : Plan) (d : ℕ) → is_root plan d ≡ false → Walks plan (IsPrimary plan) d (walk net plan d)
walk_walks net plan d other =
    subst (λ b. Walks plan (IsPrimary plan) d (if b then [] else hops (is_root plan) plan net.params.depth d)) (sym other)
    (hops_walk plan net.params.depth d other)
