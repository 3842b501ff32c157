-- The devices that what fails cuts off from the root, the backup root among them: no message comes to them over their primary links, and none to the backup
-- root over its backup link.
use Rattle.std.specs.Prelude.{◌≡◌, ℕ, ◌<◌, Bool, true, false, ◌&&◌, ◌||◌, not, List, [], ◌∷◌, ◌++◌, ◌⊎◌, length, filter, map, Option, Some, None, refl, if◌then◌else◌}
use Rattle.std.specs.List.{list_any}
use Rattle.std.proofs.Common.{sym, ap, ◌∙◌, subst, inl, inr}
use Rattle.std.proofs.lemmas.Bool.{and_parts, and_from, or_cases, or_left, or_right, cases_Bool, both_ways, not-true}
use Rattle.std.proofs.lemmas.List.Folds.{list_any-append}
use Rattle.sd_num.specs.Lists.{map_or}
use Rattle.sd_plan.specs.topo.Network.{Network}
use Rattle.sd_plan.specs.declared.topo.Thing.{Thing}
use Rattle.sd_plan.specs.declared.topo.Thing.TheVariants as thing
use Rattle.sd_plan.specs.declared.Hop.{Hop}
use Rattle.sd_plan.specs.declared.Plan.{Plan}
use Rattle.sd_plan.specs.Plans.{Fits, is_root, primary_of, backup_of}
use Rattle.sd_plan.specs.Walks.{walk, path, things_of, devices_of, links_of}
use Rattle.sd_plan.specs.Duties.{follows_over}
use Rattle.sd_plan.specs.Structure.{structure_breach}
use Rattle.sd_plan.proofs.Forest.{IsForest, IsStep, forest_of}
use Rattle.sd_beside.specs.needed.Roots.{fallback}
use Rattle.sd_beside.proofs.needed.Worlds.{is_live}
use Rattle.sd_beside.proofs.needed.Allowed.{live_parts}
use Rattle.sd_beside.proofs.needed.Zones.{by_primary, by_backup}
use Rattle.sd_beside.proofs.needed.Hush.{IsShut}

-- Hops and their things

-- a device that is hit among those to which hops lead, and a link that is hit among theirs
device_hit : (down : Thing → Bool) (keep : ℕ → Bool) (hs : List Hop)
    → list_any down (map thing.Device (filter keep (map (λ hop. hop.parent) hs))) ≡ true → list_any down (things_of hs) ≡ true
device_hit down keep [] is = is
device_hit down keep (h ∷ hs) is = by (keep h.parent) is (device_hit down keep hs)
  where
    by : (b : Bool)
        → list_any down (map thing.Device (if b then h.parent ∷ filter keep (map (λ hop. hop.parent) hs) else filter keep (map (λ hop. hop.parent) hs))) ≡ true
        → (list_any down (map thing.Device (filter keep (map (λ hop. hop.parent) hs))) ≡ true → list_any down (things_of hs) ≡ true)
        → (down (thing.Link h.link) || (down (thing.Device h.parent) || list_any down (things_of hs))) ≡ true
    by true is_hit rest = or_right (down (thing.Link h.link)) _ (elim (or_cases (down (thing.Device h.parent)) _ is_hit) [
      | inl here ↦ or_left (down (thing.Device h.parent)) (list_any down (things_of hs)) here
      | inr there ↦ or_right (down (thing.Device h.parent)) (list_any down (things_of hs)) (rest there)
    ])
    by false is_hit rest =
        or_right (down (thing.Link h.link)) _ (or_right (down (thing.Device h.parent)) (list_any down (things_of hs)) (rest is_hit))

link_hit : (down : Thing → Bool) (hs : List Hop) → list_any down (map thing.Link (links_of hs)) ≡ true → list_any down (things_of hs) ≡ true
link_hit down [] is = is
link_hit down (h ∷ hs) is = elim (or_cases (down (thing.Link h.link)) _ is) [
  | inl here ↦ or_left (down (thing.Link h.link)) _ here
  | inr there ↦ or_right (down (thing.Link h.link)) _ (or_right (down (thing.Device h.parent)) (list_any down (things_of hs)) (link_hit down hs there))
]

-- past what is not hit
beyond : (a b : Bool) → a ≡ false → (a || b) ≡ true → b ≡ true
beyond a b none either = sym (rw none refl) ∙ either

-- where the first device and the link to it are not hit, what is hit is after it
fallback_hit : (down : Thing → Bool) (keep : ℕ → Bool) (l s : ℕ) (hs : List Hop) → down (thing.Link l) ≡ false → down (thing.Device s) ≡ false
    → list_any down (map thing.Device (filter keep (devices_of s hs)) ++ map thing.Link (l ∷ links_of hs)) ≡ true → list_any down (things_of hs) ≡ true
fallback_hit down keep l s hs sound spared is =
    elim (or_cases (list_any down (map thing.Device (filter keep (devices_of s hs)))) (list_any down (map thing.Link (l ∷ links_of hs)))
    (sym (list_any-append down (map thing.Device (filter keep (devices_of s hs))) (map thing.Link (l ∷ links_of hs))) ∙ is)) [
      | inl one ↦ device_hit down keep hs (by (keep s) one)
      | inr two ↦ link_hit down hs (beyond (down (thing.Link l)) _ sound two)
    ]
  where
    by : (b : Bool)
        → list_any down (map thing.Device (if b then s ∷ filter keep (map (λ hop. hop.parent) hs) else filter keep (map (λ hop. hop.parent) hs))) ≡ true
        → list_any down (map thing.Device (filter keep (map (λ hop. hop.parent) hs))) ≡ true
    by true is_hit = beyond (down (thing.Device s)) _ spared is_hit
    by false is_hit = is_hit

-- The zone

-- a live device other than the root whose path is hit
abbrev pub is_cut_off : Network → Plan → (Thing → Bool) → ℕ → Bool
is_cut_off net plan down z = is_live net plan down z && not (is_root plan z) && list_any down (path net plan z)

pub record CutOff (net : Network) (plan : Plan) (down : Thing → Bool) (z : ℕ) : Type 0 where
  pub live : is_live net plan down z ≡ true
  pub other : is_root plan z ≡ false
  pub touched : list_any down (path net plan z) ≡ true

pub cut_off : (net : Network) (plan : Plan) (down : Thing → Bool) (z : ℕ) → is_cut_off net plan down z ≡ true → CutOff net plan down z
cut_off net plan down z is =
    let (front, touched) = and_parts (is_live net plan down z && not (is_root plan z)) (list_any down (path net plan z)) is in
    let (live, other) = and_parts (is_live net plan down z) (not (is_root plan z)) front in
    record { live = live; other = not-true (is_root plan z) other; touched = touched }

-- the link is the primary one of such a device, or the backup link of the backup root
pub record IsUnheard (net : Network) (plan : Plan) (down : Thing → Bool) (x l : ℕ) : Type 0 where
  pub in_ : is_cut_off net plan down x ≡ true
  pub hop : Hop
  pub which : (primary_of plan x ≡ Some hop) ⊎ ((x ≡ plan.backup_root) × (backup_of plan x ≡ Some hop))
  pub link : hop.link ≡ l

module _ (net : Network) (plan : Plan) (fits : Fits net plan) (structured : structure_breach net plan ≡ None) (down : Thing → Bool)
    (takes : list_any down (fallback net plan) ≡ true) where
  forest : IsForest net plan
  forest = forest_of net plan fits structured

  -- a live device with something hit on its path is cut off: the root has no path
  pub touched_off : (s : ℕ) → is_live net plan down s ≡ true → list_any down (path net plan s) ≡ true → is_cut_off net plan down s ≡ true
  touched_off s live touched = elim (cases_Bool (is_root plan s)) [
    | inl root ↦
        (let none : list_any down (path net plan s) ≡ false = rw root refl in
        absurd (both_ways (list_any down (path net plan s)) none touched))
    | inr other ↦ and_from (is_live net plan down s && not (is_root plan s)) (list_any down (path net plan s))
        (and_from (is_live net plan down s) (not (is_root plan s)) live (ap not other)) touched
  ]

  -- what the primary hop leads to
  above_primary : (x : ℕ) (hop : Hop) → CutOff net plan down x → primary_of plan x ≡ Some hop → down (thing.Link hop.link) ≡ false
      → is_live net plan down hop.parent ≡ true → is_cut_off net plan down hop.parent ≡ true
  above_primary x hop off primary sound live =
      let step : IsStep net plan x hop = forest.up x hop (live_parts net plan down x off.live).within primary in
      let whole : (down (thing.Link hop.link) || (down (thing.Device hop.parent) || list_any down (path net plan hop.parent))) ≡ true =
      subst (λ (hs : List Hop). list_any down (things_of hs) ≡ true) step.walk off.touched in
      touched_off hop.parent live
      (beyond (down (thing.Device hop.parent)) _ (live_parts net plan down hop.parent live).spared (beyond (down (thing.Link hop.link)) _ sound whole))

  -- what the backup hop of the backup root leads to
  above_backup : (hop : Hop) → backup_of plan plan.backup_root ≡ Some hop → down (thing.Link hop.link) ≡ false
      → is_live net plan down hop.parent ≡ true → is_cut_off net plan down hop.parent ≡ true
  above_backup hop backup sound live =
      touched_off hop.parent live
      (fallback_hit down (λ d. not (is_root plan d)) hop.link hop.parent (walk net plan hop.parent) sound (live_parts net plan down hop.parent live).spared
      (subst (λ (o : Option Hop). list_any down
      (map thing.Device (map_or o [] (λ h. filter (λ d. not (is_root plan d)) (devices_of h.parent (walk net plan h.parent))))
      ++ map thing.Link (map_or o [] (λ h. h.link ∷ links_of (walk net plan h.parent)))) ≡ true) backup takes))

  pub off_above : (x l s : ℕ) → IsUnheard net plan down x l → follows_over plan s l x ≡ true → down (thing.Link l) ≡ false → is_live net plan down s ≡ true
      → is_cut_off net plan down s ≡ true
  off_above x l s on follows sound live =
      let off : CutOff net plan down x = cut_off net plan down x on.in_ in
      let within : x < length net.devices = (live_parts net plan down x off.live).within in
      let whole : down (thing.Link on.hop.link) ≡ false = subst (λ (m : ℕ). down (thing.Link m) ≡ false) (sym on.link) sound in
      elim on.which [
        | inl primary ↦
            (let parent : on.hop.parent ≡ s = by_primary net plan x l s on.hop structured within primary on.link follows in
            subst (λ (y : ℕ). is_cut_off net plan down y ≡ true) parent
            (above_primary x on.hop off primary whole (subst (λ (y : ℕ). is_live net plan down y ≡ true) (sym parent) live)))
        | inr backup ↦
            (let parent : on.hop.parent ≡ s = by_backup net plan x l s on.hop structured within backup.1 on.link follows in
            subst (λ (y : ℕ). is_cut_off net plan down y ≡ true) parent
            (above_backup on.hop (subst (λ (y : ℕ). backup_of plan y ≡ Some on.hop) backup.0 backup.1) whole
            (subst (λ (y : ℕ). is_live net plan down y ≡ true) (sym parent) live)))
      ]

  pub is_shut : IsShut net plan down (is_cut_off net plan down) (IsUnheard net plan down)
  is_shut = record { live = λ z is. (cut_off net plan down z is).live; above = off_above }
