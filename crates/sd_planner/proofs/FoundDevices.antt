-- Where placed devices are found, and what the backup root is.
use Rattle.std.proofs.Common.{◌≡◌, ℕ, suc, ◌<◌, ◌≤◌, Bool, true, false, ◌&&◌, ◌||◌, not, List, [], ◌∷◌, length, find, nat_eq, cond, Option, Some, None, is_some, slice_get, ◌⊎◌, set, replicate, refl, sym, ap, ◌∙◌, inl, inr}
use Rattle.std.specs.Prelude.{IfSome}
use Rattle.std.specs.List.{list_any}
use Rattle.std.proofs.lemmas.Bool.{cases_lt, cases_eq, eq-eqb, ne_eqb}
use Rattle.std.proofs.lemmas.List.{length-replicate, get_or-set_same, get_or-set_other, get_or-replicate, get_or_past}
use Rattle.std.proofs.lemmas.Option.{slice_get_within}
use Rattle.sd_num.specs.Lists.{has, map_or}
use Rattle.sd_num.proofs.Shared.{any_same}
use Rattle.sd_plan.specs.topo.Network.{Network, Each}
use Rattle.sd_plan.specs.topo.Limits.{IsNetwork}
use Rattle.sd_plan.specs.declared.Absent.{Absent}
use Rattle.sd_plan.specs.Walks.{devices_of, links_of}
use Rattle.sd_planner.specs.Usable.{takes_part}
use Rattle.sd_planner.specs.declared.placement.Placed.{Placed}
use Rattle.sd_planner.specs.Spreading.{placed_at, is_placed}
use Rattle.sd_planner.specs.Placing.{backup_root_of}
use Rattle.sd_planner.specs.Trees.{Grows}
use Rattle.sd_planner.proofs.Elements.{any_found}
use Rattle.sd_planner.proofs.Growing.{placed_grows}
use Rattle.sd_planner.specs.Climbs.{way_up}
use Rattle.sd_planner.specs.Flags.{is_set, AreOver}
use Rattle.sd_planner.specs.Surveys.{net_in, absent_in, order_of}
use Rattle.sd_planner.specs.declared.backups.survey.Survey.{Survey}
use Rattle.sd_planner.proofs.Trees.{stands}

-- what is found of a device is that device
pub found_same : (list : List Placed) (d : ℕ) (o : Option Placed) → o ≡ placed_at list d → IfSome o (λ p. p.device ≡ d)
found_same list d None is = tt
found_same list d (Some p) is = (stands list d p (sym is)).is

-- a device is placed where it is found
pub is_found : (list : List Placed) (d : ℕ) → is_some (placed_at list d) ≡ is_placed list d
is_found list d = sym (any_found (λ p. nat_eq p.device d) list)

-- the backup root is a device
pub backup_root_within : (net : Network) (root : ℕ) (absent : Absent) → IsNetwork net → root < length net.devices
    → backup_root_of net root absent < length net.devices
backup_root_within net root absent law within = by_list net.roots law.each_root.1.0
  where
    by_test : (t : Bool) (x : ℕ) (rest : Option ℕ) → x < length net.devices → map_or rest root (λ d. d) < length net.devices
        → map_or (cond t (Some x) rest) root (λ d. d) < length net.devices
    by_test true x rest here later = here
    by_test false x rest here later = later

    by_list : (xs : List ℕ) → Each (λ x. x < length net.devices) xs
        → map_or (find (λ d. takes_part net absent d && not (nat_eq d root)) xs) root (λ d. d) < length net.devices
    by_list [] each = within
    by_list (x ∷ xs) each =
        by_test (takes_part net absent x && not (nat_eq x root)) x (find (λ d. takes_part net absent d && not (nat_eq d root)) xs) (each 0 x refl)
        (by_list xs (λ i y at. each (suc i) y at))

-- a walk leads over one flagged device where it has this device
pub over_one : (list : List Placed) (d count more : ℕ) (devices links : List Bool) (over : List Bool) → d < count → devices ≡ set (replicate count false) d true
    → links ≡ replicate more false
    → AreOver devices links list (length list) over
    → (i : ℕ) (p : Placed) → slice_get list i ≡ Some p → is_set over p.device ≡ has (devices_of p.device (way_up list p.device)) d
over_one list d count more devices links over within one none are i p at =
    are.each i p (slice_get_within list i p at) at
    ∙ ap (λ t. list_any (is_set devices) (devices_of p.device (way_up list p.device)) || t) (nothing (links_of (way_up list p.device)))
    ∙ plain (list_any (is_set devices) (devices_of p.device (way_up list p.device)))
    ∙ any_same (is_set devices) (nat_eq d) (devices_of p.device (way_up list p.device)) only
  where
    plain : (t : Bool) → (t || false) ≡ t
    plain true = refl
    plain false = refl

    unset : (n x : ℕ) → is_set (replicate n false) x ≡ false
    unset n x = by_less (cases_lt x n)
      where
        by_less : (x < n) ⊎ (n ≤ x) → is_set (replicate n false) x ≡ false
        by_less (inl less) = get_or-replicate n x false false less
        by_less (inr past) = get_or_past (replicate n false) x false (rw (length-replicate n false) past)

    nothing : (xs : List ℕ) → list_any (is_set links) xs ≡ false
    nothing [] = refl
    nothing (x ∷ xs) = ap (λ t. t || list_any (is_set links) xs) (ap (λ flags. is_set flags x) none ∙ unset more x) ∙ nothing xs

    only : (x : ℕ) → is_set devices x ≡ nat_eq d x
    only x =
        ap (λ flags. is_set flags x) one
        ∙ elim (cases_eq x d) [
          | inl same ↦ ap (is_set (set (replicate count false) d true)) same
              ∙ get_or-set_same (replicate count false) d true false (rw (length-replicate count false) within) ∙ sym (eq-eqb d x (sym same))
          | inr apart ↦ get_or-set_other (replicate count false) d x true false apart ∙ unset count x ∙ sym (ne_eqb d x (λ same. apart (sym same)))
        ]

-- the placed devices of a survey grew from its root
pub survey_grows : (s : Survey) → Grows (net_in s) s.root (absent_in s) (order_of s)
survey_grows s = placed_grows (net_in s) s.root (absent_in s) s.present.now.topo.now.is_network s.root_within
