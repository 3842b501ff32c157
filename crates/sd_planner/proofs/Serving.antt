-- The tests of a hop, one by one.
use Rattle.std.proofs.Common.{◌≡◌, ℕ, Bool, true, false, ◌&&◌, ◌||◌, not, nat_eq, List, Some, None, is_some, refl, sym, ap, ◌∙◌}
use Rattle.std.proofs.lemmas.Bool.{ne_eqb, or_left}
use Rattle.sd_planner.specs.declared.placement.Placed.{Placed}
use Rattle.sd_planner.specs.Spreading.{is_placed, placed_at}
use Rattle.sd_planner.proofs.FoundDevices.{is_found}

-- one of two tests
pub or_first : (r a b : Bool) → r ≡ a → r ≡ true → r ≡ (a || b)
or_first r a b is passes = passes ∙ sym (or_left a b (sym is ∙ passes))

pub or_second : (r s a b : Bool) → r ≡ a → s ≡ b → r ≡ false → s ≡ (a || b)
or_second r s a b first second fails = second ∙ sym (ap (λ t. t || b) (sym first ∙ fails))

-- a hop to a placed device, over another link and to another parent than the primary
pub all_tests : (link primary_link parent primary_parent : ℕ) (placed follows joined : Bool) → (link ≡ primary_link → ⊥) → (parent ≡ primary_parent → ⊥)
    → placed ≡ true → follows ≡ true
    → not joined ≡ (not (nat_eq link primary_link) && placed && not (nat_eq parent primary_parent) && follows && not joined)
all_tests link primary_link parent primary_parent placed follows joined links parents there may =
    sym
    (ap (λ t. not t && placed && not (nat_eq parent primary_parent) && follows && not joined) (ne_eqb link primary_link links)
    ∙ ap (λ t. t && not (nat_eq parent primary_parent) && follows && not joined) there
    ∙ ap (λ t. not t && follows && not joined) (ne_eqb parent primary_parent parents)
    ∙ ap (λ t. t && not joined) may)

-- a hop that fails one of the tests
pub not_placed : (link placed parent follows joined : Bool) → placed ≡ false → false ≡ (not link && placed && parent && follows && joined)
not_placed true placed parent follows joined fails = refl
not_placed false true parent follows joined fails = sym fails ∙ absurd (no fails)
  where
    no : true ≡ false → ⊥
    no h = cc
not_placed false false parent follows joined fails = refl

pub placed_found : (list : List Placed) (d : ℕ) (p : Placed) → placed_at list d ≡ Some p → is_placed list d ≡ true
placed_found list d p found = sym (is_found list d) ∙ ap is_some found

pub placed_none : (list : List Placed) (d : ℕ) → placed_at list d ≡ None → is_placed list d ≡ false
placed_none list d found = sym (is_found list d) ∙ ap is_some found
