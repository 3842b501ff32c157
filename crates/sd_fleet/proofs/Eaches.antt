-- What holds of each element of a list, by place.
use Rattle.std.specs.Prelude.{suc, Bool, true, false, List, [], ◌∷◌, ◌++◌, filter, refl, if◌then◌else◌}
use Rattle.sd_plan.specs.topo.Network.{Each}
use Rattle.sd_plan.proofs.Shared.{each_more}

pub each_rest : {A : Type 0} (P : A → Type 0) (x : A) (xs : List A) → Each P (x ∷ xs) → Each P xs
each_rest P x xs each i y at = each (suc i) y at

pub each_mono : {A : Type 0} (P Q : A → Type 0) (xs : List A) → ((x : A) → P x → Q x) → Each P xs → Each Q xs
each_mono P Q xs weaker each i x at = weaker x (each i x at)

pub each_kept : {A : Type 0} (P : A → Type 0) (test : A → Bool) (xs : List A) → Each P xs → Each P (filter test xs)
each_kept P test [] each = each
each_kept P test (y ∷ ys) each = by (test y) (each_kept P test ys (each_rest P y ys each))
  where
    by : (b : Bool) → Each P (filter test ys) → Each P (if b then y ∷ filter test ys else filter test ys)
    by true rest = each_more P y (filter test ys) (each 0 y refl) rest
    by false rest = rest

pub each_joined : {A : Type 0} (P : A → Type 0) (xs ys : List A) → Each P xs → Each P ys → Each P (xs ++ ys)
each_joined P [] ys front back = back
each_joined P (x ∷ xs) ys front back = each_more P x (xs ++ ys) (front 0 x refl) (each_joined P xs ys (each_rest P x xs front) back)
