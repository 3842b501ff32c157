-- What is done for each of a list, one by one.
use Rattle.std.specs.Prelude.{◌≡◌, ℕ, zero, suc, ◌+◌, ◌<◌, Bool, true, false, List, [], ◌∷◌, ◌++◌, length, take, filter, refl}
use Rattle.std.proofs.Common.{arith, ap, ◌∙◌, get_or, add-one}
use Rattle.sd_num.specs.Lists.{below}
use Rattle.sd_device.specs.declared.msg.Flight.{Flight}
use Rattle.sd_gen.specs.Drafts.{Draft, each, when, with_message}

each-append : {A : Type 0} (f : A → Draft → Draft) (xs ys : List A) (x : Draft) → each f (xs ++ ys) x ≡ each f ys (each f xs x)
each-append f [] ys x = refl
each-append f (a ∷ xs) ys x = each-append f xs ys (f a x)

-- one number more
pub each_below_more : (f : ℕ → Draft → Draft) (n : ℕ) (x : Draft) → each f (below (n + 1)) x ≡ f n (each f (below n) x)
each_below_more f n x = ap (λ k. each f (below k) x) (add-one n) ∙ each-append f (below n) (n ∷ []) x

-- one element more
pub each_take_more : {A : Type 0} (f : A → Draft → Draft) (xs : List A) (i : ℕ) (d : A) (x : Draft) → i < length xs
    → each f (take (i + 1) xs) x ≡ f (get_or xs i d) (each f (take i xs) x)
each_take_more f [] i d x h = absurd (omega arith)
each_take_more f (a ∷ xs) zero d x h = refl
each_take_more f (a ∷ xs) (suc i) d x h = rw (add-one (suc i)) (rw (add-one i) at (each_take_more f xs i d (f a x) (omega arith)))

-- those that reach, or each if it reaches
pub each_reaching : (fs : List Flight) (x : Draft) → each with_message (filter (λ f. f.reaches) fs) x ≡ each (λ f. when f.reaches (with_message f)) fs x
each_reaching [] x = refl
each_reaching (f ∷ fs) x = by f.reaches refl (each_reaching fs (with_message f x)) (each_reaching fs x)
  where
    by : (b : Bool) → f.reaches ≡ b
        → each with_message (filter (λ g. g.reaches) fs) (with_message f x) ≡ each (λ g. when g.reaches (with_message g)) fs (with_message f x)
        → each with_message (filter (λ g. g.reaches) fs) x ≡ each (λ g. when g.reaches (with_message g)) fs x
        → each with_message (filter (λ g. g.reaches) (f ∷ fs)) x ≡ each (λ g. when g.reaches (with_message g)) (f ∷ fs) x
    by true reaches here other = rw reaches here
    by false lost here other = rw lost other

-- messages leave the steps as they are
pub steps_stay : (fs : List Flight) (x : Draft) → (each (λ f. when f.reaches (with_message f)) fs x).steps ≡ x.steps
steps_stay [] x = refl
steps_stay (f ∷ fs) x = steps_stay fs (when f.reaches (with_message f) x) ∙ by f.reaches
  where
    by : (b : Bool) → (when b (with_message f) x).steps ≡ x.steps
    by true = refl
    by false = refl
