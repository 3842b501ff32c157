-- What two calls keep of a shelf, and what one keeps that blames it for the same.
use Rattle.std.proofs.Common.{◌≡◌, ℕ, ◌≤◌, ◌∙◌, subst}
use Rattle.sd_io.specs.outside.Causes.{Rose}
use Rattle.sd_io.specs.outside.Shelves.{KeepsShelf}
use Rattle.sd_io.specs.declared.outside.shelf.Shelf.{Ghosts}

module _ {S : Type 0} (g : Ghosts S) where
  pub keeps_for : (A B : Type 0) (old new : S) → (A → B) → (B → A) → KeepsShelf g A old new → KeepsShelf g B old new
  keeps_for A B old new on back k =
      record {
        same_held = k.same_held;
        same_names = k.same_names;
        count = record { later = k.count.later; rose = λ b. k.count.rose (back b); steady = λ none. k.count.steady (λ a. none (on a)) };
      }

  -- a call that blames nobody, and one after it
  pub keeps_both : (A B : Type 0) (old mid new : S) → (A → ⊥) → KeepsShelf g A old mid → KeepsShelf g B mid new → KeepsShelf g B old new
  keeps_both A B old mid new fine k l =
      let same : g.faults mid ≡ g.faults old = k.count.steady fine in
      record {
        same_held = l.same_held ∙ k.same_held;
        same_names = l.same_names ∙ k.same_names;
        count =
            record {
              later = subst (λ (n : ℕ). n ≤ g.faults new) same l.count.later;
              rose = λ b. subst (λ (n : ℕ). Rose n (g.faults new)) same (l.count.rose b);
              steady = λ none. l.count.steady none ∙ same;
            };
      }
