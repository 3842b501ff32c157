-- Flags that are set.
use Rattle.std.proofs.Common.{◌≡◌, ℕ, ◌+◌, ◌<◌, Bool, true, false, ◌||◌, List, length, take, nat_eq, get_or, set, if◌then◌else◌, refl, sym, ap, ◌∙◌, subst, arith, inl, inr}
use Rattle.std.proofs.lemmas.Bool.{or_right, cases_eq, eq-eqb, ne_eqb}
use Rattle.std.proofs.lemmas.List.{length-set, get_or-set_same, get_or-set_other, take_more}
use Rattle.sd_num.specs.Lists.{has}
use Rattle.sd_num.proofs.Places.{has_more}
use Rattle.sd_planner.specs.Flags.{is_set, AreSet}

-- the flag of a number where one number more is set
written : (t : Bool) (value old : Bool) (new : List Bool) (x k : ℕ) → x < length new → is_set new k ≡ (if t then value else old)
    → is_set (set new x value) k ≡ (if t || nat_eq k x then value else old)
written t value old new x k inside before = elim (cases_eq k x) [
  | inl same ↦
      ap (is_set (set new x value)) same ∙ get_or-set_same new x value false inside
      ∙ sym (ap (λ b. if b then value else old) (or_right t (nat_eq k x) (eq-eqb k x same)))
  | inr apart ↦
      get_or-set_other new x k value false apart ∙ before
      ∙ sym (ap (λ b. if b then value else old) (ap (λ b. t || b) (ne_eqb k x apart) ∙ same_or t))
]
  where
    same_or : (b : Bool) → (b || false) ≡ b
    same_or true = refl
    same_or false = refl

pub set_more : (numbers : List ℕ) (value : Bool) (old new : List Bool) (i : ℕ) → i < length numbers → get_or numbers i 0 < length old
    → AreSet (take i numbers) value old new
    → AreSet (take (i + 1) numbers) value old (set new (get_or numbers i 0) value)
set_more numbers value old new i within inside so_far =
    let x = get_or numbers i 0 in
    let size : length new ≡ length old = so_far.size in
    subst (λ xs. AreSet xs value old (set new x value)) (sym (take_more numbers i 0 within))
    (record {
      size = length-set new x value ∙ size;
      each = λ k.
          written (has (take i numbers) k) value (is_set old k) new x k (omega arith) (so_far.each k)
          ∙ sym (ap (λ t. if t then value else is_set old k) (has_more (take i numbers) x k));
    })
