-- What a merge of two logs is worth.
use Rattle.std.specs.Prelude.{◌≡◌, ℕ, ◌<◌, Bool, true, false, List, [], ◌∷◌, ◌++◌, cond, drop, filter, length, map, nat_lt, refl, All, if◌then◌else◌}
use Rattle.std.proofs.Common.{arith, sym, ◌∙◌, ap, subst}
use Rattle.std.proofs.lemmas.Bool.{ltb-false, ltb-true}
use Rattle.std.proofs.lemmas.List.Elements.{All-append, All-cons, All-drop, All-head, All-nil, All-tail}
use Rattle.sd_num.specs.Lists.{leading}
use Rattle.sd_record.specs.merge.Merging.{Ascends, IsMerge, StartsFrom, comes_before, earlier_than, merge, merge_all}

module _ {A : Type 0} (at : A → ℕ) where
  -- of two heads the earlier comes first, and of equal ones that of the first log
  abbrev pub by_heads : Bool → A → List A → A → List A → List A
  by_heads b x first y second = if b then y ∷ merge at (x ∷ first) second else x ∷ merge at first (y ∷ second)

  pub heads : (x : A) (first : List A) (y : A) (second : List A)
      → merge at (x ∷ first) (y ∷ second) ≡ by_heads (nat_lt (at y) (at x)) x first y second
  heads x first y second = go (nat_lt (at y) (at x))
    where
      lead : Bool → List A
      lead b = if b then y ∷ leading (comes_before at (at x)) second else []

      go : (b : Bool) → lead b ++ x ∷ merge at first (drop (length (lead b)) (y ∷ second)) ≡ by_heads b x first y second
      go true = refl
      go false = refl

  pub starts : (reference : ℕ) (first second : List A) → StartsFrom at reference first → StartsFrom at reference second → StartsFrom at reference (merge at first second)
  starts reference [] second one two = two
  starts reference (x ∷ first) [] one two = one
  starts reference (x ∷ first) (y ∷ second) one two =
      subst (StartsFrom at reference) (sym (heads x first y second)) (go (nat_lt (at y) (at x)))
    where
      go : (b : Bool) → StartsFrom at reference (by_heads b x first y second)
      go true = two
      go false = one

  -- after an entry of the first log
  behind : (x : A) (first : List A) → Ascends at (x ∷ first) → ((ys : List A) → Ascends at ys → Ascends at (merge at first ys)) → (ys : List A)
      → Ascends at ys
      → Ascends at (merge at (x ∷ first) ys)
  behind x first one rest [] two = (starts (at x) first [] one.0 tt, rest [] tt)
  behind x first one rest (y ∷ ys) two =
      subst (Ascends at) (sym (heads x first y ys)) (go (nat_lt (at y) (at x)) refl (behind x first one rest ys two.1))
    where
      go : (c : Bool) → nat_lt (at y) (at x) ≡ c → Ascends at (merge at (x ∷ first) ys) → Ascends at (by_heads c x first y ys)
      go true earlier more =
          let low : at y < at x = ltb-true (at y) (at x) earlier in
          (starts (at y) (x ∷ first) ys (omega (arith, low)) two.0, more)
      go false later more =
          (starts (at x) first (y ∷ ys) one.0 (ltb-false (at y) (at x) later), rest (y ∷ ys) two)

  ascends : (first second : List A) → Ascends at first → Ascends at second → Ascends at (merge at first second)
  ascends [] second one two = two
  ascends (x ∷ first) second one two = behind x first one (λ ys b. ascends first ys one.1 b) second two

  -- none passes a test
  none_first : (test : A → Bool) (x : A) (xs : List A) → filter test (x ∷ xs) ≡ [] → (test x ≡ false) × (filter test xs ≡ [])
  none_first test x xs none = go (test x) refl none
    where
      go : (b : Bool) → test x ≡ b → cond b (x ∷ filter test xs) (filter test xs) ≡ [] → (test x ≡ false) × (filter test xs ≡ [])
      go true passes none' = cc
      go false fails none' = (fails, none')

  of_first_behind : (test : A → Bool) (x : A) (first : List A)
      → ((ys : List A) → filter test ys ≡ [] → filter test (merge at first ys) ≡ filter test first) → (ys : List A) → filter test ys ≡ []
      → filter test (merge at (x ∷ first) ys) ≡ filter test (x ∷ first)
  of_first_behind test x first rest [] none = ap (λ (xs : List A). cond (test x) (x ∷ xs) xs) (rest [] refl)
  of_first_behind test x first rest (y ∷ ys) none =
      let both = none_first test y ys none in
      ap (filter test) (heads x first y ys)
      ∙ go (nat_lt (at y) (at x)) both.0 (of_first_behind test x first rest ys both.1)
    where
      go : (c : Bool) → test y ≡ false → filter test (merge at (x ∷ first) ys) ≡ filter test (x ∷ first)
          → filter test (by_heads c x first y ys) ≡ filter test (x ∷ first)
      go true fails more = ap (λ (d : Bool). cond d (y ∷ filter test (merge at (x ∷ first) ys)) (filter test (merge at (x ∷ first) ys))) fails ∙ more
      go false fails more = ap (λ (xs : List A). cond (test x) (x ∷ xs) xs) (rest (y ∷ ys) none)

  of_first : (test : A → Bool) (first second : List A) → filter test second ≡ [] → filter test (merge at first second) ≡ filter test first
  of_first test [] second none = none
  of_first test (x ∷ first) second none = of_first_behind test x first (λ ys b. of_first test first ys b) second none

  of_second_behind : (test : A → Bool) (x : A) (first : List A) → test x ≡ false
      → ((ys : List A) → filter test (merge at first ys) ≡ filter test ys) → (ys : List A) → filter test (merge at (x ∷ first) ys) ≡ filter test ys
  of_second_behind test x first fails rest [] =
      ap (λ (d : Bool). cond d (x ∷ filter test (merge at first [])) (filter test (merge at first []))) fails ∙ rest []
  of_second_behind test x first fails rest (y ∷ ys) =
      ap (filter test) (heads x first y ys)
      ∙ go (nat_lt (at y) (at x)) (of_second_behind test x first fails rest ys)
    where
      go : (c : Bool) → filter test (merge at (x ∷ first) ys) ≡ filter test ys → filter test (by_heads c x first y ys) ≡ filter test (y ∷ ys)
      go true more = ap (λ (xs : List A). cond (test y) (y ∷ xs) xs) more
      go false more =
          ap (λ (d : Bool). cond d (x ∷ filter test (merge at first (y ∷ ys))) (filter test (merge at first (y ∷ ys)))) fails ∙ rest (y ∷ ys)

  of_second : (test : A → Bool) (first second : List A) → filter test first ≡ [] → filter test (merge at first second) ≡ filter test second
  of_second test [] second none = refl
  of_second test (x ∷ first) second none =
      let both = none_first test x first none in of_second_behind test x first both.0 (λ ys. of_second test first ys both.1) second

  -- What holds of all lines

  all_leading : (P : A → Type 0) (test : A → Bool) (xs : List A) → All P xs → All P (leading test xs)
  all_leading P test [] all = all
  all_leading P test (x ∷ xs) all = go (test x) (all_leading P test xs (All-tail P x xs all))
    where
      go : (b : Bool) → All P (leading test xs) → All P (if b then x ∷ leading test xs else [])
      go true rest = All-cons P x (leading test xs) (All-head P x xs all) rest
      go false rest = All-nil P

  pub all_merged : (P : A → Type 0) (first second : List A) → All P first → All P second → All P (merge at first second)
  all_merged P [] second one two = two
  all_merged P (x ∷ first) second one two =
      let rest = drop (length (earlier_than at x second)) second in
      All-append P (earlier_than at x second) (x ∷ merge at first rest) (all_leading P (comes_before at (at x)) second two)
      (All-cons P x (merge at first rest) (All-head P x first one)
      (all_merged P first rest (All-tail P x first one) (All-drop P (length (earlier_than at x second)) second two)))

  pub all_logs : {V : Type 0} (P : A → Type 0) (items : V → List A) (logs : List V) → All (λ v. All P (items v)) logs → All P (merge_all at (map items logs))
  all_logs P items [] all = All-nil P
  all_logs {V = V} P items (v ∷ logs) all =
      all_merged P (items v) (merge_all at (map items logs)) (All-head (λ (w : V). All P (items w)) v logs all)
      (all_logs P items logs (All-tail (λ (w : V). All P (items w)) v logs all))

  pub is_merge : (first second : List A) → IsMerge at first second (merge at first second)
  is_merge first second =
      record {
        ascends = ascends first second;
        of_first = λ test. of_first test first second;
        of_second = λ test. of_second test first second;
      }
