-- How many devices have a row while rows are set.
use Rattle.std.proofs.Common.{◌≡◌, ℕ, ◌+◌, ◌<◌, ◌≤◌, true, cond, List, [], ◌∷◌, length, set, get_or, Option, None, Some, is_none, is_some, Result, refl, ap, sym, ◌∙◌, subst, arith}
use Rattle.std.proofs.lemmas.Option.{slice_get-get_or, slice_get_read}
use Rattle.std.proofs.lemmas.List.Sums.{sum_by-set, sum_by-cons}
use Rattle.sd_num.specs.Lists.{map_or}
use Rattle.sd_plan.specs.topo.Network.{Network}
use Rattle.sd_plan.specs.declared.PlanRow.{PlanRow}
use Rattle.sd_plantext.specs.Counted.{filled}
use Rattle.serde_json.specs.View.{view, items_view}
use Rattle.serde_json.specs.declared.value.Value.{Value}
use Rattle.sd_plantext.specs.Gives.{Fails}
use Rattle.sd_plantext.specs.Then.{◌>>=◌}
use Rattle.sd_plantext.specs.Meaning.{is_free, one_more_row, rows_from}
use Rattle.sd_plantext.specs.declared.fault.PlanFault.{PlanFault}
use Rattle.sd_plantext.specs.declared.fault.PlanFault.TheVariants as faults

-- what fails at a step fails in what goes on from it
pub fails_on : {A B : Type 0} (fault : PlanFault) (r : Result A PlanFault) (f : A → Result B PlanFault) → Fails fault r → Fails fault (r >>= f)
fails_on faults.NotJson r f h = ap (λ x. x >>= f) h
fails_on (faults.Missing p) r f h = ap (λ x. x >>= f) h
fails_on (faults.WrongKind p) r f h = ap (λ x. x >>= f) h
fails_on (faults.Range p) r f h = ap (λ x. x >>= f) h
fails_on (faults.UnknownName p) r f h = ap (λ x. x >>= f) h
fails_on (faults.TwiceNamed p) r f h = ap (λ x. x >>= f) h
fails_on (faults.Version n) r f h = ap (λ x. x >>= f) h
fails_on faults.Memory r f h = tt

-- a row that fails makes all rows fail
pub rows_fail : (net : Network) (fault : PlanFault) (entry : ℕ) (rows : List (Option PlanRow)) (v : Value) (vs rest : List Value)
    (all : Result (List (Option PlanRow)) PlanFault) → rest ≡ v ∷ vs
    → Fails fault (one_more_row net entry rows (view v)) → rows_from net entry rows (items_view rest) ≡ all → Fails fault all
rows_fail net fault entry rows v vs rest all first fails is =
    let here = fails_on fault (one_more_row net entry rows (view v)) (λ more. rows_from net (entry + 1) more (items_view vs)) fails in
    subst (Fails fault) (ap (λ (l : List Value). rows_from net entry rows (items_view l)) (sym first) ∙ is) here

-- 1 where there is a row
abbrev one_row : Option PlanRow → ℕ
one_row row = cond (is_some row) 1 0

-- the row at a place within the rows tells whether it is free
pub free_here : (rows : List (Option PlanRow)) (n : ℕ) (row : Option PlanRow) → n < length rows → row ≡ get_or rows n row → is_free rows n ≡ is_none row
free_here rows n row within is =
    let none : Option PlanRow = None in
    ap (λ (entry : Option (Option PlanRow)). is_none (map_or entry none (λ row. row))) (slice_get_read rows (length rows) n row refl within is)

-- a place within the rows that is free holds nothing
free_row : (rows : List (Option PlanRow)) (n : ℕ) → n < length rows → is_free rows n ≡ true → get_or rows n None ≡ None
free_row rows n within free =
    let none : Option PlanRow = None in
    nothing (get_or rows n none)
    (subst (λ (entry : Option (Option PlanRow)). is_none (map_or entry none (λ row. row)) ≡ true) (slice_get-get_or rows n none within) free)
  where
    nothing : (row : Option PlanRow) → is_none row ≡ true → row ≡ None
    nothing None h = refl
    nothing (Some row) h = cc

-- setting a free place makes one more
pub one_more_filled : (rows : List (Option PlanRow)) (n : ℕ) (row : PlanRow) → n < length rows → is_free rows n ≡ true
    → filled (set rows n (Some row)) ≡ filled rows + 1
one_more_filled rows n row within free =
    let none : Option PlanRow = None in
    let sums = sum_by-set one_row rows n (Some row) none within in
    let nothing : one_row (get_or rows n none) ≡ 0 = ap one_row (free_row rows n within free) in
    omega arith

-- no more devices have a row than there are
pub filled_within : (rows : List (Option PlanRow)) → filled rows ≤ length rows
filled_within [] = omega arith
filled_within (None ∷ rows) = let rest = filled_within rows in let sums = sum_by-cons one_row None rows in omega arith
filled_within (Some row ∷ rows) = let rest = filled_within rows in let sums = sum_by-cons one_row (Some row) rows in omega arith
