-- What a `ParentTable` keeps of devices is how they stand after an event, and answers for loops and roots of the history.
use Rattle.std.specs.Prelude.{◌≡◌, ◌≢◌, ℕ, zero, suc, ◌+◌, ◌<◌, Bool, false, List, [], ◌∷◌, ◌++◌, length, filter, find, nat_eq, replicate, slice_get, Option, Some, None, is_some, MatchOption, refl, if◌then◌else◌}
use Rattle.std.specs.List.{list_any}
use Rattle.std.proofs.Common.{sym, ap, ◌∙◌, subst, arith, inl, inr}
use Rattle.std.proofs.lemmas.Bool.{cases_lt, cases_Bool, eqb-true, eqb-false, ne_eqb, le-leb}
use Rattle.std.proofs.lemmas.List.{length-set, length-replicate}
use Rattle.std.proofs.lemmas.List.Elements.{filter-append}
use Rattle.std.proofs.lemmas.Option.{same_Some}
use Rattle.sd_num.specs.Lists.{below, map_or, at_place, same_number, follow}
use Rattle.sd_num.proofs.Places.{at_written, at_unwritten}
use Rattle.sd_num.proofs.Shared.{no_acting}
use Rattle.sd_plan.specs.topo.Network.{device_numbers}
use Rattle.sd_replay.specs.watch.Watch.{parent_in, IsOnLoop, HasNoLoop, IsFirstOnLoop, acting_devices, two_least}
use Rattle.sd_replay.proofs.watch.Settling.{only_within}
use Rattle.sd_sched.specs.Events.{device_of}
use Rattle.sd_history.specs.World.{Setting}
use Rattle.sd_history.specs.Steps.{Step}
use Rattle.sd_history.specs.Accepted.{AreSteps}
use Rattle.sd_history.proofs.Shared.{same_follow}
use Rattle.sd_history.specs.Lines.{RootsAlarm, counted_parent, first_on_loop, roots, loop_lines, root_lines}
use Rattle.sd_replay.proofs.Loops.{UpIsKnown, parents_known, first_is}
use Rattle.sd_replay.specs.watch.parent_table.ParentTable as parent_table
use Rattle.sd_replay.specs.declared.watch.parent_table.ParentRow.{ParentRow}
use Rattle.sd_replay.proofs.watch.Shared.{no_parent}
use Rattle.sd_replay.specs.lines.Findings.{loop_found, roots_found}
use Rattle.sd_replay.specs.Standing.{counted_acts, parent_row_in, parent_row_at, IsSet, IsParentTable, new_loop, new_roots}
use Rattle.sd_replay.proofs.Others.{parent_row_same}

-- One device that is set

abbrev parent_row_of : Option ℕ → Bool → ParentRow
parent_row_of parent acts = record { parent = parent; acts = acts }

module _ (old new : parent_table.Kept) (d : ℕ) (parent_row : ParentRow) (set_ : IsSet old new d parent_row) where
  pub set_here : d < length old.parents → d < length old.acting → parent_row_at new d ≡ parent_row
  set_here parents acting =
      ap (λ (p : Option ℕ). parent_row_of p (at_place new.acting d false (λ acts. acts)))
      (ap (λ xs. parent_in xs d) set_.parents ∙ ap (λ o. map_or o None (λ parent. parent)) (at_written old.parents d parent_row.parent parents))
      ∙ ap (parent_row_of parent_row.parent)
      (ap (λ xs. at_place xs d false (λ acts. acts)) set_.acting ∙ ap (λ o. map_or o false (λ acts. acts)) (at_written old.acting d parent_row.acts acting))

  pub set_elsewhere : (e : ℕ) → e ≢ d → parent_row_at new e ≡ parent_row_at old e
  set_elsewhere e apart =
      ap (λ (p : Option ℕ). parent_row_of p (at_place new.acting e false (λ acts. acts)))
      (ap (λ xs. parent_in xs e) set_.parents ∙ ap (λ o. map_or o None (λ parent. parent)) (at_unwritten old.parents d e parent_row.parent apart))
      ∙ ap (parent_row_of (parent_in old.parents e))
      (ap (λ xs. at_place xs e false (λ acts. acts)) set_.acting ∙ ap (λ o. map_or o false (λ acts. acts)) (at_unwritten old.acting d e parent_row.acts apart))

  pub set_parents : length new.parents ≡ length old.parents
  set_parents = ap length set_.parents ∙ length-set old.parents d parent_row.parent

  pub set_acting : length new.acting ≡ length old.acting
  set_acting = ap length set_.acting ∙ length-set old.acting d parent_row.acts

-- devices that are set one after the other
pub set_each : (old new : parent_table.Kept) (d : ℕ) (parent_row : ℕ → ParentRow) → IsSet old new d (parent_row d) → d < length old.parents
    → d < length old.acting → ((e : ℕ) → e < d → parent_row_at old e ≡ parent_row e)
    → (e : ℕ) → e < d + 1 → parent_row_at new e ≡ parent_row e
set_each old new d parent_row set_ parents acting before e less = elim (cases_Bool (nat_eq e d)) [
  | inl same ↦ subst (λ x. parent_row_at new x ≡ parent_row x) (sym (eqb-true e d same)) (set_here old new d (parent_row d) set_ parents acting)
  | inr apart ↦ (let other : e ≢ d = eqb-false e d apart in set_elsewhere old new d (parent_row d) set_ e other ∙ before e (omega (arith, other, less)))
]

-- Before any event

-- no device counts, so each stands as one that follows nobody and does not act
pub first_parent_table : (kept : parent_table.Kept) (setting : Setting) (n : ℕ) → kept.parents ≡ replicate n None → kept.acting ≡ replicate n false
    → n ≡ length setting.net.devices → IsParentTable kept setting []
first_parent_table kept setting n parents acting count =
    record {
      parents = ap length parents ∙ length-replicate n None ∙ count;
      acting = ap length acting ∙ length-replicate n false ∙ count;
      each = λ d within.
          ap (λ (p : Option ℕ). parent_row_of p (at_place kept.acting d false (λ acts. acts))) (ap (λ xs. parent_in xs d) parents ∙ no_parent n d)
          ∙ ap (parent_row_of None) (ap (λ xs. at_place xs d false (λ acts. acts)) acting ∙ no_acting n d);
    }

-- After an event that leaves the window as it is

named_apart : (o : Option ℕ) (d : ℕ) → ((x : ℕ) → o ≡ Some x → d ≢ x) → same_number o d ≡ false
named_apart None d apart = refl
named_apart (Some x) d apart = ne_eqb x d (λ same. apart x refl (sym same))

-- the named device was set, and stands as it does after the event
pub one_changed : (setting : Setting) (s : Step) (earlier : List Step) (old new : parent_table.Kept) (d : ℕ) (parent_row : ParentRow)
    → AreSteps setting (s ∷ earlier) → s.seen.closed ≡ false
    → device_of s.seen.event ≡ Some d → d < length setting.net.devices → parent_row ≡ parent_row_in setting (s ∷ earlier) d → IsSet old new d parent_row
    → IsParentTable old setting earlier → IsParentTable new setting (s ∷ earlier)
one_changed setting s earlier old new d parent_row is open_ named within stands set_ are =
    record {
      parents = set_parents old new d parent_row set_ ∙ are.parents;
      acting = set_acting old new d parent_row set_ ∙ are.acting;
      each = λ e inside. elim (cases_Bool (nat_eq e d)) [
        | inl same ↦
            subst (λ x. parent_row_at new x ≡ parent_row_in setting (s ∷ earlier) x) (sym (eqb-true e d same))
            (set_here old new d parent_row set_ (subst (λ n. d < n) (sym are.parents) within) (subst (λ n. d < n) (sym are.acting) within) ∙ stands)
        | inr apart ↦
            let other : e ≢ d = eqb-false e d apart in
            set_elsewhere old new d parent_row set_ e other ∙ are.each e inside
            ∙ sym (parent_row_same setting s earlier is e open_ (named_apart (device_of s.seen.event) e (λ x at same. other (same ∙ one x at))))
      ];
    }
  where
    one : (x : ℕ) → device_of s.seen.event ≡ Some x → x ≡ d
    one x at = same_Some x d (sym at ∙ named)

-- the named device stands as it is kept already
pub one_kept : (setting : Setting) (s : Step) (earlier : List Step) (kept : parent_table.Kept) (d : ℕ) → AreSteps setting (s ∷ earlier) → s.seen.closed ≡ false
    → device_of s.seen.event ≡ Some d → parent_row_at kept d ≡ parent_row_in setting (s ∷ earlier) d → IsParentTable kept setting earlier
    → IsParentTable kept setting (s ∷ earlier)
one_kept setting s earlier kept d is open_ named stands are =
    record {
      parents = are.parents;
      acting = are.acting;
      each = λ e inside. elim (cases_Bool (nat_eq e d)) [
        | inl same ↦ subst (λ x. parent_row_at kept x ≡ parent_row_in setting (s ∷ earlier) x) (sym (eqb-true e d same)) stands
        | inr apart ↦
            let other : e ≢ d = eqb-false e d apart in
            are.each e inside
            ∙ sym (parent_row_same setting s earlier is e open_ (named_apart (device_of s.seen.event) e (λ x at same. other (same ∙ one x at))))
      ];
    }
  where
    one : (x : ℕ) → device_of s.seen.event ≡ Some x → x ≡ d
    one x at = same_Some x d (sym at ∙ named)

-- what is kept of a device is its row
pub row_at : (kept : parent_table.Kept) (d : ℕ) (row : ParentRow) → slice_get kept.parents d ≡ Some row.parent → slice_get kept.acting d ≡ Some row.acts
    → parent_row_at kept d ≡ row
row_at kept d row parent acts =
    ap (λ (p : Option ℕ). parent_row_of p (at_place kept.acting d false (λ acts. acts))) (ap (λ o. map_or o None (λ parent. parent)) parent)
    ∙ ap (parent_row_of row.parent) (ap (λ o. map_or o false (λ acts. acts)) acts)

-- two rows that say the same
pub same_rows : (a b : ParentRow) → a.parent ≡ b.parent → a.acts ≡ b.acts → a ≡ b
same_rows a b parent acts = λ i. parent_row_of (parent i) (acts i)

-- no device is named, and each stands as before
pub none_changed : (setting : Setting) (s : Step) (earlier : List Step) (kept : parent_table.Kept) → AreSteps setting (s ∷ earlier) → s.seen.closed ≡ false
    → device_of s.seen.event ≡ None → IsParentTable kept setting earlier → IsParentTable kept setting (s ∷ earlier)
none_changed setting s earlier kept is open_ named are =
    record {
      parents = are.parents;
      acting = are.acting;
      each = λ e inside. are.each e inside ∙ sym (parent_row_same setting s earlier is e open_ (ap (λ o. same_number o e) named));
    }

-- Loops and roots

never_some : {A : Type 0} (o : Option A) → ((x : A) → o ≡ Some x → ⊥) → o ≡ None
never_some None never = refl
never_some (Some x) never = absurd (never x refl)

-- two functions that agree have the same loops
same_loop : (p q : ℕ → Option ℕ) → ((d : ℕ) → p d ≡ q d) → (d : ℕ) → IsOnLoop p d → IsOnLoop q d
same_loop p q same d loop = record { steps = loop.steps; back = sym (same_follow p q same (suc loop.steps) d) ∙ loop.back }

same_first : (p q : ℕ → Option ℕ) → ((d : ℕ) → p d ≡ q d) → (first : Option ℕ) → MatchOption first (HasNoLoop p) (λ d. IsFirstOnLoop p d)
    → MatchOption first (HasNoLoop q) (λ d. IsFirstOnLoop q d)
same_first p q same None none = λ d loop. none d (same_loop q p (λ e. sym (same e)) d loop)
same_first p q same (Some d) is =
    record { on_loop = same_loop p q same d is.on_loop; least = λ e less loop. is.least e less (same_loop q p (λ x. sym (same x)) e loop) }

-- tests that agree below the bound pass the same numbers
same_below : (p q : ℕ → Bool) (n : ℕ) → ((d : ℕ) → d < n → p d ≡ q d) → filter p (below n) ≡ filter q (below n)
same_below p q zero same = refl
same_below p q (suc n) same =
    filter-append p (below n) (n ∷ [])
    ∙ ap (λ xs. xs ++ filter p (n ∷ [])) (same_below p q n (λ d less. same d (omega arith)))
    ∙ ap (λ b. filter q (below n) ++ (if b then n ∷ [] else [])) (same n (omega arith))
    ∙ sym (filter-append q (below n) (n ∷ []))

module _ (kept : parent_table.Kept) (setting : Setting) (steps : List Step) (are : IsParentTable kept setting steps) (known : UpIsKnown setting steps) where
  parent_same : (d : ℕ) → parent_in kept.parents d ≡ counted_parent setting steps d
  parent_same d = elim (cases_lt d (length setting.net.devices)) [
    | inl within ↦ ap (λ (s : ParentRow). s.parent) (are.each d within)
    | inr past ↦
        never_some (parent_in kept.parents d) (λ p at. let within : d < length kept.parents = only_within kept.parents d p at in omega (arith, are.parents))
        ∙ sym (never_some (counted_parent setting steps d) (λ p at. let within : d < length setting.net.devices = parents_known setting steps known d p at in
        omega arith))
  ]

  -- the first loop that is kept is the history's
  pub loop_is : (first : Option ℕ) → MatchOption first (HasNoLoop (parent_in kept.parents)) (λ d. IsFirstOnLoop (parent_in kept.parents) d)
      → first_on_loop setting steps ≡ first
  loop_is first match_ = first_is setting steps known first (same_first (parent_in kept.parents) (counted_parent setting steps) parent_same first match_)

  -- and so are the roots
  pub roots_are : acting_devices kept.acting ≡ roots setting steps
  roots_are =
      same_below (λ d. at_place kept.acting d false (λ acts. acts)) (counted_acts setting steps) (length kept.acting)
      (λ d within. ap (λ (s : ParentRow). s.acts) (are.each d (subst (λ n. d < n) are.acting within)))
      ∙ ap (λ n. filter (counted_acts setting steps) (below n)) are.acting

-- What is new

-- there is nothing new where it is as before
newly_same : {A : Type 0} (before now : Option A) → before ≡ now → None ≡ (if is_some before then None else now)
newly_same None now same = same
newly_same (Some x) now same = refl

pub newly_is : {A : Type 0} (before now told_before told_now : Option A) → told_before ≡ before → told_now ≡ now
    → (if is_some told_before then None else told_now) ≡ (if is_some before then None else now)
newly_is before now told_before told_now was is =
    ap (λ o. if is_some o then None else told_now) was ∙ ap (λ o. if is_some before then None else o) is

-- the least device on a loop, by the parents of counted devices
abbrev first_by : Setting → (ℕ → Option ℕ) → Option ℕ
first_by setting parent =
    find (λ d. list_any (λ n. same_number (follow parent (n + 1) d) d) (device_numbers setting.net)) (device_numbers setting.net)

-- what is kept stands for the steps, and for those with one more
module _ (kept : parent_table.Kept) (setting : Setting) (s : Step) (earlier : List Step) (before : IsParentTable kept setting earlier)
    (after : IsParentTable kept setting (s ∷ earlier)) (known : UpIsKnown setting earlier) (known_after : UpIsKnown setting (s ∷ earlier)) where
  parents_stay : counted_parent setting earlier ≡ counted_parent setting (s ∷ earlier)
  parents_stay = λ i d. (sym (parent_same kept setting earlier before known d) ∙ parent_same kept setting (s ∷ earlier) after known_after d) i

  -- then there is no new loop
  pub no_new_loop : None ≡ new_loop setting s earlier
  no_new_loop = newly_same (first_on_loop setting earlier) (first_on_loop setting (s ∷ earlier)) (ap (first_by setting) parents_stay)

  -- and there are no new roots
  pub no_new_roots : None ≡ new_roots setting s earlier
  no_new_roots =
      newly_same (two_least (roots setting earlier)) (two_least (roots setting (s ∷ earlier)))
      (ap two_least (sym (roots_are kept setting earlier before known) ∙ roots_are kept setting (s ∷ earlier) after known_after))

-- Lines

pub loop_lines_are : (before now : Option ℕ) → loop_found (if is_some before then None else now) ≡ loop_lines before now
loop_lines_are None None = refl
loop_lines_are None (Some d) = refl
loop_lines_are (Some e) now = refl

-- two are told where there were fewer before
pub root_lines_are : (before now : List ℕ) → roots_found (if is_some (two_least before) then None else two_least now) ≡ root_lines before now
root_lines_are [] [] = refl
root_lines_are [] (d ∷ []) = refl
root_lines_are [] (d ∷ e ∷ now) = refl
root_lines_are (x ∷ []) [] = refl
root_lines_are (x ∷ []) (d ∷ []) = refl
root_lines_are (x ∷ []) (d ∷ e ∷ now) = refl
root_lines_are (x ∷ y ∷ before) [] = refl
root_lines_are (x ∷ y ∷ before) (d ∷ []) = refl
root_lines_are (x ∷ y ∷ before) (d ∷ e ∷ now) = ap (λ b. if b then [] else RootsAlarm d e ∷ []) (sym (le-leb 2 (length (x ∷ y ∷ before)) (omega arith)))
