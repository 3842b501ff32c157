-- The parts of a text make the whole document.
use Rattle.std.specs.Prelude.{◌≡◌, ℕ, suc, ◌+◌, ◌*◌, ◌/◌, ◌%◌, ◌<◌, ◌≤◌, true, false, List, [], ◌∷◌, ◌++◌, length, map, flat_map, codes, refl}
use Rattle.std.proofs.Common.{arith, ap, sym, ◌∙◌, subst, add-one, append_assoc, append-nil}
use Rattle.std.proofs.lemmas.Nat.{mul-le}
use Rattle.std.proofs.lemmas.List.Concat.{flat_map-append}
use Rattle.toml.specs.Data.{Members, no_members, member, string, table, items_are_sorted, items_have_valid_dates, members_are_sorted, members_have_valid_dates}
use Rattle.toml.specs.Tables.{Expression, array_table}
use Rattle.toml.specs.Text.{IsDocumentText, IsLinesText, are_tables, elements, expressions, pairs, sections}
use Rattle.toml.specs.View.{items_of}
use Rattle.sd_num.specs.Lists.{below}
use Rattle.sd_plan.proofs.Numbered.{length-numbered}
use Rattle.sd_topotext.specs.declared.fault.Key.TheVariants as keys
use Rattle.sd_topotext.specs.Printed.{put, put_word}
use Rattle.sd_gen.specs.fabric.Fabrics.{spine_name, leaf_name, link_name}
use Rattle.sd_gen.specs.fabric.Numbered.{numbered_device_name}
use Rattle.sd_gen.specs.fabric.Pages.{HasLines, front_tree, section_of}
use Rattle.sd_gen.specs.fabric.Trees.{tables, strings, device_tree, link_tree, rack_tree, numbers_tree, fabric_tree}
use Rattle.sd_gen.proofs.fabric.Building.{map_twice}
use Rattle.sd_gen.proofs.fabric.Numbering.{numbered, numbered_append, grid}

-- Lines, and more after them

lines_after : (es fs : List Expression) (t u : List ℕ) → IsLinesText false true es t → IsLinesText false true fs u → IsLinesText false true (es ++ fs) (t ++ u)
lines_after [] fs t u none more = subst (IsLinesText false true fs) (sym (ap (λ x. x ++ u) none)) more
lines_after (e ∷ es) fs t u (this, rest, whole, line, lines) more =
    (this, rest ++ u, ap (λ x. x ++ u) whole ∙ append_assoc this rest u, line, lines_after es fs rest u lines more)

lines_from : (e : Expression) (es fs : List Expression) (t u : List ℕ) → IsLinesText false false (e ∷ es) t → IsLinesText false true fs u
    → IsLinesText false false (e ∷ (es ++ fs)) (t ++ u)
lines_from e es fs t u (this, rest, whole, line, lines) more =
    (this, rest ++ u, ap (λ x. x ++ u) whole ∙ append_assoc this rest u, line, lines_after es fs rest u lines more)

-- an empty line before a header
headed : (key : List ℕ) (es : List Expression) (t : List ℕ) → IsLinesText false false ((([], key), array_table) ∷ es) t
    → IsLinesText false true ((([], key), array_table) ∷ es) (10 ∷ t)
headed key es t (this, rest, whole, line, lines) = (10 ∷ this, rest, ap (λ x. 10 ∷ x) whole, ap (λ x. 10 ∷ x) line, lines)

-- Arrays of tables

tables_alone : (all : List Members) → are_tables (items_of (map table all)) ≡ true
tables_alone [] = refl
tables_alone (m ∷ all) = tables_alone all

section_document : (key : List ℕ) (m : Members) (all : List Members) → expressions (member key (tables (m ∷ all)) no_members) ≡ section_of key (m ∷ all)
section_document key m all = rw (tables_alone all) (append-nil (section_of key (m ∷ all)))

section_more : (key : List ℕ) (xs ys : List Members) → section_of key (xs ++ ys) ≡ section_of key xs ++ section_of key ys
section_more key [] ys = refl
section_more key (m ∷ xs) ys =
    let here : List Expression = pairs m ++ sections (key ∷ []) m in
    ap (λ (r : List Expression). (([], key), array_table) ∷ (here ++ r)) (section_more key xs ys)
    ∙ ap (λ (r : List Expression). (([], key), array_table) ∷ r) (sym (append_assoc here (section_of key xs) (section_of key ys)))

-- a document of an array of tables alone comes after the lines before it
pub added : (key : List ℕ) (lines : List Expression) (all : List Members) (old gapped part new : List ℕ) (ms : Members)
    → ms ≡ put_word key (tables all) no_members → IsDocumentText false ms part
    → gapped ≡ old ++ 10 ∷ [] → new ≡ gapped ++ part → 0 < length all → HasLines lines old → HasLines (lines ++ section_of key all) new
added key lines [] old gapped part new ms is doc gap more some has = absurd (omega (arith, some))
added key [] (m ∷ all) old gapped part new ms is doc gap more some has = let none = has.some in absurd (omega (arith, none))
added key (e ∷ es) (m ∷ all) old gapped part new ms is doc gap more some has =
    let alone : IsLinesText false false (section_of key (m ∷ all)) part =
    subst (λ (fs : List Expression). IsLinesText false false fs part) (ap expressions is ∙ section_document key m all) doc in
    let behind : new ≡ old ++ (10 ∷ part) = more ∙ ap (λ x. x ++ part) gap ∙ append_assoc old (10 ∷ []) part in
    record {
      written =
          subst (λ (t : List ℕ). IsLinesText false false (e ∷ (es ++ section_of key (m ∷ all))) t) (sym behind)
          (lines_from e es (section_of key (m ∷ all)) old (10 ∷ part) has.written (headed key _ part alone));
      some = omega arith;
    }

-- none are added
pub none_added : (key : List ℕ) (lines : List Expression) (n : ℕ) (tree : ℕ → List Members) (text : List ℕ) → n ≡ 0 → HasLines lines text
    → HasLines (lines ++ section_of key (flat_map tree (below n))) text
none_added key lines n tree text none has =
    subst (λ (k : ℕ). HasLines (lines ++ section_of key (flat_map tree (below k))) text) (sym none)
    (subst (λ (es : List Expression). HasLines es text) (sym (append-nil lines)) has)

-- those of one number more
pub more_added : (key : List ℕ) (lines : List Expression) (n : ℕ) (tree : ℕ → List Members) (text : List ℕ)
    → HasLines ((lines ++ section_of key (flat_map tree (below n))) ++ section_of key (tree n)) text
    → HasLines (lines ++ section_of key (flat_map tree (below (n + 1)))) text
more_added key lines n tree text has =
    let those : flat_map tree (below (suc n)) ≡ flat_map tree (below n) ++ tree n =
    flat_map-append tree (below n) (n ∷ []) ∙ ap (λ (ms : List Members). flat_map tree (below n) ++ ms) (append-nil (tree n)) in
    let all : (lines ++ section_of key (flat_map tree (below n))) ++ section_of key (tree n) ≡ lines ++ section_of key (flat_map tree (below (n + 1))) =
    append_assoc lines (section_of key (flat_map tree (below n))) (section_of key (tree n))
    ∙ ap (λ (es : List Expression). lines ++ es) (sym (section_more key (flat_map tree (below n)) (tree n)))
    ∙ ap (λ (ms : List Members). lines ++ section_of key ms) (sym those)
    ∙ ap (λ (k : ℕ). lines ++ section_of key (flat_map tree (below k))) (sym (add-one n)) in
    subst (λ (es : List Expression). HasLines es text) all has

-- one table for each number
pub each_alone : (tree : ℕ → Members) (n : ℕ) → flat_map (λ k. tree k ∷ []) (below n) ≡ map tree (below n)
each_alone tree n = by (below n)
  where
    by : (ks : List ℕ) → flat_map (λ k. tree k ∷ []) ks ≡ map tree ks
    by [] = refl
    by (k ∷ ks) = ap (λ (ms : List Members). tree k ∷ ms) (by ks)

-- The whole

pub front_written : (spines : ℕ) (ms : Members) (text : List ℕ) → ms ≡ front_tree spines → IsDocumentText false ms text
    → HasLines (expressions (front_tree spines)) text
front_written spines ms text is document = record { written = subst (λ (t : Members). IsDocumentText false t text) is document; some = omega arith }

joined : (names : List (List ℕ)) (devices racks links : List Members) → 0 < length names → 0 < length devices → 0 < length racks → 0 < length links
    → expressions
    (put keys.Device (tables devices) (put keys.Link (tables links) (put keys.Domain (tables racks) (put keys.Roots (strings names) numbers_tree))))
    ≡ expressions (put keys.Roots (strings names) numbers_tree)
    ++ (section_of (codes "device") devices ++ (section_of (codes "domain") racks ++ section_of (codes "link") links))
joined [] devices racks links a b c d = absurd (omega (arith, a))
joined names [] racks links a b c d = absurd (omega (arith, b))
joined names devices [] links a b c d = absurd (omega (arith, c))
joined names devices racks [] a b c d = absurd (omega (arith, d))
joined (n ∷ ns) (d ∷ ds) (r ∷ rs) (k ∷ ks) a b c e =
    rw (tables_alone ds, tables_alone rs, tables_alone ks, append-nil (elements ([], codes "link") (items_of (map table (k ∷ ks))))) refl

module _ (leaves spines : ℕ) (some_leaves : 0 < leaves) (some_spines : 0 < spines) where
  abbrev devices : List Members
  devices = map device_tree (map spine_name (below spines) ++ map leaf_name (below leaves))

  abbrev racks : List Members
  racks = map (rack_tree spines) (below leaves)

  abbrev links : List Members
  links = flat_map (λ i. map (link_tree i) (below spines)) (below leaves)

  some_links : 0 < length links
  some_links =
      let count : length links ≡ leaves * spines = ap length (grid link_tree leaves spines)
      ∙ length-numbered (λ l. link_tree (l / spines) (l % spines)) (leaves * spines) in
      let product : 1 * spines ≤ leaves * spines = mul-le 1 spines leaves spines (omega (arith, some_leaves)) (omega arith) in
      omega (arith, count, product, some_spines)

  pub some_devices : 0 < length devices
  some_devices =
      let same : devices ≡ numbered (λ d. device_tree (numbered_device_name spines d)) (spines + leaves) =
      ap (map device_tree) (numbered_append spine_name leaf_name spines leaves) ∙ map_twice device_tree (numbered_device_name spines) (below (spines + leaves)) in
      let count : length devices ≡ spines + leaves = ap length same ∙ length-numbered (λ d. device_tree (numbered_device_name spines d)) (spines + leaves) in
      omega (arith, count, some_spines)

  pub whole_document : (text : List ℕ)
      → HasLines (((expressions (front_tree spines) ++ section_of (codes "device") devices) ++ section_of (codes "domain") racks)
      ++ section_of (codes "link") links) text
      → IsDocumentText false (fabric_tree leaves spines) text
  unfolding fabric_tree
  whole_document text has =
      let front : List Expression = expressions (front_tree spines) in
      let a : List Expression = section_of (codes "device") devices in
      let b : List Expression = section_of (codes "domain") racks in
      let c : List Expression = section_of (codes "link") links in
      let names = length-numbered spine_name spines in
      let count = length-numbered (rack_tree spines) leaves in
      let all : expressions (fabric_tree leaves spines) ≡ front ++ (a ++ (b ++ c)) =
      joined (map spine_name (below spines)) devices racks links (omega (arith, names, some_spines)) some_devices
      (omega (arith, count, some_leaves)) some_links in
      let parts : ((front ++ a) ++ b) ++ c ≡ front ++ (a ++ (b ++ c)) = append_assoc (front ++ a) b c ∙ append_assoc front a (b ++ c) in
      subst (λ (es : List Expression). IsLinesText false false es text) (parts ∙ sym all) has.written

-- Its keys ascend, and it has no dates.

strings_sorted : (names : List (List ℕ)) → items_are_sorted (items_of (map string names)) ≡ true
strings_sorted [] = refl
strings_sorted (n ∷ ns) = strings_sorted ns

strings_dated : (names : List (List ℕ)) → items_have_valid_dates (items_of (map string names)) ≡ true
strings_dated [] = refl
strings_dated (n ∷ ns) = strings_dated ns

tables_sorted : {A : Type 0} (tree : A → Members) (xs : List A) → ((x : A) → members_are_sorted (tree x) ≡ true)
    → items_are_sorted (items_of (map table (map tree xs))) ≡ true
tables_sorted tree [] each = refl
tables_sorted tree (x ∷ xs) each = rw (each x) (tables_sorted tree xs each)

tables_dated : {A : Type 0} (tree : A → Members) (xs : List A) → ((x : A) → members_have_valid_dates (tree x) ≡ true)
    → items_have_valid_dates (items_of (map table (map tree xs))) ≡ true
tables_dated tree [] each = refl
tables_dated tree (x ∷ xs) each = rw (each x) (tables_dated tree xs each)

pub fabric_sorted : (leaves spines : ℕ) → members_are_sorted (fabric_tree leaves spines) ≡ true
unfolding fabric_tree
fabric_sorted leaves spines =
    let devices = tables_sorted device_tree (map spine_name (below spines) ++ map leaf_name (below leaves)) (λ name. refl) in
    let links : items_are_sorted (items_of (map table (flat_map (λ i. map (link_tree i) (below spines)) (below leaves)))) ≡ true =
    ap (λ ms. items_are_sorted (items_of (map table ms))) (grid link_tree leaves spines)
    ∙ tables_sorted (λ l. link_tree (l / spines) (l % spines)) (below (leaves * spines)) (λ l. refl) in
    let racks = tables_sorted (rack_tree spines) (below leaves) (λ i. rw (strings_sorted (map (link_name i) (below spines))) refl) in
    rw (devices, links, racks, strings_sorted (map spine_name (below spines))) refl

pub fabric_dated : (leaves spines : ℕ) → members_have_valid_dates (fabric_tree leaves spines) ≡ true
unfolding fabric_tree
fabric_dated leaves spines =
    let devices = tables_dated device_tree (map spine_name (below spines) ++ map leaf_name (below leaves)) (λ name. refl) in
    let links : items_have_valid_dates (items_of (map table (flat_map (λ i. map (link_tree i) (below spines)) (below leaves)))) ≡ true =
    ap (λ ms. items_have_valid_dates (items_of (map table ms))) (grid link_tree leaves spines)
    ∙ tables_dated (λ l. link_tree (l / spines) (l % spines)) (below (leaves * spines)) (λ l. refl) in
    let racks = tables_dated (rack_tree spines) (below leaves) (λ i. rw (strings_dated (map (link_name i) (below spines))) refl) in
    rw (devices, links, racks, strings_dated (map spine_name (below spines))) refl
