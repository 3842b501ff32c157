-- An event of a line is known here exactly where the line begins with a word that is known here.
use Rattle.std.proofs.Common.{◌≡◌, ◌∙◌, ℕ, Bool, true, false, cond, not, List, [], ◌∷◌, Option, Some, None, Result, Ok, Err, refl, sym, ap, length, drop}
use Rattle.std.proofs.lemmas.Bool.{and_parts, eqb-true}
use Rattle.std.specs.Prelude.{IfOk, find, nat_eq, slice_index}
use Rattle.sd_num.specs.Lists.{map_or}
use Rattle.sd_sched.specs.Lines.{Word, words, event_of_word, event_or_number, event_of_fields, event_of_line, has_unknown_kind, field_numbers, first_field, same_bytes}
use Rattle.sd_sched.specs.Reading.{fields_behind}
use Rattle.sd_sched.specs.declared.Event.{Event}
use Rattle.sd_sched.specs.declared.Event.TheVariants as event
use Rattle.sd_sched.specs.declared.LineFault.{LineFault}
use Rattle.sd_sched.specs.declared.LineFault.TheVariants.{UnknownWord}
use Rattle.sd_sched.proofs.Cuts.{fields_step}
use Rattle.sd_commands.specs.solo.Histories.{is_known}
use Rattle.sd_commands.specs.solo.Lines.{knows, solo_event}

-- an event, if there is one, is known as told
abbrev KnownAs : Bool → Result Event LineFault → Type 0
KnownAs told read = IfOk read (λ e. is_known e ≡ told)

of_numbers : (told : Bool) (w : Word) (ns : Result (List ℕ) ℕ) → ((v : List ℕ) → is_known (w.event v) ≡ told) → KnownAs told (event_or_number w ns)
of_numbers told w (Ok ns) all = all ns
of_numbers told w (Err place) all = tt

of_tests : (told few unknown : Bool) (read : Result Event LineFault) → KnownAs told read → (count kind : LineFault)
    → KnownAs told (cond few (Err count) (cond unknown (Err kind) read))
of_tests told true unknown read h count kind = tt
of_tests told false true read h count kind = tt
of_tests told false false read h count kind = h

-- a word whose events are all known as told
of_word : (told : Bool) (w : Word) (texts : List (List ℕ)) → ((v : List ℕ) → is_known (w.event v) ≡ told) → KnownAs told (event_of_word texts w)
of_word told w texts all =
    of_tests told (not (nat_eq (length texts) (length w.shape))) (has_unknown_kind w.shape texts) (event_or_number w (field_numbers 1 w.shape texts))
    (of_numbers told w (field_numbers 1 w.shape texts) all) _ _

same_from : (a b : List ℕ) → same_bytes a b ≡ true → a ≡ b
same_from [] [] same = refl
same_from [] (y ∷ ys) same = cc
same_from (x ∷ xs) [] same = cc
same_from (x ∷ xs) (y ∷ ys) same =
    let parts : (nat_eq x y ≡ true) × (same_bytes xs ys ≡ true) = and_parts (nat_eq x y) (same_bytes xs ys) same in
    rw (eqb-true x y parts.0, same_from xs ys parts.1) refl

-- the events of a word are known as its spelling is
abbrev Agrees : Word → Type 0
Agrees w = (v : List ℕ) → is_known (w.event v) ≡ knows w.spelled

abbrev Each : List Word → Type 0
Each [] = Unit {0}
Each (w ∷ ws) = Agrees w × Each ws

-- of a word with two events neither is known
neither : (device : Bool) (a b c d : ℕ) → (is_known (cond device (event.FailDevice a b) (event.FailLink c d)) ≡ false)
    × (is_known (cond device (event.MendDevice a b) (event.MendLink c d)) ≡ false)
neither true a b c d = (refl, refl)
neither false a b c d = (refl, refl)

all_agree : Each words
unfolding knows
all_agree = (
  λ v. refl,
  (
    λ v. refl,
    (
      λ v. refl,
      (
        λ v. refl,
        (
          λ v. (neither (nat_eq (slice_index v 1) 0) _ _ _
              _).0,
          (
            λ v. refl,
            (
              λ v. refl,
              (
                λ v. refl,
                (
                  λ v. refl,
                  (
                    λ v. refl,
                    (
                      λ v. refl,
                      (
                        λ v. refl,
                        (
                          λ v. (neither
                              (nat_eq (slice_index v 1) 0) _ _ _ _).1,
                          (λ v. refl, tt),
                        ),
                      ),
                    ),
                  ),
                ),
              ),
            ),
          ),
        ),
      ),
    ),
  ),
)

-- a word that is found is among them, and is spelled so
found_among : (ws : List Word) (first : List ℕ) (w : Word) → Each ws → find (λ v. same_bytes v.spelled first) ws ≡ Some w → Agrees w × (w.spelled ≡ first)
found_among [] first w each found = cc
found_among (v ∷ ws) first w each found = go (same_bytes v.spelled first) (same_from v.spelled first) (found_among ws first w each.1) found
  where
    go : (same : Bool) → (same ≡ true → v.spelled ≡ first) → (find (λ u. same_bytes u.spelled first) ws ≡ Some w → Agrees w × (w.spelled ≡ first))
        → cond same (Some v) (find (λ u. same_bytes u.spelled first) ws) ≡ Some w → Agrees w × (w.spelled ≡ first)
    go true spells later found = let is : v ≡ w = cc in rw (← is) (each.0, spells refl)
    go false spells later found = later found

-- fields that begin with a word
of_fields : (first : List ℕ) (texts : List (List ℕ)) → KnownAs (knows first) (event_of_fields (first ∷ texts))
of_fields first texts = go (find (λ w. same_bytes w.spelled first) words) (λ w found. found_among words first w all_agree found)
  where
    go : (found : Option Word) → ((w : Word) → found ≡ Some w → Agrees w × (w.spelled ≡ first))
        → KnownAs (knows first) (map_or found (Err UnknownWord) (event_of_word texts))
    go None is = tt
    go (Some w) is = of_word (knows first) w texts (λ v. (is w refl).0 v ∙ ap knows (is w refl).1)

-- a line's event is known as its first field is
pub known_as_word : (line : List ℕ) → IfOk (event_of_line line) (λ e. is_known e ≡ knows (first_field line))
unfolding event_of_line
known_as_word line = rw (fields_step line) (of_fields (first_field line) (fields_behind (drop (length (first_field line)) line)))

-- an event that is known here is the line's event here
pub known_event : (line : List ℕ) (e : Event) → Ok e ≡ event_of_line line → is_known e ≡ true → Ok e ≡ solo_event line
unfolding solo_event
known_event line e is known = let begins : knows (first_field line) ≡ true = sym (rw (← is) at (known_as_word line)) ∙ known in rw begins is

-- and one that is not known here belongs to a word that is not
pub unknown_event : (line : List ℕ) (e : Event) → Ok e ≡ event_of_line line → is_known e ≡ false → Err UnknownWord ≡ solo_event line
unfolding solo_event
unknown_event line e is unknown = let begins : knows (first_field line) ≡ false = sym (rw (← is) at (known_as_word line)) ∙ unknown in rw begins refl
