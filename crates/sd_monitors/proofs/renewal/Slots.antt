-- The marks of devices after an event.
use Rattle.std.proofs.Common.{◌≡◌, ℕ, ◌<◌, Bool, true, false, ◌||◌, List, length, nat_eq, Option, Some, None, refl, sym, ◌∙◌, subst, get_or-set_same, get_or-set_other, cond}
use Rattle.std.specs.Prelude.{slice_index_or, slice_set, if◌then◌else◌}
use Rattle.std.proofs.lemmas.Bool.{eqb-true, eqb-false}
use Rattle.std.proofs.Math.ListN.{length-set}
use Rattle.sd_num.specs.Lists.{map_or, same_number}
use Rattle.sd_sched.specs.declared.Event.{Event}
use Rattle.sd_sched.specs.declared.Event.TheVariants as event
use Rattle.sd_history.specs.World.{Seen, makes}
use Rattle.sd_monitors.specs.declared.renewal.mark.Mark.{Mark}
use Rattle.sd_monitors.specs.renewal.Marks.{no_mark, marked, mark_after}
use Rattle.sd_monitors.specs.renewal.Windowed.{tells_given, tells_entered}
use Rattle.sd_monitors.specs.renewal.Progressing.{given_after, made_after, entered_after}

abbrev pub at : List Mark → ℕ → Mark
at marks d = slice_index_or marks d no_mark

-- a mark that is written
put : (marks : List Mark) (m d : ℕ) (x : Mark) → d < length marks → at (slice_set marks m x) d ≡ cond (nat_eq m d) x (at marks d)
put marks m d x within = by (nat_eq m d) refl
  where
    by : (b : Bool) → nat_eq m d ≡ b → at (slice_set marks m x) d ≡ cond b x (at marks d)
    by true same = subst (λ (k : ℕ). at (slice_set marks k x) d ≡ x) (sym (eqb-true m d same)) (get_or-set_same marks d x no_mark within)
    by false other = get_or-set_other marks m d x no_mark (λ same. eqb-false m d other (sym same))

-- which device was given its duty
pub given_slot : (s : Seen) (windows : ℕ) (marks : List Mark) (d : ℕ) → d < length marks
    → at (given_after s.event windows marks) d ≡ mark_after (tells_given d s) windows (at marks d)
given_slot s windows marks d within = by s.event
  where
    told : (b : Bool) (x : Mark) → cond b (marked windows) x ≡ mark_after (cond b (Some true) None) windows x
    told true x = refl
    told false x = refl

    undone : (b : Bool) (x : Mark) → cond b no_mark x ≡ mark_after (cond b (Some false) None) windows x
    undone true x = refl
    undone false x = refl

    by : (e : Event) → at (given_after e windows marks) d ≡ mark_after (tells_given d (record s { event = e })) windows (at marks d)
    by (event.Give r m) = put marks m d (marked windows) within ∙ told (nat_eq m d) (at marks d)
    by (event.Join r m c clock eps) = put marks m d no_mark within ∙ undone (nat_eq m d) (at marks d)
    by _ = refl

-- which device was made
made_slot : (e : Event) (windows : ℕ) (marks : List Mark) (d : ℕ) → d < length marks
    → at (made_after e marks) d ≡ mark_after (if makes d e then Some false else None) windows (at marks d)
made_slot e windows marks d within = by e
  where
    undone : (b : Bool) (x : Mark) → cond b no_mark x ≡ mark_after (cond b (Some false) None) windows x
    undone true x = refl
    undone false x = refl

    undone_or : (b : Bool) (x : Mark) → cond b no_mark x ≡ mark_after (cond (b || false) (Some false) None) windows x
    undone_or true x = refl
    undone_or false x = refl

    by : (e : Event) → at (made_after e marks) d ≡ mark_after (if makes d e then Some false else None) windows (at marks d)
    by (event.Start r m c clock eps) = put marks m d no_mark within ∙ undone_or (nat_eq m d) (at marks d)
    by (event.Join r m c clock eps) = put marks m d no_mark within ∙ undone (nat_eq m d) (at marks d)
    by _ = refl

pub length_given : (e : Event) (windows : ℕ) (marks : List Mark) → length (given_after e windows marks) ≡ length marks
length_given (event.Give r m) windows marks = length-set marks m (marked windows)
length_given (event.Join r m c clock eps) windows marks = length-set marks m no_mark
length_given _ windows marks = refl

length_made : (e : Event) (marks : List Mark) → length (made_after e marks) ≡ length marks
length_made (event.Start r m c clock eps) marks = length-set marks m no_mark
length_made (event.Join r m c clock eps) marks = length-set marks m no_mark
length_made _ marks = refl

pub length_entered : (s : Seen) (windows : ℕ) (marks : List Mark) → length (entered_after s windows marks) ≡ length marks
length_entered s windows marks = by s.activated ∙ length_made s.event marks
  where
    by : (o : Option ℕ)
        → length (map_or o (made_after s.event marks) (λ d. slice_set (made_after s.event marks) d (marked windows))) ≡ length (made_after s.event marks)
    by None = refl
    by (Some d) = length-set (made_after s.event marks) d (marked windows)

-- which device has entered the staged plan
pub entered_slot : (s : Seen) (windows : ℕ) (marks : List Mark) (d : ℕ) → d < length marks
    → at (entered_after s windows marks) d ≡ mark_after (tells_entered d s) windows (at marks d)
entered_slot s windows marks d within = by s.activated
  where
    inside : d < length (made_after s.event marks)
    inside = subst (λ (n : ℕ). d < n) (sym (length_made s.event marks)) within

    told : (b : Bool) (x y : Mark) (o : Option Bool) → x ≡ mark_after o windows y → cond b (marked windows) x ≡ mark_after (cond b (Some true) o) windows y
    told true x y o is = refl
    told false x y o is = is

    by : (o : Option ℕ) → at (map_or o (made_after s.event marks) (λ m. slice_set (made_after s.event marks) m (marked windows))) d
        ≡ mark_after (if same_number o d then Some true else if makes d s.event then Some false else None) windows (at marks d)
    by None = made_slot s.event windows marks d within
    by (Some m) =
        put (made_after s.event marks) m d (marked windows) inside
        ∙ told (nat_eq m d) (at (made_after s.event marks) d) (at marks d) (if makes d s.event then Some false else None)
        (made_slot s.event windows marks d within)
