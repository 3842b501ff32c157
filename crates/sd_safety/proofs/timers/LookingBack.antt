-- Looking back: whatever a device is now it was at each event since it last heard, while it does not act; and where it is on its backup, since it last heard or
-- moved. From Unmarked, by induction on the steps between.
use Rattle.std.specs.Prelude.{◌≡◌, ℕ, ◌<◌, ◌≤◌, Bool, true, false, ◌&&◌, List, ◌∷◌, length, nat_eq, Option, Some, None, is_some, option_map, refl, ◌⊎◌, if◌then◌else◌}
use Rattle.std.proofs.Common.{arith, sym, ◌∙◌, ap, subst, inl, inr}
use Rattle.sd_num.specs.Lists.{map_or}
use Rattle.sd_device.specs.Calls.{Call, CallDone, Past}
use Rattle.sd_device.specs.Words.{transition_of, after, taken_up, has_moved, is_acting}
use Rattle.sd_device.proofs.Reached.{added}
use Rattle.sd_sched.specs.Events.{reference_of}
use Rattle.sd_history.specs.World.{Setting}
use Rattle.sd_history.specs.Steps.{Act, Makes, Calls, Asks, Passes, Step}
use Rattle.sd_history.specs.Chronicle.{new_past, past_in, past_after}
use Rattle.sd_history.proofs.Given.{some_is}
use Rattle.sd_safety.specs.messages.Moments.{Tail, whole, behind}
use Rattle.sd_safety.specs.timers.Times.{AreTimed, did_by, hears, moves, heard_in, moved_in}
use Rattle.sd_safety.specs.timers.Since.{marks_by, Unmarked, no_step, one_step}
use Rattle.sd_safety.proofs.timers.Transitions.{Cases, by_case}
use Rattle.sd_safety.proofs.timers.Unmarked.{Same, same_since_heard, primary_since_heard, unmarked_since, before_act, takes_nothing}

pub tail_is_short : {A : Type 0} (xs ys : List A) → Tail xs ys → length xs ≤ length ys
tail_is_short xs _ whole = omega arith
tail_is_short xs _ (behind {x = y} {xs = ys} tail) = let rest : length xs ≤ length ys = tail_is_short xs ys tail in omega (arith, rest)

uncons : (f : CallDone → Option ℕ) (d : ℕ) (older : List Step) (s : Step) (earlier : List Step) → Unmarked f d older (s ∷ earlier)
    → (length (s ∷ earlier) ≤ length older) ⊎ ((marks_by f s.act d (past_in earlier d) ≡ false) × Unmarked f d older earlier)
uncons f d older s earlier no_step = inl (omega arith)
uncons f d older s earlier (one_step none rest) = inr (none, rest)

-- a call that is no move and takes up nothing leaves the device where it is
stays_put : (past : Past)
    → Cases past (λ call transition. is_some (moves (record { call = call; transition = transition })) ≡ false → taken_up transition ≡ None
    → has_moved (added past call transition) ≡ has_moved past)
stays_put past =
    record {
      emitted = λ c e h none. refl;
      took = λ c e t h none. refl;
      moved = λ c e t m h none. cc;
      still = λ c e t m h none. refl;
      entered = λ link message c duty edge h none. cc;
      accepted = λ link message c edge h none. refl;
      committed = λ c duty a h none. cc;
      recommitted = λ c duty a h none. cc;
      nothing = λ call n h none. refl;
    }

unmoved_call : (past : Past) (call : Call) → is_some (moves (did_by past call)) ≡ false → taken_up (transition_of past call) ≡ None
    → has_moved (after past call) ≡ has_moved past
unmoved_call past call h none =
    by_case past (λ c transition. is_some (moves (record { call = c; transition = transition })) ≡ false → taken_up transition ≡ None
    → has_moved (added past c transition) ≡ has_moved past) (stays_put past) call h none

put_act : (act : Act) (d : ℕ) (p : Option Past) (past : Past) → marks_by hears act d p ≡ false → marks_by moves act d p ≡ false → past_after act d p ≡ Some past
    → is_acting past ≡ false
    → (old : Past) → p ≡ Some old → has_moved past ≡ has_moved old
put_act (Makes m making) d p past none unmoved same still old is =
    ap has_moved (sym (some_is (sym is ∙ sym (ap (λ b. if b then Some (new_past making) else p) none) ∙ same)))
put_act (Calls m call) d p past none unmoved same still old is = go (nat_eq m d) p none unmoved same is
  where
    go : (b : Bool) (q : Option Past) → (b && map_or q false (λ x. is_some (hears (did_by x call)))) ≡ false
        → (b && map_or q false (λ x. is_some (moves (did_by x call)))) ≡ false
        → (if b then option_map (λ x. after x call) q else q) ≡ Some past → q ≡ Some old → has_moved past ≡ has_moved old
    go true None h k same' is' = cc
    go true (Some x) h k same' is' =
        let now : is_acting (after x call) ≡ false = subst (λ y. is_acting y ≡ false) (sym (some_is same')) still in
        ap has_moved (sym (some_is same')) ∙ unmoved_call x call k (takes_nothing x call h now) ∙ ap has_moved (some_is is')
    go false q h k same' is' = ap has_moved (some_is (sym same' ∙ is'))
put_act (Asks m counter) d p past none unmoved same still old is = ap has_moved (some_is (sym same ∙ is))
put_act Passes d p past none unmoved same still old is = ap has_moved (some_is (sym same ∙ is))

-- since it neither heard nor moved, and while it does not act, a device stays where it is, on its primary or on its backup
pub stays_where : (d : ℕ) (older steps : List Step) (past : Past) → Tail older steps → Unmarked hears d older steps → Unmarked moves d older steps
    → past_in steps d ≡ Some past → is_acting past ≡ false
    → (old : Past) → past_in older d ≡ Some old → has_moved past ≡ has_moved old
stays_where d older _ past whole none unmoved is still old was = ap has_moved (some_is (sym is ∙ was))
stays_where d older _ past (behind {x = s} {xs = earlier} tail) none unmoved is still old was =
    go (uncons hears d older s earlier none) (uncons moves d older s earlier unmoved) (tail_is_short older earlier tail)
    (λ x heard moved here acts. stays_where d older earlier x tail heard moved here acts old was)
  where
    go : (length (s ∷ earlier) ≤ length older) ⊎ ((marks_by hears s.act d (past_in earlier d) ≡ false) × Unmarked hears d older earlier)
        → (length (s ∷ earlier) ≤ length older) ⊎ ((marks_by moves s.act d (past_in earlier d) ≡ false) × Unmarked moves d older earlier)
        → length older ≤ length earlier
        → ((x : Past) → Unmarked hears d older earlier → Unmarked moves d older earlier → past_in earlier d ≡ Some x → is_acting x ≡ false
        → has_moved x ≡ has_moved old) → has_moved past ≡ has_moved old
    go (inl long) m short rest = absurd (omega (arith, long, short))
    go (inr h) (inl long) short rest = absurd (omega (arith, long, short))
    go (inr h) (inr m) short rest =
        let b = before_act s.act d (past_in earlier d) past h.0 is still in
        put_act s.act d (past_in earlier d) past h.0 m.0 is still b.0 b.1 ∙ rest b.0 h.1 m.1 b.1 b.2

-- The same by references: t is a step of the list, and older the state before it.

module _ (setting : Setting) (t : Step) (older steps : List Step) (d : ℕ) (past : Past) (tail : Tail (t ∷ older) steps) (timed : AreTimed setting steps)
    (is : past_in steps d ≡ Some past) (still : is_acting past ≡ false)
    (heard_before : heard_in steps d < reference_of t.seen.event) where
  step_down : {A : Type 0} {x : A} {xs ys : List A} → Tail (x ∷ xs) ys → Tail xs ys
  step_down whole = behind whole
  step_down (behind rest) = behind (step_down rest)

  -- the past then, of the same entry and duty, and not acting
  pub same_then : Same d older steps past
  same_then = same_since_heard d older steps past (unmarked_since hears setting t older steps d tail timed heard_before) is still

  -- on its primary now: on its primary then
  pub primary_then : has_moved past ≡ false → has_moved same_then.old ≡ false
  unfolding same_then
  primary_then unmoved = primary_since_heard d older steps past (unmarked_since hears setting t older steps d tail timed heard_before) is still unmoved

  -- on its backup now, and moved before: on its backup then
  pub backup_then : moved_in steps d < reference_of t.seen.event → has_moved past ≡ true → has_moved same_then.old ≡ true
  backup_then moved_before moved =
      sym (stays_where d older steps past (step_down tail) (unmarked_since hears setting t older steps d tail timed heard_before)
      (unmarked_since moves setting t older steps d tail timed moved_before) is still same_then.old same_then.there)
      ∙ moved
