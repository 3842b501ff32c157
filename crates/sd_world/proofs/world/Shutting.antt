-- The window after an event with which it does not close.
use Rattle.std.specs.Prelude.{◌≡◌, ℕ, ◌+◌, ◌≤◌, Bool, true, false, ◌&&◌, List, [], ◌∷◌, nat_eq, Option, Some, None, is_some, option_map, refl, if◌then◌else◌}
use Rattle.std.specs.List.{list_any}
use Rattle.std.proofs.Common.{ap, ◌∙◌, sym, subst, arith}
use Rattle.std.proofs.lemmas.Bool.{eq-eqb, ne_eqb}
use Rattle.sd_num.specs.Lists.{map_or, same_number}
use Rattle.sd_sched.specs.declared.Event.{Event}
use Rattle.sd_sched.specs.declared.Event.TheVariants as event
use Rattle.sd_sched.specs.Events.{joined, is_stage, is_commit}
use Rattle.sd_history.specs.World.{Seen, window, window_is_open, has_commit, joined_in_window}
use Rattle.sd_world.specs.world.Registers.{is_open, is_committed, window_after}
use Rattle.sd_world.specs.declared.world.window.Window.{Window}
use Rattle.sd_world.specs.declared.world.window.Window.TheVariants.{Closed, Preparing, Committed}

-- what a step adds to the window, where it does not close it
pub window_next : (s : Seen) (seen : List Seen) → s.closed ≡ false
    → window (s ∷ seen) ≡ (if is_stage s.event then Some [] else option_map (λ w. s ∷ w) (window seen))
window_next s seen stays = rw stays refl

-- an event that opens a window does not commit and lets nobody join
stage_alone : (e : Event) → is_stage e ≡ true → (is_commit e ≡ false) × (joined e ≡ None)
stage_alone (event.Stage r) is = (refl, refl)
stage_alone _ is = cc

pub opens : (w : Window) (s : Seen) (seen : List Seen) → s.closed ≡ false → is_open w ≡ window_is_open seen
    → is_open (window_after s.event w) ≡ window_is_open (s ∷ seen)
opens w s seen stays open_ = by (is_stage s.event) (is_commit s.event) (window seen) w open_
    ∙ ap (λ (o : Option (List Seen)). is_some o) (sym (window_next s seen stays))
  where
    by : (stage commit : Bool) (o : Option (List Seen)) (w : Window) → is_open w ≡ is_some o
        → is_open (if stage then Preparing else if commit && is_open w then Committed else w) ≡ is_some (if stage then Some [] else option_map (λ w. s ∷ w) o)
    by true commit o w same = refl
    by false true None Closed same = refl
    by false true None Preparing same = cc
    by false true None Committed same = cc
    by false true (Some x) Closed same = cc
    by false true (Some x) Preparing same = refl
    by false true (Some x) Committed same = refl
    by false false None w same = same
    by false false (Some x) w same = same

pub commits : (w : Window) (s : Seen) (seen : List Seen) → s.closed ≡ false → is_open w ≡ window_is_open seen → is_committed w ≡ has_commit seen
    → is_committed (window_after s.event w) ≡ has_commit (s ∷ seen)
commits w s seen stays open_ commit = by (is_stage s.event) (is_commit s.event) (window seen) w refl open_ commit
    ∙ ap (λ (o : Option (List Seen)). map_or o false (list_any (λ x. is_commit x.event))) (sym (window_next s seen stays))
  where
    by : (stage c : Bool) (o : Option (List Seen)) (w : Window) → is_commit s.event ≡ c → is_open w ≡ is_some o
        → is_committed w ≡ map_or o false (list_any (λ x. is_commit x.event))
        → is_committed (if stage then Preparing else if c && is_open w then Committed else w)
        ≡ map_or (if stage then Some [] else option_map (λ w. s ∷ w) o) false (list_any (λ x. is_commit x.event))
    by true c o w is same commit' = refl
    by false true None Closed is same commit' = refl
    by false true None Preparing is same commit' = cc
    by false true None Committed is same commit' = cc
    by false true (Some x) Closed is same commit' = cc
    by false true (Some x) Preparing is same commit' = rw is refl
    by false true (Some x) Committed is same commit' = rw is refl
    by false false None w is same commit' = commit'
    by false false (Some x) w is same commit' = rw is commit'

-- a device joins in the open window where the number that it joined in is that of the window
pub joins : (w : Window) (windows before after d : ℕ) (s : Seen) (seen : List Seen) → s.closed ≡ false → is_open w ≡ window_is_open seen → before ≤ windows
    → after ≡ (if same_number (joined s.event) d then windows else before) → (is_open w && nat_eq before windows) ≡ joined_in_window seen d
    → (is_open (window_after s.event w) && nat_eq after (if is_stage s.event then windows + 1 else windows)) ≡ joined_in_window (s ∷ seen) d
joins w windows before after d s seen stays open_ low is kept =
    subst (λ (b : Bool). (b && nat_eq after (if is_stage s.event then windows + 1 else windows)) ≡ joined_in_window (s ∷ seen) d)
    (sym (opens w s seen stays open_))
    (subst (λ (o : Option (List Seen)). (is_some o && nat_eq after (if is_stage s.event then windows + 1 else windows))
    ≡ map_or o false (list_any (λ x. same_number (joined x.event) d))) (sym (window_next s seen stays))
    (by (is_stage s.event) (same_number (joined s.event) d) (window seen) refl refl open_ is kept))
  where
    by : (stage j : Bool) (o : Option (List Seen)) → is_stage s.event ≡ stage → same_number (joined s.event) d ≡ j → is_open w ≡ is_some o
        → after ≡ (if j then windows else before)
        → (is_open w && nat_eq before windows) ≡ map_or o false (list_any (λ x. same_number (joined x.event) d))
        → (is_some (if stage then Some [] else option_map (λ w. s ∷ w) o) && nat_eq after (if stage then windows + 1 else windows))
        ≡ map_or (if stage then Some [] else option_map (λ w. s ∷ w) o) false (list_any (λ x. same_number (joined x.event) d))
    by true true o stage j same is' kept' = absurd (never (joined s.event) (stage_alone s.event stage).1 j)
      where
        never : (p : Option ℕ) → p ≡ None → same_number p d ≡ true → ⊥
        never None none here = cc
        never (Some m) none here = cc
    by true false o stage j same is' kept' = ne_eqb after (windows + 1) (λ equal. omega arith)
    by false j None stage j' same is' kept' = refl
    by false true (Some x) stage j same is' kept' = rw j (eq-eqb after windows is')
    by false false (Some x) stage j same is' kept' =
        rw j (rw is' (subst (λ (b : Bool). (b && nat_eq before windows) ≡ list_any (λ x. same_number (joined x.event) d) x) same kept'))
