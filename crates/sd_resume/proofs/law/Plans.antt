-- What follows of alike views: the same plans are in force and staged, and the open windows have the same in them.
use Rattle.std.specs.Prelude.{◌≡◌, ℕ, ◌+◌, ◌-◌, ◌<◌, ◌≤◌, Bool, false, ◌&&◌, ◌||◌, List, [], ◌∷◌, ◌++◌, length, map, nat_eq, count_by, slice_get, Option, Some, None, is_some, option_map, ◌⊎◌, refl, if◌then◌else◌}
use Rattle.std.specs.List.{list_any}
use Rattle.std.proofs.Common.{arith, sym, ◌∙◌, ap, inl, inr}
use Rattle.std.proofs.lemmas.Bool.{cases_lt}
use Rattle.std.proofs.lemmas.List.{length-append, get_or-append-add}
use Rattle.std.proofs.lemmas.Option.{slice_get_past, slice_get-get_or}
use Rattle.sd_num.specs.Lists.{map_or, same_number}
use Rattle.sd_plan.specs.topo.Network.{Network}
use Rattle.sd_plan.specs.declared.Plan.{Plan}
use Rattle.sd_plan.specs.Plans.{is_member}
use Rattle.sd_sched.specs.Events.{is_commit, joined}
use Rattle.sd_history.specs.World.{setting_over, Seen, is_up, window, window_is_open, in_window, has_commit, epoch_in_force, staged_epoch, no_plan, plan_numbered, in_force, staged, is_staged_member, current_plan, joined_in_window, is_counted}
use Rattle.sd_resume.specs.law.Shifts.{Shift, raised_epoch, raised_seen}
use Rattle.sd_resume.specs.law.Views.{LooksAlike}
use Rattle.sd_resume.specs.law.Law.{whole}
use Rattle.sd_resume.proofs.law.Words.{same_words}
use Rattle.sd_resume.proofs.law.Stamps.{same_epoch, raised_plan}

-- the plans after the front ones
behind_front : (front plans : List Plan) (i : ℕ) → slice_get (front ++ plans) (length front + i) ≡ slice_get plans i
behind_front front plans i = go (cases_lt i (length plans))
  where
    go : (i < length plans) ⊎ (length plans ≤ i) → slice_get (front ++ plans) (length front + i) ≡ slice_get plans i
    go (inl less) =
        slice_get-get_or (front ++ plans) (length front + i) no_plan (within less) ∙ ap Some (get_or-append-add front plans i no_plan)
        ∙ sym (slice_get-get_or plans i no_plan less)
      where
        within : i < length plans → length front + i < length (front ++ plans)
        within h = let all : length (front ++ plans) ≡ length front + length plans = length-append front plans in omega (arith, h, all)
    go (inr past) = slice_get_past (front ++ plans) (length front + i) (beyond past) ∙ sym (slice_get_past plans i past)
      where
        beyond : length plans ≤ i → length (front ++ plans) ≤ length front + i
        beyond h = let all : length (front ++ plans) ≡ length front + length plans = length-append front plans in omega (arith, h, all)

any_raised : (shift : Shift) (test other : Seen → Bool) → ((s : Seen) → test (raised_seen shift s) ≡ other s) → (w : List Seen)
    → list_any test (map (raised_seen shift) w) ≡ list_any other w
any_raised shift test other same [] = refl
any_raised shift test other same (s ∷ w) =
    ap (λ b. b || list_any test (map (raised_seen shift) w)) (same s) ∙ ap (λ b. other s || b) (any_raised shift test other same w)

module _ (shift : Shift) (net : Network) (front plans : List Plan) (behind : shift.plans ≡ length front) where
  pub plan_same : (epoch : ℕ) → plan_numbered (whole net front plans) (epoch + 1 + shift.plans) ≡ plan_numbered (setting_over net plans) (epoch + 1)
  plan_same epoch =
      ap (λ i. map_or (slice_get (front ++ plans) i) no_plan (λ plan. plan)) (place epoch shift.plans (length front) behind)
      ∙ ap (λ o. map_or o no_plan (λ plan. plan)) (behind_front front plans (epoch + 1 - 1))
    where
      place : (epoch k n : ℕ) → k ≡ n → epoch + 1 + k - 1 ≡ n + (epoch + 1 - 1)
      place epoch k n same = omega (arith, same)

  module _ (one other : List Seen) (h : LooksAlike shift one other) where
    pub staged_same_epoch : staged_epoch one ≡ staged_epoch other + shift.plans
    staged_same_epoch = go (epoch_in_force one) (epoch_in_force other) shift.plans h.epoch
      where
        go : (a b k : ℕ) → a ≡ b + k → a + 1 ≡ b + 1 + k
        go a b k same = omega (arith, same)

    pub epoch_raised : epoch_in_force one ≡ raised_epoch shift (epoch_in_force other)
    epoch_raised = h.epoch ∙ sym (raised_plan shift (count_by (λ s. s.closed) other))

    pub staged_raised : staged_epoch one ≡ raised_epoch shift (staged_epoch other)
    staged_raised = staged_same_epoch ∙ sym (raised_plan shift (epoch_in_force other))

    pub in_force_same : in_force (whole net front plans) one ≡ in_force (setting_over net plans) other
    in_force_same = ap (plan_numbered (whole net front plans)) h.epoch ∙ plan_same (count_by (λ s. s.closed) other)

    pub open_same : window_is_open one ≡ window_is_open other
    open_same = ap is_some h.window ∙ go (window other)
      where
        go : (w : Option (List Seen)) → is_some (option_map (map (raised_seen shift)) w) ≡ is_some w
        go None = refl
        go (Some w) = refl

    pub in_window_same : (test like : Seen → Bool) → ((s : Seen) → test (raised_seen shift s) ≡ like s) → in_window test one ≡ in_window like other
    in_window_same test like same = ap (λ w. map_or w false (list_any test)) h.window ∙ go (window other)
      where
        go : (w : Option (List Seen)) → map_or (option_map (map (raised_seen shift)) w) false (list_any test) ≡ map_or w false (list_any like)
        go None = refl
        go (Some w) = any_raised shift test like same w

    pub commit_same : has_commit one ≡ has_commit other
    commit_same = in_window_same (λ s. is_commit s.event) (λ s. is_commit s.event) (λ s. ap (λ w. w.is_commit) (same_words shift s.event))

    pub joined_same : (d : ℕ) → joined_in_window one d ≡ joined_in_window other d
    joined_same d =
        in_window_same (λ s. same_number (joined s.event) d) (λ s. same_number (joined s.event) d)
        (λ s. ap (λ w. same_number w.joined d) (same_words shift s.event))

    pub staged_same : staged (whole net front plans) one ≡ staged (setting_over net plans) other
    staged_same =
        ap (λ w. option_map (λ (x : List Seen). plan_numbered (whole net front plans) (staged_epoch one)) w) h.window
        ∙ ap (λ n. option_map (λ (x : List Seen). plan_numbered (whole net front plans) n) (option_map (map (raised_seen shift)) (window other))) staged_same_epoch
        ∙ ap (λ p. option_map (λ (x : List Seen). p) (option_map (map (raised_seen shift)) (window other))) (plan_same (epoch_in_force other))
        ∙ go (window other)
      where
        go : (w : Option (List Seen)) → option_map (λ (x : List Seen). plan_numbered (setting_over net plans) (staged_epoch other)) (option_map (map (raised_seen shift)) w)
            ≡ option_map (λ (x : List Seen). plan_numbered (setting_over net plans) (staged_epoch other)) w
        go None = refl
        go (Some w) = refl

    pub staged_member_same : (d : ℕ) → is_staged_member (whole net front plans) one d ≡ is_staged_member (setting_over net plans) other d
    staged_member_same d = ap (λ s. map_or s false (λ plan. is_member plan d)) staged_same

    pub counted_same : (d : ℕ) → is_counted (whole net front plans) one d ≡ is_counted (setting_over net plans) other d
    counted_same d =
        ap (λ b. b && (is_member (in_force (whole net front plans) one) d || joined_in_window one d)) (h.up d)
        ∙ ap (λ p. is_up other d && (is_member p d || joined_in_window one d)) in_force_same
        ∙ ap (λ b. is_up other d && (is_member (in_force (setting_over net plans) other) d || b)) (joined_same d)

    -- the current plan under a raised number
    pub current_same : (epoch : ℕ) → current_plan (whole net front plans) one (raised_epoch shift epoch) ≡ current_plan (setting_over net plans) other epoch
    current_same epoch =
        ap (λ n. if nat_eq (raised_epoch shift epoch) n then Some (in_force (whole net front plans) one)
        else if nat_eq (raised_epoch shift epoch) (staged_epoch one) then staged (whole net front plans) one else None) epoch_raised
        ∙ ap (λ n. if nat_eq (raised_epoch shift epoch) (raised_epoch shift (epoch_in_force other)) then Some (in_force (whole net front plans) one)
        else if nat_eq (raised_epoch shift epoch) n then staged (whole net front plans) one else None) staged_raised
        ∙ ap (λ b. if b then Some (in_force (whole net front plans) one)
        else if nat_eq (raised_epoch shift epoch) (raised_epoch shift (staged_epoch other)) then staged (whole net front plans) one else None)
        (same_epoch shift epoch (epoch_in_force other))
        ∙ ap (λ b. if nat_eq epoch (epoch_in_force other) then Some (in_force (whole net front plans) one)
        else if b then staged (whole net front plans) one else None) (same_epoch shift epoch (staged_epoch other))
        ∙ ap (λ p. if nat_eq epoch (epoch_in_force other) then Some p
        else if nat_eq epoch (staged_epoch other) then staged (whole net front plans) one else None) in_force_same
        ∙ ap (λ p. if nat_eq epoch (epoch_in_force other) then Some (in_force (setting_over net plans) other)
        else if nat_eq epoch (staged_epoch other) then p else None) staged_same
