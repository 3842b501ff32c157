-- What a search from the acting end finds out.
use Rattle.std.specs.Prelude.{◌≡◌, ℕ, zero, suc, ◌+◌, ◌<◌, ◌≤◌, Bool, true, false, ◌&&◌, List, length, nat_eq, slice_get, Some, if◌then◌else◌}
use Rattle.std.proofs.Common.{refl, sym, ap, ◌∙◌, subst, arith, inl, inr, get_or}
use Rattle.std.proofs.lemmas.Bool.{or_cases, or_left, or_right, cases_lt, both_ways, false_from_ne_true}
use Rattle.std.proofs.lemmas.Option.{slice_get-get_or, slice_get_within, same_Some}
use Rattle.sd_plan.specs.domain.NumberSets.{with_number}
use Rattle.sd_num.specs.Lists.{has}
use Rattle.sd_num.proofs.Places.{at_has}
use Rattle.sd_plan.specs.topo.Network.{Network, joins, link_of}
use Rattle.sd_plan.specs.domain.Domains.{holds_device}
use Rattle.sd_plan.specs.declared.domain.DomainId.{DomainId}
use Rattle.sd_plan.specs.declared.Plan.{Plan}
use Rattle.sd_plan.specs.Plans.{Fits}
use Rattle.sd_checker.specs.check_reach.Homes.{IsHome, IsWhole}
use Rattle.sd_checker.specs.check_reach.Reach.{acting_end, is_sound, is_sound_link}
use Rattle.sd_checker.specs.check_reach.Reached.{Reaches, Grows, IsStep, LeadsInto}
use Rattle.sd_checker.specs.declared.check_reach.home.Home.{Home}
use Rattle.sd_checker.proofs.check_reach.Closed.{IsClosedUnderLinks, joined_within_set}
use Rattle.sd_checker.proofs.check_reach.Joining.{leads_into_more, grows_insert, has_insert}

-- a link joins two devices either way
joins_back : (net : Network) (l d e : ℕ) → joins net l d e ≡ true → joins net l e d ≡ true
joins_back net l d e joined =
    let a = (link_of net l).end_a in
    let b = (link_of net l).end_b in
    elim (or_cases (nat_eq a d && nat_eq b e) (nat_eq a e && nat_eq b d) joined) [
      | inl forth ↦ or_right (nat_eq a e && nat_eq b d) (nat_eq a d && nat_eq b e) forth
      | inr back ↦ or_left (nat_eq a e && nat_eq b d) (nat_eq a d && nat_eq b e) back
    ]

-- what only grows gets no shorter
grows_length : (xs ys : List ℕ) (P : ℕ → Type 0) → Grows xs ys P → length xs ≤ length ys
grows_length xs ys P grown = by (length xs) refl
  where
    by : (n : ℕ) → length xs ≡ n → n ≤ length ys
    by zero is = omega arith
    by (suc n) is =
        let was : slice_get xs n ≡ Some (get_or xs n 0) = slice_get-get_or xs n 0 (omega arith) in
        let inside : n < length ys = slice_get_within ys n (get_or xs n 0) (grown.kept n (get_or xs n 0) was) in
        omega arith

module _ (net : Network) (plan : Plan) (domain : DomainId) where
  pub acting_within : Fits net plan → acting_end net plan domain < length net.devices
  acting_within fits = by (holds_device net domain plan.root)
    where
      by : (b : Bool) → (if b then plan.backup_root else plan.root) < length net.devices
      by true = fits.backup_root
      by false = fits.root

  -- a sound device to which the whole search has not come is cut off: links lead back as they lead there
  pub home_cut : (home : Home) (d : ℕ) → IsHome net plan domain home → IsWhole home → is_sound net plan domain d ≡ true
      → has home.joined.numbers d ≡ false → ¬ Reaches net plan domain d
  home_cut home d known whole sound lacks reaches =
      both_ways (has home.joined.numbers (acting_end net plan domain)) (joined_within_set Missed closed reaches (sound, lacks)).1 (known.begun whole.0)
    where
      Missed : ℕ → Type 0
      Missed x = (is_sound net plan domain x ≡ true) × (has home.joined.numbers x ≡ false)

      closed : IsClosedUnderLinks net (is_sound net plan domain) (is_sound_link net plan domain) Missed
      closed x e l in_range crosses joined passes inside = (
        passes,
        false_from_ne_true (has home.joined.numbers e) (λ there.
            let place : (i : ℕ) × (slice_get home.joined.numbers i ≡ Some e) = at_has home.joined.numbers e there in
            let within = slice_get_within home.joined.numbers place.0 e place.1 in
            let short : length home.joined.numbers ≤ home.done = whole.1 in
            let around : LeadsInto net plan domain home.joined.numbers e = known.closed place.0 e (omega arith) place.1 in
            both_ways (has home.joined.numbers x) inside.1 (around.into x l in_range crosses (joins_back net l x e joined) inside.0)),
      )

  -- what was looked around from stays so, where only devices are added
  kept_closed : (home : Home) (items : List ℕ) (P : ℕ → Type 0) (i d : ℕ) → IsHome net plan domain home → Grows home.joined.numbers items P
      → i < home.done → slice_get items i ≡ Some d → LeadsInto net plan domain items d
  kept_closed home items P i d known grown early at =
      let old = home.joined.numbers in
      let far : home.done ≤ length old = known.done in
      let was : slice_get old i ≡ Some (get_or old i d) = slice_get-get_or old i d (omega arith) in
      let same : get_or old i d ≡ d = same_Some (get_or old i d) d (sym (grown.kept i (get_or old i d) was) ∙ at) in
      leads_into_more net plan domain old items d grown.had (known.closed i d early (was ∙ ap Some same))

  -- devices were added
  pub home_grows : (home new : Home) (P : ℕ → Type 0) → IsHome net plan domain home → Grows home.joined.numbers new.joined.numbers P
      → ((x : ℕ) → P x → x < length net.devices) → new.done ≡ home.done → IsHome net plan domain new
  home_grows home new P known grown within same =
      let longer : length home.joined.numbers ≤ length new.joined.numbers = grows_length home.joined.numbers new.joined.numbers P grown in
      let far : home.done ≤ length home.joined.numbers = known.done in
      record {
        within = λ x there. elim (grown.added x there) [ inl a ↦ known.within x a | inr added ↦ within x added ];
        done = omega arith;
        begun = λ some. grown.had (acting_end net plan domain) (known.begun (omega arith));
        closed = λ i d early at. kept_closed home new.joined.numbers P i d known grown (omega arith) at;
      }

  -- the next device was looked around from
  pub home_more : (home new : Home) (d : ℕ) → IsHome net plan domain home → has home.joined.numbers (acting_end net plan domain) ≡ true
      → home.done < length home.joined.numbers → slice_get home.joined.numbers home.done ≡ Some d
      → Grows home.joined.numbers new.joined.numbers (IsStep net plan domain d) → LeadsInto net plan domain new.joined.numbers d
      → new.done ≡ home.done + 1 → IsHome net plan domain new
  home_more home new d known acts left at grown around same =
      let longer : length home.joined.numbers ≤ length new.joined.numbers =
      grows_length home.joined.numbers new.joined.numbers (IsStep net plan domain d) grown in
      record {
        within = λ x there. elim (grown.added x there) [ inl a ↦ known.within x a | inr step ↦ step.within ];
        done = omega arith;
        begun = λ some. grown.had (acting_end net plan domain) acts;
        closed = λ i x early there. elim (cases_lt i home.done) [
          | inl less ↦ kept_closed home new.joined.numbers (IsStep net plan domain d) i x known grown less there
          | inr most ↦
              (let equal : i ≡ home.done = omega arith in
              let is : d ≡ x = same_Some d x (sym (grown.kept home.done d at) ∙ subst (λ j. slice_get new.joined.numbers j ≡ Some x) equal there) in
              subst (λ y. LeadsInto net plan domain new.joined.numbers y) is around)
        ];
      }

  -- the acting end was added
  pub home_begins : (home new : Home) (acting : ℕ) → IsHome net plan domain home → Fits net plan → acting ≡ acting_end net plan domain
      → new.joined.numbers ≡ with_number home.joined.numbers acting → new.done ≡ home.done → IsHome net plan domain new
  home_begins home new acting known fits acts added same =
      let old = home.joined.numbers in
      let grown : Grows old new.joined.numbers (λ x. x ≡ acting) =
      subst (λ (xs : List ℕ). Grows old xs (λ x. x ≡ acting)) (sym added) (grows_insert old acting (λ x. x ≡ acting) refl) in
      home_grows home new (λ x. x ≡ acting) known grown
      (λ x is. subst (λ y. y < length net.devices) (sym (is ∙ acts)) (acting_within fits)) same

  pub acting_there : (old new : List ℕ) (acting : ℕ) → acting ≡ acting_end net plan domain → new ≡ with_number old acting
      → has new (acting_end net plan domain) ≡ true
  acting_there old new acting acts added =
      subst (λ x. has new x ≡ true) acts (subst (λ (xs : List ℕ). has xs acting ≡ true) (sym added) (has_insert old acting))
