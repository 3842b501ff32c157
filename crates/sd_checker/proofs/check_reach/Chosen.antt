-- Candidates: hit devices that are chosen, in order.
use Rattle.std.specs.Prelude.{◌≡◌, ℕ, ◌+◌, ◌<◌, Bool, true, false, ◌&&◌, ◌||◌, not, List, [], ◌∷◌, ◌++◌, length, slice_get, Option, Some, None, IsTrue, ◌⊎◌, if◌then◌else◌}
use Rattle.std.proofs.Common.{refl, sym, ap, ◌∙◌, subst, arith, inl, inr, get_or}
use Rattle.std.proofs.lemmas.Bool.{and_parts, and_from, cases_lt, cases_Bool, both_ways, not-true, not_from_false, false_from_ne_true, eq-eqb}
use Rattle.std.proofs.lemmas.Option.{slice_get-get_or, slice_get_within, same_Some}
use Rattle.sd_num.specs.Lists.{map_or}
use Rattle.sd_plan.specs.topo.Network.{Network}
use Rattle.sd_plan.specs.domain.Domains.{holds_device, holds_link}
use Rattle.sd_plan.specs.declared.domain.DomainId.{DomainId}
use Rattle.sd_checker.specs.check_hit.Hit.{hit_by}
use Rattle.sd_plan.specs.declared.Hop.{Hop}
use Rattle.sd_plan.specs.declared.Plan.{Plan}
use Rattle.sd_plan.specs.Plans.{Fits, is_member, is_root, backup_of}
use Rattle.sd_plan.specs.Walks.{is_hit, ends_walks}
use Rattle.sd_plan.proofs.Rules.{KeepsRules}
use Rattle.sd_checker.specs.check_reach.Reach.{Fed, spared, acting_end, is_sound, LosesBackup, ReachHolds}
use Rattle.sd_checker.specs.check_reach.ShownChains.{IsShownChain}
use Rattle.sd_checker.specs.check_reach.Answered.{DomainShown}
use Rattle.sd_checker.specs.check_reach.Reached.{Reaches, AreAll, FirstReached}
use Rattle.sd_checker.specs.check_reach.Candidates.{AreDecided, Chooses, loses, IsLosing, IsUnheard}
use Rattle.sd_checker.specs.check_reach.Chains.{IsChainOf}
use Rattle.sd_checker.specs.check_reach.Aftermaths.{IsHarmless}
use Rattle.sd_checker.specs.check_reach.Turns.{IsHeld, IsUnfed, AreMarks, is_unfed}
use Rattle.sd_checker.specs.declared.check_reach.marks.Mark.{Mark}
use Rattle.sd_checker.specs.declared.check_reach.marks.Mark.TheVariants as mark
use Rattle.sd_checker.proofs.check_reach.Closed.{IsClosed, fed_within}
use Rattle.sd_checker.proofs.check_hit.HitList.{hit_at, at_hit}
use Rattle.sd_num.proofs.Places.{at_before, at_cases, at_last}
use Rattle.sd_checker.proofs.check_reach.Turning.{hit_sound}
use Rattle.sd_checker.proofs.check_reach.Walked.{hit_device}

module _ (hit : List ℕ) (passes : ℕ → ℕ → Bool) where
  pub chooses_not : (k d : ℕ) (chosen : List ℕ) → slice_get hit k ≡ Some d → passes k d ≡ false → Chooses hit passes k chosen
      → Chooses hit passes (k + 1) chosen
  chooses_not k d chosen at fails known =
      record {
        each = λ i x there. let was = known.each i x there in (was.0, omega (arith, was.1), was.2, was.3);
        all = λ j x less there pass. elim (cases_lt j k) [
          | inl lower ↦ known.all j x lower there pass
          | inr last ↦
              (let same : j ≡ k = omega arith in
              let equal : x ≡ d = same_Some x d (sym there ∙ subst (λ i. slice_get hit i ≡ Some d) (sym same) at) in
              absurd (both_ways (passes k d) fails (subst (λ i. passes i d ≡ true) same (subst (λ y. passes j y ≡ true) equal pass))))
        ];
        rises = known.rises;
      }

  pub chooses_more : (k d : ℕ) (chosen : List ℕ) → slice_get hit k ≡ Some d → passes k d ≡ true
      → ((i j x y : ℕ) → i < j → slice_get hit i ≡ Some x → slice_get hit j ≡ Some y → x < y)
      → Chooses hit passes k chosen → Chooses hit passes (k + 1) (chosen ++ d ∷ [])
  chooses_more k d chosen at pass rising known =
      record {
        each = λ i x there. elim (at_cases chosen d i x there) [
          | inl before ↦ (let was = known.each i x before in (was.0, omega (arith, was.1), was.2, was.3))
          | inr last ↦ (k, omega arith, subst (λ y. slice_get hit k ≡ Some y) (sym last.1) at, subst (λ y. passes k y ≡ true) (sym last.1) pass)
        ];
        all = λ j x less there pass_j. elim (cases_lt j k) [
          | inl lower ↦ (let place : (i : ℕ) × (slice_get chosen i ≡ Some x) = known.all j x lower there pass_j in
              (place.0, at_before chosen d place.0 x place.1))
          | inr last ↦
              (let same : j ≡ k = omega arith in
              let equal : d ≡ x = same_Some d x (sym (subst (λ i. slice_get hit i ≡ Some d) (sym same) at) ∙ there) in
              (length chosen, subst (λ y. slice_get (chosen ++ d ∷ []) (length chosen) ≡ Some y) equal (at_last chosen d)))
        ];
        rises = λ i j x y less there later. elim (at_cases chosen d j y later) [
          | inl before ↦ elim (at_cases chosen d i x there) [
            | inl both ↦ known.rises i j x y less both before
            | inr last ↦ (let inside = slice_get_within chosen j y before in absurd (omega (arith, last.0)))
          ]
          | inr last ↦ elim (at_cases chosen d i x there) [
            | inl before ↦
                (let was = known.each i x before in
                subst (λ z. x < z) (sym last.1) (rising was.0 k x d was.1 was.2 at))
            | inr both ↦ absurd (omega (arith, last.0, both.0))
          ]
        ];
      }

  pub all_chosen : (Q : ℕ → Type 0) (chosen : List ℕ) → Chooses hit passes (length hit) chosen
      → ((j d : ℕ) → slice_get hit j ≡ Some d → passes j d ≡ true → Q d)
      → ((d : ℕ) → Q d → (j : ℕ) × (slice_get hit j ≡ Some d) × (passes j d ≡ true)) → AreAll Q chosen
  all_chosen Q chosen known there back =
      record {
        each = λ i d at. let was = known.each i d at in there was.0 d was.2 was.3;
        all = λ d q. let place : (j : ℕ) × (slice_get hit j ≡ Some d) × (passes j d ≡ true) = back d q in
            known.all place.0 d (slice_get_within hit place.0 d place.1) place.1 place.2;
        rises = known.rises;
      }

-- a domain takes the backup or it does not
is_lost : (o : Option Hop) (net : Network) (domain : DomainId)
    → map_or o false (λ hop. holds_link net domain hop.link || holds_device net domain hop.parent) ≡ true
    → (hop : Hop) × (o ≡ Some hop) × ((holds_link net domain hop.link || holds_device net domain hop.parent) ≡ true)
is_lost None net domain lost = cc
is_lost (Some hop) net domain lost = (hop, refl, lost)

module _ (net : Network) (plan : Plan) (domain : DomainId) (hit : List ℕ) (are : hit ≡ hit_by net plan domain) (fits : Fits net plan)
    (rules : KeepsRules net plan) where
  -- the devices that lose their backup
  pub losing_all : (chosen : List ℕ) → Chooses hit (λ j d. loses net plan domain d) (length hit) chosen → AreAll (IsLosing net plan domain) chosen
  losing_all chosen known = all_chosen hit (λ j d. loses net plan domain d) (IsLosing net plan domain) chosen known there back
    where
      there : (j d : ℕ) → slice_get hit j ≡ Some d → loses net plan domain d ≡ true → IsLosing net plan domain d
      there j d at lost =
          let is : (is_hit net plan domain d ≡ true) × (d < length net.devices) = hit_at net plan domain hit j d are at in
          let parts : ((not (holds_device net domain d) && not (ends_walks plan d)) ≡ true)
          × (map_or (backup_of plan d) false (λ hop. holds_link net domain hop.link || holds_device net domain hop.parent) ≡ true) =
          and_parts (not (holds_device net domain d) && not (ends_walks plan d))
          (map_or (backup_of plan d) false (λ hop. holds_link net domain hop.link || holds_device net domain hop.parent)) lost in
          let first : (not (holds_device net domain d) ≡ true) × (not (ends_walks plan d) ≡ true) =
          and_parts (not (holds_device net domain d)) (not (ends_walks plan d)) parts.0 in
          let backup : (hop : Hop) × (backup_of plan d ≡ Some hop) × ((holds_link net domain hop.link || holds_device net domain hop.parent) ≡ true) =
          is_lost (backup_of plan d) net domain parts.1 in
          record {
            sound = hit_sound net plan domain fits rules d is.0 (not-true (holds_device net domain d) first.0);
            no_root = first.1;
            hit = is.0;
            backup = backup.0;
            has_backup = backup.1;
            lost = backup.2;
          }

      back : (d : ℕ) → IsLosing net plan domain d → (j : ℕ) × (slice_get hit j ≡ Some d) × (loses net plan domain d ≡ true)
      back d q =
          let place : (i : ℕ) × (slice_get hit i ≡ Some d) = at_hit net plan domain hit d are (hit_device net plan domain d fits rules q.hit).within q.hit in (
            place.0,
            place.1,
            and_from (not (holds_device net domain d) && not (ends_walks plan d))
                (map_or (backup_of plan d) false (λ hop. holds_link net domain hop.link || holds_device net domain hop.parent))
                (and_from (not (holds_device net domain d)) (not (ends_walks plan d))
                (and_parts (is_member plan d) (not (holds_device net domain d)) q.sound).1 q.no_root)
                (subst (λ (o : Option Hop). map_or o false (λ hop. holds_link net domain hop.link || holds_device net domain hop.parent) ≡ true)
                (sym q.has_backup) q.lost),
          )

  -- a sound device that is marked as not fed is not fed
  unfed_right : (marks : List Mark) (d : ℕ) → AreMarks net plan domain hit (λ e. ⊥) marks → IsUnfed hit marks d → ¬ Fed net plan domain d
  unfed_right marks d right unfed fed = fed_within (λ x. IsUnfed hit marks x → ⊥) closed fed unfed
    where
      hit_of : (x : ℕ) → IsUnfed hit marks x → is_hit net plan domain x ≡ true
      hit_of x u = (hit_at net plan domain hit u.place x are u.at).0

      held : (x : ℕ) → IsUnfed hit marks x → IsHeld net plan domain (λ e. IsUnfed hit marks e ⊎ ⊥) x
      held x u = right.unfed u.place x u.at u.marked

      no_actor : (x : ℕ) (b : Bool) → IsTrue (is_sound net plan domain x) → x ≡ (if b then plan.backup_root else plan.root) → IsUnfed hit marks x → ⊥
      no_actor x true sound same u = ((held x u).held sound).0 same
      no_actor x false sound same u = both_ways (is_root plan x) (hit_device net plan domain x fits rules (hit_of x u)).no_root (root_is x same)
        where
          root_is : (x : ℕ) → x ≡ plan.root → is_root plan x ≡ true
          root_is x same = eq-eqb plan.root x (sym same)

      closed : IsClosed net plan domain (λ x. IsUnfed hit marks x → ⊥)
      closed = record {
        has_acting = λ x sound same u. no_actor x (holds_device net domain plan.root) sound same u;
        has_standby = λ x sound same u. ((held x u).held sound).0 same;
        has_spared = λ x sound free u. both_ways (is_hit net plan domain x) (not-true (is_hit net plan domain x) free) (hit_of x u);
        has_turned = λ x hop sound hits next link parent out u.
            elim (((held x u).held sound).1 hop next (and_from (not (holds_link net domain hop.link)) (not (holds_device net domain hop.parent)) link parent))
            [ inl more ↦ out more | inr none ↦ none ];
      }

  -- the sound devices that are not fed
  pub unheard_all : (marks : List Mark) (chosen : List ℕ) → AreMarks net plan domain hit (λ e. ⊥) marks
      → ((i : ℕ) → i < length hit → slice_get marks i ≡ Some mark.Unseen → ⊥)
      → Chooses hit (λ j d. is_unfed (get_or marks j mark.Unseen) && not (holds_device net domain d)) (length hit) chosen
      → AreAll (IsUnheard net plan domain) chosen
  unheard_all marks chosen right seen known =
      all_chosen hit (λ j d. is_unfed (get_or marks j mark.Unseen) && not (holds_device net domain d)) (IsUnheard net plan domain) chosen known there back
    where
      marked : (m : Mark) → is_unfed m ≡ true → m ≡ mark.Unfed
      marked mark.Unseen unfed = cc
      marked mark.Fed unfed = cc
      marked mark.Unfed unfed = refl

      at_mark : (j d : ℕ) → slice_get hit j ≡ Some d → slice_get marks j ≡ Some (get_or marks j mark.Unseen)
      at_mark j d at = let inside = slice_get_within hit j d at in slice_get-get_or marks j mark.Unseen (omega (arith, right.size))

      there : (j d : ℕ) → slice_get hit j ≡ Some d → (is_unfed (get_or marks j mark.Unseen) && not (holds_device net domain d)) ≡ true
          → IsUnheard net plan domain d
      there j d at pass =
          let parts : (is_unfed (get_or marks j mark.Unseen) ≡ true) × (not (holds_device net domain d) ≡ true) =
          and_parts (is_unfed (get_or marks j mark.Unseen)) (not (holds_device net domain d)) pass in
          let unfed : slice_get marks j ≡ Some mark.Unfed = at_mark j d at ∙ ap Some (marked (get_or marks j mark.Unseen) parts.0) in
          record {
            sound = hit_sound net plan domain fits rules d (hit_at net plan domain hit j d are at).0 (not-true (holds_device net domain d) parts.1);
            unfed = unfed_right marks d right (record { place = j; at = at; marked = unfed });
          }

      by_mark : (m : Mark) (j d : ℕ) → slice_get hit j ≡ Some d → slice_get marks j ≡ Some m → ¬ Fed net plan domain d → is_unfed m ≡ true
      by_mark mark.Unseen j d at is unfed = absurd (seen j (slice_get_within hit j d at) is)
      by_mark mark.Fed j d at is unfed = absurd (unfed (right.fed j d at is))
      by_mark mark.Unfed j d at is unfed = refl

      back : (d : ℕ) → IsUnheard net plan domain d → (j : ℕ) × (slice_get hit j ≡ Some d)
          × ((is_unfed (get_or marks j mark.Unseen) && not (holds_device net domain d)) ≡ true)
      back d q = elim (cases_Bool (is_hit net plan domain d)) [
        | inl hits ↦
            (let place : (i : ℕ) × (slice_get hit i ≡ Some d) = at_hit net plan domain hit d are (hit_device net plan domain d fits rules hits).within hits in (
              place.0,
              place.1,
              and_from (is_unfed (get_or marks place.0 mark.Unseen)) (not (holds_device net domain d))
                  (by_mark (get_or marks place.0 mark.Unseen) place.0 d place.1 (at_mark place.0 d place.1) q.unfed)
                  (and_parts (is_member plan d) (not (holds_device net domain d)) q.sound).1,
            ))
        | inr free ↦ absurd (q.unfed (spared q.sound (not_from_false (is_hit net plan domain d) free)))
      ]

module _ (net : Network) (plan : Plan) (domain : DomainId) (hit : List ℕ) (are : hit ≡ hit_by net plan domain) (fits : Fits net plan)
    (rules : KeepsRules net plan) where
  -- the marks tell of each sound device
  pub marks_decide : (marks : List Mark) (chosen : List ℕ) → AreMarks net plan domain hit (λ e. ⊥) marks
      → ((i : ℕ) → i < length hit → slice_get marks i ≡ Some mark.Unseen → ⊥)
      → Chooses hit (λ j d. is_unfed (get_or marks j mark.Unseen) && not (holds_device net domain d)) (length hit) chosen → AreDecided net plan domain chosen
  marks_decide marks chosen right seen known = record { decided = decide }
    where
      by_mark : (m : Mark) (j d : ℕ) → slice_get hit j ≡ Some d → slice_get marks j ≡ Some m → not (holds_device net domain d) ≡ true
          → (is_unfed m ≡ true → (i : ℕ) × (slice_get chosen i ≡ Some d)) → Fed net plan domain d ⊎ ((i : ℕ) × (slice_get chosen i ≡ Some d))
      by_mark mark.Unseen j d at is out listed = absurd (seen j (slice_get_within hit j d at) is)
      by_mark mark.Fed j d at is out listed = inl (right.fed j d at is)
      by_mark mark.Unfed j d at is out listed = inr (listed refl)

      decide : (d : ℕ) → is_sound net plan domain d ≡ true → Fed net plan domain d ⊎ ((i : ℕ) × (slice_get chosen i ≡ Some d))
      decide d sound = elim (cases_Bool (is_hit net plan domain d)) [
        | inl hits ↦
            (let place : (i : ℕ) × (slice_get hit i ≡ Some d) = at_hit net plan domain hit d are (hit_device net plan domain d fits rules hits).within hits in
            let inside : place.0 < length hit = slice_get_within hit place.0 d place.1 in
            let m : Mark = get_or marks place.0 mark.Unseen in
            let out : not (holds_device net domain d) ≡ true = (and_parts (is_member plan d) (not (holds_device net domain d)) sound).1 in
            by_mark m place.0 d place.1 (slice_get-get_or marks place.0 mark.Unseen (omega (arith, right.size))) out
            (λ unfed. known.all place.0 d inside place.1 (and_from (is_unfed m) (not (holds_device net domain d)) unfed out)))
        | inr free ↦ inl (spared sound (not_from_false (is_hit net plan domain d) free))
      ]

-- the first candidate that is joined to the acting end is the least
pub least_reached : (net : Network) (plan : Plan) (domain : DomainId) (Q : ℕ → Type 0) (candidates : List ℕ) (d : ℕ) → AreAll Q candidates
    → FirstReached net plan domain candidates (Some d)
    → (e : ℕ) → e < d → Q e → ¬ Reaches net plan domain e
least_reached net plan domain Q candidates d all found e less q =
    let place : (i : ℕ) × (slice_get candidates i ≡ Some e) = all.all e q in
    elim (cases_lt place.0 found.0) [
      | inl before ↦ found.3 place.0 e before place.1
      | inr after ↦ absurd (elim (cases_lt found.0 place.0) [
        | inl later ↦ (let more = all.rises found.0 place.0 d e later found.1 place.1 in omega arith)
        | inr most ↦
            (let same : place.0 ≡ found.0 = omega arith in
            let equal : d ≡ e = same_Some d e (sym found.1 ∙ subst (λ i. slice_get candidates i ≡ Some e) same place.1) in
            omega arith)
      ])
    ]

pub none_reached : (net : Network) (plan : Plan) (domain : DomainId) (Q : ℕ → Type 0) (candidates : List ℕ) → AreAll Q candidates
    → FirstReached net plan domain candidates None → (e : ℕ) → Q e → ¬ Reaches net plan domain e
none_reached net plan domain Q candidates all none e q = let place : (i : ℕ) × (slice_get candidates i ≡ Some e) = all.all e q in none place.0 e place.1

module _ (net : Network) (plan : Plan) (domain : DomainId) where
  losing_of : (d : ℕ) → LosesBackup net plan domain d → IsLosing net plan domain d
  losing_of d l = record { sound = l.sound; no_root = l.no_root; hit = l.hit; backup = l.backup; has_backup = l.has_backup; lost = l.lost }

  -- what is answered of the domain condition
  pub domain_shown : (candidates : List ℕ) (answer : Option ℕ) → holds_device net domain (acting_end net plan domain) ≡ false
      → AreAll (IsLosing net plan domain) candidates → FirstReached net plan domain candidates answer → DomainShown net plan domain answer
  domain_shown candidates None left all none = λ d l. none_reached net plan domain (IsLosing net plan domain) candidates all none d (losing_of d l) l.not_cut.1
  domain_shown candidates (Some d) left all found =
      let l = all.each found.0 d found.1 in (
        record {
          sound = l.sound;
          no_root = l.no_root;
          hit = l.hit;
          not_cut = (not_from_false (holds_device net domain (acting_end net plan domain)) left, found.2);
          backup = l.backup;
          has_backup = l.has_backup;
          lost = l.lost;
        },
        λ e less other. least_reached net plan domain (IsLosing net plan domain) candidates d all found e less (losing_of e other) other.not_cut.1,
      )

  -- where the device is that an answer on reach is about
  pub unheard_within : (d : ℕ) → Fits net plan → KeepsRules net plan → IsUnheard net plan domain d → d < length net.devices
  unheard_within d fits rules unheard = elim (cases_Bool (is_hit net plan domain d)) [
    | inl hits ↦ (hit_device net plan domain d fits rules hits).within
    | inr free ↦ absurd (unheard.unfed (spared unheard.sound (not_from_false (is_hit net plan domain d) free)))
  ]

  -- where nobody is starved
  pub reach_holds : (candidates : List ℕ) → AreDecided net plan domain candidates → FirstReached net plan domain candidates None → ReachHolds net plan domain
  reach_holds candidates decided none d sound = elim (decided.decided d sound) [
    | inl fed ↦ inl fed
    | inr place ↦ inr (λ can. none place.0 d place.1 can.1)
  ]

  -- the chain of the least starved device
  pub chain_shown : (candidates : List ℕ) (first : ℕ) (chain : List ℕ) → holds_device net domain (acting_end net plan domain) ≡ false
      → AreAll (IsUnheard net plan domain) candidates → FirstReached net plan domain candidates (Some first)
      → IsChainOf net plan domain first chain → IsShownChain net plan domain chain
  chain_shown candidates first chain left all found is =
      let unheard = all.each found.0 first found.1 in
      record {
        first = first;
        starved = (unheard.sound, unheard.unfed, (not_from_false (holds_device net domain (acting_end net plan domain)) left, found.2));
        least = λ e less starved. least_reached net plan domain (IsUnheard net plan domain) candidates first all found e less
            (record { sound = starved.0; unfed = starved.1 }) starved.2.1;
        begins = is.begins;
        goes_on = is.goes_on;
      }

  -- a domain that can do no harm
  pub harmless_reach : Fits net plan → KeepsRules net plan → IsHarmless net plan domain → ReachHolds net plan domain
  harmless_reach fits rules harmless d sound = elim harmless.harmless [
    | inl nobody ↦ elim (cases_Bool (is_hit net plan domain d)) [
      | inl hits ↦ absurd (both_ways (is_hit net plan domain d) (nobody d (hit_device net plan domain d fits rules hits).within) hits)
      | inr free ↦ inl (spared sound (not_from_false (is_hit net plan domain d) free))
    ]
    | inr held ↦ inr
        (λ can. both_ways (holds_device net domain (acting_end net plan domain)) (not-true (holds_device net domain (acting_end net plan domain)) can.0) held)
  ]

  -- nobody is hit
  pub nobody_hit : (hit : List ℕ) → hit ≡ hit_by net plan domain → length hit ≡ 0 → IsHarmless net plan domain
  nobody_hit hit are none = record {
    harmless = inl (λ d within. false_from_ne_true (is_hit net plan domain d) (λ hits.
        let place : (i : ℕ) × (slice_get hit i ≡ Some d) = at_hit net plan domain hit d are within hits in
        let inside = slice_get_within hit place.0 d place.1 in
        omega arith));
  }

  pub held_harmless : holds_device net domain (acting_end net plan domain) ≡ true → IsHarmless net plan domain
  held_harmless held = record { harmless = inr held }
