-- What is kept of estimates and messages: they carry at most what a walk adds to the source, and on straight ways at most what the root sends
-- and the way adds. A hop adds its half.
use Rattle.std.specs.Prelude.{◌≡◌, ℕ, ◌+◌, ◌≤◌, Bool, true, false, ◌&&◌, not, List, [], ◌∷◌, ◌++◌, nat_eq, Option, Some, None, option_to_list, refl, if◌then◌else◌}
use Rattle.std.specs.List.{list_any}
use Rattle.std.proofs.Common.{arith, sym, subst}
use Rattle.std.proofs.lemmas.Bool.{and_from, or_left, or_right, eq-eqb}
use Rattle.sd_plan.specs.topo.Network.{Network, rates_of, bounds_of}
use Rattle.sd_plan.specs.declared.domain.DomainId.{DomainId}
use Rattle.sd_plan.specs.declared.Hop.{Hop}
use Rattle.sd_plan.specs.declared.Plan.{Plan}
use Rattle.sd_plan.specs.Plans.{is_member, is_root, is_backup_root, primary_of, backup_of}
use Rattle.sd_plan.specs.Walks.{walk, ends_walks, is_hit}
use Rattle.sd_checker.specs.check_loop.Loops.{same_hop, hops_of, is_walk}
use Rattle.sd_sched.specs.declared.Event.{Event}
use Rattle.sd_drill.specs.ages.Ages.{ageing}
use Rattle.sd_drill.specs.recovery.Walks.{halves, IsWalk}
use Rattle.sd_drill.specs.declared.Budget.{Budget}
use Rattle.sd_drill.specs.Drill.{root_halves, source}
use Rattle.sd_safety.proofs.spans.PathHearsAtEvents.{within}
use Rattle.sd_safety.proofs.moves.Ends.{within as with_most}
use Rattle.sd_history.specs.World.{alone}
use Rattle.sd_bound.proofs.histories.Plain.{IsPlain}
use Rattle.sd_bound.proofs.bases.Straight.{IsStraight, straight_before}

-- the most that the root sends
abbrev pub sent_by_root : Network → Plan → Budget → ℕ
sent_by_root net plan budget = budget.base + ageing (rates_of net plan.root) budget.hold

-- at most the source and the halves of some walk
pub record IsWalked (net : Network) (plan : Plan) (budget : Budget) (f : DomainId) (d eps : ℕ) : Type 0 where
  pub hops : List Hop
  pub walk : IsWalk net plan f d hops
  pub sum : eps ≤ source net plan budget + halves net d hops

-- the uncertainty with which a device set its estimate
pub record Based (net : Network) (plan : Plan) (budget : Budget) (f : DomainId) (history : List Event) (d base : ℕ) : Type 0 where
  pub root : is_root plan d ≡ true → base ≤ budget.base
  pub backup : is_backup_root plan d ≡ true → base ≤ sent_by_root net plan budget + root_halves net plan
  pub walked : IsWalked net plan budget f d base
  pub direct : IsStraight net plan history d → base ≤ sent_by_root net plan budget + halves net d (walk net plan d)

-- that of a message that it sent
pub record SentSo (net : Network) (plan : Plan) (budget : Budget) (f : DomainId) (history : List Event) (d eps : ℕ) : Type 0 where
  pub walked : IsWalked net plan budget f d eps
  pub direct : IsStraight net plan history d → eps ≤ sent_by_root net plan budget + halves net d (walk net plan d)

-- Numbers

within_source : (x base rh a b h : ℕ) → x ≤ base → x ≤ base + rh + a + b + h
within_source x base rh a b h le = omega (arith, le)

by_backup : (x base rh a b : ℕ) → x ≤ base + a + rh → x ≤ base + rh + a + b + 0
by_backup x base rh a b le = omega (arith, le)

hop_adds : (x half sum hs : ℕ) → x ≤ sum + hs → x + half ≤ sum + (half + hs)
hop_adds x half sum hs le = omega (arith, le)

module _ (net : Network) (plan : Plan) (budget : Budget) (f : DomainId) where
  -- what is set within the base
  pub set_so : (history : List Event) (d base : ℕ) → base ≤ budget.base → Based net plan budget f history d base
  set_so history d base le =
      record {
        root = λ is. le;
        backup = λ is. within base budget.base (ageing (rates_of net plan.root) budget.hold) (root_halves net plan) le;
        walked = record {
          hops = [];
          walk = refl;
          sum = within_source base budget.base (root_halves net plan) (ageing (rates_of net plan.root) budget.hold)
              (ageing (rates_of net plan.backup_root) budget.hold) 0 le;
        };
        direct = λ straight. within base budget.base (ageing (rates_of net plan.root) budget.hold) (halves net d (walk net plan d)) le;
      }

  -- what held before an event holds after it
  pub based_on : (e : Event) (history : List Event) → IsPlain (alone net plan) (e ∷ history) → (d base : ℕ) → Based net plan budget f history d base
      → Based net plan budget f (e ∷ history) d base
  based_on e history plain d base was =
      record {
        root = was.root;
        backup = was.backup;
        walked = was.walked;
        direct = λ straight. was.direct (straight_before net plan e history plain d straight);
      }

  pub sent_on : (e : Event) (history : List Event) → IsPlain (alone net plan) (e ∷ history) → (d eps : ℕ) → SentSo net plan budget f history d eps
      → SentSo net plan budget f (e ∷ history) d eps
  sent_on e history plain d eps was = record { walked = was.walked; direct = λ straight. was.direct (straight_before net plan e history plain d straight) }

  -- what a device passes on
  pub passed_on : (history : List Event) (d base : ℕ) → Based net plan budget f history d base → SentSo net plan budget f history d base
  passed_on history d base based = record { walked = based.walked; direct = based.direct }

  -- Hops

  pub backup_walked : (d base : ℕ) → base ≤ sent_by_root net plan budget + root_halves net plan → IsWalked net plan budget f d base
  backup_walked d base le =
      record {
        hops = [];
        walk = refl;
        sum = by_backup base budget.base (root_halves net plan) (ageing (rates_of net plan.root) budget.hold)
            (ageing (rates_of net plan.backup_root) budget.hold) le;
      }

  same_itself : (hop : Hop) → same_hop hop hop ≡ true
  same_itself hop = and_from (nat_eq hop.parent hop.parent) (nat_eq hop.link hop.link) (eq-eqb hop.parent hop.parent refl) (eq-eqb hop.link hop.link refl)

  among_hops : (member end hit moved : Bool) (p b : Option Hop) (hop : Hop) → member ≡ true → end ≡ false → (moved ≡ true → hit ≡ true)
      → (if moved then b else p) ≡ Some hop
      → list_any (same_hop hop) (if member && not end then option_to_list p ++ (if hit then option_to_list b else []) else []) ≡ true
  among_hops false end hit moved p b hop in_ other caused on = cc
  among_hops true true hit moved p b hop in_ other caused on = cc
  among_hops true false hit false p b hop in_ other caused on =
      subst (λ o. list_any (same_hop hop) (option_to_list o ++ (if hit then option_to_list b else [])) ≡ true) (sym on)
      (or_left (same_hop hop hop) _ (same_itself hop))
  among_hops true false hit true p b hop in_ other caused on =
      subst (λ h. list_any (same_hop hop) (option_to_list p ++ (if h then option_to_list b else [])) ≡ true) (sym (caused refl)) (last p)
    where
      here : list_any (same_hop hop) (option_to_list b) ≡ true
      here = subst (λ o. list_any (same_hop hop) (option_to_list o) ≡ true) (sym on) (or_left (same_hop hop hop) false (same_itself hop))

      last : (o : Option Hop) → list_any (same_hop hop) (option_to_list o ++ option_to_list b) ≡ true
      last None = here
      last (Some h) = or_right (same_hop hop h) (list_any (same_hop hop) (option_to_list b)) here

  -- over a hop that a device may be on, the walk grows by it
  pub hop_walked : (d n : ℕ) (hop : Hop) (moved : Bool) → is_member plan d ≡ true → ends_walks plan d ≡ false → (moved ≡ true → is_hit net plan f d ≡ true)
      → (if moved then backup_of plan d else primary_of plan d) ≡ Some hop
      → IsWalked net plan budget f hop.parent n → IsWalked net plan budget f d (n + (bounds_of net hop.link d).half)
  hop_walked d n hop moved member other caused on walked =
      record {
        hops = hop ∷ walked.hops;
        walk =
            and_from (list_any (same_hop hop) (hops_of net plan f d)) (is_walk net plan f hop.parent walked.hops)
            (among_hops (is_member plan d) (ends_walks plan d) (is_hit net plan f d) moved (primary_of plan d) (backup_of plan d) hop member other caused on)
            walked.walk;
        sum = hop_adds n (bounds_of net hop.link d).half (source net plan budget) (halves net hop.parent walked.hops) walked.sum;
      }

  -- and so does a straight way
  pub hop_direct : (d n : ℕ) (hop : Hop) → n ≤ sent_by_root net plan budget + halves net hop.parent (walk net plan hop.parent)
      → n + (bounds_of net hop.link d).half ≤ sent_by_root net plan budget + halves net d (hop ∷ walk net plan hop.parent)
  hop_direct d n hop le = hop_adds n (bounds_of net hop.link d).half (sent_by_root net plan budget) (halves net hop.parent (walk net plan hop.parent)) le

  pub within_halves : (x part : ℕ) → x ≤ sent_by_root net plan budget + part → part ≤ root_halves net plan
      → x ≤ sent_by_root net plan budget + root_halves net plan
  within_halves x part le less = with_most x (sent_by_root net plan budget) part (root_halves net plan) le less
