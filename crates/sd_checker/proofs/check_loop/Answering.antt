-- What is found among the places of the hit devices is what is to be answered of a domain.
use Rattle.std.proofs.Common.{◌≡◌, ◌≢◌, ℕ, ◌<◌, List, [], ◌∷◌, ◌++◌, length, get_or, Option, Some, None, refl, sym, ap, ◌∙◌, subst, inl, inr, arith}
use Rattle.std.specs.Prelude.{slice_get}
use Rattle.std.proofs.lemmas.Bool.{cases_lt}
use Rattle.std.proofs.lemmas.List.{get_or_past, length-map}
use Rattle.std.proofs.lemmas.Option.{slice_get_within, get_or_from_slice_get}
use Rattle.sd_plan.specs.topo.Network.{Network}
use Rattle.sd_plan.specs.declared.domain.DomainId.{DomainId}
use Rattle.sd_plan.specs.declared.Plan.{Plan}
use Rattle.sd_plan.specs.Plans.{Fits}
use Rattle.sd_plan.specs.Structure.{structure_breach}
use Rattle.sd_checker.specs.check_hit.Hit.{hit_by}
use Rattle.sd_checker.specs.check_loop.Graphs.{place_in, successors_of, graph_of}
use Rattle.sd_checker.specs.check_loop.ShownCycles.{IsChain, IsFirstOf, IsLeast, IsEndless, IsNextShown, ShowsCycle}
use Rattle.sd_checker.specs.check_loop.Answered.{LoopShown}
use Rattle.sd_checker.specs.check_loop.Markings.{mark_at, IsMarked}
use Rattle.sd_checker.specs.check_loop.Shown.{IsStep, CycleIs, IsAnswer, AnswersFor}
use Rattle.sd_checker.specs.declared.check_loop.graph.Successors.{Successors}
use Rattle.sd_checker.specs.declared.check_loop.marking.Mark.{Mark}
use Rattle.sd_checker.specs.declared.check_loop.marking.Mark.TheVariants as mark
use Rattle.sd_checker.proofs.check_loop.Listed.{hit_ascends}
use Rattle.sd_checker.proofs.check_loop.Judging.{none_endless, first_least, next_shown}
use Rattle.sd_checker.proofs.check_loop.Places.{place_in-at}

-- what holds of each two neighbours
chain_map : (R Q : ℕ → ℕ → Type 0) → ((x y : ℕ) → R x y → Q x y) → (xs : List ℕ) → IsChain R xs → IsChain Q xs
chain_map R Q each [] chain = tt
chain_map R Q each (x ∷ []) chain = tt
chain_map R Q each (x ∷ y ∷ ys) chain = (each x y chain.0, chain_map R Q each (y ∷ ys) chain.1)

first_map : (P Q : ℕ → Type 0) → ((x : ℕ) → P x → Q x) → (xs : List ℕ) → IsFirstOf xs P → IsFirstOf xs Q
first_map P Q each [] first = first
first_map P Q each (x ∷ xs) first = each x first

ending_endless : mark.Ending ≡ mark.Endless → ⊥
ending_endless same = cc

module _ (net : Network) (plan : Plan) (domain : DomainId) (fits : Fits net plan) (structured : structure_breach net plan ≡ None) (hit : List ℕ)
    (is : hit ≡ hit_by net plan domain) where
  -- the place of a device that stands there
  place_at : (d i : ℕ) → slice_get hit i ≡ Some d → place_in hit d ≡ Some i
  place_at d i at =
      subst (λ (x : ℕ). place_in hit x ≡ Some i) (get_or_from_slice_get hit i d 0 at)
      (place_in-at hit i (hit_ascends net plan domain hit is) (slice_get_within hit i d at))

  module _ (marks : List Mark) (marked : IsMarked (graph_of plan hit) marks) where
    goes : (d e : ℕ) → IsStep hit (graph_of plan hit) marks d e → IsNextShown net plan domain d e
    goes d e step =
        next_shown net plan domain fits structured hit is (graph_of plan hit) refl marks marked d e step.here step.there (place_at d step.here step.from)
        (place_at e step.there step.to) step.next

    shows : (begin : ℕ) → begin < length hit → mark_at marks begin ≡ mark.Endless → ((k : ℕ) → k < begin → mark_at marks k ≢ mark.Endless)
        → (cycle : List ℕ) → CycleIs hit (graph_of plan hit) marks (get_or hit begin 0) cycle → ShowsCycle net plan domain cycle
    shows begin within endless before [] none = none
    shows begin within endless before (first ∷ others) c =
        let at = place_in-at hit begin (hit_ascends net plan domain hit is) within in
        let least : IsLeast (IsEndless net plan domain) (get_or hit begin 0) =
        first_least net plan domain fits structured hit is (graph_of plan hit) refl marks marked (get_or hit begin 0) begin at endless before in
        record {
          lead = c.lead;
          begins =
              first_map (λ d. d ≡ get_or hit begin 0) (IsLeast (IsEndless net plan domain))
              (λ d same. subst (λ (x : ℕ). IsLeast (IsEndless net plan domain) x) (sym same) least)
              (c.lead ++ first ∷ others) c.begins;
          goes_on = chain_map (IsStep hit (graph_of plan hit) marks) (IsNextShown net plan domain) goes (c.lead ++ (first ∷ others) ++ first ∷ []) c.goes_on;
          once = c.once;
        }

    by_answer : (shown : Option (List ℕ)) → IsAnswer hit (graph_of plan hit) marks shown → LoopShown net plan domain shown
    by_answer None none =
        none_endless net plan domain fits structured hit is (graph_of plan hit) refl marks marked
        (λ i endless.
        elim (cases_lt i (length marks)) [
          | inl before ↦ none i before endless
          | inr past ↦ ending_endless (sym (get_or_past marks i mark.Ending past) ∙ endless)
        ])
    by_answer (Some cycle) a = shows a.0 a.1 a.2 a.3 cycle a.4

  -- an answer by marks is the answer for the domain
  pub answered : (shown : Option (List ℕ)) → AnswersFor plan hit shown → LoopShown net plan domain shown
  answered shown a = by_answer a.0 a.1 shown a.2

-- where nobody is hit, nothing is endless
pub none_hit : (net : Network) (plan : Plan) (domain : DomainId) → Fits net plan → structure_breach net plan ≡ None → (hit : List ℕ)
    → hit ≡ hit_by net plan domain → hit ≡ [] → LoopShown net plan domain None
none_hit net plan domain fits structured hit is none =
    answered net plan domain fits structured [] (sym none ∙ is) None (
      [],
      record {
        size = refl;
        ranked = record { rank = λ i. 0; falls = λ i ending. (tt, tt) };
        goes_on = λ i endless. absurd (ending_endless endless);
        done = λ i other. refl;
      },
      λ k below. absurd (omega arith),
    )

-- what a first endless place leads to, as the code has it
pub found_cycle : (plan : Plan) (hit : List ℕ) (made read later : List Successors) (marks seen after : List Mark) (begin : ℕ) (cycle : List ℕ)
    → made ≡ graph_of plan hit → read ≡ made → later ≡ made → seen ≡ marks → after ≡ marks
    → IsMarked read marks → begin < length seen → mark_at seen begin ≡ mark.Endless → ((k : ℕ) → k < begin → mark_at seen k ≢ mark.Endless)
    → CycleIs hit later after (get_or hit begin 0) cycle
    → AnswersFor plan hit (Some cycle)
found_cycle plan hit made read later marks seen after begin cycle is read_is later_is seen_is after_is marked within endless before shown =
    let marked_so : IsMarked (graph_of plan hit) marks = subst (λ (g : List Successors). IsMarked g marks) (read_is ∙ is) marked in
    let shown_so : CycleIs hit (graph_of plan hit) marks (get_or hit begin 0) cycle =
    subst (λ (m : List Mark). CycleIs hit (graph_of plan hit) m (get_or hit begin 0) cycle) after_is
    (subst (λ (g : List Successors). CycleIs hit g after (get_or hit begin 0) cycle) (later_is ∙ is) shown) in
    let size : length seen ≡ length hit = ap (λ (m : List Mark). length m) seen_is ∙ marked_so.size ∙ length-map hit (successors_of plan hit) in (
      marks,
      marked_so,
      (
        begin,
        omega (arith, within, size),
        subst (λ (m : List Mark). mark_at m begin ≡ mark.Endless) seen_is endless,
        (λ k early. subst (λ (m : List Mark). mark_at m k ≢ mark.Endless) seen_is (before k early)),
        shown_so,
      ),
    )
