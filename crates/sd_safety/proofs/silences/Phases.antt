-- In a phase: the plan is one and the same, what has not failed by now had not failed then, and each state later than the reference is that before an
-- event which comes with the invariant.
use Rattle.std.specs.Prelude.{◌≡◌, ℕ, ◌+◌, ◌<◌, ◌≤◌, Bool, true, false, List, [], ◌∷◌, cond, count_by, Option, Some, None, refl}
use Rattle.std.specs.List.{list_any, cons_option}
use Rattle.std.proofs.Common.{arith, sym, ◌∙◌, ap, subst}
use Rattle.std.proofs.lemmas.Bool.{or_parts, or_from, or_left, or_right, false_from_ne_true}
use Rattle.std.proofs.lemmas.List.Sums.{sum_by-cons}
use Rattle.sd_num.specs.Lists.{map_or}
use Rattle.sd_plan.specs.topo.Network.{Network}
use Rattle.sd_plan.specs.declared.topo.Thing.{Thing}
use Rattle.sd_plan.specs.declared.topo.Thing.TheVariants as thing
use Rattle.sd_plan.specs.domain.Things.{same_thing}
use Rattle.sd_plan.specs.declared.Hop.{Hop}
use Rattle.sd_plan.specs.declared.Plan.{Plan}
use Rattle.sd_plan.specs.Walks.{path}
use Rattle.sd_sched.specs.declared.Event.{Event}
use Rattle.sd_sched.specs.Events.{reference_of}
use Rattle.sd_history.specs.Things.{failure_of}
use Rattle.sd_history.specs.World.{Setting, Seen, fails, has_commit, plan_numbered}
use Rattle.sd_history.specs.Steps.{Step, seen_of}
use Rattle.sd_history.specs.Chronicle.{chronicle, next_step}
use Rattle.sd_safety.specs.invariant.Eras.{era, plan_now, is_among, failed_now, beginning}
use Rattle.sd_safety.specs.invariant.Invariant.{Invariant, AtEach}
use Rattle.sd_safety.specs.invariant.Guarded.{AreGuarded, IsSteady}
use Rattle.sd_safety.specs.invariant.Coming.{IsNextEvent}
use Rattle.sd_safety.proofs.invariant.Prefix.{clean_before}
use Rattle.sd_safety.proofs.invariant.Sides.{not_both}
use Rattle.sd_safety.specs.messages.Moments.{Tail, whole, behind, Moment, upto, when, IsIn}
use Rattle.sd_safety.proofs.messages.Flowing.{tail_rest}
use Rattle.sd_safety.specs.silences.Phases.{IsPhase}
use Rattle.sd_safety.proofs.silences.Paths.{IsClear}
use Rattle.sd_safety.proofs.waits.Standing.{Early}

-- Eras

pub era_after : (s : Step) (steps : List Step) → era (s ∷ steps) ≡ cond s.seen.closed 1 0 + era steps
era_after s steps = ap (λ n. n + 1) (sum_by-cons (λ (x : Seen). cond x.closed 1 0) s.seen (seen_of steps))
    ∙ apart (cond s.seen.closed 1 0) (count_by (λ (x : Seen). x.closed) (seen_of steps))
  where
    apart : (a b : ℕ) → a + b + 1 ≡ a + (b + 1)
    apart a b = omega arith

pub era_grows : (older steps : List Step) → Tail older steps → era older ≤ era steps
era_grows older _ whole = omega arith
era_grows older _ (behind {x = s} {xs = earlier} t) =
    let before = era_grows older earlier t in
    let step = era_after s earlier in
    omega (arith, before, step)

open_by : (c : Bool) (n : ℕ) → cond c 1 0 + n ≤ n → c ≡ false
open_by true n le = absurd (omega (arith, le))
open_by false n le = refl

-- where the era is the same, no window closed
pub open_at : (s : Step) (steps : List Step) → era (s ∷ steps) ≤ era steps → s.seen.closed ≡ false
open_at s steps le = open_by s.seen.closed (era steps) (subst (λ n. n ≤ era steps) (era_after s steps) le)

among_more : (x : Thing) (o : Option Thing) (rest : List Thing)
    → (is_among rest x ≡ true → is_among (cons_option o rest) x ≡ true) × (map_or o false (same_thing x) ≡ true → is_among (cons_option o rest) x ≡ true)
among_more x None rest = (λ h. h, λ h. cc)
among_more x (Some y) rest = (λ h. or_right (same_thing x y) (is_among rest x) h, λ h. or_left (same_thing x y) (is_among rest x) h)

failed_after : (s : Step) (steps : List Step) → s.seen.closed ≡ false → failed_now (s ∷ steps) ≡ cons_option (failure_of s.seen.event) (failed_now steps)
failed_after s steps open_ = rw (open_) refl

pub fails_among : (s : Step) (steps : List Step) (x : Thing) → s.seen.closed ≡ false → fails x s.seen.event ≡ true → is_among (failed_now (s ∷ steps)) x ≡ true
fails_among s steps x open_ h =
    subst (λ l. is_among l x ≡ true) (sym (failed_after s steps open_)) ((among_more x (failure_of s.seen.event) (failed_now steps)).1 h)

pub failed_on : (x : Thing) (older steps : List Step) → Tail older steps → era steps ≤ era older → is_among (failed_now older) x ≡ true
    → is_among (failed_now steps) x ≡ true
failed_on x older _ whole le h = h
failed_on x older _ (behind {x = s} {xs = earlier} t) le h =
    let before = era_grows older earlier t in
    let next = era_grows earlier (s ∷ earlier) (behind whole) in
    let open_ : s.seen.closed ≡ false = open_at s earlier (omega (arith, le, before)) in
    let rest : is_among (failed_now earlier) x ≡ true = failed_on x older earlier t (omega (arith, le, next)) h in
    subst (λ l. is_among l x ≡ true) (sym (failed_after s earlier open_)) ((among_more x (failure_of s.seen.event) (failed_now earlier)).0 rest)

pub fewer : (x : Thing) (older steps : List Step) → Tail older steps → era steps ≤ era older → is_among (failed_now steps) x ≡ false
    → is_among (failed_now older) x ≡ false
fewer x older steps t le none =
    false_from_ne_true (is_among (failed_now older) x) (λ is. not_both (is_among (failed_now steps) x) (failed_on x older steps t le is) none)

pub touched_less : (p q : Thing → Bool) (xs : List Thing) → ((x : Thing) → q x ≡ false → p x ≡ false) → list_any q xs ≡ false → list_any p xs ≡ false
touched_less p q [] less none = refl
touched_less p q (x ∷ xs) less none = let parts = or_parts (q x) (list_any q xs) none in
    or_from (p x) (list_any p xs) (less x parts.0) (touched_less p q xs less parts.1)

-- a hop that is clear of more is clear of fewer
pub clear_more : (net : Network) (plan : Plan) (failed fewer_ : List Thing) (y : ℕ) (hop : Hop)
    → ((x : Thing) → is_among failed x ≡ false → is_among fewer_ x ≡ false) → IsClear net plan failed y hop → IsClear net plan fewer_ y hop
clear_more net plan failed fewer_ y hop less clear =
    record {
      primary = clear.primary;
      other = clear.other;
      known = clear.known;
      member = clear.member;
      self = less (thing.Device y) clear.self;
      path_ = touched_less (is_among fewer_) (is_among failed) (path net plan y) less clear.path_;
      link = less (thing.Link hop.link) clear.link;
      parent = less (thing.Device hop.parent) clear.parent;
      within = clear.within;
      present = clear.present;
    }

-- a clear hop was clear
pub clear_then : (setting : Setting) (older steps : List Step) (y : ℕ) (hop : Hop) → Tail older steps → era older ≡ era steps
    → IsClear setting.net (plan_now setting steps) (failed_now steps) y hop
    → IsClear setting.net (plan_now setting older) (failed_now older) y hop
clear_then setting older steps y hop t same clear =
    subst (λ n. IsClear setting.net (plan_numbered setting n) (failed_now older) y hop) (sym same)
    (clear_more setting.net (plan_now setting steps) (failed_now steps) (failed_now older) y hop (λ x none. fewer x older steps t le none) clear)
  where
    le : era steps ≤ era older
    le = omega (arith, same)

-- Tails

-- Stages

-- the moment is an event that comes with the invariant before it
pub record Stage (setting : Setting) (r0 : ℕ) (q : Moment) : Type 0 where
  pub x : Event
  pub h : List Event
  pub e : Event
  pub is : q ≡ record { step = next_step setting (chronicle setting (x ∷ h)) e; earlier = chronicle setting (x ∷ h) }
  pub comes : IsNextEvent setting (x ∷ h) e
  pub begins : beginning (seen_of (chronicle setting (x ∷ h))) ≡ r0

pub stage : (setting : Setting) → AreGuarded setting → (q : Moment) (history : List Event) (e : Event) → IsSteady setting (e ∷ history)
    → AtEach (Invariant setting) (chronicle setting history)
    → IsIn q (chronicle setting (e ∷ history)) → beginning (seen_of (chronicle setting (e ∷ history))) < when q
    → Stage setting (beginning (seen_of (chronicle setting (e ∷ history)))) q
stage setting fair q [] e clean inv whole less = absurd (omega (arith, less))
stage setting fair q [] e clean inv (behind t) less = elim t [ ]
stage setting fair q (x ∷ h) e clean inv whole less =
    record { x = x; h = h; e = e; is = refl; comes = record { fair = fair; clean = clean; before = inv }; begins = refl }
stage setting fair q (x ∷ h) e clean inv (behind t) less = stage setting fair q h x (clean_before setting e (x ∷ h) clean) inv.0 t less

-- the moment after one
pub record Following (p : Moment) (top : Moment) : Type 0 where
  pub moment : Moment
  pub is_in : IsIn moment (upto top)
  pub earlier_is : moment.earlier ≡ upto p

pub following : (p : Moment) (s : Step) (steps : List Step) → IsIn p steps → Following p (record { step = s; earlier = steps })
following p s _ whole = record { moment = record { step = s; earlier = upto p }; is_in = whole; earlier_is = refl }
following p s _ (behind {x = s'} {xs = steps} t) = let f = following p s' steps t in
    record { moment = f.moment; is_in = behind f.is_in; earlier_is = f.earlier_is }

-- In a phase

-- what is known at a moment later than the reference
pub record Known (setting : Setting) (steps : List Step) (q : Moment) : Type 0 where
  pub x : Event
  pub h : List Event
  pub e : Event
  pub is : q ≡ record { step = next_step setting (chronicle setting (x ∷ h)) e; earlier = chronicle setting (x ∷ h) }
  pub comes : IsNextEvent setting (x ∷ h) e
  pub late : Early setting x h e comes → ⊥
  pub same : era (chronicle setting (x ∷ h)) ≡ era steps
  pub calm : has_commit (seen_of (chronicle setting (x ∷ h))) ≡ false
  pub part : Tail (chronicle setting (x ∷ h)) steps

pub known : (setting : Setting) (x : Event) (h : List Event) (e : Event) (s0 : ℕ) → IsPhase setting (x ∷ h) e s0 → (q : Moment)
    → IsIn q (chronicle setting (e ∷ x ∷ h)) → s0 < when q → Known setting (chronicle setting (x ∷ h)) q
known setting x h e s0 phase q here after =
    let started = phase.started in
    let st : Stage setting (beginning (seen_of (chronicle setting (e ∷ x ∷ h)))) q =
    stage setting phase.comes.fair q (x ∷ h) e phase.comes.clean phase.comes.before here (omega (arith, started, after)) in
    let facts = phase.same q here after in
    let reference : when q ≡ reference_of st.e = ap when st.is in
    let begins = st.begins in
    record {
      x = st.x;
      h = st.h;
      e = st.e;
      is = st.is;
      comes = st.comes;
      late = λ early. let le = early.1 in absurd (omega (arith, le, started, after, reference, begins));
      same = subst (λ (p : Moment). era p.earlier ≡ era (chronicle setting (x ∷ h))) st.is facts.0;
      calm = subst (λ (p : Moment). has_commit (seen_of p.earlier) ≡ false) st.is facts.1;
      part = subst (λ (p : Moment). Tail p.earlier (chronicle setting (x ∷ h))) st.is (tail_rest here);
    }
