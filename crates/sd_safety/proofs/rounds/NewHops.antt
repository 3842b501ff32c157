-- From a moment on that is later than a commit, a primary hop of the staged plan is open to a round of that plan.
use Rattle.std.specs.Prelude.{◌≡◌, ℕ, ◌+◌, ◌<◌, ◌≤◌, true, false, List, [], ◌∷◌, length, refl, ◌⊎◌}
use Rattle.std.proofs.Common.{arith, sym, ap, subst, inr}
use Rattle.std.proofs.lemmas.Bool.{eqb-true, eq-eqb}
use Rattle.std.proofs.Math.Nat.{le_antisymm}
use Rattle.sd_plan.specs.declared.topo.Thing.TheVariants as thing
use Rattle.sd_plan.specs.declared.Hop.{Hop}
use Rattle.sd_plan.specs.declared.Plan.{Plan}
use Rattle.sd_plan.specs.declared.End.{End}
use Rattle.sd_plan.specs.Plans.{is_member, is_root}
use Rattle.sd_plan.specs.Walks.{walk, path, end_of}
use Rattle.sd_plan.specs.Duties.{follows_over}
use Rattle.sd_plan.proofs.Rules.{KeepsRules}
use Rattle.sd_sched.specs.declared.Event.{Event}
use Rattle.sd_history.specs.World.{Setting, has_commit, epoch_in_force, staged_epoch, window_is_open}
use Rattle.sd_history.specs.Steps.{Step, seen_of}
use Rattle.sd_history.specs.Chronicle.{chronicle}
use Rattle.sd_history.proofs.Among.{Among}
use Rattle.sd_safety.specs.invariant.Eras.{era}
use Rattle.sd_safety.specs.invariant.Coming.{IsNextEvent}
use Rattle.sd_safety.proofs.invariant.Sides.{implied, not_both}
use Rattle.sd_safety.specs.messages.Moments.{Tail, whole, behind, IsChronicle, Moment, upto, IsIn}
use Rattle.sd_safety.proofs.messages.Tails.{tail_chronicle, history_chronicle, rest_of}
use Rattle.sd_safety.proofs.messages.Ends.{primary_follows}
use Rattle.sd_safety.proofs.messages.Flowing.{tail_rest}
use Rattle.sd_safety.proofs.silences.Phases.{era_grows}
use Rattle.sd_safety.proofs.silences.FirstEra.{commit_stays}
use Rattle.sd_safety.proofs.silences.WalkWays.{Walks, over, walks, end_at, way_of, way_length, begins, walk_length}
use Rattle.sd_safety.proofs.silences.Paths.{IsClear, clear_walk}
use Rattle.sd_safety.proofs.silences.Links.{alone}
use Rattle.sd_safety.proofs.silences.SoundWays.{top_of, map_walks}
use Rattle.sd_safety.proofs.windows.Committing.{staged_plan}
use Rattle.sd_safety.proofs.entering.Stages.{Stage, stage, Known}
use Rattle.sd_safety.proofs.entering.States as states
use Rattle.sd_safety.proofs.entering.SoundWays.{nothing_touches, fails_at, ready_at, whole_at}
use Rattle.sd_safety.specs.rounds.Rounds.{IsOpenHop, AreOpenHops}

-- the way of a walk is open where each of its hops is
pub open_ways : (setting : Setting) (top : Moment) (plan : Plan) (epoch : ℕ) (start : Moment) (limit source d : ℕ) (hs : List Hop) (rest : List End)
    → Walks plan (λ y hop. IsOpenHop setting top epoch start limit source hop.parent (end_at y hop)) d hs
    → AreOpenHops setting top epoch start limit source d rest
    → AreOpenHops setting top epoch start limit source (end_of d hs) (way_of d hs rest)
open_ways setting top plan epoch start limit source d [] rest over base = base
open_ways setting top plan epoch start limit source d (hop ∷ hs) rest (walks one more) base =
    open_ways setting top plan epoch start limit source hop.parent hs (end_at d hop ∷ rest) more (one, base)

module _ (setting : Setting) (history : List Event) (e : Event) (comes : IsNextEvent setting history e) (first : Moment)
    (here : IsIn first (chronicle setting history)) (same : era first.earlier ≡ era (chronicle setting history))
    (commit : has_commit (seen_of first.earlier) ≡ true) where
  abbrev steps : List Step
  steps = chronicle setting history

  is_chronicle : IsChronicle setting (chronicle setting history)
  is_chronicle = history_chronicle setting history comes.clean.is.0

  committed_at : (older : List Step) → Tail first.earlier older → Tail older (chronicle setting history)
      → (has_commit (seen_of older) ≡ true) × (era older ≡ era (chronicle setting history))
  committed_at older t u =
      let one : era first.earlier ≤ era older = era_grows first.earlier older t in
      let two : era older ≤ era steps = era_grows older steps u in (
        commit_stays setting first.earlier older t (tail_chronicle setting u is_chronicle) (omega (arith, two, same)) commit,
        le_antisymm two
            (omega (arith, one, same)),
      )

  pub committed_now : has_commit (seen_of (chronicle setting history)) ≡ true
  committed_now = (committed_at steps (rest_of here) whole).0

  pub known_since : (q : Moment) → IsIn q (chronicle setting (e ∷ history)) → Tail first.earlier q.earlier → Known setting (chronicle setting history) q
  known_since q q_in t =
      let st : Stage setting q = stage setting comes.fair q history e comes.clean comes.before q_in in
      let told = committed_at q.earlier t (tail_rest q_in) in
      record {
        h = st.h;
        e = st.e;
        is = st.is;
        comes = st.comes;
        commit = subst (λ (p : Moment). has_commit (seen_of p.earlier) ≡ true) st.is told.0;
        same = subst (λ (p : Moment). era p.earlier ≡ era steps) st.is told.1;
      }

  pub new_current : (q : Moment) → IsIn q (chronicle setting history) → IsIn first (upto q)
      → (era (chronicle setting history) + 1 ≡ epoch_in_force (seen_of q.earlier)) ⊎ (era (chronicle setting history) + 1 ≡ staged_epoch (seen_of q.earlier))
      × (window_is_open (seen_of q.earlier) ≡ true)
  new_current q q_in started =
      let k : Known setting steps q = known_since q (behind q_in) (tail_rest started) in
      inr (
        subst (λ (p : Moment). era steps + 1 ≡ staged_epoch (seen_of p.earlier)) (sym k.is) (sym (ap (λ n. n + 1) k.same)),
        subst (λ (p : Moment). window_is_open (seen_of p.earlier) ≡ true) (sym k.is) (states.opened setting k.h k.e k.comes k.commit),
      )

  abbrev plan : Plan
  plan = staged_plan setting (chronicle setting history)

  new_hop : (limit y : ℕ) (hop : Hop) → IsClear setting.net (staged_plan setting (chronicle setting history)) [] y hop
      → IsOpenHop setting (top_of setting history e) (era (chronicle setting history) + 1) first limit
      (staged_plan setting (chronicle setting history)).root hop.parent (end_at y hop)
  new_hop limit y hop clear =
      let follows : follows_over plan hop.parent hop.link y ≡ true = primary_follows plan y hop.parent hop.link hop clear.primary refl refl in
      record {
        follows = follows;
        alone = λ c is. alone setting.net plan (states.fits setting history e comes committed_now)
            (states.rules setting history e comes committed_now) hop.parent hop.link y c follows is;
        known = (clear.within.1, clear.known);
        apart = λ same'. not_both (is_root plan y) (eq-eqb plan.root y (sym same')) clear.other;
        whole = λ q q_in started by. whole_at setting history q (known_since q (behind q_in) (tail_rest started)) y hop clear;
        ready = λ q q_in since by. ready_at setting history q (known_since q (behind q_in) (rest_of since)) y hop clear;
        lasts = λ q q_in since. let k : Known setting steps q = known_since q q_in (rest_of since) in (
          fails_at setting history q k (thing.Device hop.parent),
          fails_at setting history q k (thing.Device y),
          fails_at setting history q k
              (thing.Link hop.link),
        );
      }

  -- the way of the staged plan to one of its members
  pub record NewWay (limit d : ℕ) : Type 0 where
    pub way : List End
    pub last : End
    pub among : Among last way
    pub device : last.device ≡ d
    pub short : length way ≤ setting.net.params.depth
    pub hops : AreOpenHops setting (top_of setting history e) (era steps + 1) first limit plan.root plan.root way

  pub new_way : (limit d : ℕ) → d < length setting.net.devices → is_member (staged_plan setting (chronicle setting history)) d ≡ true
      → is_root (staged_plan setting (chronicle setting history)) d ≡ false → NewWay limit d
  new_way limit d known member other =
      let rules : KeepsRules setting.net plan = states.rules setting history e comes committed_now in
      let clear : Walks plan (IsClear setting.net plan []) d (walk setting.net plan d) =
      clear_walk plan setting.net [] (states.fits setting history e comes committed_now) rules (walk setting.net plan d) d refl known member refl
      (nothing_touches (path setting.net plan d)) in
      let reach : is_root plan (end_of d (walk setting.net plan d)) ≡ true = implied (is_member plan d) _ (rules.reaches d known) member in
      let fine = map_walks plan _ _ (new_hop limit) (walk setting.net plan d) d clear in
      let way : AreOpenHops setting (top_of setting history e) (era steps + 1) first limit plan.root (end_of d (walk setting.net plan d))
      (way_of d (walk setting.net plan d) []) =
      open_ways setting (top_of setting history e) plan (era steps + 1) first limit plan.root d (walk setting.net plan d) [] fine tt in
      go (walk setting.net plan d) (walk_length setting.net plan d) reach
      (subst (λ z. AreOpenHops setting (top_of setting history e) (era steps + 1) first limit plan.root z (way_of d (walk setting.net plan d) []))
      (sym (eqb-true plan.root (end_of d (walk setting.net plan d)) reach)) way)
    where
      short_by : (a b h : ℕ) → a ≡ b + 0 → b ≤ h → a ≤ h
      short_by a b h is le = omega (arith, is, le)

      go : (hs : List Hop) → length hs ≤ setting.net.params.depth → is_root plan (end_of d hs) ≡ true
          → AreOpenHops setting (top_of setting history e) (era steps + 1) first limit plan.root plan.root (way_of d hs []) → NewWay limit d
      go [] short reach way = absurd (not_both (is_root plan d) reach other)
      go (hop ∷ hs) short reach way =
          record {
            way = way_of d (hop ∷ hs) [];
            last = end_at d hop;
            among = begins d hop hs;
            device = refl;
            short = short_by (length (way_of d (hop ∷ hs) [])) (length (hop ∷ hs)) setting.net.params.depth (way_length d (hop ∷ hs) []) short;
            hops = way;
          }
