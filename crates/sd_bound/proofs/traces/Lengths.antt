-- How many hops the trace of a round has that came once nothing failed any more: up to the first of the two roots its hops are a walk of the plan, and from the
-- backup root it goes up that one's path or its fallback.
use Rattle.std.specs.Prelude.{◌≡◌, ℕ, zero, suc, ◌+◌, ◌*◌, ◌<◌, ◌≤◌, Bool, true, false, ◌||◌, not, List, [], ◌∷◌, ◌++◌, length, map, nat_eq, Option, Some, None, option_to_list, refl, ◌⊎◌, if◌then◌else◌}
use Rattle.std.specs.List.{list_any, list_all}
use Rattle.std.proofs.Common.{arith, ap, sym, ◌∙◌, subst, inl, inr}
use Rattle.std.proofs.Math.Nat.{mul-le-mul_right}
use Rattle.std.proofs.lemmas.Bool.{and_from, or_left, or_right, or_from, eq-eqb, eqb-true, false_from_ne_true, cases_lt}
use Rattle.sd_num.specs.Lists.{has}
use Rattle.sd_plan.specs.topo.Network.{Network}
use Rattle.sd_plan.specs.declared.topo.Thing.TheVariants as thing
use Rattle.sd_plan.specs.domain.Domains.{holds}
use Rattle.sd_plan.specs.declared.domain.DomainId.{DomainId}
use Rattle.sd_plan.specs.declared.Hop.{Hop}
use Rattle.sd_plan.specs.declared.Plan.{Plan}
use Rattle.sd_plan.specs.Plans.{is_member, is_root, is_backup_root, primary_of, backup_of}
use Rattle.sd_plan.specs.Walks.{walk, epath, ends_walks, is_hit, devices_of}
use Rattle.sd_plan.proofs.Forest.{IsStep, IsForest, forest_of}
use Rattle.sd_checker.specs.check_loop.Loops.{hops_of, same_hop, is_walk}
use Rattle.sd_checker.proofs.Exclusive.{same_self}
use Rattle.sd_device.specs.declared.msg.Stamp.{Stamp}
use Rattle.sd_sched.specs.declared.Event.{Event}
use Rattle.sd_history.specs.World.{Setting, plan_numbered}
use Rattle.sd_history.specs.Steps.{Step, acts_in}
use Rattle.sd_history.specs.Chronicle.{chronicle}
use Rattle.sd_safety.specs.invariant.Bounds.{depth, delay}
use Rattle.sd_safety.specs.invariant.Eras.{is_among, failed_now, moved}
use Rattle.sd_safety.proofs.invariant.Domains.{touched_is_hit}
use Rattle.sd_safety.proofs.invariant.Facts.{IsSound}
use Rattle.sd_safety.proofs.invariant.Sides.{not_both}
use Rattle.sd_safety.specs.messages.Moments.{Tail, whole, behind, Moment, when, IsIn}
use Rattle.sd_safety.specs.messages.Traces.{Hop as TraceHop, Trace, begins, goes_on, stands, hops_on}
use Rattle.sd_safety.proofs.messages.Chains.{chain_time}
use Rattle.sd_safety.proofs.messages.Tails.{tail_trans, rest_of}
use Rattle.sd_safety.proofs.messages.Flowing.{tail_rest}
use Rattle.sd_safety.proofs.silences.FallbackWay.{on_fallback}
use Rattle.sd_safety.proofs.silences.WalkWays.{walk_length}
use Rattle.sd_bound.specs.timeouts.Settled.{the_plan, IsSettled, IsSoundMember, Scene, IsOnward, hop_on}
use Rattle.sd_bound.proofs.timeouts.Settled.{all_chronicle, not_after}
use Rattle.sd_bound.proofs.timeouts.Scenes.{scene_at}
use Rattle.sd_bound.proofs.timeouts.Onward.{onward_at}
use Rattle.sd_bound.specs.traces.Led.{IsWithin}
use Rattle.sd_bound.proofs.traces.Receipts.{Came, came, fine_at}

-- Walks

pub any_right : (p : Hop → Bool) (xs ys : List Hop) → list_any p ys ≡ true → list_any p (xs ++ ys) ≡ true
any_right p [] ys is = is
any_right p (x ∷ xs) ys is = or_right (p x) (list_any p (xs ++ ys)) (any_right p xs ys is)

listed_first : (hop : Hop) (o : Option Hop) (ys : List Hop) → o ≡ Some hop → list_any (same_hop hop) (option_to_list o ++ ys) ≡ true
listed_first hop None ys is = cc
listed_first hop (Some h) ys is =
    subst (λ z. list_any (same_hop hop) (z ∷ ys) ≡ true) (sym (some_same is)) (or_left (same_hop hop hop) (list_any (same_hop hop) ys) (same_self hop))
  where
    some_same : Some h ≡ Some hop → h ≡ hop
    some_same same = ap (λ (k : Option Hop). elim k [ None ↦ hop | Some z ↦ z ]) same

listed_last : (hop : Hop) (o : Option Hop) → o ≡ Some hop → list_any (same_hop hop) (option_to_list o) ≡ true
listed_last hop None is = cc
listed_last hop (Some h) is =
    or_left (same_hop hop h) false (ap (same_hop hop) (ap (λ (k : Option Hop). elim k [ None ↦ hop | Some z ↦ z ]) is) ∙ same_self hop)

-- the hop on which a device is, where it is hit if it has moved, is one of its hops
pub allowed : (net : Network) (plan : Plan) (f : DomainId) (y : ℕ) (put : Bool) (hop : Hop) → is_member plan y ≡ true → is_root plan y ≡ false
    → is_backup_root plan y ≡ false → hop_on plan put y ≡ Some hop → (put ≡ true → is_hit net plan f y ≡ true)
    → list_any (same_hop hop) (hops_of net plan f y) ≡ true
allowed net plan f y put hop member root backup is caused =
    subst (λ b. list_any (same_hop hop) (if b then option_to_list (primary_of plan y)
    ++ (if is_hit net plan f y then option_to_list (backup_of plan y) else []) else []) ≡ true)
    (sym (and_from (is_member plan y) (not (ends_walks plan y)) member (ap not (or_from (is_root plan y) (is_backup_root plan y) root backup)))) (by put is caused)
  where
    by : (b : Bool) → hop_on plan b y ≡ Some hop → (b ≡ true → is_hit net plan f y ≡ true)
        → list_any (same_hop hop) (option_to_list (primary_of plan y) ++ (if is_hit net plan f y then option_to_list (backup_of plan y) else [])) ≡ true
    by false is' caused' = listed_first hop (primary_of plan y) (if is_hit net plan f y then option_to_list (backup_of plan y) else []) is'
    by true is' caused' =
        any_right (same_hop hop) (option_to_list (primary_of plan y)) (if is_hit net plan f y then option_to_list (backup_of plan y) else [])
        (subst (λ b. list_any (same_hop hop) (if b then option_to_list (backup_of plan y) else []) ≡ true) (sym (caused' refl))
        (listed_last hop (backup_of plan y) is'))

-- walks from where a hop leads are shorter
pub record Shorter (setting : Setting) (epoch : ℕ) (f : DomainId) (z k : ℕ) : Type 0 where
  pub rest : ℕ
  pub is : k ≡ suc rest
  pub within : IsWithin setting epoch f z rest

pub shorter : (setting : Setting) (epoch : ℕ) (f : DomainId) (y k : ℕ) (hop : Hop) → IsWithin setting epoch f y k
    → list_any (same_hop hop) (hops_of setting.net (the_plan setting epoch) f y) ≡ true → Shorter setting epoch f hop.parent k
shorter setting epoch f y k hop within on = by k refl
  where
    one_more : (hs : List Hop) → is_walk setting.net (the_plan setting epoch) f hop.parent hs ≡ true → suc (length hs) ≤ k
    one_more hs walked =
        within (hop ∷ hs)
        (and_from (list_any (same_hop hop) (hops_of setting.net (the_plan setting epoch) f y)) (is_walk setting.net (the_plan setting epoch) f hop.parent hs) on walked)

    less : (n j : ℕ) → suc n ≤ k → k ≡ suc j → n ≤ j
    less n j le is = omega (arith, le, is)

    never : (n : ℕ) → suc n ≤ k → k ≡ zero → ⊥
    never n le is = omega (arith, le, is)

    by : (j : ℕ) → k ≡ j → Shorter setting epoch f hop.parent k
    by zero is = absurd (never 0 (one_more [] refl) is)
    by (suc j) is = record { rest = j; is = is; within = λ hs walked. less (length hs) j (one_more hs walked) is }

module _ (setting : Setting) (epoch : ℕ) (history : List Event) (e : Event) (calm : ℕ) (settled : IsSettled setting epoch history e calm) where
  abbrev plan : Plan
  plan = plan_numbered setting epoch

  scene_in : (q : Moment) → IsIn q (chronicle setting (e ∷ history)) → calm < when q → Scene setting epoch (failed_now (chronicle setting history)) q
  scene_in q here late = scene_at setting epoch history e calm settled q here late

  -- who has moved later had not moved before where it has not moved now
  moved_later : (q : Moment) → calm < when q → (z : ℕ) → IsSoundMember setting epoch (failed_now (chronicle setting history)) z → moved q.earlier z ≡ true
      → (s : Step) (steps : List Step) → IsIn (record { step = s; earlier = steps }) (chronicle setting (e ∷ history))
      → IsIn q (chronicle setting (e ∷ history))
      → Tail q.earlier steps → moved steps z ≡ true
  moved_later q late z well put s _ here q_in whole = put
  moved_later q late z well put s _ here q_in (behind {x = s'} {xs = xs} t) =
      let r : Moment = record { step = s'; earlier = xs } in
      let r_in : IsIn r (chronicle setting history) = tail_rest here in
      let goes : when q ≤ when r =
      not_after setting (chronicle setting (e ∷ history)) q r (all_chronicle setting epoch history e calm settled) q_in (behind r_in) t in
      let on : IsOnward setting epoch r z = onward_at setting epoch history e calm settled r r_in (omega (arith, late, goes)) z well in
      on.moved_on (moved_later q late z well put s' xs (behind r_in) q_in t)

  pub unmoved_before : (q r : Moment) → IsIn q (chronicle setting (e ∷ history)) → IsIn r (chronicle setting (e ∷ history)) → calm < when q
      → Tail q.earlier r.earlier → (z : ℕ) → IsSoundMember setting epoch (failed_now (chronicle setting history)) z
      → moved r.earlier z ≡ false → moved q.earlier z ≡ false
  unmoved_before q r q_in r_in late t z well unmoved =
      false_from_ne_true (moved q.earlier z) (λ put. not_both (moved r.earlier z) (moved_later q late z well put r.step r.earlier r_in q_in t) unmoved)

  -- who takes a round is not the root
  not_root : (to : Moment) (x d : ℕ) → IsIn to (chronicle setting (e ∷ history)) → calm < when to → Came setting epoch (failed_now (chronicle setting history)) to x d
      → is_root (the_plan setting epoch) d ≡ false
  not_root to x d to_in late c =
      false_from_ne_true (is_root plan d)
      (λ is.
      let same : plan.root ≡ d = eqb-true plan.root d is in
      not_both (acts_in to.earlier d)
      (subst (λ z. acts_in to.earlier z ≡ true) same
      ((scene_in to to_in late).root (subst (λ z. is_among (failed_now (chronicle setting history)) (thing.Device z) ≡ false) (sym same) c.well.self)))
      c.still)

  -- a hop takes no longer than the greatest delay
  hop_time : (stamp : Stamp) (from to : Moment) (x d : ℕ) → TraceHop setting stamp epoch from x to d → when to ≤ when from + delay setting.net
  hop_time stamp from to x d hop = one (when to) (when from) (delay setting.net) (chain_time setting stamp epoch from x 1 to d (hops_on stands hop))
    where
      one : (a b c : ℕ) → a ≤ b + 1 * c → a ≤ b + c
      one a b c le = omega (arith, le)

  -- the trace came once nothing failed any more, over this many hops at most, or its end comes soon after the failures
  abbrev pub Outcome : Moment → Moment → ℕ → ℕ → Type 0
  Outcome first to m bound = (calm < when first) × (m ≤ bound) ⊎ (when to ≤ calm + (bound + 1) * delay setting.net)

  at_first : (f t d b : ℕ) → t ≤ f + d → f ≤ calm → t ≤ calm + (b + 1) * d
  at_first f t d b one two = omega (arith, one, two)

  one_later : (f t d a b : ℕ) → b ≡ suc a → t ≤ f + d → f ≤ calm + (a + 1) * d → t ≤ calm + (b + 1) * d
  one_later f t d a b is one two = rw (is) (omega (arith, one, two))

  wider : (t d a b : ℕ) → a ≤ b → t ≤ calm + (a + 1) * d → t ≤ calm + (b + 1) * d
  wider t d a b le one = let part : (a + 1) * d ≤ (b + 1) * d = mul-le-mul_right d (omega (arith, le)) in omega (arith, part, one)

  longer : (first from to : Moment) (m a b : ℕ) → b ≡ suc a → when to ≤ when from + delay setting.net → Outcome first from m a → Outcome first to (suc m) b
  longer first from to m a b is goes (inl both) = inl (both.0, more both.1)
    where
      more : m ≤ a → suc m ≤ b
      more le = omega (arith, is, le)
  longer first from to m a b is goes (inr soon) = inr (one_later (when from) (when to) (delay setting.net) a b is goes soon)

  weaker : (first to : Moment) (m a b : ℕ) → a ≤ b → Outcome first to m a → Outcome first to m b
  weaker first to m a b le (inl both) = inl (both.0, more both.1)
    where
      more : m ≤ a → m ≤ b
      more short = omega (arith, le, short)
  weaker first to m a b le (inr soon) = inr (wider (when to) (delay setting.net) a b le soon)

  -- a hop that was sent once nothing failed any more
  record LateHop (from to : Moment) (x d : ℕ) : Type 0 where
    from_in : IsIn from (chronicle setting (e ∷ history))
    from_late : calm < when from
    goes : when to ≤ when from + delay setting.net
    below_ : Tail from.earlier to.earlier
    came_ : Came setting epoch (failed_now (chronicle setting history)) to x d
    other : is_root (the_plan setting epoch) d ≡ false

  late_hop : (stamp : Stamp) (from to : Moment) (x d : ℕ) → IsIn to (chronicle setting (e ∷ history)) → calm < when to → TraceHop setting stamp epoch from x to d
      → calm < when from → LateHop from to x d
  late_hop stamp from to x d to_in to_late hop from_late =
      let c : Came setting epoch (failed_now (chronicle setting history)) to x d = came setting epoch history e calm settled stamp from to x d to_in from_late hop in
      record {
        from_in = tail_trans hop.before (rest_of to_in);
        from_late = from_late;
        goes = hop_time stamp from to x d hop;
        below_ = tail_trans (behind whole) hop.before;
        came_ = c;
        other = not_root to x d to_in to_late c;
      }

  -- by whether the last hop was
  by_hop : (first from to : Moment) (stamp : Stamp) (x d m bound : ℕ) → IsIn to (chronicle setting (e ∷ history)) → calm < when to
      → TraceHop setting stamp epoch from x to d → (LateHop from to x d → Outcome first to m bound) → Outcome first to m bound
  by_hop first from to stamp x d m bound to_in to_late hop more = go (cases_lt calm (when from))
    where
      go : (calm < when from) ⊎ (when from ≤ calm) → Outcome first to m bound
      go (inl late) = more (late_hop stamp from to x d to_in to_late hop late)
      go (inr le) = inr (at_first (when from) (when to) (delay setting.net) bound (hop_time stamp from to x d hop) le)

  -- where no device of a walk has moved, the trace goes up the walk
  walk_down : {stamp : Stamp} {first : Moment} {source m : ℕ} {to : Moment} {y : ℕ} → (trace : Trace setting stamp epoch first source m to y)
      → IsIn to (chronicle setting (e ∷ history)) → calm < when to → (hs : List Hop) → walk setting.net (the_plan setting epoch) y ≡ hs
      → ((z : ℕ) → has (devices_of y hs) z ≡ true → is_root (the_plan setting epoch) z ≡ false → IsSoundMember setting epoch (failed_now (chronicle setting history)) z
      → moved to.earlier z ≡ false) → Outcome first to m (length hs)
  walk_down (begins message emits carries epoch_is) to_in to_late hs is unmoved = inl (to_late, omega arith)
  walk_down {stamp} {first} (goes_on {m = m} {from = from} {x = x} {to = to} {d = y} trace hop) to_in to_late hs is unmoved =
      by_hop first from to stamp x y (suc m) (length hs) to_in to_late hop
      (λ late_. onward_ late_ (λ l is' unmoved'. walk_down trace late_.from_in late_.from_late l is' unmoved'))
    where
      onward_ : LateHop from to x y
          → ((l : List Hop) → walk setting.net (the_plan setting epoch) x ≡ l
          → ((z : ℕ) → has (devices_of x l) z ≡ true → is_root (the_plan setting epoch) z ≡ false → IsSoundMember setting epoch (failed_now (chronicle setting history)) z
          → moved from.earlier z ≡ false) → Outcome first from m (length l))
          → Outcome first to (suc m) (length hs)
      onward_ late_ again =
          let c : Came setting epoch (failed_now (chronicle setting history)) to x y = late_.came_ in
          let here : moved to.earlier y ≡ false = unmoved y (or_left (nat_eq y y) _ (eq-eqb y y refl)) late_.other c.well in
          let fine : IsSound setting.net plan = fine_at setting epoch history e calm settled to to_in to_late in
          let forest : IsForest setting.net plan = forest_of setting.net plan fine.fits fine.guarded.structure in
          let primary : primary_of plan y ≡ Some c.hop = subst (λ b. hop_on plan b y ≡ Some c.hop) here c.is in
          let up : IsStep setting.net plan y c.hop = forest.up y c.hop c.well.known primary in
          longer first from to m (length (walk setting.net plan c.hop.parent)) (length hs) (ap length (sym is ∙ up.walk)) late_.goes
          (again (walk setting.net plan c.hop.parent) (ap (walk setting.net plan) (sym c.parent))
          (λ z on root well. unmoved_before from to late_.from_in to_in late_.from_late late_.below_ z well
          (unmoved z
          (subst (λ l. has (devices_of y l) z ≡ true) (sym up.walk ∙ is)
          (or_right (nat_eq z y) (has (devices_of c.hop.parent (walk setting.net plan c.hop.parent)) z)
          (subst (λ k. has (devices_of k (walk setting.net plan c.hop.parent)) z ≡ true) (sym c.parent) on)))
          root well)))

  -- to the backup root
  to_backup_root : {stamp : Stamp} {first : Moment} {source m : ℕ} {to : Moment} {b : ℕ} → (trace : Trace setting stamp epoch first source m to b)
      → IsIn to (chronicle setting (e ∷ history)) → calm < when to → b ≡ (the_plan setting epoch).backup_root
      → Outcome first to m (depth setting.net + 1)
  to_backup_root (begins message emits carries epoch_is) to_in to_late same = inl (to_late, omega arith)
  to_backup_root {stamp} {first} (goes_on {m = m} {from = from} {x = x} {to = to} {d = b} trace hop) to_in to_late same =
      by_hop first from to stamp x b (suc m) (depth setting.net + 1) to_in to_late hop (λ late_. by late_ (moved to.earlier b) refl)
    where
      next : (n : ℕ) → n + 1 ≡ suc n
      next n = omega arith

      short : (n k : ℕ) → n ≤ k → n ≤ k + 1
      short n k le = omega (arith, le)

      on_path : (z : ℕ) (e : Bool) → nat_eq z b ≡ e → (e || has (map (λ (h : Hop). h.parent) (walk setting.net plan b)) z) ≡ true → moved to.earlier b ≡ false
          → (has (map (λ (h : Hop). h.parent) (walk setting.net plan b)) z ≡ true → moved to.earlier z ≡ false) → moved to.earlier z ≡ false
      on_path z true is on unmoved rest = subst (λ k. moved to.earlier k ≡ false) (sym (eqb-true z b is)) unmoved
      on_path z false is on unmoved rest = rest on

      by : LateHop from to x b → (put : Bool) → moved to.earlier b ≡ put → Outcome first to (suc m) (depth setting.net + 1)
      by late_ false unmoved =
          let c : Came setting epoch (failed_now (chronicle setting history)) to x b = late_.came_ in
          let sc : Scene setting epoch (failed_now (chronicle setting history)) to = scene_in to to_in to_late in
          let well_b : IsSoundMember setting epoch (failed_now (chronicle setting history)) plan.backup_root =
          subst (λ z. IsSoundMember setting epoch (failed_now (chronicle setting history)) z) same c.well in
          weaker first to (suc m) (length (walk setting.net plan b)) (depth setting.net + 1)
          (short (length (walk setting.net plan b)) (depth setting.net) (walk_length setting.net plan b))
          (walk_down (goes_on trace hop) to_in to_late (walk setting.net plan b) refl
          (λ z on root well. on_path z (nat_eq z b) refl on unmoved
          (λ above_. sc.path well_b (subst (λ k. moved to.earlier k ≡ false) same unmoved) (subst (λ k. acts_in to.earlier k ≡ false) same c.still) z
          (subst (λ k. has (map (λ (h : Hop). h.parent) (walk setting.net plan k)) z ≡ true) same above_) root well)))
      by late_ true put =
          let c : Came setting epoch (failed_now (chronicle setting history)) to x b = late_.came_ in
          let sc : Scene setting epoch (failed_now (chronicle setting history)) to = scene_in to to_in to_late in
          let well_b : IsSoundMember setting epoch (failed_now (chronicle setting history)) plan.backup_root =
          subst (λ z. IsSoundMember setting epoch (failed_now (chronicle setting history)) z) same c.well in
          let backup : backup_of plan plan.backup_root ≡ Some c.hop =
          subst (λ z. backup_of plan z ≡ Some c.hop) same (subst (λ p. hop_on plan p b ≡ Some c.hop) put c.is) in
          longer first from to m (depth setting.net) (depth setting.net + 1) (next (depth setting.net)) late_.goes
          (weaker first from m (length (walk setting.net plan x)) (depth setting.net) (walk_length setting.net plan x)
          (walk_down trace late_.from_in late_.from_late (walk setting.net plan x) refl
          (λ z on root well. unmoved_before from to late_.from_in to_in late_.from_late late_.below_ z well
          (sc.stays well_b (subst (λ k. moved to.earlier k ≡ true) same put) (subst (λ k. acts_in to.earlier k ≡ false) same c.still) z
          (on_fallback setting.net plan c.hop z backup (subst (λ k. has (devices_of k (walk setting.net plan k)) z ≡ true) (sym c.parent) on) root) well))))

  -- to any device
  pub trace_short : {stamp : Stamp} {first : Moment} {source m : ℕ} {to : Moment} {d : ℕ} (f : DomainId)
      → list_all (holds setting.net f) (failed_now (chronicle setting history)) ≡ true → (trace : Trace setting stamp epoch first source m to d)
      → IsIn to (chronicle setting (e ∷ history)) → calm < when to
      → (k : ℕ) → IsWithin setting epoch f d k → Outcome first to m (k + (depth setting.net + 1))
  trace_short f inside (begins message emits carries epoch_is) to_in to_late k within = inl (to_late, omega arith)
  trace_short {stamp} {first} f inside (goes_on {m = m} {from = from} {x = x} {to = to} {d = d} trace hop) to_in to_late k within =
      by_hop first from to stamp x d (suc m) (k + (depth setting.net + 1)) to_in to_late hop
      (λ late_. by late_ (λ j within_x. trace_short f inside trace late_.from_in late_.from_late j within_x) (is_backup_root plan d) refl)
    where
      less : (a b : ℕ) → b ≤ a + b
      less a b = omega arith

      next : (j n : ℕ) → k ≡ suc j → k + n ≡ suc (j + n)
      next j n is = omega (arith, is)

      by : LateHop from to x d → ((j : ℕ) → IsWithin setting epoch f x j → Outcome first from m (j + (depth setting.net + 1))) → (b : Bool)
          → is_backup_root plan d ≡ b → Outcome first to (suc m) (k + (depth setting.net + 1))
      by late_ again true is =
          weaker first to (suc m) (depth setting.net + 1) (k + (depth setting.net + 1)) (less k (depth setting.net + 1))
          (to_backup_root (goes_on trace hop) to_in to_late (sym (eqb-true plan.backup_root d is)))
      by late_ again false is =
          let c : Came setting epoch (failed_now (chronicle setting history)) to x d = late_.came_ in
          let s : Shorter setting epoch f c.hop.parent k =
          shorter setting epoch f d k c.hop within
          (allowed setting.net plan f d (moved to.earlier d) c.hop c.well.member late_.other is c.is
          (λ put. touched_is_hit setting.net f (failed_now (chronicle setting history)) (epath setting.net plan d) inside
          ((scene_in to to_in to_late).hit d c.well (late_.other, is) put))) in
          longer first from to m (s.rest + (depth setting.net + 1)) (k + (depth setting.net + 1)) (next s.rest (depth setting.net + 1) s.is) late_.goes
          (again s.rest (subst (λ z. IsWithin setting epoch f z s.rest) c.parent s.within))
