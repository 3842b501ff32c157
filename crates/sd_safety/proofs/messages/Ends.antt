-- Whom a device sends to: over each link, the one device that follows it there in the plan in force or in the staged one.
use Rattle.std.specs.Prelude.{◌≡◌, ℕ, ◌<◌, Bool, true, false, List, [], ◌∷◌, length, cond, filter_map, find, nat_eq, Option, Some, None, is_some, option_map, refl, if◌then◌else◌}
use Rattle.std.specs.List.{cons_option}
use Rattle.std.proofs.Common.{arith, sym, ◌∙◌, ap, subst}
use Rattle.std.proofs.lemmas.Bool.{and_from, or_left, or_right, eq-eqb, eqb-true}
use Rattle.sd_num.specs.Lists.{map_or}
use Rattle.sd_plan.specs.topo.Network.{Network, device_numbers, link_numbers}
use Rattle.sd_plan.specs.declared.Hop.{Hop as PlanHop}
use Rattle.sd_plan.specs.declared.Plan.{Plan}
use Rattle.sd_plan.specs.declared.End.{End}
use Rattle.sd_plan.specs.Plans.{primary_of, backup_of}
use Rattle.sd_plan.specs.Duties.{ends_of, follows_over, leads_to}
use Rattle.sd_history.specs.World.{Setting, Seen, window, window_is_open, in_force, epoch_in_force, staged, staged_epoch, plan_numbered}
use Rattle.sd_history.specs.Steps.{Step, seen_of, ends_at}
use Rattle.sd_history.proofs.Among.{Among, first, later}
use Rattle.sd_history.proofs.Shared.{among_below}

found_by : (p : ℕ → Bool) (x d : ℕ) (xs : List ℕ) (b : Bool) → p x ≡ b → Among d (x ∷ xs) → p d ≡ true → (p x ≡ true → x ≡ d)
    → (Among d xs → find p xs ≡ Some d) → cond b (Some x) (find p xs) ≡ Some d
found_by p x d xs true is a holds only rest = ap Some (only is)
found_by p x d xs false is first holds only rest = let clash : true ≡ false = sym holds ∙ is in cc
found_by p x d xs false is (later a) holds only rest = rest a

pub find_only : (p : ℕ → Bool) (xs : List ℕ) (d : ℕ) → Among d xs → p d ≡ true → ((c : ℕ) → p c ≡ true → c ≡ d) → find p xs ≡ Some d
find_only p [] d a holds only = elim a [ ]
find_only p (x ∷ xs) d a holds only = found_by p x d xs (p x) refl a holds (only x) (λ b. find_only p xs d b holds only)

behind_option : {B : Type 0} (o : Option B) (y : B) (ys : List B) → Among y ys → Among y (cons_option o ys)
behind_option None y ys a = a
behind_option (Some z) y ys a = later a

pub filter_mapped : {A B : Type 0} (f : A → Option B) (x : A) (y : B) (xs : List A) → Among x xs → f x ≡ Some y → Among y (filter_map f xs)
filter_mapped f x y xs (first {xs = zs}) is = subst (λ o. Among y (cons_option o (filter_map f zs))) (sym is) first
filter_mapped f x y xs (later {y = z} {xs = zs} a) is = behind_option (f z) y (filter_map f zs) (filter_mapped f x y zs a is)

leads : (x l : ℕ) (o : Option PlanHop) (hop : PlanHop) → o ≡ Some hop → hop.parent ≡ x → hop.link ≡ l → leads_to x l o ≡ true
leads x l o hop is parent link = ap (leads_to x l) is ∙ and_from (nat_eq hop.parent x) (nat_eq hop.link l) (eq-eqb hop.parent x parent) (eq-eqb hop.link l link)

pub primary_follows : (plan : Plan) (d x l : ℕ) (hop : PlanHop) → primary_of plan d ≡ Some hop → hop.parent ≡ x → hop.link ≡ l → follows_over plan x l d ≡ true
primary_follows plan d x l hop is parent link =
    or_left (leads_to x l (primary_of plan d)) (leads_to x l (backup_of plan d)) (leads x l (primary_of plan d) hop is parent link)

pub backup_follows : (plan : Plan) (d x l : ℕ) (hop : PlanHop) → backup_of plan d ≡ Some hop → hop.parent ≡ x → hop.link ≡ l → follows_over plan x l d ≡ true
backup_follows plan d x l hop is parent link =
    or_right (leads_to x l (primary_of plan d)) (leads_to x l (backup_of plan d)) (leads x l (backup_of plan d) hop is parent link)

-- the only device that follows another over a link is one of its ends
pub ends_has : (net : Network) (plan : Plan) (x : ℕ) (e : End) → e.link < length net.links → e.device < length net.devices
    → follows_over plan x e.link e.device ≡ true → ((c : ℕ) → follows_over plan x e.link c ≡ true → c ≡ e.device)
    → Among e (ends_of net plan x)
ends_has net plan x e link device follows only =
    filter_mapped (λ l. option_map (λ c. record { link = l; device = c }) (find (follows_over plan x l) (device_numbers net))) e.link e (link_numbers net)
    (among_below (length net.links) e.link link)
    (ap (option_map (λ c. record { link = e.link; device = c }))
    (find_only (follows_over plan x e.link) (device_numbers net) e.device (among_below (length net.devices) e.device device) follows only))

-- the ends of the plan in force
pub ends_in_force : (setting : Setting) (steps : List Step) (epoch x : ℕ) (e : End) → epoch ≡ epoch_in_force (seen_of steps)
    → Among e (ends_of setting.net (plan_numbered setting epoch) x) → Among e (ends_at setting steps epoch x)
ends_in_force setting steps epoch x e is a =
    subst (λ o. Among e (map_or o [] (λ plan. ends_of setting.net plan x)))
    (sym (ap (λ b. if b then Some (in_force setting (seen_of steps)) else if nat_eq epoch (staged_epoch (seen_of steps)) then staged setting
    (seen_of steps) else None) (eq-eqb epoch (epoch_in_force (seen_of steps)) is)))
    (subst (λ n. Among e (ends_of setting.net (plan_numbered setting n) x)) is a)

staged_by : (setting : Setting) (steps : List Step) (o : Option (List Seen)) → is_some o ≡ true
    → option_map (λ w. plan_numbered setting (staged_epoch (seen_of steps))) o ≡ Some (plan_numbered setting (staged_epoch (seen_of steps)))
staged_by setting steps None open_ = cc
staged_by setting steps (Some w) open_ = refl

-- and of the staged plan
pub ends_staged : (setting : Setting) (steps : List Step) (epoch x : ℕ) (e : End) → epoch ≡ staged_epoch (seen_of steps) → window_is_open (seen_of steps) ≡ true
    → Among e (ends_of setting.net (plan_numbered setting epoch) x)
    → Among e (ends_at setting steps epoch x)
ends_staged setting steps epoch x e is open_ a =
    subst (λ o. Among e (map_or o [] (λ plan. ends_of setting.net plan x))) (sym (apart (nat_eq epoch (epoch_in_force (seen_of steps))) refl))
    (subst (λ n. Among e (ends_of setting.net (plan_numbered setting n) x)) is a)
  where
    apart : (b : Bool) → nat_eq epoch (epoch_in_force (seen_of steps)) ≡ b
        → (if b then Some (in_force setting (seen_of steps)) else if nat_eq epoch (staged_epoch (seen_of steps)) then staged setting (seen_of steps) else None)
        ≡ Some (plan_numbered setting (staged_epoch (seen_of steps)))
    apart true same = let equal = eqb-true epoch (epoch_in_force (seen_of steps)) same in absurd (omega (arith, equal, is))
    apart false same =
        ap (λ b. if b then staged setting (seen_of steps) else None) (eq-eqb epoch (staged_epoch (seen_of steps)) is)
        ∙ staged_by setting steps (window (seen_of steps)) open_
