-- Where a set of devices hears nothing over its mute links from outside, its devices send nothing; over the primary ones, they do nothing before their
-- waits are over.
use Rattle.std.specs.Prelude.{◌≡◌, ℕ, suc, ◌*◌, ◌<◌, Bool, true, false, List, ◌∷◌, nat_eq, nat_le, Option, Some, None, option_map, refl, if◌then◌else◌}
use Rattle.std.proofs.Common.{sym, ap, ◌∙◌, subst, inl, inr}
use Rattle.std.proofs.lemmas.Bool.{or_parts, eqb-true, eq-eqb}
use Rattle.sd_num.specs.Lists.{map_or}
use Rattle.sd_plan.specs.topo.Network.{Network}
use Rattle.sd_plan.specs.declared.topo.Thing.{Thing}
use Rattle.sd_plan.specs.declared.topo.Thing.TheVariants as thing
use Rattle.sd_plan.specs.declared.domain.DomainId.{DomainId}
use Rattle.sd_plan.specs.declared.Hop.{Hop}
use Rattle.sd_plan.specs.declared.Duty.{Duty}
use Rattle.sd_plan.specs.declared.Edge.{Edge}
use Rattle.sd_plan.specs.declared.Plan.{Plan}
use Rattle.sd_plan.specs.declared.Role.TheVariants.{Ordinary}
use Rattle.sd_plan.specs.Plans.{is_root, is_backup_root, primary_of}
use Rattle.sd_plan.specs.Walks.{ends_walks}
use Rattle.sd_plan.specs.Duties.{duty_of, edge_of, role_of, follows_over}
use Rattle.sd_device.specs.declared.msg.Flight.{Flight}
use Rattle.sd_device.specs.declared.msg.Message.{Message}
use Rattle.sd_device.specs.declared.Effect.TheVariants.{Quiet}
use Rattle.sd_device.specs.Calls.{Started, Call, Tick, Receive, Past, Nothing}
use Rattle.sd_device.specs.Words.{starts_as_root, duty_given, transition_of, after, effect_of, wait_to_move}
use Rattle.sd_sched.specs.declared.Event.{Event}
use Rattle.sd_sched.specs.declared.Event.TheVariants as event
use Rattle.sd_history.specs.World.{Setting, alone}
use Rattle.sd_history.specs.Steps.{Act, Calls, Passes, Step, seen_of, flights, flight_numbered, act_by, tells_nothing, tells_called}
use Rattle.sd_history.specs.Chronicle.{next_step, past_in, past_after, answers_by, told_by}
use Rattle.sd_history.specs.Accepted.{AreSteps}
use Rattle.sd_history.proofs.Among.{Among, either_side}
use Rattle.sd_history.proofs.Given.{some_is}
use Rattle.sd_beside.proofs.needed.Elements.{on_left}
use Rattle.sd_beside.proofs.needed.Worlds.{IsCalm, ticks, receives, is_live, World}
use Rattle.sd_beside.proofs.needed.Air.{Air, IsNew, is_new}
use Rattle.sd_beside.proofs.needed.Still.{Still, ordinary_starts, still_on, sends_nothing, tick_stays, receipt_stays, not_sent}

-- Live devices, and links over which nothing may come to a device: they lead up to such devices wherever what is there is sound.
pub record IsShut (net : Network) (plan : Plan) (down : Thing → Bool) (zone : ℕ → Bool) (mute : ℕ → ℕ → Type 0) : Type 0 where
  pub live : (z : ℕ) → zone z ≡ true → is_live net plan down z ≡ true
  pub above : (x l s : ℕ) → mute x l → follows_over plan s l x ≡ true → down (thing.Link l) ≡ false → is_live net plan down s ≡ true → zone s ≡ true

-- ordinary ones, where the mute links are their primary links at least
pub record IsZone (net : Network) (plan : Plan) (down : Thing → Bool) (zone : ℕ → Bool) (mute : ℕ → ℕ → Type 0) : Type 0 where
  pub shut : IsShut net plan down zone mute
  pub ordinary : (z : ℕ) → zone z ≡ true → ends_walks plan z ≡ false
  pub on_primary : (z : ℕ) (hop : Hop) → zone z ≡ true → primary_of plan z ≡ Some hop → mute z hop.link

-- the device's past, of which this holds
pub record Stands (state : Past → Type 0) (steps : List Step) (z : ℕ) : Type 0 where
  pub past : Past
  pub is : past_in steps z ≡ Some past
  pub still : state past

-- the device has done nothing
abbrev pub IsStill : Network → Plan → List Step → ℕ → Type 0
IsStill net plan steps z = Stands (Still (duty_of net plan 1 z)) steps z

-- each device of the zone is as it should be, and nothing is on its way over a mute link
pub record Hush (zone : ℕ → Bool) (mute : ℕ → ℕ → Type 0) (state : ℕ → Past → Type 0) (steps : List Step) : Type 0 where
  pub still : (z : ℕ) → zone z ≡ true → Stands (state z) steps z
  pub silent : (f : Flight) → Among f (flights steps) → f.reaches ≡ true → mute f.receiver f.link → ⊥

-- the call sends nothing and makes the device so
abbrev pub Silent : (Past → Type 0) → Past → Call → Type 0
Silent state past call = (effect_of past call ≡ Quiet) × state (after past call)

-- How the devices of the zone are, by how often they ticked: before the last multiple of the tick neither a tick makes them send nor a receipt over a
-- link that is not mute.
pub record Idles (tick last : ℕ) (zone : ℕ → Bool) (mute : ℕ → ℕ → Type 0) (state : ℕ → ℕ → Past → Type 0) : Type 0 where
  pub ticks : (i z : ℕ) (past : Past) → suc i < last → zone z ≡ true → state i z past → Silent (state (suc i) z) past (Tick (suc i * tick))
  pub hears : (i z : ℕ) (past : Past) (link : ℕ) (message : Message) (counter : ℕ) → zone z ≡ true → (mute z link → ⊥) → state i z past
      → Silent (state i z) past (Receive link message counter)

-- a device that ends no short walk has the role of others
pub role_is : (net : Network) (plan : Plan) (z : ℕ) → ends_walks plan z ≡ false → role_of plan z ≡ Ordinary
role_is net plan z other =
    let (root, backup) = or_parts (is_root plan z) (is_backup_root plan z) other in
    rw (root, backup) refl

-- the device's wait is not over at this counter
abbrev pub is_over : Network → Plan → ℕ → ℕ → Bool
is_over net plan d counter = map_or (wait_to_move (duty_of net plan 1 d)) false (λ wait. nat_le wait counter)

-- a call that does nothing leaves a still device still
pub stays_silent : (duty : Duty) (past : Past) (call : Call) → Still duty past → transition_of past call ≡ Nothing → duty_given call ≡ None
    → Silent (Still duty) past call
stays_silent duty past call still stays gives = (sends_nothing past call stays, still_on duty past call still stays gives)

-- a receipt over another link than its primary one
pub hears_nothing : (net : Network) (plan : Plan) (z : ℕ) (past : Past) (link : ℕ) (message : Message) (counter : ℕ) (mute : ℕ → ℕ → Type 0)
    → starts_as_root (Started (duty_of net plan 1 z) 0 0 0) ≡ false → ((hop : Hop) → primary_of plan z ≡ Some hop → mute z hop.link)
    → (mute z link → ⊥) → Still (duty_of net plan 1 z) past → Silent (Still (duty_of net plan 1 z)) past (Receive link message counter)
hears_nothing net plan z past link message counter mute other on_primary sounds still =
    stays_silent (duty_of net plan 1 z) past (Receive link message counter) still
    (receipt_stays (duty_of net plan 1 z) past still other link message counter (λ edge is_ same. over (primary_of plan z) refl edge is_ same)) refl
  where
    over : (o : Option Hop) → primary_of plan z ≡ o → (edge : Edge) → option_map (edge_of net z) o ≡ Some edge → edge.link ≡ link → ⊥
    over None primary edge is_ same = cc
    over (Some hop) primary edge is_ same =
        sounds (subst (λ (l : ℕ). mute z l) (ap (λ (x : Edge). x.link) (some_is is_) ∙ same) (on_primary hop primary))

-- the devices of a zone do nothing before their waits are over
pub still_idles : (net : Network) (plan : Plan) (down : Thing → Bool) (zone : ℕ → Bool) (mute : ℕ → ℕ → Type 0) (tick last : ℕ) → IsZone net plan down zone mute
    → ((i d : ℕ) → i < last → zone d ≡ true → is_over net plan d (i * tick) ≡ false)
    → Idles tick last zone mute (λ i z. Still (duty_of net plan 1 z))
still_idles net plan down zone mute tick last is_zone early =
    record {
      ticks = λ i z past less in_ still.
          stays_silent (duty_of net plan 1 z) past (Tick (suc i * tick)) still
          (tick_stays (duty_of net plan 1 z) past still (starts z in_) (suc i * tick) (early (suc i) z less in_)) refl;
      hears = λ i z past link message counter in_ sounds still.
          hears_nothing net plan z past link message counter mute (starts z in_) (λ hop is. is_zone.on_primary z hop in_ is) sounds still;
    }
  where
    starts : (z : ℕ) → zone z ≡ true → starts_as_root (Started (duty_of net plan 1 z) 0 0 0) ≡ false
    starts z in_ = ordinary_starts (duty_of net plan 1 z) (role_is net plan z (is_zone.ordinary z in_))

module _ (net : Network) (plan : Plan) (dom : DomainId) (down : Thing → Bool) (zone : ℕ → Bool) (mute : ℕ → ℕ → Type 0)
    (shut : IsShut net plan down zone mute) (state : ℕ → Past → Type 0) (steps : List Step)
    (t : ℕ) (world : World net plan dom down (seen_of steps) t) (hush : Hush zone mute state steps) where
  abbrev setting : Setting
  setting = alone net plan

  -- a call that sends nothing where it calls one of the zone
  hush_on : (state' : ℕ → Past → Type 0) (e : Event) (r d : ℕ) (call : Call) → IsCalm e r d → act_by setting steps e ≡ Calls d call
      → is_live net plan down d ≡ true
      → ((past : Past) → zone d ≡ true → state d past → Silent (state' d) past call)
      → ((z : ℕ) (past : Past) → zone z ≡ true → nat_eq d z ≡ false → state z past → state' z past)
      → AreSteps setting (next_step setting steps e ∷ steps)
      → Air net plan down (next_step setting steps e ∷ steps) r
      → Hush zone mute state' (next_step setting steps e ∷ steps)
  hush_on state' e r d call calm acts live called others is air =
      record {
        still = λ z in_. still_at z in_ (nat_eq d z) refl;
        silent = λ f a reaches mutes. elim (either_side s.sent (flights steps) a) [
          | inl b ↦ silent_new f b reaches mutes
          | inr b ↦ hush.silent f b reaches mutes
        ];
      }
    where
      s : Step
      s = next_step setting steps e

      -- the past of a device after the call
      past_at : (z : ℕ) (b : Bool) → nat_eq d z ≡ b
          → past_in (next_step setting steps e ∷ steps) z ≡ (if b then option_map (λ past. after past call) (past_in steps z) else past_in steps z)
      past_at z b is_b =
          ap (λ (act : Act). past_after act z (past_in steps z)) acts
          ∙ ap (λ (c : Bool). if c then option_map (λ past. after past call) (past_in steps z) else past_in steps z) is_b

      still_here : zone d ≡ true → Stands (state' d) (next_step setting steps e ∷ steps) d
      still_here in_ =
          let old : Stands (state d) steps d = hush.still d in_ in
          record {
            past = after old.past call;
            is = past_at d true (eq-eqb d d refl) ∙ ap (option_map (λ past. after past call)) old.is;
            still = (called old.past in_ old.still).1;
          }

      still_at : (z : ℕ) → zone z ≡ true → (b : Bool) → nat_eq d z ≡ b → Stands (state' z) (next_step setting steps e ∷ steps) z
      still_at z in_ true same =
          let equal : d ≡ z = eqb-true d z same in
          subst (λ (x : ℕ). Stands (state' x) (next_step setting steps e ∷ steps) x) equal
          (still_here (subst (λ (x : ℕ). zone x ≡ true) (sym equal) in_))
      still_at z in_ false other =
          let old : Stands (state z) steps z = hush.still z in_ in
          record { past = old.past; is = past_at z false other ∙ old.is; still = others z old.past in_ other old.still }

      -- a device of the zone sends nothing
      quiet : zone d ≡ true → (next_step setting steps e).told.effect ≡ Quiet
      quiet in_ =
          let old : Stands (state d) steps d = hush.still d in_ in
          ap (λ (act : Act). (told_by steps act).effect) acts
          ∙ ap (λ (o : Option Past). (map_or o tells_nothing (λ past. tells_called (effect_of past call) (answers_by (after past call)))).effect) old.is
          ∙ (called old.past in_ old.still).0

      silent_new : (f : Flight) → Among f (next_step setting steps e).sent → f.reaches ≡ true → mute f.receiver f.link → ⊥
      silent_new f a reaches mutes =
          let n : IsNew net plan steps (next_step setting steps e) r d f = is_new net plan dom down steps t world e r d f calm is a in
          let sound : down (thing.Link f.link) ≡ false = (air.law f (on_left s.sent (flights steps) f a)).whole reaches in
          not_sent (quiet (shut.above f.receiver f.link d mutes n.follows sound live)) n.sends

  -- a tick
  pub hush_tick : (state' : ℕ → Past → Type 0) (r d : ℕ) → is_live net plan down d ≡ true
      → ((past : Past) → zone d ≡ true → state d past → Silent (state' d) past (Tick r))
      → ((z : ℕ) (past : Past) → zone z ≡ true → nat_eq d z ≡ false → state z past → state' z past)
      → AreSteps setting (next_step setting steps (event.Tick r d r) ∷ steps) → Air net plan down (next_step setting steps (event.Tick r d r) ∷ steps) r
      → Hush zone mute state' (next_step setting steps (event.Tick r d r) ∷ steps)
  hush_tick state' r d live called others is air = hush_on state' (event.Tick r d r) r d (Tick r) ticks refl live called others is air

  -- a receipt
  pub hush_receipt : (f : Flight) → Among f (flights steps) → f.reaches ≡ true → flight_numbered steps f.number ≡ Some f
      → is_live net plan down f.receiver ≡ true
      → ((past : Past) → zone f.receiver ≡ true → (mute f.receiver f.link → ⊥) → state f.receiver past
      → Silent (state f.receiver) past (Receive f.link f.message f.due))
      → AreSteps setting (next_step setting steps (event.Recv f.due f.receiver f.due f.number) ∷ steps)
      → Air net plan down (next_step setting steps (event.Recv f.due f.receiver f.due f.number) ∷ steps) f.due
      → Hush zone mute state (next_step setting steps (event.Recv f.due f.receiver f.due f.number) ∷ steps)
  hush_receipt f a reaches found live hears is air =
      hush_on state (event.Recv f.due f.receiver f.due f.number) f.due f.receiver (Receive f.link f.message f.due) (receives f.number)
      (ap (λ (o : Option Flight). map_or o Passes (λ g. Calls f.receiver (Receive g.link g.message f.due))) found) live
      (λ past in_ at. hears past in_ (λ mutes. hush.silent f a reaches mutes) at) (λ z past in_ other at. at) is air
