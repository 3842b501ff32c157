-- The six premises that safety uses, each by itself. And what safety takes of accepted plans, and of histories in which no premise is broken.
use Rattle.std.specs.Prelude.{◌≡◌, Bool, true, ◌&&◌, List}
use Rattle.std.proofs.lemmas.Bool.{and_parts, and_from}
use Rattle.sd_plan.specs.topo.Network.{Network}
use Rattle.sd_plan.specs.declared.Plan.{Plan}
use Rattle.sd_checker.specs.Conditions.{IsAccepted}
use Rattle.sd_sched.specs.declared.Event.{Event}
use Rattle.sd_history.specs.World.{Setting, Seen}
use Rattle.sd_history.specs.Steps.{seen_of}
use Rattle.sd_history.specs.Chronicle.{chronicle}
use Rattle.sd_history.specs.Premises.{drift_holds, delay_holds, tick_holds, loss_holds, domain_holds, renew_holds, all_hold}
use Rattle.sd_history.proofs.Parts as all
use Rattle.sd_history.proofs.Admitted.{history_is_admitted}
use Rattle.sd_safety.specs.invariant.Guarded.{IsGuarded, AreGuarded, all_but_start_hold, IsSteady}
use Rattle.sd_safety.specs.invariant.Coming.{IsFair, IsClean}

pub record AllButStart (setting : Setting) (seen : List Seen) : Type 0 where
  pub drift : drift_holds setting seen ≡ true
  pub delay : delay_holds setting seen ≡ true
  pub tick : tick_holds setting seen ≡ true
  pub loss : loss_holds setting seen ≡ true
  pub domain : domain_holds setting seen ≡ true
  pub renew : renew_holds setting seen ≡ true

six : (a b c d e f : Bool) → (a && b && c && d && e && f) ≡ true
    → (a ≡ true) × (b ≡ true) × (c ≡ true) × (d ≡ true) × (e ≡ true) × (f ≡ true)
six a b c d e f holds =
    let five = and_parts (a && b && c && d && e) f holds in
    let four = and_parts (a && b && c && d) e five.0 in
    let three = and_parts (a && b && c) d four.0 in
    let two = and_parts (a && b) c three.0 in
    let one = and_parts a b two.0 in
    (one.0, one.1, two.1, three.1, four.1, five.1)

all_six : (a b c d e f : Bool) → a ≡ true → b ≡ true → c ≡ true → d ≡ true → e ≡ true → f ≡ true → (a && b && c && d && e && f) ≡ true
all_six a b c d e f pa pb pc pd pe pf =
    and_from (a && b && c && d && e) f
    (and_from (a && b && c && d) e (and_from (a && b && c) d (and_from (a && b) c (and_from a b pa pb) pc) pd) pe) pf

pub premises_of : (setting : Setting) (seen : List Seen) → all_but_start_hold setting seen ≡ true → AllButStart setting seen
premises_of setting seen holds =
    let h = six (drift_holds setting seen) (delay_holds setting seen) (tick_holds setting seen) (loss_holds setting seen) (domain_holds setting seen)
    (renew_holds setting seen) holds in
    record { drift = h.0; delay = h.1; tick = h.2; loss = h.3; domain = h.4; renew = h.5 }

pub premises_hold : (setting : Setting) (seen : List Seen) → AllButStart setting seen → all_but_start_hold setting seen ≡ true
premises_hold setting seen h =
    all_six (drift_holds setting seen) (delay_holds setting seen) (tick_holds setting seen) (loss_holds setting seen) (domain_holds setting seen)
    (renew_holds setting seen)
    h.drift h.delay h.tick h.loss h.domain h.renew

-- all seven premises are more than six
pub all_are_more : (setting : Setting) (seen : List Seen) → all_hold setting seen ≡ true → all_but_start_hold setting seen ≡ true
all_are_more setting seen holds =
    let h = all.premises_of setting seen holds in
    premises_hold setting seen
    (record { drift = h.drift; delay = h.delay; tick = h.tick; loss = h.loss; domain = h.domain; renew = h.renew })

-- an accepted plan is guarded
pub accepted_is_guarded : (net : Network) (plan : Plan) → IsAccepted net plan → IsGuarded net plan
accepted_is_guarded net plan accepted =
    record {
      structure = accepted.structure;
      ancestor = accepted.ancestor;
      timing = accepted.timing;
      root = accepted.root;
      loop = accepted.loop;
    }

-- and so are plans that are all accepted
pub fair_is_guarded : (setting : Setting) → IsFair setting → AreGuarded setting
fair_is_guarded setting fair =
    record {
      network = fair.network;
      some_plan = fair.some_plan;
      fit = fair.fit;
      guarded = λ i plan at. accepted_is_guarded setting.net plan (fair.accepted i plan at);
    }

-- a history in which no premise is broken is steady
pub clean_is_steady : (setting : Setting) (history : List Event) → IsClean setting history → IsSteady setting history
clean_is_steady setting history clean =
    record {
      is = history_is_admitted setting history clean.is;
      premises = all_are_more setting (seen_of (chronicle setting history)) clean.premises;
    }
