-- The seven premises, each by itself.
use Rattle.std.specs.Prelude.{◌≡◌, Bool, true, false, ◌&&◌, List, refl}
use Rattle.std.proofs.lemmas.Bool.{and_from}
use Rattle.sd_history.specs.World.{Setting, Seen}
use Rattle.sd_history.specs.Premises.{start_holds, drift_holds, delay_holds, tick_holds, loss_holds, domain_holds, renew_holds, all_hold}

pub record AllHold (setting : Setting) (seen : List Seen) : Type 0 where
  pub start : start_holds seen ≡ true
  pub drift : drift_holds setting seen ≡ true
  pub delay : delay_holds setting seen ≡ true
  pub tick : tick_holds setting seen ≡ true
  pub loss : loss_holds setting seen ≡ true
  pub domain : domain_holds setting seen ≡ true
  pub renew : renew_holds setting seen ≡ true

seven : (a b c d e f g : Bool) → (a && b && c && d && e && f && g) ≡ true
    → (a ≡ true) × (b ≡ true) × (c ≡ true) × (d ≡ true) × (e ≡ true) × (f ≡ true) × (g ≡ true)
seven true true true true true true true h = (refl, refl, refl, refl, refl, refl, refl)
seven true true true true true true false h = cc
seven true true true true true false g h = cc
seven true true true true false f g h = cc
seven true true true false e f g h = cc
seven true true false d e f g h = cc
seven true false c d e f g h = cc
seven false b c d e f g h = cc

all_seven : (a b c d e f g : Bool) → a ≡ true → b ≡ true → c ≡ true → d ≡ true → e ≡ true → f ≡ true → g ≡ true → (a && b && c && d && e && f && g) ≡ true
all_seven true b c d e f g pa pb pc pd pe pf pg =
    and_from (b && c && d && e && f) g (and_from (b && c && d && e) f (and_from (b && c && d) e (and_from (b && c) d (and_from b c pb pc) pd) pe) pf) pg
all_seven false b c d e f g pa pb pc pd pe pf pg = cc

pub premises_of : (setting : Setting) (seen : List Seen) → all_hold setting seen ≡ true → AllHold setting seen
premises_of setting seen all =
    let h = seven (start_holds seen) (drift_holds setting seen) (delay_holds setting seen) (tick_holds setting seen) (loss_holds setting seen)
    (domain_holds setting seen) (renew_holds setting seen) all in
    record { start = h.0; drift = h.1; delay = h.2; tick = h.3; loss = h.4; domain = h.5; renew = h.6 }

pub premises_hold : (setting : Setting) (seen : List Seen) → AllHold setting seen → all_hold setting seen ≡ true
premises_hold setting seen h =
    all_seven (start_holds seen) (drift_holds setting seen) (delay_holds setting seen) (tick_holds setting seen) (loss_holds setting seen)
    (domain_holds setting seen) (renew_holds setting seen)
    h.start h.drift h.delay h.tick h.loss h.domain h.renew
