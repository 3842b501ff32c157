-- What a monitor keeps stands for an event more that it is not shown, since the event changes nothing of what it keeps.
use Rattle.std.proofs.Common.{◌≡◌, ℕ, ◌<◌, Bool, true, false, ◌&&◌, List, ◌∷◌, length, Option, None, refl, sym, ap, ◌∙◌, subst}
use Rattle.sd_plan.specs.declared.topo.Thing.{Thing}
use Rattle.sd_sched.specs.declared.Event.{Event}
use Rattle.sd_sched.specs.declared.Event.TheVariants.{Tick, Recv}
use Rattle.sd_history.specs.Things.{failure_of}
use Rattle.sd_history.specs.World.{Setting, Seen}
use Rattle.sd_history.specs.Open.{may_be_seen}
use Rattle.sd_monitors.specs.clocks.Kinds.{IsTick, IsReceipt}
use Rattle.sd_monitors.specs.renewal.Domains.{DomainKept, with_failure, if_closed, DomainStands}
use Rattle.sd_monitors.specs.renewal.Judging.{is_orderly}
use Rattle.sd_monitors.specs.renewal.Progressing.{progress_after}
use Rattle.sd_monitors.specs.renewal.Renewals.{RenewalKept, RenewalStands}
use Rattle.sd_monitors.proofs.renewal.Failing.{domain_stands}
use Rattle.sd_monitors.proofs.renewal.Orderly.{renewal_stands}

-- an event that fails nothing and closes no window
pub domain_skips : (setting : Setting) (kept : DomainKept) (s : Seen) (earlier : List Seen) → failure_of s.event ≡ None → s.closed ≡ false
    → 0 < length setting.net.devices → DomainStands setting kept earlier → DomainStands setting kept (s ∷ earlier)
domain_skips setting kept s earlier whole stays some stands =
    subst (λ (k : DomainKept). DomainStands setting k (s ∷ earlier))
    (ap (λ (b : Bool). if_closed b (with_failure setting.net (failure_of s.event) kept)) stays
    ∙ ap (λ (o : Option Thing). with_failure setting.net o kept) whole)
    (domain_stands setting kept s earlier some stands)

-- an event with which no device enters the staged plan, and of which the premise on renewals says nothing
renewal_skips : (setting : Setting) (kept : RenewalKept) (s : Seen) (earlier : List Seen) (e : Event) → s.event ≡ e → s.activated ≡ None
    → progress_after (record s { event = e; activated = None }) kept.progress ≡ kept.progress
    → is_orderly setting (record s { event = e; activated = None }) earlier ≡ true
    → may_be_seen setting earlier s.event ≡ true → RenewalStands setting kept earlier → RenewalStands setting kept (s ∷ earlier)
renewal_skips setting kept s earlier e is none same orderly may stands =
    renewal_stands setting kept s earlier true kept may stands (and_true kept.holds) (λ held. sym (ap (λ (x : Seen). is_orderly setting x earlier) here ∙ orderly))
    (sym (ap (λ (x : Seen). progress_after x kept.progress) here ∙ same))
  where
    and_true : (b : Bool) → b ≡ (b && true)
    and_true true = refl
    and_true false = refl

    here : s ≡ record s { event = e; activated = None }
    here = λ i. record s { event = is i; activated = none i }

pub renewal_skips_tick : (setting : Setting) (kept : RenewalKept) (s : Seen) (earlier : List Seen) (t d c : ℕ) → IsTick s t d c → s.activated ≡ None
    → may_be_seen setting earlier s.event ≡ true → RenewalStands setting kept earlier → RenewalStands setting kept (s ∷ earlier)
renewal_skips_tick setting kept s earlier t d c is none = renewal_skips setting kept s earlier (Tick t d c) is.event none refl refl

pub renewal_skips_receipt : (setting : Setting) (kept : RenewalKept) (s : Seen) (earlier : List Seen) (t d c n : ℕ) → IsReceipt s t d c n
    → s.activated ≡ None → may_be_seen setting earlier s.event ≡ true → RenewalStands setting kept earlier → RenewalStands setting kept (s ∷ earlier)
renewal_skips_receipt setting kept s earlier t d c n is none = renewal_skips setting kept s earlier (Recv t d c n) is.event none refl refl
