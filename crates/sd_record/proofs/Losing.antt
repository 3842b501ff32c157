-- Messages that are lost, one after the other.
use Rattle.std.specs.Prelude.{◌≡◌, ℕ, suc, List, ◌++◌, Option, Some, None, Err, refl}
use Rattle.std.proofs.Common.{sym, ◌∙◌, ap, subst, Vec, Global}
use Rattle.sd_sched.specs.declared.Event.{Event}
use Rattle.sd_sched.specs.declared.Event.TheVariants.{Lose}
use Rattle.sd_history.specs.World.{Setting}
use Rattle.sd_history.specs.Chronicle.{chronicle}
use Rattle.sd_history.specs.declared.ApplyFault.{ApplyFault}
use Rattle.sd_record.specs.Losing.{next_lost}
use Rattle.sd_record.specs.Recorded.{Events, add, go_on, lose_next, lose_up_to}
use Rattle.sd_record.specs.Printed.{schedule_text}
use Rattle.sd_record.specs.Standing.{Came, HoldsSince, StandsFor}
use Rattle.sd_record.specs.declared.endings.Ending.{Ending}
use Rattle.sd_record.specs.declared.recorder.Recorder.{Recorder}

-- one that stands for the same, with the same text, holds the same
pub still_holds : (old new : Recorder) (setting : Setting) (start events : List Event) → new.text ≡ old.text
    → ((s : Setting) (es : List Event) → StandsFor old s es → StandsFor new s es)
    → HoldsSince old setting start events
    → HoldsSince new setting start events
still_holds old new setting start events same stands h =
    record {
      stands = stands setting events h.stands;
      text = h.text ∙ ap (λ (t : Vec ℕ Global). schedule_text start ++ t.items) (sym same);
    }

-- this many losses more make it what is meant
pub record StillTo (r : Recorder) (setting : Setting) (start : List Event) (reference n : ℕ) (meant : Events) : Type 0 where
  pub events : List Event
  pub holds : HoldsSince r setting start events
  pub rest : lose_up_to setting reference n events ≡ meant

pub begins : (r : Recorder) (setting : Setting) (start : List Event) (reference n : ℕ) (events : List Event) → HoldsSince r setting start events
    → StillTo r setting start reference n (lose_up_to setting reference n events)
begins r setting start reference n events h = record { events = events; holds = h; rest = refl }

-- with the count in another form
pub counted : (r : Recorder) (setting : Setting) (start : List Event) (reference m n : ℕ) (meant : Events) → m ≡ n
    → StillTo r setting start reference m meant
    → StillTo r setting start reference n meant
counted r setting start reference m n meant same still = subst (λ (k : ℕ). StillTo r setting start reference k meant) same still

-- this many make it what is meant of one that stands for the same, with the same text
abbrev pub still_to : (old new : Recorder) (setting : Setting) (start : List Event) (reference n : ℕ) (meant : Events) → new.text ≡ old.text
    → ((s : Setting) (events : List Event) → StandsFor old s events → StandsFor new s events)
    → StillTo old setting start reference n meant
    → StillTo new setting start reference n meant
still_to old new setting start reference n meant same stands still =
    record { events = still.events; holds = still_holds old new setting start still.events same stands still.holds; rest = still.rest }

module _ (old new : Recorder) (setting : Setting) (start : List Event) (reference n : ℕ) (meant : Events)
    (still : StillTo old setting start reference (suc n) meant) where
  -- the loss that comes next decides
  next_is : (o : Option Ending) → next_lost reference (chronicle setting still.events) ≡ o
      → lose_next setting o (lose_up_to setting reference n) still.events ≡ meant
  unfolding lose_up_to
  next_is o is = ap (λ (p : Option Ending). lose_next setting p (lose_up_to setting reference n) still.events) (sym is) ∙ still.rest

  -- one message is lost
  pub one_more : (ending : Ending) → next_lost reference (chronicle setting still.events) ≡ Some ending
      → Came new setting start (add setting (Lose ending.last ending.number) still.events) None
      → StillTo new setting start reference n meant
  one_more ending is lost =
      let (events, came, holds) = lost in
      record {
        events = events;
        holds = holds;
        rest = sym (ap (λ (r : Events). go_on r (lose_up_to setting reference n)) came) ∙ next_is (Some ending) is;
      }

  -- its loss is refused
  pub refused_loss : (ending : Ending) (why : ApplyFault) → next_lost reference (chronicle setting still.events) ≡ Some ending
      → Came new setting start (add setting (Lose ending.last ending.number) still.events) (Some why)
      → meant ≡ Err why
  refused_loss ending why is came =
      sym (next_is (Some ending) is) ∙ ap (λ (r : Events). go_on r (lose_up_to setting reference n)) came

  -- none is lost any more
  pub no_more : next_lost reference (chronicle setting still.events) ≡ None → Came old setting start meant None
  no_more is = (still.events, sym (next_is None is), still.holds)

-- as many were lost as may be
pub all_lost : (r : Recorder) (setting : Setting) (start : List Event) (reference : ℕ) (meant : Events) → StillTo r setting start reference 0 meant
    → Came r setting start meant None
unfolding lose_up_to
all_lost r setting start reference meant still = (still.events, sym still.rest, still.holds)
