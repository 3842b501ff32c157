-- The works of `replay` and `order` print what the headline speaks of, and so keep it.
use Rattle.std.specs.Prelude.{◌≡◌, ℕ, true, List, Option, None, Some, Result, Ok, Err, nat_le, codes, decimal, refl}
use Rattle.std.proofs.Common.{◌∙◌, subst}
use Rattle.std.proofs.lemmas.Bool.{and_from}
use Rattle.std.proofs.lemmas.List.Folds.{list_all-append}
use Rattle.sd_sched.specs.declared.Event.{Event}
use Rattle.sd_sched.specs.declared.LineFault.{LineFault}
use Rattle.sd_sched.specs.declared.LineFault.TheVariants.{UnknownWord, FieldCount, Number}
use Rattle.sd_sched.specs.Lines.{event_of_line}
use Rattle.sd_history.specs.World.{Setting}
use Rattle.sd_history.specs.Chronicle.{chronicle}
use Rattle.sd_history.specs.Refusals.{refusal}
use Rattle.sd_history.specs.declared.ApplyFault.{ApplyFault}
use Rattle.sd_history.specs.declared.ApplyFault.TheVariants as apply
use Rattle.sd_commands.specs.replay.Reasons.{line_reason, apply_name}
use Rattle.sd_commands.specs.replay.Replays.{accepted, unless_refused, replay_work, order_work}
use Rattle.sd_headline.specs.Words.{is_one_line}
use Rattle.sd_headline.specs.Works.{PrintsEvents, PrintsWaits}
use Rattle.sd_headline.specs.Headlines.{no_early_interval, no_early_disorder}
use Rattle.sd_headline.proofs.Numbers.{decimal_plain}
use Rattle.sd_headline.proofs.Texts.{plain_is_one_line}
use Rattle.sd_headline.proofs.Runs.{run_keeps_interval, run_keeps_alarm, order_keeps_interval, order_keeps_alarm, order_keeps_order}
use Rattle.sd_top.specs.Promised.{ReplayKeepsIntervals, OrderKeepsOrder, ReplayKeepsAlarms, OrderKeepsAlarms}

apply_line : (why : ApplyFault) → is_one_line (apply_name why) ≡ true
apply_line apply.UnknownDevice = refl
apply_line apply.UnknownLink = refl
apply_line apply.DeadDevice = refl
apply_line apply.DeadLink = refl
apply_line apply.UnknownMessage = refl
apply_line apply.SpentMessage = refl
apply_line apply.WrongDevice = refl
apply_line apply.TimeFalls = refl
apply_line apply.CounterFalls = refl
apply_line apply.NotStarted = refl
apply_line apply.StartedTwice = refl
apply_line apply.NoPlanLeft = refl
apply_line apply.WindowOrder = refl
apply_line apply.AfterEnd = refl
apply_line apply.NotFailed = refl
apply_line apply.NotMember = refl
apply_line apply.TooManyEvents = refl
apply_line apply.Memory = refl

line_line : (why : LineFault) → is_one_line (line_reason why) ≡ true
line_line UnknownWord = refl
line_line FieldCount = refl
line_line (Number field) =
    list_all-append (nat_le 32) (codes "Number ") (decimal field)
    ∙ and_from (is_one_line (codes "Number ")) (is_one_line (decimal field)) refl (plain_is_one_line (decimal field) (decimal_plain field))

err_same : {X : Type 0} (a b : List ℕ) → (let made : List ℕ → Result X (List ℕ) = λ z. Err z in made a ≡ made b) → a ≡ b
err_same a b same = cc

ok_same : {Y : Type 0} (a b : Event) → (let made : Event → Result Event Y = λ z. Ok z in made a ≡ made b) → a ≡ b
ok_same a b same = cc

said_when : (e e' : Event) (o : Option ApplyFault) → unless_refused o e ≡ Ok e' → (o ≡ None) × (e ≡ e')
said_when e e' None same = (refl, ok_same e e' same)
said_when e e' (Some why) same = cc

said_why : (e : Event) (o : Option ApplyFault) (why : List ℕ) → unless_refused o e ≡ Err why → is_one_line why ≡ true
said_why e None why same = cc
said_why e (Some fault) why same = subst (λ (w : List ℕ). is_one_line w ≡ true) (err_same (apply_name fault) why same) (apply_line fault)

accepted_by : (setting : Setting) (events : List Event) (said : Result Event LineFault) (e : Event) → accepted setting events said ≡ Ok e
    → refusal setting (chronicle setting events) e ≡ None
accepted_by setting events (Err why) e same = cc
accepted_by setting events (Ok d) e same =
    let both = said_when d e (refusal setting (chronicle setting events) d) same in
    subst (λ (x : Event). refusal setting (chronicle setting events) x ≡ None) both.1 both.0

reason_by : (setting : Setting) (events : List Event) (said : Result Event LineFault) (why : List ℕ) → accepted setting events said ≡ Err why
    → is_one_line why ≡ true
reason_by setting events (Err fault) why same = subst (λ (w : List ℕ). is_one_line w ≡ true) (err_same (line_reason fault) why same) (line_line fault)
reason_by setting events (Ok d) why same = said_why d (refusal setting (chronicle setting events) d) why same

pub replay_prints : (setting : Setting) → PrintsEvents setting (replay_work setting)
replay_prints setting =
    record {
      reads = record {
        accepted = λ events line e. accepted_by setting events (event_of_line line) e;
        reasons = λ events line why. reason_by setting events (event_of_line line) why;
        name = refl;
      };
      bytes = λ earlier e. refl;
      last = λ events. refl;
    }

pub order_prints : (setting : Setting) → PrintsWaits setting (order_work setting)
order_prints setting =
    record {
      reads = record {
        accepted = λ events line e. accepted_by setting events (event_of_line line) e;
        reasons = λ events line why. reason_by setting events (event_of_line line) why;
        name = refl;
      };
      bytes = λ earlier e. refl;
      last = λ events. refl;
    }

module _ (topology : List ℕ) (plans : List (List ℕ)) (schedule : List ℕ) where
  pub replay_keeps_intervals : ReplayKeepsIntervals topology plans schedule
  replay_keeps_intervals bytes status written = run_keeps_interval replay_work topology plans schedule bytes status written replay_prints

  pub order_keeps : OrderKeepsOrder topology plans schedule
  order_keeps bytes status written =
      and_from (no_early_interval bytes) (no_early_disorder bytes) (order_keeps_interval order_work topology plans schedule bytes status written order_prints)
      (order_keeps_order order_work topology plans schedule bytes status written order_prints)

  -- Since each clean history is safe

  pub replay_keeps_alarms : ReplayKeepsAlarms topology plans schedule
  replay_keeps_alarms some bytes status written = run_keeps_alarm replay_work topology plans schedule bytes status written replay_prints some

  pub order_keeps_alarms : OrderKeepsAlarms topology plans schedule
  order_keeps_alarms some bytes status written = order_keeps_alarm order_work topology plans schedule bytes status written order_prints some
