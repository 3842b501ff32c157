-- An entry is recorded: what it shows to be lost, then its event.
use Rattle.std.specs.Prelude.{◌≡◌, ℕ, List, [], ◌++◌, Option, Some, None}
use Rattle.std.proofs.Common.{sym, ◌∙◌, ap, subst}
use Rattle.std.proofs.lemmas.List.{append-nil}
use Rattle.sd_num.specs.Lists.{map_or}
use Rattle.sd_sched.specs.declared.Event.{Event}
use Rattle.sd_history.specs.World.{Setting}
use Rattle.sd_history.specs.Chronicle.{chronicle}
use Rattle.sd_history.specs.declared.ApplyFault.{ApplyFault}
use Rattle.sd_record.specs.logs.Entries.{event_with, name_of, reference_in}
use Rattle.sd_record.specs.declared.logs.Entry.{Entry}
use Rattle.sd_record.specs.Laws.{HasRecorded}
use Rattle.sd_record.specs.Naming.{event_in, number_named}
use Rattle.sd_record.specs.Printed.{schedule_text}
use Rattle.sd_record.specs.Recorded.{Events, add, go_on, lose_all, record_entry}
use Rattle.sd_record.specs.Standing.{Becomes, Came, HoldsSince, StandsFor}
use Rattle.sd_record.specs.declared.recorder.Recorder.{Recorder}
use Rattle.sd_record.proofs.Laws.{recorded}
use Rattle.sd_record.proofs.Losing.{still_holds}
use Rattle.sd_record.proofs.Standing.{is_history}

-- a recorder whose text was cleared holds nothing since the events for which it stands
pub cleared : (r : Recorder) (setting : Setting) (events : List Event) → r.text.items ≡ [] → StandsFor r setting events → HoldsSince r setting events events
cleared r setting events empty stands =
    record { stands = stands; text = sym (append-nil (schedule_text events)) ∙ ap (λ t. schedule_text events ++ t) (sym empty) }

-- what came of the losses
pub losses_came : (ready lost : Recorder) (entry : Entry) (reference : ℕ) (o wanted : Option ApplyFault) → reference ≡ reference_in entry → o ≡ wanted
    → Becomes ready lost (λ s. lose_all s reference) o
    → ready.text.items ≡ []
    → (setting : Setting) (events : List Event) → StandsFor ready setting events
    → Came lost setting events (lose_all setting (reference_in entry) events) wanted
losses_came ready lost entry reference o wanted is same becomes empty setting events stands =
    subst (λ (w : Option ApplyFault). Came lost setting events (lose_all setting (reference_in entry) events) w) same
    (subst (λ (r : ℕ). Came lost setting events (lose_all setting r events) o) is
    (becomes setting events events (cleared ready setting events empty stands)))

-- the losses were refused
pub losses_refused : (old lost : Recorder) (entry : Entry) (why : ApplyFault) (setting : Setting) (events : List Event)
    → Came lost setting events (lose_all setting (reference_in entry) events) (Some why)
    → Came lost setting events (record_entry setting entry events) (Some why)
losses_refused old lost entry why setting events came =
    ap (λ (r : Events). go_on r (λ before. add setting (event_in (chronicle setting before) entry) before)) came

-- they happened, and the event comes to this
pub event_came : (lost named' new : Recorder) (entry : Entry) (e : Event) (number : ℕ) (refused : Option ApplyFault) (setting : Setting) (events : List Event)
    → e ≡ event_with entry number
    → ((s : Setting) (es : List Event) → StandsFor lost s es → number ≡ map_or (name_of entry) 0 (λ name. number_named name (chronicle s es)))
    → named'.text ≡ lost.text
    → ((s : Setting) (es : List Event) → StandsFor lost s es → StandsFor named' s es)
    → Becomes named' new (λ s. add s e) refused
    → Came lost setting events (lose_all setting (reference_in entry) events) None
    → Came new setting events (record_entry setting entry events) refused
event_came lost named' new entry e number refused setting events is named same stands becomes losses =
    let (before, came, holds) = losses in
    let its : e ≡ event_in (chronicle setting before) entry = is ∙ ap (event_with entry) (named setting before holds.stands) in
    let done : record_entry setting entry events ≡ add setting e before =
    ap (λ (r : Events). go_on r (λ es. add setting (event_in (chronicle setting es) entry) es)) came
    ∙ ap (λ (x : Event). add setting x before) (sym its) in
    subst (λ (r : Events). Came new setting events r refused) (sym done)
    (becomes setting events before (still_holds lost named' setting events before same stands holds))

-- what came of the entry is its record
pub has_recorded : (old new : Recorder) (entry : Entry) (setting : Setting) (events : List Event) → StandsFor old setting events
    → Came new setting events (record_entry setting entry events) None
    → HasRecorded new setting entry events
has_recorded old new entry setting events stands came =
    let (after, is, holds) = came in
    record { after = after; stands = holds.stands; lawful = recorded setting entry events after (is_history old setting events stands) is }
