-- The words of an event, and that they are those of the raised one.
use Rattle.std.specs.Prelude.{◌≡◌, ℕ, ◌+◌, Bool, Option, option_map, refl}
use Rattle.sd_plan.specs.declared.topo.Thing.{Thing}
use Rattle.sd_sched.specs.declared.Event.{Event}
use Rattle.sd_sched.specs.declared.Event.TheVariants as event
use Rattle.sd_sched.specs.Events.{reference_of, device_of, counter_of, link_of, message_of, received, started, joined, given, ticked, is_stage, is_commit, is_seal, is_end_event}
use Rattle.sd_history.specs.Things.{failure_of, mended}
use Rattle.sd_resume.specs.law.Shifts.{Shift, raised_event}

-- what an event says, but for the message that it names
pub record EventWords : Type 0 where
  pub reference : ℕ
  pub device : Option ℕ
  pub counter : Option ℕ
  pub link : Option ℕ
  pub started : Option ℕ
  pub joined : Option ℕ
  pub given : Option ℕ
  pub ticked : Option ℕ
  pub is_stage : Bool
  pub is_commit : Bool
  pub is_seal : Bool
  pub is_end : Bool
  pub failure : Option Thing
  pub mended : Option Thing

abbrev pub words_of : Event → EventWords
words_of e =
    record {
      reference = reference_of e;
      device = device_of e;
      counter = counter_of e;
      link = link_of e;
      started = started e;
      joined = joined e;
      given = given e;
      ticked = ticked e;
      is_stage = is_stage e;
      is_commit = is_commit e;
      is_seal = is_seal e;
      is_end = is_end_event e;
      failure = failure_of e;
      mended = mended e;
    }

pub same_words : (shift : Shift) (e : Event) → words_of (raised_event shift e) ≡ words_of e
same_words shift (event.Start reference device counter clock eps) = refl
same_words shift _ = refl

pub raised_number : (shift : Shift) (e : Event) → message_of (raised_event shift e) ≡ option_map (λ n. n + shift.messages) (message_of e)
raised_number shift (event.Start reference device counter clock eps) = refl
raised_number shift _ = refl

pub raised_received : (shift : Shift) (e : Event) → received (raised_event shift e) ≡ option_map (λ n. n + shift.messages) (received e)
raised_received shift (event.Start reference device counter clock eps) = refl
raised_received shift _ = refl
