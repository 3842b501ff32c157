-- The texts say a history to which the theorem on safety applies: the root fails, the backup root takes over, and another plan comes into force.
use Rattle.std.specs.Prelude.{◌≡◌, true, reverse, refl}
use Rattle.std.proofs.Common.{arith}
use Rattle.sd_plan.specs.Plans.{Fits}
use Rattle.sd_checker.specs.Conditions.{IsAccepted}
use Rattle.sd_sched.specs.Lines.{event_of_line}
use Rattle.sd_safety.specs.invariant.Coming.{IsFair, IsClean}
use Rattle.sd_safety.proofs.whole.Safe.{stays_safe}
use Rattle.sd_beside.specs.witness.Texts.{schedule_lines}
use Rattle.sd_beside.specs.witness.Values.{network, first_plan, second_plan, setting, events}
use Rattle.sd_beside.specs.witness.Witnesses.{MeetsAll, TakesOver, Commits, Closes, BothReport, IsRenewal}
use Rattle.sd_beside.proofs.witness.Accepting.{accepted_by}
use Rattle.sd_beside.proofs.witness.Histories.{each_of_two, are_accepted, is_history}
use Rattle.sd_beside.proofs.witness.Read.{texts_say, is_network, first_fits, second_fits}

pub first_accepted : IsAccepted network first_plan
first_accepted = accepted_by network first_plan first_fits refl

pub second_accepted : IsAccepted network second_plan
second_accepted = accepted_by network second_plan second_fits refl

accepted : are_accepted setting (reverse events) ≡ true
unfolding events schedule_lines event_of_line
accepted = refl

meets : MeetsAll events
unfolding events schedule_lines event_of_line
meets =
    record {
      count = refl;
      first_accepted = first_accepted;
      second_accepted = second_accepted;
      history = is_history setting (reverse events) accepted;
      start = refl;
      drift = refl;
      delay = refl;
      tick = refl;
      loss = refl;
      domain = refl;
      renew = refl;
      all = refl;
    }

takes_over : TakesOver events
unfolding events schedule_lines event_of_line
takes_over =
    record {
      root_acts = refl;
      root_fails = refl;
      nobody_acts = refl;
      nobody_acts_yet = refl;
      backup_root_acts = refl;
    }

commits : Commits events
unfolding events schedule_lines event_of_line
commits =
    record {
      not_staged = refl;
      staged = refl;
      given_first = refl;
      given_second = refl;
      not_committed = refl;
      committed = refl;
      entered_first = refl;
      not_entered = refl;
      entered_second = refl;
    }

closes : Closes events
unfolding events schedule_lines event_of_line
closes =
    record {
      sealed_first = refl;
      open_still = refl;
      old_epoch = refl;
      sealed_second = refl;
      closed = refl;
      new_epoch = refl;
      new_root_acts = refl;
    }

both_report : BothReport events
unfolding events schedule_lines event_of_line
both_report =
    record {
      first = refl;
      second = refl;
      counts = refl;
      of_new_plan = refl;
      all = refl;
    }

fair : IsFair setting
fair =
    record {
      network = is_network;
      some_plan = omega arith;
      fit = each_of_two (Fits network) first_plan second_plan first_fits second_fits;
      accepted = each_of_two (IsAccepted network) first_plan second_plan first_accepted second_accepted;
    }

clean : IsClean setting (reverse events)
clean = record { is = meets.history; premises = meets.all }

pub renewal : IsRenewal events
renewal =
    record {
      says = texts_say;
      meets = meets;
      takes_over = takes_over;
      commits = commits;
      closes = closes;
      report = both_report;
      fair = fair;
      clean = clean;
      safe = stays_safe setting (reverse events) fair clean;
    }
