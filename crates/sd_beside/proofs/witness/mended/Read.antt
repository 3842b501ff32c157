-- What the texts of the second witness mean, by the definitions of the readers.
use Rattle.std.specs.Prelude.{◌≡◌, Ok, refl}
use Rattle.std.specs.Str.Lossy.{utf8_valid_len}
use Rattle.std.specs.Str.{is_utf8, chars}
use Rattle.toml.proofs.OnLiterals.{toml_on_literals}
use Rattle.serde_json.proofs.OnLiterals.{serde_json_on_literals}
use Rattle.sd_topotext.specs.Meaning.{number, number_or, text, array, array_or_none, own_name, referred, one_more, params_in, side_in, rates_in, device_in, one_more_device, devices_in, ends_in, delay_in, back_in, link_in, one_more_link, links_in, members_in, domain_in, one_more_domain, domains_in, roots_in, network_in, network_of}
use Rattle.sd_topotext.specs.Reading as toml
use Rattle.sd_topotext.proofs.Meant.{meant_is_network}
use Rattle.sd_plantext.specs.Meaning as plan
use Rattle.sd_plantext.specs.Meaning.{plan_of}
use Rattle.sd_plantext.specs.Reading as json
use Rattle.sd_plan.specs.topo.Limits.{IsNetwork}
use Rattle.sd_plan.specs.Plans.{Fits}
use Rattle.sd_sched.specs.Lines.{event_of_line}
use Rattle.sd_beside.specs.witness.Shared.{text_of}
use Rattle.sd_beside.specs.witness.mended.Texts.{topology_lines, first_plan_lines, second_plan_lines, schedule_lines}
use Rattle.sd_beside.specs.witness.Schedules.{events_of}
use Rattle.sd_beside.specs.witness.mended.Values.{network, first_plan, second_plan, events}
use Rattle.sd_beside.specs.witness.mended.Witness.{Say}
use Rattle.sd_beside.proofs.witness.Meant.{fits_of}

topology_says : network_of (toml.tree_of (text_of topology_lines)) ≡ Ok network
unfolding topology_lines toml_on_literals utf8_valid_len is_utf8 chars number number_or text array array_or_none own_name referred one_more params_in side_in
    rates_in device_in one_more_device devices_in ends_in delay_in back_in link_in one_more_link links_in members_in domain_in one_more_domain domains_in
    roots_in network_in network_of
topology_says = refl

first_plan_says : plan_of network (json.tree_of (text_of first_plan_lines)) ≡ Ok first_plan
unfolding first_plan_lines serde_json_on_literals utf8_valid_len is_utf8 chars plan.number plan.version_in plan.wait_in plan.referred plan.named plan.array
    plan.one_more_name plan.names_in plan.absent_in plan.hop_in plan.backup_in plan.row_in plan.device_in plan.one_more_row plan.rows_in plan.plan_in plan_of
first_plan_says = refl

second_plan_says : plan_of network (json.tree_of (text_of second_plan_lines)) ≡ Ok second_plan
unfolding second_plan_lines serde_json_on_literals utf8_valid_len is_utf8 chars plan.number plan.version_in plan.wait_in plan.referred plan.named plan.array
    plan.one_more_name plan.names_in plan.absent_in plan.hop_in plan.backup_in plan.row_in plan.device_in plan.one_more_row plan.rows_in plan.plan_in plan_of
second_plan_says = refl

schedule_says : events_of (text_of schedule_lines) ≡ Ok events
unfolding schedule_lines event_of_line events
schedule_says = refl

pub texts_say : Say events
texts_say = record { topology = topology_says; first_plan = first_plan_says; second_plan = second_plan_says; schedule = schedule_says }

-- so the network is one that a text can say, and the plans fit it

pub is_network : IsNetwork network
is_network = meant_is_network (toml.tree_of (text_of topology_lines)) network topology_says

pub first_fits : Fits network first_plan
first_fits = fits_of network first_plan (json.tree_of (text_of first_plan_lines)) first_plan_says

pub second_fits : Fits network second_plan
second_fits = fits_of network second_plan (json.tree_of (text_of second_plan_lines)) second_plan_says
