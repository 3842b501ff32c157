-- What the texts of the third witness mean, by the definitions of the readers.
use Rattle.std.specs.Prelude.{◌≡◌, Ok, refl}
use Rattle.std.specs.Str.Lossy.{utf8_valid_len}
use Rattle.std.specs.Str.{is_utf8, chars}
use Rattle.toml.proofs.OnLiterals.{toml_on_literals}
use Rattle.serde_json.proofs.OnLiterals.{serde_json_on_literals}
use Rattle.sd_topotext.specs.Meaning.{number, number_or, text, array, array_or_none, own_name, referred, one_more, params_in, side_in, rates_in, device_in, one_more_device, devices_in, ends_in, delay_in, back_in, link_in, one_more_link, links_in, members_in, domain_in, one_more_domain, domains_in, roots_in, network_in, network_of}
use Rattle.sd_topotext.specs.Reading as toml
use Rattle.sd_topotext.proofs.Meant.{meant_is_network}
use Rattle.sd_plantext.specs.Meaning as plan
use Rattle.sd_plantext.specs.Meaning.{plan_of}
use Rattle.sd_plantext.specs.Reading as json
use Rattle.sd_plan.specs.topo.Limits.{IsNetwork}
use Rattle.sd_plan.specs.Plans.{Fits}
use Rattle.sd_beside.specs.witness.Shared.{text_of}
use Rattle.sd_beside.specs.witness.straggler.Texts.{topology_lines, plan_lines, longer_lines}
use Rattle.sd_beside.specs.witness.straggler.Values as values
use Rattle.sd_beside.specs.witness.straggler.Witness.{Say}
use Rattle.sd_beside.proofs.witness.Meant.{fits_of}

topology_says : network_of (toml.tree_of (text_of topology_lines)) ≡ Ok values.network
unfolding topology_lines toml_on_literals utf8_valid_len is_utf8 chars number number_or text array array_or_none own_name referred one_more params_in side_in
    rates_in device_in one_more_device devices_in ends_in delay_in back_in link_in one_more_link links_in members_in domain_in one_more_domain domains_in
    roots_in network_in network_of
topology_says = refl

plan_says : plan_of values.network (json.tree_of (text_of plan_lines)) ≡ Ok values.plan
unfolding plan_lines serde_json_on_literals utf8_valid_len is_utf8 chars plan.number plan.version_in plan.wait_in plan.referred plan.named plan.array
    plan.one_more_name plan.names_in plan.absent_in plan.hop_in plan.backup_in plan.row_in plan.device_in plan.one_more_row plan.rows_in plan.plan_in plan_of
plan_says = refl

longer_says : plan_of values.network (json.tree_of (text_of longer_lines)) ≡ Ok values.longer
unfolding longer_lines serde_json_on_literals utf8_valid_len is_utf8 chars plan.number plan.version_in plan.wait_in plan.referred plan.named plan.array
    plan.one_more_name plan.names_in plan.absent_in plan.hop_in plan.backup_in plan.row_in plan.device_in plan.one_more_row plan.rows_in plan.plan_in plan_of
longer_says = refl

pub texts_say : Say
texts_say = record { topology = topology_says; plan = plan_says; longer = longer_says }

pub is_network : IsNetwork values.network
is_network = meant_is_network (toml.tree_of (text_of topology_lines)) values.network topology_says

pub plan_fits : Fits values.network values.plan
plan_fits = fits_of values.network values.plan (json.tree_of (text_of plan_lines)) plan_says

pub longer_fits : Fits values.network values.longer
longer_fits = fits_of values.network values.longer (json.tree_of (text_of longer_lines)) longer_says
