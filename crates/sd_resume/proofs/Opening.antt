-- Fleets that agree: each run of the second is an opening for each of the first. And where they differ, their runs do.
use Rattle.std.specs.Prelude.{◌≡◌, ◌≢◌, ℕ, ◌+◌, ◌<◌, ◌≤◌, Bool, true, false, ◌&&◌, ◌||◌, List, length, nat_eq, Option, Some, None, is_some, map, option_map, refl}
use Rattle.std.proofs.Common.{arith, sym, ◌∙◌, ap, subst, inl, inr}
use Rattle.std.proofs.lemmas.Bool.{cases_lt, eqb-true, eq-eqb, and_from, false_from_ne_true}
use Rattle.sd_plan.specs.topo.Network.{Network}
use Rattle.sd_plan.specs.declared.topo.Thing.{Thing}
use Rattle.sd_plan.specs.declared.topo.Thing.TheVariants.{Device, Link}
use Rattle.sd_plan.specs.declared.Plan.{Plan}
use Rattle.sd_device.specs.declared.msg.Flight.{Flight}
use Rattle.sd_device.specs.declared.registers.Registers.{Registers}
use Rattle.sd_device.specs.contracts.device.DeviceNode.TheImpl.{ghosts as device}
use Rattle.sd_world.specs.world.Registers.{is_open}
use Rattle.sd_world.specs.world.Standing as worlds
use Rattle.sd_history.specs.World.{Setting, Seen, setting_over, is_up, has_failed, latest_reading, window, window_is_open}
use Rattle.sd_history.specs.Steps.{Step, seen_of, events_of, flight_count, flight_numbered}
use Rattle.sd_history.specs.Refusals.{is_spent}
use Rattle.sd_history.specs.Nodes.{NodeStep, steps_of, node_in}
use Rattle.sd_fleet.specs.Nodes.{node_at}
use Rattle.sd_fleet.specs.Standing.{StandsFor}
use Rattle.sd_history.proofs.Admitted.{run_is_admitted}
use Rattle.sd_history.proofs.Devices.{admitted_devices_run, admitted_devices_have_history}
use Rattle.sd_history.proofs.Known.{admitted_up_is_known}
use Rattle.sd_resume.specs.law.Shifts.{Shift, raised_seen}
use Rattle.sd_resume.specs.law.Views.{LooksAlike}
use Rattle.sd_resume.specs.law.Law.{whole}
use Rattle.sd_resume.specs.declared.differences.Difference.{Difference}
use Rattle.sd_resume.specs.declared.differences.Difference.TheVariants as difference
use Rattle.sd_resume.specs.Devices.{NodesAgree, NodesDiffer}
use Rattle.sd_resume.specs.Fleets.{DeviceFleet, world_of, devices_of, links_of, FleetsAgree, FleetsDiffer}
use Rattle.sd_resume.specs.Messages.{MessagesAgree, MessagesDiffer}
use Rattle.sd_resume.specs.Differences.{Differs, Opens}
use Rattle.sd_resume.proofs.Known.{IsKnown, failed_is_known}
use Rattle.sd_resume.proofs.Alike.{nodes_alike}
use Rattle.sd_resume.proofs.Apart.{nodes_not_apart}
use Rattle.sd_resume.proofs.Sending.{sent_number}

-- a device that is up is one of the network
up_is_known : (setting : Setting) (fleet : DeviceFleet) (run : List (NodeStep Registers)) (d : ℕ) → StandsFor device fleet setting run
    → is_up (seen_of (steps_of run)) d ≡ true → d < length setting.net.devices
up_is_known setting fleet run d stands up =
    admitted_up_is_known setting (events_of (steps_of run))
    (admitted_devices_have_history setting run (run_is_admitted device setting run stands.is_run)) d
    (subst (λ (steps : List Step). is_up (seen_of steps) d ≡ true)
    (admitted_devices_run setting run (run_is_admitted device setting run stands.is_run)) up)

-- without an open window there is nothing of one
no_window : (seen : List Seen) → window_is_open seen ≡ false → window seen ≡ None
no_window seen shut = by (window seen) shut
  where
    by : (o : Option (List Seen)) → is_some o ≡ false → o ≡ None
    by None none = refl
    by (Some w) none = cc

module _ (shift : Shift) (first second : DeviceFleet) (net : Network) (front plans : List Plan) (one other : List (NodeStep Registers))
    (of_first : StandsFor device first (whole net front plans) one) (of_second : StandsFor device second (setting_over net plans) other) where
  abbrev seen : List Seen
  seen = seen_of (steps_of one)

  abbrev seen_other : List Seen
  seen_other = seen_of (steps_of other)

  in_first : worlds.Stands (world_of first) (whole net front plans) seen
  in_first = of_first.fabric.membership.world

  in_second : worlds.Stands (world_of second) (setting_over net plans) seen_other
  in_second = of_second.fabric.membership.world

  -- numbers of the network are numbers of both worlds
  first_device : (d : ℕ) → d < length net.devices → d < length (world_of first).devices
  first_device d within = subst (λ (n : ℕ). d < n) (sym in_first.device_count) within

  second_device : (d : ℕ) → d < length net.devices → d < length (world_of second).devices
  second_device d within = subst (λ (n : ℕ). d < n) (sym in_second.device_count) within

  first_link : (l : ℕ) → l < length net.links → l < length (world_of first).failed_links
  first_link l within = subst (λ (n : ℕ). l < n) (sym in_first.link_count) within

  second_link : (l : ℕ) → l < length net.links → l < length (world_of second).failed_links
  second_link l within = subst (λ (n : ℕ). l < n) (sym in_second.link_count) within

  devices_are : devices_of first ≡ length net.devices
  devices_are = ap (λ (n : Network). length n.devices) of_first.fabric.net

  links_are : links_of first ≡ length net.links
  links_are = ap (λ (n : Network). length n.links) of_first.fabric.net

  -- Fleets that agree

  module _ (agree : FleetsAgree shift first second) where
    up_same : (d : ℕ) → is_up seen d ≡ is_up seen_other d
    up_same d =
        elim (cases_lt d (length net.devices)) [
          | inl within ↦ sym (in_first.devices d (first_device d within)).up
              ∙ (agree.devices d (subst (λ (n : ℕ). d < n) (sym devices_are) within)).states.up
              ∙ (in_second.devices d (second_device d within)).up
          | inr beyond ↦ false_from_ne_true (is_up seen d) (λ up. never d (up_is_known (whole net front plans) first one d of_first up) beyond)
              ∙ sym (false_from_ne_true (is_up seen_other d) (λ up. never d (up_is_known (setting_over net plans) second other d of_second up) beyond))
        ]
      where
        never : (d : ℕ) → d < length net.devices → length net.devices ≤ d → ⊥
        never d within beyond = omega (arith, within, beyond)

    failed_known : (x : Thing) → IsKnown (setting_over net plans) x → has_failed seen x ≡ has_failed seen_other x
    failed_known (Device d) within =
        sym (in_first.devices d (first_device d within)).failed
        ∙ (agree.devices d (subst (λ (n : ℕ). d < n) (sym devices_are) within)).states.failed
        ∙ (in_second.devices d (second_device d within)).failed
    failed_known (Link l) within =
        sym (in_first.links l (first_link l within))
        ∙ agree.links l (subst (λ (n : ℕ). l < n) (sym links_are) within)
        ∙ in_second.links l (second_link l within)

    failed_same : (x : Thing) → has_failed seen x ≡ has_failed seen_other x
    failed_same x = go (has_failed seen x) (has_failed seen_other x) refl refl
      where
        go : (a b : Bool) → has_failed seen x ≡ a → has_failed seen_other x ≡ b → has_failed seen x ≡ has_failed seen_other x
        go true b is is' = failed_known x (known x (failed_is_known (whole net front plans) (steps_of one) x of_first.fabric.accepted is))
          where
            known : (x : Thing) → IsKnown (whole net front plans) x → IsKnown (setting_over net plans) x
            known (Device d) h = h
            known (Link l) h = h
        go false true is is' = failed_known x (failed_is_known (setting_over net plans) (steps_of other) x of_second.fabric.accepted is')
        go false false is is' = is ∙ sym is'

    reading_same : (d : ℕ) → is_up seen_other d ≡ true → latest_reading seen d ≡ latest_reading seen_other d
    reading_same d up =
        let within : d < length net.devices = up_is_known (setting_over net plans) second other d of_second up in
        sym (in_first.devices d (first_device d within)).reading
        ∙ (agree.devices d (subst (λ (n : ℕ). d < n) (sym devices_are) within)).states.reading
        ((in_second.devices d (second_device d within)).up ∙ up)
        ∙ (in_second.devices d (second_device d within)).reading

    looks : LooksAlike shift seen seen_other
    looks =
        record {
          up = up_same;
          failed = failed_same;
          time = sym in_first.reference ∙ agree.moments.time ∙ in_second.reference;
          reading = reading_same;
          window =
              no_window seen (sym in_first.open_window ∙ agree.moments.shut)
              ∙ sym (ap (option_map (map (raised_seen shift))) (no_window seen_other (sym in_second.open_window ∙ agree.moments.shut_other)));
          epoch = sym in_first.epoch ∙ agree.moments.epoch ∙ ap (λ (n : ℕ). n + shift.plans) in_second.epoch;
          ended = sym in_first.ended ∙ agree.moments.ended ∙ in_second.ended;
        }

    nodes_agree : (d : ℕ) → is_up seen_other d ≡ true → NodesAgree shift (latest_reading seen_other d) (node_in one d) (node_in other d)
    nodes_agree d up =
        let within : d < length net.devices = up_is_known (setting_over net plans) second other d of_second up in
        subst (λ (o : Option Registers). NodesAgree shift (latest_reading seen_other d) (node_in one d) o) (of_second.nodes d within)
        (subst (λ (o : Option Registers). NodesAgree shift (latest_reading seen_other d) o (node_at second.nodes.items d)) (of_first.nodes d within)
        (subst (λ (n : ℕ). NodesAgree shift n (node_at first.nodes.items d) (node_at second.nodes.items d))
        (in_second.devices d (second_device d within)).reading
        ((agree.devices d (subst (λ (n : ℕ). d < n) (sym devices_are) within)).nodes ((in_second.devices d (second_device d within)).up ∙ up))))

    sent_same : MessagesAgree shift first second → flight_count (steps_of one) ≡ shift.messages
    sent_same messages = eqb-true (flight_count (steps_of one)) shift.messages (sym (messages.sent (whole net front plans) one of_first))

    none_sent : MessagesAgree shift first second → flight_count (steps_of other) ≡ 0
    none_sent messages = eqb-true (flight_count (steps_of other)) 0 (sym (messages.sent_none (setting_over net plans) other of_second))

    -- a flight that is on its way is one that was sent
    none_on_its_way : MessagesAgree shift first second → (number : ℕ) (f : Flight) → flight_numbered (steps_of one) number ≡ Some f
        → is_spent (steps_of one) 0 f ≡ false → ⊥
    none_on_its_way messages number f found unspent =
        never (is_spent (steps_of one) 0 f)
        (messages.quiet (whole net front plans) one of_first number f
        (subst (λ (n : ℕ). number ≤ n) (sent_same messages)
        (sent_number (whole net front plans) (steps_of one) number f of_first.fabric.accepted found)) found)
        unspent
      where
        never : (b : Bool) → b ≡ true → b ≡ false → ⊥
        never b is is' = cc

    -- so they differ in nothing
    nothing_differs : MessagesAgree shift first second → (x : Difference) → Differs shift one other x → ⊥
    nothing_differs messages difference.Network h = h
    nothing_differs messages difference.Window h =
        open_never (window_is_open seen) (window_is_open seen_other) (sym in_first.open_window ∙ agree.moments.shut)
        (sym in_second.open_window ∙ agree.moments.shut_other) h
      where
        open_never : (a b : Bool) → a ≡ false → b ≡ false → (a || b) ≡ true → ⊥
        open_never true b shut shut' is = cc
        open_never false true shut shut' is = cc
        open_never false false shut shut' is = cc
    nothing_differs messages difference.Time h = h looks.time
    nothing_differs messages difference.Plan h = h looks.epoch
    nothing_differs messages difference.End h = h looks.ended
    nothing_differs messages difference.Messages h = h (sent_same messages)
    nothing_differs messages difference.Sent h = h (none_sent messages)
    nothing_differs messages (difference.OnItsWay number) h = none_on_its_way messages number h.0 h.1 h.2
    nothing_differs messages (difference.Up d) h = h (up_same d)
    nothing_differs messages (difference.Failed thing) h = h (failed_same thing)
    nothing_differs messages (difference.Reading d) h = h.1 (reading_same d h.0)
    nothing_differs messages (difference.Register d register) h =
        nodes_not_apart shift (latest_reading seen_other d) register (node_in one d) (node_in other d) (nodes_agree d h.0) h.1

    pub opens : shift.plans ≡ length front → MessagesAgree shift first second → Opens shift net front plans one other
    opens behind messages =
        record {
          opening = record {
            behind = behind;
            first_runs = of_first.is_run;
            second_runs = of_second.is_run;
            sent = sent_same messages;
            sent_none = none_sent messages;
            seen = looks;
            devices = λ d up. nodes_alike shift (latest_reading seen_other d) (node_in one d) (node_in other d) (nodes_agree d up);
          };
          quiet = messages.quiet (whole net front plans) one of_first;
          same = nothing_differs messages;
        }

  -- Fleets that differ

  -- what is not the same in the worlds is not in the histories
  apart : {A : Type 0} (x y a b : A) → x ≡ a → y ≡ b → x ≢ y → a ≢ b
  apart x y a b is is' differ same = differ (is ∙ same ∙ sym is')

  open_in : (a b : Bool) → a ≡ window_is_open seen → b ≡ window_is_open seen_other → (a || b) ≡ true → (window_is_open seen || window_is_open seen_other) ≡ true
  open_in a b is is' any = subst (λ (x : Bool). (x || window_is_open seen_other) ≡ true) is (subst (λ (y : Bool). (a || y) ≡ true) is' any)

  within_net : (d : ℕ) → d < devices_of first → d < length net.devices
  within_net d h = subst (λ (n : ℕ). d < n) devices_are h

  link_within : (l : ℕ) → l < links_of first → l < length net.links
  link_within l h = subst (λ (n : ℕ). l < n) links_are h

  pub differ_too : (x : Difference) → FleetsDiffer shift first second x → Differs shift one other x
  differ_too difference.Window h = open_in (is_open (world_of first).window) (is_open (world_of second).window) in_first.open_window in_second.open_window h
  differ_too difference.Time h = apart _ _ _ _ in_first.reference in_second.reference h
  differ_too difference.Plan h = apart _ _ _ _ in_first.epoch (ap (λ (n : ℕ). n + shift.plans) in_second.epoch) h
  differ_too difference.End h = apart _ _ _ _ in_first.ended in_second.ended h
  differ_too (difference.Up d) h =
      let within : d < length net.devices = within_net d h.0 in
      apart _ _ _ _ (in_first.devices d (first_device d within)).up (in_second.devices d (second_device d within)).up h.1
  differ_too (difference.Failed (Device d)) h =
      let within : d < length net.devices = within_net d h.0 in
      apart _ _ _ _ (in_first.devices d (first_device d within)).failed (in_second.devices d (second_device d within)).failed h.1
  differ_too (difference.Failed (Link l)) h =
      let within : l < length net.links = link_within l h.0 in
      apart _ _ _ _ (in_first.links l (first_link l within)) (in_second.links l (second_link l within)) h.1
  differ_too (difference.Reading d) h =
      let within : d < length net.devices = within_net d h.0 in (
        sym (in_second.devices d (second_device d within)).up ∙ h.1,
        apart _ _ _ _ (in_first.devices d (first_device d within)).reading (in_second.devices d (second_device d within)).reading h.2,
      )
  differ_too (difference.Register d register) h =
      let within : d < length net.devices = within_net d h.0 in (
        sym (in_second.devices d (second_device d within)).up ∙ h.1,
        subst (λ (o : Option Registers). NodesDiffer shift (latest_reading seen_other d) register (node_in one d) o) (of_second.nodes d within)
            (subst (λ (o : Option Registers). NodesDiffer shift (latest_reading seen_other d) register o (node_at second.nodes.items d)) (of_first.nodes d within)
            (subst (λ (n : ℕ). NodesDiffer shift n register (node_at first.nodes.items d) (node_at second.nodes.items d))
            (in_second.devices d (second_device d within)).reading h.2)),
      )
  differ_too difference.Network h = absurd h
  differ_too difference.Messages h = absurd h
  differ_too difference.Sent h = absurd h
  differ_too (difference.OnItsWay number) h = absurd h

  -- over one network they have as many devices and links
  pub as_large : (nat_eq (devices_of first) (devices_of second) && nat_eq (links_of first) (links_of second)) ≡ true
  as_large =
      and_from (nat_eq (devices_of first) (devices_of second)) (nat_eq (links_of first) (links_of second))
      (eq-eqb (devices_of first) (devices_of second) (devices_are ∙ sym (ap (λ (n : Network). length n.devices) of_second.fabric.net)))
      (eq-eqb (links_of first) (links_of second) (links_are ∙ sym (ap (λ (n : Network). length n.links) of_second.fabric.net)))

  pub messages_differ_too : (x : Difference) → MessagesDiffer shift first second x → Differs shift one other x
  messages_differ_too difference.Messages h = λ same. never (h (whole net front plans) one of_first ∙ eq-eqb _ _ same)
    where
      never : false ≡ true → ⊥
      never is = cc
  messages_differ_too difference.Sent h = λ same. never (h (setting_over net plans) other of_second ∙ eq-eqb _ _ same)
    where
      never : false ≡ true → ⊥
      never is = cc
  messages_differ_too (difference.OnItsWay number) h = h (whole net front plans) one of_first
  messages_differ_too _ h = absurd h
