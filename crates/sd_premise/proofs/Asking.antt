-- Where the monitors stand for a list, each event that can follow it can be observed, given room for its flights.
use Rattle.std.proofs.Common.{◌≡◌, ◌^◌, ◌<◌, ◌≤◌, Bool, true, false, not, ◌||◌, List, length, Option, Some, None, is_some, refl, subst, arith}
use Rattle.std.specs.Prelude.{IfSome}
use Rattle.std.proofs.lemmas.Bool.{leb-false}
use Rattle.sd_num.specs.Lists.{map_or}
use Rattle.sd_plan.specs.topo.Network.{Network}
use Rattle.sd_sched.specs.Events.{is_commit}
use Rattle.sd_history.specs.World.{Setting, Seen, window, window_is_open, has_commit, epoch_in_force}
use Rattle.sd_world.proofs.world.Answers.{named_stands}
use Rattle.sd_monitors.proofs.loss.rounds.InOrder.{device_known, link_known}
use Rattle.sd_monitors.proofs.renewal.Allowed.{is_allowed, commit_opened}
use Rattle.sd_premise.specs.Order.{CanFollow}
use Rattle.sd_premise.specs.Standing.{StandsFor, CanObserve, room_of}
use Rattle.sd_premise.specs.declared.premises.Premises.{Premises}
use Rattle.sd_premise.proofs.Following.{sent_known}

-- a window that closes is open
closing_opened : (setting : Setting) (earlier : List Seen) (s : Seen) → CanFollow setting earlier s → s.closed ≡ true → window_is_open earlier ≡ true
closing_opened setting earlier s can closes = by s.closed (is_commit s.event) (has_commit earlier) refl refl closes can.closing
  where
    committed : (o : Option (List Seen)) (test : List Seen → Bool) → map_or o false test ≡ true → is_some o ≡ true
    committed None test there = cc
    committed (Some w) test there = refl

    by : (closed commit had : Bool) → is_commit s.event ≡ commit → has_commit earlier ≡ had → closed ≡ true → (not closed || commit || had) ≡ true
        → window_is_open earlier ≡ true
    by true true had is was closes' can' = commit_opened setting earlier s.event can.allowed is
    by true false true is was closes' can' = committed (window earlier) _ was
    by true false false is was closes' can' = cc
    by false commit had is was closes' can' = cc

pub can_observe : (premises : Premises) (setting : Setting) (earlier : List Seen) (s : Seen) → StandsFor premises setting earlier → CanFollow setting earlier s
    → length s.sent ≤ room_of premises → CanObserve premises s
can_observe premises setting earlier s stands can room = record {
  room = room;
  named = named_stands premises.world setting earlier s.event stands.world (device_known setting earlier s.event can.allowed)
      (link_known setting earlier s.event can.allowed);
  activated = subst (λ (net : Network). IfSome s.activated (λ d. d < length net.devices)) stands.net can.activated;
  taken = λ f is. subst (λ (net : Network). f.link < length net.links) stands.net (sent_known setting earlier f stands.order (can.taken f is).sent);
  events = omega (arith, stands.world.events, leb-false (2 ^ 26) (length earlier) (is_allowed setting earlier s.event can.allowed).few);
  epoch = λ closes.
      (let planned : epoch_in_force earlier < length setting.plans = stands.renew.planned (closing_opened setting earlier s can closes) in
      omega (arith, planned, stands.count, stands.world.epoch));
}
