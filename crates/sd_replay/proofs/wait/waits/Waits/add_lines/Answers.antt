-- What the last report shows is what its lines say.
use Rattle.std.proofs.Common.{◌≡◌, ◌-◌, ◌++◌, ℕ, List, Some, length, map, sym, ap, ◌∙◌, subst}
use Rattle.std.proofs.lemmas.List.{append-nil}
use Rattle.std.proofs.lemmas.Result.{on_ok_weaker}
use Rattle.sd_device.specs.msg.Observed.{ReportAt}
use Rattle.sd_replay.specs.wait.Waits.{ended_at}
use Rattle.sd_replay.specs.wait.Printed.{bytes_at}
use Rattle.sd_replay.specs.wait.Waiting.{Held, shown_bytes}
use Rattle.sd_replay.specs.wait.WaitsView.{waits_seen}
use Rattle.sd_replay.specs.wait.Standing.{StandsFor, transaction_at}
use Rattle.sd_replay.specs.declared.wait.transactions.Transaction.{Transaction}
use Rattle.sd_replay.specs.declared.wait.printing.Shown.{Shown}
use Rattle.sd_replay.proofs.wait.Texts.{printed, nothing, shows_last, shows_none}
use Rattle.sd_replay.proofs.wait.waits.Waits.add_lines.Goals as goal

shows : (held : Held) (told : List ReportAt) (shown : Shown) (name : List ℕ) → StandsFor held told → held.last ≡ Some shown
    → shown_bytes held.ended shown name ≡ bytes_at told (length told - 1) name
shows held told shown name stands is =
    let last = shows_last told held.last stands.last shown is in
    ap (λ ended. shown_bytes ended shown name) stands.ended ∙ ap (λ s. shown_bytes (map (transaction_at told) (ended_at told (length told - 1))) s name) last.1
    ∙ printed told (length told - 1) name last.0

pub returns-in-Some : goal.returns-in-Some
returns-in-Some c = λ told stands.
    let stood : StandsFor (waits_seen c.self.inside) told = subst (λ (held : Held). StandsFor held told) (sym c.self.view_is) stands in
    on_ok_weaker c.print.result
    (λ added. added
    ∙ ap (λ (bytes : List ℕ). c.args.text.now.items ++ bytes)
    (ap (λ (ended : List Transaction). shown_bytes ended c.in-Some.shown c.args.name.now) c.as_slice.ensures.value
    ∙ shows (waits_seen c.self.inside) told c.in-Some.shown c.args.name.now stood c.in-Some.is))
    c.print.ensures

pub returns-in-None : goal.returns-in-None
returns-in-None c = λ told stands.
    let stood : StandsFor (waits_seen c.self.inside) told = subst (λ (held : Held). StandsFor held told) (sym c.self.view_is) stands in
    sym
    (ap (λ (bytes : List ℕ). c.args.text.now.items ++ bytes)
    (nothing told c.args.name.now (shows_none told c.self.inside.last stood.last c.in-None.is)) ∙ append-nil c.args.text.now.items)
