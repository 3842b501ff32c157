-- As many have ended as do not wait.
use Rattle.std.proofs.Common.{◌≡◌, ◌-◌, ℕ, List, length, count_by, sym, ap, ◌∙◌, subst, arith}
use Rattle.std.specs.Prelude.{is_some}
use Rattle.sd_num.specs.Lists.{below}
use Rattle.sd_device.specs.msg.Observed.{ReportAt}
use Rattle.sd_replay.specs.wait.Waits.{end_place, tally_of}
use Rattle.sd_replay.specs.wait.WaitsView.{waits_seen}
use Rattle.sd_replay.specs.wait.Standing.{unended, StandsFor}
use Rattle.sd_replay.specs.wait.Waiting.{Held}
use Rattle.sd_replay.specs.declared.wait.WaitTally.{WaitTally}
use Rattle.sd_replay.proofs.wait.Ends.{counted}
use Rattle.sd_replay.proofs.wait.Keeping.{same_length}
use Rattle.sd_replay.proofs.wait.waits.Waits.tally.Goals as goal

abbrev made : ℕ → ℕ → ℕ → WaitTally
made begun ended disorders = record { begun = begun; ended = ended; disorders = disorders }

tally : (held : Held) (told : List ReportAt) → StandsFor held told → (n : ℕ) → n ≡ length held.waiting
    → ◌≡◌ {A = WaitTally} (record { begun = held.begun; ended = held.begun - n; disorders = held.disorders }) (tally_of told)
tally held told stands n is =
    let many : n ≡ length (unended told (length told)) = is ∙ same_length held.waiting (unended told (length told)) stands.waiting in
    let ended : held.begun - n ≡ count_by (λ i. is_some (end_place told i)) (below (length told)) =
    omega (arith, many, stands.begun, counted told (length told)) in
    ap (λ b. made b (held.begun - n) held.disorders) stands.begun ∙ ap (λ e. made (length told) e held.disorders) ended
    ∙ ap (λ d. made (length told) (count_by (λ i. is_some (end_place told i)) (below (length told))) d) stands.disorders

pub returns : goal.returns
returns c = λ told stands. tally (waits_seen c.self.inside) told (subst (λ (held : Held). StandsFor held told) (sym c.self.view_is) stands) c.count.result
    (c.count.ensures ∙ ap (λ (held : Held). length held.waiting) (sym c.self.view_is))
