-- One more report is what is kept for it.
use Rattle.std.proofs.Common.{◌≡◌, ◌+◌, ◌-◌, ◌<◌, ◌≤◌, ◌∷◌, Bool, true, false, List, None, Some, Option, filter, length, refl, subst, sym, ap, ◌∙◌, arith, sum_by, if◌then◌else◌}
use Rattle.std.specs.Prelude.{not, is_some}
use Rattle.std.proofs.lemmas.List.Elements.{All-cons, All-filter, All-weaker}
use Rattle.std.proofs.lemmas.List.Filters.{length-filter_both}
use mir.Val.{bool_byte}
use Rattle.sd_device.specs.msg.Observed.{ReportAt}
use Rattle.sd_device.specs.msg.Observing.{report_at}
use Rattle.sd_replay.specs.wait.Waiting.{AllBelow, Held, ends_below, with_pending, worst_among}
use Rattle.sd_replay.specs.wait.WaitsView.{waits_seen}
use Rattle.sd_replay.specs.wait.Standing.{StandsFor, transaction}
use Rattle.sd_replay.specs.declared.wait.transactions.Transaction.{Transaction}
use Rattle.sd_replay.specs.declared.wait.printing.Shown.{Shown}
use Rattle.sd_replay.proofs.wait.Keeping.{kept_below, kept_length, none_pending}
use Rattle.sd_replay.proofs.wait.Standing.{IsNext, stands_next}
use Rattle.sd_replay.proofs.wait.waits.WaitsObserver.seen.Goals as goal

byte_is : (b : Bool) → bool_byte b ≡ (if b then 1 else 0)
byte_is true = refl
byte_is false = refl

byte_small : (b : Bool) → bool_byte b ≤ 1
byte_small true = omega arith
byte_small false = omega arith

abbrev shown : Transaction → Option Transaction → Shown
shown begin disorder = record { begin = begin; disorder = disorder }

pub invariant_of-self : goal.invariant_of-self
invariant_of-self c =
    let kept = c.self.inside.waiting.keys in
    let begun = c.self.inside.begun in
    let all : AllBelow begun kept = kept_below c.self.inside.pending kept begun c.self.invariant.below in
    let left : AllBelow begun c.end_below.new.waiting.keys =
    subst (λ (ts : List Transaction). AllBelow begun ts) (sym c.end_below.ensures.left) (All-filter _ (λ (t : Transaction). t.place < begun) kept all) in
    record {
      below = All-cons (λ (t : Transaction). t.place < begun + 1) _ c.end_below.new.waiting.keys (omega arith)
          (All-weaker (λ (t : Transaction). t.place < begun) (λ (t : Transaction). t.place < begun + 1) (λ t less. omega arith) c.end_below.new.waiting.keys left);
      pending = left;
      counted = omega (
        arith,
        ap length c.end_below.ensures.left,
        length-filter_both (ends_below c.args.device c.saturating_sub-low.result)
            (λ t. not (ends_below c.args.device c.saturating_sub-low.result t)) (λ t. refl) kept,
        kept_length c.self.inside.pending kept,
        c.self.invariant.counted,
      );
      disorders = omega (arith, c.self.invariant.disorders, c.from.ensures, byte_small c.is_some.result);
    }

pub returns-clause-told : goal.returns-clause-told
returns-clause-told c = λ told stands.
    let x : ReportAt = report_at c.args.line c.args.device c.args.reference c.args.report in
    let low = c.saturating_sub-low.ensures in
    let kept = c.self.inside.waiting.keys in
    let begin : Transaction = transaction c.self.inside.begun x in
    let none : c.self.inside.pending ≡ None =
    none_pending c.self.inside.pending (omega (arith, subst (λ (held : Held). 1 ≤ held.room) (sym c.self.view_is) c.requires.ready)) in
    let next : IsNext _ _ x = record {
      waiting = λ f. ap (λ ts. sum_by f (begin ∷ ts)) c.end_below.ensures.left
          ∙ ap (λ n. sum_by f (begin ∷ filter (λ t. not (ends_below x.device n t)) kept)) low
          ∙ sym (ap (λ o. sum_by f (begin ∷ filter (λ t. not (ends_below x.device (x.report.clock - x.report.eps) t)) (with_pending o kept))) none);
      sums = λ f. c.sort_by_place.ensures.same f ∙ ap (sum_by f) c.end_below.ensures.ended
          ∙ ap (λ n. sum_by f (filter (ends_below x.device n) kept)) low
          ∙ sym (ap (λ o. sum_by f (filter (ends_below x.device (x.report.clock - x.report.eps)) (with_pending o kept))) none);
      rises = c.sort_by_place.ensures.rises;
      worst = c.worst_of-self-inside.ensures ∙ ap (worst_among c.self.inside.worst) c.deref.ensures.value;
      last = ap (λ (o : Option Transaction). Some (shown (transaction c.self.inside.begun x) o)) c.disordered_by-disorder.ensures;
      begun = refl;
      disorders = ap (λ n. c.self.inside.disorders + n) (c.from.ensures ∙ byte_is c.is_some.result
          ∙ ap (λ b. if b then 1 else 0) (c.is_some.ensures ∙ ap is_some c.disordered_by-disorder.ensures));
    } in
    stands_next (waits_seen c.self.inside) _ x told (subst (λ (held : Held). StandsFor held told) (sym c.self.view_is) stands) next
