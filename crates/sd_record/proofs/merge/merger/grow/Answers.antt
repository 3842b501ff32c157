use Rattle.std.proofs.Common.{◌≡◌, ◌≤◌, arith, ap, sym, ◌∙◌, ◌-◌, ◌+◌, ◌^◌, ℕ, length, List, None, Ok, Some, refl, subst}
use Rattle.sd_record.specs.merge.Feeds.{behind_number, log_number, reference_told, told_in}
use Rattle.sd_record.specs.merge.Follows.{Grows}
use Rattle.sd_record.specs.merge.Queues.{Queue, new_queue}
use Rattle.sd_record.specs.declared.merge.feed.Told.{Told}
use Rattle.sd_record.specs.declared.merge.feed.Told.TheVariants.{EntryAt, PastAt}
use Rattle.sd_record.proofs.merge.Queueing.{grows_entry, grows_past, refused_late}
use Rattle.sd_record.proofs.merge.merger.grow.Goals as goal

pub returns-then-reference-from : goal.returns-then-reference-from
returns-then-reference-from c =
    λ taken follows.
    (let number : log_number (length c.args.logs.now) c.args.line.now ≡ Some c.in-Some.number =
    ap (λ (n : ℕ). log_number n c.args.line.now) (sym c.count.ensures) ∙ sym c.log_number.ensures.number ∙ c.in-Some.is in
    let tells : told_in (behind_number c.args.line.now) ≡ Ok (EntryAt c.in-Ok-EntryAt.reference) =
    sym (ap told_in c.behind_number-bytes.ensures) ∙ sym c.read_told.ensures.told ∙ c.in-Ok-EntryAt.is
    ∙ ap (λ (t : Told). Ok t) c.in-Ok-EntryAt.field-0-is in
    let place : c.in-Some.number ≡ 1 + (c.in-Some.number - 1) = omega (arith, c.in-Some.ensures.some) in (
      refused_late c.args.logs.now c.args.line.now c.in-Some.number number c.in-Some.ensures.some
          (omega (arith, c.in-Some.ensures.within, c.count.ensures)) (c.in-Some.number - 1) place new_queue c.in-Ok-EntryAt.reference tells
          (omega (arith, c.from.ensures)) taken follows,
      refl,
    ))

pub returns-in_ok-pass-in-Ok-PastAt : goal.returns-in_ok-pass-in-Ok-PastAt
returns-in_ok-pass-in-Ok-PastAt c =
    let number : log_number (length c.args.logs.now) c.args.line.now ≡ Some c.in-Some.number =
    ap (λ (n : ℕ). log_number n c.args.line.now) (sym c.count.ensures) ∙ sym c.log_number.ensures.number ∙ c.in-Some.is in
    let tells : told_in (behind_number c.args.line.now) ≡ Ok (PastAt c.in-Ok-PastAt.reference) =
    sym (ap told_in c.behind_number-bytes.ensures) ∙ sym c.read_told.ensures.told ∙ c.in-Ok-PastAt.is
    ∙ ap (λ (t : Told). Ok t) c.in-Ok-PastAt.field-0-is in
    let place : c.in-Some.number ≡ 1 + (c.in-Some.number - 1) = omega (arith, c.in-Some.ensures.some) in
    subst (λ (queues : List Queue). Grows c.args.logs.now queues c.args.line.now None) (sym c.in_ok-pass-in-Ok-PastAt.ensures)
    (grows_past c.args.logs.now c.args.line.now c.in-Some.number number c.in-Some.ensures.some (omega (arith, c.in-Some.ensures.within, c.count.ensures))
    (c.in-Some.number - 1) place new_queue c.in-Ok-PastAt.reference tells _ refl)

pub returns-in_ok-push-in-Ok-EntryAt : goal.returns-in_ok-push-in-Ok-EntryAt
returns-in_ok-push-in-Ok-EntryAt c =
    let number : log_number (length c.args.logs.now) c.args.line.now ≡ Some c.in-Some.number =
    ap (λ (n : ℕ). log_number n c.args.line.now) (sym c.count.ensures) ∙ sym c.log_number.ensures.number ∙ c.in-Some.is in
    let tells : told_in (behind_number c.args.line.now) ≡ Ok (EntryAt c.in-Ok-EntryAt.reference) =
    sym (ap told_in c.behind_number-bytes.ensures) ∙ sym c.read_told.ensures.told ∙ c.in-Ok-EntryAt.is
    ∙ ap (λ (t : Told). Ok t) c.in-Ok-EntryAt.field-0-is in
    let place : c.in-Some.number ≡ 1 + (c.in-Some.number - 1) = omega (arith, c.in-Some.ensures.some) in
    subst (λ (queues : List Queue). Grows c.args.logs.now queues c.args.line.now None) (sym c.in_ok-push-in-Ok-EntryAt.ensures)
    (grows_entry c.args.logs.now c.args.line.now c.in-Some.number number c.in-Some.ensures.some (omega (arith, c.in-Some.ensures.within, c.count.ensures))
    (c.in-Some.number - 1) place new_queue c.in-Ok-EntryAt.reference tells (omega (arith, c.from.ensures, c.if-reference-from.false))
    (subst (λ (t : Told). reference_told t ≤ 2 ^ 60) c.in-Ok-EntryAt.field-0-is c.in-Ok-EntryAt.ensures.within) c.in_ok-new-in-Ok-EntryAt.field-0
    (c.in_ok-new-in-Ok-EntryAt.ensures
    ∙ ap (λ (bytes : List ℕ). record { log = c.in-Some.number; reference = c.in-Ok-EntryAt.reference; bytes = bytes }) c.behind_number-bytes.ensures)
    _ refl)
