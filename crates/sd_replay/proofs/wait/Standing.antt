-- What is kept stands for one more report.
use Rattle.std.specs.Prelude.{◌≡◌, ◌+◌, ◌-◌, not, List, ◌∷◌, length, filter, map, count_by, sum_by, Option, Some, None, is_some, if◌then◌else◌}
use Rattle.std.specs.List.Sorted.{IsNonDecreasingBy}
use Rattle.std.proofs.Common.{sym, ap, ◌∙◌, arith, subst}
use Rattle.std.proofs.lemmas.Bool.{lt-ltb}
use Rattle.std.proofs.lemmas.List.Sums.{sum_by-cons}
use Rattle.sd_num.specs.Lists.{below}
use Rattle.sd_device.specs.msg.Observed.{ReportAt}
use Rattle.sd_replay.specs.wait.Waits.{stamp_of, stamp_at, ended_at, has_disorder}
use Rattle.sd_replay.specs.wait.Waiting.{Held, HaveSameSums, ends_below, worst_among, disordered_by}
use Rattle.sd_replay.specs.wait.Standing.{transaction, transaction_at, unended, shown_at, last_shown, HasWorst, StandsFor}
use Rattle.sd_replay.specs.declared.wait.transactions.Transaction.{Transaction}
use Rattle.sd_replay.specs.declared.wait.printing.Shown.{Shown}
use Rattle.sd_replay.proofs.wait.Below.{count_more, same_count}
use Rattle.sd_replay.proofs.wait.Ends.{now, ends_at_x, length_more, transaction_new, unended_now, ended_sums, ended_rises, stamp_is}
use Rattle.sd_replay.proofs.wait.Rising.{same_rise}
use Rattle.sd_replay.proofs.wait.Keeping.{same_filter}
use Rattle.sd_replay.proofs.wait.Worsts.{next_worst, found, shown_disorder, same_disorder}

-- what is kept after one more report, of what was kept before
pub record IsNext (before after : Held) (x : ReportAt) : Type 0 where
  pub waiting : HaveSameSums after.waiting
      (transaction before.begun x ∷ filter (λ t. not (ends_below x.device (x.report.clock - x.report.eps) t)) before.waiting)
  pub sums : HaveSameSums after.ended (filter (ends_below x.device (x.report.clock - x.report.eps)) before.waiting)
  pub rises : IsNonDecreasingBy (λ (t : Transaction). t.place) after.ended
  pub worst : after.worst ≡ worst_among before.worst after.ended
  pub last : after.last ≡ Some (record { begin = transaction before.begun x; disorder = disordered_by after.worst (stamp_of x) })
  pub begun : after.begun ≡ before.begun + 1
  pub disorders : after.disorders ≡ before.disorders + (if is_some (disordered_by after.worst (stamp_of x)) then 1 else 0)

module _ (before after : Held) (x : ReportAt) (told : List ReportAt) (stands : StandsFor before told) (next : IsNext before after x) where
  abbrev longer : List ReportAt
  longer = now told x

  last_place : length longer - 1 ≡ length told
  last_place = omega (arith, length_more told x)

  abbrev begin : Transaction
  begin = transaction (length told) x

  begin_is : transaction before.begun x ≡ begin
  begin_is = ap (λ n. transaction n x) stands.begun

  waiting_is : HaveSameSums after.waiting (unended longer (length longer))
  waiting_is f =
      let others = same_filter (λ t. not (ends_at_x told x t)) before.waiting (unended told (length told)) stands.waiting in
      next.waiting f ∙ ap (λ t. sum_by f (t ∷ filter (λ t. not (ends_at_x told x t)) before.waiting)) begin_is
      ∙ sum_by-cons f begin (filter (λ t. not (ends_at_x told x t)) before.waiting)
      ∙ ap (λ n. f begin + n) (others f)
      ∙ sym (sum_by-cons f begin (filter (λ t. not (ends_at_x told x t)) (unended told (length told))))
      ∙ ap (sum_by f) (sym (unended_now told x))

  ended_here : after.ended ≡ map (transaction_at longer) (ended_at longer (length told))
  ended_here = sym (same_rise (map (transaction_at longer) (ended_at longer (length told))) after.ended (ended_rises told x) next.rises
      (λ f. ended_sums told x f ∙ sym (same_filter (ends_at_x told x) before.waiting (unended told (length told)) stands.waiting f)
      ∙ sym (next.sums f)))

  worst_is : HasWorst longer after.worst
  worst_is = subst (λ o. HasWorst longer o) (sym (next.worst ∙ ap (worst_among before.worst) ended_here)) (next_worst told x before.worst stands.worst)

  stamp_here : stamp_at longer (length told) ≡ stamp_of x
  stamp_here = sym (stamp_is longer (length told)) ∙ ap (λ (t : Transaction). t.stamp) (transaction_new told x)

  last_is : after.last ≡ last_shown longer
  last_is =
      next.last ∙ ap Some shown_is ∙ ap (λ k. Some (shown_at longer k)) (sym last_place)
      ∙ ap (λ b. if b then Some (shown_at longer (length longer - 1)) else None) (sym (lt-ltb 0 (length longer) (omega (arith, length_more told x))))
    where
      made : Transaction → Option Transaction → Shown
      made begin disorder = record { begin = begin; disorder = disorder }

      shown_is : record { begin = transaction before.begun x; disorder = disordered_by after.worst (stamp_of x) } ≡ shown_at longer (length told)
      shown_is =
          ap (λ t. with_begin t) (begin_is ∙ sym (transaction_new told x))
          ∙ ap (λ o. with_disorder o) (ap (disordered_by after.worst) (sym stamp_here)
          ∙ sym (shown_disorder longer (length told) (length_more told x) after.worst worst_is))
        where
          with_begin : Transaction → Shown
          with_begin t = record { begin = t; disorder = disordered_by after.worst (stamp_of x) }

          with_disorder : Option Transaction → Shown
          with_disorder o = record { begin = transaction_at longer (length told); disorder = o }

  disorders_are : after.disorders ≡ count_by (has_disorder longer) (below (length longer))
  disorders_are =
      let here : has_disorder longer (length told) ≡ is_some (disordered_by after.worst (stamp_of x)) =
      (found longer (length told) (length_more told x) after.worst worst_is).1 ∙ ap (λ s. is_some (disordered_by after.worst s)) stamp_here in
      next.disorders
      ∙ ap (λ n. n + (if is_some (disordered_by after.worst (stamp_of x)) then 1 else 0))
      (stands.disorders ∙ sym (same_count (has_disorder longer) (has_disorder told) (length told) (λ k less. same_disorder told x k less)))
      ∙ ap (λ b. count_by (has_disorder longer) (below (length told)) + (if b then 1 else 0)) (sym here)
      ∙ sym (count_more (has_disorder longer) (length told)) ∙ ap (λ n. count_by (has_disorder longer) (below n)) (sym (length_more told x))

  pub stands_next : StandsFor after longer
  stands_next = record {
    waiting = waiting_is;
    ended = ended_here ∙ ap (λ k. map (transaction_at longer) (ended_at longer k)) (sym last_place);
    worst = worst_is;
    last = last_is;
    begun = next.begun ∙ ap (λ n. n + 1) stands.begun ∙ omega (arith, length_more told x);
    disorders = disorders_are;
  }
