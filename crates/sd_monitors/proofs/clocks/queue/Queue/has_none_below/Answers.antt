use Rattle.std.proofs.Common.{◌≡◌, ℕ, ◌<◌, ◌≤◌, Bool, true, false, nat_le, List, length, map, ap, ◌∙◌, subst, refl, arith}
use Rattle.std.specs.List.{list_all}
use Rattle.std.proofs.lemmas.Bool.{leb-true, le-leb}
use Rattle.std.proofs.lemmas.Bool.Decides.{same_from_decides}
use Rattle.sd_monitors.specs.declared.clocks.queue.Mark.{Mark}
use Rattle.sd_monitors.specs.declared.clocks.queue.Entry.{Entry}
use Rattle.sd_monitors.specs.declared.clocks.queue.Queue.TheInside.{Inside}
use Rattle.sd_monitors.specs.clocks.Queues.{reach, mark_at, number_at, is_queued_at}
use Rattle.sd_monitors.proofs.clocks.Queueing.{queued_reaches, all_reach}
use Rattle.sd_monitors.proofs.clocks.queue.Queue.has_none_below.Goals as goal
use Rattle.sd_monitors.proofs.clocks.queue.Queue.has_none_below.Goals.{then-self-bound, else-self-bound}

-- where the bound for those that are out of the queue tells of them, it tells of all
told : (marks : List Mark) (entries : List Entry) (bound least : ℕ) → reach bound entries ≡ true
    → ((k : ℕ) → k < length marks → (mark_at marks k).queued ≡ true → is_queued_at marks k entries ≡ true)
    → ((k : ℕ) → k < length marks → (mark_at marks k).queued ≡ false → least ≤ number_at marks k)
    → (list_all (nat_le bound) (map (λ m. m.number) marks) ≡ true → bound ≤ least)
    → nat_le bound least ≡ list_all (nat_le bound) (map (λ m. m.number) marks)
told marks entries bound least reached queued others low =
    same_from_decides (nat_le bound least) (list_all (nat_le bound) (map (λ (m : Mark). m.number) marks))
    (λ at. all_reach bound marks (λ k within. by (mark_at marks k).queued k within refl (leb-true bound least at)), λ all. le-leb bound least (low all))
    (λ all. all, λ all. all)
  where
    by : (q : Bool) (k : ℕ) → k < length marks → (mark_at marks k).queued ≡ q → bound ≤ least → bound ≤ number_at marks k
    by true k within is at = queued_reaches bound k (number_at marks k) entries reached (queued k within is)
    by false k within is at = let high : least ≤ number_at marks k = others k within is in omega (arith, high, at)

pub returns-clause-answer : goal.returns-clause-answer
returns-clause-answer c =
    let old = c.self.inside in
    let entries = c.has_live_below.new.entries.items in
    let reached = c.has_live_below.ensures.reached c.if-has_live_below.false in
    let queued : (k : ℕ) → k < length old.marks.items → (mark_at old.marks.items k).queued ≡ true → is_queued_at old.marks.items k entries ≡ true =
    λ k within is. subst (λ (ms : List Mark). k < length ms → is_queued_at ms k old.entries.items ≡ true → is_queued_at ms k entries ≡ true)
    c.deref.ensures.value (c.has_live_below.ensures.kept k) within (c.self.invariant.queued k within is) in
    elim c.if-self-bound.branch [
      | then-self-bound w ↦
          ap (λ (i : Inside). nat_le c.args.bound i.least) w.self-inside-is
          ∙ told old.marks.items entries c.args.bound w.least_of-self-inside.result reached queued
          (subst (λ (ms : List Mark). (k : ℕ) → k < length ms → (mark_at ms k).queued ≡ false → w.least_of-self-inside.result ≤ number_at ms k)
          w.deref-then-self-bound.ensures.value w.least_of-self-inside.ensures.low)
          (λ all. subst (λ (ms : List Mark). list_all (nat_le c.args.bound) (map (λ m. m.number) ms) ≡ true → c.args.bound ≤ w.least_of-self-inside.result)
          w.deref-then-self-bound.ensures.value (w.least_of-self-inside.ensures.reached c.args.bound (omega arith)) all)
          ∙ ap (list_all (nat_le c.args.bound)) c.self.view_is
      | else-self-bound w ↦
          ap (λ (i : Inside). nat_le c.args.bound i.least) w.self-inside-is
          ∙ told old.marks.items entries c.args.bound old.least reached queued c.self.invariant.others (λ all. w.if-self-bound.false)
          ∙ ap (list_all (nat_le c.args.bound)) c.self.view_is
    ]
