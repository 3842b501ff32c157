-- While no line names a premise as broken, the premise holds; and the order of the lines of one event.
use Rattle.std.specs.Prelude.{◌≡◌, ℕ, zero, suc, ◌+◌, ◌<◌, Bool, true, false, cond, ◌&&◌, not, List, ◌∷◌, ◌++◌, count_by, refl}
use Rattle.std.proofs.Common.{arith, ap}
use Rattle.std.proofs.lemmas.Bool.{and_parts, and_from}
use Rattle.sd_history.specs.declared.BrokenSet.{BrokenSet}
use Rattle.sd_history.specs.World.{Setting, Seen}
use Rattle.sd_history.specs.Steps.{Step, seen_of}
use Rattle.sd_history.proofs.Parts.{premises_of, premises_hold}
use Rattle.sd_history.specs.Premises.{breaks, is_honest, all_hold, start_holds, drift_holds, delay_holds, tick_holds, loss_holds, domain_holds, renew_holds}
use Rattle.sd_history.specs.Lines.{Line, Premise, Broken, broken_lines, lines_of}
use Rattle.sd_history.specs.Lines as premise
use Rattle.sd_headline.specs.Headlines.{none_before}
use Rattle.sd_headline.specs.Kinds.{names_dishonesty}
use Rattle.sd_headline.proofs.Behind.{Goes, none_at_all, extended}
use Rattle.sd_replay.specs.Tallies.{is_broken}
use Rattle.sd_replay.proofs.Counted.{count_append, line_if, split}
use Rattle.sd_replay.proofs.Due.{broken, loop, acting, told, four_parts, none_broken}

-- Lines of premises

off_if : (test : Line → Bool) (b : Bool) (p : Premise) → count_by test (line_if b p) ≡ 0 → test (Broken p) ≡ true → b ≡ false
off_if test true p none is = let one : 0 + cond {A = ℕ} (test (Broken p)) 1 0 ≡ 1 = ap (λ t. 0 + cond {A = ℕ} t 1 0) is in absurd (omega (arith, none, one))
off_if test false p none is = refl

-- where no line is of a kind, no premise of that kind breaks
record AreOff (test : Line → Bool) (b : BrokenSet) : Type 0 where
  start : test (Broken premise.Start) ≡ true → b.start ≡ false
  drift : test (Broken premise.Drift) ≡ true → b.drift ≡ false
  delay : test (Broken premise.Delay) ≡ true → b.delay ≡ false
  tick : test (Broken premise.Tick) ≡ true → b.tick ≡ false
  loss : test (Broken premise.Loss) ≡ true → b.loss ≡ false
  domain : test (Broken premise.Domain) ≡ true → b.domain ≡ false
  renew : test (Broken premise.Renew) ≡ true → b.renew ≡ false

are_off : (test : Line → Bool) (b : BrokenSet) → count_by test (broken_lines b) ≡ 0 → AreOff test b
are_off test b none =
    let all = split b test in
    record {
      start = off_if test b.start premise.Start (omega (arith, all, none));
      drift = off_if test b.drift premise.Drift (omega (arith, all, none));
      delay = off_if test b.delay premise.Delay (omega (arith, all, none));
      tick = off_if test b.tick premise.Tick (omega (arith, all, none));
      loss = off_if test b.loss premise.Loss (omega (arith, all, none));
      domain = off_if test b.domain premise.Domain (omega (arith, all, none));
      renew = off_if test b.renew premise.Renew (omega (arith, all, none));
    }

-- a premise that held and does not break still holds
still : (before now : Bool) → before ≡ true → (not now && not (not before)) ≡ false → now ≡ true
still true true held off = refl
still true false held off = cc
still false now held off = cc

module _ (setting : Setting) (s : Step) (earlier : List Step) where
  abbrev seen : List Seen
  seen = seen_of earlier

  pub honest_still : is_honest setting seen ≡ true → count_by names_dishonesty (broken setting s earlier) ≡ 0 → is_honest setting (s.seen ∷ seen) ≡ true
  honest_still honest none =
      let off = are_off names_dishonesty (breaks setting (seen_of (s ∷ earlier))) none in
      let outer = and_parts (start_holds seen && drift_holds setting seen) (delay_holds setting seen) honest in
      let inner = and_parts (start_holds seen) (drift_holds setting seen) outer.0 in
      and_from (start_holds (s.seen ∷ seen) && drift_holds setting (s.seen ∷ seen)) (delay_holds setting (s.seen ∷ seen))
      (and_from (start_holds (s.seen ∷ seen)) (drift_holds setting (s.seen ∷ seen))
      (still (start_holds seen) (start_holds (s.seen ∷ seen)) inner.0 (off.start refl))
      (still (drift_holds setting seen) (drift_holds setting (s.seen ∷ seen)) inner.1 (off.drift refl)))
      (still (delay_holds setting seen) (delay_holds setting (s.seen ∷ seen)) outer.1 (off.delay refl))

  pub all_still : all_hold setting seen ≡ true → count_by is_broken (broken setting s earlier) ≡ 0 → all_hold setting (s.seen ∷ seen) ≡ true
  all_still hold none =
      let off = are_off is_broken (breaks setting (seen_of (s ∷ earlier))) none in
      let before = premises_of setting seen hold in
      premises_hold setting (s.seen ∷ seen)
      (record {
        start = still (start_holds seen) (start_holds (s.seen ∷ seen)) before.start (off.start refl);
        drift = still (drift_holds setting seen) (drift_holds setting (s.seen ∷ seen)) before.drift (off.drift refl);
        delay = still (delay_holds setting seen) (delay_holds setting (s.seen ∷ seen)) before.delay (off.delay refl);
        tick = still (tick_holds setting seen) (tick_holds setting (s.seen ∷ seen)) before.tick (off.tick refl);
        loss = still (loss_holds setting seen) (loss_holds setting (s.seen ∷ seen)) before.loss (off.loss refl);
        domain = still (domain_holds setting seen) (domain_holds setting (s.seen ∷ seen)) before.domain (off.domain refl);
        renew = still (renew_holds setting seen) (renew_holds setting (s.seen ∷ seen)) before.renew (off.renew refl);
      })

-- The order of an event's lines: those of premises come first.

module _ (setting : Setting) (s : Step) (earlier : List Step) where
  behind_broken : (bad first : Line → Bool) → count_by bad (broken setting s earlier) ≡ 0 → 0 < count_by first (broken setting s earlier)
      → none_before bad first (lines_of setting (s ∷ earlier)) ≡ true
  behind_broken bad first none some =
      let l = count_append first (broken setting s earlier) (loop setting s earlier) in
      let r = count_append first (broken setting s earlier ++ (loop setting s earlier)) (acting setting s earlier) in
      extended bad first (broken setting s earlier ++ (loop setting s earlier) ++ (acting setting s earlier)) (told setting s earlier)
      (extended bad first (broken setting s earlier ++ (loop setting s earlier)) (acting setting s earlier)
      (extended bad first (broken setting s earlier) (loop setting s earlier) (none_at_all bad first (broken setting s earlier) none) some)
      (omega (arith, l, some)))
      (omega (arith, l, r, some))

  -- an event goes on: its lines of premises are not of the bad kind, and where none of them is of the other kind, no other line is bad
  pub event_goes : {Well : Type 0} (bad first : Line → Bool) → ((p : Premise) → bad (Broken p) ≡ false)
      → (count_by first (broken setting s earlier) ≡ 0 → Well
      × (count_by bad (loop setting s earlier) + count_by bad (acting setting s earlier) + count_by bad (told setting s earlier) ≡ 0))
      → Goes bad first (lines_of setting (s ∷ earlier)) Well
  event_goes {Well} bad first never calm =
      record {
        none = by (count_by first (broken setting s earlier)) refl;
        well = λ nothing. let all = four_parts setting s earlier first in (calm (omega (arith, all, nothing))).0;
      }
    where
      by : (n : ℕ) → count_by first (broken setting s earlier) ≡ n → none_before bad first (lines_of setting (s ∷ earlier)) ≡ true
      by zero is =
          let all = four_parts setting s earlier bad in
          let before = none_broken bad never (breaks setting (seen_of (s ∷ earlier))) in
          let behind = (calm is).1 in
          none_at_all bad first (lines_of setting (s ∷ earlier)) (omega (arith, all, before, behind))
      by (suc n) is = behind_broken bad first (none_broken bad never (breaks setting (seen_of (s ∷ earlier)))) (omega (arith, is))
