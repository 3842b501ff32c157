-- What holds at an event held at each one before: all premises of a list of steps are premises of what is left behind its newest.
use Rattle.std.specs.Prelude.{◌≡◌, ℕ, suc, ◌+◌, Bool, true, false, ◌&&◌, not, List, refl}
use Rattle.std.specs.List.{list_all}
use Rattle.std.proofs.Common.{sym, ◌∙◌, subst, add-one}
use Rattle.sd_num.specs.Lists.{below}
use Rattle.sd_device.specs.declared.msg.Stamp.{Stamp}
use Rattle.sd_history.specs.World.{Setting}
use Rattle.sd_history.specs.Steps.{Step, seen_of}
use Rattle.sd_history.specs.Premises.{reads_honestly, arrives_in_time, ticks_in_time, spoiled_rounds, all_from, loss_holds, fails_within_one, commits_orderly, seals_orderly, fails_orderly, begins_orderly}
use Rattle.sd_safety.specs.invariant.Guarded.{all_but_start_hold}
use Rattle.sd_history.proofs.Among.{passes, all_pass}
use Rattle.sd_history.specs.Rounds.{is_spoiled}
use Rattle.sd_safety.proofs.invariant.Parts.{AllButStart, premises_of, premises_hold}
use Rattle.sd_safety.specs.messages.Moments.{Tail}
use Rattle.sd_safety.proofs.messages.Tails.{tail_all, tail_each}
use Rattle.sd_safety.proofs.messages.Spoils.{clean_before}
use Rattle.sd_safety.proofs.messages.Cleans.{not_all}

-- Loss: what was spoiled is spoiled, so no more rounds were spoiled before.

spoiled_on : (older steps : List Step) (term round : ℕ) → Tail older steps → is_spoiled (seen_of older) term round ≡ true
    → is_spoiled (seen_of steps) term round ≡ true
spoiled_on older steps term round t bad = go (is_spoiled (seen_of steps) term round) refl
  where
    go : (b : Bool) → is_spoiled (seen_of steps) term round ≡ b → is_spoiled (seen_of steps) term round ≡ true
    go true is = is
    go false is = let clash : true ≡ false = sym bad ∙ clean_before older steps term round t is in cc

not_by : (b : Bool) → (b ≡ true → ⊥) → not b ≡ true
not_by true none = absurd (none refl)
not_by false none = refl

pub loss_before : (setting : Setting) (older steps : List Step) → Tail older steps → loss_holds setting (seen_of steps) ≡ true
    → loss_holds setting (seen_of older) ≡ true
loss_before setting older steps t holds =
    all_pass (λ r. not (all_from (spoiled_rounds (seen_of older)) r.term r.round (setting.net.params.loss + 1))) (spoiled_rounds (seen_of older))
    (λ r a. not_by (all_from (spoiled_rounds (seen_of older)) r.term r.round (setting.net.params.loss + 1)) (λ all. none r all))
  where
    none : (r : Stamp) → all_from (spoiled_rounds (seen_of older)) r.term r.round (setting.net.params.loss + 1) ≡ true → ⊥
    none r all =
        let before : list_all (λ i. is_spoiled (seen_of older) r.term (r.round + i)) (below (suc setting.net.params.loss)) ≡ true =
        subst (λ n. all_from (spoiled_rounds (seen_of older)) r.term r.round n ≡ true) (add-one setting.net.params.loss) all in
        not_all (spoiled_rounds (seen_of steps)) r.term r.round setting.net.params.loss holds
        (all_pass (λ i. is_spoiled (seen_of steps) r.term (r.round + i)) (below (suc setting.net.params.loss))
        (λ i a. spoiled_on older steps r.term (r.round + i) t (passes (λ j. is_spoiled (seen_of older) r.term (r.round + j)) a before)))

pub premises_before : (setting : Setting) (older steps : List Step) → Tail older steps → AllButStart setting (seen_of steps) → AllButStart setting (seen_of older)
premises_before setting older steps t p =
    record {
      drift = tail_each (reads_honestly setting) t p.drift;
      delay = tail_all (arrives_in_time setting) t p.delay;
      tick = tail_each (ticks_in_time setting) t p.tick;
      loss = loss_before setting older steps t p.loss;
      domain = tail_each (fails_within_one setting) t p.domain;
      renew = tail_each (λ s earlier. commits_orderly setting s earlier && seals_orderly setting s earlier && fails_orderly s earlier
          && begins_orderly setting s earlier) t p.renew;
    }

pub all_but_start_before : (setting : Setting) (older steps : List Step) → Tail older steps → all_but_start_hold setting (seen_of steps) ≡ true
    → all_but_start_hold setting (seen_of older) ≡ true
all_but_start_before setting older steps t all =
    premises_hold setting (seen_of older) (premises_before setting older steps t (premises_of setting (seen_of steps) all))
