-- What is read of a schedule is a history, and why a line of it is refused fits on one line.
use Rattle.std.specs.Prelude.{◌≡◌, ℕ, ◌+◌, Bool, true, false, List, [], ◌∷◌, length, Option, None, Some, Result, Ok, Err, codes, refl, if◌then◌else◌}
use Rattle.std.specs.List.{list_any}
use Rattle.std.proofs.Common.{subst}
use Rattle.sd_io.specs.stream.Lines.{lines}
use Rattle.sd_sched.specs.declared.Event.{Event}
use Rattle.sd_history.specs.World.{Setting}
use Rattle.sd_history.specs.Chronicle.{IsHistory}
use Rattle.sd_history.proofs.Given.{some_is}
use Rattle.sd_files.specs.work.Works.{Work, Reading, length_fault, unless_too_long, read_on, reading_from, reading}
use Rattle.sd_headline.specs.Words.{is_one_line}
use Rattle.sd_headline.specs.Works.{ReadsEvents}

-- a reading of events that are a history
pub record ReadsHistory (setting : Setting) (r : Reading Event) : Type 0 where
  pub history : IsHistory setting r.taken
  pub reason : (why : List ℕ) → r.refused ≡ Some why → is_one_line why ≡ true

-- the reason is one line
of_reason : (known why : List ℕ) → is_one_line known ≡ true → Some known ≡ Some why → is_one_line why ≡ true
of_reason known why one same = subst (λ (w : List ℕ). is_one_line w ≡ true) (some_is same) one

fault_is_line : (long past : Bool) (why : List ℕ) → (if long then Some (codes "LongLine") else if past then Some (codes "Limit") else None) ≡ Some why
    → is_one_line why ≡ true
fault_is_line true past why same = of_reason (codes "LongLine") why refl same
fault_is_line false true why same = of_reason (codes "Limit") why refl same
fault_is_line false false why same = cc

module _ (setting : Setting) (work : Work Event) (reads : ReadsEvents setting work) where
  read_next : (taken : List Event) (line : List ℕ) (fault : Option (List ℕ)) (said : Result Event (List ℕ)) (next : Event → Reading Event)
      → IsHistory setting taken → ((why : List ℕ) → fault ≡ Some why → is_one_line why ≡ true)
      → work.says taken line ≡ said → ((e : Event) → IsHistory setting (e ∷ taken) → ReadsHistory setting (next e))
      → ReadsHistory setting (read_on (unless_too_long fault said) taken next)
  read_next taken line (Some why) said next is short same more = record { history = is; reason = λ other here. of_reason why other (short why refl) here }
  read_next taken line None (Err why) next is short same more =
      record { history = is; reason = λ other here. of_reason why other (reads.reasons taken line why same) here }
  read_next taken line None (Ok e) next is short same more = more e (is, reads.accepted taken line e same)

  no_end : (taken : List Event) (ended : Bool) → IsHistory setting taken
      → ReadsHistory setting (record { taken = taken; refused = if ended then None else Some (codes "NoEnd") })
  no_end taken true is = record { history = is; reason = λ why same. cc }
  no_end taken false is = record { history = is; reason = λ why same. of_reason (codes "NoEnd") why refl same }

  read_from : (total start : ℕ) (taken : List Event) (ls : List (List ℕ)) → IsHistory setting taken
      → ReadsHistory setting (reading_from work total start taken ls)
  unfolding reading_from
  read_from total start taken [] is = no_end taken (list_any work.ends taken) is
  read_from total start taken (line ∷ others) is =
      read_next taken line (length_fault total start line) (work.says taken line) (λ e. reading_from work total (start + length line + 1) (e ∷ taken) others) is
      (λ why same. fault_is_line _ _ why same) refl (λ e longer. read_from total (start + length line + 1) (e ∷ taken) others longer)

  pub reads_history : (text : List ℕ) → ReadsHistory setting (reading work text)
  unfolding reading
  reads_history text = read_from (length text) 0 [] (lines text) tt
