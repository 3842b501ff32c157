-- What a tick makes a device do: by the words of its past, and by its registers.
use Rattle.std.proofs.Common.{◌≡◌, ℕ, ◌-◌, Bool, true, false, ◌&&◌, ◌||◌, not, List, [], ◌∷◌, Option, Some, None, refl, sym, ◌∙◌, ap}
use Rattle.std.specs.Prelude.{is_some, nat_le, max, find, if◌then◌else◌, option_map, option_and_then}
use Rattle.std.proofs.lemmas.Bool.{both_ways}
use Rattle.sd_num.specs.Lists.{map_or, find_map_or}
use Rattle.sd_plan.specs.declared.Duty.{Duty}
use Rattle.sd_plan.specs.declared.Role.{Role}
use Rattle.sd_plan.specs.declared.Role.TheVariants as role
use Rattle.sd_device.specs.declared.registers.Mode.{Mode}
use Rattle.sd_device.specs.declared.registers.Mode.TheVariants.{Primary, Backup, Acting, Idle}
use Rattle.sd_device.specs.declared.turns.Turn.{Turn}
use Rattle.sd_device.specs.declared.turns.Turn.TheVariants.{Emit, TakeOver, Move, Stay}
use Rattle.sd_device.specs.Calls.{Making, Started, Joined, Tick, Transition, Moved, TookOver, Emitted, Nothing, CallDone, Past}
use Rattle.sd_device.specs.Words.{duty_now, is_acting, has_moved, is_sealed, heard, moved_at, sent_at, wait_to_move, transition_of, first_duty, starts_as_root, taken_up, takes_up, later_entry, is_commit}
use Rattle.sd_device.specs.Rules.{is_backup_root, turn_of}
use Rattle.sd_device.specs.Standing.{registers_of, last_of}
use Rattle.sd_device.proofs.Reached.{Reached, has_taken_over}

-- what is done, by what the registers decide
abbrev pub transition_by_turn : Turn → Transition
transition_by_turn Emit = Emitted
transition_by_turn TakeOver = TookOver
transition_by_turn Move = Moved
transition_by_turn Stay = Nothing

-- without a later entry the duty is that of the making
pub same_duty : (did : List CallDone) (first : Option Duty) → find takes_up did ≡ None → find_map_or (λ x. option_map Some (taken_up x.transition)) did first ≡ first
same_duty [] first none = refl
same_duty (x ∷ earlier) first none = go (taken_up x.transition) (same_duty earlier first) none
  where
    go : (duty : Option Duty) → (find takes_up earlier ≡ None → find_map_or (λ x. option_map Some (taken_up x.transition)) earlier first ≡ first)
        → (if is_some duty then Some x else find takes_up earlier) ≡ None
        → map_or (option_map Some duty) (find_map_or (λ x. option_map Some (taken_up x.transition)) earlier first) (λ told. told) ≡ first
    go (Some duty) later none = cc
    go None later none = later none

-- what a tick turns on
record Situation (making : Making) (entry : Option CallDone) (duty : Option Duty) (acts moved sealed took_over : Bool) (heard moved_at last : ℕ) : Type 0 where
  first : entry ≡ None → duty ≡ first_duty making
  acting : acts ≡ (map_or entry (starts_as_root making) (λ x. is_commit x.transition) || took_over)
  took : took_over ≡ true → moved ≡ true
  seal : moved ≡ true → sealed ≡ true
  hears : map_or entry (is_some (first_duty making)) (λ x. not (is_commit x.transition)) ≡ true → moved ≡ false → last ≡ heard
  order : last ≡ max heard moved_at

abbrev lets_move : Making → Option CallDone → Bool
lets_move making entry = map_or entry (is_some (first_duty making)) (λ x. not (is_commit x.transition))

pub no_wait_as_root : (making : Making) → starts_as_root making ≡ true → option_and_then wait_to_move (first_duty making) ≡ None
no_wait_as_root (Started duty counter clock eps) acts = go duty.role acts
  where
    go : (what : Role) → elim what as (λ (x : Role). Bool) [ role.Root ↦ true | _ ↦ false ] ≡ true
        → elim what as
        (λ (x : Role). Option ℕ)
        [ role.Root ↦ None | role.BackupRoot ↦ Some duty.wait_first | role.Ordinary ↦ if is_some duty.backup then Some duty.wait else None ] ≡ None
    go role.Root acts = refl
    go role.BackupRoot acts = cc
    go role.Ordinary acts = cc
no_wait_as_root (Joined rates counter clock eps) acts = cc

-- a device that acts does not wait to move
acting_waits_not : (making : Making) (entry : Option CallDone) (duty : Option Duty) (took_over moved : Bool)
    → (entry ≡ None → duty ≡ first_duty making) → (took_over ≡ true → moved ≡ true)
    → (map_or entry (starts_as_root making) (λ x. is_commit x.transition) || took_over) ≡ true → lets_move making entry ≡ true → moved ≡ false
    → option_and_then wait_to_move duty ≡ None
acting_waits_not making entry duty true moved first took acts lets still = absurd (both_ways moved still (took refl))
acting_waits_not making (Some x) duty false moved first took acts lets still = go (is_commit x.transition) acts lets
  where
    go : (commit : Bool) → (commit || false) ≡ true → not commit ≡ true → option_and_then wait_to_move duty ≡ None
    go true a b = cc
    go false a b = cc
acting_waits_not making None duty false moved first took acts lets still =
    ap (λ d. option_and_then wait_to_move d) (first refl) ∙ no_wait_as_root making (go (starts_as_root making) acts)
  where
    go : (root : Bool) → (root || false) ≡ true → root ≡ true
    go true a = refl
    go false a = a

-- a device with a duty that does not act may move
others_may_move : (making : Making) (entry : Option CallDone) (duty : Duty) (took_over : Bool)
    → (entry ≡ None → Some duty ≡ first_duty making) → (map_or entry (starts_as_root making) (λ x. is_commit x.transition) || took_over) ≡ false
    → lets_move making entry ≡ true
others_may_move making None duty took_over first acts = rw (← first refl) refl
others_may_move making (Some x) duty took_over first acts = go (is_commit x.transition) acts
  where
    go : (commit : Bool) → (commit || took_over) ≡ false → not commit ≡ true
    go true a = cc
    go false a = refl

never_takes_over : (b m q : Bool) → (b && m && false && q) ≡ false
never_takes_over true true q = refl
never_takes_over true false q = refl
never_takes_over false m q = refl

never_moves : (l m s w : Bool) → (l ≡ true → m ≡ false → w ≡ false) → (l && not m && s && w) ≡ false
never_moves true true s w h = refl
never_moves true false true w h = h refl refl
never_moves true false false w h = refl
never_moves false m s w h = refl

acting_turn : (p b m l s q w : Bool) → (l ≡ true → m ≡ false → w ≡ false)
    → (if p then Emitted else if b && m && false && q then TookOver else if l && not m && s && w then Moved else Nothing)
    ≡ transition_by_turn (if p then Emit else Stay)
acting_turn true b m l s q w h = refl
acting_turn false b m l s q w h = rw (never_takes_over b m q, never_moves l m s w h) refl

backup_turn : (b q l s w : Bool) → s ≡ true
    → (if b && true && true && q then TookOver else if l && false && s && w then Moved else Nothing)
    ≡ transition_by_turn (if s && b && q then TakeOver else Stay)
backup_turn true true l s w sealed = rw sealed refl
backup_turn true false true s w sealed = rw sealed refl
backup_turn true false false s w sealed = rw sealed refl
backup_turn false q true s w sealed = rw sealed refl
backup_turn false q false s w sealed = rw sealed refl

primary_turn : (b q l s w : Bool) → l ≡ true
    → (if b && false && true && q then TookOver else if l && true && s && w then Moved else Nothing) ≡ transition_by_turn (if s && w then Move else Stay)
primary_turn true q l true true lets = rw lets refl
primary_turn true q l true false lets = rw lets refl
primary_turn true q l false w lets = rw lets refl
primary_turn false q l true true lets = rw lets refl
primary_turn false q l true false lets = rw lets refl
primary_turn false q l false w lets = rw lets refl

no_duty_turn : (acts q : Bool) → (if acts && false then Emitted else if q && false then Moved else Nothing) ≡ Nothing
no_duty_turn true true = refl
no_duty_turn true false = refl
no_duty_turn false true = refl
no_duty_turn false false = refl

-- the registers decide what the words say
decides : (making : Making) (entry : Option CallDone) (duty : Option Duty) (acts moved sealed took_over : Bool) (heard moved_at last sent counter : ℕ)
    → Situation making entry duty acts moved sealed took_over heard moved_at last
    → (if acts && map_or duty false (λ d. nat_le d.period (counter - sent)) then Emitted
    else if map_or duty false is_backup_root && moved && not acts
    && map_or duty false (λ d. nat_le d.wait_second (counter - max heard moved_at)) then TookOver
    else if lets_move making entry && not moved && sealed && map_or (option_and_then wait_to_move duty) false
    (λ wait. nat_le wait (counter - heard)) then Moved
    else Nothing)
    ≡ transition_by_turn (map_or duty Stay (λ d.
    elim (if acts then Acting else if moved then Backup else map_or duty Idle (λ x. Primary)) as (λ (mode : Mode). Turn) [
      | Acting ↦ if nat_le d.period (counter - sent) then Emit else Stay
      | Backup ↦ if sealed && is_backup_root d && nat_le d.wait_second (counter - last) then TakeOver else Stay
      | Primary ↦ if sealed && map_or (wait_to_move d) false (λ wait. nat_le wait (counter - last)) then Move else Stay
      | Idle ↦ Stay
    ]))
decides making entry None acts moved sealed took_over heard moved_at last sent counter h = no_duty_turn acts (lets_move making entry && not moved && sealed)
decides making entry (Some d) true moved sealed took_over heard moved_at last sent counter h =
    acting_turn (nat_le d.period (counter - sent)) (is_backup_root d) moved (lets_move making entry) sealed
    (nat_le d.wait_second (counter - max heard moved_at))
    (map_or (wait_to_move d) false (λ wait. nat_le wait (counter - heard)))
    (λ lets still. ap (λ wait. map_or wait false (λ w. nat_le w (counter - heard)))
    (acting_waits_not making entry (Some d) took_over moved h.first h.took (sym h.acting) lets still))
decides making entry (Some d) false true sealed took_over heard moved_at last sent counter h =
    rw h.order (backup_turn (is_backup_root d) (nat_le d.wait_second (counter - max heard moved_at)) (lets_move making entry) sealed
    (map_or (wait_to_move d) false (λ wait. nat_le wait (counter - heard))) (h.seal refl))
decides making entry (Some d) false false sealed took_over heard moved_at last sent counter h =
    let lets : lets_move making entry ≡ true = others_may_move making entry d took_over h.first (sym h.acting) in
    rw (h.hears lets refl) (primary_turn (is_backup_root d) (nat_le d.wait_second (counter - max heard moved_at)) (lets_move making entry) sealed
    (map_or (wait_to_move d) false (λ wait. nat_le wait (counter - heard))) lets)

pub ticks : (past : Past) (counter : ℕ) → Reached past → last_of past ≡ max (heard past) (moved_at past)
    → transition_of past (Tick counter) ≡ transition_by_turn (turn_of (registers_of past) counter)
ticks past counter h order =
    decides past.making (later_entry past) (duty_now past) (is_acting past) (has_moved past) (is_sealed past) (has_taken_over past) (heard past) (moved_at past)
    (last_of past) (sent_at past) counter
    (record {
      first = λ none. same_duty past.did (first_duty past.making) none;
      acting = refl;
      took = h.took_over;
      seal = h.sealed;
      hears = h.heard_last;
      order = order;
    })
