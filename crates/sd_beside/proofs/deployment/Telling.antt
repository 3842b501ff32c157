-- In a deployed fleet each struct stands for the life of its device, so each device tells what the words on devices say of it.
use Rattle.std.specs.Prelude.{◌≡◌, ◌⊎◌, ℕ, Bool, true, false, List, [], ◌∷◌, nat_eq, Option, Some, None, option_map, refl, if◌then◌else◌}
use Rattle.std.proofs.Common.{sym, ◌∙◌, ap, subst, inl, inr}
use Rattle.std.proofs.lemmas.Bool.{eqb-true, eq-eqb}
use Rattle.sd_num.specs.Lists.{map_or, same_number}
use Rattle.sd_sched.specs.declared.Event.{Event}
use Rattle.sd_sched.specs.declared.Event.TheVariants as event
use Rattle.sd_device.specs.declared.registers.Registers.{Registers}
use Rattle.sd_device.specs.Calls as calls
use Rattle.sd_device.specs.Calls.{Making, Call}
use Rattle.sd_device.specs.Living.{Life}
use Rattle.sd_device.specs.Words.{effect_of}
use Rattle.sd_device.specs.Lives.{past_of, longer, IsOrderly}
use Rattle.sd_device.specs.Standing.{alone}
use Rattle.sd_history.specs.World.{Setting}
use Rattle.sd_history.specs.Steps.{Act, Makes, Calls, Asks, Passes, Step, changed, act_by, step_of}
use Rattle.sd_history.specs.Lives.{life_in, life_after}
use Rattle.sd_history.specs.Chronicle.{told_by, past_in, next_step, chronicle}
use Rattle.sd_history.proofs.Given.{some_is}
use Rattle.sd_history.proofs.Bridges.{past_of_life}
use Rattle.sd_history.proofs.Owned.{OwnPast}
use Rattle.sd_history.proofs.Owning.{own_pasts}
use Rattle.sd_history.proofs.Readings.{AllRead, step_reads}
use Rattle.sd_history.proofs.Exactness as nodes
use Rattle.sd_history.proofs.Exactness.{Lives, node_after, live_made, live_called}
use Rattle.sd_history.proofs.Tellings.{making_tells, call_tells, report_tells}
use Rattle.sd_beside.specs.deployment.Deployment.{Kept, Tended, Moment, steps_of, with_tended, struct_in, IsRestored, IsRebased, AreTended, IsMade, IsCalled, IsAsked, Exports, IsCallOf, MayCome, IsDeployment}
use Rattle.sd_beside.specs.deployment.Laws.{events_in}
use Rattle.sd_beside.specs.deployment.Steps.{StandsIn}
use Rattle.sd_beside.proofs.deployment.Steps.{keeps_rate, making_stands, restore_stands, rebase_stands, call_stands, report_stands, answers_stand}
use Rattle.sd_beside.proofs.deployment.Admitting.{admits}

-- the call of an event is what the event does
pub call_is : (setting : Setting) (steps : List Step) (e : Event) (act : Act) → IsCallOf setting steps e act → act ≡ act_by setting steps e
call_is setting steps (event.Recv r d c n) act is =
    is.same ∙ sym (ap (λ o. map_or o Passes (λ f. Calls d (calls.Receive f.link f.message c))) is.sent)
call_is setting steps (event.Lose r n) act is = absurd is
call_is setting steps (event.End r) act is = absurd is
call_is setting steps _ act is = is

module _ {S : Type 0} (Holds : S → Registers → Type 0) where
  -- each of these structs stands for the life of its device
  abbrev AllStand : (ℕ → Option Life) → (ℕ → Option (Kept S)) → Type 0
  AllStand lives structs = nodes.AllLive (StandsIn Holds) lives structs

  -- so each does once they were tended
  tended_stands : (old new : Kept S) (life : Life) → IsRestored Holds old new ⊎ IsRebased Holds old new → StandsIn Holds old life → StandsIn Holds new life
  tended_stands old new life (inl restored) stands = restore_stands Holds old new life restored stands
  tended_stands old new life (inr rebased) stands = rebase_stands Holds old new life rebased stands

  one_tended : (lives : ℕ → Option Life) (structs : ℕ → Option (Kept S)) → AllStand lives structs → (x : Tended S) (old : Kept S)
      → structs x.device ≡ Some old → IsRestored Holds old x.left ⊎ IsRebased Holds old x.left
      → AllStand lives (λ d. if nat_eq x.device d then Some x.left else structs d)
  one_tended lives structs stand x old there is d struct here = by (nat_eq x.device d) refl here
    where
      lived : Lives (StandsIn Holds) (lives x.device) old
      lived = stand x.device old there

      by : (b : Bool) → nat_eq x.device d ≡ b → (if b then Some x.left else structs d) ≡ Some struct → Lives (StandsIn Holds) (lives d) struct
      by true same is' =
          record {
            life = lived.life;
            is = subst (λ k. lives k ≡ Some lived.life) (eqb-true x.device d same) lived.is;
            stands = subst (λ y. StandsIn Holds y lived.life) (some_is is') (tended_stands old x.left lived.life is lived.stands);
          }
      by false other is' = stand d struct is'

  all_tended : (lives : ℕ → Option Life) (structs : ℕ → Option (Kept S)) → AllStand lives structs → (tended : List (Tended S))
      → AreTended Holds structs tended → AllStand lives (with_tended structs tended)
  all_tended lives structs stand [] are = stand
  all_tended lives structs stand (x ∷ earlier) are =
      one_tended lives (with_tended structs earlier) (all_tended lives structs stand earlier are.0) x are.1.0 are.1.1 are.1.2

  module _ (setting : Setting) where
    -- each struct stands for the life of its device
    abbrev pub AllLive : List (Moment S) → Type 0
    AllLive run = AllStand (life_in (steps_of setting run)) (struct_in run)

    -- after the moment each does, and the device told what the words say
    pub record Goes (earlier : List (Moment S)) (x : Moment S) : Type 0 where
      pub live : AllLive (x ∷ earlier)
      pub tells : x.told ≡ told_by (steps_of setting earlier) x.act

    module _ (earlier : List (Moment S)) (x : Moment S) where
      abbrev steps : List Step
      steps = steps_of setting earlier

      abbrev structs : ℕ → Option (Kept S)
      structs = with_tended (struct_in earlier) x.tended

      -- lives with the act are orderly
      abbrev Orderly : Act → Type 0
      Orderly act = (d : ℕ) (life : Life) → life_after act d (life_in steps d) ≡ Some life → IsOrderly life

      -- each struct stands by an act, where it leaves this struct
      abbrev LiveAfter : Act → Option (Kept S) → Type 0
      LiveAfter act left = AllStand (λ d. life_after act d (life_in steps d)) (λ d. node_after act left d (structs d))

      record GoesBy (act : Act) : Type 0 where
        live_after : LiveAfter act x.left
        tells : x.told ≡ told_by steps act

      -- what each device has is its own
      abbrev AreOwn : Type 0
      AreOwn = (d : ℕ) (life : Life) → life_in steps d ≡ Some life → OwnPast setting.net d (past_of life)

      module _ (live : AllStand (life_in steps) structs) (own : AreOwn) where
        made_goes : (m : ℕ) (making : Making) → Orderly (Makes m making) → IsMade Holds making x.told x.left → GoesBy (Makes m making)
        made_goes m making orderly made =
            record {
              live_after = subst (LiveAfter (Makes m making)) (sym made.leaves)
                  (live_made (StandsIn Holds) (life_in steps) structs live m making kept stands);
              tells = made.tells ∙ making_tells steps m making made.answers (answers_stand Holds kept (alone making) made.answers orderly_now stands made.answered);
            }
          where
            kept : Kept S
            kept = record { struct = made.struct; lowered = 0; since = 0 }

            stands : StandsIn Holds kept (alone making)
            stands = making_stands Holds making made.struct made.made

            orderly_now : IsOrderly (alone making)
            orderly_now = orderly m (alone making) (ap (λ b. if b then Some (alone making) else life_in steps m) (eq-eqb m m refl))

        called_goes : (m : ℕ) (call : Call) → Orderly (Calls m call) → IsCalled Holds (structs m) call x.told x.left → GoesBy (Calls m call)
        called_goes m call orderly called =
            record {
              live_after = subst (LiveAfter (Calls m call)) (sym called.leaves)
                  (live_called (StandsIn Holds) (life_in steps) structs live m call kept old.life old.is after.0);
              tells =
                  called.tells
                  ∙ call_tells steps m call old.life called.effect called.answers old.is after.1
                  (answers_stand Holds kept (longer old.life call) called.answers orderly_now after.0 called.answered);
            }
          where
            kept : Kept S
            kept = record { struct = called.struct; lowered = called.kept.lowered; since = called.kept.since }

            old : Lives (StandsIn Holds) (life_in steps m) called.kept
            old = live m called.kept called.there

            orderly_now : IsOrderly (longer old.life call)
            orderly_now =
                orderly m (longer old.life call)
                (ap (λ b. if b then option_map (λ life. longer life call) (life_in steps m) else life_in steps m) (eq-eqb m m refl)
                ∙ ap (option_map (λ life. longer life call)) old.is)

            after : StandsIn Holds kept (longer old.life call) × (called.effect ≡ effect_of (past_of old.life) call)
            after =
                call_stands Holds called.kept called.struct old.life call called.effect orderly_now old.stands called.due
                (keeps_rate Holds setting.net m called.kept old.life call (own m old.life old.is)) called.called

        asked_goes : (m counter : ℕ) → IsAsked Holds (structs m) counter x.told → GoesBy (Asks m counter)
        asked_goes m counter asked =
            let old : Lives (StandsIn Holds) (life_in steps m) asked.kept = live m asked.kept asked.there in
            record {
              live_after = live;
              tells =
                  asked.tells
                  ∙ report_tells steps m counter old.life asked.report old.is
                  (report_stands Holds asked.kept old.life counter asked.report old.stands asked.due asked.reported.registers);
            }

        goes_by : (act : Act) → Orderly act → Exports Holds structs act x.told x.left → GoesBy act
        goes_by (Makes m making) orderly by = made_goes m making orderly by
        goes_by (Calls m call) orderly by = called_goes m call orderly by
        goes_by (Asks m counter) orderly by = asked_goes m counter by
        goes_by Passes orderly by = record { live_after = live; tells = by }

      -- the struct that a moment leaves, and those that it does not change
      left_is : (act : Act) (d : ℕ) → (if same_number (changed act) d then x.left else structs d) ≡ node_after act x.left d (structs d)
      left_is act d = by (same_number (changed act) d)
        where
          by : (b : Bool) → (if b then x.left else structs d) ≡ map_or (if b then Some x.left else None) (structs d) (λ left. left)
          by true = refl
          by false = refl

      pub moment_goes : AllLive earlier → AreOwn → Orderly x.act → MayCome Holds setting earlier x → Goes earlier x
      moment_goes live own orderly may =
          record {
            live = subst (λ act. AllStand (λ d. life_after act d (life_in steps d)) (struct_in (x ∷ earlier)))
                (call_is setting steps x.event x.act may.call) (λ d struct is. by.live_after d struct (sym (left_is x.act d) ∙ is));
            tells = by.tells;
          }
        where
          by : GoesBy x.act
          by = goes_by (all_tended (life_in steps) (struct_in earlier) live x.tended may.tended) own x.act orderly may.export

    -- the whole run

    pub all_read : (run : List (Moment S)) → IsDeployment Holds setting run → AllRead (steps_of setting run)
    all_read [] is = λ d life here. cc
    all_read (x ∷ earlier) is =
        step_reads setting (steps_of setting earlier) (step_of setting (steps_of setting earlier) x.event x.told)
        (admits Holds setting earlier x is.0 is.1) (all_read earlier is.0) refl

    -- so the lives are orderly
    orderly_lives : (earlier : List (Moment S)) (x : Moment S) → IsDeployment Holds setting (x ∷ earlier) → Orderly earlier x x.act
    orderly_lives earlier x is =
        subst (Orderly earlier x) (sym (call_is setting (steps_of setting earlier) x.event x.act is.1.call))
        (λ d life here. (all_read (x ∷ earlier) is d life here).orderly)

    -- the structs stand for the lives, and the steps are those of the chronicle
    pub record AreTold (run : List (Moment S)) : Type 0 where
      pub live : AllLive run
      pub steps_are : chronicle setting (events_in run) ≡ steps_of setting run

    goes_on : (earlier : List (Moment S)) (x : Moment S) → IsDeployment Holds setting (x ∷ earlier) → AreTold earlier → Goes earlier x
    goes_on earlier x is before =
        moment_goes earlier x before.live
        (λ d life here.
        own_pasts setting (events_in earlier) d (past_of life)
        (ap (λ steps. past_in steps d) before.steps_are ∙ past_of_life (steps_of setting earlier) d ∙ ap (option_map past_of) here))
        (orderly_lives earlier x is) is.1

    -- a moment is the next step of the chronicle
    next_is : (earlier : List (Moment S)) (x : Moment S) → IsDeployment Holds setting (x ∷ earlier) → Goes earlier x
        → step_of setting (steps_of setting earlier) x.event x.told ≡ next_step setting (steps_of setting earlier) x.event
    next_is earlier x is goes =
        ap (step_of setting (steps_of setting earlier) x.event)
        (goes.tells ∙ ap (told_by (steps_of setting earlier)) (call_is setting (steps_of setting earlier) x.event x.act is.1.call))

    one_more : (earlier : List (Moment S)) (x : Moment S) → IsDeployment Holds setting (x ∷ earlier) → AreTold earlier → AreTold (x ∷ earlier)
    one_more earlier x is before =
        let goes : Goes earlier x = goes_on earlier x is before in
        record {
          live = goes.live;
          steps_are = ap (λ steps. next_step setting steps x.event ∷ steps) before.steps_are
              ∙ sym (ap (λ s. s ∷ steps_of setting earlier) (next_is earlier x is goes));
        }

    pub are_told : (run : List (Moment S)) → IsDeployment Holds setting run → AreTold run
    are_told [] is = record { live = λ d struct here. cc; steps_are = refl }
    are_told (x ∷ earlier) is = one_more earlier x is (are_told earlier is.0)
