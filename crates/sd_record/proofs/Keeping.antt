-- What a recorder keeps of the messages on their way stays right.
use Rattle.std.specs.Prelude.{◌≡◌, ◌≢◌, ℕ, ◌+◌, ◌≤◌, true, false, List, [], ◌∷◌, filter, find, nat_eq, not, Option, Some, None, Result, Ok, Err, IfOk, ◌⊎◌, refl}
use Rattle.std.specs.List.{Contains}
use Rattle.std.proofs.Common.{arith, sym, ◌∙◌, ap, subst, inl, inr}
use Rattle.std.proofs.lemmas.Bool.{and_from, cases_eq, eq-eqb}
use Rattle.std.proofs.lemmas.List.Elements.{Contains-append_left}
use Rattle.sd_plan.specs.declared.topo.Thing.{Thing}
use Rattle.sd_device.specs.declared.msg.Flight.{Flight}
use Rattle.sd_device.specs.declared.msg.TakeFault.{TakeFault}
use Rattle.sd_device.specs.msg.Books.{has_number, is_current, is_swept}
use Rattle.sd_device.proofs.msg.Numbered.{floor_low}
use Rattle.sd_sched.specs.Events.{reference_of, message_of}
use Rattle.sd_sched.specs.declared.Event.{Event}
use Rattle.sd_history.specs.Things.{failure_of}
use Rattle.sd_history.specs.World.{Setting}
use Rattle.sd_history.specs.Steps.{Step, flight_count}
use Rattle.sd_history.specs.Open.{unspent}
use Rattle.sd_history.specs.Accepted.{AreSteps}
use Rattle.sd_history.specs.Refusals.{is_spent}
use Rattle.sd_history.specs.flights.Flights.{left_by, look_in, says_unknown, sent_in_order, without_swept, without_taken}
use Rattle.sd_history.proofs.Among.{Among, either_side}
use Rattle.sd_history.proofs.flights.Finds.{finds}
use Rattle.sd_history.proofs.flights.Leaving.{unspent_after}
use Rattle.sd_history.proofs.flights.Numbers.{numbered_in_order, one_more_step, step_given}
use Rattle.sd_record.specs.Endings.{Lists, first_of, named_ending}
use Rattle.sd_record.specs.Looks.{has_ending, is_named}
use Rattle.sd_record.specs.Names.{flight_name, has_message}
use Rattle.sd_record.specs.Naming.{has_name}
use Rattle.sd_record.specs.Noting.{EndsSo, HasNoted, IsFound}
use Rattle.sd_record.specs.Standing.{AreEndingsOf, Keeps, KeepsCurrent}
use Rattle.sd_record.specs.declared.endings.Endings.{Endings}
use Rattle.sd_record.specs.declared.endings.NamedEnding.{NamedEnding}
use Rattle.sd_record.specs.declared.logs.MessageName.{MessageName}
use Rattle.sd_record.specs.declared.names.NamedMessage.{NamedMessage}
use Rattle.sd_record.specs.declared.names.Names.{Names}
use Rattle.sd_record.specs.declared.recorder.Recorder.{Recorder}
use Rattle.sd_record.proofs.Members.{among, among_above, contained, found_on_way, kept, known_given, on_way_found}

-- a message has its own name
pub has_its_name : (f : Flight) → has_name (flight_name f) f ≡ true
has_its_name f =
    let same : (n : ℕ) → nat_eq n n ≡ true = λ n. eq-eqb n n refl in
    and_from _ (nat_eq f.message.stamp.round f.message.stamp.round)
    (and_from _ (nat_eq f.message.stamp.term f.message.stamp.term)
    (and_from _ (nat_eq f.message.epoch f.message.epoch)
    (and_from (nat_eq f.receiver f.receiver) (nat_eq f.link f.link) (same f.receiver) (same f.link)) (same f.message.epoch)) (same f.message.stamp.term))
    (same f.message.stamp.round)

-- After a step

-- what an event leaves was there before
left_before : (e : Event) (fs : List Flight) (f : Flight) → Among f (left_by e fs) → Among f fs
left_before e fs f a =
    let current = filter (is_current (reference_of e)) fs in
    (kept (is_current (reference_of e)) fs f (taken (message_of e) current (swept (failure_of e) (without_taken (message_of e) current) a))).0
  where
    swept : (x : Option Thing) (gs : List Flight) → Among f (without_swept x gs) → Among f gs
    swept None gs there = there
    swept (Some x) gs there = (kept (λ g. not (is_swept x g)) gs f there).0

    taken : (n : Option ℕ) (gs : List Flight) → Among f (without_taken n gs) → Among f gs
    taken None gs there = there
    taken (Some n) gs there = (kept (λ g. not (has_number n g)) gs f there).0

module _ (setting : Setting) (s : Step) (earlier : List Step) (are : AreSteps setting (s ∷ earlier)) where
  count_grows : flight_count earlier ≤ flight_count (s ∷ earlier)
  count_grows = floor_low (flight_count earlier) (flight_count (s ∷ earlier)) s.sent (step_given setting s earlier are)

  -- a message that is on its way after the step, and is none of those that it sent, was so before
  before : (f : Flight) → Contains (unspent (s ∷ earlier) 0) f → f.number ≤ flight_count earlier → Contains (unspent earlier 0) f
  before f there old =
      let a = subst (λ (fs : List Flight). Among f fs) (unspent_after setting s earlier are) (among (unspent (s ∷ earlier) 0) f there) in
      elim (either_side (left_by s.seen.event (unspent earlier 0)) (filter (λ g. g.reaches) s.sent) a) [
        | inl left ↦ contained (unspent earlier 0) f (left_before s.seen.event (unspent earlier 0) f left)
        | inr sent ↦
            (let new =
            among_above (flight_count earlier) (flight_count (s ∷ earlier)) s.sent f (step_given setting s earlier are) (kept (λ g. g.reaches) s.sent f sent).0 in
            absurd (omega (arith, new, old)))
      ]

  still_sent : (f : Flight) → Contains (sent_in_order earlier) f → Contains (sent_in_order (s ∷ earlier)) f
  still_sent f there =
      subst (λ (fs : List Flight). Contains fs f) (sym (one_more_step s earlier)) (Contains-append_left (sent_in_order earlier) s.sent f there)

  pub keeps_after : (r : Recorder) → Keeps r earlier → Keeps r (s ∷ earlier)
  keeps_after r k =
      let most = k.looked in
      record {
        looked = (let more = count_grows in omega (arith, most, more));
        listed = λ f there old. k.listed f (before f there (omega (arith, old, most))) old;
        named = λ f there old. k.named f (before f there (omega (arith, old, most))) old;
        sent = λ ending there. (let (f, sent, is) = k.sent ending there in (f, still_sent f sent, is));
        ended = k.ended;
      }

module _ (setting : Setting) (steps : List Step) (are : AreSteps setting steps) where
  -- a message that is on its way was sent
  was_sent : (f : Flight) → Among f (unspent steps 0) → Among f (sent_in_order steps)
  was_sent f a = (kept (λ g. not (is_spent steps 0 g)) (sent_in_order steps) f a).0

  -- no two have one number
  one_sent : (f g : Flight) → Among f (sent_in_order steps) → Among g (sent_in_order steps) → f.number ≡ g.number → f ≡ g
  one_sent f g there second same =
      let is : ◌≡◌ {A = Option Flight} (Some f) (Some g) =
      sym (finds 1 (sent_in_order steps) f (numbered_in_order setting steps are) there)
      ∙ ap (λ (n : ℕ). find (has_number n) (sent_in_order steps)) same
      ∙ finds 1 (sent_in_order steps) g (numbered_in_order setting steps are) second in
      cc

  -- what is found under the number of a message that is on its way
  found_there : (f : Flight) (number : ℕ) (found : Result Flight TakeFault) → Contains (unspent steps 0) f → f.number ≡ number
      → found ≡ look_in steps number
      → found ≡ Ok f
  found_there f number found there same is =
      is ∙ ap (look_in steps) (sym same) ∙ on_way_found setting steps f are (among (unspent steps 0) f there)

  -- the ending that is listed under the number of a message on its way is that of the message
  ends_so : (endings : Endings) (f : Flight) (ending : NamedEnding) → AreEndingsOf endings (sent_in_order steps) → Contains (unspent steps 0) f
      → Lists endings ending
      → f.number ≡ ending.ending.number
      → named_ending f ≡ ending
  ends_so endings f ending sent there listed same =
      let (g, given, is) = sent ending listed in
      let number : f.number ≡ g.number = same ∙ ap (λ (e : NamedEnding). e.ending.number) (sym is) in
      let it : f ≡ g = one_sent f g (was_sent f (among (unspent steps 0) f there)) (among (sent_in_order steps) g given) number in
      ap named_ending it ∙ is

  module _ (old : Recorder) (k : Keeps old steps) where
    -- A look under the next number

    pub keeps_noted : (new : Recorder) (n : ℕ) (found : Result Flight TakeFault) → old.looked ≡ n → found ≡ look_in steps (n + 1) → says_unknown found ≡ false
        → HasNoted (n + 1) found old new
        → Keeps new steps
    keeps_noted new n found so is known noted =
        record {
          looked = subst (λ (m : ℕ). m ≤ flight_count steps) (sym noted.looked) (known_given setting steps (n + 1) are found is known);
          listed = λ f there few. listed f there (at_most f few) (cases_eq f.number (n + 1));
          named = λ f there few. named f there (at_most f few) (cases_eq f.number (n + 1));
          sent = λ ending there. sent ending (noted.only_endings ending there);
          ended = λ name number there. ended name number (noted.only_names name number there);
        }
      where
        at_most : (f : Flight) → f.number ≤ new.looked → f.number ≤ n + 1
        at_most f few = let it = noted.looked in omega (arith, few, it)

        -- it is what was found
        noted_of : (f : Flight) → Contains (unspent steps 0) f → f.number ≡ n + 1 → HasNoted (n + 1) (Ok f) old new
        noted_of f there number =
            subst (λ (r : Result Flight TakeFault). HasNoted (n + 1) r old new) (found_there f (n + 1) found there number is) noted

        listed : (f : Flight) → Contains (unspent steps 0) f → f.number ≤ n + 1 → (f.number ≡ n + 1) ⊎ (f.number ≡ n + 1 → ⊥)
            → Lists new.endings (named_ending f)
        listed f there few (inl number) = (noted_of f there number).listed
        listed f there few (inr other) = noted.endings (named_ending f) (k.listed f there (omega (arith, few, other, so)))

        named : (f : Flight) → Contains (unspent steps 0) f → f.number ≤ n + 1 → (f.number ≡ n + 1) ⊎ (f.number ≡ n + 1 → ⊥)
            → has_message new.names (flight_name f) f.number ≡ true
        named f there few (inl number) = (noted_of f there number).named
        named f there few (inr other) = noted.names (flight_name f) f.number (k.named f there (omega (arith, few, other, so)))

        sent : (ending : NamedEnding) → Lists old.endings ending ⊎ EndsSo found ending
            → (f : Flight) × Contains (sent_in_order steps) f × (named_ending f ≡ ending)
        sent ending (inl there) = k.sent ending there
        sent ending (inr new') = by found is new'
          where
            by : (r : Result Flight TakeFault) → r ≡ look_in steps (n + 1) → EndsSo r ending
                → (f : Flight) × Contains (sent_in_order steps) f × (named_ending f ≡ ending)
            by (Ok f) told ends =
                (f, contained (sent_in_order steps) f (was_sent f (found_on_way setting steps (n + 1) f are (sym told)).0), ends)
            by (Err why) told ends = absurd ends

        ended : (name : MessageName) (number : ℕ)
            → (has_message old.names name number ≡ true) ⊎ IsFound found (record { name = name; number = number })
            → (last : ℕ) × Lists new.endings (record { ending = record { last = last; number = number }; name = name })
        ended name number (inl there) =
            let (last, lists) = k.ended name number there in (last, noted.endings (record { ending = record { last = last; number = number }; name = name }) lists)
        ended name number (inr new') = by found new' noted.listed
          where
            by : (r : Result Flight TakeFault) → IsFound r (record { name = name; number = number }) → IfOk r (λ f. Lists new.endings (named_ending f))
                → (last : ℕ) × Lists new.endings (record { ending = record { last = last; number = number }; name = name })
            by (Ok f) is' lists =
                (f.last, subst (λ (m : NamedMessage). Lists new.endings (record { ending = record { last = f.last; number = m.number }; name = m.name })) is' lists)
            by (Err why) is' lists = absurd is'

    -- The soonest ending is dropped, and its name

    pub keeps_dropped : (first : NamedEnding) (endings : Endings) (names : Names) (found : Result Flight TakeFault) → first_of old.endings ≡ Some first
        → Lists old.endings first
        → found ≡ look_in steps first.ending.number → has_ending first.ending found ≡ false
        → ((other : NamedEnding) → Lists old.endings other → (first_of old.endings ≡ Some other) ⊎ Lists endings other)
        → ((other : NamedEnding) → Lists endings other → Lists old.endings other)
        → has_message names first.name first.ending.number ≡ false
        → ((name : MessageName) (number : ℕ) → number ≢ first.ending.number → has_message old.names name number ≡ true
        → has_message names name number ≡ true)
        → ((name : MessageName) (number : ℕ) → has_message names name number ≡ true → has_message old.names name number ≡ true)
        → Keeps (record old { endings = endings; names = names }) steps
    keeps_dropped first endings names found top there is ends dropped less gone kept' fewer =
        record {
          looked = k.looked;
          listed = λ f on few. listed f on (dropped (named_ending f) (k.listed f on few));
          named = λ f on few. kept' (flight_name f) f.number (other f on) (k.named f on few);
          sent = λ ending lists. k.sent ending (less ending lists);
          ended = λ name number has. (let (last, lists) = k.ended name number (fewer name number has) in
              (last, ended name number last has (dropped (record { ending = record { last = last; number = number }; name = name }) lists)));
        }
      where
        -- no message that is on its way has its number
        other : (f : Flight) → Contains (unspent steps 0) f → f.number ≢ first.ending.number
        other f on same =
            let it : named_ending f ≡ first = ends_so old.endings f first k.sent on there same in
            let does : has_ending first.ending found ≡ true =
            ap (has_ending first.ending) (found_there f first.ending.number found on same is)
            ∙ eq-eqb f.last first.ending.last (ap (λ (e : NamedEnding). e.ending.last) it) in
            let never : true ≡ false = sym does ∙ ends in
            cc

        first_is : (ending : NamedEnding) → first_of old.endings ≡ Some ending → first ≡ ending
        first_is ending its = let same : Some first ≡ Some ending = sym top ∙ its in cc

        listed : (f : Flight) → Contains (unspent steps 0) f → (first_of old.endings ≡ Some (named_ending f)) ⊎ Lists endings (named_ending f)
            → Lists endings (named_ending f)
        listed f on (inr still) = still
        listed f on (inl its) =
            absurd (other f on (ap (λ (e : NamedEnding). e.ending.number) (sym (first_is (named_ending f) its))))

        ended : (name : MessageName) (number last : ℕ) → has_message names name number ≡ true
            → (first_of old.endings ≡ Some (record { ending = record { last = last; number = number }; name = name }))
            ⊎ Lists endings (record { ending = record { last = last; number = number }; name = name })
            → Lists endings (record { ending = record { last = last; number = number }; name = name })
        ended name number last has (inr still) = still
        ended name number last has (inl its) =
            let it = first_is (record { ending = record { last = last; number = number }; name = name }) its in
            let never : true ≡ false =
            sym has ∙ sym (ap (λ (e : NamedEnding). has_message names e.name e.ending.number) it) ∙ gone in
            cc

    -- A name is dropped whose message is on its way no more

    pub keeps_forgot : (name : MessageName) (number : ℕ) (names : Names) (found : Result Flight TakeFault) → has_message old.names name number ≡ true
        → found ≡ look_in steps number → is_named name found ≡ false
        → ((other : MessageName) (n : ℕ) → n ≢ number → has_message old.names other n ≡ true → has_message names other n ≡ true)
        → ((other : MessageName) (n : ℕ) → has_message names other n ≡ true → has_message old.names other n ≡ true)
        → Keeps (record old { names = names }) steps
    keeps_forgot name number names found there is not_named kept' fewer =
        record {
          looked = k.looked;
          listed = k.listed;
          named = λ f on few. kept' (flight_name f) f.number (other f on) (k.named f on few);
          sent = k.sent;
          ended = λ its n has. k.ended its n (fewer its n has);
        }
      where
        other : (f : Flight) → Contains (unspent steps 0) f → f.number ≢ number
        other f on same =
            let (last, lists) = k.ended name number there in
            let ending : NamedEnding = record { ending = record { last = last; number = number }; name = name } in
            let it : named_ending f ≡ ending = ends_so old.endings f ending k.sent on lists same in
            let does : is_named name found ≡ true =
            ap (is_named name) (found_there f number found on same is)
            ∙ ap (λ (n : MessageName). has_name n f) (ap (λ (e : NamedEnding). e.name) (sym it)) ∙ has_its_name f in
            let never : true ≡ false = sym does ∙ not_named in
            cc

    -- Where no listed ending is past, each name is of a message that can be received

    pub keeps_current : (reference : ℕ) → ((ending : NamedEnding) → Lists old.endings ending → reference ≤ ending.ending.last)
        → KeepsCurrent old reference steps
    keeps_current reference none name number there =
        let (last, lists) = k.ended name number there in
        let ending : NamedEnding = record { ending = record { last = last; number = number }; name = name } in
        let (f, sent, is) = k.sent ending lists in
        let late = none ending lists in
        let same : f.last ≡ last = ap (λ (e : NamedEnding). e.ending.last) is in
        (f, sent, ap (λ (e : NamedEnding). record { name = e.name; number = e.ending.number }) is, omega (arith, late, same))

-- no message was sent
pub keeps_nothing : (r : Recorder) → r.looked ≡ 0 → ((ending : NamedEnding) → Lists r.endings ending → ⊥)
    → ((name : MessageName) (number : ℕ) → has_message r.names name number ≡ false)
    → Keeps r []
keeps_nothing r looked endings names =
    record {
      looked = omega (arith, looked);
      listed = λ f there few. absurd (none f there);
      named = λ f there few. absurd (none f there);
      sent = λ ending there. absurd (endings ending there);
      ended = λ name number there. (let never : true ≡ false = sym there ∙ names name number in cc);
    }
  where
    none : (f : Flight) → Contains [] f → ⊥
    none f (k, within, is) = omega (arith, within)
