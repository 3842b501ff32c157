-- Two lists of steps that agree go on agreeing as like steps come.
use Rattle.std.specs.Prelude.{◌≡◌, ℕ, ◌+◌, ◌≤◌, Bool, true, false, ◌||◌, not, List, [], ◌∷◌, length, map, find, nat_eq, Option, Some, None, option_map, refl, if◌then◌else◌}
use Rattle.std.specs.Option.{option_or}
use Rattle.std.specs.List.{list_any}
use Rattle.std.proofs.Common.{arith, sym, ◌∙◌, ap, subst}
use Rattle.std.proofs.lemmas.Bool.Decides.{nat_tests}
use Rattle.std.proofs.lemmas.List.{length-map}
use Rattle.std.proofs.lemmas.List.Folds.{find-append}
use Rattle.sd_num.specs.Lists.{map_or, same_number}
use Rattle.sd_plan.specs.declared.topo.Thing.TheVariants as thing
use Rattle.sd_device.specs.declared.msg.Flight.{Flight}
use Rattle.sd_sched.specs.Events.{message_of}
use Rattle.sd_history.specs.World.{Seen, makes, fails, is_up, up_after, is_thing}
use Rattle.sd_history.specs.Steps.{Act, Makes, Step, seen_of, changed, answers_in, live_answers, flights, flight_count, flight_numbered}
use Rattle.sd_history.specs.Refusals.{was_used, was_swept, since_sending}
use Rattle.sd_history.proofs.flights.Finds.{some_has}
use Rattle.sd_history.proofs.flights.Finds.{found_number}
use Rattle.sd_history.proofs.flights.Sending.{counted}
use Rattle.sd_resume.specs.law.Shifts.{Shift, raised_flight, raised_seen}
use Rattle.sd_resume.specs.law.Views.{LooksAlike}
use Rattle.sd_resume.specs.law.Agreement.{raised_answers, raised_told, raised_act, StepsAgree}
use Rattle.sd_resume.proofs.law.Words.{words_of, same_words, raised_number}
use Rattle.sd_resume.proofs.law.Views.{looks_alike_after}

-- the step of the second, with its numbers raised, is the step of the first
pub record StepAgrees (shift : Shift) (s t : Step) : Type 0 where
  pub seen : s.seen ≡ raised_seen shift t.seen
  pub act : s.act ≡ raised_act shift t.act
  pub told : s.told ≡ raised_told shift t.told
  pub sent : s.sent ≡ map (raised_flight shift) t.sent

-- Flights

pub same_numbers : (n m by : ℕ) → nat_eq (n + by) (m + by) ≡ nat_eq n m
same_numbers n m by = grind (arith, nat_tests)

find_raised : (shift : Shift) (n : ℕ) (fs : List Flight)
    → find (λ f. nat_eq f.number (n + shift.messages)) (map (raised_flight shift) fs) ≡ option_map (raised_flight shift) (find (λ f. nat_eq f.number n) fs)
find_raised shift n [] = refl
find_raised shift n (f ∷ fs) =
    ap (λ b. if b then Some (raised_flight shift f) else find (λ g. nat_eq g.number (n + shift.messages)) (map (raised_flight shift) fs))
    (same_numbers f.number n shift.messages)
    ∙ go (nat_eq f.number n) (find (λ g. nat_eq g.number n) fs) (find_raised shift n fs)
  where
    go : (b : Bool) {o : Option Flight} (p : Option Flight) → o ≡ option_map (raised_flight shift) p
        → (if b then Some (raised_flight shift f) else o) ≡ option_map (raised_flight shift) (if b then Some f else p)
    go true p same = refl
    go false p same = same

pub any_number_raised : (shift : Shift) (n : ℕ) (fs : List Flight)
    → list_any (λ f. nat_eq f.number (n + shift.messages)) (map (raised_flight shift) fs) ≡ list_any (λ f. nat_eq f.number n) fs
any_number_raised shift n [] = refl
any_number_raised shift n (f ∷ fs) =
    ap (λ b. b || list_any (λ g. nat_eq g.number (n + shift.messages)) (map (raised_flight shift) fs)) (same_numbers f.number n shift.messages)
    ∙ ap (λ b. nat_eq f.number n || b) (any_number_raised shift n fs)

or_raised : (shift : Shift) (a b : Option Flight)
    → option_or (option_map (raised_flight shift) a) (option_map (raised_flight shift) b) ≡ option_map (raised_flight shift) (option_or a b)
or_raised shift None b = refl
or_raised shift (Some f) b = refl

number_raised : (m : Option ℕ) (n by : ℕ) → same_number (option_map (λ x. x + by) m) (n + by) ≡ same_number m n
number_raised None n by = refl
number_raised (Some m) n by = same_numbers m n by

-- the step fails the link or the receiver of the flight
abbrev pub sweeps : Flight → Step → Bool
sweeps f x = fails (thing.Link f.link) x.seen.event || fails (thing.Device f.receiver) x.seen.event

-- whether a flight is swept, where a step comes
pub swept_step : (s : Step) (earlier : List Step) (f : Flight)
    → was_swept (s ∷ earlier) f
    ≡ (if list_any (λ g. nat_eq g.number f.number) s.sent then false
    else (fails (thing.Link f.link) s.seen.event || fails (thing.Device f.receiver) s.seen.event) || was_swept earlier f)
swept_step s earlier f = go (list_any (λ g. nat_eq g.number f.number) s.sent)
  where
    go : (b : Bool)
        → list_any (λ (x : Step). fails (thing.Link f.link) x.seen.event || fails (thing.Device f.receiver) x.seen.event)
        (if not b then s ∷ since_sending earlier f.number else [])
        ≡ (if b then false else (fails (thing.Link f.link) s.seen.event || fails (thing.Device f.receiver) s.seen.event) || was_swept earlier f)
    go true = refl
    go false = refl

module _ (shift : Shift) (s t : Step) (one other : List Step) (step : StepAgrees shift s t) (agree : StepsAgree shift one other) where
  words : words_of s.seen.event ≡ words_of t.seen.event
  words = ap (λ (x : Seen). words_of x.event) step.seen ∙ same_words shift t.seen.event

  numbered_after : (n : ℕ) → 1 ≤ n → flight_numbered (s ∷ one) (n + shift.messages) ≡ option_map (raised_flight shift) (flight_numbered (t ∷ other) n)
  numbered_after n some =
      find-append (λ f. nat_eq f.number (n + shift.messages)) s.sent (flights one)
      ∙ ap (λ fs. option_or (find (λ f. nat_eq f.number (n + shift.messages)) fs) (flight_numbered one (n + shift.messages))) step.sent
      ∙ ap (λ o. option_or o (flight_numbered one (n + shift.messages))) (find_raised shift n t.sent)
      ∙ ap (option_or (option_map (raised_flight shift) (find (λ f. nat_eq f.number n) t.sent))) (agree.numbered n some)
      ∙ or_raised shift (find (λ f. nat_eq f.number n) t.sent) (flight_numbered other n)
      ∙ ap (option_map (raised_flight shift)) (sym (find-append (λ f. nat_eq f.number n) t.sent (flights other)))

  used_after : (n : ℕ) → 1 ≤ n → was_used (s ∷ one) (n + shift.messages) ≡ was_used (t ∷ other) n
  used_after n some =
      ap (λ m. same_number m (n + shift.messages) || was_used one (n + shift.messages))
      (ap (λ (x : Seen). message_of x.event) step.seen ∙ raised_number shift t.seen.event)
      ∙ ap (λ b. b || was_used one (n + shift.messages)) (number_raised (message_of t.seen.event) n shift.messages)
      ∙ ap (λ b. same_number (message_of t.seen.event) n || b) (agree.used n some)

  swept_after : (n : ℕ) (f : Flight) → 1 ≤ n → flight_numbered (t ∷ other) n ≡ Some f
      → was_swept (s ∷ one) (raised_flight shift f) ≡ was_swept (t ∷ other) f
  swept_after n f some found =
      swept_step s one (raised_flight shift f)
      ∙ ap (λ fs. if list_any (λ g. nat_eq g.number (f.number + shift.messages)) fs then false else sweeps f s || was_swept one (raised_flight shift f)) step.sent
      ∙ ap (λ b. if b then false else sweeps f s || was_swept one (raised_flight shift f)) (any_number_raised shift f.number t.sent)
      ∙ ap (λ b. if list_any (λ g. nat_eq g.number f.number) t.sent then false else b || was_swept one (raised_flight shift f))
      (ap (λ w. is_thing w.failure (thing.Link f.link) || is_thing w.failure (thing.Device f.receiver)) words)
      ∙ go (list_any (λ g. nat_eq g.number f.number) t.sent) refl
      ∙ sym (swept_step t other f)
    where
      before : (o : Option Flight) → find (λ g. nat_eq g.number n) t.sent ≡ o → list_any (λ g. nat_eq g.number n) t.sent ≡ false
          → option_or o (flight_numbered other n) ≡ Some f → flight_numbered other n ≡ Some f
      before None is none all = all
      before (Some g) is none all = let some_ : list_any (λ x. nat_eq x.number n) t.sent ≡ true = some_has n t.sent g is in cc

      go : (b : Bool) → list_any (λ g. nat_eq g.number f.number) t.sent ≡ b
          → (if b then false else sweeps f t || was_swept one (raised_flight shift f)) ≡ (if b then false else sweeps f t || was_swept other f)
      go true is = refl
      go false is =
          let number : f.number ≡ n = found_number n (flights (t ∷ other)) f found in
          let none : list_any (λ g. nat_eq g.number n) t.sent ≡ false = sym (ap (λ m. list_any (λ (g : Flight). nat_eq g.number m) t.sent) number) ∙ is in
          ap (λ b. sweeps f t || b)
          (agree.swept n f some
          (before (find (λ g. nat_eq g.number n) t.sent) refl none (sym (find-append (λ g. nat_eq g.number n) t.sent (flights other)) ∙ found)))

  answers_after : ((d : ℕ) → makes d t.seen.event ≡ true → same_number (changed t.act) d ≡ true) → (d : ℕ)
      → live_answers (s ∷ one) d ≡ option_map (raised_answers shift) (live_answers (t ∷ other) d)
  answers_after makes_changed d =
      ap (λ b. if b then answers_in (s ∷ one) d else None) up
      ∙ ap (λ a. if is_up (seen_of (t ∷ other)) d then map_or (if same_number (changed a) d then Some s.told.answers else None) (answers_in one d) (λ x. x) else None)
      step.act
      ∙ ap (λ b. if is_up (seen_of (t ∷ other)) d then map_or (if b then Some s.told.answers else None) (answers_in one d) (λ x. x) else None) (changed_same t.act)
      ∙ ap (λ a. if is_up (seen_of (t ∷ other)) d then map_or (if same_number (changed t.act) d then Some a else None) (answers_in one d) (λ x. x) else None)
      (ap (λ told. told.answers) step.told)
      ∙ go (is_up (seen_of (t ∷ other)) d) (same_number (changed t.act) d) refl refl
    where
      up : is_up (seen_of (s ∷ one)) d ≡ is_up (seen_of (t ∷ other)) d
      up =
          ap (λ w. map_or (if same_number w.started d || same_number w.joined d then Some true else if is_thing w.failure (thing.Device d) then Some false else None)
          (is_up (seen_of one) d) (λ x. x)) words
          ∙ ap (λ b. map_or (up_after d t.seen.event) b (λ x. x)) (agree.seen.up d)

      changed_same : (act : Act) → same_number (changed (raised_act shift act)) d ≡ same_number (changed act) d
      changed_same (Makes m making) = refl
      changed_same _ = refl

      was_up : (m f was : Bool) → map_or (if m then Some true else if f then Some false else None) was (λ x. x) ≡ true → m ≡ false → was ≡ true
      was_up true f was is none = cc
      was_up false true was is none = cc
      was_up false false was is none = is

      live : (b : Bool) → b ≡ true → (if b then answers_in one d else None) ≡ option_map (raised_answers shift) (if b then answers_in other d else None)
          → answers_in one d ≡ option_map (raised_answers shift) (answers_in other d)
      live true is same = same
      live false is same = cc

      go : (now by : Bool) → is_up (seen_of (t ∷ other)) d ≡ now → same_number (changed t.act) d ≡ by
          → (if now then map_or (if by then Some (option_map (raised_answers shift) t.told.answers) else None) (answers_in one d) (λ x. x) else None)
          ≡ option_map (raised_answers shift) (if now then map_or (if by then Some t.told.answers else None) (answers_in other d) (λ x. x) else None)
      go false by is changes = refl
      go true true is changes = refl
      go true false is changes =
          let unmade : makes d t.seen.event ≡ false = unless (makes d t.seen.event) refl in
          let before : is_up (seen_of other) d ≡ true =
          was_up (makes d t.seen.event) (fails (thing.Device d) t.seen.event) (is_up (seen_of other) d) is unmade in
          live (is_up (seen_of other) d) before
          (ap (λ b. if b then answers_in one d else None) (sym (agree.seen.up d)) ∙ agree.answers d)
        where
          unless : (b : Bool) → makes d t.seen.event ≡ b → makes d t.seen.event ≡ false
          unless true made = let both : same_number (changed t.act) d ≡ true = makes_changed d made in cc
          unless false made = made

  pub steps_agree_after : ((d : ℕ) → makes d t.seen.event ≡ true → same_number (changed t.act) d ≡ true) → StepsAgree shift (s ∷ one) (t ∷ other)
  steps_agree_after makes_changed =
      record {
        seen = subst (λ (x : Seen). LooksAlike shift (x ∷ seen_of one) (t.seen ∷ seen_of other)) (sym step.seen)
            (looks_alike_after shift t.seen (seen_of one) (seen_of other) agree.seen);
        answers = answers_after makes_changed;
        count =
            counted s one ∙ ap (λ fs. length fs + flight_count one) step.sent ∙ ap (λ n. n + flight_count one) (length-map t.sent (raised_flight shift))
            ∙ ap (λ n. length t.sent + n) agree.count ∙ regroup (length t.sent) (flight_count other) shift.messages
            ∙ ap (λ n. n + shift.messages) (sym (counted t other));
        numbered = numbered_after;
        used = used_after;
        swept = swept_after;
      }
    where
      regroup : (a b c : ℕ) → a + (b + c) ≡ a + b + c
      regroup a b c = omega arith
