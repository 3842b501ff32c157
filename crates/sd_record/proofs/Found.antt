-- What a recorder finds of the messages on their way.
use Rattle.std.specs.Prelude.{◌≡◌, ℕ, ◌<◌, ◌≤◌, ◌-◌, ◌^◌, Bool, true, false, ◌&&◌, List, [], ◌∷◌, cond, filter, nat_eq, nat_lt, Option, Some, None, IfSome, Result, Ok, Err, refl, if◌then◌else◌}
use Rattle.std.proofs.Common.{arith, sym, ◌∙◌, ap, subst, inl, inr}
use Rattle.std.proofs.lemmas.Bool.{and_parts, cases_eq, eqb-true, le-ltb, lt-ltb}
use Rattle.sd_device.specs.declared.msg.Flight.{Flight}
use Rattle.sd_device.specs.declared.msg.TakeFault.{TakeFault}
use Rattle.sd_device.specs.msg.Books.{AreNumbered}
use Rattle.sd_sched.specs.declared.Event.{Event}
use Rattle.sd_history.specs.World.{Setting}
use Rattle.sd_history.specs.Steps.{flight_count}
use Rattle.sd_history.specs.Open.{unspent}
use Rattle.sd_history.specs.Accepted.{AreSteps}
use Rattle.sd_history.specs.Chronicle.{chronicle}
use Rattle.sd_history.specs.flights.Flights.{look_in}
use Rattle.sd_history.proofs.Among.{Among, first, later}
use Rattle.sd_history.proofs.flights.Numbers.{unspent_given}
use Rattle.sd_record.specs.declared.logs.MessageName.{MessageName}
use Rattle.sd_record.specs.Endings.{IsSoonest, Lists, named_ending}
use Rattle.sd_record.specs.Losing.{is_past, next_lost, soonest, sooner}
use Rattle.sd_record.specs.Looks.{has_ending, is_named}
use Rattle.sd_record.specs.Names.{IsLastNamed, flight_name, has_message}
use Rattle.sd_record.specs.Naming.{has_name, last_named, number_named}
use Rattle.sd_record.specs.Standing.{HasSeenAll, Keeps}
use Rattle.sd_record.specs.declared.endings.Ending.{Ending}
use Rattle.sd_record.specs.declared.endings.NamedEnding.{NamedEnding}
use Rattle.sd_record.specs.declared.recorder.Recorder.{Recorder}
use Rattle.sd_record.proofs.Members.{among_above, among_given, contained, found_on_way}

-- The last message of a name

-- where none of them has the name
named_none : (name : MessageName) (fs : List Flight) (before : ℕ) → ((f : Flight) → Among f fs → has_name name f ≡ true → ⊥)
    → last_named name before fs ≡ before
named_none name [] before none = refl
named_none name (f ∷ fs) before none = by (has_name name f) refl (named_none name fs before (λ g a. none g (later a)))
  where
    by : (b : Bool) → has_name name f ≡ b → last_named name before fs ≡ before → last_named name (if b then f.number else before) fs ≡ before
    by true named rest = absurd (none f first named)
    by false other rest = rest

-- one that has the name, where no other that has it has a greater number
named_one : (floor top : ℕ) (name : MessageName) (x : Flight) (fs : List Flight) (before : ℕ) → AreNumbered floor top fs → Among x fs
    → has_name name x ≡ true
    → ((f : Flight) → Among f fs → has_name name f ≡ true → f.number ≤ x.number)
    → last_named name before fs ≡ x.number
named_one floor top name x [] before numbered a named least = elim a [ ]
named_one floor top name x (u ∷ us) before numbered first named least =
    ap (λ (b : Bool). last_named name (if b then x.number else before) us) named
    ∙ named_none name us x.number (λ f later' named'.
    let high = among_above x.number top us f numbered.1 later' in
    let low = least f (later later') named' in
    omega (arith, high, low))
named_one floor top name x (u ∷ us) before numbered (later a) named least =
    named_one u.number top name x us (if has_name name u then u.number else before) numbered.1 a named (λ f a'. least f (later a'))

-- what has a name is called so
called : (name : MessageName) (f : Flight) → has_name name f ≡ true → flight_name f ≡ name
called name f named =
    let to = nat_eq f.receiver name.receiver in
    let over = nat_eq f.link name.link in
    let epoch = nat_eq f.message.epoch name.epoch in
    let term = nat_eq f.message.stamp.term name.term in
    let all = and_parts (to && over && epoch && term) (nat_eq f.message.stamp.round name.round) named in
    let most = and_parts (to && over && epoch) term all.0 in
    let some = and_parts (to && over) epoch most.0 in
    let ends = and_parts to over some.0 in
    ap (λ (n : ℕ). record { receiver = n; link = f.link; epoch = f.message.epoch; term = f.message.stamp.term; round = f.message.stamp.round })
    (eqb-true f.receiver name.receiver ends.0)
    ∙ ap (λ (n : ℕ). record { receiver = name.receiver; link = n; epoch = f.message.epoch; term = f.message.stamp.term; round = f.message.stamp.round })
    (eqb-true f.link name.link ends.1)
    ∙ ap (λ (n : ℕ). record { receiver = name.receiver; link = name.link; epoch = n; term = f.message.stamp.term; round = f.message.stamp.round })
    (eqb-true f.message.epoch name.epoch some.1)
    ∙ ap (λ (n : ℕ). record { receiver = name.receiver; link = name.link; epoch = name.epoch; term = n; round = f.message.stamp.round })
    (eqb-true f.message.stamp.term name.term most.1)
    ∙ ap (λ (n : ℕ). record { receiver = name.receiver; link = name.link; epoch = name.epoch; term = name.term; round = n })
    (eqb-true f.message.stamp.round name.round all.1)

module _ (r : Recorder) (setting : Setting) (events : List Event) (are : AreSteps setting (chronicle setting events)) (k : Keeps r (chronicle setting events))
    (all : HasSeenAll r setting events) where
  -- each message on its way that has a name is kept by it
  each_named : (name : MessageName) (f : Flight) → Among f (unspent (chronicle setting events) 0) → has_name name f ≡ true
      → has_message r.names name f.number ≡ true
  each_named name f a named =
      let steps = chronicle setting events in
      let given = among_given 0 (flight_count steps) (unspent steps 0) f (unspent_given setting steps 0 are) a in
      subst (λ (n : MessageName). has_message r.names n f.number ≡ true) (called name f named)
      (k.named f (contained (unspent steps 0) f a) (omega (arith, given, all)))

  few_given : (f : Flight) → flight_count (chronicle setting events) ≤ 2 ^ 41 → Among f (unspent (chronicle setting events) 0) → f.number < 2 ^ 64 - 1
  few_given f few a =
      let steps = chronicle setting events in
      let given = among_given 0 (flight_count steps) (unspent steps 0) f (unspent_given setting steps 0 are) a in omega (arith, given, few)

  -- the last message that is kept by a name is the last one that has it, where it is on its way
  pub last_is_named : (name : MessageName) (found : Result Flight TakeFault) (number : ℕ) → flight_count (chronicle setting events) ≤ 2 ^ 41
      → IsLastNamed r.names name number
      → found ≡ look_in (chronicle setting events) number
      → is_named name found ≡ true
      → number ≡ number_named name (chronicle setting events)
  last_is_named name (Err e) number few last is named = cc
  last_is_named name (Ok f) number few last is named =
      let steps = chronicle setting events in
      let (there, same) = found_on_way setting steps number f are (sym is) in
      let it : number_named name steps ≡ f.number =
      named_one 0 (flight_count steps) name f (unspent steps 0) 0 (unspent_given setting steps 0 are) there named (λ g a named'.
      let low = last.last g.number (few_given g few a) (each_named name g a named') in omega (arith, low, same)) in
      sym (it ∙ same)

  -- and where none is kept by a name, none has it
  pub none_is_named : (name : MessageName) → flight_count (chronicle setting events) ≤ 2 ^ 41
      → ((number : ℕ) → number < 2 ^ 64 - 1 → has_message r.names name number ≡ false)
      → 0 ≡ number_named name (chronicle setting events)
  none_is_named name few none =
      sym (named_none name (unspent (chronicle setting events) 0) 0 (λ f a named.
      let never : true ≡ false = sym (each_named name f a named) ∙ none f.number (few_given f few a) in cc))

-- The soonest ending

-- how it ends, if nobody receives it
abbrev ending_of : Flight → Ending
ending_of f = (named_ending f).ending

-- where none of them is past
none_past : (reference : ℕ) (fs : List Flight) (best : Option Ending) → ((f : Flight) → Among f fs → reference ≤ f.last)
    → soonest best (filter (is_past reference) fs) ≡ best
none_past reference [] best later' = refl
none_past reference (f ∷ fs) best later' =
    ap (λ (b : Bool). soonest best (cond b (f ∷ filter (is_past reference) fs) (filter (is_past reference) fs)))
    (le-ltb f.last reference (later' f first))
    ∙ none_past reference fs best (λ g a. later' g (later a))

-- where none of them ends sooner than the best one
best_stays : (reference : ℕ) (fs : List Flight) (best : Ending) → ((f : Flight) → Among f fs → best.last ≤ f.last)
    → soonest (Some best) (filter (is_past reference) fs) ≡ Some best
best_stays reference [] best none = refl
best_stays reference (f ∷ fs) best none = by (nat_lt f.last reference) (best_stays reference fs best (λ g a. none g (later a)))
  where
    by : (b : Bool) → soonest (Some best) (filter (is_past reference) fs) ≡ Some best
        → soonest (Some best) (cond b (f ∷ filter (is_past reference) fs) (filter (is_past reference) fs)) ≡ Some best
    by true rest =
        ap (λ (c : Bool). soonest (if c then Some (ending_of f) else Some best) (filter (is_past reference) fs)) (le-ltb f.last best.last (none f first))
        ∙ rest
    by false rest = rest

-- it ends later than x
abbrev Later : Flight → Option Ending → Type 0
Later x best = IfSome best (λ e. x.last < e.last)

takes_over : (x : Flight) (best : Option Ending) → Later x best → sooner best x.last x.number ≡ Some (ending_of x)
takes_over x None late = refl
takes_over x (Some b) late = ap (λ (c : Bool). if c then Some (ending_of x) else Some b) (lt-ltb x.last b.last late)

still_later : (x f : Flight) (best : Option Ending) → Later x best → x.last < f.last → Later x (sooner best f.last f.number)
still_later x f None late further = further
still_later x f (Some b) late further = by (nat_lt f.last b.last)
  where
    by : (c : Bool) → Later x (if c then Some (ending_of f) else Some b)
    by true = further
    by false = late

-- one that is past, and ends sooner than all others, or with them and has the lowest number
soonest_one : (floor top reference : ℕ) (x : Flight) (fs : List Flight) (best : Option Ending) → AreNumbered floor top fs → Among x fs
    → x.last < reference
    → ((f : Flight) → Among f fs → x.last ≤ f.last)
    → ((f : Flight) → Among f fs → f.last ≡ x.last → x.number ≤ f.number)
    → Later x best
    → soonest best (filter (is_past reference) fs) ≡ Some (ending_of x)
soonest_one floor top reference x [] best numbered a past low tied late = elim a [ ]
soonest_one floor top reference x (u ∷ us) best numbered first past low tied late =
    ap (λ (b : Bool). soonest best (cond b (x ∷ filter (is_past reference) us) (filter (is_past reference) us))) (lt-ltb x.last reference past)
    ∙ ap (λ (b : Option Ending). soonest b (filter (is_past reference) us)) (takes_over x best late)
    ∙ best_stays reference us (ending_of x) (λ f a'. low f (later a'))
soonest_one floor top reference x (u ∷ us) best numbered (later a) past low tied late =
    by (nat_lt u.last reference) (soonest_one u.number top reference x us best numbered.1 a past low' tied' late)
    (soonest_one u.number top reference x us (sooner best u.last u.number) numbered.1 a past low' tied' (still_later x u best late further))
  where
    low' : (f : Flight) → Among f us → x.last ≤ f.last
    low' f a' = low f (later a')

    tied' : (f : Flight) → Among f us → f.last ≡ x.last → x.number ≤ f.number
    tied' f a' = tied f (later a')

    further : x.last < u.last
    further =
        let high = among_above u.number top us x numbered.1 a in
        let most = low u first in
        elim (cases_eq u.last x.last) [
          | inl same ↦ (let least = tied u first same in absurd (omega (arith, high, least)))
          | inr other ↦ omega (arith, most, other)
        ]

    by : (b : Bool) → soonest best (filter (is_past reference) us) ≡ Some (ending_of x)
        → soonest (sooner best u.last u.number) (filter (is_past reference) us) ≡ Some (ending_of x)
        → soonest best (cond b (u ∷ filter (is_past reference) us) (filter (is_past reference) us)) ≡ Some (ending_of x)
    by true without it = it
    by false without it = without

module _ (r : Recorder) (setting : Setting) (events : List Event) (are : AreSteps setting (chronicle setting events)) (k : Keeps r (chronicle setting events))
    (all : HasSeenAll r setting events) where
  -- each message on its way is listed
  each_listed : (f : Flight) → Among f (unspent (chronicle setting events) 0) → Lists r.endings (named_ending f)
  each_listed f a =
      let steps = chronicle setting events in
      let given = among_given 0 (flight_count steps) (unspent steps 0) f (unspent_given setting steps 0 are) a in
      k.listed f (contained (unspent (chronicle setting events) 0) f a) (omega (arith, given, all))

  -- the soonest of the listed endings is that of the next loss, where it is past and its message is on its way
  pub soonest_is_lost : (reference : ℕ) (soonest' : NamedEnding) (found : Result Flight TakeFault) → IsSoonest r.endings soonest'
      → soonest'.ending.last < reference
      → found ≡ look_in (chronicle setting events) soonest'.ending.number
      → has_ending soonest'.ending found ≡ true
      → Some soonest'.ending ≡ next_lost reference (chronicle setting events)
  soonest_is_lost reference soonest' (Err e) soon past is ends = cc
  soonest_is_lost reference soonest' (Ok f) soon past is ends =
      let steps = chronicle setting events in
      let ending = soonest'.ending in
      let (there, number) = found_on_way setting steps ending.number f are (sym is) in
      let last : f.last ≡ ending.last = eqb-true f.last ending.last ends in
      let it : ending_of f ≡ ending =
      ap (λ (m : ℕ). record { last = m; number = f.number }) last ∙ ap (λ (m : ℕ). record { last = ending.last; number = m }) number in
      let lost : next_lost reference steps ≡ Some (ending_of f) =
      soonest_one 0 (flight_count steps) reference f (unspent steps 0) None (unspent_given setting steps 0 are) there (omega (arith, past, last))
      (λ g a. let low = soon.soonest (named_ending g) (each_listed g a) in omega (arith, low, last))
      (λ g a same. let low = soon.tied (named_ending g) (each_listed g a) (same ∙ last) in omega (arith, low, number)) tt in
      sym (lost ∙ ap (λ (e : Ending). Some e) it)

  -- none is lost where no listed ending is past
  pub none_is_lost : (reference : ℕ) → ((ending : NamedEnding) → Lists r.endings ending → reference ≤ ending.ending.last)
      → None ≡ next_lost reference (chronicle setting events)
  none_is_lost reference none =
      sym (none_past reference (unspent (chronicle setting events) 0) None (λ f a. none (named_ending f) (each_listed f a)))
