-- What holds of the flights that a book keeps goes on holding, and what is seen of them.
use Rattle.std.proofs.Common.{◌≡◌, ℕ, zero, suc, ◌+◌, ◌<◌, ◌≤◌, Bool, true, false, ◌&&◌, not, cond, nat_le, nat_lt, List, [], ◌∷◌, ◌++◌, length, get_or, drop, set, refl, sym, ◌∙◌, ap, subst, arith}
use Rattle.std.specs.List.{filter, All}
use Rattle.std.proofs.lemmas.Bool.{and_from, eq-eqb, le-leb, lt-ltb}
use Rattle.std.proofs.lemmas.List.Elements.{All-push, All-set, All-get_or, All-filter, All-head, All-tail, filter_agree}
use Rattle.sd_plan.specs.declared.topo.Thing.{Thing}
use Rattle.sd_device.specs.declared.msg.Flight.{Flight}
use Rattle.sd_device.specs.declared.msg.spent.Spent.{Spent}
use Rattle.sd_device.specs.msg.Books.{Size, AreNumbered, has_number, without, with_sent, is_swept, is_current, is_within}
use Rattle.sd_device.specs.msg.Marks.{mark_of}
use Rattle.sd_device.specs.msg.Spent.{is_spared, is_left, as_spent, size_of, AreKept}
use Rattle.sd_device.proofs.msg.Numbered.{floor_low, lower, numbered_filter, numbered_push, numbered_spent}
use Rattle.sd_device.proofs.msg.Finding.{beyond, first_is_other, without_none}
use Rattle.sd_device.proofs.msg.Filters.{passing_last, failing_last, filter_and}

abbrev IsWithin : Spent → Flight → Type 0
IsWithin spent f = is_within (size_of spent) f ≡ true

-- they ascend by number
pub numbered : (last : ℕ) (spent : Spent) (fs : List Flight) → AreKept last spent fs → AreNumbered 0 last fs
numbered last spent fs h = h.numbers

-- and so does what is seen of them
pub seen_numbered : (test : Flight → Bool) (last : ℕ) (spent : Spent) (fs : List Flight) → AreKept last spent fs → AreNumbered 0 last (filter test fs)
seen_numbered test last spent fs h = numbered_filter 0 last test fs (numbered last spent fs h)

-- a flight over one of the links, to one of the devices
pub inside : (size : Size) (f : Flight) → f.link < size.links → f.receiver < size.devices → is_within size f ≡ true
inside size f link receiver =
    and_from (nat_lt f.link size.links) (nat_lt f.receiver size.devices) (lt-ltb f.link size.links link) (lt-ltb f.receiver size.devices receiver)

one_more : (m last : ℕ) → m ≤ last → m ≤ last + 1
one_more m last low = omega (arith, low)

-- a flight is added
pub pushed : (last : ℕ) (spent : Spent) (fs : List Flight) (f : Flight) → AreKept last spent fs → f.number ≡ last + 1 → is_within (size_of spent) f ≡ true
    → AreKept (last + 1) spent (fs ++ f ∷ [])
pushed last spent fs f h next inside =
    record {
      numbers = numbered_push 0 last fs f next h.numbers;
      within = All-push (IsWithin spent) fs f h.within inside;
      links = λ k. one_more (mark_of spent.links k) last (h.links k);
      receivers = λ k. one_more (mark_of spent.receivers k) last (h.receivers k);
    }

-- it is left where it reaches
new_left : (last : ℕ) (spent : Spent) (fs : List Flight) (f : Flight) → f.reaches ≡ true → AreKept last spent fs → f.number ≡ last + 1
    → spent.reference ≤ f.last → is_left spent f ≡ true
new_left last spent fs f reaches h next late =
    let link : mark_of spent.links f.link ≤ last = h.links f.link in
    let receiver : mark_of spent.receivers f.receiver ≤ last = h.receivers f.receiver in
    let link_passes : nat_lt (mark_of spent.links f.link) f.number ≡ true = lt-ltb (mark_of spent.links f.link) f.number (omega (arith, link, next)) in
    let receiver_passes : nat_lt (mark_of spent.receivers f.receiver) f.number ≡ true =
    lt-ltb (mark_of spent.receivers f.receiver) f.number (omega (arith, receiver, next)) in
    and_from f.reaches (is_spared spent f) reaches
    (and_from (nat_le spent.reference f.last && nat_lt (mark_of spent.links f.link) f.number) (nat_lt (mark_of spent.receivers f.receiver) f.number)
    (and_from (nat_le spent.reference f.last) (nat_lt (mark_of spent.links f.link) f.number) (le-leb spent.reference f.last late) link_passes) receiver_passes)

-- and seen last then
pub seen_pushed : (last : ℕ) (old new : Spent) (before fs : List Flight) (f : Flight) → AreKept last new fs → f.number ≡ last + 1
    → new.reference ≤ f.last → filter (is_left new) fs ≡ filter (is_left old) before
    → filter (is_left new) (fs ++ f ∷ []) ≡ with_sent (filter (is_left old) before) f
seen_pushed last old new before fs f h next late seen = by f.reaches refl
  where
    by : (b : Bool) → f.reaches ≡ b
        → filter (is_left new) (fs ++ f ∷ []) ≡ cond b (filter (is_left old) before ++ f ∷ []) (filter (is_left old) before)
    by true reaches = passing_last (is_left new) fs f (new_left last new fs f reaches h next late) ∙ ap (λ gs. gs ++ f ∷ []) seen
    by false reaches = failing_last (is_left new) fs f (ap (λ b. b && is_spared new f) reaches) ∙ seen

-- Without the first

pub kept_rest : (last : ℕ) (spent : Spent) (fs : List Flight) → AreKept last spent fs → AreKept last spent (drop 1 fs)
kept_rest last spent [] h = h
kept_rest last spent (f ∷ fs) h =
    record {
      numbers = lower 0 f.number last fs (omega arith) h.numbers.1;
      within = All-tail (IsWithin spent) f fs h.within;
      links = h.links;
      receivers = h.receivers;
    }

pub seen_rest : (spent : Spent) (fs : List Flight) (f : Flight) → f ≡ get_or fs 0 f → is_left spent f ≡ false
    → filter (is_left spent) (drop 1 fs) ≡ filter (is_left spent) fs
seen_rest spent [] f is gone = refl
seen_rest spent (g ∷ fs) f is gone = rw (subst (λ x. is_left spent x ≡ false) is gone) refl

-- Those that pass a test

pub kept_filter : (test : Flight → Bool) (last : ℕ) (spent : Spent) (fs : List Flight) → AreKept last spent fs → AreKept last spent (filter test fs)
kept_filter test last spent fs h =
    record {
      numbers = numbered_filter 0 last test fs h.numbers;
      within = All-filter test (IsWithin spent) fs h.within;
      links = h.links;
      receivers = h.receivers;
    }

-- What a purge and a sweep leave to be seen

pub seen_purged : (old new : Spent) (reference : ℕ) (fs : List Flight) → ((f : Flight) → is_left new f ≡ (is_left old f && is_current reference f))
    → filter (is_left new) fs ≡ filter (is_current reference) (filter (is_left old) fs)
seen_purged old new reference fs left = filter_agree (is_left new) (λ f. is_left old f && is_current reference f) left fs
    ∙ filter_and (is_left old) (is_current reference) fs

module _ (last : ℕ) (old new : Spent) (thing : Thing) (left : (f : Flight) → is_within (size_of old) f ≡ true → f.number ≤ last
    → is_left new f ≡ (is_left old f && not (is_swept thing f))) where
  each_left : (floor : ℕ) (fs : List Flight) → AreNumbered floor last fs → All (IsWithin old) fs
      → filter (is_left new) fs ≡ filter (λ f. is_left old f && not (is_swept thing f)) fs
  each_left floor [] h within = refl
  each_left floor (f ∷ fs) h within =
      ap (λ b. cond b (f ∷ filter (is_left new) fs) (filter (is_left new) fs)) (left f (All-head (IsWithin old) f fs within) (floor_low f.number last fs h.1))
      ∙ ap (λ gs. cond (is_left old f && not (is_swept thing f)) (f ∷ gs) gs) (each_left f.number fs h.1 (All-tail (IsWithin old) f fs within))

  pub seen_swept : (fs : List Flight) → AreKept last old fs → filter (is_left new) fs ≡ filter (λ f. not (is_swept thing f)) (filter (is_left old) fs)
  seen_swept fs h = each_left 0 fs (numbered last old fs h) h.within ∙ filter_and (is_left old) (λ f. not (is_swept thing f)) fs

-- A flight that is spent in its place

-- it keeps its number, its link and its receiver
pub kept_spent : (last : ℕ) (spent : Spent) (fs : List Flight) (i : ℕ) (f : Flight) → AreKept last spent fs → i < length fs → ((d : Flight) → f ≡ get_or fs i d)
    → AreKept last spent (set fs i (as_spent f))
kept_spent last spent fs i f h within is =
    record {
      numbers = numbered_spent 0 last fs i f h.numbers within is;
      within = All-set (IsWithin spent) fs i (as_spent f) (subst (IsWithin spent) (sym (is f)) (All-get_or (IsWithin spent) fs i f within h.within)) h.within;
      links = h.links;
      receivers = h.receivers;
    }

spent_seen : (floor last : ℕ) (spent : Spent) (fs : List Flight) (i : ℕ) (f : Flight) → AreNumbered floor last fs → i < length fs
    → ((d : Flight) → f ≡ get_or fs i d)
    → filter (is_left spent) (set fs i (as_spent f)) ≡ without f.number (filter (is_left spent) fs)
spent_seen floor last spent [] i f h within is = absurd (omega arith)
spent_seen floor last spent (g ∷ fs) zero f h within is = by (is_left spent g)
  where
    same : g.number ≡ f.number
    same = ap (λ (x : Flight). x.number) (sym (is f))

    rest : filter (is_left spent) fs ≡ without f.number (filter (is_left spent) fs)
    rest = sym (without_none f.number (filter (is_left spent) fs)
        (beyond g.number last f.number (filter (is_left spent) fs) (numbered_filter g.number last (is_left spent) fs h.1) (omega (arith, same))))

    by : (b : Bool) → filter (is_left spent) fs ≡ without f.number (cond b (g ∷ filter (is_left spent) fs) (filter (is_left spent) fs))
    by true = rw (eq-eqb g.number f.number same) rest
    by false = rest
spent_seen floor last spent (g ∷ fs) (suc i) f h within is = by (is_left spent g) (spent_seen g.number last spent fs i f h.1 (omega arith) is)
  where
    other : has_number f.number g ≡ false
    other = first_is_other floor last f.number g fs i h (omega arith) (ap (λ (x : Flight). x.number) (sym (is g)))

    by : (b : Bool) → filter (is_left spent) (set fs i (as_spent f)) ≡ without f.number (filter (is_left spent) fs)
        → cond b (g ∷ filter (is_left spent) (set fs i (as_spent f))) (filter (is_left spent) (set fs i (as_spent f)))
        ≡ without f.number (cond b (g ∷ filter (is_left spent) fs) (filter (is_left spent) fs))
    by true more = rw other (ap (λ gs. g ∷ gs) more)
    by false more = more

pub seen_spent : (last : ℕ) (spent : Spent) (fs : List Flight) (i : ℕ) (f : Flight) → AreKept last spent fs → i < length fs → ((d : Flight) → f ≡ get_or fs i d)
    → filter (is_left spent) (set fs i (as_spent f)) ≡ without f.number (filter (is_left spent) fs)
seen_spent last spent fs i f h within is = spent_seen 0 last spent fs i f (numbered last spent fs h) within is
