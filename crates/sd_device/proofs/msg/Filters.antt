-- Flights that pass tests.
use Rattle.std.proofs.Common.{◌≡◌, Bool, true, false, ◌&&◌, cond, List, [], ◌∷◌, ◌++◌, refl, ◌∙◌, ap}
use Rattle.std.specs.List.{filter}
use Rattle.std.proofs.lemmas.List.{append-nil}
use Rattle.std.proofs.lemmas.List.Elements.{filter-append}
use Rattle.sd_device.specs.declared.msg.Flight.{Flight}

-- one that passes a test comes last
pub passing_last : (test : Flight → Bool) (fs : List Flight) (f : Flight) → test f ≡ true → filter test (fs ++ f ∷ []) ≡ filter test fs ++ f ∷ []
passing_last test fs f passes = filter-append test fs (f ∷ []) ∙ rw passes refl

-- or fails it
pub failing_last : (test : Flight → Bool) (fs : List Flight) (f : Flight) → test f ≡ false → filter test (fs ++ f ∷ []) ≡ filter test fs
failing_last test fs f fails = filter-append test fs (f ∷ []) ∙ rw fails (append-nil (filter test fs))

-- a test that all pass that passed another
pub filter_again : (p q : Flight → Bool) (fs : List Flight) → ((f : Flight) → p f ≡ true → q f ≡ true) → filter q (filter p fs) ≡ filter p fs
filter_again p q [] passes = refl
filter_again p q (f ∷ fs) passes = by (p f) refl (filter_again p q fs passes)
  where
    by : (b : Bool) → p f ≡ b → filter q (filter p fs) ≡ filter p fs → filter q (cond b (f ∷ filter p fs) (filter p fs)) ≡ cond b (f ∷ filter p fs) (filter p fs)
    by true here rest = rw (passes f here) (ap (λ gs. f ∷ gs) rest)
    by false here rest = rest

-- both tests at once
pub filter_and : (p q : Flight → Bool) (fs : List Flight) → filter (λ f. p f && q f) fs ≡ filter q (filter p fs)
filter_and p q [] = refl
filter_and p q (f ∷ fs) = by (p f) (q f) refl (filter_and p q fs)
  where
    by : (a b : Bool) → q f ≡ b → filter (λ g. p g && q g) fs ≡ filter q (filter p fs)
        → cond (a && b) (f ∷ filter (λ g. p g && q g) fs) (filter (λ g. p g && q g) fs) ≡ filter q (cond a (f ∷ filter p fs) (filter p fs))
    by true true two rest = rw two (ap (λ gs. f ∷ gs) rest)
    by true false two rest = rw two rest
    by false b two rest = rest
