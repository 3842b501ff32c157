-- What is found of a number that was given.
use Rattle.std.proofs.Common.{◌≡◌, ℕ, ◌<◌, ◌≤◌, true, List, length, get_or, Option, None, Some, Ok, Err, find, ◌⊎◌, inl, inr, refl, sym, ap, ◌∙◌, arith}
use Rattle.std.specs.List.{All}
use Rattle.std.specs.Option.{ok_or}
use Rattle.std.proofs.lemmas.Bool.{cases_lt, le-leb}
use Rattle.sd_device.specs.declared.msg.Flight.{Flight}
use Rattle.sd_device.specs.declared.msg.TakeFault.TheVariants as fault
use Rattle.sd_device.specs.msg.Books.{AreNumbered, has_number, found, is_given}
use Rattle.sd_device.proofs.msg.Numbered.{number_at, rises}
use Rattle.sd_device.proofs.msg.Finding.{absent, found_at}

given : (last n : ℕ) → 1 ≤ n → n ≤ last → is_given last n ≡ true
given last n positive within = rw (le-leb 1 n positive, le-leb n last within) refl

found_given : (last n : ℕ) (fs : List Flight) (o : Option Flight) → 1 ≤ n → n ≤ last → find (has_number n) fs ≡ o → found last fs n ≡ ok_or o fault.Spent
found_given last n fs o positive within is = rw (given last n positive within, is) refl

-- it is the flight that has it
pub found_here : (last n : ℕ) (fs : List Flight) (i : ℕ) (f : Flight) → AreNumbered 0 last fs → 1 ≤ n → n ≤ last → i < length fs
    → ((d : Flight) → f ≡ get_or fs i d) → f.number ≡ n → found last fs n ≡ Ok f
found_here last n fs i f h positive within inside is number =
    found_given last n fs (Some f) positive within
    (found_at 0 last n fs i h inside (λ e. sym (ap (λ (g : Flight). g.number) (is e)) ∙ number) f ∙ ap Some (sym (is f)))

-- or there is none
pub found_none : (last n : ℕ) (fs : List Flight) → 1 ≤ n → n ≤ last → All (λ f. f.number ≡ n → ⊥) fs → found last fs n ≡ Err fault.Spent
found_none last n fs positive within others = found_given last n fs None positive within (absent n fs others)

-- all before the place have smaller numbers, the one at the place has a greater one, and so have those after it
pub none_there : (top n : ℕ) (fs : List Flight) (i : ℕ) (f : Flight) → AreNumbered 0 top fs → ((k : ℕ) (d : Flight) → k < i → number_at fs k d < n)
    → ((k : ℕ) (d : Flight) → i ≤ k → k < length fs → n ≤ number_at fs k d) → i < length fs → ((d : Flight) → f ≡ get_or fs i d) → (f.number ≡ n → ⊥)
    → All (λ g. g.number ≡ n → ⊥) fs
none_there top n fs i f h before after inside is other k d within same = by (cases_lt k i)
  where
    by : (k < i) ⊎ (i ≤ k) → ⊥
    by (inl early) = let less : number_at fs k d < n = before k d early in omega (arith, less, same)
    by (inr late) =
        let low : n ≤ number_at fs i d = after i d (omega arith) inside in
        let high : number_at fs i d ≤ number_at fs k d = rises 0 top fs h i k d late within in
        other (ap (λ (g : Flight). g.number) (is d) ∙ omega (arith, low, high, same))
