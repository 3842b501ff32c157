-- Sending over one end after another.
use Rattle.std.specs.Prelude.{◌≡◌, ℕ, zero, suc, ◌+◌, ◌<◌, ◌≤◌, false, List, [], ◌∷◌, ◌++◌, length, take, get_or, filter, nat_eq, refl, if◌then◌else◌}
use Rattle.std.proofs.Common.{arith, sym, ◌∙◌, ap, add-one}
use Rattle.std.proofs.lemmas.Bool.{ne_eqb}
use Rattle.std.proofs.lemmas.List.{length-take-le}
use Rattle.sd_plan.specs.topo.Network.{Network}
use Rattle.sd_plan.specs.declared.End.{End}
use Rattle.sd_device.specs.declared.msg.Flight.{Flight}
use Rattle.sd_device.specs.msg.Books.{Book, AreGiven, with_sent}
use Rattle.sd_world.specs.world.Registers as worlds
use Rattle.sd_history.proofs.flights.Booking.{sent_more}
use Rattle.sd_fleet.specs.declared.messages.Sending.{Sending}
use Rattle.sd_fleet.specs.declared.messages.Sent.{Sent}
use Rattle.sd_fleet.specs.Outcomes.{first_number}
use Rattle.sd_fleet.specs.Sending.{flight_over, flights_over}

-- an end is one of the network's devices, and the delay towards it is limited

-- one more of the ends

pub length-over : (net : Network) (world : worlds.Registers) (s : Sending) (n : ℕ) (ends : List End) → length (flights_over net world s n ends) ≡ length ends
length-over net world s n [] = refl
length-over net world s n (e ∷ ends) = ap suc (length-over net world s (n + 1) ends)

over_more : (net : Network) (world : worlds.Registers) (s : Sending) (n : ℕ) (ends : List End) (i : ℕ) (e : End) → i < length ends
    → flights_over net world s n (take (suc i) ends) ≡ flights_over net world s n (take i ends) ++ flight_over net world s (n + i) (get_or ends i e) ∷ []
over_more net world s n [] i e within = absurd (omega arith)
over_more net world s n (x ∷ xs) zero e within = let same : n ≡ n + 0 = omega arith in ap (λ (k : ℕ). flight_over net world s k x ∷ []) same
over_more net world s n (x ∷ xs) (suc i) e within =
    let same : n + 1 + i ≡ n + suc i = omega arith in
    ap (λ fs. flight_over net world s n x ∷ fs)
    (over_more net world s (n + 1) xs i e (omega arith)
    ∙ ap (λ (k : ℕ). flights_over net world s (n + 1) (take i xs) ++ flight_over net world s k (get_or xs i e) ∷ []) same)

first_more : (fs : List Flight) (f : Flight) → first_number (fs ++ f ∷ []) ≡ (if nat_eq (length fs) 0 then f.number else first_number fs)
first_more [] f = refl
first_more (g ∷ fs) f = sym (ap (λ b. if b then f.number else g.number) (apart (length fs)))
  where
    apart : (n : ℕ) → nat_eq (suc n) 0 ≡ false
    apart n = ne_eqb (suc n) 0 (λ same. omega arith)

-- what was sent over the first ends
pub record SentOver (net : Network) (world : worlds.Registers) (s : Sending) (ends : List End) (first : Book) (i : ℕ) (book : Book) (sent : Sent) : Type 0 where
  pub given : AreGiven book
  pub flights : book.flights ≡ first.flights ++ filter (λ f. f.reaches) (flights_over net world s (first.last + 1) (take i ends))
  pub last : book.last ≡ first.last + i
  pub size : book.size ≡ first.size
  pub room : first.room ≤ book.room + i
  pub number : sent.first ≡ first_number (flights_over net world s (first.last + 1) (take i ends))
  pub count : sent.count ≡ i

pub sent_one_more : (net : Network) (world : worlds.Registers) (s : Sending) (ends : List End) (first : Book) (i : ℕ) (old new : Book) (before after : Sent)
    (number : ℕ) (e : End) → i < length ends → e ≡ get_or ends i e
    → SentOver net world s ends first i old before → AreGiven new → number ≡ old.last + 1
    → new.flights ≡ with_sent old.flights (flight_over net world s number e) → new.last ≡ number → new.size ≡ old.size
    → old.room ≤ new.room + 1
    → after.first ≡ (if nat_eq before.count 0 then number else before.first) → after.count ≡ before.count + 1
    → SentOver net world s ends first (i + 1) new after
sent_one_more net world s ends first i old new before after number e within is over given next flights last same_size room begins counts =
    let sent : List Flight = flights_over net world s (first.last + 1) (take i ends) in
    let n : number ≡ first.last + 1 + i = omega (arith, next, over.last) in
    let more : flights_over net world s (first.last + 1) (take (i + 1) ends) ≡ sent ++ flight_over net world s number e ∷ [] =
    ap (λ (k : ℕ). flights_over net world s (first.last + 1) (take k ends)) (add-one i)
    ∙ over_more net world s (first.last + 1) ends i e within
    ∙ ap (λ x. sent ++ flight_over net world s (first.last + 1 + i) x ∷ []) (sym is)
    ∙ ap (λ (k : ℕ). sent ++ flight_over net world s k e ∷ []) (sym n) in
    let size : length sent ≡ i = length-over net world s (first.last + 1) (take i ends) ∙ length-take-le i ends (omega arith) in
    record {
      given = given;
      flights =
          flights
          ∙ ap (λ fs. with_sent fs (flight_over net world s number e)) over.flights
          ∙ sent_more first.flights sent (flight_over net world s number e)
          ∙ ap (λ fs. first.flights ++ filter (λ f. f.reaches) fs) (sym more);
      last = omega (arith, last, n);
      size = same_size ∙ over.size;
      room = omega (arith, room, over.room);
      number =
          begins
          ∙ ap (λ (k : ℕ). if nat_eq k 0 then number else before.first) (over.count ∙ sym size)
          ∙ ap (λ (k : ℕ). if nat_eq (length sent) 0 then number else k) over.number
          ∙ sym (first_more sent (flight_over net world s number e))
          ∙ ap first_number (sym more);
      count = omega (arith, counts, over.count);
    }
