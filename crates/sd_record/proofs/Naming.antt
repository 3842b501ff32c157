-- Messages by their names: their order, one more and one less, and the last one of a name.
use Rattle.std.specs.Prelude.{◌≡◌, ◌≢◌, ◌⊎◌, ℕ, ◌<◌, ◌≤◌, Bool, true, false, cond, nat_eq, refl}
use Rattle.std.specs.BTreeMap.{is_at}
use Rattle.std.specs.Cmp.{IsTotalOrder, tied_then}
use Rattle.std.specs.Ordering.{MatchOrdering, is_eq, is_gt, is_lt, nat_cmp, ordering_reverse, ordering_then}
use Rattle.std.specs.declared.cmp.Ordering.{Ordering}
use Rattle.std.specs.declared.cmp.Ordering.TheVariants.{Equal, Greater, Less}
use Rattle.std.proofs.Common.{arith, sym, ◌∙◌, ap, inl, inr}
use Rattle.std.proofs.lemmas.Bool.{and_parts, lt-ltb}
use Rattle.std.proofs.lemmas.Cmp.{nat_cmp_total, on_total, ranked, then_total, tied_itself}
use Rattle.std.proofs.lemmas.Map.Lookups.{exact_unsigned}
use Rattle.std.proofs.lemmas.Map.Views.{tells_apart}
use Rattle.sd_record.specs.NameOrder.{by_message, by_name}
use Rattle.sd_record.specs.declared.logs.MessageName.{MessageName}
use Rattle.sd_record.specs.declared.names.NamedMessage.{NamedMessage}

-- The order

by_name_total : IsTotalOrder by_name
by_name_total =
    then_total (on_total (λ (n : MessageName). n.receiver) nat_cmp_total)
    (then_total (on_total (λ (n : MessageName). n.link) nat_cmp_total)
    (then_total (on_total (λ (n : MessageName). n.epoch) nat_cmp_total)
    (then_total (on_total (λ (n : MessageName). n.term) nat_cmp_total) (on_total (λ (n : MessageName). n.round) nat_cmp_total))))

itself : (m : NamedMessage) → by_message m m ≡ Equal
itself m =
    ap (λ (o : Ordering). ordering_then o (nat_cmp m.number m.number)) (tied_itself by_name_total m.name) ∙ tied_itself nat_cmp_total m.number

both_tied : (o p : Ordering) → is_eq (ordering_then o p) ≡ true → (is_eq o ≡ true) × (is_eq p ≡ true)
both_tied o p is = and_parts (is_eq o) (is_eq p) (tied_then o p ∙ is)

same_number : (x y : ℕ) → is_eq (nat_cmp x y) ≡ true → x ≡ y
same_number x y = tells_apart exact_unsigned x y

abbrev name_made : (receiver link epoch term round : ℕ) → MessageName
name_made receiver link epoch term round = record { receiver = receiver; link = link; epoch = epoch; term = term; round = round }

-- the order tells all names apart
same_name : (x y : MessageName) → is_eq (by_name x y) ≡ true → x ≡ y
same_name x y is =
    let first = both_tied (nat_cmp x.receiver y.receiver) _ is in
    let second = both_tied (nat_cmp x.link y.link) _ first.1 in
    let third = both_tied (nat_cmp x.epoch y.epoch) _ second.1 in
    let fourth = both_tied (nat_cmp x.term y.term) (nat_cmp x.round y.round) third.1 in
    ap (λ n. name_made n x.link x.epoch x.term x.round) (same_number x.receiver y.receiver first.0)
    ∙ ap (λ n. name_made y.receiver n x.epoch x.term x.round) (same_number x.link y.link second.0)
    ∙ ap (λ n. name_made y.receiver y.link n x.term x.round) (same_number x.epoch y.epoch third.0)
    ∙ ap (λ n. name_made y.receiver y.link y.epoch n x.round) (same_number x.term y.term fourth.0)
    ∙ ap (λ n. name_made y.receiver y.link y.epoch y.term n) (same_number x.round y.round fourth.1)

abbrev message_made : MessageName → ℕ → NamedMessage
message_made name number = record { name = name; number = number }

-- and all messages
same_message : (x y : NamedMessage) → is_at (by_message x) y ≡ true → x ≡ y
same_message x y is =
    let both = both_tied (by_name x.name y.name) (nat_cmp x.number y.number) is in
    ap (λ name. message_made name x.number) (same_name x.name y.name both.0) ∙ ap (message_made y.name) (same_number x.number y.number both.1)

-- One more

pub more_added : (m : NamedMessage) (b : Bool) → cond (is_at (by_message m) m) true b ≡ true
more_added m b = ap (λ (o : Ordering). cond (is_eq o) true b) (itself m)

pub more_kept : (c b : Bool) → b ≡ true → cond c true b ≡ true
more_kept true b there = refl
more_kept false b there = there

pub more_only : (m q : NamedMessage) (b : Bool) → cond (is_at (by_message m) q) true b ≡ true → (b ≡ true) ⊎ (m ≡ q)
more_only m q b there = by (is_at (by_message m) q) refl there
  where
    by : (c : Bool) → is_at (by_message m) q ≡ c → cond c true b ≡ true → (b ≡ true) ⊎ (m ≡ q)
    by true at there' = inr (same_message m q at)
    by false at there' = inl there'

-- One less

pub less_gone : (m : NamedMessage) (b : Bool) → cond (is_at (by_message m) m) false b ≡ false
less_gone m b = ap (λ (o : Ordering). cond (is_eq o) false b) (itself m)

pub less_kept : (m q : NamedMessage) (b : Bool) → q.number ≢ m.number → b ≡ true → cond (is_at (by_message m) q) false b ≡ true
less_kept m q b apart there = by (is_at (by_message m) q) refl
  where
    by : (c : Bool) → is_at (by_message m) q ≡ c → cond c false b ≡ true
    by true at = absurd (apart (ap (λ (x : NamedMessage). x.number) (sym (same_message m q at))))
    by false at = there

pub less_less : (c b : Bool) → cond c false b ≡ true → b ≡ true
less_less true b there = cc
less_less false b there = there

-- The last one of a name

module _ (name : MessageName) where
  -- what has the name is between two bounds
  pub above_first : (number : ℕ) → is_gt (by_message (message_made name 0) (message_made name number)) ≡ false
  above_first number = ap (λ (o : Ordering). is_gt (ordering_then o (nat_cmp 0 number))) (tied_itself by_name_total name) ∙ low (nat_cmp 0 number) refl
    where
      low : (o : Ordering) → o ≡ nat_cmp 0 number → is_gt o ≡ false
      low o is = by o (ranked 0 number o is)
        where
          by : (p : Ordering) → MatchOrdering p (0 < number) (0 ≡ number) (number < 0) → is_gt p ≡ false
          by Less less = refl
          by Equal same = refl
          by Greater more = absurd (omega (arith, more))

  pub below_end : (number most : ℕ) → number < most → by_message (message_made name number) (message_made name most) ≡ Less
  below_end number most few =
      ap (λ (o : Ordering). ordering_then o (nat_cmp number most)) (tied_itself by_name_total name)
      ∙ ap (λ (b : Bool). cond b Less (cond (nat_eq number most) Equal Greater)) (lt-ltb number most few)

  -- what is between them has the name
  between : (q : NamedMessage) (most : ℕ) → is_gt (by_message (message_made name 0) q) ≡ false → by_message q (message_made name most) ≡ Less
      → is_eq (by_name q.name name) ≡ true
  between q most low high =
      by (by_name q.name name) refl
      (sym (ap (λ (o : Ordering). is_gt (ordering_then o (nat_cmp 0 q.number))) (by_name_total.antisymm name q.name)) ∙ low) high
    where
      by : (o : Ordering) → by_name q.name name ≡ o
          → is_gt (ordering_then (ordering_reverse (by_name q.name name)) (nat_cmp 0 q.number)) ≡ false
          → by_message q (message_made name most) ≡ Less
          → is_eq (by_name q.name name) ≡ true
      by Less is low' high' =
          let never : true ≡ false = sym (ap (λ (p : Ordering). is_gt (ordering_then (ordering_reverse p) (nat_cmp 0 q.number))) is) ∙ low' in cc
      by Equal is low' high' = ap is_eq is
      by Greater is low' high' =
          let never : Greater ≡ Less = sym (ap (λ (p : Ordering). ordering_then p (nat_cmp q.number most)) is) ∙ high' in cc

  pub has_the_name : (q : NamedMessage) (most : ℕ) → is_gt (by_message (message_made name 0) q) ≡ false → by_message q (message_made name most) ≡ Less
      → q.name ≡ name
  has_the_name q most low high = same_name q.name name (between q most low high)

  -- and what is not after one of these has no greater number
  pub not_after : (q : NamedMessage) (number : ℕ) → q.name ≡ name → is_lt (by_message q (message_made name number)) ≡ false → number ≤ q.number
  not_after q number is low =
      by (nat_cmp q.number number) (ranked q.number number (nat_cmp q.number number) refl)
      (sym (ap (λ (o : Ordering). is_lt (ordering_then o (nat_cmp q.number number)))
      (ap (λ (n : MessageName). by_name n name) is ∙ tied_itself by_name_total name)) ∙ low)
    where
      by : (o : Ordering) → MatchOrdering o (q.number < number) (q.number ≡ number) (number < q.number) → is_lt o ≡ false → number ≤ q.number
      by Less less late = cc
      by Equal same late = omega (arith, same)
      by Greater more late = omega (arith, more)
