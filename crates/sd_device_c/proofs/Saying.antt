-- What is kept says one device, and says none once a byte of it is another.
use Rattle.std.specs.Prelude.{ℕ, suc, ◌+◌, ◌-◌, ◌*◌, ◌^◌, ◌<◌, ◌≤◌, ◌⊎◌, List, [], ◌∷◌, ◌++◌, length, get_or, take, drop, Option, Some, None, IfNone, IsTrue, Bool, true, false}
use Rattle.std.specs.List.{flat_map}
use Rattle.std.proofs.Common.{◌≡◌, refl, sym, ap, ◌∙◌, subst, inl, inr, ⊎_elim, arith, length-append}
use Rattle.std.specs.Int.{w32, from_le_bytes}
use Rattle.std.proofs.lemmas.List.{append_cancel_left, take-append-drop, length-drop, take_all}
use Rattle.sd_device_c.specs.declared.plain.PlainDevice.{PlainDevice}
use Rattle.sd_device_c.specs.declared.plain.PlainPort.{PlainPort}
use Rattle.sd_num.specs.Counts.{one_if}
use Rattle.sd_device_c.specs.declared.faults.Fault.{Fault}
use Rattle.sd_device_c.specs.Plain.{rates_from}
use Rattle.sd_device_c.specs.Pauses.{advance, is_in_time}
use Rattle.sd_device_c.specs.Answers.{IsAnswerFor, IsDevice}
use Rattle.sd_device_c.specs.Crc.{crc_of}
use Rattle.sd_device_c.specs.Kept.{little, title, header_bytes, state_bytes, port_bytes, body_bytes, checked, kept_bytes, Says, AreKept, AreInTime, SaysOnly, ShowsSpoiling, IsRead}
use Rattle.sd_device_c.proofs.Bytes.{read_4, dropped_bytes, little_same, length_little, state_same, length_state, ports_same, length_ports, some_ports}
use Rattle.sd_device_c.proofs.Checksum.{AreBytes, at_front, ahead, differs}

-- two lists whose ends are as long
pub ends_same : {X : Type 0} (a b x y : List X) → length x ≡ length y → a ++ x ≡ b ++ y → (a ≡ b) × (x ≡ y)
ends_same [] [] x y long same = (refl, same)
ends_same [] (b ∷ more) x y long same =
    absurd (omega (arith, long, ap length same, length-append more y))
ends_same (a ∷ rest) [] x y long same =
    absurd (omega (arith, long, ap length same, length-append rest x))
ends_same (a ∷ rest) (b ∷ more) x y long same =
    let heads : a ≡ b = cc in
    let tails : rest ++ x ≡ more ++ y = cc in
    let ends = ends_same rest more x y long tails in
    (λ i. heads i ∷ ends.0 i, ends.1)

pub checked_same : (a b : List ℕ) → checked a ≡ checked b → (a ≡ b) × (crc_of a ≡ crc_of b)
unfolding checked
checked_same a b same =
    let ends = ends_same a b (little 4 (crc_of a)) (little 4 (crc_of b)) (length_little 4 (crc_of a) ∙ sym (length_little 4 (crc_of b))) same in
    (ends.0, ap crc_of ends.0)

pub header_same : (n m : ℕ) (x y : List ℕ) → header_bytes n ++ x ≡ header_bytes m ++ y → (n ≡ m) × (x ≡ y)
unfolding header_bytes
header_same n m x y same =
    little_same 7 n m x y (append_cancel_left title (little 8 n ++ x) (little 8 m ++ y) same)

pub length_header : (n : ℕ) → length (header_bytes n) ≡ 16
unfolding header_bytes
length_header n = length-append title (little 8 n) ∙ ap (λ (k : ℕ). 8 + k) (length_little 8 n)

pub kept_same : (a b : PlainDevice) (ps qs : List PlainPort) (al at bl bt : ℕ) → kept_bytes a ps al at ≡ kept_bytes b qs bl bt
    → (a ≡ b) × (ps ≡ qs) × (al ≡ bl) × (at ≡ bt)
unfolding kept_bytes body_bytes
kept_same a b ps qs al at bl bt same =
    let bodies = checked_same (body_bytes a ps al at) (body_bytes b qs bl bt) same in
    let headers =
    header_same (length ps) (length qs) (state_bytes a al at ++ flat_map port_bytes ps) (state_bytes b bl bt ++ flat_map port_bytes qs) bodies.0 in
    let states = state_same a b al at bl bt (flat_map port_bytes ps) (flat_map port_bytes qs) headers.1 in
    (states.0, ports_same ps qs headers.0 states.3, states.1, states.2)

-- the place of an element is in the one part or in the other
record Inside (part rest before : List ℕ) (x : ℕ) (after : List ℕ) : Type 0 where
  more : List ℕ
  part_is : part ≡ before ++ x ∷ more
  rest_is : after ≡ more ++ rest

record Past (part rest before : List ℕ) (x : ℕ) (after : List ℕ) : Type 0 where
  more : List ℕ
  before_is : before ≡ part ++ more
  rest_is : rest ≡ more ++ x ∷ after

place : (part rest before : List ℕ) (x : ℕ) (after : List ℕ) → part ++ rest ≡ before ++ x ∷ after
    → Inside part rest before x after ⊎ Past part rest before x after
place [] rest before x after same = inr (record { more = before; before_is = refl; rest_is = same })
place (p ∷ ps) rest [] x after same =
    let head : p ≡ x = cc in
    let tail : ps ++ rest ≡ after = cc in
    inl (record { more = ps; part_is = λ i. head i ∷ ps; rest_is = sym tail })
place (p ∷ ps) rest (b ∷ bs) x after same =
    let head : p ≡ b = cc in
    let tail : ps ++ rest ≡ bs ++ x ∷ after = cc in
    ⊎_elim
    (λ (inside : Inside ps rest bs x after).
    inl (record { more = inside.more; part_is = λ i. head i ∷ inside.part_is i; rest_is = inside.rest_is }))
    (λ (past : Past ps rest bs x after).
    inr (record { more = past.more; before_is = λ i. sym head i ∷ past.before_is i; rest_is = past.rest_is }))
    (place ps rest bs x after tail)

long : (part rest before : List ℕ) (x : ℕ) (after : List ℕ) → part ++ rest ≡ before ++ x ∷ after
    → length part + length rest ≡ length before + (1 + length after)
long part rest before x after same =
    sym (length-append part rest) ∙ ap length same ∙ length-append before (x ∷ after)
    ∙ omega arith

inside_short : (part rest before : List ℕ) (x : ℕ) (after : List ℕ) → Inside part rest before x after → length before < length part
inside_short part rest before x after inside =
    omega (arith, ap length inside.part_is, length-append before (x ∷ inside.more))

past_long : (part rest before : List ℕ) (x : ℕ) (after : List ℕ) → Past part rest before x after → length part ≤ length before
past_long part rest before x after past =
    omega (arith, ap length past.before_is, length-append part past.more)

little_only : (k a b : ℕ) → little (suc k) a ≡ little (suc k) b → a ≡ b
little_only k a b same = (little_same k a b [] [] (ap (λ (xs : List ℕ). xs ++ []) same)).0

both_inside : (a b before after : List ℕ) (x y : ℕ) → AreBytes (checked a) → y < 256
    → Inside a (little 4 (crc_of a)) before x after → Inside b (little 4 (crc_of b)) before y after → x ≡ y
unfolding checked
both_inside a b before after x y bytes y_byte of_a of_b =
    let ends =
    ends_same of_a.more of_b.more (little 4 (crc_of a)) (little 4 (crc_of b))
    (length_little 4 (crc_of a) ∙ sym (length_little 4 (crc_of b))) (sym of_a.rest_is ∙ of_b.rest_is) in
    let sums : crc_of a ≡ crc_of b = little_only 3 (crc_of a) (crc_of b) ends.1 in
    let front : AreBytes (before ++ x ∷ of_a.more) =
    subst (λ (xs : List ℕ). AreBytes xs) of_a.part_is (at_front a (little 4 (crc_of a)) bytes) in
    differs before of_a.more x y front y_byte
    (ap crc_of (sym of_a.part_is) ∙ sums ∙ ap crc_of of_b.part_is ∙ ap (λ (m : List ℕ). crc_of (before ++ y ∷ m)) (sym ends.0))

both_past : (a b before after : List ℕ) (x y : ℕ) → length a ≡ length b
    → Past a (little 4 (crc_of a)) before x after → Past b (little 4 (crc_of b)) before y after → x ≡ y
both_past a b before after x y lengths of_a of_b =
    let together : a ++ of_a.more ≡ b ++ of_b.more = sym of_a.before_is ∙ of_b.before_is in
    let as_long : length of_a.more ≡ length of_b.more =
    omega (arith, lengths, ap length together, length-append a of_a.more, length-append b of_b.more) in
    let ends = ends_same a b of_a.more of_b.more as_long together in
    let sums : of_a.more ++ x ∷ after ≡ of_a.more ++ y ∷ after =
    sym of_a.rest_is ∙ ap (λ (xs : List ℕ). little 4 (crc_of xs)) ends.0 ∙ of_b.rest_is
    ∙ ap (λ (m : List ℕ). m ++ y ∷ after) (sym ends.1) in
    let heads : x ∷ after ≡ y ∷ after = append_cancel_left of_a.more (x ∷ after) (y ∷ after) sums in
    cc

-- bytes with a right checksum that differ in one byte are the same
one_byte : (a b before after : List ℕ) (x y : ℕ) → checked a ≡ before ++ x ∷ after → checked b ≡ before ++ y ∷ after
    → AreBytes (checked a) → y < 256 → x ≡ y
unfolding checked
one_byte a b before after x y of_a of_b bytes y_byte =
    let long_a = long a (little 4 (crc_of a)) before x after of_a in
    let long_b = long b (little 4 (crc_of b)) before y after of_b in
    let lengths : length a ≡ length b =
    omega (arith, long_a, long_b, length_little 4 (crc_of a), length_little 4 (crc_of b)) in
    ⊎_elim
    (λ (in_a : Inside a (little 4 (crc_of a)) before x after).
    ⊎_elim
    (λ (in_b : Inside b (little 4 (crc_of b)) before y after). both_inside a b before after x y bytes y_byte in_a in_b)
    (λ (past_b : Past b (little 4 (crc_of b)) before y after).
    absurd
    (omega (arith, lengths, inside_short a (little 4 (crc_of a)) before x after in_a, past_long b (little 4 (crc_of b)) before y after past_b)))
    (place b (little 4 (crc_of b)) before y after of_b))
    (λ (past_a : Past a (little 4 (crc_of a)) before x after).
    ⊎_elim
    (λ (in_b : Inside b (little 4 (crc_of b)) before y after).
    absurd
    (omega (arith, lengths, past_long a (little 4 (crc_of a)) before x after past_a, inside_short b (little 4 (crc_of b)) before y after in_b)))
    (λ (past_b : Past b (little 4 (crc_of b)) before y after). both_past a b before after x y lengths past_a past_b)
    (place b (little 4 (crc_of b)) before y after of_b))
    (place a (little 4 (crc_of a)) before x after of_a)

-- what says a device says none once a byte is another
pub shows_spoiling : (count : ℕ) (kept : List ℕ) (device : PlainDevice) (ports : List PlainPort) (lowered ticked : ℕ)
    → kept ≡ kept_bytes device ports lowered ticked → AreBytes kept → ShowsSpoiling count kept
unfolding kept_bytes
shows_spoiling count kept device ports lowered ticked is bytes spoiled spoils are =
    let device_2 = are.0 in
    let ports_2 = are.1 in
    let body = body_bytes device ports lowered ticked in
    let body_2 = body_bytes device_2 ports_2 are.2 are.3 in
    spoils.differs
    (sym
    (one_byte body body_2 spoils.before spoils.after spoils.old_byte spoils.new_byte
    (sym is ∙ spoils.old_is) (sym are.5.bytes ∙ spoils.new_is)
    (subst (λ (xs : List ℕ). AreBytes xs) is bytes) spoils.is_byte))

pub says_only : (kept : List ℕ) (device : PlainDevice) (ports : List PlainPort) (lowered ticked : ℕ)
    → kept ≡ kept_bytes device ports lowered ticked → SaysOnly kept device ports lowered ticked
says_only kept device ports lowered ticked is d ps l t says =
    kept_same d device ps ports l t lowered ticked (sym says ∙ is)

in_none : {T : Type 0} (result : Option T) (P : Type 0) → P → IfNone result P
in_none None P p = p
in_none (Some x) P p = tt

pub no_result : {T : Type 0} (result : Option T) {P : Type 0} → P → IfNone result P
no_result result p = in_none result _ p

-- what is no body with its checksum is not kept
pub unchecked : (count : ℕ) (kept : List ℕ) → ((body : List ℕ) → kept ≡ checked body → ⊥) → AreKept count kept → ⊥
unfolding kept_bytes
unchecked count kept none are = none (body_bytes are.0 are.1 are.2 are.3) are.5.bytes

-- what is kept after its header
inner : (count : ℕ) (kept body : List ℕ) → kept ≡ checked body → (are : AreKept count kept)
    → body ≡ header_bytes count ++ (state_bytes are.0 are.2 are.3 ++ flat_map port_bytes are.1)
unfolding kept_bytes body_bytes
inner count kept body is are =
    (checked_same body (body_bytes are.0 are.1 are.2 are.3) (sym is ∙ are.5.bytes)).0
    ∙ ap (λ (n : ℕ). header_bytes n ++ (state_bytes are.0 are.2 are.3 ++ flat_map port_bytes are.1)) are.4

pub unheaded : (count : ℕ) (kept body : List ℕ) → kept ≡ checked body → ((rest : List ℕ) → body ≡ header_bytes count ++ rest → ⊥)
    → AreKept count kept → ⊥
unheaded count kept body is none are =
    none (state_bytes are.0 are.2 are.3 ++ flat_map port_bytes are.1) (inner count kept body is are)

rest_of : (count : ℕ) (kept body rest : List ℕ) → kept ≡ checked body → body ≡ header_bytes count ++ rest → (are : AreKept count kept)
    → rest ≡ state_bytes are.0 are.2 are.3 ++ flat_map port_bytes are.1
rest_of count kept body rest is headed are =
    append_cancel_left (header_bytes count) rest (state_bytes are.0 are.2 are.3 ++ flat_map port_bytes are.1)
    (sym headed ∙ inner count kept body is are)

pub unsized : (count : ℕ) (kept body rest : List ℕ) → kept ≡ checked body → body ≡ header_bytes count ++ rest
    → (length rest ≡ 298 + 17 * count → ⊥) → AreKept count kept → ⊥
unsized count kept body rest is headed none are =
    let long = ap length (rest_of count kept body rest is headed are) in
    none
    (omega
    (arith, long, are.4, length-append (state_bytes are.0 are.2 are.3) (flat_map port_bytes are.1), length_state are.0 are.2 are.3, length_ports are.1))

pub unsound : (count : ℕ) (kept body rest ports : List ℕ) (device : PlainDevice) (lowered ticked : ℕ) → kept ≡ checked body
    → body ≡ header_bytes count ++ rest → rest ≡ state_bytes device lowered ticked ++ ports → (IsDevice device → ⊥) → AreKept count kept → ⊥
unsound count kept body rest ports device lowered ticked is headed says none are =
    let same =
    state_same are.0 device are.2 are.3 lowered ticked (flat_map port_bytes are.1) ports
    (sym (rest_of count kept body rest is headed are) ∙ says) in
    none (subst IsDevice same.0 are.5.sound)

pub is_read : (count : ℕ) (kept body rest ports : List ℕ) (device : PlainDevice) (lowered ticked : ℕ) → kept ≡ checked body
    → body ≡ header_bytes count ++ rest → rest ≡ state_bytes device lowered ticked ++ ports → length rest ≡ 298 + 17 * count → IsDevice device
    → IsRead count kept device lowered ticked ports
is_read count kept body rest ports device lowered ticked is headed says long sound =
    record {
      bytes = is ∙ ap checked (headed ∙ ap (λ (xs : List ℕ). header_bytes count ++ xs) says);
      size =
          omega
          (arith, long, ap length says, length-append (state_bytes device lowered ticked) ports, length_state device lowered ticked);
      sound = sound;
    }

-- what is read says the device and the ports
pub says_read : (count : ℕ) (kept bytes : List ℕ) (device : PlainDevice) (ports : List PlainPort) (lowered ticked : ℕ)
    → IsRead count kept device lowered ticked bytes → bytes ≡ flat_map port_bytes ports → length ports ≡ count → Says kept device ports lowered ticked
unfolding kept_bytes body_bytes
says_read count kept bytes device ports lowered ticked read is long =
    record {
      bytes =
          read.bytes
          ∙ (λ i. checked (header_bytes (sym long i) ++ (state_bytes device lowered ticked ++ is i)));
      sound = read.sound;
    }

-- the last four bytes as a number
pub last_is : (all front back : List ℕ) (n : ℕ) → n < 2 ^ 32 → 4 ≤ length all → ((i : ℕ) → get_or all i 0 < 256)
    → front ≡ take (length all - 4) all → back ≡ drop (length all - 4) all → n ≡ from_le_bytes w32 back → all ≡ front ++ little 4 n
last_is all front back n fits long bytes front_is back_is is =
    let at = length all - 4 in
    let size : length (drop at all) ≡ 4 = length-drop at all ∙ omega (arith, long) in
    let read = read_4 (drop at all) n fits size (dropped_bytes at all bytes) (is ∙ ap (from_le_bytes w32) back_is) in
    sym (take-append-drop at all) ∙ (λ i. sym front_is i ++ sym read i)

pub is_checked : (all front : List ℕ) (n : ℕ) → all ≡ front ++ little 4 n → n ≡ crc_of front → all ≡ checked front
unfolding checked
is_checked all front n is right = is ∙ ap (λ (k : ℕ). front ++ little 4 k) right

pub not_checked : (all front : List ℕ) (n : ℕ) → all ≡ front ++ little 4 n → (n ≡ crc_of front → ⊥) → (body : List ℕ) → all ≡ checked body → ⊥
unfolding checked
not_checked all front n is wrong body other =
    let ends =
    ends_same front body (little 4 n) (little 4 (crc_of body)) (length_little 4 n ∙ sym (length_little 4 (crc_of body))) (sym is ∙ other) in
    wrong (little_only 3 n (crc_of body) ends.1 ∙ ap crc_of (sym ends.0))

pub too_short : (all : List ℕ) → length all < 4 → (body : List ℕ) → all ≡ checked body → ⊥
unfolding checked
too_short all short body is =
    omega (arith, short, ap length is, length-append body (little 4 (crc_of body)), length_little 4 (crc_of body))

pub title_is : little 8 0x016C6169646E7573 ≡ title
unfolding little
title_is = refl

pub is_header : (count : ℕ) (body more rest : List ℕ) (t n : ℕ) → body ≡ little 8 t ++ more → more ≡ little 8 n ++ rest
    → t ≡ 0x016C6169646E7573 → n ≡ count → body ≡ header_bytes count ++ rest
unfolding header_bytes
is_header count body more rest t n first second titled counted =
    first ∙ ap (λ (k : ℕ). little 8 k ++ more) titled ∙ ap (λ (xs : List ℕ). xs ++ more) title_is ∙ ap (λ (xs : List ℕ). title ++ xs) second
    ∙ ap (λ (k : ℕ). title ++ (little 8 k ++ rest)) counted

pub headed : (count : ℕ) (body more rest other : List ℕ) (t n : ℕ) → body ≡ little 8 t ++ more → more ≡ little 8 n ++ rest
    → body ≡ header_bytes count ++ other → (t ≡ 0x016C6169646E7573) × (n ≡ count)
unfolding header_bytes
headed count body more rest other t n first second is =
    let regrouped : body ≡ little 8 0x016C6169646E7573 ++ (little 8 count ++ other) =
    is ∙ ap (λ (xs : List ℕ). xs ++ (little 8 count ++ other)) (sym title_is) in
    let titles = little_same 7 t 0x016C6169646E7573 more (little 8 count ++ other) (sym first ∙ regrouped) in
    let counts = little_same 7 n count rest other (sym second ∙ titles.1) in
    (titles.0, counts.0)

pub no_header : (count : ℕ) (body rest : List ℕ) → length body < 16 → body ≡ header_bytes count ++ rest → ⊥
no_header count body rest short is =
    omega (arith, short, ap length is, length-append (header_bytes count) rest, length_header count)

-- all is written
pub is_written : (last before body : List ℕ) (at end check : ℕ) → take end last ≡ take at before ++ little 4 check
    → check ≡ crc_of (take at before) → take at before ≡ body → length last ≤ end → last ≡ checked body
unfolding checked
is_written last before body at end check is right so_far all =
    sym (take_all end last all) ∙ is ∙ (λ i. so_far i ++ little 4 (right i)) ∙ ap (λ (xs : List ℕ). body ++ little 4 (crc_of xs)) so_far

pub answers_done : (May : Type 0) (Has : Fault → Type 0) → May → IsAnswerFor 0 May Has
answers_done May Has may = record { done = (λ _. may, λ _. refl); refused = λ fault. absurd (fault refl) }

-- what is read is kept of some ports
pub read_kept : (count : ℕ) (kept ports : List ℕ) (device : PlainDevice) (lowered ticked : ℕ) → AreBytes kept
    → IsRead count kept device lowered ticked ports → AreKept count kept
unfolding checked
read_kept count kept ports device lowered ticked bytes read =
    let header = header_bytes count in
    let state = state_bytes device lowered ticked in
    let body = header ++ (state ++ ports) in
    let all = subst (λ (xs : List ℕ). AreBytes xs) read.bytes bytes in
    let of_ports = ahead state ports (ahead header (state ++ ports) (at_front body (little 4 (crc_of body)) all)) in
    let some = some_ports count ports of_ports read.size in
    (device, some.0, lowered, ticked, some.1, says_read count kept ports device some.0 lowered ticked read some.2 some.1)

-- what is read too late says no device that is in time
pub read_late : (tick hardware count : ℕ) (kept ports : List ℕ) (device : PlainDevice) (lowered ticked : ℕ)
    → IsRead count kept device lowered ticked ports → (IsTrue (is_in_time (rates_from device.rates) tick (advance ticked hardware)) → ⊥)
    → AreInTime tick hardware count kept → ⊥
unfolding kept_bytes body_bytes
read_late tick hardware count kept ports device lowered ticked read late are =
    let body = checked_same (header_bytes count ++ (state_bytes device lowered ticked ++ ports)) (body_bytes are.0 are.1 are.2 are.3) (sym read.bytes ∙ are.5.bytes) in
    let headers =
    header_same count (length are.1) (state_bytes device lowered ticked ++ ports) (state_bytes are.0 are.2 are.3 ++ flat_map port_bytes are.1) body.0 in
    let states = state_same device are.0 lowered ticked are.2 are.3 ports (flat_map port_bytes are.1) headers.1 in
    late
    (subst (λ (d : PlainDevice). IsTrue (is_in_time (rates_from d.rates) tick (advance ticked hardware))) (sym states.0)
    (subst (λ (t : ℕ). IsTrue (is_in_time (rates_from are.0.rates) tick (advance t hardware))) (sym states.2) are.6))

pub told_true : (told : Bool) (answer : ℕ) → answer ≡ one_if told → (answer ≡ 0 → ⊥) → IsTrue told
told_true true answer is not = refl
told_true false answer is not = absurd (not is)

pub told_false : (told : Bool) (answer : ℕ) → answer ≡ one_if told → answer ≡ 0 → IsTrue told → ⊥
told_false told answer is none so = omega (arith, sym is ∙ none, ap one_if so)
