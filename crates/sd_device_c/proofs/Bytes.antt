-- Numbers and structs as bytes: how many these are, and that they say what they were made of.
use Rattle.std.specs.Prelude.{ℕ, zero, suc, ◌*◌, ◌/◌, ◌%◌, ◌^◌, ◌<◌, ◌≤◌, List, [], ◌∷◌, ◌++◌, length, get_or, take, drop}
use Rattle.std.proofs.Common.{◌≡◌, refl, sym, ap, ◌∙◌, arith, append_assoc, length-append}
use Rattle.std.specs.Int.{w32, w64, to_le_bytes, from_le_bytes}
use Rattle.std.proofs.Math.Nat.{div-div-eq-div-mul}
use Rattle.std.proofs.lemmas.Nat.{le_bytes_4, le_bytes_8}
use Rattle.std.proofs.lemmas.List.{take-append-drop, length-take-le, length-drop, drop-drop, nil_from_length}
use Rattle.std.specs.List.{flat_map}
use Rattle.sd_device_c.specs.declared.plain.PlainWide.{PlainWide}
use Rattle.sd_device_c.specs.declared.plain.PlainRates.{PlainRates}
use Rattle.sd_device_c.specs.declared.plain.PlainEdge.{PlainEdge}
use Rattle.sd_device_c.specs.declared.plain.PlainDuty.{PlainDuty}
use Rattle.sd_device_c.specs.declared.plain.PlainEstimate.{PlainEstimate}
use Rattle.sd_device_c.specs.declared.plain.PlainStamp.{PlainStamp}
use Rattle.sd_device_c.specs.declared.plain.PlainDevice.{PlainDevice}
use Rattle.sd_device_c.specs.declared.plain.PlainPort.{PlainPort}
use Rattle.sd_device_c.specs.Kept.{little, wide_bytes, rates_bytes, edge_bytes, duty_bytes, estimate_bytes, stamp_bytes, device_bytes, port_bytes, state_bytes}

parts_same : (a b : ℕ) → a % 256 ≡ b % 256 → a / 256 ≡ b / 256 → a ≡ b
parts_same a b low high = omega (arith, low, high)

-- the bytes of a number that others follow say the number and those others
pub little_same : (k a b : ℕ) (x y : List ℕ) → little (suc k) a ++ x ≡ little (suc k) b ++ y → (a ≡ b) × (x ≡ y)
unfolding little
little_same zero a b x y same =
    let lists : a ∷ x ≡ b ∷ y = same in
    let head : a ≡ b = cc in
    let tail : x ≡ y = cc in
    (head, tail)
little_same (suc k) a b x y same =
    let lists : a % 256 ∷ (little (suc k) (a / 256) ++ x) ≡ b % 256 ∷ (little (suc k) (b / 256) ++ y) = same in
    let head : a % 256 ≡ b % 256 = cc in
    let tail : little (suc k) (a / 256) ++ x ≡ little (suc k) (b / 256) ++ y = cc in
    let rest = little_same k (a / 256) (b / 256) x y tail in
    (parts_same a b head rest.0, rest.1)

pub length_little : (k n : ℕ) → length (little k n) ≡ k
unfolding little
length_little zero n = refl
length_little (suc zero) n = refl
length_little (suc (suc k)) n = ap suc (length_little (suc k) (n / 256))

wide_same : (a b : PlainWide) (x y : List ℕ) → wide_bytes a ++ x ≡ wide_bytes b ++ y → (a ≡ b) × (x ≡ y)
unfolding wide_bytes
wide_same a b x y same =
    let grouped = simp append_assoc at same in
    let of_low = little_same 7 a.low b.low _ _ grouped in
    let of_high = little_same 7 a.high b.high _ _ of_low.1 in
    (λ i. record { low = of_low.0 i; high = of_high.0 i }, of_high.1)

rates_same : (a b : PlainRates) (x y : List ℕ) → rates_bytes a ++ x ≡ rates_bytes b ++ y → (a ≡ b) × (x ≡ y)
unfolding rates_bytes
rates_same a b x y same =
    let grouped = simp append_assoc at same in
    let of_grain = little_same 7 a.grain b.grain _ _ grouped in
    let of_ppm = little_same 3 a.ppm b.ppm _ _ of_grain.1 in
    (λ i. record { grain = of_grain.0 i; ppm = of_ppm.0 i }, of_ppm.1)

edge_same : (a b : PlainEdge) (x y : List ℕ) → edge_bytes a ++ x ≡ edge_bytes b ++ y → (a ≡ b) × (x ≡ y)
unfolding edge_bytes
edge_same a b x y same =
    let grouped = simp append_assoc at same in
    let of_mid = little_same 7 a.mid b.mid _ _ grouped in
    let of_half = little_same 7 a.half b.half _ _ of_mid.1 in
    let of_parent = little_same 3 a.parent b.parent _ _ of_half.1 in
    let of_link = little_same 3 a.link b.link _ _ of_parent.1 in
    (λ i. record { mid = of_mid.0 i; half = of_half.0 i; parent = of_parent.0 i; link = of_link.0 i }, of_link.1)

duty_same : (a b : PlainDuty) (x y : List ℕ) → duty_bytes a ++ x ≡ duty_bytes b ++ y → (a ≡ b) × (x ≡ y)
unfolding duty_bytes
duty_same a b x y same =
    let grouped = simp append_assoc at same in
    let of_primary = edge_same a.primary b.primary _ _ grouped in
    let of_backup = edge_same a.backup b.backup _ _ of_primary.1 in
    let of_period = little_same 7 a.period b.period _ _ of_backup.1 in
    let of_wait_first = little_same 7 a.wait_first b.wait_first _ _ of_period.1 in
    let of_wait_second = little_same 7 a.wait_second b.wait_second _ _ of_wait_first.1 in
    let of_wait = little_same 7 a.wait b.wait _ _ of_wait_second.1 in
    let of_rates = rates_same a.rates b.rates _ _ of_wait.1 in
    let of_epoch = little_same 3 a.epoch b.epoch _ _ of_rates.1 in
    let of_role = little_same 0 a.role b.role _ _ of_epoch.1 in
    let of_has_primary = little_same 0 a.has_primary b.has_primary _ _ of_role.1 in
    let of_has_backup = little_same 0 a.has_backup b.has_backup _ _ of_has_primary.1 in
    (λ i. record { primary = of_primary.0 i; backup = of_backup.0 i; period = of_period.0 i; wait_first = of_wait_first.0 i; wait_second = of_wait_second.0 i; wait = of_wait.0 i; rates = of_rates.0 i; epoch = of_epoch.0 i; role = of_role.0 i; has_primary = of_has_primary.0 i; has_backup = of_has_backup.0 i }, of_has_backup.1)

estimate_same : (a b : PlainEstimate) (x y : List ℕ) → estimate_bytes a ++ x ≡ estimate_bytes b ++ y → (a ≡ b) × (x ≡ y)
unfolding estimate_bytes
estimate_same a b x y same =
    let grouped = simp append_assoc at same in
    let of_clock = wide_same a.clock b.clock _ _ grouped in
    let of_base = wide_same a.base b.base _ _ of_clock.1 in
    let of_at = little_same 7 a.at b.at _ _ of_base.1 in
    (λ i. record { clock = of_clock.0 i; base = of_base.0 i; at = of_at.0 i }, of_at.1)

stamp_same : (a b : PlainStamp) (x y : List ℕ) → stamp_bytes a ++ x ≡ stamp_bytes b ++ y → (a ≡ b) × (x ≡ y)
unfolding stamp_bytes
stamp_same a b x y same =
    let grouped = simp append_assoc at same in
    let of_round = little_same 7 a.round b.round _ _ grouped in
    let of_term = little_same 3 a.term b.term _ _ of_round.1 in
    (λ i. record { round = of_round.0 i; term = of_term.0 i }, of_term.1)

device_same : (a b : PlainDevice) (x y : List ℕ) → device_bytes a ++ x ≡ device_bytes b ++ y → (a ≡ b) × (x ≡ y)
unfolding device_bytes
device_same a b x y same =
    let grouped = simp append_assoc at same in
    let of_duty = duty_same a.duty b.duty _ _ grouped in
    let of_given = duty_same a.given b.given _ _ of_duty.1 in
    let of_estimate = estimate_same a.estimate b.estimate _ _ of_given.1 in
    let of_stamp = stamp_same a.stamp b.stamp _ _ of_estimate.1 in
    let of_rates = rates_same a.rates b.rates _ _ of_stamp.1 in
    let of_last = little_same 7 a.last b.last _ _ of_rates.1 in
    let of_sent = little_same 7 a.sent b.sent _ _ of_last.1 in
    let of_has_duty = little_same 0 a.has_duty b.has_duty _ _ of_sent.1 in
    let of_has_given = little_same 0 a.has_given b.has_given _ _ of_has_duty.1 in
    let of_mode = little_same 0 a.mode b.mode _ _ of_has_given.1 in
    let of_sealed = little_same 0 a.sealed b.sealed _ _ of_mode.1 in
    (λ i. record { duty = of_duty.0 i; given = of_given.0 i; estimate = of_estimate.0 i; stamp = of_stamp.0 i; rates = of_rates.0 i; last = of_last.0 i; sent = of_sent.0 i; has_duty = of_has_duty.0 i; has_given = of_has_given.0 i; mode = of_mode.0 i; sealed = of_sealed.0 i }, of_sealed.1)

port_same : (a b : PlainPort) (x y : List ℕ) → port_bytes a ++ x ≡ port_bytes b ++ y → (a ≡ b) × (x ≡ y)
unfolding port_bytes
port_same a b x y same =
    let grouped = simp append_assoc at same in
    let of_clear = wide_same a.clear b.clear _ _ grouped in
    let of_is_open = little_same 0 a.is_open b.is_open _ _ of_clear.1 in
    (λ i. record { clear = of_clear.0 i; is_open = of_is_open.0 i }, of_is_open.1)

length_wide : (a : PlainWide) → length (wide_bytes a) ≡ 16
unfolding wide_bytes
length_wide a = simp (length-append, length_little)

length_rates : (a : PlainRates) → length (rates_bytes a) ≡ 12
unfolding rates_bytes
length_rates a = simp (length-append, length_little)

length_edge : (a : PlainEdge) → length (edge_bytes a) ≡ 24
unfolding edge_bytes
length_edge a = simp (length-append, length_little)

length_duty : (a : PlainDuty) → length (duty_bytes a) ≡ 99
unfolding duty_bytes
length_duty a = simp (length-append, length_little, length_edge, length_rates)

length_estimate : (a : PlainEstimate) → length (estimate_bytes a) ≡ 40
unfolding estimate_bytes
length_estimate a = simp (length-append, length_little, length_wide)

length_stamp : (a : PlainStamp) → length (stamp_bytes a) ≡ 12
unfolding stamp_bytes
length_stamp a = simp (length-append, length_little)

length_device : (a : PlainDevice) → length (device_bytes a) ≡ 282
unfolding device_bytes
length_device a = simp (length-append, length_little, length_duty, length_estimate, length_rates, length_stamp)

length_port : (a : PlainPort) → length (port_bytes a) ≡ 17
unfolding port_bytes
length_port a = simp (length-append, length_little, length_wide)

pub state_same : (a b : PlainDevice) (al at bl bt : ℕ) (x y : List ℕ) → state_bytes a al at ++ x ≡ state_bytes b bl bt ++ y
    → (a ≡ b) × (al ≡ bl) × (at ≡ bt) × (x ≡ y)
unfolding state_bytes
state_same a b al at bl bt x y same =
    let grouped = simp append_assoc at same in
    let device = device_same a b _ _ grouped in
    let lowered = little_same 7 al bl _ _ device.1 in
    let ticked = little_same 7 at bt _ _ lowered.1 in
    (device.0, lowered.0, ticked.0, ticked.1)

pub length_state : (a : PlainDevice) (lowered ticked : ℕ) → length (state_bytes a lowered ticked) ≡ 298
unfolding state_bytes
length_state a lowered ticked = simp (length-append, length_device, length_little)

-- as many ports with the same bytes are the same
pub ports_same : (a b : List PlainPort) → length a ≡ length b → flat_map port_bytes a ≡ flat_map port_bytes b → a ≡ b
ports_same [] [] count same = refl
ports_same [] (q ∷ qs) count same = absurd (omega (arith, count))
ports_same (p ∷ ps) [] count same = absurd (omega (arith, count))
ports_same (p ∷ ps) (q ∷ qs) count same =
    let first = port_same p q (flat_map port_bytes ps) (flat_map port_bytes qs) same in
    let rest = ports_same ps qs (omega (arith, count)) first.1 in
    λ i. first.0 i ∷ rest i

pub length_ports : (ports : List PlainPort) → length (flat_map port_bytes ports) ≡ 17 * length ports
length_ports [] = refl
length_ports (p ∷ ps) =
    length-append (port_bytes p) (flat_map port_bytes ps) ∙ omega (arith, length_port p, length_ports ps)

last_8 : (n : ℕ) → n < 2 ^ 64 → n / 256 ^ 7 % 256 ≡ n / 256 ^ 7
last_8 n fits = omega (arith, fits)

last_4 : (n : ℕ) → n < 2 ^ 32 → n / 256 ^ 3 % 256 ≡ n / 256 ^ 3
last_4 n fits = omega (arith, fits)

pub little_8 : (n : ℕ) → n < 2 ^ 64 → little 8 n ≡ to_le_bytes w64 n
unfolding little
little_8 n fits = simp (div-div-eq-div-mul, last_8 n fits)

pub little_4 : (n : ℕ) → n < 2 ^ 32 → little 4 n ≡ to_le_bytes w32 n
unfolding little
little_4 n fits = simp (div-div-eq-div-mul, last_4 n fits)

pub little_1 : (n : ℕ) → little 1 n ≡ n ∷ []
unfolding little
little_1 n = refl

-- what is read of bytes has these bytes
pub read_8 : (bs : List ℕ) (n : ℕ) → n < 2 ^ 64 → length bs ≡ 8 → ((i : ℕ) → get_or bs i 0 < 256) → n ≡ from_le_bytes w64 bs → little 8 n ≡ bs
read_8 bs n fits long bytes is = little_8 n fits ∙ le_bytes_8 bs n long bytes is

pub read_4 : (bs : List ℕ) (n : ℕ) → n < 2 ^ 32 → length bs ≡ 4 → ((i : ℕ) → get_or bs i 0 < 256) → n ≡ from_le_bytes w32 bs → little 4 n ≡ bs
read_4 bs n fits long bytes is = little_4 n fits ∙ le_bytes_4 bs n long bytes is

-- the front of bytes are bytes
taken_bytes : (k : ℕ) (bs : List ℕ) → ((i : ℕ) → get_or bs i 0 < 256) → (i : ℕ) → get_or (take k bs) i 0 < 256
taken_bytes zero bs bytes i = omega arith
taken_bytes (suc k) [] bytes i = omega arith
taken_bytes (suc k) (b ∷ bs) bytes zero = bytes zero
taken_bytes (suc k) (b ∷ bs) bytes (suc i) = taken_bytes k bs (λ j. bytes (suc j)) i

-- and so is what comes after
pub dropped_bytes : (k : ℕ) (bs : List ℕ) → ((i : ℕ) → get_or bs i 0 < 256) → (i : ℕ) → get_or (drop k bs) i 0 < 256
dropped_bytes zero bs bytes i = bytes i
dropped_bytes (suc k) [] bytes i = omega arith
dropped_bytes (suc k) (b ∷ bs) bytes i = dropped_bytes k bs (λ j. bytes (suc j)) i

-- what is read of the front of bytes, and the rest
pub next_8 : (all front rest : List ℕ) (n : ℕ) → n < 2 ^ 64 → 8 ≤ length all → ((i : ℕ) → get_or all i 0 < 256)
    → front ≡ take 8 all → rest ≡ drop 8 all → n ≡ from_le_bytes w64 front → all ≡ little 8 n ++ rest
next_8 all front rest n fits long bytes front_is rest_is is =
    let read = read_8 (take 8 all) n fits (length-take-le 8 all long) (taken_bytes 8 all bytes) (is ∙ ap (from_le_bytes w64) front_is) in
    sym (take-append-drop 8 all) ∙ ap (λ (xs : List ℕ). xs ++ drop 8 all) (sym read)
    ∙ ap (λ (xs : List ℕ). little 8 n ++ xs) (sym rest_is)

pub next_4 : (all front rest : List ℕ) (n : ℕ) → n < 2 ^ 32 → 4 ≤ length all → ((i : ℕ) → get_or all i 0 < 256)
    → front ≡ take 4 all → rest ≡ drop 4 all → n ≡ from_le_bytes w32 front → all ≡ little 4 n ++ rest
next_4 all front rest n fits long bytes front_is rest_is is =
    let read = read_4 (take 4 all) n fits (length-take-le 4 all long) (taken_bytes 4 all bytes) (is ∙ ap (from_le_bytes w32) front_is) in
    sym (take-append-drop 4 all) ∙ ap (λ (xs : List ℕ). xs ++ drop 4 all) (sym read)
    ∙ ap (λ (xs : List ℕ). little 4 n ++ xs) (sym rest_is)

-- the number of eight bytes
eight_fit : (bs : List ℕ) → ((i : ℕ) → get_or bs i 0 < 256) → from_le_bytes w64 bs < 2 ^ 64
eight_fit bs bytes = omega (arith, bytes 0, bytes 1, bytes 2, bytes 3, bytes 4, bytes 5, bytes 6, bytes 7)

-- eight bytes or more begin with those of a number
some_8 : (all : List ℕ) → ((i : ℕ) → get_or all i 0 < 256) → 8 ≤ length all → all ≡ little 8 (from_le_bytes w64 (take 8 all)) ++ drop 8 all
some_8 all bytes long =
    next_8 all (take 8 all) (drop 8 all) (from_le_bytes w64 (take 8 all)) (eight_fit (take 8 all) (taken_bytes 8 all bytes)) long bytes refl refl refl

some_1 : (all : List ℕ) → 1 ≤ length all → all ≡ little 1 (get_or all 0 0) ++ drop 1 all
unfolding little
some_1 [] long = absurd (omega (arith, long))
some_1 (x ∷ xs) long = refl

-- 17 bytes are those of a port
some_port : (all : List ℕ) → ((i : ℕ) → get_or all i 0 < 256) → 17 ≤ length all → (port : PlainPort) × (all ≡ port_bytes port ++ drop 17 all)
unfolding port_bytes wide_bytes
some_port all bytes long =
    let rest = drop 8 all in
    let last = drop 8 rest in
    let rest_bytes = dropped_bytes 8 all bytes in
    let rest_long : 9 ≤ length rest = omega (arith, long, length-drop 8 all) in
    let last_long : 1 ≤ length last = omega (arith, rest_long, length-drop 8 rest) in
    let low = some_8 all bytes (omega (arith, long)) in
    let high = some_8 rest rest_bytes (omega (arith, rest_long)) in
    let flag = some_1 last last_long in
    let end : drop 1 last ≡ drop 17 all = ap (drop 1) (drop-drop 8 8 all) ∙ drop-drop 1 16 all in
    let low_number = from_le_bytes w64 (take 8 all) in
    let high_number = from_le_bytes w64 (take 8 rest) in
    let open_number = get_or last 0 0 in (
      record { clear = record { low = low_number; high = high_number }; is_open = open_number },
      low
          ∙ ap (λ (xs : List ℕ). little 8 low_number ++ xs)
          (high ∙ ap (λ (xs : List ℕ). little 8 high_number ++ xs) (flag ∙ ap (λ (xs : List ℕ). little 1 open_number ++ xs) end))
          ∙ simp append_assoc,
    )

-- and this many times 17 are those of this many ports
pub some_ports : (n : ℕ) (all : List ℕ) → ((i : ℕ) → get_or all i 0 < 256) → length all ≡ 17 * n
    → (ports : List PlainPort) × (length ports ≡ n) × (all ≡ flat_map port_bytes ports)
some_ports zero all bytes long = ([], refl, nil_from_length all long)
some_ports (suc n) all bytes long =
    let first = some_port all bytes (omega (arith, long)) in
    let rest = some_ports n (drop 17 all) (dropped_bytes 17 all bytes) (length-drop 17 all ∙ omega (arith, long)) in
    (first.0 ∷ rest.0, ap suc rest.1, first.1 ∙ ap (λ (xs : List ℕ). port_bytes first.0 ++ xs) rest.2)
