-- Rounding by quotient and rest, and what it means.
use Rattle.std.proofs.Common.{◌≡◌, ℕ, zero, suc, ◌+◌, ◌-◌, ◌*◌, ◌/◌, ◌%◌, ◌<◌, ◌≤◌, ℤ, pos, negsuc, ◌+ℤ◌, ◌-ℤ◌, ◌*ℤ◌, neg_ℤ, nat_abs, ◌≤ℤ◌, ◌<ℤ◌, sym, refl, ap, ◌∙◌, add-mul, one-mul, zero-mul, div-le_self, mul_left_comm, arith}
use lib.Signed.{quot_z, rem_z}
use Rattle.std.proofs.lemmas.Nat.{div-add-mod', div-mul-add, div_below, le-div, mod_below}
use Rattle.std.proofs.lemmas.Int.{ints}
use Rattle.coupons.specs.Rounding.{nearest, rounded, Nearest}

-- a rest of half a unit or more rounds up
pub nearest_up : (n d : ℕ) → 0 < d → d ≤ 2 * (n % d) → nearest n d ≡ n / d + 1
unfolding nearest
nearest_up n d some half =
    let q = n / d in
    let split = div-add-mod' n d in
    let below = mod_below n d some in
    let twice = mul_left_comm (q + 1) 2 d in
    let one = add-mul q 1 d in
    let unit = one-mul d in
    let whole : 2 * n + d ≡ (q + 1) * (2 * d) + (2 * (n % d) - d) = omega arith in
    ap (λ k. k / (2 * d)) whole ∙ div-mul-add (q + 1) (2 * d) (2 * (n % d) - d) (omega arith)

-- and a lesser one down
pub nearest_down : (n d : ℕ) → 0 < d → 2 * (n % d) < d → nearest n d ≡ n / d
unfolding nearest
nearest_down n d some half =
    let q = n / d in
    let split = div-add-mod' n d in
    let twice = mul_left_comm q 2 d in
    let whole : 2 * n + d ≡ q * (2 * d) + (2 * (n % d) + d) = omega arith in
    ap (λ k. k / (2 * d)) whole ∙ div-mul-add q (2 * d) (2 * (n % d) + d) (omega arith)

pub round_up : (z : ℤ) (d : ℕ) → 0 < d → pos d ≤ℤ (rem_z z (pos d) +ℤ rem_z z (pos d)) → rounded z d ≡ quot_z z (pos d) +ℤ pos 1
round_up (pos n) d some half = let e = nearest_up n d some (omega (arith, ints)) in omega (arith, ints)
round_up (negsuc n) d some half = absurd (omega (arith, ints))

pub round_down : (z : ℤ) (d : ℕ) → 0 < d → (rem_z z (pos d) +ℤ rem_z z (pos d)) ≤ℤ neg_ℤ (pos d) → rounded z d ≡ quot_z z (pos d) -ℤ pos 1
round_down (pos n) d some half = absurd (omega (arith, ints))
round_down (negsuc n) d some half = let e = nearest_up (suc n) d some (omega (arith, ints)) in omega (arith, ints)

pub round_flat : (z : ℤ) (d : ℕ) → 0 < d → (rem_z z (pos d) +ℤ rem_z z (pos d)) <ℤ pos d → neg_ℤ (pos d) <ℤ (rem_z z (pos d) +ℤ rem_z z (pos d)) → rounded z d ≡ quot_z z (pos d)
round_flat (pos n) d some low high = let e = nearest_down n d some (omega (arith, ints)) in omega (arith, ints)
round_flat (negsuc n) d some low high = let e = nearest_down (suc n) d some (omega (arith, ints)) in omega (arith, ints)

-- rounding is odd
pub rounded-odd : (z : ℤ) (d : ℕ) → 0 < d → rounded (neg_ℤ z) d ≡ neg_ℤ (rounded z d)
unfolding nearest
rounded-odd (pos zero) d some = let none = div_below (2 * 0 + d) (2 * d) 1 (omega arith) (omega arith) in omega (arith, ints)
rounded-odd (pos (suc n)) d some = refl
rounded-odd (negsuc n) d some = omega (arith, ints)

-- at most half a unit off
size : (n d : ℕ) → 0 < d → (2 * (nearest n d * d) ≤ 2 * n + d) × (2 * n < 2 * (nearest n d * d) + d)
unfolding nearest
size n d some =
    let q = (2 * n + d) / (2 * d) in
    let split = div-add-mod' (2 * n + d) (2 * d) in
    let below = mod_below (2 * n + d) (2 * d) (omega arith) in
    let twice = mul_left_comm q 2 d in
    (omega arith, omega arith)

neg-mul : (q d : ℕ) → neg_ℤ (pos q) *ℤ pos d ≡ neg_ℤ (pos (q * d))
neg-mul zero d = ap (λ k. pos k) (zero-mul d) ∙ ap (λ k. neg_ℤ (pos k)) (sym (zero-mul d))
neg-mul (suc q) d = refl

pub rounded-nearest : (z : ℤ) (d : ℕ) → 0 < d → Nearest z d (rounded z d)
rounded-nearest (pos n) d some = let s = size n d some in let low = s.0 in let high = s.1 in record { close = omega (arith, ints); tie = (λ e. omega (arith, ints)) }
rounded-nearest (negsuc n) d some =
    let q = nearest (suc n) d in
    let s = size (suc n) d some in
    let low = s.0 in
    let high = s.1 in
    let product = neg-mul q d in
    let sized : nat_abs (neg_ℤ (pos q)) * d ≡ q * d = ap (λ k. k * d) (omega (arith, ints)) in
    record { close = omega (arith, ints); tie = (λ e. omega (arith, ints)) }

-- a quotient is no larger than its dividend
pub quot-size : (z : ℤ) (d : ℕ) → nat_abs (quot_z z (pos d)) ≤ nat_abs z
quot-size (pos n) d = div-le_self n d
quot-size (negsuc n) d = let small = div-le_self (suc n) d in omega (arith, ints)

-- how large a rounded quotient can be
nearest_bound : (n d m : ℕ) → 0 < d → 2 * n + d < 2 * ((m + 1) * d) → nearest n d ≤ m
unfolding nearest
nearest_bound n d m some less =
    let twice = mul_left_comm (m + 1) 2 d in
    let below = div_below (2 * n + d) (2 * d) (m + 1) (omega arith) (omega arith) in
    omega arith

pub rounded_bound : (z : ℤ) (d m : ℕ) → 0 < d → 2 * nat_abs z + d < 2 * ((m + 1) * d) → nat_abs (rounded z d) ≤ m
rounded_bound (pos n) d m some less = nearest_bound n d m some less
rounded_bound (negsuc n) d m some less = let b = nearest_bound (suc n) d m some less in omega (arith, ints)

-- a quotient that is reached is not rounded below
pub nearest_least : (n d m : ℕ) → 0 < d → m * d ≤ n → m ≤ nearest n d
unfolding nearest
nearest_least n d m some reached =
    let twice = mul_left_comm m 2 d in
    le-div m (2 * n + d) (2 * d) (omega arith) (omega arith)
