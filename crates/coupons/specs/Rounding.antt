-- The one rounding: to the nearest whole number, halves away from zero.
use Rattle.std.specs.Prelude.{◌≡◌, ℕ, suc, ◌+◌, ◌*◌, ◌/◌, ◌≤◌, ℤ, pos, negsuc, ◌-ℤ◌, ◌*ℤ◌, neg_ℤ, unsigned_abs}

-- the whole number nearest to n / d, a half upward
unfoldable pub nearest : ℕ → ℕ → ℕ
nearest n d = (2 * n + d) / (2 * d)

-- the same of a signed number: its size is rounded, and has its sign
abbrev pub rounded : ℤ → ℕ → ℤ
rounded (pos n) d = pos (nearest n d)
rounded (negsuc n) d = neg_ℤ (pos (nearest (suc n) d))

-- r is z / d rounded: at most half a unit off, and away from zero where it is just half a unit off
pub record Nearest (z : ℤ) (d : ℕ) (r : ℤ) : Type 0 where
  pub close : 2 * unsigned_abs (r *ℤ pos d -ℤ z) ≤ d
  pub tie : 2 * unsigned_abs (r *ℤ pos d -ℤ z) ≡ d → unsigned_abs z ≤ unsigned_abs r * d
