-- What the writer of a sheet takes, and what it answers.
use Rattle.std.specs.Prelude.{◌≡◌, ℕ, ◌≤◌, Bool, true, ◌&&◌, List, [], ◌∷◌, ◌++◌, length, drop, ℤ, pos, neg_ℤ, ◌≤ℤ◌, Ok, Err, Result, nat_le, unsigned_abs}
use Rattle.refusal.specs.declared.Refusal.{Refusal}
use Rattle.refusal.specs.declared.Refusal.TheVariants.{BadSheet, ListLength}
use Rattle.refusal.specs.Checks.{within, check, ◌then◌}
use Rattle.sheet.specs.Orders.{total, nil}
use Rattle.sheet.specs.Text.{text}

-- each net is one that a sheet can hold
unfoldable pub payable : List ℤ → Bool
payable [] = true
payable (z ∷ zs) = within (neg_ℤ (pos 200000000000000000)) (pos 200000000000000000) z && payable zs

-- the checks of a session and nets: a sheet can hold them, and charges and credits have the same sum
abbrev pub sendable : ℤ → List ℤ → Result Unit Refusal
sendable session nets =
    check (within (pos 1) (pos 32) (pos (length nets))) BadSheet then
    check (within (pos 1) (pos 100000) session) BadSheet then
    check (payable nets) BadSheet then
    check (nil (total nets)) BadSheet

-- how many bytes the writer writes, into a buffer of so much room
abbrev pub writing : ℤ → List ℤ → ℕ → Result ℕ Refusal
writing session nets room =
    sendable session nets then
    check (nat_le (length (text (unsigned_abs session) nets)) room) ListLength then
    Ok (length (text (unsigned_abs session) nets))

-- what those checks tell
pub record Sendable (session : ℤ) (nets : List ℤ) : Type 0 where
  pub few : length nets ≤ 32
  pub from : pos 1 ≤ℤ session
  pub to : session ≤ℤ pos 100000
  pub paid : payable nets ≡ true
  pub level : total nets ≡ pos 0

-- what the buffer holds then: the text and what stood past it, or what it held
abbrev pub filled : Result ℕ Refusal → List ℕ → List ℕ → List ℕ
filled (Ok n) sheet buffer = sheet ++ drop n buffer
filled (Err e) sheet buffer = buffer
