-- What writer and reader promise of each other.
use Rattle.std.specs.Prelude.{◌≡◌, ℕ, ◌-◌, ◌<◌, List, ◌++◌, length, replicate, ℤ, pos, IfOk, Ok, Result, unsigned_abs}
use Rattle.refusal.specs.declared.Fault.{Fault}
use Rattle.sheet.specs.declared.reading.Sheet.{Sheet}
use Rattle.sheet.specs.Reading.{reads}
use Rattle.sheet.specs.Text.{text}
use Rattle.sheet.specs.Writing.{Sendable}

-- a session and nets as a sheet, with a net of 0 for each member that is not named
abbrev pub sheet_of : ℤ → List ℤ → Sheet
sheet_of session nets = record { session = unsigned_abs session; nets = nets ++ replicate (32 - length nets) (pos 0) }

-- a sheet that was read is one that can be written, and its text is just the bytes
pub record TextOf (bytes : List ℕ) (s : Sheet) : Type 0 where
  pub sendable : Sendable (pos s.session) s.nets
  pub wide : length s.nets ≡ 32
  pub text_is : text s.session s.nets ≡ bytes

-- the bytes are accepted exactly where they are the text of a session and nets
pub record Accepts (bytes : List ℕ) (r : Result Sheet Fault) : Type 0 where
  pub written : IfOk r (TextOf bytes)
  pub reads_back : (session : ℤ) (nets : List ℤ) → Sendable session nets → text (unsigned_abs session) nets ≡ bytes → r ≡ Ok (sheet_of session nets)

-- no byte past a front of 1,655 bytes matters
abbrev pub FrontDecides : List ℕ → Type 0
FrontDecides front = (rest : List ℕ) → 1654 < length front → reads (front ++ rest) ≡ reads front
