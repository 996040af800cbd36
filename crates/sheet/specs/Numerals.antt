-- Numerals, and lines of a key and a numeral.
use Rattle.std.specs.Prelude.{ℕ, Bool, cond, not, ◌&&◌, List, [], ◌∷◌, length, Some, None, Option, ◌==◌, nat_le, nat_lt, slice_index}
use Rattle.std.specs.Str.Parse.{digits_value}
use Rattle.std.specs.Str.{all_ascii_digits}

-- what comes of a value, if there is one
abbrev pub onward : {X Y : Type 0} → Option X → (X → Option Y) → Option Y
onward None f = None
onward (Some x) f = f x

-- the number that digits write, if it is at most high
unfoldable pub value_up_to : ℕ → List ℕ → Option ℕ
value_up_to high ds = cond (all_ascii_digits ds && nat_le (digits_value 10 ds) high) (Some (digits_value 10 ds)) None

-- at least one digit, and no needless zero in front
abbrev pub trim : List ℕ → Bool
trim ds = nat_lt 0 (length ds) && not (nat_lt 1 (length ds) && slice_index ds 0 == 48)

-- the number from low to high that a numeral writes
unfoldable pub numeral : ℕ → ℕ → List ℕ → Option ℕ
numeral low high ds = cond (trim ds) (onward (value_up_to high ds) (λ n. cond (nat_le low n) (Some n) None)) None

-- what follows a key, where the line begins with it
abbrev pub after : List ℕ → List ℕ → Option (List ℕ)
after [] line = Some line
after (k ∷ ks) [] = None
after (k ∷ ks) (c ∷ cs) = cond (k == c) (after ks cs) None

-- the number from low to high of a line of that key
unfoldable pub field : List ℕ → ℕ → ℕ → List ℕ → Option ℕ
field key low high line = onward (after key line) (numeral low high)
