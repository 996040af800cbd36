-- The lines of a sheet, one order after another.
use Rattle.std.proofs.Common.{◌≡◌, ℕ, zero, suc, ◌+◌, ◌<◌, ◌≤◌, List, [], ◌∷◌, ◌++◌, length, get_or, drop, set, ℤ, pos, decimal, sym, refl, ap, ◌∙◌, append_assoc, arith}
use Rattle.std.proofs.lemmas.List.{append-nil, at_drop_more, at_drop_all}
use Rattle.std.proofs.lemmas.Fmt.{length-decimal-le}
use Rattle.std.specs.List.{flat_map}
use Rattle.sheet.specs.Orders.{order_of}
use Rattle.sheet.specs.Text.{ended, order_lines, all_lines}

pub joined_append : (xs ys : List (List ℕ)) → flat_map ended (xs ++ ys) ≡ flat_map ended xs ++ flat_map ended ys
joined_append [] ys = refl
joined_append (x ∷ xs) ys = ap (λ zs. ended x ++ zs) (joined_append xs ys) ∙ sym (append_assoc (ended x) (flat_map ended xs) (flat_map ended ys))

-- the order of the first of the members that are left goes over to the page
pub net_on : (nets : List ℤ) (m : ℕ) (page page' whole : List ℕ) → m < length nets → page' ≡ page ++ flat_map ended (order_lines m (order_of (get_or nets m (pos 0)))) → page ++ flat_map ended (all_lines m (drop m nets)) ≡ whole → page' ++ flat_map ended (all_lines (m + 1) (drop (m + 1) nets)) ≡ whole
unfolding all_lines
net_on nets m page page' whole h e w =
    let own = flat_map ended (order_lines m (order_of (get_or nets m (pos 0)))) in
    let rest = flat_map ended (all_lines (m + 1) (drop (m + 1) nets)) in
    let more = at_drop_more (λ zs. flat_map ended (all_lines m zs)) nets m (pos 0) h ∙ joined_append (order_lines m (order_of (get_or nets m (pos 0)))) (all_lines (m + 1) (drop (m + 1) nets)) in
    let regroup = append_assoc page own rest in
    cc

pub rest_all : (nets : List ℤ) (m : ℕ) → length nets ≤ m → flat_map ended (all_lines m (drop m nets)) ≡ []
unfolding all_lines
rest_all nets m h = at_drop_all (λ zs. flat_map ended (all_lines m zs)) nets m h

-- the last line after the others
pub finish : (p q s : List ℕ) (ls : List (List ℕ)) (last : List ℕ) → q ≡ p ++ ended last → p ++ [] ≡ s ++ flat_map ended ls → q ≡ s ++ flat_map ended (ls ++ (last ∷ []))
finish p q s ls last e h =
    let none = append-nil p in
    let one : flat_map ended (last ∷ []) ≡ ended last = append-nil (ended last) in
    let split = joined_append ls (last ∷ []) in
    let regroup = append_assoc s (flat_map ended ls) (ended last) in
    cc

-- nets of 0 have no lines
pub vacant_none : (m : ℕ) (zs : List ℤ) → ((k : ℕ) → get_or zs k (pos 0) ≡ pos 0) → all_lines m zs ≡ []
unfolding all_lines
vacant_none m [] h = refl
vacant_none m (z ∷ zs) h =
    let first : z ≡ pos 0 = h 0 in
    let rest = vacant_none (m + 1) zs (λ k. h (suc k)) in
    ap (λ y. order_lines m (order_of y) ++ all_lines (m + 1) zs) first ∙ rest

-- one net more, after the others
pub lines-set : (m k : ℕ) (zs : List ℤ) (z : ℤ) → k < length zs → ((j : ℕ) → k ≤ j → get_or zs j (pos 0) ≡ pos 0) → all_lines m (set zs k z) ≡ all_lines m zs ++ order_lines (m + k) (order_of z)
unfolding all_lines
lines-set m k [] z lt h = let never : k < 0 = lt in absurd (omega arith)
lines-set m zero (y ∷ ys) z lt h =
    let first : y ≡ pos 0 = h 0 (omega arith) in
    let rest = vacant_none (m + 1) ys (λ k. h (suc k) (omega arith)) in
    let here : m + 0 ≡ m = omega arith in
    let alone = append-nil (order_lines m (order_of z)) in
    rw (rest, first, here) alone
lines-set m (suc k) (y ∷ ys) z lt h =
    let more = lines-set (m + 1) k ys z (omega arith) (λ j le. h (suc j) (omega arith)) in
    let there : m + 1 + k ≡ m + suc k = omega arith in
    let regroup = append_assoc (order_lines m (order_of y)) (all_lines (m + 1) ys) (order_lines (m + suc k) (order_of z)) in
    rw (more, there) (sym regroup)

-- how long the numerals of a sheet are
pub member_long : (m : ℕ) → m < 32 → length (decimal m) ≤ 2
member_long m few = length-decimal-le 2 m (omega arith) (omega arith) (omega arith)

pub session_long : (n : ℕ) → n ≤ 100000 → length (decimal n) ≤ 6
session_long n few = length-decimal-le 6 n (omega arith) (omega arith) (omega arith)

pub amount_long : (n : ℕ) → n ≤ 200000000000000000 → length (decimal n) ≤ 18
amount_long n few = length-decimal-le 18 n (omega arith) (omega arith) (omega arith)
