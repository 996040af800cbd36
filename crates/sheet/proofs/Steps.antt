-- What one line more makes of a sheet that is being read.
use Rattle.std.proofs.Common.{◌≡◌, ℕ, zero, suc, ◌+◌, ◌-◌, ◌*◌, ◌^◌, ◌<◌, ◌≤◌, Bool, true, false, cond, List, [], ◌∷◌, ◌++◌, length, get_or, ℤ, pos, nat_abs, Some, None, codes, decimal, Option, sym, refl, ap, ◌∙◌, subst, append_assoc, arith}
use Rattle.std.proofs.lemmas.Fmt.{length-decimal-le}
use Rattle.std.proofs.lemmas.List.{length-set, length-append, get_or-set_other, get_or_past}
use Rattle.std.proofs.lemmas.Slice.Eq.{bytes_eq-Decides}
use Rattle.std.proofs.lemmas.Int.{ints}
use Rattle.std.specs.Str.{bytes_eq}
use Rattle.sheet.specs.declared.reading.Next.{Next}
use Rattle.sheet.specs.declared.reading.Next.TheVariants.{Session, MemberOrEnd, SideOf, CentavosOf, Nothing}
use Rattle.sheet.specs.declared.reading.Reading.{Reading}
use Rattle.sheet.specs.declared.reading.Sheet.{Sheet}
use Rattle.sheet.specs.Numerals.{field, onward}
use Rattle.sheet.specs.declared.order.Side.{Side}
use Rattle.sheet.specs.declared.order.Side.TheVariants.{Charge, Credit}
use Rattle.sheet.specs.Orders.{order_of, net_of, orders, total, nil}
use Rattle.sheet.specs.Reading.{step, step_at, side, at_end, member_or_end, netted}
use Rattle.sheet.specs.Text.{side_line, order_lines, all_lines, lines}
use Rattle.sheet.specs.Writing.{payable}
use Rattle.sheet.proofs.Fields.{field_some, cond_some, onward_some}
use Rattle.sheet.proofs.Numerals.{some_same, none_some}
use Rattle.sheet.proofs.Lines.{vacant_none, lines-set}
use Rattle.sheet.proofs.Nets.{orders_le, payable-set, nil_is}

-- the first member whose net is still open
abbrev pub free : Next → ℕ
free Session = 0
free (MemberOrEnd low) = low
free (SideOf m) = m
free (CentavosOf m d) = m
free Nothing = 32

-- a member of a sheet
abbrev pub Seated : Next → Type 0
Seated Session = Unit {0}
Seated (MemberOrEnd low) = Unit {0}
Seated (SideOf m) = m < 32
Seated (CentavosOf m d) = m < 32
Seated Nothing = Unit {0}

-- the session, once it was read
abbrev pub Dated : Next → ℕ → Type 0
Dated Session n = Unit {0}
Dated (MemberOrEnd low) n = (1 ≤ n) × (n ≤ 100000)
Dated (SideOf m) n = (1 ≤ n) × (n ≤ 100000)
Dated (CentavosOf m d) n = (1 ≤ n) × (n ≤ 100000)
Dated Nothing n = (1 ≤ n) × (n ≤ 100000)

-- the sum of the nets, once the end was read
abbrev pub Level : Next → List ℤ → Type 0
Level Session zs = Unit {0}
Level (MemberOrEnd low) zs = Unit {0}
Level (SideOf m) zs = Unit {0}
Level (CentavosOf m d) zs = Unit {0}
Level Nothing zs = total zs ≡ pos 0

-- what holds of a sheet that is being read
pub record Sound (next : Next) (s : Sheet) : Type 0 where
  pub wide : length s.nets ≡ 32
  pub paid : payable s.nets ≡ true
  pub vacant : (k : ℕ) → free next ≤ k → get_or s.nets k (pos 0) ≡ pos 0
  pub dated : Dated next s.session
  pub seated : Seated next
  pub level : Level next s.nets

-- how many bytes good lines can still have, with their LF
abbrev pub left : Next → ℕ
left Session = 1654
left (MemberOrEnd low) = 51 * (32 - low) + 7
left (SideOf m) = 51 * (31 - m) + 48
left (CentavosOf m d) = 51 * (31 - m) + 35
left Nothing = 0

-- the lines of the whole orders that were read
abbrev pub sofar : Sheet → List (List ℕ)
sofar s = (codes "session=" ++ decimal s.session) ∷ all_lines 0 s.nets

-- the lines that were read
abbrev pub taken : Next → Sheet → List (List ℕ)
taken Session s = []
taken (MemberOrEnd low) s = sofar s
taken (SideOf m) s = sofar s ++ ((codes "member=" ++ decimal m) ∷ [])
taken (CentavosOf m d) s = sofar s ++ ((codes "member=" ++ decimal m) ∷ (side_line d ∷ []))
taken Nothing s = lines s.session s.nets

-- a good line
pub record Stepped (next : Next) (s : Sheet) (line : List ℕ) (r : Reading) : Type 0 where
  pub sound : Sound r.next r.sheet
  pub took : taken r.next r.sheet ≡ taken next s ++ (line ∷ [])
  pub bound : length line + 1 + left r.next ≤ left next

-- a line of a key and a number of at most d digits is that long
field_long : (key : List ℕ) (n d : ℕ) (line : List ℕ) → 0 < d → n < 10 ^ d → n < 2 ^ 64 → line ≡ key ++ decimal n → length line ≤ length key + d
field_long key n d line some few small e =
    let short = length-decimal-le d n some few small in
    let long = ap length e ∙ length-append key (decimal n) in
    omega arith

step_session : (s : Sheet) (line : List ℕ) (r : Reading) → Sound Session s → step_at Session s line ≡ Some r → Stepped Session s line r
step_session s line r h e =
    let p = onward_some (field (codes "session=") 1 100000 line) (λ n. Some (record { sheet = record { session = n; nets = s.nets }; next = MemberOrEnd 0 })) r e in
    let f = field_some (codes "session=") 1 100000 line p.0 (omega arith) p.1 in
    let none = vacant_none 0 s.nets (λ k. h.vacant k (omega arith)) in
    subst (Stepped Session s line) (some_same p.2) (record { sound = record { wide = h.wide; paid = h.paid; vacant = h.vacant; dated = (f.1, f.2); seated = tt; level = tt }; took = ap (λ ls. (codes "session=" ++ decimal p.0) ∷ ls) none ∙ ap (λ l. l ∷ []) (sym f.0); bound = omega (arith, field_long (codes "session=") p.0 6 line (omega arith) (omega (arith, f.2)) (omega (arith, f.2)) f.0) })

-- a line that tells a side is just that side's line
side_some : (line : List ℕ) (d : Side) → side line ≡ Some d → line ≡ side_line d
side_some line d e = by (bytes_eq line (side_line Charge)) (bytes_eq line (side_line Credit)) refl refl e where
  by : (a b : Bool) → bytes_eq line (side_line Charge) ≡ a → bytes_eq line (side_line Credit) ≡ b → cond a (Some Charge) (cond b (Some Credit) None) ≡ Some d → line ≡ side_line d
  by true b p q e = (bytes_eq-Decides line (side_line Charge)).0 p ∙ ap side_line (some_same e)
  by false true p q e = (bytes_eq-Decides line (side_line Credit)).0 q ∙ ap side_line (some_same e)
  by false false p q e = none_some e

side_long : (d : Side) → length (side_line d) ≡ 12
side_long Charge = refl
side_long Credit = refl

step-side : (m : ℕ) (s : Sheet) (line : List ℕ) (r : Reading) → Sound (SideOf m) s → step_at (SideOf m) s line ≡ Some r → Stepped (SideOf m) s line r
step-side m s line r h e =
    let p = onward_some (onward (side line) (λ d. Some (CentavosOf m d))) (λ (n : Next). Some (record { sheet = s; next = n })) r e in
    let q = onward_some (side line) (λ d. Some (CentavosOf m d)) p.0 p.1 in
    let d = q.0 in
    let same = side_some line d q.1 in
    let long = ap length same ∙ side_long d in
    subst (Stepped (SideOf m) s line) (ap (λ (n : Next). record { sheet = s; next = n }) (some_same q.2) ∙ some_same p.2) (record { sound = record { wide = h.wide; paid = h.paid; vacant = h.vacant; dated = h.dated; seated = h.seated; level = tt }; took = sym (append_assoc (sofar s) ((codes "member=" ++ decimal m) ∷ []) (side_line d ∷ [])) ∙ ap (λ l. taken (SideOf m) s ++ (l ∷ [])) (sym same); bound = omega arith })

-- one net more, where the sheet had none from its member on
module _ (m : ℕ) (s : Sheet) (z : ℤ) (seat : m < 32) (wide : length s.nets ≡ 32) (paid : payable s.nets ≡ true) (vacant : (k : ℕ) → m ≤ k → get_or s.nets k (pos 0) ≡ pos 0) (dated : (1 ≤ s.session) × (s.session ≤ 100000)) (small : nat_abs z ≤ 200000000000000000) where
  netted_sound : Sound (MemberOrEnd (m + 1)) (netted s m z).sheet
  netted_sound =
      record { wide = length-set s.nets m z ∙ wide; paid = payable-set s.nets m z small paid; vacant = (λ k le. get_or-set_other s.nets m k z (pos 0) (omega arith) ∙ vacant k (omega arith)); dated = dated; seated = tt; level = tt }

  netted_took : (side line : List ℕ) → order_lines m (order_of z) ≡ (codes "member=" ++ decimal m) ∷ (side ∷ (line ∷ [])) → sofar (netted s m z).sheet ≡ (sofar s ++ ((codes "member=" ++ decimal m) ∷ (side ∷ []))) ++ (line ∷ [])
  netted_took side line e =
      let more = lines-set 0 m s.nets z (omega arith) vacant in
      let here : 0 + m ≡ m = omega arith in
      let regroup = append_assoc (all_lines 0 s.nets) ((codes "member=" ++ decimal m) ∷ (side ∷ [])) (line ∷ []) in
      rw (more, here, e) (ap (λ ls. (codes "session=" ++ decimal s.session) ∷ ls) (sym regroup))

net_lines : (m : ℕ) (d : Side) (n : ℕ) (line : List ℕ) → 1 ≤ n → line ≡ codes "centavos=" ++ decimal n → order_lines m (order_of (net_of d n)) ≡ (codes "member=" ++ decimal m) ∷ (side_line d ∷ (line ∷ []))
net_lines m d zero line some e = absurd (omega arith)
net_lines m Charge (suc n) line some e = rw e
net_lines m Credit (suc n) line some e = rw e

net_small : (d : Side) (n : ℕ) → nat_abs (net_of d n) ≡ n
net_small Charge n = omega (arith, ints)
net_small Credit n = refl

step_centavos : (m : ℕ) (d : Side) (s : Sheet) (line : List ℕ) (r : Reading) → Sound (CentavosOf m d) s → step_at (CentavosOf m d) s line ≡ Some r → Stepped (CentavosOf m d) s line r
step_centavos m d s line r h e =
    let p = onward_some (field (codes "centavos=") 1 200000000000000000 line) (λ n. Some (netted s m (net_of d n))) r e in
    let n = p.0 in
    let z = net_of d n in
    let f = field_some (codes "centavos=") 1 200000000000000000 line n (omega arith) p.1 in
    let small : nat_abs z ≤ 200000000000000000 = omega (arith, net_small d n, f.2) in
    subst (Stepped (CentavosOf m d) s line) (some_same p.2) (record { sound = netted_sound m s z h.seated h.wide h.paid h.vacant h.dated small; took = netted_took m s z h.seated h.wide h.paid h.vacant h.dated small (side_line d) line (net_lines m d n line f.1 f.0); bound = omega (arith, field_long (codes "centavos=") n 18 line (omega arith) (omega (arith, f.2)) (omega (arith, f.2)) f.0) })

-- an order's member, and the end
to_member : (low m : ℕ) (s : Sheet) (line : List ℕ) → Sound (MemberOrEnd low) s → field (codes "member=") low 31 line ≡ Some m → Stepped (MemberOrEnd low) s line (record { sheet = s; next = SideOf m })
to_member low m s line h e =
    let f = field_some (codes "member=") low 31 line m (omega arith) e in
    let least = f.1 in
    let most = f.2 in
    record { sound = record { wide = h.wide; paid = h.paid; vacant = (λ k le. h.vacant k (omega arith)); dated = h.dated; seated = omega arith; level = tt }; took = ap (λ l. sofar s ++ (l ∷ [])) (sym f.0); bound = omega (arith, field_long (codes "member=") m 2 line (omega arith) (omega arith) (omega arith) f.0) }

to_end : (low : ℕ) (s : Sheet) (line : List ℕ) (n : ℕ) → Sound (MemberOrEnd low) s → field (codes "end=") (orders s.nets) (orders s.nets) line ≡ Some n → nil (total s.nets) ≡ true → Stepped (MemberOrEnd low) s line (record { sheet = s; next = Nothing })
to_end low s line n h e t =
    let few = orders_le s.nets in
    let wide = h.wide in
    let f = field_some (codes "end=") (orders s.nets) (orders s.nets) line n (omega arith) e in
    let count : n ≡ orders s.nets = omega (arith, f.1, f.2) in
    let same : line ≡ codes "end=" ++ decimal (orders s.nets) = f.0 ∙ ap (λ k. codes "end=" ++ decimal k) count in
    record { sound = record { wide = wide; paid = h.paid; vacant = (λ k le. get_or_past s.nets k (pos 0) (omega arith)); dated = h.dated; seated = tt; level = nil_is (total s.nets) t }; took = ap (λ l. sofar s ++ (l ∷ [])) (sym same); bound = omega (arith, field_long (codes "end=") n 2 line (omega arith) (omega arith) (omega arith) f.0) }

by_member : (low : ℕ) (s : Sheet) (line : List ℕ) (r : Reading) (o : Option ℕ) (next : Next) → Sound (MemberOrEnd low) s → field (codes "member=") low 31 line ≡ o → member_or_end o (at_end s.nets line) ≡ Some next → record { sheet = s; next = next } ≡ r → Stepped (MemberOrEnd low) s line r
by_member low s line r (Some m) next h f e same =
    subst (Stepped (MemberOrEnd low) s line) (ap (λ (n : Next). record { sheet = s; next = n }) (some_same e) ∙ same) (to_member low m s line h f)
by_member low s line r None next h f e same =
    let p = onward_some (field (codes "end=") (orders s.nets) (orders s.nets) line) (λ _. cond (nil (total s.nets)) (Some Nothing) None) next e in
    let q = cond_some (nil (total s.nets)) (Some Nothing) next p.2 in
    subst (Stepped (MemberOrEnd low) s line) (ap (λ (n : Next). record { sheet = s; next = n }) (some_same q.1) ∙ same) (to_end low s line p.0 h p.1 q.0)

step_member : (low : ℕ) (s : Sheet) (line : List ℕ) (r : Reading) → Sound (MemberOrEnd low) s → step_at (MemberOrEnd low) s line ≡ Some r → Stepped (MemberOrEnd low) s line r
step_member low s line r h e =
    let p = onward_some (member_or_end (field (codes "member=") low 31 line) (at_end s.nets line)) (λ n. Some (record { sheet = s; next = n })) r e in
    by_member low s line r (field (codes "member=") low 31 line) p.0 h refl p.1 (some_same p.2)

step_at-Stepped : (next : Next) (s : Sheet) (line : List ℕ) (r : Reading) → Sound next s → step_at next s line ≡ Some r → Stepped next s line r
step_at-Stepped Session s line r h e = step_session s line r h e
step_at-Stepped (MemberOrEnd low) s line r h e = step_member low s line r h e
step_at-Stepped (SideOf m) s line r h e = step-side m s line r h e
step_at-Stepped (CentavosOf m d) s line r h e = step_centavos m d s line r h e
step_at-Stepped Nothing s line r h e = none_some e

-- a good line keeps what holds, is the next of the lines, and leaves less room
pub stepped : (q : Reading) (line : List ℕ) (r : Reading) → Sound q.next q.sheet → step q line ≡ Some r → Stepped q.next q.sheet line r
unfolding step
stepped q line r h e = step_at-Stepped q.next q.sheet line r h e
