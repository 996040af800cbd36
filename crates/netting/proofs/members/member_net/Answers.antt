use Rattle.std.proofs.Common.{◌≡◌, ℕ, ◌+◌, ◌≤◌, [], ◌∷◌, ◌++◌, length, get_or, take, sym, ap, ◌∙◌, subst, arith}
use Rattle.std.proofs.lemmas.List.{length-append}
use Rattle.std.proofs.lemmas.Slice.Zip.{zip_turn}
use Rattle.netting.specs.Nets.{only, sum_below, member_of, weighed}
use Rattle.netting.proofs.Sums.{sum_more}
use Rattle.netting.proofs.Sizes.{sum-within, size-only, size_below}
use Rattle.netting.proofs.members.member_net.Goals as goal

pub plus-sum-requires : goal.plus-sum-requires
plus-sum-requires g c =
    let m = g.F.Figure.group in
    let w = g.met.F.Figure.lawful in
    let nets = c.args.nets.now in
    let members = c.args.members.now in
    let f : ℕ → g.row.F.Denot = λ a. only m (member_of members a) (get_or nets a m.none) c.args.whose in
    let a = length c.loop-net.yielded in
    let x = c.in-Some.net.now in
    let same = c.into_iter-net-iterator.ensures.into_iter_gives in
    let t = zip_turn nets members c.loop-net.yielded c.into_iter-net-iterator.result c.loop-net.net-iterator c.next.new.self c.next.result
    (ap (λ s. s.a.rest.now) same ∙ ap (λ i. i.rest.now) c.zip-net-items.ensures.first ∙ c.iter.ensures.rest)
    (ap (λ s. s.b.rest.now) same ∙ c.zip-net-items.ensures.second.0)
    c.loop-net.yielded_by (c.in-Some.net, c.in-Some.member) c.in-Some.is c.next.ensures.steps in
    let more = sum-within m.size nets a x t.0 (t.2 x) in
    let one : m.size c.owned.result ≤ m.size x = rw c.owned.ensures (size-only m w _ c.args.whose x) in
    let sum : m.size c.loop-net.sum ≤ weighed m (take a nets) = rw c.loop-net.invariant (size_below m w nets f a (omega arith) (λ k. size-only m w _ c.args.whose _)) in
    omega arith

pub loop-net-preserved : goal.loop-net-preserved
loop-net-preserved g c =
    let m = g.F.Figure.group in
    let w = g.met.F.Figure.lawful in
    let nets = c.args.nets.now in
    let members = c.args.members.now in
    let f : ℕ → g.row.F.Denot = λ a. only m (member_of members a) (get_or nets a m.none) c.args.whose in
    let a = length c.loop-net.yielded in
    let same = c.into_iter-net-iterator.ensures.into_iter_gives in
    let t = zip_turn nets members c.loop-net.yielded c.into_iter-net-iterator.result c.loop-net.net-iterator c.next.new.self c.next.result
    (ap (λ s. s.a.rest.now) same ∙ ap (λ i. i.rest.now) c.zip-net-items.ensures.first ∙ c.iter.ensures.rest)
    (ap (λ s. s.b.rest.now) same ∙ c.zip-net-items.ensures.second.0)
    c.loop-net.yielded_by (c.in-Some.net, c.in-Some.member) c.in-Some.is c.next.ensures.steps in
    let net : c.in-Some.net.now ≡ get_or nets a m.none = t.2 m.none in
    let member : c.in-Some.member.now ≡ member_of members a = t.3 0 in
    let one : c.owned.result ≡ f a = c.owned.ensures ∙ ap (λ k. only m k c.in-Some.net.now c.args.whose) member ∙ ap (λ x. only m (member_of members a) x c.args.whose) net in
    let sum : c.loop-net.sum ≡ sum_below m a f = c.loop-net.invariant in
    let more = sum_more m w a f in
    let len : length (c.loop-net.yielded ++ (c.in-Some.net, c.in-Some.member) ∷ []) ≡ a + 1 = length-append c.loop-net.yielded _ in
    let so : c.plus-sum.result ≡ sum_below m (a + 1) f = cc in
    subst (λ n. c.plus-sum.result ≡ sum_below m n f) (sym len) so
