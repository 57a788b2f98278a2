-- The order of bars.
use Rattle.geo_strips.proofs.Common.{◌≡◌, false, List, get_or, IsSorted, IsTotalOrder, is_lt, int_cmp, ordering_then, int_cmp_total, on_total}
use Rattle.geo_strips.proofs.Common.{then_total, int_then-not_less, IsSorted-pairs, Pairwise, Bar, bar_cmp}
use Rattle.geo_core.proofs.FiniteSets.Orders.{ordering_then-not_less, Lexicographic-map}
use Rattle.geo_core.proofs.FiniteSets.Pairs.{Pairwise-from_AllPairs}
use Rattle.geo_strips.proofs.JoinLaws.{NoLater}

bar_cmp_total : IsTotalOrder bar_cmp
bar_cmp_total = then_total (on_total (λ b. b.low) int_cmp_total) (then_total (on_total (λ b. b.high) int_cmp_total)
    (then_total (on_total (λ b. b.from) int_cmp_total) (on_total (λ b. b.to) int_cmp_total)))

-- a bar that the next is not before begins no later
begins_no_later : (a b : Bar) → is_lt (bar_cmp b a) ≡ false → NoLater a b
begins_no_later a b fails =
    let begins = ordering_then (int_cmp b.from a.from) (int_cmp b.to a.to) in
    Lexicographic-map a.low b.low (λ columns. Lexicographic-map a.high b.high (int_then-not_less a.from b.from (int_cmp b.to a.to))
    (ordering_then-not_less a.high b.high begins columns))
    (ordering_then-not_less a.low b.low (ordering_then (int_cmp b.high a.high) begins) fails)

-- sorted bars begin one after another
pub bars_in_order : (bars : List Bar) → IsSorted bar_cmp bars → Pairwise NoLater bars
bars_in_order bars sorted = Pairwise-from_AllPairs NoLater bars (λ i j d less below.
    begins_no_later (get_or bars i d) (get_or bars j d) (IsSorted-pairs bar_cmp bar_cmp_total bars sorted i j d less below))
