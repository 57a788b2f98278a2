-- Capacitances are sums over classes, and small.
use Rattle.cell_nodes.proofs.Common.{◌≡◌, ℕ, ◌+◌, ◌<◌, ◌≤◌, ℤ, pos, ◌+ℤ◌, List, [], ◌∷◌, ◌++◌, length, get_or, map, take, ◌∙◌, ap, arith, ints}
use Rattle.cell_nodes.proofs.Common.{ClassRec, capacitance, class_of}
use Rattle.std.proofs.Common.{◌^◌, negsuc, ◌*ℤ◌, ◌≤ℤ◌}
use Rattle.std.proofs.Math.Nat.{mul-le-mul_left}
use Rattle.std.proofs.lemmas.List.{take_more, length-take-le}

-- a product of at most 2^63 and at most a million
pub product_small : (z : ℤ) (n : ℕ) → pos 0 ≤ℤ z → z ≤ℤ pos (2 ^ 63) → n ≤ 1000000 → (pos 0 ≤ℤ (z *ℤ pos n)) × ((z *ℤ pos n) ≤ℤ pos (2 ^ 83))
product_small (pos m) n some few per =
    let low : m ≤ 2 ^ 63 = omega (arith, ints, few) in
    let less = mul-le-mul_left n low in
    (omega (arith, ints), omega (arith, ints, less, per))
product_small (negsuc m) n some few per = absurd (omega (arith, ints, some))

-- what a class counts
abbrev pub counted_in : ClassRec → ℤ × ℤ → ℤ
counted_in class measure = (measure.0 *ℤ pos class.per_area) +ℤ (measure.1 *ℤ pos class.per_perimeter)

regroup : (head rest last sum : ℤ) → sum ≡ rest +ℤ last → head +ℤ sum ≡ (head +ℤ rest) +ℤ last
regroup head rest last sum e = omega (arith, ints, e)

first_one : (last : ℤ) → last +ℤ pos 0 ≡ pos 0 +ℤ last
first_one last = omega (arith, ints)

capacitance-push : (classes : List ClassRec) (measures : List (ℤ × ℤ)) (class : ClassRec) (measure : ℤ × ℤ) → length classes ≡ length measures
    → capacitance (map class_of (classes ++ class ∷ [])) (measures ++ measure ∷ []) ≡ capacitance (map class_of classes) measures +ℤ counted_in class measure
capacitance-push [] [] class measure same = first_one (counted_in class measure)
capacitance-push [] (m ∷ ms) class measure same = absurd (omega (arith, same))
capacitance-push (k ∷ ks) [] class measure same = absurd (omega (arith, same))
capacitance-push (k ∷ ks) (m ∷ ms) class measure same =
    regroup (counted_in k m) (capacitance (map class_of ks) ms) (counted_in class measure) _ (capacitance-push ks ms class measure (omega (arith, same)))

-- one class more
pub capacitance_more : (classes : List ClassRec) (measures : List (ℤ × ℤ)) (k : ℕ) (c : ClassRec) (m : ℤ × ℤ) → k < length classes → k < length measures
    → capacitance (map class_of (take (k + 1) classes)) (take (k + 1) measures)
    ≡ capacitance (map class_of (take k classes)) (take k measures) +ℤ counted_in (get_or classes k c) (get_or measures k m)
capacitance_more classes measures k c m inside within =
    ap (λ (v : List ClassRec). capacitance (map class_of v) (take (k + 1) measures)) (take_more classes k c inside)
    ∙ ap (λ (v : List (ℤ × ℤ)). capacitance (map class_of (take k classes ++ get_or classes k c ∷ [])) v) (take_more measures k m within)
    ∙ capacitance-push (take k classes) (take k measures) (get_or classes k c) (get_or measures k m)
    (omega (arith, length-take-le k classes (omega (arith, inside)), length-take-le k measures (omega (arith, within))))
