-- The name order on paths is the order on their parts.
use Rattle.ext_model.proofs.Common.{◌≡◌, ◌≢◌, ℕ, ◌<◌, ◌+◌, ◌==◌, Bool, true, false, cond, List, [], ◌∷◌, ◌++◌, length, refl, sym, ◌∙◌, ap, arith}
use Rattle.ext_model.proofs.Common.{sum_by-cons, Ordering, Less, Equal, Greater, nat_cmp, ordering_then, slice_cmp, SLASH, name_kind, slashes_in}
use Rattle.ext_model.proofs.Common.{kind_rank, path_text}
use Rattle.std.proofs.lemmas.Cmp.{ranked}
use Rattle.std.specs.Ordering.{MatchOrdering}
use Rattle.ext_model.specs.NameParts.{element_cmp, path_length, AreWhole, PathsCompareByParts}
use Rattle.ext_model.proofs.PathOrders.{name_kind-behind, slashes_in-behind, length-behind, path_text_some}

-- of three answers the first that decides
pub ordering_then-assoc : (a b c : Ordering) → ordering_then (ordering_then a b) c ≡ ordering_then a (ordering_then b c)
ordering_then-assoc Less b c = refl
ordering_then-assoc Equal b c = refl
ordering_then-assoc Greater b c = refl

-- numbers that differ decide, whatever comes behind
then_equal : (x y : ℕ) (a b : Ordering) → (x ≡ y → a ≡ b) → ordering_then (nat_cmp x y) a ≡ ordering_then (nat_cmp x y) b
then_equal x y a b same = step (nat_cmp x y) (ranked x y (nat_cmp x y) refl)
  where
    step : (r : Ordering) → MatchOrdering r (x < y) (x ≡ y) (y < x) → ordering_then r a ≡ ordering_then r b
    step Less h = refl
    step Equal h = same h
    step Greater h = refl

-- a name without a slash begins with another byte, and the rest of it has none
whole_first : (byte : ℕ) (bytes : List ℕ) → slashes_in (byte ∷ bytes) ≡ 0 → byte ≢ SLASH
whole_first byte bytes whole is_slash = step (byte == SLASH) (rw is_slash refl) (sym counted ∙ whole)
  where
    counted : slashes_in (byte ∷ bytes) ≡ cond (byte == SLASH) 1 0 + slashes_in bytes
    counted = sum_by-cons (λ (b : ℕ). cond (b == SLASH) 1 0) byte bytes

    step : (is : Bool) → is ≡ true → cond is 1 0 + slashes_in bytes ≡ 0 → ⊥
    step true t none = omega arith
    step false t none = cc

whole_rest : (byte : ℕ) (bytes : List ℕ) → slashes_in (byte ∷ bytes) ≡ 0 → slashes_in bytes ≡ 0
whole_rest byte bytes whole = omega (arith, sum_by-cons (λ (b : ℕ). cond (b == SLASH) 1 0) byte bytes, whole)

-- of two paths whose first names have no slash the first names decide, with the slashes behind them
slice_cmp-elements : (id other x y : List ℕ) → slashes_in id ≡ 0 → slashes_in other ≡ 0
    → slice_cmp nat_cmp (id ++ SLASH ∷ x) (other ++ SLASH ∷ y) ≡ ordering_then (element_cmp id other) (slice_cmp nat_cmp x y)
slice_cmp-elements [] [] x y p q = refl
slice_cmp-elements [] (byte ∷ other) x y p q = step (nat_cmp SLASH byte) (ranked SLASH byte (nat_cmp SLASH byte) refl)
  where
    step : (r : Ordering) → MatchOrdering r (SLASH < byte) (SLASH ≡ byte) (byte < SLASH)
        → ordering_then r (slice_cmp nat_cmp x (other ++ SLASH ∷ y))
        ≡ ordering_then (ordering_then r (slice_cmp nat_cmp [] (other ++ SLASH ∷ []))) (slice_cmp nat_cmp x y)
    step Less h = refl
    step Equal h = absurd (whole_first byte other q (sym h))
    step Greater h = refl
slice_cmp-elements (byte ∷ id) [] x y p q = step (nat_cmp byte SLASH) (ranked byte SLASH (nat_cmp byte SLASH) refl)
  where
    step : (r : Ordering) → MatchOrdering r (byte < SLASH) (byte ≡ SLASH) (SLASH < byte)
        → ordering_then r (slice_cmp nat_cmp (id ++ SLASH ∷ x) y)
        ≡ ordering_then (ordering_then r (slice_cmp nat_cmp (id ++ SLASH ∷ []) [])) (slice_cmp nat_cmp x y)
    step Less h = refl
    step Equal h = absurd (whole_first byte id p h)
    step Greater h = refl
slice_cmp-elements (byte ∷ id) (byte' ∷ other) x y p q =
    ap (ordering_then (nat_cmp byte byte')) (slice_cmp-elements id other x y (whole_rest byte id p) (whole_rest byte' other q))
    ∙ sym (ordering_then-assoc (nat_cmp byte byte') (element_cmp id other) (slice_cmp nat_cmp x y))

-- the bytes of paths of as many names
slice_cmp-paths : (ids others : List (List ℕ)) (name other : List ℕ) → AreWhole ids → AreWhole others → length ids ≡ length others
    → slice_cmp nat_cmp (path_text ids name) (path_text others other) ≡ ordering_then (slice_cmp element_cmp ids others) (slice_cmp nat_cmp name other)
slice_cmp-paths [] [] name other p q same = refl
slice_cmp-paths [] (id ∷ others) name other p q same = absurd (omega (arith, same))
slice_cmp-paths (id ∷ ids) [] name other p q same = absurd (omega (arith, same))
slice_cmp-paths (id ∷ ids) (id' ∷ others) name other p q same =
    let fewer : length ids ≡ length others = omega (arith, same) in
    slice_cmp-elements id id' (path_text ids name) (path_text others other) p.0 q.0
    ∙ ap (ordering_then (element_cmp id id')) (slice_cmp-paths ids others name other p.1 q.1 fewer)
    ∙ sym (ordering_then-assoc (element_cmp id id') (slice_cmp element_cmp ids others) (slice_cmp nat_cmp name other))

-- the kind of a path is that of its last name
pub name_kind-path_text : (ids : List (List ℕ)) (name : List ℕ) → name ≢ [] → name_kind (path_text ids name) ≡ name_kind name
name_kind-path_text [] name some = refl
name_kind-path_text (id ∷ ids) name some =
    name_kind-behind id (path_text ids name) (path_text_some ids name some) ∙ name_kind-path_text ids name some

-- a path has a slash for each element
pub slashes_in-path_text : (ids : List (List ℕ)) (name : List ℕ) → AreWhole ids → slashes_in name ≡ 0 → slashes_in (path_text ids name) ≡ length ids
slashes_in-path_text [] name p whole = whole
slashes_in-path_text (id ∷ ids) name p whole =
    omega (arith, slashes_in-behind id (path_text ids name), slashes_in-path_text ids name p.1 whole, p.0)

-- the bytes of a path
pub length-path_text : (ids : List (List ℕ)) (name : List ℕ) → length (path_text ids name) ≡ path_length ids + length name
length-path_text [] name = omega arith
length-path_text (id ∷ ids) name = omega (arith, length-behind id (path_text ids name), length-path_text ids name)

-- numbers that are equal to others compare as they do
pub nat_cmp-same : (x y p q : ℕ) → x ≡ p → y ≡ q → nat_cmp x y ≡ nat_cmp p q
nat_cmp-same x y p q e f = rw (e, f) refl

pub paths_compare_by_parts : PathsCompareByParts
paths_compare_by_parts ids name others other whole last whole' last' =
    let a = path_text ids name in
    let b = path_text others other in
    let kinds : nat_cmp (kind_rank (name_kind a)) (kind_rank (name_kind b)) ≡ nat_cmp (kind_rank (name_kind name)) (kind_rank (name_kind other)) =
    nat_cmp-same _ _ _ _ (ap kind_rank (name_kind-path_text ids name last.some)) (ap kind_rank (name_kind-path_text others other last'.some)) in
    let slashes = nat_cmp-same _ _ _ _ (slashes_in-path_text ids name whole last.whole) (slashes_in-path_text others other whole' last'.whole) in
    let lengths = nat_cmp-same _ _ _ _ (length-path_text ids name) (length-path_text others other) in
    let behind = λ (bytes : Ordering). ordering_then (nat_cmp (path_length ids + length name) (path_length others + length other)) bytes in
    let bytes = then_equal (length ids) (length others) (behind (slice_cmp nat_cmp a b)) _
    (λ same. ap behind (slice_cmp-paths ids others name other whole whole' same)) in
    (λ i. ordering_then (kinds i) (ordering_then (slashes i) (ordering_then (lengths i) (slice_cmp nat_cmp a b))))
    ∙ ap (ordering_then (nat_cmp (kind_rank (name_kind name)) (kind_rank (name_kind other)))) bytes
