-- The book, as it is extended.
use Rattle.cell_tree.proofs.Common.{Size, size_at, no_size, ◌≡◌, ℕ, ◌+◌, ◌-◌, ◌<◌, ◌≤◌, List, [], ◌∷◌, ◌++◌, length, take, replicate, sym, ap, ◌∙◌}
use Rattle.cell_tree.proofs.Common.{arith, length-append, get_or_append_left, ext_get_or}
use Rattle.std.proofs.lemmas.List.{append_assoc, replicate_more, length-take-le, get_or-take}

-- one more of the same
pub filled_more : {X : Type 0} (first now new : List X) (value : X) → now ≡ first ++ replicate (length now - length first) value → new ≡ now ++ value ∷ []
    → now ++ value ∷ [] ≡ first ++ replicate (length new - length first) value
filled_more {X} first now new value filled pushed =
    let n : ℕ = length now - length first in
    let longer : length first ≤ length now = omega (arith, ap length filled, length-append first (replicate n value)) in
    let count : length now - length first + 1 ≡ length new - length first = omega (arith, longer, ap length pushed, length-append now (value ∷ [])) in
    ap (λ (xs : List X). xs ++ value ∷ []) filled ∙ append_assoc first (replicate (length now - length first) value) (value ∷ [])
    ∙ ap (λ (xs : List X). first ++ xs) (replicate_more (length now - length first) value ∙ ap (λ m. replicate m value) count)

-- the sizes that were there stay as the list is filled
pub filled_old : (sizes next filled now : List Size) (n first : ℕ) (value : Size) → now ≡ filled → filled ≡ next ++ replicate n value → next ≡ sizes
    → length sizes ≡ first
    → (key : ℕ) → key < first → size_at now key ≡ size_at sizes key
filled_old sizes next filled now n first value are is same count key low =
    ap (λ (s : List Size). size_at s key) (are ∙ is ∙ ap (λ (s : List Size). s ++ replicate n value) same)
    ∙ get_or_append_left sizes (replicate n value) no_size key (omega (arith, low, count))

-- and are what is left where the others are taken away
pub taken_back : (sizes now : List Size) (first : ℕ) → length sizes ≡ first → first ≤ length now
    → ((key : ℕ) → key < first → size_at now key ≡ size_at sizes key) → take first now ≡ sizes
taken_back sizes now first count long same =
    ext_get_or no_size (take first now) sizes (length-take-le first now long ∙ sym count)
    (λ key low. let early : key < first = omega (arith, low, length-take-le first now long) in get_or-take first now key no_size early ∙ same key early)
