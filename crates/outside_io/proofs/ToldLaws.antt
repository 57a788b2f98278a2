-- ToldBytes bytes with others before or after them.
use Rattle.std.proofs.Common.{◌≡◌, ℕ, ◌+◌, ◌≤◌, List, ◌++◌, take, drop, refl, sym, ap, ◌∙◌, append_assoc, length, arith}
use Rattle.std.proofs.lemmas.List.{take-append-drop, take-take, drop-take}
use Rattle.std.proofs.lemmas.Grind.{common_steps}
use Rattle.std.specs.Prelude.{Some, None}
use Rattle.outside_io.specs.ToldBytes.{ToldBytes, with_back}

-- bytes behind bytes are bytes one after the other
pub with_back-with_back : (told : ToldBytes) (xs ys : List ℕ) → with_back (with_back told xs) ys ≡ with_back told (xs ++ ys)
with_back-with_back None xs ys = refl
with_back-with_back (Some before) xs ys = ap (λ (b : List ℕ). Some b) (append_assoc before xs ys)

-- the first bytes in two parts
pub take-in_parts : (m n : ℕ) (xs : List ℕ) → take (m + n) xs ≡ take m xs ++ take n (drop m xs)
take-in_parts m n xs =
    let front : take m (take (m + n) xs) ≡ take m xs = take-take m (m + n) xs (omega arith) in
    let back : drop m (take (m + n) xs) ≡ take n (drop m xs) = drop-take m n xs in
    let whole : take m (take (m + n) xs) ++ drop m (take (m + n) xs) ≡ take (m + n) xs = take-append-drop m (take (m + n) xs) in
    cc

-- one more call of a sink
pub with_back-more : (first told told' : ToldBytes) (bytes piece : List ℕ) (done count : ℕ)
    → piece ≡ drop done bytes
    → told ≡ with_back first (take done bytes) → told' ≡ with_back told (take count piece)
    → told' ≡ with_back first (take (done + count) bytes)
with_back-more first told told' bytes piece done count rest so_far more =
    more ∙ ap (λ (p : List ℕ). with_back told (take count p)) rest
    ∙ ap (λ (t : ToldBytes). with_back t (take count (drop done bytes))) so_far
    ∙ with_back-with_back first _ _ ∙ ap (with_back first) (sym (take-in_parts done count bytes))

-- what a source in memory hands out, and what is left then
pub handed_out : (bytes filled buf : List ℕ) (taken count : ℕ)
    → filled ≡ take count (drop taken bytes) → count ≤ length (drop taken bytes)
    → drop taken bytes ≡ take count (filled ++ drop count buf) ++ drop (taken + count) bytes
handed_out bytes filled buf taken count filled_is within =
    let whole : take count (drop taken bytes) ++ drop count (drop taken bytes) ≡ drop taken bytes = take-append-drop count (drop taken bytes) in
    let front : take count (filled ++ drop count buf) ≡ filled = grind (arith, common_steps) in
    let back : drop count (drop taken bytes) ≡ drop (taken + count) bytes = grind (arith, common_steps) in
    cc
