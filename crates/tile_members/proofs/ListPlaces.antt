-- What stands at places of lists.
use Rattle.tile_members.proofs.Common.{◌≡◌, ◌<◌, ◌≤◌, ℕ, List, [], ◌∷◌, length, get_or, drop, take, ◌-◌, refl, sym, ap, subst, ◌∙◌, arith, All}
use Rattle.std.proofs.Math.Seq.{take-length}
use Rattle.std.proofs.lemmas.List.Elements.{All-tail}

-- what a list has behind its first
pub rest_of : {X : Type 0} (x : X) (xs : List X) → take (length (x ∷ xs) - 1) xs ≡ xs
rest_of x xs = ap (λ (n : ℕ). take n xs) (let e : length (x ∷ xs) - 1 ≡ length xs = omega arith in e) ∙ take-length xs

-- a list that has a first
pub first_split : {X : Type 0} (xs : List X) (x : X) → 1 ≤ length xs → x ≡ get_or xs 0 x → xs ≡ x ∷ take (length xs - 1) (drop 1 xs)
first_split [] x some is = absurd (omega arith)
first_split (y ∷ xs) x some is = λ i. sym is i ∷ sym (rest_of y xs) i

-- a list that has none
pub none_there : {X : Type 0} (xs : List X) → length xs < 1 → xs ≡ []
none_there [] none = refl
none_there (x ∷ xs) none = absurd (omega arith)

-- what holds of all holds of all behind the first
pub all_behind : {X : Type 0} (P : X → Type 0) (xs : List X) (x : X) (rest : List X) → xs ≡ x ∷ rest → All P xs → All P rest
all_behind P xs x rest same all = All-tail P x rest (subst (All P) same all)
