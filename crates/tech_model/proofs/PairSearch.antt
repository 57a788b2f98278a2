-- Searches over pairs: the pairs of the first thing, and then those of the rest.
use Rattle.tech_model.proofs.Common.{◌≡◌, ◌+◌, ◌<◌, ℕ, zero, suc, Bool, true, false, cond, Option, List, [], ◌∷◌, ◌++◌, length, map, filter, get_or}
use Rattle.tech_model.proofs.Common.{drop, refl, sym, ap, ◌∙◌, arith, inl, inr, Some, None, find, range_with_len, flat_map, option_map, option_or}
use Rattle.tech_model.proofs.Common.{cases_Bool, In, pairs_of}
use Rattle.std.proofs.Common.{add-one, drop-cons, append_assoc}
use Rattle.std.proofs.lemmas.List.Elements.{filter-append}
use Rattle.std.proofs.lemmas.List.Folds.{find-append}
use Rattle.geo_core.proofs.FiniteSets.Searches.{find-map}

-- the pairs of the first thing come first
pub find-pairs_of : {X Y : Type 0} (p : X × Y → Bool) (x : X) (xs : List X) (ys : List Y)
    → find p (pairs_of (x ∷ xs) ys) ≡ option_or (option_map (λ y. (x, y)) (find (λ y. p (x, y)) ys)) (find p (pairs_of xs ys))
find-pairs_of {X} {Y} p x xs ys =
    find-append p (map (λ y. (x, y)) ys) (pairs_of xs ys)
    ∙ ap (λ (o : Option (X × Y)). option_or o (find p (pairs_of xs ys))) (find-map (λ y. (x, y)) p ys)

-- nothing is found with the first thing: the search goes on with the rest
pub pairs_rest : {X Y : Type 0} (p : X × Y → Bool) (zs : List X) (x : X) (xs : List X) (ys : List Y) → zs ≡ x ∷ xs → find (λ y. p (x, y)) ys ≡ None
    → find p (pairs_of zs ys) ≡ find p (pairs_of xs ys)
pairs_rest {X} {Y} p zs x xs ys split none =
    ap (λ (l : List X). find p (pairs_of l ys)) split ∙ find-pairs_of p x xs ys
    ∙ ap (λ (o : Option Y). option_or (option_map (λ y. (x, y)) o) (find p (pairs_of xs ys))) none

-- something is found with the first thing
pub pairs_here : {X Y : Type 0} (p : X × Y → Bool) (zs : List X) (x : X) (xs : List X) (ys : List Y) (y : Y) → zs ≡ x ∷ xs → find (λ y. p (x, y)) ys ≡ Some y
    → find p (pairs_of zs ys) ≡ Some (x, y)
pairs_here {X} {Y} p zs x xs ys y split some =
    ap (λ (l : List X). find p (pairs_of l ys)) split ∙ find-pairs_of p x xs ys
    ∙ ap (λ (o : Option Y). option_or (option_map (λ y. (x, y)) o) (find p (pairs_of xs ys))) some

-- the same of things that each have a list of others
pub each_rest : {Z X Y : Type 0} (p : X × Y → Bool) (key : Z → X) (others : Z → List Y) (zs : List Z) (z : Z) (rest : List Z)
    → zs ≡ z ∷ rest → find (λ y. p (key z, y)) (others z) ≡ None
    → find p (flat_map (λ z. map (λ y. (key z, y)) (others z)) zs) ≡ find p (flat_map (λ z. map (λ y. (key z, y)) (others z)) rest)
each_rest {Z} {X} {Y} p key others zs z rest split none =
    let pairs : Z → List (X × Y) = λ z. map (λ y. (key z, y)) (others z) in
    ap (λ l. find p (flat_map pairs l)) split ∙ find-append p (pairs z) (flat_map pairs rest)
    ∙ ap (λ (o : Option (X × Y)). option_or o (find p (flat_map pairs rest))) (find-map (λ y. (key z, y)) p (others z) ∙ ap (option_map (λ y. (key z, y))) none)

-- what is found among the pairs of the first thing is what is found among all pairs
pub each_here : {Z X Y : Type 0} (p : X × Y → Bool) (key : Z → X) (others : Z → List Y) (zs : List Z) (z : Z) (rest : List Z) (y : Y)
    → zs ≡ z ∷ rest → find (λ y. p (key z, y)) (others z) ≡ Some y
    → find p (flat_map (λ z. map (λ y. (key z, y)) (others z)) zs) ≡ Some (key z, y)
each_here {Z} {X} {Y} p key others zs z rest y split some =
    let pairs : Z → List (X × Y) = λ z. map (λ y. (key z, y)) (others z) in
    ap (λ l. find p (flat_map pairs l)) split ∙ find-append p (pairs z) (flat_map pairs rest)
    ∙ ap (λ (o : Option (X × Y)). option_or o (find p (flat_map pairs rest))) (find-map (λ y. (key z, y)) p (others z) ∙ ap (option_map (λ y. (key z, y))) some)

-- a filter after a thing that passes, and after one that does not
pub filter_here : {X : Type 0} (p : X → Bool) (front zs : List X) (x : X) (xs : List X) → zs ≡ x ∷ xs → p x ≡ true
    → front ++ filter p zs ≡ (front ++ x ∷ []) ++ filter p xs
filter_here p front zs x xs split passes =
    ap (λ l. front ++ filter p l) split
    ∙ ap (λ (b : Bool). front ++ cond b (x ∷ filter p xs) (filter p xs)) passes
    ∙ sym (append_assoc front (x ∷ []) (filter p xs))

-- a thing that fails adds nothing
pub filter_rest : {X : Type 0} (p : X → Bool) (front zs : List X) (x : X) (xs : List X) → zs ≡ x ∷ xs → p x ≡ false
    → front ++ filter p zs ≡ front ++ filter p xs
filter_rest p front zs x xs split fails =
    ap (λ l. front ++ filter p l) split
    ∙ ap (λ (b : Bool). front ++ cond b (x ∷ filter p xs) (filter p xs)) fails

-- a filter of pairs, after those of the first thing
pub filter_pairs : {X Y : Type 0} (p : X × Y → Bool) (front : List (X × Y)) (zs : List X) (x : X) (xs : List X) (ys : List Y) → zs ≡ x ∷ xs
    → front ++ filter p (pairs_of zs ys) ≡ (front ++ filter p (map (λ y. (x, y)) ys)) ++ filter p (pairs_of xs ys)
filter_pairs {X} {Y} p front zs x xs ys split =
    ap (λ (l : List X). front ++ filter p (pairs_of l ys)) split
    ∙ ap (λ (l : List (X × Y)). front ++ l) (filter-append p (map (λ y. (x, y)) ys) (pairs_of xs ys))
    ∙ sym (append_assoc front (filter p (map (λ y. (x, y)) ys)) (filter p (pairs_of xs ys)))
