-- Places of things that are searched in a list.
use Rattle.cif_reading.proofs.Common.{◌≡◌, ℕ, ℤ, Bool, true, false, List, [], ◌∷◌, ◌++◌, length, map, sym, ap, ◌∙◌, if◌then◌else◌, arith, Some, None}
use Rattle.cif_reading.proofs.Common.{list_any, position, int_eq, bytes_eq, CifSymbol, with_layer}
use Rattle.std.proofs.Common.{◌<◌, ◌≤◌, ◌+◌, suc, not, ◌||◌, refl, cond}
use Rattle.std.specs.Prelude.{Option, IfSome, nat_lt}
use Rattle.std.specs.List.{position_or_len}
use Rattle.std.proofs.lemmas.Bool.Decides.{nat_tests}
use Rattle.std.proofs.lemmas.List.{length_push, map-append}
use Rattle.std.proofs.lemmas.List.Sums.{prefix_len-le-length}
use Rattle.cif_reading.specs.Drafts.{has_number, has_symbol, layer_place, symbol_place}

one_more : (test any : Bool) (k n : ℕ) → any ≡ nat_lt k n → (test || any) ≡ nat_lt (cond (not test) (1 + k) 0) (suc n)
one_more true any k n e = grind (arith, nat_tests)
one_more false any k n e = grind (arith, nat_tests)

-- a list has some that passes where the place of the first is within it
pub list_any-place : {X : Type 0} (test : X → Bool) (xs : List X) → list_any test xs ≡ nat_lt (position_or_len test xs) (length xs)
list_any-place test [] = refl
list_any-place test (x ∷ xs) = one_more (test x) (list_any test xs) (position_or_len test xs) (length xs) (list_any-place test xs)

-- the place that a search gave, and that it gave none
pub position-found : {X : Type 0} (test : X → Bool) (xs : List X) (k : ℕ) → position test xs ≡ Some k
    → (list_any test xs ≡ true) × (k ≡ position_or_len test xs)
position-found test xs k e = step (nat_lt (position_or_len test xs) (length xs)) (list_any-place test xs) e
  where
    step : (within : Bool) → list_any test xs ≡ within → cond within (Some (position_or_len test xs)) None ≡ Some k
        → (list_any test xs ≡ true) × (k ≡ position_or_len test xs)
    step true is found = (is, cc)
    step false is found = absurd (cc)

pub position-absent : {X : Type 0} (test : X → Bool) (xs : List X) → position test xs ≡ None
    → (list_any test xs ≡ false) × (length xs ≡ position_or_len test xs)
position-absent test xs e = step (nat_lt (position_or_len test xs) (length xs)) refl (list_any-place test xs) e
  where
    step : (within : Bool) → nat_lt (position_or_len test xs) (length xs) ≡ within → list_any test xs ≡ within
        → cond within (Some (position_or_len test xs)) None ≡ None → (list_any test xs ≡ false) × (length xs ≡ position_or_len test xs)
    step true past is found = absurd (cc)
    step false past is found =
        let most = prefix_len-le-length (λ x. not (test x)) xs in
        (is, grind (arith, nat_tests))

-- ---- symbols by their numbers

abbrev pub numbers_of : List CifSymbol → List ℤ
numbers_of symbols = map (λ symbol. symbol.number) symbols

-- a symbol of this number is defined where the number is among theirs
pub among_numbers : (n : ℤ) (symbols : List CifSymbol) → list_any (int_eq n) (numbers_of symbols) ≡ has_symbol n symbols
unfolding has_symbol
among_numbers n [] = refl
among_numbers n (symbol ∷ symbols) = ap (λ (t : Bool). int_eq n symbol.number || t) (among_numbers n symbols)

-- and its place is the number's
pub place_of_number : (n : ℤ) (symbols : List CifSymbol) → position_or_len (int_eq n) (numbers_of symbols) ≡ symbol_place n symbols
place_of_number n [] = refl
place_of_number n (symbol ∷ symbols) = ap (λ (k : ℕ). cond (not (int_eq n symbol.number)) (1 + k) 0) (place_of_number n symbols)

-- the place of a symbol of this number
pub symbol_place-within : (n : ℤ) (symbols : List CifSymbol) → has_symbol n symbols ≡ true → symbol_place n symbols < length symbols
unfolding has_symbol
symbol_place-within n symbols e = let is = list_any-place (has_number n) symbols in grind (arith, nat_tests)

-- the numbers once a symbol with a new one is added
pub numbers-push : (n : ℤ) (keys : List ℤ) (symbols : List CifSymbol) (symbol : CifSymbol) → keys ≡ numbers_of symbols
    → has_symbol n symbols ≡ false → symbol.number ≡ n
    → (if list_any (int_eq n) keys then keys else keys ++ n ∷ []) ≡ numbers_of (symbols ++ symbol ∷ [])
numbers-push n keys symbols symbol are new is =
    ap (λ (test : Bool). if test then keys else keys ++ n ∷ []) (ap (list_any (int_eq n)) are ∙ (among_numbers n symbols ∙ new))
    ∙ (ap (λ (front : List ℤ). front ++ n ∷ []) are
    ∙ (ap (λ (number : ℤ). numbers_of symbols ++ number ∷ []) (sym is)
    ∙ sym (map-append (λ (other : CifSymbol). other.number) symbols (symbol ∷ []))))

-- what a search among the numbers found
pub symbol-found : (found : Option ℕ) (n : ℤ) (keys : List ℤ) (symbols : List CifSymbol) → found ≡ position (int_eq n) keys
    → keys ≡ numbers_of symbols
    → IfSome found (λ place. place ≡ symbol_place n symbols)
symbol-found None n keys symbols is are = tt
symbol-found (Some place) n keys symbols is are =
    (position-found (int_eq n) keys place (sym is)).1 ∙ (ap (position_or_len (int_eq n)) are ∙ place_of_number n symbols)

-- ---- layers by their names

-- the layers with one that is new, and with one that is there
pub with_layer-new : (name : List ℕ) (layers : List (List ℕ)) → list_any (bytes_eq name) layers ≡ false → with_layer name layers ≡ layers ++ name ∷ []
with_layer-new name layers e = ap (λ (test : Bool). if test then layers else layers ++ name ∷ []) e

pub with_layer-there : (name : List ℕ) (layers : List (List ℕ)) → list_any (bytes_eq name) layers ≡ true → layers ≡ with_layer name layers
with_layer-there name layers e = sym (ap (λ (test : Bool). if test then layers else layers ++ name ∷ []) e)

-- the index once a new layer is added
pub names-push : (name : List ℕ) (names layers : List (List ℕ)) → names ≡ layers → list_any (bytes_eq name) layers ≡ false
    → with_layer name names ≡ layers ++ name ∷ []
names-push name names layers are new = ap (with_layer name) are ∙ with_layer-new name layers new

-- the place of a layer is within the layers once it is among them
pub layer_place-within : (name : List ℕ) (layers : List (List ℕ)) → layer_place name layers < length (with_layer name layers)
layer_place-within name layers = step (list_any (bytes_eq name) layers) (list_any-place (bytes_eq name) layers)
  where
    step : (test : Bool) → test ≡ nat_lt (layer_place name layers) (length layers)
        → layer_place name layers < length (if test then layers else layers ++ name ∷ [])
    step true is = grind (arith, nat_tests)
    step false is =
        let most : layer_place name layers ≤ length layers = prefix_len-le-length (λ (layer : List ℕ). not (bytes_eq name layer)) layers in
        let more = length_push layers name in
        omega arith

pub layers-more : (name : List ℕ) (layers : List (List ℕ)) → length layers ≤ length (with_layer name layers)
layers-more name layers = step (list_any (bytes_eq name) layers)
  where
    step : (test : Bool) → length layers ≤ length (if test then layers else layers ++ name ∷ [])
    step true = omega arith
    step false = let more = length_push layers name in omega arith
