-- What stands at a place of a list, as `slice_get` tells it.
use Rattle.full_names.proofs.Common.{◌+◌, ◌<◌, Bool, List, [], ◌∷◌, map, length, get_or, sym, ◌∙◌, ap, arith, get_or-map, length-map, OwnName}
use Rattle.full_names.proofs.Common.{GlobalName}
use Rattle.std.specs.List.Sorted.{IsSortedBy}

-- a list whose images are in order
pub sorted_map : {X Y : Type 0} (f : X → Y) (less : Y → Y → Bool) (xs : List X) → IsSortedBy (λ a b. less (f a) (f b)) xs → IsSortedBy less (map f xs)
sorted_map f less [] sorted k d low below = absurd (omega arith)
sorted_map f less (x ∷ xs) sorted k d low below =
    let inside : k + 1 < length (x ∷ xs) = omega (arith, length-map xs f, below) in
    let before : k < length (x ∷ xs) = omega (arith, inside) in
    ap (λ (a : _). less a (get_or (map f (x ∷ xs)) k d)) (get_or-map f (x ∷ xs) (k + 1) x d inside)
    ∙ ap (λ (b : _). less (f (get_or (x ∷ xs) (k + 1) x)) b) (get_or-map f (x ∷ xs) k x d before)
    ∙ sorted k x low inside

-- and back
pub sorted_unmap : {X Y : Type 0} (f : X → Y) (less : Y → Y → Bool) (xs : List X) → IsSortedBy less (map f xs) → IsSortedBy (λ a b. less (f a) (f b)) xs
sorted_unmap f less xs sorted k d low below =
    let inside : k + 1 < length (map f xs) = omega (arith, length-map xs f, below) in
    let before : k < length xs = omega (arith, below) in
    sym (ap (λ (a : _). less a (get_or (map f xs) k (f d))) (get_or-map f xs (k + 1) d (f d) below)
    ∙ ap (λ (b : _). less (f (get_or xs (k + 1) d)) b) (get_or-map f xs k d (f d) before))
    ∙ sorted k (f d) low inside

-- what a loop reads past the end of a list of names
abbrev pub no_own : OwnName
no_own = record { text = record { ref_ptr = (0, 0); now = [] }; node = 0 }

abbrev pub no_global : GlobalName
no_global = record { length = 0; text = record { ref_ptr = (0, 0); now = [] }; element = 0; node = 0 }
