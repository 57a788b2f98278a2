-- Switches that are added one after another.
use Rattle.sim_records.proofs.Common.{◌≡◌, ◌<◌, ℕ, List, [], ◌∷◌, ◌++◌, length, map, take, sym, ◌∙◌, ap, arith, length-append, flat_map, FetRec}
use Rattle.sim_records.proofs.Common.{MOST_SWITCHES, switches_of}
use Rattle.std.proofs.Common.{◌+◌, suc, get_or}
use Rattle.std.proofs.Math.Seq.{take-suc}
use Rattle.std.proofs.lemmas.List.{append_assoc, map_more, flat_map_more}
use Rattle.std.proofs.lemmas.List.Folds.{length-flat_map-take}

-- ---- one more item

-- what is added behind some of a list's images is added behind all that come before
pub add_image : {X Y : Type 0} (f : X → Y) (old : List Y) (xs : List X) (k : ℕ) (x : X) → k < length xs → x ≡ get_or xs k x
    → (old ++ map f (take k xs)) ++ f x ∷ [] ≡ old ++ map f (take (k + 1) xs)
add_image f old xs k x h is =
    append_assoc old (map f (take k xs)) (f x ∷ [])
    ∙ ap (λ y. old ++ (map f (take k xs) ++ f y ∷ [])) is
    ∙ ap (λ ys. old ++ ys) (sym (map_more f xs k x h))

pub add_images : {X Y : Type 0} (f : X → List Y) (xs : List X) (k : ℕ) (x : X) → k < length xs → x ≡ get_or xs k x
    → flat_map f (take k xs) ++ f x ≡ flat_map f (take (k + 1) xs)
add_images f xs k x h is =
    let next : k + 1 ≡ suc k = omega arith in
    flat_map_more f [] (take k xs) x
    ∙ ap (λ y. flat_map f (take k xs ++ y ∷ [])) is
    ∙ ap (flat_map f) (sym (take-suc xs k x h))
    ∙ ap (λ n. flat_map f (take n xs)) (sym next)

-- ---- how many there are

-- ---- the terminals left

-- too many with those of one more transistor are too many with all
pub too_many_switches : (fets : List FetRec) (k : ℕ) (fet : FetRec) → k < length fets → fet ≡ get_or fets k fet
    → MOST_SWITCHES < length (flat_map switches_of (take k fets) ++ switches_of fet) → MOST_SWITCHES < length (flat_map switches_of fets)
too_many_switches fets k fet h is many =
    let part = length-flat_map-take switches_of fets k fet h in
    let a = length-append (flat_map switches_of (take k fets)) (switches_of fet) in
    let b = ap (λ f. length (switches_of f)) is in
    omega (arith, part, a, b, many)
