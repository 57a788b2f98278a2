-- One more thing of a list: a step of a call, an image, a fact of each.
use Rattle.cif_expansion.proofs.Common.{◌≡◌, ℕ, ◌+◌, ◌<◌, List, [], ◌∷◌, ◌++◌, length, map, take, get_or, sym, ◌∙◌, ap, subst, All, take_more}
use Rattle.cif_expansion.proofs.Common.{Transform, composed, identity, CifMove, moved}
use Rattle.std.proofs.lemmas.List.{append_assoc, map_more}
use Rattle.std.proofs.lemmas.List.Elements.{All-push}
use Rattle.std.proofs.lemmas.List.Sums.{fold_more}
use Rattle.cif_model.specs.Meanings.{transform_of}

-- the steps up to a place, and the one there
pub moved_more : (steps : List CifMove) (i : ℕ) (d : CifMove) (placed step result : Transform) → i < length steps → placed ≡ moved (take i steps)
    → step ≡ transform_of (get_or steps i d) → result ≡ composed placed step → result ≡ moved (take (i + 1) steps)
moved_more steps i d placed step result below before here both =
    both ∙ ap (λ (t : Transform). composed t step) before ∙ ap (composed (moved (take i steps))) here
    ∙ sym (fold_more (λ placed move. composed placed (transform_of move)) identity steps i d below)

-- the images of the things up to a place, and of the one there
pub images_more : {X Y : Type 0} (f : X → Y) (xs : List X) (i : ℕ) (x : X) (old now new : List Y) (y : Y) → i < length xs → x ≡ get_or xs i x
    → now ≡ old ++ map f (take i xs) → new ≡ now ++ y ∷ [] → f x ≡ y → new ≡ old ++ map f (take (i + 1) xs)
images_more {X} {Y} f xs i x old now new y below here before push image =
    push ∙ ap (λ (zs : List Y). zs ++ y ∷ []) before ∙ append_assoc old (map f (take i xs)) (y ∷ [])
    ∙ ap (λ (z : Y). old ++ (map f (take i xs) ++ z ∷ [])) (sym image ∙ ap f here)
    ∙ ap (λ (zs : List Y). old ++ zs) (sym (map_more f xs i x below))

-- what holds of the things up to a place, and of the one there
pub all_more : {X : Type 0} (P : X → Type 0) (xs : List X) (i : ℕ) (x : X) → i < length xs → x ≡ get_or xs i x → All P (take i xs) → P x
    → All P (take (i + 1) xs)
all_more {X} P xs i x below here before is =
    subst (All P) (sym (take_more xs i x below)) (All-push P (take i xs) (get_or xs i x) before (subst P here is))
