-- What is found of the things of a list.
use Rattle.drc_check.proofs.Common.{◌≡◌, ◌⊎◌, ◌+◌, ◌<◌, inl, inr, ℕ, List, [], ◌∷◌, ◌++◌, length, take, get_or, refl, sym, ap, ◌∙◌, Option, Some}
use Rattle.drc_check.proofs.Common.{None, filter_map, append_assoc, take_more, In}
use Rattle.std.specs.List.{cons_option}
use Rattle.std.specs.Option.{option_to_list}
use Rattle.std.proofs.lemmas.List.Elements.{filter_map-append}

option_source : {Y : Type 0} (found : Option Y) (ys : List Y) (y : Y) → In y (cons_option found ys) → (found ≡ Some y) ⊎ In y ys
option_source None ys y among = inr among
option_source (Some z) ys y (inl same) = inl (ap Some same)
option_source (Some z) ys y (inr later) = inr later

option_first : {Y : Type 0} (found : Option Y) (ys : List Y) (y : Y) → found ≡ Some y → In y (cons_option found ys)
option_first None ys y is = absurd (cc)
option_first (Some z) ys y is = inl cc

option_later : {Y : Type 0} (found : Option Y) (ys : List Y) (y : Y) → In y ys → In y (cons_option found ys)
option_later None ys y among = among
option_later (Some z) ys y among = inr among

-- what is found of a list comes from something in it
pub filter_map_source : {X Y : Type 0} (f : X → Option Y) (xs : List X) (y : Y) → In y (filter_map f xs) → (x : X) × (In x xs × (f x ≡ Some y))
filter_map_source f [] y among = absurd among
filter_map_source f (x ∷ xs) y among = elim (option_source (f x) (filter_map f xs) y among) [
  | inl here ↦ (x, (inl refl, here))
  | inr later ↦ let from = filter_map_source f xs y later in (from.0, (inr from.1.0, from.1.1))
]

-- and what comes of something in the list is found
pub filter_map_kept : {X Y : Type 0} (f : X → Option Y) (xs : List X) (x : X) (y : Y) → In x xs → f x ≡ Some y → In y (filter_map f xs)
filter_map_kept f [] x y among is = absurd among
filter_map_kept f (z ∷ xs) x y (inl same) is = option_first (f z) (filter_map f xs) y (ap f same ∙ is)
filter_map_kept f (z ∷ xs) x y (inr later) is = option_later (f z) (filter_map f xs) y (filter_map_kept f xs x y later is)

option_list : {Y : Type 0} (found : Option Y) → cons_option found [] ≡ option_to_list found
option_list None = refl
option_list (Some y) = refl

-- what is found of the first things of a list and the next
pub filter_map-next : {X Y : Type 0} (f : X → Option Y) (xs : List X) (i : ℕ) (x : X) (old before after : List Y) (found : Option Y) → i < length xs
    → x ≡ get_or xs i x → before ≡ old ++ filter_map f (take i xs) → f x ≡ found → after ≡ before ++ option_to_list found
    → after ≡ old ++ filter_map f (take (i + 1) xs)
filter_map-next {X} {Y} f xs i x old before after found below is so_far here added =
    let next : take (i + 1) xs ≡ take i xs ++ x ∷ [] = take_more xs i x below ∙ ap (λ (y : X). take i xs ++ y ∷ []) (sym is) in
    let last : filter_map f (x ∷ []) ≡ option_to_list found = ap (λ (o : Option Y). cons_option o []) here ∙ option_list found in
    added
    ∙ ap (λ (l : List Y). l ++ option_to_list found) so_far
    ∙ append_assoc old (filter_map f (take i xs)) (option_to_list found)
    ∙ ap (λ (l : List Y). old ++ l) (ap (λ (l : List Y). filter_map f (take i xs) ++ l) (sym last)
    ∙ sym (filter_map-append f (take i xs) (x ∷ [])) ∙ ap (filter_map f) (sym next))
