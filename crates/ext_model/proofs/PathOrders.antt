-- Names with the same elements' names before them stand in the order of the names alone.
use Rattle.ext_model.proofs.Common.{◌≡◌, ◌≢◌, ℕ, ◌+◌, ◌==◌, cond, List, [], ◌∷◌, ◌++◌, length, refl, ap, ◌∙◌, arith, length-append, sum_by-cons}
use Rattle.ext_model.proofs.Common.{tied_itself, nat_cmp_total, slice_cmp, nat_cmp, ordering_then, Ordering, SLASH, GLOBAL_MARK, GENERATED_MARK}
use Rattle.ext_model.proofs.Common.{slashes_in, ends_in, name_kind, kind_rank, name_cmp, path_text}
use Rattle.std.proofs.lemmas.List.Sums.{sum_by-append}
use Rattle.geo_core.proofs.FiniteSets.Orders.{nat_cmp-add}
use Rattle.ext_model.specs.NameLaws.{PathsKeepTheOrder}

-- the last byte of a path is that of what follows its first slash
pub ends_in-behind : (byte : ℕ) (id rest : List ℕ) → rest ≢ [] → ends_in byte (id ++ SLASH ∷ rest) ≡ ends_in byte rest
ends_in-behind byte [] [] some = absurd (some refl)
ends_in-behind byte [] (next ∷ rest) some = refl
ends_in-behind byte (first ∷ []) rest some = ends_in-behind byte [] rest some
ends_in-behind byte (first ∷ next ∷ id) rest some = ends_in-behind byte (next ∷ id) rest some

-- so its kind is that of what follows
pub name_kind-behind : (id rest : List ℕ) → rest ≢ [] → name_kind (id ++ SLASH ∷ rest) ≡ name_kind rest
name_kind-behind id rest some = rw (ends_in-behind GLOBAL_MARK id rest some, ends_in-behind GENERATED_MARK id rest some) refl

-- the slashes behind one more slash
pub slashes_in-slash : (rest : List ℕ) → slashes_in (SLASH ∷ rest) ≡ 1 + slashes_in rest
slashes_in-slash rest = sum_by-cons (λ (byte : ℕ). cond (byte == SLASH) 1 0) SLASH rest

-- the slashes of a path are those of its first name, the one behind it, and those of the rest
pub slashes_in-behind : (id rest : List ℕ) → slashes_in (id ++ SLASH ∷ rest) ≡ (slashes_in id + 1) + slashes_in rest
slashes_in-behind id rest =
    omega (arith, sum_by-append (λ (byte : ℕ). cond (byte == SLASH) 1 0) id (SLASH ∷ rest), slashes_in-slash rest)

-- the bytes of a path are those of its first name, the slash behind it, and those of the rest
pub length-behind : (id rest : List ℕ) → length (id ++ SLASH ∷ rest) ≡ (length id + 1) + length rest
length-behind id rest = omega (arith, length-append id (SLASH ∷ rest))

-- two numbers that are both so much more than two others
alike : (n x y p q : ℕ) → p ≡ n + x → q ≡ n + y → nat_cmp p q ≡ nat_cmp x y
alike n x y p q e f = rw (e, f) (nat_cmp-add n x y)

-- what two lists begin with alike does not tell them apart
slice_cmp-same_front : (front x y : List ℕ) → slice_cmp nat_cmp (front ++ x) (front ++ y) ≡ slice_cmp nat_cmp x y
slice_cmp-same_front [] x y = refl
slice_cmp-same_front (byte ∷ front) x y =
    ap (λ (r : Ordering). ordering_then r (slice_cmp nat_cmp (front ++ x) (front ++ y))) (tied_itself nat_cmp_total byte)
    ∙ slice_cmp-same_front front x y

-- one element's name before two names
name_cmp-behind : (id a b : List ℕ) → a ≢ [] → b ≢ [] → name_cmp (id ++ SLASH ∷ a) (id ++ SLASH ∷ b) ≡ name_cmp a b
name_cmp-behind id a b some_a some_b =
    let kinds : nat_cmp (kind_rank (name_kind (id ++ SLASH ∷ a))) (kind_rank (name_kind (id ++ SLASH ∷ b)))
    ≡ nat_cmp (kind_rank (name_kind a)) (kind_rank (name_kind b)) = rw (name_kind-behind id a some_a, name_kind-behind id b some_b) refl in
    let slashes : nat_cmp (slashes_in (id ++ SLASH ∷ a)) (slashes_in (id ++ SLASH ∷ b)) ≡ nat_cmp (slashes_in a) (slashes_in b) =
    alike _ _ _ _ _ (slashes_in-behind id a) (slashes_in-behind id b) in
    let lengths : nat_cmp (length (id ++ SLASH ∷ a)) (length (id ++ SLASH ∷ b)) ≡ nat_cmp (length a) (length b) =
    alike _ _ _ _ _ (length-behind id a) (length-behind id b) in
    let bytes = slice_cmp-same_front id (SLASH ∷ a) (SLASH ∷ b) ∙ slice_cmp-same_front (SLASH ∷ []) a b in
    λ i. ordering_then (kinds i) (ordering_then (slashes i) (ordering_then (lengths i) (bytes i)))

-- a path is not empty where its last name is not
pub path_text_some : (ids : List (List ℕ)) (name : List ℕ) → name ≢ [] → path_text ids name ≢ []
path_text_some [] name some = some
path_text_some ([] ∷ ids) name some = λ e. cc
path_text_some ((byte ∷ id) ∷ ids) name some = λ e. cc

pub paths_keep_the_order : PathsKeepTheOrder
paths_keep_the_order [] a b some_a some_b = refl
paths_keep_the_order (id ∷ ids) a b some_a some_b =
    name_cmp-behind id (path_text ids a) (path_text ids b) (path_text_some ids a some_a) (path_text_some ids b some_b)
    ∙ paths_keep_the_order ids a b some_a some_b
