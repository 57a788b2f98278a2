-- What paths name.
use Rattle.ext_model.proofs.Common.{◌≡◌, ℕ, ◌<◌, ◌==◌, Bool, false, cond, List, [], ◌∷◌, ◌++◌, refl, sym, ◌∙◌, ap, arith, nat_tests, SLASH}
use Rattle.ext_model.proofs.Common.{slashes_in, path_text}
use Rattle.ext_model.specs.NodeNames.{is_global}
use Rattle.ext_model.specs.Paths.{last_name, full_name}
use Rattle.ext_model.specs.NameLaws.{PathsNameBelow}
use Rattle.ext_model.proofs.PathOrders.{slashes_in-slash, slashes_in-behind}

not_zero : (n : ℕ) → 0 < n → (n == 0) ≡ false
not_zero n some = grind (arith, nat_tests)

-- a name without a slash is its own last name
pub last_name-whole : (name : List ℕ) → slashes_in name ≡ 0 → last_name name ≡ name
last_name-whole [] whole = refl
last_name-whole (byte ∷ name) whole = ap (λ (n : ℕ). cond (n == 0) (byte ∷ name) (last_name name)) whole

-- the last name of a path is that of what follows one of its slashes
pub last_name-behind : (id rest : List ℕ) → last_name (id ++ SLASH ∷ rest) ≡ last_name rest
last_name-behind [] rest =
    let some : 0 < slashes_in (SLASH ∷ rest) = omega (arith, slashes_in-slash rest) in
    ap (λ (none : Bool). cond none (SLASH ∷ rest) (last_name rest)) (not_zero (slashes_in (SLASH ∷ rest)) some)
last_name-behind (byte ∷ id) rest =
    let path = id ++ SLASH ∷ rest in
    let some : 0 < slashes_in (byte ∷ path) = omega (arith, slashes_in-behind (byte ∷ id) rest) in
    ap (λ (none : Bool). cond none (byte ∷ path) (last_name path)) (not_zero (slashes_in (byte ∷ path)) some)
    ∙ last_name-behind id rest

-- the last name of a path is the name that it leads to
pub last_name-path_text : (ids : List (List ℕ)) (name : List ℕ) → slashes_in name ≡ 0 → last_name (path_text ids name) ≡ name
last_name-path_text [] name whole = last_name-whole name whole
last_name-path_text (id ∷ ids) name whole = last_name-behind id (path_text ids name) ∙ last_name-path_text ids name whole

-- a path below a path
pub path_text-append : (ids more : List (List ℕ)) (name : List ℕ) → path_text ids (path_text more name) ≡ path_text (ids ++ more) name
path_text-append [] more name = refl
path_text-append (id ∷ ids) more name = ap (λ (rest : List ℕ). id ++ SLASH ∷ rest) (path_text-append ids more name)

-- the full name of a path by the name that it leads to
full_name-path_text : (ids more : List (List ℕ)) (name : List ℕ) → slashes_in name ≡ 0
    → full_name ids (path_text more name) ≡ cond (is_global name) name (path_text (ids ++ more) name)
full_name-path_text ids more name whole =
    ap (λ (last : List ℕ). cond (is_global last) last (path_text ids (path_text more name))) (last_name-path_text more name whole)
    ∙ ap (cond (is_global name) name) (path_text-append ids more name)

pub paths_name_below : PathsNameBelow
paths_name_below ids more name whole =
    full_name-path_text ids more name whole
    ∙ sym (ap (λ (last : List ℕ). cond (is_global last) last (path_text (ids ++ more) name)) (last_name-whole name whole))
