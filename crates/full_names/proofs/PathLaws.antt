-- Paths written from the root on.
use Rattle.full_names.proofs.Common.{◌≡◌, ℕ, cond, List, [], ◌∷◌, ◌++◌, Result, Ok, Err, refl, sym, ◌∙◌, ap, append_assoc, SLASH, CellExt, path_text}
use Rattle.full_names.proofs.Common.{ids_of, ElementTree, path_front}
use Rattle.std.specs.Result.{OnOk, is_ok}
use Rattle.full_names.specs.steps.Paths.{LeadsFrom, EndsInPath}

-- one more name behind those of a path
pub path_front_push : (ids : List (List ℕ)) (id : List ℕ) → path_front (ids ++ id ∷ []) ≡ path_front ids ++ (id ++ SLASH ∷ [])
path_front_push [] id = refl
path_front_push (first ∷ ids) id =
    ap (λ (rest : List ℕ). first ++ SLASH ∷ rest) (path_front_push ids id) ∙ sym (append_assoc first (SLASH ∷ path_front ids) (id ++ SLASH ∷ []))

-- a path is what leads to its last name, and that
pub path_text-front : (ids : List (List ℕ)) (name : List ℕ) → path_text ids name ≡ path_front ids ++ name
path_text-front [] name = refl
path_text-front (id ∷ ids) name =
    ap (λ (rest : List ℕ). id ++ SLASH ∷ rest) (path_text-front ids name) ∙ sym (append_assoc id (SLASH ∷ path_front ids) name)

-- what follows where a text was put behind another
pub on_appended : {T E P : Type 0} (r : Result T E) (old text now : List ℕ) → now ≡ cond (is_ok r) (old ++ text) old → (now ≡ old ++ text → P) → OnOk r P
on_appended (Ok x) old text now is follows = follows is
on_appended (Err e) old text now is follows = tt

-- behind the path of the element that another stands in, its name and a slash are written
pub written_below : (exts : List CellExt) (tree : ElementTree) (parent : ℕ) (id : List ℕ) (number : ℕ) (old above named now : List ℕ)
    → LeadsFrom exts tree parent id number → EndsInPath exts tree parent old above → named ≡ above ++ id → now ≡ named ++ SLASH ∷ []
    → EndsInPath exts tree number old now
written_below exts tree parent id number old above named now leads written is_named is_now elements is element at =
    let has = leads.leads elements is element at in
    let front = path_front (ids_of has.above) in
    is_now ∙ ap (λ (t : List ℕ). t ++ SLASH ∷ []) (is_named ∙ ap (λ (t : List ℕ). t ++ id) (written elements is has.above has.stands))
    ∙ append_assoc (old ++ front) id (SLASH ∷ []) ∙ append_assoc old front (id ++ SLASH ∷ [])
    ∙ ap (λ (t : List ℕ). old ++ t) (sym (path_front_push (ids_of has.above) id))
    ∙ ap (λ (ids : List (List ℕ)). old ++ path_front ids) (sym has.ids)
