-- A record without uses is the only element of its tree.
use Rattle.own_record_laws.proofs.Common.{◌≡◌, ℕ, List, [], ◌∷◌, inl, inr, ap, Some, flat_map, bytes_eq, find-In, UseRec, CellExt, Element}
use Rattle.full_names.specs.CircuitModel.Elements.{ext_of, of_option, elements_below, elements_of}

-- the root of a tree with this record
abbrev pub root_of : CellExt → Element
root_of ext = record { uses = []; ext = ext }

-- the record that is found of one is that one
pub only_record : (ext top : CellExt) (name : List ℕ) → ext_of (ext ∷ []) name ≡ Some top → ext ≡ top
only_record ext top name found = elim (find-In (λ (e : CellExt). bytes_eq e.cell name) (ext ∷ []) top found) [
  | inl same ↦ same
  | inr more ↦ absurd more
]

-- there is no element below a root without uses
pub only_element : (exts : List CellExt) (ext : CellExt) → ext.uses ≡ [] → elements_of exts ext ≡ root_of ext ∷ []
unfolding elements_below
only_element exts ext none =
    ap (λ (uses : List UseRec). root_of ext
    ∷ flat_map (λ (used : UseRec). of_option (elements_below 63 exts (used ∷ [])) (ext_of exts used.cell)) uses) none
