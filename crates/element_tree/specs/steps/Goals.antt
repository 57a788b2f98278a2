-- The graph of records by numbers, as the walk takes it.
use Rattle.std.specs.Prelude.{◌≡◌, ◌<◌, ℕ, Option, Some, None, List, [], ◌∷◌, map, length, position, slice_get}
use Rattle.std.specs.Str.{bytes_eq}
use Rattle.ext_model.specs.declared.records.UseRec.{UseRec}
use Rattle.ext_model.specs.declared.records.CellExt.{CellExt}
use Rattle.circuit_model.specs.declared.faults.FlatFault.{FlatFault}
use Rattle.circuit_model.specs.declared.faults.FlatFault.TheVariants.{NoCell, Cycle, Memory}
use Rattle.element_tree.specs.declared.faults.UsePlace.{UsePlace}
use Rattle.element_tree.specs.declared.faults.WalkFault.{WalkFault}
use Rattle.element_tree.specs.declared.faults.WalkFault.TheVariants.{NoCell as NoCellAt, Cycle as CycleAt, Memory as NoMemory}

-- the cells of the records
abbrev pub cells_of : List CellExt → List (List ℕ)
cells_of exts = map (λ ext. ext.cell) exts

-- the number of the record that each use of one leads to
abbrev pub goals_in : List (List ℕ) → CellExt → List (Option ℕ)
goals_in cells ext = map (λ used. position (bytes_eq used.cell) cells) ext.uses

abbrev pub goal_graph : List (List ℕ) → List CellExt → List (List (Option ℕ))
goal_graph cells exts = map (goals_in cells) exts

-- those that there are
abbrev pub found_goals : List (Option ℕ) → List ℕ
found_goals [] = []
found_goals (None ∷ goals) = found_goals goals
found_goals (Some child ∷ goals) = child ∷ found_goals goals

-- The use stands there.
abbrev pub IsUseAt : List CellExt → UsePlace → Type 0
IsUseAt exts place = (ext : CellExt) × ((slice_get exts place.cell ≡ Some ext) × (place.at < length ext.uses))

-- A fault of a walk names a use.
abbrev pub IsUseOf : List CellExt → WalkFault → Type 0
IsUseOf exts (NoCellAt place) = IsUseAt exts place
IsUseOf exts (CycleAt place) = IsUseAt exts place
IsUseOf exts NoMemory = Unit {0}

-- the name is that of the cell of the use
abbrev pub IsCellAt : List CellExt → UsePlace → List ℕ → Type 0
IsCellAt exts place name =
    (ext : CellExt) × ((slice_get exts place.cell ≡ Some ext) × ((used : UseRec) × ((slice_get ext.uses place.at ≡ Some used) × (name ≡ used.cell))))

-- The fault is the walk's, with the name of the cell of the use.
abbrev pub IsNamedFault : List CellExt → WalkFault → FlatFault → Type 0
IsNamedFault exts (NoCellAt place) fault = (name : List ℕ) × (IsCellAt exts place name × (fault ≡ NoCell name))
IsNamedFault exts (CycleAt place) fault = (name : List ℕ) × (IsCellAt exts place name × (fault ≡ Cycle name))
IsNamedFault exts NoMemory fault = fault ≡ Memory
