-- A library sees of bodies no more than what the texts say.
use Rattle.uniqueness.proofs.Common.{◌≡◌, ℕ, suc, List, [], ◌∷◌, ◌++◌, length, map, refl, ap, ◌∙◌, Option, Some, fun_ext, option_or, Label, RawTech}
use Rattle.uniqueness.proofs.Common.{CellBody, with_all, CellView, LibraryView}
use Rattle.cell_loading.specs.LayoutModel.Layouts.{Layout}
use Rattle.cell_loading.specs.CellPaint.Paints.{layout_of}
use Rattle.cell_loading.specs.CellBodies.declared.bodies.CellUse.{CellUse}
use Rattle.edit_script.specs.CellLibrary.Additions.{first_scale, kept_cell, kept_use, names_with}
use Rattle.edit_script.specs.CellLibrary.Views.{names_of}
use Rattle.cell_loading.specs.MagText.Drawings.{painted_all}
use Rattle.cell_loading.specs.MagText.MagTexts.{HasAllOf}
use Rattle.cell_loading.specs.CellFiles.{ReadCell, names_read, scale_of_first}
use Rattle.cell_loading.specs.Loads.{AreBodiesOf}

-- a cell by what is seen of it
abbrev seen_by : List (List ℕ) → List ℕ → Layout → List Label → List CellUse → CellView
seen_by names name own labels uses = record { name = name; own = own; labels = labels; uses = map (kept_use names) uses }

-- the cell that a text says
abbrev said_cell : RawTech → List (List ℕ) → ReadCell → CellView
said_cell raw names cell = seen_by names cell.0 (painted_all raw cell.1.drawn) cell.1.labels cell.1.uses

-- a body that has what a text says is kept as the text says
kept_as_said : (raw : RawTech) (names : List (List ℕ)) (cell : ReadCell) (body : List ℕ × CellBody) → body.0 ≡ cell.0 → HasAllOf raw cell.1 body.1
    → kept_cell names body ≡ said_cell raw names cell
kept_as_said raw names cell body named has =
    let own : layout_of body.1.paint ≡ painted_all raw cell.1.drawn = fun_ext has.paint_is in
    ap (λ (name : List ℕ). seen_by names name (layout_of body.1.paint) body.1.labels body.1.uses) named
    ∙ ap (λ (layout : Layout). seen_by names cell.0 layout body.1.labels body.1.uses) own
    ∙ ap (λ (labels : List Label). seen_by names cell.0 (painted_all raw cell.1.drawn) labels body.1.uses) has.labels_are
    ∙ ap (λ (uses : List CellUse). seen_by names cell.0 (painted_all raw cell.1.drawn) cell.1.labels uses) has.uses_are

-- so are all
all_kept_as_said : (raw : RawTech) (names : List (List ℕ)) (read : List ReadCell) (bodies : List (List ℕ × CellBody)) → AreBodiesOf raw read bodies
    → map (kept_cell names) bodies ≡ map (said_cell raw names) read
all_kept_as_said raw names [] [] are = refl
all_kept_as_said raw names [] (body ∷ bodies) are = absurd are
all_kept_as_said raw names (cell ∷ read) [] are = absurd are
all_kept_as_said raw names (cell ∷ read) (body ∷ bodies) are =
    ap (λ (first : CellView). first ∷ map (kept_cell names) bodies) (kept_as_said raw names cell body are.0 are.1)
    ∙ ap (λ (rest : List CellView). said_cell raw names cell ∷ rest) (all_kept_as_said raw names read bodies are.2)

-- their names are those of the cells that were read
names_as_said : (raw : RawTech) (read : List ReadCell) (bodies : List (List ℕ × CellBody)) → AreBodiesOf raw read bodies
    → map (λ (cell : List ℕ × CellBody). cell.0) bodies ≡ names_read read
names_as_said raw [] [] are = refl
names_as_said raw [] (body ∷ bodies) are = absurd are
names_as_said raw (cell ∷ read) [] are = absurd are
names_as_said raw (cell ∷ read) (body ∷ bodies) are =
    ap (λ (first : List ℕ). first ∷ map (λ (one : List ℕ × CellBody). one.0) bodies) are.0
    ∙ ap (λ (rest : List (List ℕ)). cell.0 ∷ rest) (names_as_said raw read bodies are.2)

-- there are as many
pub as_many_as_read : (raw : RawTech) (read : List ReadCell) (bodies : List (List ℕ × CellBody)) → AreBodiesOf raw read bodies → length bodies ≡ length read
as_many_as_read raw [] [] are = refl
as_many_as_read raw [] (body ∷ bodies) are = absurd are
as_many_as_read raw (cell ∷ read) [] are = absurd are
as_many_as_read raw (cell ∷ read) (body ∷ bodies) are = ap suc (as_many_as_read raw read bodies are.2)

-- and the first has the scale of the first
scale_as_said : (raw : RawTech) (read : List ReadCell) (bodies : List (List ℕ × CellBody)) → AreBodiesOf raw read bodies
    → first_scale bodies ≡ scale_of_first read
scale_as_said raw [] [] are = refl
scale_as_said raw [] (body ∷ bodies) are = absurd are
scale_as_said raw (cell ∷ read) [] are = absurd are
scale_as_said raw (cell ∷ read) (body ∷ bodies) are = ap Some are.1.scale_is

-- the library with these cells and this scale
abbrev made : LibraryView → Option (ℕ × ℕ) → List CellView → LibraryView
made view scale more = record { tech = view.tech; scale = scale; cells = view.cells ++ more }

-- the library with the cells that texts say
abbrev with_said : LibraryView → List ReadCell → LibraryView
with_said view read =
    made view (option_or view.scale (scale_of_first read)) (map (said_cell view.tech (names_of view.cells ++ names_read read)) read)

-- is the one with their bodies, whichever those are
pub with_bodies : (view : LibraryView) (read : List ReadCell) (bodies : List (List ℕ × CellBody)) → AreBodiesOf view.tech read bodies
    → with_all view bodies ≡ with_said view read
with_bodies view read bodies are =
    let names : names_with view bodies ≡ names_of view.cells ++ names_read read =
    ap (λ (named : List (List ℕ)). names_of view.cells ++ named) (names_as_said view.tech read bodies are) in
    let cells : map (kept_cell (names_with view bodies)) bodies ≡ map (said_cell view.tech (names_of view.cells ++ names_read read)) read =
    all_kept_as_said view.tech (names_with view bodies) read bodies are
    ∙ ap (λ (known : List (List ℕ)). map (said_cell view.tech known) read) names in
    ap (λ (scale : Option (ℕ × ℕ)). made view (option_or view.scale scale) (map (kept_cell (names_with view bodies)) bodies))
    (scale_as_said view.tech read bodies are)
    ∙ ap (λ (more : List CellView). made view (option_or view.scale (scale_of_first read)) more) cells
