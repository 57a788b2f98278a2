-- What a library has for each cell besides its uses: its name, its paint and its labels.
use Rattle.std.specs.Prelude.{◌≡◌, not, ◌-◌, ℕ, All, List, [], ◌∷◌, ◌++◌, length, take, slice_index_or, slice_set, map, filter, Option, Vec, refl}
use Rattle.std.specs.List.{position}
use Rattle.std.specs.Str.{bytes_eq}
use Rattle.std.specs.Coded.{Coded, code_by, coded×, coded_list, coded_ℕ}
use Rattle.std.specs.Map.{keys_of, values_of}
use Rattle.std.specs.declared.alloc.Global.{Global}
use Rattle.tech_model.specs.declared.raw.Label.{Label}
use Rattle.tech_model.specs.contracts.raw.Label.{the_row as label_row}
use Rattle.cell_bodies.specs.LayoutModel.Places.{Place}
use Rattle.cell_bodies.specs.LayoutModel.Layouts.{Layout}
use Rattle.cell_bodies.specs.CellPaint.Paints.{Paint, paint_code, layout_of, IsSoundPaint}
use Rattle.cell_library.specs.declared.contents.Content.{Content}

-- a cell's name, its paint and its labels
pub record Held : Type 0 where
  pub name : List ℕ
  pub paint : Paint
  pub labels : List Label

-- it is stored as the tuple of its fields
abbrev pub held_code : Coded Held
held_code =
    code_by (List ℕ × (Paint × List Label)) (coded× (coded_list coded_ℕ) (coded× paint_code (coded_list label_row.coded)))
    (λ h. (h.name, (h.paint, h.labels))) (λ p. record { name = p.0; paint = p.1.0; labels = p.1.1 }) (λ _. refl)

-- what is past the end of a list of them
abbrev pub no_held : Held
no_held = record { name = []; paint = record { kinds = []; planes = [] }; labels = [] }

abbrev pub held_at : List Held → ℕ → Held
held_at contents cell = slice_index_or contents cell no_held

-- what is seen of a cell's content
abbrev pub held_of : Content → Held
held_of content = record { name = content.name; paint = content.paint; labels = content.labels.items }

-- what is seen of the contents of a table
abbrev pub held_in : List (Vec ℕ Global × Content) → List Held
held_in entries = map held_of (values_of entries)

-- each content stands under its cell's name
abbrev pub AreUnderNames : List (Vec ℕ Global × Content) → Type 0
AreUnderNames entries = map (λ key. key.items) (keys_of entries) ≡ map (λ content. content.name) (values_of entries)

-- The paint of the cell is sound.
abbrev pub IsSoundHeld : Held → Type 0
IsSoundHeld held = IsSoundPaint held.paint.kinds (layout_of held.paint)

-- Contents as they are kept: each stands under its cell's name, and all paint is sound.
pub record AreKept (entries : List (Vec ℕ Global × Content)) : Type 0 where
  pub names : AreUnderNames entries
  pub sound : All IsSoundHeld (held_in entries)

-- the position of the cell of this name
abbrev pub position_of : List ℕ → List Held → Option ℕ
position_of name contents = position (bytes_eq name) (map (λ held. held.name) contents)

-- one more label
abbrev pub with_label : Held → Label → Held
with_label held label = record held { labels = held.labels ++ label ∷ [] }

-- all labels but the last
abbrev pub without_last : List Label → List Label
without_last labels = take (length labels - 1) labels

-- with these labels in place of its own
abbrev pub with_labels : Held → List Label → Held
with_labels held labels = record held { labels = labels }

-- without the labels of this text
abbrev pub without_labels : Held → List ℕ → Held
without_labels held text = record held { labels = filter (λ label. not (bytes_eq label.text text)) held.labels }

-- The cell has another paint, of the same technology, whose layout is the changed one, and nothing else changed.
pub record IsRepainted (old new : List Held) (cell : ℕ) (change : Layout → Layout) : Type 0 where
  pub paint : Paint
  pub is : new ≡ slice_set old cell (record (held_at old cell) { paint = paint })
  pub layout : (place : Place) → layout_of paint place ≡ change (layout_of (held_at old cell).paint) place
  pub kinds : paint.kinds ≡ (held_at old cell).paint.kinds
  pub planes : length paint.planes ≡ length (held_at old cell).paint.planes
