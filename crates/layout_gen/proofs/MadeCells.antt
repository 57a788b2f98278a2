-- The cells that are made may be added, and are what they should be then.
use Rattle.layout_gen.proofs.Common.{◌≡◌, ◌+◌, ◌*◌, ◌<◌, ◌≤◌, ◌∙◌, ℕ, suc, List, [], ◌∷◌, ◌++◌, length, Option, Some, None, refl, sym, ap, subst}
use Rattle.layout_gen.proofs.Common.{arith, inl, inr, true≢false, pos, ℤ, ◌-ℤ◌, All, IsTrue, codes, nat_le, unwrap_or, unsigned_abs, option_or}
use Rattle.layout_gen.proofs.Common.{cases_Bool, nat_tests, In, Grid, Label, RawTech, Place, with_paint, MOST_USES, MOST_CELLS, LibraryParts, seen}
use Rattle.layout_gen.proofs.Common.{count_seen, TileLayers, MADE_CELLS, MOST_TILES, AreLayers, AreNew, IsMade, array_use, IsGenerated, diff_area}
use Rattle.layout_gen.proofs.Common.{poly_label}
use Rattle.std.proofs.Common.{◌-◌, Bool, true, false, length-append, map}
use Rattle.std.specs.List.{position_or_len}
use Rattle.std.specs.Str.{bytes_eq}
use Rattle.std.proofs.lemmas.Int.{ints}
use Rattle.std.proofs.lemmas.List.{length-map}
use Rattle.std.proofs.lemmas.List.Elements.{All-cons, All-nil}
use Rattle.std.proofs.lemmas.Slice.Eq.{bytes_eq-Decides}
use Rattle.finite_sets.specs.Lists.{Distinct}
use Rattle.finite_sets.proofs.Distincts.{Distinct-append}
use Rattle.finite_sets.proofs.Members.{In-append_right}
use Rattle.text_scan.specs.PlainNames.{is_plain_name}
use Rattle.geo_core.specs.declared.limits.TheConstants.{MOST_ELEMENTS}
use Rattle.geo_core.specs.Elements.{indices}
use Rattle.geo_core.specs.Images.{identity}
use Rattle.geo_core.specs.Orientation.{is_orientation}
use Rattle.cell_library.specs.LayoutModel.Layouts.{Layout}
use Rattle.cell_library.specs.CellBodies.declared.bodies.CellBody.{CellBody}
use Rattle.cell_library.specs.CellBodies.declared.bodies.CellUse.{CellUse}
use Rattle.cell_library.specs.CellBodies.Bodies.{IsBody, IsLabel, IsUse, ids_of}
use Rattle.cell_library.specs.CellBodies.Numbers.{are_elements, are_few_elements, is_grid, is_index, is_scale_number}
use Rattle.cell_library.specs.CellBodies.Words.{is_use_id}
use Rattle.cell_library.specs.CellTree.declared.use_tables.UseBody.{UseBody}
use Rattle.cell_library.specs.Additions.{CanBeAdded, kept_cell, kept_use, with_all}
use Rattle.cell_library.specs.Libraries.{IsLawfulLibrary, IsLawfulScale, uses_in}
use Rattle.cell_library.specs.Views.{CellView, LibraryView, cell_named, names_of}
use Rattle.cell_library.proofs.ContentLaws.{position_past}
use Rattle.cell_library.proofs.NewCells.{name_is_new, named_seen}
use Rattle.cell_library.proofs.ViewLaws.{names_seen}
use Rattle.layout_gen.specs.Generated.{array_cell, diff_label, no_paint, poly_area, row_grid, row_name}
use Rattle.layout_gen.specs.Generated.{stack_grid, stack_name, tile_cell, tile_labels, tile_layout, tile_name, with_generated}

-- ---- paint

-- what two paints make of no paint
pub two_paints : (raw : RawTech) (poly diff : ℕ) (none one two : Layout) → ((place : Place) → none place ≡ 0)
    → ((place : Place) → one place ≡ with_paint raw poly poly_area none place) → ((place : Place) → two place ≡ with_paint raw diff diff_area one place)
    → (place : Place) → two place ≡ tile_layout raw poly diff place
two_paints raw poly diff none one two empty first second place =
    let bare : none ≡ no_paint = λ i q. empty q i in
    let over : one ≡ with_paint raw poly poly_area no_paint = (λ i q. first q i) ∙ ap (λ (layout : Layout). with_paint raw poly poly_area layout) bare in
    second place ∙ ap (λ (layout : Layout). with_paint raw diff diff_area layout place) over

-- ---- names

-- what passes in no place of a list passes behind it
position_behind : (test : List ℕ → Bool) (old new : List (List ℕ)) → length old ≤ position_or_len test old
    → position_or_len test (old ++ new) ≡ length old + position_or_len test new
position_behind test [] new past = omega arith
position_behind test (x ∷ old) new past = elim (cases_Bool (test x)) [
  | inl passes ↦ (let none : suc (length old) ≤ 0 = rw passes at past in absurd (omega arith))
  | inr fails ↦
      let some : suc (length old) ≤ 1 + position_or_len test old = rw fails at past in
      let later : position_or_len test (old ++ new) ≡ length old + position_or_len test new = position_behind test old new (omega arith) in
      rw fails (omega arith)
]

apart : (a b : List ℕ) → bytes_eq a b ≡ false → a ≡ b → ⊥
apart a b differ same = true≢false (sym ((bytes_eq-Decides a b).1 same) ∙ differ)

-- the names of the cells that are made differ
made_names_differ : Distinct (tile_name ∷ row_name ∷ stack_name ∷ [])
made_names_differ = (
  (λ there. elim there [
    | inl row ↦ apart row_name tile_name refl row
    | inr later ↦ elim later [ inl stack ↦ apart stack_name tile_name refl stack | inr none ↦ none ]
  ]),
  ((λ there. elim there [ inl stack ↦ apart stack_name row_name refl stack | inr none ↦ none ]), ((λ none. none), tt)),
)

-- a name that no cell has is new
new_name : (library : LibraryParts) (name : List ℕ) → cell_named (seen library) name ≡ None → In name (names_of (seen library).cells) → ⊥
new_name library name none there =
    name_is_new name library.contents (named_seen library name ∙ none)
    (subst (λ (names : List (List ℕ)). In name names) (names_seen library.contents (uses_in library.tree.cells)) there)

new_position : (view : LibraryView) (name : List ℕ) (new : List (List ℕ)) → cell_named view name ≡ None
    → position_or_len (bytes_eq name) (names_of view.cells ++ new) ≡ length view.cells + position_or_len (bytes_eq name) new
new_position view name new none =
    position_behind (bytes_eq name) (names_of view.cells) new (position_past (bytes_eq name) (names_of view.cells) none)
    ∙ ap (λ (count : ℕ). count + position_or_len (bytes_eq name) new) (length-map view.cells (λ (cell : CellView). cell.name))

-- ---- uses

pub few_indices : (k : ℕ) → indices (pos 0) (pos k) ≡ suc k
few_indices k = let same : (pos k -ℤ pos 0) ≡ pos k = omega (arith, ints) in ap (λ (z : ℤ). suc (unsigned_abs z)) same

index_right : (k : ℕ) → k < MOST_TILES → is_index (pos k) ≡ true
index_right k few = grind (arith, ints)

elements_right : (a b : ℕ) → a * b ≤ MOST_ELEMENTS → nat_le (a * b) MOST_ELEMENTS ≡ true
elements_right a b few = grind (arith, nat_tests)

row_right : (k : ℕ) → k < MOST_TILES → are_elements (pos 0) (pos k) (pos 0) (pos 0) ≡ true
unfolding are_elements
row_right k few =
    let index = index_right k few in
    let some : are_few_elements (pos 0) (pos k) (pos 0) (pos 0) ≡ true =
    ap (λ (count : ℕ). nat_le (count * 1) MOST_ELEMENTS) (few_indices k) ∙ elements_right (suc k) 1 (omega arith) in
    rw (index, some) refl

stack_right : (k : ℕ) → k < MOST_TILES → are_elements (pos 0) (pos 0) (pos 0) (pos k) ≡ true
unfolding are_elements
stack_right k few =
    let index = index_right k few in
    let some : are_few_elements (pos 0) (pos 0) (pos 0) (pos k) ≡ true =
    ap (λ (count : ℕ). nat_le (1 * count) MOST_ELEMENTS) (few_indices k) ∙ elements_right 1 (suc k) (omega arith) in
    rw (index, some) refl

row_grid_right : (n : ℕ) → 1 ≤ n → n ≤ MOST_TILES → is_grid (row_grid n) ≡ true
row_grid_right n some few = let right = row_right (n - 1) (omega arith) in rw right refl

stack_grid_right : (n : ℕ) → 1 ≤ n → n ≤ MOST_TILES → is_grid (stack_grid n) ≡ true
stack_grid_right n some few = let right = stack_right (n - 1) (omega arith) in rw right refl

-- a use of the cell in a grid is of its form
use_right : (cell id : List ℕ) (grid : Grid) → is_plain_name cell ≡ true → is_use_id id ≡ true → is_grid grid ≡ true → IsUse (array_use cell id grid)
unfolding is_orientation
use_right cell id grid plain word lawful = record { cell = plain; id = word; six = refl; grid = lawful }

all_one : {X : Type 0} (P : X → Type 0) (x : X) → P x → All P (x ∷ [])
all_one P x is = All-cons P x [] is (All-nil P)

pub all_two : {X : Type 0} (P : X → Type 0) (x y : X) → P x → P y → All P (x ∷ y ∷ [])
all_two P x y a b = All-cons P x (y ∷ []) a (all_one P y b)

pub all_three : {X : Type 0} (P : X → Type 0) (x y z : X) → P x → P y → P z → All P (x ∷ y ∷ z ∷ [])
all_three P x y z a b d = All-cons P x (y ∷ z ∷ []) a (all_two P y z b d)

-- ---- bodies

-- a body that is made is one that a cell may have
made_body : (raw : RawTech) (own : Layout) (labels : List Label) (uses : List CellUse) (scale : ℕ × ℕ) (body : CellBody) → IsMade raw own labels uses scale body
    → All IsUse uses → Distinct (ids_of uses) → All (IsLabel raw) labels → IsTrue (is_scale_number scale.0) → IsTrue (is_scale_number scale.1) → IsBody raw body
made_body raw own labels uses scale body made each differ right numerator denominator = record {
  kinds = made.kinds;
  planes = made.planes;
  uses = subst (All IsUse) (sym made.uses_are) each;
  ids_differ = subst (λ (some : List CellUse). Distinct (ids_of some)) (sym made.uses_are) differ;
  labels = subst (All (IsLabel raw)) (sym made.labels_are) right;
  numerator = subst (λ (s : ℕ × ℕ). IsTrue (is_scale_number s.0)) (sym made.scale_is) numerator;
  denominator = subst (λ (s : ℕ × ℕ). IsTrue (is_scale_number s.1)) (sym made.scale_is) denominator;
}

tile_labels_right : (raw : RawTech) (layers : TileLayers) → AreLayers raw layers → All (IsLabel raw) (tile_labels layers.poly.0 layers.diff.0)
tile_labels_right raw layers are =
    all_two (IsLabel raw) (poly_label layers.poly.0) (diff_label layers.diff.0)
    (record { layer = are.poly_below; area = refl; position = refl; text = refl })
    (record { layer = are.diff_below; area = refl; position = refl; text = refl })

scale_right : (scale : Option (ℕ × ℕ)) (count : ℕ) → IsLawfulScale scale count
    → IsTrue (is_scale_number (unwrap_or scale (1, 1)).0) × IsTrue (is_scale_number (unwrap_or scale (1, 1)).1)
scale_right None count is = (refl, refl)
scale_right (Some numbers) count is = (is.1, is.2)

-- the scale that the first of the cells has is the library's
one_scale : (old : Option (ℕ × ℕ)) (scale : ℕ × ℕ) → scale ≡ unwrap_or old (1, 1) → Some scale ≡ option_or old (Some scale)
one_scale None scale is = refl
one_scale (Some numbers) scale is = ap Some is

scale_then : (old : Option (ℕ × ℕ)) (scale : ℕ × ℕ) → scale ≡ unwrap_or old (1, 1) → option_or old (Some scale) ≡ Some (unwrap_or old (1, 1))
scale_then None scale is = ap Some is
scale_then (Some numbers) scale is = refl

-- a body as a library has it
kept_made : (raw : RawTech) (own : Layout) (labels : List Label) (uses : List CellUse) (scale : ℕ × ℕ) (name : List ℕ) (body : CellBody) (names : List (List ℕ))
    → IsMade raw own labels uses scale body
    → kept_cell names (name, body) ≡ record { name = name; own = own; labels = labels; uses = map (kept_use names) uses }
kept_made raw own labels uses scale name body names made =
    λ i. record { name = name; own = λ place. made.own_is place i; labels = made.labels_are i; uses = map (kept_use names) (made.uses_are i) }

-- one use as a library has it
abbrev pub use_at : ℕ → Grid → UseBody
use_at child grid = record { child = record { 0 = child }; placed = identity; grid = Some grid }

-- these bodies under the names of the cells
abbrev pub listed : CellBody → CellBody → CellBody → List (List ℕ × CellBody)
listed tile row stack = (tile_name, tile) ∷ (row_name, row) ∷ (stack_name, stack) ∷ []

-- the names of the cells then
abbrev pub all_names : LibraryView → List (List ℕ)
all_names view = names_of view.cells ++ tile_name ∷ row_name ∷ stack_name ∷ []

module _ (library : LibraryParts) (lawful : IsLawfulLibrary library) (layers : TileLayers) (n : ℕ) (some : 1 ≤ n) (few : n ≤ MOST_TILES)
    (new : AreNew (seen library)) (are : AreLayers library.tech layers) (room : length library.contents + MADE_CELLS ≤ MOST_CELLS)
    (tile row stack : CellBody)
    (tile_is : IsMade library.tech (tile_layout library.tech layers.poly.0 layers.diff.0) (tile_labels layers.poly.0 layers.diff.0) []
    (unwrap_or library.scale (1, 1)) tile)
    (row_is : IsMade library.tech no_paint [] (array_use tile_name (codes "t") (row_grid n) ∷ []) (unwrap_or library.scale (1, 1)) row)
    (stack_is : IsMade library.tech no_paint [] (array_use row_name (codes "r") (stack_grid n) ∷ []) (unwrap_or library.scale (1, 1)) stack) where
  names_differ : Distinct (all_names (seen library))
  names_differ =
      Distinct-append (names_of (seen library).cells) (tile_name ∷ row_name ∷ stack_name ∷ [])
      (subst Distinct (sym (names_seen library.contents (uses_in library.tree.cells))) lawful.names_differ) made_names_differ
      (λ name old made. elim made [
        | inl same ↦ new_name library tile_name new.tile (subst (λ (a : List ℕ). In a (names_of (seen library).cells)) (sym same) old)
        | inr later ↦ elim later [
          | inl same ↦ new_name library row_name new.row (subst (λ (a : List ℕ). In a (names_of (seen library).cells)) (sym same) old)
          | inr last ↦ elim last [
            | inl same ↦ new_name library stack_name new.stack (subst (λ (a : List ℕ). In a (names_of (seen library).cells)) (sym same) old)
            | inr none ↦ none
          ]
        ]
      ])

  few_names : length (all_names (seen library)) ≤ MOST_CELLS
  few_names =
      let a = length-append (names_of (seen library).cells) (tile_name ∷ row_name ∷ stack_name ∷ []) in
      let b = length-map (seen library).cells (λ (cell : CellView). cell.name) in
      let d = count_seen library in
      omega arith

  -- the bodies are such as cells may have
  bodies_right : All (λ (cell : List ℕ × CellBody). IsBody library.tech cell.1) (listed tile row stack)
  bodies_right =
      let scale = unwrap_or library.scale (1, 1) in
      let right = scale_right library.scale (length library.contents) lawful.scale in
      let in_row = array_use tile_name (codes "t") (row_grid n) in
      let in_stack = array_use row_name (codes "r") (stack_grid n) in
      all_three (λ (cell : List ℕ × CellBody). IsBody library.tech cell.1) (tile_name, tile) (row_name, row) (stack_name, stack)
      (made_body library.tech (tile_layout library.tech layers.poly.0 layers.diff.0) (tile_labels layers.poly.0 layers.diff.0) [] scale tile tile_is
      (All-nil IsUse) tt (tile_labels_right library.tech layers are) right.0 right.1)
      (made_body library.tech no_paint [] (in_row ∷ []) scale row row_is
      (all_one IsUse in_row (use_right tile_name (codes "t") (row_grid n) refl refl (row_grid_right n some few)))
      ((λ none. none), tt) (All-nil (IsLabel library.tech)) right.0 right.1)
      (made_body library.tech no_paint [] (in_stack ∷ []) scale stack stack_is
      (all_one IsUse in_stack (use_right row_name (codes "r") (stack_grid n) refl refl (stack_grid_right n some few)))
      ((λ none. none), tt) (All-nil (IsLabel library.tech)) right.0 right.1)

  -- they may be added
  pub can_be_listed : CanBeAdded (seen library) (listed tile row stack)
  can_be_listed =
      let names = all_names (seen library) in
      let IsAmong : List CellUse → Type 0 = All (λ (used : CellUse). In used.cell names) in
      let scale = unwrap_or library.scale (1, 1) in
      let first : Some scale ≡ option_or library.scale (Some tile.scale) =
      one_scale library.scale scale refl ∙ ap (λ (s : ℕ × ℕ). option_or library.scale (Some s)) (sym tile_is.scale_is) in
      record {
        some = omega arith;
        names = all_three (λ (cell : List ℕ × CellBody). IsTrue (is_plain_name cell.0)) (tile_name, tile) (row_name, row) (stack_name, stack) refl refl refl;
        names_differ = names_differ;
        few = few_names;
        children = all_three (λ (cell : List ℕ × CellBody). IsAmong cell.1.uses) (tile_name, tile) (row_name, row) (stack_name, stack)
            (subst IsAmong (sym tile_is.uses_are) (All-nil (λ (used : CellUse). In used.cell names)))
            (subst IsAmong (sym row_is.uses_are)
            (all_one (λ (used : CellUse). In used.cell names) (array_use tile_name (codes "t") (row_grid n))
            (In-append_right tile_name (names_of (seen library).cells) (tile_name ∷ row_name ∷ stack_name ∷ []) (inl refl))))
            (subst IsAmong (sym stack_is.uses_are)
            (all_one (λ (used : CellUse). In used.cell names) (array_use row_name (codes "r") (stack_grid n))
            (In-append_right row_name (names_of (seen library).cells) (tile_name ∷ row_name ∷ stack_name ∷ []) (inr (inl refl)))));
        bodies = bodies_right;
        few_uses = all_three (λ (cell : List ℕ × CellBody). length cell.1.uses ≤ MOST_USES) (tile_name, tile) (row_name, row) (stack_name, stack)
            (subst (λ (uses : List CellUse). length uses ≤ MOST_USES) (sym tile_is.uses_are) (omega arith))
            (subst (λ (uses : List CellUse). length uses ≤ MOST_USES) (sym row_is.uses_are) (omega arith))
            (subst (λ (uses : List CellUse). length uses ≤ MOST_USES) (sym stack_is.uses_are) (omega arith));
        one_scale = all_three (λ (cell : List ℕ × CellBody). Some cell.1.scale ≡ option_or library.scale (Some tile.scale))
            (tile_name, tile) (row_name, row) (stack_name, stack)
            (ap (λ (s : ℕ × ℕ). Some s) tile_is.scale_is ∙ first)
            (ap (λ (s : ℕ × ℕ). Some s) row_is.scale_is ∙ first)
            (ap (λ (s : ℕ × ℕ). Some s) stack_is.scale_is ∙ first);
      }

  -- the use of the tile and that of the row, as the library has them
  pub row_uses : map (kept_use (all_names (seen library))) row.uses ≡ (codes "t", use_at (length (seen library).cells) (row_grid n)) ∷ []
  row_uses =
      ap (map (kept_use (all_names (seen library)))) row_is.uses_are
      ∙ ap (λ (child : ℕ). (codes "t", use_at child (row_grid n)) ∷ [])
      (new_position (seen library) tile_name (tile_name ∷ row_name ∷ stack_name ∷ []) new.tile ∙ still (length (seen library).cells))
    where
      still : (count : ℕ) → count + 0 ≡ count
      still count = omega arith

  pub stack_uses : map (kept_use (all_names (seen library))) stack.uses ≡ (codes "r", use_at (length (seen library).cells + 1) (stack_grid n)) ∷ []
  stack_uses =
      ap (map (kept_use (all_names (seen library)))) stack_is.uses_are
      ∙ ap (λ (child : ℕ). (codes "r", use_at child (stack_grid n)) ∷ [])
      (new_position (seen library) row_name (tile_name ∷ row_name ∷ stack_name ∷ []) new.row)

  -- the library with them is the one with the cells that are made
  with_listed : with_all (seen library) (listed tile row stack) ≡ with_generated (seen library) layers.poly.0 layers.diff.0 n
  with_listed =
      let raw = library.tech in
      let names = all_names (seen library) in
      let scale = unwrap_or library.scale (1, 1) in
      let count = length (seen library).cells in
      let scale_is : option_or library.scale (Some tile.scale) ≡ Some scale = scale_then library.scale tile.scale tile_is.scale_is in
      let tile_kept : kept_cell names (tile_name, tile) ≡ tile_cell raw layers.poly.0 layers.diff.0 =
      kept_made raw (tile_layout raw layers.poly.0 layers.diff.0) (tile_labels layers.poly.0 layers.diff.0) [] scale tile_name tile names tile_is in
      let row_kept : kept_cell names (row_name, row) ≡ array_cell row_name (codes "t") count (row_grid n) =
      λ i. record { name = row_name; own = λ place. row_is.own_is place i; labels = row_is.labels_are i; uses = row_uses i } in
      let stack_kept : kept_cell names (stack_name, stack) ≡ array_cell stack_name (codes "r") (count + 1) (stack_grid n) =
      λ i. record { name = stack_name; own = λ place. stack_is.own_is place i; labels = stack_is.labels_are i; uses = stack_uses i } in
      λ i. record {
        tech = raw;
        scale = scale_is i;
        cells = (seen library).cells ++ tile_kept i ∷ row_kept i ∷ stack_kept i ∷ [];
      }

  pub listed_generated : IsGenerated (seen library) n (with_all (seen library) (listed tile row stack))
  listed_generated = record { poly = layers.poly.0; diff = layers.diff.0; poly_is = are.poly; diff_is = are.diff; is = with_listed }
