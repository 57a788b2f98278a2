-- What holds of the cells that were read, from the first to the last.
use Rattle.cell_loading.proofs.Common.{◌≡◌, inl, inr, ◌<◌, ◌≤◌, ◌+◌, ℕ, Bool, true, false, List, [], ◌∷◌, ◌++◌, length, length-append, refl, sym, ap}
use Rattle.cell_loading.proofs.Common.{subst, ◌∙◌, arith, ◌||◌, Option, Some, None, list_any, bytes_eq, same_text, map-append, length-map, All-push}
use Rattle.cell_loading.proofs.Common.{is_plain_name, MOST_USES, CellBody, CellUse, CanBeAdded, first_scale, names_with, IsLawfulLibrary}
use Rattle.cell_loading.proofs.Common.{LibraryParts, seen, uses_in, LibraryView, names_of, children_of, is_among, names_in, AreSoFar, MayFollow}
use Rattle.std.proofs.Common.{append-nil, append_assoc, true≢false, map, get_or}
use Rattle.std.specs.Prelude.{◌==◌, All, IsTrue}
use Rattle.std.specs.Option.{option_or}
use Rattle.std.proofs.lemmas.Bool.{cases_Bool, eqb-true, and_parts}
use Rattle.std.proofs.lemmas.List.Elements.{All-append, All-head, All-map, All-nil, All-tail, All-weaker, All-cons}
use Rattle.std.proofs.lemmas.Slice.Eq.{bytes_eq-Decides}
use Rattle.finite_sets.specs.Lists.{In, Distinct}
use Rattle.finite_sets.proofs.Distincts.{Distinct-push}
use Rattle.finite_sets.proofs.Members.{In-append_left, In-append_right, In-append_cases, In-get_or, In-map}
use Rattle.finite_sets.proofs.Searches.{list_any-In}
use Rattle.mag_text.specs.CellBodies.Bodies.{IsBody, IsUse}
use Rattle.mag_text.specs.CellLibrary.Contents.{Held}
use Rattle.mag_text.specs.CellLibrary.Views.{CellView}
use Rattle.mag_text.proofs.CellLibrary.ViewLaws.{names_seen}
use Rattle.cell_loading.specs.CellFiles.{has_scale}

abbrev Cells : Type 0
Cells = List (List ℕ × CellBody)

-- the new name comes last
names_with-push : (view : LibraryView) (cells : Cells) (cell : List ℕ × CellBody)
    → names_with view (cells ++ cell ∷ []) ≡ names_with view cells ++ cell.0 ∷ []
names_with-push view cells cell =
    ap (λ (names : List (List ℕ)). names_of view.cells ++ names) (map-append (λ (c : List ℕ × CellBody). c.0) cells (cell ∷ []))
    ∙ sym (append_assoc (names_of view.cells) (names_in cells) (cell.0 ∷ []))

pub length-names_with : (view : LibraryView) (cells : Cells) → length (names_with view cells) ≡ length view.cells + length cells
length-names_with view cells =
    let of_library : length (names_of view.cells) ≡ length view.cells = length-map view.cells (λ (cell : CellView). cell.name) in
    let of_read : length (names_in cells) ≡ length cells = length-map cells (λ (c : List ℕ × CellBody). c.0) in
    length-append (names_of view.cells) (names_in cells) ∙ omega (arith, of_library, of_read)

-- a name that isn't found is not in the list
not_in : (name : List ℕ) (names : List (List ℕ)) → list_any (bytes_eq name) names ≡ false → In name names → ⊥
not_in name names none there = true≢false (sym ((bytes_eq-Decides name name).1 refl) ∙ list_any-In (bytes_eq name) names name none there)

-- a name that is found is in it
in_list : (name : List ℕ) (names : List (List ℕ)) → list_any (bytes_eq name) names ≡ true → In name names
in_list name [] found = absurd (true≢false (sym found))
in_list name (first ∷ names) found = elim (cases_Bool (bytes_eq name first)) [
  | inl same ↦ inl (sym (same_text name first (sym same)))
  | inr other ↦ inr (in_list name names (sym (ap (λ (b : Bool). b || list_any (bytes_eq name) names) other) ∙ found))
]

-- ---- the scale

same_scale : (asked scale : ℕ × ℕ) → has_scale (Some asked) scale ≡ true → scale ≡ asked
same_scale asked scale has =
    let both = and_parts (asked.0 == scale.0) (asked.1 == scale.1) has in
    λ i. (sym (eqb-true asked.0 scale.0 both.0) i, sym (eqb-true asked.1 scale.1 both.1) i)

one_scale-push : (scale : Option (ℕ × ℕ)) (cells : Cells) (cell : List ℕ × CellBody)
    → All (λ c. Some c.1.scale ≡ option_or scale (first_scale cells)) cells → has_scale (option_or scale (first_scale cells)) cell.1.scale ≡ true
    → All (λ c. Some c.1.scale ≡ option_or scale (first_scale (cells ++ cell ∷ []))) (cells ++ cell ∷ [])
one_scale-push (Some asked) cells cell are has =
    All-push (λ (c : List ℕ × CellBody). Some c.1.scale ≡ Some asked) cells cell are (ap (λ (s : ℕ × ℕ). Some s) (same_scale asked cell.1.scale has))
one_scale-push None [] cell are has =
    All-cons (λ (c : List ℕ × CellBody). Some c.1.scale ≡ Some cell.1.scale) cell [] refl (All-nil (λ
    (c : List ℕ × CellBody). Some c.1.scale ≡ Some cell.1.scale))
one_scale-push None (first ∷ cells) cell are has =
    All-push (λ (c : List ℕ × CellBody). Some c.1.scale ≡ Some first.1.scale) (first ∷ cells) cell are
    (ap (λ (s : ℕ × ℕ). Some s) (same_scale first.1.scale cell.1.scale has))

-- ---- what is left

-- the children of cells, where the names among which they are come to be others
children_among : (before after : List (List ℕ)) → ((name : List ℕ) → In name before → In name after) → (cells : Cells)
    → All (λ cell. All (λ used. In used.cell before) cell.1.uses) cells → All (λ cell. All (λ used. In used.cell after) cell.1.uses) cells
children_among before after into cells are =
    All-weaker (λ (c : List ℕ × CellBody). All (λ (u : CellUse). In u.cell before) c.1.uses)
    (λ (c : List ℕ × CellBody). All (λ (u : CellUse). In u.cell after) c.1.uses)
    (λ c of_cell. All-weaker (λ (u : CellUse). In u.cell before) (λ (u : CellUse). In u.cell after) (λ u. into u.cell) c.1.uses of_cell) cells are

passed_over : (names left : List (List ℕ)) (name : List ℕ) → In name names → (other : List ℕ) → In other (names ++ name ∷ left)
    → In other (names ++ left)
passed_over names left name there other among = elim (In-append_cases other names (name ∷ left) among) [
  | inl before ↦ In-append_left other names left before
  | inr behind ↦ elim behind [
    | inl same ↦ In-append_left other names left (subst (λ (n : List ℕ). In n names) same there)
    | inr later ↦ In-append_right other names left later
  ]
]

taken_up : (names more left children : List (List ℕ)) (name : List ℕ) → more ≡ names ++ name ∷ [] → (other : List ℕ) → In other (names ++ name ∷ left)
    → In other (more ++ (children ++ left))
taken_up names more left children name is other among =
    subst (λ (m : List (List ℕ)). In other (m ++ (children ++ left))) (sym is) (elim (In-append_cases other names (name ∷ left) among) [
      | inl before ↦ In-append_left other (names ++ name ∷ []) (children ++ left) (In-append_left other names (name ∷ []) before)
      | inr behind ↦ elim behind [
        | inl same ↦ In-append_left other (names ++ name ∷ []) (children ++ left) (In-append_right other names (name ∷ []) (inl same))
        | inr later ↦ In-append_right other (names ++ name ∷ []) (children ++ left) (In-append_right other children left later)
      ]
    ])

-- the names that a cell uses are among the children that come
own_children : (names left : List (List ℕ)) (uses : List CellUse) → All (λ used. In used.cell (names ++ (children_of uses ++ left))) uses
own_children names left uses = λ k d inside.
    In-append_right (get_or uses k d).cell names (children_of uses ++ left)
    (In-append_left (get_or uses k d).cell (children_of uses) left (In-map (λ (u : CellUse). u.cell) (get_or uses k d) uses
    (In-get_or uses k d inside)))

plain_children : (uses : List CellUse) → All IsUse uses → All (λ name. IsTrue (is_plain_name name)) (children_of uses)
plain_children uses are =
    All-map (λ (name : List ℕ). IsTrue (is_plain_name name)) (λ (u : CellUse). u.cell) uses
    (All-weaker IsUse (λ (u : CellUse). IsTrue (is_plain_name u.cell)) (λ u is. is.cell) uses are)

-- ---- the steps

-- before the first cell
pub so_far_start : (library : LibraryParts) (root : List ℕ) → IsLawfulLibrary library → IsTrue (is_plain_name root)
    → AreSoFar (seen library) [] (root ∷ [])
so_far_start library root lawful plain =
    let names : names_with (seen library) [] ≡ map (λ (held : Held). held.name) library.contents =
    append-nil (names_of (seen library).cells) ∙ names_seen library.contents (uses_in library.tree.cells) in
    let long : length (names_with (seen library) []) ≡ length library.contents =
    ap length names ∙ length-map library.contents (λ (held : Held). held.name) in
    record {
      names = λ k d inside. absurd (omega (arith, inside));
      names_differ = subst Distinct (sym names) lawful.names_differ;
      few = omega (arith, long, lawful.few);
      children = λ k d inside. absurd (omega (arith, inside));
      bodies = λ k d inside. absurd (omega (arith, inside));
      few_uses = λ k d inside. absurd (omega (arith, inside));
      one_scale = λ k d inside. absurd (omega (arith, inside));
      left_plain = All-cons (λ (name : List ℕ). IsTrue (is_plain_name name)) root [] plain (All-nil (λ (name : List ℕ). IsTrue (is_plain_name name)));
    }

-- a name that some cell has is passed over
pub so_far_passed : (view : LibraryView) (cells : Cells) (name : List ℕ) (left : List (List ℕ)) → AreSoFar view cells (name ∷ left)
    → is_among view cells name ≡ true → AreSoFar view cells left
so_far_passed view cells name left are known = record {
  names = are.names;
  names_differ = are.names_differ;
  few = are.few;
  children = children_among (names_with view cells ++ name ∷ left) (names_with view cells ++ left)
      (passed_over (names_with view cells) left name (in_list name (names_with view cells) known)) cells are.children;
  bodies = are.bodies;
  few_uses = are.few_uses;
  one_scale = are.one_scale;
  left_plain = All-tail (λ (n : List ℕ). IsTrue (is_plain_name n)) name left are.left_plain;
}

-- a cell was read
pub so_far_read : (view : LibraryView) (cells : Cells) (name : List ℕ) (left : List (List ℕ)) (body : CellBody) → AreSoFar view cells (name ∷ left)
    → is_among view cells name ≡ false → MayFollow view cells body → AreSoFar view (cells ++ (name, body) ∷ []) (children_of body.uses ++ left)
so_far_read view cells name left body are new follows =
    let names : names_with view (cells ++ (name, body) ∷ []) ≡ names_with view cells ++ name ∷ [] = names_with-push view cells (name, body) in
    let long : length (names_with view (cells ++ (name, body) ∷ [])) ≡ length (names_with view cells) + 1 =
    ap length names ∙ length-append (names_with view cells) (name ∷ []) in
    record {
      names = All-push (λ (c : List ℕ × CellBody). IsTrue (is_plain_name c.0)) cells (name, body) are.names
          (All-head (λ (n : List ℕ). IsTrue (is_plain_name n)) name left are.left_plain);
      names_differ = subst Distinct (sym names) (Distinct-push (names_with view cells) name are.names_differ (not_in name
          (names_with view cells) new));
      few = omega (arith, long, length-names_with view cells, follows.room);
      children = All-push (λ (c : List ℕ × CellBody). All (λ (u : CellUse). In u.cell (names_with view (cells ++ (name, body) ∷ []) ++
          (children_of body.uses ++ left))) c.1.uses)
          cells (name, body)
          (children_among (names_with view cells ++ name ∷ left) (names_with view (cells ++ (name, body) ∷ []) ++ (children_of body.uses ++ left))
          (taken_up (names_with view cells) (names_with view (cells ++ (name, body) ∷ [])) left
          (children_of body.uses) name names) cells are.children)
          (own_children (names_with view (cells ++ (name, body) ∷ [])) left body.uses);
      bodies = All-push (λ (c : List ℕ × CellBody). IsBody view.tech c.1) cells (name, body) are.bodies follows.form;
      few_uses = All-push (λ (c : List ℕ × CellBody). length c.1.uses ≤ MOST_USES) cells (name, body) are.few_uses follows.few_uses;
      one_scale = one_scale-push view.scale cells (name, body) are.one_scale follows.scale;
      left_plain = All-append (λ (n : List ℕ). IsTrue (is_plain_name n)) (children_of body.uses) left (plain_children body.uses follows.form.uses)
          (All-tail (λ (n : List ℕ). IsTrue (is_plain_name n)) name left are.left_plain);
    }

-- where no name is left the cells may be added
pub so_far_end : (view : LibraryView) (cells : Cells) → AreSoFar view cells [] → 0 < length cells → CanBeAdded view cells
so_far_end view cells are some = record {
  some = some;
  names = are.names;
  names_differ = are.names_differ;
  few = are.few;
  children = children_among (names_with view cells ++ []) (names_with view cells)
      (λ name. subst (In name) (append-nil (names_with view cells))) cells are.children;
  bodies = are.bodies;
  few_uses = are.few_uses;
  one_scale = are.one_scale;
}
