-- What visits of several areas hand out together.
use Rattle.hier_merge.proofs.Common.{◌≡◌, ◌≤◌, ◌⊎◌, ◌+◌, ◌&&◌, ℕ, suc, Bool, true, false, cond, bit_or, List, [], ◌∷◌, ◌++◌, length, inl, inr, refl}
use Rattle.hier_merge.proofs.Common.{sym, ap, subst, ◌∙◌, arith, ◌==◌, slice_index_or, cases_Bool, false≢true, append-nil, append_assoc}
use Rattle.hier_merge.proofs.Common.{length-append, take-append-drop, In, Rect, Square, rect_image, Covers, is_covered, IsInUnion, Covers-is_covered}
use Rattle.hier_merge.proofs.Common.{covers_second, is_covered-Covers, RawTech, parts_of, Place, CellTree, PartTile, IsPartTileIn, set_from}
use Rattle.hier_merge.proofs.Common.{set_of_tiles, IsWorkOver, AreVisits, IsVisit}
use Rattle.std.specs.Prelude.{◌<◌, take, drop}
use Rattle.std.proofs.Math.Seq.{take-suc}
use Rattle.finite_sets.proofs.Totals.{length-same_set}
use Rattle.cell_library.proofs.LayoutModel.SetUnions.{none_union, union_assoc, union_none, union_same}
use Rattle.cell_library.specs.PartTiles.{set_of_part}

-- ---- unions over lists of tiles

-- what tiles of two lists make of a part is the union of what those of each make
pub set_of_append : (raw : RawTech) (xs ys : List PartTile) (part : ℕ) (place : Place)
    → set_of_tiles raw (xs ++ ys) part place ≡ bit_or (set_of_tiles raw xs part place) (set_of_tiles raw ys part place)
set_of_append raw [] ys part place = sym (none_union (set_of_tiles raw ys part place))
set_of_append raw (tile ∷ xs) ys part place =
    ap (bit_or (set_from raw part tile place)) (set_of_append raw xs ys part place)
    ∙ sym (union_assoc (set_from raw part tile place) (set_of_tiles raw xs part place) (set_of_tiles raw ys part place))

-- a tile that doesn't cover a place adds nothing there
adds_nothing : (raw : RawTech) (part : ℕ) (tile : PartTile) (place : Place) → (Covers tile.area place.square → ⊥) → set_from raw part tile place ≡ 0
adds_nothing raw part tile place out = elim (cases_Bool (is_covered tile.area place.square)) [
  | inl covered ↦ absurd (out (Covers-is_covered tile.area place.square covered))
  | inr not_covered ↦
      ap (λ (b : Bool). cond (tile.part == part && place.plane == tile.plane && b) (parts_of raw tile.kind.0) 0) not_covered
      ∙ ends_false (tile.part == part && place.plane == tile.plane)
] where
  ends_false : (b : Bool) → cond (b && false) (parts_of raw tile.kind.0) 0 ≡ 0
  ends_false true = refl
  ends_false false = refl

-- tiles of which none covers the place make nothing there
make_nothing : (raw : RawTech) (tiles : List PartTile) (part : ℕ) (place : Place) → ((tile : PartTile) → In tile tiles → Covers tile.area place.square → ⊥)
    → set_of_tiles raw tiles part place ≡ 0
make_nothing raw [] part place out = refl
make_nothing raw (tile ∷ tiles) part place out =
    ap (λ (set : ℕ). bit_or set (set_of_tiles raw tiles part place)) (adds_nothing raw part tile place (out tile (inl refl)))
    ∙ none_union (set_of_tiles raw tiles part place)
    ∙ make_nothing raw tiles part place (λ other among. out other (inr among))

-- tiles of a visit lie in the area
pub visit_inside : (raw : RawTech) (tree : CellTree) (area : Rect) (tiles : List PartTile) → IsVisit raw tree area tiles → (tile : PartTile) → In tile tiles
    → (square : Square) → Covers tile.area square → Covers area square
visit_inside raw tree area tiles visit tile among square covers =
    let is = visit.lists.2 tile among in
    covers_second (rect_image is.standing.placed is.strip) area square (subst (λ (r : Rect). Covers r square) is.cut covers)

-- ---- visits of several areas

-- it is decided whether a square lies in one of some areas
pub in_union_or_not : (areas : List Rect) (square : Square) → IsInUnion areas square ⊎ (IsInUnion areas square → ⊥)
in_union_or_not [] square = inr (λ none. absurd none.1.0)
in_union_or_not (area ∷ areas) square = elim (cases_Bool (is_covered area square)) [
  | inl covered ↦ inl (area, (inl refl, Covers-is_covered area square covered))
  | inr not_covered ↦ elim (in_union_or_not areas square) [
    | inl later ↦ inl (later.0, (inr later.1.0, later.1.1))
    | inr nowhere ↦ inr (λ found. elim found.1.0 [
      | inl same ↦ false≢true (sym not_covered ∙ ap (λ (r : Rect). is_covered r square) same ∙ is_covered-Covers found.0 square found.1.1)
      | inr among ↦ nowhere (found.0, (among, found.1.1))
    ])
  ]
]

-- what the tiles of a first visit and those of later ones make together
first_and_rest : (raw : RawTech) (tiles first rest : List PartTile) (part : ℕ) (place : Place) (a b : ℕ) → tiles ≡ first ++ rest
    → set_of_tiles raw first part place ≡ a → set_of_tiles raw rest part place ≡ b → set_of_tiles raw tiles part place ≡ bit_or a b
first_and_rest raw tiles first rest part place a b are is_a is_b =
    ap (λ (t : List PartTile). set_of_tiles raw t part place) are
    ∙ set_of_append raw first rest part place
    ∙ ap (λ (n : ℕ). bit_or n (set_of_tiles raw rest part place)) is_a
    ∙ ap (bit_or a) is_b

-- tiles of a visit make nothing outside its area
visit_outside : (raw : RawTech) (tree : CellTree) (area : Rect) (tiles : List PartTile) → IsVisit raw tree area tiles → (part : ℕ) (place : Place)
    → (Covers area place.square → ⊥) → set_of_tiles raw tiles part place ≡ 0
visit_outside raw tree area tiles visit part place out =
    make_nothing raw tiles part place (λ tile among covers. out (visit_inside raw tree area tiles visit tile among place.square covers))

-- where none of the areas is, the tiles make nothing
pub visits_outside : (raw : RawTech) (tree : CellTree) (areas : List Rect) (tiles : List PartTile) → AreVisits raw tree areas tiles → (part : ℕ) (place : Place)
    → (IsInUnion areas place.square → ⊥) → set_of_tiles raw tiles part place ≡ 0
visits_outside raw tree [] tiles visits part place out = ap (λ (t : List PartTile). set_of_tiles raw t part place) visits
visits_outside raw tree (area ∷ areas) tiles (first, rest, are, visit, visits) part place out =
    first_and_rest raw tiles first rest part place 0 0 are
    (visit_outside raw tree area first visit part place (λ covers. out (area, (inl refl, covers))))
    (visits_outside raw tree areas rest visits part place (λ found. out (found.0, (inr found.1.0, found.1.1))))
    ∙ union_none 0

-- where one of them is, the tiles make the cell's parts
pub visits_inside : (raw : RawTech) (tree : CellTree) (areas : List Rect) (tiles : List PartTile) → AreVisits raw tree areas tiles → (part : ℕ) (place : Place)
    → IsInUnion areas place.square → set_of_tiles raw tiles part place ≡ set_of_part raw tree part place
visits_inside raw tree [] tiles visits part place found = absurd found.1.0
visits_inside raw tree (area ∷ areas) tiles (first, rest, are, visit, visits) part place found =
    let made = set_of_part raw tree part place in
    elim (cases_Bool (is_covered area place.square)) [
      | inl covered ↦
          let here = visit.sets part place (Covers-is_covered area place.square covered) in
          elim (in_union_or_not areas place.square) [
            | inl later ↦
                first_and_rest raw tiles first rest part place made made are here (visits_inside raw tree areas rest visits part place later)
                ∙ union_same made
            | inr nowhere ↦
                first_and_rest raw tiles first rest part place made 0 are here (visits_outside raw tree areas rest visits part place nowhere)
                ∙ union_none made
          ]
      | inr not_covered ↦
          let out : Covers area place.square → ⊥ = λ covers. false≢true (sym not_covered ∙ is_covered-Covers area place.square covers) in
          let later : IsInUnion areas place.square = elim found.1.0 [
            | inl same ↦ absurd (out (subst (λ (r : Rect). Covers r place.square) (sym same) found.1.1))
            | inr among ↦ (found.0, (among, found.1.1))
          ] in
          first_and_rest raw tiles first rest part place 0 made are (visit_outside raw tree area first visit part place out)
          (visits_inside raw tree areas rest visits part place later)
          ∙ none_union made
    ]

-- ---- one visit after another

-- one visit more
pub visits_more : (raw : RawTech) (tree : CellTree) (areas : List Rect) (tiles : List PartTile) (area : Rect) (found : List PartTile)
    → AreVisits raw tree areas tiles → IsVisit raw tree area found → AreVisits raw tree (areas ++ area ∷ []) (tiles ++ found)
visits_more raw tree [] tiles area found visits visit = (found, [], ap (λ t. t ++ found) visits ∙ sym (append-nil found), visit, refl)
visits_more raw tree (first_area ∷ areas) tiles area found (first, rest, are, one, visits) visit =
    (first, rest ++ found, ap (λ t. t ++ found) are ∙ append_assoc first rest found, one, visits_more raw tree areas rest area found visits visit)

-- visits of the first of some areas hand out no more than there is work over all
pub work_of_first : (raw : RawTech) (tree : CellTree) (areas others : List Rect) (tiles : List PartTile) (work : ℕ) → AreVisits raw tree areas tiles
    → IsWorkOver tree (areas ++ others) work → length tiles ≤ work
work_of_first raw tree [] others tiles work visits over = omega (arith, ap (λ (t : List PartTile). length t) visits)
work_of_first raw tree (area ∷ areas) others tiles work (first, rest, are, visit, visits) (listed, less, lists, over, is) =
    let same : length first ≡ length listed = length-same_set (IsPartTileIn tree area) first listed visit.lists lists in
    let later : length rest ≤ less = work_of_first raw tree areas others rest less visits over in
    let whole : length tiles ≡ length first + length rest = ap (λ (t : List PartTile). length t) are ∙ length-append first rest in
    omega (arith, same, later, whole, is)

-- the visits of the first so many areas hand out no more than there is work over all
pub work_taken : (raw : RawTech) (tree : CellTree) (areas : List Rect) (count : ℕ) (tiles : List PartTile) (work : ℕ)
    → AreVisits raw tree (take count areas) tiles → IsWorkOver tree areas work → length tiles ≤ work
work_taken raw tree areas count tiles work visits over =
    work_of_first raw tree (take count areas) (drop count areas) tiles work visits
    (subst (λ (all : List Rect). IsWorkOver tree all work) (sym (take-append-drop count areas)) over)

-- the first areas and one more
taken_next : (areas : List Rect) (count : ℕ) (default : Rect) → count < length areas
    → take (count + 1) areas ≡ take count areas ++ slice_index_or areas count default ∷ []
taken_next areas count default below =
    let same : count + 1 ≡ suc count = omega arith in
    ap (λ (n : ℕ). take n areas) same ∙ take-suc areas count default below

-- a visit of the next area
pub visits_next : (raw : RawTech) (tree : CellTree) (areas : List Rect) (count : ℕ) (tiles found : List PartTile) (default : Rect) → count < length areas
    → AreVisits raw tree (take count areas) tiles → IsVisit raw tree (slice_index_or areas count default) found
    → AreVisits raw tree (take (count + 1) areas) (tiles ++ found)
visits_next raw tree areas count tiles found default below visits visit =
    subst (λ (all : List Rect). AreVisits raw tree all (tiles ++ found)) (sym (taken_next areas count default below))
    (visits_more raw tree (take count areas) tiles (slice_index_or areas count default) found visits visit)

-- the tiles of a visit of the next area are added
pub next_added : (raw : RawTech) (tree : CellTree) (areas : List Rect) (count : ℕ) (before found after : List PartTile) (first old new : ℕ) (default : Rect)
    → count < length areas → AreVisits raw tree (take count areas) before → old ≡ first + length before
    → IsVisit raw tree (slice_index_or areas count default) found → after ≡ before ++ found → new ≡ old + length found
    → AreVisits raw tree (take (count + 1) areas) after × (new ≡ first + length after)
next_added raw tree areas count before found after first old new default below visits steps visit added more = (
  subst (λ (tiles : List PartTile). AreVisits raw tree (take (count + 1) areas) tiles) (sym added)
      (visits_next raw tree areas count before found default below visits visit),
  omega (arith, steps, more, ap (λ (t : List PartTile). length t) added, length-append before found),
)

-- what is counted before a visit of the next area is no more than the work over all
pub before_counted : (raw : RawTech) (tree : CellTree) (areas : List Rect) (count : ℕ) (before : List PartTile) (first old new work : ℕ)
    → AreVisits raw tree (take count areas) before → old ≡ first + length before → new ≡ old → IsWorkOver tree areas work → new ≤ first + work
before_counted raw tree areas count before first old new work visits steps same over =
    omega (arith, steps, same, work_taken raw tree areas count before work visits over)

-- nor is what is counted after it
pub next_counted : (raw : RawTech) (tree : CellTree) (areas : List Rect) (count : ℕ) (before found : List PartTile) (first old new work : ℕ) (default : Rect)
    → count < length areas → AreVisits raw tree (take count areas) before → old ≡ first + length before
    → IsVisit raw tree (slice_index_or areas count default) found → new ≡ old + length found → IsWorkOver tree areas work → new ≤ first + work
next_counted raw tree areas count before found first old new work default below visits steps visit more over =
    let taken = work_taken raw tree areas (count + 1) (before ++ found) work (visits_next raw tree areas count before found default below visits visit) over in
    omega (arith, steps, more, taken, length-append before found)
