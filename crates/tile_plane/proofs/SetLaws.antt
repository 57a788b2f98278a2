-- Pieces that lie apart are set by setting one after the other.
use Rattle.tile_plane.proofs.Common.{◌≢◌, ◌⊎◌, inl, inr, ℕ, List, [], ◌∷◌, ◌++◌, refl, sym, ◌∙◌, subst, arith, ints, In, In-append_cases}
use Rattle.tile_plane.proofs.Common.{In-append_left, In-append_right, Square, Piece, Rect, AreDisjoint, IsNear, Covers, AreSet, AreSame, inner_range}
use Rattle.tile_plane.proofs.HandLaws.{covers_or_not}

-- one more piece, apart from those before it
pub set_more : (old mid new : Square → ℕ) (pieces : List Piece) (piece : Piece) → AreSet old mid pieces → AreSet mid new (piece ∷ [])
    → ((other : Piece) → In other pieces → AreDisjoint other.area piece.area)
    → AreSet old new (pieces ++ piece ∷ [])
set_more old mid new pieces piece before last apart = record {
  set = λ other i square covers. elim (In-append_cases other pieces (piece ∷ []) i) [
    | inl earlier ↦ last.others square (λ p j c. elim j [
      | inl e ↦ apart other earlier square covers (subst (λ (q : Piece). Covers q.area square) (sym e) c)
      | inr none ↦ none
    ]) ∙ before.set other earlier square covers
    | inr here ↦ last.set other here square covers
  ];
  others = λ square none. last.others square (λ p j c. none p (In-append_right p pieces (piece ∷ []) j) c)
      ∙ before.others square (λ p j c. none p (In-append_left p pieces (piece ∷ []) j) c);
}

-- setting pieces on planes of the same values
pub set_same : (old other new : Square → ℕ) (pieces : List Piece) → AreSame old other → AreSet other new pieces → AreSet old new pieces
set_same old other new pieces same set = record { set = set.set; others = λ square none. set.others square none ∙ same square }

covered_or_not : (pieces : List Piece) (square : Square) → ((piece : Piece) × In piece pieces × Covers piece.area square) ⊎ ((piece : Piece)
    → In piece pieces → Covers piece.area square → ⊥)
covered_or_not [] square = inr (λ piece i c. i)
covered_or_not (piece ∷ pieces) square = elim (covers_or_not piece.area square) [
  | inl covers ↦ inl (piece, inl refl, covers)
  | inr off ↦ elim (covered_or_not pieces square) [
    | inl (other, i, covers) ↦ inl (other, inr i, covers)
    | inr none ↦ inr (λ other i c. elim i [ inl e ↦ off (subst (λ (p : Piece). Covers p.area square) (sym e) c) | inr j ↦ none other j c ])
  ]
]

-- setting pieces has one outcome
pub set_once : (old new other : Square → ℕ) (pieces : List Piece) → AreSet old new pieces → AreSet old other pieces → AreSame new other
set_once old new other pieces p q square = elim (covered_or_not pieces square) [
  | inl (piece, i, covers) ↦ q.set piece i square covers ∙ sym (p.set piece i square covers)
  | inr none ↦ q.others square none ∙ sym (p.others square none)
]

-- pieces that keep off the edges leave space there
pub set_keeps_space : (area : Rect) (old new : Square → ℕ) (pieces : List Piece) → AreSet old new pieces
    → ((square : Square) → old square ≢ 0 → Covers area square)
    → ((piece : Piece) → In piece pieces → (square : Square) → Covers piece.area square → Covers area square) → (square : Square) → new square ≢ 0
    → Covers area square
set_keeps_space area old new pieces set space inside square material = elim (covered_or_not pieces square) [
  | inl (piece, i, covers) ↦ inside piece i square covers
  | inr none ↦ space square (λ e. material (set.others square none ∙ e))
]

-- the squares of a near area keep off the edges
pub near_inner : (area : Rect) → IsNear area → (square : Square) → Covers area square → Covers inner_range square
near_inner area near square c =
    let a = near.xlo.0 in
    let b = near.ylo.0 in
    let d = near.xhi.1 in
    let e = near.yhi.1 in
    record { right_of_xlo = omega (arith, ints); left_of_xhi = omega (arith, ints); above_ylo = omega (arith, ints); below_yhi = omega (arith, ints) }
