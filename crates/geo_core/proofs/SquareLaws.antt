-- Squares, rectangles and pieces are equal where their parts are.
use Rattle.geo_core.proofs.Common.{◌≡◌, refl, Square, Rect, Piece}

pub square_is : (a b : Square) → a.x ≡ b.x → a.y ≡ b.y → a ≡ b
square_is a b columns rows = let whole : record { x = a.x; y = a.y } ≡ b = rw (columns, rows) refl in whole

pub rect_is : (a b : Rect) → a.xlo ≡ b.xlo → a.ylo ≡ b.ylo → a.xhi ≡ b.xhi → a.yhi ≡ b.yhi → a ≡ b
rect_is a b left bottom right top =
    let whole : record { xlo = a.xlo; ylo = a.ylo; xhi = a.xhi; yhi = a.yhi } ≡ b = rw (left, bottom, right, top) refl in whole

pub piece_is : (a b : Piece) → a.area ≡ b.area → a.value ≡ b.value → a ≡ b
piece_is a b areas values = let whole : record { area = a.area; value = a.value } ≡ b = rw (areas, values) refl in whole
