mod PieceRects
mod Rows
