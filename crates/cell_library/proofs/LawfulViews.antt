-- What a lawful library with sound paint is seen as.
use Rattle.cell_library.proofs.Common.{◌≡◌, ◌<◌, ℕ, List, length, refl, sym, ap, subst, arith, All, TypeRec, Layout, IsSoundPaint, layout_of}
use Rattle.cell_library.proofs.Common.{IsSoundHeld, held_at, no_held, IsLawfulLibrary, LibraryParts, seen, uses_in, CellView, no_cell, view_at}
use Rattle.std.proofs.lemmas.List.{get_or_default}
use Rattle.cell_library.specs.LawfulViews.{HasSoundPaint, IsSoundView}
use Rattle.cell_library.proofs.ViewLaws.{cell_viewed, count_seen}

module _ (library : LibraryParts) (lawful : IsLawfulLibrary library) where
  -- a cell is seen with what is kept of its paint
  own_seen : (cell : ℕ) → cell < length library.contents
      → (view_at (seen library) cell).own ≡ layout_of (held_at library.contents cell).paint
  own_seen cell below = ap (λ (body : CellView). body.own) (cell_viewed library.contents (uses_in library.tree.cells) cell below)

  -- what is kept sound is seen so
  pub sound_view : All IsSoundHeld library.contents → IsSoundView (seen library)
  sound_view sound = record {
    lawful = (library, lawful, refl);
    paint = λ k d below.
        let there : k < length library.contents = omega (arith, below, count_seen library) in
        let held = held_at library.contents k in
        let kept = subst (λ (types : List TypeRec). IsSoundPaint types (layout_of held.paint)) (lawful.each k no_held there).kinds
        (sound k no_held there) in
        subst (λ (body : CellView). IsSoundPaint library.tech.types body.own) (get_or_default (seen library).cells k no_cell d below)
        (subst (λ (layout : Layout). IsSoundPaint library.tech.types layout) (sym (own_seen k there)) kept);
  }

  module _ (paint : HasSoundPaint (seen library)) where
    -- what is kept of the paint of each cell is sound
    pub held_sound : All IsSoundHeld library.contents
    held_sound k d below =
        let held = held_at library.contents k in
        let is = lawful.each k no_held below in
        let here : IsSoundPaint library.tech.types (view_at (seen library) k).own = paint k no_cell (omega (arith, below, count_seen library)) in
        subst IsSoundHeld (get_or_default library.contents k no_held d below)
        (subst (λ (types : List TypeRec). IsSoundPaint types (layout_of held.paint)) (sym is.kinds)
        (subst (λ (layout : Layout). IsSoundPaint library.tech.types layout) (own_seen k below) here))
