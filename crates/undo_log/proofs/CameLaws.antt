-- Cells come to a library: inverses lead on from it as before.
use Rattle.undo_log.proofs.Common.{◌≡◌, ◌<◌, ◌≤◌, ◌-◌, ◌+◌, ℕ, zero, suc, List, [], ◌∷◌, ◌++◌, length, map, drop, refl, sym, ap, subst, ◌∙◌, arith}
use Rattle.undo_log.proofs.Common.{All, slice_get, slice_index_or, length-append, map-append, get_or_from_slice_get, slice_get_within, Distinct}
use Rattle.undo_log.proofs.Common.{UseBody, Held, IsLawfulLibrary, LibraryParts, seen, IsLawfulView, CellView, LibraryView, changed_at, no_cell}
use Rattle.undo_log.proofs.Common.{view_at, count_seen, Change, Repaint, InsertUse, DeleteUse, MoveUse, SetGrid, AddLabel, DropLabel, SetLabels}
use Rattle.undo_log.proofs.Common.{Inverse, CellsCame, LeadTo, SpeaksOf, changed, Version}
use Rattle.std.proofs.lemmas.List.{drop-map, drop_at, get_or-append_right, get_or_append_left, length-map}
use Rattle.geo_core.proofs.FiniteSets.Places.{All-slice_get}
use Rattle.tech_model.specs.declared.raw.RawTech.{RawTech}
use Rattle.cell_tree.specs.Sizes.{CellState}
use Rattle.cell_tree.specs.Trees.{cell_at, empty_cell}
use Rattle.edit_script.specs.CellLibrary.Libraries.{cells_seen, uses_in}
use Rattle.edit_script.specs.CellLibrary.Views.{names_of}
use Rattle.edit_script.proofs.CellLibrary.UseEdits.{uses_here}
use Rattle.edit_script.proofs.CellLibrary.ViewLaws.{names_seen}
use Rattle.undo_log.specs.Laws.{CellsMayCome}
use Rattle.undo_log.proofs.CellLaws.{count_kept}
use Rattle.undo_log.proofs.ChangeLaws.{changed_is, remade}
use Rattle.undo_log.proofs.MoreCells.{StandApart, more_lawful, more_seen, with_more}

-- ---- changes

-- a change of a cell leaves its name
name_kept : (change : Change) (body : CellView) → (remade change body).name ≡ body.name
name_kept (Repaint area pieces) body = refl
name_kept (InsertUse at id used) body = refl
name_kept (DeleteUse id) body = refl
name_kept (MoveUse id dx dy) body = refl
name_kept (SetGrid id grid) body = refl
name_kept (AddLabel label) body = refl
name_kept DropLabel body = refl
name_kept (SetLabels labels) body = refl

-- so the names are the same
names_kept : (cells : List CellView) (cell : ℕ) (change : Change) → names_of (changed_at cells cell (remade change)) ≡ names_of cells
names_kept [] cell change = refl
names_kept (body ∷ cells) zero change = ap (λ name. name ∷ names_of cells) (name_kept change body)
names_kept (body ∷ cells) (suc cell) change = ap (λ names. body.name ∷ names) (names_kept cells cell change)

-- a change of one of the first cells leaves those behind them
changed_front : (cells more : List CellView) (cell : ℕ) (change : CellView → CellView) → cell < length cells
    → changed_at (cells ++ more) cell change ≡ changed_at cells cell change ++ more
changed_front [] more cell change below = absurd (omega arith)
changed_front (body ∷ cells) more zero change below = refl
changed_front (body ∷ cells) more (suc cell) change below = ap (λ rest. body ∷ rest) (changed_front cells more cell change (omega arith))

-- ---- one library

module _ (old new : LibraryView) (came : CellsCame old new) (cell : ℕ) (there : cell < length old.cells) where
  -- the cell is there
  pub still_there : cell < length new.cells
  still_there = let long = length-append old.cells came.more in let same = ap length came.cells in omega arith

  -- and as it was
  pub still_same : view_at new cell ≡ view_at old cell
  still_same =
      ap (λ (cells : List CellView). slice_index_or cells cell no_cell) came.cells ∙ get_or_append_left old.cells came.more no_cell cell there

  -- the same cells have come after a change of the cell
  pub came_after : (change : Change) → CellsCame (changed old cell change) (changed new cell change)
  came_after change =
      let first = changed_is old cell change in
      let second = changed_is new cell change in
      let f : CellView → CellView = remade change in
      let count : length (changed old cell change).cells ≡ length old.cells =
      ap (λ (view : LibraryView). length view.cells) first ∙ count_kept old cell f in
      record {
        more = came.more;
        cells = ap (λ (view : LibraryView). view.cells) second ∙ ap (λ (cells : List CellView). changed_at cells cell f) came.cells
            ∙ changed_front old.cells came.more cell f there
            ∙ ap (λ (view : LibraryView). view.cells ++ came.more) (sym first);
        tech = ap (λ (view : LibraryView). view.tech) second ∙ came.tech ∙ ap (λ (view : LibraryView). view.tech) (sym first);
        scale = λ some. ap (λ (view : LibraryView). view.scale) second ∙ came.scale (omega arith)
            ∙ ap (λ (view : LibraryView). view.scale) (sym first);
        apart = subst (λ (n : ℕ). All (λ (body : CellView). All (λ (entry : List ℕ × UseBody). n ≤ entry.1.child.0) body.uses) came.more)
            (sym count) came.apart;
      }

-- ---- lawful libraries

-- the cells that came use none of the others
stand_apart : (old new : LibraryView) (came : CellsCame old new) (library : LibraryParts) → IsLawfulLibrary library → seen library ≡ new
    → StandApart (length old.cells) library.tree.cells
stand_apart old new came library lawful is key cell past found k entry stands =
    All-slice_get (λ (e : List ℕ × UseBody). length old.cells ≤ e.1.child.0) (view_at new key).uses k entry
    (subst (λ (body : CellView). All (λ (e : List ℕ × UseBody). length old.cells ≤ e.1.child.0) body.uses) (sym here)
    (came.apart (key - length old.cells) no_cell in_more))
    (ap (λ (uses : List (List ℕ × UseBody)). slice_get uses k) uses ∙ stands)
  where
    in_tree : key < length library.tree.cells
    in_tree = slice_get_within library.tree.cells key cell found

    below : key < length library.contents
    below = let many = lawful.so_many in let within = in_tree in omega arith

    counted : length new.cells ≡ length library.contents
    counted = ap (λ (view : LibraryView). length view.cells) (sym is) ∙ count_seen library

    long : length new.cells ≡ length old.cells + length came.more
    long = ap length came.cells ∙ length-append old.cells came.more

    in_more : key - length old.cells < length came.more
    in_more = let a = counted in let b = long in let within = below in omega arith

    here : view_at new key ≡ slice_index_or came.more (key - length old.cells) no_cell
    here =
        ap (λ (cells : List CellView). slice_index_or cells key no_cell) came.cells
        ∙ get_or-append_right old.cells came.more (length old.cells) key no_cell refl past

    state : cell_at library.tree.cells key ≡ cell
    state = get_or_from_slice_get library.tree.cells key cell empty_cell found

    uses : (view_at new key).uses ≡ cell.uses
    uses =
        ap (λ (view : LibraryView). (view_at view key).uses) (sym is) ∙ uses_here library lawful key below
        ∙ ap (λ (s : CellState). s.uses) state

-- A lawful library with the names of another to which cells came is lawful with these cells.
came_lawful : (old new before after : LibraryView) → (came : CellsCame old new) → (with_them : CellsCame before after) → with_them.more ≡ came.more
    → 0 < length old.cells → names_of before.cells ≡ names_of old.cells → length before.cells ≡ length old.cells → before.tech ≡ old.tech
    → IsLawfulView before → IsLawfulView new → IsLawfulView after
came_lawful old new before after came with_them same some names count tech (a, a_lawful, a_is) (b, b_lawful, b_is) =
    (with_more a b a_lawful b_lawful n some long fits apart b_tech differ, more_lawful a b a_lawful b_lawful n some long fits apart b_tech differ, is)
  where
    n : ℕ
    n = length old.cells

    long : length a.contents ≡ n
    long = sym (count_seen a) ∙ ap (λ (view : LibraryView). length view.cells) a_is ∙ count

    fits : n ≤ length b.contents
    fits =
        let counted : length new.cells ≡ length b.contents = ap (λ (view : LibraryView). length view.cells) (sym b_is) ∙ count_seen b in
        let whole : length new.cells ≡ length old.cells + length came.more = ap length came.cells ∙ length-append old.cells came.more in
        omega arith

    apart : StandApart n b.tree.cells
    apart = stand_apart old new came b b_lawful b_is

    b_tech : b.tech ≡ a.tech
    b_tech =
        ap (λ (view : LibraryView). view.tech) b_is ∙ came.tech ∙ sym tech ∙ ap (λ (view : LibraryView). view.tech) (sym a_is)

    new_names : names_of new.cells ≡ names_of old.cells ++ names_of came.more
    new_names = ap names_of came.cells ∙ map-append (λ (body : CellView). body.name) old.cells came.more

    a_names : map (λ (held : Held). held.name) a.contents ≡ names_of old.cells
    a_names =
        sym (names_seen a.contents (uses_in a.tree.cells)) ∙ ap (λ (view : LibraryView). names_of view.cells) a_is ∙ names

    b_names : map (λ (held : Held). held.name) b.contents ≡ names_of new.cells
    b_names = sym (names_seen b.contents (uses_in b.tree.cells)) ∙ ap (λ (view : LibraryView). names_of view.cells) b_is

    later_names : map (λ (held : Held). held.name) (drop n b.contents) ≡ names_of came.more
    later_names =
        sym (drop-map (λ (held : Held). held.name) n b.contents) ∙ ap (drop n) (b_names ∙ new_names)
        ∙ drop_at (names_of old.cells) (names_of came.more) n (length-map old.cells (λ (body : CellView). body.name))

    all_names : map (λ (held : Held). held.name) (a.contents ++ drop n b.contents) ≡ map (λ (held : Held). held.name) b.contents
    all_names =
        map-append (λ (held : Held). held.name) a.contents (drop n b.contents) ∙ (λ i. a_names i ++ later_names i) ∙ sym (b_names ∙ new_names)

    differ : Distinct (map (λ (held : Held). held.name) (a.contents ++ drop n b.contents))
    differ = subst Distinct (sym all_names) b_lawful.names_differ

    later : drop n (cells_seen b.contents b.tree) ≡ came.more
    later = ap (λ (view : LibraryView). drop n view.cells) b_is ∙ ap (drop n) came.cells ∙ drop_at old.cells came.more n refl

    cells : cells_seen (a.contents ++ drop n b.contents) (with_more a b a_lawful b_lawful n some long fits apart b_tech differ).tree ≡ after.cells
    cells =
        more_seen a b a_lawful b_lawful n some long fits apart b_tech differ
        ∙ (λ i. ap (λ (view : LibraryView). view.cells) a_is i ++ (later ∙ sym same) i) ∙ sym with_them.cells

    raw : a.tech ≡ after.tech
    raw = ap (λ (view : LibraryView). view.tech) a_is ∙ sym with_them.tech

    scale : a.scale ≡ after.scale
    scale = ap (λ (view : LibraryView). view.scale) a_is ∙ sym (with_them.scale (omega arith))

    is : seen (with_more a b a_lawful b_lawful n some long fits apart b_tech differ) ≡ after
    is = λ i. record { tech = raw i; scale = scale i; cells = cells i }

-- ---- inverses

-- inverses lead on from a library to which cells came
pub leads_still : (old new : LibraryView) (inverses : List Inverse) (versions : List Version) → CellsCame old new → IsLawfulView new
    → LeadTo old inverses versions → LeadTo new inverses versions
unfolding came_after
leads_still old new [] [] came lawful leads = tt
leads_still old new [] (version ∷ versions) came lawful leads = absurd leads
leads_still old new (inverse ∷ inverses) [] came lawful leads = absurd leads
leads_still old new (inverse ∷ inverses) (version ∷ versions) came lawful leads =
    let cell : ℕ = inverse.cell.0 in
    let change : Change = inverse.change in
    let there : cell < length old.cells = leads.0.there in
    let before : LibraryView = changed old cell change in
    let after : LibraryView = changed new cell change in
    let is = changed_is old cell change in
    let then_came : CellsCame before after = came_after old new came cell there change in
    let count : length before.cells ≡ length old.cells =
    ap (λ (view : LibraryView). length view.cells) is ∙ count_kept old cell (remade change) in
    let lawful_then : IsLawfulView after =
    came_lawful old new before after came then_came refl (omega arith)
    (ap (λ (view : LibraryView). names_of view.cells) is ∙ names_kept old.cells cell change) count
    (ap (λ (view : LibraryView). view.tech) is) leads.0.lawful lawful in (
      record {
        there = still_there old new came cell there;
        speaks = subst (λ (raw : RawTech). SpeaksOf raw (view_at new cell) change) (sym came.tech)
            (subst (λ (body : CellView). SpeaksOf old.tech body change) (sym (still_same old new came cell there)) leads.0.speaks);
        lawful = lawful_then;
      },
      leads.1 ∙ ap (λ (body : CellView). record { cell = cell; body = body }) (sym (still_same before after then_came cell (omega arith))),
      leads_still before after inverses versions then_came lawful_then leads.2,
    )

-- a log keeps its versions
pub cells_come : CellsMayCome
cells_come old new log versions came lawful keeps = record {
  done = leads_still old new log.done versions.done came lawful keeps.done;
  undone = leads_still old new log.undone versions.undone came lawful keeps.undone;
}
