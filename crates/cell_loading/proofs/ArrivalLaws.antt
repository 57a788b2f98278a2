-- Cells that come to the library, and what a load means by that.
use Rattle.cell_loading.proofs.Common.{◌≡◌, ◌+◌, ◌<◌, inl, inr, ℕ, List, [], ◌∷◌, length, length-append, sym, ap, ◌∙◌, arith, IsSome, Option}
use Rattle.cell_loading.proofs.Common.{length-map, Files, CallPlan, GivesFetching, StopsAsking, CellBody, names_with, LibraryParts, seen, uses_in}
use Rattle.cell_loading.proofs.Common.{LibraryView, cell_named, LoadFault, AreRead, LoadGives, LoadIsRefused, cell_files, files_read}
use Rattle.std.proofs.Common.{map}
use Rattle.session_model.proofs.FileTreeLaws.{file_refused_asking}
use Rattle.mag_text.specs.CellLibrary.Additions.{kept_cell, with_all}
use Rattle.mag_text.specs.CellLibrary.Libraries.{edits_of}
use Rattle.mag_text.proofs.CellLibrary.ViewLaws.{length-cell_views}
use Rattle.cell_loading.specs.declared.loading.Loaded.{Loaded}
use Rattle.cell_loading.specs.declared.loading.Loaded.TheVariants as loaded
use Rattle.cell_loading.specs.Arrivals.{Arrives}
use Rattle.cell_loading.proofs.ReadingLaws.{files_same}

-- there are more cells than before
pub more_cells : (old new : LibraryParts) (cells : List (List ℕ × CellBody)) → 0 < length cells → seen new ≡ with_all (seen old) cells
    → length old.contents < length new.contents
more_cells old new cells some came =
    let all : length (seen new).cells ≡ length (seen old).cells + length cells =
    ap (λ (view : LibraryView). length view.cells) came
    ∙ length-append (seen old).cells (map (kept_cell (names_with (seen old) cells)) cells)
    ∙ ap (λ (n : ℕ). length (seen old).cells + n) (length-map cells (kept_cell (names_with (seen old) cells))) in
    omega (arith, all, some, length-cell_views old.contents (uses_in old.tree.cells), length-cell_views new.contents (uses_in new.tree.cells))

-- cells that were read and came are a load, and so is the refusal of them
pub arrived : (files : Files) (old new : LibraryParts) (root : List ℕ) (bodies : List (List ℕ × CellBody)) (given : Loaded)
    → (IsSome (cell_named (seen old) root) → ⊥) → AreRead files (seen old) root bodies → Arrives old new bodies given
    → LoadGives files old new root given (files_read bodies)
arrived files old new root bodies (loaded.Cells count) unknown read came = (
  came.edits,
  record {
    new = unknown;
    bodies = bodies;
    are_read = read;
    may_come = came.may_come;
    after_is = came.after;
    count_is = came.count_is;
    fetched_are = sym (files_same (seen old) read.read bodies read.are_bodies);
  },
)
arrived files old new root bodies (loaded.Refused told) unknown read stay =
    inr (
      unknown,
      inr (record {
        bodies = bodies;
        are_read = read;
        refused = stay.refused;
        is_refused = stay.is_refused;
        is = stay.is;
        fetched_are = sym (files_same (seen old) read.read bodies read.are_bodies);
      }),
    )

-- a file that is refused refuses the load
pub file_refuses : (files : Files) (old : LibraryParts) (root : List ℕ) (plan now : Option CallPlan) (told : LoadFault)
    → (IsSome (cell_named (seen old) root) → ⊥) → StopsAsking (cell_files (seen old)) files [] (root ∷ []) plan now told
    → GivesFetching (λ fetched. LoadIsRefused files (seen old) (edits_of old) root fetched told) plan now
file_refuses files old root plan now told unknown stops =
    let (fetched, refused, asked) = file_refused_asking (cell_files (seen old)) files root plan now told stops in
    (fetched, inr (unknown, inl refused), asked)
