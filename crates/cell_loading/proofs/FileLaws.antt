-- What the file of a cell gives rests on that file alone, and so does what a load comes to.
use Rattle.cell_loading.proofs.Common.{◌≡◌, ℕ, List, inl, inr, sym, ap, subst, Result, Ok, Err, Files, LibraryView, Draft, LoadFault, LoadIsRefused}
use Rattle.cell_loading.proofs.Common.{cell_files, with_name}
use Rattle.std.proofs.Common.{Option}
use Rattle.session_model.specs.Fetches.{AgreeOn, if_short, text_in}
use Rattle.session_model.specs.FileTrees.{GivesByFile}
use Rattle.session_model.proofs.FileTreeLaws.{file_refused_rests, rests_on_fetched}
use Rattle.cell_loading.specs.CellFiles.{ReadCell, cell_file, file_gives, text_gives}
use Rattle.cell_loading.specs.Loads.{IsLoaded}

-- what is given is given with the name that was asked for
given_named : (name : List ℕ) (given : Result Draft LoadFault) (said : ReadCell) → with_name name given ≡ Ok said → said.0 ≡ name
given_named name (Ok draft) said gives =
    let same : (name, draft) ≡ said = cc in
    ap (λ (cell : ReadCell). cell.0) (sym same)
given_named name (Err told) said gives = let no : ⊥ = cc in absurd no

pub gives_by_file : (view : LibraryView) → GivesByFile (cell_files view)
unfolding file_gives text_in
gives_by_file view = record {
  same = λ files others read name agree.
      ap (λ (bytes : Option (List ℕ)). with_name name (text_gives view read (cell_file name) (if_short bytes))) agree;
  named = λ files read name said gives. given_named name (file_gives files view read name) said gives;
}

-- a load comes to the same
pub loaded_rests : (files others : Files) (view after : LibraryView) (edits : ℕ) (root : List ℕ) (count : ℕ) (fetched : List (List ℕ))
    → IsLoaded files view after edits root count fetched → AgreeOn fetched files others → IsLoaded others view after edits root count fetched
loaded_rests files others view after edits root count fetched loaded agree = record {
  new = loaded.new;
  bodies = loaded.bodies;
  are_read = record {
    read = loaded.are_read.read;
    reads = rests_on_fetched (cell_files view) files (gives_by_file view) others loaded.are_read.reads
        (subst (λ (names : List (List ℕ)). AgreeOn names files others) loaded.fetched_are agree);
    are_bodies = loaded.are_read.are_bodies;
  };
  may_come = loaded.may_come;
  after_is = loaded.after_is;
  count_is = loaded.count_is;
  fetched_are = loaded.fetched_are;
}

-- and what is refused is refused
pub refused_rests : (files others : Files) (view : LibraryView) (edits : ℕ) (root : List ℕ) (fetched : List (List ℕ)) (told : LoadFault)
    → LoadIsRefused files view edits root fetched told → AgreeOn fetched files others → LoadIsRefused others view edits root fetched told
refused_rests files others view edits root fetched told (inl known) agree = inl known
refused_rests files others view edits root fetched told (inr (new, inl file)) agree =
    inr (new, inl (file_refused_rests (cell_files view) files (gives_by_file view) others root fetched told file agree))
refused_rests files others view edits root fetched told (inr (new, inr cells)) agree = inr (
  new,
  inr (record {
    bodies = cells.bodies;
    are_read = record {
      read = cells.are_read.read;
      reads = rests_on_fetched (cell_files view) files (gives_by_file view) others cells.are_read.reads
          (subst (λ (names : List (List ℕ)). AgreeOn names files others) cells.fetched_are agree);
      are_bodies = cells.are_read.are_bodies;
    };
    refused = cells.refused;
    is_refused = cells.is_refused;
    is = cells.is;
    fetched_are = cells.fetched_are;
  }),
)
