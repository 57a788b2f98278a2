-- What a circuit file gives rests on that file alone, and so does what a tree of them comes to.
use Rattle.ext_loading.proofs.Common.{◌≡◌, ℕ, true, false, List, inl, inr, sym, ap, subst, Err, Files, All, ArrayExt, ExtLoadFault, AreRead}
use Rattle.ext_loading.proofs.Common.{LoadIsRefused, circuit_files}
use Rattle.std.proofs.Common.{Bool, Option}
use Rattle.std.specs.Prelude.{nat_le, if◌then◌else◌, length, Result, Ok}
use Rattle.text_form.specs.declared.reading.At.{At}
use Rattle.session_model.specs.declared.fetching.FetchFault.{FetchFault}
use Rattle.session_model.specs.Fetches.{AgreeOn, if_short, text_in}
use Rattle.session_model.specs.FileTrees.{GivesByFile, fetched_by}
use Rattle.session_model.proofs.FileTreeLaws.{file_refused_rests, rests_on_fetched}
use Rattle.ext_reading.specs.declared.faults.ExtReadFault.{ExtReadFault}
use Rattle.ext_reading.specs.Drafts.{Draft}
use Rattle.ext_reading.specs.ExtTexts.{draft_in, record_of}
use Rattle.ext_loading.specs.declared.faults.ExtLoadFault.TheVariants.{TooManyCells}
use Rattle.ext_loading.specs.declared.limits.TheConstants.{MOST_READ_CELLS}
use Rattle.ext_loading.specs.ExtFiles.{ext_file, file_gives, read_gives, text_gives}
use Rattle.text_form.specs.SaidLines.{and_then}

-- what is given where there is room is the record that was read
given_of : (full : Bool) (ext said : ArrayExt) → ◌≡◌ {A = Result ArrayExt ExtLoadFault} (if full then Err TooManyCells else Ok ext) (Ok said)
    → said.cell ≡ ext.cell
given_of true ext said gives = let no : ⊥ = cc in absurd no
given_of false ext said gives =
    let same : ext ≡ said = cc in
    ap (λ (e : ArrayExt). e.cell) (sym same)

-- it is of the cell that was asked for
read_named : (read : List ArrayExt) (name file : List ℕ) (draft : Result Draft (At ExtReadFault)) (said : ArrayExt)
    → read_gives read file (and_then draft (λ one. Ok (record_of name one))) ≡ Ok said → said.cell ≡ name
read_named read name file (Ok draft) said gives = given_of (nat_le MOST_READ_CELLS (length read)) (record_of name draft) said gives
read_named read name file (Err at) said gives = let no : ⊥ = cc in absurd no

text_named : (read : List ArrayExt) (name file : List ℕ) (text : Result (List ℕ) FetchFault) (said : ArrayExt)
    → text_gives read name file text ≡ Ok said → said.cell ≡ name
text_named read name file (Ok text) said gives = read_named read name file (draft_in text) said gives
text_named read name file (Err refused) said gives = let no : ⊥ = cc in absurd no

pub gives_by_file : GivesByFile circuit_files
unfolding file_gives text_in
gives_by_file = record {
  same = λ files others read name agree. ap (λ (bytes : Option (List ℕ)). text_gives read name (ext_file name) (if_short bytes)) agree;
  named = λ files read name said gives. text_named read name (ext_file name) (text_in files (ext_file name)) said gives;
}

-- what was read is read of other files that agree on those that were asked for
pub read_rests : (files others : Files) (root : List ℕ) (exts : List ArrayExt) → AreRead files root exts
    → AgreeOn (fetched_by circuit_files (All exts)) files others → AreRead others root exts
read_rests files others root exts read agree =
    record { reads = rests_on_fetched circuit_files files gives_by_file others read.reads agree; acyclic = read.acyclic }

-- and what is refused is refused
pub refused_rests : (files others : Files) (root : List ℕ) (fetched : List (List ℕ)) (told : ExtLoadFault) → LoadIsRefused files root fetched told
    → AgreeOn fetched files others → LoadIsRefused others root fetched told
refused_rests files others root fetched told (inl file) agree =
    inl (file_refused_rests circuit_files files gives_by_file others root fetched told file agree)
refused_rests files others root fetched told (inr tree) agree = inr (record {
  read = tree.read;
  reads = rests_on_fetched circuit_files files gives_by_file others tree.reads
      (subst (λ (names : List (List ℕ)). AgreeOn names files others) tree.fetched_are agree);
  ext = tree.ext;
  cell = tree.cell;
  first = tree.first;
  is = tree.is;
  fetched_are = tree.fetched_are;
})
