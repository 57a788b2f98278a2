-- Records in whose places plain forms are put.
use Rattle.plain_records.proofs.Common.{◌≡◌, ℕ, ◌<◌, ◌+◌, Bool, true, false, List, [], length, take, get_or, inl, inr, refl, sym, ◌∙◌, ap, subst}
use Rattle.plain_records.proofs.Common.{arith, Some, slice_get, length-map, take_more, slice_get_read, same_Some, In, Distinct, In-slice_get, All-In}
use Rattle.plain_records.proofs.Common.{CellExt, ArrayExt, IsLawfulArrayExt, plain, AreArrayRecords, with_merges, AreCalled, AreExpanded}
use Rattle.std.proofs.Common.{◌⊎◌, All, set}
use Rattle.std.proofs.Math.Seq.{map-set_same}
use Rattle.std.proofs.lemmas.Bool.{cases_eq}
use Rattle.std.proofs.lemmas.List.{get_or-map}
use Rattle.std.proofs.lemmas.List.Elements.{All-set}
use Rattle.finite_sets.proofs.Members.{In-push_cases}
use Rattle.finite_sets.proofs.Places.{slice_get-set_same, slice_get-set_other}
use Rattle.ext_model.specs.declared.records.TermRec.{TermRec}
use Rattle.ext_model.specs.declared.records.FetRec.{FetRec}
use Rattle.ext_model.specs.Lawful.{IsLawful, IsLawfulTerm, IsLawfulFet}
use Rattle.plain_records.specs.Reached.{form}

-- a transistor is lawful in a record without its merges
bare_term : (ext : CellExt) (side : TermRec) → IsLawfulTerm ext side → IsLawfulTerm (with_merges false ext) side
bare_term ext side is = record { node = is.node; length = is.length }

bare_fet : (ext : CellExt) (fet : FetRec) → IsLawfulFet ext fet → IsLawfulFet (with_merges false ext) fet
bare_fet ext fet is = record {
  kind = is.kind;
  substrate = is.substrate;
  x = is.x;
  y = is.y;
  x_below_edge = is.x_below_edge;
  y_below_edge = is.y_below_edge;
  area = is.area;
  perimeter = is.perimeter;
  gate = bare_term ext fet.gate is.gate;
  terminals = λ k d h. bare_term ext (get_or fet.terminals k d) (is.terminals k d h);
  lengths = is.lengths;
}

-- a record is lawful with its merges and without
form_lawful : (merged : Bool) (ext : CellExt) → IsLawful ext → IsLawful (with_merges merged ext)
form_lawful true ext is = is
form_lawful false ext is = record {
  tech = is.tech;
  classes = is.classes;
  uses = is.uses;
  nodes = is.nodes;
  fets = λ k d h. bare_fet ext (get_or ext.fets k d) (is.fets k d h);
  merges = λ k d h. absurd (omega (arith, h));
  node_names_differ = is.node_names_differ;
  element_names_differ = is.element_names_differ;
}

-- the plain form of one more record stands in its place
pub expand_more : (merged : Bool) (exts : List ArrayExt) (order : List ℕ) (records : List CellExt) (i : ℕ) (ext : ArrayExt) (one : CellExt)
    → AreArrayRecords exts → All (λ cell. cell < length exts) order → i < length order → AreExpanded merged exts (take i order) records
    → ext ≡ get_or exts (get_or order i 0) ext → one ≡ form merged ext
    → AreExpanded merged exts (take (i + 1) order) (set records (get_or order i 0) one)
expand_more merged exts order records i ext one are within below done read is = record {
  lawful = record { lawful = All-set IsLawful records cell one one_lawful done.lawful.lawful; cells_differ = subst D (sym called) are.cells_differ };
  called = called;
  plain = λ other e there at.
      places other e (In-push_cases other (take i order) cell (subst (λ z. In other z) (take_more order i 0 below) there)) at (cases_eq other cell);
}
  where
    cell : ℕ
    cell = get_or order i 0

    inside : cell < length exts
    inside = within i 0 below

    here : slice_get exts cell ≡ Some ext
    here = slice_get_read exts (length exts) cell ext refl inside read

    D : List (List ℕ) → Type 0
    D = Distinct

    long : length records ≡ length exts
    long = sym (length-map records (λ (z : CellExt). z.cell)) ∙ ap length done.called ∙ length-map exts (λ (z : ArrayExt). z.cell)

    one_lawful : IsLawful one
    one_lawful =
        let lawful = All-In IsLawfulArrayExt exts ext are.lawful (In-slice_get exts cell ext here) in
        subst IsLawful (sym is) (form_lawful merged (plain ext) lawful.plain)

    named : one.cell ≡ (get_or records cell one).cell
    named =
        ap (λ (z : CellExt). z.cell) is ∙ ap (λ (z : ArrayExt). z.cell) read
        ∙ sym (get_or-map (λ (z : ArrayExt). z.cell) exts cell ext [] inside)
        ∙ sym (ap (λ z. get_or z cell []) done.called)
        ∙ get_or-map (λ (z : CellExt). z.cell) records cell one [] (omega (arith, inside, long))

    called : AreCalled exts (set records cell one)
    called = map-set_same (λ (z : CellExt). z.cell) records cell one one named ∙ done.called

    places : (other : ℕ) (e : ArrayExt) → In other (take i order) ⊎ (cell ≡ other) → slice_get exts other ≡ Some e → (other ≡ cell) ⊎ (other ≡ cell → ⊥)
        → slice_get (set records cell one) other ≡ Some (form merged e)
    places other e there at (inl same) =
        let same_ext : ext ≡ e = same_Some ext e (sym here ∙ ap (slice_get exts) (sym same) ∙ at) in
        ap (slice_get (set records cell one)) same ∙ slice_get-set_same records cell one (omega (arith, inside, long))
        ∙ ap Some (is ∙ ap (form merged) same_ext)
    places other e (inl there) at (inr apart) = slice_get-set_other records cell other one apart ∙ done.plain other e there at
    places other e (inr same) at (inr apart) = absurd (apart (sym same))
