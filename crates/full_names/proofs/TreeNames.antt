-- The elements of a tree of lawful records: their records, and the names that lead to them.
use Rattle.full_names.proofs.Common.{◌≡◌, ℕ, zero, suc, ◌<◌, List, [], ◌∷◌, ◌++◌, Some, map, inl, inr, sym, ◌∙◌, ap, subst, arith, slice_get}
use Rattle.full_names.proofs.Common.{map-append, slice_get-map, option_map, UseRec, CellExt, slashes_in, AreWhole, IsLawful, Element, ids_of}
use Rattle.full_names.proofs.Common.{AreRecords, ElementTree, IsTreeOfElements, flat_at}
use Rattle.ext_model.proofs.FiniteSets.Places.{one_place, All-slice_get}
use Rattle.ext_model.specs.Lawful.{IsLawfulUse}
use Rattle.ext_model.proofs.RecordNameLaws.{slashes_in-node_name}
use Rattle.full_names.proofs.TreeLaws.{are_at, stands_for}

AreWhole-push : (ids : List (List ℕ)) (id : List ℕ) → AreWhole ids → slashes_in id ≡ 0 → AreWhole (ids ++ id ∷ [])
AreWhole-push [] id whole none = (none, tt)
AreWhole-push (first ∷ ids) id whole none = (whole.0, AreWhole-push ids id whole.1 none)

-- no two places have one record
pub one_record : (exts : List CellExt) → AreRecords exts → (a b : ℕ) (ext : CellExt) → slice_get exts a ≡ Some ext → slice_get exts b ≡ Some ext → a ≡ b
one_record exts records a b ext at-a at-b =
    let cell : CellExt → List ℕ = λ (e : CellExt). e.cell in
    one_place (map cell exts) a b (cell ext) records.cells_differ (slice_get-map cell exts a ∙ ap (option_map cell) at-a)
    (slice_get-map cell exts b ∙ ap (option_map cell) at-b)

module _ (exts : List CellExt) (elements : List Element) (tree : ElementTree) (records : AreRecords exts) (is : IsTreeOfElements exts elements tree) where
  pub lawful_at : (number : ℕ) (element : Element) → slice_get elements number ≡ Some element → IsLawful element.ext
  lawful_at number element at =
      All-slice_get IsLawful exts (flat_at tree.elements number).cell element.ext records.lawful (stands_for exts elements tree is number element at).record_

  -- the names that lead to an element have no slashes
  whole_below : (bound number : ℕ) (element : Element) → number < bound → slice_get elements number ≡ Some element → AreWhole (ids_of element)
  whole_below zero number element below at = absurd (omega arith)
  whole_below (suc bound) number element below at =
      elim (is.parents number element (flat_at tree.elements number) (are_at exts elements tree is number element at)) [
        | inl none ↦ subst AreWhole (sym (ap (map (λ (used : UseRec). used.id)) none)) tt
        | inr stands ↦ (let above = whole_below bound (flat_at tree.elements number).parent stands.parent
            (let less = stands.lesser in omega arith) stands.found in
            let lawful = lawful_at (flat_at tree.elements number).parent stands.parent stands.found in
            let used = All-slice_get IsLawfulUse stands.parent.ext.uses (flat_at tree.elements number).at stands.used lawful.uses stands.use_of in
            subst AreWhole (sym (ap (map (λ (u : UseRec). u.id)) stands.uses ∙ map-append (λ (u : UseRec). u.id) stands.parent.uses (stands.used ∷ [])))
            (AreWhole-push (ids_of stands.parent) stands.used.id above (slashes_in-node_name stands.used.id used.id)))
      ]

  pub whole_at : (number : ℕ) (element : Element) → slice_get elements number ≡ Some element → AreWhole (ids_of element)
  whole_at number element at = whole_below (suc number) number element (omega arith) at
