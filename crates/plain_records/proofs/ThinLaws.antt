-- Thin records are records of a tree.
use Rattle.plain_records.proofs.Common.{◌≡◌, ℕ, List, [], ◌∷◌, ◌++◌, map, refl, sym, ◌∙◌, ap, subst, arith, flat_map, map-append, In, Distinct}
use Rattle.plain_records.proofs.Common.{In-map_source, All-In, All-from_In, UseRec, CellExt, ArrayUse, ArrayExt, IsLawfulArrayExt, plain_uses}
use Rattle.plain_records.proofs.Common.{AreRecords, AreArrayRecords, first_use, thin, thins}
use Rattle.finite_sets.proofs.Members.{In-map}
use Rattle.finite_sets.proofs.Distincts.{Distinct-append_right, Distinct-append_apart}
use Rattle.finite_sets.proofs.Images.{In-flat_map}
use Rattle.ext_model.specs.Lawful.{IsLawful, IsLawfulUse}
use Rattle.plain_records.proofs.UseLaws.{first_in}

abbrev ids : List UseRec → List (List ℕ)
ids uses = map (λ used. used.id) uses

-- first elements have different names where all elements have
firsts_differ : (uses : List ArrayUse) → Distinct (ids (flat_map plain_uses uses)) → Distinct (ids (map first_use uses))
firsts_differ [] differ = tt
firsts_differ (used ∷ uses) differ =
    let split : ids (flat_map plain_uses (used ∷ uses)) ≡ ids (plain_uses used) ++ ids (flat_map plain_uses uses) =
    map-append (λ (z : UseRec). z.id) (plain_uses used) (flat_map plain_uses uses) in
    let D : List (List ℕ) → Type 0 = Distinct in
    let parts = subst D split differ in
    let apart : In (first_use used).id (ids (map first_use uses)) → ⊥ =
    λ here. (let made = In-map_source (λ (z : UseRec). z.id) (first_use used).id (map first_use uses) here in
    let from = In-map_source first_use made.0 uses made.1.0 in
    let later = In-flat_map plain_uses from.0 (first_use from.0) uses from.1.0 (first_in from.0) in
    let same : (first_use from.0).id ≡ (first_use used).id = ap (λ (z : UseRec). z.id) from.1.1 ∙ made.1.1 in
    let I : List ℕ → Type 0 = λ z. In z (ids (flat_map plain_uses uses)) in
    Distinct-append_apart (ids (plain_uses used)) (ids (flat_map plain_uses uses)) parts (first_use used).id
    (In-map (λ (z : UseRec). z.id) (first_use used) (plain_uses used) (first_in used))
    (subst I same (In-map (λ (z : UseRec). z.id) (first_use from.0) (flat_map plain_uses uses) later))) in
    (apart, firsts_differ uses (Distinct-append_right (ids (plain_uses used)) (ids (flat_map plain_uses uses)) parts))

thin_lawful : (ext : ArrayExt) → IsLawfulArrayExt ext → IsLawful (thin ext)
thin_lawful ext is = record {
  tech = is.plain.tech;
  classes = omega arith;
  uses = All-from_In IsLawfulUse (map first_use ext.uses) (λ one here.
      let made = In-map_source first_use one ext.uses here in
      subst IsLawfulUse made.1.1 (All-In IsLawfulUse (flat_map plain_uses ext.uses) (first_use made.0) is.plain.uses
      (In-flat_map plain_uses made.0 (first_use made.0) ext.uses made.1.0 (first_in made.0))));
  nodes = λ k d h. absurd (omega (arith, h));
  fets = λ k d h. absurd (omega (arith, h));
  merges = λ k d h. absurd (omega (arith, h));
  node_names_differ = tt;
  element_names_differ = firsts_differ ext.uses is.plain.element_names_differ;
}

-- forms of records that have their cells
pub cells-form : (f : ArrayExt → CellExt) → ((ext : ArrayExt) → (f ext).cell ≡ ext.cell) → (exts : List ArrayExt)
    → map (λ ext. ext.cell) (map f exts) ≡ map (λ ext. ext.cell) exts
cells-form f same [] = refl
cells-form f same (ext ∷ exts) = let first = same ext in let rest = cells-form f same exts in cc

pub thins_are_records : (exts : List ArrayExt) → AreArrayRecords exts → AreRecords (thins exts)
thins_are_records exts are = record {
  lawful = All-from_In IsLawful (thins exts) (λ one here.
      let made = In-map_source thin one exts here in
      subst IsLawful made.1.1 (thin_lawful made.0 (All-In IsLawfulArrayExt exts made.0 are.lawful made.1.0)));
  cells_differ = (let D : List (List ℕ) → Type 0 = Distinct in subst D (sym (cells-form thin (λ ext. refl) exts)) are.cells_differ);
}
