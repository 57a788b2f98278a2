-- The links of merges, and which path leads nowhere first.
use Rattle.name_classes.proofs.Common.{◌≡◌, ◌⊎◌, ℕ, Bool, true, cond, inl, inr, List, [], ◌∷◌, ◌++◌, take, sym, ◌∙◌, ap, subst, arith, length-append}
use Rattle.name_classes.proofs.Common.{Option, Some, None, slice_get, In, slice_get-In, slice_get-one, MergeRec, CellExt, slashes_in, FlatFault}
use Rattle.name_classes.proofs.Common.{Memory, TreeElement, FullNames, MergeEnd, Link, IsEndFrom, HasRecord, IsLink, AreMergeLinks, IsMergeFault}
use Rattle.std.specs.Prelude.{Result, Ok, Err, IfErr}
use Rattle.std.specs.Result.{IsErrAnd}
use Rattle.std.specs.Option.{option_or}
use Rattle.partition.proofs.FiniteSets.Firsts.{first_some-at}
use Rattle.circuit_model.specs.declared.faults.FlatFault.TheVariants.{NoPath}
use Rattle.circuit_model.specs.Refusals.{first_fault, leads, path_fault, merge_fault}
use Rattle.name_classes.specs.steps.Links.{IsPathFault}
use Rattle.name_classes.proofs.ListLaws.{at_place, slice_get-push_both}

-- ---- the first fault of a list

-- ---- paths

-- the record of an element's number is one
pub one_record : (names : FullNames) (number : ℕ) (ext : CellExt) → HasRecord names number ext → (flat : TreeElement) (other : CellExt)
    → slice_get names.tree.now.elements number ≡ Some flat → slice_get names.exts.now flat.cell ≡ Some other → other ≡ ext
one_record names number ext at flat other stands record_ =
    let same : flat ≡ at.flat = slice_get-one names.tree.now.elements number flat at.flat stands at.stands in
    slice_get-one names.exts.now at.flat.cell other ext (subst (λ (f : TreeElement). slice_get names.exts.now f.cell ≡ Some other) same record_) at.record_

pub path_sound : (names : FullNames) (number : ℕ) (ext : CellExt) → HasRecord names number ext → (path : List ℕ) (end : MergeEnd)
    → IsEndFrom names number path end → path_fault names.exts.now ext path ≡ None
path_sound names number ext at path end is =
    let same = one_record names number ext at is.flat is.ext is.stands is.record_ in
    let found : leads (slashes_in path) names.exts.now ext path ≡ true =
    subst (λ (e : CellExt). leads (slashes_in path) names.exts.now e path ≡ true) same is.leads in
    ap (λ (t : Bool). cond t None (Some (NoPath ext.cell path))) found

-- ---- merges

merge_sound : (names : FullNames) (number : ℕ) (ext : CellExt) → HasRecord names number ext → (merge : MergeRec) (link : Link)
    → IsLink names number link merge.first merge.second → merge_fault names.exts.now ext merge ≡ None
merge_sound names number ext at merge link is =
    ap (λ (o : Option FlatFault). option_or o (path_fault names.exts.now ext merge.second)) (path_sound names number ext at merge.first link.first is.first)
    ∙ path_sound names number ext at merge.second link.second is.second

-- a merge whose first path is faulty
pub first_faulty : (exts : List CellExt) (ext : CellExt) (merge : MergeRec) (fault : FlatFault) → path_fault exts ext merge.first ≡ Some fault
    → merge_fault exts ext merge ≡ Some fault
first_faulty exts ext merge fault faulty = ap (λ (o : Option FlatFault). option_or o (path_fault exts ext merge.second)) faulty

-- a merge whose second path alone is faulty
pub second_faulty : (exts : List CellExt) (ext : CellExt) (merge : MergeRec) (fault : FlatFault) → path_fault exts ext merge.first ≡ None
    → path_fault exts ext merge.second ≡ Some fault → merge_fault exts ext merge ≡ Some fault
second_faulty exts ext merge fault sound faulty =
    ap (λ (o : Option FlatFault). option_or o (path_fault exts ext merge.second)) sound ∙ faulty

-- merges that have links have no fault
pub merges_sound : (names : FullNames) (number : ℕ) (ext : CellExt) → HasRecord names number ext → (merges : List MergeRec) (links : List Link)
    → AreMergeLinks names number merges links → (merge : MergeRec) → In merge merges → merge_fault names.exts.now ext merge ≡ None
merges_sound names number ext at merges links are merge within =
    let place = slice_get-In merge merges within in
    let link = at_place links merges place.0 merge (sym are.long) place.1 in
    merge_sound names number ext at merge link.0 (are.each place.0 merge link.0 place.1 link.1)

-- the link of one more merge
pub merge_added : (names : FullNames) (number : ℕ) (merges : List MergeRec) (merge : MergeRec) (links : List Link) (link : Link)
    → AreMergeLinks names number merges links → IsLink names number link merge.first merge.second
    → AreMergeLinks names number (merges ++ merge ∷ []) (links ++ link ∷ [])
merge_added names number merges merge links link are is = record {
  long = omega (arith, length-append merges (merge ∷ []), length-append links (link ∷ []), are.long);
  each = slice_get-push_both (λ (m : MergeRec) (l : Link). IsLink names number l m.first m.second) merges links merge link are.long are.each is;
}

-- the merge with a fault behind those that have links is the first with one
merges_fail : (names : FullNames) (number : ℕ) (ext : CellExt) → HasRecord names number ext → (merges : List MergeRec) → merges ≡ ext.merges
    → (i : ℕ) (merge : MergeRec) (links : List Link) → AreMergeLinks names number (take i merges) links → slice_get merges i ≡ Some merge
    → (fault : FlatFault) → merge_fault names.exts.now ext merge ≡ Some fault → IsMergeFault names number fault
merges_fail names number ext at merges same i merge links are here fault faulty = record {
  ext = ext;
  at = at;
  faulty = ap (first_fault (merge_fault names.exts.now ext)) (sym same)
      ∙ first_some-at (merge_fault names.exts.now ext) merges i merge fault here (merges_sound names number ext at (take i merges) links are) faulty;
}

-- and so it is told
pub merges_refused : (names : FullNames) (number : ℕ) (ext : CellExt) → HasRecord names number ext → (merges : List MergeRec) → merges ≡ ext.merges
    → (i : ℕ) (merge : MergeRec) (links : List Link) → AreMergeLinks names number (take i merges) links → slice_get merges i ≡ Some merge
    → (path : List ℕ) (fault : FlatFault)
    → (path_fault names.exts.now ext path ≡ Some fault → merge_fault names.exts.now ext merge ≡ Some fault)
    → (fault ≡ Memory) ⊎ IsPathFault names number path fault → (fault ≡ Memory) ⊎ IsMergeFault names number fault
merges_refused names number ext at merges same i merge links are here path fault tells (inl memory) = inl memory
merges_refused names number ext at merges same i merge links are here path fault tells (inr of) =
    let own = one_record names number ext at of.at.flat of.ext of.at.stands of.at.record_ in
    let faulty = subst (λ (e : CellExt). path_fault names.exts.now e path ≡ Some fault) own of.faulty in
    inr (merges_fail names number ext at merges same i merge links are here fault (tells faulty))

-- an error that is handed on
pub err_same : {T : Type 0} (result : Result T FlatFault) (fault : FlatFault) → IsErrAnd result (λ error. error ≡ fault) → (P : FlatFault → Type 0) → P fault
    → IfErr result P
err_same (Ok value) fault is P holds = tt
err_same (Err error) fault is P holds = subst P (sym is) holds
