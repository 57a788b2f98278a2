-- The branches that tables of uses find.
use Rattle.name_classes.proofs.Common.{◌≡◌, ◌<◌, ℕ, Bool, true, false, inl, inr, List, [], length, map, get_or, refl, sym, ◌∙◌, ap, subst, arith}
use Rattle.name_classes.proofs.Common.{Option, Some, None, slice_get, find, bytes_eq, bytes_eq-Decides, cases_Bool, slice_get_within, slice_get_read}
use Rattle.name_classes.proofs.Common.{get_or_from_slice_get, ElementTree, Distinct, In-slice_get, slice_get-In, slice_get-one, UseRec, CellExt}
use Rattle.name_classes.proofs.Common.{branches_of, FullNames, IsReached, UseTable, Resolver, number_of, IsResolver, IsBranchOf, LacksUse}
use Rattle.partition.proofs.FiniteSets.Searches.{find-In, find-passes, find-none, none_found}
use Rattle.full_names.specs.ElementTree.declared.tree.Branch.{Branch}
use Rattle.name_classes.proofs.ListLaws.{place_of_image}
use Rattle.name_classes.proofs.TreeLaws.{tree_of_names, lawful_at, reached_at}

-- the use with the name of an element is the first, as there is no other
find_use : (uses : List UseRec) (number : ℕ) (used : UseRec) (id : List ℕ) → Distinct (map (λ used. used.id) uses) → slice_get uses number ≡ Some used
    → used.id ≡ id → find (λ used. bytes_eq used.id id) uses ≡ Some used
find_use uses number used id apart stands named = step (find (λ u. bytes_eq u.id id) uses) refl
  where
    test : UseRec → Bool
    test u = bytes_eq u.id id

    step : (found : Option UseRec) → find (λ u. bytes_eq u.id id) uses ≡ found → found ≡ Some used
    step None none =
        let fails : bytes_eq used.id id ≡ false = find-none (λ (u : UseRec). bytes_eq u.id id) uses used none (In-slice_get uses number used stands) in
        let passes : bytes_eq used.id id ≡ true = (bytes_eq-Decides used.id id).1 named in
        absurd (cc)
    step (Some other) is =
        let at = slice_get-In other uses (find-In (λ (u : UseRec). bytes_eq u.id id) uses other is) in
        let same : other.id ≡ id = (bytes_eq-Decides other.id id).0 (find-passes (λ (u : UseRec). bytes_eq u.id id) uses other is) in
        let place : at.0 ≡ number = place_of_image (λ (u : UseRec). u.id) uses at.0 number other used apart at.1 stands (same ∙ sym named) in
        ap (λ (u : UseRec). Some u) (slice_get-one uses number other used (subst (λ (k : ℕ). slice_get uses k ≡ Some other) place at.1) stands)

-- The branch with this number is along the use of this name.
pub record HasBranch (names : FullNames) (cell : ℕ) (id : List ℕ) (number : ℕ) : Type 0 where
  pub branch : Branch
  pub found : slice_get (branches_of names.tree.now.branches cell) number ≡ Some branch
  pub is_branch : IsBranchOf names cell id branch

pub table_finds : (resolver : Resolver) → IsResolver resolver → (cell : ℕ) → IsReached resolver.names.now cell → (table : UseTable)
    → slice_get resolver.tables.items cell ≡ Some table → (id : List ℕ) (number : ℕ) → number_of table id ≡ Some number
    → HasBranch resolver.names.now cell id number
table_finds resolver is cell reach table stands id number reads =
    let names = resolver.names.now in
    let at = reached_at names is.names cell reach in
    let ext = at.element.ext in
    let own : slice_get resolver.exts.now cell ≡ Some ext = ap (λ (exts : List CellExt). slice_get exts cell) is.exts ∙ at.record_ in
    let has = (is.tables.each cell ext table own stands).sound id number reads in
    let to = (tree_of_names names is.names).steps at.number at.element at.flat at.stands.are number has.used has.found in
    let found : slice_get (branches_of names.tree.now.branches cell) number ≡ Some to.branch =
    subst (λ (k : ℕ). slice_get (branches_of names.tree.now.branches k) number ≡ Some to.branch) at.same to.found in record {
      branch = to.branch;
      found = found;
      is_branch = record {
        ext = ext;
        at = number;
        used = has.used;
        record_ = at.record_;
        first = find_use ext.uses number has.used id (lawful_at names is.names cell ext at.record_).element_names_differ has.found has.named;
        use_of = has.found;
        found = found;
      };
    }

pub table_lacks : (resolver : Resolver) → IsResolver resolver → (cell : ℕ) (table : UseTable) → slice_get resolver.tables.items cell ≡ Some table
    → (id : List ℕ) → number_of table id ≡ None → LacksUse resolver.names.now cell id
table_lacks resolver is cell table stands id none ext record_ =
    let own : slice_get resolver.exts.now cell ≡ Some ext = ap (λ (exts : List CellExt). slice_get exts cell) is.exts ∙ record_ in
    let lacks = (is.tables.each cell ext table own stands).whole id none in
    none_found (λ (used : UseRec). bytes_eq used.id id) ext.uses
    (λ used here. elim (cases_Bool (bytes_eq used.id id)) [
      | inl same ↦ absurd (lacks used here ((bytes_eq-Decides used.id id).0 same))
      | inr other ↦ other
    ])

-- there is a table for each record that is reached
pub tables_reach : (resolver : Resolver) → IsResolver resolver → (cell : ℕ) → IsReached resolver.names.now cell
    → (cell < length resolver.tables.items) × (cell < length resolver.tree.now.branches)
tables_reach resolver is cell reach =
    let names = resolver.names.now in
    let at = reached_at names is.names cell reach in
    let within = slice_get_within names.exts.now cell at.element.ext at.record_ in (
      omega (arith, is.tables.long, ap (λ (exts : List CellExt). length exts) is.exts, within),
      omega (arith, (tree_of_names names is.names).long_branches, ap (λ (tree : ElementTree). length tree.branches) is.tree, within),
    )

-- the branches of a record as they are read
pub branches_here : (resolver : Resolver) → IsResolver resolver → (cell : ℕ) → IsReached resolver.names.now cell → (branches : List (List Branch))
    → branches ≡ resolver.tree.now.branches → (list : List Branch) → list ≡ get_or branches cell list
    → list ≡ branches_of resolver.names.now.tree.now.branches cell
branches_here resolver is cell reach branches same list reads =
    let within : cell < length branches = rw same ((tables_reach resolver is cell reach).1) in
    let stands = slice_get_read branches (length branches) cell list refl within reads in
    sym (get_or_from_slice_get branches cell list [] stands)
    ∙ ap (λ (all : List (List Branch)). branches_of all cell) (same ∙ ap (λ (tree : ElementTree). tree.branches) is.tree)

-- the table of a record as it is read
pub table_here : (resolver : Resolver) → IsResolver resolver → (cell : ℕ) → IsReached resolver.names.now cell → (table : UseTable)
    → table ≡ get_or resolver.tables.items cell table → slice_get resolver.tables.items cell ≡ Some table
table_here resolver is cell reach table reads =
    slice_get_read resolver.tables.items (length resolver.tables.items) cell table refl ((tables_reach resolver is cell reach).0) reads
