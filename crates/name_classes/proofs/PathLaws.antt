-- Paths that are taken down the tree, name by name.
use Rattle.name_classes.proofs.Common.{◌≡◌, ◌<◌, ◌+◌, ◌==◌, ℕ, suc, Bool, false, cond, inl, inr, List, [], ◌∷◌, ◌++◌, length, map, get_or, refl, sym}
use Rattle.name_classes.proofs.Common.{◌∙◌, ap, subst, arith, append_assoc, Option, Some, None, slice_get, find, bytes_eq, bytes_eq-Decides}
use Rattle.name_classes.proofs.Common.{cases_Bool, slice_get_within, get_or_from_slice_get, sum_by-cons, In, In-slice_get, slice_get-one}
use Rattle.name_classes.proofs.Common.{slice_get-below, SLASH, UseRec, CellExt, slashes_in, node_names, is_node_name-lawful, slashes_in-node_name}
use Rattle.name_classes.proofs.Common.{Element, ids_of, ext_of, name_in, TreeElement, ElementTree, branches_of, FullNames, Spot, elements_in}
use Rattle.name_classes.proofs.Common.{AreNames, IsElement, IsReached, IsSpotOf, LacksName, Resolver, IsResolver, IsSplit, IsBranchOf, LacksUse}
use Rattle.name_classes.proofs.Common.{EndsThere, IsEndFrom, IsNameOf}
use Rattle.std.proofs.Common.{◌||◌, ◌-◌}
use Rattle.std.proofs.lemmas.List.{map-append}
use Rattle.partition.proofs.FiniteSets.Searches.{find-passes, list_any-of_In}
use Rattle.ext_model.specs.Paths.{path_text, full_name}
use Rattle.ext_model.proofs.PathOrders.{slashes_in-behind}
use Rattle.ext_model.proofs.PathNames.{path_text-append, paths_name_below}
use Rattle.circuit_model.specs.FlatNodes.{is_among}
use Rattle.circuit_model.specs.Refusals.{leads, before_slash, after_slash}
use Rattle.full_names.specs.ElementTree.declared.tree.Branch.{Branch}
use Rattle.name_classes.specs.steps.Paths.{LeadsNowhere}
use Rattle.name_classes.proofs.ListLaws.{at_place}
use Rattle.name_classes.proofs.TreeLaws.{tree_of_names, element_at, record_of, reached, lawful_at, one_cell, child_of_use}

-- ---- names among names

pub among_not : (names : List (List ℕ)) (name : List ℕ) → (In name names → ⊥) → is_among names name ≡ false
among_not [] name absent = refl
among_not (n ∷ names) name absent = elim (cases_Bool (bytes_eq name n)) [
  | inl same ↦ absurd (absent (inl (sym ((bytes_eq-Decides name n).0 same))))
  | inr other ↦ ap (λ (t : Bool). t || is_among names name) other ∙ among_not names name (λ later. absent (inr later))
]

-- ---- a path cut at its first slash

zero_slashes : (byte : ℕ) (bytes : List ℕ) → slashes_in (byte ∷ bytes) ≡ 0 → ((byte == SLASH) ≡ false) × (slashes_in bytes ≡ 0)
zero_slashes byte bytes none =
    let parts : cond (byte == SLASH) 1 0 + slashes_in bytes ≡ 0 = sym (sum_by-cons (λ (b : ℕ). cond (b == SLASH) 1 0) byte bytes) ∙ none in
    elim (cases_Bool (byte == SLASH)) [
      | inl slash ↦ let one : 1 + slashes_in bytes ≡ 0 = ap (λ (t : Bool). cond t 1 0 + slashes_in bytes) (sym slash) ∙ parts in absurd (omega arith)
      | inr other ↦ let rest : 0 + slashes_in bytes ≡ 0 = ap (λ (t : Bool). cond t 1 0 + slashes_in bytes) (sym other) ∙ parts in (other, omega arith)
    ]

pub before-split : (first behind : List ℕ) → slashes_in first ≡ 0 → before_slash (first ++ SLASH ∷ behind) ≡ first
before-split [] behind whole = refl
before-split (byte ∷ first) behind whole =
    let parts = zero_slashes byte first whole in
    ap (λ (t : Bool). cond t [] (byte ∷ before_slash (first ++ SLASH ∷ behind))) parts.0
    ∙ ap (λ (rest : List ℕ). byte ∷ rest) (before-split first behind parts.1)

pub after-split : (first behind : List ℕ) → slashes_in first ≡ 0 → after_slash (first ++ SLASH ∷ behind) ≡ behind
after-split [] behind whole = refl
after-split (byte ∷ first) behind whole =
    let parts = zero_slashes byte first whole in
    ap (λ (t : Bool). cond t (first ++ SLASH ∷ behind) (after_slash (first ++ SLASH ∷ behind))) parts.0 ∙ after-split first behind parts.1

pub slashes-split : (path first behind : List ℕ) → IsSplit path first behind → slashes_in path ≡ suc (slashes_in behind)
slashes-split path first behind split = omega (arith, ap slashes_in split.text, slashes_in-behind first behind, split.whole)

-- ---- what a path leads to, name by name

leads_by : ℕ → List CellExt → Option UseRec → List ℕ → Bool
leads_by slashes exts found behind = elim found [
  | None ↦ false
  | Some used ↦ elim (ext_of exts used.cell) [ None ↦ false | Some child ↦ leads slashes exts child behind ]
]

first_use : List UseRec → List ℕ → Option UseRec
first_use uses id = find (λ used. bytes_eq used.id id) uses

leads-split : (exts : List CellExt) (ext : CellExt) (path first behind : List ℕ) → IsSplit path first behind
    → leads (slashes_in path) exts ext path ≡ leads_by (slashes_in behind) exts (first_use ext.uses first) behind
unfolding leads leads_by first_use
leads-split exts ext path first behind split =
    ap (λ (n : ℕ). leads n exts ext path) (slashes-split path first behind split)
    ∙ ap (λ (p : List ℕ). leads_by (slashes_in behind) exts (first_use ext.uses (before_slash p)) (after_slash p)) split.text
    ∙ ap (λ (p : List ℕ). leads_by (slashes_in behind) exts (first_use ext.uses p) (after_slash (first ++ SLASH ∷ behind)))
    (before-split first behind split.whole)
    ∙ ap (λ (p : List ℕ). leads_by (slashes_in behind) exts (first_use ext.uses first) p) (after-split first behind split.whole)

pub leads-use : (exts : List CellExt) (ext : CellExt) (path first behind : List ℕ) → IsSplit path first behind → (used : UseRec) (child : CellExt)
    → find (λ used. bytes_eq used.id first) ext.uses ≡ Some used → ext_of exts used.cell ≡ Some child
    → leads (slashes_in path) exts ext path ≡ leads (slashes_in behind) exts child behind
unfolding leads_by first_use
leads-use exts ext path first behind split used child found below =
    leads-split exts ext path first behind split
    ∙ ap (λ (o : Option UseRec). leads_by (slashes_in behind) exts o behind) found
    ∙ ap (λ (o : Option CellExt). elim o [ None ↦ false | Some child ↦ leads (slashes_in behind) exts child behind ]) below

pub leads-no_use : (exts : List CellExt) (ext : CellExt) (path first behind : List ℕ) → IsSplit path first behind
    → find (λ used. bytes_eq used.id first) ext.uses ≡ None → leads (slashes_in path) exts ext path ≡ false
unfolding leads_by first_use
leads-no_use exts ext path first behind split none =
    leads-split exts ext path first behind split ∙ ap (λ (o : Option UseRec). leads_by (slashes_in behind) exts o behind) none

pub leads-name : (exts : List CellExt) (ext : CellExt) (path : List ℕ) → slashes_in path ≡ 0
    → leads (slashes_in path) exts ext path ≡ is_among (node_names ext) path
unfolding leads
leads-name exts ext path whole = ap (λ (n : ℕ). leads n exts ext path) whole

-- ---- walks

-- From the element, so many steps lead to the record with this number, from which the rest of the path is taken.
pub record WalksTo (names : FullNames) (number : ℕ) (element : Element) (path : List ℕ) (step cell : ℕ) (rest : List ℕ) : Type 0 where
  pub below : Element
  pub flat : TreeElement
  pub ids : List (List ℕ)
  pub stands : IsElement names (number + step) below flat
  pub is_cell : flat.cell ≡ cell
  pub under : ids_of below ≡ ids_of element ++ ids
  pub text : path ≡ path_text ids rest

-- From the element with this number, and from each of its record, the path leads to the element here, with this rest.
pub record IsWalk (names : FullNames) (number : ℕ) (path : List ℕ) (at : ℕ) (rest : List ℕ) : Type 0 where
  pub start : TreeElement
  pub here : TreeElement
  pub ext : CellExt
  pub next : CellExt
  pub step : ℕ
  pub starts : slice_get names.tree.now.elements number ≡ Some start
  pub stands : slice_get names.tree.now.elements at ≡ Some here
  pub steps : at ≡ number + step
  pub first_record : slice_get names.exts.now start.cell ≡ Some ext
  pub next_record : slice_get names.exts.now here.cell ≡ Some next
  pub each : (n : ℕ) (element : Element) (flat : TreeElement) → IsElement names n element flat → flat.cell ≡ start.cell
      → WalksTo names n element path step here.cell rest
  pub leads : leads (slashes_in path) names.exts.now ext path ≡ leads (slashes_in rest) names.exts.now next rest

pub append_none : {X : Type 0} (xs : List X) → xs ≡ xs ++ []
append_none [] = refl
append_none {X} (x ∷ xs) = ap (λ (ys : List X). x ∷ ys) (append_none xs)

-- a walk before its first step
pub walk_start : (names : FullNames) → AreNames names → (number : ℕ) → number < length names.tree.now.elements → (path : List ℕ)
    → IsWalk names number path number path
walk_start names are number within path =
    let flat = slice_get-below names.tree.now.elements number within in
    let element = element_at names are number flat.0 flat.1 in
    let record_ = record_of names are number element.0 flat.0 element.1 in record {
      start = flat.0;
      here = flat.0;
      ext = element.0.ext;
      next = element.0.ext;
      step = 0;
      starts = flat.1;
      stands = flat.1;
      steps = omega arith;
      first_record = record_;
      next_record = record_;
      each = λ n other next stands same. record {
        below = other;
        flat = next;
        ids = [];
        stands = (let P : ℕ → Type 0 = λ m. IsElement names m other next in let plus : n ≡ n + 0 = omega arith in subst P plus stands);
        is_cell = same;
        under = append_none (ids_of other);
        text = refl;
      };
      leads = refl;
    }

-- one step along a branch from an element
record StepsTo (names : FullNames) (number : ℕ) (element : Element) (used : UseRec) (step : ℕ) : Type 0 where
  child : CellExt
  flat : TreeElement
  stands : IsElement names (number + step) (record { uses = element.uses ++ used ∷ []; ext = child }) flat
  leads : ext_of names.exts.now used.cell ≡ Some child
  record_ : slice_get names.exts.now flat.cell ≡ Some child

steps_along : (names : FullNames) → AreNames names → (number : ℕ) (element : Element) (flat : TreeElement) → IsElement names number element flat
    → (cell : ℕ) → flat.cell ≡ cell → (id : List ℕ) (branch : Branch) (is : IsBranchOf names cell id branch)
    → StepsTo names number element is.used branch.step
steps_along names are number element flat stands cell same id branch is =
    let tree = tree_of_names names are in
    let own = record_of names are number element flat stands in
    let stood = subst (λ (k : ℕ). slice_get names.exts.now k ≡ Some element.ext) same own in
    let ext : is.ext ≡ element.ext = slice_get-one names.exts.now cell is.ext element.ext is.record_ stood in
    let use_of : slice_get element.ext.uses is.at ≡ Some is.used = subst (λ (e : CellExt). slice_get e.uses is.at ≡ Some is.used) ext is.use_of in
    let to = tree.steps number element flat stands.are is.at is.used use_of in
    let along : to.branch ≡ branch = slice_get-one (branches_of names.tree.now.branches cell) is.at to.branch branch
    (subst (λ (k : ℕ). slice_get (branches_of names.tree.now.branches k) is.at ≡ Some to.branch) same to.found) is.found in
    let child : Element = record { uses = element.uses ++ is.used ∷ []; ext = to.child } in
    let below : slice_get (elements_in names) (number + branch.step) ≡ Some child =
    subst (λ (b : Branch). slice_get (elements_in names) (number + b.step) ≡ Some child) along to.below in
    let next = at_place names.tree.now.elements (elements_in names) (number + branch.step) child (sym tree.long) below in
    let there : IsElement names (number + branch.step) child next.0 = record { are = record { is = below; has = next.1 } } in record {
      child = to.child;
      flat = next.0;
      stands = there;
      leads = child_of_use names are child (In-slice_get (elements_in names) (number + branch.step) child below) element.uses is.used refl;
      record_ = record_of names are (number + branch.step) child next.0 there;
    }

-- a walk with one more step
pub walk_step : {names : FullNames} → AreNames names → {number : ℕ} {path : List ℕ} {at : ℕ} {rest first behind : List ℕ}
    (walk : IsWalk names number path at rest) → IsSplit rest first behind → (branch : Branch) → IsBranchOf names walk.here.cell first branch
    → IsWalk names number path (at + branch.step) behind
walk_step {names} are {number} {path} {at} {rest} {first} {behind} walk split branch is =
    let tree = tree_of_names names are in
    let now = element_at names are at walk.here walk.stands in
    let to = steps_along names are at now.0 walk.here now.1 walk.here.cell refl first branch is in
    let passes = find-passes (λ (used : UseRec). bytes_eq used.id first) is.ext.uses is.used is.first in
    let named : is.used.id ≡ first = (bytes_eq-Decides is.used.id first).0 passes in
    let next : walk.next ≡ is.ext = slice_get-one names.exts.now walk.here.cell walk.next is.ext walk.next_record is.record_ in record {
      start = walk.start;
      here = to.flat;
      ext = walk.ext;
      next = to.child;
      step = walk.step + branch.step;
      starts = walk.starts;
      stands = to.stands.are.has;
      steps = omega (arith, walk.steps);
      first_record = walk.first_record;
      next_record = to.record_;
      each = λ n element flat stands same. further to named (walk.each n element flat stands same);
      leads = walk.leads
          ∙ ap (λ (e : CellExt). leads (slashes_in rest) names.exts.now e rest) next
          ∙ leads-use names.exts.now is.ext rest first behind split is.used to.child is.first to.leads;
    }
  where
    further : (to : StepsTo names at (element_at names are at walk.here walk.stands).0 is.used branch.step) → is.used.id ≡ first
        → {n : ℕ} {element : Element} → WalksTo names n element path walk.step walk.here.cell rest
        → WalksTo names n element path (walk.step + branch.step) to.flat.cell behind
    further to named {n} {element} w =
        let other = steps_along names are (n + walk.step) w.below w.flat w.stands walk.here.cell w.is_cell first branch is in
        let child : other.child ≡ to.child = one_some other.leads to.leads in
        let below : Element = record { uses = w.below.uses ++ is.used ∷ []; ext = other.child } in
        let P : ℕ → Type 0 = λ m. IsElement names m below other.flat in
        let sum : (n + walk.step) + branch.step ≡ n + (walk.step + branch.step) = omega arith in
        let ids : ids_of below ≡ (ids_of element ++ w.ids) ++ first ∷ [] =
        map-append (λ (used : UseRec). used.id) w.below.uses (is.used ∷ [])
        ∙ ap (λ (id : List ℕ). ids_of w.below ++ id ∷ []) named
        ∙ ap (λ (ids : List (List ℕ)). ids ++ first ∷ []) w.under in record {
          below = below;
          flat = other.flat;
          ids = w.ids ++ first ∷ [];
          stands = subst P sum other.stands;
          is_cell = one_cell names are other.flat.cell to.flat.cell to.child
              (subst (λ (e : CellExt). slice_get names.exts.now other.flat.cell ≡ Some e) child other.record_) to.record_;
          under = ids ∙ append_assoc (ids_of element) w.ids (first ∷ []);
          text = w.text ∙ ap (path_text w.ids) split.text ∙ path_text-append w.ids (first ∷ []) behind;
        }
      where
        one_some : {found : Option CellExt} {x y : CellExt} → found ≡ Some x → found ≡ Some y → x ≡ y
        one_some is other = cc

-- the walk stays among the elements
walk_within : (names : FullNames) (number : ℕ) (path : List ℕ) (at : ℕ) (rest : List ℕ) → IsWalk names number path at rest
    → at < length names.tree.now.elements
walk_within names number path at rest walk = slice_get_within names.tree.now.elements at walk.here walk.stands

-- the end of a walk whose last name is there
pub walk_end : {names : FullNames} → AreNames names → {number : ℕ} {path : List ℕ} {at : ℕ} {rest : List ℕ} (walk : IsWalk names number path at rest)
    → slashes_in rest ≡ 0 → (spot : Spot) → IsSpotOf names walk.here.cell rest spot → (step : ℕ) → step ≡ at - number
    → IsEndFrom names number path (record { step = step; spot = spot })
walk_end {names} are {number} {path} {at} {rest} walk whole spot is step steps =
    let same : is.record_ ≡ walk.next = slice_get-one names.exts.now walk.here.cell is.record_ walk.next is.found walk.next_record in
    let named : In rest (node_names walk.next) = subst (λ (e : CellExt). In rest (node_names e)) same is.named in
    let so_many : step ≡ walk.step = omega (arith, walk.steps, steps) in record {
      flat = walk.start;
      ext = walk.ext;
      stands = walk.starts;
      record_ = walk.first_record;
      leads = walk.leads ∙ leads-name names.exts.now walk.next rest whole ∙ list_any-of_In bytes_eq bytes_eq-Decides rest (node_names walk.next) named;
      ends = record {
        each = λ n element flat stands cell. ended so_many (walk.each n element flat stands cell);
      };
    }
  where
    ended : step ≡ walk.step → {n : ℕ} {element : Element} → WalksTo names n element path walk.step walk.here.cell rest
        → EndsThere names n element path (record { step = step; spot = spot })
    ended so_many {n} {element} w = record {
      below = w.below;
      flat = w.flat;
      name = rest;
      stands = (let P : ℕ → Type 0 = λ k. IsElement names (n + k) w.below w.flat in subst P (sym so_many) w.stands);
      is_spot = (let P : ℕ → Type 0 = λ k. IsSpotOf names k rest spot in subst P (sym w.is_cell) is);
      full = ap (λ (ids : List (List ℕ)). full_name ids rest) w.under ∙ sym (paths_name_below (ids_of element) w.ids rest whole)
          ∙ ap (name_in element) (sym w.text);
    }

-- the end of a walk whose last name is not there
pub walk_lost : {names : FullNames} {number : ℕ} {path : List ℕ} {at : ℕ} {rest : List ℕ} (walk : IsWalk names number path at rest)
    → slashes_in rest ≡ 0 → LacksName names walk.here.cell rest → LeadsNowhere names number path
walk_lost {names} {rest = rest} walk whole lacks = record {
  flat = walk.start;
  ext = walk.ext;
  stands = walk.starts;
  record_ = walk.first_record;
  leads = walk.leads ∙ leads-name names.exts.now walk.next rest whole ∙ among_not (node_names walk.next) rest (lacks walk.next walk.next_record);
}

-- the end of a walk where no use has the next name
pub walk_stuck : {names : FullNames} {number : ℕ} {path : List ℕ} {at : ℕ} {rest first behind : List ℕ}
    (walk : IsWalk names number path at rest) → IsSplit rest first behind → LacksUse names walk.here.cell first → LeadsNowhere names number path
walk_stuck {names} {rest = rest} {first} {behind} walk split lacks = record {
  flat = walk.start;
  ext = walk.ext;
  stands = walk.starts;
  record_ = walk.first_record;
  leads = walk.leads ∙ leads-no_use names.exts.now walk.next rest first behind split (lacks walk.next walk.next_record);
}

-- the element of a walk as it is read
pub walk_here : {resolver : Resolver} → IsResolver resolver → {number : ℕ} {path : List ℕ} {at : ℕ} {rest : List ℕ}
    (walk : IsWalk resolver.names.now number path at rest) {elements : List TreeElement} → elements ≡ resolver.tree.now.elements → (d : TreeElement)
    → get_or elements at d ≡ walk.here
walk_here {resolver} is {at = at} walk same d =
    ap (λ (all : List TreeElement). get_or all at d) (same ∙ ap (λ (tree : ElementTree). tree.elements) is.tree)
    ∙ get_or_from_slice_get resolver.names.now.tree.now.elements at walk.here d walk.stands

-- and it is there
pub walk_inside : {resolver : Resolver} → IsResolver resolver → {number : ℕ} {path : List ℕ} {at : ℕ} {rest : List ℕ}
    → IsWalk resolver.names.now number path at rest → {elements : List TreeElement} → elements ≡ resolver.tree.now.elements → at < length elements
walk_inside {resolver} is {number} {path} {at} {rest} walk same =
    omega (
      arith,
      walk_within resolver.names.now number path at rest walk,
      ap (λ (tree : ElementTree). length tree.elements) is.tree,
      ap (λ (all : List TreeElement). length all) same,
    )

-- the record of a walk is that of an element
pub walk_reaches : {resolver : Resolver} → IsResolver resolver → {number : ℕ} {path : List ℕ} {at : ℕ} {rest : List ℕ}
    → IsWalk resolver.names.now number path at rest → {elements : List TreeElement} → elements ≡ resolver.tree.now.elements → (d : TreeElement)
    → IsReached resolver.names.now (get_or elements at d).cell
walk_reaches {resolver} is {at = at} walk same d =
    let names = resolver.names.now in
    let element = element_at names is.names at walk.here walk.stands in
    subst (λ (flat : TreeElement). IsReached names flat.cell) (sym (walk_here is walk same d))
    (reached names is.names at element.0 walk.here element.1)

-- the element of a name's number as it is read
pub name_here : {resolver : Resolver} → IsResolver resolver → {number : ℕ} {name : List ℕ} (of : IsNameOf resolver.names.now number name)
    → {elements : List TreeElement} → elements ≡ resolver.tree.now.elements → (d : TreeElement) → get_or elements number d ≡ of.flat
name_here {resolver} is {number} of same d =
    ap (λ (all : List TreeElement). get_or all number d) (same ∙ ap (λ (tree : ElementTree). tree.elements) is.tree)
    ∙ get_or_from_slice_get resolver.names.now.tree.now.elements number of.flat d of.stands

-- a name of a node is the end of a walk that takes no step
pub name_end : (names : FullNames) → AreNames names → (number : ℕ) (name : List ℕ) (of : IsNameOf names number name) → (spot : Spot)
    → IsSpotOf names of.flat.cell name spot → IsEndFrom names number name (record { step = 0; spot = spot })
name_end names are number name of spot is =
    let walk = walk_start names are number (slice_get_within names.tree.now.elements number of.flat of.stands) name in
    let whole = slashes_in-node_name name (is_node_name-lawful of.ext (lawful_at names are of.flat.cell of.ext of.record_) name of.named) in
    let here : of.flat ≡ walk.here = slice_get-one names.tree.now.elements number of.flat walk.here of.stands walk.stands in
    walk_end are walk whole spot (subst (λ (f : TreeElement). IsSpotOf names f.cell name spot) here is) 0 (omega arith)
