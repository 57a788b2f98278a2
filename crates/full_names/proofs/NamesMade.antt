-- What makes the full names of a tree: the parts, one from the other.
use Rattle.full_names.proofs.Common.{◌≡◌, ℕ, ◌+◌, ◌<◌, ◌≤◌, Bool, true, false, cond, List, [], ◌++◌, length, length-append, get_or, Option, Some}
use Rattle.full_names.proofs.Common.{None, map, refl, sym, ◌∙◌, ap, subst, arith, slice_get, All, nat_tests, get_or_default, get_or-map, length-map}
use Rattle.full_names.proofs.Common.{slice_get_within, In, In-map_source, slice_get-below, CellExt, MOST_NAME_BYTES, Element, AreRecords}
use Rattle.full_names.proofs.Common.{ElementTree, TreeElement, IsTreeOfElements, OwnName, RecordNames, GlobalName, Place, NameKey, FullNames}
use Rattle.full_names.proofs.Common.{IsNameFaultOf, IsFullNameList, place_name, AreNames, AreStandings, locals_of, AreAllNames, no_element, flat_at}
use Rattle.full_names.proofs.Common.{AreOfRecords, AreReached, global_texts, AreGlobalNames, AreGlobalsOf, global_bytes, local_bytes, element_bytes}
use Rattle.full_names.proofs.Common.{place_at, count_at, IsPlace, ArePlaces, IsFitPlace, AreKeys}
use Rattle.std.proofs.Common.{nat_lt}
use Rattle.std.proofs.lemmas.List.Sums.{get_or-le-sum_by}
use Rattle.ext_model.proofs.FiniteSets.Searches.{All-from_In}
use Rattle.circuit_model.specs.declared.faults.FlatFault.TheVariants.{TooMany}
use Rattle.circuit_model.specs.declared.limits.CircuitLimit.TheVariants.{Names}
use Rattle.circuit_model.specs.Elements.{elements_of}
use Rattle.circuit_model.specs.Refusals.{name_bytes, past}
use Rattle.element_tree.specs.Trees.{IsTreeOf}
use Rattle.full_names.specs.NameLists.{HasNoNameFault}
use Rattle.full_names.proofs.GlobalOriginLaws.{globals_of_elements}
use Rattle.full_names.proofs.KeyOrders.{NamesAreKnown}
use Rattle.full_names.proofs.Lookups.{no_own}
use Rattle.full_names.proofs.NameBytes.{counted_bytes}
use Rattle.full_names.proofs.NumberLaws.{full_list_is, slot_within, slot_listed}
use Rattle.full_names.proofs.TreeLaws.{element_at, stands_for, within_tree}

-- the elements below the record with this number
abbrev pub elements_under : List CellExt → ℕ → List Element
elements_under exts root = elim (slice_get exts root) [ None ↦ [] | Some top ↦ elements_of exts top ]

pub under_known : (exts : List CellExt) (root : ℕ) (top : CellExt) → slice_get exts root ≡ Some top → elements_under exts root ≡ elements_of exts top
under_known exts root top at = ap (λ (o : Option CellExt). elim o as (λ _. List Element) [ None ↦ [] | Some t ↦ elements_of exts t ]) at

-- the tree is that of these elements
pub tree_under : (exts : List CellExt) (root : ℕ) (tree : ElementTree) → root < length exts → IsTreeOf exts root tree
    → IsTreeOfElements exts (elements_under exts root) tree
tree_under exts root tree within of =
    let top = slice_get-below exts root within in
    subst (λ (elements : List Element). IsTreeOfElements exts elements tree) (sym (under_known exts root top.0 top.1)) (of top.0 top.1)

past_none : (most n : ℕ) → n ≤ most → past most Names n ≡ None
past_none most n few =
    let told : nat_lt most n ≡ false = grind (arith, nat_tests) in
    ap (λ (b : Bool). cond b (Some (TooMany Names)) None) told

past_some : (most n : ℕ) → most < n → past most Names n ≡ Some (TooMany Names)
past_some most n many =
    let told : nat_lt most n ≡ true = grind (arith, nat_tests) in
    ap (λ (b : Bool). cond b (Some (TooMany Names)) None) told

module _ (exts : List CellExt) (root : ℕ) (tree : ElementTree) (lawful : AreRecords exts) (inside : root < length exts) (of : IsTreeOf exts root tree) where
  abbrev elements : List Element
  elements = elements_under exts root

  abbrev flats : List TreeElement
  flats = tree.elements

  pub is_tree : IsTreeOfElements exts elements tree
  is_tree = tree_under exts root tree inside of

  -- the elements are of the records
  pub of_records : (count : ℕ) → count ≡ length exts → AreOfRecords count flats
  of_records count all = λ k d within.
      let one = element_at exts elements tree is_tree k within in
      let less = slice_get_within exts (flat_at flats k).cell one.0.ext (stands_for exts elements tree is_tree k one.0 one.1).record_ in
      subst (λ (flat : TreeElement). flat.cell < count) (get_or_default flats k no_element d within) (subst (λ n. (flat_at flats k).cell < n) (sym all) less)

  module _ (cells : List Bool) (firsts : List ℕ) (reached : AreReached flats cells firsts) (records : List RecordNames)
      (all : AreAllNames exts cells records) where
    pub known : NamesAreKnown elements tree records
    known number element at = all.each (flat_at flats number).cell element.ext (stands_for exts elements tree is_tree number element at).record_
        (reached.marked number (within_tree exts elements tree is_tree number element at))

    pub firsts_within : All (λ first. first < length flats) firsts
    firsts_within = All-from_In (λ (first : ℕ). first < length flats) firsts reached.within

    module _ (globals : List GlobalName) (names : AreGlobalNames flats records firsts globals) where
      pub global : AreGlobalsOf elements globals
      global = globals_of_elements exts elements tree lawful is_tree records known cells firsts reached globals names

      bytes : name_bytes elements ≡ global_bytes globals + element_bytes records flats
      bytes = counted_bytes exts elements tree lawful is_tree records known globals global (λ name here. (names.are.from name here).long)

      pub many_bytes : MOST_NAME_BYTES < global_bytes globals + element_bytes records flats → IsNameFaultOf exts root (TooMany Names)
      many_bytes many top at =
          let sum = ap name_bytes (sym (under_known exts root top at)) ∙ bytes in
          past_some MOST_NAME_BYTES (name_bytes (elements_of exts top)) (subst (λ n. MOST_NAME_BYTES < n) (sym sum) many)

      pub few_bytes : global_bytes globals + element_bytes records flats ≤ MOST_NAME_BYTES → HasNoNameFault exts root
      few_bytes few top at =
          let sum = ap name_bytes (sym (under_known exts root top at)) ∙ bytes in
          past_none MOST_NAME_BYTES (name_bytes (elements_of exts top)) (subst (λ n. n ≤ MOST_NAME_BYTES) (sym sum) few)

  -- each full name is within the limit
  pub fits : (records : List RecordNames) (globals : List GlobalName) (bases : List ℕ) (places : List Place)
      → global_bytes globals + element_bytes records flats ≤ MOST_NAME_BYTES → ArePlaces flats records bases places → All (IsFitPlace flats records) places
  fits records globals bases places few placed = λ k d within.
      let place : Place = get_or places k d in
      let is : IsPlace (count_at flats records) (length flats) place =
      subst (IsPlace (count_at flats records) (length flats)) (get_or_default places k (record { element = 0; own = 0 }) d within) (placed.each k within) in
      let flat : TreeElement = flat_at flats place.element in
      let names = locals_of records flat.cell in
      let own_within : place.own < length names = let own = is.own in omega (arith, own, length-map names (λ (name : OwnName). name.text.now)) in
      let here = get_or-le-sum_by (λ (name : OwnName). flat.bytes + length name.text.now) names place.own no_own own_within in
      let among = get_or-le-sum_by (λ (f : TreeElement). local_bytes f.bytes (locals_of records f.cell)) flats place.element no_element is.element in
      let text = ap (λ (t : List ℕ). length t) (get_or-map (λ (name : OwnName). name.text.now) names place.own no_own [] own_within) in
      record { is = is; short = omega (arith, here, among, text, few) }

-- The parts of the names of a tree.
pub record ArePartsOf (names : FullNames) (cells : List Bool) (firsts : List ℕ) (keys : List NameKey) : Type 0 where
  pub lawful : AreRecords names.exts.now
  pub inside : names.root < length names.exts.now
  pub of : IsTreeOf names.exts.now names.root names.tree.now
  pub reached : AreReached names.tree.now.elements cells firsts
  pub records_are : AreAllNames names.exts.now cells names.records.items
  pub globals_are : AreGlobalNames names.tree.now.elements names.records.items firsts names.globals.items
  pub placed : ArePlaces names.tree.now.elements names.records.items names.bases.items names.places.items
  pub keyed : AreKeys names.tree.now.elements names.records.items names.places.items keys
  pub slots_are : names.slots.items ≡ map (λ (key : NameKey). key.slot) keys
  pub standings_are : AreStandings names.slots.items names.standings.items
  pub counted : names.count ≡ length names.globals.items + length names.slots.items

-- With these parts they are the full names of the tree.
pub names_made : (names : FullNames) (cells : List Bool) (firsts : List ℕ) (keys : List NameKey) → ArePartsOf names cells firsts keys → AreNames names
names_made names cells firsts keys parts =
    let exts = names.exts.now in
    let root = names.root in
    let tree = names.tree.now in
    let records = names.records.items in
    let globals = names.globals.items in
    let bases = names.bases.items in
    let places = names.places.items in
    let is = is_tree exts root tree parts.lawful parts.inside parts.of in
    let has = known exts root tree parts.lawful parts.inside parts.of cells firsts parts.reached records parts.records_are in
    let all = global exts root tree parts.lawful parts.inside parts.of cells firsts parts.reached records parts.records_are globals parts.globals_are in
    let elements = elements_under exts root in
    let name : ℕ → List ℕ = λ (slot : ℕ). place_name elements tree.elements records (place_at places slot) in
    let whole = full_list_is exts elements tree parts.lawful is records has globals all bases places parts.placed keys parts.keyed in
    let slots = names.slots.items in
    record {
      records = parts.lawful;
      root = parts.inside;
      tree = parts.of;
      list = global_texts globals ++ map name slots;
      is_list = subst (λ (s : List ℕ). IsFullNameList elements (global_texts globals ++ map name s)) (sym parts.slots_are) whole;
      count = parts.counted
          ∙ sym (length-append (global_texts globals) (map name slots)
          ∙ ap (λ n. n + length (map name slots)) (length-map globals (λ (n : GlobalName). n.text.now))
          ∙ ap (λ n. length globals + n) (length-map slots name));
      known = has;
      globals = all;
      places = parts.placed;
      slots_within = λ slot here. slot_within exts elements tree parts.lawful is records has globals all bases places parts.placed keys parts.keyed slot
          (subst (In slot) parts.slots_are here);
      slots_all = λ slot within. subst (In slot) (sym parts.slots_are)
          (slot_listed exts elements tree parts.lawful is records has globals all bases places parts.placed keys parts.keyed slot within);
      slots_long = ap length parts.slots_are ∙ length-map keys (λ (key : NameKey). key.slot) ∙ parts.keyed.long;
      standings = parts.standings_are;
      list_is = refl;
    }

-- the numbers that keys tell are below how many keys there are
pub slots_below : (flats : List TreeElement) (records : List RecordNames) (places : List Place) (keys : List NameKey) (slots : List ℕ)
    → AreKeys flats records places keys → slots ≡ map (λ (key : NameKey). key.slot) keys → All (λ slot. slot < length slots) slots
slots_below flats records places keys slots keyed are = All-from_In (λ (slot : ℕ). slot < length slots) slots
    (λ slot here.
    let source = In-map_source (λ (key : NameKey). key.slot) slot keys (subst (In slot) are here) in
    let below = subst (λ (s : ℕ). s < length places) source.1.1 (keyed.each source.0 source.1.0).within in
    let many : length slots ≡ length places = ap length are ∙ length-map keys (λ (key : NameKey). key.slot) ∙ keyed.long in
    omega arith)
