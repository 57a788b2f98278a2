-- A lawful record within the limits of files that are read has what its lines need.
use Rattle.ext_reading.proofs.Common.{◌≡◌, ◌⊎◌, ◌<◌, ◌+◌, ◌-◌, ◌*◌, ◌&&◌, ℕ, suc, ℤ, pos, Bool, true, false, cond, Option, List, [], ◌∷◌, ◌++◌}
use Rattle.ext_reading.proofs.Common.{length, map, get_or, refl, sym, ap, ◌∙◌, subst, FitsSigned, inl, inr, arith, IsTrue, All, Some, None, ◌-ℤ◌}
use Rattle.ext_reading.proofs.Common.{◌<ℤ◌, nat_le, w32, unsigned_abs, AllByRecursion, list_all, range_with_len, leb-true, true≢false, nat_tests}
use Rattle.ext_reading.proofs.Common.{ints, list_any_none, length-range_with_len, get_or-range_with_len, In, In-append_cases, In-map_source}
use Rattle.ext_reading.proofs.Common.{In-get_or, list_all-from_In, decimal, is_plain_name, Grid, SLASH, UseRec, NodeRec, TermRec, FetRec, CellExt}
use Rattle.ext_reading.proofs.Common.{ArrayUse, MergeRow, ArrayExt, is_use_id, indexed_name, is_word_byte, is_node_name, names_of, node_names}
use Rattle.ext_reading.proofs.Common.{element_names, path_text, IsMeasure, AreMeasures, IsLawfulNode, HasIdForm, IsArrayUse, IsMergeRow}
use Rattle.ext_reading.proofs.Common.{IsLawfulArrayExt, plain, plain_uses, uses_of_grid, element_use, raised, first_index, id_plain, indexed_told}
use Rattle.ext_reading.proofs.Common.{Lacks, one_cut, row_path, ranged, UseElements, is_among, has_byte, ElementRange, is_slash, is_path}
use Rattle.ext_reading.proofs.Common.{elements_of, leads, has_its_nodes, IsElementRange, range_path, second_of, count_of, IsReadable}
use Rattle.std.proofs.Common.{◌+ℤ◌}
use Rattle.finite_sets.proofs.Images.{In-flat_map}
use Rattle.finite_sets.proofs.Members.{In-map}
use Rattle.geo_core.specs.Elements.{elements_of as elements_of_grid}
use Rattle.geo_core.proofs.ElementLaws.{length-elements_of}
use Rattle.ext_model.specs.Lawful.{IsLawfulUse, IsLawfulTerm, IsLawfulFet, IsLawfulMerge, IsPathIn, IsLawful}
use Rattle.ext_model.specs.Plain.{plain_merge, plain_merges}
use Rattle.ext_reading.proofs.Outcomes.{Each, each_of_All, by_recursion, range_in_bounds}
use Rattle.ext_reading.proofs.ElementIds.{IsElementName, HaveForms, names_given, names_formed}
use Rattle.ext_reading.proofs.RowPaths.{all_whole, indexed_lacks, split_bytes, joined_bytes, range_name, range_path-name, path_with}
use Rattle.ext_reading.proofs.RowPaths.{path_rest, range_named}
use Rattle.ext_reading.proofs.SoundRecords.{names_in}
use Rattle.ext_reading.proofs.UseNames.{raised-is}
use Rattle.ext_reading.proofs.WrittenNames.{range_back, row_path-range, name_whole, BeginsNamed, no_range}
use Rattle.ext_reading.proofs.WrittenPaths.{is_among-In, is_path-text, bytes_of_path, leads-text, is_path-name, leads-name, no_slash, slashed}
use Rattle.ext_reading.proofs.WrittenWords.{IsMeasured, IsWrittenTerm, node_name_word, word_bytes}
use Rattle.ext_reading.proofs.WrittenLines.{IsWrittenFet, IsReadRow}
use Rattle.ext_reading.proofs.WrittenParts.{IsWrittenUse, IsWrittenNamed, IsWrittenJoin}

abbrev IsName : List ℕ → Type 0
IsName name = is_node_name name ≡ true

-- uses

-- The use has an element in the plain form, and it is of the same cell.
record HasElement (used : ArrayUse) (uses : List UseRec) : Type 0 where
  element : UseRec
  there : In element uses
  cell : element.cell ≡ used.cell

first_of : (used : ArrayUse) (elements : List (ℤ × ℤ × ℤ × ℤ)) → 0 < length elements → HasElement used (map (element_use used) elements)
first_of used [] some = absurd (omega arith)
first_of used (e ∷ elements) some = record { element = element_use used e; there = inl refl; cell = refl }

has_element : (used : ArrayUse) (grid : Option Grid) → HasElement used (uses_of_grid used grid)
has_element used None = record { element = record { cell = used.cell; id = used.id; six = used.six }; there = inl refl; cell = refl }
has_element used (Some grid) =
    let some = product (unsigned_abs (grid.yhi -ℤ grid.ylo)) (unsigned_abs (grid.xhi -ℤ grid.xlo)) in
    first_of used (elements_of_grid grid) (omega (arith, length-elements_of grid, some))
  where
    product : (a b : ℕ) → 0 < suc a * suc b
    product a b = omega arith

-- the cell of a use of a lawful record
cell_plain : (ext : ArrayExt) → IsLawful (plain ext) → (used : ArrayUse) → In used ext.uses → is_plain_name used.cell ≡ true
cell_plain ext lawful used here =
    let has = has_element used used.grid in
    let uses = (plain ext).uses in
    let all = each_of_All IsLawfulUse uses lawful.uses in
    subst (λ (name : List ℕ). is_plain_name name ≡ true) has.cell
    (all has.element (In-flat_map plain_uses used has.element ext.uses here has.there)).cell

pub written_uses : (ext : ArrayExt) → IsReadable ext → AllByRecursion IsWrittenUse ext.uses
written_uses ext is =
    let lawful = each_of_All IsArrayUse ext.uses is.lawful.uses in
    let fits = each_of_All (λ (used : ArrayUse). All (FitsSigned w32) used.six) ext.uses is.numbers in
    by_recursion IsWrittenUse ext.uses (λ u h. record {
      cell = cell_plain ext is.lawful.plain u h;
      id = (lawful u h).id;
      six = (lawful u h).six;
      fits = fits u h;
    })

-- the ids of the uses have their forms, and so have the names of their elements
pub have_forms : (ext : ArrayExt) → IsLawfulArrayExt ext → HaveForms (map elements_of ext.uses)
have_forms ext lawful = λ used h.
    let found = In-map_source elements_of used ext.uses h in
    let all = each_of_All IsArrayUse ext.uses lawful.uses in
    subst (λ (one : UseElements). HasIdForm one.grid one.id) found.1.1 (all found.0 found.1.0).id

pub elements_formed : (ext : ArrayExt) → IsLawfulArrayExt ext → Each IsElementName (element_names (plain ext))
elements_formed ext lawful =
    subst (λ (names : List (List ℕ)). Each IsElementName names) (names_given ext.uses) (names_formed (map elements_of ext.uses) (have_forms ext lawful))

-- measures
measured : (classes : ℕ) (measures : List (ℤ × ℤ)) → AreMeasures classes measures → AllByRecursion IsMeasured measures
measured classes measures are =
    let areas = each_of_All (λ (m : ℤ × ℤ). IsMeasure m.0) measures are.areas in
    let perimeters = each_of_All (λ (m : ℤ × ℤ). IsMeasure m.1) measures are.perimeters in
    by_recursion IsMeasured measures (λ m h. (areas m h, perimeters m h))

-- nodes
written_node : (classes : List ℕ) (node : NodeRec) → IsLawfulNode (length classes) node → IsWrittenNamed classes node
written_node classes node is =
    let names = each_of_All IsName (names_of node) is.names in
    record {
      node_is = record {
        name = names node.name (inl refl);
        kind = is.kind;
        cap = is.cap;
        x = is.x;
        y = is.y;
        measures = measured (length classes) node.measures is.measures;
      };
      count = is.measures.count;
      aliases_are = by_recursion IsName node.aliases (λ a h. names a (inr h));
    }

pub written_nodes : (ext : ArrayExt) → IsReadable ext → AllByRecursion (IsWrittenNamed ext.classes) ext.nodes
written_nodes ext is =
    let lawful = each_of_All (IsLawfulNode (length ext.classes)) ext.nodes is.lawful.plain.nodes in
    by_recursion (IsWrittenNamed ext.classes) ext.nodes (λ n h. written_node ext.classes n (lawful n h))

names_named : (classes : ℕ) (nodes : List NodeRec) → Each (IsLawfulNode classes) nodes → Each IsName (names_in nodes)
names_named classes [] all = λ n h. absurd h
names_named classes (node ∷ nodes) all = λ n h. elim (In-append_cases n (names_of node) (names_in nodes) h) [
  | inl here ↦ each_of_All IsName (names_of node) (all node (inl refl)).names n here
  | inr there ↦ names_named classes nodes (λ x k. all x (inr k)) n there
]

pub node_names_named : (ext : CellExt) → IsLawful ext → Each IsName (node_names ext)
node_names_named ext is = names_named (length ext.classes) ext.nodes (each_of_All (IsLawfulNode (length ext.classes)) ext.nodes is.nodes)

written_term : (ext : CellExt) (side : TermRec) → IsLawful ext → IsLawfulTerm ext side → IsWrittenTerm side
written_term ext side lawful is = (node_names_named ext lawful side.node is.node, is.length)

written_fet : (ext : CellExt) (fet : FetRec) → IsLawful ext → IsLawfulFet ext fet → IsWrittenFet fet × (has_its_nodes (node_names ext) fet ≡ true)
written_fet ext fet lawful is =
    let terminals = each_of_All (IsLawfulTerm ext) fet.terminals is.terminals in (
      record {
        kind = is.kind;
        substrate = is.substrate;
        x = is.x;
        y = is.y;
        x_below_edge = is.x_below_edge;
        y_below_edge = is.y_below_edge;
        area = is.area;
        perimeter = is.perimeter;
        gate = written_term ext fet.gate lawful is.gate;
        terminals = by_recursion IsWrittenTerm fet.terminals (λ side h. written_term ext side lawful (terminals side h));
      },
      ap (λ (t : Bool). t && list_all (λ side. is_among side.node (node_names ext)) fet.terminals) (is_among-In fet.gate.node (node_names ext) is.gate.node)
          ∙ list_all-from_In (λ (side : TermRec). is_among side.node (node_names ext)) fet.terminals
          (λ side h. is_among-In side.node (node_names ext) (terminals side h).node),
    )

pub written_fets : (ext : ArrayExt) → IsReadable ext → AllByRecursion (λ fet. IsWrittenFet fet × (has_its_nodes (node_names (plain ext)) fet ≡ true)) ext.fets
written_fets ext is =
    let lawful = each_of_All (IsLawfulFet (plain ext)) ext.fets is.lawful.plain.fets in
    by_recursion (λ (fet : FetRec). IsWrittenFet fet × (has_its_nodes (node_names (plain ext)) fet ≡ true)) ext.fets
    (λ f h. written_fet (plain ext) f is.lawful.plain (lawful f h))

-- merges
record IsWrittenPath (elements names : List (List ℕ)) (path : List ℕ) : Type 0 where
  form : is_path path ≡ true
  bytes : list_all is_word_byte path ≡ true
  leads_there : leads elements names path ≡ true

element_named : (ext : CellExt) → IsLawful ext → Each IsName (element_names ext)
element_named ext is = λ id h.
    let source = In-map_source (λ (element : UseRec). element.id) id ext.uses h in
    subst IsName source.1.1 (each_of_All IsLawfulUse ext.uses is.uses source.0 source.1.0).id

written_path : (ext : CellExt) (elements : List (List ℕ)) (path : List ℕ) → IsLawful ext → Each (λ id. In id elements) (element_names ext) → IsPathIn ext path
    → IsWrittenPath elements (node_names ext) path
written_path ext elements path lawful met (inl there) =
    let named = node_names_named ext lawful path there in
    record {
      form = is_path-name path named;
      bytes = word_bytes path (node_name_word path named);
      leads_there =
          leads-name elements (node_names ext) path named there;
    }
written_path ext elements path lawful met (inr into) =
    let id_named = element_named ext lawful into.id into.element in
    let ids = each_of_All IsName into.ids into.id_forms in
    let all : Each IsName (into.id ∷ into.ids) = λ n h. elim h [ inl e ↦ subst IsName e id_named | inr there ↦ ids n there ] in
    subst (IsWrittenPath elements (node_names ext)) (sym into.text) (record {
      form = is_path-text (into.id ∷ into.ids) into.name all into.name_form;
      bytes = bytes_of_path (into.id ∷ into.ids) into.name all into.name_form;
      leads_there = leads-text elements (node_names ext) into.id into.ids into.name id_named (met into.id into.element);
    })

-- one merge is written with its own path
alone_read : (ext : ArrayExt) (second : List ℕ) (count : ℕ) → IsLawfulArrayExt ext → IsPathIn (plain ext) second → is_path second ≡ true
    → list_all is_word_byte second ≡ true → count ≡ 1 → IsReadRow second count (row_path second count)
alone_read ext second count lawful is form bytes one =
    let few : nat_le count 1 ≡ true = grind (arith, nat_tests) in
    let whole : second ≡ row_path second count =
    sym (ap (λ (t : Bool). cond t second (ranged second (first_index second) (first_index second +ℤ pos count -ℤ pos 1))) few) in
    let none = no_range second (begins is) in
    subst (IsReadRow second count) whole (record {
      form = form;
      bytes = bytes;
      second_is = ap (second_of second) none;
      count_is = ap count_of none ∙ sym one;
    })
  where
    begins : IsPathIn (plain ext) second → (is_node_name second ≡ true) ⊎ BeginsNamed second
    begins (inl there) = inl (node_names_named (plain ext) lawful.plain second there)
    begins (inr into) = inr (record {
      name = into.id;
      rest = path_text into.ids into.name;
      form = elements_formed ext lawful into.id into.element;
      text = into.text;
    })

-- the index of an indexed path that leads
index_fits : (name id : List ℕ) (i j : ℤ) → IsTrue (is_use_id id) → IsElementName name → indexed_name id i j ≡ name → FitsSigned w32 i
index_fits name id i j form (inl is) same =
    absurd (has_byte 91 id (decimal i ++ 44 ∷ (decimal j ++ 93 ∷ [])) (subst (Lacks 91) (sym same) (id_plain name is)))
index_fits name id i j form (inr is) same =
    let told = indexed_told id is.id i j is.i is.j form is.id_form (same ∙ is.text) in
    subst (FitsSigned w32) (sym told.1) is.i_fits

path_index_fits : (ext : ArrayExt) (id : List ℕ) (i j : ℤ) (rest : List ℕ) → IsLawfulArrayExt ext → IsTrue (is_use_id id)
    → IsPathIn (plain ext) (indexed_name id i j ++ SLASH ∷ rest) → FitsSigned w32 i
path_index_fits ext id i j rest lawful form (inl there) =
    let path = indexed_name id i j ++ SLASH ∷ rest in
    absurd (true≢false (sym (slashed (indexed_name id i j) rest)
    ∙ list_any_none is_slash path (no_slash path (node_names_named (plain ext) lawful.plain path there))))
path_index_fits ext id i j rest lawful form (inr into) =
    let name = elements_formed ext lawful into.id into.element in
    let same = one_cut SLASH (indexed_name id i j) into.id rest (path_text into.ids into.name) (indexed_lacks id i j form)
    (name_whole into.id name) into.text in
    index_fits into.id id i j form name same.0

-- a row of more merges is written as a range
range_read : (ext : ArrayExt) (second id : List ℕ) (i j : ℤ) (rest : List ℕ) (count : ℕ) → IsLawfulArrayExt ext → 1 < count → IsTrue (is_use_id id)
    → FitsSigned w32 i → FitsSigned w32 j → second ≡ indexed_name id i j ++ SLASH ∷ rest → is_path second ≡ true → list_all is_word_byte second ≡ true
    → (last : ℕ) → last + 1 ≡ count → IsPathIn (plain ext) (raised second last)
    → IsReadRow second count (row_path second count)
range_read ext second id i j rest count lawful more form fi fj text path_form bytes last end leads_there =
    let hi = i +ℤ pos count -ℤ pos 1 in
    let far : raised second last ≡ indexed_name id hi j ++ SLASH ∷ rest =
    ap (λ (p : List ℕ). raised p last) text
    ∙ (raised-is id i j (SLASH ∷ rest) form fi last
    ∙ ap (λ (k : ℤ). indexed_name id k j ++ SLASH ∷ rest) (let same : i +ℤ pos last ≡ i +ℤ pos count -ℤ pos 1 = omega (arith, ints, end) in same)) in
    let fits = path_index_fits ext id hi j rest lawful form (subst (IsPathIn (plain ext)) far leads_there) in
    let range : ElementRange = record { id = id; lo = i; hi = hi; j = j; rest = rest } in
    let up : i <ℤ (i +ℤ pos count -ℤ pos 1) = omega (arith, ints, more) in
    let is : IsElementRange range = record { id = form; lo = fi; hi = fits; j = fj; upward = up } in
    let whole : range_path range ≡ row_path second count =
    sym (ap (λ (p : List ℕ). row_path p count) text ∙ row_path-range id i j rest count form fi more) in
    let back = range_back range is in
    let name = range_name range in
    let behind_slash = path_rest (indexed_name id i j) rest (all_whole (indexed_name id i j) (indexed_lacks id i j form))
    (ap is_path (sym text) ∙ path_form) in
    let named = range_named range form in
    subst (IsReadRow second count) whole (record {
      form = ap is_path (range_path-name range) ∙ path_with name rest named behind_slash;
      bytes = ap (list_all is_word_byte) (range_path-name range)
          ∙ joined_bytes name (SLASH ∷ rest) (word_bytes name (node_name_word name named))
          (split_bytes (indexed_name id i j) (SLASH ∷ rest) (ap (list_all is_word_byte) (sym text) ∙ bytes)).1;
      second_is = ap (second_of (range_path range)) back ∙ sym text;
      count_is = ap count_of back ∙ counted i count more;
    })
  where
    counted : (lo : ℤ) (n : ℕ) → 1 < n → suc (unsigned_abs ((lo +ℤ pos n -ℤ pos 1) -ℤ lo)) ≡ n
    counted lo n many = grind (arith, ints)

row_read : (ext : ArrayExt) (row : MergeRow) → IsLawfulArrayExt ext → IsMergeRow row → ((n : ℕ) → n < row.count → IsPathIn (plain ext) (raised row.second n))
    → is_path row.second ≡ true → list_all is_word_byte row.second ≡ true → IsReadRow row.second row.count (row_path row.second row.count)
row_read ext row lawful is leads_there form bytes = by_count (nat_le row.count 1) refl
  where
    by_count : (t : Bool) → nat_le row.count 1 ≡ t → IsReadRow row.second row.count (row_path row.second row.count)
    by_count true few =
        let most = leb-true row.count 1 few in
        alone_read ext row.second row.count lawful (leads_there 0 is.some) form bytes (omega (arith, most, is.some))
    by_count false many =
        let more : 1 < row.count = grind (arith, nat_tests) in
        let begins = is.indexed more in
        let one = begins.indexed in
        range_read ext row.second one.id one.i one.j begins.rest row.count lawful more one.id_form one.i_fits one.j_fits
        (begins.text ∙ ap (λ (name : List ℕ). name ++ SLASH ∷ begins.rest) one.text) form bytes (row.count - 1) (omega (arith, more))
        (leads_there (row.count - 1) (omega (arith, more)))

-- each merge of a row is one of the plain form
in_range : (n k : ℕ) → k < n → In k (range_with_len 0 n)
in_range n k below =
    let place : k < length (range_with_len 0 n) = (let long = length-range_with_len 0 n in omega arith) in
    let there : get_or (range_with_len 0 n) k 0 ≡ k = (let at = get_or-range_with_len 0 n k 0 below in omega (arith, at)) in
    subst (λ (z : ℕ). In z (range_with_len 0 n)) there (In-get_or (range_with_len 0 n) k 0 place)

lawful_merge : (ext : ArrayExt) (row : MergeRow) → IsLawful (plain ext) → In row ext.merges → (n : ℕ) → n < row.count
    → IsLawfulMerge (plain ext) (plain_merge row n)
lawful_merge ext row lawful here n below =
    let merges = (plain ext).merges in
    each_of_All (IsLawfulMerge (plain ext)) merges lawful.merges (plain_merge row n)
    (In-flat_map plain_merges row (plain_merge row n) ext.merges here (In-map (plain_merge row) n (range_with_len 0 row.count) (in_range row.count n below)))

written_merge : (ext : ArrayExt) (elements : List (List ℕ)) (row : MergeRow) → IsLawfulArrayExt ext → IsMergeRow row → In row ext.merges
    → Each (λ id. In id elements) (element_names (plain ext))
    → IsWrittenJoin ext.classes elements (node_names (plain ext)) row
written_merge ext elements row lawful is here met =
    let names = node_names (plain ext) in
    let each = lawful_merge ext row lawful.plain here in
    let first = each 0 is.some in
    let one = written_path (plain ext) elements row.first lawful.plain met first.first in
    let two = written_path (plain ext) elements row.second lawful.plain met first.second in
    record {
      merge_is = record {
        first = one.form;
        first_bytes = one.bytes;
        second = row_read ext row lawful is (λ n below. (each n below).second) two.form two.bytes;
        cap = first.cap;
        measures = measured (length ext.classes) row.measures first.measures;
      };
      count = first.measures.count;
      first = one.leads_there;
      seconds = list_all-from_In (λ n. leads elements names (raised row.second n)) (range_with_len 0 row.count) (λ n h.
          let below : n < row.count = (let within = range_in_bounds 0 row.count n h in omega (arith, within)) in
          (written_path (plain ext) elements (raised row.second n) lawful.plain met (each n below).second).leads_there);
    }

pub written_merges : (ext : ArrayExt) (elements : List (List ℕ)) → IsReadable ext → Each (λ id. In id elements) (element_names (plain ext))
    → AllByRecursion (IsWrittenJoin ext.classes elements (node_names (plain ext))) ext.merges
written_merges ext elements is met =
    let rows = each_of_All IsMergeRow ext.merges is.lawful.rows in
    by_recursion (IsWrittenJoin ext.classes elements (node_names (plain ext))) ext.merges (λ m h. written_merge ext elements m is.lawful (rows m h) h met)
