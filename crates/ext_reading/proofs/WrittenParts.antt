-- The records of a written text are read back, kind by kind.
use Rattle.ext_reading.proofs.Common.{◌≡◌, ◌≤◌, ◌<◌, ◌+◌, ◌==◌, ℕ, ℤ, Bool, true, false, List, [], ◌∷◌, ◌++◌, length, map, Ok, FitsSigned, refl, sym}
use Rattle.ext_reading.proofs.Common.{ap, ◌∙◌, subst, arith, inl, inr, length-append, append_assoc, append-nil, All, w32, AllByRecursion, flat_map}
use Rattle.ext_reading.proofs.Common.{map-append, In, Distinct, In-append_left, is_plain_name, IsWord, line_of, first_fault_or, six_of, matrix}
use Rattle.ext_reading.proofs.Common.{NodeRec, FetRec, ArrayUse, MergeRow, is_node_name, SHIFT_EDGE, IsPlacement, HasIdForm, node_words, node_lines}
use Rattle.ext_reading.proofs.Common.{MOST_USES, UseLine, Use, Node, Equiv, Fet, Merge, Outline, words_say, grid_in, UseElements, element_ids}
use Rattle.ext_reading.proofs.Common.{is_among, gives_again, names_more, Draft, elements_of, leads, all_lead, has_its_nodes, step}
use Rattle.finite_sets.proofs.Distincts.{Distinct-cut, Distinct-append_left}
use Rattle.text_form.specs.Folds.{unless_faulty}
use Rattle.text_form.proofs.FoldLaws.{first_fault_or-append}
use Rattle.ext_text.specs.WrittenTexts.{use_words, equiv_words, fet_words, merge_words}
use Rattle.element_index.specs.GivenNames as given_names
use Rattle.geo_core.proofs.OrientationLaws.{is_orientation-six_of}
use Rattle.ext_reading.proofs.ElementIds.{new_use}
use Rattle.ext_reading.proofs.Outcomes.{Each, each_of_All}
use Rattle.ext_reading.proofs.SoundRecords.{names_in}
use Rattle.ext_reading.proofs.WrittenPaths.{is_among-not}
use Rattle.ext_reading.proofs.WrittenLines.{use_said, says_use, words_use, IsWrittenNode, node_said, says_node, words_node, says_equiv, words_equiv}
use Rattle.ext_reading.proofs.WrittenLines.{IsWrittenFet}
use Rattle.ext_reading.proofs.WrittenLines.{fet_said, says_fet, words_fet, IsWrittenMerge, merge_said, says_merge, words_merge}
use Rattle.ext_reading.proofs.WrittenSteps.{made, step_is, use_from, grid_back, takes_use-is, takes_node-is, takes_equiv-is, takes_fet-is, takes_merge-is}

-- a line without a fault, and those behind it
pub passes : (outline : Outline) (number : ℕ) (draft next : Draft) (line : List ℕ) (lines : List (List ℕ)) → step outline number draft line ≡ Ok next
    → first_fault_or (step outline) number draft (line ∷ lines) ≡ first_fault_or (step outline) (number + 1) next lines
passes outline number draft next line lines e = ap (λ found. unless_faulty number found (λ state. first_fault_or (step outline) (number + 1) state lines)) e

-- uses
pub record IsWrittenUse (used : ArrayUse) : Type 0 where
  pub cell : is_plain_name used.cell ≡ true
  pub id : HasIdForm used.grid used.id
  pub six : IsPlacement SHIFT_EDGE used.six
  pub fits : All (FitsSigned w32) used.six

-- The line says the use.
pub record IsUseSaid (used : ArrayUse) (line : UseLine) : Type 0 where
  pub says_it : words_say (use_words used) ≡ Ok (Use line)
  pub id : line.name.id ≡ used.id
  pub grid : grid_in line.name.grid ≡ Ok used.grid

pub record IsUseRead (outline : Outline) (number : ℕ) (begun : Bool) (tech classes : List ℕ) (done : List ArrayUse) (used : ArrayUse) : Type 0 where
  pub line : UseLine
  pub said : IsUseSaid used line
  pub words : AllByRecursion IsWord (use_words used)
  pub step_it : length done < MOST_USES → gives_again (map elements_of done) (elements_of used) ≡ false
      → step outline number (made begun tech classes done [] [] [] [] []) (line_of (use_words used))
      ≡ Ok (made true tech classes (done ++ used ∷ []) [] [] [] [] [])

pub use_read : (outline : Outline) (number : ℕ) (begun : Bool) (tech classes : List ℕ) (done : List ArrayUse) (used : ArrayUse) → IsWrittenUse used
    → IsUseRead outline number begun tech classes done used
use_read outline number begun tech classes done used is =
    let t = is.six.transform in
    let m = matrix t.orient in
    let made_use = use_from used.cell used.id used.grid m.a m.b t.dx m.d m.e t.dy in
    let same : made_use ≡ used = ap (λ (s : List ℤ). record { cell = used.cell; id = used.id; six = s; grid = used.grid }) is.six.numbers in
    let fits : Each (FitsSigned w32) (six_of t) =
    each_of_All (FitsSigned w32) (six_of t) (subst (λ (s : List ℤ). All (FitsSigned w32) s) (sym is.six.numbers) is.fits) in
    let fa = fits m.a (inl refl) in
    let fb = fits m.b (inr (inl refl)) in
    let fc = fits t.dx (inr (inr (inl refl))) in
    let fd = fits m.d (inr (inr (inr (inl refl)))) in
    let fe = fits m.e (inr (inr (inr (inr (inl refl))))) in
    let ff = fits t.dy (inr (inr (inr (inr (inr (inl refl)))))) in
    let said = use_said used.cell used.id used.grid m.a m.b t.dx m.d m.e t.dy in
    let says = says_use used.cell used.id used.grid m.a m.b t.dx m.d m.e t.dy is.cell is.id fa fb fc fd fe ff in
    let words = words_use used.cell used.id used.grid (six_of t) is.cell is.id in
    subst (IsUseRead outline number begun tech classes done) same (record {
      line = said;
      said = record { says_it = says; id = refl; grid = grid_back used.id used.grid is.id };
      words = words;
      step_it = λ few new. step_is outline number (made begun tech classes done [] [] [] [] [])
          (made true tech classes (done ++ made_use ∷ []) [] [] [] [] [])
          (use_words made_use) (Use said) words says
          (takes_use-is begun tech classes done outline (number == outline.last) used.cell used.id used.grid m.a m.b t.dx m.d m.e t.dy is.id fa fb fc fd fe ff
          (is_orientation-six_of t m.a m.b t.dx m.d m.e t.dy refl) few new);
    })

-- the names of the elements of these uses, and then those of the others
abbrev pub names_of_both : List ArrayUse → List ArrayUse → List (List ℕ)
names_of_both done uses = given_names.names_in (map elements_of done) ++ given_names.names_in (map elements_of uses)

pub names_moved : (done : List ArrayUse) (used : ArrayUse) (uses : List ArrayUse) → names_of_both (done ++ used ∷ []) uses ≡ names_of_both done (used ∷ uses)
names_moved done used uses =
    let others = given_names.names_in (map elements_of uses) in
    ap (λ (l : List UseElements). given_names.names_in l ++ others) (map-append elements_of done (used ∷ []))
    ∙ (ap (λ (l : List (List ℕ)). l ++ others) (names_more (map elements_of done) (elements_of used))
    ∙ append_assoc (given_names.names_in (map elements_of done)) (element_ids used.id used.grid) others)

pub new_here : (done : List ArrayUse) (used : ArrayUse) (uses : List ArrayUse) → Distinct (names_of_both done (used ∷ uses))
    → gives_again (map elements_of done) (elements_of used) ≡ false
new_here done used uses differ = new_use (map elements_of done) (elements_of used) (given_names.names_in (map elements_of uses)) differ

pub uses_back : (outline : Outline) (number : ℕ) (begun : Bool) (tech classes : List ℕ) (done uses : List ArrayUse) → AllByRecursion IsWrittenUse uses
    → length done + length uses ≤ MOST_USES → Distinct (names_of_both done uses)
    → (b : Bool) × (first_fault_or (step outline) number (made begun tech classes done [] [] [] [] []) (map line_of (map use_words uses))
    ≡ Ok (made b tech classes (done ++ uses) [] [] [] [] []))
uses_back outline number begun tech classes done [] all few differ = (begun, ap (λ l. Ok (made begun tech classes l [] [] [] [] [])) (sym (append-nil done)))
uses_back outline number begun tech classes done (u ∷ uses) all few differ =
    let one = (use_read outline number begun tech classes done u all.0).step_it (omega arith) (new_here done u uses differ) in
    let rest = uses_back outline (number + 1) true tech classes (done ++ u ∷ []) uses all.1 (omega (arith, length-append done (u ∷ [])))
    (subst Distinct (sym (names_moved done u uses)) differ) in (
      rest.0,
      passes outline number (made begun tech classes done [] [] [] [] []) (made true tech classes (done ++ u ∷ []) [] [] [] [] []) (line_of (use_words u))
          (map line_of (map use_words uses)) one
          ∙ (rest.1 ∙ ap (λ l. Ok (made rest.0 tech classes l [] [] [] [] [])) (append_assoc done (u ∷ []) uses)),
    )

-- the other names of a node
record AreRead (outline : Outline) (number : ℕ) (tech classes : List ℕ) (uses : List ArrayUse) (done : List NodeRec) (node : NodeRec)
    (before so_far aliases : List (List ℕ))
    (owners more : List ℕ) : Type 0 where
  all_more : List ℕ
  count : length all_more ≡ length (so_far ++ aliases)
  read : first_fault_or (step outline) number
      (made true tech classes uses (done ++ (record node { aliases = so_far }) ∷ []) (before ++ node.name ∷ so_far) (owners ++ length done ∷ more) [] [])
      (map line_of (map (equiv_words node.name) aliases))
      ≡ Ok (made true tech classes uses (done ++ (record node { aliases = so_far ++ aliases }) ∷ []) (before ++ node.name ∷ (so_far ++ aliases))
      (owners ++ length done ∷ all_more) [] [])

aliases_back : (outline : Outline) (number : ℕ) (tech classes : List ℕ) (uses : List ArrayUse) (done : List NodeRec) (node : NodeRec)
    (before so_far aliases : List (List ℕ))
    (owners more : List ℕ) → is_node_name node.name ≡ true → AllByRecursion (λ alias. is_node_name alias ≡ true) aliases → length owners ≡ length before
    → length more ≡ length so_far → (In node.name before → ⊥) → Distinct ((before ++ node.name ∷ so_far) ++ aliases)
    → AreRead outline number tech classes uses done node before so_far aliases owners more
aliases_back outline number tech classes uses done node before so_far [] owners more named all count counts absent differ = record {
  all_more = more;
  count = counts ∙ ap length (sym (append-nil so_far));
  read = ap (λ l. Ok (made true tech classes uses (done ++ (record node { aliases = l }) ∷ []) (before ++ node.name ∷ l) (owners ++ length done ∷ more) []
      [])) (sym (append-nil so_far));
}
aliases_back outline number tech classes uses done node before so_far (a ∷ aliases) owners more named all count counts absent differ =
    let cut = Distinct-cut (before ++ node.name ∷ so_far) aliases a differ in
    let new = is_among-not a (before ++ node.name ∷ so_far) (λ h. cut.0 (In-append_left a (before ++ node.name ∷ so_far) aliases h)) in
    let so_named : NodeRec = record node { aliases = so_far } in
    let words = words_equiv node.name a named all.0 in
    let one = step_is outline number
    (made true tech classes uses (done ++ so_named ∷ []) (before ++ node.name ∷ so_far) (owners ++ length done ∷ more) [] [])
    (made true tech classes uses (done ++ (record node { aliases = so_far ++ a ∷ [] }) ∷ []) (before ++ node.name ∷ (so_far ++ a ∷ []))
    (owners ++ length done ∷ (more ++ length done ∷ [])) [] [])
    (equiv_words node.name a) (Equiv node.name a) words (says_equiv node.name a named all.0)
    (takes_equiv-is tech classes uses done so_named before so_far owners more outline (number == outline.last) a count absent new) in
    let names = ap (λ l. l ++ aliases) (sym (append_assoc before (node.name ∷ so_far) (a ∷ [])))
    ∙ append_assoc (before ++ node.name ∷ so_far) (a ∷ []) aliases in
    let rest = aliases_back outline (number + 1) tech classes uses done node before (so_far ++ a ∷ []) aliases owners (more ++ length done ∷ []) named
    all.1 count
    (omega (arith, counts, length-append more (length done ∷ []), length-append so_far (a ∷ []))) absent (subst Distinct (sym names) differ) in
    let joined = append_assoc so_far (a ∷ []) aliases in
    record {
      all_more = rest.all_more;
      count = rest.count ∙ ap length joined;
      read = passes outline number _ _ (line_of (equiv_words node.name a)) (map line_of (map (equiv_words node.name) aliases)) one
          ∙ (rest.read ∙ ap (λ l. Ok (made true tech classes uses (done ++ (record node { aliases = l }) ∷ []) (before ++ node.name ∷ l)
          (owners ++ length done ∷ rest.all_more) [] [])) joined);
    }

-- nodes with their other names
pub record IsWrittenNamed (classes : List ℕ) (node : NodeRec) : Type 0 where
  pub node_is : IsWrittenNode node
  pub count : length node.measures ≡ length classes
  pub aliases_are : AllByRecursion (λ alias. is_node_name alias ≡ true) node.aliases

pub record NodesRead (outline : Outline) (number : ℕ) (start : Draft) (tech classes : List ℕ) (uses : List ArrayUse) (all nodes : List NodeRec)
    (names : List (List ℕ)) : Type 0 where
  pub begun : Bool
  pub owners : List ℕ
  pub read : first_fault_or (step outline) number start (map line_of (flat_map node_lines nodes)) ≡ Ok (made begun tech classes uses all names owners [] [])

pub nodes_back : (outline : Outline) (number : ℕ) (begun : Bool) (tech classes : List ℕ) (uses : List ArrayUse) (done nodes : List NodeRec)
    (names : List (List ℕ)) (owners : List ℕ)
    → AllByRecursion (IsWrittenNamed classes) nodes → length owners ≡ length names → Distinct (names ++ names_in nodes)
    → NodesRead outline number (made begun tech classes uses done names owners [] []) tech classes uses (done ++ nodes) nodes (names ++ names_in nodes)
nodes_back outline number begun tech classes uses done [] names owners all count differ = record {
  begun = begun;
  owners = owners;
  read = ap (λ l. Ok (made begun tech classes uses l names owners [] [])) (sym (append-nil done))
      ∙ ap (λ l. Ok (made begun tech classes uses (done ++ []) l owners [] [])) (sym (append-nil names));
}
nodes_back outline number begun tech classes uses done (n ∷ nodes) names owners all count differ =
    let is = all.0 in
    let cut = Distinct-cut names (n.aliases ++ names_in nodes) n.name differ in
    let absent : In n.name names → ⊥ = λ h. cut.0 (In-append_left n.name names (n.aliases ++ names_in nodes) h) in
    let first : Draft = made true tech classes uses (done ++ (record n { aliases = [] }) ∷ []) (names ++ n.name ∷ []) (owners ++ length done ∷ []) [] [] in
    let one = step_is outline number (made begun tech classes uses done names owners [] []) first (node_words n) (Node (node_said n))
    (words_node n is.node_is) (says_node n is.node_is)
    (takes_node-is begun tech classes uses done names owners outline (number == outline.last) n is.node_is is.count
    (is_among-not n.name names absent)) in
    let named = append_assoc names (n.name ∷ n.aliases) (names_in nodes) in
    let apart : Distinct ((names ++ n.name ∷ n.aliases) ++ names_in nodes) = subst Distinct (sym named) differ in
    let own = append_assoc names (n.name ∷ []) n.aliases in
    let two = aliases_back outline (number + 1) tech classes uses done n names [] n.aliases owners [] is.node_is.name is.aliases_are count refl absent
    (subst Distinct (sym own) (Distinct-append_left (names ++ n.name ∷ n.aliases) (names_in nodes) apart)) in
    let lines = map line_of (map (equiv_words n.name) n.aliases) in
    let others = map line_of (flat_map node_lines nodes) in
    let there = (number + 1) + length lines in
    let rest = nodes_back outline there true tech classes uses (done ++ n ∷ []) nodes (names ++ n.name ∷ n.aliases) (owners ++ length done ∷ two.all_more) all.1
    (omega (arith, count, two.count, length-append owners (length done ∷ two.all_more), length-append names (n.name ∷ n.aliases))) apart in
    record {
      begun = rest.begun;
      owners = rest.owners;
      read = passes outline number (made begun tech classes uses done names owners [] []) first (line_of (node_words n))
          (map line_of (map (equiv_words n.name) n.aliases ++ flat_map node_lines nodes)) one
          ∙ (ap (first_fault_or (step outline) (number + 1) first) (map-append line_of (map (equiv_words n.name) n.aliases) (flat_map node_lines nodes))
          ∙ (first_fault_or-append (step outline) (number + 1) first lines others _ two.read
          ∙ (rest.read ∙ (ap (λ l. Ok (made rest.begun tech classes uses l ((names ++ n.name ∷ n.aliases) ++ names_in nodes) rest.owners [] []))
          (append_assoc done (n ∷ []) nodes)
          ∙ ap (λ l. Ok (made rest.begun tech classes uses (done ++ n ∷ nodes) l rest.owners [] [])) named))));
    }

-- transistors
pub fets_back : (outline : Outline) (number : ℕ) (begun : Bool) (tech classes : List ℕ) (uses : List ArrayUse) (nodes : List NodeRec)
    (names : List (List ℕ)) (owners : List ℕ)
    (done fets : List FetRec) → AllByRecursion (λ fet. IsWrittenFet fet × (has_its_nodes names fet ≡ true)) fets
    → (b : Bool) × (first_fault_or (step outline) number (made begun tech classes uses nodes names owners done []) (map line_of (map fet_words fets))
    ≡ Ok (made b tech classes uses nodes names owners (done ++ fets) []))
fets_back outline number begun tech classes uses nodes names owners done [] all =
    (begun, ap (λ l. Ok (made begun tech classes uses nodes names owners l [])) (sym (append-nil done)))
fets_back outline number begun tech classes uses nodes names owners done (f ∷ fets) all =
    let one = step_is outline number (made begun tech classes uses nodes names owners done [])
    (made true tech classes uses nodes names owners (done ++ f ∷ []) [])
    (fet_words f) (Fet (fet_said f)) (words_fet f all.0.0) (says_fet f all.0.0)
    (takes_fet-is begun tech classes uses nodes names owners done outline (number == outline.last) f all.0.0 all.0.1) in
    let rest = fets_back outline (number + 1) true tech classes uses nodes names owners (done ++ f ∷ []) fets all.1 in (
      rest.0,
      passes outline number (made begun tech classes uses nodes names owners done []) (made true tech classes uses nodes names owners (done ++ f ∷ []) [])
          (line_of (fet_words f)) (map line_of (map fet_words fets)) one
          ∙ (rest.1 ∙ ap (λ l. Ok (made rest.0 tech classes uses nodes names owners l [])) (append_assoc done (f ∷ []) fets)),
    )

-- merges
pub record IsWrittenJoin (classes : List ℕ) (elements names : List (List ℕ)) (row : MergeRow) : Type 0 where
  pub merge_is : IsWrittenMerge row
  pub count : length row.measures ≡ length classes
  pub first : leads elements names row.first ≡ true
  pub seconds : all_lead elements names row.second row.count ≡ true

pub merges_back : (outline : Outline) (number : ℕ) (begun : Bool) (tech classes : List ℕ) (uses : List ArrayUse) (nodes : List NodeRec)
    (names : List (List ℕ)) (owners : List ℕ)
    (fets : List FetRec) (done merges : List MergeRow) → AllByRecursion (IsWrittenJoin classes (given_names.names_in outline.all) names) merges
    → (b : Bool) × (first_fault_or (step outline) number (made begun tech classes uses nodes names owners fets done) (map line_of (map merge_words merges))
    ≡ Ok (made b tech classes uses nodes names owners fets (done ++ merges)))
merges_back outline number begun tech classes uses nodes names owners fets done [] all =
    (begun, ap (λ l. Ok (made begun tech classes uses nodes names owners fets l)) (sym (append-nil done)))
merges_back outline number begun tech classes uses nodes names owners fets done (m ∷ merges) all =
    let is = all.0 in
    let one = step_is outline number (made begun tech classes uses nodes names owners fets done)
    (made true tech classes uses nodes names owners fets (done ++ m ∷ []))
    (merge_words m) (Merge (merge_said m)) (words_merge m is.merge_is) (says_merge m is.merge_is)
    (takes_merge-is begun tech classes uses nodes names owners fets done outline (number == outline.last) m is.merge_is is.count is.first is.seconds) in
    let rest = merges_back outline (number + 1) true tech classes uses nodes names owners fets (done ++ m ∷ []) merges all.1 in (
      rest.0,
      passes outline number (made begun tech classes uses nodes names owners fets done)
          (made true tech classes uses nodes names owners fets (done ++ m ∷ [])) (line_of (merge_words m)) (map line_of (map merge_words merges)) one
          ∙ (rest.1 ∙ ap (λ l. Ok (made rest.0 tech classes uses nodes names owners fets l)) (append_assoc done (m ∷ []) merges)),
    )
