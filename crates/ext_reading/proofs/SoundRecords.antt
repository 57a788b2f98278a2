-- When what a circuit file has said so far is sound; lines of the header and of uses keep it so.
use Rattle.ext_reading.proofs.Common.{◌≡◌, ◌≤◌, ◌<◌, ◌&&◌, ℕ, ℤ, Bool, true, false, List, [], ◌∷◌, ◌++◌, length, map, sym, ap, ◌∙◌, subst, nat_lt}
use Rattle.ext_reading.proofs.Common.{sum_by, Some, unsigned_abs, flat_map, map-append, In, Distinct, All-from_In, is_plain_name, MOST_CLASSES}
use Rattle.ext_reading.proofs.Common.{LENGTHS_EDGE, NodeRec, FetRec, ArrayUse, MergeRow, is_word, names_of, IsMeasure, AreMeasures, IsLawfulNode}
use Rattle.ext_reading.proofs.Common.{HasIdForm, IsArrayUse, IsMergeRow, raised, gives_again, BadLine, NoHeader, NameTwice, Range, UseTwice}
use Rattle.ext_reading.proofs.Common.{MOST_USES, HeaderLine, Tech, Timestamp, Version, Style, Scale, Classes, UseLine, is_path, class_values_in}
use Rattle.ext_reading.proofs.Common.{grid_in, six_in, Outline, Draft, is_incomplete, was_seen, with_seen, is_other_version, with_header}
use Rattle.ext_reading.proofs.Common.{takes_header, takes_use, elements_of, leads, all_lead, elements_known}
use Rattle.element_index.specs.GivenNames as given_names
use Rattle.ext_reading.specs.declared.faults.ExtReadFault.TheVariants.{Version as OtherVersion}
use Rattle.ext_reading.specs.Drafts.{with_use}
use Rattle.ext_reading.proofs.Outcomes.{OkHas, next_has, passed_has, failed_has, Each, each_none, each_push}
use Rattle.ext_reading.proofs.ElementIds.{distinct_push}
use Rattle.ext_reading.proofs.LawfulLines.{IsFormedHeader, IsFormedUse}
use Rattle.ext_reading.proofs.LawfulDrafts.{AreCounted, class_values_in-has, grid_in-has, six_in-has, IsPoint}
use Rattle.ext_reading.proofs.LawfulDrafts.{IsMeasuredTerm}

-- an area and a perimeter for each class
pub are_measures : (classes : ℕ) (measures : List (ℤ × ℤ)) → AreCounted classes measures → AreMeasures classes measures
are_measures classes measures is = record {
  count = is.count;
  areas = All-from_In (λ m. IsMeasure m.0) measures (λ m h. (is.pairs m h).area);
  perimeters = All-from_In (λ m. IsMeasure m.1) measures (λ m h. (is.pairs m h).perimeter);
}

-- a transistor whose nodes have these names
pub record IsSoundFet (names : List (List ℕ)) (fet : FetRec) : Type 0 where
  pub kind : is_word fet.kind ≡ true
  pub substrate : is_word fet.substrate ≡ true
  pub point : IsPoint (fet.x, fet.y)
  pub area : IsMeasure fet.area
  pub perimeter : IsMeasure fet.perimeter
  pub gate : IsMeasuredTerm fet.gate
  pub gate_node : In fet.gate.node names
  pub terminals : Each IsMeasuredTerm fet.terminals
  pub terminal_nodes : Each (λ side. In side.node names) fet.terminals
  pub lengths : sum_by (λ side. unsigned_abs side.length) fet.terminals < LENGTHS_EDGE

-- a merge of nodes with these names and of nodes below these elements
pub record IsSoundMerge (classes : ℕ) (elements names : List (List ℕ)) (row : MergeRow) : Type 0 where
  pub is_row : IsMergeRow row
  pub first_path : is_path row.first ≡ true
  pub second_paths : (n : ℕ) → n < row.count → is_path (raised row.second n) ≡ true
  pub first : leads elements names row.first ≡ true
  pub seconds : all_lead elements names row.second row.count ≡ true
  pub cap : IsMeasure row.cap
  pub measures : AreMeasures classes row.measures

-- a use of its form
pub record IsSoundUse (used : ArrayUse) : Type 0 where
  pub cell : is_plain_name used.cell ≡ true
  pub is_use : IsArrayUse used

-- all names of nodes
abbrev pub names_in : List NodeRec → List (List ℕ)
names_in nodes = flat_map names_of nodes

-- the names are those of the nodes, and each is of one of them
pub record AreNames (nodes : List NodeRec) (names : List (List ℕ)) (owners : List ℕ) : Type 0 where
  pub known : Each (λ name. In name (names_in nodes)) names
  pub listed : Each (λ name. In name names) (names_in nodes)
  pub differ : Distinct (names_in nodes)
  pub count : length owners ≡ length names
  pub within : Each (λ owner. owner < length nodes) owners

pub record IsSound (outline : Outline) (draft : Draft) : Type 0 where
  pub tech : draft.seen.tech ≡ true → is_word draft.tech ≡ true
  pub classes : length draft.classes ≤ MOST_CLASSES
  pub no_nodes : draft.begun ≡ false → draft.nodes ≡ []
  pub no_merges : draft.begun ≡ false → draft.merges ≡ []
  pub uses : Each IsSoundUse draft.uses
  pub given : draft.given ≡ map elements_of draft.uses
  pub given_differ : Distinct (given_names.names_in draft.given)
  pub nodes : Each (IsLawfulNode (length draft.classes)) draft.nodes
  pub names : AreNames draft.nodes draft.names draft.owners
  pub fets : Each (IsSoundFet draft.names) draft.fets
  pub merges : Each (IsSoundMerge (length draft.classes) (elements_known draft.version outline) draft.names) draft.merges

pub absent_in : {X : Type 0} (P : X → Type 0) (xs : List X) → xs ≡ [] → Each P xs
absent_in {X} P xs none = let Q : List X → Type 0 = λ l. Each P l in subst Q (sym none) (each_none P)

-- lines of the header
pub header_sound : (outline : Outline) (draft : Draft) (header : HeaderLine) → IsSound outline draft → IsFormedHeader header → draft.begun ≡ false
    → OkHas (IsSound outline) (with_header (record draft { seen = with_seen draft.seen header }) header)
header_sound outline draft (Tech name) is formed early = record {
  tech = λ e. formed;
  classes = is.classes;
  no_nodes = is.no_nodes;
  no_merges = is.no_merges;
  uses = is.uses;
  given = is.given;
  given_differ = is.given_differ;
  nodes = is.nodes;
  names = is.names;
  fets = is.fets;
  merges = is.merges;
}
header_sound outline draft (Classes values) is formed early =
    next_has (λ found. length found ≤ MOST_CLASSES) (IsSound outline) (class_values_in values) _ (class_values_in-has values) (λ found few. record {
      tech = is.tech;
      classes = few;
      no_nodes = is.no_nodes;
      no_merges = is.no_merges;
      uses = is.uses;
      given = is.given;
      given_differ = is.given_differ;
      nodes = absent_in (IsLawfulNode (length found)) draft.nodes (is.no_nodes early);
      names = is.names;
      fets = is.fets;
      merges = absent_in (IsSoundMerge (length found) (elements_known draft.version outline) draft.names) draft.merges (is.no_merges early);
    })
header_sound outline draft Timestamp is formed early = record {
  tech = is.tech;
  classes = is.classes;
  no_nodes = is.no_nodes;
  no_merges = is.no_merges;
  uses = is.uses;
  given = is.given;
  given_differ = is.given_differ;
  nodes = is.nodes;
  names = is.names;
  fets = is.fets;
  merges = is.merges;
}
header_sound outline draft (Version version) is formed early = record {
  tech = is.tech;
  classes = is.classes;
  no_nodes = is.no_nodes;
  no_merges = is.no_merges;
  uses = is.uses;
  given = is.given;
  given_differ = is.given_differ;
  nodes = is.nodes;
  names = is.names;
  fets = is.fets;
  merges = absent_in (IsSoundMerge (length draft.classes) (elements_known (Some version) outline) draft.names) draft.merges (is.no_merges early);
}
header_sound outline draft Style is formed early = record {
  tech = is.tech;
  classes = is.classes;
  no_nodes = is.no_nodes;
  no_merges = is.no_merges;
  uses = is.uses;
  given = is.given;
  given_differ = is.given_differ;
  nodes = is.nodes;
  names = is.names;
  fets = is.fets;
  merges = is.merges;
}
header_sound outline draft Scale is formed early = record {
  tech = is.tech;
  classes = is.classes;
  no_nodes = is.no_nodes;
  no_merges = is.no_merges;
  uses = is.uses;
  given = is.given;
  given_differ = is.given_differ;
  nodes = is.nodes;
  names = is.names;
  fets = is.fets;
  merges = is.merges;
}

pub takes_header-sound : (outline : Outline) (is_last : Bool) (draft : Draft) (header : HeaderLine) → IsSound outline draft → IsFormedHeader header
    → OkHas (IsSound outline) (takes_header is_last draft header)
takes_header-sound outline is_last draft header is formed =
    failed_has (IsSound outline) draft.begun _ BadLine (λ early.
    failed_has (IsSound outline) (is_last && is_incomplete (with_seen draft.seen header)) _ NoHeader (λ e1.
    failed_has (IsSound outline) (is_other_version header) _ OtherVersion (λ e2.
    failed_has (IsSound outline) (was_seen draft.seen header) _ NameTwice (λ e3.
    header_sound outline draft header is formed early))))

-- a line behind the header begins
pub begun_sound : (outline : Outline) (draft : Draft) → IsSound outline draft → IsSound outline (record draft { begun = true })
begun_sound outline draft is = record {
  tech = is.tech;
  classes = is.classes;
  no_nodes = λ e. absurd (let no : ⊥ = cc in no);
  no_merges = λ e. absurd (let no : ⊥ = cc in no);
  uses = is.uses;
  given = is.given;
  given_differ = is.given_differ;
  nodes = is.nodes;
  names = is.names;
  fets = is.fets;
  merges = is.merges;
}

-- a use
pub use_sound : (outline : Outline) (draft : Draft) (used : ArrayUse) → IsSound outline draft → IsSoundUse used
    → gives_again draft.given (elements_of used) ≡ false → IsSound outline (with_use draft used)
use_sound outline draft used is sound new = record {
  tech = is.tech;
  classes = is.classes;
  no_nodes = is.no_nodes;
  no_merges = is.no_merges;
  uses = each_push IsSoundUse draft.uses used is.uses sound;
  given = ap (λ l. l ++ elements_of used ∷ []) is.given ∙ sym (map-append elements_of draft.uses (used ∷ []));
  given_differ = distinct_push draft.given (elements_of used) is.given_differ sound.is_use.id new;
  nodes = is.nodes;
  names = is.names;
  fets = is.fets;
  merges = is.merges;
}

pub takes_use-sound : (outline : Outline) (draft : Draft) (line : UseLine) → IsSound outline draft → IsFormedUse line
    → OkHas (IsSound outline) (takes_use draft line)
takes_use-sound outline draft line is formed =
    passed_has (IsSound outline) (nat_lt (length draft.uses) MOST_USES) _ Range (λ few.
    next_has (λ grid. HasIdForm grid line.name.id) (IsSound outline) (grid_in line.name.grid) _ (grid_in-has line.name.grid line.name.id formed.named)
    (λ grid form.
    next_has _ (IsSound outline) (six_in line.six) _ (six_in-has line.six) (λ six placed.
    let used : ArrayUse = record { cell = line.cell; id = line.name.id; six = six; grid = grid } in
    failed_has (IsSound outline) (gives_again draft.given (elements_of used)) _ UseTwice (λ new.
    use_sound outline draft used is (record { cell = formed.cell; is_use = record { id = form; six = placed } }) new))))
