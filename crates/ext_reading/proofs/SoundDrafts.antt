-- What a circuit file has said so far is sound: each line keeps it so.
use Rattle.ext_reading.proofs.Common.{◌≡◌, ◌<◌, ◌+◌, ◌*◌, ◌==◌, ◌&&◌, ◌||◌, ℕ, ℤ, Bool, true, false, not, Option, List, [], ◌∷◌, ◌++◌, length, refl}
use Rattle.ext_reading.proofs.Common.{arith, sum_by, unsigned_abs, list_all, and_parts, nat_tests, bytes_eq-Decides, bytes_eq, list_all-In}
use Rattle.ext_reading.proofs.Common.{In-from_list_any, LENGTHS_EDGE, TermRec, FetRec, MergeRow, is_word, IsMeasure, AreMeasures, IsMergeRow, raised}
use Rattle.ext_reading.proofs.Common.{is_among, BadLine, NoHeader, NoName, LONGEST_READ_TEXT, FetLine, MergeLine, ElementRange, ExtLine, Nothing}
use Rattle.ext_reading.proofs.Common.{Header, Use, Node, Equiv, Fet, Merge, is_path, measure_in, measures_in, point_in, term_in, terms_from, Outline}
use Rattle.ext_reading.proofs.Common.{Draft, is_incomplete, fet_from, has_its_nodes, leads, all_lead, range_in, merge_from, elements_known}
use Rattle.ext_reading.proofs.Common.{takes_record, fits_classes, fits_version, takes_body, takes}
use Rattle.ext_reading.specs.Drafts.{takes_fet, takes_merge, has_measures}
use Rattle.ext_reading.proofs.Outcomes.{OkHas, next_has, passed_has, failed_has, Each, each_none, each_push}
use Rattle.ext_reading.proofs.LawfulLines.{IsFormedFet, IsFormedMerge, IsFormed}
use Rattle.ext_reading.proofs.LawfulDrafts.{measure_in-has, AreCounted, measures_in-has, IsPoint, point_in-has}
use Rattle.ext_reading.proofs.LawfulDrafts.{IsMeasuredTerm, term_in-has, AreTerms, terms_from-has, lengths_below}
use Rattle.ext_reading.proofs.SoundRecords.{are_measures, IsSoundFet, IsSoundMerge, IsSound, takes_header-sound, begun_sound}
use Rattle.ext_reading.proofs.SoundRecords.{takes_use-sound}
use Rattle.ext_reading.proofs.RowPaths.{AreSeconds, seconds_in}
use Rattle.ext_reading.proofs.SoundNodes.{takes_node-sound, takes_equiv-sound}

-- a transistor as its line has it, whatever its nodes are
pub record IsNewFet (fet : FetRec) : Type 0 where
  kind : is_word fet.kind ≡ true
  substrate : is_word fet.substrate ≡ true
  point : IsPoint (fet.x, fet.y)
  area : IsMeasure fet.area
  perimeter : IsMeasure fet.perimeter
  gate : IsMeasuredTerm fet.gate
  terminals : Each IsMeasuredTerm fet.terminals
  lengths : sum_by (λ side. unsigned_abs side.length) fet.terminals < LENGTHS_EDGE

pub fet_from-has : (line : FetLine) → IsFormedFet LONGEST_READ_TEXT line → OkHas IsNewFet (fet_from line)
fet_from-has line formed =
    next_has IsPoint IsNewFet (point_in line.corners) _ (point_in-has line.corners formed.corners) (λ point placed.
    next_has IsMeasure IsNewFet (measure_in line.area) _ (measure_in-has line.area) (λ area one.
    next_has IsMeasure IsNewFet (measure_in line.perimeter) _ (measure_in-has line.perimeter) (λ perimeter two.
    next_has IsMeasuredTerm IsNewFet (term_in line.gate) _ (term_in-has line.gate) (λ gate three.
    next_has (AreTerms (length {A = TermRec} [] + length line.terminals)) IsNewFet (terms_from [] line.terminals) _
    (terms_from-has [] line.terminals (each_none IsMeasuredTerm)) (λ terminals are.
    record {
      kind = formed.kind;
      substrate = formed.substrate;
      point = record { x = placed.x; y = placed.y; x_below_edge = placed.x_below_edge; y_below_edge = placed.y_below_edge };
      area = one;
      perimeter = two;
      gate = three;
      terminals = are.measured;
      lengths = lengths_below terminals are.measured (omega (arith, are.count, formed.count));
    })))))

pub fet_sound : (outline : Outline) (draft : Draft) (fet : FetRec) → IsSound outline draft → IsNewFet fet → has_its_nodes draft.names fet ≡ true
    → IsSound outline (record draft { fets = draft.fets ++ fet ∷ [] })
fet_sound outline draft fet is new its =
    let both = and_parts (is_among fet.gate.node draft.names) (list_all (λ side. is_among side.node draft.names) fet.terminals) its in
    record {
      tech = is.tech;
      classes = is.classes;
      no_nodes = is.no_nodes;
      no_merges = is.no_merges;
      uses = is.uses;
      given = is.given;
      given_differ = is.given_differ;
      nodes = is.nodes;
      names = is.names;
      fets = each_push (IsSoundFet draft.names) draft.fets fet is.fets (record {
        kind = new.kind;
        substrate = new.substrate;
        point = new.point;
        area = new.area;
        perimeter = new.perimeter;
        gate = new.gate;
        gate_node = In-from_list_any bytes_eq bytes_eq-Decides fet.gate.node draft.names both.0;
        terminals = new.terminals;
        terminal_nodes = λ side h. In-from_list_any bytes_eq bytes_eq-Decides side.node draft.names
            (list_all-In (λ (s : TermRec). is_among s.node draft.names) fet.terminals side both.1 h);
        lengths = new.lengths;
      });
      merges = is.merges;
    }

pub takes_fet-sound : (outline : Outline) (draft : Draft) (line : FetLine) → IsSound outline draft → IsFormedFet LONGEST_READ_TEXT line
    → OkHas (IsSound outline) (takes_fet draft line)
takes_fet-sound outline draft line is formed =
    next_has IsNewFet (IsSound outline) (fet_from line) _ (fet_from-has line formed) (λ fet new.
    passed_has (IsSound outline) (has_its_nodes draft.names fet) _ NoName (λ its. fet_sound outline draft fet is new its))

-- a row of merges as its line has it, wherever its paths lead
pub record IsNewMerge (classes : ℕ) (row : MergeRow) : Type 0 where
  is_row : IsMergeRow row
  first_path : is_path row.first ≡ true
  second_paths : (n : ℕ) → n < row.count → is_path (raised row.second n) ≡ true
  cap : IsMeasure row.cap
  measures : AreMeasures classes row.measures

pub merge_from-has : (classes : ℕ) (line : MergeLine) (range : Option ElementRange) → IsFormedMerge line → AreSeconds line.second range
    → length line.measures ≡ 2 * classes → OkHas (IsNewMerge classes) (merge_from line range)
merge_from-has classes line range formed seconds twice =
    next_has IsMeasure (IsNewMerge classes) (measure_in line.cap) _ (measure_in-has line.cap) (λ cap within.
    next_has (AreCounted classes) (IsNewMerge classes) (measures_in line.measures) _ (measures_in-has classes line.measures twice) (λ measures counted.
    record {
      is_row = record { some = seconds.some; indexed = seconds.indexed };
      first_path = formed.first;
      second_paths = seconds.paths;
      cap = within;
      measures = are_measures classes measures counted;
    }))

pub merge_sound : (outline : Outline) (draft : Draft) (row : MergeRow) → IsSound outline draft → draft.begun ≡ true
    → IsNewMerge (length draft.classes) row → leads (elements_known draft.version outline) draft.names row.first ≡ true
    → all_lead (elements_known draft.version outline) draft.names row.second row.count ≡ true
    → IsSound outline (record draft { merges = draft.merges ++ row ∷ [] })
merge_sound outline draft row is late new one two = record {
  tech = is.tech;
  classes = is.classes;
  no_nodes = is.no_nodes;
  no_merges = λ e. absurd (let no : ⊥ = cc in no);
  uses = is.uses;
  given = is.given;
  given_differ = is.given_differ;
  nodes = is.nodes;
  names = is.names;
  fets = is.fets;
  merges = each_push (IsSoundMerge (length draft.classes) (elements_known draft.version outline) draft.names) draft.merges row is.merges (record {
    is_row = new.is_row;
    first_path = new.first_path;
    second_paths = new.second_paths;
    first = one;
    seconds = two;
    cap = new.cap;
    measures = new.measures;
  });
}

pub takes_merge-sound : (outline : Outline) (draft : Draft) (line : MergeLine) → IsSound outline draft → draft.begun ≡ true → IsFormedMerge line
    → length line.measures ≡ 2 * length draft.classes → OkHas (IsSound outline) (takes_merge outline draft line)
takes_merge-sound outline draft line is late formed twice =
    let elements = elements_known draft.version outline in
    let range = range_in draft.version line.second in
    next_has (IsNewMerge (length draft.classes)) (IsSound outline) (merge_from line range) _
    (merge_from-has (length draft.classes) line range formed (seconds_in draft.version line.second formed.second) twice) (λ row new.
    passed_has (IsSound outline) (leads elements draft.names row.first && all_lead elements draft.names row.second row.count) _ NoName (λ both.
    let parts = and_parts (leads elements draft.names row.first) (all_lead elements draft.names row.second row.count) both in
    merge_sound outline draft row is late new parts.0 parts.1))

-- where the header is complete, the classes are known
pub complete : (tech version classes : Bool) → not (tech && version && classes) ≡ false → (tech ≡ true) × (classes ≡ true)
complete true true true e = (refl, refl)
complete _ _ _ e = absurd (let no : ⊥ = cc in no)

pub counted : (draft : Draft) (measures : List (Option ℤ)) → draft.seen.classes ≡ true → not (has_measures draft measures) ≡ false
    → length measures ≡ 2 * length draft.classes
counted draft measures known e = step draft.seen.classes known (length measures == 2 * length draft.classes) refl e
  where
    step : (seen : Bool) → seen ≡ true → (test : Bool) → (length measures == 2 * length draft.classes) ≡ test → not (not seen || test) ≡ false
        → length measures ≡ 2 * length draft.classes
    step true k true is fine = grind (arith, nat_tests)
    step true k false is fine = absurd (let wrong : ⊥ = cc in wrong)
    step false k test is fine = absurd (let wrong : ⊥ = cc in wrong)

pub takes_record-sound : (outline : Outline) (draft : Draft) (said : ExtLine) → IsSound outline draft → IsFormed LONGEST_READ_TEXT said
    → not (fits_classes draft said) ≡ false → draft.seen.classes ≡ true
    → OkHas (IsSound outline) (takes_record outline (record draft { begun = true }) said)
takes_record-sound outline draft Nothing is formed fits known = begun_sound outline draft is
takes_record-sound outline draft (Header header) is formed fits known = begun_sound outline draft is
takes_record-sound outline draft (Use line) is formed fits known = takes_use-sound outline (record draft { begun = true }) line
    (begun_sound outline draft is) formed
takes_record-sound outline draft (Node line) is formed fits known =
    takes_node-sound outline (record draft { begun = true }) line (begun_sound outline draft is) refl formed (counted draft line.measures known fits)
takes_record-sound outline draft (Equiv name alias) is formed fits known =
    takes_equiv-sound outline (record draft { begun = true }) name alias (begun_sound outline draft is) refl formed
takes_record-sound outline draft (Fet line) is formed fits known = takes_fet-sound outline (record draft { begun = true }) line
    (begun_sound outline draft is) formed
takes_record-sound outline draft (Merge line) is formed fits known =
    takes_merge-sound outline (record draft { begun = true }) line (begun_sound outline draft is) refl formed (counted draft line.measures known fits)

first_fits : (a b : Bool) → not (a && b) ≡ false → not a ≡ false
first_fits true b e = refl
first_fits false b e = e

pub takes_body-sound : (outline : Outline) (draft : Draft) (said : ExtLine) → IsSound outline draft → IsFormed LONGEST_READ_TEXT said
    → OkHas (IsSound outline) (takes_body outline draft said)
takes_body-sound outline draft said is formed =
    failed_has (IsSound outline) (not (fits_classes draft said && fits_version draft.version said)) _ BadLine (λ fits.
    failed_has (IsSound outline) (is_incomplete draft.seen) _ NoHeader (λ has.
    takes_record-sound outline draft said is formed (first_fits (fits_classes draft said) (fits_version draft.version said) fits)
    (complete draft.seen.tech draft.seen.version draft.seen.classes has).1))

pub takes-sound : (outline : Outline) (is_last : Bool) (draft : Draft) (said : ExtLine) → IsSound outline draft → IsFormed LONGEST_READ_TEXT said
    → OkHas (IsSound outline) (takes outline is_last draft said)
takes-sound outline is_last draft Nothing is formed = is
takes-sound outline is_last draft (Header header) is formed = takes_header-sound outline is_last draft header is formed
takes-sound outline is_last draft (Use line) is formed = takes_body-sound outline draft (Use line) is formed
takes-sound outline is_last draft (Node line) is formed = takes_body-sound outline draft (Node line) is formed
takes-sound outline is_last draft (Equiv name alias) is formed = takes_body-sound outline draft (Equiv name alias) is formed
takes-sound outline is_last draft (Fet line) is formed = takes_body-sound outline draft (Fet line) is formed
takes-sound outline is_last draft (Merge line) is formed = takes_body-sound outline draft (Merge line) is formed

-- a header that is complete has a technology
pub has_tech : (draft : Draft) → is_incomplete draft.seen ≡ false → draft.seen.tech ≡ true
has_tech draft has = (complete draft.seen.tech draft.seen.version draft.seen.classes has).0
