-- What a text without a fault says is lawful.
use Rattle.ext_reading.proofs.Common.{◌≡◌, ◌≤◌, ◌<◌, ◌+◌, ◌-◌, ◌==◌, ◌&&◌, ℕ, zero, suc, Bool, true, false, not, cond, Option, List, [], ◌∷◌, ◌++◌}
use Rattle.ext_reading.proofs.Common.{Grid, length, take, Result, Ok, Err, refl, sym, ap, ◌∙◌, subst, arith, inl, inr, codes, Some, None, fold}
use Rattle.ext_reading.proofs.Common.{nat_lt, slice_index, list_all, list_any, range_with_len, position, position_or_len, before_first, bytes_eq}
use Rattle.ext_reading.proofs.Common.{ltb-true, slice_split_first, bytes_eq-Decides, In, Distinct, In-flat_map_source, In-append_left, In-push}
use Rattle.ext_reading.proofs.Common.{In-map_source, list_all-In, All-from_In, In-from_list_any, lines_of, words_of, first_fault_or, and_then, SLASH}
use Rattle.ext_reading.proofs.Common.{UseRec, FetRec, CellExt, ArrayUse, MergeRow, is_node_name, node_names, element_names, path_text, IsArrayUse}
use Rattle.ext_reading.proofs.Common.{IsMergeRow, IsLawfulArrayExt, plain, plain_uses, raised, UseElements, element_ids, names_in, is_among}
use Rattle.ext_reading.proofs.Common.{gives_again, names_more, IsLawfulNode, ExtReadFault, BadLine, NoHeader, NameTwice, Range, UseTwice, NoName}
use Rattle.ext_reading.proofs.Common.{LONGEST_READ_TEXT, MOST_USES, HeaderLine, Tech, Timestamp, Version, Style, Scale, Classes, One, Two, Other}
use Rattle.ext_reading.proofs.Common.{UseLine, ExtLine, Nothing, Header, Use, Node, Equiv, Fet, Merge, Outline, is_slash, is_path, use_line}
use Rattle.ext_reading.proofs.Common.{words_say, says, class_values_in, grid_in, six_in, Draft, nothing_yet, is_incomplete, was_seen, with_seen}
use Rattle.ext_reading.proofs.Common.{is_other_version, with_header, takes_header, takes_use, node_from, takes_alias, fet_from, has_its_nodes, leads}
use Rattle.ext_reading.proofs.Common.{all_lead, range_in, merge_from, elements_known, takes_record, fits_classes, fits_version, takes_body, takes}
use Rattle.ext_reading.proofs.Common.{step, finish, with_use_said, with_words, with_line}
use Rattle.std.specs.List.{slice_split, after_first, join_with_byte}
use Rattle.std.specs.Str.Lines.{strip_carriage_return}
use Rattle.std.proofs.lemmas.List.{length-take, length-drop}
use Rattle.std.proofs.lemmas.List.Splits.{length-slice_split, join_with_byte-slice_split}
use Rattle.finite_sets.proofs.Members.{In-append_right}
use Rattle.text_scan.specs.Lines.{is_line_feed}
use Rattle.text_scan.proofs.LineLemmas.{lines_of-nil, lines_of-first}
use Rattle.text_form.proofs.FoldLaws.{passed, text_state-Ok}
use Rattle.ext_model.specs.declared.records.MergeRec.{MergeRec}
use Rattle.ext_model.specs.Plain.{plain_merge, plain_merges}
use Rattle.ext_model.proofs.PlainUses.{elements_are_lawful}
use Rattle.ext_model.specs.Lawful.{IsLawfulUse, IsLawfulTerm, IsLawfulFet, IsLawfulMerge, LeadsIntoElement, IsPathIn}
use Rattle.ext_reading.specs.declared.faults.ExtReadFault.TheVariants.{Version as OtherVersion}
use Rattle.ext_reading.specs.declared.lines.Version as lines
use Rattle.ext_reading.specs.ExtTexts.{outline_of, draft_in, record_of}
use Rattle.ext_reading.proofs.NameLaws.{place_found}
use Rattle.ext_reading.proofs.ElementIds.{names_given}
use Rattle.ext_reading.proofs.OutlineLaws.{kept_use, IsNameOf, use_cases}
use Rattle.ext_reading.proofs.Outcomes.{OkHas, next_has, given_has, passed_has, failed_has, value_has, Each, each_none, range_in_bounds}
use Rattle.ext_reading.proofs.LawfulLines.{IsFormed, says-formed}
use Rattle.ext_reading.proofs.SoundRecords.{IsSoundFet, IsSoundMerge, IsSoundUse, IsSound}
use Rattle.ext_reading.proofs.SoundDrafts.{takes-sound, has_tech}

-- no line is longer than its text
stripped : (line : List ℕ) → length (strip_carriage_return line) ≤ length line
stripped line = step (slice_index line (length line - 1) == 13)
  where
    step : (t : Bool) → length (cond t (take (length line - 1) line) line) ≤ length line
    step true = omega (arith, length-take (length line - 1) line)
    step false = omega arith

lines_short_within : (n : ℕ) (text : List ℕ) → length text ≤ n → Each (λ line. length line ≤ length text) (lines_of text)
lines_short_within n [] few = subst (λ lines. Each (λ line. length line ≤ 0) lines) (sym lines_of-nil) (each_none (λ line. length line ≤ 0))
lines_short_within zero (byte ∷ text) few = absurd (omega arith)
lines_short_within (suc n) (byte ∷ text) few =
    let whole : List ℕ = byte ∷ text in
    let first = strip_carriage_return (before_first is_line_feed whole) in
    let behind = after_first is_line_feed whole in
    let k = position_or_len is_line_feed whole in
    let shorter = length-drop (k + 1) whole in
    let rest = lines_short_within n behind (omega (arith, shorter)) in
    let front = stripped (before_first is_line_feed whole) in
    subst (λ lines. Each (λ line. length line ≤ length whole) lines) (sym (lines_of-first whole (omega arith)))
    (λ line h. elim h [
      | inl e ↦ subst (λ (l : List ℕ). length l ≤ length whole) e (omega (arith, front, length-take k whole))
      | inr there ↦ (let few = rest line there in omega (arith, shorter))
    ])

lines_short : (text : List ℕ) → Each (λ line. length line ≤ length text) (lines_of text)
lines_short text = lines_short_within (length text) text (omega arith)

-- each line keeps what is read sound
step-sound : (outline : Outline) (number : ℕ) (draft : Draft) (line : List ℕ) → IsSound outline draft → length line ≤ LONGEST_READ_TEXT
    → OkHas (IsSound outline) (step outline number draft line)
step-sound outline number draft line is short =
    next_has (IsFormed LONGEST_READ_TEXT) (IsSound outline) (says line) (takes outline (number == outline.last) draft)
    (says-formed LONGEST_READ_TEXT line short) (λ said formed. takes-sound outline (number == outline.last) draft said is formed)

lines-sound : (outline : Outline) (number : ℕ) (start : Draft) (lines : List (List ℕ)) (last : Draft) → IsSound outline start
    → Each (λ line. length line ≤ LONGEST_READ_TEXT) lines → first_fault_or (step outline) number start lines ≡ Ok last → IsSound outline last
lines-sound outline number start [] last is short e = let same : start ≡ last = cc in subst (IsSound outline) same is
lines-sound outline number start (line ∷ lines) last is short e =
    let p = passed number (step outline number start line) (λ next. first_fault_or (step outline) (number + 1) next lines) last e in
    lines-sound outline (number + 1) p.0 lines last
    (value_has (IsSound outline) (step outline number start line) p.0 (step-sound outline number start line is (short line (inl refl))) p.1)
    (λ l h. short l (inr h)) p.2

nothing_sound : (outline : Outline) → IsSound outline nothing_yet
nothing_sound outline = record {
  tech = λ e. absurd (let no : ⊥ = cc in no);
  classes = omega arith;
  no_nodes = λ e. refl;
  no_merges = λ e. refl;
  uses = λ x h. absurd h;
  given = refl;
  given_differ = tt;
  nodes = λ x h. absurd h;
  names = record { known = λ x h. absurd h; listed = λ x h. absurd h; differ = tt; count = refl; within = λ x h. absurd h };
  fets = λ x h. absurd h;
  merges = λ x h. absurd h;
}

-- only a use changes which uses there are
abbrev SameUses : Draft → Draft → Type 0
SameUses draft next = next.given ≡ draft.given

header_uses : (draft : Draft) (header : HeaderLine) → OkHas (SameUses draft) (with_header (record draft { seen = with_seen draft.seen header }) header)
header_uses draft (Classes values) = given_has (SameUses draft) (class_values_in values) _ (λ found e. refl)
header_uses draft _ = refl

takes_header-uses : (is_last : Bool) (draft : Draft) (header : HeaderLine) → OkHas (SameUses draft) (takes_header is_last draft header)
takes_header-uses is_last draft header =
    failed_has (SameUses draft) draft.begun _ BadLine (λ e.
    failed_has (SameUses draft) (is_last && is_incomplete (with_seen draft.seen header)) _ NoHeader (λ e1.
    failed_has (SameUses draft) (is_other_version header) _ OtherVersion (λ e2.
    failed_has (SameUses draft) (was_seen draft.seen header) _ NameTwice (λ e3. header_uses draft header))))

alias_uses : (draft : Draft) (place : Option ℕ) (alias : List ℕ) → OkHas (SameUses draft) (takes_alias draft place alias)
alias_uses draft (Some place) alias = refl
alias_uses draft None alias = tt

-- the line says a use that has this name
abbrev SaysUse : List ℕ → ExtLine → Type 0
SaysUse name (Use line) = IsNameOf name line.name
SaysUse name _ = ⊥

-- the names so far, and those of the use that the line says
record HasNames (draft : Draft) (said : ExtLine) (next : Draft) : Type 0 where
  kept : Each (λ name. In name (names_in next.given)) (names_in draft.given)
  added : (name : List ℕ) → SaysUse name said → In name (names_in next.given)

same_has : (draft : Draft) (said : ExtLine) (next : Draft) → ((name : List ℕ) → SaysUse name said → ⊥) → SameUses draft next → HasNames draft said next
same_has draft said next none same = record {
  kept = λ name h. subst (λ (l : List UseElements). In name (names_in l)) (sym same) h;
  added = λ name is. absurd (none name is);
}

same_names : (draft : Draft) (said : ExtLine) (found : Result Draft ExtReadFault) → ((name : List ℕ) → SaysUse name said → ⊥)
    → OkHas (SameUses draft) found → OkHas (HasNames draft said) found
same_names draft said (Ok next) none same = same_has draft said next none same
same_names draft said (Err fault) none same = tt

use_added : (draft : Draft) (line : UseLine) (used : UseElements) → used.id ≡ line.name.id → grid_in line.name.grid ≡ Ok used.grid
    → (next : Draft) → next.given ≡ draft.given ++ used ∷ [] → HasNames draft (Use line) next
use_added draft line used same_id read next more =
    let names = names_in draft.given in
    let whole = ap names_in more ∙ names_more draft.given used in
    record {
      kept = λ name h. subst (λ (l : List (List ℕ)). In name l) (sym whole) (In-append_left name names (element_ids used.id used.grid) h);
      added = λ name is.
          let grid : is.grid ≡ used.grid = same_Ok is.grid used.grid (sym is.read ∙ read) in
          let there : In name (element_ids used.id used.grid) =
          subst (λ (id : List ℕ). In name (element_ids id used.grid)) (sym same_id)
          (subst (λ (g : Option Grid). In name (element_ids line.name.id g)) grid is.there) in
          subst (λ (l : List (List ℕ)). In name l) (sym whole) (In-append_right name names (element_ids used.id used.grid) there);
    }
  where
    same_Ok : (a b : Option Grid) → ◌≡◌ {A = Result (Option Grid) ExtReadFault} (Ok a) (Ok b) → a ≡ b
    same_Ok a b e = cc

use_names : (draft : Draft) (line : UseLine) → OkHas (HasNames draft (Use line)) (takes_use (record draft { begun = true }) line)
use_names draft line =
    passed_has (HasNames draft (Use line)) (nat_lt (length draft.uses) MOST_USES) _ Range (λ few.
    given_has (HasNames draft (Use line)) (grid_in line.name.grid) _ (λ grid read.
    given_has (HasNames draft (Use line)) (six_in line.six) _ (λ six e.
    let used : UseElements = record { id = line.name.id; grid = grid } in
    failed_has (HasNames draft (Use line)) (gives_again draft.given used) _ UseTwice (λ new. use_added draft line used refl read _ refl))))

record_names : (outline : Outline) (draft : Draft) (said : ExtLine) → OkHas (HasNames draft said)
    (takes_record outline (record draft { begun = true }) said)
record_names outline draft Nothing = same_has draft Nothing (record draft { begun = true }) (λ name no. no) refl
record_names outline draft (Header header) = same_has draft (Header header) (record draft { begun = true }) (λ name no. no) refl
record_names outline draft (Use line) = use_names draft line
record_names outline draft (Node line) =
    same_names draft (Node line) _ (λ name no. no)
    (failed_has (SameUses draft) (is_among line.name draft.names) _ NameTwice (λ e. given_has (SameUses draft) (node_from line) _ (λ node e1. refl)))
record_names outline draft (Equiv name alias) =
    same_names draft (Equiv name alias) _ (λ name no. no)
    (failed_has (SameUses draft) (is_among alias draft.names) _ NameTwice (λ e. alias_uses (record draft { begun = true })
    (position (bytes_eq name) draft.names) alias))
record_names outline draft (Fet line) =
    same_names draft (Fet line) _ (λ name no. no)
    (given_has (SameUses draft) (fet_from line) _ (λ fet e. passed_has (SameUses draft) (has_its_nodes draft.names fet) _ NoName (λ e1. refl)))
record_names outline draft (Merge line) =
    let elements = elements_known draft.version outline in
    same_names draft (Merge line) _ (λ name no. no)
    (given_has (SameUses draft) (merge_from line (range_in draft.version line.second)) _ (λ row e.
    passed_has (SameUses draft) (leads elements draft.names row.first && all_lead elements draft.names row.second row.count) _ NoName (λ e1. refl)))

body_names : (outline : Outline) (draft : Draft) (said : ExtLine) → OkHas (HasNames draft said) (takes_body outline draft said)
body_names outline draft said =
    failed_has (HasNames draft said) (not (fits_classes draft said && fits_version draft.version said)) _ BadLine (λ e.
    failed_has (HasNames draft said) (is_incomplete draft.seen) _ NoHeader (λ e1. record_names outline draft said))

takes-names : (outline : Outline) (is_last : Bool) (draft : Draft) (said : ExtLine) → OkHas (HasNames draft said) (takes outline is_last draft said)
takes-names outline is_last draft Nothing = same_has draft Nothing draft (λ name no. no) refl
takes-names outline is_last draft (Header header) = same_names draft (Header header) _ (λ name no. no) (takes_header-uses is_last draft header)
takes-names outline is_last draft (Use line) = body_names outline draft (Use line)
takes-names outline is_last draft (Node line) = body_names outline draft (Node line)
takes-names outline is_last draft (Equiv name alias) = body_names outline draft (Equiv name alias)
takes-names outline is_last draft (Fet line) = body_names outline draft (Fet line)
takes-names outline is_last draft (Merge line) = body_names outline draft (Merge line)

-- the names of known uses are names of the draft
abbrev Met : List UseElements → Draft → Type 0
Met known draft = Each (λ name. In name (names_in draft.given)) (names_in known)

said_names : (arrays : Bool) (outline : Outline) (known : List UseElements) (is_last : Bool) (draft next : Draft) (found : Result ExtLine ExtReadFault)
    → Met known draft → and_then found (takes outline is_last draft) ≡ Ok next → Met (with_use_said arrays known found) next
said_names arrays outline known is_last draft next (Err fault) met e = absurd (let no : ⊥ = cc in no)
said_names arrays outline known is_last draft next (Ok said) met e =
    step said (value_has (HasNames draft said) (takes outline is_last draft said) next (takes-names outline is_last draft said) e)
  where
    step : (said : ExtLine) → HasNames draft said next → Met (with_use_said arrays known (Ok said)) next
    step (Use line) has = λ name h. elim (use_cases arrays known line.name name h) [ inl there ↦ has.kept name (met name there) | inr is ↦ has.added name is ]
    step Nothing has = λ name h. has.kept name (met name h)
    step (Header header) has = λ name h. has.kept name (met name h)
    step (Node line) has = λ name h. has.kept name (met name h)
    step (Equiv one alias) has = λ name h. has.kept name (met name h)
    step (Fet line) has = λ name h. has.kept name (met name h)
    step (Merge line) has = λ name h. has.kept name (met name h)

words_names : (arrays : Bool) (outline : Outline) (known : List UseElements) (is_last : Bool) (draft next : Draft) (words : List (List ℕ)) → Met known draft
    → and_then (words_say words) (takes outline is_last draft) ≡ Ok next → Met (with_words arrays known words) next
words_names arrays outline known is_last draft next [] met e = said_names arrays outline known is_last draft next (Ok Nothing) met e
words_names arrays outline known is_last draft next (key ∷ words) met e = by_key (bytes_eq key (codes "use")) refl
  where
    by_key : (t : Bool) → bytes_eq key (codes "use") ≡ t → Met (cond t (with_use_said arrays known (use_line words)) known) next
    by_key true is =
        let same : key ≡ codes "use" = (bytes_eq-Decides key (codes "use")).0 is in
        said_names arrays outline known is_last draft next (use_line words) met
        (ap (λ (k : List ℕ). and_then (words_say (k ∷ words)) (takes outline is_last draft)) (sym same) ∙ e)
    by_key false is = λ name h.
        said_names arrays outline known is_last draft next (words_say (key ∷ words)) met e name
        (kept_use arrays known (words_say (key ∷ words)) name h)

-- where all lines are read, each element of the outline is there
lines_names : (arrays : Bool) (outline : Outline) (number : ℕ) (known : List UseElements) (start : Draft) (lines : List (List ℕ)) (last : Draft)
    → Met known start → first_fault_or (step outline) number start lines ≡ Ok last → Met (fold (with_line arrays) known lines) last
lines_names arrays outline number known start [] last met e = let same : start ≡ last = cc in subst (λ (d : Draft). Met known d) same met
lines_names arrays outline number known start (line ∷ lines) last met e =
    let p = passed number (step outline number start line) (λ next. first_fault_or (step outline) (number + 1) next lines) last e in
    lines_names arrays outline (number + 1) (with_line arrays known line) p.0 lines last
    (words_names arrays outline known (number == outline.last) start p.0 (words_of line) met p.1) p.2

known_met : (version : Option lines.Version) (outline : Outline) (draft : Draft) → Met outline.singles draft → Met outline.all draft
    → Each (λ name. In name (names_in draft.given)) (elements_known version outline)
known_met (Some One) outline draft singles all = singles
known_met _ outline draft singles all = all

-- a path with a slash, by its names
record IsPathOf (parts : List (List ℕ)) : Type 0 where
  ids : List (List ℕ)
  name : List ℕ
  text : join_with_byte SLASH parts ≡ path_text ids name
  all : parts ≡ ids ++ name ∷ []

path_of : (first : List ℕ) (parts : List (List ℕ)) → IsPathOf (first ∷ parts)
path_of first [] = record { ids = []; name = first; text = refl; all = refl }
path_of first (next ∷ parts) =
    let rest = path_of next parts in
    record { ids = first ∷ rest.ids; name = rest.name; text = ap (λ l. first ++ SLASH ∷ l) rest.text; all = ap (λ l. first ∷ l) rest.all }

slashed_path : (ext : CellExt) (path first : List ℕ) (rest : List (List ℕ)) → slice_split is_slash path ≡ first ∷ rest → 0 < length rest → is_path path ≡ true
    → In first (element_names ext) → LeadsIntoElement ext path
slashed_path ext path first [] parts some formed there = absurd (omega arith)
slashed_path ext path first (next ∷ rest) parts some formed there =
    let names = path_of next rest in
    let each : Each (λ name. is_node_name name ≡ true) (first ∷ next ∷ rest) =
    λ name h. list_all-In is_node_name (first ∷ next ∷ rest) name (ap (list_all is_node_name) (sym parts) ∙ formed) h in
    let those : Each (λ name. is_node_name name ≡ true) (names.ids ++ names.name ∷ []) =
    subst (λ l. Each (λ name. is_node_name name ≡ true) l) names.all (λ name h. each name (inr h)) in
    record {
      id = first;
      ids = names.ids;
      name = names.name;
      text = sym (join_with_byte-slice_split SLASH path) ∙ (ap (join_with_byte SLASH) parts ∙ ap (λ l. first ++ SLASH ∷ l) names.text);
      element = there;
      id_forms = All-from_In (λ name. is_node_name name ≡ true) names.ids (λ name h. those name (In-append_left name names.ids (names.name ∷ []) h));
      name_form = those names.name (In-push names.ids names.name);
    }

path_leads : (ext : CellExt) (elements names : List (List ℕ)) (path : List ℕ) → Each (λ id. In id (element_names ext)) elements
    → Each (λ name. In name (node_names ext)) names → is_path path ≡ true → leads elements names path ≡ true → IsPathIn ext path
path_leads ext elements names path met known formed is = step (list_any is_slash path) refl is
  where
    step : (t : Bool) → list_any is_slash path ≡ t → cond t (is_among (before_first is_slash path) elements) (is_among path names) ≡ true → IsPathIn ext path
    step false plain among = inl (known path (In-from_list_any bytes_eq bytes_eq-Decides path names among))
    step true slashed among =
        let inside = ltb-true (position_or_len is_slash path) (length path) (place_found is_slash path ∙ slashed) in
        let parts = slice_split_first is_slash path 0 inside in
        let some = length-slice_split is_slash (after_first is_slash path) in
        inr (slashed_path ext path (before_first is_slash path) (slice_split is_slash (after_first is_slash path)) parts (omega (arith, some)) formed
        (met (before_first is_slash path) (In-from_list_any bytes_eq bytes_eq-Decides (before_first is_slash path) elements among)))

-- a record of what is sound is lawful
lawful_fet : (ext : CellExt) (names : List (List ℕ)) (fet : FetRec) → Each (λ name. In name (node_names ext)) names → IsSoundFet names fet → IsLawfulFet ext fet
lawful_fet ext names fet known is = record {
  kind = is.kind;
  substrate = is.substrate;
  x = is.point.x;
  y = is.point.y;
  x_below_edge = is.point.x_below_edge;
  y_below_edge = is.point.y_below_edge;
  area = is.area;
  perimeter = is.perimeter;
  gate = record { node = known fet.gate.node is.gate_node; length = is.gate };
  terminals = All-from_In (IsLawfulTerm ext) fet.terminals (λ side h. record {
    node = known side.node (is.terminal_nodes side h);
    length =
        is.terminals side h;
  });
  lengths = is.lengths;
}

-- each merge of a row that is sound
lawful_merge : (ext : CellExt) (elements names : List (List ℕ)) (row : MergeRow) → Each (λ id. In id (element_names ext)) elements
    → Each (λ name. In name (node_names ext)) names → IsSoundMerge (length ext.classes) elements names row
    → (merge : MergeRec) → In merge (plain_merges row) → IsLawfulMerge ext merge
lawful_merge ext elements names row met known is merge here =
    let found = In-map_source (plain_merge row) merge (range_with_len 0 row.count) here in
    let n = found.0 in
    let below : n < row.count = (let within = range_in_bounds 0 row.count n found.1.0 in omega (arith, within)) in
    let leads_there = list_all-In (λ k. leads elements names (raised row.second k)) (range_with_len 0 row.count) n is.seconds found.1.0 in
    subst (IsLawfulMerge ext) found.1.1 (record {
      first = path_leads ext elements names row.first met known is.first_path is.first;
      second = path_leads ext elements names (raised row.second n) met known (is.second_paths n below) leads_there;
      cap = is.cap;
      measures = is.measures;
    })

lawful_use : (used : ArrayUse) → IsSoundUse used → (one : UseRec) → In one (plain_uses used) → IsLawfulUse one
lawful_use used is one here = elements_are_lawful used is.cell is.is_use one here

lawful_record : (cell : List ℕ) (outline : Outline) (draft : Draft) → IsSound outline draft → is_incomplete draft.seen ≡ false
    → Each (λ name. In name (names_in draft.given)) (elements_known draft.version outline) → IsLawfulArrayExt (record_of cell draft)
lawful_record cell outline draft is has met =
    let ext = plain (record_of cell draft) in
    let elements = elements_known draft.version outline in
    let same : names_in draft.given ≡ element_names ext = ap names_in is.given ∙ names_given draft.uses in
    let met' : Each (λ id. In id (element_names ext)) elements = λ id h. subst (λ (l : List (List ℕ)). In id l) same (met id h) in
    record {
      uses = All-from_In IsArrayUse draft.uses (λ used h. (is.uses used h).is_use);
      rows = All-from_In IsMergeRow draft.merges (λ row h. (is.merges row h).is_row);
      plain = record {
        tech = is.tech (has_tech draft has);
        classes = is.classes;
        uses = All-from_In IsLawfulUse ext.uses (λ one h.
            let found = In-flat_map_source plain_uses one draft.uses h in
            lawful_use found.0 (is.uses found.0 found.1.0) one found.1.1);
        nodes = All-from_In (IsLawfulNode (length draft.classes)) draft.nodes is.nodes;
        fets = All-from_In (IsLawfulFet ext) draft.fets (λ fet h. lawful_fet ext draft.names fet is.names.known (is.fets fet h));
        merges = All-from_In (IsLawfulMerge ext) ext.merges (λ merge h.
            let found = In-flat_map_source plain_merges merge draft.merges h in
            lawful_merge ext elements draft.names found.0 met' is.names.known (is.merges found.0 found.1.0) merge found.1.1);
        node_names_differ = is.names.differ;
        element_names_differ = subst Distinct same is.given_differ;
      };
    }

finished : (draft last : Draft) → finish draft ≡ Ok last → (is_incomplete draft.seen ≡ false) × (draft ≡ last)
finished draft last e = step (is_incomplete draft.seen) e
  where
    step : (t : Bool) → cond t (Err NoHeader) (Ok draft) ≡ Ok last → (t ≡ false) × (draft ≡ last)
    step true e = absurd (let no : ⊥ = cc in no)
    step false e = (refl, (let same : draft ≡ last = cc in same))

-- the record of a text that is not too long is lawful
pub draft_in-lawful : (cell text : List ℕ) (draft : Draft) → length text ≤ LONGEST_READ_TEXT → draft_in text ≡ Ok draft
    → IsLawfulArrayExt (record_of cell draft)
unfolding draft_in
draft_in-lawful cell text draft short e =
    let lines = lines_of text in
    let outline = outline_of lines in
    let p = text_state-Ok (step outline) finish nothing_yet lines draft e in
    let end = finished p.0 draft p.2 in
    let each : Each (λ line. length line ≤ LONGEST_READ_TEXT) lines = λ line h. (let below = lines_short text line h in omega arith) in
    let sound = lines-sound outline 1 nothing_yet lines p.0 (nothing_sound outline) each p.1 in
    let singles = lines_names false outline 1 [] nothing_yet lines p.0 (λ name h. absurd h) p.1 in
    let all = lines_names true outline 1 [] nothing_yet lines p.0 (λ name h. absurd h) p.1 in
    let met = known_met p.0.version outline p.0 singles all in
    subst (λ (d : Draft). IsLawfulArrayExt (record_of cell d)) end.1 (lawful_record cell outline p.0 sound end.0 met)
