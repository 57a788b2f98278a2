-- Nodes and their other names keep what was read sound.
use Rattle.ext_reading.proofs.Common.{◌≡◌, ◌<◌, ◌*◌, ◌||◌, ℕ, zero, suc, Bool, true, false, cond, Option, List, [], ◌∷◌, ◌++◌, length, refl, sym, ap}
use Rattle.ext_reading.proofs.Common.{◌∙◌, subst, arith, inl, inr, length-append, append_assoc, Some, None, slice_index, All, list_any, position}
use Rattle.ext_reading.proofs.Common.{before_first, range_with_len, bytes_eq, bytes_eq-Decides, In, Distinct, In-append_left, In-push, In-push_cases}
use Rattle.ext_reading.proofs.Common.{In-get_or, All-from_In, list_all-In, list_all-from_In, NodeRec, FetRec, MergeRow, is_node_name, names_of}
use Rattle.ext_reading.proofs.Common.{IsMeasure, IsLawfulNode, raised, is_among, NameTwice, NodeLine, is_slash, short_in, measure_in, measures_in}
use Rattle.ext_reading.proofs.Common.{Outline, Draft, node_from, takes_alias, leads, all_lead, elements_known}
use Rattle.std.proofs.lemmas.Grind.{flat_map-append}
use Rattle.std.proofs.lemmas.List.Quantifiers.{position-Some}
use Rattle.finite_sets.proofs.Distincts.{Distinct-push, In-cut, In-cut_cases, In-cut_rest}
use Rattle.finite_sets.proofs.Searches.{absent-from_list_any}
use Rattle.ext_reading.specs.Drafts.{with_node, takes_node, named_too, with_alias_at, with_alias, takes_equiv}
use Rattle.ext_reading.proofs.Outcomes.{OkHas, next_has, given_has, failed_has, Each, each_push}
use Rattle.ext_reading.proofs.LawfulLines.{IsFormedNode}
use Rattle.ext_reading.proofs.LawfulDrafts.{short_in-Ok, measure_in-has, AreCounted, measures_in-has}
use Rattle.ext_reading.proofs.SoundRecords.{are_measures, IsSoundFet, IsSoundMerge, names_in, AreNames, IsSound}

-- one more name: what was sound stays so
pub more_fets : (names : List (List ℕ)) (name : List ℕ) (fets : List FetRec) → Each (IsSoundFet names) fets → Each (IsSoundFet (names ++ name ∷ [])) fets
more_fets names name fets all = λ fet h. let is = all fet h in record {
  kind = is.kind;
  substrate = is.substrate;
  point = is.point;
  area = is.area;
  perimeter = is.perimeter;
  gate = is.gate;
  gate_node = In-append_left fet.gate.node names (name ∷ []) is.gate_node;
  terminals = is.terminals;
  terminal_nodes = λ side there. In-append_left side.node names (name ∷ []) (is.terminal_nodes side there);
  lengths = is.lengths;
}

pub is_among-more : (path : List ℕ) (names : List (List ℕ)) (name : List ℕ) → is_among path names ≡ true → is_among path (names ++ name ∷ []) ≡ true
is_among-more path [] name e = absurd (let no : ⊥ = cc in no)
is_among-more path (n ∷ names) name e = step (bytes_eq path n) (is_among-more path names name) e
  where
    step : (t : Bool) → (is_among path names ≡ true → is_among path (names ++ name ∷ []) ≡ true) → (t || is_among path names) ≡ true
        → (t || is_among path (names ++ name ∷ [])) ≡ true
    step true later e = refl
    step false later e = later e

pub leads-more : (elements names : List (List ℕ)) (name path : List ℕ) → leads elements names path ≡ true → leads elements (names ++ name ∷ []) path ≡ true
leads-more elements names name path e = step (list_any is_slash path) e
  where
    step : (t : Bool) → cond t (is_among (before_first is_slash path) elements) (is_among path names) ≡ true
        → cond t (is_among (before_first is_slash path) elements) (is_among path (names ++ name ∷ [])) ≡ true
    step true e = e
    step false e = is_among-more path names name e

all_lead-more : (elements names : List (List ℕ)) (name path : List ℕ) (count : ℕ) → all_lead elements names path count ≡ true
    → all_lead elements (names ++ name ∷ []) path count ≡ true
all_lead-more elements names name path count e =
    list_all-from_In (λ n. leads elements (names ++ name ∷ []) (raised path n)) (range_with_len 0 count) (λ n h.
    leads-more elements names name (raised path n)
    (list_all-In (λ n. leads elements names (raised path n)) (range_with_len 0 count) n e h))

pub more_merges : (classes : ℕ) (elements names : List (List ℕ)) (name : List ℕ) (merges : List MergeRow)
    → Each (IsSoundMerge classes elements names) merges → Each (IsSoundMerge classes elements (names ++ name ∷ [])) merges
more_merges classes elements names name merges all = λ row h. let is = all row h in record {
  is_row = is.is_row;
  first_path = is.first_path;
  second_paths = is.second_paths;
  first = leads-more elements names name row.first is.first;
  seconds = all_lead-more elements names name row.second row.count is.seconds;
  cap = is.cap;
  measures = is.measures;
}

-- a node
pub names_pushed : (nodes : List NodeRec) (node : NodeRec) → node.aliases ≡ [] → names_in (nodes ++ node ∷ []) ≡ names_in nodes ++ node.name ∷ []
names_pushed nodes node alone =
    flat_map-append names_of nodes (node ∷ [])
    ∙ ap (λ (l : List (List ℕ)). names_in nodes ++ ((node.name ∷ l) ++ [])) alone

pub node_names_sound : (nodes : List NodeRec) (names : List (List ℕ)) (owners : List ℕ) (node : NodeRec) → AreNames nodes names owners → node.aliases ≡ []
    → is_among node.name names ≡ false → AreNames (nodes ++ node ∷ []) (names ++ node.name ∷ []) (owners ++ length nodes ∷ [])
node_names_sound nodes names owners node is alone new =
    let more = names_pushed nodes node alone in
    let P : List (List ℕ) → Type 0 = Distinct in
    record {
      known = λ name h. subst (λ (l : List (List ℕ)). In name l) (sym more)
          (elim (In-push_cases name names node.name h) [
            | inl there ↦ In-append_left name (names_in nodes) (node.name ∷ []) (is.known name there)
            | inr e ↦ subst (λ (n : List ℕ). In n (names_in nodes ++ node.name ∷ [])) e (In-push (names_in nodes) node.name)
          ]);
      listed = λ name h.
          elim (In-push_cases name (names_in nodes) node.name (subst (λ (l : List (List ℕ)). In name l) more h)) [
            | inl there ↦ In-append_left name names (node.name ∷ []) (is.listed name there)
            | inr e ↦ subst (λ (n : List ℕ). In n (names ++ node.name ∷ [])) e (In-push names node.name)
          ];
      differ = subst P (sym more) (Distinct-push (names_in nodes) node.name is.differ
          (λ h. absent-from_list_any bytes_eq bytes_eq-Decides node.name names new (is.listed node.name h)));
      count = omega (arith, is.count, length-append owners (length nodes ∷ []), length-append names (node.name ∷ []));
      within = each_push (λ owner. owner < length (nodes ++ node ∷ [])) owners (length nodes)
          (λ owner h. let below = is.within owner h in omega (arith, below, length-append nodes (node ∷ []))) (omega (arith, length-append nodes (node ∷ [])));
    }

pub node_sound : (outline : Outline) (draft : Draft) (node : NodeRec) → IsSound outline draft → draft.begun ≡ true
    → IsLawfulNode (length draft.classes) node
    → node.aliases ≡ [] → is_among node.name draft.names ≡ false → IsSound outline (with_node draft node)
node_sound outline draft node is late lawful alone new = record {
  tech = is.tech;
  classes = is.classes;
  no_nodes = λ e. absurd (let no : ⊥ = cc in no);
  no_merges = is.no_merges;
  uses = is.uses;
  given = is.given;
  given_differ = is.given_differ;
  nodes = each_push (IsLawfulNode (length draft.classes)) draft.nodes node is.nodes lawful;
  names = node_names_sound draft.nodes draft.names draft.owners node is.names alone new;
  fets = more_fets draft.names node.name draft.fets is.fets;
  merges = more_merges (length draft.classes) (elements_known draft.version outline) draft.names node.name draft.merges is.merges;
}

-- a node as its line has it
pub record IsNewNode (classes : ℕ) (name : List ℕ) (node : NodeRec) : Type 0 where
  lawful : IsLawfulNode classes node
  alone : node.aliases ≡ []
  named : node.name ≡ name

pub node_from-has : (classes : ℕ) (line : NodeLine) → IsFormedNode line → length line.measures ≡ 2 * classes
    → OkHas (IsNewNode classes line.name) (node_from line)
node_from-has classes line formed twice =
    next_has IsMeasure (IsNewNode classes line.name) (measure_in line.cap) _ (measure_in-has line.cap) (λ cap within.
    given_has (IsNewNode classes line.name) (short_in line.x) _ (λ x e1.
    given_has (IsNewNode classes line.name) (short_in line.y) _ (λ y e2.
    next_has (AreCounted classes) (IsNewNode classes line.name) (measures_in line.measures) _ (measures_in-has classes line.measures twice) (λ measures counted.
    record {
      lawful = record {
        names = λ k d m. one_name k d m;
        kind = formed.kind;
        cap = within;
        x = (short_in-Ok line.x x e1).1;
        y = (short_in-Ok line.y y e2).1;
        measures = are_measures classes measures counted;
      };
      alone = refl;
      named = refl;
    }))))
  where
    one_name : All (λ name. is_node_name name ≡ true) (line.name ∷ [])
    one_name = All-from_In (λ name. is_node_name name ≡ true) (line.name ∷ []) (λ name h.
        elim h [ inl e ↦ subst (λ n. is_node_name n ≡ true) e formed.name | inr absent ↦ absurd absent ])

pub takes_node-sound : (outline : Outline) (draft : Draft) (line : NodeLine) → IsSound outline draft → draft.begun ≡ true → IsFormedNode line
    → length line.measures ≡ 2 * length draft.classes → OkHas (IsSound outline) (takes_node draft line)
takes_node-sound outline draft line is late formed twice =
    failed_has (IsSound outline) (is_among line.name draft.names) _ NameTwice (λ new.
    next_has (IsNewNode (length draft.classes) line.name) (IsSound outline) (node_from line) _ (node_from-has (length draft.classes) line formed twice)
    (λ node one.
    node_sound outline draft node is late one.lawful one.alone (ap (λ n. is_among n draft.names) one.named ∙ new)))

-- another name of a node
pub lawful_too : (classes : ℕ) (alias : List ℕ) (node : NodeRec) → IsLawfulNode classes node → is_node_name alias ≡ true
    → IsLawfulNode classes (named_too alias node)
lawful_too classes alias node is formed = record {
  names = All-from_In (λ name. is_node_name name ≡ true) (node.name ∷ (node.aliases ++ alias ∷ [])) (λ name h.
      elim (In-push_cases name (node.name ∷ node.aliases) alias h) [
        | inl there ↦ All-In (λ name. is_node_name name ≡ true) (node.name ∷ node.aliases) name is.names there
        | inr e ↦ subst (λ n. is_node_name n ≡ true) e formed
      ]);
  kind = is.kind;
  cap = is.cap;
  x = is.x;
  y = is.y;
  measures = is.measures;
}
  where
    All-In : {X : Type 0} (P : X → Type 0) (xs : List X) (x : X) → All P xs → In x xs → P x
    All-In P [] x all h = absurd h
    All-In {X} P (y ∷ ys) x all (inl e) = subst P e (all 0 y (omega arith))
    All-In P (y ∷ ys) x all (inr h) = All-In P ys x (λ k d m. all (suc k) d (omega arith)) h

-- the names before the new one and behind it
pub record IsNamedAt (classes : ℕ) (nodes renamed : List NodeRec) (alias : List ℕ) : Type 0 where
  front : List (List ℕ)
  back : List (List ℕ)
  old : names_in nodes ≡ front ++ back
  new : names_in renamed ≡ front ++ alias ∷ back
  count : length renamed ≡ length nodes
  lawful : Each (IsLawfulNode classes) renamed

pub named_at : (classes : ℕ) (k : ℕ) (nodes : List NodeRec) (alias : List ℕ) → k < length nodes → Each (IsLawfulNode classes) nodes → is_node_name alias ≡ true
    → IsNamedAt classes nodes (with_alias_at k nodes alias) alias
named_at classes k [] alias below all formed = absurd (omega arith)
named_at classes zero (node ∷ nodes) alias below all formed = record {
  front = node.name ∷ node.aliases;
  back = names_in nodes;
  old = refl;
  new = ap (λ l. node.name ∷ l) (append_assoc node.aliases (alias ∷ []) (names_in nodes));
  count = refl;
  lawful = λ x h. elim h [
    | inl e ↦ subst (IsLawfulNode classes) e (lawful_too classes alias node (all node (inl refl)) formed)
    | inr there ↦ all x (inr there)
  ];
}
named_at classes (suc k) (node ∷ nodes) alias below all formed =
    let rest = named_at classes k nodes alias (omega arith) (λ x h. all x (inr h)) formed in
    record {
      front = names_of node ++ rest.front;
      back = rest.back;
      old = ap (λ l. names_of node ++ l) rest.old ∙ sym (append_assoc (names_of node) rest.front rest.back);
      new = ap (λ l. names_of node ++ l) rest.new ∙ sym (append_assoc (names_of node) rest.front (alias ∷ rest.back));
      count = omega (arith, rest.count);
      lawful = λ x h. elim h [ inl e ↦ all x (inl e) | inr there ↦ rest.lawful x there ];
    }

pub distinct_more : {X : Type 0} (front back : List X) (x : X) → Distinct (front ++ back) → (In x (front ++ back) → ⊥) → Distinct (front ++ x ∷ back)
distinct_more [] back x d new = (new, d)
distinct_more {X} (y ∷ front) back x d new = (
  (λ h. elim (In-cut_cases front back x y h) [ inl e ↦ new (inl (sym e)) | inr there ↦ d.0 there ]),
  distinct_more front back x d.1 (λ h. new (inr h)),
)

pub alias_names_sound : (classes : ℕ) (nodes : List NodeRec) (names : List (List ℕ)) (owners : List ℕ) (k : ℕ) (alias : List ℕ) → AreNames nodes names owners
    → k < length nodes → is_among alias names ≡ false → IsNamedAt classes nodes (with_alias_at k nodes alias) alias
    → AreNames (with_alias_at k nodes alias) (names ++ alias ∷ []) (owners ++ k ∷ [])
alias_names_sound classes nodes names owners k alias is below new at =
    let front = at.front in let back = at.back in
    let In' : List ℕ → List (List ℕ) → Type 0 = λ n l. In n l in
    record {
      known = λ name h. subst (λ l. In' name l) (sym at.new)
          (elim (In-push_cases name names alias h) [
            | inl there ↦ In-cut_rest front back alias name (subst (λ l. In' name l) at.old (is.known name there))
            | inr e ↦ subst (λ n. In' n (front ++ alias ∷ back)) e (In-cut front back alias)
          ]);
      listed = λ name h.
          elim (In-cut_cases front back alias name (subst (λ l. In' name l) at.new h)) [
            | inl e ↦ subst (λ n. In' n (names ++ alias ∷ [])) e (In-push names alias)
            | inr there ↦ In-append_left name names (alias ∷ []) (is.listed name (subst (λ l. In' name l) (sym at.old) there))
          ];
      differ = subst Distinct (sym at.new) (distinct_more front back alias (subst Distinct at.old is.differ)
          (λ h. absent-from_list_any bytes_eq bytes_eq-Decides alias names new (is.listed alias (subst (λ l. In' alias l) (sym at.old) h))));
      count = omega (arith, is.count, length-append owners (k ∷ []), length-append names (alias ∷ []));
      within = each_push (λ owner. owner < length (with_alias_at k nodes alias)) owners k
          (λ owner h. let there = is.within owner h in omega (arith, there, at.count)) (omega (arith, below, at.count));
    }

pub alias_sound : (outline : Outline) (draft : Draft) (k : ℕ) (alias : List ℕ) → IsSound outline draft → draft.begun ≡ true → k < length draft.nodes
    → is_node_name alias ≡ true → is_among alias draft.names ≡ false → IsSound outline (with_alias draft k alias)
alias_sound outline draft k alias is late below formed new =
    let at = named_at (length draft.classes) k draft.nodes alias below is.nodes formed in
    record {
      tech = is.tech;
      classes = is.classes;
      no_nodes = λ e. absurd (let no : ⊥ = cc in no);
      no_merges = is.no_merges;
      uses = is.uses;
      given = is.given;
      given_differ = is.given_differ;
      nodes = at.lawful;
      names = alias_names_sound (length draft.classes) draft.nodes draft.names draft.owners k alias is.names below new at;
      fets = more_fets draft.names alias draft.fets is.fets;
      merges = more_merges (length draft.classes) (elements_known draft.version outline) draft.names alias draft.merges is.merges;
    }

pub takes_alias-sound : (outline : Outline) (draft : Draft) (name alias : List ℕ) (place : Option ℕ) → IsSound outline draft → draft.begun ≡ true
    → is_node_name alias ≡ true → is_among alias draft.names ≡ false → position (bytes_eq name) draft.names ≡ place
    → OkHas (IsSound outline) (takes_alias draft place alias)
takes_alias-sound outline draft name alias None is late formed new at = tt
takes_alias-sound outline draft name alias (Some place) is late formed new at =
    let found = position-Some (bytes_eq name) draft.names place [] at in
    let inside : place < length draft.owners = omega (arith, found.0, is.names.count) in
    alias_sound outline draft (slice_index draft.owners place) alias is late (is.names.within
    (slice_index draft.owners place) (In-get_or draft.owners place 0 inside)) formed new

pub takes_equiv-sound : (outline : Outline) (draft : Draft) (name alias : List ℕ) → IsSound outline draft → draft.begun ≡ true
    → is_node_name alias ≡ true → OkHas (IsSound outline) (takes_equiv draft name alias)
takes_equiv-sound outline draft name alias is late formed =
    failed_has (IsSound outline) (is_among alias draft.names) _ NameTwice (λ new.
    takes_alias-sound outline draft name alias (position (bytes_eq name) draft.names) is late formed new refl)
