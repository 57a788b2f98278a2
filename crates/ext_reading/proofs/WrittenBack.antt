-- A record is read back from its written text.
use Rattle.ext_reading.proofs.Common.{◌≡◌, ◌≤◌, ◌+◌, ℕ, Bool, true, false, List, [], ◌∷◌, ◌++◌, length, map, Ok, refl, sym, ap, ◌∙◌, subst, arith}
use Rattle.ext_reading.proofs.Common.{length-append, codes, fold, AllByRecursion, flat_map, map-append, length-map, In, Distinct, lines_of, IsWord}
use Rattle.ext_reading.proofs.Common.{line_of, IsWord-test, first_fault_or, text_state, and_then, NodeRec, FetRec, ArrayExt, is_word, is_node_name}
use Rattle.ext_reading.proofs.Common.{IsLawfulArrayExt, plain, node_names, element_names, UseElements, node_lines, GREATEST_CLASS_VALUE, Outline}
use Rattle.ext_reading.proofs.Common.{elements_of, has_its_nodes, step, finish, nothing_yet, with_line, IsReadable}
use Rattle.std.proofs.lemmas.List.Sums.{fold-append}
use Rattle.finite_sets.proofs.Searches.{AllByRecursion-append}
use Rattle.text_scan.specs.Written.{IsLine}
use Rattle.text_scan.proofs.WrittenLemmas.{lines_of-text_of, IsLine-line_of}
use Rattle.text_form.proofs.FoldLaws.{first_fault_or-append, text_state-ended}
use Rattle.element_index.specs.GivenNames as given_names
use Rattle.ext_text.specs.WrittenTexts.{header_words, use_words, equiv_words, fet_words, merge_words, ext_lines, lines_text, ext_text}
use Rattle.ext_reading.specs.ExtTexts.{outline_of, draft_in, record_of, ext_in}
use Rattle.ext_reading.proofs.Outcomes.{Each, each_of_All, by_recursion}
use Rattle.ext_reading.proofs.WrittenWords.{IsWord-word, words-values}
use Rattle.ext_reading.proofs.WrittenLines.{words_node, words_equiv, IsWrittenFet, words_fet, words_merge}
use Rattle.ext_reading.proofs.WrittenSteps.{made}
use Rattle.ext_reading.proofs.WrittenParts.{IsWrittenUse, use_read, IsWrittenNamed, IsWrittenJoin, names_of_both, uses_back, nodes_back, fets_back, merges_back}
use Rattle.ext_reading.proofs.WrittenHeaders.{header_back}
use Rattle.ext_reading.proofs.WrittenOutlines.{none_said, uses_added, kept_lines}
use Rattle.ext_reading.proofs.ElementIds.{names_given}
use Rattle.ext_reading.proofs.WrittenRecords.{written_uses, written_nodes, written_fets, written_merges}

-- lines of words
abbrev AreWords : List (List ℕ) → Type 0
AreWords words = AllByRecursion IsWord words

all_map : {X Y : Type 0} (P : Y → Type 0) (Q : X → Type 0) (f : X → Y) (xs : List X) → AllByRecursion Q xs → ((x : X) → Q x → P (f x))
    → AllByRecursion P (map f xs)
all_map P Q f [] all each = tt
all_map P Q f (x ∷ xs) all each = (each x all.0, all_map P Q f xs all.1 each)

words_named : (classes : List ℕ) (nodes : List NodeRec) → AllByRecursion (IsWrittenNamed classes) nodes → AllByRecursion AreWords (flat_map node_lines nodes)
words_named classes [] all = tt
words_named classes (n ∷ nodes) all =
    let is = all.0 in
    let others = all_map AreWords (λ alias. is_node_name alias ≡ true) (equiv_words n.name) n.aliases is.aliases_are
    (λ a named. words_equiv n.name a is.node_is.name named) in (
      words_node n is.node_is,
      AllByRecursion-append AreWords (map (equiv_words n.name) n.aliases) (flat_map node_lines nodes) others
          (words_named classes nodes all.1),
    )

header_lines : (tech classes : List ℕ) → is_word tech ≡ true → AllByRecursion AreWords (header_words (codes "2") tech classes)
header_lines tech classes named =
    let one = IsWord-test (codes "1") refl in
    let name = IsWord-word tech named in (
      (IsWord-test (codes "tech") refl, (name, tt)),
      (
        (IsWord-test (codes "timestamp") refl, (IsWord-test (codes "0") refl, tt)),
        (
          (IsWord-test (codes "version") refl, (IsWord-test (codes "2") refl, tt)),
          (
            (IsWord-test (codes "style") refl, (name, tt)),
            ((IsWord-test (codes "scale") refl, (one, (one, (one, tt)))), ((IsWord-test (codes "resistclasses") refl, words-values classes), tt)),
          ),
        ),
      ),
    )

-- the names of the elements differ
names_apart : (ext : ArrayExt) → IsLawfulArrayExt ext → Distinct (names_of_both [] ext.uses)
names_apart ext lawful = subst Distinct (sym (names_given ext.uses)) lawful.plain.element_names_differ

use_lines : (ext : ArrayExt) → AllByRecursion IsWrittenUse ext.uses → AllByRecursion AreWords (map use_words ext.uses)
use_lines ext all =
    let outline : Outline = record { singles = []; all = []; last = 0 } in
    all_map AreWords IsWrittenUse use_words ext.uses all (λ u is. (use_read outline 0 true [] [] [] u is).words)

all_lines : (ext : ArrayExt) → IsReadable ext → AllByRecursion AreWords (ext_lines ext)
all_lines ext is =
    let fets = all_map AreWords (λ (fet : FetRec). IsWrittenFet fet × (has_its_nodes (node_names (plain ext)) fet ≡ true)) fet_words ext.fets
    (written_fets ext is) (λ f one. words_fet f one.0) in
    let joins = written_merges ext (element_names (plain ext)) is (λ id h. h) in
    let merges = all_map AreWords (IsWrittenJoin ext.classes (element_names (plain ext)) (node_names (plain ext))) merge_words ext.merges joins
    (λ m one. words_merge m one.merge_is) in
    AllByRecursion-append AreWords (header_words (codes "2") ext.tech ext.classes) _ (header_lines ext.tech ext.classes is.lawful.plain.tech)
    (AllByRecursion-append AreWords (map use_words ext.uses) _ (use_lines ext (written_uses ext is))
    (AllByRecursion-append AreWords (flat_map node_lines ext.nodes) _ (words_named ext.classes ext.nodes (written_nodes ext is))
    (AllByRecursion-append AreWords (map fet_words ext.fets) (map merge_words ext.merges) fets merges)))

lines_written : (ext : ArrayExt) → IsReadable ext → lines_of (ext_text ext) ≡ map line_of (ext_lines ext)
unfolding lines_text
lines_written ext is = lines_of-text_of (map line_of (ext_lines ext)) (all_map IsLine AreWords line_of (ext_lines ext) (all_lines ext is)
    (λ words all. IsLine-line_of words all))

-- the elements of the outline
elements_met : (ext : ArrayExt) → IsReadable ext
    → Each (λ id. In id (given_names.names_in (outline_of (map line_of (ext_lines ext))).all)) (element_names (plain ext))
elements_met ext is = λ id h.
    let add = with_line true in
    let header = header_words (codes "2") ext.tech ext.classes in
    let uses = map use_words ext.uses in
    let rest = flat_map node_lines ext.nodes ++ (map fet_words ext.fets ++ map merge_words ext.merges) in
    let none = none_said header (header_lines ext.tech ext.classes is.lawful.plain.tech) (refl, (refl, (refl, (refl, (refl, (refl, tt)))))) in
    let all = uses_added [] ext.uses (written_uses ext is) (names_apart ext is.lawful) in
    let whole : fold add [] (map line_of (ext_lines ext)) ≡ fold add (map elements_of ext.uses) (map line_of rest) =
    ap (fold add []) (map-append line_of header (uses ++ rest) ∙ ap (λ l. map line_of header ++ l) (map-append line_of uses rest))
    ∙ (fold-append add [] (map line_of header) (map line_of uses ++ map line_of rest)
    ∙ (ap (λ (known : List UseElements). fold add known (map line_of uses ++ map line_of rest)) none
    ∙ (fold-append add [] (map line_of uses) (map line_of rest)
    ∙ ap (λ (known : List UseElements). fold add known (map line_of rest)) all))) in
    let there : In id (given_names.names_in (map elements_of ext.uses)) = subst (λ (l : List (List ℕ)). In id l) (sym (names_given ext.uses)) h in
    subst (λ (known : List UseElements). In id (given_names.names_in known)) (sym whole) (kept_lines (map elements_of ext.uses) (map line_of rest) id there)

-- the lines are read one kind after another
lines_back : (ext : ArrayExt) → IsReadable ext
    → (b : Bool) × ((owners : List ℕ) × (first_fault_or (step (outline_of (map line_of (ext_lines ext)))) 1 nothing_yet (map line_of (ext_lines ext))
    ≡ Ok (made b ext.tech ext.classes ext.uses ext.nodes (node_names (plain ext)) owners ext.fets ext.merges)))
lines_back ext is =
    let outline = outline_of (map line_of (ext_lines ext)) in
    let header = header_words (codes "2") ext.tech ext.classes in
    let uses = map use_words ext.uses in
    let nodes = flat_map node_lines ext.nodes in
    let fets = map fet_words ext.fets in
    let merges = map merge_words ext.merges in
    let count = length-map (ext_lines ext) line_of in
    let long : 6 ≤ outline.last = omega (arith, count, length-append header (uses ++ (nodes ++ (fets ++ merges)))) in
    let values = by_recursion (λ v. v ≤ GREATEST_CLASS_VALUE) ext.classes (each_of_All (λ v. v ≤ GREATEST_CLASS_VALUE) ext.classes is.values) in
    let k1 = 1 + length (map line_of header) in
    let k2 = k1 + length (map line_of uses) in
    let k3 = k2 + length (map line_of nodes) in
    let k4 = k3 + length (map line_of fets) in
    let zero = header_back outline ext.tech ext.classes is.lawful.plain.tech values is.lawful.plain.classes long in
    let one = uses_back outline k1 false ext.tech ext.classes [] ext.uses (written_uses ext is) (omega (arith, is.uses)) (names_apart ext is.lawful) in
    let two = nodes_back outline k2 one.0 ext.tech ext.classes ext.uses [] ext.nodes [] [] (written_nodes ext is) refl is.lawful.plain.node_names_differ in
    let three = fets_back outline k3 two.begun ext.tech ext.classes ext.uses ext.nodes (node_names (plain ext)) two.owners [] ext.fets (written_fets ext is) in
    let joins = written_merges ext (given_names.names_in outline.all) is (elements_met ext is) in
    let four = merges_back outline k4 three.0 ext.tech ext.classes ext.uses ext.nodes (node_names (plain ext)) two.owners ext.fets [] ext.merges joins in
    let s = step outline in (
      four.0,
      (
        two.owners,
        ap (first_fault_or s 1 nothing_yet) (map-append line_of header (uses ++ (nodes ++ (fets ++ merges))))
            ∙ (first_fault_or-append s 1 nothing_yet (map line_of header) (map line_of (uses ++ (nodes ++ (fets ++ merges)))) _ zero
            ∙ (ap (first_fault_or s k1 (made false ext.tech ext.classes [] [] [] [] [] [])) (map-append line_of uses (nodes ++ (fets ++ merges)))
            ∙ (first_fault_or-append s k1 _ (map line_of uses) (map line_of (nodes ++ (fets ++ merges))) _ one.1
            ∙ (ap (first_fault_or s k2 (made one.0 ext.tech ext.classes ext.uses [] [] [] [] [])) (map-append line_of nodes (fets ++ merges))
            ∙ (first_fault_or-append s k2 _ (map line_of nodes) (map line_of (fets ++ merges)) _ two.read
            ∙ (ap (first_fault_or s k3 (made two.begun ext.tech ext.classes ext.uses ext.nodes (node_names (plain ext)) two.owners [] []))
            (map-append line_of fets merges)
            ∙ (first_fault_or-append s k3 _ (map line_of fets) (map line_of merges) _ three.1
            ∙ four.1))))))),
      ),
    )

draft_back : (ext : ArrayExt) → IsReadable ext
    → (b : Bool) × ((owners : List ℕ) × (draft_in (ext_text ext) ≡ Ok (made b ext.tech ext.classes ext.uses ext.nodes (node_names (plain ext)) owners ext.fets
    ext.merges)))
unfolding draft_in
draft_back ext is =
    let lines = map line_of (ext_lines ext) in
    let read = lines_back ext is in
    let draft = made read.0 ext.tech ext.classes ext.uses ext.nodes (node_names (plain ext)) read.1.0 ext.fets ext.merges in (
      read.0,
      (
        read.1.0,
        ap (λ l. text_state (step (outline_of l)) finish nothing_yet l) (lines_written ext is)
            ∙ text_state-ended (step (outline_of lines)) finish nothing_yet lines draft read.1.1,
      ),
    )

pub read_back : (ext : ArrayExt) → IsReadable ext → ext_in ext.cell (ext_text ext) ≡ Ok ext
read_back ext is = let read = draft_back ext is in ap (λ found. and_then found (λ draft. Ok (record_of ext.cell draft))) read.1.1
