-- What a line of a circuit file says is of its form.
use Rattle.ext_reading.proofs.Common.{◌≡◌, ◌≤◌, ◌+◌, ℕ, ℤ, Bool, true, false, cond, List, [], ◌∷◌, ◌++◌, length, Option, Result, Ok, Err, arith}
use Rattle.ext_reading.proofs.Common.{length-append, codes, bytes_eq, is_plain_name, words_of, is_word, is_node_name, ExtReadFault, BadLine, Corners}
use Rattle.ext_reading.proofs.Common.{UseLine, NodeLine, SideLine, FetLine, MergeLine, HeaderLine, Tech, Classes, ExtLine, Nothing, Header, Use}
use Rattle.ext_reading.proofs.Common.{Node, Equiv, Fet, Merge, is_path, unquoted, if_formed, word_in, cell_in, substrate_in, node_name_in, path_in}
use Rattle.ext_reading.proofs.Common.{numeral_in, numerals_in, use_name_in, use_line, side_in, sides_from, words_say, says}
use Rattle.text_scan.proofs.WordLemmas.{length-words_of}
use Rattle.ext_reading.specs.LineForms.{tech_line, version_line, classes_line, six_numerals, NamesUse, node_of, node_line}
use Rattle.ext_reading.specs.LineForms.{equiv_line}
use Rattle.ext_reading.specs.LineForms.{are_corners, corners_in, fet_at, fet_line, merge_line, header_line, body_line, line_by_key}
use Rattle.ext_reading.proofs.Outcomes.{OkHas, next_has, given_has, passed_has, value_has}
use Rattle.ext_reading.proofs.UseNames.{IsNamed, use_name-formed}

-- a word of its form
formed_has : (test : List ℕ → Bool) (word : List ℕ) → OkHas (λ name. test name ≡ true) (if_formed (test word) word)
formed_has test word = passed_has (λ name. test name ≡ true) (test word) (Ok word) BadLine (λ is. is)

-- a header has a technology's name
abbrev pub IsFormedHeader : HeaderLine → Type 0
IsFormedHeader (Tech name) = is_word name ≡ true
IsFormedHeader _ = Unit {0}

pub record IsFormedUse (line : UseLine) : Type 0 where
  pub cell : is_plain_name line.cell ≡ true
  pub named : IsNamed line.name

pub record IsFormedNode (line : NodeLine) : Type 0 where
  pub name : is_node_name line.name ≡ true
  pub kind : is_word line.kind ≡ true

-- a transistor has no more terminals than its line has words
pub record IsFormedFet (most : ℕ) (line : FetLine) : Type 0 where
  pub kind : is_word line.kind ≡ true
  pub corners : are_corners line.corners ≡ true
  pub substrate : is_word line.substrate ≡ true
  pub count : length line.terminals ≤ most

pub record IsFormedMerge (line : MergeLine) : Type 0 where
  pub first : is_path line.first ≡ true
  pub second : is_path line.second ≡ true

abbrev pub IsFormed : ℕ → ExtLine → Type 0
IsFormed most Nothing = Unit {0}
IsFormed most (Header header) = IsFormedHeader header
IsFormed most (Use line) = IsFormedUse line
IsFormed most (Node line) = IsFormedNode line
IsFormed most (Equiv name alias) = is_node_name alias ≡ true
IsFormed most (Fet line) = IsFormedFet most line
IsFormed most (Merge line) = IsFormedMerge line

tech_formed : (words : List (List ℕ)) → OkHas IsFormedHeader (tech_line words)
tech_formed [] = tt
tech_formed (name ∷ []) = next_has (λ n. is_word n ≡ true) IsFormedHeader (word_in name) (λ n. Ok (Tech n)) (formed_has is_word name) (λ n is. is)
tech_formed (name ∷ next ∷ words) = tt

version_formed : (words : List (List ℕ)) → OkHas IsFormedHeader (version_line words)
version_formed [] = tt
version_formed (word ∷ []) = tt
version_formed (word ∷ next ∷ words) = tt

classes_formed : (words : List (List ℕ)) → OkHas IsFormedHeader (classes_line words)
classes_formed words = given_has IsFormedHeader (numerals_in words) (λ values. Ok (Classes values)) (λ values is. tt)

header_formed : (most : ℕ) (found : Result HeaderLine ExtReadFault) → OkHas IsFormedHeader found → OkHas (IsFormed most) (header_line found)
header_formed most found is = next_has IsFormedHeader (IsFormed most) found (λ header. Ok (Header header)) is (λ header formed. formed)

pub use_formed : (most : ℕ) (words : List (List ℕ)) → OkHas (IsFormed most) (use_line words)
use_formed most [] = tt
use_formed most (cell ∷ []) = tt
use_formed most (cell ∷ name ∷ words) =
    next_has (λ n. is_plain_name n ≡ true) (IsFormed most) (cell_in cell) _ (formed_has is_plain_name cell) (λ c plain.
    next_has IsNamed (IsFormed most) (use_name_in name) _ (use_name-formed name) (λ n named.
    given_has (IsFormed most) (six_numerals words) _ (λ six is. record { cell = plain; named = named })))

node_formed : (most : ℕ) (name cap x y kind : List ℕ) (measures : List (Option ℤ)) → OkHas (IsFormed most) (node_of name cap x y kind measures)
node_formed most name cap x y kind measures =
    next_has (λ n. is_node_name n ≡ true) (IsFormed most) (node_name_in name) _ (formed_has is_node_name (unquoted name)) (λ n named.
    given_has (IsFormed most) (numeral_in cap) _ (λ cap e1.
    given_has (IsFormed most) (numeral_in x) _ (λ x e2.
    given_has (IsFormed most) (numeral_in y) _ (λ y e3.
    next_has (λ n. is_word n ≡ true) (IsFormed most) (word_in kind) _ (formed_has is_word kind) (λ k word.
    record { name = named; kind = word })))))

node_words_formed : (most : ℕ) (words : List (List ℕ)) → OkHas (IsFormed most) (node_line words)
node_words_formed most (a ∷ b ∷ c ∷ d ∷ e ∷ f ∷ words) =
    given_has (IsFormed most) (numerals_in words) (λ measures. node_of a c d e f measures) (λ measures is. node_formed most a c d e f measures)
node_words_formed most _ = tt

equiv_formed : (most : ℕ) (words : List (List ℕ)) → OkHas (IsFormed most) (equiv_line words)
equiv_formed most (name ∷ alias ∷ []) =
    given_has (IsFormed most) (node_name_in name) _ (λ n e.
    next_has (λ n. is_node_name n ≡ true) (IsFormed most) (node_name_in alias) _ (formed_has is_node_name (unquoted alias)) (λ a named. named))
equiv_formed most _ = tt

-- there are no more terminals than words
sides_few : (sides : List SideLine) (words : List (List ℕ)) → OkHas (λ all. length all ≤ length sides + length words) (sides_from sides words)
sides_few sides [] = omega arith
sides_few sides (a ∷ []) = tt
sides_few sides (a ∷ b ∷ []) = tt
sides_few sides (a ∷ b ∷ c ∷ words) =
    given_has (λ all. length all ≤ length sides + length (a ∷ b ∷ c ∷ words)) (side_in a b) (λ side. sides_from (sides ++ side ∷ []) words)
    (λ side is. widened (sides_from (sides ++ side ∷ []) words) (length (sides ++ side ∷ []) + length words) (length sides + length (a ∷ b ∷ c ∷ words))
    (sides_few (sides ++ side ∷ []) words) (omega (arith, length-append sides (side ∷ []))))
  where
    widened : (found : Result (List SideLine) ExtReadFault) (few many : ℕ) → OkHas (λ all. length all ≤ few) found → few ≤ many
        → OkHas (λ all. length all ≤ many) found
    widened (Ok all) few many is no_more = omega arith
    widened (Err fault) few many is no_more = tt

fet_behind_formed : (most : ℕ) (kind : List ℕ) (corners : Corners) (words : List (List ℕ)) → is_word kind ≡ true → are_corners corners ≡ true
    → length words ≤ most
    → OkHas (IsFormed most) (fet_at kind corners words)
fet_behind_formed most kind corners (a ∷ b ∷ c ∷ d ∷ e ∷ f ∷ words) word next few =
    given_has (IsFormed most) (numeral_in a) _ (λ area e1.
    given_has (IsFormed most) (numeral_in b) _ (λ perimeter e2.
    next_has (λ n. is_word n ≡ true) (IsFormed most) (substrate_in c) _ (formed_has is_word (unquoted c)) (λ substrate named.
    given_has (IsFormed most) (side_in d e) _ (λ gate e3.
    next_has (λ all. length all ≤ length {A = SideLine} [] + length words) (IsFormed most) (sides_from [] words) _ (sides_few [] words) (λ terminals no_more.
    record { kind = word; corners = next; substrate = named; count = omega arith })))))
fet_behind_formed most kind corners _ word next few = tt

corners_formed : (x y far_x far_y : List ℕ) → OkHas (λ corners. are_corners corners ≡ true) (corners_in x y far_x far_y)
corners_formed x y far_x far_y =
    let P : Corners → Type 0 = λ corners. are_corners corners ≡ true in
    given_has P (numeral_in x) _ (λ x e1.
    given_has P (numeral_in y) _ (λ y e2.
    given_has P (numeral_in far_x) _ (λ far_x e3.
    given_has P (numeral_in far_y) _ (λ far_y e4.
    let corners : Corners = record { x = x; y = y; far_x = far_x; far_y = far_y } in
    passed_has P (are_corners corners) (Ok corners) BadLine (λ is. is)))))

fet_formed : (most : ℕ) (words : List (List ℕ)) → length words ≤ most → OkHas (IsFormed most) (fet_line words)
fet_formed most (a ∷ b ∷ c ∷ d ∷ e ∷ words) few =
    next_has (λ n. is_word n ≡ true) (IsFormed most) (word_in a) _ (formed_has is_word a) (λ kind word.
    next_has (λ corners. are_corners corners ≡ true) (IsFormed most) (corners_in b c d e) _ (corners_formed b c d e) (λ corners next.
    fet_behind_formed most kind corners words word next (omega arith)))
fet_formed most _ few = tt

merge_formed : (most : ℕ) (words : List (List ℕ)) → OkHas (IsFormed most) (merge_line words)
merge_formed most (a ∷ b ∷ c ∷ words) =
    next_has (λ n. is_path n ≡ true) (IsFormed most) (path_in a) _ (formed_has is_path (unquoted a)) (λ first one.
    next_has (λ n. is_path n ≡ true) (IsFormed most) (path_in b) _ (formed_has is_path (unquoted b)) (λ second two.
    given_has (IsFormed most) (numeral_in c) _ (λ cap e1.
    given_has (IsFormed most) (numerals_in words) _ (λ measures e2.
    record { first = one; second = two }))))
merge_formed most _ = tt

either_form : (P : ExtLine → Type 0) (test : Bool) (this other : Result ExtLine ExtReadFault) → OkHas P this → OkHas P other → OkHas P (cond test this other)
either_form P true this other one two = one
either_form P false this other one two = two

body_formed : (most : ℕ) (key : List ℕ) (words : List (List ℕ)) → length words ≤ most → OkHas (IsFormed most) (body_line key words)
body_formed most key words few =
    either_form (IsFormed most) (bytes_eq key (codes "use")) _ _ (use_formed most words)
    (either_form (IsFormed most) (bytes_eq key (codes "node")) _ _ (node_words_formed most words)
    (either_form (IsFormed most) (bytes_eq key (codes "equiv")) _ _ (equiv_formed most words)
    (either_form (IsFormed most) (bytes_eq key (codes "fet")) _ _ (fet_formed most words few)
    (either_form (IsFormed most) (bytes_eq key (codes "merge")) _ _ (merge_formed most words) tt))))

key_formed : (most : ℕ) (key : List ℕ) (words : List (List ℕ)) → length words ≤ most → OkHas (IsFormed most) (line_by_key key words)
key_formed most key words few =
    either_form (IsFormed most) (bytes_eq key (codes "tech")) _ _ (header_formed most (tech_line words) (tech_formed words))
    (either_form (IsFormed most) (bytes_eq key (codes "timestamp")) _ _ tt
    (either_form (IsFormed most) (bytes_eq key (codes "version")) _ _ (header_formed most (version_line words) (version_formed words))
    (either_form (IsFormed most) (bytes_eq key (codes "style")) _ _ tt
    (either_form (IsFormed most) (bytes_eq key (codes "scale")) _ _ tt
    (either_form (IsFormed most) (bytes_eq key (codes "resistclasses")) _ _ (header_formed most (classes_line words) (classes_formed words))
    (body_formed most key words few))))))

words_formed : (most : ℕ) (words : List (List ℕ)) → length words ≤ most → OkHas (IsFormed most) (words_say words)
words_formed most [] few = tt
words_formed most (key ∷ words) few = key_formed most key words (omega arith)

-- what a line says is of its form
pub says-formed : (most : ℕ) (line : List ℕ) → length line ≤ most → OkHas (IsFormed most) (says line)
says-formed most line short = words_formed most (words_of line) (let few = length-words_of line in omega arith)

names_use : (most : ℕ) (said : ExtLine) → IsFormed most said → NamesUse said
names_use most (Use line) formed = formed.named
names_use most _ formed = tt

-- a use that a line says has a name of its form
pub says-named : (line : List ℕ) (said : ExtLine) → says line ≡ Ok said → NamesUse said
says-named line said e =
    names_use (length line) said (value_has (IsFormed (length line)) (says line) said (says-formed (length line) line (omega arith)) e)

pub use_line-named : (words : List (List ℕ)) (said : ExtLine) → use_line words ≡ Ok said → NamesUse said
use_line-named words said e = names_use 0 said (value_has (IsFormed 0) (use_line words) said (use_formed 0 words) e)
