-- The names and numbers of a circuit file.
use Rattle.std.specs.Prelude.{◌==◌, ◌&&◌, ◌-◌, ◌^◌, ◌+ℤ◌, nat_le, ℕ, ℤ, pos, neg_ℤ, int_le, int_lt, Bool, true, if◌then◌else◌, List, [], ◌∷◌, ◌++◌, length}
use Rattle.std.specs.Prelude.{drop, take}
use Rattle.std.specs.Prelude.{slice_index, Option, Some, None, Result, Ok, Err}
use Rattle.std.specs.List.{list_all, slice_split}
use Rattle.std.specs.Ordering.{int_eq}
use Rattle.std.specs.Str.{bytes_eq}
use Rattle.text_scan.specs.Numbers.{wide_of}
use Rattle.text_scan.specs.PlainNames.{is_plain_name}
use Rattle.text_scan.specs.declared.numeral.NumFault.{NumFault}
use Rattle.text_scan.specs.declared.numeral.NumFault.TheVariants.{Empty, Digit, Range as TooWide}
use Rattle.text_form.specs.SaidLines.{and_then}
use Rattle.ext_model.specs.declared.names.TheConstants.{SLASH}
use Rattle.ext_model.specs.ElementNames.{is_use_id, indexed_name}
use Rattle.ext_model.specs.Plain.{before, behind, index_of}
use Rattle.ext_model.specs.NodeNames.{is_word, is_node_name}
use Rattle.ext_reading.specs.declared.faults.ExtReadFault.{ExtReadFault}
use Rattle.ext_reading.specs.declared.faults.ExtReadFault.TheVariants.{BadLine}

-- the byte between two names of a path
abbrev pub is_slash : ℕ → Bool
is_slash byte = byte == SLASH

-- a path: names of nodes or elements, a slash between any two
abbrev pub is_path : List ℕ → Bool
is_path text = list_all is_node_name (slice_split is_slash text)

-- the word begins and ends with a double quote
abbrev pub is_quoted : List ℕ → Bool
is_quoted word = nat_le 2 (length word) && slice_index word 0 == 34 && slice_index word (length word - 1) == 34

-- what stands between the quotes of a word, or the word where it has none
abbrev pub unquoted : List ℕ → List ℕ
unquoted word = if is_quoted word then take (length word - 2) (drop 1 word) else word

-- the word, where it has its form
abbrev pub if_formed : Bool → List ℕ → Result (List ℕ) ExtReadFault
if_formed formed word = if formed then Ok word else Err BadLine

-- the name of a technology, a type or a transistor that a word is
abbrev pub word_in : List ℕ → Result (List ℕ) ExtReadFault
word_in word = if_formed (is_word word) word

-- the name of a cell
abbrev pub cell_in : List ℕ → Result (List ℕ) ExtReadFault
cell_in word = if_formed (is_plain_name word) word

-- a number of 32 bits with sign
abbrev pub is_short : ℤ → Bool
is_short z = int_le (neg_ℤ (pos (2 ^ 31))) z && int_lt z (pos (2 ^ 31))

-- an id with two indices of 32 bits with sign, each as it is written
abbrev pub is_indexed : List ℕ → Bool
is_indexed word =
    let id = before 91 word in
    let i = index_of (before 44 (behind 91 word)) in
    let j = index_of (before 93 (behind 44 (behind 91 word))) in
    is_use_id id && is_short i && is_short j && bytes_eq word (indexed_name id i j)

-- the name of a substrate, with quotes or without
abbrev pub substrate_in : List ℕ → Result (List ℕ) ExtReadFault
substrate_in word = word_in (unquoted word)

-- the name of a node, with quotes or without
abbrev pub node_name_in : List ℕ → Result (List ℕ) ExtReadFault
node_name_in word = if_formed (is_node_name (unquoted word)) (unquoted word)

-- a path, with quotes or without
abbrev pub path_in : List ℕ → Result (List ℕ) ExtReadFault
path_in word = if_formed (is_path (unquoted word)) (unquoted word)

-- what a word that was read as a number of 128 bits writes: nothing where it is decimal and such a number does not hold it
abbrev pub numeral_of : Result ℤ NumFault → Result (Option ℤ) ExtReadFault
numeral_of (Ok z) = Ok (Some z)
numeral_of (Err TooWide) = Ok None
numeral_of (Err Empty) = Err BadLine
numeral_of (Err Digit) = Err BadLine

abbrev pub numeral_in : List ℕ → Result (Option ℤ) ExtReadFault
numeral_in word = numeral_of (wide_of word)

-- the numbers that words write, behind these
abbrev pub numerals_from : List (Option ℤ) → List (List ℕ) → Result (List (Option ℤ)) ExtReadFault
numerals_from numerals [] = Ok numerals
numerals_from numerals (word ∷ words) = and_then (numeral_in word) (λ numeral. numerals_from (numerals ++ numeral ∷ []) words)

abbrev pub numerals_in : List (List ℕ) → Result (List (Option ℤ)) ExtReadFault
numerals_in words = numerals_from [] words

-- the second number is one more than the first; where 128 bits do not hold one of them, its range is told
abbrev pub is_next : Option ℤ → Option ℤ → Bool
is_next (Some z) (Some next) = int_eq next (z +ℤ pos 1)
is_next _ _ = true
