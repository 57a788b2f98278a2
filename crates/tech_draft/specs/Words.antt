-- Words of a technology's lines: their forms, and the parts of an entry.
use Rattle.std.specs.Prelude.{◌==◌, ◌&&◌, ◌||◌, not, nat_le, if◌then◌else◌, ℕ, ℤ, pos, negsuc, Bool, List, length}
use Rattle.std.specs.Prelude.{Option, Some, None, Result, Ok, Err}
use Rattle.std.specs.List.{list_any, list_all, slice_split, before_first, after_first}
use Rattle.std.specs.Option.{ok_or}
use Rattle.text_scan.specs.Numbers.{number_of}
use Rattle.text_scan.specs.PlainNames.{is_plain_byte}
use Rattle.text_scan.specs.declared.numeral.NumFault.{NumFault}
use Rattle.text_scan.specs.declared.plain_name.TheConstants.{LONGEST_NAME}
use Rattle.tech_model.specs.declared.faults.TechFault.{TechFault}
use Rattle.tech_model.specs.declared.faults.TechFault.TheVariants.{BadForm}
use Rattle.tech_model.specs.declared.limits.TheConstants.{LARGEST_MEASURE}
use Rattle.tech_model.specs.Forms.{is_layer_name}
use Rattle.tech_draft.specs.declared.words.WordForm.{WordForm}
use Rattle.tech_draft.specs.declared.words.WordForm.TheVariants.{LayerName, LayerTerm, Entry}

-- ---- forms

-- what parts the pieces of a list
abbrev pub is_comma : ℕ → Bool
is_comma byte = byte == 44

abbrev pub is_slash : ℕ → Bool
is_slash byte = byte == 47

-- a byte of an expression over types that no name has: `*`, `~`, `(` or `)`
abbrev pub is_operator : ℕ → Bool
is_operator byte = byte == 42 || byte == 126 || byte == 40 || byte == 41

abbrev pub has_slash : List ℕ → Bool
has_slash word = list_any is_slash word

abbrev pub has_operator : List ℕ → Bool
has_operator word = list_any is_operator word

-- the pieces of a comma list
abbrev pub pieces_of : List ℕ → List (List ℕ)
pieces_of list = slice_split is_comma list

-- an entry is NAME or NAME/PLANE, split at its first slash
abbrev pub name_part : List ℕ → List ℕ
name_part entry = before_first is_slash entry

abbrev pub plane_part : List ℕ → List ℕ
plane_part entry = after_first is_slash entry

-- as long as a name may be
abbrev pub has_name_length : List ℕ → Bool
has_name_length word = nat_le 1 (length word) && nat_le (length word) LONGEST_NAME

abbrev pub is_term_byte : ℕ → Bool
is_term_byte byte = is_plain_byte byte || is_operator byte

-- What may stand in the place of a name: a name, or an expression as long as one.
abbrev pub is_term : List ℕ → Bool
is_term word = has_name_length word && list_all is_term_byte word

abbrev pub is_entry : List ℕ → Bool
is_entry entry = is_term (name_part entry) && (not (has_slash entry) || is_term (plane_part entry))

abbrev pub is_layer_term_byte : ℕ → Bool
is_layer_term_byte byte = is_term_byte byte || is_slash byte

-- What may stand in the place of a layer's name: a name, or an expression as long as one, in which a slash is an operator too.
abbrev pub is_layer_term : List ℕ → Bool
is_layer_term word = has_name_length word && list_all is_layer_term_byte word

abbrev pub has_form : WordForm → List ℕ → Bool
has_form LayerName word = is_layer_name word
has_form LayerTerm word = is_layer_term word
has_form Entry word = is_entry word

-- each piece of the list is an entry
abbrev pub is_entry_list : List ℕ → Bool
is_entry_list list = list_all (has_form Entry) (pieces_of list)

-- ---- numbers

abbrev pub within_largest : Result ℤ NumFault → Option ℕ
within_largest (Ok (pos n)) = if nat_le n LARGEST_MEASURE then Some n else None
within_largest (Ok (negsuc n)) = None
within_largest (Err fault) = None

-- the number from 0 to the largest measure that the word writes
abbrev pub measure_in : List ℕ → Result ℕ TechFault
measure_in word = ok_or (within_largest (number_of word)) BadForm
