-- What each of several words is held to, and the first word that breaks a rule.
use Rattle.std.specs.Prelude.{◌==◌, ◌&&◌, ◌||◌, is_none, find, ℕ, Bool, List, length, Option, Some, None, Result, Ok, Err}
use Rattle.text_form.specs.SaidLines.{and_then}
use Rattle.tech_model.specs.declared.raw.RawTech.{RawTech}
use Rattle.tech_model.specs.declared.faults.TechFault.{TechFault}
use Rattle.tech_model.specs.declared.faults.TechFault.TheVariants.{NoPlane, NoType, Twice, ContactPart, TypeExpression}
use Rattle.tech_draft.specs.declared.draft.word_rules.WordRule.{WordRule}
use Rattle.tech_draft.specs.declared.draft.word_rules.WordRule.TheVariants.{Operator, OperatorOrSlash, UnknownPlane, Meaningless, Classed}
use Rattle.tech_draft.specs.declared.draft.word_rules.WordRule.TheVariants.{Contact, ContactOr}
use Rattle.tech_draft.specs.Words.{has_slash, has_operator, name_part, plane_part}
use Rattle.tech_draft.specs.Lookups.{plane_named, entry_types, type_of_word, is_contact, is_classed}

-- the word has what the rule forbids
abbrev pub breaks : RawTech → WordRule → List ℕ → Bool
breaks raw Operator word = has_operator word
breaks raw OperatorOrSlash word = has_operator word || has_slash word
breaks raw UnknownPlane word = has_slash word && is_none (plane_named raw (plane_part word))
breaks raw Meaningless word = length (entry_types raw word) == 0
breaks raw Classed word = is_classed raw word
breaks raw Contact word = is_contact raw word
breaks raw (ContactOr t) word = is_contact raw word || (type_of_word raw word).0 == t.0

-- the fault of a word that breaks the rule
abbrev pub word_fault : WordRule → List ℕ → TechFault
word_fault Operator word = TypeExpression word
word_fault OperatorOrSlash word = TypeExpression word
word_fault UnknownPlane word = NoPlane (plane_part word)
word_fault Meaningless word = NoType (name_part word)
word_fault Classed word = Twice (name_part word)
word_fault Contact word = ContactPart word
word_fault (ContactOr t) word = ContactPart word

abbrev pub refuse_found : WordRule → Option (List ℕ) → Result (Unit {0}) TechFault
refuse_found rule None = Ok tt
refuse_found rule (Some word) = Err (word_fault rule word)

-- the first word that breaks the rule is refused
unfoldable pub refuse : RawTech → WordRule → List (List ℕ) → Result (Unit {0}) TechFault
refuse raw rule words = refuse_found rule (find (breaks raw rule) words)

-- Entries of lists: the first expression is refused, then the first plane that there is not, and then the first name without a type.
unfoldable pub check_entries : RawTech → List (List ℕ) → Result (Unit {0}) TechFault
check_entries raw entries =
    and_then (refuse raw Operator entries) (λ _. and_then (refuse raw UnknownPlane entries) (λ _. refuse raw Meaningless entries))

-- Names of layers: the first expression is refused, and then the first that names no layer.
unfoldable pub check_layers : RawTech → List (List ℕ) → Result (Unit {0}) TechFault
check_layers raw words = and_then (refuse raw OperatorOrSlash words) (λ _. refuse raw Meaningless words)
