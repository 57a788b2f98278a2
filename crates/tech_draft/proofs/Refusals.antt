-- Rules that are kept, one after another.
use Rattle.tech_draft.proofs.Common.{find, Option, Some, None, Result, Ok, Err, refl, or_parts, In, find-none, and_then, RawTech, TechFault, Drafted}
use Rattle.std.specs.Prelude.{◌≡◌, ℕ, Bool, true, false, cond, List}
use Rattle.tech_draft.specs.declared.draft.word_rules.WordRule.{WordRule}
use Rattle.tech_draft.specs.declared.draft.word_rules.WordRule.TheVariants.{Operator, OperatorOrSlash, UnknownPlane, Meaningless}
use Rattle.tech_draft.specs.Words.{has_operator, has_slash}
use Rattle.tech_draft.specs.WordRules.{breaks, refuse_found, refuse, check_entries, check_layers}

-- a line without a fault
abbrev pub right : Drafted → Result Drafted TechFault
right draft = Ok draft

-- where a row of steps ends well, each does
pub and_then-ok : {A B F : Type 0} (first : Result A F) (next : A → Result B F) (y : B) → and_then first next ≡ Ok y
    → (x : A) × ((first ≡ Ok x) × (next x ≡ Ok y))
and_then-ok (Ok x) next y is = (x, (refl, is))
and_then-ok (Err fault) next y is = absurd (cc)

-- where a rule with a test is kept, the test has failed
pub rule-ok : {A F : Type 0} (broken : Bool) (fault : F) (rest : Result A F) (y : A) → cond broken (Err fault) rest ≡ Ok y
    → (broken ≡ false) × (rest ≡ Ok y)
rule-ok true fault rest y is = absurd (cc)
rule-ok false fault rest y is = (refl, is)

none_found : (rule : WordRule) (found : Option (List ℕ)) → refuse_found rule found ≡ Ok tt → found ≡ None
none_found rule None is = refl
none_found rule (Some word) is = absurd (cc)

-- no word has what the rule forbids
pub none_breaks : (raw : RawTech) (rule : WordRule) (words : List (List ℕ)) → refuse raw rule words ≡ Ok tt
    → (word : List ℕ) → In word words → breaks raw rule word ≡ false
unfolding refuse
none_breaks raw rule words is word inside =
    find-none (breaks raw rule) words word (none_found rule (find (breaks raw rule) words) is) inside

-- entries that are taken mean types
pub entries_mean : (raw : RawTech) (entries : List (List ℕ)) → check_entries raw entries ≡ Ok tt
    → (entry : List ℕ) → In entry entries → breaks raw Meaningless entry ≡ false
unfolding check_entries
entries_mean raw entries is entry inside =
    let first = and_then-ok (refuse raw Operator entries)
    (λ _. and_then (refuse raw UnknownPlane entries) (λ _. refuse raw Meaningless entries)) tt is in
    let second = and_then-ok (refuse raw UnknownPlane entries) (λ _. refuse raw Meaningless entries) tt first.1.1 in
    none_breaks raw Meaningless entries second.1.1 entry inside

-- words in the place of layers' names that are taken have no slash, and mean types
pub layers_mean : (raw : RawTech) (words : List (List ℕ)) → check_layers raw words ≡ Ok tt
    → (word : List ℕ) → In word words → (has_slash word ≡ false) × (breaks raw Meaningless word ≡ false)
unfolding check_layers
layers_mean raw words is word inside =
    let first = and_then-ok (refuse raw OperatorOrSlash words) (λ _. refuse raw Meaningless words) tt is in (
      (or_parts (has_operator word) (has_slash word) (none_breaks raw OperatorOrSlash words first.1.0 word inside)).1,
      none_breaks raw Meaningless words first.1.1 word inside,
    )
