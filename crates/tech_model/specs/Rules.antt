-- The rules of a technology, and the first that is broken.
use Rattle.std.specs.Prelude.{◌≡◌, ◌==◌, ◌&&◌, not, nat_lt, ℕ, Bool, false, IsTrue, List, length, filter, find, Option, Some, None, Result, Ok, Err, All, map}
use Rattle.std.specs.Prelude.{◌⊎◌}
use Rattle.std.specs.List.{flat_map, range_with_len}
use Rattle.std.specs.Option.{option_map, option_or}
use Rattle.geo_core.specs.FiniteSets.Range.{pairs_of}
use Rattle.tech_model.specs.declared.raw.RawTech.{RawTech}
use Rattle.tech_model.specs.declared.raw.TypeId.{TypeId}
use Rattle.tech_model.specs.declared.faults.TechFault.{TechFault}
use Rattle.tech_model.specs.declared.faults.TechFault.TheVariants.{SameSet, FetTerminal, FetName, NotMonotone, Memory}
use Rattle.tech_model.specs.Forms.{is_fet_name}
use Rattle.tech_model.specs.Types.{is_type, plane_of, parts_of, connects, is_within, type_name}

-- Two types of one plane differ in their sets.
abbrev pub HaveOwnSets : RawTech → Type 0
HaveOwnSets raw = (s t : ℕ) → IsTrue (is_type raw s) → IsTrue (is_type raw t) → plane_of raw s ≡ plane_of raw t → parts_of raw s ≡ parts_of raw t → s ≡ t

-- No transistor's type connects to a type of its own terminals.
abbrev pub FetsAreApart : RawTech → Type 0
FetsAreApart raw = All (λ fet. All (λ t. connects raw fet.kind.0 t.0 ≡ false) fet.terminals) raw.fets

abbrev pub FetsAreNamed : RawTech → Type 0
FetsAreNamed raw = All (λ fet. IsTrue (is_fet_name fet.name)) raw.fets

-- The law of a technology: what connects goes on to connect when either side is widened.
abbrev pub IsMonotone : RawTech → Type 0
IsMonotone raw =
    (s t wide_s wide_t : ℕ) → IsTrue (is_within raw s wide_s) → IsTrue (is_within raw t wide_t)
    → IsTrue (connects raw s t) → IsTrue (connects raw wide_s wide_t)

pub record KeepsRules (raw : RawTech) : Type 0 where
  pub own_sets : HaveOwnSets raw
  pub fets_apart : FetsAreApart raw
  pub fets_named : FetsAreNamed raw
  pub monotone : IsMonotone raw

-- the types other than space, in order
abbrev pub types_of : RawTech → List ℕ
types_of raw = range_with_len 1 (length raw.types)

-- the second type comes after the first, is of its plane and has its set
abbrev pub have_one_set : RawTech → ℕ × ℕ → Bool
have_one_set raw pair = nat_lt pair.0 pair.1 && plane_of raw pair.0 == plane_of raw pair.1 && parts_of raw pair.0 == parts_of raw pair.1

-- The first two types of one plane with one set, by the first of them and then by the second.
abbrev pub same_set_fault : RawTech → Option TechFault
same_set_fault raw =
    option_map (λ pair. SameSet (type_name raw pair.0) (type_name raw pair.1)) (find (have_one_set raw) (pairs_of (types_of raw) (types_of raw)))

-- each transistor's type with each of its terminals
abbrev pub fet_terminals : RawTech → List (TypeId × TypeId)
fet_terminals raw = flat_map (λ fet. map (λ t. (fet.kind, t)) fet.terminals) raw.fets

abbrev pub is_bad_terminal : RawTech → TypeId × TypeId → Bool
is_bad_terminal raw pair = connects raw pair.0.0 pair.1.0

abbrev pub fet_terminal_fault : RawTech → Option TechFault
fet_terminal_fault raw =
    option_map (λ pair. FetTerminal (type_name raw pair.0.0) (type_name raw pair.1.0)) (find (is_bad_terminal raw) (fet_terminals raw))

abbrev pub fet_name_fault : RawTech → Option TechFault
fet_name_fault raw = option_map (λ fet. FetName fet.name) (find (λ fet. not (is_fet_name fet.name)) raw.fets)

abbrev pub are_within : RawTech → ℕ × ℕ → Bool
are_within raw pair = is_within raw pair.0 pair.1

-- each type with each type that it is within, by the first and then by the second
abbrev pub widenings : RawTech → List (ℕ × ℕ)
widenings raw = filter (are_within raw) (pairs_of (types_of raw) (types_of raw))

-- of two types and what they are within, the types connect and what they are within does not
abbrev pub breaks_law : RawTech → (ℕ × ℕ) × (ℕ × ℕ) → Bool
breaks_law raw two = connects raw two.0.0 two.1.0 && not (connects raw two.0.1 two.1.1)

-- The first s, S, t and T, in this order, with s within S, t within T, and s connecting to t but S not to T.
abbrev pub monotone_fault : RawTech → Option TechFault
monotone_fault raw =
    option_map (λ two. NotMonotone (type_name raw two.0.0) (type_name raw two.1.0) (type_name raw two.0.1) (type_name raw two.1.1))
    (find (breaks_law raw) (pairs_of (widenings raw) (widenings raw)))

-- The first rule that is broken: two types with one set, a transistor that connects to its terminal, its name, the law.
abbrev pub rule_fault : RawTech → Option TechFault
rule_fault raw = option_or (same_set_fault raw) (option_or (fet_terminal_fault raw) (option_or (fet_name_fault raw) (monotone_fault raw)))

-- The result tells of this fault, if any, or of want of memory.
abbrev pub Reports : {X : Type 0} → Option TechFault → Result X TechFault → Type 0
Reports fault (Ok x) = fault ≡ None
Reports fault (Err told) = (told ≡ Memory) ⊎ (fault ≡ Some told)
