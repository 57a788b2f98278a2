-- The circuit files of a tree are read to one end.
use Rattle.uniqueness.proofs.Common.{◌≡◌, inl, inr, ◌<◌, ◌≤◌, ℕ, List, [], ◌∷◌, length, sym, ap, ◌∙◌, subst, arith, slice_index_or, cases_lt}
use Rattle.uniqueness.proofs.Common.{get_or_default, get_or_past, length-map, IsLeast, In, IsLeast-unique, Files, FileIsRefused, Reading}
use Rattle.uniqueness.proofs.Common.{ReadingIsOne, All, Stopped, fetched_by, ArrayExt, ExtLoadFault, circuit_files}
use Rattle.use_orders.specs.NewCells.{IsOwnDescendant}
use Rattle.circuit_commands.specs.ExtLoading.declared.faults.ExtLoadFault.TheVariants.{Cycle}
use Rattle.circuit_commands.specs.ExtLoading.Loads.{AreRead, LoadIsRefused, TreeIsRefused, children_in, positions_used}

-- ---- what reading came to

-- all was read
abbrev whole : List ArrayExt → Reading ArrayExt ExtLoadFault
whole read = All read

one_list : (read others : List ArrayExt) → whole read ≡ whole others → read ≡ others
one_list read others same = cc

all_or_stopped : (read others : List ArrayExt) (name : List ℕ) (fault : ExtLoadFault) → All read ≡ Stopped others name fault → ⊥
all_or_stopped read others name fault same = cc

one_stop : (read others : List ArrayExt) (name next : List ℕ) (fault other : ExtLoadFault) → Stopped read name fault ≡ Stopped others next other
    → fault ≡ other
one_stop read others name next fault other same = cc

-- ---- a cell that stands below itself

-- it is one of those whose records were read
is_among : (read : List ArrayExt) (cell : ℕ) → IsOwnDescendant (children_in read) 0 cell → cell < length read
is_among read cell own = elim (cases_lt cell (length read)) [
  | inl within ↦ within
  | inr past ↦ (
      let beyond : length (children_in read) ≤ cell = omega (arith, past, length-map read (positions_used read)) in
      absurd (subst (λ (children : List ℕ). In own.0 children) (get_or_past (children_in read) cell [] beyond) own.1.0.2))
]

-- the first of two numbers, each the least that has a fact
one_least : (Has : ℕ → Type 0) (a b : ℕ) → IsLeast ◌≤◌ Has a → IsLeast ◌≤◌ Has b → a ≡ b
one_least Has a b p q = IsLeast-unique ◌≤◌ Has (λ m n below above. omega (arith, below, above)) a b p q

-- the record at a position of a list, whatever stands beyond it
one_record : (read : List ArrayExt) (cell : ℕ) (ext other : ArrayExt) → cell < length read
    → slice_index_or read cell ext ≡ slice_index_or read cell other
one_record read cell ext other within = get_or_default read cell ext other within

module _ (one_reading : ReadingIsOne ArrayExt ExtLoadFault) (files : Files) (root : List ℕ) where
  -- all files give one list of records
  pub same_read : (read others : List ArrayExt) → AreRead files root read → AreRead files root others → read ≡ others
  same_read read others p q = one_list read others (one_reading circuit_files files [] (root ∷ []) (All read) (All others) p.reads q.reads)

  -- a file that is refused is one
  same_stop : (fetched others : List (List ℕ)) (fault other : ExtLoadFault) → FileIsRefused circuit_files files root fetched fault
      → FileIsRefused circuit_files files root others other → (fetched ≡ others) × (fault ≡ other)
  same_stop fetched others fault other p q =
      let end = one_reading circuit_files files [] (root ∷ []) (Stopped p.read p.name fault) (Stopped q.read q.name other) p.stops q.stops in (
        p.fetched_are ∙ ap (fetched_by circuit_files) end ∙ sym q.fetched_are,
        one_stop p.read q.read p.name q.name fault other end,
      )

  -- a cell that stands below itself is the first in one list of records
  same_cycle : (fetched others : List (List ℕ)) (fault other : ExtLoadFault) → TreeIsRefused files root fetched fault
      → TreeIsRefused files root others other → (fetched ≡ others) × (fault ≡ other)
  same_cycle fetched others fault other p q =
      let end = one_reading circuit_files files [] (root ∷ []) (All p.read) (All q.read) p.reads q.reads in
      let read = one_list p.read q.read end in
      let first = subst (λ (all : List ArrayExt). IsLeast ◌≤◌ (IsOwnDescendant (children_in all) 0) q.cell) (sym read) q.first in
      let cell = one_least (IsOwnDescendant (children_in p.read) 0) p.cell q.cell p.first first in
      let within = is_among p.read p.cell p.first.0 in
      let there : slice_index_or p.read p.cell q.ext ≡ slice_index_or q.read q.cell q.ext =
      ap (λ (all : List ArrayExt). slice_index_or all p.cell q.ext) read ∙ ap (λ (at : ℕ). slice_index_or q.read at q.ext) cell in
      let record_is = one_record p.read p.cell p.ext q.ext within ∙ there in (
        p.fetched_are ∙ ap (fetched_by circuit_files) end ∙ sym q.fetched_are,
        p.is ∙ ap (λ (ext : ArrayExt). Cycle ext.cell) record_is ∙ sym q.is,
      )

  -- a tree is refused for one fault
  pub same_refusal : (fetched others : List (List ℕ)) (fault other : ExtLoadFault) → LoadIsRefused files root fetched fault
      → LoadIsRefused files root others other → (fetched ≡ others) × (fault ≡ other)
  same_refusal fetched others fault other (inl p) (inl q) = same_stop fetched others fault other p q
  same_refusal fetched others fault other (inl p) (inr q) = absurd (all_or_stopped q.read p.read p.name fault
      (one_reading circuit_files files [] (root ∷ []) (All q.read) (Stopped p.read p.name fault) q.reads p.stops))
  same_refusal fetched others fault other (inr p) (inl q) = absurd (all_or_stopped p.read q.read q.name other
      (one_reading circuit_files files [] (root ∷ []) (All p.read) (Stopped q.read q.name other) p.reads q.stops))
  same_refusal fetched others fault other (inr p) (inr q) = same_cycle fetched others fault other p q

  -- and then it is not read
  pub not_both : (read : List ArrayExt) (fetched : List (List ℕ)) (fault : ExtLoadFault) → AreRead files root read → ¬ (LoadIsRefused files root fetched fault)
  not_both read fetched fault p (inl q) =
      all_or_stopped read q.read q.name fault (one_reading circuit_files files [] (root ∷ []) (All read) (Stopped q.read q.name fault) p.reads q.stops)
  not_both read fetched fault p (inr q) =
      let same = one_list read q.read (one_reading circuit_files files [] (root ∷ []) (All read) (All q.read) p.reads q.reads) in
      p.acyclic q.cell (subst (λ (all : List ArrayExt). IsOwnDescendant (children_in all) 0 q.cell) (sym same) q.first.0)
