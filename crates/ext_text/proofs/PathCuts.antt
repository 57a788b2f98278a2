-- Texts cut at a byte, and paths at the index of their first name.
use Rattle.ext_text.proofs.Common.{◌≡◌, ℕ, ℤ, List, ◌++◌, ap, ◌∙◌, pos, ◌+ℤ◌, ◌-ℤ◌, sym, subst, w128, decimal, before, behind, first_index}
use Rattle.std.proofs.Common.{[], ◌∷◌, append_assoc, arith, w32, w64, FitsSigned}
use Rattle.std.proofs.Common.{◌<◌, ◌^◌}
use mir.Val.{of_z, to_z}
use Rattle.std.specs.Prelude.{Result, Ok, Err}
use Rattle.std.proofs.lemmas.Int.{ints, to_z-of_z}
use Rattle.text_scan.specs.declared.numeral.NumFault.{NumFault}
use Rattle.text_scan.specs.Numbers.{number_of}
use Rattle.text_scan.proofs.DecimalLemmas.{number_of-decimal}
use Rattle.ext_model.specs.declared.names.TheConstants.{SLASH}
use Rattle.ext_model.specs.LawfulArrays.{BeginsIndexed}
use Rattle.ext_model.proofs.IndexedNames.{id_plain, number_comma}
use Rattle.ext_model.proofs.CutLaws.{before-cut, behind-cut}

-- a number of 32 bits is one of 64
wider : (z : ℤ) → FitsSigned w32 z → FitsSigned w64 z
wider z fits = record { sfits = grind (arith, ints) }

-- The index i of the path's first name is this number of 64 bits.
record HasIndex (path : List ℕ) : Type 0 where
  index : ℤ
  fits : FitsSigned w64 index
  read : number_of (before 44 (behind 91 path)) ≡ Ok index

-- where a path begins with an indexed name it has one
index_read : (path : List ℕ) → BeginsIndexed path → HasIndex path
index_read path is =
    let named = is.indexed in
    let more = 44 ∷ (decimal named.j ++ 93 ∷ []) in
    let end = SLASH ∷ is.rest in
    let shape : path ≡ named.id ++ 91 ∷ (decimal named.i ++ (more ++ end)) =
    is.text ∙ ap (λ (name : List ℕ). name ++ end) named.text ∙ append_assoc named.id (91 ∷ (decimal named.i ++ more)) end
    ∙ ap (λ (text : List ℕ). named.id ++ 91 ∷ text) (append_assoc (decimal named.i) more end) in
    let indices = ap (behind 91) shape ∙ behind-cut 91 named.id (decimal named.i ++ (more ++ end)) (id_plain named.id named.id_form) in
    let word = ap (before 44) indices ∙ before-cut 44 (decimal named.i) ((decimal named.j ++ 93 ∷ []) ++ end) (number_comma named.i) in
    let fits = wider named.i named.i_fits in
    record { index = named.i; fits = fits; read = ap number_of word ∙ number_of-decimal named.i fits }

-- what is read there is the index
value_read : (path : List ℕ) (z : ℤ) → number_of (before 44 (behind 91 path)) ≡ Ok z → first_index path ≡ z
value_read path z read = ap (λ (number : Result ℤ NumFault). elim number [ Ok z ↦ z | Err fault ↦ pos 0 ]) read

-- the word that is cut out of such a path is a number
pub index_is_number : (path word : List ℕ) (fault : NumFault) → BeginsIndexed path → word ≡ before 44 (behind 91 path) → number_of word ≡ Err fault → ⊥
index_is_number path word fault is same read =
    let found = index_read path is in
    let both : ◌≡◌ {A = Result ℤ NumFault} (Ok found.index) (Err fault) = sym found.read ∙ (ap number_of (sym same) ∙ read) in
    cc

-- and it is the index
pub index_is : (path word : List ℕ) (index : ℤ) → BeginsIndexed path → word ≡ before 44 (behind 91 path) → number_of word ≡ Ok index
    → to_z w64 (of_z w64 index) ≡ first_index path
index_is path word index is same read =
    let found = index_read path is in
    let here = ap number_of (sym same) ∙ read in
    let both : ◌≡◌ {A = Result ℤ NumFault} (Ok found.index) (Ok index) = sym found.read ∙ here in
    let one : found.index ≡ index = cc in
    to_z-of_z w64 index (subst (λ z. FitsSigned w64 z) one found.fits) ∙ sym (value_read path index here)

-- it has 64 bits
index_fits : (path : List ℕ) → BeginsIndexed path → FitsSigned w64 (first_index path)
index_fits path is =
    let found = index_read path is in
    subst (λ z. FitsSigned w64 z) (sym (value_read path found.index found.read)) found.fits

-- the index as it is handed on
pub index_passed : (path : List ℕ) (index : ℤ) → BeginsIndexed path → index ≡ first_index path → to_z w64 (of_z w64 index) ≡ first_index path
index_passed path index is same = to_z-of_z w64 index (subst (λ z. FitsSigned w64 z) (sym same) (index_fits path is)) ∙ same

-- a number of 128 bits as it is kept
abbrev kept : ℤ → ℤ
kept z = to_z w128 (of_z w128 z)

-- the last index of a row
pub last_index : (path : List ℕ) (lo : ℤ) (count : ℕ) → BeginsIndexed path → lo ≡ first_index path → count < 2 ^ 64
    → kept (kept (kept lo +ℤ kept (pos count)) -ℤ pos 1) ≡ (first_index path +ℤ pos count -ℤ pos 1)
last_index path lo count is same few =
    let low : FitsSigned w64 lo = subst (λ z. FitsSigned w64 z) (sym same) (index_fits path is) in
    let first : kept lo ≡ lo = to_z-of_z w128 lo (record { sfits = grind (arith, ints) }) in
    let many : kept (pos count) ≡ pos count = to_z-of_z w128 (pos count) (record { sfits = grind (arith, ints) }) in
    let behind_row : kept (lo +ℤ pos count) ≡ (lo +ℤ pos count) = to_z-of_z w128 (lo +ℤ pos count) (record { sfits = grind (arith, ints) }) in
    let last : kept (lo +ℤ pos count -ℤ pos 1) ≡ (lo +ℤ pos count -ℤ pos 1) =
    to_z-of_z w128 (lo +ℤ pos count -ℤ pos 1) (record { sfits = grind (arith, ints) }) in
    rw (first, many, behind_row, last) (ap (λ z. z +ℤ pos count -ℤ pos 1) same)

-- and the first one
pub low_index : (path : List ℕ) (lo : ℤ) → BeginsIndexed path → lo ≡ first_index path → kept lo ≡ first_index path
low_index path lo is same =
    let low : FitsSigned w64 lo = subst (λ z. FitsSigned w64 z) (sym same) (index_fits path is) in
    to_z-of_z w128 lo (record { sfits = grind (arith, ints) }) ∙ same
