-- The last byte of a name, and its kind.
use Rattle.ext_model.proofs.Common.{◌≡◌, ℕ, suc, ◌==◌, Bool, true, false, cond, ◌&&◌, IsTrue, List, [], ◌∷◌, length, refl, sym, ap, ◌∙◌, arith}
use Rattle.ext_model.proofs.Common.{eqb-true, GLOBAL_MARK, GENERATED_MARK, is_node_name, ends_in}
use Rattle.std.proofs.Common.{◌-◌, not, ◌↔◌}
use Rattle.std.proofs.Common.{Option, Some, None, slice_get}
use Rattle.ext_model.specs.declared.names.NameKind.TheVariants.{Global, Label, Generated}
use Rattle.ext_model.specs.NameLaws.{KindsTellGlobalNames}

-- whether what may be the last byte is this one
abbrev pub is_byte : ℕ → Option ℕ → Bool
is_byte byte None = false
is_byte byte (Some last) = last == byte

-- what ends in a byte has it as its last one
pub ends_in-last : (byte : ℕ) (name : List ℕ) → ends_in byte name ≡ is_byte byte (slice_get name (length name - 1))
ends_in-last byte [] = refl
ends_in-last byte (last ∷ []) = refl
ends_in-last byte (first ∷ next ∷ rest) =
    let later : length (first ∷ next ∷ rest) - 1 ≡ suc (length (next ∷ rest) - 1) = omega arith in
    ends_in-last byte (next ∷ rest) ∙ sym (ap (λ (k : ℕ). is_byte byte (slice_get (first ∷ next ∷ rest) k)) later)

-- a text ends in one byte
ends_in_one : (a b : ℕ) (name : List ℕ) → ends_in a name ≡ true → ends_in b name ≡ true → a ≡ b
ends_in_one a b [] p q = cc
ends_in_one a b (last ∷ []) p q = sym (eqb-true last a p) ∙ eqb-true last b q
ends_in_one a b (first ∷ next ∷ rest) p q = ends_in_one a b (next ∷ rest) p q

-- the kind is that of a global name where the name has the form of one
global_by_bytes : (formed global generated : Bool) → formed ≡ true → (global ≡ true → generated ≡ true → ⊥)
    → IsTrue ((formed && not generated) && global) ↔ (cond global Global (cond generated Generated Label) ≡ Global)
global_by_bytes false global generated p apart = cc
global_by_bytes true true true p apart = absurd (apart refl refl)
global_by_bytes true true false p apart = (λ t. refl, λ e. refl)
global_by_bytes true false true p apart = (λ t. cc, λ e. cc)
global_by_bytes true false false p apart = (λ t. cc, λ e. cc)

pub kinds_tell_global_names : KindsTellGlobalNames
kinds_tell_global_names name formed =
    global_by_bytes (is_node_name name) (ends_in GLOBAL_MARK name) (ends_in GENERATED_MARK name) formed
    (λ p q. let e : GLOBAL_MARK ≡ GENERATED_MARK = ends_in_one GLOBAL_MARK GENERATED_MARK name p q in omega arith)
