-- Ids and the names of elements: where each is cut, and what it tells.
use Rattle.element_index.proofs.Common.{◌≡◌, ℕ, ℤ, List, [], ◌∷◌, ◌++◌, Bool, length, refl, sym, ap, ◌∙◌, subst, arith, length-append, position}
use Rattle.element_index.proofs.Common.{slice_get, Some, None, list_any, bytes_eq, slice_get-get_or, slice_get_within, get_or_from_slice_get}
use Rattle.element_index.proofs.Common.{bytes_eq-Decides, decimal, In, In-get_or, indexed_name, stands_nowhere}
use Rattle.std.proofs.Common.{if◌then◌else◌}
use Rattle.std.proofs.lemmas.Bool.{eq-eqb, ne_eqb, true≢false}
use Rattle.std.proofs.Math.Seq.{get_or-append_seam}
use Rattle.text_scan.proofs.NumberLemmas.{digit_is}
use Rattle.finite_sets.proofs.Searches.{list_any-of_absent}
use Rattle.ext_model.proofs.TextCuts.{Lacks, lacks-append, lacks-decimal}

-- a text in which the byte stands does not lack it
pub has_byte : (byte : ℕ) (text rest : List ℕ) → Lacks byte (text ++ byte ∷ rest) → ⊥
has_byte byte [] rest lacks = true≢false (sym (eq-eqb byte byte refl) ∙ lacks.0)
has_byte byte (first ∷ text) rest lacks = has_byte byte text rest lacks.1

-- where the byte stands once in a text, both cuts at it are one
pub only_cut : (byte : ℕ) (text other rest more : List ℕ) → Lacks byte other → Lacks byte more → text ++ byte ∷ rest ≡ other ++ byte ∷ more
    → text ≡ other
only_cut byte [] [] rest more before behind same = refl
only_cut byte [] (first ∷ other) rest more before behind same =
    let e : byte ≡ first = cc in absurd (true≢false (sym (eq-eqb first byte (sym e)) ∙ before.0))
only_cut byte (first ∷ text) [] rest more before behind same =
    let e : more ≡ text ++ byte ∷ rest = cc in absurd (has_byte byte text rest (subst (Lacks byte) e behind))
only_cut byte (first ∷ text) (second ∷ other) rest more before behind same =
    let e : first ≡ second = cc in
    let f : text ++ byte ∷ rest ≡ other ++ byte ∷ more = cc in
    ap (λ (head : ℕ). head ∷ text) e ∙ ap (λ (tail : List ℕ). second ∷ tail) (only_cut byte text other rest more before.1 behind f)

-- the indices behind an id have no opening bracket
pub indices_plain : (i j : ℤ) → Lacks 91 (decimal i ++ 44 ∷ (decimal j ++ 93 ∷ []))
indices_plain i j =
    lacks-append 91 (decimal i) (44 ∷ (decimal j ++ 93 ∷ [])) (number_plain i) (refl, lacks-append 91 (decimal j) (93 ∷ []) (number_plain j) (refl, tt))
  where
    number_plain : (z : ℤ) → Lacks 91 (decimal z)
    number_plain = lacks-decimal 91 (λ byte digit. let is = digit_is byte digit in ne_eqb byte 91 (λ e. omega (arith, is.0, is.1, e))) refl

-- an id is no name with indices
pub whole_or_indexed : (id other : List ℕ) (i j : ℤ) → Lacks 91 id → id ≡ indexed_name other i j → ⊥
whole_or_indexed id other i j plain same =
    has_byte 91 other (decimal i ++ 44 ∷ (decimal j ++ 93 ∷ [])) (subst (Lacks 91) same plain)

-- an id that is new comes behind the others
pub new_id : (ids more : List (List ℕ)) (id : List ℕ) → position (bytes_eq id) ids ≡ None
    → more ≡ (if list_any (bytes_eq id) ids then ids else ids ++ id ∷ []) → more ≡ ids ++ id ∷ []
new_id ids more id none is =
    is ∙ ap (λ (known : Bool). if known then ids else ids ++ id ∷ []) (list_any-of_absent bytes_eq bytes_eq-Decides id ids (stands_nowhere ids id none))

-- and has the number of those before it
pub last_id : (ids : List (List ℕ)) (id : List ℕ) → slice_get (ids ++ id ∷ []) (length ids) ≡ Some id
last_id ids id =
    slice_get-get_or (ids ++ id ∷ []) (length ids) [] (omega (arith, length-append ids (id ∷ []))) ∙ ap Some (get_or-append_seam ids id [] [])

-- an id of a number is one of the ids
pub there_In : (ids : List (List ℕ)) (id : List ℕ) (number : ℕ) → slice_get ids number ≡ Some id → In id ids
there_In ids id number at =
    subst (λ (one : List ℕ). In one ids) (get_or_from_slice_get ids number id [] at) (In-get_or ids number [] (slice_get_within ids number id at))
