-- What the name of a use and the path of a range tell, and the names of the elements of a range.
use Rattle.ext_reading.proofs.Common.{◌≡◌, ◌&&◌, ◌||◌, ℕ, zero, suc, ℤ, pos, Bool, true, false, cond, Option, List, [], ◌∷◌, ◌++◌, Result, Ok, Err}
use Rattle.ext_reading.proofs.Common.{FitsSigned, refl, sym, ap, ◌∙◌, arith, inl, inr, append_assoc, IsTrue, Some, None, int_lt, ◌<ℤ◌, w32, bytes_eq}
use Rattle.ext_reading.proofs.Common.{and_parts, ints, bytes_eq-Decides, decimal, is_use_id, indexed_name, IsIndexed, before, behind, index_of}
use Rattle.ext_reading.proofs.Common.{first_index, raised, id_plain, number_comma, before-cut, behind-cut, ExtReadFault, BadLine, One, Two, Other}
use Rattle.ext_reading.proofs.Common.{UseName, ElementRange, is_short, is_indexed, HasNameForm, span_in, array_in, use_name_in, IsElementRange}
use Rattle.ext_reading.proofs.Common.{range_path, is_range, range_parts, range_of, range_in}
use Rattle.std.proofs.Common.{◌+ℤ◌}
use Rattle.std.specs.Int.{w64}
use Rattle.text_scan.proofs.DecimalLemmas.{number_of-decimal}
use Rattle.ext_reading.specs.declared.lines.Version as lines
use Rattle.ext_reading.proofs.Outcomes.{OkHas, given_has, passed_has}

-- a number in its range
pub short_fits : (z : ℤ) → is_short z ≡ true → FitsSigned w32 z
short_fits z is = grind (arith, ints)

pub wider : (z : ℤ) → FitsSigned w32 z → FitsSigned w64 z
wider z fits = grind (arith, ints)

-- an id with two indices
pub indexed_is : (word : List ℕ) → is_indexed word ≡ true → IsIndexed word
indexed_is word is =
    let id = before 91 word in
    let i = index_of (before 44 (behind 91 word)) in
    let j = index_of (before 93 (behind 44 (behind 91 word))) in
    let all = and_parts (is_use_id id && is_short i && is_short j) (bytes_eq word (indexed_name id i j)) is in
    let two = and_parts (is_use_id id && is_short i) (is_short j) all.0 in
    let one = and_parts (is_use_id id) (is_short i) two.0 in
    record {
      id = id;
      i = i;
      j = j;
      id_form = one.0;
      i_fits = short_fits i one.1;
      j_fits = short_fits j two.1;
      text = (bytes_eq-Decides word (indexed_name id i j)).0 all.1;
    }

-- the name of a use has its form
abbrev pub IsNamed : UseName → Type 0
IsNamed name = HasNameForm name.grid name.id

whole_named : (word : List ℕ) (other : Result UseName ExtReadFault) (a b : Bool) → is_use_id word ≡ a → is_indexed word ≡ b → OkHas IsNamed other
    → OkHas IsNamed (cond (a || b) (Ok (record { id = word; grid = None })) other)
whole_named word other true b one two has = inl one
whole_named word other false true one two has = inr (indexed_is word two)
whole_named word other false false one two has = has

array_named : (word id x y : List ℕ) → OkHas IsNamed (array_in word id x y)
array_named word id x y =
    let same = bytes_eq word (id ++ 91 ∷ (x ++ 93 ∷ 91 ∷ (y ++ 93 ∷ []))) in
    passed_has IsNamed (is_use_id id && same) _ BadLine (λ both.
    given_has IsNamed (span_in x) _ (λ one e1.
    given_has IsNamed (span_in y) _ (λ two e2. (and_parts (is_use_id id) same both).0)))

pub use_name-formed : (word : List ℕ) → OkHas IsNamed (use_name_in word)
use_name-formed word =
    let x = before 93 (behind 91 word) in
    let y = before 93 (behind 91 (behind 91 word)) in
    whole_named word (array_in word (before 91 word) x y) (is_use_id word) (is_indexed word) refl refl (array_named word (before 91 word) x y)

-- a path that is a range
pub range_is : (path : List ℕ) (range : ElementRange) → is_range path range ≡ true → IsElementRange range × (path ≡ range_path range)
range_is path range is =
    let id = is_use_id range.id in
    let all = and_parts (id && is_short range.lo && is_short range.hi && is_short range.j && int_lt range.lo range.hi) (bytes_eq path (range_path range)) is in
    let four = and_parts (id && is_short range.lo && is_short range.hi && is_short range.j) (int_lt range.lo range.hi) all.0 in
    let three = and_parts (id && is_short range.lo && is_short range.hi) (is_short range.j) four.0 in
    let two = and_parts (id && is_short range.lo) (is_short range.hi) three.0 in
    let one = and_parts id (is_short range.lo) two.0 in (
      record {
        id = one.0;
        lo = short_fits range.lo one.1;
        hi = short_fits range.hi two.1;
        j = short_fits range.j three.1;
        upward = below range.lo range.hi four.1;
      },
      (bytes_eq-Decides path (range_path range)).0 all.1,
    )
  where
    below : (lo hi : ℤ) → int_lt lo hi ≡ true → lo <ℤ hi
    below lo hi less = grind (arith, ints)

pub range_of-is : (path : List ℕ) (range : ElementRange) → range_of path ≡ Some range → IsElementRange range × (path ≡ range_path range)
range_of-is path range e = step (is_range path (range_parts path)) refl e
  where
    step : (t : Bool) → is_range path (range_parts path) ≡ t → cond t (Some (range_parts path)) None ≡ Some range
        → IsElementRange range × (path ≡ range_path range)
    step true is e =
        let same : range_parts path ≡ range = cc in
        range_is path range (ap (is_range path) (sym same) ∙ is)
    step false is e = absurd (let no : ⊥ = cc in no)

pub range_in-is : (version : Option lines.Version) (path : List ℕ) (range : ElementRange) → range_in version path ≡ Some range
    → IsElementRange range × (path ≡ range_path range)
range_in-is (Some Two) path range e = range_of-is path range e
range_in-is _ path range e = absurd (let no : ⊥ = cc in no)

-- the number that its text writes
pub index_of-decimal : (z : ℤ) → FitsSigned w32 z → index_of (decimal z) ≡ z
index_of-decimal z fits = ap (λ found. elim found [ Ok n ↦ n | Err fault ↦ pos 0 ]) (number_of-decimal z (wider z fits))

-- a path whose first name is an id with indices, cut at its marks
pub record IsCut (path id : List ℕ) (i : ℤ) (behind_index : List ℕ) : Type 0 where
  pub front : before 91 path ≡ id
  pub index : first_index path ≡ i
  pub back : behind 44 (behind 91 path) ≡ behind_index

pub cut_path : (id : List ℕ) (i j : ℤ) (rest : List ℕ) → IsTrue (is_use_id id) → FitsSigned w32 i
    → IsCut (indexed_name id i j ++ rest) id i (decimal j ++ 93 ∷ rest)
cut_path id i j rest is fits =
    let last = decimal j ++ 93 ∷ rest in
    let whole : indexed_name id i j ++ rest ≡ id ++ 91 ∷ (decimal i ++ 44 ∷ last) = simp append_assoc in
    let inner = ap (behind 91) whole ∙ behind-cut 91 id (decimal i ++ 44 ∷ last) (id_plain id is) in
    record {
      front = ap (before 91) whole ∙ before-cut 91 id (decimal i ++ 44 ∷ last) (id_plain id is);
      index = ap (λ (text : List ℕ). index_of (before 44 text)) inner
          ∙ (ap index_of (before-cut 44 (decimal i) last (number_comma i)) ∙ index_of-decimal i fits);
      back = ap (behind 44) inner ∙ behind-cut 44 (decimal i) last (number_comma i);
    }

-- a path of a row is the first one with a greater index
pub raised-is : (id : List ℕ) (i j : ℤ) (rest : List ℕ) → IsTrue (is_use_id id) → FitsSigned w32 i → (n : ℕ)
    → raised (indexed_name id i j ++ rest) n ≡ indexed_name id (i +ℤ pos n) j ++ rest
raised-is id i j rest is fits zero = ap (λ (k : ℤ). indexed_name id k j ++ rest) (none_more i)
  where
    none_more : (z : ℤ) → z ≡ z +ℤ pos 0
    none_more z = omega (arith, ints)
raised-is id i j rest is fits (suc n) =
    let cut = cut_path id i j rest is fits in
    let path = indexed_name id i j ++ rest in
    let next = i +ℤ pos (suc n) in
    let joined : id ++ 91 ∷ (decimal next ++ 44 ∷ (decimal j ++ 93 ∷ rest)) ≡ indexed_name id next j ++ rest = simp append_assoc in
    ap (λ (front : List ℕ). front ++ 91 ∷ (decimal (first_index path +ℤ pos (suc n)) ++ 44 ∷ behind 44 (behind 91 path))) cut.front
    ∙ (ap (λ (k : ℤ). id ++ 91 ∷ (decimal (k +ℤ pos (suc n)) ++ 44 ∷ behind 44 (behind 91 path))) cut.index
    ∙ (ap (λ (back : List ℕ). id ++ 91 ∷ (decimal next ++ 44 ∷ back)) cut.back ∙ joined))
