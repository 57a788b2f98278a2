-- Names of uses and ranges as they are written are read as what they were written from.
use Rattle.ext_reading.proofs.Common.{◌≡◌, ◌⊎◌, ◌<◌, ◌&&◌, ◌||◌, ◌==◌, ℕ, ℤ, pos, Bool, true, false, cond, Option, List, [], ◌∷◌, ◌++◌, Result, Ok}
use Rattle.ext_reading.proofs.Common.{Err, FitsSigned, refl, sym, ap, ◌∙◌, subst, arith, inl, inr, append_assoc, IsTrue, Some, None, ◌-ℤ◌, ◌<ℤ◌}
use Rattle.ext_reading.proofs.Common.{int_lt, nat_le, w32, bytes_eq, list_any, true≢false, nat_tests, ints, list_any_none, bytes_eq-Decides, decimal}
use Rattle.ext_reading.proofs.Common.{and_then, Grid, IsLawful, SLASH, is_use_id, indexed_name, IsIndexed, HasIdForm, is_node_name, before, behind}
use Rattle.ext_reading.proofs.Common.{index_of, first_index, id_plain, number_comma, Lacks, one_cut, before-cut, behind-cut, use_name, row_path}
use Rattle.ext_reading.proofs.Common.{ranged, has_byte, ExtReadFault, BadLine, UseName, ElementRange, is_slash, is_short, is_indexed, numeral_in}
use Rattle.ext_reading.proofs.Common.{Six, span_in, array_in, use_name_in, IsElementRange, range_path, is_range, range_parts, range_of}
use Rattle.std.proofs.Common.{◌+ℤ◌}
use Rattle.std.proofs.lemmas.Bool.{and_from, ne_eqb, false_from_ne_true}
use Rattle.text_scan.proofs.NumberLemmas.{digit_is}
use Rattle.ext_model.proofs.IndexedNames.{id_whole, number_bracket}
use Rattle.ext_model.proofs.TextCuts.{lacks-append, lacks-decimal}
use Rattle.ext_reading.specs.LineForms.{Span}
use Rattle.ext_reading.proofs.ElementIds.{IsElementName}
use Rattle.ext_reading.proofs.RowPaths.{indexed_lacks, range_name, range_path-name, range_name-whole}
use Rattle.ext_reading.proofs.UseNames.{indexed_is, range_is, index_of-decimal, cut_path}
use Rattle.ext_reading.proofs.WrittenPaths.{no_slash, slashed}
use Rattle.ext_reading.proofs.WrittenWords.{numeral_in-short, is_short-fits}

-- the text of a number has no colon and no opening bracket
number_colon : (z : ℤ) → Lacks 58 (decimal z)
number_colon = lacks-decimal 58 (λ byte digit. let is = digit_is byte digit in ne_eqb byte 58 (λ e. omega (arith, is.0, is.1, e))) refl

number_open : (z : ℤ) → Lacks 91 (decimal z)
number_open = lacks-decimal 91 (λ byte digit. let is = digit_is byte digit in ne_eqb byte 91 (λ e. omega (arith, is.0, is.1, e))) refl

-- an id with indices
indexed_from : (word : List ℕ) → IsIndexed word → is_indexed word ≡ true
indexed_from word is =
    let id = is.id in
    let last = decimal is.j ++ 93 ∷ [] in
    let both = decimal is.i ++ 44 ∷ last in
    let inner = ap (behind 91) is.text ∙ behind-cut 91 id both (id_plain id is.id_form) in
    let front : before 91 word ≡ id = ap (before 91) is.text ∙ before-cut 91 id both (id_plain id is.id_form) in
    let i = index_of (before 44 (behind 91 word)) in
    let j = index_of (before 93 (behind 44 (behind 91 word))) in
    let first : i ≡ is.i =
    ap (λ (text : List ℕ). index_of (before 44 text)) inner
    ∙ (ap index_of (before-cut 44 (decimal is.i) last (number_comma is.i)) ∙ index_of-decimal is.i is.i_fits) in
    let second : j ≡ is.j =
    ap (λ (text : List ℕ). index_of (before 93 (behind 44 text))) inner
    ∙ (ap (λ (text : List ℕ). index_of (before 93 text)) (behind-cut 44 (decimal is.i) last (number_comma is.i))
    ∙ (ap index_of (before-cut 93 (decimal is.j) [] (number_bracket is.j)) ∙ index_of-decimal is.j is.j_fits)) in
    let at : List ℕ → ℤ → ℤ → Bool = λ a x y. is_use_id a && is_short x && is_short y && bytes_eq word (indexed_name a x y) in
    let ids = and_from (is_use_id id) (is_short is.i) is.id_form (is_short-fits is.i is.i_fits) in
    let forms = and_from (is_use_id id && is_short is.i) (is_short is.j) ids (is_short-fits is.j is.j_fits) in
    ap (λ (a : List ℕ). at a i j) front
    ∙ (ap (λ (x : ℤ). at id x j) first
    ∙ (ap (at id is.i) second
    ∙ and_from (is_use_id id && is_short is.i && is_short is.j) (bytes_eq word (indexed_name id is.i is.j)) forms
    ((bytes_eq-Decides word (indexed_name id is.i is.j)).1 is.text)))

-- the name of a use without a grid
abbrev alone : List ℕ → UseName
alone id = record { id = id; grid = None }

whole_back : (id : List ℕ) → IsElementName id → use_name_in id ≡ Ok (alone id)
whole_back id is =
    let other = array_in id (before 91 id) (before 93 (behind 91 id)) (before 93 (behind 91 (behind 91 id))) in
    step (is_use_id id) (is_indexed id) other (elim is [ inl one ↦ inl one | inr two ↦ inr (indexed_from id two) ])
  where
    step : (a b : Bool) (other : Result UseName ExtReadFault) → (a ≡ true) ⊎ (b ≡ true) → cond (a || b) (Ok (alone id)) other ≡ Ok (alone id)
    step true b other is = refl
    step false true other is = refl
    step false false other (inl e) = absurd (let wrong : ⊥ = cc in wrong)
    step false false other (inr e) = absurd (let wrong : ⊥ = cc in wrong)

-- the numbers of one direction of a grid
abbrev span_inner : ℤ → ℤ → ℤ → List ℕ
span_inner lo hi sep = decimal lo ++ 58 ∷ (decimal hi ++ 58 ∷ decimal sep)

span_lacks : (mark : ℕ) → (58 == mark) ≡ false → ((z : ℤ) → Lacks mark (decimal z)) → (lo hi sep : ℤ) → Lacks mark (span_inner lo hi sep)
span_lacks mark apart number lo hi sep =
    lacks-append mark (decimal lo) (58 ∷ (decimal hi ++ 58 ∷ decimal sep)) (number lo)
    (apart, lacks-append mark (decimal hi) (58 ∷ decimal sep) (number hi) (apart, number sep))

span_back : (lo hi sep : ℤ) → FitsSigned w32 lo → FitsSigned w32 hi → FitsSigned w32 sep
    → span_in (span_inner lo hi sep) ≡ Ok (Some lo, Some hi, Some sep)
span_back lo hi sep one two three =
    let text = span_inner lo hi sep in
    let rest = behind-cut 58 (decimal lo) (decimal hi ++ 58 ∷ decimal sep) (number_colon lo) in
    let first : numeral_in (before 58 text) ≡ Ok (Some lo) =
    ap numeral_in (before-cut 58 (decimal lo) (decimal hi ++ 58 ∷ decimal sep) (number_colon lo)) ∙ numeral_in-short lo one in
    let second : numeral_in (before 58 (behind 58 text)) ≡ Ok (Some hi) =
    ap (λ (t : List ℕ). numeral_in (before 58 t)) rest
    ∙ (ap numeral_in (before-cut 58 (decimal hi) (decimal sep) (number_colon hi)) ∙ numeral_in-short hi two) in
    let third : numeral_in (behind 58 (behind 58 text)) ≡ Ok (Some sep) =
    ap (λ (t : List ℕ). numeral_in (behind 58 t)) rest
    ∙ (ap numeral_in (behind-cut 58 (decimal hi) (decimal sep) (number_colon hi)) ∙ numeral_in-short sep three) in
    let last = numeral_in (behind 58 (behind 58 text)) in
    ap (λ found. and_then found (λ lo. and_then (numeral_in (before 58 (behind 58 text))) (λ hi. and_then last (λ sep. Ok (lo, hi, sep))))) first
    ∙ (ap (λ found. and_then found (λ hi. and_then last (λ sep. Ok (Some lo, hi, sep)))) second
    ∙ ap (λ found. and_then found (λ sep. Ok (Some lo, Some hi, sep))) third)

-- the numbers of a grid as its name says them
abbrev pub numbers_said : Grid → Six
numbers_said grid = (Some grid.xlo, Some grid.xhi, Some grid.xsep, Some grid.ylo, Some grid.yhi, Some grid.ysep)

array_of : (word id x y : List ℕ) (one two : Span) → (is_use_id id && bytes_eq word (id ++ 91 ∷ (x ++ 93 ∷ 91 ∷ (y ++ 93 ∷ [])))) ≡ true
    → span_in x ≡ Ok one → span_in y ≡ Ok two
    → array_in word id x y ≡ Ok (record { id = id; grid = Some (one.0, one.1, one.2, two.0, two.1, two.2) })
array_of word id x y one two passes first second =
    ap (λ (t : Bool). cond t (and_then (span_in x) (λ x. and_then (span_in y) (λ y. Ok (record { id = id; grid = Some (x.0, x.1, x.2, y.0, y.1, y.2) }))))
    (Err BadLine)) passes
    ∙ (ap (λ found. and_then found (λ x. and_then (span_in y) (λ y. Ok (record { id = id; grid = Some (x.0, x.1, x.2, y.0, y.1, y.2) })))) first
    ∙ ap (λ found. and_then found (λ y. Ok (record { id = id; grid = Some (one.0, one.1, one.2, y.0, y.1, y.2) }))) second)

array_back : (id : List ℕ) (grid : Grid) → IsTrue (is_use_id id) → IsLawful grid
    → use_name_in (use_name id (Some grid)) ≡ Ok (record { id = id; grid = Some (numbers_said grid) })
array_back id grid is lawful =
    let word = use_name id (Some grid) in
    let x = span_inner grid.xlo grid.xhi grid.xsep in
    let y = span_inner grid.ylo grid.yhi grid.ysep in
    let last = y ++ 93 ∷ [] in
    let spans = x ++ 93 ∷ 91 ∷ last in
    let whole : word ≡ id ++ 91 ∷ spans = simp append_assoc in
    let x_bracket = span_lacks 93 refl number_bracket grid.xlo grid.xhi grid.xsep in
    let x_open = span_lacks 91 refl number_open grid.xlo grid.xhi grid.xsep in
    let y_bracket = span_lacks 93 refl number_bracket grid.ylo grid.yhi grid.ysep in
    let front : before 91 word ≡ id = ap (before 91) whole ∙ before-cut 91 id spans (id_plain id is) in
    let inner : behind 91 word ≡ spans = ap (behind 91) whole ∙ behind-cut 91 id spans (id_plain id is) in
    let columns : before 93 (behind 91 word) ≡ x = ap (before 93) inner ∙ before-cut 93 x (91 ∷ last) x_bracket in
    let others : behind 91 (behind 91 word) ≡ last =
    ap (behind 91) (inner ∙ sym (append_assoc x (93 ∷ []) (91 ∷ last)))
    ∙ behind-cut 91 (x ++ 93 ∷ []) last (lacks-append 91 x (93 ∷ []) x_open (refl, tt)) in
    let rows : before 93 (behind 91 (behind 91 word)) ≡ y = ap (before 93) others ∙ before-cut 93 y [] y_bracket in
    let no_id : is_use_id word ≡ false =
    false_from_ne_true (is_use_id word) (λ wrong. has_byte 91 id spans (subst (Lacks 91) whole (id_plain word wrong))) in
    let no_comma : Lacks 44 spans =
    lacks-append 44 x (93 ∷ 91 ∷ last) (span_lacks 44 refl number_comma grid.xlo grid.xhi grid.xsep)
    (refl, (refl, lacks-append 44 y (93 ∷ []) (span_lacks 44 refl number_comma grid.ylo grid.yhi grid.ysep) (refl, tt))) in
    let no_indices : is_indexed word ≡ false =
    false_from_ne_true (is_indexed word) (λ wrong.
    let other = indexed_is word wrong in
    let rest = decimal other.j ++ 93 ∷ [] in
    let same = one_cut 91 id other.id spans (decimal other.i ++ 44 ∷ rest) (id_plain id is) (id_plain other.id other.id_form) (sym whole ∙ other.text) in
    has_byte 44 (decimal other.i) rest (subst (Lacks 44) same.1 no_comma)) in
    let a = before 91 word in
    let b = before 93 (behind 91 word) in
    let c = before 93 (behind 91 (behind 91 word)) in
    let passes = and_from (is_use_id id) (bytes_eq word (id ++ 91 ∷ spans)) is ((bytes_eq-Decides word (id ++ 91 ∷ spans)).1 whole) in
    ap (λ (t : Bool). cond (t || is_indexed word) (Ok (alone word)) (array_in word a b c)) no_id
    ∙ (ap (λ (t : Bool). cond t (Ok (alone word)) (array_in word a b c)) no_indices
    ∙ (ap (λ (t : List ℕ). array_in word t b c) front
    ∙ (ap (λ (t : List ℕ). array_in word id t c) columns
    ∙ (ap (array_in word id x) rows
    ∙ array_of word id x y (Some grid.xlo, Some grid.xhi, Some grid.xsep) (Some grid.ylo, Some grid.yhi, Some grid.ysep) passes
    (span_back grid.xlo grid.xhi grid.xsep lawful.xlo lawful.xhi lawful.xsep)
    (span_back grid.ylo grid.yhi grid.ysep lawful.ylo lawful.yhi lawful.ysep)))))

-- a grid as it is said
abbrev pub grid_said : Option Grid → Option Six
grid_said None = None
grid_said (Some grid) = Some (numbers_said grid)

-- a written name of a use is read back
pub use_name_back : (id : List ℕ) (grid : Option Grid) → HasIdForm grid id → use_name_in (use_name id grid) ≡ Ok (record { id = id; grid = grid_said grid })
use_name_back id None form = whole_back id form
use_name_back id (Some grid) form = array_back id grid form.0 form.1

-- ranges

parts_back : (range : ElementRange) → IsElementRange range → range_parts (range_path range) ≡ range
parts_back range is =
    let path = range_path range in
    let name = range_name range in
    let last = decimal range.j ++ 93 ∷ [] in
    let two = decimal range.hi ++ 44 ∷ last in
    let one = decimal range.lo ++ 58 ∷ two in
    let split = range_path-name range in
    let whole = range_name-whole range is.id in
    let first : before 47 path ≡ name = ap (before 47) split ∙ before-cut 47 name range.rest whole in
    let rest : behind 47 path ≡ range.rest = ap (behind 47) split ∙ behind-cut 47 name range.rest whole in
    let id : before 91 (before 47 path) ≡ range.id = ap (before 91) first ∙ before-cut 91 range.id one (id_plain range.id is.id) in
    let inner : behind 91 (before 47 path) ≡ one = ap (behind 91) first ∙ behind-cut 91 range.id one (id_plain range.id is.id) in
    let others : behind 58 (behind 91 (before 47 path)) ≡ two = ap (behind 58) inner ∙ behind-cut 58 (decimal range.lo) two (number_colon range.lo) in
    let lo : index_of (before 58 (behind 91 (before 47 path))) ≡ range.lo =
    ap (λ (t : List ℕ). index_of (before 58 t)) inner
    ∙ (ap index_of (before-cut 58 (decimal range.lo) two (number_colon range.lo)) ∙ index_of-decimal range.lo is.lo) in
    let hi : index_of (before 44 (behind 58 (behind 91 (before 47 path)))) ≡ range.hi =
    ap (λ (t : List ℕ). index_of (before 44 t)) others
    ∙ (ap index_of (before-cut 44 (decimal range.hi) last (number_comma range.hi)) ∙ index_of-decimal range.hi is.hi) in
    let j : index_of (before 93 (behind 44 (behind 58 (behind 91 (before 47 path))))) ≡ range.j =
    ap (λ (t : List ℕ). index_of (before 93 (behind 44 t))) others
    ∙ (ap (λ (t : List ℕ). index_of (before 93 t)) (behind-cut 44 (decimal range.hi) last (number_comma range.hi))
    ∙ (ap index_of (before-cut 93 (decimal range.j) [] (number_bracket range.j)) ∙ index_of-decimal range.j is.j)) in
    let made : List ℕ → ℤ → ℤ → ℤ → List ℕ → ElementRange = λ a b c d e. record { id = a; lo = b; hi = c; j = d; rest = e } in
    let parts = range_parts path in
    ap (λ (a : List ℕ). made a parts.lo parts.hi parts.j parts.rest) id
    ∙ (ap (λ (b : ℤ). made range.id b parts.hi parts.j parts.rest) lo
    ∙ (ap (λ (c : ℤ). made range.id range.lo c parts.j parts.rest) hi
    ∙ (ap (λ (d : ℤ). made range.id range.lo range.hi d parts.rest) j ∙ ap (made range.id range.lo range.hi range.j) rest)))

is_range-from : (range : ElementRange) → IsElementRange range → is_range (range_path range) range ≡ true
is_range-from range is =
    let path = range_path range in
    let id = is_use_id range.id in
    let one = and_from id (is_short range.lo) is.id (is_short-fits range.lo is.lo) in
    let two = and_from (id && is_short range.lo) (is_short range.hi) one (is_short-fits range.hi is.hi) in
    let three = and_from (id && is_short range.lo && is_short range.hi) (is_short range.j) two (is_short-fits range.j is.j) in
    let four = and_from (id && is_short range.lo && is_short range.hi && is_short range.j) (int_lt range.lo range.hi) three
    (less range.lo range.hi is.upward) in
    and_from (id && is_short range.lo && is_short range.hi && is_short range.j && int_lt range.lo range.hi) (bytes_eq path path) four
    ((bytes_eq-Decides path path).1 refl)
  where
    less : (lo hi : ℤ) → lo <ℤ hi → int_lt lo hi ≡ true
    less lo hi below = grind (arith, ints)

-- the path of a range is read back
pub range_back : (range : ElementRange) → IsElementRange range → range_of (range_path range) ≡ Some range
range_back range is =
    let path = range_path range in
    ap (λ (r : ElementRange). cond (is_range path r) (Some r) None) (parts_back range is)
    ∙ ap (λ (t : Bool). cond t (Some range) None) (is_range-from range is)

-- the written path of a row of more than one merge is that of a range
pub row_path-range : (id : List ℕ) (i j : ℤ) (rest : List ℕ) (count : ℕ) → IsTrue (is_use_id id) → FitsSigned w32 i → 1 < count
    → row_path (indexed_name id i j ++ SLASH ∷ rest) count
    ≡ range_path (record { id = id; lo = i; hi = i +ℤ pos count -ℤ pos 1; j = j; rest = rest })
row_path-range id i j rest count is fits more =
    let path = indexed_name id i j ++ SLASH ∷ rest in
    let cut = cut_path id i j (SLASH ∷ rest) is fits in
    let many : nat_le count 1 ≡ false = grind (arith, nat_tests) in
    let back = behind 44 (behind 91 path) in
    ap (λ (t : Bool). cond t path (ranged path (first_index path) (first_index path +ℤ pos count -ℤ pos 1))) many
    ∙ (ap (λ (k : ℤ). ranged path k (k +ℤ pos count -ℤ pos 1)) cut.index
    ∙ (ap (λ (front : List ℕ). front ++ 91 ∷ (decimal i ++ 58 ∷ (decimal (i +ℤ pos count -ℤ pos 1) ++ 44 ∷ back))) cut.front
    ∙ ap (λ (end : List ℕ). id ++ 91 ∷ (decimal i ++ 58 ∷ (decimal (i +ℤ pos count -ℤ pos 1) ++ 44 ∷ end))) cut.back))

-- the name of an element has no slash
pub name_whole : (name : List ℕ) → IsElementName name → Lacks SLASH name
name_whole name (inl is) = id_whole name is
name_whole name (inr is) = subst (Lacks SLASH) (sym is.text) (indexed_lacks is.id is.i is.j is.id_form)

-- and is not that of a range
no_range_name : (range : ElementRange) → IsTrue (is_use_id range.id) → (name : List ℕ) → IsElementName name → name ≡ range_name range → ⊥
no_range_name range form name (inl is) same =
    has_byte 91 range.id (decimal range.lo ++ 58 ∷ (decimal range.hi ++ 44 ∷ (decimal range.j ++ 93 ∷ []))) (subst (Lacks 91) same (id_plain name is))
no_range_name range form name (inr is) same =
    let last = decimal range.j ++ 93 ∷ [] in
    let two = decimal range.lo ++ 58 ∷ decimal range.hi in
    let inner = one_cut 91 is.id range.id (decimal is.i ++ 44 ∷ (decimal is.j ++ 93 ∷ [])) (decimal range.lo ++ 58 ∷ (decimal range.hi ++ 44 ∷ last))
    (id_plain is.id is.id_form) (id_plain range.id form) (sym is.text ∙ same) in
    let numbers = one_cut 44 (decimal is.i) two (decimal is.j ++ 93 ∷ []) last (number_comma is.i)
    (lacks-append 44 (decimal range.lo) (58 ∷ decimal range.hi) (number_comma range.lo) (refl, number_comma range.hi))
    (inner.1 ∙ sym (append_assoc (decimal range.lo) (58 ∷ decimal range.hi) (44 ∷ last))) in
    has_byte 58 (decimal range.lo) (decimal range.hi) (subst (Lacks 58) numbers.0 (number_colon is.i))

-- The path begins with the name of an element.
pub record BeginsNamed (path : List ℕ) : Type 0 where
  pub name : List ℕ
  pub rest : List ℕ
  pub form : IsElementName name
  pub text : path ≡ name ++ SLASH ∷ rest

-- a path of one merge is no range
pub no_range : (path : List ℕ) → (is_node_name path ≡ true) ⊎ BeginsNamed path → range_of path ≡ None
no_range path is =
    ap (λ (t : Bool). cond t (Some (range_parts path)) None) (false_from_ne_true (is_range path (range_parts path)) (λ wrong. wrong_of is wrong))
  where
    wrong_of : (is_node_name path ≡ true) ⊎ BeginsNamed path → is_range path (range_parts path) ≡ true → ⊥
    wrong_of (inl named) wrong =
        let range = range_parts path in
        let told = range_is path range wrong in
        let there : list_any is_slash path ≡ true =
        ap (list_any is_slash) (told.1 ∙ range_path-name range) ∙ slashed (range_name range) range.rest in
        true≢false (sym there ∙ list_any_none is_slash path (no_slash path named))
    wrong_of (inr begins) wrong =
        let range = range_parts path in
        let told = range_is path range wrong in
        let same = one_cut SLASH begins.name (range_name range) begins.rest range.rest (name_whole begins.name begins.form)
        (range_name-whole range told.0.id) (sym begins.text ∙ (told.1 ∙ range_path-name range)) in
        no_range_name range told.0.id begins.name begins.form same.0
