-- Words and their layers: what a map of words has after a word was put in.
use Rattle.tech_model.proofs.Common.{◌≡◌, ◌≢◌, ◌||◌, ◌+◌, ◌<◌, ℕ, suc, take, get_or, inl, inr, List, [], ◌∷◌, ◌++◌, length, map, Option, Bool, true}
use Rattle.tech_model.proofs.Common.{false, cond, if◌then◌else◌, refl, sym, ap, ◌∙◌, arith, add-zero, Some, None, is_none, option_or, position_from}
use Rattle.tech_model.proofs.Common.{list_any, cases_Bool, bytes_eq, list_any_more, common_steps, layer_in}
use Rattle.std.proofs.Common.{zero-add}
use Rattle.std.proofs.Math.Bool.{or-false}
use Rattle.std.specs.Ordering.{nat_cmp, is_eq, match_ordering}
use Rattle.std.specs.declared.cmp.Ordering.{Ordering}
use Rattle.std.specs.declared.cmp.Ordering.TheVariants.{Less, Equal, Greater}
use Rattle.std.specs.Cmp.Lexicographic.{slice_cmp}
use Rattle.std.specs.BTreeMap.{is_at, insert_entry}
use Rattle.std.specs.Map.{lookup}
use Rattle.std.proofs.lemmas.Map.Text.{is_eq-slice_cmp}
use Rattle.std.proofs.lemmas.Map.Lookups.{exact_bytes}
use Rattle.std.proofs.lemmas.Slice.Eq.{bytes_eq-Decides}
use Rattle.std.proofs.lemmas.List.{take_more, length-take-le}

-- the entries of a map, with the bytes of each key
abbrev pub layer_entries : {K : Type 0} → (K → List ℕ) → List (K × ℕ) → List (List ℕ × ℕ)
layer_entries words entries = map (λ entry. (words entry.0, entry.1)) entries

-- looking an entry up by its key is looking it up by its word
pub lookup-is_at : {K : Type 0} (words : K → List ℕ) (entries : List (K × ℕ)) (word : List ℕ)
    → lookup (is_at (λ (k : K). slice_cmp nat_cmp word (words k))) entries ≡ layer_in (layer_entries words entries) word
lookup-is_at words [] word = refl
lookup-is_at words (e ∷ es) word =
    rw (is_eq-slice_cmp word (words e.0)) (ap (cond (bytes_eq word (words e.0)) (Some e.1)) (lookup-is_at words es word))

-- two tests of one word, of which at most one can hold
swapped_tests : (name key word : List ℕ) → key ≢ name → (layer here : ℕ) (rest : Option ℕ)
    → (if bytes_eq word name then Some here else if bytes_eq word key then Some layer else rest)
    ≡ (if bytes_eq word key then Some layer else if bytes_eq word name then Some here else rest)
swapped_tests name key word differ layer here rest = grind (arith, common_steps, bytes_eq-Decides word name, bytes_eq-Decides word key)

insert_step : {K : Type 0} (words : K → List ℕ) (e : K × ℕ) (es inserted : List (K × ℕ)) (key : K) (layer : ℕ) (word : List ℕ) (o : Ordering)
    → slice_cmp nat_cmp (words key) (words e.0) ≡ o
    → layer_in (layer_entries words inserted) word ≡ (if bytes_eq word (words key) then Some layer else layer_in (layer_entries words es) word)
    → layer_in (layer_entries words (match_ordering o ((key, layer) ∷ e ∷ es) ((e.0, layer) ∷ es) (e ∷ inserted))) word
    ≡ (if bytes_eq word (words key) then Some layer else layer_in (layer_entries words (e ∷ es)) word)
insert_step words e es inserted key layer word Less is rest = refl
insert_step words e es inserted key layer word Equal is rest =
    let same : words key ≡ words e.0 = exact_bytes (words key) (words e.0) is in
    rw same (grind (arith, common_steps))
insert_step words e es inserted key layer word Greater is rest =
    let apart : bytes_eq (words key) (words e.0) ≡ false = sym (is_eq-slice_cmp (words key) (words e.0)) ∙ ap is_eq is in
    let differ : words key ≢ words e.0 = λ same. grind (arith, common_steps, bytes_eq-Decides (words key) (words e.0)) in
    ap (λ (o : Option ℕ). if bytes_eq word (words e.0) then Some e.1 else o) rest
    ∙ swapped_tests (words e.0) (words key) word differ layer e.1 (layer_in (layer_entries words es) word)

-- a key that was put in has its layer, and every other word what it had
pub layer_in-insert_entry : {K : Type 0} (words : K → List ℕ) (entries : List (K × ℕ)) (key : K) (layer : ℕ) (word : List ℕ)
    → layer_in (layer_entries words (insert_entry (λ x y. slice_cmp nat_cmp (words x) (words y)) entries key layer)) word
    ≡ (if bytes_eq word (words key) then Some layer else layer_in (layer_entries words entries) word)
layer_in-insert_entry words [] key layer word = refl
layer_in-insert_entry words (e ∷ es) key layer word =
    insert_step words e es (insert_entry (λ x y. slice_cmp nat_cmp (words x) (words y)) es key layer) key layer word _ refl
    (layer_in-insert_entry words es key layer word)

-- the layer of the first name that was there, or this layer where the word is among the names
abbrev pub layer_or : Option ℕ → Bool → ℕ → Option ℕ
layer_or old is_named layer = option_or old (if is_named then Some layer else None)

-- a name that was new and was put in
pub layer_or-added : (old here : Option ℕ) (is_named same : Bool) (layer : ℕ) → here ≡ layer_or old is_named layer → (same ≡ true → here ≡ None)
    → (if same then Some layer else here) ≡ layer_or old (is_named || same) layer
layer_or-added old here is_named false layer is_here fresh = rw (or-false is_named) is_here
layer_or-added None here false true layer is_here fresh = refl
layer_or-added None here true true layer is_here fresh = refl
layer_or-added (Some other) here false true layer is_here fresh = let e = sym is_here ∙ fresh refl in cc
layer_or-added (Some other) here true true layer is_here fresh = let e = sym is_here ∙ fresh refl in cc

-- a name that was there already
pub layer_or-kept : (old here : Option ℕ) (is_named same : Bool) (layer : ℕ) → here ≡ layer_or old is_named layer → (same ≡ true → is_none here ≡ false)
    → here ≡ layer_or old (is_named || same) layer
layer_or-kept old here is_named false layer is_here there = rw (or-false is_named) is_here
layer_or-kept None here false true layer is_here there = let e = ap is_none (sym is_here) ∙ there refl in cc
layer_or-kept None here true true layer is_here there = is_here
layer_or-kept (Some other) here false true layer is_here there = is_here
layer_or-kept (Some other) here true true layer is_here there = is_here

-- the next name of a layer, which was new and was put in
pub name_added : (before old new : List (List ℕ × ℕ)) (names : List (List ℕ)) (i layer : ℕ) (name word : List ℕ) → i < length names → name ≡ get_or names i name
    → layer_in old word ≡ layer_or (layer_in before word) (list_any (bytes_eq word) (take i names)) layer
    → layer_in old name ≡ None → layer_in new word ≡ (if bytes_eq word name then Some layer else layer_in old word)
    → layer_in new word ≡ layer_or (layer_in before word) (list_any (bytes_eq word) (take (i + 1) names)) layer
name_added before old new names i layer name word inside is_name so_far fresh put =
    let more = list_any_more (bytes_eq word) names i name inside in
    let same : bytes_eq word name ≡ true → layer_in old word ≡ None = λ yes. ap (layer_in old) ((bytes_eq-Decides word name).0 yes) ∙ fresh in
    put ∙ layer_or-added (layer_in before word) (layer_in old word) (list_any (bytes_eq word) (take i names)) (bytes_eq word name) layer so_far same
    ∙ ap (λ (named : Bool). layer_or (layer_in before word) named layer)
    (ap (λ (n : List ℕ). list_any (bytes_eq word) (take i names) || bytes_eq word n) is_name ∙ sym more)

-- the next name of a layer, which was there already
pub name_kept : (before old : List (List ℕ × ℕ)) (names : List (List ℕ)) (i layer : ℕ) (name word : List ℕ) → i < length names → name ≡ get_or names i name
    → layer_in old word ≡ layer_or (layer_in before word) (list_any (bytes_eq word) (take i names)) layer
    → is_none (layer_in old name) ≡ false
    → layer_in old word ≡ layer_or (layer_in before word) (list_any (bytes_eq word) (take (i + 1) names)) layer
name_kept before old names i layer name word inside is_name so_far there =
    let more = list_any_more (bytes_eq word) names i name inside in
    let same : bytes_eq word name ≡ true → is_none (layer_in old word) ≡ false = λ yes.
    ap (λ (n : List ℕ). is_none (layer_in old n)) ((bytes_eq-Decides word name).0 yes) ∙ there in
    layer_or-kept (layer_in before word) (layer_in old word) (list_any (bytes_eq word) (take i names)) (bytes_eq word name) layer so_far same
    ∙ ap (λ (named : Bool). layer_or (layer_in before word) named layer)
    (ap (λ (n : List ℕ). list_any (bytes_eq word) (take i names) || bytes_eq word n) is_name ∙ sym more)

-- one more layer
pub position_from-push : {X : Type 0} (test : X → Bool) (i : ℕ) (xs : List X) (x : X)
    → position_from test i (xs ++ x ∷ []) ≡ layer_or (position_from test i xs) (test x) (i + length xs)
position_from-push test i [] x = ap (λ (n : ℕ). if test x then Some n else None) (sym (add-zero i))
position_from-push test i (y ∷ ys) x =
    let rest = position_from-push test (i + 1) ys x in
    let place : i + 1 + length ys ≡ i + suc (length ys) = omega arith in
    elim (cases_Bool (test y)) [
      | inl passes ↦ rw passes refl
      | inr fails ↦ rw fails (rest ∙ ap (layer_or (position_from test (i + 1) ys) (test x)) place)
    ]

-- the next layer, whose names were put in
pub layer_added : {X : Type 0} (test : X → Bool) (xs : List X) (i : ℕ) (x : X) (before : Option ℕ) → i < length xs → x ≡ get_or xs i x
    → before ≡ position_from test 0 (take i xs) → layer_or before (test x) i ≡ position_from test 0 (take (i + 1) xs)
layer_added test xs i x before inside is_x so_far =
    let long : i ≡ length (take i xs) = sym (length-take-le i xs (omega arith)) in
    ap (λ (o : Option ℕ). layer_or o (test x) i) so_far
    ∙ ap (layer_or (position_from test 0 (take i xs)) (test x)) (long ∙ sym (zero-add (length (take i xs))))
    ∙ sym (position_from-push test 0 (take i xs) x)
    ∙ ap (position_from test 0) (ap (λ y. take i xs ++ y ∷ []) is_x ∙ sym (take_more xs i x inside))
