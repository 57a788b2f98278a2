-- The nodes of names, found by the places of the names.
use Rattle.vector_files.proofs.Common.{◌≡◌, ◌+◌, ℕ, List, [], ◌∷◌, ◌++◌, refl, sym, ap, ◌∙◌, if◌then◌else◌, Some, zip, list_any, bytes_eq}
use Rattle.vector_files.proofs.Common.{cases_Bool, bytes_eq-Decides, node_named, IsIndexOf}
use Rattle.std.proofs.Common.{Bool, true, false, cond, not, inl, inr, Option, length}
use Rattle.std.proofs.Common.{arith, length-append, suc, one-add}
use Rattle.std.specs.Prelude.{None, nat_lt}
use Rattle.std.specs.List.{position, position_or_len, slice_get}
use Rattle.std.specs.Borrow.{Bor}
use Rattle.std.specs.Option.{option_or, option_copied}
use Rattle.std.specs.Slice.{IsItemAt}
use Rattle.std.proofs.lemmas.Bool.Decides.{nat_tests}
use Rattle.std.proofs.lemmas.Option.{slice_get_past, slice_get_read}
use Rattle.name_index.proofs.FiniteSets.Members.{In-append_left, In-push, In-push_cases}

-- two texts are compared alike either way round
bytes_eq-swap : (a b : List ℕ) → bytes_eq a b ≡ bytes_eq b a
bytes_eq-swap a b = elim (cases_Bool (bytes_eq a b)) [
  | inl same ↦ same ∙ sym ((bytes_eq-Decides b a).1 (sym ((bytes_eq-Decides a b).0 same)))
  | inr other ↦ elim (cases_Bool (bytes_eq b a)) [
    | inl same ↦ let also : bytes_eq a b ≡ true = (bytes_eq-Decides a b).1 (sym ((bytes_eq-Decides b a).0 same)) in also ∙ sym same
    | inr also ↦ other ∙ sym also
  ]
]

neither : (test : Bool) → cond {A = Option ℕ} test None None ≡ None
neither true = refl
neither false = refl

first_place : (n v : ℕ) → cond (nat_lt 0 (suc n)) (Some v) None ≡ Some v
first_place n v = let below : nat_lt 0 (suc n) ≡ true = grind (arith, nat_tests) in ap (λ (t : Bool). cond t (Some v) None) below

below_next : (k n : ℕ) → nat_lt (1 + k) (suc n) ≡ nat_lt k n
below_next k n = grind (arith, nat_tests)

next_place : (k n v : ℕ) (nodes : List ℕ)
    → cond (nat_lt (1 + k) (suc n)) (slice_get (v ∷ nodes) (1 + k)) None ≡ cond (nat_lt k n) (slice_get nodes k) None
next_place k n v nodes =
    ap (λ (t : Bool). cond t (slice_get (v ∷ nodes) (1 + k)) None) (below_next k n)
    ∙ ap (λ (j : ℕ). cond (nat_lt k n) (slice_get (v ∷ nodes) j) None) (one-add k)

-- the node of a name stands at the name's place
named_place : (name : List ℕ) (names : List (List ℕ)) (nodes : List ℕ)
    → node_named (zip names nodes) name
    ≡ cond (nat_lt (position_or_len (bytes_eq name) names) (length names)) (slice_get nodes (position_or_len (bytes_eq name) names)) None
named_place name [] nodes = refl
named_place name (a ∷ names) [] = sym (neither (nat_lt (position_or_len (bytes_eq name) (a ∷ names)) (length (a ∷ names))))
named_place name (a ∷ names) (v ∷ nodes) = elim (cases_Bool (bytes_eq name a)) [
  | inl same ↦ rw (bytes_eq-swap a name, same) (sym (first_place (length names) v))
  | inr other ↦ rw (bytes_eq-swap a name, other) (
      named_place name names nodes
      ∙ sym (next_place (position_or_len (bytes_eq name) names) (length names) v nodes)
      )
]

pub named_found : (name : List ℕ) (names : List (List ℕ)) (nodes : List ℕ) (place : ℕ)
    → Some place ≡ position (bytes_eq name) names → node_named (zip names nodes) name ≡ slice_get nodes place
named_found name names nodes place is =
    let first = position_or_len (bytes_eq name) names in elim (cases_Bool (nat_lt (position_or_len (bytes_eq name) names) (length names))) [
      | inl inside ↦
          let found : Some place ≡ Some first = rw inside at is in
          let same : first ≡ place = cc in
          named_place name names nodes ∙ (ap (λ (t : Bool). cond t (slice_get nodes first) None) inside ∙ ap (slice_get nodes) same)
      | inr past ↦ let found : Some place ≡ None = rw past at is in absurd (let no : ⊥ = cc in no)
    ]

pub named_nowhere : (name : List ℕ) (names : List (List ℕ)) (nodes : List ℕ)
    → None ≡ position (bytes_eq name) names → node_named (zip names nodes) name ≡ None
named_nowhere name names nodes is =
    let first = position_or_len (bytes_eq name) names in elim (cases_Bool (nat_lt (position_or_len (bytes_eq name) names) (length names))) [
      | inl inside ↦ let found : None ≡ Some first = rw inside at is in absurd (let no : ⊥ = cc in no)
      | inr past ↦ named_place name names nodes ∙ ap (λ (t : Bool). cond t (slice_get nodes first) None) past
    ]

-- the node that is read there
pub read_place : (nodes : List ℕ) (place : ℕ) (found : Option (Bor ℕ)) → IsItemAt nodes place found
    → option_copied found ≡ slice_get nodes place
read_place nodes place None is = sym (slice_get_past nodes place is.3)
read_place nodes place (Some x) is = sym (slice_get_read nodes (length nodes) place x.now refl is.3.0 is.1)

-- a name has its first node
named-append : (xs ys : List (List ℕ × ℕ)) (name : List ℕ)
    → node_named (xs ++ ys) name ≡ option_or (node_named xs name) (node_named ys name)
named-append [] ys name = refl
named-append (x ∷ xs) ys name = elim (cases_Bool (bytes_eq x.0 name)) [
  | inl same ↦ rw same refl
  | inr other ↦ rw other (named-append xs ys name)
]

zip-push : (names : List (List ℕ)) (nodes : List ℕ) (a : List ℕ) (v : ℕ) → length names ≡ length nodes
    → zip (names ++ a ∷ []) (nodes ++ v ∷ []) ≡ zip names nodes ++ (a, v) ∷ []
zip-push [] [] a v same = refl
zip-push [] (w ∷ nodes) a v same = absurd (omega arith)
zip-push (b ∷ names) [] a v same = absurd (omega arith)
zip-push (b ∷ names) (w ∷ nodes) a v same = ap (λ pairs. (b, w) ∷ pairs) (zip-push names nodes a v (omega arith))

-- each name that stands there has a node
has_node : (name : List ℕ) (names : List (List ℕ)) (nodes : List ℕ) → length names ≡ length nodes → list_any (bytes_eq name) names ≡ true
    → (v : ℕ) × (node_named (zip names nodes) name ≡ Some v)
has_node name [] nodes same is = absurd (let no : ⊥ = cc in no)
has_node name (a ∷ names) [] same is = absurd (omega arith)
has_node name (a ∷ names) (v ∷ nodes) same is = elim (cases_Bool (bytes_eq name a)) [
  | inl here ↦ (v, rw (bytes_eq-swap a name, here) refl)
  | inr away ↦ let later = has_node name names nodes (omega arith) (rw away at is) in (later.0, rw (bytes_eq-swap a name, away) later.1)
]

pub index_none : IsIndexOf [] [] []
index_none = record { one_node = refl; same = λ name. refl; among = λ x absent. absent }

-- one more name
pub index_more : (names : List (List ℕ)) (nodes : List ℕ) (named : List (List ℕ × ℕ)) (a : List ℕ) (v : ℕ) → IsIndexOf names nodes named
    → IsIndexOf (names ++ a ∷ []) (nodes ++ v ∷ []) (named ++ (a, v) ∷ [])
index_more names nodes named a v is =
    let all = zip-push names nodes a v is.one_node in
    record {
      one_node = simp length-append (omega (arith, is.one_node));
      same = λ name.
          ap (λ pairs. node_named pairs name) all
          ∙ (named-append (zip names nodes) ((a, v) ∷ []) name
          ∙ (ap (λ found. option_or found (node_named ((a, v) ∷ []) name)) (is.same name) ∙ sym (named-append named ((a, v) ∷ []) name)));
      among = λ x h. elim (In-push_cases x (zip names nodes) (a, v) (rw all at h)) [
        | inl before ↦ In-append_left x named ((a, v) ∷ []) (is.among x before)
        | inr last ↦ rw (sym last) (In-push named (a, v))
      ];
    }

still : (name : List ℕ) (named : List (List ℕ × ℕ)) (a : List ℕ) (v w : ℕ) (found : Option ℕ)
    → node_named named a ≡ Some w → node_named named name ≡ found → option_or found (node_named ((a, v) ∷ []) name) ≡ found
still name named a v w (Some u) has is = refl
still name named a v w None has is = elim (cases_Bool (bytes_eq a name)) [
  | inl same ↦
      let one : a ≡ name = (bytes_eq-Decides a name).0 same in
      let also : node_named named a ≡ None = ap (node_named named) one ∙ is in
      absurd (let no : ⊥ = cc in no)
  | inr other ↦ rw other refl
]

-- a name that stands there already
pub index_known : (names : List (List ℕ)) (nodes : List ℕ) (named : List (List ℕ × ℕ)) (a : List ℕ) (v : ℕ)
    → list_any (bytes_eq a) names ≡ true → IsIndexOf names nodes named → IsIndexOf names nodes (named ++ (a, v) ∷ [])
index_known names nodes named a v known is =
    let has = has_node a names nodes is.one_node known in
    record {
      one_node = is.one_node;
      same = λ name.
          is.same name
          ∙ sym (named-append named ((a, v) ∷ []) name ∙ still name named a v has.0 (node_named named name) (sym (is.same a) ∙ has.1) refl);
      among = λ x h. In-append_left x named ((a, v) ∷ []) (is.among x h);
    }

pub index_added : (old new : List (List ℕ)) (nodes : List ℕ) (a : List ℕ) (v : ℕ) (added : Bool) → added ≡ not (list_any (bytes_eq a) old)
    → new ≡ (if list_any (bytes_eq a) old then old else old ++ a ∷ []) → added ≡ true
    → (named : List (List ℕ × ℕ)) → IsIndexOf old nodes named → IsIndexOf new (nodes ++ v ∷ []) (named ++ (a, v) ∷ [])
index_added old new nodes a v added told names was named is = elim (cases_Bool (list_any (bytes_eq a) old)) [
  | inl known ↦ let no_more : added ≡ false = told ∙ ap not known in absurd (let no : ⊥ = cc in no)
  | inr unknown ↦ let are : new ≡ old ++ a ∷ [] = rw unknown at names in rw are (index_more old nodes named a v is)
]

pub index_kept : (old new : List (List ℕ)) (nodes : List ℕ) (a : List ℕ) (v : ℕ) (added : Bool) → added ≡ not (list_any (bytes_eq a) old)
    → new ≡ (if list_any (bytes_eq a) old then old else old ++ a ∷ []) → added ≡ false
    → (named : List (List ℕ × ℕ)) → IsIndexOf old nodes named → IsIndexOf new nodes (named ++ (a, v) ∷ [])
index_kept old new nodes a v added told names was named is = elim (cases_Bool (list_any (bytes_eq a) old)) [
  | inl known ↦ let are : new ≡ old = rw known at names in rw are (index_known old nodes named a v known is)
  | inr unknown ↦ let more : added ≡ true = told ∙ ap not unknown in absurd (let no : ⊥ = cc in no)
]
