-- One name after the other, in order, with its label: the nodes that they make.
use Rattle.flatten.proofs.Common.{◌≡◌, ◌≢◌, ℕ, suc, ◌+◌, ◌<◌, ◌≤◌, Bool, true, false, cond, eqb, List, [], ◌∷◌, ◌++◌, length, map, take, get_or, inl}
use Rattle.flatten.proofs.Common.{inr, refl, sym, ◌∙◌, ap, arith, eq-eqb, length-append, Some, slice_get, slice_index, option_map, set, length-set}
use Rattle.flatten.proofs.Common.{cases_Bool, cases_eq, cases_lt, eqb-true, length-map, take_more, append-nil, length-take-le, take_all, get_or-take}
use Rattle.flatten.proofs.Common.{get_or-map-range_with_len, length-map-range_with_len, slice_get_within, slice_get-map, get_or_from_slice_get}
use Rattle.flatten.proofs.Common.{same_Some, slice_get-below, slice_get-push_cases, NodeRec, names_of, Element, group_of, AreNamed}
use Rattle.finite_sets.proofs.Places.{same_by_places}
use Rattle.flatten.specs.NameClasses.Classes.{AreLabels}
use Rattle.flatten.specs.steps.Labels.{groups_of}
use Rattle.flatten.proofs.PlaceLaws.{place_set, place_set_other}

-- The nodes have so many of the names, each those of its label.
pub record AreNamedUpTo (list : List (List ℕ)) (labels : List ℕ) (n : ℕ) (nodes : List NodeRec) : Type 0 where
  pub below : (i : ℕ) → i < n → slice_index labels i < length nodes
  pub used : (k : ℕ) → k < length nodes → (i : ℕ) × ((i < n) × (slice_index labels i ≡ k))
  pub each : (k : ℕ) (node : NodeRec) → slice_get nodes k ≡ Some node → names_of node ≡ group_of (take n list) (take n labels) k

-- a group with one more name
group_push : (names : List (List ℕ)) (labels : List ℕ) (name : List ℕ) (label k : ℕ) → length labels ≡ length names
    → group_of (names ++ name ∷ []) (labels ++ label ∷ []) k ≡ group_of names labels k ++ cond (eqb label k) (name ∷ []) []
group_push [] [] name label k long = refl
group_push [] (l ∷ labels) name label k long = absurd (omega (arith, long))
group_push (n ∷ names) [] name label k long = absurd (omega (arith, long))
group_push (n ∷ names) (l ∷ labels) name label k long =
    let rest = group_push names labels name label k (omega (arith, long)) in
    elim (eqb l k) as (λ t. cond t (n ∷ group_of (names ++ name ∷ []) (labels ++ label ∷ []) k) (group_of (names ++ name ∷ []) (labels ++ label ∷ []) k)
    ≡ cond t (n ∷ group_of names labels k) (group_of names labels k) ++ cond (eqb label k) (name ∷ []) [])
    [ true ↦ ap (λ l. n ∷ l) rest | false ↦ rest ]

-- the group of a label that no name has
group_none : (names : List (List ℕ)) (labels : List ℕ) (k : ℕ) → ((i : ℕ) → i < length labels → slice_index labels i ≢ k) → group_of names labels k ≡ []
group_none [] labels k none = refl
group_none (n ∷ names) [] k none = refl
group_none (n ∷ names) (l ∷ labels) k none = elim (cases_Bool (eqb l k)) [
  | inl same ↦ absurd (none 0 (omega arith) (eqb-true l k same))
  | inr differ ↦ ap (λ (t : Bool). cond t (n ∷ group_of names labels k) (group_of names labels k)) differ
      ∙ group_none names labels k (λ i less. none (suc i) (omega (arith, less)))
]

differ_test : (a b : ℕ) → a ≢ b → eqb a b ≡ false
differ_test a b apart = elim (cases_Bool (eqb a b)) [ inl same ↦ absurd (apart (eqb-true a b same)) | inr differ ↦ differ ]

module _ (list : List (List ℕ)) (labels : List ℕ) (long : length labels ≡ length list) (n : ℕ) (inside : n < length labels) (name : List ℕ)
    (at : slice_get list n ≡ Some name) where
  -- one more name of the groups
  pub one_more : (k : ℕ) → group_of (take (n + 1) list) (take (n + 1) labels) k
      ≡ group_of (take n list) (take n labels) k ++ cond (eqb (slice_index labels n) k) (name ∷ []) []
  one_more k =
      let within : n < length list = omega (arith, long, inside) in
      let is : get_or list n name ≡ name = get_or_from_slice_get list n name name at in
      ap (λ (l : List (List ℕ)). group_of l (take (n + 1) labels) k) (take_more list n name within ∙ ap (λ (z : List ℕ). take n list ++ z ∷ []) is)
      ∙ ap (λ (l : List ℕ). group_of (take n list ++ name ∷ []) l k) (take_more labels n 0 inside)
      ∙ group_push (take n list) (take n labels) name (slice_index labels n) k
      (length-take-le n labels (omega (arith, inside)) ∙ sym (length-take-le n list (omega (arith, within))))

  pub same_group : (k : ℕ) → slice_index labels n ≢ k → group_of (take (n + 1) list) (take (n + 1) labels) k ≡ group_of (take n list) (take n labels) k
  same_group k apart =
      one_more k ∙ ap (λ (t : Bool). group_of (take n list) (take n labels) k ++ cond t (name ∷ []) []) (differ_test (slice_index labels n) k apart)
      ∙ append-nil (group_of (take n list) (take n labels) k)

  pub more_group : group_of (take (n + 1) list) (take (n + 1) labels) (slice_index labels n)
      ≡ group_of (take n list) (take n labels) (slice_index labels n) ++ name ∷ []
  more_group =
      one_more (slice_index labels n)
      ∙ ap (λ (t : Bool). group_of (take n list) (take n labels) (slice_index labels n) ++ cond t (name ∷ []) [])
      (eq-eqb (slice_index labels n) (slice_index labels n) refl)

  -- one more name of a node
  pub scan_alias : (nodes : List NodeRec) → AreNamedUpTo list labels n nodes → (node new : NodeRec) → slice_get nodes (slice_index labels n) ≡ Some node
      → names_of new ≡ names_of node ++ name ∷ [] → AreNamedUpTo list labels (n + 1) (set nodes (slice_index labels n) new)
  scan_alias nodes was node new here more =
      let label = slice_index labels n in
      let many : length (set nodes label new) ≡ length nodes = length-set nodes label new in
      let placed = slice_get_within nodes label node here in
      record {
        below = λ i less. elim (cases_lt i n) [
          | inl before ↦ (let b = was.below i before in omega (arith, b, many))
          | inr past ↦
              (let last : i ≡ n = omega (arith, less, past) in
              let e = ap (slice_index labels) last in
              omega (arith, e, placed, many))
        ];
        used = λ k less. (let r = was.used k (omega (arith, less, many)) in (r.0, (omega (arith, r.1.0), r.1.1)));
        each = λ k one there. elim (cases_eq label k) [
          | inl same ↦
              (let found : slice_get (set nodes label new) label ≡ Some one = ap (slice_get (set nodes label new)) same ∙ there in
              let is : new ≡ one = same_Some new one (sym (place_set nodes label new placed) ∙ found) in
              ap names_of (sym is) ∙ more ∙ ap (λ (l : List (List ℕ)). l ++ name ∷ []) (was.each label node here) ∙ sym more_group
              ∙ ap (group_of (take (n + 1) list) (take (n + 1) labels)) same)
          | inr differ ↦ was.each k one (sym (place_set_other nodes label new k (λ e. differ (sym e))) ∙ there) ∙ sym (same_group k differ)
        ];
      }

  -- the name of a new node
  pub scan_new : (nodes : List NodeRec) → AreNamedUpTo list labels n nodes → slice_index labels n ≡ length nodes → (new : NodeRec)
      → names_of new ≡ name ∷ [] → AreNamedUpTo list labels (n + 1) (nodes ++ new ∷ [])
  scan_new nodes was next new named =
      let label = slice_index labels n in
      let many : length (nodes ++ new ∷ []) ≡ length nodes + 1 = length-append nodes (new ∷ []) in
      record {
        below = λ i less. elim (cases_lt i n) [
          | inl before ↦ (let b = was.below i before in omega (arith, b, many))
          | inr past ↦
              (let last : i ≡ n = omega (arith, less, past) in
              let e = ap (slice_index labels) last in
              omega (arith, e, next, many))
        ];
        used = λ k less. elim (cases_lt k (length nodes)) [
          | inl before ↦ (let r = was.used k before in (r.0, (omega (arith, r.1.0), r.1.1)))
          | inr past ↦ (n, (omega arith, omega (arith, less, many, past, next)))
        ];
        each = λ k one there. elim (slice_get-push_cases nodes new one k there) [
          | inl was_there ↦
              (let within = slice_get_within nodes k one was_there in
              was.each k one was_there ∙ sym (same_group k (λ e. absurd (omega (arith, e, next, within)))))
          | inr now ↦
              (let empty : group_of (take n list) (take n labels) (slice_index labels n) ≡ [] = group_none (take n list) (take n labels) label
              (λ i less. (let r = unused i less in λ e. r e)) in
              ap names_of (sym now.1) ∙ named ∙ ap (λ (l : List (List ℕ)). l ++ name ∷ []) (sym empty) ∙ sym more_group
              ∙ ap (group_of (take (n + 1) list) (take (n + 1) labels)) (next ∙ sym now.0))
        ];
      }
    where
      unused : (i : ℕ) → i < length (take n labels) → slice_index (take n labels) i ≢ slice_index labels n
      unused i less e =
          let many : length (take n labels) ≡ n = length-take-le n labels (omega (arith, inside)) in
          let before : i < n = omega (arith, less, many) in
          let read : slice_index (take n labels) i ≡ slice_index labels i = get_or-take n labels i 0 before in
          let low = was.below i before in
          omega (arith, low, read, e, next)

module _ (elements : List Element) (list : List (List ℕ)) (labels : List ℕ) (count : ℕ) (are : AreLabels elements list labels count) where
  -- a label that no node has yet is the next one
  pub next_label : (n : ℕ) (nodes : List NodeRec) → n < length labels → AreNamedUpTo list labels n nodes → length nodes ≤ slice_index labels n
      → slice_index labels n ≡ length nodes
  next_label n nodes inside was past = elim (cases_lt (length nodes) (slice_index labels n)) [
    | inr no_more ↦ omega (arith, past, no_more)
    | inl more ↦
        (let below : slice_index labels n < count = are.numbered.below n 0 inside in
        let a = are.numbered.used (length nodes) (omega (arith, more, below)) in
        let b = are.numbered.used (slice_index labels n) below in
        let earlier = are.numbered.in_order (length nodes) (slice_index labels n) a.0 b.0 more a.1 b.1 in
        let least = b.1.1 n (inside, refl) in
        let low = was.below a.0 (omega (arith, earlier, least)) in
        let marked = a.1.0 in
        absurd (omega (arith, low, marked.1)))
  ]

  -- all names make all nodes
  pub scan_all : (nodes : List NodeRec) → AreNamedUpTo list labels (length labels) nodes → AreNamed list labels count nodes
  scan_all nodes was =
      let groups = groups_of list labels count in
      let many : length nodes ≡ count = so_many in
      record {
        groups = same_by_places (map names_of nodes) groups
            (length-map nodes names_of ∙ many ∙ sym (length-map-range_with_len (group_of list labels) 0 count))
            (λ k x y p q.
            (let within = slice_get_within (map names_of nodes) k x p in
            let r = slice_get-below nodes k (let long = length-map nodes names_of in omega (arith, within, long)) in
            let inside = slice_get_within nodes k r.0 r.1 in
            same_Some x (names_of r.0) (sym p ∙ slice_get-map names_of nodes k ∙ ap (option_map names_of) r.1) ∙ was.each k r.0 r.1
            ∙ ap (λ (l : List (List ℕ)). group_of l (take (length labels) labels) k)
            (take_all (length labels) list (let long = are.long in omega (arith, long)))
            ∙ ap (λ (l : List ℕ). group_of list l k) (take_all (length labels) labels (omega arith))
            ∙ sym (get_or-map-range_with_len (group_of list labels) 0 count k k [] (omega (arith, inside, many)) (omega arith))
            ∙ get_or_from_slice_get groups k y [] q));
      }
    where
      so_many : length nodes ≡ count
      so_many = elim (cases_lt (length nodes) count) [
        | inl few ↦
            (let a = are.numbered.used (length nodes) few in
            let marked = a.1.0 in
            let low = was.below a.0 marked.0 in
            absurd (omega (arith, low, marked.1)))
        | inr many ↦ (elim (cases_lt count (length nodes)) [
          | inl more ↦
              (let r = was.used count more in
              let low : slice_index labels r.0 < count = are.numbered.below r.0 0 r.1.0 in
              absurd (omega (arith, low, r.1.1)))
          | inr no_more ↦ omega (arith, many, no_more)
        ])
      ]
