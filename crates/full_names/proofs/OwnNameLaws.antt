-- The names of a record, one node's after the other's, and then in order.
use Rattle.full_names.proofs.Common.{◌≡◌, ◌⊎◌, ℕ, ◌+◌, ◌<◌, ◌≤◌, Bool, true, false, List, [], ◌∷◌, ◌++◌, Some, filter, length, get_or, take, inl}
use Rattle.full_names.proofs.Common.{inr, refl, sym, ◌∙◌, ap, subst, arith, length-append, slice_get, IsPermutation, IsSorted, flat_map, Ordering}
use Rattle.full_names.proofs.Common.{Less, Equal, Greater, nat_cmp, ordering_then, is_lt, slice_cmp, cases_lt, take_more, append_assoc, take_all}
use Rattle.full_names.proofs.Common.{IsPermutation-sym, slice_get_read, slice_get_within, same_Some, In, In-push_cases, In-permutation}
use Rattle.full_names.proofs.Common.{In-append_left, In-append_right, slice_get-append_left, NodeRec, CellExt, names_of, node_names, OwnName}
use Rattle.full_names.proofs.Common.{RecordNames, is_wanted, is_reached, texts_of, AreOwnNames, HasOwnNames, AreAllNames}
use Rattle.std.proofs.lemmas.List.{append-nil}
use Rattle.std.proofs.lemmas.List.Concat.{flat_map-append}
use Rattle.std.proofs.lemmas.List.Elements.{filter-append}
use Rattle.std.proofs.lemmas.List.Sorted.{IsPermutation-map}
use Rattle.ext_model.proofs.FiniteSets.Places.{slice_get-push_new}
use Rattle.full_names.specs.OwnNames.{IsOfNode, AreRecordNames}
use Rattle.full_names.proofs.Lookups.{sorted_map}

-- the last name of a longer list
pub name_pushed : (before now : List OwnName) (one : OwnName) → now ≡ before ++ one ∷ [] → (name : OwnName) → In name now
    → In name before ⊎ ((name.text.now ≡ one.text.now) × (name.node ≡ one.node))
name_pushed before now one is name here =
    elim (In-push_cases name before one (subst (λ (names : List OwnName). In name names) is here)) [
      | inl old ↦ inl old
      | inr new ↦ inr (ap (λ (n : OwnName). n.text.now) (sym new), ap (λ (n : OwnName). n.node) (sym new))
    ]

-- The names of a node that are of the kind stand behind those before.
pub record AreAdded (global : Bool) (node : ℕ) (texts : List (List ℕ)) (before now : List OwnName) : Type 0 where
  pub texts_are : texts_of now ≡ texts_of before ++ filter (is_wanted global) texts
  pub each : (name : OwnName) → In name now → In name before ⊎ (In name.text.now texts × (name.node ≡ node))

-- Of one text, what adding it ensures.
pub record IsAdded (global : Bool) (node : ℕ) (text : List ℕ) (before now : List OwnName) : Type 0 where
  pub texts_are : texts_of now ≡ texts_of before ++ filter (is_wanted global) (text ∷ [])
  pub each : (name : OwnName) → In name now → In name before ⊎ ((name.text.now ≡ text) × (name.node ≡ node))

pub added_first : (global : Bool) (node : ℕ) (text first : List ℕ) (before now : List OwnName) → text ≡ first → IsAdded global node text before now
    → AreAdded global node (first ∷ []) before now
added_first global node text first before now is one = record {
  texts_are = one.texts_are ∙ ap (λ (t : List ℕ). texts_of before ++ filter (is_wanted global) (t ∷ [])) is;
  each = λ name here. elim (one.each name here) [ inl old ↦ inl old | inr new ↦ inr (inl (sym (new.0 ∙ is)), new.1) ];
}

pub added_more : (global : Bool) (node : ℕ) (texts : List (List ℕ)) (text : List ℕ) (before now later : List OwnName)
    → AreAdded global node texts before now → IsAdded global node text now later → AreAdded global node (texts ++ text ∷ []) before later
added_more global node texts text before now later so_far one = record {
  texts_are = one.texts_are ∙ ap (λ (front : List (List ℕ)). front ++ filter (is_wanted global) (text ∷ [])) so_far.texts_are
      ∙ append_assoc (texts_of before) (filter (is_wanted global) texts) (filter (is_wanted global) (text ∷ []))
      ∙ ap (λ (back : List (List ℕ)). texts_of before ++ back) (sym (filter-append (is_wanted global) texts (text ∷ [])));
  each = λ name here.
      elim (one.each name here) [
        | inl old ↦ (elim (so_far.each name old) [
          | inl first ↦ inl first
          | inr (among, is_node) ↦ inr (In-append_left name.text.now texts (text ∷ []) among, is_node)
        ])
        | inr (is_text, is_node) ↦ inr (In-append_right name.text.now texts (text ∷ []) (inl (sym is_text)), is_node)
      ];
}

-- one alias more
pub added_alias : (global : Bool) (node : ℕ) (first : List ℕ) (aliases : List (List ℕ)) (k : ℕ) (text item : List ℕ) (before now later : List OwnName)
    → k < length aliases → item ≡ get_or aliases k item → text ≡ item → AreAdded global node (first ∷ take k aliases) before now
    → IsAdded global node text now later
    → AreAdded global node (first ∷ take (k + 1) aliases) before later
added_alias global node first aliases k text item before now later within is same so_far one =
    let next : take (k + 1) aliases ≡ take k aliases ++ text ∷ [] = take_more aliases k item within
    ∙ ap (λ (t : List ℕ). take k aliases ++ t ∷ []) (sym (same ∙ is)) in
    subst (λ (texts : List (List ℕ)). AreAdded global node (first ∷ texts) before later) (sym next)
    (added_more global node (first ∷ take k aliases) text before now later so_far one)

-- The names of the first so many nodes that are of the kind.
pub record AreNamesBelow (global : Bool) (ext : CellExt) (end : ℕ) (names : List OwnName) : Type 0 where
  pub texts_are : texts_of names ≡ filter (is_wanted global) (flat_map names_of (take end ext.nodes))
  pub each : (name : OwnName) → In name names → IsOfNode ext name

pub names_none : (global : Bool) (ext : CellExt) (names : List OwnName) → names ≡ [] → AreNamesBelow global ext 0 names
names_none global ext names none = record {
  texts_are = ap texts_of none;
  each = λ name here. absurd (subst (λ (all : List OwnName). In name all) none here);
}

pub names_more : (global : Bool) (ext : CellExt) (k : ℕ) (node : NodeRec) (before now : List OwnName) → k < length ext.nodes
    → node ≡ get_or ext.nodes k node → AreNamesBelow global ext k before → AreAdded global k (names_of node) before now
    → AreNamesBelow global ext (k + 1) now
names_more global ext k node before now within is so_far added =
    let next : take (k + 1) ext.nodes ≡ take k ext.nodes ++ node ∷ [] = take_more ext.nodes k node within
    ∙ ap (λ (n : NodeRec). take k ext.nodes ++ n ∷ []) (sym is) in
    let front = flat_map names_of (take k ext.nodes) in
    let whole : flat_map names_of (take (k + 1) ext.nodes) ≡ front ++ names_of node =
    ap (flat_map names_of) next ∙ flat_map-append names_of (take k ext.nodes) (node ∷ [])
    ∙ ap (λ (back : List (List ℕ)). front ++ back) (append-nil (names_of node)) in
    record {
      texts_are = added.texts_are ∙ ap (λ (t : List (List ℕ)). t ++ filter (is_wanted global) (names_of node)) so_far.texts_are
          ∙ sym (ap (filter (is_wanted global)) whole ∙ filter-append (is_wanted global) front (names_of node));
      each = λ name here.
          elim (added.each name here) [
            | inl old ↦ so_far.each name old
            | inr (among, is_node) ↦ record {
              node = node;
              stands = ap (slice_get ext.nodes) is_node ∙ slice_get_read ext.nodes (length ext.nodes) k node refl within is;
              named = among;
            }
          ];
    }

-- what isn't less by the first two isn't less by the first
pub first_not_less : (first rest : Ordering) → is_lt (ordering_then first rest) ≡ false → is_lt first ≡ false
first_not_less Less rest h = h
first_not_less Equal rest h = refl
first_not_less Greater rest h = refl

pub names_all : (global : Bool) (ext : CellExt) (end : ℕ) (names sorted : List OwnName) → length ext.nodes ≤ end → AreNamesBelow global ext end names
    → IsPermutation names sorted
    → IsSorted (λ (a b : OwnName). ordering_then (slice_cmp nat_cmp a.text.now b.text.now) (nat_cmp a.node b.node)) sorted
    → AreOwnNames global ext sorted
names_all global ext end names sorted past so_far moved in_order =
    let texts : texts_of names ≡ filter (is_wanted global) (node_names ext) = so_far.texts_are
    ∙ ap (λ (nodes : List NodeRec). filter (is_wanted global) (flat_map names_of nodes)) (take_all end ext.nodes past) in
    record {
      moved = subst (λ (front : List (List ℕ)). IsPermutation front (texts_of sorted)) texts
          (IsPermutation-map (λ (name : OwnName). name.text.now) names sorted moved);
      nodes = λ name here. so_far.each name (In-permutation name sorted names (IsPermutation-sym names sorted moved) here);
      in_order = sorted_map (λ (name : OwnName). name.text.now) (λ a b. is_lt (slice_cmp nat_cmp a b)) sorted
          (λ k d low below. first_not_less _ _ (in_order k d low below));
    }

-- The names of the first so many records are known where they are reached.
pub record AreKnownBelow (exts : List CellExt) (reached : List Bool) (end : ℕ) (records : List RecordNames) : Type 0 where
  pub long : length records ≡ end
  pub each : (cell : ℕ) (ext : CellExt) → cell < end → slice_get exts cell ≡ Some ext → is_reached reached cell ≡ true → HasOwnNames records cell ext

pub known_none : (exts : List CellExt) (reached : List Bool) (records : List RecordNames) → records ≡ [] → AreKnownBelow exts reached 0 records
known_none exts reached records none = record { long = ap length none; each = λ cell ext below. absurd (omega arith) }

pub known_more : (exts : List CellExt) (reached : List Bool) (k : ℕ) (ext : CellExt) (marked : Bool) (own : RecordNames) (before now : List RecordNames)
    → k < length exts → ext ≡ get_or exts k ext → marked ≡ is_reached reached k → (marked ≡ true → AreRecordNames ext own) → now ≡ before ++ own ∷ []
    → AreKnownBelow exts reached k before → AreKnownBelow exts reached (k + 1) now
known_more exts reached k ext marked own before now within is marked_is are pushed so_far = record {
  long = let count = ap length pushed ∙ length-append before (own ∷ []) in omega (arith, count, so_far.long);
  each = λ cell other below at reached_is.
      elim (cases_lt cell k) [
        | inl old ↦ (let known = so_far.each cell other old at reached_is in record {
          own = known.own;
          has = ap (λ (records : List RecordNames). slice_get records cell) pushed ∙ slice_get-append_left before (own ∷ []) cell known.own known.has;
          are = known.are;
        })
        | inr here ↦ (let same : cell ≡ k = omega (arith, below, here) in
            let one : ext ≡ other = same_Some ext other (sym (slice_get_read exts (length exts) k ext refl within is) ∙ ap (slice_get exts) (sym same) ∙ at) in
            record {
              own = own;
              has = ap (slice_get now) (same ∙ sym so_far.long) ∙ ap (λ (records : List RecordNames). slice_get records (length before)) pushed
                  ∙ slice_get-push_new before own;
              are = subst (λ (e : CellExt). AreRecordNames e own) one (are (marked_is ∙ ap (is_reached reached) (sym same) ∙ reached_is));
            })
      ];
}

pub known_all : (exts : List CellExt) (reached : List Bool) (end : ℕ) (records : List RecordNames) → end ≡ length exts
    → AreKnownBelow exts reached end records → AreAllNames exts reached records
known_all exts reached end records all so_far = record {
  long = so_far.long ∙ all;
  each = λ cell ext at reached_is. so_far.each cell ext (omega (arith, all, slice_get_within exts cell ext at)) at reached_is;
}
