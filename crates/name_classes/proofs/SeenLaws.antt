-- Records whose links are made when their first element is met.
use Rattle.name_classes.proofs.Common.{◌≡◌, ◌<◌, ◌+◌, ℕ, zero, suc, Bool, true, false, inl, inr, List, length, refl, sym, ◌∙◌, ap, subst, arith}
use Rattle.name_classes.proofs.Common.{Some, None, slice_get, cases_lt, slice_get_within, slice_get-In, slice_get-one, CellExt, FlatFault, Element}
use Rattle.name_classes.proofs.Common.{TreeElement, FullNames, AreNames, IsElement, elements_in, RecordLinks, AreLinksOf, HasLinks, AreAllLinks}
use Rattle.name_classes.proofs.Common.{IsMergeFault, IsPathFaultOf}
use Rattle.std.proofs.Common.{Vec}
use Rattle.std.proofs.Common.{Global}
use Rattle.std.specs.Prelude.{slice_set, replicate}
use Rattle.std.proofs.lemmas.Bool.{cases_eq}
use Rattle.std.proofs.lemmas.List.{length-set, with_items_is}
use Rattle.std.specs.Vec.{with_items}
use Rattle.partition.proofs.FiniteSets.Places.{slice_get-set_same, slice_get-set_other, slice_get-In_take}
use Rattle.partition.proofs.FiniteSets.Firsts.{first_some-none, first_some-at}
use Rattle.circuit_model.specs.Refusals.{first_fault, merge_fault, element_fault}
use Rattle.name_classes.specs.Classes.{HasNoPathFault}
use Rattle.name_classes.proofs.ListLaws.{at_place}
use Rattle.name_classes.proofs.TreeLaws.{tree_of_names, element_at, record_of}
use Rattle.name_classes.proofs.FaultLaws.{one_record, merges_sound}

-- The links of the records that are seen are there, and those of the first elements are seen.
pub record AreSeen (names : FullNames) (upto : ℕ) (seen : List Bool) (all : List RecordLinks) : Type 0 where
  pub long : length all ≡ length names.exts.now
  pub long_seen : length seen ≡ length names.exts.now
  pub before : (number : ℕ) (flat : TreeElement) → number < upto → slice_get names.tree.now.elements number ≡ Some flat
      → slice_get seen flat.cell ≡ Some true
  pub links : (cell : ℕ) → slice_get seen cell ≡ Some true → HasLinks names all cell

none_seen : (n cell : ℕ) → slice_get (replicate n false) cell ≡ Some true → ⊥
none_seen zero cell is = cc
none_seen (suc n) zero is = cc
none_seen (suc n) (suc cell) is = none_seen n cell is

-- the record of an element is that of its links
pub record_here : (names : FullNames) → AreNames names → (all : List RecordLinks) (number : ℕ) (element : Element) (flat : TreeElement)
    → IsElement names number element flat → (has : HasLinks names all flat.cell) → has.are.ext ≡ element.ext
record_here names are all number element flat stands has =
    let own = record_of names are number element flat stands in
    let record_ : slice_get names.exts.now has.first.cell ≡ Some element.ext =
    subst (λ (n : ℕ). slice_get names.exts.now n ≡ Some element.ext) (sym has.same) own in
    sym (one_record names has.links.element has.are.ext has.are.at has.first element.ext has.starts record_)

module _ (names : FullNames) (are : AreNames names) where
  -- before the first element nothing is seen
  pub seen_start : (seen : List Bool) (all : List RecordLinks) → seen ≡ replicate (length names.exts.now) false → length seen ≡ length names.exts.now
      → length all ≡ length names.exts.now → AreSeen names 0 seen all
  seen_start seen all fresh long_seen long = record {
    long = long;
    long_seen = long_seen;
    before = λ number flat below stands. absurd (omega arith);
    links = λ cell is. absurd (none_seen (length names.exts.now) cell (subst (λ (s : List Bool). slice_get s cell ≡ Some true) fresh is));
  }

  -- one more element whose record is seen
  pub seen_next : (number : ℕ) (flat : TreeElement) → slice_get names.tree.now.elements number ≡ Some flat → (seen : List Bool) (all : List RecordLinks)
      → AreSeen names number seen all → slice_get seen flat.cell ≡ Some true → AreSeen names (number + 1) seen all
  seen_next number flat stands seen all sees is = record {
    long = sees.long;
    long_seen = sees.long_seen;
    before = λ k other below there. elim (cases_lt k number) [
      | inl less ↦ sees.before k other less there
      | inr more ↦
          let last : k ≡ number = omega arith in
          let same : flat ≡ other = slice_get-one names.tree.now.elements number flat other stands
          (subst (λ (n : ℕ). slice_get names.tree.now.elements n ≡ Some other) last there) in
          subst (λ (f : TreeElement). slice_get seen f.cell ≡ Some true) same is
    ];
    links = sees.links;
  }

  -- the record of an element is seen
  pub seen_set : (number : ℕ) (flat : TreeElement) → slice_get names.tree.now.elements number ≡ Some flat → (seen : List Bool) (all : List RecordLinks)
      → AreSeen names number seen all → flat.cell < length names.exts.now → (links : RecordLinks) → links.element ≡ number → AreLinksOf names links
      → AreSeen names (number + 1) (slice_set seen flat.cell true) (slice_set all flat.cell links)
  seen_set number flat stands seen all sees within links of are_links =
      let here : slice_get (slice_set seen flat.cell true) flat.cell ≡ Some true =
      slice_get-set_same seen flat.cell true (omega (arith, sees.long_seen, within)) in
      let marked : AreSeen names number (slice_set seen flat.cell true) (slice_set all flat.cell links) = record {
        long = length-set all flat.cell links ∙ sees.long;
        long_seen = length-set seen flat.cell true ∙ sees.long_seen;
        before = λ k other below there. elim (cases_eq other.cell flat.cell) [
          | inl same ↦ subst (λ (n : ℕ). slice_get (slice_set seen flat.cell true) n ≡ Some true) (sym same) here
          | inr apart ↦ slice_get-set_other seen flat.cell other.cell true apart ∙ sees.before k other below there
        ];
        links = λ cell is. elim (cases_eq cell flat.cell) [
          | inl same ↦ subst (λ (n : ℕ). HasLinks names (slice_set all flat.cell links) n) (sym same) (record {
            links = links;
            first = flat;
            found = slice_get-set_same all flat.cell links (omega (arith, sees.long, within));
            starts = subst (λ (n : ℕ). slice_get names.tree.now.elements n ≡ Some flat) (sym of) stands;
            same = refl;
            are = are_links;
          })
          | inr apart ↦
              let old = sees.links cell (sym (slice_get-set_other seen flat.cell cell true apart) ∙ is) in record {
                links = old.links;
                first = old.first;
                found = slice_get-set_other all flat.cell cell links apart ∙ old.found;
                starts = old.starts;
                same = old.same;
                are = old.are;
              }
        ];
      } in
      seen_next number flat stands (slice_set seen flat.cell true) (slice_set all flat.cell links) marked here

  -- after the last element all records are seen
  pub seen_end : (upto : ℕ) → length names.tree.now.elements ≡ upto → (seen : List Bool) (all : List RecordLinks) → AreSeen names upto seen all
      → AreAllLinks names all
  seen_end upto so_many seen all sees = record {
    long = sees.long;
    each = λ number flat stands.
        (let within = slice_get_within names.tree.now.elements number flat stands in
        sees.links flat.cell (sees.before number flat (omega (arith, within, so_many)) stands));
  }

  -- an element whose record has links has no fault
  links_sound : (all : List RecordLinks) (number : ℕ) (element : Element) (flat : TreeElement) → IsElement names number element flat
      → HasLinks names all flat.cell → element_fault names.exts.now element ≡ None
  links_sound all number element flat stands has =
      let ext = has.are.ext in
      let same = record_here names are all number element flat stands has in
      subst (λ (e : CellExt). first_fault (merge_fault names.exts.now e) e.merges ≡ None) same
      (first_some-none (merge_fault names.exts.now ext) ext.merges
      (merges_sound names has.links.element ext has.are.at ext.merges has.links.merges.items has.are.merges))

  -- the first element whose record has a fault
  pub seen_fault : (number : ℕ) → number < length names.tree.now.elements → (seen : List Bool) (all : List RecordLinks) → AreSeen names number seen all
      → (fault : FlatFault) → IsMergeFault names number fault → IsPathFaultOf names fault
  seen_fault number within seen all sees fault faulty =
      let element = element_at names are number faulty.at.flat faulty.at.stands in
      let own = record_of names are number element.0 faulty.at.flat element.1 in
      let same : element.0.ext ≡ faulty.ext = slice_get-one names.exts.now faulty.at.flat.cell element.0.ext faulty.ext own faulty.at.record_ in
      let fails : element_fault names.exts.now element.0 ≡ Some fault =
      subst (λ (e : CellExt). first_fault (merge_fault names.exts.now e) e.merges ≡ Some fault) (sym same) faulty.faulty in
      first_some-at (element_fault names.exts.now) (elements_in names) number element.0 fault element.1.are.is
      (λ other before. (
      let place = slice_get-In_take (elements_in names) number other before in
      let flat = at_place names.tree.now.elements (elements_in names) place.0 other (sym (tree_of_names names are).long) place.1.1 in
      let stands : IsElement names place.0 other flat.0 = record { are = record { is = place.1.1; has = flat.1 } } in
      links_sound all place.0 other flat.0 stands (sees.links flat.0.cell (sees.before place.0 flat.0 place.1.0 flat.1))))
      fails

  -- where each record has links there is no fault
  pub all_sound : (all : List RecordLinks) → AreAllLinks names all → HasNoPathFault names
  all_sound all links =
      first_some-none (element_fault names.exts.now) (elements_in names)
      (λ element within. (
      let place = slice_get-In element (elements_in names) within in
      let flat = at_place names.tree.now.elements (elements_in names) place.0 element (sym (tree_of_names names are).long) place.1 in
      let stands : IsElement names place.0 element flat.0 = record { are = record { is = place.1; has = flat.1 } } in
      links_sound all place.0 element flat.0 stands (links.each place.0 flat.0 flat.1)))

-- what is written at a place of a vector's slice is written there in the vector
pub written : {X : Type 0} (v new : Vec X Global) (xs ys : List X) (k : ℕ) (x : X) → xs ≡ v.items → ys ≡ slice_set xs k x → new ≡ with_items v ys
    → new.items ≡ slice_set v.items k x
written {X} v new xs ys k x same set is =
    let all : ys ≡ slice_set v.items k x = set ∙ ap (λ (zs : List X). slice_set zs k x) same in
    let long : length ys ≡ v.len = ap (λ (zs : List X). length zs) all ∙ length-set v.items k x ∙ sym v.ok.0 in
    ap (λ (w : Vec X Global). w.items) is ∙ with_items_is v ys long ∙ all
