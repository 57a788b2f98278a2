-- What the parts of the names of a tree tell of a record, of a name and of a number.
use Rattle.full_names.proofs.Common.{◌≡◌, ℕ, ◌+◌, ◌<◌, true, false, not, List, [], ◌++◌, length, get_or, Some, refl, sym, ◌∙◌, ap, subst, arith}
use Rattle.full_names.proofs.Common.{slice_get, slice_index, vec_len, option_map, length-map, slice_get-map, slice_get-get_or, slice_get_within}
use Rattle.full_names.proofs.Common.{get_or_from_slice_get, same_Some, In, In-slice_get, slice_get-In, slice_get-append_left, slice_get-append_right}
use Rattle.full_names.proofs.Common.{CellExt, path_text, node_names, IsLawful, Element, ids_of, name_in, TreeElement, IsTreeOfElements, FullNames}
use Rattle.full_names.proofs.Common.{OwnName, RecordNames, GlobalName, IsFullNameList, is_marked, texts_of, locals_of, AreOwnNames, HasOwnNames}
use Rattle.full_names.proofs.Common.{no_element, flat_at, global_texts, place_at, texts_at, text_at, StandsAt, StandsWhere, elements_in, place_name}
use Rattle.full_names.proofs.Common.{AreNames, IsSpotOf}
use Rattle.full_names.specs.declared.names.Spot.TheVariants.{Local, Global}
use Rattle.full_names.specs.Names.{local_names, IsReached}
use Rattle.full_names.specs.Names.{LacksName, IsElement}
use Rattle.full_names.proofs.ListOrders.{same_in_order}
use Rattle.full_names.proofs.NameForms.{global_name_of, full_name-marked, full_name-local}
use Rattle.full_names.proofs.NamesMade.{tree_under}
use Rattle.full_names.proofs.NumberLaws.{ids_known}
use Rattle.full_names.proofs.RecordReads.{locals_known}
use Rattle.full_names.proofs.TextOrders.{text_stands, text_is_name}
use Rattle.full_names.proofs.TreeLaws.{stands_for}
use Rattle.full_names.proofs.TreeNames.{one_record, lawful_at}

module _ (names : FullNames) (are : AreNames names) where
  abbrev elements : List Element
  elements = elements_in names

  abbrev flats : List TreeElement
  flats = names.tree.now.elements

  abbrev records : List RecordNames
  records = names.records.items

  abbrev globals : List GlobalName
  globals = names.globals.items

  pub is_tree : IsTreeOfElements names.exts.now elements names.tree.now
  is_tree = tree_under names.exts.now names.root names.tree.now are.root are.tree

  -- any list of the full names is the one that is numbered
  pub one_list : (list : List (List ℕ)) → IsFullNameList elements list → list ≡ global_texts globals ++ local_names names
  one_list list is =
      same_in_order list are.list is.in_order are.is_list.in_order (λ name here. (are.is_list.all name).1 ((is.all name).0 here))
      (λ name here. (is.all name).1 ((are.is_list.all name).0 here))
      ∙ are.list_is

  pub lawful_of : (number : ℕ) (element : Element) → slice_get elements number ≡ Some element → IsLawful element.ext
  lawful_of = lawful_at names.exts.now elements names.tree.now are.records is_tree

  -- What is known of a record that is reached.
  pub record IsKnown (cell : ℕ) : Type 0 where
    pub ext : CellExt
    pub found : slice_get names.exts.now cell ≡ Some ext
    pub lawful : IsLawful ext
    pub number : ℕ
    pub element : Element
    pub at : slice_get elements number ≡ Some element
    pub is_ext : element.ext ≡ ext
    pub has : HasOwnNames records cell ext

  pub reached_known : (cell : ℕ) → IsReached names cell → IsKnown cell
  reached_known cell reached =
      let element = reached.0 in
      let at = slice_get-In element elements reached.1.0 in
      let stands = stands_for names.exts.now elements names.tree.now is_tree at.0 element at.1 in
      let same : (flat_at flats at.0).cell ≡ cell = one_record names.exts.now are.records
      (flat_at flats at.0).cell cell element.ext stands.record_ reached.1.1 in
      record {
        ext = element.ext;
        found = reached.1.1;
        lawful = lawful_of at.0 element at.1;
        number = at.0;
        element = element;
        at = at.1;
        is_ext = refl;
        has = subst (λ (c : ℕ). HasOwnNames records c element.ext) same (are.known at.0 element at.1);
      }

  module _ (cell : ℕ) (known : IsKnown cell) where
    pub record_within : cell < vec_len names.records
    record_within = let within = slice_get_within records cell known.has.own known.has.has in let long = names.records.ok.0 in omega arith

    -- what is read is what is known
    pub record_is : (own : RecordNames) → own ≡ get_or records cell own → own ≡ known.has.own
    record_is own read = read ∙ get_or_from_slice_get records cell known.has.own own known.has.has

    -- the record's lists of names, as a slice has them
    module _ (own : RecordNames) (read : own ≡ get_or records cell own) where
      pub globals_read : (slice : List OwnName) → slice ≡ own.globals.items → AreOwnNames true known.ext slice
      globals_read slice is = subst (AreOwnNames true known.ext) (sym (is
          ∙ ap (λ (r : RecordNames). r.globals.items) (record_is own read))) known.has.are.globals

      pub locals_read : (slice : List OwnName) → slice ≡ own.locals.items → AreOwnNames false known.ext slice
      locals_read slice is = subst (AreOwnNames false known.ext) (sym (is ∙ ap (λ (r : RecordNames). r.locals.items) (record_is own read))) known.has.are.locals

      locals_are_read : (slice : List OwnName) → slice ≡ own.locals.items → slice ≡ locals_of records cell
      locals_are_read slice is = is ∙ ap (λ (r : RecordNames). r.locals.items) (record_is own read)
          ∙ sym (locals_known records cell known.has.own known.has.has)

      one_ext : (ext : CellExt) → slice_get names.exts.now cell ≡ Some ext → known.ext ≡ ext
      one_ext ext at = same_Some known.ext ext (sym known.found ∙ at)

      -- a name that is of no node, because the record's list for its kind doesn't have it
      pub lacks_global : (name : List ℕ) (slice : List OwnName) → slice ≡ own.globals.items → is_marked name ≡ true
          → (In name (texts_of slice) → ⊥) → LacksName names cell name
      lacks_global name slice is marked none ext at named =
          none (text_stands true known.ext slice (globals_read slice is) name (subst (λ (e : CellExt). In name (node_names e)) (sym
          (one_ext ext at)) named) marked)

      pub lacks_local : (name : List ℕ) (slice : List OwnName) → slice ≡ own.locals.items → is_marked name ≡ false
          → (In name (texts_of slice) → ⊥) → LacksName names cell name
      lacks_local name slice is local none ext at named =
          none (text_stands false known.ext slice (locals_read slice is) name (subst (λ (e : CellExt). In name (node_names e)) (sym (one_ext ext at)) named)
          (ap not local))

      pub local_spot : (name : List ℕ) (slice : List OwnName) → slice ≡ own.locals.items → is_marked name ≡ false → (place : ℕ)
          → slice_get (texts_of slice) place ≡ Some name → IsSpotOf names cell name (Local place)
      local_spot name slice is local place at =
          let named = text_is_name false known.ext slice (locals_read slice is) name (In-slice_get (texts_of slice) place name at) in
          record {
            record_ = known.ext;
            found = known.found;
            named = named;
            kind = sym (global_name_of known.ext known.lawful name named ∙ local);
            stands = ap (λ (list : List OwnName). slice_get (texts_of list) place) (sym (locals_are_read slice is)) ∙ at;
          }

      pub global_spot : (name : List ℕ) (slice : List OwnName) → slice ≡ own.globals.items → is_marked name ≡ true → In name (texts_of slice) → (place : ℕ)
          → slice_get (global_texts globals) place ≡ Some name → IsSpotOf names cell name (Global place)
      global_spot name slice is marked here place at =
          let named = text_is_name true known.ext slice (globals_read slice is) name here in
          record {
            record_ = known.ext;
            found = known.found;
            named = named;
            kind = sym (global_name_of known.ext known.lawful name named ∙ marked);
            stands = at;
          }

    -- a global name that is none of all is none of the record's
    pub lacks_of_all : (name : List ℕ) → is_marked name ≡ true → (In name (global_texts globals) → ⊥) → LacksName names cell name
    lacks_of_all name marked none ext at named =
        let this : ext ≡ known.element.ext = same_Some ext known.element.ext (sym at ∙ known.found ∙ ap Some (sym known.is_ext)) in
        none (are.globals.all known.number known.element known.at name (subst (λ (e : CellExt). In name (node_names e)) this named) marked)

  -- A name of an element, with its place in the record.
  module _ (number : ℕ) (element : Element) (flat : TreeElement) (at : IsElement names number element flat) where
    stands : slice_get elements number ≡ Some element
    stands = at.are.is

    flat_is : flat_at flats number ≡ flat
    flat_is = get_or_from_slice_get flats number flat no_element at.are.has

    pub number_within : number < length flats
    number_within = slice_get_within flats number flat at.are.has

    module _ (name : List ℕ) (own : ℕ) (spot : IsSpotOf names flat.cell name (Local own)) where
      texts_are : slice_get (texts_at flats records number) own ≡ Some name
      texts_are = ap (λ (f : TreeElement). slice_get (texts_of (locals_of records f.cell)) own) flat_is ∙ spot.stands

      abbrev slot : ℕ
      slot = slice_index names.bases.items number + own

      slot_at : StandsAt names.bases.items names.places.items number own
      slot_at = are.places.all number own number_within (slice_get_within (texts_at flats records number) own name texts_are)

      pub slot_within : slot < length names.places.items
      slot_within = slot_at.within

      standing : StandsWhere names.slots.items names.standings.items slot
      standing = are.standings.each slot (are.slots_all slot slot_within)

      pub slot_in_standings : slot < length names.standings.items
      slot_in_standings = let a = slot_within in let b = are.slots_long in let c = are.standings.long in omega arith

      pub standing_within : slice_index names.standings.items slot < length names.slots.items
      standing_within = standing.within

      named_in : In name (node_names element.ext)
      named_in = subst (λ (e : CellExt). In name (node_names e))
          (same_Some spot.record_ element.ext (sym spot.found ∙ (is_tree.elements_are number element flat at.are).record_)) spot.named

      local : is_marked name ≡ false
      local = sym (global_name_of element.ext (lawful_of number element stands) name named_in) ∙ sym spot.kind

      -- the name's number in the list
      pub local_number : (list : List (List ℕ)) → IsFullNameList elements list
          → slice_get list (length globals + slice_index names.standings.items slot) ≡ Some (name_in element name)
      local_number list is =
          let k = slice_index names.standings.items slot in
          let made : ℕ → List ℕ = λ (s : ℕ). place_name elements flats records (place_at names.places.items s) in
          let long : length globals + k ≡ length (global_texts globals) + k =
          ap (λ n. n + k) (sym (length-map globals (λ (n : GlobalName). n.text.now))) in
          let at_slot : slice_get names.slots.items k ≡ Some slot = slice_get-get_or names.slots.items k 0 standing_within ∙ ap Some standing.is in
          let text : text_at flats records (record { element = number; own = own }) ≡ name = get_or_from_slice_get
          (texts_at flats records number) own name [] texts_are in
          ap (λ (l : List (List ℕ)). slice_get l (length globals + k)) (one_list list is)
          ∙ ap (slice_get (global_texts globals ++ local_names names)) long
          ∙ slice_get-append_right (global_texts globals) (local_names names) k (length (global_texts globals) + k) refl
          ∙ slice_get-map made names.slots.items k ∙ ap (option_map made) at_slot
          ∙ ap Some (ap (place_name elements flats records) slot_at.is
          ∙ (λ i. path_text (ids_known elements number element stands i) (text i))
          ∙ sym (full_name-local element.ext (lawful_of number element stands) name named_in (ids_of element) local))

    module _ (name : List ℕ) (place : ℕ) (spot : IsSpotOf names flat.cell name (Global place)) where
      global_named : In name (node_names element.ext)
      global_named = subst (λ (e : CellExt). In name (node_names e))
          (same_Some spot.record_ element.ext (sym spot.found ∙ (is_tree.elements_are number element flat at.are).record_)) spot.named

      marked : is_marked name ≡ true
      marked = sym (global_name_of element.ext (lawful_of number element stands) name global_named) ∙ sym spot.kind

      -- the number of a global name
      pub global_number : (list : List (List ℕ)) → IsFullNameList elements list → slice_get list place ≡ Some (name_in element name)
      global_number list is =
          ap (λ (l : List (List ℕ)). slice_get l place) (one_list list is)
          ∙ slice_get-append_left (global_texts globals) (local_names names) place name spot.stands
          ∙ ap Some (sym (full_name-marked element.ext (lawful_of number element stands) name global_named (ids_of element) marked))
