-- From the names of the first elements of records to the global names of all elements.
use Rattle.full_names.proofs.Common.{◌≡◌, ℕ, ◌≤◌, Bool, true, List, [], ◌∷◌, Some, inl, inr, refl, sym, ◌∙◌, ap, subst, arith, slice_get, Ordering}
use Rattle.full_names.proofs.Common.{Less, nat_cmp, ordering_then, tied_itself, same_Some, In, In-map, In-map_source, CellExt, name_kind, slashes_in}
use Rattle.full_names.proofs.Common.{kind_rank, name_cmp, names_of, node_names, Element, AreRecords, AreInNameOrder, ElementTree, TreeElement}
use Rattle.full_names.proofs.Common.{IsTreeOfElements, OwnName, RecordNames, GlobalName, is_marked, texts_of, globals_of, AreOwnNames, flat_at}
use Rattle.full_names.proofs.Common.{AreReached, global_texts, text_cmp, AreInTextOrder, IsFound, AreGlobalNames, AreGlobalsOf}
use Rattle.full_names.specs.GlobalOrigins.{IsGlobalOf}
use Rattle.full_names.proofs.GlobalLaws.{text_cmp_total}
use Rattle.full_names.proofs.KeyOrders.{NamesAreKnown}
use Rattle.full_names.proofs.NameForms.{last_name_of, kind_of_marked}
use Rattle.full_names.proofs.RecordReads.{globals_known}
use Rattle.full_names.proofs.TextOrders.{text_stands, text_is_name, text_is_wanted}
use Rattle.full_names.proofs.TreeLaws.{element_at, stands_for, within_tree}
use Rattle.full_names.proofs.TreeNames.{lawful_at}

-- numbers that are both nothing tell no names apart
no_difference : (m n : ℕ) (rest : Ordering) → m ≡ 0 → n ≡ 0 → ordering_then (nat_cmp m n) rest ≡ rest
no_difference m n rest e f = rw (e, f) refl

-- global names are in name order by their lengths and bytes
global_cmp_is : (a b : List ℕ) → is_marked a ≡ true → is_marked b ≡ true → slashes_in a ≡ 0 → slashes_in b ≡ 0 → name_cmp a b ≡ text_cmp a b
global_cmp_is a b marked marked' whole whole' =
    no_difference (kind_rank (name_kind a)) (kind_rank (name_kind b)) (ordering_then (nat_cmp (slashes_in a) (slashes_in b)) (text_cmp a b))
    (kind_of_marked a marked) (kind_of_marked b marked')
    ∙ no_difference (slashes_in a) (slashes_in b) (text_cmp a b) whole whole'

-- A text is that of a global name.
pub record IsGlobalText (text : List ℕ) : Type 0 where
  pub marked : is_marked text ≡ true
  pub whole : slashes_in text ≡ 0

texts_in_order : (texts : List (List ℕ)) → ((text : List ℕ) → In text texts → IsGlobalText text) → AreInTextOrder texts → AreInNameOrder texts
texts_in_order [] are ordered = tt
texts_in_order (a ∷ []) are ordered = tt
texts_in_order (a ∷ b ∷ texts) are ordered =
    let one = are a (inl refl) in
    let two = are b (inr (inl refl)) in (
      global_cmp_is a b one.marked two.marked one.whole two.whole ∙ ordered.0,
      texts_in_order (b ∷ texts) (λ text here. are text (inr here)) ordered.1,
    )

text_before : (a b : List ℕ) (texts : List (List ℕ)) → AreInTextOrder (a ∷ texts) → In b texts → text_cmp a b ≡ Less
text_before a b [] ordered here = absurd here
text_before a b (c ∷ texts) ordered (inl this) = subst (λ (t : List ℕ). text_cmp a t ≡ Less) this ordered.0
text_before a b (c ∷ texts) ordered (inr later) = text_cmp_total.trans a c b ordered.0 (text_before c b texts ordered.1 later)

not_less_itself : (a : List ℕ) → text_cmp a a ≡ Less → ⊥
not_less_itself a less = let tied = tied_itself text_cmp_total a in cc

rest_in_order : (a : List ℕ) (texts : List (List ℕ)) → AreInTextOrder (a ∷ texts) → AreInTextOrder texts
rest_in_order a [] ordered = tt
rest_in_order a (b ∷ texts) ordered = ordered.1

-- no two names of the list have one text
one_of_text : (names : List GlobalName) → AreInTextOrder (global_texts names) → (a b : GlobalName) → In a names → In b names
    → a.text.now ≡ b.text.now → a ≡ b
one_of_text [] ordered a b p q same = absurd p
one_of_text (c ∷ names) ordered a b (inl p) (inl q) same = sym p ∙ q
one_of_text (c ∷ names) ordered a b (inl p) (inr q) same =
    let text : GlobalName → List ℕ = λ (n : GlobalName). n.text.now in
    let less = text_before c.text.now b.text.now (global_texts names) ordered (In-map text b names q) in
    absurd (not_less_itself b.text.now (subst (λ (t : List ℕ). text_cmp t b.text.now ≡ Less) (ap text p ∙ same) less))
one_of_text (c ∷ names) ordered a b (inr p) (inl q) same =
    let text : GlobalName → List ℕ = λ (n : GlobalName). n.text.now in
    let less = text_before c.text.now a.text.now (global_texts names) ordered (In-map text a names p) in
    absurd (not_less_itself a.text.now (subst (λ (t : List ℕ). text_cmp t a.text.now ≡ Less) (ap text q ∙ sym same) less))
one_of_text (c ∷ names) ordered a b (inr p) (inr q) same = one_of_text names (rest_in_order c.text.now (global_texts names) ordered) a b p q same

module _ (exts : List CellExt) (elements : List Element) (tree : ElementTree) (lawful : AreRecords exts) (is : IsTreeOfElements exts elements tree)
    (records : List RecordNames) (known : NamesAreKnown elements tree records) (cells : List Bool) (firsts : List ℕ)
    (reached : AreReached tree.elements cells firsts) (names : List GlobalName) (are : AreGlobalNames tree.elements records firsts names) where
  abbrev flats : List TreeElement
  flats = tree.elements

  globals_are : (number : ℕ) (element : Element) → slice_get elements number ≡ Some element
      → AreOwnNames true element.ext (globals_of records (flat_at flats number).cell)
  globals_are number element at =
      let has = known number element at in
      subst (AreOwnNames true element.ext) (sym (globals_known records (flat_at flats number).cell has.own has.has)) has.are.globals

  -- elements of one record have its names
  same_record : (number other : ℕ) (element next : Element) → slice_get elements number ≡ Some element → slice_get elements other ≡ Some next
      → (flat_at flats number).cell ≡ (flat_at flats other).cell → element.ext ≡ next.ext
  same_record number other element next at at_next same =
      same_Some element.ext next.ext (sym (stands_for exts elements tree is number element at).record_ ∙ ap (slice_get exts) same
      ∙ (stands_for exts elements tree is other next at_next).record_)

  -- a global name of an element is found no later than there
  found_for : (number : ℕ) (element : Element) → slice_get elements number ≡ Some element → (text : List ℕ) → In text (node_names element.ext)
      → is_marked text ≡ true → IsFound names text number
  found_for number element at text named marked =
      let has = reached.first number (within_tree exts elements tree is number element at) in
      let one = element_at exts elements tree is has.first (reached.within has.first has.listed) in
      let same = same_record has.first number one.0 element one.1 at has.same in
      let list = globals_of records (flat_at flats has.first).cell in
      let here = text_stands true one.0.ext list (globals_are has.first one.0 one.1) text (subst (λ (e : CellExt). In text (node_names e)) (sym same) named)
      marked in
      let source = In-map_source (λ (name : OwnName). name.text.now) text list here in
      let found = are.are.all has.first has.listed source.0 source.1.0 in
      record {
        name = found.name;
        listed = found.listed;
        same = found.same ∙ source.1.1;
        no_later = let a = found.no_later in let b = has.no_later in omega arith;
      }

  each_global : (name : GlobalName) → In name names → IsGlobalOf elements name
  each_global name listed =
      let from = are.are.from name listed in
      let one = element_at exts elements tree is name.element from.within in
      let list = globals_of records (flat_at flats name.element).cell in
      let own = globals_are name.element one.0 one.1 in
      let node = own.nodes from.own from.has in
      let here : In name.text.now (texts_of list) = subst (λ (t : List ℕ). In t (texts_of list)) from.text
      (In-map (λ (n : OwnName). n.text.now) from.own list from.has) in
      let marked = text_is_wanted true one.0.ext list own name.text.now here in
      record {
        element = one.0;
        stands = one.1;
        node = node.node;
        node_stands = ap (slice_get one.0.ext.nodes) (sym from.node) ∙ node.stands;
        named = subst (λ (t : List ℕ). In t (names_of node.node)) from.text node.named;
        marked = marked;
        first = λ number other at named.
            let found = found_for number other at name.text.now named marked in
            let this = one_of_text names are.in_order found.name name found.listed listed found.same in
            subst (λ (n : GlobalName). n.element ≤ number) this found.no_later;
      }

  global_text : (text : List ℕ) → In text (global_texts names) → IsGlobalText text
  global_text text here =
      let source = In-map_source (λ (n : GlobalName). n.text.now) text names here in
      let from = are.are.from source.0 source.1.0 in
      let one = element_at exts elements tree is source.0.element from.within in
      let list = globals_of records (flat_at flats source.0.element).cell in
      let own = globals_are source.0.element one.0 one.1 in
      let stands : In text (texts_of list) = subst (λ (t : List ℕ). In t (texts_of list)) (from.text ∙ source.1.1)
      (In-map (λ (n : OwnName). n.text.now) from.own list from.has) in
      record {
        marked = text_is_wanted true one.0.ext list own text stands;
        whole = (last_name_of one.0.ext (lawful_at exts elements tree lawful is source.0.element one.0 one.1) text
            (text_is_name true one.0.ext list own text stands)).whole;
      }

  pub globals_of_elements : AreGlobalsOf elements names
  globals_of_elements = record {
    each = each_global;
    all = λ number element at text named marked.
        let found = found_for number element at text named marked in
        subst (λ (t : List ℕ). In t (global_texts names)) found.same (In-map (λ (n : GlobalName). n.text.now) found.name names found.listed);
    in_order = texts_in_order (global_texts names) global_text are.in_order;
  }
