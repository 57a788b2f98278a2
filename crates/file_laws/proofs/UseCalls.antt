-- The calls of a cell's uses: one of the child's symbol for each element of a use, where the child has a hull.
use Rattle.file_laws.proofs.Common.{◌≡◌, ℕ, suc, List, [], ◌∷◌, Option, Some, None, refl, sym, subst, inl, inr, In, In-append_cases, In-append_left}
use Rattle.file_laws.proofs.Common.{In-append_right, In-map, In-map_source, Rect, Transform, CifItem, Area, Call, CifMove, placing, UseBody, HullIs}
use Rattle.file_laws.proofs.Common.{LibraryView, AreRuns, elements_of_use, AreUseItems, symbol_place, use_items}

-- uses of a cell, each with its id
abbrev pub Uses : Type 0
Uses = List (List ℕ × UseBody)

-- The child of the use has some hull.
abbrev pub ChildHasHull : LibraryView → UseBody → Type 0
ChildHasHull view used = (hull : Option Rect) → HullIs view used.child.0 hull → (area : Rect) × (hull ≡ Some area)

-- A call is one of the child's symbol, as an element of a use of the child stands.
pub record IsCallOf (order : List ℕ) (uses : Uses) (symbol : ℕ) (moves : List CifMove) : Type 0 where
  pub entry : List ℕ × UseBody
  pub used : In entry uses
  pub element : Transform
  pub stands : In element (elements_of_use entry.1)
  pub symbol_is : symbol ≡ symbol_place order entry.1.child.0
  pub moves_are : moves ≡ placing element

module _ (view : LibraryView) (order : List ℕ) where
  abbrev pub AreCallItems : ℕ → Uses → List CifItem → Type 0
  AreCallItems number uses items = AreRuns (λ k entry of_use. AreUseItems view order entry.1 of_use) number uses items

  -- ---- one use

  use_call : (entry : List ℕ × UseBody) (rest : Uses) (hull : Option Rect) (symbol : ℕ) (moves : List CifMove)
      → In (Call symbol moves) (use_items (symbol_place order entry.1.child.0) entry.1 hull) → IsCallOf order (entry ∷ rest) symbol moves
  use_call entry rest None symbol moves among = absurd among
  use_call entry rest (Some hull) symbol moves among =
      let place = symbol_place order entry.1.child.0 in
      let source = In-map_source (λ (element : Transform). Call place (placing element)) (Call symbol moves) (elements_of_use entry.1) among in
      let same : Call place (placing source.0) ≡ Call symbol moves = source.1.1 in
      record { entry = entry; used = inl refl; element = source.0; stands = source.1.0; symbol_is = cc; moves_are = cc }

  use_has_no_area : (used : UseBody) (hull : Option Rect) (place layer : ℕ) (box : Rect) → In (Area layer box) (use_items place used hull) → ⊥
  use_has_no_area used None place layer box among = among
  use_has_no_area used (Some hull) place layer box among =
      let source = In-map_source (λ (element : Transform). Call place (placing element)) (Area layer box) (elements_of_use used) among in
      let same : Call place (placing source.0) ≡ Area layer box = source.1.1 in
      cc

  element_called : (used : UseBody) (hull : Option Rect) (area : Rect) (place : ℕ) (element : Transform) → hull ≡ Some area
      → In element (elements_of_use used) → In (Call place (placing element)) (use_items place used hull)
  element_called used hull area place element is stands =
      subst (λ (h : Option Rect). In (Call place (placing element)) (use_items place used h)) (sym is)
      (In-map (λ (one : Transform). Call place (placing one)) element (elements_of_use used) stands)

  -- ---- all uses

  -- each call is of an element of a use
  pub call_from : (number : ℕ) (uses : Uses) (items : List CifItem) → AreCallItems number uses items → (symbol : ℕ) (moves : List CifMove)
      → In (Call symbol moves) items → IsCallOf order uses symbol moves
  call_from number [] items none symbol moves among = absurd (subst (λ (l : List CifItem). In (Call symbol moves) l) none among)
  call_from number (entry ∷ uses) items (first, rest, is, (hull, hull_is, is_first), are_rest) symbol moves among =
      elim (In-append_cases (Call symbol moves) first rest (subst (λ (l : List CifItem). In (Call symbol moves) l) is among)) [
        | inl early ↦ use_call entry uses hull symbol moves (subst (λ (l : List CifItem). In (Call symbol moves) l) is_first early)
        | inr late ↦ (let from = call_from (suc number) uses rest are_rest symbol moves late in record {
          entry = from.entry;
          used = inr from.used;
          element = from.element;
          stands = from.stands;
          symbol_is = from.symbol_is;
          moves_are = from.moves_are;
        })
      ]

  -- no call is a box
  pub no_area : (number : ℕ) (uses : Uses) (items : List CifItem) → AreCallItems number uses items → (layer : ℕ) (box : Rect)
      → In (Area layer box) items → ⊥
  no_area number [] items none layer box among = subst (λ (l : List CifItem). In (Area layer box) l) none among
  no_area number (entry ∷ uses) items (first, rest, is, (hull, hull_is, is_first), are_rest) layer box among =
      elim (In-append_cases (Area layer box) first rest (subst (λ (l : List CifItem). In (Area layer box) l) is among)) [
        | inl early ↦ use_has_no_area entry.1 hull (symbol_place order entry.1.child.0) layer box
            (subst (λ (l : List CifItem). In (Area layer box) l) is_first early)
        | inr late ↦ no_area (suc number) uses rest are_rest layer box late
      ]

  -- each element of a use whose child has a hull is called
  pub call_of : (number : ℕ) (uses : Uses) (items : List CifItem) → AreCallItems number uses items → (entry : List ℕ × UseBody) (element : Transform)
      → In entry uses → In element (elements_of_use entry.1) → ChildHasHull view entry.1
      → In (Call (symbol_place order entry.1.child.0) (placing element)) items
  call_of number [] items none entry element used stands has = absurd used
  call_of number (other ∷ uses) items (first, rest, is, (hull, hull_is, is_first), are_rest) entry element (inl same) stands has =
      let call : CifItem = Call (symbol_place order entry.1.child.0) (placing element) in
      let hull_here : HullIs view entry.1.child.0 hull = subst (λ (e : List ℕ × UseBody). HullIs view e.1.child.0 hull) same hull_is in
      let some = has hull hull_here in
      let called = element_called entry.1 hull some.0 (symbol_place order entry.1.child.0) element some.1 stands in
      let there : In call (use_items (symbol_place order other.1.child.0) other.1 hull) =
      subst (λ (e : List ℕ × UseBody). In call (use_items (symbol_place order e.1.child.0) e.1 hull)) (sym same) called in
      subst (λ (l : List CifItem). In call l) (sym is) (In-append_left call first rest (subst (λ (l : List CifItem). In call l) (sym is_first) there))
  call_of number (other ∷ uses) items (first, rest, is, are_first, are_rest) entry element (inr later) stands has =
      let call : CifItem = Call (symbol_place order entry.1.child.0) (placing element) in
      subst (λ (l : List CifItem). In call l) (sym is)
      (In-append_right call first rest (call_of (suc number) uses rest are_rest entry element later stands has))
