-- The steps that the walks of `places` share. Assumes `Logic`.
--     start_had, start_made, mark_had, mark_made    the value of a pointer, and the one without bytes
--     take_place, put_place, see_place              one place is taken out of the row, put back, or seen
--     empty_row, forget_row                         room is a row of empty places, and any row is room
use mathlib.Core.Path.{◌≡◌, refl, sym, ap, subst, ◌∙◌}
use Prim.Native.Nat.{ℕ, zero, suc, ◌+◌, ◌*◌, ◌<◌, ◌≤◌}
use native.Mathlib.Omega.{arith}
use native.Mathlib.Nat.{zero-mul, suc-mul}
use mathlib.Core.List.{List, [], ◌∷◌, ◌++◌}
use lib.ListN.{length, take, drop, set, get_or, replicate, take-append-drop, length-take}
use lib.Seq.{drop-cons, set_split}
use seplogic.Ra.Ura.{Ura}
use base.Fraction.{full_share}
use mir.Syntax.{Ty, ty_array}
use mir.Val.{Val, vstruct, vcons, vnil, of_list}
use base.Logic.{ent, sep, emp, ex, guard, via, snd∗, id⊢}
use base.Fml.{Fml, Lft, fsep, fat, froom}
use types.Logic.{Logic, sem}
use types.Kit.{Item, Goal, Seq, Step, step, ‵, some, given, ◌⊛◌, ◌$◌, ◌∵◌, !, qed, by, move, keep, drop as skip, use1, use2, pick, learn, split, check, show}
use types.Kit.{fsplit, fjoin, fpick, fpack, feq_i, feq_l, rewrite, done, frame}
use denote.RattleType.{RattleType, Valss}
use denote.Laws.{Typed, Is, shows}
use denote.Param.{param, layout}
use denote.Param.Laws.{Laws, param_laws}
use denote.Memory.{part_at}
use denote.RawPtr.{Ptr, RawPtr, ptr_val}
use denote.Shadow.{makes_shadow}
use denote.Steps.{nothing, peeks}
use denote.Struct.Struct.{Shape, Struct, within}
use denote.Struct.Owning.{shape}
use denote.Struct.Declared as Declared
use denote.Struct.Tuple.{Tuple, tuple_type}
use borrow.Table.OneValue.{part_in, part_out}
use Rattle.tile_arena.proofs.Common.{None, type_size, El, R, el_x, elτ, Good, word, place, row_of, place_lent, row_lent}
use Rattle.std.specs.Prelude.{Option, Some}
use Rattle.tile_arena.specs.contracts.places.Places as Owner
use Rattle.tile_arena.specs.contracts.places.Start as Begin

module _ (E : El) where
  abbrev pub PlacesRow : RattleType
  PlacesRow = Owner.the_row (R E)

  abbrev pub StartRow : RattleType
  StartRow = Begin.the_row (R E)

  -- the one field of `Places`, which takes no bytes
  abbrev pub Mark : RattleType
  Mark = Struct (shape (Owner.the_type (R E)))

  abbrev pub size : ℕ
  size = type_size (R E)

  abbrev pub Held : Type 0
  Held = Option (el_x E)

abbrev pointer_alone : Shape
pointer_alone = record { name = []; args = []; types = []; fields = RawPtr ∷ [] }

abbrev pub Pointer : RattleType
Pointer = Struct pointer_alone

abbrev pub mark : Val
mark = vstruct (vcons (vstruct vnil) vnil)

pub mark_made : (E : El) {M : Type 1} {𝓤 : Ura M} (𝓛 : Logic 𝓤) → ent 𝓤 (emp 𝓤) (sem 𝓛 ((Mark E).own_val (tt, tt) (mark ∷ [])))
mark_made E 𝓛 =
    makes_shadow 𝓛 ((Mark E).own_val (tt, tt) (mark ∷ [])) (λ vss. (tt, ((λ uss. (tt, tt)), tt))) ((vstruct vnil ∷ [], tt), (refl, ((tt, (refl, tt)), tt)))

module _ {M : Type 1} {𝓤 : Ura M} {𝓛 : Logic 𝓤} {K : Type 0} {Γ : List (Item 𝓤)} {G : Goal 𝓤 𝓛.H} where
  pub start_had : K → (at : Ptr) (vs : List Val) → (vs ≡ word at ∷ [] → Seq K 𝓛 Γ G) → Seq K 𝓛 (‵ (Pointer.own_val (at, tt) vs) ∷ Γ) G
  start_had t at vs rest =
      fpick t (λ vss. fsplit t $ feq_l t (λ whole. fsplit t $ feq_l t (λ part. skip t $
      rest (subst (λ (ws : List Val). vs ≡ vstruct (of_list (ws ++ [])) ∷ []) part whole))))

  pub start_made : K → (at : Ptr) → Step K 𝓛 (‵ (Pointer.own_val (at, tt) (word at ∷ [])) ∷ Γ) G Γ G
  start_made t at = step (λ rest.
      nothing t $ feq_i t (List Val) (ptr_val at ∷ []) (ptr_val at ∷ []) refl $ fjoin t $ feq_i t (List Val) (word at ∷ []) (word at ∷ []) refl $ fjoin t $
      fpack t (Valss (RawPtr ∷ [])) (within pointer_alone (at, tt) (word at ∷ [])) (ptr_val at ∷ [], tt) $ rest)

  pub mark_had : K → (E : El) (vs : List Val) → (vs ≡ mark ∷ [] → Seq K 𝓛 Γ G) → Seq K 𝓛 (‵ ((Mark E).own_val (tt, tt) vs) ∷ Γ) G
  mark_had t E vs rest =
      fpick t (λ vss. fsplit t $ feq_l t (λ whole. fsplit t $ fpick t (λ uss. fsplit t $ feq_l t (λ part. skip t $ skip t $
      rest (subst (λ (ws : List Val). vs ≡ vstruct (of_list (ws ++ [])) ∷ []) part whole)))))

abbrev pub three_values : Val → Val → Val → Val
three_values u v w = vstruct (vcons u (vcons v (vcons w vnil)))

-- three values are a tuple
pub tuple_made : {M : Type 1} {𝓤 : Ura M} (𝓛 : Logic 𝓤) (R S T : RattleType) (x : R.Denot) (y : S.Denot) (z : T.Denot) (u v w : Val)
    → ent 𝓤 (sep 𝓤 (sem 𝓛 (R.own_val x (u ∷ []))) (sep 𝓤 (sem 𝓛 (S.own_val y (v ∷ []))) (sem 𝓛 (T.own_val z (w ∷ [])))))
    (sem 𝓛 ((Tuple (R ∷ S ∷ T ∷ [])).own_val (x, y, z) (three_values u v w ∷ [])))
tuple_made 𝓛 R S T x y z u v w =
    qed 𝓛 (‵ (R.own_val x (u ∷ [])) ∷ ‵ (S.own_val y (v ∷ [])) ∷ ‵ (T.own_val z (w ∷ [])) ∷ []) ∵
    nothing ! $ move ! (3 ∷ 0 ∷ []) $ fjoin ! $ move ! (2 ∷ 0 ∷ []) $ fjoin ! $ move ! (1 ∷ 0 ∷ []) $ fjoin ! $
    feq_i ! (List Val) (three_values u v w ∷ []) (three_values u v w ∷ []) refl $ fjoin ! $
    fpack ! (Valss (R ∷ S ∷ T ∷ [])) (within (Declared.shape (tuple_type (R ∷ S ∷ T ∷ []))) (x, (y, (z, tt))) (three_values u v w ∷ []))
    (u ∷ [], (v ∷ [], (w ∷ [], tt))) $ done !

module _ (i : ℕ) (Y : RattleType) (laws : Laws Y) {M : Type 1} {𝓤 : Ura M} (𝓛 : Logic 𝓤) where
  open 𝓛 use {H}

  -- an item in memory is a machine value there and what it owns
  pub item_out : (x : Y.Denot) (b o : ℕ) → ent 𝓤 (sem 𝓛 (part_at (param i Y) full_share x b o))
      (ex 𝓤 (λ (v : Val). guard 𝓤 (Good (layout Y) v) (sep 𝓤 (H.at full_share (layout Y) b o v) (sem 𝓛 (Y.own_val x (v ∷ []))))))
  item_out x b o =
      qed 𝓛 (‵ (part_at (param i Y) full_share x b o) ∷ []) ∵
      use1 𝓛 (some (λ (v : Val). ‵ (fat full_share (layout Y) b o v) ⊛ ‵ (Y.own_val x (v ∷ [])))) (part_out 𝓛 (param i Y) refl full_share x b o) $
      pick ! (λ v. split ! $ move ! (1 ∷ []) $ peeks ! (param i Y) (Is (param i Y)) (shows 𝓛 (param i Y)) x (v ∷ []) (λ is.
      show ! (λ (w : Val). guard 𝓤 (Good (layout Y) w) (sep 𝓤 (H.at full_share (layout Y) b o w) (sem 𝓛 (Y.own_val x (w ∷ []))))) v $
      check ! (((param_laws i Y laws).lawful 𝓛).typed x (v ∷ []) is).0 $ move ! (1 ∷ 0 ∷ []) $ done !))

  pub item_in : (x : Y.Denot) (b o : ℕ) (v : Val)
      → ent 𝓤 (sep 𝓤 (H.at full_share (layout Y) b o v) (sem 𝓛 (Y.own_val x (v ∷ [])))) (sem 𝓛 (part_at (param i Y) full_share x b o))
  item_in x b o v = part_in 𝓛 (param i Y) refl full_share x b o v

one_value : (τ : Ty) (vs : List Val) → Typed (τ ∷ []) vs → (v : Val) × ((vs ≡ v ∷ []) × Good τ v)
one_value τ [] typed = absurd typed
one_value τ (v ∷ []) typed = (v, (refl, typed.0))
one_value τ (v ∷ w ∷ vs) typed = absurd typed.1

module _ (Y : RattleType) (laws : Laws Y) {M : Type 1} {𝓤 : Ura M} {𝓛 : Logic 𝓤} {K : Type 0} {Γ : List (Item 𝓤)} {G : Goal 𝓤 𝓛.H} where
  -- an item that is owned is one machine value of its type
  pub item_had : K → (x : Y.Denot) (vs : List Val) → ((v : Val) → vs ≡ v ∷ [] → Good (layout Y) v → Seq K 𝓛 (‵ (Y.own_val x (v ∷ [])) ∷ Γ) G)
      → Seq K 𝓛 (‵ (Y.own_val x vs) ∷ Γ) G
  item_had t x vs rest =
      peeks t (param 0 Y) (Is (param 0 Y)) (shows 𝓛 (param 0 Y)) x vs (λ is.
      let one = one_value (layout Y) vs (((param_laws 0 Y laws).lawful 𝓛).typed x vs is) in
      rewrite t 0 (λ (us : List Val). ‵ (Y.own_val x us)) one.1.0 refl $ rest one.0 one.1.0 one.1.1)

-- a place with an item is one of the places
pub item_within : {X : Type 0} (held : List (Option X)) (i : ℕ) (x : X) → get_or held i None ≡ Some x → i < length held
item_within [] i x found = cc
item_within (first ∷ held) zero x found = omega arith
item_within (first ∷ held) (suc i) x found = omega (arith, item_within held i x found)

module _ (E : El) {M : Type 1} {𝓤 : Ura M} (𝓛 : Logic 𝓤) (b : ℕ) where
  open 𝓛 use {H}

  abbrev s : ℕ
  s = size E

  abbrev Row : ℕ → List (Held E) → Fml
  Row = row_of (R E) b

  apart : (front back : List (Held E)) (o at : ℕ) → at ≡ length front * s + o
      → ent 𝓤 (sem 𝓛 (Row o (front ++ back))) (sep 𝓤 (sem 𝓛 (Row o front)) (sem 𝓛 (Row at back)))
  apart [] back o at there =
      qed 𝓛 (‵ (Row o back) ∷ []) ∵ rewrite ! 0 (λ (k : ℕ). ‵ (Row k back)) {x = at} (omega (arith, zero-mul s)) refl $ nothing ! $ done !
  apart (first ∷ front) back o at there =
      let further : at ≡ suc (length front) * s + o = there in
      qed 𝓛 (‵ (Row o (first ∷ front ++ back)) ∷ []) ∵ fsplit ! $ move ! (1 ∷ []) $
      use1 𝓛 (‵ (Row (o + s) front) ⊛ ‵ (Row at back)) (apart front back (o + s) at (omega (arith, suc-mul (length front) s))) $
      split ! $ move ! (2 ∷ 0 ∷ []) $ fjoin ! $ done !

  joined : (front back : List (Held E)) (o at : ℕ) → at ≡ length front * s + o
      → ent 𝓤 (sep 𝓤 (sem 𝓛 (Row o front)) (sem 𝓛 (Row at back))) (sem 𝓛 (Row o (front ++ back)))
  joined [] back o at there =
      qed 𝓛 (‵ (Row o []) ∷ ‵ (Row at back) ∷ []) ∵ skip ! $ rewrite ! 0 (λ (k : ℕ). ‵ (Row k back)) {x = o} (omega (arith, zero-mul s)) refl $ done !
  joined (first ∷ front) back o at there =
      let further : at ≡ suc (length front) * s + o = there in
      qed 𝓛 (‵ (Row o (first ∷ front)) ∷ ‵ (Row at back) ∷ []) ∵ fsplit ! $ move ! (1 ∷ 2 ∷ []) $
      use2 𝓛 (‵ (Row (o + s) (front ++ back))) (joined front back (o + s) at (omega (arith, suc-mul (length front) s))) $ move ! (1 ∷ 0 ∷ []) $ fjoin ! $
      done !

  module _ (o : ℕ) (held : List (Held E)) (i : ℕ) where
    -- all places but the one with the index
    abbrev pub Others : Fml
    Others = fsep (Row o (take i held)) (Row (i * s + o + s) (drop (suc i) held))

    before : i ≤ length held → i * s + o ≡ length (take i held) * s + o
    before within = let long : i ≡ length (take i held) = omega (arith, length-take i held) in ap (λ k. k * s + o) long

    pub take_place : i < length held → ent 𝓤 (sem 𝓛 (Row o held)) (sep 𝓤 (sem 𝓛 (place (R E) b (i * s + o) (get_or held i None))) (sem 𝓛 Others))
    take_place within =
        let this = get_or held i None in
        qed 𝓛 (‵ (Row o held) ∷ []) ∵
        rewrite ! 0 (λ (l : List (Held E)). ‵ (Row o l)) (sym (take-append-drop i held) ∙ ap (λ l. take i held ++ l) (drop-cons held i None within)) refl $
        use1 𝓛 (‵ (Row o (take i held)) ⊛ ‵ (Row (i * s + o) (this ∷ drop (suc i) held)))
        (apart (take i held) (this ∷ drop (suc i) held) o (i * s + o) (before (omega arith))) $
        split ! $ move ! (1 ∷ []) $ fsplit ! $ move ! (2 ∷ 1 ∷ []) $ fjoin ! $ move ! (1 ∷ []) $ done !

    pub put_place : i < length held → (new : Held E) → ent 𝓤 (sep 𝓤 (sem 𝓛 (place (R E) b (i * s + o) new)) (sem 𝓛 Others)) (sem 𝓛 (Row o (set held i new)))
    put_place within new =
        qed 𝓛 (‵ (place (R E) b (i * s + o) new) ∷ ‵ Others ∷ []) ∵ move ! (1 ∷ []) $ fsplit ! $ move ! (2 ∷ 1 ∷ []) $ fjoin ! $ move ! (1 ∷ 0 ∷ []) $
        use2 𝓛 (‵ (Row o (take i held ++ new ∷ drop (suc i) held))) (joined (take i held) (new ∷ drop (suc i) held) o (i * s + o) (before (omega arith))) $
        rewrite ! 0 (λ (l : List (Held E)). ‵ (Row o l)) (sym (set_split held i new within)) refl $ done !

  -- room for an array is a row of empty places
  pub empty_row : (n o : ℕ) → ent 𝓤 (H.room (ty_array (elτ E) n) b o) (sem 𝓛 (Row o (replicate n None)))
  empty_row zero o = qed 𝓛 (‵ (froom (ty_array (elτ E) 0) b o) ∷ []) ∵ keep ! [] $ done !
  empty_row (suc n) o =
      qed 𝓛 (‵ (froom (ty_array (elτ E) (suc n)) b o) ∷ []) ∵
      use1 𝓛 (‵ (froom (elτ E) b o) ⊛ ‵ (froom (ty_array (elτ E) n) b (o + s))) (𝓛.laws.room_uncons (elτ E) n b o) $ split ! $
      use1 𝓛 (‵ (place (R E) b o None)) (𝓛.laws.room-raw (elτ E) b o) $ frame ! $ by ! (empty_row n (o + s))

  -- whatever a place holds, it is room for an item
  forget_place : (held : Held E) (o : ℕ) → ent 𝓤 (sem 𝓛 (place (R E) b o held)) (H.room (elτ E) b o)
  forget_place None o = 𝓛.laws.raw-room (elτ E) b o
  forget_place (Some x) o =
      qed 𝓛 (‵ (place (R E) b o (Some x)) ∷ []) ∵
      use1 𝓛 (some (λ (v : Val). given (Good (elτ E) v) (‵ (fat full_share (elτ E) b o v) ⊛ ‵ (E.row.own_val x (v ∷ [])))))
      (item_out 0 E.row E.laws 𝓛 x b o) $
      pick ! (λ v. learn ! (λ good. split ! $ keep ! (0 ∷ []) $ by ! (𝓛.laws.at_room (elτ E) b o v)))

  -- and a row of places is room for an array
  pub forget_row : (held : List (Held E)) (o : ℕ) → ent 𝓤 (sem 𝓛 (Row o held)) (H.room (ty_array (elτ E) (length held)) b o)
  forget_row [] o = 𝓛.laws.room_nil (elτ E) b o
  forget_row (first ∷ held) o =
      qed 𝓛 (‵ (place (R E) b o first) ∷ ‵ (Row (o + s) held) ∷ []) ∵
      use1 𝓛 (‵ (froom (elτ E) b o)) (forget_place first o) $ move ! (1 ∷ []) $
      use1 𝓛 (‵ (froom (ty_array (elτ E) (length held)) b (o + s))) (forget_row held (o + s)) $ move ! (1 ∷ []) $
      by ! (𝓛.laws.room_cons (elτ E) (length held) b o)

  module _ (κ : Lft) where
    abbrev Seen : ℕ → List (Held E) → Fml
    Seen o held = row_lent (R E) b o held κ

    from_place : (held : List (Held E)) (i o at : ℕ) → i ≤ length held → at ≡ i * s + o → ent 𝓤 (sem 𝓛 (Seen o held)) (sem 𝓛 (Seen at (drop i held)))
    from_place held zero o at within there =
        let same : o ≡ at = omega (arith, zero-mul s) in subst (λ k. ent 𝓤 (sem 𝓛 (Seen o held)) (sem 𝓛 (Seen k held))) same (id⊢ 𝓤 _)
    from_place [] (suc i) o at within there = absurd (omega arith)
    from_place (first ∷ held) (suc i) o at within there =
        via 𝓤 (sem 𝓛 (Seen (o + s) held)) (snd∗ 𝓤 (sem 𝓛 (place_lent (R E) b o first κ)) (sem 𝓛 (Seen (o + s) held)))
        (from_place held i (o + s) at (omega arith) (omega (arith, suc-mul i s)))

    pub see_place : (o : ℕ) (held : List (Held E)) (i : ℕ) → i < length held
        → ent 𝓤 (sem 𝓛 (Seen o held)) (sem 𝓛 (place_lent (R E) b (i * s + o) (get_or held i None) κ))
    see_place o held i within =
        qed 𝓛 (‵ (Seen o held) ∷ []) ∵
        use1 𝓛 (‵ (Seen (i * s + o) (drop i held))) (from_place held i o (i * s + o) (omega arith) refl) $
        rewrite ! 0 (λ (l : List (Held E)). ‵ (Seen (i * s + o) l)) (drop-cons held i None within) refl $ fsplit ! $ keep ! (0 ∷ []) $ done !
