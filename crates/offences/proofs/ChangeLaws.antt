-- Squares of channels beside which a role changes.
use Rattle.offences.proofs.Common.{◌≡◌, inl, inr, ◌==◌, ℕ, suc, bit_or, Bool, true, false, cond, List, [], ◌∷◌, refl, sym, ap, subst, ◌∙◌, Option}
use Rattle.offences.proofs.Common.{Some, None, slice_get, list_any, option_map, or_zero_l, eq-eqb, eqb-true, cases_Bool, both_ways}
use Rattle.offences.proofs.Common.{false_from_ne_true, In, Square, Rect, Covers, TypeId, RawTech, IsWellFormed, is_channel, Place, PartKind}
use Rattle.offences.proofs.Common.{TypedStack, number_of, SetLayout, joined_at, flat_type, union_of, HasKind, ChangesRole, is_hidden, is_shared}
use Rattle.offences.proofs.Common.{is_lost, spoils, is_spoiled, sides_of, changed, role_of, kind_in, has_kind, on_plane, IsTypedStack}
use Rattle.std.specs.Prelude.{not, find, count_by, ◌||◌}
use Rattle.std.proofs.lemmas.Bool.{not-true, not-false, not_from_false, or_parts, and_cases}
use Rattle.geo_core.proofs.FiniteSets.Searches.{find-In, find-passes, find-none}
use Rattle.offences.specs.Changes.{same_role}
use Rattle.offences.specs.steps.Pieces.{changes_role, changed_by}
use Rattle.offences.specs.Roles.{Role, Channel, Terminal, Other}
use Rattle.offences.specs.TypedStacks.{owner_of}
use Rattle.offences.proofs.KindLaws.{one_passes}
use Rattle.offences.proofs.SideLaws.{sides_sound, sides_whole}
use Rattle.offences.proofs.SpoiledLaws.{channel_is_material, same_some, some_is_not_none, has_entry, entry_has}

-- what is told as one role is one
pub same_role-true : (a b : Role) → same_role a b ≡ true → a ≡ b
same_role-true Channel Channel e = refl
same_role-true Channel Terminal e = absurd (cc)
same_role-true Channel Other e = absurd (cc)
same_role-true Terminal Channel e = absurd (cc)
same_role-true Terminal Terminal e = refl
same_role-true Terminal Other e = absurd (cc)
same_role-true Other Channel e = absurd (cc)
same_role-true Other Terminal e = absurd (cc)
same_role-true Other Other e = refl

-- and one role is told as one
pub same_role-same : (a : Role) → same_role a a ≡ true
same_role-same Channel = refl
same_role-same Terminal = refl
same_role-same Other = refl

same_number : (a b : TypeId) → Some b ≡ Some a → a.0 ≡ b.0
same_number a b e = cc

-- The owner is the first part that has the flat type, which is a channel's.
pub record IsOwner (raw : RawTech) (flat : Option TypeId) (kinds : List PartKind) (owner : PartKind) : Type 0 where
  pub type : TypeId
  pub flat_is : flat ≡ Some type
  pub channel : is_channel raw type.0 ≡ true
  pub listed : In owner kinds
  pub same : owner.kind.0 ≡ type.0

-- what is found as the owner is it
pub owner_is : (raw : RawTech) (flat : Option TypeId) (kinds : List PartKind) (owner : PartKind) → owner_of raw flat kinds ≡ Some owner
    → IsOwner raw flat kinds owner
owner_is raw None kinds owner e = absurd (cc)
owner_is raw (Some flat) kinds owner e =
    let P : Bool → Type 0 = λ b. cond b (find (has_kind flat.0) kinds) None ≡ Some owner in
    elim (cases_Bool (is_channel raw flat.0)) [
      | inl channel ↦ (
          let found : find (has_kind flat.0) kinds ≡ Some owner = subst P channel e in
          record {
            type = flat;
            flat_is = refl;
            channel = channel;
            listed = find-In (has_kind flat.0) kinds owner found;
            same = eqb-true owner.kind.0 flat.0 (find-passes (has_kind flat.0) kinds owner found);
          })
      | inr fails ↦ (let none : None ≡ Some owner = subst P fails e in absurd (cc))
    ]

-- where a part has the flat type, which is a channel's, there is an owner
pub owner_found : (raw : RawTech) (flat : TypeId) (kinds : List PartKind) (entry : PartKind) → is_channel raw flat.0 ≡ true → In entry kinds
    → entry.kind.0 ≡ flat.0 → (owner : PartKind) × (owner_of raw (Some flat) kinds ≡ Some owner)
owner_found raw flat kinds entry channel h same = go (find (has_kind flat.0) kinds) refl
  where
    opened : owner_of raw (Some flat) kinds ≡ find (has_kind flat.0) kinds
    opened = ap (λ (b : Bool). cond b (find (has_kind flat.0) kinds) None) channel

    go : (found : Option PartKind) → find (has_kind flat.0) kinds ≡ found → (owner : PartKind) × (owner_of raw (Some flat) kinds ≡ Some owner)
    go (Some owner) e = (owner, opened ∙ e)
    go None e = absurd (both_ways (has_kind flat.0 entry) (find-none (has_kind flat.0) kinds entry e h) (eq-eqb entry.kind.0 flat.0 same))

-- where a channel is not spoiled one part has it
pub one_has : (raw : RawTech) (flat : TypeId) (kinds : List PartKind) → is_channel raw flat.0 ≡ true → spoils raw (Some flat) kinds ≡ false
    → count_by (has_kind flat.0) kinds ≡ 1
one_has raw flat kinds channel sound =
    let outer = or_parts (list_any (is_hidden raw flat.0) kinds || is_shared raw flat.0 kinds) (list_any (is_lost raw flat.0) kinds) sound in
    let inner = or_parts (list_any (is_hidden raw flat.0) kinds) (is_shared raw flat.0 kinds) outer.0 in
    let one = count_by (has_kind flat.0) kinds == 1 in
    elim (and_cases (is_channel raw flat.0) (not one) inner.1) [
      | inl fails ↦ absurd (both_ways (is_channel raw flat.0) fails channel)
      | inr passes ↦ eqb-true (count_by (has_kind flat.0) kinds) 1 (not-false one passes)
    ]

-- a place of the plane is its square on the plane
place_is : (plane : ℕ) (place : Place) → place.plane ≡ plane → place ≡ on_plane plane place.square
place_is plane place e = ap (λ (p : ℕ). on_plane p place.square) e

module _ (raw : RawTech) (formed : IsWellFormed raw) (parts : List SetLayout) (plane : ℕ) where
  -- what is changed beside a channel offends
  pub changed_sound : (here beside : TypedStack) → IsTypedStack raw parts plane here → IsTypedStack raw parts plane beside → (piece : Rect)
      → In piece (changed raw here beside) → (square : Square) → Covers piece square → ChangesRole raw parts (on_plane plane square)
  changed_sound here beside is is' piece h square covers = go here.owner refl h
    where
      found : (owner : PartKind) → here.owner ≡ Some owner → changes_role raw owner beside ≡ true → In piece (sides_of here.area beside.area)
          → ChangesRole raw parts (on_plane plane square)
      found owner e changes listed =
          let of = owner_is raw here.flat here.kinds owner (sym is.owner ∙ e) in
          let stands = sides_sound here.area beside.area square piece listed covers in
          let own = entry_has raw formed parts plane here is square stands.covers owner of.listed in
          let has : HasKind raw parts owner.part (on_plane plane square) of.type.0 =
          record { part = own.part; there = own.there; is = own.is ∙ ap Some of.same } in
          let flat' = is'.flat stands.neighbour stands.there in
          let type' = is'.kinds stands.neighbour stands.there owner.part own.part own.there in
          record {
            fet = of.type.0;
            flat = is.flat square stands.covers ∙ ap (option_map number_of) of.flat_is;
            channel = of.channel;
            position = owner.part;
            has = has;
            beside = on_plane plane stands.neighbour;
            neighbour = (refl, stands.near);
            differs = λ same.
                let a = role_of raw owner.kind.0 (option_map number_of beside.flat) in
                let b = role_of raw owner.kind.0 (Some (kind_in beside.kinds owner.part)) in
                let one : a ≡ b =
                ap (λ (k : ℕ). role_of raw k (option_map number_of beside.flat)) of.same
                ∙ ap (role_of raw of.type.0) (sym flat') ∙ same ∙ ap (role_of raw of.type.0) type'
                ∙ ap (λ (k : ℕ). role_of raw k (Some (kind_in beside.kinds owner.part))) (sym of.same) in
                both_ways (same_role a b) (not-true (same_role a b) changes) (subst (λ (r : Role). same_role a r ≡ true) one (same_role-same a));
          }

      go : (owner : Option PartKind) → here.owner ≡ owner → In piece (changed_by raw owner here beside)
          → ChangesRole raw parts (on_plane plane square)
      go None e listed = absurd listed
      go (Some owner) e listed =
          let P : Bool → Type 0 = λ b. In piece (cond b (sides_of here.area beside.area) []) in
          elim (cases_Bool (changes_role raw owner beside)) [
            | inl passes ↦ found owner e passes (subst P passes listed)
            | inr fails ↦ (let none : ⊥ = subst P fails listed in absurd none)
          ]

  -- A part has its channel in this piece, and it is the owner of the piece.
  pub record OwnsHere (here : TypedStack) (fet position : ℕ) : Type 0 where
    pub owner : PartKind
    pub is_owner : here.owner ≡ Some owner
    pub flat : TypeId
    pub flat_is : here.flat ≡ Some flat
    pub part : owner.part ≡ position
    pub kind : owner.kind.0 ≡ fet
    pub same : flat.0 ≡ fet

  module _ (here : TypedStack) (is : IsTypedStack raw parts plane here) (sound : is_spoiled raw here ≡ false) (square : Square)
      (covers : Covers here.area square) where
    -- the part whose role changes is the owner
    pub owns_here : (change : ChangesRole raw parts (on_plane plane square)) → OwnsHere here change.fet change.position
    owns_here change = go here.flat refl
      where
        go : (flat : Option TypeId) → here.flat ≡ flat → OwnsHere here change.fet change.position
        go None e = absurd (some_is_not_none (flat_type raw parts (on_plane plane square)) change.fet change.flat
            (is.flat square covers ∙ ap (option_map number_of) e))
        go (Some flat) e =
            let same : change.fet ≡ flat.0 = same_some change.fet flat.0 (sym change.flat ∙ is.flat square covers ∙ ap (option_map number_of) e) in
            let channel : is_channel raw flat.0 ≡ true = subst (λ (k : ℕ). is_channel raw k ≡ true) same change.channel in
            let entry = has_entry raw formed parts plane here is square covers change.position change.fet change.has
            (channel_is_material raw formed change.fet change.channel) in
            let owner = owner_found raw flat here.kinds entry.entry channel entry.listed (entry.kind ∙ same) in
            let is_owner : here.owner ≡ Some owner.0 = is.owner ∙ ap (λ (f : Option TypeId). owner_of raw f here.kinds) e ∙ owner.1 in
            let of = owner_is raw (Some flat) here.kinds owner.0 owner.1 in
            let kind : owner.0.kind.0 ≡ flat.0 = of.same ∙ same_number of.type flat of.flat_is in
            let one = one_has raw flat here.kinds channel (ap (λ (f : Option TypeId). spoils raw f here.kinds) (sym e) ∙ sound) in
            let alone : owner.0 ≡ entry.entry = one_passes (has_kind flat.0) here.kinds one owner.0 entry.entry of.listed entry.listed
            (eq-eqb owner.0.kind.0 flat.0 kind) (eq-eqb entry.entry.kind.0 flat.0 (entry.kind ∙ same)) in
            record {
              owner = owner.0;
              is_owner = is_owner;
              flat = flat;
              flat_is = e;
              part = ap (λ (k : PartKind). k.part) alone ∙ entry.part;
              kind = kind ∙ sym same;
              same = sym same;
            }

    -- within one piece no role changes
    pub changes_elsewhere : (change : ChangesRole raw parts (on_plane plane square)) → change.beside.plane ≡ plane
        → Covers here.area change.beside.square → ⊥
    changes_elsewhere change on inside =
        let owns = owns_here change in
        let there = place_is plane change.beside on in
        change.differs (ap (role_of raw change.fet) (
        ap (flat_type raw parts) there ∙ is.flat change.beside.square inside ∙ ap (option_map number_of) owns.flat_is ∙ ap Some owns.same
        ∙ sym (ap (joined_at raw change.has.part) there ∙ is.kinds change.beside.square inside change.position change.has.part change.has.there
        ∙ sym (is.kinds square covers change.position change.has.part change.has.there) ∙ change.has.is)))

    -- a role that changes in another piece is found there
    pub changed_whole : (change : ChangesRole raw parts (on_plane plane square)) → (beside : TypedStack) → IsTypedStack raw parts plane beside
        → Covers beside.area change.beside.square → (piece : Rect) × (In piece (changed raw here beside) × Covers piece square)
    changed_whole change beside is' inside =
        let owns = owns_here change in
        let owner = owns.owner in
        let on : plane ≡ change.beside.plane = change.neighbour.0 in
        let there = place_is plane change.beside (sym on) in
        let a = role_of raw owner.kind.0 (option_map number_of beside.flat) in
        let b = role_of raw owner.kind.0 (Some (kind_in beside.kinds owner.part)) in
        let flat' : flat_type raw parts change.beside ≡ option_map number_of beside.flat = ap (flat_type raw parts) there
        ∙ is'.flat change.beside.square inside in
        let type' : joined_at raw change.has.part change.beside ≡ Some (kind_in beside.kinds owner.part) =
        ap (joined_at raw change.has.part) there ∙ is'.kinds change.beside.square inside change.position change.has.part change.has.there
        ∙ ap (λ (p : ℕ). Some (kind_in beside.kinds p)) (sym owns.part) in
        let differ : a ≡ b → ⊥ = λ same. change.differs (ap (role_of raw change.fet) flat'
        ∙ ap (λ (k : ℕ). role_of raw k (option_map number_of beside.flat)) (sym owns.kind) ∙ same
        ∙ ap (λ (k : ℕ). role_of raw k (Some (kind_in beside.kinds owner.part))) owns.kind ∙ ap (role_of raw change.fet) (sym type')) in
        let changes : changes_role raw owner beside ≡ true =
        not_from_false (same_role a b) (false_from_ne_true (same_role a b) (λ e. differ (same_role-true a b e))) in
        let pieces : changed raw here beside ≡ sides_of here.area beside.area =
        ap (λ (o : Option PartKind). changed_by raw o here beside) owns.is_owner
        ∙ ap (λ (t : Bool). cond t (sides_of here.area beside.area) []) changes in
        let found = sides_whole here.area beside.area square change.beside.square covers change.neighbour.1 inside in
        (found.0, (subst (In found.0) (sym pieces) found.1.0, found.1.1))

-- where no part has anything, all together have nothing
pub union_none : (parts : List SetLayout) (place : Place)
    → ((position : ℕ) (part : SetLayout) → slice_get parts position ≡ Some part → part place ≡ 0)
    → union_of parts place ≡ 0
union_none [] place none = refl
union_none (part ∷ parts) place none =
    let rest = union_none parts place (λ position p h. none (suc position) p h) in
    ap (λ (s : ℕ). bit_or s (union_of parts place)) (none 0 part refl) ∙ or_zero_l (union_of parts place) ∙ rest
