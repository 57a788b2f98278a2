-- Pieces offend whole exactly where they are spoiled, but for what stands beside them.
use Rattle.offences.proofs.Common.{◌≡◌, ◌≢◌, ◌⊎◌, inl, inr, ◌<◌, ◌==◌, ℕ, Bool, true, false, List, length, get_or, refl, sym, ap, subst, ◌∙◌, arith}
use Rattle.offences.proofs.Common.{Option, Some, None, slice_get, list_any, option_map, ne_eqb, eqb-true, and_parts, and_from, both_ways}
use Rattle.offences.proofs.Common.{false_from_ne_true, slice_get-get_or, In, All-In, list_any-source, Square, Covers, TypeId, RawTech, IsWellFormed}
use Rattle.offences.proofs.Common.{is_channel, PartKind, TypedStack, number_of, SetLayout, flat_type, HasKind, is_hidden, is_shared, is_lost, spoils}
use Rattle.offences.proofs.Common.{is_spoiled, kind_in, has_kind, on_plane, IsTypedStack}
use Rattle.std.specs.Prelude.{IsTrue, ◌||◌, not, count_by}
use Rattle.std.proofs.lemmas.Bool.{eqb-false, or_cases, or_left, or_right, not-true}
use Rattle.std.proofs.lemmas.Bool.{not_from_false}
use Rattle.geo_core.proofs.FiniteSets.Searches.{list_any-passes}
use Rattle.tech_model.specs.declared.raw.FetRule.{FetRule}
use Rattle.tech_model.specs.Types.{is_within}
use Rattle.tech_model.specs.WellFormed.{IsFet}
use Rattle.tech_model.proofs.WellFormedLaws.{type_bounds}
use Rattle.offences.specs.Offences.{parts_with, HasNoType, HidesPart, SharesChannel, LosesChannel}
use Rattle.offences.proofs.KindLaws.{kind_in-listed, kind_is_listed, parts_with-kinds}

-- space is no channel
pub channel_is_material : (raw : RawTech) → IsWellFormed raw → (kind : ℕ) → IsTrue (is_channel raw kind) → kind ≢ 0
channel_is_material raw formed kind channel none =
    let test : FetRule → Bool = λ fet. fet.kind.0 == kind in
    let found = list_any-source test raw.fets channel in
    let fet = All-In (IsFet raw) raw.fets found.0 formed.fets found.1.0 in
    let bounds = type_bounds raw found.0.kind.0 fet.kind in
    let same = eqb-true found.0.kind.0 kind found.1.1 in
    omega (arith, bounds.0, same, none)

-- the part at a position of a list
pub there_is : (parts : List SetLayout) (position : ℕ) → position < length parts → (part : SetLayout) × (slice_get parts position ≡ Some part)
there_is parts position below = let none : SetLayout = λ place. 0 in (get_or parts position none, slice_get-get_or parts position none below)

-- a type that is some type is that type
pub same_some : (a b : ℕ) → Some a ≡ Some b → a ≡ b
same_some a b e = cc

-- what is some type is not undefined
pub some_is_not_none : (found : Option ℕ) (kind : ℕ) → found ≡ Some kind → found ≡ None → ⊥
some_is_not_none found kind some none = absurd (cc)

-- The four offences that are seen in the place alone.
abbrev pub OffendsAlone : RawTech → List SetLayout → ℕ → Square → Type 0
OffendsAlone raw parts plane square =
    HasNoType raw parts (on_plane plane square)
    ⊎ (HidesPart raw parts (on_plane plane square)
    ⊎ (SharesChannel raw parts (on_plane plane square)
    ⊎ LosesChannel raw parts (on_plane plane square)))

module _ (raw : RawTech) (formed : IsWellFormed raw) (parts : List SetLayout) (plane : ℕ) (typed_stack : TypedStack)
    (is : IsTypedStack raw parts plane typed_stack)
    (square : Square) (covers : Covers typed_stack.area square) where
  -- an entry of a piece says what a part has there
  pub entry_has : (entry : PartKind) → In entry typed_stack.kinds → HasKind raw parts entry.part (on_plane plane square) entry.kind.0
  entry_has entry h =
      let part = there_is parts entry.part (is.within entry h) in
      record {
        part = part.0;
        there = part.1;
        is = is.kinds square covers entry.part part.0 part.1 ∙ ap Some (kind_in-listed typed_stack.kinds is.ordered entry h);
      }

  -- The part's type is an entry.
  pub record HasEntry (position wanted : ℕ) : Type 0 where
    pub entry : PartKind
    pub listed : In entry typed_stack.kinds
    pub part : entry.part ≡ position
    pub kind : entry.kind.0 ≡ wanted

  -- what a part has there, other than space, is an entry
  pub has_entry : (position kind : ℕ) → HasKind raw parts position (on_plane plane square) kind → kind ≢ 0 → HasEntry position kind
  has_entry position kind has material =
      let same : kind_in typed_stack.kinds position ≡ kind =
      same_some (kind_in typed_stack.kinds position) kind (sym (is.kinds square covers position has.part has.there) ∙ has.is) in
      let listed = kind_is_listed typed_stack.kinds position (λ none. material (sym same ∙ none)) in
      record { entry = listed.entry; listed = listed.listed; part = listed.is; kind = sym listed.kind ∙ same }

  count_is : (flat : ℕ) → flat ≢ 0 → parts_with raw parts (on_plane plane square) flat ≡ count_by (has_kind flat) typed_stack.kinds
  count_is flat material = parts_with-kinds raw parts (on_plane plane square) typed_stack.kinds flat material is.ordered is.within
      (is.kinds square covers)

  spoiled_by : (flat : Option TypeId) → typed_stack.flat ≡ flat → spoils raw flat typed_stack.kinds ≡ true → OffendsAlone raw parts plane square
  spoiled_by None e spoiled = inl (is.flat square covers ∙ ap (option_map number_of) e)
  spoiled_by (Some flat) e spoiled =
      let type : flat_type raw parts (on_plane plane square) ≡ Some flat.0 = is.flat square covers ∙ ap (option_map number_of) e in
      let hides = list_any (is_hidden raw flat.0) typed_stack.kinds in
      let shares = is_shared raw flat.0 typed_stack.kinds in
      let loses = list_any (is_lost raw flat.0) typed_stack.kinds in
      elim (or_cases (hides || shares) loses spoiled) [
        | inl first ↦ elim (or_cases hides shares first) [
          | inl h ↦ (let found = list_any-source (is_hidden raw flat.0) typed_stack.kinds h in
              inr (inl (record {
                position = found.0.part;
                kind = found.0.kind.0;
                has = entry_has found.0 found.1.0;
                material = is.material found.0 found.1.0;
                outside = λ other f within.
                    both_ways (is_within raw found.0.kind.0 flat.0) (not-true (is_within raw found.0.kind.0 flat.0) found.1.1)
                    (subst (λ (t : ℕ). is_within raw found.0.kind.0 t ≡ true) (same_some other flat.0 (sym f ∙ type)) within);
              })))
          | inr h ↦ (let both = and_parts (is_channel raw flat.0) (not (count_by (has_kind flat.0) typed_stack.kinds == 1)) h in
              inr (inr (inl (record {
                fet = flat.0;
                flat = type;
                channel = both.0;
                count = λ one. eqb-false (count_by (has_kind flat.0) typed_stack.kinds) 1
                    (not-true (count_by (has_kind flat.0) typed_stack.kinds == 1) both.1)
                    (sym (count_is flat.0 (channel_is_material raw formed flat.0 both.0)) ∙ one);
              }))))
        ]
        | inr h ↦ (let found = list_any-source (is_lost raw flat.0) typed_stack.kinds h in
            let both = and_parts (is_channel raw found.0.kind.0) (not (found.0.kind.0 == flat.0)) found.1.1 in
            inr (inr (inr (record {
              position = found.0.part;
              fet = found.0.kind.0;
              has = entry_has found.0 found.1.0;
              channel = both.0;
              flat = λ f. eqb-false found.0.kind.0 flat.0 (not-true (found.0.kind.0 == flat.0) both.1)
                  (same_some found.0.kind.0 flat.0 (sym f ∙ type));
            }))))
      ]

  -- a square of a spoiled piece offends
  pub spoiled_offends : is_spoiled raw typed_stack ≡ true → OffendsAlone raw parts plane square
  spoiled_offends = spoiled_by typed_stack.flat refl

  alone_spoils : (flat : Option TypeId) → typed_stack.flat ≡ flat → OffendsAlone raw parts plane square → spoils raw flat typed_stack.kinds ≡ true
  alone_spoils None e offends = refl
  alone_spoils (Some flat) e offends =
      let type : flat_type raw parts (on_plane plane square) ≡ Some flat.0 = is.flat square covers ∙ ap (option_map number_of) e in
      let hides = list_any (is_hidden raw flat.0) typed_stack.kinds in
      let shares = is_shared raw flat.0 typed_stack.kinds in
      let loses = list_any (is_lost raw flat.0) typed_stack.kinds in
      elim offends [
        | inl none ↦ absurd (some_is_not_none (flat_type raw parts (on_plane plane square)) flat.0 type none)
        | inr (inl h) ↦ (let found = has_entry h.position h.kind h.has h.material in
            let not_within : is_within raw found.entry.kind.0 flat.0 ≡ false =
            false_from_ne_true (is_within raw found.entry.kind.0 flat.0)
            (λ within. h.outside flat.0 type (subst (λ (k : ℕ). is_within raw k flat.0 ≡ true) found.kind within)) in
            or_left (hides || shares) loses (or_left hides shares
            (list_any-passes (is_hidden raw flat.0) typed_stack.kinds found.entry found.listed
            (not_from_false (is_within raw found.entry.kind.0 flat.0) not_within))))
        | inr (inr (inl h)) ↦ (let same = same_some h.fet flat.0 (sym h.flat ∙ type) in
            let channel : is_channel raw flat.0 ≡ true = subst (λ (k : ℕ). is_channel raw k ≡ true) same h.channel in
            let count : count_by (has_kind flat.0) typed_stack.kinds ≢ 1 =
            λ one. h.count (ap (parts_with raw parts (on_plane plane square)) same
            ∙ count_is flat.0 (channel_is_material raw formed flat.0 channel) ∙ one) in
            or_left (hides || shares) loses (or_right hides shares
            (and_from (is_channel raw flat.0) (not (count_by (has_kind flat.0) typed_stack.kinds == 1)) channel
            (not_from_false (count_by (has_kind flat.0) typed_stack.kinds == 1) (ne_eqb (count_by (has_kind flat.0) typed_stack.kinds) 1 count)))))
        | inr (inr (inr h)) ↦ (let found = has_entry h.position h.fet h.has (channel_is_material raw formed h.fet h.channel) in
            let channel : is_channel raw found.entry.kind.0 ≡ true = subst (λ (k : ℕ). is_channel raw k ≡ true) (sym found.kind) h.channel in
            let differs : found.entry.kind.0 ≢ flat.0 = λ same. h.flat (type ∙ ap Some (sym same ∙ found.kind)) in
            or_right (hides || shares) loses
            (list_any-passes (is_lost raw flat.0) typed_stack.kinds found.entry found.listed
            (and_from (is_channel raw found.entry.kind.0) (not (found.entry.kind.0 == flat.0)) channel
            (not_from_false (found.entry.kind.0 == flat.0) (ne_eqb found.entry.kind.0 flat.0 differs)))))
      ]

  -- and a piece with a square that offends alone is spoiled
  pub offends_spoiled : OffendsAlone raw parts plane square → is_spoiled raw typed_stack ≡ true
  offends_spoiled = alone_spoils typed_stack.flat refl
