-- What is known of a line of the section `contact` that breaks no rule.
use Rattle.tech_draft.proofs.Common.{◌≡◌, ◌≢◌, ◌+◌, ◌<◌, ◌==◌, ℕ, Bool, true, false, List, [], ◌∷◌, ◌++◌, length, map, refl, sym, ap, subst, ◌∙◌}
use Rattle.tech_draft.proofs.Common.{arith, inl, inr, IsTrue, Ok, not, nat_lt, list_any, cases_Bool, cases_eq, or_parts, not-false, not-true}
use Rattle.tech_draft.proofs.Common.{ltb-false, eqb-true, eqb-false, ne_eqb, true≢false, length-map, In, Distinct, In-append_left, In-map}
use Rattle.tech_draft.proofs.Common.{In-map_source, list_any-In, LayerId, TypeId, RawTech, BadForm, Twice, MOST_TYPES, type_number, layer_number}
use Rattle.tech_draft.proofs.Common.{is_type, plane_of, Drafted, has_type, type_of_word, plane_of_word, layer_of_word, has_repeat, other_residues}
use Rattle.tech_draft.proofs.Common.{residues_of_layer, with_contact, IsPart}
use Rattle.std.proofs.Common.{filter}
use Rattle.std.proofs.lemmas.Simd.{map-map}
use Rattle.finite_sets.proofs.Members.{In-push, In-filter, In-filter_source, In-filter_passes}
use Rattle.finite_sets.proofs.Images.{Distinct-map_filter}
use Rattle.tech_model.specs.declared.faults.TechFault.TheVariants.{ContactPart, TooMany}
use Rattle.tech_model.specs.declared.faults.LimitedList.TheVariants as lists
use Rattle.tech_draft.specs.Lookups.{is_contact}
use Rattle.tech_draft.specs.SetLines.{has_number, are_misplaced, is_part}
use Rattle.tech_draft.specs.SetLines.{new_contact}
use Rattle.tech_draft.specs.WordRules.{refuse}
use Rattle.tech_draft.specs.declared.draft.word_rules.WordRule.TheVariants as rule
use Rattle.tech_draft.proofs.LookupLaws.{IsNamed, part_word, single_word}
use Rattle.tech_draft.proofs.ContactSteps.{IsContactPlan, IsContactLine}
use Rattle.tech_draft.proofs.Refusals.{right, and_then-ok, rule-ok, none_breaks}

-- ---- planes

-- where no number stands twice, all differ, and none stands among those before them
repeat_none : (before numbers : List ℕ) → has_repeat before numbers ≡ false → Distinct numbers × ((n : ℕ) → In n before → In n numbers → ⊥)
repeat_none before [] none = (tt, λ n is absent. absent)
repeat_none before (m ∷ numbers) none =
    let parts = or_parts (has_number before m) (has_repeat (before ++ m ∷ []) numbers) none in
    let rest = repeat_none (before ++ m ∷ []) numbers parts.1 in (
      ((λ is. rest.1 m (In-push before m) is), rest.0),
      λ n is among. elim among [
        | inl same ↦ eqb-false n m (list_any-In (λ (k : ℕ). k == m) before n parts.0 is) (sym same)
        | inr later ↦ rest.1 n (In-append_left n before (m ∷ []) is) later
      ],
    )

placed : (raw : RawTech) (base : List ℕ) (residues : List (List ℕ)) → are_misplaced raw base residues ≡ false
    → Distinct (map (plane_of_word raw) residues) × (has_number (map (plane_of_word raw) residues) (plane_of_word raw base) ≡ true)
unfolding are_misplaced
placed raw base residues well =
    let parts = or_parts (has_repeat [] (map (plane_of_word raw) residues))
    (not (has_number (map (plane_of_word raw) residues) (plane_of_word raw base))) well in (
      (repeat_none [] (map (plane_of_word raw) residues) parts.0).0,
      not-false
          (has_number (map (plane_of_word raw) residues) (plane_of_word raw base)) parts.1,
    )

-- a number that a list has is that of one of the things that the list is made of
number_source : {X : Type 0} (f : X → ℕ) (n : ℕ) (xs : List X) → has_number (map f xs) n ≡ true → (x : X) × (In x xs × (f x ≡ n))
number_source f n [] some = absurd (true≢false (sym some))
number_source f n (x ∷ xs) some = elim (cases_Bool (f x == n)) [
  | inl here ↦ (x, (inl refl, eqb-true (f x) n here))
  | inr other ↦ let later = number_source f n xs (rw other at some) in (later.0, (inr later.1.0, later.1.1))
]

-- a residue on another plane than the base's
abbrev is_elsewhere : RawTech → List ℕ → List ℕ → Bool
is_elsewhere raw base word = not (plane_of_word raw word == plane_of_word raw base)

other_planes : (raw : RawTech) (base : List ℕ) (residues : List (List ℕ)) → are_misplaced raw base residues ≡ false
    → Distinct (plane_of_word raw base ∷ map (λ t. plane_of raw t.0) (other_residues raw base residues))
other_planes raw base residues well =
    let others = filter (is_elsewhere raw base) residues in
    subst (λ (ps : List ℕ). Distinct (plane_of_word raw base ∷ ps))
    (sym (map-map (λ (t : TypeId). plane_of raw t.0) (type_of_word raw) others)) (
      (λ is.
          let source = In-map_source (plane_of_word raw) (plane_of_word raw base) others is in
          let apart = not-true (plane_of_word raw source.0 == plane_of_word raw base)
          (In-filter_passes (is_elsewhere raw base) source.0 residues source.1.0) in
          eqb-false (plane_of_word raw source.0) (plane_of_word raw base) apart source.1.1),
      Distinct-map_filter (plane_of_word raw) (is_elsewhere raw base) residues (placed raw base residues well).0,
    )

holds_something : {X : Type 0} (x : X) (xs : List X) → In x xs → 0 < length xs
holds_something x [] absent = absurd absent
holds_something x (y ∷ xs) inside = omega arith

-- of two residues on two planes one stands on another plane than the base
others_some : (raw : RawTech) (base : List ℕ) (residues : List (List ℕ)) → 1 < length residues → Distinct (map (plane_of_word raw) residues)
    → 0 < length (filter (is_elsewhere raw base) residues)
others_some raw base [] many apart = absurd (omega arith)
others_some raw base (a ∷ []) many apart = absurd (omega arith)
others_some raw base (a ∷ b ∷ words) many apart =
    elim (cases_eq (plane_of_word raw a) (plane_of_word raw base)) [
      | inl same ↦
          let other = λ (too : plane_of_word raw b ≡ plane_of_word raw base). apart.0 (inl (too ∙ sym same)) in
          holds_something b (filter (is_elsewhere raw base) (a ∷ b ∷ words))
          (In-filter (is_elsewhere raw base) b (a ∷ b ∷ words) (inr (inl refl))
          (ap not (ne_eqb (plane_of_word raw b) (plane_of_word raw base) other)))
      | inr other ↦
          holds_something a (filter (is_elsewhere raw base) (a ∷ b ∷ words))
          (In-filter (is_elsewhere raw base) a (a ∷ b ∷ words) (inl refl)
          (ap not (ne_eqb (plane_of_word raw a) (plane_of_word raw base) other)))
    ]

-- ---- the line

part_free : (draft : Drafted) (t : TypeId) → is_part draft t ≡ false
    → (list_any (λ pair. pair.1.0 == t.0) draft.residues ≡ false) × (has_type draft.used t ≡ false)
unfolding is_part
part_free draft t none = or_parts (list_any (λ pair. pair.1.0 == t.0) draft.residues) (has_type draft.used t) none

-- the word of one of the other residues
other_word : (raw : RawTech) (base : List ℕ) (residues : List (List ℕ)) (t : TypeId) → In t (other_residues raw base residues)
    → (word : List ℕ) × (In word residues × (type_of_word raw word ≡ t))
other_word raw base residues t inside =
    let source = In-map_source (type_of_word raw) t (filter (is_elsewhere raw base) residues) inside in
    (source.0, (In-filter_source (is_elsewhere raw base) source.0 residues source.1.0, source.1.1))

-- a line that breaks no rule makes the base's layer a contact with these residues
pub new_contact-keeps : (draft next : Drafted) (base : List ℕ) (residues : List (List ℕ)) → 1 < length residues
    → ((word : List ℕ) → In word (base ∷ residues) → IsNamed draft.raw word) → new_contact draft base residues ≡ Ok next
    → IsContactPlan draft.raw (layer_of_word draft.raw base) (type_of_word draft.raw base) (other_residues draft.raw base residues)
    × IsContactLine draft (layer_of_word draft.raw base) (type_of_word draft.raw base) (other_residues draft.raw base residues)
    (residues_of_layer draft.raw (layer_of_word draft.raw base) residues)
    × (right (with_contact draft base residues) ≡ right next)
new_contact-keeps draft next base residues many named is =
    let raw = draft.raw in
    let own = type_of_word raw base in
    let layer = layer_of_word raw base in
    let others = other_residues raw base residues in
    let count = length raw.types + length others in
    let place = rule-ok (are_misplaced raw base residues) BadForm _ next is in
    let once = rule-ok (is_contact raw base) (Twice base) _ next place.1 in
    let part = rule-ok (is_part draft own) (ContactPart base) _ next once.1 in
    let atoms = and_then-ok (refuse raw (rule.ContactOr own) residues) _ next part.1 in
    let room = rule-ok (nat_lt MOST_TYPES count) (TooMany lists.Types) (Ok (with_contact draft base residues)) next atoms.1.1 in
    let noted : List ℕ → LayerId × TypeId = λ word. (layer_number layer, type_of_word raw word) in
    let planes = placed raw base residues place.0 in
    let home = number_source (plane_of_word raw) (plane_of_word raw base) residues planes.1 in
    let free = part_free draft own part.0 in
    let of_base = named base (inl refl) in
    let plan : IsContactPlan raw layer own others = record {
      below = of_base.below;
      single = single_word raw base of_base once.0;
      is_own = of_base.is;
      own_layer = of_base.layer;
      limit = ltb-false MOST_TYPES count room.0;
      some = omega (
        arith,
        others_some raw base residues many planes.0,
        length-map (filter (is_elsewhere raw base) residues)
            (type_of_word raw),
      );
      residues = λ t inside.
          let word = other_word raw base residues t inside in
          subst (λ (u : TypeId). IsTrue (is_type raw u.0)) word.1.1 (named word.0 (inr word.1.0)).is;
      planes = other_planes raw base residues place.0;
    } in
    let line : IsContactLine draft layer own others (residues_of_layer raw layer residues) = record {
      unused = λ t inside. eqb-false t own.0 (list_any-In (λ (u : TypeId). u.0 == own.0) draft.used (type_number t) free.1 inside);
      no_residue = λ pair inside. eqb-false pair.1.0 own.0
          (list_any-In (λ (pair : LayerId × TypeId). pair.1.0 == own.0) draft.residues pair free.0 inside);
      residues = λ pair inside.
          let word = In-map_source noted pair residues inside in
          let kept = or_parts (is_contact raw word.0) ((type_of_word raw word.0).0 == own.0)
          (none_breaks raw (rule.ContactOr own) residues atoms.1.0 word.0 word.1.0) in
          subst (λ (p : LayerId × TypeId). (p.0.0 ≡ layer) × (IsPart raw p.1.0 × (p.1.0 ≢ own.0))) word.1.1
          (refl, (part_word raw word.0 (named word.0 (inr word.1.0)) kept.0, eqb-false (type_of_word raw word.0).0 own.0 kept.1));
      home = type_of_word raw home.0;
      home_noted = In-map noted home.0 residues home.1.0;
      home_plane = home.1.1;
      others_noted = λ t inside.
          let word = other_word raw base residues t inside in
          subst (λ (u : TypeId). In (layer_number layer, u) (residues_of_layer raw layer residues)) word.1.1
          (In-map noted word.0 residues word.1.0);
    } in
    (plan, line, room.1)
