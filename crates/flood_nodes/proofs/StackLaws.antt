-- Types of two planes connect where they are images of one layer.
use Rattle.flood_nodes.proofs.Common.{◌≡◌, ◌≢◌, inl, inr, ℕ, Bool, true, false, eqb, ◌&&◌, List, [], ◌∷◌, length, Option, Some, None, IsTrue, refl}
use Rattle.flood_nodes.proofs.Common.{sym, ◌∙◌, ap, subst, arith, nat_lt, list_any, false≢true, and_parts, nat_tests, In, In-index, TypeId, RawTech}
use Rattle.flood_nodes.proofs.Common.{is_type, plane_of, IsWellFormed, has_other_images, reaches}
use Rattle.std.proofs.Common.{◌||◌}
use Rattle.std.specs.Prelude.{is_some, find}
use Rattle.std.proofs.lemmas.Bool.{cases_Bool}
use Rattle.geo_core.proofs.FiniteSets.Searches.{find-none}
use Rattle.tech_model.specs.Types.{layer_of, images_of, image_on, is_on, is_of, is_pair, connects}
use Rattle.tech_model.specs.WellFormed.{IsPair}
use Rattle.flood_nodes.proofs.ShareLaws.{one_plane, two_planes}

pub same_from_test : (m n : ℕ) → eqb m n ≡ true → m ≡ n
same_from_test m n test = grind (arith, nat_tests)

-- one of two that passes, where the first does not
second_passes : (p q : Bool) → (p || q) ≡ true → p ≡ false → q ≡ true
second_passes true q e f = absurd (false≢true (sym f))
second_passes false q e f = e

pair_plane : (raw : RawTech) (s t : ℕ) (pair : TypeId × TypeId) → IsPair raw pair → is_of s t pair ≡ true → plane_of raw s ≡ plane_of raw t
pair_plane raw s t pair is test = elim (cases_Bool (eqb pair.0.0 s && eqb pair.1.0 t)) [
  | inl first ↦ (let e = and_parts (eqb pair.0.0 s) (eqb pair.1.0 t) first in
      ap (plane_of raw) (sym (same_from_test pair.0.0 s e.0)) ∙ is.plane ∙ ap (plane_of raw) (same_from_test pair.1.0 t e.1))
  | inr fails ↦ (let e = and_parts (eqb pair.0.0 t) (eqb pair.1.0 s) (second_passes (eqb pair.0.0 s && eqb pair.1.0 t) (eqb pair.0.0 t && eqb pair.1.0 s)
      test fails) in
      ap (plane_of raw) (sym (same_from_test pair.1.0 s e.1)) ∙ sym is.plane ∙ ap (plane_of raw) (same_from_test pair.0.0 t e.0))
]

no_pair : (raw : RawTech) (s t : ℕ) → plane_of raw s ≢ plane_of raw t → (pairs : List (TypeId × TypeId)) → ((pair : TypeId × TypeId) → In pair pairs
    → IsPair raw pair)
    → list_any (is_of s t) pairs ≡ false
no_pair raw s t differ [] each = refl
no_pair raw s t differ (pair ∷ pairs) each = elim (cases_Bool (is_of s t pair)) [
  | inl test ↦ absurd (differ (pair_plane raw s t pair (each pair (inl refl)) test))
  | inr fails ↦ ap (λ (v : Bool). v || list_any (is_of s t) pairs) fails ∙ no_pair raw s t differ pairs (λ p i. each p (inr i))
]

-- types that connect on two planes are of one layer
one_layer : (raw : RawTech) (s t : ℕ) → IsWellFormed raw → connects raw s t ≡ true → plane_of raw s ≢ plane_of raw t → layer_of raw s ≡ layer_of raw t
unfolding connects
one_layer raw s t well connected differ =
    let rest = (and_parts (is_type raw s && is_type raw t) (eqb s t || is_pair raw s t || eqb (layer_of raw s) (layer_of raw t)) connected).1 in
    let none = no_pair raw s t differ raw.pairs (λ p i. let x = In-index p raw.pairs i in subst (IsPair raw) (x.1.1 p) (well.pairs x.0 p x.1.0)) in
    let not_same = two_planes s t (λ e. differ (ap (plane_of raw) e)) in
    same_from_test (layer_of raw s) (layer_of raw t) (second_passes (eqb s t || is_pair raw s t) (eqb (layer_of raw s) (layer_of raw t)) rest
    (ap (λ (v : Bool). v || is_pair raw s t) not_same ∙ none))

found_some : (raw : RawTech) (plane : ℕ) (images : List TypeId) (t : TypeId) → In t images → plane_of raw t.0 ≡ plane → (found : Option TypeId)
    → find (is_on raw plane) images ≡ found → is_some found ≡ true
found_some raw plane images t i on (Some x) e = refl
found_some raw plane images t i on None e =
    absurd (false≢true (sym (find-none (is_on raw plane) images t e i) ∙ one_plane (plane_of raw t.0) plane on))

two_images : (images : List TypeId) (s t : ℕ) → In (record { 0 = s }) images → In (record { 0 = t }) images → s ≢ t → nat_lt 1 (length images) ≡ true
two_images [] s t i j differ = absurd i
two_images (x ∷ []) s t (inl e) (inl f) differ = absurd (differ (ap (λ (v : TypeId). v.0) (sym e ∙ f)))
two_images (x ∷ []) s t (inr i) j differ = absurd i
two_images (x ∷ []) s t (inl e) (inr j) differ = absurd j
two_images (x ∷ y ∷ rest) s t i j differ = long (length rest)
  where
    long : (n : ℕ) → nat_lt 1 (length (x ∷ y ∷ rest)) ≡ true
    long n = grind (arith, nat_tests)

-- The type's layer has images on several planes, and one on this plane.
pub record IsImaged (raw : RawTech) (plane kind : ℕ) : Type 0 where
  pub several : has_other_images raw kind ≡ true
  pub reaches : reaches raw plane kind ≡ true

pub imaged : (raw : RawTech) (s t : ℕ) → IsWellFormed raw → IsTrue (is_type raw s) → IsTrue (is_type raw t) → connects raw s t ≡ true
    → plane_of raw s ≢ plane_of raw t → IsImaged raw (plane_of raw t) s
imaged raw s t well s_type t_type connected differ =
    let layer = one_layer raw s t well connected differ in
    let mine = well.is_image s s_type in
    let other : In (record { 0 = t }) (images_of raw (layer_of raw s)) = subst (λ (l : ℕ). In (record { 0 = t }) (images_of raw l)) (sym layer)
    (well.is_image t t_type) in
    record {
      several = two_images (images_of raw (layer_of raw s)) s t mine other (λ e. differ (ap (plane_of raw) e));
      reaches = found_some raw (plane_of raw t) (images_of raw (layer_of raw s)) (record { 0 = t }) other refl (image_on raw (layer_of raw s) (plane_of raw
          t)) refl;
    }
