-- The parts of a technology: each is a set with one bit, and they are found type by type.
use Rattle.cif_writing.proofs.Common.{◌≡◌, ◌+◌, ◌<◌, ℕ, Bool, false, List, [], ◌∷◌, ◌++◌, length, map, get_or, refl, sym, ap, ◌∙◌, append_assoc}
use Rattle.cif_writing.proofs.Common.{append-nil, arith, Some, slice_get, length-map, slice_get-get_or, In, In-slice_get, slice_get-map_there}
use Rattle.cif_writing.proofs.Common.{PartSet, RawTech, parts_of, is_atom, is_second_image, own_mark, atom_sets, mark_sets, part_sets}
use Rattle.std.proofs.Common.{◌≢◌, ◌-◌, ◌^◌, inl, inr, suc, true, filter}
use Rattle.std.proofs.Common.{cond}
use Rattle.std.specs.Prelude.{IsTrue}
use Rattle.std.specs.List.{range_with_len}
use Rattle.std.proofs.lemmas.Bool.{eqb-true}
use Rattle.std.proofs.lemmas.Nat.{pow_pos}
use Rattle.geo_core.proofs.FiniteSets.Members.{In-append_cases, In-filter_passes, In-filter_source, In-map_source}
use Rattle.tech_model.specs.declared.raw.TypeId.{TypeId}
use Rattle.tech_model.specs.Rules.{types_of}
use Rattle.tech_model.specs.Types.{images_of, is_type, layer_of}
use Rattle.tech_model.specs.WellFormed.{IsWellFormed}
use Rattle.tech_model.proofs.MarkLaws.{mark_of-contact}
use Rattle.tech_model.proofs.RuleLaws.{types_of-type}
use Rattle.tech_model.proofs.SetLaws.{contact_of}
use Rattle.cif_writing.specs.Parts.{is_second}

-- ---- sets with one bit

-- of two images or more there is a second
many_images : (images : List TypeId) (t : ℕ) → is_second images t ≡ true → 1 < length images
many_images [] t is = absurd (let no : ⊥ = cc in no)
many_images (first ∷ []) t is = absurd (let no : ⊥ = cc in no)
many_images (first ∷ second ∷ images) t is = omega arith

-- The set has one bit.
abbrev pub IsBit : ℕ → Type 0
IsBit set = (k : ℕ) × (set ≡ 2 ^ k)

module _ (raw : RawTech) (w : IsWellFormed raw) where
  atom_bit : (part : ℕ) → In part (atom_sets raw) → IsBit part
  atom_bit part among =
      let from = In-map_source (parts_of raw) part (filter (is_atom raw) (types_of raw)) among in
      let t = from.0 in
      (t - 1, sym from.1.1 ∙ eqb-true (parts_of raw t) (2 ^ (t - 1)) (In-filter_passes (is_atom raw) t (types_of raw) from.1.0))

  mark_bit : (part : ℕ) → In part (mark_sets raw) → IsBit part
  mark_bit part among =
      let from = In-map_source (own_mark raw) part (filter (is_second_image raw) (types_of raw)) among in
      let t = from.0 in
      let is : IsTrue (is_type raw t) = types_of-type raw t (In-filter_source (is_second_image raw) t (types_of raw) from.1.0) in
      let many = many_images (images_of raw (layer_of raw t)) t (In-filter_passes (is_second_image raw) t (types_of raw) from.1.0) in
      let contact = contact_of raw t w is many in
      (contact.bit, sym from.1.1 ∙ mark_of-contact raw (layer_of raw t) w (w.type_layers t is) many contact)

  -- each part is a set with one bit
  pub part_bit : (k part : ℕ) → slice_get (part_sets raw) k ≡ Some part → IsBit part
  part_bit k part at = elim (In-append_cases part (atom_sets raw) (mark_sets raw) (In-slice_get (part_sets raw) k part at)) [
    | inl atom ↦ atom_bit part atom
    | inr mark ↦ mark_bit part mark
  ]

  -- and so it is not empty
  pub part_some : (k part : ℕ) → slice_get (part_sets raw) k ≡ Some part → part ≢ 0
  part_some k part at none = let bit = part_bit k part at in let some = pow_pos bit.0 in omega (arith, some, none, bit.1)

-- ---- the parts as they are kept

module _ (raw : RawTech) (parts : List PartSet) (are : map (λ (part : PartSet). part.0) parts ≡ part_sets raw) where
  -- the part at a place
  pub part_at : (k : ℕ) (d : PartSet) → k < length parts → slice_get (part_sets raw) k ≡ Some (get_or parts k d).0
  part_at k d below =
      ap (λ (l : List ℕ). slice_get l k) (sym are)
      ∙ slice_get-map_there (λ (part : PartSet). part.0) parts k (get_or parts k d) (slice_get-get_or parts k d below)

  -- and how many there are
  pub length-part_sets : length (part_sets raw) ≡ length parts
  length-part_sets = ap length (sym are) ∙ length-map parts (λ (part : PartSet). part.0)

-- ---- type by type

module _ (f : ℕ → ℕ) (test : ℕ → Bool) where
  -- what is made of those of the numbers from one on that pass
  abbrev pub made_from : ℕ → ℕ → List ℕ
  made_from t end = map f (filter test (range_with_len t (end - t)))

  next : (t end : ℕ) → t < end → range_with_len t (end - t) ≡ t ∷ range_with_len (t + 1) (end - (t + 1))
  next t end below =
      let more : end - t ≡ suc (end - (t + 1)) = omega arith in
      ap (range_with_len t) more

  one_and_more : (t : ℕ) (rest : List ℕ) → map f (filter test (t ∷ rest)) ≡ map f (filter test (t ∷ [])) ++ map f (filter test rest)
  one_and_more t rest = by (test t)
    where
      by : (b : Bool) → map f (cond b (t ∷ filter test rest) (filter test rest)) ≡ map f (cond b (t ∷ []) []) ++ map f (filter test rest)
      by true = refl
      by false = refl

  -- with the next number, what was found and what is left are still all
  pub made_on : (t end : ℕ) (found new whole : List ℕ) → t < end → found ++ made_from t end ≡ whole → new ≡ found ++ map f (filter test (t ∷ []))
      → new ++ made_from (t + 1) end ≡ whole
  made_on t end found new whole below before is =
      let rest = range_with_len (t + 1) (end - (t + 1)) in
      ap (λ (l : List ℕ). l ++ made_from (t + 1) end) is ∙ append_assoc found (map f (filter test (t ∷ []))) (made_from (t + 1) end)
      ∙ ap (λ (l : List ℕ). found ++ l) (sym (one_and_more t rest) ∙ ap (λ (l : List ℕ). map f (filter test l)) (sym (next t end below)))
      ∙ before

  -- a number that does not pass adds nothing
  pub made_none : (t : ℕ) (found : List ℕ) → test t ≡ false → found ≡ found ++ map f (filter test (t ∷ []))
  made_none t found fails = sym (ap (λ (b : Bool). found ++ map f (cond b (t ∷ []) [])) fails ∙ append-nil found)

  -- and one that passes adds what is made of it
  pub made_one : (t x : ℕ) (found new : List ℕ) → test t ≡ true → x ≡ f t → new ≡ found ++ x ∷ [] → new ≡ found ++ map f (filter test (t ∷ []))
  made_one t x found new passes is added =
      added ∙ ap (λ (y : ℕ). found ++ y ∷ []) is ∙ sym (ap (λ (b : Bool). found ++ map f (cond b (t ∷ []) [])) passes)

  -- behind the last number nothing is left
  pub made_all : (t end : ℕ) (found whole : List ℕ) → end - t ≡ 0 → found ++ made_from t end ≡ whole → found ≡ whole
  made_all t end found whole none before =
      sym (ap (λ (n : ℕ). found ++ map f (filter test (range_with_len t n))) none ∙ append-nil found) ∙ before
