-- `cifstat` does one thing: a set has one number of squares, and a text is past one first limit at most.
use Rattle.cif_commands.proofs.Common.{◌≡◌, ◌∙◌, ◌<◌, inl, inr, ℕ, ℤ, pos, List, [], ◌∷◌, length, get_or, refl, ap, sym, arith, zip, Result, Ok, Err}
use Rattle.cif_commands.proofs.Common.{At, FetchFault, ReportLine, text_in, Square, CifParts, IsMeant, CifFault, cif_in, IsFirstPast, IsWithinLimits}
use Rattle.cif_commands.proofs.Common.{FreeEffect, refused, too_many, cif_file, MeasuresCif, MeasuresFetched, MeasuresText, TellsLayers, stat_lines}
use Rattle.std.specs.Prelude.{slice_get, Some}
use Rattle.std.proofs.lemmas.Option.{slice_get-get_or}
use Rattle.std.proofs.lemmas.List.{same_lists}
use Rattle.geo_core.proofs.FiniteSets.Totals.{Total-unique}
use Rattle.cif_model.specs.Sizes.{CifSize, size_of}
use Rattle.cif_expansion.specs.declared.limits.CifLimit.{CifLimit}
use Rattle.cif_expansion.specs.declared.limits.CifLimit.TheVariants.{Depth, Elements, Boxes}
use Rattle.line_answers.specs.LineEffects.{accepted}
use Rattle.cif_commands.specs.OneEffects.{CifstatMeansOneEffect}
use Rattle.cif_commands.specs.Refusals.{cif_limit_word}

-- ---- limits

-- a size that is past none is past no first one
not_past : (size : CifSize) (limit : CifLimit) → IsWithinLimits size → IsFirstPast limit size → ⊥
not_past size Depth within past = omega (arith, within.depth, past)
not_past size Elements within past = omega (arith, within.instances, past.1)
not_past size Boxes within past = omega (arith, within.boxes, past.2)

-- it is past one first limit at most
one_limit : (size : CifSize) (limit other : CifLimit) → IsFirstPast limit size → IsFirstPast other size → limit ≡ other
one_limit size Depth Depth p q = refl
one_limit size Depth Elements p q = absurd (omega (arith, p, q.0))
one_limit size Depth Boxes p q = absurd (omega (arith, p, q.0))
one_limit size Elements Depth p q = absurd (omega (arith, q, p.0))
one_limit size Elements Elements p q = refl
one_limit size Elements Boxes p q = absurd (omega (arith, p.1, q.1))
one_limit size Boxes Depth p q = absurd (omega (arith, q, p.0))
one_limit size Boxes Elements p q = absurd (omega (arith, q.1, p.1))
one_limit size Boxes Boxes p q = refl

-- ---- what is told

-- layers have one list of areas
one_list_of_areas : (cif : CifParts) (name : List ℕ) (lines more : List ReportLine) (p : TellsLayers cif name lines) (q : TellsLayers cif name more)
    → p.areas ≡ q.areas
one_list_of_areas cif name lines more p q = same_lists p.areas q.areas (p.one_each ∙ sym q.one_each) (λ place d below.
    let S : Square → Type 0 = IsMeant cif place in
    Total-unique S (λ square. pos 1) _ _ (p.each place _ (there p.areas place d below))
    (q.each place _ (there q.areas place d (omega (arith, below, p.one_each, q.one_each)))))
  where
    there : (areas : List ℤ) (place : ℕ) (d : ℤ) → place < length areas → slice_get areas place ≡ Some (get_or areas place d)
    there areas place d below = slice_get-get_or areas place d below

module _ (number : ℕ) (name file : List ℕ) (cif : CifParts) (effect other : FreeEffect) where
  one_cif : MeasuresCif number name file cif effect → MeasuresCif number name file cif other → effect ≡ other
  one_cif (inl p) (inl q) =
      let areas = one_list_of_areas cif name p.lines q.lines p.tells q.tells in
      let lines = p.tells.are ∙ ap (λ (all : List ℤ). stat_lines name (zip cif.layers all)) areas ∙ sym q.tells.are in
      p.is ∙ ap (λ (told : List ReportLine). accepted tt told (file ∷ [])) lines ∙ sym q.is
  one_cif (inl p) (inr (inl q)) = absurd (not_past (size_of cif) q.limit p.within q.past)
  one_cif (inl p) (inr (inr q)) = absurd (q.outside.is_outside (p.in_range q.outside.layer q.outside.box q.outside.expands))
  one_cif (inr (inl p)) (inl q) = absurd (not_past (size_of cif) p.limit q.within p.past)
  one_cif (inr (inl p)) (inr (inl q)) =
      p.is
      ∙ ap (λ (limit : CifLimit). refused number tt (too_many (cif_limit_word limit)) (file ∷ [])) (one_limit (size_of cif) p.limit q.limit p.past q.past)
      ∙ sym q.is
  one_cif (inr (inl p)) (inr (inr q)) = absurd (not_past (size_of cif) p.limit q.within p.past)
  one_cif (inr (inr p)) (inl q) = absurd (p.outside.is_outside (q.in_range p.outside.layer p.outside.box p.outside.expands))
  one_cif (inr (inr p)) (inr (inl q)) = absurd (not_past (size_of cif) q.limit p.within q.past)
  one_cif (inr (inr p)) (inr (inr q)) = p.is ∙ sym q.is

module _ (number : ℕ) (name file : List ℕ) (effect other : FreeEffect) where
  one_text : (read : Result CifParts (At CifFault)) → MeasuresText number name file read effect → MeasuresText number name file read other
      → effect ≡ other
  one_text (Ok cif) p q = one_cif number name file cif effect other p q
  one_text (Err at) p q = p ∙ sym q

  one_file : (text : Result (List ℕ) FetchFault) → MeasuresFetched number name file text effect → MeasuresFetched number name file text other
      → effect ≡ other
  one_file (Ok text) p q = one_text (cif_in text) p q
  one_file (Err fault) p q = p ∙ sym q

pub cifstat_does_one_thing : CifstatMeansOneEffect
cifstat_does_one_thing number files name effect other p q = one_file number name (cif_file name) effect other (text_in files (cif_file name)) p q
