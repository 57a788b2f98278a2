-- The sum that adds nothing.
use Rattle.piece_groups.proofs.Common.{◌≡◌, List, [], ◌∷◌, map, length, refl, ◌∙◌, ap, pos, class_of, Adjustment, zero_adjustment}
use Rattle.std.specs.Prelude.{ℤ}
use Rattle.std.proofs.Math.ListN.{replicate}
use Rattle.tech_model.specs.declared.raw.ClassRec.{ClassRec}

-- zeros, as many as there are classes
zeros : (classes : List ClassRec) → replicate {A = ℤ × ℤ} (length classes) (pos 0, pos 0) ≡ (zero_adjustment (map class_of classes)).measures
zeros [] = refl
zeros (class ∷ classes) = ap (λ (rest : List (ℤ × ℤ)). (pos 0, pos 0) ∷ rest) (zeros classes)

pub adds_nothing : (classes known : List ClassRec) (measures : List (ℤ × ℤ)) → known ≡ classes
    → measures ≡ replicate {A = ℤ × ℤ} (length known) (pos 0, pos 0)
    → ◌≡◌ {A = Adjustment} (record { cap = pos 0; measures = measures }) (zero_adjustment (map class_of classes))
adds_nothing classes known measures same are =
    ap (λ (list : List (ℤ × ℤ)). let made : Adjustment = record { cap = pos 0; measures = list } in made)
    (are ∙ ap (λ (list : List ClassRec). replicate {A = ℤ × ℤ} (length list) (pos 0, pos 0)) same ∙ zeros classes)
