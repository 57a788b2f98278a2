-- A draft of which no line was read is sound.
use Rattle.tech_draft.proofs.Common.{◌≤◌, ℕ, List, refl, arith, inl, IsTrue, All-nil, is_plain_name, is_type, IsLayer, IsPair, IsClass, IsFet}
use Rattle.tech_draft.proofs.Common.{type_bounds, IsSound}
use Rattle.tech_draft.specs.Drafts.{empty_raw, empty_draft}

-- there is no type yet
no_type_yet : {X : Type 0} (t : ℕ) → IsTrue (is_type empty_raw t) → X
no_type_yet t is = let bounds = type_bounds empty_raw t is in let high : t ≤ 0 = bounds.1 in absurd (omega (arith, bounds.0, high))

-- a draft of which no line was read is sound
pub IsSound-empty : IsSound empty_draft
IsSound-empty = record {
  names = record {
    plain = inl refl;
    limit = omega arith;
    plane_names = All-nil
        (λ (name : List ℕ). IsTrue (is_plain_name name));
    differ = tt;
  };
  layers = record {
    types_limit = omega arith;
    limit = omega arith;
    layers = All-nil (IsLayer empty_raw);
    names_differ = λ i j d before below. absurd (omega arith);
    type_planes = λ t is. no_type_yet t is;
    type_layers = λ t is. no_type_yet t is;
    is_image = λ t is. no_type_yet t is;
    of_one_layer = λ layer t below is. absurd (omega arith);
  };
  rules = record {
    pairs = All-nil (IsPair empty_raw);
    classes_limit = omega arith;
    classes = All-nil (IsClass empty_raw);
    classes_apart = λ i j d before below. absurd (omega arith);
    fets_limit = omega arith;
    fets = All-nil (IsFet empty_raw);
    fets_differ = tt;
  };
  sets = record {
    simple = λ t is simple. no_type_yet t is;
    images = λ t is many. no_type_yet t is;
    used = λ t absent. absurd absent;
    residues = λ pair absent. absurd absent;
  };
}
