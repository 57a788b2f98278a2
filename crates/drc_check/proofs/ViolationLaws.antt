-- Lists of violations: one rule more, the same sets, and that there is one list.
use Rattle.drc_check.proofs.Common.{◌≡◌, ◌<◌, ◌+◌, inl, inr, ℕ, List, [], ◌∷◌, ◌++◌, length, map, refl, sym, ap, subst, ◌∙◌, arith, append-nil}
use Rattle.drc_check.proofs.Common.{append_assoc, IfOk, In, In-append_cases, In-map_source, Square, Rect, IsStrips, Rule, Violation, violation_of}
use Rattle.drc_check.proofs.Common.{AreRuleStripsFrom}
use Rattle.std.specs.Prelude.{Err, Ok, Result}
use Rattle.geo_core.proofs.StripSets.{strips_same}
use Rattle.geo_strips.proofs.StripListLaws.{one_list}

-- what follows from what holds of the value of an answer holds of it
pub if_ok_then : {X E : Type 0} (result : Result X E) (P Q : X → Type 0) → ((x : X) → P x → Q x) → IfOk result P → IfOk result Q
if_ok_then (Ok x) P Q then is = then x is
if_ok_then (Err e) P Q then is = is

-- the strips of one rule more
pub strips_more : (Set : Rule → Square → Type 0) (number last : ℕ) (rules : List Rule) (rule : Rule) (found : List Violation) (strips : List Rect)
    → last ≡ number + length rules → AreRuleStripsFrom Set number rules found → IsStrips (Set rule) strips
    → AreRuleStripsFrom Set number (rules ++ rule ∷ []) (found ++ map (violation_of last rule.first_plane) strips)
strips_more Set number last [] rule found strips at none is =
    let same : last ≡ number = omega arith in (
      strips,
      [],
      ap (λ (f : List Violation). f ++ map (violation_of last rule.first_plane) strips) none
          ∙ ap (λ (n : ℕ). map (violation_of n rule.first_plane) strips) same
          ∙ sym (append-nil (map (violation_of number rule.first_plane) strips)),
      is,
      refl,
    )
strips_more Set number last (first ∷ rules) rule found strips at (here, rest, are, first_are, later) is = (
  here,
  rest ++ map (violation_of last rule.first_plane) strips,
  ap (λ (f : List Violation). f ++ map (violation_of last rule.first_plane) strips) are
      ∙ append_assoc (map (violation_of number first.first_plane) here) rest (map (violation_of last rule.first_plane) strips),
  first_are,
  strips_more Set (number + 1) last rules rule rest strips (omega arith) later is,
)

-- where the sets of rules have the same squares, they have the same strips
pub strips_alike : (Set Other : Rule → Square → Type 0) (number : ℕ) (rules : List Rule) (found : List Violation)
    → ((rule : Rule) → In rule rules → (square : Square) → Set rule square → Other rule square)
    → ((rule : Rule) → In rule rules → (square : Square) → Other rule square → Set rule square)
    → AreRuleStripsFrom Set number rules found → AreRuleStripsFrom Other number rules found
strips_alike Set Other number [] found there back are = are
strips_alike Set Other number (rule ∷ rules) found there back (strips, rest, are, is, later) = (
  strips,
  rest,
  are,
  strips_same (Set rule) (Other rule) (there rule (inl refl)) (back rule (inl refl)) strips is,
  strips_alike Set Other (number + 1) rules rest (λ r among. there r (inr among)) (λ r among. back r (inr among)) later,
)

-- rules have one list of strips
pub one_list_of_strips : (Set : Rule → Square → Type 0) (number : ℕ) (rules : List Rule) (found others : List Violation)
    → AreRuleStripsFrom Set number rules found → AreRuleStripsFrom Set number rules others → found ≡ others
one_list_of_strips Set number [] found others is too = is ∙ sym too
one_list_of_strips Set number (rule ∷ rules) found others (strips, rest, are, is, later) (strips', rest', are', is', later') =
    let same : strips ≡ strips' = one_list (Set rule) strips strips' is is' in
    let same_rest : rest ≡ rest' = one_list_of_strips Set (number + 1) rules rest rest' later later' in
    are
    ∙ ap (λ (s : List Rect). map (violation_of number rule.first_plane) s ++ rest) same
    ∙ ap (λ (r : List Violation). map (violation_of number rule.first_plane) strips' ++ r) same_rest
    ∙ sym are'

-- A violation has the number of one of the rules, and its plane.
pub record IsOfRule (number : ℕ) (rules : List Rule) (violation : Violation) : Type 0 where
  pub rule : Rule
  pub among : In rule rules
  pub plane : violation.plane ≡ rule.first_plane
  pub below : violation.rule < number + length rules

-- each strip is of one of the rules
pub strip_of_rule : (Set : Rule → Square → Type 0) (number : ℕ) (rules : List Rule) (found : List Violation) → AreRuleStripsFrom Set number rules found
    → (violation : Violation) → In violation found → IsOfRule number rules violation
strip_of_rule Set number [] found are violation among = absurd (subst (In violation) are among)
strip_of_rule Set number (rule ∷ rules) found (strips, rest, are, is, later) violation among =
    elim (In-append_cases violation (map (violation_of number rule.first_plane) strips) rest (subst (In violation) are among)) [
      | inl here ↦ (
          let from = In-map_source (violation_of number rule.first_plane) violation strips here in
          let same_number : number ≡ violation.rule = ap (λ (v : Violation). v.rule) from.1.1 in
          record {
            rule = rule;
            among = inl refl;
            plane = ap (λ (v : Violation). v.plane) (sym from.1.1);
            below = omega arith;
          })
      | inr there ↦ (
          let of = strip_of_rule Set (number + 1) rules rest later violation there in
          let below = of.below in
          record { rule = of.rule; among = inr of.among; plane = of.plane; below = omega arith })
    ]
