-- Regions of a list get a number, one at a time.
use Rattle.cell_nodes.proofs.Common.{◌≡◌, ℕ, ◌+◌, ◌<◌, List, [], ◌∷◌, length, get_or, take, inl, inr, sym, ◌∙◌, ap, subst, arith, cases_eq, In}
use Rattle.cell_nodes.proofs.Common.{AreNumbered}
use Rattle.std.proofs.Math.ListN.{set}
use Rattle.std.proofs.lemmas.List.{get_or-set_same, get_or-set_other, take_more}
use Rattle.tech_model.proofs.FiniteSets.Members.{In-append_left, In-push, In-push_cases}

-- one region more
pub region_more : (regions : List ℕ) (number i : ℕ) (old now : List ℕ) → i < length regions → length now ≡ length old → get_or regions i 0 < length old
    → AreNumbered (take i regions) number old now → AreNumbered (take (i + 1) regions) number old (set now (get_or regions i 0) number)
region_more regions number i old now inside long within before =
    let region = get_or regions i 0 in
    let more = take_more regions i 0 inside in
    let at : get_or (set now region number) region 0 ≡ number = get_or-set_same now region number 0 (omega (arith, long, within)) in
    record {
      here = λ r h. elim (cases_eq r region) [
        | inl same ↦ ap (λ (n : ℕ). get_or (set now region number) n 0) same ∙ at
        | inr other ↦ elim (In-push_cases r (take i regions) region (subst (In r) more h)) [
          | inl early ↦ get_or-set_other now region r number 0 other ∙ before.here r early
          | inr last ↦ absurd (other (sym last))
        ]
      ];
      there = λ r below. elim (cases_eq r region) [
        | inl same ↦ inl (subst (λ (n : ℕ). In n (take (i + 1) regions)) (sym same) (subst (In region) (sym more) (In-push (take i regions) region)))
        | inr other ↦ elim (before.there r below) [
          | inl early ↦ inl (subst (In r) (sym more) (In-append_left r (take i regions) (region ∷ []) early))
          | inr kept ↦ inr (get_or-set_other now region r number 0 other ∙ kept)
        ]
      ];
    }
