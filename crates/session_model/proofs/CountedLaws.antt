-- Counts that rose by several.
use Rattle.session_model.proofs.Common.{◌≡◌, ◌⊎◌, inl, inr, ◌+◌, ◌≤◌, ℕ, Bool, true, cond, List, [], ◌∷◌, ◌++◌, sym, ◌∙◌, subst, arith, cases_Bool}
use Rattle.session_model.proofs.Common.{Rose, ShelfWords, LineKind, ReportLine, ComeFrom, line_kinds, AreCounted}
use Rattle.std.proofs.lemmas.List.Sums.{sum_by-append}
use Rattle.std.specs.Prelude.{count_by}
use Rattle.std.specs.List.{list_any}
use Rattle.session_model.specs.Counted.{RoseBy}
use Rattle.session_model.specs.Laws.{AreCountedTogether}
use Rattle.session_model.specs.Reports.{is_for_absent, is_for_too_long}

pub rose_by_both : AreCountedTogether
rose_by_both few many first middle last up on (inl here) (inl there) = inl (omega (arith, here, there))
rose_by_both few many first middle last up on here (inr at_last) = inr at_last
rose_by_both few many first middle last up on (inr at_last) there = inr (omega (arith, at_last, on))

-- one answer counts once at most
one_counts : (is : LineKind → Bool) (lines : List ReportLine) (middle last : ℕ) → middle ≤ last
    → (list_any is (line_kinds lines) ≡ true → Rose middle last) → RoseBy (count_by (λ xs. list_any is (line_kinds xs)) (lines ∷ [])) middle last
one_counts is lines middle last on rose = elim (cases_Bool (list_any is (line_kinds lines))) [
  | inl some ↦ elim (rose some) [
    | inl less ↦ rw some (inl (omega (arith, less)))
    | inr at_last ↦ inr (omega (arith, at_last))
  ]
  | inr none ↦ rw none (inl (omega (arith, on)))
]

more_count : (is : LineKind → Bool) (answers : List (List ReportLine)) (lines : List ReportLine) (first middle last : ℕ) → first ≤ middle → middle ≤ last
    → RoseBy (count_by (λ xs. list_any is (line_kinds xs)) answers) first middle
    → (list_any is (line_kinds lines) ≡ true → Rose middle last)
    → RoseBy (count_by (λ xs. list_any is (line_kinds xs)) (answers ++ lines ∷ [])) first last
more_count is answers lines first middle last up on before rose =
    subst (λ (n : ℕ). RoseBy n first last) (sym (sum_by-append (λ (xs : List ReportLine). cond (list_any is (line_kinds xs)) 1 0) answers (lines ∷ [])))
    (rose_by_both (count_by (λ xs. list_any is (line_kinds xs)) answers) (count_by (λ xs. list_any is (line_kinds xs)) (lines ∷ [])) first middle last up on
    before
    (one_counts is lines middle last on rose))

-- no answer is counted yet
pub none_counted : {F : Type 0} (shelf : ShelfWords F) (at : F) → AreCounted shelf at at []
none_counted shelf at = record { absent = inl (omega arith); too_long = inl (omega arith) }

-- one answer more is counted
pub one_more_counted : {F : Type 0} (shelf : ShelfWords F) (first middle last : F) (answers : List (List ReportLine)) (lines : List ReportLine)
    → shelf.absences first ≤ shelf.absences middle → shelf.absences middle ≤ shelf.absences last
    → shelf.overlengths first ≤ shelf.overlengths middle → shelf.overlengths middle ≤ shelf.overlengths last
    → AreCounted shelf first middle answers → ComeFrom shelf middle last (line_kinds lines) → AreCounted shelf first last (answers ++ lines ∷ [])
one_more_counted shelf first middle last answers lines up on up_long on_long before came = record {
  absent = more_count is_for_absent answers lines (shelf.absences first) (shelf.absences middle) (shelf.absences last) up on before.absent came.absent;
  too_long = more_count is_for_too_long answers lines (shelf.overlengths first) (shelf.overlengths middle) (shelf.overlengths last) up_long on_long
      before.too_long came.too_long;
}
