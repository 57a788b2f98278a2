use Rattle.std.proofs.lemmas.Result.{err_from_is_err_and}
use Rattle.fault_grade.proofs.grading.grade.Goals as goal

pub returns-in_err-grade_all-clause-many : goal.returns-in_err-grade_all-clause-many
returns-in_err-grade_all-clause-many c =
    let p = err_from_is_err_and c.from_residual.result c.from_residual.ensures.1 in (
      (λ is. absurd (cc)),
      (λ more. absurd (let many = c.has_too_many_faults.ensures.1 more in let few = c.if-has_too_many_faults.false in cc)),
    )

pub returns-clause-many : goal.returns-clause-many
returns-clause-many c =
    ((λ is. absurd (cc)), (λ more. absurd (let many = c.has_too_many_faults.ensures.1 more in let few = c.if-has_too_many_faults.false in cc)))
