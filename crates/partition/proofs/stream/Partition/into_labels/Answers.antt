use Rattle.std.proofs.Common.{◌≡◌, ℕ, List, length, vec_len, sym, ◌∙◌, ap, subst, arith}
use Rattle.partition.specs.Divides.{IsPair}
use Rattle.partition.specs.Leaders.{classes_below, labels_of}
use Rattle.partition.specs.Marks.{IsNumbered}
use Rattle.partition.specs.Parents.{leaders_of}
use Rattle.partition.proofs.Ancestors.{length-leaders_of}
use Rattle.partition.proofs.Division.{Divides-same}
use Rattle.partition.proofs.Numbering.{Lead, Lead-leaders_of, SameClasses-labels, labels_long, IsNumbered-labels}
use Rattle.partition.proofs.stream.Partition.into_labels.Goals as goal

pub returns-clause-len : goal.returns-clause-len
returns-clause-len c =
    omega (
      arith,
      c.of_forest.result.labels.ok.0,
      ap length c.of_forest.ensures.labels,
      labels_long (leaders_of c.self.inside.parents.items),
      ap length
          c.self.view_is,
    )

pub returns-clause-same : goal.returns-clause-same
returns-clause-same c =
    let lead : Lead c.args.self = subst (λ (l : List ℕ). Lead l) c.self.view_is (Lead-leaders_of c.self.inside.parents.items c.self.invariant) in
    rw (c.of_forest.ensures.labels, c.self.view_is) (SameClasses-labels c.args.self lead)

counted : (c : goal.After-of_forest) → classes_below c.args.self (length c.args.self) ≡ c.of_forest.result.count
counted c =
    let long : length (leaders_of c.self.inside.parents.items) ≡ vec_len c.self.inside.parents =
    omega (arith, length-leaders_of c.self.inside.parents.items, c.self.inside.parents.ok.0) in
    ap (λ l. classes_below l (length l)) (sym c.self.view_is) ∙ ap (classes_below (leaders_of c.self.inside.parents.items)) long ∙ sym c.of_forest.ensures.count

pub returns-clause-numbered : goal.returns-clause-numbered
returns-clause-numbered c =
    let leaders = c.args.self in
    let lead : Lead leaders = subst (λ (l : List ℕ). Lead l) c.self.view_is (Lead-leaders_of c.self.inside.parents.items c.self.invariant) in
    rw (c.of_forest.ensures.labels, c.self.view_is)
    (subst (λ n. IsNumbered (labels_of leaders) n) (counted c) (IsNumbered-labels leaders lead))

pub returns-clause-divides : goal.returns-clause-divides
returns-clause-divides c = λ pairs d.
    Divides-same c.args.self c.of_forest.result.labels.items (IsPair pairs) (omega (arith, returns-clause-len c, c.of_forest.result.labels.ok.0))
    (returns-clause-same c) d
