use Rattle.std.proofs.Common.{List, ℕ, [], length, sym, ◌∙◌, ap, subst}
use Rattle.partition.specs.Divides.{Divides, IsPair}
use Rattle.partition.specs.Parents.{PointDown, leaders_of}
use Rattle.partition.proofs.Ancestors.{length-leaders_of, length-numbers_below, PointDown-numbers_below, leaders_of-numbers_below}
use Rattle.partition.proofs.Division.{Divides-none}
use Rattle.partition.proofs.stream.Partition.new.Goals as goal

pub invariant_of-result : goal.invariant_of-result
invariant_of-result c =
    subst (λ (p : List ℕ). PointDown p) (sym c.in_ok-each_alone.ensures) (PointDown-numbers_below c.args.count)

pub returns-clause-leaders : goal.returns-clause-leaders
returns-clause-leaders c = ap leaders_of c.in_ok-each_alone.ensures ∙ leaders_of-numbers_below c.args.count

pub returns-clause-len : goal.returns-clause-len
returns-clause-len c =
    length-leaders_of c.in_ok-each_alone.field-0.items ∙ ap length c.in_ok-each_alone.ensures ∙ length-numbers_below c.args.count

pub returns-clause-divides : goal.returns-clause-divides
returns-clause-divides c =
    subst (λ (m : List ℕ). Divides m (IsPair [])) (sym (ap leaders_of c.in_ok-each_alone.ensures ∙ leaders_of-numbers_below c.args.count))
    (Divides-none c.args.count)
