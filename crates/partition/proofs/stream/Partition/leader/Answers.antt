use Rattle.std.proofs.Common.{◌≡◌, ◌≤◌, ℕ, List, length, get_or, sym, ◌∙◌, ap, subst, arith}
use Rattle.finite_sets.specs.Least.{IsLeast}
use Rattle.partition.specs.Marks.{HasMark}
use Rattle.partition.specs.Parents.{leaders_of}
use Rattle.partition.proofs.Ancestors.{length-leaders_of}
use Rattle.partition.proofs.Numbering.{Lead, Lead-leaders_of, Lead-least}
use Rattle.partition.proofs.stream.Partition.leader.Goals as goal

pub root_of-requires-clause-within : goal.root_of-requires-clause-within
root_of-requires-clause-within c =
    omega (arith, ap length c.self.view_is, length-leaders_of c.self.inside.parents.items, ap length c.deref_mut.ensures.value)

pub returns-clause-least : goal.returns-clause-least
returns-clause-least c =
    let leaders = c.args.self.now in
    let lead : Lead leaders = subst (λ (l : List ℕ). Lead l) c.self.view_is (Lead-leaders_of c.self.inside.parents.items c.self.invariant) in
    let found : c.root_of.result ≡ get_or leaders c.args.number 0 =
    c.root_of.ensures.value ∙ ap (λ p. get_or (leaders_of p) c.args.number 0) c.deref_mut.ensures.value ∙ ap (λ l. get_or l c.args.number 0) c.self.view_is in
    subst (λ k. IsLeast ◌≤◌ (HasMark leaders k) k) (sym found) (Lead-least leaders lead c.args.number c.requires)
