use Rattle.std.proofs.Common.{ℕ, List, [], ◌∷◌, ◌++◌, length, sym, ◌∙◌, ap, subst, arith}
use Rattle.std.proofs.lemmas.List.{length-map}
use Rattle.std.proofs.lemmas.Grind.{common_steps}
use Rattle.partition.specs.Divides.{Divides, IsPair}
use Rattle.partition.proofs.Ancestors.{length-leaders_of}
use Rattle.partition.proofs.Division.{Divides-pair}
use Rattle.partition.proofs.stream.Partition.join.Goals as goal

pub join_roots-requires-clause-a_within : goal.join_roots-requires-clause-a_within
join_roots-requires-clause-a_within c =
    omega (arith, ap length c.self.view_is, length-leaders_of c.self.inside.parents.items, ap length c.deref_mut.ensures.value)

pub join_roots-requires-clause-b_within : goal.join_roots-requires-clause-b_within
join_roots-requires-clause-b_within c =
    omega (arith, ap length c.self.view_is, length-leaders_of c.self.inside.parents.items, ap length c.deref_mut.ensures.value)

pub returns-clause-leaders : goal.returns-clause-leaders
returns-clause-leaders c = grind (arith, common_steps)

pub returns-clause-len : goal.returns-clause-len
returns-clause-len c =
    let leaders = c.args.self.now in
    ap length (returns-clause-leaders c) ∙ length-map leaders _

pub returns-clause-divides : goal.returns-clause-divides
returns-clause-divides c = λ pairs d.
    subst (λ (m : List ℕ). Divides m (IsPair (pairs ++ (c.args.a, c.args.b) ∷ []))) (sym (returns-clause-leaders c))
    (Divides-pair c.args.self.now pairs c.args.a c.args.b c.requires.a_within c.requires.b_within d)
