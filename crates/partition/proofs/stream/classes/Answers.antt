use Rattle.std.proofs.Common.{◌≡◌, ◌+◌, ◌∷◌, [], ◌++◌, ℕ, List, take, get_or, subst, sym, ◌∙◌, arith}
use Rattle.std.proofs.lemmas.List.{take_more, take_all}
use Rattle.partition.specs.Divides.{Divides, IsPair}
use Rattle.partition.proofs.stream.classes.Goals as goal

pub loop-a-preserved : goal.loop-a-preserved
loop-a-preserved c =
    let pairs = c.args.pairs.now in
    let i = c.loop-a.a-index in
    let pair = get_or pairs i (0, 0) in
    let more : take (i + 1) pairs ≡ take i pairs ++ pair ∷ [] = take_more pairs i (0, 0) (omega arith) in
    record {
      long = c.join.ensures.len ∙ c.loop-a.invariant.long;
      divides = subst (λ (l : List (ℕ × ℕ)). Divides c.join.new.self (IsPair l)) (sym more) (c.join.ensures.divides (take i pairs) c.loop-a.invariant.divides);
    }

pub returns-clause-divides : goal.returns-clause-divides
returns-clause-divides c =
    let all : take c.loop-a.a-index c.args.pairs.now ≡ c.args.pairs.now = take_all c.loop-a.a-index c.args.pairs.now (omega arith) in
    c.into_labels.ensures.divides c.args.pairs.now
    (subst (λ (l : List (ℕ × ℕ)). Divides c.loop-a.partition (IsPair l)) all c.loop-a.invariant.divides)
