use Rattle.sim_networks.proofs.Common.{◌≡◌, List, ℕ, [], ◌∷◌, ◌++◌, length, get_or, ◌∙◌, sym, ap, subst, arith}
use Rattle.sim_networks.proofs.NumberLaws.{named_all, named_more}
use Rattle.sim_networks.proofs.nodes.NodeTable.listed.Goals as goal

pub loop-number-preserved : goal.loop-number-preserved
loop-number-preserved c =
    let table = c.args.self.now in
    let names = table.names.index in
    let labels = c.deref-label-items.ensures.value in
    let number = c.loop-number.number in
    let name = c.in_ok-name.name in
    let before = c.loop-number.listed.items in
    let after = c.put.new.items.items in
    let item = c.index.ensures ∙ ap (λ (list : List (List ℕ)). get_or list number c.index.result.now) c.requires.table.indexed in
    let read = subst (λ (one : List ℕ). one ≡ get_or names number one) (sym c.in_ok-name.ensures) item in
    let pushed = subst (λ (list : List ℕ). after ≡ before ++ (name, get_or list number 0) ∷ []) labels c.in_ok-put.ensures in
    named_more names table.labels.items number name before after c.requires.table.one_label (omega (arith, ap length labels)) read pushed
    c.loop-number.invariant

pub returns : goal.returns
returns c =
    let table = c.args.self.now in
    let past = ap length c.deref-label-items.ensures.value in
    c.loop-number.invariant ∙ named_all table.names.index table.labels.items c.loop-number.number (omega (arith, past))
