use Rattle.cell_records.proofs.Common.{◌≡◌, ℕ, ℤ, List, sym, subst, AreJoined}
use Rattle.std.proofs.Common.{Vec, Global}
use Rattle.std.proofs.lemmas.Result.{IfOk-weaker}
use Rattle.cell_records.proofs.JoinedLaws.{joined_entries}
use Rattle.cell_records.proofs.joining.joined.Goals as goal

pub returns : goal.returns
returns c =
    let numbers = c.args.numbers.now in
    let ts = c.args.terminals.now in
    let lengths = c.in_ok-lengths.lengths in
    IfOk-weaker c.entries_of.result (λ (made : Vec (ℕ × ℤ) Global). made.items ≡ lengths.entries)
    (λ (made : Vec (ℕ × ℤ) Global). AreJoined numbers ts made.items)
    (λ made is. subst (λ (v : List (ℕ × ℤ)). AreJoined numbers ts v) (sym is)
    (joined_entries numbers ts lengths c.entries_of.ensures.ordered c.in_ok-lengths.ensures)) c.entries_of.ensures.listed
