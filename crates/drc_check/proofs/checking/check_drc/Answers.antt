use Rattle.drc_check.proofs.Common.{◌≤◌, ◌<◌, ℕ, List, length, sym, subst, arith, All, All-In, All-from_In, flat_sets, seen, Rule, IsLawfulRule}
use Rattle.drc_check.proofs.Common.{ListedPiece, Violation, IsSoundPiece, ViolatesIn, AreListedPieces, IsListedAt, AreRuleStripsFrom}
use Rattle.cell_library.specs.LayoutTrees.{tree_at}
use Rattle.drc_rules.specs.declared.limits.TheConstants.{MOST_RULES}
use Rattle.drc_check.specs.Violations.{AreViolations, Violates}
use Rattle.drc_check.proofs.SquareLaws.{violates_by_pieces, violates_in_pieces}
use Rattle.drc_check.proofs.ViolationLaws.{if_ok_then, strip_of_rule, strips_alike}
use Rattle.drc_check.proofs.checking.check_drc.Goals as goal

pub violations_of-requires-clause-sound : goal.violations_of-requires-clause-sound
violations_of-requires-clause-sound g c =
    let pieces = c.in_ok-pieces.pieces.items in
    let are = c.in_ok-pieces.ensures.pieces in
    subst (All IsSoundPiece) (sym c.as_slice.ensures.value)
    (All-from_In IsSoundPiece pieces (λ piece among. record { proper = are.are.proper piece among; spans = are.spans piece among }))

pub returns-clause-violations : goal.returns-clause-violations
returns-clause-violations g c =
    let raw = c.args.library.now.tech in
    let tree = tree_at (seen c.args.library.now) c.args.cell.0 in
    let rules = c.args.rules.now.rules in
    let pieces = c.in_ok-pieces.pieces.items in
    let are = subst (λ (l : List Rule). AreListedPieces raw (flat_sets raw tree) (IsListedAt l) pieces) c.items.ensures c.in_ok-pieces.ensures.pieces.are in
    if_ok_then c.violations_of.result (λ v. AreRuleStripsFrom (ViolatesIn c.as_slice.result.now) 1 c.items-2.result.now v.items)
    (λ v. AreViolations raw tree rules v.items)
    (λ v found. strips_alike (ViolatesIn pieces) (Violates raw tree) 1 rules v.items
    (λ rule among. violates_by_pieces raw tree rules pieces are rule among) (λ rule among. violates_in_pieces raw tree rules pieces are rule among)
    (subst (λ (l : List Rule). AreRuleStripsFrom (ViolatesIn pieces) 1 l v.items) c.items-2.ensures
    (subst (λ (p : List ListedPiece). AreRuleStripsFrom (ViolatesIn p) 1 c.items-2.result.now v.items) c.as_slice.ensures.value found)))
    c.violations_of.ensures

pub returns-clause-rules : goal.returns-clause-rules
returns-clause-rules g c =
    let raw = c.args.library.now.tech in
    let tree = tree_at (seen c.args.library.now) c.args.cell.0 in
    let rules = c.args.rules.now.rules in
    let few = c.requires.few in
    if_ok_then c.violations_of.result (λ v. AreViolations raw tree rules v.items) (λ v. All (λ violation. violation.rule ≤ MOST_RULES) v.items)
    (λ v found. All-from_In (λ (violation : Violation). violation.rule ≤ MOST_RULES) v.items (λ violation among.
    let of = strip_of_rule (Violates raw tree) 1 rules v.items found violation among in
    let below = of.below in
    omega (arith, below, few))) (returns-clause-violations g c)

pub returns-clause-planes : goal.returns-clause-planes
returns-clause-planes g c =
    let raw = c.args.library.now.tech in
    let tree = tree_at (seen c.args.library.now) c.args.cell.0 in
    let rules = c.args.rules.now.rules in
    if_ok_then c.violations_of.result (λ v. AreViolations raw tree rules v.items) (λ v. All (λ violation. violation.plane < length raw.planes) v.items)
    (λ v found. All-from_In (λ (violation : Violation). violation.plane < length raw.planes) v.items (λ violation among.
    let of = strip_of_rule (Violates raw tree) 1 rules v.items found violation among in
    subst (λ (plane : ℕ). plane < length raw.planes) (sym of.plane)
    (All-In (IsLawfulRule raw) rules of.rule c.requires.lawful of.among).first.below)) (returns-clause-violations g c)
