use Rattle.element_paths.proofs.Common.{◌≡◌, ℕ, ◌+◌, ◌≤◌, List, length, Some, None, sym, ap, subst, ◌∙◌, arith, slice_get, slice_get_within}
use Rattle.element_paths.proofs.Common.{MOST_ELEMENTS_BELOW, UseBody, displacements, tree_at, seen, view_at, use_is_lawful, UseStart}
use Rattle.element_paths.proofs.StartLaws.{all_starts, ends_within, first_more, standing_of, AreFirstStarts}
use Rattle.element_paths.proofs.UseLaws.{UsesWithIds}
use Rattle.element_paths.proofs.starts.starts_of.Goals as goal

-- the use that comes next
next_use : (uses : UsesWithIds) (n k : ℕ) (entry : List ℕ × UseBody) → n ≡ k → Some entry ≡ slice_get uses n → slice_get uses k ≡ Some entry
next_use uses n k entry same is = ap (slice_get uses) (sym same) ∙ sym is

pub behind-start-requires-clause-lawful : goal.behind-start-requires-clause-lawful
behind-start-requires-clause-lawful c =
    (use_is_lawful c.args.library.now c.lawful.ensures c.args.cell.0 c.requires c.len.result c.in-Some.field-0-0.now c.in-Some.used.now
    (sym c.in-Some.ensures)).0

pub behind-start-requires-clause-child : goal.behind-start-requires-clause-child
behind-start-requires-clause-child c =
    (use_is_lawful c.args.library.now c.lawful.ensures c.args.cell.0 c.requires c.len.result c.in-Some.field-0-0.now c.in-Some.used.now
    (sym c.in-Some.ensures)).1

pub behind-start-requires-clause-elements : goal.behind-start-requires-clause-elements
behind-start-requires-clause-elements c =
    let uses = (view_at (seen c.args.library.now) c.args.cell.0).uses in
    let count : c.len.result ≡ length c.loop-used.starts.items = c.len.ensures ∙ c.loop-used.starts.ok.0 in
    let at = next_use uses c.len.result (length c.loop-used.starts.items) (c.in-Some.field-0-0.now, c.in-Some.used.now) count c.in-Some.ensures in
    subst (λ (start : UseStart). start.element + standing_of (tree_at (seen c.args.library.now)) c.in-Some.used.now ≤ MOST_ELEMENTS_BELOW)
    (sym c.loop-used.invariant.next)
    (ends_within c.args.library.now c.lawful.ensures c.args.cell.0 c.requires (length c.loop-used.starts.items)
    (c.in-Some.field-0-0.now, c.in-Some.used.now) at).elements

pub behind-start-requires-clause-positions : goal.behind-start-requires-clause-positions
behind-start-requires-clause-positions c =
    let uses = (view_at (seen c.args.library.now) c.args.cell.0).uses in
    let count : c.len.result ≡ length c.loop-used.starts.items = c.len.ensures ∙ c.loop-used.starts.ok.0 in
    let at = next_use uses c.len.result (length c.loop-used.starts.items) (c.in-Some.field-0-0.now, c.in-Some.used.now) count c.in-Some.ensures in
    subst (λ (start : UseStart). start.position + length (displacements c.in-Some.used.now.grid) ≤ MOST_ELEMENTS_BELOW)
    (sym c.loop-used.invariant.next)
    (ends_within c.args.library.now c.lawful.ensures c.args.cell.0 c.requires (length c.loop-used.starts.items)
    (c.in-Some.field-0-0.now, c.in-Some.used.now) at).positions

pub loop-used-smaller : goal.loop-used-smaller
loop-used-smaller c =
    let uses = (view_at (seen c.args.library.now) c.args.cell.0).uses in
    let within = slice_get_within uses c.len.result (c.in-Some.field-0-0.now, c.in-Some.used.now) (sym c.in-Some.ensures) in
    omega (arith, within, c.len.ensures, c.in_ok-push.ensures.len)

pub loop-used-preserved : goal.loop-used-preserved
loop-used-preserved c =
    let trees = tree_at (seen c.args.library.now) in
    let uses = (view_at (seen c.args.library.now) c.args.cell.0).uses in
    let count : c.len.result ≡ length c.loop-used.starts.items = c.len.ensures ∙ c.loop-used.starts.ok.0 in
    let entry : List ℕ × UseBody = (c.in-Some.field-0-0.now, c.in-Some.used.now) in
    let at = next_use uses c.len.result (length c.loop-used.starts.items) entry count c.in-Some.ensures in
    subst (λ (starts : List UseStart). AreFirstStarts trees uses starts c.behind-start.result) (sym c.in_ok-push.ensures.items)
    (first_more trees uses c.loop-used.starts.items c.loop-used.start c.behind-start.result entry c.loop-used.invariant at c.behind-start.ensures)

pub returns : goal.returns
returns c =
    let uses = (view_at (seen c.args.library.now) c.args.cell.0).uses in
    let count : c.len.result ≡ length c.loop-used.starts.items = c.len.ensures ∙ c.loop-used.starts.ok.0 in
    let none : slice_get uses (length c.loop-used.starts.items) ≡ None = ap (slice_get uses) (sym count) ∙ sym c.in_default.ensures in
    all_starts (tree_at (seen c.args.library.now)) uses c.loop-used.starts.items c.loop-used.start c.loop-used.invariant none
