use Rattle.element_index.proofs.Common.{ℕ, List, length, ap, ◌∙◌, both_ways}
use Rattle.std.proofs.Common.{◌==◌}
use Rattle.element_index.proofs.PartLaws.{no_bracket, no_comma, no_end, cut_name, cuts_are_parts}
use Rattle.element_index.proofs.name_parts.indexed_parts.Goals as goal
use Rattle.element_index.proofs.name_parts.indexed_parts.Goals.{then-not-is_empty-via-then-not-is_empty}
use Rattle.element_index.proofs.name_parts.indexed_parts.Goals.{then-not-is_empty-via-else-not-is_empty+then-not-is_use_id}

pub returns-in_err-id-clause-none : goal.returns-in_err-id-clause-none
returns-in_err-id-clause-none c = rw c.from_residual.ensures (no_bracket c.args.name.now c.in_err-id.ensures.none)

pub returns-in_err-first-clause-none : goal.returns-in_err-first-clause-none
returns-in_err-first-clause-none c =
    rw c.from_residual-in_err-first.ensures
    (no_comma c.args.name.now c.in_ok-id.id.now c.in_ok-id.indices.now c.in_ok-id.ensures.parts c.in_ok-id.ensures.first c.in_err-first.ensures.none)

pub returns-in_err-second-clause-none : goal.returns-in_err-second-clause-none
returns-in_err-second-clause-none c =
    rw c.from_residual-in_err-second.ensures
    (no_end c.args.name.now c.in_ok-id.id.now c.in_ok-id.indices.now c.in_ok-first.first.now c.in_ok-first.rest.now c.in_ok-id.ensures.parts
    c.in_ok-id.ensures.first c.in_ok-first.ensures.parts c.in_ok-first.ensures.first c.in_err-second.ensures.none)

pub returns-then-not-is_empty-clause-none : goal.returns-then-not-is_empty-clause-none
returns-then-not-is_empty-clause-none c = λ is.
    let id = c.in_ok-id.id.now in
    let first = c.in_ok-first.first.now in
    let second = c.in_ok-second.second.now in
    let behind = c.in_ok-second.behind.now in
    let cut =
    cut_name c.args.name.now id c.in_ok-id.indices.now first c.in_ok-first.rest.now second behind c.in_ok-id.ensures.parts c.in_ok-id.ensures.first
    c.in_ok-first.ensures.parts c.in_ok-first.ensures.first c.in_ok-second.ensures.parts c.in_ok-second.ensures.first in
    let parts = cuts_are_parts c.args.name.now id first second behind cut is in
    elim c.then-not-is_empty.branch [
      | then-not-is_empty-via-then-not-is_empty w ↦ both_ways c.is_empty.result w.if-not-is_empty.true
          (c.is_empty.ensures ∙ ap (λ (text : List ℕ). length text == 0) parts.ends)
      | then-not-is_empty-via-else-not-is_empty+then-not-is_use_id w ↦ both_ways w.is_use_id.result w.if-not-is_use_id.true
          (w.is_use_id.ensures ∙ parts.id_form)
    ]

pub returns-in_err-index_in-clause-none : goal.returns-in_err-index_in-clause-none
returns-in_err-index_in-clause-none c =
    rw c.from_residual-in_err-index_in.ensures (λ is.
    let id = c.in_ok-id.id.now in
    let first = c.in_ok-first.first.now in
    let second = c.in_ok-second.second.now in
    let behind = c.in_ok-second.behind.now in
    let cut =
    cut_name c.args.name.now id c.in_ok-id.indices.now first c.in_ok-first.rest.now second behind c.in_ok-id.ensures.parts c.in_ok-id.ensures.first
    c.in_ok-first.ensures.parts c.in_ok-first.ensures.first c.in_ok-second.ensures.parts c.in_ok-second.ensures.first in
    let parts = cuts_are_parts c.args.name.now id first second behind cut is in
    c.in_err-index_in.ensures.none parts.i parts.first_text)

pub returns-in_err-index_in-2-clause-none : goal.returns-in_err-index_in-2-clause-none
returns-in_err-index_in-2-clause-none c =
    rw c.from_residual-in_err-index_in-2.ensures (λ is.
    let id = c.in_ok-id.id.now in
    let first = c.in_ok-first.first.now in
    let second = c.in_ok-second.second.now in
    let behind = c.in_ok-second.behind.now in
    let cut =
    cut_name c.args.name.now id c.in_ok-id.indices.now first c.in_ok-first.rest.now second behind c.in_ok-id.ensures.parts c.in_ok-id.ensures.first
    c.in_ok-first.ensures.parts c.in_ok-first.ensures.first c.in_ok-second.ensures.parts c.in_ok-second.ensures.first in
    let parts = cuts_are_parts c.args.name.now id first second behind cut is in
    c.in_err-index_in-2.ensures.none parts.j parts.second_text)
