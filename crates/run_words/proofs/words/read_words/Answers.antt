use Rattle.std.proofs.Common.{◌∙◌, map, string_bytes, sym}
use Rattle.std.proofs.lemmas.List.Folds.{list_all-map}
use Rattle.run_words.specs.steps.ClapWords.{is_known}
use Rattle.run_words.proofs.ParseLaws.{refused_is, taken_is, unknown_none}
use Rattle.run_words.proofs.words.read_words.Goals as goal

pub returns-then-not-are_known : goal.returns-then-not-are_known
returns-then-not-are_known c =
    let unknown = list_all-map is_known string_bytes c.args.words.now ∙ sym c.are_known.ensures ∙ c.if-not-are_known.true in
    sym (unknown_none (map string_bytes c.args.words.now) unknown)

pub returns-in-Ok : goal.returns-in-Ok
returns-in-Ok c =
    let rows = c.in-Ok.ensures.rows in
    let known = list_all-map is_known string_bytes c.args.words.now ∙ sym c.are_known.ensures ∙ c.if-not-are_known.false in
    taken_is (map string_bytes c.args.words.now) c.options_of.result known c.in-Ok.ensures.faults
    (rw rows at c.options_of.ensures.quiet) (rw rows at c.options_of.ensures.heard) (rw rows at c.options_of.ensures.budget)

pub returns : goal.returns
returns c =
    let known = list_all-map is_known string_bytes c.args.words.now ∙ sym c.are_known.ensures ∙ c.if-not-are_known.false in
    refused_is (map string_bytes c.args.words.now) c.in-Err.error known c.in-Err.ensures.faults (λ e. c.in_default.not-OutOfMemory (c.kind.ensures ∙ e))
