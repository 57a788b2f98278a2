use Rattle.cif_reading.proofs.Common.{◌≡◌, ℤ, FitsSigned, rules, ap, subst, ◌∙◌, w64, list_any, position, int_eq, to_z-of_z, CifSymbol}
use Rattle.std.specs.Prelude.{IfSome, List}
use Rattle.cif_reading.specs.Drafts.{has_symbol, symbol_place}
use Rattle.cif_reading.proofs.PlaceLaws.{among_numbers, symbol-found}
use Rattle.cif_reading.proofs.symbols.SymbolList.find.Goals as goal

pub returns-clause-found : goal.returns-clause-found
returns-clause-found c =
    let n = c.args.n in
    let inside = c.self.inside in
    let fits : FitsSigned w64 n = search rules in
    c.get_index_of.ensures.found
    ∙ (ap (λ (m : ℤ). list_any (int_eq m) inside.numbers.keys) (to_z-of_z w64 n fits)
    ∙ (ap (list_any (int_eq n)) c.self.invariant
    ∙ (among_numbers n inside.entries.items ∙ ap (has_symbol n) c.self.view_is)))

pub returns-clause-place : goal.returns-clause-place
returns-clause-place c =
    let n = c.args.n in
    let inside = c.self.inside in
    let fits : FitsSigned w64 n = search rules in
    let found = c.get_index_of.ensures.index ∙ ap (λ (m : ℤ). position (int_eq m) inside.numbers.keys) (to_z-of_z w64 n fits) in
    subst (λ (symbols : List CifSymbol). IfSome c.get_index_of.result (λ place. place ≡ symbol_place n symbols)) c.self.view_is
    (symbol-found c.get_index_of.result n inside.numbers.keys inside.entries.items found c.self.invariant)
