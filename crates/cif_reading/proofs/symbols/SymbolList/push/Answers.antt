use Rattle.cif_reading.proofs.Common.{◌∷◌, ◌++◌, [], ℤ, FitsSigned, rules, sym, ap, ◌∙◌, if◌then◌else◌, w64, list_any, int_eq, to_z-of_z, CifSymbol}
use Rattle.std.proofs.Common.{to_z, of_z}
use Rattle.cif_reading.specs.Drafts.{has_symbol}
use Rattle.cif_reading.proofs.PlaceLaws.{numbers_of, numbers-push}
use Rattle.cif_reading.proofs.symbols.SymbolList.push.Goals as goal

pub invariant_of-self-in-Ok : goal.invariant_of-self-in-Ok
invariant_of-self-in-Ok c =
    let n = c.args.number in
    let inside = c.self.inside in
    let fits : FitsSigned w64 n = search rules in
    let same = to_z-of_z w64 n fits in
    let symbol : CifSymbol = record { number = to_z w64 (of_z w64 n); items = c.of.result } in
    let keys = inside.numbers.keys in
    c.in-Ok.ensures.keys
    ∙ (ap (λ (m : ℤ). if list_any (int_eq m) keys then keys else keys ++ m ∷ []) same
    ∙ (numbers-push n keys inside.entries.items symbol c.self.invariant (ap (has_symbol n) c.self.view_is ∙ c.requires) same
    ∙ ap numbers_of (sym c.in_ok-push.ensures.items)))
