use Rattle.cif_reading.proofs.Common.{◌≡◌, ◌++◌, ◌∷◌, [], List, ℕ, false, sym, ap, ◌∙◌, list_any, bytes_eq, with_layer}
use Rattle.cif_reading.proofs.PlaceLaws.{names-push}
use Rattle.cif_reading.proofs.layers.LayerList.push.Goals as goal

pub invariant_of-self-in-Ok : goal.invariant_of-self-in-Ok
invariant_of-self-in-Ok c =
    let name = c.args.name.now in
    let inside = c.self.inside in
    let new : list_any (bytes_eq name) inside.entries.items ≡ false = ap (list_any (bytes_eq name)) c.self.view_is ∙ c.requires in
    c.in-Ok.ensures.names
    ∙ (ap (λ (bytes : List ℕ). with_layer bytes inside.names) c.bytes.ensures
    ∙ (names-push name inside.names inside.entries.items c.self.invariant new
    ∙ (ap (λ (bytes : List ℕ). inside.entries.items ++ bytes ∷ []) (sym c.in_ok-copy.ensures) ∙ sym c.in_ok-push.ensures.items)))
