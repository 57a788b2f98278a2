use Rattle.tile_plane.proofs.Common.{refl, subst, Tiles, IsPut}
use Rattle.tile_plane.proofs.FirstLaws.{first_plane, first_taken, first_values}
use Rattle.tile_plane.proofs.sheets.Sheet.new.Goals as goal

pub returns-clause-sheet : goal.returns-clause-sheet
returns-clause-sheet c =
    let tiles = c.insert.new.self in
    let id = c.in-Ok.hint in
    let put = subst (λ (v : Tiles). IsPut id _ v tiles) c.new-store.ensures c.in-Ok.ensures.put in
    record { plane = first_plane tiles id _ put refl refl; taken = first_taken tiles id _ put refl }

pub returns-clause-space : goal.returns-clause-space
returns-clause-space c =
    let tiles = c.insert.new.self in
    let id = c.in-Ok.hint in
    let put = subst (λ (v : Tiles). IsPut id _ v tiles) c.new-store.ensures c.in-Ok.ensures.put in
    first_values tiles id _ put refl refl
