use Rattle.tile_plane.proofs.Common.{◌≡◌, ℕ, Option, Some, None, refl, subst, IfSome, MatchOption, Square, Rect, IsBox, Contents, value_in, value_at}
use Rattle.std.specs.Prelude.{◌↔◌, IsNone}
use Rattle.tile_plane.proofs.tile_planes.TilePlanePlane.box_of.Goals as goal

none_if_space : (values : Square → ℕ) (found : Option Rect) → MatchOption found ((square : Square) → values square ≡ 0) (IsBox values)
    → IsNone found ↔ ((square : Square) → values square ≡ 0)
none_if_space values None space = ((λ none. space), λ all. refl)
none_if_space values (Some box) is = ((λ none. cc), λ all. absurd (is.material (all is.square)))

smallest : (values : Square → ℕ) (found : Option Rect) → MatchOption found ((square : Square) → values square ≡ 0) (IsBox values) → IfSome found (IsBox values)
smallest values None space = tt
smallest values (Some box) is = is

pub returns-clause-none : goal.returns-clause-none
returns-clause-none c =
    subst (λ (held : Contents). IsNone c.box_of.result ↔ ((square : Square) → value_in held square ≡ 0)) c.self.view_is
    (none_if_space (value_at c.self.inside.first.store) c.box_of.result c.box_of.ensures.smallest)

pub returns-clause-smallest : goal.returns-clause-smallest
returns-clause-smallest c =
    subst (λ (held : Contents). IfSome c.box_of.result (IsBox (value_in held))) c.self.view_is
    (smallest (value_at c.self.inside.first.store) c.box_of.result c.box_of.ensures.smallest)
